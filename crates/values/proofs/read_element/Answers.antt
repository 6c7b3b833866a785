-- `read_element` reads the coefficients from the element's first octet on into a part of the work words.
-- Assumes nothing.
use Rattle.std.proofs.lemmas.Result.{on_ok_weaker}
use Rattle.std.proofs.Common.{◌≡◌, ℕ, ◌+◌, ◌-◌, ◌*◌, List, length, take, drop, length-drop, ap, ap₂, ◌∙◌, arith}
use lib.Seq.{take_all}
use Rattle.definitions.specs.Sequences.{tabulate}
use Rattle.definitions.specs.Octets.{decoded}
use Rattle.definitions.specs.Calls.{polynomial_in}
use Rattle.definitions.proofs.Sums.{length-tabulate}
use Rattle.definitions.proofs.Filling.{length_borrowed}
use Rattle.ring.specs.Work.{written}
use Rattle.ring.proofs.Borrowed.{put_mid_written}
use Rattle.decoding.proofs.Elements.{decoded-drop}
use Rattle.judging.specs.Reading.{fit_number}
use Rattle.values.proofs.Loops.{placed-written}
use Rattle.values.proofs.read_element.Goals as goal
use Rattle.values.proofs.read_element.Goals.{After-read}

-- the octets from the element on are lent whole, and the coefficients there are the element's
coefficients : (c : After-read) → let a = c.args in
    decoded a.qlen (length (take (a.at + a.n - a.at) (drop a.at a.work.now)))
    (take (length a.octets.now - a.element * a.n * a.qlen) (drop (a.element * a.n * a.qlen) a.octets.now))
    ≡ tabulate a.n (polynomial_in a.n a.qlen a.octets.now a.element)
coefficients c =
    let a = c.args in
    let from : ℕ = a.element * a.n * a.qlen in
    ap₂ (decoded a.qlen) (length_borrowed a.at a.n a.work.now c.requires.3)
    (take_all (length a.octets.now - from) (drop from a.octets.now) (simp length-drop (omega arith)))
    ∙ decoded-drop a.qlen a.n a.element a.octets.now

pub returns-clause-judged : goal.returns-clause-judged
unfolding fit_number
returns-clause-judged c = c.read.ensures.judged ∙ ap (fit_number c.args.q) (coefficients (goal.at.returns-clause-judged c).After-read)

pub returns-clause-placed : goal.returns-clause-placed
returns-clause-placed c =
    let a = c.args in
    on_ok_weaker c.read.result
    (λ filled.
    let words : c.read.new.words ≡ tabulate a.n (polynomial_in a.n a.qlen a.octets.now a.element) =
    filled ∙ coefficients (goal.at.returns-clause-placed c).After-read in
    placed-written a.work.now c.requires.3
    (put_mid_written a.at a.n a.work.now _ (ap length words ∙ length-tabulate a.n _)
    ∙ ap (λ (l : List ℕ). written a.at l a.work.now) words))
    c.read.ensures.read
