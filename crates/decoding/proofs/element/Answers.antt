-- `decoding::element` decodes the element's octets into a part of the work words.
-- Assumes nothing.
use Rattle.std.proofs.Common.{◌≡◌, ℕ, ◌+◌, ◌-◌, ◌*◌, List, take, length, drop, ap, ◌∙◌, arith}
use mathlib.Core.Path.{ap₂}
use Rattle.definitions.specs.Octets.{decoded}
use Rattle.definitions.proofs.Octets.{length-decoded}
use Rattle.definitions.proofs.Filling.{length_borrowed}
use Rattle.ring.specs.Work.{written}
use Rattle.ring.proofs.Borrowed.{put_mid_written}
use Rattle.decoding.proofs.Elements.{decoded_element}
use Rattle.decoding.proofs.element.Goals as goal

pub returns : goal.returns
returns c =
    let a = c.args in
    let p = c.requires in
    let e : a.element * a.n * a.qlen + a.n * a.qlen - a.element * a.n * a.qlen ≡ a.n * a.qlen = omega arith in
    let from : List ℕ = drop (a.element * a.n * a.qlen) a.octets.now in
    let given : c.decode.new.words ≡ decoded a.qlen a.n (take (a.n * a.qlen) from) =
    c.decode.ensures ∙ ap₂ (λ (m k : ℕ). decoded a.qlen m (take k from)) (length_borrowed a.at a.n a.work.now p.3) e in
    put_mid_written a.at a.n a.work.now _ (ap length given ∙ length-decoded _ _ _)
    ∙ ap (λ (l : List ℕ). written a.at l a.work.now) (given ∙ decoded_element a.qlen a.n a.element a.octets.now p.2)
