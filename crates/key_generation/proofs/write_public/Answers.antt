-- `write_public` is right because the constant is minus the value of the terms, whose octets stand before it.
-- Assumes nothing.
use Rattle.std.proofs.Common.{ℕ, ◌≡◌, ◌+◌, ◌-◌, ◌*◌, List, ◌++◌, length, refl, sym, ap, ◌∙◌, arith}
use native.Mathlib.Nat.{zero-add}
use lib.ListN.{replicate}
use lib.Seq.{length-slice}
use borrow.Rule.Slice.PartMut.{mid_of, put_mid}
use Rattle.definitions.specs.Parameters.{qlen, monomial_count, elements_length, public_length}
use Rattle.definitions.specs.Octets.{encoded}
use Rattle.definitions.specs.Calls.{elements_fit, decoded_elements}
use Rattle.definitions.proofs.Parameters.{Accepted, accepted-set, modulus-least, key-degree-most}
use Rattle.definitions.proofs.Octets.{AllBelow, coefficients_fit-below}
use Rattle.parameters.specs.Answers.{set_from}
use Rattle.key_draws.specs.Keys.{terms_end, words_x, words_y, words_terms}
use Rattle.key_generation.proofs.Constant.{terms_fit, constant_octets}
use Rattle.key_draws.proofs.Words.{terms_end-room}
use Rattle.key_generation.proofs.Words.{TermsLent, set_sizes, terms_cleared, half_at, half_ring}
use Rattle.key_generation.proofs.write_public.Goals as goal
use Rattle.key_generation.proofs.write_public.Goals.{After-clear}

set : (c : After-clear) → Accepted (set_from c.args.p)
set c = accepted-set _ c.args.p.accepted

terms-sized : (c : After-clear) → length (words_terms (set_from c.args.p) c.args.work.now) ≡ (monomial_count c.args.p.set.dx - 1) * c.args.p.set.n
terms-sized c =
    let p = set_from c.args.p in
    length-slice (p.n + p.n) (terms_end p) c.args.work.now (omega (arith, terms_end-room p (set c), c.requires.0.sized)) ∙ omega arith

terms-below : (c : After-clear) → AllBelow c.args.p.set.q (words_terms (set_from c.args.p) c.args.work.now)
terms-below c = coefficients_fit-below _ _ c.requires.0.terms

-- the work words with the constant's cleared, and what of them is lent to be encoded
abbrev given : After-clear → List ℕ
given c =
    let stop = c.terms_end-stop.result in
    put_mid stop (stop + c.args.p.set.n - stop) c.args.work.now c.clear.new.work

terms : (c : After-clear)
    → (let n = c.args.p.set.n in
    TermsLent (set_from c.args.p) c.args.work.now (given c) (mid_of (n + n) (c.terms_end-stop.result + n - (n + n)) (given c)))
terms c =
    terms_cleared (set_from c.args.p) c.args.work.now c.clear.new.work c.terms_end-stop.ensures.0
    (omega (arith, c.requires.0.sized, c.terms_end-stop.ensures.1)) c.clear.auto.work c.clear.ensures

octets : (c : After-clear) {public : List ℕ}
    → (let n = c.args.p.set.n in
    public ≡ encoded c.octets_of_coefficient-qlen.result (mid_of (n + n) (c.terms_end-stop.result + n - (n + n)) (given c))
    → public ≡ encoded (qlen c.args.p.set.q) (words_terms (set_from c.args.p) c.args.work.now ++ replicate n 0))
octets c made = (rw c.octets_of_coefficient-qlen.ensures at made) ∙ ap (encoded _) (terms c).words

pub encode-requires : goal.encode-requires
unfolding public_length elements_length
encode-requires c =
    let k = (goal.at.encode-requires c).After-clear in
    let sizes = set_sizes (set_from c.args.p) (set k) c.args.work.now c.requires.0.sized in
    rw c.octets_of_coefficient-qlen.ensures
    (sizes.octets-least, sizes.octets-most, c.requires.1 ∙ ap (λ (m : ℕ). m * qlen c.args.p.set.q) (sym (terms k).many))

pub write_constant-requires : goal.write_constant-requires
unfolding public_length elements_length elements_fit decoded_elements
write_constant-requires c =
    let k = (goal.at.write_constant-requires c).After-clear in
    let p = set_from c.args.p in
    let ring = half_ring p (set k) in
    let w = c.args.work.now in
    rw c.octets_of_coefficient-qlen.ensures (record {
      sizes = (
        set_sizes p (set k) (given k) ((terms k).as_long ∙ c.requires.0.sized),
        omega (arith, key-degree-most p (set k)),
        c.encode.auto.octets ∙ c.requires.1,
        omega (arith, modulus-least p (set k)),
        omega (arith, (set k).modulus-most),
      );
      fit = (
        terms_fit p (set k) (words_terms p w) (terms-sized k) (terms-below k) (octets k c.encode.ensures),
        ring 0 p.n w (given k) (sym (zero-add p.n)) (omega arith) (terms k).kept c.requires.0.x,
        ring p.n (p.n + p.n) w (given k) refl (omega arith) (terms k).kept c.requires.0.y,
      );
    })

pub returns : goal.returns
returns c =
    let k = (goal.at.returns c).After-clear in
    let p = set_from c.args.p in
    let w = c.args.work.now in
    let at = half_at p (set k) in
    (rw c.octets_of_coefficient-qlen.ensures at c.write_constant.ensures)
    ∙ constant_octets p (set k) (words_terms p w) (terms-sized k) (terms-below k) (given k) (words_x p w) (words_y p w) (octets k c.encode.ensures)
    (at 0 p.n w (given k) (sym (zero-add p.n)) (omega arith) (terms k).kept) (at p.n (p.n + p.n) w (given k) refl (omega arith) (terms k).kept)
