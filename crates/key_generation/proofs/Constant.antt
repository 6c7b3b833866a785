-- Why a key's constant is minus the value of the key with 0 in its place: that value is the sum over the other terms.
--
--   given_ok              what holds of an Ok, where no refusal is told
--   terms_fit             the octets of the terms and of a constant 0: each coefficient is below q
--   constant_octets       the key's octets, once the constant's are written over those of 0
--   constant_placed       an element's negative, written behind the octets of the terms
-- Assumes nothing.
use Prim.Native.Nat.{ℕ, ◌+◌, ◌-◌, ◌*◌, ◌%◌, ◌≤◌, ◌<◌}
use native.Mathlib.Nat.{add-zero}
use native.Mathlib.Omega.{arith}
use mathlib.Core.Path.{◌≡◌, sym, ap, ap₂, ◌∙◌}
use mathlib.Core.Bool.{true}
use mathlib.Core.List.{List, ◌++◌}
use lib.ListN.{length, get_or, take, replicate, length-append, length-replicate, get_or-replicate}
use lib.Seq.{take_at}
use borrow.Rule.Slice.PartMut.{mid_of, put_mid}
use Rattle.definitions.specs.Sequences.{tabulate}
use Rattle.definitions.specs.Parameters.{Parameters, qlen, monomial_count}
use Rattle.definitions.specs.Ring.{Element, element_of}
use Rattle.definitions.specs.Monomials.{polynomial_of, value_over, value}
use Rattle.definitions.specs.Octets.{encoded}
use Rattle.definitions.specs.Calls.{polynomial_in, polynomial_from, elements_fit, key_constant}
use Rattle.definitions.proofs.Sums.{tabulate_cong}
use Rattle.definitions.proofs.Parameters.{Accepted, modulus_positive}
use Rattle.definitions.proofs.Octets.{AllBelow, length-encoded, encoded-append}
use Rattle.definitions.proofs.Values.{value_cong_secret}
use Rattle.definitions.proofs.KeyTerms.{key_fits, key-value}
use Rattle.std.specs.Prelude.{Result, Ok, Err, OnOk}
use Rattle.parameters.specs.declared.refusals.Refusal.{Refusal}
use Rattle.parameters.specs.Refusals.{number_in}
use Rattle.parameters.proofs.Answers.{refusal-some}
use Rattle.ring.specs.Work.{part, negated}
use Rattle.ring.proofs.Work.{written-part}
use Rattle.key_generation.specs.Keys.{with_constant}
use Rattle.key_draws.proofs.Parts.{put_tail}

pub given_ok : {A P : Type 0} (outcome : Result A Refusal) → number_in outcome ≡ 0 → OnOk outcome P → P
given_ok (Ok a) none given = given
given_ok (Err refusal) none given = absurd (refusal-some refusal none)

module _ (p : Parameters) (a : Accepted p) (others : List ℕ) (sized : length others ≡ (monomial_count p.dx - 1) * p.n) (below : AllBelow p.q others) where
  abbrev zeros : List ℕ
  zeros = replicate p.n 0

  abbrev octets : List ℕ
  octets = encoded (qlen p.q) (others ++ zeros)

  zeros_long : length zeros ≡ p.n
  zeros_long = length-replicate {A = ℕ} p.n 0

  zero_at : (k : ℕ) → k < p.n → get_or zeros k 0 ≡ 0
  zero_at k l = get_or-replicate {A = ℕ} p.n k 0 0 l

  zeros_below : AllBelow p.q zeros
  zeros_below k l = rw (zero_at k (rw zeros_long at l)) (modulus_positive p a)

  pub terms_fit : {public : List ℕ} → public ≡ octets → elements_fit p (monomial_count p.dx) public ≡ true
  terms_fit same = rw same (key_fits p others zeros sized zeros_long a below zeros_below)

  terms-value : (ux uy : Element) (k : ℕ) → k < p.n
      → value p.n p.dx (polynomial_from p octets) ux uy k
      ≡ value_over (monomial_count p.dx - 1) p.n p.dx (polynomial_of p.n others) ux uy k
  terms-value ux uy k s = rw (key-value p others zeros sized zeros_long a below zeros_below ux uy k s, zero_at k s, add-zero)

  front : take (length octets - p.n * qlen p.q) octets ≡ encoded (qlen p.q) others
  front =
      let long : length (encoded (qlen p.q) others) ≡ length octets - p.n * qlen p.q =
      omega (
        arith,
        length-encoded (qlen p.q) others,
        length-encoded (qlen p.q) (others ++ zeros),
        ap (λ (x : ℕ). x * qlen p.q) (length-append others zeros),
        ap (λ (x : ℕ). x * qlen p.q) zeros_long,
      ) in
      ap (take (length octets - p.n * qlen p.q)) (encoded-append (qlen p.q) others zeros)
      ∙ take_at (encoded (qlen p.q) others) _ _ long

  pub constant_octets : {public : List ℕ} (work ux uy : List ℕ) → public ≡ octets
      → ((k : ℕ) → k < p.n → part work 0 k ≡ element_of ux k) → ((k : ℕ) → k < p.n → part work p.n k ≡ element_of uy k)
      → with_constant p.dx p.n (qlen p.q) p.q public work
      ≡ encoded (qlen p.q) (others ++ tabulate p.n (key_constant p others (element_of ux) (element_of uy)))
  unfolding key_constant
  constant_octets work ux uy same hx hy =
      rw same
      (ap₂ ◌++◌ front
      (ap (encoded (qlen p.q))
      (tabulate_cong p.n (λ k s.
      ap (λ (v : ℕ). (p.q - v % p.q) % p.q)
      (value_cong_secret p.n p.dx (polynomial_from p octets) hx hy k ∙ terms-value (element_of ux) (element_of uy) k s))))
      ∙ sym (encoded-append (qlen p.q) others _))

-- the value's negative, as `negate` and `encode` leave it, over the octets of the constant
pub constant_placed : (d n len q : ℕ) (public work old new last : List ℕ) → 2 * n ≤ length work
    → ((k : ℕ) → k < n → part work (2 * n) k ≡ value n d (polynomial_in n len public) (part old 0) (part old n) k % q)
    → new ≡ negated n q (2 * n) work
    → length last ≡ length (mid_of (length public - n * len) (length public - (length public - n * len)) public)
    → last ≡ encoded len (mid_of (2 * n) (2 * n + n - 2 * n) new)
    → put_mid (length public - n * len) (length public - (length public - n * len)) public last ≡ with_constant d n len q public old
constant_placed d n len q public work old new last room h negative same made =
    put_tail (length public - n * len) public last (omega arith) same
    ∙ ap (λ (l : List ℕ). take (length public - n * len) public ++ l)
    (made ∙ rw (negative, written-part (2 * n) n _ work room)
    (ap (encoded len) (tabulate_cong n (λ k l. ap (λ (x : ℕ). (q - x) % q) (h k l)))))
