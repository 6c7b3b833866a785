-- What the drawn mask gives: octets inside the random octets, elements in R_q, and the ciphertext of the definitions.
--
--   mask-within      the octets of the mask are random octets
--   MaskDrawn        the mask stands in the first parts of the work words; start is where the noise begins in the random octets, and so many
--                    groups were dropped before it
--   mask-told        what a complete run tells;  mask_lent: what a run into the first parts leaves there
--   drawn_inputs     the judged key and the drawn mask are what the elements are taken from
--   noise_lent, noise_enough   the octets that are left for the noise;  small_most: an element of it takes few
--   used-counted     the octets that are taken, counted from the lengths
--   ciphertext-same  the ciphertext from the mask in the work words is that from the drawn mask
-- Assumes nothing.
use Prim.Native.Nat.{ℕ, ◌+◌, ◌-◌, ◌*◌, ◌≤◌}
use native.Mathlib.Nat.{mul-le-mul}
use native.Mathlib.Omega.{arith}
use mathlib.Core.Path.{◌≡◌, sym, ◌∙◌, ap}
use mathlib.Core.Bool.{true}
use mathlib.Core.List.{List}
use lib.Arith.{digits_lt}
use Rattle.std.specs.Prelude.{Result, Ok}
use lib.ListN.{length, get_or, take, drop, length-take, length-drop}
use lib.Seq.{take_at, take_all, get_or-take}
use borrow.Rule.Slice.PartMut.{put_mid}
use Rattle.definitions.specs.Parameters.{Parameters, degree, small_bits, qlen, monomial_count, small_length, public_length, work_length}
use Rattle.definitions.specs.Monomials.{polynomial_of}
use Rattle.definitions.specs.Draws.{Drawn, draws_below}
use Rattle.definitions.specs.Calls.{elements_fit, small_of, polynomial_from, octets_from, mask_coefficients, mask_draws, noise_of, encrypted_with, mask_used, encrypt_used}
use Rattle.definitions.specs.Demand3.{AcceptedSet}
use Rattle.definitions.proofs.Parameters.{Accepted, accepted-set, mask-degree-most}
use Rattle.definitions.proofs.Octets.{octets_from_cong}
use Rattle.definitions.proofs.Draws.{draws_below-values, draws_below-length, draws_below-within}
use Rattle.parameters.proofs.Bounds.{small_bits-within}
use Rattle.draws.specs.declared.Run.{Run}
use Rattle.parameters.specs.declared.refusals.Refusal.{Refusal}
use Rattle.draws.specs.Runs.{said, drawn_answer}
use Rattle.draws.proofs.Runs.{said_complete}
use Rattle.mask_products.specs.Products.{mask_in, KeyAndMask}
use Rattle.definitions.proofs.Monomials.{count-six}
use Rattle.ciphertext_elements.specs.Elements.{encrypted_from}
use Rattle.ciphertext_elements.proofs.Ciphertext.{SameUpTo, encrypted_with_cong}

pub record MaskDrawn (p : Parameters) (random : List ℕ) (start dropped : ℕ) (work : List ℕ) : Type 0 where
  pub enough : (mask_draws p random).enough ≡ true
  pub values : take (mask_coefficients p) work ≡ (mask_draws p random).values
  pub taken : start ≡ mask_used p random
  pub counted : dropped ≡ (mask_draws p random).dropped

pub mask-within : {p : Parameters} {random work : List ℕ} {start dropped : ℕ} → MaskDrawn p random start dropped work → start ≤ length random
unfolding mask_used mask_draws
mask-within {p} {random} drawn = omega (arith, drawn.taken, draws_below-within p.q (mask_coefficients p) random)

-- a run into the first parts of the work words
pub mask_lent : (p : Parameters) (random old new : List ℕ) (outcome : Result Run Refusal) {count : ℕ} → count ≡ monomial_count p.dr → count * p.n ≤ length old
    → length new ≡ length (take (count * p.n) old)
    → said outcome new ≡ drawn_answer (draws_below p.q (length (take (count * p.n) old)) random)
    → said outcome (take (mask_coefficients p) (put_mid 0 (count * p.n) old new)) ≡ drawn_answer (mask_draws p random)
unfolding mask_draws
mask_lent p random old new outcome {count} e room sized told =
    let words : length (take (count * p.n) old) ≡ mask_coefficients p = simp length-take (omega (arith, ap (λ (c : ℕ). c * p.n) e)) in
    let front : take (mask_coefficients p) (put_mid 0 (count * p.n) old new) ≡ new =
    take_at new (drop (count * p.n) (drop 0 old)) (mask_coefficients p) (sized ∙ words) in
    rw front (told ∙ ap (λ (c : ℕ). drawn_answer (draws_below p.q c random)) words)

pub mask-told : (p : Parameters) (random work : List ℕ) {outcome : Result Run Refusal} {run : Run} {width : ℕ} → outcome ≡ Ok run
    → said outcome (take (mask_coefficients p) work) ≡ drawn_answer (mask_draws p random) → width ≡ qlen p.q
    → MaskDrawn p random (width * run.groups) run.dropped work
unfolding mask_used
mask-told p random work {run = run} e told w =
    let d = said_complete (mask_draws p random) (take (mask_coefficients p) work) e told in
    record {
      enough = ap (λ (x : Drawn ℕ). x.enough) d;
      values = sym (ap (λ (x : Drawn ℕ). x.values) d);
      taken = ap (λ (x : ℕ). x * run.groups) w ∙ sym (ap (λ (x : Drawn ℕ). qlen p.q * x.groups) d);
      counted = sym (ap (λ (x : Drawn ℕ). x.dropped) d);
    }

-- the mask in the work words is the drawn one
mask-same : (p : Parameters) (work values : List ℕ) → p.dr ≤ 2 → take (mask_coefficients p) work ≡ values
    → SameUpTo (monomial_count p.dr) p.n (mask_in p work) (polynomial_of p.n values)
unfolding polynomial_of
mask-same p work values low e j l k b =
    get_or-take (6 * p.n) work (j * p.n + k) 0 (digits_lt (omega (arith, count-six p.dr low)) b)
    ∙ sym (get_or-take (mask_coefficients p) work (j * p.n + k) 0 (digits_lt l b))
    ∙ ap (λ (w : List ℕ). get_or w (j * p.n + k) 0) e

module _ {p : Parameters} {random work : List ℕ} {start dropped : ℕ} (accepted : AcceptedSet p) (drawn : MaskDrawn p random start dropped work)
  where
    set : Accepted p
    set = accepted-set p accepted

    pub drawn_inputs : {public : List ℕ} → length public ≡ public_length p → elements_fit p (monomial_count p.dx) public ≡ true → length work ≡ work_length p
        → KeyAndMask p public work
    unfolding mask_draws polynomial_of
    drawn_inputs public-exact fits work-exact =
        let run = draws_below p.q (mask_coefficients p) random in
        record {
          set = accepted;
          public-exact = public-exact;
          fits = fits;
          work-exact = work-exact;
          mask = λ j l k b.
              rw (mask-same p work run.values (mask-degree-most p set) drawn.values j l k b)
              (draws_below-values p.q (mask_coefficients p) random (j * p.n + k)
              (rw (draws_below-length p.q (mask_coefficients p) random drawn.enough) (digits_lt l b)));
        }

    -- the octets that encryption takes, counted from the lengths
    pub used-counted : {count small : ℕ} → count ≡ monomial_count (degree p) → small ≡ small_length p → start + count * small ≡ encrypt_used p random
    unfolding encrypt_used
    used-counted e f = rw (e, f) (ap (λ (x : ℕ). x + monomial_count (degree p) * small_length p) drawn.taken)

    -- the ciphertext of the definitions, from the mask in the work words
    pub ciphertext-same : (public message noise : List ℕ) → noise ≡ drop start random
        → encrypted_from p public message noise work
        ≡ octets_from p (degree p)
        (encrypted_with p (polynomial_from p public) (small_of p message) (polynomial_of p.n (mask_draws p random).values) (noise_of p (drop (mask_used p random) random)))
    ciphertext-same public message noise e =
        rw (e, ← drawn.taken)
        (octets_from_cong p (degree p) (λ i l k b.
        encrypted_with_cong p (polynomial_from p public) (small_of p message) (noise_of p (drop start random)) (mask-same p work _ (mask-degree-most p set) drawn.values) i k))

-- the octets that are left for the noise
pub noise_lent : (random : List ℕ) {start : ℕ} → start ≤ length random → take (length random - start) (drop start random) ≡ drop start random
noise_lent random {start} l = take_all (length random - start) (drop start random) (omega (arith, length-drop start random))

pub noise_enough : (p : Parameters) (random : List ℕ) (start : ℕ) {count small : ℕ} → count ≡ monomial_count (degree p) → small ≡ small_length p
    → start + count * small ≤ length random → monomial_count (degree p) * small_length p ≤ length (take (length random - start) (drop start random))
noise_enough p random start {count} {small} e f l =
    rw (← e, ← f, noise_lent random {start = start} (omega arith)) (omega (arith, length-drop start random))

-- an element of the noise takes few octets
pub small_most : (p : Parameters) → Accepted p → small_length p ≤ 4096
unfolding small_length
small_most p a =
    let h : p.n * small_bits p.l ≤ 4096 * 4 = mul-le-mul a.ring_most (small_bits-within p.l).most in
    omega arith
