-- How large b can be, whatever ℓ is, and the limits that tests 2 and 3 give.
--
--   Within               least ≤ x ≤ most
--   small_bits-within     b is 1 to 4, for every ℓ
--   one_or_two-leb         1 and 2 are the numbers from 1 to 2
--   ring_fits-within, degree_fits-within     the limits of n, and of dX and dr
-- Assumes nothing.
use Prim.Native.Nat.{ℕ, zero, suc, ◌≤◌}
use native.Mathlib.Omega.{arith}
use mathlib.Core.Path.{◌≡◌, refl}
use mathlib.Core.Bool.{Bool, true, false, cond, ◌&&◌}
use lib.Dec.{eqb, leb}
use borrow.Author.Tests.{leb-true, le-leb, lt-leb, ne_eqb}
use Rattle.definitions.specs.Parameters.{Parameters, one_or_two, small_bits, ring_fits, degree_fits}
use Rattle.definitions.proofs.Tests.{both_true}

pub record Within (low high x : ℕ) : Type 0 where
  pub least : low ≤ x
  pub most : x ≤ high

cond-within : {low high : ℕ} (t : Bool) {x y : ℕ} → Within low high x → Within low high y → Within low high (cond t x y)
cond-within true a b = a
cond-within false a b = b

pub small_bits-within : (l : ℕ) → Within 1 4 (small_bits l)
unfolding small_bits
small_bits-within l =
    cond-within (eqb l 2) (omega arith)
    (cond-within (eqb l 4) (omega arith) (cond-within (eqb l 8) (omega arith) (omega arith)))

pub one_or_two-leb : (d : ℕ) → one_or_two d ≡ (leb 1 d && leb d 2)
one_or_two-leb zero = refl
one_or_two-leb (suc zero) = refl
one_or_two-leb (suc (suc zero)) = refl
one_or_two-leb (suc (suc (suc d))) =
    let x = suc (suc (suc d)) in
    simp
    (ne_eqb x 1 (λ h. omega arith), ne_eqb x 2 (λ h. omega arith), le-leb 1 x (omega arith), lt-leb x 2 (omega arith))

leb-within : (low high x : ℕ) → (leb low x && leb x high) ≡ true → Within low high x
leb-within low high x e =
    let both = both_true (leb low x) (leb x high) e in
    record { least = leb-true low x both.0; most = leb-true x high both.1 }

pub ring_fits-within : (p : Parameters) → ring_fits p ≡ true → Within 2 4096 p.n
unfolding ring_fits
ring_fits-within p e = leb-within 2 4096 p.n e

pub degree_fits-within : (p : Parameters) → degree_fits p ≡ true → Within 1 2 p.dx × Within 1 2 p.dr
unfolding degree_fits
degree_fits-within p e =
    let both = both_true _ _ (rw (one_or_two-leb p.dx, one_or_two-leb p.dr) at e) in
    (leb-within 1 2 p.dx both.0, leb-within 1 2 p.dr both.1)
