-- A test of each number in a range is the test at every place: the first and the rest, or those before and the last.
-- Assumes nothing.
use Prim.Native.Nat.{ℕ, zero, suc, ◌+◌}
use native.Mathlib.Nat.{add-zero}
use native.Mathlib.Omega.{arith}
use mathlib.Core.Path.{◌≡◌, refl, sym, ap, ◌∙◌}
use mathlib.Core.Bool.{Bool, true, false, ◌&&◌}
use Rattle.std.proofs.Math.Bool.{and_assoc}
use Rattle.std.specs.List.{list_all, range_with_len}
use Rattle.definitions.specs.Sequences.{every}
use Rattle.definitions.proofs.Sums.{every_cong}

every-first : (n : ℕ) (f : ℕ → Bool) → every (suc n) f ≡ (f 0 && every n (λ k. f (suc k)))
unfolding every
every-first zero f = elim (f 0) as (λ b. (true && b) ≡ (b && true)) [ true ↦ refl | false ↦ refl ]
every-first (suc n) f =
    ap (λ (b : Bool). b && f (suc n)) (every-first n f) ∙ and_assoc (f 0) (every n (λ k. f (suc k))) (f (suc n))

pub range-every : (test : ℕ → Bool) (from n : ℕ) → list_all test (range_with_len from n) ≡ every n (λ k. test (from + k))
range-every test from zero = unfold every in refl
range-every test from (suc n) =
    ap (λ (b : Bool). test from && b)
    (range-every test (from + 1) n ∙ every_cong n (λ k l. ap test (omega arith)))
    ∙ ap (λ (j : ℕ). test j && every n (λ k. test (from + suc k))) (sym (add-zero from))
    ∙ sym (every-first n (λ k. test (from + k)))
