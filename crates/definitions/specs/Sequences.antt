-- What 01 takes for granted: sums, tests at every place, and lists given place by place.
--
--   sum n f          f 0 + f 1 + .. + f (n - 1)
--   every n f        whether the test f holds at each of 0 .. n - 1
--   how_many n f      at how many of 0 .. n - 1 the test f holds
--   tabulate n f     the list f 0, f 1, .., f (n - 1)
--   joined           the lists of a list, end to end
--   same_number       1 where two numbers are equal, otherwise 0
-- Assumes nothing.
use Rattle.std.specs.Prelude.{ℕ, zero, suc, ◌+◌, Bool, true, cond, ◌&&◌, List, [], ◌∷◌, ◌++◌, eqb}

unfoldable pub sum : ℕ → (ℕ → ℕ) → ℕ
sum zero f = 0
sum (suc n) f = sum n f + f n

unfoldable pub every : ℕ → (ℕ → Bool) → Bool
every zero f = true
every (suc n) f = every n f && f n

unfoldable pub how_many : ℕ → (ℕ → Bool) → ℕ
how_many n f = sum n (λ k. cond (f k) 1 0)

unfoldable pub tabulate : {A : Type 0} → ℕ → (ℕ → A) → List A
tabulate zero f = []
tabulate (suc n) f = f zero ∷ tabulate n (λ i. f (suc i))

unfoldable pub joined : List (List ℕ) → List ℕ
joined [] = []
joined (l ∷ ls) = l ++ joined ls

abbrev pub same_number : ℕ → ℕ → ℕ
same_number i k = cond (eqb i k) 1 0
