-- 02, Q-8: what is asked of a × b + c as a call, a witness for it, and rows.
--
--   RingElements     three lists, each of the n coefficients of an element of R_q
--   MultipliedAndAdded the call is accepted, a and b are as they were, and c holds a × b + c, which is in R_q
--   MultiplyAddHolds so under every accepted set for all a, b and c in R_q
--   MultiplyAddWitness a set and three elements of which it speaks
--   MultiplyAddCancels with a = 1 and c = q - 1 at every place and b = 1 the result is 0 at every place: the second row, for every n and q above 0
--   multiply_add_rows  what the call leaves, beside what it should: the number, and the lengths and words of a, b and c
-- Assumes nothing.
use Rattle.std.specs.Prelude.{ℕ, ◌-◌, ◌<◌, ◌≡◌, List, [], ◌∷◌, ◌++◌, length}
use Rattle.definitions.specs.Parameters.{Parameters}
use Rattle.definitions.specs.Ring.{element_of, one, ListInRing, multiply_add}
use Rattle.definitions.specs.MultiplyAdd.{MultiplyAddExit, multiply_add_exit}
use Rattle.definitions.specs.Demand3.{AcceptedSet}
use Rattle.definitions.specs.WorkedCases.{Row, set_a, least_bound_set}

pub record RingElements (p : Parameters) (a b c : List ℕ) : Type 0 where
  pub first : ListInRing p.q p.n a
  pub second : ListInRing p.q p.n b
  pub third : ListInRing p.q p.n c

pub record MultipliedAndAdded (p : Parameters) (a b c : List ℕ) (exit : MultiplyAddExit) : Type 0 where
  pub accepted : exit.refusal ≡ 0
  pub first-stays : exit.a ≡ a
  pub second-stays : exit.b ≡ b
  pub holds : (k : ℕ) → k < p.n → element_of exit.c k ≡ multiply_add p.q p.n (element_of a) (element_of b) (element_of c) k
  pub in_ring : ListInRing p.q p.n exit.c

abbrev pub MultiplyAddHolds : Type 0
MultiplyAddHolds =
    (p : Parameters) → AcceptedSet p → (a b c : List ℕ) → RingElements p a b c → MultipliedAndAdded p a b c (multiply_add_exit p a b c)

pub record MultiplyAddWitness : Type 0 where
  pub set : AcceptedSet set_a
  pub elements : RingElements set_a (1 ∷ 2 ∷ []) (5 ∷ 7 ∷ []) (1458 ∷ 0 ∷ [])

abbrev pub MultiplyAddCancels : Type 0
MultiplyAddCancels = (q n : ℕ) → 0 < q → (k : ℕ) → k < n → multiply_add q n (λ i. 1) one (λ i. q - 1) k ≡ 0

-- ---- the table

three : List ℕ → List ℕ → List ℕ → List ℕ
three a b c = length a ∷ length b ∷ length c ∷ (a ++ (b ++ c))

row : Parameters → List ℕ → List ℕ → List ℕ → ℕ → List ℕ → Row
row p a b c refusal after =
    let exit = multiply_add_exit p a b c in
    record { given = exit.refusal ∷ three exit.a exit.b exit.c; expected = refusal ∷ three a b after }

refused : Parameters → List ℕ → List ℕ → List ℕ → ℕ → Row
refused p a b c refusal = row p a b c refusal c

unfoldable pub multiply_add_rows : List Row
unfolding three row refused
multiply_add_rows =
    -- 01's worked case 1: (1 + 2t) × (5 + 7t)
    row set_a (1 ∷ 2 ∷ []) (5 ∷ 7 ∷ []) (0 ∷ 0 ∷ []) 0 (19 ∷ 17 ∷ [])
    -- c = q - 1 everywhere, and a product that is 1 everywhere
    ∷ row set_a (1 ∷ 1 ∷ []) (1 ∷ 0 ∷ []) (1458 ∷ 1458 ∷ []) 0 (0 ∷ 0 ∷ [])
    -- a = b
    ∷ row set_a (1 ∷ 2 ∷ []) (1 ∷ 2 ∷ []) (1458 ∷ 0 ∷ []) 0 (4 ∷ 4 ∷ [])
    -- all coefficients q - 1, at the least q and at the largest
    ∷ row (least_bound_set 36) (35 ∷ 35 ∷ []) (35 ∷ 35 ∷ []) (35 ∷ 35 ∷ []) 0 (1 ∷ 1 ∷ [])
    ∷ row (least_bound_set 2147483647) (2147483646 ∷ 2147483646 ∷ []) (2147483646 ∷ 2147483646 ∷ []) (2147483646 ∷ 2147483646 ∷ []) 0 (1 ∷ 1 ∷ [])
    -- t^2 × t = 1, with n 3
    ∷ row (record { l = 2; q = 71; n = 3; dx = 1; dr = 1; mlen = 3; edition = 1 }) (0 ∷ 0 ∷ 1 ∷ []) (0 ∷ 1 ∷ 0 ∷ []) (0 ∷ 70 ∷ 2 ∷ []) 0 (1 ∷ 70 ∷ 2 ∷ [])
    -- 8 for a word of any of the three
    ∷ refused set_a (1459 ∷ 2 ∷ []) (5 ∷ 7 ∷ []) (3 ∷ 4 ∷ []) 8
    ∷ refused set_a (1 ∷ 2 ∷ []) (5 ∷ 1459 ∷ []) (3 ∷ 4 ∷ []) 8
    ∷ refused set_a (1 ∷ 2 ∷ []) (5 ∷ 7 ∷ []) (3 ∷ 1459 ∷ []) 8
    -- 6 before it, for each length
    ∷ refused set_a (1459 ∷ []) (5 ∷ 7 ∷ []) (3 ∷ 4 ∷ []) 6
    ∷ refused set_a (1 ∷ 2 ∷ []) (5 ∷ 7 ∷ 1459 ∷ []) (3 ∷ 4 ∷ []) 6
    ∷ refused set_a (1 ∷ 2 ∷ []) (5 ∷ 1459 ∷ []) (3 ∷ []) 6
    -- 4 before that
    ∷ refused (record { l = 4; q = 1455; n = 2; dx = 1; dr = 1; mlen = 4; edition = 1 }) (1455 ∷ []) [] (3 ∷ 4 ∷ []) 4
    ∷ []
