-- A draw of an element of a secret under way is right when the whole draw is what it has taken and dropped, followed by the draw of what is left: an
-- element with a zero top moves one group on, one of degree n - 1 ends it, and so does a group that is not complete.
--
--   secret_at         a single draw from the octets at a place on;  small_at: the element there
--   Settling         such a draw that has dropped so many groups
-- Assumes nothing.
use Prim.Native.Nat.{ℕ, ◌+◌, ◌-◌, ◌*◌, ◌/◌, ◌≤◌, ◌<◌}
use native.Mathlib.Nat.{add-zero, mul-le-mul_right, div-mul-le_self, lt-div-mul-add}
use native.Mathlib.Omega.{arith}
use mathlib.Core.Path.{◌≡◌, ap, ◌∙◌}
use mathlib.Core.Bool.{true, false}
use mathlib.Core.List.{List, [], ◌∷◌}
use borrow.Author.Tests.{eq-eqb, ne_eqb}
use lib.ListN.{length, get_or, take, drop}
use Rattle.definitions.specs.Refusals.{refused, accepted}
use Rattle.definitions.specs.Parameters.{Parameters, small_length}
use Rattle.definitions.specs.Ring.{element_of, full_degree}
use Rattle.definitions.specs.Draws.{Drawn, discard, draws, small_drawn, secret_draws}
use Rattle.draws.proofs.Groups.{from_kept, from_dropped, from_ended}
use Rattle.draws.proofs.Runs.{onward, onward-dropped, drawn_answer-ended, drawn_answer-whole}
use Rattle.draws.specs.Runs.{drawn_answer}

abbrev pub secret_at : Parameters → List ℕ → ℕ → Drawn (List ℕ)
secret_at p random at = secret_draws p 1 (drop at random)

abbrev pub small_at : Parameters → List ℕ → ℕ → List ℕ
small_at p random at = small_drawn p (take (small_length p) (drop at random))

-- behind so many groups, each of them dropped
abbrev pub Settling : Parameters → List ℕ → ℕ → Type 0
Settling p random k = secret_draws p 1 random ≡ onward [] k k (secret_at p random (k * small_length p))

module _ (p : Parameters) (random : List ℕ) (pos : 0 < small_length p) (k : ℕ) (going : Settling p random k) where
  abbrev at : ℕ
  at = k * small_length p

  -- a complete group there, and the element in it, as the words hold it
  module _ {words : List ℕ} (complete : k < length random / small_length p) (e : words ≡ small_at p random at) where
    fits : at + small_length p ≤ length random
    fits = omega (arith, mul-le-mul_right (small_length p) complete, div-mul-le_self (length random) (small_length p))

    pub settling_dropped : get_or words (p.n - 1) 0 ≡ 0 → Settling p random (k + 1)
    unfolding secret_draws full_degree
    settling_dropped top =
        let low : full_degree p.n (element_of (small_at p random at)) ≡ false = rw (← e, eq-eqb _ 0 top) in
        let step : secret_at p random at ≡ discard (secret_at p random (at + small_length p))
        = from_dropped (small_length p) (small_drawn p) (λ u. full_degree p.n (element_of u)) random at pos fits 0 low in
        let next : (k + 1) * small_length p ≡ at + small_length p = omega arith in
        rw next (rw step at going ∙ onward-dropped [] k k (secret_at p random (at + small_length p)))

    pub settling_kept : (get_or words (p.n - 1) 0 ≡ 0 → ⊥)
        → accepted (record { values = words ∷ []; groups = k + 1; dropped = k; enough = true }) ≡ drawn_answer (secret_draws p 1 random)
    unfolding secret_draws full_degree draws
    settling_kept top =
        let high : full_degree p.n (element_of (small_at p random at)) ≡ true = rw (← e, ne_eqb _ 0 top) in
        let step = from_kept (small_length p) (small_drawn p) (λ u. full_degree p.n (element_of u)) random at pos fits 0 high in
        let whole : secret_draws p 1 random ≡ record { values = words ∷ []; groups = k + 1; dropped = k; enough = true }
        = rw step at going ∙ rw (← e, add-zero) in
        drawn_answer-whole _ (words ∷ []) (k + 1) k whole

  pub settling_exhausted : length random / small_length p ≤ k → refused 9 ≡ drawn_answer (secret_draws p 1 random)
  unfolding secret_draws
  settling_exhausted done =
      let short : length random - at < small_length p
      = omega (arith, mul-le-mul_right (small_length p) done, lt-div-mul-add {a = length random} pos) in
      let ended : (secret_draws p 1 random).enough ≡ false
      = ap (λ (d : Drawn (List ℕ)). d.enough) going
      ∙ from_ended (small_length p) (small_drawn p) (λ u. full_degree p.n (element_of u)) random at 0 short in
      drawn_answer-ended _ ended
