-- Which groups of octets there are: a complete group stands before the groups of what follows it, and what is left at the end is none.
--
--   bit_length-short  a q below 2 ^ 31 has fewer than 32 bits
--   group_from          the group at a place, reduced
--   draws_at          so many draws below q from the octets at a place on
--   from-..          what any draws do with the group at a place;  draws_at-..: the same of draws below q
-- Assumes nothing.
use Prim.Native.Nat.{ℕ, suc, ◌+◌, ◌-◌, ◌^◌, ◌≤◌, ◌<◌}
use native.Mathlib.Decide.{dec_lt}
use native.Mathlib.Omega.{arith}
use mathlib.Core.Path.{◌≡◌, ◌∙◌}
use mathlib.Core.Bool.{Bool, true, false}
use mathlib.Core.List.{List, ◌∷◌}
use lib.Pow.{pow_mono}
use borrow.Author.Tests.{lt-ltb, le-ltb}
use lib.Dec.{ltb}
use lib.ListN.{length, take, drop, length-drop}
use lib.Seq.{drop-drop}
use Rattle.definitions.specs.Parameters.{bit_length, qlen}
use Rattle.definitions.specs.Draws.{Drawn, keep, discard, draws, grouped, group_number, draws_below}
use Rattle.definitions.proofs.Parameters.{bit_length-below}
use Rattle.definitions.proofs.Draws.{draws-kept, draws-dropped, grouped-cons, grouped-short}

pub bit_length-short : (q : ℕ) → 0 < q → q < 2 ^ 31 → bit_length q < 32
bit_length-short q pos fits =
    elim (dec_lt (bit_length q) 32) [
      | yes l ↦ l
      | no g ↦ let z : ⊥ = omega (arith, bit_length-below q pos (omega arith), pow_mono {i = 31} {j = bit_length q - 1} (omega arith)) in absurd z
    ]

abbrev pub group_from : ℕ → List ℕ → ℕ → ℕ
group_from q random at = group_number q (take (qlen q) (drop at random))

abbrev pub draws_at : ℕ → List ℕ → ℕ → ℕ → Drawn ℕ
draws_at q random count at = draws_below q count (drop at random)

-- draws from the groups of the octets at a place on: the group there is kept or dropped, and the draws go on behind it
module _ {A : Type 0} (len : ℕ) (read : List ℕ → A) (passes : A → Bool) (random : List ℕ) (at : ℕ) where
  abbrev there : A
  there = read (take len (drop at random))

  abbrev from : ℕ → ℕ → Drawn A
  from count place = draws passes count (grouped len read (drop place random))

  module _ (pos : 0 < len) (fits : at + len ≤ length random) where
    groups_at : grouped len read (drop at random) ≡ there ∷ grouped len read (drop (at + len) random)
    groups_at =
        let complete : len ≤ length (drop at random) = simp length-drop (omega arith) in
        grouped-cons len read (drop at random) pos complete ∙ rw (drop-drop len at random)

    pub from_kept : (count : ℕ) → passes there ≡ true → from (suc count) at ≡ keep there (from count (at + len))
    from_kept count e = rw groups_at (draws-kept passes count there _ e)

    pub from_dropped : (count : ℕ) → passes there ≡ false → from (suc count) at ≡ discard (from (suc count) (at + len))
    from_dropped count e = rw groups_at (draws-dropped passes count there _ e)

  pub from_ended : (count : ℕ) → length random - at < len → (from (suc count) at).enough ≡ false
  unfolding draws
  from_ended count short =
      let incomplete : length (drop at random) < len = simp length-drop short in
      rw (grouped-short len read (drop at random) incomplete)

module _ (q : ℕ) (random : List ℕ) (at : ℕ) where
  pub draws_at_kept : (count : ℕ) → 0 < qlen q → at + qlen q ≤ length random → group_from q random at < q
      → draws_at q random (suc count) at ≡ keep (group_from q random at) (draws_at q random count (at + qlen q))
  unfolding draws_below
  draws_at_kept count pos fits below =
      from_kept (qlen q) (group_number q) (λ x. ltb x q) random at pos fits count (lt-ltb (group_from q random at) q below)

  pub draws_at_dropped : (count : ℕ) → 0 < qlen q → at + qlen q ≤ length random → q ≤ group_from q random at
      → draws_at q random (suc count) at ≡ discard (draws_at q random (suc count) (at + qlen q))
  unfolding draws_below
  draws_at_dropped count pos fits above =
      from_dropped (qlen q) (group_number q) (λ x. ltb x q) random at pos fits count (le-ltb (group_from q random at) q above)

  pub draws_at_ended : (count : ℕ) → length random - at < qlen q → (draws_at q random (suc count) at).enough ≡ false
  unfolding draws_below
  draws_at_ended count short = from_ended (qlen q) (group_number q) (λ x. ltb x q) random at count short
