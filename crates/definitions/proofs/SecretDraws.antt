-- Why a secret's elements are the first that have degree n - 1 (02, Q-3): a single draw keeps the first candidate that passes, and u_y is drawn from
-- the octets after u_x.
--
--   full_degree_above, full_degree-zero   what the test tells of the top coefficient
--   elements_singly      a single draw gives the first element of degree n - 1;  elements-unfinished: without enough, none has it
--   HalvesTold           u_x and u_y of draws that have enough;  halves_told: that it holds;  halves_used-dropped: the octets that they used
-- Assumes nothing.
use Prim.Native.Nat.{ℕ, zero, suc, ◌+◌, ◌-◌, ◌*◌, ◌<◌}
use mathlib.Core.Path.{◌≡◌, sym, ap, ◌∙◌}
use mathlib.Core.Bool.{Bool, true, false, not, false≢true}
use mathlib.Core.List.{List, []}
use native.Mathlib.Nat.{zero-lt-suc}
use native.Mathlib.Omega.{arith}
use borrow.Author.Tests.{eqb-true, not-false}
use lib.Dec.{eqb}
use lib.ListN.{length, get_or, drop}
use Rattle.definitions.specs.Parameters.{Parameters, small_length, secret_length}
use Rattle.definitions.specs.Ring.{Element, element_of, full_degree}
use Rattle.definitions.specs.Draws.{Drawn, grouped, small_drawn, secret_draws}
use Rattle.definitions.specs.Calls.{half_draws, drawn_x, drawn_y, halves_used}
use Rattle.definitions.specs.DroppedElements.{element_at, FirstFull, ElementsSingly, ElementsUnfinished}
use Rattle.definitions.proofs.Tests.{both_true}
use Rattle.definitions.proofs.Parameters.{secret_length_halves}
use Rattle.definitions.proofs.Draws.{draws_first, draws_none, length-grouped, grouped_at, then_drawn, secret_draws-groups, secret_draws-within, secret_draws-split}

above_zero : (x : ℕ) → not (eqb x 0) ≡ true → 0 < x
above_zero zero e = absurd (false≢true e)
above_zero (suc x) e = zero-lt-suc x

pub full_degree_above : (n : ℕ) (u : Element) → full_degree n u ≡ true → 0 < u (n - 1)
unfolding full_degree
full_degree_above n u e = above_zero (u (n - 1)) e

pub full_degree-zero : (n : ℕ) (u : Element) → full_degree n u ≡ false → u (n - 1) ≡ 0
unfolding full_degree
full_degree-zero n u e = eqb-true _ _ (not-false _ e)

module _ (p : Parameters) (random : List ℕ) where
  abbrev full : List ℕ → Bool
  full u = full_degree p.n (element_of u)

  abbrev elements : List (List ℕ)
  elements = grouped (small_length p) (small_drawn p) random

  element_at_lem : (i : ℕ) → i < length elements → get_or elements i [] ≡ element_at p random i
  element_at_lem i l = grouped_at (small_length p) (small_drawn p) random [] i l

pub elements_singly : ElementsSingly
unfolding secret_draws
elements_singly p random enough =
    let drawn : Drawn (List ℕ) = secret_draws p 1 random in
    let first = draws_first (full p random) [] (elements p random) enough in
    let at : get_or (elements p random) drawn.dropped [] ≡ element_at p random drawn.dropped = element_at_lem p random _ first.within in
    let groups : drawn.groups ≡ suc drawn.dropped = omega (arith, secret_draws-groups p 1 random enough) in (
      record {
        there = rw groups at (secret_draws-within p 1 random);
        zero-before = λ i l.
            rw (element_at_lem p random i (omega (arith, first.within))) at (full_degree-zero p.n _ (first.dropped-before i l));
        full = rw at at (full_degree_above p.n _ first.kept);
      },
      rw at at first.value,
      groups,
    )

pub elements-unfinished : ElementsUnfinished
unfolding secret_draws
elements-unfinished p random short =
    let none = draws_none (full p random) [] (elements p random) short in
    let many = length-grouped (small_length p) (small_drawn p) random in (
      none.nothing,
      none.all_dropped ∙ many,
      λ i l.
          let inside : i < length (elements p random) = rw many l in
          rw (element_at_lem p random i inside) at (full_degree-zero p.n _ (none.none_pass i inside)),
    )

-- u_x, the octets after it, and u_y
pub record HalvesTold (p : Parameters) (random : List ℕ) : Type 0 where
  pub before_x : ℕ
  pub before_y : ℕ
  pub x : FirstFull p random before_x
  pub y : FirstFull p (drop (small_length p * suc before_x) random) before_y
  pub x_drawn : drawn_x (half_draws p random) ≡ element_at p random before_x
  pub y_drawn : drawn_y (half_draws p random) ≡ element_at p (drop (small_length p * suc before_x) random) before_y
  pub dropped : (half_draws p random).dropped ≡ before_x + before_y

pub halves_told : (p : Parameters) (random : List ℕ) → (half_draws p random).enough ≡ true → HalvesTold p random
halves_told p random enough =
    let first : Drawn (List ℕ) = secret_draws p 1 random in
    let later : ℕ → Drawn (List ℕ) = λ g. secret_draws p 1 (drop (small_length p * g) random) in
    let split : half_draws p random ≡ then_drawn first (later first.groups) = secret_draws-split p 1 random 1 in
    let both = both_true _ _ (ap (λ (d : Drawn (List ℕ)). d.enough) (sym split) ∙ enough) in
    let x = elements_singly p random both.0 in
    let parts : half_draws p random ≡ then_drawn first (later (suc first.dropped)) = split ∙ ap (λ (g : ℕ). then_drawn first (later g)) x.2 in
    let y = elements_singly p (drop (small_length p * suc first.dropped) random) (rw x.2 at both.1) in
    record {
      before_x = first.dropped;
      before_y = (later (suc first.dropped)).dropped;
      x = x.0;
      y = y.0;
      x_drawn = ap drawn_x parts ∙ rw x.1;
      y_drawn = ap drawn_y parts ∙ rw (x.1, y.1);
      dropped = ap (λ (d : Drawn (List ℕ)). d.dropped) parts;
    }

pub halves_used-dropped : (p : Parameters) (random : List ℕ) → (half_draws p random).enough ≡ true
    → halves_used p random ≡ secret_length p + small_length p * (half_draws p random).dropped
unfolding halves_used
halves_used-dropped p random enough =
    omega (arith, secret_length_halves p, ap (λ (g : ℕ). small_length p * g) (secret_draws-groups p 2 random enough))
