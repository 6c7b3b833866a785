-- Why the octets used tell the groups dropped (02, Q-1): every group taken is one that was kept or one that was dropped, and a draw more goes on
-- where the draws before it ended.
--
--   draws_singly      a single draw keeps the first group that is below q;  draws-unfinished: without enough, none is
--   draws_below_next   a draw more is a single draw from the octets after those that were taken;  draw_start_taken: that is where it begins
--   draws-add_up      a run is its single draws, one after the other
--   draws_complete    where there is enough, a group that was taken was kept or dropped
--   encrypt_reports   the octets used are the fixed part plus qlen times the groups dropped;  keygen-reports: DroppedElements.antt
-- Assumes nothing.
use Prim.Native.Nat.{ℕ, zero, suc, ◌+◌, ◌*◌, ◌/◌, ◌<◌}
use native.Mathlib.Nat.{mul-zero, mul-one, mul-add}
use native.Mathlib.Numerals.{add-one}
use native.Mathlib.Omega.{arith}
use mathlib.Core.Path.{◌≡◌, refl, sym, ap, ◌∙◌}
use mathlib.Core.Bool.{Bool, ◌&&◌}
use mathlib.Core.List.{List, ◌++◌}
use borrow.Author.Tests.{ltb-true, ltb-false}
use lib.Dec.{ltb}
use lib.ListN.{length, get_or, drop}
use Rattle.definitions.specs.Sequences.{sum, every, tabulate, joined}
use Rattle.definitions.specs.Parameters.{Parameters, qlen}
use Rattle.definitions.specs.Draws.{Drawn, draws, grouped, group_number, draws_below, draw_below, octets_used}
use Rattle.definitions.specs.Calls.{Encrypted, mask_coefficients, mask_draws, mask_used, encrypt_used, encrypt_answer, encrypt_exit}
use Rattle.definitions.specs.DroppedGroups.{group_number_at, DrawsSingly, DrawsUnfinished, draw_start, draw_at, DrawsAddUp, DrawsComplete, encrypt_fixed, Reported, EncryptReports}
use Rattle.definitions.proofs.Refusals.{answer_success}
use Rattle.definitions.proofs.Draws.{draws_first, draws_none, length-grouped, grouped_at, draws_below-within, then_drawn, draws_below-values, draws_below-length, draws_below-split, draws_below-groups}
use Rattle.definitions.proofs.Calls.{EncryptTold, encrypt-told}
use Rattle.definitions.proofs.RoundTrips.{joined_snoc}

group_at : (q : ℕ) (random : List ℕ) (i : ℕ) → i < length (grouped (qlen q) (group_number q) random)
    → get_or (grouped (qlen q) (group_number q) random) i 0 ≡ group_number_at q random i
group_at q random i l = grouped_at (qlen q) (group_number q) random 0 i l

pub draws_singly : DrawsSingly
unfolding draws_below
draws_singly q random enough =
    let groups : List ℕ = grouped (qlen q) (group_number q) random in
    let first = draws_first (λ x. ltb x q) 0 groups enough in
    let at : get_or groups (draw_below q random).dropped 0 ≡ group_number_at q random (draw_below q random).dropped = group_at q random _ first.within in
    record {
      value = rw at at first.value;
      below = rw at at (ltb-true _ q first.kept);
      dropped-before = λ i l. rw (group_at q random i (omega (arith, first.within))) at (ltb-false _ q (first.dropped-before i l));
      octets = ap (λ (g : ℕ). qlen q * g) (draws_below-groups q 1 random enough) ∙ mul-add (qlen q) 1 _ ∙ rw (mul-one (qlen q));
      there = draws_below-within q 1 random;
    }

pub draws-unfinished : DrawsUnfinished
unfolding draws_below
draws-unfinished q random short =
    let groups : List ℕ = grouped (qlen q) (group_number q) random in
    let none = draws_none (λ x. ltb x q) 0 groups short in
    let many : length groups ≡ length random / qlen q = length-grouped (qlen q) (group_number q) random in
    record {
      nothing = none.nothing;
      all_dropped = none.all_dropped ∙ many;
      none_below = λ i l.
          let inside : i < length groups = rw many l in
          rw (group_at q random i inside) at (ltb-false _ q (none.none_pass i inside));
    }

module _ (q : ℕ) (random : List ℕ) where
  abbrev run : ℕ → Drawn ℕ
  run count = draws_below q count random

  draws_below_next : (count : ℕ) → run (suc count) ≡ then_drawn (run count) (draw_below q (drop (octets_used q (run count)) random))
  draws_below_next count = ap run (sym (add-one count)) ∙ draws_below-split q count random 1

  draw_start_taken : (count : ℕ) → draw_start q random count ≡ octets_used q (run count)
  unfolding draw_start draws_below draws
  draw_start_taken zero = sym (mul-zero (qlen q))
  draw_start_taken (suc count) =
      rw (draw_start_taken count) (sym (ap (octets_used q) (draws_below_next count) ∙ mul-add (qlen q) (run count).groups _))

  next : (count : ℕ) → run (suc count) ≡ then_drawn (run count) (draw_at q random count)
  next count = rw (draw_start_taken count) (draws_below_next count)

  values-joined : (count : ℕ) → (run count).values ≡ joined (tabulate count (λ i. (draw_at q random i).values))
  unfolding draws_below draws joined tabulate
  values-joined zero = refl
  values-joined (suc count) =
      ap (λ (d : Drawn ℕ). d.values) (next count)
      ∙ ap (λ (l : List ℕ). l ++ (draw_at q random count).values) (values-joined count)
      ∙ sym (joined_snoc count (λ i. (draw_at q random i).values))

  octets_summed : (count : ℕ) → octets_used q (run count) ≡ sum count (λ i. octets_used q (draw_at q random i))
  unfolding draws_below draws sum
  octets_summed zero = mul-zero (qlen q)
  octets_summed (suc count) =
      ap (octets_used q) (next count)
      ∙ mul-add (qlen q) (run count).groups _
      ∙ ap (λ (s : ℕ). s + octets_used q (draw_at q random count)) (octets_summed count)

  pub dropped_summed : (count : ℕ) → (run count).dropped ≡ sum count (λ i. (draw_at q random i).dropped)
  unfolding draws_below draws sum
  dropped_summed zero = refl
  dropped_summed (suc count) =
      ap (λ (d : Drawn ℕ). d.dropped) (next count) ∙ ap (λ (s : ℕ). s + (draw_at q random count).dropped) (dropped_summed count)

  enough-every : (count : ℕ) → (run count).enough ≡ every count (λ i. (draw_at q random i).enough)
  unfolding draws_below draws every
  enough-every zero = refl
  enough-every (suc count) =
      ap (λ (d : Drawn ℕ). d.enough) (next count) ∙ ap (λ (t : Bool). t && (draw_at q random count).enough) (enough-every count)

pub draws-add_up : DrawsAddUp
draws-add_up q count random =
    record {
      values = values-joined q random count;
      octets = octets_summed q random count;
      dropped = dropped_summed q random count;
      enough = enough-every q random count;
    }

pub draws_complete : DrawsComplete
draws_complete q count random enough =
    let many = draws_below-length q count random enough in
    record {
      as_many = many;
      below = λ i l. draws_below-values q count random i (rw many l);
      octets = ap (λ (g : ℕ). qlen q * g) (draws_below-groups q count random enough) ∙ mul-add (qlen q) count _;
    }

-- ---- encryption reports it

encryption_reported : (p : Parameters) (public message random : List ℕ) (e : Encrypted) → EncryptTold p public message random e
    → Reported p.q (encrypt_fixed p) e.used e.dropped_groups (mask_coefficients p) random
unfolding encrypt_fixed encrypt_used mask_used mask_draws
encryption_reported p public message random e told =
    record {
      octets = sym told.used ∙ rw (← told.dropped) (omega (arith, (draws_complete p.q (mask_coefficients p) random told.enough).octets));
      added_up = sym told.dropped ∙ dropped_summed p.q random (mask_coefficients p);
    }

pub encrypt_reports : EncryptReports
unfolding encrypt_exit encrypt_answer
encrypt_reports p public message random ciphertext used dropped_groups work success =
    let made = answer_success _ _ _ success in
    rw made (encryption_reported p public message random _ (encrypt-told p public message random (length ciphertext) (length work) _ made))
