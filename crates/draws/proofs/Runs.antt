-- A run of draws under way is right when the whole run is what it has kept, taken and dropped, followed by the run of what is left: a group
-- of q or more moves one group on, a kept one a word too, and the run ends where no word or no group is left.
--
--   onward           what is kept, how many groups are taken and how many of them dropped, then the rest of the run
--   Going            a run that has filled i words and stands at a place of the octets
-- Assumes nothing.
use Prim.Native.Nat.{ℕ, suc, ◌+◌, ◌-◌, ◌^◌, ◌≤◌, ◌<◌, zero-le}
use native.Mathlib.Nat.{add-zero, zero-add, sub-zero}
use native.Mathlib.Numerals.{add-one}
use native.Mathlib.Omega.{arith}
use mathlib.Core.Path.{◌≡◌, refl, ◌∙◌, ap}
use mathlib.Core.Bool.{Bool, true, false, not}
use mathlib.Core.List.{List, [], ◌∷◌, ◌++◌, append_assoc, append-nil}
use lib.ListN.{length, take, drop, set, length-set}
use lib.Seq.{take-suc-set, take_all}
use lib.Bits.{bit_and, and_mask}
use Rattle.definitions.specs.Refusals.{first_refusal, refuse, refused, accepted, answer}
use Rattle.definitions.specs.Parameters.{bit_length, qlen}
use Rattle.definitions.specs.Octets.{number_of}
use Rattle.definitions.specs.Draws.{Drawn, keep, discard, draws, draws_below}
use Rattle.definitions.proofs.Parameters.{qlen-least, qlen-most}
use Rattle.draws.proofs.Groups.{group_from, draws_at, draws_at_kept, draws_at_dropped, draws_at_ended}
use Rattle.std.specs.Prelude.{Result, Ok, Err}
use Rattle.parameters.specs.declared.refusals.Refusal.{Refusal}
use Rattle.parameters.specs.Refusals.{refusal_number}
use Rattle.draws.specs.declared.Run.{Run}
use Rattle.draws.specs.Runs.{said, drawn_answer}

abbrev pub onward : {A : Type 0} → List A → ℕ → ℕ → Drawn A → Drawn A
onward values groups dropped rest =
    record { values = values ++ rest.values; groups = groups + rest.groups; dropped = dropped + rest.dropped; enough = rest.enough }

pub onward-kept : {A : Type 0} (values : List A) (groups dropped : ℕ) (x : A) (d : Drawn A)
    → onward values groups dropped (keep x d) ≡ onward (values ++ (x ∷ [])) (groups + 1) dropped d
onward-kept values groups dropped x d =
    let moved : groups + suc d.groups ≡ groups + 1 + d.groups = omega arith in
    rw (append_assoc, moved)

pub onward-dropped : {A : Type 0} (values : List A) (groups dropped : ℕ) (d : Drawn A) → onward values groups dropped (discard d) ≡ onward values (groups + 1) (dropped + 1) d
onward-dropped values groups dropped d =
    let moved : groups + suc d.groups ≡ groups + 1 + d.groups = omega arith in
    let more : dropped + suc d.dropped ≡ dropped + 1 + d.dropped = omega arith in
    rw (moved, more)

-- ---- what is to be said of a run

pub drawn_answer-ended : {A : Type 0} (d : Drawn A) → d.enough ≡ false → refused 9 ≡ drawn_answer d
unfolding drawn_answer answer first_refusal
drawn_answer-ended d e = rw e

pub drawn_answer-whole : {A : Type 0} (d : Drawn A) (values : List A) (groups dropped : ℕ)
    → (let whole : Drawn A = record { values = values; groups = groups; dropped = dropped; enough = true } in d ≡ whole → accepted whole ≡ drawn_answer d)
unfolding drawn_answer answer first_refusal
drawn_answer-whole d values groups dropped e = rw e

-- ---- a run under way

pub record Going (q : ℕ) (random words : List ℕ) (i at groups dropped : ℕ) : Type 0 where
  pub least : 0 < qlen q
  pub most : qlen q ≤ 4
  pub within : at ≤ length random
  pub counted : groups ≤ at
  pub fewer : dropped ≤ groups
  pub whole : draws_below q (length words) random ≡ onward (take i words) groups dropped (draws_at q random (length words - i) at)

pub going_start : (q : ℕ) (random words : List ℕ) → 0 < q → q < 2 ^ 32 → Going q random words 0 0 0 0
going_start q random words pos fits =
    record {
      least = qlen-least q pos fits;
      most = qlen-most q;
      within = zero-le;
      counted = zero-le;
      fewer = zero-le;
      whole = rw (sub-zero, zero-add, zero-add);
    }

one_less : {i n : ℕ} → i < n → n - i ≡ suc (n - (i + 1))
one_less h = omega arith

module _ {q : ℕ} {random words : List ℕ} {i at groups dropped : ℕ} (going : Going q random words i at groups dropped) where
  -- what is read there and masked, with as many ones as q has bits
  module _ {width mask x : ℕ} (w : width ≡ qlen q) (m : mask ≡ 2 ^ bit_length q - 1) (e : x ≡ number_of (take width (drop at random)))
      (inside : i < length words) (fits : at + width ≤ length random)
    where
      group : bit_and x mask ≡ group_from q random at
      group = rw (m, and_mask, e, w)

      pub going_kept : bit_and x mask < q → Going q random (set words i (bit_and x mask)) (i + 1) (at + width) (groups + 1) dropped
      going_kept below =
          let rest = draws_at q random (length words - (i + 1)) (at + width) in
          let filled : take (i + 1) (set words i (bit_and x mask)) ≡ take i words ++ (bit_and x mask ∷ []) = rw (add-one i) (take-suc-set words i _ inside) in
          let step : draws_at q random (length words - i) at ≡ keep (bit_and x mask) rest =
          rw (one_less inside, group, w) (draws_at_kept q random at (length words - (i + 1)) going.least (rw w at fits) (rw group at below)) in
          record {
            least = going.least;
            most = going.most;
            within = fits;
            counted = omega arith;
            fewer = omega (arith, going.fewer);
            whole = rw (length-set, filled) (rw step at going.whole ∙ onward-kept (take i words) groups dropped (bit_and x mask) rest);
          }

      pub going_dropped : q ≤ bit_and x mask → Going q random words i (at + width) (groups + 1) (dropped + 1)
      going_dropped above =
          let rest = draws_at q random (length words - i) (at + width) in
          let step : draws_at q random (length words - i) at ≡ discard rest =
          rw (one_less inside, w) (draws_at_dropped q random at (length words - (i + 1)) going.least (rw w at fits) (rw group at above)) in
          record {
            least = going.least;
            most = going.most;
            within = fits;
            counted = omega arith;
            fewer = omega (arith, going.fewer);
            whole = rw step at going.whole ∙ onward-dropped (take i words) groups dropped rest;
          }

  pub going_exhausted : {n : ℕ} → length words ≡ n → i < length words → length random - at < qlen q → refused 9 ≡ drawn_answer (draws_below q n random)
  going_exhausted same inside short =
      let ended : (draws_below q (length words) random).enough ≡ false =
      ap (λ (d : Drawn ℕ). d.enough) going.whole ∙ rw (one_less inside) (draws_at_ended q random at (length words - (i + 1)) short) in
      rw (← same) (drawn_answer-ended _ ended)

  pub going_complete : {n g d : ℕ} → length words ≡ n → length words ≤ i → g ≡ groups → d ≡ dropped
      → accepted (record { values = words; groups = g; dropped = d; enough = true }) ≡ drawn_answer (draws_below q n random)
  unfolding draws_below draws
  going_complete same done e f =
      let none : length words - i ≡ 0 = omega arith in
      let whole : draws_below q (length words) random ≡ record { values = words; groups = groups; dropped = dropped; enough = true } =
      going.whole ∙ rw (none, take_all i words done, append-nil, add-zero, add-zero) in
      rw (← same, e, f) (drawn_answer-whole _ words groups dropped whole)

-- ---- what an answer tells a caller

complete_told : {A : Type 0} (enough : Bool) (d e : Drawn A) → accepted e ≡ answer [] (refuse 9 (not enough) ∷ []) d → d ≡ e
unfolding answer first_refusal
complete_told true d e h = cc
complete_told false d e h = cc

exhausted_told : {A : Type 0} (enough : Bool) (d : Drawn A) (k : ℕ) → refused k ≡ answer [] (refuse 9 (not enough) ∷ []) d → (k ≡ 9) × (enough ≡ false)
unfolding answer first_refusal
exhausted_told true d k h = cc
exhausted_told false d k h = (cc, refl)

pub said_complete : {A : Type 0} (d : Drawn A) (values : List A) {outcome : Result Run Refusal} {run : Run} → outcome ≡ Ok run
    → said outcome values ≡ drawn_answer d → d ≡ record { values = values; groups = run.groups; dropped = run.dropped; enough = true }
unfolding drawn_answer
said_complete d values {run = run} e told =
    complete_told d.enough d (record { values = values; groups = run.groups; dropped = run.dropped; enough = true }) (rw e at told)

-- a refusal is 9, and its run had not enough
pub said-exhausted : {A : Type 0} (d : Drawn A) (values : List A) {outcome : Result Run Refusal} {refusal : Refusal} → outcome ≡ Err refusal
    → said outcome values ≡ drawn_answer d → (refusal_number refusal ≡ 9) × (d.enough ≡ false)
unfolding drawn_answer
said-exhausted d values {refusal = refusal} e told = exhausted_told d.enough d (refusal_number refusal) (rw e at told)
