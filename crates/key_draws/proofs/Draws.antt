-- Why what the code says of its draws is what the definitions draw: u_y is drawn from the octets after u_x, and the terms from those after u_y.
--
--   enough_of             a run that has enough
--   octets-room          the octets taken are among those lent;  elements-room: elements taken and dropped are no more than these
--   halves-..            both halves, from their single draws, or that the octets ended in one of them
--   start_used           where the draws of the terms begin;  terms_behind: they are drawn from the octets there;  used-room: all octets used are among those lent
--   keys-..              all that is drawn for keys, or that the octets ended
-- Assumes nothing.
use Prim.Native.Nat.{ℕ, ◌+◌, ◌-◌, ◌*◌, ◌≤◌}
use native.Mathlib.Nat.{zero-add, mul-le-mul_right}
use native.Mathlib.Omega.{arith}
use mathlib.Core.Path.{◌≡◌, sym, ap, ◌∙◌}
use mathlib.Core.Bool.{true, false, not}
use mathlib.Core.List.{List, [], ◌∷◌}
use lib.ListN.{length, take, drop}
use lib.Seq.{slice}
use Rattle.definitions.specs.Refusals.{first_refusal, refused, answer}
use Rattle.definitions.specs.Parameters.{Parameters, qlen, small_length}
use Rattle.definitions.specs.Draws.{Drawn, draws_below, secret_draws}
use Rattle.definitions.specs.Calls.{half_draws, halves_used, key_coefficients, term_coefficients, key_draws, key_pair_of}
use Rattle.definitions.specs.Demand3.{AcceptedSet}
use Rattle.definitions.proofs.Parameters.{accepted-set, small_length-least}
use Rattle.definitions.proofs.Tests.{either_second}
use Rattle.definitions.proofs.Draws.{then_drawn, secret_draws-groups, secret_draws-split, secret_draws-within}
use Rattle.definitions.proofs.OctetsUsed.{key_used_there}
use Rattle.draws.proofs.Runs.{drawn_answer-ended}
use Rattle.draws.specs.Runs.{drawn_answer}
use Rattle.std.specs.Prelude.{Ok}
use Rattle.std.proofs.lemmas.List.{take_rest}
use Rattle.key_draws.proofs.Parts.{slice_kept}
use Rattle.key_draws.specs.Keys.{words_x, words_halves, words_terms, words_drawn, keys_said, keys_drawn}

-- a run that has enough, as a record
abbrev pub enough_of : {A : Type 0} → List A → ℕ → ℕ → Drawn A
enough_of values groups dropped = record { values = values; groups = groups; dropped = dropped; enough = true }

module _ (p : Parameters) (count : ℕ) (random : List ℕ) {values : List (List ℕ)} {groups dropped : ℕ}
    (e : secret_draws p count random ≡ enough_of values groups dropped) where
  pub octets-room : small_length p * groups ≤ length random
  octets-room = omega (arith, secret_draws-within p count random, ap (λ (d : Drawn (List ℕ)). small_length p * d.groups) e)

  pub elements-room : AcceptedSet p → (groups ≤ length random) × (dropped ≤ length random)
  elements-room set =
      let taken : groups ≡ count + dropped
      = ap (λ (d : Drawn (List ℕ)). d.groups) (sym e) ∙ secret_draws-groups p count random (ap (λ (d : Drawn (List ℕ)). d.enough) e)
      ∙ ap (λ (d : Drawn (List ℕ)). count + d.dropped) e in
      let few : groups ≤ length random = omega (arith, octets-room, mul-le-mul_right groups (small_length-least p (accepted-set p set))) in
      (few, omega arith)

module _ (p : Parameters) (random : List ℕ) where
  abbrev after : ℕ → Drawn (List ℕ)
  after taken = secret_draws p 1 (drop (small_length p * taken) random)

  split : half_draws p random ≡ then_drawn (secret_draws p 1 random) (after (secret_draws p 1 random).groups)
  split = secret_draws-split p 1 random 1

  pub halves_ended_x : {k : ℕ} → (k ≡ 9) × ((secret_draws p 1 random).enough ≡ false) → refused k ≡ drawn_answer (half_draws p random)
  halves_ended_x ended = rw ended.0 (drawn_answer-ended _ (ap (λ (d : Drawn (List ℕ)). d.enough) split ∙ rw ended.1))

  module _ {x : List ℕ} {g d : ℕ} (first : secret_draws p 1 random ≡ enough_of (x ∷ []) g d) where
    parts : half_draws p random ≡ then_drawn (enough_of (x ∷ []) g d) (after g)
    parts = split ∙ ap (λ (f : Drawn (List ℕ)). then_drawn f (after f.groups)) first

    pub halves_ended_y : (start : ℕ) {k : ℕ} → start ≡ small_length p * g → (k ≡ 9) × ((secret_draws p 1 (take (length random - start) (drop start random))).enough ≡ false)
        → refused k ≡ drawn_answer (half_draws p random)
    halves_ended_y start at ended =
        rw ended.0 (drawn_answer-ended _ (ap (λ (f : Drawn (List ℕ)). f.enough) parts ∙ (rw (take_rest random start, at) at ended.1)))

    halves_whole : {y : List ℕ} {h c : ℕ} → after g ≡ enough_of (y ∷ []) h c → half_draws p random ≡ enough_of (x ∷ y ∷ []) (g + h) (d + c)
    halves_whole second = parts ∙ ap (then_drawn (enough_of (x ∷ []) g d)) second

  -- the words of u_x, and then of u_y behind them
  pub halves_words : (mid work : List ℕ) {g d h c start : ℕ} → take p.n work ≡ take p.n mid
      → secret_draws p 1 random ≡ enough_of (slice 0 (0 + p.n) mid ∷ []) g d → start ≡ small_length p * g
      → secret_draws p 1 (take (length random - start) (drop start random)) ≡ enough_of (slice p.n (p.n + p.n) work ∷ []) h c
      → half_draws p random ≡ enough_of (words_halves p work) (g + h) (d + c)
  halves_words mid work {start = start} kept first at second =
      let same : words_x p work ≡ slice 0 (0 + p.n) mid
      = slice_kept 0 p.n p.n mid work (omega arith) kept ∙ ap (λ (e : ℕ). slice 0 e mid) (sym (zero-add p.n)) in
      rw same (halves_whole first (rw (take_rest random start, at) at second))

  -- ---- the terms behind them

  pub start_used : {values : List (List ℕ)} {g d : ℕ} → half_draws p random ≡ enough_of values g d → small_length p * g ≡ halves_used p random
  unfolding halves_used
  start_used e = ap (λ (f : Drawn (List ℕ)). small_length p * f.groups) (sym e)

  pub terms_behind : {values : List (List ℕ)} {g d small : ℕ} → half_draws p random ≡ enough_of values g d → small ≡ small_length p
      → draws_below p.q (key_coefficients p) (take (length random - small * g) (drop (small * g) random)) ≡ key_draws p random
  unfolding key_draws
  terms_behind e s = rw (s, start_used e, take_rest)

  pub used-room : (g : ℕ) {values : List ℕ} {h c : ℕ} → small_length p * g ≡ halves_used p random → key_draws p random ≡ enough_of values h c
      → small_length p * g + qlen p.q * h ≤ length random
  used-room g e f = omega (arith, e, key_used_there p random, ap (λ (r : Drawn ℕ). qlen p.q * r.groups) f)

  pub keys_ended_halves : {k : ℕ} → (k ≡ 9) × ((half_draws p random).enough ≡ false) → refused k ≡ keys_drawn p random
  unfolding keys_drawn answer first_refusal
  keys_ended_halves ended = rw (ended.0, ended.1)

  pub keys_ended_terms : {k : ℕ} → (k ≡ 9) × ((key_draws p random).enough ≡ false) → refused k ≡ keys_drawn p random
  unfolding keys_drawn answer first_refusal
  keys_ended_terms ended = rw (ended.0, either_second (not (half_draws p random).enough) (not (key_draws p random).enough) (ap not ended.1))

  pub keys_whole : (work : List ℕ) {g d h c used : ℕ} → half_draws p random ≡ enough_of (words_halves p work) g d
      → key_draws p random ≡ enough_of (words_drawn p work) h c → take (term_coefficients p) (words_drawn p work) ≡ words_terms p work → used ≡ small_length p * g + qlen p.q * h
      → keys_said p (Ok (record { octets = used; groups = c; elements = d })) work ≡ keys_drawn p random
  unfolding keys_drawn answer first_refusal key_pair_of
  keys_whole work e f t u = rw (e, f, t, u)
