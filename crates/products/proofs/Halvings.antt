-- A product filled up to so many leaves: they are doubled while they are too few, and a leaf is n divided by their number, rounded up, so it
-- is the least that is enough.
--
--   Leaves           there are 2^levels leaves, at most 64
-- Assumes nothing.
use Prim.Native.Nat.{ℕ, ◌+◌, ◌-◌, ◌*◌, ◌^◌, ◌≤◌, ◌<◌}
use native.Mathlib.Nat.{lt_of_mul-lt-mul_right, mul-le-mul_right, pow-suc}
use native.Mathlib.Numerals.{add-one}
use native.Mathlib.Decide.{dec_lt}
use native.Mathlib.Omega.{arith}
use mathlib.Core.Path.{◌≡◌, sym, ◌∙◌, ap}
use lib.Pow.{pow-add, pow_mono}
use Rattle.std.specs.Int.{div_ceil}
use Rattle.std.proofs.lemmas.Grind.{div_ceil_times}
use Rattle.karatsuba.specs.Halvable.{Halvable}

pub record Leaves (levels leaves : ℕ) : Type 0 where
  pub some : 0 < leaves
  pub most : leaves ≤ 64
  pub few : levels ≤ 6
  pub power : leaves ≡ 2 ^ levels

pub leaves_twice : {levels leaves n : ℕ} → Leaves levels leaves → 80 * leaves < n → n ≤ 4096 → Leaves (levels + 1) (leaves + leaves)
leaves_twice {levels} {leaves} h l g =
    let less : levels < 6 =
    elim (dec_lt levels 6) [
      | yes s ↦ s
      | no s ↦ let e : levels ≡ 6 = omega arith in
          let f : leaves ≡ 64 = h.power ∙ ap (λ (k : ℕ). 2 ^ k) e in
          let z : ⊥ = omega arith in
          absurd z
    ]
    in
    let twice : leaves + leaves ≡ 2 ^ (levels + 1) = rw (add-one levels, pow-suc, ← h.power) (omega arith) in
    let bound : 2 ^ (levels + 1) ≤ 64 = pow_mono {i = levels + 1} {j = 6} (omega arith) in
    record { some = omega arith; most = omega arith; few = omega arith; power = twice }

leaf_least : {n : ℕ} (leaves leaf d : ℕ) → leaf * leaves < n + leaves → n ≤ d * leaves → leaf ≤ d
leaf_least leaves leaf d near l =
    let below : leaf < d + 1 = lt_of_mul-lt-mul_right leaves (omega arith) in
    omega arith

leaves_most : {n levels leaves : ℕ} (leaf : ℕ) → Leaves levels leaves → leaf * leaves < n + leaves → n ≤ 4096 → leaf * leaves ≤ 4096
leaves_most {levels = levels} {leaves = leaves} leaf h near l =
    let d : ℕ = 2 ^ (12 - levels) in
    let long : 12 - levels + levels ≡ 12 = omega arith in
    let whole : d * leaves ≡ 4096 = ap (λ (x : ℕ). d * x) h.power ∙ sym (pow-add 2 (12 - levels) levels) ∙ ap (λ (k : ℕ). 2 ^ k) long in
    omega (arith, mul-le-mul_right leaves (leaf_least leaves leaf d near (omega arith)))

pub leaves_enough : (n : ℕ) {levels leaves leaf : ℕ} → Leaves levels leaves → leaf ≡ div_ceil n leaves → n ≤ leaf * leaves
leaves_enough n {leaves = leaves} h e = rw e (div_ceil_times n leaves h.some).0

pub leaves_halvable : {n levels leaves leaf : ℕ} → Leaves levels leaves → leaf ≡ div_ceil n leaves → n ≤ 80 * leaves → n ≤ 4096
    → Halvable levels leaf (leaf * leaves)
leaves_halvable {n} {levels} {leaves} {leaf} h e l g =
    let near : leaf * leaves < n + leaves = rw e (div_ceil_times n leaves h.some).1 in
    record { whole = ap (λ (x : ℕ). leaf * x) h.power; short = leaf_least leaves leaf 80 near l; most = leaves_most leaf h near g }
