-- How large a group is: many × 8 coefficients of b bits are many × b octets, at most 4, so that its number has at most 32 bits.
--
--   Group            so many numbers of w bits are so many places of v bits;  group_of: coefficients and octets;  turned: the other way round
--   many_narrow      b is at most 4;  many_last: a last group, which may be short, has at most 32 bits
--   four-over-..     4 / b will do for many
--   groups-within    whole groups are inside;  part_end: and so is a part after them
-- Assumes nothing.
use Prim.Native.Nat.{ℕ, ◌+◌, ◌-◌, ◌*◌, ◌/◌, ◌≤◌, ◌<◌, min}
use mathlib.Core.Path.{◌≡◌, sym}
use native.Mathlib.Nat.{mul-pos, mul-le-mul_right, div-mul-le_self, le-div_iff_mul-le, le_trans}
use native.Mathlib.Omega.{arith}

pub record Group (w v places many : ℕ) : Type 0 where
  pub some_bits : 0 < w
  pub some_width : 0 < v
  pub some_places : 0 < places
  pub some_numbers : 0 < many
  pub same_bits : many * w ≡ places * v

pub group_of : (b many : ℕ) → 1 ≤ b → 1 ≤ many → Group b 8 (many * b) (many * 8)
group_of b many pos some =
    record { some_bits = pos; some_width = omega arith; some_places = mul-pos some pos; some_numbers = omega arith; same_bits = omega arith }

pub turned : {w v places many : ℕ} → Group w v places many → Group v w many places
turned g =
    record {
      some_bits = g.some_width;
      some_width = g.some_bits;
      some_places = g.some_numbers;
      some_numbers = g.some_places;
      same_bits = sym g.same_bits;
    }

module _ (b many : ℕ) (fits : many * b ≤ 4) where
  pub many_narrow : 1 ≤ many → b ≤ 4
  many_narrow pos = omega (arith, mul-le-mul_right b pos)

  pub many_last : (left : ℕ) {count : ℕ} → count ≡ min left (many * 8) → count * b ≤ 32
  many_last left {count} e =
      let few : count ≤ many * 8 = omega arith in
      omega (arith, mul-le-mul_right b few)

-- as many as 32 bits hold
pub four_over_fits : (b : ℕ) → 4 / b * b ≤ 4
four_over_fits b = div-mul-le_self 4 b

pub four_over_some : (b : ℕ) → 1 ≤ b → b ≤ 4 → 1 ≤ 4 / b
four_over_some b pos narrow = (le-div_iff_mul-le pos).1 (omega arith)

pub groups-within : (g n size : ℕ) → g ≤ n / size → g * size ≤ n
groups-within g n size h = le_trans (mul-le-mul_right size h) (div-mul-le_self n size)

pub part_end : {start total len : ℕ} (most : ℕ) → start ≤ total → len ≡ min (total - start) most → start + len ≤ total
part_end most h e = omega arith
