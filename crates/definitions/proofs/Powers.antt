-- Powers of two: as a shift makes them, and as octets have them.
--
--   shl_one          1 shifted by k bits in a word of more bits is 2^k
--   pow-octets       k octets are 8 × k bits;  shl_octets: 256^k, made by a shift;  weight_pos: it is not 0
-- Assumes nothing.
use Prim.Native.Nat.{ℕ, zero, suc, ◌+◌, ◌*◌, ◌%◌, ◌^◌, ◌<◌}
use mathlib.Core.Path.{◌≡◌, refl, sym, ap, ◌∙◌}
use native.Mathlib.Nat.{one-mul, pow-suc}
use native.Mathlib.Omega.{arith}
use lib.Pow.{pow_pos, pow-add, shl_exact}

pub shl_one : (k width : ℕ) → k < width → 1 * 2 ^ k % 2 ^ width ≡ 2 ^ k
shl_one k width h = shl_exact {a = 1} 1 k width (omega arith) (omega arith) ∙ one-mul (2 ^ k)

pub pow-octets : (k : ℕ) → 2 ^ (8 * k) ≡ 256 ^ k
pow-octets zero = refl
pow-octets (suc k) =
    let e : 8 * suc k ≡ 8 * k + 8 = omega arith in
    ap (λ (x : ℕ). 2 ^ x) e ∙ pow-add 2 (8 * k) 8 ∙ ap (λ (x : ℕ). x * 256) (pow-octets k) ∙ sym (pow-suc 256 k)

pub shl_octets : (k width : ℕ) → 8 * k < width → 1 * 2 ^ (8 * k) % 2 ^ width ≡ 256 ^ k
shl_octets k width h = shl_one (8 * k) width h ∙ pow-octets k

pub weight_pos : (k : ℕ) → 0 < 256 ^ k
weight_pos k = rw (← pow-octets k) (pow_pos (8 * k))
