-- Why small elements and secrets are their octets: b bits hold just the numbers below ℓ, and the octets of an element have room for n of them.
--
--   small_of-below, small_of-tail   an element read from octets is in R_ℓ, and zero past the octets' unused bits;  small_drawn_small: a drawn one
--   unpacked_element              a packed element reads back
--   secret_of-..                   a secret put together from two elements: its length, its padding, and the two read back
-- Assumes nothing.
use Prim.Native.Nat.{ℕ, ◌+◌, ◌*◌, ◌≤◌}
use mathlib.Core.Path.{◌≡◌, ap₂, ◌∙◌}
use mathlib.Core.Bool.{true}
use mathlib.Core.List.{List}
use native.Mathlib.Omega.{arith}
use lib.ListN.{length, take, drop, length-append}
use lib.Seq.{take_at, drop_at}
use Rattle.definitions.specs.Parameters.{Parameters, small_bits, small_length, secret_length}
use Rattle.definitions.specs.Ring.{element_of, InRing}
use Rattle.definitions.specs.Octets.{unpacked, packed, padding_clear}
use Rattle.definitions.specs.Draws.{small_drawn}
use Rattle.definitions.specs.Calls.{small_of, secret_x, secret_y, secret_bits_clear}
use Rattle.definitions.specs.Demand3.{secret_of, InSmallRing}
use Rattle.definitions.proofs.Packing.{length-unpacked, length-packed, unpacked-below, unpacked-packed, padding_clear-packed, unpacked-tail}
use Rattle.definitions.proofs.Parameters.{Accepted, small_bits-least, small_bits-power, small_length-room}

pub small_of-tail : (p : Parameters) (octets : List ℕ) (used : ℕ) → padding_clear used octets ≡ true
    → (k : ℕ) → used ≤ k * small_bits p.l → small_of p octets k ≡ 0
unfolding small_of
small_of-tail p octets used clear k past = unpacked-tail (small_bits p.l) p.n used octets k clear past

module _ (p : Parameters) (a : Accepted p) where
  pub unpacked_small : (octets : List ℕ) → InSmallRing p (unpacked (small_bits p.l) p.n octets)
  unpacked_small octets =
      record {
        sized = length-unpacked (small_bits p.l) p.n octets;
        below = λ k l.
            omega (
              arith,
              small_bits-power p a.range,
              unpacked-below (small_bits p.l) p.n octets k (rw (length-unpacked (small_bits p.l) p.n octets) l),
            );
      }

  pub small_drawn_small : (octets : List ℕ) → InSmallRing p (small_drawn p octets)
  unfolding small_drawn
  small_drawn_small octets = unpacked_small octets

  pub small_of-below : (octets : List ℕ) → InRing p.l p.n (small_of p octets)
  unfolding small_of
  small_of-below octets = (unpacked_small octets).below

  pub unpacked_element : (coefficients : List ℕ) → InSmallRing p coefficients
      → unpacked (small_bits p.l) p.n (packed (small_bits p.l) (small_length p) coefficients) ≡ coefficients
  unpacked_element coefficients small =
      unpacked-packed (small_bits p.l) p.n (small_length p) coefficients (small_bits-least p a.range) small.sized (small_length-room p)
      (λ k l. omega (arith, small_bits-power p a.range, small.below k (rw small.sized at l)))

  padded_element : (coefficients : List ℕ) → InSmallRing p coefficients
      → padding_clear (p.n * small_bits p.l) (packed (small_bits p.l) (small_length p) coefficients) ≡ true
  padded_element coefficients small =
      padding_clear-packed (small_bits p.l) p.n (small_length p) coefficients (small_bits-least p a.range) small.sized

  module _ (ux uy : List ℕ) where
    first : take (small_length p) (secret_of p ux uy) ≡ packed (small_bits p.l) (small_length p) ux
    first = take_at (packed (small_bits p.l) (small_length p) ux) _ (small_length p) (length-packed (small_bits p.l) (small_length p) ux)

    second : drop (small_length p) (secret_of p ux uy) ≡ packed (small_bits p.l) (small_length p) uy
    second = drop_at (packed (small_bits p.l) (small_length p) ux) _ (small_length p) (length-packed (small_bits p.l) (small_length p) ux)

    pub secret_of-length : length (secret_of p ux uy) ≡ secret_length p
    unfolding secret_length
    secret_of-length =
        length-append (packed (small_bits p.l) (small_length p) ux) _
        ∙ ap₂ ◌+◌ (length-packed (small_bits p.l) (small_length p) ux) (length-packed (small_bits p.l) (small_length p) uy)

    module _ (hx : InSmallRing p ux) (hy : InSmallRing p uy) where
      pub secret_of-padded : secret_bits_clear p (secret_of p ux uy) ≡ true
      unfolding secret_bits_clear
      secret_of-padded = rw (first, second, padded_element ux hx, padded_element uy hy)

      pub secret_of-x : secret_x p (secret_of p ux uy) ≡ element_of ux
      unfolding secret_x small_of
      secret_of-x = rw (first, unpacked_element ux hx)

      pub secret_of-y : secret_y p (secret_of p ux uy) ≡ element_of uy
      unfolding secret_y small_of
      secret_of-y = rw (second, unpacked_element uy hy)
