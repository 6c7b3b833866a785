-- Why the zero test finds every small zero: the octets of a pair pass its tests and read back as the pair, so only both tops and the value are left
-- to test.
-- Assumes nothing.
use Prim.Native.Nat.{ℕ}
use mathlib.Core.Path.{◌≡◌}
use mathlib.Core.Bool.{true, ◌&&◌}
use mathlib.Core.List.{List}
use lib.ListN.{length}
use Rattle.definitions.specs.Parameters.{Parameters, monomial_count, public_length}
use Rattle.definitions.specs.Ring.{element_of, full_degree}
use Rattle.definitions.specs.Calls.{polynomial_from, elements_fit, secret_full}
use Rattle.definitions.specs.Demand3.{AcceptedSet, ZeroOf, InSmallRing, secret_of, SmallZeros}
use Rattle.definitions.proofs.Tests.{both_true}
use Rattle.definitions.proofs.Parameters.{accepted-set}
use Rattle.definitions.proofs.Calls.{zero-told, zero_of}
use Rattle.definitions.proofs.Represents.{Vanishes}
use Rattle.definitions.proofs.Small.{secret_of-length, secret_of-padded, secret_of-x, secret_of-y}

module _ (p : Parameters) (set : AcceptedSet p) (public ux uy : List ℕ) (hx : InSmallRing p ux) (hy : InSmallRing p uy) where
  abbrev vanishes : Type 0
  vanishes = Vanishes p.q p.n p.dx (polynomial_from p public) (element_of ux) (element_of uy)

  abbrev full : Type 0
  full = (full_degree p.n (element_of ux) ≡ true) × (full_degree p.n (element_of uy) ≡ true)

  tops : secret_full p (secret_of p ux uy) ≡ (full_degree p.n (element_of ux) && full_degree p.n (element_of uy))
  unfolding secret_full
  tops = rw (secret_of-x p (accepted-set p set) ux uy hx hy, secret_of-y p (accepted-set p set) ux uy hx hy)

  pub vanishes_zero : length public ≡ public_length p → elements_fit p (monomial_count p.dx) public ≡ true → full → vanishes
      → ZeroOf p public (secret_of p ux uy)
  vanishes_zero exact fits degrees zero =
      zero_of p public (secret_of p ux uy)
      (record {
        set = set;
        secret-exact = secret_of-length p (accepted-set p set) ux uy;
        public-exact = exact;
        padded = secret_of-padded p (accepted-set p set) ux uy hx hy;
        fits = fits;
        full = rw (tops, degrees.0, degrees.1);
        vanishes = rw (secret_of-x p (accepted-set p set) ux uy hx hy, secret_of-y p (accepted-set p set) ux uy hx hy) zero;
      })

  zero_vanishes : ZeroOf p public (secret_of p ux uy) → vanishes
  zero_vanishes zero =
      rw (secret_of-x p (accepted-set p set) ux uy hx hy, secret_of-y p (accepted-set p set) ux uy hx hy) at
      (zero-told p public (secret_of p ux uy) zero).vanishes

  zero-full : ZeroOf p public (secret_of p ux uy) → full
  zero-full zero = both_true _ _ (rw tops at (zero-told p public (secret_of p ux uy) zero).full)

pub small_zeros : SmallZeros
small_zeros p set public exact fits ux uy hx hy =
    record {
      read_x = secret_of-x p (accepted-set p set) ux uy hx hy;
      read_y = secret_of-y p (accepted-set p set) ux uy hx hy;
      tested = (
        (λ given. vanishes_zero p set public ux uy hx hy exact fits (given.0, given.1) given.2),
        (λ zero. ((zero-full p set public ux uy hx hy zero).0, (zero-full p set public ux uy hx hy zero).1, zero_vanishes p set public ux uy hx hy zero)),
      );
    }
