-- A key's octets, of its terms as they were drawn and any constant behind them: they fit, and the key's value is that of the terms and the constant.
-- Assumes nothing.
use Prim.Native.Nat.{ℕ, ◌+◌, ◌-◌, ◌*◌, ◌<◌}
use mathlib.Core.Path.{◌≡◌, ap, ap₂, ◌∙◌}
use mathlib.Core.Bool.{true}
use mathlib.Core.List.{List, ◌++◌}
use native.Mathlib.Omega.{arith}
use lib.Arith.{digits_lt}
use lib.ListN.{length, get_or, length-append, get_or-append}
use lib.Seq.{get_or-append-add}
use Rattle.definitions.specs.Parameters.{Parameters, qlen, monomial_count, elements_length, public_length}
use Rattle.definitions.specs.Ring.{Element}
use Rattle.definitions.specs.Monomials.{polynomial_of, value_over, value}
use Rattle.definitions.specs.Octets.{encoded}
use Rattle.definitions.specs.Calls.{polynomial_from, elements_fit}
use Rattle.definitions.proofs.Parameters.{Accepted}
use Rattle.definitions.proofs.Monomials.{count-suc}
use Rattle.definitions.proofs.Octets.{AllBelow, below-append, length-encoded}
use Rattle.definitions.proofs.Elements.{polynomial_from-encoded, elements_fit-encoded}
use Rattle.definitions.proofs.Values.{value-split, value_cong, value_over_cong}

module _ (p : Parameters) (others constant : List ℕ) (sized : length others ≡ (monomial_count p.dx - 1) * p.n) (long : length constant ≡ p.n) where
  abbrev octets : List ℕ
  octets = encoded (qlen p.q) (others ++ constant)

  coefficients_length : length (others ++ constant) ≡ monomial_count p.dx * p.n
  coefficients_length =
      length-append others constant ∙ ap₂ ◌+◌ sized long ∙ omega (arith, ap (λ (x : ℕ). x * p.n) (count-suc p.dx))

  pub key-length : length octets ≡ public_length p
  unfolding public_length elements_length
  key-length = length-encoded (qlen p.q) (others ++ constant) ∙ ap (λ (x : ℕ). x * qlen p.q) coefficients_length

  key_term : (i : ℕ) → i < monomial_count p.dx - 1 → (k : ℕ) → k < p.n → polynomial_of p.n (others ++ constant) i k ≡ polynomial_of p.n others i k
  unfolding polynomial_of
  key_term i l k s = get_or-append others constant 0 (i * p.n + k) (rw sized (digits_lt l s))

  key_constant_lem : (k : ℕ) → polynomial_of p.n (others ++ constant) (monomial_count p.dx - 1) k ≡ get_or constant k 0
  unfolding polynomial_of
  key_constant_lem k = rw (← sized) (get_or-append-add others constant k 0)

  module _ (a : Accepted p) (below : AllBelow p.q others) (last-below : AllBelow p.q constant) where
    coefficients_below : AllBelow p.q (others ++ constant)
    coefficients_below = below-append p.q others constant below last-below

    pub key_fits : elements_fit p (monomial_count p.dx) octets ≡ true
    key_fits = elements_fit-encoded p a (monomial_count p.dx) (others ++ constant) coefficients_length coefficients_below

    pub key-value : (ux uy : Element) (k : ℕ) → k < p.n
        → value p.n p.dx (polynomial_from p octets) ux uy k
        ≡ value_over (monomial_count p.dx - 1) p.n p.dx (polynomial_of p.n others) ux uy k + get_or constant k 0
    key-value ux uy k s =
        value_cong p.n p.dx ux uy
        (λ i l j m. polynomial_from-encoded p a (monomial_count p.dx) (others ++ constant) coefficients_length coefficients_below l m) k
        ∙ value-split p.n p.dx (polynomial_of p.n (others ++ constant)) ux uy s
        ∙ ap₂ ◌+◌ (value_over_cong (monomial_count p.dx - 1) p.n p.dx ux uy key_term k) (key_constant_lem k)
