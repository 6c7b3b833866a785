-- Why a made key has its secret as a zero: its constant is minus the value of its other terms there, so the value of the whole is 0 modulo q.
-- Assumes nothing.
use Prim.Native.Nat.{ℕ, suc, ◌+◌, ◌-◌, ◌*◌, ◌/◌, ◌%◌, ◌≤◌, ◌<◌}
use mathlib.Core.Path.{◌≡◌, subst}
use mathlib.Core.Bool.{Bool, true, false, cond}
use mathlib.Core.List.{List, ◌++◌}
use native.Mathlib.Nat.{mod-lt, div-add-mod, add-mod-mod, mul-mod_right, mul-le-mul_right}
use native.Mathlib.Omega.{arith}
use lib.Dec.{eqb, lit<}
use lib.ListN.{length, get_or}
use lib.Seq.{length-take-le}
use Rattle.definitions.specs.Sequences.{tabulate}
use Rattle.definitions.specs.Parameters.{Parameters, qlen, monomial_count}
use Rattle.definitions.specs.Ring.{Element, element_of, full_degree}
use Rattle.definitions.specs.Octets.{encoded}
use Rattle.definitions.specs.Calls.{KeyPair, key_elements, key_coefficients, term_coefficients, key_terms, half_draws, drawn_x, drawn_y, key_draws, key_constant, key_pair_of}
use Rattle.definitions.specs.Demand3.{AcceptedSet, ZeroOf, InSmallRing, secret_of, MadeKeys}
use Rattle.definitions.proofs.Sums.{length-tabulate, get_or_tabulate}
use Rattle.definitions.proofs.Parameters.{Accepted, accepted-set, modulus_positive}
use Rattle.definitions.proofs.Octets.{AllBelow, below-take}
use Rattle.definitions.proofs.Draws.{draws_below-values, draws_below-length, secret_draws-length, secret_draws-full}
use Rattle.definitions.proofs.Small.{small_drawn_small}
use Rattle.definitions.proofs.KeyTerms.{key-length, key_fits, key-value}
use Rattle.definitions.proofs.SecretDraws.{halves_told}
use Rattle.definitions.proofs.Calls.{keygen-told}
use Rattle.definitions.proofs.Zeros.{vanishes_zero}

negated-sum : (q v : ℕ) → 0 < q → (v + (q - v % q) % q) % q ≡ 0
negated-sum q v pos =
    let whole : v + (q - v % q) ≡ q * suc (v / q) = omega (arith, div-add-mod v q, mod-lt v pos) in
    rw (add-mod-mod, whole, mul-mod_right)

module _ (p : Parameters) (set : AcceptedSet p) (ux uy others : List ℕ) (hx : InSmallRing p ux) (hy : InSmallRing p uy)
    (degrees : (full_degree p.n (element_of ux) ≡ true) × (full_degree p.n (element_of uy) ≡ true))
    (sized : length others ≡ term_coefficients p) (below : AllBelow p.q others) where
  abbrev constant : Element
  constant = key_constant p others (element_of ux) (element_of uy)

  constant_at : (k : ℕ) → k < p.n → get_or (tabulate p.n constant) k 0 ≡ constant k
  constant_at k l = get_or_tabulate p.n constant 0 l

  constant_below : AllBelow p.q (tabulate p.n constant)
  unfolding key_constant
  constant_below k l = rw (constant_at k (rw (length-tabulate p.n constant) at l)) (mod-lt _ (modulus_positive p (accepted-set p set)))

  key-zero : ZeroOf p (encoded (qlen p.q) (others ++ tabulate p.n constant)) (secret_of p ux uy)
  unfolding key_constant
  key-zero =
      let a : Accepted p = accepted-set p set in
      let long : length (tabulate p.n constant) ≡ p.n = length-tabulate p.n constant in
      vanishes_zero p set _ ux uy hx hy (key-length p others _ sized long)
      (key_fits p others _ sized long a below constant_below) degrees
      (λ k l. rw (key-value p others _ sized long a below constant_below (element_of ux) (element_of uy) k l, constant_at k l)
      (negated-sum p.q _ (modulus_positive p a)))

-- the terms are among the coefficients that either edition draws
pub key_elements-least : (p : Parameters) → monomial_count p.dx - 1 ≤ key_elements p
unfolding key_elements
key_elements-least p = go (eqb p.edition 2)
  where
    go : (t : Bool) → monomial_count p.dx - 1 ≤ cond t (monomial_count p.dx) (monomial_count p.dx - 1)
    go true = omega arith
    go false = omega arith

drawn_length : (p : Parameters) (random : List ℕ) → (key_draws p random).enough ≡ true → length (key_draws p random).values ≡ key_coefficients p
unfolding key_draws
drawn_length p random enough = draws_below-length p.q (key_coefficients p) _ enough

pub key_terms-length : (p : Parameters) (random : List ℕ) → (key_draws p random).enough ≡ true → length (key_terms p (key_draws p random)) ≡ term_coefficients p
key_terms-length p random enough =
    length-take-le (term_coefficients p) _ (rw (drawn_length p random enough) (mul-le-mul_right p.n (key_elements-least p)))

key_draws-below : (p : Parameters) (random : List ℕ) → AllBelow p.q (key_draws p random).values
unfolding key_draws
key_draws-below p random = draws_below-values p.q (key_coefficients p) _

pub key_terms-below : (p : Parameters) (random : List ℕ) → AllBelow p.q (key_terms p (key_draws p random))
key_terms-below p random = below-take p.q (term_coefficients p) _ (key_draws-below p random)

-- u_x and u_y are small, and have degree n - 1
pub halves_small : (p : Parameters) → Accepted p → (random : List ℕ) → (half_draws p random).enough ≡ true
    → InSmallRing p (drawn_x (half_draws p random)) × InSmallRing p (drawn_y (half_draws p random))
halves_small p a random settled =
    let halves = halves_told p random settled in
    (rw halves.x_drawn (small_drawn_small p a _), rw halves.y_drawn (small_drawn_small p a _))

halves_full : (p : Parameters) (random : List ℕ) → (half_draws p random).enough ≡ true
    → (full_degree p.n (element_of (drawn_x (half_draws p random))) ≡ true) × (full_degree p.n (element_of (drawn_y (half_draws p random))) ≡ true)
halves_full p random settled =
    let two = secret_draws-length p 2 random settled in
    (secret_draws-full p 2 random 0 (rw two (lit< tt)), secret_draws-full p 2 random 1 (rw two (lit< tt)))

pub made_keys : MadeKeys
unfolding key_pair_of
made_keys p random secret_len public_len work_len keys given =
    let told = keygen-told p random secret_len public_len work_len keys given in
    let small = halves_small p (accepted-set p told.set) random told.settled in
    subst (λ (k : KeyPair). ZeroOf p k.public k.secret) told.made
    (key-zero p told.set (drawn_x (half_draws p random)) (drawn_y (half_draws p random)) (key_terms p (key_draws p random)) small.0 small.1
    (halves_full p random told.settled) (key_terms-length p random told.enough) (key_terms-below p random))
