-- Why two ciphertexts that differ by a multiple of the key decrypt alike: at a zero of the key the multiple is zero, so their values are one modulo q.
-- Assumes nothing.
use Prim.Native.Nat.{ℕ, ◌<◌}
use mathlib.Core.Path.{◌≡◌}
use mathlib.Core.List.{List}
use native.Mathlib.Omega.{arith}
use Rattle.definitions.specs.Parameters.{Parameters, degree}
use Rattle.definitions.specs.Ring.{Element, modulo, add}
use Rattle.definitions.specs.Monomials.{Polynomial, sum_of, product_of, value}
use Rattle.definitions.specs.Calls.{polynomial_from, secret_x, secret_y, decrypted_value, decrypted_element, decrypted_from}
use Rattle.definitions.specs.Demand3.{DiffersBy, Alike}
use Rattle.definitions.proofs.Congruence.{Cong, cong_refl, cong_trans, cong_of_eq, cong_add}
use Rattle.definitions.proofs.Values.{value-add, value_cong_modulo}
use Rattle.definitions.proofs.Calls.{Zero, zero-told}
use Rattle.definitions.proofs.Represents.{CongAt, product_vanishes}
use Rattle.definitions.proofs.Decryption.{decrypts_alike}

module _ (p : Parameters) (public secret : List ℕ) (z : Zero p public secret) (c d : List ℕ) (r : Polynomial) (differs : DiffersBy p public r c d) where
  abbrev at : Polynomial → Element
  at f = value p.n (degree p) f (secret_x p secret) (secret_y p secret)

  abbrev multiple : Polynomial
  multiple = product_of p.n p.dx p.dr (polynomial_from p public) r

  differs_congruent : CongAt p.q p.n (degree p) (polynomial_from p c) (sum_of (polynomial_from p d) multiple)
  unfolding sum_of add
  differs_congruent i l k s = record { same = differs i l k s }

  values_alike : (k : ℕ) → Cong p.q (at (polynomial_from p c) k) (at (polynomial_from p d) k)
  values_alike k =
      cong_trans (value_cong_modulo p.n (degree p) (secret_x p secret) (secret_y p secret) differs_congruent k)
      (cong_trans (cong_of_eq (value-add p.n (degree p) (polynomial_from p d) multiple _ _ k))
      (cong_trans (cong_add cong_refl (product_vanishes p.q p.n p.dx p.dr _ r _ _ z.vanishes k)) (cong_of_eq (omega arith))))

  decrypted_alike : (k : ℕ) → k < p.n → decrypted_from p secret c k ≡ decrypted_from p secret d k
  unfolding decrypted_from decrypted_element decrypted_value modulo
  decrypted_alike k l = rw (values_alike k).same

pub alike : Alike
alike p set public secret zero c d wc wd r differs =
    decrypts_alike p secret c d wc wd (decrypted_alike p public secret (zero-told p public secret zero) c d r differs)
