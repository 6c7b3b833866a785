-- Why a ciphertext decrypts: its value at the secret is, modulo q, a whole number that is too small to wrap and that is the message modulo ℓ.
--
--   Represents       such whole numbers, at most β, stand behind a polynomial c of degree d at (u_x, u_y) for the element m
--   represents-..    an encryption has them (m + ℓ × e(u_x, u_y), at most B), a sum has the sums, and below q they decrypt
--
-- Degree and bound are parameters, and nothing here knows of a list of calls. Assumes nothing.
use Prim.Native.Nat.{ℕ, ◌+◌, ◌*◌, ◌%◌, ◌≤◌, ◌<◌}
use mathlib.Core.Path.{◌≡◌, refl, sym, ap, ◌∙◌}
use native.Mathlib.Nat.{add-mul-mod_self_left, mod-eq_of_lt, mul-le-mul_left, add-le-add, le_trans, zero-mod, lt_of_le_of_lt}
use native.Mathlib.Omega.{arith}
use Rattle.definitions.specs.Parameters.{Parameters, degree, term_sum, bound, monomial_count}
use Rattle.definitions.specs.Ring.{Element, modulo, add, scale, InRing}
use Rattle.definitions.specs.Monomials.{Polynomial, constant_term, sum_of, product_of, value}
use Rattle.definitions.specs.Calls.{encrypted_with}
use Rattle.definitions.proofs.Congruence.{Cong, cong_refl, cong_sym, cong_trans, cong_of_eq, cong_mod, cong_add}
use Rattle.definitions.proofs.Ring.{conv_cong_modulo, conv-zero_left}
use Rattle.definitions.proofs.Values.{value-add, value-scale, value-constant_term, value-mul, value_cong_modulo}

pub record Represents (n q l d β : ℕ) (c : Polynomial) (ux uy m : Element) : Type 0 where
  pub whole : Element
  pub small : (k : ℕ) → k < n → whole k ≤ β
  pub valued : (k : ℕ) → k < n → Cong q (whole k) (value n d c ux uy k)
  pub message : (k : ℕ) → k < n → Cong l (whole k) (m k)

-- two polynomials that are one modulo q
abbrev pub CongAt : ℕ → ℕ → ℕ → Polynomial → Polynomial → Type 0
CongAt q n d f g = (i : ℕ) → i < monomial_count d → (k : ℕ) → k < n → Cong q (f i k) (g i k)

-- (u_x, u_y) is a zero of a polynomial modulo q
abbrev pub Vanishes : ℕ → ℕ → ℕ → Polynomial → Element → Element → Type 0
Vanishes q n d f ux uy = (k : ℕ) → k < n → value n d f ux uy k % q ≡ 0

-- at a zero of a polynomial each of its products is zero
pub product_vanishes : (q n d e : ℕ) (f g : Polynomial) (ux uy : Element) → Vanishes q n d f ux uy
    → (k : ℕ) → Cong q (value n (d + e) (product_of n d e f g) ux uy k) 0
product_vanishes q n d e f g ux uy zero k =
    cong_trans (cong_of_eq (value-mul n d e f g ux uy k))
    (cong_trans (conv_cong_modulo n {b = λ i. 0} (λ i l. record { same = zero i l ∙ sym (zero-mod q) }) (λ i l. cong_refl) k)
    (cong_of_eq (conv-zero_left n (value n e g ux uy) (λ i l. refl) k)))

module _ {n q l d β : ℕ} {c : Polynomial} {ux uy m : Element} where
  pub represents_congruent : {f : Polynomial} → CongAt q n d c f → Represents n q l d β c ux uy m → Represents n q l d β f ux uy m
  represents_congruent h r =
      record {
        whole = r.whole;
        small = r.small;
        valued = λ k s. cong_trans (r.valued k s) (value_cong_modulo n d ux uy h k);
        message = r.message;
      }

  pub represents_weaken : {γ : ℕ} → β ≤ γ → Represents n q l d β c ux uy m → Represents n q l d γ c ux uy m
  represents_weaken h r =
      record { whole = r.whole; small = λ k s. le_trans (r.small k s) h; valued = r.valued; message = r.message }

  pub represents_decrypts : β < q → Represents n q l d β c ux uy m → (k : ℕ) → k < n → value n d c ux uy k % q % l ≡ m k % l
  represents_decrypts fits r k s =
      ap (λ (x : ℕ). x % l) (sym (r.valued k s).same ∙ mod-eq_of_lt (lt_of_le_of_lt (r.small k s) fits)) ∙ (r.message k s).same

  pub represents_add : {γ : ℕ} {f : Polynomial} {v : Element} → Represents n q l d β c ux uy m → Represents n q l d γ f ux uy v
      → Represents n q l d (β + γ) (sum_of c f) ux uy (add m v)
  unfolding add
  represents_add {f = f} r t =
      record {
        whole = λ k. r.whole k + t.whole k;
        small = λ k s. add-le-add (r.small k s) (t.small k s);
        valued = λ k s. cong_trans (cong_add (r.valued k s) (t.valued k s)) (cong_of_eq (sym (value-add n d c f ux uy k)));
        message = λ k s. cong_add (r.message k s) (t.message k s);
      }

-- the value of an encryption at a zero of its key: X × r vanishes
module _ (p : Parameters) (key r e : Polynomial) (m ux uy : Element) (zero : Vanishes p.q p.n p.dx key ux uy) where
  abbrev at : Polynomial → Element
  at f = value p.n (degree p) f ux uy

  abbrev masking : Polynomial
  masking = product_of p.n p.dx p.dr key r

  abbrev noise : Polynomial
  noise j = scale p.l (e j)

  abbrev unreduced : Polynomial
  unreduced = sum_of (sum_of (constant_term (degree p) m) masking) noise

  reduced : CongAt p.q p.n (degree p) (encrypted_with p key m r e) unreduced
  unfolding encrypted_with modulo
  reduced i l k s = cong_mod p.q (unreduced i k)

  parts : (k : ℕ) → k < p.n → at unreduced k ≡ m k + at masking k + p.l * at e k
  parts k s =
      rw (
        value-add p.n (degree p) (sum_of (constant_term (degree p) m) masking) noise ux uy k,
        value-add p.n (degree p) (constant_term (degree p) m) masking ux uy k,
        value-constant_term p.n (degree p) m ux uy s,
        value-scale p.n (degree p) p.l e ux uy k,
      )

  masked : (k : ℕ) → Cong p.q (m k + at masking k + p.l * at e k) (m k + p.l * at e k)
  masked k =
      cong_trans (cong_add (cong_add cong_refl (product_vanishes p.q p.n p.dx p.dr key r ux uy zero k)) cong_refl)
      (cong_of_eq (omega arith))

  pub encrypted-value : (k : ℕ) → k < p.n → Cong p.q (at (encrypted_with p key m r e) k) (m k + p.l * at e k)
  encrypted-value k s =
      cong_trans (value_cong_modulo p.n (degree p) ux uy reduced k) (cong_trans (cong_of_eq (parts k s)) (masked k))

  pub represents_encrypted : InRing p.l p.n m → ((k : ℕ) → k < p.n → at e k ≤ term_sum p)
      → Represents p.n p.q p.l (degree p) (bound p) (encrypted_with p key m r e) ux uy m
  represents_encrypted short bounded =
      record {
        whole = λ k. m k + p.l * at e k;
        small = λ k s. unfold bound in omega (arith, short k s, mul-le-mul_left p.l (bounded k s));
        valued = λ k s. cong_sym (encrypted-value k s);
        message = λ k s. record { same = add-mul-mod_self_left (m k) p.l (at e k) };
      }
