-- Why each ciphertext of a list decrypts to its entry: an encryption stands for its message with one bound, and a sum for the sum with the sum of bounds.
--
--   RepresentsEntry  a polynomial represents an entry with its count's bound, at every zero of the key
--   Kept             what holds of a ciphertext and its entry, whatever call gave it
--   kept-encrypted   of an accepted encryption;  kept-added: of an accepted addition
--   kept-holds       and that is enough for demand 3
-- Assumes nothing.
use Prim.Native.Nat.{ℕ, ◌-◌, ◌*◌, ◌≤◌}
use mathlib.Core.Path.{◌≡◌, sym}
use mathlib.Core.List.{List}
use native.Mathlib.Nat.{mod-lt, le_refl}
use native.Mathlib.Omega.{arith}
use lib.ListN.{take, drop}
use Rattle.definitions.specs.Parameters.{Parameters, degree, term_sum, bound, monomial_count, small_length, ciphertext_length}
use Rattle.definitions.specs.Ring.{Element, modulo, add, InRing}
use Rattle.definitions.specs.Monomials.{Polynomial, polynomial_of, sum_of, value}
use Rattle.definitions.specs.Draws.{noise_drawn}
use Rattle.definitions.specs.Calls.{Encrypted, small_of, secret_x, secret_y, polynomial_from, octets_from, mask_draws, noise_of, encrypted_with, mask_used, sum_modulo, decrypted_value, decrypted_element, decrypted_from}
use Rattle.definitions.specs.Ledger.{Entry, entry_sum}
use Rattle.definitions.specs.Demand3.{ZeroOf, WellFormed, ZeroPastMessage, EntryHolds}
use Rattle.definitions.proofs.Congruence.{cong_sym, cong_of_eq, cong_mod}
use Rattle.definitions.proofs.Ring.{AtMost}
use Rattle.definitions.proofs.Noise.{noise_le}
use Rattle.definitions.proofs.Parameters.{Accepted, modulus_positive}
use Rattle.definitions.proofs.Elements.{InRings, octets_from-length, octets_from-fits, polynomial_from-octets_from}
use Rattle.definitions.proofs.Small.{small_of-tail, small_drawn_small, small_of-below}
use Rattle.definitions.proofs.Calls.{zero-told, EncryptTold, AddTold}
use Rattle.definitions.proofs.Represents.{Represents, CongAt, represents_congruent, represents_weaken, represents_decrypts, represents_add, represents_encrypted}
use Rattle.definitions.proofs.Decryption.{decrypts_to}

-- a polynomial represents an entry at every zero of the key
abbrev pub RepresentsEntry : Parameters → List ℕ → Polynomial → Entry → Type 0
RepresentsEntry p public f entry =
    (secret : List ℕ) → ZeroOf p public secret →
    Represents p.n p.q p.l (degree p) (entry.count * bound p) f (secret_x p secret) (secret_y p secret) entry.places

pub record Kept (p : Parameters) (public c : List ℕ) (entry : Entry) : Type 0 where
  pub counted : 1 ≤ entry.count
  pub well_formed : WellFormed p c
  pub tail : ZeroPastMessage p entry.places
  pub represents : RepresentsEntry p public (polynomial_from p c) entry

pub kept-holds : (p : Parameters) (public c : List ℕ) (entry : Entry) → Kept p public c entry → EntryHolds p public c entry
unfolding decrypted_from decrypted_element decrypted_value modulo
kept-holds p public c entry kept =
    record {
      counted = kept.counted;
      well_formed = kept.well_formed;
      tail = kept.tail;
      decrypts = λ room secret zero.
          decrypts_to p public secret c entry.places (zero-told p public secret zero) kept.well_formed kept.tail
          (represents_decrypts room (kept.represents secret zero));
    }

module _ (p : Parameters) (a : Accepted p) where
  -- the octets of a polynomial over R_q
  octets_from_formed : (f : Polynomial) → InRings p.q p.n (monomial_count (degree p)) f → WellFormed p (octets_from p (degree p) f)
  unfolding ciphertext_length
  octets_from_formed f h = record { exact = octets_from-length p a (degree p) f; fits = octets_from-fits p a (degree p) f h }

  octets_from_congruent : (f : Polynomial) → InRings p.q p.n (monomial_count (degree p)) f
      → CongAt p.q p.n (degree p) f (polynomial_from p (octets_from p (degree p) f))
  octets_from_congruent f h i l k s = cong_of_eq (sym (polynomial_from-octets_from p a (degree p) f h l s))

  at_most : (b : Element) → InRing p.l p.n b → AtMost (p.l - 1) p.n b
  at_most b h k l = omega (arith, h k l)

  noise_small : (random : List ℕ) (i : ℕ) → InRing p.l p.n (noise_of p random i)
  unfolding noise_of noise_drawn
  noise_small random i = (small_drawn_small p a (take (small_length p) (drop (i * small_length p) random))).below

  secret_small_x : (secret : List ℕ) → InRing p.l p.n (secret_x p secret)
  unfolding secret_x
  secret_small_x secret = small_of-below p a (take (small_length p) secret)

  secret_small_y : (secret : List ℕ) → InRing p.l p.n (secret_y p secret)
  unfolding secret_y
  secret_small_y secret = small_of-below p a (drop (small_length p) secret)

  noise_bounded : (secret random : List ℕ) (k : ℕ)
      → value p.n (degree p) (noise_of p random) (secret_x p secret) (secret_y p secret) k ≤ term_sum p
  unfolding term_sum
  noise_bounded secret random k =
      noise_le p.n (degree p) p.l (noise_of p random) (secret_x p secret) (secret_y p secret)
      (at_most (secret_x p secret) (secret_small_x secret))
      (at_most (secret_y p secret) (secret_small_y secret))
      (λ i l. at_most (noise_of p random i) (noise_small random i))
      k

  encrypted_with-below : (key : Polynomial) (m : Element) (r e : Polynomial) (elements : ℕ) → InRings p.q p.n elements (encrypted_with p key m r e)
  unfolding encrypted_with modulo
  encrypted_with-below key m r e elements i l k s = mod-lt _ (modulus_positive p a)

  sum_modulo-below : (f g : Polynomial) (elements : ℕ) → InRings p.q p.n elements (sum_modulo p f g)
  unfolding sum_modulo modulo
  sum_modulo-below f g elements i l k s = mod-lt _ (modulus_positive p a)

  sum_modulo_congruent : (f g : Polynomial) → CongAt p.q p.n (degree p) (sum_of f g) (sum_modulo p f g)
  unfolding sum_modulo modulo
  sum_modulo_congruent f g i l k s = cong_sym (cong_mod p.q (sum_of f g i k))

  module _ (public : List ℕ) where
    -- the octets of a polynomial over R_q that represents an entry
    kept-octets : (f : Polynomial) (entry : Entry) (c : List ℕ) → octets_from p (degree p) f ≡ c → InRings p.q p.n (monomial_count (degree p)) f
        → 1 ≤ entry.count → ZeroPastMessage p entry.places → RepresentsEntry p public f entry
        → Kept p public c entry
    kept-octets f entry c e below counted tail represents =
        rw (← e)
        (record {
          counted = counted;
          well_formed = octets_from_formed f below;
          tail = tail;
          represents = λ secret zero. represents_congruent (octets_from_congruent f below) (represents secret zero);
        })

    pub kept-encrypted : (message random : List ℕ) (e : Encrypted) → EncryptTold p public message random e
        → Kept p public e.ciphertext (record { count = 1; places = small_of p message })
    kept-encrypted message random e told =
        let key : Polynomial = polynomial_from p public in
        let r : Polynomial = polynomial_of p.n (mask_draws p random).values in
        let later : List ℕ = drop (mask_used p random) random in
        kept-octets _ _ e.ciphertext told.encrypted (encrypted_with-below key (small_of p message) r (noise_of p later) _) (le_refl 1)
        (small_of-tail p message p.mlen told.padded)
        (λ secret zero.
        represents_weaken (omega arith)
        (represents_encrypted p key r (noise_of p later) (small_of p message) (secret_x p secret) (secret_y p secret)
        (zero-told p public secret zero).vanishes (small_of-below p a message) (λ k l. noise_bounded secret later k)))

    pub kept-added : (b c d : List ℕ) (x y : Entry) → AddTold p b c d → Kept p public b x → Kept p public c y → Kept p public d (entry_sum x y)
    unfolding add
    kept-added b c d x y told kb kc =
        kept-octets _ (entry_sum x y) d told.added (sum_modulo-below _ _ _) (omega (arith, kb.counted))
        (λ k past. omega (arith, kb.tail k past, kc.tail k past))
        (λ secret zero.
        represents_weaken (omega arith)
        (represents_congruent (sum_modulo_congruent _ _) (represents_add (kb.represents secret zero) (kc.represents secret zero))))
