-- Why the value that is found is that of the definitions: the octets' coefficients are the polynomial's, and the first two parts the secret's.
--
--   value_sizes, value-tops, value-octets, value-modulus, unpacked-x, unpacked-y    what taking the value and looking at the tops ask
--   unpacked-full          the degrees are those of the secret
--   valued-..              what each return leaves
-- Assumes nothing.
use Prim.Native.Nat.{ℕ, ◌-◌, ◌*◌, ◌%◌, ◌≤◌, ◌<◌}
use mathlib.Core.Path.{◌≡◌, sym, ap, ap₂, ◌∙◌}
use mathlib.Core.Bool.{Bool, true, false, not, ◌&&◌}
use mathlib.Core.List.{List, [], ◌∷◌}
use native.Mathlib.Nat.{lt_of_lt_of_le, pos_of_ne-zero}
use native.Mathlib.Omega.{arith}
use lib.Dec.{eqb}
use lib.ListN.{length}
use Rattle.definitions.specs.Refusals.{Test, refuse, first_refusal}
use Rattle.definitions.specs.Parameters.{Parameters, qlen, monomial_count, elements_length, work_length}
use Rattle.definitions.specs.Ring.{InRing, modulo, full_degree}
use Rattle.definitions.specs.Monomials.{value}
use Rattle.definitions.specs.Octets.{decoded}
use Rattle.definitions.specs.Calls.{secret_x, secret_y, secret_bits_clear, decoded_elements, polynomial_from, elements_fit, secret_full, secret_tests}
use Rattle.definitions.proofs.Refusals.{first_refusal_applies, first_refusal_passes, first_refusal_last, first_refusal-append, first_refusal-append-refused}
use Rattle.definitions.proofs.Parameters.{Accepted, accepted-set, modulus_positive, modulus-least, modulus_word, qlen-least, qlen-most, range_most}
use Rattle.definitions.proofs.Small.{small_of-below}
use Rattle.definitions.proofs.Values.{value_cong_secret}
use Rattle.ring.specs.Work.{part}
use Rattle.decoding.specs.Elements.{Sizes}
use Rattle.judging.specs.Reading.{fit_number}
use Rattle.secrets.specs.Secrets.{ValueInputs, Unpacked, Valued}

module _ (n : ℕ) (work : List ℕ) where
  abbrev full_parts : Bool
  full_parts = full_degree n (part work 0) && full_degree n (part work n)

module _ (p : Parameters) (d : ℕ) (secret octets : List ℕ) where
  module _ {work : List ℕ} (exact : ValueInputs p d secret octets work) where
    set : Accepted p
    set = accepted-set p exact.set

    pub value_sizes : {mid : List ℕ} → length mid ≡ length work → Sizes p.n (qlen p.q) mid
    unfolding work_length
    value_sizes e =
        record {
          places = omega (arith, set.ring_least);
          most = set.ring_most;
          octets-least = qlen-least p.q (modulus_positive p set) (modulus_word p set);
          octets-most = qlen-most p.q;
          room = e ∙ exact.work-length;
        }

    pub value-tops : {words : ℕ} → words ≡ length work → (2 ≤ p.n) × (2 * p.n ≤ words)
    unfolding work_length
    value-tops e = (set.ring_least, omega (arith, exact.work-length))

    pub value-octets : length octets ≡ monomial_count d * p.n * qlen p.q
    unfolding elements_length
    value-octets = exact.octets-length

    pub value-modulus : (16 ≤ p.q) × (p.q < 2147483648)
    value-modulus = (omega (arith, modulus-least p set), omega (arith, set.modulus-most))

    module _ {mid : List ℕ} (u : Unpacked p secret mid) where
      pub unpacked-x : InRing 16 p.n (part mid 0)
      unfolding secret_x
      unpacked-x k l = rw (u.x k l) (lt_of_lt_of_le (small_of-below p set _ k l) (range_most p set.range))

      pub unpacked-y : InRing 16 p.n (part mid p.n)
      unfolding secret_y
      unpacked-y k l = rw (u.y k l) (lt_of_lt_of_le (small_of-below p set _ k l) (range_most p set.range))

      pub unpacked-full : full_parts p.n mid ≡ secret_full p secret
      unfolding secret_full full_degree
      unpacked-full =
          let top : p.n - 1 < p.n = omega (arith, set.ring_least) in
          ap₂ (λ (x y : ℕ). not (eqb x 0) && not (eqb y 0)) (u.x (p.n - 1) top) (u.y (p.n - 1) top)

  pub valued_padding : (work : List ℕ) → secret_bits_clear p secret ≡ false → Valued p d secret octets 7 work
  valued_padding work e =
      record {
        number = sym (first_refusal_applies 7 _ _ (rw e));
        value = λ z. let n : ⊥ = omega arith in absurd n;
      }

  abbrev coefficient_tests : List Test
  coefficient_tests = refuse 8 (not (elements_fit p (monomial_count d) octets)) ∷ []

  abbrev top_tests : List Test
  top_tests = refuse 14 (not (secret_full p secret)) ∷ []

  module _ {r : ℕ} (clear : secret_bits_clear p secret ≡ true) (number : r ≡ fit_number p.q (decoded (qlen p.q) (monomial_count d * p.n) octets)) where
    judged : r ≡ first_refusal coefficient_tests
    unfolding fit_number elements_fit decoded_elements
    judged = number

    pub valued_coefficient : (work : List ℕ) → (r ≡ 0 → ⊥) → Valued p d secret octets r work
    valued_coefficient work h =
        record {
          number = judged
              ∙ sym (first_refusal_passes 7 _ _ (rw clear)
              ∙ first_refusal-append-refused coefficient_tests top_tests (rw (← judged) (pos_of_ne-zero h)));
          value = λ z. absurd (h z);
        }

    module _ (none : r ≡ 0) where
      -- the last test decides
      decides : first_refusal (secret_tests p d secret octets) ≡ first_refusal top_tests
      decides = first_refusal_passes 7 _ _ (rw clear) ∙ first_refusal-append coefficient_tests top_tests (omega arith, tt) (sym judged ∙ none)

      pub valued_top : (work : List ℕ) → secret_full p secret ≡ false → Valued p d secret octets 14 work
      valued_top work e =
          record {
            number = sym (decides ∙ first_refusal_applies 14 _ _ (rw e));
            value = λ z. let n : ⊥ = omega arith in absurd n;
          }

      pub valued_found : {mid new : List ℕ} → secret_full p secret ≡ true → Unpacked p secret mid
          → ((k : ℕ) → k < p.n → part new (2 * p.n) k ≡ value p.n d (polynomial_from p octets) (part mid 0) (part mid p.n) k % p.q)
          → Valued p d secret octets 0 new
      unfolding modulo
      valued_found e u found =
          record {
            number = sym (decides ∙ first_refusal_last 14 _ (rw e));
            value = λ z k l.
                found k l
                ∙ ap (λ (v : ℕ). v % p.q) (value_cong_secret p.n d (polynomial_from p octets) u.x u.y k);
          }
