-- 01, "Draws from lent random octets" (keys, sealing, opening, adding, zero test) with "Refusal table", and 02, Q-1, Q-3 and Q-7: the answer of
-- every call of 01.
--
--   01's form is a ciphertext; its r is the mask here and its e the noise.
--
--   small_of          the small element packed in some octets
--   secret_x, secret_y u_x and u_y of a secret's octets
--   polynomial_in     the polynomial in some octets: n coefficients of so many octets each to an element
--   polynomial_from   the polynomial over R_q in some octets
--   octets_from       the octets of a polynomial
--   decoded_elements  the coefficients of so many elements from octets
--   secret_bits_clear  whether both halves of a secret have zero in their unused bits
--   elements_fit      whether each of so many elements' coefficients is below q
--   secret_full       whether both elements of a secret have degree n - 1
--   secret_tests      the tests after the length test that zero test and decryption share: of a secret, and a polynomial whose value there is taken
--   length_tests      the tests up to the length test
--   keys_exact        whether both keys and the work words have their exact lengths;  encrypt_exact, add_exact, decrypt_exact: the buffers of each
--   KeyPair          what key generation gives: both keys, the octets used, the groups and the elements dropped;  Encrypted: what encryption gives
--   half_draws        the draws of u_x, then u_y, the halves of a secret;  halves_used: the octets that they used, dropped elements included;
--                    drawn_x, drawn_y: u_x and u_y of them
--   key_elements      how many elements are drawn for a key, by the edition;  key_coefficients: how many coefficients these have;  key_draws: these draws
--   term_coefficients how many of these go into the key: all but the constant's;  key_terms: these, the first drawn;  key_constant: the key's constant;
--                    key_pair_of: all of it
--   mask_coefficients how many are drawn for r;  mask_draws: these draws;  mask_used: the octets that they used, dropped groups included;  encrypt_used:
--                    these and the octets of e
--   noise_of          the elements of e;  encrypted_with: m + X × r + ℓ × e
--   is_zero_at         whether a key's value at a pair is 0 in R_q;  sum_modulo: the sum of two polynomials over R_q
--   decrypted_value   w;  decrypted_element: w modulo ℓ;  decrypted_from: it from octets;  tail_clear: the tail test;  message_of: the octets of a message
--   ..Tests          the tests after the length test, in the order of Order.antt
--   ..Answer         keygen_answer (01: key making), is_zero_answer (zero test), encrypt_answer (sealing), add_answer (adding),
--                    decrypt_answer (opening): the answer, from the octets given and the lengths of the buffers lent
--   ..Leaves         what the caller has at exit: the number, every output and the work words, from an answer and what they held before
--   ..Exit           the same from what the call was lent: what contracts equate
--
-- Each answer is two ordered lists of tests, up to the length test and after it, and the values that are given where no test applies.
-- Assumes nothing.
use Rattle.std.specs.Prelude.{ℕ, ◌+◌, ◌-◌, ◌*◌, ◌%◌, Bool, cond, ◌&&◌, ◌||◌, not, List, [], ◌∷◌, ◌++◌, eqb, ltb, length, take, drop, get_or}
use Rattle.definitions.specs.Sequences.{every, tabulate}
use Rattle.definitions.specs.Refusals.{Test, refuse, Answer, answer, number, output, work_at_exit}
use Rattle.definitions.specs.Parameters.{Parameters, degree, small_bits, set_tests, qlen, monomial_count, small_length, secret_length, public_length, ciphertext_length, message_length, work_length}
use Rattle.definitions.specs.Ring.{Element, element_of, modulo, scale, full_degree}
use Rattle.definitions.specs.Monomials.{Polynomial, polynomial_of, coefficients_of, constant_term, sum_of, product_of, value_over, value}
use Rattle.definitions.specs.Octets.{coefficient_at, decoded, encoded, coefficients_fit, unpacked, packed, padding_clear}
use Rattle.definitions.specs.Draws.{Drawn, draws_below, octets_used, secret_draws, elements_used, noise_drawn}

-- ---- octets to ring elements and back

unfoldable pub small_of : Parameters → List ℕ → Element
small_of p octets = element_of (unpacked (small_bits p.l) p.n octets)

unfoldable pub secret_x : Parameters → List ℕ → Element
secret_x p secret = small_of p (take (small_length p) secret)

unfoldable pub secret_y : Parameters → List ℕ → Element
secret_y p secret = small_of p (drop (small_length p) secret)

unfoldable pub decoded_elements : Parameters → ℕ → List ℕ → List ℕ
decoded_elements p elements octets = decoded (qlen p.q) (elements * p.n) octets

abbrev pub polynomial_in : ℕ → ℕ → List ℕ → Polynomial
polynomial_in n len octets i k = coefficient_at len octets (i * n + k)

abbrev pub polynomial_from : Parameters → List ℕ → Polynomial
polynomial_from p = polynomial_in p.n (qlen p.q)

unfoldable pub octets_from : Parameters → ℕ → Polynomial → List ℕ
octets_from p d f = encoded (qlen p.q) (coefficients_of p.n (monomial_count d) f)

unfoldable pub secret_bits_clear : Parameters → List ℕ → Bool
secret_bits_clear p secret =
    padding_clear (p.n * small_bits p.l) (take (small_length p) secret)
    && padding_clear (p.n * small_bits p.l) (drop (small_length p) secret)

unfoldable pub elements_fit : Parameters → ℕ → List ℕ → Bool
elements_fit p elements octets = coefficients_fit p.q (decoded_elements p elements octets)

unfoldable pub secret_full : Parameters → List ℕ → Bool
secret_full p secret = full_degree p.n (secret_x p secret) && full_degree p.n (secret_y p secret)

-- of a polynomial of degree d in the octets, at the secret
abbrev pub secret_tests : Parameters → ℕ → List ℕ → List ℕ → List Test
secret_tests p d secret octets =
    refuse 7 (not (secret_bits_clear p secret))
    ∷ refuse 8 (not (elements_fit p (monomial_count d) octets))
    ∷ refuse 14 (not (secret_full p secret))
    ∷ []

-- the tests up to the length test, which applies where a length is not the exact one
unfoldable pub length_tests : Parameters → Bool → List Test
length_tests p exact = set_tests p ++ (refuse 6 (not exact) ∷ [])

unfoldable pub keys_exact : Parameters → ℕ → ℕ → ℕ → Bool
keys_exact p secret_len public_len work_len =
    eqb secret_len (secret_length p) && (eqb public_len (public_length p) && eqb work_len (work_length p))

unfoldable pub encrypt_exact : Parameters → ℕ → ℕ → ℕ → ℕ → Bool
encrypt_exact p public_len message_len ciphertext_len work_len =
    eqb public_len (public_length p)
    && (eqb message_len (message_length p) && (eqb ciphertext_len (ciphertext_length p) && eqb work_len (work_length p)))

unfoldable pub add_exact : Parameters → ℕ → ℕ → ℕ → Bool
add_exact p a_len b_len sum_len =
    eqb a_len (ciphertext_length p) && (eqb b_len (ciphertext_length p) && eqb sum_len (ciphertext_length p))

unfoldable pub decrypt_exact : Parameters → ℕ → ℕ → ℕ → ℕ → Bool
decrypt_exact p secret_len ciphertext_len message_len work_len =
    eqb secret_len (secret_length p)
    && (eqb ciphertext_len (ciphertext_length p) && (eqb message_len (message_length p) && eqb work_len (work_length p)))

-- ---- key generation (01: key making)

pub record KeyPair : Type 0 where
  pub secret : List ℕ
  pub public : List ℕ
  pub used : ℕ
  pub dropped_groups : ℕ
  pub dropped_elements : ℕ

-- u_x, then u_y: each is settled before the next octets are taken
abbrev pub half_draws : Parameters → List ℕ → Drawn (List ℕ)
half_draws p random = secret_draws p 2 random

abbrev pub drawn_x : Drawn (List ℕ) → List ℕ
drawn_x halves = get_or halves.values 0 []

abbrev pub drawn_y : Drawn (List ℕ) → List ℕ
drawn_y halves = get_or halves.values 1 []

unfoldable pub halves_used : Parameters → List ℕ → ℕ
halves_used p random = elements_used p (half_draws p random)

-- how many elements are drawn after u_x and u_y: in edition 1 all but the constant (01), in edition 2 the constant as well, after the others (02, Q-7)
unfoldable pub key_elements : Parameters → ℕ
key_elements p = cond (eqb p.edition 2) (monomial_count p.dx) (monomial_count p.dx - 1)

abbrev pub key_coefficients : Parameters → ℕ
key_coefficients p = key_elements p * p.n

-- how many of them are kept for the key: what is drawn for the constant comes last and is thrown away
abbrev pub term_coefficients : Parameters → ℕ
term_coefficients p = (monomial_count p.dx - 1) * p.n

abbrev pub key_terms : Parameters → Drawn ℕ → List ℕ
key_terms p drawn = take (term_coefficients p) drawn.values

unfoldable pub key_draws : Parameters → List ℕ → Drawn ℕ
key_draws p random = draws_below p.q (key_coefficients p) (drop (halves_used p random) random)

-- minus the sum of a_ij × u_x^i × u_y^j over the others
unfoldable pub key_constant : Parameters → List ℕ → Element → Element → Element
key_constant p terms ux uy k =
    (p.q - value_over (monomial_count p.dx - 1) p.n p.dx (polynomial_of p.n terms) ux uy k % p.q) % p.q

unfoldable pub key_pair_of : Parameters → Drawn (List ℕ) → Drawn ℕ → KeyPair
key_pair_of p halves drawn =
    record {
      secret = packed (small_bits p.l) (small_length p) (drawn_x halves) ++ packed (small_bits p.l) (small_length p) (drawn_y halves);
      public =
          encoded (qlen p.q)
          (key_terms p drawn ++ tabulate p.n (key_constant p (key_terms p drawn) (element_of (drawn_x halves)) (element_of (drawn_y halves))));
      used = elements_used p halves + octets_used p.q drawn;
      dropped_groups = drawn.dropped;
      dropped_elements = halves.dropped;
    }

abbrev pub keygen_tests : Parameters → List ℕ → List Test
keygen_tests p random = refuse 9 (not (half_draws p random).enough || not (key_draws p random).enough) ∷ []

unfoldable pub keygen_answer : Parameters → List ℕ → ℕ → ℕ → ℕ → Answer KeyPair
keygen_answer p random secret_len public_len work_len =
    answer
    (length_tests p (keys_exact p secret_len public_len work_len))
    (keygen_tests p random)
    (key_pair_of p (half_draws p random) (key_draws p random))

-- ---- zero test

unfoldable pub is_zero_at : Parameters → Polynomial → Element → Element → Bool
is_zero_at p key ux uy = every p.n (λ k. eqb (modulo p.q (value p.n p.dx key ux uy) k) 0)

abbrev pub is_zero_tests : Parameters → List ℕ → List ℕ → List Test
is_zero_tests p secret public = secret_tests p p.dx secret public

unfoldable pub is_zero_answer : Parameters → List ℕ → List ℕ → ℕ → Answer Bool
is_zero_answer p secret public work_len =
    answer
    (length_tests p (keys_exact p (length secret) (length public) work_len))
    (is_zero_tests p secret public)
    (is_zero_at p (polynomial_from p public) (secret_x p secret) (secret_y p secret))

-- ---- encryption (01: sealing)

pub record Encrypted : Type 0 where
  pub ciphertext : List ℕ
  pub used : ℕ
  pub dropped_groups : ℕ

-- how many coefficients are drawn for r
abbrev pub mask_coefficients : Parameters → ℕ
mask_coefficients p = monomial_count p.dr * p.n

unfoldable pub mask_draws : Parameters → List ℕ → Drawn ℕ
mask_draws p random = draws_below p.q (mask_coefficients p) random

-- the small elements of e, from the octets after r
unfoldable pub noise_of : Parameters → List ℕ → Polynomial
noise_of p random i = element_of (noise_drawn p (drop (i * small_length p) random))

-- c = m + X × r + ℓ × e, over R_q
unfoldable pub encrypted_with : Parameters → Polynomial → Element → Polynomial → Polynomial → Polynomial
encrypted_with p key m r e i =
    modulo p.q
    (sum_of (sum_of (constant_term (degree p) m) (product_of p.n p.dx p.dr key r)) (λ j. scale p.l (e j)) i)

unfoldable pub mask_used : Parameters → List ℕ → ℕ
mask_used p random = octets_used p.q (mask_draws p random)

unfoldable pub encrypt_used : Parameters → List ℕ → ℕ
encrypt_used p random = mask_used p random + monomial_count (degree p) * small_length p

abbrev pub encrypt_tests : Parameters → List ℕ → List ℕ → List ℕ → List Test
encrypt_tests p public message random =
    refuse 7 (not (padding_clear p.mlen message))
    ∷ refuse 8 (not (elements_fit p (monomial_count p.dx) public))
    ∷ refuse 9 (not (mask_draws p random).enough || ltb (length random) (encrypt_used p random))
    ∷ []

unfoldable pub encrypt_answer : Parameters → List ℕ → List ℕ → List ℕ → ℕ → ℕ → Answer Encrypted
encrypt_answer p public message random ciphertext_len work_len =
    answer
    (length_tests p (encrypt_exact p (length public) (length message) ciphertext_len work_len))
    (encrypt_tests p public message random)
    (record {
      ciphertext =
          octets_from p (degree p)
          (encrypted_with p (polynomial_from p public) (small_of p message) (polynomial_of p.n (mask_draws p random).values)
          (noise_of p (drop (mask_used p random) random)));
      used = encrypt_used p random;
      dropped_groups = (mask_draws p random).dropped;
    })

-- ---- addition (01: adding)

unfoldable pub sum_modulo : Parameters → Polynomial → Polynomial → Polynomial
sum_modulo p a b i = modulo p.q (sum_of a b i)

abbrev pub add_tests : Parameters → List ℕ → List ℕ → List Test
add_tests p a b = refuse 8 (not (elements_fit p (monomial_count (degree p)) a && elements_fit p (monomial_count (degree p)) b)) ∷ []

unfoldable pub add_answer : Parameters → List ℕ → List ℕ → ℕ → Answer (List ℕ)
add_answer p a b sum_len =
    answer
    (length_tests p (add_exact p (length a) (length b) sum_len))
    (add_tests p a b)
    (octets_from p (degree p) (sum_modulo p (polynomial_from p a) (polynomial_from p b)))

-- ---- decryption (01: opening)

-- w = c(u_x, u_y) in R_q
unfoldable pub decrypted_value : Parameters → Polynomial → Element → Element → Element
decrypted_value p c ux uy = modulo p.q (value p.n (degree p) c ux uy)

-- each coefficient of w as a number 0 to q - 1, then modulo ℓ
unfoldable pub decrypted_element : Parameters → Polynomial → Element → Element → Element
decrypted_element p c ux uy = modulo p.l (decrypted_value p c ux uy)

-- whether each coefficient past mlen bits is zero
unfoldable pub tail_clear : Parameters → Element → Bool
tail_clear p m = every p.n (λ k. ltb (k * small_bits p.l) p.mlen || eqb (m k) 0)

unfoldable pub message_of : Parameters → Element → List ℕ
message_of p m = packed (small_bits p.l) (message_length p) (tabulate p.n m)

unfoldable pub decrypted_from : Parameters → List ℕ → List ℕ → Element
decrypted_from p secret ciphertext =
    decrypted_element p (polynomial_from p ciphertext) (secret_x p secret) (secret_y p secret)

abbrev pub decrypt_tests : Parameters → List ℕ → List ℕ → List Test
decrypt_tests p secret ciphertext =
    secret_tests p (degree p) secret ciphertext ++ (refuse 10 (not (tail_clear p (decrypted_from p secret ciphertext))) ∷ [])

unfoldable pub decrypt_answer : Parameters → List ℕ → List ℕ → ℕ → ℕ → Answer (List ℕ)
decrypt_answer p secret ciphertext message_len work_len =
    answer
    (length_tests p (decrypt_exact p (length secret) (length ciphertext) message_len work_len))
    (decrypt_tests p secret ciphertext)
    (message_of p (decrypted_from p secret ciphertext))

-- ---- what the caller has at exit: the number, every output and the work words, from the answer and what was there before

pub record KeygenExit : Type 0 where
  pub refusal : ℕ
  pub secret : List ℕ
  pub public : List ℕ
  pub used : ℕ
  pub dropped_groups : ℕ
  pub dropped_elements : ℕ
  pub work : List ℕ

abbrev pub keygen_leaves : Answer KeyPair → List ℕ → List ℕ → ℕ → ℕ → ℕ → List ℕ → KeygenExit
keygen_leaves a secret public used dropped_groups dropped_elements work =
    record {
      refusal = number a;
      secret = output (λ k. k.secret) a secret;
      public = output (λ k. k.public) a public;
      used = output (λ k. k.used) a used;
      dropped_groups = output (λ k. k.dropped_groups) a dropped_groups;
      dropped_elements = output (λ k. k.dropped_elements) a dropped_elements;
      work = work_at_exit a work;
    }

unfoldable pub keygen_exit : Parameters → List ℕ → List ℕ → List ℕ → ℕ → ℕ → ℕ → List ℕ → KeygenExit
keygen_exit p random secret public used dropped_groups dropped_elements work =
    keygen_leaves (keygen_answer p random (length secret) (length public) (length work)) secret public used dropped_groups dropped_elements work

pub record IsZeroExit : Type 0 where
  pub refusal : ℕ
  pub zero : ℕ
  pub work : List ℕ

abbrev pub is_zero_leaves : Answer Bool → ℕ → List ℕ → IsZeroExit
is_zero_leaves a old work = record { refusal = number a; zero = output (λ holds. cond holds 1 0) a old; work = work_at_exit a work }

unfoldable pub is_zero_exit : Parameters → List ℕ → List ℕ → ℕ → List ℕ → IsZeroExit
is_zero_exit p secret public old work = is_zero_leaves (is_zero_answer p secret public (length work)) old work

pub record EncryptExit : Type 0 where
  pub refusal : ℕ
  pub ciphertext : List ℕ
  pub used : ℕ
  pub dropped_groups : ℕ
  pub work : List ℕ

abbrev pub encrypt_leaves : Answer Encrypted → List ℕ → ℕ → ℕ → List ℕ → EncryptExit
encrypt_leaves a ciphertext used dropped_groups work =
    record {
      refusal = number a;
      ciphertext = output (λ e. e.ciphertext) a ciphertext;
      used = output (λ e. e.used) a used;
      dropped_groups = output (λ e. e.dropped_groups) a dropped_groups;
      work = work_at_exit a work;
    }

unfoldable pub encrypt_exit : Parameters → List ℕ → List ℕ → List ℕ → List ℕ → ℕ → ℕ → List ℕ → EncryptExit
encrypt_exit p public message random ciphertext used dropped_groups work =
    encrypt_leaves (encrypt_answer p public message random (length ciphertext) (length work)) ciphertext used dropped_groups work

pub record AddExit : Type 0 where
  pub refusal : ℕ
  pub sum : List ℕ

abbrev pub add_leaves : Answer (List ℕ) → List ℕ → AddExit
add_leaves a sum = record { refusal = number a; sum = output (λ c. c) a sum }

unfoldable pub add_exit : Parameters → List ℕ → List ℕ → List ℕ → AddExit
add_exit p a b sum = add_leaves (add_answer p a b (length sum)) sum

pub record DecryptExit : Type 0 where
  pub refusal : ℕ
  pub message : List ℕ
  pub work : List ℕ

abbrev pub decrypt_leaves : Answer (List ℕ) → List ℕ → List ℕ → DecryptExit
decrypt_leaves a message work = record { refusal = number a; message = output (λ m. m) a message; work = work_at_exit a work }

unfoldable pub decrypt_exit : Parameters → List ℕ → List ℕ → List ℕ → List ℕ → DecryptExit
decrypt_exit p secret ciphertext message work =
    decrypt_leaves (decrypt_answer p secret ciphertext (length message) (length work)) message work
