-- What follows by computing from the definitions alone: every row of the table of P cases (01, "Worked list") and of 02, Q-3's and Q-7's, that the
-- witness's list is legal and its ledger what it should be, that the weak set decrypts wrong, and what keys and a ciphertext with dropped groups and
-- elements, and keys of both editions, report.
-- Assumes nothing.
use Prim.Native.Nat.{ℕ, ◌<◌}
use mathlib.Core.Path.{◌≡◌, refl}
use mathlib.Core.Bool.{true}
use mathlib.Core.List.{map}
use lib.Count.{count_leading_zeros}
use Rattle.definitions.specs.Sequences.{sum, every, how_many, tabulate, joined}
use Rattle.definitions.specs.Refusals.{first_refusal, answer}
use Rattle.definitions.specs.Parameters.{small_bits, term_sum, bound, headroom, range_fits, ring_fits, degree_fits, modulus_fits, message_fits, edition_fits, set_tests, bit_length, qlen, monomial_count, small_length, secret_length, elements_length, public_length, ciphertext_length, message_length, work_length}
use Rattle.definitions.specs.Ring.{modulo, add, scale, conv, one, power, full_degree}
use Rattle.definitions.specs.Monomials.{of_degree, monomials, monomial_at, polynomial_of, coefficients_of, constant_term, sum_of, same_monomial, product_of, evaluated, value_over, value}
use Rattle.definitions.specs.Octets.{number_of, octets_of, coefficient_at, decoded, encoded, coefficients_fit, bit_at, regrouped, unpacked, packed, padding_clear}
use Rattle.definitions.specs.Draws.{grouped, draws, draws_below, small_drawn, secret_draws, noise_drawn}
use Rattle.definitions.specs.Calls.{small_of, secret_x, secret_y, decoded_elements, octets_from, secret_bits_clear, elements_fit, secret_full, length_tests, keys_exact, encrypt_exact, add_exact, decrypt_exact, halves_used, key_elements, key_draws, key_constant, key_pair_of, keygen_answer, keygen_exit, mask_draws, noise_of, encrypted_with, mask_used, encrypt_used, encrypt_answer, encrypt_exit, decrypted_value, decrypted_element, tail_clear, message_of, decrypted_from, decrypt_answer, decrypt_exit, is_zero_at, is_zero_answer, is_zero_exit, sum_modulo, add_answer}
use Rattle.definitions.specs.Roomsheet.{in_front, split, decimal_from, decimal, is_number, decimal_length, decimal_text, well_formed, numbers_of, set_of, limits_text, line_limits, line_answer}
use borrow.Author.Tests.{eqb-true}
use lib.Dec.{eqb, lit<, lit≤}
use Rattle.definitions.specs.Ledger.{operand_of, ciphertext_answer, call_answer, given_after, given_by, event_of, events, entry_after, ledger_from, ledger, FromList, FromListUnder, LegalCall, Legal}
use Rattle.definitions.proofs.Sums.{every_at}
use Rattle.definitions.specs.WorkedCases.{Row, cases}
use Rattle.definitions.specs.Witness.{Witnessed, Weak}
use Rattle.definitions.specs.DroppedGroups.{draw_start, keygen_fixed, encrypt_fixed, DroppedGroupsWitnessed}
use Rattle.definitions.specs.DroppedElements.{degree_rows, DroppedElementsWitnessed}
use Rattle.definitions.specs.Editions.{edition_rows, line_six, line_seven, EditionsWitnessed}

-- equal at every place, by computing each
everywhere : (n m : ℕ) (f g : ℕ → ℕ → ℕ) → every n (λ i. every m (λ k. eqb (f i k) (g i k))) ≡ true
    → (i : ℕ) → i < n → (k : ℕ) → k < m → f i k ≡ g i k
everywhere n m f g e i l k s =
    eqb-true (f i k) (g i k) (every_at m (λ k. eqb (f i k) (g i k)) (every_at n (λ i. every m (λ k. eqb (f i k) (g i k))) e l) s)

computed : (map (λ (r : Row). r.given) cases ≡ map (λ (r : Row). r.expected) cases) × Witnessed × Weak × DroppedGroupsWitnessed
    × (map (λ (r : Row). r.given) degree_rows ≡ map (λ (r : Row). r.expected) degree_rows) × DroppedElementsWitnessed
    × (map (λ (r : Row). r.given) edition_rows ≡ map (λ (r : Row). r.expected) edition_rows) × EditionsWitnessed
unfolding
    cases degree_rows edition_rows line_six line_seven count_leading_zeros sum every tabulate joined first_refusal answer small_bits term_sum bound range_fits ring_fits degree_fits modulus_fits message_fits edition_fits set_tests
    bit_length qlen monomial_count small_length secret_length elements_length public_length ciphertext_length message_length work_length modulo add scale conv
    one power of_degree monomials monomial_at polynomial_of coefficients_of constant_term sum_of same_monomial product_of evaluated value_over value number_of
    octets_of coefficient_at decoded encoded coefficients_fit bit_at regrouped unpacked packed padding_clear grouped draws draws_below small_drawn secret_draws noise_drawn
    small_of secret_x secret_y decoded_elements octets_from secret_bits_clear elements_fit secret_full length_tests keys_exact encrypt_exact add_exact decrypt_exact halves_used key_elements key_draws key_constant key_pair_of keygen_answer keygen_exit
    mask_draws noise_of encrypted_with mask_used encrypt_used encrypt_answer encrypt_exit decrypted_value decrypted_element tail_clear message_of decrypted_from
    decrypt_answer decrypt_exit is_zero_at is_zero_answer is_zero_exit full_degree sum_modulo add_answer operand_of ciphertext_answer call_answer given_after given_by event_of events entry_after
    ledger_from ledger FromList FromListUnder LegalCall Legal draw_start keygen_fixed encrypt_fixed
    headroom how_many in_front split decimal_from decimal is_number decimal_length decimal_text well_formed numbers_of set_of limits_text line_limits line_answer
computed = (
  refl,
  record {
    set = refl;
    made = refl;
    zero = refl;
    legal = (refl, (tt, (tt, ((lit< tt, lit< tt), (tt, (refl, tt))))));
    told = refl;
    counts = refl;
    totals = refl;
    room = lit< tt;
    decrypted = refl;
    differs = everywhere 6 2 _ _ refl;
    first_masked = refl;
    first_unmasked = refl;
  },
  record {
    above_S = lit< tt;
    not_above_B = lit≤ tt;
    zero = refl;
    message = refl;
    decrypted = refl;
  },
  record {
    made = refl;
    encrypted = refl;
    keygen-refused = refl;
    encrypt-refused = refl;
    starts = refl;
    dropped = refl;
    enough = refl;
    at_36 = refl;
    at_128 = refl;
    at_65521 = refl;
    unfinished_draw = refl;
    unfinished_run = refl;
    keygen-fixed = refl;
    encrypt-fixed = refl;
  },
  refl,
  record {
    made = refl;
    exhausted = refl;
    zero-refused = refl;
    decrypt-refused = refl;
    tops = refl;
    single = refl;
    both = refl;
    set = refl;
    exact = refl;
    zero-tops = refl;
    unfinished = refl;
  },
  refl,
  record {
    set = refl;
    zero = refl;
    legal = (refl, (tt, (tt, ((lit< tt, lit< tt), (tt, (refl, tt))))));
    given = refl;
    judged = refl;
    fixed = refl;
    six = refl;
    seven = refl;
    numbers = refl;
    suffice = refl;
    exhausted-first = refl;
    refused-first = refl;
    made-first = refl;
    made-second = refl;
    exhausted-second = refl;
    refused-edition = refl;
  },
)

pub worked_cases : map (λ (r : Row). r.given) cases ≡ map (λ (r : Row). r.expected) cases
worked_cases = computed.0

pub witnessed : Witnessed
witnessed = computed.1

pub weak : Weak
weak = computed.2

pub dropped-groups_witnessed : DroppedGroupsWitnessed
dropped-groups_witnessed = computed.3

pub degree_rows_lem : map (λ (r : Row). r.given) degree_rows ≡ map (λ (r : Row). r.expected) degree_rows
degree_rows_lem = computed.4

pub dropped-elements_witnessed : DroppedElementsWitnessed
dropped-elements_witnessed = computed.5

pub edition_rows_lem : map (λ (r : Row). r.given) edition_rows ≡ map (λ (r : Row). r.expected) edition_rows
edition_rows_lem = computed.6

pub editions_witnessed : EditionsWitnessed
editions_witnessed = computed.7
