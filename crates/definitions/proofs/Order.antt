-- Why every call tests in the order of the table: its lists of tests are written in that order, which is computed.
-- Assumes nothing.
use mathlib.Core.Path.{◌≡◌, refl}
use mathlib.Core.Bool.{true}
use mathlib.Core.List.{List, map}
use Rattle.definitions.specs.Refusals.{Test, answer}
use Rattle.definitions.specs.Parameters.{set_tests, limits_answer, lengths_answer}
use Rattle.definitions.specs.Calls.{length_tests, keygen_answer, is_zero_answer, encrypt_answer, add_answer, decrypt_answer}
use Rattle.definitions.specs.MultiplyAdd.{multiply_add_answer}
use Rattle.definitions.specs.Conversions.{from_octets_answer, to_octets_answer, packed_from_answer, packed_to_answer}
use Rattle.definitions.specs.Roomsheet.{line_limits}
use Rattle.definitions.specs.Order.{up_to_length, after_length, stands_in, number_of_test, InOrder, RefusalOrder}

by : {A : Type 0} (first later : List Test) (value : A) → stands_in up_to_length (map number_of_test first) ≡ true
    → stands_in after_length (map number_of_test later) ≡ true → InOrder (answer first later value) first later
by first later value e f = record { value = value; is = refl; first_ordered = e; later_ordered = f }

pub refusal_order : RefusalOrder
unfolding
    set_tests length_tests limits_answer lengths_answer keygen_answer is_zero_answer encrypt_answer add_answer decrypt_answer multiply_add_answer from_octets_answer
    to_octets_answer packed_from_answer packed_to_answer line_limits
refusal_order =
    record {
      limits = λ p. by _ _ _ refl refl;
      lengths = λ p. by _ _ _ refl refl;
      keygen = λ p random s q w. by _ _ _ refl refl;
      is_zero = λ p s q w. by _ _ _ refl refl;
      encrypt = λ p q m r c w. by _ _ _ refl refl;
      add = λ p a b s. by _ _ _ refl refl;
      decrypt = λ p s c m w. by _ _ _ refl refl;
      multiply_add = λ p a b c. by _ _ _ refl refl;
      from_octets = λ p e o w. by _ _ _ refl refl;
      to_octets = λ p e w o. by _ _ _ refl refl;
      packed_from = λ p e o w. by _ _ _ refl refl;
      packed_to = λ p e w o. by _ _ _ refl refl;
      line = λ line. by _ _ _ refl refl;
    }
