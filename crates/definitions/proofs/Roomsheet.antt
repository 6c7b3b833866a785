-- Why the printed numbers read back: a number's decimal digits, highest first, write it again, and there is no needless one.
--
--   decimal_length-..        a number has just that many digits
--   digits_suc              the last digits of a number, by the first of them
--   decimal-decimal_text     the text of a number reads as the number;  is_number-decimal_text: and is a number of the grammar
--   roomsheet_empty_line    an empty line has an answer of its own
-- Assumes nothing.
use Prim.Native.Nat.{ℕ, zero, suc, ◌+◌, ◌-◌, ◌*◌, ◌/◌, ◌%◌, ◌^◌, ◌≤◌, ◌<◌}
use mathlib.Core.Path.{◌≡◌, refl, ap, ap₂, ◌∙◌}
use mathlib.Core.Bool.{Bool, true, false, cond, ◌||◌, or-true}
use mathlib.Core.List.{◌∷◌}
use native.Mathlib.Nat.{add-sub_cancel_left, zero-mul, zero-add, pow-succ', pow-le-pow_right, one-le-pow, mod-eq_of_lt, le_trans, suc-sub-suc, sub-zero, mul-one, add-zero, div-lt_iff_lt-mul, le-div_iff_mul-le}
use native.Mathlib.Decide.{dec_lt}
use native.Mathlib.Omega.{arith}
use borrow.Author.Tests.{le-leb, lt-leb, eq-eqb}
use lib.Dec.{leb, eqb}
use lib.Arith.{mod-mul}
use lib.ListN.{length, get_or}
use Rattle.definitions.specs.Sequences.{sum, every, joined, how_many, tabulate}
use Rattle.definitions.specs.Refusals.{first_refusal, answer}
use Rattle.definitions.specs.Parameters.{limits_answer}
use Rattle.definitions.specs.Roomsheet.{Text, split, lines_of, is_digit, decimal_from, decimal, is_number, decimal_length, decimal_text, well_formed, numbers_of, set_of, limits_text, line_limits, line_answer, roomsheet}
use Rattle.definitions.proofs.Sums.{sum_cong, sum_const, every_true, length-tabulate, get_or_tabulate, tabulate_cong}

-- ---- how many digits

-- how many of 10, 100, .., 10^n a number reaches
abbrev reached : ℕ → ℕ → ℕ
reached n x = how_many n (λ k. leb (10 ^ suc k) x)

pub pow_ten_positive : (k : ℕ) → 0 < 10 ^ k
pow_ten_positive k = one-le-pow k 10 (omega arith)

reached_all : (n x : ℕ) → 10 ^ n ≤ x → reached n x ≡ n
unfolding how_many
reached_all n x h =
    sum_cong n (λ k l. ap (λ (t : Bool). cond t 1 0) (le-leb (10 ^ suc k) x (le_trans (pow-le-pow_right (omega arith) l) h)))
    ∙ sum_const n 1 ∙ mul-one n

reached_fewer : (n x : ℕ) → x < 10 ^ suc n → reached (suc n) x ≡ reached n x
unfolding how_many sum
reached_fewer n x h = rw (lt-leb (10 ^ suc n) x h) (add-zero _)

-- so a number reaches the last of these and none after it
record LastReached (x h : ℕ) : Type 0 where
  above : x < 10 ^ suc h
  below : 0 < h → 10 ^ h ≤ x

reached_last : (n x : ℕ) → x < 10 ^ suc n → LastReached x (reached n x)
reached_last zero x h = unfold how_many sum in record { above = h; below = λ l. let z : ⊥ = omega arith in absurd z }
reached_last (suc n) x h =
    elim (dec_lt x (10 ^ suc n)) [
      | yes l ↦ rw (reached_fewer n x l) (reached_last n x l)
      | no g ↦ let full : 10 ^ suc n ≤ x = omega arith in rw (reached_all (suc n) x full) (record { above = h; below = λ l. full })
    ]

-- ---- the digits write the number

-- the last len digits of a number
abbrev pub digits : ℕ → ℕ → Text
digits len x = tabulate len (λ i. 48 + x / 10 ^ (len - suc i) % 10)

pub digits_suc : (len x : ℕ) → digits (suc len) x ≡ (48 + x / 10 ^ len % 10) ∷ digits len x
unfolding tabulate
digits_suc len x =
    ap₂ ◌∷◌ (ap (λ (k : ℕ). 48 + x / 10 ^ k % 10) (suc-sub-suc len 0 ∙ sub-zero len))
    (tabulate_cong len (λ i l. ap (λ (k : ℕ). 48 + x / 10 ^ k % 10) (suc-sub-suc len (suc i))))

decimal_from-cons : (a d : ℕ) (field : Text) → decimal_from a ((48 + d) ∷ field) ≡ decimal_from (10 * a + d) field
unfolding decimal_from
decimal_from-cons a d field = ap (λ (k : ℕ). decimal_from (10 * a + k) field) (add-sub_cancel_left 48 d)

decimal_from_digits : (len a x : ℕ) → decimal_from a (digits len x) ≡ a * 10 ^ len + x % 10 ^ len
decimal_from_digits zero a x = unfold decimal_from tabulate in omega arith
decimal_from_digits (suc len) a x =
    let low = mod-mul x {m = 10} {c = 10 ^ len} (omega arith) (pow_ten_positive len) in
    rw (
      digits_suc len x,
      decimal_from-cons a (x / 10 ^ len % 10) (digits len x),
      decimal_from_digits len (10 * a + x / 10 ^ len % 10) x,
      pow-succ' 10 len,
      low,
    ) (omega arith)

pub decimal_length_above : (x : ℕ) → x < 10 ^ 10 → x < 10 ^ decimal_length x
unfolding decimal_length
decimal_length_above x h = (reached_last 9 x h).above

pub decimal_length_positive : (x : ℕ) → 1 ≤ decimal_length x
unfolding decimal_length
decimal_length_positive x = omega arith

pub decimal_length-below : (x : ℕ) → x < 10 ^ 10 → 1 < decimal_length x → 10 ^ (decimal_length x - 1) ≤ x
unfolding decimal_length
decimal_length-below x h l = rw (suc-sub-suc (reached 9 x) 0, sub-zero (reached 9 x)) ((reached_last 9 x h).below (omega arith))

pub decimal-decimal_text : (x : ℕ) → x < 10 ^ 10 → decimal (decimal_text x) ≡ x
unfolding decimal decimal_text
decimal-decimal_text x h =
    decimal_from_digits (decimal_length x) 0 x ∙ rw (mod-eq_of_lt (decimal_length_above x h), zero-mul (10 ^ decimal_length x)) (zero-add x)

-- ---- the text is a number of the grammar

pub length-decimal_text : (x : ℕ) → length (decimal_text x) ≡ decimal_length x
unfolding decimal_text
length-decimal_text x = length-tabulate (decimal_length x) _

get_or-decimal_text : (x : ℕ) {i : ℕ} → i < decimal_length x → get_or (decimal_text x) i 0 ≡ 48 + x / 10 ^ (decimal_length x - suc i) % 10
unfolding decimal_text
get_or-decimal_text x l = get_or_tabulate (decimal_length x) _ 0 l

is_digit_of : (d : ℕ) → d < 10 → is_digit (48 + d) ≡ true
is_digit_of d h = rw (le-leb 48 (48 + d) (omega arith), le-leb (48 + d) 57 (omega arith))

decimal_text_digits : (x : ℕ) → every (length (decimal_text x)) (λ i. is_digit (get_or (decimal_text x) i 0)) ≡ true
decimal_text_digits x =
    every_true (length (decimal_text x)) (λ i l.
    let inside : i < decimal_length x = omega (arith, length-decimal_text x) in
    ap is_digit (get_or-decimal_text x inside) ∙ is_digit_of (x / 10 ^ (decimal_length x - suc i) % 10) (omega arith))

-- a number of more than one digit starts with another than 0
first_digit : (h x : ℕ) → 10 ^ h ≤ x → x < 10 ^ suc h → 1 ≤ x / 10 ^ h % 10
first_digit h x low high =
    let a : 1 ≤ x / 10 ^ h = (le-div_iff_mul-le (pow_ten_positive h)).1 (omega arith) in
    let b : x / 10 ^ h < 10 = (div-lt_iff_lt-mul (pow_ten_positive h)).1 (omega arith) in
    omega arith

decimal_text-first : (x : ℕ) → x < 10 ^ 10 → (eqb (length (decimal_text x)) 1 || leb 49 (get_or (decimal_text x) 0 0)) ≡ true
decimal_text-first x h =
    elim (dec_lt 1 (decimal_length x)) [
      | yes l ↦ let top : suc (decimal_length x - 1) ≡ decimal_length x = omega arith in
          let digit : 1 ≤ x / 10 ^ (decimal_length x - 1) % 10
          = first_digit (decimal_length x - 1) x (decimal_length-below x h l) (rw top (decimal_length_above x h)) in
          rw (get_or-decimal_text x {i = 0} (omega arith), le-leb 49 (48 + x / 10 ^ (decimal_length x - 1) % 10) (omega arith)) (or-true (eqb (length (decimal_text x)) 1))
      | no g ↦ rw (eq-eqb (length (decimal_text x)) 1 (omega (arith, length-decimal_text x, decimal_length_positive x)))
    ]

pub is_number-decimal_text : (x : ℕ) → x < 2 ^ 32 → is_number (decimal_text x) ≡ true
unfolding is_number
is_number-decimal_text x h =
    let small : x < 10 ^ 10 = omega arith in
    rw (
      decimal_text_digits x,
      decimal_text-first x small,
      decimal-decimal_text x small,
      le-leb x 4294967295 (omega arith),
      le-leb 1 (length (decimal_text x)) (omega (arith, length-decimal_text x, decimal_length_positive x)),
    )

-- a line is answered by its form first, then by its set
module _ (line : Text) where
  pub line_answer_malformed : (well_formed 6 line || well_formed 7 line) ≡ false → line_answer line ≡ decimal_text 11
  unfolding line_answer line_limits limits_text answer first_refusal
  line_answer_malformed e = rw e

  pub line_limits-set : (well_formed 6 line || well_formed 7 line) ≡ true → line_limits line ≡ limits_answer (set_of (numbers_of line))
  unfolding line_limits limits_answer answer first_refusal
  line_limits-set e = rw e

  pub line_answer-set : (well_formed 6 line || well_formed 7 line) ≡ true → line_answer line ≡ limits_text (limits_answer (set_of (numbers_of line)))
  unfolding line_answer
  line_answer-set e = ap limits_text (line_limits-set e)

-- an empty line is malformed: it is answered like any other, by 11
pub roomsheet_empty_line : (text : Text) → roomsheet (10 ∷ text) ≡ 49 ∷ 49 ∷ 10 ∷ roomsheet text
unfolding
    roomsheet lines_of line_answer line_limits limits_text answer first_refusal well_formed split joined decimal_text decimal_length how_many sum tabulate
roomsheet_empty_line text = refl
