-- 01, "Refusal table", with 02: the number of each refusal, and of an outcome.
--
--   refusal_number   the number that the caller is given of a refusal
--   number_in        0 where a call succeeds, otherwise its refusal's number
-- Assumes nothing.
use Rattle.std.specs.Prelude.{ℕ, Result, Ok, Err}
use Rattle.parameters.specs.declared.refusals.Refusal.{Refusal}
use Rattle.parameters.specs.declared.refusals.Refusal.TheVariants.{Range, Ring, Degree, Modulus, MessageSize, Length, Padding, Coefficient, Exhausted, Tail, Line, TopCoefficient, Edition}

abbrev pub refusal_number : Refusal → ℕ
refusal_number Range = 1
refusal_number Ring = 2
refusal_number Degree = 3
refusal_number Modulus = 4
refusal_number MessageSize = 5
refusal_number Length = 6
refusal_number Padding = 7
refusal_number Coefficient = 8
refusal_number Exhausted = 9
refusal_number Tail = 10
refusal_number Line = 11
refusal_number TopCoefficient = 14
refusal_number Edition = 18

abbrev pub number_in : {A : Type 0} → Result A Refusal → ℕ
number_in (Ok a) = 0
number_in (Err refusal) = refusal_number refusal
