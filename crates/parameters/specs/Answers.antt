-- 01's values behind the declared types.
--
--   set_from         the set of 01 that an accepted set's numbers name;  numbers_from: that any numbers name;  limits_from: the bound and the
--                    headroom
--   set_answer       the set itself, or the refusal: what a constructor answers
--   checked_as       Ok: 0 and the set; Err: the refusal's number
-- Assumes nothing.
use Rattle.std.specs.Prelude.{[], Result, Ok, Err}
use Rattle.definitions.specs.Refusals.{Answer, untouched, accepted, answer}
use Rattle.definitions.specs.Parameters.{Parameters, Limits, set_tests}
use Rattle.parameters.specs.declared.Parameters as Struct
use Rattle.parameters.specs.declared.SetLimits.{SetLimits}
use Rattle.parameters.specs.declared.refusals.Refusal.{Refusal}
pub use Rattle.parameters.specs.Numbers.{numbers_from}
use Rattle.parameters.specs.Refusals.{refusal_number}

abbrev pub set_from : Struct.Parameters → Parameters
set_from p = numbers_from p.set

abbrev pub limits_from : SetLimits → Limits
limits_from x = record { bound = x.bound; headroom = x.headroom }

unfoldable pub set_answer : Parameters → Answer Parameters
set_answer p = answer (set_tests p) [] p

abbrev pub checked_as : Result Struct.Parameters Refusal → Answer Parameters
checked_as (Ok p) = accepted (set_from p)
checked_as (Err refusal) = untouched (refusal_number refusal)
