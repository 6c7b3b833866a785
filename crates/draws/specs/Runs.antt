-- 01, "Draws from lent random octets", and 02, Q-1 and Q-3: what a run of draws answers, of numbers below q or of elements of a secret.
--
--   said             what each answer says, with what was drawn beside it: the groups taken for it and how many of these were dropped, or the
--                    refusal's number
--   drawn_answer      what is to be said of a run: 9 where the octets ended before its last draw was complete, otherwise the run
-- Assumes nothing.
use Rattle.std.specs.Prelude.{true, not, List, [], ◌∷◌, Result, Ok, Err}
use Rattle.definitions.specs.Refusals.{Answer, refuse, refused, accepted, answer}
use Rattle.definitions.specs.Draws.{Drawn}
use Rattle.parameters.specs.declared.refusals.Refusal.{Refusal}
use Rattle.parameters.specs.Refusals.{refusal_number}
use Rattle.draws.specs.declared.Run.{Run}

abbrev pub said : {A : Type 0} → Result Run Refusal → List A → Answer (Drawn A)
said (Ok run) values = accepted (record { values = values; groups = run.groups; dropped = run.dropped; enough = true })
said (Err refusal) values = refused (refusal_number refusal)

unfoldable pub drawn_answer : {A : Type 0} → Drawn A → Answer (Drawn A)
drawn_answer d = answer [] (refuse 9 (not d.enough) ∷ []) d
