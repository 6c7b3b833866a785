-- `find_newline` meets its contract: the first newline of the rest ends its first part, and without one the rest is its own first part.
-- Assumes nothing.
use Rattle.std.proofs.Common.{◌≡◌, ◌+◌, ◌-◌, ◌∙◌, sym, ap, length, length-drop, drop, arith, rules, tests}
use Rattle.std.proofs.lemmas.Iterator.{YieldsList-from_slice, IsFirst-from_position}
use Rattle.std.proofs.lemmas.List.{take_all}
use Rattle.roomsheet_parse.specs.Parts.{up_to}
use Rattle.roomsheet_parse.proofs.Parts.{length-up_to_first}
use Rattle.roomsheet_parse.proofs.find_newline.Goals as goal

pub returns : goal.returns
returns c =
    let found = IsFirst-from_position _ _ c.position.result (λ x. x ≡ 10) (λ x. x ≡ 10 → ⊥) c.position.ensures.ran (YieldsList-from_slice _ c.iter.ensures.rest) (λ x q k. search (rules, tests)) (λ x q k. search (rules, tests)) in
    let rest = drop c.args.from c.args.text.now in
    let whole = take_all (length c.args.text.now - c.args.from) rest (omega (arith, length-drop c.args.from c.args.text.now)) in
    ap (λ n. c.args.from + n) (c.unwrap_or.ensures ∙ sym (length-up_to_first 10 _ _ found) ∙ ap (λ t. length (up_to 10 t)) whole)
