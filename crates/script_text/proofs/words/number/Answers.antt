use Rattle.std.proofs.Common.{◌∙◌, sym}
use Rattle.script_text.proofs.NumberLemmas.{number_found, number_missing, not_empty}
use Rattle.script_text.proofs.words.number.Goals as goal

pub returns-in-Some : goal.returns-in-Some
returns-in-Some c =
    let some = not_empty _ c.args.field.now c.is_empty.ensures c.if-is_empty.false in
    sym (number_found c.args.field.now c.in-Some.n some c.if-field-gt20.false (sym c.digits.ensures ∙ c.in-Some.is))

pub returns-in-None : goal.returns-in-None
returns-in-None c =
    let some = not_empty _ c.args.field.now c.is_empty.ensures c.if-is_empty.false in
    sym (number_missing c.args.field.now some c.if-field-gt20.false (sym c.digits.ensures ∙ c.in-None.is))
