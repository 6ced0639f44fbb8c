use Rattle.std.proofs.Common.{◌∙◌, sym, refl}
use Rattle.script_text.proofs.SaidLemmas.{say_is}
use Rattle.script_text.proofs.saying.say.Goals as goal

pub returns-in-Ok-clause-said : goal.returns-in-Ok-clause-said
returns-in-Ok-clause-said c = λ before behind h.
    say_is c.args.text.now _ _ _ _ _ _ before behind _ c.of-fields.ensures.word c.of-fields.ensures.first c.of-fields.ensures.second c.of-fields.ensures.third c.of-fields.ensures.fourth
    (c.in_ok-number_of_name.ensures.number before behind h) (sym c.in-Ok.is ∙ c.said.ensures)

pub returns-in-Err-clause-fault : goal.returns-in-Err-clause-fault
returns-in-Err-clause-fault c = λ before behind h. (
  refl,
  say_is c.args.text.now _ _ _ _ _ _ before behind _ c.of-fields.ensures.word c.of-fields.ensures.first c.of-fields.ensures.second c.of-fields.ensures.third c.of-fields.ensures.fourth
      (c.in_ok-number_of_name.ensures.number before behind h) (sym c.in-Err.is ∙ c.said.ensures),
)
