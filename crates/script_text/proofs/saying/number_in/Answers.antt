use Rattle.std.proofs.Common.{◌∙◌, sym}
use Rattle.script_text.proofs.SaidLemmas.{number_stays, if_ok_more}
use Rattle.script_text.proofs.saying.number_in.Goals as goal

pub returns-in-Some-clause-number : goal.returns-in-Some-clause-number
returns-in-Some-clause-number c = if_ok_more c.number.result _ _ (λ n h before behind k.
    rw c.in-Some.ensures.name (h before k ∙ sym (number_stays before behind c.in-Some.name.now))) c.number.ensures.number
