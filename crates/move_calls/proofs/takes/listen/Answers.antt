use Rattle.std.proofs.Common.{◌∙◌, ap, sym, subst}
use Rattle.heap_model.specs.declared.Opening.{Opening}
use Rattle.heap_model.specs.Limits.{AreValid}
use Rattle.move_calls.proofs.Ready.{ready}
use Rattle.move_calls.proofs.takes.listen.Goals as goal

pub returns : goal.returns
returns c = λ addr size n flags p out v.
    let k = c.args.c.now in let d = c.hear.new.c in
    let valid : AreValid d.opening.limits = subst AreValid (c.limits-limits.ensures.limits ∙ ap (λ (o : Opening). o.limits) (sym (c.hear.ensures.runs.does.opening ∙ c.requires.table.1))) c.limits-limits.ensures.valid in
    ready k d addr size n flags p out v c.hear.ensures.runs c.hear.ensures.stands c.check.ensures.stands c.check-2.ensures.stands valid c.hear.ensures.slots c.hear.ensures.names c.check-2.ensures.legal
