use Rattle.std.proofs.Common.{◌∙◌, sym}
use Rattle.heap_example.proofs.Begins.{begins_there, begins_nowhere}
use Rattle.heap_example.proofs.buffers.begins_at.Goals as goal

pub returns-in-Some : goal.returns-in-Some
returns-in-Some c = c.is_span_from.ensures ∙ sym (begins_there c.args.back.now c.args.page c.in-Some.run' c.descs-descs.ensures.sound (sym c.in-Some.is ∙ c.run_at.ensures))

pub returns-in-None : goal.returns-in-None
returns-in-None c = sym (begins_nowhere c.args.back.now c.args.page c.descs-descs.ensures.sound (sym c.in-None.is ∙ c.run_at.ensures))
