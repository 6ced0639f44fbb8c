use Rattle.backend_fit.proofs.Told.{spans_used}
use Rattle.heap_gate.specs.Token.{now}
use Rattle.compact_calls.proofs.Calling.{finished}
use Rattle.compact_calls.proofs.call.finish.Goals as goal

pub give_back-requires-clause-tells : goal.give_back-requires-clause-tells
give_back-requires-clause-tells c = λ s q. let d = c.clean-back.new.c in let t = c.clean-back.ensures.back_is s q in (spans_used d.opening (now s d).state c.clean-back.result.0 t, t)

pub returns : goal.returns
returns c =
    finished c.args.c.now c.clean-back.new.c c.give_back.new.c c.unlock_gate-given.new.c c.clean-back.result.0 c.clean-back.result.1 c.unlock_gate-given.result c.requires.owning c.requires.locked c.requires.depth
    c.clean-back.ensures c.check.ensures.stands c.give_back.ensures c.check-2.ensures.stands c.unlock_gate-given.ensures.given c.unlock_gate-given.ensures.refused
