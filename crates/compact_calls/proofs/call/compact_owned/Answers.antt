use Rattle.std.proofs.Common.{[], subst}
use Rattle.backend_fit.proofs.Told.{spans_used}
use Rattle.heap_gate.specs.Token.{Token, now}
use Rattle.heap_gate.specs.Calls.{Runs, Stands, stance}
use Rattle.compact_calls.proofs.Calling.{owned_number}
use Rattle.compact_calls.proofs.call.compact_owned.Goals as goal

pub give_back-requires-clause-tells : goal.give_back-requires-clause-tells
give_back-requires-clause-tells c = λ s q. let d = c.clean-back.new.c in let t = c.clean-back.ensures.back_is s q in (spans_used d.opening (now s d).state c.clean-back.result.0 t, t)

pub returns : goal.returns
returns c =
    let a = c.args.c.now in let b = c.settle.new.c in
    owned_number a b c.clean-back.new.c c.give_back.new.c c.clean-back.result.0 c.clean-back.result.1 c.check.ensures.stands c.requires.ready.0 c.requires.owns
    (subst (λ (t : Token). Runs t b []) c.begin.ensures c.settle.ensures.runs) (subst (λ (t : Token). Stands b (stance t)) c.begin.ensures c.settle.ensures.stands)
    c.clean-back.ensures c.check-2.ensures.stands c.give_back.ensures
