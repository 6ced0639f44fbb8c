use Rattle.address_calls.proofs.Behind.{measures_behind}
use Rattle.std.proofs.Common.{subst}
use Rattle.std.specs.Prelude.{Result}
use Rattle.heap_model.specs.declared.Busy.{Busy}
use Rattle.address_calls.specs.declared.look.Found.{Found}
use Rattle.address_calls.specs.Tagged.{FindsAtOnce}
use Rattle.address_calls.proofs.AtOnce.{measures_at_once}
use Rattle.address_calls.proofs.blocks.measure.Goals as goal

pub returns-in-Ok-clause-found : goal.returns-in-Ok-clause-found
returns-in-Ok-clause-found c = measures_behind c.args.c.now c.look_up.new.c c.measure_there.new.c c.in-Ok.ensures.looks c.args.addr c.measure_there.result c.measure_there.ensures.measured

pub returns-in-Ok-clause-tagged : goal.returns-in-Ok-clause-tagged
returns-in-Ok-clause-tagged c = λ k.
    let a = c.args.c.now in let b = c.look_up.new.c in
    measures_at_once a b c.measure_there.new.c c.args.addr c.in-Ok.found c.measure_there.result (subst (λ (r : Result Found Busy). FindsAtOnce a b r) c.in-Ok.is (c.look_up.ensures.tagged k)) c.measure_there.ensures.front
