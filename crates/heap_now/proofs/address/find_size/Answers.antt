use Rattle.std.proofs.Common.{[], ◌∷◌, refl}
use Rattle.heap_model.specs.declared.Act.TheVariants as acts
use Rattle.heap_model.specs.declared.Call.TheVariants as calls
use Rattle.address_calls.specs.Answers.{MayGuard}
use Rattle.heap_now.proofs.AddressParts.{met_on, size_told}
use Rattle.heap_model.specs.declared.Reply.TheVariants as replies
use Rattle.heap_model.specs.Shape.{WasBusy}
use Rattle.heap_now.proofs.TaggedCalls.{measured_free, never_busy}
use Rattle.heap_now.proofs.address.find_size.Goals as goal

pub measure-requires-clause-serving : goal.measure-requires-clause-serving
measure-requires-clause-serving c = (calls.Size c.args.addr, c.requires.serving)

pub returns-in-Ok-Some-clause-serves : goal.returns-in-Ok-Some-clause-serves
returns-in-Ok-Some-clause-serves c =
    let call = calls.Size c.args.addr in
    let m = rw c.in-Ok-Some.field-0-is at c.in-Ok-Some.ensures.found in
    size_told (MayGuard c.args.heap.now.opening.limits c.args.addr) c.args.c.now c.measure.new.c c.args.addr c.in-Ok-Some.size (m call c.requires.serving.call_is)

pub returns-in-Ok-None-clause-serves : goal.returns-in-Ok-None-clause-serves
returns-in-Ok-None-clause-serves c =
    let call = calls.Size c.args.addr in
    let m = rw c.in-Ok-None.field-0-is at c.in-Ok-None.ensures.found in
    (acts.NotLive c.args.addr ∷ [], m call c.requires.serving.call_is, refl)

pub returns-in-Err-clause-serves : goal.returns-in-Err-clause-serves
returns-in-Err-clause-serves c =
    met_on c.args.c.now c.measure.new.c (calls.Size c.args.addr) c.args.heap.now.opening c.args.addr c.in-Err.busy c.requires.serving c.requires.table.1 c.in-Err.ensures.busy

pub returns-in-Ok-Some-clause-tagged : goal.returns-in-Ok-Some-clause-tagged
returns-in-Ok-Some-clause-tagged c = λ k.
    measured_free c.args.c.now c.measure.new.c (calls.Size c.args.addr) c.args.addr c.measure.result (replies.Number c.in-Ok-Some.size) c.requires.serving.call_is (c.measure.ensures.tagged k)

pub returns-in-Ok-None-clause-tagged : goal.returns-in-Ok-None-clause-tagged
returns-in-Ok-None-clause-tagged c = λ k. measured_free c.args.c.now c.measure.new.c (calls.Size c.args.addr) c.args.addr c.measure.result replies.NotLive c.requires.serving.call_is (c.measure.ensures.tagged k)

pub returns-in-Err-clause-tagged : goal.returns-in-Err-clause-tagged
returns-in-Err-clause-tagged c = λ k. never_busy c.args.c.now c.measure.new.c c.args.addr c.measure.result c.in-Err.busy (WasBusy c.in-Err.busy) c.in-Err.is (c.measure.ensures.tagged k)
