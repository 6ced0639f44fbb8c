use Rattle.std.proofs.Common.{[], ◌∷◌, refl}
use Rattle.heap_model.specs.declared.Act.TheVariants as acts
use Rattle.heap_model.specs.declared.Call.TheVariants as calls
use Rattle.address_calls.specs.Answers.{MayGuard}
use Rattle.heap_now.proofs.AddressParts.{met_on, freed}
use Rattle.heap_model.specs.declared.Reply.TheVariants as replies
use Rattle.heap_model.specs.Shape.{WasBusy}
use Rattle.heap_now.proofs.TaggedCalls.{dropped_free, drops_never_busy}
use Rattle.heap_now.proofs.address.drop_there.Goals as goal

pub drop_block-requires-clause-serving : goal.drop_block-requires-clause-serving
drop_block-requires-clause-serving c = (calls.Free c.args.addr, c.requires.serving)

pub returns-in-Ok-true-clause-serves : goal.returns-in-Ok-true-clause-serves
returns-in-Ok-true-clause-serves c =
    let m = rw c.in-Ok-true.field-0-test at c.in-Ok-true.ensures.dropped in
    freed (MayGuard c.args.heap.now.opening.limits c.args.addr) c.args.c.now c.drop_block.new.c c.args.addr m.0 (m.1 (calls.Free c.args.addr) c.requires.serving.call_is)

pub returns-in-Ok-false-clause-serves : goal.returns-in-Ok-false-clause-serves
returns-in-Ok-false-clause-serves c =
    let m = rw c.in-Ok-false.field-0-test at c.in-Ok-false.ensures.dropped in
    (acts.NotLive c.args.addr ∷ [], m (calls.Free c.args.addr) c.requires.serving.call_is, refl)

pub returns-in-Err-clause-serves : goal.returns-in-Err-clause-serves
returns-in-Err-clause-serves c =
    met_on c.args.c.now c.drop_block.new.c (calls.Free c.args.addr) c.args.heap.now.opening c.args.addr c.in-Err.busy c.requires.serving c.requires.table.1 c.in-Err.ensures.busy

pub returns-in-Ok-true-clause-tagged : goal.returns-in-Ok-true-clause-tagged
returns-in-Ok-true-clause-tagged c = λ k. dropped_free c.args.c.now c.drop_block.new.c (calls.Free c.args.addr) c.args.addr c.drop_block.result replies.Done c.requires.serving.call_is (c.drop_block.ensures.tagged k)

pub returns-in-Ok-false-clause-tagged : goal.returns-in-Ok-false-clause-tagged
returns-in-Ok-false-clause-tagged c = λ k. dropped_free c.args.c.now c.drop_block.new.c (calls.Free c.args.addr) c.args.addr c.drop_block.result replies.NotLive c.requires.serving.call_is (c.drop_block.ensures.tagged k)

pub returns-in-Err-clause-tagged : goal.returns-in-Err-clause-tagged
returns-in-Err-clause-tagged c = λ k. drops_never_busy c.args.c.now c.drop_block.new.c c.args.addr c.drop_block.result c.in-Err.busy (WasBusy c.in-Err.busy) c.in-Err.is (c.drop_block.ensures.tagged k)
