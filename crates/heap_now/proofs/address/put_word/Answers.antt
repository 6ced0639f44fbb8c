use Rattle.std.proofs.Common.{◌≤◌, ◌+◌, ◌/◌, ◌∙◌, [], ◌∷◌, refl, sym, subst}
use Rattle.heap_model.specs.declared.Act.TheVariants as acts
use Rattle.heap_model.specs.declared.Call.TheVariants as calls
use Rattle.heap_model.specs.declared.Opening.{Opening}
use Rattle.heap_model.specs.Geometry.{words_of}
use Rattle.claim_rule.specs.Places.{data_count}
use Rattle.address_calls.specs.Answers.{MayGuard}
use Rattle.heap_now.proofs.AddressParts.{met_on}
use Rattle.heap_now.proofs.WordParts.{puts_word}
use Rattle.heap_model.specs.declared.Reply.TheVariants as replies
use Rattle.heap_model.specs.Shape.{WasBusy}
use Rattle.heap_now.proofs.TaggedCalls.{measured_free, never_busy, stored_free}
use Rattle.heap_now.proofs.address.put_word.Goals as goal

pub measure-requires-clause-serving : goal.measure-requires-clause-serving
measure-requires-clause-serving c = (calls.Put c.args.addr c.args.index c.args.value, c.requires.serving)

pub store_of-requires-clause-table : goal.store_of-requires-clause-table
store_of-requires-clause-table c =
    let m = (rw c.in-Ok-Some.field-0-is at c.in-Ok-Some.ensures.found) (calls.Put c.args.addr c.args.index c.args.value) c.requires.serving.call_is in
    (m.goes.table ∙ c.requires.table.0, m.goes.opening ∙ c.requires.table.1)

pub store_of-requires-clause-inside : goal.store_of-requires-clause-inside
store_of-requires-clause-inside c =
    let m = (rw c.in-Ok-Some.field-0-is at c.in-Ok-Some.ensures.found) (calls.Put c.args.addr c.args.index c.args.value) c.requires.serving.call_is in
    (calls.Put c.args.addr c.args.index c.args.value, m.stands)

pub store_of-requires-clause-there : goal.store_of-requires-clause-there
store_of-requires-clause-there c =
    let m = (rw c.in-Ok-Some.field-0-is at c.in-Ok-Some.ensures.found) (calls.Put c.args.addr c.args.index c.args.value) c.requires.serving.call_is in
    let w = rw c.in-Ok-Some.field-0-is at c.in-Ok-Some.ensures.words in
    subst (λ (o : Opening). c.args.addr / 8 + words_of c.in-Ok-Some.size ≤ data_count o.limits) (sym m.goes.opening) w

pub returns-in-Ok-Some-clause-serves : goal.returns-in-Ok-Some-clause-serves
returns-in-Ok-Some-clause-serves c =
    let m = (rw c.in-Ok-Some.field-0-is at c.in-Ok-Some.ensures.found) (calls.Put c.args.addr c.args.index c.args.value) c.requires.serving.call_is in
    puts_word (MayGuard c.args.heap.now.opening.limits c.args.addr) c.args.c.now c.measure.new.c c.store_of.new.c c.args.addr c.args.index c.in-Ok-Some.size c.args.value c.store_of.result m c.store_of.ensures

pub returns-in-Ok-None-clause-serves : goal.returns-in-Ok-None-clause-serves
returns-in-Ok-None-clause-serves c =
    let m = rw c.in-Ok-None.field-0-is at c.in-Ok-None.ensures.found in
    (acts.NotLive c.args.addr ∷ [], m (calls.Put c.args.addr c.args.index c.args.value) c.requires.serving.call_is, refl)

pub returns-in-Err-clause-serves : goal.returns-in-Err-clause-serves
returns-in-Err-clause-serves c =
    met_on c.args.c.now c.measure.new.c (calls.Put c.args.addr c.args.index c.args.value) c.args.heap.now.opening c.args.addr c.in-Err.busy c.requires.serving c.requires.table.1 c.in-Err.ensures.busy

pub returns-in-Ok-Some-clause-tagged : goal.returns-in-Ok-Some-clause-tagged
returns-in-Ok-Some-clause-tagged c = λ k.
    stored_free c.args.c.now c.measure.new.c c.store_of.new.c (calls.Put c.args.addr c.args.index c.args.value) c.args.addr c.args.index c.in-Ok-Some.size c.args.value c.measure.result c.store_of.result c.requires.serving.call_is (c.measure.ensures.tagged k) c.store_of.ensures

pub returns-in-Ok-None-clause-tagged : goal.returns-in-Ok-None-clause-tagged
returns-in-Ok-None-clause-tagged c = λ k. measured_free c.args.c.now c.measure.new.c (calls.Put c.args.addr c.args.index c.args.value) c.args.addr c.measure.result replies.NotLive c.requires.serving.call_is (c.measure.ensures.tagged k)

pub returns-in-Err-clause-tagged : goal.returns-in-Err-clause-tagged
returns-in-Err-clause-tagged c = λ k. never_busy c.args.c.now c.measure.new.c c.args.addr c.measure.result c.in-Err.busy (WasBusy c.in-Err.busy) c.in-Err.is (c.measure.ensures.tagged k)
