use Rattle.std.proofs.Common.{◌≤◌, ◌+◌, ◌/◌, ◌∙◌, [], ◌∷◌, refl, sym, subst}
use Rattle.heap_model.specs.declared.Act.TheVariants as acts
use Rattle.heap_model.specs.declared.Call.TheVariants as calls
use Rattle.heap_model.specs.declared.Opening.{Opening}
use Rattle.heap_model.specs.Geometry.{words_of}
use Rattle.claim_rule.specs.Places.{data_count}
use Rattle.address_calls.specs.Answers.{MayGuard}
use Rattle.heap_now.proofs.AddressParts.{met_on}
use Rattle.heap_now.proofs.WordParts.{gets_word}
use Rattle.heap_model.specs.declared.Reply.TheVariants as replies
use Rattle.heap_model.specs.Shape.{WasBusy}
use Rattle.heap_now.proofs.TaggedCalls.{measured_free, never_busy, loaded_free}
use Rattle.heap_now.proofs.address.find_word.Goals as goal

pub measure-requires-clause-serving : goal.measure-requires-clause-serving
measure-requires-clause-serving c = (calls.Get c.args.addr c.args.index, c.requires.serving)

pub load_of-requires-clause-table : goal.load_of-requires-clause-table
load_of-requires-clause-table c =
    let m = (rw c.in-Ok-Some.field-0-is at c.in-Ok-Some.ensures.found) (calls.Get c.args.addr c.args.index) c.requires.serving.call_is in
    (m.goes.table ∙ c.requires.table.0, m.goes.opening ∙ c.requires.table.1)

pub load_of-requires-clause-inside : goal.load_of-requires-clause-inside
load_of-requires-clause-inside c =
    let m = (rw c.in-Ok-Some.field-0-is at c.in-Ok-Some.ensures.found) (calls.Get c.args.addr c.args.index) c.requires.serving.call_is in
    (calls.Get c.args.addr c.args.index, m.stands)

pub load_of-requires-clause-there : goal.load_of-requires-clause-there
load_of-requires-clause-there c =
    let m = (rw c.in-Ok-Some.field-0-is at c.in-Ok-Some.ensures.found) (calls.Get c.args.addr c.args.index) c.requires.serving.call_is in
    let w = rw c.in-Ok-Some.field-0-is at c.in-Ok-Some.ensures.words in
    subst (λ (o : Opening). c.args.addr / 8 + words_of c.in-Ok-Some.size ≤ data_count o.limits) (sym m.goes.opening) w

pub returns-in-Ok-Some-clause-serves : goal.returns-in-Ok-Some-clause-serves
returns-in-Ok-Some-clause-serves c =
    let m = (rw c.in-Ok-Some.field-0-is at c.in-Ok-Some.ensures.found) (calls.Get c.args.addr c.args.index) c.requires.serving.call_is in
    gets_word (MayGuard c.args.heap.now.opening.limits c.args.addr) c.args.c.now c.measure.new.c c.load_of.new.c c.args.addr c.args.index c.in-Ok-Some.size c.load_of.result m c.load_of.ensures

pub returns-in-Ok-None-clause-serves : goal.returns-in-Ok-None-clause-serves
returns-in-Ok-None-clause-serves c =
    let m = rw c.in-Ok-None.field-0-is at c.in-Ok-None.ensures.found in
    (acts.NotLive c.args.addr ∷ [], m (calls.Get c.args.addr c.args.index) c.requires.serving.call_is, refl)

pub returns-in-Err-clause-serves : goal.returns-in-Err-clause-serves
returns-in-Err-clause-serves c =
    met_on c.args.c.now c.measure.new.c (calls.Get c.args.addr c.args.index) c.args.heap.now.opening c.args.addr c.in-Err.busy c.requires.serving c.requires.table.1 c.in-Err.ensures.busy

pub returns-in-Ok-Some-clause-tagged : goal.returns-in-Ok-Some-clause-tagged
returns-in-Ok-Some-clause-tagged c = λ k.
    loaded_free c.args.c.now c.measure.new.c c.load_of.new.c (calls.Get c.args.addr c.args.index) c.args.addr c.args.index c.in-Ok-Some.size c.measure.result c.load_of.result c.requires.serving.call_is (c.measure.ensures.tagged k) c.load_of.ensures

pub returns-in-Ok-None-clause-tagged : goal.returns-in-Ok-None-clause-tagged
returns-in-Ok-None-clause-tagged c = λ k. measured_free c.args.c.now c.measure.new.c (calls.Get c.args.addr c.args.index) c.args.addr c.measure.result replies.NotLive c.requires.serving.call_is (c.measure.ensures.tagged k)

pub returns-in-Err-clause-tagged : goal.returns-in-Err-clause-tagged
returns-in-Err-clause-tagged c = λ k. never_busy c.args.c.now c.measure.new.c c.args.addr c.measure.result c.in-Err.busy (WasBusy c.in-Err.busy) c.in-Err.is (c.measure.ensures.tagged k)
