use Rattle.std.proofs.Common.{◌∙◌, inl}
use Rattle.heap_model.specs.declared.Call.TheVariants as calls
use Rattle.address_calls.specs.Answers.{MayGuard}
use Rattle.heap_now.specs.Words.{size_answer}
use Rattle.heap_now.proofs.Frames.{stays_inside, ends_with}
use Rattle.heap_now.proofs.TaggedCalls.{tagged_call}
use Rattle.heap_now.proofs.address.size_now.Goals as goal

pub returns-in-Err-clause-ends : goal.returns-in-Err-clause-ends
returns-in-Err-clause-ends c = (c.in-Err.ensures.busy.0, inl c.in-Err.ensures.busy.1)

pub find_size-told-requires-clause-serving : goal.find_size-told-requires-clause-serving
find_size-told-requires-clause-serving c = c.in_default.ensures.entered.serving

pub leave_call-requires-clause-table : goal.leave_call-requires-clause-table
leave_call-requires-clause-table c =
    (stays_inside (MayGuard c.args.heap.now.opening.limits c.args.addr) c.enter_call.new.c c.find_size-told.new.c (calls.Size c.args.addr) (size_answer c.find_size-told.result) c.find_size-told.ensures.serves).0 ∙ (c.enter_call.ensures.table.0 ∙ c.requires.table.0)

pub leave_call-requires-clause-inside : goal.leave_call-requires-clause-inside
leave_call-requires-clause-inside c =
    (stays_inside (MayGuard c.args.heap.now.opening.limits c.args.addr) c.enter_call.new.c c.find_size-told.new.c (calls.Size c.args.addr) (size_answer c.find_size-told.result) c.find_size-told.ensures.serves).1

pub returns-clause-ends : goal.returns-clause-ends
returns-clause-ends c =
    ends_with (MayGuard c.args.heap.now.opening.limits c.args.addr) c.args.c.now c.enter_call.new.c c.find_size-told.new.c c.leave_call.new.c (calls.Size c.args.addr) (size_answer c.find_size-told.result) c.requires.ready c.in_default.ensures.entered c.find_size-told.ensures.serves c.leave_call.ensures

pub returns-in-Err-clause-tagged : goal.returns-in-Err-clause-tagged
returns-in-Err-clause-tagged c = λ t. c.in-Err.ensures.turned

pub returns-clause-tagged : goal.returns-clause-tagged
returns-clause-tagged c = λ t.
    tagged_call (MayGuard c.args.heap.now.opening.limits c.args.addr) c.args.c.now c.enter_call.new.c c.find_size-told.new.c c.leave_call.new.c c.args.addr (calls.Size c.args.addr) (size_answer c.find_size-told.result) c.requires.ready c.in_default.ensures.entered c.find_size-told.ensures.serves
    c.find_size-told.ensures.tagged c.leave_call.ensures t
