use Rattle.std.proofs.Common.{◌∙◌, inl}
use Rattle.heap_model.specs.declared.Call.TheVariants as calls
use Rattle.small_calls.proofs.Backs.{backs_neither}
use Rattle.heap_now.specs.Calls.{MayTake, alloc_answer}
use Rattle.heap_now.proofs.Frames.{stays_inside, ends_with}
use Rattle.heap_now.proofs.LateAllocs.{turned_late, whole_late, whole_backs}
use Rattle.heap_now.proofs.alloc.alloc_now.Goals as goal

pub returns-in-Err-clause-ends : goal.returns-in-Err-clause-ends
returns-in-Err-clause-ends c = (c.in-Err.ensures.busy.0, inl c.in-Err.ensures.busy.1)

pub place_any-placed-requires-clause-serving : goal.place_any-placed-requires-clause-serving
place_any-placed-requires-clause-serving c = c.in_default.ensures.entered.serving

pub leave_call-requires-clause-table : goal.leave_call-requires-clause-table
leave_call-requires-clause-table c =
    (stays_inside (MayTake c.args.n) c.enter_call.new.c c.place_any-placed.new.c (calls.Alloc c.args.n c.args.flags) (alloc_answer c.place_any-placed.result) c.place_any-placed.ensures.serves).0 ∙ (c.enter_call.ensures.table.0 ∙ c.requires.table.0)

pub leave_call-requires-clause-inside : goal.leave_call-requires-clause-inside
leave_call-requires-clause-inside c =
    (stays_inside (MayTake c.args.n) c.enter_call.new.c c.place_any-placed.new.c (calls.Alloc c.args.n c.args.flags) (alloc_answer c.place_any-placed.result) c.place_any-placed.ensures.serves).1

pub returns-clause-ends : goal.returns-clause-ends
returns-clause-ends c =
    ends_with (MayTake c.args.n) c.args.c.now c.enter_call.new.c c.place_any-placed.new.c c.leave_call.new.c (calls.Alloc c.args.n c.args.flags) (alloc_answer c.place_any-placed.result) c.requires.ready c.in_default.ensures.entered c.place_any-placed.ensures.serves c.leave_call.ensures

pub returns-in-Err-clause-late : goal.returns-in-Err-clause-late
returns-in-Err-clause-late c = turned_late c.args.c.now c.enter_call.new.c c.args.n c.in-Err.ensures.neither

pub returns-clause-late : goal.returns-clause-late
returns-clause-late c =
    whole_late c.args.c.now c.enter_call.new.c c.place_any-placed.new.c c.leave_call.new.c (calls.Alloc c.args.n c.args.flags) c.in_default.ensures.entered c.leave_call.ensures c.args.n c.place_any-placed.ensures.late

pub returns-in-Err-clause-backs : goal.returns-in-Err-clause-backs
returns-in-Err-clause-backs c few = backs_neither c.args.c.now c.enter_call.new.c c.args.n c.in-Err.ensures.neither

pub returns-clause-backs : goal.returns-clause-backs
returns-clause-backs c few =
    whole_backs c.args.c.now c.enter_call.new.c c.place_any-placed.new.c c.leave_call.new.c (calls.Alloc c.args.n c.args.flags) c.in_default.ensures.entered c.leave_call.ensures c.args.n (c.place_any-placed.ensures.backs few)
