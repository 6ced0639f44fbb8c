use Rattle.heap_model.specs.declared.Call.TheVariants as calls
use Rattle.heap_model.specs.declared.Reply.TheVariants as replies
use Rattle.heap_model.specs.Shape.{Replied}
use Rattle.fall_calls.proofs.LateFalls.{goes_of}
use Rattle.fall_calls.proofs.Fallen.{falls, placed_from, refused_from}
use Rattle.fall_calls.proofs.small.go_on_behind.Goals as goal

pub place_behind-requires-clause-falls : goal.place_behind-requires-clause-falls
place_behind-requires-clause-falls c = falls c.requires.fallen.0 c.args.c.now c.args.vs c.args.back c.args.n c.args.zero c.args.vs_last c.requires.fallen.1

pub returns-in-Some-clause-placed : goal.returns-in-Some-clause-placed
returns-in-Some-clause-placed c =
    λ first x. placed_from first c.args.c.now c.args.vs c.args.back c.args.n c.args.zero c.args.vs_last x c.place_behind.new.c c.in-Some.addr c.in-Some.ensures.placed

pub returns-in-None-clause-refused : goal.returns-in-None-clause-refused
returns-in-None-clause-refused c =
    λ first x. refused_from first c.args.c.now c.args.vs c.args.back c.args.n c.args.zero c.args.vs_last x c.place_behind.new.c c.in-None.ensures.refused.0 c.in-None.ensures.refused.1

pub returns-in-Some-clause-goes : goal.returns-in-Some-clause-goes
returns-in-Some-clause-goes c =
    let at = c.requires.fallen.1.2 in
    goes_of c.args.c.now c.place_behind.new.c (calls.Alloc c.args.n at.for_vs.flags) (Replied (replies.Address c.in-Some.addr)) at.for_vs.stands.call_is c.in-Some.ensures.placed

pub returns-in-None-clause-goes : goal.returns-in-None-clause-goes
returns-in-None-clause-goes c =
    let at = c.requires.fallen.1.2 in
    goes_of c.args.c.now c.place_behind.new.c (calls.Alloc c.args.n at.for_vs.flags) (Replied replies.NoFit) at.for_vs.stands.call_is c.in-None.ensures.refused.1
