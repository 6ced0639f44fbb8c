use Rattle.heap_model.specs.declared.Call.TheVariants as calls
use Rattle.front_calls.proofs.Steps.{found_none}
use Rattle.stay_calls.proofs.FrontStays.{to_move}
use Rattle.stay_calls.proofs.front.take_to_move.Goals as goal

pub returns-in_default : goal.returns-in_default
returns-in_default c =
    let v = c.requires.front.free in
    (found_none c.args.c.now c.take_live.new.c v.0 c.args.addr v.1 c.in_default.ensures.none (calls.Realloc c.args.addr c.args.n c.args.flags) c.requires.call).makes

pub returns : goal.returns
returns c =
    let v = c.requires.front.free in
    (c.requires.may, to_move c.args.c.now c.take_live.new.c v.0 c.args.tag c.args.addr c.in-Some.size c.args.n c.args.flags v.1 c.check.ensures.stands c.in-Some.ensures.taken c.requires.front.may c.check-2.ensures.legal c.requires.leaves)
