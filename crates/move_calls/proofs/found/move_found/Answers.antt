use Rattle.std.proofs.Common.{◌<◌, subst, ◌/◌, ◌*◌}
use Rattle.heap_model.specs.declared.Opening.{Opening}
use Rattle.move_calls.proofs.Behind.{moves_behind}
use Rattle.move_calls.proofs.Founds.{gathers_vs, gathers_back, gathers_large}
use Rattle.move_calls.proofs.found.move_found.Goals as goal

pub move_from_front-requires-clause-taken : goal.move_from_front-requires-clause-taken
move_from_front-requires-clause-taken c = let z = c.requires.moves in let t = rw c.in-Front.is at z.2 in (z.0, z.1, t)

pub returns-in-Front : goal.returns-in-Front
returns-in-Front c = λ first v t. let u = rw c.in-Front.is at t in c.move_from_front.ensures first v u

pub move_from_vs-requires-clause-below : goal.move_from_vs-requires-clause-below
move_from_vs-requires-clause-below c = let z = c.requires.moves in let t = rw c.in-Vs.is at z.2 in t.1.below

pub move_from_vs-requires-clause-gathering : goal.move_from_vs-requires-clause-gathering
move_from_vs-requires-clause-gathering c =
    let z = c.requires.moves in let t = rw c.in-Vs.is at z.2 in gathers_vs z.0 c.args.c.now c.args.addr c.args.size c.args.n c.args.flags z.1 c.in-Vs.vs t

pub returns-in-Vs : goal.returns-in-Vs
returns-in-Vs c = λ first v t.
    let u = rw c.in-Vs.is at t in let w = gathers_vs first c.args.c.now c.args.addr c.args.size c.args.n c.args.flags v c.in-Vs.vs u in
    moves_behind first c.args.c.now c.move_from_vs.new.c u.0 v.prepared w.1.serving.prepared c.args.addr c.args.n c.args.flags c.move_from_vs.result c.move_from_vs.ensures

pub move_from_back-requires-clause-below : goal.move_from_back-requires-clause-below
move_from_back-requires-clause-below c = let z = c.requires.moves in let t = rw c.in-Back.is at z.2 in subst (λ (o : Opening). c.args.addr / 4096 < 256 * o.limits.segments) c.requires.table.1 t.1.below

pub move_from_back-requires-clause-gathering : goal.move_from_back-requires-clause-gathering
move_from_back-requires-clause-gathering c =
    let z = c.requires.moves in let t = rw c.in-Back.is at z.2 in gathers_back z.0 c.args.c.now c.args.addr c.args.size c.args.n c.args.flags z.1 c.in-Back.vs c.in-Back.back t

pub returns-in-Back : goal.returns-in-Back
returns-in-Back c = λ first v t.
    let u = rw c.in-Back.is at t in let w = gathers_back first c.args.c.now c.args.addr c.args.size c.args.n c.args.flags v c.in-Back.vs c.in-Back.back u in
    moves_behind first c.args.c.now c.move_from_back.new.c u.0 v.prepared w.1.serving.prepared c.args.addr c.args.n c.args.flags c.move_from_back.result c.move_from_back.ensures

pub move_from_large-requires-clause-gathering : goal.move_from_large-requires-clause-gathering
move_from_large-requires-clause-gathering c =
    let z = c.requires.moves in let t = rw c.in-Large.is at z.2 in gathers_large z.0 c.args.c.now c.args.addr c.args.size c.args.n c.args.flags z.1 c.in-Large.large t

pub returns-in-Large : goal.returns-in-Large
returns-in-Large c = λ first v t.
    let u = rw c.in-Large.is at t in let w = gathers_large first c.args.c.now c.args.addr c.args.size c.args.n c.args.flags v c.in-Large.large u in
    moves_behind first c.args.c.now c.move_from_large.new.c u.0 v.prepared w.1.serving.prepared c.args.addr c.args.n c.args.flags c.move_from_large.result c.move_from_large.ensures
