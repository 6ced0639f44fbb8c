use Rattle.std.proofs.Common.{sym, ap, ◌∙◌, subst}
use Rattle.heap_gate.specs.Token.{Token}
use Rattle.search_laws.proofs.Blocks.{bucket_fits}
use Rattle.move_parts.specs.Moves.{IsMoving, TellsVs, TellsBack}
use Rattle.move_parts.specs.Moved.{HasMovedLow}
use Rattle.move_calls.specs.Ends.{HasTriedIt}
use Rattle.move_calls.proofs.Tried.{some_then, vs_same, back_same, tried_low, moved_over, fits_nowhere}
use Rattle.move_calls.proofs.tries.ask_vs.Goals as goal

pub move_vs_to_front-requires-clause-size : goal.move_vs_to_front-requires-clause-size
move_vs_to_front-requires-clause-size c = (bucket_fits c.args.n c.args.bucket c.requires.bucket).0

pub move_vs_to_front-requires-clause-moving : goal.move_vs_to_front-requires-clause-moving
move_vs_to_front-requires-clause-moving c = let z = c.requires.moving in (z.0, z.1, z.2, z.4, z.5, z.6, z.7, z.8, z.9)

pub returns-in-Moved : goal.returns-in-Moved
returns-in-Moved c = λ flags p out zero_is v layer a w b u.
    moved_over c.args.c.now c.move_vs_to_front.new.c c.args.addr c.args.size c.args.n flags p c.args.vs.now c.move_vs_to_front.new.vs c.args.back.now c.move_vs_to_front.new.back c.in-Moved.b (c.in-Moved.ensures flags p out zero_is v layer a w b u)

pub returns-in-NoFit : goal.returns-in-NoFit
returns-in-NoFit c = λ flags p out zero_is v layer a w b u.
    fits_nowhere c.args.c.now c.move_vs_to_front.new.c c.args.addr c.args.size c.args.n flags p c.args.vs.now c.move_vs_to_front.new.vs c.args.back.now c.move_vs_to_front.new.back (c.in-NoFit.ensures flags p out zero_is v layer a w b u)

pub move_vs-requires-clause-table : goal.move_vs-requires-clause-table
move_vs-requires-clause-table c =
    let z = c.requires.moving in let i = c.in-Idle.ensures z.0 z.1 z.2 z.3 z.4 z.5 z.6 z.7 z.8 z.9 in
    (ap (λ (t : Token). t.table) i.same ∙ c.requires.table.0, ap (λ (t : Token). t.opening) i.same ∙ c.requires.table.1)

pub move_vs-requires-clause-moving : goal.move_vs-requires-clause-moving
move_vs-requires-clause-moving c =
    let z = c.requires.moving in let i = c.in-Idle.ensures z.0 z.1 z.2 z.3 z.4 z.5 z.6 z.7 z.8 z.9 in
    let k = c.args.c.now in let d = c.move_vs_to_front.new.c in
    (z.0, z.1, z.2, subst (λ (t : Token). IsMoving t c.args.addr c.args.size c.args.n z.0 z.1 z.2) (sym i.same) z.4, z.5, z.6, (vs_same k d c.args.vs.now c.move_vs_to_front.new.vs i.same i.vs_is z.7), z.8, (back_same k d c.args.back.now c.move_vs_to_front.new.back i.same i.back_is z.9))

pub move_vs-requires-clause-bucket : goal.move_vs-requires-clause-bucket
move_vs-requires-clause-bucket c = let z = c.requires.moving in let i = c.in-Idle.ensures z.0 z.1 z.2 z.3 z.4 z.5 z.6 z.7 z.8 z.9 in λ small. i.for_vs

pub returns-in-Idle : goal.returns-in-Idle
returns-in-Idle c = λ flags p out zero_is v layer a w b u.
    let i = c.in-Idle.ensures flags p out zero_is v layer a w b u in
    let k = c.args.c.now in let d = c.move_vs_to_front.new.c in
    let f = c.move_vs.new.c in let o = c.move_vs.result in
    let v2 = subst (λ (x : Token). IsMoving x c.args.addr c.args.size c.args.n flags p out) (sym i.same) v in
    let w2 = (vs_same k d c.args.vs.now c.move_vs_to_front.new.vs i.same i.vs_is w) in
    let u2 = (back_same k d c.args.back.now c.move_vs_to_front.new.back i.same i.back_is u) in
    let y = tried_low d f c.args.addr c.args.size c.args.n flags p c.move_vs_to_front.new.vs c.move_vs.new.vs c.move_vs_to_front.new.back c.move_vs.new.back o (some_then o _ (λ m. HasMovedLow d f c.args.addr c.args.size c.args.n flags p m c.move_vs.new.vs c.move_vs.new.back) (λ m h. h flags p out zero_is v2 layer a w2 b u2) c.move_vs.ensures.moved) c.move_vs.ensures.none w2 u2 in
    subst (λ (x : Token). HasTriedIt x f c.args.addr c.args.size c.args.n flags p o × TellsVs f c.move_vs.new.vs × TellsBack f c.move_vs.new.back) i.same y
