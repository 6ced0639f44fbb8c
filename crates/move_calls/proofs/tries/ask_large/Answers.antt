use Rattle.std.proofs.Common.{sym, ap, ◌∙◌, subst}
use Rattle.heap_gate.specs.Token.{Token}
use Rattle.search_laws.proofs.Blocks.{bucket_fits}
use Rattle.move_parts.specs.Moves.{IsMoving, TellsVs, TellsBack, TellsLarge}
use Rattle.move_parts.specs.Moved.{HasMovedAll}
use Rattle.move_calls.specs.Ends.{HasTriedIt}
use Rattle.move_calls.proofs.Tried.{some_then, vs_same, back_same, large_same, tried_back, moved_over_large, fits_nowhere_large}
use Rattle.move_calls.proofs.tries.ask_large.Goals as goal

pub move_large_to_front-requires-clause-size : goal.move_large_to_front-requires-clause-size
move_large_to_front-requires-clause-size c = (bucket_fits c.args.n c.args.bucket c.requires.bucket).0

pub move_large_to_front-requires-clause-moving : goal.move_large_to_front-requires-clause-moving
move_large_to_front-requires-clause-moving c = let z = c.requires.moving in (z.0, z.1, z.2, z.4, z.5, z.6, z.7, z.8, z.9, z.10, z.11)

pub returns-in-Moved : goal.returns-in-Moved
returns-in-Moved c = λ flags p out zero_is v layer a w b u e t.
    moved_over_large c.args.c.now c.move_large_to_front.new.c c.args.addr c.args.size c.args.n flags p c.args.vs.now c.move_large_to_front.new.vs c.args.back.now c.move_large_to_front.new.back c.args.large.now c.move_large_to_front.new.large c.in-Moved.b (c.in-Moved.ensures flags p out zero_is v layer a w b u e t)

pub returns-in-NoFit : goal.returns-in-NoFit
returns-in-NoFit c = λ flags p out zero_is v layer a w b u e t.
    fits_nowhere_large c.args.c.now c.move_large_to_front.new.c c.args.addr c.args.size c.args.n flags p c.args.vs.now c.move_large_to_front.new.vs c.args.back.now c.move_large_to_front.new.back c.args.large.now c.move_large_to_front.new.large (c.in-NoFit.ensures flags p out zero_is v layer a w b u e t)

pub move_large_low-requires-clause-table : goal.move_large_low-requires-clause-table
move_large_low-requires-clause-table c =
    let z = c.requires.moving in let i = c.in-Idle.ensures z.0 z.1 z.2 z.3 z.4 z.5 z.6 z.7 z.8 z.9 z.10 z.11 in
    (ap (λ (t : Token). t.table) i.0.same ∙ c.requires.table.0, ap (λ (t : Token). t.opening) i.0.same ∙ c.requires.table.1)

pub move_large_low-requires-clause-moving : goal.move_large_low-requires-clause-moving
move_large_low-requires-clause-moving c =
    let z = c.requires.moving in let i = c.in-Idle.ensures z.0 z.1 z.2 z.3 z.4 z.5 z.6 z.7 z.8 z.9 z.10 z.11 in
    let k = c.args.c.now in let d = c.move_large_to_front.new.c in
    (z.0, z.1, z.2, subst (λ (t : Token). IsMoving t c.args.addr c.args.size c.args.n z.0 z.1 z.2) (sym i.0.same) z.4, z.5, z.6, (vs_same k d c.args.vs.now c.move_large_to_front.new.vs i.0.same i.0.vs_is z.7), z.8, (back_same k d c.args.back.now c.move_large_to_front.new.back i.0.same i.0.back_is z.9), z.10, (large_same k d c.args.large.now c.move_large_to_front.new.large i.0.same i.1 z.11))

pub move_large_low-requires-clause-bucket : goal.move_large_low-requires-clause-bucket
move_large_low-requires-clause-bucket c = let z = c.requires.moving in let i = c.in-Idle.ensures z.0 z.1 z.2 z.3 z.4 z.5 z.6 z.7 z.8 z.9 z.10 z.11 in λ small. i.0.for_vs

pub returns-in-Idle : goal.returns-in-Idle
returns-in-Idle c = λ flags p out zero_is v layer a w b u e t.
    let i = c.in-Idle.ensures flags p out zero_is v layer a w b u e t in
    let k = c.args.c.now in let d = c.move_large_to_front.new.c in
    let f = c.move_large_low.new.c in let o = c.move_large_low.result in
    let v2 = subst (λ (x : Token). IsMoving x c.args.addr c.args.size c.args.n flags p out) (sym i.0.same) v in
    let w2 = (vs_same k d c.args.vs.now c.move_large_to_front.new.vs i.0.same i.0.vs_is w) in
    let u2 = (back_same k d c.args.back.now c.move_large_to_front.new.back i.0.same i.0.back_is u) in
    let t2 = (large_same k d c.args.large.now c.move_large_to_front.new.large i.0.same i.1 t) in
    let y = tried_back d f c.args.addr c.args.size c.args.n flags p c.move_large_to_front.new.vs c.move_large_low.new.vs c.move_large_to_front.new.back c.move_large_low.new.back c.move_large_to_front.new.large c.move_large_low.new.large o (some_then o _ (λ m. HasMovedAll d f c.args.addr c.args.size c.args.n flags p m c.move_large_low.new.vs c.move_large_low.new.back c.move_large_low.new.large) (λ m h. h flags p out zero_is v2 layer a w2 b u2 e t2) c.move_large_low.ensures.moved) c.move_large_low.ensures.none c.move_large_low.ensures.kept w2 u2 t2 in
    subst (λ (x : Token). HasTriedIt x f c.args.addr c.args.size c.args.n flags p o × TellsVs f c.move_large_low.new.vs × TellsBack f c.move_large_low.new.back × TellsLarge f c.move_large_low.new.large) i.0.same y
