use Rattle.std.proofs.Common.{◌∙◌, Bool, sym, ap, subst}
use Rattle.heap_model.specs.declared.What.TheVariants as whats
use Rattle.heap_gate.specs.Token.{Token, is_out}
use Rattle.large_blocks.specs.Table.{LargeTable}
use Rattle.move_parts.specs.Moves.{TellsLarge}
use Rattle.move_to_front.specs.Ends.{HasFilledAndChanged}
use Rattle.move_to_front.proofs.Over.{over_front, over_late, fits_nowhere, tells_same}
use Rattle.move_to_front.proofs.moves.move_large_to_front.Goals as goal

pub front_large-requires-clause-table : goal.front_large-requires-clause-table
front_large-requires-clause-table c =
    let h = c.requires.moving in let y = c.in-Held.ensures c.args.addr c.args.size h.0 h.1 h.2 h.3 h.5 h.6 h.7 h.8 in
    (y.made.goes.table ∙ c.requires.table.0, y.made.goes.opening ∙ c.requires.table.1)

pub front_large-requires-clause-halfway : goal.front_large-requires-clause-halfway
front_large-requires-clause-halfway c =
    let h = c.requires.moving in let y = c.in-Held.ensures c.args.addr c.args.size h.0 h.1 h.2 h.3 h.5 h.6 h.7 h.8 in
    (h.0, h.1, y.place, h.2, y.half, h.4, h.9, y.large h.9 c.args.large.now h.10)

pub late_large-requires-clause-table : goal.late_large-requires-clause-table
late_large-requires-clause-table c =
    let h = c.requires.moving in let x = c.in-NoRoom.ensures c.args.addr c.args.size h.0 h.1 h.2 h.3 h.5 h.6 h.7 h.8 in
    (x.goes.table ∙ c.requires.table.0, x.goes.opening ∙ c.requires.table.1)

pub late_large-requires-clause-moving : goal.late_large-requires-clause-moving
late_large-requires-clause-moving c =
    let h = c.requires.moving in let x = c.in-NoRoom.ensures c.args.addr c.args.size h.0 h.1 h.2 h.3 h.5 h.6 h.7 h.8 in
    (h.0, h.1, h.2, x.on, h.4, h.5, x.tells.vs, h.7, x.tells.back, h.9, x.large h.9 c.args.large.now h.10)

pub late_large-requires-clause-cannot : goal.late_large-requires-clause-cannot
late_large-requires-clause-cannot c = let h = c.requires.moving in let x = c.in-NoRoom.ensures c.args.addr c.args.size h.0 h.1 h.2 h.3 h.5 h.6 h.7 h.8 in x.cannot

pub returns-in-Held : goal.returns-in-Held
returns-in-Held c = λ flags p out zero_is v is_there vs_out w back_out wb large_out wl.
    let k = c.args.c.now in let e = c.hold_new.new.c in let d = c.front_large.new.c in
    let addr = c.args.addr in let size = c.args.size in let n = c.args.n in let b = c.in-Held.b in
    let y = c.in-Held.ensures addr size flags p out v vs_out w back_out wb in
    let z = c.front_large.ensures flags p y.place out y.half is_there large_out (y.large large_out c.args.large.now wl) in
    let changed = subst (λ (t : Bool). HasFilledAndChanged e d addr size b n t) (sym zero_is) z.changed in
    (over_front k e d addr size n flags p out c.hold_new.new.vs c.hold_new.new.back b y changed, record { vs = z.vs (ap (is_out whats.Vs) y.half.out_is ∙ vs_out) c.hold_new.new.vs y.tells.vs; back = z.back (ap (is_out whats.Back) y.half.out_is ∙ back_out) c.hold_new.new.back y.tells.back }, z.large)

pub returns-in-Some : goal.returns-in-Some
returns-in-Some c = λ flags p out zero_is v is_there vs_out w back_out wb large_out wl.
    let x = c.in-NoRoom.ensures c.args.addr c.args.size flags p out v vs_out w back_out wb in
    let y = c.in-Some.ensures.moved flags p out zero_is x.on is_there vs_out x.tells.vs back_out x.tells.back large_out (x.large large_out c.args.large.now wl) in
    (over_late c.args.c.now c.hold_new.new.c c.args.addr c.args.size c.args.n flags p out v c.requires.size c.hold_new.new.vs c.args.back.now c.hold_new.new.back c.args.bucket x c.late_large.new.c c.in-Some.b c.late_large.new.vs c.late_large.new.back y.late, y.late.tells, y.large)

pub returns-in-None : goal.returns-in-None
returns-in-None c = λ flags p out zero_is v is_there vs_out w back_out wb large_out wl.
    let x = c.in-NoRoom.ensures c.args.addr c.args.size flags p out v vs_out w back_out wb in
    let z = c.in-None.ensures.none in (
      fits_nowhere c.args.c.now c.hold_new.new.c c.args.addr c.args.size c.args.n flags p out v c.requires.size c.hold_new.new.vs c.args.back.now c.hold_new.new.back c.args.bucket x c.late_large.new.c c.late_large.new.back z.0 z.2,
      tells_same c.hold_new.new.c c.late_large.new.c c.hold_new.new.vs c.late_large.new.vs c.hold_new.new.back c.late_large.new.back x.tells z.0.same z.1 z.2,
      c.in-None.ensures.kept,
      subst (λ (t : Token). TellsLarge t c.late_large.new.large) (sym z.0.same) (subst (λ (l : LargeTable). TellsLarge c.hold_new.new.c l) (sym c.in-None.ensures.kept) (x.large large_out c.args.large.now wl)),
    )
