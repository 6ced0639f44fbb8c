use Rattle.std.proofs.Common.{◌∙◌, Bool, sym, ap, subst}
use Rattle.heap_model.specs.declared.What.TheVariants as whats
use Rattle.heap_gate.specs.Token.{is_out}
use Rattle.move_to_front.specs.Ends.{HasFilledAndChanged}
use Rattle.move_to_front.proofs.Over.{over_front, over_late, fits_nowhere, tells_same}
use Rattle.move_to_front.proofs.moves.move_back_to_front.Goals as goal

pub front_back-requires-clause-table : goal.front_back-requires-clause-table
front_back-requires-clause-table c =
    let h = c.requires.moving in let y = c.in-Held.ensures c.args.addr c.args.size h.0 h.1 h.2 h.3 h.5 h.6 h.7 h.8 in
    (y.made.goes.table ∙ c.requires.table.0, y.made.goes.opening ∙ c.requires.table.1)

pub front_back-requires-clause-halfway : goal.front_back-requires-clause-halfway
front_back-requires-clause-halfway c =
    let h = c.requires.moving in let y = c.in-Held.ensures c.args.addr c.args.size h.0 h.1 h.2 h.3 h.5 h.6 h.7 h.8 in
    (h.0, h.1, y.place, h.2, y.half, h.4, h.7, y.tells.back)

pub late_back-requires-clause-table : goal.late_back-requires-clause-table
late_back-requires-clause-table c =
    let h = c.requires.moving in let x = c.in-NoRoom.ensures c.args.addr c.args.size h.0 h.1 h.2 h.3 h.5 h.6 h.7 h.8 in
    (x.goes.table ∙ c.requires.table.0, x.goes.opening ∙ c.requires.table.1)

pub late_back-requires-clause-moving : goal.late_back-requires-clause-moving
late_back-requires-clause-moving c =
    let h = c.requires.moving in let x = c.in-NoRoom.ensures c.args.addr c.args.size h.0 h.1 h.2 h.3 h.5 h.6 h.7 h.8 in
    (h.0, h.1, h.2, x.on, h.4, h.5, x.tells.vs, h.7, x.tells.back)

pub late_back-requires-clause-cannot : goal.late_back-requires-clause-cannot
late_back-requires-clause-cannot c = let h = c.requires.moving in let x = c.in-NoRoom.ensures c.args.addr c.args.size h.0 h.1 h.2 h.3 h.5 h.6 h.7 h.8 in x.cannot

pub returns-in-Held : goal.returns-in-Held
returns-in-Held c = λ flags p out zero_is v is_there vs_out w back_out wb.
    let k = c.args.c.now in let e = c.hold_new.new.c in let d = c.front_back.new.c in
    let addr = c.args.addr in let size = c.args.size in let n = c.args.n in let b = c.in-Held.b in
    let y = c.in-Held.ensures addr size flags p out v vs_out w back_out wb in
    let z = c.front_back.ensures flags p y.place out y.half is_there back_out y.tells.back in
    let changed = subst (λ (t : Bool). HasFilledAndChanged e d addr size b n t) (sym zero_is) z.changed in
    (over_front k e d addr size n flags p out c.hold_new.new.vs c.hold_new.new.back b y changed, record { vs = z.vs (ap (is_out whats.Vs) y.half.out_is ∙ vs_out) c.hold_new.new.vs y.tells.vs; back = z.back })

pub returns-in-Some : goal.returns-in-Some
returns-in-Some c = λ flags p out zero_is v is_there vs_out w back_out wb.
    let x = c.in-NoRoom.ensures c.args.addr c.args.size flags p out v vs_out w back_out wb in
    let y = c.in-Some.ensures.moved flags p out zero_is x.on is_there vs_out x.tells.vs back_out x.tells.back in
    (over_late c.args.c.now c.hold_new.new.c c.args.addr c.args.size c.args.n flags p out v c.requires.size c.hold_new.new.vs c.args.back.now c.hold_new.new.back c.args.bucket x c.late_back.new.c c.in-Some.b c.late_back.new.vs c.late_back.new.back y, y.tells)

pub returns-in-None : goal.returns-in-None
returns-in-None c = λ flags p out zero_is v is_there vs_out w back_out wb.
    let x = c.in-NoRoom.ensures c.args.addr c.args.size flags p out v vs_out w back_out wb in
    let z = c.in-None.ensures.none in (
      fits_nowhere c.args.c.now c.hold_new.new.c c.args.addr c.args.size c.args.n flags p out v c.requires.size c.hold_new.new.vs c.args.back.now c.hold_new.new.back c.args.bucket x c.late_back.new.c c.late_back.new.back z.0 z.2,
      tells_same c.hold_new.new.c c.late_back.new.c c.hold_new.new.vs c.late_back.new.vs c.hold_new.new.back c.late_back.new.back x.tells z.0.same z.1 z.2,
    )
