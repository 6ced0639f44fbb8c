use Rattle.std.proofs.Common.{◌∙◌}
use Rattle.heap_model.specs.declared.Call.TheVariants as calls
use Rattle.move_taken.specs.Holds.{taken_place}
use Rattle.move_to_front.proofs.Over.{tells_same}
use Rattle.move_in_front.proofs.Over.{over_two, over_late, fits_nowhere}
use Rattle.move_in_front.proofs.moves.move_taken_to_front.Goals as goal

pub swap_taken-requires-clause-table : goal.swap_taken-requires-clause-table
swap_taken-requires-clause-table c =
    let h = c.requires.taken in let y = c.in-Held.ensures c.args.addr c.args.size h.0 h.1 h.2 h.3 h.4 h.5 h.6 in
    (y.made.goes.table ∙ c.requires.table.0, y.made.goes.opening ∙ c.requires.table.1)

pub swap_taken-requires-clause-bucket : goal.swap_taken-requires-clause-bucket
swap_taken-requires-clause-bucket c =
    let h = c.requires.taken in let y = c.in-Held.ensures c.args.addr c.args.size h.0 h.1 h.2 h.3 h.4 h.5 h.6 in y.two.of

pub swap_taken-requires-clause-two : goal.swap_taken-requires-clause-two
swap_taken-requires-clause-two c =
    let h = c.requires.taken in let y = c.in-Held.ensures c.args.addr c.args.size h.0 h.1 h.2 h.3 h.4 h.5 h.6 in
    (calls.Realloc c.args.addr c.args.n h.0, taken_place c.args.tag.bucket c.args.addr c.args.c.now.number, y.place, h.1, y.two)

pub returns-in-Held : goal.returns-in-Held
returns-in-Held c = λ flags out zero_is v vs_out w back_out wb.
    let k = c.args.c.now in let e = c.hold_beside.new.c in let addr = c.args.addr in let n = c.args.n in
    let p = taken_place c.args.tag.bucket addr k.number in
    let y = c.in-Held.ensures addr c.args.size flags out v vs_out w back_out wb in (
      over_two k e c.swap_taken.new.c c.args.tag addr c.args.size n flags p out c.hold_beside.new.vs c.hold_beside.new.back c.in-Held.b c.args.zero zero_is y (c.swap_taken.ensures.swapped (calls.Realloc addr n flags) p y.place out y.two),
      c.swap_taken.ensures.tells (calls.Realloc addr n flags) p y.place out c.hold_beside.new.vs c.hold_beside.new.back y.two vs_out back_out y.tells,
    )

pub late_taken-requires-clause-table : goal.late_taken-requires-clause-table
late_taken-requires-clause-table c =
    let h = c.requires.taken in let x = c.in-NoRoom.ensures c.args.addr c.args.size h.0 h.1 h.2 h.3 h.4 h.5 h.6 in
    (x.0.goes.table ∙ c.requires.table.0, x.0.goes.opening ∙ c.requires.table.1)

pub late_taken-requires-clause-slots : goal.late_taken-requires-clause-slots
late_taken-requires-clause-slots c = let h = c.requires.taken in (c.in-NoRoom.ensures c.args.addr c.args.size h.0 h.1 h.2 h.3 h.4 h.5 h.6).0.slots

pub late_taken-requires-clause-moving : goal.late_taken-requires-clause-moving
late_taken-requires-clause-moving c =
    let h = c.requires.taken in let x = c.in-NoRoom.ensures c.args.addr c.args.size h.0 h.1 h.2 h.3 h.4 h.5 h.6 in
    (h.0, h.1, x.0.holds, h.3, x.1.vs, h.5, x.1.back)

pub late_taken-requires-clause-cannot : goal.late_taken-requires-clause-cannot
late_taken-requires-clause-cannot c = let h = c.requires.taken in (c.in-NoRoom.ensures c.args.addr c.args.size h.0 h.1 h.2 h.3 h.4 h.5 h.6).0.cannot

pub returns-in-Some : goal.returns-in-Some
returns-in-Some c = λ flags out zero_is v vs_out w back_out wb.
    let k = c.args.c.now in let n = c.args.n in let addr = c.args.addr in let size = c.args.size in
    let x = c.in-NoRoom.ensures addr size flags out v vs_out w back_out wb in
    let y = c.in-Some.ensures.moved flags out zero_is x.0.holds vs_out x.1.vs back_out x.1.back in (
      over_late k c.hold_beside.new.c c.args.tag addr size n flags out v.holds c.args.back.now c.hold_beside.new.back c.args.bucket x.0 c.late_taken.new.c c.in-Some.b y.moved,
      record { vs = y.vs; back = y.back },
    )

pub returns-in-None : goal.returns-in-None
returns-in-None c = λ flags out zero_is v vs_out w back_out wb.
    let k = c.args.c.now in let n = c.args.n in let addr = c.args.addr in let size = c.args.size in
    let x = c.in-NoRoom.ensures addr size flags out v vs_out w back_out wb in
    let z = c.in-None.ensures.none in (
      fits_nowhere k c.hold_beside.new.c c.args.tag addr size n flags out v.holds c.args.back.now c.hold_beside.new.back c.args.bucket x.0 c.late_taken.new.c c.late_taken.new.back z.0 z.2,
      tells_same c.hold_beside.new.c c.late_taken.new.c c.hold_beside.new.vs c.late_taken.new.vs c.hold_beside.new.back c.late_taken.new.back x.1 z.0.same z.1 z.2,
    )
