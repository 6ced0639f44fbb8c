use Rattle.std.proofs.Common.{◌∙◌, sym, ap, subst}
use Rattle.heap_model.specs.declared.Opening.{Opening}
use Rattle.heap_model.specs.Limits.{AreValid}
use Rattle.move_in_front.proofs.Beside.{to_place, has_new, unserved, unserved_tells}
use Rattle.move_in_front.proofs.moves.hold_beside.Goals as goal

pub hold_front-requires-clause-to_place : goal.hold_front-requires-clause-to_place
hold_front-requires-clause-to_place c = let h = c.requires.taken in to_place c.args.c.now c.args._tag h.0 h.1 c.args.n h.2 h.3 h.4 c.check.ensures.stands c.args.bucket c.requires.bucket h.5 h.7

pub returns-in-Held : goal.returns-in-Held
returns-in-Held c = λ addr size flags out v vs_out w back_out wb.
    let k = c.args.c.now in
    let valid : AreValid k.opening.limits = subst AreValid (c.limits-limits.ensures.limits ∙ ap (λ (o : Opening). o.limits) (sym c.requires.table.1)) c.limits-limits.ensures.valid in
    has_new k c.args._tag addr size c.args.n flags out v c.check.ensures.stands c.hold_front.new.c c.hear.new.c c.hold_front.new.vs c.args.back.now c.hold_front.new.back c.args.bucket c.in-Held.addr c.in-Held.ensures c.hear.ensures.runs c.hear.ensures.stands
    c.check-in-Held.ensures.stands c.check-in-Held-2.ensures.stands c.hear.ensures.slots valid c.requires.size c.requires.bucket vs_out back_out

pub returns-in-NoRoom : goal.returns-in-NoRoom
returns-in-NoRoom c = λ addr size flags out v vs_out w back_out wb.
    let k = c.args.c.now in let d = c.hold_front.new.c in let e = c.hear-in-NoRoom.new.c in let r = c.hear-in-NoRoom.ensures in (
      unserved k c.args._tag addr size c.args.n flags out v c.check.ensures.stands d e c.hold_front.new.vs c.args.back.now c.hold_front.new.back c.args.bucket c.in-NoRoom.ensures r.runs r.stands c.check-in-NoRoom.ensures.stands c.check-in-NoRoom-2.ensures.stands r.slots
          vs_out back_out,
      unserved_tells k c.args._tag addr size c.args.n flags out v c.check.ensures.stands d e c.hold_front.new.vs c.args.back.now c.hold_front.new.back c.args.bucket c.in-NoRoom.ensures r.runs r.stands c.check-in-NoRoom.ensures.stands c.check-in-NoRoom-2.ensures.stands r.slots
          vs_out back_out,
    )
