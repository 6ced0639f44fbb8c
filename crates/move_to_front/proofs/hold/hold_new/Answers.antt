use Rattle.std.proofs.Common.{◌∙◌, sym, ap, subst}
use Rattle.heap_model.specs.declared.Opening.{Opening}
use Rattle.heap_model.specs.Limits.{AreValid}
use Rattle.move_to_front.proofs.NewFront.{to_place, has_new}
use Rattle.move_to_front.proofs.Unserved.{is_behind}
use Rattle.move_to_front.proofs.hold.hold_new.Goals as goal

pub hold_front-requires-clause-to_place : goal.hold_front-requires-clause-to_place
hold_front-requires-clause-to_place c = let h = c.requires.moving in to_place c.args.c.now h.0 h.1 c.args.n h.2 h.3 h.4 h.5 c.args.bucket c.requires.bucket h.6 h.8

pub returns-in-Held : goal.returns-in-Held
returns-in-Held c = λ addr size flags p out v vs_out w back_out wb.
    let k = c.args.c.now in
    let valid : AreValid k.opening.limits = subst AreValid (c.limits-limits.ensures.limits ∙ ap (λ (o : Opening). o.limits) (sym c.requires.table.1)) c.limits-limits.ensures.valid in
    has_new k c.hold_front.new.c c.hear.new.c addr size c.args.n flags p out v c.hold_front.new.vs c.args.back.now c.hold_front.new.back c.args.bucket c.in-Held.addr c.in-Held.ensures c.hear.ensures.runs c.hear.ensures.stands c.check.ensures.stands
    c.check-in-Held-2.ensures.stands c.hear.ensures.slots c.check-in-Held-2.ensures.legal valid c.requires.size c.requires.bucket c.check-in-Held.ensures.stands vs_out back_out

pub returns-in-NoRoom : goal.returns-in-NoRoom
returns-in-NoRoom c = λ addr size flags p out v vs_out w back_out wb.
    is_behind c.args.c.now c.hold_front.new.c c.hear-in-NoRoom.new.c addr size c.args.n flags p out v c.hold_front.new.vs c.args.back.now c.hold_front.new.back c.args.bucket c.in-NoRoom.ensures c.hear-in-NoRoom.ensures.runs c.hear-in-NoRoom.ensures.stands
    c.check-in-NoRoom.ensures.stands c.check-in-NoRoom-2.ensures.stands c.hear-in-NoRoom.ensures.slots c.requires.size back_out c.check.ensures.stands vs_out
