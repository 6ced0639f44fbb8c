use Rattle.std.proofs.Common.{sym}
use Rattle.move_front.proofs.Activated.{is_active, is_idle, may_become, becomes_active}
use Rattle.move_front.proofs.active.activate.Goals as goal

pub returns-then-is_active : goal.returns-then-is_active
returns-then-is_active c = is_active c.args.c.now c.args.vs.now c.args.bucket c.requires.asks c.requires.vs (sym c.if-is_active.ensures)

pub returns-then-not-due : goal.returns-then-not-due
returns-then-not-due c = is_idle c.args.c.now c.args.vs.now c.args.bucket c.requires.asks c.requires.vs (sym c.if-is_active.ensures) (sym c.if-not-due.ensures)

pub set_active-requires-2-clause-may : goal.set_active-requires-2-clause-may
set_active-requires-2-clause-may c =
    may_become c.args.c.now c.args.vs.now c.args.bucket c.requires.asks c.requires.vs c.check.ensures.stands c.requires.bucket.first (sym c.if-is_active.ensures) (sym c.if-not-due.ensures)

pub returns : goal.returns
returns c =
    becomes_active c.args.c.now c.args.vs.now c.args.bucket c.requires.asks c.requires.vs c.check.ensures.stands c.requires.bucket.first c.set_active-2.new.c c.set_active.new.self c.set_active-2.ensures.runs c.set_active-2.ensures.stands
    c.set_active.ensures.stands c.check_slot.ensures c.check_slot-2.ensures
