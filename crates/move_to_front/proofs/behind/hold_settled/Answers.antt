use Rattle.std.proofs.Common.{◌∙◌, false}
use Rattle.move_to_front.proofs.Settled.{settled}
use Rattle.move_to_front.proofs.behind.hold_settled.Goals as goal

pub hold_behind-requires-clause-moving : goal.hold_behind-requires-clause-moving
hold_behind-requires-clause-moving c = let h = c.requires.moving in (false, h.0, h.1, h.2, h.3, h.4, h.5, h.6, h.7, h.8, h.9)

pub settle-requires-clause-table : goal.settle-requires-clause-table
settle-requires-clause-table c =
    let h = c.requires.moving in let x = c.in-Some.ensures.held false h.0 h.1 h.2 h.3 h.4 h.5 h.6 h.7 h.8 h.9 in
    x.held.made.added.goes.table ∙ c.requires.table.0

pub settle-requires-clause-whole : goal.settle-requires-clause-whole
settle-requires-clause-whole c =
    let h = c.requires.moving in let x = c.in-Some.ensures.held false h.0 h.1 h.2 h.3 h.4 h.5 h.6 h.7 h.8 h.9 in x.held.half.new.whole

pub returns-clause-held : goal.returns-clause-held
returns-clause-held c = λ addr size flags p out v held w back_out wb.
    let x = c.in-Some.ensures.held false addr size flags p out v held w back_out wb in
    settled c.args.c.now c.hold_behind.new.c c.settle.new.c addr size c.args.n flags p out c.in-Some.b c.hold_behind.new.vs c.hold_behind.new.back x c.settle.ensures.runs c.settle.ensures.stands c.check.ensures.stands held back_out
