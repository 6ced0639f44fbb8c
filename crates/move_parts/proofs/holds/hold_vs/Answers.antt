use Rattle.std.proofs.Common.{sym, ◌∙◌}
use Rattle.vs_calls.proofs.TakenBack.{none_fits}
use Rattle.move_parts.proofs.holds.hold_vs.Goals as goal

pub hold_gap-requires-clause-moving : goal.hold_gap-requires-clause-moving
hold_gap-requires-clause-moving c = let h = c.requires.moving in (h.0, h.1, h.2, h.3, h.4, h.5, h.6, h.7, h.8)

pub hold_gap-requires-clause-fits : goal.hold_gap-requires-clause-fits
hold_gap-requires-clause-fits c = sym c.fit.ensures ∙ c.if-fit.true

pub returns-then-fit-clause-held : goal.returns-then-fit-clause-held
returns-then-fit-clause-held c = λ taken addr size flags p out v held w back_out wb.
    let x = c.hold_gap.ensures taken addr size flags p out v held w in
    record { place = x.place; held = x.held; vs = x.vs; back = x.back c.args.back.now wb; large = x.large }

pub hold_span-requires-clause-no_gap : goal.hold_span-requires-clause-no_gap
hold_span-requires-clause-no_gap c = none_fits c.args.vs.now c.args.n c.fit.result c.fit.ensures c.if-fit.false
