use Rattle.std.proofs.Common.{sym, ◌∙◌}
use Rattle.vs_calls.proofs.TakenBack.{none_fits}
use Rattle.fall_calls.proofs.Falling.{small_size}
use Rattle.fall_calls.proofs.PlacedBehind.{placed_behind, any_placed}
use Rattle.fall_calls.proofs.behind.place_behind.Goals as goal

pub fit-requires : goal.fit-requires
fit-requires c = small_size c.args.n c.requires.falls.bucket c.requires.falls.bucket_is

pub place_in_gap-requires-clause-fits : goal.place_in_gap-requires-clause-fits
place_in_gap-requires-clause-fits c = sym c.fit.ensures ∙ c.if-fit.true

pub returns-then-fit-clause-placed : goal.returns-then-fit-clause-placed
returns-then-fit-clause-placed c =
    placed_behind c.args.c.now c.place_in_gap.new.c c.args.vs c.args.back c.args.n c.place_in_gap.result c.args.zero c.args.vs_last c.requires.falls c.place_in_gap.ensures

pub place_in_span-requires-clause-no_gap : goal.place_in_span-requires-clause-no_gap
place_in_span-requires-clause-no_gap c = none_fits c.args.vs c.args.n c.fit.result c.fit.ensures c.if-fit.false

pub returns-clause-placed : goal.returns-clause-placed
returns-clause-placed c =
    any_placed c.args.c.now c.place_in_span.new.c c.args.vs c.args.back c.args.n c.args.zero c.args.vs_last c.place_in_span.result c.requires.falls c.place_in_span.ensures.placed
