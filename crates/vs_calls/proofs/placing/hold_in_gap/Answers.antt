use Rattle.vs_layer.specs.Kept.{block_in}
use Rattle.vs_calls.proofs.Placed.{placed_here, place_may, held}
use Rattle.vs_calls.proofs.placing.hold_in_gap.Goals as goal

pub granules_at-granules-requires : goal.granules_at-granules-requires
granules_at-granules-requires c =
    let x = c.place-addr.ensures.placed in
    (block_in x.run c.args.n, placed_here c.args.c.now c.args.vs.now c.place-addr.new.self c.args.n c.place-addr.result c.requires.tells x)

pub prepare-requires-clause-may : goal.prepare-requires-clause-may
prepare-requires-clause-may c =
    place_may c.args.c.now c.args.vs.now c.place-addr.new.self c.args.n c.place-addr.result c.granules_at-granules.result c.requires.tells c.place-addr.ensures.placed c.granules_at-granules.ensures c.requires.may

pub returns : goal.returns
returns c =
    held c.args.c.now c.args.vs.now c.place-addr.new.self c.args.n c.place-addr.result c.granules_at-granules.result c.requires.tells c.place-addr.ensures.placed c.granules_at-granules.ensures c.prepare.new.c
    c.prepare.ensures c.place-addr.ensures.stands
