use Rattle.std.proofs.Common.{[], ◌∷◌, ◌∙◌, refl, arith, inl}
use Rattle.heap_model.specs.declared.Act.TheVariants as acts
use Rattle.heap_model.specs.declared.What.TheVariants as whats
use Rattle.search_laws.proofs.Blocks.{bucket_fits}
use Rattle.small_calls.proofs.Backs.{backs_leave, backs_first}
use Rattle.small_calls.proofs.ForVs.{placing, refused_there}
use Rattle.small_calls.proofs.VsHeld.{places_behind}
use Rattle.small_calls.proofs.by_vs.try_inactive.Goals as goal

pub returns-in-Busy-clause-tries : goal.returns-in-Busy-clause-tries
returns-in-Busy-clause-tries c = inl c.in-Busy.ensures.tries

pub place_in_vs-requires-clause-size : goal.place_in_vs-requires-clause-size
place_in_vs-requires-clause-size c = let k = (bucket_fits c.args.n c.args.bucket c.requires.bucket).0 in omega (arith, k)

pub place_in_vs-requires-clause-table : goal.place_in_vs-requires-clause-table
place_in_vs-requires-clause-table c = let g = c.in-ForVs.ensures.tries.goes in (g.table ∙ c.requires.table.0, g.opening ∙ c.requires.table.1)

pub place_in_vs-requires-clause-placing : goal.place_in_vs-requires-clause-placing
place_in_vs-requires-clause-placing c = let x = c.in-ForVs.ensures.tries in placing c.try_under_vs.new.c c.in-ForVs.vs c.args.n c.args.zero x.asks x.for_vs

pub returns-in-Ok-clause-tries : goal.returns-in-Ok-clause-tries
returns-in-Ok-clause-tries c =
    let x = c.in-ForVs.ensures.tries in
    places_behind c.args.c.now c.try_under_vs.new.c c.place_in_vs.new.c c.in-Ok.addr (acts.TakeLock whats.Vs ∷ []) x.goes refl refl x.call c.in-Ok.ensures.placed

pub returns-in-Err-clause-tries : goal.returns-in-Err-clause-tries
returns-in-Err-clause-tries c =
    let x = c.in-ForVs.ensures.tries in
    refused_there c.args.c.now c.try_under_vs.new.c c.place_in_vs.new.c c.in-ForVs.vs c.args.n c.args.zero x.goes x.call x.asks c.in-Err.no c.in-Err.ensures.refused

pub returns-in-Spent-clause-tries : goal.returns-in-Spent-clause-tries
returns-in-Spent-clause-tries c = (c.requires.bucket, c.in-Spent.ensures.tries)

pub returns-in-Busy-clause-backs : goal.returns-in-Busy-clause-backs
returns-in-Busy-clause-backs c = backs_leave c.args.c.now c.try_under_vs.new.c c.args.n c.in-Busy.ensures.leaves

pub returns-in-Placed-clause-backs : goal.returns-in-Placed-clause-backs
returns-in-Placed-clause-backs c = backs_leave c.args.c.now c.try_under_vs.new.c c.args.n c.in-Placed.ensures.leaves

pub returns-in-Ok-clause-backs : goal.returns-in-Ok-clause-backs
returns-in-Ok-clause-backs c =
    let x = c.in-ForVs.ensures.tries in
    backs_first c.args.c.now c.try_under_vs.new.c c.place_in_vs.new.c c.in-ForVs.vs c.args.n x.goes x.asks.tells c.in-Ok.ensures.late

pub returns-in-Err-clause-backs : goal.returns-in-Err-clause-backs
returns-in-Err-clause-backs c =
    let x = c.in-ForVs.ensures.tries in
    backs_first c.args.c.now c.try_under_vs.new.c c.place_in_vs.new.c c.in-ForVs.vs c.args.n x.goes x.asks.tells c.in-Err.ensures.late
