use Rattle.std.proofs.Common.{◌∙◌}
use Rattle.std.proofs.lemmas.Result.{IfOk-weaker, IfErr-weaker}
use Rattle.small_calls.proofs.ForVs.{asking_of}
use Rattle.small_calls.proofs.Backs.{backs_neither}
use Rattle.small_calls.proofs.Late.{neither_late}
use Rattle.small_calls.proofs.Refusals.{spent_table}
use Rattle.fall_calls.proofs.small.place_small.Goals as goal

pub try_front-requires-clause-asking : goal.try_front-requires-clause-asking
try_front-requires-clause-asking c = asking_of c.args.c.now c.args.n c.args.zero c.requires.allocating

pub returns-in-Placed-clause-placed : goal.returns-in-Placed-clause-placed
returns-in-Placed-clause-placed c = c.in-Placed.ensures.tries

pub returns-in-Placed-clause-late : goal.returns-in-Placed-clause-late
returns-in-Placed-clause-late c b is seen = neither_late c.args.c.now c.try_front.new.c b c.in-Placed.ensures.late

pub place_spent-requires-clause-table : goal.place_spent-requires-clause-table
place_spent-requires-clause-table c =
    let t = spent_table c.args.c.now c.try_front.new.c c.args.n c.in-Some.bucket c.in-Spent.draw.value c.in-Spent.lost c.args.zero c.in-Spent.ensures.tries in
    (t.0 ∙ c.requires.table.0, t.1 ∙ c.requires.table.1)

pub place_spent-requires-clause-spent : goal.place_spent-requires-clause-spent
place_spent-requires-clause-spent c = (c.args.c.now, c.in-Spent.ensures.tries)

pub returns-in-Spent-clause-placed : goal.returns-in-Spent-clause-placed
returns-in-Spent-clause-placed c = IfOk-weaker c.place_spent.result _ _ (λ addr p. p c.args.c.now c.in-Spent.ensures.tries) c.place_spent.ensures.placed

pub returns-in-Spent-clause-refused : goal.returns-in-Spent-clause-refused
returns-in-Spent-clause-refused c = IfErr-weaker c.place_spent.result _ _ (λ no p. p c.args.c.now c.in-Spent.ensures.tries) c.place_spent.ensures.refused

pub returns-in-Spent-clause-late : goal.returns-in-Spent-clause-late
returns-in-Spent-clause-late c = c.place_spent.ensures.late c.args.c.now c.in-Spent.ensures.tries

pub place_inactive-requires-clause-table : goal.place_inactive-requires-clause-table
place_inactive-requires-clause-table c = let g = c.in-Inactive.ensures.tries.goes in (g.table ∙ c.requires.table.0, g.opening ∙ c.requires.table.1)

pub place_inactive-requires-clause-inactive : goal.place_inactive-requires-clause-inactive
place_inactive-requires-clause-inactive c = (c.args.c.now, c.in-Inactive.ensures.tries)

pub returns-in-Inactive-clause-placed : goal.returns-in-Inactive-clause-placed
returns-in-Inactive-clause-placed c = IfOk-weaker c.place_inactive.result _ _ (λ addr p. p c.args.c.now c.in-Inactive.ensures.tries) c.place_inactive.ensures.placed

pub returns-in-Inactive-clause-refused : goal.returns-in-Inactive-clause-refused
returns-in-Inactive-clause-refused c = IfErr-weaker c.place_inactive.result _ _ (λ no p. p c.args.c.now c.in-Inactive.ensures.tries) c.place_inactive.ensures.refused

pub returns-in-Placed-clause-backs : goal.returns-in-Placed-clause-backs
returns-in-Placed-clause-backs c = backs_neither c.args.c.now c.try_front.new.c c.args.n c.in-Placed.ensures.late

pub returns-in-Spent-clause-backs : goal.returns-in-Spent-clause-backs
returns-in-Spent-clause-backs c = c.place_spent.ensures.backs c.args.c.now c.in-Spent.ensures.tries

pub returns-in-Inactive-clause-backs : goal.returns-in-Inactive-clause-backs
returns-in-Inactive-clause-backs c = c.place_inactive.ensures.backs c.args.c.now c.in-Inactive.ensures.tries
