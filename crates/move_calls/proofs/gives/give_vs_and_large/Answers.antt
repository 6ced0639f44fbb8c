use Rattle.std.proofs.Common.{[], ◌∷◌, refl}
use Rattle.heap_model.specs.declared.Act.TheVariants as acts
use Rattle.heap_model.specs.declared.What.TheVariants as whats
use Rattle.claim_rule.specs.Places.{large_slot}
use Rattle.call_parts.proofs.Tokens.{ended_then}
use Rattle.move_calls.proofs.Given.{next_table, next_rests, next_large}
use Rattle.move_calls.proofs.gives.give_vs_and_large.Goals as goal

pub put_vs-requires-clause-resting : goal.put_vs-requires-clause-resting
put_vs-requires-clause-resting c = (large_slot ∷ [], c.requires.holding.resting, refl)

pub put_vs-requires-clause-tells : goal.put_vs-requires-clause-tells
put_vs-requires-clause-tells c = c.requires.holding.tells.0

pub put_large-requires-clause-table : goal.put_large-requires-clause-table
put_large-requires-clause-table c =
    let r = c.requires.holding.resting in next_table c.args.c.now c.put_vs.new.c whats.Vs (large_slot ∷ []) r (c.put_vs.ensures (large_slot ∷ []) r) c.args.heap.now.table c.requires.table

pub put_large-requires-clause-resting : goal.put_large-requires-clause-resting
put_large-requires-clause-resting c =
    let r = c.requires.holding.resting in ([], next_rests c.args.c.now c.put_vs.new.c whats.Vs (large_slot ∷ []) r (c.put_vs.ensures (large_slot ∷ []) r), refl)

pub put_large-requires-clause-tells : goal.put_large-requires-clause-tells
put_large-requires-clause-tells c =
    let r = c.requires.holding.resting in next_large c.args.c.now c.put_vs.new.c whats.Vs (large_slot ∷ []) r (c.put_vs.ensures (large_slot ∷ []) r) refl refl c.args.large c.requires.holding.tells.1

pub returns : goal.returns
returns c =
    let r = c.requires.holding.resting in let k = c.args.c.now in let d = c.put_vs.new.c in let x = c.put_vs.ensures (large_slot ∷ []) r in
    let y = c.put_large.ensures [] (next_rests k d whats.Vs (large_slot ∷ []) r x) in
    ended_then k d c.put_large.new.c (acts.GiveLock whats.Vs ∷ []) (acts.GiveLock whats.Large ∷ []) [] x.ended.added y.ended
