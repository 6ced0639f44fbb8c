use Rattle.std.proofs.Common.{[], ◌∷◌, refl}
use Rattle.heap_model.specs.declared.Act.TheVariants as acts
use Rattle.heap_model.specs.declared.What.TheVariants as whats
use Rattle.claim_rule.specs.Places.{vs_slot}
use Rattle.call_parts.proofs.Tokens.{ended_then}
use Rattle.move_calls.proofs.Given.{next_table, next_rests, next_vs}
use Rattle.move_calls.proofs.gives.give_low.Goals as goal

pub put_back-requires-clause-resting : goal.put_back-requires-clause-resting
put_back-requires-clause-resting c = (vs_slot ∷ [], c.requires.holding.resting, refl)

pub put_back-requires-clause-tells : goal.put_back-requires-clause-tells
put_back-requires-clause-tells c = c.requires.holding.tells.1

pub put_vs-requires-clause-table : goal.put_vs-requires-clause-table
put_vs-requires-clause-table c =
    let r = c.requires.holding.resting in next_table c.args.c.now c.put_back.new.c whats.Back (vs_slot ∷ []) r (c.put_back.ensures (vs_slot ∷ []) r) c.args.heap.now.table c.requires.table

pub put_vs-requires-clause-resting : goal.put_vs-requires-clause-resting
put_vs-requires-clause-resting c =
    let r = c.requires.holding.resting in ([], next_rests c.args.c.now c.put_back.new.c whats.Back (vs_slot ∷ []) r (c.put_back.ensures (vs_slot ∷ []) r), refl)

pub put_vs-requires-clause-tells : goal.put_vs-requires-clause-tells
put_vs-requires-clause-tells c =
    let r = c.requires.holding.resting in next_vs c.args.c.now c.put_back.new.c whats.Back (vs_slot ∷ []) r (c.put_back.ensures (vs_slot ∷ []) r) refl refl c.args.vs c.requires.holding.tells.0

pub returns : goal.returns
returns c =
    let r = c.requires.holding.resting in let k = c.args.c.now in let d = c.put_back.new.c in let x = c.put_back.ensures (vs_slot ∷ []) r in
    let y = c.put_vs.ensures [] (next_rests k d whats.Back (vs_slot ∷ []) r x) in
    ended_then k d c.put_vs.new.c (acts.GiveLock whats.Back ∷ []) (acts.GiveLock whats.Vs ∷ []) [] x.ended.added y.ended
