use Rattle.std.proofs.Common.{[], ◌∷◌, refl}
use Rattle.heap_model.specs.declared.Act.TheVariants as acts
use Rattle.heap_model.specs.declared.What.TheVariants as whats
use Rattle.claim_rule.specs.Places.{vs_slot, back_slot}
use Rattle.call_parts.proofs.Tokens.{ended_then}
use Rattle.move_calls.proofs.Given.{next_table, next_rests, next_vs, next_back}
use Rattle.move_calls.proofs.gives.give_low_and_large.Goals as goal

pub put_large-requires-clause-resting : goal.put_large-requires-clause-resting
put_large-requires-clause-resting c = (back_slot ∷ vs_slot ∷ [], c.requires.holding.resting, refl)

pub put_large-requires-clause-tells : goal.put_large-requires-clause-tells
put_large-requires-clause-tells c = c.requires.holding.tells.2

pub give_low-requires-clause-table : goal.give_low-requires-clause-table
give_low-requires-clause-table c =
    let r = c.requires.holding.resting in let more = back_slot ∷ vs_slot ∷ [] in
    next_table c.args.c.now c.put_large.new.c whats.Large more r (c.put_large.ensures more r) c.args.heap.now.table c.requires.table

pub give_low-requires-clause-holding : goal.give_low-requires-clause-holding
give_low-requires-clause-holding c =
    let r = c.requires.holding.resting in let t = c.requires.holding.tells in let more = back_slot ∷ vs_slot ∷ [] in let k = c.args.c.now in let d = c.put_large.new.c in let x = c.put_large.ensures more r in
    record {
      resting = next_rests k d whats.Large more r x;
      tells = (next_vs k d whats.Large more r x refl refl c.args.vs t.0, next_back k d whats.Large more r x refl refl c.args.back t.1);
    }

pub returns : goal.returns
returns c =
    let r = c.requires.holding.resting in let more = back_slot ∷ vs_slot ∷ [] in let k = c.args.c.now in let d = c.put_large.new.c in let x = c.put_large.ensures more r in
    ended_then k d c.give_low.new.c (acts.GiveLock whats.Large ∷ []) (acts.GiveLock whats.Back ∷ acts.GiveLock whats.Vs ∷ []) [] x.ended.added c.give_low.ensures
