use Rattle.std.proofs.Common.{[], ◌∷◌, refl}
use Rattle.heap_model.specs.declared.Act.TheVariants as acts
use Rattle.heap_model.specs.declared.What.TheVariants as whats
use Rattle.claim_rule.specs.Places.{vs_slot, large_slot}
use Rattle.call_parts.proofs.Tokens.{ended_then}
use Rattle.move_calls.proofs.Given.{next_table, next_rests, next_vs, next_large}
use Rattle.move_calls.proofs.gives.give_all_three.Goals as goal

pub put_back-requires-clause-resting : goal.put_back-requires-clause-resting
put_back-requires-clause-resting c = (vs_slot ∷ large_slot ∷ [], c.requires.holding.resting, refl)

pub put_back-requires-clause-tells : goal.put_back-requires-clause-tells
put_back-requires-clause-tells c = c.requires.holding.tells.1

pub give_vs_and_large-requires-clause-table : goal.give_vs_and_large-requires-clause-table
give_vs_and_large-requires-clause-table c =
    let r = c.requires.holding.resting in let more = vs_slot ∷ large_slot ∷ [] in
    next_table c.args.c.now c.put_back.new.c whats.Back more r (c.put_back.ensures more r) c.args.heap.now.table c.requires.table

pub give_vs_and_large-requires-clause-holding : goal.give_vs_and_large-requires-clause-holding
give_vs_and_large-requires-clause-holding c =
    let r = c.requires.holding.resting in let t = c.requires.holding.tells in let more = vs_slot ∷ large_slot ∷ [] in let k = c.args.c.now in let d = c.put_back.new.c in let x = c.put_back.ensures more r in
    record {
      resting = next_rests k d whats.Back more r x;
      tells = (next_vs k d whats.Back more r x refl refl c.args.vs t.0, next_large k d whats.Back more r x refl refl c.args.large t.2);
    }

pub returns : goal.returns
returns c =
    let r = c.requires.holding.resting in let more = vs_slot ∷ large_slot ∷ [] in let k = c.args.c.now in let d = c.put_back.new.c in let x = c.put_back.ensures more r in
    ended_then k d c.give_vs_and_large.new.c (acts.GiveLock whats.Back ∷ []) (acts.GiveLock whats.Vs ∷ acts.GiveLock whats.Large ∷ []) [] x.ended.added c.give_vs_and_large.ensures
