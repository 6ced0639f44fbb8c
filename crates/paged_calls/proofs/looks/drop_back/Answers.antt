use Rattle.std.proofs.Common.{◌/◌, [], ◌∷◌, refl}
use Rattle.heap_model.specs.declared.Act.TheVariants as acts
use Rattle.heap_model.specs.declared.What.TheVariants as whats
use Rattle.claim_rule.specs.Places.{vs_slot, back_slot}
use Rattle.paged_calls.specs.Blocks.{block_size}
use Rattle.call_parts.proofs.Tokens.{makes}
use Rattle.paged_calls.proofs.looks.drop_back.Goals as goal

pub returns-in-Some : goal.returns-in-Some
returns-in-Some c =
    let x = c.requires.both in let addr = c.args.addr in let size = block_size c.in-Some.run' in (
      size,
      λ call e.
          makes c.args.c.now c.drop_run.new.c call x.call (back_slot ∷ vs_slot ∷ []) (acts.Take addr size ∷ acts.Drop addr ∷ acts.Unspan (addr / 4096) ∷ acts.GiveLock whats.Back ∷ acts.GiveLock whats.Vs ∷ [])
          (acts.Take addr size ∷ acts.Drop addr ∷ []) x.holds.serving e c.drop_run.ensures refl refl,
    )
