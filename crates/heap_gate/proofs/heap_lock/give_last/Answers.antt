use Rattle.std.proofs.Common.{[], ◌∷◌, ◌||◌, refl, subst}
use Rattle.heap_model.specs.declared.Act.TheVariants as acts
use Rattle.claim_rule.specs.Entries.{entry}
use Rattle.heap_gate.specs.Token.{Token}
use Rattle.heap_gate.specs.Calls.{HasUnlocked, stance}
use Rattle.heap_gate.proofs.Begun.{unlocked_begun}
use Rattle.heap_gate.proofs.heap_lock.give_last.Goals as goal

pub returns : goal.returns
returns g c =
    let old = c.args.c.now in let new = c.give.new.c in
    unlocked_begun c.args.within old new (old.pending || c.args.within) refl (subst (λ (t : Token). HasUnlocked t new (stance t) (entry t.number acts.Unlock ∷ [])) c.begin_unlock.ensures c.give.ensures)
