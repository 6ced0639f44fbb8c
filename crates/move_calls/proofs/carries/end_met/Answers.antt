use Rattle.std.proofs.Common.{[], ◌∷◌, refl, subst}
use Rattle.heap_model.specs.declared.Act.TheVariants as acts
use Rattle.call_parts.specs.Entries.{HasEnded}
use Rattle.move_calls.proofs.Carrying.{way}
use Rattle.move_calls.proofs.carries.end_met.Goals as goal

pub give_taken_back-requires-clause-block : goal.give_taken_back-requires-clause-block
give_taken_back-requires-clause-block c = let z = c.requires.met in (z.1, z.5.holds.block)

pub returns : goal.returns
returns c = λ first tag n flags what v f.
    let k = c.args.c.now in let d = c.give_taken_back.new.c in
    way first k d tag c.args.addr c.args.size n flags [] what c.args.busy v [] refl refl (subst (HasEnded k d (acts.Give c.args.addr c.args.size ∷ [])) v.holds.out_is c.give_taken_back.ensures.ended) f
