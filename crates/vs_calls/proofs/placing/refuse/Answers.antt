use Rattle.std.proofs.Common.{◌≡◌, ◌∷◌, [], true, refl, sym, ap, subst, ◌∙◌}
use Rattle.heap_model.specs.declared.Act.TheVariants.{GiveLock}
use Rattle.heap_model.specs.declared.What.TheVariants as whats
use Rattle.heap_model.specs.Layers.{StandsForBack}
use Rattle.heap_model.specs.Legal.{leaves_whole}
use Rattle.claim_rule.specs.Entries.{entry}
use Rattle.claim_rule.specs.Places.{vs_slot}
use Rattle.backend_fit.specs.Kept.{layer_of}
use Rattle.heap_gate.specs.Calls.{HasGiven}
use Rattle.heap_gate.specs.Token.{Token, Always, now}
use Rattle.vs_calls.proofs.Refused.{back_tells, vs_tells, all_ended}
use Rattle.vs_calls.proofs.placing.refuse.Goals as goal

pub give_back-requires-clause-lock : goal.give_back-requires-clause-lock
give_back-requires-clause-lock c = (vs_slot ∷ [], ap (λ (t : Token). t.out) c.prepare.ensures ∙ c.requires.both.out_is, refl)

pub give_back-requires-clause-tells : goal.give_back-requires-clause-tells
give_back-requires-clause-tells c =
    subst (λ (t : Token). Always t (λ s. (leaves_whole (now s t).state whats.Back ≡ true) × StandsForBack t.opening (now s t).state (layer_of c.args.back))) (sym c.prepare.ensures)
    (back_tells c.args.c.now c.args.vs c.args.back c.requires.both c.check.ensures.stands c.args.n)

pub give_vs-requires-clause-tells : goal.give_vs-requires-clause-tells
give_vs-requires-clause-tells c =
    vs_tells c.args.c.now c.args.vs c.args.back c.requires.both c.check.ensures.stands c.args.n c.give_back.new.c
    (subst (λ (t : Token). HasGiven t c.give_back.new.c whats.Back (entry t.number (GiveLock whats.Back) ∷ [])) c.prepare.ensures c.give_back.ensures)

pub returns : goal.returns
returns c =
    all_ended c.args.c.now c.args.vs c.args.back c.requires.both c.check.ensures.stands c.args.n c.give_back.new.c
    (subst (λ (t : Token). HasGiven t c.give_back.new.c whats.Back (entry t.number (GiveLock whats.Back) ∷ [])) c.prepare.ensures c.give_back.ensures) c.give_vs.new.c c.give_vs.ensures
