use Rattle.std.proofs.Common.{◌≡◌, ◌∷◌, [], true, sym, subst, ◌∙◌}
use Rattle.heap_model.specs.declared.Act.TheVariants.{GiveLock}
use Rattle.heap_model.specs.declared.What.TheVariants as whats
use Rattle.heap_model.specs.declared.Limits.{Limits}
use Rattle.heap_model.specs.Layers.{StandsForVs}
use Rattle.heap_model.specs.Legal.{leaves_whole}
use Rattle.claim_rule.specs.Entries.{entry}
use Rattle.heap_gate.specs.Calls.{HasGiven}
use Rattle.heap_gate.specs.Token.{Token, Always, now}
use Rattle.vs_layer.specs.Standing.{layer_of}
use Rattle.vs_calls.specs.Blocks.{LiesWithin}
use Rattle.vs_calls.proofs.Within.{tells_limits}
use Rattle.vs_calls.proofs.Held.{live_block, sized_may, sized_tells, sized_makes}
use Rattle.vs_calls.proofs.blocks.measure_vs.Goals as goal

pub prepare-requires-clause-may : goal.prepare-requires-clause-may
prepare-requires-clause-may c =
    let b = live_block c.args.vs c.args.addr c.unwrap-size.result (sym c.find.ensures ∙ c.unwrap-size.ensures) in
    sized_may c.args.c.now c.args.vs c.requires.vs c.check.ensures.stands c.args.addr c.unwrap-size.result b

pub give_vs-requires-clause-tells : goal.give_vs-requires-clause-tells
give_vs-requires-clause-tells c =
    let b = live_block c.args.vs c.args.addr c.unwrap-size.result (sym c.find.ensures ∙ c.unwrap-size.ensures) in
    subst (λ (t : Token). Always t (λ s. (leaves_whole (now s t).state whats.Vs ≡ true) × StandsForVs t.opening (now s t).state (layer_of c.args.vs))) (sym c.prepare.ensures)
    (sized_tells c.args.c.now c.args.vs c.requires.vs c.check.ensures.stands c.args.addr c.unwrap-size.result b)

pub returns-clause-made : goal.returns-clause-made
returns-clause-made c =
    let b = live_block c.args.vs c.args.addr c.unwrap-size.result (sym c.find.ensures ∙ c.unwrap-size.ensures) in
    sized_makes c.args.c.now c.args.vs c.requires.vs c.check.ensures.stands c.args.addr c.unwrap-size.result b c.give_vs.new.c
    (subst (λ (t : Token). HasGiven t c.give_vs.new.c whats.Vs (entry t.number (GiveLock whats.Vs) ∷ [])) c.prepare.ensures c.give_vs.ensures)

pub returns-clause-within : goal.returns-clause-within
returns-clause-within c =
    let e = sym c.find.ensures ∙ c.unwrap-size.ensures in
    subst (λ (l : Limits). LiesWithin l c.args.addr c.unwrap-size.result) (tells_limits c.args.c.now c.args.vs c.requires.vs.holds.tells) (c.lies_within.ensures c.unwrap-size.result e)
