use Rattle.std.proofs.Common.{◌≡◌, ℕ, true, [], ◌∷◌, ◌∙◌, sym, ap, subst}
use Rattle.std.specs.List.{find}
use Rattle.heap_model.specs.declared.Act.TheVariants as acts
use Rattle.heap_model.specs.declared.What.TheVariants as whats
use Rattle.heap_model.specs.Layers.{StandsForLarge}
use Rattle.heap_model.specs.Legal.{leaves_whole}
use Rattle.claim_rule.specs.Entries.{are_prepared}
use Rattle.call_laws.specs.Within.{by_all}
use Rattle.large_blocks.specs.Table.{layer_of, is_at}
use Rattle.heap_gate.specs.Token.{Token, Always, now}
use Rattle.heap_gate.specs.Calls.{rested, HasRested}
use Rattle.call_parts.specs.Entries.{with_all}
use Rattle.paged_calls.proofs.LargeFound.{sized_block}
use Rattle.paged_calls.proofs.LargeDropped.{drop_may, drop_rests, drop_tells}
use Rattle.paged_calls.proofs.huge.drop_block.Goals as goal

pub prepare_all-requires-clause-may : goal.prepare_all-requires-clause-may
prepare_all-requires-clause-may c =
    let k = c.args.c.now in let x = c.requires.large in let addr = c.args.addr in let b = sized_block (find (is_at addr) c.args.large.blocks) c.args.size c.requires.found in
    subst (λ (n : ℕ). Always k (λ s. are_prepared s (now s k) k.number (by_all k.number (acts.Take addr n ∷ acts.Drop addr ∷ [])) ≡ true)) b.2
    (drop_may k x.0 c.args.large x.1 c.check.ensures.stands c.blocks-blocks.ensures.sound addr b.0 b.1)

pub rest-requires : goal.rest-requires
rest-requires c =
    let k = c.args.c.now in let x = c.requires.large in let addr = c.args.addr in let b = sized_block (find (is_at addr) c.args.large.blocks) c.args.size c.requires.found in
    let e = c.prepare_all.ensures ∙ ap (λ (n : ℕ). with_all k (acts.Take addr n ∷ acts.Drop addr ∷ [])) (sym b.2) in
    record { rests = subst (λ (t : Token). Always t (λ s. HasRested (now s t) t.number)) (sym e) (drop_rests k x.0 c.args.large x.1 c.check.ensures.stands c.blocks-blocks.ensures.sound addr b.0 b.1) }

pub give_large-requires-clause-tells : goal.give_large-requires-clause-tells
give_large-requires-clause-tells c =
    let k = c.args.c.now in let x = c.requires.large in let addr = c.args.addr in let b = sized_block (find (is_at addr) c.args.large.blocks) c.args.size c.requires.found in
    let e = c.rest.ensures ∙ ap rested (c.prepare_all.ensures ∙ ap (λ (n : ℕ). with_all k (acts.Take addr n ∷ acts.Drop addr ∷ [])) (sym b.2)) in
    subst (λ (t : Token). Always t (λ s. (leaves_whole (now s t).state whats.Large ≡ true) × StandsForLarge t.opening (now s t).state (layer_of c.give.new.self))) (sym e)
    (drop_tells k x.0 c.args.large x.1 c.check.ensures.stands c.blocks-blocks.ensures.sound addr b.0 b.1 c.give.new.self c.give.ensures.stands)
