use Rattle.std.proofs.Common.{◌≡◌, ℕ, true, sym, subst}
use Rattle.heap_model.specs.declared.Act.TheVariants as acts
use Rattle.heap_model.specs.declared.What.TheVariants as whats
use Rattle.heap_model.specs.Layers.{StandsForLarge}
use Rattle.heap_model.specs.Legal.{leaves_whole}
use Rattle.claim_rule.specs.Entries.{may_prepare}
use Rattle.std.specs.List.{find}
use Rattle.large_blocks.specs.Table.{layer_of, is_at}
use Rattle.heap_gate.specs.Token.{Token, Always, now}
use Rattle.paged_calls.proofs.LargeFound.{sized_block, sized_may, sized_tells}
use Rattle.paged_calls.proofs.huge.tell_size.Goals as goal

pub prepare-requires-clause-may : goal.prepare-requires-clause-may
prepare-requires-clause-may c =
    let k = c.args.c.now in let x = c.requires.large in let b = sized_block (find (is_at c.args.addr) c.args.large.blocks) c.args.size c.requires.found in
    subst (λ (n : ℕ). Always k (λ s. may_prepare s (now s k) k.number (acts.Sized c.args.addr n) ≡ true)) b.2 (sized_may k x.0 c.args.large x.1 c.check.ensures.stands c.blocks-blocks.ensures.sound c.args.addr b.0 b.1)

pub give_large-requires-clause-tells : goal.give_large-requires-clause-tells
give_large-requires-clause-tells c =
    let k = c.args.c.now in let x = c.requires.large in
    subst (λ (t : Token). Always t (λ s. (leaves_whole (now s t).state whats.Large ≡ true) × StandsForLarge t.opening (now s t).state (layer_of c.args.large))) (sym c.prepare.ensures)
    (sized_tells k x.0 c.args.large x.1 c.check.ensures.stands c.blocks-blocks.ensures.sound c.args.addr c.args.size)
