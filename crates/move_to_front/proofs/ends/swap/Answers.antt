use Rattle.std.proofs.Common.{sym, subst}
use Rattle.block_steps.specs.Blocks.{MayPublish}
use Rattle.heap_gate.specs.Token.{Token, Always, now}
use Rattle.lfh_claims.specs.Blocks.{HasPublished}
use Rattle.move_to_front.proofs.Swapped.{take_ok, publish_ok, drop_ok, swapped}
use Rattle.move_to_front.proofs.ends.swap.Goals as goal

pub prepare-requires-clause-may : goal.prepare-requires-clause-may
prepare-requires-clause-may c = let h = c.requires.halfway in take_ok c.args.c.now h.0 c.args.addr c.args.size c.args.b c.args.n h.1 h.2 h.3 h.4 c.check.ensures.stands

pub publish-requires-clause-may : goal.publish-requires-clause-may
publish-requires-clause-may c =
    let h = c.requires.halfway in
    subst (λ (t : Token). Always t (λ s. MayPublish s (now s t) t.number c.args.b c.args.n)) (sym c.prepare.ensures)
    (publish_ok c.args.c.now h.0 c.args.addr c.args.size c.args.b c.args.n h.1 h.2 h.3 h.4 c.check.ensures.stands)

pub prepare-requires-2-clause-may : goal.prepare-requires-2-clause-may
prepare-requires-2-clause-may c =
    let h = c.requires.halfway in let y = subst (λ (t : Token). HasPublished t c.publish.new.c c.args.b c.args.n) c.prepare.ensures c.publish.ensures in
    drop_ok c.args.c.now h.0 c.args.addr c.args.size c.args.b c.args.n h.1 h.2 h.3 h.4 c.check.ensures.stands c.publish.new.c y c.check-2.ensures.stands

pub returns : goal.returns
returns c = λ call p q out h.
    let y = subst (λ (t : Token). HasPublished t c.publish.new.c c.args.b c.args.n) c.prepare.ensures c.publish.ensures in
    swapped c.args.c.now call c.args.addr c.args.size c.args.b c.args.n p q out h c.check.ensures.stands c.publish.new.c y c.check-2.ensures.stands c.prepare-2.new.c c.prepare-2.ensures
