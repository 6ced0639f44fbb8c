use Rattle.std.proofs.Common.{◌≡◌, true, sym, subst}
use Rattle.heap_model.specs.declared.Act.TheVariants as acts
use Rattle.claim_rule.specs.Entries.{may_prepare}
use Rattle.heap_gate.specs.Token.{Token, Always, now}
use Rattle.lfh_spans.specs.Subsegments.{IsBackOf}
use Rattle.lfh_spans.proofs.Refusing.{may_refuse, back_prepared}
use Rattle.lfh_spans.proofs.install.Goals as goal

pub prepare-requires-clause-may : goal.prepare-requires-clause-may
prepare-requires-clause-may g c =
    subst (λ (t : Token). Always t (λ s. may_prepare s (now s t) t.number (acts.NoSpan c.args.bucket) ≡ true)) (sym c.in-None.ensures.same)
    (may_refuse c.args.c.now c.args.back.now c.install_again.new.back c.args.bucket c.args.draw.value c.check.ensures.stands c.requires.whole c.requires.inside c.requires.held c.requires.back c.requires.may c.requires.first c.in-None.ensures.none)

pub returns-in-None-clause-back : goal.returns-in-None-clause-back
returns-in-None-clause-back g c = subst (λ (t : Token). IsBackOf t c.install_again.new.back) (sym c.prepare.ensures) (back_prepared c.install_again.new.c c.install_again.new.back c.args.bucket c.in-None.ensures.back)
