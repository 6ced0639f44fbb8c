use Rattle.std.proofs.Common.{◌∷◌, sym, ap, ◌∙◌}
use Rattle.heap_model.specs.declared.What.TheVariants as whats
use Rattle.claim_rule.specs.Places.{vs_slot, back_slot}
use Rattle.heap_gate.specs.Token.{is_out}
use Rattle.walk_calls.proofs.Locking.{took_all, told_all}
use Rattle.walk_calls.proofs.call.take_all.Goals as goal

pub own_vs-vs-requires-clause-lock : goal.own_vs-vs-requires-clause-lock
own_vs-vs-requires-clause-lock c = ap (is_out whats.Vs) c.requires.out.0

pub own_back-back-requires-clause-lock : goal.own_back-back-requires-clause-lock
own_back-back-requires-clause-lock c = ap (is_out whats.Back) (c.own_vs-vs.ensures.stands.out ∙ ap (λ l. vs_slot ∷ l) c.requires.out.0)

pub own_large-large-requires-clause-owns : goal.own_large-large-requires-clause-owns
own_large-large-requires-clause-owns c = λ z. c.requires.owner.owns (sym (c.own_back-back.ensures.stands.depth ∙ c.own_vs-vs.ensures.stands.depth) ∙ z)

pub own_large-large-requires-clause-lock : goal.own_large-large-requires-clause-lock
own_large-large-requires-clause-lock c =
    ap (is_out whats.Large) (c.own_back-back.ensures.stands.out ∙ ap (λ l. back_slot ∷ l) (c.own_vs-vs.ensures.stands.out ∙ ap (λ l. vs_slot ∷ l) c.requires.out.0))

pub returns-clause-done : goal.returns-clause-done
returns-clause-done c =
    took_all c.args.c.now c.own_vs-vs.new.c c.own_back-back.new.c c.own_vs-vs.result c.own_back-back.result c.check.ensures.stands c.requires.owner c.own_vs-vs.ensures c.check-2.ensures.stands c.own_back-back.ensures
    c.own_large-large.new.c c.own_large-large.result c.check-3.ensures.stands c.own_large-large.ensures

pub returns-clause-tells : goal.returns-clause-tells
returns-clause-tells c =
    told_all c.args.c.now c.own_vs-vs.new.c c.own_back-back.new.c c.own_vs-vs.result c.own_back-back.result c.check.ensures.stands c.requires.owner c.own_vs-vs.ensures c.check-2.ensures.stands c.own_back-back.ensures
    c.own_large-large.new.c c.own_large-large.result c.check-3.ensures.stands c.own_large-large.ensures

pub returns-clause-whole : goal.returns-clause-whole
returns-clause-whole c = record { chunks = c.heads-shown.ensures.shown; sound = c.region-sound.ensures.sound }
