use Rattle.std.proofs.Common.{[], ◌∷◌, refl}
use Rattle.heap_model.specs.declared.Act.TheVariants as acts
use Rattle.heap_model.specs.declared.What.TheVariants as whats
use Rattle.heap_model.specs.State.{holds}
use Rattle.heap_gate.specs.Token.{now}
use Rattle.paged_calls.proofs.BackDropped.{back_none, back_tells, vs_held, given_vs, both_given}
use Rattle.paged_calls.proofs.looks.deny.Goals as goal

pub give_back_denying-requires-clause-none : goal.give_back_denying-requires-clause-none
give_back_denying-requires-clause-none c =
    let x = c.requires.both in back_none c.args.c.now x.call c.args.vs c.args.back x.holds c.check.ensures.stands c.region-region.ensures.sound c.args.addr c.requires.not_vs c.requires.not_back c.requires.below c.requires.not_front

pub give_back_denying-requires-clause-tells : goal.give_back_denying-requires-clause-tells
give_back_denying-requires-clause-tells c =
    let x = c.requires.both in back_tells c.args.c.now x.call c.args.vs c.args.back x.holds c.check.ensures.stands c.region-region.ensures.sound c.args.addr c.requires.not_vs

pub give_vs-requires-clause-tells : goal.give_vs-requires-clause-tells
give_vs-requires-clause-tells c =
    let x = c.requires.both in let k = c.args.c.now in
    given_vs k c.give_back_denying.new.c _ c.args.vs c.give_back_denying.ensures.runs (λ s. (refl, refl, refl))
    (vs_held k x.call c.args.vs c.args.back x.holds c.check.ensures.stands c.region-region.ensures.sound c.args.addr c.requires.not_vs) x.used x.holds.tells_vs

pub returns : goal.returns
returns c =
    let x = c.requires.both in
    both_given c.args.c.now c.give_back_denying.new.c c.give_vs.new.c (acts.NotLive c.args.addr ∷ acts.GiveLock whats.Back ∷ []) c.give_back_denying.ensures c.give_vs.ensures x.holds.serving.out_is x.holds.serving.free
