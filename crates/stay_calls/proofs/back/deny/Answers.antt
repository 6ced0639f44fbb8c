use Rattle.std.proofs.Common.{[], ◌∷◌, refl}
use Rattle.heap_model.specs.declared.Act.TheVariants as acts
use Rattle.heap_model.specs.declared.What.TheVariants as whats
use Rattle.stay_calls.proofs.BackStays.{back_none, back_tells, vs_held, given_vs, both_given}
use Rattle.stay_calls.proofs.back.deny.Goals as goal

pub give_back_denying-requires-clause-none : goal.give_back_denying-requires-clause-none
give_back_denying-requires-clause-none c =
    let y = c.requires.back in let x = y.has in
    back_none c.args.c.now x.call c.args.vs c.args.back x.holds c.check.ensures.stands c.region-region.ensures.sound c.args.addr y.not_vs c.requires.none y.below y.not_front

pub give_back_denying-requires-clause-tells : goal.give_back_denying-requires-clause-tells
give_back_denying-requires-clause-tells c =
    let y = c.requires.back in let x = y.has in back_tells c.args.c.now x.call c.args.vs c.args.back x.holds c.check.ensures.stands c.region-region.ensures.sound c.args.addr y.not_vs

pub give_vs-requires-clause-tells : goal.give_vs-requires-clause-tells
give_vs-requires-clause-tells c =
    let y = c.requires.back in let x = y.has in let k = c.args.c.now in
    given_vs k c.give_back_denying.new.c _ c.args.vs c.give_back_denying.ensures.runs (λ s. (refl, refl, refl))
    (vs_held k x.call c.args.vs c.args.back x.holds c.check.ensures.stands c.region-region.ensures.sound c.args.addr y.not_vs) x.used x.holds.tells_vs

pub returns : goal.returns
returns c =
    let x = c.requires.back.has in
    both_given c.args.c.now c.give_back_denying.new.c c.give_vs.new.c (acts.NotLive c.args.addr ∷ acts.GiveLock whats.Back ∷ []) c.give_back_denying.ensures c.give_vs.ensures x.holds.serving.out_is x.holds.serving.free
