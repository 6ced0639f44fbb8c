use Rattle.std.proofs.Common.{refl}
use Rattle.heap_model.specs.declared.What.TheVariants as whats
use Rattle.backend_fit.specs.Kept.{layer_of}
use Rattle.address_calls.proofs.Behind.{looks_then}
use Rattle.address_calls.proofs.States.{looks_taken, both_taken, missed_tells, missed_both, met_behind}
use Rattle.std.proofs.Common.{[], ◌∷◌}
use Rattle.heap_model.specs.declared.Act.TheVariants as acts
use Rattle.address_calls.proofs.States.{added_lock, front_more}
use Rattle.address_calls.proofs.look.look_under_both.Goals as goal

pub split-requires-clause-both : goal.split-requires-clause-both
split-requires-clause-both c = both_taken c.args.c.now c.args.vs c.requires.vs c.check.ensures.stands c.take_back.new.c c.in-Ok.back c.in-Ok.ensures.ok

pub give_vs-requires-clause-tells : goal.give_vs-requires-clause-tells
give_vs-requires-clause-tells c = missed_tells c.args.c.now c.args.vs c.requires.vs c.check.ensures.stands c.take_back.new.c c.in-Err.busy.what c.in-Err.busy.word c.in-Err.ensures.busy

pub returns-in-Ok-clause-looks : goal.returns-in-Ok-clause-looks
returns-in-Ok-clause-looks c =
    looks_then c.args.c.now c.take_back.new.c c.split.new.c (looks_taken layer_of c.args.c.now c.take_back.new.c whats.Back c.in-Ok.back refl c.requires.vs.holds.serving.owes c.in-Ok.ensures.ok) c.split.ensures.looks

pub returns-in-Err-clause-busy : goal.returns-in-Err-clause-busy
returns-in-Err-clause-busy c =
    met_behind c.args.c.now c.take_back.new.c c.give_vs.new.c c.args.addr c.in-Err.busy c.requires.below c.in-Err.ensures.busy
    (missed_both c.args.c.now c.args.vs c.requires.vs c.check.ensures.stands c.take_back.new.c c.in-Err.busy.what c.in-Err.busy.word c.in-Err.ensures.busy c.give_vs.new.c c.give_vs.ensures)

pub returns-in-Ok-clause-front : goal.returns-in-Ok-clause-front
returns-in-Ok-clause-front c =
    let a = c.args.c.now in let b = c.take_back.new.c in
    front_more a b c.split.new.c (acts.TakeLock whats.Back ∷ []) (acts.GiveLock whats.Back ∷ acts.GiveLock whats.Vs ∷ []) (added_lock layer_of a b whats.Back c.in-Ok.back refl c.requires.vs.holds.serving.owes c.in-Ok.ensures.ok) c.split.result c.split.ensures.front
