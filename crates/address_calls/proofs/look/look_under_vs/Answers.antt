use Rattle.std.proofs.Common.{◌∙◌, refl, sym}
use Rattle.heap_model.specs.declared.Busy.{Busy}
use Rattle.heap_model.specs.declared.What.TheVariants as whats
use Rattle.vs_layer.specs.Standing.{layer_of}
use Rattle.address_calls.specs.Answers.{MeetsOn}
use Rattle.address_calls.specs.Finds.{Looks}
use Rattle.address_calls.proofs.Behind.{looks_then, meets_behind, ok_then, err_then}
use Rattle.address_calls.proofs.States.{looks_taken, vs_taken, of_vs_there, block_none, met_on}
use Rattle.std.proofs.Common.{[], ◌∷◌}
use Rattle.heap_model.specs.declared.Act.TheVariants as acts
use Rattle.address_calls.specs.declared.look.Found.{Found}
use Rattle.address_calls.specs.Finds.{FrontBy}
use Rattle.address_calls.proofs.Behind.{if_ok_then}
use Rattle.address_calls.proofs.States.{added_lock, front_more}
use Rattle.address_calls.proofs.look.look_under_vs.Goals as goal

pub returns-in-Err-clause-busy : goal.returns-in-Err-clause-busy
returns-in-Err-clause-busy c = met_on c.args.c.now c.take_vs.new.c c.args.addr c.in-Err.busy whats.Vs c.requires.serving.0 c.requires.serving.1 c.requires.below c.in-Err.ensures.busy

pub look_under_both-requires-clause-vs : goal.look_under_both-requires-clause-vs
look_under_both-requires-clause-vs c = vs_taken c.args.c.now c.take_vs.new.c c.in-Ok.vs c.requires.serving.0 c.requires.serving.1 c.in-Ok.ensures.ok

pub look_under_both-requires-clause-not_vs : goal.look_under_both-requires-clause-not_vs
look_under_both-requires-clause-not_vs c = block_none c.in-Ok.vs c.args.addr (sym c.find.ensures ∙ c.in-None.is)

pub returns-in-Some-clause-looks : goal.returns-in-Some-clause-looks
returns-in-Some-clause-looks c = looks_taken layer_of c.args.c.now c.take_vs.new.c whats.Vs c.in-Ok.vs refl c.requires.serving.1.owes c.in-Ok.ensures.ok

pub returns-in-Some-clause-found : goal.returns-in-Some-clause-found
returns-in-Some-clause-found c =
    of_vs_there c.args.c.now c.take_vs.new.c c.in-Ok.vs c.args.addr c.in-Some._size c.requires.serving.0 c.requires.serving.1 c.in-Ok.ensures.ok c.requires.below (sym c.find.ensures ∙ c.in-Some.is)

pub returns-in-None-clause-looks : goal.returns-in-None-clause-looks
returns-in-None-clause-looks c =
    let a = c.args.c.now in let b = c.take_vs.new.c in let d = c.look_under_both.new.c in
    let x = looks_taken layer_of a b whats.Vs c.in-Ok.vs refl c.requires.serving.1.owes c.in-Ok.ensures.ok in
    ok_then c.look_under_both.result (Looks b d) (Looks a d) (looks_then a b d x) c.look_under_both.ensures.looks

pub returns-in-None-clause-busy : goal.returns-in-None-clause-busy
returns-in-None-clause-busy c =
    let a = c.args.c.now in let b = c.take_vs.new.c in let d = c.look_under_both.new.c in
    let x = looks_taken layer_of a b whats.Vs c.in-Ok.vs refl c.requires.serving.1.owes c.in-Ok.ensures.ok in
    err_then c.look_under_both.result (λ (w : Busy). MeetsOn b d c.args.addr w) (λ (w : Busy). MeetsOn a d c.args.addr w) (meets_behind a b d x c.args.addr) c.look_under_both.ensures.busy

pub returns-in-None-clause-front : goal.returns-in-None-clause-front
returns-in-None-clause-front c =
    let a = c.args.c.now in let b = c.take_vs.new.c in let d = c.look_under_both.new.c in
    let x = added_lock layer_of a b whats.Vs c.in-Ok.vs refl c.requires.serving.1.owes c.in-Ok.ensures.ok in
    if_ok_then c.look_under_both.result (λ (f : Found). FrontBy (acts.TakeLock whats.Back ∷ acts.GiveLock whats.Back ∷ acts.GiveLock whats.Vs ∷ []) b d f)
    (λ (f : Found). FrontBy (acts.TakeLock whats.Vs ∷ acts.TakeLock whats.Back ∷ acts.GiveLock whats.Back ∷ acts.GiveLock whats.Vs ∷ []) a d f)
    (front_more a b d (acts.TakeLock whats.Vs ∷ []) (acts.TakeLock whats.Back ∷ acts.GiveLock whats.Back ∷ acts.GiveLock whats.Vs ∷ []) x) c.look_under_both.ensures.front
