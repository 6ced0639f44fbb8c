use Rattle.std.proofs.Common.{[], Option, subst}
use Rattle.heap_model.specs.declared.Busy.{Busy}
use Rattle.lfh_claims.specs.declared.tag.Tag.{Tag}
use Rattle.lfh_claims.specs.Blocks.{HasTag}
use Rattle.address_calls.specs.Answers.{MeetsOn}
use Rattle.address_calls.specs.Finds.{Looks}
use Rattle.address_calls.proofs.Behind.{looks_then, meets_behind, ok_then, err_then}
use Rattle.address_calls.proofs.States.{looks_tagged, serving_tagged, of_front_there}
use Rattle.std.proofs.Common.{[], ◌∷◌, inl}
use Rattle.heap_model.specs.declared.Act.TheVariants as acts
use Rattle.heap_model.specs.declared.What.TheVariants as whats
use Rattle.address_calls.specs.declared.look.Found.{Found}
use Rattle.address_calls.specs.Finds.{FrontBy, FindsFront}
use Rattle.address_calls.proofs.Behind.{if_ok_then}
use Rattle.address_calls.proofs.States.{added_tagged, front_more, front_later}
use Rattle.address_calls.proofs.AtOnce.{is_read}
use Rattle.address_calls.proofs.look.look_in_segments.Goals as goal

pub look_under_vs-requires-clause-serving : goal.look_under_vs-requires-clause-serving
look_under_vs-requires-clause-serving c = (c.requires.serving.0, serving_tagged c.args.c.now c.tag_of.new.c c.args.page c.tag_of.result c.requires.serving.0 [] c.requires.serving.1 c.tag_of.ensures.tag)

pub returns-in-Some-clause-found : goal.returns-in-Some-clause-found
returns-in-Some-clause-found c =
    let x = subst (λ (o : Option Tag). HasTag c.args.c.now c.tag_of.new.c c.args.page o) c.in-Some.is c.tag_of.ensures.tag in
    of_front_there c.args.c.now c.tag_of.new.c c.args.addr c.args.page c.in-Some.tag c.requires.serving.0 c.requires.serving.1 x c.in-Some.ensures.parts.0 c.requires.page c.requires.aligned c.requires.below c.check-in-Some.ensures.stands

pub returns-in-None-clause-looks : goal.returns-in-None-clause-looks
returns-in-None-clause-looks c =
    let a = c.args.c.now in let b = c.tag_of.new.c in let d = c.look_under_vs.new.c in
    ok_then c.look_under_vs.result (Looks b d) (Looks a d) (looks_then a b d (looks_tagged a b c.args.page c.tag_of.result c.tag_of.ensures.tag)) c.look_under_vs.ensures.looks

pub returns-in-None-clause-busy : goal.returns-in-None-clause-busy
returns-in-None-clause-busy c =
    let a = c.args.c.now in let b = c.tag_of.new.c in let d = c.look_under_vs.new.c in
    err_then c.look_under_vs.result (λ (w : Busy). MeetsOn b d c.args.addr w) (λ (w : Busy). MeetsOn a d c.args.addr w) (meets_behind a b d (looks_tagged a b c.args.page c.tag_of.result c.tag_of.ensures.tag) c.args.addr) c.look_under_vs.ensures.busy

pub returns-in-Some-clause-front : goal.returns-in-Some-clause-front
returns-in-Some-clause-front c = inl (added_tagged c.args.c.now c.tag_of.new.c c.args.page c.tag_of.result c.tag_of.ensures.tag)

pub returns-in-None-clause-front : goal.returns-in-None-clause-front
returns-in-None-clause-front c =
    let a = c.args.c.now in let b = c.tag_of.new.c in let d = c.look_under_vs.new.c in
    if_ok_then c.look_under_vs.result (λ (f : Found). FrontBy (acts.TakeLock whats.Vs ∷ acts.TakeLock whats.Back ∷ acts.GiveLock whats.Back ∷ acts.GiveLock whats.Vs ∷ []) b d f) (λ (f : Found). FindsFront a d f)
    (λ (f : Found) y. front_later a d f (front_more a b d [] (acts.TakeLock whats.Vs ∷ acts.TakeLock whats.Back ∷ acts.GiveLock whats.Back ∷ acts.GiveLock whats.Vs ∷ []) (added_tagged a b c.args.page c.tag_of.result c.tag_of.ensures.tag) f y)) c.look_under_vs.ensures.front

pub returns-in-Some-clause-tagged : goal.returns-in-Some-clause-tagged
returns-in-Some-clause-tagged c = λ k. (tt, added_tagged c.args.c.now c.tag_of.new.c c.args.page c.tag_of.result c.tag_of.ensures.tag)

pub returns-in-None-clause-tagged : goal.returns-in-None-clause-tagged
returns-in-None-clause-tagged c = λ k.
    let x = subst (λ (o : Option Tag). HasTag c.args.c.now c.tag_of.new.c c.args.page o) c.in-None.is c.tag_of.ensures.tag in
    absurd (is_read c.args.c.now c.tag_of.new.c c.args.addr c.args.page c.requires.serving.0 c.requires.serving.1 c.check.ensures.stands x c.check-in-None.ensures.stands c.requires.page k)
