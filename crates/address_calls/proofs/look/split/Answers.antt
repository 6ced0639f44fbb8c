use Rattle.std.proofs.Common.{Option, subst}
use Rattle.lfh_claims.specs.declared.tag.Tag.{Tag}
use Rattle.lfh_claims.specs.Blocks.{HasTag}
use Rattle.address_calls.proofs.States.{both_tagged, may_there, of_back_there}
use Rattle.std.proofs.Common.{[], ◌∷◌}
use Rattle.heap_model.specs.declared.Act.TheVariants as acts
use Rattle.heap_model.specs.declared.What.TheVariants as whats
use Rattle.call_parts.proofs.Tokens.{added_then}
use Rattle.address_calls.proofs.States.{added_tagged}
use Rattle.address_calls.proofs.look.split.Goals as goal

pub go_out-requires-clause-both : goal.go_out-requires-clause-both
go_out-requires-clause-both c =
    both_tagged c.args.c.now c.args.vs c.args.back c.requires.both c.check.ensures.stands c.tag_of.new.c c.args.page c.tag_of.result c.tag_of.ensures.tag

pub go_out-requires-clause-may : goal.go_out-requires-clause-may
go_out-requires-clause-may c =
    let x = subst (λ (o : Option Tag). HasTag c.args.c.now c.tag_of.new.c c.args.page o) c.in-Some.is c.tag_of.ensures.tag in
    may_there c.args.c.now c.tag_of.new.c c.args.addr c.args.page c.in-Some.tag x c.requires.page c.requires.aligned c.check-in-Some.ensures.stands c.requires.both.holds.serving.inside

pub returns-in-None-clause-found : goal.returns-in-None-clause-found
returns-in-None-clause-found c =
    let x = subst (λ (o : Option Tag). HasTag c.args.c.now c.tag_of.new.c c.args.page o) c.in-None.is c.tag_of.ensures.tag in
    of_back_there c.args.c.now c.tag_of.new.c c.args.vs c.args.back c.args.addr c.args.page c.requires.both c.check.ensures.stands x c.check-in-None.ensures.stands c.requires.page c.requires.not_vs c.requires.below

pub returns-in-Some-clause-front : goal.returns-in-Some-clause-front
returns-in-Some-clause-front c =
    added_then c.args.c.now c.tag_of.new.c c.go_out.new.c [] (acts.GiveLock whats.Back ∷ acts.GiveLock whats.Vs ∷ []) (added_tagged c.args.c.now c.tag_of.new.c c.args.page c.tag_of.result c.tag_of.ensures.tag) c.go_out.ensures.added
