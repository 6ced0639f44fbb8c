use Rattle.std.proofs.Common.{[], ◌/◌, refl, sym, ap, ◌∙◌, arith}
use Rattle.heap_model.specs.declared.Limits.{Limits}
use Rattle.heap_model.specs.declared.Opening.{Opening}
use Rattle.address_calls.proofs.States.{added_tagged, serving_tagged}
use Rattle.address_calls.proofs.FrontFound.{front_found, knows_still}
use Rattle.address_calls.proofs.look.find_front.Goals as goal

pub returns-clause-added : goal.returns-clause-added
returns-clause-added c = added_tagged c.args.c.now c.tag_of-told.new.c (c.args.addr / 4096) c.tag_of-told.result c.tag_of-told.ensures.tag

pub returns-clause-free : goal.returns-clause-free
returns-clause-free c =
    let v = c.requires.serving in (v.0, serving_tagged c.args.c.now c.tag_of-told.new.c (c.args.addr / 4096) c.tag_of-told.result v.0 [] v.1 c.tag_of-told.ensures.tag)

pub returns-clause-front : goal.returns-clause-front
returns-clause-front c =
    let v = c.requires.serving in
    let own_limits = ap (λ (l : Limits). l.segments) (c.limits-limits.ensures.limits ∙ ap (λ (o : Opening). o.limits) (sym c.requires.table.1)) in
    let all = c.from.ensures in
    let below = c.if-page-from.false in
    front_found c.args.c.now c.tag_of-told.new.c c.args.addr (c.args.addr / 4096) v.0 v.1 c.check-2.ensures.stands refl c.tag_of-told.result c.tag_of-told.ensures.tag c.tag_of-told.ensures.parts c.if-addr-ne0.false
    (omega (arith, own_limits, all, below))

pub returns-clause-none : goal.returns-clause-none
returns-clause-none c =
    let v = c.requires.serving in
    knows_still c.args.c.now c.tag_of-told.new.c c.args.addr (c.args.addr / 4096) v.0 v.1 c.check-2.ensures.stands refl c.tag_of-told.result c.tag_of-told.ensures.tag c.check.ensures.stands
