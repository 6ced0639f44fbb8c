use Rattle.std.proofs.Common.{sym, subst, ap, ◌∙◌}
use Rattle.heap_model.specs.declared.Call.TheVariants as calls
use Rattle.heap_model.specs.declared.Opening.{Opening}
use Rattle.heap_model.specs.Limits.{AreValid}
use Rattle.front_calls.proofs.Steps.{found_none}
use Rattle.stay_calls.proofs.RefusedFront.{refused}
use Rattle.stay_calls.proofs.front.refuse.Goals as goal

pub returns-in_default : goal.returns-in_default
returns-in_default c =
    let v = c.requires.front.free in
    (found_none c.args.c.now c.live_size.new.c v.0 c.args.addr v.1 c.in_default.ensures.none (calls.Realloc c.args.addr c.args.n c.args.flags) c.requires.call).makes

pub returns : goal.returns
returns c =
    let a = c.args.c.now in let v = c.requires.front.free in
    let valid : AreValid a.opening.limits = subst AreValid (c.limits-limits.ensures.limits ∙ ap (λ (o : Opening). o.limits) (sym c.requires.table.1)) c.limits-limits.ensures.valid in
    refused a c.live_size.new.c c.hear.new.c v.0 c.args.tag c.args.addr c.in-Some._size c.args.n c.args.flags v.1 c.requires.front.there c.requires.front.may c.in-Some.ensures.size c.hear.ensures.runs c.hear.ensures.stands valid c.hear.ensures.slots c.hear.ensures.names
    c.check.ensures.legal c.check-2.ensures.legal c.requires.call c.requires.stuck c.requires.leaves
