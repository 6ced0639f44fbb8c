use Rattle.std.proofs.Common.{◌∙◌, ◌<◌, subst}
use Rattle.heap_model.specs.declared.Opening.{Opening}
use Rattle.heap_model.specs.Limits.{AreValid}
use Rattle.lfh_claims.specs.Search.{own_slot}
use Rattle.small_calls.proofs.GoingUnder.{under_still, few_slots, searches_on, placed_under, without_room}
use Rattle.small_calls.proofs.spent.go_under_back.Goals as goal

pub take_back-requires-clause-whole : goal.take_back-requires-clause-whole
take_back-requires-clause-whole c = c.requires.spent.1.spent.stands.whole

pub take_back-requires-clause-inside : goal.take_back-requires-clause-inside
take_back-requires-clause-inside c = let x = c.requires.spent in under_still c.args.c.now c.args.n c.args.course.now.bucket c.args.course.now.draw.value c.args.lost c.args.zero x.0 x.1

pub serve_under_back-requires-clause-table : goal.serve_under_back-requires-clause-table
serve_under_back-requires-clause-table c = let d = c.in-Ok.ensures.ok.reveals.does in (d.table ∙ c.requires.table.0, d.opening ∙ c.requires.table.1)

pub serve_under_back-requires-clause-searches : goal.serve_under_back-requires-clause-searches
serve_under_back-requires-clause-searches c =
    let t = c.in-Ok.ensures.ok in let x = c.requires.spent in let e = c.take_back.new.c in
    let v = subst AreValid c.limits-limits.ensures.limits c.limits-limits.ensures.valid in
    let own = subst (λ (o : Opening). own_slot e < o.limits.slots) (t.reveals.does.opening ∙ c.requires.table.1) c.check-2.ensures.slot in
    (x.0, searches_on c.args.c.now e c.in-Ok.back c.args.course.now c.args.lost c.args.n c.args.zero x.0 x.1 t c.check.ensures.stands c.check-2.ensures.stands c.requires.free (few_slots c.args.heap.now.opening.limits (own_slot e) v own))

pub returns-in-Placed : goal.returns-in-Placed
returns-in-Placed c out x =
    let t = c.in-Ok.ensures.ok in let e = c.take_back.new.c in
    let v = subst AreValid c.limits-limits.ensures.limits c.limits-limits.ensures.valid in
    let own = subst (λ (o : Opening). own_slot e < o.limits.slots) (t.reveals.does.opening ∙ c.requires.table.1) c.check-2.ensures.slot in
    let few = few_slots c.args.heap.now.opening.limits (own_slot e) v own in
    let on = searches_on c.args.c.now e c.in-Ok.back c.args.course.now c.args.lost c.args.n c.args.zero out x t c.check.ensures.stands c.check-2.ensures.stands c.requires.free few in
    placed_under c.args.c.now e c.in-Ok.back c.args.course.now c.args.lost c.args.n c.args.zero out x t c.check.ensures.stands c.check-2.ensures.stands c.requires.free few c.serve_under_back.new.c c.in-Placed.addr (c.in-Placed.ensures out on)

pub returns-in-NoRoom : goal.returns-in-NoRoom
returns-in-NoRoom c out x =
    let t = c.in-Ok.ensures.ok in let e = c.take_back.new.c in
    let v = subst AreValid c.limits-limits.ensures.limits c.limits-limits.ensures.valid in
    let own = subst (λ (o : Opening). own_slot e < o.limits.slots) (t.reveals.does.opening ∙ c.requires.table.1) c.check-2.ensures.slot in
    let few = few_slots c.args.heap.now.opening.limits (own_slot e) v own in
    let on = searches_on c.args.c.now e c.in-Ok.back c.args.course.now c.args.lost c.args.n c.args.zero out x t c.check.ensures.stands c.check-2.ensures.stands c.requires.free few in
    without_room c.args.c.now e c.in-Ok.back c.args.course.now c.args.lost c.args.n c.args.zero out x t c.check.ensures.stands c.check-2.ensures.stands c.requires.free few c.serve_under_back.new.c c.in-NoRoom.back c.in-NoRoom.lost (c.in-NoRoom.ensures out on)
