use Rattle.std.proofs.Common.{[], ◌∷◌, ◌∙◌, ◌<◌, refl, subst}
use Rattle.heap_model.specs.declared.Act.TheVariants as acts
use Rattle.heap_model.specs.declared.Opening.{Opening}
use Rattle.heap_model.specs.declared.What.TheVariants as whats
use Rattle.heap_model.specs.Limits.{AreValid}
use Rattle.claim_rule.specs.Places.{vs_slot, back_slot}
use Rattle.search_laws.proofs.Blocks.{bucket_fits}
use Rattle.lfh_claims.specs.Search.{own_slot}
use Rattle.small_calls.proofs.Found.{is_bucket}
use Rattle.small_calls.proofs.GoingUnder.{few_slots}
use Rattle.small_calls.proofs.SaidHeld as said
use Rattle.small_calls.proofs.NoRoomHeld.{whole_c, gate_c, vs_free, out_m, gate_m, owes_m, tells_m, busy_behind, inside_e, vs_out, again, keeps_e, searched_e, table_e, places_from, for_vs_from}
use Rattle.small_calls.proofs.no_room.search_with_vs.Goals as goal

pub take_vs-requires-clause-whole : goal.take_vs-requires-clause-whole
take_vs-requires-clause-whole c =
    let w = c.requires.no_room in whole_c w.0 c.args.c.now c.args.back c.args.course.now w.1 c.args.lost c.args.n c.args.zero w.2

pub take_vs-requires-clause-inside : goal.take_vs-requires-clause-inside
take_vs-requires-clause-inside c =
    let w = c.requires.no_room in gate_c w.0 c.args.c.now c.args.back c.args.course.now w.1 c.args.lost c.args.n c.args.zero w.2

pub take_vs-requires-clause-lock : goal.take_vs-requires-clause-lock
take_vs-requires-clause-lock c =
    let w = c.requires.no_room in vs_free w.0 c.args.c.now c.args.back c.args.course.now w.1 c.args.lost c.args.n c.args.zero w.2

pub give_back-requires-clause-table : goal.give_back-requires-clause-table
give_back-requires-clause-table c =
    c.in-Err.ensures.busy.runs.does.table ∙ c.requires.table.0

pub give_back-requires-clause-whole : goal.give_back-requires-clause-whole
give_back-requires-clause-whole c =
    c.in-Err.ensures.busy.stands.whole

pub give_back-requires-clause-inside : goal.give_back-requires-clause-inside
give_back-requires-clause-inside c =
    let w = c.requires.no_room in gate_m w.0 c.args.c.now c.args.back c.args.course.now w.1 c.args.lost c.args.n c.args.zero w.2 c.check.ensures.stands c.take_vs.new.c c.in-Err.busy c.in-Err.ensures.busy

pub give_back-requires-clause-lock : goal.give_back-requires-clause-lock
give_back-requires-clause-lock c =
    let w = c.requires.no_room in ([], out_m w.0 c.args.c.now c.args.back c.args.course.now w.1 c.args.lost c.args.n c.args.zero w.2 c.check.ensures.stands c.take_vs.new.c c.in-Err.busy c.in-Err.ensures.busy, refl)

pub give_back-requires-clause-tells : goal.give_back-requires-clause-tells
give_back-requires-clause-tells c =
    let w = c.requires.no_room in tells_m w.0 c.args.c.now c.args.back c.args.course.now w.1 c.args.lost c.args.n c.args.zero w.2 c.check.ensures.stands c.take_vs.new.c c.in-Err.busy c.in-Err.ensures.busy

pub give_back-requires-clause-paid : goal.give_back-requires-clause-paid
give_back-requires-clause-paid c =
    let w = c.requires.no_room in owes_m w.0 c.args.c.now c.args.back c.args.course.now w.1 c.args.lost c.args.n c.args.zero w.2 c.check.ensures.stands c.take_vs.new.c c.in-Err.busy c.in-Err.ensures.busy

pub returns-in-Err : goal.returns-in-Err
returns-in-Err c first l x =
    busy_behind first c.args.c.now c.args.back c.args.course.now l c.args.lost c.args.n c.args.zero x c.check.ensures.stands c.take_vs.new.c c.in-Err.busy c.in-Err.ensures.busy c.give_back.new.c c.give_back.ensures

pub search_again-requires-clause-table : goal.search_again-requires-clause-table
search_again-requires-clause-table c =
    let d = c.in-Ok.ensures.ok.reveals.does in (d.table ∙ c.requires.table.0, d.opening ∙ c.requires.table.1)

pub search_again-requires-clause-whole : goal.search_again-requires-clause-whole
search_again-requires-clause-whole c =
    c.in-Ok.ensures.ok.stands.whole

pub search_again-requires-clause-inside : goal.search_again-requires-clause-inside
search_again-requires-clause-inside c =
    let w = c.requires.no_room in inside_e w.0 c.args.c.now c.args.back c.args.course.now w.1 c.args.lost c.args.n c.args.zero w.2 c.take_vs.new.c c.in-Ok.vs c.in-Ok.ensures.ok c.check-2.ensures.stands

pub search_again-requires-clause-slot : goal.search_again-requires-clause-slot
search_again-requires-clause-slot c =
    let t = c.in-Ok.ensures.ok in let e = c.take_vs.new.c in
    let v = subst AreValid c.limits-limits.ensures.limits c.limits-limits.ensures.valid in
    let own = subst (λ (o : Opening). own_slot e < o.limits.slots) (t.reveals.does.opening ∙ c.requires.table.1) c.check-2.ensures.slot in
    few_slots c.args.heap.now.opening.limits (own_slot e) v own

pub search_again-requires-clause-vs : goal.search_again-requires-clause-vs
search_again-requires-clause-vs c =
    let w = c.requires.no_room in vs_out w.0 c.args.c.now c.args.back c.args.course.now w.1 c.args.lost c.args.n c.args.zero w.2 c.take_vs.new.c c.in-Ok.vs c.in-Ok.ensures.ok c.check-2.ensures.stands

pub search_again-requires-clause-under : goal.search_again-requires-clause-under
search_again-requires-clause-under c =
    let w = c.requires.no_room in (again w.0 c.args.c.now c.args.back c.args.course.now w.1 c.args.lost c.args.n c.args.zero w.2 c.take_vs.new.c c.in-Ok.vs c.in-Ok.ensures.ok c.check-2.ensures.stands).1

pub search_again-requires-clause-said : goal.search_again-requires-clause-said
search_again-requires-clause-said c =
    let w = c.requires.no_room in (again w.0 c.args.c.now c.args.back c.args.course.now w.1 c.args.lost c.args.n c.args.zero w.2 c.take_vs.new.c c.in-Ok.vs c.in-Ok.ensures.ok c.check-2.ensures.stands).0

pub hand_over_vs_first-requires-clause-table : goal.hand_over_vs_first-requires-clause-table
hand_over_vs_first-requires-clause-table c =
    let w = c.requires.no_room in let d = table_e w.0 c.args.c.now c.args.back c.args.course.now w.1 c.args.lost c.args.n c.args.zero w.2 c.take_vs.new.c c.in-Ok.vs c.in-Ok.ensures.ok c.check-2.ensures.stands c.search_again.new.c c.search_again.new.back c.in-Some.addr c.in-Some.ensures.served in (d.0 ∙ c.requires.table.0, d.1 ∙ c.requires.table.1)

pub hand_over_vs_first-requires-clause-size : goal.hand_over_vs_first-requires-clause-size
hand_over_vs_first-requires-clause-size c =
    (bucket_fits c.args.n c.args.course.now.bucket c.requires.bucket).0

pub hand_over_vs_first-requires-clause-one : goal.hand_over_vs_first-requires-clause-one
hand_over_vs_first-requires-clause-one c =
    let w = c.requires.no_room in let b = c.args.course.now.bucket in
    (b, is_bucket c.args.n b c.requires.bucket, (bucket_fits c.args.n b c.requires.bucket).1, said.one_d c.take_vs.new.c c.in-Ok.vs c.args.back c.args.course.now c.args.n w.2.on.flags c.args.zero w.2.on.zero_is (vs_slot ∷ back_slot ∷ []) (searched_e w.0 c.args.c.now c.args.back c.args.course.now w.1 c.args.lost c.args.n c.args.zero w.2 c.take_vs.new.c c.in-Ok.vs c.in-Ok.ensures.ok c.check-2.ensures.stands) c.check-2.ensures.stands (keeps_e w.0 c.args.c.now c.args.back c.args.course.now w.1 c.args.lost c.args.n c.args.zero w.2 c.take_vs.new.c c.in-Ok.vs c.in-Ok.ensures.ok c.check-2.ensures.stands) (vs_out w.0 c.args.c.now c.args.back c.args.course.now w.1 c.args.lost c.args.n c.args.zero w.2 c.take_vs.new.c c.in-Ok.vs c.in-Ok.ensures.ok c.check-2.ensures.stands) c.search_again.new.c c.search_again.new.back c.in-Some.addr c.in-Some.ensures.served)

pub hand_over_vs_first-requires-clause-locks : goal.hand_over_vs_first-requires-clause-locks
hand_over_vs_first-requires-clause-locks c =
    let w = c.requires.no_room in said.out_d c.take_vs.new.c c.in-Ok.vs c.args.back c.args.course.now c.args.n w.2.on.flags c.args.zero w.2.on.zero_is (vs_slot ∷ back_slot ∷ []) (searched_e w.0 c.args.c.now c.args.back c.args.course.now w.1 c.args.lost c.args.n c.args.zero w.2 c.take_vs.new.c c.in-Ok.vs c.in-Ok.ensures.ok c.check-2.ensures.stands) c.check-2.ensures.stands (keeps_e w.0 c.args.c.now c.args.back c.args.course.now w.1 c.args.lost c.args.n c.args.zero w.2 c.take_vs.new.c c.in-Ok.vs c.in-Ok.ensures.ok c.check-2.ensures.stands) (vs_out w.0 c.args.c.now c.args.back c.args.course.now w.1 c.args.lost c.args.n c.args.zero w.2 c.take_vs.new.c c.in-Ok.vs c.in-Ok.ensures.ok c.check-2.ensures.stands) c.search_again.new.c c.search_again.new.back c.in-Some.addr c.in-Some.ensures.served

pub hand_over_vs_first-requires-clause-paid : goal.hand_over_vs_first-requires-clause-paid
hand_over_vs_first-requires-clause-paid c =
    let w = c.requires.no_room in said.paid_d c.take_vs.new.c c.in-Ok.vs c.args.back c.args.course.now c.args.n w.2.on.flags c.args.zero w.2.on.zero_is (vs_slot ∷ back_slot ∷ []) (searched_e w.0 c.args.c.now c.args.back c.args.course.now w.1 c.args.lost c.args.n c.args.zero w.2 c.take_vs.new.c c.in-Ok.vs c.in-Ok.ensures.ok c.check-2.ensures.stands) c.check-2.ensures.stands (keeps_e w.0 c.args.c.now c.args.back c.args.course.now w.1 c.args.lost c.args.n c.args.zero w.2 c.take_vs.new.c c.in-Ok.vs c.in-Ok.ensures.ok c.check-2.ensures.stands) (vs_out w.0 c.args.c.now c.args.back c.args.course.now w.1 c.args.lost c.args.n c.args.zero w.2 c.take_vs.new.c c.in-Ok.vs c.in-Ok.ensures.ok c.check-2.ensures.stands) c.search_again.new.c c.search_again.new.back c.in-Some.addr c.in-Some.ensures.served

pub hand_over_vs_first-requires-clause-back : goal.hand_over_vs_first-requires-clause-back
hand_over_vs_first-requires-clause-back c =
    c.in-Some.ensures.served.back_is

pub hand_over_vs_first-requires-clause-vs : goal.hand_over_vs_first-requires-clause-vs
hand_over_vs_first-requires-clause-vs c =
    let w = c.requires.no_room in said.keeps_d c.take_vs.new.c c.in-Ok.vs c.args.back c.args.course.now c.args.n w.2.on.flags c.args.zero w.2.on.zero_is (vs_slot ∷ back_slot ∷ []) (searched_e w.0 c.args.c.now c.args.back c.args.course.now w.1 c.args.lost c.args.n c.args.zero w.2 c.take_vs.new.c c.in-Ok.vs c.in-Ok.ensures.ok c.check-2.ensures.stands) c.check-2.ensures.stands (keeps_e w.0 c.args.c.now c.args.back c.args.course.now w.1 c.args.lost c.args.n c.args.zero w.2 c.take_vs.new.c c.in-Ok.vs c.in-Ok.ensures.ok c.check-2.ensures.stands) (vs_out w.0 c.args.c.now c.args.back c.args.course.now w.1 c.args.lost c.args.n c.args.zero w.2 c.take_vs.new.c c.in-Ok.vs c.in-Ok.ensures.ok c.check-2.ensures.stands) c.search_again.new.c c.search_again.new.back c.in-Some.addr c.in-Some.ensures.served

pub returns-in-Some : goal.returns-in-Some
returns-in-Some c first l x =
    places_from first c.args.c.now c.args.back c.args.course.now l c.args.lost c.args.n c.args.zero x c.take_vs.new.c c.in-Ok.vs c.in-Ok.ensures.ok c.check-2.ensures.stands c.hand_over_vs_first.new.c c.in-Some.addr
    (said.placed_with c.take_vs.new.c c.in-Ok.vs c.args.back c.args.course.now c.args.n x.on.flags c.args.zero x.on.zero_is (vs_slot ∷ back_slot ∷ []) (searched_e first c.args.c.now c.args.back c.args.course.now l c.args.lost c.args.n c.args.zero x c.take_vs.new.c c.in-Ok.vs c.in-Ok.ensures.ok c.check-2.ensures.stands) c.check-2.ensures.stands (keeps_e first c.args.c.now c.args.back c.args.course.now l c.args.lost c.args.n c.args.zero x c.take_vs.new.c c.in-Ok.vs c.in-Ok.ensures.ok c.check-2.ensures.stands) (vs_out first c.args.c.now c.args.back c.args.course.now l c.args.lost c.args.n c.args.zero x c.take_vs.new.c c.in-Ok.vs c.in-Ok.ensures.ok c.check-2.ensures.stands) c.search_again.new.c c.search_again.new.back c.in-Some.addr c.in-Some.ensures.served c.hand_over_vs_first.new.c (acts.GiveLock whats.Vs ∷ acts.GiveLock whats.Back ∷ []) refl refl c.hand_over_vs_first.ensures)

pub returns-in-None : goal.returns-in-None
returns-in-None c first l x =
    for_vs_from first c.args.c.now c.args.back c.args.course.now l c.args.lost c.args.n c.args.zero x c.take_vs.new.c c.in-Ok.vs c.in-Ok.ensures.ok c.check-2.ensures.stands c.search_again.new.c c.search_again.new.back
    (said.for_vs c.take_vs.new.c c.in-Ok.vs c.args.back c.args.course.now c.args.n x.on.flags c.args.zero x.on.zero_is (vs_slot ∷ back_slot ∷ []) (searched_e first c.args.c.now c.args.back c.args.course.now l c.args.lost c.args.n c.args.zero x c.take_vs.new.c c.in-Ok.vs c.in-Ok.ensures.ok c.check-2.ensures.stands) c.check-2.ensures.stands (keeps_e first c.args.c.now c.args.back c.args.course.now l c.args.lost c.args.n c.args.zero x c.take_vs.new.c c.in-Ok.vs c.in-Ok.ensures.ok c.check-2.ensures.stands) (vs_out first c.args.c.now c.args.back c.args.course.now l c.args.lost c.args.n c.args.zero x c.take_vs.new.c c.in-Ok.vs c.in-Ok.ensures.ok c.check-2.ensures.stands) c.search_again.new.c c.search_again.new.back c.in-None.ensures.cannot_be_served)
