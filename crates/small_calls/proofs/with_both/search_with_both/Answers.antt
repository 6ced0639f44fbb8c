use Rattle.std.proofs.Common.{[], ◌∷◌, ◌∙◌, ◌<◌, refl, ap, subst}
use Rattle.heap_model.specs.declared.Act.TheVariants as acts
use Rattle.heap_model.specs.declared.Opening.{Opening}
use Rattle.heap_model.specs.declared.What.TheVariants as whats
use Rattle.heap_model.specs.Limits.{AreValid}
use Rattle.claim_rule.specs.Places.{vs_slot, back_slot}
use Rattle.heap_gate.specs.Token.{is_out}
use Rattle.search_laws.proofs.Blocks.{bucket_fits}
use Rattle.lfh_claims.specs.Search.{own_slot}
use Rattle.lfh_search.proofs.Taking.{no_room_goes_again}
use Rattle.small_calls.proofs.Found.{is_bucket}
use Rattle.small_calls.proofs.GoingUnder.{few_slots}
use Rattle.small_calls.proofs.SaidHeld.{said_at, one_d, out_d, paid_d, keeps_d, placed_with, for_vs}
use Rattle.small_calls.proofs.with_both.search_with_both.Goals as goal

pub search_again-requires-clause-whole : goal.search_again-requires-clause-whole
search_again-requires-clause-whole c =
    let w = c.requires.no_room in (said_at w.0 c.args.c.now c.args.back c.args.course.now w.1 c.args.lost c.args.n c.args.zero (vs_slot ∷ []) w.2).whole

pub search_again-requires-clause-inside : goal.search_again-requires-clause-inside
search_again-requires-clause-inside c =
    let w = c.requires.no_room in (said_at w.0 c.args.c.now c.args.back c.args.course.now w.1 c.args.lost c.args.n c.args.zero (vs_slot ∷ []) w.2).inside

pub search_again-requires-clause-slot : goal.search_again-requires-clause-slot
search_again-requires-clause-slot c =
    let e = c.args.c.now in
    let v = subst AreValid c.limits-limits.ensures.limits c.limits-limits.ensures.valid in
    let own = subst (λ (o : Opening). own_slot e < o.limits.slots) c.requires.table.1 c.check.ensures.slot in
    few_slots c.args.heap.now.opening.limits (own_slot e) v own

pub search_again-requires-clause-vs : goal.search_again-requires-clause-vs
search_again-requires-clause-vs c =
    let w = c.requires.no_room in (ap (is_out whats.Vs) (said_at w.0 c.args.c.now c.args.back c.args.course.now w.1 c.args.lost c.args.n c.args.zero (vs_slot ∷ []) w.2).out_is)

pub search_again-requires-clause-under : goal.search_again-requires-clause-under
search_again-requires-clause-under c =
    let w = c.requires.no_room in (no_room_goes_again w.2.taken c.args.c.now w.2.back c.args.back c.args.course.now w.2.on.search w.1 c.args.lost w.2.on.under w.2.none c.check.ensures.stands (ap (is_out whats.Vs) (said_at w.0 c.args.c.now c.args.back c.args.course.now w.1 c.args.lost c.args.n c.args.zero (vs_slot ∷ []) w.2).out_is)).1

pub search_again-requires-clause-said : goal.search_again-requires-clause-said
search_again-requires-clause-said c =
    let w = c.requires.no_room in (no_room_goes_again w.2.taken c.args.c.now w.2.back c.args.back c.args.course.now w.2.on.search w.1 c.args.lost w.2.on.under w.2.none c.check.ensures.stands (ap (is_out whats.Vs) (said_at w.0 c.args.c.now c.args.back c.args.course.now w.1 c.args.lost c.args.n c.args.zero (vs_slot ∷ []) w.2).out_is)).0

pub hand_over_back_first-requires-clause-table : goal.hand_over_back_first-requires-clause-table
hand_over_back_first-requires-clause-table c =
    let d = c.in-Some.ensures.served.does in (d.table ∙ c.requires.table.0, d.opening ∙ c.requires.table.1)

pub hand_over_back_first-requires-clause-size : goal.hand_over_back_first-requires-clause-size
hand_over_back_first-requires-clause-size c =
    (bucket_fits c.args.n c.args.course.now.bucket c.requires.bucket).0

pub hand_over_back_first-requires-clause-one : goal.hand_over_back_first-requires-clause-one
hand_over_back_first-requires-clause-one c =
    let w = c.requires.no_room in let b = c.args.course.now.bucket in
    (b, is_bucket c.args.n b c.requires.bucket, (bucket_fits c.args.n b c.requires.bucket).1, one_d c.args.c.now c.args.vs c.args.back c.args.course.now c.args.n w.2.on.flags c.args.zero w.2.on.zero_is (back_slot ∷ vs_slot ∷ []) (said_at w.0 c.args.c.now c.args.back c.args.course.now w.1 c.args.lost c.args.n c.args.zero (vs_slot ∷ []) w.2) c.check.ensures.stands c.requires.vs (ap (is_out whats.Vs) (said_at w.0 c.args.c.now c.args.back c.args.course.now w.1 c.args.lost c.args.n c.args.zero (vs_slot ∷ []) w.2).out_is) c.search_again.new.c c.search_again.new.back c.in-Some.addr c.in-Some.ensures.served)

pub hand_over_back_first-requires-clause-locks : goal.hand_over_back_first-requires-clause-locks
hand_over_back_first-requires-clause-locks c =
    let w = c.requires.no_room in out_d c.args.c.now c.args.vs c.args.back c.args.course.now c.args.n w.2.on.flags c.args.zero w.2.on.zero_is (back_slot ∷ vs_slot ∷ []) (said_at w.0 c.args.c.now c.args.back c.args.course.now w.1 c.args.lost c.args.n c.args.zero (vs_slot ∷ []) w.2) c.check.ensures.stands c.requires.vs (ap (is_out whats.Vs) (said_at w.0 c.args.c.now c.args.back c.args.course.now w.1 c.args.lost c.args.n c.args.zero (vs_slot ∷ []) w.2).out_is) c.search_again.new.c c.search_again.new.back c.in-Some.addr c.in-Some.ensures.served

pub hand_over_back_first-requires-clause-paid : goal.hand_over_back_first-requires-clause-paid
hand_over_back_first-requires-clause-paid c =
    let w = c.requires.no_room in paid_d c.args.c.now c.args.vs c.args.back c.args.course.now c.args.n w.2.on.flags c.args.zero w.2.on.zero_is (back_slot ∷ vs_slot ∷ []) (said_at w.0 c.args.c.now c.args.back c.args.course.now w.1 c.args.lost c.args.n c.args.zero (vs_slot ∷ []) w.2) c.check.ensures.stands c.requires.vs (ap (is_out whats.Vs) (said_at w.0 c.args.c.now c.args.back c.args.course.now w.1 c.args.lost c.args.n c.args.zero (vs_slot ∷ []) w.2).out_is) c.search_again.new.c c.search_again.new.back c.in-Some.addr c.in-Some.ensures.served

pub hand_over_back_first-requires-clause-back : goal.hand_over_back_first-requires-clause-back
hand_over_back_first-requires-clause-back c =
    c.in-Some.ensures.served.back_is

pub hand_over_back_first-requires-clause-vs : goal.hand_over_back_first-requires-clause-vs
hand_over_back_first-requires-clause-vs c =
    let w = c.requires.no_room in keeps_d c.args.c.now c.args.vs c.args.back c.args.course.now c.args.n w.2.on.flags c.args.zero w.2.on.zero_is (back_slot ∷ vs_slot ∷ []) (said_at w.0 c.args.c.now c.args.back c.args.course.now w.1 c.args.lost c.args.n c.args.zero (vs_slot ∷ []) w.2) c.check.ensures.stands c.requires.vs (ap (is_out whats.Vs) (said_at w.0 c.args.c.now c.args.back c.args.course.now w.1 c.args.lost c.args.n c.args.zero (vs_slot ∷ []) w.2).out_is) c.search_again.new.c c.search_again.new.back c.in-Some.addr c.in-Some.ensures.served

pub returns-in-Some : goal.returns-in-Some
returns-in-Some c first l x =
    placed_with c.args.c.now c.args.vs c.args.back c.args.course.now c.args.n x.on.flags c.args.zero x.on.zero_is (back_slot ∷ vs_slot ∷ []) (said_at first c.args.c.now c.args.back c.args.course.now l c.args.lost c.args.n c.args.zero (vs_slot ∷ []) x) c.check.ensures.stands c.requires.vs (ap (is_out whats.Vs) (said_at first c.args.c.now c.args.back c.args.course.now l c.args.lost c.args.n c.args.zero (vs_slot ∷ []) x).out_is) c.search_again.new.c c.search_again.new.back c.in-Some.addr c.in-Some.ensures.served c.hand_over_back_first.new.c (acts.GiveLock whats.Back ∷ acts.GiveLock whats.Vs ∷ []) refl refl c.hand_over_back_first.ensures

pub returns-in-None : goal.returns-in-None
returns-in-None c first l x =
    for_vs c.args.c.now c.args.vs c.args.back c.args.course.now c.args.n x.on.flags c.args.zero x.on.zero_is (back_slot ∷ vs_slot ∷ []) (said_at first c.args.c.now c.args.back c.args.course.now l c.args.lost c.args.n c.args.zero (vs_slot ∷ []) x) c.check.ensures.stands c.requires.vs (ap (is_out whats.Vs) (said_at first c.args.c.now c.args.back c.args.course.now l c.args.lost c.args.n c.args.zero (vs_slot ∷ []) x).out_is) c.search_again.new.c c.search_again.new.back c.in-None.ensures.cannot_be_served
