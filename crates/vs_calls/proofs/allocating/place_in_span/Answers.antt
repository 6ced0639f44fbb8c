use Rattle.std.proofs.Common.{◌||◌, ◌==◌, not, Bool, [], ◌∷◌, refl, sym, ap, subst, ◌∙◌}
use Rattle.std.specs.Prelude.{is_some, option_and_then}
use Rattle.heap_model.specs.declared.Limits.{Limits}
use Rattle.heap_model.specs.State.{live_size}
use Rattle.claim_rule.specs.Places.{vs_slot}
use Rattle.heap_gate.specs.Token.{Token}
use Rattle.vs_calls.specs.Blocks.{LiesWithin, IsForVs}
use Rattle.vs_calls.specs.Parts.{Refuses}
use Rattle.vs_calls.specs.Tries.{LeavesBack}
use Rattle.vs_calls.proofs.Backward.{placed_leaves}
use Rattle.vs_calls.proofs.SpanMay.{anew_holds, span_may}
use Rattle.vs_calls.proofs.NewPlaced.{here_added, here_out, here_back, new_here}
use Rattle.vs_calls.proofs.NewGiven.{first_added, first_room, first_limits, the_place, new_now, all_added, all_out, all_whole, all_inside, all_tells, anew_placed}
use Rattle.vs_calls.proofs.allocating.place_in_span.Goals as goal

pub hold_in_new_span-requires-clause-may : goal.hold_in_new_span-requires-clause-may
hold_in_new_span-requires-clause-may c =
    λ first run g. span_may c.args.c.now c.args.vs c.args.back c.args.n (anew_holds c.args.c.now c.args.vs c.args.back c.args.n c.args.zero c.requires.placing c.check.ensures.stands c.region-region.ensures.sound c.requires.size) first run g

pub lies_within-requires : goal.lies_within-requires
lies_within-requires c = ap is_some (ap (option_and_then (λ p. live_size p.status)) c.in-Some.ensures.held.there)

pub give_back-requires-clause-table : goal.give_back-requires-clause-table
give_back-requires-clause-table c = (here_added c.args.c.now c.hold_in_new_span.new.c c.args.vs c.hold_in_new_span.new.vs c.args.back c.hold_in_new_span.new.back c.args.n c.in-Some.addr (anew_holds c.args.c.now c.args.vs c.args.back c.args.n c.args.zero c.requires.placing c.check.ensures.stands c.region-region.ensures.sound c.requires.size) c.in-Some.ensures.held).goes.table ∙ c.requires.table.0

pub give_back-requires-clause-whole : goal.give_back-requires-clause-whole
give_back-requires-clause-whole c = (new_here c.args.c.now c.hold_in_new_span.new.c c.args.vs c.hold_in_new_span.new.vs c.args.back c.hold_in_new_span.new.back c.args.n c.in-Some.addr (anew_holds c.args.c.now c.args.vs c.args.back c.args.n c.args.zero c.requires.placing c.check.ensures.stands c.region-region.ensures.sound c.requires.size) c.in-Some.ensures.held).whole

pub give_back-requires-clause-inside : goal.give_back-requires-clause-inside
give_back-requires-clause-inside c = ap (λ (b : Bool). b || not (c.hold_in_new_span.new.c.depth == 0)) (new_here c.args.c.now c.hold_in_new_span.new.c c.args.vs c.hold_in_new_span.new.vs c.args.back c.hold_in_new_span.new.back c.args.n c.in-Some.addr (anew_holds c.args.c.now c.args.vs c.args.back c.args.n c.args.zero c.requires.placing c.check.ensures.stands c.region-region.ensures.sound c.requires.size) c.in-Some.ensures.held).inside

pub give_back-requires-clause-lock : goal.give_back-requires-clause-lock
give_back-requires-clause-lock c = (vs_slot ∷ [], here_out c.args.c.now c.hold_in_new_span.new.c c.args.vs c.hold_in_new_span.new.vs c.args.back c.hold_in_new_span.new.back c.args.n c.in-Some.addr (anew_holds c.args.c.now c.args.vs c.args.back c.args.n c.args.zero c.requires.placing c.check.ensures.stands c.region-region.ensures.sound c.requires.size) c.in-Some.ensures.held ∙ c.requires.placing.holds.serving.out_is, refl)

pub give_back-requires-clause-tells : goal.give_back-requires-clause-tells
give_back-requires-clause-tells c = here_back c.args.c.now c.hold_in_new_span.new.c c.args.vs c.hold_in_new_span.new.vs c.args.back c.hold_in_new_span.new.back c.args.n c.in-Some.addr (anew_holds c.args.c.now c.args.vs c.args.back c.args.n c.args.zero c.requires.placing c.check.ensures.stands c.region-region.ensures.sound c.requires.size) c.in-Some.ensures.held

pub give_back-requires-clause-paid : goal.give_back-requires-clause-paid
give_back-requires-clause-paid c = (here_added c.args.c.now c.hold_in_new_span.new.c c.args.vs c.hold_in_new_span.new.vs c.args.back c.hold_in_new_span.new.back c.args.n c.in-Some.addr (anew_holds c.args.c.now c.args.vs c.args.back c.args.n c.args.zero c.requires.placing c.check.ensures.stands c.region-region.ensures.sound c.requires.size) c.in-Some.ensures.held).steady.owes ∙ c.requires.placing.holds.serving.owes

pub hand_over-requires-clause-table : goal.hand_over-requires-clause-table
hand_over-requires-clause-table c =
    let f = first_added c.args.c.now c.hold_in_new_span.new.c c.give_back.new.c c.args.vs c.hold_in_new_span.new.vs c.args.back c.hold_in_new_span.new.back c.args.n c.in-Some.addr c.args.zero c.requires.placing c.check.ensures.stands c.region-region.ensures.sound c.requires.size c.in-Some.ensures.held c.give_back.ensures in
    (f.goes.table ∙ c.requires.table.0, f.goes.opening ∙ c.requires.table.1)

pub hand_over-requires-clause-room : goal.hand_over-requires-clause-room
hand_over-requires-clause-room c = first_room c.args.c.now c.hold_in_new_span.new.c c.give_back.new.c c.args.vs c.hold_in_new_span.new.vs c.args.back c.hold_in_new_span.new.back c.args.n c.in-Some.addr c.args.zero c.requires.placing c.check.ensures.stands c.region-region.ensures.sound c.requires.size c.in-Some.ensures.held c.give_back.ensures

pub hand_over-requires-clause-there : goal.hand_over-requires-clause-there
hand_over-requires-clause-there c =
    subst (λ (y : Limits). LiesWithin y c.in-Some.addr c.args.n) (first_limits c.args.c.now c.hold_in_new_span.new.c c.give_back.new.c c.args.vs c.hold_in_new_span.new.vs c.args.back c.hold_in_new_span.new.back c.args.n c.in-Some.addr c.args.zero c.requires.placing c.check.ensures.stands c.region-region.ensures.sound c.requires.size c.in-Some.ensures.held c.give_back.ensures)
    (c.lies_within.ensures c.args.n (ap (option_and_then (λ p. live_size p.status)) c.in-Some.ensures.held.there))

pub hand_over-requires-clause-new : goal.hand_over-requires-clause-new
hand_over-requires-clause-new c = (
  the_place c.args.c.now c.hold_in_new_span.new.c c.give_back.new.c c.args.vs c.hold_in_new_span.new.vs c.args.back c.hold_in_new_span.new.back c.args.n c.in-Some.addr c.args.zero c.requires.placing c.check.ensures.stands c.region-region.ensures.sound c.requires.size c.in-Some.ensures.held c.give_back.ensures,
  new_now c.args.c.now c.hold_in_new_span.new.c c.give_back.new.c c.args.vs c.hold_in_new_span.new.vs c.args.back c.hold_in_new_span.new.back c.args.n c.in-Some.addr c.args.zero c.requires.placing c.check.ensures.stands c.region-region.ensures.sound c.requires.size c.in-Some.ensures.held c.give_back.ensures,
)

pub give_vs-requires-clause-table : goal.give_vs-requires-clause-table
give_vs-requires-clause-table c = (all_added c.args.c.now c.hold_in_new_span.new.c c.give_back.new.c c.args.vs c.hold_in_new_span.new.vs c.args.back c.hold_in_new_span.new.back c.args.n c.in-Some.addr c.args.zero c.requires.placing c.check.ensures.stands c.region-region.ensures.sound c.requires.size c.in-Some.ensures.held c.give_back.ensures c.hand_over.new.c c.hand_over.ensures).goes.table ∙ c.requires.table.0

pub give_vs-requires-clause-whole : goal.give_vs-requires-clause-whole
give_vs-requires-clause-whole c = all_whole c.args.c.now c.hold_in_new_span.new.c c.give_back.new.c c.args.vs c.hold_in_new_span.new.vs c.args.back c.hold_in_new_span.new.back c.args.n c.in-Some.addr c.args.zero c.requires.placing c.check.ensures.stands c.region-region.ensures.sound c.requires.size c.in-Some.ensures.held c.give_back.ensures c.hand_over.new.c c.hand_over.ensures

pub give_vs-requires-clause-inside : goal.give_vs-requires-clause-inside
give_vs-requires-clause-inside c = ap (λ (b : Bool). b || not (c.hand_over.new.c.depth == 0)) (all_inside c.args.c.now c.hold_in_new_span.new.c c.give_back.new.c c.args.vs c.hold_in_new_span.new.vs c.args.back c.hold_in_new_span.new.back c.args.n c.in-Some.addr c.args.zero c.requires.placing c.check.ensures.stands c.region-region.ensures.sound c.requires.size c.in-Some.ensures.held c.give_back.ensures c.hand_over.new.c c.hand_over.ensures)

pub give_vs-requires-clause-lock : goal.give_vs-requires-clause-lock
give_vs-requires-clause-lock c = ([], all_out c.args.c.now c.hold_in_new_span.new.c c.give_back.new.c c.args.vs c.hold_in_new_span.new.vs c.args.back c.hold_in_new_span.new.back c.args.n c.in-Some.addr c.args.zero c.requires.placing c.check.ensures.stands c.region-region.ensures.sound c.requires.size c.in-Some.ensures.held c.give_back.ensures c.hand_over.new.c c.hand_over.ensures, refl)

pub give_vs-requires-clause-tells : goal.give_vs-requires-clause-tells
give_vs-requires-clause-tells c = all_tells c.args.c.now c.hold_in_new_span.new.c c.give_back.new.c c.args.vs c.hold_in_new_span.new.vs c.args.back c.hold_in_new_span.new.back c.args.n c.in-Some.addr c.args.zero c.requires.placing c.check.ensures.stands c.region-region.ensures.sound c.requires.size c.in-Some.ensures.held c.give_back.ensures c.hand_over.new.c c.hand_over.ensures

pub returns-clause-placed : goal.returns-clause-placed
returns-clause-placed c = anew_placed c.args.c.now c.hold_in_new_span.new.c c.give_back.new.c c.args.vs c.hold_in_new_span.new.vs c.args.back c.hold_in_new_span.new.back c.args.n c.in-Some.addr c.args.zero c.requires.placing c.check.ensures.stands c.region-region.ensures.sound c.requires.size c.in-Some.ensures.held c.give_back.ensures c.hand_over.new.c c.hand_over.ensures c.give_vs.new.c c.give_vs.ensures

pub refuse_new-requires-clause-vs : goal.refuse_new-requires-clause-vs
refuse_new-requires-clause-vs c = subst (λ (k : Token). IsForVs k c.args.n) (sym c.in_default.ensures.none.same) c.requires.placing.bucket

pub returns-in_default-clause-refused : goal.returns-in_default-clause-refused
returns-in_default-clause-refused c = subst (λ (k : Token). Refuses k c.refuse_new.new.c) c.in_default.ensures.none.same c.refuse_new.ensures.refused

pub returns-in_default-clause-leaves : goal.returns-in_default-clause-leaves
returns-in_default-clause-leaves c = subst (λ (k : Token). LeavesBack k c.refuse_new.new.c) c.in_default.ensures.none.same c.refuse_new.ensures.leaves

pub returns-clause-leaves : goal.returns-clause-leaves
returns-clause-leaves c = placed_leaves c.args.c.now c.give_vs.new.c c.args.n c.in-Some.addr c.args.zero
    (anew_placed c.args.c.now c.hold_in_new_span.new.c c.give_back.new.c c.args.vs c.hold_in_new_span.new.vs c.args.back c.hold_in_new_span.new.back c.args.n c.in-Some.addr c.args.zero c.requires.placing c.check.ensures.stands c.region-region.ensures.sound c.requires.size c.in-Some.ensures.held c.give_back.ensures c.hand_over.new.c c.hand_over.ensures c.give_vs.new.c c.give_vs.ensures)
