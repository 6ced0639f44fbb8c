use Rattle.std.proofs.Common.{ap, subst, ◌∙◌, arith}
use Rattle.heap_gate.specs.Token.{Token}
use Rattle.vs_calls.specs.Parts.{Refuses}
use Rattle.vs_calls.proofs.SpanMay.{span_may}
use Rattle.fall_calls.proofs.Falling.{small_size}
use Rattle.fall_calls.proofs.NewSpanHeld.{falls_still, no_room, no_room_then, falls_holds, added, to_give, placed}
use Rattle.fall_calls.proofs.behind.place_in_span.Goals as goal

pub hold_in_new_span-requires-clause-size : goal.hold_in_new_span-requires-clause-size
hold_in_new_span-requires-clause-size c = small_size c.args.n c.requires.falls.bucket c.requires.falls.bucket_is

pub hold_in_new_span-requires-clause-room : goal.hold_in_new_span-requires-clause-room
hold_in_new_span-requires-clause-room c = let few = c.requires.falls.stands.few in omega (arith, few)

pub hold_in_new_span-requires-clause-tells_vs : goal.hold_in_new_span-requires-clause-tells_vs
hold_in_new_span-requires-clause-tells_vs c = c.requires.falls.keeps.tells

pub hold_in_new_span-requires-clause-tells_back : goal.hold_in_new_span-requires-clause-tells_back
hold_in_new_span-requires-clause-tells_back c = c.requires.falls.back_is

pub hold_in_new_span-requires-clause-may : goal.hold_in_new_span-requires-clause-may
hold_in_new_span-requires-clause-may c =
    span_may c.args.c.now c.args.vs c.args.back c.args.n
    (falls_holds c.args.c.now c.args.vs c.args.back c.args.n c.args.zero c.args.vs_last c.requires.falls c.check.ensures.stands c.region-region.ensures.sound)

pub hand_over_two-requires-clause-table : goal.hand_over_two-requires-clause-table
hand_over_two-requires-clause-table c =
    let a = added c.args.c.now c.args.vs c.args.back c.args.n c.args.zero c.args.vs_last c.requires.falls c.check.ensures.stands c.region-region.ensures.sound
    c.hold_in_new_span.new.c c.hold_in_new_span.new.vs c.hold_in_new_span.new.back c.in-Some.addr c.in-Some.ensures.held in
    (a.goes.table ∙ c.requires.table.0, a.goes.opening ∙ c.requires.table.1)

pub hand_over_two-requires-clause-block : goal.hand_over_two-requires-clause-block
hand_over_two-requires-clause-block c =
    to_give c.args.c.now c.args.vs c.args.back c.args.n c.args.zero c.args.vs_last c.requires.falls c.check.ensures.stands c.region-region.ensures.sound
    c.hold_in_new_span.new.c c.hold_in_new_span.new.vs c.hold_in_new_span.new.back c.in-Some.addr c.in-Some.ensures.held

pub returns-clause-placed : goal.returns-clause-placed
returns-clause-placed c =
    placed c.args.c.now c.args.vs c.args.back c.args.n c.args.zero c.args.vs_last c.requires.falls c.check.ensures.stands c.region-region.ensures.sound
    c.hold_in_new_span.new.c c.hold_in_new_span.new.vs c.hold_in_new_span.new.back c.in-Some.addr c.in-Some.ensures.held c.hand_over_two.new.c c.hand_over_two.ensures

pub refuse_behind-requires-clause-table : goal.refuse_behind-requires-clause-table
refuse_behind-requires-clause-table c = ap (λ (k : Token). k.table) c.in_default.ensures.none.same ∙ c.requires.table.0

pub refuse_behind-requires-clause-falls : goal.refuse_behind-requires-clause-falls
refuse_behind-requires-clause-falls c =
    (c.args.zero, falls_still c.args.c.now c.hold_in_new_span.new.c c.args.vs c.hold_in_new_span.new.vs c.args.back c.hold_in_new_span.new.back c.args.n c.in_default.ensures.none c.args.zero c.args.vs_last c.requires.falls)

pub refuse_behind-requires-clause-no_room : goal.refuse_behind-requires-clause-no_room
refuse_behind-requires-clause-no_room c =
    no_room_then c.args.c.now c.hold_in_new_span.new.c c.args.vs c.hold_in_new_span.new.vs c.args.back c.hold_in_new_span.new.back c.args.n c.in_default.ensures.none c.requires.no_gap

pub returns-in_default-clause-refused : goal.returns-in_default-clause-refused
returns-in_default-clause-refused c =
    let e = c.in_default.ensures.none in
    (no_room c.args.c.now c.hold_in_new_span.new.c c.args.vs c.hold_in_new_span.new.vs c.args.back c.hold_in_new_span.new.back c.args.n e c.requires.no_gap, subst (λ (k : Token). Refuses k c.refuse_behind.new.c) e.same c.refuse_behind.ensures)
