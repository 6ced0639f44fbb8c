use Rattle.std.proofs.Common.{◌∙◌, ap, arith}
use Rattle.heap_gate.specs.Token.{Token}
use Rattle.fall_calls.proofs.Falling.{small_size, gap_may}
use Rattle.fall_calls.proofs.GapHeld.{block, placed}
use Rattle.fall_calls.proofs.behind.place_in_gap.Goals as goal

pub hold_in_gap-addr-requires-clause-size : goal.hold_in_gap-addr-requires-clause-size
hold_in_gap-addr-requires-clause-size c = small_size c.args.n c.requires.falls.bucket c.requires.falls.bucket_is

pub hold_in_gap-addr-requires-clause-room : goal.hold_in_gap-addr-requires-clause-room
hold_in_gap-addr-requires-clause-room c = let e = c.requires.falls.stands.few in omega (arith, e)

pub hold_in_gap-addr-requires-clause-tells : goal.hold_in_gap-addr-requires-clause-tells
hold_in_gap-addr-requires-clause-tells c = c.requires.falls.keeps.tells

pub hold_in_gap-addr-requires-clause-may : goal.hold_in_gap-addr-requires-clause-may
hold_in_gap-addr-requires-clause-may c = gap_may c.args.c.now c.args.vs c.args.back c.args.n c.args.zero c.args.vs_last c.requires.falls c.check.ensures.stands

pub hand_over_two-requires-clause-table : goal.hand_over_two-requires-clause-table
hand_over_two-requires-clause-table c =
    let e = c.hold_in_gap-addr.ensures.prepared in
    (ap (λ (t : Token). t.table) e ∙ c.requires.table.0, ap (λ (t : Token). t.opening) e ∙ c.requires.table.1)

pub hand_over_two-requires-clause-block : goal.hand_over_two-requires-clause-block
hand_over_two-requires-clause-block c =
    block c.args.c.now c.hold_in_gap-addr.new.c c.args.vs c.hold_in_gap-addr.new.vs c.args.back c.args.n c.hold_in_gap-addr.result c.args.zero c.args.vs_last c.requires.falls c.check.ensures.stands c.hold_in_gap-addr.ensures

pub returns : goal.returns
returns c =
    placed c.args.c.now c.hold_in_gap-addr.new.c c.args.vs c.hold_in_gap-addr.new.vs c.args.back c.args.n c.hold_in_gap-addr.result c.args.zero c.args.vs_last c.requires.falls c.check.ensures.stands c.hold_in_gap-addr.ensures
    c.hand_over_two.new.c c.hand_over_two.ensures
