use Rattle.std.proofs.Common.{◌||◌, ◌==◌, not, Bool, [], refl, ap, subst, ◌∙◌}
use Rattle.std.specs.Prelude.{is_some}
use Rattle.heap_model.specs.declared.Limits.{Limits}
use Rattle.vs_calls.specs.Blocks.{LiesWithin}
use Rattle.vs_calls.proofs.GapPlaced.{sized_there, gap_limits, gap_table, gap_opening, gap_room, the_place, new_here, all_added, all_out, all_inside, all_whole, all_tells, gap_placed}
use Rattle.vs_calls.proofs.allocating.place_in_gap.Goals as goal

pub hold_new-addr-requires-clause-holds : goal.hold_new-addr-requires-clause-holds
hold_new-addr-requires-clause-holds c = (c.requires.placing.flags, c.requires.placing.holds)

pub lies_within-requires : goal.lies_within-requires
lies_within-requires c =
    ap is_some (sized_there c.args.c.now c.hold_new-addr.new.c c.args.vs c.hold_new-addr.new.vs c.args.n c.hold_new-addr.result c.args.zero c.requires.placing c.check.ensures.stands c.requires.size c.hold_new-addr.ensures)

pub hand_over-requires-clause-table : goal.hand_over-requires-clause-table
hand_over-requires-clause-table c =
    let k = c.args.c.now in let t = c.hold_new-addr.new.c in let x = c.hold_new-addr.ensures in (
      gap_table k t c.args.vs c.hold_new-addr.new.vs c.args.n c.hold_new-addr.result c.args.zero c.requires.placing c.check.ensures.stands c.requires.size x ∙ c.requires.table.0,
      gap_opening k t c.args.vs c.hold_new-addr.new.vs c.args.n c.hold_new-addr.result c.args.zero c.requires.placing c.check.ensures.stands c.requires.size x ∙ c.requires.table.1,
    )

pub hand_over-requires-clause-room : goal.hand_over-requires-clause-room
hand_over-requires-clause-room c =
    gap_room c.args.c.now c.hold_new-addr.new.c c.args.vs c.hold_new-addr.new.vs c.args.n c.hold_new-addr.result c.args.zero c.requires.placing c.check.ensures.stands c.requires.size c.hold_new-addr.ensures

pub hand_over-requires-clause-there : goal.hand_over-requires-clause-there
hand_over-requires-clause-there c =
    let k = c.args.c.now in let t = c.hold_new-addr.new.c in let x = c.hold_new-addr.ensures in
    let l = gap_limits k t c.args.vs c.hold_new-addr.new.vs c.args.n c.hold_new-addr.result c.args.zero c.requires.placing c.check.ensures.stands c.requires.size x in
    subst (λ (y : Limits). LiesWithin y c.hold_new-addr.result c.args.n) l
    (c.lies_within.ensures c.args.n (sized_there k t c.args.vs c.hold_new-addr.new.vs c.args.n c.hold_new-addr.result c.args.zero c.requires.placing c.check.ensures.stands c.requires.size x))

pub hand_over-requires-clause-new : goal.hand_over-requires-clause-new
hand_over-requires-clause-new c =
    let k = c.args.c.now in let t = c.hold_new-addr.new.c in let x = c.hold_new-addr.ensures in (
      the_place k t c.args.vs c.hold_new-addr.new.vs c.args.n c.hold_new-addr.result c.args.zero c.requires.placing c.check.ensures.stands c.requires.size x,
      new_here k t c.args.vs c.hold_new-addr.new.vs c.args.n c.hold_new-addr.result c.args.zero c.requires.placing c.check.ensures.stands c.requires.size x,
    )

pub give_vs-requires-clause-table : goal.give_vs-requires-clause-table
give_vs-requires-clause-table c =
    (all_added c.args.c.now c.hold_new-addr.new.c c.args.vs c.hold_new-addr.new.vs c.args.n c.hold_new-addr.result c.args.zero c.requires.placing c.check.ensures.stands c.requires.size c.hold_new-addr.ensures c.hand_over.new.c c.hand_over.ensures).goes.table ∙ c.requires.table.0

pub give_vs-requires-clause-whole : goal.give_vs-requires-clause-whole
give_vs-requires-clause-whole c =
    all_whole c.args.c.now c.hold_new-addr.new.c c.args.vs c.hold_new-addr.new.vs c.args.n c.hold_new-addr.result c.args.zero c.requires.placing c.check.ensures.stands c.requires.size c.hold_new-addr.ensures c.hand_over.new.c c.hand_over.ensures

pub give_vs-requires-clause-inside : goal.give_vs-requires-clause-inside
give_vs-requires-clause-inside c =
    ap (λ (b : Bool). b || not (c.hand_over.new.c.depth == 0))
    (all_inside c.args.c.now c.hold_new-addr.new.c c.args.vs c.hold_new-addr.new.vs c.args.n c.hold_new-addr.result c.args.zero c.requires.placing c.check.ensures.stands c.requires.size c.hold_new-addr.ensures c.hand_over.new.c c.hand_over.ensures)

pub give_vs-requires-clause-lock : goal.give_vs-requires-clause-lock
give_vs-requires-clause-lock c = (
  [],
  all_out c.args.c.now c.hold_new-addr.new.c c.args.vs c.hold_new-addr.new.vs c.args.n c.hold_new-addr.result c.args.zero c.requires.placing c.check.ensures.stands c.requires.size c.hold_new-addr.ensures c.hand_over.new.c c.hand_over.ensures,
  refl,
)

pub give_vs-requires-clause-tells : goal.give_vs-requires-clause-tells
give_vs-requires-clause-tells c =
    all_tells c.args.c.now c.hold_new-addr.new.c c.args.vs c.hold_new-addr.new.vs c.args.n c.hold_new-addr.result c.args.zero c.requires.placing c.check.ensures.stands c.requires.size c.hold_new-addr.ensures c.hand_over.new.c c.hand_over.ensures

pub returns : goal.returns
returns c =
    gap_placed c.args.c.now c.hold_new-addr.new.c c.args.vs c.hold_new-addr.new.vs c.args.n c.hold_new-addr.result c.args.zero c.requires.placing c.check.ensures.stands c.requires.size c.hold_new-addr.ensures c.hand_over.new.c c.hand_over.ensures
    c.give_vs.new.c c.give_vs.ensures
