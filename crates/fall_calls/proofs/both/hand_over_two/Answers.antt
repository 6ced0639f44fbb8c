use Rattle.std.proofs.Common.{subst, ap, ◌∙◌}
use Rattle.std.specs.Prelude.{is_some}
use Rattle.heap_model.specs.declared.Limits.{Limits}
use Rattle.vs_calls.specs.Blocks.{LiesWithin}
use Rattle.fall_calls.proofs.HandedTwo.{added, two, ended}
use Rattle.fall_calls.proofs.both.hand_over_two.Goals as goal

pub lies_within-requires : goal.lies_within-requires
lies_within-requires c = ap is_some c.requires.block.block.sized

pub hand_over-requires-clause-room : goal.hand_over-requires-clause-room
hand_over-requires-clause-room c = c.requires.block.few

pub hand_over-requires-clause-there : goal.hand_over-requires-clause-there
hand_over-requires-clause-there c =
    let b = c.requires.block.block in
    subst (λ (l : Limits). LiesWithin l c.args.addr c.args.n) b.limits_are (c.lies_within.ensures c.args.n b.sized)

pub hand_over-requires-clause-new : goal.hand_over-requires-clause-new
hand_over-requires-clause-new c = (c.requires.block.block.place, c.requires.block.block.new)

pub give_two-requires-clause-table : goal.give_two-requires-clause-table
give_two-requires-clause-table c =
    (added c.args.c.now c.hand_over.new.c c.args.vs c.args.back c.args.addr c.args.n c.args.zero c.args.vs_last c.requires.block c.hand_over.ensures).goes.table ∙ c.requires.table.0

pub give_two-requires-clause-two : goal.give_two-requires-clause-two
give_two-requires-clause-two c = two c.args.c.now c.hand_over.new.c c.args.vs c.args.back c.args.addr c.args.n c.args.zero c.args.vs_last c.requires.block c.hand_over.ensures

pub returns : goal.returns
returns c = ended c.args.c.now c.hand_over.new.c c.args.vs c.args.back c.args.addr c.args.n c.args.zero c.args.vs_last c.requires.block c.hand_over.ensures c.give_two.new.c c.give_two.ensures
