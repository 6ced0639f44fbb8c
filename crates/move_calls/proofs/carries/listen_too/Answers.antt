use Rattle.move_calls.proofs.Carrying.{listened, still_listened}
use Rattle.move_calls.proofs.carries.listen_too.Goals as goal

pub hear-requires-clause-whole : goal.hear-requires-clause-whole
hear-requires-clause-whole c = c.requires.carrying.7.bringing.holds.block.whole

pub returns-clause-carrying : goal.returns-clause-carrying
returns-clause-carrying c = λ first tag addr size n flags out v. listened first c.args.c.now c.hear.new.c tag addr size n flags out c.look_keeps.ensures c.hear.ensures.runs c.hear.ensures.stands c.check.ensures.stands v

pub returns-clause-still : goal.returns-clause-still
returns-clause-still c = still_listened c.args.c.now c.hear.new.c c.hear.ensures.runs c.check-2.ensures.stands
