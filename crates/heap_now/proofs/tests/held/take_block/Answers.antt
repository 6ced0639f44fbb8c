use Rattle.heap_now.proofs.Callers.{may_ask, in_hand}
use Rattle.heap_now.proofs.tests.held.take_block.Goals as goal

pub take_live-requires-clause-may : goal.take_live-requires-clause-may
take_live-requires-clause-may g c = may_ask c.args.heap.now c.args.c.now c.read_tag-tag.new.c c.read_tag-tag.result c.requires c.read_tag-tag.ensures.tag c.check.ensures.stands

pub returns : goal.returns
returns g c = in_hand c.args.heap.now c.args.c.now c.read_tag-tag.new.c c.take_live.new.c c.read_tag-tag.result c.in-Some.size c.requires c.read_tag-tag.ensures.tag c.check.ensures.stands c.read_tag-tag.ensures.bucket c.in-Some.ensures.taken
