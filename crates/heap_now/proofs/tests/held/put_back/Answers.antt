use Rattle.heap_now.proofs.Callers.{hand_rests}
use Rattle.heap_now.proofs.tests.held.put_back.Goals as goal

pub rest-requires : goal.rest-requires
rest-requires c = record { rests = hand_rests c.args.heap.now c.args.c.now c.requires c.check.ensures.stands c.publish.new.c c.publish.ensures c.check-2.ensures.stands }
