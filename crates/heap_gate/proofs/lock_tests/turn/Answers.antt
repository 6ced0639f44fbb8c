use Rattle.heap_gate.specs.Turns.{nothing_of}
use Rattle.heap_gate.proofs.Turns.{has_missed_turn, has_turned_lock}
use Rattle.heap_gate.proofs.lock_tests.turn.Goals as goal

pub returns-in-Err-clause-takes : goal.returns-in-Err-clause-takes
returns-in-Err-clause-takes c = let b = c.in-Err.field-0 in has_missed_turn c.args.heap.now c.args.c.now c.take_lock.new.c c.args.inside c.requires.settled c.args.what b.what b.word c.in-Err.ensures.busy

pub returns-clause-takes : goal.returns-clause-takes
returns-clause-takes c = has_turned_lock c.args.heap.now c.args.c.now c.give_lock.new.c c.args.inside c.requires.settled (λ e. nothing_of e.lock) c.take_lock.new.c c.args.what c.in-Ok.state c.in-Ok.ensures.ok c.give_lock.ensures
