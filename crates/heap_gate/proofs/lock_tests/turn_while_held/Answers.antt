use Rattle.std.proofs.Common.{refl}
use Rattle.heap_model.specs.declared.What.TheVariants as whats
use Rattle.heap_gate.specs.Token.{now}
use Rattle.heap_gate.specs.Turns.{nothing_of}
use Rattle.heap_gate.proofs.Turns.{nothing_left}
use Rattle.heap_gate.proofs.lock_tests.turn_while_held.Goals as goal

pub give_lock-requires-clause-tells : goal.give_lock-requires-clause-tells
give_lock-requires-clause-tells g c = λ s q.
    let t = c.in-Ok.ensures.ok.tells_it s q in
    (nothing_left whats.Vs c.take_lock.new.c.opening (now s c.take_lock.new.c).state (nothing_of c.in-Ok.state.lock) tt refl refl t, t)
