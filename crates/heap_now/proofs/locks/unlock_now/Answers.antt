use Rattle.heap_now.proofs.locks.unlock_now.Goals as goal

pub unlock_gate-requires-clause-outside : goal.unlock_gate-requires-clause-outside
unlock_gate-requires-clause-outside c = c.requires.ready.ready.outside

pub unlock_gate-requires-clause-out : goal.unlock_gate-requires-clause-out
unlock_gate-requires-clause-out c = c.requires.ready.ready.out
