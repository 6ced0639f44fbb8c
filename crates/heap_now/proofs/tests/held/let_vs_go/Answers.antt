use Rattle.heap_now.proofs.tests.held.let_vs_go.Goals as goal

pub give_vs-requires-clause-tells : goal.give_vs-requires-clause-tells
give_vs-requires-clause-tells c = λ s q. (c.requires.has.used s q, c.requires.has.holds.tells s q)
