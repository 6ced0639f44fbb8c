use Rattle.std.proofs.Common.{[], refl}
use Rattle.move_calls.proofs.gives.give_all.Goals as goal

pub put_vs-requires-clause-resting : goal.put_vs-requires-clause-resting
put_vs-requires-clause-resting c = let h = rw c.in-Vs.is at c.requires.holding in ([], h.resting, refl)

pub put_vs-requires-clause-tells : goal.put_vs-requires-clause-tells
put_vs-requires-clause-tells c = let h = rw c.in-Vs.is at c.requires.holding in h.tells

pub returns-in-Vs : goal.returns-in-Vs
returns-in-Vs c = let h = rw c.in-Vs.is at c.requires.holding in rw c.in-Vs.is (c.put_vs.ensures [] h.resting).ended

pub put_large-requires-clause-resting : goal.put_large-requires-clause-resting
put_large-requires-clause-resting c = let h = rw c.in-Large.is at c.requires.holding in ([], h.resting, refl)

pub put_large-requires-clause-tells : goal.put_large-requires-clause-tells
put_large-requires-clause-tells c = let h = rw c.in-Large.is at c.requires.holding in h.tells

pub returns-in-Large : goal.returns-in-Large
returns-in-Large c = let h = rw c.in-Large.is at c.requires.holding in rw c.in-Large.is (c.put_large.ensures [] h.resting).ended
