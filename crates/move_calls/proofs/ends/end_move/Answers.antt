use Rattle.move_calls.proofs.ends.end_move.Goals as goal

pub returns-in-None : goal.returns-in-None
returns-in-None c = λ k addr size flags p x. let y = rw c.in-None.is at x in c.end_without.ensures k addr size flags p y
