use Rattle.std.proofs.Common.{◌≡◌, ◌++◌, ◌∷◌, [], map, take}
use Rattle.round_runs.specs.Turns.{replies_of}
use Rattle.round_runs.proofs.turns.put_down.Given as goal

abbrev pub invariant-loop-t : goal.invariant-loop-t
invariant-loop-t l = l.answers ≡ l.fn.answers ++ map replies_of (take l.t l.workers) ∷ []
