use Rattle.std.proofs.Common.{◌≡◌, take}
use Rattle.script_text.specs.Scripts.{most_threads}
use Rattle.script_text.proofs.scripts.most_in.Given as goal

abbrev pub invariant-loop-round : goal.invariant-loop-round
invariant-loop-round l = l.most ≡ most_threads (take l.round l.rounds)
