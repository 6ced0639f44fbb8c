use Rattle.std.proofs.Common.{◌≡◌, drop}
use Rattle.script_text.specs.Scripts.{first_second}
use Rattle.script_text.proofs.scripts.second_in.Given as goal

abbrev pub invariant-loop-round : goal.invariant-loop-round
invariant-loop-round l = first_second (drop l.round l.rounds) ≡ first_second l.rounds
