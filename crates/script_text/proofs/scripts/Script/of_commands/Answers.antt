use Rattle.std.proofs.Common.{List, sym, subst, arith}
use Rattle.script_text.specs.Scripts.{AreFew}
use Rattle.script_text.specs.ThreadLines.{ThreadLines}
use Rattle.script_text.proofs.GrownLemmas.{one_few}
use Rattle.script_text.proofs.scripts.Script.of_commands.Goals as goal

pub invariant_of-result : goal.invariant_of-result
invariant_of-result c =
    subst (λ (rounds : List (List ThreadLines)). AreFew rounds) (sym c.in_ok-rounds.ensures) (record { in_text = omega arith; in_round = λ i. one_few _ 1048576 i (omega arith) })
