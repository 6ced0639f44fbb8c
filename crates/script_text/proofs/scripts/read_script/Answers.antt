use Rattle.std.proofs.Common.{List, length, [], get_or, ap, arith}
use Rattle.script_text.specs.ThreadLines.{ThreadLines}
use Rattle.script_text.proofs.GrownLemmas.{rounds_few, round_few}
use Rattle.script_text.proofs.scripts.read_script.Goals as goal

pub invariant_of-result : goal.invariant_of-result
invariant_of-result c =
    let r = c.in_ok-read.ensures.rounds in
    record {
      in_text = let same = ap length r.2 in omega (arith, same, rounds_few r.0, r.3);
      in_round = λ i. let same = ap (λ (rounds : List (List ThreadLines)). length (get_or rounds i [])) r.2 in omega (arith, same, round_few r.0 i, r.3);
    }
