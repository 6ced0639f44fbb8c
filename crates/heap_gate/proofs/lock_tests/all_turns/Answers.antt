use Rattle.std.proofs.Common.{◌∙◌, ◌+◌, arith}
use Rattle.heap_gate.specs.Turns.{takes}
use Rattle.heap_gate.proofs.Turns.{counted_by_two}
use Rattle.heap_gate.proofs.lock_tests.all_turns.Goals as goal

pub returns : goal.returns
returns g c =
    let r = c.in_two_threads.result in let e = c.in_two_threads.ensures in
    counted_by_two takes 0 1 r.0.last.value.seen (λ x. let no : ⊥ = omega arith in no) e.both ∙ (λ j. e.a j + e.b j)
