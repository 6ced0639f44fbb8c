use Rattle.std.proofs.Common.{◌<◌, ℕ, ◌∷◌, []}
use Rattle.heap_model.specs.declared.Call.TheVariants as calls
use Rattle.claim_rule.specs.Places.{back_slot}
use Rattle.heap_gate.specs.Token.{Always, now}
use Rattle.compact_calls.specs.Empties.{Looked}
use Rattle.compact_calls.proofs.Emptying.{NoBits}
use Rattle.compact_calls.proofs.empties.has_bits.Given as goal

abbrev pub invariant-loop-word : goal.invariant-loop-word
invariant-loop-word l = record {
  looked : Looked l.initial.c l.c calls.Compact (back_slot ∷ []);
  none : Always l.c (λ s. (w : ℕ) → w < l.word → NoBits (now s l.c) l.head w);
}
