use Rattle.std.proofs.Common.{◌≡◌, ℕ, ◌<◌, length, get_or}
use Rattle.std.specs.Slots.{slots_items}
use Rattle.heap_gate.proofs.closed.copied.Given as goal

abbrev pub invariant-loop-i : goal.invariant-loop-i
invariant-loop-i g l = (length l.words ≡ length l.initial.words) × ((k : ℕ) → k < l.i → get_or l.words k 0 ≡ get_or (slots_items l.closed.words) k 0)
