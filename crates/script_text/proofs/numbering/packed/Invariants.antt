use Rattle.std.proofs.Common.{◌≡◌, ◌^◌, ◌<◌, ◌≤◌, ◌-◌, length, drop}
use Rattle.script_text.specs.Keys.{packed}
use Rattle.script_text.proofs.numbering.packed.Given as goal

abbrev pub invariant-loop-left : goal.invariant-loop-left
invariant-loop-left l = record {
  value : l.value ≡ packed (drop l.left l.bytes);
  room : l.value < 256 ^ (length l.bytes - l.left);
  within : l.left ≤ length l.bytes;
}

abbrev pub decreases-loop-left : goal.decreases-loop-left
decreases-loop-left l = l.left
