use Rattle.std.proofs.Common.{◌≡◌, take}
use Rattle.call_parts.specs.Entries.{with_all}
use Rattle.call_parts.proofs.entries.prepare_all.Given as goal

abbrev pub invariant-loop-act : goal.invariant-loop-act
invariant-loop-act l = l.c ≡ with_all l.initial.c (take l.act-index l.acts)
