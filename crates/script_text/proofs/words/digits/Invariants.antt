use Rattle.std.proofs.Common.{◌≡◌, drop}
use Rattle.script_text.specs.Digits.{number_from}
use Rattle.script_text.proofs.words.digits.Given as goal

abbrev pub invariant-loop-b : goal.invariant-loop-b
invariant-loop-b l = number_from l.n (drop l.b-index l.field) ≡ number_from 0 l.field
