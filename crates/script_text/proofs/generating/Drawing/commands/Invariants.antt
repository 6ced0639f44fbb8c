-- So many commands were drawn, and no more names have stood.
use Rattle.std.proofs.Common.{◌≡◌, ◌≤◌}
use Rattle.script_text.specs.Generator.{drawn, names_drawn, command_lines}
use Rattle.script_text.specs.Drawing.{HasDrawn}
use Rattle.script_text.proofs.generating.Drawing.commands.Given as goal

abbrev pub invariant-loop : goal.invariant-loop
invariant-loop l = record {
  has : HasDrawn l.self l.seed l.counter;
  few : l.self.used ≤ l.counter;
  commands : l.commands.items ≡ command_lines (names_drawn l.seed l.count) (drawn l.seed l.counter);
}
