use Rattle.std.proofs.Common.{◌≡◌, ◌≤◌, ◌+◌, List, length, drop, take, btree_map_len}
use Rattle.script_text.specs.Lines.{lines_of}
use Rattle.script_text.specs.Names.{AreNumbered, names_in}
use Rattle.script_text.specs.Counted.{IsWithin}
use Rattle.script_text.specs.Reading.{lines_from, lines_read}
use Rattle.script_text.specs.Taken.{IsTaken}
use Rattle.script_text.specs.declared.commands.NumberedLine.{NumberedLine}
use Rattle.script_text.proofs.reading.read_lines.Given as goal

abbrev pub invariant-loop-rest : goal.invariant-loop-rest
invariant-loop-rest l = record {
  rest : lines_of l.rest ≡ drop l.number (lines_of l.text);
  taken : (before : List NumberedLine) × IsTaken l.taken.rounds l.taken.counts l.number before
      × (lines_from (names_in (lines_of l.text)) before (l.number + 1) (lines_of l.rest) ≡ lines_read l.text);
  named : AreNumbered l.names.numbers (names_in (take l.number (lines_of l.text)));
  within : IsWithin l.taken.counts l.number;
  few_names : btree_map_len l.names.numbers ≤ l.number;
  room : l.number + length l.rest ≤ length l.text;
}

abbrev pub decreases-loop-rest : goal.decreases-loop-rest
decreases-loop-rest l = length l.rest
