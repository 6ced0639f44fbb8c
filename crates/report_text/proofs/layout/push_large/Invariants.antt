use Rattle.std.proofs.Common.{◌≡◌, ◌++◌, drop, string_bytes}
use Rattle.report_text.proofs.LargeLemmas.{row_lines}
use Rattle.report_text.proofs.layout.push_large.Given as goal

abbrev pub invariant-loop-row : goal.invariant-loop-row
invariant-loop-row l = string_bytes l.text ++ row_lines (drop l.row-index l.rows) ≡ string_bytes l.fn.text ++ row_lines l.rows
