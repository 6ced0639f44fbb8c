use Rattle.script_text.specs.Lines.{is_blank}
use Rattle.script_text.proofs.FieldLemmas.{first_piece}
use Rattle.script_text.proofs.lines.next_field.Goals as goal

pub returns-clause-first : goal.returns-clause-first
returns-clause-first c = rw (c.cut_piece.ensures.front, c.without_blanks.ensures) (first_piece is_blank c.args.line.now).0

pub returns-clause-others : goal.returns-clause-others
returns-clause-others c = rw (c.cut_piece.ensures.behind, c.without_blanks.ensures) (first_piece is_blank c.args.line.now).1
