-- What was taken of the lines so far.
use Rattle.std.specs.Prelude.{◌≡◌, ℕ, ◌≤◌, List, length, Option, Ok}
use Rattle.script_text.specs.Order.{AreCounted}
use Rattle.script_text.specs.Reading.{noted}
use Rattle.script_text.specs.Rounds.{rounds_of}
use Rattle.script_text.specs.ThreadLines.{ThreadLines}
use Rattle.script_text.specs.declared.commands.Line.{Line}
use Rattle.script_text.specs.declared.commands.NumberedLine.{NumberedLine}
use Rattle.script_text.specs.declared.counts.Counts.{Counts}

-- the rounds and the counts are those of these lines, at most so many
pub record IsTaken (rounds : List (List ThreadLines)) (counts : Counts) (limit : ℕ) (before : List NumberedLine) : Type 0 where
  pub rounds_are : rounds ≡ rounds_of before
  pub counted : AreCounted counts before
  pub few : length before ≤ limit

-- the same behind what the next line says
pub record IsNoted (before : List NumberedLine) (number : ℕ) (said : Option Line) (rounds : List (List ThreadLines)) (counts : Counts) (limit : ℕ) : Type 0 where
  pub after : List NumberedLine
  pub is_noted : noted before number (Ok said) ≡ Ok after
  pub taken : IsTaken rounds counts limit after
