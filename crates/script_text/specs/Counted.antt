-- The counts behind one line more.
use Rattle.std.specs.Prelude.{ℕ, ◌+◌, ◌-◌, ◌≤◌, max}
use Rattle.script_text.specs.declared.commands.Command.TheVariants as commands
use Rattle.script_text.specs.declared.commands.Line.{Line}
use Rattle.script_text.specs.declared.commands.Line.TheVariants as lines
use Rattle.script_text.specs.declared.counts.Counts.{Counts}

abbrev pub counted : Counts → Line → Counts
counted k lines.Round = record { depth = 0; threads = 0; walks = k.walks }
counted k lines.Thread = record { depth = 0; threads = k.threads + 1; walks = k.walks }
counted k (lines.Runs commands.Lock) = record { depth = k.depth + 1; threads = max k.threads 1; walks = k.walks }
counted k (lines.Runs commands.Unlock) = record { depth = k.depth - 1; threads = max k.threads 1; walks = k.walks }
counted k (lines.Runs commands.Walk) = record { depth = k.depth; threads = max k.threads 1; walks = k.walks + 1 }
counted k (lines.Runs _) = record { depth = k.depth; threads = max k.threads 1; walks = k.walks }

pub record IsWithin (counts : Counts) (n : ℕ) : Type 0 where
  pub depth : counts.depth ≤ n
  pub threads : counts.threads ≤ n
  pub walks : counts.walks ≤ n
