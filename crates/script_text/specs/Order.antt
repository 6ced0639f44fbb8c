-- What may stand behind what: the causes that depend on the lines before.
use Rattle.std.specs.Prelude.{◌≡◌, ℕ, ◌+◌, ◌-◌, ◌==◌, Bool, true, false, ◌&&◌, not, nat_le, List, length, count_by, Option, Some, None, if◌then◌else◌}
use Rattle.script_text.specs.Pieces.{cut_before, behind_last}
use Rattle.script_text.specs.declared.faults.Cause.{Cause}
use Rattle.script_text.specs.declared.faults.Cause.TheVariants as causes
use Rattle.script_text.specs.declared.commands.Command.TheVariants as commands
use Rattle.script_text.specs.declared.commands.Line.{Line}
use Rattle.script_text.specs.declared.commands.Line.TheVariants as lines
use Rattle.script_text.specs.declared.commands.NumberedLine.{NumberedLine}
use Rattle.script_text.specs.declared.counts.Counts.{Counts}

abbrev pub says_round : Line → Bool
says_round lines.Round = true
says_round _ = false

abbrev pub says_thread : Line → Bool
says_thread lines.Thread = true
says_thread _ = false

abbrev pub says_lock : Line → Bool
says_lock (lines.Runs commands.Lock) = true
says_lock _ = false

abbrev pub says_unlock : Line → Bool
says_unlock (lines.Runs commands.Unlock) = true
says_unlock _ = false

abbrev pub says_walk : Line → Bool
says_walk (lines.Runs commands.Walk) = true
says_walk _ = false

-- a line that begins a thread ends the one before it
abbrev pub says_next : Line → Bool
says_next lines.Round = true
says_next lines.Thread = true
says_next _ = false

abbrev pub is_round : NumberedLine → Bool
is_round l = says_round l.line

abbrev pub is_thread : NumberedLine → Bool
is_thread l = says_thread l.line

abbrev pub is_next : NumberedLine → Bool
is_next l = says_next l.line

---- Behind lines

abbrev pub locks : List NumberedLine → ℕ
locks before = count_by (λ l. says_lock l.line) (behind_last is_next before)

abbrev pub unlocks : List NumberedLine → ℕ
unlocks before = count_by (λ l. says_unlock l.line) (behind_last is_next before)

-- the `lock` lines of the thread so far, less its `unlock` lines
abbrev pub depth : List NumberedLine → ℕ
depth before = locks before - unlocks before

-- how many threads the round has so far
abbrev pub threads : List NumberedLine → ℕ
threads before = length (cut_before is_thread (behind_last is_round before))

abbrev pub walks : List NumberedLine → ℕ
walks before = count_by (λ l. says_walk l.line) before

-- an `unlock` at depth 0, or the end of a thread at another
abbrev pub is_unbalanced : ℕ → Line → Bool
is_unbalanced depth lines.Round = not (depth == 0)
is_unbalanced depth lines.Thread = not (depth == 0)
is_unbalanced depth (lines.Runs commands.Unlock) = depth == 0
is_unbalanced depth (lines.Runs _) = false

abbrev pub cause_at : (depth threads walks : ℕ) → Line → Option Cause
cause_at depth threads walks line =
    if is_unbalanced depth line then Some causes.Unbalanced
    else if says_thread line && nat_le 64 threads then Some causes.TooManyThreads
    else if says_walk line && nat_le 16 walks then Some causes.TooManyWalks
    else None

-- why a line may not stand behind these
abbrev pub cause_behind : List NumberedLine → Line → Option Cause
cause_behind before line = cause_at (depth before) (threads before) (walks before) line

-- counts that were kept line by line are those of the lines
pub record AreCounted (counts : Counts) (before : List NumberedLine) : Type 0 where
  pub depth : counts.depth + unlocks before ≡ locks before
  pub threads : counts.threads ≡ threads before
  pub walks : counts.walks ≡ walks before
