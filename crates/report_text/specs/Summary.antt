-- The text of a summary: how many commands there were, how many were refused and why, and what was left.
use Rattle.std.specs.Prelude.{ℕ, Bool, true, false, List, ◌++◌, codes, decimal, length, sum_by, count_by}
use Rattle.heap_model.specs.declared.Reply.{Reply}
use Rattle.heap_model.specs.declared.Reply.TheVariants as replies
use Rattle.heap_model.specs.declared.Block.{Block}
use Rattle.script_text.specs.declared.commands.Command.{Command}
use Rattle.report_text.specs.Report.{last_line}

abbrev pub is_no_fit : Reply → Bool
is_no_fit replies.NoFit = true
is_no_fit _ = false

abbrev pub is_not_live : Reply → Bool
is_not_live replies.NotLive = true
is_not_live _ = false

abbrev pub is_past : Reply → Bool
is_past (replies.Past words) = true
is_past _ = false

-- how many replies pass, of all threads of all rounds
abbrev pub replies_that : (Reply → Bool) → List (List (List Reply)) → ℕ
replies_that passes answers = sum_by (λ round. sum_by (count_by passes) round) answers

-- how many commands the threads of a round have
abbrev pub commands_of_round : List (List Command) → ℕ
commands_of_round threads = sum_by length threads

-- .. and those of all rounds
abbrev pub commands_in : List (List (List Command)) → ℕ
commands_in script = sum_by commands_of_round script

abbrev pub count_line : List ℕ → ℕ → List ℕ
count_line word n = word ++ decimal n ++ codes "\n"

-- the summary of a script's replies, and of the blocks that they left
abbrev pub summary_of : List (List (List Command)) → List (List (List Reply)) → List Block → List ℕ
summary_of script answers blocks =
    count_line (codes "commands ") (commands_in script)
    ++ count_line (codes "nofit ") (replies_that is_no_fit answers)
    ++ count_line (codes "notlive ") (replies_that is_not_live answers)
    ++ count_line (codes "past ") (replies_that is_past answers)
    ++ last_line blocks
