-- The commands of one thread more, and of one round more.
use Rattle.std.proofs.Common.{◌≡◌, ℕ, ◌+◌, ◌<◌, List, [], length, take, get_or, ap, sym, ◌∙◌, subst}
use Rattle.std.proofs.lemmas.List.{length-map, get_or-map}
use Rattle.std.proofs.lemmas.List.Sums.{sum_by_more}
use Rattle.script_text.specs.ThreadLines.{ThreadLines, ScriptLines}
use Rattle.script_text.specs.Scripts.{command_of, commands_of, round_at, no_thread}
use Rattle.report_text.specs.Commands.{thread_commands, round_commands}
use Rattle.report_text.specs.Summary.{commands_of_round, commands_in}

pub thread_counted : (threads : List ThreadLines) (i : ℕ) → i < length threads
    → commands_of_round (take (i + 1) (round_commands threads)) ≡ commands_of_round (take i (round_commands threads)) + length (get_or threads i no_thread).commands
thread_counted threads i l =
    let within : i < length (round_commands threads) = subst (λ (n : ℕ). i < n) (sym (length-map threads thread_commands)) l in
    sum_by_more length (round_commands threads) i [] within
    ∙ ap (λ (n : ℕ). commands_of_round (take i (round_commands threads)) + n)
    (ap length (get_or-map thread_commands threads i no_thread [] l) ∙ length-map (get_or threads i no_thread).commands command_of)

pub round_counted : (s : ScriptLines) (i : ℕ) → i < length s.rounds
    → commands_in (take (i + 1) (commands_of s)) ≡ commands_in (take i (commands_of s)) + commands_of_round (round_commands (round_at s i))
round_counted s i l =
    let within : i < length (commands_of s) = subst (λ (n : ℕ). i < n) (sym (length-map s.rounds round_commands)) l in
    sum_by_more commands_of_round (commands_of s) i [] within
    ∙ ap (λ (n : ℕ). commands_in (take i (commands_of s)) + n) (ap commands_of_round (get_or-map round_commands s.rounds i [] [] l))
