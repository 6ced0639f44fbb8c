use Rattle.std.proofs.Common.{[], ap, sym, ◌∙◌}
use Rattle.script_text.specs.declared.commands.Line.{Line}
use Rattle.script_text.specs.declared.commands.Line.TheVariants as lines
use Rattle.script_text.specs.Grown.{change_last, round_with, rounds_with}
use Rattle.script_text.proofs.FlatLemmas.{thread_line, command_added}
use Rattle.script_text.proofs.rounds.Rounds.add_line.Goals as goal

pub returns-in_ok-open_thread-in-Thread : goal.returns-in_ok-open_thread-in-Thread
returns-in_ok-open_thread-in-Thread c =
    c.in_ok-open_thread-in-Thread.ensures
    ∙ ap (change_last (round_with c.args.number lines.Thread) []) c.in_ok-have_round-in-Thread.ensures
    ∙ thread_line c.args.self.now c.args.number
    ∙ ap (λ (l : Line). rounds_with c.args.number l c.args.self.now) (sym c.in-Thread.is)

pub returns-in_ok-add_command-in-Runs : goal.returns-in_ok-add_command-in-Runs
returns-in_ok-add_command-in-Runs c =
    c.in_ok-add_command-in-Runs.ensures
    ∙ ap (change_last (round_with c.args.number (lines.Runs c.in-Runs.command)) []) c.in_ok-have_round-in-Runs.ensures
    ∙ command_added c.args.self.now c.args.number c.in-Runs.command
    ∙ ap (λ (l : Line). rounds_with c.args.number l c.args.self.now) (sym c.in-Runs.is)
