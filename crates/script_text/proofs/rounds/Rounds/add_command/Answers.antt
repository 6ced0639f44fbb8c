use Rattle.std.proofs.Common.{◌<◌, List, [], length, ap, sym, subst, ◌∙◌}
use Rattle.std.proofs.lemmas.Bool.{eqb-true}
use Rattle.script_text.specs.Flat.{last_round}
use Rattle.script_text.specs.Grown.{change_last, thread_with, thread_from}
use Rattle.script_text.specs.ThreadLines.{ThreadLines}
use Rattle.script_text.proofs.FlatLemmas.{first_command_in, has_thread}
use Rattle.script_text.proofs.rounds.Rounds.add_command.Goals as goal

pub push-requires : goal.push-requires
push-requires c =
    subst (λ (rounds : List (List ThreadLines)). 0 < length (last_round rounds)) (sym c.in_ok-open_thread.ensures) (has_thread c.args.line.line c.args.self.now c.requires)

pub returns-then-lacks_thread : goal.returns-then-lacks_thread
returns-then-lacks_thread c =
    let none = eqb-true (length (last_round c.args.self.now)) 0 (sym c.lacks_thread.ensures ∙ c.if-lacks_thread.true) in
    c.in_ok-push.ensures
    ∙ ap (change_last (change_last (thread_with c.args.line) (thread_from c.args.line)) []) c.in_ok-open_thread.ensures
    ∙ first_command_in c.args.line c.args.self.now none c.requires
