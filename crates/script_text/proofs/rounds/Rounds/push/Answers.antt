use Rattle.std.proofs.Common.{List, [], ◌<◌, length, ◌∙◌, ap, sym, subst}
use Rattle.script_text.specs.declared.commands.CommandLine.{CommandLine}
use Rattle.script_text.specs.Flat.{threads_by, rounds_by, AreFlat, last_round}
use Rattle.script_text.specs.Grown.{change_last, thread_with, thread_from}
use Rattle.script_text.specs.ThreadLines.{ThreadLines}
use Rattle.script_text.proofs.FlatLemmas.{some_threads, command_pushed, command_flat}
use Rattle.script_text.proofs.rounds.Rounds.push.Goals as goal

some : (c : goal.In_ok-push) → 0 < length (last_round (rounds_by c.self.inside.rounds.items (threads_by c.self.inside.threads.items c.self.inside.commands.items)))
some c = subst (λ (rounds : List (List ThreadLines)). 0 < length (last_round rounds)) (sym c.self.view_is) c.requires

pub returns : goal.returns
returns c =
    let rs = c.self.inside.rounds.items in
    let ts = c.self.inside.threads.items in
    let cs = c.self.inside.commands.items in
    ap (λ (more : List CommandLine). rounds_by rs (threads_by ts more)) c.in_ok-push.ensures.items
    ∙ command_pushed rs ts cs c.args.line c.self.invariant (some c)
    ∙ ap (change_last (change_last (thread_with c.args.line) (thread_from c.args.line)) []) c.self.view_is

pub invariant_of-self-2 : goal.invariant_of-self-2
invariant_of-self-2 c =
    let rs = c.self.inside.rounds.items in
    let ts = c.self.inside.threads.items in
    let cs = c.self.inside.commands.items in
    subst (λ (more : List CommandLine). AreFlat rs ts more) (sym c.in_ok-push.ensures.items) (command_flat rs ts cs c.args.line (some_threads rs ts cs c.self.invariant (some c)) c.self.invariant)
