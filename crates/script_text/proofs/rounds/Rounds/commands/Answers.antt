use Rattle.std.proofs.Common.{◌+◌, ◌∙◌, List, get_or, length, ap, sym, arith}
use Rattle.script_text.specs.declared.commands.CommandLine.{CommandLine}
use Rattle.script_text.specs.declared.rounds.ThreadMark.{ThreadMark}
use Rattle.script_text.specs.Flat.{threads_by}
use Rattle.script_text.specs.Scripts.{no_thread}
use Rattle.script_text.specs.ThreadLines.{ThreadLines}
use Rattle.script_text.proofs.FlatLemmas.{round_within, thread_found}
use Rattle.script_text.proofs.rounds.Rounds.commands.Goals as goal

pub index-requires : goal.index-requires
index-requires c =
    let within = round_within c.self.inside.rounds.items (threads_by c.self.inside.threads.items c.self.inside.commands.items) c.args.self.now c.args.round c.self.view_is c.requires.round in
    omega (arith, within)

pub overflow_add-at : goal.overflow_add-at
overflow_add-at c =
    let h = (thread_found c.self.inside.rounds.items c.self.inside.threads.items c.self.inside.commands.items c.args.self.now c.args.round c.args.thread c.index.result.now c.self.invariant c.self.view_is c.requires.round c.index.ensures c.requires.thread).0 in
    omega (arith, h, ap length c.as_slice-threads.ensures.value)

pub commands_at-requires-clause-within : goal.commands_at-requires-clause-within
commands_at-requires-clause-within c =
    let h = (thread_found c.self.inside.rounds.items c.self.inside.threads.items c.self.inside.commands.items c.args.self.now c.args.round c.args.thread c.index.result.now c.self.invariant c.self.view_is c.requires.round c.index.ensures c.requires.thread).0 in
    omega (arith, h, ap length c.as_slice-threads.ensures.value)

pub returns : goal.returns
returns c =
    let at = c.index.result.now + c.args.thread in
    let h = (thread_found c.self.inside.rounds.items c.self.inside.threads.items c.self.inside.commands.items c.args.self.now c.args.round c.args.thread c.index.result.now c.self.invariant c.self.view_is c.requires.round c.index.ensures c.requires.thread).1 in
    c.commands_at.ensures
    ∙ ap (λ (ts : List ThreadMark). (get_or (threads_by ts c.as_slice.result.now) at no_thread).commands) c.as_slice-threads.ensures.value
    ∙ ap (λ (cs : List CommandLine). (get_or (threads_by c.self.inside.threads.items cs) at no_thread).commands) c.as_slice.ensures.value
    ∙ sym (ap (λ (t : ThreadLines). t.commands) h)
