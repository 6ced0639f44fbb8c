use Rattle.std.proofs.Common.{◌+◌, ◌∙◌, List, get_or, length, ap, sym, arith}
use Rattle.script_text.specs.declared.rounds.ThreadMark.{ThreadMark}
use Rattle.script_text.specs.Flat.{threads_by}
use Rattle.script_text.specs.ThreadLines.{ThreadLines}
use Rattle.script_text.proofs.FlatLemmas.{round_within, thread_found, line_read}
use Rattle.script_text.proofs.rounds.Rounds.line.Goals as goal

pub index-requires : goal.index-requires
index-requires c =
    let within = round_within c.self.inside.rounds.items (threads_by c.self.inside.threads.items c.self.inside.commands.items) c.args.self.now c.args.round c.self.view_is c.requires.round in
    omega (arith, within)

pub overflow_add-result : goal.overflow_add-result
overflow_add-result c =
    let h = (thread_found c.self.inside.rounds.items c.self.inside.threads.items c.self.inside.commands.items c.args.self.now c.args.round c.args.thread c.index.result.now c.self.invariant c.self.view_is c.requires.round c.index.ensures c.requires.thread).0 in
    omega (arith, h, ap length c.as_slice-threads.ensures.value)

pub bounds-threads-index : goal.bounds-threads-index
bounds-threads-index c =
    let h = (thread_found c.self.inside.rounds.items c.self.inside.threads.items c.self.inside.commands.items c.args.self.now c.args.round c.args.thread c.index.result.now c.self.invariant c.self.view_is c.requires.round c.index.ensures c.requires.thread).0 in
    omega (arith, h, ap length c.as_slice-threads.ensures.value)

pub offset_bounds-threads-index : goal.offset_bounds-threads-index
offset_bounds-threads-index c =
    let h = (thread_found c.self.inside.rounds.items c.self.inside.threads.items c.self.inside.commands.items c.args.self.now c.args.round c.args.thread c.index.result.now c.self.invariant c.self.view_is c.requires.round c.index.ensures c.requires.thread).0 in
    omega (arith, h, ap length c.as_slice-threads.ensures.value, c.as_slice-threads.type_inv.1)

pub returns : goal.returns
returns c =
    let at = c.index.result.now + c.args.thread in
    let none : ThreadMark = record { line = 0; first = 0 } in
    let h = thread_found c.self.inside.rounds.items c.self.inside.threads.items c.self.inside.commands.items c.args.self.now c.args.round c.args.thread c.index.result.now c.self.invariant c.self.view_is c.requires.round c.index.ensures c.requires.thread in
    ap (λ (ts : List ThreadMark). (get_or ts at none).line) c.as_slice-threads.ensures.value
    ∙ line_read c.self.inside.threads.items c.self.inside.commands.items at none h.0
    ∙ sym (ap (λ (t : ThreadLines). t.line) h.1)
