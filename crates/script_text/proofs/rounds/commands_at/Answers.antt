use Rattle.std.proofs.Common.{ℕ, ◌-◌, take, drop, get_or, ◌∙◌, ap, sym}
use Rattle.std.proofs.lemmas.List.{get_or_default}
use Rattle.script_text.specs.declared.rounds.ThreadMark.{ThreadMark}
use Rattle.script_text.specs.Scripts.{no_thread}
use Rattle.script_text.specs.ThreadLines.{ThreadLines}
use Rattle.script_text.proofs.FlatLemmas.{mark_read, mark_up}
use Rattle.script_text.proofs.rounds.commands_at.Goals as goal

pub part-requires-clause-up : goal.part-requires-clause-up
part-requires-clause-up c =
    let m : ThreadMark = get_or c.args.threads.now c.args.at (record { line = 0; first = 0 }) in
    let read = get_or_default c.args.threads.now c.args.at (record { line = 0; first = 0 }) m c.requires.within in
    (mark_up c.args.threads.now c.args.commands.now c.args.at m c.end_of_thread.result c.requires.marks.rise c.requires.within read c.end_of_thread.ensures).0

pub part-requires-clause-within : goal.part-requires-clause-within
part-requires-clause-within c =
    let m : ThreadMark = get_or c.args.threads.now c.args.at (record { line = 0; first = 0 }) in
    let read = get_or_default c.args.threads.now c.args.at (record { line = 0; first = 0 }) m c.requires.within in
    (mark_up c.args.threads.now c.args.commands.now c.args.at m c.end_of_thread.result c.requires.marks.rise c.requires.within read c.end_of_thread.ensures).1

pub returns : goal.returns
returns c =
    let m : ThreadMark = get_or c.args.threads.now c.args.at (record { line = 0; first = 0 }) in
    let read = get_or_default c.args.threads.now c.args.at (record { line = 0; first = 0 }) m c.requires.within in
    c.part.ensures
    ∙ ap (λ (n : ℕ). take (n - m.first) (drop m.first c.args.commands.now)) c.end_of_thread.ensures
    ∙ sym (ap (λ (t : ThreadLines). t.commands) (mark_read c.args.threads.now c.args.commands.now c.args.at m no_thread c.requires.within read))
