use Rattle.std.proofs.Common.{List, [], ◌<◌, length, ◌∙◌, ap, sym, subst, arith}
use Rattle.script_text.specs.declared.commands.Line.TheVariants as lines
use Rattle.script_text.specs.declared.rounds.ThreadMark.{ThreadMark}
use Rattle.script_text.specs.Flat.{threads_by, rounds_by, AreFlat}
use Rattle.script_text.specs.Grown.{change_last, round_with}
use Rattle.script_text.proofs.FlatLemmas.{rounds_length, thread_opened, thread_flat}
use Rattle.script_text.proofs.rounds.Rounds.open_thread.Goals as goal

some : (c : goal.In_ok-push) → 0 < length c.self.inside.rounds.items
some c =
    let rs = c.self.inside.rounds.items in
    let ts = threads_by c.self.inside.threads.items c.self.inside.commands.items in
    let same = ap length c.self.view_is in
    omega (arith, same, rounds_length rs ts, c.requires)

pub returns : goal.returns
returns c =
    let rs = c.self.inside.rounds.items in
    let ts = c.self.inside.threads.items in
    let cs = c.self.inside.commands.items in
    let t : ThreadMark = record { line = c.args.line; first = c.len-first.result } in
    ap (λ (more : List ThreadMark). rounds_by rs (threads_by more cs)) c.in_ok-push.ensures.items
    ∙ thread_opened rs ts cs t (omega (arith, c.len-first.ensures)) (some c) c.self.invariant
    ∙ ap (change_last (round_with c.args.line lines.Thread) []) c.self.view_is

pub invariant_of-self-2 : goal.invariant_of-self-2
invariant_of-self-2 c =
    let rs = c.self.inside.rounds.items in
    let ts = c.self.inside.threads.items in
    let cs = c.self.inside.commands.items in
    let t : ThreadMark = record { line = c.args.line; first = c.len-first.result } in
    subst (λ (more : List ThreadMark). AreFlat rs more cs) (sym c.in_ok-push.ensures.items) (thread_flat rs ts cs t (omega (arith, c.len-first.ensures)) (some c) c.self.invariant)
