use Rattle.std.proofs.Common.{◌≡◌, ◌<◌, ◌-◌, List, length, sym, ap, ◌∙◌, arith}
use Rattle.script_text.specs.Flat.{threads_by, last_round}
use Rattle.script_text.specs.ThreadLines.{ThreadLines}
use Rattle.script_text.proofs.MarkLemmas.{rise_at}
use Rattle.script_text.specs.Marks.{own_place}
use Rattle.script_text.proofs.FlatLemmas.{threads_length, rounds_length, rounds_rise, lacking, at_end}
use Rattle.script_text.proofs.rounds.Rounds.lacks_thread.Goals as goal

pub returns : goal.returns
returns c =
    let rs = c.self.inside.rounds.items in
    let ts = c.self.inside.threads.items in
    let cs = c.self.inside.commands.items in
    let threads = threads_by ts cs in
    let same = ap length c.self.view_is in
    let some : 0 < length rs = omega (arith, same, rounds_length rs threads, c.requires) in
    let rise = rounds_rise rs ts cs c.self.invariant in
    let m = c.index.result.now in
    let at = length rs - 1 in
    let up = rise_at own_place 0 rs (length threads) (c.len.result - 1) m rise (omega (arith, c.len.ensures)) c.index.ensures in
    let k = lacking rs threads 0 (c.len.result - 1) m rise some (omega (arith, c.len.ensures)) c.index.ensures in
    let there = threads_length ts cs in
    let n : c.len-2.result ≡ length threads = omega (arith, c.len-2.ensures) in
    let a = up.0 in
    let b = up.1 in
    let l : length (last_round c.args.self.now) ≡ length threads - m = ap (λ (rounds : List (List ThreadLines)). length (last_round rounds)) (sym c.self.view_is) ∙ k in
    at_end m c.len-2.result (length (last_round c.args.self.now)) (omega arith) (omega arith)
