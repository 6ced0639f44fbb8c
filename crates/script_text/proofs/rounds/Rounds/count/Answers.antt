use Rattle.std.proofs.Common.{length, ap, arith}
use Rattle.script_text.specs.Flat.{threads_by}
use Rattle.script_text.proofs.FlatLemmas.{rounds_length}
use Rattle.script_text.proofs.rounds.Rounds.count.Goals as goal

pub returns : goal.returns
returns c =
    let same = ap length c.self.view_is in
    omega (arith, c.len.ensures, same, rounds_length c.self.inside.rounds.items (threads_by c.self.inside.threads.items c.self.inside.commands.items))
