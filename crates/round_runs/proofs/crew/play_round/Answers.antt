use Rattle.script_text.specs.Scripts.{round_at}
use Rattle.round_runs.proofs.Played.{plays}
use Rattle.round_runs.proofs.crew.play_round.Goals as goal

pub returns-clause-plays : goal.returns-clause-plays
returns-clause-plays g c = λ ample roll history earlier at told.
    let x = c.run_round.ensures in
    let y = c.meet_all.ensures in
    plays c.args.heap.now c.args.workers.now c.run_round.new.workers c.meet_all.new.workers (round_at c.args.script.now c.args.round) x.many y.many x.each y.each y.met ample roll history earlier at told
