use Rattle.std.proofs.Common.{◌≡◌, take}
use Rattle.std.specs.Prelude.{flat_map}
use Rattle.round_runs.specs.Turns.{news_of}
use Rattle.round_runs.proofs.turns.all_news.Given as goal

abbrev pub invariant-loop-w : goal.invariant-loop-w
invariant-loop-w l = l.news.items ≡ flat_map news_of (take l.w-index l.workers)
