use Rattle.std.proofs.Common.{map, string_bytes, sym, subst}
use Rattle.mode_run.specs.Due.{AreForThreads}
use Rattle.command_run.proofs.TopLemmas.{for_threads, alone_of, alone_end}
use Rattle.command_run.proofs.top.run_as_set.Goals as goal

pub run_threads-requires-after_bounds : goal.run_threads-requires-after_bounds
run_threads-requires-after_bounds g c κs within =
    subst AreForThreads (sym c.limits.ensures) (for_threads (map string_bytes c.args.words.now) c.args.setting.now (record { sets = c.requires; threads = c.in-Run.is }))

pub returns-in-One : goal.returns-in-One
returns-in-One g c =
    alone_end _ _ _ _ _ _ _ _ _ _ c.run_one.result.status c.args.setting.now (record { sets = c.requires; alone = alone_of c.args.setting.now.mode c.in-One.is }) c.run_one.ensures.ends
