use Rattle.std.proofs.Common.{◌∙◌}
use Rattle.stay_calls.proofs.Behind.{tried_behind}
use Rattle.stay_calls.proofs.Nowhere.{none_prepared}
use Rattle.stay_calls.proofs.stay.try_stay.Goals as goal

pub stay_found-requires-clause-table : goal.stay_found-requires-clause-table
stay_found-requires-clause-table c = let g = c.in-Ok.ensures.looks.added.goes in (g.table ∙ c.requires.table.0, g.opening ∙ c.requires.table.1)

pub stay_found-requires-clause-call : goal.stay_found-requires-clause-call
stay_found-requires-clause-call c = c.in-Ok.ensures.looks.added.steady.call ∙ c.requires.serving.call_is

pub returns-in-Ok : goal.returns-in-Ok
returns-in-Ok c =
    let b = c.look_up.new.c in
    tried_behind c.args.c.now b c.stay_found.new.c c.in-Ok.ensures.looks c.requires.serving.prepared (none_prepared b c.args.addr c.in-Ok.found c.in-Ok.ensures.found) c.args.addr c.args.n c.args.flags c.stay_found.result c.stay_found.ensures
