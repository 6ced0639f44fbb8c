use Rattle.std.proofs.Common.{map, string_bytes}
use Rattle.command_run.proofs.WordLemmas.{for_one}
use Rattle.command_run.proofs.due.due.Goals as goal

pub due_alone-requires-clause-one : goal.due_alone-requires-clause-one
due_alone-requires-clause-one g c =
    let set = rw c.in-Some.is at c.in_ok-setting.ensures.set in
    for_one (map string_bytes c.args.words.now) c.in-Some.setting set
