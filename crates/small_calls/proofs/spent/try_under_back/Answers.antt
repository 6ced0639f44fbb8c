use Rattle.std.proofs.Common.{[]}
use Rattle.heap_model.specs.declared.Call.TheVariants as calls
use Rattle.small_calls.proofs.BehindHint.{has_spent, back_free, tries}
use Rattle.small_calls.proofs.Late.{late_under}
use Rattle.small_calls.proofs.spent.try_under_back.Goals as goal

pub go_under_back-requires-clause-spent : goal.go_under_back-requires-clause-spent
go_under_back-requires-clause-spent c = let x = c.requires.spent in ([], has_spent x.0 c.args.c.now c.args.n c.args.course.now.bucket c.args.course.now.draw.value c.args.lost c.args.zero x.1)

pub go_under_back-requires-clause-free : goal.go_under_back-requires-clause-free
go_under_back-requires-clause-free c = let x = c.requires.spent in back_free x.0 c.args.c.now c.args.n c.args.course.now.bucket c.args.course.now.draw.value c.args.lost c.args.zero x.1

pub returns-clause-tries : goal.returns-clause-tries
returns-clause-tries c first x =
    let h = has_spent first c.args.c.now c.args.n c.args.course.now.bucket c.args.course.now.draw.value c.args.lost c.args.zero x in
    tries first c.args.c.now c.go_under_back.new.c c.args.course.now c.args.n c.args.lost c.args.zero x c.go_under_back.result (c.go_under_back.ensures [] h)

pub returns-clause-late : goal.returns-clause-late
returns-clause-late c =
    let x = c.requires.spent in
    let h = has_spent x.0 c.args.c.now c.args.n c.args.course.now.bucket c.args.course.now.draw.value c.args.lost c.args.zero x.1 in
    late_under c.args.c.now c.go_under_back.new.c c.args.course.now c.args.lost (calls.Alloc c.args.n h.asking.flags) c.args.n c.args.zero [] c.go_under_back.result (c.go_under_back.ensures [] h)
