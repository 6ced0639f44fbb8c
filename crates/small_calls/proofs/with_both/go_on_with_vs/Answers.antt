use Rattle.std.proofs.Common.{◌≡◌, ℕ, Some, sym, ap, ◌∙◌, subst}
use Rattle.heap_model.specs.Buckets.{bucket_of}
use Rattle.small_calls.specs.declared.no_room.BehindNoSpan.TheVariants as no_span
use Rattle.small_calls.proofs.Found.{is_bucket}
use Rattle.small_calls.proofs.GoneBehind.{gone_with, goes_behind, tables_with, as_course_with, of_course_with}
use Rattle.small_calls.proofs.with_both.go_on_with_vs.Goals as goal

pub new-course-requires : goal.new-course-requires
new-course-requires c = is_bucket c.args.n c.args.bucket c.requires.bucket

pub try_with_vs-requires-clause-bucket : goal.try_with_vs-requires-clause-bucket
try_with_vs-requires-clause-bucket c = subst (λ (b : ℕ). bucket_of c.args.n ≡ Some b) (sym c.new-course.ensures.bucket) c.requires.bucket

pub try_with_vs-requires-clause-spent : goal.try_with_vs-requires-clause-spent
try_with_vs-requires-clause-spent c =
    let x = c.requires.spent in
    (x.0, as_course_with x.0 c.args.c.now c.args.vs c.new-course.result c.args.bucket c.args.draw.value c.args.lost c.args.n c.args.zero c.new-course.ensures.bucket (ap (λ x. x.value) c.new-course.ensures.draw) x.1)

pub returns-in-Busy-clause-gone : goal.returns-in-Busy-clause-gone
returns-in-Busy-clause-gone c first x =
    let y = as_course_with first c.args.c.now c.args.vs c.new-course.result c.args.bucket c.args.draw.value c.args.lost c.args.n c.args.zero c.new-course.ensures.bucket (ap (λ x. x.value) c.new-course.ensures.draw) x in
    of_course_with first c.try_with_vs.new.c c.new-course.result c.args.bucket c.args.draw.value c.args.lost c.args.n c.args.zero (no_span.Busy c.in-Busy.busy) c.new-course.ensures.bucket (ap (λ x. x.value) c.new-course.ensures.draw) (c.in-Busy.ensures.tries first y)

pub returns-in-Placed-clause-gone : goal.returns-in-Placed-clause-gone
returns-in-Placed-clause-gone c first x = c.in-Placed.ensures.tries first (as_course_with first c.args.c.now c.args.vs c.new-course.result c.args.bucket c.args.draw.value c.args.lost c.args.n c.args.zero c.new-course.ensures.bucket (ap (λ x. x.value) c.new-course.ensures.draw) x)

pub search_with_both-requires-clause-table : goal.search_with_both-requires-clause-table
search_with_both-requires-clause-table c =
    let x = c.requires.spent in
    let y = as_course_with x.0 c.args.c.now c.args.vs c.new-course.result c.args.bucket c.args.draw.value c.args.lost c.args.n c.args.zero c.new-course.ensures.bucket (ap (λ x. x.value) c.new-course.ensures.draw) x.1 in
    let d = tables_with x.0 c.args.c.now c.try_with_vs.new.c c.args.vs c.in-NoRoom.back c.new-course.result c.args.lost c.in-NoRoom.lost c.args.n c.args.zero y (c.in-NoRoom.ensures.tries x.0 y).none in
    (d.0 ∙ c.requires.table.0, d.1 ∙ c.requires.table.1)

pub search_with_both-requires-clause-bucket : goal.search_with_both-requires-clause-bucket
search_with_both-requires-clause-bucket c = subst (λ (b : ℕ). bucket_of c.args.n ≡ Some b) (sym c.new-course.ensures.bucket) c.requires.bucket

pub search_with_both-requires-clause-no_room : goal.search_with_both-requires-clause-no_room
search_with_both-requires-clause-no_room c =
    let x = c.requires.spent in
    let y = as_course_with x.0 c.args.c.now c.args.vs c.new-course.result c.args.bucket c.args.draw.value c.args.lost c.args.n c.args.zero c.new-course.ensures.bucket (ap (λ x. x.value) c.new-course.ensures.draw) x.1 in
    (c.args.c.now, c.args.lost, (c.in-NoRoom.ensures.tries x.0 y).none)

pub search_with_both-requires-clause-vs : goal.search_with_both-requires-clause-vs
search_with_both-requires-clause-vs c =
    let x = c.requires.spent in
    let y = as_course_with x.0 c.args.c.now c.args.vs c.new-course.result c.args.bucket c.args.draw.value c.args.lost c.args.n c.args.zero c.new-course.ensures.bucket (ap (λ x. x.value) c.new-course.ensures.draw) x.1 in
    (c.in-NoRoom.ensures.tries x.0 y).keeps

pub returns-in-NoRoom-clause-gone : goal.returns-in-NoRoom-clause-gone
returns-in-NoRoom-clause-gone c first x =
    let y = as_course_with first c.args.c.now c.args.vs c.new-course.result c.args.bucket c.args.draw.value c.args.lost c.args.n c.args.zero c.new-course.ensures.bucket (ap (λ x. x.value) c.new-course.ensures.draw) x in
    let w = (c.in-NoRoom.ensures.tries first y).none in
    of_course_with first c.search_with_both.new.c c.new-course.result c.args.bucket c.args.draw.value c.args.lost c.args.n c.args.zero c.search_with_both.result c.new-course.ensures.bucket (ap (λ x. x.value) c.new-course.ensures.draw)
    (gone_with first c.args.c.now c.try_with_vs.new.c c.args.vs c.in-NoRoom.back c.new-course.result c.args.lost c.in-NoRoom.lost c.args.n c.args.zero y w c.search_with_both.new.c c.search_with_both.result (c.search_with_both.ensures c.args.c.now c.args.lost w))

pub returns-in-NoRoom-clause-goes : goal.returns-in-NoRoom-clause-goes
returns-in-NoRoom-clause-goes c =
    let x = c.requires.spent in
    let y = as_course_with x.0 c.args.c.now c.args.vs c.new-course.result c.args.bucket c.args.draw.value c.args.lost c.args.n c.args.zero c.new-course.ensures.bucket (ap (λ x. x.value) c.new-course.ensures.draw) x.1 in
    let w = (c.in-NoRoom.ensures.tries x.0 y).none in
    goes_behind x.0 c.args.c.now c.try_with_vs.new.c c.args.vs c.in-NoRoom.back c.new-course.result c.args.lost c.in-NoRoom.lost c.args.n c.args.zero y w c.search_with_both.new.c c.search_with_both.result (c.search_with_both.ensures c.args.c.now c.args.lost w)
