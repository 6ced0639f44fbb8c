use Rattle.std.proofs.Common.{◌≡◌, ℕ, Some, sym, ap, ◌∙◌, subst, inl}
use Rattle.heap_model.specs.Buckets.{bucket_of}
use Rattle.small_calls.specs.declared.no_room.BehindNoSpan.TheVariants as no_span
use Rattle.small_calls.proofs.Found.{is_bucket}
use Rattle.small_calls.proofs.GoneBehind.{gone_on, tables, as_course, of_course}
use Rattle.small_calls.proofs.Late.{late_again, late_bucket}
use Rattle.small_calls.proofs.no_room.go_on.Goals as goal

pub new-course-requires : goal.new-course-requires
new-course-requires c = is_bucket c.args.n c.args.bucket c.requires.bucket

pub try_under_back-requires-clause-bucket : goal.try_under_back-requires-clause-bucket
try_under_back-requires-clause-bucket c = subst (λ (b : ℕ). bucket_of c.args.n ≡ Some b) (sym c.new-course.ensures.bucket) c.requires.bucket

pub try_under_back-requires-clause-spent : goal.try_under_back-requires-clause-spent
try_under_back-requires-clause-spent c =
    let x = c.requires.spent in
    (x.0, as_course x.0 c.args.c.now c.new-course.result c.args.bucket c.args.draw.value c.args.lost c.args.n c.args.zero c.new-course.ensures.bucket (ap (λ x. x.value) c.new-course.ensures.draw) x.1)

pub returns-in-Busy-clause-gone : goal.returns-in-Busy-clause-gone
returns-in-Busy-clause-gone c first x =
    let y = as_course first c.args.c.now c.new-course.result c.args.bucket c.args.draw.value c.args.lost c.args.n c.args.zero c.new-course.ensures.bucket (ap (λ x. x.value) c.new-course.ensures.draw) x in
    of_course first c.try_under_back.new.c c.new-course.result c.args.bucket c.args.draw.value c.args.lost c.args.n c.args.zero (no_span.Busy c.in-Busy.busy) c.new-course.ensures.bucket (ap (λ x. x.value) c.new-course.ensures.draw) (λ call is. inl (c.in-Busy.ensures.tries first y call is))

pub returns-in-Placed-clause-gone : goal.returns-in-Placed-clause-gone
returns-in-Placed-clause-gone c first x = c.in-Placed.ensures.tries first (as_course first c.args.c.now c.new-course.result c.args.bucket c.args.draw.value c.args.lost c.args.n c.args.zero c.new-course.ensures.bucket (ap (λ x. x.value) c.new-course.ensures.draw) x)

pub search_with_vs-requires-clause-table : goal.search_with_vs-requires-clause-table
search_with_vs-requires-clause-table c =
    let x = c.requires.spent in
    let y = as_course x.0 c.args.c.now c.new-course.result c.args.bucket c.args.draw.value c.args.lost c.args.n c.args.zero c.new-course.ensures.bucket (ap (λ x. x.value) c.new-course.ensures.draw) x.1 in
    let d = tables x.0 c.args.c.now c.try_under_back.new.c c.in-NoRoom.back c.new-course.result c.args.lost c.in-NoRoom.lost c.args.n c.args.zero y (c.in-NoRoom.ensures.tries x.0 y) in
    (d.0 ∙ c.requires.table.0, d.1 ∙ c.requires.table.1)

pub search_with_vs-requires-clause-bucket : goal.search_with_vs-requires-clause-bucket
search_with_vs-requires-clause-bucket c = subst (λ (b : ℕ). bucket_of c.args.n ≡ Some b) (sym c.new-course.ensures.bucket) c.requires.bucket

pub search_with_vs-requires-clause-no_room : goal.search_with_vs-requires-clause-no_room
search_with_vs-requires-clause-no_room c =
    let x = c.requires.spent in
    let y = as_course x.0 c.args.c.now c.new-course.result c.args.bucket c.args.draw.value c.args.lost c.args.n c.args.zero c.new-course.ensures.bucket (ap (λ x. x.value) c.new-course.ensures.draw) x.1 in
    (c.args.c.now, c.args.lost, c.in-NoRoom.ensures.tries x.0 y)

pub returns-in-NoRoom-clause-gone : goal.returns-in-NoRoom-clause-gone
returns-in-NoRoom-clause-gone c first x =
    let y = as_course first c.args.c.now c.new-course.result c.args.bucket c.args.draw.value c.args.lost c.args.n c.args.zero c.new-course.ensures.bucket (ap (λ x. x.value) c.new-course.ensures.draw) x in
    let w = c.in-NoRoom.ensures.tries first y in
    of_course first c.search_with_vs.new.c c.new-course.result c.args.bucket c.args.draw.value c.args.lost c.args.n c.args.zero c.search_with_vs.result c.new-course.ensures.bucket (ap (λ x. x.value) c.new-course.ensures.draw)
    (gone_on first c.args.c.now c.try_under_back.new.c c.in-NoRoom.back c.new-course.result c.args.lost c.in-NoRoom.lost c.args.n c.args.zero y w c.search_with_vs.new.c c.search_with_vs.result (c.search_with_vs.ensures c.args.c.now c.args.lost w))

pub returns-in-Busy-clause-late : goal.returns-in-Busy-clause-late
returns-in-Busy-clause-late c = late_bucket c.args.c.now c.try_under_back.new.c c.new-course.result.bucket c.args.bucket c.new-course.ensures.bucket c.in-Busy.ensures.late

pub returns-in-Placed-clause-late : goal.returns-in-Placed-clause-late
returns-in-Placed-clause-late c = late_bucket c.args.c.now c.try_under_back.new.c c.new-course.result.bucket c.args.bucket c.new-course.ensures.bucket c.in-Placed.ensures.late

pub returns-in-NoRoom-clause-late : goal.returns-in-NoRoom-clause-late
returns-in-NoRoom-clause-late c =
    let x = c.requires.spent in
    let y = as_course x.0 c.args.c.now c.new-course.result c.args.bucket c.args.draw.value c.args.lost c.args.n c.args.zero c.new-course.ensures.bucket (ap (λ x. x.value) c.new-course.ensures.draw) x.1 in
    let w = c.in-NoRoom.ensures.tries x.0 y in
    late_bucket c.args.c.now c.search_with_vs.new.c c.new-course.result.bucket c.args.bucket c.new-course.ensures.bucket
    (late_again c.args.c.now c.try_under_back.new.c c.search_with_vs.new.c c.in-NoRoom.back c.new-course.result c.args.lost c.in-NoRoom.lost c.args.n c.args.zero w c.search_with_vs.result (c.search_with_vs.ensures c.args.c.now c.args.lost w))
