use Rattle.std.proofs.Common.{◌≡◌, ◌+◌, ◌-◌, arith, suc}
use Rattle.page_region.specs.Held.{mark_at}
use Rattle.page_region.proofs.Marks.{count_more}
use Rattle.page_region.proofs.count_marks.Goals as goal
use Rattle.page_region.proofs.count_marks.Goals.{then-marks-page, else-marks-page}

pub loop-page-preserved : goal.loop-page-preserved
loop-page-preserved c =
    let k = c.loop-page.page - c.args.first in
    let same : c.loop-page.page ≡ c.args.first + k = omega arith in
    let next : c.loop-page.page + 1 - c.args.first ≡ suc k = omega arith in
    let more = count_more (mark_at c.args.marks.now) c.args.first k in
    elim c.if-marks-page.branch [
      | then-marks-page w ↦ rw next (record { count = rw (more, ← same) (grind (arith, c.loop-page.invariant, w.count-is, w.if-marks-page.true)); few = omega arith })
      | else-marks-page w ↦ rw next (record { count = rw (more, ← same) (grind (arith, c.loop-page.invariant, w.count-is, w.if-marks-page.false)); few = omega arith })
    ]
