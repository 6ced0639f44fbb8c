use Rattle.std.proofs.Common.{◌≡◌, ◌+◌, ◌-◌, ◌<◌, ◌≢◌, arith, length, false, inl, inr, get_or-set_other, get_or-set_same}
use Rattle.std.proofs.lemmas.Bool.{cases_eq}
use Rattle.page_region.specs.Held.{mark_at}
use Rattle.page_region.proofs.Marks.{decommit_same, decommit_other}
use Rattle.page_region.proofs.clear_marks.Goals as goal

pub loop-page-preserved : goal.loop-page-preserved
loop-page-preserved c page =
    let k = c.loop-page.page - c.args.first in
    let same : c.loop-page.page ≡ c.args.first + k = omega arith in
    let next : c.loop-page.page + 1 - c.args.first ≡ k + 1 = omega arith in
    let l : c.loop-page.page < length c.loop-page.marks = omega arith in
    rw next (elim (cases_eq page c.loop-page.page) [
      | inl e ↦ rw (decommit_same (mark_at c.args.marks.now) c.args.first k page (omega arith)) (rw e (get_or-set_same c.loop-page.marks c.loop-page.page false false l))
      | inr n ↦ let ne : page ≢ c.loop-page.page = n in rw (decommit_other (mark_at c.args.marks.now) c.args.first k page (λ e. n (omega arith))) (rw get_or-set_other (c.loop-page.invariant page))
    ])
