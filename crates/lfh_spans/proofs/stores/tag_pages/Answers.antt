use Rattle.std.proofs.Common.{◌≡◌, ◌∙◌, ℕ, suc, ◌+◌, ◌-◌, ◌*◌, [], sym, subst, ap, arith}
use Rattle.heap_model.specs.Limits.{AreValid}
use Rattle.heap_model.specs.declared.Opening.{Opening}
use Rattle.claim_rule.specs.Places.{tag_at}
use Rattle.span_steps.specs.Stores.{paid_off}
use Rattle.data_words.proofs.Copying.{runs_then, none}
use Rattle.lfh_spans.specs.Stores.{paid_tags}
use Rattle.lfh_spans.proofs.Joined.{stands_owing, has_back_by, tags_still}
use Rattle.lfh_spans.proofs.stores.tag_pages.Goals as goal

-- the limits are small
pub overflow_add-page : goal.overflow_add-page
overflow_add-page g c =
    let v = subst AreValid (c.limits-bounds.ensures.limits ∙ ap (λ (o : Opening). o.limits) (sym c.requires.table.1)) c.limits-bounds.ensures.valid in
    let s = v.segments in let r = c.requires.few.0 in let l = c.loop-done-test.true in omega arith

pub put_tag-requires-clause-tag : goal.put_tag-requires-clause-tag
put_tag-requires-clause-tag g c = λ s q page low high.
    let at = c.args.at in let l = c.loop-done-test.true in
    let b = c.from.ensures in let t = c.from-2.ensures in let f = c.from-3.ensures in
    let e : 1 + 256 * at.bucket + 65536 * at.slot + 4294967296 * at.head ≡ 1 + 256 * c.from.result + 65536 * c.from-2.result + 4294967296 * c.from-3.result = omega arith in
    tags_still c.args.c.now c.loop-done.c c.loop-done.invariant.runs (has_back_by c.args.c.now c.check.ensures.stands c.requires.held) at.head at.pages (1 + 256 * at.bucket + 65536 * at.slot + 4294967296 * at.head) c.requires.tags s q page (omega arith) (omega arith) ∙ e

pub loop-done-preserved : goal.loop-done-preserved
loop-done-preserved g c =
    let i = c.loop-done.invariant in let a = c.args.c.now in let b = c.loop-done.c in let d = c.put_tag.new.c in
    let at = c.args.at in let done = c.loop-done.done in let l = c.loop-done-test.true in
    let k = at.pages - 1 - done in
    let now_left : at.pages - (done + 1) ≡ k = omega arith in
    let was_left : at.pages - done ≡ suc k = omega arith in
    record {
      runs = runs_then a b d [] [] none i.runs c.put_tag.ensures.runs;
      stands = stands_owing a b d (paid_off (tag_at (at.head + k)) b.owes) i.stands c.put_tag.ensures.stands;
      owes = ap (λ (n : ℕ). paid_tags at.head n d.owes) now_left
          ∙ (ap (paid_tags at.head k) c.put_tag.ensures.stands.owes ∙ (sym (ap (λ (n : ℕ). paid_tags at.head n b.owes) was_left) ∙ i.owes));
    }
