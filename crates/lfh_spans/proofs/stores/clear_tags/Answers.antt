use Rattle.std.proofs.Common.{◌≡◌, ◌∙◌, ℕ, suc, ◌+◌, [], sym, subst, ap, arith}
use Rattle.heap_model.specs.Limits.{AreValid}
use Rattle.heap_model.specs.declared.Opening.{Opening}
use Rattle.claim_rule.specs.Places.{tag_at}
use Rattle.span_steps.specs.Installs.{owed_tags}
use Rattle.span_steps.specs.Stores.{owed_zero}
use Rattle.data_words.proofs.Copying.{runs_then, none}
use Rattle.lfh_spans.proofs.Joined.{stands_owing}
use Rattle.lfh_spans.proofs.stores.clear_tags.Goals as goal

-- the limits are small
pub overflow_add-at : goal.overflow_add-at
overflow_add-at g c =
    let v = subst AreValid (c.limits-bounds.ensures.limits ∙ ap (λ (o : Opening). o.limits) (sym c.requires.table.1)) c.limits-bounds.ensures.valid in
    let s = v.segments in let r = c.requires.few in let l = c.loop-cleared-test.true in omega arith

pub loop-cleared-preserved : goal.loop-cleared-preserved
loop-cleared-preserved g c =
    let i = c.loop-cleared.invariant in let a = c.args.c.now in let b = c.loop-cleared.c in let d = c.clear_tag.new.c in
    let at = c.args.at in let cleared = c.loop-cleared.cleared in
    let one_more : cleared + 1 ≡ suc cleared = omega arith in
    record {
      runs = runs_then a b d [] [] none i.runs c.clear_tag.ensures.runs;
      stands = stands_owing a b d (owed_zero (tag_at (at.head + cleared)) b.owes) i.stands c.clear_tag.ensures.stands;
      owes = c.clear_tag.ensures.stands.owes ∙ (ap (owed_zero (tag_at (at.head + cleared))) i.owes ∙ sym (ap (λ (n : ℕ). owed_tags at.head n a.owes) one_more));
    }
