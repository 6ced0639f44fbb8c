use Rattle.std.proofs.Common.{◌≡◌, ℕ, ◌∙◌, sym, subst, ap, arith}
use Rattle.heap_model.specs.Limits.{AreValid}
use Rattle.heap_model.specs.declared.Opening.{Opening}
use Rattle.data_words.specs.Clears.{IsCleared}
use Rattle.data_words.proofs.Clearing.{cleared_more}
use Rattle.data_words.proofs.clear.Goals as goal

-- the limits are small
pub overflow_add-word : goal.overflow_add-word
overflow_add-word g c =
    let v = subst AreValid (c.limits-bounds.ensures.limits ∙ ap (λ (o : Opening). o.limits) (sym c.requires.table.1)) c.limits-bounds.ensures.valid in
    let s = v.segments in let l = v.large_pages in let r = c.requires.there in omega arith

pub loop-i-preserved : goal.loop-i-preserved
loop-i-preserved g c =
    let i = c.loop-i.invariant in let b = c.loop-i.c in let d = c.store.new.c in
    record {
      cleared = cleared_more c.args.c.now b d c.args.word c.loop-i.i i.cleared c.store.ensures.runs c.store.ensures.stands;
      table = c.store.ensures.runs.does.table ∙ i.table;
      opening = c.store.ensures.runs.does.opening ∙ i.opening;
      whole = c.store.ensures.stands.whole;
      inside = c.store.ensures.stands.inside ∙ i.inside;
    }

pub returns : goal.returns
returns g c =
    let i = c.loop-i.i in let end : i ≡ c.args.n = omega (arith, c.loop-i.auto.i-end, c.loop-i-test.false) in
    subst (λ (k : ℕ). IsCleared c.args.c.now c.loop-i.c c.args.word k) end c.loop-i.invariant.cleared
