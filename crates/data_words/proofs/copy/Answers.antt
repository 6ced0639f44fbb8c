use Rattle.std.proofs.Common.{◌∙◌, ℕ, ◌+◌, [], ◌∷◌, ◌++◌, length, sym, subst, ap, arith}
use Rattle.std.proofs.lemmas.List.{length_push}
use Rattle.heap_model.specs.Limits.{AreValid}
use Rattle.heap_model.specs.declared.Opening.{Opening}
use Rattle.heap_gate.specs.Calls.{Runs}
use Rattle.data_words.proofs.Copying.{one, loaded_and_stored, copied_more, stands_then}
use Rattle.data_words.proofs.copy.Goals as goal

-- the limits are small
pub overflow_add-from : goal.overflow_add-from
overflow_add-from g c =
    let v = subst AreValid (c.limits-bounds.ensures.limits ∙ ap (λ (o : Opening). o.limits) (sym c.requires.table.1)) c.limits-bounds.ensures.valid in
    let s = v.segments in let l = v.large_pages in let r = c.requires.source in omega arith

pub overflow_add-to : goal.overflow_add-to
overflow_add-to g c =
    let v = subst AreValid (c.limits-bounds.ensures.limits ∙ ap (λ (o : Opening). o.limits) (sym c.requires.table.1)) c.limits-bounds.ensures.valid in
    let s = v.segments in let l = v.large_pages in let r = c.requires.target in omega arith

pub loop-k-preserved : goal.loop-k-preserved
loop-k-preserved g c =
    let i = c.loop-k.invariant in let a = c.args.c.now in let b = c.loop-k.c in let d = c.load-value.new.c in let e = c.store.new.c in let v = c.load-value.result in let k = c.loop-k.k in
    let from = c.args.from in let to = c.args.to in
    let both : Runs b e (one b.number (from + k) (to + k) v) = loaded_and_stored b d e (from + k) (to + k) v c.load-value.ensures.runs c.store.ensures.runs in
    let here : Runs b e (one b.number (from + length i.values) (to + length i.values) v) = subst (λ (j : ℕ). Runs b e (one b.number (from + j) (to + j) v)) (sym i.many) both in
    let s = stands_then b d e c.load-value.ensures.stands c.store.ensures.stands in
    record {
      values = i.values ++ v ∷ [];
      many = length_push i.values v ∙ ap (λ (j : ℕ). j + 1) i.many;
      copied = copied_more a b e from to v i.values i.copied here s;
      table = both.does.table ∙ i.table;
      opening = both.does.opening ∙ i.opening;
      whole = s.whole;
      inside = s.inside ∙ i.inside;
    }
