-- What a back end that took pages stands for.
use Rattle.std.proofs.Common.{◌≡◌, ℕ, ◌+◌, ◌*◌, ◌-◌, ◌≤◌, List, [], ◌∷◌, length, Option, Some, None, ap, ◌∙◌, subst, arith, ltb, inl, inr}
use Rattle.std.specs.List.{AllByRecursion}
use Rattle.std.proofs.lemmas.Bool.{cases_Bool}
use Rattle.heap_model.specs.declared.Limits.{Limits}
use Rattle.heap_model.specs.declared.Run.{Run}
use Rattle.page_ranges.specs.Words.{runs_of}
use Rattle.page_ranges.specs.Ranges.{AreRuns}
use Rattle.page_ranges.specs.Spans.{is_of_span, taken_runs}
use Rattle.page_ranges.proofs.Runs.{runs_le}
use Rattle.backend_fit.specs.Sound.{IsSound}
use Rattle.std.specs.Prelude.{IfSome, IfNone}
use Rattle.heap_model.specs.declared.Mark.{Mark}
use Rattle.heap_model.specs.Geometry.{pages_of}
use Rattle.heap_model.specs.Backend.{back_place}
use Rattle.heap_model.specs.Marks.{back_mark}
use Rattle.backend_fit.specs.Effects.{marked_run, insert_run, part_with}
use Rattle.backend_fit.specs.Kept.{Kept, area_of, spans_of, Becomes}
use Rattle.paged_calls.specs.Blocks.{Carves}

pub if_some : {A : Type 0} (P : A → Type 0) (o : Option A) → IfSome o P → (x : A) → o ≡ Some x → P x
if_some P (Some y) h x e = let same : y ≡ x = cc in subst P same h
if_some P None h x e = absurd (let bad : ⊥ = cc in bad)

pub if_none : {A : Type 0} (P : Type 0) (o : Option A) → IfNone o P → o ≡ None → P
if_none P (Some y) h e = absurd (let bad : ⊥ = cc in bad)
if_none P None h e = h

-- each run that is a span ends within the pages
ends : (words : List ℕ) (from to : ℕ) (rs : List Run) → AreRuns words from to rs → AllByRecursion (λ (r : Run). r.first + r.pages ≤ to) (taken_runs rs)
ends words from to [] a = tt
ends words from to (r ∷ rs) a =
    let rest = ends words (from + r.pages) to rs a.2 in
    let behind = runs_le words (from + r.pages) to rs a.2 in
    elim (cases_Bool (is_of_span r.mark.kind)) [ inl e ↦ rw e (omega (arith, a.0, behind), rest) | inr e ↦ rw e rest ]

inserted : (P : Run → Type 0) (x : Run) (ys : List Run) → AllByRecursion P (insert_run x ys) → P x
inserted P x [] h = h.0
inserted P x (y ∷ ys) h = elim (cases_Bool (ltb x.first y.first)) [
  | inl e ↦ let k = rw e at h in k.0
  | inr e ↦ let k = rw e at h in inserted P x ys k.1
]

pub carved : (old new : Kept) (n pages : ℕ) (m : Mark) (first : Option ℕ) → pages ≡ pages_of n → m ≡ back_mark (4096 * pages - n) → first ≡ back_place (area_of old) old.limits.segments pages
    → IfNone first (new ≡ old) → IfSome first (λ page. Becomes old new (λ b. part_with b (marked_run page pages m))) → IfSome first (λ page. spans_of new ≡ insert_run (marked_run page pages m) (spans_of old))
    → new.limits ≡ old.limits → IsSound new → Carves old new n first
carved old new n pages m first p mk place none some spans limits sound = record {
  place = place ∙ ap (back_place (area_of old) old.limits.segments) p;
  taken = λ page e. subst (λ (x : ℕ × Mark). Becomes old new (λ b. part_with b (marked_run page x.0 x.1))) (λ i. (p i, (mk ∙ ap (λ (k : ℕ). back_mark (4096 * k - n)) p) i)) (if_some (λ (k : ℕ). Becomes old new (λ b. part_with b (marked_run k pages m))) first some page e);
  within = λ page e.
      let s = if_some (λ (k : ℕ). spans_of new ≡ insert_run (marked_run k pages m) (spans_of old)) first spans page e in
      let all = ends new.words 0 (length new.words) (runs_of new.words) sound.whole in
      let one = inserted (λ (r : Run). r.first + r.pages ≤ length new.words) (marked_run page pages m) (spans_of old) (subst (AllByRecursion (λ (r : Run). r.first + r.pages ≤ length new.words)) s all) in
      let many = sound.pages in let same = sound.segments in let l = ap (λ (x : Limits). x.segments) limits in
      omega (arith, one, many, same, l, p);
  none = λ e. if_none (new ≡ old) first none e;
}
