-- The pages of a run that a back end has just taken. (These lemmas are also in the crate of the heap of one caller, on which this one does not stand.)
use Rattle.std.proofs.Common.{◌≡◌, ◌⊎◌, ℕ, ◌+◌, ◌-◌, ◌*◌, ◌/◌, ◌%◌, ◌<◌, ◌≤◌, Bool, true, List, [], ◌∷◌, map, length, refl, sym, ap, subst, arith, ltb, inl, inr}
use Rattle.std.specs.Prelude.{filter}
use Rattle.std.specs.List.{AllByRecursion}
use Rattle.std.proofs.lemmas.Bool.{cases_lt, cases_Bool, and_parts, leb-true}
use Rattle.heap_model.specs.declared.Kind.TheVariants as kinds
use Rattle.heap_model.specs.declared.Run.{Run}
use Rattle.heap_model.specs.Marks.{vs_mark}
use Rattle.heap_model.specs.State.{Span}
use Rattle.heap_model.specs.Ranges.{vs_spans, is_of_kind}
use Rattle.heap_soundness.specs.Sound.{IsOneOf}
use Rattle.heap_soundness.proofs.Lists.{all_at}
use Rattle.heap_soundness.proofs.GapRuns.{filtered_cases}
use Rattle.page_ranges.specs.Words.{runs_of}
use Rattle.page_ranges.specs.Ranges.{AreRuns}
use Rattle.page_ranges.specs.Spans.{span_of, is_of_span, is_usable_in, IsUsed, AreRising}
use Rattle.page_ranges.proofs.Blocks.{taken_rise}
use Rattle.backend_fit.specs.Kept.{Kept, area_of}
use Rattle.backend_fit.specs.Pages.{taken_in}
use Rattle.backend_fit.specs.Effects.{marked_run, insert_run}
use Rattle.backend_fit.specs.Sound.{IsSound}
use Rattle.backend_fit.proofs.OfKind.{run_apart}
use Rattle.vs_split.specs.Chunks.{Chunks}
use Rattle.vs_split.specs.Tiles.{AreSpanPages}
use Rattle.vs_layer.specs.Kept.{VsKept}
use Rattle.vs_layer.specs.Effects.{LieApart}

abbrev pub vs_run : ℕ → ℕ → Run
vs_run first pages = marked_run first pages vs_mark

made_run : (x : Run) (xs : List Run) → IsOneOf x (insert_run x xs)
made_run x [] = inl refl
made_run x (y ∷ ys) = elim (cases_Bool (ltb x.first y.first)) [ inl e ↦ rw e (inl refl) | inr e ↦ rw e (inr (made_run x ys)) ]

-- a run that lies apart from others lies apart from the spans of a kind among them
spans_apart : (t : Span → Bool) (first pages : ℕ) (rs : List Run) → AllByRecursion (λ (q : Run). (q.first + q.pages ≤ first) ⊎ (first + pages ≤ q.first)) rs → AllByRecursion (LieApart first pages) (filter t (map span_of rs))
spans_apart t first pages [] a = tt
spans_apart t first pages (r ∷ rs) a = elim (cases_Bool (t (span_of r))) [
  | inl e ↦ rw e (a.0, spans_apart t first pages rs a.1)
  | inr e ↦ rw e (spans_apart t first pages rs a.1)
]

ends_inside : (words : List ℕ) (from to : ℕ) (rs : List Run) (r : Run) → AreRuns words from to rs → IsOneOf r rs → r.first + r.pages ≤ to
ends_inside words from to [] r a i = absurd i
ends_inside words from to (q ∷ qs) r a (inl e) = let k = goes_on words (from + q.pages) to qs a.2 in omega (arith, ap (λ (x : Run). x.first + x.pages) e, a.0, k)
  where
    goes_on : (words : List ℕ) (from to : ℕ) (rs : List Run) → AreRuns words from to rs → from ≤ to
    goes_on words from to [] a = rw a (omega arith)
    goes_on words from to (r ∷ rs) a = let k = goes_on words (from + r.pages) to rs a.2 in omega arith
ends_inside words from to (q ∷ qs) r a (inr i) = ends_inside words (from + q.pages) to qs r a.2 i

-- pages behind the headers of segments lie in one segment
one_segment_of : (reserved first pages : ℕ) → pages ≤ 256 → ((k : ℕ) → k < pages → is_usable_in reserved (first + k) ≡ true) → first % 256 + pages ≤ 256
one_segment_of reserved first pages few u = elim (cases_lt 256 (first % 256 + pages)) [
  | inr l ↦ l
  | inl l ↦
      let there = u (256 - first % 256) (omega arith) in
      let two = leb-true 2 ((first + (256 - first % 256)) % 256) (and_parts (ltb ((first + (256 - first % 256)) / 256) reserved) _ there).1 in
      absurd (omega arith)
]

module _ (old new : Kept) (first pages : ℕ) (sound : IsSound new) (runs : taken_in new.words ≡ insert_run (vs_run first pages) (taken_in old.words)) where
  there : IsOneOf (vs_run first pages) (runs_of new.words)
  there = (filtered_cases (λ q. is_of_span q.mark.kind) (vs_run first pages) (runs_of new.words) (subst (IsOneOf (vs_run first pages)) (sym runs) (made_run (vs_run first pages) (taken_in old.words)))).0

  used : (k : ℕ) → k < pages → is_usable_in (area_of new).reserved (first + k) ≡ true
  used k l = all_at (IsUsed (area_of new).reserved) (vs_run first pages) (runs_of new.words) sound.used there k l

  pub span_pages : (v : Chunks) → length v.heads ≡ 65536 * old.limits.segments → new.limits.segments ≡ old.limits.segments → 16 ≤ pages → pages ≤ 33 → AreSpanPages v first pages
  span_pages v g s least most =
      let front = leb-true 2 ((first + 0) % 256) (and_parts (ltb ((first + 0) / 256) (area_of new).reserved) _ (used 0 (omega arith))).1 in
      let end = ends_inside new.words 0 (length new.words) (runs_of new.words) (vs_run first pages) sound.whole there in
      let all = sound.pages in
      record {
        least = least;
        most = most;
        usable = omega arith;
        one_segment = one_segment_of (area_of new).reserved first pages (omega arith) used;
        there = omega (arith, end, all, g, s);
      }

  pub lies_apart : (vs : VsKept) → vs_spans (area_of old) ≡ vs.spans → AllByRecursion (LieApart first pages) vs.spans
  lies_apart vs same =
      subst (AllByRecursion (LieApart first pages)) same
      (spans_apart (is_of_kind kinds.Vs) first pages (taken_in old.words) (run_apart (vs_run first pages) 0 (taken_in old.words) (subst (AreRising 0) runs (taken_rise new.words sound.whole))))
