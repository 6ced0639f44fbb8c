-- Where a span begins, by the run that `run_at` answers.
use Rattle.std.proofs.Common.{◌≡◌, ℕ, ◌+◌, Bool, true, false, ◌&&◌, ◌<◌, leb, ltb, inl, inr, refl, sym, ap, subst, ◌∙◌, List, [], ◌∷◌, Option, Some, None, IsSome, is_some, eqb, cond, arith}
use Rattle.std.specs.Prelude.{not}
use Rattle.std.proofs.lemmas.Bool.{cases_Bool, and_parts, eq-eqb, eqb-true, ltb-true}
use Rattle.std.specs.List.{AllByRecursion, find}
use Rattle.heap_model.specs.declared.Run.{Run}
use Rattle.heap_model.specs.declared.Kind.TheVariants as kinds
use Rattle.heap_model.specs.State.{Span, is_kind}
use Rattle.heap_model.specs.Backend.{is_usable}
use Rattle.heap_model.specs.Search.{span_at}
use Rattle.page_ranges.specs.Words.{runs_of, run_of_page}
use Rattle.page_ranges.specs.Ranges.{has_page}
use Rattle.page_ranges.specs.Spans.{is_of_span, is_usable_in, IsUsed}
use Rattle.page_ranges.proofs.Runs.{finds_run}
use Rattle.backend_fit.specs.Kept.{Kept, area_of, pages_in}
use Rattle.backend_fit.specs.Sound.{AreSound, IsSound}
use Rattle.backend_fit.proofs.Freed.{span_here, span_run}
use Rattle.backend_fit.proofs.KindLemmas.{span_not_header}
use Rattle.backend_fit.proofs.Shown.{span_starts}

pages_sound : (k : Kept) → IsSound k → AreSound (pages_in k)
pages_sound k s = record { held = s.held; pages = s.pages; whole = s.whole; used = s.used; apart = s.apart }

if_usable : (b : Bool) (o : Option Run) (r : Run) → Some r ≡ cond b o None → o ≡ Some r
if_usable true o r h = sym h
if_usable false o r h = absurd (let z : ⊥ = cc in z)

not_usable : (b : Bool) (o : Option Run) (r : Run) → o ≡ Some r → b ≡ true → None ≡ cond b o None → ⊥
not_usable true o r e t h = let f : None ≡ Some r = h ∙ e in cc
not_usable false o r e t h = cc

all_found : (P : Run → Type 0) (t : Run → Bool) (rs : List Run) (r : Run) → AllByRecursion P rs → find t rs ≡ Some r → P r
all_found P t [] r a f = absurd (let z : ⊥ = cc in z)
all_found P t (x ∷ xs) r a f = elim (cases_Bool (t x)) [
  | inl e ↦ let is : Some x ≡ Some r = rw e at f in let same : x ≡ r = cc in subst P same a.0
  | inr e ↦ all_found P t xs r a.1 (rw e at f)
]

found_passes : (t : Run → Bool) (rs : List Run) (r : Run) → find t rs ≡ Some r → t r ≡ true
found_passes t [] r f = absurd (let z : ⊥ = cc in z)
found_passes t (x ∷ xs) r f = elim (cases_Bool (t x)) [
  | inl e ↦ let is : Some x ≡ Some r = rw e at f in let same : x ≡ r = cc in subst (λ (y : Run). t y ≡ true) same e
  | inr e ↦ found_passes t xs r (rw e at f)
]

pub begins_there : (k : Kept) (page : ℕ) (r : Run) → IsSound k → Some r ≡ cond (is_usable (area_of k) page) (find (has_page page) (runs_of k.words)) None → is_some (span_at (area_of k) page) ≡ eqb r.first page && is_of_span r.mark.kind
begins_there k page r s h = by_span (span_at (area_of k) page) refl
  where
    found : find (has_page page) (runs_of k.words) ≡ Some r
    found = if_usable (is_usable (area_of k) page) (find (has_page page) (runs_of k.words)) r h

    by_span : (o : Option Span) → span_at (area_of k) page ≡ o → is_some o ≡ eqb r.first page && is_of_span r.mark.kind
    by_span (Some x) e =
        let at = span_run (pages_in k) page r x (pages_sound k s) e found in
        let here : eqb r.first page ≡ true = eq-eqb r.first page at.1 in
        let kind : is_of_span r.mark.kind ≡ true = at.0.span in
        rw (here, kind) refl
    by_span None e = elim (cases_Bool (eqb r.first page && is_of_span r.mark.kind)) [
      | inl t ↦
          let both = and_parts (eqb r.first page) (is_of_span r.mark.kind) t in
          let there : IsSome (span_at (area_of k) page) = span_starts page (runs_of k.words) r found (eqb-true r.first page both.0) both.1 in
          absurd (let no : IsSome {T = Span} None = subst (λ (o : Option Span). IsSome o) e there in let z : ⊥ = cc in z)
      | inr t ↦ sym t
    ]

pub begins_nowhere : (k : Kept) (page : ℕ) → IsSound k → None ≡ cond (is_usable (area_of k) page) (find (has_page page) (runs_of k.words)) None → is_some (span_at (area_of k) page) ≡ false
begins_nowhere k page s h = by_span (span_at (area_of k) page) refl
  where
    by_span : (o : Option Span) → span_at (area_of k) page ≡ o → is_some o ≡ false
    by_span None e = refl
    by_span (Some x) e =
        let here = span_here k.words 0 (runs_of k.words) page x s.whole e in
        let r = run_of_page k.words page in
        let found = finds_run k.words page s.whole here.inside in
        let within = and_parts (leb r.first page) (ltb page (r.first + r.pages)) (found_passes (has_page page) (runs_of k.words) r found) in
        let some : 0 < r.pages = omega (arith, here.begins, ltb-true page (r.first + r.pages) within.1) in
        let used : is_usable_in k.region.reserved (r.first + 0) ≡ not (is_kind r.mark.kind kinds.Header) = all_found (IsUsed k.region.reserved) (has_page page) (runs_of k.words) r s.used found 0 some in
        let usable : is_usable_in k.region.reserved page ≡ true = ap (is_usable_in k.region.reserved) (omega (arith, here.begins)) ∙ used ∙ ap not (span_not_header r.mark.kind here.span) in
        absurd (not_usable (is_usable (area_of k) page) (find (has_page page) (runs_of k.words)) r found usable h)
