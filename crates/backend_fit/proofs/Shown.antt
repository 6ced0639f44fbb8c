-- A run that `run_at` answers is a span of the area.
use Rattle.std.proofs.Common.{◌≡◌, ℕ, Bool, true, false, inl, inr, refl, sym, subst, List, [], ◌∷◌, Some, None, IsSome, eqb, cond}
use Rattle.std.proofs.lemmas.Bool.{cases_Bool, eq-eqb}
use Rattle.std.specs.List.{find}
use Rattle.heap_model.specs.declared.Run.{Run}
use Rattle.heap_model.specs.Search.{begins_at}
use Rattle.page_ranges.specs.Ranges.{has_page}
use Rattle.page_ranges.specs.Spans.{is_of_span, spans_in}

pub span_starts : (first : ℕ) (rs : List Run) (r : Run) → find (has_page first) rs ≡ Some r → r.first ≡ first → is_of_span r.mark.kind ≡ true → IsSome (find (begins_at first) (spans_in rs))
span_starts first [] r f e k = absurd (let no : ⊥ = cc in no)
span_starts first (q ∷ qs) r f e k = elim (cases_Bool (has_page first q)) [
  | inl t ↦ here (rw t at f)
  | inr t ↦ there (span_starts first qs r (rw t at f) e k)
]
  where
    here : Some q ≡ Some r → IsSome (find (begins_at first) (spans_in (q ∷ qs)))
    here g =
        let same : r ≡ q = cc in
        let s : is_of_span q.mark.kind ≡ true = subst (λ (w : Run). is_of_span w.mark.kind ≡ true) same k in
        let b : eqb q.first first ≡ true = subst (λ (w : Run). eqb w.first first ≡ true) same (eq-eqb r.first first e) in
        rw (s, b) refl

    there : IsSome (find (begins_at first) (spans_in qs)) → IsSome (find (begins_at first) (spans_in (q ∷ qs)))
    there again =
        elim (cases_Bool (is_of_span q.mark.kind)) [
          | inl s ↦ elim (cases_Bool (eqb q.first first)) [
            | inl b ↦ rw (s, b) refl
            | inr b ↦ rw (s, b) again
          ]
          | inr s ↦ rw s again
        ]

-- .. where the page may be usable or not
pub shown_starts : (usable : Bool) (first : ℕ) (rs : List Run) (r : Run) → Some r ≡ cond usable (find (has_page first) rs) None → r.first ≡ first → is_of_span r.mark.kind ≡ true → IsSome (find (begins_at first) (spans_in rs))
shown_starts true first rs r f e k = span_starts first rs r (sym f) e k
shown_starts false first rs r f e k = absurd (let no : ⊥ = cc in no)
