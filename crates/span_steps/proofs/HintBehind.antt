-- What the holder of Back goes by when a subsegment goes back: the hint behind the Unspan, by the hint before it and by the subsegments that are left; and its
-- tags, cleared from the first page on, which are owed no more then.
use Rattle.std.proofs.Common.{◌≡◌, ℕ, zero, suc, ◌+◌, ◌*◌, ◌≤◌, Bool, true, false, not, ◌&&◌, List, [], ◌∷◌, Option, Some, None, refl, sym, ap, ◌∙◌, arith, inl, inr, eqb}
use Rattle.std.specs.Prelude.{unwrap_or, filter, nat_lt, nat_le, if◌then◌else◌}
use Rattle.std.specs.List.{find}
use Rattle.std.proofs.lemmas.Bool.{cases_Bool, and_from, le-leb, lt-ltb, or_right, eqb-true, eqb-false}
use Rattle.heap_model.specs.declared.Act.TheVariants as acts
use Rattle.heap_model.specs.State.{Setting, Span, remove_found}
use Rattle.heap_model.specs.CallState.{Configuration}
use Rattle.heap_model.specs.Search.{spans_of, is_span_of, begins_at, first_of, hint_or}
use Rattle.heap_model.specs.Stay.{is_some_of}
use Rattle.heap_model.specs.Legal.{after}
use Rattle.heap_soundness.proofs.Lists.{found_passes}
use Rattle.claim_rule.specs.declared.views.Owed.{Owed}
use Rattle.claim_rule.specs.Shown.{hint_word}
use Rattle.claim_rule.specs.Entries.{entry}
use Rattle.span_steps.specs.Installs.{owed_tags}
use Rattle.span_steps.specs.Retires.{is_of_span, owed_by_retire}

-- the lowest stays, where another is removed
lowest_kept : (t p : Span → Bool) (xs : List Span) → ((z : Span) → find p xs ≡ Some z → z.first ≡ unwrap_or (first_of (filter t xs)) 0 → ⊥) → first_of (filter t (remove_found p xs)) ≡ first_of (filter t xs)
lowest_kept t p [] h = refl
lowest_kept t p (x ∷ xs) h = elim (cases_Bool (p x)) [
  | inl e ↦ elim (cases_Bool (t x)) [
    | inl g ↦ absurd (h x (rw e refl) (rw g refl))
    | inr g ↦ rw (e, g) refl
  ]
  | inr e ↦ elim (cases_Bool (t x)) [
    | inl g ↦ rw (e, g) refl
    | inr g ↦ rw (e, g) (lowest_kept t p xs (λ z q w. h z (rw e q) (rw g w)))
  ]
]

-- the hint behind the Unspan
pub hint_behind : (s : Setting) (m : Configuration) (n first b t word : ℕ) → word ≡ hint_word m.state.back.area m.now.span_history b t
    → hint_word (after s m (entry n (acts.Unspan first))).state.back.area (after s m (entry n (acts.Unspan first))).now.span_history b t
    ≡ (if eqb word first then unwrap_or (first_of (spans_of (after s m (entry n (acts.Unspan first))).state.back.area b t)) 0 else word)
hint_behind s m n first b t word e = by (m.now.span_history.hints b t) refl e
  where
    rest : List Span
    rest = filter (is_span_of b t) (remove_found (begins_at first) m.state.back.area.spans)

    Behind : Option ℕ → Type 0
    Behind o = unwrap_or (hint_or (if is_some_of o first then None else o) (first_of (filter (is_span_of b t) (remove_found (begins_at first) m.state.back.area.spans)))) 0
        ≡ (if eqb word first then unwrap_or (first_of (filter (is_span_of b t) (remove_found (begins_at first) m.state.back.area.spans))) 0 else word)

    of : (o : Option ℕ) → word ≡ unwrap_or (hint_or o (first_of (spans_of m.state.back.area b t))) 0 → Behind o
    of (Some h) e = elim (cases_Bool (eqb h first)) [
      | inl g ↦ let k : eqb word first ≡ true = ap (λ (z : ℕ). eqb z first) e ∙ g in rw (g, k) refl
      | inr g ↦ let k : eqb word first ≡ false = ap (λ (z : ℕ). eqb z first) e ∙ g in rw (g, k) (sym e)
    ]
    of None e = elim (cases_Bool (eqb word first)) [
      | inl g ↦ rw g refl
      | inr g ↦ rw g (ap (λ (o : Option ℕ). unwrap_or o 0)
          (lowest_kept (is_span_of b t) (begins_at first) m.state.back.area.spans (λ z q w. eqb-false word first g (e ∙ (sym w ∙ eqb-true z.first first (found_passes (begins_at first) m.state.back.area.spans z q)))))
          ∙ sym e)
    ]

    by : (o : Option ℕ) → m.now.span_history.hints b t ≡ o → word ≡ hint_word m.state.back.area m.now.span_history b t → Behind (m.now.span_history.hints b t)
    by o f e = of (m.now.span_history.hints b t) e

-- tags cleared from the first page on are 0 (Made.tags_here); behind the Unspan what is owed is what was owed before they were cleared, but for the hint
pub swept : (b t first pages k : ℕ) (owes : List Owed) → k ≤ pages → owed_by_retire b t first pages (owed_tags first k owes) ≡ owed_by_retire b t first pages owes
swept b t first pages zero owes le = refl
swept b t first pages (suc k) owes le =
    let one : not (is_of_span b t first pages (record { word = 2182 + (first + k); value = 0 })) ≡ false =
    ap not (or_right (eqb (2182 + (first + k)) (118 + 16 * b + t)) (nat_le (2182 + first) (2182 + (first + k)) && nat_lt (2182 + (first + k)) (2182 + (first + pages)))
    (and_from _ _ (le-leb (2182 + first) (2182 + (first + k)) (omega arith)) (lt-ltb (2182 + (first + k)) (2182 + (first + pages)) (omega arith)))) in
    rw one (swept b t first pages k owes (omega arith))

-- so nothing, where nothing was
pub swept_all : (b t first pages : ℕ) → owed_by_retire b t first pages (owed_tags first pages []) ≡ []
swept_all b t first pages = swept b t first pages pages [] (omega arith)
