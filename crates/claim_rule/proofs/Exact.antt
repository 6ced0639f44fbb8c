-- Where tags and hints are right: a hint of 0, and all words while nobody holds Back.
use Rattle.std.proofs.Common.{◌≡◌, ℕ, ◌+◌, ◌*◌, true, false, List, [], ◌∷◌, Option, Some, None, refl, sym, ap, ◌∙◌, subst, inl, inr, ⊎_elim, eqb, eq-eqb}
use Rattle.std.specs.Prelude.{unwrap_or}
use Rattle.std.specs.List.{list_any}
use Rattle.std.proofs.lemmas.Bool.{both_ways, or_left}
use Rattle.heap_model.specs.State.{Span}
use Rattle.heap_model.specs.Search.{spans_of, begins_at, first_of, hint_or}
use Rattle.claim_rule.specs.declared.views.Owed.{Owed}
use Rattle.claim_rule.specs.Shown.{owed_or, lfh_spans, tag_word, hint_word, is_head, are_made_by, MayBeOld}
use Rattle.claim_rule.specs.Laws.{ZeroHintLaw, FreeWordsLaw}

-- a hint of 0
pub zero_hint : ZeroHintLaw
zero_hint m owes b t heads none_at_zero k = ⊎_elim
    (λ (z : 0 ≡ hint_word m.state.back.area m.now.span_history b t). inl (by (m.now.span_history.hints b t) refl z))
    (λ (w : MayBeOld m b t 0). ⊎_elim
    (λ (z : (0 ≡ 0) × (are_made_by m.state.back.area m.now.span_history w.0 b t ≡ true)). inr (w.0, w.1, z.1))
    (λ (z : is_head m.state.back.area b t 0 ≡ true). absurd (both_ways (is_head m.state.back.area b t 0) none_at_zero z)) w.2)
    k.1
  where
    lowest : (xs : List Span) → list_any (begins_at 0) xs ≡ false → 0 ≡ unwrap_or (first_of xs) 0 → xs ≡ []
    lowest [] h z = refl
    lowest (x ∷ xs) h z = absurd (both_ways (list_any (begins_at 0) (x ∷ xs)) h (or_left (eqb x.first 0) _ (eq-eqb x.first 0 (sym z))))

    by : (o : Option ℕ) → m.now.span_history.hints b t ≡ o → 0 ≡ unwrap_or (hint_or o (first_of (spans_of m.state.back.area b t))) 0 → spans_of m.state.back.area b t ≡ []
    by None e z = lowest (spans_of m.state.back.area b t) none_at_zero z
    by (Some f) e z = absurd (both_ways (is_head m.state.back.area b t 0) none_at_zero (subst (λ (x : ℕ). is_head m.state.back.area b t x ≡ true) (sym z) (heads b t f e)))

-- all words while Back is free
pub free_words : FreeWordsLaw
free_words l made m owes words h free =
    let paid : owes ≡ [] = h.lfh.paid free in
    record {
      tags = λ page lt. (h.lfh.tags page lt).0 ∙ ap (λ (ws : List Owed). owed_or ws (2182 + page) (tag_word (lfh_spans m.state.back.area) page)) paid;
      hints = λ b t low high few. (h.lfh.hints b t low high few).0 ∙ ap (λ (ws : List Owed). owed_or ws (118 + 16 * b + t) (hint_word m.state.back.area m.now.span_history b t)) paid;
    }
