-- The search of a call that has to place a block of an active bucket may begin.
use Rattle.std.proofs.Common.{◌≡◌, ℕ, Bool, true, Some, refl, sym, ap, ◌∙◌, subst}
use Rattle.heap_model.specs.CallState.{not_begun}
use Rattle.heap_model.specs.Search.{draw_of, searched}
use Rattle.heap_gate.specs.Token.{Token, Always, now, IsStanding}
use Rattle.backend_fit.specs.Kept.{Kept}
use Rattle.lfh_claims.specs.Search.{own_slot}
use Rattle.lfh_spans.specs.Subsegments.{IsBackOf}
use Rattle.lfh_search.specs.declared.course.Course.{Course}
use Rattle.lfh_search.specs.Results.{Searches}
use Rattle.lfh_search.specs.Both.{IsAtStart}
use Rattle.move_front.specs.Front.{IsToPlace}
use Rattle.move_front.proofs.Activated.{has_call}

searched_active : (active : ℕ → Bool) (b : ℕ) → active b ≡ true → searched active (Some b) ≡ Some b
searched_active active b e = rw e refl

module _ (c : Token) (back : Kept) (b : ℕ) (h : IsToPlace c b) (st : IsStanding c) (is : IsBackOf c back) where
  searching : (d : ℕ) → Always c (λ s. (now s c).state.vs.active b ≡ true) → Always c (λ s. s.slot c.number ≡ own_slot c) → Always c (λ s. d ≡ draw_of s c.number ((now s c).now.calls c.number).searches) → Searches (record c { drawn = true }) b d not_begun
  searching d active slot draw s q = record {
    begun = has_call c st h.inside s q;
    inside = (st s q).entered ∙ h.inside;
    seeks = ap (searched (now s c).state.vs.active) (h.seeks s q) ∙ searched_active (now s c).state.vs.active b (active s q);
    slot = slot s q;
    draw = sym (draw s q);
    old = h.old s q;
    search = h.search s q;
  }

  pub at_start : (course : Course) → course.bucket ≡ b → Always c (λ s. (now s c).state.vs.active b ≡ true) → Always c (λ s. s.slot c.number ≡ own_slot c) → Always c (λ s. course.draw.value ≡ draw_of s c.number ((now s c).now.calls c.number).searches)
      → IsAtStart (record c { drawn = true }) back course
  at_start course e active slot draw = record {
    searching = subst (λ (x : ℕ). Searches (record c { drawn = true }) x course.draw.value not_begun) (sym e) (searching course.draw.value active slot draw);
    back_is = is;
    out = h.back_out;
    paid = h.owes;
    first = h.no_span;
  }
