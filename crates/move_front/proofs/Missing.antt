-- The front end has no block.
use Rattle.std.proofs.Common.{◌≡◌, ℕ, ◌≤◌, true, false, List, [], ◌∷◌, ◌++◌, length, refl, sym, ap, ◌∙◌, subst, arith, inl, inr}
use Rattle.heap_model.specs.declared.Act.{Act}
use Rattle.heap_model.specs.declared.Act.TheVariants as acts
use Rattle.heap_model.specs.declared.Entry.{Entry}
use Rattle.heap_model.specs.declared.What.TheVariants as whats
use Rattle.heap_model.specs.State.{Setting, holds, hands}
use Rattle.claim_rule.specs.Entries.{IsSettingOf, entry}
use Rattle.backend_fit.specs.Kept.{Kept}
use Rattle.vs_layer.specs.Kept.{VsKept}
use Rattle.heap_gate.specs.Token.{Token, now, IsStanding}
use Rattle.heap_gate.specs.Calls.{Does, with_prepared}
use Rattle.call_parts.specs.Calls.{GoesOn}
use Rattle.call_parts.proofs.Joining.{goes_none, goes_does, goes_prepared, goes_then, setting_before}
use Rattle.lfh_search.specs.declared.course.Course.{Course}
use Rattle.lfh_search.specs.Under.{HasGone}
use Rattle.lfh_search.specs.Both.{IsBeside, HasSearchedInVain}
use Rattle.lfh_search.proofs.Joined.{readings_of}
use Rattle.move_front.specs.Front.{IsActiveNow, AreBefore, HasNoFrontBlock}
use Rattle.move_front.proofs.Kept.{beside_then, beside_of, tells_on}
use Rattle.move_front.proofs.Shown.{same_by, drawing, goes_drawing, before-append, search_before, active_before}

-- where a caller stands that has come from another by readings alone, or not at all
record StandsOn (w d : Token) (its : List Act) : Type 0 where
  pub goes : GoesOn w d its
  pub call : d.call ≡ w.call
  pub fresh : d.fresh ≡ w.fresh
  pub inside : d.inside ≡ w.inside
  pub out : d.out ≡ w.out
  pub owes : d.owes ≡ w.owes
  pub free : d.free ≡ w.free
  pub searched : d.searched ≡ w.searched
  pub drawn : d.drawn ≡ w.drawn
  pub whole : w.whole ≡ true → d.whole ≡ true
  pub pending : w.pending ≡ false → d.pending ≡ false
  pub few : length w.prepared ≤ 1 → length d.prepared ≤ 1

stands_on : (w d : Token) (its : List Act) → HasGone w d its → StandsOn w d its
stands_on w d its (inl p) = subst (λ (z : List Act × Token). StandsOn w z.1 z.0) (λ i. (sym p.0 i, sym p.1 i)) (record {
  goes = goes_none w;
  call = refl;
  fresh = refl;
  inside = refl;
  out = refl;
  owes = refl;
  free = refl;
  searched = refl;
  drawn = refl;
  whole = λ h. h;
  pending = λ h. h;
  few = λ h. h;
})
stands_on w d its (inr p) = record {
  goes = goes_does w d its (subst (Does w d) (same_by w.number its) p.0.does) p.1.depth;
  call = p.1.call;
  fresh = p.1.fresh;
  inside = p.1.inside;
  out = p.1.out;
  owes = p.1.owes;
  free = p.1.free;
  searched = p.1.searched;
  drawn = p.1.drawn;
  whole = λ h. p.1.whole;
  pending = λ h. p.1.pending;
  few = λ h. let none : length d.prepared ≡ 0 = ap length p.1.prepared in omega (arith, none);
}

module _ (c c1 d : Token) (vs : VsKept) (back later : Kept) (course : Course) (x : IsActiveNow c c1 vs course.bucket) (st : IsStanding c1) (y : HasSearchedInVain (drawing c1) d back later course) where
  abbrev said : Token
  said = with_prepared y.behind (acts.NoSpan course.bucket)

  on : StandsOn said d y.again
  on = stands_on said d y.again y.gone

  goes_said : GoesOn c1 y.behind y.its
  goes_said = goes_then c1 (drawing c1) y.behind [] y.its (goes_drawing c1) (goes_does (drawing c1) y.behind y.its (subst (Does (drawing c1) y.behind) (same_by c1.number y.its) y.runs.does) y.stands.depth)

  goes_c1 : GoesOn c1 d (y.its ++ (acts.NoSpan course.bucket ∷ y.again))
  goes_c1 = goes_then c1 y.behind d y.its (acts.NoSpan course.bucket ∷ y.again) goes_said (goes_then y.behind said d (acts.NoSpan course.bucket ∷ []) y.again (goes_prepared y.behind (acts.NoSpan course.bucket)) on.goes)

  before : (s : Setting) → IsSettingOf d.opening d.roll s → IsSettingOf c1.opening c1.roll s
  before s q = setting_before c1 d (y.its ++ (acts.NoSpan course.bucket ∷ y.again)) goes_c1 s q

  number : c1.number ≡ c.number
  number = x.goes.number

  are_said : AreBefore (acts.NoSpan course.bucket ∷ y.again)
  are_said = search_before (acts.NoSpan course.bucket ∷ y.again) (refl, readings_of y.again y.again_are)

  one : length said.prepared ≤ 1
  one = let n : length said.prepared ≡ 1 = ap (λ (l : List Entry). length (l ++ entry y.behind.number (acts.NoSpan course.bucket) ∷ [])) y.stands.prepared in omega (arith, n)

  pub has_none : HasNoFrontBlock c d vs back later course.bucket
  has_none = record {
    its = x.its ++ (y.its ++ (acts.NoSpan course.bucket ∷ y.again));
    are = before-append x.its (y.its ++ (acts.NoSpan course.bucket ∷ y.again)) (active_before course.bucket x.its x.its_are) (before-append y.its (acts.NoSpan course.bucket ∷ y.again) (search_before y.its (readings_of y.its y.are)) are_said);
    goes = goes_then c c1 d x.its (y.its ++ (acts.NoSpan course.bucket ∷ y.again)) x.goes goes_c1;
    stands = record {
      call = on.call ∙ (y.stands.call ∙ x.call);
      fresh = on.fresh ∙ (y.stands.fresh ∙ x.fresh);
      inside = on.inside ∙ (y.stands.inside ∙ x.to_place.inside);
      out = on.out ∙ (y.stands.out ∙ x.out);
      owes = on.owes ∙ (y.stands.owes ∙ x.to_place.owes);
      searched = on.searched ∙ y.stands.searched;
      drawn = on.drawn ∙ y.stands.drawn;
      whole = on.whole refl;
      pending = on.pending y.stands.pending;
      beside = λ s q. beside_then c.number (now s c) (now s c1) (now s d) (x.beside s (before s q)) (beside_of c.number (now s c1) (now s d) (subst (λ (n : ℕ). IsBeside n (now s c1) (now s d)) number (y.beside s q)));
    };
    free = on.free ∙ (y.stands.free ∙ x.free);
    few = on.few one;
    hands = λ s q. subst (λ (n : ℕ). hands (now s d).state n ≡ hands (now s c1).state n) number (y.hands s q) ∙ x.hands s (before s q);
    tells_vs = tells_on c1 d vs goes_c1.opening before (λ s q.
        let h : holds (now s c1).state.gate c1.number whats.Vs ≡ true = (st s (before s q)).locks whats.Vs ∙ x.to_place.vs_out in
        ((y.beside s q).vs h, (y.beside s q).spans h)) x.tells_vs;
    same = y.same;
    back_is = y.back_is;
    cannot = y.cannot;
  }
