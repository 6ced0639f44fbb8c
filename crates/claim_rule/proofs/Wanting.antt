-- Where a tag may be 0 over a subsegment: who made it, and the owner of the heap lock.
use Rattle.std.proofs.Common.{◌≡◌, ◌⊎◌, ℕ, ◌+◌, Bool, true, false, List, [], ◌∷◌, Option, Some, None, refl, sym, ap, ◌∙◌, inl, inr, ⊎_elim, eqb, eq-eqb, subst, arith}
use Rattle.std.specs.Prelude.{is_some, unwrap_or, option_map}
use Rattle.std.specs.List.{find, list_any}
use Rattle.std.proofs.lemmas.Bool.{cases_Bool, both_ways, eqb-true, false≢true, or_left, or_right}
use Rattle.heap_model.specs.declared.What.TheVariants as whats
use Rattle.heap_model.specs.Agreement.{GateIsSound}
use Rattle.heap_model.specs.Backend.{in_span}
use Rattle.heap_model.specs.State.{Span, is_caller, is_entered, holds}
use Rattle.heap_model.specs.CallState.{Configuration}
use Rattle.heap_model.specs.Search.{begins_at}
use Rattle.claim_rule.specs.declared.views.Owed.{Owed}
use Rattle.claim_rule.specs.Shown.{lfh_spans, owed_or, tag_of, tag_word, HasMaker, MayWantTag, TagShown}
use Rattle.claim_rule.proofs.Quiet.{SameShown}

-- where a span is found, one begins where it does
found_begins : (t : Span → Bool) (xs : List Span) (x : Span) → find t xs ≡ Some x → list_any (begins_at x.first) xs ≡ true
found_begins t [] x e = absurd (let z : ⊥ = cc in z)
found_begins t (y ∷ ys) x e = elim (cases_Bool (t y)) [
  | inl f ↦
      let g : Some y ≡ Some x = (rw f at e) in
      let same : y ≡ x = cc in
      or_left (eqb y.first x.first) _ (eq-eqb y.first x.first (ap (λ (z : Span). z.first) same))
  | inr f ↦ or_right (eqb y.first x.first) _ (found_begins t ys x (rw f at e))
]

-- in a step by which the heap lock loses no owner, or that comes while Back is free
abbrev pub KeepsOwner : Configuration → Configuration → Type 0
KeepsOwner m n = (is_some n.state.gate.owner ≡ true → is_some m.state.gate.owner ≡ true) ⊎ (n.state.gate.locks.back ≡ None)

module _ (m n : Configuration) (r : SameShown m n) (owned : KeepsOwner m n) where
  makers_kept : (page : ℕ) → HasMaker n.state.back.area n.now.span_history page → HasMaker m.state.back.area m.now.span_history page
  makers_kept page h x e =
      let f : find (in_span page) (lfh_spans n.state.back.area) ≡ Some x = sym (ap (find (in_span page)) r.spans) ∙ e in
      ap is_some (r.makers x.first (found_begins (in_span page) (lfh_spans n.state.back.area) x f)) ∙ h x f

  -- .. the tags are as they were
  pub tag_same : (owes : List Owed) (page word : ℕ) → (n.state.gate.locks.back ≡ None → owes ≡ []) → TagShown n owes page word → TagShown m owes page word
  tag_same owes page word paid k =
      let same = ap (λ (xs : List Span). tag_word xs page) r.spans in (
        k.0 ∙ ap (owed_or owes (2182 + page)) (sym same),
        ⊎_elim
            (λ (z : word ≡ tag_word (lfh_spans n.state.back.area) page). inl (z ∙ sym same))
            (λ (z : (word ≡ 0) × MayWantTag n page). ⊎_elim
            (λ (keep : is_some n.state.gate.owner ≡ true → is_some m.state.gate.owner ≡ true). inr (
              z.0,
              ⊎_elim (λ (own : is_some n.state.gate.owner ≡ true). inl (keep own)) (λ (h : HasMaker n.state.back.area n.now.span_history page). inr (makers_kept page h)) z.1,
            ))
            (λ (free : n.state.gate.locks.back ≡ None). inl (k.0 ∙ (ap (λ (ws : List Owed). owed_or ws (2182 + page) (tag_word (lfh_spans n.state.back.area) page)) (paid free) ∙ sym same)))
            owned)
            k.1,
      )

-- beside the owner of the heap lock nobody holds Back
pub free_beside : (m : Configuration) (n : ℕ) → GateIsSound m.state.gate → is_caller n m.state.gate.owner ≡ true → holds m.state.gate n whats.Back ≡ false → m.state.gate.locks.back ≡ None
free_beside m n g own none_held = by m.state.gate.locks.back refl
  where
    one_owner : (w : Option ℕ) (d : ℕ) → is_caller n w ≡ true → is_caller d w ≡ true → d ≡ n
    one_owner None d a b = absurd (false≢true a)
    one_owner (Some c) d a b = sym (eqb-true c d b) ∙ eqb-true c n a

    by : (w : Option ℕ) → m.state.gate.locks.back ≡ w → m.state.gate.locks.back ≡ None
    by None e = e
    by (Some d) e =
        let same : d ≡ n = elim (cases_Bool (is_caller d m.state.gate.owner)) [
          | inl u ↦ one_owner m.state.gate.owner d own u
          | inr u ↦ g.alone n d own (g.inside d whats.Back (ap (is_caller d) e ∙ eq-eqb d d refl) u)
        ] in
        absurd (both_ways (holds m.state.gate n whats.Back) none_held (ap (is_caller n) e ∙ eq-eqb d n same))

-- .. so where it has one, nobody inside but a holder of Back finds Back held
pub free_inside : (m : Configuration) (n : ℕ) → GateIsSound m.state.gate → is_entered m.state.gate n ≡ true → holds m.state.gate n whats.Back ≡ false → is_some m.state.gate.owner ≡ true → m.state.gate.locks.back ≡ None
free_inside m n g inside none_held own = by m.state.gate.owner refl own
  where
    by : (w : Option ℕ) → m.state.gate.owner ≡ w → is_some w ≡ true → m.state.gate.locks.back ≡ None
    by None e o = absurd (false≢true o)
    by (Some d) e o =
        let is : is_caller d m.state.gate.owner ≡ true = ap (is_caller d) e ∙ eq-eqb d d refl in
        free_beside m n g (subst (λ (k : ℕ). is_caller k m.state.gate.owner ≡ true) (sym (g.alone d n is inside)) is) none_held

-- a tag of the state that is 0 is that of no subsegment
pub none_wanted : (m : Configuration) (page : ℕ) → tag_word (lfh_spans m.state.back.area) page ≡ 0 → HasMaker m.state.back.area m.now.span_history page
none_wanted m page e x f =
    let z : tag_of x ≡ 0 = sym (ap (λ (o : Option Span). unwrap_or (option_map tag_of o) 0) f) ∙ e in
    absurd (omega arith)

-- whom a caller inside that does not hold Back finds to be the reason of a 0
pub maker_inside : (m : Configuration) (n : ℕ) (owes : List Owed) (page word : ℕ) → GateIsSound m.state.gate → (m.state.gate.locks.back ≡ None → word ≡ tag_word (lfh_spans m.state.back.area) page)
    → TagShown m owes page word → word ≡ 0 → is_entered m.state.gate n ≡ true → holds m.state.gate n whats.Back ≡ false → HasMaker m.state.back.area m.now.span_history page
maker_inside m n owes page word g exact k e inside none_held = ⊎_elim
    (λ (z : word ≡ tag_word (lfh_spans m.state.back.area) page). none_wanted m page (sym z ∙ e))
    (λ (z : (word ≡ 0) × MayWantTag m page). ⊎_elim
    (λ (own : is_some m.state.gate.owner ≡ true). none_wanted m page (sym (exact (free_inside m n g inside none_held own)) ∙ e))
    (λ (h : HasMaker m.state.back.area m.now.span_history page). h) z.1)
    k.1
