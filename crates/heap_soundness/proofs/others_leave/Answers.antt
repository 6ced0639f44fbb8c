use Rattle.std.proofs.Common.{◌≡◌, ℕ, true, ◌&&◌, not, List, [], ◌∷◌, ap, ◌∙◌, eqb, inl, inr}
use Rattle.std.proofs.lemmas.Bool.{cases_Bool, and_parts, eqb-false}
use Rattle.heap_model.specs.declared.Entry.{Entry}
use Rattle.heap_model.specs.declared.Kind.TheVariants as kinds
use Rattle.heap_model.specs.State.{Setting, IsValidSetting, Span, is_among, is_entered}
use Rattle.heap_model.specs.CallState.{Configuration}
use Rattle.heap_model.specs.Legal.{may_follow, after}
use Rattle.heap_model.specs.History.{configuration_of, configuration_after, may_all_follow, own}
use Rattle.heap_model.proofs.Others.{agrees_others}
use Rattle.heap_soundness.specs.Sound.{IsOneOf}
use Rattle.heap_soundness.specs.Invariant.{Keeps}
use Rattle.heap_soundness.proofs.Kept.{keeps_all, keeps_after}
use Rattle.heap_soundness.proofs.Whole.{step_stable}
use Rattle.heap_soundness.proofs.others_leave.Goals as goal

spans_through : (s : Setting) (m : Configuration) (fs : List Entry) (c : ℕ) → IsValidSetting s → Keeps s m → may_all_follow s m fs ≡ true → own c fs ≡ [] → is_entered m.state.gate c ≡ true →
    (x : Span) → x.kind ≡ kinds.Lfh → IsOneOf x m.state.back.area.spans → IsOneOf x (configuration_after s m fs).state.back.area.spans
spans_through s m [] c g w l o i x k there = there
spans_through s m (e ∷ fs) c g w l o i x k there = elim (cases_Bool (eqb e.caller c)) [
  | inl f ↦ let z : e ∷ own c fs ≡ [] = (rw f at o) in absurd (let no : ⊥ = cc in no)
  | inr f ↦
      let p = and_parts (may_follow s m e) (may_all_follow s (after s m e) fs) l in
      let t = step_stable s m e w p.0 in
      let r = t.others c (eqb-false e.caller c f) in
      let counted = r.counted in
      let turning = r.turning in
      let inside : is_entered (after s m e).state.gate c ≡ is_entered m.state.gate c = both counted turning in
      spans_through s (after s m e) fs c g (keeps_after s m e g p.0 w) p.1 (rw f at o) (inside ∙ i) x k (t.lfh c i x k there)
]
  where
    both : is_among c (after s m e).state.gate.counted ≡ is_among c m.state.gate.counted → is_among c (after s m e).state.gate.turning ≡ is_among c m.state.gate.turning → is_entered (after s m e).state.gate c ≡ is_entered m.state.gate c
    both a b = ap (λ x. x && not (is_among c (after s m e).state.gate.turning)) a ∙ ap (λ x. is_among c m.state.gate.counted && not x) b

pub returns : goal.returns
returns c = λ s es fs d valid legal more o.
    let w = keeps_all s es valid legal in
    (agrees_others s (configuration_of s es) d fs o more w.gate, λ i x k there. spans_through s (configuration_of s es) fs d valid w more o i x k there)
