-- What the caller holds stays.
use Rattle.std.proofs.Common.{◌≡◌, ℕ, refl, sym, ap, ◌∙◌, subst}
use Rattle.std.specs.List.{list_all}
use Rattle.heap_model.specs.declared.Opening.{Opening}
use Rattle.heap_model.specs.declared.What.TheVariants as whats
use Rattle.heap_model.specs.Geometry.{page_bytes}
use Rattle.heap_model.specs.Layers.{StandsForVs, sorted_vs}
use Rattle.heap_model.specs.Legal.{has_place}
use Rattle.heap_model.specs.Ranges.{vs_spans}
use Rattle.heap_model.specs.State.{Setting, VsPart}
use Rattle.heap_model.specs.CallState.{Configuration}
use Rattle.claim_rule.specs.Entries.{IsSettingOf}
use Rattle.vs_layer.specs.Kept.{VsKept}
use Rattle.vs_layer.specs.Standing.{layer_of}
use Rattle.heap_gate.specs.Token.{Token, Always, now}
use Rattle.lfh_search.specs.Both.{IsBeside}
use Rattle.move_front.specs.Front.{TellsVs, IsBesideFront}

pub beside_self : (n : ℕ) (m : Configuration) → IsBesideFront n m m
beside_self n m = record { locks = λ w. refl; vs = λ h. refl; spans = λ h. refl; back = λ h. refl; large = λ h. refl; hand = λ l e. refl }

pub beside_then : (n : ℕ) (l m k : Configuration) → IsBesideFront n l m → IsBesideFront n m k → IsBesideFront n l k
beside_then n l m k x y = record {
  locks = λ w. y.locks w ∙ x.locks w;
  vs = λ h. y.vs (x.locks whats.Vs ∙ h) ∙ x.vs h;
  spans = λ h. y.spans (x.locks whats.Vs ∙ h) ∙ x.spans h;
  back = λ h. y.back (x.locks whats.Back ∙ h) ∙ x.back h;
  large = λ h. y.large (x.locks whats.Large ∙ h) ∙ x.large h;
  hand = λ l e. y.hand l e ∙ x.hand l e;
}

pub beside_of : (n : ℕ) (m k : Configuration) → IsBeside n m k → IsBesideFront n m k
beside_of n m k x = record { locks = x.locks; vs = λ h. ap (λ (v : VsPart). v.places) (x.vs h); spans = x.spans; back = x.back; large = x.large; hand = x.hand }

-- VS is as it was, and so are its spans
pub tells_on : (c d : Token) (vs : VsKept) → d.opening ≡ c.opening → ((s : Setting) → IsSettingOf d.opening d.roll s → IsSettingOf c.opening c.roll s)
    → Always d (λ s. ((now s d).state.vs ≡ (now s c).state.vs) × (vs_spans (now s d).state.back.area ≡ vs_spans (now s c).state.back.area)) → TellsVs c vs → TellsVs d vs
tells_on c d vs same before is k = record {
  tells = λ s q.
      let t = k.tells s (before s q) in let e = is s q in
      subst (λ (o : Opening). StandsForVs o (now s d).state (layer_of vs)) (sym same) (record { lock = t.lock; limits = t.limits; key = t.key; part = t.part ∙ ap sorted_vs (sym e.0); spans = t.spans ∙ sym e.1 });
  used = λ s q. let e = is s q in (λ i. list_all (has_place page_bytes (e.0 i).places) (e.1 i)) ∙ k.used s (before s q);
}
