-- What an allocation may do under the lock of VS, and under that of the back end too.
use Rattle.std.proofs.Common.{◌≡◌, ℕ, ◌*◌, ◌≤◌, true, false, ◌||◌, leb, [], ◌∷◌, Some, None, refl, sym, ap, ◌∙◌, subst, inl, inr}
use Rattle.std.proofs.lemmas.Bool.{cases_Bool, le-leb}
use Rattle.heap_model.specs.declared.Act.TheVariants as acts
use Rattle.heap_model.specs.declared.Call.{Call}
use Rattle.heap_model.specs.declared.Call.TheVariants as calls
use Rattle.heap_model.specs.declared.Flags.{Flags}
use Rattle.heap_model.specs.declared.Layer.TheVariants as layers
use Rattle.heap_model.specs.declared.Reply.TheVariants as replies
use Rattle.heap_model.specs.declared.What.TheVariants as whats
use Rattle.heap_model.specs.Backend.{back_place}
use Rattle.heap_model.specs.Buckets.{bucket_of}
use Rattle.heap_model.specs.CallState.{Configuration}
use Rattle.heap_model.specs.Geometry.{route_of, is_small, is_variable, units_of, span_pages_of}
use Rattle.heap_model.specs.Legal.{leaves_whole, goes_to_lfh}
use Rattle.heap_model.specs.Ranges.{gaps, vs_place}
use Rattle.heap_model.specs.Runs.{Run}
use Rattle.heap_model.specs.Shape.{Replied, HasActs}
use Rattle.heap_model.specs.State.{Setting, BackPart, holds}
use Rattle.heap_model.specs.Stay.{for_some}
use Rattle.claim_rule.specs.Entries.{may_prepare}
use Rattle.claim_rule.specs.Places.{vs_slot, back_slot}
use Rattle.call_laws.specs.Within.{IsWithin}
use Rattle.call_laws.proofs.Exclusive.{allocation_holds_old}
use Rattle.call_laws.proofs.Places.{placing_in_gap, refusing_vs}
use Rattle.backend_fit.specs.Kept.{Kept, area_of}
use Rattle.vs_layer.specs.Kept.{VsKept, place_for}
use Rattle.vs_layer.proofs.Told.{place_is}
use Rattle.heap_gate.specs.Token.{Token, Always, now, IsStanding, is_out}
use Rattle.call_parts.specs.Calls.{HoldsVs, HoldsBoth, Brings, Makes}
use Rattle.call_parts.specs.Entries.{HasEnded}
use Rattle.call_parts.proofs.Serving.{within}
use Rattle.call_parts.proofs.Tokens.{prepares, makes}
use Rattle.vs_calls.specs.Blocks.{IsForVs, HasVsAndBack}

---- By the configuration

-- the layer serves such a size
pub vs_route : (n : ℕ) → n ≤ 131072 → (is_small (route_of n) || is_variable (route_of n)) ≡ true
vs_route n h = let b = le-leb n 131072 h in elim (cases_Bool (leb n 16368)) [ inl e ↦ rw e refl | inr e ↦ rw (e, b) refl ]

module _ (s : Setting) (m : Configuration) (c n : ℕ) (flags : Flags) (w : IsWithin m c (calls.Alloc n flags)) (size : n ≤ 131072) (held : holds m.state.gate c whats.Vs ≡ true)
    (bucket : for_some (bucket_of n) (goes_to_lfh m.state.vs) ≡ false) where
  gap_may : (r : Run) → vs_place (gaps m.state) (units_of n) ≡ Some r → may_prepare s m c (acts.Place (16 * r.first) r.count layers.Vs) ≡ true
  gap_may r fits =
      prepares s m c (acts.Place (16 * r.first) r.count layers.Vs) (allocation_holds_old m c n flags w.call_is) refl
      (placing_in_gap s m c (calls.Alloc n flags) n r w held refl (vs_route n size) bucket fits).may

  none_may : holds m.state.gate c whats.Back ≡ true → vs_place (gaps m.state) (units_of n) ≡ None → back_place m.state.back.area s.limits.segments (span_pages_of n) ≡ None → may_prepare s m c (acts.NoFit n) ≡ true
  none_may back no_gap no_pages =
      prepares s m c (acts.NoFit n) (allocation_holds_old m c n flags w.call_is) refl
      (refusing_vs s m c (calls.Alloc n flags) n w held back refl (vs_route n size) bucket no_gap no_pages).may

---- By the token

pub holds_may : (c : Token) (vs : VsKept) (n : ℕ) (flags : Flags) → HoldsVs c (calls.Alloc n flags) vs → IsStanding c → n ≤ 131072 → IsForVs c n
    → (run : Run) → place_for vs n ≡ Some run → Always c (λ s. may_prepare s (now s c) c.number (acts.Place (16 * run.first) run.count layers.Vs) ≡ true)
holds_may c vs n flags h st size bucket run fits s q =
    gap_may s (now s c) c.number n flags (within c (calls.Alloc n flags) st h.serving.inside h.serving.call_is h.serving.whole s q) size ((st s q).locks whats.Vs ∙ ap (is_out whats.Vs) h.serving.out_is) (bucket s q) run
    (sym (place_is c.opening (now s c).state vs (h.tells s q) n) ∙ fits)

module _ (c : Token) (vs : VsKept) (back : Kept) (n : ℕ) (flags : Flags) (h : HoldsBoth c (calls.Alloc n flags) vs back) where
  pub has_both : Always c (λ s. leaves_whole (now s c).state whats.Vs ≡ true) → HasVsAndBack c vs back
  has_both used = record {
    inside = h.serving.inside;
    whole = h.serving.whole;
    free = h.serving.free;
    out_is = h.serving.out_is;
    owes = h.serving.owes;
    used = used;
    tells_vs = h.tells_vs;
    tells_back = h.tells_back;
  }

  pub refuses_may : IsStanding c → n ≤ 131072 → IsForVs c n → place_for vs n ≡ None → back_place (area_of back) back.limits.segments (span_pages_of n) ≡ None → Always c (λ s. may_prepare s (now s c) c.number (acts.NoFit n) ≡ true)
  refuses_may st size bucket no_gap no_pages s q =
      let area : area_of back ≡ (now s c).state.back.area = ap (λ (b : BackPart). b.area) (h.tells_back s q).part in
      let l : back.limits ≡ s.limits = (h.tells_back s q).limits ∙ sym q.limits in
      none_may s (now s c) c.number n flags (within c (calls.Alloc n flags) st h.serving.inside h.serving.call_is h.serving.whole s q) size ((st s q).locks whats.Vs ∙ ap (is_out whats.Vs) h.serving.out_is) (bucket s q)
      ((st s q).locks whats.Back ∙ ap (is_out whats.Back) h.serving.out_is) (sym (place_is c.opening (now s c).state vs (h.tells_vs s q) n) ∙ no_gap)
      ((λ i. back_place (sym area i) (sym l i).segments (span_pages_of n)) ∙ no_pages)

  pub refused : (d : Token) → HasEnded c d (acts.NoFit n ∷ acts.GiveLock whats.Back ∷ acts.GiveLock whats.Vs ∷ []) [] → (call : Call) → c.call ≡ Some call → Brings c d call (Replied replies.NoFit)
  refused d x call e =
      let made : Makes c d call (acts.NoFit n ∷ []) = makes c d call (calls.Alloc n flags) (back_slot ∷ vs_slot ∷ []) (acts.NoFit n ∷ acts.GiveLock whats.Back ∷ acts.GiveLock whats.Vs ∷ []) (acts.NoFit n ∷ []) h.serving e x refl refl in
      let both : Some (calls.Alloc n flags) ≡ Some call = sym h.serving.call_is ∙ e in
      let same : calls.Alloc n flags ≡ call = cc in
      (acts.NoFit n ∷ [], made, subst (λ (k : Call). HasActs k (Replied replies.NoFit) (acts.NoFit n ∷ [])) same refl)
