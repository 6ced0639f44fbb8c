-- A refusal under both locks, which are given back.
use Rattle.std.proofs.Common.{◌≡◌, ℕ, true, [], ◌∷◌, refl, sym, ap, ◌∙◌, subst}
use Rattle.std.specs.List.{list_all}
use Rattle.heap_model.specs.declared.Act.{Act}
use Rattle.heap_model.specs.declared.Act.TheVariants as acts
use Rattle.heap_model.specs.declared.Opening.{Opening}
use Rattle.heap_model.specs.declared.What.TheVariants as whats
use Rattle.heap_model.specs.CallState.{Configuration}
use Rattle.heap_model.specs.Layers.{LayerState, StandsForVs, StandsForBack, sorted_vs}
use Rattle.heap_model.specs.Legal.{leaves_whole, has_place}
use Rattle.heap_model.specs.Ranges.{vs_spans}
use Rattle.heap_model.specs.State.{State, holds}
use Rattle.claim_rule.specs.Entries.{entry}
use Rattle.claim_rule.specs.Places.{vs_slot}
use Rattle.backend_fit.specs.Kept.{Kept}
use Rattle.backend_fit.specs.Kept as backs
use Rattle.backend_fit.proofs.Told.{spans_used}
use Rattle.vs_layer.specs.Kept.{VsKept}
use Rattle.vs_layer.specs.Standing.{layer_of}
use Rattle.heap_gate.specs.Token.{Token, Always, now, IsStanding, is_out}
use Rattle.heap_gate.specs.Calls.{with_prepared, HasGiven}
use Rattle.call_parts.specs.Entries.{HasEnded}
use Rattle.call_parts.proofs.Joining.{setting_before}
use Rattle.call_parts.proofs.Tokens.{now_more, added_one, ended_given, ended_then}
use Rattle.vs_calls.specs.Blocks.{HasVsAndBack}

-- what VS tells of a state it tells of one with the same part and the same spans
pub still_told : (o : Opening) (st later : State) (t : LayerState) → later.vs ≡ st.vs → vs_spans later.back.area ≡ vs_spans st.back.area → (leaves_whole st whats.Vs ≡ true) × StandsForVs o st t
    → (leaves_whole later whats.Vs ≡ true) × StandsForVs o later t
still_told o st later t v x h = (
  (λ i. list_all (has_place 4096 (v i).places) (x i)) ∙ h.0,
  record { lock = h.1.lock; limits = h.1.limits; key = h.1.key; part = h.1.part ∙ ap sorted_vs (sym v); spans = h.1.spans ∙ sym x },
)

module _ (c : Token) (vs : VsKept) (back : Kept) (h : HasVsAndBack c vs back) (st : IsStanding c) (n : ℕ) where
  abbrev none : Act
  none = acts.NoFit n

  abbrev pub told : Token
  told = with_prepared c none

  same_state : (P : State → Type 0) → Always c (λ s. P (now s c).state) → Always c (λ s. P (now s told).state)
  same_state P f s q = subst (λ (m : Configuration). P m.state) (sym (now_more s c none)) (f s q)

  pub back_tells : Always told (λ s. (leaves_whole (now s told).state whats.Back ≡ true) × StandsForBack told.opening (now s told).state (backs.layer_of back))
  back_tells s q =
      let t = same_state (λ (x : State). StandsForBack c.opening x (backs.layer_of back)) h.tells_back s q in
      (spans_used c.opening (now s told).state back t, t)

  held : Always c (λ s. holds (now s told).state.gate c.number whats.Vs ≡ true)
  held s q = ap (λ (m : Configuration). holds m.state.gate c.number whats.Vs) (now_more s c none) ∙ ((st s q).locks whats.Vs ∙ ap (is_out whats.Vs) h.out_is)

  module _ (b : Token) (g : HasGiven told b whats.Back (entry c.number (acts.GiveLock whats.Back) ∷ [])) where
    pub given_back : HasEnded told b (acts.GiveLock whats.Back ∷ []) (vs_slot ∷ [])
    given_back = ended_given told b whats.Back (vs_slot ∷ []) (acts.GiveLock whats.Back ∷ []) g h.out_is h.free

    pub vs_tells : Always b (λ s. (leaves_whole (now s b).state whats.Vs ≡ true) × StandsForVs b.opening (now s b).state (layer_of vs))
    vs_tells s q =
        let qc = setting_before told b (acts.GiveLock whats.Back ∷ []) given_back.added.goes s q in
        let a = g.runs.agrees s q in
        let before = same_state (λ (x : State). (leaves_whole x whats.Vs ≡ true) × StandsForVs c.opening x (layer_of vs)) (λ s' q'. (h.used s' q', h.tells_vs s' q')) s qc in
        subst (λ (o : Opening). (leaves_whole (now s b).state whats.Vs ≡ true) × StandsForVs o (now s b).state (layer_of vs)) (sym given_back.added.goes.opening)
        (still_told c.opening (now s told).state (now s b).state (layer_of vs) (a.vs (held s qc)) (a.spans (held s qc)) before)

    pub all_ended : (d : Token) → HasGiven b d whats.Vs (entry b.number (acts.GiveLock whats.Vs) ∷ []) → HasEnded c d (none ∷ acts.GiveLock whats.Back ∷ acts.GiveLock whats.Vs ∷ []) []
    all_ended d k =
        let last = ended_given b d whats.Vs [] (acts.GiveLock whats.Vs ∷ []) k given_back.out_is given_back.free in
        ended_then c told d (none ∷ []) (acts.GiveLock whats.Back ∷ acts.GiveLock whats.Vs ∷ []) [] (added_one c none refl)
        (ended_then told b d (acts.GiveLock whats.Back ∷ []) (acts.GiveLock whats.Vs ∷ []) [] given_back.added last)
