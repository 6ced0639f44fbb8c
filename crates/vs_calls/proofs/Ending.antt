-- A span of VS in which no block is left goes back to the back end.
use Rattle.std.proofs.Common.{◌≡◌, ℕ, true, not, ◌&&◌, ◌||◌, [], ◌∷◌, Option, Some, refl, sym, ap, subst, ◌∙◌}
use Rattle.std.specs.Prelude.{IsSome}
use Rattle.std.proofs.lemmas.Bool.{and_from, or_left}
use Rattle.heap_model.specs.declared.Act.{Act}
use Rattle.heap_model.specs.declared.Act.TheVariants as acts
use Rattle.heap_model.specs.declared.Kind.{Kind}
use Rattle.heap_model.specs.declared.What.TheVariants as whats
use Rattle.heap_model.specs.CallState.{Configuration, caller_view}
use Rattle.heap_model.specs.Layers.{StandsForVs}
use Rattle.heap_model.specs.Legal.{may, may_unspan_of, is_unused, has_place, places_in, leaves_whole}
use Rattle.heap_model.specs.Search.{span_at}
use Rattle.heap_model.specs.State.{Setting, State, Span}
use Rattle.heap_model.specs.Stay.{for_some}
use Rattle.claim_rule.specs.Entries.{setting_of, may_prepare}
use Rattle.claim_rule.proofs.Advance.{some_setting}
use Rattle.call_laws.proofs.Within.{follows}
use Rattle.backend_fit.specs.Effects.{part_without}
use Rattle.backend_fit.specs.Kept.{Kept, area_of, Becomes}
use Rattle.backend_fit.specs.Sound.{IsSound}
use Rattle.vs_layer.specs.Kept.{VsKept}
use Rattle.vs_layer.specs.Standing.{layer_of}
use Rattle.heap_gate.specs.Token.{Token, Always, now, IsStanding, is_out}
use Rattle.heap_gate.specs.Calls.{with_prepared}
use Rattle.call_parts.specs.Entries.{HasEnded}
use Rattle.call_parts.proofs.Serving.{within}
use Rattle.call_parts.proofs.Tokens.{now_more, prepares, added_one, ended_then}
use Rattle.vs_calls.specs.Blocks.{HasVsAndBack}
use Rattle.vs_calls.specs.Parts.{without_span, MayEndSpan}
use Rattle.vs_calls.proofs.Area.{area_is, none_of_front, no_block}

module _ (c : Token) (vs : VsKept) (back : Kept) (first : ℕ) (h : MayEndSpan c vs back first) (st : IsStanding c) (sound : IsSound back) where
  abbrev unspan : Act
  unspan = acts.Unspan first

  abbrev pub ended : Token
  ended = with_prepared c unspan

  pub give_ok : IsSome (span_at (area_of back) first)
  give_ok =
      let s = setting_of c.opening c.roll in let q = some_setting c.opening c.roll in
      let m = (now s c).state in
      let e : span_at (area_of back) first ≡ Some (h.empty s q).span = (λ i. span_at (area_is c.opening m back (h.tells_back s q) sound i) first) ∙ (h.empty s q).there in
      subst IsSome (sym e) refl

  row : Always c (λ s. may s (now s c) c.number unspan ≡ true)
  row s q =
      let m = now s c in
      let x = h.empty s q in
      let k = caller_view m c.number in
      let back_held : k.back ≡ true = (st s q).locks whats.Back ∙ ap (is_out whats.Back) h.out_is in
      let vs_held : k.vs ≡ true = (st s q).locks whats.Vs ∙ ap (is_out whats.Vs) h.out_is in
      let inside : (k.entered || k.owns) ≡ true = or_left k.entered k.owns ((st s q).entered ∙ h.inside) in
      and_from k.back _ back_held
      (ap (λ (o : Option Span). for_some o (is_unused m.state k)) x.there
      ∙ (ap (λ (d : Kind). may_unspan_of k d && not (has_place 4096 (places_in m.state d) x.span)) x.kind
      ∙ and_from ((k.entered || k.owns) && k.vs) (not (has_place 4096 m.state.vs.places x.span)) (and_from (k.entered || k.owns) k.vs inside vs_held) (ap not x.none)))

  pub unspan_may : Always c (λ s. may_prepare s (now s c) c.number unspan ≡ true)
  unspan_may s q =
      let m = now s c in
      let x = h.empty s q in
      prepares s m c.number unspan refl (ap not (none_of_front c.opening m.state back (h.tells_back s q) sound first x.span x.there x.kind))
      (follows s m c.number h.call unspan (within c h.call st h.inside h.call_is h.whole s q) (row s q))

  state_is : (s : Setting) → (now s ended).state ≡ without_span (now s c).state first
  state_is s = ap (λ (m : Configuration). m.state) (now_more s c unspan)

  pub both_then : (more : Kept) → Becomes back more (λ b. part_without b first) → HasVsAndBack ended vs more
  both_then more becomes = record {
    inside = h.inside;
    whole = refl;
    free = h.free;
    out_is = h.out_is;
    owes = h.owes;
    used = λ s q. subst (λ (x : State). leaves_whole x whats.Vs ≡ true) (sym (state_is s)) (h.used s q);
    tells_vs = λ s q. subst (λ (x : State). StandsForVs c.opening x (layer_of vs)) (sym (state_is s)) (h.tells_vs s q);
    tells_back = λ s q.
        let m = (now s c).state in
        let x = h.empty s q in
        let none = no_block c.opening m back (h.tells_back s q) sound first x.span x.there x.kind in
        let is : (now s ended).state.back ≡ part_without m.back first =
        ap (λ (y : State). y.back) (state_is s) ∙ (λ i. record { area = (part_without m.back first).area; places = sym none i }) in
        becomes c.opening m (now s ended).state (h.tells_back s q) is;
  }

  pub ended_all : (f : Token) → HasEnded ended f (acts.GiveLock whats.Back ∷ acts.GiveLock whats.Vs ∷ []) [] → HasEnded c f (unspan ∷ acts.GiveLock whats.Back ∷ acts.GiveLock whats.Vs ∷ []) []
  ended_all f x = ended_then c ended f (unspan ∷ []) (acts.GiveLock whats.Back ∷ acts.GiveLock whats.Vs ∷ []) [] (added_one c unspan refl) x
