-- A span of VS in which no block is left goes back to the back end, by an entry that is prepared.
use Rattle.std.proofs.Common.{◌≡◌, ℕ, true, not, ◌&&◌, ◌||◌, Option, Some, refl, sym, ap, subst, ◌∙◌}
use Rattle.std.specs.Prelude.{IsSome}
use Rattle.std.proofs.lemmas.Bool.{and_from, or_left}
use Rattle.heap_model.specs.declared.Act.{Act}
use Rattle.heap_model.specs.declared.Act.TheVariants as acts
use Rattle.heap_model.specs.declared.Kind.{Kind}
use Rattle.heap_model.specs.declared.What.TheVariants as whats
use Rattle.heap_model.specs.CallState.{Configuration, caller_view}
use Rattle.heap_model.specs.Legal.{may, may_unspan_of, is_unused, has_place, places_in}
use Rattle.heap_model.specs.Search.{span_at}
use Rattle.heap_model.specs.State.{Setting, State, Span}
use Rattle.heap_model.specs.Stay.{for_some}
use Rattle.claim_rule.specs.Entries.{setting_of, may_prepare}
use Rattle.claim_rule.proofs.Advance.{some_setting}
use Rattle.call_laws.proofs.Within.{follows}
use Rattle.backend_fit.specs.Effects.{part_without}
use Rattle.backend_fit.specs.Kept.{Kept, area_of, Becomes}
use Rattle.backend_fit.specs.Sound.{IsSound}
use Rattle.heap_gate.specs.Token.{Token, Always, now, IsStanding}
use Rattle.heap_gate.specs.Calls.{with_prepared}
use Rattle.call_parts.proofs.Serving.{within}
use Rattle.call_parts.proofs.Tokens.{now_more, prepares}
use Rattle.vs_calls.specs.Parts.{without_span}
use Rattle.move_parts.specs.Moves.{TellsBack}
use Rattle.move_parts.specs.Places.{MayEnd, HasEndedSpan}
use Rattle.move_parts.proofs.Area.{area_is, none_of_front, no_block}

module _ (c : Token) (back : Kept) (first : ℕ) (h : MayEnd c back first) (st : IsStanding c) (sound : IsSound back) where
  abbrev unspan : Act
  unspan = acts.Unspan first

  pub give_ok : IsSome (span_at (area_of back) first)
  give_ok =
      let s = setting_of c.opening c.roll in let q = some_setting c.opening c.roll in
      let m = (now s c).state in
      let e : span_at (area_of back) first ≡ Some (h.empty s q).span = (λ i. span_at (area_is c.opening m back (h.back s q) sound i) first) ∙ (h.empty s q).there in
      subst IsSome (sym e) refl

  row : Always c (λ s. may s (now s c) c.number unspan ≡ true)
  row s q =
      let m = now s c in
      let x = h.empty s q in
      let k = caller_view m c.number in
      let back_held : k.back ≡ true = (st s q).locks whats.Back ∙ h.back_held in
      let vs_held : k.vs ≡ true = (st s q).locks whats.Vs ∙ h.vs_held in
      let inside : (k.entered || k.owns) ≡ true = or_left k.entered k.owns ((st s q).entered ∙ h.inside) in
      and_from k.back _ back_held
      (ap (λ (o : Option Span). for_some o (is_unused m.state k)) x.there
      ∙ (ap (λ (d : Kind). may_unspan_of k d && not (has_place 4096 (places_in m.state d) x.span)) x.kind
      ∙ and_from ((k.entered || k.owns) && k.vs) (not (has_place 4096 m.state.vs.places x.span)) (and_from (k.entered || k.owns) k.vs inside vs_held) (ap not x.none)))

  pub unspan_may : Always c (λ s. may_prepare s (now s c) c.number unspan ≡ true)
  unspan_may s q =
      let m = now s c in
      let x = h.empty s q in
      prepares s m c.number unspan refl (ap not (none_of_front c.opening m.state back (h.back s q) sound first x.span x.there x.kind))
      (follows s m c.number h.call unspan (within c h.call st h.inside h.call_is h.whole s q) (row s q))

  abbrev ended : Token
  ended = with_prepared c unspan

  state_is : (s : Setting) → (now s ended).state ≡ without_span (now s c).state first
  state_is s = ap (λ (m : Configuration). m.state) (now_more s c unspan)

  tells_then : (more : Kept) → Becomes back more (λ b. part_without b first) → TellsBack ended more
  tells_then more becomes s q =
      let m = (now s c).state in
      let x = h.empty s q in
      let none = no_block c.opening m back (h.back s q) sound first x.span x.there x.kind in
      let is : (now s ended).state.back ≡ part_without m.back first =
      ap (λ (y : State). y.back) (state_is s) ∙ (λ i. record { area = (part_without m.back first).area; places = sym none i }) in
      becomes c.opening m (now s ended).state (h.back s q) is

  pub span_ended : (d : Token) → d ≡ ended → (more : Kept) → Becomes back more (λ b. part_without b first) → HasEndedSpan c d more first
  span_ended d e more becomes = subst (λ (t : Token). HasEndedSpan c t more first) (sym e) (record { prepared = refl; back = tells_then more becomes; state = λ s q. state_is s })
