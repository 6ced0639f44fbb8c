-- A block of VS in a span that was made for it is given, and the locks are given back.
use Rattle.std.proofs.Common.{◌≡◌, ℕ, ◌<◌, ◌≤◌, Bool, true, List, [], ◌∷◌, ◌++◌, length, refl, sym, ap, subst, ◌∙◌, arith}
use Rattle.std.proofs.lemmas.List.{append-nil}
use Rattle.heap_model.specs.declared.Act.{Act}
use Rattle.heap_model.specs.declared.Act.TheVariants as acts
use Rattle.heap_model.specs.declared.Opening.{Opening}
use Rattle.heap_model.specs.declared.What.TheVariants as whats
use Rattle.heap_model.specs.Layers.{StandsForVs}
use Rattle.heap_model.specs.Legal.{leaves_whole}
use Rattle.heap_model.specs.Shape.{shape_of, zeroing}
use Rattle.heap_model.specs.State.{Setting, State, Place}
use Rattle.claim_rule.specs.Entries.{entry}
use Rattle.claim_rule.specs.Places.{vs_slot, back_slot}
use Rattle.backend_fit.specs.Kept.{Kept, area_of}
use Rattle.backend_fit.specs.Sound.{IsSound}
use Rattle.vs_layer.specs.Kept.{VsKept}
use Rattle.vs_layer.specs.Standing.{layer_of}
use Rattle.heap_gate.specs.Token.{Token, Always, now, IsStanding}
use Rattle.heap_gate.specs.Calls.{HasGiven}
use Rattle.call_parts.specs.Entries.{HasAdded, HasNew, HasHandedOver}
use Rattle.call_parts.proofs.Serving.{none_begins-append, shape-append}
use Rattle.call_parts.proofs.Tokens.{added_then, ended_given, ended_then}
use Rattle.vs_calls.specs.Parts.{IsPlacingAnew, HasHeldAnew, HasPlaced, span_acts}
use Rattle.vs_calls.proofs.SpanMay.{HoldsForSpan, anew_holds}
use Rattle.vs_calls.proofs.NewPlaced.{spanned, new_here, here_added, here_out, here_limits, behind, step_added, step_out, step_prepared, new_behind, span_no_begin, span_no_try, span_shown}
use Rattle.vs_calls.proofs.Tries.{none-append}
use Rattle.vs_calls.proofs.InHand.{HasNewBlock}
use Rattle.vs_calls.proofs.InHand as hand
use Rattle.vs_calls.proofs.Shapes.{placed_shows}

module _ (c t b : Token) (vs later : VsKept) (back more : Kept) (n addr : ℕ) (zero_it : Bool) (v : IsPlacingAnew c vs back n zero_it) (st : IsStanding c) (sound : IsSound back) (size : n ≤ 131072) (x : HasHeldAnew c t vs later back more n addr)
    (g : HasGiven t b whats.Back (entry t.number (acts.GiveLock whats.Back) ∷ [])) where
  abbrev hold : HoldsForSpan c vs back n
  hold = anew_holds c vs back n zero_it v st sound size

  abbrev list : List Act
  list = span_acts (area_of back).reserved x.first n x.run

  abbrev before : Setting → State
  before s = spanned c t vs later back more n addr hold x s

  out : t.out ≡ back_slot ∷ vs_slot ∷ []
  out = here_out c t vs later back more n addr hold x ∙ v.holds.serving.out_is

  pub nb : HasNewBlock b (behind b before) later n addr x.run
  nb = new_behind t b before later n addr x.run (new_here c t vs later back more n addr hold x) g out

  pub step_of : HasAdded t b (acts.GiveLock whats.Back ∷ [])
  step_of = step_added t b before later n addr x.run (new_here c t vs later back more n addr hold x) g out

  pub first_added : HasAdded c b (list ++ acts.GiveLock whats.Back ∷ [])
  first_added = added_then c t b list (acts.GiveLock whats.Back ∷ []) (here_added c t vs later back more n addr hold x) step_of

  pub first_room : length b.prepared < 16
  first_room = let e = ap length (step_prepared t b before later n addr x.run (new_here c t vs later back more n addr hold x) g out) in omega (arith, e)

  pub first_limits : later.limits ≡ b.opening.limits
  first_limits = here_limits c t vs later back more n addr hold x ∙ ap (λ (o : Opening). o.limits) (sym step_of.goes.opening)

  abbrev pub the_place : Place
  the_place = hand.place b (behind b before) later n addr x.run nb

  pub new_now : HasNew b the_place addr n
  new_now = hand.new_block b (behind b before) later n addr x.run nb

  module _ (d : Token) (over : (p : Place) → HasNew b p addr n → HasHandedOver b d p n zero_it) where
    over_it : HasHandedOver b d the_place n zero_it
    over_it = over the_place new_now

    abbrev given : List Act
    given = zeroing zero_it addr n ++ acts.Give addr n ∷ []

    over_added : HasAdded b d given
    over_added = subst (λ (a : ℕ). HasAdded b d (zeroing zero_it a n ++ acts.Give a n ∷ [])) new_now.at over_it.added

    pub all_added : HasAdded c d ((list ++ acts.GiveLock whats.Back ∷ []) ++ given)
    all_added = added_then c b d (list ++ acts.GiveLock whats.Back ∷ []) given first_added over_added

    pub all_out : d.out ≡ vs_slot ∷ []
    all_out = over_it.out_is ∙ step_out t b before later n addr x.run (new_here c t vs later back more n addr hold x) g out

    pub all_whole : d.whole ≡ true
    all_whole = over_it.whole

    pub all_inside : d.inside ≡ true
    all_inside = all_added.steady.inside ∙ v.holds.serving.inside

    pub all_tells : Always d (λ s. (leaves_whole (now s d).state whats.Vs ≡ true) × StandsForVs d.opening (now s d).state (layer_of later))
    all_tells = hand.given_tells b (behind b before) later n addr x.run nb d zero_it over_it

    pub anew_placed : (f : Token) → HasGiven d f whats.Vs (entry d.number (acts.GiveLock whats.Vs) ∷ []) → HasPlaced c f n addr zero_it
    anew_placed f k =
        let gl : List Act = acts.GiveLock whats.Back ∷ [] in
        placed_shows c f (list ++ gl) (acts.GiveLock whats.Vs ∷ []) x.run.first x.run.count addr n zero_it x.at
        (none_begins-append list gl (span_no_begin (area_of back).reserved x.first n x.run) refl)
        (none-append whats.Back list gl (span_no_try (area_of back).reserved x.first n x.run) refl)
        (shape-append list gl ∙ (append-nil (shape_of list) ∙ span_shown (area_of back).reserved x.first n x.run)) refl refl refl
        (ended_then c d f ((list ++ gl) ++ given) (acts.GiveLock whats.Vs ∷ []) [] all_added (ended_given d f whats.Vs [] (acts.GiveLock whats.Vs ∷ []) k all_out over_it.free))
