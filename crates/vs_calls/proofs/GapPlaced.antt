-- A block of VS that was placed in a gap and handed over.
use Rattle.std.proofs.Common.{◌≡◌, ℕ, ◌<◌, ◌≤◌, Bool, true, List, [], ◌∷◌, ◌++◌, length, Some, refl, sym, ap, subst, ◌∙◌, arith, length-append}
use Rattle.std.specs.Prelude.{option_and_then}
use Rattle.heap_model.specs.declared.Act.{Act}
use Rattle.heap_model.specs.declared.Act.TheVariants as acts
use Rattle.heap_model.specs.declared.Opening.{Opening}
use Rattle.heap_model.specs.declared.What.TheVariants as whats
use Rattle.heap_model.specs.Layers.{StandsForVs}
use Rattle.heap_model.specs.Legal.{leaves_whole}
use Rattle.heap_model.specs.Shape.{zeroing}
use Rattle.heap_model.specs.State.{Setting, State, Place, live_size}
use Rattle.claim_rule.specs.Entries.{entry, setting_of}
use Rattle.claim_rule.specs.Places.{vs_slot}
use Rattle.claim_rule.proofs.Advance.{some_setting}
use Rattle.vs_layer.specs.Kept.{VsKept}
use Rattle.vs_layer.specs.Standing.{layer_of, with_block}
use Rattle.heap_gate.specs.Token.{Token, Always, now, IsStanding}
use Rattle.heap_gate.specs.Calls.{HasGiven}
use Rattle.call_parts.specs.Entries.{HasNew, HasAdded, HasHandedOver}
use Rattle.call_parts.proofs.Tokens.{added_one, added_then, ended_given, ended_then}
use Rattle.vs_calls.specs.Blocks.{HasHeld, size_at}
use Rattle.vs_calls.specs.Parts.{IsPlacing, HasPlaced}
use Rattle.vs_calls.proofs.Gap as gap
use Rattle.vs_calls.proofs.InHand as hand
use Rattle.vs_calls.proofs.Shapes.{placed_shows}

module _ (c t : Token) (vs later : VsKept) (n addr : ℕ) (zero_it : Bool) (v : IsPlacing c vs n zero_it) (st : IsStanding c) (size : n ≤ 131072) (x : HasHeld c t vs later n addr) where
  abbrev acted : Act
  acted = gap.place c t vs later n addr zero_it v st size x

  pub sized_there : size_at later addr ≡ Some n
  sized_there = ap (option_and_then (λ p. live_size p.status)) x.there

  pub gap_table : t.table ≡ c.table
  gap_table = ap (λ (k : Token). k.table) x.prepared

  pub gap_opening : t.opening ≡ c.opening
  gap_opening = ap (λ (k : Token). k.opening) x.prepared

  -- the limits of the layer are the heap's
  pub gap_limits : later.limits ≡ t.opening.limits
  gap_limits =
      let s = setting_of c.opening c.roll in
      let m = (now s c).state in
      let given : State = record m { vs = with_block m.vs x.run n } in
      (x.becomes c.opening m given (v.holds.tells s (some_setting c.opening c.roll)) refl refl).limits ∙ ap (λ (o : Opening). o.limits) (sym gap_opening)

  pub gap_room : length t.prepared < 16
  gap_room =
      let a = ap (λ (k : Token). length k.prepared) x.prepared in
      let b = length-append c.prepared (entry c.number acted ∷ []) in
      let none = ap length v.holds.serving.prepared in
      omega (arith, a, b, none)

  abbrev before : Setting → State
  before s = (now s c).state

  abbrev pub the_place : Place
  the_place = hand.place t before later n addr x.run (gap.new_in_gap c t vs later n addr zero_it v st size x)

  pub new_here : HasNew t the_place addr n
  new_here = hand.new_block t before later n addr x.run (gap.new_in_gap c t vs later n addr zero_it v st size x)

  gap_added : HasAdded c t (acted ∷ [])
  gap_added = subst (λ (k : Token). HasAdded c k (acted ∷ [])) (sym x.prepared) (added_one c acted refl)

  gap_out : t.out ≡ vs_slot ∷ []
  gap_out = ap (λ (k : Token). k.out) x.prepared ∙ v.holds.serving.out_is

  module _ (d : Token) (over : (p : Place) → HasNew t p addr n → HasHandedOver t d p n zero_it) where
    over_it : HasHandedOver t d the_place n zero_it
    over_it = over the_place new_here

    abbrev given : List Act
    given = zeroing zero_it addr n ++ acts.Give addr n ∷ []

    over_added : HasAdded t d given
    over_added = subst (λ (a : ℕ). HasAdded t d (zeroing zero_it a n ++ acts.Give a n ∷ [])) (new_here.at) over_it.added

    pub all_added : HasAdded c d ((acted ∷ []) ++ given)
    all_added = added_then c t d (acted ∷ []) given gap_added over_added

    pub all_out : d.out ≡ vs_slot ∷ []
    all_out = over_it.out_is ∙ gap_out

    pub all_whole : d.whole ≡ true
    all_whole = over_it.whole

    pub all_inside : d.inside ≡ true
    all_inside = all_added.steady.inside ∙ v.holds.serving.inside

    pub all_tells : Always d (λ s. (leaves_whole (now s d).state whats.Vs ≡ true) × StandsForVs d.opening (now s d).state (layer_of later))
    all_tells = hand.given_tells t before later n addr x.run (gap.new_in_gap c t vs later n addr zero_it v st size x) d zero_it over_it

    pub gap_placed : (f : Token) → HasGiven d f whats.Vs (entry d.number (acts.GiveLock whats.Vs) ∷ []) → HasPlaced c f n addr zero_it
    gap_placed f g =
        placed_shows c f (acted ∷ []) (acts.GiveLock whats.Vs ∷ []) x.run.first x.run.count addr n zero_it x.at refl refl refl refl refl refl
        (ended_then c d f ((acted ∷ []) ++ given) (acts.GiveLock whats.Vs ∷ []) [] all_added (ended_given d f whats.Vs [] (acts.GiveLock whats.Vs ∷ []) g all_out over_it.free))
