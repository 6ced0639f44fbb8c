-- A block of the back end that was placed and handed over, under the lock.
use Rattle.std.proofs.Common.{◌≡◌, ℕ, ◌+◌, ◌*◌, Bool, true, List, [], ◌∷◌, ◌++◌, Some, refl, sym, ◌∙◌, subst}
use Rattle.heap_model.specs.declared.Act.{Act}
use Rattle.heap_model.specs.declared.Act.TheVariants as acts
use Rattle.heap_model.specs.declared.Call.TheVariants as calls
use Rattle.heap_model.specs.declared.Flags.{Flags}
use Rattle.heap_model.specs.declared.Layer.TheVariants as layers
use Rattle.heap_model.specs.declared.What.TheVariants as whats
use Rattle.heap_model.specs.Geometry.{pages_of, route_of, is_paged}
use Rattle.heap_model.specs.Backend.{back_place}
use Rattle.heap_model.specs.Layers.{StandsForBack}
use Rattle.heap_model.specs.Legal.{leaves_whole}
use Rattle.heap_model.specs.Shape.{zeroing}
use Rattle.heap_model.specs.State.{Place}
use Rattle.claim_rule.specs.Entries.{entry}
use Rattle.claim_rule.specs.Places.{back_slot}
use Rattle.backend_fit.specs.Effects.{part_with}
use Rattle.backend_fit.specs.Kept.{Kept, area_of, layer_of, Becomes}
use Rattle.backend_fit.specs.Sound.{IsSound}
use Rattle.heap_gate.specs.Token.{Token, Always, now, IsStanding}
use Rattle.heap_gate.specs.Calls.{HasGiven}
use Rattle.call_parts.specs.Calls.{HoldsBack}
use Rattle.paged_calls.specs.Blocks.{block_run}
use Rattle.call_parts.specs.Entries.{block_acts, HasNew, HasAdded, HasHandedOver}
use Rattle.paged_calls.specs.Parts.{HasPlaced}
use Rattle.call_parts.proofs.Tokens.{added_then}
use Rattle.paged_calls.proofs.Placed.{block_token, block_added, block_out, block_place, block_new, block_no_begin, block_tells}
use Rattle.paged_calls.proofs.Shapes.{given_behind, placed_shows, block_shown}

module _ (k : Token) (flags : Flags) (back : Kept) (n : ℕ) (h : HoldsBack k (calls.Alloc n flags) back) (st : IsStanding k) (sound : IsSound back) (paged : is_paged (route_of n) ≡ true) (first : ℕ)
    (fits : Some first ≡ back_place (area_of back) back.limits.segments (pages_of n)) (t : Token) (et : t ≡ block_token k flags back n h st sound paged first fits) (addr : ℕ) (ea : addr ≡ 4096 * first) where
  abbrev the_token : Token
  the_token = block_token k flags back n h st sound paged first fits

  abbrev pub the_place : Place
  the_place = block_place k flags back n h st sound paged first fits

  pub new_here : HasNew t the_place addr n
  new_here = subst (λ (x : Token × ℕ). HasNew x.0 the_place x.1 n) (λ i. (sym et i, sym ea i)) (block_new k flags back n h st sound paged first fits)

  module _ (d : Token) (zero_it : Bool) (over : (p : Place) → HasNew t p addr n → HasHandedOver t d p n zero_it) where
    over_it : HasHandedOver the_token d the_place n zero_it
    over_it = subst (λ (x : Token). HasHandedOver x d the_place n zero_it) et (over the_place new_here)

    abbrev list : List Act
    list = block_acts (area_of back).reserved first n ++ (zeroing zero_it (4096 * first) n ++ acts.Give (4096 * first) n ∷ [])

    pub all_added : HasAdded k d list
    all_added = added_then k the_token d (block_acts (area_of back).reserved first n) (zeroing zero_it (4096 * first) n ++ acts.Give (4096 * first) n ∷ []) (block_added k flags back n h st sound paged first fits) over_it.added

    pub out_then : d.out ≡ back_slot ∷ []
    out_then = over_it.out_is ∙ (block_out k flags back n h st sound paged first fits ∙ h.serving.out_is)

    pub inside_then : d.inside ≡ true
    inside_then = all_added.steady.inside ∙ h.serving.inside

    pub whole_then : d.whole ≡ true
    whole_then = over_it.whole

    pub owes_then : d.owes ≡ []
    owes_then = all_added.steady.owes ∙ h.serving.owes

    pub tells_then : (new : Kept) → Becomes back new (λ b. part_with b (block_run first n)) → Always d (λ s. (leaves_whole (now s d).state whats.Back ≡ true) × StandsForBack d.opening (now s d).state (layer_of new))
    tells_then new becomes = block_tells k flags back n h st sound paged first fits new becomes d zero_it over_it

    pub placed_then : (b : Token) → HasGiven d b whats.Back (entry d.number (acts.GiveLock whats.Back) ∷ []) → HasPlaced k b addr n zero_it
    placed_then b g =
        subst (λ (x : ℕ). HasPlaced k b x n zero_it) (sym ea)
        (placed_shows k b (block_acts (area_of back).reserved first n) (4096 * first) (256 * pages_of n) layers.Back (4096 * first) n zero_it whats.Back refl (block_no_begin (area_of back).reserved first n)
        (block_shown (area_of back).reserved first n) (given_behind k d b whats.Back list [] all_added g out_then over_it.free))
