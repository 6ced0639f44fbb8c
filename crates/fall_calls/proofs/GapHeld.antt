-- A block of VS in hand in a gap, under both locks, for an allocation that the front end cannot serve.
use Rattle.std.proofs.Common.{◌≡◌, ℕ, ◌*◌, ◌<◌, Bool, [], ◌∷◌, ◌++◌, length, Some, refl, sym, ap, subst, ◌∙◌, arith, length-append}
use Rattle.std.specs.Prelude.{is_some, option_and_then}
use Rattle.heap_model.specs.declared.Act.{Act}
use Rattle.heap_model.specs.declared.Act.TheVariants as acts
use Rattle.heap_model.specs.declared.Layer.TheVariants as layers
use Rattle.heap_model.specs.Geometry.{units_of}
use Rattle.heap_model.specs.Ranges.{vs_spans}
use Rattle.heap_model.specs.Shape.{zeroing}
use Rattle.heap_model.specs.State.{Setting, State, live_size}
use Rattle.claim_rule.specs.Entries.{entry, setting_of}
use Rattle.claim_rule.proofs.Advance.{some_setting}
use Rattle.serial_laws.proofs.VsAllocate.{count_is}
use Rattle.backend_fit.specs.Kept.{Kept}
use Rattle.vs_layer.specs.Kept.{VsKept, gaps_in, block_in}
use Rattle.vs_layer.specs.Standing.{with_block}
use Rattle.heap_gate.specs.Token.{Token, now, IsStanding}
use Rattle.heap_gate.specs.Calls.{with_prepared}
use Rattle.call_parts.specs.Entries.{HasAdded, HasEnded}
use Rattle.call_parts.proofs.Tokens.{added_one, ended_then}
use Rattle.vs_calls.specs.Blocks.{HasHeld, size_at}
use Rattle.vs_calls.specs.Parts.{HasPlaced}
use Rattle.vs_calls.proofs.InHand as hand
use Rattle.vs_calls.proofs.InHand.{used_more, HasNewBlock}
use Rattle.vs_calls.proofs.Shapes.{placed_shows}
use Rattle.lfh_spans.specs.Subsegments.{IsBackOf}
use Rattle.fall_calls.specs.Both.{HasBlock, IsToGive, gives}
use Rattle.fall_calls.specs.Falls.{FallsToVs}
use Rattle.fall_calls.proofs.Falling as fall
use Rattle.fall_calls.proofs.HandedTwo.{back_still}
use Rattle.fall_calls.proofs.Resting.{gives_quiet, gives_no_try}

module _ (c t : Token) (vs later : VsKept) (back : Kept) (n addr : ℕ) (zero_it vs_last : Bool) (v : FallsToVs c vs back n zero_it vs_last) (st : IsStanding c) (x : HasHeld c t vs later n addr) where
  abbrev place : Act
  place = acts.Place (16 * x.run.first) x.run.count layers.Vs

  abbrev before : Setting → State
  before s = (now s c).state

  new_here : HasNewBlock (with_prepared c place) before later n addr x.run
  new_here = record {
    at = x.at;
    size = fall.small_size n v.bucket v.bucket_is;
    count = count_is (gaps_in vs) (units_of n) x.run x.place;
    inside = v.stands.inside;
    whole = refl;
    begun = ap is_some v.stands.call_is;
    state = fall.gap_state c vs back n zero_it vs_last v st x.run x.place;
    none = λ s q. (st s q).hands v.stands.free;
    held = fall.has_vs c vs back n zero_it vs_last v st;
    tells = λ s q k e f. x.becomes c.opening (now s c).state k (v.keeps.tells s q) e f;
    used = λ s q. used_more (block_in x.run n) (now s c).state.vs.places (vs_spans (now s c).state.back.area) (v.keeps.used s q);
  }

  in_gap : HasNewBlock t before later n addr x.run
  in_gap = subst (λ (k : Token). HasNewBlock k before later n addr x.run) (sym x.prepared) new_here

  limits : later.limits ≡ t.opening.limits
  limits =
      let s = setting_of c.opening c.roll in
      let m = (now s c).state in
      let given : State = record m { vs = with_block m.vs x.run n } in
      (x.becomes c.opening m given (v.keeps.tells s (some_setting c.opening c.roll)) refl refl).limits ∙ ap (λ (k : Token). k.opening.limits) (sym x.prepared)

  sized : size_at later addr ≡ Some n
  sized = ap (option_and_then (λ p. live_size p.status)) x.there

  room : length t.prepared < 16
  room =
      let a = ap (λ (k : Token). length k.prepared) x.prepared in
      let b = length-append c.prepared (entry c.number place ∷ []) in
      let few = v.stands.few in
      omega (arith, a, b, few)

  back_here : IsBackOf (with_prepared c place) back
  back_here s q =
      back_still c.opening c.opening back (now s c).state (now s (with_prepared c place)).state refl (ap (λ (y : State). y.back) (fall.gap_state c vs back n zero_it vs_last v st x.run x.place s q)) (v.back_is s q)

  to_give : IsToGive t later addr n
  to_give = record {
    place = hand.place t before later n addr x.run in_gap;
    new = hand.new_block t before later n addr x.run in_gap;
    layer = refl;
    sized = sized;
    limits_are = limits;
    once_given = λ d zero over. hand.given_tells t before later n addr x.run in_gap d zero over;
  }

  pub block : HasBlock t later back addr n vs_last
  block = record {
    block = to_give;
    few = room;
    out_is = ap (λ (k : Token). k.out) x.prepared ∙ v.stands.out_is;
    owes = ap (λ (k : Token). k.owes) x.prepared ∙ v.stands.owes;
    back_is = subst (λ (k : Token). IsBackOf k back) (sym x.prepared) back_here;
  }

  gap_added : HasAdded c t (place ∷ [])
  gap_added = subst (λ (k : Token). HasAdded c k (place ∷ [])) (sym x.prepared) (added_one c place refl)

  pub placed : (f : Token) → HasEnded t f ((zeroing zero_it addr n ++ acts.Give addr n ∷ []) ++ gives vs_last) [] → HasPlaced c f n addr zero_it
  placed f e =
      let quiet = gives_quiet vs_last in
      placed_shows c f (place ∷ []) (gives vs_last) x.run.first x.run.count addr n zero_it x.at refl refl refl quiet.1 (gives_no_try vs_last) quiet.0 (ended_then c t f (place ∷ []) ((zeroing zero_it addr n ++ acts.Give addr n ∷ []) ++ gives vs_last) [] gap_added e)
