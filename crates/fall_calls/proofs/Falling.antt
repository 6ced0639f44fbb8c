-- What an allocation may do that falls to the variable-size layer, under both locks, and its refusal.
use Rattle.std.proofs.Common.{◌≡◌, ℕ, ◌*◌, ◌≤◌, Bool, true, List, [], ◌∷◌, Option, Some, refl, sym, ap, ◌∙◌, subst, arith}
use Rattle.heap_model.specs.declared.Act.{Act}
use Rattle.heap_model.specs.declared.Act.TheVariants as acts
use Rattle.heap_model.specs.declared.Call.{Call}
use Rattle.heap_model.specs.declared.Call.TheVariants as calls
use Rattle.heap_model.specs.declared.Layer.TheVariants as layers
use Rattle.heap_model.specs.declared.Reply.TheVariants as replies
use Rattle.heap_model.specs.declared.What.TheVariants as whats
use Rattle.heap_model.specs.Backend.{back_place}
use Rattle.heap_model.specs.Buckets.{bucket_of}
use Rattle.heap_model.specs.CallState.{Configuration}
use Rattle.heap_model.specs.Geometry.{span_pages_of, units_of}
use Rattle.heap_model.specs.Layers.{StandsForVs, StandsForBack}
use Rattle.heap_model.specs.Legal.{leaves_whole, serve}
use Rattle.heap_model.specs.Ranges.{gaps, vs_place}
use Rattle.heap_model.specs.Runs.{Run}
use Rattle.heap_model.specs.Shape.{Replied, HasActs}
use Rattle.heap_model.specs.State.{State, BackPart, holds}
use Rattle.search_laws.proofs.Blocks.{bucket_fits}
use Rattle.claim_rule.specs.Entries.{may_prepare}
use Rattle.call_laws.specs.Within.{IsWithin}
use Rattle.call_laws.proofs.Exclusive.{falling_into_gap, refusing_searched}
use Rattle.backend_fit.specs.Kept.{Kept, area_of}
use Rattle.backend_fit.specs.Kept as backs
use Rattle.vs_layer.specs.Kept.{VsKept, place_for}
use Rattle.vs_layer.specs.Standing.{layer_of}
use Rattle.vs_layer.proofs.Told.{place_is}
use Rattle.heap_gate.specs.Token.{Token, Always, now, is_out, IsStanding}
use Rattle.heap_gate.specs.Calls.{with_prepared}
use Rattle.call_parts.specs.Calls.{Brings}
use Rattle.call_parts.specs.Entries.{HasEnded}
use Rattle.call_parts.proofs.Handing.{new_place}
use Rattle.call_parts.proofs.Serving.{within}
use Rattle.call_parts.proofs.Tokens.{now_more, prepares, added_one, ended_then}
use Rattle.vs_calls.specs.Parts.{Refuses}
use Rattle.vs_calls.proofs.InHand.{with_hand}
use Rattle.small_calls.proofs.Shown.{IsShown, made}
use Rattle.fall_calls.specs.Both.{both_slots, gives, HasTwo}
use Rattle.fall_calls.specs.Falls.{FallsToVs, HasNoRoom}
use Rattle.fall_calls.proofs.HandedTwo.{vs_out, back_out}
use Rattle.fall_calls.proofs.Resting.{rests_then, gives_quiet, same_call}

-- the row of the place counts it for the bucket of its size
with_bucket : (st : State) (k n b : ℕ) (r : Run) → bucket_of n ≡ Some b → record st {
  vs = record { places = new_place k layers.Vs (16 * r.first) r.count ∷ st.vs.places; active = st.vs.active; served = serve (Some b) st.vs.served };
} ≡ with_hand st k n r
with_bucket st k n b r e = ap (λ (o : Option ℕ). record st {
  vs = record { places = new_place k layers.Vs (16 * r.first) r.count ∷ st.vs.places; active = st.vs.active; served = serve o st.vs.served };
}) (sym e)

-- a size of a bucket is one of VS
pub small_size : (n b : ℕ) → bucket_of n ≡ Some b → n ≤ 131072
small_size n b e = let l = (bucket_fits n b e).0 in omega (arith, l)

module _ (c : Token) (vs : VsKept) (back : Kept) (n : ℕ) (zero_it vs_last : Bool) (x : FallsToVs c vs back n zero_it vs_last) (st : IsStanding c) where
  abbrev own_call : Call
  own_call = calls.Alloc n x.flags

  within_now : Always c (λ s. IsWithin (now s c) c.number own_call)
  within_now s q = within c own_call st x.stands.inside x.stands.call_is x.stands.whole s q

  pub has_vs : Always c (λ s. holds (now s c).state.gate c.number whats.Vs ≡ true)
  has_vs s q = (st s q).locks whats.Vs ∙ (ap (is_out whats.Vs) x.stands.out_is ∙ vs_out vs_last)

  has_back : Always c (λ s. holds (now s c).state.gate c.number whats.Back ≡ true)
  has_back s q = (st s q).locks whats.Back ∙ (ap (is_out whats.Back) x.stands.out_is ∙ back_out vs_last)

  ---- A gap

  fits_now : (run : Run) → place_for vs n ≡ Some run → Always c (λ s. vs_place (gaps (now s c).state) (units_of n) ≡ Some run)
  fits_now run fits s q = sym (place_is c.opening (now s c).state vs (x.keeps.tells s q) n) ∙ fits

  -- the block may go into the gap
  pub gap_may : (run : Run) → place_for vs n ≡ Some run → Always c (λ s. may_prepare s (now s c) c.number (acts.Place (16 * run.first) run.count layers.Vs) ≡ true)
  gap_may run fits s q =
      prepares s (now s c) c.number (acts.Place (16 * run.first) run.count layers.Vs) (x.cannot.old s q) refl
      (falling_into_gap s (now s c) c.number own_call n x.bucket run (within_now s q) (has_vs s q) (has_back s q) (x.cannot.said s q) refl x.bucket_is (x.cannot.refused s q) (fits_now run fits s q)).may

  -- .. and is in hand then
  pub gap_state : (run : Run) → place_for vs n ≡ Some run → Always c (λ s. (now s (with_prepared c (acts.Place (16 * run.first) run.count layers.Vs))).state ≡ with_hand (now s c).state c.number n run)
  gap_state run fits s q =
      ap (λ (m : Configuration). m.state) (now_more s c (acts.Place (16 * run.first) run.count layers.Vs))
      ∙ ((falling_into_gap s (now s c) c.number own_call n x.bucket run (within_now s q) (has_vs s q) (has_back s q) (x.cannot.said s q) refl x.bucket_is (x.cannot.refused s q) (fits_now run fits s q)).state
      ∙ with_bucket (now s c).state c.number n x.bucket run x.bucket_is)

  ---- The refusal

  abbrev none : Act
  none = acts.NoFit n

  -- there is no range
  pub none_may : HasNoRoom vs back n → Always c (λ s. may_prepare s (now s c) c.number none ≡ true)
  none_may r s q =
      let area : area_of back ≡ (now s c).state.back.area = ap (λ (b : BackPart). b.area) (x.back_is s q).part in
      let l : back.limits ≡ s.limits = (x.back_is s q).limits ∙ sym q.limits in
      prepares s (now s c) c.number none (x.cannot.old s q) refl
      (refusing_searched s (now s c) c.number own_call n x.bucket (within_now s q) (has_vs s q) (has_back s q) refl x.bucket_is (x.cannot.refused s q) (sym (place_is c.opening (now s c).state vs (x.keeps.tells s q) n) ∙ r.no_gap)
      ((λ i. back_place (sym area i) (sym l i).segments (span_pages_of n)) ∙ r.no_pages)).may

  abbrev pub told : Token
  told = with_prepared c none

  same_state : (P : State → Type 0) → Always c (λ s. P (now s c).state) → Always c (λ s. P (now s told).state)
  same_state P f s q = subst (λ (m : Configuration). P m.state) (sym (now_more s c none)) (f s q)

  pub told_two : HasTwo told vs back vs_last
  told_two = record {
    inside = x.stands.inside;
    whole = refl;
    free = x.stands.free;
    out_is = x.stands.out_is;
    owes = x.stands.owes;
    keeps = record {
      tells = same_state (λ (y : State). StandsForVs c.opening y (layer_of vs)) x.keeps.tells;
      used = same_state (λ (y : State). leaves_whole y whats.Vs ≡ true) x.keeps.used;
    };
    back_is = same_state (λ (y : State). StandsForBack c.opening y (backs.layer_of back)) x.back_is;
  }

  pub refused : (f : Token) → HasEnded told f (gives vs_last) [] → Refuses c f
  refused f e call h =
      let ended : HasEnded c f (none ∷ gives vs_last) [] = ended_then c told f (none ∷ []) (gives vs_last) [] (added_one c none refl) e in
      let quiet = gives_quiet vs_last in
      let shape : List Act = none ∷ [] in
      let shown : IsShown c f shape = record { added = none ∷ gives vs_last; goes = ended.added.goes; no_begin = quiet.1; shape_is = ap (λ (l : List Act). none ∷ l) quiet.0 } in
      let answers : HasActs own_call (Replied replies.NoFit) shape = refl in
      subst (λ (k : Call). Brings c f k (Replied replies.NoFit)) (same_call c.call own_call call x.stands.call_is h)
      (shape, made c f own_call shape shown (rests_then c f own_call (both_slots vs_last) (none ∷ gives vs_last) x.stands ended), answers)
