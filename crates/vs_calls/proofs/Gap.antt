-- A block of VS in hand in a gap, for an allocation.
use Rattle.std.proofs.Common.{◌≡◌, ℕ, ◌*◌, ◌≤◌, Bool, Some, refl, sym, ap, subst, ◌∙◌}
use Rattle.std.specs.Prelude.{is_some}
use Rattle.heap_model.specs.declared.Act.{Act}
use Rattle.heap_model.specs.declared.Act.TheVariants as acts
use Rattle.heap_model.specs.declared.Call.TheVariants as calls
use Rattle.heap_model.specs.declared.Layer.TheVariants as layers
use Rattle.heap_model.specs.declared.What.TheVariants as whats
use Rattle.heap_model.specs.CallState.{Configuration}
use Rattle.heap_model.specs.Geometry.{units_of}
use Rattle.heap_model.specs.Ranges.{gaps, vs_spans, vs_place}
use Rattle.call_laws.proofs.Places.{placing_in_gap}
use Rattle.serial_laws.proofs.VsAllocate.{count_is}
use Rattle.vs_layer.specs.Kept.{VsKept, gaps_in, block_in}
use Rattle.vs_layer.proofs.Told.{place_is}
use Rattle.heap_gate.specs.Token.{Token, Always, now, IsStanding, is_out}
use Rattle.heap_gate.specs.Calls.{with_prepared}
use Rattle.call_parts.proofs.Serving.{within}
use Rattle.call_parts.proofs.Tokens.{now_more}
use Rattle.vs_calls.specs.Blocks.{HasHeld}
use Rattle.vs_calls.specs.Parts.{IsPlacing}
use Rattle.vs_calls.proofs.Asked.{vs_route}
use Rattle.vs_calls.proofs.InHand.{with_hand, used_more, HasNewBlock}

module _ (c t : Token) (vs later : VsKept) (n addr : ℕ) (zero_it : Bool) (v : IsPlacing c vs n zero_it) (st : IsStanding c) (size : n ≤ 131072) (x : HasHeld c t vs later n addr) where
  abbrev pub place : Act
  place = acts.Place (16 * x.run.first) x.run.count layers.Vs

  pub state_now : Always c (λ s. (now s (with_prepared c place)).state ≡ with_hand (now s c).state c.number n x.run)
  state_now s q =
      let m = now s c in
      let h = v.holds in
      let w = within c (calls.Alloc n v.flags) st h.serving.inside h.serving.call_is h.serving.whole s q in
      let held = (st s q).locks whats.Vs ∙ ap (is_out whats.Vs) h.serving.out_is in
      let fits : vs_place (gaps m.state) (units_of n) ≡ Some x.run = sym (place_is c.opening m.state vs (h.tells s q) n) ∙ x.place in
      ap (λ (k : Configuration). k.state) (now_more s c place)
      ∙ (placing_in_gap s m c.number (calls.Alloc n v.flags) n x.run w held refl (vs_route n size) (v.bucket s q) fits).state

  new_here : HasNewBlock (with_prepared c place) (λ s. (now s c).state) later n addr x.run
  new_here = record {
    at = x.at;
    size = size;
    count = count_is (gaps_in vs) (units_of n) x.run x.place;
    inside = v.holds.serving.inside;
    whole = refl;
    begun = ap is_some v.holds.serving.call_is;
    state = state_now;
    none = λ s q. (st s q).hands v.holds.serving.free;
    held = λ s q. (st s q).locks whats.Vs ∙ ap (is_out whats.Vs) v.holds.serving.out_is;
    tells = λ s q k e f. x.becomes c.opening (now s c).state k (v.holds.tells s q) e f;
    used = λ s q. used_more (block_in x.run n) (now s c).state.vs.places (vs_spans (now s c).state.back.area) (v.used s q);
  }

  pub new_in_gap : HasNewBlock t (λ s. (now s c).state) later n addr x.run
  new_in_gap = subst (λ (k : Token). HasNewBlock k (λ s. (now s c).state) later n addr x.run) (sym x.prepared) new_here
