-- What an allocation may do under the locks of VS and of the back end, where no gap fits: a span is made for the block.
use Rattle.std.proofs.Common.{◌≡◌, ◌⊎◌, ℕ, ◌+◌, ◌*◌, ◌/◌, ◌<◌, ◌≤◌, Bool, true, false, List, [], ◌∷◌, Some, None, refl, sym, ap, subst, ◌∙◌, arith, ltb, inl, inr}
use Rattle.std.specs.Prelude.{filter, is_some}
use Rattle.std.proofs.lemmas.Bool.{cases_Bool, and_parts, lt-ltb, le-ltb, ltb-true}
use Rattle.heap_model.specs.declared.Act.{Act}
use Rattle.heap_model.specs.declared.Act.TheVariants as acts
use Rattle.heap_model.specs.declared.Call.{Call}
use Rattle.heap_model.specs.declared.Call.TheVariants as calls
use Rattle.heap_model.specs.declared.Flags.{Flags}
use Rattle.heap_model.specs.declared.Kind.TheVariants as kinds
use Rattle.heap_model.specs.declared.Layer.TheVariants as layers
use Rattle.heap_model.specs.declared.Limits.{Limits}
use Rattle.heap_model.specs.declared.What.TheVariants as whats
use Rattle.heap_model.specs.Backend.{back_place}
use Rattle.heap_model.specs.Buckets.{bucket_of}
use Rattle.heap_model.specs.CallState.{Configuration, caller_view}
use Rattle.heap_model.specs.Geometry.{units_of, span_pages_of}
use Rattle.heap_model.specs.History.{configuration_after, may_all_follow}
use Rattle.heap_model.specs.Layers.{StandsForVs, StandsForBack}
use Rattle.heap_model.specs.Legal.{may_follow, after, with_span, goes_to_lfh, leaves_whole}
use Rattle.heap_model.specs.Ranges.{vs_spans, gaps, gaps_of, vs_place, is_of_kind}
use Rattle.heap_model.specs.Runs.{Run}
use Rattle.heap_model.specs.State.{Setting, Area, Span, VsPart, by_address, insert_span}
use Rattle.heap_model.specs.Stay.{for_some}
use Rattle.heap_soundness.specs.Sound.{AreInOrder}
use Rattle.claim_rule.specs.Entries.{entry, are_prepared}
use Rattle.serial_laws.specs.VsCalls.{vs_span_for}
use Rattle.call_laws.specs.Within.{by_all, IsWithin}
use Rattle.call_laws.specs.Spans.{vs_acts, with_vs_block}
use Rattle.call_laws.proofs.Exclusive.{allocation_holds_old}
use Rattle.call_laws.proofs.Spans.{call_behind, placing_in_span, reserving_span}
use Rattle.search_laws.proofs.Filtered.{filtered_in_order}
use Rattle.backend_fit.specs.Effects.{with_segment}
use Rattle.backend_fit.specs.Kept.{Kept, area_of}
use Rattle.backend_fit.specs.Kept as backs
use Rattle.backend_fit.specs.Laws.{GoesBehind}
use Rattle.backend_fit.specs.Sound.{IsSound}
use Rattle.backend_fit.proofs.Goes.{same_segment, next_one}
use Rattle.backend_fit.proofs.Told.{goes_somewhere}
use Rattle.vs_layer.specs.Kept.{VsKept, vs_span, places_of}
use Rattle.vs_layer.specs.Standing as vss
use Rattle.vs_layer.proofs.ByPlace.{gaps_sorted}
use Rattle.vs_layer.proofs.Told.{place_is}
use Rattle.heap_gate.specs.Token.{Token, Always, now, IsStanding, is_out}
use Rattle.call_parts.proofs.Serving.{within}
use Rattle.call_parts.proofs.Tokens.{prepares, one_prepared}
use Rattle.vs_calls.specs.Parts.{IsPlacingAnew, HasRange, span_acts}
use Rattle.vs_calls.proofs.Area.{area_is, spans_in_order}
use Rattle.vs_calls.proofs.Asked.{vs_route}

---- The spans of VS with one more

in_front : (x : Span) (from : ℕ) (xs : List Span) → AreInOrder from xs → x.first < from → insert_span x xs ≡ x ∷ xs
in_front x from [] a l = refl
in_front x from (y ∷ ys) a l = let e = lt-ltb x.first y.first (omega (arith, a.0, l)) in rw e refl

pub inserted : (t : Span → Bool) (x : Span) (from : ℕ) (xs : List Span) → AreInOrder from xs → t x ≡ true → filter t (insert_span x xs) ≡ insert_span x (filter t xs)
inserted t x from [] a h = rw h refl
inserted t x from (y ∷ ys) a h = elim (cases_Bool (ltb x.first y.first)) [
  | inl e ↦ elim (cases_Bool (t y)) [
    | inl g ↦ rw (e, h, g) (rw e refl)
    | inr g ↦
        let low = ltb-true x.first y.first e in
        let one = in_front x (y.first + y.pages) (filter t ys) (filtered_in_order t (y.first + y.pages) ys a.2) (omega (arith, low)) in
        rw (e, h, g) (sym one)
  ]
  | inr e ↦
      let again = inserted t x (y.first + y.pages) ys a.2 h in
      elim (cases_Bool (t y)) [
        | inl g ↦ rw (e, g) (rw e (ap (λ (zs : List Span). y ∷ zs) again))
        | inr g ↦ rw (e, g) again
      ]
]

pub spans_with : (a : Area) (first n : ℕ) → AreInOrder 0 a.spans → vs_spans (with_span a (vs_span_for first n)) ≡ insert_span (vs_span first (span_pages_of n)) (vs_spans a)
spans_with a first n order = inserted (is_of_kind kinds.Vs) (vs_span first (span_pages_of n)) 0 a.spans order refl

---- The entries

-- these entries can be prepared, and lead to the block in hand in its span
pub record SpanLeads (s : Setting) (m : Configuration) (c : ℕ) (rest : List Act) (first n : ℕ) (r : Run) : Type 0 where
  pub may : are_prepared s m c (by_all c rest) ≡ true
  pub state : (configuration_after s m (by_all c rest)).state ≡ with_vs_block m.state (with_segment m.state.back.area first) c first n r

module _ (s : Setting) (m : Configuration) (c n first : ℕ) (r : Run) (flags : Flags) where
  abbrev call : Call
  call = calls.Alloc n flags

  abbrev span : Act
  span = acts.Span first (span_pages_of n) kinds.Vs 0 0

  abbrev place : Act
  place = acts.Place (16 * r.first) r.count layers.Vs

  pub two_prepared : (m.now.calls c).call ≡ Some call → may_all_follow s m (by_all c (vs_acts first n r)) ≡ true → are_prepared s m c (by_all c (vs_acts first n r)) ≡ true
  two_prepared k h =
      let p = and_parts (may_follow s m (entry c span)) _ h in
      let q = and_parts (may_follow s (after s m (entry c span)) (entry c place)) true p.1 in
      let m1 = after s m (entry c span) in
      one_prepared s m c span (by_all c (place ∷ [])) (prepares s m c span (allocation_holds_old m c n flags k) refl p.0)
      (one_prepared s m1 c place [] (prepares s m1 c place (allocation_holds_old m1 c n flags (call_behind s m c call span refl k)) refl q.0) refl)

module _ (s : Setting) (m : Configuration) (c n first : ℕ) (r : Run) (flags : Flags) (w : IsWithin m c (calls.Alloc n flags)) (vs : (caller_view m c).vs ≡ true) (back : (caller_view m c).back ≡ true) (size : n ≤ 131072)
    (bucket : for_some (bucket_of n) (goes_to_lfh m.state.vs) ≡ false) (none : vs_place (gaps m.state) (units_of n) ≡ None)
    (fits : vs_place (gaps_of (vs_spans (with_span m.state.back.area (vs_span_for first n))) m.state.vs.places) (units_of n) ≡ Some r) where
  low_leads : back_place m.state.back.area s.limits.segments (span_pages_of n) ≡ Some first → first / 256 < m.state.back.area.reserved → SpanLeads s m c (vs_acts first n r) first n r
  low_leads goes low =
      let l = placing_in_span s m c (calls.Alloc n flags) n first r w vs back refl (vs_route n size) bucket (record { none = none; place = goes; reserved = low; fits = fits }) in
      record {
        may = two_prepared s m c n first r flags w.call_is l.may;
        state = l.state ∙ ap (λ (a : Area). with_vs_block m.state a c first n r) (sym (same_segment m.state.back.area first low));
      }

  abbrev reserve : Act
  reserve = acts.Reserve m.state.back.area.reserved

  high_leads : GoesBehind m.state.back.area s.limits.segments (span_pages_of n) first → SpanLeads s m c (reserve ∷ vs_acts first n r) first n r
  high_leads g =
      let m0 = after s m (entry c reserve) in
      let call0 = call_behind s m c (calls.Alloc n flags) reserve refl w.call_is in
      let l = reserving_span s m c (calls.Alloc n flags) n first r w vs back refl (vs_route n size) bucket (record { none = none; place = g.place; reserved = g.there; fits = fits }) g.less g.short in
      let p = and_parts (may_follow s m (entry c reserve)) _ l.may in
      record {
        may = one_prepared s m c reserve (by_all c (vs_acts first n r)) (prepares s m c reserve refl refl p.0) (two_prepared s m0 c n first r flags call0 p.1);
        state = l.state ∙ ap (λ (a : Area). with_vs_block m.state a c first n r) (sym (next_one m.state.back.area first g.first_is));
      }

  pub span_leads : back_place m.state.back.area s.limits.segments (span_pages_of n) ≡ Some first → (first / 256 < m.state.back.area.reserved) ⊎ GoesBehind m.state.back.area s.limits.segments (span_pages_of n) first
      → SpanLeads s m c (span_acts m.state.back.area.reserved first n r) first n r
  span_leads goes (inl low) = let e = lt-ltb (first / 256) m.state.back.area.reserved low in rw e (low_leads goes low)
  span_leads goes (inr g) =
      let at = g.first_is in
      let e = le-ltb (first / 256) m.state.back.area.reserved (omega (arith, at)) in rw e (high_leads g)

---- The token

-- what the states of both layers tell of a range
module _ (c : Token) (vs : VsKept) (back : Kept) (n first : ℕ) (r : Run) (tells_vs : Always c (λ s. StandsForVs c.opening (now s c).state (vss.layer_of vs)))
    (tells_back : Always c (λ s. StandsForBack c.opening (now s c).state (backs.layer_of back))) (sound : IsSound back) (g : HasRange vs back n first r) where
  places_now : Always c (λ s. by_address (now s c).state.vs.places ≡ places_of vs)
  places_now s q = ap (λ (p : VsPart). p.places) (sym (tells_vs s q).part)

  pub order_now : Always c (λ s. AreInOrder 0 (now s c).state.back.area.spans)
  order_now s q = spans_in_order c.opening (now s c).state back (tells_back s q) sound

  pub none_now : Always c (λ s. vs_place (gaps (now s c).state) (units_of n) ≡ None)
  none_now s q = sym (place_is c.opening (now s c).state vs (tells_vs s q) n) ∙ g.no_gap

  pub fits_now : Always c (λ s. vs_place (gaps_of (vs_spans (with_span (now s c).state.back.area (vs_span_for first n))) (now s c).state.vs.places) (units_of n) ≡ Some r)
  fits_now s q =
      let m = now s c in
      let xs : List Span = insert_span (vs_span first (span_pages_of n)) vs.spans in
      let spans : vs_spans (with_span m.state.back.area (vs_span_for first n)) ≡ xs =
      spans_with m.state.back.area first n (order_now s q) ∙ ap (insert_span (vs_span first (span_pages_of n))) (sym (tells_vs s q).spans) in
      ap (λ (ys : List Span). vs_place (gaps_of ys m.state.vs.places) (units_of n)) spans ∙ (ap (λ (rs : List Run). vs_place rs (units_of n)) (gaps_sorted xs m.state.vs.places (places_of vs) (places_now s q)) ∙ g.fits)

  area_now : Always c (λ s. area_of back ≡ (now s c).state.back.area)
  area_now s q = area_is c.opening (now s c).state back (tells_back s q) sound

  pub reserved_now : Always c (λ s. (now s c).state.back.area.reserved ≡ (area_of back).reserved)
  reserved_now s q = sym (ap (λ (a : Area). a.reserved) (area_now s q))

  pub pages_now : Always c (λ s. back_place (now s c).state.back.area s.limits.segments (span_pages_of n) ≡ Some first)
  pages_now s q =
      let segments : back.limits ≡ s.limits = (tells_back s q).limits ∙ sym q.limits in
      (λ i. back_place (sym (area_now s q) i) ((sym segments i).segments) (span_pages_of n)) ∙ g.pages

-- The caller is in a call under the lock of VS, with nothing in hand. The states of VS and of the back end tell what is there, each span of VS has a place, and
-- wherever there is a range for n bytes, its span and its place can be prepared.
pub record HoldsForSpan (c : Token) (vs : VsKept) (back : Kept) (n : ℕ) : Type 0 where
  pub stands : IsStanding c
  pub sound : IsSound back
  pub size : n ≤ 131072
  pub begun : is_some c.call ≡ true
  pub inside : c.inside ≡ true
  pub free : c.free ≡ true
  pub held : is_out whats.Vs c.out ≡ true
  pub used : Always c (λ s. leaves_whole (now s c).state whats.Vs ≡ true)
  pub tells_vs : Always c (λ s. StandsForVs c.opening (now s c).state (vss.layer_of vs))
  pub tells_back : Always c (λ s. StandsForBack c.opening (now s c).state (backs.layer_of back))
  pub leads : (first : ℕ) (r : Run) → HasRange vs back n first r → Always c (λ s. SpanLeads s (now s c) c.number (span_acts (area_of back).reserved first n r) first n r)

pub span_may : (c : Token) (vs : VsKept) (back : Kept) (n : ℕ) → HoldsForSpan c vs back n → (first : ℕ) (r : Run) → HasRange vs back n first r
    → Always c (λ s. are_prepared s (now s c) c.number (by_all c.number (span_acts (area_of back).reserved first n r)) ≡ true)
span_may c vs back n h first r g s q = (h.leads first r g s q).may

---- Of a size that the layer itself serves

module _ (c : Token) (vs : VsKept) (back : Kept) (n : ℕ) (zero_it : Bool) (v : IsPlacingAnew c vs back n zero_it) (st : IsStanding c) (sound : IsSound back) (size : n ≤ 131072) where
  anew_leads : (first : ℕ) (r : Run) → HasRange vs back n first r → Always c (λ s. SpanLeads s (now s c) c.number (span_acts (area_of back).reserved first n r) first n r)
  anew_leads first r g s q =
      let m = now s c in
      let h = v.holds in
      let goes = pages_now c vs back n first r h.tells_vs h.tells_back sound g s q in
      let somewhere = goes_somewhere c.opening m.state back (h.tells_back s q) sound (span_pages_of n) first (subst (λ (l : Limits). back_place m.state.back.area l.segments (span_pages_of n) ≡ Some first) q.limits goes) in
      let somewhere' = subst (λ (l : Limits). (first / 256 < m.state.back.area.reserved) ⊎ GoesBehind m.state.back.area l.segments (span_pages_of n) first) (sym q.limits) somewhere in
      subst (λ (k : ℕ). SpanLeads s m c.number (span_acts k first n r) first n r) (reserved_now c vs back n first r h.tells_vs h.tells_back sound g s q)
      (span_leads s m c.number n first r v.flags (within c (calls.Alloc n v.flags) st h.serving.inside h.serving.call_is h.serving.whole s q)
      ((st s q).locks whats.Vs ∙ ap (is_out whats.Vs) h.serving.out_is) ((st s q).locks whats.Back ∙ ap (is_out whats.Back) h.serving.out_is) size (v.bucket s q)
      (none_now c vs back n first r h.tells_vs h.tells_back sound g s q) (fits_now c vs back n first r h.tells_vs h.tells_back sound g s q) goes somewhere')

  pub anew_holds : HoldsForSpan c vs back n
  anew_holds = record {
    stands = st;
    sound = sound;
    size = size;
    begun = ap is_some v.holds.serving.call_is;
    inside = v.holds.serving.inside;
    free = v.holds.serving.free;
    held = ap (is_out whats.Vs) v.holds.serving.out_is;
    used = v.used;
    tells_vs = v.holds.tells_vs;
    tells_back = v.holds.tells_back;
    leads = anew_leads;
  }
