-- Each block of the front end lies within the segments, in every legal history.
use Rattle.std.proofs.Common.{◌≡◌, ℕ, zero, suc, ◌+◌, ◌-◌, ◌*◌, ◌/◌, ◌<◌, ◌≤◌, ◌==◌, Bool, true, ◌&&◌, not, List, [], ◌∷◌, Option, Some, None, sym, ap, ◌∙◌, subst, arith, eqb, ltb, inl, inr}
use Rattle.std.specs.Prelude.{option_and_then}
use Rattle.std.specs.List.{AllByRecursion, list_any, find}
use Rattle.std.proofs.lemmas.Bool.{cases_Bool, and_parts, eqb-true, ltb-true, both_ways, not-true}
use Rattle.heap_model.specs.declared.Act.{Act}
use Rattle.heap_model.specs.declared.Act.TheVariants as acts
use Rattle.heap_model.specs.declared.Entry.{Entry}
use Rattle.heap_model.specs.declared.Kind.{Kind}
use Rattle.heap_model.specs.declared.Kind.TheVariants as kinds
use Rattle.heap_model.specs.declared.Layer.{Layer}
use Rattle.heap_model.specs.declared.Layer.TheVariants as layers
use Rattle.heap_model.specs.declared.What.TheVariants as whats
use Rattle.heap_model.specs.Buckets.{bucket_of, bucket_pages, block_size, block_count, block_address}
use Rattle.heap_model.specs.Runs.{Run}
use Rattle.heap_model.specs.State.{Setting, State, Area, Span, Place, Status, Live, InHand, address, has_address, is_kind, is_layer, is_in_hand_of, is_hand_at, is_live, is_live_at, place_at, hand_at, remove_found, change_found}
use Rattle.heap_model.specs.Stay.{for_some, is_some_of}
use Rattle.heap_model.specs.Bits.{starts_at}
use Rattle.heap_model.specs.Ranges.{gaps}
use Rattle.heap_model.specs.CallState.{Configuration, CallerView, caller_view}
use Rattle.heap_model.specs.Search.{Request, request_of, sought, spans_of, is_span_of, is_spent, search_key_of, may_claim, begins_at}
use Rattle.heap_model.specs.Legal.{after, may, may_follow, may_span, may_span_for, may_place_lfh, is_picked_in, is_resized, is_back_at, with_pages, with_status, resize_place, area_with, on, layer_of, may_touch}
use Rattle.heap_model.specs.History.{configuration_after, configuration_of, first_configuration, may_all_follow, is_legal}
use Rattle.heap_model.proofs.GateSound.{row_of}
use Rattle.heap_model.proofs.Homes.{hand_found}
use Rattle.heap_model.proofs.ListLemmas.{for_some_parts, is_some_of_parts}
use Rattle.claim_rule.proofs.Lists.{legal_parts}
use Rattle.heap_soundness.specs.Invariant.{IsPickSound}
use Rattle.heap_soundness.proofs.Lists.{all_at, all_weaker, all_removed, all_changed, any_found, found_in, found_passes}
use Rattle.heap_soundness.proofs.Enums.{kind_is}
use Rattle.heap_soundness.proofs.Spans.{all_inserted}
use Rattle.heap_soundness.proofs.RowLemmas.{SpanRow, span_row}
use Rattle.heap_soundness.proofs.Reserved.{act_below}
use Rattle.heap_soundness.proofs.BackendLemmas.{AreFree, back_place_free, usable_of}
use Rattle.heap_soundness.proofs.Picks.{picks_after, sought_asked}
use Rattle.heap_soundness.proofs.MadeSpans.{search_is}
use Rattle.heap_soundness.proofs.GapRuns.{filtered_cases}
use Rattle.heap_soundness.proofs.Layers.{block_end}
use Rattle.heap_soundness.proofs.Changes.{on_either}
use Rattle.step_parts.specs.InHand.{HasBlock}
use Rattle.step_parts.proofs.ChangedPlaces.{lfh_address}
use Rattle.lfh_claims.proofs.Hands.{homes_of}

---- What is kept

-- a subsegment has the pages of its bucket, in so many segments
abbrev IsLow : ℕ → Span → Type 0
IsLow reserved x = x.kind ≡ kinds.Lfh → (x.pages ≡ bucket_pages x.bucket) × (x.first + x.pages ≤ 256 * reserved)

-- a place ends in them
abbrev IsShort : ℕ → Place → Type 0
IsShort segments p = p.start + 16 * p.granules ≤ 1048576 * segments

record IsBounded (s : Setting) (m : Configuration) : Type 0 where
  pub reserved : m.state.back.area.reserved ≤ s.limits.segments
  pub spans : AllByRecursion (IsLow m.state.back.area.reserved) m.state.back.area.spans
  pub places : AllByRecursion (IsShort s.limits.segments) m.state.lfh
  pub picks : (c : ℕ) → IsPickSound (m.now.calls c)

---- Spans

lower : (r : ℕ) (xs : List Span) → AllByRecursion (IsLow r) xs → AllByRecursion (IsLow (r + 1)) xs
lower r xs h = all_weaker (IsLow r) (IsLow (r + 1)) xs (λ x i l k. let q = l k in let e = q.1 in (q.0, omega (arith, e))) h

units_end : (a : Area) (first pages : ℕ) → first / 256 < a.reserved → AreFree a first pages → first + pages ≤ 256 * a.reserved
units_end a first zero l f = omega (arith, l)
units_end a first (suc pages) l f = let u = ltb-true ((first + pages) / 256) a.reserved (and_parts (ltb ((first + pages) / 256) a.reserved) _ (usable_of a (first + pages) (f pages (omega arith)))).0 in omega (arith, u)

new_low : (s : Setting) (a : Area) (spaces : List Run) (c : ℕ) (k : CallerView) (request : Request) (first pages bucket slot : ℕ) (kind : Kind) → may_span s a spaces c k request (record { first = first; pages = pages; kind = kind; bucket = bucket; slot = slot }) ≡ true
    → IsLow a.reserved (record { first = first; pages = pages; kind = kind; bucket = bucket; slot = slot })
new_low s a spaces c k request first pages bucket slot kind h is = (
  eqb-true pages (bucket_pages q.0) t.1 ∙ ap bucket_pages (sym same),
  units_end a first pages r.reserved (back_place_free a s.limits.segments pages first r.place r.reserved),
)
  where
    r : SpanRow s a spaces c k request (record { first = first; pages = pages; kind = kind; bucket = bucket; slot = slot })
    r = span_row s a spaces c k request (record { first = first; pages = pages; kind = kind; bucket = bucket; slot = slot }) h

    q : (b : ℕ) × (request.search ≡ Some b) × ((eqb bucket b && is_spent a k (search_key_of s c k.call b) && eqb pages (bucket_pages b)) ≡ true)
    q = for_some_parts request.search (λ b. eqb bucket b && is_spent a k (search_key_of s c k.call b) && eqb pages (bucket_pages b)) (subst (λ (x : Kind). may_span_for s a spaces c k request pages bucket x ≡ true) is r.owner)

    t : ((eqb bucket q.0 && is_spent a k (search_key_of s c k.call q.0)) ≡ true) × (eqb pages (bucket_pages q.0) ≡ true)
    t = and_parts (eqb bucket q.0 && is_spent a k (search_key_of s c k.call q.0)) (eqb pages (bucket_pages q.0)) q.2

    same : bucket ≡ q.0
    same = eqb-true bucket q.0 (and_parts (eqb bucket q.0) _ t.0).0

-- only a span of the back end is made longer
longer : (r first pages : ℕ) (xs : List Span) → AllByRecursion (IsLow r) xs → AllByRecursion (IsLow r) (change_found (is_back_at first) (with_pages pages) xs)
longer r first pages xs h = all_changed (IsLow r) (is_back_at first) (with_pages pages) xs (λ x t l is.
    let back : x.kind ≡ kinds.Back = kind_is x.kind kinds.Back (and_parts (begins_at first x) (is_kind x.kind kinds.Back) t).1 in
    let no : kinds.Lfh ≡ kinds.Back = sym is ∙ back in absurd (let bad : ⊥ = cc (no) in bad)) h

resized_spans : (a : Area) (granules : ℕ) (o : Option Place) → AllByRecursion (IsLow a.reserved) a.spans → AllByRecursion (IsLow (area_with a granules o).reserved) (area_with a granules o).spans
resized_spans a granules None h = h
resized_spans a granules (Some p) h = elim (cases_Bool (is_layer p.layer layers.Back)) [
  | inl e ↦ rw e (longer a.reserved (p.start / 4096) (granules / (4096 / 16)) a.spans h)
  | inr e ↦ rw e h
]

---- Places

-- a block that a search has picked
picked_short : (s : Setting) (m : Configuration) (c start granules : ℕ) → IsBounded s m → may_place_lfh s m.state.back.area m.state.lfh c (caller_view m c) (request_of s m c) start granules ≡ true → start + 16 * granules ≤ 1048576 * s.limits.segments
picked_short s m c start granules h ok =
    let k = caller_view m c in
    let q = for_some_parts (request_of s m c).search (λ b. list_any (is_picked_in b k.call.search start granules) (spans_of m.state.back.area b (s.slot c))) (and_parts (k.entered && not (starts_at m.state.lfh start)) (for_some (request_of s m c).search (λ b. list_any (is_picked_in b k.call.search start granules) (spans_of m.state.back.area b (s.slot c)))) ok).1 in
    let b = q.0 in
    let f = any_found (is_picked_in b k.call.search start granules) (spans_of m.state.back.area b (s.slot c)) q.2 in
    let x = f.0 in
    let i = (start - block_address b x.first 0) / block_size b in
    let t1 = and_parts _ _ f.2 in
    let t2 = and_parts (may_claim k.call.search x.first i) _ t1.0 in
    let at : start ≡ block_address b x.first i = eqb-true start (block_address b x.first i) t2.1 in
    let size : 16 * granules ≡ block_size b = eqb-true (16 * granules) (block_size b) t1.1 in
    let pick = is_some_of_parts k.call.search.picked i (and_parts (is_some_of k.call.search.picked i) _ t2.0).0 in
    let sound = h.picks c i pick in
    let asks = sought_asked s m.state c (m.now.calls c) b (search_is m.state.vs.active (option_and_then bucket_of (sought s m.state c (m.now.calls c))) b q.1).0 in
    let both : Some sound.0 ≡ Some b = sym sound.1 ∙ asks in
    let same : sound.0 ≡ b = cc (both) in
    let below : i < block_count b = subst (λ (z : ℕ). i < block_count z) same sound.2 in
    let there = filtered_cases (is_span_of b (s.slot c)) x m.state.back.area.spans f.1 in
    let u1 = and_parts (is_kind x.kind kinds.Lfh && (x.bucket == b)) (x.slot == s.slot c) there.1 in
    let u2 = and_parts (is_kind x.kind kinds.Lfh) (x.bucket == b) u1.0 in
    let low = all_at (IsLow m.state.back.area.reserved) x m.state.back.area.spans h.spans there.0 (kind_is x.kind kinds.Lfh u2.0) in
    let pages : x.pages ≡ bucket_pages b = low.0 ∙ ap bucket_pages (eqb-true x.bucket b u2.1) in
    ends (block_address b x.first i) (block_size b) x.first (bucket_pages b) x.pages m.state.back.area.reserved (block_end b x.first i below) pages low.1 h.reserved at size
  where
    ends : (y size first n pages reserved : ℕ) → y + size ≤ 4096 * (first + n) → pages ≡ n → first + pages ≤ 256 * reserved → reserved ≤ s.limits.segments → start ≡ y → 16 * granules ≡ size → start + 16 * granules ≤ 1048576 * s.limits.segments
    ends y size first n pages reserved a b d e f g = omega (arith, a, b, d, e, f, g)

-- the place that is resized is none of the front end
not_front : (s : Setting) (st : State) (k : CallerView) (granules size : ℕ) (o : Option Place) → for_some o (is_resized s st k granules size) ≡ true → layer_of o ≡ Some layers.Lfh → ⊥
not_front s st k granules size None ok e = let bad : ⊥ = cc (e) in bad
not_front s st k granules size (Some p) ok e =
    let t1 = and_parts _ _ ok in
    let t2 = and_parts _ _ t1.0 in
    let t3 = and_parts _ (is_live p.status) t2.0 in
    let t4 = and_parts (may_touch k p.layer) (not (is_layer p.layer layers.Lfh)) t3.0 in
    let is : p.layer ≡ layers.Lfh = cc (e) in
    both_ways (is_layer p.layer layers.Lfh) (not-true (is_layer p.layer layers.Lfh) t4.1) (ap (λ (l : Layer). is_layer l layers.Lfh) is)

module _ (s : Setting) (m : Configuration) (n : ℕ) (h : IsBounded s m) where
  abbrev All : List Place → Type 0
  All ps = AllByRecursion (IsShort s.limits.segments) ps

  abbrev Behind : Act → Type 0
  Behind act = IsBounded s (after s m (record { caller = n; act = act }))

  picks : (act : Act) (c : ℕ) → IsPickSound ((after s m (record { caller = n; act = act })).now.calls c)
  picks act = picks_after s m.now.calls n act h.picks

  reserves : (act : Act) → may s m n act ≡ true → (after s m (record { caller = n; act = act })).state.back.area.reserved ≤ s.limits.segments
  reserves act ok = act_below s m n act ok h.reserved

  restatused : (t : Place → Bool) (status : Status) (o : Option Layer) → All (on layers.Lfh (change_found t (with_status status)) m.state.lfh o)
  restatused t status o = on_either All layers.Lfh (change_found t (with_status status)) m.state.lfh o (λ e. all_changed (IsShort s.limits.segments) t (with_status status) m.state.lfh (λ p i l. l) h.places) h.places

  dropped : (t : Place → Bool) (o : Option Layer) → All (on layers.Lfh (remove_found t) m.state.lfh o)
  dropped t o = on_either All layers.Lfh (remove_found t) m.state.lfh o (λ e. all_removed (IsShort s.limits.segments) t m.state.lfh h.places) h.places

  behind : (act : Act) → may s m n act ≡ true → Behind act
  behind (acts.Reserve segment) ok = record { reserved = reserves (acts.Reserve segment) ok; spans = lower m.state.back.area.reserved m.state.back.area.spans h.spans; places = h.places; picks = picks (acts.Reserve segment) }
  behind (acts.Span first pages kind bucket slot) ok = record {
    reserved = h.reserved;
    spans = all_inserted (IsLow m.state.back.area.reserved) (record { first = first; pages = pages; kind = kind; bucket = bucket; slot = slot }) m.state.back.area.spans
        (new_low s m.state.back.area (gaps m.state) n (caller_view m n) (request_of s m n) first pages bucket slot kind ok) h.spans;
    places = h.places;
    picks = picks (acts.Span first pages kind bucket slot);
  }
  behind (acts.Unspan first) ok = record { reserved = h.reserved; spans = all_removed (IsLow m.state.back.area.reserved) (begins_at first) m.state.back.area.spans h.spans; places = h.places; picks = picks (acts.Unspan first) }
  behind (acts.Place start granules layers.Lfh) ok = record { reserved = h.reserved; spans = h.spans; places = (picked_short s m n start granules h ok, h.places); picks = picks (acts.Place start granules layers.Lfh) }
  behind (acts.Place start granules layers.Vs) ok = record { reserved = h.reserved; spans = h.spans; places = h.places; picks = picks (acts.Place start granules layers.Vs) }
  behind (acts.Place start granules layers.Back) ok = record { reserved = h.reserved; spans = h.spans; places = h.places; picks = picks (acts.Place start granules layers.Back) }
  behind (acts.Place start granules layers.Large) ok = record { reserved = h.reserved; spans = h.spans; places = h.places; picks = picks (acts.Place start granules layers.Large) }
  behind (acts.Give a size) ok = record { reserved = h.reserved; spans = h.spans; places = restatused (is_hand_at n a) (Live size) (layer_of (hand_at m.state n a)); picks = picks (acts.Give a size) }
  behind (acts.Take a size) ok = record { reserved = h.reserved; spans = h.spans; places = restatused (is_live_at a) (InHand n) (layer_of (place_at m.state n a)); picks = picks (acts.Take a size) }
  behind (acts.Drop a) ok = record { reserved = h.reserved; spans = h.spans; places = dropped (is_hand_at n a) (layer_of (hand_at m.state n a)); picks = picks (acts.Drop a) }
  behind (acts.Resize a granules size) ok = record {
    reserved = reserves (acts.Resize a granules size) ok;
    spans = resized_spans m.state.back.area granules (place_at m.state n a) h.spans;
    places = on_either All layers.Lfh (change_found (is_live_at a) (resize_place granules size)) m.state.lfh (layer_of (place_at m.state n a))
        (λ e. absurd (not_front s m.state (caller_view m n) granules size (place_at m.state n a) (and_parts (caller_view m n).entered _ ok).1 e)) h.places;
    picks = picks (acts.Resize a granules size);
  }
  behind (acts.Decommit page) ok = record { reserved = h.reserved; spans = h.spans; places = h.places; picks = picks (acts.Decommit page) }
  behind (acts.Begin call) ok = record { reserved = h.reserved; spans = h.spans; places = h.places; picks = picks (acts.Begin call) }
  behind acts.Enter ok = record { reserved = h.reserved; spans = h.spans; places = h.places; picks = picks acts.Enter }
  behind acts.Leave ok = record { reserved = h.reserved; spans = h.spans; places = h.places; picks = picks acts.Leave }
  behind acts.Lock ok = record { reserved = h.reserved; spans = h.spans; places = h.places; picks = picks acts.Lock }
  behind acts.Unlock ok = record { reserved = h.reserved; spans = h.spans; places = h.places; picks = picks acts.Unlock }
  behind (acts.Blocked whats.Gate word) ok = record { reserved = h.reserved; spans = h.spans; places = h.places; picks = picks (acts.Blocked whats.Gate word) }
  behind (acts.Blocked whats.Lfh word) ok = record { reserved = h.reserved; spans = h.spans; places = h.places; picks = picks (acts.Blocked whats.Lfh word) }
  behind (acts.Blocked whats.Vs word) ok = record { reserved = h.reserved; spans = h.spans; places = h.places; picks = picks (acts.Blocked whats.Vs word) }
  behind (acts.Blocked whats.Back word) ok = record { reserved = h.reserved; spans = h.spans; places = h.places; picks = picks (acts.Blocked whats.Back word) }
  behind (acts.Blocked whats.Large word) ok = record { reserved = h.reserved; spans = h.spans; places = h.places; picks = picks (acts.Blocked whats.Large word) }
  behind (acts.TakeLock what) ok = record { reserved = h.reserved; spans = h.spans; places = h.places; picks = picks (acts.TakeLock what) }
  behind (acts.GiveLock what) ok = record { reserved = h.reserved; spans = h.spans; places = h.places; picks = picks (acts.GiveLock what) }
  behind (acts.Saw head word bits) ok = record { reserved = h.reserved; spans = h.spans; places = h.places; picks = picks (acts.Saw head word bits) }
  behind (acts.Lost head index) ok = record { reserved = h.reserved; spans = h.spans; places = h.places; picks = picks (acts.Lost head index) }
  behind (acts.NoHint bucket slot) ok = record { reserved = h.reserved; spans = h.spans; places = h.places; picks = picks (acts.NoHint bucket slot) }
  behind (acts.Active bucket) ok = record { reserved = h.reserved; spans = h.spans; places = h.places; picks = picks (acts.Active bucket) }
  behind (acts.NoSpan bucket) ok = record { reserved = h.reserved; spans = h.spans; places = h.places; picks = picks (acts.NoSpan bucket) }
  behind (acts.NoFit size) ok = record { reserved = h.reserved; spans = h.spans; places = h.places; picks = picks (acts.NoFit size) }
  behind (acts.NotLive a) ok = record { reserved = h.reserved; spans = h.spans; places = h.places; picks = picks (acts.NotLive a) }
  behind (acts.Sized a size) ok = record { reserved = h.reserved; spans = h.spans; places = h.places; picks = picks (acts.Sized a size) }
  behind (acts.Load w v) ok = record { reserved = h.reserved; spans = h.spans; places = h.places; picks = picks (acts.Load w v) }
  behind (acts.Store w v) ok = record { reserved = h.reserved; spans = h.spans; places = h.places; picks = picks (acts.Store w v) }

bounded : (s : Setting) (m : Configuration) (es : List Entry) → may_all_follow s m es ≡ true → IsBounded s m → IsBounded s (configuration_after s m es)
bounded s m [] ok h = h
bounded s m (e ∷ es) ok h =
    let p = and_parts (may_follow s m e) (may_all_follow s (after s m e) es) ok in
    bounded s (after s m e) es p.1 (behind s m e.caller h e.act (row_of s m e p.0))

bounded_first : (s : Setting) → IsBounded s first_configuration
bounded_first s = record { reserved = omega arith; spans = tt; places = tt; picks = λ c i e. absurd (let z : ⊥ = cc (e) in z) }

---- A block in hand

-- it ends in the segments
pub block_within : (s : Setting) (es : List Entry) (n b addr : ℕ) → is_legal s es ≡ true → HasBlock (configuration_of s es) n b addr → addr + block_size b ≤ 1048576 * s.limits.segments
block_within s es n b addr ok x =
    let st = (configuration_of s es).state in
    let p = x.hand.place in
    let f : find (is_hand_at n addr) st.lfh ≡ Some p = subst (λ (l : Layer). find (is_hand_at n addr) (Rattle.heap_model.specs.State.places_of st l) ≡ Some p) x.hand.layer (hand_found st (homes_of s es) n addr p x.hand.hand) in
    let h = bounded s first_configuration es (legal_parts s es ok).0 (bounded_first s) in
    let short = all_at (IsShort s.limits.segments) p st.lfh h.places (found_in (is_hand_at n addr) st.lfh p f) in
    let at : address p ≡ addr = eqb-true (address p) addr (and_parts (has_address addr p) (is_in_hand_of n p.status) (found_passes (is_hand_at n addr) st.lfh p f)).0 in
    let start : p.start ≡ addr = sym (lfh_address p x.hand.layer) ∙ at in
    let long = x.long in
    ends p.start p.granules (block_size b) short start long
  where
    ends : (start granules size : ℕ) → start + 16 * granules ≤ 1048576 * s.limits.segments → start ≡ addr → 16 * granules ≡ size → addr + size ≤ 1048576 * s.limits.segments
    ends start granules size a e f = omega (arith, a, e, f)
