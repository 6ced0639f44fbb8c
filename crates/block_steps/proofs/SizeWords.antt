-- What a size word tells of an address in a subsegment: 0 that no live block has it, another number a live block of the subsegment.
use Rattle.std.proofs.Common.{◌≡◌, ℕ, ◌+◌, ◌-◌, ◌*◌, ◌/◌, ◌%◌, ◌<◌, ◌≤◌, true, false, not, ◌&&◌, List, refl, sym, ap, ◌∙◌, subst, arith, Option, Some, None, inl, inr}
use Rattle.std.specs.Prelude.{unwrap_or, option_map}
use Rattle.std.specs.List.{find}
use Rattle.std.proofs.lemmas.Bool.{cases_Bool, and_parts, and_from, eqb-true, false≢true}
use Rattle.heap_model.specs.declared.Act.TheVariants as acts
use Rattle.heap_model.specs.declared.Kind.TheVariants as kinds
use Rattle.heap_model.specs.declared.Layer.TheVariants as layers
use Rattle.heap_model.specs.Buckets.{block_address, block_count, block_size}
use Rattle.heap_model.specs.State.{Setting, Span, Place, Status, Live, InHand, address, has_address, live_size, is_live, is_live_at, is_entered}
use Rattle.heap_model.specs.CallState.{Configuration}
use Rattle.heap_model.specs.Legal.{may, has_live}
use Rattle.heap_soundness.specs.Sound.{IsOneOf, IsInVs, IsInBack, IsInLarge, IsInLfh}
use Rattle.heap_soundness.specs.Invariant.{Keeps}
use Rattle.heap_soundness.proofs.Lists.{all_at, any_found, found_in, found_passes}
use Rattle.heap_soundness.proofs.Spans.{same_span}
use Rattle.claim_rule.specs.Shown.{size_word}
use Rattle.claim_rule.proofs.Advance.{before}
use Rattle.step_parts.proofs.FrontEnd.{IsFront, some_pages}
use Rattle.step_parts.proofs.BlockWords.{seat_at}
use Rattle.step_parts.proofs.Starts.{begins}
use Rattle.step_parts.proofs.ChangedPlaces.{vs_address, back_address, large_address, lfh_address, size_is}
use Rattle.step_parts.specs.InHand.{IsBlockNumber}

module _ (us : Setting) (m : Configuration) (k : Keeps us m) (f : IsFront us.limits m.state.back.area m.state.lfh) (x : Span) (there : IsOneOf x m.state.back.area.spans) (is : x.kind ≡ kinds.Lfh)
    (spot : ℕ) (low : x.first ≤ spot / 4096) (high : spot / 4096 < x.first + x.pages) (whole : spot % 16 ≡ 0) where
  -- each span that has the page is that of the front end
  clash : (y : Span) → IsOneOf y m.state.back.area.spans → y.first ≤ spot / 4096 → spot / 4096 < y.first + y.pages → y.kind ≡ kinds.Lfh
  clash y j from before = subst (λ (z : Span). z.kind ≡ kinds.Lfh) (same_span 0 m.state.back.area.spans x y (spot / 4096) f.order there j low high from before) is

  no_vs : (q : Place) → IsOneOf q m.state.vs.places → has_address spot q ≡ true → ⊥
  no_vs q j t =
      let h = all_at (λ (z : Place). IsInVs m.state.back.area.spans z.start z.granules) q m.state.vs.places k.heap.vs.places j in
      let at : q.start + 16 ≡ spot = sym (vs_address q (all_at (λ (z : Place). z.layer ≡ layers.Vs) q m.state.vs.places k.homes.vs j)) ∙ eqb-true (address q) spot t in
      let from = h.behind in
      let before = h.before in
      let two = h.two in
      let kind = clash h.span h.there (omega arith) (omega arith) in
      let z : kinds.Lfh ≡ kinds.Vs = sym kind ∙ h.kind in cc (z)

  no_back : (q : Place) → IsOneOf q m.state.back.places → has_address spot q ≡ true → ⊥
  no_back q j t =
      let h = all_at (λ (z : Place). IsInBack m.state.back.area.spans z.start z.granules) q m.state.back.places k.heap.back.places j in
      let at : q.start ≡ spot = sym (back_address q (all_at (λ (z : Place). z.layer ≡ layers.Back) q m.state.back.places k.homes.back j)) ∙ eqb-true (address q) spot t in
      let begins = h.begins in
      let some = some_pages 0 m.state.back.area.spans h.span f.order h.there in
      let kind = clash h.span h.there (omega arith) (omega arith) in
      let z : kinds.Lfh ≡ kinds.Back = sym kind ∙ h.kind in cc (z)

  no_large : (q : Place) → IsOneOf q m.state.large → has_address spot q ≡ true → ⊥
  no_large q j t =
      let h = all_at (λ (z : Place). IsInLarge us.limits z.start z.granules) q m.state.large k.heap.large.places j in
      let at : q.start ≡ spot = sym (large_address q (all_at (λ (z : Place). z.layer ≡ layers.Large) q m.state.large k.homes.large j)) ∙ eqb-true (address q) spot t in
      let begins = h.begins in
      let last = (f.spans x there is).there in omega arith

  none_live : (ps : List Place) → ((q : Place) → IsOneOf q ps → has_address spot q ≡ true → is_live q.status ≡ true → ⊥) → has_live ps spot ≡ false
  none_live ps h = elim (cases_Bool (has_live ps spot)) [
    | inl e ↦ let w = any_found (is_live_at spot) ps e in let t = and_parts (has_address spot w.0) (is_live w.0.status) w.2 in absurd (h w.0 w.1 t.0 t.1)
    | inr e ↦ e
  ]

  aligned : 16 * (spot / 16) ≡ spot
  aligned = omega arith

  live_word : (q : Place) → IsOneOf q m.state.lfh → has_address spot q ≡ true → is_live q.status ≡ true → size_word m.state.lfh (spot / 16) ≡ 0 → ⊥
  live_word q j t live z =
      let l = all_at Rattle.step_parts.proofs.Starts.OfLfh q m.state.lfh f.layers j in
      let at : q.start ≡ spot = sym (lfh_address q l) ∙ eqb-true (address q) spot t in
      let g : 16 * (q.start / 16) ≡ q.start = subst (λ (a : ℕ). 16 * (a / 16) ≡ a) (sym at) aligned in
      by q.status live (sym (size_is m.state.lfh f.layers f.apart q j g) ∙ (ap (λ (a : ℕ). size_word m.state.lfh (a / 16)) at ∙ z))
    where
      by : (t : Status) → is_live t ≡ true → unwrap_or (option_map (λ n. n + 1) (live_size t)) 0 ≡ 0 → ⊥
      by (Live size) h e = omega arith
      by (InHand c) h e = false≢true h

  -- a size word of 0: no live block has the address
  pub not_live : (s : Setting) (n : ℕ) → is_entered m.state.gate n ≡ true → size_word m.state.lfh (spot / 16) ≡ 0 → may s m n (acts.NotLive spot) ≡ true
  not_live s n inside z =
      let a = none_live m.state.lfh (λ q j t live. live_word q j t live z) in
      let b = none_live m.state.vs.places (λ q j t live. no_vs q j t) in
      let c = none_live m.state.back.places (λ q j t live. no_back q j t) in
      let d = none_live m.state.large (λ q j t live. no_large q j t) in
      and_from (is_entered m.state.gate n && not (has_live m.state.lfh spot) && not (has_live m.state.vs.places spot) && not (has_live m.state.back.places spot)) (not (has_live m.state.large spot))
      (and_from (is_entered m.state.gate n && not (has_live m.state.lfh spot) && not (has_live m.state.vs.places spot)) (not (has_live m.state.back.places spot))
      (and_from (is_entered m.state.gate n && not (has_live m.state.lfh spot)) (not (has_live m.state.vs.places spot))
      (and_from (is_entered m.state.gate n) (not (has_live m.state.lfh spot)) inside (ap not a)) (ap not b)) (ap not c)) (ap not d)

  -- the live block that the word shows
  pub record IsLiveThere (word : ℕ) : Type 0 where
    pub place : Place
    pub among : IsOneOf place m.state.lfh
    pub starts : place.start ≡ spot
    pub live : place.status ≡ Live (word - 1)

  -- another: a live block of that size begins there
  pub live_there : (word : ℕ) → size_word m.state.lfh (spot / 16) ≡ word → (word ≡ 0 → ⊥) → IsLiveThere word
  live_there word e nz = by (find (begins (16 * (spot / 16))) m.state.lfh) refl e
    where
      of : (p : Place) (t : Status) → p.status ≡ t → IsOneOf p m.state.lfh → p.start ≡ spot → unwrap_or (option_map (λ n. n + 1) (live_size t)) 0 ≡ word → IsLiveThere word
      of p (Live size) h j at w = let same : size ≡ word - 1 = omega arith in record { place = p; among = j; starts = at; live = h ∙ ap Live same }
      of p (InHand c) h j at w = absurd (nz (sym w))

      by : (o : Option Place) → find (begins (16 * (spot / 16))) m.state.lfh ≡ o → unwrap_or (option_map (λ q. unwrap_or (option_map (λ n. n + 1) (live_size q.status)) 0) o) 0 ≡ word → IsLiveThere word
      by None g w = absurd (nz (sym w))
      by (Some p) g w = of p p.status refl (found_in (begins (16 * (spot / 16))) m.state.lfh p g) (eqb-true p.start (16 * (spot / 16)) (found_passes (begins (16 * (spot / 16))) m.state.lfh p g) ∙ aligned) w

  -- .. is a block of the subsegment
  pub block_there : (p : Place) → IsOneOf p m.state.lfh → p.start ≡ spot → IsBlockNumber x.first x.bucket spot × (16 * p.granules ≡ block_size x.bucket)
  block_there p j e =
      let w = all_at (λ (z : Place). IsInLfh m.state.back.area.spans z.start z.granules) p m.state.lfh f.places j in
      let z = seat_at us.limits m.state.back.area m.state.lfh f w.span w.index w.there w.kind w.below in
      let at : block_address w.span.bucket w.span.first w.index ≡ spot = sym w.block ∙ e in
      let same = same_span 0 m.state.back.area.spans w.span x (spot / 4096) f.order w.there there
      (subst (λ (a : ℕ). w.span.first ≤ a / 4096) at z.from) (subst (λ (a : ℕ). a / 4096 < w.span.first + w.span.pages) at z.before) low high in (
        record { number = w.index; below = subst (λ (y : Span). w.index < block_count y.bucket) same w.below; start = sym at ∙ ap (λ (y : Span). block_address y.bucket y.first w.index) same },
        w.size ∙ ap (λ (y : Span). block_size y.bucket) same,
      )
