-- No live block has an address: what the caller knows of the layers whose locks it holds, and of the spans, decides it.
use Rattle.std.proofs.Common.{◌≡◌, ◌⊎◌, ℕ, ◌+◌, ◌*◌, ◌/◌, ◌%◌, ◌<◌, ◌≤◌, true, false, not, ◌&&◌, List, refl, sym, ap, ◌∙◌, subst, arith, inl, inr, ⊎_elim}
use Rattle.std.specs.Prelude.{nat_lt, filter}
use Rattle.std.specs.List.{list_any}
use Rattle.std.proofs.lemmas.Bool.{cases_Bool, and_parts, and_from, both_ways, eqb-true, ltb-true, leb-true, le-leb, lt-ltb}
use Rattle.heap_model.specs.declared.Act.TheVariants as acts
use Rattle.heap_model.specs.declared.Kind.{Kind}
use Rattle.heap_model.specs.declared.Kind.TheVariants as kinds
use Rattle.heap_model.specs.declared.Layer.TheVariants as layers
use Rattle.heap_model.specs.declared.Limits.{Limits}
use Rattle.heap_model.specs.declared.What.TheVariants as whats
use Rattle.heap_model.specs.State.{Setting, Span, Place, BackPart, VsPart, address, has_address, is_kind, is_live, is_live_at, is_entered, holds}
use Rattle.heap_model.specs.Buckets.{block_address, block_count}
use Rattle.heap_model.specs.Backend.{in_span}
use Rattle.heap_model.specs.Ranges.{is_of_kind, vs_spans}
use Rattle.heap_model.specs.CallState.{Configuration, CallerView}
use Rattle.heap_model.specs.Legal.{may, has_live}
use Rattle.heap_model.specs.Agreement.{AgreesFor}
use Rattle.heap_model.proofs.Stable.{caller_view_same}
use Rattle.heap_soundness.specs.Sound.{IsOneOf, IsInVs, IsInLfh, IsInBack, IsInLarge, IsCommittedSpan}
use Rattle.heap_soundness.specs.Invariant.{Keeps}
use Rattle.heap_soundness.proofs.Lists.{all_at, any_in, any_found}
use Rattle.heap_soundness.proofs.Spans.{same_span}
use Rattle.heap_soundness.proofs.Enums.{kind_is}
use Rattle.claim_rule.specs.Shown.{lfh_spans}
use Rattle.look_steps.specs.Denials.{IsNowhere, IsNotLarge, IsInNone, IsOfVs, IsOffBlock, MayDeny}
use Rattle.step_parts.proofs.FrontEnd.{front_of, some_pages}
use Rattle.step_parts.proofs.BlockWords.{in_lfh, seat_at}
use Rattle.step_parts.proofs.Filters.{into_filter, in_filter}
use Rattle.step_parts.proofs.ChangedPlaces.{lfh_address, vs_address, back_address, large_address}

module _ (us : Setting) (m k : Configuration) (n a : ℕ) (keep : Keeps us m) (r : AgreesFor n m k) (keeps_seen : (x : Span) → IsOneOf x (lfh_spans k.state.back.area) → IsOneOf x (lfh_spans m.state.back.area)) where
  -- a span that has the address, of this kind
  record IsOver (kind : Kind) : Type 0 where
    pub span : Span
    pub there : IsOneOf span m.state.back.area.spans
    pub kind_is : span.kind ≡ kind
    pub from : span.first ≤ a / 4096
    pub before : a / 4096 < span.first + span.pages
    pub aligned : a % 16 ≡ 0

  in_it : (y : Span) → y.first ≤ a / 4096 → a / 4096 < y.first + y.pages → in_span (a / 4096) y ≡ true
  in_it y lo hi = and_from _ _ (le-leb y.first (a / 4096) lo) (lt-ltb (a / 4096) (y.first + y.pages) hi)

  -- .. is of a segment, behind its header
  somewhere : (kind : Kind) → IsOver kind → IsNowhere us.limits a → ⊥
  somewhere kind x w =
      let c = all_at (IsCommittedSpan m.state.back.area) x.span m.state.back.area.spans keep.heap.spans.committed x.there in
      let u = and_parts (nat_lt (a / 4096 / 256) m.state.back.area.reserved) _ (c (a / 4096) x.from x.before).0 in
      let low = leb-true 2 (a / 4096 % 256) u.1 in
      let high = ltb-true (a / 4096 / 256) m.state.back.area.reserved u.0 in
      let reserved = keep.reserved in
      ⊎_elim (λ (z : a % 16 ≡ 0 → ⊥). z x.aligned) (λ (z : (256 * us.limits.segments ≤ a / 4096) ⊎ (a / 4096 % 256 < 2)).
      ⊎_elim (λ (y : 256 * us.limits.segments ≤ a / 4096). let no : ⊥ = omega arith in no) (λ (y : a / 4096 % 256 < 2). let no : ⊥ = omega arith in no) z) w

  -- no span of the kind has it, where the holder of Back finds none
  unseen : (kind : Kind) → is_kind kind kind ≡ true → IsOver kind → holds k.state.gate n whats.Back ≡ true → list_any (in_span (a / 4096)) (filter (is_of_kind kind) k.state.back.area.spans) ≡ false → ⊥
  unseen kind own x held no_span =
      both_ways (list_any (in_span (a / 4096)) (filter (is_of_kind kind) k.state.back.area.spans)) no_span
      (any_in (in_span (a / 4096)) (filter (is_of_kind kind) k.state.back.area.spans) x.span
      (into_filter (is_of_kind kind) k.state.back.area.spans x.span (subst (λ (b : BackPart). IsOneOf x.span b.area.spans) (r.back held) x.there) (ap (λ (z : Kind). is_kind z kind) x.kind_is ∙ own))
      (in_it x.span x.from x.before))

  -- where the holder of Vs finds one of VS, it is of VS
  of_vs : (kind : Kind) → IsOver kind → IsOfVs k n a → kind ≡ kinds.Vs
  of_vs kind x w =
      let y = any_found (in_span (a / 4096)) (vs_spans k.state.back.area) w.1 in
      let i = in_filter (is_of_kind kinds.Vs) m.state.back.area.spans y.0 (subst (IsOneOf y.0) (sym (r.spans w.0)) y.1) in
      let p = and_parts _ _ y.2 in
      let same = same_span 0 m.state.back.area.spans x.span y.0 (a / 4096) keep.heap.spans.in_order x.there i.0 x.from x.before (leb-true y.0.first (a / 4096) p.0) (ltb-true (a / 4096) (y.0.first + y.0.pages) p.1) in
      sym x.kind_is ∙ (ap (λ (z : Span). z.kind) same ∙ kind_is y.0.kind kinds.Vs i.1)

  -- where a subsegment was seen that has it, it is of the front end
  off_span : (kind : Kind) (x : IsOver kind) (w : IsOffBlock k a) → x.span ≡ w.span
  off_span kind x w =
      let i = in_lfh m.state.back.area.spans w.span (keeps_seen w.span w.there) in
      let p = and_parts _ _ w.has_page in
      same_span 0 m.state.back.area.spans x.span w.span (a / 4096) keep.heap.spans.in_order x.there i.0 x.from x.before (leb-true w.span.first (a / 4096) p.0) (ltb-true (a / 4096) (w.span.first + w.span.pages) p.1)

  of_lfh : (kind : Kind) → IsOver kind → IsOffBlock k a → kind ≡ kinds.Lfh
  of_lfh kind x w = sym x.kind_is ∙ (ap (λ (z : Span). z.kind) (off_span kind x w) ∙ (in_lfh m.state.back.area.spans w.span (keeps_seen w.span w.there)).1)

  ---- The place of an address

  over_lfh : (q : Place) → IsOneOf q m.state.lfh → has_address a q ≡ true → IsOver kinds.Lfh
  over_lfh q j t =
      let f = front_of us m keep in
      let h = all_at (λ (z : Place). IsInLfh m.state.back.area.spans z.start z.granules) q m.state.lfh keep.heap.lfh.places j in
      let at : q.start ≡ a = sym (lfh_address q (all_at (λ (z : Place). z.layer ≡ layers.Lfh) q m.state.lfh keep.homes.lfh j)) ∙ eqb-true (address q) a t in
      let z = seat_at us.limits m.state.back.area m.state.lfh f h.span h.index h.there h.kind h.below in
      let block = h.block in
      let from = z.from in
      let before = z.before in
      let aligned = z.aligned in
      let page : Rattle.heap_model.specs.Buckets.block_address h.span.bucket h.span.first h.index / 4096 ≡ a / 4096 = ap (λ (y : ℕ). y / 4096) (sym block ∙ at) in
      record { span = h.span; there = h.there; kind_is = h.kind; from = omega arith; before = omega arith; aligned = omega arith }

  off_lfh : (q : Place) → IsOneOf q m.state.lfh → has_address a q ≡ true → IsOffBlock k a → ⊥
  unfolding over_lfh
  off_lfh q j t w =
      let h = all_at (λ (z : Place). IsInLfh m.state.back.area.spans z.start z.granules) q m.state.lfh keep.heap.lfh.places j in
      let at : q.start ≡ a = sym (lfh_address q (all_at (λ (z : Place). z.layer ≡ layers.Lfh) q m.state.lfh keep.homes.lfh j)) ∙ eqb-true (address q) a t in
      let same : h.span ≡ w.span = off_span kinds.Lfh (over_lfh q j t) w in
      w.off h.index (subst (λ (z : Span). h.index < block_count z.bucket) same h.below) (sym at ∙ (h.block ∙ ap (λ (z : Span). block_address z.bucket z.first h.index) same))

  over_vs : (q : Place) → IsOneOf q m.state.vs.places → has_address a q ≡ true → IsOver kinds.Vs
  over_vs q j t =
      let h = all_at (λ (z : Place). IsInVs m.state.back.area.spans z.start z.granules) q m.state.vs.places keep.heap.vs.places j in
      let at : q.start + 16 ≡ a = sym (vs_address q (all_at (λ (z : Place). z.layer ≡ layers.Vs) q m.state.vs.places keep.homes.vs j)) ∙ eqb-true (address q) a t in
      let low = h.behind in
      let high = h.before in
      let two = h.two in
      let aligned = h.aligned in
      record { span = h.span; there = h.there; kind_is = h.kind; from = omega arith; before = omega arith; aligned = omega arith }

  over_back : (q : Place) → IsOneOf q m.state.back.places → has_address a q ≡ true → IsOver kinds.Back
  over_back q j t =
      let h = all_at (λ (z : Place). IsInBack m.state.back.area.spans z.start z.granules) q m.state.back.places keep.heap.back.places j in
      let at : q.start ≡ a = sym (back_address q (all_at (λ (z : Place). z.layer ≡ layers.Back) q m.state.back.places keep.homes.back j)) ∙ eqb-true (address q) a t in
      let begins = h.begins in
      let some = some_pages 0 m.state.back.area.spans h.span keep.heap.spans.in_order h.there in
      record { span = h.span; there = h.there; kind_is = h.kind; from = omega arith; before = omega arith; aligned = omega arith }

  no_large : (q : Place) → IsOneOf q m.state.large → has_address a q ≡ true → IsNotLarge us.limits a → ⊥
  no_large q j t w =
      let h = all_at (λ (z : Place). IsInLarge us.limits z.start z.granules) q m.state.large keep.heap.large.places j in
      let at : q.start ≡ a = sym (large_address q (all_at (λ (z : Place). z.layer ≡ layers.Large) q m.state.large keep.homes.large j)) ∙ eqb-true (address q) a t in
      let begins = h.begins in
      let enough = h.enough in
      let inside = h.inside in
      ⊎_elim (λ (z : a % 16 ≡ 0 → ⊥). z (omega arith)) (λ (z : (a / 4096 < 256 * us.limits.segments) ⊎ (256 * us.limits.segments + us.limits.large_pages ≤ a / 4096)).
      ⊎_elim (λ (y : a / 4096 < 256 * us.limits.segments). let no : ⊥ = omega arith in no) (λ (y : 256 * us.limits.segments + us.limits.large_pages ≤ a / 4096). let no : ⊥ = omega arith in no) z) w

  ---- The row

  none_live : (ps : List Place) → ((q : Place) → IsOneOf q ps → has_address a q ≡ true → ⊥) → has_live ps a ≡ false
  none_live ps h = elim (cases_Bool (has_live ps a)) [
    | inl e ↦ let w = any_found (is_live_at a) ps e in let t = and_parts (has_address a w.0) (is_live w.0.status) w.2 in absurd (h w.0 w.1 t.0)
    | inr e ↦ e
  ]

  module _ (l : Limits) (limits : us.limits ≡ l) (d : MayDeny l k n a) where
    nowhere : (kind : Kind) → IsOver kind → IsNowhere l a → ⊥
    nowhere kind x w = somewhere kind x (subst (λ (z : Limits). IsNowhere z a) (sym limits) w)

    not_lfh : has_live m.state.lfh a ≡ false
    not_lfh = none_live m.state.lfh (λ q j t.
        let x = over_lfh q j t in
        ⊎_elim (nowhere kinds.Lfh x) (λ (z : IsInNone k n a (lfh_spans k.state.back.area) ⊎ (IsOfVs k n a ⊎ IsOffBlock k a)).
        ⊎_elim (λ (y : IsInNone k n a (lfh_spans k.state.back.area)). unseen kinds.Lfh refl x y.0 y.1) (λ (y : IsOfVs k n a ⊎ IsOffBlock k a).
        ⊎_elim (λ (w : IsOfVs k n a). let e : kinds.Lfh ≡ kinds.Vs = of_vs kinds.Lfh x w in let no : ⊥ = cc (e) in no) (λ (w : IsOffBlock k a). off_lfh q j t w) y) z) d.lfh)

    not_vs : has_live m.state.vs.places a ≡ false
    not_vs = ⊎_elim (λ (z : IsNowhere l a). by (λ x. nowhere kinds.Vs x z)) (λ (z : IsInNone k n a (vs_spans k.state.back.area) ⊎ (((holds k.state.gate n whats.Vs ≡ true) × (has_live k.state.vs.places a ≡ false)) ⊎ IsOffBlock k a)).
        ⊎_elim (λ (y : IsInNone k n a (vs_spans k.state.back.area)). by (λ x. unseen kinds.Vs refl x y.0 y.1)) (λ (y : ((holds k.state.gate n whats.Vs ≡ true) × (has_live k.state.vs.places a ≡ false)) ⊎ IsOffBlock k a).
        ⊎_elim (λ (w : (holds k.state.gate n whats.Vs ≡ true) × (has_live k.state.vs.places a ≡ false)). ap (λ (v : VsPart). has_live v.places a) (r.vs w.0) ∙ w.1)
        (λ (w : IsOffBlock k a). by (λ x. let e : kinds.Vs ≡ kinds.Lfh = of_lfh kinds.Vs x w in let no : ⊥ = cc (e) in no)) y) z) d.vs
      where
        by : (IsOver kinds.Vs → ⊥) → has_live m.state.vs.places a ≡ false
        by f = none_live m.state.vs.places (λ q j t. f (over_vs q j t))

    not_back : has_live m.state.back.places a ≡ false
    not_back = ⊎_elim (λ (z : IsNowhere l a). by (λ x. nowhere kinds.Back x z)) (λ (z : ((holds k.state.gate n whats.Back ≡ true) × (has_live k.state.back.places a ≡ false)) ⊎ (IsOfVs k n a ⊎ IsOffBlock k a)).
        ⊎_elim (λ (y : (holds k.state.gate n whats.Back ≡ true) × (has_live k.state.back.places a ≡ false)). ap (λ (v : BackPart). has_live v.places a) (r.back y.0) ∙ y.1) (λ (y : IsOfVs k n a ⊎ IsOffBlock k a).
        ⊎_elim (λ (w : IsOfVs k n a). by (λ x. let e : kinds.Back ≡ kinds.Vs = of_vs kinds.Back x w in let no : ⊥ = cc (e) in no))
        (λ (w : IsOffBlock k a). by (λ x. let e : kinds.Back ≡ kinds.Lfh = of_lfh kinds.Back x w in let no : ⊥ = cc (e) in no)) y) z) d.back
      where
        by : (IsOver kinds.Back → ⊥) → has_live m.state.back.places a ≡ false
        by f = none_live m.state.back.places (λ q j t. f (over_back q j t))

    not_large : has_live m.state.large a ≡ false
    not_large = ⊎_elim (λ (z : IsNotLarge l a). none_live m.state.large (λ q j t. no_large q j t (subst (λ (y : Limits). IsNotLarge y a) (sym limits) z)))
        (λ (z : (holds k.state.gate n whats.Large ≡ true) × (has_live k.state.large a ≡ false)). ap (λ (ps : List Place). has_live ps a) (r.large z.0) ∙ z.1) d.large

    -- no layer has a live block there
    pub denied_ok : (s : Setting) → may s m n (acts.NotLive a) ≡ true
    denied_ok s =
        let inside : is_entered m.state.gate n ≡ true = ap (λ (x : CallerView). x.entered) (caller_view_same n m k r) ∙ d.inside in
        and_from (is_entered m.state.gate n && not (has_live m.state.lfh a) && not (has_live m.state.vs.places a) && not (has_live m.state.back.places a)) (not (has_live m.state.large a))
        (and_from (is_entered m.state.gate n && not (has_live m.state.lfh a) && not (has_live m.state.vs.places a)) (not (has_live m.state.back.places a))
        (and_from (is_entered m.state.gate n && not (has_live m.state.lfh a)) (not (has_live m.state.vs.places a))
        (and_from (is_entered m.state.gate n) (not (has_live m.state.lfh a)) inside (ap not not_lfh)) (ap not not_vs)) (ap not not_back)) (ap not not_large)
