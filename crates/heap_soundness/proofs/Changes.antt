-- The heap after a place that is found changes its status, its length, or is dropped.
use Rattle.std.proofs.Common.{◌≡◌, ℕ, ◌+◌, ◌-◌, ◌*◌, ◌/◌, ◌<◌, ◌≤◌, Bool, true, cond, not, List, ◌∷◌, Option, Some, None, refl, sym, ap, ◌∙◌, subst, subst₂, arith, eqb, leb, inl, inr}
use Rattle.std.specs.List.{find}
use Rattle.std.proofs.lemmas.Bool.{cases_Bool, cases_lt, and_parts, leb-true, eqb-true, false≢true}
use Rattle.heap_model.specs.declared.Layer.{Layer}
use Rattle.heap_model.specs.declared.Layer.TheVariants as layers
use Rattle.heap_model.specs.declared.Limits.{Limits}
use Rattle.heap_model.specs.Geometry.{route_of, is_paged, is_huge, units_of, pages_of}
use Rattle.heap_model.specs.State.{State, Area, Setting, Place, Status, is_layer, places_of, is_live, change_found, remove_found}
use Rattle.heap_model.specs.Backend.{is_free, free_runs}
use Rattle.heap_model.specs.Ranges.{gaps, is_clear, is_clear_page, large_runs, large_start, taken_of}
use Rattle.heap_model.specs.Stay.{run_from, reach, reach_in, lets_stay, lets_stay_in, resized, resized_in}
use Rattle.heap_model.specs.CallState.{CallerView}
use Rattle.heap_model.specs.Legal.{with_places, on, layer_of, with_status, resize_place, area_with, area_resized, commit, is_back_at, with_pages, may_touch, is_resized}
use Rattle.heap_soundness.specs.Sound.{IsInLfh, IsInBack, IsInLarge}
use Rattle.heap_soundness.specs.Invariant.{IsVsSound, IsLayerSound, AreLayersSound, IsHeapSound}
use Rattle.heap_soundness.proofs.Lists.{any_front, all_weaker}
use Rattle.heap_soundness.proofs.Enums.{layer_is}
use Rattle.heap_soundness.proofs.VsGaps.{vs_dropped, in_from, clear_parts, StartsAligned, others_clear}
use Rattle.heap_soundness.proofs.GapRuns.{taken_cases}
use Rattle.heap_soundness.proofs.VsResize.{free_behind, vs_resized}
use Rattle.heap_soundness.proofs.Layers.{layer_front, layer_back, layer_dropped, vs_front, vs_back, same_clear, large_placed}
use Rattle.heap_soundness.proofs.Areas.{lengthened}
use Rattle.heap_soundness.proofs.Free.{IsRunFrom, run_from_is}
use Rattle.heap_soundness.proofs.RowLemmas.{paged_pages, huge_pages}

-- what holds of a layer's places, changed or not
pub on_either : (Q : List Place → Type 0) (l : Layer) (f : List Place → List Place) (ps : List Place) (o : Option Layer) → (o ≡ Some l → Q (f ps)) → Q ps → Q (on l f ps o)
on_either Q l f ps None g h = h
on_either Q l f ps (Some k) g h = elim (cases_Bool (is_layer l k)) [
  | inl e ↦ rw e (g (ap Some (layer_is l k e)))
  | inr e ↦ rw e h
]

-- the place q, found by the test t in the list of its layer
module _ (s : Setting) (st : State) (t : Place → Bool) (o : Option Place) (q : Place) (is : o ≡ Some q) (found : find t (places_of st q.layer) ≡ Some q) where
  found_in_layer : (l : Layer) → layer_of o ≡ Some l → find t (places_of st l) ≡ Some q
  found_in_layer l e =
      let g : Some q.layer ≡ Some l = sym (ap layer_of is) ∙ e in
      let same : q.layer ≡ l = cc in
      subst (λ (x : Layer). find t (places_of st x) ≡ Some q) same found

  pub restatused : (status : Status) → IsHeapSound s st → IsHeapSound s (with_places st (layer_of o) (change_found t (with_status status)))
  restatused status h = record {
    usable = h.usable;
    spans = h.spans;
    vs = on_either (IsVsSound st.back.area.spans) layers.Vs (change_found t (with_status status)) st.vs.places (layer_of o) (λ e. let f = found_in_layer layers.Vs e in again_vs (remove_found t st.vs.places) f (vs_front st.back.area.spans t st.vs.places q f h.vs)) h.vs;
    lfh = on_either (IsLayerSound (IsInLfh st.back.area.spans)) layers.Lfh (change_found t (with_status status)) st.lfh (layer_of o) (λ e. again (IsInLfh st.back.area.spans) st.lfh (found_in_layer layers.Lfh e) h.lfh) h.lfh;
    back = on_either (IsLayerSound (IsInBack st.back.area.spans)) layers.Back (change_found t (with_status status)) st.back.places (layer_of o) (λ e. again (IsInBack st.back.area.spans) st.back.places (found_in_layer layers.Back e) h.back) h.back;
    large = on_either (IsLayerSound (IsInLarge s.limits)) layers.Large (change_found t (with_status status)) st.large (layer_of o) (λ e. again (IsInLarge s.limits) st.large (found_in_layer layers.Large e) h.large) h.large;
  }
    where
      again_vs : (os : List Place) → find t st.vs.places ≡ Some q → IsVsSound st.back.area.spans (q ∷ remove_found t st.vs.places) → IsVsSound st.back.area.spans (change_found t (with_status status) st.vs.places)
      again_vs os f k = vs_back st.back.area.spans t (with_status status) st.vs.places q f (record { places = k.places; disjoint = k.disjoint; clear = k.clear })

      again : (At : ℕ → ℕ → Type 0) (ps : List Place) → find t ps ≡ Some q → IsLayerSound At ps → IsLayerSound At (change_found t (with_status status) ps)
      again At ps f h = let k = layer_front At t ps q f h in layer_back At t (with_status status) ps q f (record { places = k.places; disjoint = k.disjoint })

  pub dropped : IsHeapSound s st → IsHeapSound s (with_places st (layer_of o) (remove_found t))
  dropped h = record {
    usable = h.usable;
    spans = h.spans;
    vs = on_either (IsVsSound st.back.area.spans) layers.Vs (remove_found t) st.vs.places (layer_of o) (λ e. vs_dropped st.back.area.spans q (remove_found t st.vs.places) h.spans.in_order (vs_front st.back.area.spans t st.vs.places q (found_in_layer layers.Vs e) h.vs)) h.vs;
    lfh = on_either (IsLayerSound (IsInLfh st.back.area.spans)) layers.Lfh (remove_found t) st.lfh (layer_of o) (λ e. without (IsInLfh st.back.area.spans) st.lfh (found_in_layer layers.Lfh e) h.lfh) h.lfh;
    back = on_either (IsLayerSound (IsInBack st.back.area.spans)) layers.Back (remove_found t) st.back.places (layer_of o) (λ e. without (IsInBack st.back.area.spans) st.back.places (found_in_layer layers.Back e) h.back) h.back;
    large = on_either (IsLayerSound (IsInLarge s.limits)) layers.Large (remove_found t) st.large (layer_of o) (λ e. without (IsInLarge s.limits) st.large (found_in_layer layers.Large e) h.large) h.large;
  }
    where
      without : (At : ℕ → ℕ → Type 0) (ps : List Place) → find t ps ≡ Some q → IsLayerSound At ps → IsLayerSound At (remove_found t ps)
      without At ps f h = layer_dropped At q (remove_found t ps) (layer_front At t ps q f h)

---- A new length

-- the heap where the place q, of a layer, is changed by f, and its span with it
abbrev Resized : Limits → Area → List Place → List Place → List Place → List Place → (List Place → List Place) → ℕ → ℕ → Layer → Type 0
Resized l a vs lfh back large f start granules k = AreLayersSound l (cond (is_layer k layers.Back) (area_resized 4096 a start granules) a) (on layers.Vs f vs (Some k)) (on layers.Lfh f lfh (Some k)) (on layers.Back f back (Some k)) (on layers.Large f large (Some k))

module _ (s : Setting) (st : State) (t : Place → Bool) (q : Place) (granules size : ℕ) (h : IsHeapSound s st) where
  -- .. in VS
  resized_vs : find t st.vs.places ≡ Some q → granules ≡ taken_of (units_of size) (q.granules + run_from (gaps st) (q.start / 16 + q.granules)) → units_of size ≤ q.granules + run_from (gaps st) (q.start / 16 + q.granules) →
      IsVsSound st.back.area.spans (change_found t (resize_place granules size) st.vs.places)
  resized_vs f e l =
      let os = remove_found t st.vs.places in
      let k = vs_front st.back.area.spans t st.vs.places q f h.vs in
      let same = same_clear st.vs.places (q ∷ os) (λ u. any_front u t st.vs.places q f) in
      let free = free_behind st.back.area.spans st.vs.places q os h.spans.in_order same k in
      let c = taken_cases (units_of size) (q.granules + run_from (gaps st) (q.start / 16 + q.granules)) l in
      let n = taken_of (units_of size) (q.granules + run_from (gaps st) (q.start / 16 + q.granules)) in
      vs_back st.back.area.spans t (resize_place granules size) st.vs.places q f
      (vs_resized st.back.area.spans st.vs.places q os h.spans.in_order same k n (run_from (gaps st) (q.start / 16 + q.granules)) (resize_place granules size q) free refl e (two (c.0)) c.1 c.2)
    where
      two : units_of size ≤ taken_of (units_of size) (q.granules + run_from (gaps st) (q.start / 16 + q.granules)) → 2 ≤ taken_of (units_of size) (q.granules + run_from (gaps st) (q.start / 16 + q.granules))
      two l = omega arith

  -- .. in the large area
  resized_large : find t st.large ≡ Some q → granules ≡ 256 * pages_of size → 128 ≤ pages_of size → 256 * pages_of size ≤ q.granules + 256 * run_from (large_runs s.limits st.large) (q.start / 4096 - 256 * s.limits.segments + q.granules / 256) →
      IsLayerSound (IsInLarge s.limits) (change_found t (resize_place granules size) st.large)
  resized_large f e some l =
      let os = remove_found t st.large in
      let k = layer_front (IsInLarge s.limits) t st.large q f h.large in
      layer_back (IsInLarge s.limits) t (resize_place granules size) st.large q f (longer os k (same_clear st.large (q ∷ os) (λ u. any_front u t st.large q f)))
    where
      longer : (os : List Place) → IsLayerSound (IsInLarge s.limits) (q ∷ os) → ((g : ℕ) → is_clear st.large g ≡ is_clear (q ∷ os) g) → IsLayerSound (IsInLarge s.limits) (resize_place granules size q ∷ os)
      longer os k same = large_placed s.limits (resize_place granules size q) os home free (layer_dropped (IsInLarge s.limits) q os k)
        where
          old : IsInLarge s.limits q.start q.granules
          old = k.places.0

          F : ℕ
          F = run_from (large_runs s.limits st.large) (q.start / 4096 - 256 * s.limits.segments + q.granules / 256)

          at : q.start / 4096 - 256 * s.limits.segments + q.granules / 256 ≡ old.page + old.pages
          at = let b = old.begins in let w = old.whole in omega arith

          run : IsRunFrom (is_clear_page s.limits st.large) s.limits.large_pages (old.page + old.pages) F
          run = subst (λ (n : ℕ). IsRunFrom (is_clear_page s.limits st.large) s.limits.large_pages n F) at (run_from_is (is_clear_page s.limits st.large) s.limits.large_pages (q.start / 4096 - 256 * s.limits.segments + q.granules / 256))

          fits : pages_of size ≤ old.pages + F
          fits = let w = old.whole in let m : 256 * pages_of size ≤ q.granules + 256 * F = l in omega arith

          inside : old.page + pages_of size ≤ s.limits.large_pages
          inside = let i = old.inside in let m = fits in elim (cases_lt 0 F) [ inl u ↦ (let b = run.below u in omega arith) | inr u ↦ omega arith ]

          home : IsInLarge s.limits q.start granules
          home = record { page = old.page; pages = pages_of size; enough = some; begins = old.begins; whole = e; inside = inside }

          free : (n : ℕ) → n < pages_of size → is_clear_page s.limits os (old.page + n) ≡ true
          free n u = elim (cases_lt n old.pages) [
            | inl v ↦ let b = old.begins in let w = old.whole in others_clear q os (large_start s.limits + 256 * (old.page + n)) (omega arith) (all_weaker (λ p. IsInLarge s.limits p.start p.granules) StartsAligned os (λ p i m. let c = m.begins in omega arith) k.places.1) k.disjoint.0 (in_from (large_start s.limits + 256 * (old.page + n)) q (omega arith) (omega arith))
            | inr v ↦
                let i : old.page + old.pages + (n - old.pages) ≡ old.page + n = omega arith in
                (clear_parts (large_start s.limits + 256 * (old.page + n)) q os (sym (same (large_start s.limits + 256 * (old.page + n))) ∙ subst (λ (x : ℕ). is_clear_page s.limits st.large x ≡ true) i (run.passes (n - old.pages) (let m = fits in omega arith)))).1
          ]

  resized_back : find t st.back.places ≡ Some q → granules ≡ 256 * pages_of size → 0 < pages_of size → 256 * pages_of size ≤ q.granules + 256 * run_from (free_runs st.back.area) (q.start / 4096 + q.granules / 256) →
      AreLayersSound s.limits (area_resized 4096 st.back.area q.start granules) st.vs.places st.lfh (change_found t (resize_place granules size) st.back.places) st.large
  resized_back f e some l =
      let os = remove_found t st.back.places in
      let k = layer_front (IsInBack st.back.area.spans) t st.back.places q f h.back in
      let g : AreLayersSound s.limits st.back.area st.vs.places st.lfh (q ∷ os) st.large = record { usable = h.usable; spans = h.spans; vs = h.vs; lfh = h.lfh; back = k; large = h.large } in
      longer os g
    where
      longer : (os : List Place) → AreLayersSound s.limits st.back.area st.vs.places st.lfh (q ∷ remove_found t st.back.places) st.large →
          AreLayersSound s.limits (area_resized 4096 st.back.area q.start granules) st.vs.places st.lfh (change_found t (resize_place granules size) st.back.places) st.large
      longer os g =
          let b = g.back.places.0.begins in
          let w = g.back.places.0.whole in
          let x = g.back.places.0.span in
          let first : x.first ≡ q.start / 4096 = omega arith in
          let pages : pages_of size ≡ granules / 256 = omega arith in
          let at : q.start / 4096 + q.granules / 256 ≡ x.first + x.pages = omega arith in
          let run = subst (λ (n : ℕ). IsRunFrom (is_free st.back.area) (256 * st.back.area.reserved) n (run_from (free_runs st.back.area) (q.start / 4096 + q.granules / 256))) at (run_from_is (is_free st.back.area) (256 * st.back.area.reserved) (q.start / 4096 + q.granules / 256)) in
          let fits : pages_of size ≤ x.pages + run_from (free_runs st.back.area) (q.start / 4096 + q.granules / 256) = omega arith in
          let r = lengthened s.limits st.back.area (pages_of size) q (resize_place granules size q) st.vs.places st.lfh (remove_found t st.back.places) st.large some g
          (λ u low high. let i : x.first + x.pages + (u - (x.first + x.pages)) ≡ u = omega arith in subst (λ (n : ℕ). is_free st.back.area n ≡ true) i (run.passes (u - (x.first + x.pages)) (omega arith))) refl e in
          subst₂ (λ (i n : ℕ). AreLayersSound s.limits (record { reserved = st.back.area.reserved; committed = commit i n st.back.area.committed; spans = change_found (is_back_at i) (with_pages n) st.back.area.spans }) st.vs.places st.lfh (change_found t (resize_place granules size) st.back.places) st.large) first pages
          (record { usable = r.usable; spans = r.spans; vs = r.vs; lfh = r.lfh; back = layer_back (IsInBack (change_found (is_back_at x.first) (with_pages (pages_of size)) st.back.area.spans)) t (resize_place granules size) st.back.places q f r.back; large = r.large })

  -- .. in the layer that it has
  pub resized_heap : (o : Option Place) → o ≡ Some q → find t (places_of st q.layer) ≡ Some q → (k : CallerView) → is_resized s st k granules size q ≡ true →
      AreLayersSound s.limits (area_with st.back.area granules o) (on layers.Vs (change_found t (resize_place granules size)) st.vs.places (layer_of o)) (on layers.Lfh (change_found t (resize_place granules size)) st.lfh (layer_of o))
      (on layers.Back (change_found t (resize_place granules size)) st.back.places (layer_of o)) (on layers.Large (change_found t (resize_place granules size)) st.large (layer_of o))
  resized_heap o is found k row =
      let p1 = and_parts _ (eqb granules (resized s.limits st q size)) row in
      let p2 = and_parts _ (lets_stay s.limits st q size) p1.0 in
      let p3 = and_parts _ (is_live q.status) p2.0 in
      let p4 = and_parts (may_touch k q.layer) (not (is_layer q.layer layers.Lfh)) p3.0 in
      subst (λ (w : Option Place). AreLayersSound s.limits (area_with st.back.area granules w) (on layers.Vs (change_found t (resize_place granules size)) st.vs.places (layer_of w)) (on layers.Lfh (change_found t (resize_place granules size)) st.lfh (layer_of w))
      (on layers.Back (change_found t (resize_place granules size)) st.back.places (layer_of w)) (on layers.Large (change_found t (resize_place granules size)) st.large (layer_of w))) (sym is)
      (by_layer q.layer refl p4.1 (eqb-true granules (resized s.limits st q size) p1.1) p2.1)
    where
      by_layer : (l : Layer) → q.layer ≡ l → not (is_layer l layers.Lfh) ≡ true → granules ≡ resized_in s.limits st q size l → lets_stay_in s.limits st q size l ≡ true → Resized s.limits st.back.area st.vs.places st.lfh st.back.places st.large (change_found t (resize_place granules size)) q.start granules l
      by_layer layers.Lfh e n g l = absurd (false≢true n)
      by_layer layers.Vs e n g l =
          let there : find t st.vs.places ≡ Some q = subst (λ (x : Layer). find t (places_of st x) ≡ Some q) e found in
          let r : reach s.limits st q ≡ q.granules + run_from (gaps st) (q.start / 16 + q.granules) = ap (reach_in s.limits st q) e in
          let u = leb-true (units_of size) (reach s.limits st q) (and_parts (leb size 131072) (leb (units_of size) (reach s.limits st q)) l).1 in
          record { usable = h.usable; spans = h.spans; vs = resized_vs there (g ∙ ap (taken_of (units_of size)) r) (subst (λ (n : ℕ). units_of size ≤ n) r u); lfh = h.lfh; back = h.back; large = h.large }
      by_layer layers.Back e n g l =
          let there : find t st.back.places ≡ Some q = subst (λ (x : Layer). find t (places_of st x) ≡ Some q) e found in
          let r : reach s.limits st q ≡ q.granules + 256 * run_from (free_runs st.back.area) (q.start / 4096 + q.granules / 256) = ap (reach_in s.limits st q) e in
          let w = and_parts (is_paged (route_of size)) (leb (256 * pages_of size) (reach s.limits st q)) l in
          let u = leb-true (256 * pages_of size) (reach s.limits st q) w.1 in
          resized_back there g (let k = (paged_pages size w.0).0 in omega arith) (subst (λ (n : ℕ). 256 * pages_of size ≤ n) r u)
      by_layer layers.Large e n g l =
          let there : find t st.large ≡ Some q = subst (λ (x : Layer). find t (places_of st x) ≡ Some q) e found in
          let r : reach s.limits st q ≡ q.granules + 256 * run_from (large_runs s.limits st.large) (q.start / 4096 - 256 * s.limits.segments + q.granules / 256) = ap (reach_in s.limits st q) e in
          let w = and_parts (is_huge (route_of size)) (leb (256 * pages_of size) (reach s.limits st q)) l in
          let u = leb-true (256 * pages_of size) (reach s.limits st q) w.1 in
          record { usable = h.usable; spans = h.spans; vs = h.vs; lfh = h.lfh; back = h.back; large = resized_large there g (huge_pages size w.0) (subst (λ (n : ℕ). 256 * pages_of size ≤ n) r u) }
