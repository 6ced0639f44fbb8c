-- A block of the back end that can't stay can't where one more segment was reserved: no run of it begins right behind the block.
use Rattle.std.proofs.Common.{◌≡◌, ℕ, ◌+◌, ◌*◌, ◌/◌, ◌≤◌, false, ◌&&◌, List, [], ◌∷◌, ◌++◌, map, Option, Some, None, refl, sym, ap, ◌∙◌, subst, arith, leb, eqb, inl, inr}
use Rattle.std.specs.Prelude.{option_map, unwrap_or}
use Rattle.std.specs.List.{find}
use Rattle.std.specs.Option.{option_or}
use Rattle.std.proofs.lemmas.Bool.{ne_eqb}
use Rattle.std.proofs.lemmas.List.Folds.{find-append}
use Rattle.heap_model.specs.declared.Act.TheVariants as acts
use Rattle.heap_model.specs.declared.Layer.TheVariants as layers
use Rattle.heap_model.specs.declared.Opening.{Opening}
use Rattle.heap_model.specs.declared.Run.{Run as PageRun}
use Rattle.heap_model.specs.Backend.{free_runs}
use Rattle.heap_model.specs.CallState.{Configuration}
use Rattle.heap_model.specs.Geometry.{route_of, is_paged, pages_of}
use Rattle.heap_model.specs.Layers.{StandsForBack}
use Rattle.heap_model.specs.Legal.{after}
use Rattle.heap_model.specs.Runs.{Run}
use Rattle.heap_model.specs.State.{Setting, State, Area, BackPart, Span, Place, has_address}
use Rattle.heap_model.specs.Stay.{run_from, reach_back, lets_stay}
use Rattle.heap_soundness.specs.Sound.{IsOneOf}
use Rattle.heap_soundness.proofs.Lists.{all_at, found_in}
use Rattle.claim_rule.specs.Entries.{entry}
use Rattle.serial_laws.specs.BackCalls.{one_more_reserved}
use Rattle.page_ranges.specs.Words.{runs_of}
use Rattle.page_ranges.specs.Spans.{span_of}
use Rattle.backend_fit.specs.Effects.{place_of}
use Rattle.backend_fit.specs.Kept.{Kept, spans_of, is_block_at, layer_of}
use Rattle.backend_fit.specs.Sound.{IsSound}
use Rattle.backend_fit.proofs.Goes.{spans_below}
use Rattle.backend_fit.proofs.NextSegment.{AreBelow, one_run_more}
use Rattle.backend_fit.proofs.Told.{place_at_address}

mapped : (r : PageRun) (rs : List PageRun) → IsOneOf r rs → IsOneOf (span_of r) (map span_of rs)
mapped r [] i = absurd i
mapped r (q ∷ qs) (inl e) = inl (ap span_of e)
mapped r (q ∷ qs) (inr i) = inr (mapped r qs i)

module _ (o : Opening) (st : State) (back : Kept) (t : StandsForBack o st (layer_of back)) (sound : IsSound back) (addr : ℕ) (p : Place) (there : find (has_address addr) st.back.places ≡ Some p) where
  below : AreBelow st.back.area.reserved st.back.area.spans
  below = subst (λ (a : Area). AreBelow a.reserved a.spans) (ap (λ (b : BackPart). b.area) t.part) (spans_below back.words back.region.reserved 0 _ (runs_of back.words) sound.whole sound.used)

  -- the block ends within the segments that are reserved
  ends_low : p.start / 4096 + p.granules / 256 ≤ 256 * st.back.area.reserved
  ends_low = by (find (is_block_at addr) (spans_of back)) refl (sym (place_at_address o st back t sound addr) ∙ there)
    where
      by : (x : Option PageRun) → find (is_block_at addr) (spans_of back) ≡ x → option_map place_of x ≡ Some p → p.start / 4096 + p.granules / 256 ≤ 256 * st.back.area.reserved
      by None f e = absurd (let no : ⊥ = cc in no)
      by (Some r) f e =
          let is : place_of r ≡ p = cc in
          let among : IsOneOf (span_of r) st.back.area.spans = subst (λ (a : Area). IsOneOf (span_of r) a.spans) (ap (λ (b : BackPart). b.area) t.part) (mapped r (spans_of back) (found_in (is_block_at addr) (spans_of back) r f)) in
          let low : r.first + r.pages ≤ 256 * st.back.area.reserved = all_at (λ (x : Span). x.first + x.pages ≤ 256 * st.back.area.reserved) (span_of r) st.back.area.spans below among in
          subst (λ (y : Place). y.start / 4096 + y.granules / 256 ≤ 256 * st.back.area.reserved) is (omega (arith, low))

  same_run : run_from (free_runs (one_more_reserved st.back.area)) (p.start / 4096 + p.granules / 256) ≡ run_from (free_runs st.back.area) (p.start / 4096 + p.granules / 256)
  same_run =
      let at = p.start / 4096 + p.granules / 256 in
      let l = ends_low in
      let off : eqb (256 * st.back.area.reserved + 2) at ≡ false = ne_eqb (256 * st.back.area.reserved + 2) at (λ e. omega (arith, l, e)) in
      let last : find (λ (r : Run). eqb r.first at) (record { first = 256 * st.back.area.reserved + 2; count = 254 } ∷ []) ≡ None = rw off refl in
      let both : find (λ (r : Run). eqb r.first at) (free_runs st.back.area ++ record { first = 256 * st.back.area.reserved + 2; count = 254 } ∷ []) ≡ find (λ (r : Run). eqb r.first at) (free_runs st.back.area) =
      find-append (λ (r : Run). eqb r.first at) (free_runs st.back.area) (record { first = 256 * st.back.area.reserved + 2; count = 254 } ∷ [])
      ∙ (ap (option_or (find (λ (r : Run). eqb r.first at) (free_runs st.back.area))) last ∙ or_none (find (λ (r : Run). eqb r.first at) (free_runs st.back.area))) in
      ap (λ (x : Option Run). unwrap_or (option_map (λ (r : Run). r.count) x) 0) (ap (find (λ (r : Run). eqb r.first at)) (one_run_more st.back.area below) ∙ both)
    where
      or_none : (x : Option Run) → option_or x None ≡ x
      or_none None = refl
      or_none (Some y) = refl

  pub back_leaves_still : (s : Setting) (m : Configuration) (c segment n : ℕ) → m.state ≡ st → segment ≡ st.back.area.reserved → p.layer ≡ layers.Back → lets_stay s.limits m.state p n ≡ false → lets_stay s.limits (after s m (entry c (acts.Reserve segment))).state p n ≡ false
  back_leaves_still s m c segment n e w l h =
      let k : lets_stay s.limits st p n ≡ false = ap (λ (y : State). lets_stay s.limits y p n) (sym e) ∙ h in
      let g : (is_paged (route_of n) && leb (256 * pages_of n) (reach_back 4096 st.back.area p)) ≡ false = rw l at k in
      let more : (is_paged (route_of n) && leb (256 * pages_of n) (reach_back 4096 (one_more_reserved st.back.area) p)) ≡ false = ap (λ (x : ℕ). is_paged (route_of n) && leb (256 * pages_of n) (p.granules + 256 * x)) same_run ∙ g in
      rw l (ap (λ (y : State). is_paged (route_of n) && leb (256 * pages_of n) (reach_back 4096 (record { reserved = y.back.area.reserved + 1; committed = y.back.area.committed; spans = y.back.area.spans }) p)) e ∙ more)
