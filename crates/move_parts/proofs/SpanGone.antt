-- A block of VS has gone from its span: the span goes too where no block is left in it.
use Rattle.std.proofs.Common.{◌≡◌, ℕ, ◌<◌, true, List, Some, None, refl, sym, ap, ◌∙◌, subst, arith}
use Rattle.std.specs.List.{list_all}
use Rattle.heap_model.specs.declared.Kind.{Kind}
use Rattle.heap_model.specs.declared.Kind.TheVariants as kinds
use Rattle.heap_model.specs.declared.Opening.{Opening}
use Rattle.heap_model.specs.declared.What.TheVariants as whats
use Rattle.heap_model.specs.Layers.{StandsForVs, StandsForBack}
use Rattle.heap_model.specs.Legal.{has_place, are_used, leaves_whole}
use Rattle.heap_model.specs.Ranges.{vs_spans, is_of_kind}
use Rattle.heap_model.specs.Search.{begins_at, span_at}
use Rattle.heap_model.specs.State.{State, BackPart, Place, is_kind, has_address, remove_found}
use Rattle.heap_soundness.specs.Sound.{IsOneOf, AreInOrder, AreAt, IsInVs}
use Rattle.heap_soundness.proofs.GapRuns.{filtered_cases}
use Rattle.heap_soundness.proofs.Lists.{all_at, found_in}
use Rattle.serial_laws.specs.VsCalls.{area_closed}
use Rattle.backend_fit.specs.Kept.{Kept}
use Rattle.backend_fit.specs.Kept as backs
use Rattle.backend_fit.specs.Sound.{IsSound}
use Rattle.backend_fit.proofs.OfKind.{removed_of}
use Rattle.vs_layer.specs.Effects.{HasDropped}
use Rattle.vs_layer.specs.Kept.{VsKept, places_of, places_without, block_at}
use Rattle.vs_layer.specs.Standing.{layer_of, Becomes, without_block}
use Rattle.vs_calls.specs.Parts.{without_span, IsEmptySpan}
use Rattle.move_parts.proofs.Area.{found_span}
use Rattle.move_parts.proofs.SpansUsed.{left_is, x_in, all_used, rest_used}

vs_kind : (k : Kind) → is_kind k kinds.Vs ≡ true → k ≡ kinds.Vs
vs_kind kinds.Header e = absurd (let z : ⊥ = cc in z)
vs_kind kinds.Free e = absurd (let z : ⊥ = cc in z)
vs_kind kinds.Vs e = refl
vs_kind kinds.Lfh e = absurd (let z : ⊥ = cc in z)
vs_kind kinds.Back e = absurd (let z : ⊥ = cc in z)

-- the granules of a block
some_granules : (vs : VsKept) (addr : ℕ) (p : Place) → AreAt (IsInVs vs.spans) (places_of vs) → block_at vs addr ≡ Some p → 0 < p.granules
some_granules vs addr p inside there =
    let two = (all_at (λ (x : Place). IsInVs vs.spans x.start x.granules) p (places_of vs) inside (found_in (has_address addr) (places_of vs) p there)).two in
    omega (arith, two)

-- st is the state with the block, and k the one without it
module _ (o : Opening) (st k : State) (vs later : VsKept) (tells : StandsForVs o st (layer_of vs)) (used : leaves_whole st whats.Vs ≡ true) (addr : ℕ) (gone : k.vs ≡ without_block st.vs addr) (same : k.back ≡ st.back)
    (in_order : AreInOrder 0 vs.spans) (inside : AreAt (IsInVs vs.spans) (places_of vs)) where
  ---- A block is left in the span

  module _ (d : HasDropped vs later addr None) (becomes : Becomes vs later (λ v. without_block v addr) (λ xs. xs)) where
    some : 0 < d.place.granules
    some = some_granules vs addr d.place inside d.block.there

    stays : has_place 4096 (places_without vs addr) d.span ≡ true
    stays = ap (λ (ps : List Place). has_place 4096 ps d.span) (sym d.places) ∙ d.closed.0

    pub kept_used : leaves_whole k whats.Vs ≡ true
    kept_used = (λ i. are_used 4096 kinds.Vs (gone i).places (same i).area.spans) ∙ all_used o st vs tells addr used in_order d.place d.span d.block.there d.block.over some stays

    pub kept_tells : StandsForVs o k (layer_of later)
    kept_tells = becomes o st k tells gone (ap (λ (b : BackPart). vs_spans b.area) same)

  ---- None is left

  module _ (back : Kept) (tells_back : StandsForBack o st (backs.layer_of back)) (sound : IsSound back) (first pages : ℕ) (d : HasDropped vs later addr (Some (first, pages))) (becomes : Becomes vs later (λ v. without_block v addr) (remove_found (begins_at first))) where
    granules : 0 < d.place.granules
    granules = some_granules vs addr d.place inside d.block.there

    page : d.span.first ≡ first
    page = sym d.closed.1

    among : IsOneOf d.span st.back.area.spans × (is_of_kind kinds.Vs d.span ≡ true)
    among = filtered_cases (is_of_kind kinds.Vs) d.span st.back.area.spans (subst (IsOneOf d.span) tells.spans (x_in o st vs tells addr used in_order d.place d.span d.block.there d.block.over granules))

    found : span_at st.back.area d.span.first ≡ Some d.span
    found = found_span o st back tells_back sound d.span among.0

    spans_less : vs_spans (area_closed st.back.area first) ≡ remove_found (begins_at first) (vs_spans st.back.area)
    spans_less =
        subst (λ (p : ℕ). vs_spans (area_closed st.back.area p) ≡ remove_found (begins_at p) (vs_spans st.back.area)) page
        (removed_of (is_of_kind kinds.Vs) (begins_at d.span.first) st.back.area.spans d.span found among.1)

    pub empty : IsEmptySpan k first
    empty = record {
      span = d.span;
      there = (λ i. span_at (same i).area (sym page i)) ∙ found;
      kind = vs_kind d.span.kind among.1;
      none = (λ i. has_place 4096 (gone i).places d.span) ∙ (left_is o st vs tells addr d.span ∙ (ap (λ (ps : List Place). has_place 4096 ps d.span) (sym d.places) ∙ d.closed.0));
    }

    pub rest_whole : leaves_whole (without_span k first) whats.Vs ≡ true
    rest_whole =
        let left : List Place = remove_found (has_address addr) st.vs.places in
        let all : list_all (has_place 4096 left) (remove_found (begins_at d.span.first) vs.spans) ≡ true = rest_used o st vs tells addr used in_order d.place d.span d.block.there d.block.over granules in
        (λ i. list_all (has_place 4096 (gone i).places) (vs_spans (area_closed (same i).area first)))
        ∙ (ap (list_all (has_place 4096 left)) (spans_less ∙ (λ i. remove_found (begins_at (sym page i)) (sym tells.spans i))) ∙ all)

    pub rest_tells : StandsForVs o (without_span k first) (layer_of later)
    rest_tells = becomes o st (without_span k first) tells gone (ap (λ (b : BackPart). vs_spans (area_closed b.area first)) same ∙ spans_less)
