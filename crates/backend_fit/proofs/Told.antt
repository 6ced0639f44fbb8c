-- What a back end tells of each state that it stands for.
use Rattle.std.proofs.Common.{◌≡◌, ◌⊎◌, ℕ, ◌+◌, ◌*◌, ◌/◌, ◌<◌, ◌≤◌, true, false, List, [], ◌∷◌, map, Some, refl, sym, ap, subst, ◌∙◌, arith, eqb, inl, inr}
use Rattle.std.specs.Prelude.{option_map, filter}
use Rattle.std.specs.List.{AllByRecursion, find, list_any}
use Rattle.std.proofs.lemmas.Bool.{cases_Bool, and_left, eqb-true, ne_eqb, false≢true}
use Rattle.heap_model.specs.declared.Kind.{Kind}
use Rattle.heap_model.specs.declared.Kind.TheVariants as kinds
use Rattle.heap_model.specs.declared.Opening.{Opening}
use Rattle.heap_model.specs.declared.Run.{Run}
use Rattle.heap_model.specs.declared.What.TheVariants as whats
use Rattle.heap_model.specs.State.{State, Area, BackPart, Span, has_address, by_address, is_kind, remove_found}
use Rattle.heap_model.specs.Backend.{back_place}
use Rattle.heap_model.specs.Ranges.{is_of_kind}
use Rattle.heap_model.specs.Search.{begins_at}
use Rattle.heap_model.specs.Legal.{are_used, leaves_whole, lies_in}
use Rattle.heap_model.specs.Layers.{StandsForBack}
use Rattle.serial_laws.proofs.Sorted.{OnlyOne, any_sorted, found_sorted, removed_sorted}
use Rattle.page_ranges.specs.Words.{runs_of}
use Rattle.page_ranges.specs.Spans.{span_of, AreRising}
use Rattle.page_ranges.proofs.Blocks.{taken_rise}
use Rattle.backend_fit.specs.Effects.{place_of, starts_at}
use Rattle.backend_fit.specs.Kept.{Kept, area_of, spans_of, places_in, is_block_run, IsBlockRun, block_runs, is_block_at, layer_of}
use Rattle.backend_fit.specs.Laws.{FillsSpan, GoesBehind}
use Rattle.backend_fit.specs.Sound.{IsSound}
use Rattle.backend_fit.proofs.OfKind.{found_of, filter_rising}
use Rattle.backend_fit.proofs.Rising.{found_addr, found_block, only_one, found_place, removed_place, no_other, all_used, start_found, span_found}
use Rattle.backend_fit.proofs.NextSegment.{AreBelow}
use Rattle.backend_fit.proofs.Goes.{Goes, Into, Next, goes, goes_next, spans_below}

block_at_is : (addr : ℕ) (r : Run) → is_block_at addr r ≡ true → is_block_run r ≡ true
block_at_is addr r h = elim (cases_Bool (is_block_run r)) [
  | inl e ↦ e
  | inr e ↦ let z : true ≡ false = sym h ∙ and_left (is_block_run r) (eqb (4096 * r.first) addr) e in absurd (let y : ⊥ = cc in y)
]

kind_of : (k : Kind) → is_kind k kinds.Back ≡ true → k ≡ kinds.Back
kind_of kinds.Back e = refl
kind_of kinds.Header e = absurd (false≢true e)
kind_of kinds.Free e = absurd (false≢true e)
kind_of kinds.Vs e = absurd (false≢true e)
kind_of kinds.Lfh e = absurd (false≢true e)

all_blocks : (rs : List Run) → AllByRecursion IsBlockRun (filter is_block_run rs)
all_blocks [] = tt
all_blocks (r ∷ rs) = elim (cases_Bool (is_block_run r)) [
  | inl e ↦ rw e (record { kind = kind_of r.mark.kind e }, all_blocks rs)
  | inr e ↦ rw e (all_blocks rs)
]

-- no other span begins where this one does
none_begins : (from first : ℕ) (rs : List Run) → AreRising from rs → first ≤ from → (z : first ≡ from → ⊥) → list_any (begins_at first) (filter (is_of_kind kinds.Lfh) (map span_of rs)) ≡ false
none_begins from first [] a l z = refl
none_begins from first (r ∷ rs) a l z =
    let ne : eqb r.first first ≡ false = ne_eqb r.first first (λ e. z (omega (arith, e, a.0, l))) in
    let rest = none_begins (r.first + r.pages) first rs a.2 (omega (arith, l, a.0)) (λ e. z (omega (arith, e, a.0, a.1, l))) in
    elim (cases_Bool (is_of_kind kinds.Lfh (span_of r))) [ inl e ↦ rw (e, ne) rest | inr e ↦ rw e rest ]

no_subsegment : (from first : ℕ) (rs : List Run) (r : Run) → AreRising from rs → find (starts_at first) rs ≡ Some r → r.mark.kind ≡ kinds.Back → list_any (begins_at first) (filter (is_of_kind kinds.Lfh) (map span_of rs)) ≡ false
no_subsegment from first [] r a f k = refl
no_subsegment from first (q ∷ qs) r a f k = elim (cases_Bool (eqb q.first first)) [
  | inl e ↦
      let is : Some q ≡ Some r = rw e at f in
      let same : q ≡ r = cc in
      let at = eqb-true q.first first e in
      let kd : is_kind q.mark.kind kinds.Lfh ≡ false = ap (λ (x : Run). is_kind x.mark.kind kinds.Lfh) same ∙ ap (λ (x : Kind). is_kind x kinds.Lfh) k in
      rw kd (none_begins (q.first + q.pages) first qs a.2 (omega (arith, at)) (λ e. let z : ⊥ = omega (arith, e, at, a.1) in z))
  | inr e ↦
      let rest = no_subsegment (q.first + q.pages) first qs r a.2 (rw e at f) k in
      elim (cases_Bool (is_of_kind kinds.Lfh (span_of q))) [ inl g ↦ rw (g, e) rest | inr g ↦ rw g rest ]
]

module _ (o : Opening) (st : State) (k : Kept) (t : StandsForBack o st (layer_of k)) where
  area_is : st.back.area ≡ area_of k
  area_is = ap (λ (b : BackPart). b.area) (sym t.part)

  places_are : by_address st.back.places ≡ places_in k
  places_are = ap (λ (b : BackPart). b.places) (sym t.part)

  spans_are : st.back.area.spans ≡ map span_of (spans_of k)
  spans_are = ap (λ (a : Area). a.spans) area_is

  pub spans_used : leaves_whole st whats.Back ≡ true
  spans_used =
      ap (λ (xs : List Span). are_used 4096 kinds.Back st.back.places xs) spans_are
      ∙ all_used st.back.places (spans_of k) (λ test h. sym (any_sorted test st.back.places) ∙ (ap (list_any test) places_are ∙ h))

  module _ (sound : IsSound k) where
    abbrev blocks : List Run
    blocks = block_runs k.words

    rising : AreRising 0 (spans_of k)
    rising = taken_rise k.words sound.whole

    blocks_rise : AreRising 0 blocks
    blocks_rise = filter_rising is_block_run 0 (spans_of k) rising

    found_there : (addr : ℕ) → find (is_block_at addr) blocks ≡ find (is_block_at addr) (spans_of k)
    found_there addr = found_of is_block_run (is_block_at addr) (spans_of k) (block_at_is addr)

    one_has : (addr : ℕ) → OnlyOne (has_address addr) (by_address st.back.places)
    one_has addr = subst (OnlyOne (has_address addr)) (sym places_are) (only_one (has_address addr) addr (λ (r : Run). refl) 0 blocks blocks_rise)

    pub place_at_address : (addr : ℕ) → find (has_address addr) st.back.places ≡ option_map place_of (find (is_block_at addr) (spans_of k))
    place_at_address addr =
        sym (found_sorted (has_address addr) st.back.places (one_has addr))
        ∙ (ap (find (has_address addr)) places_are
        ∙ (found_place (has_address addr) addr (λ (r : Run). refl) blocks (all_blocks (spans_of k))
        ∙ ap (option_map place_of) (found_there addr)))

    module _ (addr : ℕ) (r : Run) (f : find (is_block_at addr) (spans_of k) ≡ Some r) where
      g : find (is_block_at addr) blocks ≡ Some r
      g = found_there addr ∙ f

      at : 4096 * r.first ≡ addr
      at = found_addr addr blocks r g

      page : addr / 4096 ≡ r.first
      page = omega (arith, at)

      start : find (starts_at r.first) (spans_of k) ≡ Some r
      start = start_found addr 0 (spans_of k) r rising f

      less : by_address (remove_found (has_address addr) st.back.places) ≡ map place_of (remove_found (starts_at r.first) blocks)
      less =
          removed_sorted (has_address addr) st.back.places (one_has addr)
          ∙ (ap (remove_found (has_address addr)) places_are
          ∙ removed_place (has_address addr) addr (λ (r : Run). refl) r.first blocks (sym at))

      pub fills : FillsSpan st addr r
      fills =
          let block = found_block IsBlockRun addr blocks r (all_blocks (spans_of k)) g in
          let rest = remove_found (has_address addr) st.back.places in
          record {
            span = ap (λ (z : ℕ). find (begins_at z) st.back.area.spans) page ∙ (ap (find (begins_at r.first)) spans_are ∙ span_found r.first (spans_of k) r start);
            kind = block.kind;
            alone =
                sym (any_sorted (lies_in 4096 (span_of r)) rest)
                ∙ (ap (list_any (lies_in 4096 (span_of r))) less ∙ no_other addr 0 blocks r blocks_rise (all_blocks (spans_of k)) g);
            apart =
                ap (λ (z : ℕ). list_any (begins_at z) (filter (is_of_kind kinds.Lfh) st.back.area.spans)) page
                ∙ (ap (λ (xs : List Span). list_any (begins_at r.first) (filter (is_of_kind kinds.Lfh) xs)) spans_are
                ∙ no_subsegment 0 r.first (spans_of k) r rising start block.kind);
          }

    pub goes_somewhere : (n first : ℕ) → back_place st.back.area o.limits.segments n ≡ Some first → (first / 256 < st.back.area.reserved) ⊎ GoesBehind st.back.area o.limits.segments n first
    goes_somewhere n first p = by (goes st.back.area o.limits.segments n first p)
      where
        by : Goes st.back.area o.limits.segments n first → (first / 256 < st.back.area.reserved) ⊎ GoesBehind st.back.area o.limits.segments n first
        by (Into low) = inl low
        by (Next w less few none) =
            let x = goes_next st.back.area o.limits.segments n first
            (subst (λ (a : Area). AreBelow a.reserved a.spans) (sym area_is) (spans_below k.words k.region.reserved 0 _ (runs_of k.words) sound.whole sound.used)) w few none in
            inr (record { first_is = w; less = less; place = x.place; there = x.there; short = x.short })
