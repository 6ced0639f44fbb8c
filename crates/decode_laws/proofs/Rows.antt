-- Chunks that are marked where the places and the gaps begin tile the spans, and each has the widths of a header word.
use Rattle.std.proofs.Common.{◌≡◌, ℕ, zero, suc, ◌+◌, ◌-◌, ◌*◌, ◌/◌, ◌<◌, ◌≤◌, true, false, List, [], ◌∷◌, Option, Some, None, refl, sym, ap, ◌∙◌, subst, arith, inl, inr}
use Rattle.std.specs.Prelude.{option_map, unwrap_or}
use Rattle.std.specs.List.{find}
use Rattle.std.specs.Option.{option_or}
use Rattle.std.proofs.lemmas.Bool.{cases_lt, eqb-true, eq-eqb, both_ways, false≢true}
use Rattle.heap_model.specs.declared.Kind.TheVariants as kinds
use Rattle.heap_model.specs.Runs.{Run}
use Rattle.heap_model.specs.State.{Span, Place}
use Rattle.heap_model.specs.Ranges.{is_clear}
use Rattle.heap_soundness.specs.Sound.{IsOneOf}
use Rattle.heap_soundness.proofs.GapRuns.{IsGap}
use Rattle.heap_soundness.proofs.Lists.{found_in, found_passes, find_some}
use Rattle.heap_soundness.proofs.Spans.{apart_spans}
use Rattle.heap_soundness.proofs.VsGaps.{same_vs}
use Rattle.heap_soundness.proofs.Addresses.{members_apart}
use Rattle.vs_headers.specs.declared.Head.{Head}
use Rattle.vs_headers.specs.Headers.{IsHead}
use Rattle.vs_split.specs.Chunks.{Chunks, head_at}
use Rattle.vs_split.specs.Laws.{IsRow, AreOfSpan}
use Rattle.vs_split.specs.Shown.{place_from, gap_from, place_to, gap_to, units_to, place_head, gap_head, head_shown}
use Rattle.decode_laws.proofs.Chunks.{spans_of, gaps_there, AreKnown, IsPlaceAt, IsGapAt, IsBoundary, HasChunk, find_none, home, gap_is, place_wide, gap_wide, some_pages, first_boundary, chunk_at}

-- the head by what starts there
abbrev head_by : ℕ → Option Place → Option Run → Option Head
head_by prev o q = option_or (option_map (place_head prev) o) (option_map (gap_head prev) q)

-- the units before by what ends there
abbrev units_by : Option Place → Option Run → ℕ
units_by o q = unwrap_or (option_or (option_map (λ (p : Place). p.granules) o) (option_map (λ (r : Run). r.count) q)) 0

-- a head tells the units before it
prev_of : (prev : ℕ) (o : Option Place) (q : Option Run) (h : Head) → head_by prev o q ≡ Some h → h.prev ≡ prev
prev_of prev (Some p) q h e = let same : place_head prev p ≡ h = cc in sym (ap (λ (k : Head). k.prev) same)
prev_of prev None (Some r) h e = let same : gap_head prev r ≡ h = cc in sym (ap (λ (k : Head). k.prev) same)
prev_of prev None None h e = absurd (let z : ⊥ = cc in z)

-- a free head is that of a gap
free_of : (prev : ℕ) (o : Option Place) (q : Option Run) (h : Head) → head_by prev o q ≡ Some h → h.busy ≡ false → (r : Run) × (q ≡ Some r) × (r.count ≡ h.units)
free_of prev (Some p) q h e f = let same : place_head prev p ≡ h = cc in absurd (false≢true (sym f ∙ sym (ap (λ (k : Head). k.busy) same)))
free_of prev None (Some r) h e f = let same : gap_head prev r ≡ h = cc in (r, refl, ap (λ (k : Head). k.units) same)
free_of prev None None h e f = absurd (let z : ⊥ = cc in z)

module _ (xs : List Span) (ps : List Place) (known : AreKnown xs ps) where
  abbrev shown : ℕ → Option Head
  shown g = head_shown (spans_of xs) ps g

  -- each head that is shown has the widths of a header word
  pub wide : (g : ℕ) (h : Head) → shown g ≡ Some h → IsHead h
  wide g h e = by (find (place_from g) ps) refl (find (gap_from g) (gaps_there xs ps)) refl e
    where
      by : (o : Option Place) → find (place_from g) ps ≡ o → (q : Option Run) → find (gap_from g) (gaps_there xs ps) ≡ q → head_by (units_to (spans_of xs) ps g) o q ≡ Some h → IsHead h
      by (Some p) a q b e = let same : place_head (units_to (spans_of xs) ps g) p ≡ h = cc in subst IsHead same (place_wide xs ps known g p (found_in (place_from g) ps p a))
      by None a (Some r) b e = let same : gap_head (units_to (spans_of xs) ps g) r ≡ h = cc in subst IsHead same (gap_wide xs ps known g r (found_in (gap_from g) (gaps_there xs ps) r b))
      by None a None b e = absurd (let z : ⊥ = cc in z)

  units_are : (g : ℕ) (o : Option Place) (q : Option Run) → find (place_to g) ps ≡ o → find (gap_to g) (gaps_there xs ps) ≡ q → units_to (spans_of xs) ps g ≡ units_by o q
  units_are g o q a b = ap (λ (z : Option Place). units_by z (find (gap_to g) (gaps_there xs ps))) a ∙ ap (units_by o) b

  module _ (x : Span) (there : IsOneOf x xs) (kind : x.kind ≡ kinds.Vs) where
    abbrev low : ℕ
    low = 256 * x.first + 3

    abbrev high : ℕ
    high = 256 * (x.first + x.pages)

    -- nothing ends at the front of the span
    none_before : units_to (spans_of xs) ps low ≡ 0
    none_before = units_are low None None (find_none (place_to low) ps no_place) (find_none (gap_to low) (gaps_there xs ps) no_gap)
      where
        no_place : (p : Place) → IsOneOf p ps → place_to low p ≡ true → ⊥
        no_place p i e =
            let h = home xs ps known p i in
            let behind = h.behind in
            let before = h.before in
            let two = h.two in
            let end = eqb-true (p.start / 16 + p.granules) low e in
            elim (apart_spans 0 xs h.span x known.in_order h.there there) [
              | inl f ↦ let first : h.span.first ≡ x.first = ap (λ (y : Span). y.first) f in omega arith
              | inr (inl m) ↦ omega arith
              | inr (inr m) ↦ omega arith
            ]

        no_gap : (r : Run) → IsOneOf r (gaps_there xs ps) → gap_to low r ≡ true → ⊥
        no_gap r i e =
            let g = gap_is xs ps known r i in
            let above = g.run.above in
            let below = g.run.below in
            let some = g.run.some in
            let pages = some_pages xs ps known g.span g.there g.kind in
            let end = eqb-true (r.first + r.count) low e in
            elim (apart_spans 0 xs g.span x known.in_order g.there there) [
              | inl f ↦ let first : g.span.first ≡ x.first = ap (λ (y : Span). y.first) f in omega arith
              | inr (inl m) ↦ omega arith
              | inr (inr m) ↦ omega arith
            ]

    -- what ends where a place ends is that place
    place_ends : (g : ℕ) (h : Head) → IsPlaceAt ps g h → units_to (spans_of xs) ps (g + h.units) ≡ h.units
    place_ends g h w =
        let at = w.at in
        let units = w.units in
        let f = find_some (place_to (g + h.units)) ps w.place w.there (eq-eqb (w.place.start / 16 + w.place.granules) (g + h.units) (omega arith)) in
        let i = found_in (place_to (g + h.units)) ps f.0 f.1 in
        let end = eqb-true (f.0.start / 16 + f.0.granules) (g + h.units) (found_passes (place_to (g + h.units)) ps f.0 f.1) in
        let two = (home xs ps known f.0 i).two in
        let some = (home xs ps known w.place w.there).two in
        let same : f.0.granules ≡ w.place.granules = elim (members_apart ps f.0 w.place known.sound.disjoint i w.there) [
          | inl e ↦ ap (λ (p : Place). p.granules) e
          | inr (inl a) ↦ absurd (omega arith)
          | inr (inr a) ↦ absurd (omega arith)
        ] in
        units_are (g + h.units) (Some f.0) (find (gap_to (g + h.units)) (gaps_there xs ps)) f.1 refl ∙ same ∙ sym units

    -- two gaps that end at one granule begin at one
    one_gap : (q r : Run) → IsOneOf q (gaps_there xs ps) → IsOneOf r (gaps_there xs ps) → q.first + q.count ≡ r.first + r.count → r.first ≤ q.first
    one_gap q r i j e = elim (cases_lt q.first r.first) [ inr l ↦ l | inl l ↦ absurd (longer (gap_is xs ps known q i) (gap_is xs ps known r j) l) ]
      where
        longer : IsGap xs ps q → IsGap xs ps r → q.first < r.first → ⊥
        longer a b l =
            let above = a.run.above in
            let below = a.run.below in
            let some = b.run.some in
            let from = b.run.above in
            let to = b.run.below in
            let pages = some_pages xs ps known a.span a.there a.kind in
            let others = some_pages xs ps known b.span b.there b.kind in
            let same : b.span ≡ a.span = same_vs xs b.span a.span r.first known.in_order b.there a.there (omega arith) (omega arith) (omega arith) (omega arith) in
            let first : b.span.first ≡ a.span.first = ap (λ (y : Span). y.first) same in
            let at : q.first + (r.first - 1 - q.first) ≡ r.first - 1 = omega arith in
            both_ways (is_clear ps (r.first - 1)) (b.run.before (omega arith) (r.first - 1) (omega arith))
            (subst (λ (k : ℕ). is_clear ps k ≡ true) at (a.run.passes (r.first - 1 - q.first) (omega arith)))

    -- what ends where a gap ends is that gap
    gap_ends : (g : ℕ) (h : Head) → IsBoundary ps low high g → shown g ≡ Some h → IsGapAt ps g h → units_to (spans_of xs) ps (g + h.units) ≡ h.units
    gap_ends g h b e w = units_are (g + h.units) None (Some last.0) (find_none (place_to (g + h.units)) ps no_place) last.1 ∙ same
      where
        found : (r : Run) × (find (gap_from g) (gaps_there xs ps) ≡ Some r) × (r.count ≡ h.units)
        found = free_of (units_to (spans_of xs) ps g) (find (place_from g) ps) (find (gap_from g) (gaps_there xs ps)) h e w.free

        there_is : IsOneOf found.0 (gaps_there xs ps)
        there_is = found_in (gap_from g) (gaps_there xs ps) found.0 found.1

        first : found.0.first ≡ g
        first = eqb-true found.0.first g (found_passes (gap_from g) (gaps_there xs ps) found.0 found.1)

        end : found.0.first + found.0.count ≡ g + h.units
        end = let count = found.2 in omega (arith, first)

        last : (r : Run) × (find (gap_to (g + h.units)) (gaps_there xs ps) ≡ Some r)
        last = find_some (gap_to (g + h.units)) (gaps_there xs ps) found.0 there_is (eq-eqb (found.0.first + found.0.count) (g + h.units) end)

        same : last.0.count ≡ h.units
        same =
            let i = found_in (gap_to (g + h.units)) (gaps_there xs ps) last.0 last.1 in
            let to = eqb-true (last.0.first + last.0.count) (g + h.units) (found_passes (gap_to (g + h.units)) (gaps_there xs ps) last.0 last.1) in
            let here = one_gap last.0 found.0 i there_is (to ∙ sym end) in
            let back = one_gap found.0 last.0 there_is i (end ∙ sym to) in
            omega (arith, first)

        no_place : (p : Place) → IsOneOf p ps → place_to (g + h.units) p ≡ true → ⊥
        no_place p i t =
            let two = (home xs ps known p i).two in
            let some = (gap_is xs ps known found.0 there_is).run.some in
            let count = found.2 in
            let to = eqb-true (p.start / 16 + p.granules) (g + h.units) t in
            elim (cases_lt (p.start / 16) g) [
              | inl l ↦ let before = b.places p i l in omega arith
              | inr l ↦ w.clear p i l (omega arith)
            ]

    -- the chunk behind is told how long this one is
    chunk_ends : (g : ℕ) → IsBoundary ps low high g → (c : HasChunk shown ps low high g) → units_to (spans_of xs) ps (g + c.head.units) ≡ c.head.units
    chunk_ends g b c = elim c.what [ inl w ↦ place_ends g c.head w | inr w ↦ gap_ends g c.head b c.head_is w ]

    module _ (v : Chunks) (marks : (g : ℕ) → head_at v g ≡ shown g) where
      -- chunks tile the rest of the span from a front of one on, and so all of it
      row_from : (n g prev : ℕ) → high ≤ g + n → low ≤ g → g ≤ high → IsBoundary ps low high g → units_to (spans_of xs) ps g ≡ prev → (hs : List Head) × IsRow v prev g high hs
      row_from zero g prev f l m b u = ([], omega arith)
      row_from (suc n) g prev f l m b u = elim (cases_lt g high) [
        | inr k ↦ ([], omega arith)
        | inl k ↦
            let c = chunk_at xs ps known x there kind g l k b in
            let some = c.some in
            let fits = c.fits in
            let rest = row_from n (g + c.head.units) c.head.units (omega arith) (omega arith) fits c.next (chunk_ends g b c) in
            let before = prev_of (units_to (spans_of xs) ps g) (find (place_from g) ps) (find (gap_from g) (gaps_there xs ps)) c.head c.head_is in
            (c.head ∷ rest.0, (marks g ∙ c.head_is, before ∙ u, rest.1))
      ]

      pub span_row : (hs : List Head) × AreOfSpan v x.first x.pages hs
      span_row =
          let some = some_pages xs ps known x there kind in
          row_from (256 * x.pages) low 0 (omega arith) (omega arith) (omega arith) (first_boundary xs ps known x there kind) none_before
