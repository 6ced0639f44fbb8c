-- The chunks of a span: where one ends the next starts, a place or a gap, up to the end of the span.
use Rattle.std.proofs.Common.{◌≡◌, ℕ, suc, ◌+◌, ◌-◌, ◌*◌, ◌/◌, ◌<◌, ◌≤◌, Bool, true, false, not, List, [], ◌∷◌, Option, Some, None, refl, sym, ap, ◌∙◌, subst, arith, inl, inr, ◌⊎◌}
use Rattle.std.specs.Prelude.{filter, option_map, unwrap_or}
use Rattle.std.specs.List.{AllByRecursion, find, list_any}
use Rattle.std.specs.Option.{option_or}
use Rattle.std.proofs.lemmas.Bool.{cases_Bool, cases_lt, eqb-true, eq-eqb, both_ways, false≢true}
use Rattle.heap_model.specs.declared.Kind.TheVariants as kinds
use Rattle.heap_model.specs.declared.Layer.{Layer}
use Rattle.heap_model.specs.declared.Layer.TheVariants as layers
use Rattle.heap_model.specs.Runs.{Run, IsRun}
use Rattle.heap_model.specs.State.{Span, Place, Status, Live, InHand, live_size, is_live, is_kind}
use Rattle.heap_model.specs.Ranges.{in_place, is_clear, gaps_in, gaps_of, is_of_kind}
use Rattle.vs_headers.specs.declared.Head.{Head}
use Rattle.vs_headers.specs.Headers.{IsHead}
use Rattle.vs_split.specs.Shown.{place_from, gap_from, place_to, gap_to, units_to, unused_of, place_head, gap_head, head_shown}
use Rattle.heap_soundness.specs.Sound.{IsOneOf, AreInOrder, IsInVs, SuitsSize, HasSoundSize}
use Rattle.heap_soundness.specs.Invariant.{IsVsSound}
use Rattle.heap_soundness.proofs.Lists.{all_at, found_in, found_passes, find_some, any_in, any_found}
use Rattle.heap_soundness.proofs.Spans.{above, apart_spans}
use Rattle.heap_soundness.proofs.VsGaps.{in_at, in_from, aligned_of, same_vs}
use Rattle.heap_soundness.proofs.GapRuns.{runs_begin, any_flat, in_filtered, IsGap, gaps_are, gaps_of_two}
use Rattle.heap_soundness.proofs.Addresses.{members_apart}

abbrev pub spans_of : List Span → List Span
spans_of xs = filter (is_of_kind kinds.Vs) xs

abbrev pub gaps_there : List Span → List Place → List Run
gaps_there xs ps = gaps_of (spans_of xs) ps

-- what is known of the spans, and of the places of the variable-size layer in them
pub record AreKnown (xs : List Span) (ps : List Place) : Type 0 where
  pub in_order : AreInOrder 0 xs
  pub short : AllByRecursion (λ x. x.pages ≤ 254) xs
  pub sound : IsVsSound xs ps
  pub layer : AllByRecursion (λ p. p.layer ≡ layers.Vs) ps
  pub sizes : AllByRecursion (λ p. HasSoundSize p p.status) ps
  pub live : AllByRecursion (λ p. is_live p.status ≡ true) ps

pub find_none : {A : Type 0} (t : A → Bool) (xs : List A) → ((x : A) → IsOneOf x xs → t x ≡ true → ⊥) → find t xs ≡ None
find_none t [] f = refl
find_none t (x ∷ xs) f = elim (cases_Bool (t x)) [
  | inl e ↦ absurd (f x (inl refl) e)
  | inr e ↦ rw e (find_none t xs (λ y i. f y (inr i)))
]

pub live_is : (t : Status) → is_live t ≡ true → (n : ℕ) × (t ≡ Live n)
live_is (Live n) e = (n, refl)
live_is (InHand c) e = absurd (false≢true e)

-- a live block of the layer leaves few bytes of its place
few_unused : (p : Place) → HasSoundSize p p.status → is_live p.status ≡ true → p.layer ≡ layers.Vs → unused_of p ≤ 32
few_unused p s l e = by_status p.status s l
  where
    by_size : (n : ℕ) → SuitsSize layers.Vs p.granules n → 16 * (p.granules - 1) - n ≤ 32
    by_size n s = elim s.1 [ inl h ↦ omega arith | inr h ↦ omega arith ]

    by_status : (t : Status) → HasSoundSize p t → is_live t ≡ true → 16 * (p.granules - 1) - unwrap_or (live_size t) 0 ≤ 32
    by_status (Live n) s l = by_size n (subst (λ (k : Layer). SuitsSize k p.granules n) e s.1)
    by_status (InHand c) s l = absurd (false≢true l)

units_below : (o : Option Place) (q : Option Run) → ((p : Place) → o ≡ Some p → p.granules < 65536) → ((r : Run) → q ≡ Some r → r.count < 65536) →
    unwrap_or (option_or (option_map (λ (p : Place). p.granules) o) (option_map (λ (r : Run). r.count) q)) 0 < 65536
units_below (Some p) q f g = f p refl
units_below None (Some r) f g = g r refl
units_below None None f g = omega arith

not_clear : (ps : List Place) (g : ℕ) (p : Place) → IsOneOf p ps → in_place g p ≡ true → is_clear ps g ≡ false
not_clear ps g p i h = ap not (any_in (in_place g) ps p i h)

in_some : (ps : List Place) (g : ℕ) → is_clear ps g ≡ false → (p : Place) × IsOneOf p ps × (in_place g p ≡ true)
in_some ps g h = elim (cases_Bool (list_any (in_place g) ps)) [
  | inl e ↦ any_found (in_place g) ps e
  | inr e ↦ absurd (false≢true (sym h ∙ ap not e))
]

-- The place that starts at a granule is what its head tells.
pub record IsPlaceAt (ps : List Place) (g : ℕ) (h : Head) : Type 0 where
  pub place : Place
  pub there : IsOneOf place ps
  pub at : place.start ≡ 16 * g
  pub units : h.units ≡ place.granules
  pub unused : h.unused ≡ unused_of place
  pub busy : h.busy ≡ true

-- .. or a gap, in which no place starts
pub record IsGapAt (ps : List Place) (g : ℕ) (h : Head) : Type 0 where
  pub free : h.busy ≡ false
  pub clear : (p : Place) → IsOneOf p ps → g ≤ p.start / 16 → p.start / 16 < g + h.units → ⊥

-- no place and no gap of these granules lies on both sides of the front of granule g
pub record IsBoundary (ps : List Place) (low high g : ℕ) : Type 0 where
  pub places : (p : Place) → IsOneOf p ps → p.start / 16 < g → p.start / 16 + p.granules ≤ g
  pub gaps : g < high → (j : ℕ) → suc j ≡ g → low ≤ j → is_clear ps j ≡ true → is_clear ps g ≡ false

-- A chunk starts at granule g.
pub record HasChunk (shown : ℕ → Option Head) (ps : List Place) (low high g : ℕ) : Type 0 where
  pub head : Head
  pub head_is : shown g ≡ Some head
  pub is : IsHead head
  pub some : 2 ≤ head.units
  pub fits : g + head.units ≤ high
  pub next : IsBoundary ps low high (g + head.units)
  pub what : IsPlaceAt ps g head ⊎ IsGapAt ps g head

module _ (xs : List Span) (ps : List Place) (known : AreKnown xs ps) where
  pub home : (p : Place) → IsOneOf p ps → IsInVs xs p.start p.granules
  home p i = all_at (λ (q : Place). IsInVs xs q.start q.granules) p ps known.sound.places i

  short : (x : Span) → IsOneOf x xs → x.pages ≤ 254
  short x i = all_at (λ (y : Span). y.pages ≤ 254) x xs known.short i

  pub gap_is : (r : Run) → IsOneOf r (gaps_there xs ps) → IsGap xs ps r
  gap_is r i = all_at (IsGap xs ps) r (gaps_there xs ps) (gaps_are xs ps) i

  place_short : (p : Place) → IsOneOf p ps → p.granules < 65536
  place_short p i =
      let h = home p i in
      let s = short h.span h.there in
      let behind = h.behind in
      let before = h.before in
      omega arith

  gap_short : (r : Run) → IsOneOf r (gaps_there xs ps) → r.count < 65536
  gap_short r i =
      let g = gap_is r i in
      let s = short g.span g.there in
      let above = g.run.above in
      let below = g.run.below in
      omega arith

  prev_short : (g : ℕ) → units_to (spans_of xs) ps g < 65536
  prev_short g = units_below (find (place_to g) ps) (find (gap_to g) (gaps_there xs ps))
      (λ p e. place_short p (found_in (place_to g) ps p e))
      (λ r e. gap_short r (found_in (gap_to g) (gaps_there xs ps) r e))

  pub layer_at : (p : Place) → IsOneOf p ps → p.layer ≡ layers.Vs
  layer_at p i = all_at (λ (q : Place). q.layer ≡ layers.Vs) p ps known.layer i

  pub size_at : (p : Place) → IsOneOf p ps → HasSoundSize p p.status
  size_at p i = all_at (λ (q : Place). HasSoundSize q q.status) p ps known.sizes i

  pub live_at : (p : Place) → IsOneOf p ps → is_live p.status ≡ true
  live_at p i = all_at (λ (q : Place). is_live q.status ≡ true) p ps known.live i

  -- the heads of places and gaps have their widths
  pub place_wide : (g : ℕ) (p : Place) → IsOneOf p ps → IsHead (place_head (units_to (spans_of xs) ps g) p)
  place_wide g p i = record { units = place_short p i; prev = prev_short g; unused = let few = few_unused p (size_at p i) (live_at p i) (layer_at p i) in omega arith }

  pub gap_wide : (g : ℕ) (r : Run) → IsOneOf r (gaps_there xs ps) → IsHead (gap_head (units_to (spans_of xs) ps g) r)
  gap_wide g r i = record { units = gap_short r i; prev = prev_short g; unused = omega arith }

  module _ (x : Span) (there : IsOneOf x xs) (kind : x.kind ≡ kinds.Vs) where
    abbrev low : ℕ
    low = 256 * x.first + 3

    abbrev high : ℕ
    high = 256 * (x.first + x.pages)

    pub some_pages : 0 < x.pages
    some_pages = (above 0 xs x known.in_order there).1

    pub first_boundary : IsBoundary ps low high low
    first_boundary = record {
      places = λ p i l. before p (home p i) l;
      gaps = λ l j e m t. absurd (omega arith);
    }
      where
        before : (p : Place) → IsInVs xs p.start p.granules → p.start / 16 < low → p.start / 16 + p.granules ≤ low
        before p h l =
            let behind = h.behind in
            let before = h.before in
            elim (apart_spans 0 xs h.span x known.in_order h.there there) [
              | inl e ↦ let f : h.span.first ≡ x.first = ap (λ (y : Span). y.first) e in absurd (omega arith)
              | inr (inl m) ↦ omega arith
              | inr (inr m) ↦ absurd (omega arith)
            ]

    -- the place that is found here
    place_chunk : (g : ℕ) (p : Place) → low ≤ g → g < high → find (place_from g) ps ≡ Some p → HasChunk (head_shown (spans_of xs) ps) ps low high g
    place_chunk g p l m e = record {
      head = head;
      head_is = ap (λ (o : Option Place). option_or (option_map (place_head prev) o) (option_map (gap_head prev) (find (gap_from g) (gaps_there xs ps)))) e;
      is = place_wide g p i;
      some = two;
      fits = fits;
      next = record {
        places = λ q j n. elim (members_apart ps p q known.sound.disjoint i j) [
          | inl f ↦ let s : p.start ≡ q.start = ap (λ (r : Place). r.start) f in let u : p.granules ≡ q.granules = ap (λ (r : Place). r.granules) f in omega (arith, start)
          | inr (inl f) ↦ absurd (omega (arith, start))
          | inr (inr f) ↦ let a = aligned_of q.start (home q j).aligned in omega (arith, start)
        ];
        gaps = λ n k f o t. absurd (both_ways (is_clear ps k) (not_clear ps k p i (in_from k p (omega (arith, start, two)) (omega (arith, start, two)))) t);
      };
      what = inl (record { place = p; there = i; at = start; units = refl; unused = refl; busy = refl });
    }
      where
        prev : ℕ
        prev = units_to (spans_of xs) ps g

        head : Head
        head = place_head prev p

        i : IsOneOf p ps
        i = found_in (place_from g) ps p e

        start : p.start ≡ 16 * g
        start = eqb-true p.start (16 * g) (found_passes (place_from g) ps p e)

        two : 2 ≤ p.granules
        two = (home p i).two

        fits : g + p.granules ≤ high
        fits =
            let h = home p i in
            let behind = h.behind in
            let before = h.before in
            let same : h.span ≡ x = same_vs xs h.span x g known.in_order h.there there (omega (arith, start)) (omega (arith, start, two)) (omega arith) m in
            let first : h.span.first ≡ x.first = ap (λ (y : Span). y.first) same in
            let pages : h.span.pages ≡ x.pages = ap (λ (y : Span). y.pages) same in
            omega (arith, start)

    -- the gap that is found here, where no place is
    gap_chunk : (g : ℕ) (r : Run) → low ≤ g → g < high → IsBoundary ps low high g → is_clear ps g ≡ true → find (gap_from g) (gaps_there xs ps) ≡ Some r →
        HasChunk (head_shown (spans_of xs) ps) ps low high g
    gap_chunk g r l m b t e = record {
      head = gap_head prev r;
      head_is = ap (λ (o : Option Place). option_or (option_map (place_head prev) o) (option_map (gap_head prev) (find (gap_from g) (gaps_there xs ps)))) none
          ∙ ap (λ (o : Option Run). option_map (gap_head prev) o) e;
      is = gap_wide g r i;
      some = all_at (λ (q : Run). 2 ≤ q.count) r (gaps_there xs ps) (gaps_of_two xs ps known.in_order known.sound) i;
      fits = let below = run.below in let some = some_pages in omega (arith, start);
      next = record {
        places = λ q j n. elim (cases_lt (q.start / 16) g) [
          | inl o ↦ let p = b.places q j o in omega arith
          | inr o ↦ absurd (no_place q j o n)
        ];
        gaps = λ n k f o u. let some = some_pages in subst (λ (z : ℕ). is_clear ps (z + r.count) ≡ false) start (run.after (omega (arith, start)));
      };
      what = inr (record { free = refl; clear = no_place });
    }
      where
        prev : ℕ
        prev = units_to (spans_of xs) ps g

        i : IsOneOf r (gaps_there xs ps)
        i = found_in (gap_from g) (gaps_there xs ps) r e

        start : r.first ≡ g
        start = eqb-true r.first g (found_passes (gap_from g) (gaps_there xs ps) r e)

        none : find (place_from g) ps ≡ None
        none = find_none (place_from g) ps (λ p j f.
            let at = eqb-true p.start (16 * g) f in
            let two = (home p j).two in
            both_ways (is_clear ps g) (not_clear ps g p j (in_from g p (omega arith) (omega arith))) t)

        run : IsRun (is_clear ps) low (low + (256 * x.pages - 3)) r
        run =
            let gap = gap_is r i in
            let above = gap.run.above in
            let some = gap.run.some in
            let below = gap.run.below in
            let same : gap.span ≡ x = same_vs xs gap.span x g known.in_order gap.there there (omega (arith, start)) (omega (arith, start)) (omega arith) m in
            subst (λ (y : Span). IsRun (is_clear ps) (256 * y.first + 3) (256 * y.first + 3 + (256 * y.pages - 3)) r) same gap.run

        no_place : (p : Place) → IsOneOf p ps → g ≤ p.start / 16 → p.start / 16 < g + r.count → ⊥
        no_place p j n o =
            let two = (home p j).two in
            let k : r.first + (p.start / 16 - g) ≡ p.start / 16 = omega (arith, start) in
            both_ways (is_clear ps (p.start / 16)) (not_clear ps (p.start / 16) p j (in_from (p.start / 16) p (omega arith) (omega arith)))
            (subst (λ (z : ℕ). is_clear ps z ≡ true) k (run.passes (p.start / 16 - g) (omega arith)))

    pub chunk_at : (g : ℕ) → low ≤ g → g < high → IsBoundary ps low high g → HasChunk (head_shown (spans_of xs) ps) ps low high g
    chunk_at g l m b = elim (cases_Bool (is_clear ps g)) [ inl e ↦ free e | inr e ↦ taken e ]
      where
        taken : is_clear ps g ≡ false → HasChunk (head_shown (spans_of xs) ps) ps low high g
        taken e =
            let q = in_some ps g e in
            let a = in_at g q.0 q.2 in
            let a0 = a.0 in
            let a1 = a.1 in
            let start = aligned_of q.0.start (home q.0 q.1).aligned in
            let here : g ≤ q.0.start / 16 = elim (cases_lt (q.0.start / 16) g) [ inl n ↦ let f = b.places q.0 q.1 n in absurd (omega arith) | inr n ↦ n ] in
            let f = find_some (place_from g) ps q.0 q.1 (eq-eqb q.0.start (16 * g) (omega arith)) in
            place_chunk g f.0 l m f.1

        free : is_clear ps g ≡ true → HasChunk (head_shown (spans_of xs) ps) ps low high g
        free e =
            let some = some_pages in
            let any = runs_begin (is_clear ps) low (256 * x.pages - 3) g l (omega arith) e (λ j f n. before j f n (cases_Bool (is_clear ps j))) in
            let all = any_flat (gap_from g) (gaps_in ps) (spans_of xs) x (in_filtered (is_of_kind kinds.Vs) x xs of_kind there) any in
            let q = any_found (gap_from g) (gaps_there xs ps) all in
            let f = find_some (gap_from g) (gaps_there xs ps) q.0 q.1 q.2 in
            gap_chunk g f.0 l m b e f.1
          where
            of_kind : is_of_kind kinds.Vs x ≡ true
            of_kind = ap (λ k. is_kind k kinds.Vs) kind

            before : (j : ℕ) → suc j ≡ g → low ≤ j → (is_clear ps j ≡ true) ⊎ (is_clear ps j ≡ false) → is_clear ps j ≡ false
            before j f n (inl t) = absurd (both_ways (is_clear ps g) (b.gaps m j f n t) e)
            before j f n (inr t) = t
