-- The image of a closed heap shows the state behind the final history.
use Rattle.std.proofs.Common.{◌≡◌, ℕ, ◌+◌, ◌-◌, ◌*◌, ◌<◌, ◌≤◌, true, false, List, [], ◌∷◌, map, Option, Some, None, refl, sym, ap, subst, ◌∙◌, arith, inl, inr}
use Rattle.std.specs.Prelude.{option_and_then, option_map, unwrap_or, slice_index}
use Rattle.std.specs.List.{AllByRecursion, find, list_any}
use Rattle.std.specs.Option.{option_map_or, option_or}
use Rattle.std.proofs.lemmas.Bool.{cases_Bool, or_left, eq-eqb}
use Rattle.heap_model.specs.declared.Kind.{Kind}
use Rattle.heap_model.specs.declared.Kind.TheVariants as kinds
use Rattle.heap_model.specs.declared.Limits.{Limits}
use Rattle.heap_model.specs.declared.Opening.{Opening}
use Rattle.heap_model.specs.declared.Run.{Run}
use Rattle.heap_model.specs.Runs as model
use Rattle.heap_model.specs.Limits.{AreValid}
use Rattle.heap_model.specs.State.{Setting, Area, BackPart, VsPart, Span, Place, by_address, is_kind, live_size, has_address}
use Rattle.heap_model.specs.Backend.{free_runs}
use Rattle.heap_model.specs.Ranges.{gaps_of, vs_spans}
use Rattle.heap_model.specs.CallState.{Configuration}
use Rattle.heap_model.specs.Search.{begins_at, first_of, hint_or, spans_of}
use Rattle.heap_model.specs.Layers.{StandsForVs, StandsForBack, StandsForLarge}
use Rattle.heap_soundness.specs.Sound.{IsOneOf, IsSoundSpan, AreAt, IsInVs}
use Rattle.heap_soundness.proofs.Lists.{all_at, all_from}
use Rattle.heap_soundness.proofs.ByStart.{AreByStart, all_by_address, by_address_by_start}
use Rattle.serial_laws.proofs.Sorted.{found_sorted}
use Rattle.page_ranges.specs.Words.{runs_of}
use Rattle.page_ranges.specs.Ranges.{AreRuns, IsMark, HasRoom}
use Rattle.page_ranges.specs.Spans.{is_of_span, span_of, taken_runs}
use Rattle.page_ranges.proofs.Blocks.{taken_rise}
use Rattle.backend_fit.specs.Kept.{Kept, area_of, spans_of as runs_kept, pages_in, is_block_run}
use Rattle.backend_fit.specs.Kept as backs
use Rattle.backend_fit.specs.Effects.{place_of}
use Rattle.backend_fit.specs.Sound.{IsSound}
use Rattle.backend_fit.proofs.Segment.{frees_of}
use Rattle.backend_fit.proofs.Sounds.{pages_sound}
use Rattle.backend_fit.proofs.Told.{place_at_address}
use Rattle.claim_rule.specs.Places.{made_word}
use Rattle.claim_rule.specs.Shown.{AreAllShown, hint_word}
use Rattle.vs_headers.specs.declared.Head.{Head}
use Rattle.vs_headers.specs.Headers.{encoded, key_of}
use Rattle.vs_split.specs.Chunks.{head_at}
use Rattle.vs_split.specs.Shown.{place_from, place_to, gap_from, gap_to, place_head, gap_head, head_shown}
use Rattle.vs_layer.specs.Kept.{VsKept, places_of}
use Rattle.vs_layer.specs.Standing as vss
use Rattle.vs_layer.specs.Effects.{ShowsChunks}
use Rattle.vs_layer.proofs.ByPlace.{IsVsPlace, one_start, one_end}
use Rattle.vs_layer.proofs.Told.{gaps_are}
use Rattle.large_blocks.specs.Table.{LargeTable}
use Rattle.large_blocks.specs.Table as larges
use Rattle.layout_decode.specs.Shows.{Shows, ShowsFront, IsHintOf, run_of_span, unused_in}
use Rattle.layout_decode.specs.declared.Image.{Image}
use Rattle.decode_laws.proofs.Known.{IsKnownState}
use Rattle.heap_closing.proofs.Runs.{IsFoundIn, all_found}

---- Marks

-- a mark of a span, with room for its fields
record IsRoomyMark (r : Run) : Type 0 where
  mark : IsMark r.mark
  fields : HasRoom r.mark

marks_are : (words : List ℕ) (from to : ℕ) (rs : List Run) → AreRuns words from to rs → AllByRecursion IsRoomyMark (taken_runs rs)
marks_are words from to [] a = tt
marks_are words from to (r ∷ rs) a = elim (cases_Bool (is_of_span r.mark.kind)) [
  | inl e ↦ rw e (
    elim a.1.kept [
      | inl k ↦ let z : true ≡ false = sym e ∙ ap (λ (q : Run). is_of_span q.mark.kind) k.0 in absurd (let y : ⊥ = cc in y)
      | inr k ↦ record { mark = k.mark; fields = k.fields }
    ],
    marks_are words (from + r.pages) to rs a.2,
  )
  | inr e ↦ rw e (marks_are words (from + r.pages) to rs a.2)
]

none_unused : (ps : List Place) (x : Span) (k : Kind) → is_kind k kinds.Back ≡ false → unused_in ps x k ≡ 0
none_unused ps x kinds.Header e = refl
none_unused ps x kinds.Free e = refl
none_unused ps x kinds.Vs e = refl
none_unused ps x kinds.Lfh e = refl
none_unused ps x kinds.Back e = absurd (let z : ⊥ = cc in z)

kind_of : (k : Kind) → is_kind k kinds.Back ≡ true → k ≡ kinds.Back
kind_of kinds.Back e = refl
kind_of kinds.Header e = absurd (let z : ⊥ = cc in z)
kind_of kinds.Free e = absurd (let z : ⊥ = cc in z)
kind_of kinds.Vs e = absurd (let z : ⊥ = cc in z)
kind_of kinds.Lfh e = absurd (let z : ⊥ = cc in z)

---- Header words

abbrev shown_by : ℕ → ℕ → Option Place → List model.Run → Option Head
shown_by g units o gs = option_or (option_map (place_head units) o) (option_map (gap_head units) (find (gap_from g) gs))

abbrev units_by : ℕ → Option Place → List model.Run → ℕ
units_by g o gs = unwrap_or (option_or (option_map (λ (p : Place). p.granules) o) (option_map (λ (r : model.Run). r.count) (find (gap_to g) gs))) 0

both_known : (xs : List Span) (ps : List Place) → AreAt (IsInVs xs) ps → AllByRecursion (λ p. p.layer ≡ Rattle.heap_model.specs.declared.Layer.TheVariants.Vs) ps → AllByRecursion IsVsPlace ps
both_known xs [] a b = tt
both_known xs (p ∷ ps) a b = let two = a.0.two in (record { some = omega arith; aligned = a.0.aligned; layer = b.0 }, both_known xs ps a.1 b.1)

---- Hints

hint_from : (xs : List Span) (o : Option ℕ) → ((first : ℕ) → o ≡ Some first → list_any (begins_at first) xs ≡ true) → IsHintOf xs (unwrap_or (hint_or o (first_of xs)) 0)
hint_from [] None f = refl
hint_from [] (Some first) f = let e = f first refl in absurd (let z : ⊥ = cc in z)
hint_from (x ∷ xs) None f = or_left (begins_at x.first x) (list_any (begins_at x.first) xs) (eq-eqb x.first x.first refl)
hint_from (x ∷ xs) (Some first) f = f first refl

---- What a heap leaves behind

-- the opening of a heap with this setting
abbrev pub opening_of : Setting → Opening
opening_of s = record { limits = s.limits; seed = s.seed }

-- the words, so many callers having been made, and the states of the layers, where the back end and the variable-size layer are whole
pub record AreLeft (s : Setting) (m : Configuration) (count : ℕ) (words : List ℕ) (vs : VsKept) (back : Kept) (large : LargeTable) : Type 0 where
  pub limits : AreValid s.limits
  pub words_are : AreAllShown s.limits count m [] words
  pub made : slice_index words made_word ≤ s.limits.callers
  pub vs_is : StandsForVs (opening_of s) m.state (vss.layer_of vs)
  pub chunks : ShowsChunks vs
  pub back_is : StandsForBack (opening_of s) m.state (backs.layer_of back)
  pub sound : IsSound back
  pub large_is : StandsForLarge (opening_of s) m.state (larges.layer_of large)

module _ (s : Setting) (m : Configuration) (count : ℕ) (words : List ℕ) (vs : VsKept) (back : Kept) (large : LargeTable) (c : AreLeft s m count words vs back large) where
  abbrev area : Area
  area = m.state.back.area

  ---- The words of the front end

  hint_shown : (b slot : ℕ) → 1 ≤ b → b ≤ 128 → slot < 16 → IsHintOf (spans_of area b slot) (slice_index words (134 + 16 * (b - 1) + slot))
  hint_shown b slot low high few =
      let place : 118 + 16 * b + slot ≡ 134 + 16 * (b - 1) + slot = omega arith in
      let word : slice_index words (134 + 16 * (b - 1) + slot) ≡ hint_word area m.now.span_history b slot = ap (slice_index words) (sym place) ∙ (c.words_are.lfh.hints b slot low high few).0 in
      subst (IsHintOf (spans_of area b slot)) (sym word) (hint_from (spans_of area b slot) (m.now.span_history.hints b slot) (c.words_are.lfh.heads b slot))

  front_shown : ShowsFront s.limits words m.state
  front_shown = record {
    words_are = record { limits = c.limits; as_long = c.words_are.wide };
    active = c.words_are.lfh.active;
    hints = hint_shown;
    tags = λ page low. (c.words_are.lfh.tags page low).0;
    bitmaps = c.words_are.lfh.bitmaps;
    sizes = c.words_are.lfh.sizes;
  }

  ---- Areas

  area_is : area_of back ≡ area
  area_is = ap (λ (b : BackPart). b.area) c.back_is.part

  segments : back.region.segments ≡ s.limits.segments
  segments = c.sound.segments ∙ ap (λ (x : Limits). x.segments) c.back_is.limits

  ---- The image

  abbrev pub image : Image
  image = record { limits = s.limits; region = back.region; descs = back.words; key = key_of s.seed; heads = vs.chunks; large = large; words = words }

  ---- Places

  pub places_are : places_of vs ≡ by_address m.state.vs.places
  places_are = ap (λ (v : VsPart). v.places) c.vs_is.part

  module _ (known : IsKnownState s m.state) where
    abbrev runs : List Run
    runs = runs_kept back

    found : AllByRecursion (IsFoundIn runs) runs
    found = all_found 0 runs (taken_rise back.words c.sound.whole)

    -- a span of a block has 33 pages
    is_long : (r : Run) → IsOneOf r runs → r.mark.kind ≡ kinds.Back → 33 ≤ r.pages
    is_long r i k =
        let there : IsOneOf (span_of r) area.spans = subst (λ (a : Area). IsOneOf (span_of r) a.spans) area_is (Rattle.decode_laws.proofs.Members.in_mapped span_of r runs i) in
        let of_kind : IsSoundSpan s m.state.vs.active (span_of r) r.mark.kind = all_at (λ (x : Span). IsSoundSpan s m.state.vs.active x x.kind) (span_of r) area.spans known.sound.of_kinds there in
        let of_back : IsSoundSpan s m.state.vs.active (span_of r) kinds.Back = subst (IsSoundSpan s m.state.vs.active (span_of r)) k of_kind in
        of_back.0

    -- the run of a span, from the span and the places
    run_is : (r : Run) → IsOneOf r runs → IsRoomyMark r → run_of_span m.state.back.places (span_of r) ≡ r
    run_is r i mark = ap (λ (u : ℕ). record { first = r.first; pages = r.pages; mark = record { kind = r.mark.kind; bucket = r.mark.bucket; slot = r.mark.slot; unused = u } }) (elim (cases_Bool (is_block_run r)) [
      | inl e ↦
          let k = kind_of r.mark.kind e in
          let long = is_long r i k in
          let fits = mark.fields.unused in
          let at : find (has_address (4096 * r.first)) m.state.back.places ≡ Some (place_of r) = place_at_address (opening_of s) m.state back c.back_is c.sound (4096 * r.first) ∙ ap (option_map place_of) (all_at (IsFoundIn runs) r runs found i e) in
          let size : 4096 * r.pages - (4096 * r.pages - r.mark.unused) ≡ r.mark.unused = omega (arith, long, fits) in
          ap (unused_in m.state.back.places (span_of r)) k
          ∙ ap (λ (x : Option Place). 4096 * r.pages - unwrap_or (option_and_then (λ (p : Place). live_size p.status) x) 0) at
          ∙ size
      | inr e ↦ none_unused m.state.back.places (span_of r) r.mark.kind e ∙ sym (mark.mark.of_back e)
    ])

    runs_are : (rs : List Run) → AllByRecursion (λ r. IsOneOf r runs) rs → AllByRecursion IsRoomyMark rs → rs ≡ map (run_of_span m.state.back.places) (map span_of rs)
    runs_are [] i k = refl
    runs_are (r ∷ rs) i k = let here = run_is r i.0 k.0 in let rest = runs_are rs i.1 k.1 in ap (λ (q : Run). q ∷ rs) (sym here) ∙ ap (λ (qs : List Run). run_of_span m.state.back.places (span_of r) ∷ qs) rest

    ---- Header words

    vs_known : AllByRecursion IsVsPlace (by_address m.state.vs.places)
    vs_known = all_by_address IsVsPlace m.state.vs.places (both_known area.spans m.state.vs.places known.sound.places.vs known.sound.homes.vs)

    vs_by_start : AreByStart (by_address m.state.vs.places)
    vs_by_start = by_address_by_start m.state.vs.places known.vs.disjoint

    heads_shown : (g : ℕ) → head_at vs.chunks g ≡ head_shown (vs_spans area) m.state.vs.places g
    heads_shown g =
        let ps = m.state.vs.places in
        let qs = places_of vs in
        let from : find (place_from g) qs ≡ find (place_from g) ps = ap (find (place_from g)) places_are ∙ found_sorted (place_from g) ps (one_start g _ vs_known vs_by_start) in
        let to : find (place_to g) qs ≡ find (place_to g) ps = ap (find (place_to g)) places_are ∙ found_sorted (place_to g) ps (one_end g _ vs_known vs_by_start) in
        let gaps : gaps_of vs.spans qs ≡ gaps_of (vs_spans area) ps = gaps_are (opening_of s) m.state vs c.vs_is in
        c.chunks.heads g
        ∙ ap (λ (x : Option Place). shown_by g (units_by g (find (place_to g) qs) (gaps_of vs.spans qs)) x (gaps_of vs.spans qs)) from
        ∙ ap (λ (x : Option Place). shown_by g (units_by g x (gaps_of vs.spans qs)) (find (place_from g) ps) (gaps_of vs.spans qs)) to
        ∙ ap (λ (gs : List model.Run). shown_by g (units_by g (find (place_to g) ps) gs) (find (place_from g) ps) gs) gaps

    ---- All of it

    pub shows : Shows image s m.state
    shows = record {
      limits = refl;
      key = refl;
      segments = segments;
      reserved = ap (λ (a : Area). a.reserved) area_is;
      committed = ap (λ (a : Area). a.committed) area_is;
      pages = c.sound.pages ∙ ap (λ (n : ℕ). 256 * n) segments;
      whole = c.sound.whole;
      spans =
          runs_are runs (all_from (λ r. IsOneOf r runs) runs (λ r i. i)) (marks_are back.words 0 _ (runs_of back.words) c.sound.whole)
          ∙ ap (λ (a : Area). map (run_of_span m.state.back.places) a.spans) area_is;
      free = sym (frees_of (pages_in back) (pages_sound c.sound)) ∙ ap (λ (a : Area). free_runs a) area_is;
      marks = heads_shown;
      headers = λ g.
          ap (λ (x : Option Head). option_map_or (λ (y : Head). encoded y vs.chunks.key (16 * g)) x 0) (heads_shown g)
          ∙ ap (λ (key : ℕ). option_map_or (λ (x : Head). encoded x key (16 * g)) (head_shown (vs_spans area) m.state.vs.places g) 0) c.vs_is.key;
      large_limits = c.large_is.limits;
      large = c.large_is.part;
      front = front_shown;
      contents = c.words_are.stored;
      gate = c.words_are.gate;
      made = c.made;
    }
