-- The blocks that an image tells of are the live ones.
use Rattle.std.proofs.Common.{◌≡◌, ℕ, ◌+◌, ◌-◌, ◌*◌, ◌/◌, ◌%◌, ◌<◌, ◌≤◌, Bool, true, List, [], ◌∷◌, ◌++◌, map, leb, ltb, Option, Some, None, refl, sym, ap, ◌∙◌, subst, arith, inl, inr}
use Rattle.std.specs.Prelude.{filter, option_map, option_and_then, unwrap_or, length}
use Rattle.std.specs.List.{AllByRecursion, find, list_all}
use Rattle.std.specs.Option.{option_map_or}
use Rattle.std.proofs.lemmas.Bool.{cases_lt, eqb-true, and_from, and_parts, le-leb, leb-true}
use Rattle.heap_model.specs.declared.Limits.{Limits}
use Rattle.heap_model.specs.declared.Block.{Block}
use Rattle.heap_model.specs.declared.Kind.{Kind}
use Rattle.heap_model.specs.declared.Kind.TheVariants as kinds
use Rattle.heap_model.specs.declared.Layer.{Layer}
use Rattle.heap_model.specs.declared.Layer.TheVariants as layers
use Rattle.heap_model.specs.declared.Run.{Run}
use Rattle.heap_model.specs.State as state
use Rattle.heap_model.specs.Buckets.{block_size}
use Rattle.heap_model.specs.Geometry.{pages_of}
use Rattle.heap_model.specs.State.{State, Setting, Span, Place, Status, Live, InHand, Area, address, room, live_size, is_live, has_address, all_places, by_address, live}
use Rattle.heap_model.specs.Ranges.{is_of_kind, vs_spans}
use Rattle.heap_model.specs.Legal.{has_place, lies_in}
use Rattle.page_ranges.specs.Words.{runs_of}
use Rattle.page_ranges.specs.Ranges.{AreRuns}
use Rattle.page_ranges.specs.Spans.{block_of, is_of_span}
use Rattle.vs_headers.specs.declared.Head.{Head}
use Rattle.vs_headers.specs.Headers.{IsHead, encoded, decoded}
use Rattle.vs_headers.proofs.HeaderLemmas.{decodes}
use Rattle.vs_split.specs.Shown.{head_shown}
use Rattle.layout_decode.specs.Decode.{head_told, blocks_of, page_blocks, table_blocks, decode, IsRunOfChunks, IsRunOfBlocks, BlocksFit, IsReadable}
use Rattle.layout_decode.specs.Shows.{Shows, run_of_span, unused_in}
use Rattle.layout_decode.specs.declared.Image.{Image}
use Rattle.heap_soundness.specs.Sound.{IsOneOf, IsSoundSpan, IsCommittedSpan, IsInBack, IsInVs, IsInLarge, HasSoundSize, HasRoom}
use Rattle.heap_soundness.proofs.Lists.{all_at, all_from, found_in, found_passes, any_in}
use Rattle.heap_soundness.proofs.GapRuns.{filtered_cases, in_filtered}
use Rattle.heap_soundness.proofs.ByStart.{IsBefore, AreByStart, by_address_by_start}
use Rattle.heap_soundness.proofs.Enums.{kind_is}
use Rattle.large_blocks.specs.declared.LargeBlock.{LargeBlock}
use Rattle.large_blocks.specs.Table as table
use Rattle.heap_soundness.proofs.Spans.{above, same_first}
use Rattle.decode_laws.specs.Told.{AreLive, IsShowable}
use Rattle.decode_laws.proofs.Members.{in_parts, in_left, in_right, in_mapped, from_mapped, in_flat, from_flat, in_chosen, in_sorted, from_sorted}
use Rattle.decode_laws.proofs.Known.{IsKnownState, address_by, room_by, of_layer, layer_at, one_place}
use Rattle.decode_laws.proofs.Rising.{IsBelow, ByAddress, LiesIn, in_order, joined_order, flat_below, flat_order, same_blocks}
use Rattle.decode_laws.proofs.Chunks.{AreKnown}
use Rattle.decode_laws.proofs.Walk.{vs_block, IsBlockIn, span_found, span_order, span_has}
use Rattle.decode_laws.proofs.Rows.{wide, span_row}
use Rattle.decode_laws.proofs.Seats.{lfh_block, home, of_bucket, subsegment_live, subsegment_order, subsegment_has}

abbrev back_block : ℕ → ℕ → Block
back_block addr size = record { addr = addr; size = size; layer = layers.Back }

-- the unused bytes of a run have room in its descriptor
unused_fits : (words : List ℕ) (from to : ℕ) (rs : List Run) (r : Run) → AreRuns words from to rs → IsOneOf r rs → r.mark.unused < 65536
unused_fits words from to [] r a i = absurd i
unused_fits words from to (q ∷ rs) r a (inl e) = subst (λ (x : Run). x.mark.unused < 65536) e (elim a.1.kept [
  | inl h ↦ let u : q.mark.unused ≡ 0 = ap (λ (x : Run). x.mark.unused) h.0 in omega (arith, u)
  | inr m ↦ m.fields.unused
])
unused_fits words from to (q ∷ rs) r a (inr i) = unused_fits words (from + q.pages) to rs r a.2 i

-- .. and it has a page
some_pages : (words : List ℕ) (from to : ℕ) (rs : List Run) (r : Run) → AreRuns words from to rs → IsOneOf r rs → 0 < r.pages
some_pages words from to [] r a i = absurd i
some_pages words from to (q ∷ rs) r a (inl e) = subst (λ (x : Run). 0 < x.pages) e a.1.some
some_pages words from to (q ∷ rs) r a (inr i) = some_pages words (from + q.pages) to rs r a.2 i

-- a span of usable pages lies in one segment
pub short_span : (a : Area) (x : Span) → 0 < x.pages → IsCommittedSpan a x → x.pages ≤ 254
short_span a x p c = elim (cases_lt 256 (x.first % 256 + x.pages)) [
  | inl l ↦ let h = behind (256 * (x.first / 256 + 1)) (omega arith) (omega arith) in absurd (omega arith)
  | inr l ↦ let h = behind x.first (omega arith) (omega arith) in omega arith
]
  where
    behind : (unit : ℕ) → x.first ≤ unit → unit < x.first + x.pages → 2 ≤ unit % 256
    behind unit l h = leb-true 2 (unit % 256) (and_parts (ltb (unit / 256) a.reserved) (leb 2 (unit % 256)) (c unit l h).0).1

-- The span has a place, with a live block.
record HasBlock (ps : List Place) (x : Span) : Type 0 where
  place : Place
  size : ℕ
  found : find (has_address (4096 * x.first)) ps ≡ Some place
  live : place.status ≡ Live size

-- where fewer bytes are unused than the span has, there is one
block_in : (ps : List Place) (x : Span) → 33 ≤ x.pages → unused_in ps x kinds.Back < 65536 → HasBlock ps x
block_in ps x n h = with_found (find (has_address (4096 * x.first)) ps) refl h
  where
    with_status : (p : Place) (t : Status) → p.status ≡ t → find (has_address (4096 * x.first)) ps ≡ Some p → 4096 * x.pages - unwrap_or (live_size t) 0 < 65536 → HasBlock ps x
    with_status p (Live size) e f h = record { place = p; size = size; found = f; live = e }
    with_status p (InHand c) e f h = absurd (let k : 4096 * x.pages - 0 < 65536 = h in omega (arith, k, n))

    with_found : (o : Option Place) → find (has_address (4096 * x.first)) ps ≡ o → 4096 * x.pages - unwrap_or (option_and_then (λ (p : Place). live_size p.status) o) 0 < 65536 → HasBlock ps x
    with_found None f h = absurd (let k : 4096 * x.pages - 0 < 65536 = h in omega (arith, k, n))
    with_found (Some p) f h = with_status p p.status refl f h

block_fields : (b : Block) (l : Layer) (a n : ℕ) → a ≡ b.addr → n ≡ b.size → l ≡ b.layer → record { addr = a; size = n; layer = l } ≡ b
block_fields b l a n e f g =
    ap (λ (z : ℕ). let d : Block = record { addr = z; size = n; layer = l } in d) e
    ∙ (ap (λ (z : ℕ). let d : Block = record { addr = b.addr; size = z; layer = l } in d) f
    ∙ ap (λ (z : Layer). let d : Block = record { addr = b.addr; size = b.size; layer = z } in d) g)

module _ (s : Setting) (st : State) (image : Image) (known : IsKnownState s st) (shown : Shows image s st) where
  run_there : (x : Span) → IsOneOf x st.back.area.spans → IsOneOf (run_of_span st.back.places x) (runs_of image.descs)
  run_there x i =
      let j = in_mapped (run_of_span st.back.places) x st.back.area.spans i in
      let k = subst (λ (rs : List Run). IsOneOf (run_of_span st.back.places x) rs) (sym shown.spans) j in
      (filtered_cases (λ (r : Run). is_of_span r.mark.kind) (run_of_span st.back.places x) (runs_of image.descs) k).0

  has_block : (x : Span) → IsOneOf x st.back.area.spans → x.kind ≡ kinds.Back → HasBlock st.back.places x
  has_block x i k =
      let fits = unused_fits image.descs 0 (length image.descs) (runs_of image.descs) (run_of_span st.back.places x) shown.whole (run_there x i) in
      let kind : IsSoundSpan s st.vs.active x x.kind = all_at (λ (y : Span). IsSoundSpan s st.vs.active y y.kind) x st.back.area.spans known.sound.of_kinds i in
      let pages : IsSoundSpan s st.vs.active x kinds.Back = subst (IsSoundSpan s st.vs.active x) k kind in
      block_in st.back.places x pages.0 (subst (λ (j : Kind). unused_in st.back.places x j < 65536) k fits)

  -- What is known of the place of a span.
  record IsPlaceOf (x : Span) (p : Place) : Type 0 where
    there : IsOneOf p st.back.places
    layer : p.layer ≡ layers.Back
    at : address p ≡ 4096 * x.first
    start : p.start ≡ 4096 * x.first
    whole : p.granules ≡ 256 * x.pages

  place_of : (x : Span) → IsOneOf x st.back.area.spans → (w : HasBlock st.back.places x) → IsPlaceOf x w.place
  place_of x i w =
      let there = found_in (has_address (4096 * x.first)) st.back.places w.place w.found in
      let layer = layer_at s st known layers.Back w.place there in
      let at = eqb-true (address w.place) (4096 * x.first) (found_passes (has_address (4096 * x.first)) st.back.places w.place w.found) in
      let start : w.place.start ≡ 4096 * x.first = sym (address_by w.place layers.Back layer) ∙ at in
      let b : IsInBack st.back.area.spans w.place.start w.place.granules = all_at (λ (p : Place). IsInBack st.back.area.spans p.start p.granules) w.place st.back.places known.sound.places.back there in
      let same : b.span ≡ x = same_first 0 st.back.area.spans b.span x known.sound.spans.in_order b.there i (let e = b.begins in omega (arith, e, start)) in
      record { there = there; layer = layer; at = at; start = start; whole = b.whole ∙ ap (λ (y : Span). 256 * y.pages) same }

  size_in : (x : Span) → IsOneOf x st.back.area.spans → (w : HasBlock st.back.places x) → w.size ≤ 4096 * x.pages
  size_in x i w =
      let p = place_of x i w in
      let h = all_at (λ (q : Place). HasSoundSize q q.status) w.place st.back.places known.sound.sizes.back p.there in
      let fits : w.size ≤ room w.place = (subst (HasSoundSize w.place) w.live h).0 in
      let room = room_by w.place layers.Back p.layer in
      let whole = p.whole in
      omega (arith, fits, room, whole)

  -- the block of a span
  block_is : (x : Span) → IsOneOf x st.back.area.spans → x.kind ≡ kinds.Back → (w : HasBlock st.back.places x) →
      block_of 4096 (run_of_span st.back.places x) ≡ back_block (4096 * x.first) w.size
  block_is x i k w =
      let unused : unused_in st.back.places x x.kind ≡ 4096 * x.pages - w.size =
      ap (unused_in st.back.places x) k
      ∙ (ap (λ (o : Option Place). 4096 * x.pages - unwrap_or (option_and_then (λ (p : Place). live_size p.status) o) 0) w.found
      ∙ ap (λ (t : Status). 4096 * x.pages - unwrap_or (live_size t) 0) w.live) in
      let fits = size_in x i w in
      let size : 4096 * x.pages - unused_in st.back.places x x.kind ≡ w.size = omega (arith, unused, fits) in
      ap (back_block (4096 * x.first)) size

  -- the block of a live place is one of the live ones
  live_place : (p : Place) (b : Block) → IsOneOf p (all_places st) → p.status ≡ Live b.size → address p ≡ b.addr → p.layer ≡ b.layer → IsOneOf b (live st)
  live_place p b i status at layer =
      let e : state.block_of p ≡ Some b =
      ap (λ (t : Status). option_map (λ (n : ℕ). record { addr = address p; size = n; layer = p.layer }) (live_size t)) status
      ∙ (ap (λ (a : ℕ). Some (record { addr = a; size = b.size; layer = p.layer })) at
      ∙ ap (λ (k : Layer). Some (record { addr = b.addr; size = b.size; layer = k })) layer) in
      in_chosen state.block_of p b (by_address (all_places st)) e (in_sorted p (all_places st) i)

  -- the span that a run is
  span_of_run : (r : Run) → IsOneOf r (runs_of image.descs) → is_of_span r.mark.kind ≡ true → (x : Span) × IsOneOf x st.back.area.spans × (run_of_span st.back.places x ≡ r)
  span_of_run r i k =
      let taken = in_filtered (λ (q : Run). is_of_span q.mark.kind) r (runs_of image.descs) k i in
      from_mapped (run_of_span st.back.places) st.back.area.spans r (subst (λ (rs : List Run). IsOneOf r rs) shown.spans taken)

  -- the place of a span is the one that is found there
  found_is : (x : Span) (p : Place) → IsOneOf x st.back.area.spans → (w : HasBlock st.back.places x) → IsOneOf p st.back.places → p.start ≡ 4096 * x.first → w.place ≡ p
  found_is x p i w j e =
      let q = place_of x i w in
      one_place s st known w.place p (of_layer st layers.Back w.place q.there) (of_layer st layers.Back p j) (q.at ∙ sym (address_by p layers.Back (layer_at s st known layers.Back p j) ∙ e))

  -- what is known of the blocks of a run
  abbrev AreInRun : Run → List Block → Type 0
  AreInRun r bs = AllByRecursion (LiesIn r) bs × ByAddress bs

  -- a span tells its block
  by_span : (x : Span) (k : Kind) (b : Block) → IsOneOf x st.back.area.spans → x.kind ≡ k → IsOneOf b (blocks_of image (run_of_span st.back.places x) k) → IsOneOf b (page_blocks image)
  by_span x k b i e j = in_flat (λ (r : Run). blocks_of image r r.mark.kind) (run_of_span st.back.places x) b (runs_of image.descs) (run_there x i)
      (subst (λ (q : Kind). IsOneOf b (blocks_of image (run_of_span st.back.places x) q)) (sym e) j)

  ---- The low-fragmentation front end

  -- each block of a run is live, and they are in order
  in_lfh_run : (r : Run) → IsOneOf r (runs_of image.descs) → r.mark.kind ≡ kinds.Lfh → AreInRun r (blocks_of image r kinds.Lfh)
  in_lfh_run r i k =
      let f = span_of_run r i (ap is_of_span k) in
      let x = f.0 in
      let kind : x.kind ≡ kinds.Lfh = ap (λ (q : Run). q.mark.kind) f.2 ∙ k in
      subst (λ (q : Run). AreInRun q (blocks_of image q kinds.Lfh)) f.2 (
        all_from (LiesIn (run_of_span st.back.places x)) (blocks_of image (run_of_span st.back.places x) kinds.Lfh) (λ b j.
            let q = subsegment_live s st image known shown x f.1 kind b j in
            (q.low, q.high)),
        subsegment_order s st image known shown x f.1 kind,
      )

  of_lfh_span : (x : Span) (b : Block) → IsOneOf x st.back.area.spans → x.kind ≡ kinds.Lfh → IsOneOf b (blocks_of image (run_of_span st.back.places x) kinds.Lfh) → IsOneOf b (live st)
  of_lfh_span x b i k j =
      let q = subsegment_live s st image known shown x i k b j in
      let layer = layer_at s st known layers.Lfh q.place q.there in
      live_place q.place b (of_layer st layers.Lfh q.place q.there) q.live (address_by q.place layers.Lfh layer ∙ q.start) (layer ∙ q.layer)

  of_lfh_place : (p : Place) (b : Block) → IsOneOf p st.lfh → p.status ≡ Live b.size → address p ≡ b.addr → p.layer ≡ b.layer → IsOneOf b (page_blocks image)
  of_lfh_place p b i status at layer =
      let h = home s st image known shown p i in
      let of_lfh = layer_at s st known layers.Lfh p i in
      let there = subsegment_has s st image known shown h.span h.there h.kind h.index h.below p b.size i h.block status in
      let e : lfh_block p.start b.size ≡ b = block_fields b layers.Lfh p.start b.size (sym (address_by p layers.Lfh of_lfh) ∙ at) refl (sym of_lfh ∙ layer) in
      by_span h.span kinds.Lfh b h.there h.kind (subst (λ (d : Block). IsOneOf d (blocks_of image (run_of_span st.back.places h.span) kinds.Lfh)) e there)

  -- its runs can be read
  read_of_kind : (r : Run) → IsOneOf r (runs_of image.descs) → (k : Kind) → r.mark.kind ≡ k → IsRunOfBlocks image.limits r k × BlocksFit image r k
  read_of_kind r i kinds.Header k = (tt, tt)
  read_of_kind r i kinds.Free k = (tt, tt)
  read_of_kind r i kinds.Vs k = (tt, tt)
  read_of_kind r i kinds.Back k = (tt, tt)
  read_of_kind r i kinds.Lfh k =
      let f = span_of_run r i (ap is_of_span k) in
      let x = f.0 in
      let kind : x.kind ≡ kinds.Lfh = ap (λ (q : Run). q.mark.kind) f.2 ∙ k in
      subst (λ (q : Run). IsRunOfBlocks image.limits q kinds.Lfh × BlocksFit image q kinds.Lfh) f.2 (
        of_bucket s st image known shown x f.1 kind,
        all_from (λ (b : Block). b.size ≤ block_size x.bucket) (blocks_of image (run_of_span st.back.places x) kinds.Lfh) (λ b j. (subsegment_live s st image known shown x f.1 kind b j).fits),
      )

  ---- The table of large blocks

  row_there : (b : LargeBlock) → IsOneOf b image.large.blocks → IsOneOf (table.place_of b) st.large
  row_there b i = from_sorted (table.place_of b) st.large (subst (IsOneOf (table.place_of b)) shown.large (in_mapped table.place_of b image.large.blocks i))

  -- each row is live ..
  row_live : (b : Block) → IsOneOf b (table_blocks image.large) → IsOneOf b (live st)
  row_live b i =
      let f = from_mapped table.block_in image.large.blocks b i in
      subst (λ (d : Block). IsOneOf d (live st)) f.2 (live_place (table.place_of f.0) (table.block_in f.0) (of_layer st layers.Large (table.place_of f.0) (row_there f.0 f.1)) refl refl refl)

  -- .. and each live place has its row
  of_large_place : (p : Place) (b : Block) → IsOneOf p st.large → p.status ≡ Live b.size → address p ≡ b.addr → p.layer ≡ b.layer → IsOneOf b (table_blocks image.large)
  of_large_place p b i status at layer =
      let f = from_mapped table.place_of image.large.blocks p (subst (IsOneOf p) (sym shown.large) (in_sorted p st.large i)) in
      let size : Live f.0.size ≡ Live b.size = ap (λ (q : Place). q.status) f.2 ∙ status in
      let n : f.0.size ≡ b.size = cc in
      let e : table.block_in f.0 ≡ b = block_fields b layers.Large f.0.addr f.0.size (ap address f.2 ∙ at) n (ap (λ (q : Place). q.layer) f.2 ∙ layer) in
      subst (λ (d : Block). IsOneOf d (table_blocks image.large)) e (in_mapped table.block_in f.0 image.large.blocks f.1)

  large_home : (b : LargeBlock) → IsOneOf b image.large.blocks → IsInLarge s.limits b.addr (256 * pages_of b.size)
  large_home b i = all_at (λ (q : Place). IsInLarge s.limits q.start q.granules) (table.place_of b) st.large known.large.places (row_there b i)

  rows_above : AllByRecursion (λ b. 4096 * length image.descs ≤ b.addr) (table_blocks image.large)
  rows_above = all_from (λ (b : Block). 4096 * length image.descs ≤ b.addr) (table_blocks image.large) (λ b i.
      let f = from_mapped table.block_in image.large.blocks b i in
      let h = large_home f.0 f.1 in
      let at : f.0.addr ≡ b.addr = ap (λ (d : Block). d.addr) f.2 in
      let begins = h.begins in
      let pages = shown.pages in
      omega (arith, begins, at, pages))

  rows_in_order : ByAddress (table_blocks image.large)
  rows_in_order = by_start image.large.blocks (λ b i. i) (subst AreByStart (sym shown.large) (by_address_by_start st.large known.large.disjoint))
    where
      by_start : (bs : List LargeBlock) → ((b : LargeBlock) → IsOneOf b bs → IsOneOf b image.large.blocks) → AreByStart (map table.place_of bs) → ByAddress (map table.block_in bs)
      by_start [] f a = tt
      by_start (b ∷ bs) f a = (behind bs (λ d i. f d (inr i)) a.0, by_start bs (λ d i. f d (inr i)) a.1)
        where
          behind : (ds : List LargeBlock) → ((d : LargeBlock) → IsOneOf d ds → IsOneOf d image.large.blocks) → AllByRecursion (IsBefore (table.place_of b)) (map table.place_of ds) → AllByRecursion (IsBelow (table.block_in b)) (map table.block_in ds)
          behind [] g h = tt
          behind (d ∷ ds) g h = (one (large_home b (f b (inl refl))) (large_home d (g d (inl refl))) h.0, behind ds (λ e i. g e (inr i)) h.1)
            where
              one : IsInLarge s.limits b.addr (256 * pages_of b.size) → IsInLarge s.limits d.addr (256 * pages_of d.size) → IsBefore (table.place_of b) (table.place_of d) → b.addr < d.addr
              one x y z =
                  let m = x.enough in
                  let n = x.whole in
                  let k = y.enough in
                  let o = y.whole in
                  let l = z.0 in
                  elim z.1 [ inl u ↦ omega (arith, u, m, n) | inr u ↦ absurd (omega (arith, u, k, o, l)) ]

  ---- Where no place of the variable-size layer is in hand

  tells : (g : ℕ) (h : Head) → IsHead h → head_shown (vs_spans st.back.area) st.vs.places g ≡ Some h → head_told image g ≡ Some h
  tells g h is e =
      ap (λ (w : ℕ). decoded w image.key (16 * g)) (shown.headers g ∙ ap (λ (o : Option Head). option_map_or (λ (k : Head). encoded k image.key (16 * g)) o 0) e)
      ∙ decodes h image.key (16 * g) is

  module _ (hands : AreLive st.vs.places) where
    layer_known : AreKnown st.back.area.spans st.vs.places
    layer_known = record {
      in_order = known.sound.spans.in_order;
      short = all_from (λ (x : Span). x.pages ≤ 254) st.back.area.spans (λ x i.
          short_span st.back.area x (above 0 st.back.area.spans x known.sound.spans.in_order i).1 (all_at (IsCommittedSpan st.back.area) x st.back.area.spans known.sound.spans.committed i));
      sound = known.vs;
      layer = known.sound.homes.vs;
      sizes = known.sound.sizes.vs;
      live = hands;
    }

    -- chunks tile the runs of the layer
    row_of_kind : (r : Run) → IsOneOf r (runs_of image.descs) → (k : Kind) → r.mark.kind ≡ k → IsRunOfChunks image.heads r k
    row_of_kind r i kinds.Header k = tt
    row_of_kind r i kinds.Free k = tt
    row_of_kind r i kinds.Lfh k = tt
    row_of_kind r i kinds.Back k = tt
    row_of_kind r i kinds.Vs k =
        let f = span_of_run r i (ap is_of_span k) in
        let kind : f.0.kind ≡ kinds.Vs = ap (λ (q : Run). q.mark.kind) f.2 ∙ k in
        subst (λ (q : Run). IsRunOfChunks image.heads q kinds.Vs) f.2 (span_row st.back.area.spans st.vs.places layer_known f.0 f.1 kind image.heads shown.marks)

    pub can_read : IsReadable image
    can_read = record {
      whole = shown.whole;
      rows = all_from (λ (r : Run). IsRunOfChunks image.heads r r.mark.kind) (runs_of image.descs) (λ r i. row_of_kind r i r.mark.kind refl);
      told = λ g h e. let here = sym (shown.marks g) ∙ e in tells g h (wide st.back.area.spans st.vs.places layer_known g h here) here;
      subsegments = all_from (λ (r : Run). IsRunOfBlocks image.limits r r.mark.kind) (runs_of image.descs) (λ r i. (read_of_kind r i r.mark.kind refl).0);
      fits = all_from (λ (r : Run). BlocksFit image r r.mark.kind) (runs_of image.descs) (λ r i. (read_of_kind r i r.mark.kind refl).1);
      words = shown.front.words_are;
      segments = shown.segments ∙ sym (ap (λ (l : Limits). l.segments) shown.limits);
      pages = shown.pages ∙ sym (ap (λ (l : Limits). 256 * l.segments) shown.limits);
      large = shown.large_limits ∙ sym shown.limits;
    }

    -- the blocks of a run of the layer
    abbrev run_blocks : Run → List Block
    run_blocks r = blocks_of image r kinds.Vs

    found_in_span : (x : Span) (b : Block) → IsOneOf x st.back.area.spans → x.kind ≡ kinds.Vs → IsOneOf b (run_blocks (run_of_span st.back.places x)) →
        IsBlockIn st.vs.places (256 * x.first + 3) (256 * (x.first + x.pages)) b
    found_in_span x b i k j = span_found st.back.area.spans st.vs.places layer_known x i k (head_told image) tells b j

    in_run : (x : Span) (b : Block) → IsOneOf x st.back.area.spans → x.kind ≡ kinds.Vs → IsOneOf b (run_blocks (run_of_span st.back.places x)) → LiesIn (run_of_span st.back.places x) b
    in_run x b i k j =
        let f = found_in_span x b i k j in
        let a : f.place.start + 16 ≡ b.addr = ap (λ (d : Block). d.addr) f.is in
        let low = f.low in
        let high = f.high in
        (omega arith, omega arith)

    in_vs_run : (r : Run) → IsOneOf r (runs_of image.descs) → r.mark.kind ≡ kinds.Vs → AreInRun r (run_blocks r)
    in_vs_run r i k =
        let f = span_of_run r i (ap is_of_span k) in
        let x = f.0 in
        let kind : x.kind ≡ kinds.Vs = ap (λ (q : Run). q.mark.kind) f.2 ∙ k in
        subst (λ (q : Run). AreInRun q (run_blocks q)) f.2 (
          all_from (LiesIn (run_of_span st.back.places x)) (run_blocks (run_of_span st.back.places x)) (λ b j. in_run x b f.1 kind j),
          span_order st.back.area.spans st.vs.places layer_known x f.1 kind (head_told image) tells,
        )

    in_any_run : (r : Run) → IsOneOf r (runs_of image.descs) → (k : Kind) → r.mark.kind ≡ k → AreInRun r (blocks_of image r k)
    in_any_run r i kinds.Header k = (tt, tt)
    in_any_run r i kinds.Free k = (tt, tt)
    in_any_run r i kinds.Lfh k = in_lfh_run r i k
    in_any_run r i kinds.Back k = let some = some_pages image.descs 0 (length image.descs) (runs_of image.descs) r shown.whole i in (((omega arith, omega arith), tt), (tt, tt))
    in_any_run r i kinds.Vs k = in_vs_run r i k

    -- each block that the image tells of is live
    of_vs_span : (x : Span) (b : Block) → IsOneOf x st.back.area.spans → x.kind ≡ kinds.Vs → IsOneOf b (run_blocks (run_of_span st.back.places x)) → IsOneOf b (live st)
    of_vs_span x b i k j =
        let f = found_in_span x b i k j in
        let layer = layer_at s st known layers.Vs f.place f.there in
        let of_vs : layers.Vs ≡ b.layer = ap (λ (d : Block). d.layer) f.is in
        live_place f.place b (of_layer st layers.Vs f.place f.there)
        (f.live ∙ ap (λ (d : Block). Live d.size) f.is) (address_by f.place layers.Vs layer ∙ ap (λ (d : Block). d.addr) f.is) (layer ∙ of_vs)

    of_back_span : (x : Span) (b : Block) → IsOneOf x st.back.area.spans → x.kind ≡ kinds.Back → block_of 4096 (run_of_span st.back.places x) ≡ b → IsOneOf b (live st)
    of_back_span x b i k e =
        let w = has_block x i k in
        let p = place_of x i w in
        let same : back_block (4096 * x.first) w.size ≡ b = sym (block_is x i k w) ∙ e in
        let of_back_layer : layers.Back ≡ b.layer = ap (λ (d : Block). d.layer) same in
        live_place w.place b (of_layer st layers.Back w.place p.there) (w.live ∙ ap (λ (d : Block). Live d.size) same) (p.at ∙ ap (λ (d : Block). d.addr) same) (p.layer ∙ of_back_layer)

    of_run : (r : Run) (b : Block) → IsOneOf r (runs_of image.descs) → (k : Kind) → r.mark.kind ≡ k → IsOneOf b (blocks_of image r k) → IsOneOf b (live st)
    of_run r b i kinds.Header k j = absurd j
    of_run r b i kinds.Free k j = absurd j
    of_run r b i kinds.Lfh k j =
        let f = span_of_run r i (ap is_of_span k) in
        of_lfh_span f.0 b f.1 (ap (λ (q : Run). q.mark.kind) f.2 ∙ k) (subst (λ (q : Run). IsOneOf b (blocks_of image q kinds.Lfh)) (sym f.2) j)
    of_run r b i kinds.Back k j =
        let f = span_of_run r i (ap is_of_span k) in
        let e : block_of 4096 r ≡ b = elim j [ inl e ↦ e | inr n ↦ absurd n ] in
        of_back_span f.0 b f.1 (ap (λ (q : Run). q.mark.kind) f.2 ∙ k) (ap (block_of 4096) f.2 ∙ e)
    of_run r b i kinds.Vs k j =
        let f = span_of_run r i (ap is_of_span k) in
        of_vs_span f.0 b f.1 (ap (λ (q : Run). q.mark.kind) f.2 ∙ k) (subst (λ (q : Run). IsOneOf b (run_blocks q)) (sym f.2) j)

    page_live : (b : Block) → IsOneOf b (page_blocks image) → IsOneOf b (live st)
    page_live b i = let f = from_flat (λ (r : Run). blocks_of image r r.mark.kind) (runs_of image.descs) b i in of_run f.0 b f.1 f.0.mark.kind refl f.2

    -- each live block of these layers is told of
    of_back_place : (p : Place) (b : Block) → IsOneOf p st.back.places → p.status ≡ Live b.size → address p ≡ b.addr → p.layer ≡ b.layer → IsOneOf b (page_blocks image)
    of_back_place p b i status at layer =
        let home : IsInBack st.back.area.spans p.start p.granules = all_at (λ (q : Place). IsInBack st.back.area.spans q.start q.granules) p st.back.places known.sound.places.back i in
        let w = has_block home.span home.there home.kind in
        let q = place_of home.span home.there w in
        let same : w.place ≡ p = found_is home.span p home.there w i home.begins in
        let size : Live w.size ≡ Live b.size = sym w.live ∙ (ap (λ (r : Place). r.status) same ∙ status) in
        let n : w.size ≡ b.size = cc in
        let addr : 4096 * home.span.first ≡ b.addr = sym q.at ∙ (ap address same ∙ at) in
        let e : block_of 4096 (run_of_span st.back.places home.span) ≡ b = block_is home.span home.there home.kind w ∙ block_fields b layers.Back (4096 * home.span.first) w.size addr n (sym (layer_at s st known layers.Back p i) ∙ layer) in
        by_span home.span kinds.Back b home.there home.kind (inl e)

    of_vs_place : (p : Place) (b : Block) → IsOneOf p st.vs.places → p.status ≡ Live b.size → address p ≡ b.addr → p.layer ≡ b.layer → IsOneOf b (page_blocks image)
    of_vs_place p b i status at layer =
        let home : IsInVs st.back.area.spans p.start p.granules = all_at (λ (q : Place). IsInVs st.back.area.spans q.start q.granules) p st.vs.places known.sound.places.vs i in
        let behind = home.behind in
        let before = home.before in
        let two = home.two in
        let of_vs = layer_at s st known layers.Vs p i in
        let there = span_has st.back.area.spans st.vs.places layer_known home.span home.there home.kind (head_told image) tells p b.size i status (omega arith) (omega arith) in
        let e : vs_block p.start b.size ≡ b = block_fields b layers.Vs (p.start + 16) b.size (sym (address_by p layers.Vs of_vs) ∙ at) refl (sym of_vs ∙ layer) in
        by_span home.span kinds.Vs b home.there home.kind (subst (λ (d : Block). IsOneOf d (run_blocks (run_of_span st.back.places home.span))) e there)

    told_live : (b : Block) → IsOneOf b (decode image) → IsOneOf b (live st)
    told_live b i = elim (in_parts b (page_blocks image) (table_blocks image.large) i) [ inl j ↦ page_live b j | inr j ↦ row_live b j ]

    live_told : (b : Block) → IsOneOf b (live st) → IsOneOf b (decode image)
    live_told b i = elim (in_parts h.place (st.lfh ++ st.vs.places ++ st.back.places) st.large h.there) [
      | inr j ↦ in_right b (page_blocks image) (table_blocks image.large) (of_large_place h.place b j h.live h.at h.layer)
      | inl j ↦ in_left b (page_blocks image) (table_blocks image.large) (elim (in_parts h.place (st.lfh ++ st.vs.places) st.back.places j) [
        | inr k ↦ of_back_place h.place b k h.live h.at h.layer
        | inl k ↦ elim (in_parts h.place st.lfh st.vs.places k) [
          | inl m ↦ of_lfh_place h.place b m h.live h.at h.layer
          | inr m ↦ of_vs_place h.place b m h.live h.at h.layer
        ]
      ])
    ]
      where
        h : HasRoom (all_places st) b
        h = all_at (HasRoom (all_places st)) b (live st) known.blocks.room i

    pages_in_order : ByAddress (page_blocks image)
    pages_in_order = flat_order (λ (r : Run). blocks_of image r r.mark.kind) image.descs 0 (length image.descs) (runs_of image.descs) shown.whole
        (λ r i. (in_any_run r i r.mark.kind refl).0) (λ r i. (in_any_run r i r.mark.kind refl).1)

    -- the pages end where the large area begins
    all_in_order : ByAddress (decode image)
    all_in_order = joined_order (4096 * length image.descs) (page_blocks image) (table_blocks image.large) pages_in_order rows_in_order
        (flat_below (λ (r : Run). blocks_of image r r.mark.kind) image.descs 0 (length image.descs) (runs_of image.descs) shown.whole (λ r i. (in_any_run r i r.mark.kind refl).0))
        rows_above

    pub told : decode image ≡ live st
    told = same_blocks (decode image) (live st) all_in_order (in_order (live st) known.blocks.in_order) told_live live_told

  ---- What an image can show

  all_tested : (t : Span → Bool) (xs : List Span) → ((x : Span) → IsOneOf x xs → t x ≡ true) → list_all t xs ≡ true
  all_tested t [] f = refl
  all_tested t (x ∷ xs) f = and_from (t x) (list_all t xs) (f x (inl refl)) (all_tested t xs (λ y i. f y (inr i)))

  pub showable : IsShowable st
  showable = record {
    whole = all_tested (has_place 4096 st.back.places) (filter (is_of_kind kinds.Back) st.back.area.spans) (λ x i.
        let f = filtered_cases (is_of_kind kinds.Back) x st.back.area.spans i in
        let w = has_block x f.0 (kind_is x.kind kinds.Back f.1) in
        let p = place_of x f.0 w in
        let start = p.start in
        let whole = p.whole in
        any_in (lies_in 4096 x) st.back.places w.place p.there
        (and_from _ _ (le-leb (4096 * x.first) w.place.start (omega (arith, start))) (le-leb (w.place.start + 16 * w.place.granules) (4096 * (x.first + x.pages)) (omega (arith, start, whole)))));
    back = all_from (λ (p : Place). is_live p.status ≡ true) st.back.places (λ p i.
        let at : IsInBack st.back.area.spans p.start p.granules = all_at (λ (q : Place). IsInBack st.back.area.spans q.start q.granules) p st.back.places known.sound.places.back i in
        let w = has_block at.span at.there at.kind in
        ap (λ (q : Place). is_live q.status) (sym (found_is at.span p at.there w i at.begins)) ∙ ap is_live w.live);
    large = all_from (λ (p : Place). is_live p.status ≡ true) st.large (λ p i.
        let f = from_mapped table.place_of image.large.blocks p (subst (IsOneOf p) (sym shown.large) (in_sorted p st.large i)) in
        ap (λ (q : Place). is_live q.status) (sym f.2));
  }
