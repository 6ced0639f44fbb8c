-- The blocks of a subsegment of the low-fragmentation front end: those whose bits are set and whose size words are not 0 are its live places.
use Rattle.std.proofs.Common.{◌≡◌, ℕ, zero, suc, ◌+◌, ◌-◌, ◌*◌, ◌/◌, ◌%◌, ◌<◌, ◌≤◌, Bool, true, false, ◌&&◌, not, List, [], ◌∷◌, Option, Some, None, eqb, ltb, leb, refl, sym, ap, ◌∙◌, subst, arith, inl, inr, if◌then◌else◌, mul-le-mul_right}
use Rattle.std.specs.Prelude.{slice_index, option_map, unwrap_or}
use Rattle.std.specs.List.{find}
use Rattle.std.proofs.lemmas.Bool.{cases_eq, and_from, and_parts, lt-ltb, ltb-true, eq-eqb, ne_eqb, eqb-true, false≢true}
use Rattle.heap_model.specs.declared.Block.{Block}
use Rattle.heap_model.specs.declared.Kind.{Kind}
use Rattle.heap_model.specs.declared.Kind.TheVariants as kinds
use Rattle.heap_model.specs.declared.Layer.TheVariants as layers
use Rattle.heap_model.specs.declared.Run.{Run}
use Rattle.heap_model.specs.Bits.{has_bit, starts_at, is_taken, bits_of}
use Rattle.heap_model.specs.Buckets.{block_size, block_count, block_address}
use Rattle.heap_model.specs.State.{State, Setting, Span, Place, Status, Live, InHand, live_size, room}
use Rattle.heap_model.specs.Ranges.{is_of_kind}
use Rattle.heap_model.specs.Search.{begins_at}
use Rattle.table_words.specs.Told.{bits_in}
use Rattle.claim_rule.specs.Shown.{lfh_spans, bitmap_word, starts_in, size_word}
use Rattle.layout_decode.specs.declared.Image.{Image}
use Rattle.layout_decode.specs.Decode.{size_word_of, is_taken_in, block_at_bit, blocks_at_bits, IsOfBucket}
use Rattle.layout_decode.specs.Shows.{Shows, run_of_span}
use Rattle.layout_decode.proofs.SubsegmentLemmas.{bucket_is, seat_of}
use Rattle.heap_soundness.specs.Sound.{IsOneOf, IsSoundSpan, IsCommittedSpan, IsInLfh, HasSoundSize}
use Rattle.heap_soundness.proofs.Lists.{all_at, all_from, found_in, found_passes, find_some, any_in}
use Rattle.heap_soundness.proofs.Spans.{above, same_span}
use Rattle.heap_soundness.proofs.GapRuns.{in_filtered}
use Rattle.heap_soundness.proofs.Layers.{lfh_end}
use Rattle.heap_soundness.proofs.VsGaps.{aligned_of}
use Rattle.search_laws.proofs.Bits.{bit_of}
use Rattle.search_laws.proofs.Passes.{found_there}
use Rattle.search_laws.proofs.Filtered.{filtered_in_order}
use Rattle.lfh_buckets.specs.Blocks.{IsBucket}
use Rattle.lfh_buckets.proofs.BlockLemmas.{few_blocks, size_in_granules}
use Rattle.lfh_buckets.proofs.Seats.{aligned, IsSeat}
use Rattle.decode_laws.proofs.Members.{in_parts, in_left, in_right}
use Rattle.decode_laws.proofs.Rising.{ByAddress, joined_order}
use Rattle.decode_laws.proofs.Known.{IsKnownState, room_by, address_by, of_layer, layer_at, one_place}

abbrev pub lfh_block : ℕ → ℕ → Block
lfh_block addr size = record { addr = addr; size = size; layer = layers.Lfh }

in_if : {A : Type 0} (t : Bool) (x y : A) → IsOneOf y (if t then x ∷ [] else []) → (t ≡ true) × (x ≡ y)
in_if true x y (inl e) = (refl, e)
in_if true x y (inr k) = absurd k
in_if false x y k = absurd k

if_in : {A : Type 0} (t : Bool) (x : A) → t ≡ true → IsOneOf x (if t then x ∷ [] else [])
if_in true x e = inl refl
if_in false x e = absurd (false≢true e)

if_order : (t : Bool) (b : Block) → ByAddress (if t then b ∷ [] else [])
if_order true b = (tt, tt)
if_order false b = tt

---- The blocks of some seats

rises : (b head i j : ℕ) → 0 < block_size b → i < j → block_address b head i < block_address b head j
rises b head i j some l = by_size (block_size b) some
  where
    by_size : (n : ℕ) → 0 < n → 4096 * head + 64 + i * n < 4096 * head + 64 + j * n
    by_size n some = let m : suc i * n ≤ j * n = mul-le-mul_right n (omega arith) in omega (arith, m, some)

-- The block is one of a seat among some.
record IsOfSeat (image : Image) (r : Run) (n i : ℕ) (b : Block) : Type 0 where
  seat : ℕ
  from : i ≤ seat
  to : seat < i + n
  of : IsOneOf b (block_at_bit image r seat)

module _ (image : Image) (r : Run) where
  -- where the block of a seat begins, and what its words tell
  seat_is : (i : ℕ) (b : Block) → IsOneOf b (block_at_bit image r i) →
      (lfh_block (block_address r.mark.bucket r.first i) (size_word_of image (block_address r.mark.bucket r.first i) - 1) ≡ b)
      × (not (eqb (size_word_of image (block_address r.mark.bucket r.first i)) 0) ≡ true)
  seat_is i b k =
      let word = size_word_of image (block_address r.mark.bucket r.first i) in
      let q = in_if (is_taken_in image r i && not (eqb word 0)) (lfh_block (block_address r.mark.bucket r.first i) (word - 1)) b k in
      (q.1, (and_parts (is_taken_in image r i) (not (eqb word 0)) q.0).1)

  addr_is : (i : ℕ) (b : Block) → IsOneOf b (block_at_bit image r i) → b.addr ≡ block_address r.mark.bucket r.first i
  addr_is i b k = ap (λ (d : Block). d.addr) (sym (seat_is i b k).0)

  of_seats : (n i : ℕ) (b : Block) → IsOneOf b (blocks_at_bits image r n i) → IsOfSeat image r n i b
  of_seats zero i b k = absurd k
  of_seats (suc n) i b k = elim (in_parts b (block_at_bit image r i) (blocks_at_bits image r n (suc i)) k) [
    | inl h ↦ record { seat = i; from = omega arith; to = omega arith; of = h }
    | inr h ↦ let q = of_seats n (suc i) b h in let low = q.from in let high = q.to in record { seat = q.seat; from = omega arith; to = omega arith; of = q.of }
  ]

  in_seats : (n i j : ℕ) (b : Block) → i ≤ j → j < i + n → IsOneOf b (block_at_bit image r j) → IsOneOf b (blocks_at_bits image r n i)
  in_seats zero i j b l h k = absurd (omega arith)
  in_seats (suc n) i j b l h k = elim (cases_eq i j) [
    | inl e ↦ in_left b (block_at_bit image r i) (blocks_at_bits image r n (suc i)) (subst (λ (m : ℕ). IsOneOf b (block_at_bit image r m)) (sym e) k)
    | inr ne ↦ in_right b (block_at_bit image r i) (blocks_at_bits image r n (suc i)) (in_seats n (suc i) j b (omega (arith, ne)) (omega arith) k)
  ]

  order_of : 0 < block_size r.mark.bucket → (n i : ℕ) → ByAddress (blocks_at_bits image r n i)
  order_of some zero i = tt
  order_of some (suc n) i =
      joined_order (block_address r.mark.bucket r.first (suc i)) (block_at_bit image r i) (blocks_at_bits image r n (suc i))
      (if_order (is_taken_in image r i && not (eqb (size_word_of image (block_address r.mark.bucket r.first i)) 0)) _)
      (order_of some n (suc i))
      (all_from (λ b. b.addr < block_address r.mark.bucket r.first (suc i)) (block_at_bit image r i) (λ b k.
      subst (λ (a : ℕ). a < block_address r.mark.bucket r.first (suc i)) (sym (addr_is i b k)) (rises r.mark.bucket r.first i (suc i) some (omega arith))))
      (all_from (λ b. block_address r.mark.bucket r.first (suc i) ≤ b.addr) (blocks_at_bits image r n (suc i)) (λ b k. not_below b (of_seats n (suc i) b k)))
    where
      not_below : (b : Block) → IsOfSeat image r n (suc i) b → block_address r.mark.bucket r.first (suc i) ≤ b.addr
      not_below b q =
          let from = q.from in
          let at = addr_is q.seat b q.of in
          elim (cases_eq (suc i) q.seat) [
            | inl e ↦ let same = ap (block_address r.mark.bucket r.first) e in omega (arith, at, same)
            | inr ne ↦ let more = rises r.mark.bucket r.first (suc i) q.seat some (omega (arith, ne, from)) in omega (arith, at, more)
          ]

---- What a size word tells

-- A live place begins at the granule.
record IsSized (ps : List Place) (g word : ℕ) : Type 0 where
  place : Place
  size : ℕ
  there : IsOneOf place ps
  start : place.start ≡ 16 * g
  live : place.status ≡ Live size
  word_is : size + 1 ≡ word

abbrev word_by : Option Place → ℕ
word_by o = unwrap_or (option_map (λ (p : Place). unwrap_or (option_map (λ n. n + 1) (live_size p.status)) 0) o) 0

sized : (ps : List Place) (g : ℕ) → not (eqb (size_word ps g) 0) ≡ true → IsSized ps g (size_word ps g)
sized ps g h = by_found (find (starts_in g) ps) refl h
  where
    by_status : (p : Place) (t : Status) → p.status ≡ t → find (starts_in g) ps ≡ Some p → not (eqb (unwrap_or (option_map (λ n. n + 1) (live_size t)) 0) 0) ≡ true →
        IsSized ps g (unwrap_or (option_map (λ n. n + 1) (live_size t)) 0)
    by_status p (Live n) e f h = record { place = p; size = n; there = found_in (starts_in g) ps p f; start = eqb-true p.start (16 * g) (found_passes (starts_in g) ps p f); live = e; word_is = refl }
    by_status p (InHand c) e f h = absurd (false≢true h)

    by_found : (o : Option Place) → find (starts_in g) ps ≡ o → not (eqb (word_by o) 0) ≡ true → IsSized ps g (word_by o)
    by_found None f h = absurd (false≢true h)
    by_found (Some p) f h = by_status p p.status refl f h

word_of_live : (ps : List Place) (g n : ℕ) (p : Place) → find (starts_in g) ps ≡ Some p → p.status ≡ Live n → size_word ps g ≡ n + 1
word_of_live ps g n p f e = ap word_by f ∙ ap (λ (t : Status). unwrap_or (option_map (λ n. n + 1) (live_size t)) 0) e

---- Where an image shows the state of a legal history

-- The block is that of a live place of the subsegment.
pub record IsLiveIn (ps : List Place) (x : Span) (b : Block) : Type 0 where
  pub place : Place
  pub there : IsOneOf place ps
  pub start : place.start ≡ b.addr
  pub live : place.status ≡ Live b.size
  pub layer : layers.Lfh ≡ b.layer
  pub fits : b.size ≤ block_size x.bucket
  pub low : 4096 * x.first ≤ b.addr
  pub high : b.addr < 4096 * (x.first + x.pages)

module _ (s : Setting) (st : State) (image : Image) (known : IsKnownState s st) (shown : Shows image s st) where
  abbrev xs : List Span
  xs = st.back.area.spans

  pub home : (p : Place) → IsOneOf p st.lfh → IsInLfh xs p.start p.granules
  home p i = all_at (λ (q : Place). IsInLfh xs q.start q.granules) p st.lfh known.lfh.places i

  -- a span of the front end is a subsegment of its bucket
  pub of_bucket : (x : Span) → IsOneOf x xs → x.kind ≡ kinds.Lfh → IsOfBucket image.limits (run_of_span st.back.places x)
  of_bucket x i k =
      let kind : IsSoundSpan s st.vs.active x kinds.Lfh = subst (IsSoundSpan s st.vs.active x) k (all_at (λ (y : Span). IsSoundSpan s st.vs.active y y.kind) x xs known.sound.of_kinds i) in
      let some = (above 0 xs x known.sound.spans.in_order i).1 in
      let last = x.first + x.pages - 1 in
      let usable = (all_at (IsCommittedSpan st.back.area) x xs known.sound.spans.committed i last (omega arith) (omega arith)).0 in
      let below = ltb-true (last / 256) st.back.area.reserved (and_parts (ltb (last / 256) st.back.area.reserved) (leb 2 (last % 256)) usable).0 in
      let reserved = known.sound.reserved in
      let limits : image.limits.segments ≡ s.limits.segments = ap (λ l. l.segments) shown.limits in
      record { bucket = kind.bucket; pages = kind.pages; inside = omega (arith, below, reserved, limits, some) }

  -- a place lies in its subsegment
  in_its_pages : (p : Place) (h : IsInLfh xs p.start p.granules) → (4096 * h.span.first ≤ p.start) × (p.start < 4096 * (h.span.first + h.span.pages))
  in_its_pages p h =
      let ends = lfh_end xs p.start p.granules (λ x i k. (of_bucket x i k).pages) h in
      let low = ends.0 in
      let high = ends.1 in
      let some = (size_in_granules h.span.bucket (bucket_is image.limits (run_of_span st.back.places h.span) (of_bucket h.span h.there h.kind))).1 in
      let size = h.size in
      (omega (arith, low), omega (arith, high, some, size))

  module _ (x : Span) (there : IsOneOf x xs) (kind : x.kind ≡ kinds.Lfh) where
    abbrev run : Run
    run = run_of_span st.back.places x

    abbrev seat : ℕ → ℕ
    seat i = block_address x.bucket x.first i

    bucket : IsBucket x.bucket
    bucket = bucket_is image.limits run (of_bucket x there kind)

    inside : (i : ℕ) → i < block_count x.bucket → IsSeat image.limits x.first x.pages (block_size x.bucket) (seat i)
    inside i m = seat_of image.limits run i (of_bucket x there kind) m

    in_pages : (i : ℕ) → i < block_count x.bucket → (4096 * x.first ≤ seat i) × (seat i < 4096 * (x.first + x.pages))
    in_pages i m = let some = (size_in_granules x.bucket bucket).1 in let below = (inside i m).below in (omega arith, omega (arith, some, below))

    ---- What the words show

    bits_shown : (w : ℕ) → w < 4 → bits_in image.limits image.words x.first w ≡ bits_of st.lfh x w
    bits_shown w m =
        let o = (of_bucket x there kind).inside in
        let some = (above 0 xs x known.sound.spans.in_order there).1 in
        let page : (4 * x.first + w) / 4 ≡ x.first = omega (arith, m) in
        let word : (4 * x.first + w) % 4 ≡ w = omega (arith, m) in
        let place : 2182 + 256 * image.limits.segments + 4 * x.first + w ≡ 2182 + 256 * image.limits.segments + (4 * x.first + w) = omega arith in
        let found : find (begins_at x.first) (lfh_spans st.back.area) ≡ Some x =
        found_there 0 (lfh_spans st.back.area) x (filtered_in_order (is_of_kind kinds.Lfh) 0 xs known.sound.spans.in_order)
        (in_filtered (is_of_kind kinds.Lfh) x xs (ap (λ (k : Kind). is_of_kind kinds.Lfh (record x { kind = k })) kind) there) in
        ap (slice_index image.words) place ∙ shown.front.bitmaps (4 * x.first + w) (omega (arith, o, some, m))
        ∙ ap (λ (n : ℕ). bitmap_word st.lfh (lfh_spans st.back.area) n ((4 * x.first + w) % 4)) page
        ∙ ap (bitmap_word st.lfh (lfh_spans st.back.area) x.first) word
        ∙ ap (λ (o : Option Span). unwrap_or (option_map (λ y. bits_of st.lfh y w) o) 0) found

    taken_shown : (i : ℕ) → i < block_count x.bucket → is_taken_in image run i ≡ starts_at st.lfh (seat i)
    taken_shown i m =
        let few = (few_blocks x.bucket bucket).1 in
        let number : 64 * (i / 64) + i % 64 ≡ i = omega arith in
        ap (λ (w : ℕ). has_bit w (i % 64)) (bits_shown (i / 64) (omega (arith, few, m)))
        ∙ bit_of (λ k. is_taken st.lfh x (64 * (i / 64) + k)) 64 (i % 64) (omega arith)
        ∙ ap (is_taken st.lfh x) number
        ∙ ap (λ (t : Bool). t && starts_at st.lfh (seat i)) (lt-ltb i (block_count x.bucket) m)

    size_shown : (i : ℕ) → i < block_count x.bucket → size_word_of image (seat i) ≡ size_word st.lfh (seat i / 16)
    size_shown i m = shown.front.sizes (seat i / 16) (inside i m).granule

    ---- The block of a seat

    -- the place that begins there is of the subsegment, and has the room of its blocks
    room_at : (i : ℕ) → i < block_count x.bucket → (p : Place) → IsOneOf p st.lfh → p.start ≡ seat i → room p ≡ block_size x.bucket
    room_at i m p j e =
        let h = home p j in
        let its = in_its_pages p h in
        let at = in_pages i m in
        let same : h.span ≡ x = same_span 0 xs h.span x (p.start / 4096) known.sound.spans.in_order h.there there (omega (arith, its.0)) (omega (arith, its.1)) (omega (arith, e, at.0)) (omega (arith, e, at.1)) in
        room_by p layers.Lfh (layer_at s st known layers.Lfh p j) ∙ h.size ∙ ap (λ (y : Span). block_size y.bucket) same

    seat_live : (i : ℕ) → i < block_count x.bucket → (b : Block) → IsOneOf b (block_at_bit image run i) → IsLiveIn st.lfh x b
    seat_live i m b k =
        let q = seat_is image run i b k in
        let at = in_pages i m in
        let word = size_shown i m in
        let w = sized st.lfh (seat i / 16) (subst (λ (n : ℕ). not (eqb n 0) ≡ true) word q.1) in
        let is = w.word_is in
        let size : w.size ≡ size_word_of image (seat i) - 1 = omega (arith, is, word) in
        let addr : seat i ≡ b.addr = ap (λ (d : Block). d.addr) q.0 in
        let bytes : size_word_of image (seat i) - 1 ≡ b.size = ap (λ (d : Block). d.size) q.0 in
        let start : w.place.start ≡ seat i = w.start ∙ sym (aligned_of (seat i) (aligned x.bucket x.first i bucket)) in
        let sound : HasSoundSize w.place (Live w.size) = subst (HasSoundSize w.place) w.live (all_at (λ (p : Place). HasSoundSize p p.status) w.place st.lfh known.sound.sizes.lfh w.there) in
        let fits = sound.0 in
        let room = room_at i m w.place w.there start in
        record {
          place = w.place;
          there = w.there;
          start = start ∙ addr;
          live = w.live ∙ ap Live (size ∙ bytes);
          layer = ap (λ (d : Block). d.layer) q.0;
          fits = omega (arith, fits, room, size, bytes);
          low = subst (λ (a : ℕ). 4096 * x.first ≤ a) addr at.0;
          high = subst (λ (a : ℕ). a < 4096 * (x.first + x.pages)) addr at.1;
        }

    -- the only place that begins there is found there
    found_at : (i : ℕ) → i < block_count x.bucket → (p : Place) → IsOneOf p st.lfh → p.start ≡ seat i → find (starts_in (seat i / 16)) st.lfh ≡ Some p
    found_at i m p j e =
        let granule = aligned_of (seat i) (aligned x.bucket x.first i bucket) in
        let f = find_some (starts_in (seat i / 16)) st.lfh p j (eq-eqb p.start (16 * (seat i / 16)) (e ∙ granule)) in
        let k = found_in (starts_in (seat i / 16)) st.lfh f.0 f.1 in
        let start : f.0.start ≡ p.start = eqb-true f.0.start (16 * (seat i / 16)) (found_passes (starts_in (seat i / 16)) st.lfh f.0 f.1) ∙ sym (e ∙ granule) in
        let same = one_place s st known f.0 p (of_layer st layers.Lfh f.0 k) (of_layer st layers.Lfh p j)
        (address_by f.0 layers.Lfh (layer_at s st known layers.Lfh f.0 k) ∙ start ∙ sym (address_by p layers.Lfh (layer_at s st known layers.Lfh p j))) in
        f.1 ∙ ap Some same

    live_seat : (i : ℕ) → i < block_count x.bucket → (p : Place) (n : ℕ) → IsOneOf p st.lfh → p.start ≡ seat i → p.status ≡ Live n → IsOneOf (lfh_block (seat i) n) (block_at_bit image run i)
    live_seat i m p n j e live =
        let word : size_word_of image (seat i) ≡ n + 1 = size_shown i m ∙ word_of_live st.lfh (seat i / 16) n p (found_at i m p j e) live in
        let size : size_word_of image (seat i) - 1 ≡ n = omega (arith, word) in
        let told : not (eqb (size_word_of image (seat i)) 0) ≡ true = ap not (ne_eqb (size_word_of image (seat i)) 0 (λ z. omega (arith, z, word))) in
        let taken : is_taken_in image run i ≡ true = taken_shown i m ∙ any_in (λ (q : Place). eqb q.start (seat i)) st.lfh p j (eq-eqb p.start (seat i) e) in
        subst (λ (z : ℕ). IsOneOf (lfh_block (seat i) z) (block_at_bit image run i)) size
        (if_in (is_taken_in image run i && not (eqb (size_word_of image (seat i)) 0)) (lfh_block (seat i) (size_word_of image (seat i) - 1))
        (and_from (is_taken_in image run i) (not (eqb (size_word_of image (seat i)) 0)) taken told))

    ---- The blocks of the subsegment

    abbrev blocks : List Block
    blocks = blocks_at_bits image run (block_count x.bucket) 0

    -- each is that of a live place
    pub subsegment_live : (b : Block) → IsOneOf b blocks → IsLiveIn st.lfh x b
    subsegment_live b k = let q = of_seats image run (block_count x.bucket) 0 b k in let to = q.to in seat_live q.seat (omega arith) b q.of

    pub subsegment_order : ByAddress blocks
    subsegment_order = let some = (size_in_granules x.bucket bucket).1 in order_of image run (omega (arith, some)) (block_count x.bucket) 0

    -- .. and the block of each live place is among them
    pub subsegment_has : (i : ℕ) → i < block_count x.bucket → (p : Place) (n : ℕ) → IsOneOf p st.lfh → p.start ≡ seat i → p.status ≡ Live n → IsOneOf (lfh_block p.start n) blocks
    subsegment_has i m p n j e live = subst (λ (a : ℕ). IsOneOf (lfh_block a n) blocks) (sym e) (in_seats image run (block_count x.bucket) 0 i (lfh_block (seat i) n) (omega arith) (omega arith) (live_seat i m p n j e live))
