-- The walk over the chunks of a span finds the live blocks of the places in it, by address.
use Rattle.std.proofs.Common.{◌≡◌, ℕ, zero, suc, ◌+◌, ◌-◌, ◌*◌, ◌/◌, ◌<◌, ◌≤◌, false, ltb, List, [], ◌∷◌, ◌++◌, Option, Some, refl, sym, ap, ◌∙◌, subst, arith, inl, inr, ◌⊎◌}
use Rattle.std.specs.Prelude.{unwrap_or}
use Rattle.std.specs.Option.{option_map_or}
use Rattle.std.proofs.lemmas.Bool.{cases_lt, lt-ltb, le-ltb}
use Rattle.heap_model.specs.declared.Block.{Block}
use Rattle.heap_model.specs.declared.Kind.TheVariants as kinds
use Rattle.heap_model.specs.declared.Layer.TheVariants as layers
use Rattle.heap_model.specs.State.{Span, Place, Status, Live, live_size}
use Rattle.vs_headers.specs.declared.Head.{Head}
use Rattle.vs_headers.specs.Headers.{IsHead}
use Rattle.vs_split.specs.Shown.{head_shown}
use Rattle.layout_decode.specs.Decode.{block_if, chunk_blocks}
use Rattle.heap_soundness.specs.Sound.{IsOneOf, AreApart, HasSoundSize}
use Rattle.heap_soundness.proofs.Lists.{all_from}
use Rattle.heap_soundness.proofs.Addresses.{members_apart}
use Rattle.decode_laws.proofs.Members.{in_parts, in_left, in_right}
use Rattle.decode_laws.proofs.Known.{room_by}
use Rattle.decode_laws.proofs.Rising.{IsBelow, ByAddress}
use Rattle.decode_laws.proofs.Chunks.{spans_of, AreKnown, IsPlaceAt, IsGapAt, IsBoundary, HasChunk, live_is, home, layer_at, size_at, live_at, some_pages, first_boundary, chunk_at}

-- the block of a place of the layer
abbrev pub vs_block : ℕ → ℕ → Block
vs_block start size = record { addr = start + 16; size = size; layer = layers.Vs }

-- The block is that of a live place between two granules.
pub record IsBlockIn (ps : List Place) (from to : ℕ) (b : Block) : Type 0 where
  pub place : Place
  pub there : IsOneOf place ps
  pub size : ℕ
  pub live : place.status ≡ Live size
  pub is : vs_block place.start size ≡ b
  pub low : 16 * from ≤ place.start
  pub high : place.start + 32 ≤ 16 * to

-- one more chunk
walk_more : (told : ℕ → Option Head) (n g to : ℕ) (h : Head) → g < to → told g ≡ Some h → chunk_blocks told (suc n) g to ≡ block_if g h ++ chunk_blocks told n (g + h.units) to
walk_more told n g to h l e = rw (lt-ltb g to l) (ap (λ (o : Option Head). option_map_or (λ (k : Head). block_if g k ++ chunk_blocks told n (g + k.units) to) o []) e)

one_block : (a b m n : ℕ) → a ≡ b → m ≡ n → (let d : Block = record { addr = a; size = m; layer = layers.Vs } in d ∷ []) ≡ record { addr = b; size = n; layer = layers.Vs } ∷ []
one_block a b m n e f = ap (λ (z : ℕ). let d : Block = record { addr = z; size = m; layer = layers.Vs } in d ∷ []) e ∙ ap (λ (z : ℕ). let d : Block = record { addr = b; size = z; layer = layers.Vs } in d ∷ []) f

module _ (xs : List Span) (ps : List Place) (known : AreKnown xs ps) (x : Span) (there : IsOneOf x xs) (kind : x.kind ≡ kinds.Vs)
    (told : ℕ → Option Head) (tells : (g : ℕ) (h : Head) → IsHead h → head_shown (spans_of xs) ps g ≡ Some h → told g ≡ Some h) where
  abbrev low : ℕ
  low = 256 * x.first + 3

  abbrev high : ℕ
  high = 256 * (x.first + x.pages)

  abbrev Chunk : ℕ → Type 0
  Chunk g = HasChunk (head_shown (spans_of xs) ps) ps low high g

  -- what a place has for a block
  place_block : (g : ℕ) (h : Head) (w : IsPlaceAt ps g h) (size : ℕ) → w.place.status ≡ Live size → block_if g h ≡ vs_block w.place.start size ∷ []
  place_block g h w size e =
      let sound : HasSoundSize w.place (Live size) = subst (HasSoundSize w.place) e (size_at xs ps known w.place w.there) in
      let fits = sound.0 in
      let room = room_by w.place layers.Vs (layer_at xs ps known w.place w.there) in
      let unused : h.unused ≡ 16 * (w.place.granules - 1) - size = w.unused ∙ ap (λ (t : Status). 16 * (w.place.granules - 1) - unwrap_or (live_size t) 0) e in
      let units = w.units in
      let at = w.at in
      let s : 16 * (h.units - 1) - h.unused ≡ size = omega arith in
      let a : 16 * g + 16 ≡ w.place.start + 16 = omega arith in
      let busy = w.busy in
      rw busy (one_block (16 * g + 16) (w.place.start + 16) (16 * (h.units - 1) - h.unused) size a s)

  gap_block : (g : ℕ) (h : Head) → IsGapAt ps g h → block_if g h ≡ []
  gap_block g h w = let free = w.free in rw free refl

  of_chunk : (g : ℕ) (c : Chunk g) (b : Block) → IsOneOf b (block_if g c.head) → IsBlockIn ps g (g + c.head.units) b
  of_chunk g c b i = by_what c.what
    where
      by_what : IsPlaceAt ps g c.head ⊎ IsGapAt ps g c.head → IsBlockIn ps g (g + c.head.units) b
      by_what (inr w) = absurd (subst (λ (bs : List Block). IsOneOf b bs) (gap_block g c.head w) i)
      by_what (inl w) =
          let s = live_is w.place.status (live_at xs ps known w.place w.there) in
          let j = subst (λ (bs : List Block). IsOneOf b bs) (place_block g c.head w s.0 s.1) i in
          let at = w.at in
          let some = c.some in
          record { place = w.place; there = w.there; size = s.0; live = s.1; is = elim j [ inl e ↦ e | inr k ↦ absurd k ]; low = omega arith; high = omega arith }

  at_end : (n g : ℕ) → high ≤ g → chunk_blocks told (suc n) g high ≡ []
  at_end n g k = let e : ltb g high ≡ false = le-ltb g high k in rw e refl

  -- each block that the walk finds is one of a place
  found_step : (n g : ℕ) (c : Chunk g) → g < high → (b : Block) → (IsOneOf b (chunk_blocks told n (g + c.head.units) high) → IsBlockIn ps (g + c.head.units) high b) →
      IsOneOf b (chunk_blocks told (suc n) g high) → IsBlockIn ps g high b
  found_step n g c k b again i = elim (in_parts b (block_if g c.head) (chunk_blocks told n (g + c.head.units) high)
      (subst (λ (bs : List Block). IsOneOf b bs) (walk_more told n g high c.head k (tells g c.head c.is c.head_is)) i)) [
        | inl j ↦ let w = of_chunk g c b j in let a = w.high in let f = c.fits in record { place = w.place; there = w.there; size = w.size; live = w.live; is = w.is; low = w.low; high = omega arith }
        | inr j ↦ let s = c.some in let w = again j in let a = w.low in record { place = w.place; there = w.there; size = w.size; live = w.live; is = w.is; low = omega arith; high = w.high }
      ]

  found_from : (n g : ℕ) → low ≤ g → g ≤ high → IsBoundary ps low high g → (b : Block) → IsOneOf b (chunk_blocks told n g high) → IsBlockIn ps g high b
  found_from zero g l m o b i = absurd i
  found_from (suc n) g l m o b i = elim (cases_lt g high) [
    | inr k ↦ absurd (subst (λ (bs : List Block). IsOneOf b bs) (at_end n g k) i)
    | inl k ↦
        let c = chunk_at xs ps known x there kind g l k o in
        let s = c.some in
        let f = c.fits in
        found_step n g c k b (found_from n (g + c.head.units) (omega arith) f c.next b) i
  ]

  -- the blocks that it finds are in order
  order_step : (n g : ℕ) (c : Chunk g) → g < high → low ≤ g → ByAddress (chunk_blocks told n (g + c.head.units) high) → ByAddress (chunk_blocks told (suc n) g high)
  order_step n g c k l again = subst ByAddress (sym (walk_more told n g high c.head k (tells g c.head c.is c.head_is))) (by_what c.what)
    where
      below : (w : IsPlaceAt ps g c.head) (size : ℕ) (b : Block) → IsOneOf b (chunk_blocks told n (g + c.head.units) high) → IsBelow (vs_block w.place.start size) b
      below w size b i =
          let some = c.some in
          let at = w.at in
          let f = found_from n (g + c.head.units) (omega arith) c.fits c.next b i in
          let a : f.place.start + 16 ≡ b.addr = ap (λ (d : Block). d.addr) f.is in
          let l = f.low in
          omega arith

      by_what : IsPlaceAt ps g c.head ⊎ IsGapAt ps g c.head → ByAddress (block_if g c.head ++ chunk_blocks told n (g + c.head.units) high)
      by_what (inr w) = subst (λ (bs : List Block). ByAddress (bs ++ chunk_blocks told n (g + c.head.units) high)) (sym (gap_block g c.head w)) again
      by_what (inl w) =
          let s = live_is w.place.status (live_at xs ps known w.place w.there) in
          subst (λ (bs : List Block). ByAddress (bs ++ chunk_blocks told n (g + c.head.units) high)) (sym (place_block g c.head w s.0 s.1))
          (all_from (IsBelow (vs_block w.place.start s.0)) (chunk_blocks told n (g + c.head.units) high) (λ b i. below w s.0 b i), again)

  order_from : (n g : ℕ) → low ≤ g → g ≤ high → IsBoundary ps low high g → ByAddress (chunk_blocks told n g high)
  order_from zero g l m o = tt
  order_from (suc n) g l m o = elim (cases_lt g high) [
    | inr k ↦ subst ByAddress (sym (at_end n g k)) tt
    | inl k ↦
        let c = chunk_at xs ps known x there kind g l k o in
        let s = c.some in
        let f = c.fits in
        order_step n g c k l (order_from n (g + c.head.units) (omega arith) f c.next)
  ]

  -- the block of each place of the span is found
  has_step : (n g : ℕ) (c : Chunk g) → g < high → (p : Place) (size : ℕ) → IsOneOf p ps → p.status ≡ Live size → g ≤ p.start / 16 →
      (g + c.head.units ≤ p.start / 16 → IsOneOf (vs_block p.start size) (chunk_blocks told n (g + c.head.units) high)) → IsOneOf (vs_block p.start size) (chunk_blocks told (suc n) g high)
  has_step n g c k p size i e a again = subst (λ (bs : List Block). IsOneOf (vs_block p.start size) bs) (sym (walk_more told n g high c.head k (tells g c.head c.is c.head_is))) (by_what c.what)
    where
      rest : g + c.head.units ≤ p.start / 16 → IsOneOf (vs_block p.start size) (block_if g c.head ++ chunk_blocks told n (g + c.head.units) high)
      rest q = in_right (vs_block p.start size) (block_if g c.head) (chunk_blocks told n (g + c.head.units) high) (again q)

      here : (w : IsPlaceAt ps g c.head) → w.place ≡ p → IsOneOf (vs_block p.start size) (block_if g c.head ++ chunk_blocks told n (g + c.head.units) high)
      here w q =
          let live : w.place.status ≡ Live size = ap (λ (r : Place). r.status) q ∙ e in
          let same : vs_block w.place.start size ≡ vs_block p.start size = ap (λ (r : Place). vs_block r.start size) q in
          in_left (vs_block p.start size) (block_if g c.head) (chunk_blocks told n (g + c.head.units) high)
          (subst (λ (bs : List Block). IsOneOf (vs_block p.start size) bs) (sym (place_block g c.head w size live)) (inl same))

      apart : (w : IsPlaceAt ps g c.head) → AreApart w.place p → IsOneOf (vs_block p.start size) (block_if g c.head ++ chunk_blocks told n (g + c.head.units) high)
      apart w (inl q) = let at = w.at in let u = w.units in rest (omega arith)
      apart w (inr q) = let at = w.at in let t = (home xs ps known p i).two in absurd (omega arith)

      by_what : IsPlaceAt ps g c.head ⊎ IsGapAt ps g c.head → IsOneOf (vs_block p.start size) (block_if g c.head ++ chunk_blocks told n (g + c.head.units) high)
      by_what (inr w) = elim (cases_lt (p.start / 16) (g + c.head.units)) [ inl q ↦ absurd (w.clear p i a q) | inr q ↦ rest q ]
      by_what (inl w) = elim (members_apart ps w.place p known.sound.disjoint w.there i) [ inl q ↦ here w q | inr q ↦ apart w q ]

  has_from : (n g : ℕ) → high ≤ g + n → low ≤ g → g ≤ high → IsBoundary ps low high g → (p : Place) (size : ℕ) → IsOneOf p ps → p.status ≡ Live size →
      g ≤ p.start / 16 → p.start / 16 < high → IsOneOf (vs_block p.start size) (chunk_blocks told n g high)
  has_from zero g f l m o p size i e a b = absurd (omega arith)
  has_from (suc n) g f l m o p size i e a b =
      let k : g < high = omega arith in
      let c = chunk_at xs ps known x there kind g l k o in
      let s = c.some in
      let t = c.fits in
      has_step n g c k p size i e a (λ q. has_from n (g + c.head.units) (omega arith) (omega arith) t c.next p size i e q b)

  -- The blocks of the span.
  pub span_found : (b : Block) → IsOneOf b (chunk_blocks told (256 * x.pages) (256 * x.first + 3) (256 * (x.first + x.pages))) → IsBlockIn ps (256 * x.first + 3) (256 * (x.first + x.pages)) b
  span_found b i = found_from (256 * x.pages) low (omega arith) wide (first_boundary xs ps known x there kind) b i
    where
      wide : low ≤ high
      wide = let some = some_pages xs ps known x there kind in omega arith

  pub span_order : ByAddress (chunk_blocks told (256 * x.pages) (256 * x.first + 3) (256 * (x.first + x.pages)))
  span_order = let some = some_pages xs ps known x there kind in order_from (256 * x.pages) low (omega arith) (omega arith) (first_boundary xs ps known x there kind)

  pub span_has : (p : Place) (size : ℕ) → IsOneOf p ps → p.status ≡ Live size → 256 * x.first + 3 ≤ p.start / 16 → p.start / 16 < 256 * (x.first + x.pages) →
      IsOneOf (vs_block p.start size) (chunk_blocks told (256 * x.pages) (256 * x.first + 3) (256 * (x.first + x.pages)))
  span_has p size i e a b = let some = some_pages xs ps known x there kind in
      has_from (256 * x.pages) low (omega arith) (omega arith) (omega arith) (first_boundary xs ps known x there kind) p size i e a b
