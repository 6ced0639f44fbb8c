-- The words of a block of VS lie among the data words.
use Rattle.std.proofs.Common.{◌≡◌, ℕ, ◌+◌, ◌-◌, ◌*◌, ◌/◌, ◌%◌, ◌<◌, ◌≤◌, true, length, Option, Some, None, refl, sym, ap, ◌∙◌, arith}
use Rattle.std.specs.Prelude.{is_some}
use Rattle.heap_model.specs.Layers.{StandsForVs}
use Rattle.heap_model.specs.State.{Place, Live}
use Rattle.claim_rule.specs.Entries.{setting_of}
use Rattle.claim_rule.proofs.Advance.{some_setting}
use Rattle.vs_split.specs.Tiles.{IsTiled}
use Rattle.vs_split.proofs.TiledLemmas.{chunk_of, granule_within}
use Rattle.vs_layer.specs.Kept.{VsKept, block_at}
use Rattle.vs_layer.specs.Standing.{layer_of}
use Rattle.vs_layer.proofs.Blocks.{chunk_asked}
use Rattle.heap_gate.specs.Token.{Token, Always, now}
use Rattle.vs_calls.specs.Blocks.{LiesWithin, size_at}
use Rattle.vs_calls.proofs.Held.{live_block}

pub some_size : (vs : VsKept) (addr : ℕ) → is_some (size_at vs addr) ≡ true → (size : ℕ) × (size_at vs addr ≡ Some size)
some_size vs addr h = by (size_at vs addr) refl h
  where
    by : (o : Option ℕ) → size_at vs addr ≡ o → is_some o ≡ true → (size : ℕ) × (size_at vs addr ≡ Some size)
    by (Some n) e k = (n, e)
    by None e k = absurd (let no : ⊥ = cc in no)

pub low_address : (vs : VsKept) (addr : ℕ) → is_some (size_at vs addr) ≡ true → 16 ≤ addr
low_address vs addr h = let z = some_size vs addr h in let b = live_block vs addr z.0 z.1 in (chunk_asked vs addr b.place b.there).low

sizes : (a b : ℕ) → Live a ≡ Live b → a ≡ b
sizes a b e = cc

-- the place of a block is a chunk that lies in its segment
pub record IsTiledBlock (vs : VsKept) (addr size : ℕ) (p : Place) : Type 0 where
  pub granule : ℕ
  pub units : ℕ
  pub at : addr ≡ 16 * granule + 16
  pub start : p.start ≡ 16 * granule
  pub granules : p.granules ≡ units
  pub some : 2 ≤ units
  pub fits : size ≤ 16 * (units - 1)
  pub within : granule < length vs.chunks.heads
  pub one_segment : granule % 65536 + units ≤ 65536

pub tiled_block : (vs : VsKept) (addr size : ℕ) (p : Place) → IsTiled vs.chunks → block_at vs addr ≡ Some p → p.status ≡ Live size → IsTiledBlock vs addr size p
tiled_block vs addr size p tiled there live =
    let k = chunk_asked vs addr p there in
    let d = chunk_of vs.chunks (addr - 16) k.head k.there in
    let tile = tiled.tiles ((addr - 16) / 16) k.head d.head in
    let al = d.aligned in
    let low = k.low in
    let size_is : 16 * (k.head.units - 1) - k.head.unused ≡ size = sizes (16 * (k.head.units - 1) - k.head.unused) size (ap (λ (q : Place). q.status) k.is ∙ live) in
    record {
      granule = (addr - 16) / 16;
      units = k.head.units;
      at = omega (arith, al, low);
      start = ap (λ (q : Place). q.start) (sym k.is);
      granules = ap (λ (q : Place). q.granules) (sym k.is);
      some = tile.some;
      fits = omega (arith, size_is);
      within = granule_within vs.chunks ((addr - 16) / 16) k.head d.head;
      one_segment = tile.one_segment;
    }

pub words_within : (vs : VsKept) (addr size : ℕ) → IsTiled vs.chunks → length vs.chunks.heads ≡ 65536 * vs.limits.segments → size_at vs addr ≡ Some size → LiesWithin vs.limits addr size
words_within vs addr size tiled all e =
    let b = live_block vs addr size e in
    let k = tiled_block vs addr size b.place tiled b.there b.live in
    let at = k.at in let fits = k.fits in let some = k.some in let within = k.within in let one = k.one_segment in
    omega (arith, at, fits, some, within, one, all)

-- the limits that the layer was made for are the heap's
pub tells_limits : (c : Token) (vs : VsKept) → Always c (λ s. StandsForVs c.opening (now s c).state (layer_of vs)) → vs.limits ≡ c.opening.limits
tells_limits c vs t = (t (setting_of c.opening c.roll) (some_setting c.opening c.roll)).limits
