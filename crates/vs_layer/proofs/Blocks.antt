-- The block at an address, by the chunk that starts 16 bytes in front of it.
use Rattle.std.proofs.Common.{◌≡◌, ℕ, ◌+◌, ◌-◌, ◌*◌, ◌/◌, ◌<◌, ◌≤◌, true, false, Option, Some, None, sym, ap, subst, ◌∙◌, arith}
use Rattle.std.specs.Prelude.{option_and_then}
use Rattle.std.specs.List.{find}
use Rattle.heap_model.specs.State.{Place, has_address, live_size}
use Rattle.vs_headers.specs.declared.Head.{Head}
use Rattle.vs_split.specs.Chunks.{Chunks, head_at, chunk_at}
use Rattle.vs_split.proofs.TileLemmas.{none_or_some, same_head}
use Rattle.vs_split.proofs.TiledLemmas.{chunk_of, chunk_there}
use Rattle.vs_layer.specs.Kept.{VsKept, place_of, places_of, block_at}
use Rattle.vs_layer.proofs.Places as places

-- the chunk of an address
pub chunk_here : (v : Chunks) (addr g : ℕ) → addr ≡ 16 * g + 16 → chunk_at v (addr - 16) ≡ head_at v g
chunk_here v addr g e = let same : (addr - 16) / 16 ≡ g = omega arith in chunk_there v (addr - 16) (omega arith) ∙ ap (head_at v) same

-- the address of a chunk
pub address_of : (v : Chunks) (addr : ℕ) (h : Head) → 16 ≤ addr → chunk_at v (addr - 16) ≡ Some h → addr ≡ 16 * ((addr - 16) / 16) + 16
address_of v addr h low there = omega (arith, (chunk_of v (addr - 16) h there).aligned)

abbrev size_at : VsKept → ℕ → Option ℕ
size_at k addr = option_and_then (λ (p : Place). live_size p.status) (block_at k addr)

no_size : (k : VsKept) (addr : ℕ) → block_at k addr ≡ None → None ≡ size_at k addr
no_size k addr e = sym (ap (option_and_then (λ (p : Place). live_size p.status)) e)

pub none_below : (k : VsKept) (addr : ℕ) → addr < 16 → None ≡ size_at k addr
none_below k addr low = no_size k addr (places.none_found k.chunks addr (λ g h at there. absurd (omega arith)))

pub none_without_chunk : (k : VsKept) (addr : ℕ) → chunk_at k.chunks (addr - 16) ≡ None → None ≡ size_at k addr
none_without_chunk k addr none =
    no_size k addr (places.none_found k.chunks addr (λ g h at there. absurd (none_or_some (head_at k.chunks g) h (sym (chunk_here k.chunks addr g at) ∙ none) there)))

pub none_in_gap : (k : VsKept) (addr : ℕ) (h : Head) → chunk_at k.chunks (addr - 16) ≡ Some h → h.busy ≡ false → None ≡ size_at k addr
none_in_gap k addr h there free =
    no_size k addr (places.none_found k.chunks addr (λ g m at is. ap (λ (y : Head). y.busy) (same_head m h (sym is ∙ sym (chunk_here k.chunks addr g at) ∙ there)) ∙ free))

-- .. of a place
pub block_here : (k : VsKept) (addr : ℕ) (h : Head) → 16 ≤ addr → chunk_at k.chunks (addr - 16) ≡ Some h → h.busy ≡ true → block_at k addr ≡ Some (place_of ((addr - 16) / 16) h)
block_here k addr h low there busy =
    let g : ℕ = (addr - 16) / 16 in
    let at = address_of k.chunks addr h low there in
    ap (λ a. find (has_address a) (places_of k)) at ∙ places.place_found k.chunks g h (chunk_of k.chunks (addr - 16) h there).head busy

pub size_here : (k : VsKept) (addr n : ℕ) (h : Head) → 16 ≤ addr → chunk_at k.chunks (addr - 16) ≡ Some h → h.busy ≡ true → n ≡ 16 * (h.units - 1) - h.unused → Some n ≡ size_at k addr
size_here k addr n h low there busy e =
    ap (λ m. let o : Option ℕ = Some m in o) e ∙ sym (ap (option_and_then (λ (p : Place). live_size p.status)) (block_here k addr h low there busy))

-- the chunk of a block
pub record IsBlockAt (v : Chunks) (addr : ℕ) (p : Place) : Type 0 where
  pub head : Head
  pub low : 16 ≤ addr
  pub there : chunk_at v (addr - 16) ≡ Some head
  pub busy : head.busy ≡ true
  pub is : place_of ((addr - 16) / 16) head ≡ p

pub chunk_asked : (k : VsKept) (addr : ℕ) (p : Place) → block_at k addr ≡ Some p → IsBlockAt k.chunks addr p
chunk_asked k addr p e =
    let b = places.block_of k.chunks addr p e in
    let same : b.granule ≡ (addr - 16) / 16 = omega (arith, b.at) in
    record {
      head = b.head;
      low = omega (arith, b.at);
      there = chunk_here k.chunks addr b.granule b.at ∙ b.there;
      busy = b.busy;
      is = subst (λ g. place_of g b.head ≡ p) same b.is;
    }

-- .. which is the one that was found
pub busy_found : (k : VsKept) (addr : ℕ) (p : Place) (h : Head) → block_at k addr ≡ Some p → chunk_at k.chunks (addr - 16) ≡ Some h → h.busy ≡ true
busy_found k addr p h e there =
    let b = chunk_asked k addr p e in
    ap (λ (y : Head). y.busy) (same_head h b.head (sym there ∙ b.there)) ∙ b.busy
