-- The block that is dropped becomes free with the gaps beside it; its span is closed where that is all of it.
use Rattle.std.proofs.Common.{◌≡◌, ℕ, ◌-◌, ◌/◌, Vec, inl, inr, not, is_some, length, None, refl, sym, ap, subst, ◌∙◌, arith}
use Rattle.std.proofs.lemmas.List.{get_or_default}
use Rattle.vs_split.specs.Chunks.{chunk_at}
use Rattle.vs_layer.specs.Kept.{VsKept}
use Rattle.vs_layer.proofs.Blocks.{chunk_asked, busy_found}
use Rattle.vs_layer.proofs.Dropped.{has_room}
use Rattle.vs_layer.proofs.DropBlock.{some_units, few_unused, set_there, behind_there, read, freed_block, granule_fits, one_counted, sound_added, dropped_added, page_within, whole, sound_closed, dropped_closed, no_head, some_head, dropped_of_same}
use Rattle.vs_layer.proofs.Body.drop_block.Goals.{else-gap-eq0-via-then-gap-eq0+else-is_none, else-gap-eq0-via-else-gap-eq0}
use Rattle.std.proofs.Math.ListN.{set, length-set}
use Rattle.std.specs.Vec.{vec_capacity}
use Rattle.heap_model.specs.Buckets.{bucket_of}
use Rattle.vs_layer.specs.Sound.{spans_from}
use Rattle.vs_layer.proofs.Counts.{less_room}
use Rattle.vs_layer.proofs.Standing.{drops}
use Rattle.vs_layer.proofs.Body.drop_block.Goals as goal

pub overflow_sub-start : goal.overflow_sub-start
overflow_sub-start c = (chunk_asked c.args.self.now c.args.addr c.requires.0 c.requires.1).low

pub unwrap-head-requires : goal.unwrap-head-requires
unwrap-head-requires c =
    let b = chunk_asked c.args.self.now c.args.addr c.requires.0 c.requires.1 in
    ap is_some (c.chunk_at.ensures.head ∙ ap (λ (k : VsKept). chunk_at k.chunks (c.args.addr - 16)) c.self.view_is ∙ b.there)

pub size_in-requires-clause-some : goal.size_in-requires-clause-some
size_in-requires-clause-some c =
    let addr = c.args.addr in
    let h = c.unwrap-head.result in
    let there = sym c.chunk_at.ensures.head ∙ c.unwrap-head.ensures in
    let low = (chunk_asked c.args.self.now addr c.requires.0 c.requires.1).low in
    let busy = busy_found c.args.self.now addr c.requires.0 h c.requires.1 (ap (λ (k : VsKept). chunk_at k.chunks (addr - 16)) (sym c.self.view_is) ∙ there) in
    some_units _ c.self.inside.pages.items c.self.inside.counts.live.items c.self.inside.tiling.index c.self.invariant.0 addr h low there busy

pub size_in-requires-clause-within : goal.size_in-requires-clause-within
size_in-requires-clause-within c =
    let addr = c.args.addr in
    let h = c.unwrap-head.result in
    let there = sym c.chunk_at.ensures.head ∙ c.unwrap-head.ensures in
    let low = (chunk_asked c.args.self.now addr c.requires.0 c.requires.1).low in
    let busy = busy_found c.args.self.now addr c.requires.0 h c.requires.1 (ap (λ (k : VsKept). chunk_at k.chunks (addr - 16)) (sym c.self.view_is) ∙ there) in
    few_unused _ c.self.inside.pages.items c.self.inside.counts.live.items c.self.inside.tiling.index c.self.invariant.0 addr h low there busy

pub dropped-requires-clause-some : goal.dropped-requires-clause-some
dropped-requires-clause-some c =
    let addr = c.args.addr in
    let h = c.unwrap-head.result in
    let there = sym c.chunk_at.ensures.head ∙ c.unwrap-head.ensures in
    let low = (chunk_asked c.args.self.now addr c.requires.0 c.requires.1).low in
    let busy = busy_found c.args.self.now addr c.requires.0 h c.requires.1 (ap (λ (k : VsKept). chunk_at k.chunks (addr - 16)) (sym c.self.view_is) ∙ there) in
    one_counted _ c.self.inside.pages.items c.self.inside.counts.live.items c.self.inside.tiling.index c.self.invariant.0 addr h low there busy c.size_in.result c.size_in.ensures

pub join_gap_behind-requires : goal.join_gap_behind-requires
join_gap_behind-requires c =
    let addr = c.args.addr in
    let h = c.unwrap-head.result in
    let there = sym c.chunk_at.ensures.head ∙ c.unwrap-head.ensures in
    let low = (chunk_asked c.args.self.now addr c.requires.0 c.requires.1).low in
    let busy = busy_found c.args.self.now addr c.requires.0 h c.requires.1 (ap (λ (k : VsKept). chunk_at k.chunks (addr - 16)) (sym c.self.view_is) ∙ there) in
    set_there _ c.self.inside.pages.items c.self.inside.counts.live.items c.self.inside.tiling.index c.self.invariant.0 addr h low there busy c.set.new.self (c.set.ensures h there)

pub join_gap_before-start-requires : goal.join_gap_before-start-requires
join_gap_before-start-requires c =
    let addr = c.args.addr in
    let h = c.unwrap-head.result in
    let there = sym c.chunk_at.ensures.head ∙ c.unwrap-head.ensures in
    let low = (chunk_asked c.args.self.now addr c.requires.0 c.requires.1).low in
    let busy = busy_found c.args.self.now addr c.requires.0 h c.requires.1 (ap (λ (k : VsKept). chunk_at k.chunks (addr - 16)) (sym c.self.view_is) ∙ there) in
    behind_there _ c.self.inside.pages.items c.self.inside.counts.live.items c.self.inside.tiling.index c.self.invariant.0 addr h low there busy c.set.new.self (c.set.ensures h there) c.join_gap_behind.new.self.heads c.join_gap_behind.new.self.index c.join_gap_behind.ensures

pub overflow_cast-at : goal.overflow_cast-at
overflow_cast-at c =
    let addr = c.args.addr in
    let h = c.unwrap-head.result in
    let there = sym c.chunk_at.ensures.head ∙ c.unwrap-head.ensures in
    let low = (chunk_asked c.args.self.now addr c.requires.0 c.requires.1).low in
    let busy = busy_found c.args.self.now addr c.requires.0 h c.requires.1 (ap (λ (k : VsKept). chunk_at k.chunks (addr - 16)) (sym c.self.view_is) ∙ there) in
    omega (arith, granule_fits _ c.self.inside.pages.items c.self.inside.counts.live.items c.self.inside.tiling.index c.self.invariant.0 addr h low there busy c.set.new.self (c.set.ensures h there) c.join_gap_behind.new.self.heads c.join_gap_behind.new.self.index c.join_gap_behind.ensures c.join_gap_before-start.new.self.heads c.join_gap_before-start.new.self.index c.join_gap_before-start.result c.join_gap_before-start.ensures)

pub unwrap-gap-requires : goal.unwrap-gap-requires
unwrap-gap-requires c =
    let addr = c.args.addr in
    let h = c.unwrap-head.result in
    let there = sym c.chunk_at.ensures.head ∙ c.unwrap-head.ensures in
    let low = (chunk_asked c.args.self.now addr c.requires.0 c.requires.1).low in
    let busy = busy_found c.args.self.now addr c.requires.0 h c.requires.1 (ap (λ (k : VsKept). chunk_at k.chunks (addr - 16)) (sym c.self.view_is) ∙ there) in
    ap is_some (c.chunk_at-2.ensures.head ∙ (read _ c.self.inside.pages.items c.self.inside.counts.live.items c.self.inside.tiling.index c.self.invariant.0 addr h low there busy c.set.new.self (c.set.ensures h there) c.join_gap_behind.new.self.heads c.join_gap_behind.new.self.index c.join_gap_behind.ensures c.join_gap_before-start.new.self.heads c.join_gap_before-start.new.self.index c.join_gap_before-start.result c.join_gap_before-start.ensures).1)

pub index-requires : goal.index-requires
index-requires c =
    let addr = c.args.addr in
    let h = c.unwrap-head.result in
    let there = sym c.chunk_at.ensures.head ∙ c.unwrap-head.ensures in
    let low = (chunk_asked c.args.self.now addr c.requires.0 c.requires.1).low in
    let busy = busy_found c.args.self.now addr c.requires.0 h c.requires.1 (ap (λ (k : VsKept). chunk_at k.chunks (addr - 16)) (sym c.self.view_is) ∙ there) in
    let w = c.join_gap_before-start.new.self.heads in
    let y = c.join_gap_before-start.new.self.index in
    let granule : ℕ = c.join_gap_before-start.result / 16 in
    let m = c.unwrap-gap.result in
    let f = freed_block _ c.self.inside.pages.items c.self.inside.counts.live.items c.self.inside.tiling.index c.self.invariant.0 addr h low there busy c.set.new.self (c.set.ensures h there) c.join_gap_behind.new.self.heads c.join_gap_behind.new.self.index c.join_gap_behind.ensures c.join_gap_before-start.new.self.heads c.join_gap_before-start.new.self.index c.join_gap_before-start.result c.join_gap_before-start.ensures m (sym c.chunk_at-2.ensures.head ∙ c.unwrap-gap.ensures) in
    let last = no_head c.next_of.result _ c.next_of.ensures c.if-is_none.ensures in
    omega (arith, page_within _ c.self.inside.pages.items c.self.inside.counts.live.items c.self.inside.tiling.index c.self.invariant.0 addr h low there busy c.size_in.result c.size_in.ensures w y (c.join_gap_before-start.result / 16) m f c.dropped.new.self.live.items c.dropped.ensures.live c.if-gap-eq0.true last)

pub close_span-requires : goal.close_span-requires
close_span-requires c =
    let addr = c.args.addr in
    let h = c.unwrap-head.result in
    let there = sym c.chunk_at.ensures.head ∙ c.unwrap-head.ensures in
    let low = (chunk_asked c.args.self.now addr c.requires.0 c.requires.1).low in
    let busy = busy_found c.args.self.now addr c.requires.0 h c.requires.1 (ap (λ (k : VsKept). chunk_at k.chunks (addr - 16)) (sym c.self.view_is) ∙ there) in
    let w = c.join_gap_before-start.new.self.heads in
    let y = c.join_gap_before-start.new.self.index in
    let granule : ℕ = c.join_gap_before-start.result / 16 in
    let m = c.unwrap-gap.result in
    let f = freed_block _ c.self.inside.pages.items c.self.inside.counts.live.items c.self.inside.tiling.index c.self.invariant.0 addr h low there busy c.set.new.self (c.set.ensures h there) c.join_gap_behind.new.self.heads c.join_gap_behind.new.self.index c.join_gap_behind.ensures c.join_gap_before-start.new.self.heads c.join_gap_before-start.new.self.index c.join_gap_before-start.result c.join_gap_before-start.ensures m (sym c.chunk_at-2.ensures.head ∙ c.unwrap-gap.ensures) in
    let last = no_head c.next_of.result _ c.next_of.ensures c.if-is_none.ensures in
    (m, whole _ c.self.inside.pages.items c.self.inside.counts.live.items c.self.inside.tiling.index c.self.invariant.0 addr h low there busy c.size_in.result c.size_in.ensures w y (c.join_gap_before-start.result / 16) m f c.dropped.new.self.live.items c.dropped.ensures.live c.if-gap-eq0.true last)

pub index_mut-requires : goal.index_mut-requires
index_mut-requires c =
    let addr = c.args.addr in
    let h = c.unwrap-head.result in
    let there = sym c.chunk_at.ensures.head ∙ c.unwrap-head.ensures in
    let low = (chunk_asked c.args.self.now addr c.requires.0 c.requires.1).low in
    let busy = busy_found c.args.self.now addr c.requires.0 h c.requires.1 (ap (λ (k : VsKept). chunk_at k.chunks (addr - 16)) (sym c.self.view_is) ∙ there) in
    let w = c.join_gap_before-start.new.self.heads in
    let y = c.join_gap_before-start.new.self.index in
    let granule : ℕ = c.join_gap_before-start.result / 16 in
    let m = c.unwrap-gap.result in
    let f = freed_block _ c.self.inside.pages.items c.self.inside.counts.live.items c.self.inside.tiling.index c.self.invariant.0 addr h low there busy c.set.new.self (c.set.ensures h there) c.join_gap_behind.new.self.heads c.join_gap_behind.new.self.index c.join_gap_behind.ensures c.join_gap_before-start.new.self.heads c.join_gap_before-start.new.self.index c.join_gap_before-start.result c.join_gap_before-start.ensures m (sym c.chunk_at-2.ensures.head ∙ c.unwrap-gap.ensures) in
    let last = no_head c.next_of.result _ c.next_of.ensures c.if-is_none.ensures in
    omega (arith, page_within _ c.self.inside.pages.items c.self.inside.counts.live.items c.self.inside.tiling.index c.self.invariant.0 addr h low there busy c.size_in.result c.size_in.ensures w y (c.join_gap_before-start.result / 16) m f c.dropped.new.self.live.items c.dropped.ensures.live c.if-gap-eq0.true last)

pub invariant_of-self : goal.invariant_of-self
invariant_of-self c =
    let addr = c.args.addr in
    let h = c.unwrap-head.result in
    let there = sym c.chunk_at.ensures.head ∙ c.unwrap-head.ensures in
    let low = (chunk_asked c.args.self.now addr c.requires.0 c.requires.1).low in
    let busy = busy_found c.args.self.now addr c.requires.0 h c.requires.1 (ap (λ (k : VsKept). chunk_at k.chunks (addr - 16)) (sym c.self.view_is) ∙ there) in
    let w = c.join_gap_before-start.new.self.heads in
    let y = c.join_gap_before-start.new.self.index in
    let granule : ℕ = c.join_gap_before-start.result / 16 in
    let m = c.unwrap-gap.result in
    let f = freed_block _ c.self.inside.pages.items c.self.inside.counts.live.items c.self.inside.tiling.index c.self.invariant.0 addr h low there busy c.set.new.self (c.set.ensures h there) c.join_gap_behind.new.self.heads c.join_gap_behind.new.self.index c.join_gap_behind.ensures c.join_gap_before-start.new.self.heads c.join_gap_before-start.new.self.index c.join_gap_before-start.result c.join_gap_before-start.ensures m (sym c.chunk_at-2.ensures.head ∙ c.unwrap-gap.ensures) in
    let last = no_head c.next_of.result _ c.next_of.ensures c.if-is_none.ensures in (
      sound_closed _ c.self.inside.pages.items c.self.inside.counts.live.items c.self.inside.tiling.index c.self.invariant.0 addr h low there busy c.size_in.result c.size_in.ensures w y (c.join_gap_before-start.result / 16) m f c.dropped.new.self.live.items c.dropped.ensures.live c.if-gap-eq0.true last _ refl c.close_span.ensures (ap (λ v. v.items) c.dropped.ensures.served) refl,
      c.self.invariant.1 ∙ sym (length-set c.self.inside.pages.items (granule / 256) 0),
      c.self.invariant.2,
      less_room (bucket_of c.size_in.result) c.self.inside.counts.live.items c.dropped.new.self.live.items _ _ c.self.invariant.3 c.dropped.ensures.live_room c.dropped.ensures.live,
      subst (λ (v : Vec _ _). vec_capacity v ≡ length v.items) (sym c.dropped.ensures.served) c.self.invariant.4,
      length-set c.self.inside.pages.items (granule / 256) 0 ∙ c.self.invariant.5,
    )

pub returns-then-is_none-clause-dropped : goal.returns-then-is_none-clause-dropped
returns-then-is_none-clause-dropped c =
    let addr = c.args.addr in
    let h = c.unwrap-head.result in
    let there = sym c.chunk_at.ensures.head ∙ c.unwrap-head.ensures in
    let low = (chunk_asked c.args.self.now addr c.requires.0 c.requires.1).low in
    let busy = busy_found c.args.self.now addr c.requires.0 h c.requires.1 (ap (λ (k : VsKept). chunk_at k.chunks (addr - 16)) (sym c.self.view_is) ∙ there) in
    let w = c.join_gap_before-start.new.self.heads in
    let y = c.join_gap_before-start.new.self.index in
    let granule : ℕ = c.join_gap_before-start.result / 16 in
    let m = c.unwrap-gap.result in
    let f = freed_block _ c.self.inside.pages.items c.self.inside.counts.live.items c.self.inside.tiling.index c.self.invariant.0 addr h low there busy c.set.new.self (c.set.ensures h there) c.join_gap_behind.new.self.heads c.join_gap_behind.new.self.index c.join_gap_behind.ensures c.join_gap_before-start.new.self.heads c.join_gap_before-start.new.self.index c.join_gap_before-start.result c.join_gap_before-start.ensures m (sym c.chunk_at-2.ensures.head ∙ c.unwrap-gap.ensures) in
    let last = no_head c.next_of.result _ c.next_of.ensures c.if-is_none.ensures in
    dropped_of_same _ _ _ addr _ c.self.view_is (dropped_closed _ c.self.inside.pages.items c.self.inside.counts.live.items c.self.inside.tiling.index c.self.invariant.0 addr h low there busy c.size_in.result c.size_in.ensures w y (c.join_gap_before-start.result / 16) m f c.dropped.new.self.live.items c.dropped.ensures.live c.if-gap-eq0.true last _ refl c.close_span.ensures (ap (λ v. v.items) c.dropped.ensures.served) refl c.from-pages.result (c.from-pages.ensures ∙ c.index.ensures ∙ get_or_default c.self.inside.pages.items (c.join_gap_before-start.result / 16 / 256) c.index.result.now 0 (page_within _ c.self.inside.pages.items c.self.inside.counts.live.items c.self.inside.tiling.index c.self.invariant.0 addr h low there busy c.size_in.result c.size_in.ensures w y (c.join_gap_before-start.result / 16) m f c.dropped.new.self.live.items c.dropped.ensures.live c.if-gap-eq0.true last)))

pub add-requires-clause-room : goal.add-requires-clause-room
add-requires-clause-room c =
    let addr = c.args.addr in
    let h = c.unwrap-head.result in
    let there = sym c.chunk_at.ensures.head ∙ c.unwrap-head.ensures in
    let low = (chunk_asked c.args.self.now addr c.requires.0 c.requires.1).low in
    let busy = busy_found c.args.self.now addr c.requires.0 h c.requires.1 (ap (λ (k : VsKept). chunk_at k.chunks (addr - 16)) (sym c.self.view_is) ∙ there) in
    let w = c.join_gap_before-start.new.self.heads in
    let y = c.join_gap_before-start.new.self.index in
    let granule : ℕ = c.join_gap_before-start.result / 16 in
    let m = c.unwrap-gap.result in
    let f = freed_block _ c.self.inside.pages.items c.self.inside.counts.live.items c.self.inside.tiling.index c.self.invariant.0 addr h low there busy c.set.new.self (c.set.ensures h there) c.join_gap_behind.new.self.heads c.join_gap_behind.new.self.index c.join_gap_behind.ensures c.join_gap_before-start.new.self.heads c.join_gap_before-start.new.self.index c.join_gap_before-start.result c.join_gap_before-start.ensures m (sym c.chunk_at-2.ensures.head ∙ c.unwrap-gap.ensures) in
    has_room _ c.self.inside.tiling.index c.self.invariant.0.chunks c.self.invariant.0.index addr h low there busy w y granule m f

pub add-requires-clause-absent : goal.add-requires-clause-absent
add-requires-clause-absent c =
    let addr = c.args.addr in
    let h = c.unwrap-head.result in
    let there = sym c.chunk_at.ensures.head ∙ c.unwrap-head.ensures in
    let low = (chunk_asked c.args.self.now addr c.requires.0 c.requires.1).low in
    let busy = busy_found c.args.self.now addr c.requires.0 h c.requires.1 (ap (λ (k : VsKept). chunk_at k.chunks (addr - 16)) (sym c.self.view_is) ∙ there) in
    let w = c.join_gap_before-start.new.self.heads in
    let y = c.join_gap_before-start.new.self.index in
    let granule : ℕ = c.join_gap_before-start.result / 16 in
    let m = c.unwrap-gap.result in
    let f = freed_block _ c.self.inside.pages.items c.self.inside.counts.live.items c.self.inside.tiling.index c.self.invariant.0 addr h low there busy c.set.new.self (c.set.ensures h there) c.join_gap_behind.new.self.heads c.join_gap_behind.new.self.index c.join_gap_behind.ensures c.join_gap_before-start.new.self.heads c.join_gap_before-start.new.self.index c.join_gap_before-start.result c.join_gap_before-start.ensures m (sym c.chunk_at-2.ensures.head ∙ c.unwrap-gap.ensures) in
    f.but.absent m.units

pub invariant_of-self-2 : goal.invariant_of-self-2
invariant_of-self-2 c =
    let addr = c.args.addr in
    let h = c.unwrap-head.result in
    let there = sym c.chunk_at.ensures.head ∙ c.unwrap-head.ensures in
    let low = (chunk_asked c.args.self.now addr c.requires.0 c.requires.1).low in
    let busy = busy_found c.args.self.now addr c.requires.0 h c.requires.1 (ap (λ (k : VsKept). chunk_at k.chunks (addr - 16)) (sym c.self.view_is) ∙ there) in
    let w = c.join_gap_before-start.new.self.heads in
    let y = c.join_gap_before-start.new.self.index in
    let granule : ℕ = c.join_gap_before-start.result / 16 in
    let m = c.unwrap-gap.result in
    let f = freed_block _ c.self.inside.pages.items c.self.inside.counts.live.items c.self.inside.tiling.index c.self.invariant.0 addr h low there busy c.set.new.self (c.set.ensures h there) c.join_gap_behind.new.self.heads c.join_gap_behind.new.self.index c.join_gap_behind.ensures c.join_gap_before-start.new.self.heads c.join_gap_before-start.new.self.index c.join_gap_before-start.result c.join_gap_before-start.ensures m (sym c.chunk_at-2.ensures.head ∙ c.unwrap-gap.ensures) in (
      sound_added _ c.self.inside.pages.items c.self.inside.counts.live.items c.self.inside.tiling.index c.self.invariant.0 addr h low there busy c.size_in.result c.size_in.ensures w y (c.join_gap_before-start.result / 16) m f c.dropped.new.self.live.items c.dropped.ensures.live _ refl refl (ap (λ v. v.items) c.dropped.ensures.served) refl c.add.new.self c.add.ensures,
      c.self.invariant.1,
      c.self.invariant.2,
      less_room (bucket_of c.size_in.result) c.self.inside.counts.live.items c.dropped.new.self.live.items _ _ c.self.invariant.3 c.dropped.ensures.live_room c.dropped.ensures.live,
      subst (λ (v : Vec _ _). vec_capacity v ≡ length v.items) (sym c.dropped.ensures.served) c.self.invariant.4,
      c.self.invariant.5,
    )

pub returns-clause-dropped : goal.returns-clause-dropped
returns-clause-dropped c =
    let addr = c.args.addr in
    let h = c.unwrap-head.result in
    let there = sym c.chunk_at.ensures.head ∙ c.unwrap-head.ensures in
    let low = (chunk_asked c.args.self.now addr c.requires.0 c.requires.1).low in
    let busy = busy_found c.args.self.now addr c.requires.0 h c.requires.1 (ap (λ (k : VsKept). chunk_at k.chunks (addr - 16)) (sym c.self.view_is) ∙ there) in
    let w = c.join_gap_before-start.new.self.heads in
    let y = c.join_gap_before-start.new.self.index in
    let granule : ℕ = c.join_gap_before-start.result / 16 in
    let m = c.unwrap-gap.result in
    let f = freed_block _ c.self.inside.pages.items c.self.inside.counts.live.items c.self.inside.tiling.index c.self.invariant.0 addr h low there busy c.set.new.self (c.set.ensures h there) c.join_gap_behind.new.self.heads c.join_gap_behind.new.self.index c.join_gap_behind.ensures c.join_gap_before-start.new.self.heads c.join_gap_before-start.new.self.index c.join_gap_before-start.result c.join_gap_before-start.ensures m (sym c.chunk_at-2.ensures.head ∙ c.unwrap-gap.ensures) in
    dropped_of_same _ _ _ addr _ c.self.view_is
    (dropped_added _ c.self.inside.pages.items c.self.inside.counts.live.items c.self.inside.tiling.index c.self.invariant.0 addr h low there busy c.size_in.result c.size_in.ensures w y (c.join_gap_before-start.result / 16) m f c.dropped.new.self.live.items c.dropped.ensures.live
    (elim c.else-gap-eq0.branch [
      | else-gap-eq0-via-then-gap-eq0+else-is_none b ↦ inr (some_head b.next_of.result _ b.next_of.ensures (b.is_none.ensures ∙ ap not b.if-is_none.false))
      | else-gap-eq0-via-else-gap-eq0 b ↦ inl b.if-gap-eq0.false
    ])
    _ refl refl (ap (λ v. v.items) c.dropped.ensures.served) refl)

pub returns-then-is_none-clause-stands : goal.returns-then-is_none-clause-stands
returns-then-is_none-clause-stands c =
    let new : VsKept = record { limits = c.self.inside.limits; spans = spans_from 0 (set c.self.inside.pages.items (c.join_gap_before-start.result / 16 / 256) 0); chunks = c.close_span.new.self; served = c.dropped.new.self.served.items; active = c.self.inside.active.items } in
    drops c.args.self.now new (ap (λ (k : VsKept). k.limits) c.self.view_is) c.args.addr _ (returns-then-is_none-clause-dropped c)

pub returns-clause-stands : goal.returns-clause-stands
returns-clause-stands c =
    let new : VsKept = record { limits = c.self.inside.limits; spans = spans_from 0 c.self.inside.pages.items; chunks = c.join_gap_before-start.new.self.heads; served = c.dropped.new.self.served.items; active = c.self.inside.active.items } in
    drops c.args.self.now new (ap (λ (k : VsKept). k.limits) c.self.view_is) c.args.addr None (returns-clause-dropped c)
