-- Whether a block is the last of its span.
use Rattle.std.proofs.Common.{◌≡◌, ◌≢◌, ℕ, ◌-◌, ◌/◌, ◌<◌, ◌≤◌, inl, inr, Bool, true, false, not, ◌&&◌, Some, None, refl, sym, ap, subst, ◌∙◌, arith}
use Rattle.std.proofs.lemmas.Bool.{cases_order, both_ways}
use Rattle.heap_model.specs.Geometry.{page_bytes}
use Rattle.heap_model.specs.State.{Span, has_address, remove_found}
use Rattle.heap_model.specs.Legal.{lies_in, has_place}
use Rattle.heap_soundness.specs.Sound.{IsOneOf, AreInOrder}
use Rattle.heap_soundness.proofs.Spans.{apart_spans}
use Rattle.vs_headers.specs.declared.Head.{Head}
use Rattle.vs_split.specs.Chunks.{Chunks, head_at, chunk_at, with_head}
use Rattle.vs_split.proofs.TileLemmas.{none_or_some}
use Rattle.vs_split.proofs.TiledLemmas.{at_put, granule_within, chunk_of}
use Rattle.vs_layer.specs.Kept.{VsKept, place_of, places_from, places_of, span_over, places_without}
use Rattle.vs_layer.specs.Effects.{IsBlockIn, TellsLast}
use Rattle.vs_layer.specs.Sound.{IsOfSpan, AreChunksSound}
use Rattle.vs_layer.specs.Steps.{is_free_before, is_free_after}
use Rattle.vs_layer.proofs.Places.{places_dropped}
use Rattle.vs_layer.proofs.Gaps.{find_only}
use Rattle.vs_layer.proofs.Changes.{off_put}
use Rattle.vs_layer.proofs.Steps.{has_some}
use Rattle.vs_layer.proofs.Blocks.{address_of, block_here}
use Rattle.vs_layer.proofs.InSpan.{IsBlockOf, lies_from, lies_to, has_block, no_block, free_before, block_before, free_after, block_after}

-- the span that a chunk lies in is the one that its place is found in
pub over_span : (k : VsKept) (g : ℕ) (h : Head) → AreInOrder 0 k.spans → (o : IsOfSpan k.spans g h.units) → 0 < h.units → span_over k (place_of g h) ≡ Some o.span
over_span k g h order o some = find_only (λ x. lies_in page_bytes x (place_of g h)) o.span k.spans o.there (lies_from o.span g h o.lies) only
  where
    only : (y : Span) → IsOneOf y k.spans → lies_in page_bytes y (place_of g h) ≡ true → y ≡ o.span
    only y i e =
        let l = lies_to y g h e in
        elim (apart_spans 0 k.spans y o.span order i o.there) [
          | inl same ↦ same
          | inr (inl before) ↦ absurd (omega (arith, l.1, o.lies.from))
          | inr (inr after) ↦ absurd (omega (arith, l.0, o.lies.to))
        ]

-- the block of a chunk that starts 16 bytes in front of the address
module _ (k : VsKept) (s : AreChunksSound k) (addr : ℕ) (h : Head) (low : 16 ≤ addr) (there : chunk_at k.chunks (addr - 16) ≡ Some h) (busy : h.busy ≡ true) where
  abbrev g : ℕ
  g = (addr - 16) / 16

  at : head_at k.chunks g ≡ Some h
  at = (chunk_of k.chunks (addr - 16) h there).head

  two : 2 ≤ h.units
  two = has_some k.chunks s.tiled g h at

  pub in_span : IsOfSpan k.spans g h.units
  in_span = s.inside g h at

  pub block_in_span : IsBlockIn k addr (place_of g h) in_span.span
  block_in_span = record { there = block_here k addr h low there busy; over = over_span k g h s.in_order in_span (omega (arith, two)) }

  -- the places without it
  pub without_it : places_without k addr ≡ places_from 0 (with_head k.chunks g None).heads
  without_it =
      ap (λ a. remove_found (has_address a) (places_of k)) (address_of k.chunks addr h low there) ∙ sym (places_dropped k.chunks g h None at busy refl)

  abbrev w : Chunks
  w = with_head k.chunks g None

  gone : (q : ℕ) (m : Head) → head_at w q ≡ Some m → q ≢ g
  gone q m is z = none_or_some (head_at w g) m (at_put k.chunks g None (granule_within k.chunks g h at)) (subst (λ j. head_at w j ≡ Some m) z is)

  kept : (q : ℕ) → q ≢ g → IsBlockOf k.chunks in_span.span q → IsBlockOf w in_span.span q
  kept q other b = record { head = b.head; there = off_put k.chunks g None q other ∙ b.there; busy = b.busy; lies = b.lies }

  pub tells_last : TellsLast k addr (is_free_before k.chunks g h && is_free_after k.chunks g h)
  tells_last = record {
    place = place_of g h;
    span = in_span.span;
    block = block_in_span;
    told = by (is_free_before k.chunks g h) refl (is_free_after k.chunks g h) refl ∙ ap (λ ps. not (has_place page_bytes ps in_span.span)) (sym without_it);
  }
    where
      by : (a : Bool) → is_free_before k.chunks g h ≡ a → (b : Bool) → is_free_after k.chunks g h ≡ b → (a && b) ≡ not (has_place page_bytes (places_from 0 w.heads) in_span.span)
      by false e b f =
          let q = block_before k.spans k.chunks s.tiled s.in_order s.inside s.rows in_span.span in_span.there g h at in_span.lies s.joined e in
          sym (ap not (has_block w in_span.span q.0 (kept q.0 (λ z. omega (arith, q.1)) q.2)))
      by true e false f =
          let q = block_after k.spans k.chunks s.tiled s.in_order s.inside s.rows in_span.span in_span.there g h at in_span.lies s.joined f in
          sym (ap not (has_block w in_span.span q.0 (kept q.0 (λ z. omega (arith, q.1)) q.2)))
      by true e true f = sym (ap not (no_block w in_span.span (λ q m is full low high.
          let was = sym (off_put k.chunks g None q (gone q m is)) ∙ is in
          elim (cases_order q g) [
            | inl z ↦ gone q m is z
            | inr (inl less) ↦ both_ways m.busy (free_before k.spans k.chunks s.tiled s.in_order s.inside s.rows in_span.span in_span.there g h at in_span.lies s.joined e q m was low less) full
            | inr (inr more) ↦ both_ways m.busy (free_after k.spans k.chunks s.tiled s.in_order s.inside s.rows in_span.span in_span.there g h at in_span.lies s.joined f q m was high more) full
          ])))
