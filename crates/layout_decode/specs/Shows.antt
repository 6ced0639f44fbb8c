-- When an image shows a state.
use Rattle.std.specs.Prelude.{◌≡◌, ℕ, ◌+◌, ◌*◌, ◌-◌, ◌/◌, ◌%◌, ◌<◌, ◌≤◌, true, List, [], ◌∷◌, map, length, slice_index, option_map, option_and_then, unwrap_or}
use Rattle.std.specs.List.{find, list_any}
use Rattle.heap_model.specs.declared.Kind.{Kind}
use Rattle.heap_model.specs.declared.Kind.TheVariants as kinds
use Rattle.heap_model.specs.declared.Limits.{Limits}
use Rattle.heap_model.specs.declared.Run.{Run}
use Rattle.heap_model.specs.Geometry.{page_bytes}
use Rattle.heap_model.specs.State.{State, Setting, Span, Place, by_address, live_size, has_address}
use Rattle.heap_model.specs.Backend.{free_runs, in_span}
use Rattle.heap_model.specs.Ranges.{vs_spans}
use Rattle.heap_model.specs.Search.{begins_at, spans_of}
use Rattle.large_blocks.specs.Table.{places_of}
use Rattle.page_region.specs.Held.{committed_of}
use Rattle.page_ranges.specs.Words.{runs_of}
use Rattle.page_ranges.specs.Ranges.{IsWhole}
use Rattle.page_ranges.specs.Spans.{taken_runs, frees_in}
use Rattle.vs_headers.specs.Headers.{key_of}
use Rattle.vs_split.specs.Chunks.{head_at, word_at}
use Rattle.vs_split.specs.Shown.{head_shown, word_shown}
use Rattle.claim_rule.specs.Places.{made_word, active_region, hints_region, tags_region, bitmaps_region, sizes_region, data_region}
use Rattle.claim_rule.specs.Shown.{AreShown, GateShown, lfh_spans, flag, tag_of, bitmap_word, size_word}
use Rattle.table_words.specs.Told.{AreWords}
use Rattle.layout_decode.specs.declared.Image.{Image}

-- the bytes at the end of a back-end span that its block was not asked for
abbrev pub unused_in : List Place → Span → Kind → ℕ
unused_in places x kinds.Back =
    page_bytes * x.pages - unwrap_or (option_and_then (λ p. live_size p.status) (find (has_address (page_bytes * x.first)) places)) 0
unused_in places x _ = 0

-- the run, with its mark, that a span of a state is
abbrev pub run_of_span : List Place → Span → Run
run_of_span places x = record {
  first = x.first;
  pages = x.pages;
  mark = record { kind = x.kind; bucket = x.bucket; slot = x.slot; unused = unused_in places x x.kind };
}

-- a hint is 0 where there is no subsegment of its bucket and slot, and else names one
abbrev pub IsHintOf : List Span → ℕ → Type 0
IsHintOf [] word = word ≡ 0
IsHintOf (x ∷ xs) word = list_any (begins_at word) (x ∷ xs) ≡ true

-- The words of the low-fragmentation front end: which buckets are active, which blocks are taken and which sizes they were asked for, of
-- which subsegment each page is, and which one a search reads first.
pub record ShowsFront (l : Limits) (words : List ℕ) (st : State) : Type 0 where
  pub words_are : AreWords l words
  pub active : AreShown words active_region (λ k. flag (st.vs.active (k + 1)))
  pub hints : (b slot : ℕ) → 1 ≤ b → b ≤ 128 → slot < 16 → IsHintOf (spans_of st.back.area b slot) (slice_index words (hints_region.from + 16 * (b - 1) + slot))
  pub tags : AreShown words (tags_region l) (λ page. unwrap_or (option_map tag_of (find (in_span page) (lfh_spans st.back.area))) 0)
  pub bitmaps : AreShown words (bitmaps_region l) (λ k. bitmap_word st.lfh (lfh_spans st.back.area) (k / 4) (k % 4))
  pub sizes : AreShown words (sizes_region l) (size_word st.lfh)

-- The region and the descriptors have the segments of the heap. The descriptors are those of the spans and the free runs of the state, the
-- region has its reserved segments and committed pages, a chunk is marked where a place or a gap begins and nowhere else, and the header words
-- are those of its places and gaps, by the key of the heap. The table of large blocks lists the large places. Of the words of the table, those
-- of the low-fragmentation front end, the data words, the gate and the locks are those of the state, and no more callers were made than there
-- may be.
pub record Shows (image : Image) (s : Setting) (st : State) : Type 0 where
  pub limits : image.limits ≡ s.limits
  pub key : image.key ≡ key_of s.seed
  pub segments : image.region.segments ≡ s.limits.segments
  pub reserved : image.region.reserved ≡ st.back.area.reserved
  pub committed : committed_of image.region ≡ st.back.area.committed
  pub pages : length image.descs ≡ 256 * s.limits.segments
  pub whole : IsWhole image.descs
  pub spans : taken_runs (runs_of image.descs) ≡ map (run_of_span st.back.places) st.back.area.spans
  pub free : frees_in (runs_of image.descs) ≡ free_runs st.back.area
  pub marks : (g : ℕ) → head_at image.heads g ≡ head_shown (vs_spans st.back.area) st.vs.places g
  pub headers : (g : ℕ) → word_at image.heads g ≡ word_shown image.key (vs_spans st.back.area) st.vs.places g
  pub large_limits : image.large.limits ≡ s.limits
  pub large : places_of image.large ≡ by_address st.large
  pub front : ShowsFront image.limits image.words st
  pub contents : AreShown image.words (data_region image.limits) st.words
  pub gate : GateShown st.gate image.words
  pub made : slice_index image.words made_word ≤ s.limits.callers
