-- A span that is made for a bucket and a slot where no other has a free block, and its first block.
use Rattle.std.proofs.Common.{◌≡◌, ℕ, zero, suc, ◌+◌, ◌-◌, ◌*◌, ◌/◌, ◌%◌, ◌<◌, ◌≤◌, Bool, true, false, ◌&&◌, List, [], ◌∷◌, ◌++◌, Option, Some, None, refl, sym, ap, subst, ◌∙◌, arith, eqb, leb, ltb, mod-lt, inl, inr}
use Rattle.std.specs.Prelude.{unwrap_or}
use Rattle.std.specs.List.{find, list_any, list_all}
use Rattle.std.proofs.lemmas.Bool.{cases_Bool, and_from, and_right, or_parts, le-leb, lt-ltb, eq-eqb, agree_below_at, ltb-true}
use Rattle.heap_model.specs.declared.Call.TheVariants as calls
use Rattle.heap_model.specs.declared.Act.{Act}
use Rattle.heap_model.specs.declared.Act.TheVariants as acts
use Rattle.heap_model.specs.declared.Reply.TheVariants as replies
use Rattle.heap_model.specs.declared.Kind.TheVariants as kinds
use Rattle.heap_model.specs.Buckets.{bucket_of, bucket_pages, block_size, block_address, block_count, valid_bits}
use Rattle.heap_model.specs.Bits.{starts_at, pick}
use Rattle.heap_model.specs.State.{Setting, BackPart, VsPart, Span, Place, is_kind, in_hand, insert_span, updated}
use Rattle.heap_model.specs.Backend.{in_span, is_free, back_place}
use Rattle.heap_model.specs.Ranges.{is_of_kind}
use Rattle.heap_model.specs.CallState.{Configuration, CallState, Search, SpanHistory, Demand, PlaceBy, caller_view}
use Rattle.heap_model.specs.Search.{SearchKey, first_word, spans_of, is_span_of, is_spent, own_block, after_own_span}
use Rattle.heap_model.specs.Legal.{after, has_place, are_used, with_area, with_span, put_maker, is_lfh_over, meets_demand, may_follow, step_search, searched_once}
use Rattle.heap_model.specs.Alone.{by_zero}
use Rattle.heap_model.proofs.ListLemmas.{filter-insert_span}
use Rattle.heap_soundness.specs.Sound.{IsOneOf}
use Rattle.heap_soundness.proofs.BackendLemmas.{AreFree, back_place_free, outside_of}
use Rattle.heap_soundness.proofs.Layers.{block_end}
use Rattle.heap_soundness.proofs.Picks.{pick_below}
use Rattle.heap_soundness.proofs.Spans.{made_in}
use Rattle.heap_soundness.proofs.GapRuns.{in_filtered}
use Rattle.serial_laws.specs.BackCalls.{plain}
use Rattle.search_laws.specs.Reading.{found_of, lfh_block}
use Rattle.search_laws.specs.Laws.{key_of}
use Rattle.search_laws.specs.Calls.{OnlyLfh, hint_put, lfh_span}
use Rattle.search_laws.proofs.Blocks.{whole_granules, some_size}
use Rattle.search_laws.proofs.Ends.{EndsFrom, ends_act}
use Rattle.search_laws.proofs.Placing.{asking, back_locked, inside, ends_locked, page_of}

---- Its first block

pub some_blocks : (b : ℕ) → 1 ≤ b → b ≤ 128 → 0 < block_count b
some_blocks zero l h = absurd (omega arith)
some_blocks (suc b) l h = ltb-true 0 (block_count (suc b)) (agree_below_at (λ i. ltb 0 (block_count (suc i))) (λ i. true) 128 b refl (omega arith))

-- the block that the draw picks is one of the span
pub own_below : (g : SearchKey) → 0 < block_count g.bucket → own_block g < block_count g.bucket
own_below g some = by_pick (pick 0 (valid_bits g.bucket (first_word g)) (g.draw % 64)) refl
  where
    below : (n w : ℕ) → w < (n + 64 - 1) / 64 → 64 * w + 0 < n
    below n w l = omega arith

    words : (n : ℕ) → 0 < n → 0 < (n + 64 - 1) / 64
    words n l = omega arith

    by_pick : (o : Option ℕ) → pick 0 (valid_bits g.bucket (first_word g)) (g.draw % 64) ≡ o → 64 * first_word g + unwrap_or o 0 < block_count g.bucket
    by_pick None e = below (block_count g.bucket) (first_word g) (mod-lt (g.draw / 64) (words (block_count g.bucket) some))
    by_pick (Some i) e = pick_below g.bucket (first_word g) 0 (g.draw % 64) i e

---- The lists of spans with it

-- what passes in no other span is found in it
found_new : (t : Span → Bool) (x : Span) (ys : List Span) → t x ≡ true → list_any t ys ≡ false → find t (insert_span x ys) ≡ Some x
found_new t x [] h none = rw h refl
found_new t x (y ∷ ys) h none = elim (cases_Bool (ltb x.first y.first)) [
  | inl e ↦ rw (e, h) refl
  | inr e ↦ let p = or_parts (t y) (list_any t ys) none in let n = p.0 in rw (e, n) (found_new t x ys h p.1)
]

none_over : (u : ℕ) (ys : List Span) → list_any (in_span u) ys ≡ false → list_any (λ y. is_kind y.kind kinds.Lfh && in_span u y) ys ≡ false
none_over u [] h = refl
none_over u (y ∷ ys) h = let p = or_parts (in_span u y) (list_any (in_span u) ys) h in let n = and_right (is_kind y.kind kinds.Lfh) (in_span u y) p.0 in rw n (none_over u ys p.1)

---- The acts

module _ (s : Setting) (back : BackPart) (vs : VsPart) (lfh large : List Place) (words : ℕ → ℕ) (n b q first : ℕ) (is_bucket : bucket_of n ≡ Some b) (active : vs.active b ≡ true) (range : (1 ≤ b) × (b ≤ 128))
    (none : in_hand 0 lfh ++ in_hand 0 vs.places ++ in_hand 0 back.places ++ in_hand 0 large ≡ []) (whole : are_used 4096 kinds.Back back.places back.area.spans ≡ true) (used : are_used 4096 kinds.Vs vs.places back.area.spans ≡ true)
    (fits : back_place back.area s.limits.segments (bucket_pages b) ≡ Some first) (reserved : first / 256 < back.area.reserved) (g : SearchKey) (bucket : g.bucket ≡ b) where
  abbrev x : Span
  x = lfh_span first b (s.slot 0)

  abbrev own : ℕ
  own = own_block g

  abbrev start : ℕ
  start = block_address b first own

  abbrev with_new : BackPart
  with_new = with_area back (with_span back.area x)

  below : own < block_count b
  below = subst (λ (c : ℕ). own < block_count c) bucket (own_below g (subst (λ (c : ℕ). 0 < block_count c) (sym bucket) (some_blocks b range.0 range.1)))

  page : (first ≤ start / 4096) × (start / 4096 < first + bucket_pages b)
  page = page_of b first own (some_size b range.0 range.1) below

  -- no span had the page
  outside : list_any (in_span (start / 4096)) back.area.spans ≡ false
  outside =
      let free = back_place_free back.area s.limits.segments (bucket_pages b) first fits reserved in
      outside_of back.area (start / 4096) (at (start / 4096) page.0 page.1 free)
    where
      at : (u : ℕ) → first ≤ u → u < first + bucket_pages b → AreFree back.area first (bucket_pages b) → is_free back.area u ≡ true
      at u low high free = let e : first + (u - first) ≡ u = omega arith in subst (λ (n : ℕ). is_free back.area n ≡ true) e (free (u - first) (omega arith))

  over : find (is_lfh_over start) (insert_span x back.area.spans) ≡ Some x
  over = found_new (is_lfh_over start) x back.area.spans
      (and_from (leb first (start / 4096)) (ltb (start / 4096) (first + bucket_pages b)) (le-leb first (start / 4096) page.0) (lt-ltb (start / 4096) (first + bucket_pages b) page.1))
      (none_over (start / 4096) back.area.spans outside)

  there : IsOneOf x (spans_of with_new.area b (s.slot 0))
  there = in_filtered (is_span_of b (s.slot 0)) x (insert_span x back.area.spans) (and_from (eqb b b) (eqb (s.slot 0) (s.slot 0)) (eq-eqb b b refl) (eq-eqb (s.slot 0) (s.slot 0) refl)) (made_in x back.area.spans)

  -- the other spans are as before
  whole_with : are_used 4096 kinds.Back back.places (insert_span x back.area.spans) ≡ true
  whole_with = ap (λ (ys : List Span). list_all (has_place 4096 back.places) ys) (filter-insert_span (is_of_kind kinds.Back) x back.area.spans refl) ∙ whole

  used_with : are_used 4096 kinds.Vs vs.places (insert_span x back.area.spans) ≡ true
  used_with = ap (λ (ys : List Span). list_all (has_place 4096 vs.places) ys) (filter-insert_span (is_of_kind kinds.Vs) x back.area.spans refl) ∙ used

  lies : (leb (4096 * first) start && leb (start + 16 * (block_size b / 16)) (4096 * (first + bucket_pages b))) ≡ true
  lies =
      let w = whole_granules b in
      and_from (leb (4096 * first) start) (leb (start + 16 * (block_size b / 16)) (4096 * (first + bucket_pages b))) (le-leb (4096 * first) start (low (own * block_size b)))
      (rw w (le-leb (start + block_size b) (4096 * (first + bucket_pages b)) (block_end b first own below)))
    where
      low : (k : ℕ) → 4096 * first ≤ 4096 * first + 64 + k
      low k = omega arith

  abbrev span_act : Act
  span_act = acts.Span first (bucket_pages b) kinds.Lfh b (s.slot 0)

  pub ends_span : (old : Configuration) (other : ℕ → CallState) (f : Search) (disturbed : ℕ → Bool) (history : SpanHistory) (demand : Demand) →
      let m = inside back_locked back vs lfh large words other (asking n q f) disturbed history demand in
      key_of s m b ≡ g → is_spent back.area (caller_view m 0) (key_of s m b) ≡ true → searched_once f.stage ≡ 1 → meets_demand back.area (by_zero span_act) demand ≡ true → starts_at lfh start ≡ false →
      old.state.back.places ≡ back.places → old.state.vs ≡ vs → old.state.large ≡ large → old.state.words ≡ words →
      EndsFrom s old m (calls.Alloc n plain) (replies.Address start) (with_span back.area x) (lfh_block b n (found_of x own) ∷ lfh) (hint_put history.hints b (s.slot 0) first) (q + 1)
  ends_span old other f disturbed history demand key spent counts meets clear same_places same_vs same_large same_words =
      ends_act s (calls.Alloc n plain) (replies.Address start) (λ k. OnlyLfh old k (with_span back.area x) (lfh_block b n (found_of x own) ∷ lfh) (hint_put history.hints b (s.slot 0) first) (q + 1)) m span_act refl may
      (subst Ends (sym next) ends)
    where
      m : Configuration
      m = inside back_locked back vs lfh large words other (asking n q f) disturbed history demand

      Ends : Configuration → Type 0
      Ends m = EndsFrom s old m (calls.Alloc n plain) (replies.Address start) (with_span back.area x) (lfh_block b n (found_of x own) ∷ lfh) (hint_put history.hints b (s.slot 0) first) (q + 1)

      may : may_follow s m (by_zero span_act) ≡ true
      may =
          let e = eq-eqb first first refl in
          let r = lt-ltb (first / 256) back.area.reserved reserved in
          let t = eq-eqb (s.slot 0) (s.slot 0) refl in
          let c = eq-eqb b b refl in
          let p = eq-eqb (bucket_pages b) (bucket_pages b) refl in
          rw (meets, fits, e, r, t, is_bucket, active, c, spent, p) refl

      made : Configuration
      made = inside back_locked with_new vs lfh large words (updated other 0 (asking n q f)) (asking n q (after_own_span g f first)) disturbed (put_maker history 0 first kinds.Lfh) (PlaceBy 0 x)

      next : after s m (by_zero span_act) ≡ made
      next =
          ap (λ (o : Option ℕ). inside back_locked with_new vs lfh large words (updated other 0 (asking n q f)) (step_search s 0 (asking n q f) (λ g f. after_own_span g f first) o) disturbed (put_maker history 0 first kinds.Lfh) (PlaceBy 0 x)) is_bucket
          ∙ ap (λ (g : SearchKey). inside back_locked with_new vs lfh large words (updated other 0 (asking n q f)) (asking n q (after_own_span g f first)) disturbed (put_maker history 0 first kinds.Lfh) (PlaceBy 0 x)) key

      ends : Ends made
      ends =
          ends_locked s with_new vs lfh large words n b q x own is_bucket active range none whole_with used_with there clear old (updated other 0 (asking n q f)) (after_own_span g f first) disturbed (put_maker history 0 first kinds.Lfh) (PlaceBy 0 x)
          refl refl counts over refl refl (rw lies refl) same_places same_vs same_large same_words
