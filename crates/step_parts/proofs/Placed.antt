-- One place of the front end more, where its bit was 0: the words behind the claim, with Back held and without.
use Rattle.std.proofs.Common.{◌≡◌, ℕ, ◌+◌, ◌*◌, ◌/◌, ◌%◌, ◌<◌, ◌≤◌, Bool, true, false, not, ◌&&◌, ◌==◌, List, [], ◌∷◌, get_or, set, bit_or, refl, sym, ap, ◌∙◌, subst, arith, Option, Some, None, inl, inr, ⊎_elim, eqb, eq-eqb, ne_eqb}
use Rattle.std.specs.Prelude.{is_some, unwrap_or}
use Rattle.std.specs.List.{find, list_any}
use Rattle.std.proofs.lemmas.Bool.{and_parts, and_from, both_ways, cases_Bool, eqb-true, eqb-false, le-leb, lt-ltb, or_left}
use Rattle.heap_model.specs.declared.Act.{Act as Deed}
use Rattle.heap_model.specs.declared.Act.TheVariants as acts
use Rattle.heap_model.specs.declared.Kind.TheVariants as kinds
use Rattle.heap_model.specs.declared.Layer.TheVariants as layers
use Rattle.heap_model.specs.declared.Limits.{Limits}
use Rattle.heap_model.specs.declared.What.TheVariants as whats
use Rattle.heap_model.specs.Backend.{in_span}
use Rattle.heap_model.specs.Bits.{starts_at, has_bit}
use Rattle.heap_model.specs.Buckets.{block_size, block_address, block_count}
use Rattle.heap_model.specs.State.{Setting, Area, Span, Place, InHand, is_kind, is_entered, holds, updated}
use Rattle.heap_model.specs.Stay.{for_some}
use Rattle.heap_model.specs.CallState.{Configuration, SpanHistory, CallerView, CallState}
use Rattle.heap_model.specs.Search.{spans_of, is_span_of, begins_at, first_of, hint_or, request_of, may_claim}
use Rattle.heap_model.specs.Legal.{may, after, is_picked_in, is_lfh_over, put_hint}
use Rattle.heap_model.specs.Agreement.{AgreesFor}
use Rattle.heap_model.proofs.Stable.{caller_view_same, same_search}
use Rattle.heap_soundness.specs.Sound.{IsOneOf}
use Rattle.heap_soundness.proofs.Lists.{any_in, found_in, found_passes, find_some}
use Rattle.heap_soundness.proofs.Spans.{same_span}
use Rattle.serial_laws.proofs.Sorted.{none_found}
use Rattle.search_laws.proofs.Blocks.{whole_granules, some_size, number_is}
use Rattle.claim_rule.specs.declared.views.Owed.{Owed}
use Rattle.claim_rule.specs.Places.{word_count, bitmap_at, bit_of_block}
use Rattle.claim_rule.specs.Shown.{AreAllShown, lfh_spans, bitmap_word, size_word, starts_in, owed_or, tag_word, hint_word, is_head, are_made_by, HasMaker, MayWantTag, HintsAreHeads, MayBeOld}
use Rattle.claim_rule.specs.Entries.{entry}
use Rattle.step_parts.specs.Seen.{IsSeen}
use Rattle.step_parts.specs.Claims.{CanClaim, MayClaim, owed_by_place, IsUnder}
use Rattle.claim_rule.proofs.Behind.{stays, IsBehind, IsOwedSoundly, owed_soundly, shown_behind, still_owed, locks_stay}
use Rattle.step_parts.proofs.FrontEnd.{IsFront}
use Rattle.step_parts.proofs.BlockWords.{in_lfh, seat_at, words_kept, set_word, bit_here, word_at, at_below}
use Rattle.step_parts.proofs.Filters.{into_filter}
use Rattle.claim_rule.proofs.Ready.{holder_is_it}

---- Hints

hints_else : (h : ℕ → ℕ → Option ℕ) (b t : ℕ) (v : Option ℕ) (x y : ℕ) → (x ≡ b → y ≡ t → ⊥) → updated h b (updated (h b) t v) x y ≡ h x y
hints_else h b t v x y ne = elim (cases_Bool (eqb x b)) [
  | inl e ↦ elim (cases_Bool (eqb y t)) [
    | inl f ↦ absurd (ne (eqb-true x b e) (eqb-true y t f))
    | inr f ↦ rw (e, f) (ap (λ (z : ℕ). h z y) (sym (eqb-true x b e)))
  ]
  | inr e ↦ rw e refl
]

hints_here : (h : ℕ → ℕ → Option ℕ) (b t : ℕ) (v : Option ℕ) → updated h b (updated (h b) t v) b t ≡ v
hints_here h b t v = let e = eq-eqb b b refl in let f = eq-eqb t t refl in rw (e, f) refl

-- where there is a subsegment of the bucket and the slot, the hint names one
head_of_hint : (o : Option ℕ) (xs : List Span) (x : Span) → IsOneOf x xs → ((first : ℕ) → o ≡ Some first → list_any (begins_at first) xs ≡ true) → list_any (begins_at (unwrap_or (hint_or o (first_of xs)) 0)) xs ≡ true
head_of_hint (Some h) xs x i f = f h refl
head_of_hint None [] x i f = absurd i
head_of_hint None (y ∷ ys) x i f = or_left (eqb y.first y.first) _ (eq-eqb y.first y.first refl)

-- where there is a subsegment the hint names one
pub hint_head : (m : Configuration) (b t : ℕ) (x : Span) → HintsAreHeads m → IsOneOf x (spans_of m.state.back.area b t) → is_head m.state.back.area b t (hint_word m.state.back.area m.now.span_history b t) ≡ true
hint_head m b t x h i = head_of_hint (m.now.span_history.hints b t) (spans_of m.state.back.area b t) x i (h b t)

-- a word that is not the one
owed_else : (w : Owed) (owes : List Owed) (i x : ℕ) → (w.word ≡ i → ⊥) → owed_or (w ∷ owes) i x ≡ owed_or owes i x
owed_else w owes i x ne = rw (ne_eqb w.word i ne) refl

owed_here : (w : Owed) (owes : List Owed) (i x : ℕ) → w.word ≡ i → owed_or (w ∷ owes) i x ≡ w.value
owed_here w owes i x e = rw (eq-eqb w.word i e) refl

---- Lists

---- A block is placed

module _ (l : Limits) (s : Setting) (m : Configuration) (n : ℕ) (f : IsFront l m.state.back.area m.state.lfh) (x : Span) (there : IsOneOf x m.state.back.area.spans) (is : x.kind ≡ kinds.Lfh) (i : ℕ) (below : i < block_count x.bucket)
    (clear : starts_at m.state.lfh (block_address x.bucket x.first i) ≡ false) where
  abbrev pub start : ℕ
  start = block_address x.bucket x.first i

  abbrev pub placing : Deed
  placing = acts.Place start (block_size x.bucket / 16) layers.Lfh

  abbrev pub next : Configuration
  next = after s m (entry n placing)

  abbrev put : Place
  put = record { start = start; granules = block_size x.bucket / 16; layer = layers.Lfh; status = InHand n }

  kept : (b : ℕ) → (b ≡ start → ⊥) → starts_at m.state.lfh b ≡ starts_at next.state.lfh b
  kept b ne = sym (rw (ne_eqb start b (λ e. ne (sym e))) refl)

  here : starts_at next.state.lfh start ≡ true
  here = or_left (eqb start start) _ (eq-eqb start start refl)

  size_kept : (k : ℕ) → size_word next.state.lfh k ≡ size_word m.state.lfh k
  size_kept k = elim (cases_Bool (eqb start (16 * k))) [
    | inl e ↦
        let none_there : find (starts_in k) m.state.lfh ≡ None = none_found (starts_in k) m.state.lfh (ap (starts_at m.state.lfh) (sym (eqb-true start (16 * k) e)) ∙ clear) in
        rw (e, none_there) refl
    | inr e ↦ rw e refl
  ]

  -- the span of the block is the one that the place lies in
  over_it : find (is_lfh_over start) m.state.back.area.spans ≡ Some x
  over_it =
      let p = seat_at l m.state.back.area m.state.lfh f x i there is below in
      let t : is_lfh_over start x ≡ true = and_from (is_kind x.kind kinds.Lfh) (in_span (start / 4096) x) (ap (λ k. is_kind k kinds.Lfh) is) (and_from _ _ (le-leb x.first (start / 4096) p.from) (lt-ltb (start / 4096) (x.first + x.pages) p.before)) in
      let r = find_some (is_lfh_over start) m.state.back.area.spans x there t in
      let u = found_passes (is_lfh_over start) m.state.back.area.spans r.0 r.1 in
      let v = and_parts (is_kind r.0.kind kinds.Lfh) (in_span (start / 4096) r.0) u in
      let w = and_parts _ _ v.1 in
      let low = Rattle.std.proofs.lemmas.Bool.leb-true r.0.first (start / 4096) w.0 in
      let high = Rattle.std.proofs.lemmas.Bool.ltb-true (start / 4096) (r.0.first + r.0.pages) w.1 in
      r.1 ∙ ap Some (same_span 0 m.state.back.area.spans r.0 x (start / 4096) f.order (found_in (is_lfh_over start) m.state.back.area.spans r.0 r.1) there low high p.from p.before)

  -- what is remembered of spans
  history_is : (back : Bool) → holds m.state.gate n whats.Back ≡ back → next.now.span_history ≡ put_hint m.state.back.area m.now.span_history start back
  history_is back e = ap (put_hint m.state.back.area m.now.span_history start) e

  hints_is : next.now.span_history ≡ put_hint m.state.back.area m.now.span_history start true → (b t : ℕ) → next.now.span_history.hints b t ≡ updated m.now.span_history.hints x.bucket (updated (m.now.span_history.hints x.bucket) x.slot (Some x.first)) b t
  hints_is e b t = ap (λ (r : SpanHistory). r.hints b t) e ∙ ap (λ (o : Option Span). Rattle.heap_model.specs.Legal.hints_with m.now.span_history.hints o b t) over_it

  -- the word that the claim leaves
  pub word_set : (word : ℕ) → word ≡ bitmap_word m.state.lfh (lfh_spans m.state.back.area) ((4 * x.first + i / 64) / 4) ((4 * x.first + i / 64) % 4)
      → bit_or word (bit_of_block i) ≡ bitmap_word next.state.lfh (lfh_spans m.state.back.area) ((4 * x.first + i / 64) / 4) ((4 * x.first + i / 64) % 4)
  word_set word e =
      ap (λ (w : ℕ). bit_or w (bit_of_block i)) (e ∙ word_at l m.state.back.area m.state.lfh f x there is i below next.state.lfh kept m.state.lfh)
      ∙ (set_word l m.state.back.area m.state.lfh f x there is i below next.state.lfh kept here
      ∙ sym (word_at l m.state.back.area m.state.lfh f x there is i below next.state.lfh kept next.state.lfh))

  -- what is owed then
  abbrev pub owes_now : Bool → List Owed → List Owed
  owes_now back owes = owed_by_place back x.bucket x.slot (owed_or owes (118 + 16 * x.bucket + x.slot) (hint_word m.state.back.area m.now.span_history x.bucket x.slot)) owes

  behind_by : (back : Bool) (owes : List Owed) (word : ℕ) → word ≡ bitmap_word m.state.lfh (lfh_spans m.state.back.area) ((4 * x.first + i / 64) / 4) ((4 * x.first + i / 64) % 4)
      → ((b t : ℕ) → 1 ≤ b → b ≤ 128 → t < 16 → owed_or (owes_now back owes) (118 + 16 * b + t) (hint_word m.state.back.area next.now.span_history b t) ≡ owed_or owes (118 + 16 * b + t) (hint_word m.state.back.area m.now.span_history b t))
      → ((page tag : ℕ) → owed_or (owes_now back owes) (2182 + page) tag ≡ owed_or owes (2182 + page) tag)
      → IsBehind l next m (owes_now back owes) owes (bitmap_at l x.first i) (bit_or word (bit_of_block i))
  behind_by back owes word e hints tags =
      let below_at = at_below l m.state.back.area m.state.lfh f x there is i below next.state.lfh kept in
      let at : ℕ = bitmap_at l x.first i in
      let v : ℕ = bit_or word (bit_of_block i) in
      record {
        gate = stays at v 1 _ _ (λ k. omega arith) refl;
        locks = locks_stay at v _ _ (inr (omega arith)) refl;
        active = λ k lk. stays at v (6 + k) _ _ (λ g. omega arith) refl;
        hints = λ b t lb hb ft. stays at v (118 + 16 * b + t) _ _ (λ g. omega arith) (hints b t lb hb ft);
        tags = λ page lp. stays at v (2182 + page) _ _ (λ g. omega arith) (tags page _);
        bitmaps = λ k lk. record {
          here = λ g. let same : 4 * x.first + i / 64 ≡ k = omega arith in subst (λ (z : ℕ). v ≡ bitmap_word next.state.lfh (lfh_spans m.state.back.area) (z / 4) (z % 4)) same (word_set word e);
          else = λ g. sym (words_kept l m.state.back.area m.state.lfh f x there is i below next.state.lfh kept (k / 4) (k % 4) (omega arith) (λ z. g (omega arith)));
        };
        sizes = λ k lk. stays at v (2182 + 1280 * l.segments + k) _ _ (λ g. omega arith) (size_kept k);
        stored = λ k lk. stays at v (2182 + 66816 * l.segments + k) _ _ (λ g. omega arith) refl;
      }

  hint_of : (b t : ℕ) (v : Option ℕ) → next.now.span_history.hints b t ≡ v → hint_word m.state.back.area next.now.span_history b t ≡ unwrap_or (hint_or v (first_of (spans_of m.state.back.area b t))) 0
  hint_of b t v e = ap (λ (o : Option ℕ). unwrap_or (hint_or o (first_of (spans_of m.state.back.area b t))) 0) e

  among : IsOneOf x (spans_of m.state.back.area x.bucket x.slot)
  among = into_filter (is_span_of x.bucket x.slot) m.state.back.area.spans x there
      (and_from (is_kind x.kind kinds.Lfh && x.bucket == x.bucket) (x.slot == x.slot) (and_from (is_kind x.kind kinds.Lfh) (x.bucket == x.bucket) (ap (λ k. is_kind k kinds.Lfh) is) (eq-eqb x.bucket x.bucket refl)) (eq-eqb x.slot x.slot refl))

  ---- Without Back

  -- the parts of the words
  pub behind_free : (owes : List Owed) (word : ℕ) → holds m.state.gate n whats.Back ≡ false → word ≡ bitmap_word m.state.lfh (lfh_spans m.state.back.area) ((4 * x.first + i / 64) / 4) ((4 * x.first + i / 64) % 4)
      → IsBehind l next m owes owes (bitmap_at l x.first i) (bit_or word (bit_of_block i))
  behind_free owes word b e = behind_by false owes word e (λ c t lc hc ft. ap (λ (r : SpanHistory). owed_or owes (118 + 16 * c + t) (hint_word m.state.back.area r c t)) (history_is false b)) (λ page tag. refl)

  -- what is owed
  pub sound_free : (owes : List Owed) → holds m.state.gate n whats.Back ≡ false → IsOwedSoundly l m owes → IsOwedSoundly l next owes
  sound_free owes b h = still_owed l next m owes refl (history_is false b) refl refl h

  ---- Under Back

  module _ (slots : x.slot < 16) (mine : holds m.state.gate n whats.Back ≡ true) (owes : List Owed) where
    abbrev at_hint : ℕ
    at_hint = 118 + 16 * x.bucket + x.slot

    abbrev owed_word : Owed
    owed_word = record { word = 118 + 16 * x.bucket + x.slot; value = owed_or owes (118 + 16 * x.bucket + x.slot) (hint_word m.state.back.area m.now.span_history x.bucket x.slot) }

    hint_kept : (b t : ℕ) → (b ≡ x.bucket → t ≡ x.slot → ⊥) → hint_word m.state.back.area next.now.span_history b t ≡ hint_word m.state.back.area m.now.span_history b t
    hint_kept b t ne = hint_of b t (m.now.span_history.hints b t) (hints_is (history_is true mine) b t ∙ hints_else m.now.span_history.hints x.bucket x.slot (Some x.first) b t ne)

    hint_owed : (b t : ℕ) → t < 16 → owed_or (owed_word ∷ owes) (118 + 16 * b + t) (hint_word m.state.back.area next.now.span_history b t) ≡ owed_or owes (118 + 16 * b + t) (hint_word m.state.back.area m.now.span_history b t)
    hint_owed b t ft = elim (cases_Bool (eqb (118 + 16 * x.bucket + x.slot) (118 + 16 * b + t))) [
      | inl e ↦
          let at = eqb-true (118 + 16 * x.bucket + x.slot) (118 + 16 * b + t) e in
          let sb : x.bucket ≡ b = omega arith in
          let stt : x.slot ≡ t = omega arith in
          rw e (ap (λ (z : ℕ × ℕ). owed_or owes (118 + 16 * z.0 + z.1) (hint_word m.state.back.area m.now.span_history z.0 z.1)) (λ j. (sb j, stt j)))
      | inr e ↦
          let ne = eqb-false (118 + 16 * x.bucket + x.slot) (118 + 16 * b + t) e in
          rw e (ap (owed_or owes (118 + 16 * b + t)) (hint_kept b t (λ p q. ne (omega arith))))
    ]

    tag_owed : (page tag : ℕ) → owed_or (owed_word ∷ owes) (2182 + page) tag ≡ owed_or owes (2182 + page) tag
    tag_owed page tag = let few = (f.spans x there is).bucket.1 in owed_else owed_word owes (2182 + page) tag (λ e. omega arith)

    -- the parts of the words
    pub behind_under : (word : ℕ) → word ≡ bitmap_word m.state.lfh (lfh_spans m.state.back.area) ((4 * x.first + i / 64) / 4) ((4 * x.first + i / 64) % 4)
        → IsBehind l next m (owes_now true owes) owes (bitmap_at l x.first i) (bit_or word (bit_of_block i))
    behind_under word e = behind_by true owes word e (λ b t lb hb ft. hint_owed b t ft) tag_owed

    holder : m.state.gate.locks.back ≡ Some n
    holder = holder_is_it n m.state.gate.locks.back mine

    heads_after : HintsAreHeads m → HintsAreHeads next
    heads_after h b t first e = elim (cases_Bool (eqb b x.bucket && eqb t x.slot)) [
      | inl g ↦
          let p = and_parts (eqb b x.bucket) (eqb t x.slot) g in
          let sb = eqb-true b x.bucket p.0 in
          let stt = eqb-true t x.slot p.1 in
          let same : Some x.first ≡ Some first = sym (hints_here m.now.span_history.hints x.bucket x.slot (Some x.first)) ∙ (ap (λ (z : ℕ × ℕ). updated m.now.span_history.hints x.bucket (updated (m.now.span_history.hints x.bucket) x.slot (Some x.first)) z.0 z.1) (λ j. (sym sb j, sym stt j)) ∙ (sym (hints_is (history_is true mine) b t) ∙ e)) in
          let at : x.first ≡ first = cc (same) in
          subst (λ (z : ℕ × (ℕ × ℕ)). is_head m.state.back.area z.0 z.1.0 z.1.1 ≡ true) (λ j. (sym sb j, (sym stt j, at j)))
          (any_in (begins_at x.first) (spans_of m.state.back.area x.bucket x.slot) x among (eq-eqb x.first x.first refl))
      | inr g ↦ h b t first (sym (hints_else m.now.span_history.hints x.bucket x.slot (Some x.first) b t (λ p q. both_ways (eqb b x.bucket && eqb t x.slot) g (and_from (eqb b x.bucket) (eqb t x.slot) (eq-eqb b x.bucket p) (eq-eqb t x.slot q)))) ∙ (sym (hints_is (history_is true mine) b t) ∙ e))
    ]

    -- who made which subsegment stays
    old_kept : (b t word : ℕ) → MayBeOld m b t word → MayBeOld next b t word
    old_kept b t word w = (
      w.0,
      w.1,
      ⊎_elim (λ (z : (word ≡ 0) × (are_made_by m.state.back.area m.now.span_history w.0 b t ≡ true)). inl (z.0, ap (λ (r : SpanHistory). are_made_by m.state.back.area r w.0 b t) (history_is true mine) ∙ z.1)) (λ (z : is_head m.state.back.area b t word ≡ true). inr z) w.2,
    )

    wanting_kept : (page : ℕ) → MayWantTag m page → MayWantTag next page
    wanting_kept page w = ⊎_elim (λ (own : is_some m.state.gate.owner ≡ true). inl own)
        (λ (k : HasMaker m.state.back.area m.now.span_history page). inr (λ y e. ap (λ (r : SpanHistory). is_some (r.makers y.first)) (history_is true mine) ∙ k y e)) w

    -- what is owed
    pub sound_under : IsOwedSoundly l m owes → IsOwedSoundly l next (owes_now true owes)
    sound_under h = record {
      tags = λ page lp.
          let e = tag_owed page (tag_word (lfh_spans m.state.back.area) page) in
          ⊎_elim (λ (z : owed_or owes (2182 + page) (tag_word (lfh_spans m.state.back.area) page) ≡ tag_word (lfh_spans m.state.back.area) page). inl (e ∙ z)) (λ (z : (owed_or owes (2182 + page) (tag_word (lfh_spans m.state.back.area) page) ≡ 0) × MayWantTag m page). inr (e ∙ z.0, wanting_kept page z.1)) (h.tags page lp);
      heads = heads_after h.heads;
      hints = λ b t lb hb ft. elim (cases_Bool (eqb b x.bucket && eqb t x.slot)) [
        | inl g ↦
            let p = and_parts (eqb b x.bucket) (eqb t x.slot) g in
            let sb = eqb-true b x.bucket p.0 in
            let stt = eqb-true t x.slot p.1 in
            inr (subst (MayBeOld next b t) (sym (hint_owed b t ft)) (⊎_elim
            (λ (z : owed_or owes (118 + 16 * b + t) (hint_word m.state.back.area m.now.span_history b t) ≡ hint_word m.state.back.area m.now.span_history b t). (
              n,
              holder,
              inr (subst (λ (y : ℕ). is_head m.state.back.area b t y ≡ true) (sym z)
                  (subst (λ (y : ℕ × ℕ). is_head m.state.back.area y.0 y.1 (hint_word m.state.back.area m.now.span_history y.0 y.1) ≡ true) (λ j. (sym sb j, sym stt j)) (hint_head m x.bucket x.slot x h.heads among))),
            ))
            (λ (z : MayBeOld m b t (owed_or owes (118 + 16 * b + t) (hint_word m.state.back.area m.now.span_history b t))). old_kept b t (owed_or owes (118 + 16 * b + t) (hint_word m.state.back.area m.now.span_history b t)) z)
            (h.hints b t lb hb ft)))
        | inr g ↦
            let same = hint_kept b t (λ p q. both_ways (eqb b x.bucket && eqb t x.slot) g (and_from (eqb b x.bucket) (eqb t x.slot) (eq-eqb b x.bucket p) (eq-eqb t x.slot q))) in
            ⊎_elim
            (λ (z : owed_or owes (118 + 16 * b + t) (hint_word m.state.back.area m.now.span_history b t) ≡ hint_word m.state.back.area m.now.span_history b t). inl (hint_owed b t ft ∙ (z ∙ sym same)))
            (λ (z : MayBeOld m b t (owed_or owes (118 + 16 * b + t) (hint_word m.state.back.area m.now.span_history b t))). inr (subst (MayBeOld next b t) (sym (hint_owed b t ft)) (old_kept b t (owed_or owes (118 + 16 * b + t) (hint_word m.state.back.area m.now.span_history b t)) z)))
            (h.hints b t lb hb ft)
      ];
      paid = λ e. absurd (let z : None ≡ Some n = sym e ∙ holder in let w : ⊥ = cc (z) in w);
    }

---- The law

-- what a caller may claim in what it knows it may claim in the history
pub claim_same : (s : Setting) (n head b t i : ℕ) (m k : Configuration) → (r : AgreesFor n m k) → (IsSeen k head b t → IsSeen m head b t) → MayClaim s k n head b t i → CanClaim s m n head b t i
claim_same s n head b t i m k r seen h =
    let v = caller_view_same n m k r in
    record {
      begun = ap (λ (c : CallState). is_some c.call) r.call ∙ h.can.begun;
      inside = ap (λ (x : CallerView). x.entered) v ∙ h.can.inside;
      seeks = same_search s n m k r h.old b h.can.seeks ∙ h.can.seeks;
      slot = h.can.slot;
      picked = ap (λ (c : CallState). may_claim c.search head i) r.call ∙ h.can.picked;
      seen = seen h.can.seen;
      below = h.can.below;
    }

-- whether Back is held, what the hint is then, and that nothing is owed
pub under_same : (n b t hint : ℕ) (back : Bool) (owes : List Owed) (m k : Configuration) → AgreesFor n m k → IsUnder k n b t back hint owes → IsUnder m n b t back hint owes
under_same n b t hint back owes m k r h = record {
  holds_it = r.locks whats.Back ∙ h.holds_it;
  hint_is = λ e. ap (λ (z : Area × SpanHistory). owed_or owes (118 + 16 * b + t) (hint_word z.0 z.1 b t)) (λ j. ((r.back (h.holds_it ∙ e) j).area, r.span_history (h.holds_it ∙ e) j)) ∙ h.hint_is e;
}

module _ (l : Limits) (made : ℕ) (s : Setting) (m : Configuration) (n i : ℕ) (back : Bool) (owes : List Owed) (words : List ℕ) where
  -- the block may be placed, and the words show it
  pub record IsPlaced (hint head b t : ℕ) : Type 0 where
    pub ok : may s m n (acts.Place (block_address b head i) (block_size b / 16) layers.Lfh) ≡ true
    pub shown : AreAllShown l made (after s m (entry n (acts.Place (block_address b head i) (block_size b / 16) layers.Lfh))) (owed_by_place back b t hint owes)
        (set words (bitmap_at l head i) (bit_or (get_or words (bitmap_at l head i) 0) (bit_of_block i)))

  -- another has the block, and the word stays as it was
  pub record IsLost (head b : ℕ) : Type 0 where
    pub ok : may s m n (acts.Lost head i) ≡ true
    pub same : bit_or (get_or words (bitmap_at l head i) 0) (bit_of_block i) ≡ get_or words (bitmap_at l head i) 0

  module _ (f : IsFront l m.state.back.area m.state.lfh) (shown : AreAllShown l made m owes words) (x : Span) (there : IsOneOf x m.state.back.area.spans) (is : x.kind ≡ kinds.Lfh) where
    word_found : i < block_count x.bucket → get_or words (bitmap_at l x.first i) 0 ≡ bitmap_word m.state.lfh (lfh_spans m.state.back.area) ((4 * x.first + i / 64) / 4) ((4 * x.first + i / 64) % 4)
    word_found below = shown.lfh.bitmaps (4 * x.first + i / 64) (at_below l m.state.back.area m.state.lfh f x there is i below m.state.lfh (λ b ne. refl))

    bit_found : i < block_count x.bucket → has_bit (get_or words (bitmap_at l x.first i) 0) (i % 64) ≡ starts_at m.state.lfh (block_address x.bucket x.first i)
    bit_found below =
        ap (λ (w : ℕ). has_bit w (i % 64)) (word_found below ∙ word_at l m.state.back.area m.state.lfh f x there is i below m.state.lfh (λ b ne. refl) m.state.lfh)
        ∙ bit_here l m.state.back.area m.state.lfh f x there is i below m.state.lfh (λ b ne. refl)

    place_ok : i < block_count x.bucket → is_entered m.state.gate n ≡ true → (request_of s m n).search ≡ Some x.bucket → s.slot n ≡ x.slot → may_claim (m.now.calls n).search x.first i ≡ true → starts_at m.state.lfh (block_address x.bucket x.first i) ≡ false
        → may s m n (acts.Place (block_address x.bucket x.first i) (block_size x.bucket / 16) layers.Lfh) ≡ true
    place_ok below inside seeks slot picked clear =
        and_from (is_entered m.state.gate n && not (starts_at m.state.lfh start)) _
        (and_from (is_entered m.state.gate n) (not (starts_at m.state.lfh start)) inside (ap not clear))
        (ap (λ (o : Option ℕ). for_some o (λ b. list_any (is_picked_in b (m.now.calls n).search start (block_size x.bucket / 16)) (spans_of m.state.back.area b (s.slot n)))) seeks
        ∙ (ap (λ (t : ℕ). list_any (is_picked_in x.bucket (m.now.calls n).search start (block_size x.bucket / 16)) (spans_of m.state.back.area x.bucket t)) slot
        ∙ any_in (is_picked_in x.bucket (m.now.calls n).search start (block_size x.bucket / 16)) (spans_of m.state.back.area x.bucket x.slot) x among it))
      where
        start : ℕ
        start = block_address x.bucket x.first i

        among : IsOneOf x (spans_of m.state.back.area x.bucket x.slot)
        among = into_filter (is_span_of x.bucket x.slot) m.state.back.area.spans x there
            (and_from (is_kind x.kind kinds.Lfh && x.bucket == x.bucket) (x.slot == x.slot) (and_from (is_kind x.kind kinds.Lfh) (x.bucket == x.bucket) (ap (λ k. is_kind k kinds.Lfh) is) (eq-eqb x.bucket x.bucket refl)) (eq-eqb x.slot x.slot refl))

        Claim : ℕ → Type 0
        Claim j = (may_claim (m.now.calls n).search x.first j && start == block_address x.bucket x.first j && 16 * (block_size x.bucket / 16) == block_size x.bucket) ≡ true

        it : is_picked_in x.bucket (m.now.calls n).search start (block_size x.bucket / 16) x ≡ true
        it =
            let b = (f.spans x there is).bucket in
            subst Claim (sym (number_is x.bucket x.first i (some_size x.bucket b.0 b.1)))
            (and_from _ (16 * (block_size x.bucket / 16) == block_size x.bucket) (and_from (may_claim (m.now.calls n).search x.first i) (start == block_address x.bucket x.first i) picked (eq-eqb start (block_address x.bucket x.first i) refl)) (eq-eqb (16 * (block_size x.bucket / 16)) (block_size x.bucket) (whole_granules x.bucket)))

    wide : i < block_count x.bucket → bitmap_at l x.first i < word_count l
    wide below = let a = at_below l m.state.back.area m.state.lfh f x there is i below m.state.lfh (λ b ne. refl) in omega arith

    placed_at : CanClaim s m n x.first x.bucket x.slot i → (b : Bool) → b ≡ back → x.slot < 16 → IsUnder m n x.bucket x.slot back (owed_or owes (118 + 16 * x.bucket + x.slot) (hint_word m.state.back.area m.now.span_history x.bucket x.slot)) owes → starts_at m.state.lfh (block_address x.bucket x.first i) ≡ false
        → IsPlaced (owed_or owes (118 + 16 * x.bucket + x.slot) (hint_word m.state.back.area m.now.span_history x.bucket x.slot)) x.first x.bucket x.slot
    placed_at c b e ft u clear = record {
      ok = place_ok c.below c.inside c.seeks c.slot c.picked clear;
      shown = by_back b e;
    }
      where
        word : ℕ
        word = get_or words (bitmap_at l x.first i) 0

        by_back : (b : Bool) → b ≡ back → AreAllShown l made (next l s m n f x there is i c.below clear) (owed_by_place back x.bucket x.slot (owed_or owes (118 + 16 * x.bucket + x.slot) (hint_word m.state.back.area m.now.span_history x.bucket x.slot)) owes) (set words (bitmap_at l x.first i) (bit_or word (bit_of_block i)))
        by_back true e = subst (λ (z : Bool). AreAllShown l made (next l s m n f x there is i c.below clear) (owed_by_place z x.bucket x.slot (owed_or owes (118 + 16 * x.bucket + x.slot) (hint_word m.state.back.area m.now.span_history x.bucket x.slot)) owes) (set words (bitmap_at l x.first i) (bit_or word (bit_of_block i)))) e
            (shown_behind l made (next l s m n f x there is i c.below clear) m _ owes words (bitmap_at l x.first i) (bit_or word (bit_of_block i)) (omega arith) (wide c.below)
            (behind_under l s m n f x there is i c.below clear ft (u.holds_it ∙ sym e) owes word (word_found c.below))
            (sound_under l s m n f x there is i c.below clear ft (u.holds_it ∙ sym e) owes (owed_soundly l made m owes words shown)) shown)
        by_back false e = subst (λ (z : Bool). AreAllShown l made (next l s m n f x there is i c.below clear) (owed_by_place z x.bucket x.slot (owed_or owes (118 + 16 * x.bucket + x.slot) (hint_word m.state.back.area m.now.span_history x.bucket x.slot)) owes) (set words (bitmap_at l x.first i) (bit_or word (bit_of_block i)))) e
            (shown_behind l made (next l s m n f x there is i c.below clear) m owes owes words (bitmap_at l x.first i) (bit_or word (bit_of_block i)) (omega arith) (wide c.below)
            (behind_free l s m n f x there is i c.below clear owes word (u.holds_it ∙ sym e) (word_found c.below))
            (sound_free l s m n f x there is i c.below clear owes (u.holds_it ∙ sym e) (owed_soundly l made m owes words shown)) shown)

    lost_at : CanClaim s m n x.first x.bucket x.slot i → starts_at m.state.lfh (block_address x.bucket x.first i) ≡ true → IsLost x.first x.bucket
    lost_at c taken = record {
      ok = and_from (is_entered m.state.gate n) _ c.inside
          (ap (λ (o : Option ℕ). for_some o (λ b. may_claim (m.now.calls n).search x.first i && starts_at m.state.lfh (block_address b x.first i))) c.seeks
          ∙ and_from (may_claim (m.now.calls n).search x.first i) (starts_at m.state.lfh (block_address x.bucket x.first i)) c.picked taken);
      same =
          let w = word_found c.below ∙ word_at l m.state.back.area m.state.lfh f x there is i c.below m.state.lfh (λ b ne. refl) m.state.lfh in
          ap (λ (z : ℕ). bit_or z (bit_of_block i)) w ∙ (set_word l m.state.back.area m.state.lfh f x there is i c.below m.state.lfh (λ b ne. refl) taken ∙ sym w);
    }

    placed_from : (hint : ℕ) → CanClaim s m n x.first x.bucket x.slot i → x.slot < 16 → IsUnder m n x.bucket x.slot back hint owes → starts_at m.state.lfh (block_address x.bucket x.first i) ≡ false → IsPlaced hint x.first x.bucket x.slot
    placed_from hint c ft u clear = by_back back refl
      where
        own : ℕ
        own = owed_or owes (118 + 16 * x.bucket + x.slot) (hint_word m.state.back.area m.now.span_history x.bucket x.slot)

        it : IsPlaced own x.first x.bucket x.slot
        it = placed_at c back refl ft (record { holds_it = u.holds_it; hint_is = λ e. refl }) clear

        by_back : (b : Bool) → b ≡ back → IsPlaced hint x.first x.bucket x.slot
        by_back true e = subst (λ (h : ℕ). IsPlaced h x.first x.bucket x.slot) (u.hint_is (sym e)) it
        by_back false e =
            let same : owed_by_place back x.bucket x.slot own owes ≡ owed_by_place back x.bucket x.slot hint owes = ap (λ (z : Bool). owed_by_place z x.bucket x.slot own owes) (sym e) ∙ ap (λ (z : Bool). owed_by_place z x.bucket x.slot hint owes) e in
            record {
              ok = it.ok;
              shown = subst (λ (z : List Owed). AreAllShown l made (after s m (entry n (acts.Place (block_address x.bucket x.first i) (block_size x.bucket / 16) layers.Lfh))) z (set words (bitmap_at l x.first i) (bit_or (get_or words (bitmap_at l x.first i) 0) (bit_of_block i)))) same it.shown;
            }

  module _ (f : IsFront l m.state.back.area m.state.lfh) (shown : AreAllShown l made m owes words) (head b t : ℕ) (c : CanClaim s m n head b t i) where
    abbrev x : Span
    x = c.seen.span

    inside : IsOneOf x m.state.back.area.spans × (x.kind ≡ kinds.Lfh)
    inside = in_lfh m.state.back.area.spans x c.seen.there

    turn : (P : ℕ × (ℕ × ℕ) → Type 0) → P (x.first, (x.bucket, x.slot)) → P (head, (b, t))
    turn P p = subst P (λ j. (c.seen.begins j, (c.seen.bucket j, c.seen.slot j))) p

    -- where the bit was 0
    pub placed : (hint : ℕ) → t < 16 → IsUnder m n b t back hint owes → starts_at m.state.lfh (block_address b head i) ≡ false → IsPlaced hint head b t
    placed hint =
        turn (λ z. CanClaim s m n z.0 z.1.0 z.1.1 i → z.1.1 < 16 → IsUnder m n z.1.0 z.1.1 back hint owes → starts_at m.state.lfh (block_address z.1.0 z.0 i) ≡ false → IsPlaced hint z.0 z.1.0 z.1.1)
        (λ d ft u clear. placed_from f shown x inside.0 inside.1 hint d ft u clear) c

    -- where it was 1
    pub lost : starts_at m.state.lfh (block_address b head i) ≡ true → IsLost head b
    lost = turn (λ z. CanClaim s m n z.0 z.1.0 z.1.1 i → starts_at m.state.lfh (block_address z.1.0 z.0 i) ≡ true → IsLost z.0 z.1.0) (λ d taken. lost_at f shown x inside.0 inside.1 d taken) c

    -- the bit tells whether a block begins there
    pub bit_is : has_bit (get_or words (bitmap_at l head i) 0) (i % 64) ≡ starts_at m.state.lfh (block_address b head i)
    bit_is = turn (λ z. i < block_count z.1.0 → has_bit (get_or words (bitmap_at l z.0 i) 0) (i % 64) ≡ starts_at m.state.lfh (block_address z.1.0 z.0 i)) (λ below. bit_found f shown x inside.0 inside.1 below) c.below
