-- A subsegment without places goes back under Back: the words show the rest where its tags are 0 and its hint is stored.
use Rattle.std.proofs.Common.{◌≡◌, ◌⊎◌, ℕ, ◌+◌, ◌*◌, ◌/◌, ◌%◌, ◌<◌, ◌≤◌, Bool, true, false, not, ◌&&◌, ◌==◌, List, [], ◌∷◌, set, Option, Some, None, refl, sym, ap, ◌∙◌, subst, arith, inl, inr, ⊎_elim, eqb, eq-eqb, ne_eqb}
use Rattle.std.specs.Prelude.{filter, nat_lt, nat_le, unwrap_or, option_map, is_some}
use Rattle.std.specs.List.{find, list_any, list_all}
use Rattle.std.proofs.lemmas.Bool.{cases_Bool, cases_eq, cases_lt, le-ltb, le-leb, lt-ltb, and_parts, and_from, both_ways, eqb-true, eqb-false, ltb-true, leb-true, or_cases, or_left, or_right}
use Rattle.heap_model.specs.declared.Act.TheVariants as acts
use Rattle.heap_model.specs.declared.Kind.TheVariants as kinds
use Rattle.heap_model.specs.declared.Limits.{Limits}
use Rattle.heap_model.specs.Bits.{starts_at, bits_of, is_taken}
use Rattle.heap_model.specs.Buckets.{block_count, block_address, block_size}
use Rattle.heap_model.specs.State.{Setting, Span, Place, is_caller, remove_found}
use Rattle.heap_model.specs.Backend.{in_span}
use Rattle.heap_model.specs.Ranges.{is_of_kind}
use Rattle.heap_model.specs.CallState.{Configuration}
use Rattle.heap_model.specs.Stay.{is_some_of}
use Rattle.heap_model.specs.Search.{spans_of, is_span_of, begins_at, first_of, hint_or}
use Rattle.heap_model.specs.Legal.{after, forget_hint, has_place, lies_in}
use Rattle.heap_model.proofs.ListLemmas.{filter-remove_found, is_some_of_parts}
use Rattle.heap_soundness.specs.Sound.{IsOneOf, AreInOrder, IsInLfh}
use Rattle.heap_soundness.proofs.Lists.{all_at, any_in, any_found, found_in, found_passes}
use Rattle.heap_soundness.proofs.Spans.{same_span, same_first, in_removed, removed_from}
use Rattle.lfh_buckets.proofs.Seats.{block_end}
use Rattle.claim_rule.specs.declared.views.Owed.{Owed}
use Rattle.claim_rule.specs.Shown.{AreAllShown, lfh_spans, tag_of, bitmap_word, owed_or, tag_word, hint_word, is_head, are_made_by, HasMaker, MayWantTag, MayBeOld}
use Rattle.claim_rule.specs.Entries.{entry}
use Rattle.span_steps.specs.Retires.{is_of_span, owed_by_retire}
use Rattle.claim_rule.proofs.Behind.{stays, IsBehind, IsOwedSoundly, shown_behind, locks_stay}
use Rattle.step_parts.proofs.BitmapWords.{same_word_of}
use Rattle.step_parts.proofs.FrontEnd.{IsFront, some_pages}
use Rattle.step_parts.proofs.BlockWords.{in_lfh, one_span, span_found}
use Rattle.step_parts.proofs.Filters.{into_filter, first_from, in_filter}

---- Owed words, some of which are owed no more

kept_owed : (test : Owed → Bool) (j y : ℕ) (owes : List Owed) → ((w : Owed) → w.word ≡ j → test w ≡ true) → owed_or (filter test owes) j y ≡ owed_or owes j y
kept_owed test j y [] h = refl
kept_owed test j y (w ∷ ws) h = elim (cases_Bool (eqb w.word j)) [
  | inl e ↦ let k = h w (eqb-true w.word j e) in rw k (rw e refl)
  | inr e ↦ elim (cases_Bool (test w)) [ inl g ↦ rw g (rw e (kept_owed test j y ws h)) | inr g ↦ rw g (rw e (kept_owed test j y ws h)) ]
]

gone_owed : (test : Owed → Bool) (j y : ℕ) (owes : List Owed) → ((w : Owed) → w.word ≡ j → test w ≡ false) → owed_or (filter test owes) j y ≡ y
gone_owed test j y [] h = refl
gone_owed test j y (w ∷ ws) h = elim (cases_Bool (test w)) [
  | inl g ↦
      let ne : eqb w.word j ≡ false = ne_eqb w.word j (λ e. both_ways (test w) (h w e) g) in
      rw g (rw ne (gone_owed test j y ws h))
  | inr g ↦ rw g (gone_owed test j y ws h)
]

-- where only words of the span were owed, nothing is
pub paid_by_retire : (b t first pages : ℕ) (owes : List Owed) → list_all (is_of_span b t first pages) owes ≡ true → owed_by_retire b t first pages owes ≡ []
paid_by_retire b t first pages [] h = refl
paid_by_retire b t first pages (w ∷ ws) h =
    let p = and_parts (is_of_span b t first pages w) (list_all (is_of_span b t first pages) ws) h in
    let e : not (is_of_span b t first pages w) ≡ false = ap not p.0 in
    rw e (paid_by_retire b t first pages ws p.1)

---- Spans in order, with one removed

none_left : (ys : List Span) (from first : ℕ) (z : Span) → AreInOrder from ys → IsOneOf z (remove_found (begins_at first) ys) → z.first ≡ first → ⊥
none_left [] from first z a i e = absurd i
none_left (y ∷ ys) from first z a i e = elim (cases_Bool (eqb y.first first)) [
  | inl g ↦
      let j : IsOneOf z ys = (rw g at i) in
      let k = first_from (y.first + y.pages) ys z a.2 j in
      let p = a.1 in
      let h = eqb-true y.first first g in omega arith
  | inr g ↦ by_place g (rw g at i) (none_left ys (y.first + y.pages) first z a.2)
]
  where
    by_place : eqb y.first first ≡ false → IsOneOf z (y ∷ remove_found (begins_at first) ys) → (IsOneOf z (remove_found (begins_at first) ys) → z.first ≡ first → ⊥) → ⊥
    by_place g (inl q) more = eqb-false y.first first g (ap (λ (w : Span). w.first) q ∙ e)
    by_place g (inr j) more = more j e

-- a test that the removed one does not pass finds what it found
find_kept : (test keep p : Span → Bool) (xs : List Span) → ((z : Span) → find p xs ≡ Some z → test z ≡ false) → find test (filter keep (remove_found p xs)) ≡ find test (filter keep xs)
find_kept test keep p [] h = refl
find_kept test keep p (x ∷ xs) h = elim (cases_Bool (p x)) [
  | inl e ↦ let k = h x (rw e refl) in elim (cases_Bool (keep x)) [ inl g ↦ rw (e, g, k) refl | inr g ↦ rw (e, g) refl ]
  | inr e ↦ elim (cases_Bool (keep x)) [
    | inl g ↦ elim (cases_Bool (test x)) [ inl j ↦ rw (e, g, j) refl | inr j ↦ rw (e, g, j) (find_kept test keep p xs (λ z q. h z (rw e q))) ]
    | inr g ↦ rw (e, g) (find_kept test keep p xs (λ z q. h z (rw e q)))
  ]
]

---- The words behind an Unspan

module _ (l : Limits) (s : Setting) (m : Configuration) (n first pages b t : ℕ) (fr : IsFront l m.state.back.area m.state.lfh)
    (there : IsOneOf (record { first = first; pages = pages; kind = kinds.Lfh; bucket = b; slot = t }) m.state.back.area.spans)
    (unused : has_place 4096 m.state.lfh (record { first = first; pages = pages; kind = kinds.Lfh; bucket = b; slot = t }) ≡ false)
    (held : m.state.gate.locks.back ≡ Some n) (low : 1 ≤ b) (high : b ≤ 128) (few : t < 16) (owes : List Owed) (f : IsOwedSoundly l m owes)
    (zeros : (page : ℕ) → first ≤ page → page < first + pages → owed_or owes (2182 + page) (tag_word (lfh_spans m.state.back.area) page) ≡ 0) where
  abbrev x : Span
  x = record { first = first; pages = pages; kind = kinds.Lfh; bucket = b; slot = t }

  -- what is behind the Unspan
  abbrev pub freed : Configuration
  freed = after s m (entry n (acts.Unspan first))

  -- what is owed then
  abbrev pub owes_freed : List Owed
  owes_freed = owed_by_retire b t first pages owes

  some : 0 < pages
  some = some_pages 0 m.state.back.area.spans x fr.order there

  -- the span that goes is this one
  pub found : (z : Span) → find (begins_at first) m.state.back.area.spans ≡ Some z → z ≡ x
  found z e =
      same_first 0 m.state.back.area.spans z x fr.order (found_in (begins_at first) m.state.back.area.spans z e) there
      (eqb-true z.first first (found_passes (begins_at first) m.state.back.area.spans z e))

  left : (y : Span) → IsOneOf y freed.state.back.area.spans → IsOneOf y m.state.back.area.spans × (y.first ≡ first → ⊥)
  left y i = (removed_from (begins_at first) y m.state.back.area.spans i, λ e. none_left m.state.back.area.spans 0 first y fr.order i e)

  still : (y : Span) → IsOneOf y m.state.back.area.spans → (y.first ≡ first → ⊥) → IsOneOf y freed.state.back.area.spans
  still y i ne = in_removed (begins_at first) y m.state.back.area.spans (ne_eqb y.first first ne) i

  is_it : (y : Span) → IsOneOf y m.state.back.area.spans → y.first ≡ first → y ≡ x
  is_it y i e = same_first 0 m.state.back.area.spans y x fr.order i there e

  ---- Tags

  tag_gone : (page : ℕ) → first ≤ page → page < first + pages → tag_word (lfh_spans freed.state.back.area) page ≡ 0
  tag_gone page lo hi = by (find (in_span page) (lfh_spans freed.state.back.area)) refl
    where
      by : (w : Option Span) → find (in_span page) (lfh_spans freed.state.back.area) ≡ w → unwrap_or (option_map tag_of w) 0 ≡ 0
      by None e = refl
      by (Some y) e =
          let i = in_lfh freed.state.back.area.spans y (found_in (in_span page) (lfh_spans freed.state.back.area) y e) in
          let j = left y i.0 in
          let p = and_parts _ _ (found_passes (in_span page) (lfh_spans freed.state.back.area) y e) in
          absurd (j.1 (ap (λ (z : Span). z.first) (same_span 0 m.state.back.area.spans y x page fr.order j.0 there (leb-true y.first page p.0) (ltb-true page (y.first + y.pages) p.1) lo hi)))

  out_page : (page : ℕ) → (first ≤ page → page < first + pages → ⊥) → in_span page x ≡ false
  out_page page no_page = elim (cases_Bool (in_span page x)) [
    | inl e ↦ let p = and_parts _ _ e in absurd (no_page (leb-true first page p.0) (ltb-true page (first + pages) p.1))
    | inr e ↦ e
  ]

  tag_kept : (page : ℕ) → (first ≤ page → page < first + pages → ⊥) → tag_word (lfh_spans freed.state.back.area) page ≡ tag_word (lfh_spans m.state.back.area) page
  tag_kept page away =
      ap (λ (w : Option Span). unwrap_or (option_map tag_of w) 0)
      (find_kept (in_span page) (is_of_kind kinds.Lfh) (begins_at first) m.state.back.area.spans (λ z e. ap (in_span page) (found z e) ∙ out_page page away))

  -- the words that are owed no more
  of_tag : (page : ℕ) → first ≤ page → page < first + pages → (w : Owed) → w.word ≡ 2182 + page → not (is_of_span b t first pages w) ≡ false
  of_tag page lo hi w e =
      ap not (or_right (eqb w.word (118 + 16 * b + t)) (nat_le (2182 + first) w.word && nat_lt w.word (2182 + (first + pages)))
      (and_from _ _ (le-leb (2182 + first) w.word (omega arith)) (lt-ltb w.word (2182 + (first + pages)) (omega arith))))

  of_hint : (w : Owed) → w.word ≡ 118 + 16 * b + t → not (is_of_span b t first pages w) ≡ false
  of_hint w e = ap not (or_left (eqb w.word (118 + 16 * b + t)) (nat_le (2182 + first) w.word && nat_lt w.word (2182 + (first + pages))) (eq-eqb w.word (118 + 16 * b + t) e))

  of_else : (w : Owed) → (w.word ≡ 118 + 16 * b + t → ⊥) → (2182 + first ≤ w.word → w.word < 2182 + (first + pages) → ⊥) → not (is_of_span b t first pages w) ≡ true
  of_else w no_hint no_tag = elim (cases_Bool (is_of_span b t first pages w)) [
    | inl e ↦ absurd (elim (or_cases (eqb w.word (118 + 16 * b + t)) (nat_le (2182 + first) w.word && nat_lt w.word (2182 + (first + pages))) e) [
      | inl g ↦ no_hint (eqb-true w.word (118 + 16 * b + t) g)
      | inr g ↦ let p = and_parts _ _ g in no_tag (leb-true (2182 + first) w.word p.0) (ltb-true w.word (2182 + (first + pages)) p.1)
    ])
    | inr e ↦ ap not e
  ]

  tag_here : (page y : ℕ) → first ≤ page → page < first + pages → owed_or owes_freed (2182 + page) y ≡ y
  tag_here page y lo hi = gone_owed (λ w. not (is_of_span b t first pages w)) (2182 + page) y owes (λ w e. of_tag page lo hi w e)

  tag_else : (page y : ℕ) → (first ≤ page → page < first + pages → ⊥) → owed_or owes_freed (2182 + page) y ≡ owed_or owes (2182 + page) y
  tag_else page y away = kept_owed (λ w. not (is_of_span b t first pages w)) (2182 + page) y owes (λ w e. of_else w (λ g. omega arith) (λ lo hi. away (omega arith) (omega arith)))

  tag_out : (page : ℕ) → (first ≤ page → page < first + pages → ⊥) → owed_or owes_freed (2182 + page) (tag_word (lfh_spans freed.state.back.area) page) ≡ owed_or owes (2182 + page) (tag_word (lfh_spans m.state.back.area) page)
  tag_out page away = tag_else page (tag_word (lfh_spans freed.state.back.area) page) away ∙ ap (owed_or owes (2182 + page)) (tag_kept page away)

  by_page : (P : ℕ → Type 0) (page : ℕ) → (first ≤ page → page < first + pages → P page) → ((first ≤ page → page < first + pages → ⊥) → P page) → P page
  by_page P page inside outside = elim (cases_lt page first) [
    | inl lt ↦ outside (λ lo hi. omega arith)
    | inr ge ↦ elim (cases_lt page (first + pages)) [ inl lt ↦ inside ge lt | inr le ↦ outside (λ lo hi. omega arith) ]
  ]

  tag_owed : (page : ℕ) → owed_or owes_freed (2182 + page) (tag_word (lfh_spans freed.state.back.area) page) ≡ owed_or owes (2182 + page) (tag_word (lfh_spans m.state.back.area) page)
  tag_owed page = by_page (λ page. owed_or owes_freed (2182 + page) (tag_word (lfh_spans freed.state.back.area) page) ≡ owed_or owes (2182 + page) (tag_word (lfh_spans m.state.back.area) page)) page
      (λ lo hi. tag_here page (tag_word (lfh_spans freed.state.back.area) page) lo hi ∙ (tag_gone page lo hi ∙ sym (zeros page lo hi)))
      (λ away. tag_out page away)

  ---- Hints

  other_span : (c u : ℕ) → (c ≡ b → u ≡ t → ⊥) → is_span_of c u x ≡ false
  other_span c u ne = elim (cases_Bool (is_span_of c u x)) [
    | inl e ↦ let p = and_parts (b == c) (t == u) e in absurd (ne (sym (eqb-true b c p.0)) (sym (eqb-true t u p.1)))
    | inr e ↦ e
  ]

  spans_kept : (c u : ℕ) → (c ≡ b → u ≡ t → ⊥) → spans_of freed.state.back.area c u ≡ spans_of m.state.back.area c u
  spans_kept c u ne = filter-remove_found (is_span_of c u) (begins_at first) m.state.back.area.spans (λ z e. ap (is_span_of c u) (found z e) ∙ other_span c u ne)

  -- a subsegment of another bucket or slot begins elsewhere
  elsewhere : (c u : ℕ) → (c ≡ b → u ≡ t → ⊥) → (y : Span) → IsOneOf y (spans_of m.state.back.area c u) → y.first ≡ first → ⊥
  elsewhere c u ne y i e =
      let j = in_filter (is_span_of c u) m.state.back.area.spans y i in
      both_ways (is_span_of c u x) (other_span c u ne) (sym (ap (is_span_of c u) (is_it y j.0 e)) ∙ j.1)

  forget_else : (c u : ℕ) → (m.now.span_history.hints c u ≡ Some first → ⊥) → forget_hint first m.now.span_history.hints c u ≡ m.now.span_history.hints c u
  forget_else c u ne = elim (cases_Bool (is_some_of (m.now.span_history.hints c u) first)) [
    | inl e ↦ absurd (ne (is_some_of_parts (m.now.span_history.hints c u) first e))
    | inr e ↦ rw e refl
  ]

  forget_kept : (c u : ℕ) → (c ≡ b → u ≡ t → ⊥) → forget_hint first m.now.span_history.hints c u ≡ m.now.span_history.hints c u
  forget_kept c u ne = forget_else c u (λ e.
      let w = any_found (begins_at first) (spans_of m.state.back.area c u) (f.heads c u first e) in
      elsewhere c u ne w.0 w.1 (eqb-true w.0.first first w.2))

  hint_kept : (c u : ℕ) → (c ≡ b → u ≡ t → ⊥) → hint_word freed.state.back.area freed.now.span_history c u ≡ hint_word m.state.back.area m.now.span_history c u
  hint_kept c u ne = ap (λ (z : Option ℕ × List Span). unwrap_or (hint_or z.0 (first_of z.1)) 0) (λ j. (forget_kept c u ne j, spans_kept c u ne j))

  hint_here : (y : ℕ) → owed_or owes_freed (118 + 16 * b + t) y ≡ y
  hint_here y = gone_owed (λ w. not (is_of_span b t first pages w)) (118 + 16 * b + t) y owes (λ w e. of_hint w e)

  hint_else : (c u : ℕ) → c ≤ 128 → u < 16 → (118 + 16 * b + t ≡ 118 + 16 * c + u → ⊥)
      → owed_or owes_freed (118 + 16 * c + u) (hint_word freed.state.back.area freed.now.span_history c u) ≡ owed_or owes (118 + 16 * c + u) (hint_word m.state.back.area m.now.span_history c u)
  hint_else c u hc fu ne =
      kept_owed (λ w. not (is_of_span b t first pages w)) (118 + 16 * c + u) (hint_word freed.state.back.area freed.now.span_history c u) owes (λ w e. of_else w (λ g. ne (omega arith)) (λ lo hi. omega arith))
      ∙ ap (owed_or owes (118 + 16 * c + u)) (hint_kept c u (λ p q. ne (omega arith)))

  ---- Bits

  unused_at : (p : Place) → IsOneOf p m.state.lfh → lies_in 4096 x p ≡ true → ⊥
  unused_at p i e = both_ways (has_place 4096 m.state.lfh x) unused (any_in (lies_in 4096 x) m.state.lfh p i e)

  no_block : (j : ℕ) → is_taken m.state.lfh x j ≡ false
  no_block j = elim (cases_lt j (block_count b)) [
    | inl lt ↦ elim (cases_Bool (starts_at m.state.lfh (block_address b first j))) [
      | inl e ↦ absurd (taken lt e)
      | inr e ↦ rw e (by_and (nat_lt j (block_count b)))
    ]
    | inr le ↦ rw (le-ltb j (block_count b) le) refl
  ]
    where
      by_and : (c : Bool) → (c && false) ≡ false
      by_and true = refl
      by_and false = refl

      taken : j < block_count b → starts_at m.state.lfh (block_address b first j) ≡ true → ⊥
      taken lt e =
          let w = any_found (λ p. p.start == block_address b first j) m.state.lfh e in
          let at = eqb-true w.0.start (block_address b first j) w.2 in
          let h = all_at (λ p. IsInLfh m.state.back.area.spans p.start p.granules) w.0 m.state.lfh fr.places w.1 in
          let same = (one_span l m.state.back.area m.state.lfh fr h.span x h.index j h.there h.kind there refl h.below lt (sym h.block ∙ at)).0 in
          let long : 16 * w.0.granules ≡ block_size b = h.size ∙ ap (λ (z : Span). block_size z.bucket) same in
          let end = block_end b first j lt in
          let wide = (fr.spans x there refl).pages in
          unused_at w.0 w.1 (and_from (nat_le (4096 * first) w.0.start) (nat_le (w.0.start + 16 * w.0.granules) (4096 * (first + pages)))
          (le-leb (4096 * first) w.0.start (omega arith)) (le-leb (w.0.start + 16 * w.0.granules) (4096 * (first + pages)) (omega arith)))

  bits_kept : (page w : ℕ) → bitmap_word m.state.lfh (lfh_spans freed.state.back.area) page w ≡ bitmap_word m.state.lfh (lfh_spans m.state.back.area) page w
  bits_kept page w = elim (cases_eq page first) [
    | inl e ↦
        subst (λ (y : ℕ). bitmap_word m.state.lfh (lfh_spans freed.state.back.area) y w ≡ bitmap_word m.state.lfh (lfh_spans m.state.back.area) y w) (sym e)
        (ap (λ (o : Option Span). unwrap_or (option_map (λ y. bits_of m.state.lfh y w) o) 0) none_there
        ∙ sym (ap (λ (o : Option Span). unwrap_or (option_map (λ y. bits_of m.state.lfh y w) o) 0) (span_found l m.state.back.area m.state.lfh fr x there refl) ∙ all_clear))
    | inr ne ↦ ap (λ (o : Option Span). unwrap_or (option_map (λ y. bits_of m.state.lfh y w) o) 0)
        (find_kept (begins_at page) (is_of_kind kinds.Lfh) (begins_at first) m.state.back.area.spans (λ z e. ap (begins_at page) (found z e) ∙ ne_eqb first page (λ g. ne (sym g))))
  ]
    where
      all_clear : bits_of m.state.lfh x w ≡ 0
      all_clear = same_word_of (λ j. is_taken m.state.lfh x (64 * w + j)) (λ j. false) 0 64 (λ j lo hi. no_block (64 * w + j))

      none_there : find (begins_at first) (lfh_spans freed.state.back.area) ≡ None
      none_there = by (find (begins_at first) (lfh_spans freed.state.back.area)) refl
        where
          by : (o : Option Span) → find (begins_at first) (lfh_spans freed.state.back.area) ≡ o → find (begins_at first) (lfh_spans freed.state.back.area) ≡ None
          by None u = u
          by (Some y) u =
              absurd ((left y (in_lfh freed.state.back.area.spans y (found_in (begins_at first) (lfh_spans freed.state.back.area) y u)).0).1
              (eqb-true y.first first (found_passes (begins_at first) (lfh_spans freed.state.back.area) y u)))

  ---- The words, and what is owed

  module _ (v : ℕ) (value : hint_word freed.state.back.area freed.now.span_history b t ≡ v) where
    freed_behind : IsBehind l freed m owes_freed owes (118 + 16 * b + t) v
    freed_behind = record {
      gate = stays (118 + 16 * b + t) v 1 _ _ (λ k. omega arith) refl;
      locks = locks_stay (118 + 16 * b + t) v _ _ (inr (omega arith)) refl;
      active = λ k lk. stays (118 + 16 * b + t) v (6 + k) _ _ (λ g. omega arith) refl;
      hints = λ c u lc hc fu. record {
        here = λ g.
            let sb : b ≡ c = omega arith in
            let stt : t ≡ u = omega arith in
            sym value ∙ (sym (hint_here (hint_word freed.state.back.area freed.now.span_history b t))
            ∙ ap (λ (z : ℕ × ℕ). owed_or owes_freed (118 + 16 * z.0 + z.1) (hint_word freed.state.back.area freed.now.span_history z.0 z.1)) (λ j. (sb j, stt j)));
        else = λ g. hint_else c u hc fu g;
      };
      tags = λ page lp. stays (118 + 16 * b + t) v (2182 + page) _ _ (λ g. omega arith) (tag_owed page);
      bitmaps = λ k lk. stays (118 + 16 * b + t) v (2182 + 256 * l.segments + k) _ _ (λ g. omega arith) (bits_kept (k / 4) (k % 4));
      sizes = λ k lk. stays (118 + 16 * b + t) v (2182 + 1280 * l.segments + k) _ _ (λ g. omega arith) refl;
      stored = λ k lk. stays (118 + 16 * b + t) v (2182 + 66816 * l.segments + k) _ _ (λ g. omega arith) refl;
    }

  head_left : (c u head : ℕ) → (head ≡ first → ⊥) → is_head m.state.back.area c u head ≡ true → is_head freed.state.back.area c u head ≡ true
  head_left c u head ne h =
      let w = any_found (begins_at head) (spans_of m.state.back.area c u) h in
      let i = in_filter (is_span_of c u) m.state.back.area.spans w.0 w.1 in
      any_in (begins_at head) (spans_of freed.state.back.area c u) w.0
      (into_filter (is_span_of c u) freed.state.back.area.spans w.0 (still w.0 i.0 (λ e. ne (sym (eqb-true w.0.first head w.2) ∙ e))) i.1) w.2

  heads_left : (c u head : ℕ) → freed.now.span_history.hints c u ≡ Some head → is_head freed.state.back.area c u head ≡ true
  heads_left c u head h = elim (cases_Bool (is_some_of (m.now.span_history.hints c u) first)) [
    | inl e ↦ absurd (let z : None ≡ Some head = (rw e at h) in let y : ⊥ = cc (z) in y)
    | inr e ↦
        let k : m.now.span_history.hints c u ≡ Some head = (rw e at h) in
        head_left c u head (λ g. both_ways (is_some_of (m.now.span_history.hints c u) first) e (ap (λ (o : Option ℕ). is_some_of o first) k ∙ eq-eqb head first g)) (f.heads c u head k)
  ]

  made_still : (c u d : ℕ) → (c ≡ b → u ≡ t → ⊥) → are_made_by m.state.back.area m.now.span_history d c u ≡ true → are_made_by freed.state.back.area freed.now.span_history d c u ≡ true
  made_still c u d ne h = ap (list_all (λ z. is_caller d (freed.now.span_history.makers z.first))) (spans_kept c u ne) ∙ over (spans_of m.state.back.area c u) (λ y i. i) h
    where
      over : (ys : List Span) → ((y : Span) → IsOneOf y ys → IsOneOf y (spans_of m.state.back.area c u)) → list_all (λ z. is_caller d (m.now.span_history.makers z.first)) ys ≡ true
          → list_all (λ z. is_caller d (freed.now.span_history.makers z.first)) ys ≡ true
      over [] k q = refl
      over (y ∷ ys) k q =
          let p = and_parts (is_caller d (m.now.span_history.makers y.first)) _ q in
          let away : eqb y.first first ≡ false = ne_eqb y.first first (elsewhere c u ne y (k y (inl refl))) in
          and_from (is_caller d (freed.now.span_history.makers y.first)) _ (rw away p.0) (over ys (λ z i. k z (inr i)) p.1)

  old_still : (c u word : ℕ) → (c ≡ b → u ≡ t → ⊥) → MayBeOld m c u word → MayBeOld freed c u word
  old_still c u word ne w = (
    w.0,
    w.1,
    ⊎_elim (λ (z : (word ≡ 0) × (are_made_by m.state.back.area m.now.span_history w.0 c u ≡ true)). inl (z.0, made_still c u w.0 ne z.1))
        (λ (z : is_head m.state.back.area c u word ≡ true). inr (ap (list_any (begins_at word)) (spans_kept c u ne) ∙ z)) w.2,
  )

  -- the makers of the others are those that they were
  wanting_left : (page : ℕ) → (first ≤ page → page < first + pages → ⊥) → MayWantTag m page → MayWantTag freed page
  wanting_left page away w = ⊎_elim (λ (own : is_some m.state.gate.owner ≡ true). inl own) (λ (k : HasMaker m.state.back.area m.now.span_history page). inr (others k)) w
    where
      others : HasMaker m.state.back.area m.now.span_history page → HasMaker freed.state.back.area freed.now.span_history page
      others k y e =
          let i = in_lfh freed.state.back.area.spans y (found_in (in_span page) (lfh_spans freed.state.back.area) y e) in
          let other : eqb y.first first ≡ false = ne_eqb y.first first (left y i.0).1 in
          let kept = find_kept (in_span page) (is_of_kind kinds.Lfh) (begins_at first) m.state.back.area.spans (λ z e. ap (in_span page) (found z e) ∙ out_page page away) in
          rw other (k y (sym kept ∙ e))

  freed_soundly : IsOwedSoundly l freed owes_freed
  freed_soundly = record {
    tags = λ page lp. by_page (λ page. (owed_or owes_freed (2182 + page) (tag_word (lfh_spans freed.state.back.area) page) ≡ tag_word (lfh_spans freed.state.back.area) page) ⊎ ((owed_or owes_freed (2182 + page) (tag_word (lfh_spans freed.state.back.area) page) ≡ 0) × MayWantTag freed page)) page
        (λ lo hi. inl (tag_here page (tag_word (lfh_spans freed.state.back.area) page) lo hi))
        (λ away. ⊎_elim
        (λ (z : owed_or owes (2182 + page) (tag_word (lfh_spans m.state.back.area) page) ≡ tag_word (lfh_spans m.state.back.area) page). inl (tag_out page away ∙ (z ∙ sym (tag_kept page away))))
        (λ (z : (owed_or owes (2182 + page) (tag_word (lfh_spans m.state.back.area) page) ≡ 0) × MayWantTag m page). inr (tag_out page away ∙ z.0, wanting_left page away z.1))
        (f.tags page lp));
    heads = heads_left;
    hints = λ c u lc hc fu. elim (cases_eq (118 + 16 * b + t) (118 + 16 * c + u)) [
      | inl e ↦
          let sb : b ≡ c = omega arith in
          let stt : t ≡ u = omega arith in
          inl (subst (λ (z : ℕ × ℕ). owed_or owes_freed (118 + 16 * z.0 + z.1) (hint_word freed.state.back.area freed.now.span_history z.0 z.1) ≡ hint_word freed.state.back.area freed.now.span_history z.0 z.1) (λ j. (sb j, stt j))
          (hint_here (hint_word freed.state.back.area freed.now.span_history b t)))
      | inr ne ↦
          let other : c ≡ b → u ≡ t → ⊥ = λ p q. ne (omega arith) in
          let same = hint_else c u hc fu ne in
          ⊎_elim
          (λ (z : owed_or owes (118 + 16 * c + u) (hint_word m.state.back.area m.now.span_history c u) ≡ hint_word m.state.back.area m.now.span_history c u). inl (same ∙ (z ∙ sym (hint_kept c u other))))
          (λ (z : MayBeOld m c u (owed_or owes (118 + 16 * c + u) (hint_word m.state.back.area m.now.span_history c u))). inr (subst (MayBeOld freed c u) (sym same) (old_still c u (owed_or owes (118 + 16 * c + u) (hint_word m.state.back.area m.now.span_history c u)) other z)))
          (f.hints c u lc hc fu)
    ];
    paid = λ e. absurd (let z : None ≡ Some n = sym e ∙ held in let w : ⊥ = cc (z) in w);
  }

  -- the words show the rest
  pub freed_shown : (count v : ℕ) (words : List ℕ) → hint_word freed.state.back.area freed.now.span_history b t ≡ v → AreAllShown l count m owes words → AreAllShown l count freed owes_freed (set words (118 + 16 * b + t) v)
  freed_shown count v words value h = shown_behind l count freed m owes_freed owes words (118 + 16 * b + t) v (omega arith) (omega arith) (freed_behind v value) freed_soundly h
