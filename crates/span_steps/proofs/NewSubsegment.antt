-- A subsegment is made under Back: the words show it where its tags and its hint are owed.
use Rattle.std.proofs.Common.{◌≡◌, ◌⊎◌, ℕ, zero, suc, ◌+◌, ◌*◌, ◌/◌, ◌%◌, ◌<◌, ◌≤◌, Bool, true, false, ◌&&◌, ◌==◌, List, [], ◌∷◌, set, Option, Some, None, refl, sym, ap, ◌∙◌, subst, arith, inl, inr, ⊎_elim, eqb, eq-eqb, ne_eqb}
use Rattle.std.specs.Prelude.{filter, nat_lt, unwrap_or, option_map, is_some}
use Rattle.std.specs.List.{find, list_any, list_all}
use Rattle.std.proofs.lemmas.Bool.{cases_Bool, cases_eq, cases_lt, le-ltb, and_parts, and_from, both_ways, eqb-true, eqb-false, ltb-true, leb-true, false≢true}
use Rattle.std.proofs.lemmas.List.{set-get_or}
use Rattle.heap_model.specs.declared.Act.TheVariants as acts
use Rattle.heap_model.specs.declared.Kind.TheVariants as kinds
use Rattle.heap_model.specs.declared.Limits.{Limits}
use Rattle.heap_model.specs.Bits.{starts_at, bits_of, is_taken}
use Rattle.heap_model.specs.Buckets.{block_count, block_address}
use Rattle.heap_model.specs.State.{Setting, Span, is_caller, insert_span, gate_word}
use Rattle.heap_model.specs.Backend.{in_span}
use Rattle.heap_model.specs.Ranges.{is_of_kind}
use Rattle.heap_model.specs.CallState.{Configuration}
use Rattle.heap_model.specs.Search.{spans_of, is_span_of, begins_at, first_of, hint_or}
use Rattle.heap_model.specs.Legal.{after}
use Rattle.heap_model.proofs.ListLemmas.{filter-insert_span}
use Rattle.heap_soundness.specs.Sound.{IsOneOf, AreInOrder, IsInLfh}
use Rattle.heap_soundness.proofs.Lists.{all_at, any_in, any_found, found_in, found_passes, find_some}
use Rattle.claim_rule.specs.declared.views.Owed.{Owed}
use Rattle.claim_rule.specs.Shown.{AreAllShown, lfh_spans, tag_of, bitmap_word, owed_or, tag_word, hint_word, is_head, are_made_by, HasMaker, MayWantTag, MayBeOld}
use Rattle.claim_rule.specs.Entries.{entry}
use Rattle.lfh_buckets.proofs.Seats.{block_seat}
use Rattle.span_steps.specs.Installs.{owed_tags, owed_by_span}
use Rattle.claim_rule.proofs.Behind.{stays, IsBehind, IsOwedSoundly, shown_behind, locks_stay}
use Rattle.step_parts.proofs.BitmapWords.{same_word_of}
use Rattle.step_parts.proofs.FrontEnd.{IsFront, IsFrontSpan, some_pages}
use Rattle.step_parts.proofs.BlockWords.{in_lfh, into_lfh, seat_at}
use Rattle.step_parts.proofs.Filters.{into_filter, first_from, in_filter}
use Rattle.step_parts.proofs.Placed.{hint_head}

---- Owed words

-- the tags of the new pages are owed
pub tags_here : (first k page y : ℕ) (owes : List Owed) → first ≤ page → page < first + k → owed_or (owed_tags first k owes) (2182 + page) y ≡ 0
tags_here first zero page y owes low high = absurd (omega arith)
tags_here first (suc k) page y owes low high = elim (cases_Bool (eqb (2182 + (first + k)) (2182 + page))) [
  | inl e ↦ rw e refl
  | inr e ↦ let ne = eqb-false (2182 + (first + k)) (2182 + page) e in rw e (tags_here first k page y owes low (omega arith))
]

tags_else : (first k j y : ℕ) (owes : List Owed) → ((page : ℕ) → first ≤ page → page < first + k → j ≡ 2182 + page → ⊥) → owed_or (owed_tags first k owes) j y ≡ owed_or owes j y
tags_else first zero j y owes away = refl
tags_else first (suc k) j y owes away =
    let ne : eqb (2182 + (first + k)) j ≡ false = ne_eqb (2182 + (first + k)) j (λ e. away (first + k) (omega arith) (omega arith) (sym e)) in
    rw ne (tags_else first k j y owes (λ page low high e. away page low (omega arith) e))

---- Spans in order, with one inserted

-- the new span is there
pub in_inserted : (x : Span) (ys : List Span) → IsOneOf x (insert_span x ys)
in_inserted x [] = inl refl
in_inserted x (y ∷ ys) = elim (cases_Bool (nat_lt x.first y.first)) [ inl e ↦ rw e (inl refl) | inr e ↦ rw e (inr (in_inserted x ys)) ]

still_in : (x : Span) (ys : List Span) (z : Span) → IsOneOf z ys → IsOneOf z (insert_span x ys)
still_in x [] z i = absurd i
still_in x (y ∷ ys) z (inl e) = elim (cases_Bool (nat_lt x.first y.first)) [ inl f ↦ rw f (inr (inl e)) | inr f ↦ rw f (inl e) ]
still_in x (y ∷ ys) z (inr i) = elim (cases_Bool (nat_lt x.first y.first)) [ inl f ↦ rw f (inr (inr i)) | inr f ↦ rw f (inr (still_in x ys z i)) ]

-- the new one shares no page with another
beside : (from : ℕ) (x : Span) (ys : List Span) (z : Span) → AreInOrder from (insert_span x ys) → IsOneOf z ys → (x.first + x.pages ≤ z.first) ⊎ (z.first + z.pages ≤ x.first)
beside from x [] z a i = absurd i
beside from x (y ∷ ys) z a i = elim (cases_Bool (nat_lt x.first y.first)) [
  | inl f ↦ let b : AreInOrder from (x ∷ y ∷ ys) = (rw f at a) in inl (first_from (x.first + x.pages) (y ∷ ys) z b.2 i)
  | inr f ↦ by_place (rw f at a) i (beside (y.first + y.pages) x ys z)
]
  where
    by_place : AreInOrder from (y ∷ insert_span x ys) → IsOneOf z (y ∷ ys) → (AreInOrder (y.first + y.pages) (insert_span x ys) → IsOneOf z ys → (x.first + x.pages ≤ z.first) ⊎ (z.first + z.pages ≤ x.first)) → (x.first + x.pages ≤ z.first) ⊎ (z.first + z.pages ≤ x.first)
    by_place b (inl e) more = inr (let low = first_from (y.first + y.pages) (insert_span x ys) x b.2 (in_inserted x ys) in subst (λ (w : Span). w.first + w.pages ≤ x.first) e low)
    by_place b (inr j) more = more b.2 j

-- a test that the new one does not pass finds what it found
skip : (test keep : Span → Bool) (x : Span) (ys : List Span) → test x ≡ false → find test (filter keep (insert_span x ys)) ≡ find test (filter keep ys)
skip test keep x [] h = elim (cases_Bool (keep x)) [ inl e ↦ rw (e, h) refl | inr e ↦ rw e refl ]
skip test keep x (y ∷ ys) h = elim (cases_Bool (nat_lt x.first y.first)) [
  | inl f ↦ elim (cases_Bool (keep x)) [ inl e ↦ rw (f, e, h) refl | inr e ↦ rw (f, e) refl ]
  | inr f ↦ elim (cases_Bool (keep y)) [
    | inl e ↦ elim (cases_Bool (test y)) [ inl g ↦ rw (f, e, g) refl | inr g ↦ rw (f, e, g) (skip test keep x ys h) ]
    | inr e ↦ rw (f, e) (skip test keep x ys h)
  ]
]

-- what is in the list with one more
out_of : (x : Span) (ys : List Span) (z : Span) → IsOneOf z (insert_span x ys) → (x ≡ z) ⊎ IsOneOf z ys
out_of x [] z (inl e) = inl e
out_of x [] z (inr i) = absurd i
out_of x (y ∷ ys) z i = elim (cases_Bool (nat_lt x.first y.first)) [
  | inl f ↦ let j : IsOneOf z (x ∷ y ∷ ys) = (rw f at i) in j
  | inr f ↦ by_place (rw f at i) (out_of x ys z)
]
  where
    by_place : IsOneOf z (y ∷ insert_span x ys) → (IsOneOf z (insert_span x ys) → (x ≡ z) ⊎ IsOneOf z ys) → (x ≡ z) ⊎ IsOneOf z (y ∷ ys)
    by_place (inl e) more = inr (inl e)
    by_place (inr j) more = ⊎_elim (λ (e : x ≡ z). inl e) (λ (k : IsOneOf z ys). inr (inr k)) (more j)

---- The words behind a Span

module _ (l : Limits) (s : Setting) (m : Configuration) (n first pages b t : ℕ) (fr : IsFront l m.state.back.area m.state.lfh) (some : 0 < pages)
    (order : AreInOrder 0 (insert_span (record { first = first; pages = pages; kind = kinds.Lfh; bucket = b; slot = t }) m.state.back.area.spans))
    (sp : IsFrontSpan l (record { first = first; pages = pages; kind = kinds.Lfh; bucket = b; slot = t }))
    (held : m.state.gate.locks.back ≡ Some n) (few : t < 16) (high : b ≤ 128) (owes : List Owed) (f : IsOwedSoundly l m owes) where
  abbrev x : Span
  x = record { first = first; pages = pages; kind = kinds.Lfh; bucket = b; slot = t }

  -- what is behind the Span
  abbrev pub made : Configuration
  made = after s m (entry n (acts.Span first pages kinds.Lfh b t))

  -- the word of the hint before
  abbrev pub hint_now : ℕ
  hint_now = owed_or owes (118 + 16 * b + t) (hint_word m.state.back.area m.now.span_history b t)

  -- what is owed then
  abbrev pub owes_made : List Owed
  owes_made = owed_by_span b t hint_now first pages owes

  -- no span was there
  clear : (y : Span) → IsOneOf y m.state.back.area.spans → (page : ℕ) → first ≤ page → page < first + pages → y.first ≤ page → page < y.first + y.pages → ⊥
  clear y i page lo hi lo' hi' = ⊎_elim (λ (e : first + pages ≤ y.first). omega arith) (λ (e : y.first + y.pages ≤ first). omega arith) (beside 0 x m.state.back.area.spans y order i)

  no_tag : (page : ℕ) → first ≤ page → page < first + pages → tag_word (lfh_spans m.state.back.area) page ≡ 0
  no_tag page lo hi = by (find (in_span page) (lfh_spans m.state.back.area)) refl
    where
      by : (w : Option Span) → find (in_span page) (lfh_spans m.state.back.area) ≡ w → unwrap_or (option_map tag_of w) 0 ≡ 0
      by None e = refl
      by (Some y) e =
          let i = in_lfh m.state.back.area.spans y (found_in (in_span page) (lfh_spans m.state.back.area) y e) in
          let p = and_parts _ _ (found_passes (in_span page) (lfh_spans m.state.back.area) y e) in
          absurd (clear y i.0 page lo hi (leb-true y.first page p.0) (ltb-true page (y.first + y.pages) p.1))

  out_page : (page : ℕ) → ((first ≤ page) → page < first + pages → ⊥) → in_span page x ≡ false
  out_page page no_page = elim (cases_Bool (in_span page x)) [
    | inl e ↦ let p = and_parts _ _ e in absurd (no_page (leb-true first page p.0) (ltb-true page (first + pages) p.1))
    | inr e ↦ e
  ]

  tag_kept : (page : ℕ) → (first ≤ page → page < first + pages → ⊥) → tag_word (lfh_spans made.state.back.area) page ≡ tag_word (lfh_spans m.state.back.area) page
  tag_kept page away = ap (λ (w : Option Span). unwrap_or (option_map tag_of w) 0) (skip (in_span page) (is_of_kind kinds.Lfh) x m.state.back.area.spans (out_page page away))

  -- the words of the tags
  tag_owed : (page : ℕ) → page < 256 * l.segments → owed_or owes_made (2182 + page) (tag_word (lfh_spans made.state.back.area) page) ≡ owed_or owes (2182 + page) (tag_word (lfh_spans m.state.back.area) page)
  tag_owed page lp =
      let skip_hint : eqb (118 + 16 * b + t) (2182 + page) ≡ false = ne_eqb (118 + 16 * b + t) (2182 + page) (λ e. omega arith) in
      rw skip_hint (elim (cases_lt page first) [
        | inl lt ↦ tags_else first pages (2182 + page) (tag_word (lfh_spans made.state.back.area) page) owes (λ p lo hi e. omega arith) ∙ ap (owed_or owes (2182 + page)) (tag_kept page (λ lo hi. omega arith))
        | inr ge ↦ elim (cases_lt page (first + pages)) [
          | inl lt ↦
              tags_here first pages page (tag_word (lfh_spans made.state.back.area) page) owes ge lt
              ∙ sym (⊎_elim (λ (z : owed_or owes (2182 + page) (tag_word (lfh_spans m.state.back.area) page) ≡ tag_word (lfh_spans m.state.back.area) page). z ∙ no_tag page ge lt) (λ (z : (owed_or owes (2182 + page) (tag_word (lfh_spans m.state.back.area) page) ≡ 0) × MayWantTag m page). z.0) (f.tags page lp))
          | inr le ↦ tags_else first pages (2182 + page) (tag_word (lfh_spans made.state.back.area) page) owes (λ p lo hi e. omega arith) ∙ ap (owed_or owes (2182 + page)) (tag_kept page (λ lo hi. omega arith))
        ]
      ])

  -- the subsegments of another bucket or slot
  spans_kept : (c u : ℕ) → (c ≡ b → u ≡ t → ⊥) → spans_of made.state.back.area c u ≡ spans_of m.state.back.area c u
  spans_kept c u ne = filter-insert_span (is_span_of c u) x m.state.back.area.spans (elim (cases_Bool (is_span_of c u x)) [
    | inl e ↦ let p = and_parts (b == c) (t == u) e in absurd (ne (sym (eqb-true b c p.0)) (sym (eqb-true t u p.1)))
    | inr e ↦ e
  ])

  hint_kept : (c u : ℕ) → (c ≡ b → u ≡ t → ⊥) → hint_word made.state.back.area made.now.span_history c u ≡ hint_word m.state.back.area m.now.span_history c u
  hint_kept c u ne = ap (λ (xs : List Span). unwrap_or (hint_or (m.now.span_history.hints c u) (first_of xs)) 0) (spans_kept c u ne)

  hint_owed : (c u : ℕ) → c ≤ 128 → u < 16 → owed_or owes_made (118 + 16 * c + u) (hint_word made.state.back.area made.now.span_history c u) ≡ owed_or owes (118 + 16 * c + u) (hint_word m.state.back.area m.now.span_history c u)
  hint_owed c u hc fu = elim (cases_Bool (eqb (118 + 16 * b + t) (118 + 16 * c + u))) [
    | inl e ↦
        let at = eqb-true (118 + 16 * b + t) (118 + 16 * c + u) e in
        let sb : b ≡ c = omega arith in
        let stt : t ≡ u = omega arith in
        rw e (ap (λ (z : ℕ × ℕ). owed_or owes (118 + 16 * z.0 + z.1) (hint_word m.state.back.area m.now.span_history z.0 z.1)) (λ j. (sb j, stt j)))
    | inr e ↦
        let ne = eqb-false (118 + 16 * b + t) (118 + 16 * c + u) e in
        rw e (tags_else first pages (118 + 16 * c + u) (hint_word made.state.back.area made.now.span_history c u) owes (λ p lo hi z. omega arith) ∙ ap (owed_or owes (118 + 16 * c + u)) (hint_kept c u (λ p q. ne (omega arith))))
  ]

  -- no block was there
  pub no_block : (j : ℕ) → is_taken m.state.lfh x j ≡ false
  no_block j = elim (cases_lt j (block_count b)) [
    | inl lt ↦ elim (cases_Bool (starts_at m.state.lfh (block_address b first j))) [
      | inl e ↦ absurd (taken lt e)
      | inr e ↦ rw e (by_and (nat_lt j (block_count b)))
    ]
    | inr le ↦ rw (le-ltb j (block_count b) le) refl
  ]
    where
      by_and : (c : Bool) → (c && false) ≡ false
      by_and true = refl
      by_and false = refl

      taken : j < block_count b → starts_at m.state.lfh (block_address b first j) ≡ true → ⊥
      taken lt e =
          let w = any_found (λ p. p.start == block_address b first j) m.state.lfh e in
          let at = eqb-true w.0.start (block_address b first j) w.2 in
          let h = all_at (λ p. IsInLfh m.state.back.area.spans p.start p.granules) w.0 m.state.lfh fr.places w.1 in
          let z = seat_at l m.state.back.area m.state.lfh fr h.span h.index h.there h.kind h.below in
          let mine = block_seat l b first pages j (record { first = sp.bucket.0; last = sp.bucket.1 }) sp.pages sp.there lt in
          let same : block_address h.span.bucket h.span.first h.index ≡ block_address b first j = sym h.block ∙ at in
          let from = z.from in
          let before = z.before in
          clear h.span h.there (block_address b first j / 4096) mine.from mine.before
          (subst (λ (y : ℕ). h.span.first ≤ y / 4096) same from) (subst (λ (y : ℕ). y / 4096 < h.span.first + h.span.pages) same before)

  none_begins : (y : Span) → IsOneOf y m.state.back.area.spans → y.first ≡ first → ⊥
  none_begins y i e = let p = some_pages 0 m.state.back.area.spans y fr.order i in clear y i first (omega arith) (omega arith) (omega arith) (omega arith)

  bits_kept : (page w : ℕ) → bitmap_word m.state.lfh (lfh_spans made.state.back.area) page w ≡ bitmap_word m.state.lfh (lfh_spans m.state.back.area) page w
  bits_kept page w = elim (cases_eq page first) [
    | inl e ↦
        subst (λ (y : ℕ). bitmap_word m.state.lfh (lfh_spans made.state.back.area) y w ≡ bitmap_word m.state.lfh (lfh_spans m.state.back.area) y w) (sym e)
        (ap (λ (o : Option Span). unwrap_or (option_map (λ y. bits_of m.state.lfh y w) o) 0) new_there ∙ (all_clear ∙ sym (ap (λ (o : Option Span). unwrap_or (option_map (λ y. bits_of m.state.lfh y w) o) 0) none_there)))
    | inr ne ↦ ap (λ (o : Option Span). unwrap_or (option_map (λ y. bits_of m.state.lfh y w) o) 0) (skip (begins_at page) (is_of_kind kinds.Lfh) x m.state.back.area.spans (ne_eqb first page (λ e. ne (sym e))))
  ]
    where
      all_clear : bits_of m.state.lfh x w ≡ 0
      all_clear = same_word_of (λ j. is_taken m.state.lfh x (64 * w + j)) (λ j. false) 0 64 (λ j lo hi. no_block (64 * w + j))

      new_there : find (begins_at first) (lfh_spans made.state.back.area) ≡ Some x
      new_there =
          let r = find_some (begins_at first) (lfh_spans made.state.back.area) x (into_lfh made.state.back.area.spans x (in_inserted x m.state.back.area.spans) refl) (eq-eqb first first refl) in
          let i = in_lfh made.state.back.area.spans r.0 (found_in (begins_at first) (lfh_spans made.state.back.area) r.0 r.1) in
          let e = eqb-true r.0.first first (found_passes (begins_at first) (lfh_spans made.state.back.area) r.0 r.1) in
          r.1 ∙ ⊎_elim (λ (z : x ≡ r.0). ap Some (sym z)) (λ (z : IsOneOf r.0 m.state.back.area.spans). absurd (none_begins r.0 z e)) (out_of x m.state.back.area.spans r.0 i.0)

      none_there : find (begins_at first) (lfh_spans m.state.back.area) ≡ None
      none_there = by (find (begins_at first) (lfh_spans m.state.back.area)) refl
        where
          by : (o : Option Span) → find (begins_at first) (lfh_spans m.state.back.area) ≡ o → find (begins_at first) (lfh_spans m.state.back.area) ≡ None
          by None u = u
          by (Some y) u = absurd (none_begins y (in_lfh m.state.back.area.spans y (found_in (begins_at first) (lfh_spans m.state.back.area) y u)).0 (eqb-true y.first first (found_passes (begins_at first) (lfh_spans m.state.back.area) y u)))

  -- the parts of the words, none of which is written
  pub made_behind : IsBehind l made m owes_made owes 1 (gate_word m.state.gate)
  made_behind = record {
    gate = record { here = λ e. refl; else = λ e. refl };
    locks = locks_stay 1 _ _ _ (inl (omega arith)) refl;
    active = λ k lk. stays 1 _ (6 + k) _ _ (λ g. omega arith) refl;
    hints = λ c u lc hc fu. stays 1 _ (118 + 16 * c + u) _ _ (λ g. omega arith) (hint_owed c u hc fu);
    tags = λ page lp. stays 1 _ (2182 + page) _ _ (λ g. omega arith) (tag_owed page lp);
    bitmaps = λ k lk. stays 1 _ (2182 + 256 * l.segments + k) _ _ (λ g. omega arith) (bits_kept (k / 4) (k % 4));
    sizes = λ k lk. stays 1 _ (2182 + 1280 * l.segments + k) _ _ (λ g. omega arith) refl;
    stored = λ k lk. stays 1 _ (2182 + 66816 * l.segments + k) _ _ (λ g. omega arith) refl;
  }

  ---- What is owed is sound

  head_more : (c u first' : ℕ) → is_head m.state.back.area c u first' ≡ true → is_head made.state.back.area c u first' ≡ true
  head_more c u first' h =
      let w = any_found (begins_at first') (spans_of m.state.back.area c u) h in
      let i = in_filter (is_span_of c u) m.state.back.area.spans w.0 w.1 in
      any_in (begins_at first') (spans_of made.state.back.area c u) w.0 (into_filter (is_span_of c u) made.state.back.area.spans w.0 (still_in x m.state.back.area.spans w.0 i.0) i.1) w.2

  -- all that were made by the holder still are, and so is the new one
  all_made : (c u d : ℕ) → d ≡ n → are_made_by m.state.back.area m.now.span_history d c u ≡ true → are_made_by made.state.back.area made.now.span_history d c u ≡ true
  all_made c u d e h = over (spans_of made.state.back.area c u) (λ y i. i)
    where
      old : (ys : List Span) (y : Span) → IsOneOf y ys → list_all (λ z. is_caller d (m.now.span_history.makers z.first)) ys ≡ true → is_caller d (m.now.span_history.makers y.first) ≡ true
      old [] y i k = absurd i
      old (z ∷ zs) y (inl q) k = subst (λ (w : Span). is_caller d (m.now.span_history.makers w.first) ≡ true) q (and_parts (is_caller d (m.now.span_history.makers z.first)) _ k).0
      old (z ∷ zs) y (inr i) k = old zs y i (and_parts (is_caller d (m.now.span_history.makers z.first)) _ k).1

      one : (y : Span) → IsOneOf y (spans_of made.state.back.area c u) → is_caller d (made.now.span_history.makers y.first) ≡ true
      one y i =
          let p = in_filter (is_span_of c u) made.state.back.area.spans y i in
          elim (cases_Bool (eqb y.first first)) [
            | inl g ↦ rw g (eq-eqb n d (sym e))
            | inr g ↦ rw g (⊎_elim (λ (z : x ≡ y). absurd (eqb-false y.first first g (ap (λ (w : Span). w.first) (sym z))))
                (λ (z : IsOneOf y m.state.back.area.spans). old (spans_of m.state.back.area c u) y (into_filter (is_span_of c u) m.state.back.area.spans y z p.1) h) (out_of x m.state.back.area.spans y p.0))
          ]

      over : (ys : List Span) → ((y : Span) → IsOneOf y ys → IsOneOf y (spans_of made.state.back.area c u)) → list_all (λ z. is_caller d (made.now.span_history.makers z.first)) ys ≡ true
      over [] k = refl
      over (y ∷ ys) k = and_from (is_caller d (made.now.span_history.makers y.first)) _ (one y (k y (inl refl))) (over ys (λ z i. k z (inr i)))

  old_still : (c u word : ℕ) → MayBeOld m c u word → MayBeOld made c u word
  old_still c u word w =
      let same : w.0 ≡ n = let z : Some w.0 ≡ Some n = sym w.1 ∙ held in cc (z) in
      (w.0, w.1, ⊎_elim (λ (z : (word ≡ 0) × (are_made_by m.state.back.area m.now.span_history w.0 c u ≡ true)). inl (z.0, all_made c u w.0 same z.1)) (λ (z : is_head m.state.back.area c u word ≡ true). inr (head_more c u word z)) w.2)

  -- the hint of the bucket and the slot may be the one before
  was_right : MayBeOld made b t (hint_word m.state.back.area m.now.span_history b t)
  was_right = by (spans_of m.state.back.area b t) refl
    where
      by : (ys : List Span) → spans_of m.state.back.area b t ≡ ys → MayBeOld made b t (hint_word m.state.back.area m.now.span_history b t)
      by (y ∷ ys) e = (n, held, inr (head_more b t (hint_word m.state.back.area m.now.span_history b t) (hint_head m b t y f.heads (subst (IsOneOf y) (sym e) (inl refl)))))
      by [] e = (n, held, inl (zero_hint (m.now.span_history.hints b t) refl, all_made b t n refl (ap (list_all (λ z. is_caller n (m.now.span_history.makers z.first))) e)))
        where
          zero_hint : (o : Option ℕ) → m.now.span_history.hints b t ≡ o → hint_word m.state.back.area m.now.span_history b t ≡ 0
          zero_hint None g = ap (λ (z : Option ℕ × List Span). unwrap_or (hint_or z.0 (first_of z.1)) 0) (λ j. (g j, e j))
          zero_hint (Some h) g = absurd (false≢true (sym (ap (list_any (begins_at h)) e) ∙ f.heads b t h g))

  -- the new subsegment's maker is there
  new_maker : (page : ℕ) → first ≤ page → page < first + pages → HasMaker made.state.back.area made.now.span_history page
  new_maker page lo hi y e =
      let i = in_lfh made.state.back.area.spans y (found_in (in_span page) (lfh_spans made.state.back.area) y e) in
      let p = and_parts _ _ (found_passes (in_span page) (lfh_spans made.state.back.area) y e) in
      ⊎_elim (λ (z : x ≡ y). let same : eqb y.first first ≡ true = eq-eqb y.first first (ap (λ (w : Span). w.first) (sym z)) in rw same refl)
      (λ (z : IsOneOf y m.state.back.area.spans). absurd (clear y z page lo hi (leb-true y.first page p.0) (ltb-true page (y.first + y.pages) p.1))) (out_of x m.state.back.area.spans y i.0)

  -- .. and those of the others
  wanting_kept : (page : ℕ) → (first ≤ page → page < first + pages → ⊥) → MayWantTag m page → MayWantTag made page
  wanting_kept page away w = ⊎_elim (λ (own : is_some m.state.gate.owner ≡ true). inl own) (λ (k : HasMaker m.state.back.area m.now.span_history page). inr (others k)) w
    where
      others : HasMaker m.state.back.area m.now.span_history page → HasMaker made.state.back.area made.now.span_history page
      others k y e =
          let was = k y (sym (skip (in_span page) (is_of_kind kinds.Lfh) x m.state.back.area.spans (out_page page away)) ∙ e) in
          elim (cases_Bool (eqb y.first first)) [ inl g ↦ rw g refl | inr g ↦ rw g was ]

  -- readers may go by what is owed
  pub made_soundly : IsOwedSoundly l made owes_made
  made_soundly = record {
    tags = λ page lp. elim (cases_lt page first) [
      | inl lt ↦ out page lp (λ lo hi. omega arith)
      | inr ge ↦ elim (cases_lt page (first + pages)) [
        | inl lt ↦ inr (tag_owed page lp ∙ ⊎_elim (λ (z : owed_or owes (2182 + page) (tag_word (lfh_spans m.state.back.area) page) ≡ tag_word (lfh_spans m.state.back.area) page). z ∙ no_tag page ge lt) (λ (z : (owed_or owes (2182 + page) (tag_word (lfh_spans m.state.back.area) page) ≡ 0) × MayWantTag m page). z.0) (f.tags page lp), inr (new_maker page ge lt))
        | inr le ↦ out page lp (λ lo hi. omega arith)
      ]
    ];
    heads = λ c u h e. head_more c u h (f.heads c u h e);
    hints = λ c u lc hc fu. elim (cases_Bool (eqb c b && eqb u t)) [
      | inl g ↦
          let p = and_parts (eqb c b) (eqb u t) g in
          let sb = eqb-true c b p.0 in
          let stt = eqb-true u t p.1 in
          inr (subst (MayBeOld made c u) (sym (hint_owed c u hc fu)) (⊎_elim
          (λ (z : owed_or owes (118 + 16 * c + u) (hint_word m.state.back.area m.now.span_history c u) ≡ hint_word m.state.back.area m.now.span_history c u). subst (MayBeOld made c u) (sym z) (subst (λ (y : ℕ × ℕ). MayBeOld made y.0 y.1 (hint_word m.state.back.area m.now.span_history y.0 y.1)) (λ j. (sym sb j, sym stt j)) was_right))
          (λ (z : MayBeOld m c u (owed_or owes (118 + 16 * c + u) (hint_word m.state.back.area m.now.span_history c u))). old_still c u (owed_or owes (118 + 16 * c + u) (hint_word m.state.back.area m.now.span_history c u)) z)
          (f.hints c u lc hc fu)))
      | inr g ↦
          let same = hint_kept c u (λ p q. both_ways (eqb c b && eqb u t) g (and_from (eqb c b) (eqb u t) (eq-eqb c b p) (eq-eqb u t q))) in
          ⊎_elim
          (λ (z : owed_or owes (118 + 16 * c + u) (hint_word m.state.back.area m.now.span_history c u) ≡ hint_word m.state.back.area m.now.span_history c u). inl (hint_owed c u hc fu ∙ (z ∙ sym same)))
          (λ (z : MayBeOld m c u (owed_or owes (118 + 16 * c + u) (hint_word m.state.back.area m.now.span_history c u))). inr (subst (MayBeOld made c u) (sym (hint_owed c u hc fu)) (old_still c u (owed_or owes (118 + 16 * c + u) (hint_word m.state.back.area m.now.span_history c u)) z)))
          (f.hints c u lc hc fu)
    ];
    paid = λ e. absurd (let z : None ≡ Some n = sym e ∙ held in let w : ⊥ = cc (z) in w);
  }
    where
      out : (page : ℕ) → page < 256 * l.segments → (first ≤ page → page < first + pages → ⊥) → (owed_or owes_made (2182 + page) (tag_word (lfh_spans made.state.back.area) page) ≡ tag_word (lfh_spans made.state.back.area) page) ⊎ ((owed_or owes_made (2182 + page) (tag_word (lfh_spans made.state.back.area) page) ≡ 0) × MayWantTag made page)
      out page lp away = ⊎_elim
          (λ (z : owed_or owes (2182 + page) (tag_word (lfh_spans m.state.back.area) page) ≡ tag_word (lfh_spans m.state.back.area) page). inl (tag_owed page lp ∙ (z ∙ sym (tag_kept page away))))
          (λ (z : (owed_or owes (2182 + page) (tag_word (lfh_spans m.state.back.area) page) ≡ 0) × MayWantTag m page). inr (tag_owed page lp ∙ z.0, wanting_kept page away z.1))
          (f.tags page lp)

  -- the words as they are show the subsegment
  pub made_shown : (count : ℕ) (words : List ℕ) → AreAllShown l count m owes words → AreAllShown l count made owes_made words
  made_shown count words h =
      subst (AreAllShown l count made owes_made) (ap (set words 1) (sym h.gate.gate) ∙ set-get_or words 1 0)
      (shown_behind l count made m owes_made owes words 1 (gate_word m.state.gate) (omega arith) (omega arith) made_behind made_soundly h)
