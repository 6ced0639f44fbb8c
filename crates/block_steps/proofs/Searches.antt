-- The laws of a search: a word of a bitmap is read, and a hint.
use Rattle.std.proofs.Common.{◌≡◌, ◌⊎◌, ℕ, ◌+◌, ◌*◌, ◌/◌, ◌%◌, ◌<◌, ◌≤◌, Bool, true, false, not, ◌&&◌, ◌||◌, ◌==◌, List, [], ◌∷◌, get_or, Option, Some, None, refl, sym, ap, ◌∙◌, subst, arith, inl, inr, ⊎_elim, eqb, eq-eqb, if◌then◌else◌}
use Rattle.std.specs.Prelude.{is_some, unwrap_or}
use Rattle.std.specs.List.{find, list_any, list_all}
use Rattle.std.proofs.lemmas.Bool.{cases_Bool, cases_eq, and_parts, and_from, both_ways, eqb-true, or_left, or_right, false≢true}
use mathlib.Core.Option.{none, some}
use lib.ListN.{get_elem?}
use Rattle.atomic_table.specs.Table.{State, Me, Act, step, keeps, stepped, carried_after, Valid}
use Rattle.heap_model.specs.declared.Act.{Act as Deed}
use Rattle.heap_model.specs.declared.Act.TheVariants as acts
use Rattle.heap_model.specs.declared.Entry.{Entry}
use Rattle.heap_model.specs.declared.Kind.TheVariants as kinds
use Rattle.heap_model.specs.declared.Limits.{Limits}
use Rattle.heap_model.specs.declared.What.TheVariants as whats
use Rattle.heap_model.specs.Bits.{bits_of}
use Rattle.heap_model.specs.State.{Setting, Span, BackPart, GateAndLocks, is_kind, is_entered, is_caller, is_another, holds}
use Rattle.heap_model.specs.Stay.{for_some, is_some_of}
use Rattle.heap_model.specs.CallState.{Configuration, CallerView, CallState, Search, Stage, NotBegun, AtHint, FirstPass, SecondPass, caller_view}
use Rattle.heap_model.specs.Search.{SearchKey, search_key_of, spans_of, is_span_of, span_at, begins_at, hint, hint_or, first_of, first_word, may_see, may_see_at, may_pass, begins_span, goes_on, has_not_begun}
use Rattle.heap_model.specs.Legal.{after}
use Rattle.heap_model.specs.History.{configuration_after, configuration_of}
use Rattle.heap_model.specs.Agreement.{AgreesFor, GateIsSound, UndisturbedIsAlone}
use Rattle.heap_model.proofs.Stable.{caller_view_same, same_search}
use Rattle.heap_soundness.specs.Sound.{IsOneOf}
use Rattle.heap_soundness.proofs.Lists.{any_in, any_found, found_in, found_passes, find_some}
use Rattle.heap_soundness.proofs.Spans.{same_span}
use Rattle.heap_soundness.proofs.Enums.{kind_is}
use Rattle.heap_model.specs.declared.Opening.{Opening}
use Rattle.claim_rule.specs.declared.views.Owed.{Owed}
use Rattle.claim_rule.specs.declared.views.View.{View}
use Rattle.claim_rule.specs.Shown.{AreAllShown, lfh_spans, bitmap_word, owed_or, hint_word, is_head, are_made_by, HintsAreHeads, MayBeOld}
use Rattle.heap_model.specs.Layers.{LayerState}
use Rattle.claim_rule.specs.Entries.{IsSettingOf, entry}
use Rattle.claim_rule.specs.Rule.{IsRuled, IsReady, ready_after}
use Rattle.claim_rule.specs.Plays.{number_of}
use Rattle.claim_rule.proofs.Holders.{back_holder_is}
use Rattle.claim_rule.proofs.Words.{all_same, all_kept}
use Rattle.claim_rule.proofs.Advance.{before, acts, adds_of, goes_of, setting_in, role_of, setting_back, seen_behind}
use Rattle.claim_rule.proofs.Gate.{one_by, one_follows}
use Rattle.step_parts.specs.Seen.{IsSeen}
use Rattle.claim_rule.specs.Places.{word_at_page, hint_at}
use Rattle.block_steps.specs.Searches.{MaySee, MayHint, IsHinted, saw, hinted}
use Rattle.block_steps.specs.Laws.{SeeLaw, HintLaw}
use Rattle.step_parts.proofs.FrontEnd.{IsFront, front_here, keeps_here, some_pages}
use Rattle.step_parts.proofs.BlockWords.{in_lfh, into_lfh, span_found}
use Rattle.step_parts.proofs.Filters.{into_filter}
use Rattle.step_parts.proofs.Placed.{hint_head}
use Rattle.step_parts.proofs.Stays.{seen_still}
use Rattle.block_steps.proofs.Undisturbed.{IsSince, since}

-- a subsegment that was seen is among those of its bucket and slot
pub among_seen : (m : Configuration) (head b t : ℕ) (z : IsSeen m head b t) → IsOneOf z.span (spans_of m.state.back.area b t)
among_seen m head b t z =
    let p = in_lfh m.state.back.area.spans z.span z.there in
    into_filter (is_span_of b t) m.state.back.area.spans z.span p.0
    (and_from (is_kind z.span.kind kinds.Lfh && z.span.bucket == b) (z.span.slot == t)
    (and_from (is_kind z.span.kind kinds.Lfh) (z.span.bucket == b) (ap (λ k. is_kind k kinds.Lfh) p.1) (eq-eqb z.span.bucket b z.bucket)) (eq-eqb z.span.slot t z.slot))

-- a reading that may come by what the caller knows may come in the history
see_same : (n head b t word : ℕ) (g : SearchKey) (m k : Configuration) → AgreesFor n m k → IsSince n m k → IsSeen m head b t → g.bucket ≡ b → g.slot ≡ t
    → may_see k.state.back.area k.now.span_history (k.now.disturbed n) (caller_view k n) g head word ≡ true → may_see m.state.back.area m.now.span_history (m.now.disturbed n) (caller_view m n) g head word ≡ true
see_same n head b t word g m k r c z gb gt h =
    subst (λ (w : CallerView). may_see m.state.back.area m.now.span_history (m.now.disturbed n) w g head word ≡ true) (sym (caller_view_same n m k r))
    (let p = and_parts _ (may_see_at k.state.back.area k.now.span_history (k.now.disturbed n) (caller_view k n) g head word (caller_view k n).call.search.stage) h in
    and_from _ (may_see_at m.state.back.area m.now.span_history (m.now.disturbed n) (caller_view k n) g head word (caller_view k n).call.search.stage) p.0 (by_stage (caller_view k n).call.search.stage p.1))
  where
    v : CallerView
    v = caller_view k n

    spans_at : (f : Search) → begins_span k.state.back.area (caller_view k n) g f head word ≡ true → begins_span m.state.back.area (caller_view k n) g f head word ≡ true
    spans_at f e =
        let pass = (and_parts (word == first_word g) (may_pass (caller_view k n)) (and_parts _ _ e).0).1 in
        let back = (and_parts (caller_view k n).back _ pass).0 in
        subst (λ (x : BackPart). begins_span x.area (caller_view k n) g f head word ≡ true) (sym (r.back back)) e

    by_ended : (f : Search) (x : Bool) → (if x then begins_span k.state.back.area (caller_view k n) g f head word else goes_on g (caller_view k n).call.search head word) ≡ true
        → (if x then begins_span m.state.back.area (caller_view k n) g f head word else goes_on g (caller_view k n).call.search head word) ≡ true
    by_ended f true e = spans_at f e
    by_ended f false e = e

    first : Rattle.heap_model.specs.Search.begins_search k.state.back.area k.now.span_history (k.now.disturbed n) g head word ≡ true → Rattle.heap_model.specs.Search.begins_search m.state.back.area m.now.span_history (m.now.disturbed n) g head word ≡ true
    first e =
        let p = and_parts (word == first_word g && list_any (begins_at head) (spans_of k.state.back.area g.bucket g.slot)) (k.now.disturbed n || is_some_of (hint k.state.back.area k.now.span_history g.bucket g.slot) head) e in
        let at = (and_parts (word == first_word g) _ p.0).0 in
        let there : list_any (begins_at head) (spans_of m.state.back.area g.bucket g.slot) ≡ true =
        subst (λ (y : ℕ × ℕ). list_any (begins_at head) (spans_of m.state.back.area y.0 y.1) ≡ true) (λ j. (sym gb j, sym gt j)) (any_in (begins_at head) (spans_of m.state.back.area b t) z.span (among_seen m head b t z) (eq-eqb z.span.first head z.begins)) in
        and_from (word == first_word g && list_any (begins_at head) (spans_of m.state.back.area g.bucket g.slot)) _ (and_from (word == first_word g) _ at there) (right p.1)
      where
        right : (k.now.disturbed n || is_some_of (hint k.state.back.area k.now.span_history g.bucket g.slot) head) ≡ true → (m.now.disturbed n || is_some_of (hint m.state.back.area m.now.span_history g.bucket g.slot) head) ≡ true
        right w = elim (cases_Bool (m.now.disturbed n)) [
          | inl f ↦ or_left (m.now.disturbed n) _ f
          | inr f ↦ elim (cases_Bool (k.now.disturbed n)) [
            | inl u ↦ absurd (both_ways (m.now.disturbed n) f (c.later u))
            | inr u ↦ or_right (m.now.disturbed n) _ (ap (λ (y : Option ℕ). is_some_of y head) (c.alone f g.bucket g.slot) ∙ (rw u at w))
          ]
        ]

    by_stage : (x : Stage) → may_see_at k.state.back.area k.now.span_history (k.now.disturbed n) (caller_view k n) g head word x ≡ true → may_see_at m.state.back.area m.now.span_history (m.now.disturbed n) (caller_view k n) g head word x ≡ true
    by_stage NotBegun e = first e
    by_stage AtHint e = by_ended (record (caller_view k n).call.search { read = [] }) (caller_view k n).call.search.ended e
    by_stage FirstPass e = by_ended (caller_view k n).call.search (caller_view k n).call.search.ended e
    by_stage SecondPass e = by_ended (caller_view k n).call.search (caller_view k n).call.search.ended e

---- A word of a bitmap

module _ (l : Limits) (made : ℕ) (m : Configuration) (owes : List Owed) (words : List ℕ) (f : IsFront l m.state.back.area m.state.lfh) (shown : AreAllShown l made m owes words) (word : ℕ) (few : word < 4) where
  -- the span of the first page, among all spans
  begins_here : (x : Span) → IsOneOf x m.state.back.area.spans → find (begins_at x.first) m.state.back.area.spans ≡ Some x
  begins_here x i =
      let r = find_some (begins_at x.first) m.state.back.area.spans x i (eq-eqb x.first x.first refl) in
      let j = found_in (begins_at x.first) m.state.back.area.spans r.0 r.1 in
      let e = eqb-true r.0.first x.first (found_passes (begins_at x.first) m.state.back.area.spans r.0 r.1) in
      let p = some_pages 0 m.state.back.area.spans x f.order i in
      let q = some_pages 0 m.state.back.area.spans r.0 f.order j in
      r.1 ∙ ap Some (same_span 0 m.state.back.area.spans r.0 x x.first f.order j i (omega arith) (omega arith) (omega arith) (omega arith))

  bits_at : (x : Span) → IsOneOf x m.state.back.area.spans → x.kind ≡ kinds.Lfh → get_or words (word_at_page l x.first word) 0 ≡ bits_of m.state.lfh x word
  bits_at x i k =
      let s = f.spans x i k in
      let there = s.there in
      let some = some_pages 0 m.state.back.area.spans x f.order i in
      let low : 4 * x.first + word < 1024 * l.segments = omega arith in
      let page : (4 * x.first + word) / 4 ≡ x.first = omega arith in
      let at : (4 * x.first + word) % 4 ≡ word = omega arith in
      shown.lfh.bitmaps (4 * x.first + word) low
      ∙ (ap (λ (z : ℕ × ℕ). bitmap_word m.state.lfh (lfh_spans m.state.back.area) z.0 z.1) (λ j. (page j, at j))
      ∙ ap (λ (o : Option Span). unwrap_or (Rattle.std.specs.Prelude.option_map (λ y. bits_of m.state.lfh y word) o) 0) (span_found l m.state.back.area m.state.lfh f x i k))

  -- the word is that of the places
  pub bits_seen : (head b t : ℕ) → IsSeen m head b t → for_some (span_at m.state.back.area head) (λ x. get_or words (word_at_page l head word) 0 == bits_of m.state.lfh x word) ≡ true
  bits_seen head b t z =
      let p = in_lfh m.state.back.area.spans z.span z.there in
      subst (λ (y : ℕ). for_some (span_at m.state.back.area y) (λ x. get_or words (word_at_page l y word) 0 == bits_of m.state.lfh x word) ≡ true) z.begins
      (ap (λ (o : Option Span). for_some o (λ x. get_or words (word_at_page l z.span.first word) 0 == bits_of m.state.lfh x word)) (begins_here z.span p.0)
      ∙ eq-eqb (get_or words (word_at_page l z.span.first word) 0) (bits_of m.state.lfh z.span word) (bits_at z.span p.0 p.1))

module _ {T : Type 0} (stands : T → LayerState) (o : Opening) (id n : ℕ) (me : Me (Option T) View) (es : List Entry) (h : IsReady n me.0 es) (st : State (Option T) View) (r : IsRuled stands o st) (at : get_elem? st.views id ≡ some me.0) where
  abbrev there : Setting → Configuration
  there s = configuration_after s (configuration_of s r.log) es

  abbrev Reading : (ℕ → Me (Option T) View → Type 0) → ℕ → Type 0
  Reading tells word = (w : View) × (a : Act (Option T)) × Valid st.homes me.1 a × IsRuled stands o (stepped st word (get_or st.words word 0) id me.1 w a) × tells (get_or st.words word 0) (w, carried_after me.1 a)

  -- a word is read, with an own entry that leaves the heap
  pub sees_word : (slots head b t word : ℕ) → word < 4 → ((s : Setting) → IsSettingOf me.0.opening me.0.roll s → MaySee s (ready_after s me.0 es) n head b t word)
      → Reading (saw es head word (step slots (word_at_page o.limits head word) 0 0 none) me) (word_at_page o.limits head word)
  sees_word slots head b t word few ok =
      let found : ℕ = get_or st.words (word_at_page o.limits head word) 0 in
      let deed : Deed = acts.Saw head word (get_or st.words (word_at_page o.limits head word) 0) in
      let a = acts stands o st r id n me.0 es at h me.1 (word_at_page o.limits head word) (get_or st.words (word_at_page o.limits head word) 0) keeps (entry n deed ∷ []) (one_by n deed) (λ k. refl)
      (λ s q.
      let d = before stands o st r id n me.0 es at h s q in
      let k = ok s (setting_in stands o st r id n me.0 es at h s q) in
      let v = caller_view_same n (there s) (ready_after s me.0 es) d.carried.agrees in
      let seen = seen_still stands o st r id n me.0 es at h s q k.inside head b t k.seen in
      let seeks = same_search s n (there s) (ready_after s me.0 es) d.carried.agrees k.old b k.seeks ∙ k.seeks in
      let sees = see_same n head b t word (search_key_of s n ((ready_after s me.0 es).now.calls n) b) (there s) (ready_after s me.0 es) d.carried.agrees (since stands o st r id n me.0 es at h s q k.inside) seen refl k.slot k.sees in
      let sees' = subst (λ (c : CallState). may_see (there s).state.back.area (there s).now.span_history ((there s).now.disturbed n) (caller_view (there s) n) (search_key_of s n c b) head word ≡ true) (sym d.carried.agrees.call) sees in (
        one_follows s (there s) n deed d.whole (ap (λ (c : CallState). is_some c.call) d.carried.agrees.call ∙ k.begun)
            (and_from (is_entered (there s).state.gate n) _ (ap (λ (x : CallerView). x.entered) v ∙ k.inside)
            (ap (λ (w : Option ℕ). for_some w (λ b. may_see (there s).state.back.area (there s).now.span_history ((there s).now.disturbed n) (caller_view (there s) n) (search_key_of s n ((there s).now.calls n) b) head word
            && for_some (span_at (there s).state.back.area head) (λ x. found == bits_of (there s).state.lfh x word))) seeks
            ∙ and_from _ (for_some (span_at (there s).state.back.area head) (λ x. found == bits_of (there s).state.lfh x word)) sees'
            (bits_seen o.limits r.lead.counted (there s) r.owes st.words (front_here stands o st r id n me.0 es at h s q) d.words word few head b t seen))),
        refl,
        all_kept o.limits r.lead.counted (after s (there s) (entry n deed)) r.owes st.words (word_at_page o.limits head word)
            (all_same o.limits r.lead.counted (after s (there s) (entry n deed)) (there s) r.owes st.words (record { lfh = refl; words = refl; active = refl; spans = refl; hints = λ k x y. refl; makers = λ x k. refl }) refl d.words),
        d.home,
      )) in
      (a.0, keeps, tt, a.1, record { adds = adds_of me (a.0, me.1) n es deed h.role a.2; slot = refl; owes = a.3 })

pub see_law : {T : Type 0} (stands : T → LayerState) → SeeLaw stands
see_law stands o slots id n head b t word me es h few ok st r deep at small = sees_word stands o id n me es h st r at slots head b t word few ok

---- A hint

-- what a hint that is read tells
module _ (l : Limits) (s : Setting) (m : Configuration) (n b t : ℕ) (f : IsFront l m.state.back.area m.state.lfh) (gate : GateIsSound m.state.gate) (alone : UndisturbedIsAlone m) (heads : HintsAreHeads m) (inside : is_entered m.state.gate n ≡ true) where
  -- a head of the bucket and the slot is a subsegment, and none begins at page 0
  seen_head : (head : ℕ) → is_head m.state.back.area b t head ≡ true → IsSeen m head b t × (2 ≤ head)
  seen_head head e =
      let w = any_found (begins_at head) (spans_of m.state.back.area b t) e in
      let p = in_spans m.state.back.area.spans w.0 w.1 in
      let parts = and_parts (is_kind w.0.kind kinds.Lfh && w.0.bucket == b) (w.0.slot == t) p.1 in
      let kb = and_parts (is_kind w.0.kind kinds.Lfh) (w.0.bucket == b) parts.0 in
      let is = kind_is w.0.kind kinds.Lfh kb.0 in
      let at = eqb-true w.0.first head w.2 in
      let low = (f.spans w.0 p.0 is).low in
      (record { span = w.0; there = into_lfh m.state.back.area.spans w.0 p.0 is; begins = at; bucket = eqb-true w.0.bucket b kb.1; slot = eqb-true w.0.slot t parts.1 }, omega arith)
    where
      in_spans : (xs : List Span) (x : Span) → IsOneOf x (Rattle.std.specs.Prelude.filter (is_span_of b t) xs) → IsOneOf x xs × (is_span_of b t x ≡ true)
      in_spans [] x i = absurd i
      in_spans (y ∷ ys) x i = elim (cases_Bool (is_span_of b t y)) [
        | inl g ↦ of_head g (rw g at i) (in_spans ys x)
        | inr g ↦ let u = in_spans ys x (rw g at i) in (inr u.0, u.1)
      ]
        where
          of_head : is_span_of b t y ≡ true → IsOneOf x (y ∷ Rattle.std.specs.Prelude.filter (is_span_of b t) ys) → (IsOneOf x (Rattle.std.specs.Prelude.filter (is_span_of b t) ys) → IsOneOf x ys × (is_span_of b t x ≡ true)) → IsOneOf x (y ∷ ys) × (is_span_of b t x ≡ true)
          of_head g (inl e) more = (inl e, subst (λ (z : Span). is_span_of b t z ≡ true) e g)
          of_head g (inr j) more = let u = more j in (inr u.0, u.1)

  -- who holds Back is another caller that is inside
  another_in : (d : ℕ) → m.state.gate.locks.back ≡ Some d → (d ≡ n → ⊥) → is_entered m.state.gate d ≡ true
  another_in d e ne = elim (cases_Bool (is_caller d m.state.gate.owner)) [
    | inl u ↦ absurd (ne (sym (gate.alone d n u inside)))
    | inr u ↦ gate.inside d whats.Back (ap (is_caller d) e ∙ eq-eqb d d refl) u
  ]

  disturbed_by : (d : ℕ) → m.state.gate.locks.back ≡ Some d → (d ≡ n → ⊥) → m.now.disturbed n ≡ true
  disturbed_by d e ne = elim (cases_Bool (m.now.disturbed n)) [
    | inl u ↦ u
    | inr u ↦ absurd (ne (alone n d u (another_in d e ne)))
  ]

  -- a hint that is not 0 where it is the right one
  exact_some : (word : ℕ) → word ≡ hint_word m.state.back.area m.now.span_history b t → (word ≡ 0 → ⊥) → hint m.state.back.area m.now.span_history b t ≡ Some word
  exact_some word e nz = by (hint m.state.back.area m.now.span_history b t) e
    where
      by : (w : Option ℕ) → word ≡ unwrap_or w 0 → w ≡ Some word
      by None e = absurd (nz e)
      by (Some x) e = ap Some (sym e)

  hint_there : (head : ℕ) → hint m.state.back.area m.now.span_history b t ≡ Some head → is_head m.state.back.area b t head ≡ true
  hint_there head e = by (m.now.span_history.hints b t) refl e
    where
      lowest_head : (xs : List Span) → first_of xs ≡ Some head → list_any (begins_at head) xs ≡ true
      lowest_head [] w = absurd (let z : ⊥ = cc (w) in z)
      lowest_head (x ∷ xs) w = let same : x.first ≡ head = cc (w) in or_left (eqb x.first head) _ (eq-eqb x.first head same)

      by : (w : Option ℕ) → m.now.span_history.hints b t ≡ w → hint_or w (first_of (spans_of m.state.back.area b t)) ≡ Some head → is_head m.state.back.area b t head ≡ true
      by (Some x) u v = heads b t head (u ∙ v)
      by None u v = lowest_head (spans_of m.state.back.area b t) v

  -- no subsegment is there where the hint is 0 and right
  none_left : hint_word m.state.back.area m.now.span_history b t ≡ 0 → spans_of m.state.back.area b t ≡ []
  none_left e = by (spans_of m.state.back.area b t) refl
    where
      by : (xs : List Span) → spans_of m.state.back.area b t ≡ xs → spans_of m.state.back.area b t ≡ []
      by [] u = u
      by (x ∷ xs) u =
          let i : IsOneOf x (spans_of m.state.back.area b t) = subst (IsOneOf x) (sym u) (inl refl) in
          let low = (seen_head (hint_word m.state.back.area m.now.span_history b t) (hint_head m b t x heads i)).1 in absurd (omega arith)

  -- a hint of 0
  pub none_hinted : (word : ℕ) → word ≡ 0 → (word ≡ hint_word m.state.back.area m.now.span_history b t) ⊎ MayBeOld m b t word → (holds m.state.gate n whats.Back ≡ true → word ≡ hint_word m.state.back.area m.now.span_history b t)
      → list_all (λ x. is_another n (m.now.span_history.makers x.first)) (spans_of m.state.back.area b t) ≡ true
  none_hinted word z h own = ⊎_elim exact (λ (w : MayBeOld m b t word). ⊎_elim (made w) (λ (u : is_head m.state.back.area b t word ≡ true). absurd (let low = (seen_head word u).1 in omega arith)) w.2) h
    where
      exact : word ≡ hint_word m.state.back.area m.now.span_history b t → list_all (λ x. is_another n (m.now.span_history.makers x.first)) (spans_of m.state.back.area b t) ≡ true
      exact e = ap (list_all (λ x. is_another n (m.now.span_history.makers x.first))) (none_left (sym e ∙ z))

      others : (d : ℕ) (xs : List Span) → (d ≡ n → ⊥) → list_all (λ x. is_caller d (m.now.span_history.makers x.first)) xs ≡ true → list_all (λ x. is_another n (m.now.span_history.makers x.first)) xs ≡ true
      others d [] ne u = refl
      others d (x ∷ xs) ne u =
          let p = and_parts (is_caller d (m.now.span_history.makers x.first)) _ u in
          and_from (is_another n (m.now.span_history.makers x.first)) _ (one (m.now.span_history.makers x.first) p.0) (others d xs ne p.1)
        where
          one : (w : Option ℕ) → is_caller d w ≡ true → is_another n w ≡ true
          one None e = absurd (false≢true e)
          one (Some c) e = ap not (Rattle.std.proofs.lemmas.Bool.ne_eqb c n (λ u. ne (sym (eqb-true c d e) ∙ u)))

      made : (w : MayBeOld m b t word) → (word ≡ 0) × (are_made_by m.state.back.area m.now.span_history w.0 b t ≡ true) → list_all (λ x. is_another n (m.now.span_history.makers x.first)) (spans_of m.state.back.area b t) ≡ true
      made w u = elim (cases_eq w.0 n) [
        | inl e ↦ exact (own (ap (is_caller n) w.1 ∙ eq-eqb w.0 n e))
        | inr ne ↦ others w.0 (spans_of m.state.back.area b t) ne u.1
      ]

  -- a hint that is not 0
  pub some_hinted : (word : ℕ) → (word ≡ 0 → ⊥) → (word ≡ hint_word m.state.back.area m.now.span_history b t) ⊎ MayBeOld m b t word → (holds m.state.gate n whats.Back ≡ true → word ≡ hint_word m.state.back.area m.now.span_history b t) → IsHinted m n b t word
  some_hinted word nz h own = ⊎_elim exact old h
    where
      exact : word ≡ hint_word m.state.back.area m.now.span_history b t → IsHinted m n b t word
      exact e = let w = exact_some word e nz in record { seen = (seen_head word (hint_there word w)).0; right = inr w }

      old : MayBeOld m b t word → IsHinted m n b t word
      old w = elim (cases_eq w.0 n) [
        | inl e ↦ exact (own (ap (is_caller n) w.1 ∙ eq-eqb w.0 n e))
        | inr ne ↦ ⊎_elim (λ (u : (word ≡ 0) × (are_made_by m.state.back.area m.now.span_history w.0 b t ≡ true)). absurd (nz u.0))
            (λ (u : is_head m.state.back.area b t word ≡ true). record { seen = (seen_head word u).0; right = inl (disturbed_by w.0 w.1 ne) }) w.2
      ]

module _ {T : Type 0} (stands : T → LayerState) (o : Opening) (slots id n b t : ℕ) (me : Me (Option T) View) (es : List Entry) (h : IsReady n me.0 es) (lb : 1 ≤ b) (hb : b ≤ 128) (ft : t < 16)
    (ok : (s : Setting) → IsSettingOf me.0.opening me.0.roll s → MayHint s (ready_after s me.0 es) n b t me.0.owes)
    (st : State (Option T) View) (r : IsRuled stands o st) (at : get_elem? st.views id ≡ some me.0) where
  abbrev now_at : Setting → Configuration
  now_at s = configuration_after s (configuration_of s r.log) es

  abbrev hint_found : ℕ
  hint_found = get_or st.words (hint_at b t) 0

  inside_here : (s : Setting) → IsSettingOf o r.lead.roll s → is_entered (now_at s).state.gate n ≡ true
  inside_here s q =
      let d = before stands o st r id n me.0 es at h s q in
      ap (λ (x : CallerView). x.entered) (caller_view_same n (now_at s) (ready_after s me.0 es) d.carried.agrees) ∙ (ok s (setting_in stands o st r id n me.0 es at h s q)).inside

  shown_here : (s : Setting) → IsSettingOf o r.lead.roll s → (hint_found ≡ hint_word (now_at s).state.back.area (now_at s).now.span_history b t) ⊎ MayBeOld (now_at s) b t hint_found
  shown_here s q = ((before stands o st r id n me.0 es at h s q).words.lfh.hints b t lb hb ft).1

  -- while the caller holds Back it owes nothing, so the hint is right
  own_hint : (s : Setting) → IsSettingOf o r.lead.roll s → holds (now_at s).state.gate n whats.Back ≡ true → hint_found ≡ hint_word (now_at s).state.back.area (now_at s).now.span_history b t
  own_hint s q e =
      let d = before stands o st r id n me.0 es at h s q in
      let k = ok s (setting_in stands o st r id n me.0 es at h s q) in
      let log = back_holder_is s r.log ∙ (sym (ap (λ (z : GateAndLocks). z.locks.back) d.carried.gate) ∙ by_holder (now_at s).state.gate.locks.back e) in
      let none_owed : r.owes ≡ [] = sym ((role_of stands o st r id n me.0 at h.role).5 log) ∙ k.paid (sym (d.carried.agrees.locks whats.Back) ∙ e) in
      (d.words.lfh.hints b t lb hb ft).0 ∙ ap (λ (z : List Owed). owed_or z (118 + 16 * b + t) (hint_word (now_at s).state.back.area (now_at s).now.span_history b t)) none_owed
    where
      by_holder : (w : Option ℕ) → is_caller n w ≡ true → w ≡ Some n
      by_holder None h = absurd (false≢true h)
      by_holder (Some d) h = ap Some (eqb-true d n h)

  abbrev Hinting : Type 0
  Hinting = (w : View) × (a : Act (Option T)) × Valid st.homes me.1 a × IsRuled stands o (stepped st (hint_at b t) hint_found id me.1 w a) × hinted es b t (step slots (hint_at b t) 0 0 none) me hint_found (w, carried_after me.1 a)

  misses : hint_found ≡ 0 → Hinting
  misses z =
      let deed : Deed = acts.NoHint b t in
      let a = acts stands o st r id n me.0 es at h me.1 (hint_at b t) hint_found keeps (entry n (acts.NoHint b t) ∷ []) (one_by n (acts.NoHint b t)) (λ k. refl)
      (λ s q.
      let d = before stands o st r id n me.0 es at h s q in
      let k = ok s (setting_in stands o st r id n me.0 es at h s q) in
      let keep = keeps_here stands o st r id n me.0 es at h s q in
      let seeks = same_search s n (now_at s) (ready_after s me.0 es) d.carried.agrees k.old b k.seeks ∙ k.seeks in
      let all = none_hinted o.limits s (now_at s) n b t (front_here stands o st r id n me.0 es at h s q) keep.gate keep.alone d.words.lfh.heads (inside_here s q) hint_found z (shown_here s q) (own_hint s q) in
      let fresh : has_not_begun ((now_at s).now.calls n).search.stage ≡ true = ap (λ (c : CallState). has_not_begun c.search.stage) d.carried.agrees.call ∙ k.fresh in (
        one_follows s (now_at s) n deed d.whole (ap (λ (c : CallState). is_some c.call) d.carried.agrees.call ∙ k.begun)
            (and_from (is_entered (now_at s).state.gate n) _ (inside_here s q)
            (ap (λ (w : Option ℕ). for_some w (λ x. b == x && t == s.slot n && Rattle.heap_model.specs.Search.may_miss_hint (now_at s).state.back.area (now_at s).now.span_history n ((now_at s).now.calls n).search (search_key_of s n ((now_at s).now.calls n) x))) seeks
            ∙ and_from (b == b && t == s.slot n) _ (and_from (b == b) (t == s.slot n) (eq-eqb b b refl) (eq-eqb t (s.slot n) (sym k.slot)))
            (and_from (has_not_begun ((now_at s).now.calls n).search.stage) _ fresh
            (subst (λ (y : ℕ). list_all (λ x. is_another n ((now_at s).now.span_history.makers x.first)) (spans_of (now_at s).state.back.area b y) ≡ true) (sym k.slot) all)))),
        refl,
        all_kept o.limits r.lead.counted (after s (now_at s) (entry n deed)) r.owes st.words (hint_at b t)
            (all_same o.limits r.lead.counted (after s (now_at s) (entry n deed)) (now_at s) r.owes st.words (record { lfh = refl; words = refl; active = refl; spans = refl; hints = λ k x y. refl; makers = λ x k. refl }) refl d.words),
        d.home,
      )) in
      (a.0, keeps, tt, a.1, record { some = λ k. absurd (k z); none = λ _. record { adds = adds_of me (a.0, me.1) n es deed h.role a.2; slot = refl; owes = a.3 } })

  finds : (hint_found ≡ 0 → ⊥) → Hinting
  finds nz =
      let a = acts stands o st r id n me.0 es at h me.1 (hint_at b t) hint_found keeps [] refl (λ k. refl)
      (λ s q.
      let d = before stands o st r id n me.0 es at h s q in
      (refl, d.whole, all_kept o.limits r.lead.counted (now_at s) r.owes st.words (hint_at b t) d.words, d.home)) in (
        a.0,
        keeps,
        tt,
        a.1,
        record {
          some = λ _. record {
            goes = goes_of me (a.0, me.1) n es [] h.role a.2;
            slot = refl;
            owes = a.3;
            hinted = λ s q.
                let g = setting_back stands o st r id n me.0 es at h a.0 s a.2.opening a.5 q in
                let keep = keeps_here stands o st r id n me.0 es at h s g in
                let d = before stands o st r id n me.0 es at h s g in
                subst (λ (k : ℕ). IsHinted (configuration_of s a.0.seen) k b t hint_found) (sym (ap number_of h.role))
                (subst (λ (m : Configuration). IsHinted m n b t hint_found) (sym (seen_behind stands o st r id n me.0 es at h a.0 s [] a.4))
                (some_hinted o.limits s (now_at s) n b t (front_here stands o st r id n me.0 es at h s g) keep.gate keep.alone d.words.lfh.heads (inside_here s g) hint_found nz (shown_here s g) (own_hint s g)));
          };
          none = λ z. absurd (nz z);
        },
      )

  -- a hint is read
  pub reads_hint : Hinting
  reads_hint = elim (cases_eq hint_found 0) [ inl e ↦ misses e | inr ne ↦ finds ne ]

pub hint_law : {T : Type 0} (stands : T → LayerState) → HintLaw stands
hint_law stands o slots id n b t me es h lb hb ft ok st r deep at small = reads_hint stands o slots id n b t me es h lb hb ft ok st r at
