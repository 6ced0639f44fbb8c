-- What the rows of a search say to one caller alone: the act is the one that is expected, and what is known of the search is known behind it.
use Rattle.std.proofs.Common.{◌≡◌, ℕ, zero, suc, ◌+◌, ◌*◌, ◌%◌, ◌<◌, Bool, true, false, ◌&&◌, ◌||◌, not, List, [], ◌∷◌, Option, Some, None, option_map, refl, sym, ap, ◌∙◌, subst, inl, inr, arith, eqb, ltb}
use Rattle.std.specs.Prelude.{filter, is_none, is_some, option_and_then}
use Rattle.std.specs.List.{list_any, list_all}
use Rattle.std.proofs.lemmas.Bool.{cases_Bool, and_parts, both_ways, false≢true, true≢false, eq-eqb, eqb-true, not-true, lt-ltb}
use Rattle.heap_model.specs.declared.Act.{Act}
use Rattle.heap_model.specs.declared.Act.TheVariants as acts
use Rattle.heap_model.specs.declared.Call.{Call}
use Rattle.heap_model.specs.declared.Kind.{Kind}
use Rattle.heap_model.specs.declared.Kind.TheVariants as kinds
use Rattle.heap_model.specs.declared.What.TheVariants as whats
use Rattle.heap_model.specs.Buckets.{bucket_of, bucket_pages, words_in_use, valid_bits, block_count, block_address}
use Rattle.heap_model.specs.Bits.{bits_of, pick, starts_at, has_bit, is_taken, first_cyclic}
use Rattle.heap_model.specs.State.{Setting, Area, Span, Place, is_kind, is_another, is_caller, holder_of}
use Rattle.heap_model.specs.Stay.{for_some, is_some_of, is_due}
use Rattle.heap_model.specs.Backend.{back_place}
use Rattle.heap_model.specs.CallState.{Stage, NotBegun, AtHint, FirstPass, SecondPass, Search, CallState, Configuration, caller_view}
use Rattle.heap_model.specs.Search.{SearchKey, search_key_of, request_of, searched, asked_by, asked_bucket, hint, hint_or, first_of, spans_of, is_span_of, span_at, first_word, next_word, next_span, is_read, last_read, begins_at, begins_span, goes_on, may_see, may_see_at, may_miss_hint, may_claim, may_pass, is_spent, all_read, all_read_at, onto_span, onto_span_at, after_saw, after_pick, after_reading, after_no_hint, after_no_span, has_not_begun}
use Rattle.heap_model.specs.Legal.{may_follow, after, step_search, goes_to_lfh, cannot_be_served, fits_none}
use Rattle.heap_model.specs.Alone.{by_zero}
use Rattle.heap_model.proofs.GateSound.{row_of}
use Rattle.heap_model.proofs.ListLemmas.{for_some_parts, is_some_of_parts}
use Rattle.heap_soundness.specs.Sound.{IsOneOf}
use Rattle.heap_soundness.proofs.GapRuns.{in_filtered}
use Rattle.heap_soundness.proofs.MadeSpans.{bucket_is as bucket_in_range}
use Rattle.heap_soundness.proofs.Picks.{pick_below}
use Rattle.search_laws.specs.Reading.{word_behind, picked_at}
use Rattle.search_laws.proofs.Bits.{bit_of}
use Rattle.search_laws.proofs.Blocks.{IsFree}
use Rattle.search_laws.proofs.Passes.{none_read}
use Rattle.search_laws.proofs.Searching.{some_words}
use Rattle.one_caller_laws.proofs.Core.{Core, core_of}
use Rattle.one_caller_laws.proofs.InCall.{InCall}
use Rattle.one_caller_laws.proofs.Makes.{size_asked, asks}
use Rattle.one_caller_laws.proofs.Expected.{IsTurn, key_in, reading, falls, next_or_falls, first_act, goes_further, act_at, act_where, expected, stepped}
use Rattle.one_caller_laws.proofs.Seeks.{AllDry, Seeks, Onto, begins, all_dry, first_in, any_in_list, read_dry, shows_at}

abbrev pub is_second : Stage → Bool
is_second NotBegun = false
is_second AtHint = false
is_second FirstPass = false
is_second SecondPass = true

-- what is known in the midst of a search for the bucket b, which is active or due, where the hint is h
pub record Seeking (s : Setting) (b : ℕ) (h : Option ℕ) (c : Core) : Type 0 where
  pub seeks : Seeks c.back.area c.lfh (key_in s c b) h c.search
  pub goes : goes_to_lfh c.vs b ≡ true
  pub fell : c.no_span ≡ true → AllDry c.back.area c.lfh (key_in s c b) × (back_place c.back.area s.limits.segments (bucket_pages b) ≡ None)
  pub second : c.no_span ≡ is_second c.search.stage

---- The block that is picked is free

cyclic_passes : (test : ℕ → Bool) (at n i : ℕ) → first_cyclic test at n ≡ Some i → (test i ≡ true) × (i < 64)
cyclic_passes test at zero i h = absurd (let z : ⊥ = cc in z)
cyclic_passes test at (suc n) i h = elim (cases_Bool (test (at % 64))) [
  | inl e ↦ let g : Some (at % 64) ≡ Some i = (rw (e, first_cyclic) at h) in let same : at % 64 ≡ i = cc in (subst (λ (x : ℕ). test x ≡ true) same e, subst (λ (x : ℕ). x < 64) same (omega arith))
  | inr e ↦ cyclic_passes test (suc at) n i (rw (e, first_cyclic) at h)
]

picked_clear : (bits valid start i : ℕ) → pick bits valid start ≡ Some i → (has_bit bits i ≡ false) × (i < 64)
picked_clear bits valid start i h =
    let p = cyclic_passes (λ i. has_bit valid i && not (has_bit bits i)) start 64 i h in
    (not-true (has_bit bits i) (and_parts (has_bit valid i) (not (has_bit bits i)) p.0).1, p.1)

module _ (ps : List Place) (g : SearchKey) (x : Span) (bucket : x.bucket ≡ g.bucket) where
  word_free : (w i : ℕ) → pick (bits_of ps x w) (valid_bits g.bucket w) (g.draw % 64) ≡ Some i → IsFree ps g.bucket x (64 * w + i)
  word_free w i h =
      let p = picked_clear (bits_of ps x w) (valid_bits g.bucket w) (g.draw % 64) i h in
      let below = pick_below g.bucket w (bits_of ps x w) (g.draw % 64) i h in
      record { below = below; clear = clear_at (64 * w + i) below (sym (bit_of (λ i. is_taken ps x (64 * w + i)) 64 i p.1) ∙ p.0) }
    where
      clear_at : (j : ℕ) → j < block_count g.bucket → is_taken ps x j ≡ false → starts_at ps (block_address g.bucket x.first j) ≡ false
      clear_at j below e =
          let t = lt-ltb j (block_count g.bucket) below in
          let f : (ltb j (block_count g.bucket) && starts_at ps (block_address g.bucket x.first j)) ≡ false = ap (λ (b : ℕ). ltb j (block_count b) && starts_at ps (block_address b x.first j)) (sym bucket) ∙ e in
          rw t at f

  pub shown_free : (k i : ℕ) → picked_at ps g x k ≡ Some i → IsFree ps g.bucket x i
  shown_free k i h = by_bit (pick (bits_of ps x (word_behind g k)) (valid_bits g.bucket (word_behind g k)) (g.draw % 64)) refl h
    where
      by_bit : (o : Option ℕ) → pick (bits_of ps x (word_behind g k)) (valid_bits g.bucket (word_behind g k)) (g.draw % 64) ≡ o → option_map (λ j. 64 * word_behind g k + j) o ≡ Some i → IsFree ps g.bucket x i
      by_bit None e h = absurd (let z : ⊥ = cc in z)
      by_bit (Some j) e h = let same : 64 * word_behind g k + j ≡ i = cc in subst (IsFree ps g.bucket x) same (word_free (word_behind g k) j e)

-- what a span of a bucket and a slot is
pub record IsSpanOf (a : Area) (b t : ℕ) (x : Span) : Type 0 where
  pub there : IsOneOf x a.spans
  pub kind : x.kind ≡ kinds.Lfh
  pub bucket : x.bucket ≡ b
  pub slot : x.slot ≡ t

is_lfh : (k : Kind) → is_kind k kinds.Lfh ≡ true → k ≡ kinds.Lfh
is_lfh kinds.Lfh h = refl
is_lfh kinds.Vs h = absurd (false≢true h)
is_lfh kinds.Back h = absurd (false≢true h)
is_lfh kinds.Header h = absurd (false≢true h)
is_lfh kinds.Free h = absurd (false≢true h)

pub span_of : (a : Area) (b t : ℕ) (x : Span) → IsOneOf x (spans_of a b t) → IsSpanOf a b t x
span_of a b t x i =
    let r = go a.spans i in
    let p = and_parts (is_kind x.kind kinds.Lfh && eqb x.bucket b) (eqb x.slot t) r.1 in
    let q = and_parts (is_kind x.kind kinds.Lfh) (eqb x.bucket b) p.0 in
    record { there = r.0; kind = is_lfh x.kind q.0; bucket = eqb-true x.bucket b q.1; slot = eqb-true x.slot t p.1 }
  where
    go : (xs : List Span) → IsOneOf x (filter (is_span_of b t) xs) → IsOneOf x xs × (is_span_of b t x ≡ true)
    go [] i = absurd i
    go (y ∷ ys) i = elim (cases_Bool (is_span_of b t y)) [
      | inl e ↦ elim (rw e at i) [ inl same ↦ (inl same, subst (λ (z : Span). is_span_of b t z ≡ true) same e) | inr j ↦ let r = go ys j in (inr r.0, r.1) ]
      | inr e ↦ let r = go ys (rw e at i) in (inr r.0, r.1)
    ]

---- What is requested

searched_parts : (active : ℕ → Bool) (o : Option ℕ) (b : ℕ) → searched active o ≡ Some b → (o ≡ Some b) × (active b ≡ true)
searched_parts active None b h = absurd (let z : ⊥ = cc in z)
searched_parts active (Some x) b h = elim (cases_Bool (active x)) [
  | inl e ↦ let z : Some x ≡ Some b = (rw e at h) in let same : x ≡ b = cc in (z, ap active (sym same) ∙ e)
  | inr e ↦ let z : None ≡ Some b = (rw e at h) in absurd (let bad : ⊥ = cc in bad)
]

bucket_parts : (o : Option ℕ) (b : ℕ) → option_and_then bucket_of o ≡ Some b → (q : ℕ) × (o ≡ Some q) × (bucket_of q ≡ Some b)
bucket_parts None b h = absurd (let z : ⊥ = cc in z)
bucket_parts (Some q) b h = (q, refl, h)

none_is_none : {A : Type 0} (o : Option A) → is_none o ≡ true → o ≡ None
none_is_none None h = refl
none_is_none (Some x) h = absurd (false≢true h)

stage_kept : (g : SearchKey) (f : Search) (word : ℕ) (r : Option ℕ) → (after_pick g f word r).stage ≡ f.stage
stage_kept g f word None = refl
stage_kept g f word (Some i) = refl

no_first : (xs : List Span) → first_of xs ≡ None → xs ≡ []
no_first [] h = refl
no_first (x ∷ xs) h = absurd (let z : ⊥ = cc in z)

pub words_some : (n b : ℕ) → bucket_of n ≡ Some b → 0 < words_in_use b
words_some n b h = let r = bucket_in_range (Some n) b h in some_words b r.0 r.1

module _ (s : Setting) (call : Call) (n b : ℕ) (asked_is : asked_by call ≡ Some n) (bucket : bucket_of n ≡ Some b) (h : Option ℕ) where
  pub bucket_same : (m : Configuration) (q : ℕ) → InCall s call m → (request_of s m 0).bucket ≡ Some q → q ≡ b
  bucket_same m q w e =
      let p = bucket_parts (request_of s m 0).size q e in
      let same = size_asked s call m n p.0 w asked_is p.1 in
      let z : Some q ≡ Some b = sym p.2 ∙ ap bucket_of same ∙ bucket in
      let r : q ≡ b = cc in
      r

  pub search_is : (m : Configuration) (q : ℕ) → InCall s call m → (request_of s m 0).search ≡ Some q → (q ≡ b) × (m.state.vs.active b ≡ true)
  search_is m q w e =
      let p = searched_parts m.state.vs.active (request_of s m 0).bucket q e in
      let same = bucket_same m q w p.0 in
      (same, ap m.state.vs.active (sym same) ∙ p.1)

  pub bucket_asked : (m : Configuration) → InCall s call m → asked_bucket (m.now.calls 0) ≡ Some b
  bucket_asked m w = ap (option_and_then bucket_of) (asks s call m n w asked_is) ∙ bucket

  -- a search that goes on is for the bucket, which is active
  pub searching : (m : Configuration) (test : ℕ → Bool) → InCall s call m → for_some (request_of s m 0).search test ≡ true → (test b ≡ true) × (m.state.vs.active b ≡ true)
  searching m test w e =
      let p = for_some_parts (request_of s m 0).search test e in
      let q = search_is m p.0 w p.1 in
      (ap test (sym q.0) ∙ p.2, q.1)

  abbrev pub HintIs : Configuration → Type 0
  HintIs m = hint m.state.back.area m.now.span_history b (s.slot 0) ≡ h

  module _ (m : Configuration) (w : InCall s call m) (k : Seeking s b h (core_of m)) (hint_is : HintIs m) where
    abbrev c : Core
    c = core_of m

    abbrev g : SearchKey
    g = key_in s (core_of m) b

    abbrev f : Search
    f = (m.now.calls 0).search

    abbrev a : Area
    a = m.state.back.area

    some : 0 < words_in_use b
    some = words_some n b bucket

    ---- A word is read

    further : (head word : ℕ) → f.picked ≡ None → (t : Stage) → f.stage ≡ t → f.ended ≡ false → has_not_begun t ≡ false → goes_on g f head word ≡ true →
        Onto a m.state.lfh g h f head word × (goes_further s b (core_of m) ≡ reading (core_of m) word (Some head))
    further head word none t st en begun x =
        let p = and_parts (eqb word (next_word g f)) (is_some_of (last_read f) head) x in
        let e = eqb-true word (next_word g f) p.0 in
        let l = is_some_of_parts (last_read f) head p.1 in (
          record { seeks = k.seeks; read = l; going = en; begun = ap has_not_begun st ∙ begun; none = none; word_is = e },
          (λ i. reading (core_of m) (sym e i) (l i)),
        )

    record TurnsTo (head word : ℕ) (t : Stage) (e : Bool) : Type 0 where
      pub onto : Onto a m.state.lfh g h (onto_span_at f head t e) head word
      pub is : act_at s b h (core_of m) t e ≡ reading (core_of m) word (Some head)
      pub second : is_second (onto_span_at f head t e).stage ≡ is_second t

    turns : (head word : ℕ) → f.picked ≡ None → (t : Stage) (e : Bool) → f.stage ≡ t → f.ended ≡ e → may_see_at a m.now.span_history (m.now.disturbed 0) (caller_view m 0) g head word t ≡ true → TurnsTo head word t e
    turns head word none NotBegun e st en x =
        let p1 = and_parts (eqb word (first_word g) && list_any (begins_at head) (spans_of a b (s.slot 0))) (m.now.disturbed 0 || is_some_of (hint a m.now.span_history b (s.slot 0)) head) x in
        let p2 = and_parts (eqb word (first_word g)) (list_any (begins_at head) (spans_of a b (s.slot 0))) p1.0 in
        let u = w.undisturbed in
        let h_is : h ≡ Some head = sym hint_is ∙ is_some_of_parts (hint a m.now.span_history b (s.slot 0)) head (rw u at p1.1) in
        let first = eqb-true word (first_word g) p2.0 in
        record {
          onto = begins a m.state.lfh g h some f AtHint head word [] k.seeks.lost none first refl (any_in_list a m.state.lfh g h some (spans_of a b (s.slot 0)) head p2.1) (λ q. h_is) (λ y i q. absurd (false≢true q));
          is = ap (first_act s b (core_of m)) h_is ∙ ap (λ (v : ℕ). reading (core_of m) v (Some head)) (sym first);
          second = refl;
        }
    turns head word none AtHint true st en x =
        let y : begins_span a (caller_view m 0) g (record f { read = [] }) head word ≡ true = (rw en at x) in
        let p1 = and_parts (eqb word (first_word g) && may_pass (caller_view m 0)) (is_some_of (next_span a g (record f { read = [] })) head) y in
        let p2 = and_parts (eqb word (first_word g)) (may_pass (caller_view m 0)) p1.0 in
        let next = is_some_of_parts (next_span a g (record f { read = [] })) head p1.1 in
        let first = eqb-true word (first_word g) p2.0 in
        record {
          onto = begins a m.state.lfh g h some f FirstPass head word [] k.seeks.lost none first refl (first_in a m.state.lfh g h some (λ y. not (is_read (record f { read = [] }) y)) (spans_of a b (s.slot 0)) head next) (λ q. absurd (let z : ⊥ = cc in z)) (λ y i q. absurd (false≢true q));
          is = ap (next_or_falls s b (core_of m)) next ∙ ap (λ (v : ℕ). reading (core_of m) v (Some head)) (sym first);
          second = refl;
        }
    turns head word none FirstPass true st en x =
        let y : begins_span a (caller_view m 0) g f head word ≡ true = (rw en at x) in
        let p1 = and_parts (eqb word (first_word g) && may_pass (caller_view m 0)) (is_some_of (next_span a g f) head) y in
        let p2 = and_parts (eqb word (first_word g)) (may_pass (caller_view m 0)) p1.0 in
        let next = is_some_of_parts (next_span a g f) head p1.1 in
        let first = eqb-true word (first_word g) p2.0 in
        record {
          onto = subst (λ (t : Stage). Onto a m.state.lfh g h (record f { stage = t; read = head ∷ f.read; exhausted = 0; ended = false }) head word) (sym st)
              (begins a m.state.lfh g h some f FirstPass head word f.read k.seeks.lost none first refl (first_in a m.state.lfh g h some (λ y. not (is_read f y)) (spans_of a b (s.slot 0)) head next) (λ q. absurd (let z : ⊥ = cc in z)) (λ y i q. read_dry a m.state.lfh g h some f k.seeks en y i q));
          is = ap (next_or_falls s b (core_of m)) next ∙ ap (λ (v : ℕ). reading (core_of m) v (Some head)) (sym first);
          second = ap is_second st;
        }
    turns head word none SecondPass true st en x =
        let y : begins_span a (caller_view m 0) g f head word ≡ true = (rw en at x) in
        let p1 = and_parts (eqb word (first_word g) && may_pass (caller_view m 0)) (is_some_of (next_span a g f) head) y in
        let p2 = and_parts (eqb word (first_word g)) (may_pass (caller_view m 0)) p1.0 in
        let next = is_some_of_parts (next_span a g f) head p1.1 in
        let first = eqb-true word (first_word g) p2.0 in
        record {
          onto = subst (λ (t : Stage). Onto a m.state.lfh g h (record f { stage = t; read = head ∷ f.read; exhausted = 0; ended = false }) head word) (sym st)
              (begins a m.state.lfh g h some f SecondPass head word f.read k.seeks.lost none first refl (first_in a m.state.lfh g h some (λ y. not (is_read f y)) (spans_of a b (s.slot 0)) head next) (λ q. absurd (let z : ⊥ = cc in z)) (λ y i q. read_dry a m.state.lfh g h some f k.seeks en y i q));
          is = ap (next_or_falls s b (core_of m)) next ∙ ap (λ (v : ℕ). reading (core_of m) v (Some head)) (sym first);
          second = ap is_second st;
        }
    turns head word none AtHint false st en x = let r = further head word none AtHint st en refl (rw en at x) in record { onto = r.0; is = r.1; second = ap is_second st }
    turns head word none FirstPass false st en x = let r = further head word none FirstPass st en refl (rw en at x) in record { onto = r.0; is = r.1; second = ap is_second st }
    turns head word none SecondPass false st en x = let r = further head word none SecondPass st en refl (rw en at x) in record { onto = r.0; is = r.1; second = ap is_second st }

    ---- What a turn is

    pub record Turned (act : Act) : Type 0 where
      pub is : expected s b h (core_of m) ≡ Some act
      pub turn : IsTurn b (core_of m) act
      pub core : core_of (after s m (by_zero act)) ≡ stepped s b (core_of m) act
      pub seeking : Seeking s b h (stepped s b (core_of m) act)
      pub begun : m.state.vs.active b ≡ true → has_not_begun (stepped s b (core_of m) act).search.stage ≡ false

    abbrev with_call : Core → CallState → Core
    with_call c k = record c { call = k.call; placed = k.placed; no_span = k.no_span; earlier = k.searches; search = k.search }

    pub seen : (head word bits : ℕ) → may_follow s m (by_zero (acts.Saw head word bits)) ≡ true → Turned (acts.Saw head word bits)
    seen head word bits x =
        let v = caller_view m 0 in
        let sees = may_see a m.now.span_history (m.now.disturbed 0) v in
        let shows : Span → Bool = λ y. eqb bits (bits_of m.state.lfh y word) in
        let r = and_parts v.entered (for_some (request_of s m 0).search (λ b. sees (search_key_of s 0 (m.now.calls 0) b) head word && for_some (span_at a head) shows)) (row_of s m (by_zero (acts.Saw head word bits)) x) in
        let q = searching m (λ b. sees (search_key_of s 0 (m.now.calls 0) b) head word && for_some (span_at a head) shows) w r.1 in
        let p = and_parts (sees g head word) (for_some (span_at a head) shows) q.0 in
        let y = for_some_parts (span_at a head) shows p.1 in
        let z1 = and_parts (is_none f.picked && ltb f.lost 8) (may_see_at a m.now.span_history (m.now.disturbed 0) v g head word f.stage) p.0 in
        let none = none_is_none f.picked (and_parts (is_none f.picked) (ltb f.lost 8) z1.0).0 in
        let t = turns head word none f.stage f.ended refl refl z1.1 in
        let bits_is = eqb-true bits (bits_of m.state.lfh y.0 word) y.2 in
        let o = onto_span f head in
        record {
          is =
              (λ i. act_where s b h (core_of m) (q.1 i) (none i)) ∙ t.is ∙ ap (option_map (λ (y : Span). acts.Saw head word (bits_of m.state.lfh y word))) y.1
              ∙ ap (λ (n : ℕ). Some (acts.Saw head word n)) (sym bits_is);
          turn = inr (refl, q.1);
          core = ap (λ (o : Option ℕ). with_call (core_of m) (step_search s 0 (m.now.calls 0) (λ g f. after_saw g f head word bits) o)) (bucket_asked m w);
          seeking = record {
            seeks = subst (λ (n : ℕ). Seeks a m.state.lfh g h (after_reading g (onto_span f head) word n)) (sym bits_is) (shows_at a m.state.lfh g h some w.keeps.heap.spans.in_order (onto_span f head) head word y.0 t.onto y.1);
            goes = k.goes;
            fell = k.fell;
            second = k.second ∙ sym t.second ∙ sym (ap is_second (stage_kept g (onto_span f head) word (pick bits (valid_bits b word) (g.draw % 64))));
          };
          begun = λ y. ap has_not_begun (stage_kept g (onto_span f head) word (pick bits (valid_bits b word) (g.draw % 64))) ∙ t.onto.begun;
        }

    ---- No hint

    not_begun_is : (t : Stage) → has_not_begun t ≡ true → t ≡ NotBegun
    not_begun_is NotBegun e = refl
    not_begun_is AtHint e = absurd (false≢true e)
    not_begun_is FirstPass e = absurd (false≢true e)
    not_begun_is SecondPass e = absurd (false≢true e)

    nothing_picked : has_not_begun f.stage ≡ true → (o : Option ℕ) → f.picked ≡ o → f.picked ≡ None
    nothing_picked st None e = e
    nothing_picked st (Some i) e = absurd (both_ways (has_not_begun f.stage) (k.seeks.picked i e).begun st)

    -- nobody else has made a span
    holder_zero : (d : ℕ) (o : Option ℕ) → is_another 0 o ≡ false → is_caller d o ≡ true → is_another 0 (Some d) ≡ false
    holder_zero d None e x = absurd (false≢true x)
    holder_zero d (Some q) e x = let same = eqb-true q d x in subst (λ (y : ℕ). is_another 0 (Some y) ≡ false) same e

    no_maker : (page : ℕ) (o : Option ℕ) → m.now.span_history.makers page ≡ o → is_another 0 o ≡ false
    no_maker page None e = refl
    no_maker page (Some d) e = holder_zero d (holder_of m.state.gate.locks whats.Back) (w.gate.holders whats.Back) (w.keeps.makers page d e)

    no_spans : (xs : List Span) → list_all (λ x. is_another 0 (m.now.span_history.makers x.first)) xs ≡ true → xs ≡ []
    no_spans [] e = refl
    no_spans (x ∷ xs) e = absurd (both_ways _ (no_maker x.first (m.now.span_history.makers x.first) refl) (and_parts (is_another 0 (m.now.span_history.makers x.first)) (list_all (λ x. is_another 0 (m.now.span_history.makers x.first)) xs) e).0)

    no_hint_is : spans_of a b (s.slot 0) ≡ [] → (o : Option ℕ) → m.now.span_history.hints b (s.slot 0) ≡ o → h ≡ None
    no_hint_is none None e = sym hint_is ∙ (λ i. hint_or (e i) (first_of (none i)))
    no_hint_is none (Some head) e =
        let z = w.keeps.hints b (s.slot 0) head e in
        let t : is_span_of b (s.slot 0) z.span ≡ true =
        (let e1 = z.kind in let e2 = z.bucket in let e3 = z.slot in let r1 = eq-eqb b b refl in let r2 = eq-eqb (s.slot 0) (s.slot 0) refl in rw (e1, e2, e3, r1, r2) refl) in
        absurd (subst (IsOneOf z.span) none (in_filtered (is_span_of b (s.slot 0)) z.span a.spans t z.there))

    pub hint_missed : (bucket slot : ℕ) → may_follow s m (by_zero (acts.NoHint bucket slot)) ≡ true → Turned (acts.NoHint bucket slot)
    hint_missed bucket slot x =
        let v = caller_view m 0 in
        let misses = may_miss_hint a m.now.span_history 0 f in
        let r = and_parts v.entered (for_some (request_of s m 0).search (λ b. eqb bucket b && eqb slot (s.slot 0) && misses (search_key_of s 0 (m.now.calls 0) b))) (row_of s m (by_zero (acts.NoHint bucket slot)) x) in
        let q = searching m (λ b. eqb bucket b && eqb slot (s.slot 0) && misses (search_key_of s 0 (m.now.calls 0) b)) w r.1 in
        let p1 = and_parts (eqb bucket b && eqb slot (s.slot 0)) (misses g) q.0 in
        let p2 = and_parts (eqb bucket b) (eqb slot (s.slot 0)) p1.0 in
        let p3 = and_parts (has_not_begun f.stage) (list_all (λ x. is_another 0 (m.now.span_history.makers x.first)) (spans_of a b (s.slot 0))) p1.1 in
        let e1 = eqb-true bucket b p2.0 in
        let e2 = eqb-true slot (s.slot 0) p2.1 in
        let st = not_begun_is f.stage p3.0 in
        let none = nothing_picked p3.0 f.picked refl in
        let no = no_hint_is (no_spans (spans_of a b (s.slot 0)) p3.1) (m.now.span_history.hints b (s.slot 0)) refl in
        record {
          is = (λ i. act_where s b h (core_of m) (q.1 i) (none i)) ∙ (λ i. act_at s b (no i) (core_of m) (st i) f.ended) ∙ (λ i. Some (acts.NoHint (sym e1 i) (sym e2 i)));
          turn = inr (refl, q.1);
          core = ap (λ (o : Option ℕ). with_call (core_of m) (step_search s 0 (m.now.calls 0) (λ g f. after_no_hint f) o)) (bucket_asked m w);
          seeking = record {
            seeks = record {
              lost = k.seeks.lost;
              picked = λ i e. absurd (let z : Some i ≡ None = sym e ∙ none in let bad : ⊥ = cc in bad);
              reads = λ head e. absurd (let bad : ⊥ = cc in bad);
              hinted = λ t head e. absurd (let bad : ⊥ = cc in bad);
              here = λ y i e. absurd (let bad : ⊥ = cc in bad);
              behind = λ y i e. absurd (false≢true e);
              over = λ e head z. absurd (let bad : ⊥ = cc in bad);
              going = λ e. absurd (true≢false e);
            };
            goes = k.goes;
            fell = k.fell;
            second = k.second ∙ ap is_second st;
          };
          begun = λ y. refl;
        }

    ---- The bucket becomes active

    pub lit_up : (bucket : ℕ) → may_follow s m (by_zero (acts.Active bucket)) ≡ true → Turned (acts.Active bucket)
    lit_up bucket x =
        let v = caller_view m 0 in
        let r1 = and_parts (v.entered && v.vs && is_some_of (request_of s m 0).bucket bucket && not (m.state.vs.active bucket)) (is_due m.state.vs bucket) (row_of s m (by_zero (acts.Active bucket)) x) in
        let r2 = and_parts (v.entered && v.vs && is_some_of (request_of s m 0).bucket bucket) (not (m.state.vs.active bucket)) r1.0 in
        let r3 = and_parts (v.entered && v.vs) (is_some_of (request_of s m 0).bucket bucket) r2.0 in
        let same = bucket_same m bucket w (is_some_of_parts (request_of s m 0).bucket bucket r3.1) in
        let off : m.state.vs.active b ≡ false = ap m.state.vs.active (sym same) ∙ not-true (m.state.vs.active bucket) r2.1 in
        record {
          is = ap (λ (o : Bool). act_where s b h (core_of m) o f.picked) off ∙ ap (λ (q : ℕ). Some (acts.Active q)) (sym same);
          turn = inl (ap acts.Active same, off);
          core = refl;
          seeking = record {
            seeks = k.seeks;
            goes = (let e = eq-eqb b bucket (sym same) in rw e refl);
            fell = k.fell;
            second = k.second;
          };
          begun = λ y. absurd (both_ways (m.state.vs.active b) off y);
        }

    ---- Nothing is left

    pub record Spent : Type 0 where
      pub dry : AllDry a m.state.lfh g
      pub none : f.picked ≡ None
      pub begun : has_not_begun f.stage ≡ false
      pub is : act_at s b h (core_of m) f.stage f.ended ≡ falls b (m.now.calls 0).no_span (back_place a s.limits.segments (bucket_pages b))

    pub spent : is_spent a (caller_view m 0) g ≡ true → Spent
    spent x =
        let v = caller_view m 0 in
        let p = and_parts v.back (eqb f.lost 8 || all_read a v g) x in
        let l = k.seeks.lost in
        let all : all_read a v g ≡ true = (rw l at p.1) in
        let q = and_parts f.ended (all_read_at a v g f.stage) all in
        let r = by_stage f.stage refl q.0 q.1 in
        record { dry = r.0; none = none f.picked refl q.0; begun = begun f.stage q.1; is = ap (act_at s b h (core_of m) f.stage) q.0 ∙ r.1 }
      where
        none : (o : Option ℕ) → f.picked ≡ o → f.ended ≡ true → f.picked ≡ None
        none None e en = e
        none (Some i) e en = absurd (both_ways f.ended (k.seeks.picked i e).going en)

        begun : (t : Stage) → all_read_at a (caller_view m 0) g t ≡ true → has_not_begun t ≡ false
        begun NotBegun x = absurd (false≢true x)
        begun AtHint x = refl
        begun FirstPass x = refl
        begun SecondPass x = refl

        fall : Option Act
        fall = falls b (m.now.calls 0).no_span (back_place a s.limits.segments (bucket_pages b))

        by_stage : (t : Stage) → f.stage ≡ t → f.ended ≡ true → all_read_at a (caller_view m 0) g t ≡ true → AllDry a m.state.lfh g × (act_at s b h (core_of m) t true ≡ fall)
        by_stage NotBegun st en x = absurd (false≢true x)
        by_stage AtHint st en x =
            let p = and_parts (is_none (first_of (spans_of a b (s.slot 0)))) (not (m.now.calls 0).no_span) x in
            let e = none_is_none (first_of (spans_of a b (s.slot 0))) p.0 in
            let next : next_span a g (record f { read = [] }) ≡ None = ap first_of (none_read (spans_of a b (s.slot 0))) ∙ e in
            ((λ y i. absurd (subst (IsOneOf y) (no_first (spans_of a b (s.slot 0)) e) i)), ap (next_or_falls s b (core_of m)) next)
        by_stage FirstPass st en x =
            let p = and_parts (is_none (next_span a g f)) (not (m.now.calls 0).no_span) x in
            let next = none_is_none (next_span a g f) p.0 in
            (all_dry a m.state.lfh g h some f k.seeks en next, ap (next_or_falls s b (core_of m)) next)
        by_stage SecondPass st en x =
            let p = and_parts (is_none (next_span a g f)) (is_some (last_read f) || (caller_view m 0).vs) x in
            let next = none_is_none (next_span a g f) p.0 in
            (all_dry a m.state.lfh g h some f k.seeks en next, ap (next_or_falls s b (core_of m)) next)

    -- the bucket cannot be served
    pub record Unserved : Type 0 where
      pub active : m.state.vs.active b ≡ true
      pub spent : Spent
      pub place : back_place a s.limits.segments (bucket_pages b) ≡ None

    pub unserved : cannot_be_served s a 0 (caller_view m 0) (request_of s m 0) b ≡ true → Unserved
    unserved x =
        let v = caller_view m 0 in
        let p1 = and_parts (is_some_of (request_of s m 0).search b && is_spent a v g) (fits_none s a (bucket_pages b)) x in
        let p2 = and_parts (is_some_of (request_of s m 0).search b) (is_spent a v g) p1.0 in
        record { active = (search_is m b w (is_some_of_parts (request_of s m 0).search b p2.0)).1; spent = spent p2.1; place = none_is_none _ p1.1 }

    pub fallen : (bucket : ℕ) → may_follow s m (by_zero (acts.NoSpan bucket)) ≡ true → Turned (acts.NoSpan bucket)
    fallen bucket x =
        let v = caller_view m 0 in
        let cannot : ℕ → Bool = cannot_be_served s a 0 v (request_of s m 0) in
        let r = and_parts v.entered (for_some (request_of s m 0).search (λ b. eqb bucket b && v.back && not (m.now.calls 0).no_span && cannot b)) (row_of s m (by_zero (acts.NoSpan bucket)) x) in
        let q = searching m (λ b. eqb bucket b && v.back && not (m.now.calls 0).no_span && cannot b) w r.1 in
        let p1 = and_parts (eqb bucket b && v.back && not (m.now.calls 0).no_span) (cannot b) q.0 in
        let p2 = and_parts (eqb bucket b && v.back) (not (m.now.calls 0).no_span) p1.0 in
        let e = eqb-true bucket b (and_parts (eqb bucket b) v.back p2.0).0 in
        let once = not-true (m.now.calls 0).no_span p2.1 in
        let u = unserved p1.1 in
        record {
          is = (λ i. act_where s b h (core_of m) (u.active i) (u.spent.none i)) ∙ u.spent.is ∙ (λ i. falls b (once i) (u.place i)) ∙ ap (λ (q : ℕ). Some (acts.NoSpan q)) (sym e);
          turn = inr (refl, u.active);
          core = ap (λ (o : Option ℕ). with_call (core_of m) (record (step_search s 0 (m.now.calls 0) (λ g f. after_no_span f) o) { no_span = true })) (bucket_asked m w);
          seeking = record {
            seeks = record {
              lost = k.seeks.lost;
              picked = λ i e. absurd (let bad : ⊥ = cc in bad);
              reads = λ head e. absurd (let bad : ⊥ = cc in bad);
              hinted = λ t head e. absurd (let bad : ⊥ = cc in bad);
              here = λ y i e. absurd (let bad : ⊥ = cc in bad);
              behind = λ y i e. absurd (false≢true e);
              over = λ e head z. absurd (let bad : ⊥ = cc in bad);
              going = λ e. absurd (true≢false e);
            };
            goes = k.goes;
            fell = λ e. (u.spent.dry, u.place);
            second = refl;
          };
          begun = λ y. refl;
        }

    ---- No block is lost

    pub never_lost : (head index : ℕ) → may_follow s m (by_zero (acts.Lost head index)) ≡ true → ⊥
    never_lost head index x =
        let v = caller_view m 0 in
        let r = and_parts v.entered (for_some (request_of s m 0).search (λ b. may_claim f head index && starts_at m.state.lfh (block_address b head index))) (row_of s m (by_zero (acts.Lost head index)) x) in
        let q = searching m (λ b. may_claim f head index && starts_at m.state.lfh (block_address b head index)) w r.1 in
        let p = and_parts (may_claim f head index) (starts_at m.state.lfh (block_address b head index)) q.0 in
        let p2 = and_parts (is_some_of f.picked index) (is_some_of (last_read f) head) p.0 in
        let y = k.seeks.picked index (is_some_of_parts f.picked index p2.0) in
        let z : Some head ≡ Some y.span.first = sym (is_some_of_parts (last_read f) head p2.1) ∙ y.read in
        let same : head ≡ y.span.first = cc in
        let free = shown_free m.state.lfh g y.span (span_of a b (s.slot 0) y.span y.there).bucket y.behind index y.shows in
        both_ways _ free.clear (ap (λ (first : ℕ). starts_at m.state.lfh (block_address b first index)) (sym same) ∙ p.1)
