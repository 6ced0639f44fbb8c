-- A block of the front end whose size was told: it is one of the subsegment that its page's tag names, and so long as that one's blocks.
use Rattle.std.proofs.Common.{◌≡◌, ℕ, ◌+◌, ◌*◌, ◌/◌, ◌<◌, ◌≤◌, ◌==◌, Bool, true, false, not, ◌&&◌, length, List, [], ◌∷◌, ◌++◌, Some, refl, sym, ap, ◌∙◌, subst, arith, leb, ltb, eqb, eq-eqb, append_assoc, inl, inr}
use Rattle.std.specs.Prelude.{nat_lt}
use Rattle.std.specs.List.{list_any}
use Rattle.std.proofs.lemmas.Bool.{cases_Bool, and_from, and_parts, eqb-true, eqb-false, leb-true, ltb-true}
use Rattle.heap_model.specs.declared.Act.TheVariants as acts
use Rattle.heap_model.specs.declared.Call.{Call}
use Rattle.heap_model.specs.declared.Call.TheVariants as calls
use Rattle.heap_model.specs.declared.Entry.{Entry}
use Rattle.heap_model.specs.declared.Flags.{Flags}
use Rattle.heap_model.specs.declared.Kind.{Kind}
use Rattle.heap_model.specs.declared.Kind.TheVariants as kinds
use Rattle.heap_model.specs.declared.Layer.TheVariants as layers
use Rattle.heap_model.specs.declared.Opening.{Opening}
use Rattle.heap_model.specs.Limits.{AreValid}
use Rattle.heap_model.specs.Backend.{in_span}
use Rattle.heap_model.specs.Buckets.{block_size}
use Rattle.heap_model.specs.State.{Setting, State, Span, Place, GateAndLocks, is_among, is_entered, is_kind, is_live_of, address, has_address, exclusive_places, all_places, place_at}
use Rattle.heap_model.specs.CallState.{Configuration, caller_view}
use Rattle.heap_model.specs.Legal.{may_follow, after}
use Rattle.heap_model.specs.History.{configuration_of, configuration_after, first_configuration, may_all_follow, own}
use Rattle.heap_model.specs.Agreement.{GateIsSound}
use Rattle.heap_model.specs.Moments.{Moment, moments, Before}
use Rattle.heap_model.specs.Shape.{is_sized, Finds}
use Rattle.heap_model.proofs.GateSound.{row_of, gate_sound_act, gate_sound_after, gate_sound_first}
use Rattle.heap_model.proofs.ListLemmas.{for_some_parts}
use Rattle.heap_model.proofs.Moments.{moments-append}
use Rattle.heap_model.proofs.Others.{act_other}
use Rattle.heap_model.proofs.Undisturbed.{spans_stay}
use Rattle.heap_soundness.specs.Sound.{IsOneOf, IsInLfh, IsInLarge}
use Rattle.heap_soundness.specs.Invariant.{Keeps}
use Rattle.heap_soundness.proofs.Addresses.{exclusive_in_all, in_parts}
use Rattle.heap_soundness.proofs.Enums.{kind_is}
use Rattle.heap_soundness.proofs.Kept.{keeps_all}
use Rattle.heap_soundness.proofs.Layers.{lfh_end}
use Rattle.heap_soundness.proofs.Lists.{all_at, any_in, any_found, found_in, found_passes}
use Rattle.heap_soundness.proofs.Spans.{same_span}
use Rattle.heap_soundness.proofs.Steps.{bucket_pages_of}
use Rattle.heap_soundness.proofs.Whole.{LiesInSpan, HasAddress, in_vs, in_back, all_addresses}
use Rattle.claim_rule.specs.Entries.{IsSettingOf, IsLegalWith, setting_of, have_slots, is_named, entry}
use Rattle.claim_rule.proofs.Advance.{some_setting}
use Rattle.claim_rule.proofs.Lists.{after-append, follow_parts, legal_parts}
use Rattle.step_parts.proofs.BlockWords as words
use Rattle.step_parts.proofs.FrontEnd.{valid_setting, through_same}
use Rattle.block_steps.specs.Blocks.{MayAsk}
use Rattle.heap_gate.specs.Token.{Token, Always, now}
use Rattle.heap_gate.specs.Calls.{Runs, Stands, stance}
use Rattle.lfh_claims.specs.declared.tag.Tag.{Tag}
use Rattle.lfh_claims.specs.Blocks.{HasSize}
use Rattle.call_parts.specs.Calls.{IsServing, GoesOn, Makes}
use Rattle.call_parts.specs.Entries.{HasAdded, HasEnded}
use Rattle.call_parts.proofs.Joining.{goes_does, goes_none, setting_before}
use Rattle.call_parts.proofs.Tokens.{added_runs, added_then, makes}
use Rattle.stay_calls.specs.Stays.{HasNoRoomAt}
use Rattle.stay_calls.proofs.Histories.{joined, parts, met, met_follows, found_before, shown_added}
use Rattle.stay_calls.proofs.FrontStays.{before_more}

---- In a sound configuration

module _ (s : Setting) (m : Configuration) (w : Keeps s m) (c a : ℕ) (x : Span) (there : IsOneOf x m.state.back.area.spans) (kind : x.kind ≡ kinds.Lfh) (page : in_span (a / 4096) x ≡ true) (low : a < 1048576 * s.limits.segments)
    (p : Place) (at : place_at m.state c a ≡ Some p) where
  abbrev spans : List Span
  spans = m.state.back.area.spans

  among : IsOneOf p (all_places m.state)
  among = elim (in_parts p (exclusive_places m.state c) (all_places m.state) (found_in (has_address a) (exclusive_places m.state c ++ all_places m.state) p at)) [ inl j ↦ exclusive_in_all m.state c p j | inr j ↦ j ]

  starts : address p ≡ a
  starts = eqb-true (address p) a (found_passes (has_address a) (exclusive_places m.state c ++ all_places m.state) p at)

  bounds : HasAddress p
  bounds = all_at HasAddress p (all_places m.state) (all_addresses s m w) among

  over : (x.first ≤ a / 4096) × (a / 4096 < x.first + x.pages)
  over = let q = and_parts (leb x.first (a / 4096)) (ltb (a / 4096) (x.first + x.pages)) page in (leb-true x.first (a / 4096) q.0, ltb-true (a / 4096) (x.first + x.pages) q.1)

  -- the span that a place of the address lies in is this one
  same_home : (y : Span) → IsOneOf y spans → 4096 * y.first ≤ p.start → p.start + 16 * p.granules ≤ 4096 * (y.first + y.pages) → x ≡ y
  same_home y i l h =
      let e = starts in let b = bounds.low in let d = bounds.high in
      same_span 0 spans x y (a / 4096) w.heap.spans.in_order there i over.0 over.1 (omega (arith, e, b, l)) (omega (arith, e, d, h))

  of_kind : (kd : Kind) → LiesInSpan spans kd p → kd ≡ kinds.Lfh
  of_kind kd q = sym q.is ∙ (ap (λ (y : Span). y.kind) (sym (same_home q.span q.there q.low q.high)) ∙ kind)

  -- it is one of the front end, as long as the blocks of the subsegment
  pub record IsLong : Type 0 where
    pub layer : p.layer ≡ layers.Lfh
    pub long : 16 * p.granules ≡ block_size x.bucket

  in_front : IsOneOf p m.state.lfh → IsLong
  in_front i =
      let u = all_at (λ (y : Place). IsInLfh spans y.start y.granules) p m.state.lfh w.heap.lfh.places i in
      let e = lfh_end spans p.start p.granules (bucket_pages_of s m w.of_kinds) u in
      let same = same_home u.span u.there (let b = e.0 in omega (arith, b)) e.1 in
      record { layer = all_at (λ (y : Place). y.layer ≡ layers.Lfh) p m.state.lfh w.homes.lfh i; long = u.size ∙ ap (λ (y : Span). block_size y.bucket) (sym same) }

  pub is_long : IsLong
  is_long = elim (in_parts p (m.state.lfh ++ m.state.vs.places ++ m.state.back.places) m.state.large among) [
    | inl i ↦ elim (in_parts p (m.state.lfh ++ m.state.vs.places) m.state.back.places i) [
      | inl j ↦ elim (in_parts p m.state.lfh m.state.vs.places j) [
        | inl k ↦ in_front k
        | inr k ↦ let bad : kinds.Vs ≡ kinds.Lfh = of_kind kinds.Vs (all_at (LiesInSpan spans kinds.Vs) p m.state.vs.places (in_vs s m w) k) in absurd (let no : ⊥ = cc in no)
      ]
      | inr j ↦ let bad : kinds.Back ≡ kinds.Lfh = of_kind kinds.Back (all_at (LiesInSpan spans kinds.Back) p m.state.back.places (in_back s m w) j) in absurd (let no : ⊥ = cc in no)
    ]
    | inr i ↦
        let u = all_at (λ (y : Place). IsInLarge s.limits y.start y.granules) p m.state.large w.heap.large.places i in
        let b = u.begins in let e = starts in let d = bounds.low in
        absurd (omega (arith, b, e, d, low))
  ]

---- A subsegment that was read is still there

still_inside : (f g : GateAndLocks) (n : ℕ) → is_among n g.counted ≡ is_among n f.counted → is_among n g.turning ≡ is_among n f.turning → is_entered f n ≡ true → is_entered g n ≡ true
still_inside f g n a b h =
    let p = and_parts (is_among n f.counted) _ h in
    and_from (is_among n g.counted) _ (a ∙ p.0) (ap not b ∙ p.1)

passes_on : (s : Setting) (m : Configuration) (n : ℕ) (test : Span → Bool) (fs : List Entry) → ((x : Span) → test x ≡ true → is_kind x.kind kinds.Lfh ≡ true) → GateIsSound m.state.gate → may_all_follow s m fs ≡ true → own n fs ≡ [] → is_entered m.state.gate n ≡ true
    → list_any test m.state.back.area.spans ≡ true → list_any test (configuration_after s m fs).state.back.area.spans ≡ true
passes_on s m n test [] lfh g l o i e = e
passes_on s m n test (x ∷ fs) lfh g l o i e =
    let p = and_parts (may_follow s m x) (may_all_follow s (after s m x) fs) l in
    let row = row_of s m x p.0 in
    let gate = gate_sound_act s m x.caller x.act row g in
    let there = spans_stay s m n x.caller x.act test lfh g i row e in
    elim (cases_Bool (eqb x.caller n)) [
      | inl y ↦ let bad : x ∷ own n fs ≡ [] = rw y at o in absurd (let no : ⊥ = cc in no)
      | inr y ↦
          let r = act_other s m x.caller n x.act (eqb-false x.caller n y) row g in
          passes_on s (after s m x) n test fs lfh gate p.1 (rw y at o) (still_inside m.state.gate (after s m x).state.gate n r.counted r.turning i) there
    ]

named_front : (k : ℕ) (xs ys : List Entry) → is_named k (xs ++ ys) ≡ true → is_named k xs ≡ true
named_front k [] ys h = refl
named_front k (x ∷ xs) ys h = let p = and_parts (nat_lt x.caller k) (is_named k (xs ++ ys)) h in and_from (nat_lt x.caller k) (is_named k xs) p.0 (named_front k xs ys p.1)

---- The caller

module _ (a b e : Token) (own_call : Call) (tag : Tag) (addr size n : ℕ) (flags : Flags) (v : IsServing a own_call []) (there : addr < 1048576 * a.opening.limits.segments) (may : Always a (λ s. MayAsk (now s a) a.number tag.head tag.bucket tag.slot addr))
    (x : HasSize a b addr size) (heard : Runs b e []) (stands : Stands e (stance b)) (valid : AreValid a.opening.limits) (slots : have_slots e.opening.limits.slots e.roll ≡ true) (names : is_named (length e.roll) e.seen ≡ true)
    (legal_b : IsLegalWith b.opening b.roll b.seen) (legal : IsLegalWith e.opening e.roll e.seen) where
  abbrev sized : List Rattle.heap_model.specs.declared.Act.Act
  sized = acts.Sized addr size ∷ []

  size_added : HasAdded a b sized
  size_added = added_runs a b sized x.runs x.stands

  pub told : GoesOn a b sized
  told = goes_does a b sized x.runs.does x.stands.depth

  abbrev pub its : List Entry
  its = (parts a b (acts.Sized addr size) [] told v.prepared x.stands.prepared legal_b).0

  -- all that came before the entry
  abbrev all : List Entry
  all = a.seen ++ its

  rest : (more : List Entry) × (e.seen ≡ all ++ more)
  rest =
      let z = parts a b (acts.Sized addr size) [] told v.prepared x.stands.prepared legal_b in
      let tail = entry a.number (acts.Sized addr size) ∷ z.1 in (
        tail ++ heard.does.seen.0,
        sym heard.does.seen.1
            ∙ (ap (λ (l : List Entry). l ++ heard.does.seen.0) (sym told.seen.1 ∙ (ap (λ (l : List Entry). a.seen ++ l) z.2 ∙ sym (append_assoc a.seen its tail)))
            ∙ append_assoc all tail heard.does.seen.0),
      )

  opening_same : e.opening ≡ a.opening
  opening_same = heard.does.opening ∙ x.runs.does.opening

  abbrev home : Setting
  home = setting_of e.opening e.roll

  module _ (s : Setting) (q : IsSettingOf e.opening e.roll s) where
    abbrev k : Configuration
    k = met a b (acts.Sized addr size) [] told v.prepared x.stands.prepared legal_b s

    qb : IsSettingOf b.opening b.roll s
    qb = setting_before b e [] (goes_does b e [] heard.does stands.depth) s q

    qa : IsSettingOf a.opening a.roll s
    qa = setting_before a b sized told s qb

    parts_legal : may_all_follow s first_configuration all ≡ true
    parts_legal = (follow_parts s first_configuration all rest.0 (ap (may_all_follow s first_configuration) (sym rest.1) ∙ (legal_parts s e.seen (legal s q)).0)).0

    its_legal : (may_all_follow s first_configuration a.seen ≡ true) × (may_all_follow s (configuration_of s a.seen) its ≡ true)
    its_legal = follow_parts s first_configuration a.seen its parts_legal

    now_is : now s a ≡ configuration_of s a.seen
    now_is = ap (configuration_after s (configuration_of s a.seen)) v.prepared

    abbrev test : Span → Bool
    test y = (is_kind y.kind kinds.Lfh && (y.bucket == tag.bucket)) && in_span (addr / 4096) y

    seen_there : (y : Span) × IsOneOf y k.state.back.area.spans × (test y ≡ true)
    seen_there =
        let z = may s qa in
        let is = words.in_lfh (now s a).state.back.area.spans z.seen.span z.seen.there in
        let passes : test z.seen.span ≡ true = and_from _ (in_span (addr / 4096) z.seen.span) (and_from (is_kind z.seen.span.kind kinds.Lfh) (z.seen.span.bucket == tag.bucket) (ap (λ (j : Kind). is_kind j kinds.Lfh) is.1) (eq-eqb z.seen.span.bucket tag.bucket z.seen.bucket)) z.has_page in
        let there_now : list_any test (configuration_of s a.seen).state.back.area.spans ≡ true = ap (λ (m : Configuration). list_any test m.state.back.area.spans) (sym now_is) ∙ any_in test (now s a).state.back.area.spans z.seen.span is.0 passes in
        let inside : is_entered (configuration_of s a.seen).state.gate a.number ≡ true = ap (λ (m : Configuration). is_entered m.state.gate a.number) (sym now_is) ∙ z.inside in
        any_found test k.state.back.area.spans
        (passes_on s (configuration_of s a.seen) a.number test its (λ y h. (and_parts (is_kind y.kind kinds.Lfh) _ (and_parts _ (in_span (addr / 4096) y) h).0).0) (gate_sound_after s first_configuration a.seen its_legal.0 gate_sound_first) its_legal.1
        (parts a b (acts.Sized addr size) [] told v.prepared x.stands.prepared legal_b).3 inside there_now)

    -- the same configuration, in a setting that is valid
    k_is : k ≡ configuration_of home all
    k_is =
        sym (after-append s first_configuration a.seen its)
        ∙ through_same s home (length e.roll) first_configuration all (λ c lt. record { seed = q.seed; slot = q.slot c lt; stream = q.stream c lt })
        (named_front (length e.roll) all rest.0 (ap (is_named (length e.roll)) (sym rest.1) ∙ names))

    sound : Keeps home (configuration_of home all)
    sound =
        let ok = valid_setting e.opening e.roll (subst (λ (o : Opening). AreValid o.limits) (sym opening_same) valid) slots in
        keeps_all home all ok (follow_parts home first_configuration all rest.0 (ap (may_all_follow home first_configuration) (sym rest.1) ∙ (legal_parts home e.seen (legal home (some_setting e.opening e.roll))).0)).0

    pub row : (p : Place) × (place_at k.state a.number addr ≡ Some p) × (is_live_of size p.status ≡ true)
    row =
        for_some_parts (place_at k.state a.number addr) (λ p. is_live_of size p.status)
        (and_parts (caller_view k a.number).entered _ (row_of s k (entry a.number (acts.Sized addr size)) (met_follows a b (acts.Sized addr size) [] told v.prepared x.stands.prepared legal_b s qb))).1

    pub cannot_stay : (leb n 16368 && leb n (block_size tag.bucket)) ≡ false → Finds s a.number addr n row.0 false k.state
    cannot_stay leaves =
        let y = seen_there in
        let t = and_parts (is_kind y.0.kind kinds.Lfh && (y.0.bucket == tag.bucket)) (in_span (addr / 4096) y.0) y.2 in
        let kb = and_parts (is_kind y.0.kind kinds.Lfh) (y.0.bucket == tag.bucket) t.0 in
        let low : addr < 1048576 * home.limits.segments = subst (λ (o : Opening). addr < 1048576 * o.limits.segments) (sym opening_same) there in
        let z = is_long home (configuration_of home all) sound a.number addr y.0 (subst (λ (m : Configuration). IsOneOf y.0 m.state.back.area.spans) k_is y.1) (kind_is y.0.kind kinds.Lfh kb.0) t.1 low row.0
        (subst (λ (m : Configuration). place_at m.state a.number addr ≡ Some row.0) k_is row.1) in
        let f = z.layer in
        let long : 16 * row.0.granules ≡ block_size tag.bucket = z.long ∙ ap block_size (eqb-true y.0.bucket tag.bucket kb.1) in
        (row.1, rw f (ap (λ (g : ℕ). leb n 16368 && leb n g) long ∙ leaves))

  ---- The answer

  both : HasAdded a e sized
  both = added_then a b e sized [] size_added (added_runs b e [] heard stands)

  module _ (call_is : a.call ≡ Some (calls.Realloc addr n flags)) (in_place : flags.in_place ≡ true) (leaves : (leb n 16368 && leb n (block_size tag.bucket)) ≡ false) where
    ended : HasEnded a e sized []
    ended = record {
      added = both;
      out_is = stands.out ∙ (x.stands.out ∙ v.out_is);
      whole = stands.whole;
      free = stands.free ∙ (x.stands.free ∙ v.free);
      pending = stands.pending;
      prepared = stands.prepared;
    }

    made : Makes a e (calls.Realloc addr n flags) sized
    made = makes a e (calls.Realloc addr n flags) own_call [] sized sized v call_is ended refl refl

    pub refused : HasNoRoomAt a e addr n flags
    refused = (
      in_place,
      record {
        shape = sized;
        makes = made;
        told = λ s q.
            let z = row s q in let P : State → Type 0 = Finds s a.number addr n z.0 false in
            let m0 = configuration_of s a.seen in
            let first = told.seen in let later = heard.does.seen in
            let qb' = setting_before b e [] (goes_does b e [] heard.does stands.depth) s q in
            let h : Before is_sized P (moments s a.number m0 first.0) =
            found_before a b (acts.Sized addr size) [] told v.prepared x.stands.prepared legal_b s qb' a [] (goes_none a) v.prepared first is_sized refl refl P (cannot_stay s q leaves) in
            record {
              old = z.0;
              size = size;
              leaves = subst (λ (l : List Moment). Before is_sized P l) (sym (ap (moments s a.number m0) (joined a.seen b.seen e.seen made.goes.seen first later) ∙ moments-append s a.number m0 first.0 later.0))
                  (before_more is_sized P (moments s a.number m0 first.0) (moments s a.number (configuration_after s m0 first.0) later.0) h);
              acts_are = shown_added a e sized ended.added.goes v.prepared stands.prepared made.goes.seen s m0;
            };
      },
    )
