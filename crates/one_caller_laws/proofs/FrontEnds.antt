-- A block of the front end that a call places: the one that its search has picked, or one of a span that is made for it.
use Rattle.std.proofs.Common.{◌≡◌, ℕ, ◌*◌, ◌/◌, ◌-◌, ◌<◌, ◌≤◌, Bool, true, false, ◌&&◌, ◌||◌, not, List, ◌∷◌, Option, Some, refl, sym, ap, ◌∙◌, subst, inl, inr, arith, eqb}
use Rattle.std.specs.List.{find, list_any}
use Rattle.std.proofs.lemmas.Bool.{cases_Bool, cases_eq, and_parts, false≢true, true≢false, eq-eqb, ne_eqb, eqb-true}
use Rattle.heap_model.specs.declared.Act.{Act}
use Rattle.heap_model.specs.declared.Act.TheVariants as acts
use Rattle.heap_model.specs.declared.Call.{Call}
use Rattle.heap_model.specs.declared.Kind.{Kind}
use Rattle.heap_model.specs.declared.Kind.TheVariants as kinds
use Rattle.heap_model.specs.declared.Layer.{Layer}
use Rattle.heap_model.specs.declared.Layer.TheVariants as layers
use Rattle.heap_model.specs.Buckets.{bucket_of, bucket_pages, block_size, block_count, block_address}
use Rattle.heap_model.specs.Bits.{starts_at}
use Rattle.heap_model.specs.State.{Setting, Span}
use Rattle.heap_model.specs.Stay.{for_some, is_some_of}
use Rattle.heap_model.specs.Backend.{back_place}
use Rattle.heap_model.specs.Ranges.{gaps}
use Rattle.heap_model.specs.CallState.{Stage, NotBegun, AtHint, FirstPass, SecondPass, CallState, Configuration, Nothing, caller_view}
use Rattle.heap_model.specs.Search.{search_key_of, request_of, asked_by, hint, hint_or, first_of, spans_of, is_span_of, last_read, may_claim, own_block, is_spent, after_own_span, has_not_begun}
use Rattle.heap_model.specs.Legal.{may_follow, after, is_picked_in, is_lfh_over, hints_with, put_hint, is_layer_of, lies_in, with_span, step_search}
use Rattle.heap_model.specs.Alone.{by_zero, configuration_by}
use Rattle.heap_model.specs.Shape.{shape_of}
use Rattle.heap_model.proofs.GateSound.{row_of}
use Rattle.heap_model.proofs.ListLemmas.{is_some_of_parts, filter-insert_span}
use Rattle.heap_soundness.specs.Sound.{IsOneOf, IsSoundSpan}
use Rattle.heap_soundness.proofs.Lists.{all_at, any_found}
use Rattle.heap_soundness.proofs.Spans.{made_in}
use Rattle.heap_soundness.proofs.RowLemmas.{span_row}
use Rattle.heap_soundness.proofs.MadeSpans.{bucket_is as bucket_in_range}
use Rattle.search_laws.specs.Calls.{hint_put, lfh_span}
use Rattle.search_laws.proofs.Blocks.{some_size}
use Rattle.search_laws.proofs.NewSpan.{some_blocks, own_below}
use Rattle.search_laws.proofs.Placing.{over_is}
use Rattle.one_caller_laws.specs.UnderBack.{is_of_pass, is_under_back}
use Rattle.one_caller_laws.proofs.Whole.{used_inserted}
use Rattle.one_caller_laws.proofs.Core.{Core, core_of}
use Rattle.one_caller_laws.proofs.InCall.{InCall, IsWhole}
use Rattle.one_caller_laws.proofs.Reach.{Goes, goes_after, may_first, place_follows}
use Rattle.one_caller_laws.proofs.Pair.{within_next}
use Rattle.one_caller_laws.proofs.Ways.{Spot}
use Rattle.one_caller_laws.proofs.Makes.{placed_core}
use Rattle.one_caller_laws.proofs.Expected.{key_in}
use Rattle.one_caller_laws.proofs.Turns.{Seeking, HintIs, IsSpanOf, span_of, shown_free, searching, bucket_asked}

---- Hints, one of them put

or_put : (H F : ℕ → ℕ → Option ℕ) (b t first x u : ℕ) → hint_or (hint_put H b t first x u) (F x u) ≡ hint_put (λ y v. hint_or (H y v) (F y v)) b t first x u
or_put H F b t first x u = elim (cases_eq x b) [
  | inr ne ↦ let e = ne_eqb x b ne in rw e refl
  | inl same ↦ subst (λ (y : ℕ). hint_or (hint_put H b t first y u) (F y u) ≡ hint_put (λ y v. hint_or (H y v) (F y v)) b t first y u) (sym same) here
]
  where
    here : hint_or (hint_put H b t first b u) (F b u) ≡ hint_put (λ y v. hint_or (H y v) (F y v)) b t first b u
    here = let e = eq-eqb b b refl in rw e (elim (cases_Bool (eqb u t)) [ inl f ↦ rw f refl | inr f ↦ rw f refl ])

-- the same one, put again
put_again : (H : ℕ → ℕ → Option ℕ) (b t first x u : ℕ) → H b t ≡ Some first → H x u ≡ hint_put H b t first x u
put_again H b t first x u h = elim (cases_eq x b) [
  | inr ne ↦ let e = ne_eqb x b ne in rw e refl
  | inl same ↦ subst (λ (y : ℕ). H y u ≡ hint_put H b t first y u) (sym same) (here u)
]
  where
    here : (u : ℕ) → H b u ≡ hint_put H b t first b u
    here u = let e = eq-eqb b b refl in rw e (elim (cases_eq u t) [
      | inr ne ↦ let f = ne_eqb u t ne in rw f refl
      | inl same ↦ let f = eq-eqb u t same in rw f (ap (H b) same ∙ h)
    ])

pub put_same : (G H : ℕ → ℕ → Option ℕ) (b t first x u : ℕ) → ((x ≡ b → u ≡ t → ⊥) → G x u ≡ H x u) → hint_put G b t first x u ≡ hint_put H b t first x u
put_same G H b t first x u h = elim (cases_eq x b) [
  | inr ne ↦ let e = ne_eqb x b ne in rw e (h (λ p q. ne p))
  | inl same ↦ let e = eq-eqb x b same in rw e (elim (cases_eq u t) [
    | inl also ↦ let f = eq-eqb u t also in rw f refl
    | inr ne ↦ let f = ne_eqb u t ne in rw f (subst (λ (y : ℕ). G y u ≡ H y u) same (h (λ p q. ne q)))
  ])
]

---- What a call has in hand behind its place

pub record Got (s : Setting) (call : Call) (m : Configuration) (rest : List Act) (start granules : ℕ) (layer : Layer) (d : Core) (H : ℕ → ℕ → Option ℕ) : Type 0 where
  pub at : Configuration
  pub later : List Act
  pub within : InCall s call at
  pub core : core_of at ≡ d
  pub whole : IsWhole (core_of at)
  pub demand : at.now.demand ≡ Nothing
  pub hints : (b t : ℕ) → hint at.state.back.area at.now.span_history b t ≡ H b t
  pub goes : Goes s at later
  pub shape : shape_of rest ≡ acts.Place start granules layer ∷ shape_of later
  pub ends : configuration_by s m rest ≡ configuration_by s at later

size_by_granules : (granules size : ℕ) → 16 * granules ≡ size → granules ≡ size / 16
size_by_granules granules size e = omega arith

in_front : (l : Layer) → is_layer_of kinds.Lfh l ≡ true → l ≡ layers.Lfh
in_front layers.Lfh h = refl
in_front layers.Vs h = absurd (false≢true h)
in_front layers.Back h = absurd (false≢true h)
in_front layers.Large h = absurd (false≢true h)

abbrev pub hints_at_all : Configuration → ℕ → ℕ → Option ℕ
hints_at_all m = hint m.state.back.area m.now.span_history

-- a place of the front end, made under Back in this span, is the hint of its bucket and slot then
hint_under_back : (s : Setting) (m : Configuration) (x : Span) (b t start granules p q : ℕ) → x.bucket ≡ b → x.slot ≡ t → (caller_view m 0).back ≡ true → find (is_lfh_over start) m.state.back.area.spans ≡ Some x →
    hints_at_all (after s m (by_zero (acts.Place start granules layers.Lfh))) p q ≡ hint_put (hints_at_all m) b t x.first p q
hint_under_back s m x b t start granules p q bucket slot back over =
    let r = m.now.span_history in
    let a = m.state.back.area in
    let e : (put_hint a r start (caller_view m 0).back).hints ≡ hint_put r.hints b t x.first =
    ap (λ (v : Bool). (put_hint a r start v).hints) back ∙ ap (hints_with r.hints) over ∙ (λ i. hint_put r.hints (bucket i) (slot i) x.first) in
    ap (λ (H : ℕ → ℕ → Option ℕ). hint_or (H p q) (first_of (spans_of a p q))) e ∙ or_put r.hints (λ y v. first_of (spans_of a y v)) b t x.first p q

module _ (s : Setting) (call : Call) (n b : ℕ) (asked_is : asked_by call ≡ Some n) (bucket : bucket_of n ≡ Some b) (h : Option ℕ) where
  ---- The row of a place of the front end

  pub record Claims (m : Configuration) (start granules : ℕ) : Type 0 where
    pub span : Span
    pub there : IsOneOf span (spans_of m.state.back.area b (s.slot 0))
    pub index : ℕ
    pub picked : (m.now.calls 0).search.picked ≡ Some index
    pub read : last_read (m.now.calls 0).search ≡ Some span.first
    pub active : m.state.vs.active b ≡ true
    pub starts : start ≡ block_address b span.first index
    pub long : granules ≡ block_size b / 16

  pub claims : (m : Configuration) (start granules : ℕ) → InCall s call m → may_follow s m (by_zero (acts.Place start granules layers.Lfh)) ≡ true → Claims m start granules
  claims m start granules w x =
      let v = caller_view m 0 in
      let a = m.state.back.area in
      let f = (m.now.calls 0).search in
      let r = and_parts (v.entered && not (starts_at m.state.lfh start)) (for_some (request_of s m 0).search (λ b. list_any (is_picked_in b f start granules) (spans_of a b (s.slot 0)))) (row_of s m (by_zero (acts.Place start granules layers.Lfh)) x) in
      let q = searching s call n b asked_is bucket h m (λ b. list_any (is_picked_in b f start granules) (spans_of a b (s.slot 0))) w r.1 in
      let y = any_found (is_picked_in b f start granules) (spans_of a b (s.slot 0)) q.0 in
      let i = (start - block_address b y.0.first 0) / block_size b in
      let p1 = and_parts (may_claim f y.0.first i && eqb start (block_address b y.0.first i)) (eqb (16 * granules) (block_size b)) y.2 in
      let p2 = and_parts (may_claim f y.0.first i) (eqb start (block_address b y.0.first i)) p1.0 in
      let p3 = and_parts (is_some_of f.picked i) (is_some_of (last_read f) y.0.first) p2.0 in
      record {
        span = y.0;
        there = y.1;
        index = i;
        picked = is_some_of_parts f.picked i p3.0;
        read = is_some_of_parts (last_read f) y.0.first p3.1;
        active = q.1;
        starts = eqb-true start (block_address b y.0.first i) p2.1;
        long = size_by_granules granules (block_size b) (eqb-true (16 * granules) (block_size b) p1.1);
      }

  ---- The block that a search has picked

  abbrev pub claimed_core : Core → ℕ → ℕ → Core
  claimed_core c first index = placed_core c c.back.area (block_address b first index) (block_size b / 16) layers.Lfh

  abbrev Claimed : Configuration → List Act → ℕ → ℕ → Type 0
  Claimed m rest first index = Got s call m rest (block_address b first index) (block_size b / 16) layers.Lfh (claimed_core (core_of m) first index) (hint_put (hints_at_all m) b (s.slot 0) first)

  pub claimed : (m : Configuration) (start granules : ℕ) (later : List Act) → InCall s call m → IsWhole (core_of m) → Seeking s b h (core_of m) → HintIs s call n b asked_is bucket h m → Goes s m (acts.Place start granules layers.Lfh ∷ later) → is_under_back m (acts.Place start granules layers.Lfh) ≡ true →
      (c : Claims m start granules) → Claimed m (acts.Place start granules layers.Lfh ∷ later) c.span.first c.index
  claimed m start granules later w whole k hint_is g under c =
      let e = c.starts in
      let l = c.long in
      let act : acts.Place start granules layers.Lfh ≡ acts.Place (block_address b c.span.first c.index) (block_size b / 16) layers.Lfh = λ i. acts.Place (e i) (l i) layers.Lfh in
      subst (λ (a : Act). Claimed m (a ∷ later) c.span.first c.index) (sym act) (there (subst (λ (a : Act). Goes s m (a ∷ later)) act g))
    where
      place : Act
      place = acts.Place (block_address b c.span.first c.index) (block_size b / 16) layers.Lfh

      x : IsSpanOf m.state.back.area b (s.slot 0) c.span
      x = span_of m.state.back.area b (s.slot 0) c.span c.there

      range : (1 ≤ b) × (b ≤ 128)
      range = bucket_in_range (Some n) b bucket

      pages : c.span.pages ≡ bucket_pages b
      pages =
          let z = all_at (λ y. IsSoundSpan s m.state.vs.active y y.kind) c.span m.state.back.area.spans w.keeps.of_kinds x.there in
          let y = subst (λ (q : Kind). IsSoundSpan s m.state.vs.active c.span q) x.kind z in
          y.pages ∙ ap bucket_pages x.bucket

      below : c.index < block_count b
      below = let y = k.seeks.picked c.index c.picked in (shown_free m.state.lfh (key_in s (core_of m) b) y.span (span_of m.state.back.area b (s.slot 0) y.span y.there).bucket y.behind c.index y.shows).below

      over : find (is_lfh_over (block_address b c.span.first c.index)) m.state.back.area.spans ≡ Some c.span
      over = over_is m.state.back.area.spans b c.span c.index w.keeps.heap.spans.in_order x.there x.kind pages (some_size b range.0 range.1) below

      at_hint : (t : Stage) → (m.now.calls 0).search.stage ≡ t → (not (is_of_pass t) || false) ≡ true → h ≡ Some c.span.first
      at_hint NotBegun st u = absurd (true≢false (sym (ap has_not_begun st) ∙ (k.seeks.picked c.index c.picked).begun))
      at_hint AtHint st u = k.seeks.hinted st c.span.first c.read
      at_hint FirstPass st u = absurd (false≢true u)
      at_hint SecondPass st u = absurd (false≢true u)

      hints : (p q : ℕ) → hints_at_all (after s m (by_zero place)) p q ≡ hint_put (hints_at_all m) b (s.slot 0) c.span.first p q
      hints p q = elim (cases_Bool (caller_view m 0).back) [
        | inl back ↦ hint_under_back s m c.span b (s.slot 0) (block_address b c.span.first c.index) (block_size b / 16) p q x.bucket x.slot back over
        | inr free ↦
            let r = m.now.span_history in
            let a = m.state.back.area in
            let is : hints_at_all m b (s.slot 0) ≡ Some c.span.first = hint_is ∙ at_hint (m.now.calls 0).search.stage refl (ap (λ (v : Bool). not (is_of_pass (m.now.calls 0).search.stage) || v) (sym free) ∙ under) in
            ap (λ (v : Bool). hint_or ((put_hint a r (block_address b c.span.first c.index) v).hints p q) (first_of (spans_of a p q))) free
            ∙ put_again (hints_at_all m) b (s.slot 0) c.span.first p q is
      ]

      there : Goes s m (place ∷ later) → Claimed m (place ∷ later) c.span.first c.index
      there g = record {
        at = after s m (by_zero place);
        later = later;
        within = within_next s call m place later w g;
        core = refl;
        whole = record { vs = whole.vs; back = whole.back };
        demand = refl;
        hints = hints;
        goes = goes_after s m place later g;
        shape = refl;
        ends = refl;
      }

  ---- A span that is made for it

  abbrev pub new_span : ℕ → Span
  new_span first = lfh_span first b (s.slot 0)

  abbrev pub with_own : Core → Spot → Core
  with_own c x = record c { back = record { area = with_span x.area (new_span x.first); places = c.back.places }; search = after_own_span (key_in s c b) c.search x.first }

  abbrev pub own_index : Core → ℕ
  own_index c = own_block (key_in s c b)

  abbrev pub owned_core : Core → Spot → Core
  owned_core c x = placed_core (with_own c x) (with_span x.area (new_span x.first)) (block_address b x.first (own_index c)) (block_size b / 16) layers.Lfh

  abbrev pub Owned : Configuration → List Act → Core → Spot → Type 0
  Owned m rest c x = Got s call m rest (block_address b x.first (own_index c)) (block_size b / 16) layers.Lfh (owned_core c x) (hint_put (hints_at_all m) b (s.slot 0) x.first)

  pub record OwnRow (m : Configuration) (first pages q slot : ℕ) : Type 0 where
    pub bucket_is : q ≡ b
    pub slot_is : slot ≡ s.slot 0
    pub pages_are : pages ≡ bucket_pages b
    pub spent : is_spent m.state.back.area (caller_view m 0) (key_in s (core_of m) b) ≡ true
    pub active : m.state.vs.active b ≡ true
    pub place : back_place m.state.back.area s.limits.segments (bucket_pages b) ≡ Some first
    pub reserved : first / 256 < m.state.back.area.reserved
    pub back : (caller_view m 0).back ≡ true

  pub own_row : (m : Configuration) (first pages q slot : ℕ) → InCall s call m → may_follow s m (by_zero (acts.Span first pages kinds.Lfh q slot)) ≡ true → OwnRow m first pages q slot
  own_row m first pages q slot w x =
      let v = caller_view m 0 in
      let a = m.state.back.area in
      let r = span_row s a (gaps m.state) 0 v (request_of s m 0) (record { first = first; pages = pages; kind = kinds.Lfh; bucket = q; slot = slot }) (row_of s m (by_zero (acts.Span first pages kinds.Lfh q slot)) x) in
      let o = searching s call n b asked_is bucket h m (λ b. eqb q b && is_spent a v (search_key_of s 0 (m.now.calls 0) b) && eqb pages (bucket_pages b)) w r.owner in
      let p1 = and_parts (eqb q b && is_spent a v (key_in s (core_of m) b)) (eqb pages (bucket_pages b)) o.0 in
      let p2 = and_parts (eqb q b) (is_spent a v (key_in s (core_of m) b)) p1.0 in
      let e = eqb-true pages (bucket_pages b) p1.1 in
      record {
        bucket_is = eqb-true q b p2.0;
        slot_is = eqb-true slot (s.slot 0) r.names;
        pages_are = e;
        spent = p2.1;
        active = o.1;
        place = ap (back_place a s.limits.segments) (sym e) ∙ r.place;
        reserved = r.reserved;
        back = r.holds;
      }

  module _ (m : Configuration) (first : ℕ) (later : List Act) (w : InCall s call m) (whole : IsWhole (core_of m)) (back : (caller_view m 0).back ≡ true) where
    abbrev span_act : Act
    span_act = acts.Span first (bucket_pages b) kinds.Lfh b (s.slot 0)

    abbrev made : Configuration
    made = after s m (by_zero span_act)

    abbrev spot : Spot
    spot = record { area = m.state.back.area; first = first }

    abbrev with_call : Core → CallState → Core
    with_call c k = record c { call = k.call; placed = k.placed; no_span = k.no_span; earlier = k.searches; search = k.search }

    made_core : core_of made ≡ with_own (core_of m) spot
    made_core = ap (λ (o : Option ℕ). with_call (with_own (core_of m) spot) (step_search s 0 (m.now.calls 0) (λ g f. after_own_span g f first) o)) (bucket_asked s call n b asked_is bucket h m w)

    placed_in : (later : List Act) → Goes s m (span_act ∷ acts.Place (block_address b first (own_index (core_of m))) (block_size b / 16) layers.Lfh ∷ later) → Owned m (span_act ∷ acts.Place (block_address b first (own_index (core_of m))) (block_size b / 16) layers.Lfh ∷ later) (core_of m) spot
    placed_in later g =
        let i = own_index (core_of m) in
        let start = block_address b first i in
        let place = acts.Place start (block_size b / 16) layers.Lfh in
        let range = bucket_in_range (Some n) b bucket in
        let w1 = within_next s call m span_act (place ∷ later) w g in
        let g1 = goes_after s m span_act (place ∷ later) g in
        let a1 = with_span m.state.back.area (new_span first) in
        let over = over_is a1.spans b (new_span first) i w1.keeps.heap.spans.in_order (made_in (new_span first) m.state.back.area.spans) refl refl (some_size b range.0 range.1) (own_below (key_in s (core_of m) b) (some_blocks b range.0 range.1)) in
        record {
          at = after s made (by_zero place);
          later = later;
          within = within_next s call made place later w1 g1;
          core = ap (λ (c : Core). placed_core c a1 start (block_size b / 16) layers.Lfh) made_core;
          whole = record {
            vs = used_inserted kinds.Vs m.state.vs.places (new_span first) m.state.back.area.spans refl whole.vs;
            back = used_inserted kinds.Back m.state.back.places (new_span first) m.state.back.area.spans refl whole.back;
          };
          demand = refl;
          hints = λ p q.
              hint_under_back s made (new_span first) b (s.slot 0) start (block_size b / 16) p q refl refl back over
              ∙ put_same (hints_at_all made) (hints_at_all m) b (s.slot 0) first p q (λ ne.
              ap (λ (ys : List Span). hint_or (m.now.span_history.hints p q) (first_of ys)) (filter-insert_span (is_span_of p q) (new_span first) m.state.back.area.spans (other p q ne)));
          goes = goes_after s made place later g1;
          shape = refl;
          ends = refl;
        }
      where
        other : (p q : ℕ) → (p ≡ b → q ≡ s.slot 0 → ⊥) → is_span_of p q (new_span first) ≡ false
        other p q ne = elim (cases_eq b p) [
          | inr away ↦ let e = ne_eqb b p away in rw e refl
          | inl same ↦ let e = eq-eqb b p same in let f = ne_eqb (s.slot 0) q (λ z. ne (sym same) (sym z)) in rw (e, f) refl
        ]

    pub owned : Goes s m (span_act ∷ later) → Owned m (span_act ∷ later) (core_of m) spot
    owned g =
        let w1 = within_next s call m span_act later w g in
        let g1 = goes_after s m span_act later g in
        let p = place_follows s made later (new_span first) g1 refl in
        let q1 = and_parts (is_layer_of kinds.Lfh p.layer && lies_in 4096 (new_span first) (Rattle.one_caller_laws.proofs.Makes.made p.start p.granules p.layer)) _ p.meets in
        let l = in_front p.layer (and_parts (is_layer_of kinds.Lfh p.layer) (lies_in 4096 (new_span first) (Rattle.one_caller_laws.proofs.Makes.made p.start p.granules p.layer)) q1.0).0 in
        let is1 : later ≡ acts.Place p.start p.granules layers.Lfh ∷ p.later = p.is ∙ ap (λ (l : Layer). acts.Place p.start p.granules l ∷ p.later) l in
        let c = claims made p.start p.granules w1 (may_first s made (acts.Place p.start p.granules layers.Lfh) p.later (subst (Goes s made) is1 g1)) in
        let e1 : Some c.index ≡ Some (own_index (core_of m)) = sym c.picked ∙ ap (λ (c : Core). c.search.picked) made_core in
        let index : c.index ≡ own_index (core_of m) = cc in
        let e2 : Some c.span.first ≡ Some first = sym c.read ∙ ap (λ (c : Core). last_read c.search) made_core in
        let head : c.span.first ≡ first = cc in
        let st = c.starts ∙ (λ i. block_address b (head i) (index i)) in
        let gr = c.long in
        let is2 : later ≡ acts.Place (block_address b first (own_index (core_of m))) (block_size b / 16) layers.Lfh ∷ p.later = is1 ∙ (λ i. acts.Place (st i) (gr i) layers.Lfh ∷ p.later) in
        subst (λ (t : List Act). Owned m (span_act ∷ t) (core_of m) spot) (sym is2) (placed_in p.later (subst (λ (t : List Act). Goes s m (span_act ∷ t)) is2 g))
