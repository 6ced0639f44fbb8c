-- What the first act behind a search tells: the block is the one that was picked, one of a new span, one of the variable-size layer, or none.
use Rattle.std.proofs.Common.{◌≡◌, ◌⊎◌, ℕ, ◌*◌, ◌/◌, ◌<◌, ◌≤◌, Bool, true, false, ◌&&◌, ◌||◌, not, List, ◌∷◌, Option, Some, None, refl, sym, ap, ◌∙◌, subst, inl, inr, arith, eqb, ltb}
use Rattle.std.specs.Prelude.{filter, is_none, is_some}
use Rattle.std.proofs.lemmas.Bool.{cases_Bool, and_parts, false≢true, eqb-true, ltb-true}
use Rattle.heap_model.specs.declared.Act.{Act}
use Rattle.heap_model.specs.declared.Act.TheVariants as acts
use Rattle.heap_model.specs.declared.Call.{Call}
use Rattle.heap_model.specs.declared.Kind.{Kind}
use Rattle.heap_model.specs.declared.Kind.TheVariants as kinds
use Rattle.heap_model.specs.declared.Layer.{Layer}
use Rattle.heap_model.specs.declared.Layer.TheVariants as layers
use Rattle.heap_model.specs.Geometry.{Route, Small, route_of, is_small, is_variable, is_paged, is_huge, pages_of}
use Rattle.heap_model.specs.Buckets.{bucket_of, bucket_pages, block_size, block_address}
use Rattle.heap_model.specs.State.{Setting, Area, Span, is_kind}
use Rattle.heap_model.specs.Stay.{for_some, is_some_of}
use Rattle.heap_model.specs.Backend.{back_place}
use Rattle.heap_model.specs.Ranges.{gaps, large_place}
use Rattle.heap_model.specs.CallState.{Stage, NotBegun, AtHint, FirstPass, SecondPass, Search, Configuration, CallerView, Nothing, caller_view}
use Rattle.heap_model.specs.Search.{SearchKey, request_of, asked, asked_by, first_of, spans_of, is_span_of, is_read, last_read, is_spent, all_read_at}
use Rattle.heap_model.specs.Legal.{may_follow, after, is_layer_of, lies_in, with_span, goes_to_lfh, cannot_be_served, fits_none, may_place_small, is_vs_place, has_no_range, has_no_vs_range, is_back_due}
use Rattle.heap_model.specs.Alone.{by_zero}
use Rattle.heap_model.proofs.GateSound.{row_of}
use Rattle.heap_model.proofs.ListLemmas.{for_some_parts, is_some_of_parts, filter-insert_span}
use Rattle.heap_soundness.proofs.RowLemmas.{span_row, paged_above, huge_above}
use Rattle.serial_laws.specs.BackCalls.{one_more_reserved}
use Rattle.search_laws.proofs.Blocks.{bucket_fits}
use Rattle.one_caller_laws.specs.UnderBack.{is_under_back, place_under_back}
use Rattle.one_caller_laws.proofs.Core.{core_of}
use Rattle.one_caller_laws.proofs.InCall.{InCall, IsWhole}
use Rattle.one_caller_laws.proofs.Reach.{Goes, goes_after, may_first, place_follows, span_follows}
use Rattle.one_caller_laws.proofs.Pair.{within_next}
use Rattle.one_caller_laws.proofs.Ways.{Spot, Way, Here, Next, AreShort, none_or_next}
use Rattle.one_caller_laws.proofs.Sites.{WhyNot}
use Rattle.one_caller_laws.proofs.Makes.{Makes, makes_in_gap, asked_so, asks, size_asked, made}
use Rattle.one_caller_laws.proofs.Spans.{span_made, makes_by_span, makes_reserved}
use Rattle.one_caller_laws.proofs.Placing.{why_not}
use Rattle.one_caller_laws.proofs.Expected.{key_in, expected, act_where, falls}
use Rattle.one_caller_laws.proofs.Turns.{Seeking, HintIs, spent, Unserved, unserved, search_is}
use Rattle.one_caller_laws.proofs.Sought.{is_end}
use Rattle.one_caller_laws.proofs.FrontEnds.{Got, claims, claimed, claimed_core, hints_at_all, owned, Owned, own_row}
use Rattle.search_laws.specs.Calls.{hint_put}

-- a span of another kind leaves a search as it was
module _ (a k : Area) (g : SearchKey) (same : spans_of a g.bucket g.slot ≡ spans_of k g.bucket g.slot) where
  all_read_same : (v : CallerView) (t : Stage) → all_read_at a v g t ≡ all_read_at k v g t
  all_read_same v NotBegun = refl
  all_read_same v AtHint = ap (λ (xs : List Span). is_none (first_of xs) && not v.call.no_span) same
  all_read_same v FirstPass = ap (λ (xs : List Span). is_none (first_of (filter (λ x. not (is_read v.call.search x)) xs)) && not v.call.no_span) same
  all_read_same v SecondPass = ap (λ (xs : List Span). is_none (first_of (filter (λ x. not (is_read v.call.search x)) xs)) && (is_some (last_read v.call.search) || v.vs)) same

  spent_same : (v : CallerView) → is_spent a v g ≡ is_spent k v g
  spent_same v = ap (λ (o : Bool). v.back && (eqb v.call.search.lost 8 || (v.call.search.ended && o))) (all_read_same v v.call.search.stage)

in_vs_layer : (l : Layer) → is_layer_of kinds.Vs l ≡ true → l ≡ layers.Vs
in_vs_layer layers.Vs h = refl
in_vs_layer layers.Lfh h = absurd (false≢true h)
in_vs_layer layers.Back h = absurd (false≢true h)
in_vs_layer layers.Large h = absurd (false≢true h)

not_goes : (x y : Bool) → not (x && not y) ≡ true → x ≡ true → y ≡ true
not_goes true true h e = refl
not_goes true false h e = absurd (false≢true h)
not_goes false y h e = absurd (false≢true e)

module _ (s : Setting) (call : Call) (n b : ℕ) (asked_is : asked_by call ≡ Some n) (bucket : bucket_of n ≡ Some b) (h : Option ℕ) where
  pub data Outcome (m : Configuration) (rest : List Act) : Type 0 where
    Picks : (first index : ℕ) → (m.now.calls 0).search.picked ≡ Some index → last_read (m.now.calls 0).search ≡ Some first → m.state.vs.active b ≡ true → expected s b h (core_of m) ≡ None →
        Got s call m rest (block_address b first index) (block_size b / 16) layers.Lfh (claimed_core s call n b asked_is bucket h (core_of m) first index) (hint_put (hints_at_all m) b (s.slot 0) first) → Outcome m rest
    Owns : (x : Spot) → (m.now.calls 0).no_span ≡ false → (m.now.calls 0).search.picked ≡ None → m.state.vs.active b ≡ true → expected s b h (core_of m) ≡ None →
        Way m.state.back.area s.limits.segments (bucket_pages b) (Some x) → Owned s call n b asked_is bucket h m rest (core_of m) x → Outcome m rest
    Falls : (m.now.calls 0).no_span ≡ true → (m.now.calls 0).search.picked ≡ None → m.state.vs.active b ≡ true → expected s b h (core_of m) ≡ None → Makes s call m rest n → Outcome m rest
    Refuses : (later : List Act) → rest ≡ acts.NoFit n ∷ later → (w : InCall s call m) (k : Seeking s b h (core_of m)) (i : HintIs s call n b asked_is bucket h m) → Unserved s call n b asked_is bucket h m w k i → WhyNot s (core_of m) n → Outcome m rest

  few : n ≤ 16368
  few = (bucket_fits n b bucket).0

  -- a place of the variable-size layer tells that the front end cannot serve the bucket
  fell_to_vs : (m : Configuration) (start granules : ℕ) → InCall s call m → goes_to_lfh m.state.vs b ≡ true → may_follow s m (by_zero (acts.Place start granules layers.Vs)) ≡ true →
      ((m.now.calls 0).no_span ≡ true) × (cannot_be_served s m.state.back.area 0 (caller_view m 0) (request_of s m 0) b ≡ true)
  fell_to_vs m start granules w goes x =
      let k = caller_view m 0 in
      let a = m.state.back.area in
      let r = (and_parts (k.entered && k.vs) _ (row_of s m (by_zero (acts.Place start granules layers.Vs)) x)).1 in
      let small : ℕ → Bool = may_place_small s a m.state.vs 0 k (request_of s m 0) in
      let o = asked_so s call m n (λ n. (is_small (route_of n) || is_variable (route_of n)) && is_vs_place (gaps m.state) n start granules && small n) w asked_is r in
      let p1 = (and_parts ((is_small (route_of n) || is_variable (route_of n)) && is_vs_place (gaps m.state) n start granules) (small n) o).1 in
      let test : ℕ → Bool = λ b. goes_to_lfh m.state.vs b && not (k.back && (m.now.calls 0).no_span && cannot_be_served s a 0 k (request_of s m 0) b) in
      let p2 : not (test b) ≡ true = ap (λ (o : Option ℕ). not (for_some o test)) (sym bucket) ∙ p1 in
      let p3 = not_goes (goes_to_lfh m.state.vs b) (k.back && (m.now.calls 0).no_span && cannot_be_served s a 0 k (request_of s m 0) b) p2 goes in
      let p4 = and_parts (k.back && (m.now.calls 0).no_span) (cannot_be_served s a 0 k (request_of s m 0) b) p3 in
      ((and_parts k.back (m.now.calls 0).no_span p4.0).1, p4.1)

  -- what a span is made for, from where its row comes
  record VsSpan (m : Configuration) : Type 0 where
    pub fell : (m.now.calls 0).no_span ≡ true
    pub spent : is_spent m.state.back.area (caller_view m 0) (key_in s (core_of m) b) ≡ true
    pub active : m.state.vs.active b ≡ true

  vs_span : (m : Configuration) (first pages q slot : ℕ) (later : List Act) → InCall s call m → goes_to_lfh m.state.vs b ≡ true → Goes s m (acts.Span first pages kinds.Vs q slot ∷ later) → VsSpan m
  vs_span m first pages q slot later w goes g =
      let act = acts.Span first pages kinds.Vs q slot in
      let x : Span = record { first = first; pages = pages; kind = kinds.Vs; bucket = q; slot = slot } in
      let to = after s m (by_zero act) in
      let w1 = within_next s call m act later w g in
      let g1 = goes_after s m act later g in
      let p = place_follows s to later x g1 refl in
      let q1 = and_parts (is_layer_of kinds.Vs p.layer && lies_in 4096 x (made p.start p.granules p.layer)) _ p.meets in
      let l = in_vs_layer p.layer (and_parts (is_layer_of kinds.Vs p.layer) (lies_in 4096 x (made p.start p.granules p.layer)) q1.0).0 in
      let is : later ≡ acts.Place p.start p.granules layers.Vs ∷ p.later = p.is ∙ ap (λ (l : Layer). acts.Place p.start p.granules l ∷ p.later) l in
      let f = fell_to_vs to p.start p.granules w1 goes (may_first s to (acts.Place p.start p.granules layers.Vs) p.later (subst (Goes s to) is g1)) in
      let v = caller_view m 0 in
      let gk = key_in s (core_of m) b in
      let a1 = with_span m.state.back.area x in
      let c1 = and_parts (is_some_of (request_of s to 0).search b && is_spent a1 v gk) (fits_none s a1 (bucket_pages b)) f.1 in
      let c2 = and_parts (is_some_of (request_of s to 0).search b) (is_spent a1 v gk) c1.0 in
      record {
        fell = f.0;
        spent = sym (spent_same a1 m.state.back.area gk (filter-insert_span (is_span_of b (s.slot 0)) x m.state.back.area.spans refl) v) ∙ c2.1;
        active = (search_is s call n b asked_is bucket h to b w1 (is_some_of_parts (request_of s to 0).search b c2.0)).1;
      }

  -- no span of the back end is made for so few bytes
  no_back_span : (m : Configuration) (first pages q slot : ℕ) → InCall s call m → may_follow s m (by_zero (acts.Span first pages kinds.Back q slot)) ≡ true → ⊥
  no_back_span m first pages q slot w x =
      let r = span_row s m.state.back.area (gaps m.state) 0 (caller_view m 0) (request_of s m 0) (record { first = first; pages = pages; kind = kinds.Back; bucket = q; slot = slot }) (row_of s m (by_zero (acts.Span first pages kinds.Back q slot)) x) in
      let p = for_some_parts (request_of s m 0).size (λ n. is_paged (route_of n) && eqb pages (pages_of n)) r.owner in
      let z = size_asked s call m n p.0 w asked_is p.1 in
      let a = and_parts (is_paged (route_of n)) (eqb pages (pages_of n)) (subst (λ (y : ℕ). (is_paged (route_of y) && eqb pages (pages_of y)) ≡ true) z p.2) in
      let long = paged_above n a.0 in
      let l = few in
      omega (arith, long, l)

  no_other_span : (m : Configuration) (first pages q slot : ℕ) (kind : Kind) → (kind ≡ kinds.Header) ⊎ (kind ≡ kinds.Free) → may_follow s m (by_zero (acts.Span first pages kind q slot)) ≡ true → ⊥
  no_other_span m first pages q slot kind (inl e) x =
      false≢true (span_row s m.state.back.area (gaps m.state) 0 (caller_view m 0) (request_of s m 0) (record { first = first; pages = pages; kind = kinds.Header; bucket = q; slot = slot })
      (row_of s m (by_zero (acts.Span first pages kinds.Header q slot)) (subst (λ (k : Kind). may_follow s m (by_zero (acts.Span first pages k q slot)) ≡ true) e x))).owner
  no_other_span m first pages q slot kind (inr e) x =
      false≢true (span_row s m.state.back.area (gaps m.state) 0 (caller_view m 0) (request_of s m 0) (record { first = first; pages = pages; kind = kinds.Free; bucket = q; slot = slot })
      (row_of s m (by_zero (acts.Span first pages kinds.Free q slot)) (subst (λ (k : Kind). may_follow s m (by_zero (acts.Span first pages k q slot)) ≡ true) e x))).owner

  module _ (m : Configuration) (w : InCall s call m) (whole : IsWhole (core_of m)) (demand : m.now.demand ≡ Nothing) (k : Seeking s b h (core_of m)) (hint_is : HintIs s call n b asked_is bucket h m) where
    abbrev f : Search
    f = (m.now.calls 0).search

    abbrev a : Area
    a = m.state.back.area

    -- where all is read, and a new span was tried
    over : (m.now.calls 0).no_span ≡ true → m.state.vs.active b ≡ true → is_spent a (caller_view m 0) (key_in s (core_of m) b) ≡ true → (f.picked ≡ None) × (expected s b h (core_of m) ≡ None)
    over fell active sp =
        let z = spent s call n b asked_is bucket h m w k hint_is sp in
        (z.none, (λ i. act_where s b h (core_of m) (active i) (z.none i)) ∙ z.is ∙ ap (λ (o : Bool). falls b o (back_place a s.limits.segments (bucket_pages b))) fell)

    -- .. or where one is made
    not_over : (o : Option ℕ) → back_place a s.limits.segments (bucket_pages b) ≡ o → (o ≡ None → ⊥) → m.state.vs.active b ≡ true → is_spent a (caller_view m 0) (key_in s (core_of m) b) ≡ true →
        ((m.now.calls 0).no_span ≡ false) × (f.picked ≡ None) × (expected s b h (core_of m) ≡ None)
    not_over None e some active sp = absurd (some refl)
    not_over (Some first) e some active sp =
        let z = spent s call n b asked_is bucket h m w k hint_is sp in
        let once : (m.now.calls 0).no_span ≡ false = elim (cases_Bool (m.now.calls 0).no_span) [ inr no_more ↦ no_more | inl fell ↦ absurd (let y : Some first ≡ None = sym e ∙ (k.fell fell).1 in let bad : ⊥ = cc in bad) ] in
        (once, z.none, (λ i. act_where s b h (core_of m) (active i) (z.none i)) ∙ z.is ∙ (λ i. falls b (once i) (e i)))

    no_large : (start granules : ℕ) → may_follow s m (by_zero (acts.Place start granules layers.Large)) ≡ true → ⊥
    no_large start granules x =
        let v = caller_view m 0 in
        let r = (and_parts (v.entered && v.large) _ (row_of s m (by_zero (acts.Place start granules layers.Large)) x)).1 in
        let o = asked_so s call m n (λ n. is_huge (route_of n) && is_some_of (large_place s.limits m.state.large (pages_of n)) start && eqb granules (256 * pages_of n)) w asked_is r in
        let p1 = and_parts (is_huge (route_of n) && is_some_of (large_place s.limits m.state.large (pages_of n)) start) (eqb granules (256 * pages_of n)) o in
        let long = huge_above n (and_parts (is_huge (route_of n)) (is_some_of (large_place s.limits m.state.large (pages_of n)) start) p1.0).0 in
        let l = few in
        omega (arith, long, l)

    by_place : (start granules : ℕ) (layer : Layer) (later : List Act) → Goes s m (acts.Place start granules layer ∷ later) → is_under_back m (acts.Place start granules layer) ≡ true → Outcome m (acts.Place start granules layer ∷ later)
    by_place start granules layers.Lfh later g under =
        let c = claims s call n b asked_is bucket h m start granules w (may_first s m (acts.Place start granules layers.Lfh) later g) in
        Picks c.span.first c.index c.picked c.read c.active (λ i. act_where s b h (core_of m) (c.active i) (c.picked i)) (claimed s call n b asked_is bucket h m start granules later w whole k hint_is g under c)
    by_place start granules layers.Vs later g under =
        let x = fell_to_vs m start granules w k.goes (may_first s m (acts.Place start granules layers.Vs) later g) in
        let u = unserved s call n b asked_is bucket h m w k hint_is x.1 in
        Falls x.0 u.spent.none u.active ((λ i. act_where s b h (core_of m) (u.active i) (u.spent.none i)) ∙ u.spent.is ∙ ap (λ (o : Bool). falls b o (back_place a s.limits.segments (bucket_pages b))) x.0)
        (makes_in_gap s call m n start granules later w whole asked_is g)
    by_place start granules layers.Large later g under = absurd (no_large start granules (may_first s m (acts.Place start granules layers.Large) later g))
    by_place start granules layers.Back later g under =
        let r = row_of s m (by_zero (acts.Place start granules layers.Back)) (may_first s m (acts.Place start granules layers.Back) later g) in
        let d = demand in
        let q = (and_parts ((caller_view m 0).entered && (caller_view m 0).back) (is_back_due m.now.demand) r).1 in
        absurd (false≢true (rw d at q))

    by_span : (first pages : ℕ) (kind : Kind) (q slot : ℕ) (later : List Act) → Goes s m (acts.Span first pages kind q slot ∷ later) → Outcome m (acts.Span first pages kind q slot ∷ later)
    by_span first pages kinds.Vs q slot later g =
        let x = vs_span m first pages q slot later w k.goes g in
        let o = over x.fell x.active x.spent in
        Falls x.fell o.0 x.active o.1 (makes_by_span s call m n (acts.Span first pages kinds.Vs q slot ∷ later) (λ p. Unit {0}) (span_made s call m n first pages kinds.Vs q slot later (λ p. Unit {0}) tt w whole asked_is refl g))
    by_span first pages kinds.Lfh q slot later g =
        let r = own_row s call n b asked_is bucket h m first pages q slot w (may_first s m (acts.Span first pages kinds.Lfh q slot) later g) in
        let act : acts.Span first pages kinds.Lfh q slot ≡ acts.Span first (bucket_pages b) kinds.Lfh b (s.slot 0) = λ i. acts.Span first (r.pages_are i) kinds.Lfh (r.bucket_is i) (r.slot_is i) in
        let o = not_over (Some first) r.place (λ e. let bad : ⊥ = cc in bad) r.active r.spent in
        Owns (record { area = a; first = first }) o.0 o.1 r.active o.2 (Here first refl r.place r.reserved)
        (subst (λ (x : Act). Owned s call n b asked_is bucket h m (x ∷ later) (core_of m) (record { area = a; first = first })) (sym act)
        (owned s call n b asked_is bucket h m first later w whole r.back (subst (λ (x : Act). Goes s m (x ∷ later)) act g)))
    by_span first pages kinds.Back q slot later g = absurd (no_back_span m first pages q slot w (may_first s m (acts.Span first pages kinds.Back q slot) later g))
    by_span first pages kinds.Header q slot later g = absurd (no_other_span m first pages q slot kinds.Header (inl refl) (may_first s m (acts.Span first pages kinds.Header q slot) later g))
    by_span first pages kinds.Free q slot later g = absurd (no_other_span m first pages q slot kinds.Free (inr refl) (may_first s m (acts.Span first pages kinds.Free q slot) later g))

    -- a segment is reserved first
    module _ (below : a.reserved < s.limits.segments) where
      abbrev act : Act
      act = acts.Reserve m.state.back.area.reserved

      abbrev to : Configuration
      to = after s m (by_zero act)

      by_next : (first pages : ℕ) (kind : Kind) (q slot : ℕ) (later : List Act) → AreShort a pages → Goes s m (act ∷ acts.Span first pages kind q slot ∷ later) → Outcome m (act ∷ acts.Span first pages kind q slot ∷ later)
      by_next first pages kinds.Vs q slot later short g =
          let span = acts.Span first pages kinds.Vs q slot in
          let w1 = within_next s call m act (span ∷ later) w g in
          let x = vs_span to first pages q slot later w1 k.goes (goes_after s m act (span ∷ later) g) in
          let o = over x.fell x.active x.spent in
          Falls x.fell o.0 x.active o.1 (makes_reserved s call m n m.state.back.area.reserved (span ∷ later) w whole asked_is g (λ first2 pages2 kind2 q2 slot2 more e. of_vs kind2 (let z : kinds.Vs ≡ kind2 = cc in z)))
        where
          of_vs : (kind : Kind) → kinds.Vs ≡ kind → is_kind kind kinds.Lfh ≡ false
          of_vs kind e = ap (λ (k : Kind). is_kind k kinds.Lfh) (sym e)
      by_next first pages kinds.Lfh q slot later short g =
          let span = acts.Span first pages kinds.Lfh q slot in
          let w1 = within_next s call m act (span ∷ later) w g in
          let g1 = goes_after s m act (span ∷ later) g in
          let r = own_row s call n b asked_is bucket h to first pages q slot w1 (may_first s to span later g1) in
          let same : span ≡ acts.Span first (bucket_pages b) kinds.Lfh b (s.slot 0) = λ i. acts.Span first (r.pages_are i) kinds.Lfh (r.bucket_is i) (r.slot_is i) in
          let spot : Spot = record { area = one_more_reserved a; first = first } in
          let own = owned s call n b asked_is bucket h to first later w1 (record { vs = whole.vs; back = whole.back }) r.back (subst (λ (x : Act). Goes s to (x ∷ later)) same g1) in
          let o = not_over (back_place a s.limits.segments (bucket_pages b)) refl (λ e. none_or_next a s.limits.segments (bucket_pages b) first e below r.place r.reserved) r.active r.spent in
          Owns spot o.0 o.1 r.active o.2 (Next first refl below r.place r.reserved (subst (AreShort a) r.pages_are short))
          (subst (λ (x : Act). Owned s call n b asked_is bucket h m (act ∷ x ∷ later) (core_of m) spot) (sym same) (record {
            at = own.at;
            later = own.later;
            within = own.within;
            core = own.core;
            whole = own.whole;
            demand = own.demand;
            hints = own.hints;
            goes = own.goes;
            shape = own.shape;
            ends = own.ends;
          }))
      by_next first pages kinds.Back q slot later short g =
          let span = acts.Span first pages kinds.Back q slot in
          absurd (no_back_span to first pages q slot (within_next s call m act (span ∷ later) w g) (may_first s to span later (goes_after s m act (span ∷ later) g)))
      by_next first pages kinds.Header q slot later short g =
          let span = acts.Span first pages kinds.Header q slot in
          absurd (no_other_span to first pages q slot kinds.Header (inl refl) (may_first s to span later (goes_after s m act (span ∷ later) g)))
      by_next first pages kinds.Free q slot later short g =
          let span = acts.Span first pages kinds.Free q slot in
          absurd (no_other_span to first pages q slot kinds.Free (inr refl) (may_first s to span later (goes_after s m act (span ∷ later) g)))

    by_reserve : (segment : ℕ) (later : List Act) → Goes s m (acts.Reserve segment ∷ later) → Outcome m (acts.Reserve segment ∷ later)
    by_reserve segment later g =
        let v = caller_view m 0 in
        let x = row_of s m (by_zero (acts.Reserve segment)) (may_first s m (acts.Reserve segment) later g) in
        let r = and_parts (v.entered && v.back && eqb segment a.reserved) (ltb segment s.limits.segments) x in
        let same = eqb-true segment a.reserved (and_parts (v.entered && v.back) (eqb segment a.reserved) r.0).1 in
        let below : m.state.back.area.reserved < s.limits.segments = subst (λ (x : ℕ). x < s.limits.segments) same (ltb-true segment s.limits.segments r.1) in
        let act = acts.Reserve m.state.back.area.reserved in
        let g0 = subst (λ (x : ℕ). Goes s m (acts.Reserve x ∷ later)) same g in
        let p = span_follows s (after s m (by_zero act)) later m.state.back.area.reserved (goes_after s m act later g0) refl in
        let g1 = subst (λ (t : List Act). Goes s m (act ∷ t)) p.is g0 in
        subst (λ (x : ℕ). Outcome m (acts.Reserve x ∷ later)) (sym same)
        (subst (λ (t : List Act). Outcome m (act ∷ t)) (sym p.is) (by_next below p.first p.pages p.kind p.bucket p.slot p.later p.meets g1))

    small : route_of n ≡ Small
    small = let e = Rattle.std.proofs.lemmas.Bool.le-leb n 16368 few in rw e refl

    by_refusal : (q : ℕ) (later : List Act) → Goes s m (acts.NoFit q ∷ later) → Outcome m (acts.NoFit q ∷ later)
    by_refusal q later g =
        let v = caller_view m 0 in
        let x = may_first s m (acts.NoFit q) later g in
        let r1 = and_parts (v.entered && is_some_of (asked v.call) q) (has_no_range s m.state 0 v (request_of s m 0) q (route_of q)) (row_of s m (by_zero (acts.NoFit q)) x) in
        let r2 = and_parts v.entered (is_some_of (asked v.call) q) r1.0 in
        let z : Some q ≡ Some n = sym (is_some_of_parts (asked v.call) q r2.1) ∙ asks s call m n w asked_is in
        let same : q ≡ n = cc in
        let y : has_no_range s m.state 0 v (request_of s m 0) n Small ≡ true = subst (λ (t : Route). has_no_range s m.state 0 v (request_of s m 0) n t ≡ true) small (subst (λ (x : ℕ). has_no_range s m.state 0 v (request_of s m 0) x (route_of x) ≡ true) same r1.1) in
        let test : ℕ → Bool = λ b. not (goes_to_lfh m.state.vs b) || cannot_be_served s a 0 v (request_of s m 0) b in
        let p = and_parts (has_no_vs_range s a (gaps m.state) v n) (for_some (bucket_of n) test) y in
        let t : test b ≡ true = ap (λ (o : Option ℕ). for_some o test) (sym bucket) ∙ p.1 in
        let c = served (goes_to_lfh m.state.vs b) (cannot_be_served s a 0 v (request_of s m 0) b) t k.goes in
        Refuses later (ap (λ (x : ℕ). acts.NoFit x ∷ later) same) w k hint_is (unserved s call n b asked_is bucket h m w k hint_is c) (why_not s call m n q w asked_is x)
      where
        served : (x y : Bool) → (not x || y) ≡ true → x ≡ true → y ≡ true
        served true y h e = h
        served false y h e = absurd (false≢true e)

    pub outcome : (act : Act) (later : List Act) → Goes s m (act ∷ later) → place_under_back s m (act ∷ later) ≡ true → is_end act ≡ true → Outcome m (act ∷ later)
    outcome (acts.Place start granules layer) later g under stops = by_place start granules layer later g (and_parts (is_under_back m (acts.Place start granules layer)) (place_under_back s (after s m (by_zero (acts.Place start granules layer))) later) under).0
    outcome (acts.Span first pages kind q slot) later g under stops = by_span first pages kind q slot later g
    outcome (acts.Reserve segment) later g under stops = by_reserve segment later g
    outcome (acts.NoFit q) later g under stops = by_refusal q later g
    outcome _ later g under stops = absurd (false≢true stops)
