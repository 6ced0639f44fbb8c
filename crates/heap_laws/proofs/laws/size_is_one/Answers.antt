use Rattle.std.proofs.Common.{◌≡◌, ℕ, Bool, true, false, ◌&&◌, ◌||◌, not, List, [], ◌∷◌, ◌++◌, Option, Some, None, refl, sym, ap, ◌∙◌, subst, inl, inr, ◌⊎◌}
use Rattle.std.specs.List.{list_all, list_any, find}
use Rattle.std.proofs.lemmas.List.Folds.{list_any-append}
use Rattle.std.proofs.lemmas.Bool.{and_parts, and_from, or_cases, cases_Bool, false≢true, true≢false, both_ways, not-true}
use Rattle.heap_model.specs.declared.Call.TheVariants as calls
use Rattle.heap_model.specs.declared.Act.{Act}
use Rattle.heap_model.specs.declared.Act.TheVariants as acts
use Rattle.heap_model.specs.declared.Kind.{Kind}
use Rattle.heap_model.specs.declared.Kind.TheVariants as kinds
use Rattle.heap_model.specs.declared.What.TheVariants as whats
use Rattle.heap_model.specs.State.{Setting, State, Span, Place, has_address, place_at, exclusive_places, all_places, is_live_of, is_kind}
use Rattle.heap_model.specs.Ranges.{gaps}
use Rattle.heap_model.specs.Stay.{for_some}
use Rattle.heap_model.specs.CallState.{Configuration, Nothing, SpanBy, caller_view}
use Rattle.heap_model.specs.Search.{sought, request_of, request_for, begins_at, span_at}
use Rattle.heap_model.specs.Legal.{is_compact, may, may_follow, after, meets_demand, has_place, places_in, is_begin, may_span_for, searches, may_unspan, may_unspan_of, is_unused, may_activate}
use Rattle.heap_model.proofs.GateSound.{row_of}
use Rattle.heap_model.proofs.ListLemmas.{for_some_parts}
use Rattle.heap_model.proofs.Others.{span_locks}
use Rattle.heap_soundness.proofs.Lists.{found_passes, found_in, any_in, any_found}
use Rattle.heap_soundness.proofs.Addresses.{exclusive_in_all}
use Rattle.heap_model.specs.Alone.{by_zero, configuration_by, may_all_come}
use Rattle.heap_model.specs.Shape.{is_left_out, shape_of}
use Rattle.heap_laws.specs.Size.{AreUsed, FoundSize}
use Rattle.heap_laws.proofs.laws.size_is_one.Goals as goal

-- what stays from entry to entry of a call of size
record Same (old : State) (a : ℕ) (m : Configuration) : Type 0 where
  call : (m.now.calls 0).call ≡ Some (calls.Size a)
  demand : m.now.demand ≡ Nothing
  back : m.state.back ≡ old.back
  vs : m.state.vs ≡ old.vs
  lfh : m.state.lfh ≡ old.lfh
  large : m.state.large ≡ old.large
  words : m.state.words ≡ old.words
  used : AreUsed m.state

abbrev is_reserve : Act → Bool
is_reserve (acts.Reserve segment) = true
is_reserve _ = false

-- a call of size places nothing
sought_none : (s : Setting) (m : Configuration) (a : ℕ) → (m.now.calls 0).call ≡ Some (calls.Size a) → sought s m.state 0 (m.now.calls 0) ≡ None
sought_none s m a h = elim (cases_Bool (m.now.calls 0).placed) [ inl e ↦ rw e refl | inr e ↦ rw (e, h) refl ]

no_request : (s : Setting) (m : Configuration) (a : ℕ) → (m.now.calls 0).call ≡ Some (calls.Size a) → request_of s m 0 ≡ request_for m.state.vs.active None
no_request s m a h = ap (request_for m.state.vs.active) (sought_none s m a h)

no_search : (s : Setting) (m : Configuration) (a : ℕ) (test : ℕ → Bool) → (m.now.calls 0).call ≡ Some (calls.Size a) → searches (caller_view m 0) (request_of s m 0) test ≡ true → ⊥
no_search s m a test h k =
    let p = and_parts (caller_view m 0).entered (for_some (request_of s m 0).search test) k in
    let none : (request_of s m 0).search ≡ None = ap (λ n. n.search) (no_request s m a h) in
    false≢true (subst (λ (o : Option ℕ). for_some o test ≡ true) none p.1)

no_span_for : (s : Setting) (m : Configuration) (a pages bucket : ℕ) (k : Kind) → (m.now.calls 0).call ≡ Some (calls.Size a) → may_span_for s m.state.back.area (gaps m.state) 0 (caller_view m 0) (request_of s m 0) pages bucket k ≡ true → ⊥
no_span_for s m a pages bucket kinds.Back h e = false≢true (subst (λ n. may_span_for s m.state.back.area (gaps m.state) 0 (caller_view m 0) n pages bucket kinds.Back ≡ true) (no_request s m a h) e)
no_span_for s m a pages bucket kinds.Vs h e = false≢true (rw h at (and_parts (caller_view m 0).vs _ e).1)
no_span_for s m a pages bucket kinds.Lfh h e = false≢true (subst (λ n. may_span_for s m.state.back.area (gaps m.state) 0 (caller_view m 0) n pages bucket kinds.Lfh ≡ true) (no_request s m a h) e)
no_span_for s m a pages bucket kinds.Header h e = false≢true e
no_span_for s m a pages bucket kinds.Free h e = false≢true e

no_active : (s : Setting) (m : Configuration) (a bucket : ℕ) → (m.now.calls 0).call ≡ Some (calls.Size a) → may_activate m.state.vs (caller_view m 0) (request_of s m 0) bucket ≡ true → ⊥
no_active s m a bucket h e =
    let f = subst (λ n. may_activate m.state.vs (caller_view m 0) n bucket ≡ true) (no_request s m a h) e in
    false≢true (and_parts ((caller_view m 0).entered && (caller_view m 0).vs) false (and_parts _ _ (and_parts _ _ f).0).0).1

-- what a test of all says of the one that is found
passes_of_all : (test : Span → Bool) (p : Span → Bool) (xs : List Span) (x : Span) → find p xs ≡ Some x → list_all test xs ≡ true → test x ≡ true
passes_of_all test p [] x e h = absurd (let z : ⊥ = cc in z)
passes_of_all test p (y ∷ ys) x e h =
    let k = and_parts (test y) (list_all test ys) h in
    elim (cases_Bool (p y)) [
      | inl f ↦ let g : Some y ≡ Some x = (rw f at e) in let same : y ≡ x = cc in subst (λ (z : Span). test z ≡ true) same k.0
      | inr f ↦ passes_of_all test p ys x (rw f at e) k.1
    ]

no_unspan : (m : Configuration) (a first : ℕ) → (m.now.calls 0).call ≡ Some (calls.Size a) → AreUsed m.state → may_unspan m.state (caller_view m 0) first ≡ true → ⊥
no_unspan m a first h used e =
    let p = (and_parts (caller_view m 0).back (for_some (span_at m.state.back.area first) (is_unused m.state (caller_view m 0))) e).1 in
    let q = for_some_parts (span_at m.state.back.area first) (is_unused m.state (caller_view m 0)) p in
    let r = and_parts (may_unspan_of (caller_view m 0) q.0.kind) (not (has_place 4096 (places_in m.state q.0.kind) q.0)) q.2 in
    let u = passes_of_all (λ x. is_kind x.kind kinds.Lfh || has_place 4096 (places_in m.state x.kind) x) (begins_at first) m.state.back.area.spans q.0 q.1 used in
    none q.0.kind (or_cases (is_kind q.0.kind kinds.Lfh) (has_place 4096 (places_in m.state q.0.kind) q.0) u) r.1 r.0
  where
    not_compact : for_some (m.now.calls 0).call is_compact ≡ true → ⊥
    not_compact e = false≢true (rw h at e)

    none : (k : Kind) {b : Bool} → (is_kind k kinds.Lfh ≡ true) ⊎ (b ≡ true) → not b ≡ true → may_unspan_of (caller_view m 0) k ≡ true → ⊥
    none k {b} (inr f) g e = both_ways b (not-true b g) f
    none kinds.Lfh (inl f) g e = not_compact (and_parts _ _ (and_parts _ _ e).0).0
    none kinds.Vs (inl f) g e = false≢true f
    none kinds.Back (inl f) g e = false≢true f
    none kinds.Header (inl f) g e = false≢true f
    none kinds.Free (inl f) g e = false≢true f

-- an act that is left out of shapes, and no Reserve, leaves the same
step : (s : Setting) (old : State) (a : ℕ) (m : Configuration) (act : Act) → is_left_out act ≡ true → not (is_begin act) ≡ true → is_reserve act ≡ false → may s m 0 act ≡ true → Same old a m → Same old a (after s m (by_zero act))
step s old a m acts.Enter l b r e h = record { call = h.call; demand = refl; back = h.back; vs = h.vs; lfh = h.lfh; large = h.large; words = h.words; used = h.used }
step s old a m acts.Leave l b r e h = record { call = h.call; demand = refl; back = h.back; vs = h.vs; lfh = h.lfh; large = h.large; words = h.words; used = h.used }
step s old a m (acts.TakeLock what) l b r e h = record { call = h.call; demand = refl; back = h.back; vs = h.vs; lfh = h.lfh; large = h.large; words = h.words; used = h.used }
step s old a m (acts.GiveLock whats.Back) l b r e h = record { call = h.call; demand = refl; back = h.back; vs = h.vs; lfh = h.lfh; large = h.large; words = h.words; used = h.used }
step s old a m (acts.GiveLock _) l b r e h = record { call = h.call; demand = refl; back = h.back; vs = h.vs; lfh = h.lfh; large = h.large; words = h.words; used = h.used }
step s old a m (acts.Span first pages kind bucket slot) l b r e h = absurd (no_span_for s m a pages bucket kind h.call (span_locks s m 0 (record { first = first; pages = pages; kind = kind; bucket = bucket; slot = slot }) e).2)
step s old a m (acts.Unspan first) l b r e h = absurd (no_unspan m a first h.call h.used e)
step s old a m (acts.Active bucket) l b r e h = absurd (no_active s m a bucket h.call e)
step s old a m (acts.Saw head word bits) l b r e h = absurd (no_search s m a _ h.call e)
step s old a m (acts.Lost head index) l b r e h = absurd (no_search s m a _ h.call e)
step s old a m (acts.NoHint bucket slot) l b r e h = absurd (no_search s m a _ h.call e)
step s old a m (acts.NoSpan bucket) l b r e h = absurd (no_search s m a _ h.call e)
step s old a m (acts.Begin call) l b r e h = absurd (false≢true b)
step s old a m (acts.Reserve segment) l b r e h = absurd (true≢false r)
step s old a m _ l b r e h = absurd (false≢true l)

-- nothing legal follows a Reserve
reserve_dead : (s : Setting) (a segment : ℕ) (m : Configuration) (rest : List Act) → (m.now.calls 0).call ≡ Some (calls.Size a) → m.now.demand ≡ SpanBy 0 segment → may_all_come s m rest ≡ true → (configuration_by s m rest).now.demand ≡ Nothing → ⊥
reserve_dead s a segment m [] h d l e = let z : SpanBy 0 segment ≡ Nothing = sym d ∙ e in let no : ⊥ = cc in no
reserve_dead s a segment m (act ∷ rest) h d l e =
    let p = (and_parts (may_follow s m (by_zero act)) (may_all_come s (after s m (by_zero act)) rest) l).0 in
    let q : meets_demand m.state.back.area (by_zero act) m.now.demand ≡ true = (and_parts _ _ (and_parts _ _ p).0).0 in
    wrong act (rw d at q) (row_of s m (by_zero act) p)
  where
    wrong : (act : Act) → meets_demand m.state.back.area (by_zero act) (SpanBy 0 segment) ≡ true → may s m 0 act ≡ true → ⊥
    wrong (acts.Span first pages kind bucket slot) q e = no_span_for s m a pages bucket kind h (span_locks s m 0 (record { first = first; pages = pages; kind = kind; bucket = bucket; slot = slot }) e).2
    wrong _ q e = false≢true q

parts : (s : Setting) (m : Configuration) (act : Act) (rest : List Act) → may_all_come s m (act ∷ rest) ≡ true → (may s m 0 act ≡ true) × (may_all_come s (after s m (by_zero act)) rest ≡ true)
parts s m act rest l = let p = and_parts (may_follow s m (by_zero act)) (may_all_come s (after s m (by_zero act)) rest) l in (row_of s m (by_zero act) p.0, p.1)

-- one more act that is left out
next : (s : Setting) (old : State) (a : ℕ) (m : Configuration) (act : Act) (rest : List Act) → Same old a m → is_left_out act ≡ true → not (is_begin act) ≡ true → may_all_come s m (act ∷ rest) ≡ true → (configuration_by s m (act ∷ rest)).now.demand ≡ Nothing → Same old a (after s m (by_zero act))
next s old a m act rest h out b l done = elim (cases_Bool (is_reserve act)) [
  | inl e ↦ absurd (dead act rest e l done)
  | inr e ↦ step s old a m act out b e (parts s m act rest l).0 h
]
  where
    dead : (act : Act) (rest : List Act) → is_reserve act ≡ true → may_all_come s m (act ∷ rest) ≡ true → (configuration_by s m (act ∷ rest)).now.demand ≡ Nothing → ⊥
    dead (acts.Reserve segment) rest e l done = reserve_dead s a segment (after s m (by_zero (acts.Reserve segment))) rest h.call refl (parts s m (acts.Reserve segment) rest l).1 done
    dead _ rest e l done = false≢true e

-- behind what the shape has
tail : (s : Setting) (old : State) (a : ℕ) (m : Configuration) (rest : List Act) → Same old a m → list_all (λ act. not (is_begin act)) rest ≡ true → may_all_come s m rest ≡ true → (configuration_by s m rest).now.demand ≡ Nothing → shape_of rest ≡ [] → Same old a (configuration_by s m rest)
tail s old a m [] h b l done shape = h
tail s old a m (act ∷ rest) h b l done shape =
    let c = and_parts (not (is_begin act)) (list_all (λ act. not (is_begin act)) rest) b in
    elim (cases_Bool (is_left_out act)) [
      | inl e ↦ tail s old a (after s m (by_zero act)) rest (next s old a m act rest h e c.0 l done) c.1 (parts s m act rest l).1 done (rw e at shape)
      | inr e ↦ let no : act ∷ shape_of rest ≡ [] = (rw e at shape) in absurd (let z : ⊥ = cc in z)
    ]

-- the place that a caller finds is one of all
found_any : (st : State) (c a : ℕ) (t : Place → Bool) → for_some (place_at st c a) t ≡ true → list_any (λ p. has_address a p && t p) (all_places st) ≡ true
found_any st c a t h =
    let test : Place → Bool = λ p. has_address a p && t p in
    let first = exclusive_places st c in
    let f = for_some_parts (place_at st c a) t h in
    let p = and_from (has_address a f.0) (t f.0) (found_passes (has_address a) (first ++ all_places st) f.0 f.1) f.2 in
    let k = any_in test (first ++ all_places st) f.0 (found_in (has_address a) (first ++ all_places st) f.0 f.1) p in
    elim (or_cases (list_any test first) (list_any test (all_places st)) (sym (list_any-append test first (all_places st)) ∙ k)) [
      | inl e ↦ let x = any_found test first e in any_in test (all_places st) x.0 (exclusive_in_all st c x.0 x.1) x.2
      | inr e ↦ e
    ]

sized : (s : Setting) (old : State) (a n : ℕ) (m : Configuration) → Same old a m → may s m 0 (acts.Sized a n) ≡ true → list_any (λ p. has_address a p && is_live_of n p.status) (all_places old) ≡ true
sized s old a n m h e =
    let k = (and_parts (caller_view m 0).entered (for_some (place_at m.state 0 a) (λ p. is_live_of n p.status)) e).1 in
    let g = found_any m.state 0 a (λ p. is_live_of n p.status) k in
    let v = h.vs in let b = h.back in let l = h.lfh in let r = h.large in
    let same : all_places m.state ≡ all_places old = all_same m.state.lfh old.lfh m.state.vs.places old.vs.places m.state.back.places old.back.places m.state.large old.large l (ap (λ x. x.places) v) (ap (λ x. x.places) b) r in
    subst (λ (ps : List Place). list_any (λ p. has_address a p && is_live_of n p.status) ps ≡ true) same g
  where
    all_same : (l l' v v' b b' r r' : List Place) → l ≡ l' → v ≡ v' → b ≡ b' → r ≡ r' → (l ++ v ++ b ++ r) ≡ (l' ++ v' ++ b' ++ r')
    all_same l l' v v' b b' r r' p q t u = cc

whole : (s : Setting) (old : State) (a n : ℕ) (m : Configuration) (rest : List Act) → Same old a m → list_all (λ act. not (is_begin act)) rest ≡ true → may_all_come s m rest ≡ true → (configuration_by s m rest).now.demand ≡ Nothing → shape_of rest ≡ acts.Sized a n ∷ [] → FoundSize old (configuration_by s m rest).state a n
whole s old a n m [] h b l done shape = absurd (let z : ⊥ = cc in z)
whole s old a n m (act ∷ rest) h b l done shape =
    let c = and_parts (not (is_begin act)) (list_all (λ act. not (is_begin act)) rest) b in
    elim (cases_Bool (is_left_out act)) [
      | inl e ↦ whole s old a n (after s m (by_zero act)) rest (next s old a m act rest h e c.0 l done) c.1 (parts s m act rest l).1 done (rw e at shape)
      | inr e ↦
          let here : act ∷ shape_of rest ≡ acts.Sized a n ∷ [] = (rw e at shape) in
          let is : act ≡ acts.Sized a n = cc in
          let none : shape_of rest ≡ [] = cc in
          last act is c.1 (parts s m act rest l) done none
    ]
  where
    last : (act : Act) → act ≡ acts.Sized a n → list_all (λ act. not (is_begin act)) rest ≡ true → (may s m 0 act ≡ true) × (may_all_come s (after s m (by_zero act)) rest ≡ true) → (configuration_by s (after s m (by_zero act)) rest).now.demand ≡ Nothing → shape_of rest ≡ [] → FoundSize old (configuration_by s (after s m (by_zero act)) rest).state a n
    last act is = subst (λ (x : Act). list_all (λ act. not (is_begin act)) rest ≡ true → (may s m 0 x ≡ true) × (may_all_come s (after s m (by_zero x)) rest ≡ true) → (configuration_by s (after s m (by_zero x)) rest).now.demand ≡ Nothing → shape_of rest ≡ [] → FoundSize old (configuration_by s (after s m (by_zero x)) rest).state a n) (sym is)
        (λ b l done none.
        let t = tail s old a (after s m (by_zero (acts.Sized a n))) rest (record { call = h.call; demand = refl; back = h.back; vs = h.vs; lfh = h.lfh; large = h.large; words = h.words; used = h.used }) b l.1 done none in
        record { size = sized s old a n m h l.0; back = t.back; vs = t.vs; lfh = t.lfh; large = t.large; words = t.words })

pub returns : goal.returns
returns c = λ s m a n rest call demand used own legal done shape. whole s m.state a n m rest (record { call = call; demand = demand; back = refl; vs = refl; lfh = refl; large = refl; words = refl; used = used }) own legal done shape
