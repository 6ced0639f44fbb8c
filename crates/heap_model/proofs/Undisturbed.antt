-- What stays while a caller is inside: the spans of LFH; and, if no other is about, the whole heap.
use Rattle.std.proofs.Common.{◌≡◌, ℕ, Bool, true, false, ◌&&◌, not, cond, List, [], ◌∷◌, Option, Some, None, refl, sym, ap, ◌∙◌, subst, eqb, ltb, inl, inr}
use Rattle.std.specs.List.{find, list_any}
use Rattle.std.proofs.lemmas.Bool.{cases_Bool, cases_eq, and_parts, and_from, or_cases, or_parts, or_left, or_right, both_ways, not-true, eqb-true, eqb-false, eq-eqb, false≢true, true≢false}
use Rattle.heap_model.specs.declared.Act.{Act}
use Rattle.heap_model.specs.declared.Act.TheVariants as acts
use Rattle.heap_model.specs.declared.Entry.{Entry}
use Rattle.heap_model.specs.declared.Kind.{Kind}
use Rattle.heap_model.specs.declared.Kind.TheVariants as kinds
use Rattle.heap_model.specs.declared.Layer.TheVariants as layers
use Rattle.heap_model.specs.declared.What.TheVariants as whats
use Rattle.heap_model.specs.State.{GateAndLocks, Setting, Place, Span, is_kind, is_layer, is_among, is_caller, is_entered, holds, without, insert_span, change_found, remove_found, place_at}
use Rattle.heap_model.specs.Stay.{for_some}
use Rattle.heap_model.specs.CallState.{Configuration, caller_view}
use Rattle.heap_model.specs.Search.{span_at, begins_at}
use Rattle.heap_model.specs.Legal.{may, may_follow, after, state_after, disturbed_after, is_unused, may_unspan_of, has_place, places_in, area_with, is_back_at, with_pages, is_lock_or_compact}
use Rattle.heap_model.specs.History.{configuration_after, may_all_follow, own, first_configuration}
use Rattle.heap_model.specs.Agreement.{SameHeap, GateIsSound, UndisturbedIsAlone}
use Rattle.heap_model.proofs.ListLemmas.{for_some_parts, put_other, is_among-without_other, is_among-without, is_among-more}
use Rattle.heap_model.proofs.GateSound.{row_of, gate_sound_act}
use Rattle.heap_model.proofs.Others.{same_heap, same_heap_trans, owned_other, unspan_locks, gate_other}

---- While a caller is inside, no LFH span goes

any_insert_span : (test : Span → Bool) (x : Span) (xs : List Span) → list_any test xs ≡ true → list_any test (insert_span x xs) ≡ true
any_insert_span test x [] h = absurd (false≢true h)
any_insert_span test x (y ∷ ys) h = elim (cases_Bool (ltb x.first y.first)) [
  | inl l ↦ rw l (or_right (test x) (list_any test (y ∷ ys)) h)
  | inr l ↦ rw l (elim (or_cases (test y) (list_any test ys) h) [
    | inl e ↦ or_left (test y) (list_any test (insert_span x ys)) e
    | inr e ↦ or_right (test y) (list_any test (insert_span x ys)) (any_insert_span test x ys e)
  ])
]

any_remove_found : (test p : Span → Bool) (xs : List Span) → ((x : Span) → find p xs ≡ Some x → test x ≡ false) → list_any test xs ≡ true → list_any test (remove_found p xs) ≡ true
any_remove_found test p [] f h = h
any_remove_found test p (x ∷ xs) f h = elim (cases_Bool (p x)) [
  | inl e ↦ let k = f x (rw e refl) in rw e (rw k at h)
  | inr e ↦ rw e (elim (or_cases (test x) (list_any test xs) h) [
    | inl g ↦ or_left (test x) (list_any test (remove_found p xs)) g
    | inr g ↦ or_right (test x) (list_any test (remove_found p xs)) (any_remove_found test p xs (λ y q. f y (rw e q)) g)
  ])
]

any_change_found : (test p : Span → Bool) (f : Span → Span) (xs : List Span) → ((x : Span) → p x ≡ true → test x ≡ false) → list_any test xs ≡ true → list_any test (change_found p f xs) ≡ true
any_change_found test p f [] g h = h
any_change_found test p f (x ∷ xs) g h = elim (cases_Bool (p x)) [
  | inl e ↦ let k = g x e in rw e (or_right (test (f x)) (list_any test xs) (rw k at h))
  | inr e ↦ rw e (elim (or_cases (test x) (list_any test xs) h) [
    | inl q ↦ or_left (test x) (list_any test (change_found p f xs)) q
    | inr q ↦ or_right (test x) (list_any test (change_found p f xs)) (any_change_found test p f xs g q)
  ])
]

not_lfh_if_back : (kind : Kind) → is_kind kind kinds.Back ≡ true → is_kind kind kinds.Lfh ≡ false
not_lfh_if_back kinds.Back h = refl
not_lfh_if_back kinds.Vs h = refl
not_lfh_if_back kinds.Header h = refl
not_lfh_if_back kinds.Free h = refl
not_lfh_if_back kinds.Lfh h = absurd (false≢true h)

-- What a test of LFH spans finds, it finds behind each entry, as long as somebody is inside.
pub spans_stay : (s : Setting) (m : Configuration) (n c : ℕ) (act : Act) (test : Span → Bool) → ((x : Span) → test x ≡ true → is_kind x.kind kinds.Lfh ≡ true) →
    GateIsSound m.state.gate → is_entered m.state.gate n ≡ true → may s m c act ≡ true → list_any test m.state.back.area.spans ≡ true → list_any test (state_after m.state (m.now.calls c) c act).back.area.spans ≡ true
spans_stay s m n c act test lfh g inside h e = by_act act h
  where
    off : (x : Span) → is_kind x.kind kinds.Lfh ≡ false → test x ≡ false
    off x f = elim (cases_Bool (test x)) [ inl q ↦ absurd (both_ways (is_kind x.kind kinds.Lfh) f (lfh x q)) | inr q ↦ q ]

    -- the owner, not entered, is alone
    not_alone : is_caller c m.state.gate.owner ≡ true → is_entered m.state.gate c ≡ false → ⊥
    not_alone o f = both_ways (is_entered m.state.gate c) f (subst (λ (y : ℕ). is_entered m.state.gate y ≡ true) (g.alone c n o inside) inside)

    not_lfh : (kind : Kind) → may_unspan_of (caller_view m c) kind ≡ true → is_kind kind kinds.Lfh ≡ false
    not_lfh kinds.Lfh f =
        let p = and_parts _ (not (caller_view m c).entered) f in
        absurd (not_alone (and_parts _ (caller_view m c).owns p.0).1 (not-true (caller_view m c).entered p.1))
    not_lfh kinds.Vs f = refl
    not_lfh kinds.Back f = refl
    not_lfh kinds.Header f = refl
    not_lfh kinds.Free f = refl

    gone : (first : ℕ) (x : Span) → find (begins_at first) m.state.back.area.spans ≡ Some x → (y : Span) × (find (begins_at first) m.state.back.area.spans ≡ Some y) × (is_unused m.state (caller_view m c) y ≡ true) → test x ≡ false
    gone first x f w =
        let same : Some w.0 ≡ Some x = sym w.1 ∙ f in
        let here_is : w.0 ≡ x = cc in
        subst (λ (y : Span). test y ≡ false) here_is (off w.0 (not_lfh w.0.kind (and_parts (may_unspan_of (caller_view m c) w.0.kind) (not (has_place 4096 (places_in m.state w.0.kind) w.0)) w.2).0))

    resized : (granules : ℕ) (o : Option Place) → list_any test (area_with m.state.back.area granules o).spans ≡ true
    resized granules None = e
    resized granules (Some p) = elim (cases_Bool (is_layer p.layer layers.Back)) [
      | inl f ↦ rw f (any_change_found test (is_back_at _) (with_pages _) m.state.back.area.spans (λ x q. off x (not_lfh_if_back x.kind (and_parts (begins_at _ x) (is_kind x.kind kinds.Back) q).1)) e)
      | inr f ↦ rw f e
    ]

    by_act : (act : Act) → may s m c act ≡ true → list_any test (state_after m.state (m.now.calls c) c act).back.area.spans ≡ true
    by_act (acts.Span first pages kind bucket slot) h = any_insert_span test (record { first = first; pages = pages; kind = kind; bucket = bucket; slot = slot }) m.state.back.area.spans e
    by_act (acts.Unspan first) h = any_remove_found test (begins_at first) m.state.back.area.spans (λ x f. gone first x f (for_some_parts (span_at m.state.back.area first) (is_unused m.state (caller_view m c)) (unspan_locks s m c first h).1)) e
    by_act (acts.Resize a granules size) h = resized granules (place_at m.state c a)
    by_act (acts.Place start granules layers.Lfh) h = e
    by_act (acts.Place start granules layers.Vs) h = e
    by_act (acts.Place start granules layers.Back) h = e
    by_act (acts.Place start granules layers.Large) h = e
    by_act (acts.Blocked whats.Gate word) h = e
    by_act _ h = e

---- While a caller is inside and undisturbed, others leave the heap

-- nobody but c is counted and goes on
nobody_else : (c d : ℕ) (xs ts : List ℕ) → list_any (λ x. not (eqb x c) && not (is_among x ts)) xs ≡ false → is_among d xs ≡ true → is_among d ts ≡ false → d ≡ c
nobody_else c d [] ts h e t = absurd (false≢true e)
nobody_else c d (x ∷ xs) ts h e t =
    let p = or_parts (not (eqb x c) && not (is_among x ts)) (list_any (λ y. not (eqb y c) && not (is_among y ts)) xs) h in
    elim (or_cases (eqb x d) (is_among d xs) e) [
      | inr f ↦ nobody_else c d xs ts p.1 f t
      | inl f ↦ let same = eqb-true x d f in elim (cases_Bool (eqb x c)) [
        | inl q ↦ sym same ∙ eqb-true x c q
        | inr q ↦ absurd (both_ways (not (eqb x c) && not (is_among x ts)) p.0 (and_from (not (eqb x c)) (not (is_among x ts)) (ap not q) (ap not (subst (λ (y : ℕ). is_among y ts ≡ false) (sym same) t))))
      ]
    ]

entered_parts : (f : GateAndLocks) (d : ℕ) → is_entered f d ≡ true → (is_among d f.counted ≡ true) × (is_among d f.turning ≡ false)
entered_parts f d h = let p = and_parts (is_among d f.counted) (not (is_among d f.turning)) h in (p.0, not-true (is_among d f.turning) p.1)

entered_from : (f : GateAndLocks) (d : ℕ) → is_among d f.counted ≡ true → is_among d f.turning ≡ false → is_entered f d ≡ true
entered_from f d a b = and_from (is_among d f.counted) (not (is_among d f.turning)) a (ap not b)

-- A caller that is not disturbed is the only one that may be inside.
pub alone_act : (s : Setting) (m : Configuration) (c : ℕ) (act : Act) → may s m c act ≡ true → UndisturbedIsAlone m → UndisturbedIsAlone (after s m (record { caller = c; act = act }))
alone_act s m c (acts.Begin call) h w = λ n d e i. elim (cases_eq c n) [
  | inl q ↦ let p = entered_parts m.state.gate d i in nobody_else c d m.state.gate.counted m.state.gate.turning (begun n q e) p.0 p.1 ∙ q
  | inr q ↦ w n d (sym (put_other m.now.disturbed c n _ q) ∙ e) i
]
  where
    begun : (n : ℕ) → c ≡ n → (after s m (record { caller = c; act = acts.Begin call })).now.disturbed n ≡ false → list_any (λ x. not (eqb x c) && not (is_among x m.state.gate.turning)) m.state.gate.counted ≡ false
    begun n q e = let f = eq-eqb n c (sym q) in rw f at e
alone_act s m c acts.Enter h w = λ n d e i.
    let p = or_parts (not (eqb n c)) (m.now.disturbed n) e in
    let q = entered_parts (state_after m.state (m.now.calls c) c acts.Enter).gate d i in
    elim (cases_eq c d) [
      | inl f ↦ sym f ∙ sym (is_caller_of n p.0)
      | inr f ↦ w n d p.1 (entered_from m.state.gate d (sym (is_among-more d c m.state.gate.counted f) ∙ q.0) q.1)
    ]
  where
    is_caller_of : (n : ℕ) → not (eqb n c) ≡ false → n ≡ c
    is_caller_of n e = elim (cases_Bool (eqb n c)) [ inl f ↦ eqb-true n c f | inr f ↦ absurd (true≢false (sym (ap not f) ∙ e)) ]
alone_act s m c acts.Leave h w = λ n d e i.
    let q = entered_parts (state_after m.state (m.now.calls c) c acts.Leave).gate d i in
    elim (cases_eq c d) [
      | inl f ↦ absurd (both_ways (is_among d (without c m.state.gate.counted)) (subst (λ (y : ℕ). is_among y (without c m.state.gate.counted) ≡ false) f (is_among-without c m.state.gate.counted)) q.0)
      | inr f ↦ w n d e (entered_from m.state.gate d (sym (is_among-without_other d c m.state.gate.counted f) ∙ q.0) (sym (is_among-without_other d c m.state.gate.turning f) ∙ q.1))
    ]
alone_act s m c (acts.Blocked whats.Gate word) h w = λ n d e i. w n d e (blocked d (for_some (m.now.calls c).call is_lock_or_compact) i)
  where
    blocked : (d : ℕ) (b : Bool) → (is_among d (cond b m.state.gate.counted (c ∷ m.state.gate.counted)) && not (is_among d (cond b m.state.gate.turning (c ∷ m.state.gate.turning)))) ≡ true → is_entered m.state.gate d ≡ true
    blocked d true i = i
    blocked d false i =
        let p = and_parts (is_among d (c ∷ m.state.gate.counted)) (not (is_among d (c ∷ m.state.gate.turning))) i in
        elim (cases_eq c d) [
          | inl f ↦ let e = eq-eqb c d f in absurd (both_ways (is_among d (c ∷ m.state.gate.turning)) (not-true _ p.1) (rw e refl))
          | inr f ↦ and_from (is_among d m.state.gate.counted) (not (is_among d m.state.gate.turning)) (sym (is_among-more d c m.state.gate.counted f) ∙ p.0) (ap not (sym (is_among-more d c m.state.gate.turning f)) ∙ p.1)
        ]
alone_act s m c _ h w = w

pub alone_first : UndisturbedIsAlone first_configuration
alone_first n d e i = absurd (true≢false e)

-- others disturb for good
undisturbed_before : (s : Setting) (m : Configuration) (c n : ℕ) (act : Act) → (c ≡ n → ⊥) → disturbed_after m.state.gate m.now.disturbed c act n ≡ false → m.now.disturbed n ≡ false
undisturbed_before s m c n (acts.Begin call) ne e = sym (put_other m.now.disturbed c n _ ne) ∙ e
undisturbed_before s m c n acts.Enter ne e = (or_parts (not (eqb n c)) (m.now.disturbed n) e).1
undisturbed_before s m c n _ ne e = e

undisturbed_through : (s : Setting) (m : Configuration) (n : ℕ) (es : List Entry) → own n es ≡ [] → (configuration_after s m es).now.disturbed n ≡ false → m.now.disturbed n ≡ false
undisturbed_through s m n [] o e = e
undisturbed_through s m n (x ∷ es) o e = elim (cases_Bool (eqb x.caller n)) [
  | inl f ↦ let g : x ∷ own n es ≡ [] = (rw f at o) in absurd (let z : ⊥ = cc in z)
  | inr f ↦ undisturbed_before s m x.caller n x.act (eqb-false x.caller n f) (undisturbed_through s (after s m x) n es (rw f at o) e)
]

undisturbed_act : (s : Setting) (m : Configuration) (c n : ℕ) (act : Act) → (c ≡ n → ⊥) → may s m c act ≡ true → GateIsSound m.state.gate → UndisturbedIsAlone m → is_entered m.state.gate n ≡ true →
    (after s m (record { caller = c; act = act })).now.disturbed n ≡ false → SameHeap (after s m (record { caller = c; act = act })) m
undisturbed_act s m c n act ne h g w i e = owned_other s m c (record { entered = out; owns = owns; back = back }) act h
  where
    out : is_entered m.state.gate c ≡ false
    out = elim (cases_Bool (is_entered m.state.gate c)) [ inl f ↦ absurd (ne (w n c (undisturbed_before s m c n act ne e) f)) | inr f ↦ f ]

    owns : is_caller c m.state.gate.owner ≡ false
    owns = elim (cases_Bool (is_caller c m.state.gate.owner)) [ inl f ↦ absurd (ne (sym (g.alone c n f i))) | inr f ↦ f ]

    back : holds m.state.gate c whats.Back ≡ false
    back = elim (cases_Bool (holds m.state.gate c whats.Back)) [ inl f ↦ absurd (both_ways (is_entered m.state.gate c) out (g.inside c whats.Back f owns)) | inr f ↦ f ]

-- What others did while n was inside and stayed undisturbed left the heap as it was: its hints too.
pub undisturbed_others : (s : Setting) (m : Configuration) (n : ℕ) (es : List Entry) → own n es ≡ [] → may_all_follow s m es ≡ true → GateIsSound m.state.gate → UndisturbedIsAlone m → is_entered m.state.gate n ≡ true →
    (configuration_after s m es).now.disturbed n ≡ false → SameHeap (configuration_after s m es) m
undisturbed_others s m n [] o l g w i e = same_heap m
undisturbed_others s m n (x ∷ es) o l g w i e = elim (cases_Bool (eqb x.caller n)) [
  | inl f ↦ let z : x ∷ own n es ≡ [] = (rw f at o) in absurd (let no : ⊥ = cc in no)
  | inr f ↦
      let q = and_parts (may_follow s m x) (may_all_follow s (after s m x) es) l in
      let r = row_of s m x q.0 in
      let o' : own n es ≡ [] = (rw f at o) in
      let ne = eqb-false x.caller n f in
      let k = gate_other s m x.caller n ne x.act r in
      let p = entered_parts m.state.gate n i in
      let i' = entered_from (after s m x).state.gate n (k.counted ∙ p.0) (k.turning ∙ p.1) in
      same_heap_trans (configuration_after s (after s m x) es) (after s m x) m
      (undisturbed_others s (after s m x) n es o' q.1 (gate_sound_act s m x.caller x.act r g) (alone_act s m x.caller x.act r w) i' e)
      (undisturbed_act s m x.caller n x.act ne r g w i (undisturbed_through s (after s m x) n es o' e))
]
