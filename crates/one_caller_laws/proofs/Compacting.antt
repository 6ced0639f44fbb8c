-- A compaction, from act to act: what is left of the spans, of the committed pages and of the hints, in whatever order they go.
use Rattle.std.proofs.Common.{◌≡◌, ℕ, suc, ◌+◌, ◌*◌, ◌/◌, Bool, true, false, ◌&&◌, not, cond, List, [], ◌∷◌, ◌++◌, length, Option, Some, None, refl, sym, ap, ◌∙◌, subst, inl, inr, arith, eqb, ltb}
use Rattle.std.specs.Prelude.{filter}
use Rattle.std.specs.List.{list_all, list_any}
use Rattle.std.proofs.lemmas.Bool.{cases_Bool, and_parts, both_ways, false≢true, not-true, ltb-true, eq-eqb, eqb-true, ne_eqb, false_from_ne_true}
use Rattle.heap_model.specs.declared.Act.{Act}
use Rattle.heap_model.specs.declared.Act.TheVariants as acts
use Rattle.heap_model.specs.declared.Call.TheVariants as calls
use Rattle.heap_model.specs.declared.Kind.{Kind}
use Rattle.heap_model.specs.declared.Kind.TheVariants as kinds
use Rattle.heap_model.specs.State.{Setting, Area, Span, updated, remove_found}
use Rattle.heap_model.specs.Backend.{numbers, in_span}
use Rattle.heap_model.specs.Stay.{for_some, is_some_of}
use Rattle.heap_model.specs.CallState.{Configuration, caller_view}
use Rattle.heap_model.specs.Search.{span_at, begins_at}
use Rattle.heap_model.specs.Legal.{may_follow, after, is_begin, has_place, may_unspan_of, is_unused, places_in}
use Rattle.heap_model.specs.Alone.{by_zero, configuration_by}
use Rattle.heap_model.specs.Shape.{is_left_out, shape_of}
use Rattle.heap_model.proofs.GateSound.{row_of}
use Rattle.heap_model.proofs.ListLemmas.{for_some_parts, filter-remove_found}
use Rattle.heap_soundness.specs.Sound.{IsOneOf, AreInOrder}
use Rattle.heap_soundness.proofs.Lists.{any_in, any_found, none_from, all_from}
use Rattle.heap_soundness.proofs.Spans.{above, in_removed}
use Rattle.one_caller_laws.proofs.Core.{Core, core_of, hints_of}
use Rattle.one_caller_laws.proofs.InCall.{InCall, in_call_after, is_quiet, quiet_core, quiet_hints, quiet_left_out, shows_or_ends}
use Rattle.one_caller_laws.proofs.Reach.{Goes, goes_after, may_first, no_begin, shown_place, shown_cases}
use Rattle.one_caller_laws.proofs.Pair.{none_asked}
use Rattle.one_caller_laws.proofs.Counted.{one_less, any_filtered, was_there}

-- a span has a place
abbrev pub has_any : Core → Span → Kind → Bool
has_any c x kinds.Vs = has_place 4096 c.vs.places x
has_any c x kinds.Back = has_place 4096 c.back.places x
has_any c x kinds.Lfh = has_place 4096 c.lfh x
has_any c x _ = true

abbrev pub is_kept : Core → Span → Bool
is_kept c x = has_any c x x.kind

abbrev pub kept_spans : Core → List Span
kept_spans c = filter (is_kept c) c.back.area.spans

-- the core with another area and owner
abbrev pub shaped : Core → Area → Option ℕ → Core
shaped c a o = record c { back = record { area = record { reserved = c.back.area.reserved; committed = a.committed; spans = a.spans }; places = c.back.places }; owner = o }

-- a hint that names a span that is still there
abbrev pub still_named : List Span → Option ℕ → Option ℕ
still_named xs None = None
still_named xs (Some h) = cond (list_any (begins_at h) xs) (Some h) None

-- how many committed pages lie in none of these spans
abbrev pub loose_in : List Span → ℕ → (ℕ → Bool) → ℕ
loose_in xs reserved committed = length (filter (λ page. committed page && not (list_any (in_span page) xs)) (numbers 0 (256 * reserved)))

pub record IsCompacting (s : Setting) (old m : Configuration) (k : ℕ) : Type 0 where
  pub within : InCall s calls.Compact m
  pub core : core_of m ≡ shaped (core_of old) m.state.back.area m.state.gate.owner
  pub there : (x : Span) → IsOneOf x m.state.back.area.spans → IsOneOf x old.state.back.area.spans
  pub spans : filter (is_kept (core_of old)) m.state.back.area.spans ≡ kept_spans (core_of old)
  pub hints : (b t : ℕ) → hints_of m b t ≡ still_named m.state.back.area.spans (hints_of old b t)
  pub stays : (page : ℕ) → list_any (in_span page) (kept_spans (core_of old)) ≡ true → m.state.back.area.committed page ≡ old.state.back.area.committed page
  pub count : k + loose_in (kept_spans (core_of old)) old.state.back.area.reserved m.state.back.area.committed ≡ loose_in (kept_spans (core_of old)) old.state.back.area.reserved old.state.back.area.committed

---- Steps

module _ (s : Setting) (old m n : Configuration) (k : ℕ) (c : IsCompacting s old m k) (w : InCall s calls.Compact n) where
  -- .. that leave the heap
  pub compacting_same : core_of n ≡ core_of m → hints_of n ≡ hints_of m → IsCompacting s old n k
  compacting_same e h = record {
    within = w;
    core = e ∙ c.core ∙ sym (λ i. shaped (core_of old) (e i).back.area (e i).owner);
    there = λ x i. c.there x (subst (λ (d : Core). IsOneOf x d.back.area.spans) e i);
    spans = ap (λ (d : Core). filter (is_kept (core_of old)) d.back.area.spans) e ∙ c.spans;
    hints = λ b t. (λ i. h i b t) ∙ c.hints b t ∙ sym (ap (λ (d : Core). still_named d.back.area.spans (hints_of old b t)) e);
    stays = λ page q. ap (λ (d : Core). d.back.area.committed page) e ∙ c.stays page q;
    count = ap (λ (d : Core). k + loose_in (kept_spans (core_of old)) old.state.back.area.reserved d.back.area.committed) e ∙ c.count;
  }

  -- .. or change the owner of the heap lock alone
  pub compacting_owned : (o : Option ℕ) → core_of n ≡ record (core_of m) { owner = o } → hints_of n ≡ hints_of m → IsCompacting s old n k
  compacting_owned o e h = record {
    within = w;
    core = e ∙ ap (λ (d : Core). record d { owner = o }) c.core ∙ sym (λ i. shaped (core_of old) (e i).back.area (e i).owner);
    there = λ x i. c.there x (subst (λ (d : Core). IsOneOf x d.back.area.spans) e i);
    spans = ap (λ (d : Core). filter (is_kept (core_of old)) d.back.area.spans) e ∙ c.spans;
    hints = λ b t. (λ i. h i b t) ∙ c.hints b t ∙ sym (ap (λ (d : Core). still_named d.back.area.spans (hints_of old b t)) e);
    stays = λ page q. ap (λ (d : Core). d.back.area.committed page) e ∙ c.stays page q;
    count = ap (λ (d : Core). k + loose_in (kept_spans (core_of old)) old.state.back.area.reserved d.back.area.committed) e ∙ c.count;
  }

-- a span that ends has no place
pub record Placeless (m : Configuration) (first : ℕ) : Type 0 where
  pub span : Span
  pub found : span_at m.state.back.area first ≡ Some span
  pub unused : is_kept (core_of m) span ≡ false

pub placeless_is : (s : Setting) (m : Configuration) (first : ℕ) → may_follow s m (by_zero (acts.Unspan first)) ≡ true → Placeless m first
placeless_is s m first h =
    let k = caller_view m 0 in
    let r = and_parts k.back (for_some (span_at m.state.back.area first) (is_unused m.state k)) (row_of s m (by_zero (acts.Unspan first)) h) in
    let x = for_some_parts (span_at m.state.back.area first) (is_unused m.state k) r.1 in
    let q = and_parts (may_unspan_of k x.0.kind) (not (has_place 4096 (places_in m.state x.0.kind) x.0)) x.2 in
    of_kind x.0 x.1 x.0.kind refl q.0 (not-true _ q.1)
  where
    of_kind : (x : Span) → span_at m.state.back.area first ≡ Some x → (kind : Kind) → x.kind ≡ kind → may_unspan_of (caller_view m 0) kind ≡ true → has_place 4096 (places_in m.state kind) x ≡ false → Placeless m first
    of_kind x f kinds.Vs e u p = record { span = x; found = f; unused = rw e p }
    of_kind x f kinds.Back e u p = record { span = x; found = f; unused = rw e p }
    of_kind x f kinds.Lfh e u p = record { span = x; found = f; unused = rw e p }
    of_kind x f kinds.Header e u p = absurd (false≢true u)
    of_kind x f kinds.Free e u p = absurd (false≢true u)

same_any : (c : Core) (a : Area) (o : Option ℕ) (x : Span) (k : Kind) → has_any (shaped c a o) x k ≡ has_any c x k
same_any c a o x kinds.Vs = refl
same_any c a o x kinds.Back = refl
same_any c a o x kinds.Lfh = refl
same_any c a o x kinds.Header = refl
same_any c a o x kinds.Free = refl

pub same_kept : (s : Setting) (old m : Configuration) (k : ℕ) (x : Span) → IsCompacting s old m k → is_kept (core_of m) x ≡ is_kept (core_of old) x
same_kept s old m k x c = ap (λ (d : Core). is_kept d x) c.core ∙ same_any (core_of old) m.state.back.area m.state.gate.owner x x.kind

-- behind the end of a span none begins there
none_left : (p low : ℕ) (xs : List Span) → AreInOrder low xs → list_any (begins_at p) (remove_found (begins_at p) xs) ≡ false
none_left p low [] a = refl
none_left p low (x ∷ xs) a = elim (cases_Bool (begins_at p x)) [
  | inl e ↦
      let f = eqb-true x.first p e in
      let some = a.1 in
      rw e (none_from (begins_at p) xs (all_from (λ y. begins_at p y ≡ false) xs (λ y i. let l = (above (x.first + x.pages) xs y a.2 i).0 in ne_eqb y.first p (λ q. omega (arith, l, q, f, some)))))
  | inr e ↦ rw (e, e) (none_left p (x.first + x.pages) xs a.2)
]

named_removed : (first low : ℕ) (xs : List Span) (o : Option ℕ) → AreInOrder low xs → cond (is_some_of (still_named xs o) first) None (still_named xs o) ≡ still_named (remove_found (begins_at first) xs) o
named_removed first low xs None a = refl
named_removed first low xs (Some h) a = elim (cases_Bool (list_any (begins_at h) xs)) [
  | inr e ↦
      let gone : list_any (begins_at h) (remove_found (begins_at first) xs) ≡ false = false_from_ne_true _ (λ q.
      let x = any_found (begins_at h) (remove_found (begins_at first) xs) q in both_ways _ e (any_in (begins_at h) xs x.0 (was_there (begins_at first) x.0 xs x.1) x.2)) in
      rw (e, gone) refl
  | inl e ↦ elim (cases_Bool (eqb h first)) [
    | inl f ↦
        let same = eqb-true h first f in
        let gone : list_any (begins_at h) (remove_found (begins_at first) xs) ≡ false = ap (λ (j : ℕ). list_any (begins_at j) (remove_found (begins_at first) xs)) same ∙ none_left first low xs a in
        rw (e, f, gone) refl
    | inr f ↦
        let x = any_found (begins_at h) xs e in
        let g : begins_at first x.0 ≡ false = ap (λ (j : ℕ). eqb j first) (eqb-true x.0.first h x.2) ∙ f in
        let stays : list_any (begins_at h) (remove_found (begins_at first) xs) ≡ true = any_in (begins_at h) (remove_found (begins_at first) xs) x.0 (in_removed (begins_at first) x.0 xs g x.1) x.2 in
        rw (e, f, stays) refl
  ]
]

compacting_unspan : (s : Setting) (old m : Configuration) (k first : ℕ) → IsCompacting s old m k → may_follow s m (by_zero (acts.Unspan first)) ≡ true → IsCompacting s old (after s m (by_zero (acts.Unspan first))) k
compacting_unspan s old m k first c h =
    let u = placeless_is s m first h in
    let xs = m.state.back.area.spans in
    record {
      within = in_call_after s calls.Compact m (acts.Unspan first) c.within h refl;
      core = ap (λ (d : Core). record d { back = record { area = record { reserved = d.back.area.reserved; committed = d.back.area.committed; spans = remove_found (begins_at first) xs }; places = d.back.places } }) c.core;
      there = λ x i. c.there x (was_there (begins_at first) x xs i);
      spans =
          filter-remove_found (is_kept (core_of old)) (begins_at first) xs (λ y f.
          let g : Some u.span ≡ Some y = sym u.found ∙ f in
          let same : u.span ≡ y = cc in
          subst (λ (z : Span). is_kept (core_of old) z ≡ false) same (sym (same_kept s old m k u.span c) ∙ u.unused))
          ∙ c.spans;
      hints = λ b t.
          ap (λ (o : Option ℕ). cond (is_some_of o first) None o) (c.hints b t) ∙ named_removed first 0 xs (hints_of old b t) c.within.keeps.heap.spans.in_order;
      stays = c.stays;
      count = c.count;
    }

compacting_decommit : (s : Setting) (old m : Configuration) (k page : ℕ) → IsCompacting s old m k → may_follow s m (by_zero (acts.Decommit page)) ≡ true → IsCompacting s old (after s m (by_zero (acts.Decommit page))) (suc k)
compacting_decommit s old m k page c h =
    let v = caller_view m 0 in
    let a = m.state.back.area in
    let xs = kept_spans (core_of old) in
    let r1 = and_parts (v.owns && v.back && a.committed page) (not (list_any (in_span page) a.spans)) (row_of s m (by_zero (acts.Decommit page)) h) in
    let is = (and_parts (v.owns && v.back) (a.committed page) r1.0).1 in
    let out = not-true _ r1.1 in
    let outside : list_any (in_span page) xs ≡ false = false_from_ne_true _ (λ q. both_ways _ out (any_filtered (in_span page) (is_kept (core_of old)) a.spans (ap (list_any (in_span page)) c.spans ∙ q))) in
    let usable = c.within.keeps.heap.usable page is in
    let below = ltb-true (page / 256) a.reserved (and_parts (ltb (page / 256) a.reserved) _ usable).0 in
    let reserved : a.reserved ≡ old.state.back.area.reserved = ap (λ (d : Core). d.back.area.reserved) c.core in
    let gone : ℕ → Bool = updated a.committed page false in
    let here : gone page ≡ false = (let e = eq-eqb page page refl in rw e refl) in
    record {
      within = in_call_after s calls.Compact m (acts.Decommit page) c.within h refl;
      core = ap (λ (d : Core). record d { back = record { area = record { reserved = d.back.area.reserved; committed = updated a.committed page false; spans = d.back.area.spans }; places = d.back.places } }) c.core;
      there = c.there;
      spans = c.spans;
      hints = c.hints;
      stays = λ p q. elim (cases_Bool (eqb p page)) [
        | inl e ↦ absurd (both_ways _ outside (ap (λ (j : ℕ). list_any (in_span j) xs) (sym (eqb-true p page e)) ∙ q))
        | inr e ↦ rw e (c.stays p q)
      ];
      count =
          let fewer = one_less (λ p. a.committed p && not (list_any (in_span p) xs)) (λ p. gone p && not (list_any (in_span p) xs)) page 0 (256 * old.state.back.area.reserved)
          (rw (is, outside) refl) (ap (λ (b : Bool). b && not (list_any (in_span page) xs)) here)
          (λ x ne. let e = ne_eqb x page ne in rw e refl) (omega arith) (omega (arith, below, reserved)) in
          let old_count = c.count in
          omega (arith, fewer, old_count);
    }

---- All of it

abbrev pub is_lockish : Act → Bool
is_lockish acts.Lock = true
is_lockish acts.Unlock = true
is_lockish (acts.Decommit page) = true
is_lockish _ = false

abbrev pub one_page : Act → ℕ
one_page (acts.Decommit page) = 1
one_page _ = 0

abbrev pub pages_in : List Act → ℕ
pages_in [] = 0
pages_in (act ∷ rest) = one_page act + pages_in rest

abbrev pub owned_after : Act → Option ℕ → Option ℕ
owned_after acts.Lock o = Some 0
owned_after acts.Unlock o = None
owned_after _ o = o

abbrev pub owned : List Act → Option ℕ → Option ℕ
owned [] o = o
owned (act ∷ rest) o = owned rest (owned_after act o)

-- where a compaction has come
pub record Compacted (s : Setting) (old m : Configuration) (k : ℕ) (pre post : List Act) : Type 0 where
  pub compacting : IsCompacting s old (configuration_by s m pre) (k + pages_in (shape_of pre))
  pub goes : Goes s (configuration_by s m pre) post
  pub shape : list_all is_lockish (shape_of post) ≡ true
  pub owner : (configuration_by s m pre).state.gate.owner ≡ owned (shape_of pre) m.state.gate.owner

module _ (s : Setting) (old : Configuration) where
  abbrev Steps : Configuration → ℕ → Act → Type 0
  Steps m k act = IsCompacting s old (after s m (by_zero act)) (k + one_page act) × ((after s m (by_zero act)).state.gate.owner ≡ owned_after act m.state.gate.owner)

  shown_step : (m : Configuration) (k : ℕ) (act : Act) → IsCompacting s old m k → may_follow s m (by_zero act) ≡ true → is_lockish act ≡ true → Steps m k act
  shown_step m k acts.Lock c h l =
      let z : k + 0 ≡ k = omega arith in
      (subst (IsCompacting s old (after s m (by_zero acts.Lock))) (sym z) (compacting_owned s old m (after s m (by_zero acts.Lock)) k c (in_call_after s calls.Compact m acts.Lock c.within h refl) (Some 0) refl refl), refl)
  shown_step m k acts.Unlock c h l =
      let z : k + 0 ≡ k = omega arith in
      (subst (IsCompacting s old (after s m (by_zero acts.Unlock))) (sym z) (compacting_owned s old m (after s m (by_zero acts.Unlock)) k c (in_call_after s calls.Compact m acts.Unlock c.within h refl) None refl refl), refl)
  shown_step m k (acts.Decommit page) c h l =
      let z : k + 1 ≡ suc k = omega arith in
      (subst (IsCompacting s old (after s m (by_zero (acts.Decommit page)))) (sym z) (compacting_decommit s old m k page c h), refl)
  shown_step m k _ c h l = absurd (false≢true l)

  quiet_step : (m : Configuration) (k : ℕ) (act : Act) → IsCompacting s old m k → may_follow s m (by_zero act) ≡ true → is_quiet act ≡ true → is_begin act ≡ false → IsCompacting s old (after s m (by_zero act)) k
  quiet_step m k act c h q b = compacting_same s old m (after s m (by_zero act)) k c (in_call_after s calls.Compact m act c.within h b) (quiet_core s m act q) (quiet_hints s m act q)

  -- an act that is not shown is passed over
  passed : (act : Act) (pre post : List Act) (m : Configuration) (k : ℕ) → is_left_out act ≡ true → (after s m (by_zero act)).state.gate.owner ≡ m.state.gate.owner → Compacted s old (after s m (by_zero act)) k pre post → Compacted s old m k (act ∷ pre) post
  passed act pre post m k out o x = record { compacting = rw out x.compacting; goes = x.goes; shape = x.shape; owner = rw out (x.owner ∙ ap (owned (shape_of pre)) o) }

  counted : (act : Act) (pre post : List Act) (m : Configuration) (k : ℕ) → is_left_out act ≡ false → (after s m (by_zero act)).state.gate.owner ≡ owned_after act m.state.gate.owner → Compacted s old (after s m (by_zero act)) (k + one_page act) pre post → Compacted s old m k (act ∷ pre) post
  counted act pre post m k out o x =
      let z : k + one_page act + pages_in (shape_of pre) ≡ k + (one_page act + pages_in (shape_of pre)) = omega arith in
      let e = subst (IsCompacting s old (configuration_by s m (act ∷ pre))) z x.compacting in
      record { compacting = rw out e; goes = x.goes; shape = x.shape; owner = rw out (x.owner ∙ ap (owned (shape_of pre)) o) }

  pub compacted : (pre post : List Act) (m : Configuration) (k : ℕ) → IsCompacting s old m k → Goes s m (pre ++ post) → list_all is_lockish (shape_of (pre ++ post)) ≡ true → Compacted s old m k pre post
  compacted [] post m k c g l = let z : k + 0 ≡ k = omega arith in record { compacting = subst (IsCompacting s old m) (sym z) c; goes = g; shape = l; owner = refl }
  compacted (act ∷ pre) post m k c g l =
      let h = may_first s m act (pre ++ post) g in
      let b = no_begin s m act (pre ++ post) g in
      let g2 = goes_after s m act (pre ++ post) g in
      elim (cases_Bool (is_quiet act)) [
        | inl q ↦
            let out = quiet_left_out act q in
            passed act pre post m k out (ap (λ (d : Core). d.owner) (quiet_core s m act q)) (compacted pre post (after s m (by_zero act)) k (quiet_step m k act c h q b) g2 (rw out at l))
        | inr q ↦ elim (shows_or_ends s m act (none_asked s calls.Compact m c.within refl) q b h) [
          | inr u ↦
              let h2 = subst (λ (x : Act). may_follow s m (by_zero x) ≡ true) u.1 h in
              let out : is_left_out act ≡ true = ap is_left_out u.1 in
              let c2 = subst (λ (x : Act). IsCompacting s old (after s m (by_zero x)) k) (sym u.1) (compacting_unspan s old m k u.0 c h2) in
              passed act pre post m k out (ap (λ (x : Act). (after s m (by_zero x)).state.gate.owner) u.1) (compacted pre post (after s m (by_zero act)) k c2 g2 (rw out at l))
          | inl sh ↦ elim (shown_cases act sh) [
            | inl maker ↦
                let p = shown_place s m act (pre ++ post) g maker in
                absurd (false≢true (ap (list_all is_lockish) (sym p.4) ∙ l))
            | inr out ↦
                let l2 : list_all is_lockish (act ∷ shape_of (pre ++ post)) ≡ true = rw out at l in
                let l3 = and_parts (is_lockish act) (list_all is_lockish (shape_of (pre ++ post))) l2 in
                let st = shown_step m k act c h l3.0 in
                counted act pre post m k out st.1 (compacted pre post (after s m (by_zero act)) (k + one_page act) st.0 g2 l3.1)
          ]
        ]
      ]
