-- Behind the last place that goes, the spans that have none left go, and nothing else changes.
use Rattle.std.proofs.Common.{◌≡◌, ◌⊎◌, ℕ, Bool, true, false, ◌&&◌, not, cond, List, [], ◌∷◌, Option, Some, refl, sym, ap, ◌∙◌, subst, inl, inr}
use Rattle.std.specs.Prelude.{filter}
use Rattle.std.specs.List.{find}
use Rattle.std.proofs.lemmas.Bool.{cases_Bool, and_parts, both_ways, false≢true, not-true}
use Rattle.heap_model.specs.declared.Act.{Act}
use Rattle.heap_model.specs.declared.Act.TheVariants as acts
use Rattle.heap_model.specs.declared.Call.{Call}
use Rattle.heap_model.specs.declared.Kind.{Kind}
use Rattle.heap_model.specs.declared.Kind.TheVariants as kinds
use Rattle.heap_model.specs.declared.What.TheVariants as whats
use Rattle.heap_model.specs.State.{Setting, Span, is_kind, remove_found}
use Rattle.heap_model.specs.Ranges.{is_of_kind}
use Rattle.heap_model.specs.Stay.{for_some, is_some_of}
use Rattle.heap_model.specs.CallState.{Configuration, caller_view}
use Rattle.heap_model.specs.Search.{hint, hint_or, first_of, is_span_of, span_at, begins_at}
use Rattle.heap_model.specs.Legal.{may_follow, after, is_begin, is_compact, has_place, may_unspan_of, is_unused, places_in, forget_hint}
use Rattle.heap_model.specs.Alone.{by_zero, configuration_by}
use Rattle.heap_model.specs.Shape.{shape_of}
use Rattle.heap_model.proofs.GateSound.{row_of, none_held}
use Rattle.heap_model.proofs.ListLemmas.{for_some_parts, is_some_of_parts, filter-remove_found}
use Rattle.heap_soundness.specs.Sound.{IsOneOf, IsSoundSpan}
use Rattle.heap_soundness.proofs.Lists.{all_at}
use Rattle.heap_soundness.proofs.GapRuns.{in_filtered}
use Rattle.search_laws.proofs.Passes.{found_there}
use Rattle.search_laws.proofs.Filtered.{all_kept}
use Rattle.one_caller_laws.proofs.Core.{Core, core_of}
use Rattle.one_caller_laws.proofs.InCall.{InCall, in_call_after, is_quiet, quiet_core, quiet_hints, quiet_left_out, SearchesNone, shows_or_ends, each_passes}
use Rattle.one_caller_laws.proofs.Reach.{Goes, goes_after, may_first, no_begin, shown_place, shown_cases}
use Rattle.one_caller_laws.proofs.Duo.{hints_at}

-- a span of the front end stays, and one of another kind where it has a place
abbrev pub has_use : Core → Span → Kind → Bool
has_use c x kinds.Vs = has_place 4096 c.vs.places x
has_use c x kinds.Back = has_place 4096 c.back.places x
has_use c x _ = true

abbrev pub is_in_use : Core → Span → Bool
is_in_use c x = has_use c x x.kind

abbrev pub with_spans : Core → List Span → Core
with_spans c xs = record c { back = record { area = record { reserved = c.back.area.reserved; committed = c.back.area.committed; spans = xs }; places = c.back.places } }

-- .. without the spans that have lost their use
abbrev pub closed : Core → Core
closed c = with_spans c (filter (is_in_use c) c.back.area.spans)

-- what has changed since a call was in this configuration
record IsClosing (s : Setting) (call : Call) (old m : Configuration) : Type 0 where
  pub within : InCall s call m
  pub core : core_of m ≡ with_spans (core_of old) m.state.back.area.spans
  pub spans : filter (is_in_use (core_of old)) m.state.back.area.spans ≡ filter (is_in_use (core_of old)) old.state.back.area.spans
  pub hints : (b t : ℕ) → hint m.state.back.area m.now.span_history b t ≡ hint old.state.back.area old.now.span_history b t

-- what ends is a span that has lost its use
pub record Unused (m : Configuration) (first : ℕ) : Type 0 where
  pub span : Span
  pub found : span_at m.state.back.area first ≡ Some span
  pub kind : (span.kind ≡ kinds.Vs) ⊎ (span.kind ≡ kinds.Back)
  pub unused : is_in_use (core_of m) span ≡ false

pub unused_is : (s : Setting) (call : Call) (m : Configuration) (first : ℕ) → InCall s call m → is_compact call ≡ false → may_follow s m (by_zero (acts.Unspan first)) ≡ true → Unused m first
unused_is s call m first w plain h =
    let k = caller_view m 0 in
    let r = and_parts k.back (for_some (span_at m.state.back.area first) (is_unused m.state k)) (row_of s m (by_zero (acts.Unspan first)) h) in
    let x = for_some_parts (span_at m.state.back.area first) (is_unused m.state k) r.1 in
    let q = and_parts (may_unspan_of k x.0.kind) (not (has_place 4096 (places_in m.state x.0.kind) x.0)) x.2 in
    of_kind x.0 x.1 x.0.kind refl q.0 (not-true _ q.1)
  where
    of_kind : (x : Span) → span_at m.state.back.area first ≡ Some x → (kind : Kind) → x.kind ≡ kind → may_unspan_of (caller_view m 0) kind ≡ true → has_place 4096 (places_in m.state kind) x ≡ false → Unused m first
    of_kind x f kinds.Vs e u p = record { span = x; found = f; kind = inl e; unused = rw e p }
    of_kind x f kinds.Back e u p = record { span = x; found = f; kind = inr e; unused = rw e p }
    of_kind x f kinds.Lfh e u p =
        let k = caller_view m 0 in
        let c = (and_parts (for_some k.call.call is_compact) k.owns (and_parts (for_some k.call.call is_compact && k.owns) (not k.entered) u).0).0 in
        absurd (both_ways (is_compact call) plain (ap (λ (o : Option Call). for_some o is_compact) (sym w.call_is) ∙ c))
    of_kind x f kinds.Header e u p = absurd (false≢true u)
    of_kind x f kinds.Free e u p = absurd (false≢true u)

not_front : (x : Span) → (x.kind ≡ kinds.Vs) ⊎ (x.kind ≡ kinds.Back) → is_kind x.kind kinds.Lfh ≡ false
not_front x (inl e) = rw e refl
not_front x (inr e) = rw e refl

-- so no hint is of it
pub hint_stays : (s : Setting) (call : Call) (m : Configuration) (first : ℕ) → InCall s call m → Unused m first → (b t : ℕ) →
    hint (after s m (by_zero (acts.Unspan first))).state.back.area (after s m (by_zero (acts.Unspan first))).now.span_history b t ≡ hint m.state.back.area m.now.span_history b t
hint_stays s call m first w u b t =
    let front = not_front u.span u.kind in
    let spans = filter-remove_found (is_span_of b t) (begins_at first) m.state.back.area.spans (λ y f.
    let g : Some u.span ≡ Some y = sym u.found ∙ f in
    let same : u.span ≡ y = cc in
    subst (λ (z : Span). is_span_of b t z ≡ false) same (rw front refl)) in
    λ i. hint_or (kept i) (first_of (spans i))
  where
    kept : forget_hint first m.now.span_history.hints b t ≡ m.now.span_history.hints b t
    kept = elim (cases_Bool (is_some_of (m.now.span_history.hints b t) first)) [
      | inr n ↦ rw n refl
      | inl n ↦
          let k = w.keeps.hints b t first (is_some_of_parts (m.now.span_history.hints b t) first n) in
          let f = found_there 0 m.state.back.area.spans k.span w.keeps.heap.spans.in_order k.there in
          let g : Some u.span ≡ Some k.span = sym u.found ∙ ap (λ (j : ℕ). find (begins_at j) m.state.back.area.spans) (sym k.begins) ∙ f in
          let same : u.span ≡ k.span = cc in
          absurd (both_ways _ (not_front u.span u.kind) (ap (λ (z : Span). is_kind z.kind kinds.Lfh) same ∙ ap (λ (q : Kind). is_kind q kinds.Lfh) k.kind))
    ]

-- a span in a core that stands for another
same_use : (c : Core) (xs : List Span) (x : Span) (k : Kind) → has_use (with_spans c xs) x k ≡ has_use c x k
same_use c xs x kinds.Vs = refl
same_use c xs x kinds.Back = refl
same_use c xs x kinds.Lfh = refl
same_use c xs x kinds.Header = refl
same_use c xs x kinds.Free = refl

closing_unspan : (s : Setting) (call : Call) (old m : Configuration) (first : ℕ) → IsClosing s call old m → is_compact call ≡ false → may_follow s m (by_zero (acts.Unspan first)) ≡ true → IsClosing s call old (after s m (by_zero (acts.Unspan first)))
closing_unspan s call old m first c plain h =
    let u = unused_is s call m first c.within plain h in
    record {
      within = in_call_after s call m (acts.Unspan first) c.within h refl;
      core = ap (λ (k : Core). with_spans k (remove_found (begins_at first) m.state.back.area.spans)) c.core;
      spans =
          filter-remove_found (is_in_use (core_of old)) (begins_at first) m.state.back.area.spans (λ y f.
          let g : Some u.span ≡ Some y = sym u.found ∙ f in
          let same : u.span ≡ y = cc in
          subst (λ (z : Span). is_in_use (core_of old) z ≡ false) same
          (sym (same_use (core_of old) m.state.back.area.spans u.span u.span.kind) ∙ ap (λ (k : Core). is_in_use k u.span) (sym c.core) ∙ u.unused))
          ∙ c.spans;
      hints = λ b t. hint_stays s call m first c.within u b t ∙ c.hints b t;
    }

closing_quiet : (s : Setting) (call : Call) (old m : Configuration) (act : Act) → IsClosing s call old m → is_quiet act ≡ true → is_begin act ≡ false → may_follow s m (by_zero act) ≡ true → IsClosing s call old (after s m (by_zero act))
closing_quiet s call old m act c q b h =
    let n = after s m (by_zero act) in
    let e = quiet_core s m act q in
    let xs = ap (λ (k : Core). k.back.area.spans) e in
    record {
      within = in_call_after s call m act c.within h b;
      core = e ∙ c.core ∙ ap (with_spans (core_of old)) (sym xs);
      spans = ap (filter (is_in_use (core_of old))) xs ∙ c.spans;
      hints = λ b t. hints_at n m e (quiet_hints s m act q) b t ∙ c.hints b t;
    }

-- where nothing more is shown
close : (s : Setting) (call : Call) (old m : Configuration) (rest : List Act) → IsClosing s call old m → is_compact call ≡ false →
    ((k : Configuration) → InCall s call k → core_of k ≡ with_spans (core_of old) k.state.back.area.spans → SearchesNone s k) → Goes s m rest → shape_of rest ≡ [] → IsClosing s call old (configuration_by s m rest)
close s call old m [] c plain none g e = c
close s call old m (act ∷ rest) c plain none g e =
    let h = may_first s m act rest g in
    let b = no_begin s m act rest g in
    let n = after s m (by_zero act) in
    elim (cases_Bool (is_quiet act)) [
      | inl q ↦ close s call old n rest (closing_quiet s call old m act c q b h) plain none (goes_after s m act rest g) (ap (λ (b : Bool). cond b (shape_of rest) (act ∷ shape_of rest)) (sym (quiet_left_out act q)) ∙ e)
      | inr q ↦ elim (shows_or_ends s m act (none m c.within c.core) q b h) [
        | inr u ↦
            let c2 = closing_unspan s call old m u.0 c plain (subst (λ (x : Act). may_follow s m (by_zero x) ≡ true) u.1 h) in
            let f : shape_of (acts.Unspan u.0 ∷ rest) ≡ [] = ap (λ (x : Act). shape_of (x ∷ rest)) (sym u.1) ∙ e in
            close s call old n rest (subst (λ (x : Act). IsClosing s call old (after s m (by_zero x))) (sym u.1) c2) plain none (goes_after s m act rest g) f
        | inl k ↦ absurd (elim (shown_cases act k) [
          | inl maker ↦ let p = shown_place s m act rest g maker in let z : acts.Place p.0 p.1 p.2 ∷ p.3 ≡ [] = sym p.4 ∙ e in let bad : ⊥ = cc in bad
          | inr out ↦ let z : act ∷ shape_of rest ≡ [] = rw out at e in let bad : ⊥ = cc in bad
        ])
      ]
    ]

-- .. the call ends with the spans that are in use
pub record Closes (s : Setting) (call : Call) (m : Configuration) (rest : List Act) : Type 0 where
  pub within : InCall s call (configuration_by s m rest)
  pub core : core_of (configuration_by s m rest) ≡ closed (core_of m)
  pub hints : (b t : ℕ) → hint (configuration_by s m rest).state.back.area (configuration_by s m rest).now.span_history b t ≡ hint m.state.back.area m.now.span_history b t

pub closes_so : (s : Setting) (call : Call) (m : Configuration) (rest : List Act) → InCall s call m → is_compact call ≡ false →
    ((k : Configuration) → InCall s call k → core_of k ≡ with_spans (core_of m) k.state.back.area.spans → SearchesNone s k) → Goes s m rest → shape_of rest ≡ [] → Closes s call m rest
closes_so s call m rest w plain none g e =
    record { within = c.within; core = c.core ∙ ap (with_spans (core_of m)) (sym used ∙ c.spans); hints = c.hints }
  where
    c : IsClosing s call m (configuration_by s m rest)
    c = close s call m m rest (record { within = w; core = refl; spans = refl; hints = λ b t. refl }) plain none g e

    n : Configuration
    n = configuration_by s m rest

    in_use : (x : Span) (k : Kind) → x.kind ≡ k → IsOneOf x (configuration_by s m rest).state.back.area.spans → IsSoundSpan s (configuration_by s m rest).state.vs.active x k → has_use (core_of (configuration_by s m rest)) x k ≡ true
    in_use x kinds.Vs e i h = elim c.within.guarded.vs [
      | inl v ↦ absurd (both_ways _ (none_held (caller_view (configuration_by s m rest) 0) whats.Vs g.idle.holds) v)
      | inr u ↦ each_passes _ _ x u (in_filtered (is_of_kind kinds.Vs) x (configuration_by s m rest).state.back.area.spans (ap (λ (q : Kind). is_kind q kinds.Vs) e) i)
    ]
    in_use x kinds.Back e i h = elim c.within.guarded.back [
      | inl v ↦ absurd (both_ways _ (none_held (caller_view (configuration_by s m rest) 0) whats.Back g.idle.holds) v)
      | inr u ↦ each_passes _ _ x u (in_filtered (is_of_kind kinds.Back) x (configuration_by s m rest).state.back.area.spans (ap (λ (q : Kind). is_kind q kinds.Back) e) i)
    ]
    in_use x kinds.Lfh e i h = refl
    in_use x kinds.Header e i h = refl
    in_use x kinds.Free e i h = refl

    used : filter (is_in_use (core_of m)) (configuration_by s m rest).state.back.area.spans ≡ (configuration_by s m rest).state.back.area.spans
    used = all_kept (is_in_use (core_of m)) (configuration_by s m rest).state.back.area.spans (λ x i.
        sym (same_use (core_of m) (configuration_by s m rest).state.back.area.spans x x.kind) ∙ ap (λ (k : Core). is_in_use k x) (sym c.core)
        ∙ in_use x x.kind refl i (all_at (λ x. IsSoundSpan s (configuration_by s m rest).state.vs.active x x.kind) x (configuration_by s m rest).state.back.area.spans c.within.keeps.of_kinds i))

-- .. of a call that never searches
pub closes : (s : Setting) (call : Call) (m : Configuration) (rest : List Act) → InCall s call m → is_compact call ≡ false → ((k : Configuration) → InCall s call k → SearchesNone s k) → Goes s m rest → shape_of rest ≡ [] → Closes s call m rest
closes s call m rest w plain none g e = closes_so s call m rest w plain (λ k v same. none k v) g e
