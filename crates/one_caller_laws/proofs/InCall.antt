-- Caller 0 alone within a call: what its acts at the gate and at locks leave, and the next act that is another.
use Rattle.std.proofs.Common.{◌≡◌, ◌⊎◌, ℕ, Bool, true, false, ◌&&◌, not, cond, List, [], ◌∷◌, Option, Some, None, refl, sym, ap, ◌∙◌, subst, inl, inr}
use Rattle.std.specs.Prelude.{filter}
use Rattle.std.specs.List.{list_all}
use Rattle.std.proofs.lemmas.Bool.{cases_Bool, and_parts, or_parts, both_ways, false≢true, true≢false, not-true}
use Rattle.heap_model.specs.declared.Act.{Act}
use Rattle.heap_model.specs.declared.Act.TheVariants as acts
use Rattle.heap_model.specs.declared.Call.{Call}
use Rattle.heap_model.specs.declared.Kind.{Kind}
use Rattle.heap_model.specs.declared.Kind.TheVariants as kinds
use Rattle.heap_model.specs.declared.What.TheVariants as whats
use Rattle.heap_model.specs.State.{Setting, IsValidSetting, VsPart, Span, is_kind}
use Rattle.heap_model.specs.Stay.{for_some, is_due}
use Rattle.heap_model.specs.Ranges.{is_of_kind}
use Rattle.heap_model.specs.CallState.{CallerView, Configuration, Nothing, caller_view}
use Rattle.heap_model.specs.Search.{Request, request_of, searched, span_at}
use Rattle.heap_model.specs.Legal.{may, may_follow, after, disturbed_after, is_begin, is_compact, goes_to_lfh, searches, has_place, places_in, may_unspan_of, is_unused, are_used}
use Rattle.heap_model.specs.Alone.{by_zero, configuration_by, may_all_come}
use Rattle.heap_model.specs.Moments.{moments_by, state_before}
use Rattle.heap_model.specs.Shape.{is_left_out, shape_of}
use Rattle.heap_model.proofs.GateSound.{row_of}
use Rattle.heap_model.proofs.ListLemmas.{for_some_parts, is_some_of_parts}
use Rattle.heap_soundness.specs.Sound.{IsOneOf}
use Rattle.heap_soundness.specs.Invariant.{Keeps}
use Rattle.heap_soundness.proofs.Kept.{keeps_after}
use Rattle.heap_soundness.proofs.Lists.{found_in}
use Rattle.heap_soundness.proofs.GapRuns.{in_filtered}
use Rattle.call_laws.proofs.Goes.{goes_on}
use Rattle.one_caller_laws.proofs.Gate.{IsZeroGate, zero_after}
use Rattle.one_caller_laws.proofs.Whole.{IsGuarded, guarded_act}
use Rattle.one_caller_laws.proofs.Core.{Core, core_of, hints_of, same_request}

-- caller 0 is in this call, and nobody else has come
pub record InCall (s : Setting) (call : Call) (m : Configuration) : Type 0 where
  pub valid : IsValidSetting s
  pub keeps : Keeps s m
  pub gate : IsZeroGate m.state.gate
  pub guarded : IsGuarded m.state
  pub call_is : (m.now.calls 0).call ≡ Some call
  pub undisturbed : m.now.disturbed 0 ≡ false

disturbed_same : (m : Configuration) (act : Act) → is_begin act ≡ false → disturbed_after m.state.gate m.now.disturbed 0 act 0 ≡ m.now.disturbed 0
disturbed_same m (acts.Begin call) h = absurd (true≢false h)
disturbed_same m acts.Enter h = refl
disturbed_same m _ h = refl

pub in_call_after : (s : Setting) (call : Call) (m : Configuration) (act : Act) → InCall s call m → may_follow s m (by_zero act) ≡ true → is_begin act ≡ false → InCall s call (after s m (by_zero act))
in_call_after s call m act w h b = record {
  valid = w.valid;
  keeps = keeps_after s m (by_zero act) w.valid h w.keeps;
  gate = zero_after s m act h w.gate;
  guarded = guarded_act s m w.guarded act (row_of s m (by_zero act) h);
  call_is = goes_on s 0 (m.now.calls 0) act b ∙ w.call_is;
  undisturbed = disturbed_same m act b ∙ w.undisturbed;
}

---- Quiet acts

-- acts at the gate and at locks
abbrev pub is_quiet : Act → Bool
is_quiet acts.Enter = true
is_quiet acts.Leave = true
is_quiet (acts.TakeLock what) = true
is_quiet (acts.GiveLock what) = true
is_quiet _ = false

pub quiet_core : (s : Setting) (m : Configuration) (act : Act) → is_quiet act ≡ true → core_of (after s m (by_zero act)) ≡ core_of m
quiet_core s m acts.Enter h = refl
quiet_core s m acts.Leave h = refl
quiet_core s m (acts.TakeLock what) h = refl
quiet_core s m (acts.GiveLock what) h = refl
quiet_core s m _ h = absurd (false≢true h)

pub quiet_hints : (s : Setting) (m : Configuration) (act : Act) → is_quiet act ≡ true → hints_of (after s m (by_zero act)) ≡ hints_of m
quiet_hints s m acts.Enter h = refl
quiet_hints s m acts.Leave h = refl
quiet_hints s m (acts.TakeLock what) h = refl
quiet_hints s m (acts.GiveLock whats.Gate) h = refl
quiet_hints s m (acts.GiveLock whats.Lfh) h = refl
quiet_hints s m (acts.GiveLock whats.Vs) h = refl
quiet_hints s m (acts.GiveLock whats.Back) h = refl
quiet_hints s m (acts.GiveLock whats.Large) h = refl
quiet_hints s m _ h = absurd (false≢true h)

pub quiet_demand : (s : Setting) (m : Configuration) (act : Act) → is_quiet act ≡ true → (after s m (by_zero act)).now.demand ≡ Nothing
quiet_demand s m acts.Enter h = refl
quiet_demand s m acts.Leave h = refl
quiet_demand s m (acts.TakeLock what) h = refl
quiet_demand s m (acts.GiveLock what) h = refl
quiet_demand s m _ h = absurd (false≢true h)

pub quiet_left_out : (act : Act) → is_quiet act ≡ true → is_left_out act ≡ true
quiet_left_out acts.Enter h = refl
quiet_left_out acts.Leave h = refl
quiet_left_out (acts.TakeLock what) h = refl
quiet_left_out (acts.GiveLock what) h = refl
quiet_left_out _ h = absurd (false≢true h)

abbrev pub begins_none : List Act → Type 0
begins_none rest = list_all (λ act. not (is_begin act)) rest ≡ true

-- the next act that is not quiet, and where it comes
pub record Stop (s : Setting) (call : Call) (m : Configuration) (rest : List Act) : Type 0 where
  pub at : Configuration
  pub act : Act
  pub later : List Act
  pub core : core_of at ≡ core_of m
  pub hints : hints_of at ≡ hints_of m
  pub within : InCall s call at
  pub demand : at.now.demand ≡ Nothing
  pub loud : is_quiet act ≡ false
  pub begins : is_begin act ≡ false
  pub may : may_follow s at (by_zero act) ≡ true
  pub comes : may_all_come s (after s at (by_zero act)) later ≡ true
  pub none : begins_none later
  pub shape : shape_of rest ≡ shape_of (act ∷ later)
  pub looks : (test : Act → Bool) → ((a : Act) → is_quiet a ≡ true → test a ≡ false) → state_before test (moments_by s m rest) ≡ state_before test (moments_by s at (act ∷ later))
  pub ends : configuration_by s m rest ≡ configuration_by s (after s at (by_zero act)) later

-- .. or there is none
pub record Ended (s : Setting) (call : Call) (m : Configuration) (rest : List Act) : Type 0 where
  pub core : core_of (configuration_by s m rest) ≡ core_of m
  pub hints : hints_of (configuration_by s m rest) ≡ hints_of m
  pub within : InCall s call (configuration_by s m rest)
  pub shape : shape_of rest ≡ []

pub walk : (s : Setting) (call : Call) (m : Configuration) (rest : List Act) → InCall s call m → m.now.demand ≡ Nothing → may_all_come s m rest ≡ true → begins_none rest → Stop s call m rest ⊎ Ended s call m rest
walk s call m [] w d h n = inr (record { core = refl; hints = refl; within = w; shape = refl })
walk s call m (act ∷ rest) w d h n =
    let p = and_parts (may_follow s m (by_zero act)) (may_all_come s (after s m (by_zero act)) rest) h in
    let q = and_parts (not (is_begin act)) (list_all (λ act. not (is_begin act)) rest) n in
    let b = not-true (is_begin act) q.0 in
    elim (cases_Bool (is_quiet act)) [
      | inr loud ↦ inl (record {
        at = m;
        act = act;
        later = rest;
        core = refl;
        hints = refl;
        within = w;
        demand = d;
        loud = loud;
        begins = b;
        may = p.0;
        comes = p.1;
        none = q.1;
        shape = refl;
        looks = λ test k. refl;
        ends = refl;
      })
      | inl quiet ↦ on quiet p.0 b (walk s call (after s m (by_zero act)) rest (in_call_after s call m act w p.0 b) (quiet_demand s m act quiet) p.1 q.1)
    ]
  where
    on : is_quiet act ≡ true → may_follow s m (by_zero act) ≡ true → is_begin act ≡ false → Stop s call (after s m (by_zero act)) rest ⊎ Ended s call (after s m (by_zero act)) rest → Stop s call m (act ∷ rest) ⊎ Ended s call m (act ∷ rest)
    on quiet h b (inl x) = inl (record {
      at = x.at;
      act = x.act;
      later = x.later;
      core = x.core ∙ quiet_core s m act quiet;
      hints = x.hints ∙ quiet_hints s m act quiet;
      within = x.within;
      demand = x.demand;
      loud = x.loud;
      begins = x.begins;
      may = x.may;
      comes = x.comes;
      none = x.none;
      shape = ap (λ (b : Bool). cond b (shape_of rest) (act ∷ shape_of rest)) (quiet_left_out act quiet) ∙ x.shape;
      looks = λ test k. let e = k act quiet in rw e (x.looks test k);
      ends = x.ends;
    })
    on quiet h b (inr x) = inr (record {
      core = x.core ∙ quiet_core s m act quiet;
      hints = x.hints ∙ quiet_hints s m act quiet;
      within = x.within;
      shape = ap (λ (b : Bool). cond b (shape_of rest) (act ∷ shape_of rest)) (quiet_left_out act quiet) ∙ x.shape;
    })

---- What cannot come

-- each span of the variable-size layer and of the back end has a place
pub record IsWhole (c : Core) : Type 0 where
  pub vs : are_used 4096 kinds.Vs c.vs.places c.back.area.spans ≡ true
  pub back : are_used 4096 kinds.Back c.back.places c.back.area.spans ≡ true

pub each_passes : {A : Type 0} (t : A → Bool) (xs : List A) (x : A) → list_all t xs ≡ true → IsOneOf x xs → t x ≡ true
each_passes t [] x h i = absurd i
each_passes {A = A} t (y ∷ ys) x h (inl e) = subst (λ (z : A). t z ≡ true) e (and_parts (t y) (list_all t ys) h).0
each_passes t (y ∷ ys) x h (inr i) = each_passes t ys x (and_parts (t y) (list_all t ys) h).1 i

-- no span ends in a call that is no compaction while all have places
pub never_unspanned : (s : Setting) (call : Call) (m : Configuration) (first : ℕ) → InCall s call m → IsWhole (core_of m) → is_compact call ≡ false → may_follow s m (by_zero (acts.Unspan first)) ≡ true → ⊥
never_unspanned s call m first w whole plain h =
    let k = caller_view m 0 in
    let r = and_parts k.back (for_some (span_at m.state.back.area first) (is_unused m.state k)) (row_of s m (by_zero (acts.Unspan first)) h) in
    let x = for_some_parts (span_at m.state.back.area first) (is_unused m.state k) r.1 in
    let q = and_parts (may_unspan_of k x.0.kind) (not (has_place 4096 (places_in m.state x.0.kind) x.0)) x.2 in
    of_kind x.0 (found_in _ m.state.back.area.spans x.0 x.1) x.0.kind refl q.0 (not-true _ q.1)
  where
    of_kind : (x : Span) → IsOneOf x m.state.back.area.spans → (kind : Kind) → x.kind ≡ kind → may_unspan_of (caller_view m 0) kind ≡ true → has_place 4096 (places_in m.state kind) x ≡ false → ⊥
    of_kind x i kinds.Vs e u p =
        both_ways _ p (each_passes (has_place 4096 m.state.vs.places) (filter (is_of_kind kinds.Vs) m.state.back.area.spans) x whole.vs (in_filtered (is_of_kind kinds.Vs) x m.state.back.area.spans (ap (λ (q : Kind). is_kind q kinds.Vs) e) i))
    of_kind x i kinds.Back e u p =
        both_ways _ p (each_passes (has_place 4096 m.state.back.places) (filter (is_of_kind kinds.Back) m.state.back.area.spans) x whole.back (in_filtered (is_of_kind kinds.Back) x m.state.back.area.spans (ap (λ (q : Kind). is_kind q kinds.Back) e) i))
    of_kind x i kinds.Lfh e u p =
        let k = caller_view m 0 in
        let c = (and_parts (for_some k.call.call is_compact) k.owns (and_parts (for_some k.call.call is_compact && k.owns) (not k.entered) u).0).0 in
        both_ways (is_compact call) plain (ap (λ (o : Option Call). for_some o is_compact) (sym w.call_is) ∙ c)
    of_kind x i kinds.Header e u p = false≢true u
    of_kind x i kinds.Free e u p = false≢true u

-- nothing is to be placed by the front end
abbrev pub SearchesNone : Setting → Configuration → Type 0
SearchesNone s m = for_some (request_of s m 0).bucket (goes_to_lfh m.state.vs) ≡ false

pub none_searched : (v : VsPart) (o : Option ℕ) → for_some o (goes_to_lfh v) ≡ false → searched v.active o ≡ None
none_searched v None h = refl
none_searched v (Some b) h = let e = (or_parts (v.active b) (is_due v b) h).0 in rw e refl

pub not_searching : (k : CallerView) (r : Request) (test : ℕ → Bool) → r.search ≡ None → searches k r test ≡ true → ⊥
not_searching k r test e h = false≢true (ap (λ (o : Option ℕ). for_some o test) (sym e) ∙ (and_parts k.entered (for_some r.search test) h).1)

-- acts that a call shows, and those that make a span
abbrev pub is_shown : Act → Bool
is_shown (acts.Reserve segment) = true
is_shown (acts.Span first pages kind bucket slot) = true
is_shown act = not (is_left_out act)

-- .. are all that can come where nothing is searched, but for quiet ones and the end of a span
pub shows_or_ends : (s : Setting) (m : Configuration) (act : Act) → SearchesNone s m → is_quiet act ≡ false → is_begin act ≡ false → may_follow s m (by_zero act) ≡ true →
    (is_shown act ≡ true) ⊎ ((first : ℕ) × (act ≡ acts.Unspan first))
shows_or_ends s m act none loud b h = by_act act loud b (row_of s m (by_zero act) h)
  where
    e : (request_of s m 0).search ≡ None
    e = none_searched m.state.vs (request_of s m 0).bucket none

    by_act : (act : Act) → is_quiet act ≡ false → is_begin act ≡ false → may s m 0 act ≡ true → (is_shown act ≡ true) ⊎ ((first : ℕ) × (act ≡ acts.Unspan first))
    by_act (acts.Begin call) l b r = absurd (true≢false b)
    by_act acts.Enter l b r = absurd (true≢false l)
    by_act acts.Leave l b r = absurd (true≢false l)
    by_act (acts.TakeLock what) l b r = absurd (true≢false l)
    by_act (acts.GiveLock what) l b r = absurd (true≢false l)
    by_act (acts.Unspan first) l b r = inr (first, refl)
    by_act (acts.Active bucket) l b r =
        let k = caller_view m 0 in
        let v = m.state.vs in
        let q = request_of s m 0 in
        let r1 = and_parts _ (is_due v bucket) r in
        let r2 = and_parts _ (not (v.active bucket)) r1.0 in
        let r3 = and_parts (k.entered && k.vs) _ r2.0 in
        let o = is_some_of_parts q.bucket bucket r3.1 in
        absurd (both_ways (is_due v bucket) (or_parts (v.active bucket) (is_due v bucket) (ap (λ (o : Option ℕ). for_some o (goes_to_lfh v)) (sym o) ∙ none)).1 r1.1)
    by_act (acts.Saw head word bits) l b r = absurd (not_searching (caller_view m 0) (request_of s m 0) _ e r)
    by_act (acts.Lost head index) l b r = absurd (not_searching (caller_view m 0) (request_of s m 0) _ e r)
    by_act (acts.NoHint bucket slot) l b r = absurd (not_searching (caller_view m 0) (request_of s m 0) _ e r)
    by_act (acts.NoSpan bucket) l b r = absurd (not_searching (caller_view m 0) (request_of s m 0) _ e r)
    by_act _ l b r = inl refl

-- .. and while all spans have places, no span ends
pub shows : (s : Setting) (call : Call) (m : Configuration) (act : Act) → InCall s call m → IsWhole (core_of m) → SearchesNone s m → is_compact call ≡ false → is_quiet act ≡ false → is_begin act ≡ false →
    may_follow s m (by_zero act) ≡ true → is_shown act ≡ true
shows s call m act w whole none plain loud b h = elim (shows_or_ends s m act none loud b h) [
  | inl e ↦ e
  | inr u ↦ absurd (never_unspanned s call m u.0 w whole plain (subst (λ (x : Act). may_follow s m (by_zero x) ≡ true) u.1 h))
]

pub still_none : (s : Setting) (call : Call) (m n : Configuration) → InCall s call m → InCall s call n → core_of n ≡ core_of m → SearchesNone s m → SearchesNone s n
still_none s call m n w v e h =
    let q = same_request s n m v.keeps w.keeps e in
    (λ i. for_some (q i).bucket (goes_to_lfh (ap (λ (c : Core). c.vs) e i))) ∙ h
