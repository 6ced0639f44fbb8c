-- A call that searches nothing goes from one act that it shows to the next, and a span is made only for the place behind it.
use Rattle.std.proofs.Common.{◌≡◌, ◌⊎◌, ℕ, Bool, true, false, not, List, [], ◌∷◌, refl, sym, ap, ◌∙◌, subst, inl, inr}
use Rattle.std.proofs.lemmas.Bool.{and_parts, false≢true, true≢false, not-true}
use Rattle.std.specs.List.{list_all}
use Rattle.heap_model.specs.declared.Act.{Act}
use Rattle.heap_model.specs.declared.Act.TheVariants as acts
use Rattle.heap_model.specs.declared.Call.{Call}
use Rattle.heap_model.specs.declared.Kind.{Kind}
use Rattle.heap_model.specs.declared.Layer.{Layer}
use Rattle.heap_model.specs.State.{Setting, Span}
use Rattle.heap_model.specs.CallState.{Configuration, Nothing, SpanBy, PlaceBy}
use Rattle.heap_model.specs.Legal.{may_follow, after, is_begin, is_compact, meets_demand, meets_place, meets_span}
use Rattle.heap_model.specs.Alone.{by_zero, configuration_by, may_all_come}
use Rattle.heap_model.specs.Moments.{moments_by, state_before}
use Rattle.heap_model.specs.Shape.{is_left_out, shape_of}
use Rattle.heap_model.specs.Serial.{IsIdle}
use Rattle.heap_soundness.proofs.Kept.{demand_met}
use Rattle.one_caller_laws.proofs.Core.{core_of, hints_of}
use Rattle.one_caller_laws.proofs.InCall.{is_quiet, InCall, begins_none, Stop, Ended, walk, IsWhole, SearchesNone, is_shown, shows, still_none}

-- caller 0 is in a call that is no compaction, nothing is searched, all spans have places, and nothing has to follow
pub record Calm (s : Setting) (call : Call) (m : Configuration) : Type 0 where
  pub within : InCall s call m
  pub whole : IsWhole (core_of m)
  pub none : SearchesNone s m
  pub plain : is_compact call ≡ false
  pub demand : m.now.demand ≡ Nothing

-- these acts may come, within the call, and end it
pub record Goes (s : Setting) (m : Configuration) (rest : List Act) : Type 0 where
  pub comes : may_all_come s m rest ≡ true
  pub begins : begins_none rest
  pub idle : IsIdle (configuration_by s m rest)

pub goes_after : (s : Setting) (m : Configuration) (act : Act) (rest : List Act) → Goes s m (act ∷ rest) → Goes s (after s m (by_zero act)) rest
goes_after s m act rest g = record {
  comes = (and_parts (may_follow s m (by_zero act)) _ g.comes).1;
  begins = (and_parts (not (is_begin act)) (list_all (λ act. not (is_begin act)) rest) g.begins).1;
  idle = g.idle;
}

pub may_first : (s : Setting) (m : Configuration) (act : Act) (rest : List Act) → Goes s m (act ∷ rest) → may_follow s m (by_zero act) ≡ true
may_first s m act rest g = (and_parts (may_follow s m (by_zero act)) _ g.comes).0

pub no_begin : (s : Setting) (m : Configuration) (act : Act) (rest : List Act) → Goes s m (act ∷ rest) → is_begin act ≡ false
no_begin s m act rest g = not-true (is_begin act) (and_parts (not (is_begin act)) (list_all (λ act. not (is_begin act)) rest) g.begins).0

---- What has to follow

-- where a place has to follow, it does
pub record PlaceFollows (s : Setting) (m : Configuration) (rest : List Act) (x : Span) : Type 0 where
  pub start : ℕ
  pub granules : ℕ
  pub layer : Layer
  pub later : List Act
  pub is : rest ≡ acts.Place start granules layer ∷ later
  pub meets : meets_place x (acts.Place start granules layer) ≡ true

pub place_follows : (s : Setting) (m : Configuration) (rest : List Act) (x : Span) → Goes s m rest → m.now.demand ≡ PlaceBy 0 x → PlaceFollows s m rest x
place_follows s m [] x g d = absurd (let e : Nothing ≡ PlaceBy 0 x = sym g.idle.demand ∙ d in let z : ⊥ = cc in z)
place_follows s m (act ∷ rest) x g d = by_act act rest (ap (meets_demand m.state.back.area (by_zero act)) (sym d) ∙ demand_met s m (by_zero act) (may_first s m act rest g))
  where
    by_act : (act : Act) (rest : List Act) → meets_demand m.state.back.area (by_zero act) (PlaceBy 0 x) ≡ true → PlaceFollows s m (act ∷ rest) x
    by_act (acts.Place start granules layer) rest h = record { start = start; granules = granules; layer = layer; later = rest; is = refl; meets = h }
    by_act _ rest h = absurd (false≢true h)

-- .. and so does a span
pub record SpanFollows (s : Setting) (m : Configuration) (rest : List Act) (segment : ℕ) : Type 0 where
  pub first : ℕ
  pub pages : ℕ
  pub kind : Kind
  pub bucket : ℕ
  pub slot : ℕ
  pub later : List Act
  pub is : rest ≡ acts.Span first pages kind bucket slot ∷ later
  pub meets : meets_span m.state.back.area segment (acts.Span first pages kind bucket slot) ≡ true

pub span_follows : (s : Setting) (m : Configuration) (rest : List Act) (segment : ℕ) → Goes s m rest → m.now.demand ≡ SpanBy 0 segment → SpanFollows s m rest segment
span_follows s m [] segment g d = absurd (let e : Nothing ≡ SpanBy 0 segment = sym g.idle.demand ∙ d in let z : ⊥ = cc in z)
span_follows s m (act ∷ rest) segment g d = by_act act rest (ap (meets_demand m.state.back.area (by_zero act)) (sym d) ∙ demand_met s m (by_zero act) (may_first s m act rest g))
  where
    by_act : (act : Act) (rest : List Act) → meets_demand m.state.back.area (by_zero act) (SpanBy 0 segment) ≡ true → SpanFollows s m (act ∷ rest) segment
    by_act (acts.Span first pages kind bucket slot) rest h = record { first = first; pages = pages; kind = kind; bucket = bucket; slot = slot; later = rest; is = refl; meets = h }
    by_act _ rest h = absurd (false≢true h)

abbrev pub is_place : Act → Bool
is_place (acts.Place start granules layer) = true
is_place _ = false

abbrev pub is_maker : Act → Bool
is_maker (acts.Reserve segment) = true
is_maker (acts.Span first pages kind bucket slot) = true
is_maker _ = false

-- a span that is made is followed by a place, which the call shows
pub shown_place : (s : Setting) (m : Configuration) (act : Act) (rest : List Act) → Goes s m (act ∷ rest) → is_maker act ≡ true → (start granules : ℕ) × (layer : Layer) × (t : List Act) × (shape_of (act ∷ rest) ≡ acts.Place start granules layer ∷ t)
shown_place s m (acts.Reserve segment) rest g h =
    let n = after s m (by_zero (acts.Reserve segment)) in
    let f = span_follows s n rest segment (goes_after s m (acts.Reserve segment) rest g) refl in
    let x : Span = record { first = f.first; pages = f.pages; kind = f.kind; bucket = f.bucket; slot = f.slot } in
    let span = acts.Span f.first f.pages f.kind f.bucket f.slot in
    let g1 = subst (Goes s n) f.is (goes_after s m (acts.Reserve segment) rest g) in
    let p = place_follows s (after s n (by_zero span)) f.later x (goes_after s n span f.later g1) refl in
    (p.start, p.granules, p.layer, shape_of p.later, ap shape_of f.is ∙ ap shape_of p.is)
shown_place s m (acts.Span first pages kind bucket slot) rest g h =
    let x : Span = record { first = first; pages = pages; kind = kind; bucket = bucket; slot = slot } in
    let span = acts.Span first pages kind bucket slot in
    let p = place_follows s (after s m (by_zero span)) rest x (goes_after s m span rest g) refl in
    (p.start, p.granules, p.layer, shape_of p.later, ap shape_of p.is)
shown_place s m _ rest g h = absurd (false≢true h)

pub shown_cases : (act : Act) → is_shown act ≡ true → (is_maker act ≡ true) ⊎ (is_left_out act ≡ false)
shown_cases (acts.Reserve segment) h = inl refl
shown_cases (acts.Span first pages kind bucket slot) h = inl refl
shown_cases act h = inr (not-true _ h)

---- The next act that is shown

pub calm_at : (s : Setting) (call : Call) (m n : Configuration) → Calm s call m → InCall s call n → core_of n ≡ core_of m → n.now.demand ≡ Nothing → Calm s call n
calm_at s call m n c w e d = record {
  within = w;
  whole = subst IsWhole (sym e) c.whole;
  none = still_none s call m n c.within w e c.none;
  plain = c.plain;
  demand = d;
}

-- the call goes to this act, and what it was about stays
pub record Reaches (s : Setting) (call : Call) (m : Configuration) (rest : List Act) (act : Act) (t : List Act) : Type 0 where
  pub at : Configuration
  pub later : List Act
  pub core : core_of at ≡ core_of m
  pub hints : hints_of at ≡ hints_of m
  pub calm : Calm s call at
  pub goes : Goes s at (act ∷ later)
  pub shape : shape_of later ≡ t
  pub looks : (test : Act → Bool) → ((a : Act) → is_quiet a ≡ true → test a ≡ false) → state_before test (moments_by s m rest) ≡ state_before test (moments_by s at (act ∷ later))
  pub ends : configuration_by s m rest ≡ configuration_by s (after s at (by_zero act)) later

-- the stop, where something is shown yet
pub to_stop : (s : Setting) (call : Call) (m : Configuration) (rest : List Act) (act : Act) (t : List Act) → Calm s call m → Goes s m rest → shape_of rest ≡ act ∷ t → Stop s call m rest
to_stop s call m rest act t c g e = elim (walk s call m rest c.within c.demand g.comes g.begins) [
  | inl x ↦ x
  | inr x ↦ absurd (let bad : [] ≡ act ∷ t = sym x.shape ∙ e in let z : ⊥ = cc in z)
]

pub stop_calm : (s : Setting) (call : Call) (m : Configuration) (rest : List Act) → Calm s call m → (x : Stop s call m rest) → Calm s call x.at
stop_calm s call m rest c x = calm_at s call m x.at c x.within x.core x.demand

pub stop_goes : (s : Setting) (call : Call) (m : Configuration) (rest : List Act) → Goes s m rest → (x : Stop s call m rest) → Goes s x.at (x.act ∷ x.later)
stop_goes s call m rest g x =
    let a = x.may in
    let b = x.comes in
    let d = x.begins in
    let n = x.none in
    record { comes = rw (a, b) refl; begins = rw (d, n) refl; idle = subst IsIdle x.ends g.idle }

pub to_shown : (s : Setting) (call : Call) (m : Configuration) (rest : List Act) (act : Act) (t : List Act) → Calm s call m → Goes s m rest → shape_of rest ≡ act ∷ t → is_place act ≡ false → Reaches s call m rest act t
to_shown s call m rest act t c g e other = at_stop (to_stop s call m rest act t c g e)
  where
    at_stop : Stop s call m rest → Reaches s call m rest act t
    at_stop x =
        let k = stop_calm s call m rest c x in
        let go = stop_goes s call m rest g x in
        let f : shape_of (x.act ∷ x.later) ≡ act ∷ t = sym x.shape ∙ e in
        elim (shown_cases x.act (shows s call x.at x.act k.within k.whole k.none k.plain x.loud x.begins x.may)) [
          | inl maker ↦
              let p = shown_place s x.at x.act x.later go maker in
              let z : acts.Place p.0 p.1 p.2 ≡ act = cc (sym p.4 ∙ f) in
              absurd (true≢false (ap is_place z ∙ other))
          | inr out ↦
              let h : x.act ∷ shape_of x.later ≡ act ∷ t = rw out at f in
              let same : x.act ≡ act = cc in
              let more : shape_of x.later ≡ t = cc in
              record {
                at = x.at;
                later = x.later;
                core = x.core;
                hints = x.hints;
                calm = k;
                goes = subst (λ (a : Act). Goes s x.at (a ∷ x.later)) same go;
                shape = more;
                looks = λ test k. x.looks test k ∙ ap (λ (a : Act). state_before test (moments_by s x.at (a ∷ x.later))) same;
                ends = x.ends ∙ ap (λ (a : Act). configuration_by s (after s x.at (by_zero a)) x.later) same;
              }
        ]

-- where nothing more is shown, the call ends as it was
pub to_end : (s : Setting) (call : Call) (m : Configuration) (rest : List Act) → Calm s call m → Goes s m rest → shape_of rest ≡ [] → Ended s call m rest
to_end s call m rest c g e = elim (walk s call m rest c.within c.demand g.comes g.begins) [
  | inr x ↦ x
  | inl x ↦ absurd (at_stop x)
]
  where
    at_stop : Stop s call m rest → ⊥
    at_stop x =
        let k = stop_calm s call m rest c x in
        let go = stop_goes s call m rest g x in
        let f : shape_of (x.act ∷ x.later) ≡ [] = sym x.shape ∙ e in
        elim (shown_cases x.act (shows s call x.at x.act k.within k.whole k.none k.plain x.loud x.begins x.may)) [
          | inl maker ↦ let p = shown_place s x.at x.act x.later go maker in let z : acts.Place p.0 p.1 p.2 ∷ p.3 ≡ [] = sym p.4 ∙ f in let bad : ⊥ = cc in bad
          | inr out ↦ let h : x.act ∷ shape_of x.later ≡ [] = rw out at f in let bad : ⊥ = cc in bad
        ]
