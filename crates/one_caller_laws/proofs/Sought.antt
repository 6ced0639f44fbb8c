-- The search of one call, act by act, up to the first act that makes or refuses something.
use Rattle.std.proofs.Common.{◌≡◌, ◌⊎◌, inl, inr, ℕ, suc, Bool, true, false, cond, List, [], ◌∷◌, Option, Some, refl, sym, ap, ◌∙◌, subst}
use Rattle.std.proofs.lemmas.Bool.{and_parts, false≢true, true≢false}
use Rattle.heap_model.specs.declared.Act.{Act}
use Rattle.heap_model.specs.declared.Act.TheVariants as acts
use Rattle.heap_model.specs.declared.Call.{Call}
use Rattle.heap_model.specs.Buckets.{bucket_of}
use Rattle.heap_model.specs.State.{Setting}
use Rattle.heap_model.specs.CallState.{Configuration, Nothing}
use Rattle.heap_model.specs.Search.{asked_by}
use Rattle.heap_model.specs.Legal.{may_follow, after, is_begin, is_compact}
use Rattle.heap_model.specs.Alone.{by_zero, configuration_by}
use Rattle.heap_model.specs.Moments.{moments_by, state_before}
use Rattle.heap_model.specs.Shape.{shape_of, is_left_out}
use Rattle.one_caller_laws.specs.UnderBack.{is_under_back, place_under_back}
use Rattle.one_caller_laws.proofs.Core.{Core, core_of}
use Rattle.one_caller_laws.proofs.InCall.{InCall, is_quiet, quiet_core, quiet_hints, quiet_demand, quiet_left_out, is_shown, IsWhole, never_unspanned}
use Rattle.one_caller_laws.proofs.Reach.{Goes, goes_after, may_first, no_begin, is_maker, shown_cases}
use Rattle.one_caller_laws.proofs.Pair.{within_next, HintsAlike}
use Rattle.one_caller_laws.proofs.Duo.{hints_at}
use Rattle.one_caller_laws.proofs.Expected.{Path, stepped}
use Rattle.one_caller_laws.proofs.Turns.{Seeking, HintIs, Turned, seen, hint_missed, lit_up, fallen, never_lost}

-- acts of a search
abbrev pub is_turn : Act → Bool
is_turn (acts.Active bucket) = true
is_turn (acts.Saw head word bits) = true
is_turn (acts.NoHint bucket slot) = true
is_turn (acts.NoSpan bucket) = true
is_turn _ = false

-- .. and those that end one
abbrev pub is_end : Act → Bool
is_end (acts.Reserve segment) = true
is_end (acts.Span first pages kind bucket slot) = true
is_end (acts.Place start granules layer) = true
is_end (acts.NoFit n) = true
is_end _ = false

makes_end : (act : Act) → is_maker act ≡ true → is_end act ≡ true
makes_end (acts.Reserve segment) h = refl
makes_end (acts.Span first pages kind bucket slot) h = refl
makes_end _ h = absurd (false≢true h)

pub ends_by : (act other : Act) (later t : List Act) → is_shown act ≡ true → shape_of (act ∷ later) ≡ other ∷ t → is_end other ≡ true → is_end act ≡ true
ends_by act other later t shown e h = elim (shown_cases act shown) [
  | inl maker ↦ makes_end act maker
  | inr out ↦ let z : act ∷ shape_of later ≡ other ∷ t = (rw out at e) in let same : act ≡ other = cc in ap is_end same ∙ h
]

-- what sort an act is
pub data Sort (act : Act) : Type 0 where
  Quiet : is_quiet act ≡ true → Sort act
  Turns : is_turn act ≡ true → Sort act
  Stops : is_shown act ≡ true → Sort act
  Begins : is_begin act ≡ true → Sort act
  Ends : (first : ℕ) → act ≡ acts.Unspan first → Sort act
  Loses : (head index : ℕ) → act ≡ acts.Lost head index → Sort act

pub sort_of : (act : Act) → Sort act
sort_of (acts.Begin call) = Begins refl
sort_of acts.Enter = Quiet refl
sort_of acts.Leave = Quiet refl
sort_of (acts.TakeLock what) = Quiet refl
sort_of (acts.GiveLock what) = Quiet refl
sort_of (acts.Active bucket) = Turns refl
sort_of (acts.Saw head word bits) = Turns refl
sort_of (acts.NoHint bucket slot) = Turns refl
sort_of (acts.NoSpan bucket) = Turns refl
sort_of (acts.Unspan first) = Ends first refl
sort_of (acts.Lost head index) = Loses head index refl
sort_of _ = Stops refl

-- some act is shown
pub record ShowsStop (shape : List Act) : Type 0 where
  pub act : Act
  pub later : List Act
  pub is : shape ≡ act ∷ later

module _ (s : Setting) (call : Call) (n b : ℕ) (asked_is : asked_by call ≡ Some n) (bucket : bucket_of n ≡ Some b) (plain : is_compact call ≡ false) (h : Option ℕ) where
  -- where the search has come to
  pub record Sought (m : Configuration) (rest : List Act) : Type 0 where
    pub at : Configuration
    pub act : Act
    pub later : List Act
    pub steps : ℕ
    pub path : Path s b h steps (core_of m) (core_of at)
    pub hints : HintsAlike at m
    pub within : InCall s call at
    pub whole : IsWhole (core_of at)
    pub demand : at.now.demand ≡ Nothing
    pub seeking : Seeking s b h (core_of at)
    pub hint_is : HintIs s call n b asked_is bucket h at
    pub goes : Goes s at (act ∷ later)
    pub under : place_under_back s at (act ∷ later) ≡ true
    pub shape : shape_of rest ≡ shape_of (act ∷ later)
    pub ends : configuration_by s m rest ≡ configuration_by s at (act ∷ later)
    pub stops : is_shown act ≡ true
    pub looks : (test : Act → Bool) → ((a : Act) → (is_quiet a ≡ true) ⊎ (is_turn a ≡ true) → test a ≡ false) → state_before test (moments_by s m rest) ≡ state_before test (moments_by s at (act ∷ later))

  pub turned : (m : Configuration) (act : Act) (w : InCall s call m) (k : Seeking s b h (core_of m)) (i : HintIs s call n b asked_is bucket h m) → is_turn act ≡ true → may_follow s m (by_zero act) ≡ true → Turned s call n b asked_is bucket h m w k i act
  turned m (acts.Active q) w k i t x = lit_up s call n b asked_is bucket h m w k i q x
  turned m (acts.Saw head word bits) w k i t x = seen s call n b asked_is bucket h m w k i head word bits x
  turned m (acts.NoHint q slot) w k i t x = hint_missed s call n b asked_is bucket h m w k i q slot x
  turned m (acts.NoSpan q) w k i t x = fallen s call n b asked_is bucket h m w k i q x
  turned m _ w k i t x = absurd (false≢true t)

  pub turn_hints : (m : Configuration) (act : Act) → is_turn act ≡ true → HintsAlike (after s m (by_zero act)) m
  turn_hints m (acts.Active q) t = λ x y. refl
  turn_hints m (acts.Saw head word bits) t = λ x y. refl
  turn_hints m (acts.NoHint q slot) t = λ x y. refl
  turn_hints m (acts.NoSpan q) t = λ x y. refl
  turn_hints m _ t = absurd (false≢true t)

  pub turn_demand : (m : Configuration) (act : Act) → is_turn act ≡ true → (after s m (by_zero act)).now.demand ≡ Nothing
  turn_demand m (acts.Active q) t = refl
  turn_demand m (acts.Saw head word bits) t = refl
  turn_demand m (acts.NoHint q slot) t = refl
  turn_demand m (acts.NoSpan q) t = refl
  turn_demand m _ t = absurd (false≢true t)

  pub turn_whole : (c : Core) (act : Act) → is_turn act ≡ true → IsWhole c → IsWhole (stepped s b c act)
  turn_whole c (acts.Active q) t u = record { vs = u.vs; back = u.back }
  turn_whole c (acts.Saw head word bits) t u = record { vs = u.vs; back = u.back }
  turn_whole c (acts.NoHint q slot) t u = record { vs = u.vs; back = u.back }
  turn_whole c (acts.NoSpan q) t u = record { vs = u.vs; back = u.back }
  turn_whole c _ t u = absurd (false≢true t)

  pub turn_left_out : (act : Act) → is_turn act ≡ true → is_left_out act ≡ true
  turn_left_out (acts.Active q) t = refl
  turn_left_out (acts.Saw head word bits) t = refl
  turn_left_out (acts.NoHint q slot) t = refl
  turn_left_out (acts.NoSpan q) t = refl
  turn_left_out _ t = absurd (false≢true t)

  pub left_out : (act : Act) (rest : List Act) → is_left_out act ≡ true → shape_of (act ∷ rest) ≡ shape_of rest
  left_out act rest e = ap (λ (b : Bool). cond b (shape_of rest) (act ∷ shape_of rest)) e

  shows_still : (act : Act) (rest : List Act) → is_left_out act ≡ true → ShowsStop (shape_of (act ∷ rest)) → ShowsStop (shape_of rest)
  shows_still act rest e x = record { act = x.act; later = x.later; is = sym (left_out act rest e) ∙ x.is }

  abbrev Seek : Configuration → List Act → Type 0
  Seek m rest = InCall s call m → IsWhole (core_of m) → m.now.demand ≡ Nothing → Seeking s b h (core_of m) → HintIs s call n b asked_is bucket h m → Goes s m rest → place_under_back s m rest ≡ true → ShowsStop (shape_of rest) → Sought m rest

  pub seek : (m : Configuration) (rest : List Act) → InCall s call m → IsWhole (core_of m) → m.now.demand ≡ Nothing → Seeking s b h (core_of m) → HintIs s call n b asked_is bucket h m → Goes s m rest → place_under_back s m rest ≡ true →
      ShowsStop (shape_of rest) → Sought m rest
  seek m [] w u d k i g under x = absurd (let z : [] ≡ x.act ∷ x.later = x.is in let bad : ⊥ = cc in bad)
  seek m (act ∷ rest) w u d k i g under x = by_sort (sort_of act) (λ w u d k i g under x. seek (after s m (by_zero act)) rest w u d k i g under x)
    where
      by_sort : Sort act → Seek (after s m (by_zero act)) rest → Sought m (act ∷ rest)
      by_sort (Stops stops) again = record {
        at = m;
        act = act;
        later = rest;
        steps = 0;
        path = refl;
        hints = λ x y. refl;
        within = w;
        whole = u;
        demand = d;
        seeking = k;
        hint_is = i;
        goes = g;
        under = under;
        shape = refl;
        ends = refl;
        stops = stops;
        looks = λ test f. refl;
      }
      by_sort (Begins y) again = absurd (let e = no_begin s m act rest g in true≢false (sym y ∙ e))
      by_sort (Ends first e) again = absurd (never_unspanned s call m first w u plain (subst (λ (a : Act). may_follow s m (by_zero a) ≡ true) e (may_first s m act rest g)))
      by_sort (Loses head index e) again = absurd (never_lost s call n b asked_is bucket h m w k i head index (subst (λ (a : Act). may_follow s m (by_zero a) ≡ true) e (may_first s m act rest g)))
      by_sort (Quiet q) again =
          let to = after s m (by_zero act) in
          let e = quiet_core s m act q in
          let hints : HintsAlike to m = hints_at to m e (quiet_hints s m act q) in
          let y = again (within_next s call m act rest w g) (subst IsWhole (sym e) u) (quiet_demand s m act q) (subst (Seeking s b h) (sym e) k) (hints b (s.slot 0) ∙ i) (goes_after s m act rest g)
          (and_parts (is_under_back m act) (place_under_back s to rest) under).1 (shows_still act rest (quiet_left_out act q) x) in
          record {
            at = y.at;
            act = y.act;
            later = y.later;
            steps = y.steps;
            path = subst (λ (c : Core). Path s b h y.steps c (core_of y.at)) e y.path;
            hints = λ a t. y.hints a t ∙ hints a t;
            within = y.within;
            whole = y.whole;
            demand = y.demand;
            seeking = y.seeking;
            hint_is = y.hint_is;
            goes = y.goes;
            under = y.under;
            shape = left_out act rest (quiet_left_out act q) ∙ y.shape;
            ends = y.ends;
            stops = y.stops;
            looks = λ test f. let z = f act (inl q) in rw z (y.looks test f);
          }
      by_sort (Turns t) again =
          let to = after s m (by_zero act) in
          let r = turned m act w k i t (may_first s m act rest g) in
          let hints = turn_hints m act t in
          let y = again (within_next s call m act rest w g) (subst IsWhole (sym r.core) (turn_whole (core_of m) act t u)) (turn_demand m act t) (subst (Seeking s b h) (sym r.core) r.seeking) (hints b (s.slot 0) ∙ i) (goes_after s m act rest g)
          (and_parts (is_under_back m act) (place_under_back s to rest) under).1 (shows_still act rest (turn_left_out act t) x) in
          record {
            at = y.at;
            act = y.act;
            later = y.later;
            steps = suc y.steps;
            path = (act, r.is, r.turn, subst (λ (c : Core). Path s b h y.steps c (core_of y.at)) r.core y.path);
            hints = λ a t. y.hints a t ∙ hints a t;
            within = y.within;
            whole = y.whole;
            demand = y.demand;
            seeking = y.seeking;
            hint_is = y.hint_is;
            goes = y.goes;
            under = y.under;
            shape = left_out act rest (turn_left_out act t) ∙ y.shape;
            ends = y.ends;
            stops = y.stops;
            looks = λ test f. let z = f act (inr t) in rw z (y.looks test f);
          }
