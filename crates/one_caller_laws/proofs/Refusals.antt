-- Behind a refusal a call may still read what it has searched, and nothing else: what it leaves is what it found.
use Rattle.std.proofs.Common.{◌≡◌, ◌⊎◌, ℕ, ◌+◌, true, false, List, [], ◌∷◌, Option, Some, refl, sym, ap, ◌∙◌, subst, inl, inr}
use Rattle.std.proofs.lemmas.Bool.{false≢true, true≢false}
use Rattle.heap_model.specs.declared.Act.{Act}
use Rattle.heap_model.specs.declared.Act.TheVariants as acts
use Rattle.heap_model.specs.declared.Call.{Call}
use Rattle.heap_model.specs.Buckets.{bucket_of}
use Rattle.heap_model.specs.State.{Setting, open_locks}
use Rattle.heap_model.specs.CallState.{Configuration, Nothing, Stage, NotBegun, AtHint, FirstPass, SecondPass}
use Rattle.heap_model.specs.Search.{asked_by, has_not_begun}
use Rattle.heap_model.specs.Legal.{may_follow, after, is_compact, searched_once}
use Rattle.heap_model.specs.Alone.{by_zero, configuration_by}
use Rattle.heap_model.specs.Shape.{shape_of}
use Rattle.heap_model.specs.Serial.{IsIdle}
use Rattle.one_caller_laws.specs.OneCall.{AreAlike}
use Rattle.one_caller_laws.proofs.Gate.{idle_gate}
use Rattle.one_caller_laws.proofs.Core.{Core, core_of}
use Rattle.one_caller_laws.proofs.InCall.{InCall, quiet_core, quiet_hints, quiet_demand, quiet_left_out, is_shown, IsWhole, never_unspanned}
use Rattle.one_caller_laws.proofs.Reach.{Goes, goes_after, may_first, no_begin, shown_place, shown_cases}
use Rattle.one_caller_laws.proofs.Pair.{within_next, HintsAlike}
use Rattle.one_caller_laws.proofs.Duo.{hints_at}
use Rattle.one_caller_laws.proofs.Expected.{stepped, base, is_of_search}
use Rattle.one_caller_laws.proofs.Turns.{Seeking, HintIs, never_lost}
use Rattle.one_caller_laws.proofs.Sought.{Sort, Quiet, Turns, Stops, Begins, Ends, Loses, sort_of, turned, turn_hints, turn_demand, turn_whole, turn_left_out, left_out}

once : (t : Stage) → has_not_begun t ≡ false → searched_once t ≡ 1
once NotBegun e = absurd (true≢false e)
once AtHint e = refl
once FirstPass e = refl
once SecondPass e = refl

-- what two idle configurations of one base are
pub ends_by_base : (s : Setting) (call : Call) (m n : Configuration) → InCall s call m → InCall s call n → IsIdle m → IsIdle n → base (core_of m) ≡ base (core_of n) → has_not_begun (m.now.calls 0).search.stage ≡ false → has_not_begun (n.now.calls 0).search.stage ≡ false →
    HintsAlike m n → AreAlike m n
ends_by_base s call m n w v i j e p q hints =
    let gate : m.state.gate ≡ n.state.gate =
    idle_gate m w.gate i.outside i.holds ∙ ap (λ (c : Core). record { counted = []; turning = []; owner = c.owner; locks = open_locks }) e ∙ sym (idle_gate n v.gate j.outside j.holds) in
    record {
      state = λ k. record { gate = gate k; back = (e k).back; vs = (e k).vs; lfh = (e k).lfh; large = (e k).large; words = (e k).words };
      searches = ap (λ (x : ℕ). (m.now.calls 0).searches + x) (once (m.now.calls 0).search.stage p) ∙ ap (λ (c : Core). c.earlier + 1) e ∙ ap (λ (x : ℕ). (n.now.calls 0).searches + x) (sym (once (n.now.calls 0).search.stage q));
      hints = hints;
    }

step_base : (s : Setting) (b : ℕ) (c : Core) (act : Act) → is_of_search act ≡ true → base (stepped s b c act) ≡ base c
step_base s b c (acts.Saw head word bits) h = refl
step_base s b c (acts.NoHint bucket slot) h = refl
step_base s b c (acts.NoSpan bucket) h = refl
step_base s b c _ h = absurd (false≢true h)

step_active : (s : Setting) (b : ℕ) (c : Core) (act : Act) → is_of_search act ≡ true → (stepped s b c act).vs.active b ≡ c.vs.active b
step_active s b c (acts.Saw head word bits) h = refl
step_active s b c (acts.NoHint bucket slot) h = refl
step_active s b c (acts.NoSpan bucket) h = refl
step_active s b c _ h = absurd (false≢true h)

of_search : (s : Setting) (b : ℕ) (c : Core) (act : Act) → c.vs.active b ≡ true → ((act ≡ acts.Active b) × (c.vs.active b ≡ false)) ⊎ ((is_of_search act ≡ true) × (c.vs.active b ≡ true)) → is_of_search act ≡ true
of_search s b c act e (inl t) = absurd (true≢false (sym e ∙ t.1))
of_search s b c act e (inr t) = t.0

module _ (s : Setting) (call : Call) (n b : ℕ) (asked_is : asked_by call ≡ Some n) (bucket : bucket_of n ≡ Some b) (plain : is_compact call ≡ false) (h : Option ℕ) where
  pub record Trails (m : Configuration) (rest : List Act) : Type 0 where
    pub within : InCall s call (configuration_by s m rest)
    pub base_is : base (core_of (configuration_by s m rest)) ≡ base (core_of m)
    pub hints : HintsAlike (configuration_by s m rest) m
    pub begun : has_not_begun ((configuration_by s m rest).now.calls 0).search.stage ≡ false

  abbrev Trail : Configuration → List Act → Type 0
  Trail m rest = InCall s call m → IsWhole (core_of m) → m.now.demand ≡ Nothing → Seeking s b h (core_of m) → HintIs s call n b asked_is bucket h m → m.state.vs.active b ≡ true → has_not_begun (m.now.calls 0).search.stage ≡ false → Goes s m rest → shape_of rest ≡ [] → Trails m rest

  no_more : (m : Configuration) (act : Act) (rest : List Act) → Goes s m (act ∷ rest) → is_shown act ≡ true → shape_of (act ∷ rest) ≡ [] → ⊥
  no_more m act rest g shown e = elim (shown_cases act shown) [
    | inl maker ↦ let p = shown_place s m act rest g maker in let z : acts.Place p.0 p.1 p.2 ∷ p.3 ≡ [] = sym p.4 ∙ e in let bad : ⊥ = cc in bad
    | inr out ↦ let z : act ∷ shape_of rest ≡ [] = (rw out at e) in let bad : ⊥ = cc in bad
  ]

  pub trail : (m : Configuration) (rest : List Act) → InCall s call m → IsWhole (core_of m) → m.now.demand ≡ Nothing → Seeking s b h (core_of m) → HintIs s call n b asked_is bucket h m → m.state.vs.active b ≡ true →
      has_not_begun (m.now.calls 0).search.stage ≡ false → Goes s m rest → shape_of rest ≡ [] → Trails m rest
  trail m [] w u d k i on begun g e = record { within = w; base_is = refl; hints = λ x y. refl; begun = begun }
  trail m (act ∷ rest) w u d k i on begun g e = by_sort (sort_of act) (λ w u d k i on begun g e. trail (after s m (by_zero act)) rest w u d k i on begun g e)
    where
      by_sort : Sort act → Trail (after s m (by_zero act)) rest → Trails m (act ∷ rest)
      by_sort (Stops stops) again = absurd (no_more m act rest g stops e)
      by_sort (Begins y) again = absurd (let e = no_begin s m act rest g in true≢false (sym y ∙ e))
      by_sort (Ends first y) again = absurd (never_unspanned s call m first w u plain (subst (λ (a : Act). may_follow s m (by_zero a) ≡ true) y (may_first s m act rest g)))
      by_sort (Loses head index y) again = absurd (never_lost s call n b asked_is bucket h m w k i head index (subst (λ (a : Act). may_follow s m (by_zero a) ≡ true) y (may_first s m act rest g)))
      by_sort (Quiet q) again =
          let to = after s m (by_zero act) in
          let c = quiet_core s m act q in
          let hints : HintsAlike to m = hints_at to m c (quiet_hints s m act q) in
          let y = again (within_next s call m act rest w g) (subst IsWhole (sym c) u) (quiet_demand s m act q) (subst (Seeking s b h) (sym c) k) (hints b (s.slot 0) ∙ i) (ap (λ (c : Core). c.vs.active b) c ∙ on)
          (ap (λ (c : Core). has_not_begun c.search.stage) c ∙ begun) (goes_after s m act rest g)
          (sym (left_out s call n b asked_is bucket plain h act rest (quiet_left_out act q)) ∙ e) in
          record { within = y.within; base_is = y.base_is ∙ ap base c; hints = λ a t. y.hints a t ∙ hints a t; begun = y.begun }
      by_sort (Turns t) again =
          let to = after s m (by_zero act) in
          let r = turned s call n b asked_is bucket plain h m act w k i t (may_first s m act rest g) in
          let o = of_search s b (core_of m) act on r.turn in
          let hints = turn_hints s call n b asked_is bucket plain h m act t in
          let y = again (within_next s call m act rest w g) (subst IsWhole (sym r.core) (turn_whole s call n b asked_is bucket plain h (core_of m) act t u)) (turn_demand s call n b asked_is bucket plain h m act t)
          (subst (Seeking s b h) (sym r.core) r.seeking) (hints b (s.slot 0) ∙ i) (ap (λ (c : Core). c.vs.active b) r.core ∙ step_active s b (core_of m) act o ∙ on)
          (ap (λ (c : Core). has_not_begun c.search.stage) r.core ∙ r.begun on) (goes_after s m act rest g)
          (sym (left_out s call n b asked_is bucket plain h act rest (turn_left_out s call n b asked_is bucket plain h act t)) ∙ e) in
          record { within = y.within; base_is = y.base_is ∙ ap base r.core ∙ step_base s b (core_of m) act o; hints = λ a t. y.hints a t ∙ hints a t; begun = y.begun }
