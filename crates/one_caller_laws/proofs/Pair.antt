-- Two calls of caller 0 alone, side by side: what the same act does to both.
use Rattle.std.proofs.Common.{◌≡◌, ℕ, ◌+◌, Bool, true, false, ◌&&◌, ◌||◌, not, cond, List, [], ◌∷◌, ◌++◌, Option, Some, None, refl, sym, ap, ◌∙◌, subst, inl, inr, eqb}
use Rattle.std.specs.Prelude.{option_and_then, map}
use Rattle.std.specs.List.{list_any}
use Rattle.std.proofs.lemmas.Bool.{and_parts, both_ways, false≢true, not-true, eqb-true}
use Rattle.heap_model.specs.declared.Act.{Act}
use Rattle.heap_model.specs.declared.Act.TheVariants as acts
use Rattle.heap_model.specs.declared.Call.{Call}
use Rattle.heap_model.specs.declared.Reply.{Reply}
use Rattle.heap_model.specs.declared.What.TheVariants as whats
use Rattle.heap_model.specs.Buckets.{bucket_of}
use Rattle.heap_model.specs.State.{Setting, IsValidSetting, Place, Status, Live, InHand, open_locks, is_among, is_live, is_live_of, is_live_at, has_address, place_at, all_places}
use Rattle.heap_model.specs.Stay.{for_some}
use Rattle.heap_model.specs.CallState.{Configuration, Nothing, not_begun, caller_view}
use Rattle.heap_model.specs.Search.{sought, sought_by, hint}
use Rattle.heap_model.specs.Legal.{may_follow, after, goes_to_lfh, searched_once, has_live, may_touch}
use Rattle.heap_model.specs.History.{first_configuration, configuration_of}
use Rattle.heap_model.specs.Alone.{by_zero}
use Rattle.heap_model.specs.Moments.{moments_by}
use Rattle.heap_model.specs.Shape.{shape_of, shown}
use Rattle.heap_model.specs.Served.{IsOneCall}
use Rattle.heap_model.specs.Serial.{IsIdle}
use Rattle.heap_model.proofs.GateSound.{row_of, none_held}
use Rattle.heap_model.proofs.Moments.{acts_by}
use Rattle.heap_model.proofs.ListLemmas.{for_some_parts}
use Rattle.heap_soundness.specs.Invariant.{Keeps}
use Rattle.heap_soundness.proofs.Kept.{keeps_after, keeps_all}
use Rattle.heap_soundness.proofs.Addresses.{place_among_all}
use Rattle.heap_soundness.proofs.Lists.{found_in, found_passes, any_in}
use Rattle.serial_laws.proofs.Turns.{come_follow, come_to}
use Rattle.one_caller_laws.specs.OneCall.{IsBetween, AreAlike, Answers}
use Rattle.one_caller_laws.proofs.Gate.{IsZeroGate, zero_after, zero_from_first, idle_gate, outside_is}
use Rattle.one_caller_laws.proofs.Whole.{IsGuarded, guarded_act, guarded_from_first}
use Rattle.one_caller_laws.proofs.Core.{Core, core_of, hints_of, places_in_core, same_place}
use Rattle.one_caller_laws.proofs.InCall.{InCall, in_call_after, IsWhole, SearchesNone}
use Rattle.one_caller_laws.proofs.Reach.{Calm, Goes, calm_at, may_first, no_begin}

---- The Begin

module _ (s : Setting) (call : Call) (m : Configuration) (valid : IsValidSetting s) (b : IsBetween s m) (h : may_follow s m (by_zero (acts.Begin call)) ≡ true) where
  abbrev begun : Configuration
  begun = after s m (by_zero (acts.Begin call))

  reached : configuration_of s (map by_zero b.acts) ≡ m
  reached = come_to s first_configuration b.acts ∙ sym b.leads

  keeps_between : Keeps s m
  keeps_between = subst (Keeps s) reached (keeps_all s (map by_zero b.acts) valid (come_follow s first_configuration b.acts ∙ b.legal))

  zero_between : IsZeroGate m.state.gate
  zero_between = subst (λ (k : Configuration). IsZeroGate k.state.gate) (sym b.leads) (zero_from_first s b.acts b.legal)

  guarded_between : IsGuarded m.state
  guarded_between = subst (λ (k : Configuration). IsGuarded k.state) (sym b.leads) (guarded_from_first s b.acts b.legal)

  pub begun_within : InCall s call begun
  begun_within = record {
    valid = valid;
    keeps = keeps_after s m (by_zero (acts.Begin call)) valid h keeps_between;
    gate = zero_after s m (acts.Begin call) h zero_between;
    guarded = guarded_act s m guarded_between (acts.Begin call) (row_of s m (by_zero (acts.Begin call)) h);
    call_is = refl;
    undisturbed =
        ap (λ (ds : List ℕ). list_any (λ d. not (eqb d 0) && not (is_among d m.state.gate.turning)) ds)
        (outside_is m zero_between b.idle.outside);
  }

  pub begun_whole : IsWhole (core_of begun)
  begun_whole = record {
    vs = elim guarded_between.vs [ inl e ↦ absurd (both_ways _ (none_held (caller_view m 0) whats.Vs b.idle.holds) e) | inr u ↦ u ];
    back = elim guarded_between.back [ inl e ↦ absurd (both_ways _ (none_held (caller_view m 0) whats.Back b.idle.holds) e) | inr u ↦ u ];
  }

-- hints of one value
abbrev pub HintsAlike : Configuration → Configuration → Type 0
HintsAlike m n = (b t : ℕ) → hint m.state.back.area m.now.span_history b t ≡ hint n.state.back.area n.now.span_history b t

pub begun_same : (s : Setting) (call : Call) (m n : Configuration) → AreAlike m n → core_of (after s m (by_zero (acts.Begin call))) ≡ core_of (after s n (by_zero (acts.Begin call)))
begun_same s call m n a =
    let e = a.state in
    let q = a.searches in
    λ i. record {
      back = (e i).back;
      vs = (e i).vs;
      lfh = (e i).lfh;
      large = (e i).large;
      words = (e i).words;
      owner = (e i).gate.owner;
      call = Some call;
      placed = false;
      no_span = false;
      earlier = q i;
      search = not_begun;
    }

---- What an answer shows

pub goes_from : (s : Setting) (call : Call) (m : Configuration) (reply : Reply) (rest : List Act) → Answers s m call reply rest → Goes s (after s m (by_zero (acts.Begin call))) rest
goes_from s call m reply rest a =
    let o : IsOneCall call (acts.Begin call ∷ rest) = subst (IsOneCall call) (acts_by s m (acts.Begin call ∷ rest)) a.gets.one in
    record {
      comes = (and_parts (may_follow s m (by_zero (acts.Begin call))) _ a.legal).1;
      begins = o.1;
      idle = a.idle;
    }

pub shown_is : (s : Setting) (call : Call) (m : Configuration) (rest : List Act) → shown (moments_by s m (acts.Begin call ∷ rest)) ≡ shape_of rest
shown_is s call m rest = ap shape_of (acts_by s m (acts.Begin call ∷ rest))

---- The end

pub ends_alike : (s : Setting) (call : Call) (m n : Configuration) → InCall s call m → InCall s call n → IsIdle m → IsIdle n → core_of m ≡ core_of n → HintsAlike m n → AreAlike m n
ends_alike s call m n w v i j e hints =
    let gate : m.state.gate ≡ n.state.gate =
    idle_gate m w.gate i.outside i.holds ∙ ap (λ (c : Core). record { counted = []; turning = []; owner = c.owner; locks = open_locks }) e ∙ sym (idle_gate n v.gate j.outside j.holds) in
    record {
      state = λ k. record { gate = gate k; back = (e k).back; vs = (e k).vs; lfh = (e k).lfh; large = (e k).large; words = (e k).words };
      searches = ap (λ (c : Core). c.earlier + searched_once c.search.stage) e;
      hints = hints;
    }

---- Calls that search nothing

pub none_sought : (s : Setting) (m : Configuration) → sought s m.state 0 (m.now.calls 0) ≡ None → SearchesNone s m
none_sought s m e = ap (λ (o : Option ℕ). for_some (option_and_then bucket_of o) (goes_to_lfh m.state.vs)) e

-- those that ask for no size ..
pub none_asked : (s : Setting) (call : Call) (m : Configuration) → InCall s call m → sought_by s m.state 0 call ≡ None → SearchesNone s m
none_asked s call m w e =
    none_sought s m
    (ap (λ (o : Option Call). cond (m.now.calls 0).placed None (option_and_then (sought_by s m.state 0) o)) w.call_is
    ∙ either (m.now.calls 0).placed (sought_by s m.state 0 call) e)
  where
    either : (b : Bool) (o : Option ℕ) → o ≡ None → cond b None o ≡ None
    either true o h = refl
    either false o h = h

-- .. and those that have made their place
pub none_placed : (s : Setting) (m : Configuration) → (m.now.calls 0).placed ≡ true → SearchesNone s m
none_placed s m e = none_sought s m (ap (λ (b : Bool). cond b None (option_and_then (sought_by s m.state 0) (m.now.calls 0).call)) e)

---- What acts do

-- these change nothing
abbrev pub is_look : Act → Bool
is_look (acts.NoFit size) = true
is_look (acts.NotLive a) = true
is_look (acts.Sized a size) = true
is_look (acts.Load word v) = true
is_look _ = false

pub look_core : (s : Setting) (m : Configuration) (act : Act) → is_look act ≡ true → core_of (after s m (by_zero act)) ≡ core_of m
look_core s m (acts.NoFit size) h = refl
look_core s m (acts.NotLive a) h = refl
look_core s m (acts.Sized a size) h = refl
look_core s m (acts.Load word v) h = refl
look_core s m _ h = absurd (false≢true h)

pub look_hints : (s : Setting) (m : Configuration) (act : Act) → is_look act ≡ true → hints_of (after s m (by_zero act)) ≡ hints_of m
look_hints s m (acts.NoFit size) h = refl
look_hints s m (acts.NotLive a) h = refl
look_hints s m (acts.Sized a size) h = refl
look_hints s m (acts.Load word v) h = refl
look_hints s m _ h = absurd (false≢true h)

pub look_demand : (s : Setting) (m : Configuration) (act : Act) → is_look act ≡ true → (after s m (by_zero act)).now.demand ≡ Nothing
look_demand s m (acts.NoFit size) h = refl
look_demand s m (acts.NotLive a) h = refl
look_demand s m (acts.Sized a size) h = refl
look_demand s m (acts.Load word v) h = refl
look_demand s m _ h = absurd (false≢true h)

-- a step that comes next in a call
pub within_next : (s : Setting) (call : Call) (m : Configuration) (act : Act) (rest : List Act) → InCall s call m → Goes s m (act ∷ rest) → InCall s call (after s m (by_zero act))
within_next s call m act rest w g = in_call_after s call m act w (may_first s m act rest g) (no_begin s m act rest g)

pub calm_look : (s : Setting) (call : Call) (m : Configuration) (act : Act) (rest : List Act) → Calm s call m → Goes s m (act ∷ rest) → is_look act ≡ true → Calm s call (after s m (by_zero act))
calm_look s call m act rest c g h = calm_at s call m (after s m (by_zero act)) c (within_next s call m act rest c.within g) (look_core s m act h) (look_demand s m act h)

---- What is found

-- a status that is live of a size is that of the size
pub live_is : (size : ℕ) (status : Status) → is_live_of size status ≡ true → status ≡ Live size
live_is size (Live n) h = ap Live (eqb-true n size h)
live_is size (InHand c) h = absurd (false≢true h)

-- a live place is found there
pub record IsFoundLive (m : Configuration) (a size : ℕ) : Type 0 where
  pub place : Place
  pub is : place_at m.state 0 a ≡ Some place
  pub live : place.status ≡ Live size

pub sized_finds : (s : Setting) (m : Configuration) (a size : ℕ) → may_follow s m (by_zero (acts.Sized a size)) ≡ true → IsFoundLive m a size
sized_finds s m a size h =
    let k = caller_view m 0 in
    let r = (and_parts k.entered (for_some (place_at m.state 0 a) (λ p. is_live_of size p.status)) (row_of s m (by_zero (acts.Sized a size)) h)).1 in
    let p = for_some_parts (place_at m.state 0 a) (λ p. is_live_of size p.status) r in
    record { place = p.0; is = p.1; live = live_is size p.0.status p.2 }

pub take_finds : (s : Setting) (m : Configuration) (a size : ℕ) → may_follow s m (by_zero (acts.Take a size)) ≡ true → IsFoundLive m a size
take_finds s m a size h =
    let k = caller_view m 0 in
    let r = (and_parts k.entered (for_some (place_at m.state 0 a) (λ p. may_touch k p.layer && is_live_of size p.status)) (row_of s m (by_zero (acts.Take a size)) h)).1 in
    let p = for_some_parts (place_at m.state 0 a) (λ p. may_touch k p.layer && is_live_of size p.status) r in
    record { place = p.0; is = p.1; live = live_is size p.0.status (and_parts (may_touch k p.0.layer) _ p.2).1 }

-- two find one size
pub one_size : (s : Setting) (call : Call) (m n : Configuration) (a size other : ℕ) → InCall s call m → InCall s call n → core_of m ≡ core_of n → IsFoundLive m a size → IsFoundLive n a other → size ≡ other
one_size s call m n a size other w v e f g =
    let q : Some f.place ≡ Some g.place = sym f.is ∙ same_place s m n w.keeps v.keeps e a ∙ g.is in
    let p : f.place ≡ g.place = cc in
    let z : Live size ≡ Live other = sym f.live ∙ ap (λ (x : Place). x.status) p ∙ g.live in
    let r : size ≡ other = cc in
    r

any_append : {A : Type 0} (t : A → Bool) (xs ys : List A) → list_any t (xs ++ ys) ≡ (list_any t xs || list_any t ys)
any_append t [] ys = refl
any_append t (x ∷ xs) ys = ap (λ (b : Bool). t x || b) (any_append t xs ys) ∙ again (t x) (list_any t xs) (list_any t ys)
  where
    again : (a b c : Bool) → (a || (b || c)) ≡ ((a || b) || c)
    again true b c = refl
    again false b c = refl

abbrev lives_in : Core → ℕ → Bool
lives_in c a = has_live c.lfh a || has_live c.vs.places a || has_live c.back.places a || has_live c.large a

lives : (c : Core) (a : ℕ) → list_any (is_live_at a) (places_in_core c) ≡ lives_in c a
lives c a =
    any_append (is_live_at a) (c.lfh ++ c.vs.places ++ c.back.places) c.large
    ∙ ap (λ (b : Bool). b || has_live c.large a) (any_append (is_live_at a) (c.lfh ++ c.vs.places) c.back.places ∙ ap (λ (b : Bool). b || has_live c.back.places a) (any_append (is_live_at a) c.lfh c.vs.places))

-- an address cannot be of a live block, and of none
pub never_both : (s : Setting) (call : Call) (m n : Configuration) (a size : ℕ) → InCall s call m → InCall s call n → core_of m ≡ core_of n → may_follow s m (by_zero (acts.NotLive a)) ≡ true → IsFoundLive n a size → ⊥
never_both s call m n a size w v e h f =
    let k = caller_view m 0 in
    let c = core_of m in
    let r4 = and_parts (k.entered && not (has_live c.lfh a) && not (has_live c.vs.places a) && not (has_live c.back.places a)) (not (has_live c.large a)) (row_of s m (by_zero (acts.NotLive a)) h) in
    let r3 = and_parts (k.entered && not (has_live c.lfh a) && not (has_live c.vs.places a)) (not (has_live c.back.places a)) r4.0 in
    let r2 = and_parts (k.entered && not (has_live c.lfh a)) (not (has_live c.vs.places a)) r3.0 in
    let r1 = and_parts k.entered (not (has_live c.lfh a)) r2.0 in
    let a1 = not-true _ r1.1 in
    let a2 = not-true _ r2.1 in
    let a3 = not-true _ r3.1 in
    let a4 = not-true _ r4.1 in
    let dead : lives_in c a ≡ false = rw (a1, a2, a3, a4) refl in
    let found = sym (place_among_all s n 0 a v.keeps) ∙ f.is in
    let there = found_in (has_address a) (all_places n.state) f.place found in
    let at = found_passes (has_address a) (all_places n.state) f.place found in
    let lv : is_live f.place.status ≡ true = ap is_live f.live in
    let alive : list_any (is_live_at a) (places_in_core (core_of n)) ≡ true = any_in (is_live_at a) (all_places n.state) f.place there (rw (at, lv) refl) in
    both_ways _ dead (sym (lives c a) ∙ ap (λ (d : Core). list_any (is_live_at a) (places_in_core d)) e ∙ alive)
