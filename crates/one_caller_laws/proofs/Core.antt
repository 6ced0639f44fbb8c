-- What of a configuration decides how the call of caller 0 goes on, whatever locks it holds.
use Rattle.std.proofs.Common.{◌≡◌, ℕ, ◌+◌, ◌*◌, ◌/◌, ◌-◌, Bool, ◌&&◌, ◌||◌, not, cond, List, ◌++◌, Option, Some, None, refl, sym, ap, ◌∙◌, leb}
use Rattle.std.specs.Prelude.{option_and_then}
use Rattle.std.specs.List.{find}
use Rattle.heap_model.specs.declared.Call.{Call}
use Rattle.heap_model.specs.declared.Call.TheVariants as calls
use Rattle.heap_model.specs.declared.Layer.{Layer}
use Rattle.heap_model.specs.declared.Layer.TheVariants as layers
use Rattle.heap_model.specs.declared.Limits.{Limits}
use Rattle.heap_model.specs.Geometry.{route_of, is_paged, is_huge, units_of, pages_of}
use Rattle.heap_model.specs.State.{Setting, State, BackPart, VsPart, Place, place_at, has_address, is_live, is_in_hand_of}
use Rattle.heap_model.specs.Ranges.{gaps_of, vs_spans, large_runs}
use Rattle.heap_model.specs.Stay.{for_some, lets_stay, run_from, reach_back}
use Rattle.heap_model.specs.CallState.{Search, Configuration}
use Rattle.heap_model.specs.Search.{request_for, request_of, sought, sought_by, has_to_move}
use Rattle.heap_soundness.specs.Invariant.{Keeps}
use Rattle.heap_soundness.proofs.Addresses.{place_among_all}

pub record Core : Type 0 where
  pub back : BackPart
  pub vs : VsPart
  pub lfh : List Place
  pub large : List Place
  pub words : ℕ → ℕ
  pub owner : Option ℕ
  pub call : Option Call
  pub placed : Bool
  pub no_span : Bool
  pub earlier : ℕ
  pub search : Search

abbrev pub core_of : Configuration → Core
core_of m = record {
  back = m.state.back;
  vs = m.state.vs;
  lfh = m.state.lfh;
  large = m.state.large;
  words = m.state.words;
  owner = m.state.gate.owner;
  call = (m.now.calls 0).call;
  placed = (m.now.calls 0).placed;
  no_span = (m.now.calls 0).no_span;
  earlier = (m.now.calls 0).searches;
  search = (m.now.calls 0).search;
}

abbrev pub places_in_core : Core → List Place
places_in_core c = c.lfh ++ c.vs.places ++ c.back.places ++ c.large

abbrev pub hints_of : Configuration → ℕ → ℕ → Option ℕ
hints_of m = m.now.span_history.hints

---- What a request reads

-- whoever holds what lock, one address has one place
pub same_place : (s : Setting) (m n : Configuration) → Keeps s m → Keeps s n → core_of m ≡ core_of n → (a : ℕ) → place_at m.state 0 a ≡ place_at n.state 0 a
same_place s m n k l e a = place_among_all s m 0 a k ∙ ap (λ (c : Core). find (has_address a) (places_in_core c)) e ∙ sym (place_among_all s n 0 a l)

pub stay_by : (l : Limits) (st other : State) → st.back ≡ other.back → st.vs ≡ other.vs → st.large ≡ other.large → (p : Place) (n : ℕ) (k : Layer) → p.layer ≡ k → lets_stay l st p n ≡ lets_stay l other p n
stay_by l st other back vs large p n layers.Lfh e = rw e refl
stay_by l st other back vs large p n layers.Vs e =
    rw e (λ i. leb n 131072 && leb (units_of n) (p.granules + run_from (gaps_of (vs_spans (back i).area) (vs i).places) (p.start / 16 + p.granules)))
stay_by l st other back vs large p n layers.Back e = rw e (λ i. is_paged (route_of n) && leb (256 * pages_of n) (reach_back 4096 (back i).area p))
stay_by l st other back vs large p n layers.Large e =
    rw e (λ i. is_huge (route_of n) && leb (256 * pages_of n) (p.granules + 256 * run_from (large_runs l (large i)) (p.start / 4096 - 256 * l.segments + p.granules / 256)))

-- so one block stays in both, or in none
pub same_stay : (l : Limits) (m n : Configuration) → core_of m ≡ core_of n → (p : Place) (size : ℕ) → lets_stay l m.state p size ≡ lets_stay l n.state p size
same_stay l m n e p size = stay_by l m.state n.state (ap (λ (c : Core). c.back) e) (ap (λ (c : Core). c.vs) e) (ap (λ (c : Core). c.large) e) p size p.layer refl

for_some_same : (o : Option Place) (f g : Place → Bool) → ((p : Place) → f p ≡ g p) → for_some o f ≡ for_some o g
for_some_same None f g h = refl
for_some_same (Some p) f g h = h p

same_sought_by : (s : Setting) (m n : Configuration) → Keeps s m → Keeps s n → core_of m ≡ core_of n → (call : Call) → sought_by s m.state 0 call ≡ sought_by s n.state 0 call
same_sought_by s m n k l e (calls.Realloc a size flags) =
    ap (λ (b : Bool). cond (not flags.in_place && b) (Some size) None)
    (ap (λ (o : Option Place). for_some o (has_to_move s m.state 0 size)) (same_place s m n k l e a)
    ∙ for_some_same (place_at n.state 0 a) (has_to_move s m.state 0 size) (has_to_move s n.state 0 size)
    (λ p. ap (λ (b : Bool). (is_live p.status || is_in_hand_of 0 p.status) && not b) (same_stay s.limits m n e p size)))
same_sought_by s m n k l e (calls.Alloc size flags) = refl
same_sought_by s m n k l e _ = refl

same_sought : (s : Setting) (m n : Configuration) → Keeps s m → Keeps s n → core_of m ≡ core_of n → sought s m.state 0 (m.now.calls 0) ≡ sought s n.state 0 (n.now.calls 0)
same_sought s m n k l e =
    ap (λ (c : Core). cond c.placed None (option_and_then (sought_by s m.state 0) c.call)) e
    ∙ ap (λ (o : Option ℕ). cond (n.now.calls 0).placed None o) (each (n.now.calls 0).call)
  where
    each : (o : Option Call) → option_and_then (sought_by s m.state 0) o ≡ option_and_then (sought_by s n.state 0) o
    each None = refl
    each (Some call) = same_sought_by s m n k l e call

pub same_request : (s : Setting) (m n : Configuration) → Keeps s m → Keeps s n → core_of m ≡ core_of n → request_of s m 0 ≡ request_of s n 0
same_request s m n k l e =
    let q = same_sought s m n k l e in
    λ i. request_for (ap (λ (c : Core). c.vs.active) e i) (q i)
