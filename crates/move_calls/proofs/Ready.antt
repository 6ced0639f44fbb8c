-- A lock that is taken on the way to a move, or met; and that all is known then.
use Rattle.std.proofs.Common.{◌≡◌, ℕ, ◌+◌, ◌/◌, ◌≤◌, true, false, List, [], ◌∷◌, ◌++◌, length, Some, refl, sym, ap, ◌∙◌, subst}
use Rattle.std.specs.Prelude.{Result, Ok, Err, IfOk, IfErr}
use Rattle.std.specs.List.{find}
use Rattle.std.proofs.lemmas.Bool.{eqb-true, true≢false, eq-eqb}
use Rattle.heap_model.specs.declared.Act.TheVariants as acts
use Rattle.heap_model.specs.declared.Busy.{Busy}
use Rattle.heap_model.specs.declared.Call.TheVariants as calls
use Rattle.heap_model.specs.declared.Flags.{Flags}
use Rattle.heap_model.specs.declared.Layer.{Layer}
use Rattle.heap_model.specs.declared.Layer.TheVariants as layers
use Rattle.heap_model.specs.declared.What.{What}
use Rattle.heap_model.specs.declared.What.TheVariants as whats
use Rattle.heap_model.specs.Limits.{AreValid}
use Rattle.heap_model.specs.CallState.{Configuration, caller_view}
use Rattle.heap_model.specs.Geometry.{words_of}
use Rattle.heap_model.specs.History.{configuration_of, configuration_after, first_configuration}
use Rattle.heap_model.specs.Layers.{LayerState}
use Rattle.heap_model.specs.Legal.{after, may_touch}
use Rattle.heap_model.specs.State.{Setting, Place, Live, address, is_layer, has_address, hands, holds, guarded, places_of, all_places, exclusive_places}
use Rattle.heap_soundness.specs.Sound.{IsOneOf}
use Rattle.heap_soundness.specs.Invariant.{Keeps}
use Rattle.heap_soundness.proofs.Addresses.{one_address, exclusive_in_all}
use Rattle.heap_soundness.proofs.Kept.{keeps_all}
use Rattle.heap_soundness.proofs.Lists.{found_in, found_passes, find_some}
use Rattle.heap_soundness.proofs.Whole.{all_disjoint, all_addresses}
use Rattle.claim_rule.specs.Entries.{IsLegalWith, setting_of, have_slots, is_named, entry}
use Rattle.claim_rule.specs.Home.{slot_of}
use Rattle.claim_rule.specs.Places.{data_count}
use Rattle.claim_rule.proofs.Advance.{some_setting}
use Rattle.claim_rule.proofs.Lists.{legal_parts}
use Rattle.step_parts.proofs.FrontEnd.{valid_setting, through_same}
use Rattle.lock_steps.specs.Locks.{owed_with}
use Rattle.call_laws.proofs.Within.{one_in, one_behind}
use Rattle.heap_gate.specs.Token.{Token, Always, now, IsStanding, is_out}
use Rattle.heap_gate.specs.Calls.{Runs, Stands, stance, IsGuarded, HasTaken, HasMissed}
use Rattle.call_parts.specs.Entries.{HasAdded}
use Rattle.call_parts.proofs.Serving.{new_since}
use Rattle.call_parts.proofs.Tokens.{added_runs, added_taken}
use Rattle.address_calls.proofs.Words.{words_in}
use Rattle.move_calls.specs.Holds.{IsGathering, HasOneMore, HasMet, IsReadyToMove}
use Rattle.move_calls.proofs.Still.{setting_does, still_guarded, still_runs, out_more}
use Rattle.move_calls.proofs.Stuck.{stuck_then}

---- One lock more

pub taken_too : {T : Type 0} (tells : T → LayerState) (c d : Token) (what : What) (state : T) (addr size n : ℕ) (flags : Flags) (p : Place) (out : List ℕ) → owed_with what [] ≡ [] → HasTaken tells c d what state → IsStanding c → IsStanding d
    → IsGathering c addr size n flags p out → HasOneMore c d addr size n flags p out what
taken_too tells c d what state addr size n flags p out nothing x sc sd v =
    let s = x.stands in let own = v.serving in let before = setting_does c d _ x.reveals.does in
    let owes : owed_with what c.owes ≡ c.owes = ap (owed_with what) own.owes ∙ (nothing ∙ sym own.owes) in
    let added = added_taken tells c d what state owes x in
    record {
      gathering = record {
        serving = record {
          call_is = s.call ∙ own.call_is;
          fresh = s.fresh ∙ own.fresh;
          inside = s.inside ∙ own.inside;
          out_is = s.out ∙ ap (λ (l : List ℕ). slot_of what ∷ l) own.out_is;
          whole = s.whole;
          free = s.free ∙ own.free;
          pending = s.pending;
          prepared = s.prepared;
          searched = s.searched ∙ own.searched;
          drawn = s.drawn ∙ own.drawn;
          owes = s.owes ∙ (owes ∙ own.owes);
          is_new = new_since c d (calls.Realloc addr n flags) (acts.TakeLock what ∷ []) added.goes own.prepared s.prepared refl own.is_new;
        };
        stuck = stuck_then c d x.reveals.does.number before sc sd (λ w h. ap (is_out w) s.out ∙ out_more w (slot_of what) c.out h) x.guarded addr size n p v.stuck;
      };
      added = added;
      still = still_guarded c d _ x.reveals.does sc x.guarded;
    }

-- what the layers have does not change where a lock was busy
pub blocked_same : (s : Setting) (m : Configuration) (c : ℕ) (what : What) (word : ℕ) → let k = after s m (entry c (acts.Blocked what word)) in (k.state.vs ≡ m.state.vs) × (k.state.back ≡ m.state.back) × (k.state.large ≡ m.state.large)
blocked_same s m c whats.Gate word = (refl, refl, refl)
blocked_same s m c whats.Lfh word = (refl, refl, refl)
blocked_same s m c whats.Vs word = (refl, refl, refl)
blocked_same s m c whats.Back word = (refl, refl, refl)
blocked_same s m c whats.Large word = (refl, refl, refl)

pub met_too : (c d : Token) (what : What) (b : Busy) → HasMissed c d what b.what b.word → IsStanding d → c.free ≡ true → HasMet c d c.out what b
met_too c d what b x sd free =
    let s = x.stands in
    record {
      ended = record {
        added = subst (λ (w : What). HasAdded c d (acts.Blocked w b.word ∷ [])) (sym x.what_is) (added_runs c d (acts.Blocked what b.word ∷ []) x.runs s);
        out_is = s.out;
        whole = s.whole;
        free = s.free ∙ free;
        pending = s.pending;
        prepared = s.prepared;
      };
      what_is = x.what_is;
      another = x.another;
      still = still_runs c d (entry c.number (acts.Blocked what b.word) ∷ []) x.runs sd (λ z. blocked_same z (now z c) c.number what b.word);
    }

---- In a sound configuration

module _ (s : Setting) (m : Configuration) (w : Keeps s m) (c a : ℕ) (p : Place) (there : find (has_address a) (places_of m.state p.layer) ≡ Some p) (behind : is_layer p.layer layers.Lfh ≡ false) (touch : may_touch (caller_view m c) p.layer ≡ true) where
  starts : address p ≡ a
  starts = eqb-true (address p) a (found_passes (has_address a) (places_of m.state p.layer) p there)

  abbrev vs : List Place
  vs = guarded m.state.vs.places (holds m.state.gate c whats.Vs)

  abbrev backs : List Place
  backs = guarded m.state.back.places (holds m.state.gate c whats.Back)

  abbrev larges : List Place
  larges = guarded m.state.large (holds m.state.gate c whats.Large)

  among : (l : Layer) → is_layer l layers.Lfh ≡ false → may_touch (caller_view m c) l ≡ true → IsOneOf p (places_of m.state l) → IsOneOf p (exclusive_places m.state c)
  among layers.Lfh f t i = absurd (true≢false f)
  among layers.Vs f t i = one_in p (hands m.state c ++ vs ++ backs) larges (one_in p (hands m.state c ++ vs) backs (one_behind p (hands m.state c) vs (subst (λ (b : Rattle.std.specs.Prelude.Bool). IsOneOf p (guarded m.state.vs.places b)) (sym t) i)))
  among layers.Back f t i = one_in p (hands m.state c ++ vs ++ backs) larges (one_behind p (hands m.state c ++ vs) backs (subst (λ (b : Rattle.std.specs.Prelude.Bool). IsOneOf p (guarded m.state.back.places b)) (sym t) i))
  among layers.Large f t i = one_behind p (hands m.state c ++ vs ++ backs) larges (subst (λ (b : Rattle.std.specs.Prelude.Bool). IsOneOf p (guarded m.state.large b)) (sym t) i)

  pub exclusive : IsOneOf p (exclusive_places m.state c)
  exclusive = among p.layer behind touch (found_in (has_address a) (places_of m.state p.layer) p there)

  -- no other place has the address
  pub found_first : find (has_address a) (exclusive_places m.state c) ≡ Some p
  found_first =
      let f = find_some (has_address a) (exclusive_places m.state c) p exclusive (eq-eqb (address p) a starts) in
      let other = found_in (has_address a) (exclusive_places m.state c) f.0 f.1 in
      let at : address f.0 ≡ a = eqb-true (address f.0) a (found_passes (has_address a) (exclusive_places m.state c) f.0 f.1) in
      f.1
      ∙ ap Some
      (one_address (all_places m.state) f.0 p (all_disjoint s m w) (all_addresses s m w) (exclusive_in_all m.state c f.0 other) (exclusive_in_all m.state c p exclusive) (at ∙ sym starts))

  pub in_words : (size : ℕ) → p.status ≡ Live size → a / 8 + words_of size ≤ data_count s.limits
  in_words size live = words_in s m w p a size (exclusive_in_all m.state c p exclusive) starts live

---- All is known

module _ (c d : Token) (addr size n : ℕ) (flags : Flags) (p : Place) (out : List ℕ) (v : IsGathering c addr size n flags p out) (r : Runs c d []) (st : Stands d (stance c)) (sc : IsStanding c) (sd : IsStanding d) (valid : AreValid d.opening.limits)
    (slots : have_slots d.opening.limits.slots d.roll ≡ true) (names : is_named (length d.roll) d.seen ≡ true) (legal : IsLegalWith d.opening d.roll d.seen) where
  abbrev home : Setting
  home = setting_of d.opening d.roll

  guarded_now : Always d (λ s. IsGuarded c.number (now s c) (now s d))
  guarded_now s q = let x = r.agrees s q in record { vs = x.vs; spans = x.spans; back = x.back; span_history = x.span_history; large = x.large }

  now_is : (s : Setting) → now s d ≡ configuration_of s d.seen
  now_is s = ap (configuration_after s (configuration_of s d.seen)) st.prepared

  -- in each setting the configuration is that of the callers that are there
  same_now : Always d (λ s. now s d ≡ now home d)
  same_now s q = now_is s ∙ (through_same s home (length d.roll) first_configuration d.seen (λ k lt. record { seed = q.seed; slot = q.slot k lt; stream = q.stream k lt }) names ∙ sym (now_is home))

  sound_home : Keeps home (now home d)
  sound_home = subst (Keeps home) (sym (now_is home)) (keeps_all home d.seen (valid_setting d.opening d.roll valid slots) (legal_parts home d.seen (legal home (some_setting d.opening d.roll))).0)

  sound : Always d (λ s. Keeps home (now s d))
  sound s q = subst (Keeps home) (sym (same_now s q)) sound_home

  stuck : Rattle.stay_calls.specs.Stays.IsStuck d addr size n p
  stuck = stuck_then c d r.does.number (setting_does c d [] r.does) sc sd (λ w h. ap (is_out w) st.out ∙ h) guarded_now addr size n p v.stuck

  added : HasAdded c d []
  added = added_runs c d [] r st

  pub ready : flags.in_place ≡ false → IsReadyToMove c d addr size n flags p out
  ready may =
      let own = v.serving in
      record {
        moving = record {
          serving = record {
            call_is = st.call ∙ own.call_is;
            fresh = st.fresh ∙ own.fresh;
            inside = st.inside ∙ own.inside;
            out_is = st.out ∙ own.out_is;
            whole = st.whole;
            free = st.free ∙ own.free;
            pending = st.pending;
            prepared = st.prepared;
            searched = st.searched ∙ own.searched;
            drawn = st.drawn ∙ own.drawn;
            owes = st.owes ∙ own.owes;
            is_new = new_since c d (calls.Realloc addr n flags) [] added.goes own.prepared st.prepared refl own.is_new;
          };
          may_move = may;
          old = λ s q. record {
            first = found_first home (now s d) (sound s q) d.number addr p (stuck.there s q) stuck.behind (stuck.touch s q);
            there = stuck.there s q;
            live = stuck.live;
            behind = stuck.behind;
            touch = stuck.touch s q;
          };
          leaves = stuck.leaves;
          from = let q = some_setting d.opening d.roll in in_words home (now home d) sound_home d.number addr p (stuck.there home q) stuck.behind (stuck.touch home q) size stuck.live;
          slots = slots;
        };
        added = added;
        still = still_guarded c d [] r.does sc guarded_now;
      }

---- Whichever it was

pub all_taken : {T : Type 0} (tells : T → LayerState) (c d : Token) (what : What) (r : Result T Busy) → owed_with what [] ≡ [] → IfOk r (λ state. HasTaken tells c d what state) → IsStanding c → IsStanding d
    → IfOk r (λ state. (addr size n : ℕ) (flags : Flags) (p : Place) (out : List ℕ) → IsGathering c addr size n flags p out → HasOneMore c d addr size n flags p out what)
all_taken tells c d what (Ok state) nothing x sc sd = λ addr size n flags p out v. taken_too tells c d what state addr size n flags p out nothing x sc sd v
all_taken tells c d what (Err b) nothing x sc sd = tt

pub all_met : {T : Type 0} (c d : Token) (what : What) (r : Result T Busy) → IfErr r (λ b. HasMissed c d what b.what b.word) → IsStanding d → c.free ≡ true → IfErr r (λ b. HasMet c d c.out what b)
all_met c d what (Ok state) x sd free = tt
all_met c d what (Err b) x sd free = met_too c d what b x sd free
