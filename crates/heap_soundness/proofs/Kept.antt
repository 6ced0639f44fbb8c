-- The joint invariant after each entry of a legal history.
use Rattle.std.proofs.Common.{◌≡◌, true, ◌||◌, List, [], ◌∷◌, arith, ℕ, ◌<◌, Some}
use Rattle.std.specs.Prelude.{is_some}
use Rattle.std.proofs.lemmas.Bool.{and_parts, false≢true}
use Rattle.heap_model.specs.declared.Entry.{Entry}
use Rattle.heap_model.specs.declared.What.{What}
use Rattle.heap_model.specs.declared.What.TheVariants as whats
use Rattle.heap_model.specs.State.{Setting, IsValidSetting, holder_of, open_locks}
use Rattle.heap_model.specs.CallState.{Configuration}
use Rattle.heap_model.specs.Legal.{may, may_follow, after, meets_demand, is_begin}
use Rattle.heap_model.specs.History.{configuration_after, may_all_follow, first_configuration, configuration_of}
use Rattle.heap_model.proofs.GateSound.{row_of, gate_sound_act, gate_sound_first}
use Rattle.heap_model.proofs.Undisturbed.{alone_act, alone_first}
use Rattle.heap_model.proofs.Homes.{homes_act}
use Rattle.heap_soundness.specs.Invariant.{Keeps}
use Rattle.heap_soundness.proofs.Reserved.{act_below}
use Rattle.heap_soundness.proofs.SizeLemmas.{sizes_act}
use Rattle.heap_soundness.proofs.MadeSpans.{caller_below, begun_after, kinds_act}
use Rattle.heap_soundness.proofs.GateCounts.{counts_act, none_counted}
use Rattle.heap_soundness.proofs.Makers.{makers_act}
use Rattle.heap_soundness.proofs.HintSpans.{hints_act}
use Rattle.heap_soundness.proofs.Picks.{picks_after}
use Rattle.heap_soundness.proofs.Steps.{heap_act, due_act, short_act}

-- an entry that may follow is the one that is demanded
pub demand_met : (s : Setting) (m : Configuration) (e : Entry) → may_follow s m e ≡ true → meets_demand m.state.back.area e m.now.demand ≡ true
demand_met s m e h = (and_parts (meets_demand m.state.back.area e m.now.demand) (is_begin e.act || is_some (m.now.calls e.caller).call) (and_parts _ (may s m e.caller e.act) h).0).0

pub keeps_after : (s : Setting) (m : Configuration) (e : Entry) → IsValidSetting s → may_follow s m e ≡ true → Keeps s m → Keeps s (after s m e)
keeps_after s m e g h w =
    let r = row_of s m e h in
    record {
      reserved = act_below s m e.caller e.act r w.reserved;
      heap = heap_act s m e.caller w e.act r (demand_met s m e h);
      of_kinds = kinds_act s m e.caller e.act g (caller_below s m e h w.begun) r w.of_kinds;
      homes = homes_act m.state (m.now.calls e.caller) e.caller e.act w.homes;
      sizes = sizes_act s m e.caller e.act r w.homes w.sizes;
      gate = gate_sound_act s m e.caller e.act r w.gate;
      counted = counts_act s m e.caller e.act (caller_below s m e h w.begun) r w.counted;
      alone = alone_act s m e.caller e.act r w.alone;
      makers = makers_act s m e.caller e.act r w.makers;
      hints = hints_act s m e.caller e.act w.hints;
      short = short_act s m e.caller w e.act r (demand_met s m e h);
      due = due_act s m e.caller w e.act r;
      picks = picks_after s m.now.calls e.caller e.act w.picks;
      begun = begun_after s m e h w.begun;
    }

pub keeps_first : (s : Setting) → Keeps s first_configuration
keeps_first s = record {
  reserved = omega arith;
  heap = record {
    usable = λ u e. absurd (false≢true e);
    spans = record { in_order = tt; committed = tt };
    vs = record { places = tt; disjoint = tt; clear = λ x i k. absurd i };
    lfh = record { places = tt; disjoint = tt };
    back = record { places = tt; disjoint = tt };
    large = record { places = tt; disjoint = tt };
  };
  of_kinds = tt;
  homes = record { lfh = tt; vs = tt; back = tt; large = tt };
  sizes = record { lfh = tt; vs = tt; back = tt; large = tt };
  gate = gate_sound_first;
  counted = record { distinct = none_counted; turning = λ c e. absurd (false≢true e); callers = tt; owner = λ c e. absurd (let z : ⊥ = cc in z); holders = none };
  alone = alone_first;
  makers = λ page c e. absurd (let z : ⊥ = cc in z);
  hints = λ b t head e. absurd (let z : ⊥ = cc in z);
  short = λ x i k. absurd i;
  due = tt;
  picks = λ c i e. absurd (let z : ⊥ = cc in z);
  begun = λ c e. absurd (false≢true e);
}
  where
    none : (w : What) (c : ℕ) → holder_of open_locks w ≡ Some c → c < s.limits.callers
    none whats.Gate c e = absurd (let z : ⊥ = cc in z)
    none whats.Lfh c e = absurd (let z : ⊥ = cc in z)
    none whats.Vs c e = absurd (let z : ⊥ = cc in z)
    none whats.Back c e = absurd (let z : ⊥ = cc in z)
    none whats.Large c e = absurd (let z : ⊥ = cc in z)

pub keeps_through : (s : Setting) (m : Configuration) (es : List Entry) → IsValidSetting s → may_all_follow s m es ≡ true → Keeps s m → Keeps s (configuration_after s m es)
keeps_through s m [] g h w = w
keeps_through s m (e ∷ es) g h w =
    let p = and_parts (may_follow s m e) (may_all_follow s (after s m e) es) h in
    keeps_through s (after s m e) es g p.1 (keeps_after s m e g p.0 w)

-- whatever callers made it, a legal history keeps the invariant
pub keeps_all : (s : Setting) (es : List Entry) → IsValidSetting s → may_all_follow s first_configuration es ≡ true → Keeps s (configuration_of s es)
keeps_all s es g h = keeps_through s first_configuration es g h (keeps_first s)
