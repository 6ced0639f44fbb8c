-- The words and the slots of a table whose heap lock has an owner that holds no lock of a layer.
use Rattle.std.proofs.Common.{◌≡◌, ℕ, true, false, List, Option, Some, None, refl, subst}
use mathlib.Core.Option as core
use lib.ListN.{get_elem?}
use Rattle.heap_model.specs.declared.Opening.{Opening}
use Rattle.heap_model.specs.declared.What.{What}
use Rattle.heap_model.specs.declared.What.TheVariants as whats
use Rattle.heap_model.specs.State.{Setting, State as HeapState, is_caller, holds, holder_of}
use Rattle.heap_model.specs.CallState.{Configuration}
use Rattle.heap_model.specs.Layers.{StandsForVs, StandsForBack, StandsForLarge}
use Rattle.heap_soundness.specs.Invariant.{Keeps}
use Rattle.heap_soundness.proofs.Kept.{keeps_all}
use Rattle.claim_rule.specs.declared.views.Owed.{Owed}
use Rattle.claim_rule.specs.Entries.{setting_of}
use Rattle.claim_rule.specs.Places.{vs_slot, back_slot, large_slot}
use Rattle.claim_rule.specs.Home.{IsFull}
use Rattle.claim_rule.specs.Rule.{IsRuled, IsShownIn}
use Rattle.claim_rule.specs.Shown.{AreAllShown}
use Rattle.claim_rule.proofs.Advance.{some_setting}
use Rattle.claim_rule.proofs.Lists.{legal_parts}
use Rattle.step_parts.proofs.FrontEnd.{valid_setting}
use Rattle.backend_fit.specs.Kept.{Kept}
use Rattle.backend_fit.specs.Kept as backs
use Rattle.large_blocks.specs.Table.{LargeTable}
use Rattle.large_blocks.specs.Table as larges
use Rattle.vs_layer.specs.Kept.{VsKept}
use Rattle.vs_layer.specs.Standing as vss
use Rattle.call_parts.specs.declared.state.State.{State}
use Rattle.call_parts.specs.declared.state.State.TheVariants as states
use Rattle.call_parts.specs.States.{layer_of}
use Rattle.walk_calls.specs.Words.{IsKnownFor, HasWords}
use Rattle.walk_calls.specs.Laws.{Table, ShowsHeap, behind}
use Rattle.walk_calls.proofs.Showing.{none_holds, seen, seen_shows, seen_lives}

---- A state in its slot

module _ (homes : List (core.Option (Option State))) (o : Opening) (st : HeapState) where
  vs_in : IsFull layer_of o st homes whats.Vs → (vs : VsKept) × (get_elem? homes vs_slot ≡ core.some (core.some (Some (states.Vs vs)))) × StandsForVs o st (vss.layer_of vs)
  vs_in (states.Vs vs, at, is) = (vs, at, is)
  vs_in (states.Back b, at, is) = absurd (let z = is.lock in let no : ⊥ = cc (z) in no)
  vs_in (states.Large l, at, is) = absurd (let z = is.lock in let no : ⊥ = cc (z) in no)

  back_in : IsFull layer_of o st homes whats.Back → (back : Kept) × (get_elem? homes back_slot ≡ core.some (core.some (Some (states.Back back)))) × StandsForBack o st (backs.layer_of back)
  back_in (states.Back back, at, is) = (back, at, is)
  back_in (states.Vs v, at, is) = absurd (let z = is.lock in let no : ⊥ = cc (z) in no)
  back_in (states.Large l, at, is) = absurd (let z = is.lock in let no : ⊥ = cc (z) in no)

  large_in : IsFull layer_of o st homes whats.Large → (large : LargeTable) × (get_elem? homes large_slot ≡ core.some (core.some (Some (states.Large large)))) × StandsForLarge o st (larges.layer_of large)
  large_in (states.Large large, at, is) = (large, at, is)
  large_in (states.Vs v, at, is) = absurd (let z = is.lock in let no : ⊥ = cc (z) in no)
  large_in (states.Back b, at, is) = absurd (let z = is.lock in let no : ⊥ = cc (z) in no)

---- The table

module _ (o : Opening) (t : Table) (r : IsRuled layer_of o t) (n : ℕ) (owner : is_caller n (behind r).state.gate.owner ≡ true) (free : (what : What) → holds (behind r).state.gate n what ≡ false) where
  abbrev s : Setting
  s = setting_of o r.lead.roll

  abbrev m : Configuration
  m = behind r

  is_shown : IsShownIn layer_of o t r.log r.lead.counted r.owes s
  is_shown = r.shown s (some_setting o r.lead.roll)

  keeps : Keeps s m
  keeps = keeps_all s r.log (valid_setting o r.lead.roll r.numbers.limits r.numbers.slots) (legal_parts s r.log is_shown.legal).0

  abbrev known : IsKnownFor o m
  known = record { setting = s; limits = refl; seed = refl; valid = valid_setting o r.lead.roll r.numbers.limits r.numbers.slots; keeps = keeps }

  no_holder : (what : What) → holder_of m.state.gate.locks what ≡ None
  no_holder what = none_holds m.state.gate n what keeps.gate owner (free what)

  abbrev words : HasWords o.limits m
  words = record {
    words = t.words;
    made = r.lead.counted;
    shown = subst (λ (owes : List Owed). AreAllShown o.limits r.lead.counted m owes t.words) (is_shown.words.lfh.paid (no_holder whats.Back)) is_shown.words;
    few = r.numbers.counted;
  }

  pub owned_shows : ShowsHeap o t r
  owned_shows =
      let v = vs_in t.homes o m.state (is_shown.home.full whats.Vs tt (no_holder whats.Vs)) in
      let b = back_in t.homes o m.state (is_shown.home.full whats.Back tt (no_holder whats.Back)) in
      let l = large_in t.homes o m.state (is_shown.home.full whats.Large tt (no_holder whats.Large)) in
      record {
        vs = v.0;
        back = b.0;
        large = l.0;
        slots = record { vs_is = v.1; back_is = b.1; large_is = l.1 };
        shown = λ wh. (
          seen o m known words v.0 b.0 l.0 wh v.2 b.2 l.2,
          record { limits = refl; key = refl; region = refl; descs = refl; heads = refl; large_is = refl; words_are = refl },
          seen_shows o m known words v.0 b.0 l.0 wh v.2 b.2 l.2,
          seen_lives o m known words v.0 b.0 l.0 wh v.2 b.2 l.2,
        );
      }
