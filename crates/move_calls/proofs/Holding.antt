-- The caller of a move holds its locks still, whatever came of it.
use Rattle.std.proofs.Common.{◌≡◌, ℕ, ◌<◌, true, length, refl, sym, ◌∙◌, subst, arith}
use Rattle.heap_model.specs.declared.Act.TheVariants as acts
use Rattle.heap_model.specs.declared.Busy.{Busy}
use Rattle.heap_model.specs.declared.Flags.{Flags}
use Rattle.heap_model.specs.declared.What.TheVariants as whats
use Rattle.heap_model.specs.CallState.{Configuration}
use Rattle.heap_model.specs.Layers.{StandsForVs, StandsForBack, StandsForLarge}
use Rattle.heap_model.specs.Legal.{leaves_whole}
use Rattle.heap_model.specs.State.{Place}
use Rattle.backend_fit.specs.Kept.{Kept}
use Rattle.backend_fit.specs.Kept as backs
use Rattle.large_blocks.specs.Table.{LargeTable}
use Rattle.large_blocks.specs.Table as larges
use Rattle.vs_layer.specs.Kept.{VsKept}
use Rattle.vs_layer.specs.Standing as vss
use Rattle.heap_gate.specs.Token.{Token}
use Rattle.heap_gate.specs.Calls.{with_prepared}
use Rattle.call_parts.proofs.Tokens.{now_more}
use Rattle.move_parts.specs.Moves.{IsMoving, TellsVs, TellsBack, TellsLarge}
use Rattle.move_calls.specs.declared.held.Held.{Held}
use Rattle.move_calls.specs.declared.held.Held.TheVariants as helds
use Rattle.move_calls.specs.Ends.{IsBehindMiss}
use Rattle.move_calls.specs.Holds.{IsHolding, TellsHeld, slots_of}
use Rattle.move_calls.proofs.Ended.{IsSettled, CanSayNone}

-- a NoFit that is prepared changes nothing
module _ (c : Token) (n : ℕ) where
  abbrev said : Token
  said = with_prepared c (acts.NoFit n)

  pub said_vs : (vs : VsKept) → TellsVs c vs → TellsVs said vs
  said_vs vs t = record {
    tells = λ s q. subst (λ (m : Configuration). StandsForVs c.opening m.state (vss.layer_of vs)) (sym (now_more s c (acts.NoFit n))) (t.tells s q);
    used = λ s q. subst (λ (m : Configuration). leaves_whole m.state whats.Vs ≡ true) (sym (now_more s c (acts.NoFit n))) (t.used s q);
  }

  pub said_back : (back : Kept) → TellsBack c back → TellsBack said back
  said_back back t s q = subst (λ (m : Configuration). StandsForBack c.opening m.state (backs.layer_of back)) (sym (now_more s c (acts.NoFit n))) (t s q)

  pub said_large : (large : LargeTable) → TellsLarge c large → TellsLarge said large
  said_large large t s q = subst (λ (m : Configuration). StandsForLarge c.opening m.state (larges.layer_of large)) (sym (now_more s c (acts.NoFit n))) (t s q)

  said_tells : (held : Held) → TellsHeld c held → TellsHeld said held
  said_tells (helds.Vs vs) t = said_vs vs t
  said_tells (helds.Low vs back) t = (said_vs vs t.0, said_back back t.1)
  said_tells (helds.LowThenLarge vs back large) t = (said_vs vs t.0, said_back back t.1, said_large large t.2)
  said_tells (helds.Large large) t = said_large large t
  said_tells (helds.LargeThenVs large vs) t = (said_vs vs t.0, said_large large t.1)
  said_tells (helds.LargeThenLow large vs back) t = (said_vs vs t.0, said_back back t.1, said_large large t.2)

module _ (k c : Token) (addr size n : ℕ) (flags : Flags) (p : Place) (held : Held) (v : IsMoving k addr size n flags p (slots_of held)) where
  pub holds_settled : IsSettled k c → TellsHeld c held → IsHolding c held
  holds_settled st t = record { resting = record { inside = st.inside ∙ v.serving.inside; whole = st.whole; free = st.free; out_is = st.out ∙ v.serving.out_is; owes = st.owes }; tells = t }

  module _ (x : CanSayNone k c addr size n p) where
    pub said_room : length c.prepared < 16
    said_room = let e = x.few in omega (arith, e)

    pub holds_said : TellsHeld c held → IsHolding (with_prepared c (acts.NoFit n)) held
    holds_said t =
        let st = x.settled in
        record {
          resting = record { inside = st.inside ∙ v.serving.inside; whole = refl; free = st.free; out_is = st.out ∙ v.serving.out_is; owes = st.owes };
          tells = said_tells c n held t;
        }

---- A lock was busy

pub holds_missed : (k c : Token) (addr n : ℕ) (flags : Flags) (held : Held) (b : Busy) → IsBehindMiss k c addr n flags held b → IsHolding c held
holds_missed k c addr n flags held b x =
    let e = x.ended in
    record {
      resting = record { inside = e.added.steady.inside ∙ x.serving.inside; whole = e.whole; free = e.free; out_is = e.out_is; owes = e.added.steady.owes ∙ x.serving.owes };
      tells = x.tells;
    }
