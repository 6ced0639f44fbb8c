-- Between the locks that are taken: the caller goes on under them.
use Rattle.std.proofs.Common.{◌≡◌, ℕ, List, [], ◌∷◌, refl, sym, ◌∙◌, subst}
use Rattle.atomic_table.specs.Seated.{TableId}
use Rattle.heap_model.specs.declared.Act.{Act}
use Rattle.heap_model.specs.declared.Act.TheVariants as acts
use Rattle.heap_model.specs.declared.Busy.{Busy}
use Rattle.heap_model.specs.declared.Flags.{Flags}
use Rattle.heap_model.specs.declared.Opening.{Opening}
use Rattle.heap_model.specs.declared.What.{What}
use Rattle.heap_model.specs.State.{Place}
use Rattle.heap_gate.specs.Token.{Token}
use Rattle.call_parts.specs.Entries.{HasAdded}
use Rattle.address_calls.specs.Finds.{Looks}
use Rattle.move_calls.specs.declared.held.Held.{Held}
use Rattle.move_calls.specs.Ends.{IsBehindMiss}
use Rattle.move_calls.specs.Holds.{IsGathering, HasMet, TellsHeld, slots_of}
use Rattle.move_calls.specs.Moves.{MayTry}

-- what was added shows nothing
pub looks_taken : (c d : Token) (what : What) → HasAdded c d (acts.TakeLock what ∷ []) → Looks c d
looks_taken c d what x = record { rest = acts.TakeLock what ∷ []; added = x; no_begin = refl; no_move = refl; shape_is = refl }

pub looks_nothing : (c d : Token) → HasAdded c d [] → Looks c d
looks_nothing c d x = record { rest = []; added = x; no_begin = refl; no_move = refl; shape_is = refl }

pub same_heap : (c d : Token) (xs : List Act) (t : TableId) (o : Opening) → HasAdded c d xs → (c.table ≡ t) × (c.opening ≡ o) → (d.table ≡ t) × (d.opening ≡ o)
same_heap c d xs t o x e = (x.goes.table ∙ e.0, x.goes.opening ∙ e.1)

-- a lock that is busy
pub missed : (c d : Token) (addr size n : ℕ) (flags : Flags) (p : Place) (held : Held) (what : What) (b : Busy) → IsGathering c addr size n flags p (slots_of held) → HasMet c d c.out what b → MayTry c.opening.limits addr n what → TellsHeld d held → IsBehindMiss c d addr n flags held b
missed c d addr size n flags p held what b v m may t = record {
  serving = v.serving;
  ended = subst (λ (l : List ℕ). Rattle.call_parts.specs.Entries.HasEnded c d (acts.Blocked b.what b.word ∷ []) l) v.serving.out_is m.ended;
  another = m.another;
  may = subst (λ (w : What). MayTry c.opening.limits addr n w) (sym m.what_is) may;
  tells = t;
}
