-- How a call is answered, by the entries of its caller and by what the caller finds.
use Rattle.std.specs.Prelude.{◌≡◌, ℕ, Bool, true, false, not, List, ◌∷◌, ◌++◌, Some, []}
use Rattle.std.specs.List.{list_all, list_any}
use Rattle.heap_model.specs.declared.Act.{Act}
use Rattle.heap_model.specs.declared.Act.TheVariants as acts
use Rattle.heap_model.specs.declared.Call.{Call}
use Rattle.heap_model.specs.declared.Entry.{Entry}
use Rattle.heap_model.specs.declared.Layer.TheVariants as layers
use Rattle.heap_model.specs.State.{Setting, Place, InHand, is_layer, address}
use Rattle.heap_model.specs.CallState.{Configuration}
use Rattle.heap_model.specs.Legal.{is_begin}
use Rattle.heap_model.specs.History.{configuration_after, own}
use Rattle.heap_model.specs.Agreement.{AgreesFor}
use Rattle.heap_model.specs.Moments.{moments, acts_of, state_before, state_before_last}
use Rattle.heap_model.specs.Shape.{Answer, shape_of, shown, HasActs, Finds}
use Rattle.heap_model.specs.Served.{IsOneCall, IsAnswered}
use Rattle.call_laws.specs.Within.{by_caller, by_all, IsReached}
use Rattle.call_laws.specs.Blocks.{IsOpenTo}

-- Where acts alone tell the shape, the caller's own entries tell the answer.
abbrev pub OwnActsAnswer : Type 0
OwnActsAnswer = (s : Setting) (c : ℕ) (m : Configuration) (es : List Entry) (call : Call) (answer : Answer) (rest : List Act) →
    own c es ≡ by_all c (acts.Begin call ∷ rest) → list_all (λ act. not (is_begin act)) rest ≡ true → HasActs call answer (shape_of rest) →
    IsAnswered s c call answer (moments s c m es)

-- .. and else the shape that they show is said of.
abbrev pub OwnActsAreShown : Type 0
OwnActsAreShown = (s : Setting) (c : ℕ) (m : Configuration) (es : List Entry) (call : Call) (rest : List Act) →
    own c es ≡ by_all c (acts.Begin call ∷ rest) → list_all (λ act. not (is_begin act)) rest ≡ true →
    IsOneCall call (acts_of (moments s c m es)) × (shown (moments s c m es) ≡ shape_of rest)

-- The state before the first own act that passes is the one in which that entry comes.
abbrev pub FirstIsBefore : Type 0
FirstIsBefore = (s : Setting) (c : ℕ) (m : Configuration) (first later : List Entry) (act : Act) (test : Act → Bool) →
    test act ≡ true → list_any test (acts_of (moments s c m first)) ≡ false →
    state_before test (moments s c m (first ++ by_caller c act ∷ later)) ≡ Some (configuration_after s m first).state

-- .. and the one before its last, where no own entry comes behind it.
abbrev pub LastIsBefore : Type 0
LastIsBefore = (s : Setting) (c : ℕ) (m : Configuration) (first later : List Entry) (act : Act) → own c later ≡ [] →
    state_before_last (moments s c m (first ++ by_caller c act ∷ later)) ≡ Some (configuration_after s m first).state

-- What c finds at the address of a place in its hand, or of a layer whose lock it holds, it finds as long as what it alone decides stays.
abbrev pub FindingStays : Type 0
FindingStays = (s : Setting) (m k : Configuration) (c n : ℕ) (p : Place) (stays : Bool) → IsReached s m → IsReached s k → AgreesFor c k m → IsOpenTo m c p →
    (is_layer p.layer layers.Lfh ≡ true → p.status ≡ InHand c) → Finds s c (address p) n p stays m.state → Finds s c (address p) n p stays k.state
