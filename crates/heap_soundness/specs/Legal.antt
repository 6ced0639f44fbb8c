-- The laws of all legal histories.
use Rattle.std.specs.Prelude.{◌≡◌, ℕ, ◌≤◌, true, List, [], length, Some}
use Rattle.heap_model.specs.declared.Entry.{Entry}
use Rattle.heap_model.specs.declared.Kind.TheVariants as kinds
use Rattle.heap_model.specs.State.{State, Setting, IsValidSetting, Span, Place, address, all_places, place_at, hand_at, is_entered}
use Rattle.heap_model.specs.CallState.{Configuration}
use Rattle.heap_model.specs.Legal.{may_follow, after}
use Rattle.heap_model.specs.History.{may_all_follow, first_configuration, configuration_of, configuration_after, own}
use Rattle.heap_model.specs.Agreement.{GateIsSound, AgreesFor, UndisturbedIsAlone}
use Rattle.heap_soundness.specs.Sound.{IsOneOf, IsSound, HasShortSpans, IsGateCounted, MakersHoldBack, HintsNameSpans, IsStableStep, HasSoundBlocks}

-- What holds behind each entry: the state is sound, and so is the gate. Where the heap lock has an owner no other caller is entered, who holds
-- a layer lock is entered or owns the heap lock, each caller at the gate is counted once, and one that is not disturbed is alone inside. What is
-- remembered of LFH spans names spans that are there, and makers that still hold Back. Each entry that may come next leaves what the other
-- callers rely on.
pub record IsSoundNow (s : Setting) (m : Configuration) : Type 0 where
  pub state : IsSound s m.state
  pub short : HasShortSpans m
  pub gate : GateIsSound m.state.gate
  pub counted : IsGateCounted s m.state.gate
  pub few : length m.state.gate.counted ≤ s.limits.callers
  pub alone : UndisturbedIsAlone m
  pub makers : MakersHoldBack m.state.gate m.now.span_history
  pub hints : HintsNameSpans m.state.back.area m.now.span_history
  pub next : (e : Entry) → may_follow s m e ≡ true → IsStableStep e.caller m (after s m e)

-- Whatever callers made it, a legal history keeps the heap sound.
abbrev pub StaysSound : Type 0
StaysSound = (s : Setting) (es : List Entry) → IsValidSetting s → may_all_follow s first_configuration es ≡ true → IsSoundNow s (configuration_of s es)

-- Each place is the place of its address, whoever looks.
pub record HaveOneAddress (st : State) : Type 0 where
  pub place : (p : Place) → IsOneOf p (all_places st) → (c : ℕ) → place_at st c (address p) ≡ Some p
  pub hand : (c a : ℕ) (p : Place) → hand_at st c a ≡ Some p → place_at st c a ≡ Some p
  pub same : (c d a : ℕ) → place_at st c a ≡ place_at st d a

-- No two places have one address.
abbrev pub AddressesAreSound : Type 0
AddressesAreSound = (s : Setting) (es : List Entry) → IsValidSetting s → may_all_follow s first_configuration es ≡ true → HaveOneAddress (configuration_of s es).state

-- Live blocks are in order, disjoint and aligned, and have the room that was asked.
abbrev pub BlocksAreSound : Type 0
BlocksAreSound = (s : Setting) (es : List Entry) → IsValidSetting s → may_all_follow s first_configuration es ≡ true → HasSoundBlocks (configuration_of s es).state

-- However many entries others add, what c alone decides stays, and while c is entered so does each LFH span.
abbrev pub OthersLeave : Type 0
OthersLeave = (s : Setting) (es fs : List Entry) (c : ℕ) → IsValidSetting s → may_all_follow s first_configuration es ≡ true → may_all_follow s (configuration_of s es) fs ≡ true → own c fs ≡ [] →
    let m = configuration_of s es in
    let n = configuration_after s m fs in
    AgreesFor c n m × (is_entered m.state.gate c ≡ true → (x : Span) → x.kind ≡ kinds.Lfh → IsOneOf x m.state.back.area.spans → IsOneOf x n.state.back.area.spans)
