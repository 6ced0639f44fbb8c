-- What a call of size finds, and what it leaves as it was.
use Rattle.std.specs.Prelude.{◌≡◌, ℕ, true, ◌&&◌, ◌||◌, not, List, [], ◌∷◌, Some}
use Rattle.std.specs.List.{list_all, list_any}
use Rattle.heap_model.specs.declared.Call.TheVariants as calls
use Rattle.heap_model.specs.declared.Act.{Act}
use Rattle.heap_model.specs.declared.Act.TheVariants as acts
use Rattle.heap_model.specs.declared.Kind.TheVariants as kinds
use Rattle.heap_model.specs.State.{Setting, State, has_address, all_places, is_live_of, is_kind}
use Rattle.heap_model.specs.CallState.{Configuration, Nothing}
use Rattle.heap_model.specs.Legal.{has_place, places_in, is_begin}
use Rattle.heap_model.specs.Alone.{configuration_by, may_all_come}
use Rattle.heap_model.specs.Shape.{shape_of}

-- each span of VS or of the back end has a place
abbrev pub AreUsed : State → Type 0
AreUsed st = list_all (λ x. is_kind x.kind kinds.Lfh || has_place 4096 (places_in st x.kind) x) st.back.area.spans ≡ true

-- What a call of size with this shape leaves as it was, and what it found.
pub record FoundSize (old new : State) (a n : ℕ) : Type 0 where
  pub size : list_any (λ p. has_address a p && is_live_of n p.status) (all_places old) ≡ true
  pub back : new.back ≡ old.back
  pub vs : new.vs ≡ old.vs
  pub lfh : new.lfh ≡ old.lfh
  pub large : new.large ≡ old.large
  pub words : new.words ≡ old.words

abbrev pub SizeIsOne : Type 0
SizeIsOne = (s : Setting) (m : Configuration) (a n : ℕ) (rest : List Act) → (m.now.calls 0).call ≡ Some (calls.Size a) → m.now.demand ≡ Nothing → AreUsed m.state →
    list_all (λ act. not (is_begin act)) rest ≡ true → may_all_come s m rest ≡ true → (configuration_by s m rest).now.demand ≡ Nothing →
    shape_of rest ≡ acts.Sized a n ∷ [] → FoundSize m.state (configuration_by s m rest).state a n
