-- The whole reallocation inside, from its two halves.
use Rattle.std.proofs.Common.{◌≡◌, ◌⊎◌, ℕ, false, List, [], ◌∷◌, refl, inl, inr}
use Rattle.std.specs.Prelude.{Result, Ok, Err}
use Rattle.heap_model.specs.declared.Act.TheVariants as acts
use Rattle.heap_model.specs.declared.Call.{Call}
use Rattle.heap_model.specs.declared.Call.TheVariants as calls
use Rattle.heap_model.specs.declared.Flags.{Flags}
use Rattle.heap_model.specs.declared.ReNo.{ReNo}
use Rattle.heap_model.specs.declared.ReNo.TheVariants as re_nos
use Rattle.heap_model.specs.Moments.{Moment}
use Rattle.heap_model.specs.Shape.{IsMoved, IsResized, IsGivenAgain, Reallocates}
use Rattle.heap_model.specs.State.{Setting}
use Rattle.heap_gate.specs.Token.{Token}
use Rattle.call_parts.specs.Calls.{IsServing}
use Rattle.stay_calls.specs.Moments.{MakesSo}
use Rattle.address_calls.specs.declared.look.Found.TheVariants as founds
use Rattle.stay_calls.specs.declared.tried.Tried.{Tried}
use Rattle.stay_calls.specs.declared.tried.Tried.TheVariants as trieds
use Rattle.stay_calls.specs.Stays.{StaysAt, IsTried}
use Rattle.move_calls.specs.Moves.{Moves, IsReallocated}

told_so : (a d : Token) (call : Call) (T U : Setting → ℕ → List Moment → Type 0) → ((s : Setting) (c : ℕ) (xs : List Moment) → T s c xs → U s c xs) → MakesSo a d call T → MakesSo a d call U
told_so a d call T U f x = record { shape = x.shape; makes = x.makes; told = λ s q. f s a.number _ (x.told s q) }

pub stayed : (a d : Token) (addr n : ℕ) (flags : Flags) → StaysAt a d addr n flags → IsReallocated a d addr n flags (Ok addr)
stayed a d addr n flags x =
    told_so a d (calls.Realloc addr n flags) (λ s c xs. IsResized s c addr n flags.zero xs ⊎ IsGivenAgain s c addr n flags.zero xs) (λ s c xs. Reallocates s c addr n flags addr xs) (λ s c xs h. inl (refl, h)) x

pub moved : (a d : Token) (addr n : ℕ) (flags : Flags) → flags.in_place ≡ false → (r : Result ℕ ReNo) → Moves a d addr n flags r → IsReallocated a d addr n flags r
moved a d addr n flags may (Ok b) x =
    told_so a d (calls.Realloc addr n flags) (λ s c xs. IsMoved s c addr n flags.zero b xs) (λ s c xs. Reallocates s c addr n flags b xs) (λ s c xs h. inr (may, h)) x
moved a d addr n flags may (Err re_nos.NoFit) x = (may, x)
moved a d addr n flags may (Err (re_nos.Busy w)) x = x
moved a d addr n flags may (Err re_nos.NotLive) x = absurd x
moved a d addr n flags may (Err re_nos.NoRoomInPlace) x = absurd x

pub refused : (a d : Token) (addr n : ℕ) (flags : Flags) (no : ReNo) → IsServing a (calls.Realloc addr n flags) [] → IsTried a d addr n flags (Err no) → IsReallocated a d addr n flags (Err no)
refused a d addr n flags re_nos.NotLive v x = x
refused a d addr n flags re_nos.NoRoomInPlace v x = x
refused a d addr n flags (re_nos.Busy w) v x =
    let m = x.met (calls.Realloc addr n flags) v.call_is in
    record { shape = acts.Blocked w.what w.word ∷ []; made = m.made; hindered = inl refl; another = m.another; may = inl x.guards }
refused a d addr n flags re_nos.NoFit v x = absurd x

-- behind the first half the caller is one of the same heap
pub heap_tried : (a d : Token) (addr n : ℕ) (flags : Flags) (tried : Tried) → IsTried a d addr n flags (Ok tried) → (d.table ≡ a.table) × (d.opening ≡ a.opening)
heap_tried a d addr n flags trieds.Stays x = (x.makes.goes.table, x.makes.goes.opening)
heap_tried a d addr n flags (trieds.Moves (founds.Front tag) size) x = (x.1.added.goes.table, x.1.added.goes.opening)
heap_tried a d addr n flags (trieds.Moves (founds.Vs vs) size) x = (x.1.0.added.goes.table, x.1.0.added.goes.opening)
heap_tried a d addr n flags (trieds.Moves (founds.Back vs back) size) x = (x.1.0.added.goes.table, x.1.0.added.goes.opening)
heap_tried a d addr n flags (trieds.Moves (founds.Large large) size) x = (x.1.0.added.goes.table, x.1.0.added.goes.opening)
heap_tried a d addr n flags (trieds.Moves founds.Nowhere size) x = absurd x.1
