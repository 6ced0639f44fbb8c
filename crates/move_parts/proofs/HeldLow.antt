-- A new block of the back end in hand is one under the locks of VS and of the back end.
use Rattle.std.proofs.Common.{◌≡◌, ℕ, Bool, true, List, Option, Some, None, refl}
use Rattle.std.specs.Prelude.{IfSome, IfNone}
use Rattle.heap_model.specs.declared.Flags.{Flags}
use Rattle.heap_model.specs.declared.What.TheVariants as whats
use Rattle.heap_model.specs.State.{Place}
use Rattle.backend_fit.specs.Kept.{Kept}
use Rattle.vs_layer.specs.Kept.{VsKept}
use Rattle.heap_gate.specs.Token.{Token, is_out}
use Rattle.move_parts.specs.Moves.{IsMovingAny, TellsVs, TellsBack}
use Rattle.move_parts.specs.Places.{HasHeldBack, HasHeldAnew, IsWithout}

pub any_low : (c d : Token) (n : ℕ) (vs : VsKept) (back more : Kept) (o : Option ℕ)
    → IfSome o (λ b. (taken : Bool) (addr size : ℕ) (flags : Flags) (p : Place) (out : List ℕ) → IsMovingAny taken c addr size n flags p out → is_out whats.Back out ≡ true → TellsBack c back → HasHeldBack taken c d addr size n flags p out b more)
    → IfSome o (λ b. (taken : Bool) (addr size : ℕ) (flags : Flags) (p : Place) (out : List ℕ) → IsMovingAny taken c addr size n flags p out → is_out whats.Vs out ≡ true → TellsVs c vs → is_out whats.Back out ≡ true → TellsBack c back → HasHeldAnew taken c d addr size n flags p out b vs more)
any_low c d n vs back more None x = tt
any_low c d n vs back more (Some b) x = λ taken addr size flags p out v held w back_out wb.
    let y = x taken addr size flags p out v back_out wb in
    record { place = y.place; held = y.held; vs = y.vs vs w; back = y.back; large = y.large }

pub none_low : (c d : Token) (n : ℕ) (vs : VsKept) (back more : Kept) (o : Option ℕ) → IfNone o (IsWithout c d n × (more ≡ back)) → IfNone o (IsWithout c d n × (vs ≡ vs) × (more ≡ back))
none_low c d n vs back more None x = (x.0, refl, x.1)
none_low c d n vs back more (Some b) x = tt
