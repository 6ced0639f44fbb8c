-- A call that has searched, behind the acts that end it.
use Rattle.std.proofs.Common.{◌≡◌, ℕ, Bool, true, false, List, [], Option, Some, refl, sym, ◌∙◌}
use Rattle.heap_model.specs.declared.Act.{Act}
use Rattle.heap_model.specs.declared.Call.{Call}
use Rattle.heap_model.specs.declared.What.TheVariants as whats
use Rattle.heap_model.specs.Shape.{shape_of}
use Rattle.heap_gate.specs.Token.{Token}
use Rattle.call_parts.specs.Entries.{HasEnded}
use Rattle.call_parts.proofs.Serving.{none_begins}
use Rattle.small_calls.specs.Fronts.{IsResting}
use Rattle.small_calls.specs.GoingOn.{HasSearched}
use Rattle.vs_calls.specs.Tries.{tries_none}
use Rattle.fall_calls.specs.Both.{gives}

pub rests_then : (c f : Token) (call : Call) (out : List ℕ) (rest : List Act) → HasSearched c call out → HasEnded c f rest [] → IsResting f call []
rests_then c f call out rest x z =
    let y = z.added.steady in
    record {
      call_is = y.call ∙ x.call_is;
      fresh = y.fresh ∙ x.fresh;
      inside = y.inside ∙ x.inside;
      out_is = z.out_is;
      whole = z.whole;
      free = z.free;
      pending = z.pending;
      prepared = z.prepared;
      drawn = (y.searched ∙ x.searched) ∙ sym (y.drawn ∙ x.drawn);
      owes = y.owes ∙ x.owes;
    }

-- giving locks back tries none, and shows nothing
pub gives_no_try : (vs_last : Bool) → tries_none whats.Back (gives vs_last) ≡ true
gives_no_try true = refl
gives_no_try false = refl

pub gives_quiet : (vs_last : Bool) → (shape_of (gives vs_last) ≡ []) × (none_begins (gives vs_last) ≡ true)
gives_quiet true = (refl, refl)
gives_quiet false = (refl, refl)

pub same_call : (o : Option Call) (own_call call : Call) → o ≡ Some own_call → o ≡ Some call → own_call ≡ call
same_call o own_call call e h = let both : Some own_call ≡ Some call = sym e ∙ h in (cc)
