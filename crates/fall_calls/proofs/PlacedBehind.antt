-- A block of VS that was given under both locks answers the call.
use Rattle.std.proofs.Common.{ℕ, ◌*◌, Bool, List, [], ◌∷◌, ◌++◌, Option, Some, None, sym, ap, subst}
use Rattle.std.specs.Prelude.{IfSome}
use Rattle.heap_model.specs.declared.Act.{Act}
use Rattle.heap_model.specs.declared.Act.TheVariants as acts
use Rattle.heap_model.specs.declared.Call.{Call}
use Rattle.heap_model.specs.declared.Call.TheVariants as calls
use Rattle.heap_model.specs.declared.Layer.TheVariants as layers
use Rattle.heap_model.specs.declared.Reply.TheVariants as replies
use Rattle.heap_model.specs.Shape.{Replied, HasActs, zeroing}
use Rattle.backend_fit.specs.Kept.{Kept}
use Rattle.vs_layer.specs.Kept.{VsKept}
use Rattle.heap_gate.specs.Token.{Token}
use Rattle.call_parts.specs.Calls.{Brings}
use Rattle.vs_calls.specs.Parts.{HasPlaced, Places}
use Rattle.small_calls.proofs.Shown.{IsShown, made}
use Rattle.fall_calls.specs.Both.{both_slots}
use Rattle.fall_calls.specs.Falls.{FallsToVs}
use Rattle.fall_calls.proofs.Resting.{rests_then, same_call}

pub placed_behind : (c f : Token) (vs : VsKept) (back : Kept) (n addr : ℕ) (zero_it vs_last : Bool) → FallsToVs c vs back n zero_it vs_last → HasPlaced c f n addr zero_it → Places c f addr
placed_behind c f vs back n addr zero_it vs_last x p call e =
    let own_call : Call = calls.Alloc n x.flags in
    let shape : List Act = acts.Place (16 * p.first) p.granules layers.Vs ∷ (zeroing zero_it addr n ++ acts.Give addr n ∷ []) in
    let shown : IsShown c f shape = record { added = p.rest; goes = p.ended.added.goes; no_begin = p.no_begin; shape_is = p.shape_is } in
    let told : HasActs own_call (Replied (replies.Address addr)) shape = (sym p.at, ap (λ (z : Bool). zeroing z addr n ++ acts.Give addr n ∷ []) (sym x.zero_is)) in
    subst (λ (k : Call). Brings c f k (Replied (replies.Address addr))) (same_call c.call own_call call x.stands.call_is e)
    (shape, made c f own_call shape shown (rests_then c f own_call (both_slots vs_last) p.rest x.stands p.ended), told)

pub any_placed : (c f : Token) (vs : VsKept) (back : Kept) (n : ℕ) (zero_it vs_last : Bool) (o : Option ℕ) → FallsToVs c vs back n zero_it vs_last → IfSome o (λ addr. HasPlaced c f n addr zero_it) → IfSome o (λ addr. Places c f addr)
any_placed c f vs back n zero_it vs_last None x p = tt
any_placed c f vs back n zero_it vs_last (Some addr) x p = placed_behind c f vs back n addr zero_it vs_last x p
