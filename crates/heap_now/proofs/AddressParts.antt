-- The calls on a block at an address, from what is found there.
use Rattle.std.proofs.Common.{◌≡◌, ◌≢◌, ℕ, [], ◌∷◌, Some, None, refl, subst}
use Rattle.heap_model.specs.declared.Act.TheVariants as acts
use Rattle.heap_model.specs.declared.Busy.{Busy}
use Rattle.heap_model.specs.declared.Call.{Call}
use Rattle.heap_model.specs.declared.Call.TheVariants as calls
use Rattle.heap_model.specs.declared.Limits.{Limits}
use Rattle.heap_model.specs.declared.Opening.{Opening}
use Rattle.heap_model.specs.declared.Reply.TheVariants as replies
use Rattle.heap_model.specs.declared.What.{What}
use Rattle.heap_model.specs.declared.What.TheVariants as whats
use Rattle.heap_model.specs.Shape.{Replied, WasBusy}
use Rattle.heap_gate.specs.Token.{Token}
use Rattle.call_parts.specs.Calls.{IsServing, Makes}
use Rattle.paged_calls.specs.Parts.{Measures}
use Rattle.address_calls.specs.Answers.{MayGuard, MeetsOn}
use Rattle.heap_now.specs.Calls.{ServesWith}

no_gate : (l : Limits) (addr : ℕ) (what : What) → MayGuard l addr what → what ≢ whats.Gate
no_gate l addr what m e = subst (MayGuard l addr) e m

-- a lock that another holds
pub met_on : (b d : Token) (call : Call) (o : Opening) (addr : ℕ) (busy : Busy) → IsServing b call [] → b.opening ≡ o → MeetsOn b d addr busy → ServesWith (MayGuard o.limits addr) b d call (WasBusy busy)
met_on b d call o addr busy v e m =
    let may = subst (λ (x : Opening). MayGuard x.limits addr busy.what) e m.guards in
    (m.met call v.call_is, no_gate o.limits addr busy.what may, may)

pub found : (b d : Token) (call : Call) (addr size : ℕ) → IsServing b call [] → Measures b d addr (Some size) → Makes b d call (acts.Sized addr size ∷ [])
found b d call addr size v m = m call v.call_is

pub none_there : (b d : Token) (call : Call) (addr : ℕ) → IsServing b call [] → Measures b d addr None → Makes b d call (acts.NotLive addr ∷ [])
none_there b d call addr v m = m call v.call_is

pub size_told : (May : What → Type 0) (b d : Token) (addr size : ℕ) → Makes b d (calls.Size addr) (acts.Sized addr size ∷ []) → ServesWith May b d (calls.Size addr) (Replied (replies.Number size))
size_told May b d addr size m = (acts.Sized addr size ∷ [], m, (refl, refl))

pub freed : (May : What → Type 0) (b d : Token) (addr size : ℕ) → Makes b d (calls.Free addr) (acts.Take addr size ∷ acts.Drop addr ∷ []) → ServesWith May b d (calls.Free addr) (Replied replies.Done)
freed May b d addr size m = (acts.Take addr size ∷ acts.Drop addr ∷ [], m, (refl, refl))
