-- An allocation, from what the part of it does that works inside.
use Rattle.std.proofs.Common.{◌≢◌, ℕ, ◌≤◌, [], sym, subst, arith, inl, inr}
use Rattle.std.specs.Prelude.{Result, Ok, Err, IfOk, IfErr}
use Rattle.heap_model.specs.declared.AllocNo.{AllocNo}
use Rattle.heap_model.specs.declared.AllocNo.TheVariants as alloc_nos
use Rattle.heap_model.specs.declared.Busy.{Busy}
use Rattle.heap_model.specs.declared.Call.{Call}
use Rattle.heap_model.specs.declared.Call.TheVariants as calls
use Rattle.heap_model.specs.declared.Flags.{Flags}
use Rattle.heap_model.specs.declared.What.{What}
use Rattle.heap_model.specs.declared.What.TheVariants as whats
use Rattle.heap_gate.specs.Token.{Token}
use Rattle.call_parts.specs.Calls.{IsServing, MeetsBusy}
use Rattle.paged_calls.specs.Parts.{IsRefused, Places}
use Rattle.small_calls.specs.Served.{IsRefusedSmall}
use Rattle.fall_calls.specs.Falls as falls
use Rattle.heap_now.specs.Calls.{ServesWith, MayTake, alloc_answer}
use Rattle.heap_now.proofs.Frames.{met}

no_gate : (n : ℕ) (what : What) → MayTake n what → what ≢ whats.Gate
no_gate n what m e = subst (MayTake n) e m

-- a part that needs one lock
pub placed_with : (what : What) (b d : Token) (n : ℕ) (flags : Flags) (r : Result ℕ AllocNo) → IsServing b (calls.Alloc n flags) [] → MayTake n what → IfOk r (λ addr. Places b d addr) → IfErr r (λ no. IsRefused what b d no)
    → ServesWith (MayTake n) b d (calls.Alloc n flags) (alloc_answer r)
placed_with what b d n flags (Ok addr) v m x y = x (calls.Alloc n flags) v.call_is
placed_with what b d n flags (Err alloc_nos.NoFit) v m x y = y (calls.Alloc n flags) v.call_is
placed_with what b d n flags (Err (alloc_nos.Busy busy)) v m x y =
    let k = y (calls.Alloc n flags) v.call_is in
    let may : MayTake n busy.what = subst (MayTake n) (sym k.what_is) m in
    (met b d (calls.Alloc n flags) busy what k, no_gate n busy.what may, may)

---- A part that needs the lock of VS, and perhaps that of the back end

module _ (b d : Token) (n : ℕ) (flags : Flags) (v : IsServing b (calls.Alloc n flags) []) (size : n ≤ 131072) where
  abbrev call : Call
  call = calls.Alloc n flags

  may_vs : MayTake n whats.Vs
  may_vs = size

  may_back : MayTake n whats.Back
  may_back = omega (arith, size)

  met_small : (busy : Busy) (what : What) → MayTake n what → MeetsBusy b d call busy what → ServesWith (MayTake n) b d call (alloc_answer (Err (alloc_nos.Busy busy)))
  met_small busy what m k = let may : MayTake n busy.what = subst (MayTake n) (sym k.what_is) m in (met b d call busy what k, no_gate n busy.what may, may)

  busy_small : (busy : Busy) → IsRefusedSmall n b d (alloc_nos.Busy busy) → ServesWith (MayTake n) b d call (alloc_answer (Err (alloc_nos.Busy busy)))
  busy_small busy (inl (inl x)) = met_small busy whats.Vs may_vs (x call v.call_is)
  busy_small busy (inl (inr x)) = met_small busy whats.Back may_back (x.1 call v.call_is)
  busy_small busy (inr x) = elim (x.meets call v.call_is) [
    | inl y ↦ met_small busy whats.Back may_back y.meets
    | inr z ↦ elim z [ inl y ↦ met_small busy whats.Vs may_vs y.meets | inr y ↦ met_small busy whats.Back may_back y.meets ]
  ]

  pub small_with : (r : Result ℕ AllocNo) → IfOk r (λ addr. Places b d addr) → IfErr r (λ no. falls.IsRefused n b d no) → ServesWith (MayTake n) b d call (alloc_answer r)
  small_with (Ok addr) x y = x call v.call_is
  small_with (Err alloc_nos.NoFit) x (inl y) = y.1 call v.call_is
  small_with (Err alloc_nos.NoFit) x (inr y) = y.refused call v.call_is
  small_with (Err (alloc_nos.Busy busy)) x y = busy_small busy y
