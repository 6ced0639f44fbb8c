-- Calls that a thread asks, by calls that wait.
use Rattle.std.proofs.Common.{◌≡◌, ◌≢◌, ℕ, zero, suc, ◌+◌, ◌-◌, ◌<◌, ◌==◌, false, [], ◌∷◌, Some, refl, sym, ap, subst, ne_eqb, arith}
use Rattle.heap_model.specs.declared.Call.{Call}
use Rattle.heap_model.specs.declared.Call.TheVariants as calls
use Rattle.heap_model.specs.declared.Flags.{Flags}
use Rattle.heap_model.specs.declared.Reply.{Reply}
use Rattle.heap_model.specs.declared.Reply.TheVariants as replies
use Rattle.heap_model.specs.History.{configuration_of}
use Rattle.heap_model.specs.Moments.{moments}
use Rattle.heap_model.specs.Served.{IsTried, IsServed, by_depth}
use Rattle.std.proofs.lemmas.List.{append-nil}
use Rattle.heap_gate.specs.Token.{Token}
use Rattle.heap_gate.specs.Calls.{with_depth}
use Rattle.heap_now.specs.Calls.{IsReady}
use Rattle.heap_now.specs.Locks.{IsLockedLess}
use Rattle.heap_api.specs.AtLast.{GetsAtLast, IsMade}
use Rattle.heap_api.specs.Locks.{IsLockedAtLast}
use Rattle.heap_api.proofs.Made.{made_at_last}
use Rattle.thread_calls.specs.Serving.{Goes, Serves, IsDepthBehind}

abbrev made_goes : (a b : Token) (call : Call) (reply : Reply) → IsMade a b call reply → Goes a b
made_goes a b call reply m = record {
  table = m.follows.table;
  opening = m.follows.opening;
  number = m.follows.number;
  roll = m.follows.roll;
  seen = m.follows.seen;
  ready = m.ready;
}

---- Calls that always take a step

module _ (a b : Token) (reply : Reply) where
  pub serves_alloc : (n : ℕ) (flags : Flags) → GetsAtLast a b (calls.Alloc n flags) reply → Serves a b (calls.Alloc n flags) (reply ∷ [])
  serves_alloc n flags x =
      let m = made_at_last a b (calls.Alloc n flags) reply x in
      record { goes = made_goes a b (calls.Alloc n flags) reply m; depth = m.follows.depth; served = λ s q. (reply, refl, m.tried s q) }

  pub serves_realloc : (addr n : ℕ) (flags : Flags) → GetsAtLast a b (calls.Realloc addr n flags) reply → Serves a b (calls.Realloc addr n flags) (reply ∷ [])
  serves_realloc addr n flags x =
      let m = made_at_last a b (calls.Realloc addr n flags) reply x in
      record { goes = made_goes a b (calls.Realloc addr n flags) reply m; depth = m.follows.depth; served = λ s q. (reply, refl, m.tried s q) }

  pub serves_free : (addr : ℕ) → GetsAtLast a b (calls.Free addr) reply → Serves a b (calls.Free addr) (reply ∷ [])
  serves_free addr x =
      let m = made_at_last a b (calls.Free addr) reply x in
      record { goes = made_goes a b (calls.Free addr) reply m; depth = m.follows.depth; served = λ s q. (reply, refl, m.tried s q) }

  pub serves_size : (addr : ℕ) → GetsAtLast a b (calls.Size addr) reply → Serves a b (calls.Size addr) (reply ∷ [])
  serves_size addr x =
      let m = made_at_last a b (calls.Size addr) reply x in
      record { goes = made_goes a b (calls.Size addr) reply m; depth = m.follows.depth; served = λ s q. (reply, refl, m.tried s q) }

  pub serves_get : (addr index : ℕ) → GetsAtLast a b (calls.Get addr index) reply → Serves a b (calls.Get addr index) (reply ∷ [])
  serves_get addr index x =
      let m = made_at_last a b (calls.Get addr index) reply x in
      record { goes = made_goes a b (calls.Get addr index) reply m; depth = m.follows.depth; served = λ s q. (reply, refl, m.tried s q) }

  pub serves_put : (addr index value : ℕ) → GetsAtLast a b (calls.Put addr index value) reply → Serves a b (calls.Put addr index value) (reply ∷ [])
  serves_put addr index value x =
      let m = made_at_last a b (calls.Put addr index value) reply x in
      record { goes = made_goes a b (calls.Put addr index value) reply m; depth = m.follows.depth; served = λ s q. (reply, refl, m.tried s q) }

  pub serves_compact : GetsAtLast a b calls.Compact reply → Serves a b calls.Compact (reply ∷ [])
  serves_compact x =
      let m = made_at_last a b calls.Compact reply x in
      record { goes = made_goes a b calls.Compact reply m; depth = m.follows.depth; served = λ s q. (reply, refl, m.tried s q) }

---- No step

-- the depth answers the call, and the caller is else as it was
no_step : (a : Token) (d : ℕ) (call : Call) (reply : Reply) → IsReady (with_depth a d) → d ≡ Rattle.heap_model.specs.Served.depth_after a.depth call (reply ∷ []) → by_depth a.depth call ≡ Some reply → Serves a (with_depth a d) call (reply ∷ [])
no_step a d call reply r e by = record {
  goes = record { table = refl; opening = refl; number = refl; roll = ([], append-nil a.roll); seen = ([], append-nil a.seen); ready = r };
  depth = e;
  served = λ s q. subst (λ o. IsServed (λ asked t xs. IsTried s a.number asked t xs) o call (reply ∷ []) []) (sym by) (refl, refl);
}

pub lock_deeper : (d : ℕ) → d ≢ 0 → d < 65535 → by_depth d calls.Lock ≡ Some replies.Done
lock_deeper d more few =
    let a : (d == 0) ≡ false = ne_eqb d 0 more in
    let b : (d == 65535) ≡ false = ne_eqb d 65535 (λ z. let none : ⊥ = omega (arith, z) in none) in
    rw (a, b) refl

pub unlock_inner : (d : ℕ) → d ≢ 0 → d ≢ 1 → by_depth d calls.Unlock ≡ Some replies.Done
unlock_inner d more other =
    let a : (d == 0) ≡ false = ne_eqb d 0 more in
    let b : (d == 1) ≡ false = ne_eqb d 1 other in
    rw (a, b) refl

---- The heap lock

module _ (a b : Token) where
  pub serves_lock : IsLockedAtLast a b → Serves a b calls.Lock (replies.Done ∷ [])
  serves_lock x = go a.depth refl
    where
      go : (d : ℕ) → a.depth ≡ d → Serves a b calls.Lock (replies.Done ∷ [])
      go zero e =
          let m = made_at_last a (with_depth b 0) calls.Lock replies.Done (x.first e) in
          record {
            goes = record { table = x.table; opening = x.opening; number = m.follows.number; roll = m.follows.roll; seen = m.follows.seen; ready = x.ready };
            depth = x.depth;
            served = λ s q.
                subst (λ (d : ℕ). IsServed (λ asked t xs. IsTried s a.number asked t xs) (by_depth d calls.Lock) calls.Lock (replies.Done ∷ []) (moments s a.number (configuration_of s a.seen) m.follows.seen.0))
                (sym e) (replies.Done, refl, m.tried s q);
          }
      go (suc n) e =
          let more : a.depth ≢ 0 = λ z. let none : ⊥ = omega (arith, e, z) in none in
          let y = x.again more in
          subst (λ (t : Token). Serves a t calls.Lock (replies.Done ∷ [])) (sym y)
          (no_step a (a.depth + 1) calls.Lock replies.Done (subst IsReady y x.ready) refl (lock_deeper a.depth more x.few))

  pub serves_full : a.depth ≡ 65535 → b ≡ a → IsReady a → Serves a b calls.Lock (replies.Depth ∷ [])
  serves_full e y r =
      subst (λ (t : Token). Serves a t calls.Lock (replies.Depth ∷ [])) (sym y)
      (no_step a a.depth calls.Lock replies.Depth r refl (ap (λ (d : ℕ). by_depth d calls.Lock) e))

  pub serves_unlock : IsLockedLess a b → Serves a b calls.Unlock (replies.Done ∷ [])
  serves_unlock x = go a.depth refl
    where
      inner : a.depth ≢ 1 → Serves a b calls.Unlock (replies.Done ∷ [])
      inner other =
          let y = x.again other in
          subst (λ (t : Token). Serves a t calls.Unlock (replies.Done ∷ [])) (sym y)
          (no_step a (a.depth - 1) calls.Unlock replies.Done (subst IsReady y x.ready) refl (unlock_inner a.depth x.owned other))

      last : a.depth ≡ 1 → Serves a b calls.Unlock (replies.Done ∷ [])
      last e =
          let m = made_at_last a (with_depth b 1) calls.Unlock replies.Done (record { tries = []; before = a; turned = refl; gets = x.last e }) in
          record {
            goes = record { table = x.table; opening = x.opening; number = m.follows.number; roll = m.follows.roll; seen = m.follows.seen; ready = x.ready };
            depth = x.depth;
            served = λ s q.
                subst (λ (d : ℕ). IsServed (λ asked t xs. IsTried s a.number asked t xs) (by_depth d calls.Unlock) calls.Unlock (replies.Done ∷ []) (moments s a.number (configuration_of s a.seen) m.follows.seen.0))
                (sym e) (replies.Done, refl, m.tried s q);
          }

      go : (d : ℕ) → a.depth ≡ d → Serves a b calls.Unlock (replies.Done ∷ [])
      go zero e = absurd (x.owned e)
      go (suc zero) e = last e
      go (suc (suc n)) e = inner (λ z. let none : ⊥ = omega (arith, e, z) in none)

  pub serves_not_owner : a.depth ≡ 0 → b ≡ a → IsReady a → Serves a b calls.Unlock (replies.NotOwner ∷ [])
  serves_not_owner e y r =
      subst (λ (t : Token). Serves a t calls.Unlock (replies.NotOwner ∷ [])) (sym y)
      (no_step a a.depth calls.Unlock replies.NotOwner r refl (ap (λ (d : ℕ). by_depth d calls.Unlock) e))

---- The call as it was asked

pub at_call : (a b : Token) (asked call : Call) (reply : Reply) → asked ≡ call → Serves a b call (reply ∷ []) → Serves a b asked (reply ∷ [])
at_call a b asked call reply e x = subst (λ (k : Call). Serves a b k (reply ∷ [])) (sym e) x

-- .. and how often the caller has the heap lock then
pub at_depth : (x y : ℕ) (asked call : Call) → asked ≡ call → IsDepthBehind call x y → IsDepthBehind asked x y
at_depth x y asked call e d = subst (λ (k : Call). IsDepthBehind k x y) (sym e) d

pub kept_depth : (a b : Token) (call : Call) (reply : Reply) → GetsAtLast a b call reply → b.depth ≡ a.depth
kept_depth a b call reply x = (made_at_last a b call reply x).follows.depth
