-- Tries of a call, one after another, up to the one that is answered.
use Rattle.std.proofs.Common.{◌≡◌, ◌≢◌, ◌⊎◌, ℕ, ◌+◌, List, [], ◌∷◌, ◌++◌, refl, sym, ap, ◌∙◌, subst, inl, inr, arith}
use Rattle.heap_model.specs.declared.Busy.{Busy}
use Rattle.heap_model.specs.declared.Call.{Call}
use Rattle.heap_model.specs.declared.Call.TheVariants as calls
use Rattle.heap_model.specs.declared.Flags.{Flags}
use Rattle.heap_model.specs.declared.LockNo.TheVariants as lock_nos
use Rattle.heap_model.specs.declared.Opening.{Opening}
use Rattle.heap_model.specs.declared.Reply.{Reply}
use Rattle.heap_model.specs.declared.Reply.TheVariants as replies
use Rattle.heap_model.specs.declared.What.TheVariants as whats
use Rattle.heap_model.specs.Shape.{Replied, WasBusy}
use Rattle.heap_gate.specs.Token.{Token}
use Rattle.heap_gate.specs.Calls.{with_depth}
use Rattle.address_calls.specs.Answers.{MayGuard}
use Rattle.heap_now.specs.Reallocs.{MayTry}
use Rattle.compact_calls.specs.Compact.{HasNumber, IsRefused}
use Rattle.heap_now.specs.Calls.{IsReady, Gets, EndsWith, MayTake}
use Rattle.heap_now.specs.Locks.{IsLockedMore, IsNotLocked}
use Rattle.heap_api.specs.AtLast.{IsTurnedBack, AreTries, GetsAtLast}
use Rattle.heap_api.specs.Locks.{IsLockedAtLast}

---- Any call

-- It was turned back each time since.
pub record Waits (old now : Token) (call : Call) : Type 0 where
  pub table : now.table ≡ old.table
  pub opening : now.opening ≡ old.opening
  pub ready : IsReady now
  pub tries : List Token
  pub turned : AreTries call old tries now

pub waits_none : (a : Token) (call : Call) → IsReady a → Waits a a call
waits_none a call r = record { table = refl; opening = refl; ready = r; tries = []; turned = refl }

tries_more : (call : Call) (a : Token) (ts : List Token) (b c : Token) → AreTries call a ts b → IsTurnedBack b c call → AreTries call a (ts ++ c ∷ []) c
tries_more call a [] b c t x = (subst (λ (z : Token). IsTurnedBack z c call) t x, refl)
tries_more call a (next ∷ rest) b c t x = (t.0, tries_more call next rest b c t.1 x)

-- one try more
pub waits_more : (a b c : Token) (call : Call) → Waits a b call → IsTurnedBack b c call → Waits a c call
waits_more a b c call w x = record {
  table = x.gets.answers.table ∙ w.table;
  opening = x.gets.answers.opening ∙ w.opening;
  ready = record { ready = x.gets.answers.ready; owes = x.gets.owes };
  tries = w.tries ++ c ∷ [];
  turned = tries_more call a w.tries b c w.turned x;
}

-- .. and the last
abbrev pub waits_end : (a b c : Token) (call : Call) (reply : Reply) → Waits a b call → Gets b c call (Replied reply) → GetsAtLast a c call reply
waits_end a b c call reply w x = record { tries = w.tries; before = b; turned = w.turned; gets = x }

---- Turned back

pub turned_alloc : (b c : Token) (n : ℕ) (flags : Flags) (busy : Busy) → EndsWith (MayTake n) b c (calls.Alloc n flags) (WasBusy busy) → IsTurnedBack b c (calls.Alloc n flags)
turned_alloc b c n flags busy x = record { busy = busy; gets = x.0.gets; why = (x.0.cause, x.1) }

module _ (o : Opening) (b c : Token) (e : b.opening ≡ o) (addr : ℕ) (busy : Busy) where
  its_lock : (busy.what ≡ whats.Gate) ⊎ MayGuard o.limits addr busy.what → (busy.what ≡ whats.Gate) ⊎ MayGuard b.opening.limits addr busy.what
  its_lock x = subst (λ (p : Opening). (busy.what ≡ whats.Gate) ⊎ MayGuard p.limits addr busy.what) (sym e) x

  pub turned_free : EndsWith (MayGuard o.limits addr) b c (calls.Free addr) (WasBusy busy) → IsTurnedBack b c (calls.Free addr)
  turned_free x = record { busy = busy; gets = x.0.gets; why = (x.0.cause, its_lock x.1) }

  pub turned_size : EndsWith (MayGuard o.limits addr) b c (calls.Size addr) (WasBusy busy) → IsTurnedBack b c (calls.Size addr)
  turned_size x = record { busy = busy; gets = x.0.gets; why = (x.0.cause, its_lock x.1) }

  pub turned_get : (index : ℕ) → EndsWith (MayGuard o.limits addr) b c (calls.Get addr index) (WasBusy busy) → IsTurnedBack b c (calls.Get addr index)
  turned_get index x = record { busy = busy; gets = x.0.gets; why = (x.0.cause, its_lock x.1) }

  pub turned_put : (index value : ℕ) → EndsWith (MayGuard o.limits addr) b c (calls.Put addr index value) (WasBusy busy) → IsTurnedBack b c (calls.Put addr index value)
  turned_put index value x = record { busy = busy; gets = x.0.gets; why = (x.0.cause, its_lock x.1) }

  pub turned_realloc : (n : ℕ) (flags : Flags) → EndsWith (MayTry o.limits addr n) b c (calls.Realloc addr n flags) (WasBusy busy) → IsTurnedBack b c (calls.Realloc addr n flags)
  turned_realloc n flags x =
      record { busy = busy; gets = x.0.gets; why = (x.0.cause, subst (λ (p : Opening). (busy.what ≡ whats.Gate) ⊎ MayTry p.limits addr n busy.what) (sym e) x.1) }

---- Compaction

pub compacted : (b c : Token) (pages : ℕ) → HasNumber b c pages → Gets b c calls.Compact (Replied (replies.Compacted pages))
compacted b c pages x = record { rest = x.rest; answers = x.answers; owes = x.owes }

pub turned_compact : (b c : Token) (busy : Busy) → IsRefused b c busy → IsTurnedBack b c calls.Compact
turned_compact b c busy x = record { busy = busy; gets = record { rest = x.answered.rest; answers = x.answered.answers; owes = x.answered.owes }; why = (x.what, x.word) }

---- The heap lock

-- It waits for the heap lock: it has not tried yet, or it is one that does not own it.
pub record WaitsForLock (old now : Token) : Type 0 where
  pub waits : Waits old now calls.Lock
  pub depth : now.depth ≡ old.depth
  pub which : (now ≡ old) ⊎ (now.depth ≡ 0)

pub lock_none : (a : Token) → IsReady a → WaitsForLock a a
lock_none a r = record { waits = waits_none a calls.Lock r; depth = refl; which = inl refl }

pub lock_more : (a b c : Token) (busy : Busy) → WaitsForLock a b → IsNotLocked b c (lock_nos.Busy busy) → WaitsForLock a c
lock_more a b c busy w x =
    let g = x.1 in
    record {
      waits = waits_more a b c calls.Lock w.waits (record { busy = busy; gets = g; why = (x.2, x.3) });
      depth = g.answers.depth ∙ w.depth;
      which = inr (g.answers.depth ∙ x.0);
    }

-- a caller that owns it has not tried
owner_is : (a b : Token) → WaitsForLock a b → a.depth ≢ 0 → b ≡ a
owner_is a b w more = go w.which
  where
    go : (b ≡ a) ⊎ (b.depth ≡ 0) → b ≡ a
    go (inl e) = e
    go (inr z) = absurd (more (sym w.depth ∙ z))

pub locked_at_last : (a b c : Token) → WaitsForLock a b → IsLockedMore b c → IsLockedAtLast a c
locked_at_last a b c w x = record {
  table = x.table ∙ w.waits.table;
  opening = x.opening ∙ w.waits.opening;
  depth = x.depth ∙ ap (λ (n : ℕ). n + 1) w.depth;
  few = let f = x.few in let e = w.depth in omega arith;
  first = λ z. waits_end a b (with_depth c 0) calls.Lock replies.Done w.waits (x.first (w.depth ∙ z));
  again = λ more. let e = owner_is a b w more in subst (λ (t : Token). c ≡ with_depth t (t.depth + 1)) e (x.again (λ z. more (sym w.depth ∙ z)));
  ready = x.ready;
}

pub lock_full : (a b c : Token) → WaitsForLock a b → IsNotLocked b c lock_nos.Depth → (a.depth ≡ 65535) × (c ≡ a)
lock_full a b c w x =
    let d : a.depth ≡ 65535 = sym w.depth ∙ x.0 in
    (d, x.1 ∙ owner_is a b w (λ z. let no : ⊥ = omega (arith, d, z) in no))
