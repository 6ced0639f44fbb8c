-- What the variable-size layer is asked for an allocation, and what the call comes to from before its lock was taken.
use Rattle.std.proofs.Common.{◌≡◌, ℕ, ◌+◌, Bool, true, List, [], ◌∷◌, ◌++◌, Option, None, refl, ap, ◌∙◌, subst, inl, inr}
use Rattle.std.specs.Prelude.{◌≢◌}
use Rattle.heap_model.specs.declared.Act.{Act}
use Rattle.heap_model.specs.declared.Act.TheVariants as acts
use Rattle.heap_model.specs.declared.AllocNo.{AllocNo}
use Rattle.heap_model.specs.declared.AllocNo.TheVariants as alloc_nos
use Rattle.heap_model.specs.declared.Busy.{Busy}
use Rattle.heap_model.specs.declared.Call.{Call}
use Rattle.heap_model.specs.declared.Call.TheVariants as calls
use Rattle.heap_model.specs.declared.Reply.TheVariants as replies
use Rattle.heap_model.specs.declared.What.{What}
use Rattle.heap_model.specs.declared.What.TheVariants as whats
use Rattle.heap_model.specs.Buckets.{bucket_of}
use Rattle.heap_model.specs.Legal.{goes_to_lfh}
use Rattle.heap_model.specs.Shape.{Answer, Replied, shape_of}
use Rattle.heap_model.specs.Stay.{for_some}
use Rattle.heap_gate.specs.Token.{Token, now}
use Rattle.vs_layer.specs.Kept.{VsKept, place_for}
use Rattle.call_parts.specs.Calls.{GoesOn, Makes, Brings, MeetsBusy}
use Rattle.call_parts.proofs.Joining.{goes_then}
use Rattle.call_parts.proofs.Serving.{none_begins, none_begins-append, shape-append}
use Rattle.vs_calls.specs.Blocks.{IsForVs}
use Rattle.vs_calls.specs.Parts.{IsPlacing, IsRefused}
use Rattle.paged_calls.specs.Parts.{ForCall, IsAllocating, Places}
use Rattle.small_calls.specs.Fronts.{IsAsking}
use Rattle.small_calls.specs.Ways.{AsksUnderVs, IsInactive, IsSpentUnderVs}
use Rattle.small_calls.specs.ByVs.{HasNoGap, IsRefusedByVs, TriesSmall}
use Rattle.small_calls.specs.declared.by_vs.SmallTry.{SmallTry}
use Rattle.small_calls.specs.declared.by_vs.SmallTry.TheVariants as tries
use Rattle.small_calls.proofs.VsHeld.{places_behind}

---- What the layer is asked

pub asking_of : (c : Token) (n : ℕ) (zero_it : Bool) → IsAllocating c n zero_it → IsAsking c n zero_it []
asking_of c n zero_it x = record { flags = x.0; zero_is = x.1; serving = x.2 }

-- a size without a bucket is never one of the front end
pub none_for_vs : (c : Token) (n : ℕ) → bucket_of n ≡ None → IsForVs c n
none_for_vs c n e s q = ap (λ (o : Option ℕ). for_some o (goes_to_lfh (now s c).state.vs)) e

pub placing : (c : Token) (vs : VsKept) (n : ℕ) (zero_it : Bool) → AsksUnderVs c n zero_it vs → IsForVs c n → IsPlacing c vs n zero_it
placing c vs n zero_it x f = record {
  flags = x.asking.flags;
  zero_is = x.asking.zero_is;
  holds = record { serving = x.asking.serving; tells = x.tells };
  used = x.used;
  bucket = f;
}

---- Behind acts that no shape shows

made_behind : (a m f : Token) (call : Call) (shape first : List Act) → GoesOn a m first → none_begins first ≡ true → shape_of first ≡ [] → Makes m f call shape → Makes a f call shape
made_behind a m f call shape first g nb sh y = record {
  added = first ++ y.added;
  goes = goes_then a m f first y.added g y.goes;
  no_begin = none_begins-append first y.added nb y.no_begin;
  shape_is = shape-append first y.added ∙ (λ i. sh i ++ y.shape_is i);
  stands = y.stands;
}

pub brings_behind : (a m f : Token) (answer : Answer) (first : List Act) → GoesOn a m first → none_begins first ≡ true → shape_of first ≡ [] → m.call ≡ a.call → ForCall m (λ call. Brings m f call answer) → ForCall a (λ call. Brings a f call answer)
brings_behind a m f answer first g nb sh same p call e = let x = p call (same ∙ e) in (x.0, made_behind a m f call x.0 first g nb sh x.1, x.2)

pub busy_behind : (a m f : Token) (busy : Busy) (what : What) (first : List Act) → GoesOn a m first → none_begins first ≡ true → shape_of first ≡ [] → m.call ≡ a.call → ForCall m (λ call. MeetsBusy m f call busy what)
    → ForCall a (λ call. MeetsBusy a f call busy what)
busy_behind a m f busy what first g nb sh same p call e =
    let x = p call (same ∙ e) in
    record {
      made = made_behind a m f call (acts.Blocked busy.what busy.word ∷ []) first g nb sh x.made;
      what_is = x.what_is;
      another = (x.another.0, subst (λ (k : ℕ). busy.word ≢ k + 1) g.number x.another.1);
    }

---- From before the lock

module _ (a m f : Token) (vs : VsKept) (n : ℕ) (zero_it : Bool) (goes : GoesOn a m (acts.TakeLock whats.Vs ∷ [])) (same : m.call ≡ a.call) (asks : AsksUnderVs m n zero_it vs) where
  abbrev own_call : Call
  own_call = calls.Alloc n asks.asking.flags

  no_gap : place_for vs n ≡ None → (call : Call) (shape : List Act) → Makes m f call shape → HasNoGap a f n
  no_gap none call shape y = record {
    held = m;
    vs = vs;
    goes = goes;
    later = y.goes.seen;
    tells = asks.tells;
    none = none;
  }

  pub refused_there : (no : AllocNo) → IsRefused vs n m f no → IsRefusedByVs n a f no
  refused_there alloc_nos.NoFit x =
      let y = x.1 own_call asks.asking.serving.call_is in
      (no_gap x.0 own_call y.0 y.1, brings_behind a m f (Replied replies.NoFit) (acts.TakeLock whats.Vs ∷ []) goes refl refl same x.1)
  refused_there (alloc_nos.Busy busy) x =
      let y = x.1 own_call asks.asking.serving.call_is in
      inr (no_gap x.0 own_call (acts.Blocked busy.what busy.word ∷ []) y.made, busy_behind a m f busy whats.Back (acts.TakeLock whats.Vs ∷ []) goes refl refl same x.1)

---- From before the bucket was looked at

module _ (a m f : Token) (n : ℕ) (zero_it : Bool) (x : IsInactive a m n zero_it) where
  gap_before : HasNoGap m f n → HasNoGap a f n
  gap_before h = record {
    held = h.held;
    vs = h.vs;
    goes = goes_then a m h.held [] (acts.TakeLock whats.Vs ∷ []) x.goes h.goes;
    later = h.later;
    tells = h.tells;
    none = h.none;
  }

  placed_before : (addr : ℕ) → Places m f addr → Places a f addr
  placed_before addr p = places_behind a m f addr [] x.goes refl refl x.call p

  refused_before : (no : AllocNo) → IsRefusedByVs n m f no → IsRefusedByVs n a f no
  refused_before alloc_nos.NoFit r = (gap_before r.0, brings_behind a m f (Replied replies.NoFit) [] x.goes refl refl x.call r.1)
  refused_before (alloc_nos.Busy busy) (inl r) = inl (busy_behind a m f busy whats.Vs [] x.goes refl refl x.call r)
  refused_before (alloc_nos.Busy busy) (inr r) = inr (gap_before r.0, busy_behind a m f busy whats.Back [] x.goes refl refl x.call r.1)

  pub spent_before : (b d lost : ℕ) (vs : VsKept) → IsSpentUnderVs m f n zero_it b d lost vs → IsSpentUnderVs a f n zero_it b d lost vs
  spent_before b d lost vs s = record {
    begun = s.begun;
    its = s.its;
    its_are = s.its_are;
    goes = goes_then a m s.begun [] (acts.TakeLock whats.Vs ∷ s.its) x.goes s.goes;
    call = s.call ∙ x.call;
    asking = s.asking;
    spent = s.spent;
  }

  pub tried_before : (r : SmallTry) → TriesSmall m f n zero_it r → TriesSmall a f n zero_it r
  tried_before (tries.Placed addr) p = placed_before addr p
  tried_before (tries.Refused why) p = refused_before why p
  tried_before (tries.SpentUnderVs vs b lost draw) p = (p.0, spent_before b draw.value lost vs p.1)
