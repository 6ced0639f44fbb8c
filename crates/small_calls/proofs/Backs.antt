-- When an allocation tries the lock of the back end, one part behind another.
use Rattle.std.proofs.Common.{◌≡◌, ◌⊎◌, ℕ, Bool, true, List, [], ◌∷◌, ◌++◌, Some, None, refl, sym, ap, ◌∙◌, subst, append_assoc, inl, inr}
use Rattle.heap_model.specs.declared.Act.{Act}
use Rattle.heap_model.specs.declared.Act.TheVariants as acts
use Rattle.heap_model.specs.declared.Busy.{Busy}
use Rattle.heap_model.specs.declared.What.TheVariants as whats
use Rattle.heap_model.specs.Buckets.{bucket_of}
use Rattle.heap_model.specs.Layers.{StandsForVs}
use Rattle.claim_rule.proofs.Lists.{prefix_trans}
use Rattle.heap_gate.specs.Token.{Token, Always, now}
use Rattle.heap_gate.specs.Calls.{HasMissed}
use Rattle.vs_layer.specs.Kept.{VsKept, place_for}
use Rattle.vs_layer.specs.Standing.{layer_of}
use Rattle.vs_layer.proofs.Told.{place_is}
use Rattle.call_parts.specs.Calls.{GoesOn}
use Rattle.call_parts.proofs.Joining.{goes_does, goes_then}
use Rattle.vs_calls.specs.Tries.{tries_none, LeavesBack, TriesBackFirst}
use Rattle.vs_calls.proofs.Tries.{none-append, behind_none, behind_more, behind_reason, behind_after, behind_then, behind_so}
use Rattle.small_calls.specs.Late.{HasSpentFirst, TriesNeither, HasSeenFull, MayTryBack, BacksLate, HasTriedBack, IsBackCall}
use Rattle.small_calls.specs.Ways.{IsInactive, IsSpent, IsSpentUnderVs}
use Rattle.small_calls.specs.declared.serving.SmallCall.{SmallCall}
use Rattle.small_calls.specs.declared.serving.SmallCall.TheVariants as ends
use Rattle.small_calls.proofs.ForVs.{spent_before}
use Rattle.small_calls.proofs.Late.{spent_hint}
use Rattle.small_calls.proofs.BehindHint.{goes_spent}
use Rattle.small_calls.proofs.BehindVs.{goes_spent as goes_with}
use Rattle.small_calls.proofs.Tries.{none_read, spent_more, spent_later}

---- Where it is not tried

pub backs_leave : (a f : Token) (n : ℕ) → LeavesBack a f → BacksLate a f n
backs_leave a f n x = record { added = x.added; goes = x.goes; back = behind_none whats.Back (MayTryBack a f n) x.added x.back }

pub backs_neither : (a f : Token) (n : ℕ) → TriesNeither a f → BacksLate a f n
backs_neither a f n x = record { added = x.added; goes = x.goes; back = behind_none whats.Back (MayTryBack a f n) x.added x.back }

-- that of VS is met busy
pub missed_leaves : (a m : Token) (busy : Busy) → HasMissed a m whats.Vs busy.what busy.word → LeavesBack a m
missed_leaves a m busy x = record { added = acts.Blocked whats.Vs busy.word ∷ []; goes = goes_does a m (acts.Blocked whats.Vs busy.word ∷ []) x.runs.does x.stands.depth; back = refl }

pub leaves_then : (a m f : Token) (xs : List Act) → GoesOn a m xs → tries_none whats.Back xs ≡ true → LeavesBack m f → LeavesBack a f
leaves_then a m f xs g none x = record { added = xs ++ x.added; goes = goes_then a m f xs x.added g x.goes; back = none-append whats.Back xs x.added none x.back }

---- One part behind another

full_later : (a m f : Token) (n : ℕ) (xs mid : List Act) → GoesOn a m xs → HasSeenFull m f n mid → HasSeenFull a f n (xs ++ mid)
full_later a m f n xs mid g h = record {
  earlier = xs ++ h.earlier;
  took = ap (λ (l : List Act). xs ++ l) h.took ∙ sym (append_assoc xs h.earlier (acts.TakeLock whats.Vs ∷ []));
  at = h.at;
  goes = goes_then a m h.at xs mid g h.goes;
  later = h.later;
  full = h.full;
}

may_later : (a m f : Token) (n : ℕ) (xs mid : List Act) → GoesOn a m xs → MayTryBack m f n mid → MayTryBack a f n (xs ++ mid)
may_later a m f n xs mid g (inl h) = inl (h.0, h.1, spent_later a m h.0 xs mid g h.2)
may_later a m f n xs mid g (inr h) = inr (full_later a m f n xs mid g h)

-- behind acts that do not try it
pub backs_before : (a m f : Token) (n : ℕ) (xs : List Act) → GoesOn a m xs → tries_none whats.Back xs ≡ true → BacksLate m f n → BacksLate a f n
backs_before a m f n xs g none x = record {
  added = xs ++ x.added;
  goes = goes_then a m f xs x.added g x.goes;
  back = behind_more whats.Back (MayTryBack a f n) (MayTryBack m f n) xs x.added none x.back (λ mid may. may_later a m f n xs mid g may);
}

may_still : (a m f : Token) (n : ℕ) (ys before : List Act) → GoesOn m f ys → MayTryBack a m n before → MayTryBack a f n before
may_still a m f n ys before g (inl h) = inl h
may_still a m f n ys before g (inr h) = inr (record { earlier = h.earlier; took = h.took; at = h.at; goes = h.goes; later = prefix_trans h.at.seen m.seen f.seen h.later g.seen; full = h.full })

-- .. or with such behind them
pub backs_then : (a m f : Token) (n : ℕ) (ys : List Act) → BacksLate a m n → GoesOn m f ys → tries_none whats.Back ys ≡ true → BacksLate a f n
backs_then a m f n ys x g none = record {
  added = x.added ++ ys;
  goes = goes_then a m f x.added ys x.goes g;
  back = behind_then whats.Back (MayTryBack a f n) x.added ys (behind_so whats.Back (MayTryBack a m n) (MayTryBack a f n) x.added (λ before may. may_still a m f n ys before g may) x.back) none;
}

-- once the first pass is spent
pub backs_behind : (a m f : Token) (n : ℕ) (ys : List Act) → HasTriedBack a m n → GoesOn m f ys → BacksLate a f n
backs_behind a m f n ys x g = record {
  added = x.late.added ++ ys;
  goes = goes_then a m f x.late.added ys x.late.goes g;
  back = behind_after whats.Back (MayTryBack a f n) x.late.added ys (behind_so whats.Back (MayTryBack a m n) (MayTryBack a f n) x.late.added (λ before may. may_still a m f n ys before g may) x.late.back)
      (λ mid. inl (x.bucket, x.bucket_is, spent_more a x.bucket x.late.added mid x.spent));
}

---- Where VS serves the size

-- its lock was taken, and its state shows no gap
seen_full : (a m f : Token) (vs : VsKept) (n : ℕ) → GoesOn a m (acts.TakeLock whats.Vs ∷ []) → Always m (λ s. StandsForVs m.opening (now s m).state (layer_of vs)) → TriesBackFirst m f vs n
    → place_for vs n ≡ None → HasSeenFull a f n (acts.TakeLock whats.Vs ∷ [])
seen_full a m f vs n g tells x none = record {
  earlier = [];
  took = refl;
  at = m;
  goes = g;
  later = x.goes.seen;
  full = λ s q. sym (place_is m.opening (now s m).state vs (tells s q) n) ∙ none;
}

pub backs_first : (a m f : Token) (vs : VsKept) (n : ℕ) → GoesOn a m (acts.TakeLock whats.Vs ∷ []) → Always m (λ s. StandsForVs m.opening (now s m).state (layer_of vs)) → TriesBackFirst m f vs n → BacksLate a f n
backs_first a m f vs n g tells x =
    let taking : List Act = acts.TakeLock whats.Vs ∷ [] in
    record {
      added = taking ++ x.added;
      goes = goes_then a m f taking x.added g x.goes;
      back = behind_more whats.Back (MayTryBack a f n) (λ before. (before ≡ []) × (place_for vs n ≡ None)) taking x.added refl x.back
          (λ mid z. subst (λ (l : List Act). MayTryBack a f n (taking ++ l)) (sym z.0) (inr (seen_full a m f vs n g tells x z.1)));
    }

---- Where the first pass is spent

spent_back : (a c f : Token) (n b : ℕ) (xs ys : List Act) → bucket_of n ≡ Some b → GoesOn a c xs → tries_none whats.Back xs ≡ true → ((mid : List Act) → HasSpentFirst a b (xs ++ mid)) → GoesOn c f ys → HasTriedBack a f n
spent_back a c f n b xs ys e g none spent h = record {
  late = record {
    added = xs ++ ys;
    goes = goes_then a c f xs ys g h;
    back = behind_reason whats.Back (MayTryBack a f n) xs ys none (λ mid. inl (b, e, spent mid));
  };
  bucket = b;
  bucket_is = e;
  spent = spent ys;
}

pub tried_spent : (a c f : Token) (n b d lost : ℕ) (zero_it : Bool) → IsSpent a c n zero_it b d lost → bucket_of n ≡ Some b → (ys : List Act) → GoesOn c f ys → HasTriedBack a f n
tried_spent a c f n b d lost zero_it x e ys h =
    spent_back a c f n b x.spent.its ys e (goes_spent a c n b d lost zero_it x) (none_read whats.Back x.spent.its x.spent.are) (λ mid. spent_hint a x.begun c b d lost x.spent [] mid x.goes) h

-- .. with the lock of VS
pub under_none : (b : ℕ) (its : List Act) → (its ≡ []) ⊎ (its ≡ acts.Active b ∷ []) → tries_none whats.Back (acts.TakeLock whats.Vs ∷ its) ≡ true
under_none b its (inl e) = subst (λ (l : List Act). tries_none whats.Back (acts.TakeLock whats.Vs ∷ l) ≡ true) (sym e) refl
under_none b its (inr e) = subst (λ (l : List Act). tries_none whats.Back (acts.TakeLock whats.Vs ∷ l) ≡ true) (sym e) refl

pub tried_with_vs : (a c f : Token) (n b d lost : ℕ) (zero_it : Bool) (vs : VsKept) → IsSpentUnderVs a c n zero_it b d lost vs → bucket_of n ≡ Some b → (ys : List Act) → GoesOn c f ys → HasTriedBack a f n
tried_with_vs a c f n b d lost zero_it vs x e ys h =
    let first : List Act = acts.TakeLock whats.Vs ∷ x.its in
    let its = x.spent.spent.its in
    spent_back a c f n b (first ++ its) ys e (goes_with a c vs n b d lost zero_it x) (none-append whats.Back first its (under_none b x.its x.its_are) (none_read whats.Back its x.spent.spent.are))
    (λ mid. spent_hint a x.begun c b d lost x.spent.spent first mid x.goes) h

pub tried_inactive : (a m c f : Token) (n b d lost : ℕ) (zero_it : Bool) (vs : VsKept) → IsInactive a m n zero_it → IsSpentUnderVs m c n zero_it b d lost vs → bucket_of n ≡ Some b → (ys : List Act) → GoesOn c f ys → HasTriedBack a f n
tried_inactive a m c f n b d lost zero_it vs i x e ys h = tried_with_vs a c f n b d lost zero_it vs (spent_before a m c n zero_it i b d lost vs x) e ys h

---- What the whole comes to

pub back_call : (a f : Token) (n : ℕ) → HasTriedBack a f n → (r : SmallCall) → IsBackCall a f n r
back_call a f n x (ends.Placed addr) = x.late
back_call a f n x (ends.Refused why) = x.late
back_call a f n x (ends.ForVs vs back) = x
back_call a f n x (ends.ForVsFirst vs back) = x
