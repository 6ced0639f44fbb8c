-- The moments of a caller in histories that go on.
use Rattle.std.proofs.Common.{◌≡◌, ℕ, ◌==◌, Bool, true, false, cond, List, [], ◌∷◌, ◌++◌, map, refl, sym, ap, ◌∙◌}
use Rattle.std.proofs.lemmas.List.{append-nil}
use mathlib.Core.List.{IsPrefix}
use Rattle.heap_model.specs.declared.Act.{Act}
use Rattle.heap_model.specs.declared.Entry.{Entry}
use Rattle.heap_model.specs.State.{Setting}
use Rattle.heap_model.specs.CallState.{Configuration}
use Rattle.heap_model.specs.Legal.{after}
use Rattle.heap_model.specs.History.{configuration_after, own}
use Rattle.heap_model.specs.Alone.{by_zero}
use Rattle.heap_model.specs.declared.Call.{Call}
use Rattle.heap_model.specs.declared.Call.TheVariants as calls
use Rattle.heap_model.specs.declared.Reply.TheVariants as replies
use Rattle.heap_model.specs.Moments.{Moment, moments, moments_by, acts_of}
use Rattle.heap_model.specs.Shape.{Answer, Replied, shown, HasActs, HasShape}

act_in : Entry → Act
act_in e = e.act

split : (b : Bool) (x : Moment) (xs ys : List Moment) → cond b (x ∷ (xs ++ ys)) (xs ++ ys) ≡ cond b (x ∷ xs) xs ++ ys
split true x xs ys = refl
split false x xs ys = refl

-- the moments of two lists, of which one follows the other
pub moments-append : (s : Setting) (c : ℕ) (m : Configuration) (xs ys : List Entry) → moments s c m (xs ++ ys) ≡ moments s c m xs ++ moments s c (configuration_after s m xs) ys
moments-append s c m [] ys = refl
moments-append s c m (x ∷ xs) ys =
    let one : Moment = record { before = m; act = x.act } in
    ap (λ (l : List Moment). cond (x.caller == c) (one ∷ l) l) (moments-append s c (after s m x) xs ys)
    ∙ split (x.caller == c) one (moments s c (after s m x) xs) (moments s c (configuration_after s (after s m x) xs) ys)

-- the acts of the moments are those of the own entries
pub moments_acts : (s : Setting) (c : ℕ) (m : Configuration) (xs : List Entry) → acts_of (moments s c m xs) ≡ map (λ e. e.act) (own c xs)
moments_acts s c m [] = refl
moments_acts s c m (x ∷ xs) = go (x.caller == c) (moments_acts s c (after s m x) xs)
  where
    go : (b : Bool) → acts_of (moments s c (after s m x) xs) ≡ map (λ e. e.act) (own c xs)
        → acts_of (cond b (record { before = m; act = x.act } ∷ moments s c (after s m x) xs) (moments s c (after s m x) xs)) ≡ map (λ e. e.act) (cond b (x ∷ own c xs) (own c xs))
    go true e = ap (λ (l : List Act). x.act ∷ l) e
    go false e = e

none_mapped : (ys : List Moment) (es : List Entry) → acts_of ys ≡ map (λ e. e.act) es → es ≡ [] → ys ≡ []
none_mapped [] es h e = refl
none_mapped (y ∷ ys) [] h e = absurd (cc h)
none_mapped (y ∷ ys) (x ∷ es) h e = absurd (cc e)

-- where a caller has no entry behind a beginning, its moments are those of the beginning
pub moments_between : (s : Setting) (c : ℕ) (m : Configuration) (xs ys : List Entry) (p : IsPrefix xs ys) → own c p.0 ≡ [] → moments s c m ys ≡ moments s c m xs
moments_between s c m xs ys p none =
    ap (moments s c m) (sym p.1) ∙ (moments-append s c m xs p.0
    ∙ (ap (λ l. moments s c m xs ++ l) (none_mapped (moments s c (configuration_after s m xs) p.0) (own c p.0) (moments_acts s c (configuration_after s m xs) p.0) none) ∙ append-nil (moments s c m xs)))

-- of caller 0 alone, all are its own
pub acts_by : (s : Setting) (m : Configuration) (rest : List Act) → acts_of (moments_by s m rest) ≡ rest
acts_by s m [] = refl
acts_by s m (act ∷ rest) = ap (λ (l : List Act). act ∷ l) (acts_by s (after s m (by_zero act)) rest)

-- a shape that acts alone tell is a shape
pub told_by_acts : (s : Setting) (c : ℕ) (call : Call) (answer : Answer) (xs : List Moment) → HasActs call answer (shown xs) → HasShape s c call answer xs
told_by_acts s c (calls.Realloc a n flags) (Replied (replies.Address b)) xs h = absurd h
told_by_acts s c (calls.Realloc a n flags) (Replied replies.NoFit) xs h = absurd h
told_by_acts s c (calls.Realloc a n flags) (Replied replies.NoRoom) xs h = absurd h
told_by_acts s c (calls.WalkNext from) (Replied (replies.Seen b)) xs h = absurd h
told_by_acts s c (calls.WalkNext from) (Replied (replies.Walked count)) xs h = absurd h
told_by_acts s c calls.Compact (Replied (replies.Compacted pages)) xs h = absurd h
told_by_acts s c call answer xs h = h
