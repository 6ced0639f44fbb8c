-- How often the list of a caller has an act, once a call has run.
use Rattle.std.proofs.Common.{◌≡◌, ℕ, zero, suc, ◌+◌, ◌-◌, Bool, true, false, ◌||◌, cond, List, [], ◌∷◌, ◌++◌, refl, sym, ap, ◌∙◌, subst, arith}
use Rattle.heap_model.specs.declared.Act.{Act}
use Rattle.heap_model.specs.declared.Act.TheVariants as acts
use Rattle.heap_model.specs.declared.Call.{Call}
use Rattle.heap_model.specs.declared.Call.TheVariants as calls
use Rattle.heap_model.specs.declared.What.{What}
use Rattle.heap_model.specs.declared.What.TheVariants as whats
use Rattle.heap_model.specs.declared.Busy.{Busy}
use Rattle.heap_model.specs.declared.LockNo.TheVariants as lock_nos
use Rattle.heap_model.specs.declared.Entry.{Entry}
use Rattle.heap_model.specs.History.{own}
use Rattle.claim_rule.specs.Entries.{entry}
use Rattle.claim_rule.proofs.Lists.{prefix_self, prefix_trans}
use Rattle.heap_gate.specs.Token.{HeapToken, Token}
use Rattle.heap_gate.specs.Calls.{Does, Stance, stance, Stands, with_prepared, begun_with, IsRefusedLock, HasEntered, HasTurnedBack, HasLeft, HasUnlocked, IsDeeper, IsShallower, begins}
use Rattle.heap_gate.specs.Counts.{enters, locks, counted, IsSettled, GoesOn}

pub counted-append : (f : Act → ℕ) (xs ys : List Entry) → counted f (xs ++ ys) ≡ counted f xs + counted f ys
counted-append f [] ys = let e : counted f ([] ++ ys) ≡ counted f ys = refl in let z : counted f [] ≡ 0 = refl in omega arith
counted-append f (x ∷ xs) ys = let e = counted-append f xs ys in omega arith

pub goes_on : (old new : Token) (es : List Entry) → old.prepared ≡ [] → Does old new es → GoesOn old new (counted enters es) (counted locks es)
goes_on old new es none d = record { number = d.number; seen = d.seen; enters_are = of enters; locks_are = of locks }
  where
    of : (f : Act → ℕ) → counted f (own new.number new.seen) ≡ counted f (own old.number old.seen) + counted f es
    of f = ap (λ (n : ℕ). counted f (own n new.seen)) d.number
        ∙ (ap (counted f) d.own ∙ (ap (λ (p : List Entry). counted f (own old.number old.seen ++ (p ++ es))) none ∙ counted-append f (own old.number old.seen) es))

pub goes_on_trans : (a b c : Token) (e l e' l' : ℕ) → GoesOn a b e l → GoesOn b c e' l' → GoesOn a c (e + e') (l + l')
goes_on_trans a b c e l e' l' x y =
    let x1 = x.enters_are in let y1 = y.enters_are in let x2 = x.locks_are in let y2 = y.locks_are in
    record { number = y.number ∙ x.number; seen = prefix_trans a.seen b.seen c.seen x.seen y.seen; enters_are = omega arith; locks_are = omega arith }

pub goes_on_self : (a : Token) → GoesOn a a 0 0
goes_on_self a = record { number = refl; seen = prefix_self a.seen; enters_are = omega arith; locks_are = omega arith }

---- A call that begins itself, as no Begin is prepared

-- a caller that stands so is settled
record IsRested (x : Stance) (i : Bool) : Type 0 where
  pub inside : x.inside ≡ i
  pub out : x.out ≡ []
  pub free : x.free ≡ true
  pub searched : x.searched ≡ false
  pub drawn : x.drawn ≡ false

module _ (h : HeapToken) (old new : Token) (i : Bool) (k : IsSettled h old i) where
  settled : (es : List Entry) (i' : Bool) (x : Stance) → IsRested x i' → Does old new es → Stands new x → IsSettled h new i'
  settled es i' x r d s = record {
    table = d.table ∙ k.table;
    opening = d.opening ∙ k.opening;
    inside_is = s.inside ∙ r.inside;
    prepared = s.prepared;
    pending = s.pending;
    out = s.out ∙ r.out;
    whole = s.whole;
    free = s.free ∙ r.free;
    searched = s.searched ∙ r.searched;
    drawn = s.drawn ∙ r.drawn;
  }

  -- where the call begins
  rested : (call : Call) (b : Bool) → IsRested (stance (cond b old (with_prepared old (acts.Begin call)))) i
  rested call true = record { inside = k.inside_is; out = k.out; free = k.free; searched = k.searched; drawn = k.drawn }
  rested call false = record { inside = k.inside_is; out = k.out; free = k.free; searched = refl; drawn = refl }

  pub begins_is : (call : Call) → begins old call ≡ entry old.number (acts.Begin call) ∷ []
  begins_is call = ap (λ (b : Bool). cond b [] (entry old.number (acts.Begin call) ∷ [])) k.pending

  depth_is : (call : Call) → (begun_with old call).depth ≡ old.depth
  depth_is call = ap (λ (b : Bool). (cond b old (with_prepared old (acts.Begin call))).depth) k.pending

  pub has_entered : HasEntered old new (stance (begun_with old calls.Stay)) (begins old calls.Stay ++ entry old.number acts.Enter ∷ []) → IsSettled h new true × (new.depth ≡ old.depth) × GoesOn old new 1 0
  has_entered x =
      let d = subst (λ (b : List Entry). Does old new (b ++ entry old.number acts.Enter ∷ [])) (begins_is calls.Stay) x.runs.does in
      let r = rested calls.Stay old.pending in (
        settled (begins old calls.Stay ++ entry old.number acts.Enter ∷ []) true (record (stance (begun_with old calls.Stay)) { fresh = false; inside = true }) (record { inside = refl; out = r.out; free = r.free; searched = r.searched; drawn = r.drawn }) x.runs.does x.stands,
        x.stands.depth ∙ depth_is calls.Stay,
        goes_on old new (entry old.number (acts.Begin calls.Stay) ∷ entry old.number acts.Enter ∷ []) k.prepared d,
      )

  pub has_turned : i ≡ false → (what : What) (word : ℕ) → HasTurnedBack old new (stance (begun_with old calls.Stay)) what word (begins old calls.Stay ++ entry old.number (acts.Blocked whats.Gate word) ∷ entry old.number acts.Leave ∷ [])
      → IsSettled h new false × (new.depth ≡ old.depth) × GoesOn old new 0 0
  has_turned out what word x =
      let es : List Entry = entry old.number (acts.Begin calls.Stay) ∷ entry old.number (acts.Blocked whats.Gate word) ∷ entry old.number acts.Leave ∷ [] in
      let d = subst (λ (b : List Entry). Does old new (b ++ entry old.number (acts.Blocked whats.Gate word) ∷ entry old.number acts.Leave ∷ [])) (begins_is calls.Stay) x.runs.does in
      let r = rested calls.Stay old.pending in (
        settled es false (record (stance (begun_with old calls.Stay)) { fresh = false }) (record { inside = r.inside ∙ out; out = r.out; free = r.free; searched = r.searched; drawn = r.drawn }) d x.stands,
        x.stands.depth ∙ depth_is calls.Stay,
        goes_on old new es k.prepared d,
      )

  pub has_left : HasLeft old new (entry old.number acts.Leave ∷ []) → IsSettled h new false × (new.depth ≡ old.depth) × GoesOn old new 0 0
  has_left x =
      let es : List Entry = entry old.number acts.Leave ∷ [] in (
        settled es false (record (stance old) { inside = false }) (record { inside = refl; out = k.out; free = k.free; searched = k.searched; drawn = k.drawn }) x.runs.does x.stands,
        x.stands.depth,
        goes_on old new es k.prepared x.runs.does,
      )

  -- once more is a lock of its own only at depth 0
  abbrev pub first : ℕ → ℕ
  first zero = 1
  first (suc d) = 0

  -- .. and leaves the caller settled
  still : i ≡ false → (d : ℕ) → IsSettled h (record old { depth = d }) false
  still out d = record {
    table = k.table;
    opening = k.opening;
    inside_is = k.inside_is ∙ out;
    prepared = k.prepared;
    pending = k.pending;
    out = k.out;
    whole = k.whole;
    free = k.free;
    searched = k.searched;
    drawn = k.drawn;
  }

  same_list : (d : ℕ) → GoesOn old (record old { depth = d }) 0 0
  same_list d = record { number = refl; seen = prefix_self old.seen; enters_are = omega arith; locks_are = omega arith }

  pub has_locked : i ≡ false → (d : ℕ) → old.depth ≡ d → IsDeeper old new → IsSettled h new false × (new.depth ≡ d + 1) × GoesOn old new 0 (first d)
  has_locked out zero e x =
      let f = x.first e in
      let es : List Entry = entry old.number (acts.Begin calls.Lock) ∷ entry old.number acts.Lock ∷ [] in
      let d = subst (λ (b : List Entry). Does old new (b ++ entry old.number acts.Lock ∷ [])) (begins_is calls.Lock) f.reveals.does in
      let r = rested calls.Lock old.pending in (
        settled es false (record (stance (begun_with old calls.Lock)) { locked = true; depth = 1 }) (record { inside = r.inside ∙ out; out = r.out; free = r.free; searched = r.searched; drawn = r.drawn }) d f.stands,
        f.stands.depth,
        goes_on old new es k.prepared d,
      )
  has_locked out (suc d) e x =
      let a = x.again (λ z. let no : ⊥ = cc (e, z) in no) in
      subst (λ (t : Token). IsSettled h t false × (t.depth ≡ suc d + 1) × GoesOn old t 0 0) (sym a.1) (still out (old.depth + 1), ap (λ (x : ℕ). x + 1) e, same_list (old.depth + 1))

  pub has_missed : (b : Busy) → i ≡ false → IsRefusedLock old new (lock_nos.Busy b) → IsSettled h new false × (new.depth ≡ old.depth) × GoesOn old new 0 0
  has_missed b out x =
      let es : List Entry = entry old.number (acts.Begin calls.Lock) ∷ entry old.number (acts.Blocked whats.Gate b.word) ∷ [] in
      let d = subst (λ (l : List Entry). Does old new (l ++ entry old.number (acts.Blocked whats.Gate b.word) ∷ [])) (begins_is calls.Lock) x.1.runs.does in
      let r = rested calls.Lock old.pending in (
        settled es false (stance (begun_with old calls.Lock)) (record { inside = r.inside ∙ out; out = r.out; free = r.free; searched = r.searched; drawn = r.drawn }) d x.1.stands,
        x.1.stands.depth ∙ depth_is calls.Lock,
        goes_on old new es k.prepared d,
      )

  pub has_given : i ≡ false → (d : ℕ) → old.depth ≡ d + 1 → {within : Bool} → IsShallower within old new → IsSettled h new false × (new.depth ≡ d) × GoesOn old new 0 0
  has_given out zero e {within} x = of_begins (old.pending || within) (x.last e)
    where
      of_begins : (b : Bool) → HasUnlocked old new (stance (cond b old (with_prepared old (acts.Begin calls.Unlock)))) (cond b [] (entry old.number (acts.Begin calls.Unlock) ∷ []) ++ entry old.number acts.Unlock ∷ []) → IsSettled h new false × (new.depth ≡ 0) × GoesOn old new 0 0
      of_begins true u =
          let es : List Entry = entry old.number acts.Unlock ∷ [] in
          (settled es false (record (stance old) { depth = 0 }) (record { inside = k.inside_is ∙ out; out = k.out; free = k.free; searched = k.searched; drawn = k.drawn }) u.runs.does u.stands, u.stands.depth, goes_on old new es k.prepared u.runs.does)
      of_begins false u =
          let es : List Entry = entry old.number (acts.Begin calls.Unlock) ∷ entry old.number acts.Unlock ∷ [] in
          let r = rested calls.Unlock false in
          (settled es false (record (stance (with_prepared old (acts.Begin calls.Unlock))) { depth = 0 }) (record { inside = k.inside_is ∙ out; out = r.out; free = r.free; searched = r.searched; drawn = r.drawn }) u.runs.does u.stands, u.stands.depth, goes_on old new es k.prepared u.runs.does)
  has_given out (suc d) e {within} x =
      let a = x.again (λ z. let no : ⊥ = omega arith in no) in
      subst (λ (t : Token). IsSettled h t false × (t.depth ≡ suc d) × GoesOn old t 0 0) (sym a) (still out (old.depth - 1), omega arith, same_list (old.depth - 1))
