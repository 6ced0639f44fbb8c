-- The token of a caller behind what it prepares, and behind the steps of a part.
use Rattle.std.proofs.Common.{◌≡◌, ℕ, ◌+◌, ◌<◌, true, false, not, ◌&&◌, ◌==◌, List, [], ◌∷◌, ◌++◌, length, get_or, take, drop, Some, refl, sym, ap, ◌∙◌, subst, arith, eq-eqb, length-append}
use Rattle.std.proofs.lemmas.List.{take-append-drop, drop_more}
use Rattle.std.proofs.lemmas.Bool.{and_from, and_parts, true≢false}
use Rattle.heap_model.specs.declared.Act.{Act}
use Rattle.heap_model.specs.declared.Act.TheVariants as acts
use Rattle.heap_model.specs.declared.Call.{Call}
use Rattle.heap_model.specs.declared.Entry.{Entry}
use Rattle.heap_model.specs.declared.What.{What}
use Rattle.heap_model.specs.State.{Setting}
use Rattle.heap_model.specs.CallState.{Configuration}
use Rattle.heap_model.specs.Layers.{LayerState}
use Rattle.heap_model.specs.Legal.{may_follow, after, is_begin}
use Rattle.heap_model.specs.History.{configuration_after, configuration_of}
use Rattle.heap_model.specs.Agreement.{is_stable}
use Rattle.heap_model.specs.Shape.{shape_of}
use Rattle.claim_rule.specs.Entries.{IsSettingOf, entry, leaves_words, may_prepare, are_prepared}
use Rattle.claim_rule.specs.Home.{slot_of}
use Rattle.claim_rule.proofs.Lists.{after-append}
use Rattle.lock_steps.specs.Locks.{owed_with}
use Rattle.heap_gate.specs.Token.{Token, now}
use Rattle.heap_gate.specs.Calls.{with_prepared, rested, Runs, Stands, stance, HasTaken, HasMissed, HasGiven}
use Rattle.call_laws.specs.Within.{by_all}
use Rattle.call_parts.specs.Calls.{IsServing, Makes}
use Rattle.call_parts.proofs.Joining.{goes_none, goes_does, goes_prepared, goes_rested, goes_then}
use Rattle.call_parts.proofs.Serving.{none_begins}
use Rattle.call_parts.specs.Entries.{with_all, IsSteady, HasAdded, HasEnded}

---- What is prepared

pub now_more : (s : Setting) (c : Token) (act : Act) → now s (with_prepared c act) ≡ after s (now s c) (entry c.number act)
now_more s c act = after-append s (configuration_of s c.seen) c.prepared (entry c.number act ∷ [])

pub now_all : (s : Setting) (c : Token) (rest : List Act) → now s (with_all c rest) ≡ configuration_after s (now s c) (by_all c.number rest)
now_all s c [] = refl
now_all s c (act ∷ rest) = now_all s (with_prepared c act) rest ∙ ap (λ (m : Configuration). configuration_after s m (by_all c.number rest)) (now_more s c act)

pub prepares : (s : Setting) (m : Configuration) (c : ℕ) (act : Act) → is_stable m c act ≡ true → leaves_words m c act ≡ true → may_follow s m (entry c act) ≡ true → may_prepare s m c act ≡ true
prepares s m c act st q r = and_from (is_stable m c act && leaves_words m c act) (may_follow s m (entry c act)) (and_from (is_stable m c act) (leaves_words m c act) st q) r

pub one_prepared : (s : Setting) (m : Configuration) (c : ℕ) (act : Act) (es : List Entry) → may_prepare s m c act ≡ true → are_prepared s (after s m (entry c act)) c es ≡ true → are_prepared s m c (entry c act ∷ es) ≡ true
one_prepared s m c act es h k = and_from ((c == c) && may_prepare s m c act) (are_prepared s (after s m (entry c act)) c es) (and_from (c == c) (may_prepare s m c act) (eq-eqb c c refl) h) k

-- the next one may be prepared behind those before it
pub next_prepared : (s : Setting) (c : Token) (first : List Act) (act : Act) (rest : List Act) → are_prepared s (now s c) c.number (by_all c.number (first ++ act ∷ rest)) ≡ true
    → may_prepare s (now s (with_all c first)) (with_all c first).number act ≡ true
next_prepared s c [] act rest h = (and_parts (c.number == c.number) (may_prepare s (now s c) c.number act) (and_parts _ _ h).0).1
next_prepared s c (a ∷ first) act rest h =
    next_prepared s (with_prepared c a) first act rest (subst (λ (m : Configuration). are_prepared s m c.number (by_all c.number (first ++ act ∷ rest)) ≡ true) (sym (now_more s c a)) (and_parts _ _ h).1)

pub all_then_one : (c : Token) (first : List Act) (act : Act) → with_all c (first ++ act ∷ []) ≡ with_prepared (with_all c first) act
all_then_one c [] act = refl
all_then_one c (a ∷ first) act = all_then_one (with_prepared c a) first act

pub length_all : (c : Token) (rest : List Act) → length (with_all c rest).prepared ≡ length c.prepared + length rest
length_all c [] = omega arith
length_all c (act ∷ rest) =
    let more = length_all (with_prepared c act) rest in
    let one = length-append c.prepared (entry c.number act ∷ []) in
    omega (arith, more, one)

pub setting_before_all : (s : Setting) (c : Token) (rest : List Act) → IsSettingOf (with_all c rest).opening (with_all c rest).roll s → IsSettingOf c.opening c.roll s
setting_before_all s c [] q = q
setting_before_all s c (act ∷ rest) q = setting_before_all s (with_prepared c act) rest q

-- the entry of a list at a number, behind those before it
pub listed : (rest : List Act) (i : ℕ) (d : Act) → i < length rest → rest ≡ take i rest ++ get_or rest i d ∷ drop (i + 1) rest
listed rest i d lt = sym (take-append-drop i rest) ∙ ap (λ (ys : List Act). take i rest ++ ys) (drop_more rest i d lt)

---- Where the caller stands

pub steady_self : (c : Token) → IsSteady c c
steady_self c = record { call = refl; fresh = refl; inside = refl; searched = refl; drawn = refl; owes = refl }

pub steady_then : (a b c : Token) → IsSteady a b → IsSteady b c → IsSteady a c
steady_then a b c x y = record {
  call = y.call ∙ x.call;
  fresh = y.fresh ∙ x.fresh;
  inside = y.inside ∙ x.inside;
  searched = y.searched ∙ x.searched;
  drawn = y.drawn ∙ x.drawn;
  owes = y.owes ∙ x.owes;
}

steady_one : (c : Token) (act : Act) → not (is_begin act) ≡ true → IsSteady c (with_prepared c act)
steady_one c (acts.Begin call) h = absurd (true≢false (sym h))
steady_one c _ h = record { call = refl; fresh = refl; inside = refl; searched = refl; drawn = refl; owes = refl }

pub added_none : (c : Token) → HasAdded c c []
added_none c = record { goes = goes_none c; steady = steady_self c }

pub added_then : (a b c : Token) (xs ys : List Act) → HasAdded a b xs → HasAdded b c ys → HasAdded a c (xs ++ ys)
added_then a b c xs ys x y = record { goes = goes_then a b c xs ys x.goes y.goes; steady = steady_then a b c x.steady y.steady }

pub added_one : (c : Token) (act : Act) → not (is_begin act) ≡ true → HasAdded c (with_prepared c act) (act ∷ [])
added_one c act h = record { goes = goes_prepared c act; steady = steady_one c act h }

pub added_all : (c : Token) (rest : List Act) → none_begins rest ≡ true → HasAdded c (with_all c rest) rest
added_all c [] h = added_none c
added_all c (act ∷ rest) h =
    let p = and_parts (not (is_begin act)) (none_begins rest) h in
    added_then c (with_prepared c act) (with_all c (act ∷ rest)) (act ∷ []) rest (added_one c act p.0) (added_all (with_prepared c act) rest p.1)

pub added_rested : (c : Token) → HasAdded c (rested c) []
added_rested c = record { goes = goes_rested c; steady = record { call = refl; fresh = refl; inside = refl; searched = refl; drawn = refl; owes = refl } }

---- Steps

pub added_runs : (a b : Token) (rest : List Act) → Runs a b (by_all a.number rest) → Stands b (stance a) → HasAdded a b rest
added_runs a b rest x s = record {
  goes = goes_does a b rest x.does s.depth;
  steady = record { call = s.call; fresh = s.fresh; inside = s.inside; searched = s.searched; drawn = s.drawn; owes = s.owes };
}

-- a lock was taken, of a caller that owed nothing
pub added_taken : {T : Type 0} (tells : T → LayerState) (a b : Token) (what : What) (state : T) → owed_with what a.owes ≡ a.owes → HasTaken tells a b what state → HasAdded a b (acts.TakeLock what ∷ [])
added_taken tells a b what state e x =
    let s = x.stands in
    record {
      goes = goes_does a b (acts.TakeLock what ∷ []) x.reveals.does s.depth;
      steady = record { call = s.call; fresh = s.fresh; inside = s.inside; searched = s.searched; drawn = s.drawn; owes = s.owes ∙ e };
    }

-- .. or given back, behind more that is held
pub ended_given : (a b : Token) (what : What) (more : List ℕ) (rest : List Act) → HasGiven a b what (by_all a.number rest) → a.out ≡ slot_of what ∷ more → a.free ≡ true → HasEnded a b rest more
ended_given a b what more rest x e f =
    let s = x.stands more e in
    record {
      added = record {
        goes = goes_does a b rest x.runs.does s.depth;
        steady = record { call = s.call; fresh = s.fresh; inside = s.inside; searched = s.searched; drawn = s.drawn; owes = s.owes };
      };
      out_is = s.out;
      whole = s.whole;
      free = s.free ∙ f;
      pending = s.pending;
      prepared = s.prepared;
    }

pub ended_missed : (a b : Token) (what found : What) (word : ℕ) → HasMissed a b what found word → a.out ≡ [] → a.free ≡ true → HasEnded a b (acts.Blocked what word ∷ []) []
ended_missed a b what found word x e f =
    let s = x.stands in
    record {
      added = added_runs a b (acts.Blocked what word ∷ []) x.runs s;
      out_is = s.out ∙ e;
      whole = s.whole;
      free = s.free ∙ f;
      pending = s.pending;
      prepared = s.prepared;
    }

pub ended_then : (a b c : Token) (xs ys : List Act) (out : List ℕ) → HasAdded a b xs → HasEnded b c ys out → HasEnded a c (xs ++ ys) out
ended_then a b c xs ys out x y = record { added = added_then a b c xs ys x y.added; out_is = y.out_is; whole = y.whole; free = y.free; pending = y.pending; prepared = y.prepared }

---- The part

pub makes : (a b : Token) (call own_call : Call) (out : List ℕ) (added shape : List Act) → IsServing a own_call out → a.call ≡ Some call → HasEnded a b added [] → none_begins added ≡ true → shape_of added ≡ shape
    → Makes a b call shape
makes a b call own_call out added shape v e x nb sh =
    let y = x.added.steady in
    record {
      added = added;
      goes = x.added.goes;
      no_begin = nb;
      shape_is = sh;
      stands = record {
        call_is = y.call ∙ e;
        fresh = y.fresh ∙ v.fresh;
        inside = y.inside ∙ v.inside;
        out = x.out_is;
        whole = x.whole;
        free = x.free;
        pending = x.pending;
        prepared = x.prepared;
        drawn = (y.searched ∙ v.searched) ∙ sym (y.drawn ∙ v.drawn);
        owes = y.owes ∙ v.owes;
      };
    }
