-- Calls that complete in turn are one legal history.
use Rattle.std.proofs.Common.{◌≡◌, ℕ, Bool, true, false, ◌&&◌, List, [], ◌∷◌, ◌++◌, map, Option, Some, None, refl, sym, ap, ◌∙◌, subst}
use Rattle.std.proofs.lemmas.Bool.{and_from}
use Rattle.heap_model.specs.declared.Call.{Call}
use Rattle.heap_model.specs.declared.Reply.{Reply}
use Rattle.heap_model.specs.declared.Act.{Act}
use Rattle.heap_model.specs.declared.Act.TheVariants as acts
use Rattle.heap_model.specs.declared.Entry.{Entry}
use Rattle.heap_model.specs.State.{Setting}
use Rattle.heap_model.specs.CallState.{Configuration}
use Rattle.heap_model.specs.Legal.{may_follow, after}
use Rattle.heap_model.specs.History.{configuration_after, may_all_follow, first_configuration, is_nothing}
use Rattle.heap_model.specs.Alone.{alone, by_zero, configuration_by, may_all_come}
use Rattle.heap_model.specs.declared.Call.TheVariants as calls
use Rattle.heap_model.specs.declared.Reply.TheVariants as replies
use Rattle.heap_model.specs.Moments.{Moment, moments_by}
use Rattle.heap_model.specs.Served.{GetsReply, by_depth, depth_after, IsAsked, IsServed, AreServed}
use Rattle.heap_model.specs.Serial.{IsIdle}
use Rattle.serial_laws.specs.OneCall.{CompleteInTurn, end_of, InTurnIsSerial}

pub configuration-append : (s : Setting) (m : Configuration) (es fs : List Entry) → configuration_after s m (es ++ fs) ≡ configuration_after s (configuration_after s m es) fs
configuration-append s m [] fs = refl
configuration-append s m (e ∷ es) fs = configuration-append s (after s m e) es fs

and_again : (a b c : Bool) → (a && (b && c)) ≡ ((a && b) && c)
and_again true b c = refl
and_again false b c = refl

pub follow-append : (s : Setting) (m : Configuration) (es fs : List Entry) → may_all_follow s m (es ++ fs) ≡ (may_all_follow s m es && may_all_follow s (configuration_after s m es) fs)
follow-append s m [] fs = refl
follow-append s m (e ∷ es) fs =
    ap (λ b. may_follow s m e && b) (follow-append s (after s m e) es fs)
    ∙ and_again (may_follow s m e) (may_all_follow s (after s m e) es) (may_all_follow s (configuration_after s (after s m e) es) fs)

-- acts of caller 0 as entries
pub come_follow : (s : Setting) (m : Configuration) (rest : List Act) → may_all_follow s m (map by_zero rest) ≡ may_all_come s m rest
come_follow s m [] = refl
come_follow s m (act ∷ rest) = ap (λ b. may_follow s m (by_zero act) && b) (come_follow s (after s m (by_zero act)) rest)

pub come_to : (s : Setting) (m : Configuration) (rest : List Act) → configuration_after s m (map by_zero rest) ≡ configuration_by s m rest
come_to s m [] = refl
come_to s m (act ∷ rest) = come_to s (after s m (by_zero act)) rest

---- Calls in turn

-- the acts of these calls, one call behind another
abbrev pub in_turn : List Call → List (List Act) → List Act
in_turn (call ∷ calls) (rest ∷ rests) = (acts.Begin call ∷ rest) ++ in_turn calls rests
in_turn calls rests = []

come-append : (s : Setting) (m : Configuration) (xs ys : List Act) → may_all_come s m (xs ++ ys) ≡ (may_all_come s m xs && may_all_come s (configuration_by s m xs) ys)
come-append s m [] ys = refl
come-append s m (act ∷ xs) ys =
    ap (λ b. may_follow s m (by_zero act) && b) (come-append s (after s m (by_zero act)) xs ys)
    ∙ and_again (may_follow s m (by_zero act)) (may_all_come s (after s m (by_zero act)) xs) (may_all_come s (configuration_by s (after s m (by_zero act)) xs) ys)

by-append : (s : Setting) (m : Configuration) (xs ys : List Act) → configuration_by s m (xs ++ ys) ≡ configuration_by s (configuration_by s m xs) ys
by-append s m [] ys = refl
by-append s m (act ∷ xs) ys = by-append s (after s m (by_zero act)) xs ys

pub moments_by-append : (s : Setting) (m : Configuration) (xs ys : List Act) → moments_by s m (xs ++ ys) ≡ moments_by s m xs ++ moments_by s (configuration_by s m xs) ys
moments_by-append s m [] ys = refl
moments_by-append s m (act ∷ xs) ys =
    ap (λ (l : List Moment). record { before = m; act = act } ∷ l) (moments_by-append s (after s m (by_zero act)) xs ys)

-- one call that no depth answers is all that is asked
pub asks_one : (One : Call → Reply → List Moment → Type 0) (call : Call) (reply : Reply) (xs : List Moment) → ((depth : ℕ) → by_depth depth call ≡ None) → One call reply xs → IsAsked One call (reply ∷ []) xs
asks_one One (calls.WalkNext from) reply xs h k = let e : Some replies.NotLocked ≡ None = h 0 in absurd (let z : ⊥ = cc in z)
asks_one One call reply xs h k = (reply, refl, k)

-- what a list of calls that complete in turn is
pub record IsOneHistory (s : Setting) (m : Configuration) (calls : List Call) (replies : List Reply) (rests : List (List Act)) : Type 0 where
  pub legal : may_all_come s m (in_turn calls rests) ≡ true
  pub to : configuration_by s m (in_turn calls rests) ≡ end_of s m calls rests
  pub served : (depth : ℕ) → AreServed (GetsReply s 0) depth calls replies (moments_by s m (in_turn calls rests))
  pub idle : IsIdle (end_of s m calls rests)

pub one_history : (s : Setting) (m : Configuration) (calls : List Call) (replies : List Reply) (rests : List (List Act)) → IsIdle m → CompleteInTurn s m calls replies rests → IsOneHistory s m calls replies rests
one_history s m [] [] [] i h = record { legal = refl; to = refl; served = λ depth. (refl, refl); idle = i }
one_history s m [] [] (y ∷ ys) i h = absurd h
one_history s m [] (r ∷ rs) ys i h = absurd h
one_history s m (c ∷ cs) [] ys i h = absurd h
one_history s m (c ∷ cs) (r ∷ rs) [] i h = absurd h
one_history s m (c ∷ cs) (r ∷ rs) (y ∷ ys) i h =
    let first = acts.Begin c ∷ y in
    let next = configuration_by s m first in
    let rest = one_history s next cs rs ys h.0.idle h.1 in
    record {
      legal =
          come-append s m first (in_turn cs ys)
          ∙ and_from (may_all_come s m first) (may_all_come s next (in_turn cs ys)) h.0.legal rest.legal;
      to = by-append s m first (in_turn cs ys) ∙ rest.to;
      served = λ depth. (
        r ∷ [],
        rs,
        moments_by s m first,
        moments_by s next (in_turn cs ys),
        refl,
        moments_by-append s m first (in_turn cs ys),
        subst (λ (o : Option Reply). IsServed (GetsReply s 0) o c (r ∷ []) (moments_by s m first)) (sym (h.0.steps depth))
            (asks_one (GetsReply s 0) c r (moments_by s m first) h.0.steps h.0.answered),
        rest.served (depth_after depth c (r ∷ [])),
      );
      idle = rest.idle;
    }

pub first_idle : IsIdle first_configuration
first_idle = record { outside = refl; holds = refl; hands = refl; demand = refl }

pub serial : InTurnIsSerial
serial limits seed calls replies rests h =
    let s = alone limits seed in
    let rest = in_turn calls rests in
    let k = one_history s first_configuration calls replies rests first_idle h in
    let to : configuration_after s first_configuration (map by_zero rest) ≡ end_of s first_configuration calls rests = come_to s first_configuration rest ∙ k.to in
    let idle = subst IsIdle (sym to) k.idle in
    record {
      rest = rest;
      served = k.served 0;
      legal = and_from (may_all_follow s first_configuration (map by_zero rest)) _ (come_follow s first_configuration rest ∙ k.legal) (ap is_nothing idle.demand);
      idle = idle;
      ends = ap (λ (n : Configuration). n.state) (sym to);
    }
