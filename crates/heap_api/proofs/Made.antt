-- What the history has of a call that was tried until it was answered.
use Rattle.std.proofs.Common.{◌≡◌, ℕ, List, [], ◌∷◌, ◌++◌, refl, sym, ap, ◌∙◌, subst, append_assoc}
use Rattle.std.proofs.lemmas.List.{append-nil}
use Rattle.std.specs.List.{AllByRecursion}
use mathlib.Core.List.{IsPrefix}
use Rattle.heap_model.specs.declared.Call.{Call}
use Rattle.heap_model.specs.declared.Opening.{Opening}
use Rattle.heap_model.specs.declared.Reply.{Reply}
use Rattle.heap_model.specs.CallState.{Configuration}
use Rattle.heap_model.specs.History.{configuration_of, first_configuration}
use Rattle.heap_model.specs.Moments.{Moment, moments}
use Rattle.heap_model.specs.Served.{MetBusy, GetsReply, in_line}
use Rattle.heap_model.specs.Shape.{Answer, Replied, WasBusy}
use Rattle.heap_model.specs.State.{Setting}
use Rattle.heap_model.proofs.Moments.{moments-append}
use Rattle.claim_rule.specs.Entries.{IsSettingOf}
use Rattle.claim_rule.proofs.Lists.{after-append, setting_less}
use Rattle.heap_gate.specs.Token.{Token, Always}
use Rattle.heap_now.specs.Calls.{Gets}
use Rattle.heap_api.specs.AtLast.{IsTurnedBack, AreTries, GetsAtLast, Follows, IsMade}

---- Lists that go on

-- a beginning of a beginning
abbrev pub begins_all : {A : Type 0} (xs ys zs : List A) → IsPrefix xs ys → IsPrefix ys zs → IsPrefix xs zs
begins_all xs ys zs p q = (p.0 ++ q.0, sym (append_assoc xs p.0 q.0) ∙ (ap (λ w. w ++ q.0) p.1 ∙ q.1))

abbrev pub follows_self : (a : Token) → Follows a a
follows_self a = record { table = refl; opening = refl; number = refl; depth = refl; roll = ([], append-nil a.roll); seen = ([], append-nil a.seen) }

abbrev pub follows_on : (a b c : Token) → Follows a b → Follows b c → Follows a c
follows_on a b c x y = record {
  table = y.table ∙ x.table;
  opening = y.opening ∙ x.opening;
  number = y.number ∙ x.number;
  depth = y.depth ∙ x.depth;
  roll = begins_all a.roll b.roll c.roll x.roll y.roll;
  seen = begins_all a.seen b.seen c.seen x.seen y.seen;
}

abbrev pub follows_call : (a b : Token) (call : Call) (answer : Answer) → Gets a b call answer → Follows a b
follows_call a b call answer x =
    let y = x.answers in
    record { table = y.table; opening = y.opening; number = y.number; depth = y.depth; roll = y.roll; seen = y.seen }

-- a setting of more callers is one of fewer
pub setting_follows : (a b : Token) → Follows a b → (s : Setting) → IsSettingOf b.opening b.roll s → IsSettingOf a.opening a.roll s
setting_follows a b x s q = setting_less a.opening a.roll b.roll s x.roll (subst (λ (o : Opening). IsSettingOf o b.roll s) x.opening q)

-- the moments of a part and of the next
pub moments_on : (s : Setting) (n : ℕ) (a b c : Token) (p : IsPrefix a.seen b.seen) (q : IsPrefix b.seen c.seen)
    → moments s n (configuration_of s a.seen) (p.0 ++ q.0) ≡ moments s n (configuration_of s a.seen) p.0 ++ moments s n (configuration_of s b.seen) q.0
moments_on s n a b c p q =
    moments-append s n (configuration_of s a.seen) p.0 q.0
    ∙ ap (λ (m : Configuration). moments s n (configuration_of s a.seen) p.0 ++ moments s n m q.0) (sym (after-append s first_configuration a.seen p.0) ∙ ap (configuration_of s) p.1)

---- Tries

record AreBusy (s : Setting) (n : ℕ) (call : Call) (xs : List Moment) : Type 0 where
  busy : List (List Moment)
  are : AllByRecursion (MetBusy s n call) busy
  all : xs ≡ in_line busy

record HasTried (a b : Token) (call : Call) : Type 0 where
  follows : Follows a b
  made : Always b (λ s. AreBusy s a.number call (moments s a.number (configuration_of s a.seen) follows.seen.0))

tried_none : (a b : Token) (call : Call) → b ≡ a → HasTried a b call
tried_none a b call e = subst (λ (z : Token). HasTried a z call) (sym e) (record { follows = follows_self a; made = λ s q. record { busy = []; are = tt; all = refl } })

-- one try, and then others
tried_then : (a c b : Token) (call : Call) → IsTurnedBack a c call → HasTried c b call → HasTried a b call
tried_then a c b call t later = record { follows = follows_on a c b first later.follows; made = made }
  where
    first : Follows a c
    first = follows_call a c call (WasBusy t.busy) t.gets

    made : Always b (λ s. AreBusy s a.number call (moments s a.number (configuration_of s a.seen) (t.gets.answers.seen.0 ++ later.follows.seen.0)))
    made s q =
        let x = subst (λ (n : ℕ). AreBusy s n call (moments s n (configuration_of s c.seen) later.follows.seen.0)) t.gets.answers.number (later.made s q) in
        let y = t.gets.answers.answered s (setting_follows c b later.follows s q) in
        record {
          busy = moments s a.number (configuration_of s a.seen) t.gets.answers.seen.0 ∷ x.busy;
          are = ((t.busy, y), x.are);
          all =
              moments_on s a.number a c b t.gets.answers.seen later.follows.seen ∙ ap (λ (l : List Moment). moments s a.number (configuration_of s a.seen) t.gets.answers.seen.0 ++ l) x.all;
        }

has_tried : (call : Call) (a : Token) (ts : List Token) (b : Token) → AreTries call a ts b → HasTried a b call
has_tried call a [] b e = tried_none a b call e
has_tried call a (next ∷ rest) b t = tried_then a next b call t.0 (has_tried call next rest b t.1)

---- All of it

pub made_at_last : (a c : Token) (call : Call) (reply : Reply) → GetsAtLast a c call reply → IsMade a c call reply
made_at_last a c call reply x = answered a x.before c (has_tried call a x.tries x.before x.turned) x.gets
  where
    answered : (a b c : Token) → HasTried a b call → Gets b c call (Replied reply) → IsMade a c call reply
    answered a b c first gets = record {
      follows = follows_on a b c first.follows (follows_call b c call (Replied reply) gets);
      tried = λ s q.
          let t = first.made s (setting_follows b c (follows_call b c call (Replied reply) gets) s q) in
          let own = subst (λ (n : ℕ). GetsReply s n call reply (moments s n (configuration_of s b.seen) gets.answers.seen.0)) first.follows.number (gets.answers.answered s q) in
          record {
            busy = t.busy;
            last = moments s a.number (configuration_of s b.seen) gets.answers.seen.0;
            are_busy = t.are;
            gets = own;
            all = moments_on s a.number a b c first.follows.seen gets.answers.seen ∙ ap (λ (l : List Moment). l ++ moments s a.number (configuration_of s b.seen) gets.answers.seen.0) t.all;
          };
      legal = gets.answers.legal;
      ready = record { ready = gets.answers.ready; owes = gets.owes };
    }
