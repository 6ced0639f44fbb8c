-- A call from its Begin to its answer.
use Rattle.std.proofs.Common.{◌≡◌, ℕ, Bool, true, false, not, cond, List, [], ◌∷◌, ◌++◌, Some, refl, sym, ap, ◌∙◌, subst}
use Rattle.std.specs.List.{list_all}
use Rattle.std.proofs.lemmas.List.{append-nil}
use Rattle.std.proofs.lemmas.Bool.{and_from, and_parts}
use Rattle.heap_model.specs.declared.Act.{Act}
use Rattle.heap_model.specs.declared.Act.TheVariants as acts
use Rattle.heap_model.specs.declared.Call.{Call}
use Rattle.heap_model.specs.declared.Entry.{Entry}
use Rattle.heap_model.specs.State.{Setting}
use Rattle.heap_model.specs.CallState.{CallState}
use Rattle.heap_model.specs.Legal.{is_begin, call_after}
use Rattle.heap_model.specs.History.{own, configuration_of}
use Rattle.heap_model.specs.Shape.{Answer, HasActs, shape_of, is_left_out}
use Rattle.call_laws.specs.Within.{by_all, IsWithin}
use Rattle.call_laws.proofs.Told.{own_acts_answer}
use Rattle.claim_rule.specs.Entries.{IsLegalWith}
use Rattle.claim_rule.proofs.Lists.{own-append}
use Rattle.heap_gate.specs.Token.{Token, Always, now, IsStanding}
use Rattle.call_parts.specs.Calls.{IsReadyToCall, GoesOn, Answers, IsNew, Brings}
use Rattle.call_parts.proofs.Own.{call_from}
use Rattle.call_parts.proofs.Joining.{goes_then, called_since, setting_before}

---- Shapes of lists that are joined

shape_joined : (b : Bool) (x : Act) (xs ys zs : List Act) → zs ≡ xs ++ ys → cond b zs (x ∷ zs) ≡ cond b xs (x ∷ xs) ++ ys
shape_joined true x xs ys zs e = e
shape_joined false x xs ys zs e = ap (λ (l : List Act). x ∷ l) e

pub shape-append : (xs ys : List Act) → shape_of (xs ++ ys) ≡ shape_of xs ++ shape_of ys
shape-append [] ys = refl
shape-append (x ∷ xs) ys = shape_joined (is_left_out x) x (shape_of xs) (shape_of ys) (shape_of (xs ++ ys)) (shape-append xs ys)

abbrev pub none_begins : List Act → Bool
none_begins rest = list_all (λ act. not (is_begin act)) rest

pub none_begins-append : (xs ys : List Act) → none_begins xs ≡ true → none_begins ys ≡ true → none_begins (xs ++ ys) ≡ true
none_begins-append [] ys h k = k
none_begins-append (x ∷ xs) ys h k =
    let p = and_parts (not (is_begin x)) (none_begins xs) h in
    and_from (not (is_begin x)) (none_begins (xs ++ ys)) p.0 (none_begins-append xs ys p.1 k)

---- A call that is new

-- the act leaves a call as new as it was
abbrev pub keeps_new : Act → Bool
keeps_new acts.Enter = true
keeps_new acts.Leave = true
keeps_new (acts.Blocked what word) = true
keeps_new (acts.TakeLock what) = true
keeps_new (acts.GiveLock what) = true
keeps_new (acts.Active bucket) = true
keeps_new (acts.Sized a size) = true
keeps_new (acts.NotLive a) = true
keeps_new (acts.Load word value) = true
keeps_new (acts.Store word value) = true
keeps_new _ = false

new_on : (s : Setting) (n : ℕ) (k : CallState) (call : Call) (act : Act) → keeps_new act ≡ true → IsNew k call → IsNew (call_after s n k act) call
new_on s n k call acts.Enter h x = record { call_is = x.call_is; placed = x.placed; taken = x.taken; no_span = x.no_span; search = x.search }
new_on s n k call acts.Leave h x = x
new_on s n k call (acts.Blocked what word) h x = x
new_on s n k call (acts.TakeLock what) h x = x
new_on s n k call (acts.GiveLock what) h x = x
new_on s n k call (acts.Active bucket) h x = x
new_on s n k call (acts.Sized a size) h x = x
new_on s n k call (acts.NotLive a) h x = x
new_on s n k call (acts.Load word value) h x = x
new_on s n k call (acts.Store word value) h x = x
new_on s n k call _ h x = absurd (Rattle.std.proofs.lemmas.Bool.false≢true h)

pub still_new : (s : Setting) (n : ℕ) (k : CallState) (call : Call) (added : List Act) → list_all keeps_new added ≡ true → IsNew k call → IsNew (call_from s n k (by_all n added)) call
still_new s n k call [] h x = x
still_new s n k call (act ∷ rest) h x =
    let p = and_parts (keeps_new act) (list_all keeps_new rest) h in
    still_new s n (call_after s n k act) call rest p.1 (new_on s n k call act p.0 x)

-- a call that has just begun is new
pub begun_new : (s : Setting) (n : ℕ) (k : CallState) (call : Call) → IsNew (call_after s n k (acts.Begin call)) call
begun_new s n k call = record { call_is = refl; placed = refl; taken = refl; no_span = refl; search = refl }

-- .. and stays so up to an act that makes it old
pub new_since : (a b : Token) (call : Call) (added : List Act) → GoesOn a b added → a.prepared ≡ [] → b.prepared ≡ [] → list_all keeps_new added ≡ true
    → Always a (λ s. IsNew ((now s a).now.calls a.number) call) → Always b (λ s. IsNew ((now s b).now.calls b.number) call)
new_since a b call added x ea eb keeps is s q =
    let by_a = ap (Rattle.claim_rule.specs.Entries.is_by a.number) ea in let by_b = ap (Rattle.claim_rule.specs.Entries.is_by b.number) eb in
    subst (λ (k : CallState). IsNew k call) (sym (called_since s a b added x by_a by_b)) (still_new s a.number ((now s a).now.calls a.number) call added keeps (is s (setting_before a b added x s q)))

-- .. from its Begin
pub new_from_begin : (a b : Token) (call : Call) (added : List Act) → GoesOn a b (acts.Begin call ∷ added) → a.prepared ≡ [] → b.prepared ≡ [] → list_all keeps_new added ≡ true
    → Always b (λ s. IsNew ((now s b).now.calls b.number) call)
new_from_begin a b call added x ea eb keeps s q =
    let by_a = ap (Rattle.claim_rule.specs.Entries.is_by a.number) ea in let by_b = ap (Rattle.claim_rule.specs.Entries.is_by b.number) eb in
    let k = (now s a).now.calls a.number in
    subst (λ (z : CallState). IsNew z call) (sym (called_since s a b (acts.Begin call ∷ added) x by_a by_b))
    (still_new s a.number (call_after s a.number k (acts.Begin call)) call added keeps (begun_new s a.number k call))

---- Its answer

-- The parts of a call, from a Begin that was prepared on, answer it.
pub answers : (a b : Token) (call : Call) (answer : Answer) (rest : List Act) → IsReadyToCall a → GoesOn a b (acts.Begin call ∷ rest) → none_begins rest ≡ true → HasActs call answer (shape_of rest)
    → IsLegalWith b.opening b.roll b.seen → IsReadyToCall b → Answers a b call answer rest
answers a b call answer rest ra x nb shape legal rb = record {
  table = x.table;
  opening = x.opening;
  number = x.number;
  depth = x.depth;
  roll = x.roll;
  seen = x.seen;
  own = own_is;
  answered = λ s q. own_acts_answer s a.number (configuration_of s a.seen) x.seen.0 call answer rest later nb shape;
  legal = legal;
  ready = rb;
}
  where
    own_is : own a.number b.seen ≡ own a.number a.seen ++ by_all a.number (acts.Begin call ∷ rest)
    own_is =
        (λ j. own (sym x.number j) b.seen) ∙ (sym (append-nil (own b.number b.seen)) ∙ (ap (λ (l : List Entry). own b.number b.seen ++ l) (sym rb.prepared)
        ∙ (x.own ∙ ((λ j. (own a.number a.seen ++ ra.prepared j) ++ by_all a.number (acts.Begin call ∷ rest)) ∙ (λ j. append-nil (own a.number a.seen) j ++ by_all a.number (acts.Begin call ∷ rest))))))

    later : own a.number x.seen.0 ≡ by_all a.number (acts.Begin call ∷ rest)
    later = cancel (own a.number a.seen) (own a.number x.seen.0) (by_all a.number (acts.Begin call ∷ rest)) (sym (own-append a.number a.seen x.seen.0) ∙ (ap (own a.number) x.seen.1 ∙ own_is))
      where
        cancel : {A : Type 0} (xs ys zs : List A) → xs ++ ys ≡ xs ++ zs → ys ≡ zs
        cancel [] ys zs e = e
        cancel (z ∷ xs) ys zs e = cancel xs ys zs (cc e)

-- A part that answers the call, behind parts that no shape shows, and the step that leaves.
pub answers_then : (a b d e : Token) (call : Call) (answer : Answer) (first : List Act) → IsReadyToCall a → GoesOn a b (acts.Begin call ∷ first) → none_begins first ≡ true → shape_of first ≡ []
    → (x : Brings b d call answer) → GoesOn d e (acts.Leave ∷ []) → IsLegalWith e.opening e.roll e.seen → IsReadyToCall e → Answers a e call answer (first ++ (x.1.added ++ acts.Leave ∷ []))
answers_then a b d e call answer first ra g nb none x l legal re =
    let y = x.1 in
    answers a e call answer (first ++ (y.added ++ acts.Leave ∷ [])) ra (goes_then a b e (acts.Begin call ∷ first) (y.added ++ acts.Leave ∷ []) g (goes_then b d e y.added (acts.Leave ∷ []) y.goes l))
    (none_begins-append first (y.added ++ acts.Leave ∷ []) nb (none_begins-append y.added (acts.Leave ∷ []) y.no_begin refl))
    (subst (HasActs call answer) (sym (shape-append first (y.added ++ acts.Leave ∷ []) ∙ ((λ j. none j ++ shape_of (y.added ++ acts.Leave ∷ [])) ∙ (shape-append y.added (acts.Leave ∷ []) ∙ (append-nil (shape_of y.added) ∙ y.shape_is))))) x.2) legal re

---- Within its call

-- What the laws on entries ask of a caller that is within its call.
pub within : (c : Token) (call : Call) → IsStanding c → c.inside ≡ true → c.call ≡ Some call → c.whole ≡ true → Always c (λ s. IsWithin (now s c) c.number call)
within c call st i is w s q = let a = st s q in record { entered = a.entered ∙ i; call_is = a.call ∙ is; demand = a.demand w }
