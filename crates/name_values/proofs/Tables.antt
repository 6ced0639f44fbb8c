-- On tables of names.
use Rattle.std.proofs.Common.{◌≡◌, ℕ, zero, suc, ◌+◌, ◌<◌, List, [], ◌∷◌, ◌++◌, length, take, get_or, Option, Some, None, refl, sym, ap, ◌∙◌, arith}
use Rattle.std.specs.Prelude.{Result, Ok, Err, OnOk}
use Rattle.std.specs.Option.{unwrap_or, option_or}
use Rattle.heap_model.specs.declared.Reply.{Reply}
use Rattle.script_text.specs.declared.commands.Command.{Command}
use Rattle.script_text.specs.Calls.{call_of}
use Rattle.script_text.specs.Values.{Answered, assigned, value_at, last_assigned, last_of_round, last_of_rounds}
use Rattle.name_values.specs.declared.Assigned.{Assigned}
use Rattle.name_values.specs.Table.{NameTable, value_in, given_by, given_if, last_in, Tells, TellsRound}

pub later_first : (a b : Option ℕ) (old : ℕ) → unwrap_or a (unwrap_or b old) ≡ unwrap_or (option_or a b) old
later_first None b old = refl
later_first (Some x) b old = refl

pub or_none : (a : Option ℕ) → option_or a None ≡ a
or_none None = refl
or_none (Some x) = refl

pub or_all : (a b c : Option ℕ) → option_or (option_or a b) c ≡ option_or a (option_or b c)
or_all None b c = refl
or_all (Some x) b c = refl

---- Lists that go on

pub last_in-append : (xs ys : List Assigned) (name : ℕ) → last_in (xs ++ ys) name ≡ option_or (last_in ys name) (last_in xs name)
last_in-append [] ys name = sym (or_none (last_in ys name))
last_in-append (x ∷ xs) ys name =
    ap (λ (o : Option ℕ). option_or o (given_by x name)) (last_in-append xs ys name) ∙ or_all (last_in ys name) (last_in xs name) (given_by x name)

pub last_assigned-append : (xs ys : List Answered) (name : ℕ) → last_assigned (xs ++ ys) name ≡ option_or (last_assigned ys name) (last_assigned xs name)
last_assigned-append [] ys name = sym (or_none (last_assigned ys name))
last_assigned-append (x ∷ xs) ys name =
    ap (λ (o : Option ℕ). option_or o (assigned x.command x.reply name)) (last_assigned-append xs ys name)
    ∙ or_all (last_assigned ys name) (last_assigned xs name) (assigned x.command x.reply name)

pub last_of_rounds-append : (xs ys : List (List (List Answered))) (name : ℕ) → last_of_rounds (xs ++ ys) name ≡ option_or (last_of_rounds ys name) (last_of_rounds xs name)
last_of_rounds-append [] ys name = sym (or_none (last_of_rounds ys name))
last_of_rounds-append (x ∷ xs) ys name =
    ap (λ (o : Option ℕ). option_or o (last_of_round x name)) (last_of_rounds-append xs ys name)
    ∙ or_all (last_of_rounds ys name) (last_of_rounds xs name) (last_of_round x name)

pub last_of_round-append : (xs ys : List (List Answered)) (name : ℕ) → last_of_round (xs ++ ys) name ≡ option_or (last_of_round ys name) (last_of_round xs name)
last_of_round-append [] ys name = sym (or_none (last_of_round ys name))
last_of_round-append (x ∷ xs) ys name =
    ap (λ (o : Option ℕ). option_or o (last_assigned x name)) (last_of_round-append xs ys name)
    ∙ or_all (last_of_round ys name) (last_of_round xs name) (last_assigned x name)

---- One command more

module _ (t t' : NameTable) (command : Command) (reply : Reply) (earlier : List (List (List Answered))) (own : List Answered) (k : Tells t earlier own) where
  abbrev one : Answered
  one = record { command = command; reply = reply }

  value_more : (name : ℕ) → unwrap_or (assigned command reply name) (value_at earlier own name) ≡ value_at earlier (own ++ one ∷ []) name
  value_more name =
      later_first (assigned command reply name) (option_or (last_assigned own name) (last_of_rounds earlier name)) 0
      ∙ ap (λ (o : Option ℕ). unwrap_or o 0)
      (sym (or_all (assigned command reply name) (last_assigned own name) (last_of_rounds earlier name))
      ∙ ap (λ (o : Option ℕ). option_or o (last_of_rounds earlier name)) (sym (last_assigned-append own (one ∷ []) name)))

  pub noted : (new : Assigned) → ((name : ℕ) → assigned command reply name ≡ given_if (Some new) name)
      → ((name : ℕ) → value_in t'.values name ≡ unwrap_or (given_by new name) (value_in t.values name)) → t'.news ≡ t.news ++ new ∷ []
      → Tells t' earlier (own ++ one ∷ [])
  noted new is values news = record {
    value = λ name. values name ∙ (ap (λ (o : Option ℕ). unwrap_or o (value_in t.values name)) (sym (is name)) ∙ (ap (unwrap_or (assigned command reply name)) (k.value name) ∙ value_more name));
    news = λ name.
        ap (λ (l : List Assigned). last_in l name) news ∙ (last_in-append t.news (new ∷ []) name
        ∙ (ap (λ (o : Option ℕ). option_or o (last_in t.news name)) (sym (is name))
        ∙ (ap (option_or (assigned command reply name)) (k.news name) ∙ sym (last_assigned-append own (one ∷ []) name))));
  }

  pub noted_none : ((name : ℕ) → assigned command reply name ≡ given_if None name) → t' ≡ t → Tells t' earlier (own ++ one ∷ [])
  noted_none is same = record {
    value = λ name. ap (λ (x : NameTable). value_in x.values name) same ∙ (k.value name ∙ (sym (ap (λ (o : Option ℕ). unwrap_or o (value_at earlier own name)) (is name)) ∙ value_more name));
    news = λ name.
        ap (λ (x : NameTable). last_in x.news name) same ∙ (k.news name
        ∙ (sym (ap (λ (o : Option ℕ). option_or o (last_assigned own name)) (is name)) ∙ sym (last_assigned-append own (one ∷ []) name)));
  }

---- Behind a round

own_in_round : (round : List (List Answered)) (t name : ℕ) → last_of_round round name ≡ None → last_assigned (get_or round t []) name ≡ None
own_in_round [] t name e = refl
own_in_round (x ∷ xs) zero name e = both (last_of_round xs name) (last_assigned x name) e
  where
    both : (a b : Option ℕ) → option_or a b ≡ None → b ≡ None
    both None b e = e
    both (Some v) b e = absurd (cc e)
own_in_round (x ∷ xs) (suc t) name e = own_in_round xs t name (both (last_of_round xs name) (last_assigned x name) e)
  where
    both : (a b : Option ℕ) → option_or a b ≡ None → a ≡ None
    both None b e = refl
    both (Some v) b e = absurd (cc e)

pub learned : (t t' : NameTable) (news : List Assigned) (earlier : List (List (List Answered))) (round : List (List Answered)) (n : ℕ)
    → TellsRound news round → Tells t earlier (get_or round n [])
    → ((name : ℕ) → value_in t'.values name ≡ unwrap_or (last_in news name) (value_in t.values name)) → t'.news ≡ []
    → Tells t' (earlier ++ round ∷ []) []
learned t t' news earlier round n told k values none = record { value = value; news = λ name. ap (λ (l : List Assigned). last_in l name) none }
  where
    of : (name : ℕ) (r o : Option ℕ) (a : Option ℕ) → (r ≡ None → o ≡ None) → unwrap_or r (unwrap_or (option_or o a) 0) ≡ unwrap_or (option_or r a) 0
    of name None None a h = refl
    of name None (Some x) a h = absurd (let e = h refl in cc e)
    of name (Some v) o a h = refl

    value : (name : ℕ) → value_in t'.values name ≡ value_at (earlier ++ round ∷ []) [] name
    value name =
        let r = last_of_round round name in
        let o = last_assigned (get_or round n []) name in
        let a = last_of_rounds earlier name in
        values name ∙ (ap (λ (x : Option ℕ). unwrap_or x (value_in t.values name)) (told name)
        ∙ (ap (unwrap_or r) (k.value name)
        ∙ (of name r o a (own_in_round round n name) ∙ ap (λ (x : Option ℕ). unwrap_or x 0) (sym (last_of_rounds-append earlier (round ∷ []) name)))))

---- Calls

pub called : (t : NameTable) (earlier : List (List (List Answered))) (own : List Answered) (command : Command) → Tells t earlier own → call_of (value_in t.values) command ≡ call_of (value_at earlier own) command
called t earlier own command k = ap (λ (v : ℕ → ℕ). call_of v command) (λ i name. k.value name i)

---- Assignments one after another

pub take_more : {A : Type 0} (xs : List A) (i : ℕ) (d : A) → i < length xs → take (i + 1) xs ≡ take i xs ++ get_or xs i d ∷ []
take_more [] i d lt = absurd (omega arith)
take_more (x ∷ xs) zero d lt = refl
take_more (x ∷ xs) (suc i) d lt = let e : suc i + 1 ≡ suc (i + 1) = omega arith in rw e (ap (λ l. x ∷ l) (take_more xs i d (omega arith)))

pub more_put : (news : List Assigned) (i : ℕ) (d : Assigned) (name old now next : ℕ) → i < length news
    → now ≡ unwrap_or (last_in (take i news) name) old → next ≡ unwrap_or (given_by (get_or news i d) name) now → next ≡ unwrap_or (last_in (take (i + 1) news) name) old
more_put news i d name old now next lt e f =
    let new = get_or news i d in
    f ∙ (ap (unwrap_or (given_by new name)) e
    ∙ (later_first (given_by new name) (last_in (take i news) name) old
    ∙ ap (λ (o : Option ℕ). unwrap_or o old) (sym (last_in-append (take i news) (new ∷ []) name) ∙ ap (λ (l : List Assigned). last_in l name) (sym (take_more news i d lt)))))

-- what two clauses of one success give
pub both_ok : {A E : Type 0} (r : Result A E) (P Q R : Type 0) → (P → Q → R) → OnOk r P → OnOk r Q → OnOk r R
both_ok (Ok a) P Q R f p q = f p q
both_ok (Err e) P Q R f p q = tt
