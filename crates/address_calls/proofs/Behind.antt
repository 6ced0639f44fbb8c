-- Parts of a call behind a look-up, of which no shape shows anything.
use Rattle.std.proofs.Common.{◌≡◌, ℕ, ◌+◌, Bool, true, false, not, List, [], ◌∷◌, ◌++◌, Option, Some, None, refl, ◌∙◌, subst}
use Rattle.std.specs.Prelude.{Result, Ok, Err, OnOk, IfOk, IfErr}
use Rattle.std.specs.List.{list_all}
use Rattle.std.proofs.lemmas.Bool.{and_from, and_parts}
use Rattle.heap_model.specs.declared.Act.{Act}
use Rattle.heap_model.specs.declared.Act.TheVariants as acts
use Rattle.heap_model.specs.declared.Busy.{Busy}
use Rattle.heap_model.specs.declared.Call.{Call}
use Rattle.heap_model.specs.declared.Opening.{Opening}
use Rattle.heap_model.specs.Shape.{begins_move, shape_of}
use Rattle.heap_gate.specs.Token.{Token}
use Rattle.call_parts.specs.Calls.{Makes}
use Rattle.call_parts.specs.Entries.{HasAdded}
use Rattle.call_parts.proofs.Joining.{goes_then}
use Rattle.call_parts.proofs.Serving.{none_begins, none_begins-append, shape-append}
use Rattle.call_parts.proofs.Tokens.{added_none, added_then}
use Rattle.paged_calls.specs.Parts.{ForCall, Measures, Drops}
use Rattle.address_calls.specs.Answers.{MayGuard, MeetsOn}
use Rattle.address_calls.specs.Finds.{Looks}

pub looks_none : (c : Token) → Looks c c
looks_none c = record { rest = []; added = added_none c; no_begin = refl; no_move = refl; shape_is = refl }

abbrev pub none_moves : List Act → Bool
none_moves rest = list_all (λ act. not (begins_move act)) rest

pub none_moves-append : (xs ys : List Act) → none_moves xs ≡ true → none_moves ys ≡ true → none_moves (xs ++ ys) ≡ true
none_moves-append [] ys h k = k
none_moves-append (x ∷ xs) ys h k =
    let p = and_parts (not (begins_move x)) (none_moves xs) h in
    and_from (not (begins_move x)) (none_moves (xs ++ ys)) p.0 (none_moves-append xs ys p.1 k)

pub looks_by : (a b : Token) (rest : List Act) → HasAdded a b rest → none_begins rest ≡ true → none_moves rest ≡ true → shape_of rest ≡ [] → Looks a b
looks_by a b rest x nb nm sh = record { rest = rest; added = x; no_begin = nb; no_move = nm; shape_is = sh }

pub looks_then : (a b c : Token) → Looks a b → Looks b c → Looks a c
looks_then a b c x y = record {
  rest = x.rest ++ y.rest;
  added = added_then a b c x.rest y.rest x.added y.added;
  no_begin = none_begins-append x.rest y.rest x.no_begin y.no_begin;
  no_move = none_moves-append x.rest y.rest x.no_move y.no_move;
  shape_is = shape-append x.rest y.rest ∙ (λ j. x.shape_is j ++ y.shape_is j);
}

module _ (a b d : Token) (x : Looks a b) where
  pub makes_behind : (call : Call) (shape : List Act) → Makes b d call shape → Makes a d call shape
  makes_behind call shape m = record {
    added = x.rest ++ m.added;
    goes = goes_then a b d x.rest m.added x.added.goes m.goes;
    no_begin = none_begins-append x.rest m.added x.no_begin m.no_begin;
    shape_is = shape-append x.rest m.added ∙ (λ j. x.shape_is j ++ m.shape_is j);
    stands = m.stands;
  }

  same_call : (call : Call) → a.call ≡ Some call → b.call ≡ Some call
  same_call call e = x.added.steady.call ∙ e

  pub for_behind : (shape : List Act) → ForCall b (λ call. Makes b d call shape) → ForCall a (λ call. Makes a d call shape)
  for_behind shape f call e = makes_behind call shape (f call (same_call call e))

  pub meets_behind : (addr : ℕ) (w : Busy) → MeetsOn b d addr w → MeetsOn a d addr w
  meets_behind addr w m = record {
    guards = subst (λ (o : Opening). MayGuard o.limits addr w.what) x.added.goes.opening m.guards;
    met = λ call e.
        let k = m.met call (same_call call e) in
        record {
          made = makes_behind call (acts.Blocked w.what w.word ∷ []) k.made;
          what_is = k.what_is;
          another = (k.another.0, subst (λ (n : ℕ). w.word ≡ n + 1 → ⊥) x.added.goes.number k.another.1);
        };
  }

  pub measures_behind : (addr : ℕ) (told : Option ℕ) → Measures b d addr told → Measures a d addr told
  measures_behind addr (Some size) m = for_behind (acts.Sized addr size ∷ []) m
  measures_behind addr None m = for_behind (acts.NotLive addr ∷ []) m

  pub drops_behind : (addr : ℕ) (did : Bool) → Drops b d addr did → Drops a d addr did
  drops_behind addr true m = (m.0, for_behind (acts.Take addr m.0 ∷ acts.Drop addr ∷ []) m.1)
  drops_behind addr false m = for_behind (acts.NotLive addr ∷ []) m

---- Answers that say so

pub ok_then : {A B : Type 0} (r : Result A B) (P Q : Type 0) → (P → Q) → OnOk r P → OnOk r Q
ok_then (Ok x) P Q f p = f p
ok_then (Err e) P Q f p = p

pub err_then : {A B : Type 0} (r : Result A B) (P Q : B → Type 0) → ((e : B) → P e → Q e) → IfErr r P → IfErr r Q
err_then (Ok x) P Q f p = p
err_then (Err e) P Q f p = f e p

pub if_ok_then : {A B : Type 0} (r : Result A B) (P Q : A → Type 0) → ((x : A) → P x → Q x) → IfOk r P → IfOk r Q
if_ok_then (Ok x) P Q f p = f x p
if_ok_then (Err e) P Q f p = p
