-- The calls on a block at an address, from what their parts do.
use Rattle.std.proofs.Common.{◌≡◌, ℕ, ◌+◌, ◌/◌, true, List, [], ◌∷◌, ◌++◌, refl, sym, ◌∙◌, subst}
use Rattle.std.specs.Prelude.{Result, Ok, Err}
use Rattle.heap_model.specs.declared.Act.{Act}
use Rattle.heap_model.specs.declared.Act.TheVariants as acts
use Rattle.heap_model.specs.declared.Call.{Call}
use Rattle.heap_model.specs.declared.Call.TheVariants as calls
use Rattle.heap_model.specs.declared.What.{What}
use Rattle.heap_model.specs.declared.WordNo.{WordNo}
use Rattle.heap_model.specs.declared.WordNo.TheVariants as word_nos
use Rattle.heap_model.specs.Shape.{shape_of}
use Rattle.heap_gate.specs.Token.{Token}
use Rattle.heap_gate.specs.Calls.{Runs, Stands, stance}
use Rattle.claim_rule.specs.Entries.{entry}
use Rattle.call_parts.specs.Calls.{Makes}
use Rattle.call_parts.proofs.Joining.{goes_then, goes_does}
use Rattle.call_parts.proofs.Serving.{none_begins, none_begins-append, shape-append}
use Rattle.heap_now.specs.Calls.{ServesWith}
use Rattle.heap_now.specs.Words.{Adds, LoadsWord, StoresWord, get_answer, put_answer}

---- One word

-- a step of one entry adds it
pub adds : (old new : Token) (act : Act) → Runs old new (entry old.number act ∷ []) → Stands new (stance old) → Adds old new act
adds old new act x s = record {
  goes = goes_does old new (act ∷ []) x.does s.depth;
  inside = λ call i. record {
    call_is = s.call ∙ i.call_is;
    fresh = s.fresh ∙ i.fresh;
    inside = s.inside ∙ i.inside;
    out = s.out ∙ i.out;
    whole = s.whole;
    free = s.free ∙ i.free;
    pending = s.pending;
    prepared = s.prepared;
    drawn = s.searched ∙ (i.drawn ∙ sym s.drawn);
    owes = s.owes ∙ i.owes;
  };
}

-- the part and one act more
pub makes_more : (b d e : Token) (call : Call) (shape : List Act) (act : Act) → none_begins (act ∷ []) ≡ true → shape_of (act ∷ []) ≡ act ∷ [] → Makes b d call shape → Adds d e act → Makes b e call (shape ++ act ∷ [])
makes_more b d e call shape act nb sh m x = record {
  added = m.added ++ act ∷ [];
  goes = goes_then b d e m.added (act ∷ []) m.goes x.goes;
  no_begin = none_begins-append m.added (act ∷ []) m.no_begin nb;
  shape_is = shape-append m.added (act ∷ []) ∙ (λ j. m.shape_is j ++ sh j);
  stands = x.inside call m.stands;
}

---- The parts of get and put, behind the size

pub gets_word : (May : What → Type 0) (b d e : Token) (addr index size : ℕ) (r : Result ℕ WordNo) → Makes b d (calls.Get addr index) (acts.Sized addr size ∷ []) → LoadsWord d e addr index size r
    → ServesWith May b e (calls.Get addr index) (get_answer r)
gets_word May b d e addr index size (Ok value) m x =
    (acts.Sized addr size ∷ acts.Load (addr / 8 + index) value ∷ [], makes_more b d e (calls.Get addr index) (acts.Sized addr size ∷ []) (acts.Load (addr / 8 + index) value) refl refl m x.1, (refl, refl, refl, x.0))
gets_word May b d e addr index size (Err (word_nos.Past words)) m x =
    (acts.Sized addr size ∷ [], subst (λ (t : Token). Makes b t (calls.Get addr index) (acts.Sized addr size ∷ [])) (sym x.nothing) m, (refl, x.words_are, x.past))
gets_word May b d e addr index size (Err word_nos.NotLive) m x = absurd x
gets_word May b d e addr index size (Err (word_nos.Busy busy)) m x = absurd x

pub puts_word : {A : Type 0} (May : What → Type 0) (b d e : Token) (addr index size value : ℕ) (r : Result A WordNo) → Makes b d (calls.Put addr index value) (acts.Sized addr size ∷ []) → StoresWord d e addr index size value r
    → ServesWith May b e (calls.Put addr index value) (put_answer r)
puts_word May b d e addr index size value (Ok done) m x =
    (acts.Sized addr size ∷ acts.Store (addr / 8 + index) value ∷ [], makes_more b d e (calls.Put addr index value) (acts.Sized addr size ∷ []) (acts.Store (addr / 8 + index) value) refl refl m x.1, (refl, refl, refl, x.0))
puts_word May b d e addr index size value (Err (word_nos.Past words)) m x =
    (acts.Sized addr size ∷ [], subst (λ (t : Token). Makes b t (calls.Put addr index value) (acts.Sized addr size ∷ [])) (sym x.nothing) m, (refl, x.words_are, x.past))
puts_word May b d e addr index size value (Err word_nos.NotLive) m x = absurd x
puts_word May b d e addr index size value (Err (word_nos.Busy busy)) m x = absurd x
