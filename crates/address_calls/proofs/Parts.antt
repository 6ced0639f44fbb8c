-- The parts of the layers, as a part for any address has them.
use Rattle.std.proofs.Common.{◌≡◌, ℕ, Bool, true, false, List, [], ◌∷◌, ◌++◌, Option, Some, None, refl, sym, ◌∙◌}
use Rattle.std.proofs.lemmas.List.{append-nil}
use Rattle.heap_model.specs.declared.Act.{Act}
use Rattle.heap_model.specs.declared.Act.TheVariants as acts
use Rattle.heap_model.specs.declared.Call.{Call}
use Rattle.heap_model.specs.Limits.{AreValid}
use Rattle.heap_model.specs.Shape.{shape_of}
use Rattle.claim_rule.specs.Entries.{IsLegalWith, have_slots}
use Rattle.heap_gate.specs.Token.{Token}
use Rattle.heap_gate.specs.Calls.{Runs, Stands, stance}
use Rattle.call_parts.specs.Calls.{Makes}
use Rattle.call_parts.proofs.Joining.{goes_does, goes_then}
use Rattle.call_parts.proofs.Serving.{none_begins-append, shape-append}
use Rattle.front_calls.specs.Parts as fronts
use Rattle.paged_calls.specs.Parts.{ForCall, Measures, Drops}
use Rattle.address_calls.specs.declared.look.Found.{Found}
use Rattle.address_calls.specs.declared.look.Found.TheVariants as founds
use Rattle.address_calls.specs.Answers.{HasWords}
use Rattle.address_calls.specs.Finds.{IsFound}
use Rattle.address_calls.proofs.Words.{told_words}

-- The parts of the front end say more: which acts there are beside.
pub front_measures : (a b : Token) (addr : ℕ) (told : Option ℕ) → fronts.Measures a b addr told → Measures a b addr told
front_measures a b addr (Some size) f = λ call e. (f call e).makes
front_measures a b addr None f = λ call e. (f call e).makes

pub front_drops : (a b : Token) (addr : ℕ) (did : Bool) → fronts.Drops a b addr did → Drops a b addr did
front_drops a b addr true f = (f.0, λ call e. (f.1 call e).makes)
front_drops a b addr false f = λ call e. (f call e).makes

pub none_said : (a b : Token) (addr : ℕ) → fronts.GoesBy a b (acts.NotLive addr ∷ []) → ForCall a (λ call. Makes a b call (acts.NotLive addr ∷ []))
none_said a b addr f call e = (f call e).makes

-- the call that a caller is in
pub call_of : (c : Token) (addr : ℕ) (found : Found) → IsFound c addr found → (call : Call) × (c.call ≡ Some call)
call_of c addr (founds.Front tag) h = (h.free.0, h.free.1.call_is)
call_of c addr (founds.Vs vs) h = (h.has.call, h.has.holds.serving.call_is)
call_of c addr (founds.Back vs back) h = (h.has.call, h.has.holds.serving.call_is)
call_of c addr (founds.Large large) h = (h.has.0, h.has.1.serving.call_is)
call_of c addr founds.Nowhere h = (h.0.0, h.0.1.call_is)

-- a load behind a part
pub makes_more : (a b d : Token) (call : Call) (shape : List Act) → Makes a b call shape → Runs b d [] → Stands d (stance b) → Makes a d call shape
makes_more a b d call shape m r s =
    let v = m.stands in
    record {
      added = m.added ++ [];
      goes = goes_then a b d m.added [] m.goes (goes_does b d [] r.does s.depth);
      no_begin = none_begins-append m.added [] m.no_begin refl;
      shape_is = shape-append m.added [] ∙ (append-nil (shape_of m.added) ∙ m.shape_is);
      stands = record {
        call_is = s.call ∙ v.call_is;
        fresh = s.fresh ∙ v.fresh;
        inside = s.inside ∙ v.inside;
        out = s.out ∙ v.out;
        whole = s.whole;
        free = s.free ∙ v.free;
        pending = s.pending;
        prepared = s.prepared;
        drawn = s.searched ∙ (v.drawn ∙ sym s.drawn);
        owes = s.owes ∙ v.owes;
      };
    }

-- .. of a part that has told a size, and tells that the words are data words
pub measured_more : (a b d : Token) (addr size : ℕ) → Measures a b addr (Some size) → Runs b d [] → Stands d (stance b) → Measures a d addr (Some size)
measured_more a b d addr size f r s call e = makes_more a b d call (acts.Sized addr size ∷ []) (f call e) r s

pub measured_words : (a d : Token) (addr size : ℕ) (call : Call) → a.call ≡ Some call → AreValid a.opening.limits → Measures a d addr (Some size) → IsLegalWith d.opening d.roll d.seen → have_slots d.opening.limits.slots d.roll ≡ true → HasWords a.opening.limits addr (Some size)
measured_words a d addr size call e valid f legal slots =
    let m = f call e in
    told_words a d call addr size valid m m.goes.opening legal slots
