-- Where the tag is known: what was found and done with no lock.
use Rattle.std.proofs.Common.{◌≡◌, ℕ, ◌/◌, Bool, true, false, List, [], ◌∷◌, ◌++◌, Option, Some, None, refl, ap, ◌∙◌, subst}
use Rattle.std.specs.Prelude.{is_some, Result, Ok, Err}
use Rattle.std.proofs.lemmas.Bool.{false≢true}
use Rattle.std.proofs.lemmas.List.{append-nil}
use Rattle.heap_model.specs.declared.Act.{Act}
use Rattle.heap_model.specs.declared.Act.TheVariants as acts
use Rattle.heap_model.specs.declared.Busy.{Busy}
use Rattle.heap_model.specs.declared.Call.{Call}
use Rattle.heap_model.specs.declared.What.TheVariants as whats
use Rattle.heap_model.specs.Shape.{shape_of}
use Rattle.heap_gate.specs.Token.{Token, IsStanding, is_out}
use Rattle.heap_gate.specs.Calls.{Runs, Stands, stance}
use Rattle.lfh_claims.specs.Blocks.{HasTag}
use Rattle.call_parts.specs.Calls.{IsServing}
use Rattle.call_parts.specs.Entries.{HasAdded}
use Rattle.call_parts.proofs.Joining.{goes_does, goes_then}
use Rattle.call_parts.proofs.Serving.{none_begins-append, shape-append}
use Rattle.front_calls.specs.Parts as fronts
use Rattle.address_calls.specs.declared.look.Found.{Found}
use Rattle.address_calls.specs.Tagged.{KnowsTag, FindsAtOnce, MeasuresAtOnce, DropsAtOnce, MeasuresAsFront, DropsAsFront}
use Rattle.address_calls.proofs.Parts.{makes_more}
use Rattle.address_calls.proofs.TagRead.{told_tag, reads_known_tag}

-- a tag that is known is not 0
pub is_read : (a b : Token) (addr page : ℕ) (call : Call) → IsServing a call [] → IsStanding a → HasTag a b page None → IsStanding b → page ≡ addr / 4096 → KnowsTag a addr → ⊥
is_read a b addr page call v sa x sb at k =
    let h = subst (λ (n : ℕ). HasTag a b n None) at x in
    let e = reads_known_tag a b addr None k v.prepared v.inside (ap (is_out whats.Back) v.out_is) sa h sb in
    false≢true (ap is_some e ∙ told_tag k.span)

---- One part behind another

-- behind a look-up with no act
just_behind : (a b d : Token) (rest : List Act) → HasAdded a b [] → fronts.GoesBy b d rest → fronts.GoesBy a d rest
just_behind a b d rest x f call e =
    let j = f call (x.steady.call ∙ e) in
    let m = j.makes in
    record {
      makes = record { added = m.added; goes = goes_then a b d [] m.added x.goes m.goes; no_begin = m.no_begin; shape_is = m.shape_is; stands = m.stands };
      just = j.just;
    }

measures_front : (a b d : Token) (addr : ℕ) (told : Option ℕ) → HasAdded a b [] → fronts.Measures b d addr told → fronts.Measures a d addr told
measures_front a b d addr (Some size) x f = just_behind a b d (acts.Sized addr size ∷ []) x f
measures_front a b d addr None x f = just_behind a b d (acts.NotLive addr ∷ []) x f

pub measures_at_once : (a b d : Token) (addr : ℕ) (found : Found) (told : Option ℕ) → FindsAtOnce a b (Ok found) → MeasuresAsFront found b d addr told → MeasuresAtOnce a d addr (Ok told)
measures_at_once a b d addr found told x f = measures_front a b d addr told x.1 (f x.0)

pub drops_at_once : (a b d : Token) (addr : ℕ) (found : Found) (result : Result Bool Busy) → FindsAtOnce a b (Ok found) → DropsAsFront found b d addr result → DropsAtOnce a d addr result
drops_at_once a b d addr found (Ok true) x f = let g = f x.0 in (g.0, just_behind a b d (acts.Take addr g.0 ∷ acts.Drop addr ∷ []) x.1 g.1)
drops_at_once a b d addr found (Ok false) x f = just_behind a b d (acts.NotLive addr ∷ []) x.1 (f x.0)
drops_at_once a b d addr found (Err w) x f = f x.0

-- a load behind a part
just_more : (a b d : Token) (rest : List Act) → fronts.GoesBy a b rest → Runs b d [] → Stands d (stance b) → fronts.GoesBy a d rest
just_more a b d rest f r s call e =
    let j = f call e in
    let m = j.makes in
    record {
      makes = record {
        added = m.added ++ [];
        goes = goes_then a b d m.added [] m.goes (goes_does b d [] r.does s.depth);
        no_begin = none_begins-append m.added [] m.no_begin refl;
        shape_is = shape-append m.added [] ∙ (append-nil (shape_of m.added) ∙ m.shape_is);
        stands = (makes_more a b d call rest m r s).stands;
      };
      just = append-nil m.added ∙ j.just;
    }

pub measured_front : (found : Found) (a b d : Token) (addr size : ℕ) → MeasuresAsFront found a b addr (Some size) → Runs b d [] → Stands d (stance b) → MeasuresAsFront found a d addr (Some size)
measured_front found a b d addr size f r s of_front = just_more a b d (acts.Sized addr size ∷ []) (f of_front) r s
