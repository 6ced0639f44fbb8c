-- What the acts of a part show, and how a part is put together. (Some of it is also in the crate of the calls in the back end, on which this one does not stand.)
use Rattle.std.proofs.Common.{◌≡◌, ℕ, ◌+◌, ◌*◌, ◌/◌, zero, suc, Bool, true, false, List, [], ◌∷◌, ◌++◌, Option, Some, refl, sym, ap, ◌∙◌, subst}
use Rattle.std.proofs.lemmas.List.{append-nil}
use Rattle.heap_model.specs.declared.Act.{Act}
use Rattle.heap_model.specs.declared.Act.TheVariants as acts
use Rattle.heap_model.specs.declared.Busy.{Busy}
use Rattle.heap_model.specs.declared.Call.{Call}
use Rattle.heap_model.specs.declared.Call.TheVariants as calls
use Rattle.heap_model.specs.declared.Flags.{Flags}
use Rattle.heap_model.specs.declared.Layer.TheVariants as layers
use Rattle.heap_model.specs.declared.Reply.TheVariants as replies
use Rattle.heap_model.specs.declared.What.{What}
use Rattle.heap_model.specs.declared.What.TheVariants as whats
use Rattle.heap_model.specs.Geometry.{words_of}
use Rattle.heap_model.specs.Layers.{LayerState}
use Rattle.heap_model.specs.Shape.{Replied, HasActs, shape_of, zeros, zeroing}
use Rattle.claim_rule.specs.Home.{slot_of}
use Rattle.claim_rule.specs.Entries.{entry}
use Rattle.claim_rule.specs.Places.{vs_slot}
use Rattle.lock_steps.specs.Locks.{owed_with}
use Rattle.heap_gate.specs.Token.{Token}
use Rattle.heap_gate.specs.Calls.{HasTaken, HasMissed, HasGiven}
use Rattle.call_parts.specs.Calls.{IsServing, Makes, MeetsBusy}
use Rattle.call_parts.specs.Entries.{HasAdded, HasEnded}
use Rattle.call_parts.proofs.Joining.{goes_does, goes_then}
use Rattle.call_parts.proofs.Serving.{none_begins, none_begins-append, shape-append, new_since}
use Rattle.call_parts.proofs.Tokens.{added_taken, added_runs, ended_given, ended_then, makes}
use Rattle.vs_layer.specs.Kept.{VsKept}
use Rattle.vs_calls.specs.Tries.{tries_none}
use Rattle.vs_calls.proofs.Tries.{none-append, none_zeroed}
use Rattle.vs_calls.specs.Parts.{HasPlaced, HasDroppedBy, HasFreed, Places, Refuses}

pub zeros_shown : (zero_it : Bool) (word count : ℕ) → shape_of (zeros zero_it word count) ≡ zeros zero_it word count
zeros_shown false word count = refl
zeros_shown true word zero = refl
zeros_shown true word (suc count) = ap (λ (l : List Act). acts.Store word 0 ∷ l) (zeros_shown true (word + 1) count)

pub zeros_no_begin : (zero_it : Bool) (word count : ℕ) → none_begins (zeros zero_it word count) ≡ true
zeros_no_begin false word count = refl
zeros_no_begin true word zero = refl
zeros_no_begin true word (suc count) = zeros_no_begin true (word + 1) count

---- A block that was placed, under locks that are given back

pub placed_shows : (a b : Token) (xs gs : List Act) (first granules addr n : ℕ) (zero_it : Bool) → addr ≡ 16 * first + 16 → none_begins xs ≡ true → tries_none whats.Back xs ≡ true → shape_of xs ≡ acts.Place (16 * first) granules layers.Vs ∷ []
    → none_begins gs ≡ true → tries_none whats.Back gs ≡ true → shape_of gs ≡ [] → HasEnded a b ((xs ++ (zeroing zero_it addr n ++ acts.Give addr n ∷ [])) ++ gs) [] → HasPlaced a b n addr zero_it
placed_shows a b xs gs first granules addr n zero_it at nb nt sh nbg ntg shg x =
    let zs = zeroing zero_it addr n in
    let give : List Act = acts.Give addr n ∷ [] in
    let given : shape_of (zs ++ give) ≡ zs ++ give = shape-append zs give ∙ ap (λ (l : List Act). l ++ give) (zeros_shown zero_it (addr / 8) (words_of n)) in
    let all : shape_of (xs ++ (zs ++ give)) ≡ acts.Place (16 * first) granules layers.Vs ∷ (zs ++ give) = shape-append xs (zs ++ give) ∙ (λ i. sh i ++ given i) in
    record {
      first = first;
      granules = granules;
      rest = (xs ++ (zs ++ give)) ++ gs;
      at = at;
      ended = x;
      no_begin = none_begins-append (xs ++ (zs ++ give)) gs (none_begins-append xs (zs ++ give) nb (none_begins-append zs give (zeros_no_begin zero_it (addr / 8) (words_of n)) refl)) nbg;
      no_back = none-append whats.Back (xs ++ (zs ++ give)) gs (none-append whats.Back xs (zs ++ give) nt (none_zeroed whats.Back addr n zero_it give refl)) ntg;
      shape_is = shape-append (xs ++ (zs ++ give)) gs ∙ ((λ i. shape_of (xs ++ (zs ++ give)) ++ shg i) ∙ (append-nil (shape_of (xs ++ (zs ++ give))) ∙ all));
    }

---- The call

same_call : (o : Option Call) (own_call call : Call) → o ≡ Some own_call → o ≡ Some call → own_call ≡ call
same_call o own_call call e f = let both : Some own_call ≡ Some call = sym e ∙ f in (cc)

-- behind acts that no shape shows
pub placed_so : (a b d : Token) (flags : Flags) (out : List ℕ) (pre : List Act) (n addr : ℕ) (zero_it : Bool) → IsServing a (calls.Alloc n flags) out → flags.zero ≡ zero_it → HasAdded a b pre → none_begins pre ≡ true → shape_of pre ≡ []
    → HasPlaced b d n addr zero_it → Places a d addr
placed_so a b d flags out pre n addr zero_it serving zero_is x nb none p call f =
    let all = ended_then a b d pre p.rest [] x p.ended in
    let shape : List Act = acts.Place (16 * p.first) p.granules layers.Vs ∷ (zeroing zero_it addr n ++ acts.Give addr n ∷ []) in
    let m = makes a d call (calls.Alloc n flags) out (pre ++ p.rest) shape serving f all (none_begins-append pre p.rest nb p.no_begin) (shape-append pre p.rest ∙ (λ i. none i ++ p.shape_is i)) in
    let told : HasActs (calls.Alloc n flags) (Replied (replies.Address addr)) shape = (sym p.at, ap (λ (z : Bool). zeroing z addr n ++ acts.Give addr n ∷ []) (sym zero_is)) in
    (shape, m, subst (λ (k : Call). HasActs k (Replied (replies.Address addr)) shape) (same_call a.call (calls.Alloc n flags) call serving.call_is f) told)

-- Another holds the lock, and that of VS is given back.
pub blocked_so : (a b d : Token) (own_call : Call) (busy : Busy) → IsServing a own_call (vs_slot ∷ []) → HasMissed a b whats.Back busy.what busy.word → HasGiven b d whats.Vs (entry b.number (acts.GiveLock whats.Vs) ∷ [])
    → (call : Call) → a.call ≡ Some call → MeetsBusy a d call busy whats.Back
blocked_so a b d own_call busy serving x g call f =
    let s = x.stands in
    let first = added_runs a b (acts.Blocked whats.Back busy.word ∷ []) x.runs s in
    let last = ended_given b d whats.Vs [] (acts.GiveLock whats.Vs ∷ []) g (s.out ∙ serving.out_is) (s.free ∙ serving.free) in
    record {
      made = subst (λ (w : What). Makes a d call (acts.Blocked w busy.word ∷ [])) (sym x.what_is)
          (makes a d call own_call (vs_slot ∷ []) (acts.Blocked whats.Back busy.word ∷ acts.GiveLock whats.Vs ∷ []) (acts.Blocked whats.Back busy.word ∷ []) serving f
          (ended_then a b d (acts.Blocked whats.Back busy.word ∷ []) (acts.GiveLock whats.Vs ∷ []) [] first last) refl refl);
      what_is = x.what_is;
      another = x.another;
    }

-- The lock of the back end is taken too.
pub serving_both : {T : Type 0} (tells : T → LayerState) (a b : Token) (state : T) (call : Call) → IsServing a call (vs_slot ∷ []) → HasTaken tells a b whats.Back state → IsServing b call (slot_of whats.Back ∷ vs_slot ∷ [])
serving_both tells a b state call v x =
    let s = x.stands in
    record {
      call_is = s.call ∙ v.call_is;
      fresh = s.fresh ∙ v.fresh;
      inside = s.inside ∙ v.inside;
      out_is = s.out ∙ ap (λ (l : List ℕ). slot_of whats.Back ∷ l) v.out_is;
      whole = s.whole;
      free = s.free ∙ v.free;
      pending = s.pending;
      prepared = s.prepared;
      searched = s.searched ∙ v.searched;
      drawn = s.drawn ∙ v.drawn;
      owes = s.owes ∙ ap (owed_with whats.Back) v.owes;
      is_new = new_since a b call (acts.TakeLock whats.Back ∷ []) (goes_does a b (acts.TakeLock whats.Back ∷ []) x.reveals.does s.depth) v.prepared s.prepared refl v.is_new;
    }

pub added_back : {T : Type 0} (tells : T → LayerState) (a b : Token) (state : T) (call : Call) → IsServing a call (vs_slot ∷ []) → HasTaken tells a b whats.Back state → HasAdded a b (acts.TakeLock whats.Back ∷ [])
added_back tells a b state call v x = added_taken tells a b whats.Back state (ap (owed_with whats.Back) v.owes ∙ sym v.owes) x

pub refused_so : (a b d : Token) (pre : List Act) → HasAdded a b pre → none_begins pre ≡ true → shape_of pre ≡ [] → Refuses b d → Refuses a d
refused_so a b d pre x nb none r call e =
    let y = r call (x.steady.call ∙ e) in
    let m = y.1 in
    (y.0, record { added = pre ++ m.added; goes = goes_then a b d pre m.added x.goes m.goes; no_begin = none_begins-append pre m.added nb m.no_begin; shape_is = shape-append pre m.added ∙ (λ i. none i ++ m.shape_is i); stands = m.stands }, y.2)

-- a block that was dropped, behind acts that no shape shows
pub freed_so : (a b d : Token) (own_call : Call) (out : List ℕ) (pre more : List Act) (vs : VsKept) (addr : ℕ) → IsServing a own_call out → HasAdded a b pre → none_begins pre ≡ true → shape_of pre ≡ [] → none_begins more ≡ true → shape_of more ≡ []
    → HasDroppedBy b d vs addr more → HasFreed a d vs addr
freed_so a b d own_call out pre more vs addr serving x nb none nbm nonem p = record {
  size = p.size;
  size_is = p.size_is;
  made = λ call f.
      let rest : List Act = acts.Take addr p.size ∷ acts.Drop addr ∷ more in
      makes a d call own_call out (pre ++ rest) (acts.Take addr p.size ∷ acts.Drop addr ∷ []) serving f (ended_then a b d pre rest [] x p.ended) (none_begins-append pre rest nb nbm)
      (shape-append pre rest ∙ (λ i. none i ++ acts.Take addr p.size ∷ acts.Drop addr ∷ nonem i));
}
