-- What the acts of a part show, and how a part is put together.
use Rattle.std.proofs.Common.{◌≡◌, ℕ, ◌+◌, ◌*◌, ◌/◌, zero, suc, Bool, true, false, List, [], ◌∷◌, ◌++◌, Option, Some, refl, sym, ap, ◌∙◌, subst, ltb, inl, inr}
use Rattle.std.proofs.lemmas.Bool.{cases_Bool}
use Rattle.std.proofs.lemmas.List.{append-nil}
use Rattle.heap_model.specs.declared.Act.{Act}
use Rattle.heap_model.specs.declared.Act.TheVariants as acts
use Rattle.heap_model.specs.declared.AllocNo.TheVariants as alloc_nos
use Rattle.heap_model.specs.declared.Busy.{Busy}
use Rattle.heap_model.specs.declared.Call.{Call}
use Rattle.heap_model.specs.declared.Call.TheVariants as calls
use Rattle.heap_model.specs.declared.Flags.{Flags}
use Rattle.heap_model.specs.declared.Layer.{Layer}
use Rattle.heap_model.specs.declared.Layer.TheVariants as layers
use Rattle.heap_model.specs.declared.Reply.TheVariants as replies
use Rattle.heap_model.specs.declared.What.{What}
use Rattle.heap_model.specs.Geometry.{pages_of, words_of}
use Rattle.heap_model.specs.Layers.{LayerState}
use Rattle.heap_model.specs.Shape.{Replied, HasActs, shape_of, zeros, zeroing}
use Rattle.heap_model.specs.State.{InHand, address}
use Rattle.claim_rule.specs.Entries.{entry}
use Rattle.claim_rule.specs.Home.{slot_of}
use Rattle.lock_steps.specs.Locks.{owed_with}
use Rattle.heap_gate.specs.Token.{Token}
use Rattle.heap_gate.specs.Calls.{HasTaken, HasMissed, HasGiven}
use Rattle.call_parts.specs.Calls.{IsServing, Makes}
use Rattle.call_parts.proofs.Joining.{goes_does}
use Rattle.call_parts.proofs.Serving.{none_begins, none_begins-append, shape-append, new_since}
use Rattle.call_parts.specs.Entries.{block_acts, HasAdded, HasEnded}
use Rattle.paged_calls.specs.Parts.{IsAllocating, Shows, HasPlaced, Places, IsRefused}
use Rattle.call_parts.proofs.Tokens.{added_taken, ended_given, ended_missed, ended_then, makes}

---- Shapes

pub zeros_shown : (zero_it : Bool) (word count : ℕ) → shape_of (zeros zero_it word count) ≡ zeros zero_it word count
zeros_shown false word count = refl
zeros_shown true word zero = refl
zeros_shown true word (suc count) = ap (λ (l : List Act). acts.Store word 0 ∷ l) (zeros_shown true (word + 1) count)

pub zeros_no_begin : (zero_it : Bool) (word count : ℕ) → none_begins (zeros zero_it word count) ≡ true
zeros_no_begin false word count = refl
zeros_no_begin true word zero = refl
zeros_no_begin true word (suc count) = zeros_no_begin true (word + 1) count

pub block_shown : (reserved first n : ℕ) → shape_of (block_acts reserved first n) ≡ acts.Place (4096 * first) (256 * pages_of n) layers.Back ∷ []
block_shown reserved first n = elim (cases_Bool (ltb (first / 256) reserved)) [ inl e ↦ rw e refl | inr e ↦ rw e refl ]

---- Under a lock

-- a lock is given back behind acts
pub given_behind : (a t b : Token) (what : What) (xs : List Act) (more : List ℕ) → HasAdded a t xs → HasGiven t b what (entry t.number (acts.GiveLock what) ∷ []) → t.out ≡ slot_of what ∷ more → t.free ≡ true
    → HasEnded a b (xs ++ acts.GiveLock what ∷ []) more
given_behind a t b what xs more x g out free = ended_then a t b xs (acts.GiveLock what ∷ []) more x (ended_given t b what more (acts.GiveLock what ∷ []) g out free)

pub placed_shows : (a b : Token) (xs : List Act) (start granules : ℕ) (layer : Layer) (addr n : ℕ) (zero_it : Bool) (what : What) → address (record { start = start; granules = granules; layer = layer; status = InHand 0 }) ≡ addr
    → none_begins xs ≡ true → shape_of xs ≡ acts.Place start granules layer ∷ [] → HasEnded a b ((xs ++ (zeroing zero_it addr n ++ acts.Give addr n ∷ [])) ++ acts.GiveLock what ∷ []) [] → HasPlaced a b addr n zero_it
placed_shows a b xs start granules layer addr n zero_it what at nb sh x =
    let zs = zeroing zero_it addr n in
    let gs : List Act = acts.Give addr n ∷ [] in
    let ls : List Act = acts.GiveLock what ∷ [] in
    let given : shape_of (zs ++ gs) ≡ zs ++ gs = shape-append zs gs ∙ ap (λ (l : List Act). l ++ gs) (zeros_shown zero_it (addr / 8) (words_of n)) in
    let first : shape_of (xs ++ (zs ++ gs)) ≡ acts.Place start granules layer ∷ (zs ++ gs) = shape-append xs (zs ++ gs) ∙ (λ i. sh i ++ given i) in
    record {
      start = start;
      granules = granules;
      layer = layer;
      at = at;
      shown = record {
        rest = (xs ++ (zs ++ gs)) ++ ls;
        ended = x;
        no_begin = none_begins-append (xs ++ (zs ++ gs)) ls (none_begins-append xs (zs ++ gs) nb (none_begins-append zs gs (zeros_no_begin zero_it (addr / 8) (words_of n)) refl)) refl;
        shape_is = shape-append (xs ++ (zs ++ gs)) ls ∙ (append-nil (shape_of (xs ++ (zs ++ gs))) ∙ first);
      };
    }

---- From the lock on

pub serving_taken : {T : Type 0} (tells : T → LayerState) (a b : Token) (what : What) (state : T) (call : Call) → owed_with what [] ≡ [] → IsServing a call [] → HasTaken tells a b what state → IsServing b call (slot_of what ∷ [])
serving_taken tells a b what state call e v x =
    let s = x.stands in
    record {
      call_is = s.call ∙ v.call_is;
      fresh = s.fresh ∙ v.fresh;
      inside = s.inside ∙ v.inside;
      out_is = s.out ∙ ap (λ (l : List ℕ). slot_of what ∷ l) v.out_is;
      whole = s.whole;
      free = s.free ∙ v.free;
      pending = s.pending;
      prepared = s.prepared;
      searched = s.searched ∙ v.searched;
      drawn = s.drawn ∙ v.drawn;
      owes = s.owes ∙ (ap (owed_with what) v.owes ∙ e);
      is_new = new_since a b call (acts.TakeLock what ∷ []) (goes_does a b (acts.TakeLock what ∷ []) x.reveals.does s.depth) v.prepared s.prepared refl v.is_new;
    }

same_call : (flags : Flags) (n : ℕ) (o : Option Call) (call : Call) → o ≡ Some (calls.Alloc n flags) → o ≡ Some call → calls.Alloc n flags ≡ call
same_call flags n o call e f = let both : Some (calls.Alloc n flags) ≡ Some call = sym e ∙ f in (cc)

pub placed_so : {T : Type 0} (tells : T → LayerState) (a b d : Token) (what : What) (state : T) (addr n : ℕ) (zero_it : Bool) → owed_with what [] ≡ [] → IsAllocating a n zero_it → HasTaken tells a b what state → HasPlaced b d addr n zero_it → Places a d addr
placed_so tells a b d what state addr n zero_it e v x p call f =
    let flags = v.0 in let serving = v.2 in let zero_is = v.1 in
    let s = p.shown in
    let take : HasAdded a b (acts.TakeLock what ∷ []) = added_taken tells a b what state (ap (owed_with what) serving.owes ∙ (e ∙ sym serving.owes)) x in
    let all = ended_then a b d (acts.TakeLock what ∷ []) s.rest [] take s.ended in
    let shape : List Act = acts.Place p.start p.granules p.layer ∷ (zeroing zero_it addr n ++ acts.Give addr n ∷ []) in
    let m = makes a d call (calls.Alloc n flags) [] (acts.TakeLock what ∷ s.rest) shape serving f all s.no_begin s.shape_is in
    let told : HasActs (calls.Alloc n flags) (Replied (replies.Address addr)) shape = (p.at, ap (λ (z : Bool). zeroing z addr n ++ acts.Give addr n ∷ []) (sym zero_is)) in
    (shape, m, subst (λ (k : Call). HasActs k (Replied (replies.Address addr)) shape) (same_call flags n a.call call serving.call_is f) told)

pub refused_so : {T : Type 0} (tells : T → LayerState) (a b d : Token) (what : What) (state : T) (n : ℕ) (zero_it : Bool) → owed_with what [] ≡ [] → IsAllocating a n zero_it → HasTaken tells a b what state → Shows b d (acts.NoFit n ∷ [])
    → IsRefused what a d alloc_nos.NoFit
refused_so tells a b d what state n zero_it e v x s call f =
    let flags = v.0 in let serving = v.2 in
    let take : HasAdded a b (acts.TakeLock what ∷ []) = added_taken tells a b what state (ap (owed_with what) serving.owes ∙ (e ∙ sym serving.owes)) x in
    let all = ended_then a b d (acts.TakeLock what ∷ []) s.rest [] take s.ended in
    let shape : List Act = acts.NoFit n ∷ [] in
    let m = makes a d call (calls.Alloc n flags) [] (acts.TakeLock what ∷ s.rest) shape serving f all s.no_begin s.shape_is in
    let told : HasActs (calls.Alloc n flags) (Replied replies.NoFit) shape = refl in
    (shape, m, subst (λ (k : Call). HasActs k (Replied replies.NoFit) shape) (same_call flags n a.call call serving.call_is f) told)

pub blocked_so : (a b : Token) (what : What) (busy : Busy) (n : ℕ) (zero_it : Bool) → IsAllocating a n zero_it → HasMissed a b what busy.what busy.word → IsRefused what a b (alloc_nos.Busy busy)
blocked_so a b what busy n zero_it v x call f =
    let serving = v.2 in
    record {
      made = subst (λ (w : What). Makes a b call (acts.Blocked w busy.word ∷ [])) (sym x.what_is)
          (makes a b call (calls.Alloc n v.0) [] (acts.Blocked what busy.word ∷ []) (acts.Blocked what busy.word ∷ []) serving f (ended_missed a b what busy.what busy.word x serving.out_is serving.free) refl refl);
      what_is = x.what_is;
      another = x.another;
    }
