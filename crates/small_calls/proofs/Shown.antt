-- What the acts of an allocation show, one part behind another, and how it is answered.
use Rattle.std.proofs.Common.{◌≡◌, ℕ, zero, suc, ◌+◌, ◌/◌, Bool, true, false, List, [], ◌∷◌, ◌++◌, Option, Some, refl, sym, ap, ◌∙◌, subst}
use Rattle.std.proofs.lemmas.Bool.{false≢true}
use Rattle.heap_model.specs.declared.Act.{Act}
use Rattle.heap_model.specs.declared.Act.TheVariants as acts
use Rattle.heap_model.specs.declared.Call.{Call}
use Rattle.heap_model.specs.declared.Call.TheVariants as calls
use Rattle.heap_model.specs.declared.Flags.{Flags}
use Rattle.heap_model.specs.declared.Reply.TheVariants as replies
use Rattle.heap_model.specs.Geometry.{words_of}
use Rattle.heap_model.specs.Shape.{Replied, HasActs, shape_of, zeros, zeroing}
use Rattle.heap_model.specs.Buckets.{block_address}
use Rattle.heap_gate.specs.Token.{Token}
use Rattle.lfh_search.specs.Acts.{is_reading, AreReadings}
use Rattle.lfh_search.specs.Results.{place}
use Rattle.call_parts.specs.Calls.{GoesOn, Makes}
use Rattle.call_parts.proofs.Joining.{goes_then}
use Rattle.call_parts.proofs.Serving.{none_begins, none_begins-append, shape-append}
use Rattle.paged_calls.specs.Parts.{Places}
use Rattle.small_calls.specs.Fronts.{IsResting, HasGivenBlock, front_acts}

-- The caller's list goes on by acts that show this shape, none of them a Begin.
pub record IsShown (old new : Token) (shape : List Act) : Type 0 where
  pub added : List Act
  pub goes : GoesOn old new added
  pub no_begin : none_begins added ≡ true
  pub shape_is : shape_of added ≡ shape

pub shown_then : (a b c : Token) (xs ys : List Act) → IsShown a b xs → IsShown b c ys → IsShown a c (xs ++ ys)
shown_then a b c xs ys x y = record {
  added = x.added ++ y.added;
  goes = goes_then a b c x.added y.added x.goes y.goes;
  no_begin = none_begins-append x.added y.added x.no_begin y.no_begin;
  shape_is = shape-append x.added y.added ∙ (λ i. x.shape_is i ++ y.shape_is i);
}

---- A block of the front end

pub readings_shown : (its : List Act) → AreReadings its → (shape_of its ≡ []) × (none_begins its ≡ true)
readings_shown [] are = (refl, refl)
readings_shown (act ∷ rest) are = one act are.0 (readings_shown rest are.1)
  where
    one : (act : Act) → is_reading act ≡ true → (shape_of rest ≡ []) × (none_begins rest ≡ true) → (shape_of (act ∷ rest) ≡ []) × (none_begins (act ∷ rest) ≡ true)
    one (acts.Saw head word bits) i h = h
    one (acts.Lost head index) i h = h
    one (acts.NoHint bucket slot) i h = h
    one _ i h = absurd (false≢true i)

zeros_shown : (zero_it : Bool) (word count : ℕ) → shape_of (zeros zero_it word count) ≡ zeros zero_it word count
zeros_shown false word count = refl
zeros_shown true word zero = refl
zeros_shown true word (suc count) = ap (λ (l : List Act). acts.Store word 0 ∷ l) (zeros_shown true (word + 1) count)

zeros_no_begin : (zero_it : Bool) (word count : ℕ) → none_begins (zeros zero_it word count) ≡ true
zeros_no_begin false word count = refl
zeros_no_begin true word zero = refl
zeros_no_begin true word (suc count) = zeros_no_begin true (word + 1) count

given_shown : (addr n : ℕ) (zero_it : Bool) → (shape_of (zeroing zero_it addr n ++ acts.Give addr n ∷ []) ≡ zeroing zero_it addr n ++ acts.Give addr n ∷ []) × (none_begins (zeroing zero_it addr n ++ acts.Give addr n ∷ []) ≡ true)
given_shown addr n zero_it =
    let zs = zeroing zero_it addr n in let gs : List Act = acts.Give addr n ∷ [] in
    (shape-append zs gs ∙ ap (λ (l : List Act). l ++ gs) (zeros_shown zero_it (addr / 8) (words_of n)), none_begins-append zs gs (zeros_no_begin zero_it (addr / 8) (words_of n)) refl)

-- zeroes, and then other acts
pub zeros_begun : (addr n : ℕ) (zero_it : Bool) (rest : List Act) → none_begins rest ≡ true → (shape_of (zeroing zero_it addr n ++ rest) ≡ zeroing zero_it addr n ++ shape_of rest) × (none_begins (zeroing zero_it addr n ++ rest) ≡ true)
zeros_begun addr n zero_it rest none = (
  shape-append (zeroing zero_it addr n) rest ∙ ap (λ (l : List Act). l ++ shape_of rest) (zeros_shown zero_it (addr / 8) (words_of n)),
  none_begins-append (zeroing zero_it addr n) rest (zeros_no_begin zero_it (addr / 8) (words_of n)) none,
)

pub served_shown : (a f : Token) (call : Call) (b n addr : ℕ) (zero_it : Bool) → (x : HasGivenBlock a f call b n zero_it addr) → IsShown a f (front_acts b x.head x.index n zero_it)
served_shown a f call b n addr zero_it x =
    let r = readings_shown x.its x.are in
    let g = given_shown (block_address b x.head x.index) n zero_it in
    let last = front_acts b x.head x.index n zero_it in
    record {
      added = x.its ++ last;
      goes = x.goes;
      no_begin = none_begins-append x.its last r.1 g.1;
      shape_is = shape-append x.its last ∙ (λ i. r.0 i ++ (place b x.head x.index ∷ g.0 i));
    }

---- The answer

same_call : (flags : Flags) (n : ℕ) (o : Option Call) (call : Call) → o ≡ Some (calls.Alloc n flags) → o ≡ Some call → calls.Alloc n flags ≡ call
same_call flags n o call e f = let both : Some (calls.Alloc n flags) ≡ Some call = sym e ∙ f in (cc)

pub made : (a f : Token) (call : Call) (shape : List Act) → IsShown a f shape → IsResting f call [] → Makes a f call shape
made a f call shape x r = record {
  added = x.added;
  goes = x.goes;
  no_begin = x.no_begin;
  shape_is = x.shape_is;
  stands = record { call_is = r.call_is; fresh = r.fresh; inside = r.inside; out = r.out_is; whole = r.whole; free = r.free; pending = r.pending; prepared = r.prepared; drawn = r.drawn; owes = r.owes };
}

-- a block of the front end is what an allocation asks
pub front_places : (a f : Token) (flags : Flags) (n b head index addr : ℕ) (zero_it : Bool) → flags.zero ≡ zero_it → addr ≡ block_address b head index → a.call ≡ Some (calls.Alloc n flags) → IsShown a f (front_acts b head index n zero_it)
    → IsResting f (calls.Alloc n flags) [] → Places a f addr
front_places a f flags n b head index addr zero_it zero_is at call_is x r call e =
    let shape = front_acts b head index n zero_it in
    let told : HasActs (calls.Alloc n flags) (Replied (replies.Address addr)) shape =
    (sym at, ap (λ (z : Bool × ℕ). zeroing z.0 z.1 n ++ acts.Give z.1 n ∷ []) (λ i. (sym zero_is i, sym at i))) in
    subst (λ (k : Call). (shape : List Act) × Makes a f k shape × HasActs k (Replied (replies.Address addr)) shape) (same_call flags n a.call call call_is e) (shape, made a f (calls.Alloc n flags) shape x r, told)
