-- What the caller of a move adds, as the shape of a reallocation has it.
use Rattle.std.proofs.Common.{◌≡◌, ◌⊎◌, ℕ, zero, suc, ◌+◌, ◌-◌, ◌/◌, Bool, true, false, List, [], ◌∷◌, ◌++◌, length, refl, sym, ap, ◌∙◌, append_assoc, inl, inr}
use Rattle.std.proofs.lemmas.List.{append-nil}
use Rattle.std.specs.Prelude.{min}
use Rattle.heap_model.specs.declared.Act.{Act}
use Rattle.heap_model.specs.declared.Act.TheVariants as acts
use Rattle.heap_model.specs.declared.Flags.{Flags}
use Rattle.heap_model.specs.Geometry.{words_of}
use Rattle.heap_model.specs.Shape.{TakesAndPlaces, copying, moving, shape_of, zeros, zeroing_more}
use Rattle.heap_model.specs.State.{Place, address}
use Rattle.heap_gate.specs.Token.{Token}
use Rattle.call_parts.proofs.Serving.{none_begins, none_begins-append, shape-append}
use Rattle.call_parts.proofs.Tokens.{added_then}
use Rattle.call_parts.specs.Entries.{HasAdded}
use Rattle.move_parts.specs.Moved.{HasMoved}

-- The caller has added acts, none of them a Begin, which show that its block was moved from addr to b.
pub record IsShownMoved (old new : Token) (addr size n : ℕ) (flags : Flags) (b : ℕ) : Type 0 where
  pub made : Place
  pub values : List ℕ
  pub added : List Act
  pub moves : List Act
  pub address_is : address made ≡ b
  pub count : length values ≡ words_of (min size n)
  pub goes : HasAdded old new added
  pub no_begin : none_begins added ≡ true
  pub moves_are : TakesAndPlaces false (acts.Take addr size) (acts.Place made.start made.granules made.layer) (moving addr size b n flags.zero values) moves
  pub acts_are : shape_of added ≡ moves ++ acts.Give b n ∷ acts.Drop addr ∷ []

---- Words

zeros_shown : (zero_it : Bool) (word count : ℕ) → (shape_of (zeros zero_it word count) ≡ zeros zero_it word count) × (none_begins (zeros zero_it word count) ≡ true)
zeros_shown false word count = (refl, refl)
zeros_shown true word zero = (refl, refl)
zeros_shown true word (suc count) = let h = zeros_shown true (word + 1) count in (ap (λ (l : List Act). acts.Store word 0 ∷ l) h.0, h.1)

copying_shown : (from to : ℕ) (values : List ℕ) → (shape_of (copying from to values) ≡ copying from to values) × (none_begins (copying from to values) ≡ true)
copying_shown from to [] = (refl, refl)
copying_shown from to (v ∷ vs) = let h = copying_shown (from + 1) (to + 1) vs in (ap (λ (l : List Act). acts.Load from v ∷ acts.Store to v ∷ l) h.0, h.1)

pub moving_shown : (addr size b n : ℕ) (zero_it : Bool) (values : List ℕ) → (shape_of (moving addr size b n zero_it values) ≡ moving addr size b n zero_it values) × (none_begins (moving addr size b n zero_it values) ≡ true)
moving_shown addr size b n zero_it values =
    let xs = copying (addr / 8) (b / 8) values in let ys = zeroing_more zero_it b size n in
    let h = copying_shown (addr / 8) (b / 8) values in let k = zeros_shown zero_it (b / 8 + words_of size) (words_of n - words_of size) in
    (shape-append xs ys ∙ (λ i. h.0 i ++ k.0 i), none_begins-append xs ys h.1 k.1)

---- The move

last_shown : (last : List Act) → (last ≡ []) ⊎ ((first : ℕ) × (last ≡ acts.Unspan first ∷ [])) → (shape_of last ≡ []) × (none_begins last ≡ true)
last_shown last (inl e) = (ap shape_of e, ap none_begins e)
last_shown last (inr e) = (ap shape_of e.1, ap none_begins e.1)

pub moved_shown : (c d : Token) (addr size n : ℕ) (flags : Flags) (p : Place) (b : ℕ) → HasMoved c d addr size n flags p b → IsShownMoved c d addr size n flags b
moved_shown c d addr size n flags p b x =
    let first = x.made.reserves ++ x.made.begins ∷ x.made.more in let words = moving addr size b n flags.zero x.values in
    let place = acts.Place x.place.start x.place.granules x.place.layer in let take = acts.Take addr size in
    let gone : List Act = acts.Give b n ∷ acts.Drop addr ∷ [] in let tail : List Act = take ∷ acts.Give b n ∷ acts.Drop addr ∷ x.last in
    let h = moving_shown addr size b n flags.zero x.values in let l = last_shown x.last x.last_is in
    let behind : shape_of (words ++ tail) ≡ words ++ take ∷ gone = shape-append words tail ∙ (λ i. h.0 i ++ take ∷ acts.Give b n ∷ acts.Drop addr ∷ l.0 i) in
    record {
      made = x.place;
      values = x.values;
      added = first ++ (words ++ tail);
      moves = place ∷ (words ++ take ∷ []);
      address_is = x.at;
      count = x.count;
      goes = added_then c x.between d first (words ++ tail) x.made.added x.rest;
      no_begin = none_begins-append first (words ++ tail) x.made.no_begin (none_begins-append words tail h.1 l.1);
      moves_are = (words, [], sym (append-nil words), refl);
      acts_are = shape-append first (words ++ tail) ∙ ((λ i. x.made.shape_is i ++ behind i) ∙ ap (λ (r : List Act). place ∷ r) (sym (append_assoc words (take ∷ []) gone)));
    }
