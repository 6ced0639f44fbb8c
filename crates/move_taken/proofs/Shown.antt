-- What the caller of a move adds whose block was taken before, as the shape of a reallocation has it.
use Rattle.std.proofs.Common.{◌≡◌, ℕ, true, List, [], ◌∷◌, ◌++◌, length, refl, ap, ◌∙◌}
use Rattle.std.specs.Prelude.{min}
use Rattle.heap_model.specs.declared.Act.{Act}
use Rattle.heap_model.specs.declared.Act.TheVariants as acts
use Rattle.heap_model.specs.declared.Flags.{Flags}
use Rattle.heap_model.specs.Geometry.{words_of}
use Rattle.heap_model.specs.Shape.{moving, shape_of}
use Rattle.heap_model.specs.State.{Place, address}
use Rattle.heap_gate.specs.Token.{Token}
use Rattle.lfh_claims.specs.declared.tag.Tag.{Tag}
use Rattle.call_parts.specs.Entries.{HasAdded}
use Rattle.call_parts.proofs.Serving.{none_begins, none_begins-append, shape-append}
use Rattle.call_parts.proofs.Tokens.{added_then}
use Rattle.move_parts.proofs.Shown.{moving_shown}
use Rattle.move_taken.specs.Moved.{HasMovedTaken}

-- The caller has added acts, none of them a Begin, which show that its block, taken before, was moved from addr to b.
pub record IsShownTaken (old new : Token) (addr size n : ℕ) (flags : Flags) (b : ℕ) : Type 0 where
  pub made : Place
  pub values : List ℕ
  pub added : List Act
  pub address_is : address made ≡ b
  pub count : length values ≡ words_of (min size n)
  pub goes : HasAdded old new added
  pub no_begin : none_begins added ≡ true
  pub acts_are : shape_of added ≡ acts.Place made.start made.granules made.layer ∷ (moving addr size b n flags.zero values ++ acts.Give b n ∷ acts.Drop addr ∷ [])

pub taken_shown : (c d : Token) (tag : Tag) (addr size n : ℕ) (flags : Flags) (b : ℕ) → HasMovedTaken c d tag addr size n flags b → IsShownTaken c d addr size n flags b
taken_shown c d tag addr size n flags b x =
    let first = x.made.reserves ++ x.made.begins ∷ x.made.more in let words = moving addr size b n flags.zero x.values in
    let gone : List Act = acts.Give b n ∷ acts.Drop addr ∷ [] in
    let h = moving_shown addr size b n flags.zero x.values in
    let behind : shape_of (words ++ gone) ≡ words ++ gone = shape-append words gone ∙ ap (λ (l : List Act). l ++ gone) h.0 in
    record {
      made = x.place;
      values = x.values;
      added = first ++ (words ++ gone);
      address_is = x.at;
      count = x.count;
      goes = added_then c x.between d first (words ++ gone) x.made.added x.rest;
      no_begin = none_begins-append first (words ++ gone) x.made.no_begin (none_begins-append words gone h.1 refl);
      acts_are = shape-append first (words ++ gone) ∙ (λ i. x.made.shape_is i ++ behind i);
    }
