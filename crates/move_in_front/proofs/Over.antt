-- What the whole move adds, and where its caller stands then.
use Rattle.std.proofs.Common.{◌≡◌, ℕ, Bool, List, [], ◌∷◌, ◌++◌, length, refl, sym, ap, ◌∙◌, subst, arith}
use Rattle.heap_model.specs.declared.Act.{Act}
use Rattle.heap_model.specs.declared.Act.TheVariants as acts
use Rattle.heap_model.specs.declared.Call.TheVariants as calls
use Rattle.heap_model.specs.declared.Flags.{Flags}
use Rattle.heap_model.specs.Shape.{shape_of, moving}
use Rattle.heap_model.specs.State.{Place}
use Rattle.backend_fit.specs.Kept.{Kept}
use Rattle.vs_layer.specs.Kept.{VsKept}
use Rattle.heap_gate.specs.Token.{Token}
use Rattle.lfh_claims.specs.declared.tag.Tag.{Tag}
use Rattle.call_parts.proofs.Joining.{goes_then}
use Rattle.call_parts.proofs.Serving.{none_begins-append, shape-append}
use Rattle.call_parts.proofs.Tokens.{added_then}
use Rattle.move_parts.specs.Places.{IsWithout}
use Rattle.move_taken.specs.Holds.{HoldsTaken}
use Rattle.move_taken.specs.Moved.{HasMovedTaken}
use Rattle.move_to_front.proofs.Over.{moving_shown}
use Rattle.move_in_front.specs.Taken.{HasMovedInFront, IsUnserved, FitsNowhereTaken}
use Rattle.move_in_front.specs.Halfway.{HasNewBeside, HasSwappedTaken}

---- To the front end

pub over_two : (a e d : Token) (tag : Tag) (addr size n : ℕ) (flags : Flags) (p : Place) (out : List ℕ) (more : VsKept) (kept : Kept) (b : ℕ) (zero : Bool) → flags.zero ≡ zero → HasNewBeside a e (calls.Realloc addr n flags) tag addr size n p out more kept b → HasSwappedTaken e d addr size b n zero
    → HasMovedInFront a d addr size n flags b
over_two a e d tag addr size n flags p out more kept b zero is y given =
    let z : HasSwappedTaken e d addr size b n flags.zero = subst (λ (t : Bool). HasSwappedTaken e d addr size b n t) (sym is) given in
    let words : List Act = moving addr size b n flags.zero z.values in
    let end : List Act = acts.Give b n ∷ acts.Drop addr ∷ [] in
    let m = moving_shown addr size b n flags.zero z.values in
    let u = z.ended.added.steady in
    record {
      place = y.place;
      at = y.two.at;
      values = z.values;
      count = z.count;
      added = y.made.added ++ (words ++ end);
      goes = goes_then a e d y.made.added (words ++ end) y.made.goes z.ended.added.goes;
      no_begin = none_begins-append y.made.added (words ++ end) y.made.no_begin (none_begins-append words end m.1 refl);
      shape_is = shape-append y.made.added (words ++ end) ∙ ((λ i. y.made.shape_is i ++ shape_of (words ++ end)) ∙ ap (λ (l : List Act). acts.Place y.place.start y.place.granules y.place.layer ∷ l) (shape-append words end ∙ (λ i. m.0 i ++ end)));
      settled = record {
        call = u.call ∙ y.made.call;
        fresh = u.fresh ∙ y.made.fresh;
        inside = u.inside ∙ y.made.inside;
        out = z.ended.out_is ∙ y.made.out;
        owes = u.owes ∙ y.two.owes;
        drawn = u.searched ∙ (y.two.drawn ∙ sym u.drawn);
        whole = z.ended.whole;
        free = z.ended.free;
        pending = z.ended.pending;
        few = let k = ap length z.ended.prepared in omega (arith, k);
      };
      prepared = z.ended.prepared;
    }

---- To VS

module _ (a e : Token) (tag : Tag) (addr size n : ℕ) (flags : Flags) (out : List ℕ) (v : HoldsTaken a tag addr size n flags out) (back kept : Kept) (bucket : ℕ) (x : IsUnserved a e tag addr size n flags out back kept bucket) where
  -- behind the search in vain the block went to VS
  pub over_late : (d : Token) (b : ℕ) → HasMovedTaken e d tag addr size n flags b → HasMovedInFront a d addr size n flags b
  over_late d b y =
      let first : List Act = y.made.reserves ++ y.made.begins ∷ y.made.more in
      let words : List Act = moving addr size b n flags.zero y.values in
      let end : List Act = acts.Give b n ∷ acts.Drop addr ∷ [] in
      let m = moving_shown addr size b n flags.zero y.values in
      let both = added_then e y.between d first (words ++ end) y.made.added y.rest in
      let u = both.steady in
      record {
        place = y.place;
        at = y.at;
        values = y.values;
        count = y.count;
        added = x.its ++ (first ++ (words ++ end));
        goes = goes_then a e d x.its (first ++ (words ++ end)) x.goes both.goes;
        no_begin = none_begins-append x.its (first ++ (words ++ end)) x.are.no_begin (none_begins-append first (words ++ end) y.made.no_begin (none_begins-append words end m.1 refl));
        shape_is = shape-append x.its (first ++ (words ++ end)) ∙ ((λ i. x.are.shape_is i ++ shape_of (first ++ (words ++ end))) ∙ (shape-append first (words ++ end)
            ∙ ((λ i. y.made.shape_is i ++ shape_of (words ++ end)) ∙ ap (λ (l : List Act). acts.Place y.place.start y.place.granules y.place.layer ∷ l) (shape-append words end ∙ (λ i. m.0 i ++ end)))));
        settled = record {
          call = u.call ∙ (x.holds.call_is ∙ sym v.call_is);
          fresh = u.fresh ∙ (x.holds.fresh ∙ sym v.fresh);
          inside = u.inside ∙ (x.holds.block.inside ∙ sym v.block.inside);
          out = y.out_is ∙ (x.holds.out_is ∙ sym v.out_is);
          owes = u.owes ∙ x.holds.owes;
          drawn = u.searched ∙ (x.holds.drawn ∙ sym u.drawn);
          whole = y.whole;
          free = y.free;
          pending = y.pending;
          few = let k = ap length y.prepared in omega (arith, k);
        };
        prepared = y.prepared;
      }

  -- .. or no range was there
  pub fits_nowhere : (d : Token) (last : Kept) → IsWithout e d n → last ≡ kept → FitsNowhereTaken a d tag addr size n flags out back last
  fits_nowhere d last w same =
      subst (λ (k : Kept). FitsNowhereTaken a d tag addr size n flags out back k) (sym same) (subst (λ (t : Token). FitsNowhereTaken a t tag addr size n flags out back kept) (sym w.same)
      (record { its = x.its; are = x.are; goes = x.goes; holds = x.holds; may = w.may; same = x.same }))
