-- What becomes of the block, behind acts of which no shape shows anything and that begin no move.
use Rattle.std.proofs.Common.{◌≡◌, ℕ, ◌+◌, Bool, true, false, not, List, [], ◌∷◌, ◌++◌, refl, ap, ◌∙◌, subst, inl, inr}
use Rattle.std.specs.Prelude.{Result, Ok, Err}
use Rattle.std.specs.List.{list_any}
use Rattle.std.proofs.lemmas.Bool.{cases_Bool, and_parts, false≢true}
use Rattle.heap_model.specs.declared.Act.{Act}
use Rattle.heap_model.specs.declared.Act.TheVariants as acts
use Rattle.heap_model.specs.declared.Busy.{Busy}
use Rattle.heap_model.specs.declared.Call.TheVariants as calls
use Rattle.heap_model.specs.declared.Flags.{Flags}
use Rattle.heap_model.specs.declared.Opening.{Opening}
use Rattle.heap_model.specs.declared.ReNo.{ReNo}
use Rattle.heap_model.specs.declared.ReNo.TheVariants as re_nos
use Rattle.heap_model.specs.State.{Setting}
use Rattle.heap_model.specs.Moments.{Moment, acts_of}
use Rattle.heap_model.specs.Shape.{shape_of, is_left_out, begins_move, is_no_fit, IsMoved, HasNoRange}
use Rattle.heap_gate.specs.Token.{Token}
use Rattle.address_calls.specs.Finds.{Looks}
use Rattle.address_calls.proofs.Behind.{none_moves}
use Rattle.stay_calls.proofs.Behind.{none_shown, before_later, shown_later, makes_behind, told_behind}
use Rattle.move_calls.specs.Moves.{MayTry, IsInTheWay, Moves}

pub no_fit_shown : (act : Act) → is_no_fit act ≡ true → is_left_out act ≡ false
no_fit_shown (acts.NoFit size) h = refl
no_fit_shown _ h = absurd (false≢true h)

not_any : (xs : List Act) → none_moves xs ≡ true → list_any begins_move xs ≡ false
not_any [] h = refl
not_any (x ∷ xs) h =
    let p = and_parts (not (begins_move x)) (none_moves xs) h in
    let rest = not_any xs p.1 in
    elim (cases_Bool (begins_move x)) [
      | inl e ↦ let bad : false ≡ true = rw e at p.0 in absurd (false≢true bad)
      | inr e ↦ rw e rest
    ]

module _ (s : Setting) (c addr n : ℕ) (xs ys : List Moment) (hidden : shape_of (acts_of xs) ≡ []) where
  moved_later : {zero_it : Bool} {b : ℕ} → list_any begins_move (acts_of xs) ≡ false → IsMoved s c addr n zero_it b ys → IsMoved s c addr n zero_it b (xs ++ ys)
  moved_later none x = record {
    old = x.old;
    size = x.size;
    made = x.made;
    values = x.values;
    moves = x.moves;
    leaves = before_later begins_move _ xs ys none x.leaves;
    address_is = x.address_is;
    count = x.count;
    moves_are = x.moves_are;
    acts_are = shown_later xs ys hidden ∙ x.acts_are;
  }

  no_range_later : HasNoRange s c addr n ys → HasNoRange s c addr n (xs ++ ys)
  no_range_later x = record {
    old = x.old;
    size = x.size;
    there = x.there;
    leaves = before_later is_no_fit _ xs ys (none_shown is_no_fit no_fit_shown (acts_of xs) hidden) x.leaves;
    acts_are = shown_later xs ys hidden ∙ x.acts_are;
  }

module _ (a b d : Token) (x : Looks a b) (na : a.prepared ≡ []) (nb : b.prepared ≡ []) (addr n : ℕ) (flags : Flags) where
  pub way_behind : (w : Busy) → IsInTheWay b d addr n flags w → IsInTheWay a d addr n flags w
  way_behind w m = record {
    shape = m.shape;
    made = makes_behind a b d x na nb (calls.Realloc addr n flags) m.shape m.made;
    hindered = m.hindered;
    another = (m.another.0, subst (λ (k : ℕ). w.word ≡ k + 1 → ⊥) x.added.goes.number m.another.1);
    may = subst (λ (o : Opening). MayTry o.limits addr n w.what) x.added.goes.opening m.may;
  }

  pub moves_behind : (r : Result ℕ ReNo) → Moves b d addr n flags r → Moves a d addr n flags r
  moves_behind (Ok to) m =
      told_behind a b d x na nb (λ s c xs. IsMoved s c addr n flags.zero to xs)
      (λ s c xs ys e h. moved_later s c addr n xs ys (ap shape_of e ∙ x.shape_is) (ap (list_any begins_move) e ∙ not_any x.rest x.no_move) h) (calls.Realloc addr n flags) m
  moves_behind (Err re_nos.NoFit) m =
      told_behind a b d x na nb (λ s c xs. HasNoRange s c addr n xs) (λ s c xs ys e h. no_range_later s c addr n xs ys (ap shape_of e ∙ x.shape_is) h) (calls.Realloc addr n flags) m
  moves_behind (Err (re_nos.Busy w)) m = way_behind w m
  moves_behind (Err re_nos.NotLive) m = m
  moves_behind (Err re_nos.NoRoomInPlace) m = m
