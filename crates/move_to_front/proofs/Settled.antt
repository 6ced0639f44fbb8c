-- Behind a load nothing is prepared: the new place of VS is in hand still.
use Rattle.std.proofs.Common.{◌≡◌, ℕ, true, false, List, [], ◌∷◌, ◌++◌, length, ap, ◌∙◌, subst, arith}
use Rattle.std.proofs.lemmas.List.{append-nil}
use Rattle.heap_model.specs.declared.Call.TheVariants as calls
use Rattle.heap_model.specs.declared.Flags.{Flags}
use Rattle.heap_model.specs.declared.What.TheVariants as whats
use Rattle.heap_model.specs.State.{Place}
use Rattle.backend_fit.specs.Kept.{Kept}
use Rattle.vs_layer.specs.Kept.{VsKept}
use Rattle.heap_gate.specs.Token.{Token, IsStanding, is_out}
use Rattle.heap_gate.specs.Calls.{Runs, Stands, stance}
use Rattle.call_parts.specs.Entries.{HasAdded}
use Rattle.call_parts.proofs.Tokens.{added_runs, added_then}
use Rattle.move_parts.specs.Moves.{HasFilled}
use Rattle.move_parts.specs.Places.{HasMade, HasHeldAnew}
use Rattle.move_parts.proofs.Stays.{half_filled, will_vs, will_back, will_large}
use Rattle.move_to_front.specs.Halfway.{HasHeldSettled}

-- a load adds nothing
pub filled_loaded : (t u : Token) → Runs t u [] → Stands u (stance t) → HasFilled t u []
filled_loaded t u r s = record {
  added = added_runs t u [] r s;
  out_is = s.out;
  whole = s.whole;
  pending = λ e. s.pending;
  few = let none = ap length s.prepared in omega (arith, none);
  same = λ k q. let a = r.agrees k q in record { locks = a.locks; hand = a.hands; back = a.back; large = a.large; vs = a.vs; spans = a.spans };
}

module _ (c t u : Token) (addr size n : ℕ) (flags : Flags) (p : Place) (out : List ℕ) (b : ℕ) (more : VsKept) (kept : Kept) (h : HasHeldAnew false c t addr size n flags p out b more kept) (r : Runs t u []) (s : Stands u (stance t)) (st : IsStanding t) where
  f : HasFilled t u []
  f = filled_loaded t u r s

  made : HasMade c u p n h.place
  made =
      let list = h.held.made.reserves ++ h.held.made.begins ∷ h.held.made.more in
      record {
        reserves = h.held.made.reserves;
        begins = h.held.made.begins;
        more = h.held.made.more;
        added = subst (HasAdded c u) (append-nil list) (added_then c t u list [] h.held.made.added f.added);
        begins_it = h.held.made.begins_it;
        no_begin = h.held.made.no_begin;
        shape_is = h.held.made.shape_is;
        reserves_are = h.held.made.reserves_are;
      }

  pub settled : is_out whats.Vs out ≡ true → is_out whats.Back out ≡ true → HasHeldSettled c u addr size n flags p out b more kept
  settled vs_out back_out = record {
    place = h.place;
    half = half_filled t u [] f (calls.Realloc addr n flags) addr size b n p h.place out h.held.half;
    made = made;
    vs = will_vs t u [] f st h.place n (ap (is_out whats.Vs) h.held.half.out_is ∙ vs_out) more h.vs;
    back = will_back t u [] f st h.place n (ap (is_out whats.Back) h.held.half.out_is ∙ back_out) kept h.back;
    large = λ o large x. will_large t u [] f st h.place n (ap (is_out whats.Large) h.held.half.out_is ∙ o) large (h.large large x);
    prepared = s.prepared;
    legal = r.does.legal;
  }
