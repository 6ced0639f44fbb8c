-- A new block was held, its words were filled, and the old one went.
use Rattle.std.proofs.Common.{◌≡◌, ℕ, false, List, ◌∷◌, length, sym, ◌∙◌, arith}
use Rattle.std.specs.Prelude.{min}
use Rattle.heap_model.specs.declared.Act.TheVariants as acts
use Rattle.heap_model.specs.declared.Flags.{Flags}
use Rattle.heap_model.specs.Geometry.{words_of}
use Rattle.heap_model.specs.Shape.{moving}
use Rattle.heap_model.specs.State.{Place}
use Rattle.heap_gate.specs.Token.{Token}
use Rattle.call_parts.proofs.Tokens.{added_then}
use Rattle.move_parts.specs.Moves.{IsMoving, HasFilled}
use Rattle.move_parts.specs.Moved.{HasMoved}
use Rattle.move_parts.specs.Places.{HasHeld, HasChanged}

pub moved : (c t u d : Token) (addr size n : ℕ) (flags : Flags) (p : Place) (out : List ℕ) (b : ℕ) (q : Place) (values : List ℕ) → IsMoving c addr size n flags p out → HasHeld false c t addr size n flags p out b q → length values ≡ words_of (min size n)
    → HasFilled t u (moving addr size b n flags.zero values) → HasChanged u d addr size b n → HasMoved c d addr size n flags p b
moved c t u d addr size n flags p out b q values v h count f e =
    let few = h.half.few in let fill = f.few in let last = e.few in
    record {
      place = q;
      at = h.half.new.at;
      between = t;
      made = h.made;
      values = values;
      count = count;
      last = e.last;
      last_is = e.last_is;
      rest = added_then t u d (moving addr size b n flags.zero values) (acts.Take addr size ∷ acts.Give b n ∷ acts.Drop addr ∷ e.last) f.added e.added;
      out_is = e.out_is ∙ (f.out_is ∙ (h.half.out_is ∙ sym v.serving.out_is));
      whole = e.whole;
      free = e.free;
      pending = e.pending ∙ f.pending h.half.pending;
      few = omega (arith, few, fill, last);
    }
