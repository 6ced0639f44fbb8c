-- What a caller has whose move goes on in VS, whether its old block is live still or was taken.
use Rattle.std.proofs.Common.{◌≡◌, ℕ, Bool, true, false, List, [], Some, sym, ap, ◌∙◌, subst}
use Rattle.std.specs.List.{find}
use Rattle.std.proofs.lemmas.Bool.{true≢false}
use Rattle.heap_model.specs.declared.Call.TheVariants as calls
use Rattle.heap_model.specs.declared.Flags.{Flags}
use Rattle.heap_model.specs.declared.Layer.{Layer}
use Rattle.heap_model.specs.declared.Layer.TheVariants as layers
use Rattle.heap_model.specs.State.{Place, is_layer, has_address, places_of}
use Rattle.heap_model.specs.Stay.{lets_stay}
use Rattle.heap_gate.specs.Token.{Token, Always, now}
use Rattle.move_parts.proofs.Movers.{IsMine, mover, held_mine}
use Rattle.move_to_front.specs.Halfway.{IsMovingOnAny}

pub record IsGoingOn (c : Token) (addr n : ℕ) (flags : Flags) (p : Place) (out : List ℕ) : Type 0 where
  pub call_is : c.call ≡ Some (calls.Realloc addr n flags)
  pub inside : c.inside ≡ true
  pub out_is : c.out ≡ out
  pub whole : c.whole ≡ true
  pub pending : c.pending ≡ false
  pub prepared : c.prepared ≡ []
  pub old : Always c (λ s. IsMine (now s c) c.number addr p)
  pub of_vs : p.layer ≡ layers.Vs → Always c (λ s. find (has_address addr) (now s c).state.vs.places ≡ Some p)
  pub leaves : Always c (λ s. lets_stay s.limits (now s c).state p n ≡ false)

pub going_on : (taken : Bool) (c : Token) (addr size n : ℕ) (flags : Flags) (p : Place) (out : List ℕ) → IsMovingOnAny taken c addr size n flags p out → IsGoingOn c addr n flags p out
going_on true c addr size n flags p out v =
    let m = mover true c addr size n flags p out v in
    record {
      call_is = v.call_is;
      inside = v.inside;
      out_is = v.out_is;
      whole = v.whole;
      pending = v.pending;
      prepared = v.prepared;
      old = m.old;
      of_vs = λ e s x. absurd (true≢false (ap (λ (l : Layer). is_layer l layers.Vs) (sym e ∙ (v.old s x).front)));
      leaves = v.leaves;
    }
going_on false c addr size n flags p out v = record {
  call_is = v.call_is;
  inside = v.inside;
  out_is = v.out_is;
  whole = v.whole;
  pending = v.pending;
  prepared = v.prepared;
  old = λ s x. held_mine (now s c) c.number addr size p (v.old s x);
  of_vs = λ e s x. subst (λ (l : Layer). find (has_address addr) (places_of (now s c).state l) ≡ Some p) e (v.old s x).there;
  leaves = v.leaves;
}
