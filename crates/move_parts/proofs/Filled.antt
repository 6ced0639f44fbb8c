-- Words that are copied and zeroed: what a caller alone has stays as it was.
use Rattle.std.proofs.Common.{◌≡◌, ℕ, zero, suc, ◌+◌, Bool, true, false, List, [], ◌∷◌, ◌++◌, length, refl, sym, ap, ◌∙◌, subst, arith}
use Rattle.heap_model.specs.declared.Act.{Act}
use Rattle.heap_model.specs.declared.Act.TheVariants as acts
use Rattle.heap_model.specs.declared.Layer.{Layer}
use Rattle.heap_model.specs.declared.Layer.TheVariants as layers
use Rattle.heap_model.specs.declared.Entry.{Entry}
use Rattle.heap_model.specs.declared.What.TheVariants as whats
use Rattle.heap_model.specs.Shape.{copying, zeros}
use Rattle.heap_model.specs.State.{Setting, places_of, in_hand}
use Rattle.heap_model.specs.CallState.{Configuration}
use Rattle.heap_model.specs.Legal.{after}
use Rattle.heap_model.specs.History.{configuration_after}
use Rattle.heap_model.specs.Agreement.{AgreesFor}
use Rattle.claim_rule.specs.Entries.{entry}
use Rattle.call_laws.specs.Within.{by_all}
use Rattle.heap_gate.specs.Calls.{Runs}
use Rattle.heap_gate.specs.Token.{Token, now}
use Rattle.data_words.specs.Clears.{IsCleared}
use Rattle.data_words.specs.Copies.{copies, IsCopied}
use Rattle.call_parts.specs.Entries.{Zeroes}
use Rattle.call_parts.proofs.Handing.{IsKept, zeroed}
use Rattle.call_parts.proofs.Joining.{setting_before}
use Rattle.call_parts.proofs.Tokens.{added_none, added_runs, added_then}
use Rattle.move_parts.specs.Moves.{IsSameFor, HasFilled}

as_same : (n : ℕ) (m k : Configuration) → IsKept n m k → IsSameFor n m k
as_same n m k x = record { locks = x.locks; hand = x.hand; back = x.back; large = x.large; vs = x.vs; spans = x.spans }

same_self : (n : ℕ) (m : Configuration) → IsSameFor n m m
same_self n m = record { locks = λ w. refl; hand = λ l. refl; back = λ h. refl; large = λ h. refl; vs = λ h. refl; spans = λ h. refl }

pub same_then : (n : ℕ) (m k j : Configuration) → IsSameFor n m k → IsSameFor n k j → IsSameFor n m j
same_then n m k j x y = record {
  locks = λ w. y.locks w ∙ x.locks w;
  hand = λ l. y.hand l ∙ x.hand l;
  back = λ h. y.back (x.locks whats.Back ∙ h) ∙ x.back h;
  large = λ h. y.large (x.locks whats.Large ∙ h) ∙ x.large h;
  vs = λ h. y.vs (x.locks whats.Vs ∙ h) ∙ x.vs h;
  spans = λ h. y.spans (x.locks whats.Vs ∙ h) ∙ x.spans h;
}

pub filled_none : (c : Token) → c.whole ≡ true → HasFilled c c []
filled_none c w = record { added = added_none c; out_is = refl; whole = w; pending = λ e. e; few = omega arith; same = λ s q. same_self c.number (now s c) }

pub filled_then : (a b c : Token) (xs ys : List Act) → HasFilled a b xs → HasFilled b c ys → HasFilled a c (xs ++ ys)
filled_then a b c xs ys x y = record {
  added = added_then a b c xs ys x.added y.added;
  out_is = y.out_is ∙ x.out_is;
  whole = y.whole;
  pending = λ e. y.pending (x.pending e);
  few = let f = x.few in let g = y.few in omega (arith, f, g);
  same = λ s q.
      let qb = setting_before b c ys y.added.goes s q in
      same_then a.number (now s a) (now s b) (now s c) (x.same s qb) (subst (λ (n : ℕ). IsSameFor n (now s b) (now s c)) x.added.goes.number (y.same s q));
}

---- Copied

copied_entries : (n from to : ℕ) (vs : List ℕ) → copies n from to vs ≡ by_all n (copying from to vs)
copied_entries n from to [] = refl
copied_entries n from to (v ∷ vs) = ap (λ (l : List Entry). entry n (acts.Load from v) ∷ entry n (acts.Store to v) ∷ l) (copied_entries n (from + 1) (to + 1) vs)

-- loads and stores change the words alone
copied_same : (s : Setting) (n : ℕ) (m k : Configuration) (from to : ℕ) (vs : List ℕ) → AgreesFor n k (configuration_after s m (copies n from to vs)) → IsSameFor n m k
copied_same s n m k from to [] a = record { locks = a.locks; hand = a.hands; back = a.back; large = a.large; vs = a.vs; spans = a.spans }
copied_same s n m k from to (v ∷ vs) a =
    let r = copied_same s n (after s (after s m (entry n (acts.Load from v))) (entry n (acts.Store to v))) k (from + 1) (to + 1) vs a in
    record { locks = r.locks; hand = hand r; back = r.back; large = r.large; vs = r.vs; spans = r.spans }
  where
    hand : IsSameFor n (after s (after s m (entry n (acts.Load from v))) (entry n (acts.Store to v))) k → (layer : Layer) → in_hand n (places_of k.state layer) ≡ in_hand n (places_of m.state layer)
    hand r layers.Lfh = r.hand layers.Lfh
    hand r layers.Vs = r.hand layers.Vs
    hand r layers.Back = r.hand layers.Back
    hand r layers.Large = r.hand layers.Large

pub filled_copied : (a b : Token) (from to : ℕ) (vs : List ℕ) → a.whole ≡ true → IsCopied a b from to vs → HasFilled a b (copying from to vs)
filled_copied a b from to [] w e = subst (λ (t : Token). HasFilled a t []) (sym e) (filled_none a w)
filled_copied a b from to (v ∷ vs) w e =
    let r : Runs a b (by_all a.number (copying from to (v ∷ vs))) = subst (Runs a b) (copied_entries a.number from to (v ∷ vs)) e.0 in
    let st = e.1 in
    record {
      added = added_runs a b (copying from to (v ∷ vs)) r st;
      out_is = st.out;
      whole = st.whole;
      pending = λ p. st.pending;
      few = let none = ap length st.prepared in omega (arith, none);
      same = λ s q. copied_same s a.number (now s a) (now s b) from to (v ∷ vs) (e.0.agrees s q);
    }

---- Zeroed

-- behind its steps nothing is pending
cleared_pending : (a b : Token) (word count : ℕ) → IsCleared a b word count → a.pending ≡ false → b.pending ≡ false
cleared_pending a b word zero x e = ap (λ (t : Token). t.pending) (x.none refl) ∙ e
cleared_pending a b word (suc k) x e = (x.stands (λ no. let bad : ⊥ = omega (arith, no) in bad)).pending

zeroes_pending : (a b : Token) (word count : ℕ) (zero_it : Bool) → Zeroes a b word count zero_it → a.pending ≡ false → b.pending ≡ false
zeroes_pending a b word count true x e = cleared_pending a b word count x e
zeroes_pending a b word count false x e = ap (λ (t : Token). t.pending) x ∙ e

pub filled_zeroed : (a b : Token) (word count : ℕ) (zero_it : Bool) → a.whole ≡ true → Zeroes a b word count zero_it → HasFilled a b (zeros zero_it word count)
filled_zeroed a b word count zero_it w z =
    let x = zeroed a b word count zero_it w z in
    record { added = x.added; out_is = x.out_is; whole = x.whole; pending = λ e. zeroes_pending a b word count zero_it z e; few = x.room; same = λ s q. as_same a.number (now s a) (now s b) (x.kept s q) }
