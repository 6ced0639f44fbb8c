-- A caller with the new block in hand: what it may do then, and what is left.
use Rattle.std.proofs.Common.{◌≡◌, ℕ, true, false, List, [], ◌∷◌, Some, refl, sym, ap, ◌∙◌, subst}
use Rattle.std.specs.Prelude.{is_some}
use Rattle.std.specs.List.{find}
use Rattle.heap_model.specs.declared.Act.{Act}
use Rattle.heap_model.specs.declared.Act.TheVariants as acts
use Rattle.heap_model.specs.declared.Call.{Call}
use Rattle.heap_model.specs.declared.Layer.{Layer}
use Rattle.heap_model.specs.declared.Layer.TheVariants as layers
use Rattle.heap_model.specs.State.{Setting, State, Place, InHand, is_layer, address, has_address, is_entered, hands, places_of, remove_found}
use Rattle.heap_model.specs.CallState.{Configuration, CallState, Nothing}
use Rattle.heap_model.specs.Legal.{after, with_places, with_status, unspan_of}
use Rattle.heap_model.specs.History.{configuration_after}
use Rattle.claim_rule.specs.Entries.{IsSettingOf, entry, are_prepared}
use Rattle.call_laws.specs.Within.{by_all}
use Rattle.call_laws.proofs.Within.{updated_here}
use Rattle.heap_gate.specs.Calls.{HasRested, rested}
use Rattle.heap_gate.specs.Token.{Token, Always, now, IsStanding}
use Rattle.call_parts.specs.Entries.{with_all}
use Rattle.call_parts.proofs.Handing.{new_place, as_new}
use Rattle.call_parts.proofs.Tokens.{now_all}
use Rattle.move_parts.specs.Moves.{IsHeld, IsHalfway, with_given}
use Rattle.move_parts.specs.Places.{HasSwapped}
use Rattle.move_parts.proofs.Swapped as swap
use Rattle.move_parts.proofs.Dropped as drop

-- the place is not one of the back end
not_back : (l : Layer) → is_layer l layers.Back ≡ false → (c : ℕ) (p : Place) → p.layer ≡ l → unspan_of c (Some p) ≡ Nothing
not_back l h c p e = let k : is_layer p.layer layers.Back ≡ false = ap (λ (x : Layer). is_layer x layers.Back) e ∙ h in rw k refl

module _ (c : Token) (call : Call) (addr size n : ℕ) (p : Place) (l : Layer) (start granules : ℕ) (out : List ℕ) (h : IsHalfway c call addr size p (address (new_place c.number l start granules)) n (new_place c.number l start granules) out) (st : IsStanding c) where
  abbrev q : Place
  q = new_place c.number l start granules

  abbrev b : ℕ
  b = address q

  abbrev three : List Act
  three = acts.Take addr size ∷ acts.Give b n ∷ acts.Drop addr ∷ []

  module _ (s : Setting) (x : IsSettingOf c.opening c.roll s) where
    abbrev m : Configuration
    m = now s c

    pub ent : is_entered m.state.gate c.number ≡ true
    ent = (st s x).entered ∙ h.new.inside

    beg : is_some (m.now.calls c.number).call ≡ true
    beg = ap is_some ((st s x).call ∙ h.call_is)

    dem : m.now.demand ≡ Nothing
    dem = (st s x).demand h.new.whole

    abbrev pub given : Configuration
    given = after s m (entry c.number (acts.Give b n))

    pub given_state : given.state ≡ with_given m.state c.number q n
    given_state = swap.state_g s m c.number addr size p l start granules n (h.old s x) h.apart ent beg dem (h.new.hand s x) h.new.behind (h.new.open_to s x) h.new.suits_it

    pub given_held : IsHeld given c.number addr p size
    given_held = swap.held_g s m c.number addr size p l start granules n (h.old s x) h.apart ent beg dem (h.new.hand s x) h.new.behind (h.new.open_to s x) h.new.suits_it

    pub given_none : hands given.state c.number ≡ []
    given_none = swap.none_g s m c.number addr size p l start granules n (h.old s x) h.apart ent beg dem (h.new.hand s x) h.new.behind (h.new.open_to s x) h.new.suits_it

    pub given_begun : is_some (given.now.calls c.number).call ≡ true
    given_begun = ap (λ (k : CallState). is_some k.call) (updated_here m.now.calls c.number (m.now.calls c.number)) ∙ beg

    abbrev pub gone : Configuration
    gone = drop.m2 s given c.number addr size p given_held given_none ent given_begun

    pub may_change : (rest : List Act) → are_prepared s gone c.number (by_all c.number rest) ≡ true → are_prepared s m c.number (by_all c.number (acts.Take addr size ∷ acts.Give b n ∷ acts.Drop addr ∷ rest)) ≡ true
    may_change rest k =
        swap.swapped_may s m c.number addr size p l start granules n (h.old s x) h.apart ent beg dem (h.new.hand s x) h.new.behind (h.new.open_to s x) h.new.suits_it (acts.Drop addr ∷ rest)
        (drop.both_may s given c.number addr size p given_held given_none ent given_begun refl rest k)

    pub change_is : (rest : List Act) → configuration_after s m (by_all c.number (acts.Take addr size ∷ acts.Give b n ∷ acts.Drop addr ∷ rest)) ≡ configuration_after s gone (by_all c.number rest)
    change_is rest = swap.swapped_is s m c.number addr size p l start granules n (h.old s x) h.apart ent beg dem (h.new.hand s x) h.new.behind (h.new.open_to s x) h.new.suits_it (acts.Drop addr ∷ rest)

    pub gone_state : gone.state ≡ with_places (with_given m.state c.number q n) (Some p.layer) (remove_found (has_address addr))
    gone_state = drop.state2 s given c.number addr size p given_held given_none ent given_begun ∙ ap (λ (y : State). with_places y (Some p.layer) (remove_found (has_address addr))) given_state

    pub gone_hands : hands gone.state c.number ≡ []
    gone_hands = drop.hands2 s given c.number addr size p given_held given_none ent given_begun

    pub gone_demand : gone.now.demand ≡ unspan_of c.number (Some (with_status (InHand c.number) p))
    gone_demand = drop.demand2 s given c.number addr size p given_held given_none ent given_begun

    pub gone_begun : is_some (gone.now.calls c.number).call ≡ true
    gone_begun = drop.begun2 s given c.number addr size p given_held given_none ent given_begun

    pub gone_rests : is_layer p.layer layers.Back ≡ false → HasRested gone c.number
    gone_rests k = record { hands = gone_hands; demand = gone_demand ∙ not_back p.layer k c.number (with_status (InHand c.number) p) refl }

  pub three_may : Always c (λ s. are_prepared s (now s c) c.number (by_all c.number three) ≡ true)
  three_may s x = may_change s x [] refl

  abbrev t : Token
  t = with_all c three

  pub three_rest : is_layer p.layer layers.Back ≡ false → Always t (λ s. HasRested (now s t) c.number)
  three_rest k s x = subst (λ (y : Configuration). HasRested y c.number) (sym (now_all s c three ∙ change_is s x [])) (gone_rests s x k)

  pub swapped : (d : Token) → d ≡ rested t → HasSwapped c d addr size p b n q
  swapped d e = record {
    prepared = e;
    state = subst (λ (y : Token). Always y (λ s. (now s y).state ≡ with_places (with_given (now s c).state c.number q n) (Some p.layer) (remove_found (has_address addr)))) (sym e)
        (λ s x. ap (λ (y : Configuration). y.state) (now_all s c three ∙ change_is s x []) ∙ gone_state s x);
  }

---- By the place as it is named

module _ (c : Token) (call : Call) (addr size b n : ℕ) (p q : Place) (out : List ℕ) (h : IsHalfway c call addr size p b n q out) (st : IsStanding c) where
  abbrev made : Place
  made = new_place c.number q.layer q.start q.granules

  pub same : q ≡ made
  same = as_new c.number q h.new.status

  h1 : IsHalfway c call addr size p b n made out
  h1 = subst (λ (x : Place). IsHalfway c call addr size p b n x out) same h

  pub at : address made ≡ b
  at = h1.new.at

  pub h2 : IsHalfway c call addr size p (address made) n made out
  h2 = subst (λ (x : ℕ). IsHalfway c call addr size p x n made out) (sym at) h1

  abbrev pub all_three : List Act
  all_three = acts.Take addr size ∷ acts.Give b n ∷ acts.Drop addr ∷ []

  three_same : with_all c (acts.Take addr size ∷ acts.Give (address made) n ∷ acts.Drop addr ∷ []) ≡ with_all c all_three
  three_same = ap (λ (x : ℕ). with_all c (acts.Take addr size ∷ acts.Give x n ∷ acts.Drop addr ∷ [])) at

  pub swap_may : Always c (λ s. are_prepared s (now s c) c.number (by_all c.number all_three) ≡ true)
  swap_may = subst (λ (x : ℕ). Always c (λ s. are_prepared s (now s c) c.number (by_all c.number (acts.Take addr size ∷ acts.Give x n ∷ acts.Drop addr ∷ [])) ≡ true)) at
      (three_may c call addr size n p q.layer q.start q.granules out h2 st)

  pub swap_rest : is_layer p.layer layers.Back ≡ false → Always (with_all c all_three) (λ s. HasRested (now s (with_all c all_three)) (with_all c all_three).number)
  swap_rest k =
      let e : (with_all c all_three).number ≡ c.number = refl in
      subst (λ (y : Token). Always y (λ s. HasRested (now s y) c.number)) three_same (three_rest c call addr size n p q.layer q.start q.granules out h2 st k)

  pub swap_done : (d : Token) → d ≡ rested (with_all c all_three) → HasSwapped c d addr size p b n q
  swap_done d e =
      subst (λ (x : Place). HasSwapped c d addr size p b n x) (sym same)
      (subst (λ (x : ℕ). HasSwapped c d addr size p x n made) at (swapped c call addr size n p q.layer q.start q.granules out h2 st d (e ∙ sym (ap rested three_same))))

  -- once the new block is given the old one is there as it was
  pub given_held_now : Always c (λ s. find (has_address addr) (places_of (with_given (now s c).state c.number q n) p.layer) ≡ Some p)
  given_held_now s x =
      let k = given_held c call addr size n p q.layer q.start q.granules out h2 st s x in
      let e = given_state c call addr size n p q.layer q.start q.granules out h2 st s x in
      (λ i. find (has_address addr) (places_of (with_given (now s c).state c.number (same i) n) p.layer)) ∙ (ap (λ (y : State). find (has_address addr) (places_of y p.layer)) (sym e) ∙ k.there)

  module _ (s : Setting) (x : IsSettingOf c.opening c.roll s) where
    -- behind the three entries
    abbrev pub gone_then : Configuration
    gone_then = gone c call addr size n p q.layer q.start q.granules out h2 st s x

    pub then_may : (rest : List Act) → are_prepared s gone_then c.number (by_all c.number rest) ≡ true → are_prepared s (now s c) c.number (by_all c.number (acts.Take addr size ∷ acts.Give b n ∷ acts.Drop addr ∷ rest)) ≡ true
    then_may rest k = subst (λ (y : ℕ). are_prepared s (now s c) c.number (by_all c.number (acts.Take addr size ∷ acts.Give y n ∷ acts.Drop addr ∷ rest)) ≡ true) at
        (may_change c call addr size n p q.layer q.start q.granules out h2 st s x rest k)

    pub then_is : (rest : List Act) → configuration_after s (now s c) (by_all c.number (acts.Take addr size ∷ acts.Give b n ∷ acts.Drop addr ∷ rest)) ≡ configuration_after s gone_then (by_all c.number rest)
    then_is rest = ap (λ (y : ℕ). configuration_after s (now s c) (by_all c.number (acts.Take addr size ∷ acts.Give y n ∷ acts.Drop addr ∷ rest))) (sym at)
        ∙ change_is c call addr size n p q.layer q.start q.granules out h2 st s x rest

    pub then_state : gone_then.state ≡ with_places (with_given (now s c).state c.number q n) (Some p.layer) (remove_found (has_address addr))
    then_state = gone_state c call addr size n p q.layer q.start q.granules out h2 st s x ∙ (λ i. with_places (with_given (now s c).state c.number (sym same i) n) (Some p.layer) (remove_found (has_address addr)))

    pub then_hands : hands gone_then.state c.number ≡ []
    then_hands = gone_hands c call addr size n p q.layer q.start q.granules out h2 st s x

    pub then_demand : gone_then.now.demand ≡ unspan_of c.number (Some (with_status (InHand c.number) p))
    then_demand = gone_demand c call addr size n p q.layer q.start q.granules out h2 st s x

    pub then_begun : is_some (gone_then.now.calls c.number).call ≡ true
    then_begun = gone_begun c call addr size n p q.layer q.start q.granules out h2 st s x
