-- A block of the front end that is all that is in hand is the only place of its layer there, and none of another one is.
use Rattle.std.proofs.Common.{◌≡◌, ℕ, ◌/◌, true, false, List, [], ◌∷◌, ◌++◌, Some, refl, sym, ap, ◌∙◌, arith, inl, inr}
use Rattle.std.specs.Prelude.{cond}
use Rattle.std.specs.List.{find, AllByRecursion}
use Rattle.std.proofs.lemmas.Bool.{cases_Bool, eqb-true, true≢false, false≢true}
use Rattle.heap_model.specs.declared.Layer.{Layer}
use Rattle.heap_model.specs.declared.Layer.TheVariants as layers
use Rattle.heap_model.specs.Agreement.{HasHomes}
use Rattle.heap_model.specs.Buckets.{block_size}
use Rattle.heap_model.specs.CallState.{Configuration}
use Rattle.heap_model.specs.State.{State, Place, Status, Live, InHand, address, has_address, is_layer, is_in_hand_of, in_hand, hands, places_of}
use Rattle.heap_soundness.proofs.Lists.{all_at, found_passes}
use Rattle.step_parts.specs.InHand.{HasBlock}
use Rattle.step_parts.proofs.ChangedPlaces.{lfh_address}
use Rattle.call_parts.specs.Entries.{holding}
use Rattle.move_parts.specs.Moves.{IsTaken}
use Rattle.move_parts.proofs.Put.{in_one}
use Rattle.move_taken.specs.Holds.{taken_place}

-- two lists make a list of one, and it is not in the second one
first_only : (xs ys : List Place) (p : Place) → xs ++ ys ≡ p ∷ [] → (ys ≡ p ∷ [] → ⊥) → (xs ≡ p ∷ []) × (ys ≡ [])
first_only [] ys p e off = absurd (off e)
first_only (x ∷ []) ys p e off = let same : x ≡ p = cc (e) in let rest : ys ≡ [] = cc (e) in (ap (λ (y : Place). y ∷ []) same, rest)
first_only (x ∷ y ∷ zs) ys p e off = absurd (let bad : ⊥ = cc (e) in bad)

not_of : (c : ℕ) (l : Layer) (ps : List Place) (p : Place) → AllByRecursion (λ (x : Place). x.layer ≡ l) ps → p.layer ≡ layers.Lfh → is_layer l layers.Lfh ≡ false → in_hand c ps ≡ p ∷ [] → ⊥
not_of c l ps p all front other e =
    let at : p.layer ≡ l = all_at (λ (x : Place). x.layer ≡ l) p ps all (in_one c p ps e) in
    true≢false (ap (λ (k : Layer). is_layer k layers.Lfh) (sym front ∙ at) ∙ other)

pub by_layers : (st : State) (c : ℕ) (p : Place) → HasHomes st → p.layer ≡ layers.Lfh → hands st c ≡ p ∷ [] → (layer : Layer) → in_hand c (places_of st layer) ≡ holding p layer
by_layers st c p homes front e layer = by layer ∙ ap (λ (l : Layer). cond (is_layer layer l) (p ∷ []) []) (sym front)
  where
    one : (in_hand c st.lfh ++ in_hand c st.vs.places ++ in_hand c st.back.places ≡ p ∷ []) × (in_hand c st.large ≡ [])
    one = first_only (in_hand c st.lfh ++ in_hand c st.vs.places ++ in_hand c st.back.places) (in_hand c st.large) p e (not_of c layers.Large st.large p homes.large front refl)

    two : (in_hand c st.lfh ++ in_hand c st.vs.places ≡ p ∷ []) × (in_hand c st.back.places ≡ [])
    two = first_only (in_hand c st.lfh ++ in_hand c st.vs.places) (in_hand c st.back.places) p one.0 (not_of c layers.Back st.back.places p homes.back front refl)

    three : (in_hand c st.lfh ≡ p ∷ []) × (in_hand c st.vs.places ≡ [])
    three = first_only (in_hand c st.lfh) (in_hand c st.vs.places) p two.0 (not_of c layers.Vs st.vs.places p homes.vs front refl)

    by : (j : Layer) → in_hand c (places_of st j) ≡ cond (is_layer j layers.Lfh) (p ∷ []) []
    by layers.Lfh = three.0
    by layers.Vs = three.1
    by layers.Back = two.1
    by layers.Large = one.1

---- Which place it is

in_status : (c : ℕ) (p : Place) (ps : List Place) → in_hand c ps ≡ p ∷ [] → p.status ≡ InHand c
in_status c p [] e = absurd (let bad : ⊥ = cc (e) in bad)
in_status c p (x ∷ xs) e = elim (cases_Bool (is_in_hand_of c x.status)) [
  | inl h ↦
      let f : x ∷ in_hand c xs ≡ p ∷ [] = rw h at e in
      let same : x ≡ p = cc in ap (λ (y : Place). y.status) (sym same) ∙ by x.status h
  | inr h ↦ in_status c p xs (rw h at e)
]
  where
    by : (t : Status) → is_in_hand_of c t ≡ true → t ≡ InHand c
    by (Live size) h = absurd (false≢true h)
    by (InHand d) h = ap InHand (eqb-true d c h)

module _ (m : Configuration) (c b addr : ℕ) (homes : HasHomes m.state) (block : HasBlock m c b addr) (alone : (p : Place) × (hands m.state c ≡ p ∷ [])) where
  abbrev p : Place
  p = block.hand.place

  found : find (has_address addr) (alone.0 ∷ []) ≡ Some p
  found = ap (find (has_address addr)) (sym alone.1) ∙ block.hand.hand

  at : address p ≡ addr
  at = eqb-true (address p) addr (found_passes (has_address addr) (alone.0 ∷ []) p found)

  same : alone.0 ≡ p
  same = elim (cases_Bool (has_address addr alone.0)) [
    | inl e ↦ let f : Some alone.0 ≡ Some p = rw e at found in cc
    | inr e ↦ absurd (let f = rw e at found in let bad : ⊥ = cc in bad)
  ]

  all : hands m.state c ≡ p ∷ []
  all = alone.1 ∙ ap (λ (x : Place). x ∷ []) same

  lists : (layer : Layer) → in_hand c (places_of m.state layer) ≡ holding p layer
  lists = by_layers m.state c p homes block.hand.layer all

  front : in_hand c m.state.lfh ≡ p ∷ []
  front = lists layers.Lfh ∙ ap (λ (l : Layer). cond (is_layer layers.Lfh l) (p ∷ []) []) block.hand.layer

  pub is_place : p ≡ taken_place b addr c
  is_place =
      let start : p.start ≡ addr = sym (lfh_address p block.hand.layer) ∙ at in
      let long = block.long in
      let granules : p.granules ≡ block_size b / 16 = omega (arith, long) in
      let status = in_status c p m.state.lfh front in
      let layer = block.hand.layer in
      (λ i. record { start = start i; granules = granules i; layer = layer i; status = status i })

  pub is_taken : IsTaken m c addr (taken_place b addr c)
  is_taken = record {
    at = refl;
    front = refl;
    status = refl;
    hand = λ layer. lists layer ∙ ap (λ (x : Place). holding x layer) is_place;
  }
