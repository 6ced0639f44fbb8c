-- Places by their addresses, and the live blocks.
use Rattle.std.proofs.Common.{◌≡◌, ℕ, ◌+◌, ◌-◌, ◌*◌, ◌<◌, ◌≤◌, Bool, true, false, cond, List, [], ◌∷◌, ◌++◌, Some, refl, sym, ap, ◌∙◌, subst, arith, inl, inr, ◌⊎◌}
use Rattle.std.specs.Prelude.{filter_map, option_map}
use Rattle.std.specs.List.{find, AllByRecursion, cons_option}
use Rattle.std.proofs.lemmas.Bool.{cases_Bool, eqb-true, eq-eqb}
use Rattle.heap_model.specs.declared.Block.{Block}
use Rattle.heap_model.specs.declared.Layer.TheVariants as layers
use Rattle.heap_model.specs.declared.What.TheVariants as whats
use Rattle.heap_model.specs.State.{State, Setting, Place, Status, Live, InHand, address, room, is_layer, all_places, exclusive_places, hands, in_hand, is_in_hand_of, guarded, holds, has_address, place_at, by_address, block_of, live_size}
use Rattle.heap_model.specs.CallState.{Configuration}
use Rattle.heap_soundness.specs.Sound.{IsOneOf, AreApart, AreDisjoint, IsAligned, HasSoundSize, IsInFrontOf, AreInOrderBlocks, HasRoom, HasSoundBlocks}
use Rattle.heap_soundness.specs.Invariant.{Keeps}
use Rattle.heap_soundness.specs.Legal.{HaveOneAddress}
use Rattle.heap_soundness.proofs.Lists.{all_at, apart_swap, found_passes, found_in, find_some}
use Rattle.heap_soundness.proofs.GapRuns.{filtered_cases}
use Rattle.heap_soundness.proofs.ByStart.{all_by_address, IsBefore, AreByStart, by_address_by_start}
use Rattle.heap_soundness.proofs.Whole.{HasAddress, all_disjoint, all_addresses, of_all}

---- One place has an address

pub members_apart : (ps : List Place) (p q : Place) → AreDisjoint ps → IsOneOf p ps → IsOneOf q ps → (p ≡ q) ⊎ AreApart p q
members_apart [] p q a i j = absurd i
members_apart (x ∷ xs) p q a (inl e) (inl f) = inl (sym e ∙ f)
members_apart (x ∷ xs) p q a (inl e) (inr j) = inr (subst (λ (z : Place). AreApart z q) e (all_at (AreApart x) q xs a.0 j))
members_apart (x ∷ xs) p q a (inr i) (inl f) = inr (apart_swap q p (subst (λ (z : Place). AreApart z p) f (all_at (AreApart x) p xs a.0 i)))
members_apart (x ∷ xs) p q a (inr i) (inr j) = members_apart xs p q a.1 i j

-- no two places have one address
pub one_address : (ps : List Place) (p q : Place) → AreDisjoint ps → AllByRecursion HasAddress ps → IsOneOf p ps → IsOneOf q ps → address p ≡ address q → p ≡ q
one_address ps p q a h i j e = elim (members_apart ps p q a i j) [
  | inl f ↦ f
  | inr f ↦
      let u = all_at HasAddress p ps h i in
      let v = all_at HasAddress q ps h j in
      let ul = u.low in
      let uh = u.high in
      let vl = v.low in
      let vh = v.high in
      absurd (elim f [ inl l ↦ omega arith | inr l ↦ omega arith ])
]

find_append : (t : Place → Bool) (xs ys : List Place) → ((p : Place) → IsOneOf p xs → IsOneOf p ys) → ((p q : Place) → IsOneOf p ys → IsOneOf q ys → t p ≡ true → t q ≡ true → p ≡ q) → find t (xs ++ ys) ≡ find t ys
find_append t [] ys f g = refl
find_append t (x ∷ xs) ys f g = elim (cases_Bool (t x)) [
  | inl e ↦
      let r = find_some t ys x (f x (inl refl)) e in
      rw e (ap Some (g x r.0 (f x (inl refl)) (found_in t ys r.0 r.1) e (found_passes t ys r.0 r.1)) ∙ sym r.1)
  | inr e ↦ rw e (find_append t xs ys (λ p i. f p (inr i)) g)
]

pub in_parts : {A : Type 0} (x : A) (xs ys : List A) → IsOneOf x (xs ++ ys) → IsOneOf x xs ⊎ IsOneOf x ys
in_parts x [] ys i = inr i
in_parts x (y ∷ xs) ys (inl e) = inl (inl e)
in_parts x (y ∷ xs) ys (inr i) = elim (in_parts x xs ys i) [ inl j ↦ inl (inr j) | inr j ↦ inr j ]

in_left : {A : Type 0} (x : A) (xs ys : List A) → IsOneOf x xs → IsOneOf x (xs ++ ys)
in_left x [] ys i = absurd i
in_left x (y ∷ xs) ys (inl e) = inl e
in_left x (y ∷ xs) ys (inr i) = inr (in_left x xs ys i)

in_right : {A : Type 0} (x : A) (xs ys : List A) → IsOneOf x ys → IsOneOf x (xs ++ ys)
in_right x [] ys i = i
in_right x (y ∷ xs) ys i = inr (in_right x xs ys i)

module _ (st : State) (c : ℕ) (p : Place) where
  of_lfh : IsOneOf p st.lfh → IsOneOf p (all_places st)
  of_lfh i = in_left p (st.lfh ++ st.vs.places ++ st.back.places) st.large (in_left p (st.lfh ++ st.vs.places) st.back.places (in_left p st.lfh st.vs.places i))

  of_vs : IsOneOf p st.vs.places → IsOneOf p (all_places st)
  of_vs i = in_left p (st.lfh ++ st.vs.places ++ st.back.places) st.large (in_left p (st.lfh ++ st.vs.places) st.back.places (in_right p st.lfh st.vs.places i))

  of_back : IsOneOf p st.back.places → IsOneOf p (all_places st)
  of_back i = in_left p (st.lfh ++ st.vs.places ++ st.back.places) st.large (in_right p (st.lfh ++ st.vs.places) st.back.places i)

  of_large : IsOneOf p st.large → IsOneOf p (all_places st)
  of_large i = in_right p (st.lfh ++ st.vs.places ++ st.back.places) st.large i

  from_hand : (ps : List Place) → IsOneOf p (in_hand c ps) → IsOneOf p ps
  from_hand ps i = (filtered_cases (λ (q : Place). is_in_hand_of c q.status) p ps i).0

  from_guarded : (ps : List Place) (b : Bool) → IsOneOf p (guarded ps b) → IsOneOf p ps
  from_guarded ps true i = i
  from_guarded ps false i = absurd i

  from_hands : IsOneOf p (hands st c) → IsOneOf p (all_places st)
  from_hands i = elim (in_parts p (in_hand c st.lfh ++ in_hand c st.vs.places ++ in_hand c st.back.places) (in_hand c st.large) i) [
    | inr j ↦ of_large (from_hand st.large j)
    | inl j ↦ elim (in_parts p (in_hand c st.lfh ++ in_hand c st.vs.places) (in_hand c st.back.places) j) [
      | inr k ↦ of_back (from_hand st.back.places k)
      | inl k ↦ elim (in_parts p (in_hand c st.lfh) (in_hand c st.vs.places) k) [ inl l ↦ of_lfh (from_hand st.lfh l) | inr l ↦ of_vs (from_hand st.vs.places l) ]
    ]
  ]

  pub exclusive_in_all : IsOneOf p (exclusive_places st c) → IsOneOf p (all_places st)
  exclusive_in_all i = elim (in_parts p (hands st c ++ guarded st.vs.places (holds st.gate c whats.Vs) ++ guarded st.back.places (holds st.gate c whats.Back)) (guarded st.large (holds st.gate c whats.Large)) i) [
    | inr j ↦ of_large (from_guarded st.large (holds st.gate c whats.Large) j)
    | inl j ↦ elim (in_parts p (hands st c ++ guarded st.vs.places (holds st.gate c whats.Vs)) (guarded st.back.places (holds st.gate c whats.Back)) j) [
      | inr k ↦ of_back (from_guarded st.back.places (holds st.gate c whats.Back) k)
      | inl k ↦ elim (in_parts p (hands st c) (guarded st.vs.places (holds st.gate c whats.Vs)) k) [ inl l ↦ from_hands l | inr l ↦ of_vs (from_guarded st.vs.places (holds st.gate c whats.Vs) l) ]
    ]
  ]

-- whoever looks, the place of an address is that among all places
pub place_among_all : (s : Setting) (m : Configuration) (c a : ℕ) → Keeps s m → place_at m.state c a ≡ find (has_address a) (all_places m.state)
place_among_all s m c a w = find_append (has_address a) (exclusive_places m.state c) (all_places m.state) (λ p i. exclusive_in_all m.state c p i)
    (λ p q i j e f. one_address (all_places m.state) p q (all_disjoint s m w) (all_addresses s m w) i j (eqb-true (address p) a e ∙ sym (eqb-true (address q) a f)))

-- a place that passes a test that only it passes is found
only_found : (t : Place → Bool) (ps : List Place) (p : Place) → IsOneOf p ps → t p ≡ true → ((q : Place) → IsOneOf q ps → t q ≡ true → p ≡ q) → find t ps ≡ Some p
only_found t ps p i h f = let r = find_some t ps p i h in r.1 ∙ ap Some (sym (f r.0 (found_in t ps r.0 r.1) (found_passes t ps r.0 r.1)))

pub found_at : (s : Setting) (m : Configuration) → Keeps s m → (p : Place) (c a : ℕ) → IsOneOf p (all_places m.state) → address p ≡ a → place_at m.state c a ≡ Some p
found_at s m w p c a i e =
    place_among_all s m c a w
    ∙ only_found (has_address a) (all_places m.state) p i (eq-eqb (address p) a e) (λ q j f. one_address (all_places m.state) p q (all_disjoint s m w) (all_addresses s m w) i j (e ∙ sym (eqb-true (address q) a f)))

pub addresses_sound : (s : Setting) (m : Configuration) → Keeps s m → HaveOneAddress m.state
addresses_sound s m w = record {
  place = λ p i c. found_at s m w p c (address p) i refl;
  hand = λ c a p h. found_at s m w p c a (from_hands m.state c p (found_in (has_address a) (hands m.state c) p h)) (eqb-true (address p) a (found_passes (has_address a) (hands m.state c) p h));
  same = λ c d a. place_among_all s m c a w ∙ sym (place_among_all s m d a w);
}

---- Live blocks

-- what is known of each place
record IsKnown (all : List Place) (p : Place) : Type 0 where
  there : IsOneOf p all
  address : HasAddress p
  size : HasSoundSize p p.status

end_of_room : (p : Place) → HasAddress p → address p + room p ≤ p.start + 16 * p.granules
end_of_room p h = by_layer (is_layer p.layer layers.Vs) h.low h.high
  where
    by_layer : (b : Bool) → p.start ≤ cond b (p.start + 16) p.start → cond b (p.start + 16) p.start < p.start + 16 * p.granules → cond b (p.start + 16) p.start + cond b (16 * p.granules - 16) (16 * p.granules) ≤ p.start + 16 * p.granules
    by_layer true l h = omega arith
    by_layer false l h = omega arith

-- a place in front of others: its block, where it is live
block_more : (P : Block → Type 0) (p : Place) (t : Status) (bs : List Block) → ((size : ℕ) → t ≡ Live size → P (record { addr = address p; size = size; layer = p.layer })) → AllByRecursion P bs →
    AllByRecursion P (cons_option (option_map (λ size. record { addr = address p; size = size; layer = p.layer }) (live_size t)) bs)
block_more P p (Live size) bs f a = (f size refl, a)
block_more P p (InHand c) bs f a = a

blocks_all : (K : Place → Type 0) (P : Block → Type 0) (ps : List Place) → ((p : Place) (size : ℕ) → K p → p.status ≡ Live size → P (record { addr = address p; size = size; layer = p.layer })) → AllByRecursion K ps → AllByRecursion P (filter_map block_of ps)
blocks_all K P [] f a = tt
blocks_all K P (p ∷ ps) f a = block_more P p p.status (filter_map block_of ps) (λ size e. f p size a.0 e) (blocks_all K P ps f a.1)

room_of : (all : List Place) (p : Place) (size : ℕ) → IsKnown all p → p.status ≡ Live size → size ≤ room p
room_of all p size k e = (subst (HasSoundSize p) e k.size).0

in_front : (all : List Place) (p q : Place) (n : ℕ) → IsKnown all p → IsKnown all q → p.status ≡ Live n → IsBefore p q → (address p < address q) × (address p + n ≤ address q)
in_front all p q n u v e h =
    let a = room_of all p n u e in
    let c = end_of_room p u.address in
    let i = u.address.high in
    let j = v.address.low in
    let k = v.address.high in
    let l = h.0 in
    let r : p.start + 16 * p.granules ≤ q.start = elim h.1 [ inl m ↦ m | inr m ↦ absurd (omega arith) ] in
    (omega arith, omega arith)

both : (P Q : Place → Type 0) (ps : List Place) → AllByRecursion P ps → AllByRecursion Q ps → AllByRecursion (λ p. P p × Q p) ps
both P Q [] a b = tt
both P Q (p ∷ ps) a b = ((a.0, b.0), both P Q ps a.1 b.1)

order_more : (p : Place) (t : Status) (bs : List Block) → ((size : ℕ) → t ≡ Live size → AllByRecursion (IsInFrontOf (record { addr = address p; size = size; layer = p.layer })) bs) → AreInOrderBlocks bs →
    AreInOrderBlocks (cons_option (option_map (λ size. record { addr = address p; size = size; layer = p.layer }) (live_size t)) bs)
order_more p (Live size) bs f a = (f size refl, a)
order_more p (InHand c) bs f a = a

blocks_in_order : (all ps : List Place) → AreByStart ps → AllByRecursion (IsKnown all) ps → AreInOrderBlocks (filter_map block_of ps)
blocks_in_order all [] a k = tt
blocks_in_order all (p ∷ ps) a k =
    order_more p p.status (filter_map block_of ps)
    (λ size e. blocks_all (λ q. IsBefore p q × IsKnown all q) (IsInFrontOf (record { addr = address p; size = size; layer = p.layer })) ps
    (λ q n h f. in_front all p q size k.0 h.1 e h.0) (both (IsBefore p) (IsKnown all) ps a.0 k.1))
    (blocks_in_order all ps a.1 k.1)

known : (all ps : List Place) → ((p : Place) → IsOneOf p ps → IsOneOf p all) → AllByRecursion HasAddress ps → AllByRecursion (λ p. HasSoundSize p p.status) ps → AllByRecursion (IsKnown all) ps
known all [] f a b = tt
known all (p ∷ ps) f a b = (record { there = f p (inl refl); address = a.0; size = b.0 }, known all ps (λ q i. f q (inr i)) a.1 b.1)

pub blocks_sound : (s : Setting) (m : Configuration) → Keeps s m → HasSoundBlocks m.state
blocks_sound s m w = record {
  in_order = blocks_in_order (all_places m.state) (by_address (all_places m.state)) (by_address_by_start (all_places m.state) (all_disjoint s m w)) here;
  aligned = blocks_all (IsKnown (all_places m.state)) (λ b. IsAligned b.addr b.layer) (by_address (all_places m.state)) (λ p size k e. k.address.aligned) here;
  room = blocks_all (IsKnown (all_places m.state)) (HasRoom (all_places m.state)) (by_address (all_places m.state)) (λ p size k e. record { place = p; there = k.there; at = refl; layer = refl; live = e; room = room_of (all_places m.state) p size k e }) here;
}
  where
    here : AllByRecursion (IsKnown (all_places m.state)) (by_address (all_places m.state))
    here = all_by_address (IsKnown (all_places m.state)) (all_places m.state) (known (all_places m.state) (all_places m.state) (λ p i. i) (all_addresses s m w)
        (of_all s m w (λ p. HasSoundSize p p.status) w.sizes.lfh w.sizes.vs w.sizes.back w.sizes.large))
