-- The words of a block that is reallocated.
use Rattle.std.proofs.Common.{◌≡◌, ℕ, zero, suc, ◌+◌, ◌-◌, ◌*◌, ◌/◌, ◌%◌, ◌<◌, ◌≤◌, ◌==◌, Bool, true, false, ◌&&◌, ◌||◌, cond, List, [], ◌∷◌, ◌++◌, Option, Some, refl, sym, ap, subst, ◌∙◌, inl, inr, eqb, leb, arith}
use Rattle.std.specs.Prelude.{min}
use Rattle.std.specs.List.{list_all, list_any, find}
use Rattle.std.proofs.lemmas.List.{append-nil}
use Rattle.std.proofs.Math.Bool.{and-false}
use Rattle.std.proofs.lemmas.Bool.{cases_Bool, and_from, and_parts, eq-eqb, eqb-true, leb-true, false≢true, true≢false, both_ways}
use Rattle.heap_model.specs.declared.Act.{Act}
use Rattle.heap_model.specs.declared.Act.TheVariants as acts
use Rattle.heap_model.specs.declared.Entry.{Entry}
use Rattle.heap_model.specs.declared.Layer.{Layer}
use Rattle.heap_model.specs.declared.Layer.TheVariants as layers
use Rattle.heap_model.specs.Geometry.{words_of}
use Rattle.heap_model.specs.State.{Setting, State, Place, Status, Live, InHand, address, room, is_layer, is_live_of, has_address, in_hand, hands, hand_at, place_at, places_of, all_places, is_live, is_live_at, change_found}
use Rattle.heap_model.specs.Stay.{for_some}
use Rattle.heap_model.specs.CallState.{Configuration, caller_view}
use Rattle.heap_model.specs.Legal.{may, after, may_touch, suits, with_places, with_status, layer_of}
use Rattle.heap_model.specs.History.{configuration_after, may_all_follow}
use Rattle.heap_model.specs.Agreement.{HasHomes}
use Rattle.heap_model.specs.Shape.{zeros, zeroing_more, copying, moving}
use Rattle.heap_model.specs.Contents.{is_store_to, is_stored_by_others, puts_back, until_given}
use Rattle.heap_model.proofs.ListLemmas.{for_some_parts}
use Rattle.heap_soundness.specs.Sound.{IsOneOf, AreApart, AreDisjoint, HasSoundSize, IsAligned}
use Rattle.heap_soundness.specs.Invariant.{Keeps}
use Rattle.heap_soundness.proofs.Lists.{all_at, found_passes, found_in, find_some, apart_swap}
use Rattle.heap_soundness.proofs.Enums.{layer_is}
use Rattle.heap_soundness.proofs.Spans.{in_changed, changed_in}
use Rattle.heap_soundness.proofs.Addresses.{in_parts, members_apart, one_address, place_among_all, addresses_sound}
use Rattle.heap_soundness.proofs.Whole.{HasAddress, all_disjoint, all_addresses, of_all}
use Rattle.call_laws.specs.Within.{by_caller}
use Rattle.call_laws.proofs.Within.{among_all, among_hands}
use Rattle.call_laws.proofs.Told.{out_of_hand}
use Rattle.call_laws.specs.Words.{is_of_word, word_acts}
use Rattle.call_laws.proofs.TakenBlocks.{places_changed}
use Rattle.call_laws.proofs.Words.{mine, stays, legal_parts}
use Rattle.call_laws.proofs.Shown.{wider, own_hands, is_shown, words_shown, mine-append, IsFront, front_of, none_put_back}

---- Bytes of a place

pub record HasBytes (p : Place) (a size : ℕ) : Type 0 where
  pub low : p.start ≤ a
  pub high : a + size ≤ p.start + 16 * p.granules
  pub aligned : a % 8 ≡ 0

pub bytes_of : (p : Place) (size : ℕ) → HasAddress p → size ≤ room p → HasBytes p (address p) size
bytes_of p size h fits = record { low = h.low; high = ends (is_layer p.layer layers.Vs) h.high fits; aligned = even p.layer (address p) h.aligned }
  where
    ends : (b : Bool) → cond b (p.start + 16) p.start < p.start + 16 * p.granules → size ≤ cond b (16 * p.granules - 16) (16 * p.granules) → cond b (p.start + 16) p.start + size ≤ p.start + 16 * p.granules
    ends true l f = omega (arith, l, f)
    ends false l f = omega (arith, l, f)

    even : (l : Layer) (a : ℕ) → IsAligned a l → a % 8 ≡ 0
    even layers.Lfh a e = omega (arith, e)
    even layers.Vs a e = omega (arith, e)
    even layers.Back a e = omega (arith, e)
    even layers.Large a e = omega (arith, e)

pub apart_words : (p q : Place) (a b size n i j : ℕ) → AreApart p q → HasBytes p a size → HasBytes q b n → 8 * i < size → 8 * j < n → b / 8 + j ≡ a / 8 + i → ⊥
apart_words p q a b size n i j (inl g) x y hi hj e =
    let xl = x.low in let xh = x.high in let xa = x.aligned in let yl = y.low in let yh = y.high in let ya = y.aligned in
    omega (arith, g, xl, xh, xa, yl, yh, ya, hi, hj, e)
apart_words p q a b size n i j (inr g) x y hi hj e =
    let xl = x.low in let xh = x.high in let xa = x.aligned in let yl = y.low in let yh = y.high in let ya = y.aligned in
    omega (arith, g, xl, xh, xa, yl, yh, ya, hi, hj, e)

pub below_words : (m n i : ℕ) → i < words_of (min m n) → (i < words_of m) × (8 * i < m) × (8 * i < n)
below_words m n i h = (omega (arith, h), omega (arith, h), omega (arith, h))

---- Places

home : (st : State) (p : Place) → HasHomes st → IsOneOf p (all_places st) → IsOneOf p (places_of st p.layer)
home st p h i = elim (in_parts p (st.lfh ++ st.vs.places ++ st.back.places) st.large i) [
  | inr j ↦ subst (λ (l : Layer). IsOneOf p (places_of st l)) (sym (all_at (λ q. q.layer ≡ layers.Large) p st.large h.large j)) j
  | inl j ↦ elim (in_parts p (st.lfh ++ st.vs.places) st.back.places j) [
    | inr x ↦ subst (λ (l : Layer). IsOneOf p (places_of st l)) (sym (all_at (λ q. q.layer ≡ layers.Back) p st.back.places h.back x)) x
    | inl x ↦ elim (in_parts p st.lfh st.vs.places x) [
      | inl y ↦ subst (λ (l : Layer). IsOneOf p (places_of st l)) (sym (all_at (λ q. q.layer ≡ layers.Lfh) p st.lfh h.lfh y)) y
      | inr y ↦ subst (λ (l : Layer). IsOneOf p (places_of st l)) (sym (all_at (λ q. q.layer ≡ layers.Vs) p st.vs.places h.vs y)) y
    ]
  ]
]

pub hands_among : (st : State) (c : ℕ) (p : Place) → IsOneOf p (hands st c) → IsOneOf p (all_places st)
hands_among st c p i =
    wider p (in_hand c st.lfh) (in_hand c st.vs.places) (in_hand c st.back.places) (in_hand c st.large) st.lfh st.vs.places st.back.places st.large
    (out_of_hand c p st.lfh) (out_of_hand c p st.vs.places) (out_of_hand c p st.back.places) (out_of_hand c p st.large) i

live_of : (size : ℕ) (st : Status) → is_live_of size st ≡ true → st ≡ Live size
live_of size (Live n) h = ap Live (eqb-true n size h)
live_of size (InHand c) h = absurd (false≢true h)

own_layer : (l : Layer) → is_layer l l ≡ true
own_layer layers.Lfh = refl
own_layer layers.Vs = refl
own_layer layers.Back = refl
own_layer layers.Large = refl

module _ (s : Setting) (m : Configuration) (k : Keeps s m) (c : ℕ) where
  addresses : (p : Place) → IsOneOf p (all_places m.state) → HasAddress p
  addresses p i = all_at HasAddress p (all_places m.state) (all_addresses s m k) i

  disjoint_in : (l : Layer) → AreDisjoint (places_of m.state l)
  disjoint_in layers.Lfh = k.heap.lfh.disjoint
  disjoint_in layers.Vs = k.heap.vs.disjoint
  disjoint_in layers.Back = k.heap.back.disjoint
  disjoint_in layers.Large = k.heap.large.disjoint

  -- a live block has room for its size
  has_room : (p : Place) (size : ℕ) → IsOneOf p (all_places m.state) → p.status ≡ Live size → size ≤ room p
  has_room p size i e =
      let h = all_at (λ q. HasSoundSize q q.status) p (all_places m.state) (of_all s m k (λ q. HasSoundSize q q.status) k.sizes.lfh k.sizes.vs k.sizes.back k.sizes.large) i in
      (subst (HasSoundSize p) e h).0

  -- what a Take tells
  pub record IsTaken (a size : ℕ) : Type 0 where
    pub old : Place
    pub there : IsOneOf old (all_places m.state)
    pub at : address old ≡ a
    pub live : old.status ≡ Live size
    pub found : place_at m.state c a ≡ Some old
    pub bytes : HasBytes old a size

  pub taken_is : (a size : ℕ) → may s m c (acts.Take a size) ≡ true → IsTaken a size
  taken_is a size h =
      let q = (and_parts (caller_view m c).entered (for_some (place_at m.state c a) (λ p. may_touch (caller_view m c) p.layer && is_live_of size p.status)) h).1 in
      let f = for_some_parts (place_at m.state c a) (λ p. may_touch (caller_view m c) p.layer && is_live_of size p.status) q in
      let live = live_of size f.0.status (and_parts (may_touch (caller_view m c) f.0.layer) (is_live_of size f.0.status) f.2).1 in
      let g : find (has_address a) (all_places m.state) ≡ Some f.0 = sym (place_among_all s m c a k) ∙ f.1 in
      let i = found_in (has_address a) (all_places m.state) f.0 g in
      let e : address f.0 ≡ a = eqb-true (address f.0) a (found_passes (has_address a) (all_places m.state) f.0 g) in
      record { old = f.0; there = i; at = e; live = live; found = f.1; bytes = subst (λ (x : ℕ). HasBytes f.0 x size) e (bytes_of f.0 size (addresses f.0 i) (has_room f.0 size i live)) }

  -- a place in hand that is given with a size has room for it
  pub given_bytes : (b n : ℕ) (p : Place) → p.status ≡ InHand c → IsOneOf p (hands m.state c) → address p ≡ b → may s m c (acts.Give b n) ≡ true → HasBytes p b n
  given_bytes b n p e i at h =
      let q = (and_parts (caller_view m c).entered (for_some (hand_at m.state c b) (λ x. may_touch (caller_view m c) x.layer && suits n x)) h).1 in
      let f = for_some_parts (hand_at m.state c b) (λ x. may_touch (caller_view m c) x.layer && suits n x) q in
      let fits = (and_parts (leb n (room f.0)) _ (and_parts (may_touch (caller_view m c) f.0.layer) (suits n f.0) f.2).1).0 in
      let one = addresses_sound s m k in
      let all = hands_among m.state c p i in
      let found : place_at m.state c b ≡ Some p = subst (λ (x : ℕ). place_at m.state c x ≡ Some p) at (one.place p all c) in
      let same : Some f.0 ≡ Some p = sym (one.hand c b f.0 f.1) ∙ found in
      let is : f.0 ≡ p = cc in
      let l : n ≤ room p = subst (λ (x : Place). n ≤ room x) is (leb-true n (room f.0) fits) in
      subst (λ (x : ℕ). HasBytes p x n) at (bytes_of p n (addresses p all) l)

---- A new place

abbrev pub made_by : ℕ → ℕ → ℕ → Layer → Place
made_by c start granules layer = record { start = start; granules = granules; layer = layer; status = InHand c }

places_with : (s : Setting) (m : Configuration) (c start granules : ℕ) (l : Layer) → places_of (after s m (by_caller c (acts.Place start granules l))).state l ≡ made_by c start granules l ∷ places_of m.state l
places_with s m c start granules layers.Lfh = refl
places_with s m c start granules layers.Vs = refl
places_with s m c start granules layers.Back = refl
places_with s m c start granules layers.Large = refl

module _ (s : Setting) (m : Configuration) (c start granules : ℕ) (l : Layer) (k : Keeps s m) (k1 : Keeps s (after s m (by_caller c (acts.Place start granules l)))) where
  abbrev m1 : Configuration
  m1 = after s m (by_caller c (acts.Place start granules l))

  abbrev made : Place
  made = made_by c start granules l

  there1 : IsOneOf made (places_of m1.state l)
  there1 = subst (IsOneOf made) (sym (places_with s m c start granules l)) (inl refl)

  pub made_in_hand : IsOneOf made (hands m1.state c)
  made_in_hand = among_hands m1.state c l made refl there1

  -- it is apart from each that was in hand
  pub made_apart : (p : Place) → IsOneOf p (hands m.state c) → AreApart p made
  made_apart p i = elim (cases_Bool (is_layer p.layer l)) [
    | inl e ↦
        let same : l ≡ p.layer = layer_is p.layer l e in
        let old : IsOneOf p (places_of m.state l) = subst (λ (x : Layer). IsOneOf p (places_of m.state x)) (sym same) (home m.state p k.homes (hands_among m.state c p i)) in
        let all : AreDisjoint (made ∷ places_of m.state l) = subst AreDisjoint (places_with s m c start granules l) (disjoint_in s m1 k1 c l) in
        apart_swap made p (all_at (AreApart made) p (places_of m.state l) all.0 old)
    | inr e ↦ elim (members_apart (all_places m1.state) p made (all_disjoint s m1 k1) (hands_among m1.state c p (own_hands m.state (m.now.calls c) c (acts.Place start granules l) p refl i)) (among_all m1.state l made there1)) [
      | inl same ↦ absurd (both_ways (is_layer p.layer l) e (ap (λ (x : Place). is_layer x.layer l) same ∙ own_layer l))
      | inr a ↦ a
    ]
  ]

---- A block that is taken

-- of a layer, a place that such a change leaves is still there
changed_there : (st : State) (l h : Layer) (f : List Place → List Place) (p : Place) → ((ps : List Place) → IsOneOf p ps → IsOneOf p (f ps)) → IsOneOf p (places_of st h) → IsOneOf p (places_of (with_places st (Some l) f) h)
changed_there st l layers.Lfh f p g i = elim (cases_Bool (is_layer layers.Lfh l)) [ inl e ↦ rw e (g st.lfh i) | inr e ↦ rw e i ]
changed_there st l layers.Vs f p g i = elim (cases_Bool (is_layer layers.Vs l)) [ inl e ↦ rw e (g st.vs.places i) | inr e ↦ rw e i ]
changed_there st l layers.Back f p g i = elim (cases_Bool (is_layer layers.Back l)) [ inl e ↦ rw e (g st.back.places i) | inr e ↦ rw e i ]
changed_there st l layers.Large f p g i = elim (cases_Bool (is_layer layers.Large l)) [ inl e ↦ rw e (g st.large i) | inr e ↦ rw e i ]

-- a place in hand stays in hand where another is taken
pub hand_past_take : (s : Setting) (m : Configuration) (c a size : ℕ) (k : Keeps s m) (t : IsTaken s m k c a size) (p : Place) → p.status ≡ InHand c → IsOneOf p (hands m.state c) → IsOneOf p (hands (after s m (by_caller c (acts.Take a size))).state c)
hand_past_take s m c a size k t p e i =
    let f : List Place → List Place = change_found (is_live_at a) (with_status (InHand c)) in
    let not_live : is_live_at a p ≡ false = ap (λ (x : Status). has_address a p && is_live x) e ∙ and-false (has_address a p) in
    let there = changed_there m.state t.old.layer p.layer f p (λ ps j. in_changed (is_live_at a) (with_status (InHand c)) p ps not_live j) (home m.state p k.homes (hands_among m.state c p i)) in
    among_hands (after s m (by_caller c (acts.Take a size))).state c p.layer p e
    (subst (λ (o : Option Place). IsOneOf p (places_of (with_places m.state (layer_of o) f) p.layer)) (sym t.found) there)

-- the block that is taken is in hand
pub taken_in_hand : (s : Setting) (m : Configuration) (c a size : ℕ) (k : Keeps s m) (t : IsTaken s m k c a size) → IsOneOf (with_status (InHand c) t.old) (hands (after s m (by_caller c (acts.Take a size))).state c)
taken_in_hand s m c a size k t =
    let f : List Place → List Place = change_found (is_live_at a) (with_status (InHand c)) in
    let ps = places_of m.state t.old.layer in
    let i = home m.state t.old k.homes t.there in
    let g = find_some (is_live_at a) ps t.old i (and_from (has_address a t.old) (is_live t.old.status) (ap (λ (x : ℕ). eqb x a) t.at ∙ eq-eqb a a refl) (ap is_live t.live)) in
    let j = found_in (is_live_at a) ps g.0 g.1 in
    let e : address g.0 ≡ a = eqb-true (address g.0) a (and_parts (has_address a g.0) (is_live g.0.status) (found_passes (is_live_at a) ps g.0 g.1)).0 in
    let same : g.0 ≡ t.old = one_address (all_places m.state) g.0 t.old (all_disjoint s m k) (all_addresses s m k) (among_all m.state t.old.layer g.0 j) t.there (e ∙ sym t.at) in
    let found : find (is_live_at a) ps ≡ Some t.old = g.1 ∙ ap Some same in
    among_hands (after s m (by_caller c (acts.Take a size))).state c t.old.layer (with_status (InHand c) t.old) refl
    (subst (λ (o : Option Place). IsOneOf (with_status (InHand c) t.old) (places_of (with_places m.state (layer_of o) f) t.old.layer)) (sym t.found)
    (subst (IsOneOf (with_status (InHand c) t.old)) (sym (places_changed m.state t.old.layer f)) (changed_in (is_live_at a) (with_status (InHand c)) t.old ps found)))

---- Lists of Loads and Stores

pub any-append : (t : Act → Bool) (xs ys : List Act) → list_any t (xs ++ ys) ≡ false → (list_any t xs ≡ false) × (list_any t ys ≡ false)
any-append t [] ys h = (refl, h)
any-append t (x ∷ xs) ys h = elim (cases_Bool (t x)) [
  | inl e ↦ let z : true ≡ false = rw e at h in absurd (true≢false z)
  | inr e ↦ let r = any-append t xs ys (rw e at h) in (rw e r.0, r.1)
]

pub any-both : (t : Act → Bool) (xs ys : List Act) → list_any t xs ≡ false → list_any t ys ≡ false → list_any t (xs ++ ys) ≡ false
any-both t [] ys h k = k
any-both t (x ∷ xs) ys h k = elim (cases_Bool (t x)) [
  | inl e ↦ let z : true ≡ false = rw e at h in absurd (true≢false z)
  | inr e ↦ rw e (any-both t xs ys (rw e at h) k)
]

pub words_first : (xs ys : List Act) → list_all is_of_word xs ≡ true → word_acts (xs ++ ys) ≡ xs ++ word_acts ys
words_first [] ys h = refl
words_first (x ∷ xs) ys h =
    let q = and_parts (is_of_word x) (list_all is_of_word xs) h in
    let e = q.0 in
    rw e (ap (λ (l : List Act). x ∷ l) (words_first xs ys q.1))

pub zeros_are : (zero_it : Bool) (word count : ℕ) → list_all is_of_word (zeros zero_it word count) ≡ true
zeros_are false word count = refl
zeros_are true word zero = refl
zeros_are true word (suc n) = zeros_are true (word + 1) n

copying_are : (from to : ℕ) (vs : List ℕ) → list_all is_of_word (copying from to vs) ≡ true
copying_are from to [] = refl
copying_are from to (v ∷ vs) = copying_are (from + 1) (to + 1) vs

all-both : (xs ys : List Act) → list_all is_of_word xs ≡ true → list_all is_of_word ys ≡ true → list_all is_of_word (xs ++ ys) ≡ true
all-both [] ys h k = k
all-both (x ∷ xs) ys h k =
    let q = and_parts (is_of_word x) (list_all is_of_word xs) h in
    and_from (is_of_word x) (list_all is_of_word (xs ++ ys)) q.0 (all-both xs ys q.1 k)

pub all-parts : (xs ys : List Act) → list_all is_of_word (xs ++ ys) ≡ true → (list_all is_of_word xs ≡ true) × (list_all is_of_word ys ≡ true)
all-parts [] ys h = (refl, h)
all-parts (x ∷ xs) ys h =
    let q = and_parts (is_of_word x) (list_all is_of_word (xs ++ ys)) h in
    let r = all-parts xs ys q.1 in
    (and_from (is_of_word x) (list_all is_of_word xs) q.0 r.0, r.1)

pub moving_are : (a size b n : ℕ) (zero_it : Bool) (values : List ℕ) → list_all is_of_word (moving a size b n zero_it values) ≡ true
moving_are a size b n zero_it values =
    all-both (copying (a / 8) (b / 8) values) (zeroing_more zero_it b size n) (copying_are (a / 8) (b / 8) values) (zeros_are zero_it (b / 8 + words_of size) (words_of n - words_of size))

-- behind the last act that passes there is at most one more
last_two : (t : Act → Bool) (ys zs xs : List Act) (g d : Act) → ys ++ zs ≡ xs ++ g ∷ d ∷ [] → t g ≡ true → list_any t zs ≡ false → is_of_word d ≡ false → word_acts zs ≡ []
last_two t [] zs xs g d e h none w =
    let k : list_any t (xs ++ g ∷ d ∷ []) ≡ false = ap (list_any t) (sym e) ∙ none in
    let q : (t g || (t d || false)) ≡ false = (any-append t xs (g ∷ d ∷ []) k).1 in
    let z : true ≡ false = rw h at q in absurd (true≢false z)
last_two t (y ∷ []) zs [] g d e h none w = let is : zs ≡ d ∷ [] = cc in ap word_acts is ∙ (rw w refl)
last_two t (y ∷ x ∷ []) zs [] g d e h none w = let is : zs ≡ [] = cc in ap word_acts is
last_two t (y ∷ x ∷ v ∷ ys) zs [] g d e h none w = absurd (let z : ⊥ = cc in z)
last_two t (y ∷ ys) zs (x ∷ xs) g d e h none w = let is : ys ++ zs ≡ xs ++ g ∷ d ∷ [] = cc in last_two t ys zs xs g d is h none w

-- .. or none
last_one : (t : Act → Bool) (ys zs xs : List Act) (g : Act) → ys ++ zs ≡ xs ++ g ∷ [] → t g ≡ true → list_any t zs ≡ false → word_acts zs ≡ []
last_one t [] zs xs g e h none =
    let k : list_any t (xs ++ g ∷ []) ≡ false = ap (list_any t) (sym e) ∙ none in
    let q : (t g || false) ≡ false = (any-append t xs (g ∷ []) k).1 in
    let z : true ≡ false = rw h at q in absurd (true≢false z)
last_one t (y ∷ []) zs [] g e h none = let is : zs ≡ [] = cc in ap word_acts is
last_one t (y ∷ x ∷ ys) zs [] g e h none = absurd (let z : ⊥ = cc in z)
last_one t (y ∷ ys) zs (x ∷ xs) g e h none = let is : ys ++ zs ≡ xs ++ g ∷ [] = cc in last_one t ys zs xs g is h none

---- Words that nobody stores to, up to the last Give

module _ (s : Setting) (c a b n : ℕ) (m : Configuration) (es : List Entry) where
  abbrev front : List Entry
  front = until_given c b n es

  abbrev rest_of : IsFront (λ e. e.caller == c && puts_back b n e.act) es
  rest_of = front_of (λ e. e.caller == c && puts_back b n e.act) es

  own_words : mine is_of_word c es ≡ mine is_of_word c front ++ mine is_of_word c rest_of.rest
  own_words = ap (mine is_of_word c) rest_of.is ∙ mine-append is_of_word c front rest_of.rest

  pub kept_where : (word : ℕ) → list_any (is_store_to word) (mine is_of_word c es) ≡ false → is_stored_by_others c word front ≡ false → (configuration_after s m front).state.words word ≡ m.state.words word
  kept_where word h k = stays s c m front word (any-append (is_store_to word) (mine is_of_word c front) (mine is_of_word c rest_of.rest) (ap (list_any (is_store_to word)) (sym own_words) ∙ h)).0 k

  pub front_legal : may_all_follow s m es ≡ true → may_all_follow s m front ≡ true
  front_legal l = (legal_parts s m front rest_of.rest (subst (λ (z : List Entry). may_all_follow s m z ≡ true) rest_of.is l)).0

  -- what is shown up to the Give, where at most a Drop comes behind it
  pub front_words : (moves : List Act) (g d : Act) → mine is_shown c es ≡ moves ++ g ∷ d ∷ [] → puts_back b n g ≡ true → is_of_word d ≡ false → mine is_of_word c front ≡ mine is_of_word c es
  front_words moves g d h t w =
      let all : mine is_shown c front ++ mine is_shown c rest_of.rest ≡ moves ++ g ∷ d ∷ [] = sym (ap (mine is_shown c) rest_of.is ∙ mine-append is_shown c front rest_of.rest) ∙ h in
      let none : mine is_of_word c rest_of.rest ≡ [] = words_shown c rest_of.rest ∙ last_two (puts_back b n) (mine is_shown c front) (mine is_shown c rest_of.rest) moves g d all t (none_put_back c b n rest_of.rest rest_of.none) w in
      sym (own_words ∙ (ap (λ (l : List Act). mine is_of_word c front ++ l) none ∙ append-nil (mine is_of_word c front)))

  pub front_alone : (moves : List Act) (g : Act) → mine is_shown c es ≡ moves ++ g ∷ [] → puts_back b n g ≡ true → mine is_of_word c front ≡ mine is_of_word c es
  front_alone moves g h t =
      let all : mine is_shown c front ++ mine is_shown c rest_of.rest ≡ moves ++ g ∷ [] = sym (ap (mine is_shown c) rest_of.is ∙ mine-append is_shown c front rest_of.rest) ∙ h in
      let none : mine is_of_word c rest_of.rest ≡ [] = words_shown c rest_of.rest ∙ last_one (puts_back b n) (mine is_shown c front) (mine is_shown c rest_of.rest) moves g all t (none_put_back c b n rest_of.rest rest_of.none) in
      sym (own_words ∙ (ap (λ (l : List Act). mine is_of_word c front ++ l) none ∙ append-nil (mine is_of_word c front)))
