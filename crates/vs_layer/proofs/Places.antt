-- The places that heads tell: where one is, and what a write of a head makes of them.
use Rattle.std.proofs.Common.{◌≡◌, ℕ, zero, suc, ◌+◌, ◌*◌, ◌/◌, ◌<◌, ◌≤◌, ◌⊎◌, inl, inr, Bool, true, false, not, if◌then◌else◌, ltb, leb, List, [], ◌∷◌, ◌++◌, length, get_or, set, Option, Some, None, refl, sym, ap, subst, ◌∙◌, arith}
use Rattle.std.specs.List.{find, list_any, AllByRecursion}
use Rattle.std.proofs.lemmas.Bool.{cases_Bool, cases_eq, eqb-true, eq-eqb, ne_eqb, le-ltb, lt-ltb, and_parts, and_from, or_cases, or_left, or_right, leb-true, ltb-true, le-leb, false_from_ne_true, both_ways}
use Rattle.std.proofs.lemmas.List.{length-set, get_or-set_same, get_or-set_other}
use Rattle.heap_soundness.specs.Sound.{IsOneOf}
use Rattle.heap_model.specs.State.{Place, has_address, insert_place, remove_found, change_found}
use Rattle.heap_model.specs.Stay.{for_some}
use Rattle.heap_model.specs.Ranges.{in_place, is_clear}
use Rattle.vs_headers.specs.declared.Head.{Head}
use Rattle.vs_split.specs.Chunks.{Chunks, head_at, with_head}
use Rattle.vs_layer.specs.Kept.{place_of, place_if, places_from}

-- a block has the chunk that starts here
abbrev pub is_busy : Option Head → Bool
is_busy o = for_some o (λ h. h.busy)

pub busy_is : (o : Option Head) (h : Head) → o ≡ Some h → is_busy o ≡ h.busy
busy_is o h e = ap is_busy e

-- none has it, or one has
pub busy_cases : (o : Option Head) → (is_busy o ≡ false) ⊎ ((h : Head) × (o ≡ Some h) × (h.busy ≡ true))
busy_cases None = inl refl
busy_cases (Some h) = elim (cases_Bool h.busy) [ inl e ↦ inr (h, refl, e) | inr e ↦ inl e ]

no_place : (g : ℕ) (o : Option Head) → is_busy o ≡ false → place_if g o ≡ []
no_place g None e = refl
no_place g (Some h) e = ap (λ b. if b then place_of g h ∷ [] else []) e

a_place : (g : ℕ) (o : Option Head) (h : Head) → o ≡ Some h → h.busy ≡ true → place_if g o ≡ place_of g h ∷ []
a_place g o h e b = ap (place_if g) e ∙ ap (λ b. if b then place_of g h ∷ [] else []) b

skip : (g : ℕ) (o : Option Head) (os : List (Option Head)) → is_busy o ≡ false → places_from g (o ∷ os) ≡ places_from (suc g) os
skip g o os e = ap (λ ps. ps ++ places_from (suc g) os) (no_place g o e)

keep : (g : ℕ) (o : Option Head) (os : List (Option Head)) (h : Head) → o ≡ Some h → h.busy ≡ true → places_from g (o ∷ os) ≡ place_of g h ∷ places_from (suc g) os
keep g o os h e b = ap (λ ps. ps ++ places_from (suc g) os) (a_place g o h e b)

-- the places from a granule on start there, or above
lie_above : (low g : ℕ) (os : List (Option Head)) → low ≤ g → AllByRecursion (λ p. 16 * low ≤ p.start) (places_from g os)
lie_above low g [] l = tt
lie_above low g (o ∷ os) l = elim (busy_cases o) [
  | inl e ↦ subst (AllByRecursion (λ (p : Place). 16 * low ≤ p.start)) (sym (skip g o os e)) (lie_above low (suc g) os (omega arith))
  | inr h ↦ subst (AllByRecursion (λ (p : Place). 16 * low ≤ p.start)) (sym (keep g o os h.0 h.1 h.2)) (omega arith, lie_above low (suc g) os (omega arith))
]

insert_first : (x : Place) (ps : List Place) → AllByRecursion (λ p. x.start < p.start) ps → insert_place x ps ≡ x ∷ ps
insert_first x [] a = refl
insert_first x (y ∷ ys) a = ap (λ b. if b then x ∷ y ∷ ys else y ∷ insert_place x ys) (lt-ltb x.start y.start a.0)

insert_later : (x y : Place) (ys : List Place) → y.start ≤ x.start → insert_place x (y ∷ ys) ≡ y ∷ insert_place x ys
insert_later x y ys l = ap (λ b. if b then x ∷ y ∷ ys else y ∷ insert_place x ys) (le-ltb x.start y.start l)

all_above : (low : ℕ) (x : Place) (ps : List Place) → x.start < 16 * low → AllByRecursion (λ p. 16 * low ≤ p.start) ps → AllByRecursion (λ p. x.start < p.start) ps
all_above low x [] l a = tt
all_above low x (p ∷ ps) l a = (omega (arith, a.0), all_above low x ps l a.1)

---- A head that is written

-- the same place as before, or none as before
pub same_set : (g n i : ℕ) (os : List (Option Head)) (o : Option Head) → n ≡ g + i → place_if n (get_or os i None) ≡ place_if n o → places_from g (set os i o) ≡ places_from g os
same_set g n i [] o e s = refl
same_set g n zero (x ∷ xs) o e s = let f : n ≡ g = omega arith in ap (λ ps. ps ++ places_from (suc g) xs) (sym (subst (λ j. place_if j x ≡ place_if j o) f s))
same_set g n (suc i) (x ∷ xs) o e s = ap (λ ps. place_if g x ++ ps) (same_set (suc g) n i xs o (omega arith) s)

-- one more
pub made_set : (g n i : ℕ) (os : List (Option Head)) (h : Head) → n ≡ g + i → i < length os → is_busy (get_or os i None) ≡ false → h.busy ≡ true
    → places_from g (set os i (Some h)) ≡ insert_place (place_of n h) (places_from g os)
made_set g n i [] h e l f b = absurd (omega arith)
made_set g n zero (x ∷ xs) h e l f b =
    let same : g ≡ n = omega arith in
    let front : insert_place (place_of n h) (places_from (suc g) xs) ≡ place_of n h ∷ places_from (suc g) xs =
    insert_first (place_of n h) (places_from (suc g) xs) (all_above (suc g) (place_of n h) (places_from (suc g) xs) (omega arith) (lie_above (suc g) (suc g) xs (omega arith))) in
    keep g (Some h) xs h refl b ∙ ap (λ j. place_of j h ∷ places_from (suc g) xs) same ∙ sym front ∙ sym (ap (insert_place (place_of n h)) (skip g x xs f))
made_set g n (suc i) (x ∷ xs) h e l f b = by (made_set (suc g) n i xs h (omega arith) (omega arith) f b) (busy_cases x)
  where
    by : places_from (suc g) (set xs i (Some h)) ≡ insert_place (place_of n h) (places_from (suc g) xs) → (is_busy x ≡ false) ⊎ ((k : Head) × (x ≡ Some k) × (k.busy ≡ true)) → places_from g (x ∷ set xs i (Some h)) ≡ insert_place (place_of n h) (places_from g (x ∷ xs))
    by again (inl z) = skip g x (set xs i (Some h)) z ∙ again ∙ sym (ap (insert_place (place_of n h)) (skip g x xs z))
    by again (inr k) =
        keep g x (set xs i (Some h)) k.0 k.1 k.2 ∙ ap (λ ps. place_of g k.0 ∷ ps) again
        ∙ sym (insert_later (place_of n h) (place_of g k.0) (places_from (suc g) xs) (omega arith))
        ∙ sym (ap (insert_place (place_of n h)) (keep g x xs k.0 k.1 k.2))

here : (g n : ℕ) (h : Head) → g ≡ n → has_address (16 * n + 16) (place_of g h) ≡ true
here g n h e = eq-eqb (16 * g + 16) (16 * n + 16) (omega arith)

not_here : (g n : ℕ) (h : Head) → g < n → has_address (16 * n + 16) (place_of g h) ≡ false
not_here g n h l = ne_eqb (16 * g + 16) (16 * n + 16) (λ e. omega arith)

-- one less
pub dropped_set : (g n i : ℕ) (os : List (Option Head)) (h : Head) (o : Option Head) → n ≡ g + i → get_or os i None ≡ Some h → h.busy ≡ true → is_busy o ≡ false
    → places_from g (set os i o) ≡ remove_found (has_address (16 * n + 16)) (places_from g os)
dropped_set g n i [] h o e is b f = absurd (let z : ⊥ = cc in z)
dropped_set g n zero (x ∷ xs) h o e is b f =
    skip g o xs f
    ∙ sym (ap (λ b. if b then places_from (suc g) xs else place_of g h ∷ remove_found (has_address (16 * n + 16)) (places_from (suc g) xs)) (here g n h (omega arith)))
    ∙ sym (ap (remove_found (has_address (16 * n + 16))) (keep g x xs h is b))
dropped_set g n (suc i) (x ∷ xs) h o e is b f = by (dropped_set (suc g) n i xs h o (omega arith) is b f) (busy_cases x)
  where
    by : places_from (suc g) (set xs i o) ≡ remove_found (has_address (16 * n + 16)) (places_from (suc g) xs) → (is_busy x ≡ false) ⊎ ((k : Head) × (x ≡ Some k) × (k.busy ≡ true)) → places_from g (x ∷ set xs i o) ≡ remove_found (has_address (16 * n + 16)) (places_from g (x ∷ xs))
    by again (inl z) = skip g x (set xs i o) z ∙ again ∙ sym (ap (remove_found (has_address (16 * n + 16))) (skip g x xs z))
    by again (inr k) =
        keep g x (set xs i o) k.0 k.1 k.2 ∙ ap (λ ps. place_of g k.0 ∷ ps) again
        ∙ sym (ap (λ b. if b then places_from (suc g) xs else place_of g k.0 ∷ remove_found (has_address (16 * n + 16)) (places_from (suc g) xs)) (not_here g n k.0 (omega arith)))
        ∙ sym (ap (remove_found (has_address (16 * n + 16))) (keep g x xs k.0 k.1 k.2))

-- one changed
pub changed_set : (f : Place → Place) (g n i : ℕ) (os : List (Option Head)) (h k : Head) → n ≡ g + i → get_or os i None ≡ Some h → h.busy ≡ true → k.busy ≡ true → f (place_of n h) ≡ place_of n k
    → places_from g (set os i (Some k)) ≡ change_found (has_address (16 * n + 16)) f (places_from g os)
changed_set f g n i [] h k e is b c s = absurd (let z : ⊥ = cc in z)
changed_set f g n zero (x ∷ xs) h k e is b c s =
    let same : n ≡ g = omega arith in
    keep g (Some k) xs k refl c
    ∙ ap (λ p. p ∷ places_from (suc g) xs) (sym (subst (λ j. f (place_of j h) ≡ place_of j k) same s))
    ∙ sym (ap (λ b. if b then f (place_of g h) ∷ places_from (suc g) xs else place_of g h ∷ change_found (has_address (16 * n + 16)) f (places_from (suc g) xs)) (here g n h (omega arith)))
    ∙ sym (ap (change_found (has_address (16 * n + 16)) f) (keep g x xs h is b))
changed_set f g n (suc i) (x ∷ xs) h k e is b c s = by (changed_set f (suc g) n i xs h k (omega arith) is b c s) (busy_cases x)
  where
    by : places_from (suc g) (set xs i (Some k)) ≡ change_found (has_address (16 * n + 16)) f (places_from (suc g) xs) → (is_busy x ≡ false) ⊎ ((j : Head) × (x ≡ Some j) × (j.busy ≡ true)) → places_from g (x ∷ set xs i (Some k)) ≡ change_found (has_address (16 * n + 16)) f (places_from g (x ∷ xs))
    by again (inl z) = skip g x (set xs i (Some k)) z ∙ again ∙ sym (ap (change_found (has_address (16 * n + 16)) f) (skip g x xs z))
    by again (inr j) =
        keep g x (set xs i (Some k)) j.0 j.1 j.2 ∙ ap (λ ps. place_of g j.0 ∷ ps) again
        ∙ sym (ap (λ b. if b then f (place_of g j.0) ∷ places_from (suc g) xs else place_of g j.0 ∷ change_found (has_address (16 * n + 16)) f (places_from (suc g) xs)) (not_here g n j.0 (omega arith)))
        ∙ sym (ap (change_found (has_address (16 * n + 16)) f) (keep g x xs j.0 j.1 j.2))

---- The place at an address

pub found_set : (g n i : ℕ) (os : List (Option Head)) (h : Head) → n ≡ g + i → get_or os i None ≡ Some h → h.busy ≡ true → find (has_address (16 * n + 16)) (places_from g os) ≡ Some (place_of n h)
found_set g n i [] h e is b = absurd (let z : ⊥ = cc in z)
found_set g n zero (x ∷ xs) h e is b =
    let same : g ≡ n = omega arith in
    ap (find (has_address (16 * n + 16))) (keep g x xs h is b)
    ∙ ap (λ b. if b then Some (place_of g h) else find (has_address (16 * n + 16)) (places_from (suc g) xs)) (here g n h same)
    ∙ ap (λ j. let o : Option Place = Some (place_of j h) in o) same
found_set g n (suc i) (x ∷ xs) h e is b = by (found_set (suc g) n i xs h (omega arith) is b) (busy_cases x)
  where
    by : find (has_address (16 * n + 16)) (places_from (suc g) xs) ≡ Some (place_of n h) → (is_busy x ≡ false) ⊎ ((k : Head) × (x ≡ Some k) × (k.busy ≡ true)) → find (has_address (16 * n + 16)) (places_from g (x ∷ xs)) ≡ Some (place_of n h)
    by again (inl z) = ap (find (has_address (16 * n + 16))) (skip g x xs z) ∙ again
    by again (inr k) =
        ap (find (has_address (16 * n + 16))) (keep g x xs k.0 k.1 k.2)
        ∙ ap (λ b. if b then Some (place_of g k.0) else find (has_address (16 * n + 16)) (places_from (suc g) xs)) (not_here g n k.0 (omega arith))
        ∙ again

-- a place is the one of a chunk that has a block
pub record IsOfHead (os : List (Option Head)) (g n : ℕ) (p : Place) : Type 0 where
  pub index : ℕ
  pub granule : n ≡ g + index
  pub head : Head
  pub there : get_or os index None ≡ Some head
  pub busy : head.busy ≡ true
  pub is : place_of n head ≡ p

abbrev IsFoundAt : List (Option Head) → ℕ → ℕ → Place → Type 0
IsFoundAt os g addr p = (n : ℕ) × (addr ≡ 16 * n + 16) × IsOfHead os g n p

one_on : (g n : ℕ) (x : Option Head) (xs : List (Option Head)) (p : Place) → IsOfHead xs (suc g) n p → IsOfHead (x ∷ xs) g n p
one_on g n x xs p h = record { index = suc h.index; granule = omega (arith, h.granule); head = h.head; there = h.there; busy = h.busy; is = h.is }

pub found_of : (g addr : ℕ) (os : List (Option Head)) (p : Place) → find (has_address addr) (places_from g os) ≡ Some p → IsFoundAt os g addr p
found_of g addr [] p e = absurd (let z : ⊥ = cc in z)
found_of g addr (x ∷ xs) p e = by (λ f. let r = found_of (suc g) addr xs p f in (r.0, r.1, one_on g r.0 x xs p r.2)) (busy_cases x)
  where
    first : (find (has_address addr) (places_from (suc g) xs) ≡ Some p → IsFoundAt (x ∷ xs) g addr p) → (h : Head) → x ≡ Some h → h.busy ≡ true → (b : Bool) → has_address addr (place_of g h) ≡ b → (if b then Some (place_of g h) else find (has_address addr) (places_from (suc g) xs)) ≡ Some p → IsFoundAt (x ∷ xs) g addr p
    first more h is busy false t f = more f
    first more h is busy true t f = (g, sym (eqb-true (16 * g + 16) addr t), record { index = 0; granule = omega arith; head = h; there = is; busy = busy; is = (let s : place_of g h ≡ p = cc in s) })

    by : (find (has_address addr) (places_from (suc g) xs) ≡ Some p → IsFoundAt (x ∷ xs) g addr p) → (is_busy x ≡ false) ⊎ ((k : Head) × (x ≡ Some k) × (k.busy ≡ true)) → IsFoundAt (x ∷ xs) g addr p
    by more (inl z) = more (sym (ap (find (has_address addr)) (skip g x xs z)) ∙ e)
    by more (inr k) = first more k.0 k.1 k.2 (has_address addr (place_of g k.0)) refl (sym (ap (find (has_address addr)) (keep g x xs k.0 k.1 k.2)) ∙ e)

---- The granules of places

pub record HasGranule (os : List (Option Head)) (g q : ℕ) : Type 0 where
  pub granule : ℕ
  pub index : ℕ
  pub at : granule ≡ g + index
  pub head : Head
  pub there : get_or os index None ≡ Some head
  pub busy : head.busy ≡ true
  pub from : granule ≤ q
  pub to : q < granule + head.units

in_one : (q g : ℕ) (h : Head) → in_place q (place_of g h) ≡ true → (g ≤ q) × (q < g + h.units)
in_one q g h e =
    let a = and_parts (leb (16 * g / 16) q) (ltb q (16 * g / 16 + h.units)) e in
    let l = leb-true (16 * g / 16) q a.0 in
    let m = ltb-true q (16 * g / 16 + h.units) a.1 in
    (omega arith, omega arith)

pub in_one_from : (q g : ℕ) (h : Head) → g ≤ q → q < g + h.units → in_place q (place_of g h) ≡ true
in_one_from q g h l m = and_from (leb (16 * g / 16) q) (ltb q (16 * g / 16 + h.units)) (le-leb (16 * g / 16) q (omega arith)) (lt-ltb q (16 * g / 16 + h.units) (omega arith))

one_further : (g q : ℕ) (x : Option Head) (xs : List (Option Head)) → HasGranule xs (suc g) q → HasGranule (x ∷ xs) g q
one_further g q x xs r = record { granule = r.granule; index = suc r.index; at = omega (arith, r.at); head = r.head; there = r.there; busy = r.busy; from = r.from; to = r.to }

pub granule_of : (g q : ℕ) (os : List (Option Head)) → list_any (in_place q) (places_from g os) ≡ true → HasGranule os g q
granule_of g q [] e = absurd (let z : ⊥ = cc in z)
granule_of g q (x ∷ xs) e = by (λ f. one_further g q x xs (granule_of (suc g) q xs f)) (busy_cases x)
  where
    by : (list_any (in_place q) (places_from (suc g) xs) ≡ true → HasGranule (x ∷ xs) g q) → (is_busy x ≡ false) ⊎ ((k : Head) × (x ≡ Some k) × (k.busy ≡ true)) → HasGranule (x ∷ xs) g q
    by more (inl z) = more (sym (ap (list_any (in_place q)) (skip g x xs z)) ∙ e)
    by more (inr k) = elim (or_cases (in_place q (place_of g k.0)) (list_any (in_place q) (places_from (suc g) xs)) (sym (ap (list_any (in_place q)) (keep g x xs k.0 k.1 k.2)) ∙ e)) [
      | inr f ↦ more f
      | inl f ↦
          let i = in_one q g k.0 f in
          record { granule = g; index = 0; at = omega arith; head = k.0; there = k.1; busy = k.2; from = i.0; to = i.1 }
    ]

pub granule_from : (g n q i : ℕ) (os : List (Option Head)) (h : Head) → n ≡ g + i → get_or os i None ≡ Some h → h.busy ≡ true → n ≤ q → q < n + h.units → list_any (in_place q) (places_from g os) ≡ true
granule_from g n q i [] h e is b l m = absurd (let z : ⊥ = cc in z)
granule_from g n q zero (x ∷ xs) h e is b l m =
    let same : g ≡ n = omega arith in
    ap (list_any (in_place q)) (keep g x xs h is b)
    ∙ or_left (in_place q (place_of g h)) (list_any (in_place q) (places_from (suc g) xs)) (in_one_from q g h (omega arith) (omega arith))
granule_from g n q (suc i) (x ∷ xs) h e is b l m = by (granule_from (suc g) n q i xs h (omega arith) is b l m) (busy_cases x)
  where
    by : list_any (in_place q) (places_from (suc g) xs) ≡ true → (is_busy x ≡ false) ⊎ ((k : Head) × (x ≡ Some k) × (k.busy ≡ true)) → list_any (in_place q) (places_from g (x ∷ xs)) ≡ true
    by again (inl z) = ap (list_any (in_place q)) (skip g x xs z) ∙ again
    by again (inr k) = ap (list_any (in_place q)) (keep g x xs k.0 k.1 k.2) ∙ or_right (in_place q (place_of g k.0)) (list_any (in_place q) (places_from (suc g) xs)) again

---- The same of chunks

module _ (v : Chunks) where
  abbrev pub places : List Place
  places = places_from 0 v.heads

  pub places_made : (g : ℕ) (h : Head) → g < length v.heads → is_busy (head_at v g) ≡ false → h.busy ≡ true → places_from 0 (with_head v g (Some h)).heads ≡ insert_place (place_of g h) places
  places_made g h l f b = made_set 0 g g v.heads h (omega arith) l f b

  pub places_dropped : (g : ℕ) (h : Head) (o : Option Head) → head_at v g ≡ Some h → h.busy ≡ true → is_busy o ≡ false → places_from 0 (with_head v g o).heads ≡ remove_found (has_address (16 * g + 16)) places
  places_dropped g h o is b f = dropped_set 0 g g v.heads h o (omega arith) is b f

  pub places_changed : (f : Place → Place) (g : ℕ) (h k : Head) → head_at v g ≡ Some h → h.busy ≡ true → k.busy ≡ true → f (place_of g h) ≡ place_of g k → places_from 0 (with_head v g (Some k)).heads ≡ change_found (has_address (16 * g + 16)) f places
  places_changed f g h k is b c s = changed_set f 0 g g v.heads h k (omega arith) is b c s

  pub places_same : (g : ℕ) (o : Option Head) → place_if g (head_at v g) ≡ place_if g o → places_from 0 (with_head v g o).heads ≡ places
  places_same g o s = same_set 0 g g v.heads o (omega arith) s

  -- .. as where neither was a place, nor is one
  pub places_free : (g : ℕ) (o : Option Head) → is_busy (head_at v g) ≡ false → is_busy o ≡ false → places_from 0 (with_head v g o).heads ≡ places
  places_free g o a b = places_same g o (no_place g (head_at v g) a ∙ sym (no_place g o b))

  pub place_found : (g : ℕ) (h : Head) → head_at v g ≡ Some h → h.busy ≡ true → find (has_address (16 * g + 16)) places ≡ Some (place_of g h)
  place_found g h is b = found_set 0 g g v.heads h (omega arith) is b

  -- the block at an address is that of a chunk
  pub record IsBlockOf (addr : ℕ) (p : Place) : Type 0 where
    pub granule : ℕ
    pub head : Head
    pub at : addr ≡ 16 * granule + 16
    pub there : head_at v granule ≡ Some head
    pub busy : head.busy ≡ true
    pub is : place_of granule head ≡ p

  pub block_of : (addr : ℕ) (p : Place) → find (has_address addr) places ≡ Some p → IsBlockOf addr p
  block_of addr p e =
      let r = found_of 0 addr v.heads p e in
      let o = r.2 in
      let same : o.index ≡ r.0 = omega (arith, o.granule) in
      record { granule = r.0; head = o.head; at = r.1; there = subst (λ j. head_at v j ≡ Some o.head) same o.there; busy = o.busy; is = o.is }

  -- where no block starts there is none
  pub none_found : (addr : ℕ) → ((g : ℕ) (h : Head) → addr ≡ 16 * g + 16 → head_at v g ≡ Some h → h.busy ≡ false) → find (has_address addr) places ≡ None
  none_found addr f = by (find (has_address addr) places) refl
    where
      by : (o : Option Place) → find (has_address addr) places ≡ o → find (has_address addr) places ≡ None
      by None e = e
      by (Some p) e = let b = block_of addr p e in absurd (both_ways b.head.busy (f b.granule b.head b.at b.there) b.busy)

  -- no chunk that has a block has this granule
  abbrev pub IsUnplaced : ℕ → Type 0
  IsUnplaced q = (g : ℕ) (h : Head) → head_at v g ≡ Some h → h.busy ≡ true → g ≤ q → q < g + h.units → ⊥

  pub clear_from : (q : ℕ) → IsUnplaced q → is_clear places q ≡ true
  clear_from q f = ap not (false_from_ne_true (list_any (in_place q) places) (λ e.
      let r = granule_of 0 q v.heads e in
      let same : r.index ≡ r.granule = omega (arith, r.at) in
      f r.granule r.head (subst (λ j. head_at v j ≡ Some r.head) same r.there) r.busy r.from r.to))

  pub taken_from : (q g : ℕ) (h : Head) → head_at v g ≡ Some h → h.busy ≡ true → g ≤ q → q < g + h.units → is_clear places q ≡ false
  taken_from q g h is b l m = ap not (granule_from 0 g q g v.heads h (omega arith) is b l m)

  pub clear_is : (q : ℕ) → is_clear places q ≡ true → IsUnplaced q
  clear_is q e g h is b l m = both_ways (is_clear places q) (taken_from q g h is b l m) e

---- Chunks that tell the same places, but at one granule

same_tells : (g : ℕ) (os ns : List (Option Head)) → length ns ≡ length os → ((n i : ℕ) → n ≡ g + i → place_if n (get_or ns i None) ≡ place_if n (get_or os i None)) → places_from g ns ≡ places_from g os
same_tells g [] [] l f = refl
same_tells g [] (y ∷ ys) l f = absurd (omega arith)
same_tells g (x ∷ xs) [] l f = absurd (omega arith)
same_tells g (x ∷ xs) (y ∷ ys) l f =
    ap (λ ps. ps ++ places_from (suc g) ys) (f g 0 (omega arith))
    ∙ ap (λ ps. place_if g x ++ ps) (same_tells (suc g) xs ys (omega arith) (λ n i e. f n (suc i) (omega arith)))

module _ (v w : Chunks) (g : ℕ) (long : length w.heads ≡ length v.heads) (same : (q : ℕ) → (q ≡ g → ⊥) → place_if q (head_at w q) ≡ place_if q (head_at v q)) where
  -- as if one head was written
  as_written : (o : Option Head) → head_at w g ≡ o → g < length v.heads → places_from 0 w.heads ≡ places_from 0 (with_head v g o).heads
  as_written o e l = same_tells 0 (with_head v g o).heads w.heads (long ∙ sym (length-set v.heads g o)) (λ n i f. by n i (omega arith) (cases_eq i g))
    where
      by : (n i : ℕ) → n ≡ i → (i ≡ g) ⊎ (i ≡ g → ⊥) → place_if n (head_at w i) ≡ place_if n (get_or (set v.heads g o) i None)
      by n i f (inl here) = ap (place_if n) (ap (head_at w) here ∙ e ∙ sym (get_or-set_same v.heads g o None l) ∙ ap (λ j. get_or (set v.heads g o) j None) (sym here))
      by n i f (inr other) = subst (λ j. place_if j (head_at w i) ≡ place_if j (get_or (set v.heads g o) i None)) (sym f) (same i other ∙ ap (place_if i) (sym (get_or-set_other v.heads g i o None other)))

  pub but_made : (k : Head) → g < length v.heads → is_busy (head_at v g) ≡ false → head_at w g ≡ Some k → k.busy ≡ true → places_from 0 w.heads ≡ insert_place (place_of g k) (places_from 0 v.heads)
  but_made k l f e b = as_written (Some k) e l ∙ places_made v g k l f b

  pub but_dropped : (h : Head) (o : Option Head) → g < length v.heads → head_at v g ≡ Some h → h.busy ≡ true → head_at w g ≡ o → is_busy o ≡ false → places_from 0 w.heads ≡ remove_found (has_address (16 * g + 16)) (places_from 0 v.heads)
  but_dropped h o l is b e f = as_written o e l ∙ places_dropped v g h o is b f

  pub but_changed : (f : Place → Place) (h k : Head) → g < length v.heads → head_at v g ≡ Some h → h.busy ≡ true → head_at w g ≡ Some k → k.busy ≡ true → f (place_of g h) ≡ place_of g k
      → places_from 0 w.heads ≡ change_found (has_address (16 * g + 16)) f (places_from 0 v.heads)
  but_changed f h k l is b e c s = as_written (Some k) e l ∙ places_changed v f g h k is b c s

---- The places of a list, one by one

pub place_in : (g n i : ℕ) (os : List (Option Head)) (h : Head) → n ≡ g + i → get_or os i None ≡ Some h → h.busy ≡ true → IsOneOf (place_of n h) (places_from g os)
place_in g n i [] h e is b = absurd (let z : ⊥ = cc in z)
place_in g n zero (x ∷ xs) h e is b = let same : g ≡ n = omega arith in subst (IsOneOf (place_of n h)) (sym (keep g x xs h is b)) (inl (ap (λ j. place_of j h) same))
place_in g n (suc i) (x ∷ xs) h e is b = by (place_in (suc g) n i xs h (omega arith) is b) (busy_cases x)
  where
    by : IsOneOf (place_of n h) (places_from (suc g) xs) → (is_busy x ≡ false) ⊎ ((k : Head) × (x ≡ Some k) × (k.busy ≡ true)) → IsOneOf (place_of n h) (places_from g (x ∷ xs))
    by again (inl z) = subst (IsOneOf (place_of n h)) (sym (skip g x xs z)) again
    by again (inr k) = subst (IsOneOf (place_of n h)) (sym (keep g x xs k.0 k.1 k.2)) (inr again)

pub in_places : (g : ℕ) (os : List (Option Head)) (p : Place) → IsOneOf p (places_from g os) → (n : ℕ) × IsOfHead os g n p
in_places g [] p i = absurd i
in_places g (x ∷ xs) p i = by (λ j. let r = in_places (suc g) xs p j in (r.0, one_on g r.0 x xs p r.1)) (busy_cases x)
  where
    by : (IsOneOf p (places_from (suc g) xs) → (n : ℕ) × IsOfHead (x ∷ xs) g n p) → (is_busy x ≡ false) ⊎ ((k : Head) × (x ≡ Some k) × (k.busy ≡ true)) → (n : ℕ) × IsOfHead (x ∷ xs) g n p
    by more (inl z) = more (subst (IsOneOf p) (skip g x xs z) i)
    by more (inr k) = elim (subst (IsOneOf p) (keep g x xs k.0 k.1 k.2) i) [
      | inl e ↦ (g, record { index = 0; granule = omega arith; head = k.0; there = k.1; busy = k.2; is = e })
      | inr j ↦ more j
    ]
