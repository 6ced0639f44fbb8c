-- The counters of the buckets, before and after a block is placed, dropped or resized.
use Rattle.std.proofs.Common.{◌≡◌, ℕ, zero, suc, ◌+◌, ◌-◌, ◌<◌, ◌≤◌, min, Bool, true, false, cond, List, [], ◌∷◌, length, get_or, Option, Some, None, refl, sym, ap, subst, ◌∙◌, arith, eqb, ltb, inl, inr, ◌⊎◌, count_by, length-append}
use Rattle.std.proofs.Math.ListN.{set}
use Rattle.std.specs.List.{find}
use Rattle.std.proofs.lemmas.Bool.{cases_Bool, cases_lt, eqb-true, eq-eqb, ne_eqb, false≢true}
use Rattle.std.proofs.lemmas.List.{get_or-set_same, get_or-set_other, length-set}
use Rattle.std.proofs.lemmas.List.Sums.{sum_by-cons, count_by-le-length}
use Rattle.heap_model.specs.Buckets.{bucket_of}
use Rattle.heap_model.specs.State.{Place, insert_place, change_found, remove_found}
use Rattle.heap_model.specs.Stay.{is_some_of, is_live_in}
use Rattle.heap_model.specs.Legal.{serve}
use Rattle.heap_soundness.proofs.MadeSpans.{bucket_is}
use Rattle.vs_headers.specs.declared.Head.{Head}
use Rattle.vs_layer.specs.Kept.{VsKept, place_if, places_from, places_of, served_of}
use Rattle.vs_layer.specs.Sound.{AreCounted}
use Rattle.vs_layer.specs.Counted.{one_more, one_less, once_more, CanGrow, IsSomeLeft}

---- Counts over lists of places

abbrev one : Bool → ℕ
one b = cond b 1 0

count_cons : {A : Type 0} (p : A → Bool) (x : A) (xs : List A) → count_by p (x ∷ xs) ≡ one (p x) + count_by p xs
count_cons p x xs = sum_by-cons (λ y. one (p y)) x xs

count_inserted : (p : Place → Bool) (x : Place) (ps : List Place) → count_by p (insert_place x ps) ≡ one (p x) + count_by p ps
count_inserted p x [] = count_cons p x []
count_inserted p x (y ∷ ys) = elim (cases_Bool (ltb x.start y.start)) [
  | inl e ↦ rw e (count_cons p x (y ∷ ys))
  | inr e ↦ rw e (omega (arith, count_cons p y (insert_place x ys), count_cons p y ys, count_inserted p x ys))
]

same_some : {A : Type 0} (x y : A) → Some x ≡ Some y → x ≡ y
same_some x y e = cc

count_removed : {A : Type 0} (p t : A → Bool) (xs : List A) (x : A) → find t xs ≡ Some x → count_by p (remove_found t xs) + one (p x) ≡ count_by p xs
count_removed p t [] x h = absurd (let z : ⊥ = cc in z)
count_removed {A = A} p t (y ∷ ys) x h = elim (cases_Bool (t y)) [
  | inl e ↦
      let is : one (p y) ≡ one (p x) = ap (λ (z : A). one (p z)) (same_some y x (rw e at h)) in
      rw e (omega (arith, count_cons p y ys, is))
  | inr e ↦ rw e (omega (arith, count_cons p y (remove_found t ys), count_cons p y ys, count_removed p t ys x (rw e at h)))
]

count_changed : {A : Type 0} (p t : A → Bool) (f : A → A) (xs : List A) (x : A) → find t xs ≡ Some x → count_by p (change_found t f xs) + one (p x) ≡ count_by p xs + one (p (f x))
count_changed p t f [] x h = absurd (let z : ⊥ = cc in z)
count_changed {A = A} p t f (y ∷ ys) x h = elim (cases_Bool (t y)) [
  | inl e ↦
      let eq : y ≡ x = same_some y x (rw e at h) in
      let is : one (p y) ≡ one (p x) = ap (λ (z : A). one (p z)) eq in
      let made : one (p (f y)) ≡ one (p (f x)) = ap (λ (z : A). one (p (f z))) eq in
      rw e (omega (arith, count_cons p (f y) ys, count_cons p y ys, is, made))
  | inr e ↦ rw e (omega (arith, count_cons p y (change_found t f ys), count_cons p y ys, count_changed p t f ys x (rw e at h)))
]

---- Lists of counters

most_after : (live : List ℕ) (c x m b : ℕ) → x < m → get_or live b 0 < m → get_or (set live c x) b 0 < m
most_after [] c x m b l h = h
most_after (y ∷ ys) zero x m zero l h = l
most_after (y ∷ ys) zero x m (suc b) l h = h
most_after (y ∷ ys) (suc c) x m zero l h = h
most_after (y ∷ ys) (suc c) x m (suc b) l h = most_after ys c x m b l h

pub still_can_grow : (o : Option ℕ) (live : List ℕ) → CanGrow live → CanGrow (one_less o live)
still_can_grow None live h b = h b
still_can_grow (Some c) live h b = most_after live c (get_or live c 0 - 1) 4294967295 b (let g = h c in omega arith) (h b)

at_or : (live : List ℕ) (c x b : ℕ) → c < length live → get_or (set live c x) b 0 ≡ cond (eqb b c) x (get_or live b 0)
at_or live c x b l = elim (cases_Bool (eqb b c)) [
  | inl e ↦ let same : b ≡ c = eqb-true b c e in rw e (ap (λ q. get_or (set live c x) q 0) same ∙ get_or-set_same live c x 0 l)
  | inr e ↦ rw e (get_or-set_other live c b x 0 (λ f. false≢true (sym e ∙ eq-eqb b c f)))
]

turned : (b c : ℕ) → eqb b c ≡ eqb c b
turned b c = elim (cases_Bool (eqb b c)) [
  | inl e ↦ e ∙ sym (eq-eqb c b (sym (eqb-true b c e)))
  | inr e ↦ e ∙ sym (ne_eqb c b (λ f. false≢true (sym e ∙ eq-eqb b c (sym f))))
]

-- the bucket has a counter
abbrev pub IsCounted : Option ℕ → ℕ → Type 0
IsCounted o n = (c : ℕ) → o ≡ Some c → c < n

pub has_counter : (n : ℕ) → IsCounted (bucket_of n) 129
has_counter n c e = let b = bucket_is (Some n) c e in omega (arith, b.1)

more_is : (o : Option ℕ) (live : List ℕ) (b : ℕ) → IsCounted o (length live) → get_or (one_more o live) b 0 ≡ get_or live b 0 + one (is_some_of o b)
more_is None live b few = omega arith
more_is (Some c) live b few = at_or live c (get_or live c 0 + 1) b (few c refl) ∙ by (cases_Bool (eqb c b))
  where
    by : (eqb c b ≡ true) ⊎ (eqb c b ≡ false) → cond (eqb b c) (get_or live c 0 + 1) (get_or live b 0) ≡ get_or live b 0 + one (eqb c b)
    by (inl e) = rw (turned b c, e) (ap (λ q. get_or live q 0 + 1) (eqb-true c b e))
    by (inr e) = rw (turned b c, e) (omega arith)

less_is : (o : Option ℕ) (live : List ℕ) (b : ℕ) → IsCounted o (length live) → get_or (one_less o live) b 0 ≡ get_or live b 0 - one (is_some_of o b)
less_is None live b few = omega arith
less_is (Some c) live b few = at_or live c (get_or live c 0 - 1) b (few c refl) ∙ by (cases_Bool (eqb c b))
  where
    by : (eqb c b ≡ true) ⊎ (eqb c b ≡ false) → cond (eqb b c) (get_or live c 0 - 1) (get_or live b 0) ≡ get_or live b 0 - one (eqb c b)
    by (inl e) = rw (turned b c, e) (ap (λ q. get_or live q 0 - 1) (eqb-true c b e))
    by (inr e) = rw (turned b c, e) (omega arith)

more_length : (o : Option ℕ) (live : List ℕ) → length (one_more o live) ≡ length live
more_length None live = refl
more_length (Some c) live = length-set live c (get_or live c 0 + 1)

pub less_length : (o : Option ℕ) (live : List ℕ) → length (one_less o live) ≡ length live
less_length None live = refl
less_length (Some c) live = length-set live c (get_or live c 0 - 1)

once_length : (o : Option ℕ) (served : List ℕ) → length (once_more o served) ≡ length served
once_length None served = refl
once_length (Some c) served = length-set served c (min 2040 (get_or served c 0 + 1))

once_at : (o : Option ℕ) (served : List ℕ) (b : ℕ) → IsCounted o (length served) → get_or (once_more o served) b 0 ≡ serve o (λ c. get_or served c 0) b
once_at None served b few = refl
once_at (Some c) served b few = at_or served c (min 2040 (get_or served c 0 + 1)) b (few c refl)

once_most : (o : Option ℕ) (served : List ℕ) (b : ℕ) → get_or served b 0 ≤ 2040 → get_or (once_more o served) b 0 ≤ 2040
once_most None served b most = most
once_most (Some c) served b most = omega (arith, most_after served c (min 2040 (get_or served c 0 + 1)) 2041 b (omega arith) (omega arith))

---- What the counters keep to

-- a block of the size is in this bucket, as the definitions have it
abbrev pub IsOfBucket : Option ℕ → Place → Type 0
IsOfBucket o p = (b : ℕ) → is_live_in b p ≡ is_some_of o b

counters : (n m : ℕ) (o : Option ℕ) → n ≡ m → IsCounted o m → IsCounted o n
counters n m o e few c is = omega (arith, few c is)

-- it is told which bucket was served once more
pub served_once : (k k' : VsKept) (live : List ℕ) (n : ℕ) → AreCounted k live → k'.served ≡ once_more (bucket_of n) k.served
    → served_of k' ≡ serve (bucket_of n) (served_of k)
served_once k k' live n a e =
    λ i b. (ap (λ (xs : List ℕ). get_or xs b 0) e ∙ once_at (bucket_of n) k.served b (counters (length k.served) 129 (bucket_of n) a.served_for (has_counter n))) i

-- nothing was placed or dropped, and no counter changed
pub counted_same : (k k' : VsKept) (live : List ℕ) → AreCounted k live → places_of k' ≡ places_of k → k'.served ≡ k.served → k'.active ≡ k.active → AreCounted k' live
counted_same k k' live a places served active = record {
  served_for = ap length served ∙ a.served_for;
  active_for = ap length active ∙ a.active_for;
  live_for = a.live_for;
  served_most = λ b. subst (λ (xs : List ℕ). get_or xs b 0 ≤ 2040) (sym served) (a.served_most b);
  live_are = λ b l. a.live_are b l ∙ ap (count_by (is_live_in b)) (sym places);
}

-- a block of n bytes was placed
pub counted_placed : (k k' : VsKept) (live : List ℕ) (n : ℕ) (p : Place) → AreCounted k live → IsOfBucket (bucket_of n) p → places_of k' ≡ insert_place p (places_of k)
    → k'.served ≡ once_more (bucket_of n) k.served → k'.active ≡ k.active → AreCounted k' (one_more (bucket_of n) live)
counted_placed k k' live n p a is places served active =
    let o : Option ℕ = bucket_of n in
    let few = counters (length live) 129 o a.live_for (has_counter n) in
    record {
      served_for = ap length served ∙ once_length o k.served ∙ a.served_for;
      active_for = ap length active ∙ a.active_for;
      live_for = more_length o live ∙ a.live_for;
      served_most = λ b. subst (λ (xs : List ℕ). get_or xs b 0 ≤ 2040) (sym served) (once_most o k.served b (a.served_most b));
      live_are = λ b l.
          let said : one (is_live_in b p) ≡ one (is_some_of o b) = ap one (is b) in
          let all : count_by (is_live_in b) (places_of k') ≡ count_by (is_live_in b) (insert_place p (places_of k)) = ap (count_by (is_live_in b)) places in
          omega (arith, more_is o live b few, a.live_are b l, count_inserted (is_live_in b) p (places_of k), said, all);
    }

-- the block p was dropped
pub counted_dropped : (k k' : VsKept) (live : List ℕ) (n : ℕ) (test : Place → Bool) (p : Place) → AreCounted k live → IsOfBucket (bucket_of n) p
    → find test (places_of k) ≡ Some p → places_of k' ≡ remove_found test (places_of k) → k'.served ≡ k.served → k'.active ≡ k.active
    → AreCounted k' (one_less (bucket_of n) live)
counted_dropped k k' live n test p a is found places served active =
    let o : Option ℕ = bucket_of n in
    let few = counters (length live) 129 o a.live_for (has_counter n) in
    record {
      served_for = ap length served ∙ a.served_for;
      active_for = ap length active ∙ a.active_for;
      live_for = less_length o live ∙ a.live_for;
      served_most = λ b. subst (λ (xs : List ℕ). get_or xs b 0 ≤ 2040) (sym served) (a.served_most b);
      live_are = λ b l.
          let said : one (is_live_in b p) ≡ one (is_some_of o b) = ap one (is b) in
          let all : count_by (is_live_in b) (places_of k') ≡ count_by (is_live_in b) (remove_found test (places_of k)) = ap (count_by (is_live_in b)) places in
          omega (arith, less_is o live b few, a.live_are b l, count_removed (is_live_in b) test (places_of k) p found, said, all);
    }

-- the block p, of old bytes, has n bytes now
pub counted_resized : (k k' : VsKept) (live : List ℕ) (old n : ℕ) (test : Place → Bool) (f : Place → Place) (p : Place) → AreCounted k live
    → IsOfBucket (bucket_of old) p → IsOfBucket (bucket_of n) (f p) → find test (places_of k) ≡ Some p → places_of k' ≡ change_found test f (places_of k)
    → k'.served ≡ k.served → k'.active ≡ k.active → AreCounted k' (one_more (bucket_of n) (one_less (bucket_of old) live))
counted_resized k k' live old n test f p a was is found places served active =
    let o : Option ℕ = bucket_of old in
    let mid : List ℕ = one_less o live in
    let few = counters (length live) 129 o a.live_for (has_counter old) in
    let long = less_length o live ∙ a.live_for in
    let fewer = counters (length mid) 129 (bucket_of n) long (has_counter n) in
    record {
      served_for = ap length served ∙ a.served_for;
      active_for = ap length active ∙ a.active_for;
      live_for = more_length (bucket_of n) mid ∙ long;
      served_most = λ b. subst (λ (xs : List ℕ). get_or xs b 0 ≤ 2040) (sym served) (a.served_most b);
      live_are = λ b l.
          let before : one (is_live_in b p) ≡ one (is_some_of o b) = ap one (was b) in
          let after : one (is_live_in b (f p)) ≡ one (is_some_of (bucket_of n) b) = ap one (is b) in
          let all : count_by (is_live_in b) (places_of k') ≡ count_by (is_live_in b) (change_found test f (places_of k)) = ap (count_by (is_live_in b)) places in
          omega (arith, more_is (bucket_of n) mid b fewer, less_is o live b few, a.live_are b l, count_removed (is_live_in b) test (places_of k) p found, count_changed (is_live_in b) test f (places_of k) p found, before, after, all);
    }

---- What the counters need

one_or_none : (g : ℕ) (o : Option Head) → length (place_if g o) ≤ 1
one_or_none g None = omega arith
one_or_none g (Some h) = elim (cases_Bool h.busy) [ inl e ↦ rw e (omega arith) | inr e ↦ rw e (omega arith) ]

no_more_places : (g : ℕ) (os : List (Option Head)) → length (places_from g os) ≤ length os
no_more_places g [] = omega arith
no_more_places g (o ∷ os) = omega (arith, length-append (place_if g o) (places_from (suc g) os), one_or_none g o, no_more_places (suc g) os)

none_past : (live : List ℕ) (b : ℕ) → length live ≤ b → get_or live b 0 ≡ 0
none_past [] b l = refl
none_past (y ∷ ys) zero l = absurd (omega arith)
none_past (y ∷ ys) (suc b) l = none_past ys b (omega arith)

-- each counter has room for one more
pub can_grow : (k : VsKept) (live : List ℕ) → AreCounted k live → length k.chunks.heads < 4294967295 → CanGrow live
can_grow k live a few b = elim (cases_lt b 129) [
  | inl l ↦ omega (arith, a.live_are b l, count_by-le-length (is_live_in b) (places_of k), no_more_places 0 k.chunks.heads)
  | inr l ↦ omega (arith, none_past live b (omega (arith, a.live_for)))
]

-- a block that lives is counted
pub some_left : (k : VsKept) (live : List ℕ) (n : ℕ) (test : Place → Bool) (p : Place) → AreCounted k live → IsOfBucket (bucket_of n) p
    → find test (places_of k) ≡ Some p → IsSomeLeft (bucket_of n) live
some_left k live n test p a is found = by (bucket_of n) (has_counter n) is
  where
    by : (o : Option ℕ) → IsCounted o 129 → IsOfBucket o p → IsSomeLeft o live
    by None few of = tt
    by (Some c) few of =
        let said : one (is_live_in c p) ≡ 1 = ap one (of c ∙ eq-eqb c c refl) in
        omega (arith, a.live_are c (few c refl), count_removed (is_live_in c) test (places_of k) p found, said)

---- The room for the counters is as before

pub more_room : (o : Option ℕ) (xs ys : List ℕ) (c d : ℕ) → c ≡ length xs → d ≡ c → ys ≡ one_more o xs → d ≡ length ys
more_room o xs ys c d e f g = f ∙ e ∙ sym (ap length g ∙ more_length o xs)

pub less_room : (o : Option ℕ) (xs ys : List ℕ) (c d : ℕ) → c ≡ length xs → d ≡ c → ys ≡ one_less o xs → d ≡ length ys
less_room o xs ys c d e f g = f ∙ e ∙ sym (ap length g ∙ less_length o xs)

pub once_room : (o : Option ℕ) (xs ys : List ℕ) (c d : ℕ) → c ≡ length xs → d ≡ c → ys ≡ once_more o xs → d ≡ length ys
once_room o xs ys c d e f g = f ∙ e ∙ sym (ap length g ∙ once_length o xs)
