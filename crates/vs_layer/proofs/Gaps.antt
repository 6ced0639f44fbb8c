-- The gaps of the heap are the free chunks.
use Rattle.std.proofs.Common.{◌≡◌, ℕ, zero, suc, ◌+◌, ◌-◌, ◌*◌, ◌<◌, ◌≤◌, ◌⊎◌, inl, inr, Bool, true, false, ◌&&◌, eqb, List, [], ◌∷◌, ◌++◌, Option, Some, None, refl, sym, ap, subst, ◌∙◌, arith}
use Rattle.std.specs.Prelude.{flat_map, option_map, unwrap_or}
use Rattle.std.specs.List.{find, list_any}
use Rattle.std.proofs.lemmas.Bool.{cases_Bool, cases_lt, cases_eq, cases_order, both_ways, eqb-true, eq-eqb, ne_eqb, and_parts, and_from, false_from_ne_true}
use Rattle.heap_model.specs.Runs.{Run, runs, IsRun}
use Rattle.heap_model.specs.State.{Span}
use Rattle.heap_model.specs.Ranges.{is_clear}
use Rattle.heap_model.specs.Ranges as ranges
use Rattle.heap_model.specs.Stay.{run_from}
use Rattle.heap_soundness.specs.Sound.{IsOneOf}
use Rattle.heap_soundness.proofs.Lists.{all_at, all_from, any_found, any_in}
use Rattle.heap_soundness.proofs.Maximal.{runs_only, runs_all}
use Rattle.vs_headers.specs.declared.Head.{Head}
use Rattle.vs_split.specs.Chunks.{Chunks, head_at}
use Rattle.vs_split.specs.Tiles.{front_of, IsTiled, IsTile}
use Rattle.vs_split.specs.Laws.{IsRow}
use Rattle.vs_split.proofs.TileLemmas.{same_head}
use Rattle.vs_layer.specs.Kept.{VsKept, gaps_in, places_of}
use Rattle.vs_layer.specs.Sound.{AreChunksSound, LiesIn}
use Rattle.vs_layer.specs.Effects.{IsSpanOfChunks}
use Rattle.vs_layer.proofs.Places.{clear_from, clear_is, taken_from}

abbrev pub run_of : ℕ → ℕ → Run
run_of first count = record { first = first; count = count }

---- Rows

-- the chunk over a granule
pub record IsOver (v : Chunks) (from to q : ℕ) : Type 0 where
  pub granule : ℕ
  pub head : Head
  pub there : head_at v granule ≡ Some head
  pub low : from ≤ granule
  pub high : granule + head.units ≤ to
  pub below : granule ≤ q
  pub above : q < granule + head.units

pub row_end : (v : Chunks) (prev from to : ℕ) (hs : List Head) → IsRow v prev from to hs → from ≤ to
row_end v prev from to [] row = omega arith
row_end v prev from to (h ∷ hs) row = omega (arith, row_end v h.units (from + h.units) to hs row.2)

module _ (v : Chunks) (t : IsTiled v) where
  pub over : (prev from to q : ℕ) (hs : List Head) → IsRow v prev from to hs → from ≤ q → q < to → IsOver v from to q
  over prev from to q [] row l m = absurd (omega arith)
  over prev from to q (h ∷ hs) row l m = elim (cases_lt q (from + h.units)) [
    | inl less ↦ record { granule = from; head = h; there = row.0; low = omega arith; high = row_end v h.units (from + h.units) to hs row.2; below = l; above = less }
    | inr more ↦
        let r = over h.units (from + h.units) to q hs row.2 more m in
        record { granule = r.granule; head = r.head; there = r.there; low = omega (arith, r.low); high = r.high; below = r.below; above = r.above }
  ]

  same_at : (g : ℕ) (h n : Head) → head_at v g ≡ Some h → head_at v g ≡ Some n → h ≡ n
  same_at g h n a b = same_head h n (sym a ∙ b)

  -- a chunk of a row is the first of it, or another is in front
  pub first_or_behind : (prev from to g : ℕ) (h : Head) (hs : List Head) → IsRow v prev from to hs → head_at v g ≡ Some h → from ≤ g → g < to → (g ≡ from) ⊎ (0 < h.prev)
  first_or_behind prev from to g h [] row is l m = absurd (omega arith)
  first_or_behind prev from to g h (x ∷ xs) row is l m = elim (cases_eq g from) [
    | inl e ↦ inl e
    | inr other ↦
        let behind : from + x.units ≤ g = (t.tiles from x row.0).apart g h (omega arith) is in
        let some : 2 ≤ x.units = (t.tiles from x row.0).some in
        inr (elim (first_or_behind x.units (from + x.units) to g h xs row.2 is behind m) [
          | inl e ↦ starts x.units (from + x.units) to xs row.2 (omega arith) (omega arith) e
          | inr l ↦ l
        ])
  ]
    where
      starts : (p q end : ℕ) (ys : List Head) → IsRow v p q end ys → 0 < p → q < end → g ≡ q → 0 < h.prev
      starts p q end [] row l m e = absurd (omega arith)
      starts p q end (y ∷ ys) row l m e =
          let same : h ≡ y = same_at g h y is (subst (λ j. head_at v j ≡ Some y) (sym e) row.0) in
          let told : h.prev ≡ p = ap (λ (z : Head). z.prev) same ∙ row.1 in
          omega arith

  -- a chunk of a row is the last of it, or another is behind
  pub last_or_next : (prev from to g : ℕ) (h : Head) (hs : List Head) → IsRow v prev from to hs → head_at v g ≡ Some h → from ≤ g → g + h.units < to → (n : Head) × (head_at v (g + h.units) ≡ Some n)
  last_or_next prev from to g h [] row is l m = absurd (omega arith)
  last_or_next prev from to g h (x ∷ xs) row is l m = elim (cases_eq g from) [
    | inl e ↦
        let same : x ≡ h = same_at g x h (subst (λ j. head_at v j ≡ Some x) (sym e) row.0) is in
        let size : x.units ≡ h.units = ap (λ (z : Head). z.units) same in
        let end : from + x.units ≡ g + h.units = omega arith in
        first x.units (from + x.units) to xs row.2 end (omega arith)
    | inr other ↦
        let behind : from + x.units ≤ g = (t.tiles from x row.0).apart g h (omega arith) is in
        last_or_next x.units (from + x.units) to g h xs row.2 is behind m
  ]
    where
      first : (p q to : ℕ) (ys : List Head) → IsRow v p q to ys → q ≡ g + h.units → q < to → (n : Head) × (head_at v (g + h.units) ≡ Some n)
      first p q to [] row e l = absurd (omega arith)
      first p q to (y ∷ ys) row e l = (y, subst (λ j. head_at v j ≡ Some y) e row.0)

---- Lists

in_append_left : {A : Type 0} (x : A) (xs ys : List A) → IsOneOf x xs → IsOneOf x (xs ++ ys)
in_append_left x [] ys i = absurd i
in_append_left x (z ∷ zs) ys (inl e) = inl e
in_append_left x (z ∷ zs) ys (inr i) = inr (in_append_left x zs ys i)

in_append_right : {A : Type 0} (x : A) (xs ys : List A) → IsOneOf x ys → IsOneOf x (xs ++ ys)
in_append_right x [] ys i = i
in_append_right x (z ∷ zs) ys i = inr (in_append_right x zs ys i)

append_cases : {A : Type 0} (x : A) (xs ys : List A) → IsOneOf x (xs ++ ys) → IsOneOf x xs ⊎ IsOneOf x ys
append_cases x [] ys i = inr i
append_cases x (z ∷ zs) ys (inl e) = inl (inl e)
append_cases x (z ∷ zs) ys (inr i) = elim (append_cases x zs ys i) [ inl j ↦ inl (inr j) | inr j ↦ inr j ]

pub in_flat : {A B : Type 0} (f : A → List B) (xs : List A) (x : A) (y : B) → IsOneOf x xs → IsOneOf y (f x) → IsOneOf y (flat_map f xs)
in_flat f [] x y i j = absurd i
in_flat {A = A} f (z ∷ zs) x y (inl e) j = in_append_left y (f z) (flat_map f zs) (subst (λ (w : A). IsOneOf y (f w)) (sym e) j)
in_flat f (z ∷ zs) x y (inr i) j = in_append_right y (f z) (flat_map f zs) (in_flat f zs x y i j)

pub flat_in : {A B : Type 0} (f : A → List B) (xs : List A) (y : B) → IsOneOf y (flat_map f xs) → (x : A) × IsOneOf x xs × IsOneOf y (f x)
flat_in f [] y i = absurd i
flat_in f (z ∷ zs) y i = elim (append_cases y (f z) (flat_map f zs) i) [
  | inl j ↦ (z, inl refl, j)
  | inr j ↦ let r = flat_in f zs y j in (r.0, inr r.1, r.2)
]

-- the one element that passes is found
pub find_only : {A : Type 0} (t : A → Bool) (x : A) (xs : List A) → IsOneOf x xs → t x ≡ true → ((y : A) → IsOneOf y xs → t y ≡ true → y ≡ x) → find t xs ≡ Some x
find_only t x [] i h f = absurd i
find_only {A = A} t x (z ∷ zs) i h f = elim (cases_Bool (t z)) [
  | inl e ↦ let same : z ≡ x = f z (inl refl) e in rw e (ap (λ (y : A). let o : Option A = Some y in o) same)
  | inr e ↦ rw e (elim i [
    | inl same ↦ absurd (both_ways (t x) (subst (λ (y : A). t y ≡ false) same e) h)
    | inr j ↦ find_only t x zs j h (λ y k. f y (inr k))
  ])
]

pub find_none : {A : Type 0} (t : A → Bool) (xs : List A) → ((y : A) → IsOneOf y xs → t y ≡ false) → find t xs ≡ None
find_none t [] f = refl
find_none t (z ∷ zs) f = let e = f z (inl refl) in rw e (find_none t zs (λ y i. f y (inr i)))

---- Maximal runs of a span

abbrev same_run : Run → Run → Bool
same_run r s = eqb s.first r.first && eqb s.count r.count

run_is : (r s : Run) → same_run r s ≡ true → s ≡ r
run_is r s e =
    let p = and_parts (eqb s.first r.first) (eqb s.count r.count) e in
    let a : s.first ≡ r.first = eqb-true _ _ p.0 in
    let b : s.count ≡ r.count = eqb-true _ _ p.1 in
    ap (λ n. run_of n s.count) a ∙ ap (λ n. run_of r.first n) b

same_self : (r : Run) → same_run r r ≡ true
same_self r = and_from (eqb r.first r.first) (eqb r.count r.count) (eq-eqb r.first r.first refl) (eq-eqb r.count r.count refl)

-- a maximal run is one of the runs
pub run_in : (test : ℕ → Bool) (at n : ℕ) (r : Run) → IsRun test at (at + n) r → IsOneOf r (runs test at n)
run_in test at n r i =
    let all = all_from (λ q. list_any (same_run q) (runs test at n) ≡ true) (runs test at n) (λ q j. any_in (same_run q) (runs test at n) q j (same_self q)) in
    let some = any_found (same_run r) (runs test at n) (runs_all test at n (at + n) refl (λ q. list_any (same_run q) (runs test at n)) r all i) in
    subst (λ (q : Run). IsOneOf q (runs test at n)) (run_is r some.0 some.2) some.1

-- two maximal runs, where the one begins in the other, are one
pub one_run : (test : ℕ → Bool) (low high : ℕ) (r s : Run) → IsRun test low high r → IsRun test low high s → s.first ≤ r.first → r.first < s.first + s.count → s ≡ r
one_run test low high r s i j l m = ap (λ n. run_of n s.count) first ∙ ap (λ n. run_of r.first n) count
  where
    in_s : (q : ℕ) → s.first ≤ q → q < s.first + s.count → test q ≡ true
    in_s q a b = let e : s.first + (q - s.first) ≡ q = omega arith in subst (λ x. test x ≡ true) e (j.passes (q - s.first) (omega arith))

    in_r : (q : ℕ) → r.first ≤ q → q < r.first + r.count → test q ≡ true
    in_r q a b = let e : r.first + (q - r.first) ≡ q = omega arith in subst (λ x. test x ≡ true) e (i.passes (q - r.first) (omega arith))

    begin : (n : ℕ) → r.first ≡ n → s.first ≡ r.first
    begin zero e = omega arith
    begin (suc n) e = elim (cases_eq s.first r.first) [
      | inl f ↦ f
      | inr f ↦ absurd (both_ways (test n) (i.before (omega (arith, j.above)) n (sym e)) (in_s n (omega arith) (omega arith)))
    ]

    first : s.first ≡ r.first
    first = begin r.first refl

    count : s.count ≡ r.count
    count = elim (cases_order s.count r.count) [
      | inl e ↦ e
      | inr (inl less) ↦ absurd (both_ways (test (s.first + s.count)) (j.after (omega (arith, i.below, first))) (in_r (s.first + s.count) (omega (arith, first)) (omega (arith, first))))
      | inr (inr more) ↦ absurd (both_ways (test (r.first + r.count)) (i.after (omega (arith, j.below, first))) (in_s (r.first + r.count) (omega (arith, first)) (omega (arith, first))))
    ]

---- The gaps

-- a free chunk starts at the first granule of the gap, and has its granules
pub record IsFree (k : VsKept) (r : Run) : Type 0 where
  pub head : Head
  pub there : head_at k.chunks r.first ≡ Some head
  pub free : head.busy ≡ false
  pub units : head.units ≡ r.count

module _ (k : VsKept) (s : AreChunksSound k) where
  abbrev v : Chunks
  v = k.chunks

  tile : (g : ℕ) (h : Head) → head_at v g ≡ Some h → IsTile (head_at v) g h
  tile g h is = s.tiled.tiles g h is

  -- its granules are clear
  free_clear : (g : ℕ) (h : Head) → head_at v g ≡ Some h → h.busy ≡ false → (q : ℕ) → g ≤ q → q < g + h.units → is_clear (places_of k) q ≡ true
  free_clear g h is free q l m = clear_from v q (λ j n there busy a b. elim (cases_order j g) [
    | inl e ↦
        let same : n ≡ h = same_head n h (sym (subst (λ x. head_at v x ≡ Some n) e there) ∙ is) in
        both_ways n.busy (ap (λ (z : Head). z.busy) same ∙ free) busy
    | inr (inl less) ↦ absurd (omega (arith, (tile j n there).apart g h less is))
    | inr (inr more) ↦ absurd (omega (arith, (tile g h is).apart j n more there))
  ])

  row_of : (x : Span) → IsOneOf x k.spans → IsSpanOfChunks v x
  row_of x i = all_at (IsSpanOfChunks v) x k.spans s.rows i

  pages_of : (x : Span) → IsOneOf x k.spans → 16 ≤ x.pages
  pages_of x i = (all_at _ x k.spans s.usable i).least

  -- a free chunk of a span is a maximal run of it
  free_run : (x : Span) → IsOneOf x k.spans → (g : ℕ) (h : Head) → head_at v g ≡ Some h → h.busy ≡ false → LiesIn g h.units x
      → IsRun (is_clear (places_of k)) (256 * x.first + 3) (256 * x.first + 3 + (256 * x.pages - 3)) (run_of g h.units)
  free_run x i g h is free lies = record {
    some = omega (arith, (tile g h is).some);
    above = lies.from;
    below = omega (arith, lies.to, pages_of x i);
    passes = λ j l. free_clear g h is free (g + j) (omega arith) (omega arith);
    before = λ l j e. before l j e (first_or_behind v s.tiled 0 (front_of x.first) (256 * (x.first + x.pages)) g h row.0 row.1 is lies.from (omega (arith, lies.to, (tile g h is).some)));
    after = λ l. after (last_or_next v s.tiled 0 (front_of x.first) (256 * (x.first + x.pages)) g h row.0 row.1 is lies.from (omega (arith, pages_of x i)));
  }
    where
      row : IsSpanOfChunks v x
      row = row_of x i

      before : 256 * x.first + 3 < g → (j : ℕ) → suc j ≡ g → (g ≡ front_of x.first) ⊎ (0 < h.prev) → is_clear (places_of k) j ≡ false
      before l j e (inl f) = absurd (omega arith)
      before l j e (inr some) =
          let b = (tile g h is).behind some in
          let end : g - h.prev + b.head.units ≡ g = omega (arith, b.units, b.below) in
          let busy : b.head.busy ≡ true = elim (cases_Bool b.head.busy) [
            | inl y ↦ y
            | inr n ↦ absurd (both_ways h.busy free (s.joined (g - h.prev) b.head h b.there n (subst (λ q. head_at v q ≡ Some h) (sym end) is)))
          ] in
          taken_from v j (g - h.prev) b.head b.there busy (omega (arith, b.units, b.below)) (omega (arith, b.units, b.below))

      after : (n : Head) × (head_at v (g + h.units) ≡ Some n) → is_clear (places_of k) (g + h.units) ≡ false
      after n = taken_from v (g + h.units) (g + h.units) n.0 n.1 (s.joined g h n.0 is free n.1) (omega arith) (omega (arith, (tile (g + h.units) n.0 n.1).some))

  -- each free chunk is a gap
  pub free_in : (g : ℕ) (h : Head) → head_at v g ≡ Some h → h.busy ≡ false → IsOneOf (run_of g h.units) (gaps_in k)
  free_in g h is free =
      let x = s.inside g h is in
      in_flat (ranges.gaps_in (places_of k)) k.spans x.span (run_of g h.units) x.there
      (run_in (is_clear (places_of k)) (256 * x.span.first + 3) (256 * x.span.pages - 3) (run_of g h.units) (free_run x.span x.there g h is free x.lies))

  -- each gap is a free chunk
  pub gap_free : (r : Run) → IsOneOf r (gaps_in k) → IsFree k r
  gap_free r i = of_span x.0 x.1 (all_at _ r (ranges.gaps_in (places_of k) x.0) (runs_only (is_clear (places_of k)) (256 * x.0.first + 3) (256 * x.0.pages - 3)) x.2)
    where
      x : (x : Span) × IsOneOf x k.spans × IsOneOf r (ranges.gaps_in (places_of k) x)
      x = flat_in (ranges.gaps_in (places_of k)) k.spans r i

      of_span : (x : Span) → IsOneOf x k.spans → IsRun (is_clear (places_of k)) (256 * x.first + 3) (256 * x.first + 3 + (256 * x.pages - 3)) r → IsFree k r
      of_span x there run =
          let row = row_of x there in
          let o = over v s.tiled 0 (front_of x.first) (256 * (x.first + x.pages)) r.first row.0 row.1 run.above (omega (arith, run.some, run.below, pages_of x there)) in
          let clear : is_clear (places_of k) r.first ≡ true = let e : r.first + 0 ≡ r.first = omega arith in subst (λ q. is_clear (places_of k) q ≡ true) e (run.passes 0 run.some) in
          let free : o.head.busy ≡ false = false_from_ne_true o.head.busy (λ busy. clear_is v r.first clear o.granule o.head o.there busy o.below o.above) in
          let same : run_of o.granule o.head.units ≡ r =
          one_run (is_clear (places_of k)) (256 * x.first + 3) (256 * x.first + 3 + (256 * x.pages - 3)) r (run_of o.granule o.head.units) run
          (free_run x there o.granule o.head o.there free (record { from = o.low; to = o.high })) o.below o.above in
          let first : o.granule ≡ r.first = ap (λ (q : Run). q.first) same in
          record { head = o.head; there = subst (λ q. head_at v q ≡ Some o.head) first o.there; free = free; units = ap (λ (q : Run). q.count) same }

  -- the gap that starts at a granule
  pub gap_found : (g : ℕ) (h : Head) → head_at v g ≡ Some h → h.busy ≡ false → find (λ (r : Run). eqb r.first g) (gaps_in k) ≡ Some (run_of g h.units)
  gap_found g h is free = find_only (λ (r : Run). eqb r.first g) (run_of g h.units) (gaps_in k) (free_in g h is free) (eq-eqb g g refl) (λ r i e.
      let f = gap_free r i in
      let first : r.first ≡ g = eqb-true r.first g e in
      let same : f.head ≡ h = same_head f.head h (sym f.there ∙ subst (λ q. head_at v q ≡ Some h) (sym first) is) in
      let count : r.count ≡ h.units = sym f.units ∙ ap (λ (z : Head). z.units) same in
      ap (λ n. run_of n r.count) first ∙ ap (λ n. run_of g n) count)

  pub no_gap : (g : ℕ) → ((h : Head) → head_at v g ≡ Some h → h.busy ≡ true) → find (λ (r : Run). eqb r.first g) (gaps_in k) ≡ None
  no_gap g busy = find_none (λ (r : Run). eqb r.first g) (gaps_in k) (λ r i. ne_eqb r.first g (λ e.
      let f = gap_free r i in
      both_ways f.head.busy f.free (busy f.head (subst (λ q. head_at v q ≡ Some f.head) e f.there))))

  -- how long it is
  pub run_free : (g : ℕ) (h : Head) → head_at v g ≡ Some h → h.busy ≡ false → run_from (gaps_in k) g ≡ h.units
  run_free g h is free = ap (λ o. unwrap_or (option_map (λ (r : Run). r.count) o) 0) (gap_found g h is free)

  pub run_none : (g : ℕ) → ((h : Head) → head_at v g ≡ Some h → h.busy ≡ true) → run_from (gaps_in k) g ≡ 0
  run_none g busy = ap (λ o. unwrap_or (option_map (λ (r : Run). r.count) o) 0) (no_gap g busy)
