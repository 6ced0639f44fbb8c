-- Runs and spans of one kind, among all.
use Rattle.std.proofs.Common.{◌≡◌, ◌⊎◌, ℕ, ◌+◌, ◌<◌, ◌≤◌, Bool, true, false, List, [], ◌∷◌, Some, refl, sym, ap, ◌∙◌, arith, ltb, inl, inr}
use Rattle.std.specs.Prelude.{filter}
use Rattle.std.specs.List.{AllByRecursion, find}
use Rattle.std.proofs.lemmas.Bool.{cases_Bool, lt-ltb, ltb-true}
use Rattle.heap_model.specs.declared.Run.{Run}
use Rattle.heap_model.specs.State.{remove_found}
use Rattle.heap_model.proofs.ListLemmas.{filter-remove_found}
use Rattle.page_ranges.specs.Spans.{AreRising}
use Rattle.backend_fit.specs.Effects.{insert_run}

---- One less

pub removed_of : {A : Type 0} (t u : A → Bool) (xs : List A) (x : A) → find u xs ≡ Some x → t x ≡ true → filter t (remove_found u xs) ≡ remove_found u (filter t xs)
removed_of t u [] x f h = absurd (let z : ⊥ = cc in z)
removed_of t u (y ∷ ys) x f h = elim (cases_Bool (u y)) [
  | inl e ↦
      let is : Some y ≡ Some x = rw e at f in
      let same : t y ≡ true = ap t (let k : y ≡ x = cc in k) ∙ h in
      rw (e, same) (rw e refl)
  | inr e ↦
      let again = removed_of t u ys x (rw e at f) h in
      elim (cases_Bool (t y)) [
        | inl g ↦ rw (e, g) (rw e (ap (λ zs. y ∷ zs) again))
        | inr g ↦ rw (e, g) again
      ]
]

pub removed_other : {A : Type 0} (t u : A → Bool) (xs : List A) (x : A) → find u xs ≡ Some x → t x ≡ false → filter t (remove_found u xs) ≡ filter t xs
removed_other t u xs x f h = filter-remove_found t u xs (λ y g. let is : Some x ≡ Some y = sym f ∙ g in ap t (let same : y ≡ x = cc in same) ∙ h)

-- what passes both tests is found among those that pass one
pub found_of : {A : Type 0} (t u : A → Bool) (xs : List A) → ((x : A) → u x ≡ true → t x ≡ true) → find u (filter t xs) ≡ find u xs
found_of t u [] f = refl
found_of t u (y ∷ ys) f = elim (cases_Bool (u y)) [
  | inl e ↦ let g = f y e in rw (e, g) (rw e refl)
  | inr e ↦ elim (cases_Bool (t y)) [
    | inl g ↦ rw (e, g) (rw e (found_of t u ys f))
    | inr g ↦ rw (e, g) (found_of t u ys f)
  ]
]

---- One run more

run_in_front : (r : Run) (from : ℕ) (rs : List Run) → r.first < from → AreRising from rs → insert_run r rs ≡ r ∷ rs
run_in_front r from [] l a = refl
run_in_front r from (q ∷ qs) l a = let e = lt-ltb r.first q.first (omega (arith, l, a.0)) in rw e refl

pub filter_rising : (t : Run → Bool) (from : ℕ) (rs : List Run) → AreRising from rs → AreRising from (filter t rs)
filter_rising t from [] a = tt
filter_rising t from (r ∷ rs) a = elim (cases_Bool (t r)) [
  | inl e ↦ rw e (a.0, a.1, filter_rising t (r.first + r.pages) rs a.2)
  | inr e ↦ rw e (filter_rising t from rs (lower from (r.first + r.pages) rs (omega (arith, a.0)) a.2))
]
  where
    lower : (low from : ℕ) (rs : List Run) → low ≤ from → AreRising from rs → AreRising low rs
    lower low from [] l a = tt
    lower low from (r ∷ rs) l a = (omega (arith, a.0), a.1, a.2)

pub run_of : (t : Run → Bool) (r : Run) (from : ℕ) (rs : List Run) → AreRising from rs → t r ≡ true → filter t (insert_run r rs) ≡ insert_run r (filter t rs)
run_of t r from [] a h = rw h refl
run_of t r from (q ∷ qs) a h = elim (cases_Bool (ltb r.first q.first)) [
  | inl e ↦
      let l = ltb-true r.first q.first e in
      elim (cases_Bool (t q)) [
        | inl g ↦ rw (e, h, g) (rw e refl)
        | inr g ↦
            let front = run_in_front r (q.first + q.pages) (filter t qs) (omega (arith, l, a.1)) (filter_rising t (q.first + q.pages) qs a.2) in
            rw (e, h, g) (sym front)
      ]
  | inr e ↦
      let again = run_of t r (q.first + q.pages) qs a.2 h in
      elim (cases_Bool (t q)) [
        | inl g ↦ rw (e, g) (rw e (ap (λ (rs : List Run). q ∷ rs) again))
        | inr g ↦ rw (e, g) again
      ]
]

pub run_other : (t : Run → Bool) (r : Run) (rs : List Run) → t r ≡ false → filter t (insert_run r rs) ≡ filter t rs
run_other t r [] h = rw h refl
run_other t r (q ∷ qs) h = elim (cases_Bool (ltb r.first q.first)) [
  | inl e ↦ rw (e, h) refl
  | inr e ↦
      let again = run_other t r qs h in
      elim (cases_Bool (t q)) [
        | inl g ↦ rw (e, g) (ap (λ (rs : List Run). q ∷ rs) again)
        | inr g ↦ rw (e, g) again
      ]
]

-- where a run stands among others in order, it begins behind their front
front_of : (r : Run) (from : ℕ) (rs : List Run) → AreRising from (insert_run r rs) → from ≤ r.first
front_of r from [] a = a.0
front_of r from (q ∷ qs) a = go (front_of r (q.first + q.pages) qs) (ltb r.first q.first) refl a
  where
    go : (AreRising (q.first + q.pages) (insert_run r qs) → q.first + q.pages ≤ r.first) → (b : Bool) → ltb r.first q.first ≡ b → AreRising from (insert_run r (q ∷ qs)) → from ≤ r.first
    go again true e a = let k : AreRising from (r ∷ q ∷ qs) = rw e at a in k.0
    go again false e a =
        let k : AreRising from (q ∷ insert_run r qs) = rw e at a in
        let l = again k.2 in
        omega (arith, l, k.0)

abbrev LieApartFrom : Run → List Run → Type 0
LieApartFrom r rs = AllByRecursion (λ (q : Run). (q.first + q.pages ≤ r.first) ⊎ (r.first + r.pages ≤ q.first)) rs

behind_all : (r : Run) (from : ℕ) (rs : List Run) → r.first + r.pages ≤ from → AreRising from rs → LieApartFrom r rs
behind_all r from [] l a = tt
behind_all r from (q ∷ qs) l a = (inr (omega (arith, l, a.0)), behind_all r (q.first + q.pages) qs (omega (arith, l, a.0)) a.2)

-- .. and it lies apart from each
pub run_apart : (r : Run) (from : ℕ) (rs : List Run) → AreRising from (insert_run r rs) → AllByRecursion (λ (q : Run). (q.first + q.pages ≤ r.first) ⊎ (r.first + r.pages ≤ q.first)) rs
run_apart r from [] a = tt
run_apart r from (q ∷ qs) a = go (run_apart r (q.first + q.pages) qs) (ltb r.first q.first) refl a
  where
    go : (AreRising (q.first + q.pages) (insert_run r qs) → LieApartFrom r qs) → (b : Bool) → ltb r.first q.first ≡ b → AreRising from (insert_run r (q ∷ qs)) → LieApartFrom r (q ∷ qs)
    go again true e a = let k : AreRising from (r ∷ q ∷ qs) = rw e at a in behind_all r (r.first + r.pages) (q ∷ qs) (omega arith) k.2
    go again false e a =
        let k : AreRising from (q ∷ insert_run r qs) = rw e at a in
        (inl (front_of r (q.first + q.pages) qs k.2), again k.2)
