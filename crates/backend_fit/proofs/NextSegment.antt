-- The free runs of an area with one segment more.
use Rattle.std.proofs.Common.{◌≡◌, ℕ, zero, suc, ◌+◌, ◌-◌, ◌*◌, ◌/◌, ◌%◌, ◌<◌, ◌≤◌, Bool, false, List, [], ◌∷◌, ◌++◌, refl, ap, subst, ◌∙◌, arith, eqb, leb, inl, inr}
use Rattle.std.specs.List.{AllByRecursion, list_any}
use Rattle.std.proofs.lemmas.Bool.{cases_Bool, ne_eqb, le-leb, lt-leb, lt-ltb, le-ltb, leb-true, leb-false}
use Rattle.heap_model.specs.Runs.{Run, joined, runs}
use Rattle.heap_model.specs.State.{Area, Span}
use Rattle.heap_model.specs.Backend.{in_span, is_free, free_runs}
use Rattle.serial_laws.specs.BackCalls.{one_more_reserved}
use Rattle.backend_fit.proofs.Tail.{tail, tail_run}

---- Runs of two stretches

-- the first of the runs, if there is one, begins behind a number
abbrev BeginsBehind : ℕ → List Run → Type 0
BeginsBehind n [] = Unit {0}
BeginsBehind n (r ∷ rs) = n < r.first

joined_behind : (m n : ℕ) (rs : List Run) → m < n → BeginsBehind m (joined n rs)
joined_behind m n [] l = l
joined_behind m n (r ∷ rs) l = elim (cases_Bool (eqb r.first (suc n))) [ inl e ↦ rw e l | inr e ↦ rw e l ]

runs_behind : (test : ℕ → Bool) (m at n : ℕ) → m < at → BeginsBehind m (runs test at n)
runs_behind test m at zero l = tt
runs_behind test m at (suc n) l = elim (cases_Bool (test at)) [
  | inl e ↦ rw e (joined_behind m at (runs test (suc at) n) l)
  | inr e ↦ rw e (runs_behind test m (suc at) n (omega arith))
]

joined_apart : (n : ℕ) (rs : List Run) → BeginsBehind (suc n) rs → joined n rs ≡ record { first = n; count = 1 } ∷ rs
joined_apart n [] h = refl
joined_apart n (r ∷ rs) h = let e = ne_eqb r.first (suc n) (λ k. omega arith) in rw e refl

joined_append : (n : ℕ) (rs qs : List Run) → BeginsBehind (suc n) qs → joined n (rs ++ qs) ≡ joined n rs ++ qs
joined_append n [] qs h = joined_apart n qs h
joined_append n (r ∷ rs) qs h = elim (cases_Bool (eqb r.first (suc n))) [ inl e ↦ rw e refl | inr e ↦ rw e refl ]

-- where a number that fails parts them, the runs of both stretches are those of each
pub runs_append : (test : ℕ → Bool) (at n m : ℕ) → test (at + n) ≡ false → runs test at (n + m) ≡ runs test at n ++ runs test (at + n) m
runs_append test at zero m h = let e : at + 0 ≡ at = omega arith in let f : 0 + m ≡ m = omega arith in rw (e, f) refl
runs_append test at (suc n) m h =
    let e : suc n + m ≡ suc (n + m) = omega arith in
    let f : at + suc n ≡ suc at + n = omega arith in
    let rest = runs_append test (suc at) n m (subst (λ (x : ℕ). test x ≡ false) f h) in
    rw (e, f) (elim (cases_Bool (test at)) [
      | inl t ↦ rw (t, rest) (joined_append at (runs test (suc at) n) (runs test (suc at + n) m) (behind test (suc at + n) m (omega arith) (subst (λ (x : ℕ). test x ≡ false) f h)))
      | inr t ↦ rw t rest
    ])
  where
    behind : (test : ℕ → Bool) (b m : ℕ) → suc at ≤ b → test b ≡ false → BeginsBehind (suc at) (runs test b m)
    behind test b zero l h = tt
    behind test b (suc m) l h = rw h (runs_behind test (suc at) (suc b) m (omega arith))

pub runs_same : (test other : ℕ → Bool) (at n : ℕ) → ((k : ℕ) → at ≤ k → k < at + n → test k ≡ other k) → runs test at n ≡ runs other at n
runs_same test other at zero h = refl
runs_same test other at (suc n) h =
    let here = h at (omega arith) (omega arith) in
    let rest = runs_same test other (suc at) n (λ k l m. h k (omega arith) (omega arith)) in
    rw (here, rest) refl

---- One segment more

-- all spans lie in the reserved segments
abbrev pub AreBelow : ℕ → List Span → Type 0
AreBelow reserved xs = AllByRecursion (λ x. x.first + x.pages ≤ 256 * reserved) xs

none_in_span : (reserved page : ℕ) (xs : List Span) → AreBelow reserved xs → 256 * reserved ≤ page → list_any (in_span page) xs ≡ false
none_in_span reserved page [] h l = refl
none_in_span reserved page (x ∷ xs) h l =
    let t = le-ltb page (x.first + x.pages) (omega (arith, h.0, l)) in
    let rest = none_in_span reserved page xs h.1 l in
    elim (cases_Bool (leb x.first page)) [ inl e ↦ rw (e, t, rest) refl | inr e ↦ rw (e, rest) refl ]

module _ (a : Area) (below : AreBelow a.reserved a.spans) where
  abbrev more : Area
  more = one_more_reserved a

  old_free : (page : ℕ) → 0 ≤ page → page < 0 + 256 * a.reserved → is_free more page ≡ is_free a page
  old_free page z l =
      let e = lt-ltb (page / 256) (a.reserved + 1) (omega arith) in
      let f = lt-ltb (page / 256) a.reserved (omega arith) in
      rw (e, f) refl

  first_page : is_free more (0 + 256 * a.reserved) ≡ false
  first_page =
      let e : (0 + 256 * a.reserved) % 256 ≡ 0 = omega arith in
      let f : (0 + 256 * a.reserved) / 256 ≡ a.reserved = omega arith in
      let g = lt-ltb a.reserved (a.reserved + 1) (omega arith) in
      rw (e, f, g) refl

  new_free : (n : ℕ) → n ≡ 256 → (page : ℕ) → 256 * a.reserved ≤ page → page < 256 * a.reserved + n → is_free more page ≡ leb (256 * a.reserved + 2) page
  new_free n w page l k =
      let d : page / 256 ≡ a.reserved = omega arith in
      let g = lt-ltb a.reserved (a.reserved + 1) (omega arith) in
      let none = none_in_span a.reserved page a.spans below l in
      elim (cases_Bool (leb (256 * a.reserved + 2) page)) [
        | inl e ↦ let h = le-leb 2 (page % 256) (omega (arith, leb-true (256 * a.reserved + 2) page e)) in rw (d, g, h, none, e) refl
        | inr e ↦ let h = lt-leb 2 (page % 256) (omega (arith, leb-false (256 * a.reserved + 2) page e)) in rw (d, g, h, e) refl
      ]

  tail_is : (n : ℕ) → n ≡ 256 → tail (256 * a.reserved + 2) (256 * a.reserved + n) ≡ record { first = 256 * a.reserved + 2; count = 254 } ∷ []
  tail_is n w =
      let e = lt-ltb (256 * a.reserved + 2) (256 * a.reserved + n) (omega arith) in
      let f : 256 * a.reserved + n - (256 * a.reserved + 2) ≡ 254 = omega arith in
      rw (e, f) refl

  pub one_run_more : free_runs more ≡ free_runs a ++ record { first = 256 * a.reserved + 2; count = 254 } ∷ []
  one_run_more = parts 256 refl
    where
      parts : (n : ℕ) → n ≡ 256 → free_runs more ≡ free_runs a ++ record { first = 256 * a.reserved + 2; count = 254 } ∷ []
      parts n w =
          let whole : 256 * (a.reserved + 1) ≡ 256 * a.reserved + n = omega arith in
          let zero_is : 0 + 256 * a.reserved ≡ 256 * a.reserved = omega arith in
          let front = runs_same (is_free more) (is_free a) 0 (256 * a.reserved) old_free in
          let back = tail_run (is_free more) (256 * a.reserved + 2) (256 * a.reserved) n (omega arith) (new_free n w) ∙ tail_is n w in
          ap (runs (is_free more) 0) whole
          ∙ runs_append (is_free more) 0 (256 * a.reserved) n first_page
          ∙ ap (λ (rs : List Run). rs ++ runs (is_free more) (0 + 256 * a.reserved) n) front
          ∙ ap (λ (x : ℕ). free_runs a ++ runs (is_free more) x n) zero_is
          ∙ ap (λ (rs : List Run). free_runs a ++ rs) back
