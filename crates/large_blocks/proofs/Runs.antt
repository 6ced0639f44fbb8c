-- Runs of a test that is known stretch by stretch.
use Rattle.std.proofs.Common.{◌≡◌, ◌⊎◌, ℕ, zero, suc, ◌+◌, ◌<◌, ◌≤◌, Bool, true, false, List, [], ◌∷◌, refl, subst, arith, eqb, add-zero, zero-add, inl, inr}
use Rattle.std.proofs.lemmas.Bool.{cases_Bool, ne_eqb, eq-eqb}
use Rattle.heap_model.specs.Runs.{Run, joined, runs}

-- the first of the runs, if there is one, begins behind a number
abbrev BeginsBehind : ℕ → List Run → Type 0
BeginsBehind n [] = Unit {0}
BeginsBehind n (r ∷ rs) = n < r.first

joined_behind : (m n : ℕ) (rs : List Run) → m < n → BeginsBehind m (joined n rs)
joined_behind m n [] l = l
joined_behind m n (r ∷ rs) l = elim (cases_Bool (eqb r.first (suc n))) [ inl e ↦ rw e l | inr e ↦ rw e l ]

runs_behind : (test : ℕ → Bool) (m at n : ℕ) → m < at → BeginsBehind m (runs test at n)
runs_behind test m at zero l = tt
runs_behind test m at (suc n) l = elim (cases_Bool (test at)) [
  | inl e ↦ rw e (joined_behind m at (runs test (suc at) n) l)
  | inr e ↦ rw e (runs_behind test m (suc at) n (omega arith))
]

joined_apart : (n : ℕ) (rs : List Run) → BeginsBehind (suc n) rs → joined n rs ≡ record { first = n; count = 1 } ∷ rs
joined_apart n [] h = refl
joined_apart n (r ∷ rs) h = let e = ne_eqb r.first (suc n) (λ k. omega arith) in rw e refl

pub runs_same : (test other : ℕ → Bool) (at n : ℕ) → ((k : ℕ) → at ≤ k → test k ≡ other k) → runs test at n ≡ runs other at n
runs_same test other at zero h = refl
runs_same test other at (suc n) h =
    let here = h at (omega arith) in
    let rest = runs_same test other (suc at) n (λ k l. h k (omega arith)) in
    rw (here, rest) refl

-- the first c fail
pub runs_over_false : (test : ℕ → Bool) (c at n : ℕ) → ((k : ℕ) → at ≤ k → k < at + c → test k ≡ false) → runs test at (c + n) ≡ runs test (at + c) n
runs_over_false test zero at n h = rw (zero-add, add-zero) refl
runs_over_false test (suc c) at n h =
    let e : suc c + n ≡ suc (c + n) = omega arith in
    let g : at + suc c ≡ suc at + c = omega arith in
    let t : test at ≡ false = h at (omega arith) (omega arith) in
    rw (e, t, g) (runs_over_false test c (suc at) n (λ k l m. h k (omega arith) (omega arith)))

-- the first c pass, and the next one does not
pub runs_over_true : (test : ℕ → Bool) (c at n : ℕ) → ((k : ℕ) → at ≤ k → k < at + suc c → test k ≡ true) → (n ≡ 0) ⊎ (test (at + suc c) ≡ false) →
    runs test at (suc c + n) ≡ record { first = at; count = suc c } ∷ runs test (at + suc c) n
runs_over_true test zero at n h end =
    let e : suc zero + n ≡ suc n = omega arith in
    let g : at + suc zero ≡ suc at = omega arith in
    let t : test at ≡ true = h at (omega arith) (omega arith) in
    rw (e, t, g) (joined_apart at (runs test (suc at) n) (behind n (subst (λ (x : ℕ). (n ≡ 0) ⊎ (test x ≡ false)) g end)))
  where
    behind : (n : ℕ) → (n ≡ 0) ⊎ (test (suc at) ≡ false) → BeginsBehind (suc at) (runs test (suc at) n)
    behind zero q = tt
    behind (suc n) (inl q) = absurd (omega arith)
    behind (suc n) (inr q) = rw q (runs_behind test (suc at) (suc (suc at)) n (omega arith))
runs_over_true test (suc c) at n h end =
    let e : suc (suc c) + n ≡ suc (suc c + n) = omega arith in
    let g : at + suc (suc c) ≡ suc at + suc c = omega arith in
    let t : test at ≡ true = h at (omega arith) (omega arith) in
    let again = runs_over_true test c (suc at) n (λ k l m. h k (omega arith) (omega arith)) (subst (λ (x : ℕ). (n ≡ 0) ⊎ (test x ≡ false)) g end) in
    let same = eq-eqb (suc at) (suc at) refl in
    rw (e, t, again, g) (rw same refl)
