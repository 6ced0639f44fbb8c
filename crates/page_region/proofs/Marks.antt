-- One more page is counted, or cleared.
use Rattle.std.proofs.Common.{◌≡◌, ℕ, zero, suc, ◌+◌, Bool, false, cond, arith, count_by, add-zero}
use Rattle.std.proofs.lemmas.Bool.Decides.{nat_tests}
use Rattle.std.proofs.lemmas.List.Sums.{sum_by-cons}
use Rattle.heap_model.specs.Backend.{numbers}
use Rattle.page_region.specs.Held.{decommit}

pub count_more : (f : ℕ → Bool) (first k : ℕ) → count_by f (numbers first (suc k)) ≡ count_by f (numbers first k) + cond (f (first + k)) 1 0
count_more f first zero = rw add-zero (omega arith)
count_more f first (suc k) =
    let e : first + suc k ≡ first + 1 + k = omega arith in
    let g : ℕ → ℕ = λ x. cond (f x) 1 0 in
    rw e (omega (arith, count_more f (first + 1) k, sum_by-cons g first (numbers (first + 1) (suc k)), sum_by-cons g first (numbers (first + 1) k)))

-- with the marks as far as k cleared, clearing the next clears one more
pub decommit_same : (f : ℕ → Bool) (first k page : ℕ) → page ≡ first + k → decommit first (k + 1) f page ≡ false
decommit_same f first k page e = grind (arith, nat_tests)

pub decommit_other : (f : ℕ → Bool) (first k page : ℕ) → (page ≡ first + k → ⊥) → decommit first (k + 1) f page ≡ decommit first k f page
decommit_other f first k page e = grind (arith, nat_tests)
