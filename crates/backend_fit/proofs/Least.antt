-- What holds of each run holds of the least of those that fit.
use Rattle.std.proofs.Common.{◌≡◌, ℕ, ◌≤◌, Bool, List, [], ◌∷◌, Some, subst, leb, inl, inr}
use Rattle.std.specs.List.{AllByRecursion}
use Rattle.std.proofs.lemmas.Bool.{leb-true, cases_Bool}
use Rattle.heap_model.specs.Runs.{Run, fitting, least_of, least}

-- what holds of each holds of those that fit, with their length
pub fitting_all : (P : Run → Type 0) (n : ℕ) (rs : List Run) → AllByRecursion P rs → AllByRecursion (λ r. P r × (n ≤ r.count)) (fitting n rs)
fitting_all P n [] a = tt
fitting_all P n (r ∷ rs) a =
    elim (cases_Bool (leb n r.count)) [
      | inl e ↦ rw e ((a.0, leb-true n r.count e), fitting_all P n rs a.1)
      | inr e ↦ rw e (fitting_all P n rs a.1)
    ]

least_of_all : (P : Run → Type 0) (before : Run → Run → Bool) (r : Run) (ss : List Run) → P r → AllByRecursion P ss → P (least_of before r ss)
least_of_all P before r [] p a = p
least_of_all P before r (s ∷ ss) p a =
    elim (cases_Bool (before s r)) [
      | inl e ↦ rw e (least_of_all P before s ss a.0 a.1)
      | inr e ↦ rw e (least_of_all P before r ss p a.1)
    ]

-- what holds of each holds of the least
pub least_all : (P : Run → Type 0) (before : Run → Run → Bool) (rs : List Run) (r : Run) → AllByRecursion P rs → least before rs ≡ Some r → P r
least_all P before [] r a e = absurd (let f : ⊥ = cc in f)
least_all P before (s ∷ ss) r a e = let f : least_of before s ss ≡ r = cc in subst P f (least_of_all P before s ss a.0 a.1)
