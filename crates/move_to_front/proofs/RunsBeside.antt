-- What is free behind a block of VS, where a span of VS is made elsewhere.
use Rattle.std.proofs.Common.{◌≡◌, ◌⊎◌, ℕ, ◌+◌, ◌*◌, ◌-◌, ◌<◌, ◌≤◌, ◌==◌, Bool, false, List, [], ◌∷◌, Option, None, refl, sym, ap, ◌∙◌, arith, inl, inr}
use Rattle.std.specs.Prelude.{nat_lt, unwrap_or, option_map}
use Rattle.std.specs.List.{find, AllByRecursion}
use Rattle.std.specs.Option.{option_or}
use Rattle.std.proofs.lemmas.Bool.{cases_Bool, ne_eqb}
use Rattle.std.proofs.lemmas.List.Folds.{find-append}
use Rattle.heap_model.specs.Ranges.{is_clear, gaps_in, gaps_of}
use Rattle.heap_model.specs.Runs.{Run, IsRun}
use Rattle.heap_model.specs.State.{Span, Place, insert_span}
use Rattle.heap_model.specs.Stay.{run_from}
use Rattle.heap_soundness.proofs.Lists.{all_weaker}
use Rattle.heap_soundness.proofs.Maximal.{runs_only}

-- no gap of the span begins there
abbrev pub IsOutside : ℕ → Span → Type 0
IsOutside at x = (at < 256 * x.first + 3) ⊎ (256 * (x.first + x.pages) ≤ at)

abbrev begins : ℕ → Run → Bool
begins at r = r.first == at

find_none : (t : Run → Bool) (rs : List Run) → AllByRecursion (λ r. t r ≡ false) rs → find t rs ≡ None
find_none t [] h = refl
find_none t (r ∷ rs) h = let e = h.0 in rw e (find_none t rs h.1)

none_begins : (ps : List Place) (x : Span) (at : ℕ) → IsOutside at x → find (λ r. r.first == at) (gaps_in ps x) ≡ None
none_begins ps x at o = find_none (begins at) (gaps_in ps x) (all_weaker (IsRun (is_clear ps) (256 * x.first + 3) (256 * x.first + 3 + (256 * x.pages - 3))) (λ r. begins at r ≡ false) (gaps_in ps x)
    (λ r i k. ne_eqb r.first at (λ e. off o r k e)) (runs_only (is_clear ps) (256 * x.first + 3) (256 * x.pages - 3)))
  where
    off : IsOutside at x → (r : Run) → IsRun (is_clear ps) (256 * x.first + 3) (256 * x.first + 3 + (256 * x.pages - 3)) r → r.first ≡ at → ⊥
    off (inl l) r k e = let a = k.above in omega (arith, l, a, e)
    off (inr l) r k e = let a = k.above in let b = k.below in let c = k.some in omega (arith, l, a, b, c, e)

found_beside : (ps : List Place) (x : Span) (at : ℕ) → IsOutside at x → (xs : List Span) → find (λ r. r.first == at) (gaps_of (insert_span x xs) ps) ≡ find (λ r. r.first == at) (gaps_of xs ps)
found_beside ps x at o [] = find-append (begins at) (gaps_in ps x) [] ∙ ap (λ (z : Option Run). option_or z None) (none_begins ps x at o)
found_beside ps x at o (y ∷ ys) = elim (cases_Bool (nat_lt x.first y.first)) [
  | inl e ↦ rw e (find-append (begins at) (gaps_in ps x) (gaps_of (y ∷ ys) ps) ∙ ap (λ (z : Option Run). option_or z (find (begins at) (gaps_of (y ∷ ys) ps))) (none_begins ps x at o))
  | inr e ↦ rw e (find-append (begins at) (gaps_in ps y) (gaps_of (insert_span x ys) ps) ∙ (ap (λ (z : Option Run). option_or (find (begins at) (gaps_in ps y)) z) (found_beside ps x at o ys) ∙ sym (find-append (begins at) (gaps_in ps y) (gaps_of ys ps))))
]

pub free_beside : (ps : List Place) (x : Span) (xs : List Span) (at : ℕ) → IsOutside at x → run_from (gaps_of (insert_span x xs) ps) at ≡ run_from (gaps_of xs ps) at
free_beside ps x xs at o = ap (λ (z : Option Run). unwrap_or (option_map (λ (r : Run). r.count) z) 0) (found_beside ps x at o xs)
