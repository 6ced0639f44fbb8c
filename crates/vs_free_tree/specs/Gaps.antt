-- A set of gaps, as contracts see it, and the gap that a request takes.
use Rattle.std.specs.Prelude.{◌≡◌, ℕ, ◌<◌, ◌≤◌, ◌==◌, Bool, true, ◌&&◌, ◌||◌, nat_lt, refl}
use Rattle.std.specs.Ordering.{nat_cmp, ordering_then}
use Rattle.std.specs.declared.cmp.Ordering.{Ordering}
use Rattle.std.specs.FinSet as set
use Rattle.std.specs.Coded.{Coded, code_by, coded×, coded_ℕ}

-- gaps, each as its granules and its first granule, in order: the smaller first, then the lower
abbrev pub gap_cmp : ℕ × ℕ → ℕ × ℕ → Ordering
gap_cmp g h = ordering_then (nat_cmp g.0 h.0) (nat_cmp g.1 h.1)

abbrev pub Gaps : Type 0
Gaps = set.FinSet gap_cmp

-- gaps, and how many of them there is room for
pub record GapIndex : Type 0 where
  pub gaps : Gaps
  pub capacity : ℕ

abbrev pub gap_index_code : Coded GapIndex
gap_index_code =
    code_by (Gaps × ℕ) (coded× (set.code (coded× coded_ℕ coded_ℕ)) coded_ℕ) (λ x. (x.gaps, x.capacity)) (λ p. record { gaps = p.0; capacity = p.1 })
    (λ _. refl)

abbrev pub empty_index : ℕ → GapIndex
empty_index capacity = record { gaps = set.empty; capacity = capacity }

abbrev pub is_before : ℕ × ℕ → ℕ × ℕ → Bool
is_before h g = nat_lt h.0 g.0 || (h.0 == g.0 && nat_lt h.1 g.1)

-- g is smaller than h, or as large and not above it
pub record IsUpTo (g h : ℕ × ℕ) : Type 0 where
  pub units : g.0 ≤ h.0
  pub at : g.0 ≡ h.0 → g.1 ≤ h.1

-- all the gaps have less than so many granules
abbrev pub NoneFits : ℕ → Gaps → Type 0
NoneFits units gaps = (h : ℕ × ℕ) → set.contains gaps h ≡ true → h.0 < units

-- the smallest gap of at least so many granules, the lowest among equals
pub record IsBest (units : ℕ) (gaps : Gaps) (g : ℕ × ℕ) : Type 0 where
  pub held : set.contains gaps g ≡ true
  pub fits : units ≤ g.0
  pub least : (h : ℕ × ℕ) → set.contains gaps h ≡ true → units ≤ h.0 → IsUpTo g h
