-- The calls of a source or a sink in memory, some of which are to fail.
use Rattle.std.specs.Prelude.{◌≡◌, ℕ, ◌+◌, ◌-◌, ◌^◌, min, List, Contains}
use Rattle.std.specs.List.Sorted.{IsPermutation}

-- How many calls were made so far, the numbers of the calls that fail (the first call has number 0), and how many failed so far.
-- The numbers that fail are below 2 ^ 32, so a count of calls that stands still at its last value names no call that fails.
pub record Calls : Type 0 where
  pub made : ℕ
  pub failing : List ℕ
  pub faults : ℕ

-- No call was made yet, and those that fail are the calls with these numbers.
pub record BeginsWith (numbers : List ℕ) (calls : Calls) : Type 0 where
  pub made : calls.made ≡ 0
  pub faults : calls.faults ≡ 0
  pub failing : IsPermutation numbers calls.failing

-- The next call fails: its number stands among those that fail.
abbrev pub FailsNext : Calls → Type 0
FailsNext calls = Contains calls.failing calls.made

-- One call more was made, and is counted as a fault exactly where it fails.
pub record OneMore (old new : Calls) : Type 0 where
  pub made : new.made ≡ min (old.made + 1) (2 ^ 64 - 1)
  pub failing : new.failing ≡ old.failing
  pub fault : FailsNext old → new.faults ≡ old.faults + 1
  pub none : (FailsNext old → ⊥) → new.faults ≡ old.faults
