use Rattle.std.proofs.Common.{◌≡◌, ◌⊎◌, ℕ, ◌-◌, ◌<◌, ◌≤◌, length}
use Rattle.backend_fit.specs.Bits.{has, HasNone}
use Rattle.backend_fit.proofs.page_bits.clear.Given as goal

abbrev pub invariant-loop-page : goal.invariant-loop-page
invariant-loop-page l = record {
  length : length l.bits ≡ length l.fn.bits;
  low : l.from ≤ l.at;
  none : HasNone l.bits l.from l.at;
  others : (page : ℕ) → (page < l.from) ⊎ (l.to ≤ page) → has l.bits page ≡ has l.fn.bits page;
}

abbrev pub decreases-loop-page : goal.decreases-loop-page
decreases-loop-page l = l.to - l.at
