-- The free bits are turned, so that the first at or after the start is the lowest.
use Rattle.std.proofs.Common.{◌≡◌, ◌<◌, ℕ, ◌∙◌, sym, ap, subst, arith, Some, ◌+◌, ◌%◌, ◌^◌, w64}
use Rattle.std.specs.Int.{trailing_zeros}
use Rattle.random_pick.proofs.PickLemmas.{picks_some, picks_none, turned}
use Rattle.random_pick.proofs.pick.Goals as goal

pub returns-then-free_from_start-eq0 : goal.returns-then-free_from_start-eq0
returns-then-free_from_start-eq0 c =
    sym (picks_none c.args.word c.args.valid c.args.start c.ranges.word.fits c.ranges.valid.fits c.requires
    (sym c.rotate_right-free_from_start.ensures ∙ c.if-free_from_start-eq0.true))

pub returns-else-free_from_start-eq0 : goal.returns-else-free_from_start-eq0
returns-else-free_from_start-eq0 c =
    let same = c.rotate_right-free_from_start.ensures in
    let some : 0 < turned c.args.word c.args.valid c.args.start = subst (λ (x : ℕ). 0 < x) same (above c.rotate_right-free_from_start.result c.if-free_from_start-eq0.false) in
    let fits : turned c.args.word c.args.valid c.args.start < 2 ^ 64 = subst (λ (x : ℕ). x < 2 ^ 64) same c.rotate_right-free_from_start.type_inv in
    ap (λ (x : ℕ). Some ((c.args.start + trailing_zeros w64 x) % 64)) same
    ∙ sym (picks_some c.args.word c.args.valid c.args.start c.ranges.word.fits c.ranges.valid.fits c.requires some fits)
  where
    above : (n : ℕ) → (n ≡ 0 → ⊥) → 0 < n
    above n h = omega arith
