-- The numbers are in rising order behind their sort.
use Rattle.std.proofs.Common.{rules}
use Rattle.std.proofs.lemmas.List.Sorted.{IsNonDecreasingBy-from_sort}
use Rattle.outside_io.proofs.calls.CallCount.new.Goals as goal

pub invariant_of-result : goal.invariant_of-result
invariant_of-result c =
    let sorted = IsNonDecreasingBy-from_sort (λ x. x) _ c.sort_unstable.ensures.sorted in
    search rules
