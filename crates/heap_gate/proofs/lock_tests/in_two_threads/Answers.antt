use Rattle.std.proofs.Common.{◌≡◌, ℕ, List, [], ◌∷◌, true, sym, subst}
use Rattle.heap_gate.specs.Roots.{RootToken, is_of}
use Rattle.heap_gate.proofs.lock_tests.in_two_threads.Goals as goal

pub returns-clause-both : goal.returns-clause-both
returns-clause-both g c =
    let e : c.join-2.new.root.joined ≡ 1 ∷ 0 ∷ [] = cc in
    let j : is_of (1 ∷ 0 ∷ []) c.join-2.new.root.seen ≡ true = subst (λ (l : List ℕ). is_of l c.join-2.new.root.seen ≡ true) e c.close_table.ensures.joined in
    subst (λ (r : RootToken). is_of (1 ∷ 0 ∷ []) r.seen ≡ true) (sym c.close_table.ensures.last) j
