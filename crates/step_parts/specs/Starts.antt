-- Where places begin.
use Rattle.std.specs.Prelude.{◌≡◌, List, [], ◌∷◌}
use Rattle.std.specs.List.{AllByRecursion}
use Rattle.heap_model.specs.State.{Place}

-- no two begin at one address
abbrev pub HaveOwnStarts : List Place → Type 0
HaveOwnStarts [] = Unit {0}
HaveOwnStarts (p ∷ ps) = AllByRecursion (λ q. p.start ≡ q.start → ⊥) ps × HaveOwnStarts ps
