-- What a copy adds to the list of its caller.
use Rattle.std.specs.Prelude.{◌≡◌, ℕ, ◌+◌, List, [], ◌∷◌}
use Rattle.heap_model.specs.declared.Act.TheVariants as acts
use Rattle.heap_model.specs.declared.Entry.{Entry}
use Rattle.claim_rule.specs.Entries.{entry}
use Rattle.heap_gate.specs.Token.{Token}
use Rattle.heap_gate.specs.Calls.{Runs, Stands, stance}

-- each value is loaded from one word and stored into another, in rising order
abbrev pub copies : ℕ → ℕ → ℕ → List ℕ → List Entry
copies n from to [] = []
copies n from to (v ∷ vs) = entry n (acts.Load from v) ∷ entry n (acts.Store to v) ∷ copies n (from + 1) (to + 1) vs

-- these values were copied; of none there is no step
abbrev pub IsCopied : Token → Token → ℕ → ℕ → List ℕ → Type 0
IsCopied old new from to [] = new ≡ old
IsCopied old new from to (v ∷ vs) = Runs old new (copies old.number from to (v ∷ vs)) × Stands new (stance old)
