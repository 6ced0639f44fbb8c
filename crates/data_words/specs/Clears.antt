-- What clearing words adds to the list of its caller.
use Rattle.std.specs.Prelude.{◌≡◌, ◌≢◌, ℕ, true, List, map}
use Rattle.heap_model.specs.declared.Entry.{Entry}
use Rattle.heap_model.specs.Shape.{zeros}
use Rattle.claim_rule.specs.Entries.{entry}
use Rattle.heap_gate.specs.Token.{Token}
use Rattle.heap_gate.specs.Calls.{Runs, Stands, stance}

-- 0 is stored into so many words from one on, in rising order
abbrev pub clears : ℕ → ℕ → ℕ → List Entry
clears n word count = map (entry n) (zeros true word count)

-- So many words were cleared; for none there is no step.
pub record IsCleared (old new : Token) (word count : ℕ) : Type 0 where
  pub none : count ≡ 0 → new ≡ old
  pub runs : count ≢ 0 → Runs old new (clears old.number word count)
  pub stands : count ≢ 0 → Stands new (stance old)
