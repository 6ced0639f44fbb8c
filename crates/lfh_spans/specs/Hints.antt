-- What a caller reads of hints.
use Rattle.std.specs.Prelude.{◌≡◌, ℕ, ◌*◌, ◌<◌, true, [], ◌∷◌, Option, unwrap_or}
use Rattle.heap_model.specs.declared.Act.TheVariants as acts
use Rattle.block_steps.specs.Searches.{IsHinted}
use Rattle.claim_rule.specs.Places.{hint_at}
use Rattle.claim_rule.specs.Shown.{hint_word, owed_or}
use Rattle.claim_rule.specs.Entries.{entry, slot_at}
use Rattle.heap_gate.specs.Token.{Token, Always, now}
use Rattle.heap_gate.specs.Calls.{Runs, Stands, stance}

-- the slot that a caller was made with
abbrev pub own_slot : Token → ℕ
own_slot c = slot_at c.roll c.number

-- Before a search the hint names a subsegment that is there, which counts as read in this stay.
pub record FindsHint (old new : Token) (b head : ℕ) : Type 0 where
  pub runs : Runs old new []
  pub stands : Stands new (stance old)
  pub hinted : Always new (λ s. IsHinted (now s new) old.number b (own_slot old) head)
  pub small : head < 256 * new.opening.limits.segments

-- .. or it is 0, and the search finds none
pub record FindsNoHint (old new : Token) (b : ℕ) : Type 0 where
  pub runs : Runs old new (entry old.number (acts.NoHint b (own_slot old)) ∷ [])
  pub stands : Stands new (record (stance old) { searched = true })

-- The holder of Back reads a hint, with no entry: it is that of the definitions, but for what the holder owes.
pub record ReadsHint (old new : Token) (b : ℕ) (result : Option ℕ) : Type 0 where
  pub runs : Runs old new []
  pub stands : Stands new (stance old)
  pub word : Always new (λ s. unwrap_or result 0 ≡ owed_or old.owes (hint_at b (own_slot old)) (hint_word (now s new).state.back.area (now s new).now.span_history b (own_slot old)))
