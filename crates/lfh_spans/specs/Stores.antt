-- What the steps on a subsegment come to.
use Rattle.std.specs.Prelude.{◌≡◌, ℕ, zero, suc, ◌+◌, ◌/◌, ◌<◌, ◌≤◌, nat_lt, false, List, [], ◌∷◌, ◌++◌, if◌then◌else◌}
use Rattle.heap_model.specs.declared.Act.TheVariants as acts
use Rattle.heap_model.specs.declared.Entry.{Entry}
use Rattle.heap_model.specs.declared.Layer.TheVariants as layers
use Rattle.heap_model.specs.Buckets.{block_size, block_address}
use Rattle.heap_model.specs.CallState.{Configuration}
use Rattle.heap_model.specs.History.{configuration_after}
use Rattle.heap_model.specs.Agreement.{AgreesFor}
use Rattle.claim_rule.specs.declared.views.Owed.{Owed}
use Rattle.claim_rule.specs.Entries.{entry}
use Rattle.claim_rule.specs.Places.{tag_at}
use Rattle.claim_rule.specs.Shown.{lfh_spans, tag_word}
use Rattle.span_steps.specs.Installs.{making, owed_by_install}
use Rattle.span_steps.specs.Stores.{paid_off}
use Rattle.step_parts.specs.InHand.{HasBlock}
use Rattle.heap_gate.specs.Token.{Token, Always, now}
use Rattle.heap_gate.specs.Calls.{Does, Stands, stance}

-- the tags of so many pages from one on are this word
abbrev pub AreTagged : Configuration → ℕ → ℕ → ℕ → Type 0
AreTagged m first pages tag = (page : ℕ) → first ≤ page → page < first + pages → tag_word (lfh_spans m.state.back.area) page ≡ tag

-- the tags of so many pages are stored, from the last on
abbrev pub paid_tags : ℕ → ℕ → List Owed → List Owed
paid_tags first zero owes = owes
paid_tags first (suc k) owes = paid_tags first k (paid_off (tag_at (first + k)) owes)

-- the segment of a page is reserved, where fewer are
abbrev pub reserving_in : ℕ → ℕ → ℕ → List Entry
reserving_in n reserved first = if nat_lt (first / 256) reserved then [] else entry n (acts.Reserve reserved) ∷ []

-- a subsegment is made, and its block i is placed
abbrev pub made_with : ℕ → List Entry → ℕ → ℕ → ℕ → ℕ → ℕ → List Entry
made_with n reserve first pages b t i = making n reserve first pages b t ++ entry n (acts.Place (block_address b first i) (block_size b / 16) layers.Lfh) ∷ []

-- The caller has made a subsegment, and has its block i in hand. Its tags and its hint are owed.
pub record HasMade (old new : Token) (reserve : List Entry) (first pages b t i hint : ℕ) : Type 0 where
  pub does : Does old new (made_with old.number reserve first pages b t i)
  pub agrees : Always new (λ s. AgreesFor old.number (now s new) (configuration_after s (now s old) (made_with old.number reserve first pages b t i)))
  pub block : Always new (λ s. HasBlock (now s new) old.number b (block_address b first i))
  pub stands : Stands new (record (stance old) { free = false; owes = owed_by_install b t hint first pages old.owes })
