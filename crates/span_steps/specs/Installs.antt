-- A subsegment that the holder of Back makes: its Span comes with the claim of its first block, and what the holder owes then.
use Rattle.std.specs.Prelude.{◌≡◌, ◌⊎◌, ℕ, zero, suc, ◌+◌, ◌*◌, ◌/◌, true, List, [], ◌∷◌, ◌++◌, Option}
use Rattle.atomic_table.specs.Table.{Step, Me}
use Rattle.heap_model.specs.declared.Act.TheVariants as acts
use Rattle.heap_model.specs.declared.Entry.{Entry}
use Rattle.heap_model.specs.declared.Kind.TheVariants as kinds
use Rattle.heap_model.specs.declared.Layer.TheVariants as layers
use Rattle.heap_model.specs.declared.What.TheVariants as whats
use Rattle.heap_model.specs.Buckets.{block_size, block_address}
use Rattle.heap_model.specs.State.{Setting, holds}
use Rattle.heap_model.specs.CallState.{Configuration}
use Rattle.heap_model.specs.History.{configuration_after, configuration_of, may_all_follow}
use Rattle.heap_model.specs.Agreement.{is_prepared}
use Rattle.claim_rule.specs.declared.views.Owed.{Owed}
use Rattle.claim_rule.specs.declared.views.View.{View}
use Rattle.claim_rule.specs.Shown.{owed_or, hint_word}
use Rattle.claim_rule.specs.Entries.{IsSettingOf, entry}
use Rattle.claim_rule.specs.Plays.{Goes, number_of}
use Rattle.step_parts.specs.InHand.{HasBlock}
use Rattle.step_parts.specs.Claims.{MayClaim}

-- the tags of so many pages from one on are owed, and are 0
abbrev pub owed_tags : ℕ → ℕ → List Owed → List Owed
owed_tags first zero owes = owes
owed_tags first (suc k) owes = record { word = 2182 + (first + k); value = 0 } ∷ owed_tags first k owes

-- behind a Span of the front end: its tags, and the hint of its bucket and slot is as it was
abbrev pub owed_by_span : ℕ → ℕ → ℕ → ℕ → ℕ → List Owed → List Owed
owed_by_span b t hint first pages owes = record { word = 118 + 16 * b + t; value = hint } ∷ owed_tags first pages owes

-- .. and behind the first Place in it
abbrev pub owed_by_install : ℕ → ℕ → ℕ → ℕ → ℕ → List Owed → List Owed
owed_by_install b t hint first pages owes = record { word = 118 + 16 * b + t; value = hint } ∷ owed_by_span b t hint first pages owes

-- a segment is reserved, where one is wanted, and the subsegment is made
abbrev pub making : ℕ → List Entry → ℕ → ℕ → ℕ → ℕ → List Entry
making n reserve first pages b t = reserve ++ entry n (acts.Span first pages kinds.Lfh b t) ∷ []

-- nothing is reserved before, or one segment
abbrev pub IsReserving : ℕ → List Entry → Type 0
IsReserving n reserve = (reserve ≡ []) ⊎ ((segment : ℕ) × (reserve ≡ entry n (acts.Reserve segment) ∷ []))

-- It holds Back, the entries may come and it alone decides so, and behind them it may claim block i of the new subsegment.
pub record MayInstall (s : Setting) (m : Configuration) (n : ℕ) (reserve : List Entry) (first pages b t i hint : ℕ) (owes : List Owed) : Type 0 where
  pub holds_it : holds m.state.gate n whats.Back ≡ true
  pub hint_is : owed_or owes (118 + 16 * b + t) (hint_word m.state.back.area m.now.span_history b t) ≡ hint
  pub stable : is_prepared s m n (making n reserve first pages b t) ≡ true
  pub follows : may_all_follow s m (making n reserve first pages b t) ≡ true
  pub claim : MayClaim s (configuration_after s m (making n reserve first pages b t)) n first b t i

module _ {T : Type 0} (es reserve : List Entry) (first pages b t i hint : ℕ) (st : Step (Option T)) (m : Me (Option T) View) (r : ℕ) (m' : Me (Option T) View) where
  -- the subsegment is there, and its block is in hand; its tags and the hint are owed
  pub record installed : Type 0 where
    pub goes : Goes (number_of m.0.role) m.0 m'.0 es (making (number_of m.0.role) reserve first pages b t ++ entry (number_of m.0.role) (acts.Place (block_address b first i) (block_size b / 16) layers.Lfh) ∷ [])
    pub slot : m'.1 ≡ m.1
    pub owes : m'.0.owes ≡ owed_by_install b t hint first pages m.0.owes
    pub tells : (s : Setting) → IsSettingOf m'.0.opening m'.0.roll s → HasBlock (configuration_of s m'.0.seen) (number_of m.0.role) b (block_address b first i)
