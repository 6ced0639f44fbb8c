-- The search: what a caller owes before it reads a word of a bitmap, or a hint, and what the step tells it.
use Rattle.std.specs.Prelude.{◌≡◌, ◌⊎◌, ℕ, true, is_some, List, [], Option, Some}
use Rattle.atomic_table.specs.Table.{Step, Me}
use Rattle.heap_model.specs.declared.Act.TheVariants as acts
use Rattle.heap_model.specs.declared.Entry.{Entry}
use Rattle.heap_model.specs.declared.What.TheVariants as whats
use Rattle.heap_model.specs.State.{Setting, is_entered, holds}
use Rattle.heap_model.specs.CallState.{Configuration, caller_view}
use Rattle.heap_model.specs.Search.{request_of, search_key_of, may_see, hint, has_not_begun}
use Rattle.heap_model.specs.History.{configuration_of}
use Rattle.heap_model.specs.Agreement.{holds_old_block}
use Rattle.claim_rule.specs.declared.views.Owed.{Owed}
use Rattle.claim_rule.specs.declared.views.View.{View}
use Rattle.claim_rule.specs.Entries.{IsSettingOf}
use Rattle.claim_rule.specs.Plays.{Adds, Goes, number_of}
use Rattle.step_parts.specs.Seen.{IsSeen}

-- it is inside, and may read this word of a subsegment that it has seen in this stay, by what it knows
pub record MaySee (s : Setting) (m : Configuration) (n head b t word : ℕ) : Type 0 where
  pub begun : is_some (m.now.calls n).call ≡ true
  pub inside : is_entered m.state.gate n ≡ true
  pub seeks : (request_of s m n).search ≡ Some b
  pub slot : s.slot n ≡ t
  pub sees : may_see m.state.back.area m.now.span_history (m.now.disturbed n) (caller_view m n) (search_key_of s n (m.now.calls n) b) head word ≡ true
  pub seen : IsSeen m head b t
  pub old : holds_old_block m n ≡ true

module _ {T : Type 0} (es : List Entry) (head word : ℕ) (st : Step (Option T)) (m : Me (Option T) View) (r : ℕ) (m' : Me (Option T) View) where
  -- the word r was read in the search
  pub record saw : Type 0 where
    pub adds : Adds es (acts.Saw head word r) m m'
    pub slot : m'.1 ≡ m.1
    pub owes : m'.0.owes ≡ m.0.owes

-- it is inside, its search has not begun, and while it holds Back it owes nothing
pub record MayHint (s : Setting) (m : Configuration) (n b t : ℕ) (owes : List Owed) : Type 0 where
  pub begun : is_some (m.now.calls n).call ≡ true
  pub inside : is_entered m.state.gate n ≡ true
  pub seeks : (request_of s m n).search ≡ Some b
  pub slot : s.slot n ≡ t
  pub fresh : has_not_begun (m.now.calls n).search.stage ≡ true
  pub old : holds_old_block m n ≡ true
  pub paid : holds m.state.gate n whats.Back ≡ true → owes ≡ []

-- the subsegment that a hint names is there, and is the one of the definitions unless another caller was about
pub record IsHinted (m : Configuration) (n b t head : ℕ) : Type 0 where
  pub seen : IsSeen m head b t
  pub right : (m.now.disturbed n ≡ true) ⊎ (hint m.state.back.area m.now.span_history b t ≡ Some head)

module _ {T : Type 0} (es : List Entry) (b t : ℕ) (st : Step (Option T)) (m : Me (Option T) View) (r : ℕ) (m' : Me (Option T) View) where
  -- a hint that is not 0 names a subsegment, from which the search may begin
  pub record HasHint : Type 0 where
    pub goes : Goes (number_of m.0.role) m.0 m'.0 es []
    pub slot : m'.1 ≡ m.1
    pub owes : m'.0.owes ≡ m.0.owes
    -- what the word that was found tells
    pub hinted : (s : Setting) → IsSettingOf m'.0.opening m'.0.roll s → IsHinted (configuration_of s m'.0.seen) (number_of m.0.role) b t r

  -- a hint of 0: the search finds no subsegment
  pub record HasNoHint : Type 0 where
    pub adds : Adds es (acts.NoHint b t) m m'
    pub slot : m'.1 ≡ m.1
    pub owes : m'.0.owes ≡ m.0.owes

  pub record hinted : Type 0 where
    pub some : (r ≡ 0 → ⊥) → HasHint
    pub none : r ≡ 0 → HasNoHint
