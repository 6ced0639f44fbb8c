-- No live block has an address: what a caller owes before it says so with a step that has an entry of its own, or none.
use Rattle.std.specs.Prelude.{◌≡◌, ◌⊎◌, ℕ, ◌+◌, ◌*◌, ◌/◌, ◌%◌, ◌<◌, ◌≤◌, true, false, is_some, List, [], ◌∷◌, Option, Some}
use Rattle.std.specs.List.{list_any}
use Rattle.atomic_table.specs.Table.{Step, Me}
use Rattle.heap_model.specs.declared.Act.TheVariants as acts
use Rattle.heap_model.specs.declared.Entry.{Entry}
use Rattle.heap_model.specs.declared.Limits.{Limits}
use Rattle.heap_model.specs.declared.What.{What}
use Rattle.heap_model.specs.declared.What.TheVariants as whats
use Rattle.heap_model.specs.Buckets.{block_address, block_count}
use Rattle.heap_model.specs.State.{Span, is_entered, holds}
use Rattle.heap_model.specs.Backend.{in_span}
use Rattle.heap_model.specs.Ranges.{vs_spans}
use Rattle.heap_model.specs.CallState.{Configuration}
use Rattle.heap_model.specs.Legal.{has_live}
use Rattle.heap_soundness.specs.Sound.{IsOneOf}
use Rattle.claim_rule.specs.declared.views.View.{View}
use Rattle.claim_rule.specs.Shown.{lfh_spans}
use Rattle.claim_rule.specs.Entries.{entry}
use Rattle.claim_rule.specs.Plays.{Adds, Goes, number_of}
use Rattle.claim_rule.specs.Home.{slot_of}

-- no place of a span ever has the address: it is no multiple of 16, or lies behind the segments or in the header of one
abbrev pub IsNowhere : Limits → ℕ → Type 0
IsNowhere l a = (a % 16 ≡ 0 → ⊥) ⊎ ((256 * l.segments ≤ a / 4096) ⊎ (a / 4096 % 256 < 2))

-- .. nor does a large place
abbrev pub IsNotLarge : Limits → ℕ → Type 0
IsNotLarge l a = (a % 16 ≡ 0 → ⊥) ⊎ ((a / 4096 < 256 * l.segments) ⊎ (256 * l.segments + l.large_pages ≤ a / 4096))

-- n holds Back, and no span of these has the address
abbrev pub IsInNone : Configuration → ℕ → ℕ → List Span → Type 0
IsInNone m n a xs = (holds m.state.gate n whats.Back ≡ true) × (list_any (in_span (a / 4096)) xs ≡ false)

-- n holds Vs, and a span of VS has it
abbrev pub IsOfVs : Configuration → ℕ → ℕ → Type 0
IsOfVs m n a = (holds m.state.gate n whats.Vs ≡ true) × (list_any (in_span (a / 4096)) (vs_spans m.state.back.area) ≡ true)

-- a subsegment that was seen in this stay has it, and none of its blocks begins there
pub record IsOffBlock (m : Configuration) (a : ℕ) : Type 0 where
  pub span : Span
  pub there : IsOneOf span (lfh_spans m.state.back.area)
  pub has_page : in_span (a / 4096) span ≡ true
  pub off : (i : ℕ) → i < block_count span.bucket → a ≡ block_address span.bucket span.first i → ⊥

-- It is inside, and of each layer it knows, by a lock that it holds or by the spans, that no live block is there.
pub record MayDeny (l : Limits) (m : Configuration) (n a : ℕ) : Type 0 where
  pub begun : is_some (m.now.calls n).call ≡ true
  pub inside : is_entered m.state.gate n ≡ true
  pub lfh : IsNowhere l a ⊎ (IsInNone m n a (lfh_spans m.state.back.area) ⊎ (IsOfVs m n a ⊎ IsOffBlock m a))
  pub vs : IsNowhere l a ⊎ (IsInNone m n a (vs_spans m.state.back.area) ⊎ (((holds m.state.gate n whats.Vs ≡ true) × (has_live m.state.vs.places a ≡ false)) ⊎ IsOffBlock m a))
  pub back : IsNowhere l a ⊎ (((holds m.state.gate n whats.Back ≡ true) × (has_live m.state.back.places a ≡ false)) ⊎ (IsOfVs m n a ⊎ IsOffBlock m a))
  pub large : IsNotLarge l a ⊎ ((holds m.state.gate n whats.Large ≡ true) × (has_live m.state.large a ≡ false))

module _ {T : Type 0} (es : List Entry) (a : ℕ) (st : Step (Option T)) (m : Me (Option T) View) (r : ℕ) (m' : Me (Option T) View) where
  -- with a load of any word
  pub record denied : Type 0 where
    pub adds : Adds es (acts.NotLive a) m m'
    pub slot : m'.1 ≡ m.1
    pub owes : m'.0.owes ≡ m.0.owes

  -- .. with the step that leaves
  pub record denied_left : Type 0 where
    pub goes : Goes (number_of m.0.role) m.0 m'.0 es (entry (number_of m.0.role) (acts.NotLive a) ∷ entry (number_of m.0.role) acts.Leave ∷ [])
    pub slot : m'.1 ≡ m.1
    pub owes : m'.0.owes ≡ m.0.owes

-- .. with the step that gives a lock back
module _ {T : Type 0} (what : What) (es : List Entry) (a : ℕ) (st : Step (Option T)) (m : Me (Option T) View) (r : ℕ) (m' : Me (Option T) View) where
  -- no live block has the address, and the lock is free
  pub record denied_gave : Type 0 where
    pub goes : Goes (number_of m.0.role) m.0 m'.0 es (entry (number_of m.0.role) (acts.NotLive a) ∷ entry (number_of m.0.role) (acts.GiveLock what) ∷ [])
    pub slot : (state : T) (more : List (ℕ × Option T)) → m.1 ≡ (slot_of what, Some state) ∷ more → m'.1 ≡ more
    pub owes : m'.0.owes ≡ m.0.owes
