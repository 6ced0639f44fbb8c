-- Words that are read with no entry, in or outside a search: what they tell of the configuration behind what the seat has seen, and the owner of the heap
-- lock of the one that it knew.
use Rattle.std.specs.Prelude.{◌≡◌, ◌⊎◌, ℕ, ◌+◌, ◌*◌, ◌/◌, true, false, List, [], Option, None}
use Rattle.atomic_table.specs.Table.{Step, Me}
use Rattle.heap_model.specs.declared.Entry.{Entry}
use Rattle.heap_model.specs.declared.What.TheVariants as whats
use Rattle.heap_model.specs.Bits.{bits_of}
use Rattle.heap_model.specs.State.{Area, Setting, Span, Place, is_caller, is_entered, holds}
use Rattle.heap_model.specs.CallState.{Configuration}
use Rattle.heap_model.specs.History.{configuration_of}
use Rattle.heap_soundness.specs.Sound.{IsOneOf}
use Rattle.claim_rule.specs.declared.views.Owed.{Owed}
use Rattle.claim_rule.specs.declared.views.View.{View}
use Rattle.claim_rule.specs.Shown.{lfh_spans, bitmap_word, size_word, owed_or, tag_word, hint_word, HasMaker, MayBeOld, flag}
use Rattle.claim_rule.specs.Entries.{IsSettingOf}
use Rattle.claim_rule.specs.Rule.{ready_after}
use Rattle.claim_rule.specs.Plays.{Goes, number_of}
use Rattle.step_parts.specs.Seen.{IsSeen, IsTagged}

module _ {T : Type 0} (es : List Entry) (b : ℕ) (st : Step (Option T)) (m : Me (Option T) View) (r : ℕ) (m' : Me (Option T) View) where
  -- the word tells whether the bucket is active
  pub record asked_active : Type 0 where
    pub goes : Goes (number_of m.0.role) m.0 m'.0 es []
    pub slot : m'.1 ≡ m.1
    pub owes : m'.0.owes ≡ m.0.owes
    pub tells : (s : Setting) → IsSettingOf m'.0.opening m'.0.roll s → r ≡ flag ((configuration_of s m'.0.seen).state.vs.active (b + 1))

-- a word of the bitmap of the page, which for the first page of a subsegment is that of its places
pub record IsBitsWord (ps : List Place) (a : Area) (head word r : ℕ) : Type 0 where
  pub shown : r ≡ bitmap_word ps (lfh_spans a) head word
  pub bits : (x : Span) → IsOneOf x (lfh_spans a) → x.first ≡ head → r ≡ bits_of ps x word

module _ {T : Type 0} (es : List Entry) (head word : ℕ) (st : Step (Option T)) (m : Me (Option T) View) (r : ℕ) (m' : Me (Option T) View) where
  -- what a word of a bitmap tells
  pub record looked_bits : Type 0 where
    pub goes : Goes (number_of m.0.role) m.0 m'.0 es []
    pub slot : m'.1 ≡ m.1
    pub owes : m'.0.owes ≡ m.0.owes
    pub tells : (s : Setting) → IsSettingOf m'.0.opening m'.0.roll s → IsBitsWord (configuration_of s m'.0.seen).state.lfh (configuration_of s m'.0.seen).state.back.area head word r
    pub owner : (s : Setting) → IsSettingOf m'.0.opening m'.0.roll s → is_caller (number_of m.0.role) (ready_after s m.0 es).state.gate.owner ≡ true
        → IsBitsWord (ready_after s m.0 es).state.lfh (ready_after s m.0 es).state.back.area head word r

-- the size word of an address
module _ {T : Type 0} (es : List Entry) (addr : ℕ) (st : Step (Option T)) (m : Me (Option T) View) (r : ℕ) (m' : Me (Option T) View) where
  -- what a size word tells
  pub record looked_size : Type 0 where
    pub goes : Goes (number_of m.0.role) m.0 m'.0 es []
    pub slot : m'.1 ≡ m.1
    pub owes : m'.0.owes ≡ m.0.owes
    pub tells : (s : Setting) → IsSettingOf m'.0.opening m'.0.roll s → r ≡ size_word (configuration_of s m'.0.seen).state.lfh (addr / 16)
    pub owner : (s : Setting) → IsSettingOf m'.0.opening m'.0.roll s → is_caller (number_of m.0.role) (ready_after s m.0 es).state.gate.owner ≡ true → r ≡ size_word (ready_after s m.0 es).state.lfh (addr / 16)

-- A hint that is read. It is that of the state where nobody holds Back, and where n owns the heap lock without Back. Where n holds Back, n knows it by what it owes.
pub record IsHintWord (m : Configuration) (n b t : ℕ) (owes : List Owed) (r : ℕ) : Type 0 where
  pub shown : (r ≡ hint_word m.state.back.area m.now.span_history b t) ⊎ MayBeOld m b t r
  pub free : m.state.gate.locks.back ≡ None → r ≡ hint_word m.state.back.area m.now.span_history b t
  pub alone : is_caller n m.state.gate.owner ≡ true → holds m.state.gate n whats.Back ≡ false → r ≡ hint_word m.state.back.area m.now.span_history b t
  pub mine : holds m.state.gate n whats.Back ≡ true → r ≡ owed_or owes (118 + 16 * b + t) (hint_word m.state.back.area m.now.span_history b t)
  pub seen : (r ≡ 0 → ⊥) → IsSeen m r b t

module _ {T : Type 0} (es : List Entry) (b t : ℕ) (st : Step (Option T)) (m : Me (Option T) View) (r : ℕ) (m' : Me (Option T) View) where
  -- what a hint tells
  pub record looked_hint : Type 0 where
    pub goes : Goes (number_of m.0.role) m.0 m'.0 es []
    pub slot : m'.1 ≡ m.1
    pub owes : m'.0.owes ≡ m.0.owes
    pub tells : (s : Setting) → IsSettingOf m'.0.opening m'.0.roll s → IsHintWord (configuration_of s m'.0.seen) (number_of m.0.role) b t m.0.owes r

-- .. or a tag. It is 0 over a subsegment, for a caller inside that does not hold Back, only where the one that made the subsegment has held Back since before.
pub record IsTagWord (m : Configuration) (n page : ℕ) (owes : List Owed) (r : ℕ) : Type 0 where
  pub shown : (r ≡ tag_word (lfh_spans m.state.back.area) page) ⊎ (r ≡ 0)
  pub free : m.state.gate.locks.back ≡ None → r ≡ tag_word (lfh_spans m.state.back.area) page
  pub alone : is_caller n m.state.gate.owner ≡ true → holds m.state.gate n whats.Back ≡ false → r ≡ tag_word (lfh_spans m.state.back.area) page
  pub wanting : r ≡ 0 → is_entered m.state.gate n ≡ true → holds m.state.gate n whats.Back ≡ false → HasMaker m.state.back.area m.now.span_history page
  pub mine : holds m.state.gate n whats.Back ≡ true → r ≡ owed_or owes (2182 + page) (tag_word (lfh_spans m.state.back.area) page)
  pub tagged : (r ≡ 0 → ⊥) → IsTagged m page r

module _ {T : Type 0} (es : List Entry) (page : ℕ) (st : Step (Option T)) (m : Me (Option T) View) (r : ℕ) (m' : Me (Option T) View) where
  -- what a tag tells
  pub record looked_tag : Type 0 where
    pub goes : Goes (number_of m.0.role) m.0 m'.0 es []
    pub slot : m'.1 ≡ m.1
    pub owes : m'.0.owes ≡ m.0.owes
    pub tells : (s : Setting) → IsSettingOf m'.0.opening m'.0.roll s → IsTagWord (configuration_of s m'.0.seen) (number_of m.0.role) page m.0.owes r
