-- What a contract sees of the root, which makes callers and takes them in again.
use Rattle.std.specs.Prelude.{◌≡◌, ℕ, Bool, true, false, ◌&&◌, List, [], ◌∷◌, ◌++◌, length, Option, None}
use mathlib.Core.List.{IsPrefix}
use Rattle.atomic_table.specs.Table.{Me}
use Rattle.atomic_table.specs.Seated.{TableId}
use Rattle.heap_model.specs.declared.Entry.{Entry}
use Rattle.heap_model.specs.declared.Limits.{Limits}
use Rattle.heap_model.specs.declared.Opening.{Opening}
use Rattle.heap_model.specs.State.{Setting, State, is_among, is_caller, hands, open_locks}
use Rattle.heap_model.specs.CallState.{Configuration, caller_view, holds_none}
use Rattle.heap_model.specs.History.{configuration_of, own}
use Rattle.heap_model.specs.Agreement.{AgreesFor}
use Rattle.claim_rule.specs.declared.views.Assignment.{Assignment}
use Rattle.claim_rule.specs.declared.views.Lead.{Lead}
use Rattle.claim_rule.specs.declared.views.Role.{Role}
use Rattle.claim_rule.specs.declared.views.Role.TheVariants.{Root}
use Rattle.claim_rule.specs.declared.views.View.{View}
use Rattle.claim_rule.specs.Entries.{IsSettingOf, IsLegalWith, is_named}
use Rattle.heap_gate.specs.Token.{Token, now, Always}

-- what the callers were made with, those that have joined, each with its list, and the list that the root has seen
pub record RootToken : Type 0 where
  pub table : TableId
  pub opening : Opening
  pub roll : List Assignment
  pub joined : List ℕ
  pub lists : List (List Entry)
  pub seen : List Entry

abbrev pub joined_of : Role → List ℕ
joined_of (Root q) = q.joined
joined_of _ = []

abbrev pub roll_in : Role → List Assignment
roll_in (Root q) = q.roll
roll_in _ = []

abbrev pub lists_of : Role → List (List Entry)
lists_of (Root q) = q.lists
lists_of _ = []

abbrev pub lead_at : List Assignment → List ℕ → List (List Entry) → Lead
lead_at roll joined lists = record { counted = length roll; roll = roll; joined = joined; lists = lists; last = 0 }

abbrev pub root_token : {T : Type 0} → TableId → Me (Option T) View → RootToken
root_token z me = record { table = z; opening = me.0.opening; roll = roll_in me.0.role; joined = joined_of me.0.role; lists = lists_of me.0.role; seen = me.0.seen }

-- a caller that is outside and holds nothing
pub record IsIdle (n : ℕ) (m : Configuration) : Type 0 where
  pub counted : is_among n m.state.gate.counted ≡ false
  pub owner : is_caller n m.state.gate.owner ≡ false
  pub locks : holds_none (caller_view m n) ≡ true
  pub hands : hands m.state n ≡ []

-- The list goes on from that with which each of these callers joined, and has no further entry of the caller.
abbrev pub AreTheirs : List ℕ → List (List Entry) → List Entry → Type 0
AreTheirs [] [] es = Unit {0}
AreTheirs (n ∷ ns) (list ∷ lists) es = IsPrefix list es × (own n es ≡ own n list) × AreTheirs ns lists es
AreTheirs _ _ es = ⊥

-- each entry is of one of these callers
abbrev pub is_of : List ℕ → List Entry → Bool
is_of ns [] = true
is_of ns (e ∷ es) = is_among e.caller ns && is_of ns es

pub record IsRoot {T : Type 0} (me : Me (Option T) View) (made : ℕ) : Type 0 where
  pub role : me.0.role ≡ Root (lead_at (roll_in me.0.role) (joined_of me.0.role) (lists_of me.0.role))
  pub count_is : length (roll_in me.0.role) ≡ made
  pub slots : me.1 ≡ []
  pub legal : IsLegalWith me.0.opening (roll_in me.0.role) me.0.seen
  pub names : is_named (length (roll_in me.0.role)) me.0.seen ≡ true
  pub theirs : AreTheirs (joined_of me.0.role) (lists_of me.0.role) me.0.seen
  pub idle : (n : ℕ) → is_among n (joined_of me.0.role) ≡ true → (s : Setting) → IsSettingOf me.0.opening (roll_in me.0.role) s → IsIdle n (configuration_of s me.0.seen)

-- Both callers have seen one list, which goes on from what each had seen and has no further entry of theirs.
pub record HaveMet (a b a' b' : Token) : Type 0 where
  pub one : a'.seen ≡ b'.seen
  pub one_roll : a'.roll ≡ b'.roll
  pub legal : IsLegalWith a'.opening a'.roll a'.seen
  pub first : IsPrefix a.seen a'.seen × IsPrefix a.roll a'.roll × (own a.number a'.seen ≡ own a.number a.seen)
  pub second : IsPrefix b.seen b'.seen × IsPrefix b.roll b'.roll × (own b.number b'.seen ≡ own b.number b.seen)
  pub agrees : Always a' (λ s. AgreesFor a.number (now s a') (now s a))
  pub agrees' : Always b' (λ s. AgreesFor b.number (now s b') (now s b))
  pub same : a' ≡ record a { roll = a'.roll; seen = a'.seen }
  pub same' : b' ≡ record b { roll = b'.roll; seen = b'.seen }

-- The root takes in the caller c. The callers that joined before have no further entries.
pub record HasJoined (old : RootToken) (c : Token) (new : RootToken) : Type 0 where
  pub table : new.table ≡ old.table
  pub opening : new.opening ≡ old.opening
  pub roll : new.roll ≡ old.roll
  pub joined : new.joined ≡ c.number ∷ old.joined
  pub seen : IsPrefix old.seen new.seen
  pub theirs : IsPrefix c.seen new.seen
  pub lists : new.lists ≡ c.seen ∷ old.lists
  pub kept : (n : ℕ) → is_among n old.joined ≡ true → own n new.seen ≡ own n old.seen
  pub own : own c.number new.seen ≡ own c.number c.seen
  pub legal : IsLegalWith new.opening new.roll new.seen

-- nobody is inside or turning back, nobody owns the heap lock or holds a layer lock, and nothing is in hand
pub record IsAtRest (st : State) : Type 0 where
  pub counted : st.gate.counted ≡ []
  pub turning : st.gate.turning ≡ []
  pub owner : st.gate.owner ≡ None
  pub locks : st.gate.locks ≡ open_locks
  pub hands : (n : ℕ) → hands st n ≡ []

---- New ones

abbrev pub opened_with : Limits → ℕ → Opening
opened_with l seed = record { limits = l; seed = seed }

abbrev pub fresh_root : TableId → Opening → RootToken
fresh_root table o = record { table = table; opening = o; roll = []; joined = []; lists = []; seen = [] }

-- the next caller, which has seen nothing
abbrev pub fresh_caller : RootToken → ℕ → ℕ → Token
fresh_caller r slot stream = record {
  table = r.table;
  opening = r.opening;
  roll = r.roll ++ record { slot = slot; stream = stream } ∷ [];
  seen = [];
  number = length r.roll;
  prepared = [];
  pending = false;
  call = None;
  fresh = false;
  locked = false;
  inside = false;
  depth = 0;
  out = [];
  owes = [];
  whole = true;
  free = true;
  searches = 0;
  searched = false;
  drawn = false;
}
