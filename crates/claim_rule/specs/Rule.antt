-- The rule: there is one legal history, the words and the slots show the configuration behind it, and each seat has seen a beginning of it.
use Rattle.std.specs.Prelude.{◌≡◌, ◌⊎◌, ℕ, ◌+◌, ◌<◌, ◌≤◌, Bool, true, false, not, ◌&&◌, cond, List, [], ◌∷◌, ◌++◌, length, replicate, nat_lt, Option, Some}
use mathlib.Core.Option.{some}
use mathlib.Core.List.{IsPrefix}
use lib.ListN.{get_elem?}
use Rattle.atomic_table.specs.Table.{State}
use Rattle.heap_model.specs.declared.Entry.{Entry}
use Rattle.heap_model.specs.Limits.{AreValid}
use Rattle.heap_model.specs.State.{Setting, is_among}
use Rattle.heap_model.specs.CallState.{Configuration, Nothing}
use Rattle.heap_model.specs.History.{configuration_after, configuration_of, is_legal, own}
use Rattle.claim_rule.specs.declared.views.Assignment.{Assignment}
use Rattle.heap_model.specs.declared.Opening.{Opening}
use Rattle.claim_rule.specs.declared.views.Lead.{Lead}
use Rattle.claim_rule.specs.declared.views.Owed.{Owed}
use Rattle.claim_rule.specs.declared.views.Role.{Role}
use Rattle.claim_rule.specs.declared.views.Role.TheVariants.{Nobody, Caller, Root}
use Rattle.claim_rule.specs.declared.views.View.{View}
use Rattle.claim_rule.specs.Shown.{AreAllShown, back_holder}
use Rattle.heap_model.specs.Layers.{LayerState}
use Rattle.claim_rule.specs.Home.{AreHome}
use Rattle.claim_rule.specs.Entries.{IsSettingOf, IsLegalWith, have_slots, is_named, are_prepared}

-- of two beginnings of one list the longer
abbrev pub longer : {A : Type 0} → List A → List A → List A
longer xs ys = cond (nat_lt (length xs) (length ys)) ys xs

---- What a seat knows

module _ (o : Opening) (log : List Entry) (lead : Lead) where
  -- a beginning of the history, and of what the callers were made with
  pub record IsSeen (roll : List Assignment) (list : List Entry) : Type 0 where
    pub list_begins : IsPrefix list log
    pub roll_begins : IsPrefix roll lead.roll
    pub legal : IsLegalWith o roll list

  module _ (top : ℕ) (owner : ℕ → ℕ) (owes : List Owed) (seat : ℕ) where
    -- .. and by its role. Of a caller all entries were seen on its own seat, and where it holds Back it knows what it owes. Of a caller that has joined the root has seen all entries, or has
    -- heard of them since it last looked.
    abbrev pub KnowsAs : View → Role → Type 0
    KnowsAs v Nobody = Unit {0}
    KnowsAs v (Caller n) =
        (n < length lead.roll) × (owner n ≡ seat) × (is_among n lead.joined ≡ false) × (own n log ≡ own n v.seen) × (v.opening ≡ o)
        × (back_holder log ≡ Some n → v.owes ≡ owes)
    KnowsAs v (Root q) =
        (q ≡ lead) × (top ≡ seat) × ((n : ℕ) → is_among n lead.joined ≡ true → (lead.last ≡ n + 1) ⊎ (own n log ≡ own n v.seen))
        × ((n : ℕ) → lead.last ≡ n + 1 → (is_among n lead.joined ≡ true) × (own n log ≡ own n v.heard)) × (v.opening ≡ o)

    -- what a seat knows: two beginnings of the history, and what its role says
    pub record Knows (v : View) : Type 0 where
      pub seen : IsSeen v.roll v.seen
      pub heard : IsSeen v.heard_roll v.heard
      pub role : KnowsAs v v.role

---- The rule

-- no number twice
abbrev pub are_distinct : List ℕ → Bool
are_distinct [] = true
are_distinct (n ∷ ns) = not (is_among n ns) && are_distinct ns

-- the numbers: callers that have a seat are counted, and no more than the limits say; each has a slot of the heap, and joins once
pub record AreNumbered (o : Opening) (lead : Lead) (log : List Entry) : Type 0 where
  pub limits : AreValid o.limits
  pub slots : have_slots o.limits.slots lead.roll ≡ true
  pub dealt : length lead.roll ≤ lead.counted
  pub counted : lead.counted ≤ o.limits.callers
  pub joined : (n : ℕ) → is_among n lead.joined ≡ true → n < length lead.roll
  pub once : are_distinct lead.joined ≡ true
  pub names : is_named (length lead.roll) log ≡ true

module _ {T : Type 0} (stands : T → LayerState) (o : Opening) (st : State (Option T) View) where
  -- the list is legal, and the words and the slots show what is behind it
  pub record IsShownIn (log : List Entry) (counted : ℕ) (owes : List Owed) (s : Setting) : Type 0 where
    pub legal : is_legal s log ≡ true
    pub words : AreAllShown o.limits counted (configuration_of s log) owes st.words
    pub home : AreHome stands o (configuration_of s log).state st.homes

  -- There is a history that is legal in each setting of its callers, shown by the words and the slots, and known to the seats.
  pub record IsRuled : Type 0 where
    pub log : List Entry
    pub lead : Lead
    pub top : ℕ
    pub owner : ℕ → ℕ
    pub owes : List Owed
    pub numbers : AreNumbered o lead log
    pub shown : (s : Setting) → IsSettingOf o lead.roll s → IsShownIn log lead.counted owes s
    pub known : (seat : ℕ) (v : View) → get_elem? st.views seat ≡ some v → Knows o log lead top owner owes seat v

-- the words of a new table
abbrev pub zero_words : ℕ → List ℕ
zero_words n = replicate n 0

---- The views of seats

-- what the root of a new table knows
abbrev pub first_lead : Lead
first_lead = record { counted = 0; roll = []; joined = []; lists = []; last = 0 }

abbrev pub view_of : Opening → Role → List Assignment → List Entry → List Assignment → List Entry → List Owed → View
view_of o role roll seen heard_roll heard owes =
    record { role = role; opening = o; roll = roll; seen = seen; heard_roll = heard_roll; heard = heard; owes = owes }

-- the view of the first seat
abbrev pub first_view : Opening → View
first_view o = view_of o (Root first_lead) [] [] [] [] []

-- the view of a seat that was joined to another
abbrev pub spent_view : View
spent_view = view_of (record { limits = record { segments = 0; large_pages = 0; slots = 0; callers = 0 }; seed = 0 }) Nobody [] [] [] [] []

-- a seat that tells of what v has seen
abbrev pub relay : View → View
relay v = view_of v.opening Nobody v.roll v.seen [] [] []

-- one caller more has a seat
abbrev pub next_lead : Assignment → Lead → Lead
next_lead a q = record { counted = q.counted; roll = q.roll ++ a ∷ []; joined = q.joined; lists = q.lists; last = q.last }

-- the role of the root that gives a seat away
abbrev pub dealing_role : Assignment → Role → Role
dealing_role a (Root q) = Root (next_lead a q)
dealing_role a _ = Nobody

-- the role of the new seat
abbrev pub dealt_role : Role → Role
dealt_role (Root q) = Caller (length q.roll)
dealt_role _ = Nobody

-- what the callers were made with, as the root knows
abbrev pub roll_of : Role → List Assignment
roll_of (Root q) = q.roll
roll_of _ = []

-- the root's view then
abbrev pub dealing : Assignment → View → View
dealing a v = view_of v.opening (dealing_role a v.role) v.roll v.seen v.heard_roll v.heard v.owes

-- the new caller has seen nothing but what the callers were made with
abbrev pub dealt : Assignment → View → View
dealt a v = view_of v.opening (dealt_role v.role) (roll_of v.role ++ a ∷ []) [] [] [] []

-- the root with a caller that joins with a list
abbrev pub joined_role : List Entry → Role → Role → Role
joined_role list (Root q) (Caller n) = Root (record { counted = q.counted; roll = q.roll; joined = n ∷ q.joined; lists = list ∷ q.lists; last = n + 1 })
joined_role list r _ = r

-- v hears of what w has seen
abbrev pub told : View → View → View
told v w = view_of v.opening v.role v.roll v.seen w.roll w.seen v.owes

-- .. and the root takes in the caller
abbrev pub taken_in : View → View → View
taken_in v w = view_of v.opening (joined_role w.seen v.role w.role) v.roll v.seen w.roll w.seen v.owes

---- What a caller has prepared

-- the configuration behind what the caller has seen and has prepared
abbrev pub ready_after : Setting → View → List Entry → Configuration
ready_after s v es = configuration_after s (configuration_of s v.seen) es

-- v is the view of the caller n, and es are entries that it has prepared, behind which nothing has to follow at once
pub record IsReady (n : ℕ) (v : View) (es : List Entry) : Type 0 where
  pub role : v.role ≡ Caller n
  pub prepared : (s : Setting) → IsSettingOf v.opening v.roll s → are_prepared s (configuration_of s v.seen) n es ≡ true
  pub whole : (s : Setting) → IsSettingOf v.opening v.roll s → (ready_after s v es).now.demand ≡ Nothing
