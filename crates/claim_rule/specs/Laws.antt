-- The laws, in words of the table: a step that is allowed keeps the rule whatever the table is by then, and tells its seat what its kind says.
use Rattle.std.specs.Prelude.{◌≡◌, ℕ, ◌+◌, ◌-◌, ◌*◌, ◌%◌, ◌^◌, ◌<◌, ◌≤◌, ◌⊎◌, true, false, eqb, List, [], ◌∷◌, ◌++◌, length, set, slice_index, Option, Some, None}
use mathlib.Core.Option.{none, some}
use lib.ListN.{get_elem?}
use prog.Atomic.{either}
use Rattle.atomic_table.specs.Table.{State, Act, Me, step, stepped, homes_after, Allows, Splits, Joins, opening as starting}
use Rattle.heap_model.specs.declared.Limits.{Limits}
use Rattle.heap_model.specs.declared.Entry.{Entry}
use Rattle.heap_model.specs.Limits.{AreValid}
use Rattle.heap_model.specs.State.{Setting, opening, caller_word}
use Rattle.heap_model.specs.CallState.{Configuration, Nothing}
use Rattle.heap_model.specs.History.{configuration_after, configuration_of, may_all_follow}
use Rattle.heap_model.specs.Agreement.{AgreesFor, GateIsSound}
use Rattle.claim_rule.specs.declared.views.Assignment.{Assignment}
use Rattle.heap_model.specs.declared.Opening.{Opening}
use Rattle.claim_rule.specs.declared.views.Lead.{Lead}
use Rattle.claim_rule.specs.declared.views.Owed.{Owed}
use Rattle.claim_rule.specs.declared.views.Role.TheVariants.{Caller, Root}
use Rattle.claim_rule.specs.declared.views.View.{View}
use Rattle.claim_rule.specs.Places.{Fill, regions, word_count, gate_at, made_word, tag_at, hint_at}
use Rattle.heap_model.specs.Search.{spans_of}
use Rattle.claim_rule.specs.Shown.{AreAllShown, back_holder, HintShown, HintsAreHeads, is_head, are_made_by, lfh_spans, tag_word, hint_word}
use Rattle.heap_model.specs.Layers.{LayerState, StandsForVs, StandsForBack, StandsForLarge}
use Rattle.claim_rule.specs.Home.{AreHome}
use Rattle.claim_rule.specs.Entries.{IsSettingOf, is_by, are_prepared}
use Rattle.claim_rule.specs.Rule.{IsRuled, IsReady, ready_after, zero_words, first_view, spent_view, relay, dealing, dealt, told, taken_in}
use Rattle.claim_rule.specs.Steps.{MayPass, MayGoOut, MayTryLock, MayGiveUp}
use Rattle.claim_rule.specs.Plays.{Goes, looked, heard_all, agreed, numbered, entered, left, locked, unlocked}

-- No two regions overlap, and together they are all words.
abbrev pub RegionsFill : Type 0
RegionsFill = (l : Limits) → Fill 0 (regions l) (word_count l)

-- The largest limits need so many words.
abbrev pub LargestCount : Type 0
LargestCount = word_count (record { segments = 16; large_pages = 4096; slots = 16; callers = 64 }) ≡ 5265542

-- A hint of 0 is shown only where it may be read: there is no subsegment of the bucket and the slot, or the holder of Back has made all of them since it took
-- the lock. (No subsegment begins at page 0.)
abbrev pub ZeroHintLaw : Type 0
ZeroHintLaw =
    (m : Configuration) (owes : List Owed) (b t : ℕ) → HintsAreHeads m → is_head m.state.back.area b t 0 ≡ false → HintShown m owes b t 0
    → (spans_of m.state.back.area b t ≡ []) ⊎ ((d : ℕ) × (m.state.gate.locks.back ≡ Some d) × (are_made_by m.state.back.area m.now.span_history d b t ≡ true))

-- While nobody holds Back each tag and each hint is that of the state: whoever gave the lock back has stored all that it owed.
pub record AreExact (l : Limits) (m : Configuration) (words : List ℕ) : Type 0 where
  pub tags : (page : ℕ) → page < 256 * l.segments → slice_index words (tag_at page) ≡ tag_word (lfh_spans m.state.back.area) page
  pub hints : (b t : ℕ) → 1 ≤ b → b ≤ 128 → t < 16 → slice_index words (hint_at b t) ≡ hint_word m.state.back.area m.now.span_history b t

-- the law of it
abbrev pub FreeWordsLaw : Type 0
FreeWordsLaw = (l : Limits) (made : ℕ) (m : Configuration) (owes : List Owed) (words : List ℕ) → AreAllShown l made m owes words → m.state.gate.locks.back ≡ None → AreExact l m words

module _ {T : Type 0} (stands : T → LayerState) where
  -- What c has prepared in n may come in each m that agrees with n on what c alone decides. It changes neither the gate nor a lock,
  -- and words and slots that showed m show what is behind it.
  pub record IsCarriedThrough (s : Setting) (c : ℕ) (m n : Configuration) (es : List Entry) : Type 0 where
    pub follows : may_all_follow s m es ≡ true
    pub agrees : AgreesFor c (configuration_after s m es) (configuration_after s n es)
    pub demand : (configuration_after s m es).now.demand ≡ (configuration_after s n es).now.demand
    pub gate : (configuration_after s m es).state.gate ≡ m.state.gate
    pub words : (l : Limits) (made : ℕ) (owes : List Owed) (words : List ℕ) → AreAllShown l made m owes words → AreAllShown l made (configuration_after s m es) owes words
    pub homes : (o : Opening) (homes : List (mathlib.Core.Option.Option (Option T))) → AreHome stands o m.state homes → AreHome stands o (configuration_after s m es).state homes

  -- what a caller has prepared is carried through whatever others did
  abbrev pub PreparedIsCarried : Type 0
  PreparedIsCarried =
      (s : Setting) (c : ℕ) (m n : Configuration) (es : List Entry) → AgreesFor c m n → m.now.demand ≡ n.now.demand → are_prepared s n c es ≡ true → IsCarriedThrough s c m n es

  module _ (o : Opening) (st : State (Option T) View) (r : IsRuled stands o st) (s : Setting) (m : Configuration) where
    -- What a caller finds behind the entries that its step carries: what it alone decides is as it has it, and the words and the slots show the
    -- rest. The owner and those that the gate counts are callers that have a seat.
    pub record IsFound (n : ℕ) (ready : Configuration) : Type 0 where
      pub agrees : AgreesFor n m ready
      pub whole : m.now.demand ≡ Nothing
      pub words : AreAllShown o.limits r.lead.counted m r.owes st.words
      pub home : AreHome stands o m.state st.homes
      pub gate : GateIsSound m.state.gate
      pub few : length m.state.gate.counted ≤ length r.lead.roll
      pub owner : caller_word m.state.gate.owner ≤ length r.lead.roll

    -- What the step leaves: its own entries may come there, and the words and the slots that it leaves show what is behind them.
    pub record IsLeft (own_entries : List Entry) (owes : List Owed) (words : List ℕ) (homes : List (mathlib.Core.Option.Option (Option T))) : Type 0 where
      pub follows : may_all_follow s m own_entries ≡ true
      pub whole : (configuration_after s m own_entries).now.demand ≡ Nothing
      pub shown : AreAllShown o.limits r.lead.counted (configuration_after s m own_entries) owes words
      pub home : AreHome stands o (configuration_after s m own_entries).state homes

  -- What the step leaves owed: as it was, or as the holder of Back says; and that is what its own seat knows.
  pub record IsOwing (n : ℕ) (before owes mine : List Owed) (log : List Entry) : Type 0 where
    pub same : (owes ≡ before) ⊎ (back_holder log ≡ Some n)
    pub known : back_holder log ≡ Some n → mine ≡ owes

  -- A step of a caller that finds this and leaves that keeps the rule, and the caller has seen the whole history with its entries behind.
  abbrev pub ActsLaw : Type 0
  ActsLaw =
      (o : Opening) (st : State (Option T) View) (r : IsRuled stands o st) (id n : ℕ) (v : View) (es own_entries : List Entry) (c : List (ℕ × Option T)) (i x : ℕ) (a : Act (Option T)) (owes mine : List Owed)
      → get_elem? st.views id ≡ some v → IsReady n v es → is_by n own_entries ≡ true → IsOwing n r.owes owes mine (r.log ++ (es ++ own_entries))
      → ((s : Setting) → IsSettingOf o r.lead.roll s →
      IsFound o st r s (configuration_after s (configuration_of s r.log) es) n (ready_after s v es)
      → IsLeft o st r s (configuration_after s (configuration_of s r.log) es) own_entries owes (set st.words i x) (homes_after st.homes c a))
      → (w : View) × IsRuled stands o (stepped st i x id c w a) × Goes n v w es own_entries × (w.owes ≡ mine) × (w.seen ≡ r.log ++ (es ++ own_entries)) × (w.roll ≡ r.lead.roll)

  -- A new table, whose slots have the states of an empty heap.
  abbrev pub OpenLaw : Type 0
  OpenLaw =
      (o : Opening) (vs back large : T) → AreValid o.limits → StandsForVs o opening (stands vs) → StandsForBack o opening (stands back) → StandsForLarge o opening (stands large)
      → IsRuled stands o (starting (zero_words (word_count o.limits)) (Some vs ∷ Some back ∷ Some large ∷ []) (first_view o))

  -- A seat is split: one that tells of what it has seen, and one of the next caller.
  pub record SplitLaw : Type 0 where
    pub relays : (o : Opening) (id : ℕ) (v : View) → Splits (IsRuled stands o) id v v (relay v)
    pub deals : (o : Opening) (a : Assignment) (id : ℕ) (v : View) (q : Lead) → v.role ≡ Root q → length q.roll < q.counted → a.slot < o.limits.slots → Splits (IsRuled stands o) id v (dealing a v) (dealt a v)

  -- A seat is joined: a caller hears of what another has seen, and the root takes in a caller.
  pub record JoinLaw : Type 0 where
    pub tells : (o : Opening) (id : ℕ) (v : View) (other : ℕ) (w : View) (n : ℕ) → v.role ≡ Caller n → Joins (IsRuled stands o) id v other w (told v w) spent_view
    pub takes_in : (o : Opening) (id : ℕ) (v : View) (other : ℕ) (w : View) (q : Lead) (n : ℕ) → v.role ≡ Root q → q.last ≡ 0 → w.role ≡ Caller n → Joins (IsRuled stands o) id v other w (taken_in v w) spent_view

  -- A word is loaded: by a caller, which adds what it carries; by the root; by a caller that has heard of a list.
  pub record LoadLaw : Type 0 where
    pub looks : (o : Opening) (slots id n i : ℕ) (me : Me (Option T) View) (es : List Entry) → IsReady n me.0 es → Allows (IsRuled stands o) slots id me i (λ x. x) (looked es (step slots i 0 0 none) me)
    pub hears : (o : Opening) (slots id i : ℕ) (me : Me (Option T) View) (q : Lead) → me.0.role ≡ Root q → Allows (IsRuled stands o) slots id me i (λ x. x) (heard_all (step slots i 0 0 none) me)
    pub agrees : (o : Opening) (slots id n i : ℕ) (me : Me (Option T) View) → me.0.role ≡ Caller n → Allows (IsRuled stands o) slots id me i (λ x. x) (agreed (step slots i 0 0 none) me)

  -- The root counts a caller.
  abbrev pub NumberLaw : Type 0
  NumberLaw =
      (o : Opening) (slots id : ℕ) (me : Me (Option T) View) (q : Lead) → me.0.role ≡ Root q → me.0.opening ≡ o → q.counted < o.limits.callers
      → Allows (IsRuled stands o) slots id me made_word (λ x. (x + 1) % 2 ^ 64) (numbered (step slots made_word 1 0 none) me)

  -- A caller enters, or has to turn back.
  abbrev pub EnterLaw : Type 0
  EnterLaw =
      (o : Opening) (slots id n : ℕ) (me : Me (Option T) View) (es : List Entry) → IsReady n me.0 es
      → ((s : Setting) → IsSettingOf me.0.opening me.0.roll s → MayPass (ready_after s me.0 es) n)
      → Allows (IsRuled stands o) slots id me gate_at (λ x. (x + 1) % 2 ^ 64) (entered es (step slots gate_at 1 0 none) me)

  -- A caller leaves, or turns back.
  abbrev pub LeaveLaw : Type 0
  LeaveLaw =
      (o : Opening) (slots id n : ℕ) (me : Me (Option T) View) (es : List Entry) → IsReady n me.0 es
      → ((s : Setting) → IsSettingOf me.0.opening me.0.roll s → MayGoOut (ready_after s me.0 es) n)
      → Allows (IsRuled stands o) slots id me gate_at (λ x. (x + (2 ^ 64 - 1)) % 2 ^ 64) (left es (step slots gate_at 1 0 none) me)

  -- A caller takes the heap lock, or finds a gate word that is not 0.
  abbrev pub LockLaw : Type 0
  LockLaw =
      (o : Opening) (slots id n : ℕ) (me : Me (Option T) View) (es : List Entry) → IsReady n me.0 es
      → ((s : Setting) → IsSettingOf me.0.opening me.0.roll s → MayTryLock (ready_after s me.0 es) n)
      → Allows (IsRuled stands o) slots id me gate_at (λ x. either (eqb x 0) (65536 * (n + 1)) x) (locked es (step slots gate_at 0 (65536 * (n + 1)) none) me)

  -- The owner gives the heap lock back.
  abbrev pub UnlockLaw : Type 0
  UnlockLaw =
      (o : Opening) (slots id n : ℕ) (me : Me (Option T) View) (es : List Entry) → IsReady n me.0 es
      → ((s : Setting) → IsSettingOf me.0.opening me.0.roll s → MayGiveUp (ready_after s me.0 es) n)
      → Allows (IsRuled stands o) slots id me gate_at (λ x. (x + (2 ^ 64 - 65536 * (n + 1))) % 2 ^ 64) (unlocked es (step slots gate_at (65536 * (n + 1)) 0 none) me)
