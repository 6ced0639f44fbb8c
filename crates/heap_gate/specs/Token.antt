-- What a contract sees of a heap and of a caller, and where a caller stands.
use Rattle.std.specs.Prelude.{◌≡◌, ℕ, ◌+◌, ◌<◌, ◌==◌, Bool, true, false, not, ◌||◌, List, [], ◌∷◌, length, Option, None, is_some}
use Rattle.atomic_table.specs.Table.{Me}
use Rattle.atomic_table.specs.Seated.{TableId}
use Rattle.rand_core.specs.Stream.{Stream}
use Rattle.heap_model.specs.declared.Act.{Act}
use Rattle.heap_model.specs.declared.Act.TheVariants as acts
use Rattle.heap_model.specs.declared.Call.{Call}
use Rattle.heap_model.specs.declared.Entry.{Entry}
use Rattle.heap_model.specs.declared.Opening.{Opening}
use Rattle.heap_model.specs.declared.What.{What}
use Rattle.heap_model.specs.declared.What.TheVariants as whats
use Rattle.heap_model.specs.Limits.{AreValid}
use Rattle.heap_model.specs.State.{Setting, is_among, is_caller, is_entered, hands, holds}
use Rattle.heap_model.specs.CallState.{Configuration, Nothing}
use Rattle.heap_model.specs.History.{configuration_after, configuration_of}
use Rattle.random_pick.specs.CallerDraws.{IsBeforeDraw}
use Rattle.claim_rule.specs.declared.views.Assignment.{Assignment}
use Rattle.claim_rule.specs.declared.views.Owed.{Owed}
use Rattle.claim_rule.specs.declared.views.Role.TheVariants.{Caller}
use Rattle.claim_rule.specs.declared.views.View.{View}
use Rattle.claim_rule.specs.Places.{word_count, vs_slot, back_slot, large_slot}
use Rattle.claim_rule.specs.Entries.{IsSettingOf, IsLegalWith, are_prepared, slot_at}

---- The heap

pub record HeapToken : Type 0 where
  pub table : TableId
  pub opening : Opening

pub record IsHeap (table : TableId) (key opening : Opening) (closing : List ℕ) : Type 0 where
  pub same : key ≡ opening
  pub words : table.words ≡ word_count opening.limits
  pub slots : table.slots ≡ 3
  pub valid : AreValid opening.limits
  pub room : length closing ≡ word_count opening.limits

---- A caller

-- What its own entries say of a caller's searches: how many calls before the last Begin had one, and whether this one has. A search begins with
-- a reading of a bitmap word, or of an empty hint.
pub record SearchMarks : Type 0 where
  pub made : ℕ
  pub begun : Bool

abbrev pub count : Bool → ℕ
count true = 1
count false = 0

abbrev pub search_mark : SearchMarks → Act → SearchMarks
search_mark k (acts.Begin call) = record { made = k.made + count k.begun; begun = false }
search_mark k (acts.Saw head word bits) = record { made = k.made; begun = true }
search_mark k (acts.NoHint bucket slot) = record { made = k.made; begun = true }
search_mark k _ = k

abbrev pub search_marks_from : SearchMarks → List Entry → SearchMarks
search_marks_from k [] = k
search_marks_from k (e ∷ es) = search_marks_from (search_mark k e.act) es

abbrev pub search_marks : List Entry → SearchMarks
search_marks es = search_marks_from (record { made = 0; begun = false }) es

-- The list that a caller has seen, with what the callers in it were made with, and the entries that it has prepared behind it. Call is that of
-- its last Begin, the prepared one included; pending: that Begin is still prepared; fresh: that call has not entered; locked: it has taken the
-- heap lock. Out are the slots whose states the caller has, the last taken first, and owes the words that it owes. Whole: no entry has to follow
-- at once; free: nothing is in hand. Searches: how many of its calls before this one searched; searched: this one has; drawn: it has its draw.
pub record Token : Type 0 where
  pub table : TableId
  pub opening : Opening
  pub roll : List Assignment
  pub seen : List Entry
  pub number : ℕ
  pub prepared : List Entry
  pub pending : Bool
  pub call : Option Call
  pub fresh : Bool
  pub locked : Bool
  pub inside : Bool
  pub depth : ℕ
  pub out : List ℕ
  pub owes : List Owed
  pub whole : Bool
  pub free : Bool
  pub searches : ℕ
  pub searched : Bool
  pub drawn : Bool

-- what is behind the list, and the prepared entries, as the caller has it
abbrev pub now : Setting → Token → Configuration
now s c = configuration_after s (configuration_of s c.seen) c.prepared

-- What is said of a caller is said in each setting of the callers that it knows of.
abbrev pub Always : Token → (Setting → Type 0) → Type 0
Always c P = (s : Setting) → IsSettingOf c.opening c.roll s → P s

---- The locks that it holds

-- the slots that are out
abbrev pub outs : {T : Type 0} → List (ℕ × Option T) → List ℕ
outs [] = []
outs (x ∷ xs) = x.0 ∷ outs xs

-- while a state is out its slot is empty
abbrev pub AreOut : {T : Type 0} → List (ℕ × Option T) → Type 0
AreOut [] = Unit {0}
AreOut (x ∷ xs) = (x.1 ≡ None) × AreOut xs

-- the lock of a slot that is out is held, and no other
abbrev pub is_out : What → List ℕ → Bool
is_out whats.Vs out = is_among vs_slot out
is_out whats.Back out = is_among back_slot out
is_out whats.Large out = is_among large_slot out
is_out _ out = false

---- Where it stands

-- by the configuration m that it has
pub record IsAt (m : Configuration) (n : ℕ) (call_is : Option Call) (is_fresh inside : Bool) (depth : ℕ) (out : List ℕ) (is_whole is_free : Bool) : Type 0 where
  pub entered : is_entered m.state.gate n ≡ inside
  pub turning : is_among n m.state.gate.turning ≡ false
  pub owns : is_caller n m.state.gate.owner ≡ not (depth == 0)
  pub locks : (w : What) → holds m.state.gate n w ≡ is_out w out
  pub hands : is_free ≡ true → hands m.state n ≡ []
  pub begun : (inside || not (depth == 0)) ≡ true → is_some call_is ≡ true
  pub call : (m.now.calls n).call ≡ call_is
  pub fresh : is_fresh ≡ true → (m.now.calls n).entered ≡ false
  pub demand : is_whole ≡ true → m.now.demand ≡ Nothing

abbrev pub IsStanding : Token → Type 0
IsStanding c = Always c (λ s. IsAt (now s c) c.number c.call c.fresh c.inside c.depth c.out c.whole c.free)

-- .. and what its own list decides
pub record IsEven (c : Token) : Type 0 where
  -- outside the gate nothing is in hand, and who has drawn has searched
  pub rests : c.inside ≡ false → c.free ≡ true
  pub drawn : c.inside ≡ false → c.searched ≡ c.drawn
  -- who is outside and holds no lock has prepared nothing but Begins
  pub whole : c.inside ≡ false → c.out ≡ [] → c.whole ≡ true
  pub alone : c.inside ≡ false → c.out ≡ [] → c.pending ≡ false → c.prepared ≡ []
  -- a call whose Begin is prepared has not entered
  pub begun : c.pending ≡ true → (c.fresh ≡ true) × (is_some c.call ≡ true)

pub record IsCaller {T : Type 0} (me : Me (Option T) View) (c : Token) (slot : ℕ) (stream : Stream) : Type 0 where
  pub role : me.0.role ≡ Caller c.number
  pub prepared : (s : Setting) → IsSettingOf me.0.opening me.0.roll s → are_prepared s (configuration_of s me.0.seen) c.number c.prepared ≡ true
  pub legal : IsLegalWith me.0.opening me.0.roll me.0.seen
  pub slots : AreOut me.1
  pub at : (s : Setting) → IsSettingOf me.0.opening me.0.roll s → IsAt (now s c) c.number c.call c.fresh c.inside c.depth c.out c.whole c.free
  pub even : IsEven c
  pub known : c.number < length me.0.roll
  pub few : c.number < me.0.opening.limits.callers
  pub small : me.0.opening.limits.callers < 65536
  pub few_prepared : length c.prepared < 17
  pub slot_is : slot_at me.0.roll c.number ≡ slot
  pub slot_few : slot < me.0.opening.limits.slots
  pub draws : (s : Setting) → IsSettingOf me.0.opening me.0.roll s → IsBeforeDraw s c.number (c.searches + count c.drawn) stream
