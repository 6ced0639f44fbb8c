-- What the callers' present calls have done so far: what decides beside the state whether an entry may come next.
use Rattle.std.specs.Prelude.{ℕ, Bool, false, ◌&&◌, ◌||◌, not, List, [], Option, None}
use Rattle.heap_model.specs.declared.Call.{Call}
use Rattle.heap_model.specs.declared.What.{What}
use Rattle.heap_model.specs.declared.What.TheVariants as whats
use Rattle.heap_model.specs.State.{Span, State, is_among, is_entered, is_caller, holds}

-- Where a search stands: nothing was read; it reads the span of the hint, or found the hint empty; it reads all spans of its bucket and slot;
-- it reads them again, since no range fitted a new span.
pub data Stage : Type 0 where
  NotBegun : Stage
  AtHint : Stage
  FirstPass : Stage
  SecondPass : Stage

-- The search of a call. A word is exhausted where its last reading showed no block to pick.
pub record Search : Type 0 where
  pub stage : Stage
  pub read : List ℕ  -- the spans that were read at this stage, the last first
  pub exhausted : ℕ  -- how many words of that last span are dry
  pub ended : Bool  -- all are, or there was no hint
  pub picked : Option ℕ  -- the block that the last reading picks
  pub lost : ℕ

abbrev pub not_begun : Search
not_begun = record { stage = NotBegun; read = []; exhausted = 0; ended = false; picked = None; lost = 0 }

-- a call since its Begin: whether it has entered, placed, taken a block, or found no range for a new span, and its search
pub record CallState : Type 0 where
  pub call : Option Call  -- of the last Begin
  pub entered : Bool
  pub placed : Bool
  pub taken : Bool
  pub no_span : Bool
  pub searches : ℕ  -- how many earlier calls searched
  pub search : Search

-- What the next entry has to be: any; the span that a segment was reserved for; the first place in a new span; the end of a span whose block is gone.
pub data Demand : Type 0 where
  Nothing : Demand
  SpanBy : (caller segment : ℕ) → Demand
  PlaceBy : (caller : ℕ) → Span → Demand
  UnspanBy : (caller first : ℕ) → Demand

-- what is remembered of the spans of LFH. Only the holder of Back changes it
pub record SpanHistory : Type 0 where
  pub hints : ℕ → ℕ → Option ℕ  -- of a bucket and a slot: the span of the last place made under Back
  pub makers : ℕ → Option ℕ  -- of a page: the caller that has held Back since before the LFH span was made

-- what is remembered beside the state
pub record Now : Type 0 where
  pub calls : ℕ → CallState  -- of a caller
  pub disturbed : ℕ → Bool  -- of a caller: another has been entered at a moment since its last Begin
  pub span_history : SpanHistory
  pub demand : Demand

-- the state, and what is remembered beside it
pub record Configuration : Type 0 where
  pub state : State
  pub now : Now

-- what a row reads of its caller: where it is at the gate, which locks it holds, and its call
pub record CallerView : Type 0 where
  pub entered : Bool
  pub turning : Bool
  pub owns : Bool  -- the heap lock
  pub lfh : Bool  -- .. and the lock of each layer
  pub vs : Bool
  pub back : Bool
  pub large : Bool
  pub call : CallState

abbrev pub caller_view : Configuration → ℕ → CallerView
caller_view m c = record {
  entered = is_entered m.state.gate c;
  turning = is_among c m.state.gate.turning;
  owns = is_caller c m.state.gate.owner;
  lfh = holds m.state.gate c whats.Lfh;
  vs = holds m.state.gate c whats.Vs;
  back = holds m.state.gate c whats.Back;
  large = holds m.state.gate c whats.Large;
  call = m.now.calls c;
}

abbrev pub is_outside : CallerView → Bool
is_outside k = not k.entered && not k.turning

-- inside the gate, or the owner of the heap lock outside it
abbrev pub is_inside : CallerView → Bool
is_inside k = k.entered || k.owns

abbrev pub holds_none : CallerView → Bool
holds_none k = not k.lfh && not k.vs && not k.back && not k.large

abbrev pub held : CallerView → What → Bool
held k whats.Gate = false
held k whats.Lfh = k.lfh
held k whats.Vs = k.vs
held k whats.Back = k.back
held k whats.Large = k.large
