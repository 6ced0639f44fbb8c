-- What caller 0 alone may do in a search, reading by reading, and where each leads.
use Rattle.std.specs.Prelude.{◌≡◌, ℕ, ◌≤◌, true, false, List, [], ◌∷◌, Option, Some, None, is_some}
use Rattle.heap_model.specs.declared.Act.{Act}
use Rattle.heap_model.specs.declared.Act.TheVariants as acts
use Rattle.heap_model.specs.State.{Setting, Span, is_entered}
use Rattle.heap_model.specs.CallState.{NotBegun, AtHint, SecondPass, Search, Configuration, Nothing, caller_view}
use Rattle.heap_model.specs.Search.{SearchKey, search_key_of, request_of, spans_of, hint, is_spent, last_read}
use Rattle.heap_model.specs.Legal.{searched_once}
use Rattle.heap_model.specs.Alone.{configuration_by, may_all_come}
use Rattle.heap_soundness.specs.Sound.{IsOneOf, AreInOrder}
use Rattle.search_laws.specs.Reading.{Found, reads_of, pass_found, pass_reads}

-- what the search of caller 0 goes by
abbrev pub key_of : Setting → Configuration → ℕ → SearchKey
key_of s m b = search_key_of s 0 (m.now.calls 0) b

abbrev pub search_of : Configuration → Search
search_of m = (m.now.calls 0).search

-- Caller 0 is inside in a call that searches bucket b, has lost and picked nothing, and nothing has to follow.
pub record Searches (s : Setting) (m : Configuration) (b : ℕ) : Type 0 where
  pub inside : is_entered m.state.gate 0 ≡ true
  pub begun : is_some (m.now.calls 0).call ≡ true
  pub bucket : (request_of s m 0).search ≡ Some b
  pub range : (1 ≤ b) × (b ≤ 128)
  pub demand : m.now.demand ≡ Nothing
  pub picked : (search_of m).picked ≡ None
  pub lost : (search_of m).lost ≡ 0
  pub in_order : AreInOrder 0 m.state.back.area.spans

-- From one configuration to the other the search of caller 0 alone has changed.
pub record OnlySearch (m n : Configuration) : Type 0 where
  pub state : n.state ≡ m.state
  pub calls : (c : ℕ) → (c ≡ 0 → ⊥) → n.now.calls c ≡ m.now.calls c
  pub call : n.now.calls 0 ≡ record (m.now.calls 0) { search = search_of n }
  pub disturbed : n.now.disturbed ≡ m.now.disturbed
  pub span_history : n.now.span_history ≡ m.now.span_history
  pub demand : n.now.demand ≡ m.now.demand

-- These acts may come, change the search alone, and leave a configuration of which this holds.
pub record LeadsTo (s : Setting) (m : Configuration) (rest : List Act) (P : Configuration → Type 0) : Type 0 where
  pub legal : may_all_come s m rest ≡ true
  pub only : OnlySearch m (configuration_by s m rest)
  pub holds : P (configuration_by s m rest)

-- the search has picked this block, and counts as one
pub record HasPicked (found : Found) (n : Configuration) : Type 0 where
  pub picked : (search_of n).picked ≡ Some found.index
  pub read : last_read (search_of n) ≡ Some found.span.first
  pub lost : (search_of n).lost ≡ 0
  pub counts : searched_once (search_of n).stage ≡ 1

-- the reading of the hint has ended without a block
pub record HintIsDry (n : Configuration) : Type 0 where
  pub stage : (search_of n).stage ≡ AtHint
  pub ended : (search_of n).ended ≡ true
  pub picked : (search_of n).picked ≡ None
  pub lost : (search_of n).lost ≡ 0

abbrev pub HintGives : Option Found → Configuration → Type 0
HintGives (Some found) n = HasPicked found n
HintGives None n = HintIsDry n

-- A search begins by the span that the hint names, where there is one ..
abbrev pub HintIsRead : Type 0
HintIsRead = (s : Setting) (m : Configuration) (b : ℕ) (x : Span) → Searches s m b → (search_of m).stage ≡ NotBegun →
    hint m.state.back.area m.now.span_history b (s.slot 0) ≡ Some x.first →
    IsOneOf x (spans_of m.state.back.area b (s.slot 0)) →
    LeadsTo s m (reads_of m.state.lfh (key_of s m b) x) (HintGives (pass_found m.state.lfh (key_of s m b) (x ∷ [])))

-- .. or by finding the hint empty, where there is no span.
abbrev pub HintIsMissed : Type 0
HintIsMissed = (s : Setting) (m : Configuration) (b : ℕ) → Searches s m b → (search_of m).stage ≡ NotBegun →
    spans_of m.state.back.area b (s.slot 0) ≡ [] →
    LeadsTo s m (acts.NoHint b (s.slot 0) ∷ []) HintIsDry

-- the search is spent
abbrev pub IsSpent : Setting → ℕ → Configuration → Type 0
IsSpent s b n = is_spent n.state.back.area (caller_view n 0) (key_of s n b) ≡ true

abbrev pub PassGives : Setting → ℕ → Option Found → Configuration → Type 0
PassGives s b (Some found) n = HasPicked found n
PassGives s b None n = IsSpent s b n × ((search_of n).picked ≡ None) × ((search_of n).lost ≡ 0)

-- Under Back it goes on by a pass over all spans of its bucket and slot, and finds a block in one or is spent.
abbrev pub FirstPassIsRead : Type 0
FirstPassIsRead = (s : Setting) (m : Configuration) (b : ℕ) → Searches s m b → HintIsDry m → (caller_view m 0).back ≡ true → (m.now.calls 0).no_span ≡ false →
    let spans = spans_of m.state.back.area b (s.slot 0) in
    LeadsTo s m (pass_reads m.state.lfh (key_of s m b) spans) (PassGives s b (pass_found m.state.lfh (key_of s m b) spans))

-- Where no range was found for a span, it reads them all once more, under both locks.
abbrev pub SecondPassIsRead : Type 0
SecondPassIsRead = (s : Setting) (m : Configuration) (b : ℕ) → Searches s m b → (search_of m).stage ≡ SecondPass → (search_of m).read ≡ [] → (search_of m).ended ≡ true →
    (caller_view m 0).back ≡ true → (caller_view m 0).vs ≡ true → (m.now.calls 0).no_span ≡ true →
    let spans = spans_of m.state.back.area b (s.slot 0) in
    LeadsTo s m (pass_reads m.state.lfh (key_of s m b) spans) (PassGives s b (pass_found m.state.lfh (key_of s m b) spans))
