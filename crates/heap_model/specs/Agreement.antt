-- What a caller can rely on: all that it alone decides, whatever entries others add.
use Rattle.std.specs.Prelude.{◌≡◌, ℕ, ◌==◌, Bool, true, false, ◌&&◌, ◌||◌, not, List, [], ◌∷◌}
use Rattle.std.specs.List.{find, AllByRecursion}
use Rattle.heap_model.specs.declared.Act.{Act}
use Rattle.heap_model.specs.declared.Act.TheVariants as acts
use Rattle.heap_model.specs.declared.Call.{Call}
use Rattle.heap_model.specs.declared.Call.TheVariants as calls
use Rattle.heap_model.specs.declared.Layer.{Layer}
use Rattle.heap_model.specs.declared.Layer.TheVariants as layers
use Rattle.heap_model.specs.declared.What.{What}
use Rattle.heap_model.specs.declared.What.TheVariants as whats
use Rattle.heap_model.specs.State.{State, Setting, GateAndLocks, is_among, is_entered, is_caller, holds, places_of, in_hand, Place, exclusive_places, has_address, is_layer}
use Rattle.heap_model.specs.Ranges.{vs_spans}
use Rattle.heap_model.specs.CallState.{Configuration, CallerView, caller_view}
use Rattle.heap_model.specs.Stay.{for_some}
use Rattle.heap_model.specs.Legal.{may_touch, after}
use Rattle.heap_model.specs.declared.Entry.{Entry}

-- two configurations have one heap, whoever stands at its gate and its locks
pub record SameHeap (m n : Configuration) : Type 0 where
  pub back : m.state.back ≡ n.state.back
  pub vs : m.state.vs ≡ n.state.vs
  pub lfh : m.state.lfh ≡ n.state.lfh
  pub large : m.state.large ≡ n.state.large
  pub words : m.state.words ≡ n.state.words
  pub span_history : m.now.span_history ≡ n.now.span_history

-- What c alone decides is in m as it was in n: its part of the gate and the locks, its call, the places in its hand;
-- while it holds a layer lock, what needs that lock; while it owns the heap lock, the whole heap. A bucket that was active still is.
pub record AgreesFor (c : ℕ) (m n : Configuration) : Type 0 where
  pub counted : is_among c m.state.gate.counted ≡ is_among c n.state.gate.counted
  pub turning : is_among c m.state.gate.turning ≡ is_among c n.state.gate.turning
  pub owner : is_caller c m.state.gate.owner ≡ is_caller c n.state.gate.owner
  pub locks : (w : What) → holds m.state.gate c w ≡ holds n.state.gate c w
  pub call : m.now.calls c ≡ n.now.calls c
  pub hands : (l : Layer) → in_hand c (places_of m.state l) ≡ in_hand c (places_of n.state l)
  pub active : (b : ℕ) → n.state.vs.active b ≡ true → m.state.vs.active b ≡ true
  pub vs : holds n.state.gate c whats.Vs ≡ true → m.state.vs ≡ n.state.vs
  pub spans : holds n.state.gate c whats.Vs ≡ true → vs_spans m.state.back.area ≡ vs_spans n.state.back.area
  pub back : holds n.state.gate c whats.Back ≡ true → m.state.back ≡ n.state.back
  pub span_history : holds n.state.gate c whats.Back ≡ true → m.now.span_history ≡ n.now.span_history
  pub large : holds n.state.gate c whats.Large ≡ true → m.state.large ≡ n.state.large
  pub owned : is_caller c n.state.gate.owner ≡ true → SameHeap m n

-- The gate keeps all others out where the heap lock has an owner, and who holds a layer lock is inside or owns it.
pub record GateIsSound (f : GateAndLocks) : Type 0 where
  pub alone : (d c : ℕ) → is_caller d f.owner ≡ true → is_entered f c ≡ true → c ≡ d
  pub inside : (c : ℕ) (w : What) → holds f c w ≡ true → is_caller c f.owner ≡ false → is_entered f c ≡ true

---- Which entries can be prepared: none but c changes what their rows read

-- the place of the address is of a layer whose lock c holds
abbrev pub is_locked : CallerView → Place → Bool
is_locked k p = may_touch k p.layer && not (is_layer p.layer layers.Lfh)

abbrev pub is_locked_at : Configuration → ℕ → ℕ → Bool
is_locked_at m c a = for_some (find (has_address a) (exclusive_places m.state c)) (is_locked (caller_view m c))

-- .. or in hand of c, of LFH
abbrev pub is_exclusive_at : Configuration → ℕ → ℕ → Bool
is_exclusive_at m c a = for_some (find (has_address a) (exclusive_places m.state c)) (λ p. may_touch (caller_view m c) p.layer)

-- only c changes the block that a reallocation moves
abbrev pub moves_exclusive : Configuration → ℕ → Call → Bool
moves_exclusive m c (calls.Realloc a n flags) = is_exclusive_at m c a
moves_exclusive m c _ = true

abbrev pub holds_old_block : Configuration → ℕ → Bool
holds_old_block m c = (m.now.calls c).placed || for_some (m.now.calls c).call (moves_exclusive m c)

-- whether the act may come is decided by c alone
abbrev pub is_stable : Configuration → ℕ → Act → Bool
is_stable m c (acts.Begin call) = true
is_stable m c acts.Leave = true
is_stable m c acts.Unlock = true
is_stable m c (acts.GiveLock what) = true
is_stable m c (acts.Reserve segment) = true
is_stable m c (acts.Span first pages kind bucket slot) = holds_old_block m c
is_stable m c (acts.Unspan first) = true
is_stable m c (acts.Place start granules layers.Vs) = holds_old_block m c
is_stable m c (acts.Place start granules layers.Back) = true
is_stable m c (acts.Place start granules layers.Large) = true
is_stable m c (acts.Give a size) = true
is_stable m c (acts.Take a size) = is_locked_at m c a
is_stable m c (acts.Drop a) = true
is_stable m c (acts.Resize a granules size) = is_locked_at m c a
is_stable m c (acts.Active bucket) = holds_old_block m c
is_stable m c (acts.NoSpan bucket) = holds_old_block m c
is_stable m c (acts.NoFit n) = holds_old_block m c
is_stable m c (acts.Sized a size) = is_locked_at m c a
is_stable m c (acts.Store w v) = true
is_stable m c (acts.Decommit page) = true
is_stable m c _ = false

-- what c knows after the act, it knows from what it knew: the act opens nothing to it
abbrev pub reveals_nothing : Configuration → ℕ → Act → Bool
reveals_nothing m c (acts.TakeLock what) = false
reveals_nothing m c acts.Lock = false
reveals_nothing m c (acts.Take a size) = is_locked_at m c a
reveals_nothing m c (acts.Resize a granules size) = is_locked_at m c a
reveals_nothing m c _ = true

-- all are entries of c that it alone decides, from n on
abbrev pub is_prepared : Setting → Configuration → ℕ → List Entry → Bool
is_prepared s n c [] = true
is_prepared s n c (e ∷ es) = e.caller == c && is_stable n c e.act && is_prepared s (after s n e) c es

-- n, with the heap of m: what is revealed to c when it takes a lock, the heap lock, or a place of LFH
abbrev pub revealed : Configuration → Configuration → Configuration
revealed m n = record {
  state = record { gate = n.state.gate; back = m.state.back; vs = m.state.vs; lfh = m.state.lfh; large = m.state.large; words = m.state.words };
  now = record { calls = n.now.calls; disturbed = n.now.disturbed; span_history = m.now.span_history; demand = n.now.demand };
}

-- a caller that is not disturbed is the only one that may be inside
abbrev pub UndisturbedIsAlone : Configuration → Type 0
UndisturbedIsAlone m = (c d : ℕ) → m.now.disturbed c ≡ false → is_entered m.state.gate d ≡ true → d ≡ c

-- the list of each layer has its places
pub record HasHomes (st : State) : Type 0 where
  pub lfh : AllByRecursion (λ p. p.layer ≡ layers.Lfh) st.lfh
  pub vs : AllByRecursion (λ p. p.layer ≡ layers.Vs) st.vs.places
  pub back : AllByRecursion (λ p. p.layer ≡ layers.Back) st.back.places
  pub large : AllByRecursion (λ p. p.layer ≡ layers.Large) st.large
