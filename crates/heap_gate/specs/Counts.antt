-- How often a list has an act, and a caller with nothing under way.
use Rattle.std.specs.Prelude.{◌≡◌, ℕ, ◌+◌, Bool, true, false, List, [], ◌∷◌, length}
use mathlib.Core.List.{IsPrefix}
use Rattle.heap_model.specs.declared.Act.{Act}
use Rattle.heap_model.specs.declared.Act.TheVariants as acts
use Rattle.heap_model.specs.declared.Entry.{Entry}
use Rattle.heap_model.specs.History.{own}
use Rattle.heap_gate.specs.Token.{HeapToken, Token}
use Rattle.heap_gate.specs.Roots.{RootToken}

abbrev pub enters : Act → ℕ
enters acts.Enter = 1
enters _ = 0

abbrev pub locks : Act → ℕ
locks acts.Lock = 1
locks _ = 0

abbrev pub counted : (Act → ℕ) → List Entry → ℕ
counted f [] = 0
counted f (e ∷ es) = f e.act + counted f es

-- a caller of the heap that has prepared nothing
pub record IsSettled (h : HeapToken) (c : Token) (inside : Bool) : Type 0 where
  pub table : c.table ≡ h.table
  pub opening : c.opening ≡ h.opening
  pub inside_is : c.inside ≡ inside
  pub prepared : c.prepared ≡ []
  pub pending : c.pending ≡ false
  pub out : c.out ≡ []
  pub whole : c.whole ≡ true
  pub free : c.free ≡ true
  pub searched : c.searched ≡ false
  pub drawn : c.drawn ≡ false

-- A heap, its root, and its two callers, which are outside and own nothing.
pub record AreTwo (h : HeapToken) (r : RootToken) (a b : Token) : Type 0 where
  pub opening : h.opening ≡ record { limits = record { segments = 1; large_pages = 0; slots = 2; callers = 2 }; seed = 42 }
  pub root_table : r.table ≡ h.table
  pub root_opening : r.opening ≡ h.opening
  pub made : length r.roll ≡ 2
  pub none_joined : r.joined ≡ []
  pub a_settled : IsSettled h a false
  pub a_number : a.number ≡ 0
  pub a_free : a.depth ≡ 0
  pub b_settled : IsSettled h b false
  pub b_number : b.number ≡ 1
  pub b_free : b.depth ≡ 0

-- the caller's list goes on, with so many entries of entering and of taking the heap lock more of its own
pub record GoesOn (old new : Token) (entered locked : ℕ) : Type 0 where
  pub number : new.number ≡ old.number
  pub seen : IsPrefix old.seen new.seen
  pub enters_are : counted enters (own new.number new.seen) ≡ counted enters (own old.number old.seen) + entered
  pub locks_are : counted locks (own new.number new.seen) ≡ counted locks (own old.number old.seen) + locked
