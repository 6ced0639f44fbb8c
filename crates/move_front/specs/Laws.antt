-- A call that moves a block: what it has to place, and what it keeps beside a new block of the front end.
use Rattle.std.specs.Prelude.{◌≡◌, ℕ, ◌≤◌, true, false, ◌||◌, List, [], ◌∷◌, Some}
use Rattle.std.specs.List.{find, list_all}
use Rattle.heap_model.specs.declared.Call.TheVariants as calls
use Rattle.heap_model.specs.declared.Entry.{Entry}
use Rattle.heap_model.specs.declared.Flags.{Flags}
use Rattle.heap_model.specs.declared.What.TheVariants as whats
use Rattle.heap_model.specs.Agreement.{GateIsSound}
use Rattle.heap_model.specs.Buckets.{bucket_of}
use Rattle.heap_model.specs.CallState.{Configuration, caller_view, not_begun}
use Rattle.heap_model.specs.History.{own, configuration_after, may_all_follow}
use Rattle.heap_model.specs.Legal.{may_touch}
use Rattle.heap_model.specs.State.{Setting, Place, hands, exclusive_places, place_at, has_address, is_live, is_in_hand_of}
use Rattle.heap_model.specs.Stay.{lets_stay}
use Rattle.heap_gate.specs.Token.{Token, Always, now, is_out}
use Rattle.move_front.specs.Front.{IsToPlace, IsBesideFront, is_quiet}

-- The call of n reallocates the block at an address, which this place is: live, or in hand of n. Only n changes it, and it would not keep its address at the
-- new size. Nothing was placed, said or searched.
pub record MovesBlock (s : Setting) (m : Configuration) (n addr size : ℕ) (flags : Flags) (p : Place) : Type 0 where
  pub call : (m.now.calls n).call ≡ Some (calls.Realloc addr size flags)
  pub placed : (m.now.calls n).placed ≡ false
  pub no_span : (m.now.calls n).no_span ≡ false
  pub search : (m.now.calls n).search ≡ not_begun
  pub first : find (has_address addr) (exclusive_places m.state n) ≡ Some p
  pub touch : may_touch (caller_view m n) p.layer ≡ true
  pub there : (is_live p.status || is_in_hand_of n p.status) ≡ true
  pub leaves : lets_stay s.limits m.state p size ≡ false

-- Such a caller, which may move the block, has to place one of the bucket of the new size.
abbrev pub MoverPlaces : Type 0
MoverPlaces =
    (c : Token) (addr size b : ℕ) (flags : Flags) (p : Place) → Always c (λ s. MovesBlock s (now s c) c.number addr size flags p) → flags.in_place ≡ false → bucket_of size ≡ Some b
    → c.inside ≡ true → c.whole ≡ true → c.searched ≡ false → c.drawn ≡ false → c.owes ≡ [] → is_out whats.Vs c.out ≡ true → is_out whats.Back c.out ≡ true → IsToPlace c b

-- With a new block in front of what was in hand, the caller still is alone with the places that it was alone with.
abbrev pub KeepsBehindBlock : Type 0
KeepsBehindBlock =
    (n : ℕ) (m k : Configuration) (q : Place) → IsBesideFront n m k → hands k.state n ≡ q ∷ hands m.state n → exclusive_places k.state n ≡ q ∷ exclusive_places m.state n

-- .. and with none
abbrev pub KeepsWithoutBlock : Type 0
KeepsWithoutBlock = (n : ℕ) (m k : Configuration) → IsBesideFront n m k → hands k.state n ≡ hands m.state n → exclusive_places k.state n ≡ exclusive_places m.state n

---- Between its acts

-- Through entries that may come, of which those of n are quiet, what n holds stays, and what is in its hand.
abbrev pub QuietKeeps : Type 0
QuietKeeps =
    (s : Setting) (n : ℕ) (es : List Entry) (m : Configuration) → may_all_follow s m es ≡ true → GateIsSound m.state.gate → list_all (λ e. is_quiet e.act) (own n es) ≡ true
    → IsBesideFront n m (configuration_after s m es) × (hands (configuration_after s m es).state n ≡ hands m.state n)

-- .. so that the block is where it was, and would not keep its address at a size of the front end
abbrev pub StillMoves : Type 0
StillMoves =
    (s : Setting) (m k : Configuration) (n addr size : ℕ) (p : Place) → IsBesideFront n m k → hands k.state n ≡ hands m.state n → find (has_address addr) (exclusive_places m.state n) ≡ Some p
    → may_touch (caller_view m n) p.layer ≡ true → size ≤ 16368 → lets_stay s.limits m.state p size ≡ false → (place_at k.state n addr ≡ Some p) × (lets_stay s.limits k.state p size ≡ false)
