-- What a caller asks, one call after another, and how each is answered: by the depth of its lock, by one call, or by the calls of a walk.
use Rattle.std.specs.Prelude.{◌≡◌, ℕ, ◌+◌, ◌-◌, ◌==◌, true, not, List, [], ◌∷◌, ◌++◌, Option, Some, None, if◌then◌else◌}
use Rattle.std.specs.List.{list_all, AllByRecursion}
use Rattle.heap_model.specs.declared.Act.{Act}
use Rattle.heap_model.specs.declared.Act.TheVariants as acts
use Rattle.heap_model.specs.declared.Busy.{Busy}
use Rattle.heap_model.specs.declared.Call.{Call}
use Rattle.heap_model.specs.declared.Call.TheVariants as calls
use Rattle.heap_model.specs.declared.Reply.{Reply}
use Rattle.heap_model.specs.declared.Reply.TheVariants as replies
use Rattle.heap_model.specs.State.{Setting}
use Rattle.heap_model.specs.Legal.{is_begin}
use Rattle.heap_model.specs.Moments.{Moment, acts_of}
use Rattle.heap_model.specs.Shape.{Answer, Replied, WasBusy, HasShape}

-- the acts of one call: its Begin, and what follows up to the caller's next
abbrev pub IsOneCall : Call → List Act → Type 0
IsOneCall call (acts.Begin begun ∷ rest) = (begun ≡ call) × (list_all (λ act. not (is_begin act)) rest ≡ true)
IsOneCall call _ = ⊥

-- These are the moments of one call of c, which is answered so.
pub record IsAnswered (s : Setting) (c : ℕ) (call : Call) (answer : Answer) (xs : List Moment) : Type 0 where
  pub one : IsOneCall call (acts_of xs)
  pub shape : HasShape s c call answer xs

-- .. by a reply
abbrev pub GetsReply : Setting → ℕ → Call → Reply → List Moment → Type 0
GetsReply s c call reply xs = IsAnswered s c call (Replied reply) xs

---- Tries

-- lists, one behind the other
abbrev pub in_line : {A : Type 0} → List (List A) → List A
in_line [] = []
in_line (xs ∷ rest) = xs ++ in_line rest

-- one call that was busy
abbrev pub MetBusy : Setting → ℕ → Call → List Moment → Type 0
MetBusy s c call xs = (b : Busy) × IsAnswered s c call (WasBusy b) xs

-- The call was tried until it was not busy, and got this reply.
pub record IsTried (s : Setting) (c : ℕ) (call : Call) (reply : Reply) (xs : List Moment) : Type 0 where
  pub busy : List (List Moment)
  pub last : List Moment
  pub are_busy : AllByRecursion (MetBusy s c call) busy
  pub gets : GetsReply s c call reply last
  pub all : xs ≡ in_line busy ++ last

---- By the depth

-- What a call is answered that takes no step. Depth is how often the caller was given the heap lock and has not given it back.
abbrev pub by_depth : ℕ → Call → Option Reply
by_depth depth calls.Lock = if depth == 0 then None else if depth == 65535 then Some replies.Depth else Some replies.Done
by_depth depth calls.Unlock = if depth == 0 then Some replies.NotOwner else if depth == 1 then None else Some replies.Done
by_depth depth (calls.WalkNext from) = if depth == 0 then Some replies.NotLocked else None
by_depth depth _ = None

abbrev pub depth_after : ℕ → Call → List Reply → ℕ
depth_after depth calls.Lock (replies.Done ∷ []) = depth + 1
depth_after depth calls.Unlock (replies.Done ∷ []) = depth - 1
depth_after depth call rs = depth

---- All that is asked. One says how one call gets its reply

-- A walk: a call for each block from an address on, each behind the block before, and one that finds no more. The last reply has their number.
abbrev pub IsWalk : (Call → Reply → List Moment → Type 0) → ℕ → ℕ → List Reply → List Moment → Type 0
IsWalk One count from [] xs = ⊥
IsWalk One count from (replies.Seen b ∷ rs) xs =
    (its : List Moment) × (later : List Moment) × (xs ≡ its ++ later)
    × One (calls.WalkNext from) (replies.Seen b) its × IsWalk One (count + 1) (b.addr + 1) rs later
IsWalk One count from (replies.Walked n ∷ []) xs = (n ≡ count) × One (calls.WalkNext from) (replies.Walked n) xs
IsWalk One count from (r ∷ rs) xs = ⊥

-- the replies and the moments of what is asked: a walk has a call for each reply, and all else is one call
abbrev pub IsAsked : (Call → Reply → List Moment → Type 0) → Call → List Reply → List Moment → Type 0
IsAsked One (calls.WalkNext from) rs xs = IsWalk One 0 from rs xs
IsAsked One call rs xs = (r : Reply) × (rs ≡ r ∷ []) × One call r xs

-- .. where the depth may answer it, without a step
abbrev pub IsServed : (Call → Reply → List Moment → Type 0) → Option Reply → Call → List Reply → List Moment → Type 0
IsServed One (Some r) call rs xs = (rs ≡ r ∷ []) × (xs ≡ [])
IsServed One None call rs xs = IsAsked One call rs xs

-- .. of all that is asked, one behind the other
abbrev pub AreServed : (Call → Reply → List Moment → Type 0) → ℕ → List Call → List Reply → List Moment → Type 0
AreServed One depth [] rs xs = (rs ≡ []) × (xs ≡ [])
AreServed One depth (call ∷ calls) rs xs =
    (its : List Reply) × (others : List Reply) × (made : List Moment) × (later : List Moment)
    × (rs ≡ its ++ others) × (xs ≡ made ++ later)
    × IsServed One (by_depth depth call) call its made
    × AreServed One (depth_after depth call its) calls others later
