-- What a reallocation keeps of its block, whatever entries of other callers stand between its own.
use Rattle.std.specs.Prelude.{◌≡◌, ℕ, true, List}
use Rattle.heap_model.specs.declared.Call.TheVariants as calls
use Rattle.heap_model.specs.declared.Entry.{Entry}
use Rattle.heap_model.specs.declared.Flags.{Flags}
use Rattle.heap_model.specs.declared.Reply.TheVariants as replies
use Rattle.heap_model.specs.State.{Setting}
use Rattle.heap_model.specs.CallState.{Configuration}
use Rattle.heap_model.specs.History.{may_all_follow}
use Rattle.heap_model.specs.Moments.{moments}
use Rattle.heap_model.specs.Shape.{Replied}
use Rattle.heap_model.specs.Served.{IsAnswered}
use Rattle.heap_model.specs.Geometry.{words_of}
use Rattle.heap_model.specs.Contents.{HadSize, KeepsContents, IsZeroed}
use Rattle.call_laws.specs.Within.{IsReached}

-- A call that moves or resizes the block at a keeps its words, as many as the block had and the new size has.
abbrev pub ReallocationKeeps : Type 0
ReallocationKeeps = (s : Setting) (m : Configuration) (c a n b : ℕ) (flags : Flags) (es : List Entry) → IsReached s m → may_all_follow s m es ≡ true →
    IsAnswered s c (calls.Realloc a n flags) (Replied (replies.Address b)) (moments s c m es) →
    (size : ℕ) × HadSize c a size (moments s c m es) × KeepsContents s c m a size b n es

-- An allocation that asks for zeroes gets a block of zeroes ..
abbrev pub AllocationZeroes : Type 0
AllocationZeroes = (s : Setting) (m : Configuration) (c n a : ℕ) (flags : Flags) (es : List Entry) → flags.zero ≡ true →
    IsAnswered s c (calls.Alloc n flags) (Replied (replies.Address a)) (moments s c m es) → IsZeroed s c m a n 0 (words_of n) es

-- .. and a reallocation zeroes that a block gains.
abbrev pub ReallocationZeroes : Type 0
ReallocationZeroes = (s : Setting) (m : Configuration) (c a n b : ℕ) (flags : Flags) (es : List Entry) → flags.zero ≡ true →
    IsAnswered s c (calls.Realloc a n flags) (Replied (replies.Address b)) (moments s c m es) →
    (size : ℕ) × HadSize c a size (moments s c m es) × IsZeroed s c m b n (words_of size) (words_of n) es
