-- Worked calls: each shape of a call in a legal history, and histories that break at one entry.
use Rattle.std.specs.Prelude.{◌≡◌, true, false, List, [], ◌∷◌, ◌++◌, map, length}
use Rattle.heap_model.specs.declared.Call.{Call}
use Rattle.heap_model.specs.declared.Call.TheVariants as calls
use Rattle.heap_model.specs.declared.Act.{Act}
use Rattle.heap_model.specs.declared.Act.TheVariants as acts
use Rattle.heap_model.specs.declared.Entry.{Entry}
use Rattle.heap_model.specs.declared.Flags.{Flags}
use Rattle.heap_model.specs.declared.Reply.{Reply}
use Rattle.heap_model.specs.declared.Reply.TheVariants as replies
use Rattle.heap_model.specs.declared.Kind.TheVariants as kinds
use Rattle.heap_model.specs.declared.Layer.TheVariants as layers
use Rattle.heap_model.specs.declared.What.TheVariants as whats
use Rattle.heap_model.specs.State.{Setting}
use Rattle.heap_model.specs.History.{is_legal, refused_from, first_configuration, configuration_of}
use Rattle.heap_model.specs.Moments.{moments}
use Rattle.heap_model.specs.Shape.{Answer}
use Rattle.heap_model.specs.Served.{IsAnswered}
use Rattle.heap_model.specs.Alone.{alone, by_zero as by}
use Rattle.serial_laws.specs.BackCalls.{plain}
use Rattle.heap_laws.specs.Worked.{seventeen_vs, searches_lfh, from}

-- Behind these entries others may come, in which caller 0 makes one call and is answered so.
pub record IsWorked (s : Setting) (earlier : List Entry) (call : Call) (answer : Answer) (es : List Entry) : Type 0 where
  pub legal : is_legal s (earlier ++ es) ≡ true
  pub answered : IsAnswered s 0 call answer (moments s 0 (configuration_of s earlier) es)

-- Behind these entries the last of others may not come, and all before it may.
abbrev pub BreaksAtLast : Setting → List Entry → List Entry → Type 0
BreaksAtLast s earlier es = refused_from 1 s first_configuration (earlier ++ es) ≡ length (earlier ++ es)

-- a call of caller 0 alone
abbrev pub call_by : Call → List Act → List Entry
call_by call rest = map by (acts.Begin call ∷ rest)

abbrev pub zeroed : Flags
zeroed = record { zero = true; in_place = false }

abbrev pub in_place : Flags
in_place = record { zero = false; in_place = true }

-- a heap of one caller, one segment and 128 large pages
abbrev pub roomy : Setting
roomy = alone (record { segments = 1; large_pages = 128; slots = 1; callers = 1 }) 1

---- A block of 24 bytes, one behind it, and its words

-- the first block of 24 bytes, zeroed
abbrev pub places_zeroed : List Act
places_zeroed =
    acts.Enter ∷ acts.TakeLock whats.Vs ∷ acts.TakeLock whats.Back ∷ acts.Reserve 0 ∷ acts.Span 2 16 kinds.Vs 0 0 ∷ acts.Place 8240 3 layers.Vs ∷ acts.GiveLock whats.Back
    ∷ acts.Store 1032 0 ∷ acts.Store 1033 0 ∷ acts.Store 1034 0 ∷ acts.Give 8256 24 ∷ acts.GiveLock whats.Vs ∷ acts.Leave ∷ []

abbrev pub with_block : List Entry
with_block = call_by (calls.Alloc 24 zeroed) places_zeroed

-- no block has a word there
abbrev pub zeroes_beyond : List Act
zeroes_beyond =
    acts.Enter ∷ acts.TakeLock whats.Vs ∷ acts.TakeLock whats.Back ∷ acts.Reserve 0 ∷ acts.Span 2 16 kinds.Vs 0 0 ∷ acts.Place 8240 3 layers.Vs ∷ acts.Store 196608 0 ∷ []

abbrev pub puts_words : List Entry
puts_words =
    call_by (calls.Put 8256 0 7) (acts.Enter ∷ acts.Sized 8256 24 ∷ acts.Store 1032 7 ∷ acts.Leave ∷ [])
    ++ call_by (calls.Put 8256 2 9) (acts.Enter ∷ acts.Sized 8256 24 ∷ acts.Store 1034 9 ∷ acts.Leave ∷ [])

abbrev pub with_words : List Entry
with_words = with_block ++ puts_words

abbrev pub puts_last : List Act
puts_last = acts.Enter ∷ acts.Sized 8256 24 ∷ acts.Store 1034 5 ∷ acts.Leave ∷ []

abbrev pub puts_for_another_size : List Act
puts_for_another_size = acts.Enter ∷ acts.Sized 8256 25 ∷ []

abbrev pub gets_last : List Act
gets_last = acts.Enter ∷ acts.Sized 8256 24 ∷ acts.Load 1034 9 ∷ acts.Leave ∷ []

abbrev pub gets_invented : List Act
gets_invented = acts.Enter ∷ acts.Sized 8256 24 ∷ acts.Load 1034 7 ∷ []

abbrev pub looks_past : List Act
looks_past = acts.Enter ∷ acts.Sized 8256 24 ∷ acts.Leave ∷ []

-- an address inside the block is none of a block
abbrev pub finds_none : List Act
finds_none = acts.Enter ∷ acts.NotLive 8264 ∷ acts.Leave ∷ []

abbrev pub denies_block : List Act
denies_block = acts.Enter ∷ acts.NotLive 8256 ∷ []

---- Reallocation in place

abbrev pub grows_zeroed : List Act
grows_zeroed = acts.Enter ∷ acts.TakeLock whats.Vs ∷ acts.Store 1035 0 ∷ acts.Store 1036 0 ∷ acts.Resize 8256 4 40 ∷ acts.GiveLock whats.Vs ∷ acts.Leave ∷ []

abbrev pub grows_too_long : List Act
grows_too_long = acts.Enter ∷ acts.TakeLock whats.Vs ∷ acts.Store 1035 0 ∷ acts.Store 1036 0 ∷ acts.Resize 8256 5 40 ∷ []

---- Reallocation that moves

abbrev pub with_neighbour : List Entry
with_neighbour =
    with_words ++ call_by (calls.Alloc 16 plain) (acts.Enter ∷ acts.TakeLock whats.Vs ∷ acts.Place 8288 2 layers.Vs ∷ acts.Give 8304 16 ∷ acts.GiveLock whats.Vs ∷ acts.Leave ∷ [])

abbrev pub finds_no_room : List Act
finds_no_room = acts.Enter ∷ acts.TakeLock whats.Vs ∷ acts.Sized 8256 24 ∷ acts.GiveLock whats.Vs ∷ acts.Leave ∷ []

abbrev pub moves_words : List Act
moves_words =
    acts.Enter ∷ acts.TakeLock whats.Vs ∷ acts.Place 8320 14 layers.Vs ∷ acts.Take 8256 24
    ∷ acts.Load 1032 7 ∷ acts.Store 1042 7 ∷ acts.Load 1033 0 ∷ acts.Store 1043 0 ∷ acts.Load 1034 9 ∷ acts.Store 1044 9
    ∷ acts.Give 8336 200 ∷ acts.Drop 8256 ∷ acts.GiveLock whats.Vs ∷ acts.Leave ∷ []

-- the word that stands there is another
abbrev pub loads_another : List Act
loads_another = acts.Enter ∷ acts.TakeLock whats.Vs ∷ acts.Place 8320 14 layers.Vs ∷ acts.Take 8256 24 ∷ acts.Load 1032 8 ∷ []

-- a range is there
abbrev pub denies_range : List Act
denies_range = acts.Enter ∷ acts.TakeLock whats.Vs ∷ acts.TakeLock whats.Back ∷ acts.NoFit 200 ∷ []

---- The large area, full

abbrev pub with_large : List Entry
with_large = call_by (calls.Alloc 520193 plain) (acts.Enter ∷ acts.TakeLock whats.Large ∷ acts.Place 1048576 32768 layers.Large ∷ acts.Give 1048576 520193 ∷ acts.GiveLock whats.Large ∷ acts.Leave ∷ [])

abbrev pub grows_nowhere : List Act
grows_nowhere = acts.Enter ∷ acts.TakeLock whats.Large ∷ acts.NoFit 528385 ∷ acts.GiveLock whats.Large ∷ acts.Leave ∷ []

-- it fits where it is
abbrev pub denies_room : List Act
denies_room = acts.Enter ∷ acts.TakeLock whats.Large ∷ acts.Resize 1048576 32768 528385 ∷ []

---- The heap lock

abbrev pub locks : List Entry
locks = call_by calls.Lock (acts.Lock ∷ [])

abbrev pub walks : List Entry
walks = call_by (calls.WalkNext 8257) []

-- the heap lock has an owner, and only it gives it back
abbrev pub unlocks : List Entry
unlocks = call_by calls.Unlock (acts.Unlock ∷ [])

---- The front end

-- a heap of two callers of one slot and one stream
abbrev pub drawn_by_two : Setting
drawn_by_two = record {
  limits = record { segments = 1; large_pages = 0; slots = 1; callers = 2 };
  seed = 42;
  slot = λ _. 0;
  stream = λ _. 54;
}

-- two blocks of the front end live, at 73936 and 74560
abbrev pub with_front : List Entry
with_front = seventeen_vs ++ searches_lfh

abbrev pub shrinks : List Entry
shrinks = call_by (calls.Realloc 73936 8 plain) (acts.Enter ∷ acts.Take 73936 16 ∷ acts.Give 73936 8 ∷ acts.Leave ∷ [])

abbrev pub grows_again : List Act
grows_again = acts.Enter ∷ acts.Take 73936 8 ∷ acts.Store 9243 0 ∷ acts.Give 73936 16 ∷ acts.Leave ∷ []

-- more than the block has
abbrev pub grows_too_far : List Act
grows_too_far = acts.Enter ∷ acts.Take 73936 8 ∷ acts.Store 9243 0 ∷ acts.Give 73936 17 ∷ []

abbrev pub moves_out : List Act
moves_out =
    acts.Enter ∷ acts.Take 73936 16 ∷ acts.TakeLock whats.Vs ∷ acts.Place 8784 8 layers.Vs ∷ acts.Load 9242 0 ∷ acts.Store 1100 0 ∷ acts.Load 9243 0 ∷ acts.Store 1101 0
    ∷ acts.Give 8800 100 ∷ acts.Drop 73936 ∷ acts.GiveLock whats.Vs ∷ acts.Leave ∷ []

-- a block that is live is not dropped
abbrev pub drops_live : List Act
drops_live = acts.Enter ∷ acts.TakeLock whats.Vs ∷ acts.Place 8784 8 layers.Vs ∷ acts.Give 8800 100 ∷ acts.Drop 73936 ∷ []

abbrev pub fits_nowhere : List Act
fits_nowhere = acts.Enter ∷ acts.Take 73936 16 ∷ acts.TakeLock whats.Large ∷ acts.NoFit 600000 ∷ acts.Give 73936 16 ∷ acts.GiveLock whats.Large ∷ acts.Leave ∷ []

-- the block stays in hand
abbrev pub keeps_in_hand : List Act
keeps_in_hand = acts.Enter ∷ acts.Take 73936 16 ∷ acts.TakeLock whats.Large ∷ acts.NoFit 600000 ∷ acts.GiveLock whats.Large ∷ acts.Leave ∷ []

-- another caller holds a lock that the move needs
abbrev pub waits_for_another : List Entry
waits_for_another =
    from 1 (acts.Begin calls.Stay) ∷ from 1 acts.Enter ∷ from 1 (acts.TakeLock whats.Vs)
    ∷ from 0 (acts.Begin (calls.Realloc 73936 100 plain)) ∷ from 0 acts.Enter ∷ from 0 (acts.Take 73936 16)
    ∷ from 1 (acts.GiveLock whats.Vs) ∷ from 1 (acts.TakeLock whats.Vs)
    ∷ from 0 (acts.Blocked whats.Vs 2) ∷ from 0 (acts.Give 73936 16) ∷ from 1 (acts.GiveLock whats.Vs) ∷ from 0 acts.Leave ∷ []

-- the word names no caller
abbrev pub waits_for_nobody : List Entry
waits_for_nobody =
    from 1 (acts.Begin calls.Stay) ∷ from 1 acts.Enter ∷ from 1 (acts.TakeLock whats.Vs)
    ∷ from 0 (acts.Begin (calls.Realloc 73936 100 plain)) ∷ from 0 acts.Enter ∷ from 0 (acts.Take 73936 16) ∷ from 1 (acts.GiveLock whats.Vs)
    ∷ from 0 (acts.Blocked whats.Vs 2) ∷ []

abbrev pub frees_front : List Entry
frees_front =
    call_by (calls.Free 73936) (acts.Enter ∷ acts.Take 73936 16 ∷ acts.Drop 73936 ∷ acts.Leave ∷ [])
    ++ call_by (calls.Free 74560) (acts.Enter ∷ acts.Take 74560 16 ∷ acts.Drop 74560 ∷ acts.Leave ∷ [])

abbrev pub compacts_front : List Act
compacts_front = acts.Lock ∷ acts.TakeLock whats.Back ∷ acts.Unspan 18 ∷ acts.Decommit 18 ∷ acts.GiveLock whats.Back ∷ acts.Unlock ∷ []

-- a block is left in the span
abbrev pub compacts_used : List Act
compacts_used = acts.Lock ∷ acts.TakeLock whats.Back ∷ acts.Unspan 18 ∷ []

---- What is asked, one after another

-- the heap lock is taken twice, the blocks are walked, and it is given back three times, once too often: only the first and the last but one take a step
abbrev pub asked_under_lock : List Call
asked_under_lock = calls.Lock ∷ calls.Lock ∷ calls.WalkNext 0 ∷ calls.Unlock ∷ calls.Unlock ∷ calls.Unlock ∷ calls.WalkNext 0 ∷ []

abbrev pub answered_under_lock : List Reply
answered_under_lock =
    replies.Done ∷ replies.Done ∷ replies.Seen (record { addr = 8256; size = 24; layer = layers.Vs }) ∷ replies.Walked 1 ∷ replies.Done ∷ replies.Done ∷ replies.NotOwner ∷ replies.NotLocked ∷ []

abbrev pub steps_under_lock : List Act
steps_under_lock = acts.Begin calls.Lock ∷ acts.Lock ∷ acts.Begin (calls.WalkNext 0) ∷ acts.Begin (calls.WalkNext 8257) ∷ acts.Begin calls.Unlock ∷ acts.Unlock ∷ []
