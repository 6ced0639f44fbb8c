-- What the entries of a call are, by what it is answered. The documentation of HeapAlloc, HeapReAlloc, HeapFree, HeapSize, HeapLock, HeapUnlock,
-- HeapWalk and HeapCompact says what each call does; which entries stand for it is this project's own.
use Rattle.std.specs.Prelude.{◌≡◌, ◌⊎◌, ℕ, ◌+◌, ◌*◌, ◌/◌, ◌-◌, ◌<◌, ◌≤◌, Bool, true, false, ◌&&◌, ◌||◌, not, min, nat_le, List, [], ◌∷◌, ◌++◌, map, length, filter, cond, Option, Some, None, if◌then◌else◌}
use Rattle.std.specs.List.{find, list_any}
use Rattle.heap_model.specs.declared.Block.{Block}
use Rattle.heap_model.specs.declared.Busy.{Busy}
use Rattle.heap_model.specs.declared.Flags.{Flags}
use Rattle.heap_model.specs.declared.Call.{Call}
use Rattle.heap_model.specs.declared.Call.TheVariants as calls
use Rattle.heap_model.specs.declared.Act.{Act}
use Rattle.heap_model.specs.declared.Act.TheVariants as acts
use Rattle.heap_model.specs.declared.Kind.TheVariants as kinds
use Rattle.heap_model.specs.declared.Layer.TheVariants as layers
use Rattle.heap_model.specs.declared.Reply.{Reply}
use Rattle.heap_model.specs.declared.Reply.TheVariants as replies
use Rattle.heap_model.specs.Geometry.{page_bytes, words_of}
use Rattle.heap_model.specs.Backend.{numbers, in_span}
use Rattle.heap_model.specs.State.{Setting, State, Area, Place, Live, InHand, is_layer, is_caller, is_live, is_in_hand_of, address, place_at, live}
use Rattle.heap_model.specs.Stay.{lets_stay}
use Rattle.heap_model.specs.Legal.{is_begin, are_used}
use Rattle.heap_model.specs.Moments.{Moment, acts_of, Before, BeforeLast}

-- what a call is answered: a reply, or that another caller was in the way
pub data Answer : Type 0 where
  Replied : Reply → Answer
  WasBusy : Busy → Answer

-- the acts that a shape leaves out: those at the gate, at locks, on spans, and of a search
abbrev pub is_left_out : Act → Bool
is_left_out (acts.Begin call) = true
is_left_out acts.Enter = true
is_left_out acts.Leave = true
is_left_out (acts.TakeLock what) = true
is_left_out (acts.GiveLock what) = true
is_left_out (acts.Reserve segment) = true
is_left_out (acts.Span first pages kind bucket slot) = true
is_left_out (acts.Unspan first) = true
is_left_out (acts.Active bucket) = true
is_left_out (acts.Saw head word bits) = true
is_left_out (acts.Lost head index) = true
is_left_out (acts.NoHint bucket slot) = true
is_left_out (acts.NoSpan bucket) = true
is_left_out _ = false

abbrev pub shape_of : List Act → List Act
shape_of [] = []
shape_of (act ∷ rest) = cond (is_left_out act) (shape_of rest) (act ∷ shape_of rest)

-- the acts that its shape shows
abbrev pub shown : List Moment → List Act
shown xs = shape_of (acts_of xs)

---- Words

-- a 0 stored to each of so many words from one on, in rising order, if that is asked
abbrev pub zeros : Bool → ℕ → ℕ → List Act
zeros true word count = map (λ w. acts.Store w 0) (numbers word count)
zeros false word count = []

-- .. to each word of the block of n bytes at a
abbrev pub zeroing : Bool → ℕ → ℕ → List Act
zeroing zero a n = zeros zero (a / 8) (words_of n)

-- .. to each word that a block at a gains where its size grows from m to n
abbrev pub zeroing_more : Bool → ℕ → ℕ → ℕ → List Act
zeroing_more zero a m n = zeros zero (a / 8 + words_of m) (words_of n - words_of m)

-- these words are loaded from one word on and stored from another on, one after another
abbrev pub copying : ℕ → ℕ → List ℕ → List Act
copying from to [] = []
copying from to (v ∷ vs) = acts.Load from v ∷ acts.Store to v ∷ copying (from + 1) (to + 1) vs

---- Allocation, free, size

-- A place with the address is made, zeroed if asked, and given.
abbrev pub Allocates : ℕ → ℕ → Bool → List Act → Type 0
Allocates a n zero (acts.Place start granules layer ∷ rest) =
    (address (record { start = start; granules = granules; layer = layer; status = InHand 0 }) ≡ a)
    × (rest ≡ zeroing zero a n ++ acts.Give a n ∷ [])
Allocates a n zero _ = ⊥

-- No range fits.
abbrev pub FitsNone : ℕ → List Act → Type 0
FitsNone n (acts.NoFit size ∷ []) = size ≡ n
FitsNone n _ = ⊥

-- The block is taken, and its place goes.
abbrev pub Frees : ℕ → List Act → Type 0
Frees a (acts.Take b size ∷ acts.Drop d ∷ []) = (b ≡ a) × (d ≡ a)
Frees a _ = ⊥

-- No live block has the address.
abbrev pub FindsNone : ℕ → List Act → Type 0
FindsNone a (acts.NotLive b ∷ []) = b ≡ a
FindsNone a _ = ⊥

-- The size of the block is found.
abbrev pub Sizes : ℕ → ℕ → List Act → Type 0
Sizes a n (acts.Sized b size ∷ []) = (b ≡ a) × (size ≡ n)
Sizes a n _ = ⊥

---- Contents

-- The size is found, and a word of the block loaded.
abbrev pub Gets : ℕ → ℕ → ℕ → List Act → Type 0
Gets a index v (acts.Sized b size ∷ acts.Load word value ∷ []) = (b ≡ a) × (word ≡ a / 8 + index) × (value ≡ v) × (index < words_of size)
Gets a index v _ = ⊥

-- .. or stored.
abbrev pub Puts : ℕ → ℕ → ℕ → List Act → Type 0
Puts a index v (acts.Sized b size ∷ acts.Store word value ∷ []) = (b ≡ a) × (word ≡ a / 8 + index) × (value ≡ v) × (index < words_of size)
Puts a index v _ = ⊥

-- The block has so many words, and the index is none of them.
abbrev pub IsPast : ℕ → ℕ → ℕ → List Act → Type 0
IsPast a index words (acts.Sized b size ∷ []) = (b ≡ a) × (words ≡ words_of size) × (words ≤ index)
IsPast a index words _ = ⊥

---- The heap lock

abbrev pub Locks : List Act → Type 0
Locks (acts.Lock ∷ []) = Unit {0}
Locks _ = ⊥

abbrev pub Unlocks : List Act → Type 0
Unlocks (acts.Unlock ∷ []) = Unit {0}
Unlocks _ = ⊥

---- Busy

abbrev pub blocked : Busy → Act
blocked b = acts.Blocked b.what b.word

-- Another was in the way. A block of the front end that a reallocation had taken was given back with its size.
abbrev pub IsHindered : Call → Busy → List Act → Type 0
IsHindered (calls.Realloc a n flags) b shape = (shape ≡ blocked b ∷ []) ⊎ ((size : ℕ) × (shape ≡ acts.Take a size ∷ blocked b ∷ acts.Give a size ∷ []))
IsHindered call b shape = shape ≡ blocked b ∷ []

---- Reallocation

abbrev pub is_resize : Act → Bool
is_resize (acts.Resize a granules size) = true
is_resize _ = false

abbrev pub is_take : Act → Bool
is_take (acts.Take a size) = true
is_take _ = false

abbrev pub is_no_fit : Act → Bool
is_no_fit (acts.NoFit size) = true
is_no_fit _ = false

abbrev pub is_sized : Act → Bool
is_sized (acts.Sized a size) = true
is_sized _ = false

-- a move of a block begins
abbrev pub begins_move : Act → Bool
begins_move (acts.Span first pages kind bucket slot) = true
begins_move (acts.Place start granules layer) = true
begins_move (acts.Take a size) = true
begins_move _ = false

-- c finds this place at a, which keeps its address at the size n, or does not
abbrev pub Finds : Setting → ℕ → ℕ → ℕ → Place → Bool → State → Type 0
Finds s c a n p stays st = (place_at st c a ≡ Some p) × (lets_stay s.limits st p n ≡ stays)

abbrev pub is_of_front : Place → Bool
is_of_front p = is_layer p.layer layers.Lfh

-- The block keeps its address, and is resized where it is.
pub record IsResized (s : Setting) (c a n : ℕ) (zero : Bool) (xs : List Moment) : Type 0 where
  pub old : Place
  pub size : ℕ
  pub granules : ℕ
  pub live : old.status ≡ Live size
  pub stays : Before is_resize (Finds s c a n old true) xs
  pub acts_are : shown xs ≡ zeroing_more zero a size n ++ acts.Resize a granules n ∷ []

-- .. or, in the front end, taken and given again.
pub record IsGivenAgain (s : Setting) (c a n : ℕ) (zero : Bool) (xs : List Moment) : Type 0 where
  pub old : Place
  pub size : ℕ
  pub front : is_of_front old ≡ true
  pub stays : Before is_take (Finds s c a n old true) xs
  pub acts_are : shown xs ≡ acts.Take a size ∷ (zeroing_more zero a size n ++ acts.Give a n ∷ [])

-- The words of the block of size m at a go to the one of size n at b, as many as both have. Those that it gains are zeroed then, if asked.
abbrev pub moving : ℕ → ℕ → ℕ → ℕ → Bool → List ℕ → List Act
moving a m b n zero values = copying (a / 8) (b / 8) values ++ zeroing_more zero b m n

-- A block of the front end is taken before the new place is made; another one behind it, before, behind or amid the words that move.
abbrev pub TakesAndPlaces : Bool → Act → Act → List Act → List Act → Type 0
TakesAndPlaces true take place words shape = shape ≡ take ∷ place ∷ words
TakesAndPlaces false take place words shape =
    (first : List Act) × (later : List Act) × (words ≡ first ++ later) × (shape ≡ place ∷ (first ++ take ∷ later))

-- The block does not keep its address. A place with the address b is made, the words are moved, the new block is given, and the old one goes.
pub record IsMoved (s : Setting) (c a n : ℕ) (zero : Bool) (b : ℕ) (xs : List Moment) : Type 0 where
  pub old : Place
  pub size : ℕ
  pub made : Place
  pub values : List ℕ
  pub moves : List Act
  pub leaves : Before begins_move (Finds s c a n old false) xs
  pub address_is : address made ≡ b
  pub count : length values ≡ words_of (min size n)
  pub moves_are : TakesAndPlaces (is_of_front old) (acts.Take a size) (acts.Place made.start made.granules made.layer) (moving a size b n zero values) moves
  pub acts_are : shown xs ≡ moves ++ acts.Give b n ∷ acts.Drop a ∷ []

-- It can't stay, and no range fits. A block of the front end was taken, and is given back with its size.
pub record HasNoRange (s : Setting) (c a n : ℕ) (xs : List Moment) : Type 0 where
  pub old : Place
  pub size : ℕ
  pub there : (is_live old.status || is_in_hand_of c old.status) ≡ true
  pub leaves : Before is_no_fit (Finds s c a n old false) xs
  pub acts_are : shown xs ≡ cond (is_of_front old) (acts.Take a size ∷ acts.NoFit n ∷ acts.Give a size ∷ []) (acts.NoFit n ∷ [])

-- It can't stay, and may not move.
pub record HasNoRoom (s : Setting) (c a n : ℕ) (xs : List Moment) : Type 0 where
  pub old : Place
  pub size : ℕ
  pub leaves : Before is_sized (Finds s c a n old false) xs
  pub acts_are : shown xs ≡ acts.Sized a size ∷ []

-- The block is reallocated, and is at b now: at its own address, or at another where it may move.
abbrev pub Reallocates : Setting → ℕ → ℕ → ℕ → Flags → ℕ → List Moment → Type 0
Reallocates s c a n flags b xs =
    ((b ≡ a) × (IsResized s c a n flags.zero xs ⊎ IsGivenAgain s c a n flags.zero xs))
    ⊎ ((flags.in_place ≡ false) × IsMoved s c a n flags.zero b xs)

---- A step of a walk

-- the live block of the least address at or after this one
abbrev pub next_live : ℕ → State → Option Block
next_live from st = find (λ b. nat_le from b.addr) (live st)

-- No act is its own. It finds the next live block, or that there is none, and then its caller can say how many there were.
abbrev pub WalksTo : ℕ → Option Block → List Moment → Type 0
WalksTo from found xs = (shown xs ≡ []) × Before is_begin (λ st. next_live from st ≡ found) xs

---- Compaction

abbrev pub is_decommit : Act → Bool
is_decommit (acts.Decommit page) = true
is_decommit _ = false

abbrev pub is_unspan : Act → Bool
is_unspan (acts.Unspan first) = true
is_unspan _ = false

-- no span goes behind a page that is decommitted
abbrev pub are_spans_first : List Act → Bool
are_spans_first [] = true
are_spans_first (act ∷ rest) = if is_decommit act then not (list_any is_unspan rest) else are_spans_first rest

-- the committed pages in no span
abbrev pub loose_pages : Area → List ℕ
loose_pages a = filter (λ page. a.committed page && not (list_any (in_span page) a.spans)) (numbers 0 (256 * a.reserved))

-- each span of the front end has a place, and no committed page is loose
abbrev pub IsCompact : State → Type 0
IsCompact st = (are_used page_bytes kinds.Lfh st.lfh st.back.area.spans ≡ true) × (loose_pages st.back.area ≡ [])

-- under the heap lock, which is taken for the call where the caller does not own it
abbrev pub under_lock : Bool → List Act → List Act
under_lock true rest = rest
under_lock false rest = acts.Lock ∷ (rest ++ acts.Unlock ∷ [])

-- First each span of the front end without a place goes, then each committed page in no span is decommitted, and these are counted.
pub record Compacts (c : ℕ) (number : ℕ) (xs : List Moment) : Type 0 where
  pub pages : List ℕ
  pub acts_are : Before is_begin (λ st. shown xs ≡ under_lock (is_caller c st.gate.owner) (map acts.Decommit pages)) xs
  pub spans_first : are_spans_first (acts_of xs) ≡ true
  pub all : BeforeLast IsCompact xs
  pub counted : number ≡ length pages

---- All calls

-- The shapes that acts alone tell.
abbrev pub HasActs : Call → Answer → List Act → Type 0
HasActs (calls.Alloc n flags) (Replied (replies.Address a)) shape = Allocates a n flags.zero shape
HasActs (calls.Alloc n flags) (Replied replies.NoFit) shape = FitsNone n shape
HasActs (calls.Free a) (Replied replies.Done) shape = Frees a shape
HasActs (calls.Size a) (Replied (replies.Number n)) shape = Sizes a n shape
HasActs (calls.Get a index) (Replied (replies.Number v)) shape = Gets a index v shape
HasActs (calls.Put a index v) (Replied replies.Done) shape = Puts a index v shape
HasActs (calls.Get a index) (Replied (replies.Past words)) shape = IsPast a index words shape
HasActs (calls.Put a index v) (Replied (replies.Past words)) shape = IsPast a index words shape
HasActs (calls.Free a) (Replied replies.NotLive) shape = FindsNone a shape
HasActs (calls.Realloc a n flags) (Replied replies.NotLive) shape = FindsNone a shape
HasActs (calls.Size a) (Replied replies.NotLive) shape = FindsNone a shape
HasActs (calls.Get a index) (Replied replies.NotLive) shape = FindsNone a shape
HasActs (calls.Put a index v) (Replied replies.NotLive) shape = FindsNone a shape
HasActs calls.Lock (Replied replies.Done) shape = Locks shape
HasActs calls.Unlock (Replied replies.Done) shape = Unlocks shape
HasActs call (WasBusy b) shape = IsHindered call b shape
HasActs call answer shape = ⊥

-- The shape of a call of c that is answered so, its Begin among its moments.
abbrev pub HasShape : Setting → ℕ → Call → Answer → List Moment → Type 0
HasShape s c (calls.Realloc a n flags) (Replied (replies.Address b)) xs = Reallocates s c a n flags b xs
HasShape s c (calls.Realloc a n flags) (Replied replies.NoFit) xs = (flags.in_place ≡ false) × HasNoRange s c a n xs
HasShape s c (calls.Realloc a n flags) (Replied replies.NoRoom) xs = (flags.in_place ≡ true) × HasNoRoom s c a n xs
HasShape s c (calls.WalkNext from) (Replied (replies.Seen b)) xs = WalksTo from (Some b) xs
HasShape s c (calls.WalkNext from) (Replied (replies.Walked count)) xs = WalksTo from None xs
HasShape s c calls.Compact (Replied (replies.Compacted pages)) xs = Compacts c pages xs
HasShape s c call answer xs = HasActs call answer (shown xs)
