-- What the heap is: its page spans, the places in them, and who is where. The parts are grouped by the lock that guards them.
-- Letters, here and in all definitions: s a setting, st a state, a an area or an address, x a span, p a place, r a run, c a caller, m and n configurations.
use Rattle.std.specs.Prelude.{ℕ, ◌+◌, ◌*◌, ◌-◌, ◌==◌, ◌<◌, Bool, true, false, ◌&&◌, not, nat_lt, List, [], ◌∷◌, ◌++◌, length, filter, filter_map, Option, Some, None, option_map, if◌then◌else◌}
use Rattle.std.specs.List.{list_any, find}
use Rattle.heap_model.specs.declared.Limits.{Limits}
use Rattle.heap_model.specs.Limits.{AreValid}
use Rattle.heap_model.specs.declared.Kind.{Kind}
use Rattle.heap_model.specs.declared.Kind.TheVariants as kinds
use Rattle.heap_model.specs.declared.Layer.{Layer}
use Rattle.heap_model.specs.declared.Layer.TheVariants as layers
use Rattle.heap_model.specs.declared.What.{What}
use Rattle.heap_model.specs.declared.What.TheVariants as whats
use Rattle.heap_model.specs.declared.Block.{Block}

-- the names of the enums as numbers, to compare them by
abbrev pub kind_number : Kind → ℕ
kind_number kinds.Header = 0
kind_number kinds.Free = 1
kind_number kinds.Vs = 2
kind_number kinds.Lfh = 3
kind_number kinds.Back = 4

abbrev pub layer_number : Layer → ℕ
layer_number layers.Lfh = 0
layer_number layers.Vs = 1
layer_number layers.Back = 2
layer_number layers.Large = 3

abbrev pub what_number : What → ℕ
what_number whats.Gate = 0
what_number whats.Lfh = 1
what_number whats.Vs = 2
what_number whats.Back = 3
what_number whats.Large = 4

abbrev pub is_kind : Kind → Kind → Bool
is_kind a b = kind_number a == kind_number b

abbrev pub is_layer : Layer → Layer → Bool
is_layer a b = layer_number a == layer_number b

abbrev pub is_what : What → What → Bool
is_what a b = what_number a == what_number b

-- a function with another value at one number
abbrev pub updated : {A : Type 0} → (ℕ → A) → ℕ → A → ℕ → A
updated f at x n = if n == at then x else f n

-- A span of units of one size: a page range in use, in the published words. Bucket and slot are 0 unless it is of LFH.
pub record Span : Type 0 where
  pub first : ℕ
  pub pages : ℕ
  pub kind : Kind
  pub bucket : ℕ
  pub slot : ℕ

-- What one back end has: how many of its segments are reserved, which of its units are committed, and its spans, by place.
-- Each segment has 256 units, of which the first two are its header.
pub record Area : Type 0 where
  pub reserved : ℕ
  pub committed : ℕ → Bool
  pub spans : List Span

-- a place is live, with the size that was asked, or in hand of the caller that has placed or taken it
pub data Status : Type 0 where
  Live : (size : ℕ) → Status
  InHand : (caller : ℕ) → Status

-- room for one block: its first byte, its granules of 16 bytes, and the layer that keeps it
pub record Place : Type 0 where
  pub start : ℕ
  pub granules : ℕ
  pub layer : Layer
  pub status : Status

-- the caller that holds each lock
pub record Locks : Type 0 where
  pub lfh : Option ℕ
  pub vs : Option ℕ
  pub back : Option ℕ
  pub large : Option ℕ

abbrev pub open_locks : Locks
open_locks = record { lfh = None; vs = None; back = None; large = None }

abbrev pub holder_of : Locks → What → Option ℕ
holder_of k whats.Gate = None
holder_of k whats.Lfh = k.lfh
holder_of k whats.Vs = k.vs
holder_of k whats.Back = k.back
holder_of k whats.Large = k.large

abbrev pub put_holder : Option ℕ → Locks → What → Locks
put_holder c k whats.Gate = k
put_holder c k whats.Lfh = record k { lfh = c }
put_holder c k whats.Vs = record k { vs = c }
put_holder c k whats.Back = record k { back = c }
put_holder c k whats.Large = record k { large = c }

-- What the gate and the lock words show. Counted are the callers that have entered or are turning back, as the gate counts them.
pub record GateAndLocks : Type 0 where
  pub counted : List ℕ
  pub turning : List ℕ
  pub owner : Option ℕ
  pub locks : Locks

-- what the lock of a back end guards: its area, and the places that are whole spans of it
pub record BackPart : Type 0 where
  pub area : Area
  pub places : List Place

-- what the lock of VS guards, beside the spans of VS, which need both locks
pub record VsPart : Type 0 where
  pub places : List Place
  pub active : ℕ → Bool  -- of a bucket
  pub served : ℕ → ℕ  -- of a bucket

-- A state, by what guards it. The places of LFH and the data words are guarded by no lock.
pub record State : Type 0 where
  pub gate : GateAndLocks
  pub back : BackPart
  pub vs : VsPart
  pub lfh : List Place
  pub large : List Place
  pub words : ℕ → ℕ

-- what a heap and its callers are given at the start
pub record Setting : Type 0 where
  pub limits : Limits
  pub seed : ℕ
  pub slot : ℕ → ℕ  -- of a caller
  pub stream : ℕ → ℕ  -- of a caller

-- Limits that a heap can have, and for each caller a slot that it has. What is said of all legal histories rests on this.
pub record IsValidSetting (s : Setting) : Type 0 where
  pub limits : AreValid s.limits
  pub slot : (c : ℕ) → c < s.limits.callers → s.slot c < s.limits.slots

abbrev pub opening : State
opening = record {
  gate = record { counted = []; turning = []; owner = None; locks = open_locks };
  back = record { area = record { reserved = 0; committed = λ _. false; spans = [] }; places = [] };
  vs = record { places = []; active = λ _. false; served = λ _. 0 };
  lfh = [];
  large = [];
  words = λ _. 0;
}

-- the address that callers know a place by
abbrev pub address : Place → ℕ
address p = if is_layer p.layer layers.Vs then p.start + 16 else p.start

-- how many bytes a block in it may have
abbrev pub room : Place → ℕ
room p = if is_layer p.layer layers.Vs then 16 * p.granules - 16 else 16 * p.granules

abbrev pub live_size : Status → Option ℕ
live_size (Live size) = Some size
live_size (InHand c) = None

abbrev pub is_live : Status → Bool
is_live (Live size) = true
is_live (InHand c) = false

abbrev pub is_live_of : ℕ → Status → Bool
is_live_of size (Live n) = n == size
is_live_of size (InHand c) = false

abbrev pub is_in_hand_of : ℕ → Status → Bool
is_in_hand_of c (Live n) = false
is_in_hand_of c (InHand d) = d == c

---- Callers

-- a caller in an option is this one
abbrev pub is_caller : ℕ → Option ℕ → Bool
is_caller c None = false
is_caller c (Some d) = d == c

-- .. is another one
abbrev pub is_another : ℕ → Option ℕ → Bool
is_another c None = false
is_another c (Some d) = not (d == c)

abbrev pub is_among : ℕ → List ℕ → Bool
is_among c cs = list_any (λ d. d == c) cs

abbrev pub without : ℕ → List ℕ → List ℕ
without c cs = filter (λ d. not (d == c)) cs

abbrev pub is_entered : GateAndLocks → ℕ → Bool
is_entered f c = is_among c f.counted && not (is_among c f.turning)

abbrev pub holds : GateAndLocks → ℕ → What → Bool
holds f c w = is_caller c (holder_of f.locks w)

-- a caller's number plus 1, or 0
abbrev pub caller_word : Option ℕ → ℕ
caller_word None = 0
caller_word (Some c) = c + 1

-- the gate word
abbrev pub gate_word : GateAndLocks → ℕ
gate_word f = length f.counted + 65536 * caller_word f.owner

---- Places

abbrev pub places_of : State → Layer → List Place
places_of st layers.Lfh = st.lfh
places_of st layers.Vs = st.vs.places
places_of st layers.Back = st.back.places
places_of st layers.Large = st.large

abbrev pub all_places : State → List Place
all_places st = st.lfh ++ st.vs.places ++ st.back.places ++ st.large

abbrev pub in_hand : ℕ → List Place → List Place
in_hand c ps = filter (λ p. is_in_hand_of c p.status) ps

-- the places in hand of c
abbrev pub hands : State → ℕ → List Place
hands st c = in_hand c st.lfh ++ in_hand c st.vs.places ++ in_hand c st.back.places ++ in_hand c st.large

-- the places of a layer, where its lock is held
abbrev pub guarded : List Place → Bool → List Place
guarded ps true = ps
guarded ps false = []

-- the places that only c changes: those in its hand, and those of the layers whose lock it holds
abbrev pub exclusive_places : State → ℕ → List Place
exclusive_places st c =
    hands st c ++ guarded st.vs.places (holds st.gate c whats.Vs) ++ guarded st.back.places (holds st.gate c whats.Back)
    ++ guarded st.large (holds st.gate c whats.Large)

abbrev pub has_address : ℕ → Place → Bool
has_address a p = address p == a

-- the place of an address. No two places have the same one, and c looks at those first that only c changes
abbrev pub place_at : State → ℕ → ℕ → Option Place
place_at st c a = find (has_address a) (exclusive_places st c ++ all_places st)

-- .. in hand of c
abbrev pub hand_at : State → ℕ → ℕ → Option Place
hand_at st c a = find (has_address a) (hands st c)

abbrev pub is_live_at : ℕ → Place → Bool
is_live_at a p = has_address a p && is_live p.status

abbrev pub is_hand_at : ℕ → ℕ → Place → Bool
is_hand_at c a p = has_address a p && is_in_hand_of c p.status

---- Lists of spans, by place, and of places, the last one made first

abbrev pub add_place : Place → List Place → List Place
add_place p ps = p ∷ ps

abbrev pub insert_span : Span → List Span → List Span
insert_span x [] = x ∷ []
insert_span x (y ∷ ys) = if nat_lt x.first y.first then x ∷ y ∷ ys else y ∷ insert_span x ys

abbrev pub insert_place : Place → List Place → List Place
insert_place x [] = x ∷ []
insert_place x (y ∷ ys) = if nat_lt x.start y.start then x ∷ y ∷ ys else y ∷ insert_place x ys

-- the list, with the one that passes changed, or gone
abbrev pub change_found : {A : Type 0} → (A → Bool) → (A → A) → List A → List A
change_found test f [] = []
change_found test f (x ∷ xs) = if test x then f x ∷ xs else x ∷ change_found test f xs

abbrev pub remove_found : {A : Type 0} → (A → Bool) → List A → List A
remove_found test [] = []
remove_found test (x ∷ xs) = if test x then xs else x ∷ remove_found test xs

abbrev pub by_address : List Place → List Place
by_address [] = []
by_address (p ∷ ps) = insert_place p (by_address ps)

abbrev pub block_of : Place → Option Block
block_of p = option_map (λ size. record { addr = address p; size = size; layer = p.layer }) (live_size p.status)

-- the live blocks, by address
abbrev pub live : State → List Block
live st = filter_map block_of (by_address (all_places st))
