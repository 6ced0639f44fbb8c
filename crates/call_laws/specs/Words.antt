-- How words of blocks change, and what a copy keeps of them, whatever entries of other callers stand between.
use Rattle.std.specs.Prelude.{◌≡◌, ℕ, ◌+◌, ◌<◌, Bool, true, false, List, ◌++◌, filter, length}
use Rattle.std.specs.List.{list_any}
use Rattle.heap_model.specs.declared.Act.{Act}
use Rattle.heap_model.specs.declared.Act.TheVariants as acts
use Rattle.heap_model.specs.declared.Entry.{Entry}
use Rattle.heap_model.specs.State.{Setting}
use Rattle.heap_model.specs.CallState.{Configuration}
use Rattle.heap_model.specs.History.{configuration_after, may_all_follow}
use Rattle.heap_model.specs.Moments.{moments, acts_of}
use Rattle.heap_model.specs.Shape.{copying, zeros}
use Rattle.heap_model.specs.Contents.{last_stored, is_store_to, is_stored_by_others}

-- A word is what was stored to it last: it changes by Stores alone.
abbrev pub WordsChangeByStores : Type 0
WordsChangeByStores = (s : Setting) (m : Configuration) (es : List Entry) (word : ℕ) →
    (configuration_after s m es).state.words word ≡ last_stored word (m.state.words word) es

-- the acts that load or store a word
abbrev pub is_of_word : Act → Bool
is_of_word (acts.Load word v) = true
is_of_word (acts.Store word v) = true
is_of_word _ = false

abbrev pub word_acts : List Act → List Act
word_acts rest = filter is_of_word rest

-- the Loads and Stores of c among entries
abbrev pub word_acts_of : Setting → ℕ → Configuration → List Entry → List Act
word_acts_of s c m es = word_acts (acts_of (moments s c m es))

-- Words that c copies are kept: each word that it has stored is the one that it was to be copied from, where no other caller has stored to either, the
-- copy has not stored to the word before it was loaded, and c does not store to it behind the copy.
abbrev pub CopiesKeep : Type 0
CopiesKeep = (s : Setting) (c : ℕ) (m : Configuration) (es : List Entry) (from to : ℕ) (values : List ℕ) (rest : List Act) (i : ℕ) →
    may_all_follow s m es ≡ true → word_acts_of s c m es ≡ copying from to values ++ rest → i < length values →
    ((j : ℕ) → j < i → to + j ≡ from + i → ⊥) → list_any (is_store_to (to + i)) rest ≡ false →
    is_stored_by_others c (from + i) es ≡ false → is_stored_by_others c (to + i) es ≡ false →
    (configuration_after s m es).state.words (to + i) ≡ m.state.words (from + i)

-- Words that c zeroes are 0, where no other caller has stored to them.
abbrev pub ZeroesStay : Type 0
ZeroesStay = (s : Setting) (c : ℕ) (m : Configuration) (es : List Entry) (first : List Act) (word count i : ℕ) →
    word_acts_of s c m es ≡ first ++ zeros true word count → i < count → is_stored_by_others c (word + i) es ≡ false →
    (configuration_after s m es).state.words (word + i) ≡ 0

-- A word to which neither c nor another caller stores stays.
abbrev pub OthersStay : Type 0
OthersStay = (s : Setting) (c : ℕ) (m : Configuration) (es : List Entry) (word : ℕ) →
    list_any (is_store_to word) (word_acts_of s c m es) ≡ false → is_stored_by_others c word es ≡ false →
    (configuration_after s m es).state.words word ≡ m.state.words word
