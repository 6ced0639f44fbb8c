-- The descriptor words of pages. In a word: bits 0 to 2 the kind, bit 3 set on the first page of a run, bits 8 to 23 the page count on the first
-- page and the distance from it on the others; on the first page bits 24 to 31 the bucket, 32 to 39 the slot, 40 to 55 the unused bytes.
use Rattle.std.specs.Prelude.{ℕ, zero, suc, ◌+◌, ◌-◌, ◌*◌, ◌/◌, ◌%◌, ◌==◌, List, [], ◌∷◌, ◌++◌, drop, slice_index, if◌then◌else◌}
use Rattle.heap_model.specs.declared.Kind.{Kind}
use Rattle.heap_model.specs.declared.Kind.TheVariants as kinds
use Rattle.heap_model.specs.declared.Mark.{Mark}
use Rattle.heap_model.specs.declared.Run.{Run}
use Rattle.heap_model.specs.State.{kind_number, is_kind}
use Rattle.heap_model.specs.Marks.{header_mark}

-- the kind that a number stands for
abbrev pub kind_of : ℕ → Kind
kind_of n =
    if n == 1 then kinds.Free else
    if n == 2 then kinds.Vs else
    if n == 3 then kinds.Lfh else
    if n == 4 then kinds.Back else kinds.Header

-- a header page, or a page of a segment that is not open
abbrev pub header_run : ℕ → Run
header_run page = record { first = page; pages = 1; mark = header_mark }

-- the word of a run's first page, and of its page k behind it
abbrev pub first_word : ℕ → Mark → ℕ
first_word pages m =
    kind_number m.kind + 8 + 256 * pages + 16777216 * m.bucket + 4294967296 * m.slot + 1099511627776 * m.unused

abbrev pub later_word : ℕ → Mark → ℕ
later_word k m = kind_number m.kind + 256 * k

abbrev pub word_in : Run → ℕ → ℕ
word_in r zero = first_word r.pages r.mark
word_in r (suc k) = later_word (suc k) r.mark

-- the run that begins at a page with this word
abbrev pub run_of : ℕ → ℕ → Run
run_of page word =
    if word == 0 then header_run page else
    record {
      first = page;
      pages = word / 256 % 65536;
      mark = record {
        kind = kind_of (word % 8);
        bucket = word / 16777216 % 256;
        slot = word / 4294967296 % 256;
        unused = word / 1099511627776 % 65536;
      };
    }

-- the first page of the run that a page belongs to
abbrev pub first_of : ℕ → ℕ → ℕ
first_of page word = if word / 8 % 2 == 1 then page else page - word / 256

abbrev pub run_of_page : List ℕ → ℕ → Run
run_of_page words page = let first = first_of page (slice_index words page) in run_of first (slice_index words first)

-- The words from a page on, read upwards by page count; skip pages belong to the run before.
abbrev pub read : ℕ → ℕ → List ℕ → List Run
read page skip [] = []
read page (suc skip) (word ∷ words) = read (suc page) skip words
read page zero (word ∷ words) = run_of page word ∷ read (suc page) ((run_of page word).pages - 1) words

-- the runs from a page on, at which one begins
abbrev pub runs_from : List ℕ → ℕ → List Run
runs_from words page = read page 0 (drop page words)

-- all runs, each header page one of its own
abbrev pub runs_of : List ℕ → List Run
runs_of words = runs_from words 0

---- .. and written

-- the words of the n pages of a run from its page k on
abbrev pub later_words : Mark → ℕ → ℕ → List ℕ
later_words m k zero = []
later_words m k (suc n) = later_word k m ∷ later_words m (k + 1) n

-- the words of a run; a header page has the word 0
abbrev pub words_of : Run → List ℕ
words_of r = if is_kind r.mark.kind kinds.Header then 0 ∷ [] else first_word r.pages r.mark ∷ later_words r.mark 1 (r.pages - 1)

-- the words of runs that follow each other from page 0 on
abbrev pub encoding : List Run → List ℕ
encoding [] = []
encoding (r ∷ rs) = words_of r ++ encoding rs
