-- What is read of a word that was written.
use Rattle.std.proofs.Common.{◌≡◌, ℕ, ◌+◌, ◌*◌, ◌/◌, ◌%◌, ◌<◌, false, refl, arith, eqb, ne_eqb}
use Rattle.heap_model.specs.declared.Kind.{Kind}
use Rattle.heap_model.specs.declared.Kind.TheVariants as kinds
use Rattle.heap_model.specs.declared.Mark.{Mark}
use Rattle.heap_model.specs.State.{kind_number}
use Rattle.page_ranges.specs.Words.{kind_of, first_word, later_word, run_of, first_of}
use Rattle.page_ranges.specs.Ranges.{HasRoom}

pub kind_small : (k : Kind) → kind_number k < 5
kind_small kinds.Header = omega arith
kind_small kinds.Free = omega arith
kind_small kinds.Vs = omega arith
kind_small kinds.Lfh = omega arith
kind_small kinds.Back = omega arith

pub kind_of_number : (k : Kind) → kind_of (kind_number k) ≡ k
kind_of_number kinds.Header = refl
kind_of_number kinds.Free = refl
kind_of_number kinds.Vs = refl
kind_of_number kinds.Lfh = refl
kind_of_number kinds.Back = refl

-- the fields of a word
module _ (k p b s u : ℕ) (hk : k < 5) (hp : p < 65536) (hb : b < 256) (hs : s < 256) (hu : u < 65536) where
  field_kind : (k + 8 + 256 * p + 16777216 * b + 4294967296 * s + 1099511627776 * u) % 8 ≡ k
  field_kind = omega arith

  field_first : (k + 8 + 256 * p + 16777216 * b + 4294967296 * s + 1099511627776 * u) / 8 % 2 ≡ 1
  field_first = omega arith

  field_pages : (k + 8 + 256 * p + 16777216 * b + 4294967296 * s + 1099511627776 * u) / 256 % 65536 ≡ p
  field_pages = omega arith

  field_bucket : (k + 8 + 256 * p + 16777216 * b + 4294967296 * s + 1099511627776 * u) / 16777216 % 256 ≡ b
  field_bucket = omega arith

  field_slot : (k + 8 + 256 * p + 16777216 * b + 4294967296 * s + 1099511627776 * u) / 4294967296 % 256 ≡ s
  field_slot = omega arith

  field_unused : (k + 8 + 256 * p + 16777216 * b + 4294967296 * s + 1099511627776 * u) / 1099511627776 % 65536 ≡ u
  field_unused = omega arith

pub run_of_word : (first pages : ℕ) (m : Mark) → HasRoom m → pages < 65536 → run_of first (first_word pages m) ≡ record { first = first; pages = pages; mark = m }
run_of_word first pages m i l =
    let k = kind_number m.kind in
    let hk = kind_small m.kind in
    let not_zero : eqb (first_word pages m) 0 ≡ false = ne_eqb (first_word pages m) 0 (λ e. omega arith) in
    rw (
      not_zero,
      field_kind k pages m.bucket m.slot m.unused hk l i.bucket i.slot i.unused,
      field_pages k pages m.bucket m.slot m.unused hk l i.bucket i.slot i.unused,
      field_bucket k pages m.bucket m.slot m.unused hk l i.bucket i.slot i.unused,
      field_slot k pages m.bucket m.slot m.unused hk l i.bucket i.slot i.unused,
      field_unused k pages m.bucket m.slot m.unused hk l i.bucket i.slot i.unused,
      kind_of_number m.kind,
    )

pub first_of_first : (page pages : ℕ) (m : Mark) → HasRoom m → pages < 65536 → first_of page (first_word pages m) ≡ page
first_of_first page pages m i l =
    let e = field_first (kind_number m.kind) pages m.bucket m.slot m.unused (kind_small m.kind) l i.bucket i.slot i.unused in rw e refl

pub first_of_later : (first k : ℕ) (m : Mark) → first_of (first + k) (later_word k m) ≡ first
first_of_later first k m =
    let h = kind_small m.kind in
    let a : (kind_number m.kind + 256 * k) / 8 % 2 ≡ 0 = omega arith in
    let b : (kind_number m.kind + 256 * k) / 256 ≡ k = omega arith in
    rw (a, b) (omega arith)

pub first_of_zero : (page : ℕ) → first_of page 0 ≡ page
first_of_zero page = omega arith

pub first_is_first : (pages : ℕ) (m : Mark) → HasRoom m → pages < 65536 → first_word pages m / 8 % 2 ≡ 1
first_is_first pages m i l = field_first (kind_number m.kind) pages m.bucket m.slot m.unused (kind_small m.kind) l i.bucket i.slot i.unused

pub later_distance : (k : ℕ) (m : Mark) → later_word k m / 256 ≡ k
later_distance k m = let h = kind_small m.kind in omega arith
