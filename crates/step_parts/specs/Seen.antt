-- Subsegments that a caller has seen in its stay, and what a tag tells of one.
use Rattle.std.specs.Prelude.{◌≡◌, ℕ, ◌/◌, ◌%◌, ◌<◌, ◌≤◌, true}
use Rattle.heap_model.specs.State.{Span}
use Rattle.heap_model.specs.Backend.{in_span}
use Rattle.heap_model.specs.CallState.{Configuration}
use Rattle.heap_soundness.specs.Sound.{IsOneOf}
use Rattle.claim_rule.specs.Shown.{lfh_spans, tag_of}

-- a subsegment of this bucket and this slot begins there
pub record IsSeen (m : Configuration) (head b t : ℕ) : Type 0 where
  pub span : Span
  pub there : IsOneOf span (lfh_spans m.state.back.area)
  pub begins : span.first ≡ head
  pub bucket : span.bucket ≡ b
  pub slot : span.slot ≡ t

-- the parts of a tag: the bucket, the slot and the first page of the subsegment
abbrev pub bucket_of_tag : ℕ → ℕ
bucket_of_tag word = word / 256 % 256

abbrev pub slot_of_tag : ℕ → ℕ
slot_of_tag word = word / 65536 % 65536

abbrev pub first_of_tag : ℕ → ℕ
first_of_tag word = word / 4294967296

-- the subsegment whose tag this word is has the page
pub record IsTagged (m : Configuration) (page word : ℕ) : Type 0 where
  pub span : Span
  pub there : IsOneOf span (lfh_spans m.state.back.area)
  pub has_page : in_span page span ≡ true
  pub tag : word ≡ tag_of span
  pub bucket : (1 ≤ span.bucket) × (span.bucket ≤ 128)
  pub slot : span.slot < 16
