-- How the subsegments of a bucket and a slot show in the descriptor words of pages.
use Rattle.std.specs.Prelude.{ℕ, ◌+◌, ◌*◌}

-- kind, first page of its run, bucket and slot
abbrev pub head_mask : ℕ
head_mask = 1099494850575

-- the first page of a subsegment of this bucket and this slot
abbrev pub head_mark : ℕ → ℕ → ℕ
head_mark b t = 11 + 16777216 * b + 4294967296 * t
