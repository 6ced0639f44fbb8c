-- What the pages of each kind of run are marked as.
use Rattle.std.specs.Prelude.{ℕ}
use Rattle.heap_model.specs.declared.Kind.TheVariants as kinds
use Rattle.heap_model.specs.declared.Mark.{Mark}

abbrev pub header_mark : Mark
header_mark = record { kind = kinds.Header; bucket = 0; slot = 0; unused = 0 }

abbrev pub free_mark : Mark
free_mark = record { kind = kinds.Free; bucket = 0; slot = 0; unused = 0 }

abbrev pub vs_mark : Mark
vs_mark = record { kind = kinds.Vs; bucket = 0; slot = 0; unused = 0 }

-- a subsegment of a bucket and a slot
abbrev pub lfh_mark : ℕ → ℕ → Mark
lfh_mark bucket slot = record { kind = kinds.Lfh; bucket = bucket; slot = slot; unused = 0 }

-- a block of the back end that leaves so many bytes of its pages
abbrev pub back_mark : ℕ → Mark
back_mark unused = record { kind = kinds.Back; bucket = 0; slot = 0; unused = unused }
