-- Header words: their fields, how they are encoded, and the key of a heap.
use Rattle.std.specs.Prelude.{ℕ, ◌+◌, ◌*◌, ◌/◌, ◌%◌, ◌^◌, ◌<◌, ◌==◌, nat_lt, Option, Some, None, if◌then◌else◌, bit_xor}
use Rattle.vs_headers.specs.declared.Head.{Head}

-- a head whose fields have their widths
pub record IsHead (h : Head) : Type 0 where
  pub units : h.units < 2 ^ 16
  pub prev : h.prev < 2 ^ 16
  pub unused : h.unused < 2 ^ 8

-- a header word before it is encoded: units from bit 0 on, those of the chunk before from bit 16 on, unused bytes from
-- bit 32 on, and bit 40 for a place
abbrev pub plain_word : Head → ℕ
plain_word h = h.units + h.prev * 2 ^ 16 + h.unused * 2 ^ 32 + (if h.busy then 1 else 0) * 2 ^ 40

-- the word with the key and the address of the chunk; twice, it is the word again
abbrev pub masked : ℕ → ℕ → ℕ → ℕ
masked word key addr = bit_xor (bit_xor word key) addr

abbrev pub encoded : Head → ℕ → ℕ → ℕ
encoded h key addr = masked (plain_word h) key addr

-- n bits of a word, from bit low on
abbrev pub field : ℕ → ℕ → ℕ → ℕ
field word low n = word / 2 ^ low % 2 ^ n

abbrev pub fields_of : ℕ → Head
fields_of plain = record {
  units = field plain 0 16;
  prev = field plain 16 16;
  unused = field plain 32 8;
  busy = field plain 40 1 == 1;
}

-- none where a bit from 41 on is set
abbrev pub decoded : ℕ → ℕ → ℕ → Option Head
decoded word key addr = let plain = masked word key addr in if nat_lt plain (2 ^ 41) then Some (fields_of plain) else None

-- the key of a heap with this seed
abbrev pub key_of : ℕ → ℕ
key_of seed = bit_xor seed 0x9e3779b97f4a7c15
