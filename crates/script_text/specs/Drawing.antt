-- What is kept while commands are drawn.
use Rattle.std.specs.Prelude.{◌≡◌, ℕ, ◌*◌, ◌<◌, false, length, Some, None, slice_index_or, if◌then◌else◌}
use Rattle.script_text.specs.declared.generating.Known.{Known}
use Rattle.script_text.specs.declared.generating.Drawing.{Drawing}
use Rattle.script_text.specs.Names.{is_among, different, number_of_name}
use Rattle.script_text.specs.Generator.{generator, name_text, names_drawn, drawn, is_held}

-- what there is to know of a name behind the first k commands
abbrev pub known : ℕ → ℕ → ℕ → Known
known seed k name = record {
  number = if is_among (names_drawn seed k) (name_text name) then Some (number_of_name (names_drawn seed k) (name_text name)) else None;
  held = is_held (drawn seed k) name;
}

-- what there is to know of a name that has not stood
abbrev pub unknown : Known
unknown = record { number = None; held = false }

-- the first k commands of a seed were drawn
pub record HasDrawn (d : Drawing) (seed k : ℕ) : Type 0 where
  pub generator : d.generator ≡ generator seed (2 * k)
  pub room : length d.names ≡ 256
  pub names : (name : ℕ) → name < 256 → slice_index_or d.names name unknown ≡ known seed k name
  pub used : d.used ≡ different (names_drawn seed k)
