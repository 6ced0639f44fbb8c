-- The command that clap reads the words with: options with long names, whose values are texts.
use Rattle.std.specs.Prelude.{true, List, [], ◌∷◌, Some, None, map, codes}
use Rattle.clap.specs.Walk.{Row, Rule, Text}
use Rattle.clap.specs.declared.builder.value_parser.Reading.TheVariants as reading
use Rattle.clap.specs.declared.parser.matches.ValueSource.TheVariants.{CommandLine}
use Rattle.command_words.specs.Options.{Given}
use Rattle.clap.specs.Simple.{App, new_app, new_rule, with_rule, on_top}
use Rattle.command_words.specs.Settings.{names}

abbrev pub given_rule : Text → Rule
given_rule name = record (new_rule name) { long = Some name }

abbrev pub bare_app : App
bare_app = on_top (λ s. record s { no_binary_name = true; disable_help_flag = true }) (new_app (codes "hirvanto"))

abbrev pub with_options : App → List Text → App
with_options a [] = a
with_options a (n ∷ ns) = with_options (with_rule a (given_rule n)) ns

abbrev pub app : App
app = with_options bare_app names

-- what clap finds of options that were given
abbrev pub row_given : Given → Row
row_given g = record { id = g.name; values = g.value ∷ []; count = None; source = Some CommandLine; reading = reading.AsWritten }

abbrev pub rows_given : List Given → List Row
rows_given gs = map row_given gs
