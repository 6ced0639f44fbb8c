-- Words that clap takes are options, and words that it refuses are none.
use Rattle.std.proofs.Common.{◌≡◌, ◌∙◌, List, ℕ, map, true, string_bytes}
use Rattle.std.specs.List.{list_all}
use Rattle.std.proofs.lemmas.List.Folds.{list_all-map}
use Rattle.command_words.specs.Options.{is_ready}
use Rattle.command_words.proofs.ParseLemmas.{parse_reads, refused_none}
use Rattle.command_words.proofs.parsing.values_in.Goals as goal

pub returns-in-Ok-clause-told : goal.returns-in-Ok-clause-told
returns-in-Ok-clause-told c =
    let words : List (List ℕ) = map string_bytes c.args.words.now in
    let ready : list_all is_ready words ≡ true = list_all-map is_ready string_bytes c.args.words.now ∙ c.requires in
    let read = parse_reads words ready c.in-Ok.ensures.faults in
    (read.0, read.1, c.told.ensures read.0 (c.in-Ok.ensures.matches ∙ read.2))

pub returns : goal.returns
returns c = record {
  told = tt;
  none = λ given options. refused_none (map string_bytes c.args.words.now) given c.in-Err.error c.in-Err.ensures.faults (λ memory. c.in_default.not-OutOfMemory (c.kind.ensures ∙ memory)) options;
}
