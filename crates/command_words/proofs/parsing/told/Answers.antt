-- Each value is the text of its row.
use Rattle.std.proofs.Common.{◌≡◌, ◌∙◌, List, ℕ, ap, codes}
use Rattle.clap.specs.Walk.{Row, first_of}
use Rattle.clap.specs.Words.{found_of, first_value}
use Rattle.clap.proofs.WalkLemmas.{first_value-rows}
use Rattle.command_words.specs.Options.{text_of}
use Rattle.command_words.proofs.ParseLemmas.{row_text}
use Rattle.command_words.proofs.parsing.told.Goals as goal

pub returns : goal.returns
returns c given rows =
    let text : (name : List ℕ) → first_value (found_of c.args.matches.now) name ≡ text_of given name =
    λ name. first_value-rows (found_of c.args.matches.now) name ∙ (ap (λ (l : List Row). first_of name l) rows ∙ row_text given name) in
    record {
      mode = c.get_str.ensures ∙ text (codes "mode");
      segments = c.get_str-2.ensures ∙ text (codes "segments");
      large = c.get_str-3.ensures ∙ text (codes "large");
      slots = c.get_str-4.ensures ∙ text (codes "slots");
      seed = c.get_str-5.ensures ∙ text (codes "seed");
      count = c.get_str-6.ensures ∙ text (codes "count");
    }
