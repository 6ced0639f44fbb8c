-- Values as they were given.
use Rattle.std.specs.Prelude.{◌≡◌, ℕ, List, codes, Option, option_map}
use Rattle.std.specs.Borrow.{Bor}
use Rattle.command_words.specs.Options.{Given, text_of}
use Rattle.command_words.specs.declared.setting.Values.{Values}

abbrev pub text_in : Option (Bor (List ℕ)) → Option (List ℕ)
text_in word = option_map (λ s. s.now) word

-- each value is the one that was given, if one was
pub record AreTold (v : Values) (given : List Given) : Type 0 where
  pub mode : text_in v.mode ≡ text_of given (codes "mode")
  pub segments : text_in v.segments ≡ text_of given (codes "segments")
  pub large : text_in v.large ≡ text_of given (codes "large")
  pub slots : text_in v.slots ≡ text_of given (codes "slots")
  pub seed : text_in v.seed ≡ text_of given (codes "seed")
  pub count : text_in v.count ≡ text_of given (codes "count")
