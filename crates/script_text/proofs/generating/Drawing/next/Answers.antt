-- A command and what is kept behind it, by its two words.
use Rattle.std.proofs.Common.{ℕ}
use Rattle.script_text.specs.Drawing.{HasDrawn}
use Rattle.script_text.proofs.GeneratorLemmas.{IsStep, AreDraws, two_words, has_drawn, answered}
use Rattle.script_text.proofs.generating.Drawing.next.Goals as goal

draws : (c : goal.After-command_on) (seed k : ℕ) → HasDrawn c.args.self.now seed k → AreDraws seed k c.next_word-a.result c.next_word-b.result c.next_word-b.new.self
draws c seed k has = two_words seed k _ _ _ _ _ has.generator c.next_word-a.ensures c.next_word-b.ensures

step : (c : goal.After-command_on) → IsStep c.args.self.now c.next_word-a.result c.number-number.result c.is_held_behind.result
step c = record { number_is = c.number-number.ensures.number; held_is = c.is_held_behind.ensures }

pub returns-clause-drawn : goal.returns-clause-drawn
returns-clause-drawn c seed k has = has_drawn _ seed k _ _ _ _ _ has (draws c seed k has) (step c) _ c.number-number.ensures.used

pub returns-clause-command : goal.returns-clause-command
returns-clause-command c seed k has = answered _ seed k _ _ _ _ _ has (draws c seed k has) (step c) _ c.command_on.ensures
