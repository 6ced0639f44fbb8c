-- The generator stands before draw 0, and then before draw 1.
use Rattle.std.proofs.Common.{◌∙◌}
use Rattle.random_pick.specs.CallerDraws.{words_of}
use Rattle.random_pick.proofs.DrawLemmas.{is_made, next_draw_is}
use Rattle.random_pick.proofs.tests.first_two.Goals as goal

pub returns-clause-first : goal.returns-clause-first
returns-clause-first c = λ s c' e f.
    let made = is_made s c' c.args.seed c.args.stream c.new-draws.result e f (c.new-draws.ensures ∙ c.new.ensures) in
    (next_draw_is s c' 0 c.draw-first.result.value (words_of c.new-draws.result) (words_of c.draw-first.new.self) made c.draw-first.ensures).value_is

pub returns-clause-second : goal.returns-clause-second
returns-clause-second c = λ s c' e f.
    let made = is_made s c' c.args.seed c.args.stream c.new-draws.result e f (c.new-draws.ensures ∙ c.new.ensures) in
    let first = next_draw_is s c' 0 c.draw-first.result.value (words_of c.new-draws.result) (words_of c.draw-first.new.self) made c.draw-first.ensures in
    (next_draw_is s c' 1 c.draw-second.result.value (words_of c.draw-first.new.self) (words_of c.draw-second.new.self) first.next c.draw-second.ensures).value_is
