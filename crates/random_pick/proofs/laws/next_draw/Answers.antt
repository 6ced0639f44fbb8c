-- Each draw is a step of the generator.
use Rattle.random_pick.proofs.DrawLemmas.{next_draw_is}
use Rattle.random_pick.proofs.laws.next_draw.Goals as goal

pub returns : goal.returns
returns c = next_draw_is
