use Rattle.std.proofs.Common.{ℕ, ◌-◌, ◌*◌, ◌^◌, ◌∙◌, ap}
use Rattle.std.specs.Prelude.{min}
use Rattle.lfh_search.proofs.course.Course.valid.Goals as goal

pub returns : goal.returns
returns c = c.bits_of.ensures ∙ ap (λ (n : ℕ). 2 ^ (min 64 (n - 64 * c.args.word)) - 1) c.requires.course.blocks
