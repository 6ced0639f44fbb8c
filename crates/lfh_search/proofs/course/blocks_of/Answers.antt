use Rattle.std.proofs.Common.{ℕ, ◌-◌, ◌∙◌, ap}
use Rattle.std.specs.Prelude.{slice_index}
use Rattle.lfh_search.specs.declared.course.TheConstants.{COUNTS}
use Rattle.lfh_search.proofs.Counts.{counts_are}
use Rattle.lfh_search.proofs.course.blocks_of.Goals as goal

pub returns : goal.returns
returns c = c.from-2.ensures ∙ (ap (λ (x : ℕ). slice_index COUNTS (x - 1)) c.from.ensures ∙ counts_are c.args.bucket c.requires)
