use Rattle.page_ranges.proofs.Runs.{first_fits}
use Rattle.page_ranges.proofs.run_in.Goals as goal

pub first_page-first-requires : goal.first_page-first-requires
first_page-first-requires c = first_fits c.args.words.now c.args.page c.requires.whole c.requires.inside
