use Rattle.std.proofs.Common.{◌∙◌}
use Rattle.search_laws.proofs.Blocks.{bucket_fits}
use Rattle.small_calls.proofs.Found.{is_bucket}
use Rattle.small_calls.proofs.BackSearch.{one_there, out_there, paid_there, served_under}
use Rattle.small_calls.proofs.back_search.serve_under_back.Goals as goal

pub search_under_back-requires-clause-whole : goal.search_under_back-requires-clause-whole
search_under_back-requires-clause-whole c = c.requires.searches.1.whole

pub search_under_back-requires-clause-inside : goal.search_under_back-requires-clause-inside
search_under_back-requires-clause-inside c = c.requires.searches.1.inside

pub search_under_back-requires-clause-slot : goal.search_under_back-requires-clause-slot
search_under_back-requires-clause-slot c = c.requires.searches.1.slot

pub search_under_back-requires-clause-settled : goal.search_under_back-requires-clause-settled
search_under_back-requires-clause-settled c = (c.requires.searches.1.pending, c.requires.searches.1.prepared)

pub search_under_back-requires-clause-under : goal.search_under_back-requires-clause-under
search_under_back-requires-clause-under c = (c.requires.searches.1.search, c.requires.searches.1.under)

pub search_under_back-requires-clause-first : goal.search_under_back-requires-clause-first
search_under_back-requires-clause-first c = c.requires.searches.1.first

pub hand_over_under_back-requires-clause-table : goal.hand_over_under_back-requires-clause-table
hand_over_under_back-requires-clause-table c = let x = c.in-Claimed.ensures in (x.does.table ∙ c.requires.table.0, x.does.opening ∙ c.requires.table.1)

pub hand_over_under_back-requires-clause-size : goal.hand_over_under_back-requires-clause-size
hand_over_under_back-requires-clause-size c = (bucket_fits c.args.n c.args.course.now.bucket c.requires.bucket).0

pub hand_over_under_back-requires-clause-one : goal.hand_over_under_back-requires-clause-one
hand_over_under_back-requires-clause-one c =
    let y = c.requires.searches in let b = c.args.course.now.bucket in (
      b,
      is_bucket c.args.n b c.requires.bucket,
      (bucket_fits c.args.n b c.requires.bucket).1,
      one_there c.args.c.now c.search_under_back.new.c c.args.back c.search_under_back.new.back c.args.course.now c.args.lost c.args.n c.in-Claimed.addr c.args.zero y.0 y.1 c.check.ensures.stands c.in-Claimed.ensures,
    )

pub hand_over_under_back-requires-clause-lock : goal.hand_over_under_back-requires-clause-lock
hand_over_under_back-requires-clause-lock c =
    let y = c.requires.searches in
    (y.0, out_there c.args.c.now c.search_under_back.new.c c.args.back c.search_under_back.new.back c.args.course.now c.args.lost c.args.n c.in-Claimed.addr c.args.zero y.0 y.1 c.check.ensures.stands c.in-Claimed.ensures, y.1.only)

pub hand_over_under_back-requires-clause-paid : goal.hand_over_under_back-requires-clause-paid
hand_over_under_back-requires-clause-paid c =
    let y = c.requires.searches in
    paid_there c.args.c.now c.search_under_back.new.c c.args.back c.search_under_back.new.back c.args.course.now c.args.lost c.args.n c.in-Claimed.addr c.args.zero y.0 y.1 c.check.ensures.stands c.in-Claimed.ensures

pub hand_over_under_back-requires-clause-back : goal.hand_over_under_back-requires-clause-back
hand_over_under_back-requires-clause-back c = c.in-Claimed.ensures.back_is

pub returns-in-Claimed : goal.returns-in-Claimed
returns-in-Claimed c more x =
    served_under c.args.c.now c.search_under_back.new.c c.args.back c.search_under_back.new.back c.args.course.now c.args.lost c.args.n c.in-Claimed.addr c.args.zero more x c.check.ensures.stands c.in-Claimed.ensures c.hand_over_under_back.new.c
    (c.hand_over_under_back.ensures more (out_there c.args.c.now c.search_under_back.new.c c.args.back c.search_under_back.new.back c.args.course.now c.args.lost c.args.n c.in-Claimed.addr c.args.zero more x c.check.ensures.stands c.in-Claimed.ensures))

pub returns-in-NoRoom : goal.returns-in-NoRoom
returns-in-NoRoom c more x = c.in-NoRoom.ensures
