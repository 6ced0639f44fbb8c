use Rattle.run_ending.proofs.Endings as endings
use Rattle.mode_run.proofs.Ends as ends
use Rattle.mode_run.proofs.run_threads.Goals as goal

pub returns-clause-headline : goal.returns-clause-headline
returns-clause-headline g c = ends.headline _ _ _ _ _ _ _ _ _ _ _ c.end_threads.result.status c.end_threads.ensures

pub returns-clause-refused : goal.returns-clause-refused
returns-clause-refused g c = ends.refused _ _ _ _ _ _ _ _ _ _ _ c.end_threads.result.status c.end_threads.ensures

pub returns-clause-unread : goal.returns-clause-unread
returns-clause-unread g c = ends.unread _ _ _ _ _ _ _ _ _ _ _ c.end_threads.result.status c.end_threads.ensures

pub returns-clause-unwritten : goal.returns-clause-unwritten
returns-clause-unwritten g c = endings.unwritten _ _ _ _ _ _ _ _ _ _ c.end_threads.result.status c.end_threads.ensures

pub returns-clause-refused_only : goal.returns-clause-refused_only
returns-clause-refused_only g c = ends.refused_only _ _ _ _ _ _ _ _ _ _ _ c.end_threads.result.status c.end_threads.ensures

pub returns-clause-complete : goal.returns-clause-complete
returns-clause-complete g c = ends.complete _ _ _ _ _ _ _ _ _ _ _ c.end_threads.result.status c.end_threads.ensures

pub returns-clause-few : goal.returns-clause-few
returns-clause-few g c = ends.reads_few _ _ _ _ _ _ _ _ _ _ _ c.end_threads.result.status c.end_threads.ensures

pub returns-clause-no_write_failed : goal.returns-clause-no_write_failed
returns-clause-no_write_failed g c = endings.no_write_failed _ _ _ _ _ _ _ _ _ _ c.end_threads.result.status c.end_threads.ensures

pub returns-clause-no_read_failed : goal.returns-clause-no_read_failed
returns-clause-no_read_failed g c = ends.no_read_failed _ _ _ _ _ _ _ _ _ _ _ c.end_threads.result.status c.end_threads.ensures

pub returns-clause-statuses : goal.returns-clause-statuses
returns-clause-statuses g c = endings.statuses _ _ _ _ _ _ _ _ _ _ c.end_threads.result.status c.end_threads.ensures
