use Rattle.run_ending.proofs.Endings as endings
use Rattle.mode_run.proofs.Ends as threads
use Rattle.command_run.proofs.TopLemmas as all
use Rattle.command_run.proofs.top.run.Goals as goal

pub returns-clause-headline : goal.returns-clause-headline
returns-clause-headline g c = λ setting x.
    threads.headline _ _ _ _ _ _ _ _ _ _ _ c.run_in_mode.result.status (all.threads_only _ _ _ _ _ _ _ _ _ _ c.run_in_mode.result.status setting x c.run_in_mode.ensures)

pub returns-clause-refused : goal.returns-clause-refused
returns-clause-refused g c = λ setting x.
    threads.refused _ _ _ _ _ _ _ _ _ _ _ c.run_in_mode.result.status (all.threads_only _ _ _ _ _ _ _ _ _ _ c.run_in_mode.result.status setting x c.run_in_mode.ensures)

pub returns-clause-unread : goal.returns-clause-unread
returns-clause-unread g c = λ setting x.
    threads.unread _ _ _ _ _ _ _ _ _ _ _ c.run_in_mode.result.status (all.threads_only _ _ _ _ _ _ _ _ _ _ c.run_in_mode.result.status setting x c.run_in_mode.ensures)

pub returns-clause-refused_only : goal.returns-clause-refused_only
returns-clause-refused_only g c = λ setting x.
    threads.refused_only _ _ _ _ _ _ _ _ _ _ _ c.run_in_mode.result.status (all.threads_only _ _ _ _ _ _ _ _ _ _ c.run_in_mode.result.status setting x c.run_in_mode.ensures)

pub returns-clause-complete : goal.returns-clause-complete
returns-clause-complete g c = λ setting x.
    threads.complete _ _ _ _ _ _ _ _ _ _ _ c.run_in_mode.result.status (all.threads_only _ _ _ _ _ _ _ _ _ _ c.run_in_mode.result.status setting x c.run_in_mode.ensures)

pub returns-clause-alone : goal.returns-clause-alone
returns-clause-alone g c = λ setting x. all.alone_only _ _ _ _ _ _ _ _ _ _ c.run_in_mode.result.status setting x c.run_in_mode.ensures

pub returns-clause-usage : goal.returns-clause-usage
returns-clause-usage g c = all.usage _ _ _ _ _ _ _ _ _ _ c.run_in_mode.result.status c.run_in_mode.ensures

pub returns-clause-usage_only : goal.returns-clause-usage_only
returns-clause-usage_only g c = all.usage_only _ _ _ _ _ _ _ _ _ _ c.run_in_mode.result.status c.run_in_mode.ensures

pub returns-clause-unwritten : goal.returns-clause-unwritten
returns-clause-unwritten g c = endings.unwritten _ _ _ _ _ _ _ _ _ _ c.run_in_mode.result.status c.run_in_mode.ensures

pub returns-clause-few : goal.returns-clause-few
returns-clause-few g c = all.reads_few _ _ _ _ _ _ _ _ _ _ c.run_in_mode.result.status c.run_in_mode.ensures

pub returns-clause-no_write_failed : goal.returns-clause-no_write_failed
returns-clause-no_write_failed g c = endings.no_write_failed _ _ _ _ _ _ _ _ _ _ c.run_in_mode.result.status c.run_in_mode.ensures

pub returns-clause-no_read_failed : goal.returns-clause-no_read_failed
returns-clause-no_read_failed g c = all.no_read_failed _ _ _ _ _ _ _ _ _ _ c.run_in_mode.result.status c.run_in_mode.ensures

pub returns-clause-statuses : goal.returns-clause-statuses
returns-clause-statuses g c = endings.statuses _ _ _ _ _ _ _ _ _ _ c.run_in_mode.result.status c.run_in_mode.ensures
