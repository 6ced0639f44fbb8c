use Rattle.run_ending.proofs.ending.deliver.Goals as goal

pub returns-in-Usage : goal.returns-in-Usage
returns-in-Usage g c = rw c.in-Usage.is c.write_all-in-Usage.ensures

pub returns-in-Unread : goal.returns-in-Unread
returns-in-Unread g c = rw c.in-Unread.is c.write_all-in-Unread.ensures
