use Rattle.name_values.proofs.Tables.{learned}
use Rattle.name_values.proofs.table.Names.learn.Goals as goal

pub returns : goal.returns
returns c = λ earlier round t told k.
    learned c.args.self.now (record { values = c.put_all.new.values.items; news = c.clear.new.self.items }) c.args.news.now earlier round t told k (λ name. rw (← c.self.view_is) (c.in_ok-put_all.ensures name)) c.clear.ensures.items
