use Rattle.name_values.specs.Table.{value_in}
use Rattle.name_values.proofs.Tables.{more_put}
use Rattle.name_values.proofs.table.put_all.Goals as goal

pub loop-new-preserved : goal.loop-new-preserved
loop-new-preserved c = λ name.
    more_put c.args.news.now c.loop-new.new-index (record { name = 0; value = 0 }) name (value_in c.args.values.now.items name) (value_in c.loop-new.values.items name)
    (value_in c.put_in.new.values.items name) c.loop-new-test.true (c.loop-new.invariant name) (c.in_ok-put_in.ensures name)
