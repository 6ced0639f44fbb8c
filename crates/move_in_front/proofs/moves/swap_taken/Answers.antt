use Rattle.move_in_front.proofs.Swapping.{publish_ok, publish_table, publish_whole, publish_inside, publish_there, clear_ok, clear_table, clear_inside, clear_there, rest_ok, swapped, tells_on}
use Rattle.move_in_front.proofs.moves.swap_taken.Goals as goal

pub move_words-requires-clause-whole : goal.move_words-requires-clause-whole
move_words-requires-clause-whole c = c.requires.two.4.whole

pub move_words-requires-clause-inside : goal.move_words-requires-clause-inside
move_words-requires-clause-inside c = c.requires.two.4.inside

pub move_words-requires-clause-from : goal.move_words-requires-clause-from
move_words-requires-clause-from c = c.requires.two.4.from

pub move_words-requires-clause-to : goal.move_words-requires-clause-to
move_words-requires-clause-to c = c.requires.two.4.to

pub publish-requires-clause-table : goal.publish-requires-clause-table
publish-requires-clause-table c = let h = c.requires.two in let f = c.move_words.ensures in publish_table c.args.c.now h.0 c.args.tag c.args.addr c.args.size h.1 c.args.b c.args.n h.2 h.3 h.4 c.check.ensures.stands c.move_words.new.c c.args.zero f.0 f.2 c.check-2.ensures.stands c.check-2.ensures.legal c.args.heap.now.table c.args.heap.now.opening c.requires.table.0 c.requires.table.1

pub publish-requires-clause-whole : goal.publish-requires-clause-whole
publish-requires-clause-whole c = let h = c.requires.two in let f = c.move_words.ensures in publish_whole c.args.c.now h.0 c.args.tag c.args.addr c.args.size h.1 c.args.b c.args.n h.2 h.3 h.4 c.check.ensures.stands c.move_words.new.c c.args.zero f.0 f.2 c.check-2.ensures.stands c.check-2.ensures.legal

pub publish-requires-clause-inside : goal.publish-requires-clause-inside
publish-requires-clause-inside c = let h = c.requires.two in let f = c.move_words.ensures in publish_inside c.args.c.now h.0 c.args.tag c.args.addr c.args.size h.1 c.args.b c.args.n h.2 h.3 h.4 c.check.ensures.stands c.move_words.new.c c.args.zero f.0 f.2 c.check-2.ensures.stands c.check-2.ensures.legal

pub publish-requires-clause-there : goal.publish-requires-clause-there
publish-requires-clause-there c = let h = c.requires.two in let f = c.move_words.ensures in publish_there c.args.c.now h.0 c.args.tag c.args.addr c.args.size h.1 c.args.b c.args.n h.2 h.3 h.4 c.check.ensures.stands c.move_words.new.c c.args.zero f.0 f.2 c.check-2.ensures.stands c.check-2.ensures.legal

pub publish-requires-clause-size : goal.publish-requires-clause-size
publish-requires-clause-size c = c.requires.two.4.small

pub publish-requires-clause-may : goal.publish-requires-clause-may
publish-requires-clause-may c = let h = c.requires.two in let f = c.move_words.ensures in publish_ok c.args.c.now h.0 c.args.tag c.args.addr c.args.size h.1 c.args.b c.args.n h.2 h.3 h.4 c.check.ensures.stands c.move_words.new.c c.args.zero f.0 f.2 c.check-2.ensures.stands c.check-2.ensures.legal

pub clear-requires-clause-table : goal.clear-requires-clause-table
clear-requires-clause-table c = let h = c.requires.two in let f = c.move_words.ensures in clear_table c.args.c.now h.0 c.args.tag c.args.addr c.args.size h.1 c.args.b c.args.n h.2 h.3 h.4 c.check.ensures.stands c.move_words.new.c c.args.zero f.0 f.2 c.check-2.ensures.stands c.check-2.ensures.legal c.publish.new.c c.publish.ensures c.check-3.ensures.stands c.args.heap.now.table c.args.heap.now.opening c.requires.table.0 c.requires.table.1

pub clear-requires-clause-whole : goal.clear-requires-clause-whole
clear-requires-clause-whole c = c.publish.ensures.stands.whole

pub clear-requires-clause-inside : goal.clear-requires-clause-inside
clear-requires-clause-inside c = let h = c.requires.two in let f = c.move_words.ensures in clear_inside c.args.c.now h.0 c.args.tag c.args.addr c.args.size h.1 c.args.b c.args.n h.2 h.3 h.4 c.check.ensures.stands c.move_words.new.c c.args.zero f.0 f.2 c.check-2.ensures.stands c.check-2.ensures.legal c.publish.new.c c.publish.ensures c.check-3.ensures.stands

pub clear-requires-clause-there : goal.clear-requires-clause-there
clear-requires-clause-there c = let h = c.requires.two in let f = c.move_words.ensures in clear_there c.args.c.now h.0 c.args.tag c.args.addr c.args.size h.1 c.args.b c.args.n h.2 h.3 h.4 c.check.ensures.stands c.move_words.new.c c.args.zero f.0 f.2 c.check-2.ensures.stands c.check-2.ensures.legal c.publish.new.c c.publish.ensures c.check-3.ensures.stands

pub clear-requires-clause-may : goal.clear-requires-clause-may
clear-requires-clause-may c = let h = c.requires.two in let f = c.move_words.ensures in clear_ok c.args.c.now h.0 c.args.tag c.args.addr c.args.size h.1 c.args.b c.args.n h.2 h.3 h.4 c.check.ensures.stands c.move_words.new.c c.args.zero f.0 f.2 c.check-2.ensures.stands c.check-2.ensures.legal c.publish.new.c c.publish.ensures c.check-3.ensures.stands

pub rest-requires : goal.rest-requires
rest-requires c = let h = c.requires.two in let f = c.move_words.ensures in record { rests = rest_ok c.args.c.now h.0 c.args.tag c.args.addr c.args.size h.1 c.args.b c.args.n h.2 h.3 h.4 c.check.ensures.stands c.move_words.new.c c.args.zero f.0 f.2 c.check-2.ensures.stands c.check-2.ensures.legal c.publish.new.c c.publish.ensures c.check-3.ensures.stands c.clear.new.c c.clear.ensures c.check-4.ensures.stands }

pub returns-clause-swapped : goal.returns-clause-swapped
returns-clause-swapped c = λ call p q out h. let f = c.move_words.ensures in swapped c.args.c.now call c.args.tag c.args.addr c.args.size p c.args.b c.args.n q out h c.check.ensures.stands c.move_words.new.c c.args.zero f.0 f.2 c.check-2.ensures.stands c.check-2.ensures.legal c.publish.new.c c.publish.ensures c.check-3.ensures.stands c.clear.new.c c.clear.ensures c.check-4.ensures.stands f.1 c.rest.new.c c.rest.ensures

pub returns-clause-tells : goal.returns-clause-tells
returns-clause-tells c = λ call p q out vs back h vs_out back_out w. let f = c.move_words.ensures in tells_on c.args.c.now call c.args.tag c.args.addr c.args.size p c.args.b c.args.n q out h c.check.ensures.stands c.move_words.new.c c.args.zero f.0 f.2 c.check-2.ensures.stands c.check-2.ensures.legal c.publish.new.c c.publish.ensures c.check-3.ensures.stands c.clear.new.c c.clear.ensures c.check-4.ensures.stands vs_out back_out vs back w c.rest.new.c c.rest.ensures
