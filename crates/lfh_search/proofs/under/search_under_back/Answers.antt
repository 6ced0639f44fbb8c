use Rattle.std.proofs.Common.{false}
use Rattle.lfh_search.proofs.Entering.{holds_back}
use Rattle.lfh_search.proofs.Making.{served_made, no_pages}
use Rattle.lfh_search.proofs.under.search_under_back.Goals as goal

pub install-requires-clause-back : goal.install-requires-clause-back
install-requires-clause-back g c =
    let p = c.requires.under in
    let x = c.in-Spent.ensures p.0 p.1 in
    x.back_is

pub install-requires-clause-first : goal.install-requires-clause-first
install-requires-clause-first g c =
    let p = c.requires.under in
    let x = c.in-Spent.ensures p.0 p.1 in
    x.says false c.requires.first

pub returns-in-Some : goal.returns-in-Some
returns-in-Some g c =
    let p = c.requires.under in
    let x = c.in-Spent.ensures p.0 p.1 in
    served_made c.args.c.now c.look_under_back.new.c c.args.back.now c.args.course.now p.0 c.args.lost c.in-Spent.lost p.1 x (holds_back c.args.c.now c.check.ensures.stands p.1.out) c.install.new.c c.install.new.back c.in-Some.addr c.in-Some.ensures.made c.install.ensures.back c.requires.course.bucket

pub returns-in-None : goal.returns-in-None
returns-in-None g c =
    let p = c.requires.under in
    let x = c.in-Spent.ensures p.0 p.1 in
    no_pages c.args.c.now c.look_under_back.new.c c.args.back.now c.args.course.now p.0 c.args.lost c.in-Spent.lost p.1 x c.requires.settled.0 c.requires.settled.1 c.requires.whole c.check.ensures.legal c.install.new.back c.in-None.ensures.none c.install.new.c c.in-None.ensures.prepared c.install.ensures.back
