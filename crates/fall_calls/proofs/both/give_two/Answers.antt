use Rattle.std.proofs.Common.{Bool, [], sym, subst}
use Rattle.call_parts.specs.Entries.{HasEnded}
use Rattle.fall_calls.specs.Both.{gives, HasTwo}
use Rattle.fall_calls.proofs.VsFirst.{vs_and_back}
use Rattle.fall_calls.proofs.both.give_two.Goals as goal

pub give_vs_first-requires-clause-two : goal.give_vs_first-requires-clause-two
give_vs_first-requires-clause-two c = subst (HasTwo c.args.c.now c.args.vs c.args.back) c.if-vs_last.true c.requires.two

pub give_both-requires-clause-both : goal.give_both-requires-clause-both
give_both-requires-clause-both c = vs_and_back c.args.c.now c.args.vs c.args.back (subst (HasTwo c.args.c.now c.args.vs c.args.back) c.if-vs_last.false c.requires.two)

pub returns-then-vs_last : goal.returns-then-vs_last
returns-then-vs_last c = subst (λ (b : Bool). HasEnded c.args.c.now c.give_vs_first.new.c (gives b) []) (sym c.if-vs_last.true) c.give_vs_first.ensures

pub returns-else-vs_last : goal.returns-else-vs_last
returns-else-vs_last c = subst (λ (b : Bool). HasEnded c.args.c.now c.give_both.new.c (gives b) []) (sym c.if-vs_last.false) c.give_both.ensures
