use Rattle.std.proofs.Common.{◌∙◌, [], ap, sym, subst, arith}
use Rattle.heap_gate.specs.Token.{Token}
use Rattle.call_parts.specs.Entries.{HasEnded}
use Rattle.fall_calls.specs.Both.{HasTwo, gives}
use Rattle.fall_calls.proofs.Falling.{none_may, told_two, refused}
use Rattle.fall_calls.proofs.behind.refuse_behind.Goals as goal

pub prepare-requires-clause-room : goal.prepare-requires-clause-room
prepare-requires-clause-room c = let e = c.requires.falls.1.stands.few in omega (arith, e)

pub prepare-requires-clause-may : goal.prepare-requires-clause-may
prepare-requires-clause-may c = none_may c.args.c.now c.args.vs c.args.back c.args.n c.requires.falls.0 c.args.vs_last c.requires.falls.1 c.check.ensures.stands c.requires.no_room

pub give_two-requires-clause-table : goal.give_two-requires-clause-table
give_two-requires-clause-table c = ap (λ (t : Token). t.table) c.prepare.ensures ∙ c.requires.table

pub give_two-requires-clause-two : goal.give_two-requires-clause-two
give_two-requires-clause-two c =
    subst (λ (t : Token). HasTwo t c.args.vs c.args.back c.args.vs_last) (sym c.prepare.ensures) (told_two c.args.c.now c.args.vs c.args.back c.args.n c.requires.falls.0 c.args.vs_last c.requires.falls.1 c.check.ensures.stands)

pub returns : goal.returns
returns c =
    refused c.args.c.now c.args.vs c.args.back c.args.n c.requires.falls.0 c.args.vs_last c.requires.falls.1 c.check.ensures.stands c.give_two.new.c
    (subst (λ (t : Token). HasEnded t c.give_two.new.c (gives c.args.vs_last) []) c.prepare.ensures c.give_two.ensures)
