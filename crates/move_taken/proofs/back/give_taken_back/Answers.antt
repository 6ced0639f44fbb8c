use Rattle.std.proofs.Common.{sym, subst}
use Rattle.heap_gate.specs.Token.{Token}
use Rattle.move_taken.specs.Moved.{IsGivenBack}
use Rattle.move_taken.proofs.GivenBack.{there, may_publish, rests, given_back}
use Rattle.move_taken.proofs.back.give_taken_back.Goals as goal

pub publish-requires-clause-there : goal.publish-requires-clause-there
publish-requires-clause-there c = let h = c.requires.block in there c.args.c.now h.0 c.args.addr c.args.size h.1 c.check.ensures.stands

pub publish-requires-clause-may : goal.publish-requires-clause-may
publish-requires-clause-may c = let h = c.requires.block in may_publish c.args.c.now h.0 c.args.addr c.args.size h.1 c.check.ensures.stands

pub rest-requires : goal.rest-requires
rest-requires c =
    let h = c.requires.block in
    record { rests = rests c.args.c.now h.0 c.args.addr c.args.size h.1 c.check.ensures.stands c.publish.new.c c.publish.ensures c.check-2.ensures.stands }

pub returns : goal.returns
returns c =
    let h = c.requires.block in
    subst (λ (t : Token). IsGivenBack c.args.c.now t c.args.addr c.args.size) (sym c.rest.ensures) (given_back c.args.c.now h.0 c.args.addr c.args.size h.1 c.check.ensures.stands c.publish.new.c c.publish.ensures)
