use Rattle.std.proofs.Common.{[], refl}
use Rattle.backend_fit.proofs.Told.{spans_used}
use Rattle.heap_gate.specs.Token.{now}
use Rattle.address_calls.proofs.States.{given_tells, given_serving, gone_out, front_out}
use Rattle.address_calls.proofs.States.{both_added}
use Rattle.address_calls.proofs.look.go_out.Goals as goal

pub give_back-requires-clause-tells : goal.give_back-requires-clause-tells
give_back-requires-clause-tells c = λ s q. let t = c.requires.both.holds.tells_back s q in (spans_used c.args.c.now.opening (now s c.args.c.now).state c.args.back t, t)

pub give_vs-requires-clause-lock : goal.give_vs-requires-clause-lock
give_vs-requires-clause-lock c =
    let a = c.args.c.now in
    let v = given_serving a c.args.vs c.args.back c.requires.both c.check.ensures.stands c.give_back.new.c c.give_back.ensures in
    ([], v.out_is, refl)

pub give_vs-requires-clause-tells : goal.give_vs-requires-clause-tells
give_vs-requires-clause-tells c = given_tells c.args.c.now c.args.vs c.args.back c.requires.both c.check.ensures.stands c.give_back.new.c c.give_back.ensures

pub returns-clause-looks : goal.returns-clause-looks
returns-clause-looks c = gone_out c.args.c.now c.args.vs c.args.back c.requires.both c.check.ensures.stands c.give_back.new.c c.give_back.ensures c.give_vs.new.c c.give_vs.ensures

pub returns-clause-front : goal.returns-clause-front
returns-clause-front c =
    front_out c.args.c.now c.args.vs c.args.back c.requires.both c.check.ensures.stands c.give_back.new.c c.give_back.ensures c.give_vs.new.c c.give_vs.ensures c.check-2.ensures.stands c.check-3.ensures.stands c.args.addr c.args.tag c.requires.below c.requires.bucket
    c.requires.may

pub returns-clause-added : goal.returns-clause-added
returns-clause-added c = both_added c.args.c.now c.args.vs c.args.back c.requires.both c.check.ensures.stands c.give_back.new.c c.give_back.ensures c.give_vs.new.c c.give_vs.ensures
