use Rattle.std.proofs.Common.{sym, ap, subst, ◌∙◌}
use Rattle.heap_gate.specs.Calls.{rested, HasRested}
use Rattle.heap_gate.specs.Token.{Token, Always, now}
use Rattle.vs_calls.proofs.Held.{live_block}
use Rattle.vs_calls.proofs.TakenOut.{both_may, both_rest, taken_out}
use Rattle.vs_calls.proofs.blocks.take_out.Goals as goal

pub prepare_all-requires-clause-may : goal.prepare_all-requires-clause-may
prepare_all-requires-clause-may c =
    let b = live_block c.args.vs.now c.args.addr c.unwrap-size.result (sym c.find.ensures ∙ c.unwrap-size.ensures) in
    both_may c.args.c.now c.args.vs.now c.requires.vs c.check.ensures.stands c.args.addr c.unwrap-size.result b

pub rest-requires : goal.rest-requires
rest-requires c =
    let b = live_block c.args.vs.now c.args.addr c.unwrap-size.result (sym c.find.ensures ∙ c.unwrap-size.ensures) in
    record {
      rests = subst (λ (t : Token). Always t (λ s. HasRested (now s t) t.number)) (sym c.prepare_all.ensures)
          (both_rest c.args.c.now c.args.vs.now c.requires.vs c.check.ensures.stands c.args.addr c.unwrap-size.result b);
    }

pub returns-clause-out : goal.returns-clause-out
returns-clause-out c =
    let b = live_block c.args.vs.now c.args.addr c.unwrap-size.result (sym c.find.ensures ∙ c.unwrap-size.ensures) in
    taken_out c.args.c.now c.args.vs.now c.requires.vs c.check.ensures.stands c.args.addr c.unwrap-size.result b c.rest.new.c (c.rest.ensures ∙ ap rested c.prepare_all.ensures)
