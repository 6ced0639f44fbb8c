use Rattle.std.proofs.Common.{sym, subst, ap, ◌∙◌}
use Rattle.heap_gate.specs.Calls.{HasRested, rested}
use Rattle.heap_gate.specs.Token.{Token, Always, now}
use Rattle.move_parts.proofs.Halfway.{swap_may, swap_rest, swap_done}
use Rattle.move_parts.proofs.ends.swap.Goals as goal

pub prepare_all-requires-clause-may : goal.prepare_all-requires-clause-may
prepare_all-requires-clause-may c =
    let h = c.requires.halfway in swap_may c.args.c.now h.0 c.args.addr c.args.size c.args.b c.args.n h.1 h.2 h.3 h.4 c.check.ensures.stands

pub rest-requires : goal.rest-requires
rest-requires c =
    let h = c.requires.halfway in
    record {
      rests = subst (λ (t : Token). Always t (λ s. HasRested (now s t) t.number)) (sym c.prepare_all.ensures)
          (swap_rest c.args.c.now h.0 c.args.addr c.args.size c.args.b c.args.n h.1 h.2 h.3 h.4 c.check.ensures.stands h.5);
    }

pub returns : goal.returns
returns c = λ call p q out h k. swap_done c.args.c.now call c.args.addr c.args.size c.args.b c.args.n p q out h c.check.ensures.stands c.rest.new.c (c.rest.ensures ∙ ap rested c.prepare_all.ensures)
