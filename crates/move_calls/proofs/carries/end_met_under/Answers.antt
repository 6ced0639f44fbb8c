use Rattle.std.proofs.Common.{[], ◌∷◌, refl, ap, ◌∙◌}
use Rattle.heap_model.specs.declared.Act.TheVariants as acts
use Rattle.heap_model.specs.declared.What.TheVariants as whats
use Rattle.claim_rule.specs.Places.{vs_slot}
use Rattle.heap_gate.specs.Token.{is_out}
use Rattle.call_parts.proofs.Tokens.{ended_then}
use Rattle.move_calls.specs.declared.held.Held.TheVariants as helds
use Rattle.move_calls.specs.Holds.{gives_of}
use Rattle.move_calls.proofs.Carrying.{met_rests, still_given, way}
use Rattle.move_calls.proofs.carries.end_met_under.Goals as goal

pub give_taken_back-requires-clause-block : goal.give_taken_back-requires-clause-block
give_taken_back-requires-clause-block c = let z = c.requires.met in (z.1, z.5.holds.block)

pub give_all-requires-clause-table : goal.give_all-requires-clause-table
give_all-requires-clause-table c = c.give_taken_back.ensures.ended.added.goes.table ∙ c.requires.table.0

pub give_all-requires-clause-holding : goal.give_all-requires-clause-holding
give_all-requires-clause-holding c =
    let z = c.requires.met in let k = c.args.c.now in let d = c.give_taken_back.new.c in let x = c.give_taken_back.ensures in
    record {
      resting = met_rests z.0 k d z.1 c.args.addr c.args.size z.2 z.3 (vs_slot ∷ []) z.4 c.args.busy z.5 x.ended;
      tells = (still_given k d c.args.addr c.args.size x c.check.ensures.stands).vs (ap (is_out whats.Vs) z.5.holds.out_is) (ap (is_out whats.Vs) (x.ended.out_is ∙ z.5.holds.out_is)) c.args.vs z.7;
    }

pub returns : goal.returns
returns c = λ first tag n flags what v f.
    let k = c.args.c.now in let d = c.give_taken_back.new.c in let e = c.give_all.new.c in let gives = gives_of (helds.Vs c.args.vs) in let give = acts.Give c.args.addr c.args.size in
    way first k e tag c.args.addr c.args.size n flags (vs_slot ∷ []) what c.args.busy v gives refl refl (ended_then k d e (give ∷ []) gives [] c.give_taken_back.ensures.ended.added c.give_all.ensures) f
