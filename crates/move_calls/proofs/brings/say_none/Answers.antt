use Rattle.std.proofs.Common.{[], ◌∷◌, length, ap, sym, subst, arith}
use Rattle.heap_model.specs.declared.Act.TheVariants as acts
use Rattle.heap_gate.specs.Token.{Token, IsStanding}
use Rattle.call_parts.specs.Entries.{HasEnded}
use Rattle.lfh_claims.specs.declared.tag.Tag.{Tag}
use Rattle.move_taken.specs.Holds.{HasTakenBlock}
use Rattle.move_taken.specs.Moved.{IsGivenBack}
use Rattle.move_calls.proofs.Brought.{come_to_none}
use Rattle.move_calls.proofs.Carrying.{still_none}
use Rattle.move_calls.proofs.brings.say_none.Goals as goal

pub prepare-requires-clause-room : goal.prepare-requires-clause-room
prepare-requires-clause-room c = let e = ap length c.requires.bringing.4.holds.prepared in omega (arith, e)

pub prepare-requires-clause-may : goal.prepare-requires-clause-may
prepare-requires-clause-may c = c.requires.may

pub give_taken_back-requires-clause-block : goal.give_taken_back-requires-clause-block
give_taken_back-requires-clause-block c =
    let z = c.requires.bringing in let k = c.args.c.now in
    subst (λ (t : Token). (tag : Tag) × HasTakenBlock t tag c.args.addr c.args.size) (sym c.prepare.ensures) (z.1, c.said_keeps.ensures k z.1 c.args.addr c.args.size c.args.n z.4.holds.block)

pub returns-clause-brought : goal.returns-clause-brought
returns-clause-brought c = λ first tag flags out v.
    let k = c.args.c.now in let d = c.give_taken_back.new.c in
    come_to_none first k d tag c.args.addr c.args.size c.args.n flags out v (subst (λ (t : Token). HasEnded t d (acts.Give c.args.addr c.args.size ∷ []) t.out) c.prepare.ensures c.give_taken_back.ensures.ended) c.check-3.ensures.legal

pub returns-clause-still : goal.returns-clause-still
returns-clause-still c =
    let k = c.args.c.now in let d = c.give_taken_back.new.c in
    still_none k d c.args.addr c.args.size c.args.n (subst (λ (t : Token). IsGivenBack t d c.args.addr c.args.size) c.prepare.ensures c.give_taken_back.ensures) (subst IsStanding c.prepare.ensures c.check-2.ensures.stands)
