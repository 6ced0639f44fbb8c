use Rattle.std.proofs.Common.{◌*◌, ◌<◌, sym, ap, subst, ◌∙◌}
use Rattle.heap_gate.specs.Token.{Token, IsStanding}
use Rattle.lfh_claims.specs.Blocks.{HasCleared, MayGiveUp}
use Rattle.move_taken.specs.Moved.{EndsTaken}
use Rattle.move_taken.proofs.Ending.{room, give_may, may_give_up, rests, ends}
use Rattle.move_taken.proofs.moves.end_taken.Goals as goal

pub prepare-requires-clause-room : goal.prepare-requires-clause-room
prepare-requires-clause-room c = let h = c.requires.ends in room c.args.c.now c.args.tag c.args.addr c.args.b c.args.n h.0 h.1 c.check.ensures.stands

pub prepare-requires-clause-may : goal.prepare-requires-clause-may
prepare-requires-clause-may c = let h = c.requires.ends in give_may c.args.c.now c.args.tag c.args.addr c.args.b c.args.n h.0 h.1 c.check.ensures.stands

pub clear-requires-clause-table : goal.clear-requires-clause-table
clear-requires-clause-table c = (ap (λ (t : Token). t.table) c.prepare.ensures ∙ c.requires.table.0, ap (λ (t : Token). t.opening) c.prepare.ensures ∙ c.requires.table.1)

pub clear-requires-clause-whole : goal.clear-requires-clause-whole
clear-requires-clause-whole c = ap (λ (t : Token). t.whole) c.prepare.ensures

pub clear-requires-clause-inside : goal.clear-requires-clause-inside
clear-requires-clause-inside c = ap (λ (t : Token). t.inside) c.prepare.ensures ∙ c.requires.ends.1.half.new.inside

pub clear-requires-clause-there : goal.clear-requires-clause-there
clear-requires-clause-there c = subst (λ (t : Token). c.args.tag.head < 256 * t.opening.limits.segments) (sym c.prepare.ensures) c.requires.ends.1.there

pub clear-requires-clause-bucket : goal.clear-requires-clause-bucket
clear-requires-clause-bucket c = c.requires.ends.1.bucket

pub clear-requires-clause-may : goal.clear-requires-clause-may
clear-requires-clause-may c =
    let h = c.requires.ends in let e = c.prepare.ensures in
    subst (λ (t : Token). MayGiveUp t c.args.tag c.args.addr) (sym e) (may_give_up c.args.c.now c.args.tag c.args.addr c.args.b c.args.n h.0 h.1 c.check.ensures.stands (subst IsStanding e c.check-2.ensures.stands))

pub rest-requires : goal.rest-requires
rest-requires c =
    let h = c.requires.ends in let e = c.prepare.ensures in
    record {
      rests = rests c.args.c.now c.args.tag c.args.addr c.args.b c.args.n h.0 h.1 c.check.ensures.stands (subst IsStanding e c.check-2.ensures.stands) c.clear.new.c (subst (λ (t : Token). HasCleared t c.clear.new.c c.args.addr) e c.clear.ensures)
          c.check-3.ensures.stands;
    }

pub returns : goal.returns
returns c = λ q h.
    let e = c.prepare.ensures in
    subst (λ (t : Token). EndsTaken c.args.c.now t c.args.addr c.args.b c.args.n q) (sym c.rest.ensures)
    (ends c.args.c.now c.args.tag c.args.addr c.args.b c.args.n q h c.check.ensures.stands (subst IsStanding e c.check-2.ensures.stands) c.clear.new.c (subst (λ (t : Token). HasCleared t c.clear.new.c c.args.addr) e c.clear.ensures))
