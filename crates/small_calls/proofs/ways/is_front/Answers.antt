use Rattle.std.proofs.Common.{sym}
use Rattle.small_calls.proofs.Asking.{is_none, may_become, becomes_front}
use Rattle.small_calls.proofs.Found.{is_bucket}
use Rattle.small_calls.proofs.ways.is_front.Goals as goal

pub returns-then-not-due : goal.returns-then-not-due
returns-then-not-due c n zero h bucket = record {
  same = Rattle.std.proofs.Common.refl;
  vs_is = Rattle.std.proofs.Common.refl;
  for_vs = is_none c.args.c.now c.args.vs.now n c.args.bucket zero h bucket (sym c.if-is_active.ensures) (sym c.if-not-due.ensures);
}

pub set_active-requires-2-clause-may : goal.set_active-requires-2-clause-may
set_active-requires-2-clause-may c =
    let x = c.requires.asks in
    may_become c.args.c.now c.args.vs.now x.0 c.args.bucket x.1 x.2 x.3 c.check.ensures.stands (is_bucket x.0 c.args.bucket x.3).first (sym c.if-is_active.ensures) (sym c.if-not-due.ensures)

pub returns : goal.returns
returns c n zero h bucket =
    becomes_front c.args.c.now c.args.vs.now n c.args.bucket zero h bucket c.check.ensures.stands (is_bucket n c.args.bucket bucket).first c.set_active-2.new.c c.set_active.new.self c.set_active-2.ensures.runs c.set_active-2.ensures.stands
    c.set_active.ensures.stands
