use Rattle.std.proofs.Common.{◌<◌, sym, subst}
use Rattle.heap_model.specs.declared.Limits.{Limits}
use Rattle.heap_gate.specs.Token.{now}
use Rattle.heap_gate.proofs.Standing.{begin_ok}
use Rattle.heap_gate.proofs.entries.begin.Goals as goal

pub prepare-requires-clause-may : goal.prepare-requires-clause-may
prepare-requires-clause-may g c =
    let t = c.args.c.now in let e = c.check.ensures in
    λ s q. begin_ok s (now s t) t.number t.call t.fresh t.inside t.depth t.out t.whole t.free (e.stands s q) c.args.call (subst (λ (x : Limits). t.number < x.callers) (sym q.limits) e.few)
    c.requires.outside c.requires.out (e.even.rests c.requires.outside) (e.even.whole c.requires.outside c.requires.out)
