use Rattle.std.proofs.Common.{[], ◌∷◌, refl, subst}
use Rattle.heap_model.specs.declared.Act.TheVariants as acts
use Rattle.heap_model.specs.declared.What.TheVariants as whats
use Rattle.backend_fit.specs.Kept.{layer_of}
use Rattle.vs_layer.specs.Effects.{TellsLast}
use Rattle.call_parts.proofs.Tokens.{added_none}
use Rattle.vs_calls.proofs.Held.{live_block}
use Rattle.vs_calls.proofs.Within.{some_size}
use Rattle.vs_calls.proofs.TakenBack.{missed_tells, holds_both, taken_used}
use Rattle.vs_calls.proofs.Shapes.{blocked_so, freed_so, added_back}
use Rattle.vs_calls.proofs.dropping.drop_vs.Goals as goal

pub empties-requires : goal.empties-requires
empties-requires c = let z = some_size c.args.vs c.args.addr c.requires.there in let b = live_block c.args.vs c.args.addr z.0 z.1 in (b.place, b.there)

pub drop_in_span-requires-clause-stays : goal.drop_in_span-requires-clause-stays
drop_in_span-requires-clause-stays c = subst (TellsLast c.args.vs c.args.addr) c.if-not-empties.true c.empties.ensures

pub give_vs-requires-clause-tells : goal.give_vs-requires-clause-tells
give_vs-requires-clause-tells c =
    let v = c.requires.vs in
    missed_tells c.args.c.now v.call c.args.vs v.holds c.check.ensures.stands v.used c.take_back.new.c c.in-Err.busy c.in-Err.ensures.busy

pub returns-in-Err-clause-busy : goal.returns-in-Err-clause-busy
returns-in-Err-clause-busy c =
    let v = c.requires.vs in
    record {
      last = subst (TellsLast c.args.vs c.args.addr) c.if-not-empties.false c.empties.ensures;
      busy = blocked_so c.args.c.now c.take_back.new.c c.give_vs.new.c v.call c.in-Err.busy v.holds.serving c.in-Err.ensures.busy c.give_vs.ensures;
    }

pub drop_with_span-requires-clause-both : goal.drop_with_span-requires-clause-both
drop_with_span-requires-clause-both c =
    let v = c.requires.vs in
    (v.call, holds_both c.args.c.now v.call c.args.vs v.holds c.check.ensures.stands v.used c.take_back.new.c c.in-Ok.back c.in-Ok.ensures.ok)

pub drop_with_span-requires-clause-used : goal.drop_with_span-requires-clause-used
drop_with_span-requires-clause-used c =
    let v = c.requires.vs in
    taken_used c.args.c.now v.call c.args.vs v.holds c.check.ensures.stands v.used c.take_back.new.c c.in-Ok.back c.in-Ok.ensures.ok

pub drop_with_span-requires-clause-last : goal.drop_with_span-requires-clause-last
drop_with_span-requires-clause-last c = subst (TellsLast c.args.vs c.args.addr) c.if-not-empties.false c.empties.ensures

pub returns-clause-freed : goal.returns-clause-freed
returns-clause-freed c =
    let v = c.requires.vs in
    let x = c.drop_with_span.ensures in
    freed_so c.args.c.now c.take_back.new.c c.drop_with_span.new.c v.call _ (acts.TakeLock whats.Back ∷ []) (acts.Unspan x.0 ∷ acts.GiveLock whats.Back ∷ acts.GiveLock whats.Vs ∷ []) c.args.vs c.args.addr v.holds.serving
    (added_back layer_of c.args.c.now c.take_back.new.c c.in-Ok.back v.call v.holds.serving c.in-Ok.ensures.ok) refl refl refl refl x.1

pub returns-then-not-empties-clause-freed : goal.returns-then-not-empties-clause-freed
returns-then-not-empties-clause-freed c =
    let v = c.requires.vs in
    freed_so c.args.c.now c.args.c.now c.drop_in_span.new.c v.call _ [] (acts.GiveLock whats.Vs ∷ []) c.args.vs c.args.addr v.holds.serving (added_none c.args.c.now) refl refl refl refl c.drop_in_span.ensures
