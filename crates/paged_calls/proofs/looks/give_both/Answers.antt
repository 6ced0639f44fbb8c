use Rattle.std.proofs.Common.{◌∙◌, [], ◌∷◌, refl, ap}
use Rattle.heap_model.specs.declared.Act.TheVariants as acts
use Rattle.heap_model.specs.declared.What.TheVariants as whats
use Rattle.backend_fit.proofs.Told.{spans_used}
use Rattle.heap_gate.specs.Token.{now, is_out}
use Rattle.paged_calls.proofs.BackDropped.{given_vs, both_given}
use Rattle.paged_calls.proofs.looks.give_both.Goals as goal

pub give_back-requires-clause-tells : goal.give_back-requires-clause-tells
give_back-requires-clause-tells c = λ s q. let t = c.requires.tells_back s q in (spans_used c.args.c.now.opening (now s c.args.c.now).state c.args.back t, t)

pub give_vs-requires-clause-tells : goal.give_vs-requires-clause-tells
give_vs-requires-clause-tells c =
    let k = c.args.c.now in
    given_vs k c.give_back.new.c _ c.args.vs c.give_back.ensures.runs (λ s. (refl, refl, refl))
    (λ s q. (c.check.ensures.stands s q).locks whats.Vs ∙ ap (is_out whats.Vs) c.requires.locks) c.requires.used c.requires.tells_vs

pub returns : goal.returns
returns c = both_given c.args.c.now c.give_back.new.c c.give_vs.new.c (acts.GiveLock whats.Back ∷ []) c.give_back.ensures c.give_vs.ensures c.requires.locks c.requires.ready.2
