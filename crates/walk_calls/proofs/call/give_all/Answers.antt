use Rattle.std.proofs.Common.{◌∷◌, [], refl, ◌∙◌}
use Rattle.backend_fit.proofs.Told.{spans_used}
use Rattle.claim_rule.specs.Places.{vs_slot, back_slot}
use Rattle.heap_gate.specs.Token.{now}
use Rattle.walk_calls.proofs.Locking.{under, owner_one, tells_one, owner_next, out_next, tells_next, gave_all}
use Rattle.walk_calls.proofs.call.give_all.Goals as goal

pub give_large-requires-clause-inside : goal.give_large-requires-clause-inside
give_large-requires-clause-inside c = under c.args.c.now c.requires.owner

pub give_large-requires-clause-lock : goal.give_large-requires-clause-lock
give_large-requires-clause-lock c = (back_slot ∷ vs_slot ∷ [], c.requires.out.0, refl)

pub give_large-requires-clause-tells : goal.give_large-requires-clause-tells
give_large-requires-clause-tells c = λ s q. (refl, c.requires.tells.large_is s q)

pub give_back-requires-clause-whole : goal.give_back-requires-clause-whole
give_back-requires-clause-whole c = (owner_one c.args.c.now c.give_large.new.c c.args.vs c.args.back c.args.large c.check.ensures.stands c.requires.owner c.requires.out.0 c.requires.tells c.give_large.ensures).whole

pub give_back-requires-clause-inside : goal.give_back-requires-clause-inside
give_back-requires-clause-inside c = under c.give_large.new.c (owner_one c.args.c.now c.give_large.new.c c.args.vs c.args.back c.args.large c.check.ensures.stands c.requires.owner c.requires.out.0 c.requires.tells c.give_large.ensures)

pub give_back-requires-clause-lock : goal.give_back-requires-clause-lock
give_back-requires-clause-lock c = (vs_slot ∷ [], (c.give_large.ensures.stands (back_slot ∷ vs_slot ∷ []) c.requires.out.0).out, refl)

pub give_back-requires-clause-tells : goal.give_back-requires-clause-tells
give_back-requires-clause-tells c = λ s q.
    let b = c.give_large.new.c in
    let t = (tells_one c.args.c.now b c.args.vs c.args.back c.args.large c.check.ensures.stands c.requires.owner c.requires.out.0 c.requires.tells c.give_large.ensures).back_is s q in
    (spans_used b.opening (now s b).state c.args.back t, t)

pub give_back-requires-clause-paid : goal.give_back-requires-clause-paid
give_back-requires-clause-paid c = (c.give_large.ensures.stands (back_slot ∷ vs_slot ∷ []) c.requires.out.0).owes ∙ c.requires.out.1

pub give_vs-requires-clause-whole : goal.give_vs-requires-clause-whole
give_vs-requires-clause-whole c =
    (owner_next c.args.c.now c.give_large.new.c c.args.vs c.args.back c.args.large c.check.ensures.stands c.requires.owner c.requires.out.0 c.requires.tells c.give_large.ensures c.give_back.new.c c.check-2.ensures.stands c.give_back.ensures).whole

pub give_vs-requires-clause-inside : goal.give_vs-requires-clause-inside
give_vs-requires-clause-inside c =
    under c.give_back.new.c
    (owner_next c.args.c.now c.give_large.new.c c.args.vs c.args.back c.args.large c.check.ensures.stands c.requires.owner c.requires.out.0 c.requires.tells c.give_large.ensures c.give_back.new.c c.check-2.ensures.stands c.give_back.ensures)

pub give_vs-requires-clause-lock : goal.give_vs-requires-clause-lock
give_vs-requires-clause-lock c = (
  [],
  out_next c.args.c.now c.give_large.new.c c.args.vs c.args.back c.args.large c.check.ensures.stands c.requires.owner c.requires.out.0 c.requires.tells c.give_large.ensures c.give_back.new.c c.check-2.ensures.stands c.give_back.ensures,
  refl,
)

pub give_vs-requires-clause-tells : goal.give_vs-requires-clause-tells
give_vs-requires-clause-tells c = λ s q.
    let t = tells_next c.args.c.now c.give_large.new.c c.args.vs c.args.back c.args.large c.check.ensures.stands c.requires.owner c.requires.out.0 c.requires.tells c.give_large.ensures c.give_back.new.c c.check-2.ensures.stands c.give_back.ensures in
    (t.used s q, t.vs_is s q)

pub returns : goal.returns
returns c = record {
  done = gave_all c.args.c.now c.give_large.new.c c.args.vs c.args.back c.args.large c.check.ensures.stands c.requires.owner c.requires.out.0 c.requires.tells c.give_large.ensures c.give_back.new.c c.check-2.ensures.stands c.give_back.ensures
      c.give_vs.new.c c.check-3.ensures.stands c.give_vs.ensures;
}
