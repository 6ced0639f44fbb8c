use Rattle.std.proofs.Common.{◌∙◌, ◌+◌, ℕ, List, [], ◌∷◌, length, length-append, refl, sym, ap, subst, arith}
use Rattle.heap_model.specs.declared.Act.{Act}
use Rattle.heap_model.specs.declared.Call.TheVariants as calls
use Rattle.claim_rule.specs.Places.{back_slot}
use Rattle.backend_fit.specs.Kept.{area_of}
use Rattle.compact_calls.specs.Owner.{Did}
use Rattle.compact_calls.specs.Pages.{loose_among, loose_below, decommits}
use Rattle.compact_calls.proofs.Doing.{did_none, did_then}
use Rattle.compact_calls.proofs.Sweeping.{below_more, decommits_more, few_below}
use Rattle.compact_calls.proofs.Decommitting.{front_then}
use Rattle.compact_calls.proofs.pages.sweep.Goals as goal

pub loop-page-init : goal.loop-page-init
loop-page-init c = record {
  did = did_none c.args.c.now calls.Compact (back_slot ∷ []) c.requires.owning;
  swept = c.requires.swept;
  front = λ s q. refl;
  number = refl;
}

pub loop-page-preserved : goal.loop-page-preserved
loop-page-preserved c =
    let i = c.loop-page.invariant in let a = area_of c.args.back.now in let page = c.loop-page.page in
    let start = c.args.c.now in let old = c.loop-page.c in let new = c.decommit_free-number.new.c in
    let m = ap (λ (l : List ℕ). length l) (below_more a page) ∙ length-append (loose_below a page) (loose_among a (page ∷ [])) in
    record {
      did = subst (λ (l : List Act). Did start new calls.Compact l (back_slot ∷ [])) (sym (decommits_more a page))
          (did_then start old new calls.Compact (decommits (loose_below a page)) (decommits (loose_among a (page ∷ []))) (back_slot ∷ []) (back_slot ∷ []) i.did c.decommit_free-number.ensures.did);
      swept = c.decommit_free-number.ensures.swept;
      front = front_then start old new (decommits (loose_among a (page ∷ []))) c.decommit_free-number.ensures.did.goes i.front c.decommit_free-number.ensures.front;
      number = let e = i.number in let f = c.decommit_free-number.ensures.count in omega (arith, e, f, m);
    }

pub overflow_add-number : goal.overflow_add-number
overflow_add-number c =
    let i = c.loop-page.invariant in let a = area_of c.args.back.now in let page = c.loop-page.page in
    let m = ap (λ (l : List ℕ). length l) (below_more a page) ∙ length-append (loose_below a page) (loose_among a (page ∷ [])) in
    let e = i.number in let f = c.decommit_free-number.ensures.count in let few = few_below a (page + 1) in
    let held = c.reserved-end.ensures.held in let s = held.few in let r = held.reserved in let l = c.loop-page-test.true in
    omega (arith, e, f, m, few, s, r, l)
