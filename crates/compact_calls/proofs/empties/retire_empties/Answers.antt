use Rattle.std.proofs.Common.{◌∙◌, List, ◌∷◌, ◌++◌, [], sym, ap, subst, arith}
use Rattle.std.proofs.lemmas.List.{map-append}
use Rattle.heap_model.specs.declared.Act.{Act}
use Rattle.heap_model.specs.declared.Act.TheVariants as acts
use Rattle.heap_model.specs.declared.Call.TheVariants as calls
use Rattle.heap_model.specs.declared.Limits.{Limits}
use Rattle.heap_model.specs.declared.Opening.{Opening}
use Rattle.claim_rule.specs.Places.{back_slot}
use Rattle.compact_calls.specs.Owner.{Did}
use Rattle.compact_calls.specs.Empties.{unspans}
use Rattle.compact_calls.proofs.Doing.{did_none, did_then}
use Rattle.compact_calls.proofs.Emptying.{all_used}
use Rattle.compact_calls.proofs.empties.retire_empties.Goals as goal

pub loop-page-init : goal.loop-page-init
loop-page-init c = record { did = ([], did_none c.args.c.now calls.Compact (back_slot ∷ []) c.requires.owning); back = c.requires.back; used = λ s q x i kd lt. absurd (let no : ⊥ = omega (arith, lt) in no) }

pub retire_at-requires-clause-table : goal.retire_at-requires-clause-table
retire_at-requires-clause-table c = let g = c.loop-page.invariant.did.1.goes in (g.table ∙ c.requires.table.0, g.opening ∙ c.requires.table.1)

pub retire_at-requires-clause-owning : goal.retire_at-requires-clause-owning
retire_at-requires-clause-owning c = c.loop-page.invariant.did.1.owning

pub retire_at-requires-clause-back : goal.retire_at-requires-clause-back
retire_at-requires-clause-back c = c.loop-page.invariant.back

pub retire_at-requires-clause-used : goal.retire_at-requires-clause-used
retire_at-requires-clause-used c = c.loop-page.invariant.used

pub retire_at-requires-clause-there : goal.retire_at-requires-clause-there
retire_at-requires-clause-there c =
    let g = c.loop-page.invariant.did.1.goes in
    let e = c.limits-limits.ensures.limits ∙ ap (λ (o : Opening). o.limits) (sym (g.opening ∙ c.requires.table.1)) in
    let seg = ap (λ (l : Limits). l.segments) e in
    let lt = c.loop-page-test.true in omega (arith, seg, lt)

pub loop-page-preserved : goal.loop-page-preserved
loop-page-preserved c =
    let i = c.loop-page.invariant in let a = c.args.c.now in let b = c.loop-page.c in let d = c.retire_at.new.c in let e = c.retire_at.ensures in
    record {
      did = (
        i.did.0 ++ e.did.0,
        subst (λ (l : List Act). Did a d calls.Compact l (back_slot ∷ [])) (sym (map-append acts.Unspan i.did.0 e.did.0))
            (did_then a b d calls.Compact (unspans i.did.0) (unspans e.did.0) (back_slot ∷ []) (back_slot ∷ []) i.did.1 e.did.1),
      );
      back = e.back;
      used = e.used;
    }

pub returns-clause-used : goal.returns-clause-used
returns-clause-used c =
    let i = c.loop-page.invariant in let b = c.loop-page.c in
    let e = c.limits-limits.ensures.limits ∙ ap (λ (o : Opening). o.limits) (sym (i.did.1.goes.opening ∙ c.requires.table.1)) in
    let seg = ap (λ (l : Limits). l.segments) e in
    let end = c.loop-page-test.false in
    all_used b c.loop-page.back i.back c.region-sound.ensures.sound (λ s q x ix kd lt. i.used s q x ix kd (omega (arith, lt, end, seg)))
