use Rattle.std.proofs.Common.{◌≡◌, ◌+◌, ◌∙◌, true, List, length, false, get_or, take, drop, sym, ap, subst, arith}
use Rattle.std.proofs.lemmas.List.{take_more, take_all, length-take}
use Rattle.heap_model.specs.declared.Act.{Act}
use Rattle.heap_model.specs.declared.Act.TheVariants as acts
use Rattle.heap_model.specs.declared.Call.TheVariants as calls
use Rattle.claim_rule.specs.Entries.{may_prepare, are_prepared}
use Rattle.heap_gate.specs.Token.{Token, Always, now}
use Rattle.heap_gate.specs.Calls.{with_prepared}
use Rattle.call_laws.specs.Within.{by_all}
use Rattle.call_parts.specs.Entries.{with_all}
use Rattle.call_parts.proofs.Tokens.{next_prepared, all_then_one, length_all, listed, setting_before_all}
use Rattle.call_parts.proofs.entries.prepare_all.Goals as goal

-- what stands where a list has no entry
abbrev none : Act
none = acts.Begin (calls.Alloc 0 (record { zero = false; in_place = false }))

pub prepare-requires-clause-room : goal.prepare-requires-clause-room
prepare-requires-clause-room c =
    let xs = c.args.acts.now in let i = c.loop-act.act-index in
    let a : length c.loop-act.c.prepared ≡ length c.args.c.now.prepared + length (take i xs) = ap (λ (t : Token). length t.prepared) c.loop-act.invariant ∙ length_all c.args.c.now (take i xs) in
    let b = length-take i xs in
    omega (arith, a, b, c.requires.room, c.loop-act-test.true)

pub prepare-requires-clause-may : goal.prepare-requires-clause-may
prepare-requires-clause-may c =
    let a = c.args.c.now in let xs = c.args.acts.now in let i = c.loop-act.act-index in
    let P : Token → Type 0 = λ t. Always t (λ s. may_prepare s (now s t) t.number (get_or xs i none) ≡ true) in
    subst P (sym c.loop-act.invariant) (λ s q.
    next_prepared s a (take i xs) (get_or xs i none) (drop (i + 1) xs)
    (subst (λ (ys : List Act). are_prepared s (now s a) a.number (by_all a.number ys) ≡ true) (listed xs i none c.loop-act-test.true) (c.requires.may s (setting_before_all s a (take i xs) q))))

pub loop-act-preserved : goal.loop-act-preserved
loop-act-preserved c =
    let a = c.args.c.now in let xs = c.args.acts.now in let i = c.loop-act.act-index in
    c.prepare.ensures
    ∙ (ap (λ (t : Token). with_prepared t (get_or xs i none)) c.loop-act.invariant
    ∙ (sym (all_then_one a (take i xs) (get_or xs i none)) ∙ ap (with_all a) (sym (take_more xs i none c.loop-act-test.true))))

pub returns : goal.returns
returns c = c.loop-act.invariant ∙ ap (with_all c.args.c.now) (take_all c.loop-act.act-index c.args.acts.now (omega (arith, c.loop-act-test.false)))
