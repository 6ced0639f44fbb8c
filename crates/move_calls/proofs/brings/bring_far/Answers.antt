use Rattle.std.proofs.Common.{◌≡◌, true, [], ◌∷◌, None, refl, sym, ap, ◌∙◌, subst}
use Rattle.heap_model.specs.declared.Act.TheVariants as acts
use Rattle.heap_model.specs.declared.What.TheVariants as whats
use Rattle.claim_rule.specs.Entries.{may_prepare}
use Rattle.claim_rule.specs.Places.{large_slot}
use Rattle.heap_gate.specs.Token.{Token, Always, is_out, now}
use Rattle.move_calls.specs.Carries.{IsBringing}
use Rattle.move_calls.proofs.Brought.{brought_rests, come_behind}
use Rattle.move_calls.proofs.Tried.{large_same}
use Rattle.move_calls.proofs.brings.bring_far.Goals as goal

pub move_taken_far-requires-clause-moving : goal.move_taken_far-requires-clause-moving
move_taken_far-requires-clause-moving c = let z = c.requires.bringing in (c.args.flags, large_slot ∷ [], z.1.holds, refl, z.2)

pub returns-in-Some : goal.returns-in-Some
returns-in-Some c = λ first v tlarge.
    let out = large_slot ∷ [] in let flags = c.args.flags in
    let x = c.in-Some.ensures.moved flags out refl v.holds refl tlarge in
    (come_behind first c.args.c.now c.move_taken_far.new.c c.args.tag c.args.addr c.args.size c.args.n flags out c.in-Some.b v x.moved, x.large)

pub say_none-requires-clause-table : goal.say_none-requires-clause-table
say_none-requires-clause-table c = let x = c.in-None.ensures.none.0 in (ap (λ (t : Token). t.table) x.same ∙ c.requires.table.0, ap (λ (t : Token). t.opening) x.same ∙ c.requires.table.1)

pub say_none-requires-clause-bringing : goal.say_none-requires-clause-bringing
say_none-requires-clause-bringing c =
    let z = c.requires.bringing in let x = c.in-None.ensures.none.0 in let out = large_slot ∷ [] in
    (z.0, c.args.tag, c.args.flags, out, subst (λ (t : Token). IsBringing z.0 t c.args.tag c.args.addr c.args.size c.args.n c.args.flags out) (sym x.same) z.1)

pub say_none-requires-clause-may : goal.say_none-requires-clause-may
say_none-requires-clause-may c = let x = c.in-None.ensures.none.0 in subst (λ (t : Token). Always t (λ s. may_prepare s (now s t) t.number (acts.NoFit c.args.n) ≡ true)) (sym x.same) x.may

pub returns-in-None : goal.returns-in-None
returns-in-None c = λ first v tlarge.
    let out = large_slot ∷ [] in let flags = c.args.flags in let n = c.args.n in let addr = c.args.addr in
    let y = c.in-None.ensures.none in let k = c.args.c.now in let m = c.move_taken_far.new.c in let d = c.say_none.new.c in
    let v2 = subst (λ (t : Token). IsBringing first t c.args.tag addr c.args.size n flags out) (sym y.0.same) v in
    let x = c.say_none.ensures.brought first c.args.tag flags out v2 in
    let outs = (brought_rests first d addr n flags out None x).out_is in
    (x, c.say_none.ensures.still.large (ap (is_out whats.Large) v2.holds.out_is) (ap (is_out whats.Large) outs) c.move_taken_far.new.large (large_same k m c.args.large.now c.move_taken_far.new.large y.0.same y.1 tlarge))
