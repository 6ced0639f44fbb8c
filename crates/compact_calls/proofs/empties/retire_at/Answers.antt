use Rattle.std.proofs.Common.{◌∙◌, Bool, ◌∷◌, [], refl, sym, ap, subst, arith}
use Rattle.heap_model.specs.declared.Act.TheVariants as acts
use Rattle.heap_model.specs.declared.Call.TheVariants as calls
use Rattle.heap_model.specs.declared.Limits.{Limits}
use Rattle.claim_rule.specs.Places.{back_slot}
use Rattle.call_parts.proofs.Joining.{setting_before}
use Rattle.heap_gate.specs.Token.{Always, now}
use Rattle.compact_calls.specs.Empties.{HasBlocks}
use Rattle.compact_calls.proofs.Doing.{did_runs, did_then}
use Rattle.compact_calls.proofs.Emptying.{limits_here, back_same, used_over, used_same, used_there, unspan_may, used_without}
use Rattle.compact_calls.proofs.empties.retire_at.Goals as goal

pub begins_at-requires : goal.begins_at-requires
begins_at-requires c = let seg = ap (λ (l : Limits). l.segments) (limits_here c.args.c.now c.args.back.now c.requires.back) in let h = c.requires.there in omega (arith, seg, h)

pub returns-then-not-begins_at-clause-used : goal.returns-then-not-begins_at-clause-used
returns-then-not-begins_at-clause-used c =
    used_over c.args.c.now c.args.back.now c.args.page c.requires.back c.region-sound.ensures.sound (sym c.begins_at.ensures ∙ c.if-not-begins_at.true) c.requires.used

pub returns-then-is_used-clause-back : goal.returns-then-is_used-clause-back
returns-then-is_used-clause-back c = let l = c.is_used.ensures.looked in back_same c.args.c.now c.is_used.new.c c.args.back.now [] l.did.goes l.heap c.requires.back

pub returns-then-is_used-clause-used : goal.returns-then-is_used-clause-used
returns-then-is_used-clause-used c =
    let a = c.args.c.now in let b = c.is_used.new.c in let k = c.args.back.now in let page = c.args.page in let l = c.is_used.ensures.looked in
    used_there b k page (back_same a b k [] l.did.goes l.heap c.requires.back) c.region-sound.ensures.sound
    (subst (λ (x : Bool). Always b (λ s. HasBlocks (now s b) page x)) c.if-is_used.true c.is_used.ensures.blocks)
    (λ s q. used_same (now s b) (now s a) page (l.heap s q) (c.requires.used s (setting_before a b [] l.did.goes s q)))

pub retire-requires-clause-back : goal.retire-requires-clause-back
retire-requires-clause-back c = let l = c.is_used.ensures.looked in back_same c.args.c.now c.is_used.new.c c.args.back.now [] l.did.goes l.heap c.requires.back

pub retire-requires-clause-may : goal.retire-requires-clause-may
retire-requires-clause-may c =
    let a = c.args.c.now in let b = c.is_used.new.c in let k = c.args.back.now in let page = c.args.page in let l = c.is_used.ensures.looked in
    unspan_may b k page c.check.ensures.stands l.did.owning (back_same a b k [] l.did.goes l.heap c.requires.back) (sym c.begins_at.ensures ∙ c.if-not-begins_at.false)
    (subst (λ (x : Bool). Always b (λ s. HasBlocks (now s b) page x)) c.if-is_used.false c.is_used.ensures.blocks)

pub returns-clause-did : goal.returns-clause-did
returns-clause-did c =
    let a = c.args.c.now in let b = c.is_used.new.c in let d = c.retire.new.c in let page = c.args.page in let l = c.is_used.ensures.looked in
    (page ∷ [], did_then a b d calls.Compact [] (acts.Unspan page ∷ []) (back_slot ∷ []) (back_slot ∷ []) l.did (did_runs b d calls.Compact (acts.Unspan page ∷ []) (back_slot ∷ []) l.did.owning refl c.retire.ensures.runs c.retire.ensures.stands))

pub returns-clause-used : goal.returns-clause-used
returns-clause-used c =
    let a = c.args.c.now in let b = c.is_used.new.c in let k = c.args.back.now in let page = c.args.page in let l = c.is_used.ensures.looked in
    used_without b k page c.check.ensures.stands l.did.owning (back_same a b k [] l.did.goes l.heap c.requires.back) (sym c.begins_at.ensures ∙ c.if-not-begins_at.false)
    c.retire.new.c c.region-sound.ensures.sound c.retire.ensures.runs
    (λ s q. used_same (now s b) (now s a) page (l.heap s q) (c.requires.used s (setting_before a b [] l.did.goes s q)))
