use Rattle.std.proofs.Common.{◌≡◌, ℕ, ◌/◌, ◌∙◌, true, List, [], ◌∷◌, refl, sym, ap, subst}
use Rattle.std.specs.Prelude.{IsSome}
use Rattle.heap_model.specs.declared.Act.{Act}
use Rattle.heap_model.specs.declared.Act.TheVariants as acts
use Rattle.heap_model.specs.declared.What.TheVariants as whats
use Rattle.heap_model.specs.State.{holds}
use Rattle.heap_model.specs.Layers.{StandsForVs, StandsForBack}
use Rattle.heap_model.specs.Legal.{leaves_whole}
use Rattle.claim_rule.specs.Entries.{are_prepared}
use Rattle.call_laws.specs.Within.{by_all}
use Rattle.vs_layer.specs.Standing as vss
use Rattle.backend_fit.specs.Kept as backs
use Rattle.heap_gate.specs.Token.{Token, Always, now}
use Rattle.heap_gate.specs.Calls.{rested, HasRested}
use Rattle.paged_calls.specs.Blocks.{block_size}
use Rattle.call_parts.specs.Entries.{with_all, HasEnded}
use Rattle.call_parts.proofs.Tokens.{added_all, added_rested, added_then, ended_then}
use Rattle.paged_calls.proofs.BackDropped.{back_span, first_page, back_drop_may, back_dropped, back_drop_rests, back_drop_tells, back_drop_vs, back_drop_used}
use Rattle.paged_calls.proofs.looks.drop_run.Goals as goal

pub give-requires : goal.give-requires
give-requires c =
    let k = c.args.c.now in let x = c.requires.both in let st = c.check.ensures.stands in let sound = c.region-region.ensures.sound in let addr = c.args.addr in let r = c.args.run in let f = c.requires.found in
    subst IsSome (sym (back_span k x.call c.args.vs c.args.back x.holds st sound addr c.requires.not_vs r f)) refl

pub prepare_all-requires-clause-may : goal.prepare_all-requires-clause-may
prepare_all-requires-clause-may c =
    let k = c.args.c.now in let x = c.requires.both in let st = c.check.ensures.stands in let sound = c.region-region.ensures.sound in let addr = c.args.addr in let r = c.args.run in let f = c.requires.found in
    subst (λ (y : ℕ × ℕ). Always k (λ s. are_prepared s (now s k) k.number (by_all k.number (acts.Take addr y.0 ∷ acts.Drop addr ∷ acts.Unspan y.1 ∷ [])) ≡ true)) (λ i. (sym c.size_of-size.ensures i, first_page k x.call c.args.vs c.args.back x.holds st sound addr c.requires.not_vs r f i))
    (back_drop_may k x.call c.args.vs c.args.back x.holds st sound addr c.requires.not_vs r f)

pub rest-requires : goal.rest-requires
rest-requires c =
    let k = c.args.c.now in let x = c.requires.both in let st = c.check.ensures.stands in let sound = c.region-region.ensures.sound in let addr = c.args.addr in let r = c.args.run in let f = c.requires.found in
    let e : c.prepare_all.new.c ≡ back_dropped k x.call c.args.vs c.args.back x.holds st sound addr c.requires.not_vs r f = c.prepare_all.ensures ∙ (λ i. with_all k (acts.Take addr (c.size_of-size.ensures i) ∷ acts.Drop addr ∷ acts.Unspan (sym (first_page k x.call c.args.vs c.args.back x.holds st sound addr c.requires.not_vs r f) i) ∷ [])) in
    record { rests = subst (λ (t : Token). Always t (λ s. HasRested (now s t) t.number)) (sym e) (back_drop_rests k x.call c.args.vs c.args.back x.holds st sound addr c.requires.not_vs r f) }

pub give_both-requires-clause-used : goal.give_both-requires-clause-used
give_both-requires-clause-used c =
    let k = c.args.c.now in let x = c.requires.both in let st = c.check.ensures.stands in let sound = c.region-region.ensures.sound in let addr = c.args.addr in let r = c.args.run in let f = c.requires.found in
    let e : c.prepare_all.new.c ≡ back_dropped k x.call c.args.vs c.args.back x.holds st sound addr c.requires.not_vs r f = c.prepare_all.ensures ∙ (λ i. with_all k (acts.Take addr (c.size_of-size.ensures i) ∷ acts.Drop addr ∷ acts.Unspan (sym (first_page k x.call c.args.vs c.args.back x.holds st sound addr c.requires.not_vs r f) i) ∷ [])) in
    let e' = c.rest.ensures ∙ ap rested e in
    subst (λ (t : Token). Always t (λ s. leaves_whole (now s t).state whats.Vs ≡ true)) (sym e') (back_drop_used k x.call c.args.vs c.args.back x.holds st sound addr c.requires.not_vs r f x.used)

pub give_both-requires-clause-tells_vs : goal.give_both-requires-clause-tells_vs
give_both-requires-clause-tells_vs c =
    let k = c.args.c.now in let x = c.requires.both in let st = c.check.ensures.stands in let sound = c.region-region.ensures.sound in let addr = c.args.addr in let r = c.args.run in let f = c.requires.found in
    let e : c.prepare_all.new.c ≡ back_dropped k x.call c.args.vs c.args.back x.holds st sound addr c.requires.not_vs r f = c.prepare_all.ensures ∙ (λ i. with_all k (acts.Take addr (c.size_of-size.ensures i) ∷ acts.Drop addr ∷ acts.Unspan (sym (first_page k x.call c.args.vs c.args.back x.holds st sound addr c.requires.not_vs r f) i) ∷ [])) in
    let e' = c.rest.ensures ∙ ap rested e in
    subst (λ (t : Token). Always t (λ s. StandsForVs t.opening (now s t).state (vss.layer_of c.args.vs))) (sym e') (back_drop_vs k x.call c.args.vs c.args.back x.holds st sound addr c.requires.not_vs r f)

pub give_both-requires-clause-tells_back : goal.give_both-requires-clause-tells_back
give_both-requires-clause-tells_back c =
    let k = c.args.c.now in let x = c.requires.both in let st = c.check.ensures.stands in let sound = c.region-region.ensures.sound in let addr = c.args.addr in let r = c.args.run in let f = c.requires.found in
    let e : c.prepare_all.new.c ≡ back_dropped k x.call c.args.vs c.args.back x.holds st sound addr c.requires.not_vs r f = c.prepare_all.ensures ∙ (λ i. with_all k (acts.Take addr (c.size_of-size.ensures i) ∷ acts.Drop addr ∷ acts.Unspan (sym (first_page k x.call c.args.vs c.args.back x.holds st sound addr c.requires.not_vs r f) i) ∷ [])) in
    let e' = c.rest.ensures ∙ ap rested e in
    subst (λ (t : Token). Always t (λ s. StandsForBack t.opening (now s t).state (backs.layer_of c.give.new.self))) (sym e') (back_drop_tells k x.call c.args.vs c.args.back x.holds st sound addr c.requires.not_vs r f c.give.new.self c.give.ensures.stands)

pub returns : goal.returns
returns c =
    let k = c.args.c.now in let x = c.requires.both in let st = c.check.ensures.stands in let sound = c.region-region.ensures.sound in let addr = c.args.addr in let r = c.args.run in let f = c.requires.found in
    let e : c.prepare_all.new.c ≡ back_dropped k x.call c.args.vs c.args.back x.holds st sound addr c.requires.not_vs r f = c.prepare_all.ensures ∙ (λ i. with_all k (acts.Take addr (c.size_of-size.ensures i) ∷ acts.Drop addr ∷ acts.Unspan (sym (first_page k x.call c.args.vs c.args.back x.holds st sound addr c.requires.not_vs r f) i) ∷ [])) in
    let e' = c.rest.ensures ∙ ap rested e in
    let list : List Act = acts.Take addr (block_size r) ∷ acts.Drop addr ∷ acts.Unspan (addr / 4096) ∷ [] in
    let t = back_dropped k x.call c.args.vs c.args.back x.holds st sound addr c.requires.not_vs r f in
    let all = added_then k t (rested t) list [] (added_all k list refl) (added_rested t) in
    ended_then k (rested t) c.give_both.new.c list (acts.GiveLock whats.Back ∷ acts.GiveLock whats.Vs ∷ []) [] all
    (subst (λ (a : Token). HasEnded a c.give_both.new.c (acts.GiveLock whats.Back ∷ acts.GiveLock whats.Vs ∷ []) []) e' c.give_both.ensures)
