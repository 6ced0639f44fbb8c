use Rattle.std.proofs.Common.{◌≡◌, ℕ, true, sym, subst}
use Rattle.heap_model.specs.declared.Act.TheVariants as acts
use Rattle.heap_model.specs.declared.What.TheVariants as whats
use Rattle.heap_model.specs.State.{holds}
use Rattle.heap_model.specs.CallState.{Configuration}
use Rattle.heap_model.specs.Layers.{StandsForVs, StandsForBack}
use Rattle.heap_model.specs.Legal.{leaves_whole}
use Rattle.claim_rule.specs.Entries.{may_prepare}
use Rattle.vs_layer.specs.Standing as vss
use Rattle.backend_fit.specs.Kept as backs
use Rattle.heap_gate.specs.Token.{Token, Always, now}
use Rattle.call_parts.proofs.Tokens.{now_more}
use Rattle.paged_calls.proofs.BackDropped.{back_sized_may}
use Rattle.paged_calls.proofs.looks.tell_size.Goals as goal

pub prepare-requires-clause-may : goal.prepare-requires-clause-may
prepare-requires-clause-may c =
    let k = c.args.c.now in let x = c.requires.both in
    subst (λ (n : ℕ). Always k (λ s. may_prepare s (now s k) k.number (acts.Sized c.args.addr n) ≡ true)) (sym c.size_of-size.ensures)
    (back_sized_may k x.call c.args.vs c.args.back x.holds c.check.ensures.stands c.region-region.ensures.sound c.args.addr c.requires.not_vs c.args.run c.requires.found)

pub give_both-requires-clause-tells_vs : goal.give_both-requires-clause-tells_vs
give_both-requires-clause-tells_vs c =
    let k = c.args.c.now in let x = c.requires.both in let act = acts.Sized c.args.addr c.size_of-size.result in
    subst (λ (t : Token). Always t (λ s. StandsForVs t.opening (now s t).state (vss.layer_of c.args.vs))) (sym c.prepare.ensures)
    (λ s q. subst (λ (m : Configuration). StandsForVs k.opening m.state (vss.layer_of c.args.vs)) (sym (now_more s k act)) (x.holds.tells_vs s q))

pub give_both-requires-clause-tells_back : goal.give_both-requires-clause-tells_back
give_both-requires-clause-tells_back c =
    let k = c.args.c.now in let x = c.requires.both in let act = acts.Sized c.args.addr c.size_of-size.result in
    subst (λ (t : Token). Always t (λ s. StandsForBack t.opening (now s t).state (backs.layer_of c.args.back))) (sym c.prepare.ensures)
    (λ s q. subst (λ (m : Configuration). StandsForBack k.opening m.state (backs.layer_of c.args.back)) (sym (now_more s k act)) (x.holds.tells_back s q))

pub give_both-requires-clause-used : goal.give_both-requires-clause-used
give_both-requires-clause-used c =
    let k = c.args.c.now in let x = c.requires.both in let act = acts.Sized c.args.addr c.size_of-size.result in
    subst (λ (t : Token). Always t (λ s. leaves_whole (now s t).state whats.Vs ≡ true)) (sym c.prepare.ensures)
    (λ s q. subst (λ (m : Configuration). leaves_whole m.state whats.Vs ≡ true) (sym (now_more s k act)) (x.used s q))
