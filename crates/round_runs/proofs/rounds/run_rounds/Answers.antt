use Rattle.std.proofs.Common.{◌≡◌, ◌∙◌, true, subst, sym, List}
use Rattle.heap_model.specs.declared.Opening.{Opening}
use Rattle.claim_rule.specs.declared.views.Assignment.{Assignment}
use Rattle.claim_rule.specs.Entries.{have_slots}
use Rattle.script_text.specs.Scripts.{commands_of}
use Rattle.round_runs.specs.Crews.{AreInTurn}
use Rattle.round_runs.specs.Turns.{HaveRun}
use Rattle.round_runs.proofs.Closed.{in_slots, played}
use Rattle.round_runs.proofs.rounds.run_rounds.Goals as goal

pub close-receipt-requires-clause-slots : goal.close-receipt-requires-clause-slots
close-receipt-requires-clause-slots g c =
    let made = c.in_ok-workers.ensures.made.0 in
    let old = c.make_workers.new.root in
    let opened = c.in_ok-heap.ensures.0 in
    let j = c.join_all.ensures in
    let turn = subst (λ (o : Opening). AreInTurn o.limits old.roll) opened made.in_turn in
    subst (λ (z : Opening × List Assignment). have_slots z.0.limits.slots z.1 ≡ true) (λ i. (sym (j.opening ∙ (made.opening ∙ opened)) i, sym j.roll i))
    (in_slots c.args.limits old.roll c.requires.limits.some_slots turn)

pub returns : goal.returns
returns g c =
    let made = c.in_ok-workers.ensures.made.0 in
    let old = c.make_workers.new.root in
    let opened = c.in_ok-heap.ensures.0 in
    let x = c.close-receipt.ensures in
    let y = c.in_ok-answers.ensures in
    let ws' = c.play_in.new.workers.items in
    let turn = subst (λ (o : Opening). AreInTurn o.limits old.roll) opened made.in_turn in
    let run = subst (λ (o : Opening). HaveRun o old.roll ws' (commands_of c.args.script.now) c.in_ok-answers.answers) opened (y.run old made) in
    played c.args.limits c.args.seed ws' c.args.script.now c.in_ok-answers.answers old c.join_all.new.root c.close-receipt.result (made.opening ∙ opened) turn (made.all ∙ sym y.many) run
    c.join_all.ensures x.joined x.legal x.last x.shows x.blocks x.readable
