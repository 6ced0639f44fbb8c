use Rattle.std.proofs.Common.{◌≡◌, ℕ, sym, subst}
use Rattle.claim_rule.specs.Places.{hint_at}
use Rattle.claim_rule.specs.Shown.{hint_word}
use Rattle.span_steps.specs.Stores.{paid_off}
use Rattle.heap_gate.specs.Token.{Always, now}
use Rattle.heap_gate.specs.Calls.{Stands, stance}
use Rattle.lfh_spans.proofs.set_hint.Goals as goal

pub put_hint-requires-clause-head : goal.put_hint-requires-clause-head
put_hint-requires-clause-head g c =
    let a = c.args.c.now in
    subst (λ (t : ℕ). Always a (λ s. hint_word (now s a).state.back.area (now s a).now.span_history c.args.bucket t ≡ c.args.head)) (sym c.slot-slot.ensures) c.requires.head

pub returns-clause-stands : goal.returns-clause-stands
returns-clause-stands g c =
    let a = c.args.c.now in
    subst (λ (t : ℕ). Stands c.put_hint.new.c (record (stance a) { owes = paid_off (hint_at c.args.bucket t) a.owes })) c.slot-slot.ensures c.put_hint.ensures.stands
