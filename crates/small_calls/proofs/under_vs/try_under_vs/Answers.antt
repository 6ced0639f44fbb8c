use Rattle.std.proofs.Common.{◌∷◌, [], ◌∙◌, sym, ap, subst}
use Rattle.heap_gate.specs.Token.{Token}
use Rattle.vs_layer.specs.Kept.{VsKept}
use Rattle.heap_model.specs.declared.Act.TheVariants as acts
use Rattle.heap_model.specs.declared.What.TheVariants as whats
use Rattle.small_calls.specs.Ways.{AsksUnderVs}
use Rattle.call_parts.proofs.Joining.{goes_then}
use Rattle.small_calls.proofs.Backs.{missed_leaves, leaves_then, under_none}
use Rattle.small_calls.proofs.VsHeld.{taken_asks, taken_goes, missed_busy, places_behind, activation_shown}
use Rattle.small_calls.proofs.under_vs.try_under_vs.Goals as goal

pub returns-in-Err-clause-tries : goal.returns-in-Err-clause-tries
returns-in-Err-clause-tries c = missed_busy c.args.c.now c.take_vs.new.c c.in-Err.busy c.args.n c.args.zero c.requires.asking c.in-Err.ensures.busy

pub is_front-requires-clause-asks : goal.is_front-requires-clause-asks
is_front-requires-clause-asks c = (c.args.n, c.args.zero, taken_asks c.args.c.now c.take_vs.new.c c.args.n c.args.zero c.in-Ok.vs c.requires.asking c.in-Ok.ensures.ok, c.requires.bucket)

pub returns-then-not-is_front-clause-tries : goal.returns-then-not-is_front-clause-tries
returns-then-not-is_front-clause-tries c =
    let a = c.args.c.now in let m = c.take_vs.new.c in
    let asks = taken_asks a m c.args.n c.args.zero c.in-Ok.vs c.requires.asking c.in-Ok.ensures.ok in
    let no = c.if-not-is_front.ensures c.args.n c.args.zero asks c.requires.bucket in
    record {
      goes = subst (λ (t : Token). Rattle.call_parts.specs.Calls.GoesOn a t (acts.TakeLock whats.Vs ∷ [])) (sym no.same) (taken_goes a m c.in-Ok.vs c.in-Ok.ensures.ok);
      call = ap (λ (t : Token). t.call) no.same ∙ c.in-Ok.ensures.ok.stands.call;
      asks = subst (λ (x : Token × VsKept). AsksUnderVs x.0 c.args.n c.args.zero x.1) (λ i. (sym no.same i, sym no.vs_is i)) asks;
      for_vs = no.for_vs;
    }

pub serve_with_vs-requires-clause-asks : goal.serve_with_vs-requires-clause-asks
serve_with_vs-requires-clause-asks c =
    let asks = taken_asks c.args.c.now c.take_vs.new.c c.args.n c.args.zero c.in-Ok.vs c.requires.asking c.in-Ok.ensures.ok in
    (c.if-not-is_front.ensures c.args.n c.args.zero asks c.requires.bucket).asks

pub serve_with_vs-requires-clause-active : goal.serve_with_vs-requires-clause-active
serve_with_vs-requires-clause-active c =
    let asks = taken_asks c.args.c.now c.take_vs.new.c c.args.n c.args.zero c.in-Ok.vs c.requires.asking c.in-Ok.ensures.ok in
    (c.if-not-is_front.ensures c.args.n c.args.zero asks c.requires.bucket).active

pub serve_with_vs-requires-clause-table : goal.serve_with_vs-requires-clause-table
serve_with_vs-requires-clause-table c =
    let asks = taken_asks c.args.c.now c.take_vs.new.c c.args.n c.args.zero c.in-Ok.vs c.requires.asking c.in-Ok.ensures.ok in
    let front = c.if-not-is_front.ensures c.args.n c.args.zero asks c.requires.bucket in
    let first = taken_goes c.args.c.now c.take_vs.new.c c.in-Ok.vs c.in-Ok.ensures.ok in
    (front.goes.table ∙ (first.table ∙ c.requires.table.0), front.goes.opening ∙ (first.opening ∙ c.requires.table.1))

pub returns-in-Placed-clause-tries : goal.returns-in-Placed-clause-tries
returns-in-Placed-clause-tries c =
    let a = c.args.c.now in let m = c.take_vs.new.c in
    let asks = taken_asks a m c.args.n c.args.zero c.in-Ok.vs c.requires.asking c.in-Ok.ensures.ok in
    let front = c.if-not-is_front.ensures c.args.n c.args.zero asks c.requires.bucket in
    let first = taken_goes a m c.in-Ok.vs c.in-Ok.ensures.ok in
    let shown = activation_shown c.args.bucket front.its front.its_are in
    places_behind a c.is_front.new.c c.serve_with_vs.new.c c.in-Placed.addr (acts.TakeLock whats.Vs ∷ front.its) (goes_then a m c.is_front.new.c (acts.TakeLock whats.Vs ∷ []) front.its first front.goes) shown.0 shown.1
    (front.call ∙ c.in-Ok.ensures.ok.stands.call) c.in-Placed.ensures.serves

pub returns-in-Spent-clause-tries : goal.returns-in-Spent-clause-tries
returns-in-Spent-clause-tries c =
    let a = c.args.c.now in let m = c.take_vs.new.c in
    let asks = taken_asks a m c.args.n c.args.zero c.in-Ok.vs c.requires.asking c.in-Ok.ensures.ok in
    let front = c.if-not-is_front.ensures c.args.n c.args.zero asks c.requires.bucket in
    let first = taken_goes a m c.in-Ok.vs c.in-Ok.ensures.ok in
    record {
      begun = c.is_front.new.c;
      its = front.its;
      its_are = front.its_are;
      goes = goes_then a m c.is_front.new.c (acts.TakeLock whats.Vs ∷ []) front.its first front.goes;
      call = front.call ∙ c.in-Ok.ensures.ok.stands.call;
      asking = front.asks.asking;
      spent = c.in-Spent.ensures.serves;
    }

pub returns-in-Err-clause-leaves : goal.returns-in-Err-clause-leaves
returns-in-Err-clause-leaves c = missed_leaves c.args.c.now c.take_vs.new.c c.in-Err.busy c.in-Err.ensures.busy

pub returns-in-Placed-clause-leaves : goal.returns-in-Placed-clause-leaves
returns-in-Placed-clause-leaves c =
    let a = c.args.c.now in let m = c.take_vs.new.c in
    let asks = taken_asks a m c.args.n c.args.zero c.in-Ok.vs c.requires.asking c.in-Ok.ensures.ok in
    let front = c.if-not-is_front.ensures c.args.n c.args.zero asks c.requires.bucket in
    let first = taken_goes a m c.in-Ok.vs c.in-Ok.ensures.ok in
    leaves_then a c.is_front.new.c c.serve_with_vs.new.c (acts.TakeLock whats.Vs ∷ front.its) (goes_then a m c.is_front.new.c (acts.TakeLock whats.Vs ∷ []) front.its first front.goes) (under_none c.args.bucket front.its front.its_are)
    c.in-Placed.ensures.leaves
