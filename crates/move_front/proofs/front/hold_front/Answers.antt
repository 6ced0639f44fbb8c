use Rattle.std.proofs.Common.{ℕ, subst, sym}
use Rattle.move_front.specs.Front.{IsActiveNow, HasFrontBlock, HasNoFrontBlock}
use Rattle.move_front.proofs.Gained.{has_block}
use Rattle.move_front.proofs.Missing.{has_none}
use Rattle.move_front.proofs.front.hold_front.Goals as goal

pub search_active-requires-clause-back : goal.search_active-requires-clause-back
search_active-requires-clause-back c = c.if-not-activate.ensures.back_is c.args.back.now c.requires.back

pub returns-in-Some : goal.returns-in-Some
returns-in-Some c =
    let y = c.in-Some.ensures.found in
    let x = subst (λ (b : ℕ). IsActiveNow c.args.c.now c.activate.new.c c.activate.new.vs b) (sym y.1) c.if-not-activate.ensures in
    subst (λ (b : ℕ). HasFrontBlock c.args.c.now c.search_active.new.c c.activate.new.vs c.args.back.now c.search_active.new.back b c.in-Some.addr) y.1
    (has_block c.args.c.now c.activate.new.c c.search_active.new.c c.activate.new.vs c.args.back.now c.search_active.new.back y.0 c.in-Some.addr x c.check.ensures.stands y.2)

pub returns-in-None : goal.returns-in-None
returns-in-None c =
    let y = c.in-None.ensures.none in
    let x = subst (λ (b : ℕ). IsActiveNow c.args.c.now c.activate.new.c c.activate.new.vs b) (sym y.1) c.if-not-activate.ensures in
    subst (λ (b : ℕ). HasNoFrontBlock c.args.c.now c.search_active.new.c c.activate.new.vs c.args.back.now c.search_active.new.back b) y.1
    (has_none c.args.c.now c.activate.new.c c.search_active.new.c c.activate.new.vs c.args.back.now c.search_active.new.back y.0 x c.check.ensures.stands y.2)
