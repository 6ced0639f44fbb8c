use Rattle.std.proofs.Common.{[], ◌∷◌, sym, subst}
use Rattle.heap_model.specs.declared.Act.TheVariants.{Take, Drop}
use Rattle.heap_gate.specs.Token.{Token}
use Rattle.front_calls.specs.Parts.{GoesBy}
use Rattle.front_calls.proofs.Steps.{found_none, may_give_up, rests, dropped}
use Rattle.front_calls.proofs.blocks.drop_front.Goals as goal

pub returns-in_default : goal.returns-in_default
returns-in_default c = let v = c.requires.serving in found_none c.args.c.now c.take_live.new.c v.0 c.args.addr v.1 c.in_default.ensures.none

pub clear-requires-clause-may : goal.clear-requires-clause-may
clear-requires-clause-may c =
    let v = c.requires.serving in
    may_give_up c.args.c.now c.take_live.new.c v.0 c.args.tag c.args.addr c.in-Some._size v.1 c.requires.may c.in-Some.ensures.taken c.check-2.ensures.stands

pub rest-requires : goal.rest-requires
rest-requires c =
    let v = c.requires.serving in
    record { rests = rests c.args.c.now c.take_live.new.c v.0 c.args.tag c.args.addr c.in-Some._size v.1 c.requires.may c.in-Some.ensures.taken c.clear.new.c c.clear.ensures c.check.ensures.stands c.check-3.ensures.stands }

pub returns : goal.returns
returns c =
    let v = c.requires.serving in let a = c.args.c.now in let addr = c.args.addr in let size = c.in-Some._size in (
      size,
      subst (λ (t : Token). GoesBy a t (Take addr size ∷ Drop addr ∷ [])) (sym c.rest.ensures)
          (dropped a c.take_live.new.c v.0 c.args.tag addr size v.1 c.requires.may c.in-Some.ensures.taken c.clear.new.c c.clear.ensures),
    )
