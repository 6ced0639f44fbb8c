use Rattle.std.proofs.Common.{Bool, [], refl, ◌∙◌}
use Rattle.std.specs.Prelude.{Ok}
use Rattle.heap_model.specs.declared.Busy.{Busy}
use Rattle.paged_calls.specs.Parts.{Drops}
use Rattle.address_calls.specs.Answers.{MeetsOn}
use Rattle.address_calls.specs.declared.look.Found.TheVariants as founds
use Rattle.address_calls.proofs.AtOnce.{drops_at_once}
use Rattle.address_calls.proofs.Behind.{looks_by, drops_behind, meets_behind, if_ok_then, err_then}
use Rattle.address_calls.proofs.Parts.{front_drops}
use Rattle.address_calls.proofs.drops.drop_block.Goals as goal

pub returns-in-Some-clause-dropped : goal.returns-in-Some-clause-dropped
returns-in-Some-clause-dropped c =
    let a = c.args.c.now in let b = c.find_front.new.c in let d = c.drop_front.new.c in
    drops_behind a b d (looks_by a b [] c.find_front.ensures.added refl refl refl) c.args.addr c.drop_front.result (front_drops b d c.args.addr c.drop_front.result c.drop_front.ensures)

pub returns-in-Some-clause-tagged : goal.returns-in-Some-clause-tagged
returns-in-Some-clause-tagged c = λ k.
    drops_at_once c.args.c.now c.find_front.new.c c.drop_front.new.c c.args.addr (founds.Front c.in-Some.tag) (Ok c.drop_front.result) (tt, c.find_front.ensures.added) (λ of_front. c.drop_front.ensures)

pub drop_elsewhere-requires-clause-table : goal.drop_elsewhere-requires-clause-table
drop_elsewhere-requires-clause-table c = let g = c.find_front.ensures.added.goes in (g.table ∙ c.requires.table.0, g.opening ∙ c.requires.table.1)

pub returns-in-None-clause-dropped : goal.returns-in-None-clause-dropped
returns-in-None-clause-dropped c =
    let a = c.args.c.now in let b = c.find_front.new.c in let d = c.drop_elsewhere.new.c in
    if_ok_then c.drop_elsewhere.result (λ (did : Bool). Drops b d c.args.addr did) (λ (did : Bool). Drops a d c.args.addr did) (drops_behind a b d (looks_by a b [] c.find_front.ensures.added refl refl refl) c.args.addr)
    c.drop_elsewhere.ensures.dropped

pub returns-in-None-clause-busy : goal.returns-in-None-clause-busy
returns-in-None-clause-busy c =
    let a = c.args.c.now in let b = c.find_front.new.c in let d = c.drop_elsewhere.new.c in
    err_then c.drop_elsewhere.result (λ (w : Busy). MeetsOn b d c.args.addr w) (λ (w : Busy). MeetsOn a d c.args.addr w) (meets_behind a b d (looks_by a b [] c.find_front.ensures.added refl refl refl) c.args.addr)
    c.drop_elsewhere.ensures.busy

pub returns-in-None-clause-tagged : goal.returns-in-None-clause-tagged
returns-in-None-clause-tagged c = λ k.
    drops_at_once c.args.c.now c.find_front.new.c c.drop_elsewhere.new.c c.args.addr founds.Nowhere c.drop_elsewhere.result (tt, c.find_front.ensures.added)
    (λ of_front. c.drop_elsewhere.ensures.tagged (c.in-None.ensures.none k))
