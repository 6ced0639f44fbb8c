use Rattle.std.proofs.Common.{Bool}
use Rattle.heap_model.specs.declared.Busy.{Busy}
use Rattle.paged_calls.specs.Parts.{Drops}
use Rattle.address_calls.specs.Answers.{MeetsOn}
use Rattle.address_calls.proofs.Behind.{drops_behind, meets_behind, if_ok_then, err_then}
use Rattle.std.proofs.Common.{subst}
use Rattle.std.specs.Prelude.{Result}
use Rattle.address_calls.specs.declared.look.Found.{Found}
use Rattle.address_calls.specs.Tagged.{FindsAtOnce}
use Rattle.address_calls.proofs.AtOnce.{drops_at_once}
use Rattle.address_calls.proofs.drops.drop_elsewhere.Goals as goal

pub returns-in-Ok-clause-dropped : goal.returns-in-Ok-clause-dropped
returns-in-Ok-clause-dropped c =
    let a = c.args.c.now in let b = c.look_up.new.c in let d = c.drop_found.new.c in
    if_ok_then c.drop_found.result (λ (did : Bool). Drops b d c.args.addr did) (λ (did : Bool). Drops a d c.args.addr did) (drops_behind a b d c.in-Ok.ensures.looks c.args.addr) c.drop_found.ensures.dropped

pub returns-in-Ok-clause-busy : goal.returns-in-Ok-clause-busy
returns-in-Ok-clause-busy c =
    let a = c.args.c.now in let b = c.look_up.new.c in let d = c.drop_found.new.c in
    err_then c.drop_found.result (λ (w : Busy). MeetsOn b d c.args.addr w) (λ (w : Busy). MeetsOn a d c.args.addr w) (meets_behind a b d c.in-Ok.ensures.looks c.args.addr) c.drop_found.ensures.busy

pub returns-in-Ok-clause-tagged : goal.returns-in-Ok-clause-tagged
returns-in-Ok-clause-tagged c = λ k.
    let a = c.args.c.now in let b = c.look_up.new.c in
    drops_at_once a b c.drop_found.new.c c.args.addr c.in-Ok.found c.drop_found.result (subst (λ (r : Result Found Busy). FindsAtOnce a b r) c.in-Ok.is (c.look_up.ensures.tagged k)) c.drop_found.ensures.front
