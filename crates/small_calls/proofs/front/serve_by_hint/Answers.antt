use Rattle.std.proofs.Common.{◌<◌, sym, subst, arith}
use Rattle.heap_model.specs.declared.Opening.{Opening}
use Rattle.heap_model.specs.Limits.{AreValid}
use Rattle.heap_model.specs.CallState.{not_begun}
use Rattle.heap_gate.specs.Token.{Token}
use Rattle.lfh_claims.specs.Search.{own_slot}
use Rattle.search_laws.proofs.Blocks.{bucket_fits}
use Rattle.lfh_search.specs.Results.{Searches}
use Rattle.lfh_search.specs.Hints.{HasFound}
use Rattle.small_calls.proofs.Found.{searching, has_one, served, is_bucket}
use Rattle.small_calls.proofs.front.serve_by_hint.Goals as goal

pub search_hint-requires-clause-slot : goal.search_hint-requires-clause-slot
search_hint-requires-clause-slot c =
    let v = subst AreValid c.limits-limits.ensures.limits c.limits-limits.ensures.valid in
    let few = v.slots in
    let own = subst (λ (o : Opening). own_slot c.args.c.now < o.limits.slots) c.requires.table.1 c.check.ensures.slot in
    subst (λ (t : Token). own_slot t < 16) (sym c.draw-draw.ensures.drawn) (omega (arith, own, few))

pub search_hint-requires-clause-searches : goal.search_hint-requires-clause-searches
search_hint-requires-clause-searches c =
    let x = c.requires.asking in
    subst (λ (t : Token). Searches t c.args.bucket c.draw-draw.result.value not_begun) (sym c.draw-draw.ensures.drawn)
    (searching c.args.c.now c.args.bucket c.draw-draw.result.value c.args.n c.args.zero x.0 x.1 c.check.ensures.stands c.requires.bucket c.requires.active c.check_slot.ensures c.draw-draw.ensures.draw)

pub hand_over_front-requires-clause-size : goal.hand_over_front-requires-clause-size
hand_over_front-requires-clause-size c = (bucket_fits c.args.n c.args.bucket c.requires.bucket).0

pub hand_over_front-requires-clause-one : goal.hand_over_front-requires-clause-one
hand_over_front-requires-clause-one c =
    let a = c.args.c.now in let x = c.requires.asking in
    let found = subst (λ (t : Token). HasFound t c.search_hint.new.c c.args.bucket c.in-Claimed.found) c.draw-draw.ensures.drawn c.in-Claimed.ensures in (
      c.args.bucket,
      is_bucket c.args.n c.args.bucket c.requires.bucket,
      (bucket_fits c.args.n c.args.bucket c.requires.bucket).1,
      has_one a c.search_hint.new.c c.args.bucket c.args.n c.in-Claimed.found.addr c.args.zero x.0 x.1 c.check.ensures.stands c.requires.free c.in-Claimed.found found,
    )

pub returns-in-Claimed : goal.returns-in-Claimed
returns-in-Claimed c = λ out x.
    let a = c.args.c.now in
    let found = subst (λ (t : Token). HasFound t c.search_hint.new.c c.args.bucket c.in-Claimed.found) c.draw-draw.ensures.drawn c.in-Claimed.ensures in
    served a c.search_hint.new.c c.args.bucket c.args.n c.in-Claimed.found.addr c.args.zero out x c.check.ensures.stands c.requires.free c.in-Claimed.found found c.hand_over_front.new.c c.hand_over_front.ensures
