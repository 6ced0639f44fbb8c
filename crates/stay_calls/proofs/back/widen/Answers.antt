use Rattle.std.proofs.Common.{◌≤◌, arith}
use Rattle.stay_calls.proofs.BackStays.{widened}
use Rattle.stay_calls.proofs.back.widen.Goals as goal

pub returns : goal.returns
returns c =
    let x = c.resize.ensures in let n = c.args.n in let a = c.if-n-le-MOST_VARIABLE.false in let b = c.if-n-gt-MOST_PAGED.false in
    let least : 131073 ≤ n = omega (arith, a) in let most : n ≤ 520192 = omega (arith, b) in
    widened c.args.back.now c.resize.new.self c.args.run.now n c.pages_for-pages.result c.resize.result least most c.pages_for-pages.ensures.pages c.requires.there x.fits x.stays x.spans x.limits x.stands
