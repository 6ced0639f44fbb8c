use Rattle.std.proofs.Common.{◌≡◌, ◌*◌, subst, sym, replicate, rules}
use Rattle.page_ranges.specs.Ranges.{IsWhole}
use Rattle.page_ranges.proofs.Fresh.{fresh_whole}
use Rattle.page_ranges.proofs.Descs.new.Goals as goal

pub returns-clause-whole : goal.returns-clause-whole
returns-clause-whole c =
    let e : c.in_ok-words.words.items ≡ replicate (256 * c.args.limits.now.segments) 0 = search rules in
    subst IsWhole (sym e) (fresh_whole (256 * c.args.limits.now.segments))
