use Rattle.std.proofs.Common.{◌≡◌, ℕ, ◌+◌, ◌-◌, ◌*◌, ◌/◌, ◌%◌, ◌<◌, ◌≤◌, min, ap, arith}
use Rattle.std.proofs.lemmas.Grind.{div_ceil_times}
use Rattle.std.proofs.lemmas.Nat.{mul-le}
use Rattle.heap_model.specs.Buckets.{block_size}
use Rattle.lfh_buckets.proofs.BlockLemmas.{size_in_granules}
use Rattle.walk_calls.proofs.subsegments.first_from.Goals as goal

-- a block whose number is below the quotient, rounded up, begins before the address
before : (base from s d q i : ℕ) → 0 < s → d ≡ from - base → q ≡ d / s + min 1 (d % s) → i < q → base + i * s < from
before base from s d q i some e f l =
    let most = (div_ceil_times d s some).1 in
    let least : (i + 1) * s ≤ (d / s + min 1 (d % s)) * s = mul-le (i + 1) s (d / s + min 1 (d % s)) s (omega arith) (omega arith) in
    omega arith

pub returns-clause-before : goal.returns-clause-before
returns-clause-before c = λ i l.
    let size : c.from.result ≡ block_size c.args.bucket = omega (arith, c.from.ensures, c.block_size.ensures) in
    let some : 0 < c.from.result = omega (arith, (size_in_granules c.args.bucket c.requires.bucket).1) in
    let low = before (4096 * c.args.head + 64) c.args.from c.from.result c.saturating_sub-offset.result c.div_ceil-index.result i some (omega (arith, c.saturating_sub-offset.ensures, c.block_at.ensures)) c.div_ceil-index.ensures (omega (arith, c.min.ensures)) in
    omega (arith, low, ap (λ x. i * x) size)
