use Rattle.std.proofs.Common.{◌<◌, ℕ, ◌∙◌, arith, subst, sym}
use Rattle.heap_model.specs.Buckets.{block_count}
use Rattle.lfh_spans.proofs.Drawn.{in_use_is, add_zero_mod, word_below, own_is, own_fits}
use Rattle.lfh_spans.proofs.search.own_block.Goals as goal

pub valid_bits-requires-clause-word : goal.valid_bits-requires-clause-word
valid_bits-requires-clause-word c =
    let n = in_use_is c.args.bucket c.div_ceil.result c.count.result c.count.ensures c.div_ceil.ensures in
    subst (λ (n : ℕ). n < 4) (add_zero_mod c.args.bucket c.args.draw.value c.div_ceil.result c.requires n) (word_below c.args.bucket c.args.draw.value c.div_ceil.result 0 c.requires n)

pub overflow_add-result : goal.overflow_add-result
overflow_add-result c = let f = (own_fits c.args.bucket 0 c.args.draw.value c.requires).1 in let o = (own_is c.args.bucket c.args.draw.value c.div_ceil.result c.valid_bits.result c.from.result c.pick.result (in_use_is c.args.bucket c.div_ceil.result c.count.result c.count.ensures c.div_ceil.ensures) c.valid_bits.ensures c.pick.ensures (c.from.ensures ∙ c.unwrap_or-bit.ensures)) in omega (arith, f, o)

pub overflow_cast-result : goal.overflow_cast-result
overflow_cast-result c = let f = (own_fits c.args.bucket 0 c.args.draw.value c.requires).1 in let o = (own_is c.args.bucket c.args.draw.value c.div_ceil.result c.valid_bits.result c.from.result c.pick.result (in_use_is c.args.bucket c.div_ceil.result c.count.result c.count.ensures c.div_ceil.ensures) c.valid_bits.ensures c.pick.ensures (c.from.ensures ∙ c.unwrap_or-bit.ensures)) in omega (arith, f, o)

pub returns-clause-drawn : goal.returns-clause-drawn
returns-clause-drawn c = own_is c.args.bucket c.args.draw.value c.div_ceil.result c.valid_bits.result c.from.result c.pick.result (in_use_is c.args.bucket c.div_ceil.result c.count.result c.count.ensures c.div_ceil.ensures) c.valid_bits.ensures c.pick.ensures (c.from.ensures ∙ c.unwrap_or-bit.ensures)

pub returns-clause-below : goal.returns-clause-below
returns-clause-below c = subst (λ (x : ℕ). x < block_count c.args.bucket) (sym (own_is c.args.bucket c.args.draw.value c.div_ceil.result c.valid_bits.result c.from.result c.pick.result (in_use_is c.args.bucket c.div_ceil.result c.count.result c.count.ensures c.div_ceil.ensures) c.valid_bits.ensures c.pick.ensures (c.from.ensures ∙ c.unwrap_or-bit.ensures))) (own_fits c.args.bucket 0 c.args.draw.value c.requires).0
