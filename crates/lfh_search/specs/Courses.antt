-- What a bucket and a draw fix of a search.
use Rattle.std.specs.Prelude.{◌≡◌, ℕ, ◌/◌, ◌%◌}
use Rattle.heap_model.specs.Buckets.{words_in_use, block_count}
use Rattle.lfh_buckets.specs.Blocks.{IsBucket}
use Rattle.lfh_search.specs.declared.course.Course.{Course}

pub record IsCourse (c : Course) : Type 0 where
  pub bucket : IsBucket c.bucket
  pub bit : c.bit ≡ c.draw.value % 64
  pub first : c.first ≡ c.draw.value / 64 % words_in_use c.bucket
  pub words : c.words ≡ words_in_use c.bucket
  pub blocks : c.blocks ≡ block_count c.bucket
