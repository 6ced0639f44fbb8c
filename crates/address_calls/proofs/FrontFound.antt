-- The front end found by the tag of a page alone.
use Rattle.std.proofs.Common.{◌≡◌, ℕ, ◌*◌, ◌/◌, ◌%◌, ◌<◌, [], Option, Some, None}
use Rattle.std.specs.Prelude.{IfSome, IfNone}
use Rattle.heap_model.specs.declared.Call.{Call}
use Rattle.heap_gate.specs.Token.{Token, IsStanding}
use Rattle.lfh_buckets.specs.Blocks.{IsBucket}
use Rattle.lfh_claims.specs.declared.tag.Tag.{Tag}
use Rattle.lfh_claims.specs.Blocks.{HasTag}
use Rattle.call_parts.specs.Calls.{IsServing}
use Rattle.address_calls.specs.Finds.{IsFront}
use Rattle.address_calls.specs.Tagged.{KnowsTag}
use Rattle.address_calls.proofs.AtOnce.{is_read}
use Rattle.address_calls.proofs.States.{of_front_there}

module _ (a b : Token) (addr page : ℕ) (call : Call) (v : IsServing a call []) (sb : IsStanding b) (at : page ≡ addr / 4096) where
  pub front_found : (told : Option Tag) → HasTag a b page told → IfSome told (λ tag. IsBucket tag.bucket × (tag.slot < 16)) → addr % 16 ≡ 0 → addr / 4096 < 256 * a.opening.limits.segments → IfSome told (IsFront b addr)
  front_found None x parts aligned below = tt
  front_found (Some tag) x parts aligned below = of_front_there a b addr page tag call v x parts.0 at aligned below sb

  -- where the tag is known it is not 0
  pub knows_still : (told : Option Tag) → HasTag a b page told → IsStanding a → IfNone told (KnowsTag a addr → KnowsTag b addr)
  knows_still None x sa = λ k. absurd (is_read a b addr page call v sa x sb at k)
  knows_still (Some tag) x sa = tt
