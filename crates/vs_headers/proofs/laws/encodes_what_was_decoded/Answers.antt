-- The decoded word is the sum of its fields, and masking twice changes nothing.
use Rattle.vs_headers.proofs.HeaderLemmas.{encodes}
use Rattle.vs_headers.proofs.laws.encodes_what_was_decoded.Goals as goal

pub returns : goal.returns
returns c = encodes
