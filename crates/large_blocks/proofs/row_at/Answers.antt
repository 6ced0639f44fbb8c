use Rattle.large_blocks.proofs.Rows.{row_is_found, row_is_some}
use Rattle.large_blocks.proofs.row_at.Goals as goal

pub unwrap-requires : goal.unwrap-requires
unwrap-requires c = row_is_some c.args.blocks.now c.args.addr c.position_of.result c.position_of.ensures c.requires

pub returns : goal.returns
returns c = row_is_found c.args.blocks.now c.args.addr c.position_of.result c.unwrap.result c.position_of.ensures c.requires c.unwrap.ensures
