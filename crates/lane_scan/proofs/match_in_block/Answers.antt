-- The mask of the lanes says which words match.
use Rattle.lane_scan.proofs.BlockLemmas.{none_in_block, first_in_block}
use Rattle.lane_scan.proofs.match_in_block.Goals as goal

pub returns-then-matching-eq0-clause-none : goal.returns-then-matching-eq0-clause-none
returns-then-matching-eq0-clause-none c =
    none_in_block c.args.words.now c.args.mask c.args.value c.args.at c.requires c.if-matching-eq0.true

pub returns-else-matching-eq0-clause-found : goal.returns-else-matching-eq0-clause-found
returns-else-matching-eq0-clause-found c =
    first_in_block c.args.words.now c.args.mask c.args.value c.args.at c.requires c.if-matching-eq0.false
