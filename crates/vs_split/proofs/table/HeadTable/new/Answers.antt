use Rattle.std.proofs.Common.{◌≡◌, false, List, ℕ, Bool, replicate, ap, ◌∙◌}
use Rattle.vs_split.specs.Table.{filled_up}
use Rattle.vs_split.proofs.FillLemmas.{empty_filled}
use Rattle.vs_split.proofs.TableLemmas.{chunks_empty}
use Rattle.vs_split.proofs.table.HeadTable.new.Goals as goal

pub returns : goal.returns
returns c =
    let n = c.args.granules in
    let words : filled_up n 0 c.in_ok-words.words.items ≡ replicate n 0 = ap (λ (xs : List ℕ). filled_up n 0 xs) c.in_ok-words.ensures.items ∙ empty_filled n 0 in
    let starts : filled_up n false c.in_ok-starts.starts.items ≡ replicate n false = ap (λ (xs : List Bool). filled_up n false xs) c.in_ok-starts.ensures.items ∙ empty_filled n false in
    chunks_empty c.args.key n _ _ words starts
