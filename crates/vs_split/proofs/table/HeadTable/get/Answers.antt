use Rattle.std.proofs.Common.{◌≡◌, ◌*◌, ◌<◌, true, false, length, get_or, None, sym, ap, ◌∙◌, arith}
use Rattle.std.proofs.lemmas.Grind.{common_steps}
use Rattle.std.proofs.lemmas.List.{get_or_past}
use Rattle.vs_headers.specs.Headers.{decoded}
use Rattle.vs_split.specs.Chunks.{Chunks, head_at}
use Rattle.vs_split.specs.Table.{told, filled_up, chunks_kept}
use Rattle.vs_split.proofs.FillLemmas.{get_or_filled, length_filled}
use Rattle.vs_split.proofs.TableLemmas.{head_is, unmarked_none}
use Rattle.vs_split.proofs.table.HeadTable.get.Goals as goal
use Rattle.vs_split.proofs.table.HeadTable.get.Goals.{else-at-len-via-then-at-len+else-index, else-at-len-via-else-at-len}

pub returns-then-index : goal.returns-then-index
returns-then-index c =
    let n = c.self.inside.granules in
    let words = c.self.inside.words.items in
    let starts = c.self.inside.starts.items in
    let within : c.args.granule < length (filled_up n 0 words) = omega (arith, c.if-at-len.true, c.len.ensures, c.self.invariant.3, c.self.invariant.4, length_filled n 0 words c.self.invariant.3) in
    let marked : get_or starts c.args.granule false ≡ true = grind (arith, common_steps) in
    let word : c.index-then-index.result.now ≡ get_or words c.args.granule 0 = grind (arith, common_steps) in
    c.decode.ensures
    ∙ ap (λ n. decoded c.index-then-index.result.now c.self.inside.key (16 * n)) c.from.ensures
    ∙ ap (λ w. decoded w c.self.inside.key (16 * c.args.granule)) (word ∙ sym (get_or_filled n c.args.granule 0 words))
    ∙ ap (λ s. told c.self.inside.key c.args.granule (get_or (filled_up n 0 words) c.args.granule 0) s) (sym (get_or_filled n c.args.granule false starts ∙ marked))
    ∙ sym (head_is c.self.inside.key (filled_up n 0 words) (filled_up n false starts) c.self.invariant.0 c.args.granule within)
    ∙ ap (λ (v : Chunks). head_at v c.args.granule) c.self.view_is

pub returns-else-at-len : goal.returns-else-at-len
returns-else-at-len c =
    let n = c.self.inside.granules in
    let words = c.self.inside.words.items in
    let starts = c.self.inside.starts.items in
    let unmarked : get_or starts c.args.granule false ≡ false = elim c.else-at-len.branch [
      | else-at-len-via-then-at-len+else-index w ↦ grind (arith, common_steps)
      | else-at-len-via-else-at-len w ↦ get_or_past starts c.args.granule false (omega (arith, w.if-at-len.false, c.len.ensures))
    ] in
    let none : head_at (chunks_kept c.self.inside.key n words starts) c.args.granule ≡ None =
    unmarked_none c.self.inside.key (filled_up n 0 words) (filled_up n false starts) c.self.invariant.0 c.args.granule (get_or_filled n c.args.granule false starts ∙ unmarked) in
    sym none ∙ ap (λ (v : Chunks). head_at v c.args.granule) c.self.view_is
