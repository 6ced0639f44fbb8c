use Rattle.std.proofs.Common.{◌≡◌, sym, ap, ◌∙◌, List, ℕ}
use Rattle.std.specs.Prelude.{option_map}
use Rattle.std.specs.List.{find}
use Rattle.heap_model.specs.declared.Limits.{Limits}
use Rattle.heap_model.specs.State.{State}
use Rattle.large_blocks.specs.Table.{LargeTable, block_in, is_from}
use Rattle.large_blocks.proofs.Standing.{found_block}
use Rattle.vs_split.specs.Chunks.{Chunks}
use Rattle.layout_decode.specs.declared.Image.{Image}
use Rattle.layout_decode.specs.Decode.{page_blocks, table_blocks, is_at_or_after}
use Rattle.layout_decode.proofs.Walk.{find_in, find_behind}
use Rattle.walk_calls.specs.Seen.{IsImageOf}
use Rattle.walk_calls.proofs.runs.next_seen.Goals as goal

-- the descriptors and the chunks are those of the layers
as_read : (image : Image) {l : Limits} {ds es : List ℕ} {v w : Chunks} {st : State} → IsImageOf image l ds v st → es ≡ ds → w ≡ v → IsImageOf image l es w st
as_read image x e f = record { blocks = x.blocks; descs_are = x.descs_are ∙ sym e; heads_are = x.heads_are ∙ sym f; readable = x.readable }

pub returns-in-Some-clause-found : goal.returns-in-Some-clause-found
returns-in-Some-clause-found c = λ s q image x same.
    sym (find_in (is_at_or_after c.args.from) (page_blocks image) (table_blocks image.large) c.in-Some.block (sym (c.next_in_pages.ensures.found s q image (as_read image x c.descs.ensures.words c.heads.ensures.chunks)) ∙ c.in-Some.is))

pub returns-in-None-clause-found : goal.returns-in-None-clause-found
returns-in-None-clause-found c = λ s q image x same.
    c.next_block.ensures.found
    ∙ (ap (λ (t : LargeTable). option_map block_in (find (is_from c.args.from) t.blocks)) (sym same)
    ∙ sym (find_behind (is_at_or_after c.args.from) (page_blocks image) (table_blocks image.large) (sym (c.next_in_pages.ensures.found s q image (as_read image x c.descs.ensures.words c.heads.ensures.chunks)) ∙ c.in-None.is) ∙ found_block c.args.from image.large.blocks))
