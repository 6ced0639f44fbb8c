use Rattle.std.proofs.Common.{◌≡◌, ℕ, false, get_or, sym, ap, ◌∙◌, arith}
use denote.Ref.{Bor}
use Rattle.std.specs.Option.{unwrap_or, option_map}
use Rattle.vs_split.specs.Chunks.{Chunks, word_at}
use Rattle.vs_split.specs.Table.{filled_up}
use Rattle.vs_split.proofs.FillLemmas.{get_or_filled}
use Rattle.vs_split.proofs.TableLemmas.{word_is}
use Rattle.vs_split.proofs.table.HeadTable.word.Goals as goal

pub returns : goal.returns
returns c =
    let words = c.self.inside.words.items in
    let read : (d : ℕ) → unwrap_or (option_map (λ (x : Bor ℕ). x.now) c.get.result) d ≡ get_or c.deref.result.now c.args.granule d = c.get.ensures.lookup.4 (omega arith) in
    c.unwrap_or.ensures
    ∙ ap (λ o. unwrap_or o 0) c.copied.ensures
    ∙ read 0
    ∙ ap (λ l. get_or l c.args.granule 0) c.deref.ensures.value
    ∙ sym (get_or_filled c.self.inside.granules c.args.granule 0 words)
    ∙ sym (word_is c.self.inside.key (filled_up c.self.inside.granules 0 words) (filled_up c.self.inside.granules false c.self.inside.starts.items) c.self.invariant.0 c.args.granule)
    ∙ ap (λ (v : Chunks). word_at v c.args.granule) c.self.view_is
