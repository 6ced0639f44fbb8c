use Rattle.std.proofs.Common.{sym, ap, ◌∙◌}
use Rattle.std.specs.Option.{option_map}
use Rattle.vs_split.specs.Chunks.{with_head, told_prev}
use Rattle.vs_split.proofs.TableLemmas.{with_none}
use Rattle.vs_split.proofs.table.HeadTable.set_prev.Goals as goal

pub returns-in-Some : goal.returns-in-Some
returns-in-Some c = c.put.ensures ∙ ap (λ o. with_head c.args.self.now c.args.granule (option_map (told_prev c.args.units) o)) c.in-Some.ensures

pub returns-in_default : goal.returns-in_default
returns-in_default c =
    sym (ap (λ o. with_head c.args.self.now c.args.granule (option_map (told_prev c.args.units) o)) (sym c.in_default.ensures)
    ∙ with_none c.args.self.now c.args.granule (sym c.in_default.ensures))
