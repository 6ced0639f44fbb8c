use Rattle.std.proofs.Common.{◌≡◌, ◌*◌, ◌<◌, true, Some, sym, ap, ◌∙◌, arith}
use Rattle.vs_headers.specs.Headers.{IsHead, encoded}
use Rattle.vs_split.specs.Table.{told}
use Rattle.vs_split.proofs.TableLemmas.{head_told}
use Rattle.vs_split.proofs.Written.{IsTable, all_granules, written, written_view}
use Rattle.vs_split.proofs.table.HeadTable.put.Goals as goal
use Rattle.vs_split.proofs.table.HeadTable.put.Goals.{After-encode}

before : (c : After-encode) → IsTable c.self.inside.key c.self.inside.granules c.self.inside.words.items c.self.inside.starts.items
before c = record { kept = c.self.invariant.0; few = c.self.invariant.3; same = c.self.invariant.4 }

inside : (c : After-encode) → c.args.granule < c.self.inside.granules
inside c = omega (arith, c.requires, all_granules c.self.inside.key c.self.inside.granules c.self.inside.words.items c.self.inside.starts.items (before c) c.args.self.now c.self.view_is)

narrow : (c : After-encode) → IsHead c.args.head
narrow c = record { units = c.widths.ensures.units; prev = c.widths.ensures.prev; unused = c.widths.ensures.unused }

word_is : (c : After-encode) → c.encode.result ≡ encoded c.args.head c.self.inside.key (16 * c.args.granule)
word_is c = c.encode.ensures ∙ ap (λ n. encoded c.args.head c.self.inside.key (16 * n)) c.from.ensures

pub fill_up-requires : goal.fill_up-requires
fill_up-requires c =
    let t : IsTable c.self.inside.key c.self.inside.granules c.self.inside.words.items c.self.inside.starts.items = record { kept = c.self.invariant.0; few = c.self.invariant.3; same = c.self.invariant.4 } in
    omega (arith, c.requires, c.self.invariant.1, all_granules c.self.inside.key c.self.inside.granules c.self.inside.words.items c.self.inside.starts.items t c.args.self.now c.self.view_is)

pub invariant_of-self : goal.invariant_of-self
invariant_of-self c =
    let d = (goal.at.invariant_of-self c).After-encode in
    let w = written c.self.inside.key c.self.inside.granules c.self.inside.words.items c.self.inside.starts.items (before d) c.args.granule c.encode.result true c.fill_up.new.values.items c.fill_up-2.new.values.items (inside d)
    c.fill_up.ensures.items c.fill_up-2.ensures.items (c.args.head, (narrow d, sym (word_is d))) in
    (w.kept, c.fill_up.ensures.room ∙ c.self.invariant.1, c.fill_up-2.ensures.room ∙ c.self.invariant.2, w.few, w.same)

pub returns : goal.returns
returns c =
    let d = (goal.at.returns c).After-encode in
    written_view c.self.inside.key c.self.inside.granules c.self.inside.words.items c.self.inside.starts.items (before d) c.args.granule c.encode.result true c.fill_up.new.values.items c.fill_up-2.new.values.items (inside d)
    c.fill_up.ensures.items c.fill_up-2.ensures.items (c.args.head, (narrow d, sym (word_is d))) c.args.self.now (Some c.args.head) c.self.view_is
    (ap (λ w. told c.self.inside.key c.args.granule w true) (word_is d) ∙ head_told c.self.inside.key c.args.granule c.args.head (narrow d))
