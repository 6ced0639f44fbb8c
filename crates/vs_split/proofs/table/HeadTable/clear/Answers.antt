use Rattle.std.proofs.Common.{◌<◌, false, None, refl, ◌∙◌, arith}
use Rattle.vs_split.proofs.Written.{IsTable, all_granules, written, written_view}
use Rattle.vs_split.proofs.table.HeadTable.clear.Goals as goal
use Rattle.vs_split.proofs.table.HeadTable.clear.Goals.{After-fill_up-2}

before : (c : After-fill_up-2) → IsTable c.self.inside.key c.self.inside.granules c.self.inside.words.items c.self.inside.starts.items
before c = record { kept = c.self.invariant.0; few = c.self.invariant.3; same = c.self.invariant.4 }

inside : (c : After-fill_up-2) → c.args.granule < c.self.inside.granules
inside c = omega (arith, c.requires, all_granules c.self.inside.key c.self.inside.granules c.self.inside.words.items c.self.inside.starts.items (before c) c.args.self.now c.self.view_is)

pub fill_up-requires : goal.fill_up-requires
fill_up-requires c =
    let t : IsTable c.self.inside.key c.self.inside.granules c.self.inside.words.items c.self.inside.starts.items = record { kept = c.self.invariant.0; few = c.self.invariant.3; same = c.self.invariant.4 } in
    omega (arith, c.requires, c.self.invariant.1, all_granules c.self.inside.key c.self.inside.granules c.self.inside.words.items c.self.inside.starts.items t c.args.self.now c.self.view_is)

pub invariant_of-self : goal.invariant_of-self
invariant_of-self c =
    let d = (goal.at.invariant_of-self c).After-fill_up-2 in
    let w = written c.self.inside.key c.self.inside.granules c.self.inside.words.items c.self.inside.starts.items (before d) c.args.granule 0 false c.fill_up.new.values.items c.fill_up-2.new.values.items (inside d)
    c.fill_up.ensures.items c.fill_up-2.ensures.items refl in
    (w.kept, c.fill_up.ensures.room ∙ c.self.invariant.1, c.fill_up-2.ensures.room ∙ c.self.invariant.2, w.few, w.same)

pub returns : goal.returns
returns c =
    let d = (goal.at.returns c).After-fill_up-2 in
    written_view c.self.inside.key c.self.inside.granules c.self.inside.words.items c.self.inside.starts.items (before d) c.args.granule 0 false c.fill_up.new.values.items c.fill_up-2.new.values.items (inside d)
    c.fill_up.ensures.items c.fill_up-2.ensures.items refl c.args.self.now None c.self.view_is refl
