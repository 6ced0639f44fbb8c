-- The first node that fits has the best gap.
use Rattle.std.proofs.Common.{sym, ap, subst, ◌∙◌}
use Rattle.std.specs.Option.{MatchOption}
use Rattle.vs_free_tree.specs.Gaps.{Gaps, NoneFits, IsBest}
use Rattle.vs_free_tree.specs.Index.{GapTree}
use Rattle.vs_free_tree.specs.Slots.{IsTreeAt}
use Rattle.vs_free_tree.specs.Tree.{entries}
use Rattle.vs_free_tree.proofs.GapLemmas.{found_is_best}
use Rattle.vs_free_tree.proofs.KeptLemmas.{gaps_are}
use Rattle.vs_free_tree.proofs.FreeIndex.best.Goals as goal

pub best-requires : goal.best-requires
best-requires c = rw c.deref.ensures.value (c.self.invariant.tree, c.self.invariant.is_tree)

pub returns : goal.returns
returns c =
    let tree = subst (λ s. IsTreeAt s c.self.inside.root c.self.invariant.tree) (sym c.deref.ensures.value) c.self.invariant.is_tree in
    let gaps = sym (gaps_are c.self.inside.nodes.items c.self.inside.root c.self.inside.free c.self.inside.spare c.self.invariant) ∙ ap (λ (x : GapTree). x.gaps) c.self.view_is in
    subst (λ (g : Gaps). MatchOption c.best.result (NoneFits c.args.units g) (IsBest c.args.units g)) gaps
    (found_is_best c.args.units (entries c.self.invariant.tree) c.best.result c.self.invariant.is_tree.rising (c.best.ensures c.self.invariant.tree tree))
