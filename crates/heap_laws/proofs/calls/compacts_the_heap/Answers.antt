use Rattle.std.proofs.Common.{refl, [], ◌∷◌}
use Rattle.rand_pcg.specs.Lcg.{state_after}
use Rattle.heap_model.specs.Search.{draw_of}
use Rattle.heap_laws.proofs.calls.compacts_the_heap.Goals as goal

pub returns : goal.returns
unfolding draw_of state_after
returns c = record {
  compact = record { legal = refl; answered = record { one = (refl, refl); shape = record { pages = 18 ∷ []; acts_are = refl; spans_first = refl; all = (refl, refl); counted = refl } } };
  used = refl;
}
