use Rattle.std.proofs.Common.{refl, inr}
use Rattle.rand_pcg.specs.Lcg.{state_after}
use Rattle.heap_model.specs.Search.{draw_of}
use Rattle.heap_laws.proofs.calls.meets_another.Goals as goal

pub returns : goal.returns
unfolding draw_of state_after
returns c = record {
  busy = record { legal = refl; answered = record { one = (refl, refl); shape = inr (16, refl) } };
  nobody = refl;
}
