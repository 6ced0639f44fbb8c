use Rattle.std.proofs.Common.{refl, inl, inr, [], ◌∷◌, false}
use Rattle.rand_pcg.specs.Lcg.{state_after}
use Rattle.heap_model.specs.Search.{draw_of}
use Rattle.heap_model.specs.declared.Act.TheVariants as acts
use Rattle.heap_model.specs.declared.Layer.TheVariants as layers
use Rattle.heap_model.specs.State.{Live, InHand}
use Rattle.heap_model.specs.Shape.{moving}
use Rattle.heap_laws.proofs.calls.front_end_blocks.Goals as goal

pub returns : goal.returns
unfolding draw_of state_after
returns c = record {
  grows = record { legal = refl; answered = record { one = (refl, refl); shape = inl (refl, inr (record { old = record { start = 73936; granules = 1; layer = layers.Lfh; status = Live 8 }; size = 8; front = refl; stays = (refl, refl); acts_are = refl })) } };
  too_far = refl;
  moves = record { legal = refl; answered = record { one = (refl, refl); shape = inr (refl, record { old = record { start = 73936; granules = 1; layer = layers.Lfh; status = Live 16 }; size = 16; made = record { start = 8784; granules = 8; layer = layers.Vs; status = InHand 0 }; values = 0 ∷ 0 ∷ []; moves = acts.Take 73936 16 ∷ acts.Place 8784 8 layers.Vs ∷ moving 73936 16 8800 100 false (0 ∷ 0 ∷ []); leaves = (refl, refl); address_is = refl; count = refl; moves_are = refl; acts_are = refl }) } };
  live = refl;
  no_fit = record { legal = refl; answered = record { one = (refl, refl); shape = (refl, record { old = record { start = 73936; granules = 1; layer = layers.Lfh; status = InHand 0 }; size = 16; there = refl; leaves = (refl, refl); acts_are = refl }) } };
  in_hand = refl;
}
