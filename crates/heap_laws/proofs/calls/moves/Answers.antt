use Rattle.std.proofs.Common.{refl, inr, [], ◌∷◌, false}
use Rattle.heap_model.specs.declared.Act.TheVariants as acts
use Rattle.heap_model.specs.declared.Layer.TheVariants as layers
use Rattle.heap_model.specs.State.{Live, InHand}
use Rattle.heap_model.specs.Shape.{moving}
use Rattle.heap_laws.proofs.calls.moves.Goals as goal

pub returns : goal.returns
returns c = record {
  no_room = record { legal = refl; answered = record { one = (refl, refl); shape = (refl, record { old = record { start = 8240; granules = 3; layer = layers.Vs; status = Live 24 }; size = 24; leaves = (refl, refl); acts_are = refl }) } };
  moved = record { legal = refl; answered = record { one = (refl, refl); shape = inr (refl, record { old = record { start = 8240; granules = 3; layer = layers.Vs; status = Live 24 }; size = 24; made = record { start = 8320; granules = 14; layer = layers.Vs; status = InHand 0 }; values = 7 ∷ 0 ∷ 9 ∷ []; moves = acts.Place 8320 14 layers.Vs ∷ acts.Take 8256 24 ∷ moving 8256 24 8336 200 false (7 ∷ 0 ∷ 9 ∷ []); leaves = (refl, refl); address_is = refl; count = refl; moves_are = ([], moving 8256 24 8336 200 false (7 ∷ 0 ∷ 9 ∷ []), refl, refl); acts_are = refl }) } };
  another_word = refl;
  fits = refl;
}
