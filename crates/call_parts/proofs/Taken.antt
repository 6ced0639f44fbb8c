-- A state that was taken with its lock is one of the layer.
use Rattle.std.proofs.Common.{◌≡◌, subst}
use Rattle.heap_model.specs.declared.What.{What}
use Rattle.heap_model.specs.declared.What.TheVariants as whats
use Rattle.heap_model.specs.Layers.{LayerState}
use Rattle.claim_rule.specs.Entries.{setting_of}
use Rattle.claim_rule.specs.Home.{Tells}
use Rattle.claim_rule.proofs.Advance.{some_setting}
use Rattle.heap_gate.specs.Token.{Token, now}
use Rattle.heap_gate.specs.Calls.{HasTaken}

module _ {T : Type 0} (tells : T → LayerState) (old new : Token) (state : T) where
  pub is_vs : HasTaken tells old new whats.Vs state → (tells state).lock ≡ whats.Vs
  is_vs x = (x.tells_it (setting_of new.opening new.roll) (some_setting new.opening new.roll)).lock

  pub is_back : HasTaken tells old new whats.Back state → (tells state).lock ≡ whats.Back
  is_back x = (x.tells_it (setting_of new.opening new.roll) (some_setting new.opening new.roll)).lock

  pub is_large : HasTaken tells old new whats.Large state → (tells state).lock ≡ whats.Large
  is_large x = (x.tells_it (setting_of new.opening new.roll) (some_setting new.opening new.roll)).lock

  pub retold : {U : Type 0} (told : U → LayerState) (what : What) (layer : U) → tells state ≡ told layer → HasTaken tells old new what state → HasTaken told old new what layer
  retold told what layer e x = record {
    reveals = x.reveals;
    stands = x.stands;
    tells_it = λ s q. subst (λ (t : LayerState). Tells what new.opening (now s new).state t) e (x.tells_it s q);
    guarded = x.guarded;
    used = x.used;
  }
