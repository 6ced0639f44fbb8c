-- A block of VS was given under both locks.
use Rattle.std.proofs.Common.{◌≡◌, ℕ, Bool, true, false, [], ◌∷◌, ◌++◌, refl, sym, ap, ◌∙◌, subst}
use Rattle.heap_model.specs.declared.Act.TheVariants as acts
use Rattle.heap_model.specs.declared.Opening.{Opening}
use Rattle.heap_model.specs.declared.What.TheVariants as whats
use Rattle.heap_model.specs.Layers.{StandsForBack, sorted_back}
use Rattle.heap_model.specs.Shape.{zeroing}
use Rattle.heap_model.specs.State.{State, Place}
use Rattle.backend_fit.specs.Kept.{Kept}
use Rattle.backend_fit.specs.Kept as backs
use Rattle.vs_layer.specs.Kept.{VsKept}
use Rattle.heap_gate.specs.Token.{Token, now, is_out}
use Rattle.call_parts.specs.Entries.{HasNew, HasAdded, HasEnded, HasHandedOver}
use Rattle.call_parts.proofs.Joining.{setting_before}
use Rattle.call_parts.proofs.Tokens.{ended_then}
use Rattle.lfh_spans.specs.Subsegments.{IsBackOf}
use Rattle.fall_calls.specs.Both.{both_slots, gives, HasTwo, HasBlock}

---- The locks

pub vs_out : (vs_last : Bool) → is_out whats.Vs (both_slots vs_last) ≡ true
vs_out true = refl
vs_out false = refl

pub back_out : (vs_last : Bool) → is_out whats.Back (both_slots vs_last) ≡ true
back_out true = refl
back_out false = refl

-- what the back end tells it tells where its part is the same
pub back_still : (o p : Opening) (back : Kept) (m k : State) → p ≡ o → k.back ≡ m.back → StandsForBack o m (backs.layer_of back) → StandsForBack p k (backs.layer_of back)
back_still o p back m k e same t = record { lock = t.lock; limits = t.limits ∙ ap (λ (x : Opening). x.limits) (sym e); part = t.part ∙ ap sorted_back (sym same) }

---- The block

module _ (c d : Token) (vs : VsKept) (back : Kept) (addr n : ℕ) (zero_it vs_last : Bool) (b : HasBlock c vs back addr n vs_last) (over : (p : Place) → HasNew c p addr n → HasHandedOver c d p n zero_it) where
  over_it : HasHandedOver c d b.block.place n zero_it
  over_it = over b.block.place b.block.new

  pub added : HasAdded c d (zeroing zero_it addr n ++ acts.Give addr n ∷ [])
  added = subst (λ (a : ℕ). HasAdded c d (zeroing zero_it a n ++ acts.Give a n ∷ [])) b.block.new.at over_it.added

  back_then : IsBackOf d back
  back_then s q =
      let qc = setting_before c d _ over_it.added.goes s q in
      back_still c.opening d.opening back (now s c).state (now s d).state over_it.added.goes.opening (over_it.kept_back b.block.layer (ap (is_out whats.Back) b.out_is ∙ back_out vs_last) s q) (b.back_is s qc)

  pub two : HasTwo d vs back vs_last
  two = record {
    inside = added.steady.inside ∙ b.block.new.inside;
    whole = over_it.whole;
    free = over_it.free;
    out_is = over_it.out_is ∙ b.out_is;
    owes = added.steady.owes ∙ b.owes;
    keeps = record { tells = λ s q. (b.block.once_given d zero_it over_it s q).1; used = λ s q. (b.block.once_given d zero_it over_it s q).0 };
    back_is = back_then;
  }

  pub ended : (f : Token) → HasEnded d f (gives vs_last) [] → HasEnded c f ((zeroing zero_it addr n ++ acts.Give addr n ∷ []) ++ gives vs_last) []
  ended f x = ended_then c d f (zeroing zero_it addr n ++ acts.Give addr n ∷ []) (gives vs_last) [] added x
