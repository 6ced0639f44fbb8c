-- What the states of the layers tell, they tell where what their locks guard is as it was.
use Rattle.std.proofs.Common.{◌≡◌, true, [], sym, ap, ◌∙◌, subst}
use Rattle.std.specs.List.{list_all}
use Rattle.heap_model.specs.declared.Opening.{Opening}
use Rattle.heap_model.specs.declared.What.TheVariants as whats
use Rattle.heap_model.specs.Layers.{StandsForVs, StandsForBack, StandsForLarge, sorted_vs}
use Rattle.heap_model.specs.Legal.{has_place}
use Rattle.heap_model.specs.Ranges.{vs_spans}
use Rattle.heap_model.specs.State.{Setting, State, holds}
use Rattle.claim_rule.specs.Entries.{IsSettingOf}
use Rattle.backend_fit.specs.Kept.{Kept}
use Rattle.backend_fit.specs.Kept as backs
use Rattle.large_blocks.specs.Table.{LargeTable}
use Rattle.large_blocks.specs.Table as larges
use Rattle.vs_layer.specs.Kept.{VsKept}
use Rattle.vs_layer.specs.Standing as vss
use Rattle.heap_gate.specs.Token.{Token, Always, now, IsStanding, is_out}
use Rattle.heap_gate.specs.Calls.{Runs, Stands, stance}
use Rattle.call_parts.proofs.Joining.{goes_does, setting_before}
use Rattle.move_front.specs.Front as fronts
use Rattle.move_parts.specs.Moves.{TellsVs, TellsBack, TellsLarge}
use Rattle.move_parts.proofs.Ended.{back_stands, large_stands}

-- VS tells the places of a state and its spans
places_stand : (o : Opening) (m k : State) (vs : VsKept) → StandsForVs o m (vss.layer_of vs) → k.vs ≡ m.vs → vs_spans k.back.area ≡ vs_spans m.back.area → StandsForVs o k (vss.layer_of vs)
places_stand o m k vs t e f = record { lock = t.lock; limits = t.limits; key = t.key; part = t.part ∙ ap sorted_vs (sym e); spans = t.spans ∙ sym f }

-- from a token to a later one
module _ (c d : Token) (same : d.opening ≡ c.opening) (before : (s : Setting) → IsSettingOf d.opening d.roll s → IsSettingOf c.opening c.roll s) where
  pub vs_later : (vs : VsKept) → Always d (λ s. ((now s d).state.vs ≡ (now s c).state.vs) × (vs_spans (now s d).state.back.area ≡ vs_spans (now s c).state.back.area)) → TellsVs c vs → TellsVs d vs
  vs_later vs is k = record {
    tells = λ s q. let e = is s q in subst (λ (o : Opening). StandsForVs o (now s d).state (vss.layer_of vs)) (sym same) (places_stand c.opening (now s c).state (now s d).state vs (k.tells s (before s q)) e.0 e.1);
    used = λ s q. let e = is s q in (λ i. list_all (has_place 4096 ((e.0 i).places)) (e.1 i)) ∙ k.used s (before s q);
  }

  pub back_later : (back : Kept) → Always d (λ s. (now s d).state.back ≡ (now s c).state.back) → TellsBack c back → TellsBack d back
  back_later back is k s q = subst (λ (o : Opening). StandsForBack o (now s d).state (backs.layer_of back)) (sym same) (back_stands c.opening (now s c).state (now s d).state back (k s (before s q)) (is s q))

  pub large_later : (large : LargeTable) → Always d (λ s. (now s d).state.large ≡ (now s c).state.large) → TellsLarge c large → TellsLarge d large
  large_later large is k s q = subst (λ (o : Opening). StandsForLarge o (now s d).state (larges.layer_of large)) (sym same) (large_stands c.opening (now s c).state (now s d).state large (k s (before s q)) (is s q))

-- behind a load
module _ (c d : Token) (r : Runs c d []) (t : Stands d (stance c)) (st : IsStanding c) where
  before : (s : Setting) → IsSettingOf d.opening d.roll s → IsSettingOf c.opening c.roll s
  before s q = setting_before c d [] (goes_does c d [] r.does t.depth) s q

  pub vs_loaded : is_out whats.Vs c.out ≡ true → (vs : VsKept) → TellsVs c vs → TellsVs d vs
  vs_loaded out vs = vs_later c d r.does.opening before vs (λ s q.
      let h : holds (now s c).state.gate c.number whats.Vs ≡ true = (st s (before s q)).locks whats.Vs ∙ out in
      ((r.agrees s q).vs h, (r.agrees s q).spans h))

  pub back_loaded : is_out whats.Back c.out ≡ true → (back : Kept) → TellsBack c back → TellsBack d back
  back_loaded out back = back_later c d r.does.opening before back (λ s q. (r.agrees s q).back ((st s (before s q)).locks whats.Back ∙ out))

  pub large_loaded : is_out whats.Large c.out ≡ true → (large : LargeTable) → TellsLarge c large → TellsLarge d large
  large_loaded out large = large_later c d r.does.opening before large (λ s q. (r.agrees s q).large ((st s (before s q)).locks whats.Large ∙ out))

-- the one record of it as the other
pub as_moves : (c : Token) (vs : VsKept) → fronts.TellsVs c vs → TellsVs c vs
as_moves c vs x = record { tells = x.tells; used = x.used }

pub as_front : (c : Token) (vs : VsKept) → TellsVs c vs → fronts.TellsVs c vs
as_front c vs x = record { tells = x.tells; used = x.used }
