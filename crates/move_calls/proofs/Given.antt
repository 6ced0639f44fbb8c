-- Locks that are given back one behind another.
use Rattle.std.proofs.Common.{◌≡◌, ℕ, true, List, [], ◌∷◌, refl, ap, ◌∙◌}
use Rattle.heap_model.specs.declared.Act.{Act}
use Rattle.heap_model.specs.declared.Act.TheVariants as acts
use Rattle.heap_model.specs.declared.What.{What}
use Rattle.heap_model.specs.declared.What.TheVariants as whats
use Rattle.claim_rule.specs.Entries.{entry}
use Rattle.claim_rule.specs.Home.{slot_of}
use Rattle.backend_fit.specs.Kept.{Kept}
use Rattle.large_blocks.specs.Table.{LargeTable}
use Rattle.vs_layer.specs.Kept.{VsKept}
use Rattle.heap_gate.specs.Token.{Token, IsStanding, is_out}
use Rattle.heap_gate.specs.Calls.{HasGiven}
use Rattle.call_parts.specs.Entries.{HasEnded}
use Rattle.call_parts.proofs.Tokens.{ended_given}
use Rattle.move_parts.specs.Moves.{TellsVs, TellsBack, TellsLarge}
use Rattle.move_calls.specs.Holds.{IsResting, HasPut}
use Rattle.move_calls.proofs.Still.{still_runs}

pub has_put : (c d : Token) (what : What) (more : List ℕ) → IsResting c (slot_of what ∷ more) → HasGiven c d what (entry c.number (acts.GiveLock what) ∷ []) → IsStanding d → HasPut c d what more
has_put c d what more r g sd = record {
  ended = ended_given c d what more (acts.GiveLock what ∷ []) g r.out_is r.free;
  still = still_runs c d _ g.runs sd (λ s. (refl, refl, refl));
}

pub rests_then : (c d : Token) (added : List Act) (out more : List ℕ) → IsResting c out → HasEnded c d added more → IsResting d more
rests_then c d added out more r e = record {
  inside = e.added.steady.inside ∙ r.inside;
  whole = e.whole;
  free = e.free;
  out_is = e.out_is;
  owes = e.added.steady.owes ∙ r.owes;
}

---- One behind another

-- a lock was given back, and the caller rests with those that are left
module _ (c d : Token) (what : What) (more : List ℕ) (r : IsResting c (slot_of what ∷ more)) (x : HasPut c d what more) where
  pub next_table : (t : Rattle.atomic_table.specs.Seated.TableId) → c.table ≡ t → d.table ≡ t
  next_table t e = x.ended.added.goes.table ∙ e

  pub next_rests : IsResting d more
  next_rests = rests_then c d (acts.GiveLock what ∷ []) (slot_of what ∷ more) more r x.ended

  -- what is still held tells what it told
  pub next_vs : is_out whats.Vs (slot_of what ∷ more) ≡ true → is_out whats.Vs more ≡ true → (vs : VsKept) → TellsVs c vs → TellsVs d vs
  next_vs a b vs t = x.still.vs (ap (is_out whats.Vs) r.out_is ∙ a) (ap (is_out whats.Vs) x.ended.out_is ∙ b) vs t

  pub next_back : is_out whats.Back (slot_of what ∷ more) ≡ true → is_out whats.Back more ≡ true → (back : Kept) → TellsBack c back → TellsBack d back
  next_back a b back t = x.still.back (ap (is_out whats.Back) r.out_is ∙ a) (ap (is_out whats.Back) x.ended.out_is ∙ b) back t

  pub next_large : is_out whats.Large (slot_of what ∷ more) ≡ true → is_out whats.Large more ≡ true → (large : LargeTable) → TellsLarge c large → TellsLarge d large
  next_large a b large t = x.still.large (ap (is_out whats.Large) r.out_is ∙ a) (ap (is_out whats.Large) x.ended.out_is ∙ b) large t
