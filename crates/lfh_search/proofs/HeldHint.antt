-- The first pass of the holder of Back, from before it read the word of its hint.
use Rattle.std.proofs.Common.{◌≡◌, ℕ, true, [], ◌∷◌, ◌++◌, Option, ◌∙◌, subst}
use Rattle.heap_model.specs.declared.What.TheVariants as whats
use Rattle.heap_model.specs.State.{Area, holds}
use Rattle.heap_model.specs.CallState.{not_begun}
use Rattle.heap_gate.specs.Token.{Token, now, Always}
use Rattle.lfh_claims.specs.Search.{own_slot}
use Rattle.lfh_spans.specs.Hints.{ReadsHint}
use Rattle.lfh_search.specs.declared.hint.Found.{Found}
use Rattle.lfh_search.specs.declared.hint.First.{First}
use Rattle.lfh_search.specs.declared.hint.First.TheVariants.{Claimed, Spent}
use Rattle.lfh_search.specs.Acts.{by}
use Rattle.lfh_search.specs.Results.{Searches, place}
use Rattle.lfh_search.specs.Passes.{IsThere}
use Rattle.lfh_search.specs.Hints.{IsSpentBy, HasSpentHint, HasFound, HintSearched, IsOfHint}
use Rattle.lfh_search.proofs.Steps.{earlier, runs_then}
use Rattle.lfh_search.proofs.Words.{searches_on, same_slot, back_on}
use Rattle.lfh_search.proofs.Placing.{placed_behind}

module _ (c e : Token) (b d : ℕ) (h : Searches c b d not_begun) (r : Option ℕ) (x : ReadsHint c e b r) where
  pub searching_on : Searches e b d not_begun
  searching_on = searches_on c e [] tt x.runs b d not_begun h

  pub slot_on : own_slot e ≡ own_slot c
  slot_on = same_slot c e [] tt x.runs b d not_begun h

  module _ (n : Token) where
    found_from : (f : Found) → HasFound e n b f → HasFound c n b f
    found_from f y = record { placed = placed_behind c e n b f.head f.index [] c.searched tt x.runs x.stands slot_on y.placed; address = y.address }

    spent_from : (lost : ℕ) → HasSpentHint e n b d lost → HasSpentHint c n b d lost
    spent_from lost y = record {
      its = y.its;
      are = y.are;
      runs = runs_then c e n [] y.its y.are x.runs y.runs;
      stands = record {
        call = y.stands.call ∙ x.stands.call;
        fresh = y.stands.fresh ∙ x.stands.fresh;
        locked = y.stands.locked ∙ x.stands.locked;
        inside = y.stands.inside ∙ x.stands.inside;
        depth = y.stands.depth ∙ x.stands.depth;
        out = y.stands.out ∙ x.stands.out;
        owes = y.stands.owes ∙ x.stands.owes;
        free = y.stands.free ∙ x.stands.free;
        searches = y.stands.searches ∙ x.stands.searches;
        searched = y.stands.searched;
        drawn = y.stands.drawn ∙ x.stands.drawn;
        whole = y.stands.whole;
        pending = y.stands.pending;
        prepared = y.stands.prepared;
      };
      count = y.count;
      why = subst (λ (t : ℕ). IsSpentBy b t d lost y.its) slot_on y.why;
      search = y.search;
      searching = y.searching;
      at = y.at;
    }

    pub searched_from : (z : First) → HintSearched e n b d z → HintSearched c n b d z
    searched_from (Claimed f) y = found_from f y
    searched_from (Spent lost) y = spent_from lost y

    pub there_from : Always c (λ s. holds (now s c).state.gate c.number whats.Back ≡ true) → (z : First) → HintSearched e n b d z → IsOfHint e n b z → IsOfHint c n b z
    there_from held (Claimed f) y z = λ s q.
        let p = earlier e n (by e.number (y.placed.its ++ place b f.head f.index ∷ [])) y.placed.moves.does s q in
        subst (λ (v : Area × ℕ). IsThere v.0 b v.1 f.head) (λ j. ((back_on c e [] tt x.runs held s p j).area, slot_on j)) (z s q)
    there_from held (Spent lost) y z = tt
