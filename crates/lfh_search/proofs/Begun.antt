-- The first pass of a search under Back: the block that it finds, or how the search goes on.
use Rattle.std.proofs.Common.{◌≡◌, ℕ, true, false, List, [], ◌∷◌, ◌++◌, refl, sym, ap, ◌∙◌, subst}
use Rattle.std.proofs.lemmas.List.{append-nil}
use Rattle.heap_model.specs.declared.Entry.{Entry}
use Rattle.heap_model.specs.declared.What.TheVariants as whats
use Rattle.heap_model.specs.State.{Setting, Area, BackPart, holds, hands}
use Rattle.heap_model.specs.CallState.{not_begun}
use Rattle.heap_model.specs.Search.{has_not_begun}
use Rattle.heap_model.specs.History.{configuration_after}
use Rattle.heap_model.specs.Agreement.{AgreesFor}
use Rattle.heap_model.proofs.Others.{agrees_trans}
use Rattle.claim_rule.specs.Entries.{IsSettingOf, setting_of}
use Rattle.claim_rule.specs.Places.{hint_at}
use Rattle.claim_rule.specs.Shown.{hint_word}
use Rattle.claim_rule.proofs.Advance.{some_setting}
use Rattle.span_steps.specs.Stores.{paid_off}
use Rattle.backend_fit.specs.Kept.{Kept, area_of}
use Rattle.backend_fit.specs.Sound.{IsSound}
use Rattle.data_words.proofs.Copying.{does_then}
use Rattle.heap_gate.specs.Token.{Token, now, Always, is_out, IsStanding}
use Rattle.heap_gate.specs.Calls.{Does, Runs, Stands, stance}
use Rattle.lfh_claims.specs.Search.{own_slot}
use Rattle.step_parts.specs.InHand.{HasBlock}
use Rattle.lfh_search.specs.declared.course.Course.{Course}
use Rattle.lfh_search.specs.declared.hint.Found.{Found}
use Rattle.lfh_search.specs.Acts.{by}
use Rattle.lfh_search.specs.Results.{place}
use Rattle.lfh_search.specs.Passes.{IsThere, IsOfPass}
use Rattle.lfh_search.specs.Hints.{HasSpentHint, HasFound}
use Rattle.lfh_search.specs.Under.{Found as There, HasNotSaid}
use Rattle.lfh_search.specs.Both.{IsAtStart, HasSearchedTo, HasSpentFirst}
use Rattle.lfh_search.proofs.Steps.{earlier}
use Rattle.lfh_search.proofs.Hinting.{slot_by_does, held_behind, back_behind, hint_here}
use Rattle.lfh_search.proofs.Entering.{holds_back, said_on, back_of_on}
use Rattle.lfh_search.proofs.Looking.{hand_agrees, paid_one}
use Rattle.lfh_search.proofs.Taking.{read_none}
use Rattle.lfh_search.proofs.Beside.{served_beside}
use Rattle.lfh_search.proofs.Joined.{readings_of}

module _ (c : Token) (back : Kept) (course : Course) (u : IsAtStart c back course) (st : IsStanding c) where
  abbrev b : ℕ
  b = course.bucket

  abbrev d : ℕ
  d = course.draw.value

  held : Always c (λ s. holds (now s c).state.gate c.number whats.Back ≡ true)
  held = holds_back c st u.out

  ---- A block was claimed

  module _ (c2 : Token) (f : Found) (x : HasFound c c2 b f) (near : Always c2 (λ s. IsThere (now s c).state.back.area b (own_slot c) f.head)) (sound : IsSound back) where
    abbrev es : List Entry
    es = by c.number (x.placed.its ++ place b f.head f.index ∷ [])

    there : IsThere (area_of back) b (own_slot c) f.head
    there =
        let s = setting_of c2.opening c2.roll in
        let q = some_setting c2.opening c2.roll in
        subst (λ (a : Area). IsThere a b (own_slot c) f.head) (sym (ap (λ (p : BackPart). p.area) (u.back_is s (earlier c c2 es x.placed.moves.does s q)).part)) (near s q)

    pub slot2 : own_slot c2 ≡ own_slot c
    slot2 = slot_by_does c c2 es b d not_begun x.placed.moves.does u.searching

    pub out2 : is_out whats.Back c2.out ≡ true
    out2 = ap (is_out whats.Back) x.placed.stands.out ∙ u.out

    -- the hint that is to be stored
    pub hint2 : Always c2 (λ s. hint_word (now s c2).state.back.area (now s c2).now.span_history b (own_slot c2) ≡ f.head)
    hint2 s q = ap (hint_word (now s c2).state.back.area (now s c2).now.span_history b) slot2 ∙ hint_here c c2 back b f.head f.index x.placed there u.back_is sound held s q

    module _ (c3 : Token) (store : Runs c2 c3 []) (stored : Stands c3 (record (stance c2) { owes = paid_off (hint_at b (own_slot c2)) c2.owes })) where
      before : (s : Setting) → IsSettingOf c3.opening c3.roll s → IsSettingOf c2.opening c2.roll s
      before s q = earlier c2 c3 [] store.does s q

      still : (s : Setting) → IsSettingOf c3.opening c3.roll s → AgreesFor c.number (now s c3) (now s c2)
      still s q = subst (λ (n : ℕ). AgreesFor n (now s c3) (now s c2)) x.placed.moves.does.number (store.agrees s q)

      agrees : (s : Setting) → IsSettingOf c3.opening c3.roll s → AgreesFor c.number (now s c3) (configuration_after s (now s c) es)
      agrees s q = agrees_trans c.number (now s c3) (now s c2) (configuration_after s (now s c) es) (still s q) (x.placed.moves.agrees s (before s q))

      pub found_to : HasSearchedTo c c3 back back course f.addr
      found_to = record {
        its = x.placed.its;
        are = readings_of x.placed.its x.placed.are;
        made = [];
        head = f.head;
        index = f.index;
        below = x.placed.below;
        came = There there refl refl;
        address = x.address;
        does = subst (Does c c3) (append-nil es) (does_then c c2 c3 es [] x.placed.moves.does store.does);
        beside = λ s q. served_beside s c.number back back b (own_slot c) d f.head f.index x.placed.its [] (now s c) (now s c3) x.placed.are (There there refl refl) (agrees s q);
        hands = λ s q. subst (λ (n : ℕ). hands (now s c3).state n ≡ hands (now s c2).state n) x.placed.moves.does.number (store.hands s q) ∙ x.placed.moves.hands s (before s q);
        block = λ s q. subst (HasBlock (now s c3) c.number b) (sym x.address) (hand_agrees s c.number b _ (now s c3) (now s c2) (still s q) (x.placed.block s (before s q)));
        stands = record {
          call = stored.call ∙ x.placed.stands.call;
          fresh = stored.fresh ∙ x.placed.stands.fresh;
          locked = stored.locked ∙ x.placed.stands.locked;
          inside = stored.inside ∙ x.placed.stands.inside;
          depth = stored.depth ∙ x.placed.stands.depth;
          out = stored.out ∙ x.placed.stands.out;
          owes = stored.owes ∙ (ap (paid_off (hint_at b (own_slot c2))) x.placed.stands.owes ∙ (paid_one (is_out whats.Back c.out) b (own_slot c) (own_slot c2) x.placed.hint c.owes u.out u.paid slot2 ∙ sym u.paid));
          free = stored.free ∙ x.placed.stands.free;
          searches = stored.searches ∙ x.placed.stands.searches;
          searched = stored.searched ∙ x.placed.stands.searched;
          drawn = stored.drawn ∙ x.placed.stands.drawn;
          whole = stored.whole;
          pending = stored.pending;
          prepared = stored.prepared;
        };
        back_is = back_of_on c2 c3 [] tt store back (held_behind c c2 back b f.head f.index x.placed there u.back_is sound held) (back_behind c c2 back b f.head f.index x.placed there u.back_is sound held);
      }

  ---- None was

  pub spent_first : (c2 : Token) (lost : ℕ) → HasSpentHint c c2 b d lost → HasSpentFirst c c2 back course lost
  spent_first c2 lost x =
      let f = x.search in
      let said : HasNotSaid c2 = said_on c c2 x.its x.are x.runs false u.first in
      record {
        spent = x;
        search = f;
        under = record {
          searching = x.searching;
          lost_is = x.at.lost_is;
          few = x.at.few;
          picked = x.at.picked;
          begins = λ l. let y = x.at.ended l in record { begun = ap has_not_begun y.0; ended = y.1; none_read = read_none f f.stage refl refl y.0 };
          of_pass = λ l. subst (IsOfPass c2) (sym (x.at.ended l).0) said;
          back_is = back_of_on c c2 x.its x.are x.runs back held u.back_is;
          out = ap (is_out whats.Back) x.stands.out ∙ u.out;
          paid = x.stands.owes ∙ u.paid;
          searched = x.stands.searched;
        };
        first = said;
      }
