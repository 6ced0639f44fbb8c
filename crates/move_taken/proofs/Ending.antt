-- The new block is given, and the old one, which was taken, goes back to its subsegment.
use Rattle.std.proofs.Common.{◌≡◌, ℕ, ◌<◌, true, false, not, ◌&&◌, ◌||◌, List, [], ◌∷◌, length, Option, Some, refl, sym, ap, ◌∙◌, subst, arith, eq-eqb}
use Rattle.std.specs.Prelude.{is_some}
use Rattle.std.specs.List.{find}
use Rattle.std.proofs.lemmas.Bool.{and_from, ne_eqb}
use Rattle.heap_model.specs.declared.Act.{Act}
use Rattle.heap_model.specs.declared.Act.TheVariants as acts
use Rattle.heap_model.specs.declared.Opening.{Opening}
use Rattle.heap_model.specs.declared.What.{What}
use Rattle.heap_model.specs.declared.What.TheVariants as whats
use Rattle.heap_model.specs.CallState.{Configuration, caller_view}
use Rattle.heap_model.specs.Layers.{StandsForVs, StandsForBack, StandsForLarge}
use Rattle.heap_model.specs.Legal.{after, may, may_follow, meets_demand, is_begin, may_touch, suits, with_places, with_status, layer_of}
use Rattle.heap_model.specs.Ranges.{vs_spans}
use Rattle.heap_model.specs.Stay.{for_some}
use Rattle.heap_model.specs.State.{Setting, State, Area, Place, Live, address, has_address, is_entered, is_hand_at, hands, hand_at, in_hand, places_of, holds, change_found, remove_found}
use Rattle.claim_rule.specs.Entries.{IsSettingOf, entry, is_of_lfh, may_prepare}
use Rattle.claim_rule.specs.Shown.{lfh_spans}
use Rattle.heap_soundness.specs.Sound.{IsOneOf}
use Rattle.step_parts.proofs.BlocksInHand.{found_lfh}
use Rattle.step_parts.proofs.ChangedPlaces.{with_lfh}
use Rattle.backend_fit.specs.Kept as backs
use Rattle.large_blocks.specs.Table as larges
use Rattle.vs_layer.specs.Standing as vss
use Rattle.heap_gate.specs.Token.{Token, Always, now, IsStanding, is_out}
use Rattle.heap_gate.specs.Calls.{with_prepared, rested, HasRested}
use Rattle.lfh_claims.specs.declared.tag.Tag.{Tag}
use Rattle.lfh_claims.specs.Blocks.{HasCleared, MayGiveUp}
use Rattle.lfh_claims.specs.Moves.{IsWith}
use Rattle.lfh_claims.specs.Stays.{HasRead, IsInside}
use Rattle.lfh_claims.proofs.Known.{clears_in_hand}
use Rattle.call_parts.specs.Entries.{HasAdded, HasEnded}
use Rattle.call_parts.proofs.Joining.{goes_does, setting_before}
use Rattle.call_parts.proofs.Tokens.{now_more, prepares, added_one, added_then, added_rested}
use Rattle.move_parts.specs.Moves.{IsTaken, with_given}
use Rattle.move_parts.proofs.Ended.{vs_stands, vs_used, back_stands, large_stands}
use Rattle.move_parts.proofs.Movers.{taken_hands}
use Rattle.move_taken.specs.Holds.{taken_place}
use Rattle.move_taken.specs.Moved.{MayEndTaken, EndsTaken}
use Rattle.move_taken.proofs.Blocks.{hand_there, taken_block}
use Rattle.move_taken.proofs.Hands.{both_hands, one_hand, none_left}

module _ (u : Token) (tag : Tag) (addr b n : ℕ) (q : Place) (h : MayEndTaken u tag addr b n q) (st : IsStanding u) where
  abbrev p : Place
  p = taken_place tag.bucket addr u.number

  abbrev give : Act
  give = acts.Give b n

  pub room : length u.prepared < 16
  room = let f = h.half.few in omega (arith, f)

  ---- The new block is given

  hand_q : Always u (λ s. hand_at (now s u).state u.number b ≡ Some q)
  hand_q s x = ap (find (has_address b)) (both_hands (now s u).state u.number p q refl h.half.new.behind (h.half.new.hand s x)) ∙ found
    where
      found : find (has_address b) (p ∷ q ∷ []) ≡ Some q
      found =
          let no : has_address b p ≡ false = ne_eqb addr b h.half.apart in
          let yes : has_address b q ≡ true = eq-eqb (address q) b h.half.new.at in
          rw (no, yes) refl

  follows : Always u (λ s. may_follow s (now s u) (entry u.number give) ≡ true)
  follows s x =
      let m = now s u in
      let demand : meets_demand m.state.back.area (entry u.number give) m.now.demand ≡ true = ap (meets_demand m.state.back.area (entry u.number give)) ((st s x).demand h.half.new.whole) in
      let begun : is_some (m.now.calls u.number).call ≡ true = ap is_some ((st s x).call ∙ h.half.call_is) in
      let entered : is_entered m.state.gate u.number ≡ true = (st s x).entered ∙ h.half.new.inside in
      let ok : may s m u.number give ≡ true =
      and_from (is_entered m.state.gate u.number) _ entered
      (ap (λ (o : Option Place). for_some o (λ (y : Place). may_touch (caller_view m u.number) y.layer && suits n y)) (hand_q s x)
      ∙ and_from (may_touch (caller_view m u.number) q.layer) (suits n q) (h.half.new.open_to s x) h.half.new.suits_it) in
      and_from (meets_demand m.state.back.area (entry u.number give) m.now.demand && (is_begin give || is_some (m.now.calls u.number).call)) (may s m u.number give)
      (and_from (meets_demand m.state.back.area (entry u.number give) m.now.demand) (is_begin give || is_some (m.now.calls u.number).call) demand begun) ok

  pub give_may : Always u (λ s. may_prepare s (now s u) u.number give ≡ true)
  give_may s x = prepares s (now s u) u.number give refl (ap (λ (o : Option Place). not (is_of_lfh o)) (hand_q s x) ∙ ap not h.half.new.behind) (follows s x)

  abbrev pub v : Token
  v = with_prepared u give

  state_v : Always u (λ s. (now s v).state ≡ with_given (now s u).state u.number q n)
  state_v s x =
      ap (λ (m : Configuration). m.state) (now_more s u give)
      ∙ (ap (λ (o : Option Place). with_places (now s u).state (layer_of o) (change_found (is_hand_at u.number b) (with_status (Live n)))) (hand_q s x)
      ∙ ap (λ (a : ℕ). with_places (now s u).state (Some q.layer) (change_found (is_hand_at u.number a) (with_status (Live n)))) (sym h.half.new.at))

  taken_v : Always u (λ s. IsTaken (now s v) u.number addr p)
  taken_v s x = record {
    at = refl;
    front = refl;
    status = refl;
    hand = λ layer.
        ap (λ (y : State). in_hand u.number (places_of y layer)) (state_v s x) ∙ one_hand (now s u).state u.number p q refl h.half.new.behind (h.half.new.hand s x) n layer;
  }

  read_v : HasRead v tag.head tag.bucket tag.slot
  read_v s x =
      let z = h.read s x in
      let same : (now s v).state.back.area ≡ (now s u).state.back.area = ap (λ (y : State). y.back.area) (state_v s x) in
      record { span = z.span; there = subst (λ (a : Area). IsOneOf z.span (lfh_spans a)) (sym same) z.there; begins = z.begins; bucket = z.bucket; slot = z.slot }

  module _ (sv : IsStanding v) where
    inside_v : IsInside v
    inside_v s x = (sv s x).entered ∙ h.half.new.inside

    pub may_give_up : MayGiveUp v tag addr
    may_give_up = clears_in_hand v tag addr inside_v read_v h.number (λ s x. taken_block (now s v) u.number tag.bucket addr (ap is_some ((sv s x).call ∙ h.half.call_is)) (taken_v s x))

    ---- The old one goes

    module _ (w : Token) (x : HasCleared v w addr) where
      abbrev drop : List Act
      drop = acts.Drop addr ∷ []

      dropped : HasAdded v w drop
      dropped = record {
        goes = goes_does v w drop x.moves.does x.stands.depth;
        steady = record { call = x.stands.call; fresh = x.stands.fresh; inside = x.stands.inside; searched = x.stands.searched; drawn = x.stands.drawn; owes = x.stands.owes };
      }

      before : (s : Setting) → IsSettingOf w.opening w.roll s → IsSettingOf u.opening u.roll s
      before s e = setting_before v w drop dropped.goes s e

      none : Always w (λ s. hands (now s w).state w.number ≡ [])
      none s e =
          let one = taken_hands (now s v) u.number addr p (taken_v s (before s e)) in
          let less : IsWith addr (hands (now s w).state u.number) (hands (now s v).state u.number) = x.moves.hands s e in
          subst (λ (k : ℕ). hands (now s w).state k ≡ []) (sym x.moves.does.number)
          (none_left addr (hands (now s w).state u.number) p (subst (IsWith addr (hands (now s w).state u.number)) one less))

      pub rests : IsStanding w → Always w (λ s. HasRested (now s w) w.number)
      rests sw s e = record { hands = none s e; demand = (sw s e).demand x.stands.whole }

      abbrev g : Setting → State
      g s = with_given (now s u).state u.number q n

      abbrev gone : Setting → Configuration
      gone s = after s (now s v) (entry u.number (acts.Drop addr))

      gone_is : Always u (λ s. (gone s).state ≡ with_lfh (now s v).state (remove_found (is_hand_at u.number addr) (now s v).state.lfh))
      gone_is s e = found_lfh (now s v).state (hand_at (now s v).state u.number addr) p (remove_found (is_hand_at u.number addr)) (hand_there (now s v) u.number tag.bucket addr (taken_v s e)) refl

      held : (what : What) → is_out what u.out ≡ true → Always u (λ s. holds (gone s).state.gate u.number what ≡ true)
      held what o s e = ap (λ (y : State). holds y.gate u.number what) (gone_is s e) ∙ ((sv s e).locks what ∙ o)

      part_vs : is_out whats.Vs u.out ≡ true → Always w (λ s. (now s w).state.vs ≡ (g s).vs)
      part_vs o s e = let y = before s e in (x.moves.agrees s e).vs (held whats.Vs o s y) ∙ (ap (λ (z : State). z.vs) (gone_is s y) ∙ ap (λ (z : State). z.vs) (state_v s y))

      spans_vs : is_out whats.Vs u.out ≡ true → Always w (λ s. vs_spans (now s w).state.back.area ≡ vs_spans (g s).back.area)
      spans_vs o s e = let y = before s e in (x.moves.agrees s e).spans (held whats.Vs o s y) ∙ (ap (λ (z : State). vs_spans z.back.area) (gone_is s y) ∙ ap (λ (z : State). vs_spans z.back.area) (state_v s y))

      part_back : is_out whats.Back u.out ≡ true → Always w (λ s. (now s w).state.back ≡ (g s).back)
      part_back o s e = let y = before s e in (x.moves.agrees s e).back (held whats.Back o s y) ∙ (ap (λ (z : State). z.back) (gone_is s y) ∙ ap (λ (z : State). z.back) (state_v s y))

      part_large : is_out whats.Large u.out ≡ true → Always w (λ s. (now s w).state.large ≡ (g s).large)
      part_large o s e = let y = before s e in (x.moves.agrees s e).large (held whats.Large o s y) ∙ (ap (λ (z : State). z.large) (gone_is s y) ∙ ap (λ (z : State). z.large) (state_v s y))

      same_opening : w.opening ≡ u.opening
      same_opening = dropped.goes.opening

      ended : HasEnded u (rested w) (give ∷ acts.Drop addr ∷ []) u.out
      ended = record {
        added = added_then u w (rested w) (give ∷ acts.Drop addr ∷ []) [] (added_then u v w (give ∷ []) drop (added_one u give refl) dropped) (added_rested w);
        out_is = x.stands.out;
        whole = refl;
        free = refl;
        pending = x.stands.pending;
        prepared = x.stands.prepared;
      }

      pub ends : EndsTaken u (rested w) addr b n q
      ends = record {
        ended = ended;
        vs = λ o vs will. record {
          tells = λ s e. subst (λ (k : Opening). StandsForVs k (now s w).state (vss.layer_of vs)) (sym same_opening) (vs_stands u.opening (g s) (now s w).state vs (will s (before s e)).1 (part_vs o s e) (spans_vs o s e));
          used = λ s e. vs_used (g s) (now s w).state (part_vs o s e) (spans_vs o s e) (will s (before s e)).0;
        };
        back = λ o back will s e. subst (λ (k : Opening). StandsForBack k (now s w).state (backs.layer_of back)) (sym same_opening) (back_stands u.opening (g s) (now s w).state back (will s (before s e)) (part_back o s e));
        large = λ o large will s e. subst (λ (k : Opening). StandsForLarge k (now s w).state (larges.layer_of large)) (sym same_opening) (large_stands u.opening (g s) (now s w).state large (will s (before s e)) (part_large o s e));
      }
