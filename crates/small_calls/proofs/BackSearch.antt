-- A block that the search under Back has in hand is given.
use Rattle.std.proofs.Common.{◌≡◌, ℕ, ◌/◌, Bool, true, List, [], ◌∷◌, ◌++◌, refl, sym, ap, ◌∙◌, subst, inl, inr}
use Rattle.std.specs.Prelude.{is_some, nat_lt}
use Rattle.std.proofs.lemmas.Bool.{cases_Bool}
use Rattle.heap_model.specs.declared.Act.{Act}
use Rattle.heap_model.specs.declared.Act.TheVariants as acts
use Rattle.heap_model.specs.declared.Call.TheVariants as calls
use Rattle.heap_model.specs.declared.What.TheVariants as whats
use Rattle.heap_model.specs.Shape.{shape_of, zeroing}
use Rattle.heap_model.specs.State.{Area, Place, hands}
use Rattle.claim_rule.specs.Entries.{IsSettingOf}
use Rattle.claim_rule.specs.Places.{back_slot}
use Rattle.step_parts.specs.InHand.{HasBlock}
use Rattle.backend_fit.specs.Kept.{Kept, area_of}
use Rattle.heap_gate.specs.Token.{Token, now, is_out, IsStanding}
use Rattle.heap_gate.specs.Calls.{Does}
use Rattle.lfh_claims.specs.Moves.{block_place}
use Rattle.lfh_search.specs.declared.course.Course.{Course}
use Rattle.lfh_search.specs.Results.{place}
use Rattle.lfh_search.specs.Under.{CameBy, Found, Made, makes, HasServed}
use Rattle.call_parts.specs.Calls.{GoesOn}
use Rattle.call_parts.proofs.Joining.{goes_does, goes_then, setting_before}
use Rattle.call_parts.proofs.Serving.{none_begins, none_begins-append, shape-append}
use Rattle.small_calls.specs.Fronts.{HasOne}
use Rattle.small_calls.specs.Ways.{KeepsVs}
use Rattle.vs_calls.specs.Tries.{tries_none}
use Rattle.vs_calls.proofs.Tries.{none-append, none_zeroed}
use Rattle.small_calls.specs.Under.{IsGivenUnderBack, SearchesOn, IsServedUnderBack}
use Rattle.small_calls.proofs.Found.{same_by}
use Rattle.small_calls.proofs.Shown.{readings_shown, zeros_begun}
use Rattle.small_calls.proofs.BackHeld.{vs_kept}
use Rattle.small_calls.proofs.MadeLeft.{served_left}
use Rattle.small_calls.proofs.Tries.{none_read, none_came}

-- the acts that make a subsegment are not shown
makes_shown : (a : Area) (first b t : ℕ) → (shape_of (makes a first b t) ≡ []) × (none_begins (makes a first b t) ≡ true)
makes_shown a first b t = elim (cases_Bool (nat_lt (first / 256) a.reserved)) [ inl e ↦ rw e (refl, refl) | inr e ↦ rw e (refl, refl) ]

pub came_shown : (back after : Kept) (b t d head i : ℕ) (made : List Act) → CameBy back after b t d head i made → (shape_of made ≡ []) × (none_begins made ≡ true)
came_shown back after b t d head i made (Found there none same) = subst (λ (l : List Act). (shape_of l ≡ []) × (none_begins l ≡ true)) (sym none) (refl, refl)
came_shown back after b t d head i made (Made place are drawn) = subst (λ (l : List Act). (shape_of l ≡ []) × (none_begins l ≡ true)) (sym are) (makes_shown (area_of back) head b t)

module _ (a d : Token) (back after : Kept) (course : Course) (lost n addr : ℕ) (zero_it : Bool) (more : List ℕ) (h : SearchesOn a back course lost n zero_it more) (st : IsStanding a) (x : HasServed a d back after course addr) where
  number : d.number ≡ a.number
  number = x.does.number

  abbrev first : List Act
  first = x.its ++ (x.made ++ place course.bucket x.head x.index ∷ [])

  goes_first : GoesOn a d (x.its ++ (x.made ++ place course.bucket x.head x.index ∷ []))
  goes_first = goes_does a d first (subst (Does a d) (same_by a.number first) x.does) x.stands.depth

  before : (s : Rattle.heap_model.specs.State.Setting) → IsSettingOf d.opening d.roll s → IsSettingOf a.opening a.roll s
  before s q = setting_before a d first goes_first s q

  pub one_there : HasOne d course.bucket addr
  one_there = record {
    inside = x.stands.inside ∙ h.inside;
    whole = x.stands.whole;
    begun = ap is_some (x.stands.call ∙ h.call_is);
    prepared = x.stands.prepared;
    block = λ s q. subst (λ (z : ℕ). HasBlock (now s d) z course.bucket addr) (sym number) (x.block s q);
    alone = λ s q.
        let none : hands (now s a).state a.number ≡ [] = (st s (before s q)).hands h.free in (
          block_place course.bucket x.head x.index a.number,
          subst (λ (z : ℕ). hands (now s d).state z ≡ block_place course.bucket x.head x.index a.number ∷ []) (sym number) (x.hands s q ∙ ap (λ (ps : List Place). block_place course.bucket x.head x.index a.number ∷ ps) none),
        );
  }

  pub out_there : d.out ≡ back_slot ∷ more
  out_there = x.stands.out ∙ h.out_is

  pub paid_there : d.owes ≡ []
  paid_there = x.stands.owes ∙ h.under.paid

  module _ (e : Token) (g : IsGivenUnderBack d e addr n zero_it more) where
    abbrev last : List Act
    last = zeroing zero_it addr n ++ acts.Give addr n ∷ acts.GiveLock whats.Back ∷ []

    shown_first : (shape_of first ≡ place course.bucket x.head x.index ∷ []) × (none_begins first ≡ true)
    shown_first =
        let r = readings_shown x.its x.are in
        let m = came_shown back after course.bucket (Rattle.lfh_claims.specs.Search.own_slot a) course.draw.value x.head x.index x.made x.came in
        let ps : List Act = place course.bucket x.head x.index ∷ [] in
        (shape-append x.its (x.made ++ ps) ∙ (λ i. r.0 i ++ (shape-append x.made ps ∙ (λ j. m.0 j ++ ps)) i), none_begins-append x.its (x.made ++ ps) r.1 (none_begins-append x.made ps m.1 refl))

    shown_last : (shape_of last ≡ zeroing zero_it addr n ++ acts.Give addr n ∷ []) × (none_begins last ≡ true)
    shown_last = zeros_begun addr n zero_it (acts.Give addr n ∷ acts.GiveLock whats.Back ∷ []) refl

    tries_first : tries_none whats.Vs first ≡ true
    tries_first =
        let ps : List Act = place course.bucket x.head x.index ∷ [] in
        none-append whats.Vs x.its (x.made ++ ps) (none_read whats.Vs x.its x.are)
        (none-append whats.Vs x.made ps (none_came whats.Vs back after course.bucket (Rattle.lfh_claims.specs.Search.own_slot a) course.draw.value x.head x.index x.made x.came) refl)

    pub served_under : IsServedUnderBack a e (calls.Alloc n h.flags) course.bucket n zero_it addr more
    served_under = record {
      head = x.head;
      index = x.index;
      at = x.address;
      added = first ++ last;
      goes = goes_then a d e first last goes_first g.ended.added.goes;
      no_begin = none_begins-append first last shown_first.1 shown_last.1;
      no_vs = none-append whats.Vs first last tries_first (none_zeroed whats.Vs addr n zero_it (acts.Give addr n ∷ acts.GiveLock whats.Back ∷ []) refl);
      shape_is = shape-append first last ∙ ((λ i. shown_first.0 i ++ shown_last.0 i) ∙ (λ i. place course.bucket x.head x.index ∷ (zeroing zero_it (x.address i) n ++ acts.Give (x.address i) n ∷ [])));
      rests = record {
        call_is = g.ended.added.steady.call ∙ (x.stands.call ∙ h.call_is);
        fresh = g.ended.added.steady.fresh ∙ (x.stands.fresh ∙ h.fresh);
        inside = g.ended.added.steady.inside ∙ (x.stands.inside ∙ h.inside);
        out_is = g.ended.out_is;
        whole = g.ended.whole;
        free = g.ended.free;
        pending = g.ended.pending;
        prepared = g.ended.prepared;
        drawn = (g.ended.added.steady.searched ∙ (x.stands.searched ∙ h.under.searched)) ∙ sym (g.ended.added.steady.drawn ∙ (x.stands.drawn ∙ h.drawn));
        owes = g.ended.added.steady.owes ∙ paid_there;
      };
      keeps = λ vs there k.
          let first_kept : KeepsVs d vs = vs_kept a d vs goes_first.opening before
          (λ s q. served_left s a.number back after course.bucket (Rattle.lfh_claims.specs.Search.own_slot a) course.draw.value x.head x.index x.its x.made (now s a) (now s d) x.are x.came (x.agrees s q) ((st s (before s q)).locks whats.Vs ∙ there)) k in
          g.keeps vs (ap (is_out whats.Vs) x.stands.out ∙ there) first_kept;
    }
