-- A block of the front end is in hand.
use Rattle.std.proofs.Common.{◌≡◌, ℕ, true, List, [], ◌∷◌, ◌++◌, refl, sym, ap, ◌∙◌, subst, append_assoc}
use Rattle.heap_model.specs.declared.Act.{Act}
use Rattle.heap_model.specs.declared.What.TheVariants as whats
use Rattle.heap_model.specs.Shape.{shape_of}
use Rattle.heap_model.specs.State.{Setting, Place, holds, hands}
use Rattle.claim_rule.specs.Entries.{IsSettingOf}
use Rattle.step_parts.specs.InHand.{HasBlock}
use Rattle.backend_fit.specs.Kept.{Kept}
use Rattle.vs_layer.specs.Kept.{VsKept}
use Rattle.heap_gate.specs.Token.{Token, now, IsStanding}
use Rattle.heap_gate.specs.Calls.{Does}
use Rattle.call_parts.specs.Calls.{GoesOn}
use Rattle.call_parts.proofs.Joining.{goes_does, goes_then, setting_before}
use Rattle.call_parts.proofs.Serving.{none_begins, none_begins-append, shape-append}
use Rattle.lfh_claims.specs.Moves.{block_place}
use Rattle.lfh_claims.specs.Search.{own_slot}
use Rattle.lfh_search.specs.declared.course.Course.{Course}
use Rattle.lfh_search.specs.Results.{place}
use Rattle.lfh_search.specs.Under.{CameBy}
use Rattle.lfh_search.specs.Both.{IsBeside, HasSearchedTo}
use Rattle.move_front.specs.Front.{IsActiveNow, HasFrontBlock}
use Rattle.move_front.proofs.Kept.{beside_then, beside_of, tells_on}
use Rattle.move_front.proofs.Shown.{same_by, drawing, goes_drawing, before-append, search_before, active_before, came_shown}

module _ (c c1 d : Token) (vs : VsKept) (back later : Kept) (course : Course) (addr : ℕ) (x : IsActiveNow c c1 vs course.bucket) (st : IsStanding c1) (y : HasSearchedTo (drawing c1) d back later course addr) where
  abbrev rest : List Act
  rest = y.made ++ place course.bucket y.head y.index ∷ []

  goes_1 : GoesOn (drawing c1) d (y.its ++ (y.made ++ place course.bucket y.head y.index ∷ []))
  goes_1 = goes_does (drawing c1) d (y.its ++ rest) (subst (Does (drawing c1) d) (same_by c1.number (y.its ++ rest)) y.does) y.stands.depth

  goes_c1 : GoesOn c1 d (y.its ++ (y.made ++ place course.bucket y.head y.index ∷ []))
  goes_c1 = goes_then c1 (drawing c1) d [] (y.its ++ rest) (goes_drawing c1) goes_1

  goes_c : GoesOn c d ((x.its ++ y.its) ++ (y.made ++ place course.bucket y.head y.index ∷ []))
  goes_c = subst (GoesOn c d) (sym (append_assoc x.its y.its rest)) (goes_then c c1 d x.its (y.its ++ rest) x.goes goes_c1)

  before : (s : Setting) → IsSettingOf d.opening d.roll s → IsSettingOf c1.opening c1.roll s
  before s q = setting_before c1 d (y.its ++ rest) goes_c1 s q

  number : c1.number ≡ c.number
  number = x.goes.number

  shown_rest : (shape_of rest ≡ place course.bucket y.head y.index ∷ []) × (none_begins rest ≡ true)
  shown_rest =
      let m = came_shown back later course.bucket (own_slot c1) course.draw.value y.head y.index y.made y.came in
      let ps : List Act = place course.bucket y.head y.index ∷ [] in
      (shape-append y.made ps ∙ (λ i. m.0 i ++ ps), none_begins-append y.made ps m.1 refl)

  pub has_block : HasFrontBlock c d vs back later course.bucket addr
  has_block =
      let are = before-append x.its y.its (active_before course.bucket x.its x.its_are) (search_before y.its y.are) in
      record {
        its = x.its ++ y.its;
        are = are;
        made = y.made;
        draw = course.draw.value;
        head = y.head;
        index = y.index;
        below = y.below;
        came = subst (λ (t : ℕ). CameBy back later course.bucket t course.draw.value y.head y.index y.made) x.slot y.came;
        address = y.address;
        goes = goes_c;
        shape_is = shape-append (x.its ++ y.its) rest ∙ (λ i. are.shape_is i ++ shown_rest.0 i);
        no_begin = none_begins-append (x.its ++ y.its) rest are.no_begin shown_rest.1;
        stands = record {
          call = y.stands.call ∙ x.call;
          fresh = y.stands.fresh ∙ x.fresh;
          inside = y.stands.inside ∙ x.to_place.inside;
          out = y.stands.out ∙ x.out;
          owes = y.stands.owes ∙ x.to_place.owes;
          searched = y.stands.searched;
          drawn = y.stands.drawn;
          whole = y.stands.whole;
          pending = y.stands.pending;
          beside = λ s q. beside_then c.number (now s c) (now s c1) (now s d) (x.beside s (before s q)) (beside_of c.number (now s c1) (now s d) (subst (λ (n : ℕ). IsBeside n (now s c1) (now s d)) number (y.beside s q)));
        };
        prepared = y.stands.prepared;
        hands = λ s q.
            subst (λ (n : ℕ). hands (now s d).state n ≡ block_place course.bucket y.head y.index n ∷ hands (now s c1).state n) number (y.hands s q)
            ∙ ap (λ (ps : List Place). block_place course.bucket y.head y.index c.number ∷ ps) (x.hands s (before s q));
        block = λ s q. subst (λ (n : ℕ). HasBlock (now s d) n course.bucket addr) number (y.block s q);
        tells_vs = tells_on c1 d vs goes_c1.opening before (λ s q.
            let h : holds (now s c1).state.gate c1.number whats.Vs ≡ true = (st s (before s q)).locks whats.Vs ∙ x.to_place.vs_out in
            ((y.beside s q).vs h, (y.beside s q).spans h)) x.tells_vs;
        back_is = y.back_is;
      }
