-- An allocation that holds no lock and has spent its first pass: what it comes to under the lock of the back end.
use Rattle.std.proofs.Common.{◌≡◌, ◌≢◌, ℕ, ◌+◌, Bool, false, List, [], ◌∷◌, ◌++◌, refl, sym, ap, ◌∙◌, subst}
use Rattle.heap_model.specs.declared.Act.{Act}
use Rattle.heap_model.specs.declared.Act.TheVariants as acts
use Rattle.heap_model.specs.declared.Busy.{Busy}
use Rattle.heap_model.specs.declared.Call.TheVariants as calls
use Rattle.heap_model.specs.declared.What.{What}
use Rattle.heap_model.specs.declared.What.TheVariants as whats
use Rattle.heap_gate.specs.Token.{Token, is_out}
use Rattle.heap_gate.specs.Calls.{Does, HasMissed}
use Rattle.lfh_search.specs.declared.course.Course.{Course}
use Rattle.call_parts.specs.Calls.{GoesOn, Makes}
use Rattle.call_parts.proofs.Joining.{goes_does, goes_then}
use Rattle.call_parts.proofs.Serving.{none_begins-append, shape-append}
use Rattle.paged_calls.specs.Parts.{ForCall, Places}
use Rattle.small_calls.specs.declared.spent.BehindSpent.{BehindSpent}
use Rattle.small_calls.specs.declared.spent.BehindSpent.TheVariants as behind
use Rattle.small_calls.specs.Under.{IsServedUnderBack}
use Rattle.small_calls.specs.Ways.{IsSpent}
use Rattle.small_calls.specs.GoingOn.{HasSpent, IsBusyAtBack, ComesUnderBack, TriesUnderBack}
use Rattle.small_calls.proofs.Found.{drawing, goes_drawing, same_by}
use Rattle.small_calls.proofs.Shown.{readings_shown, front_places}
use Rattle.small_calls.proofs.VsHeld.{places_behind}

module _ (a c : Token) (n b d lost : ℕ) (zero_it : Bool) (x : IsSpent a c n zero_it b d lost) where
  pub has_spent : HasSpent c n zero_it b d lost []
  has_spent = record { begun = x.begun; asking = x.asking; spent = x.spent }

  pub back_free : is_out whats.Back c.out ≡ false
  back_free = ap (is_out whats.Back) (x.spent.stands.out ∙ x.asking.serving.out_is)

  pub call_c : c.call ≡ a.call
  call_c = x.spent.stands.call ∙ x.call

  abbrev its : List Act
  its = x.spent.its

  -- the readings of the first pass
  goes_read : GoesOn x.begun c x.spent.its
  goes_read =
      let d : Does (drawing x.begun) c (Rattle.call_laws.specs.Within.by_all x.begun.number x.spent.its) = subst (Does (drawing x.begun) c) (same_by x.begun.number x.spent.its) x.spent.runs.does in
      goes_then x.begun (drawing x.begun) c [] x.spent.its (goes_drawing x.begun) (goes_does (drawing x.begun) c x.spent.its d x.spent.stands.depth)

  pub goes_spent : GoesOn a c x.spent.its
  goes_spent = goes_then a x.begun c [] x.spent.its x.goes goes_read

  placed : (f : Token) (addr : ℕ) → IsServedUnderBack c f (calls.Alloc n x.asking.flags) b n zero_it addr [] → Places a f addr
  placed f addr y =
      let r = readings_shown x.spent.its x.spent.are in
      places_behind a c f addr x.spent.its goes_spent r.1 r.0 call_c
      (front_places c f x.asking.flags n b y.head y.index addr zero_it x.asking.zero_is y.at (x.spent.stands.call ∙ x.asking.serving.call_is)
      (record { added = y.added; goes = y.goes; no_begin = y.no_begin; shape_is = y.shape_is }) y.rests)

  busy_at : (f : Token) (e : Busy) → HasMissed c f whats.Back e.what e.word → ForCall a (λ call. IsBusyAtBack a f call b d lost e)
  busy_at f e y call is =
      let s = x.spent.stands in let w = y.stands in let v = x.asking.serving in
      let blocked : List Act = acts.Blocked whats.Back e.word ∷ [] in
      let last : GoesOn c f (acts.Blocked whats.Back e.word ∷ []) = goes_does c f blocked y.runs.does w.depth in
      let r = readings_shown x.spent.its x.spent.are in
      let made : Makes a f call (acts.Blocked whats.Back e.word ∷ []) = record {
        added = x.spent.its ++ blocked;
        goes = goes_then a c f x.spent.its blocked goes_spent last;
        no_begin = none_begins-append x.spent.its blocked r.1 refl;
        shape_is = shape-append x.spent.its blocked ∙ (λ i. r.0 i ++ blocked);
        stands = record {
          call_is = w.call ∙ (call_c ∙ is);
          fresh = w.fresh ∙ (s.fresh ∙ v.fresh);
          inside = w.inside ∙ (s.inside ∙ v.inside);
          out = w.out ∙ (s.out ∙ v.out_is);
          whole = w.whole;
          free = w.free ∙ (s.free ∙ v.free);
          pending = w.pending;
          prepared = w.prepared;
          drawn = (w.searched ∙ s.searched) ∙ sym (w.drawn ∙ s.drawn);
          owes = w.owes ∙ (s.owes ∙ v.owes);
        };
      } in
      record {
        meets = record {
          made = subst (λ (w : What). Makes a f call (acts.Blocked w e.word ∷ [])) (sym y.what_is) made;
          what_is = y.what_is;
          another = subst (λ (k : ℕ). (e.word ≢ 0) × (e.word ≢ k + 1)) goes_spent.number y.another;
        };
        begun = x.begun;
        at_first = x.goes;
        its = x.spent.its;
        are = x.spent.are;
        why = x.spent.why;
        goes = goes_then x.begun c f x.spent.its blocked goes_read last;
      }

pub tries : (a c f : Token) (course : Course) (n lost : ℕ) (zero_it : Bool) (x : IsSpent a c n zero_it course.bucket course.draw.value lost) (r : BehindSpent)
    → ComesUnderBack c f course lost (calls.Alloc n (has_spent a c n course.bucket course.draw.value lost zero_it x).asking.flags) n zero_it [] r → TriesUnderBack a c f course lost n zero_it r
unfolding has_spent
tries a c f course n lost zero_it x (behind.Busy e) y = busy_at a c n course.bucket course.draw.value lost zero_it x f e y
tries a c f course n lost zero_it x (behind.Placed addr) y = placed a c n course.bucket course.draw.value lost zero_it x f addr y
tries a c f course n lost zero_it x (behind.NoRoom after now_lost) y = y
