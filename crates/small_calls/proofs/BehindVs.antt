-- An allocation that holds the lock of VS and has spent its first pass: what it comes to under the lock of the back end.
use Rattle.std.proofs.Common.{◌≡◌, ◌≢◌, ℕ, ◌+◌, ◌==◌, Bool, true, false, not, ◌||◌, List, [], ◌∷◌, ◌++◌, refl, sym, ap, ◌∙◌, subst}
use Rattle.std.proofs.lemmas.List.{append-nil}
use Rattle.heap_model.specs.declared.Act.{Act}
use Rattle.heap_model.specs.declared.Act.TheVariants as acts
use Rattle.heap_model.specs.declared.Busy.{Busy}
use Rattle.heap_model.specs.declared.Call.TheVariants as calls
use Rattle.heap_model.specs.declared.What.{What}
use Rattle.heap_model.specs.declared.What.TheVariants as whats
use Rattle.heap_model.specs.Shape.{shape_of}
use Rattle.heap_model.specs.State.{holds}
use Rattle.claim_rule.specs.Entries.{entry}
use Rattle.claim_rule.specs.Places.{vs_slot}
use Rattle.vs_layer.specs.Kept.{VsKept}
use Rattle.heap_gate.specs.Token.{Token, now, is_out, IsStanding}
use Rattle.heap_gate.specs.Calls.{Does, IsUnder, HasMissed, HasGiven}
use Rattle.call_parts.specs.Calls.{GoesOn, Makes}
use Rattle.call_parts.proofs.Joining.{goes_does, goes_then, setting_before}
use Rattle.call_parts.proofs.Serving.{none_begins, none_begins-append, shape-append}
use Rattle.call_parts.proofs.Tokens.{ended_given}
use Rattle.paged_calls.specs.Parts.{ForCall, Places}
use Rattle.small_calls.specs.Fronts.{front_acts}
use Rattle.small_calls.specs.Under.{IsServedUnderBack}
use Rattle.small_calls.specs.Ways.{KeepsVs, IsSpentUnderVs}
use Rattle.small_calls.specs.GoingOn.{HasSpent, IsBusyWithVs}
use Rattle.small_calls.proofs.Found.{drawing, goes_drawing, same_by}
use Rattle.small_calls.proofs.Shown.{IsShown, shown_then, readings_shown, front_places}
use Rattle.small_calls.proofs.VsHeld.{places_behind, activation_shown}
use Rattle.small_calls.proofs.BackHeld.{vs_kept}

module _ (a c : Token) (vs : VsKept) (n b d lost : ℕ) (zero_it : Bool) (x : IsSpentUnderVs a c n zero_it b d lost vs) where
  pub has_spent : HasSpent c n zero_it b d lost (vs_slot ∷ [])
  has_spent = record { begun = x.begun; asking = x.asking; spent = x.spent.spent }

  out_c : c.out ≡ vs_slot ∷ []
  out_c = x.spent.spent.stands.out ∙ x.asking.serving.out_is

  pub back_free : is_out whats.Back c.out ≡ false
  back_free = ap (is_out whats.Back) out_c

  pub vs_held : is_out whats.Vs c.out ≡ true
  vs_held = ap (is_out whats.Vs) out_c

  pub call_c : c.call ≡ a.call
  call_c = x.spent.spent.stands.call ∙ x.call

  inside_c : c.inside ≡ true
  inside_c = x.spent.spent.stands.inside ∙ x.asking.serving.inside

  abbrev its : List Act
  its = x.spent.spent.its

  abbrev front : List Act
  front = acts.TakeLock whats.Vs ∷ x.its

  goes_read : GoesOn x.begun c x.spent.spent.its
  goes_read =
      let y = x.spent.spent in
      let does : Does (drawing x.begun) c (Rattle.call_laws.specs.Within.by_all x.begun.number y.its) = subst (Does (drawing x.begun) c) (same_by x.begun.number y.its) y.runs.does in
      goes_then x.begun (drawing x.begun) c [] y.its (goes_drawing x.begun) (goes_does (drawing x.begun) c y.its does y.stands.depth)

  pub goes_spent : GoesOn a c (front ++ its)
  goes_spent = goes_then a x.begun c front its x.goes goes_read

  pub quiet : (shape_of (front ++ its) ≡ []) × (none_begins (front ++ its) ≡ true)
  quiet =
      let f = activation_shown b x.its x.its_are in let r = readings_shown its x.spent.spent.are in
      (shape-append front its ∙ (λ i. f.1 i ++ r.0 i), none_begins-append front its f.0 r.1)

  -- another has the lock of the back end
  module _ (st : IsStanding c) (m : Token) (e : Busy) (y : HasMissed c m whats.Back e.what e.word) where
    abbrev blocked : List Act
    blocked = acts.Blocked whats.Back e.word ∷ []

    abbrev gives : List Act
    gives = acts.GiveLock whats.Vs ∷ []

    goes_m : GoesOn c m (acts.Blocked whats.Back e.word ∷ [])
    goes_m = goes_does c m blocked y.runs.does y.stands.depth

    pub out_m : m.out ≡ vs_slot ∷ []
    out_m = y.stands.out ∙ out_c

    pub gate_m : IsUnder m.inside m.depth
    gate_m = ap (λ (z : Bool). z || not (m.depth == 0)) (y.stands.inside ∙ inside_c)

    pub keeps_m : KeepsVs m vs
    keeps_m = vs_kept c m vs goes_m.opening (λ s q. setting_before c m blocked goes_m s q)
        (λ s q.
        let g = y.runs.agrees s q in let h : holds (now s c).state.gate c.number whats.Vs ≡ true = (st s (setting_before c m blocked goes_m s q)).locks whats.Vs ∙ vs_held in
        (g.vs h, g.spans h)) x.spent.keeps

    pub goes_busy : (f : Token) → HasGiven m f whats.Vs (entry m.number (acts.GiveLock whats.Vs) ∷ []) → (rest : List Act) × GoesOn c f rest
    goes_busy f g =
        let free = y.stands.free ∙ (x.spent.spent.stands.free ∙ x.asking.serving.free) in
        (blocked ++ gives, goes_then c m f blocked gives goes_m (ended_given m f whats.Vs [] gives g out_m free).added.goes)

    pub busy_with : (f : Token) → HasGiven m f whats.Vs (entry m.number (acts.GiveLock whats.Vs) ∷ []) → ForCall a (λ call. IsBusyWithVs a f call b d lost e)
    busy_with f g = λ call is.
        let s = x.spent.spent.stands in let w = y.stands in let v = x.asking.serving in
        let z = ended_given m f whats.Vs [] gives g out_m (w.free ∙ (s.free ∙ v.free)) in
        let u = z.added.steady in
        let last : GoesOn c f (acts.Blocked whats.Back e.word ∷ acts.GiveLock whats.Vs ∷ []) = goes_then c m f blocked gives goes_m z.added.goes in
        let both : List Act = acts.Blocked whats.Back e.word ∷ acts.GiveLock whats.Vs ∷ [] in
        let made : Makes a f call (acts.Blocked whats.Back e.word ∷ []) = record {
          added = (front ++ its) ++ both;
          goes = goes_then a c f (front ++ its) both goes_spent last;
          no_begin = none_begins-append (front ++ its) both quiet.1 refl;
          shape_is = shape-append (front ++ its) both ∙ (λ i. quiet.0 i ++ blocked);
          stands = record {
            call_is = u.call ∙ (w.call ∙ (call_c ∙ is));
            fresh = u.fresh ∙ (w.fresh ∙ (s.fresh ∙ v.fresh));
            inside = u.inside ∙ (w.inside ∙ inside_c);
            out = z.out_is;
            whole = z.whole;
            free = z.free;
            pending = z.pending;
            prepared = z.prepared;
            drawn = (u.searched ∙ (w.searched ∙ s.searched)) ∙ sym (u.drawn ∙ (w.drawn ∙ s.drawn));
            owes = u.owes ∙ (w.owes ∙ (s.owes ∙ v.owes));
          };
        } in
        record {
          meets = record {
            made = subst (λ (k : What). Makes a f call (acts.Blocked k e.word ∷ [])) (sym y.what_is) made;
            what_is = y.what_is;
            another = subst (λ (k : ℕ). (e.word ≢ 0) × (e.word ≢ k + 1)) goes_spent.number y.another;
          };
          begun = x.begun;
          front = x.its;
          front_is = x.its_are;
          at_first = x.goes;
          its = its;
          are = x.spent.spent.are;
          why = x.spent.spent.why;
          goes = goes_then x.begun c f its both goes_read last;
        }

  -- a block was given, and the lock of the back end
  module _ (m : Token) (addr : ℕ) (y : IsServedUnderBack c m (calls.Alloc n has_spent.asking.flags) b n zero_it addr (vs_slot ∷ [])) where
    pub gate_p : IsUnder m.inside m.depth
    gate_p = ap (λ (z : Bool). z || not (m.depth == 0)) y.rests.inside

    pub keeps_p : KeepsVs m vs
    keeps_p = y.keeps vs vs_held x.spent.keeps

    pub goes_placed : (f : Token) → HasGiven m f whats.Vs (entry m.number (acts.GiveLock whats.Vs) ∷ []) → (rest : List Act) × GoesOn c f rest
    goes_placed f g =
        let gives : List Act = acts.GiveLock whats.Vs ∷ [] in
        (y.added ++ gives, goes_then c m f y.added gives y.goes (ended_given m f whats.Vs [] gives g y.rests.out_is y.rests.free).added.goes)

    pub placed_p : (f : Token) → HasGiven m f whats.Vs (entry m.number (acts.GiveLock whats.Vs) ∷ []) → Places a f addr
    unfolding has_spent
    placed_p f g =
        let z = ended_given m f whats.Vs [] (acts.GiveLock whats.Vs ∷ []) g y.rests.out_is y.rests.free in
        let u = z.added.steady in
        let shape = front_acts b y.head y.index n zero_it in
        let one : IsShown c m (front_acts b y.head y.index n zero_it) = record { added = y.added; goes = y.goes; no_begin = y.no_begin; shape_is = y.shape_is } in
        let two : IsShown m f [] = record { added = acts.GiveLock whats.Vs ∷ []; goes = z.added.goes; no_begin = refl; shape_is = refl } in
        let all : IsShown c f (shape ++ []) = shown_then c m f shape [] one two in
        places_behind a c f addr (front ++ its) goes_spent quiet.1 quiet.0 call_c
        (front_places c f x.asking.flags n b y.head y.index addr zero_it x.asking.zero_is y.at (x.spent.spent.stands.call ∙ x.asking.serving.call_is) (subst (IsShown c f) (append-nil shape) all)
        (record {
          call_is = u.call ∙ y.rests.call_is;
          fresh = u.fresh ∙ y.rests.fresh;
          inside = u.inside ∙ y.rests.inside;
          out_is = z.out_is;
          whole = z.whole;
          free = z.free;
          pending = z.pending;
          prepared = z.prepared;
          drawn = (u.searched ∙ y.rests.drawn) ∙ sym u.drawn;
          owes = u.owes ∙ y.rests.owes;
        }))
