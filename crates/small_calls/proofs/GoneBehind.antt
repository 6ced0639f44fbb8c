-- An allocation that holds no lock and has spent its first pass, through both searches under locks.
use Rattle.std.proofs.Common.{◌≡◌, ◌≢◌, ℕ, ◌+◌, Bool, true, List, [], ◌∷◌, ◌++◌, Some, refl, sym, ap, ◌∙◌, subst, append_assoc, inr}
use Rattle.heap_model.specs.declared.Act.{Act}
use Rattle.heap_model.specs.declared.Act.TheVariants as acts
use Rattle.heap_model.specs.declared.Busy.{Busy}
use Rattle.heap_model.specs.declared.Call.{Call}
use Rattle.heap_model.specs.declared.Call.TheVariants as calls
use Rattle.heap_model.specs.declared.What.{What}
use Rattle.heap_model.specs.declared.What.TheVariants as whats
use Rattle.heap_model.specs.Shape.{shape_of}
use Rattle.backend_fit.specs.Kept.{Kept}
use Rattle.heap_gate.specs.Token.{Token}
use Rattle.heap_gate.specs.Calls.{Does}
use Rattle.lfh_search.specs.declared.course.Course.{Course}
use Rattle.call_parts.specs.Calls.{GoesOn, MeetsBusy}
use Rattle.call_parts.proofs.Joining.{goes_none, goes_does, goes_prepared, goes_then}
use Rattle.call_parts.proofs.Serving.{none_begins, none_begins-append, shape-append}
use Rattle.small_calls.specs.declared.no_room.BehindNoSpan.{BehindNoSpan}
use Rattle.small_calls.specs.declared.no_room.BehindNoSpan.TheVariants as no_span
use Rattle.small_calls.specs.Ways.{IsSpent, IsSpentUnderVs}
use Rattle.small_calls.specs.GoingOn.{IsWithoutRoom, IsBusyBehind, IsBusyAtVs, IsForVsBehind, IsForVsAt, SearchesWithVs, SearchesAgain, GoneOn, GoneOnWithVs}
use Rattle.small_calls.proofs.Found.{same_by}
use Rattle.small_calls.proofs.Shown.{readings_shown}
use Rattle.small_calls.proofs.VsHeld.{places_behind}
use Rattle.small_calls.proofs.BehindHint.{call_c, goes_spent}
use Rattle.small_calls.proofs.BehindVs.{call_c as call_with_vs, goes_spent as goes_with, quiet as quiet_with}
use Rattle.paged_calls.specs.Parts.{ForCall, Places}
use Rattle.vs_layer.specs.Kept.{VsKept}
use Rattle.claim_rule.specs.Places.{vs_slot, back_slot}

-- acts that no shape shows come before another caller is met
meets_behind : (a m f : Token) (call : Call) (e : Busy) (what : What) (first : List Act) → GoesOn a m first → none_begins first ≡ true → shape_of first ≡ [] → MeetsBusy m f call e what → MeetsBusy a f call e what
meets_behind a m f call e what first g nb sh x = record {
  made = record {
    added = first ++ x.made.added;
    goes = goes_then a m f first x.made.added g x.made.goes;
    no_begin = none_begins-append first x.made.added nb x.made.no_begin;
    shape_is = shape-append first x.made.added ∙ (λ i. sh i ++ x.made.shape_is i);
    stands = x.made.stands;
  };
  what_is = x.what_is;
  another = subst (λ (k : ℕ). (e.word ≢ 0) × (e.word ≢ k + 1)) g.number x.another;
}

module _ (a c m : Token) (back : Kept) (course : Course) (lost now_lost n : ℕ) (zero_it : Bool) (more : List ℕ) (w : IsWithoutRoom c m back course lost now_lost n zero_it more) (spent : List Act) (goes_spent : GoesOn a c spent)
    (quiet_spent : (shape_of spent ≡ []) × (none_begins spent ≡ true)) (call_c : c.call ≡ a.call) where
  abbrev under : List Act
  under = acts.TakeLock whats.Back ∷ w.none.its

  abbrev pub first : List Act
  first = spent ++ acts.TakeLock whats.Back ∷ w.none.its

  abbrev said : List Act
  said = acts.NoSpan course.bucket ∷ []

  goes_first : GoesOn a w.none.behind (spent ++ acts.TakeLock whats.Back ∷ w.none.its)
  goes_first =
      let d : Does w.taken w.none.behind (Rattle.call_laws.specs.Within.by_all w.taken.number w.none.its) = subst (Does w.taken w.none.behind) (same_by w.taken.number w.none.its) w.none.runs.does in
      goes_then a c w.none.behind spent under goes_spent
      (goes_then c w.taken w.none.behind (acts.TakeLock whats.Back ∷ []) w.none.its w.goes (goes_does w.taken w.none.behind w.none.its d w.none.stands.depth))

  pub goes_m : GoesOn a m (first ++ acts.NoSpan course.bucket ∷ [])
  goes_m = goes_then a w.none.behind m first said goes_first (subst (λ (t : Token). GoesOn w.none.behind t (acts.NoSpan course.bucket ∷ [])) (sym w.none.prepared) (goes_prepared w.none.behind (acts.NoSpan course.bucket)))

  quiet_first : (shape_of first ≡ []) × (none_begins first ≡ true)
  quiet_first = let k = readings_shown w.none.its w.none.are in (shape-append spent under ∙ (λ i. quiet_spent.0 i ++ k.0 i), none_begins-append spent under quiet_spent.1 k.1)

  pub quiet : (shape_of (first ++ acts.NoSpan course.bucket ∷ []) ≡ []) × (none_begins (first ++ acts.NoSpan course.bucket ∷ []) ≡ true)
  quiet = (shape-append first said ∙ ap (λ (l : List Act). l ++ []) quiet_first.0, none_begins-append first said quiet_first.1 refl)

  pub call_m : m.call ≡ a.call
  call_m = ap (λ (t : Token). t.call) w.none.prepared ∙ (w.none.stands.call ∙ (w.call ∙ call_c))

  pub placed_at : (f : Token) (addr : ℕ) → Places m f addr → Places a f addr
  placed_at f addr y = places_behind a m f addr (first ++ said) goes_m quiet.1 quiet.0 call_m y

  pub for_vs_at : (f : Token) (vs : VsKept) (later : Kept) (taking : List Act) (out : List ℕ) → IsForVsBehind m f vs later course.bucket n zero_it taking out → IsForVsAt a f vs later course.bucket n zero_it taking out
  for_vs_at f vs later taking out y = record { at = m; first = first; goes = goes_m; call = call_m; no_begin = quiet_first.1; shape_is = quiet_first.0; for_vs = y }

  pub busy_at_vs : (f : Token) (e : Busy) → ForCall m (λ call. IsBusyBehind m f call e) → ForCall a (λ call. IsBusyAtVs a f call course.bucket e)
  busy_at_vs f e y = λ call is.
      let z = y call (call_m ∙ is) in
      let last : List Act = acts.Blocked whats.Vs e.word ∷ acts.GiveLock whats.Back ∷ [] in
      record {
        meets = meets_behind a m f call e whats.Vs (first ++ said) goes_m quiet.1 quiet.0 z.meets;
        first = first;
        goes = subst (GoesOn a f) (append_assoc first said last) (goes_then a m f (first ++ said) last goes_m z.goes);
      }

  pub table_m : (m.table ≡ c.table) × (m.opening ≡ c.opening)
  table_m = (ap (λ (t : Token). t.table) w.none.prepared ∙ (w.none.runs.does.table ∙ w.goes.table), ap (λ (t : Token). t.opening) w.none.prepared ∙ (w.none.runs.does.opening ∙ w.goes.opening))

---- Without a lock before

module _ (a c m : Token) (back : Kept) (course : Course) (lost now_lost n : ℕ) (zero_it : Bool) (x : IsSpent a c n zero_it course.bucket course.draw.value lost) (w : IsWithoutRoom c m back course lost now_lost n zero_it []) where
  pub gone_on : (f : Token) (r : BehindNoSpan) → SearchesWithVs m f course.bucket n zero_it r → GoneOn a f course.bucket course.draw.value lost n zero_it r
  gone_on f (no_span.Busy e) y = λ call is.
      inr (busy_at_vs a c m back course lost now_lost n zero_it [] w x.spent.its (goes_spent a c n course.bucket course.draw.value lost zero_it x) (readings_shown x.spent.its x.spent.are) (call_c a c n course.bucket course.draw.value lost zero_it x) f e y call is)
  gone_on f (no_span.Placed addr) y =
      placed_at a c m back course lost now_lost n zero_it [] w x.spent.its (goes_spent a c n course.bucket course.draw.value lost zero_it x) (readings_shown x.spent.its x.spent.are) (call_c a c n course.bucket course.draw.value lost zero_it x) f addr y
  gone_on f (no_span.ForVs vs later) y =
      for_vs_at a c m back course lost now_lost n zero_it [] w x.spent.its (goes_spent a c n course.bucket course.draw.value lost zero_it x) (readings_shown x.spent.its x.spent.are) (call_c a c n course.bucket course.draw.value lost zero_it x) f vs later (acts.TakeLock whats.Vs ∷ [])
      (vs_slot ∷ back_slot ∷ []) y

  pub tables : (m.table ≡ c.table) × (m.opening ≡ c.opening)
  tables = table_m a c m back course lost now_lost n zero_it [] w x.spent.its (goes_spent a c n course.bucket course.draw.value lost zero_it x) (readings_shown x.spent.its x.spent.are) (call_c a c n course.bucket course.draw.value lost zero_it x)

---- With the lock of VS before

module _ (a c m : Token) (vs : VsKept) (back : Kept) (course : Course) (lost now_lost n : ℕ) (zero_it : Bool) (x : IsSpentUnderVs a c n zero_it course.bucket course.draw.value lost vs) (w : IsWithoutRoom c m back course lost now_lost n zero_it (vs_slot ∷ [])) where
  abbrev acts_before : List Act
  acts_before = (acts.TakeLock whats.Vs ∷ x.its) ++ x.spent.spent.its

  pub gone_with : (f : Token) (r : BehindNoSpan) → SearchesAgain m f course.bucket n zero_it r → GoneOnWithVs a f course.bucket course.draw.value lost n zero_it r
  gone_with f (no_span.Busy e) y = absurd y
  gone_with f (no_span.Placed addr) y =
      placed_at a c m back course lost now_lost n zero_it (vs_slot ∷ []) w acts_before (goes_with a c vs n course.bucket course.draw.value lost zero_it x) (quiet_with a c vs n course.bucket course.draw.value lost zero_it x)
      (call_with_vs a c vs n course.bucket course.draw.value lost zero_it x) f addr y
  gone_with f (no_span.ForVs now_vs later) y =
      for_vs_at a c m back course lost now_lost n zero_it (vs_slot ∷ []) w acts_before (goes_with a c vs n course.bucket course.draw.value lost zero_it x) (quiet_with a c vs n course.bucket course.draw.value lost zero_it x)
      (call_with_vs a c vs n course.bucket course.draw.value lost zero_it x) f now_vs later [] (back_slot ∷ vs_slot ∷ []) y

  pub goes_behind : (f : Token) (r : BehindNoSpan) → SearchesAgain m f course.bucket n zero_it r → (rest : List Act) × GoesOn c f rest
  goes_behind f r y =
      let own_call = calls.Alloc n w.on.flags in
      let here : m.call ≡ Some own_call = ap (λ (t : Token). t.call) w.none.prepared ∙ (w.none.stands.call ∙ w.on.call_is) in
      let z = goes_again f r y own_call here in
      let first : List Act = (acts.TakeLock whats.Back ∷ w.none.its) ++ acts.NoSpan course.bucket ∷ [] in
      (first ++ z.0, goes_then c m f first z.0 (goes_m c c m back course lost now_lost n zero_it (vs_slot ∷ []) w [] (goes_none c) (refl, refl) refl) z.1)
    where
      goes_again : (f : Token) (r : BehindNoSpan) → SearchesAgain m f course.bucket n zero_it r → (call : Call) → m.call ≡ Some call → (rest : List Act) × GoesOn m f rest
      goes_again f (no_span.Busy e) y call is = absurd y
      goes_again f (no_span.Placed addr) y call is = let z = y call is in (z.1.added, z.1.goes)
      goes_again f (no_span.ForVs now_vs later) y call is = (y.its, y.goes)

  pub tables_with : (m.table ≡ c.table) × (m.opening ≡ c.opening)
  tables_with =
      table_m a c m back course lost now_lost n zero_it (vs_slot ∷ []) w acts_before (goes_with a c vs n course.bucket course.draw.value lost zero_it x) (quiet_with a c vs n course.bucket course.draw.value lost zero_it x)
      (call_with_vs a c vs n course.bucket course.draw.value lost zero_it x)

---- By the bucket and the draw, as the course has them

pub as_course : (a c : Token) (course : Course) (b d lost n : ℕ) (zero_it : Bool) → course.bucket ≡ b → course.draw.value ≡ d → IsSpent a c n zero_it b d lost → IsSpent a c n zero_it course.bucket course.draw.value lost
as_course a c course b d lost n zero_it e g x = subst (λ (z : ℕ × ℕ). IsSpent a c n zero_it z.0 z.1 lost) (λ i. (sym e i, sym g i)) x

pub of_course : (a f : Token) (course : Course) (b d lost n : ℕ) (zero_it : Bool) (r : BehindNoSpan) → course.bucket ≡ b → course.draw.value ≡ d → GoneOn a f course.bucket course.draw.value lost n zero_it r → GoneOn a f b d lost n zero_it r
of_course a f course b d lost n zero_it r e g x = subst (λ (z : ℕ × ℕ). GoneOn a f z.0 z.1 lost n zero_it r) (λ i. (e i, g i)) x

pub as_course_with : (a c : Token) (vs : VsKept) (course : Course) (b d lost n : ℕ) (zero_it : Bool) → course.bucket ≡ b → course.draw.value ≡ d → IsSpentUnderVs a c n zero_it b d lost vs
    → IsSpentUnderVs a c n zero_it course.bucket course.draw.value lost vs
as_course_with a c vs course b d lost n zero_it e g x = subst (λ (z : ℕ × ℕ). IsSpentUnderVs a c n zero_it z.0 z.1 lost vs) (λ i. (sym e i, sym g i)) x

pub of_course_with : (a f : Token) (course : Course) (b d lost n : ℕ) (zero_it : Bool) (r : BehindNoSpan) → course.bucket ≡ b → course.draw.value ≡ d → GoneOnWithVs a f course.bucket course.draw.value lost n zero_it r → GoneOnWithVs a f b d lost n zero_it r
of_course_with a f course b d lost n zero_it r e g x = subst (λ (z : ℕ × ℕ). GoneOnWithVs a f z.0 z.1 lost n zero_it r) (λ i. (e i, g i)) x
