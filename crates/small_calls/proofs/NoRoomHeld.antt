-- An allocation behind its NoSpan: the lock of VS is taken, the search is made again, and a block is given, or VS serves the size.
use Rattle.std.proofs.Common.{◌≡◌, ℕ, ◌==◌, Bool, true, false, not, ◌||◌, List, [], ◌∷◌, length, Some, refl, sym, ap, ◌∙◌, subst, arith}
use Rattle.heap_model.specs.declared.Act.{Act}
use Rattle.heap_model.specs.declared.Act.TheVariants as acts
use Rattle.heap_model.specs.declared.Busy.{Busy}
use Rattle.heap_model.specs.declared.Call.TheVariants as calls
use Rattle.heap_model.specs.declared.Opening.{Opening}
use Rattle.heap_model.specs.declared.What.{What}
use Rattle.heap_model.specs.declared.What.TheVariants as whats
use Rattle.heap_model.specs.CallState.{Search}
use Rattle.heap_model.specs.Layers.{StandsForBack, sorted_back}
use Rattle.heap_model.specs.Legal.{leaves_whole}
use Rattle.heap_model.specs.State.{holds}
use Rattle.claim_rule.specs.Entries.{entry}
use Rattle.claim_rule.specs.Places.{vs_slot, back_slot}
use Rattle.backend_fit.specs.Kept.{Kept, layer_of}
use Rattle.backend_fit.proofs.Told.{spans_used}
use Rattle.vs_layer.specs.Kept.{VsKept}
use Rattle.vs_layer.specs.Standing as vss
use Rattle.heap_gate.specs.Token.{Token, Always, now, is_out, IsStanding}
use Rattle.heap_gate.specs.Calls.{IsUnder as IsUnderGate, HasTaken, HasMissed, HasGiven}
use Rattle.lfh_search.specs.declared.course.Course.{Course}
use Rattle.lfh_search.specs.Under.{IsUnder, HasSaid, HasServed}
use Rattle.lfh_search.proofs.Taking.{no_room_takes_vs}
use Rattle.call_parts.specs.Calls.{GoesOn, Makes}
use Rattle.call_parts.proofs.Joining.{goes_does, goes_then, setting_before}
use Rattle.call_parts.proofs.Tokens.{ended_given}
use Rattle.paged_calls.specs.Parts.{ForCall, Places}
use Rattle.small_calls.specs.Ways.{KeepsVs}
use Rattle.small_calls.specs.GoingOn.{IsWithoutRoom, IsBusyBehind, HasSearched, IsForVsBehind}
use Rattle.small_calls.proofs.VsHeld.{places_behind}
use Rattle.small_calls.proofs.SaidHeld.{said_at}

module _ (a c : Token) (back : Kept) (course : Course) (before_it lost n : ℕ) (zero_it : Bool) (w : IsWithoutRoom a c back course before_it lost n zero_it []) where
  abbrev at : HasSearched c (calls.Alloc n w.on.flags) (back_slot ∷ [])
  at = said_at a c back course before_it lost n zero_it [] w

  pub whole_c : c.whole ≡ true
  whole_c = at.whole

  pub gate_c : IsUnderGate c.inside c.depth
  gate_c = ap (λ (y : Bool). y || not (c.depth == 0)) at.inside

  pub vs_free : is_out whats.Vs c.out ≡ false
  vs_free = ap (is_out whats.Vs) at.out_is

  ---- Another has the lock

  module _ (st : IsStanding c) (m : Token) (e : Busy) (y : HasMissed c m whats.Vs e.what e.word) where
    abbrev blocked : List Act
    blocked = acts.Blocked whats.Vs e.word ∷ []

    pub goes_m : GoesOn c m (acts.Blocked whats.Vs e.word ∷ [])
    goes_m = goes_does c m blocked y.runs.does y.stands.depth

    pub out_m : m.out ≡ back_slot ∷ []
    out_m = y.stands.out ∙ at.out_is

    pub gate_m : IsUnderGate m.inside m.depth
    gate_m = ap (λ (x : Bool). x || not (m.depth == 0)) (y.stands.inside ∙ at.inside)

    pub owes_m : m.owes ≡ []
    owes_m = y.stands.owes ∙ at.owes

    pub tells_m : Always m (λ s. (leaves_whole (now s m).state whats.Back ≡ true) × StandsForBack m.opening (now s m).state (layer_of back))
    tells_m s q =
        let p = setting_before c m blocked goes_m s q in
        let t = w.none.back_is s p in
        let h : holds (now s c).state.gate c.number whats.Back ≡ true = (st s p).locks whats.Back ∙ ap (is_out whats.Back) at.out_is in
        let k = (y.runs.agrees s q).back h in
        let u : StandsForBack m.opening (now s m).state (layer_of back) =
        subst (λ (o : Opening). StandsForBack o (now s m).state (layer_of back)) (sym goes_m.opening) (record { lock = t.lock; limits = t.limits; part = t.part ∙ ap sorted_back (sym k) }) in
        (spans_used m.opening (now s m).state back u, u)

    pub busy_behind : (f : Token) → HasGiven m f whats.Back (entry m.number (acts.GiveLock whats.Back) ∷ []) → ForCall c (λ call. IsBusyBehind c f call e)
    busy_behind f g call is =
        let z = ended_given m f whats.Back [] (acts.GiveLock whats.Back ∷ []) g out_m (y.stands.free ∙ at.free) in
        let v = z.added.steady in
        let all : GoesOn c f (acts.Blocked whats.Vs e.word ∷ acts.GiveLock whats.Back ∷ []) = goes_then c m f blocked (acts.GiveLock whats.Back ∷ []) goes_m z.added.goes in
        let made : Makes c f call (acts.Blocked whats.Vs e.word ∷ []) = record {
          added = acts.Blocked whats.Vs e.word ∷ acts.GiveLock whats.Back ∷ [];
          goes = all;
          no_begin = refl;
          shape_is = refl;
          stands = record {
            call_is = v.call ∙ (y.stands.call ∙ is);
            fresh = v.fresh ∙ (y.stands.fresh ∙ at.fresh);
            inside = v.inside ∙ (y.stands.inside ∙ at.inside);
            out = z.out_is;
            whole = z.whole;
            free = z.free;
            pending = z.pending;
            prepared = z.prepared;
            drawn = (v.searched ∙ (y.stands.searched ∙ at.searched)) ∙ sym (v.drawn ∙ (y.stands.drawn ∙ at.drawn));
            owes = v.owes ∙ owes_m;
          };
        } in
        record {
          meets = record { made = subst (λ (x : What). Makes c f call (acts.Blocked x e.word ∷ [])) (sym y.what_is) made; what_is = y.what_is; another = y.another };
          goes = all;
        }

  ---- The lock is taken

  module _ (e : Token) (vs : VsKept) (t : HasTaken vss.layer_of c e whats.Vs vs) (st : IsStanding e) where
    goes_e : GoesOn c e (acts.TakeLock whats.Vs ∷ [])
    goes_e = goes_does c e (acts.TakeLock whats.Vs ∷ []) t.reveals.does t.stands.depth

    call_e : e.call ≡ Some (calls.Alloc n w.on.flags)
    call_e = t.stands.call ∙ at.call_is

    pub inside_e : e.inside ≡ true
    inside_e = t.stands.inside ∙ at.inside

    out_e : e.out ≡ vs_slot ∷ back_slot ∷ []
    out_e = t.stands.out ∙ ap (λ (l : List ℕ). vs_slot ∷ l) at.out_is

    pub vs_out : is_out whats.Vs e.out ≡ true
    vs_out = ap (is_out whats.Vs) out_e

    pub again : HasSaid e × ((g : Search) × IsUnder e back course g lost)
    again = no_room_takes_vs w.taken c e w.back back course w.on.search before_it lost n w.on.flags w.on.under w.none t.reveals t.stands t.guarded st call_e

    pub keeps_e : KeepsVs e vs
    keeps_e = record { tells = t.tells_it; used = t.used refl }

    pub searched_e : HasSearched e (calls.Alloc n w.on.flags) (vs_slot ∷ back_slot ∷ [])
    searched_e =
        let s = t.stands in
        let none : length e.prepared ≡ 0 = ap length s.prepared in
        record {
          call_is = call_e;
          fresh = s.fresh ∙ at.fresh;
          inside = inside_e;
          out_is = out_e;
          whole = s.whole;
          free = s.free ∙ at.free;
          pending = s.pending;
          searched = s.searched ∙ at.searched;
          drawn = s.drawn ∙ at.drawn;
          owes = s.owes ∙ at.owes;
          few = omega (arith, none);
        }

    pub table_e : (d : Token) (later : Kept) (addr : ℕ) → HasServed e d back later course addr → (d.table ≡ c.table) × (d.opening ≡ c.opening)
    table_e d later addr x = (x.does.table ∙ goes_e.table, x.does.opening ∙ goes_e.opening)

    pub places_from : (f : Token) (addr : ℕ) → Places e f addr → Places c f addr
    places_from f addr y = places_behind c e f addr (acts.TakeLock whats.Vs ∷ []) goes_e refl refl t.stands.call y

    pub for_vs_from : (d : Token) (later : Kept) → IsForVsBehind e d vs later course.bucket n zero_it [] (vs_slot ∷ back_slot ∷ []) → IsForVsBehind c d vs later course.bucket n zero_it (acts.TakeLock whats.Vs ∷ []) (vs_slot ∷ back_slot ∷ [])
    for_vs_from d later y = record {
      flags = y.flags;
      zero_is = y.zero_is;
      its = y.its;
      are = y.are;
      goes = goes_then c e d (acts.TakeLock whats.Vs ∷ []) y.its goes_e y.goes;
      call = y.call ∙ t.stands.call;
      stands = y.stands;
      keeps = y.keeps;
      back_is = y.back_is;
      cannot = y.cannot;
    }
