-- An allocation under the lock of VS: the lock is taken, the front end gives a block, and the lock is given back.
use Rattle.std.proofs.Common.{◌≡◌, ℕ, ◌==◌, Bool, true, false, not, ◌||◌, List, [], ◌∷◌, ◌++◌, refl, sym, ap, ◌∙◌, subst, inl, inr}
use Rattle.std.specs.Prelude.{◌⊎◌}
use Rattle.std.specs.List.{list_all}
use Rattle.std.proofs.lemmas.List.{append-nil}
use Rattle.heap_model.specs.declared.Act.{Act}
use Rattle.heap_model.specs.declared.Act.TheVariants as acts
use Rattle.heap_model.specs.declared.Busy.{Busy}
use Rattle.heap_model.specs.declared.Call.{Call}
use Rattle.heap_model.specs.declared.Call.TheVariants as calls
use Rattle.heap_model.specs.declared.Opening.{Opening}
use Rattle.heap_model.specs.declared.What.{What}
use Rattle.heap_model.specs.declared.What.TheVariants as whats
use Rattle.heap_model.specs.Geometry.{page_bytes}
use Rattle.heap_model.specs.Layers.{StandsForVs, sorted_vs}
use Rattle.heap_model.specs.Legal.{has_place}
use Rattle.heap_model.specs.Shape.{shape_of}
use Rattle.heap_model.specs.State.{holds}
use Rattle.claim_rule.specs.Entries.{IsSettingOf, entry}
use Rattle.claim_rule.specs.Places.{vs_slot}
use Rattle.heap_gate.specs.Token.{Token, Always, now, is_out, IsStanding}
use Rattle.heap_gate.specs.Calls.{Stands, stance, IsGuarded, IsUnder, HasTaken, HasMissed, HasGiven}
use Rattle.vs_layer.specs.Kept.{VsKept}
use Rattle.vs_layer.specs.Standing.{layer_of}
use Rattle.call_parts.specs.Calls.{GoesOn, Makes, MeetsBusy}
use Rattle.call_parts.specs.Entries.{HasEnded}
use Rattle.call_parts.proofs.Joining.{goes_does, goes_then, setting_before}
use Rattle.call_parts.proofs.Serving.{none_begins, none_begins-append, shape-append, new_since}
use Rattle.call_parts.proofs.Tokens.{ended_given, ended_missed, makes}
use Rattle.lfh_search.specs.Acts.{by}
use Rattle.lfh_search.specs.Hints.{HasSpentHint}
use Rattle.paged_calls.specs.Parts.{ForCall, Places}
use Rattle.vs_calls.specs.Tries.{LeavesBack}
use Rattle.vs_calls.proofs.Tries.{none-append}
use Rattle.small_calls.specs.Fronts.{IsAsking, IsResting, HasGivenBlock, front_acts}
use Rattle.small_calls.specs.Ways.{AsksUnderVs, KeepsVs, IsSpentWithVs}
use Rattle.small_calls.proofs.Found.{drawing}
use Rattle.small_calls.proofs.Tries.{front_neither}
use Rattle.small_calls.proofs.Guarded.{read_left}
use Rattle.small_calls.proofs.Shown.{IsShown, shown_then, served_shown, front_places}

---- What VS is stays

kept : (c d : Token) (vs : VsKept) → d.opening ≡ c.opening → KeepsVs c vs → ((s : Rattle.heap_model.specs.State.Setting) → IsSettingOf d.opening d.roll s → IsSettingOf c.opening c.roll s)
    → Always c (λ s. holds (now s c).state.gate c.number whats.Vs ≡ true) → Always d (λ s. IsGuarded c.number (now s c) (now s d)) → KeepsVs d vs
kept c d vs same k before held guarded = record {
  tells = λ s q.
      let t = k.tells s (before s q) in let g = guarded s q in let h = held s (before s q) in
      subst (λ (o : Opening). StandsForVs o (now s d).state (layer_of vs)) (sym same) (record { lock = t.lock; limits = t.limits; key = t.key; part = t.part ∙ ap sorted_vs (sym (g.vs h)); spans = t.spans ∙ sym (g.spans h) });
  used = λ s q.
      let g = guarded s q in let h = held s (before s q) in
      (λ i. list_all (has_place page_bytes (g.vs h i).places) (g.spans h i)) ∙ k.used s (before s q);
}

module _ (c : Token) (vs : VsKept) (n b : ℕ) (zero_it : Bool) (h : AsksUnderVs c n zero_it vs) (st : IsStanding c) where
  abbrev own_call : Call
  own_call = calls.Alloc n h.asking.flags

  keeps_first : KeepsVs c vs
  keeps_first = record { tells = h.tells; used = h.used }

  held : Always c (λ s. holds (now s c).state.gate c.number whats.Vs ≡ true)
  held s q = (st s q).locks whats.Vs ∙ ap (is_out whats.Vs) h.asking.serving.out_is

  pub back_free : is_out whats.Back c.out ≡ false
  back_free = ap (is_out whats.Back) h.asking.serving.out_is

  -- the first pass has found a block
  module _ (d : Token) (addr : ℕ) (g : HasGivenBlock c d (calls.Alloc n h.asking.flags) b n zero_it addr) where
    before : (s : Rattle.heap_model.specs.State.Setting) → IsSettingOf d.opening d.roll s → IsSettingOf c.opening c.roll s
    before s q = setting_before c d (g.its ++ front_acts b g.head g.index n zero_it) g.goes s q

    pub keeps_then : KeepsVs d vs
    keeps_then = kept c d vs g.goes.opening keeps_first before held g.guarded

    pub out_then : d.out ≡ vs_slot ∷ []
    out_then = g.rests.out_is ∙ h.asking.serving.out_is

    pub under_then : IsUnder d.inside d.depth
    under_then = ap (λ (x : Bool). x || not (d.depth == 0)) g.rests.inside

    pub given_places : (e : Token) → HasGiven d e whats.Vs (entry d.number (acts.GiveLock whats.Vs) ∷ []) → Places c e addr
    given_places e x =
        let z : HasEnded d e (acts.GiveLock whats.Vs ∷ []) [] = ended_given d e whats.Vs [] (acts.GiveLock whats.Vs ∷ []) x out_then g.rests.free in
        let last : IsShown d e [] = record { added = acts.GiveLock whats.Vs ∷ []; goes = z.added.goes; no_begin = refl; shape_is = refl } in
        let acts_are = front_acts b g.head g.index n zero_it in
        let all : IsShown c e (acts_are ++ []) = shown_then c d e acts_are [] (served_shown c d own_call b n addr zero_it g) last in
        let y = z.added.steady in
        let rests : IsResting e own_call [] = record {
          call_is = y.call ∙ g.rests.call_is;
          fresh = y.fresh ∙ g.rests.fresh;
          inside = y.inside ∙ g.rests.inside;
          out_is = z.out_is;
          whole = z.whole;
          free = z.free;
          pending = z.pending;
          prepared = z.prepared;
          drawn = (y.searched ∙ g.rests.drawn) ∙ sym y.drawn;
          owes = y.owes ∙ g.rests.owes;
        } in
        front_places c e h.asking.flags n b g.head g.index addr zero_it h.asking.zero_is g.at h.asking.serving.call_is (subst (IsShown c e) (append-nil acts_are) all) rests

    pub given_leaves : (e : Token) → HasGiven d e whats.Vs (entry d.number (acts.GiveLock whats.Vs) ∷ []) → LeavesBack c e
    given_leaves e x =
        let z : HasEnded d e (acts.GiveLock whats.Vs ∷ []) [] = ended_given d e whats.Vs [] (acts.GiveLock whats.Vs ∷ []) x out_then g.rests.free in
        let found : List Act = g.its ++ front_acts b g.head g.index n zero_it in
        record {
          added = found ++ acts.GiveLock whats.Vs ∷ [];
          goes = goes_then c d e found (acts.GiveLock whats.Vs ∷ []) g.goes z.added.goes;
          back = none-append whats.Back found (acts.GiveLock whats.Vs ∷ []) (front_neither whats.Back g.its b g.head g.index n zero_it g.are) refl;
        }

  -- .. or none
  pub spent_with : (d : Token) (d0 lost : ℕ) → HasSpentHint (drawing c) d b d0 lost → IsSpentWithVs c d b d0 lost vs
  spent_with d d0 lost x = record {
    spent = x;
    keeps = kept c d vs x.runs.does.opening keeps_first (λ s q. Rattle.lfh_search.proofs.Steps.earlier (drawing c) d (by c.number x.its) x.runs.does s q) held
        (λ s q. (read_left s c.number x.its (now s c) (now s d) x.are (x.runs.agrees s q)).guarded);
  }

---- The lock is taken

pub taken_asks : (a c : Token) (n : ℕ) (zero_it : Bool) (vs : VsKept) → IsAsking a n zero_it [] → HasTaken layer_of a c whats.Vs vs → AsksUnderVs c n zero_it vs
taken_asks a c n zero_it vs x t = record {
  asking = record {
    flags = x.flags;
    zero_is = x.zero_is;
    serving = record {
      call_is = s.call ∙ x.serving.call_is;
      fresh = s.fresh ∙ x.serving.fresh;
      inside = s.inside ∙ x.serving.inside;
      out_is = s.out ∙ ap (λ (l : List ℕ). vs_slot ∷ l) x.serving.out_is;
      whole = s.whole;
      free = s.free ∙ x.serving.free;
      pending = s.pending;
      prepared = s.prepared;
      searched = s.searched ∙ x.serving.searched;
      drawn = s.drawn ∙ x.serving.drawn;
      owes = s.owes ∙ x.serving.owes;
      is_new = new_since a c (calls.Alloc n x.flags) (acts.TakeLock whats.Vs ∷ []) (goes_does a c (acts.TakeLock whats.Vs ∷ []) t.reveals.does s.depth) x.serving.prepared s.prepared refl x.serving.is_new;
    };
  };
  tells = t.tells_it;
  used = t.used refl;
}
  where
    s : Stands c (record (stance a) { out = vs_slot ∷ a.out; owes = Rattle.lock_steps.specs.Locks.owed_with whats.Vs a.owes })
    s = t.stands

pub taken_goes : (a c : Token) (vs : VsKept) → HasTaken layer_of a c whats.Vs vs → GoesOn a c (acts.TakeLock whats.Vs ∷ [])
taken_goes a c vs t = goes_does a c (acts.TakeLock whats.Vs ∷ []) t.reveals.does t.stands.depth

-- another has it
pub missed_busy : (a m : Token) (busy : Busy) (n : ℕ) (zero_it : Bool) → IsAsking a n zero_it [] → HasMissed a m whats.Vs busy.what busy.word → ForCall a (λ call. MeetsBusy a m call busy whats.Vs)
missed_busy a m busy n zero_it v x call f = record {
  made = subst (λ (w : What). Makes a m call (acts.Blocked w busy.word ∷ [])) (sym x.what_is)
      (makes a m call (calls.Alloc n v.flags) [] (acts.Blocked whats.Vs busy.word ∷ []) (acts.Blocked whats.Vs busy.word ∷ []) v.serving f (ended_missed a m whats.Vs busy.what busy.word x v.serving.out_is v.serving.free) refl refl);
  what_is = x.what_is;
  another = x.another;
}

-- acts that no shape shows come before a block
pub places_behind : (a m f : Token) (addr : ℕ) (first : List Act) → GoesOn a m first → none_begins first ≡ true → shape_of first ≡ [] → m.call ≡ a.call → Places m f addr → Places a f addr
places_behind a m f addr first g nb sh same p call e =
    let x = p call (same ∙ e) in
    let y = x.1 in (
      x.0,
      record {
        added = first ++ y.added;
        goes = goes_then a m f first y.added g y.goes;
        no_begin = none_begins-append first y.added nb y.no_begin;
        shape_is = shape-append first y.added ∙ (λ i. sh i ++ y.shape_is i);
        stands = y.stands;
      },
      x.2,
    )

-- .. as these are
pub activation_shown : (b : ℕ) (its : List Act) → (its ≡ []) ⊎ (its ≡ acts.Active b ∷ []) → (none_begins (acts.TakeLock whats.Vs ∷ its) ≡ true) × (shape_of (acts.TakeLock whats.Vs ∷ its) ≡ [])
activation_shown b its (inl e) = subst (λ (l : List Act). (none_begins (acts.TakeLock whats.Vs ∷ l) ≡ true) × (shape_of (acts.TakeLock whats.Vs ∷ l) ≡ [])) (sym e) (refl, refl)
activation_shown b its (inr e) = subst (λ (l : List Act). (none_begins (acts.TakeLock whats.Vs ∷ l) ≡ true) × (shape_of (acts.TakeLock whats.Vs ∷ l) ≡ [])) (sym e) (refl, refl)
