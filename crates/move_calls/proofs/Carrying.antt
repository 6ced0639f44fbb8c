-- A caller brings its block of the front end on: behind its locks, and where one is busy.
use Rattle.std.proofs.Common.{◌≡◌, ℕ, ◌+◌, true, not, List, [], ◌∷◌, ◌++◌, refl, sym, ap, ◌∙◌, subst, inl, inr}
use Rattle.std.specs.Prelude.{Result, Ok, Err, IfOk, IfErr}
use Rattle.std.proofs.lemmas.Bool.{and_parts, cases_Bool, false≢true}
use Rattle.atomic_table.specs.Seated.{TableId}
use Rattle.heap_model.specs.declared.Act.{Act}
use Rattle.heap_model.specs.declared.Act.TheVariants as acts
use Rattle.heap_model.specs.declared.Busy.{Busy}
use Rattle.heap_model.specs.declared.Call.TheVariants as calls
use Rattle.heap_model.specs.declared.Flags.{Flags}
use Rattle.heap_model.specs.declared.Opening.{Opening}
use Rattle.heap_model.specs.declared.What.{What}
use Rattle.heap_model.specs.declared.What.TheVariants as whats
use Rattle.heap_model.specs.History.{configuration_of}
use Rattle.heap_model.specs.Layers.{LayerState}
use Rattle.heap_model.specs.Moments.{Moment, Before, acts_of, moments}
use Rattle.heap_model.specs.Shape.{begins_move, is_take, shape_of}
use Rattle.heap_model.specs.State.{State}
use Rattle.claim_rule.specs.Entries.{entry}
use Rattle.claim_rule.specs.Home.{slot_of}
use Rattle.lock_steps.specs.Locks.{owed_with}
use Rattle.heap_gate.specs.Token.{Token, IsStanding, now}
use Rattle.heap_gate.specs.Calls as gate
use Rattle.heap_gate.specs.Calls.{with_prepared}
use Rattle.lfh_claims.specs.declared.tag.Tag.{Tag}
use Rattle.call_parts.specs.Calls.{IsServing, GoesOn}
use Rattle.call_parts.specs.Entries.{HasEnded}
use Rattle.call_parts.proofs.Joining.{setting_before}
use Rattle.call_parts.proofs.Serving.{none_begins, none_begins-append, shape-append}
use Rattle.call_parts.proofs.Tokens.{added_runs, added_taken}
use Rattle.address_calls.proofs.Behind.{none_moves}
use Rattle.stay_calls.specs.Stays.{IsTakenToMove, FindsFrontBlock}
use Rattle.stay_calls.proofs.Histories.{acts_added}
use Rattle.move_taken.specs.Holds.{HoldsTaken}
use Rattle.move_taken.specs.Moved.{IsGivenBack}
use Rattle.move_in_front.specs.Laws.{LockKeeps, MissKeeps, LookKeeps}
use Rattle.move_in_front.specs.Taken.{HasTaken}
use Rattle.move_calls.specs.Carries.{HasShown, IsBringing, IsCarrying, HasMetCarrying}
use Rattle.move_calls.specs.Holds.{TellsStill, IsResting}
use Rattle.move_calls.specs.Moves.{IsForNew, IsInTheWay}
use Rattle.move_calls.proofs.Holding.{said_vs, said_back, said_large}
use Rattle.move_calls.proofs.Ready.{blocked_same}
use Rattle.move_calls.proofs.Shown.{shown_then, shown_still, before_still}
use Rattle.move_calls.proofs.Still.{still_kept, still_guarded, still_runs}

---- The block was taken

begins_taken : (act : Act) → is_take act ≡ true → begins_move act ≡ true
begins_taken (acts.Take a size) h = refl
begins_taken _ h = absurd (false≢true h)

-- a Take behind acts that begin no move is the first act that begins one
first_move : (P : State → Type 0) (a n : ℕ) (looks : List Act) (xs : List Moment) → acts_of xs ≡ looks ++ acts.Take a n ∷ [] → none_moves looks ≡ true → Before is_take P xs → Before begins_move P xs
first_move P a n looks [] e none h = h
first_move P a n [] (x ∷ xs) e none h =
    let is : x.act ≡ acts.Take a n = cc (e) in
    let here = rw is at h in rw is here
first_move P a n (y ∷ ys) (x ∷ xs) e none h =
    let is : x.act ≡ y = cc (e) in let rest : acts_of xs ≡ ys ++ acts.Take a n ∷ [] = cc (e) in
    let two = and_parts (not (begins_move y)) (none_moves ys) none in
    elim (cases_Bool (begins_move x.act)) [
      | inl b ↦ absurd (false≢true (sym (ap not (sym (ap begins_move is) ∙ b)) ∙ two.0))
      | inr b ↦ elim (cases_Bool (is_take x.act)) [
        | inl t ↦ absurd (false≢true (sym b ∙ begins_taken x.act t))
        | inr t ↦ rw b (first_move P a n ys xs rest two.1 (rw t at h))
      ]
    ]

pub carries : (first c : Token) (addr size n : ℕ) (flags : Flags) (tag : Tag) → IsServing first (calls.Realloc addr n flags) [] → IsTakenToMove first c addr tag size n → HasTaken c tag addr size n flags [] → IsCarrying first c tag addr size n flags []
carries first c addr size n flags tag v x h = record {
  bringing = record {
    serving = v;
    holds = h.holds;
    shown = record {
      added = x.looks ++ acts.Take addr size ∷ [];
      goes = x.added.goes;
      no_begin = none_begins-append x.looks (acts.Take addr size ∷ []) x.no_begin refl;
      shape_is = shape-append x.looks (acts.Take addr size ∷ []) ∙ (λ i. x.shape_is i ++ acts.Take addr size ∷ []);
    };
    leaves = λ s q.
        let m = configuration_of s first.seen in let g = x.added.goes in
        first_move (FindsFrontBlock first addr n s) addr size x.looks (moments s first.number m g.seen.0) (acts_added first c (x.looks ++ acts.Take addr size ∷ []) g v.prepared h.holds.prepared g.seen s m) x.no_move (x.leaves s q);
  };
  nothing = h.nothing;
}

---- It is brought on

pub brings_on : (first c d : Token) (tag : Tag) (addr size n : ℕ) (flags : Flags) (out more : List ℕ) (added : List Act) → IsBringing first c tag addr size n flags out → GoesOn c d added → none_begins added ≡ true → shape_of added ≡ [] → HoldsTaken d tag addr size n flags more
    → IsBringing first d tag addr size n flags more
brings_on first c d tag addr size n flags out more added v g none hidden h =
    let shown = shown_still first c d (acts.Take addr size ∷ []) added v.shown g none hidden in
    record {
      serving = v.serving;
      holds = h;
      shown = shown;
      leaves = before_still first c d v.shown.added added v.shown.goes g shown.goes.seen begins_move (λ s m. FindsFrontBlock first addr n s) v.leaves;
    }

pub taken_of : (first c : Token) (tag : Tag) (addr size n : ℕ) (flags : Flags) (out : List ℕ) → IsCarrying first c tag addr size n flags out → HasTaken c tag addr size n flags out
taken_of first c tag addr size n flags out v = record { holds = v.bringing.holds; nothing = v.nothing }

carries_on : (first c d : Token) (tag : Tag) (addr size n : ℕ) (flags : Flags) (out more : List ℕ) (added : List Act) → IsCarrying first c tag addr size n flags out → GoesOn c d added → none_begins added ≡ true → shape_of added ≡ [] → HasTaken d tag addr size n flags more
    → IsCarrying first d tag addr size n flags more
carries_on first c d tag addr size n flags out more added v g none hidden h = record { bringing = brings_on first c d tag addr size n flags out more added v.bringing g none hidden h.holds; nothing = h.nothing }

module _ {T : Type 0} (tells : T → LayerState) (c d : Token) (what : What) where
  locked : LockKeeps → owed_with what [] ≡ [] → (state : T) → gate.HasTaken tells c d what state → IsStanding c → (first : Token) (tag : Tag) (addr size n : ℕ) (flags : Flags) (out : List ℕ) → IsCarrying first c tag addr size n flags out
      → IsCarrying first d tag addr size n flags (slot_of what ∷ out)
  locked law nothing state x sc first tag addr size n flags out v =
      let h = v.bringing.holds in
      let owes : owed_with what c.owes ≡ c.owes = ap (owed_with what) h.owes ∙ (nothing ∙ sym h.owes) in
      carries_on first c d tag addr size n flags out (slot_of what ∷ out) (acts.TakeLock what ∷ []) v (added_taken tells c d what state owes x).goes refl refl
      (law c d tag addr size n flags out what (taken_of first c tag addr size n flags out v) sc x.reveals x.stands)

  pub all_locked : LockKeeps → owed_with what [] ≡ [] → (r : Result T Busy) → IfOk r (λ state. gate.HasTaken tells c d what state) → IsStanding c
      → IfOk r (λ state. (first : Token) (tag : Tag) (addr size n : ℕ) (flags : Flags) (out : List ℕ) → IsCarrying first c tag addr size n flags out → IsCarrying first d tag addr size n flags (slot_of what ∷ out))
  all_locked law nothing (Ok state) x sc = locked law nothing state x sc
  all_locked law nothing (Err b) x sc = tt

  pub all_still : (r : Result T Busy) → IfOk r (λ state. gate.HasTaken tells c d what state) → IfErr r (λ b. gate.HasMissed c d what b.what b.word) → IsStanding c → IsStanding d → TellsStill c d
  all_still (Ok state) x y sc sd = still_guarded c d _ x.reveals.does sc x.guarded
  all_still (Err b) x y sc sd = still_runs c d (entry c.number (acts.Blocked what b.word) ∷ []) y.runs sd (λ z. blocked_same z (now z c) c.number what b.word)

  missed : MissKeeps → (what ≡ whats.Gate → ⊥) → (b : Busy) → gate.HasMissed c d what b.what b.word → IsStanding c → (first : Token) (tag : Tag) (addr size n : ℕ) (flags : Flags) (out : List ℕ) → IsCarrying first c tag addr size n flags out
      → HasMetCarrying first d tag addr size n flags out what b
  missed law off b x sc first tag addr size n flags out v =
      let g = (added_runs c d (acts.Blocked what b.word ∷ []) x.runs x.stands).goes in
      record {
        serving = v.bringing.serving;
        holds = (law c d tag addr size n flags out what b.word (taken_of first c tag addr size n flags out v) sc off x.runs x.stands).holds;
        shown = subst (λ (w : What). HasShown first d (acts.Take addr size ∷ acts.Blocked w b.word ∷ [])) (sym x.what_is) (shown_then first c d (acts.Take addr size ∷ []) (acts.Blocked what b.word ∷ []) (acts.Blocked what b.word ∷ []) v.bringing.shown g refl refl);
        what_is = x.what_is;
        another = (x.another.0, subst (λ (k : ℕ). b.word ≡ k + 1 → ⊥) v.bringing.shown.goes.number x.another.1);
      }

  pub all_missed : MissKeeps → (what ≡ whats.Gate → ⊥) → (r : Result T Busy) → IfErr r (λ b. gate.HasMissed c d what b.what b.word) → IsStanding c
      → IfErr r (λ b. (first : Token) (tag : Tag) (addr size n : ℕ) (flags : Flags) (out : List ℕ) → IsCarrying first c tag addr size n flags out → HasMetCarrying first d tag addr size n flags out what b)
  all_missed law off (Ok state) x sc = tt
  all_missed law off (Err b) x sc = missed law off b x sc

pub listened : (first c d : Token) (tag : Tag) (addr size n : ℕ) (flags : Flags) (out : List ℕ) → LookKeeps → gate.Runs c d [] → gate.Stands d (gate.stance c) → IsStanding c → IsCarrying first c tag addr size n flags out → IsCarrying first d tag addr size n flags out
listened first c d tag addr size n flags out law r x sc v =
    carries_on first c d tag addr size n flags out out [] v (added_runs c d [] r x).goes refl refl (law c d tag addr size n flags out (taken_of first c tag addr size n flags out v) sc r x)

pub still_listened : (c d : Token) → gate.Runs c d [] → IsStanding d → TellsStill c d
still_listened c d r sd = still_runs c d [] r sd (λ s. (refl, refl, refl))

-- the caller is one of the same heap
pub heap_carried : (first c d : Token) (tag : Tag) (addr size n : ℕ) (flags : Flags) (out more : List ℕ) → IsCarrying first c tag addr size n flags out → IsCarrying first d tag addr size n flags more → (t : TableId) (o : Opening) → (c.table ≡ t) × (c.opening ≡ o) → (d.table ≡ t) × (d.opening ≡ o)
heap_carried first c d tag addr size n flags out more v w t o e =
    let g = v.bringing.shown.goes in let h = w.bringing.shown.goes in (h.table ∙ (sym g.table ∙ e.0), h.opening ∙ (sym g.opening ∙ e.1))

pub heap_met : (first c d : Token) (tag : Tag) (addr size n : ℕ) (flags : Flags) (out : List ℕ) (what : What) (b : Busy) → IsCarrying first c tag addr size n flags out → HasMetCarrying first d tag addr size n flags out what b → (t : TableId) (o : Opening) → (c.table ≡ t) × (c.opening ≡ o)
    → (d.table ≡ t) × (d.opening ≡ o)
heap_met first c d tag addr size n flags out what b v w t o e =
    let g = v.bringing.shown.goes in let h = w.shown.goes in (h.table ∙ (sym g.table ∙ e.0), h.opening ∙ (sym g.opening ∙ e.1))

---- It is live again

pub still_given : (c d : Token) (addr size : ℕ) → IsGivenBack c d addr size → IsStanding c → TellsStill c d
still_given c d addr size x sc = let g = x.ended.added.goes in still_kept c d g.opening (setting_before c d (acts.Give addr size ∷ []) g) sc x.guarded

module _ (first c d : Token) (tag : Tag) (addr size n : ℕ) (flags : Flags) (out : List ℕ) (what : What) (b : Busy) (v : HasMetCarrying first c tag addr size n flags out what b) where
  pub met_rests : HasEnded c d (acts.Give addr size ∷ []) c.out → IsResting d out
  met_rests e = let st = e.added.steady in record { inside = st.inside ∙ v.holds.block.inside; whole = e.whole; free = e.free; out_is = e.out_is ∙ v.holds.out_is; owes = st.owes ∙ v.holds.owes }

  pub way : (gives : List Act) → none_begins gives ≡ true → shape_of gives ≡ [] → HasEnded c d (acts.Give addr size ∷ gives) [] → IsForNew n what → IsInTheWay first d addr n flags b
  way gives none hidden e f =
      let st = e.added.steady in let give = acts.Give addr size in
      let shape = acts.Take addr size ∷ acts.Blocked b.what b.word ∷ give ∷ [] in
      let shown : HasShown first d shape = shown_then first c d (acts.Take addr size ∷ acts.Blocked b.what b.word ∷ []) (give ∷ []) (give ∷ gives) v.shown e.added.goes none (ap (λ (l : List Act). give ∷ l) hidden) in
      record {
        shape = shape;
        made = record {
          added = shown.added;
          goes = shown.goes;
          no_begin = shown.no_begin;
          shape_is = shown.shape_is;
          stands = record {
            call_is = st.call ∙ v.holds.call_is;
            fresh = st.fresh ∙ v.holds.fresh;
            inside = st.inside ∙ v.holds.block.inside;
            out = e.out_is;
            whole = e.whole;
            free = e.free;
            pending = e.pending;
            prepared = e.prepared;
            drawn = st.searched ∙ (v.holds.drawn ∙ sym st.drawn);
            owes = st.owes ∙ v.holds.owes;
          };
        };
        hindered = inr (size, refl);
        another = v.another;
        may = inr (subst (IsForNew n) (sym v.what_is) f);
      }

-- .. behind a NoFit that was prepared
pub still_none : (c d : Token) (addr size n : ℕ) → IsGivenBack (with_prepared c (acts.NoFit n)) d addr size → IsStanding (with_prepared c (acts.NoFit n)) → TellsStill c d
still_none c d addr size n x st =
    let y = still_given (with_prepared c (acts.NoFit n)) d addr size x st in
    record { vs = λ a b vs t. y.vs a b vs (said_vs c n vs t); back = λ a b back t. y.back a b back (said_back c n back t); large = λ a b large t. y.large a b large (said_large c n large t) }
