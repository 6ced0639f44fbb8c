-- The parts of a compaction, put together.
use Rattle.std.proofs.Common.{◌≡◌, ◌≢◌, ℕ, ◌==◌, true, false, not, cond, ◌||◌, List, [], ◌∷◌, ◌++◌, length, refl, sym, ap, ◌∙◌, subst, arith, append_assoc}
use Rattle.std.specs.Prelude.{Result, Ok, Err, OnOk, OnErr}
use Rattle.std.proofs.lemmas.List.{append-nil}
use Rattle.std.proofs.lemmas.Bool.{ne_eqb}
use Rattle.heap_model.specs.declared.Act.{Act}
use Rattle.heap_model.specs.declared.Act.TheVariants as acts
use Rattle.heap_model.specs.declared.Busy.{Busy}
use Rattle.heap_model.specs.declared.Call.TheVariants as calls
use Rattle.heap_model.specs.declared.Entry.{Entry}
use Rattle.heap_model.specs.declared.Kind.TheVariants as kinds
use Rattle.heap_model.specs.declared.LockNo.TheVariants as lock_nos
use Rattle.heap_model.specs.declared.What.{What}
use Rattle.heap_model.specs.declared.What.TheVariants as whats
use Rattle.heap_model.specs.State.{Area, Span, Place}
use Rattle.heap_model.specs.Legal.{are_used, after}
use Rattle.heap_model.specs.Agreement.{SameHeap}
use Rattle.heap_model.specs.Shape.{WasBusy, HasActs, IsCompact, loose_pages, shape_of, are_spans_first, under_lock}
use Rattle.backend_fit.specs.Kept.{Kept, area_of}
use Rattle.claim_rule.specs.Entries.{entry}
use Rattle.claim_rule.specs.Places.{back_slot}
use Rattle.lfh_spans.specs.Subsegments.{IsBackOf}
use Rattle.lfh_spans.proofs.Joined.{setting_of_old}
use Rattle.heap_gate.specs.Token.{Token, Always, IsStanding, now}
use Rattle.heap_gate.specs.Calls.{Does, Runs, Stands, stance, with_prepared, with_depth, HasGiven, HasLocked, HasUnlocked, IsDeeper, IsShallower, IsRefusedLock, begins_unlock, begun_unlock}
use Rattle.call_parts.specs.Calls.{IsReadyToCall, GoesOn}
use Rattle.call_parts.proofs.Joining.{goes_does, goes_prepared, goes_then, setting_before}
use Rattle.call_parts.proofs.Serving.{answers, none_begins, none_begins-append}
use Rattle.compact_calls.specs.Owner.{IsOwning, Did}
use Rattle.compact_calls.specs.Empties.{unspans}
use Rattle.compact_calls.specs.Pages.{decommits, LeavesFront}
use Rattle.compact_calls.specs.Compact.{cleaning, HasCleaned, Ends, HasFinished, HasNumber, IsRefused}
use Rattle.compact_calls.proofs.Doing.{did_give, did_then}
use Rattle.compact_calls.proofs.Decommitting.{owns_now}
use Rattle.compact_calls.proofs.Emptying.{area_here}
use Rattle.compact_calls.proofs.Compacting.{cleaning_shown, cleaning_first, compacted}

---- Under the lock of the back end

pub cleaned : (a b m d : Token) (k1 k2 : Kept) (number : ℕ) → Did a b calls.Compact (acts.TakeLock whats.Back ∷ []) (back_slot ∷ [])
    → (heads : List ℕ) × Did b m calls.Compact (unspans heads) (back_slot ∷ []) → IsBackOf m k1
    → Always m (λ s. are_used 4096 kinds.Lfh (now s m).state.lfh (now s m).state.back.area.spans ≡ true)
    → Did m d calls.Compact (decommits (loose_pages (area_of k1))) (back_slot ∷ []) → number ≡ length (loose_pages (area_of k1)) → IsBackOf d k2
    → (area_of k2).spans ≡ (area_of k1).spans → loose_pages (area_of k2) ≡ [] → LeavesFront m d → HasCleaned a d k2 number
cleaned a b m d k1 k2 number take r b1 used x count b2 spans clean front = record {
  heads = r.0;
  pages = loose_pages (area_of k1);
  did = did_then a b d calls.Compact (acts.TakeLock whats.Back ∷ []) (unspans r.0 ++ decommits (loose_pages (area_of k1))) (back_slot ∷ []) (back_slot ∷ []) take
      (did_then b m d calls.Compact (unspans r.0) (decommits (loose_pages (area_of k1))) (back_slot ∷ []) (back_slot ∷ []) r.1 x);
  count = count;
  back_is = b2;
  compact = λ s q.
      let qm = setting_before m d (decommits (loose_pages (area_of k1))) x.goes s q in
      let xs : (now s d).state.back.area.spans ≡ (now s m).state.back.area.spans = ap (λ (z : Area). z.spans) (area_here d k2 b2 s q) ∙ (spans ∙ ap (λ (z : Area). z.spans) (sym (area_here m k1 b1 s qm))) in
      let is = subst (λ (z : List Place × List Span). are_used 4096 kinds.Lfh z.0 z.1 ≡ true) (sym (λ j. (front s q j, xs j))) (used s qm) in
      (is, ap loose_pages (area_here d k2 b2 s q) ∙ clean);
}

---- A call of the owner

owning_ready : (c : Token) → IsOwning c calls.Compact [] → IsReadyToCall c
owning_ready c v = record { outside = v.outside; out = v.out_is; free = v.free; whole = v.whole; pending = v.pending; prepared = v.prepared }

-- it may take and give locks
pub under_lock_of : (c : Token) (call : Rattle.heap_model.specs.declared.Call.Call) (out : List ℕ) → IsOwning c call out → (c.inside || not (c.depth == 0)) ≡ true
under_lock_of c call out v = (λ i. v.outside i || not (ne_eqb c.depth 0 v.owns i))

-- a call has begun
pub begun_owning : (a b : Token) → IsReadyToCall a → a.owes ≡ [] → a.depth ≢ 0 → Stands b (stance (with_prepared a (acts.Begin calls.Compact))) → IsOwning b calls.Compact []
begun_owning a b r w d s = record {
  call_is = s.call;
  outside = s.inside ∙ r.outside;
  owns = λ z. d (sym s.depth ∙ z);
  out_is = s.out ∙ r.out;
  whole = s.whole;
  free = s.free ∙ r.free;
  pending = s.pending;
  prepared = s.prepared;
  owes = s.owes ∙ w;
}

module _ (d : Token) (pages heads : List ℕ) (e : Token) where
  -- the lock of the back end is given back
  pub given_heap : IsStanding d → d.depth ≢ 0 → HasGiven d e whats.Back (entry d.number (acts.GiveLock whats.Back) ∷ []) → Always d (λ s. IsCompact (now s d).state) → Always e (λ s. IsCompact (now s e).state)
  given_heap st owns x compact s q =
      let qd = setting_of_old d e (entry d.number (acts.GiveLock whats.Back) ∷ []) x.runs.does s q in
      let h : SameHeap (now s e) (after s (now s d) (entry d.number (acts.GiveLock whats.Back))) = (x.runs.agrees s q).owned (owns_now d st owns s qd) in
      subst (λ (z : List Place × Rattle.heap_model.specs.State.BackPart). (are_used 4096 kinds.Lfh z.0 z.1.area.spans ≡ true) × (loose_pages z.1.area ≡ [])) (sym (λ j. (h.lfh j, h.back j))) (compact s qd)

pub owned_number : (a b d e : Token) (k : Kept) (number : ℕ) → IsStanding a → IsReadyToCall a → a.depth ≢ 0 → Runs (with_prepared a (acts.Begin calls.Compact)) b [] → Stands b (stance (with_prepared a (acts.Begin calls.Compact)))
    → HasCleaned b d k number → IsStanding d → HasGiven d e whats.Back (entry d.number (acts.GiveLock whats.Back) ∷ []) → HasNumber a e number
owned_number a b d e k number st ra owns run s x std g =
    let t = with_prepared a (acts.Begin calls.Compact) in
    let gave = did_give d e calls.Compact whats.Back [] x.did.owning g in
    let begun = goes_then a t b (acts.Begin calls.Compact ∷ []) [] (goes_prepared a (acts.Begin calls.Compact)) (goes_does t b [] run.does s.depth) in
    let most = goes_then a b d (acts.Begin calls.Compact ∷ []) (cleaning x.heads x.pages) begun x.did.goes in
    let all = goes_then a d e (acts.Begin calls.Compact ∷ cleaning x.heads x.pages) (acts.GiveLock whats.Back ∷ []) most gave.goes in
    let ends : Ends a e (acts.GiveLock whats.Back) = record { before = d; number = most.number; seen = most.seen; standing = std; owns = x.did.owning.owns; prepared = x.did.owning.prepared; compact = x.compact; does = g.runs.does } in
    record {
      rest = cleaning x.heads x.pages ++ acts.GiveLock whats.Back ∷ [];
      answers = compacted a e true x.pages number (cleaning x.heads x.pages) (acts.GiveLock whats.Back) st ra.prepared (ap not (ne_eqb a.depth 0 owns)) ends all g.runs.does.legal (owning_ready e gave.owning)
          (cleaning_shown x.heads x.pages (acts.GiveLock whats.Back ∷ []) ∙ append-nil (decommits x.pages)) (cleaning_first x.heads x.pages (acts.GiveLock whats.Back ∷ []) refl refl)
          (none_begins-append (cleaning x.heads x.pages) (acts.GiveLock whats.Back ∷ []) x.did.no_begin refl) x.count;
      owes = gave.owning.owes;
    }

---- A call that takes the heap lock

-- a step tells nothing of the depth
does_at : (a b : Token) (d : ℕ) (es : List Entry) → Does a b es → Does a (with_depth b d) es
does_at a b d es x = record { table = x.table; opening = x.opening; number = x.number; roll = x.roll; seen = x.seen; own = x.own; prepared = x.prepared; legal = x.legal }

goes_at : (a b : Token) (d : ℕ) (added : List Act) → GoesOn a b added → GoesOn (with_depth a d) (with_depth b d) added
goes_at a b d added g = record { table = g.table; opening = g.opening; number = g.number; depth = refl; roll = g.roll; seen = g.seen; own = g.own }

goes_over : (b e : Token) (d f : ℕ) (added : List Act) → e.depth ≡ d → GoesOn b (with_depth e f) added → GoesOn (with_depth b d) e added
goes_over b e d f added h g = record { table = g.table; opening = g.opening; number = g.number; depth = h; roll = g.roll; seen = g.seen; own = g.own }

-- the call is the compaction that took the lock, so no other begins
begins_none : (c : Token) → c.pending ≡ false → begins_unlock true c ≡ []
begins_none c p = (λ i. cond (p i || true) [] (entry c.number (acts.Begin calls.Unlock) ∷ []))

begun_none : (c : Token) → c.pending ≡ false → begun_unlock true c ≡ c
begun_none c p = (λ i. cond (p i || true) c (with_prepared c (acts.Begin calls.Unlock)))

unlock_is : {A B : Type 0} (d e : Token) (r : Result A B) → d.depth ≡ 1 → OnOk r (IsShallower true d e) → OnErr r ((d.depth ≡ 0) × (e ≡ d)) → HasUnlocked d e (stance (begun_unlock true d)) (begins_unlock true d ++ entry d.number acts.Unlock ∷ [])
unlock_is d e (Ok u) one x y = x.last one
unlock_is d e (Err n) one x y = absurd (let z : d.depth ≡ 0 = y.0 in let none : ⊥ = omega (arith, one, z) in none)

pub finished : {A B : Type 0} (b d g e : Token) (k : Kept) (number : ℕ) (r : Result A B) → IsOwning b calls.Compact [] → b.locked ≡ true → b.depth ≡ 1 → HasCleaned b d k number → IsStanding d
    → HasGiven d g whats.Back (entry d.number (acts.GiveLock whats.Back) ∷ []) → IsStanding g → OnOk r (IsShallower true g e) → OnErr r ((g.depth ≡ 0) × (e ≡ g)) → HasFinished b e number
finished b d g e k number r v locked one x std given stg ok err =
    let gave = did_give d g calls.Compact whats.Back [] x.did.owning given in
    let w = gave.owning in
    let depth : g.depth ≡ 1 = gave.goes.depth ∙ (x.did.goes.depth ∙ one) in
    let u = unlock_is g e r depth ok err in
    let s : Stands e (record (stance g) { depth = 0 }) = subst (λ (c : Token). Stands e (record (stance c) { depth = 0 })) (begun_none g w.pending) u.stands in
    let does : Does g e (entry g.number acts.Unlock ∷ []) = subst (λ (l : List Entry). Does g e (l ++ entry g.number acts.Unlock ∷ [])) (begins_none g w.pending) u.runs.does in
    let before = goes_then b d g (cleaning x.heads x.pages) (acts.GiveLock whats.Back ∷ []) x.did.goes gave.goes in
    let last : GoesOn g (with_depth e b.depth) (acts.Unlock ∷ []) = goes_does g (with_depth e b.depth) (acts.Unlock ∷ []) (does_at g e b.depth (entry g.number acts.Unlock ∷ []) does) (sym before.depth) in
    record {
      heads = x.heads;
      pages = x.pages;
      count = x.count;
      goes = goes_then b g (with_depth e b.depth) (cleaning x.heads x.pages ++ acts.GiveLock whats.Back ∷ []) (acts.Unlock ∷ []) before last;
      ends = record { before = g; number = before.number; seen = before.seen; standing = stg; owns = w.owns; prepared = w.prepared; compact = given_heap d x.pages x.heads g std x.did.owning.owns given x.compact; does = does };
      ready = record { outside = s.inside ∙ w.outside; out = s.out ∙ w.out_is; free = s.free ∙ w.free; whole = s.whole; pending = s.pending; prepared = s.prepared };
      depth = s.depth;
      owes = s.owes ∙ w.owes;
    }

module _ (a b : Token) (st : IsStanding a) (ra : IsReadyToCall a) (wa : a.owes ≡ []) (free : a.depth ≡ 0) where
  abbrev t : Token
  t = with_prepared a (acts.Begin calls.Compact)

  pub locked_first : IsDeeper t b → HasLocked t b (stance t) (entry t.number acts.Lock ∷ [])
  locked_first x = x.first free

  pub locked_owning : IsDeeper t b → IsOwning b calls.Compact []
  locked_owning x =
      let s = (locked_first x).stands in
      record {
        call_is = s.call;
        outside = s.inside ∙ ra.outside;
        owns = λ z. let one = s.depth in let none : ⊥ = omega (arith, one, z) in none;
        out_is = s.out ∙ ra.out;
        whole = s.whole;
        free = s.free ∙ ra.free;
        pending = s.pending;
        prepared = s.prepared;
        owes = s.owes ∙ wa;
      }

  pub locked_number : (e : Token) (number : ℕ) → IsDeeper t b → HasFinished b e number → HasNumber a e number
  locked_number e number x y =
      let f = locked_first x in
      let d = f.reveals.does in
      let head = goes_then a t (with_depth b a.depth) (acts.Begin calls.Compact ∷ []) (acts.Lock ∷ []) (goes_prepared a (acts.Begin calls.Compact)) (goes_does t (with_depth b a.depth) (acts.Lock ∷ []) (does_at t b a.depth (entry t.number acts.Lock ∷ []) d) refl) in
      let inner = cleaning y.heads y.pages ++ acts.GiveLock whats.Back ∷ [] in
      let tail = goes_over b e a.depth b.depth (inner ++ acts.Unlock ∷ []) (y.depth ∙ sym free) y.goes in
      let all = goes_then a (with_depth b a.depth) e (acts.Begin calls.Compact ∷ acts.Lock ∷ []) (inner ++ acts.Unlock ∷ []) head tail in
      let z = y.ends in
      let seen = Rattle.claim_rule.proofs.Lists.prefix_trans a.seen b.seen z.before.seen head.seen z.seen in
      let ends : Ends a e acts.Unlock = record { before = z.before; number = z.number ∙ head.number; seen = seen; standing = z.standing; owns = z.owns; prepared = z.prepared; compact = z.compact; does = z.does } in
      let two : List Act = acts.GiveLock whats.Back ∷ acts.Unlock ∷ [] in
      let joined : inner ++ acts.Unlock ∷ [] ≡ cleaning y.heads y.pages ++ two = append_assoc (cleaning y.heads y.pages) (acts.GiveLock whats.Back ∷ []) (acts.Unlock ∷ []) in
      let shape : shape_of (acts.Lock ∷ (inner ++ acts.Unlock ∷ [])) ≡ under_lock false (decommits y.pages) = ap (λ (l : List Act). acts.Lock ∷ shape_of l) joined ∙ ap (λ (l : List Act). acts.Lock ∷ l) (cleaning_shown y.heads y.pages two) in
      let first : are_spans_first (acts.Lock ∷ (inner ++ acts.Unlock ∷ [])) ≡ true = ap are_spans_first joined ∙ cleaning_first y.heads y.pages two refl refl in
      let none : none_begins (acts.Lock ∷ (inner ++ acts.Unlock ∷ [])) ≡ true = ap none_begins joined ∙ none_begins-append (cleaning y.heads y.pages) two (cleaning_begins y.heads y.pages) refl in
      record {
        rest = acts.Lock ∷ (inner ++ acts.Unlock ∷ []);
        answers = compacted a e false y.pages number (acts.Lock ∷ inner) acts.Unlock st ra.prepared (ap (λ (n : ℕ). not (n == 0)) free) ends all z.does.legal y.ready shape first none y.count;
        owes = y.owes;
      }
    where
      pages_begin : (pages : List ℕ) → none_begins (decommits pages) ≡ true
      pages_begin [] = refl
      pages_begin (p ∷ pages) = pages_begin pages

      cleaning_begins : (heads pages : List ℕ) → none_begins (cleaning heads pages) ≡ true
      cleaning_begins [] pages = pages_begin pages
      cleaning_begins (h ∷ heads) pages = cleaning_begins heads pages

  pub refused : (busy : Busy) → IsRefusedLock t b (lock_nos.Busy busy) → IsRefused a b busy
  refused busy x =
      let y = x.1 in
      let s = y.stands in
      let rest : List Act = acts.Blocked whats.Gate busy.word ∷ [] in
      let told : HasActs calls.Compact (WasBusy busy) rest = ap (λ (w : What). acts.Blocked w busy.word ∷ []) (sym y.gate) in
      let g = goes_then a t b (acts.Begin calls.Compact ∷ []) rest (goes_prepared a (acts.Begin calls.Compact)) (goes_does t b rest y.runs.does s.depth) in
      let rb : IsReadyToCall b = record { outside = s.inside ∙ ra.outside; out = s.out ∙ ra.out; free = s.free ∙ ra.free; whole = s.whole; pending = s.pending; prepared = s.prepared } in
      record {
        outside = free;
        what = y.gate;
        word = y.word_is;
        answered = record { rest = rest; answers = answers a b calls.Compact (WasBusy busy) rest ra g refl told y.runs.does.legal rb; owes = s.owes ∙ wa };
      }
