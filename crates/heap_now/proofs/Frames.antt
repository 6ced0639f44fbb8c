-- How a call begins and ends, and how a part between answers it.
use Rattle.std.proofs.Common.{◌≡◌, ◌≢◌, ℕ, ◌+◌, List, [], ◌∷◌, ◌++◌, refl, sym, ◌∙◌, subst, inl, inr}
use Rattle.std.specs.Prelude.{Result, Ok, Err, OnOk, IfErr}
use Rattle.heap_model.specs.declared.Act.{Act}
use Rattle.heap_model.specs.declared.Act.TheVariants as acts
use Rattle.heap_model.specs.declared.Busy.{Busy}
use Rattle.heap_model.specs.declared.Call.{Call}
use Rattle.heap_model.specs.declared.Call.TheVariants as calls
use Rattle.heap_model.specs.declared.What.{What}
use Rattle.heap_model.specs.declared.What.TheVariants as whats
use Rattle.heap_model.specs.Shape.{Answer, Replied, WasBusy, HasActs}
use Rattle.claim_rule.specs.Entries.{entry}
use Rattle.heap_gate.specs.Token.{HeapToken, Token}
use Rattle.heap_gate.specs.Calls.{with_prepared, stance, HasEntered, HasTurnedBack, HasLeft}
use Rattle.call_parts.specs.Calls.{IsReadyToCall, IsCause, IsServing, IsInside, Brings, MeetsBusy}
use Rattle.call_parts.proofs.Joining.{goes_prepared, goes_does, goes_then}
use Rattle.call_parts.proofs.Serving.{new_from_begin, answers, answers_then}
use Rattle.paged_calls.specs.Parts.{ForCall}
use Rattle.heap_now.specs.Calls.{IsReady, IsCallerOf, HasBegun, HasGone, Gets, GetsBusy, EndsWith, ServesWith}

---- Busy

pub was_busy : (call : Call) (b : Busy) → HasActs call (WasBusy b) (acts.Blocked b.what b.word ∷ [])
was_busy (calls.Realloc a n flags) b = inl refl
was_busy call b = refl

-- the lock of a layer names its holder
pub layer_cause : (n word : ℕ) (what : What) → what ≢ whats.Gate → (word ≢ 0) × (word ≢ n + 1) → IsCause n (record { what = what; word = word })
layer_cause n word whats.Gate other h = absurd (other refl)
layer_cause n word _ other h = h

---- The beginning

module _ (a : Token) (call : Call) (r : IsReady a) where
  abbrev pub begun : Token
  begun = with_prepared a (acts.Begin call)

  pub has_begun : (b : Token) → HasEntered begun b (stance begun) (entry a.number acts.Enter ∷ []) → HasBegun a b call
  has_begun b x =
      let s = x.stands in
      let g = goes_then a begun b (acts.Begin call ∷ []) (acts.Enter ∷ []) (goes_prepared a (acts.Begin call)) (goes_does begun b (acts.Enter ∷ []) x.runs.does s.depth) in
      record {
        goes = g;
        legal = x.runs.does.legal;
        serving = record {
          call_is = s.call;
          fresh = s.fresh;
          inside = s.inside;
          out_is = s.out ∙ r.ready.out;
          whole = s.whole;
          free = s.free ∙ r.ready.free;
          pending = s.pending;
          prepared = s.prepared;
          searched = s.searched;
          drawn = s.drawn;
          owes = s.owes ∙ r.owes;
          is_new = new_from_begin a b call (acts.Enter ∷ []) g r.ready.prepared s.prepared refl;
        };
      }

  -- .. or the end, where another owns the heap lock
  pub has_turned : (b : Token) (busy : Busy) → HasTurnedBack begun b (stance begun) busy.what busy.word (entry a.number (acts.Blocked whats.Gate busy.word) ∷ entry a.number acts.Leave ∷ [])
      → GetsBusy a b call busy × (busy.what ≡ whats.Gate)
  has_turned b busy x =
      let s = x.stands in
      let rest : List Act = acts.Blocked whats.Gate busy.word ∷ acts.Leave ∷ [] in
      let g = goes_then a begun b (acts.Begin call ∷ []) rest (goes_prepared a (acts.Begin call)) (goes_does begun b rest x.runs.does s.depth) in
      let told : HasActs call (WasBusy busy) (acts.Blocked whats.Gate busy.word ∷ []) = subst (λ (w : What). HasActs call (WasBusy busy) (acts.Blocked w busy.word ∷ [])) x.gate (was_busy call busy) in
      let rb : IsReadyToCall b = record {
        outside = s.inside ∙ r.ready.outside;
        out = s.out ∙ r.ready.out;
        free = s.free ∙ r.ready.free;
        whole = s.whole;
        pending = s.pending;
        prepared = s.prepared;
      } in
      let got : GetsBusy a b call busy = record {
        gets = record { rest = rest; answers = answers a b call (WasBusy busy) rest r.ready g refl told x.runs.does.legal rb; owes = s.owes ∙ r.owes };
        cause = subst (λ (w : What). IsCause a.number (record { what = w; word = busy.word })) (sym x.gate) x.names;
      } in
      (got, x.gate)

pub same_table : {A : Type 0} (a b : Token) (call : Call) (r : Result A Busy) → OnOk r (HasBegun a b call) → IfErr r (λ e. GetsBusy a b call e × (e.what ≡ whats.Gate)) → (b.table ≡ a.table) × (b.opening ≡ a.opening)
same_table a b call (Ok u) g x = (g.goes.table, g.goes.opening)
same_table a b call (Err e) g x = (x.0.gets.answers.table, x.0.gets.answers.opening)

---- The end

pub has_gone : (d e : Token) (call : Call) → IsInside d call → HasLeft d e (entry d.number acts.Leave ∷ []) → HasGone d e
has_gone d e call i x =
    let s = x.stands in
    record {
      goes = goes_does d e (acts.Leave ∷ []) x.runs.does s.depth;
      legal = x.runs.does.legal;
      ready = record {
        ready = record { outside = s.inside; out = s.out ∙ i.out; free = s.free ∙ i.free; whole = s.whole; pending = s.pending; prepared = s.prepared };
        owes = s.owes ∙ i.owes;
      };
    }

---- The whole call

pub gets : (a b d e : Token) (call : Call) (answer : Answer) → IsReady a → HasBegun a b call → Brings b d call answer → HasGone d e → Gets a e call answer
gets a b d e call answer r g x l = record {
  rest = acts.Enter ∷ (x.1.added ++ acts.Leave ∷ []);
  answers = answers_then a b d e call answer (acts.Enter ∷ []) r.ready g.goes refl refl x l.goes l.legal l.ready.ready;
  owes = l.ready.owes;
}

pub gets_busy : (a b d e : Token) (call : Call) (busy : Busy) → busy.what ≢ whats.Gate → IsReady a → HasBegun a b call → MeetsBusy b d call busy busy.what → HasGone d e → GetsBusy a e call busy
gets_busy a b d e call busy layer r g m l = record {
  gets = gets a b d e call (WasBusy busy) r g (acts.Blocked busy.what busy.word ∷ [], m.made, was_busy call busy) l;
  cause = layer_cause a.number busy.word busy.what layer (subst (λ (n : ℕ). (busy.word ≢ 0) × (busy.word ≢ n + 1)) g.goes.number m.another);
}

-- However the part inside ended, the caller is inside, at its table.
pub stays_inside : (May : What → Type 0) (b d : Token) (call : Call) (answer : Answer) → ServesWith May b d call answer → (d.table ≡ b.table) × ((k : Call) × IsInside d k)
stays_inside May b d call (Replied reply) x = let m = x.1 in (m.goes.table, (call, m.stands))
stays_inside May b d call (WasBusy busy) x = let m = x.0.made in (m.goes.table, (call, m.stands))

pub ends_with : (May : What → Type 0) (a b d e : Token) (call : Call) (answer : Answer) → IsReady a → HasBegun a b call → ServesWith May b d call answer → HasGone d e → EndsWith May a e call answer
ends_with May a b d e call (Replied reply) r g x l = gets a b d e call (Replied reply) r g x l
ends_with May a b d e call (WasBusy busy) r g x l = (gets_busy a b d e call busy x.1 r g x.0 l, inr x.2)

---- Parts of calls that were served

-- in the call that the caller is in
pub served : (b : Token) (call : Call) (out : List ℕ) (P : Call → Type 0) → IsServing b call out → ForCall b P → P call
served b call out P v x = x call v.call_is

pub met : (b d : Token) (call : Call) (busy : Busy) (what : What) → MeetsBusy b d call busy what → MeetsBusy b d call busy busy.what
met b d call busy what m = record { made = m.made; what_is = refl; another = m.another }

---- Between calls

caller_again : (h : HeapToken) (a e : Token) (call : Call) (answer : Answer) → IsCallerOf h a → Gets a e call answer → IsCallerOf h e
caller_again h a e call answer k x = record {
  table = x.answers.table ∙ k.table;
  opening = x.answers.opening ∙ k.opening;
  is_ready = record { ready = x.answers.ready; owes = x.owes };
}

-- the caller may call again
pub again : (May : What → Type 0) (h : HeapToken) (a e : Token) (call : Call) (answer : Answer) → IsCallerOf h a → EndsWith May a e call answer → IsCallerOf h e
again May h a e call (Replied reply) k x = caller_again h a e call (Replied reply) k x
again May h a e call (WasBusy busy) k x = caller_again h a e call (WasBusy busy) k x.0.gets
