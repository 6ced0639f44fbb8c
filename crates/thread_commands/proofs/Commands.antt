-- One command of a thread.
use Rattle.std.proofs.Common.{◌≡◌, ℕ, ◌+◌, ◌-◌, ◌≤◌, Bool, true, false, not, List, [], ◌∷◌, ◌++◌, refl, sym, ◌∙◌, subst, arith}
use Rattle.std.specs.Prelude.{MatchBool, if◌then◌else◌}
use Rattle.heap_model.specs.declared.Call.{Call}
use Rattle.heap_model.specs.declared.Reply.{Reply}
use Rattle.heap_model.specs.declared.Reply.TheVariants as replies
use Rattle.script_text.specs.declared.commands.Command.{Command}
use Rattle.script_text.specs.declared.commands.Command.TheVariants as commands
use Rattle.script_text.specs.Calls.{call_of}
use Rattle.script_text.specs.Values.{Answered}
use Rattle.script_laws.specs.Printable.{IsBalanced}
use Rattle.report_text.specs.Report.{is_seen}
use Rattle.name_values.specs.Table.{NameTable, value_in, Tells}
use Rattle.name_values.proofs.Tables.{called, noted_none}
use Rattle.heap_gate.specs.Token.{HeapToken, Token}
use Rattle.heap_now.specs.Calls.{IsCallerOf}
use Rattle.thread_calls.specs.Serving.{Serves, EndsOnce, HasWalked, IsServable, IsDepthBehind, is_last}
use Rattle.thread_rounds.specs.Threads.{answered}
use Rattle.thread_commands.specs.Working.{Fills, IsLed, RunsOne}
use Rattle.thread_commands.specs.declared.workers.Worker.{Worker}

---- Which calls there are

pub servable : (v : ℕ → ℕ) (command : Command) → (command ≡ commands.Walk → ⊥) → IsServable (call_of v command)
servable v (commands.Alloc name n zeroed) o = tt
servable v (commands.Realloc target n in_place) o = tt
servable v (commands.Free target) o = tt
servable v (commands.Size target) o = tt
servable v (commands.Get target index) o = tt
servable v (commands.Put target index value) o = tt
servable v commands.Lock o = tt
servable v commands.Unlock o = tt
servable v commands.Walk o = absurd (o refl)
servable v commands.Compact o = tt

pub led_caller : (h : HeapToken) (a b : Token) (call : Call) → IsCallerOf h a → IsLed call a b → IsCallerOf h b
led_caller h a b call k x = record { table = x.goes.table ∙ k.table; opening = x.goes.opening ∙ k.opening; is_ready = x.goes.ready }

-- the heap lock is given back as often as it is taken
pub balanced_on : (v : ℕ → ℕ) (d old new : ℕ) (command : Command) (rest : List Command) → old ≤ d → IsBalanced d (command ∷ rest) → IsDepthBehind (call_of v command) old new
    → (e : ℕ) × (new ≤ e) × IsBalanced e rest
balanced_on v d old new (commands.Alloc name n zeroed) rest l b x = (d, omega (arith, x), b)
balanced_on v d old new (commands.Realloc target n in_place) rest l b x = (d, omega (arith, x), b)
balanced_on v d old new (commands.Free target) rest l b x = (d, omega (arith, x), b)
balanced_on v d old new (commands.Size target) rest l b x = (d, omega (arith, x), b)
balanced_on v d old new (commands.Get target index) rest l b x = (d, omega (arith, x), b)
balanced_on v d old new (commands.Put target index value) rest l b x = (d, omega (arith, x), b)
balanced_on v d old new commands.Lock rest l b x = (d + 1, omega (arith, x), b)
balanced_on v d old new commands.Unlock rest l b x = (d - 1, omega (arith, x), b.1)
balanced_on v d old new commands.Walk rest l b x = (d, omega (arith, x), b)
balanced_on v d old new commands.Compact rest l b x = (d, omega (arith, x), b)

---- Replies of one command

seen_last : (r : Reply) → is_seen r ≡ not (is_last r)
seen_last (replies.Address a) = refl
seen_last replies.Done = refl
seen_last (replies.Number n) = refl
seen_last replies.NoFit = refl
seen_last replies.NotLive = refl
seen_last replies.NoRoom = refl
seen_last (replies.Past n) = refl
seen_last replies.Depth = refl
seen_last replies.NotOwner = refl
seen_last replies.NotLocked = refl
seen_last (replies.Seen b) = refl
seen_last (replies.Walked n) = refl
seen_last (replies.Compacted n) = refl

pub ends_fills : (command : Command) (its : List Reply) → EndsOnce its → Fills (command ∷ []) its
ends_fills command [] h = absurd h
ends_fills command (r ∷ rs) h = go (is_last r) (is_seen r) (seen_last r) h (ends_fills command rs)
  where
    go : (x y : Bool) → y ≡ not x → MatchBool x (rs ≡ []) (EndsOnce rs) → (EndsOnce rs → Fills (command ∷ []) rs) → MatchBool y (Fills (command ∷ []) rs) (Fills [] rs)
    go true true e h more = absurd (cc e)
    go true false e h more = rw h tt
    go false true e h more = more h
    go false false e h more = absurd (cc e)

-- the last reply is the command's
pub answered_ends : (command : Command) (its : List Reply) → EndsOnce its → (r : Reply) × (answered (command ∷ []) its ≡ record { command = command; reply = r } ∷ [])
answered_ends command [] h = absurd h
answered_ends command (r ∷ rs) h = go (is_last r) (is_seen r) (seen_last r) h (answered_ends command rs)
  where
    go : (x y : Bool) → y ≡ not x → MatchBool x (rs ≡ []) (EndsOnce rs) → (EndsOnce rs → (q : Reply) × (answered (command ∷ []) rs ≡ record { command = command; reply = q } ∷ []))
        → (q : Reply) × ((if y then answered (command ∷ []) rs else record { command = command; reply = r } ∷ answered [] rs) ≡ record { command = command; reply = q } ∷ [])
    go true true e h more = absurd (cc e)
    go true false e h more = (r, rw h refl)
    go false true e h more = more h
    go false false e h more = absurd (cc e)

pub answered_one : (command : Command) (r : Reply) → is_last r ≡ true → answered (command ∷ []) (r ∷ []) ≡ record { command = command; reply = r } ∷ []
answered_one command r l = rw (seen_last r, l) refl

pub once : (r : Reply) → is_last r ≡ true → EndsOnce (r ∷ [])
once r e = rw e refl

---- What the worker has done

module _ (a b : Worker) where
  pub ran_call : (command : Command) (call : Call) (r : Reply) → call ≡ call_of (value_in a.names.values) command → Serves a.caller b.caller call (r ∷ []) → is_last r ≡ true
      → b.replies.items ≡ a.replies.items ++ r ∷ []
      → ((earlier : List (List (List Answered))) → (own : List Answered) → Tells a.names earlier own → Tells b.names earlier (own ++ record { command = command; reply = r } ∷ []))
      → (earlier : List (List (List Answered))) → (own : List Answered) → Tells a.names earlier own → RunsOne a b earlier own command
  ran_call command call r is serves last pushed noted earlier own k = record {
    its = r ∷ [];
    serves = subst (λ (c : Call). Serves a.caller b.caller c (r ∷ [])) (is ∙ called a.names earlier own command k) serves;
    ends = once r last;
    replies = pushed;
    names = subst (λ (l : List Answered). Tells b.names earlier (own ++ l)) (sym (answered_one command r last)) (noted earlier own k);
  }

  pub ran_walk : (its : List Reply) → HasWalked a.caller b.caller its → b.replies.items ≡ a.replies.items ++ its → b.names ≡ a.names
      → (earlier : List (List (List Answered))) → (own : List Answered) → Tells a.names earlier own → RunsOne a b earlier own commands.Walk
  ran_walk its w pushed same earlier own k = record {
    its = its;
    serves = w.serves;
    ends = w.ends;
    replies = pushed;
    names =
        let x = answered_ends commands.Walk its w.ends in
        subst (λ (t : NameTable). Tells t earlier (own ++ answered (commands.Walk ∷ []) its)) (sym same)
        (subst (λ (l : List Answered). Tells a.names earlier (own ++ l)) (sym x.1) (noted_none a.names a.names commands.Walk x.0 earlier own k (λ name. refl) refl));
  }
