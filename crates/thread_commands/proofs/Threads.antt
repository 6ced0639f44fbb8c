-- The commands of a thread, one behind the other.
use Rattle.std.proofs.Common.{◌≡◌, ℕ, zero, suc, ◌+◌, ◌<◌, ◌≤◌, Bool, true, false, List, [], ◌∷◌, ◌++◌, map, length, take, drop, get_or, refl, sym, ap, ◌∙◌, subst, append_assoc, arith}
use Rattle.std.specs.Prelude.{MatchBool, if◌then◌else◌}
use Rattle.std.proofs.lemmas.List.{append-nil}
use Rattle.heap_model.specs.declared.Reply.{Reply}
use Rattle.heap_model.specs.History.{configuration_of}
use Rattle.heap_model.specs.Moments.{Moment, moments}
use Rattle.heap_model.specs.Served.{IsServed, by_depth, depth_after}
use Rattle.heap_model.specs.State.{Setting}
use Rattle.script_text.specs.declared.commands.Command.{Command}
use Rattle.script_text.specs.declared.commands.CommandLine.{CommandLine}
use Rattle.script_text.specs.Calls.{call_of}
use Rattle.script_text.specs.Scripts.{command_of}
use Rattle.script_text.specs.Values.{Answered}
use Rattle.script_laws.specs.Printable.{IsBalanced}
use Rattle.report_text.specs.Report.{is_seen}
use Rattle.name_values.specs.Table.{Tells}
use Rattle.heap_gate.specs.Token.{Always}
use Rattle.heap_now.specs.Calls.{IsReady}
use Rattle.heap_api.proofs.Made.{moments_on}
use Rattle.thread_calls.specs.Serving.{Goes}
use Rattle.thread_calls.proofs.Steps.{goes_self, goes_on, setting_goes}
use Rattle.thread_rounds.specs.Threads.{answered, asked_at, Tries, IsThread}
use Rattle.thread_commands.specs.Working.{Fills, RunsOne, Runs}
use Rattle.thread_commands.specs.declared.workers.Worker.{Worker}
use Rattle.thread_commands.proofs.Commands.{ends_fills, balanced_on}

---- Replies of several commands

pub fills_on : (cs ds : List Command) (rs qs : List Reply) → Fills cs rs → Fills ds qs → Fills (cs ++ ds) (rs ++ qs)
fills_on [] ds [] qs f g = g
fills_on [] ds (r ∷ rs) qs f g = absurd f
fills_on (c ∷ cs) ds [] qs f g = absurd f
fills_on (c ∷ cs) ds (r ∷ rs) qs f g = go (is_seen r) f (λ x. fills_on (c ∷ cs) ds rs qs x g) (λ x. fills_on cs ds rs qs x g)
  where
    go : (b : Bool) → MatchBool b (Fills (c ∷ cs) rs) (Fills cs rs) → (Fills (c ∷ cs) rs → Fills (c ∷ (cs ++ ds)) (rs ++ qs)) → (Fills cs rs → Fills (cs ++ ds) (rs ++ qs))
        → MatchBool b (Fills (c ∷ (cs ++ ds)) (rs ++ qs)) (Fills (cs ++ ds) (rs ++ qs))
    go true x m n = m x
    go false x m n = n x

pub answered_on : (cs ds : List Command) (rs qs : List Reply) → Fills cs rs → answered (cs ++ ds) (rs ++ qs) ≡ answered cs rs ++ answered ds qs
answered_on [] ds [] qs f = refl
answered_on [] ds (r ∷ rs) qs f = absurd f
answered_on (c ∷ cs) ds [] qs f = absurd f
answered_on (c ∷ cs) ds (r ∷ rs) qs f = go (is_seen r) f (answered_on (c ∷ cs) ds rs qs) (answered_on cs ds rs qs)
  where
    one : Answered
    one = record { command = c; reply = r }

    go : (b : Bool) → MatchBool b (Fills (c ∷ cs) rs) (Fills cs rs) → (Fills (c ∷ cs) rs → answered (c ∷ (cs ++ ds)) (rs ++ qs) ≡ answered (c ∷ cs) rs ++ answered ds qs)
        → (Fills cs rs → answered (cs ++ ds) (rs ++ qs) ≡ answered cs rs ++ answered ds qs)
        → (if b then answered (c ∷ (cs ++ ds)) (rs ++ qs) else one ∷ answered (cs ++ ds) (rs ++ qs)) ≡ (if b then answered (c ∷ cs) rs else one ∷ answered cs rs) ++ answered ds qs
    go true x m n = m x
    go false x m n = ap (λ (l : List Answered). one ∷ l) (n x)

---- A thread, with what it leaves: its answered commands, and its depth

abbrev pub IsThreadTo : Setting → ℕ → List (List (List Answered)) → List Answered → ℕ → List Command → List Reply → List Moment → List Answered → ℕ → Type 0
IsThreadTo s c earlier own depth [] rs xs own' depth' = (rs ≡ []) × (xs ≡ []) × (own' ≡ own) × (depth' ≡ depth)
IsThreadTo s c earlier own depth (command ∷ rest) rs xs own' depth' =
    (its : List Reply) × (others : List Reply) × (made : List Moment) × (later : List Moment)
    × (rs ≡ its ++ others) × (xs ≡ made ++ later)
    × IsServed (Tries s c) (by_depth depth (asked_at earlier own command)) (asked_at earlier own command) its made
    × IsThreadTo s c earlier (own ++ answered (command ∷ []) its) (depth_after depth (asked_at earlier own command) its) rest others later own' depth'

module _ (s : Setting) (c : ℕ) (earlier : List (List (List Answered))) where
  pub to_thread : (own : List Answered) (depth : ℕ) (cs : List Command) (rs : List Reply) (xs : List Moment) (own' : List Answered) (depth' : ℕ)
      → IsThreadTo s c earlier own depth cs rs xs own' depth' → IsThread s c earlier own depth cs rs xs
  to_thread own depth [] rs xs own' depth' t = (t.0, t.1)
  to_thread own depth (command ∷ rest) rs xs own' depth' t =
      (t.0, t.1, t.2, t.3, t.4, t.5, t.6, to_thread (own ++ answered (command ∷ []) t.0) (depth_after depth (asked_at earlier own command) t.0) rest t.1 t.3 own' depth' t.7)

  pub to_more : (own : List Answered) (depth : ℕ) (cs : List Command) (rs : List Reply) (xs : List Moment) (own' : List Answered) (depth' : ℕ) (k : Command) (its : List Reply) (ys : List Moment)
      → IsThreadTo s c earlier own depth cs rs xs own' depth'
      → IsServed (Tries s c) (by_depth depth' (asked_at earlier own' k)) (asked_at earlier own' k) its ys
      → IsThreadTo s c earlier own depth (cs ++ k ∷ []) (rs ++ its) (xs ++ ys) (own' ++ answered (k ∷ []) its) (depth_after depth' (asked_at earlier own' k) its)
  to_more own depth [] rs xs own' depth' k its ys t v = (
    its,
    [],
    ys,
    [],
    ap (λ l. l ++ its) t.0 ∙ sym (append-nil its),
    ap (λ l. l ++ ys) t.1 ∙ sym (append-nil ys),
    subst (λ (x : List Answered × ℕ). IsServed (Tries s c) (by_depth x.1 (asked_at earlier x.0 k)) (asked_at earlier x.0 k) its ys) (λ i. (t.2 i, t.3 i)) v,
    (refl, refl, ap (λ (l : List Answered). l ++ answered (k ∷ []) its) t.2, λ i. depth_after (t.3 i) (asked_at earlier (t.2 i) k) its),
  )
  to_more own depth (command ∷ rest) rs xs own' depth' k its ys t v = (
    t.0,
    t.1 ++ its,
    t.2,
    t.3 ++ ys,
    ap (λ l. l ++ its) t.4 ∙ append_assoc t.0 t.1 its,
    ap (λ l. l ++ ys) t.5 ∙ append_assoc t.2 t.3 ys,
    t.6,
    to_more (own ++ answered (command ∷ []) t.0) (depth_after depth (asked_at earlier own command) t.0) rest t.1 t.3 own' depth' k its ys t.7 v,
  )

---- A worker in the midst of a thread

pub record RunsSoFar (a b : Worker) (earlier : List (List (List Answered))) (cs : List Command) : Type 0 where
  pub goes : Goes a.caller b.caller
  pub thread : Always b.caller (λ s.
      IsThreadTo s a.caller.number earlier [] 0 cs b.replies.items (moments s a.caller.number (configuration_of s a.caller.seen) goes.seen.0) (answered cs b.replies.items) b.caller.depth)
  pub fills : Fills cs b.replies.items
  pub names : Tells b.names earlier (answered cs b.replies.items)

pub runs_none : (a : Worker) (earlier : List (List (List Answered))) → IsReady a.caller → a.caller.depth ≡ 0 → a.replies.items ≡ [] → Tells a.names earlier [] → RunsSoFar a a earlier []
runs_none a earlier r d none k = record {
  goes = goes_self a.caller r;
  thread = λ s q. (none, refl, ap (answered []) none, d);
  fills = subst (Fills []) (sym none) tt;
  names = subst (λ (rs : List Reply). Tells a.names earlier (answered [] rs)) (sym none) k;
}

module _ (a b c : Worker) (earlier : List (List (List Answered))) (cs : List Command) (k : Command) (x : RunsSoFar a b earlier cs) (y : RunsOne b c earlier (answered cs b.replies.items) k) where
  abbrev own' : List Answered
  own' = answered cs b.replies.items

  abbrev g : Goes a.caller c.caller
  g = goes_on a.caller b.caller c.caller x.goes y.serves.goes

  more_is : answered (cs ++ k ∷ []) c.replies.items ≡ own' ++ answered (k ∷ []) y.its
  more_is = ap (answered (cs ++ k ∷ [])) y.replies ∙ answered_on cs (k ∷ []) b.replies.items y.its x.fills

  pub runs_more : RunsSoFar a c earlier (cs ++ k ∷ [])
  runs_more = record {
    goes = g;
    thread = λ s q.
        let n = a.caller.number in
        let before = moments s n (configuration_of s a.caller.seen) x.goes.seen.0 in
        let since = moments s n (configuration_of s b.caller.seen) y.serves.goes.seen.0 in
        let call = asked_at earlier own' k in
        let v = subst (λ (m : ℕ). IsServed (Tries s m) (by_depth b.caller.depth call) call y.its (moments s m (configuration_of s b.caller.seen) y.serves.goes.seen.0)) x.goes.number (y.serves.served s q) in
        let t = to_more s n earlier [] 0 cs b.replies.items before own' b.caller.depth k y.its since (x.thread s (setting_goes b.caller c.caller y.serves.goes s q)) v in
        subst (λ (l : List Moment). IsThreadTo s n earlier [] 0 (cs ++ k ∷ []) c.replies.items l (answered (cs ++ k ∷ []) c.replies.items) c.caller.depth) (sym (moments_on s n a.caller b.caller c.caller x.goes.seen y.serves.goes.seen))
        (subst (λ (z : List Reply × List Answered × ℕ). IsThreadTo s n earlier [] 0 (cs ++ k ∷ []) z.0 (before ++ since) z.1 z.2) (λ i. (sym y.replies i, sym more_is i, sym y.serves.depth i)) t);
    fills = subst (Fills (cs ++ k ∷ [])) (sym y.replies) (fills_on cs (k ∷ []) b.replies.items y.its x.fills (ends_fills k y.its y.ends));
    names = subst (Tells c.names earlier) (sym more_is) y.names;
  }

pub runs_all : (a b : Worker) (earlier : List (List (List Answered))) (cs : List Command) → RunsSoFar a b earlier cs → Runs a b earlier cs
runs_all a b earlier cs x = record {
  goes = x.goes;
  thread = λ s q.
      let n = a.caller.number in
      to_thread s n earlier [] 0 cs b.replies.items (moments s n (configuration_of s a.caller.seen) x.goes.seen.0) (answered cs b.replies.items) b.caller.depth (x.thread s q);
  names = x.names;
}

---- Over the lines of a thread

pub take_mapped : (cs : List CommandLine) (i : ℕ) (d : CommandLine) → i < length cs → map command_of (take (i + 1) cs) ≡ map command_of (take i cs) ++ (get_or cs i d).command ∷ []
take_mapped [] i d l = absurd (omega arith)
take_mapped (x ∷ xs) zero d l = refl
take_mapped (x ∷ xs) (suc i) d l = let e : suc i + 1 ≡ suc (i + 1) = omega arith in rw e (ap (λ ys. x.command ∷ ys) (take_mapped xs i d (omega arith)))

pub drop_mapped : (cs : List CommandLine) (i : ℕ) (d : CommandLine) → i < length cs → map command_of (drop i cs) ≡ (get_or cs i d).command ∷ map command_of (drop (i + 1) cs)
drop_mapped [] i d l = absurd (omega arith)
drop_mapped (x ∷ xs) zero d l = refl
drop_mapped (x ∷ xs) (suc i) d l = let e : suc i + 1 ≡ suc (i + 1) = omega arith in rw e (drop_mapped xs i d (omega arith))

pub drop_all : (cs : List CommandLine) (i : ℕ) → length cs ≤ i → drop i cs ≡ []
drop_all [] zero l = refl
drop_all [] (suc i) l = refl
drop_all (x ∷ xs) zero l = absurd (omega arith)
drop_all (x ∷ xs) (suc i) l = drop_all xs i (omega arith)

pub take_all : (cs : List CommandLine) (i : ℕ) → length cs ≤ i → take i cs ≡ cs
take_all [] zero l = refl
take_all [] (suc i) l = refl
take_all (x ∷ xs) zero l = absurd (omega arith)
take_all (x ∷ xs) (suc i) l = ap (λ ys. x ∷ ys) (take_all xs i (omega arith))

-- the lines from here on leave the heap lock to be given back
abbrev pub IsBalancedFrom : ℕ → List CommandLine → Type 0
IsBalancedFrom depth cs = (d : ℕ) × (depth ≤ d) × IsBalanced d (map command_of cs)

pub balanced_more : (v : ℕ → ℕ) (cs : List CommandLine) (i : ℕ) (d : CommandLine) (old new : ℕ) → i < length cs → IsBalancedFrom old (drop i cs)
    → Rattle.thread_calls.specs.Serving.IsDepthBehind (call_of v (get_or cs i d).command) old new → IsBalancedFrom new (drop (i + 1) cs)
balanced_more v cs i d old new l b x =
    balanced_on v b.0 old new (get_or cs i d).command (map command_of (drop (i + 1) cs)) b.1 (subst (IsBalanced b.0) (drop_mapped cs i d l) b.2) x

pub balanced_end : (cs : List CommandLine) (i depth : ℕ) → length cs ≤ i → IsBalancedFrom depth (drop i cs) → depth ≡ 0
balanced_end cs i depth l b =
    let none : b.0 ≡ 0 = subst (λ (xs : List CommandLine). IsBalanced b.0 (map command_of xs)) (drop_all cs i l) b.2 in
    let e = b.1 in omega (arith, none)
