-- On commands that are run one after another.
use Rattle.std.proofs.Common.{◌≡◌, ℕ, true, List, [], ◌∷◌, ◌++◌, map, refl, sym, ap, subst, ◌∙◌, append_assoc, append-nil}
use Rattle.heap_model.specs.declared.Act.{Act}
use Rattle.heap_model.specs.declared.Call.{Call}
use Rattle.heap_model.specs.declared.Entry.{Entry}
use Rattle.heap_model.specs.declared.Limits.{Limits}
use Rattle.heap_model.specs.declared.Opening.{Opening}
use Rattle.heap_model.specs.declared.Reply.{Reply}
use Rattle.heap_model.specs.State.{Setting}
use Rattle.heap_model.specs.CallState.{Configuration}
use Rattle.heap_model.specs.Alone.{alone, by_zero, configuration_by}
use Rattle.heap_model.specs.History.{IsLegal, configuration_of, first_configuration}
use Rattle.heap_model.specs.Moments.{Moment, moments_by}
use Rattle.heap_model.specs.Serial.{IsIdle, IsSerial}
use Rattle.heap_model.specs.Served.{GetsReply, depth_after, AreServed as AreAnswered}
use Rattle.serial_laws.proofs.Turns.{come_to, configuration-append, moments_by-append}
use Rattle.script_text.specs.Calls.{call_of}
use Rattle.script_text.specs.Values.{Answered}
use Rattle.script_text.specs.declared.commands.Command.{Command}
use Rattle.script_text.specs.declared.commands.Command.TheVariants as commands
use Rattle.thread_calls.specs.Serving.{EndsOnce, is_last}
use Rattle.thread_commands.proofs.Commands.{ends_fills, answered_ends, answered_one, once}
use Rattle.thread_commands.proofs.Threads.{fills_on, answered_on}
use Rattle.thread_rounds.specs.Threads.{answered}
use Rattle.one_heap.specs.Lone.{LoneHeap, Serves, Walks, new_with, setting_of, history_of, behind}
use Rattle.command_run.specs.Commands.{assigned, calls_of, values_after}
use Rattle.command_run.specs.Running.{AreServedTo, Runs, RunsOne}

---- Calls

module _ (One : Call → Reply → List Moment → Type 0) where
  -- what is asked first, and then at the depth where it ends
  served_on : (depth : ℕ) (cs ds : List Call) (rs qs : List Reply) (xs ys : List Moment) (end last : ℕ) →
      AreServedTo One depth cs rs xs end → AreServedTo One end ds qs ys last → AreServedTo One depth (cs ++ ds) (rs ++ qs) (xs ++ ys) last
  served_on depth [] ds rs qs xs ys end last h k =
      subst (λ (l : List Reply). AreServedTo One depth ds (l ++ qs) (xs ++ ys) last) (sym h.0)
      (subst (λ (l : List Moment). AreServedTo One depth ds qs (l ++ ys) last) (sym h.1) (subst (λ (n : ℕ). AreServedTo One n ds qs ys last) h.2 k))
  served_on depth (c ∷ cs) ds rs qs xs ys end last h k = (
    h.0,
    h.1 ++ qs,
    h.2,
    h.3 ++ ys,
    ap (λ (l : List Reply). l ++ qs) h.4 ∙ append_assoc h.0 h.1 qs,
    ap (λ (l : List Moment). l ++ ys) h.5 ∙ append_assoc h.2 h.3 ys,
    h.6,
    served_on (depth_after depth c h.0) cs ds h.1 qs h.3 ys end last h.7 k,
  )

  -- without the depth behind it
  served_so : (depth : ℕ) (cs : List Call) (rs : List Reply) (xs : List Moment) (end : ℕ) → AreServedTo One depth cs rs xs end → AreAnswered One depth cs rs xs
  served_so depth [] rs xs end h = (h.0, h.1)
  served_so depth (c ∷ cs) rs xs end h = (h.0, h.1, h.2, h.3, h.4, h.5, h.6, served_so (depth_after depth c h.0) cs h.1 h.3 end h.7)

calls_append : (v : ℕ → ℕ) (ks ls : List Answered) →
    (calls_of v (ks ++ ls) ≡ calls_of v ks ++ calls_of (values_after v ks) ls) × (values_after v (ks ++ ls) ≡ values_after (values_after v ks) ls)
calls_append v [] ls = (refl, refl)
calls_append v (k ∷ ks) ls =
    let rest = calls_append (assigned v k.command k.reply) ks ls in
    (ap (λ (cs : List Call). call_of v k.command ∷ cs) rest.0, rest.1)

---- The heap behind more acts

zeros_append : (xs ys : List Act) → map by_zero (xs ++ ys) ≡ map by_zero xs ++ map by_zero ys
zeros_append [] ys = refl
zeros_append (x ∷ xs) ys = ap (λ (l : List Entry). by_zero x ∷ l) (zeros_append xs ys)

same_setting : (a b : LoneHeap) → b.opening ≡ a.opening → setting_of b ≡ setting_of a
same_setting a b e = ap (λ (o : Opening). alone o.limits o.seed) e

behind_more : (a b : LoneHeap) (added : List Act) → b.opening ≡ a.opening → b.acts ≡ a.acts ++ added → behind b ≡ configuration_by (setting_of a) (behind a) added
behind_more a b added e more =
    ap (λ (s : Setting). configuration_of s (history_of b)) (same_setting a b e)
    ∙ (ap (λ (l : List Act). configuration_of (setting_of a) (map by_zero l)) more
    ∙ (ap (configuration_of (setting_of a)) (zeros_append a.acts added)
    ∙ (configuration-append (setting_of a) first_configuration (map by_zero a.acts) (map by_zero added) ∙ come_to (setting_of a) (behind a) added)))

-- what is run first, and then from where it ends
pub runs_append : (a b c : LoneHeap) (u v w : ℕ → ℕ) (cs ds : List Command) (rs qs : List Reply) → Runs a b u v cs rs → Runs b c v w ds qs → Runs a c u w (cs ++ ds) (rs ++ qs)
runs_append a b c u v w cs ds rs qs x y =
    let s = setting_of a in
    let m = behind a in
    let n = configuration_by s m x.added in
    let ks = answered cs rs in
    let ls = answered ds qs in
    let to : behind b ≡ n = behind_more a b x.added x.opening x.acts in
    let more : AreServedTo (GetsReply s 0) b.depth (calls_of (values_after u ks) ls) qs (moments_by s n y.added) c.depth =
    subst (λ (z : ℕ → ℕ). AreServedTo (GetsReply s 0) b.depth (calls_of z ls) qs (moments_by s n y.added) c.depth) x.values_are
    (subst (λ (k : Configuration). AreServedTo (GetsReply s 0) b.depth (calls_of v ls) qs (moments_by s k y.added) c.depth) to
    (subst (λ (t : Setting). AreServedTo (GetsReply t 0) b.depth (calls_of v ls) qs (moments_by t (behind b) y.added) c.depth) (same_setting a b x.opening) y.served)) in
    let its = calls_append u ks ls in
    let all : answered (cs ++ ds) (rs ++ qs) ≡ ks ++ ls = answered_on cs ds rs qs x.fills in
    let both = served_on (GetsReply s 0) a.depth (calls_of u ks) (calls_of (values_after u ks) ls) rs qs (moments_by s m x.added) (moments_by s n y.added) b.depth c.depth x.served more in
    record {
      added = x.added ++ y.added;
      opening = y.opening ∙ x.opening;
      acts = y.acts ∙ (ap (λ (l : List Act). l ++ y.added) x.acts ∙ append_assoc a.acts x.added y.added);
      fills = fills_on cs ds rs qs x.fills y.fills;
      served =
          subst (λ (l : List Moment). AreServedTo (GetsReply s 0) a.depth (calls_of u (answered (cs ++ ds) (rs ++ qs))) (rs ++ qs) l c.depth) (sym (moments_by-append s m x.added y.added))
          (subst (λ (ds : List Call). AreServedTo (GetsReply s 0) a.depth ds (rs ++ qs) (moments_by s m x.added ++ moments_by s n y.added) c.depth) (sym (ap (calls_of u) all ∙ its.0)) both);
      values_are = y.values_are ∙ (ap (λ (z : ℕ → ℕ). values_after z ls) x.values_are ∙ sym (ap (values_after u) all ∙ its.1));
    }

pub runs_none : (a : LoneHeap) (v : ℕ → ℕ) → Runs a a v v [] []
runs_none a v = record { added = []; opening = refl; acts = sym (append-nil a.acts); fills = tt; served = (refl, refl, refl); values_are = refl }

-- one command, with its last reply
runs_one : (a b : LoneHeap) (v w : ℕ → ℕ) (c : Command) (r : Reply) (its : List Reply) → EndsOnce its → answered (c ∷ []) its ≡ record { command = c; reply = r } ∷ [] → Serves a b (call_of v c) its → w ≡ assigned v c r →
    Runs a b v w (c ∷ []) its
runs_one a b v w c r its ends last x e =
    let s = setting_of a in
    let made = moments_by s (behind a) x.added in
    let one : AreServedTo (GetsReply s 0) a.depth (call_of v c ∷ []) its made b.depth = (its, [], made, [], sym (append-nil its), sym (append-nil made), x.served, (refl, refl, x.depth)) in
    record {
      added = x.added;
      opening = x.opening;
      acts = x.acts;
      fills = ends_fills c its ends;
      served = subst (λ (ks : List Answered). AreServedTo (GetsReply s 0) a.depth (calls_of v ks) its made b.depth) (sym last) one;
      values_are = e ∙ sym (ap (values_after v) last);
    }

module _ (a b : LoneHeap) (before replies : List Reply) where
  pub runs_call : (v w : ℕ → ℕ) (c : Command) (call : Call) (r : Reply) → call ≡ call_of v c → Serves a b call (r ∷ []) → is_last r ≡ true → replies ≡ before ++ r ∷ [] → w ≡ assigned v c r → RunsOne a b v w c before replies
  runs_call v w c call r is x last pushed e =
      let y : Serves a b (call_of v c) (r ∷ []) = subst (λ (k : Call). Serves a b k (r ∷ [])) is x in
      record { its = r ∷ []; added = pushed; ends = once r last; runs = runs_one a b v w c r (r ∷ []) (once r last) (answered_one c r last) y e }

  pub runs_walk : (v : ℕ → ℕ) (its : List Reply) → Walks a b its → replies ≡ before ++ its → RunsOne a b v v commands.Walk before replies
  runs_walk v its x pushed =
      let last = answered_ends commands.Walk its x.ends in
      record { its = its; added = pushed; ends = x.ends; runs = runs_one a b v v commands.Walk last.0 its x.ends last.1 x.serves refl }

-- one more behind others
pub runs_more : (a b c : LoneHeap) (u v w : ℕ → ℕ) (cs : List Command) (command : Command) (before replies : List Reply) → Runs a b u v cs before → RunsOne b c v w command before replies → Runs a c u w (cs ++ command ∷ []) replies
runs_more a b c u v w cs command before replies x y =
    subst (λ (rs : List Reply). Runs a c u w (cs ++ command ∷ []) rs) (sym y.added) (runs_append a b c u v w cs (command ∷ []) before y.its x y.runs)

---- The end

-- what is run on a new heap is a serial history
pub serial : (limits : Limits) (seed : ℕ) (a b : LoneHeap) (v w : ℕ → ℕ) (cs : List Command) (rs : List Reply) → a ≡ new_with limits seed → Runs a b v w cs rs →
    IsLegal (setting_of b) (history_of b) → IsIdle (behind b) → IsSerial limits seed (calls_of v (answered cs rs)) rs (behind b).state
serial limits seed a b v w cs rs new x legal idle =
    let s = alone limits seed in
    let y : Runs (new_with limits seed) b v w cs rs = subst (λ (h : LoneHeap). Runs h b v w cs rs) new x in
    let same : setting_of b ≡ s = same_setting (new_with limits seed) b y.opening in
    let calls = calls_of v (answered cs rs) in
    record {
      rest = b.acts;
      served = subst (λ (l : List Act). AreAnswered (GetsReply s 0) 0 calls rs (moments_by s first_configuration l)) (sym y.acts) (served_so (GetsReply s 0) 0 calls rs (moments_by s first_configuration y.added) b.depth y.served);
      legal = subst (λ (t : Setting). IsLegal t (history_of b)) same legal;
      idle = subst (λ (t : Setting). IsIdle (configuration_of t (history_of b))) same idle;
      ends = ap (λ (t : Setting). (configuration_of t (history_of b)).state) same;
    }
