-- One call of the only caller.
use Rattle.std.proofs.Common.{◌≡◌, ℕ, zero, suc, ◌+◌, ◌<◌, true, List, [], ◌∷◌, ◌++◌, map, Some, inl, inr, refl, sym, ap, subst, ◌∙◌, arith, append_assoc}
use mathlib.Core.List.{IsPrefix}
use Rattle.std.specs.List.{AllByRecursion}
use Rattle.std.proofs.lemmas.Bool.{and_parts}
use Rattle.heap_model.specs.declared.Act.{Act}
use Rattle.heap_model.specs.declared.Act.TheVariants as acts
use Rattle.heap_model.specs.declared.Busy.{Busy}
use Rattle.heap_model.specs.declared.Call.{Call}
use Rattle.heap_model.specs.declared.Call.TheVariants as calls
use Rattle.heap_model.specs.declared.Entry.{Entry}
use Rattle.heap_model.specs.declared.Opening.{Opening}
use Rattle.heap_model.specs.declared.Reply.{Reply}
use Rattle.heap_model.specs.declared.Reply.TheVariants as replies
use Rattle.heap_model.specs.declared.What.{What}
use Rattle.heap_model.specs.State.{Setting}
use Rattle.heap_model.specs.CallState.{Configuration, CallState}
use Rattle.heap_model.specs.Legal.{may_follow, after, call_after}
use Rattle.heap_model.specs.History.{configuration_of, may_all_follow, first_configuration}
use Rattle.heap_model.specs.Alone.{alone, by_zero, configuration_by, may_all_come}
use Rattle.heap_model.specs.Moments.{Moment, moments, moments_by}
use Rattle.heap_model.specs.Served.{IsOneCall, IsAnswered, IsTried, IsWalk, IsServed, GetsReply, MetBusy, by_depth, depth_after, in_line}
use Rattle.heap_model.specs.Shape.{Answer, Replied, WasBusy, HasShape, shape_of, shown, blocked}
use Rattle.heap_model.proofs.Moments.{acts_by}
use Rattle.call_laws.proofs.Within.{updated_here}
use Rattle.serial_laws.proofs.Turns.{come_follow, come_to}
use Rattle.one_caller_laws.proofs.Runs.{parts, come_parts}
use Rattle.claim_rule.specs.Entries as rolls
use Rattle.claim_rule.specs.Entries.{IsLegalWith}
use Rattle.claim_rule.specs.declared.views.Assignment.{Assignment}
use Rattle.claim_rule.proofs.Advance.{some_setting}
use Rattle.claim_rule.proofs.Lists.{follow_parts, legal_parts, prefix_trans}
use Rattle.heap_gate.specs.Calls.{with_depth}
use Rattle.heap_gate.specs.Token.{HeapToken, Token}
use Rattle.heap_gate.specs.Roots.{RootToken}
use Rattle.heap_now.specs.Calls.{IsReady, Gets, EndsWith}
use Rattle.thread_rounds.specs.Threads.{Tries}
use Rattle.thread_rounds.proofs.Settings.{AgreeBelow, configuration_same, moments_same, answer_same}
use Rattle.one_heap.specs.Lone.{IsLone, Serves, act_of, only_one, seen_by, setting_of, behind}
use Rattle.one_heap.proofs.Only.{IsOnly, first_only, after_only, all_zero, only_behind, zero_acts, acts-append}
use Rattle.one_heap.proofs.Unblocked.{Comes, unblocked}

---- The setting of one caller

first_slot : (rest : List Assignment) (n : ℕ) → n < 1 → rolls.slot_at (only_one ++ rest) n ≡ 0
first_slot rest zero l = refl
first_slot rest (suc n) l = absurd (omega arith)

first_stream : (rest : List Assignment) (n : ℕ) → n < 1 → rolls.stream_at (only_one ++ rest) n ≡ 0
first_stream rest zero l = refl
first_stream rest (suc n) l = absurd (omega arith)

-- it agrees, on caller 0, with that of a heap that knows this caller
agree : (o p : Opening) (roll : List Assignment) → p ≡ o → IsPrefix only_one roll → AgreeBelow 1 (rolls.setting_of p roll) (alone o.limits o.seed)
agree o p roll e k = record {
  limits = ap (λ (x : Opening). x.limits) e;
  seed = ap (λ (x : Opening). x.seed) e;
  slot = λ n l. subst (λ (r : List Assignment). rolls.slot_at r n ≡ 0) k.1 (first_slot k.0 n l);
  stream = λ n l. subst (λ (r : List Assignment). rolls.stream_at r n ≡ 0) k.1 (first_stream k.0 n l);
}

named : (rest : List Act) → rolls.is_named 1 (map by_zero rest) ≡ true
named [] = refl
named (act ∷ rest) = named rest

---- Busy

-- A call is busy only where it finds another in the way.
hindered : (s : Setting) (call : Call) (b : Busy) (xs : List Moment) → HasShape s 0 call (WasBusy b) xs → Comes (blocked b) (shown xs)
hindered s (calls.Alloc n flags) b xs h = ([], [], h)
hindered s (calls.Free a) b xs h = ([], [], h)
hindered s (calls.Size a) b xs h = ([], [], h)
hindered s (calls.Get a index) b xs h = ([], [], h)
hindered s (calls.Put a index value) b xs h = ([], [], h)
hindered s (calls.Realloc a n flags) b xs (inl h) = ([], [], h)
hindered s (calls.Realloc a n flags) b xs (inr h) = (acts.Take a h.0 ∷ [], acts.Give a h.0 ∷ [], h.1)
hindered s calls.Lock b xs h = ([], [], h)
hindered s calls.Unlock b xs h = ([], [], h)
hindered s (calls.WalkNext from) b xs h = ([], [], h)
hindered s calls.Compact b xs h = ([], [], h)
hindered s calls.Stay b xs h = ([], [], h)

never : (s : Setting) (m : Configuration) (call : Call) (b : Busy) (rest : List Act) → IsOnly m → may_all_follow s m (map by_zero rest) ≡ true → IsOneCall call rest → Comes (blocked b) (shape_of rest) → ⊥
never s m call b [] only h one comes = absurd one
never s m call b (acts.Begin begun ∷ rest) only h one comes =
    let next = after s m (by_zero (acts.Begin begun)) in
    let is : (next.now.calls 0).call ≡ Some call =
    ap (λ (k : CallState). k.call) (updated_here m.now.calls 0 (call_after s 0 (m.now.calls 0) (acts.Begin begun))) ∙ ap Some one.0 in
    unblocked s next call rest b (after_only s m only (acts.Begin begun)) is (and_parts (may_follow s m (by_zero (acts.Begin begun))) (may_all_follow s next (map by_zero rest)) h).1 one.1 comes
never s m call b (_ ∷ rest) only h one comes = absurd one

-- No call of the only caller is answered so.
never_answered : (s : Setting) (m : Configuration) (call : Call) (b : Busy) (rest : List Act) → IsOnly m → may_all_follow s m (map by_zero rest) ≡ true → IsAnswered s 0 call (WasBusy b) (moments_by s m rest) → ⊥
never_answered s m call b rest only h a =
    let e = acts_by s m rest in
    never s m call b rest only h (subst (IsOneCall call) e a.one)
    (subst (λ (l : List Act). Comes (blocked b) (shape_of l)) e (hindered s call b (moments_by s m rest) a.shape))

---- Tries

-- a call that was tried was not busy before
tried_once : (s : Setting) (m : Configuration) (call : Call) (reply : Reply) (rest : List Act) → IsOnly m → may_all_come s m rest ≡ true → IsTried s 0 call reply (moments_by s m rest) → GetsReply s 0 call reply (moments_by s m rest)
tried_once s m call reply rest only h t = go t.busy t.are_busy t.all
  where
    go : (busy : List (List Moment)) → AllByRecursion (MetBusy s 0 call) busy → moments_by s m rest ≡ in_line busy ++ t.last → GetsReply s 0 call reply (moments_by s m rest)
    go [] are all = subst (GetsReply s 0 call reply) (sym all) t.gets
    go (xs ∷ more) are all =
        let p = parts s m rest xs (in_line more ++ t.last) (all ∙ append_assoc xs (in_line more) t.last) in
        let all_come : may_all_come s m (p.first ++ p.last) ≡ true = ap (may_all_come s m) (sym p.is) ∙ h in
        let come = (come_parts s m p.first p.last all_come).0 in
        absurd (never_answered s m call are.0.0 p.first only (come_follow s m p.first ∙ come) (subst (IsAnswered s 0 call (WasBusy are.0.0)) p.made_is are.0.1))

-- .. and so no call of a walk, in the setting of the only caller
pub walked_once : (s t : Setting) → s.limits ≡ t.limits → (m : Configuration) (count from : ℕ) (rs : List Reply) (rest : List Act) → IsOnly m → may_all_come s m rest ≡ true →
    IsWalk (Tries s 0) count from rs (moments_by s m rest) → IsWalk (GetsReply t 0) count from rs (moments_by s m rest)
walked_once s t e m count from [] rest only h w = absurd w
walked_once s t e m count from (replies.Seen b ∷ rs) rest only h w =
    let p = parts s m rest w.0 w.1 w.2 in
    let all_come : may_all_come s m (p.first ++ p.last) ≡ true = ap (may_all_come s m) (sym p.is) ∙ h in
    let come = come_parts s m p.first p.last all_come in
    let n = configuration_by s m p.first in
    let next : IsOnly n = subst IsOnly (come_to s m p.first) (only_behind s m p.first only) in
    let one = answer_same s t 0 e (calls.WalkNext from) (Replied (replies.Seen b)) (moments_by s m p.first)
    (tried_once s m (calls.WalkNext from) (replies.Seen b) p.first only come.0 (subst (Tries s 0 (calls.WalkNext from) (replies.Seen b)) p.made_is w.3)) in
    let others = walked_once s t e n (count + 1) (b.addr + 1) rs p.last next come.1 (subst (IsWalk (Tries s 0) (count + 1) (b.addr + 1) rs) p.later_is w.4) in (
      w.0,
      w.1,
      w.2,
      subst (GetsReply t 0 (calls.WalkNext from) (replies.Seen b)) (sym p.made_is) one,
      subst (IsWalk (GetsReply t 0) (count + 1) (b.addr + 1) rs) (sym p.later_is) others,
    )
walked_once s t e m count from (replies.Walked n ∷ []) rest only h w =
    (w.0, answer_same s t 0 e (calls.WalkNext from) (Replied (replies.Walked n)) (moments_by s m rest) (tried_once s m (calls.WalkNext from) (replies.Walked n) rest only h w.1))
walked_once s t e m count from (replies.Walked n ∷ r ∷ rs) rest only h w = absurd w
walked_once s t e m count from (replies.Address a ∷ rs) rest only h w = absurd w
walked_once s t e m count from (replies.Done ∷ rs) rest only h w = absurd w
walked_once s t e m count from (replies.Number n ∷ rs) rest only h w = absurd w
walked_once s t e m count from (replies.NoFit ∷ rs) rest only h w = absurd w
walked_once s t e m count from (replies.NotLive ∷ rs) rest only h w = absurd w
walked_once s t e m count from (replies.NoRoom ∷ rs) rest only h w = absurd w
walked_once s t e m count from (replies.Past n ∷ rs) rest only h w = absurd w
walked_once s t e m count from (replies.Depth ∷ rs) rest only h w = absurd w
walked_once s t e m count from (replies.NotOwner ∷ rs) rest only h w = absurd w
walked_once s t e m count from (replies.NotLocked ∷ rs) rest only h w = absurd w
walked_once s t e m count from (replies.Compacted n ∷ rs) rest only h w = absurd w

---- The heap behind a call

-- The list that a caller has seen goes on, and is legal.
pub record Grows (c d : Token) : Type 0 where
  pub opening : d.opening ≡ c.opening
  pub roll : IsPrefix c.roll d.roll
  pub seen : IsPrefix c.seen d.seen
  pub legal : IsLegalWith d.opening d.roll d.seen

module _ (h : HeapToken) (r : RootToken) (c d : Token) (k : IsLone h r c) (g : Grows c d) where
  abbrev pub s : Setting
  s = rolls.setting_of d.opening d.roll

  abbrev tail : List Entry
  tail = g.seen.0

  opened : d.opening ≡ h.opening
  opened = g.opening ∙ k.caller.opening

  one : s.limits.callers ≡ 1
  one = ap (λ (o : Opening). o.limits.callers) opened ∙ k.few

  legal : (may_all_follow s first_configuration c.seen ≡ true) × (may_all_follow s (configuration_of s c.seen) tail ≡ true)
  legal = follow_parts s first_configuration c.seen tail (ap (may_all_follow s first_configuration) g.seen.1 ∙ (legal_parts s d.seen (g.legal s (some_setting d.opening d.roll))).0)

  old_is : map by_zero (map act_of c.seen) ≡ c.seen
  old_is = zero_acts c.seen (all_zero s first_configuration c.seen one first_only legal.0)

  pub only : IsOnly (configuration_of s c.seen)
  only = subst (λ (es : List Entry). IsOnly (configuration_of s es)) old_is (only_behind s first_configuration (map act_of c.seen) first_only)

  abbrev pub added : List Act
  added = map act_of tail

  tail_is : map by_zero added ≡ tail
  tail_is = zero_acts tail (all_zero s (configuration_of s c.seen) tail one only legal.1)

  pub added_legal : may_all_follow s (configuration_of s c.seen) (map by_zero added) ≡ true
  added_legal = ap (may_all_follow s (configuration_of s c.seen)) tail_is ∙ legal.1

  known : IsPrefix only_one d.roll
  known = prefix_trans only_one c.roll d.roll k.known g.roll

  pub grown : map act_of d.seen ≡ map act_of c.seen ++ added
  grown = ap (map act_of) (sym g.seen.1) ∙ acts-append c.seen g.seen.0

  -- what is told of the caller's moments, by its number
  pub told : (P : ℕ → List Moment → Type 0) → P c.number (moments s c.number (configuration_of s c.seen) tail) → P 0 (moments_by s (configuration_of s c.seen) added)
  told P p =
      subst (λ (es : List Entry). P 0 (moments s 0 (configuration_of s c.seen) es)) (sym tail_is)
      (subst (λ (n : ℕ). P n (moments s n (configuration_of s c.seen) tail)) k.number p)

  -- .. in the setting of one caller
  abbrev t : Setting
  t = setting_of (seen_by h c)

  pub agrees : AgreeBelow 1 s t
  agrees = agree h.opening d.opening d.roll opened known

  from : configuration_of s c.seen ≡ behind (seen_by h c)
  from = ap (configuration_of s) (sym old_is) ∙ configuration_same 1 s t agrees first_configuration (map by_zero (map act_of c.seen)) (named (map act_of c.seen))

  pub moments_are : moments_by s (configuration_of s c.seen) added ≡ moments_by t (behind (seen_by h c)) added
  moments_are = moments_same 1 s t agrees 0 (configuration_of s c.seen) (map by_zero added) (named added) ∙ ap (λ (m : Configuration). moments_by t m added) from

  lone : IsReady d → d.table ≡ c.table → d.number ≡ c.number → IsLone h r d
  lone ready table number = record {
    few = k.few;
    root = k.root;
    roll = k.roll;
    joined = k.joined;
    caller = record { table = table ∙ k.caller.table; opening = opened; is_ready = ready };
    number = number ∙ k.number;
    known = known;
  }

abbrev grows : (c d : Token) (call : Call) (answer : Answer) → Gets c d call answer → Grows c d
grows c d call answer x = record { opening = x.answers.opening; roll = x.answers.roll; seen = x.answers.seen; legal = x.answers.legal }

---- One call

-- how a call that always takes a step is answered: by this
abbrev pub Steps : Token → Call → Reply → Type 1
Steps c call reply = (One : Call → Reply → List Moment → Type 0) (xs : List Moment) → One call reply xs → IsServed One (by_depth c.depth call) call (reply ∷ []) xs

module _ (h : HeapToken) (r : RootToken) (c d : Token) (k : IsLone h r c) (call : Call) (answer : Answer) (x : Gets c d call answer) where
  abbrev g : Grows c d
  g = grows c d call answer x

  answered : IsAnswered (s h r c d k g) 0 call answer (moments_by (s h r c d k g) (configuration_of (s h r c d k g) c.seen) (added h r c d k g))
  answered = told h r c d k g (λ n xs. IsAnswered (s h r c d k g) n call answer xs) (x.answers.answered (s h r c d k g) (some_setting d.opening d.roll))

  abbrev alone_moments : List Moment
  alone_moments = moments_by (setting_of (seen_by h c)) (behind (seen_by h c)) (added h r c d k g)

  alone_answered : IsAnswered (setting_of (seen_by h c)) 0 call answer alone_moments
  alone_answered =
      let from = moments_by (s h r c d k g) (configuration_of (s h r c d k g) c.seen) (added h r c d k g) in
      subst (IsAnswered (setting_of (seen_by h c)) 0 call answer) (moments_are h r c d k g)
      (answer_same (s h r c d k g) (setting_of (seen_by h c)) 0 (agrees h r c d k g).limits call answer from answered)

  pub still : IsLone h r d
  still = lone h r c d k g (record { ready = x.answers.ready; owes = x.owes }) x.answers.table x.answers.number

-- The caller is never busy.
pub never_busy : (h : HeapToken) (r : RootToken) (c d : Token) (k : IsLone h r c) (call : Call) (b : Busy) → Gets c d call (WasBusy b) → ⊥
never_busy h r c d k call b x =
    let g = grows c d call (WasBusy b) x in
    let t = s h r c d k g in
    never_answered t (configuration_of t c.seen) call b (added h r c d k g) (only h r c d k g) (added_legal h r c d k g) (answered h r c d k call (WasBusy b) x)

pub serves : (h : HeapToken) (r : RootToken) (c d : Token) (k : IsLone h r c) (call : Call) (reply : Reply) → Gets c d call (Replied reply) → Steps c call reply → (depth : ℕ) → depth ≡ depth_after c.depth call (reply ∷ [])
    → Serves (seen_by h c) (seen_by h (with_depth d depth)) call (reply ∷ [])
serves h r c d k call reply x steps depth e = record {
  added = added h r c d k (grows c d call (Replied reply) x);
  opening = refl;
  acts = grown h r c d k (grows c d call (Replied reply) x);
  depth = e;
  served = steps (GetsReply (setting_of (seen_by h c)) 0) (alone_moments h r c d k call (Replied reply) x) (alone_answered h r c d k call (Replied reply) x);
}

-- .. as a call over the table says it, which leaves the heap lock as it is
pub served : (May : What → Type 0) (h : HeapToken) (r : RootToken) (c d : Token) (k : IsLone h r c) (call : Call) (answer : Answer) (reply : Reply) →
    EndsWith May c d call answer → answer ≡ Replied reply → Steps c call reply → c.depth ≡ depth_after c.depth call (reply ∷ []) → Serves (seen_by h c) (seen_by h d) call (reply ∷ [])
served May h r c d k call answer reply x e steps depth =
    let y : Gets c d call (Replied reply) = subst (EndsWith May c d call) e x in
    serves h r c d k call reply y steps d.depth (y.answers.depth ∙ depth)

pub not_met : (May : What → Type 0) (h : HeapToken) (r : RootToken) (c d : Token) (k : IsLone h r c) (call : Call) (answer : Answer) (b : Busy) → EndsWith May c d call answer → answer ≡ WasBusy b → ⊥
not_met May h r c d k call answer b x e = let busy : EndsWith May c d call (WasBusy b) = subst (EndsWith May c d call) e x in never_busy h r c d k call b busy.0.gets
