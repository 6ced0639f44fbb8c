-- A setting matters for a list only by its limits, its seed, and the slots and streams of the callers in the list.
use Rattle.std.proofs.Common.{◌≡◌, ℕ, ◌<◌, ◌==◌, ◌+◌, true, cond, List, [], ◌∷◌, ◌++◌, Option, Some, None, inl, inr, refl, ap, ◌∙◌, subst}
use Rattle.std.specs.Prelude.{nat_lt}
use Rattle.std.specs.List.{AllByRecursion}
use Rattle.std.proofs.lemmas.Bool.{and_parts, ltb-true}
use Rattle.heap_model.specs.declared.Act.{Act}
use Rattle.heap_model.specs.declared.Act.TheVariants as acts
use Rattle.heap_model.specs.declared.Call.{Call}
use Rattle.heap_model.specs.declared.Call.TheVariants as calls
use Rattle.heap_model.specs.declared.Entry.{Entry}
use Rattle.heap_model.specs.declared.Flags.{Flags}
use Rattle.heap_model.specs.declared.Kind.{Kind}
use Rattle.heap_model.specs.declared.Kind.TheVariants as kinds
use Rattle.heap_model.specs.declared.Limits.{Limits}
use Rattle.heap_model.specs.declared.Reply.{Reply}
use Rattle.heap_model.specs.declared.Reply.TheVariants as replies
use Rattle.heap_model.specs.State.{Setting, updated}
use Rattle.heap_model.specs.CallState.{CallState, Configuration, Search, caller_view}
use Rattle.heap_model.specs.Search.{SearchKey, draw_of, search_key_of, asked_bucket, after_own_span, after_saw, after_lost, after_no_hint, after_no_span}
use Rattle.heap_model.specs.Legal.{after, call_after, after_span, step_search, with_search, state_after, disturbed_after, span_history_after, demand_after}
use Rattle.heap_model.specs.History.{configuration_after}
use Rattle.heap_model.specs.Moments.{Moment, moments}
use Rattle.heap_model.specs.Served.{IsServed, IsAsked, IsWalk, IsAnswered, MetBusy, by_depth, depth_after}
use Rattle.heap_model.specs.Shape.{Answer, Replied, WasBusy, HasShape, Reallocates}
use Rattle.claim_rule.specs.Entries.{is_named}
use Rattle.script_text.specs.declared.commands.Command.{Command}
use Rattle.script_text.specs.Values.{Answered}
use Rattle.thread_rounds.specs.Threads.{answered, asked_at, Tries, IsThread}

-- Two settings agree on the callers below n.
pub record AgreeBelow (n : ℕ) (s t : Setting) : Type 0 where
  pub limits : s.limits ≡ t.limits
  pub seed : s.seed ≡ t.seed
  pub slot : (c : ℕ) → c < n → s.slot c ≡ t.slot c
  pub stream : (c : ℕ) → c < n → s.stream c ≡ t.stream c

---- One entry

draw_same : (s t : Setting) (c k : ℕ) → s.seed ≡ t.seed → s.stream c ≡ t.stream c → draw_of s c k ≡ draw_of t c k
unfolding draw_of
draw_same s t c k e f = rw (e, f) refl

module _ (s t : Setting) (c : ℕ) (seed : s.seed ≡ t.seed) (slot : s.slot c ≡ t.slot c) (stream : s.stream c ≡ t.stream c) where
  key_same : (k : CallState) (b : ℕ) → search_key_of s c k b ≡ search_key_of t c k b
  key_same k b = λ i. record { bucket = b; slot = slot i; draw = draw_same s t c k.searches seed stream i }

  step_same : (k : CallState) (f : SearchKey → Search → Search) (o : Option ℕ) → step_search s c k f o ≡ step_search t c k f o
  step_same k f None = refl
  step_same k f (Some b) = ap (λ (g : SearchKey). with_search k (f g k.search)) (key_same k b)

  span_same : (k : CallState) (first : ℕ) (kind : Kind) → after_span s c k first kind ≡ after_span t c k first kind
  span_same k first kinds.Lfh = step_same k (λ g f. after_own_span g f first) (asked_bucket k)
  span_same k first _ = refl

  call_same : (k : CallState) (act : Act) → call_after s c k act ≡ call_after t c k act
  call_same k (acts.Span first pages kind bucket slot) = span_same k first kind
  call_same k (acts.Saw head word bits) = step_same k (λ g f. after_saw g f head word bits) (asked_bucket k)
  call_same k (acts.Lost head index) = step_same k (λ g f. after_lost f) (asked_bucket k)
  call_same k (acts.NoHint bucket slot) = step_same k (λ g f. after_no_hint f) (asked_bucket k)
  call_same k (acts.NoSpan bucket) = ap (λ (x : CallState). record x { no_span = true }) (step_same k (λ g f. after_no_span f) (asked_bucket k))
  call_same k _ = refl

module _ (n : ℕ) (s t : Setting) (a : AgreeBelow n s t) where
  after_same : (m : Configuration) (e : Entry) → e.caller < n → after s m e ≡ after t m e
  after_same m e l =
      ap (λ (k : CallState). record {
        state = state_after m.state (m.now.calls e.caller) e.caller e.act;
        now = record {
          calls = updated m.now.calls e.caller k;
          disturbed = disturbed_after m.state.gate m.now.disturbed e.caller e.act;
          span_history = span_history_after m.state.back.area m.now.span_history e.caller (caller_view m e.caller).back e.act;
          demand = demand_after m.state e.caller e.act;
        };
      }) (call_same s t e.caller a.seed (a.slot e.caller l) (a.stream e.caller l) (m.now.calls e.caller) e.act)

  first_named : (e : Entry) (es : List Entry) → is_named n (e ∷ es) ≡ true → (e.caller < n) × (is_named n es ≡ true)
  first_named e es h = let p = and_parts (nat_lt e.caller n) (is_named n es) h in (ltb-true e.caller n p.0, p.1)

  pub configuration_same : (m : Configuration) (es : List Entry) → is_named n es ≡ true → configuration_after s m es ≡ configuration_after t m es
  configuration_same m [] h = refl
  configuration_same m (e ∷ es) h =
      let p = first_named e es h in
      configuration_same (after s m e) es p.1 ∙ ap (λ (x : Configuration). configuration_after t x es) (after_same m e p.0)

  pub moments_same : (c : ℕ) (m : Configuration) (es : List Entry) → is_named n es ≡ true → moments s c m es ≡ moments t c m es
  moments_same c m [] h = refl
  moments_same c m (e ∷ es) h =
      let p = first_named e es h in
      ap (λ (l : List Moment). cond (e.caller == c) (record { before = m; act = e.act } ∷ l) l)
      (moments_same c (after s m e) es p.1 ∙ ap (λ (x : Configuration). moments t c x es) (after_same m e p.0))

---- What calls are answered: here the limits matter alone

-- the same setting but for the limits
abbrev with_limits : Setting → Limits → Setting
with_limits s l = record { limits = l; seed = s.seed; slot = s.slot; stream = s.stream }

module _ (s t : Setting) (c : ℕ) where
  moved_same : (a n : ℕ) (flags : Flags) (b : ℕ) (xs : List Moment) → Reallocates (with_limits s t.limits) c a n flags b xs → Reallocates t c a n flags b xs
  moved_same a n flags b xs (inl (e, inl x)) = inl (e, inl (record { old = x.old; size = x.size; granules = x.granules; live = x.live; stays = x.stays; acts_are = x.acts_are }))
  moved_same a n flags b xs (inl (e, inr x)) = inl (e, inr (record { old = x.old; size = x.size; front = x.front; stays = x.stays; acts_are = x.acts_are }))
  moved_same a n flags b xs (inr (e, x)) =
      inr (
        e,
        record {
          old = x.old;
          size = x.size;
          made = x.made;
          values = x.values;
          moves = x.moves;
          leaves = x.leaves;
          address_is = x.address_is;
          count = x.count;
          moves_are = x.moves_are;
          acts_are = x.acts_are;
        },
      )

  shape_less : (call : Call) (answer : Answer) (xs : List Moment) → HasShape (with_limits s t.limits) c call answer xs → HasShape t c call answer xs
  shape_less (calls.Realloc a n flags) (Replied (replies.Address b)) xs h = moved_same a n flags b xs h
  shape_less (calls.Realloc a n flags) (Replied replies.NoFit) xs h = (h.0, record { old = h.1.old; size = h.1.size; there = h.1.there; leaves = h.1.leaves; acts_are = h.1.acts_are })
  shape_less (calls.Realloc a n flags) (Replied replies.NoRoom) xs h = (h.0, record { old = h.1.old; size = h.1.size; leaves = h.1.leaves; acts_are = h.1.acts_are })
  shape_less (calls.WalkNext from) (Replied (replies.Seen b)) xs h = h
  shape_less (calls.WalkNext from) (Replied (replies.Walked count)) xs h = h
  shape_less calls.Compact (Replied (replies.Compacted pages)) xs h = h
  shape_less call answer xs h = h

  module _ (e : s.limits ≡ t.limits) where
    shape_same : (call : Call) (answer : Answer) (xs : List Moment) → HasShape s c call answer xs → HasShape t c call answer xs
    shape_same call answer xs h = shape_less call answer xs (subst (λ (l : Limits). HasShape (with_limits s l) c call answer xs) e h)

    pub answer_same : (call : Call) (answer : Answer) (xs : List Moment) → IsAnswered s c call answer xs → IsAnswered t c call answer xs
    answer_same call answer xs x = record { one = x.one; shape = shape_same call answer xs x.shape }

    busy_same : (call : Call) (xs : List (List Moment)) → AllByRecursion (MetBusy s c call) xs → AllByRecursion (MetBusy t c call) xs
    busy_same call [] h = tt
    busy_same call (x ∷ xs) h = ((h.0.0, answer_same call (WasBusy h.0.0) x h.0.1), busy_same call xs h.1)

    tried_same : (call : Call) (reply : Reply) (xs : List Moment) → Tries s c call reply xs → Tries t c call reply xs
    tried_same call reply xs x = record { busy = x.busy; last = x.last; are_busy = busy_same call x.busy x.are_busy; gets = answer_same call (Replied reply) x.last x.gets; all = x.all }

    walk_same : (count from : ℕ) (rs : List Reply) (xs : List Moment) → IsWalk (Tries s c) count from rs xs → IsWalk (Tries t c) count from rs xs
    walk_same count from [] xs h = absurd h
    walk_same count from (replies.Seen b ∷ rs) xs h = (h.0, h.1, h.2, tried_same (calls.WalkNext from) (replies.Seen b) h.0 h.3, walk_same (count + 1) (b.addr + 1) rs h.1 h.4)
    walk_same count from (replies.Walked n ∷ []) xs h = (h.0, tried_same (calls.WalkNext from) (replies.Walked n) xs h.1)
    walk_same count from (r ∷ rs) xs h = absurd h

    asked_same : (call : Call) (rs : List Reply) (xs : List Moment) → IsAsked (Tries s c) call rs xs → IsAsked (Tries t c) call rs xs
    asked_same (calls.WalkNext from) rs xs h = walk_same 0 from rs xs h
    asked_same call rs xs h = (h.0, h.1, tried_same call h.0 xs h.2)

    served_same : (o : Option Reply) (call : Call) (rs : List Reply) (xs : List Moment) → IsServed (Tries s c) o call rs xs → IsServed (Tries t c) o call rs xs
    served_same (Some r) call rs xs h = h
    served_same None call rs xs h = asked_same call rs xs h

    pub thread_same : (earlier : List (List (List Answered))) (own : List Answered) (depth : ℕ) (cs : List Command) (rs : List Reply) (xs : List Moment)
        → IsThread s c earlier own depth cs rs xs → IsThread t c earlier own depth cs rs xs
    thread_same earlier own depth [] rs xs h = h
    thread_same earlier own depth (command ∷ rest) rs xs h =
        let call = asked_at earlier own command in (
          h.0,
          h.1,
          h.2,
          h.3,
          h.4,
          h.5,
          served_same (by_depth depth call) call h.0 h.2 h.6,
          thread_same earlier (own ++ answered (command ∷ []) h.0) (depth_after depth call h.0) rest h.1 h.3 h.7,
        )
