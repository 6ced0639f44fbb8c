-- The worked pairs evaluate.
use Rattle.std.proofs.Common.{◌≡◌, ℕ, ◌<◌, List, [], ◌∷◌, map, true, not, Option, Some, None, refl, sym, ap, subst, ◌∙◌, arith, ◌+◌, ◌^◌, ◌++◌}
use Rattle.std.specs.List.{list_all}
use Rattle.std.proofs.lemmas.Bool.{and_from}
use Rattle.rand_pcg.specs.Lcg.{state_after}
use Rattle.heap_model.specs.declared.Act.{Act}
use Rattle.heap_model.specs.declared.Act.TheVariants as acts
use Rattle.heap_model.specs.declared.Reply.{Reply}
use Rattle.heap_model.specs.declared.Reply.TheVariants as replies
use Rattle.heap_model.specs.State.{Setting, State, IsValidSetting}
use Rattle.heap_model.specs.Backend.{numbers}
use Rattle.heap_model.specs.CallState.{Configuration}
use Rattle.heap_model.specs.Search.{draw_of, hint}
use Rattle.heap_model.specs.Legal.{is_begin}
use Rattle.heap_model.specs.History.{first_configuration, may_all_follow, configuration_after, is_nothing}
use Rattle.heap_model.specs.Alone.{by_zero, configuration_by, may_all_come}
use Rattle.heap_model.specs.Moments.{moments_by}
use Rattle.heap_model.specs.Served.{IsOneCall, GetsReply, IsServed, AreServed, by_depth, depth_after}
use Rattle.heap_model.specs.Serial.{IsIdle, IsSerial}
use Rattle.heap_model.specs.Shape.{Replied, HasActs, shape_of}
use Rattle.heap_model.proofs.Moments.{acts_by, told_by_acts}
use Rattle.serial_laws.proofs.Turns.{come_follow, come_to, moments_by-append, asks_one}
use Rattle.one_caller_laws.specs.OneCall.{AreAlike}
use Rattle.one_caller_laws.specs.Worked.{Told, acts_of_all, asked_in, replied_in, one, TwoWays, two_spans, filled, under_lock, behind_lock, asks_again, all_under, all_behind, TwoHints, TwoReplies, SearchIsNotDetermined, SerialIsNoFunction, block_at, allocates, in_gap, fills, frees, hits, second_span, drawn_first, spans_then}

pub two_ways : TwoWays
two_ways = record {
  straight_on = record { legal = refl; gets = record { one = (refl, refl); shape = (refl, refl) }; idle = record { outside = refl; holds = refl; hands = refl; demand = refl } };
  winding_on = record { legal = refl; gets = record { one = (refl, refl); shape = (refl, refl) }; idle = record { outside = refl; holds = refl; hands = refl; demand = refl } };
}

pub two_hints : TwoHints
unfolding draw_of state_after
two_hints = record {
  between = record { acts = acts_of_all two_spans; legal = refl; leads = refl; idle = record { outside = refl; holds = refl; hands = refl; demand = refl } };
  under = record { legal = refl; gets = record { one = (refl, refl); shape = (refl, refl) }; idle = record { outside = refl; holds = refl; hands = refl; demand = refl } };
  behind = record { legal = refl; gets = record { one = (refl, refl); shape = (refl, refl) }; idle = record { outside = refl; holds = refl; hands = refl; demand = refl } };
}

---- Calls that are told make a serial history

-- the acts of each call have the shape of its reply, and no depth answers it
abbrev TellsAll : List Told → Type 0
TellsAll [] = Unit {0}
TellsAll (t ∷ ts) = ((depth : ℕ) → by_depth depth t.call ≡ None) × (list_all (λ act. not (is_begin act)) t.rest ≡ true) × HasActs t.call (Replied t.reply) (shape_of t.rest) × TellsAll ts

gets_told : (s : Setting) (m : Configuration) (t : Told) → list_all (λ act. not (is_begin act)) t.rest ≡ true → HasActs t.call (Replied t.reply) (shape_of t.rest) → GetsReply s 0 t.call t.reply (moments_by s m (acts.Begin t.call ∷ t.rest))
gets_told s m t none shape =
    let xs = moments_by s m (acts.Begin t.call ∷ t.rest) in
    let is = sym (acts_by s m (acts.Begin t.call ∷ t.rest)) in
    record {
      one = subst (IsOneCall t.call) is (refl, none);
      shape = told_by_acts s 0 t.call (Replied t.reply) xs (subst (λ (l : List Act). HasActs t.call (Replied t.reply) (shape_of l)) is shape);
    }

served_told : (s : Setting) (ts : List Told) (m : Configuration) (depth : ℕ) → TellsAll ts → AreServed (GetsReply s 0) depth (asked_in ts) (replied_in ts) (moments_by s m (acts_of_all ts))
served_told s [] m depth h = (refl, refl)
served_told s (t ∷ ts) m depth h =
    let first = acts.Begin t.call ∷ t.rest in (
      t.reply ∷ [],
      replied_in ts,
      moments_by s m first,
      moments_by s (configuration_by s m first) (acts_of_all ts),
      refl,
      moments_by-append s m first (acts_of_all ts),
      subst (λ (o : Option Reply). IsServed (GetsReply s 0) o t.call (t.reply ∷ []) (moments_by s m first)) (sym (h.0 depth)) (asks_one (GetsReply s 0) t.call t.reply (moments_by s m first) h.0 (gets_told s m t h.1 h.2)),
      served_told s ts (configuration_by s m first) (depth_after depth t.call (t.reply ∷ [])) h.3,
    )

serial_told : (ts : List Told) → TellsAll ts → may_all_come one first_configuration (acts_of_all ts) ≡ true → IsIdle (configuration_by one first_configuration (acts_of_all ts)) →
    (state : State) × IsSerial one.limits one.seed (asked_in ts) (replied_in ts) state
serial_told ts tells legal idle =
    let rest = acts_of_all ts in
    let to = come_to one first_configuration rest in
    let i = subst IsIdle (sym to) idle in (
      (configuration_after one first_configuration (map by_zero rest)).state,
      record {
        rest = rest;
        served = served_told one ts first_configuration 0 tells;
        legal = and_from (may_all_follow one first_configuration (map by_zero rest)) _ (come_follow one first_configuration rest ∙ legal) (ap is_nothing i.demand);
        idle = i;
        ends = refl;
      },
    )

legal_under : may_all_come one first_configuration (acts_of_all all_under) ≡ true
unfolding draw_of state_after
legal_under = refl

legal_behind : may_all_come one first_configuration (acts_of_all all_behind) ≡ true
unfolding draw_of state_after
legal_behind = refl

idle_under : IsIdle (configuration_by one first_configuration (acts_of_all all_under))
idle_under = record { outside = refl; holds = refl; hands = refl; demand = refl }

idle_behind : IsIdle (configuration_by one first_configuration (acts_of_all all_behind))
idle_behind = record { outside = refl; holds = refl; hands = refl; demand = refl }

tells_append : (ts us : List Told) → TellsAll ts → TellsAll us → TellsAll (ts ++ us)
tells_append [] us h k = k
tells_append (t ∷ ts) us h k = (h.0, h.1, h.2, tells_append ts us h.3 k)

tells_gaps : (is : List ℕ) → TellsAll (map in_gap is)
tells_gaps [] = tt
tells_gaps (i ∷ is) = (λ d. refl, refl, (omega arith, refl), tells_gaps is)

tells_fills : (head bits : ℕ) (is : List ℕ) → TellsAll (fills head bits is)
tells_fills head bits [] = tt
tells_fills head bits (i ∷ is) = (λ d. refl, refl, (refl, refl), tells_fills head (bits + 2 ^ i) is)

tells_second : TellsAll second_span
tells_second = (λ d. refl, refl, (refl, refl), (λ d. refl, refl, (refl, refl), (λ d. refl, refl, (refl, refl), tells_fills 19 1 (1 ∷ 2 ∷ 3 ∷ 4 ∷ 5 ∷ 6 ∷ 7 ∷ 8 ∷ 9 ∷ 10 ∷ 11 ∷ 12 ∷ 13 ∷ 14 ∷ []))))

tells_then : TellsAll spans_then
tells_then = (λ d. refl, refl, (refl, refl), tells_append (fills 18 1 drawn_first) second_span (tells_fills 18 1 drawn_first) tells_second)

tells_spans : TellsAll two_spans
tells_spans = (λ d. refl, refl, (refl, refl), tells_append (map in_gap (numbers 1 16)) spans_then (tells_gaps (numbers 1 16)) tells_then)

tells_under : TellsAll all_under
tells_under =
    tells_append two_spans (allocates (block_at 18 0) under_lock ∷ frees (block_at 19 0) ∷ hits 18 32765 1 ∷ []) tells_spans
    (λ d. refl, refl, (refl, refl), (λ d. refl, refl, (refl, refl), (λ d. refl, refl, (refl, refl), tt)))

tells_behind : TellsAll all_behind
tells_behind =
    tells_append two_spans (allocates (block_at 18 0) behind_lock ∷ frees (block_at 19 0) ∷ hits 19 32766 0 ∷ []) tells_spans
    (λ d. refl, refl, (refl, refl), (λ d. refl, refl, (refl, refl), (λ d. refl, refl, (refl, refl), tt)))

pub two_replies : TwoReplies
two_replies = record { under = serial_told all_under tells_under legal_under idle_under; behind = serial_told all_behind tells_behind legal_behind idle_behind }

---- So the laws are false

different : (a b : ℕ) → a < b → Some a ≡ Some b → ⊥
different a b l z = let same : a ≡ b = cc in omega (arith, same, l)

valid_one : IsValidSetting one
valid_one = record {
  limits = record { some_segments = omega arith; segments = omega arith; large_pages = omega arith; some_slots = omega arith; slots = omega arith; some_callers = omega arith; callers = omega arith };
  slot = λ c l. omega arith;
}

hint_under : hint (configuration_by one filled (acts.Begin asks_again ∷ under_lock)).state.back.area (configuration_by one filled (acts.Begin asks_again ∷ under_lock)).now.span_history 16 0 ≡ Some 18
hint_under = refl

hint_behind : hint (configuration_by one filled (acts.Begin asks_again ∷ behind_lock)).state.back.area (configuration_by one filled (acts.Begin asks_again ∷ behind_lock)).now.span_history 16 0 ≡ Some 19
hint_behind = refl

pub search_is_not_determined : SearchIsNotDetermined
search_is_not_determined det =
    let self : AreAlike filled filled = record { state = refl; searches = refl; hints = λ b t. refl } in
    let r = det one filled filled _ _ under_lock behind_lock valid_one two_hints.between two_hints.between self two_hints.under two_hints.behind in
    different 18 19 (omega arith) (sym hint_under ∙ r.1.hints 16 0 ∙ hint_behind)

-- the address that the last reply tells
abbrev address_told : Reply → Option ℕ
address_told (replies.Address a) = Some a
address_told _ = None

abbrev last_address : List Reply → Option ℕ
last_address [] = None
last_address (r ∷ []) = address_told r
last_address (r ∷ q ∷ rs) = last_address (q ∷ rs)

pub serial_is_no_function : SerialIsNoFunction
serial_is_no_function law =
    let r = law one.limits one.seed (asked_in all_under) (replied_in all_under) (replied_in all_behind) two_replies.under.0 two_replies.behind.0 valid_one.limits two_replies.under.1 two_replies.behind.1 in
    different (block_at 18 1) (block_at 19 0) (omega arith) (ap last_address r.0)
