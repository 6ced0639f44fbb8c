-- What the list of the root is at the end: the rounds of the script, in the setting of its threads.
use Rattle.std.proofs.Common.{◌≡◌, ℕ, zero, suc, ◌<◌, ◌≤◌, Bool, true, false, cond, List, [], ◌∷◌, ◌++◌, length, get_or, refl, sym, ap, ◌∙◌, subst, arith, eq-eqb}
use Rattle.std.specs.Prelude.{nat_lt}
use Rattle.std.proofs.lemmas.Bool.{and_parts, ltb-true, ltb-false, lt-ltb}
use Rattle.std.proofs.lemmas.List.{append-nil}
use Rattle.std.proofs.lemmas.Nat.{mod_below}
use mathlib.Core.List.{IsPrefix}
use Rattle.heap_model.specs.declared.Entry.{Entry}
use Rattle.heap_model.specs.declared.Limits.{Limits}
use Rattle.heap_model.specs.declared.Opening.{Opening}
use Rattle.heap_model.specs.declared.Reply.{Reply}
use Rattle.heap_model.specs.CallState.{Configuration}
use Rattle.heap_model.specs.History.{own, configuration_of, first_configuration}
use Rattle.heap_model.specs.Moments.{Moment, moments}
use Rattle.heap_model.specs.Served.{in_line}
use Rattle.heap_model.specs.State.{Setting, State, is_among, live}
use Rattle.heap_model.proofs.Moments.{moments_between}
use Rattle.claim_rule.specs.declared.views.Assignment.{Assignment}
use Rattle.claim_rule.specs.Entries as entries
use Rattle.claim_rule.specs.Entries.{IsSettingOf, IsLegalWith, is_named, slot_at, stream_at, have_slots}
use Rattle.claim_rule.proofs.Advance.{some_setting}
use Rattle.claim_rule.proofs.Lists.{prefix_trans, none_between, after-append, own_unnamed, slot_before, stream_before, named_rest}
use Rattle.script_text.specs.declared.commands.Command.{Command}
use Rattle.script_text.specs.Scripts.{commands_of}
use Rattle.script_text.specs.ThreadLines.{ScriptLines}
use Rattle.script_text.specs.Values.{Answered}
use Rattle.layout_decode.specs.declared.Image.{Image}
use Rattle.layout_decode.specs.Decode.{decode, IsReadable}
use Rattle.layout_decode.specs.Shows.{Shows}
use Rattle.heap_gate.specs.Roots.{RootToken, is_of, opened_with}
use Rattle.heap_closing.specs.declared.Receipt.{Receipt}
use Rattle.thread_rounds.specs.Rounds.{answered_threads, setting_of, AreRounds, IsRun}
use Rattle.thread_rounds.specs.Headline.{state_of}
use Rattle.thread_rounds.specs.Threads.{IsThread}
use Rattle.thread_rounds.proofs.Settings.{AgreeBelow, configuration_same, moments_same, thread_same}
use Rattle.thread_commands.specs.declared.workers.Worker.{Worker}
use Rattle.round_runs.specs.Crews.{AreInTurn, HaveJoined}
use Rattle.round_runs.specs.Played.{IsPlayed}
use Rattle.round_runs.specs.Turns.{HasDone, IsDone, AreDone, HaveRun}

---- Callers by their numbers

pub turn_slots : (slots : ℕ) → 0 < slots → (roll : List Assignment) → ((t : ℕ) → t < length roll → slot_at roll t < slots) → have_slots slots roll ≡ true
turn_slots slots some [] below = refl
turn_slots slots some (x ∷ xs) below =
    rw (lt-ltb x.slot slots (below 0 (omega arith))) (turn_slots slots some xs (λ t l. below (suc t) (omega arith)))

pub in_slots : (l : Limits) (roll : List Assignment) → 1 ≤ l.slots → AreInTurn l roll → have_slots l.slots roll ≡ true
in_slots l roll some turn =
    turn_slots l.slots some roll (λ t i. subst (λ (n : ℕ). n < l.slots) (sym (turn t i).0) (mod_below t l.slots some))

named_of : (js : List ℕ) (n : ℕ) → ((t : ℕ) → is_among t js ≡ true → t < n) → (es : List Entry) → is_of js es ≡ true → is_named n es ≡ true
named_of js n below [] h = refl
named_of js n below (e ∷ es) h =
    let p = and_parts (is_among e.caller js) (is_of js es) h in
    rw (lt-ltb e.caller n (below e.caller p.0)) (named_of js n below es p.1)

named_front : (n : ℕ) (xs ys : List Entry) → is_named n (xs ++ ys) ≡ true → is_named n xs ≡ true
named_front n [] ys h = refl
named_front n (x ∷ xs) ys h =
    let p = and_parts (nat_lt x.caller n) (is_named n (xs ++ ys)) h in
    rw p.0 (named_front n xs ys p.1)

named_join : (n : ℕ) (xs ys : List Entry) → is_named n xs ≡ true → is_named n ys ≡ true → is_named n (xs ++ ys) ≡ true
named_join n [] ys g h = h
named_join n (x ∷ xs) ys g h =
    let p = and_parts (nat_lt x.caller n) (is_named n xs) g in
    rw p.0 (named_join n xs ys p.1 h)

---- The setting of the threads

get_past : {A : Type 0} (xs : List A) (t : ℕ) (d : A) → length xs ≤ t → get_or xs t d ≡ d
get_past [] t d l = refl
get_past (x ∷ xs) zero d l = absurd (omega arith)
get_past (x ∷ xs) (suc t) d l = get_past xs t d (omega arith)

module _ (limits : Limits) (seed : ℕ) (roll : List Assignment) (turn : AreInTurn limits roll) where
  abbrev o : Opening
  o = opened_with limits seed

  abbrev s : Setting
  s = setting_of limits seed

  agree : (known : List Assignment) → IsPrefix roll known → AgreeBelow (length roll) (entries.setting_of o known) s
  agree known p = record {
    limits = refl;
    seed = refl;
    slot = λ c l. ap (λ (k : List Assignment). slot_at k c) (sym p.1) ∙ (slot_before roll p.0 c l ∙ (turn c l).0);
    stream = λ c l. ap (λ (k : List Assignment). stream_at k c) (sym p.1) ∙ (stream_before roll p.0 c l ∙ (turn c l).1);
  }

  pub is_setting : IsSettingOf o roll s
  is_setting = record { limits = refl; seed = refl; slot = λ c l. sym (turn c l).0; stream = λ c l. sym (turn c l).1 }

  pub state_same : (es : List Entry) → is_named (length roll) es ≡ true → (configuration_of (entries.setting_of o roll) es).state ≡ (configuration_of s es).state
  state_same es h = ap (λ (m : Configuration). m.state) (configuration_same (length roll) (entries.setting_of o roll) s (agree roll ([], append-nil roll)) first_configuration es h)

  pub shows_same : (image : Image) (st : State) → Shows image (entries.setting_of o roll) st → Shows image s st
  shows_same image st x = record {
    limits = x.limits;
    key = x.key;
    segments = x.segments;
    reserved = x.reserved;
    committed = x.committed;
    pages = x.pages;
    whole = x.whole;
    spans = x.spans;
    free = x.free;
    marks = x.marks;
    headers = x.headers;
    large_limits = x.large_limits;
    large = x.large;
    front = x.front;
    contents = x.contents;
    gate = x.gate;
    made = x.made;
  }

  module _ (history es : List Entry) (t : ℕ) (earlier : List (List (List Answered))) (named : is_named (length roll) history ≡ true) (named' : is_named (length roll) es ≡ true) where
    thread_here : (cs : List Command) (rs : List Reply) → HasDone o roll history es t earlier cs rs → IsThread s t earlier [] 0 cs rs (moments s t (configuration_of s history) es)
    thread_here cs rs d =
        let s' = entries.setting_of o d.known in
        let a = agree d.known d.begins in
        let n = length roll in
        thread_same s' s t a.limits earlier [] 0 cs rs (moments s t (configuration_of s history) es)
        (subst (λ (xs : List Moment). IsThread s' t earlier [] 0 cs rs xs)
        (moments_same n s' s a t (configuration_of s' history) es named' ∙ ap (λ (m : Configuration). moments s t m es) (configuration_same n s' s a first_configuration history named))
        (d.thread s' (some_setting o d.known)))

    nothing_here : length roll ≤ t → moments s t (configuration_of s history) es ≡ []
    nothing_here l = moments_between s t (configuration_of s history) [] es (es, refl) (own_unnamed (length roll) t es l named')

    round_here : (threads : List (List Command)) (answers : List (List Reply)) → IsDone o roll history earlier threads answers es
        → IsThread s t earlier [] 0 (get_or threads t []) (get_or answers t []) (moments s t (configuration_of s history) es)
    round_here threads answers d = go (nat_lt t (length roll)) refl
      where
        go : (b : Bool) → nat_lt t (length roll) ≡ b → IsThread s t earlier [] 0 (get_or threads t []) (get_or answers t []) (moments s t (configuration_of s history) es)
        go true e = thread_here (get_or threads t []) (get_or answers t []) (d.each t (ltb-true t (length roll) e))
        go false e =
            let l = ltb-false t (length roll) e in
            let few = d.few in
            let many = d.as_many in
            subst (λ (x : List Command × List Reply). IsThread s t earlier [] 0 x.0 x.1 (moments s t (configuration_of s history) es))
            (λ i. (sym (get_past threads t [] (omega (arith, l, few))) i, sym (get_past answers t [] (omega (arith, l, few, many))) i)) (refl, nothing_here l)

  to_rounds : (history : List Entry) (earlier : List (List (List Answered))) (script : List (List (List Command))) (answers : List (List (List Reply))) (parts : List (List Entry))
      → AreDone o roll history earlier script answers parts → is_named (length roll) history ≡ true → is_named (length roll) (in_line parts) ≡ true
      → AreRounds s (configuration_of s history) earlier script answers parts
  to_rounds history earlier [] [] [] a h k = tt
  to_rounds history earlier [] [] (p ∷ ps) a h k = absurd a
  to_rounds history earlier [] (x ∷ xs) ps a h k = absurd a
  to_rounds history earlier (c ∷ cs) [] ps a h k = absurd a
  to_rounds history earlier (c ∷ cs) (x ∷ xs) [] a h k = absurd a
  to_rounds history earlier (c ∷ cs) (x ∷ xs) (p ∷ ps) a h k =
      let n = length roll in
      let here = named_front n p (in_line ps) k in
      let rest = named_rest n p (in_line ps) k in (
        record { as_many = a.0.as_many; each = λ t. round_here history p t earlier h here c x a.0 },
        subst (λ (m : Configuration). AreRounds s m (earlier ++ answered_threads c x ∷ []) cs xs ps) (after-append s first_configuration history p)
            (to_rounds (history ++ p) (earlier ++ answered_threads c x ∷ []) cs xs ps a.1 (named_join n history p h here) rest),
      )

---- The list of the root

of_behind : (js : List ℕ) (xs ys : List Entry) → is_of js (xs ++ ys) ≡ true → is_of js ys ≡ true
of_behind js [] ys h = h
of_behind js (x ∷ xs) ys h = of_behind js xs ys (and_parts (is_among x.caller js) (is_of js (xs ++ ys)) h).1

-- entries of some callers, of which none has an entry
all_none : (js : List ℕ) (es : List Entry) → is_of js es ≡ true → ((t : ℕ) → is_among t js ≡ true → own t es ≡ []) → es ≡ []
all_none js [] h none = refl
all_none js (e ∷ es) h none =
    let among = (and_parts (is_among e.caller js) (is_of js es) h).0 in
    let first : e ∷ own e.caller es ≡ [] = sym (ap (λ (b : Bool). cond b (e ∷ own e.caller es) (own e.caller es)) (eq-eqb e.caller e.caller refl)) ∙ none e.caller among in
    absurd (cc first)

module _ (o : Opening) (roll : List Assignment) (ws : List Worker) (script : List (List (List Command))) (answers : List (List (List Reply))) (old new : RootToken)
    (r : HaveRun o roll ws script answers) (j : HaveJoined ws old new) (of : is_of new.joined new.seen ≡ true) where
  begins : IsPrefix (in_line r.rounds) new.seen
  begins = go ws refl
    where
      go : (vs : List Worker) → vs ≡ ws → IsPrefix (in_line r.rounds) new.seen
      go [] e = (new.seen, ap (λ (es : List Entry). es ++ new.seen) (r.none (ap length (sym e))))
      go (v ∷ vs) e =
          let n : suc (length vs) ≡ length ws = ap length e in
          let some : 0 < length ws = omega (arith, n) in
          prefix_trans (in_line r.rounds) (get_or ws 0 v).caller.seen new.seen (r.abreast 0 v some).seen (j.seen 0 v (omega arith) some)

  kept : (t : ℕ) → is_among t new.joined ≡ true → own t begins.0 ≡ []
  kept t among =
      let b = (j.only t among).1 in
      none_between t new.seen (in_line r.rounds) begins (owns (get_first ws (omega (arith, b))) b)
    where
      get_first : (vs : List Worker) → 0 < length vs → Worker
      get_first [] l = absurd (omega arith)
      get_first (v ∷ vs) l = v

      owns : (d : Worker) → t < length ws → own t new.seen ≡ own t (in_line r.rounds)
      owns d b = j.own t d (omega arith) b ∙ (r.abreast t d b).own

  pub whole : new.seen ≡ in_line r.rounds
  whole =
      sym begins.1 ∙ (ap (λ (l : List Entry). in_line r.rounds ++ l) (all_none new.joined begins.0 (of_behind new.joined (in_line r.rounds) begins.0 (ap (is_of new.joined) begins.1 ∙ of)) kept)
      ∙ append-nil (in_line r.rounds))

  pub all_named : (n : ℕ) → length ws ≡ n → is_named n new.seen ≡ true
  all_named n e = named_of new.joined n (λ t among. let b = (j.only t among).1 in omega (arith, b, e)) new.seen of

pub ran : (limits : Limits) (seed : ℕ) (ws : List Worker) (script : List (List (List Command))) (answers : List (List (List Reply))) (old new : RootToken)
    → AreInTurn limits old.roll → length old.roll ≡ length ws → HaveRun (opened_with limits seed) old.roll ws script answers → HaveJoined ws old new → is_of new.joined new.seen ≡ true
    → IsLegalWith (opened_with limits seed) old.roll new.seen → IsRun limits seed script answers new.seen
ran limits seed ws script answers old new turn all r j of legal =
    let e = whole (opened_with limits seed) old.roll ws script answers old new r j of in
    let named = all_named (opened_with limits seed) old.roll ws script answers old new r j of (length old.roll) (sym all) in
    record {
      legal = legal (setting_of limits seed) (is_setting limits seed old.roll turn);
      rounds = r.rounds;
      in_order = e;
      are_run = to_rounds limits seed old.roll turn [] [] script answers r.rounds r.are_done refl (subst (λ (es : List Entry). is_named (length old.roll) es ≡ true) e named);
    }

---- What is left

module _ (limits : Limits) (seed : ℕ) (ws : List Worker) (script : ScriptLines) (answers : List (List (List Reply))) (old new : RootToken) (receipt : Receipt)
    (opened : old.opening ≡ opened_with limits seed) (turn : AreInTurn limits old.roll) (all : length old.roll ≡ length ws)
    (r : HaveRun (opened_with limits seed) old.roll ws (commands_of script) answers) (j : HaveJoined ws old new) (of : is_of new.joined new.seen ≡ true) where
  abbrev with_all : Opening × List Assignment → Configuration
  with_all z = configuration_of (entries.setting_of z.0 z.1) new.seen

  made_with : ◌≡◌ {A = Opening × List Assignment} (new.opening, new.roll) (opened_with limits seed, old.roll)
  made_with = λ i. ((j.opening ∙ opened) i, j.roll i)

  named : is_named (length old.roll) new.seen ≡ true
  named = all_named (opened_with limits seed) old.roll ws (commands_of script) answers old new r j of (length old.roll) (sym all)

  state_is : (with_all (opened_with limits seed, old.roll)).state ≡ state_of limits seed new.seen
  state_is = state_same limits seed old.roll turn new.seen named

  shown : Shows receipt.image (entries.setting_of new.opening new.roll) (with_all (new.opening, new.roll)).state → Shows receipt.image (setting_of limits seed) (state_of limits seed new.seen)
  shown x =
      subst (λ (st : State). Shows receipt.image (setting_of limits seed) st) state_is
      (shows_same limits seed old.roll turn receipt.image (with_all (opened_with limits seed, old.roll)).state
      (subst (λ (z : Opening × List Assignment). Shows receipt.image (entries.setting_of z.0 z.1) (with_all z).state) made_with x))

  decoded : decode receipt.image ≡ live (with_all (new.opening, new.roll)).state → decode receipt.image ≡ live (state_of limits seed new.seen)
  decoded x = subst (λ (z : Opening × List Assignment). decode receipt.image ≡ live (with_all z).state) made_with x ∙ ap live state_is

  pub played : IsLegalWith new.opening new.roll new.seen → receipt.last.value ≡ new
      → Shows receipt.image (entries.setting_of new.opening new.roll) (with_all (new.opening, new.roll)).state → decode receipt.image ≡ live (with_all (new.opening, new.roll)).state → IsReadable receipt.image
      → IsPlayed script limits seed answers receipt
  played legal last shows blocks readable = record {
    run = subst (λ (x : RootToken). IsRun limits seed (commands_of script) answers x.seen) (sym last)
        (ran limits seed ws (commands_of script) answers old new turn all r j of (subst (λ (z : Opening × List Assignment). IsLegalWith z.0 z.1 new.seen) made_with legal));
    shows = subst (λ (x : RootToken). Shows receipt.image (setting_of limits seed) (state_of limits seed x.seen)) (sym last) (shown shows);
    blocks = subst (λ (x : RootToken). decode receipt.image ≡ live (state_of limits seed x.seen)) (sym last) (decoded blocks);
    readable = readable;
  }
