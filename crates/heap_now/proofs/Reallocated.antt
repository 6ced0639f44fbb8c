-- A reallocation, from what the part of it does that works inside.
use Rattle.std.proofs.Common.{◌≡◌, ◌≢◌, ℕ, ◌+◌, Bool, false, List, [], ◌∷◌, ◌++◌, refl, sym, ap, ◌∙◌, subst, inl, inr}
use Rattle.std.specs.Prelude.{Result, Ok, Err, IfOk}
use Rattle.std.specs.List.{list_any}
use Rattle.std.proofs.lemmas.List.{append-nil}
use Rattle.heap_model.specs.declared.Act.{Act}
use Rattle.heap_model.specs.declared.Act.TheVariants as acts
use Rattle.heap_model.specs.declared.Busy.{Busy}
use Rattle.heap_model.specs.declared.Call.{Call}
use Rattle.heap_model.specs.declared.Call.TheVariants as calls
use Rattle.heap_model.specs.declared.Entry.{Entry}
use Rattle.heap_model.specs.declared.Flags.{Flags}
use Rattle.heap_model.specs.declared.Limits.{Limits}
use Rattle.heap_model.specs.declared.Opening.{Opening}
use Rattle.heap_model.specs.declared.ReNo.{ReNo}
use Rattle.heap_model.specs.declared.ReNo.TheVariants as re_nos
use Rattle.heap_model.specs.declared.Reply.TheVariants as replies
use Rattle.heap_model.specs.declared.What.{What}
use Rattle.heap_model.specs.declared.What.TheVariants as whats
use Rattle.heap_model.specs.State.{Setting, State}
use Rattle.heap_model.specs.CallState.{Configuration}
use Rattle.heap_model.specs.History.{configuration_of, first_configuration}
use Rattle.heap_model.specs.Moments.{Moment, moments, acts_of, Before}
use Rattle.heap_model.specs.Served.{IsOneCall, IsAnswered}
use Rattle.heap_model.specs.Shape.{Answer, Replied, WasBusy, HasShape, shape_of, shown, is_resize, is_take, is_sized, is_no_fit, begins_move, IsResized, IsGivenAgain, IsMoved, HasNoRange, HasNoRoom, Reallocates}
use Rattle.heap_model.proofs.Moments.{moments-append}
use Rattle.claim_rule.specs.Entries.{IsSettingOf}
use Rattle.claim_rule.proofs.Lists.{after-append, follow_parts, legal_parts}
use Rattle.call_laws.specs.Within.{by_all}
use Rattle.call_laws.proofs.KeptWords.{reallocation_keeps}
use Rattle.heap_gate.specs.Token.{Token}
use Rattle.call_parts.specs.Calls.{IsInside, GoesOn, Answers, Makes}
use Rattle.call_parts.proofs.Joining.{goes_then, setting_before}
use Rattle.call_parts.proofs.Serving.{none_begins-append, shape-append}
use Rattle.address_calls.specs.Answers.{MayGuard}
use Rattle.stay_calls.specs.Moments.{MakesSo}
use Rattle.stay_calls.proofs.Behind.{before_later, acts_joined}
use Rattle.stay_calls.proofs.FrontStays.{before_more}
use Rattle.stay_calls.proofs.Histories.{joined, acts_added}
use Rattle.move_calls.specs.Moves.{MayTry, IsReallocated}
use Rattle.heap_now.specs.Calls.{IsReady, HasBegun, HasGone, Gets, EndsWith}
use Rattle.heap_now.specs.Reallocs.{realloc_answer, KeepsWords}
use Rattle.heap_now.proofs.Frames.{layer_cause, gets}

---- Moments amid others

module _ (xs ys zs : List Moment) (front : shape_of (acts_of xs) ≡ []) (behind : shape_of (acts_of zs) ≡ []) where
  abbrev all : List Moment
  all = xs ++ (ys ++ zs)

  shown_amid : shown all ≡ shown ys
  shown_amid =
      ap shape_of (acts_joined xs (ys ++ zs) ∙ ap (λ (l : List Act). acts_of xs ++ l) (acts_joined ys zs))
      ∙ (shape-append (acts_of xs) (acts_of ys ++ acts_of zs) ∙ ((λ i. front i ++ shape_of (acts_of ys ++ acts_of zs)) ∙ (shape-append (acts_of ys) (acts_of zs) ∙ ((λ i. shape_of (acts_of ys) ++ behind i) ∙ append-nil (shape_of (acts_of ys))))))

  before_amid : (test : Act → Bool) (P : State → Type 0) → list_any test (acts_of xs) ≡ false → Before test P ys → Before test P all
  before_amid test P none h = before_later test P xs (ys ++ zs) none (before_more test P ys zs h)

  module _ (s : Setting) (c a n : ℕ) where
    resized_amid : {zero_it : Bool} → list_any is_resize (acts_of xs) ≡ false → IsResized s c a n zero_it ys → IsResized s c a n zero_it all
    resized_amid none x = record { old = x.old; size = x.size; granules = x.granules; live = x.live; stays = before_amid is_resize _ none x.stays; acts_are = shown_amid ∙ x.acts_are }

    given_amid : {zero_it : Bool} → list_any is_take (acts_of xs) ≡ false → IsGivenAgain s c a n zero_it ys → IsGivenAgain s c a n zero_it all
    given_amid none x = record { old = x.old; size = x.size; front = x.front; stays = before_amid is_take _ none x.stays; acts_are = shown_amid ∙ x.acts_are }

    moved_amid : {zero_it : Bool} {b : ℕ} → list_any begins_move (acts_of xs) ≡ false → IsMoved s c a n zero_it b ys → IsMoved s c a n zero_it b all
    moved_amid none x = record {
      old = x.old;
      size = x.size;
      made = x.made;
      values = x.values;
      moves = x.moves;
      leaves = before_amid begins_move _ none x.leaves;
      address_is = x.address_is;
      count = x.count;
      moves_are = x.moves_are;
      acts_are = shown_amid ∙ x.acts_are;
    }

    no_range_amid : list_any is_no_fit (acts_of xs) ≡ false → HasNoRange s c a n ys → HasNoRange s c a n all
    no_range_amid none x = record { old = x.old; size = x.size; there = x.there; leaves = before_amid is_no_fit _ none x.leaves; acts_are = shown_amid ∙ x.acts_are }

    no_room_amid : list_any is_sized (acts_of xs) ≡ false → HasNoRoom s c a n ys → HasNoRoom s c a n all
    no_room_amid none x = record { old = x.old; size = x.size; leaves = before_amid is_sized _ none x.leaves; acts_are = shown_amid ∙ x.acts_are }

---- The whole call

module _ (a b d e : Token) (addr n : ℕ) (flags : Flags) (r : IsReady a) (g : HasBegun a b (calls.Realloc addr n flags)) (l : HasGone d e) where
  abbrev call : Call
  call = calls.Realloc addr n flags

  abbrev whole : (shape : List Act) (m : Makes b d call shape) → GoesOn a e ((acts.Begin call ∷ acts.Enter ∷ []) ++ (m.added ++ acts.Leave ∷ []))
  whole shape m = goes_then a b e (acts.Begin call ∷ acts.Enter ∷ []) (m.added ++ acts.Leave ∷ []) g.goes (goes_then b d e m.added (acts.Leave ∷ []) m.goes l.goes)

  -- the moments of the call are those of the part, amid its Begin and its Enter, and its Leave
  module _ (shape : List Act) (m : Makes b d call shape) (s : Setting) where
    abbrev front_of : List Moment
    front_of = moments s a.number (configuration_of s a.seen) g.goes.seen.0

    abbrev amid : List Moment
    amid = moments s a.number (configuration_of s b.seen) m.goes.seen.0

    abbrev last_of : List Moment
    last_of = moments s a.number (configuration_of s d.seen) l.goes.seen.0

    three : moments s a.number (configuration_of s a.seen) (whole shape m).seen.0 ≡ front_of ++ (amid ++ last_of)
    three =
        let n = a.number in let m0 = configuration_of s a.seen in
        let p = g.goes.seen in let q = m.goes.seen in let t = l.goes.seen in
        let rest = (goes_then b d e m.added (acts.Leave ∷ []) m.goes l.goes).seen in
        ap (moments s n m0) (joined a.seen b.seen e.seen (whole shape m).seen p rest)
        ∙ (moments-append s n m0 p.0 rest.0
        ∙ ap (λ (l : List Moment). front_of ++ l)
        (ap (λ (k : Configuration). moments s n k rest.0) (sym (after-append s first_configuration a.seen p.0) ∙ ap (configuration_of s) p.1)
        ∙ (ap (moments s n (configuration_of s b.seen)) (joined b.seen d.seen e.seen rest q t)
        ∙ (moments-append s n (configuration_of s b.seen) q.0 t.0
        ∙ ap (λ (k : Configuration). amid ++ moments s n k t.0) (sym (after-append s first_configuration b.seen q.0) ∙ ap (configuration_of s) q.1)))))

    front_acts : acts_of front_of ≡ acts.Begin call ∷ acts.Enter ∷ []
    front_acts = acts_added a b (acts.Begin call ∷ acts.Enter ∷ []) g.goes r.ready.prepared g.serving.prepared g.goes.seen s (configuration_of s a.seen)

    amid_acts : acts_of amid ≡ m.added
    amid_acts = subst (λ (k : ℕ). acts_of (moments s k (configuration_of s b.seen) m.goes.seen.0) ≡ m.added) g.goes.number (acts_added b d m.added m.goes g.serving.prepared m.stands.prepared m.goes.seen s (configuration_of s b.seen))

    last_acts : acts_of last_of ≡ acts.Leave ∷ []
    last_acts = subst (λ (k : ℕ). acts_of (moments s k (configuration_of s d.seen) l.goes.seen.0) ≡ acts.Leave ∷ []) (m.goes.number ∙ g.goes.number) (acts_added d e (acts.Leave ∷ []) l.goes m.stands.prepared l.ready.ready.prepared l.goes.seen s (configuration_of s d.seen))

    all_acts : acts_of (front_of ++ (amid ++ last_of)) ≡ acts.Begin call ∷ acts.Enter ∷ (m.added ++ acts.Leave ∷ [])
    all_acts = acts_joined front_of (amid ++ last_of) ∙ ((λ i. front_acts i ++ acts_joined amid last_of i) ∙ (λ i. acts.Begin call ∷ acts.Enter ∷ (amid_acts i ++ last_acts i)))

    one_call : IsOneCall call (acts_of (front_of ++ (amid ++ last_of)))
    one_call = subst (IsOneCall call) (sym all_acts) (refl, none_begins-append m.added (acts.Leave ∷ []) m.no_begin refl)

  -- a part of which the shape is told by what the caller found
  gets_so : (Told : Setting → ℕ → List Moment → Type 0) (answer : Answer)
      → ((s : Setting) (c : ℕ) (xs ys zs : List Moment) → acts_of xs ≡ acts.Begin call ∷ acts.Enter ∷ [] → acts_of zs ≡ acts.Leave ∷ [] → Told s c ys → HasShape s c call answer (xs ++ (ys ++ zs))) → MakesSo b d call Told → Gets a e call answer
  gets_so Told answer f x = record {
    rest = acts.Enter ∷ (x.makes.added ++ acts.Leave ∷ []);
    answers = record {
      table = (whole x.shape x.makes).table;
      opening = (whole x.shape x.makes).opening;
      number = (whole x.shape x.makes).number;
      depth = (whole x.shape x.makes).depth;
      roll = (whole x.shape x.makes).roll;
      seen = (whole x.shape x.makes).seen;
      own = own_is;
      answered = λ s q. subst (IsAnswered s a.number call answer) (sym (three x.shape x.makes s)) (record { one = one_call x.shape x.makes s; shape = told_now s q });
      legal = l.legal;
      ready = l.ready.ready;
    };
    owes = l.ready.owes;
  }
    where
      own_is : Rattle.heap_model.specs.History.own a.number e.seen ≡ Rattle.heap_model.specs.History.own a.number a.seen ++ by_all a.number (acts.Begin call ∷ acts.Enter ∷ (x.makes.added ++ acts.Leave ∷ []))
      own_is =
          (λ j. Rattle.heap_model.specs.History.own (sym (whole x.shape x.makes).number j) e.seen) ∙ (sym (append-nil (Rattle.heap_model.specs.History.own e.number e.seen)) ∙ (ap (λ (l : List Entry). Rattle.heap_model.specs.History.own e.number e.seen ++ l) (sym l.ready.ready.prepared)
          ∙ ((whole x.shape x.makes).own ∙ ap (λ (k : List Entry). k ++ by_all a.number (acts.Begin call ∷ acts.Enter ∷ (x.makes.added ++ acts.Leave ∷ []))) (ap (λ (p : List Entry). Rattle.heap_model.specs.History.own a.number a.seen ++ p) r.ready.prepared ∙ append-nil (Rattle.heap_model.specs.History.own a.number a.seen)))))

      told_now : (s : Setting) → IsSettingOf e.opening e.roll s → HasShape s a.number call answer (front_of x.shape x.makes s ++ (amid x.shape x.makes s ++ last_of x.shape x.makes s))
      told_now s q =
          let qd = setting_before d e (acts.Leave ∷ []) l.goes s q in
          f s a.number (front_of x.shape x.makes s) (amid x.shape x.makes s) (last_of x.shape x.makes s) (front_acts x.shape x.makes s) (last_acts x.shape x.makes s)
          (subst (λ (k : ℕ). Told s k (moments s k (configuration_of s b.seen) x.makes.goes.seen.0)) g.goes.number (x.told s qd))

  no_gate : (o : Limits) (what : What) → MayTry o addr n what → what ≢ whats.Gate
  no_gate o what (inl m) e = subst (MayGuard o addr) e m
  no_gate o what (inr m) e = subst (Rattle.move_calls.specs.Moves.IsForNew n) e m

  hidden_front : (xs : List Moment) → acts_of xs ≡ acts.Begin call ∷ acts.Enter ∷ [] → shape_of (acts_of xs) ≡ []
  hidden_front xs h = ap shape_of h

  hidden_last : (zs : List Moment) → acts_of zs ≡ acts.Leave ∷ [] → shape_of (acts_of zs) ≡ []
  hidden_last zs h = ap shape_of h

  pub ends : (o : Opening) (result : Result ℕ ReNo) → b.opening ≡ o → IsReallocated b d addr n flags result → EndsWith (MayTry o.limits addr n) a e call (realloc_answer result)
  ends o (Ok to) same x =
      gets_so (λ s c xs. Reallocates s c addr n flags to xs) (Replied (replies.Address to))
      (λ s c xs ys zs hx hz t.
      let f = hidden_front xs hx in let h = hidden_last zs hz in
      elim t [
        | inl z ↦ inl (z.0, elim z.1 [ inl y ↦ inl (resized_amid xs ys zs f h s c addr n (ap (list_any is_resize) hx) y) | inr y ↦ inr (given_amid xs ys zs f h s c addr n (ap (list_any is_take) hx) y) ])
        | inr z ↦ inr (z.0, moved_amid xs ys zs f h s c addr n (ap (list_any begins_move) hx) z.1)
      ]) x
  ends o (Err re_nos.NoFit) same x =
      gets_so (λ s c xs. HasNoRange s c addr n xs) (Replied replies.NoFit)
      (λ s c xs ys zs hx hz t. (x.0, no_range_amid xs ys zs (hidden_front xs hx) (hidden_last zs hz) s c addr n (ap (list_any is_no_fit) hx) t)) x.1
  ends o (Err re_nos.NoRoomInPlace) same x =
      gets_so (λ s c xs. HasNoRoom s c addr n xs) (Replied replies.NoRoom)
      (λ s c xs ys zs hx hz t. (x.0, no_room_amid xs ys zs (hidden_front xs hx) (hidden_last zs hz) s c addr n (ap (list_any is_sized) hx) t)) x.1
  ends o (Err re_nos.NotLive) same x = gets a b d e call (Replied replies.NotLive) r g (acts.NotLive addr ∷ [], x, refl) l
  ends o (Err (re_nos.Busy w)) same x =
      let may = subst (λ (y : Opening). MayTry y.limits addr n w.what) same x.may in (
        record {
          gets = gets a b d e call (WasBusy w) r g (x.shape, x.made, x.hindered) l;
          cause = layer_cause a.number w.word w.what (no_gate o.limits w.what may) (subst (λ (k : ℕ). (w.word ≢ 0) × (w.word ≢ k + 1)) g.goes.number x.another);
        },
        inr may,
      )

-- However it ended inside, the caller is inside, at its table.
pub stays_inside : (b d : Token) (addr n : ℕ) (flags : Flags) (result : Result ℕ ReNo) → IsReallocated b d addr n flags result → (d.table ≡ b.table) × ((k : Call) × IsInside d k)
stays_inside b d addr n flags (Ok to) x = (x.makes.goes.table, (calls.Realloc addr n flags, x.makes.stands))
stays_inside b d addr n flags (Err re_nos.NoFit) x = (x.1.makes.goes.table, (calls.Realloc addr n flags, x.1.makes.stands))
stays_inside b d addr n flags (Err re_nos.NoRoomInPlace) x = (x.1.makes.goes.table, (calls.Realloc addr n flags, x.1.makes.stands))
stays_inside b d addr n flags (Err re_nos.NotLive) x = (x.goes.table, (calls.Realloc addr n flags, x.stands))
stays_inside b d addr n flags (Err (re_nos.Busy w)) x = (x.made.goes.table, (calls.Realloc addr n flags, x.made.stands))

---- Kept words

kept_words : (a e : Token) (addr n b : ℕ) (flags : Flags) → Gets a e (calls.Realloc addr n flags) (Replied (replies.Address b)) → KeepsWords a e addr n b
kept_words a e addr n b flags x =
    let y = x.answers in
    record {
      seen = y.seen;
      keeps = λ s q valid.
          let all = ap (Rattle.heap_model.specs.History.may_all_follow s first_configuration) y.seen.1 ∙ (legal_parts s e.seen (y.legal s q)).0 in
          let two = follow_parts s first_configuration a.seen y.seen.0 all in
          reallocation_keeps s (configuration_of s a.seen) a.number addr n b flags y.seen.0 (record { valid = valid; entries = a.seen; legal = two.0; leads = refl }) two.1 (y.answered s q);
    }

pub keeps : (May : What → Type 0) (a e : Token) (addr n : ℕ) (flags : Flags) (result : Result ℕ ReNo) → EndsWith May a e (calls.Realloc addr n flags) (realloc_answer result) → IfOk result (λ b. KeepsWords a e addr n b)
keeps May a e addr n flags (Ok b) x = kept_words a e addr n b flags x
keeps May a e addr n flags (Err why) x = tt
