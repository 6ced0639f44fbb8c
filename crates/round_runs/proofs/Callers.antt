-- Workers that are made, and that meet for the first time; callers that join.
use Rattle.std.proofs.Common.{◌≡◌, ℕ, zero, suc, ◌+◌, ◌<◌, ◌≤◌, ◌%◌, ◌==◌, ◌||◌, Bool, true, false, List, [], ◌∷◌, ◌++◌, length, get_or, refl, sym, ap, ◌∙◌, subst, arith, append_assoc, length-append, eq-eqb}
use Rattle.std.specs.Prelude.{nat_lt}
use Rattle.std.proofs.lemmas.Bool.{eqb-true, ltb-true, ltb-false, false≢true}
use Rattle.std.proofs.lemmas.List.{append-nil}
use mathlib.Core.List.{IsPrefix}
use Rattle.heap_model.specs.declared.Limits.{Limits}
use Rattle.heap_model.specs.History.{own}
use Rattle.heap_model.specs.State.{is_among}
use Rattle.claim_rule.specs.declared.views.Assignment.{Assignment}
use Rattle.claim_rule.specs.Entries.{slot_at, stream_at}
use Rattle.claim_rule.proofs.Lists.{prefix_self, prefix_trans, prefix_more, slot_before, stream_before}
use Rattle.name_values.specs.Table.{Tells}
use Rattle.heap_gate.specs.Token.{HeapToken, Token}
use Rattle.heap_gate.specs.Roots.{RootToken, HasJoined, fresh_caller}
use Rattle.heap_now.proofs.Callers.{fresh_free}
use Rattle.thread_commands.specs.Working.{IsFree}
use Rattle.thread_commands.specs.declared.workers.Worker.{Worker}
use Rattle.round_runs.specs.Crews.{AreFree, AreAbreast, AreTold, AreInTurn, IsNew, AreMade, AreOf, HaveJoinedFrom}
use Rattle.round_runs.specs.Turns.{Keeps, HaveAllMet}

---- One caller more

slot_last : (xs : List Assignment) (a : Assignment) → slot_at (xs ++ a ∷ []) (length xs) ≡ a.slot
slot_last [] a = refl
slot_last (x ∷ xs) a = slot_last xs a

stream_last : (xs : List Assignment) (a : Assignment) → stream_at (xs ++ a ∷ []) (length xs) ≡ a.stream
stream_last [] a = refl
stream_last (x ∷ xs) a = stream_last xs a

turn_more : (l : Limits) (roll : List Assignment) (a : Assignment) → AreInTurn l roll → a.slot ≡ length roll % l.slots → a.stream ≡ length roll → AreInTurn l (roll ++ a ∷ [])
turn_more l roll a turn slot stream t lt = go (nat_lt t (length roll)) refl
  where
    go : (b : Bool) → nat_lt t (length roll) ≡ b → (slot_at (roll ++ a ∷ []) t ≡ t % l.slots) × (stream_at (roll ++ a ∷ []) t ≡ t)
    go true e =
        let i = ltb-true t (length roll) e in
        (slot_before roll (a ∷ []) t i ∙ (turn t i).0, stream_before roll (a ∷ []) t i ∙ (turn t i).1)
    go false e =
        let i = ltb-false t (length roll) e in
        let n = length-append roll (a ∷ []) in
        let z : t ≡ length roll = omega (arith, i, n, lt) in
        subst (λ (k : ℕ). (slot_at (roll ++ a ∷ []) k ≡ k % l.slots) × (stream_at (roll ++ a ∷ []) k ≡ k)) (sym z) (slot_last roll a ∙ slot, stream_last roll a ∙ stream)

get_last : (xs : List Worker) (w : Worker) (t : ℕ) (d : Worker) → t < length xs + 1 → (P : ℕ → Worker → Type 0) → ((i : ℕ) (e : Worker) → i < length xs → P i (get_or xs i e)) → P (length xs) w → P t (get_or (xs ++ w ∷ []) t d)
get_last [] w zero d l P p q = q
get_last [] w (suc t) d l P p q = absurd (omega arith)
get_last (x ∷ xs) w zero d l P p q = p 0 d (omega arith)
get_last (x ∷ xs) w (suc t) d l P p q = get_last xs w t d (omega arith) (λ i. P (suc i)) (λ i e m. p (suc i) e (omega arith)) q

module _ (h : HeapToken) (r r' : RootToken) (ws : List Worker) (w : Worker) (slot stream : ℕ) (m : AreMade h r ws)
    (e : r' ≡ record r { roll = r.roll ++ record { slot = slot; stream = stream } ∷ [] }) (f : w.caller ≡ fresh_caller r slot stream) (names : Tells w.names [] [])
    (slot_is : slot ≡ length ws % h.opening.limits.slots) (stream_is : stream ≡ length ws) where
  abbrev a : Assignment
  a = record { slot = slot; stream = stream }

  roll_is : r'.roll ≡ r.roll ++ a ∷ []
  roll_is = ap (λ (x : RootToken). x.roll) e

  new : IsNew h r'.roll (length ws) w
  new = record {
    free = fresh_free h r slot stream w.caller (record { table = m.table; opening = m.opening }) f;
    number = ap (λ (c : Token). c.number) f ∙ m.all;
    seen = ap (λ (c : Token). c.seen) f;
    roll = subst (IsPrefix w.caller.roll) (ap (λ (c : Token). c.roll) f ∙ sym roll_is) (prefix_self w.caller.roll);
    many =
        let n = length-append r.roll (a ∷ []) in
        let k : length w.caller.roll ≡ length (r.roll ++ a ∷ []) = ap (λ (c : Token). length c.roll) f in
        let all = m.all in omega (arith, n, k, all);
    names = names;
  }

  pub made_more : AreMade h r' (ws ++ w ∷ [])
  made_more = record {
    table = ap (λ (x : RootToken). x.table) e ∙ m.table;
    opening = ap (λ (x : RootToken). x.opening) e ∙ m.opening;
    all =
        let b : length r'.roll ≡ length r.roll + 1 = ap (λ (x : RootToken). length x.roll) e ∙ length-append r.roll (a ∷ []) in
        let g = length-append ws (w ∷ []) in
        let all = m.all in omega (arith, all, b, g);
    in_turn = subst (AreInTurn h.opening.limits) (sym roll_is) (turn_more h.opening.limits r.roll a m.in_turn (slot_is ∙ ap (λ (n : ℕ). n % h.opening.limits.slots) (sym m.all)) (stream_is ∙ sym m.all));
    none_joined = ap (λ (x : RootToken). x.joined) e ∙ m.none_joined;
    none_seen = ap (λ (x : RootToken). x.seen) e ∙ m.none_seen;
    each = λ t d l.
        let g = length-append ws (w ∷ []) in
        get_last ws w t d (omega (arith, g, l)) (λ i v. IsNew h r'.roll i v)
        (λ i v k.
        let x = m.each i v k in
        record {
          free = x.free;
          number = x.number;
          seen = x.seen;
          roll = subst (IsPrefix (get_or ws i v).caller.roll) (sym roll_is) (prefix_more (get_or ws i v).caller.roll r.roll (a ∷ []) x.roll);
          many = x.many;
          names = x.names;
        })
        new;
  }

pub made_none : (h : HeapToken) (r : RootToken) → r.table ≡ h.table → r.opening ≡ h.opening → r.roll ≡ [] → r.joined ≡ [] → r.seen ≡ [] → AreMade h r []
made_none h r table opening roll joined seen = record {
  table = table;
  opening = opening;
  all = ap length roll;
  in_turn = λ t l. let e : length r.roll ≡ 0 = ap length roll in absurd (omega (arith, e, l));
  none_joined = joined;
  none_seen = seen;
  each = λ t d l. absurd (omega (arith, l));
}

---- The first meeting

same_prefix : {A : Type 0} (xs ys : List A) → IsPrefix xs ys → length xs ≡ length ys → xs ≡ ys
same_prefix xs ys p n = sym (append-nil xs) ∙ (ap (λ l. xs ++ l) (sym (none p.0 refl)) ∙ p.1)
  where
    none : (zs : List _) → zs ≡ p.0 → zs ≡ []
    none [] e = refl
    none (z ∷ zs) e =
        let a = ap length p.1 in
        let b = length-append xs p.0 in
        let c : suc (length zs) ≡ length p.0 = ap length e in
        absurd (omega (arith, a, b, c, n))

module _ (h : HeapToken) (r : RootToken) (ws ws' : List Worker) (m : AreMade h r ws) (many : length ws' ≡ length ws)
    (keeps : (t : ℕ) (d : Worker) → t < length ws → Keeps h (get_or ws t d) (get_or ws' t d)) (met : 0 < length ws → HaveAllMet ws ws') where
  -- the last one that was made knows of all
  all_known : (n : ℕ) (d : Worker) → length ws ≡ n + 1 → (get_or ws n d).caller.roll ≡ r.roll
  all_known n d e =
      let x = m.each n d (omega (arith, e)) in
      let all = m.all in
      let k = x.many in
      same_prefix (get_or ws n d).caller.roll r.roll x.roll (omega (arith, all, e, k))

  knows : (t : ℕ) (d : Worker) → t < length ws → IsPrefix r.roll (get_or ws' t d).caller.roll
  knows t d l = go (length ws) refl
    where
      go : (n : ℕ) → length ws ≡ n → IsPrefix r.roll (get_or ws' t d).caller.roll
      go zero e = absurd (omega (arith, e, l))
      go (suc n) e =
          let x = met (omega (arith, l)) in
          let i : n < length ws = omega (arith, e) in
          prefix_trans r.roll x.middle.caller.roll (get_or ws' t d).caller.roll
          (subst (λ (roll : List Assignment). IsPrefix roll x.middle.caller.roll) (all_known n d (omega (arith, e))) (x.told n d i).roll) (x.heard t d l).roll

  pub first_abreast : AreAbreast r.roll [] ws'
  first_abreast t d l =
      let i : t < length ws = omega (arith, l, many) in
      let k = keeps t d i in
      let x = m.each t d i in
      record {
        number = k.number ∙ x.number;
        knows = knows t d i;
        seen = ((get_or ws' t d).caller.seen, refl);
        own = subst (λ (n : ℕ). own n (get_or ws' t d).caller.seen ≡ own n (get_or ws t d).caller.seen) x.number k.own ∙ ap (own t) x.seen;
      }

  pub first_told : AreTold [] [] ws'
  first_told t d l =
      let i : t < length ws = omega (arith, l, many) in
      subst (λ n. Tells n [] []) (sym (keeps t d i).names) (m.each t d i).names

  pub first_free : AreFree h ws'
  first_free t d l = (keeps t d (omega (arith, l, many))).free

pub made_free : (h : HeapToken) (r : RootToken) (ws : List Worker) → AreMade h r ws → AreFree h ws
made_free h r ws m t d l = (m.each t d l).free

---- One caller more has joined

at_middle : (xs : List Worker) (w : Worker) (ys : List Worker) (d : Worker) → get_or (xs ++ w ∷ ys) (length xs) d ≡ w
at_middle [] w ys d = refl
at_middle (x ∷ xs) w ys d = at_middle xs w ys d

inside : (xs : List Worker) (w : Worker) (ys : List Worker) → length xs < length (xs ++ w ∷ ys)
inside [] w ys = omega arith
inside (x ∷ xs) w ys = let l = inside xs w ys in omega (arith, l)

pub popped_length : (xs ys : List Worker) (w : Worker) → xs ≡ ys ++ w ∷ [] → length xs ≡ length ys + 1
popped_length xs ys w e = let a = ap length e in let b = length-append ys (w ∷ []) in omega (arith, a, b)

pub popped_all : (ws xs ys gone : List Worker) (w : Worker) → ws ≡ xs ++ gone → xs ≡ ys ++ w ∷ [] → ws ≡ ys ++ w ∷ gone
popped_all ws xs ys gone w e q = e ∙ (ap (λ (l : List Worker). l ++ gone) q ∙ append_assoc ys (w ∷ []) gone)

module _ (h : HeapToken) (ws : List Worker) (old : RootToken) (left : List Worker) (w : Worker) (gone : List Worker) (e : ws ≡ left ++ w ∷ gone) where
  place : length left < length ws
  place = subst (λ (l : List Worker). length left < length l) (sym e) (inside left w gone)

  is_there : (d : Worker) → get_or ws (length left) d ≡ w
  is_there d = ap (λ (l : List Worker). get_or l (length left) d) e ∙ at_middle left w gone d

  pub popped_free : AreFree h ws → IsFree h w
  popped_free free = subst (IsFree h) (is_there w) (free (length left) w place)

  pub join_more : AreOf h old ws → (n : ℕ) → n ≡ length left + 1 → (r r' : RootToken) → HaveJoinedFrom n ws old r → HasJoined r w.caller r' → HaveJoinedFrom (length left) ws old r'
  join_more of n n_is r r' j m = record {
    table = m.table ∙ j.table;
    opening = m.opening ∙ j.opening;
    roll = m.roll ∙ j.roll;
    joined = λ t from below. subst (λ (js : List ℕ). is_among t js ≡ true) (sym m.joined) (joined t from below (nat_lt k t) refl);
    only = λ t among. only t (w.caller.number == t) refl (subst (λ (js : List ℕ). is_among t js ≡ true) m.joined among);
    seen = λ t d from below. seen t d from below (nat_lt k t) refl;
    own = λ t d from below. owns t d from below (nat_lt k t) refl;
  }
    where
      k : ℕ
      k = length left

      number : w.caller.number ≡ length left
      number = ap (λ (v : Worker). v.caller.number) (sym (is_there w)) ∙ of.numbers (length left) w place

      or_right : (a b : Bool) → b ≡ true → (a || b) ≡ true
      or_right true b z = refl
      or_right false b z = z

      or_left : (a b : Bool) → a ≡ true → (a || b) ≡ true
      or_left true b z = refl
      or_left false b z = absurd (false≢true z)

      joined : (t : ℕ) → length left ≤ t → t < length ws → (b : Bool) → nat_lt (length left) t ≡ b → is_among t (w.caller.number ∷ r.joined) ≡ true
      joined t from below true q = let l = ltb-true (length left) t q in or_right (w.caller.number == t) (is_among t r.joined) (j.joined t (omega (arith, n_is, l)) below)
      joined t from below false q = let l = ltb-false (length left) t q in or_left (w.caller.number == t) (is_among t r.joined) (eq-eqb w.caller.number t (omega (arith, number, l, from)))

      only : (t : ℕ) (b : Bool) → (w.caller.number == t) ≡ b → (b || is_among t r.joined) ≡ true → (length left ≤ t) × (t < length ws)
      only t true q among = let z = eqb-true w.caller.number t q in let p = place in (omega (arith, number, z), omega (arith, number, z, p))
      only t false q among = let o = j.only t among in let a = o.0 in (omega (arith, n_is, a), o.1)

      same : (t : ℕ) → length left ≤ t → nat_lt (length left) t ≡ false → length left ≡ t
      same t from q = let l = ltb-false (length left) t q in omega (arith, l, from)

      seen : (t : ℕ) (d : Worker) → length left ≤ t → t < length ws → (b : Bool) → nat_lt (length left) t ≡ b → IsPrefix (get_or ws t d).caller.seen r'.seen
      seen t d from below true q = let l = ltb-true (length left) t q in prefix_trans (get_or ws t d).caller.seen r.seen r'.seen (j.seen t d (omega (arith, n_is, l)) below) m.seen
      seen t d from below false q = subst (λ (i : ℕ). IsPrefix (get_or ws i d).caller.seen r'.seen) (same t from q) (subst (λ (v : Worker). IsPrefix v.caller.seen r'.seen) (sym (is_there d)) m.theirs)

      owns : (t : ℕ) (d : Worker) → length left ≤ t → t < length ws → (b : Bool) → nat_lt (length left) t ≡ b → own t r'.seen ≡ own t (get_or ws t d).caller.seen
      owns t d from below true q = let l = ltb-true (length left) t q in m.kept t (j.joined t (omega (arith, n_is, l)) below) ∙ j.own t d (omega (arith, n_is, l)) below
      owns t d from below false q =
          subst (λ (i : ℕ). own i r'.seen ≡ own i (get_or ws i d).caller.seen) (same t from q)
          (subst (λ (v : Worker). own (length left) r'.seen ≡ own (length left) v.caller.seen) (sym (is_there d)) (subst (λ (i : ℕ). own i r'.seen ≡ own i w.caller.seen) number m.own))

pub joined_none : (ws : List Worker) (r : RootToken) → r.joined ≡ [] → HaveJoinedFrom (length ws) ws r r
joined_none ws r none = record {
  table = refl;
  opening = refl;
  roll = refl;
  joined = λ t from below. absurd (omega (arith, from, below));
  only = λ t among. absurd (false≢true (subst (λ (js : List ℕ). is_among t js ≡ true) none among));
  seen = λ t d from below. absurd (omega (arith, from, below));
  own = λ t d from below. absurd (omega (arith, from, below));
}

pub joined_pop : (ws : List Worker) (r : RootToken) → r.joined ≡ [] → (gone : List Worker) × (ws ≡ ws ++ gone) × HaveJoinedFrom (length ws) ws r r
joined_pop ws r none = ([], sym (append-nil ws), joined_none ws r none)
