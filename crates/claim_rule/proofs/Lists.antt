-- Lists of entries: appending, beginnings, and what the others' entries leave.
use Rattle.std.proofs.Common.{◌≡◌, ◌≢◌, ℕ, zero, suc, ◌+◌, ◌<◌, ◌≤◌, Bool, true, false, ◌==◌, cond, List, [], ◌∷◌, ◌++◌, length, refl, sym, ap, ◌∙◌, arith, append_assoc, length-append, ne_eqb, eq-eqb}
use Rattle.std.specs.Prelude.{nat_lt}
use Rattle.std.proofs.lemmas.List.{append-nil}
use Rattle.std.proofs.lemmas.Bool.{and_parts, and_from, eqb-true, lt-ltb, ltb-true, ltb-false}
use mathlib.Core.List.{IsPrefix}
use Rattle.heap_model.specs.declared.Entry.{Entry}
use Rattle.heap_model.specs.State.{Setting}
use Rattle.heap_model.specs.CallState.{Configuration, Demand, Nothing}
use Rattle.heap_model.specs.Legal.{may_follow, after}
use Rattle.heap_model.specs.History.{configuration_after, configuration_of, first_configuration, may_all_follow, is_nothing, is_legal, own}
use Rattle.claim_rule.specs.declared.views.Assignment.{Assignment}
use Rattle.heap_model.specs.declared.Opening.{Opening}
use Rattle.claim_rule.specs.Entries.{slot_at, stream_at, IsSettingOf, is_by, is_named}
use Rattle.claim_rule.specs.Rule.{longer}

---- Beginnings

pub prefix_self : {A : Type 0} (xs : List A) → IsPrefix xs xs
prefix_self xs = ([], append-nil xs)

pub prefix_nil : {A : Type 0} (xs : List A) → IsPrefix [] xs
prefix_nil xs = (xs, refl)

pub prefix_more : {A : Type 0} (xs ys zs : List A) → IsPrefix xs ys → IsPrefix xs (ys ++ zs)
prefix_more xs ys zs p = (p.0 ++ zs, sym (append_assoc xs p.0 zs) ∙ ap (λ w. w ++ zs) p.1)

pub prefix_trans : {A : Type 0} (xs ys zs : List A) → IsPrefix xs ys → IsPrefix ys zs → IsPrefix xs zs
prefix_trans xs ys zs p q = (p.0 ++ q.0, sym (append_assoc xs p.0 q.0) ∙ (ap (λ w. w ++ q.0) p.1 ∙ q.1))

-- of two beginnings of one list the shorter begins the longer
pub prefix_shorter : {A : Type 0} (xs ys zs : List A) → IsPrefix xs zs → IsPrefix ys zs → length xs ≤ length ys → IsPrefix xs ys
prefix_shorter [] ys zs p q le = (ys, refl)
prefix_shorter (x ∷ xs) [] zs p q le = absurd (omega arith)
prefix_shorter (x ∷ xs) (y ∷ ys) [] p q le = absurd (cc (p.1))
prefix_shorter (x ∷ xs) (y ∷ ys) (z ∷ zs) p q le =
    let heads : x ≡ y = cc (p.1, q.1) in
    let rest = prefix_shorter xs ys zs (p.0, cc (p.1)) (q.0, cc (q.1)) (omega arith) in
    (rest.0, cc (heads, rest.1))

longer_prefix : {A : Type 0} (xs ys log : List A) → IsPrefix xs log → IsPrefix ys log → (b : Bool) → nat_lt (length xs) (length ys) ≡ b → IsPrefix (cond b ys xs) log × IsPrefix xs (cond b ys xs) × IsPrefix ys (cond b ys xs)
longer_prefix xs ys log p q true e = let l = ltb-true (length xs) (length ys) e in (q, prefix_shorter xs ys log p q (omega arith), prefix_self ys)
longer_prefix xs ys log p q false e = let l = ltb-false (length xs) (length ys) e in (p, prefix_self xs, prefix_shorter ys xs log q p (omega arith))

-- the longer of two beginnings of a list is one, and both begin it
pub longer_begins : {A : Type 0} (xs ys log : List A) → IsPrefix xs log → IsPrefix ys log → IsPrefix (longer xs ys) log × IsPrefix xs (longer xs ys) × IsPrefix ys (longer xs ys)
longer_begins xs ys log p q = longer_prefix xs ys log p q (nat_lt (length xs) (length ys)) refl

-- the longer of two is one of them
pub longer_one : {A : Type 0} (P : List A → Type 0) (xs ys : List A) → P xs → P ys → P (longer xs ys)
longer_one P xs ys p q = go (nat_lt (length xs) (length ys))
  where
    go : (b : Bool) → P (cond b ys xs)
    go true = q
    go false = p

---- Histories

pub after-append : (s : Setting) (m : Configuration) (xs ys : List Entry) → configuration_after s m (xs ++ ys) ≡ configuration_after s (configuration_after s m xs) ys
after-append s m [] ys = refl
after-append s m (x ∷ xs) ys = after-append s (after s m x) xs ys

pub follow_join : (s : Setting) (m : Configuration) (xs ys : List Entry) → may_all_follow s m xs ≡ true → may_all_follow s (configuration_after s m xs) ys ≡ true → may_all_follow s m (xs ++ ys) ≡ true
follow_join s m [] ys h k = k
follow_join s m (x ∷ xs) ys h k =
    let p = and_parts (may_follow s m x) (may_all_follow s (after s m x) xs) h in
    and_from (may_follow s m x) (may_all_follow s (after s m x) (xs ++ ys)) p.0 (follow_join s (after s m x) xs ys p.1 k)

pub follow_parts : (s : Setting) (m : Configuration) (xs ys : List Entry) → may_all_follow s m (xs ++ ys) ≡ true → (may_all_follow s m xs ≡ true) × (may_all_follow s (configuration_after s m xs) ys ≡ true)
follow_parts s m [] ys h = (refl, h)
follow_parts s m (x ∷ xs) ys h =
    let p = and_parts (may_follow s m x) (may_all_follow s (after s m x) (xs ++ ys)) h in
    let q = follow_parts s (after s m x) xs ys p.1 in
    (and_from (may_follow s m x) (may_all_follow s (after s m x) xs) p.0 q.0, q.1)

nothing_is : (d : Demand) → is_nothing d ≡ true → d ≡ Nothing
nothing_is Nothing h = refl
nothing_is (Rattle.heap_model.specs.CallState.SpanBy c n) h = absurd (cc (h))
nothing_is (Rattle.heap_model.specs.CallState.PlaceBy c x) h = absurd (cc (h))
nothing_is (Rattle.heap_model.specs.CallState.UnspanBy c n) h = absurd (cc (h))

pub legal_parts : (s : Setting) (es : List Entry) → is_legal s es ≡ true → (may_all_follow s first_configuration es ≡ true) × ((configuration_of s es).now.demand ≡ Nothing)
legal_parts s es h = let p = and_parts (may_all_follow s first_configuration es) (is_nothing (configuration_of s es).now.demand) h in (p.0, nothing_is (configuration_of s es).now.demand p.1)

pub legal_from : (s : Setting) (es : List Entry) → may_all_follow s first_configuration es ≡ true → (configuration_of s es).now.demand ≡ Nothing → is_legal s es ≡ true
legal_from s es h d = and_from (may_all_follow s first_configuration es) (is_nothing (configuration_of s es).now.demand) h (ap is_nothing d)

---- Own entries

own_step : (b : Bool) (e : Entry) (xs ys : List Entry) → cond b (e ∷ (xs ++ ys)) (xs ++ ys) ≡ cond b (e ∷ xs) xs ++ ys
own_step true e xs ys = refl
own_step false e xs ys = refl

pub own-append : (c : ℕ) (xs ys : List Entry) → own c (xs ++ ys) ≡ own c xs ++ own c ys
own-append c [] ys = refl
own-append c (x ∷ xs) ys = ap (λ (l : List Entry). cond (x.caller == c) (x ∷ l) l) (own-append c xs ys) ∙ own_step (x.caller == c) x (own c xs) (own c ys)

-- nothing was added
pub append_none : {A : Type 0} (xs ys : List A) → xs ++ ys ≡ xs → ys ≡ []
append_none [] ys h = h
append_none (x ∷ xs) ys h = append_none xs ys (cc (h))

-- what lies behind the part that n has seen is none of n's
pub none_between : (n : ℕ) (log seen : List Entry) (p : IsPrefix seen log) → own n log ≡ own n seen → own n p.0 ≡ []
none_between n log seen p o = append_none (own n seen) (own n p.0) (sym (ap (own n) (sym p.1) ∙ own-append n seen p.0) ∙ o)

-- where a caller has no entry behind a beginning, it has none behind a longer one
pub own_between : (c : ℕ) (xs ys zs : List Entry) → IsPrefix xs ys → IsPrefix ys zs → own c zs ≡ own c xs → own c zs ≡ own c ys
own_between c xs ys zs p q h =
    let a : own c ys ≡ own c xs ++ own c p.0 = ap (own c) (sym p.1) ∙ own-append c xs p.0 in
    let b : own c zs ≡ own c ys ++ own c q.0 = ap (own c) (sym q.1) ∙ own-append c ys q.0 in
    let all : own c xs ++ (own c p.0 ++ own c q.0) ≡ own c xs = sym (append_assoc (own c xs) (own c p.0) (own c q.0)) ∙ (ap (λ w. w ++ own c q.0) (sym a) ∙ (sym b ∙ h)) in
    let none : own c p.0 ++ own c q.0 ≡ [] = append_none (own c xs) (own c p.0 ++ own c q.0) all in
    let first : own c p.0 ≡ [] = front_none (own c p.0) (own c q.0) none in
    h ∙ sym (a ∙ (ap (λ w. own c xs ++ w) first ∙ append-nil (own c xs)))
  where
    front_none : (l m : List Entry) → l ++ m ≡ [] → l ≡ []
    front_none [] m e = refl
    front_none (x ∷ l) m e = absurd (cc (e))

pub own_by_other : (m n : ℕ) (es : List Entry) → n ≢ m → is_by n es ≡ true → own m es ≡ []
own_by_other m n [] ne b = refl
own_by_other m n (e ∷ es) ne b =
    let p = and_parts (e.caller == n) (is_by n es) b in
    let c : e.caller ≡ n = eqb-true e.caller n p.0 in
    rw (ne_eqb e.caller m (λ h. ne (sym c ∙ h))) (own_by_other m n es ne p.1)

pub own_by : (n : ℕ) (es : List Entry) → is_by n es ≡ true → own n es ≡ es
own_by n [] b = refl
own_by n (e ∷ es) b = let p = and_parts (e.caller == n) (is_by n es) b in rw p.0 (ap (λ (l : List Entry). e ∷ l) (own_by n es p.1))

pub by-append : (n : ℕ) (xs ys : List Entry) → is_by n xs ≡ true → is_by n ys ≡ true → is_by n (xs ++ ys) ≡ true
by-append n [] ys h k = k
by-append n (x ∷ xs) ys h k = let p = and_parts (x.caller == n) (is_by n xs) h in and_from (x.caller == n) (is_by n (xs ++ ys)) p.0 (by-append n xs ys p.1 k)

pub named-append : (m : ℕ) (xs ys : List Entry) → is_named m xs ≡ true → is_named m ys ≡ true → is_named m (xs ++ ys) ≡ true
named-append m [] ys h k = k
named-append m (x ∷ xs) ys h k = let p = and_parts (nat_lt x.caller m) (is_named m xs) h in and_from (nat_lt x.caller m) (is_named m (xs ++ ys)) p.0 (named-append m xs ys p.1 k)

pub named_by : (m n : ℕ) (es : List Entry) → n < m → is_by n es ≡ true → is_named m es ≡ true
named_by m n [] lt b = refl
named_by m n (e ∷ es) lt b =
    let p = and_parts (e.caller == n) (is_by n es) b in
    let c : e.caller ≡ n = eqb-true e.caller n p.0 in
    let l : e.caller < m = omega arith in
    and_from (nat_lt e.caller m) (is_named m es) (lt-ltb e.caller m l) (named_by m n es lt p.1)

pub named_more : (m k : ℕ) (es : List Entry) → m ≤ k → is_named m es ≡ true → is_named k es ≡ true
named_more m k [] le h = refl
named_more m k (e ∷ es) le h =
    let p = and_parts (nat_lt e.caller m) (is_named m es) h in
    let l = ltb-true e.caller m p.0 in
    and_from (nat_lt e.caller k) (is_named k es) (lt-ltb e.caller k (omega arith)) (named_more m k es le p.1)

pub own_unnamed : (m c : ℕ) (es : List Entry) → m ≤ c → is_named m es ≡ true → own c es ≡ []
own_unnamed m c [] le h = refl
own_unnamed m c (e ∷ es) le h =
    let p = and_parts (nat_lt e.caller m) (is_named m es) h in
    let l = ltb-true e.caller m p.0 in
    rw (ne_eqb e.caller c (λ q. omega arith)) (own_unnamed m c es le p.1)

pub named_rest : (m : ℕ) (xs ys : List Entry) → is_named m (xs ++ ys) ≡ true → is_named m ys ≡ true
named_rest m [] ys h = h
named_rest m (x ∷ xs) ys h = named_rest m xs ys (and_parts (nat_lt x.caller m) (is_named m (xs ++ ys)) h).1

-- where nobody has an entry, there is none
pub none_at_all : (m : ℕ) (es : List Entry) → is_named m es ≡ true → ((n : ℕ) → n < m → own n es ≡ []) → es ≡ []
none_at_all m [] h f = refl
none_at_all m (e ∷ es) h f =
    let p = and_parts (nat_lt e.caller m) (is_named m es) h in
    let l = ltb-true e.caller m p.0 in
    let b : (e.caller == e.caller) ≡ true = eq-eqb e.caller e.caller refl in
    let g : cond (e.caller == e.caller) (e ∷ own e.caller es) (own e.caller es) ≡ [] = f e.caller l in
    absurd (cc (ap (λ (x : Bool). cond x (e ∷ own e.caller es) (own e.caller es)) (sym b) ∙ g))

---- Settings

pub slot_before : (xs ys : List Assignment) (c : ℕ) → c < length xs → slot_at (xs ++ ys) c ≡ slot_at xs c
slot_before [] ys c lt = absurd (omega arith)
slot_before (x ∷ xs) ys zero lt = refl
slot_before (x ∷ xs) ys (suc c) lt = slot_before xs ys c (omega arith)

pub stream_before : (xs ys : List Assignment) (c : ℕ) → c < length xs → stream_at (xs ++ ys) c ≡ stream_at xs c
stream_before [] ys c lt = absurd (omega arith)
stream_before (x ∷ xs) ys zero lt = refl
stream_before (x ∷ xs) ys (suc c) lt = stream_before xs ys c (omega arith)

-- a setting of more callers is one of fewer
pub setting_less : (o : Opening) (xs ys : List Assignment) (s : Setting) → IsPrefix xs ys → IsSettingOf o ys s → IsSettingOf o xs s
setting_less o xs ys s p h =
    let len : length ys ≡ length xs + length p.0 = sym (ap length p.1) ∙ length-append xs p.0 in
    record {
      limits = h.limits;
      seed = h.seed;
      slot = λ c lt. h.slot c (omega arith) ∙ (ap (λ (l : List Assignment). slot_at l c) (sym p.1) ∙ slot_before xs p.0 c lt);
      stream = λ c lt. h.stream c (omega arith) ∙ (ap (λ (l : List Assignment). stream_at l c) (sym p.1) ∙ stream_before xs p.0 c lt);
    }
