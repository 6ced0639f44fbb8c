-- Words change by Stores alone; splitting a history at an own Load or Store.
use Rattle.std.proofs.Common.{◌≡◌, ℕ, zero, suc, ◌+◌, ◌-◌, ◌<◌, Bool, true, false, ◌&&◌, ◌||◌, not, cond, List, [], ◌∷◌, ◌++◌, length, refl, sym, ap, subst, ◌∙◌, inl, inr, arith, eqb}
use Rattle.std.specs.List.{list_any}
use Rattle.std.proofs.lemmas.Bool.{cases_Bool, and_parts, and_from, eqb-true, ne_eqb, eq-eqb, true≢false}
use Rattle.heap_model.specs.declared.Act.{Act}
use Rattle.heap_model.specs.declared.Act.TheVariants as acts
use Rattle.heap_model.specs.declared.Entry.{Entry}
use Rattle.heap_model.specs.declared.What.TheVariants as whats
use Rattle.heap_model.specs.State.{Setting}
use Rattle.heap_model.specs.CallState.{Configuration}
use Rattle.heap_model.specs.Legal.{may, may_follow, after}
use Rattle.heap_model.specs.History.{configuration_after, may_all_follow}
use Rattle.heap_model.specs.Moments.{moments, acts_of}
use Rattle.heap_model.specs.Shape.{copying, zeros}
use Rattle.heap_model.specs.Contents.{word_after, last_stored, is_store_to, is_stored_by_others}
use Rattle.heap_model.proofs.GateSound.{row_of}
use Rattle.call_laws.specs.Words.{WordsChangeByStores, OthersStay, CopiesKeep, ZeroesStay, is_of_word, word_acts, word_acts_of}

---- One entry

pub word_step : (s : Setting) (m : Configuration) (e : Entry) (word : ℕ) → (after s m e).state.words word ≡ word_after word (m.state.words word) e.act
word_step s m e word = go e.act
  where
    go : (act : Act) → (after s m (record { caller = e.caller; act = act })).state.words word ≡ word_after word (m.state.words word) act
    go (acts.Store w v) = refl
    go (acts.Blocked whats.Gate w) = refl
    go (acts.Blocked _ w) = refl
    go _ = refl

pub by_stores : WordsChangeByStores
by_stores s m [] word = refl
by_stores s m (e ∷ es) word = by_stores s (after s m e) es word ∙ ap (λ v. last_stored word v es) (word_step s m e word)

-- an act that does not store to the word leaves it
pub left_word : (word v : ℕ) (act : Act) → is_store_to word act ≡ false → word_after word v act ≡ v
left_word word v (acts.Store w value) h = rw h refl
left_word word v _ h = refl

---- The Loads and Stores of a caller

-- the own acts that pass
abbrev pub mine : (Act → Bool) → ℕ → List Entry → List Act
mine test c [] = []
mine test c (e ∷ es) = cond (eqb e.caller c && test e.act) (e.act ∷ mine test c es) (mine test c es)

pub mine_is : (s : Setting) (c : ℕ) (m : Configuration) (es : List Entry) → word_acts_of s c m es ≡ mine is_of_word c es
mine_is s c m [] = refl
mine_is s c m (e ∷ es) = go (eqb e.caller c) (mine_is s c (after s m e) es)
  where
    word : (b : Bool) (xs ys : List Act) → xs ≡ ys → cond b (e.act ∷ xs) xs ≡ cond b (e.act ∷ ys) ys
    word true xs ys h = ap (λ (l : List Act). e.act ∷ l) h
    word false xs ys h = h

    go : (b : Bool) → word_acts_of s c (after s m e) es ≡ mine is_of_word c es →
        word_acts (acts_of (cond b (record { before = m; act = e.act } ∷ moments s c (after s m e) es) (moments s c (after s m e) es))) ≡ cond (b && is_of_word e.act) (e.act ∷ mine is_of_word c es) (mine is_of_word c es)
    go true h = word (is_of_word e.act) (word_acts_of s c (after s m e) es) (mine is_of_word c es) h
    go false h = h

-- an act that is no Load or Store stores to no word
no_word : (word : ℕ) (act : Act) → is_of_word act ≡ false → is_store_to word act ≡ false
no_word word (acts.Store w v) h = absurd (true≢false h)
no_word word _ h = refl

or_parts : (a b : Bool) → (a || b) ≡ false → (a ≡ false) × (b ≡ false)
or_parts true b h = absurd (true≢false h)
or_parts false b h = (refl, h)

or_from : (a b : Bool) → a ≡ false → b ≡ false → (a || b) ≡ false
or_from a b h k = rw h k

-- an entry that does not store to the word
one_less : (c word : ℕ) (e : Entry) (es : List Entry) → list_any (is_store_to word) (mine is_of_word c (e ∷ es)) ≡ false → is_stored_by_others c word (e ∷ es) ≡ false →
    (is_store_to word e.act ≡ false) × (list_any (is_store_to word) (mine is_of_word c es) ≡ false) × (is_stored_by_others c word es ≡ false)
one_less c word e es h k =
    let q = or_parts (not (eqb e.caller c) && is_store_to word e.act) (is_stored_by_others c word es) k in
    elim (cases_Bool (eqb e.caller c)) [
      | inl x ↦ elim (cases_Bool (is_of_word e.act)) [
        | inl y ↦ let r = or_parts (is_store_to word e.act) (list_any (is_store_to word) (mine is_of_word c es)) (rw (x, y) at h) in (r.0, r.1, q.1)
        | inr y ↦ (no_word word e.act y, rw (x, y) at h, q.1)
      ]
      | inr x ↦ (rw x at q.0, rw x at h, q.1)
    ]

pub stays : (s : Setting) (c : ℕ) (m : Configuration) (es : List Entry) (word : ℕ) → list_any (is_store_to word) (mine is_of_word c es) ≡ false → is_stored_by_others c word es ≡ false →
    (configuration_after s m es).state.words word ≡ m.state.words word
stays s c m [] word h k = refl
stays s c m (e ∷ es) word h k =
    let p = one_less c word e es h k in
    stays s c (after s m e) es word p.1 p.2 ∙ (word_step s m e word ∙ left_word word (m.state.words word) e.act p.0)

pub others_stay : OthersStay
others_stay s c m es word h k = stays s c m es word (ap (list_any (is_store_to word)) (sym (mine_is s c m es)) ∙ h) k

---- A history split at an own act that passes

pub record IsSplit (test : Act → Bool) (c : ℕ) (es : List Entry) (xs : List Act) (y : Act) (ys : List Act) : Type 0 where
  pub first : List Entry
  pub entry : Entry
  pub later : List Entry
  pub is : es ≡ first ++ entry ∷ later
  pub caller : entry.caller ≡ c
  pub act : entry.act ≡ y
  pub before : mine test c first ≡ xs
  pub behind : mine test c later ≡ ys

-- .. behind one more entry, which is no own act that passes
skip : (test : Act → Bool) (c : ℕ) (e : Entry) (es : List Entry) (xs : List Act) (y : Act) (ys : List Act) → (eqb e.caller c && test e.act) ≡ false → IsSplit test c es xs y ys → IsSplit test c (e ∷ es) xs y ys
skip test c e es xs y ys b r = record {
  first = e ∷ r.first;
  entry = r.entry;
  later = r.later;
  is = ap (λ (l : List Entry). e ∷ l) r.is;
  caller = r.caller;
  act = r.act;
  before = ap (λ (t : Bool). cond t (e.act ∷ mine test c r.first) (mine test c r.first)) b ∙ r.before;
  behind = r.behind;
}

-- .. or which is
count : (test : Act → Bool) (c : ℕ) (e : Entry) (es : List Entry) (x : Act) (xs : List Act) (y : Act) (ys : List Act) → (eqb e.caller c && test e.act) ≡ true → e.act ≡ x → IsSplit test c es xs y ys → IsSplit test c (e ∷ es) (x ∷ xs) y ys
count test c e es x xs y ys b act r = record {
  first = e ∷ r.first;
  entry = r.entry;
  later = r.later;
  is = ap (λ (l : List Entry). e ∷ l) r.is;
  caller = r.caller;
  act = r.act;
  before = ap (λ (t : Bool). cond t (e.act ∷ mine test c r.first) (mine test c r.first)) b ∙ (λ i. act i ∷ r.before i);
  behind = r.behind;
}

pub split : (test : Act → Bool) (c : ℕ) (es : List Entry) (xs : List Act) (y : Act) (ys : List Act) → mine test c es ≡ xs ++ y ∷ ys → IsSplit test c es xs y ys
split test c [] [] y ys h = absurd (let z : ⊥ = cc in z)
split test c [] (x ∷ xs) y ys h = absurd (let z : ⊥ = cc in z)
split test c (e ∷ es) [] y ys h = elim (cases_Bool (eqb e.caller c && test e.act)) [
  | inl b ↦
      let k : e.act ∷ mine test c es ≡ y ∷ ys = (rw b at h) in
      let act : e.act ≡ y = cc in
      let rest : mine test c es ≡ ys = cc in
      record { first = []; entry = e; later = es; is = refl; caller = eqb-true e.caller c (and_parts (eqb e.caller c) (test e.act) b).0; act = act; before = refl; behind = rest }
  | inr b ↦ skip test c e es [] y ys b (split test c es [] y ys (rw b at h))
]
split test c (e ∷ es) (x ∷ xs) y ys h = elim (cases_Bool (eqb e.caller c && test e.act)) [
  | inl b ↦
      let k : e.act ∷ mine test c es ≡ x ∷ (xs ++ y ∷ ys) = (rw b at h) in
      let act : e.act ≡ x = cc in
      let rest : mine test c es ≡ xs ++ y ∷ ys = cc in
      count test c e es x xs y ys b act (split test c es xs y ys rest)
  | inr b ↦ skip test c e es (x ∷ xs) y ys b (split test c es (x ∷ xs) y ys (rw b at h))
]

---- What is copied

-- a list split at an index
pub record IsAt (xs : List ℕ) (i : ℕ) : Type 0 where
  pub first : List ℕ
  pub value : ℕ
  pub later : List ℕ
  pub is : xs ≡ first ++ value ∷ later
  pub index : length first ≡ i

pub at_index : (xs : List ℕ) (i : ℕ) → i < length xs → IsAt xs i
at_index [] i h = absurd (omega (arith, h))
at_index (x ∷ xs) zero h = record { first = []; value = x; later = xs; is = refl; index = refl }
at_index (x ∷ xs) (suc i) h =
    let r = at_index xs i (omega (arith, h)) in
    record { first = x ∷ r.first; value = r.value; later = r.later; is = ap (λ (l : List ℕ). x ∷ l) r.is; index = ap suc r.index }

pub copying-append : (from to : ℕ) (xs ys : List ℕ) → copying from to (xs ++ ys) ≡ copying from to xs ++ copying (from + length xs) (to + length xs) ys
copying-append from to [] ys = (λ i. let a : from ≡ from + 0 = omega arith in let b : to ≡ to + 0 = omega arith in copying (a i) (b i) ys)
copying-append from to (x ∷ xs) ys =
    ap (λ (l : List Act). acts.Load from x ∷ acts.Store to x ∷ l)
    (copying-append (from + 1) (to + 1) xs ys
    ∙ (λ i. let a : from + 1 + length xs ≡ from + length (x ∷ xs) = omega arith in let b : to + 1 + length xs ≡ to + length (x ∷ xs) = omega arith in
    copying (from + 1) (to + 1) xs ++ copying (a i) (b i) ys))

-- a copy stores to no word but its own
pub copy_misses : (from to : ℕ) (values : List ℕ) (word : ℕ) → ((j : ℕ) → j < length values → to + j ≡ word → ⊥) → list_any (is_store_to word) (copying from to values) ≡ false
copy_misses from to [] word h = refl
copy_misses from to (v ∷ vs) word h =
    let e : eqb word to ≡ false = ne_eqb word to (λ q. h 0 (omega arith) (omega (arith, q))) in
    rw e (copy_misses (from + 1) (to + 1) vs word (λ j l q. h (suc j) (omega (arith, l)) (omega (arith, q))))

append_assoc3 : (xs : List Act) (y z : Act) (ys zs : List Act) → (xs ++ y ∷ z ∷ ys) ++ zs ≡ xs ++ y ∷ ([] ++ z ∷ (ys ++ zs))
append_assoc3 [] y z ys zs = refl
append_assoc3 (x ∷ xs) y z ys zs = ap (λ (l : List Act). x ∷ l) (append_assoc3 xs y z ys zs)

others-append : (c word : ℕ) (xs ys : List Entry) → is_stored_by_others c word (xs ++ ys) ≡ false → (is_stored_by_others c word xs ≡ false) × (is_stored_by_others c word ys ≡ false)
others-append c word [] ys h = (refl, h)
others-append c word (x ∷ xs) ys h =
    let p = or_parts (not (eqb x.caller c) && is_store_to word x.act) (is_stored_by_others c word (xs ++ ys)) h in
    let r = others-append c word xs ys p.1 in
    (or_from (not (eqb x.caller c) && is_store_to word x.act) (is_stored_by_others c word xs) p.0 r.0, r.1)

any-append-false : (t : Act → Bool) (xs ys : List Act) → list_any t xs ≡ false → list_any t ys ≡ false → list_any t (xs ++ ys) ≡ false
any-append-false t [] ys h k = k
any-append-false t (x ∷ xs) ys h k = let p = or_parts (t x) (list_any t xs) h in or_from (t x) (list_any t (xs ++ ys)) p.0 (any-append-false t xs ys p.1 k)

configuration-append : (s : Setting) (m : Configuration) (es fs : List Entry) → configuration_after s m (es ++ fs) ≡ configuration_after s (configuration_after s m es) fs
configuration-append s m [] fs = refl
configuration-append s m (e ∷ es) fs = configuration-append s (after s m e) es fs

pub legal_parts : (s : Setting) (m : Configuration) (es fs : List Entry) → may_all_follow s m (es ++ fs) ≡ true → (may_all_follow s m es ≡ true) × (may_all_follow s (configuration_after s m es) fs ≡ true)
legal_parts s m [] fs h = (refl, h)
legal_parts s m (e ∷ es) fs h =
    let p = and_parts (may_follow s m e) (may_all_follow s (after s m e) (es ++ fs)) h in
    let r = legal_parts s (after s m e) es fs p.1 in
    (and_from (may_follow s m e) (may_all_follow s (after s m e) es) p.0 r.0, r.1)

-- a legal Load tells the word
pub load_tells : (s : Setting) (m : Configuration) (e : Entry) (word v : ℕ) → e.act ≡ acts.Load word v → may_follow s m e ≡ true → m.state.words word ≡ v
load_tells s m e word v is l =
    let r : may s m e.caller (acts.Load word v) ≡ true = subst (λ (act : Act). may s m e.caller act ≡ true) is (row_of s m e l) in
    eqb-true (m.state.words word) v (and_parts _ _ (and_parts _ _ r).0).1

pub copies_keep : CopiesKeep
copies_keep s c m es from to values rest i legal own below apart none others_from others_to =
    let x = at_index values i below in
    let w : length x.first ≡ i = x.index in
    let list : mine is_of_word c es ≡ copying from to x.first ++ acts.Load (from + i) x.value ∷ ([] ++ acts.Store (to + i) x.value ∷ (copying (from + i + 1) (to + i + 1) x.later ++ rest)) =
    sym (mine_is s c m es) ∙ (own ∙ (ap (λ (vs : List ℕ). copying from to vs ++ rest) x.is
    ∙ (ap (λ (l : List Act). l ++ rest) (copying-append from to x.first (x.value ∷ x.later))
    ∙ (ap (λ (k : ℕ). (copying from to x.first ++ copying (from + k) (to + k) (x.value ∷ x.later)) ++ rest) w
    ∙ append_assoc3 (copying from to x.first) (acts.Load (from + i) x.value) (acts.Store (to + i) x.value) (copying (from + i + 1) (to + i + 1) x.later) rest)))) in
    let a = split is_of_word c es (copying from to x.first) (acts.Load (from + i) x.value) ([] ++ acts.Store (to + i) x.value ∷ (copying (from + i + 1) (to + i + 1) x.later ++ rest)) list in
    let b = split is_of_word c a.later [] (acts.Store (to + i) x.value) (copying (from + i + 1) (to + i + 1) x.later ++ rest) a.behind in
    let k1 = configuration_after s m a.first in
    let all : may_all_follow s m (a.first ++ a.entry ∷ a.later) ≡ true = subst (λ (l : List Entry). may_all_follow s m l ≡ true) a.is legal in
    let p = legal_parts s m a.first (a.entry ∷ a.later) all in
    let q = and_parts (may_follow s k1 a.entry) (may_all_follow s (after s k1 a.entry) a.later) p.1 in
    let of = others-append c (from + i) a.first (a.entry ∷ a.later) (subst (λ (l : List Entry). is_stored_by_others c (from + i) l ≡ false) a.is others_from) in
    let ot = others-append c (to + i) a.first (a.entry ∷ a.later) (subst (λ (l : List Entry). is_stored_by_others c (to + i) l ≡ false) a.is others_to) in
    let ot2 = (or_parts (not (eqb a.entry.caller c) && is_store_to (to + i) a.entry.act) (is_stored_by_others c (to + i) a.later) ot.1).1 in
    let ot3 = others-append c (to + i) b.first (b.entry ∷ b.later) (subst (λ (l : List Entry). is_stored_by_others c (to + i) l ≡ false) b.is ot2) in
    let ot4 = (or_parts (not (eqb b.entry.caller c) && is_store_to (to + i) b.entry.act) (is_stored_by_others c (to + i) b.later) ot3.1).1 in
    -- up to the Load the word is as it was
    let first_misses : list_any (is_store_to (from + i)) (mine is_of_word c a.first) ≡ false =
    ap (list_any (is_store_to (from + i))) a.before ∙ copy_misses from to x.first (from + i) (λ j l e. apart j (subst (λ (n : ℕ). j < n) w l) e) in
    let before : k1.state.words (from + i) ≡ m.state.words (from + i) = stays s c m a.first (from + i) first_misses of.0 in
    let loaded : k1.state.words (from + i) ≡ x.value = load_tells s k1 a.entry (from + i) x.value a.act q.0 in
    -- behind the Store the other one is what was stored
    let k2 = configuration_after s (after s k1 a.entry) b.first in
    let stored : (after s k2 b.entry).state.words (to + i) ≡ x.value =
    word_step s k2 b.entry (to + i) ∙ (ap (word_after (to + i) (k2.state.words (to + i))) b.act ∙ (let z = eq-eqb (to + i) (to + i) refl in rw z refl)) in
    let later_misses : list_any (is_store_to (to + i)) (mine is_of_word c b.later) ≡ false =
    ap (list_any (is_store_to (to + i))) b.behind
    ∙ any-append-false (is_store_to (to + i)) (copying (from + i + 1) (to + i + 1) x.later) rest (copy_misses (from + i + 1) (to + i + 1) x.later (to + i) (λ j l e. omega (arith, e))) none in
    let end = stays s c (after s k2 b.entry) b.later (to + i) later_misses ot4 in
    let to_end : configuration_after s m es ≡ configuration_after s (after s k2 b.entry) b.later =
    ap (configuration_after s m) a.is ∙ (configuration-append s m a.first (a.entry ∷ a.later)
    ∙ (ap (configuration_after s (after s k1 a.entry)) b.is ∙ configuration-append s (after s k1 a.entry) b.first (b.entry ∷ b.later))) in
    ap (λ (k : Configuration). k.state.words (to + i)) to_end ∙ (end ∙ (stored ∙ (sym loaded ∙ before)))

---- What is zeroed

pub zeros_at : (word count i : ℕ) → i < count → zeros true word count ≡ zeros true word i ++ acts.Store (word + i) 0 ∷ zeros true (word + i + 1) (count - (i + 1))
zeros_at word zero i h = absurd (omega (arith, h))
zeros_at word (suc n) zero h = λ k.
    let a : word ≡ word + 0 = omega arith in
    let b : word + 1 ≡ word + 0 + 1 = omega arith in
    let d : n ≡ suc n - (0 + 1) = omega arith in
    acts.Store (a k) 0 ∷ zeros true (b k) (d k)
zeros_at word (suc n) (suc i) h =
    ap (λ (l : List Act). acts.Store word 0 ∷ l)
    (zeros_at (word + 1) n i (omega (arith, h))
    ∙ (λ k.
    let a : word + 1 + i ≡ word + suc i = omega arith in
    let b : word + 1 + i + 1 ≡ word + suc i + 1 = omega arith in
    let d : n - (i + 1) ≡ suc n - (suc i + 1) = omega arith in
    zeros true (word + 1) i ++ acts.Store (a k) 0 ∷ zeros true (b k) (d k)))

-- zeroes are stored to no word below the first
pub zeros_miss : (zero_it : Bool) (word count below : ℕ) → below < word → list_any (is_store_to below) (zeros zero_it word count) ≡ false
zeros_miss false word count below h = refl
zeros_miss true word zero below h = refl
zeros_miss true word (suc n) below h =
    let e : eqb below word ≡ false = ne_eqb below word (λ q. omega (arith, h, q)) in
    rw e (zeros_miss true (word + 1) n below (omega (arith, h)))

append_again : (xs ys zs : List Act) → xs ++ (ys ++ zs) ≡ (xs ++ ys) ++ zs
append_again [] ys zs = refl
append_again (x ∷ xs) ys zs = ap (λ (l : List Act). x ∷ l) (append_again xs ys zs)

pub zeroes_stay : ZeroesStay
zeroes_stay s c m es first word count i own below others =
    let a = split is_of_word c es (first ++ zeros true word i) (acts.Store (word + i) 0) (zeros true (word + i + 1) (count - (i + 1)))
    (sym (mine_is s c m es) ∙ (own ∙ (ap (λ (l : List Act). first ++ l) (zeros_at word count i below) ∙ append_again first (zeros true word i) (acts.Store (word + i) 0 ∷ zeros true (word + i + 1) (count - (i + 1)))))) in
    let k1 = configuration_after s m a.first in
    let o = others-append c (word + i) a.first (a.entry ∷ a.later) (subst (λ (l : List Entry). is_stored_by_others c (word + i) l ≡ false) a.is others) in
    let o2 = (or_parts (not (eqb a.entry.caller c) && is_store_to (word + i) a.entry.act) (is_stored_by_others c (word + i) a.later) o.1).1 in
    let misses : list_any (is_store_to (word + i)) (mine is_of_word c a.later) ≡ false = ap (list_any (is_store_to (word + i))) a.behind ∙ zeros_miss true (word + i + 1) (count - (i + 1)) (word + i) (omega arith) in
    let stored : (after s k1 a.entry).state.words (word + i) ≡ 0 =
    word_step s k1 a.entry (word + i) ∙ (ap (word_after (word + i) (k1.state.words (word + i))) a.act ∙ (let z = eq-eqb (word + i) (word + i) refl in rw z refl)) in
    ap (λ (k : Configuration). k.state.words (word + i)) (ap (configuration_after s m) a.is ∙ configuration-append s m a.first (a.entry ∷ a.later))
    ∙ (stays s c (after s k1 a.entry) a.later (word + i) misses o2 ∙ stored)
