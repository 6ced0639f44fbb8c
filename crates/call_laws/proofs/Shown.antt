-- The own acts that a shape shows, cut at one of them, and what they leave in the caller's hand.
use Rattle.std.proofs.Common.{◌≡◌, ℕ, ◌==◌, Bool, true, false, ◌&&◌, ◌||◌, not, cond, List, [], ◌∷◌, ◌++◌, refl, sym, ap, subst, ◌∙◌, inl, inr, eqb}
use Rattle.std.specs.List.{list_all, list_any}
use Rattle.std.proofs.lemmas.Bool.{cases_Bool, and_parts, eqb-true, eqb-false, false≢true, true≢false}
use Rattle.heap_model.specs.declared.Act.{Act}
use Rattle.heap_model.specs.declared.Act.TheVariants as acts
use Rattle.heap_model.specs.declared.Entry.{Entry}
use Rattle.heap_model.specs.declared.Layer.TheVariants as layers
use Rattle.heap_model.specs.declared.What.TheVariants as whats
use Rattle.heap_model.specs.State.{Setting, State, Place, IsValidSetting, in_hand, hands}
use Rattle.heap_model.specs.CallState.{Configuration, CallState}
use Rattle.heap_model.specs.Legal.{may, may_follow, after, state_after}
use Rattle.heap_model.specs.History.{configuration_after, may_all_follow}
use Rattle.heap_model.specs.Agreement.{AgreesFor}
use Rattle.heap_model.specs.Moments.{moments, acts_of}
use Rattle.heap_model.specs.Shape.{is_left_out, shape_of, shown}
use Rattle.heap_model.specs.Contents.{puts_back, up_to_last}
use Rattle.heap_model.proofs.GateSound.{row_of}
use Rattle.heap_model.proofs.Others.{act_other}
use Rattle.heap_soundness.specs.Sound.{IsOneOf}
use Rattle.heap_soundness.specs.Invariant.{Keeps}
use Rattle.heap_soundness.proofs.Kept.{keeps_after, keeps_through}
use Rattle.heap_soundness.proofs.Addresses.{in_parts}
use Rattle.call_laws.specs.Within.{by_caller}
use Rattle.call_laws.specs.Words.{is_of_word, word_acts}
use Rattle.call_laws.proofs.Within.{one_in, one_behind}
use Rattle.call_laws.proofs.Words.{mine, split, legal_parts}

abbrev pub is_shown : Act → Bool
is_shown act = not (is_left_out act)

pub shown_is : (s : Setting) (c : ℕ) (m : Configuration) (es : List Entry) → shown (moments s c m es) ≡ mine is_shown c es
shown_is s c m [] = refl
shown_is s c m (e ∷ es) = go (eqb e.caller c) (shown_is s c (after s m e) es)
  where
    word : (b : Bool) (xs ys : List Act) → xs ≡ ys → cond b xs (e.act ∷ xs) ≡ cond (not b) (e.act ∷ ys) ys
    word true xs ys h = h
    word false xs ys h = ap (λ (l : List Act). e.act ∷ l) h

    go : (b : Bool) → shown (moments s c (after s m e) es) ≡ mine is_shown c es →
        shape_of (acts_of (cond b (record { before = m; act = e.act } ∷ moments s c (after s m e) es) (moments s c (after s m e) es))) ≡ cond (b && is_shown e.act) (e.act ∷ mine is_shown c es) (mine is_shown c es)
    go true h = word (is_left_out e.act) (shown (moments s c (after s m e) es)) (mine is_shown c es) h
    go false h = h

word_is_shown : (act : Act) → is_of_word act ≡ true → is_left_out act ≡ false
word_is_shown (acts.Load word v) h = refl
word_is_shown (acts.Store word v) h = refl
word_is_shown _ h = absurd (false≢true h)

-- Loads and Stores are among what is shown
pub words_shown : (c : ℕ) (es : List Entry) → mine is_of_word c es ≡ word_acts (mine is_shown c es)
words_shown c [] = refl
words_shown c (e ∷ es) = elim (cases_Bool (eqb e.caller c)) [
  | inl x ↦ elim (cases_Bool (is_of_word e.act)) [
    | inl w ↦ let l = word_is_shown e.act w in rw (x, w, l) (rw w (ap (λ (z : List Act). e.act ∷ z) (words_shown c es)))
    | inr w ↦ elim (cases_Bool (is_left_out e.act)) [
      | inl l ↦ rw (x, w, l) (words_shown c es)
      | inr l ↦ rw (x, w, l) (rw w (words_shown c es))
    ]
  ]
  | inr x ↦ rw x (words_shown c es)
]

pub mine-append : (test : Act → Bool) (c : ℕ) (xs ys : List Entry) → mine test c (xs ++ ys) ≡ mine test c xs ++ mine test c ys
mine-append test c [] ys = refl
mine-append test c (e ∷ xs) ys = go (eqb e.caller c && test e.act) (mine-append test c xs ys)
  where
    go : (b : Bool) → mine test c (xs ++ ys) ≡ mine test c xs ++ mine test c ys → cond b (e.act ∷ mine test c (xs ++ ys)) (mine test c (xs ++ ys)) ≡ cond b (e.act ∷ mine test c xs) (mine test c xs) ++ mine test c ys
    go true h = ap (λ (z : List Act). e.act ∷ z) h
    go false h = h

---- The entries up to the last that passes

pub record IsFront (test : Entry → Bool) (es : List Entry) : Type 0 where
  pub rest : List Entry
  pub is : es ≡ up_to_last test es ++ rest
  pub none : list_any test rest ≡ false

pub front_of : (test : Entry → Bool) (es : List Entry) → IsFront test es
front_of test [] = record { rest = []; is = refl; none = refl }
front_of test (e ∷ es) = elim (cases_Bool (list_any test (e ∷ es))) [
  | inl h ↦
      let r = front_of test es in
      record { rest = r.rest; is = ap (λ (z : List Entry). e ∷ z) r.is ∙ ap (λ (b : Bool). cond b (e ∷ up_to_last test es) [] ++ r.rest) (sym h); none = r.none }
  | inr h ↦ record { rest = e ∷ es; is = ap (λ (b : Bool). cond b (e ∷ up_to_last test es) [] ++ (e ∷ es)) (sym h); none = h }
]

pub none_put_back : (c b n : ℕ) (es : List Entry) → list_any (λ e. e.caller == c && puts_back b n e.act) es ≡ false → list_any (puts_back b n) (mine is_shown c es) ≡ false
none_put_back c b n [] h = refl
none_put_back c b n (e ∷ es) h = elim (cases_Bool (eqb e.caller c)) [
  | inl x ↦ let k : (puts_back b n e.act || list_any (λ f. f.caller == c && puts_back b n f.act) es) ≡ false = rw x at h in own x (parts (puts_back b n e.act) _ k) (λ z. none_put_back c b n es z)
  | inr x ↦ rw x (none_put_back c b n es (rw x at h))
]
  where
    parts : (x y : Bool) → (x || y) ≡ false → (x ≡ false) × (y ≡ false)
    parts true y h = absurd (true≢false h)
    parts false y h = (refl, h)

    own : eqb e.caller c ≡ true → (puts_back b n e.act ≡ false) × (list_any (λ f. f.caller == c && puts_back b n f.act) es ≡ false) → (list_any (λ f. f.caller == c && puts_back b n f.act) es ≡ false → list_any (puts_back b n) (mine is_shown c es) ≡ false) →
        list_any (puts_back b n) (mine is_shown c (e ∷ es)) ≡ false
    own x p k = elim (cases_Bool (is_left_out e.act)) [
      | inl l ↦ rw (x, l) (k p.1)
      | inr l ↦ let p0 = p.0 in rw (x, l) (rw p0 (k p.1))
    ]

---- A history cut at an own act that is shown

pub record IsCut (c : ℕ) (es : List Entry) (xs : List Act) (y : Act) (ys : List Act) : Type 0 where
  pub first : List Entry
  pub later : List Entry
  pub is : es ≡ first ++ by_caller c y ∷ later
  pub before : mine is_shown c first ≡ xs
  pub behind : mine is_shown c later ≡ ys

pub cut : (c : ℕ) (es : List Entry) (xs : List Act) (y : Act) (ys : List Act) → mine is_shown c es ≡ xs ++ y ∷ ys → IsCut c es xs y ys
cut c es xs y ys h =
    let r = split is_shown c es xs y ys h in
    record {
      first = r.first;
      later = r.later;
      is = r.is ∙ (λ i. r.first ++ record { caller = r.caller i; act = r.act i } ∷ r.later);
      before = r.before;
      behind = r.behind;
    }

-- what is so where it is cut
pub record IsSoThere (s : Setting) (m : Configuration) (c : ℕ) (y : Act) (first later : List Entry) : Type 0 where
  pub front : may_all_follow s m first ≡ true
  pub sound : Keeps s (configuration_after s m first)
  pub row : may s (configuration_after s m first) c y ≡ true
  pub next : Keeps s (after s (configuration_after s m first) (by_caller c y))
  pub rest : may_all_follow s (after s (configuration_after s m first) (by_caller c y)) later ≡ true

pub there : (s : Setting) (m : Configuration) (c : ℕ) (y : Act) (es first later : List Entry) → IsValidSetting s → Keeps s m → may_all_follow s m es ≡ true → es ≡ first ++ by_caller c y ∷ later → IsSoThere s m c y first later
there s m c y es first later valid k legal is =
    let l = legal_parts s m first (by_caller c y ∷ later) (subst (λ (z : List Entry). may_all_follow s m z ≡ true) is legal) in
    let k1 = configuration_after s m first in
    let q = and_parts (may_follow s k1 (by_caller c y)) (may_all_follow s (after s k1 (by_caller c y)) later) l.1 in
    let sound = keeps_through s m first valid l.0 k in
    record { front = l.0; sound = sound; row = row_of s k1 (by_caller c y) q.0; next = keeps_after s k1 (by_caller c y) valid q.0 sound; rest = q.1 }

---- What stays in hand

abbrev pub is_harmless : Act → Bool
is_harmless (acts.Give a size) = false
is_harmless (acts.Take a size) = false
is_harmless (acts.Drop a) = false
is_harmless (acts.Resize a granules size) = false
is_harmless _ = true

pub wider : {A : Type 0} (p : A) (a b d e a' b' d' e' : List A) → (IsOneOf p a → IsOneOf p a') → (IsOneOf p b → IsOneOf p b') → (IsOneOf p d → IsOneOf p d') → (IsOneOf p e → IsOneOf p e') → IsOneOf p (a ++ b ++ d ++ e) → IsOneOf p (a' ++ b' ++ d' ++ e')
wider p a b d e a' b' d' e' f g h k i = elim (in_parts p (a ++ b ++ d) e i) [
  | inr j ↦ one_behind p (a' ++ b' ++ d') e' (k j)
  | inl j ↦ one_in p (a' ++ b' ++ d') e' (elim (in_parts p (a ++ b) d j) [
    | inr x ↦ one_behind p (a' ++ b') d' (h x)
    | inl x ↦ one_in p (a' ++ b') d' (elim (in_parts p a b x) [ inl y ↦ one_in p a' b' (f y) | inr y ↦ one_behind p a' b' (g y) ])
  ])
]

more : {A : Type 0} (p x : A) (b : Bool) (ps : List A) → IsOneOf p ps → IsOneOf p (cond b (x ∷ ps) ps)
more p x true ps i = inr i
more p x false ps i = i

pub own_hands : (st : State) (k : CallState) (c : ℕ) (act : Act) (p : Place) → is_harmless act ≡ true → IsOneOf p (hands st c) → IsOneOf p (hands (state_after st k c act) c)
own_hands st k c (acts.Place start granules layers.Lfh) p h i =
    wider p (in_hand c st.lfh) (in_hand c st.vs.places) (in_hand c st.back.places) (in_hand c st.large) _ (in_hand c st.vs.places) (in_hand c st.back.places) (in_hand c st.large) (more p _ (eqb c c) (in_hand c st.lfh)) (λ x. x) (λ x. x) (λ x. x) i
own_hands st k c (acts.Place start granules layers.Vs) p h i =
    wider p (in_hand c st.lfh) (in_hand c st.vs.places) (in_hand c st.back.places) (in_hand c st.large) (in_hand c st.lfh) _ (in_hand c st.back.places) (in_hand c st.large) (λ x. x) (more p _ (eqb c c) (in_hand c st.vs.places)) (λ x. x) (λ x. x) i
own_hands st k c (acts.Place start granules layers.Back) p h i =
    wider p (in_hand c st.lfh) (in_hand c st.vs.places) (in_hand c st.back.places) (in_hand c st.large) (in_hand c st.lfh) (in_hand c st.vs.places) _ (in_hand c st.large) (λ x. x) (λ x. x) (more p _ (eqb c c) (in_hand c st.back.places)) (λ x. x) i
own_hands st k c (acts.Place start granules layers.Large) p h i =
    wider p (in_hand c st.lfh) (in_hand c st.vs.places) (in_hand c st.back.places) (in_hand c st.large) (in_hand c st.lfh) (in_hand c st.vs.places) (in_hand c st.back.places) _ (λ x. x) (λ x. x) (λ x. x) (more p _ (eqb c c) (in_hand c st.large)) i
own_hands st k c (acts.Give a size) p h i = absurd (false≢true h)
own_hands st k c (acts.Take a size) p h i = absurd (false≢true h)
own_hands st k c (acts.Drop a) p h i = absurd (false≢true h)
own_hands st k c (acts.Resize a granules size) p h i = absurd (false≢true h)
own_hands st k c (acts.Blocked whats.Gate word) p h i = i
own_hands st k c (acts.Blocked _ word) p h i = i
own_hands st k c _ p h i = i

same_hands : (c : ℕ) (m k : Configuration) → AgreesFor c k m → hands k.state c ≡ hands m.state c
same_hands c m k a = λ i. a.hands layers.Lfh i ++ a.hands layers.Vs i ++ a.hands layers.Back i ++ a.hands layers.Large i

-- c does nothing to a place in its hand
abbrev pub LeavesHands : ℕ → List Entry → Type 0
LeavesHands c es = list_all (λ e. not (eqb e.caller c) || is_harmless e.act) es ≡ true

pub one_hand : (s : Setting) (m : Configuration) (c : ℕ) (act : Act) (p : Place) → is_harmless act ≡ true → IsOneOf p (hands m.state c) → IsOneOf p (hands (after s m (by_caller c act)).state c)
one_hand s m c act p h i = own_hands m.state (m.now.calls c) c act p h i

pub hand_stays : (s : Setting) (m : Configuration) (c : ℕ) (es : List Entry) (p : Place) → IsValidSetting s → Keeps s m → may_all_follow s m es ≡ true → LeavesHands c es → IsOneOf p (hands m.state c) → IsOneOf p (hands (configuration_after s m es).state c)
hand_stays s m c [] p valid k legal h i = i
hand_stays s m c (e ∷ es) p valid k legal h i =
    let l = and_parts (may_follow s m e) (may_all_follow s (after s m e) es) legal in
    let q = and_parts (not (eqb e.caller c) || is_harmless e.act) (list_all (λ e. not (eqb e.caller c) || is_harmless e.act) es) h in
    hand_stays s (after s m e) c es p valid (keeps_after s m e valid l.0 k) l.1 q.1
    (elim (cases_Bool (eqb e.caller c)) [
      | inl x ↦
          let same : e ≡ by_caller c e.act = (λ j. record { caller = eqb-true e.caller c x j; act = e.act }) in
          let z : is_harmless e.act ≡ true = rw x at q.0 in
          subst (λ (f : Entry). IsOneOf p (hands (after s m f).state c)) (sym same) (one_hand s m c e.act p z i)
      | inr x ↦
          let a = act_other s m e.caller c e.act (eqb-false e.caller c x) (row_of s m e l.0) k.gate in
          subst (IsOneOf p) (sym (same_hands c m (after s m e) a)) i
    ])

left_out_harmless : (act : Act) → is_left_out act ≡ true → is_harmless act ≡ true
left_out_harmless (acts.Give a size) h = absurd (false≢true h)
left_out_harmless (acts.Take a size) h = absurd (false≢true h)
left_out_harmless (acts.Drop a) h = absurd (false≢true h)
left_out_harmless (acts.Resize a granules size) h = absurd (false≢true h)
left_out_harmless _ h = refl

word_harmless : (act : Act) → is_of_word act ≡ true → is_harmless act ≡ true
word_harmless (acts.Load word v) h = refl
word_harmless (acts.Store word v) h = refl
word_harmless _ h = absurd (false≢true h)

-- a caller that only loads and stores
pub leaves_hands : (c : ℕ) (es : List Entry) → list_all is_of_word (mine is_shown c es) ≡ true → LeavesHands c es
leaves_hands c [] h = refl
leaves_hands c (e ∷ es) h = elim (cases_Bool (eqb e.caller c)) [
  | inl x ↦ elim (cases_Bool (is_left_out e.act)) [
    | inl l ↦ let z = left_out_harmless e.act l in rw (x, z) (leaves_hands c es (rw (x, l) at h))
    | inr l ↦
        let k : (is_of_word e.act && list_all is_of_word (mine is_shown c es)) ≡ true = rw (x, l) at h in
        let q = and_parts (is_of_word e.act) (list_all is_of_word (mine is_shown c es)) k in
        let z = word_harmless e.act q.0 in
        rw (x, z) (leaves_hands c es q.1)
  ]
  | inr x ↦ rw x (leaves_hands c es (rw x at h))
]
