-- A subsegment that is read word by word.
use Rattle.std.proofs.Common.{◌≡◌, inl, inr, ℕ, ◌+◌, ◌/◌, ◌%◌, ◌<◌, ◌≤◌, ◌==◌, true, false, List, [], ◌∷◌, ◌++◌, refl, sym, ap, ◌∙◌, subst, arith, eq-eqb, ne_eqb, if◌then◌else◌, add-zero, mod-eq_of_lt}
use Rattle.std.proofs.lemmas.Bool.{cases_eq, cases_lt}
use Rattle.std.proofs.lemmas.Nat.{mod_below}
use Rattle.heap_model.specs.declared.Act.{Act}
use Rattle.heap_model.specs.Buckets.{words_in_use}
use Rattle.heap_model.specs.CallState.{Search}
use Rattle.heap_soundness.specs.Sound.{IsOneOf}
use Rattle.lfh_buckets.specs.Blocks.{IsBucket}
use Rattle.lfh_buckets.proofs.BlockLemmas.{few_blocks}
use Rattle.heap_gate.specs.Token.{Token}
use Rattle.lfh_claims.specs.Search.{own_slot}
use Rattle.lfh_search.specs.declared.course.Course.{Course}
use Rattle.lfh_search.specs.declared.reading.Reading.{Reading}
use Rattle.lfh_search.specs.declared.reading.Reading.TheVariants.{Claimed, Dry, Beaten}
use Rattle.lfh_search.specs.Acts.{AreReadings, losses, IsDry, AreDry}
use Rattle.lfh_search.specs.Standing.{key}
use Rattle.lfh_search.specs.Courses.{IsCourse}
use Rattle.lfh_search.specs.Results.{Searches, Went, IsPast, HasPlaced, IsBeaten}
use Rattle.lfh_search.specs.Readings.{AtWord, HasHint, IsDryWord, WordRead, CanRead, IsDried, SubsegmentRead}
use Rattle.lfh_search.proofs.Steps.{readings-append}
use Rattle.lfh_search.proofs.Words.{went_then, same_slot}
use Rattle.lfh_search.proofs.Placing.{placed_then}
use Rattle.lfh_search.proofs.WordLoop.{losses-append, in_back}

---- Words in use

pub in_use : (b : ℕ) → IsBucket b → (0 < words_in_use b) × (words_in_use b ≤ 4)
in_use b h = let n = few_blocks b h in let l = n.0 in let m = n.1 in (omega arith, omega arith)

by_four : (P : ℕ → Type 0) → P 1 → P 2 → P 3 → P 4 → (w : ℕ) → 0 < w → w ≤ 4 → P w
by_four P a b c d w l m = elim (cases_eq w 1) [
  | inl e ↦ subst P (sym e) a
  | inr n1 ↦ elim (cases_eq w 2) [
    | inl e ↦ subst P (sym e) b
    | inr n2 ↦ elim (cases_eq w 3) [
      | inl e ↦ subst P (sym e) c
      | inr n3 ↦ elim (cases_eq w 4) [
        | inl e ↦ subst P (sym e) d
        | inr n4 ↦ absurd (out n1 n2 n3 n4)
      ]
    ]
  ]
]
  where
    out : (w ≡ 1 → ⊥) → (w ≡ 2 → ⊥) → (w ≡ 3 → ⊥) → (w ≡ 4 → ⊥) → ⊥
    out n1 n2 n3 n4 = omega (arith, l, m, n1, n2, n3, n4)

abbrev Turns : ℕ → Type 0
Turns w = (n : ℕ) → n % w + 1 ≡ w → 0 ≡ (n + 1) % w

abbrev Counts : ℕ → Type 0
Counts w = (n : ℕ) → (n % w + 1 ≡ w → ⊥) → n % w + 1 ≡ (n + 1) % w

-- the next word, cyclically
pub next_word : (w n : ℕ) → 0 < w → w ≤ 4 → (if n % w + 1 == w then 0 else n % w + 1) ≡ (n + 1) % w
next_word w n l m = elim (cases_eq (n % w + 1) w) [
  | inl e ↦ let t : (n % w + 1 == w) ≡ true = eq-eqb (n % w + 1) w e in rw t (by_four Turns (λ n e. omega arith) (λ n e. omega arith) (λ n e. omega arith) (λ n e. omega arith) w l m n e)
  | inr e ↦ let t : (n % w + 1 == w) ≡ false = ne_eqb (n % w + 1) w e in rw t (by_four Counts (λ n e. omega (arith, e)) (λ n e. omega (arith, e)) (λ n e. omega (arith, e)) (λ n e. omega (arith, e)) w l m n e)
]

---- What was read stays read

pub in_front : {A : Type 0} (x : A) (xs ys : List A) → IsOneOf x xs → IsOneOf x (xs ++ ys)
in_front x [] ys i = absurd i
in_front x (y ∷ xs) ys (inl e) = inl e
in_front x (y ∷ xs) ys (inr i) = inr (in_front x xs ys i)

pub slot_on : (c e : Token) (its : List Act) → AreReadings its → Went c e its → (b d : ℕ) (f : Search) → Searches c b d f → own_slot e ≡ own_slot c
slot_on c e [] are w b d f h = ap own_slot w
slot_on c e (x ∷ its) are w b d f h = same_slot c e (x ∷ its) are w.0 b d f h

pub record Same (old c : Token) : Type 0 where
  pub table : c.table ≡ old.table
  pub opening : c.opening ≡ old.opening
  pub whole : c.whole ≡ true
  pub inside : c.inside ≡ true
  pub slot : own_slot c ≡ own_slot old

pub same_on : (old c e : Token) (its : List Act) → AreReadings its → Went c e its → (b d : ℕ) (f : Search) → Searches c b d f → Same old c → Same old e
same_on old c e [] are w b d f h s = subst (Same old) (sym w) s
same_on old c e (x ∷ its) are w b d f h s = record {
  table = w.0.does.table ∙ s.table;
  opening = w.0.does.opening ∙ s.opening;
  whole = w.1.whole;
  inside = w.1.inside ∙ s.inside;
  slot = slot_on c e (x ∷ its) are w b d f h ∙ s.slot;
}

---- Between words

-- k words are dry
pub record Goes (old c : Token) (course : Course) (f : Search) (head k lost so_far : ℕ) : Type 0 where
  pub its : List Act
  pub are : AreReadings its
  pub went : Went old c its
  pub past : IsPast c course.bucket course.draw.value f head k so_far
  pub few : so_far < 8
  pub count : lost + losses its ≡ so_far
  pub dry : AreDry (key course.bucket (own_slot old) course.draw.value) head k its
  pub hint : HasHint c

pub record IsBetweenWords (old c : Token) (course : Course) (head lost k so_far word : ℕ) : Type 0 where
  pub same : Same old c
  pub word_is : word ≡ (course.first + k) % words_in_use course.bucket
  pub goes : (f : Search) → CanRead old course f head lost → Goes old c course f head k lost so_far

mod_self : (m n : ℕ) → m < n → m % n ≡ m
mod_self m n l = mod-eq_of_lt l

pub begins : (c : Token) (course : Course) (head lost : ℕ) → IsCourse course → c.whole ≡ true → c.inside ≡ true → IsBetweenWords c c course head lost 0 lost course.first
begins c course head lost h w i = record {
  same = record { table = refl; opening = refl; whole = w; inside = i; slot = refl };
  word_is = first;
  goes = λ f can. record {
    its = [];
    are = tt;
    went = refl;
    past = record { more = λ _. can.at; all = λ e. absurd (let u = (in_use course.bucket h.bucket).0 in omega (arith, u, e)) };
    few = can.at.few;
    count = omega arith;
    dry = λ k l. absurd (omega arith);
    hint = can.hint;
  };
}
  where
    first : course.first ≡ (course.first + 0) % words_in_use course.bucket
    first =
        let u = in_use course.bucket h.bucket in
        let l = mod_below (course.draw.value / 64) (words_in_use course.bucket) u.0 in
        sym (ap (λ (n : ℕ). n % words_in_use course.bucket) (add-zero course.first) ∙ mod_self course.first (words_in_use course.bucket) (subst (λ (n : ℕ). n < words_in_use course.bucket) (sym h.first) l))

module _ (old c : Token) (course : Course) (f : Search) (head k lost so_far word : ℕ) (z : Goes old c course f head k lost so_far) (m : k < words_in_use course.bucket) (y : IsBetweenWords old c course head lost k so_far word) (h : IsCourse course) where
  abbrev b : ℕ
  b = course.bucket

  abbrev d : ℕ
  d = course.draw.value

  -- the next word comes
  pub at_word : AtWord c course f head word k so_far
  at_word = record { at = z.past.more m; word_is = y.word_is ∙ ap (λ (x : ℕ). (x + k) % words_in_use b) h.first; few = m; hint = z.hint }

  module _ (e : Token) where
    pub claimed : (i : ℕ) → HasPlaced c e b head i → HasPlaced old e b head i
    claimed i x = placed_then old c e b head i z.its z.are z.went y.same.slot x

    pub beaten : IsBeaten c e b d so_far → IsBeaten old e b d lost
    beaten x = record {
      its = z.its ++ x.its;
      are = readings-append z.its x.its z.are x.are;
      went = went_then old c e z.its x.its x.are z.went x.went;
      search = x.search;
      searching = x.searching;
      eight = x.eight;
      picked = x.picked;
      count = let p = losses-append z.its x.its in let q = z.count in let r = x.count in omega (arith, p, q, r);
    }

    pub goes_on : (more : ℕ) → IsDryWord c e b d f head k so_far more → Goes old e course f head (k + 1) lost more
    goes_on more x = record {
      its = z.its ++ x.its;
      are = readings-append z.its x.its z.are x.are;
      went = went_then old c e z.its x.its x.are z.went x.went;
      past = x.past;
      few = x.few;
      count = let p = losses-append z.its x.its in let q = z.count in let r = x.count in omega (arith, p, q, r);
      dry = λ j l. elim (cases_lt j k) [
        | inl j' ↦ let w = z.dry j j' in record { bits = w.bits; read = in_front _ z.its x.its w.read; none = w.none }
        | inr n ↦ last j (omega (arith, l, n))
      ];
      hint = x.hint;
    }
      where
        last : (j : ℕ) → j ≡ k → IsDry (key b (own_slot old) d) head j (z.its ++ x.its)
        last j q = subst (λ (i : ℕ). IsDry (key b (own_slot old) d) head i (z.its ++ x.its)) (sym q)
            (record { bits = x.dry.bits; read = in_back _ z.its x.its x.dry.read; none = x.dry.none })

-- all words are dry
pub dries : (old c : Token) (course : Course) (f : Search) (head k lost so_far : ℕ) → Goes old c course f head k lost so_far → k ≡ words_in_use course.bucket → IsDried old c course.bucket course.draw.value f head lost so_far
dries old c course f head k lost so_far z e = record {
  its = z.its;
  are = z.are;
  went = z.went;
  searching = z.past.all e;
  few = z.few;
  count = z.count;
  dry = subst (λ (n : ℕ). AreDry (key course.bucket (own_slot old) course.draw.value) head n z.its) e z.dry;
  hint = z.hint;
}

-- the loop goes on
pub next : (old c e : Token) (course : Course) (head lost k so_far word more word' : ℕ) (y : IsBetweenWords old c course head lost k so_far word) → IsCourse course → k < words_in_use course.bucket
    → ((f : Search) → AtWord c course f head word k so_far → IsDryWord c e course.bucket course.draw.value f head k so_far more) → (f : Search) → CanRead old course f head lost
    → word' ≡ (if word + 1 == course.words then 0 else word + 1) → IsBetweenWords old e course head lost (k + 1) more word'
next old c e course head lost k so_far word more word' y h m reads f can w = record {
  same = let x = reads f (at_word old c course f head k lost so_far word (y.goes f can) m y h) in same_on old c e x.its x.are x.went course.bucket course.draw.value (((y.goes f can).past.more m).search) (((y.goes f can).past.more m).searching) y.same;
  word_is =
      let u = in_use course.bucket h.bucket in
      w ∙ ((λ j. if y.word_is j + 1 == h.words j then 0 else y.word_is j + 1) ∙ (next_word (words_in_use course.bucket) (course.first + k) u.0 u.1 ∙ ap (λ (n : ℕ). n % words_in_use course.bucket) (let e' : course.first + k + 1 ≡ course.first + (k + 1) = omega arith in e')));
  goes = λ f' can'. goes_on old c course f' head k lost so_far word (y.goes f' can') m y h e more (reads f' (at_word old c course f' head k lost so_far word (y.goes f' can') m y h));
}

-- the word is one of those in use
pub word_below : (old c : Token) (course : Course) (head lost k so_far word : ℕ) → IsBetweenWords old c course head lost k so_far word → IsCourse course → (word < words_in_use course.bucket) × (word < 4)
word_below old c course head lost k so_far word y h =
    let u = in_use course.bucket h.bucket in
    let u1 = u.1 in
    let l : word < words_in_use course.bucket = subst (λ (n : ℕ). n < words_in_use course.bucket) (sym y.word_is) (mod_below (course.first + k) (words_in_use course.bucket) u.0) in
    (l, omega (arith, l, u1))

-- what else a word came to, the subsegment came to
pub others : (old c e : Token) (course : Course) (f : Search) (head k lost so_far word : ℕ) (y : IsBetweenWords old c course head lost k so_far word) → IsCourse course → k < words_in_use course.bucket → CanRead old course f head lost
    → (r : Reading) → ((more : ℕ) → r ≡ Dry more → ⊥) → (AtWord c course f head word k so_far → WordRead c e course f head k so_far r) → SubsegmentRead old e course f head lost r
others old c e course f head k lost so_far word y h m can (Claimed i) not reads = claimed old c course f head k lost so_far word (y.goes f can) m y h e i (reads (at_word old c course f head k lost so_far word (y.goes f can) m y h))
others old c e course f head k lost so_far word y h m can Beaten not reads = beaten old c course f head k lost so_far word (y.goes f can) m y h e (reads (at_word old c course f head k lost so_far word (y.goes f can) m y h))
others old c e course f head k lost so_far word y h m can (Dry more) not reads = absurd (not more refl)
