-- What is known of a search that reads a heap that nobody changes: the words behind it were dry, and the block that it has picked is free.
use Rattle.std.proofs.Common.{◌≡◌, ℕ, ◌+◌, ◌*◌, ◌%◌, ◌<◌, Bool, true, false, not, List, [], ◌∷◌, Option, Some, None, option_map, refl, sym, ap, ◌∙◌, subst, inl, inr, arith, eqb}
use Rattle.std.specs.Prelude.{filter}
use Rattle.std.specs.List.{list_any}
use Rattle.std.proofs.lemmas.Bool.{cases_Bool, cases_eq, false≢true, eqb-true, eqb-false}
use Rattle.heap_model.specs.Buckets.{words_in_use, valid_bits}
use Rattle.heap_model.specs.Bits.{bits_of, pick}
use Rattle.heap_model.specs.State.{Area, Span, Place}
use Rattle.heap_model.specs.CallState.{Stage, AtHint, Search}
use Rattle.heap_model.specs.Search.{SearchKey, first_word, next_span, last_read, span_at, spans_of, first_of, begins_at, is_read, after_reading, after_pick, has_not_begun}
use Rattle.heap_soundness.specs.Sound.{IsOneOf, AreInOrder}
use Rattle.search_laws.specs.Reading.{word_behind, picked_at}
use Rattle.search_laws.proofs.Passes.{found_there}

-- the first words that a search reads of a span show no free block
abbrev pub IsDry : List Place → SearchKey → Span → ℕ → Type 0
IsDry ps g x count = (k : ℕ) → k < count → picked_at ps g x k ≡ None

abbrev pub spans_by : Area → SearchKey → List Span
spans_by a g = spans_of a g.bucket g.slot

abbrev pub AllDry : Area → List Place → SearchKey → Type 0
AllDry a ps g = (x : Span) → IsOneOf x (spans_by a g) → IsDry ps g x (words_in_use g.bucket)

-- the block that was picked
pub record IsPicked (a : Area) (ps : List Place) (g : SearchKey) (f : Search) (i : ℕ) : Type 0 where
  pub span : Span
  pub there : IsOneOf span (spans_by a g)
  pub read : last_read f ≡ Some span.first
  pub behind : ℕ
  pub below : behind < words_in_use g.bucket
  pub shows : picked_at ps g span behind ≡ Some i
  pub going : f.ended ≡ false
  pub begun : has_not_begun f.stage ≡ false

abbrev pub rest_of : List ℕ → List ℕ
rest_of [] = []
rest_of (x ∷ xs) = xs

abbrev pub among : List ℕ → Span → Bool
among heads x = list_any (λ head. eqb head x.first) heads

pub record Seeks (a : Area) (ps : List Place) (g : SearchKey) (h : Option ℕ) (f : Search) : Type 0 where
  pub lost : f.lost ≡ 0
  pub picked : (i : ℕ) → f.picked ≡ Some i → IsPicked a ps g f i
  pub reads : (head : ℕ) → last_read f ≡ Some head → (x : Span) × IsOneOf x (spans_by a g) × (x.first ≡ head)
  pub hinted : f.stage ≡ AtHint → (head : ℕ) → last_read f ≡ Some head → h ≡ Some head
  pub here : (x : Span) → IsOneOf x (spans_by a g) → last_read f ≡ Some x.first → IsDry ps g x f.exhausted
  pub behind : (x : Span) → IsOneOf x (spans_by a g) → among (rest_of f.read) x ≡ true → IsDry ps g x (words_in_use g.bucket)
  pub over : f.ended ≡ true → (head : ℕ) → last_read f ≡ Some head → f.exhausted ≡ words_in_use g.bucket
  pub going : f.ended ≡ false → f.exhausted < words_in_use g.bucket

-- .. that has turned to a word of a span
pub record Onto (a : Area) (ps : List Place) (g : SearchKey) (h : Option ℕ) (f : Search) (head word : ℕ) : Type 0 where
  pub seeks : Seeks a ps g h f
  pub read : last_read f ≡ Some head
  pub going : f.ended ≡ false
  pub begun : has_not_begun f.stage ≡ false
  pub none : f.picked ≡ None
  pub word_is : word ≡ word_behind g f.exhausted

some_none : {A : Type 0} {o : Option A} (x : A) → o ≡ Some x → o ≡ None → ⊥
some_none x e f = let z : Some x ≡ None = sym e ∙ f in let bad : ⊥ = cc in bad

---- A span is begun

word_first : (g : SearchKey) → 0 < words_in_use g.bucket → first_word g ≡ word_behind g 0
word_first g some = sym (Rattle.search_laws.proofs.Words.word_behind_none g some)

module _ (a : Area) (ps : List Place) (g : SearchKey) (h : Option ℕ) (some : 0 < words_in_use g.bucket) where
  abbrev turned : Search → Stage → ℕ → List ℕ → Search
  turned f stage head heads = record f { stage = stage; read = head ∷ heads; exhausted = 0; ended = false }

  pub begins : (f : Search) (stage : Stage) (head word : ℕ) (heads : List ℕ) → f.lost ≡ 0 → f.picked ≡ None → word ≡ first_word g → has_not_begun stage ≡ false →
      ((x : Span) × IsOneOf x (spans_by a g) × (x.first ≡ head)) → (stage ≡ AtHint → h ≡ Some head) →
      ((x : Span) → IsOneOf x (spans_by a g) → among heads x ≡ true → IsDry ps g x (words_in_use g.bucket)) → Onto a ps g h (turned f stage head heads) head word
  begins f stage head word heads lost none first begun x hinted dry = record {
    seeks = record {
      lost = lost;
      picked = λ i e. absurd (some_none i e none);
      reads = λ y e. let same : head ≡ y = cc in (x.0, x.1, x.2 ∙ same);
      hinted = λ e y f. let same : head ≡ y = cc in hinted e ∙ ap Some same;
      here = λ y i e k l. absurd (omega (arith, l));
      behind = dry;
      over = λ e. absurd (false≢true e);
      going = λ e. some;
    };
    read = refl;
    going = refl;
    begun = begun;
    none = none;
    word_is = first ∙ word_first g some;
  }

  -- the spans that a search has read are dry
  pub read_dry : (f : Search) → Seeks a ps g h f → f.ended ≡ true → (x : Span) → IsOneOf x (spans_by a g) → among f.read x ≡ true → IsDry ps g x (words_in_use g.bucket)
  read_dry f k ended x i e = by_list f.read refl e
    where
      by_list : (heads : List ℕ) → f.read ≡ heads → among heads x ≡ true → IsDry ps g x (words_in_use g.bucket)
      by_list [] r e = absurd (false≢true e)
      by_list (head ∷ heads) r e = elim (cases_Bool (eqb head x.first)) [
        | inl t ↦
            let same = eqb-true head x.first t in
            let last : last_read f ≡ Some x.first = ap Rattle.heap_model.specs.Search.head_of r ∙ ap Some same in
            let z = k.over ended x.first last in
            subst (λ (n : ℕ). IsDry ps g x n) z (k.here x i last)
        | inr t ↦
            let more : among heads x ≡ true = (rw t at e) in
            k.behind x i (ap (λ (l : List ℕ). among (rest_of l) x) r ∙ more)
      ]

  pub first_in : (t : Span → Bool) (xs : List Span) (head : ℕ) → first_of (filter t xs) ≡ Some head → (x : Span) × IsOneOf x xs × (x.first ≡ head)
  first_in t [] head e = absurd (let z : ⊥ = cc in z)
  first_in t (x ∷ xs) head e = elim (cases_Bool (t x)) [
    | inl y ↦ let z : Some x.first ≡ Some head = (rw y at e) in let same : x.first ≡ head = cc in (x, inl refl, same)
    | inr y ↦ let r = first_in t xs head (rw y at e) in (r.0, inr r.1, r.2)
  ]

  pub any_in_list : (xs : List Span) (head : ℕ) → list_any (begins_at head) xs ≡ true → (x : Span) × IsOneOf x xs × (x.first ≡ head)
  any_in_list [] head e = absurd (false≢true e)
  any_in_list (x ∷ xs) head e = elim (cases_Bool (eqb x.first head)) [
    | inl t ↦ (x, inl refl, eqb-true x.first head t)
    | inr t ↦ let r = any_in_list xs head (rw t at e) in (r.0, inr r.1, r.2)
  ]

  -- where all are read, all are dry
  pub all_dry : (f : Search) → Seeks a ps g h f → f.ended ≡ true → next_span a g f ≡ None → AllDry a ps g
  all_dry f k ended e x i = read_dry f k ended x i (over (spans_by a g) x i e)
    where
      over : (xs : List Span) (x : Span) → IsOneOf x xs → first_of (filter (λ x. not (is_read f x)) xs) ≡ None → among f.read x ≡ true
      over [] x i e = absurd i
      over (y ∷ ys) x i e = elim (cases_Bool (is_read f y)) [
        | inr t ↦ absurd (let z : Some y.first ≡ None = (rw t at e) in let bad : ⊥ = cc in bad)
        | inl t ↦ elim i [ inl same ↦ subst (λ (z : Span). among f.read z ≡ true) same t | inr j ↦ over ys x j (rw t at e) ]
      ]

  ---- A word is read

  module _ (order : AreInOrder 0 a.spans) where
    kept_in : (t : Span → Bool) (xs : List Span) (x : Span) → IsOneOf x (filter t xs) → IsOneOf x xs
    kept_in t [] x i = i
    kept_in t (y ∷ ys) x i = elim (cases_Bool (t y)) [
      | inl e ↦ elim (rw e at i) [ inl s ↦ inl s | inr j ↦ inr (kept_in t ys x j) ]
      | inr e ↦ inr (kept_in t ys x (rw e at i))
    ]

    -- the span there is this one
    pub found_by : (x : Span) → IsOneOf x (spans_by a g) → span_at a x.first ≡ Some x
    found_by x i = found_there 0 a.spans x order (kept_in _ a.spans x i)

    pub shows_at : (f : Search) (head word : ℕ) (y : Span) → Onto a ps g h f head word → span_at a head ≡ Some y → Seeks a ps g h (after_reading g f word (bits_of ps y word))
    shows_at f head word y o at = by_pick (pick (bits_of ps y word) (valid_bits g.bucket word) (g.draw % 64)) refl
      where
        q : Seeks a ps g h f
        q = o.seeks

        same_span : (x : Span) → IsOneOf x (spans_by a g) → head ≡ x.first → y ≡ x
        same_span x i e =
            let z : Some y ≡ Some x = sym at ∙ ap (span_at a) e ∙ found_by x i in
            let same : y ≡ x = cc in
            same

        shown : (x : Span) → y ≡ x → (r : Option ℕ) → pick (bits_of ps y word) (valid_bits g.bucket word) (g.draw % 64) ≡ r → picked_at ps g x f.exhausted ≡ option_map (λ i. 64 * word + i) r
        shown x e r p =
            (λ i. option_map (λ j. 64 * sym o.word_is i + j) (pick (bits_of ps (sym e i) (sym o.word_is i)) (valid_bits g.bucket (sym o.word_is i)) (g.draw % 64))) ∙ ap (option_map (λ i. 64 * word + i)) p

        by_pick : (r : Option ℕ) → pick (bits_of ps y word) (valid_bits g.bucket word) (g.draw % 64) ≡ r → Seeks a ps g h (after_pick g f word r)
        by_pick (Some i) p =
            let x = q.reads head o.read in
            record {
              lost = q.lost;
              picked = λ j e.
                  let same : 64 * word + i ≡ j = cc in
                  record {
                    span = x.0;
                    there = x.1;
                    read = o.read ∙ ap Some (sym x.2);
                    behind = f.exhausted;
                    below = q.going o.going;
                    shows = shown x.0 (same_span x.0 x.1 (sym x.2)) (Some i) p ∙ ap Some same;
                    going = o.going;
                    begun = o.begun;
                  };
              reads = q.reads;
              hinted = q.hinted;
              here = q.here;
              behind = q.behind;
              over = q.over;
              going = q.going;
            }
        by_pick None p = record {
          lost = q.lost;
          picked = λ j e. absurd (some_none j e o.none);
          reads = q.reads;
          hinted = q.hinted;
          here = λ x i e k l.
              let z : Some head ≡ Some x.first = sym o.read ∙ e in
              let at_head : head ≡ x.first = cc in
              elim (cases_eq k f.exhausted) [
                | inl same ↦ subst (λ (j : ℕ). picked_at ps g x j ≡ None) (sym same) (shown x (same_span x i at_head) None p)
                | inr ne ↦ q.here x i e k (omega (arith, l, ne))
              ];
          behind = q.behind;
          over = λ e head r. eqb-true (f.exhausted + 1) (words_in_use g.bucket) e;
          going = λ e.
              let l = q.going o.going in
              let ne = eqb-false (f.exhausted + 1) (words_in_use g.bucket) e in
              omega (arith, l, ne);
        }
