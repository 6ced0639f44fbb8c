-- A pass over the spans of a bucket and a slot, in the order of their pages.
use Rattle.std.proofs.Common.{◌≡◌, ℕ, ◌+◌, ◌<◌, Bool, true, false, not, List, [], ◌∷◌, ◌++◌, Option, Some, None, option_map, is_some, refl, sym, ap, subst, ◌∙◌, arith, eqb, inl, inr, if◌then◌else◌}
use Rattle.std.specs.Prelude.{filter}
use Rattle.std.specs.Option.{option_or}
use Rattle.std.specs.List.{find, list_any, AllByRecursion}
use Rattle.std.proofs.lemmas.Bool.{cases_Bool, eq-eqb, ne_eqb, eqb-true}
use Rattle.heap_model.specs.declared.Act.{Act}
use Rattle.heap_model.specs.declared.What.TheVariants as whats
use Rattle.heap_model.specs.Buckets.{words_in_use}
use Rattle.heap_model.specs.State.{Area, State, Setting, Span, holds}
use Rattle.heap_model.specs.CallState.{Stage, NotBegun, AtHint, FirstPass, SecondPass, CallState, Configuration, Search, SpanHistory, CallerView, caller_view}
use Rattle.heap_model.specs.Search.{SearchKey, first_word, span_at, spans_of, first_of, next_span, head_of, may_see, onto_span, begins_at, is_spent}
use Rattle.heap_model.specs.Alone.{configuration_by}
use Rattle.heap_soundness.specs.Sound.{IsOneOf, AreInOrder}
use Rattle.heap_soundness.proofs.Lists.{found_in, found_passes, find_some}
use Rattle.heap_soundness.proofs.Spans.{above, same_first}
use Rattle.search_laws.specs.Reading.{Found, found_of, word_behind, block_found, reads_of, pass_found, pass_reads}
use Rattle.search_laws.specs.Laws.{search_of, OnlySearch, LeadsTo, IsSpent, PassGives}
use Rattle.search_laws.proofs.Steps.{leads_here, leads_on}
use Rattle.search_laws.proofs.Words.{at_words, view_with, key, Here, still_here, SpanGives, IsReading, span_is_read, word_behind_none}

---- Lists of spans in order

-- a span of a list in order is the one that begins at its page
pub found_there : (low : ℕ) (xs : List Span) (x : Span) → AreInOrder low xs → IsOneOf x xs → find (begins_at x.first) xs ≡ Some x
found_there low xs x a i =
    let r = find_some (begins_at x.first) xs x i (eq-eqb x.first x.first refl) in
    let same = same_first low xs r.0 x a (found_in (begins_at x.first) xs r.0 r.1) i (eqb-true r.0.first x.first (found_passes (begins_at x.first) xs r.0 r.1)) in
    r.1 ∙ ap Some same

none_there : (page low : ℕ) (xs : List Span) → page < low → AreInOrder low xs → filter (begins_at page) xs ≡ []
none_there page low [] l a = refl
none_there page low (x ∷ xs) l a =
    let n = ne_eqb x.first page (λ e. omega (arith, a.0, l, e)) in
    rw n (none_there page (x.first + x.pages) xs (omega (arith, a.0, l)) a.2)

-- .. and the only one
pub alone_there : (low : ℕ) (xs : List Span) (x : Span) → AreInOrder low xs → IsOneOf x xs → filter (begins_at x.first) xs ≡ x ∷ []
alone_there low [] x a i = absurd i
alone_there low (y ∷ ys) x a (inl e) = subst (λ (z : Span). filter (begins_at z.first) (y ∷ ys) ≡ z ∷ []) e here
  where
    here : filter (begins_at y.first) (y ∷ ys) ≡ y ∷ []
    here = let s = eq-eqb y.first y.first refl in rw s (ap (λ (zs : List Span). y ∷ zs) (none_there y.first (y.first + y.pages) ys (omega (arith, a.1)) a.2))
alone_there low (y ∷ ys) x a (inr i) =
    let behind = (above (y.first + y.pages) ys x a.2 i).0 in
    let n = ne_eqb y.first x.first (λ e. omega (arith, a.1, behind, e)) in
    rw n (alone_there (y.first + y.pages) ys x a.2 i)

---- The spans that are not read

abbrev pub is_unread : List ℕ → Span → Bool
is_unread read x = not (list_any (λ head. eqb head x.first) read)

pub none_read : (xs : List Span) → filter (is_unread []) xs ≡ xs
none_read [] = refl
none_read (x ∷ xs) = ap (λ (ys : List Span). x ∷ ys) (none_read xs)

one_read : (head : ℕ) (read : List ℕ) (xs : List Span) → filter (is_unread (head ∷ read)) xs ≡ filter (λ x. not (eqb head x.first)) (filter (is_unread read) xs)
one_read head read [] = refl
one_read head read (x ∷ xs) = elim (cases_Bool (list_any (λ h. eqb h x.first) read)) [
  | inr e ↦ rw e (elim (cases_Bool (eqb head x.first)) [
    | inl f ↦ rw f (one_read head read xs)
    | inr f ↦ rw f (ap (λ (ys : List Span). x ∷ ys) (one_read head read xs))
  ])
  | inl e ↦ rw e (elim (cases_Bool (eqb head x.first)) [ inl f ↦ rw f (one_read head read xs) | inr f ↦ rw f (one_read head read xs) ])
]

others_stay : (head low : ℕ) (xs : List Span) → head < low → AreInOrder low xs → filter (λ x. not (eqb head x.first)) xs ≡ xs
others_stay head low [] l a = refl
others_stay head low (x ∷ xs) l a =
    let n = ne_eqb head x.first (λ e. omega (arith, a.0, l, e)) in
    rw n (ap (λ (ys : List Span). x ∷ ys) (others_stay head (x.first + x.pages) xs (omega (arith, a.0, l)) a.2))

-- behind the first of those not read, the others are not read
next_unread : (low : ℕ) (read : List ℕ) (xs : List Span) (y : Span) (ys : List Span) → AreInOrder low (y ∷ ys) → filter (is_unread read) xs ≡ y ∷ ys → filter (is_unread (y.first ∷ read)) xs ≡ ys
next_unread low read xs y ys a e =
    let same = eq-eqb y.first y.first refl in
    let rest : filter (λ x. not (eqb y.first x.first)) (y ∷ ys) ≡ ys = rw same (others_stay y.first (y.first + y.pages) ys (omega (arith, a.1)) a.2) in
    one_read y.first read xs ∙ ap (filter (λ x. not (eqb y.first x.first))) e ∙ rest

---- A pass

-- the locks under which a pass of this stage goes on
abbrev pub IsPassing : Stage → Bool → Bool → Type 0
IsPassing NotBegun no_span vs = ⊥
IsPassing AtHint no_span vs = ⊥
IsPassing FirstPass no_span vs = no_span ≡ false
IsPassing SecondPass no_span vs = (no_span ≡ true) × (vs ≡ true)

passing_reads : (stage : Stage) (no_span vs : Bool) → IsPassing stage no_span vs → IsReading stage
passing_reads NotBegun no_span vs h = absurd h
passing_reads AtHint no_span vs h = absurd h
passing_reads FirstPass no_span vs h = tt
passing_reads SecondPass no_span vs h = tt

onto_next : (stage : Stage) (no_span vs : Bool) → IsPassing stage no_span vs → (read : List ℕ) (k head : ℕ) → onto_span (at_words stage read k true) head ≡ at_words stage (head ∷ read) 0 false
onto_next NotBegun no_span vs h read k head = absurd h
onto_next AtHint no_span vs h read k head = absurd h
onto_next FirstPass no_span vs h read k head = refl
onto_next SecondPass no_span vs h read k head = refl

-- the next span may be read ..
sees_span : (a : Area) (r : SpanHistory) (d : Bool) (v : CallerView) (g : SearchKey) (stage : Stage) → IsPassing stage v.call.no_span v.vs → v.back ≡ true → (read : List ℕ) (k head word : ℕ) → word ≡ first_word g →
    next_span a g (at_words stage read k true) ≡ Some head → may_see a r d (view_with v (at_words stage read k true)) g head word ≡ true
sees_span a r d v g NotBegun h back read k head word w e = absurd h
sees_span a r d v g AtHint h back read k head word w e = absurd h
sees_span a r d v g FirstPass h back read k head word w e = let f = eq-eqb word (first_word g) w in let i = eq-eqb head head refl in rw (f, back, h, e, i) refl
sees_span a r d v g SecondPass h back read k head word w e = let f = eq-eqb word (first_word g) w in let i = eq-eqb head head refl in let n = h.0 in let l = h.1 in rw (f, back, n, l, e, i) refl

-- .. and where there is none, the search is spent
spent_here : (a : Area) (v : CallerView) (g : SearchKey) (stage : Stage) → IsPassing stage v.call.no_span v.vs → v.back ≡ true → (read : List ℕ) (k : ℕ) → next_span a g (at_words stage read k true) ≡ None →
    is_spent a (view_with v (at_words stage read k true)) g ≡ true
spent_here a v g NotBegun h back read k e = absurd h
spent_here a v g AtHint h back read k e = absurd h
spent_here a v g FirstPass h back read k e = rw (back, h, e) refl
spent_here a v g SecondPass h back [] k e = let l = h.1 in rw (back, l, e) refl
spent_here a v g SecondPass h back (x ∷ xs) k e = rw (back, e) refl

-- a configuration of this state in which a pass goes on
pub record Passes (s : Setting) (b d : ℕ) (st : State) (stage : Stage) (m : Configuration) : Type 0 where
  pub here : Here s b d st m
  pub back : (caller_view m 0).back ≡ true
  pub passing : IsPassing stage (m.now.calls 0).no_span (caller_view m 0).vs

still_passes : (s : Setting) (b d : ℕ) (st : State) (stage : Stage) (m n : Configuration) → Passes s b d st stage m → OnlySearch m n → Passes s b d st stage n
still_passes s b d st stage m n h o = record {
  here = still_here s b d st m n h.here o;
  back = ap (λ (st : State). holds st.gate 0 whats.Back) o.state ∙ h.back;
  passing =
      subst (λ (k : CallState). IsPassing stage k.no_span (holds n.state.gate 0 whats.Vs)) (sym o.call)
      (subst (λ (st : State). IsPassing stage (m.now.calls 0).no_span (holds st.gate 0 whats.Vs)) (sym o.state) h.passing);
}

module _ (s : Setting) (b d : ℕ) (st : State) (stage : Stage) (some : 0 < words_in_use b) where
  abbrev g : SearchKey
  g = key s b d

  -- a span of this page may be begun
  abbrev pub MayBegin : ℕ → Configuration → Type 0
  MayBegin head m = may_see m.state.back.area m.now.span_history (m.now.disturbed 0) (caller_view m 0) g head (word_behind g 0) ≡ true

  abbrev pub Given : Option Found → Configuration → Type 0
  Given o n = PassGives s b o n

  -- the search stands before these spans, behind those
  pub record Before (read : List ℕ) (ys : List Span) (m : Configuration) : Type 0 where
    pub passes : Passes s b d st stage m
    pub onto : (head : ℕ) → onto_span (search_of m) head ≡ at_words stage (head ∷ read) 0 false
    pub sees : (head : ℕ) → first_of ys ≡ Some head → MayBegin head m
    pub spent : ys ≡ [] → IsSpent s b m
    pub picked : (search_of m).picked ≡ None
    pub lost : (search_of m).lost ≡ 0

  one_span : (y : Span) (ys : List Span) (read : List ℕ) (m : Configuration) → Before read (y ∷ ys) m → span_at st.back.area y.first ≡ Some y → (rest : List Act) (found : Option Found) →
      ((n : Configuration) → OnlySearch m n → search_of n ≡ at_words stage (y.first ∷ read) (words_in_use b) true → LeadsTo s n rest (Given found)) →
      LeadsTo s m (reads_of st.lfh g y ++ (if is_some (block_found st.lfh g y) then [] else rest)) (Given (option_or (option_map (found_of y) (block_found st.lfh g y)) found))
  one_span y ys read m h there rest found go = by_block (block_found st.lfh g y) r
    where
      r : LeadsTo s m (reads_of st.lfh g y) (SpanGives stage y.first read (words_in_use b) (block_found st.lfh g y))
      r = span_is_read s b d st y stage read m there (passing_reads stage (m.now.calls 0).no_span (caller_view m 0).vs h.passes.passing) some h.passes.here (h.onto y.first) (h.sees y.first refl)

      by_block : (o : Option ℕ) → LeadsTo s m (reads_of st.lfh g y) (SpanGives stage y.first read (words_in_use b) o) →
          LeadsTo s m (reads_of st.lfh g y ++ (if is_some o then [] else rest)) (Given (option_or (option_map (found_of y) o) found))
      by_block (Some i) r =
          leads_on s m (reads_of st.lfh g y) [] (SpanGives stage y.first read (words_in_use b) (Some i)) (Given (Some (found_of y i))) r
          (leads_here s (configuration_by s m (reads_of st.lfh g y)) (Given (Some (found_of y i))) (record { picked = r.holds.picked; read = ap head_of r.holds.read; lost = r.holds.lost; counts = r.holds.counts }))
      by_block None r =
          leads_on s m (reads_of st.lfh g y) rest (SpanGives stage y.first read (words_in_use b) None) (Given found) r
          (go (configuration_by s m (reads_of st.lfh g y)) r.only r.holds)

  -- the spans of the bucket and the slot that are not read
  abbrev pub left : List ℕ → List Span
  left read = filter (is_unread read) (spans_of st.back.area b (s.slot 0))

  -- where it stands before the others, once the words of a span are dry
  pub before_next : (read : List ℕ) (ys : List Span) (k : ℕ) (n : Configuration) → Passes s b d st stage n → search_of n ≡ at_words stage read k true → left read ≡ ys → Before read ys n
  before_next read ys k n h f e = record {
    passes = h;
    onto = λ head. ap (λ (q : Search). onto_span q head) f ∙ onto_next stage (n.now.calls 0).no_span (caller_view n 0).vs h.passing read k head;
    sees = λ head i.
        subst (λ (q : Search). may_see n.state.back.area n.now.span_history (n.now.disturbed 0) (view_with (caller_view n 0) q) g head (word_behind g 0) ≡ true) (sym f)
        (sees_span n.state.back.area n.now.span_history (n.now.disturbed 0) (caller_view n 0) g stage h.passing h.back read k head (word_behind g 0) (word_behind_none g some) (next ∙ i));
    spent = λ i.
        ap (λ (d : ℕ). is_spent n.state.back.area (caller_view n 0) (key s b d)) h.here.draw
        ∙ subst (λ (q : Search). is_spent n.state.back.area (view_with (caller_view n 0) q) g ≡ true) (sym f)
        (spent_here n.state.back.area (caller_view n 0) g stage h.passing h.back read k (next ∙ ap first_of i));
    picked = ap (λ (q : Search). q.picked) f;
    lost = ap (λ (q : Search). q.lost) f;
  }
    where
      next : next_span n.state.back.area g (at_words stage read k true) ≡ first_of ys
      next = ap (λ (st : State). next_span st.back.area g (at_words stage read k true)) h.here.state ∙ ap first_of e

  pub pass_on : (ys : List Span) (low : ℕ) (read : List ℕ) (m : Configuration) → Before read ys m → left read ≡ ys → AreInOrder low ys → AllByRecursion (λ y. span_at st.back.area y.first ≡ Some y) ys →
      LeadsTo s m (pass_reads st.lfh g ys) (Given (pass_found st.lfh g ys))
  pass_on [] low read m h e a f = leads_here s m (Given None) (h.spent refl, h.picked, h.lost)
  pass_on (y ∷ ys) low read m h e a f =
      one_span y ys read m h f.0 (pass_reads st.lfh g ys) (pass_found st.lfh g ys) (λ n o q.
      let unread = next_unread low read (spans_of st.back.area b (s.slot 0)) y ys a e in
      pass_on ys (y.first + y.pages) (y.first ∷ read) n (before_next (y.first ∷ read) ys (words_in_use b) n (still_passes s b d st stage m n h.passes o) q unread) unread a.2 f.1)
