-- The readings of the words of one span: up to the first that shows a block to pick, or all of them.
use Rattle.std.proofs.Common.{◌≡◌, ℕ, zero, suc, ◌+◌, ◌*◌, ◌/◌, ◌%◌, ◌<◌, Bool, true, false, List, [], ◌∷◌, Option, Some, None, option_map, is_some, refl, sym, ap, subst, ◌∙◌, arith, eqb, mod-lt, if◌then◌else◌}
use Rattle.std.specs.Option.{option_or}
use Rattle.std.proofs.Math.Nat.{mod-eq_of_lt}
use Rattle.std.proofs.lemmas.Bool.{eq-eqb, ne_eqb}
use Rattle.heap_model.specs.declared.Act.{Act}
use Rattle.heap_model.specs.declared.Act.TheVariants as acts
use Rattle.heap_model.specs.Bits.{bits_of, pick}
use Rattle.heap_model.specs.Buckets.{words_in_use, valid_bits}
use Rattle.heap_model.specs.State.{Area, State, Setting, Span, Place}
use Rattle.heap_model.specs.CallState.{Stage, NotBegun, AtHint, FirstPass, SecondPass, CallState, Configuration, Search, SpanHistory, CallerView, caller_view}
use Rattle.heap_model.specs.Search.{SearchKey, draw_of, first_word, span_at, may_see, after_pick, after_saw, onto_span}
use Rattle.heap_model.specs.Legal.{after, may_follow, searched_once}
use Rattle.heap_model.specs.Alone.{by_zero}
use Rattle.search_laws.specs.Reading.{word_behind, picked_at, block_from, reads_from, block_found, reads_of}
use Rattle.search_laws.specs.Laws.{search_of, OnlySearch, LeadsTo}
use Rattle.search_laws.proofs.Steps.{Goes, still_goes, only_seen, search_seen, may_be_seen, leads_here, leads_first}

---- The words

pub word_behind_none : (g : SearchKey) → 0 < words_in_use g.bucket → word_behind g 0 ≡ first_word g
word_behind_none g some =
    let below = mod-lt (g.draw / 64) some in
    let e : first_word g + 0 ≡ first_word g = omega arith in
    rw e (mod-eq_of_lt below)

-- spans are read at this stage
abbrev pub IsReading : Stage → Type 0
IsReading NotBegun = ⊥
IsReading AtHint = Unit {0}
IsReading FirstPass = Unit {0}
IsReading SecondPass = Unit {0}

reading_counts : (stage : Stage) → IsReading stage → searched_once stage ≡ 1
reading_counts NotBegun h = absurd h
reading_counts AtHint h = refl
reading_counts FirstPass h = refl
reading_counts SecondPass h = refl

-- a search that has read so many dry words of the last of these spans
abbrev pub at_words : Stage → List ℕ → ℕ → Bool → Search
at_words stage read k ended = record { stage = stage; read = read; exhausted = k; ended = ended; picked = None; lost = 0 }

abbrev pub view_with : CallerView → Search → CallerView
view_with v f = record v { call = record v.call { search = f } }

-- a search that is in a span goes on in it
onto_same : (stage : Stage) → IsReading stage → (head : ℕ) (read : List ℕ) (k : ℕ) → onto_span (at_words stage (head ∷ read) k false) head ≡ at_words stage (head ∷ read) k false
onto_same NotBegun h head read k = absurd h
onto_same AtHint h head read k = refl
onto_same FirstPass h head read k = refl
onto_same SecondPass h head read k = refl

-- .. by the next word
sees_next : (a : Area) (r : SpanHistory) (d : Bool) (v : CallerView) (g : SearchKey) (stage : Stage) → IsReading stage → (head : ℕ) (read : List ℕ) (k : ℕ) →
    may_see a r d (view_with v (at_words stage (head ∷ read) k false)) g head (word_behind g k) ≡ true
sees_next a r d v g NotBegun h head read k = absurd h
sees_next a r d v g AtHint h head read k = let e = eq-eqb (word_behind g k) (word_behind g k) refl in let f = eq-eqb head head refl in rw (e, f) refl
sees_next a r d v g FirstPass h head read k = let e = eq-eqb (word_behind g k) (word_behind g k) refl in let f = eq-eqb head head refl in rw (e, f) refl
sees_next a r d v g SecondPass h head read k = let e = eq-eqb (word_behind g k) (word_behind g k) refl in let f = eq-eqb head head refl in rw (e, f) refl

---- One span

-- the search has picked block i of the span at this page, which was read behind the others
pub record Picks (head : ℕ) (others : List ℕ) (i : ℕ) (n : Configuration) : Type 0 where
  pub picked : (search_of n).picked ≡ Some i
  pub read : (search_of n).read ≡ head ∷ others
  pub lost : (search_of n).lost ≡ 0
  pub counts : searched_once (search_of n).stage ≡ 1

-- what a reading of a span leads to
abbrev pub SpanGives : Stage → ℕ → List ℕ → ℕ → Option ℕ → Configuration → Type 0
SpanGives stage head others words (Some i) n = Picks head others i n
SpanGives stage head others words None n = search_of n ≡ at_words stage (head ∷ others) words true

-- a configuration of this state in which the search goes on, by this draw
pub record Here (s : Setting) (b d : ℕ) (st : State) (m : Configuration) : Type 0 where
  pub goes : Goes s b m
  pub state : m.state ≡ st
  pub draw : draw_of s 0 (m.now.calls 0).searches ≡ d

pub still_here : (s : Setting) (b d : ℕ) (st : State) (m n : Configuration) → Here s b d st m → OnlySearch m n → Here s b d st n
still_here s b d st m n h o = record {
  goes = still_goes s b m n h.goes o;
  state = o.state ∙ h.state;
  draw = ap (λ (k : CallState). draw_of s 0 k.searches) o.call ∙ h.draw;
}

-- the readings of n words from the one behind k others on, by what they show
abbrev acts_from : ℕ → (ℕ → ℕ) → (ℕ → ℕ) → (ℕ → Option ℕ) → ℕ → ℕ → List Act
acts_from head word bits shown zero k = []
acts_from head word bits shown (suc n) k = acts.Saw head (word k) (bits k) ∷ (if is_some (option_map (λ i. 64 * word k + i) (shown k)) then [] else acts_from head word bits shown n (suc k))

abbrev found_from : (ℕ → Option ℕ) → ℕ → ℕ → Option ℕ
found_from picked zero k = None
found_from picked (suc n) k = option_or (picked k) (found_from picked n (suc k))

module _ (s : Setting) (b d : ℕ) (st : State) (x : Span) (there : span_at st.back.area x.first ≡ Some x) (stage : Stage) (reading : IsReading stage) (others : List ℕ)
    (word bits : ℕ → ℕ) (shown : ℕ → Option ℕ) (is_bits : (k : ℕ) → bits k ≡ bits_of st.lfh x (word k)) (is_shown : (k : ℕ) → pick (bits k) (valid_bits b (word k)) (d % 64) ≡ shown k)
    (is_word : (k : ℕ) → word k ≡ word_behind (record { bucket = b; slot = s.slot 0; draw = d }) k) where
  abbrev g : SearchKey
  g = record { bucket = b; slot = s.slot 0; draw = d }

  abbrev Gives : Option ℕ → Configuration → Type 0
  Gives o n = SpanGives stage x.first others (words_in_use b) o n

  -- the word behind k others may be read next
  abbrev MayRead : ℕ → Configuration → Type 0
  MayRead k m = may_see m.state.back.area m.now.span_history (m.now.disturbed 0) (caller_view m 0) g x.first (word k) ≡ true

  abbrev saw : ℕ → Act
  saw k = acts.Saw x.first (word k) (bits k)

  may_read : (m : Configuration) (k : ℕ) → Here s b d st m → MayRead k m → may_follow s m (by_zero (saw k)) ≡ true
  may_read m k h sees =
      may_be_seen s b m h.goes x.first (word k) (bits k) x (ap (λ (st : State). span_at st.back.area x.first) h.state ∙ there) (is_bits k ∙ ap (λ (st : State). bits_of st.lfh x (word k)) (sym h.state))
      (ap (λ (d : ℕ). may_see m.state.back.area m.now.span_history (m.now.disturbed 0) (caller_view m 0) (record { bucket = b; slot = s.slot 0; draw = d }) x.first (word k)) h.draw ∙ sees)

  -- the search after the word behind k others
  search_after : (m : Configuration) (k : ℕ) (o : Option ℕ) → shown k ≡ o → Here s b d st m → onto_span (search_of m) x.first ≡ at_words stage (x.first ∷ others) k false →
      search_of (after s m (by_zero (saw k))) ≡ after_pick g (at_words stage (x.first ∷ others) k false) (word k) o
  search_after m k o e h onto =
      search_seen s b m h.goes x.first (word k) (bits k)
      ∙ ap (λ (d : ℕ). after_saw (record { bucket = b; slot = s.slot 0; draw = d }) (search_of m) x.first (word k) (bits k)) h.draw
      ∙ ap (λ (f : Search). after_pick g f (word k) (pick (bits k) (valid_bits b (word k)) (d % 64))) onto
      ∙ ap (after_pick g (at_words stage (x.first ∷ others) k false) (word k)) (is_shown k ∙ e)

  -- the block that a word shows
  abbrev block : ℕ → Option ℕ
  block k = option_map (λ i. 64 * word k + i) (shown k)

  abbrev next : Configuration → ℕ → Configuration
  next m k = after s m (by_zero (saw k))

  one : (k : ℕ) (m : Configuration) → Here s b d st m → MayRead k m → onto_span (search_of m) x.first ≡ at_words stage (x.first ∷ others) k false →
      (rest : List Act) (found : Option ℕ) → (shown k ≡ None → LeadsTo s (next m k) rest (Gives found)) →
      LeadsTo s m (saw k ∷ (if is_some (block k) then [] else rest)) (Gives (option_or (block k) found))
  one k m h sees onto rest found go = by_word (shown k) refl
    where
      Claim : Option ℕ → Type 0
      Claim o = LeadsTo s m (saw k ∷ (if is_some (option_map (λ i. 64 * word k + i) o) then [] else rest)) (Gives (option_or (option_map (λ i. 64 * word k + i) o) found))

      by_word : (o : Option ℕ) → shown k ≡ o → Claim o
      by_word (Some i) e =
          let f = search_after m k (Some i) e h onto in
          leads_first s m (saw k) [] (Gives (Some (64 * word k + i))) (may_read m k h sees) (only_seen s b m h.goes x.first (word k) (bits k))
          (leads_here s (next m k) (Gives (Some (64 * word k + i))) (record {
            picked = ap (λ (f : Search). f.picked) f;
            read = ap (λ (f : Search). f.read) f;
            lost = ap (λ (f : Search). f.lost) f;
            counts = ap (λ (f : Search). searched_once f.stage) f ∙ reading_counts stage reading;
          }))
      by_word None e = leads_first s m (saw k) rest (Gives found) (may_read m k h sees) (only_seen s b m h.goes x.first (word k) (bits k)) (go e)

  dry : (k : ℕ) (m : Configuration) (ended : Bool) → shown k ≡ None → Here s b d st m → onto_span (search_of m) x.first ≡ at_words stage (x.first ∷ others) k false → eqb (k + 1) (words_in_use b) ≡ ended →
      search_of (next m k) ≡ at_words stage (x.first ∷ others) (k + 1) ended
  dry k m ended e h onto t = search_after m k None e h onto ∙ ap (at_words stage (x.first ∷ others) (k + 1)) t

  reads_on : (n k : ℕ) (m : Configuration) → Here s b d st m → MayRead k m → onto_span (search_of m) x.first ≡ at_words stage (x.first ∷ others) k false → k + suc n ≡ words_in_use b →
      LeadsTo s m (acts_from x.first word bits shown (suc n) k) (Gives (found_from block (suc n) k))
  reads_on zero k m h sees onto all = one k m h sees onto [] None (λ e.
      let last : k + 1 ≡ words_in_use b = omega (arith, all) in
      leads_here s (next m k) (Gives None) (dry k m true e h onto (eq-eqb (k + 1) (words_in_use b) last) ∙ ap (λ (j : ℕ). at_words stage (x.first ∷ others) j true) last))
  reads_on (suc n) k m h sees onto all = one k m h sees onto (acts_from x.first word bits shown (suc n) (suc k)) (found_from block (suc n) (suc k)) (λ e.
      let here = still_here s b d st m (next m k) h (only_seen s b m h.goes x.first (word k) (bits k)) in
      let more : k + 1 ≡ suc k = omega arith in
      let left : k + 1 ≡ words_in_use b → ⊥ = λ f. omega (arith, all, f) in
      let rest : suc k + suc n ≡ words_in_use b = omega (arith, all) in
      let f : search_of (next m k) ≡ at_words stage (x.first ∷ others) (suc k) false = dry k m false e h onto (ne_eqb (k + 1) (words_in_use b) left) ∙ ap (λ (j : ℕ). at_words stage (x.first ∷ others) j false) more in
      reads_on n (suc k) (next m k) here (seen_next (next m k) (suc k) f) (ap (λ (f : Search). onto_span f x.first) f ∙ onto_same stage reading x.first others (suc k)) rest)
    where
      seen_next : (n : Configuration) (k : ℕ) → search_of n ≡ at_words stage (x.first ∷ others) k false → MayRead k n
      seen_next n k f =
          subst (λ (f : Search). may_see n.state.back.area n.now.span_history (n.now.disturbed 0) (view_with (caller_view n 0) f) g x.first (word k) ≡ true) (sym f)
          (ap (λ (w : ℕ). may_see n.state.back.area n.now.span_history (n.now.disturbed 0) (view_with (caller_view n 0) (at_words stage (x.first ∷ others) k false)) g x.first w) (is_word k)
          ∙ sees_next n.state.back.area n.now.span_history (n.now.disturbed 0) (caller_view n 0) g stage reading x.first others k)

---- .. as the definitions write it

one_more : (act : Act) (ends : Bool) (xs ys : List Act) → xs ≡ ys → act ∷ (if ends then [] else xs) ≡ act ∷ (if ends then [] else ys)
one_more act ends xs ys e = ap (λ (zs : List Act). act ∷ (if ends then [] else zs)) e

module _ (ps : List Place) (g : SearchKey) (x : Span) where
  abbrev bits_behind : ℕ → ℕ
  bits_behind k = bits_of ps x (word_behind g k)

  abbrev shown_behind : ℕ → Option ℕ
  shown_behind k = pick (bits_of ps x (word_behind g k)) (valid_bits g.bucket (word_behind g k)) (g.draw % 64)

  acts_same : (n k : ℕ) → acts_from x.first (word_behind g) bits_behind shown_behind n k ≡ reads_from ps g x n k
  acts_same zero k = refl
  acts_same (suc n) k = one_more (acts.Saw x.first (word_behind g k) (bits_behind k)) (is_some (picked_at ps g x k)) _ _ (acts_same n (suc k))

  found_same : (n k : ℕ) → found_from (picked_at ps g x) n k ≡ block_from ps g x n k
  found_same zero k = refl
  found_same (suc n) k = ap (option_or (picked_at ps g x k)) (found_same n (suc k))

abbrev pub key : Setting → ℕ → ℕ → SearchKey
key s b d = record { bucket = b; slot = s.slot 0; draw = d }

-- A search that may begin a span reads it, and picks the block that it finds or has found all words dry.
pub span_is_read : (s : Setting) (b d : ℕ) (st : State) (x : Span) (stage : Stage) (others : List ℕ) (m : Configuration) → span_at st.back.area x.first ≡ Some x → IsReading stage → 0 < words_in_use b →
    Here s b d st m → onto_span (search_of m) x.first ≡ at_words stage (x.first ∷ others) 0 false →
    may_see m.state.back.area m.now.span_history (m.now.disturbed 0) (caller_view m 0) (key s b d) x.first (word_behind (key s b d) 0) ≡ true →
    LeadsTo s m (reads_of st.lfh (key s b d) x) (SpanGives stage x.first others (words_in_use b) (block_found st.lfh (key s b d) x))
span_is_read s b d st x stage others m there reading some h onto sees = all_words (words_in_use b) refl
  where
    g : SearchKey
    g = record { bucket = b; slot = s.slot 0; draw = d }

    Claim : ℕ → Type 0
    Claim n = LeadsTo s m (reads_from st.lfh g x n 0) (SpanGives stage x.first others (words_in_use b) (block_from st.lfh g x n 0))

    all_words : (n : ℕ) → n ≡ words_in_use b → Claim n
    all_words zero e = absurd (omega (arith, some, e))
    all_words (suc n) e =
        let Q : List Act → Option ℕ → Type 0 = λ acts o. LeadsTo s m acts (SpanGives stage x.first others (words_in_use b) o) in
        let r : Q (acts_from x.first (word_behind g) (bits_behind st.lfh g x) (shown_behind st.lfh g x) (suc n) 0) (found_from (picked_at st.lfh g x) (suc n) 0) =
        reads_on s b d st x there stage reading others (word_behind g) (bits_behind st.lfh g x) (shown_behind st.lfh g x) (λ k. refl) (λ k. refl) (λ k. refl) n 0 m h sees onto (omega (arith, e)) in
        subst (λ (acts : List Act). Q acts (block_from st.lfh g x (suc n) 0)) (acts_same st.lfh g x (suc n) 0)
        (subst (Q (acts_from x.first (word_behind g) (bits_behind st.lfh g x) (shown_behind st.lfh g x) (suc n) 0)) (found_same st.lfh g x (suc n) 0) r)
