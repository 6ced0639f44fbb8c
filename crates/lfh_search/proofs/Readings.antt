-- A search that reads a subsegment, word by word.
use Rattle.std.proofs.Common.{◌≡◌, ◌⊎◌, inl, inr, ℕ, ◌+◌, ◌*◌, ◌%◌, ◌<◌, ◌==◌, Bool, true, false, ◌||◌, List, [], ◌∷◌, Option, Some, None, refl, sym, ap, ◌∙◌, arith, eq-eqb, ne_eqb}
use Rattle.std.specs.Prelude.{nat_lt}
use Rattle.std.proofs.lemmas.Bool.{lt-ltb, and_from, false≢true}
use Rattle.heap_model.specs.Buckets.{words_in_use, valid_bits}
use Rattle.heap_model.specs.Bits.{pick}
use Rattle.heap_model.specs.Stay.{is_some_of}
use Rattle.heap_model.specs.State.{Area, Setting}
use Rattle.heap_model.specs.CallState.{Configuration, CallerView, Search, Stage, NotBegun, AtHint, FirstPass, SecondPass, SpanHistory, caller_view}
use Rattle.heap_model.specs.Search.{SearchKey, head_of, goes_on, may_see, may_see_at, may_claim, onto_span, onto_span_at, after_saw, after_pick, has_not_begun}
use Rattle.search_laws.specs.Reading.{word_behind}
use Rattle.heap_soundness.proofs.Picks.{pick_below}
use Rattle.step_parts.specs.Seen.{IsSeen}
use Rattle.step_parts.specs.Claims.{MayClaim}
use Rattle.block_steps.specs.Searches.{MaySee}
use Rattle.lfh_search.proofs.Steps.{keyed}
use Rattle.lfh_search.specs.Standing.{key, IsSearching, IsBetween, stage_onto, read_onto, reading, dried}

---- What a reading makes of the search

-- it goes on to a subsegment
onto_next : (f : Search) (head : ℕ) → IsBetween f → onto_span f head ≡ reading f head 0 f.lost
onto_next f head h = by f.stage refl f.ended h.between
  where
    by : (x : Stage) → f.stage ≡ x → (e : Bool) → (has_not_begun x || e) ≡ true
        → onto_span_at f head x e ≡ record { stage = stage_onto x; read = read_onto x head f.read; exhausted = 0; ended = false; picked = None; lost = f.lost }
    by NotBegun u e b = λ j. record { stage = AtHint; read = head ∷ []; exhausted = 0; ended = false; picked = h.picked j; lost = f.lost }
    by AtHint u true b = λ j. record { stage = FirstPass; read = head ∷ []; exhausted = 0; ended = false; picked = h.picked j; lost = f.lost }
    by FirstPass u true b = λ j. record { stage = u j; read = head ∷ f.read; exhausted = 0; ended = false; picked = h.picked j; lost = f.lost }
    by SecondPass u true b = λ j. record { stage = u j; read = head ∷ f.read; exhausted = 0; ended = false; picked = h.picked j; lost = f.lost }
    by AtHint u false b = absurd (false≢true b)
    by FirstPass u false b = absurd (false≢true b)
    by SecondPass u false b = absurd (false≢true b)

-- .. and is in it
onto_same : (f : Search) (head k lost : ℕ) → onto_span (reading f head k lost) head ≡ reading f head k lost
onto_same f head k lost = by f.stage
  where
    by : (x : Stage) → onto_span_at (record { stage = stage_onto x; read = read_onto x head f.read; exhausted = k; ended = false; picked = None; lost = lost }) head (stage_onto x) false ≡ record { stage = stage_onto x; read = read_onto x head f.read; exhausted = k; ended = false; picked = None; lost = lost }
    by NotBegun = refl
    by AtHint = refl
    by FirstPass = refl
    by SecondPass = refl

-- Where it stands in a subsegment: k words are dry, and so many claims were lost. The first of its words may not have been read.
abbrev pub StandsIn : Search → ℕ → ℕ → ℕ → Search → Type 0
StandsIn f head k lost g = ((k ≡ 0) × (lost ≡ f.lost) × (g ≡ f)) ⊎ (g ≡ reading f head k lost)

onto_is : (f : Search) (head k lost : ℕ) (g : Search) → IsBetween f → StandsIn f head k lost g → onto_span g head ≡ reading f head k lost
onto_is f head k lost g h (inl (a, b, c)) = ap (λ (x : Search). onto_span x head) c ∙ (onto_next f head h ∙ (λ j. reading f head (sym a j) (sym b j)))
onto_is f head k lost g h (inr e) = ap (λ (x : Search). onto_span x head) e ∙ onto_same f head k lost

module _ (b t d : ℕ) (f : Search) (head k lost : ℕ) (g : Search) (h : IsBetween f) (z : StandsIn f head k lost g) (bits : ℕ) where
  abbrev word : ℕ
  word = word_behind (key b t d) k

  saw_is : (o : Option ℕ) → pick bits (valid_bits b word) (d % 64) ≡ o → after_saw (key b t d) g head word bits ≡ after_pick (key b t d) (reading f head k lost) word o
  saw_is o e = ap (λ (x : Search). after_pick (key b t d) x word (pick bits (valid_bits b word) (d % 64))) (onto_is f head k lost g h z) ∙ ap (after_pick (key b t d) (reading f head k lost) word) e

  -- a word without a block ..
  pub passes : pick bits (valid_bits b word) (d % 64) ≡ None → k + 1 < words_in_use b → after_saw (key b t d) g head word bits ≡ reading f head (k + 1) lost
  passes e l = saw_is None e ∙ ap (λ (x : Bool). record (reading f head (k + 1) lost) { ended = x }) (ne_eqb (k + 1) (words_in_use b) (λ q. omega (arith, l, q)))

  -- .. which may be the last
  pub ends : pick bits (valid_bits b word) (d % 64) ≡ None → k + 1 ≡ words_in_use b → after_saw (key b t d) g head word bits ≡ dried f b head lost
  ends e l = saw_is None e ∙ (ap (λ (x : Bool). record (reading f head (k + 1) lost) { ended = x }) (eq-eqb (k + 1) (words_in_use b) l) ∙ (λ j. record (dried f b head lost) { exhausted = l j }))

  -- a block is picked
  pub picks : (i : ℕ) → pick bits (valid_bits b word) (d % 64) ≡ Some i → after_saw (key b t d) g head word bits ≡ record (reading f head k lost) { picked = Some (64 * word + i) }
  picks i e = saw_is (Some i) e

---- What may come next

-- what a caller is shown to have read, with its search as it is
pub seen_by : (v : CallerView) (f : Search) → v.call.search ≡ f → v ≡ record v { call = record v.call { search = f } }
seen_by v f e = λ j. record v { call = record v.call { search = e j } }

head_read : (x : Stage) (head : ℕ) (read : List ℕ) → is_some_of (head_of (read_onto x head read)) head ≡ true
head_read NotBegun head read = eq-eqb head head refl
head_read AtHint head read = eq-eqb head head refl
head_read FirstPass head read = eq-eqb head head refl
head_read SecondPass head read = eq-eqb head head refl

by_stage : (a : Area) (r : SpanHistory) (u : Bool) (v : CallerView) (g : SearchKey) (head word : ℕ) (x : Stage) → v.call.search.ended ≡ false → goes_on g v.call.search head word ≡ true → may_see_at a r u v g head word (stage_onto x) ≡ true
by_stage a r u v g head word NotBegun e h = rw e h
by_stage a r u v g head word AtHint e h = rw e h
by_stage a r u v g head word FirstPass e h = rw e h
by_stage a r u v g head word SecondPass e h = rw e h

module _ (a : Area) (r : SpanHistory) (u : Bool) (v : CallerView) (b t d : ℕ) (f : Search) (head k lost : ℕ) where
  -- the reading goes on with the word behind those that are dry
  pub within : lost < 8 → v.call.search ≡ reading f head k lost → may_see a r u v (key b t d) head (word_behind (key b t d) k) ≡ true
  within l e = ap (λ (w : CallerView). may_see a r u w (key b t d) head (word_behind (key b t d) k)) (seen_by v (reading f head k lost) e)
      ∙ and_from (nat_lt lost 8) _ (lt-ltb lost 8 l)
      (by_stage a r u (record v { call = record v.call { search = reading f head k lost } }) (key b t d) head (word_behind (key b t d) k) f.stage refl
      (and_from (word_behind (key b t d) k == word_behind (key b t d) k) _ (eq-eqb (word_behind (key b t d) k) (word_behind (key b t d) k) refl) (head_read f.stage head f.read)))

-- the block that was picked may be claimed
pub may_claim_picked : (f : Search) (head k lost i : ℕ) (g : Search) → g ≡ record (reading f head k lost) { picked = Some i } → may_claim g head i ≡ true
may_claim_picked f head k lost i g e = ap (λ (x : Search). may_claim x head i) e ∙ and_from (i == i) _ (eq-eqb i i refl) (head_read f.stage head f.read)

---- What a caller owes for a step

-- a reading
pub sees : (s : Setting) (m : Configuration) (n b t d head word : ℕ) (g : Search) → IsSearching s m n b t d g → IsSeen m head b t
    → may_see m.state.back.area m.now.span_history (m.now.disturbed n) (caller_view m n) (key b t d) head word ≡ true → MaySee s m n head b t word
sees s m n b t d head word g h seen may = record {
  begun = h.begun;
  inside = h.inside;
  seeks = h.seeks;
  slot = h.slot;
  sees = ap (λ (y : SearchKey). may_see m.state.back.area m.now.span_history (m.now.disturbed n) (caller_view m n) y head word) (keyed s m n b t d g h) ∙ may;
  seen = seen;
  old = h.old;
}

-- a claim
pub claims : (s : Setting) (m : Configuration) (n b t d : ℕ) (f g : Search) (head k lost i bits : ℕ) → IsSearching s m n b t d g → g ≡ record (reading f head k lost) { picked = Some (64 * word_behind (key b t d) k + i) }
    → pick bits (valid_bits b (word_behind (key b t d) k)) (d % 64) ≡ Some i → IsSeen m head b t → MayClaim s m n head b t (64 * word_behind (key b t d) k + i)
claims s m n b t d f g head k lost i bits h e p seen = record {
  can = record {
    begun = h.begun;
    inside = h.inside;
    seeks = h.seeks;
    slot = h.slot;
    picked = may_claim_picked f head k lost (64 * word_behind (key b t d) k + i) (m.now.calls n).search (h.search ∙ e);
    seen = seen;
    below = pick_below b (word_behind (key b t d) k) bits (d % 64) i p;
  };
  old = h.old;
}
