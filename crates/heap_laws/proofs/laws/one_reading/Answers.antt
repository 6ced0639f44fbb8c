use Rattle.std.proofs.Common.{◌≡◌, ℕ, Bool, true, false, ◌&&◌, ◌||◌, Option, Some, sym, ap, ◌∙◌, eqb, refl, subst, []}
use Rattle.std.specs.List.{list_any}
use Rattle.std.proofs.lemmas.Bool.{and_parts, eqb-true}
use Rattle.heap_model.specs.declared.Act.TheVariants as acts
use Rattle.heap_model.specs.declared.Entry.{Entry}
use Rattle.heap_model.specs.State.{Area, Setting}
use Rattle.heap_model.specs.Stay.{for_some, is_some_of}
use Rattle.heap_model.specs.Bits.{bits_of}
use Rattle.heap_model.specs.CallState.{Stage, NotBegun, AtHint, FirstPass, SecondPass, Search, SpanHistory, Configuration, CallerView, caller_view}
use Rattle.heap_model.specs.Search.{SearchKey, search_key_of, request_of, may_see, may_see_at, begins_search, begins_span, begins_at, goes_on, spans_of, span_at, first_word, next_word, hint, next_span, may_pass, last_read}
use Rattle.heap_model.specs.Legal.{may_follow}
use Rattle.heap_model.proofs.GateSound.{row_of}
use Rattle.heap_model.proofs.ListLemmas.{for_some_parts, is_some_of_parts}
use Rattle.heap_laws.proofs.laws.one_reading.Goals as goal

-- both readings are of this word of that span
abbrev IsOf : Option ℕ → ℕ → ℕ → ℕ → Type 0
IsOf o w head word = (o ≡ Some head) × (word ≡ w)

-- the one span and the one word that may be read next
abbrev the_span : Area → SpanHistory → Search → SearchKey → Stage → Bool → Option ℕ
the_span a r f g NotBegun ended = hint a r g.bucket g.slot
the_span a r f g AtHint true = next_span a g (record f { read = [] })
the_span a r f g FirstPass true = next_span a g f
the_span a r f g SecondPass true = next_span a g f
the_span a r f g _ false = last_read f

abbrev the_word : SearchKey → Search → Stage → Bool → ℕ
the_word g f NotBegun ended = first_word g
the_word g f AtHint true = first_word g
the_word g f FirstPass true = first_word g
the_word g f SecondPass true = first_word g
the_word g f _ false = next_word g f

search_is : (a : Area) (r : SpanHistory) (d : Bool) (g : SearchKey) (head word : ℕ) → d ≡ false → begins_search a r d g head word ≡ true → IsOf (hint a r g.bucket g.slot) (first_word g) head word
search_is a r d g head word e h =
    let p = and_parts (eqb word (first_word g) && list_any (begins_at head) (spans_of a g.bucket g.slot)) (d || is_some_of (hint a r g.bucket g.slot) head) h in
    let q = and_parts (eqb word (first_word g)) (list_any (begins_at head) (spans_of a g.bucket g.slot)) p.0 in
    (is_some_of_parts (hint a r g.bucket g.slot) head (rw e at p.1), eqb-true word (first_word g) q.0)

span_is : (a : Area) (k : CallerView) (g : SearchKey) (f : Search) (head word : ℕ) → begins_span a k g f head word ≡ true → IsOf (next_span a g f) (first_word g) head word
span_is a k g f head word h =
    let p = and_parts (eqb word (first_word g) && may_pass k) (is_some_of (next_span a g f) head) h in
    let q = and_parts (eqb word (first_word g)) (may_pass k) p.0 in
    (is_some_of_parts (next_span a g f) head p.1, eqb-true word (first_word g) q.0)

word_is : (g : SearchKey) (f : Search) (head word : ℕ) → goes_on g f head word ≡ true → IsOf (last_read f) (next_word g f) head word
word_is g f head word h =
    let p = and_parts (eqb word (next_word g f)) (is_some_of (last_read f) head) h in
    (is_some_of_parts (last_read f) head p.1, eqb-true word (next_word g f) p.0)

reading_is : (a : Area) (r : SpanHistory) (d : Bool) (k : CallerView) (g : SearchKey) (head word : ℕ) (stage : Stage) (ended : Bool) → d ≡ false → k.call.search.ended ≡ ended → may_see_at a r d k g head word stage ≡ true → IsOf (the_span a r k.call.search g stage ended) (the_word g k.call.search stage ended) head word
reading_is a r d k g head word NotBegun ended u e h = search_is a r d g head word u h
reading_is a r d k g head word AtHint true u e h = span_is a k g (record k.call.search { read = [] }) head word (rw e at h)
reading_is a r d k g head word FirstPass true u e h = span_is a k g k.call.search head word (rw e at h)
reading_is a r d k g head word SecondPass true u e h = span_is a k g k.call.search head word (rw e at h)
reading_is a r d k g head word AtHint false u e h = word_is g k.call.search head word (rw e at h)
reading_is a r d k g head word FirstPass false u e h = word_is g k.call.search head word (rw e at h)
reading_is a r d k g head word SecondPass false u e h = word_is g k.call.search head word (rw e at h)

-- what a reading that may come next says
record Reading (s : Setting) (m : Configuration) (c head word bits : ℕ) : Type 0 where
  bucket : ℕ
  search : (request_of s m c).search ≡ Some bucket
  is : let f = (m.now.calls c).search in let g = search_key_of s c (m.now.calls c) bucket in IsOf (the_span m.state.back.area m.now.span_history f g f.stage f.ended) (the_word g f f.stage f.ended) head word
  revealed : for_some (span_at m.state.back.area head) (λ x. eqb bits (bits_of m.state.lfh x word)) ≡ true

reading_of : (s : Setting) (m : Configuration) (c head word bits : ℕ) → m.now.disturbed c ≡ false → may_follow s m (record { caller = c; act = acts.Saw head word bits }) ≡ true → Reading s m c head word bits
reading_of s m c head word bits d h =
    let e : Entry = record { caller = c; act = acts.Saw head word bits } in
    let k = caller_view m c in
    let a = m.state.back.area in
    let test = λ (b : ℕ). may_see a m.now.span_history (m.now.disturbed c) k (search_key_of s c k.call b) head word && for_some (span_at a head) (λ x. eqb bits (bits_of m.state.lfh x word)) in
    let p = and_parts k.entered (for_some (request_of s m c).search test) (row_of s m e h) in
    let q = for_some_parts (request_of s m c).search test p.1 in
    let t = and_parts (may_see a m.now.span_history (m.now.disturbed c) k (search_key_of s c k.call q.0) head word) (for_some (span_at a head) (λ x. eqb bits (bits_of m.state.lfh x word))) q.2 in
    let u = and_parts _ (may_see_at a m.now.span_history (m.now.disturbed c) k (search_key_of s c k.call q.0) head word k.call.search.stage) t.0 in
    record {
      bucket = q.0;
      search = q.1;
      is = reading_is a m.now.span_history (m.now.disturbed c) k (search_key_of s c k.call q.0) head word k.call.search.stage k.call.search.ended d refl u.1;
      revealed = t.1;
    }

one_of : (s : Setting) (m : Configuration) (c head head' word word' bits bits' : ℕ) → Reading s m c head word bits → Reading s m c head' word' bits' → (head ≡ head') × (word ≡ word')
one_of s m c head head' word word' bits bits' r r' =
    let same : r.bucket ≡ r'.bucket = some_same (sym r.search ∙ r'.search) in
    let i = subst (λ (b : ℕ). let f = (m.now.calls c).search in let g = search_key_of s c (m.now.calls c) b in IsOf (the_span m.state.back.area m.now.span_history f g f.stage f.ended) (the_word g f f.stage f.ended) head word) same r.is in
    (some_same (sym i.0 ∙ r'.is.0), i.1 ∙ sym r'.is.1)
  where
    some_same : {x y : ℕ} → Some x ≡ Some y → x ≡ y
    some_same h = cc

pub returns : goal.returns
returns c = λ s m c head head' word word' bits bits' d h h'.
    let r = reading_of s m c head word bits d h in
    let r' = reading_of s m c head' word' bits' d h' in
    let one = one_of s m c head head' word word' bits bits' r r' in
    let x = for_some_parts (span_at m.state.back.area head) (λ x. eqb bits (bits_of m.state.lfh x word)) r.revealed in
    let x' = for_some_parts (span_at m.state.back.area head') (λ x. eqb bits' (bits_of m.state.lfh x word')) r'.revealed in
    let b : bits ≡ bits_of m.state.lfh x.0 word = eqb-true bits (bits_of m.state.lfh x.0 word) x.2 in
    let b' : bits' ≡ bits_of m.state.lfh x'.0 word' = eqb-true bits' (bits_of m.state.lfh x'.0 word') x'.2 in
    let same_head : head ≡ head' = one.0 in
    let same_word : word ≡ word' = one.1 in
    let same : Some x.0 ≡ Some x'.0 = sym x.1 ∙ (ap (span_at m.state.back.area) same_head ∙ x'.1) in
    let same_bits : bits ≡ bits' = cc in
    cc
