-- Which act of a search comes next, by the heap and the hint alone, as long as one does; and so one end of all searches from one heap.
use Rattle.std.proofs.Common.{◌≡◌, ◌⊎◌, ℕ, zero, suc, Bool, true, false, [], Option, Some, None, option_map, refl, sym, ap, ◌∙◌, subst, inl, inr}
use Rattle.std.proofs.lemmas.Bool.{eq-eqb, true≢false}
use Rattle.heap_model.specs.declared.Act.{Act}
use Rattle.heap_model.specs.declared.Act.TheVariants as acts
use Rattle.heap_model.specs.Buckets.{bucket_pages}
use Rattle.heap_model.specs.Bits.{bits_of}
use Rattle.heap_model.specs.State.{Setting, updated}
use Rattle.heap_model.specs.Backend.{back_place}
use Rattle.heap_model.specs.CallState.{Stage, NotBegun, AtHint, FirstPass, SecondPass, not_begun}
use Rattle.heap_model.specs.Search.{SearchKey, draw_of, first_word, next_word, next_span, last_read, span_at, after_saw, after_no_hint, after_no_span}
use Rattle.one_caller_laws.proofs.Core.{Core}

abbrev pub key_in : Setting → Core → ℕ → SearchKey
key_in s c b = record { bucket = b; slot = s.slot 0; draw = draw_of s 0 c.earlier }

-- the reading of a word of the span there
abbrev pub reading : Core → ℕ → Option ℕ → Option Act
reading c word None = None
reading c word (Some head) = option_map (λ x. acts.Saw head word (bits_of c.lfh x word)) (span_at c.back.area head)

-- where nothing is left to read, that no range fits a span comes once
abbrev pub falls : ℕ → Bool → Option ℕ → Option Act
falls b true place = None
falls b false None = Some (acts.NoSpan b)
falls b false (Some first) = None

abbrev pub next_or_falls : Setting → ℕ → Core → Option ℕ → Option Act
next_or_falls s b c None = falls b c.no_span (back_place c.back.area s.limits.segments (bucket_pages b))
next_or_falls s b c (Some head) = reading c (first_word (key_in s c b)) (Some head)

abbrev pub first_act : Setting → ℕ → Core → Option ℕ → Option Act
first_act s b c None = Some (acts.NoHint b (s.slot 0))
first_act s b c (Some head) = reading c (first_word (key_in s c b)) (Some head)

abbrev pub goes_further : Setting → ℕ → Core → Option Act
goes_further s b c = reading c (next_word (key_in s c b) c.search) (last_read c.search)

abbrev pub act_at : Setting → ℕ → Option ℕ → Core → Stage → Bool → Option Act
act_at s b h c NotBegun ended = first_act s b c h
act_at s b h c AtHint false = goes_further s b c
act_at s b h c AtHint true = next_or_falls s b c (next_span c.back.area (key_in s c b) (record c.search { read = [] }))
act_at s b h c FirstPass false = goes_further s b c
act_at s b h c FirstPass true = next_or_falls s b c (next_span c.back.area (key_in s c b) c.search)
act_at s b h c SecondPass false = goes_further s b c
act_at s b h c SecondPass true = next_or_falls s b c (next_span c.back.area (key_in s c b) c.search)

abbrev pub act_where : Setting → ℕ → Option ℕ → Core → Bool → Option ℕ → Option Act
act_where s b h c false picked = Some (acts.Active b)
act_where s b h c true None = act_at s b h c c.search.stage c.search.ended
act_where s b h c true (Some i) = None

-- the next act of the search for the bucket b, where the hint is h
abbrev pub expected : Setting → ℕ → Option ℕ → Core → Option Act
expected s b h c = act_where s b h c (c.vs.active b) c.search.picked

-- .. and what it leaves
abbrev pub activated : ℕ → Core → Core
activated b c = record c { vs = record { places = c.vs.places; active = updated c.vs.active b true; served = c.vs.served } }

abbrev pub stepped : Setting → ℕ → Core → Act → Core
stepped s b c (acts.Active bucket) = activated bucket c
stepped s b c (acts.Saw head word bits) = record c { search = after_saw (key_in s c b) c.search head word bits }
stepped s b c (acts.NoHint bucket slot) = record c { search = after_no_hint c.search }
stepped s b c (acts.NoSpan bucket) = record c { search = after_no_span c.search; no_span = true }
stepped s b c _ = c

-- the acts of a search proper
abbrev pub is_of_search : Act → Bool
is_of_search (acts.Saw head word bits) = true
is_of_search (acts.NoHint bucket slot) = true
is_of_search (acts.NoSpan bucket) = true
is_of_search _ = false

abbrev pub IsTurn : ℕ → Core → Act → Type 0
IsTurn b c act = ((act ≡ acts.Active b) × (c.vs.active b ≡ false)) ⊎ ((is_of_search act ≡ true) × (c.vs.active b ≡ true))

-- so many acts of a search lead from one core to another
abbrev pub Path : Setting → ℕ → Option ℕ → ℕ → Core → Core → Type 0
Path s b h zero c d = c ≡ d
Path s b h (suc k) c d = (act : Act) × (expected s b h c ≡ Some act) × IsTurn b c act × Path s b h k (stepped s b c act) d

some_or_none : {A : Type 0} {o : Option A} (x : A) → o ≡ Some x → o ≡ None → ⊥
some_or_none x e f = let z : Some x ≡ None = sym e ∙ f in let bad : ⊥ = cc in bad

-- all that go on as long as they can end alike
pub one_end : (s : Setting) (b : ℕ) (h : Option ℕ) (k l : ℕ) (c d e : Core) → Path s b h k c d → Path s b h l c e → expected s b h d ≡ None → expected s b h e ≡ None → d ≡ e
one_end s b h zero zero c d e p q f g = sym p ∙ q
one_end s b h zero (suc l) c d e p q f g = absurd (some_or_none q.0 q.1 (ap (expected s b h) p ∙ f))
one_end s b h (suc k) zero c d e p q f g = absurd (some_or_none p.0 p.1 (ap (expected s b h) q ∙ g))
one_end s b h (suc k) (suc l) c d e p q f g =
    let z : Some q.0 ≡ Some p.0 = sym q.1 ∙ p.1 in
    let same : q.0 ≡ p.0 = cc in
    one_end s b h k l (stepped s b c p.0) d e p.3 (subst (λ (act : Act). Path s b h l (stepped s b c act) e) same q.3) f g

-- what a search leaves as it was, but for its bucket, which is active then
abbrev pub base : Core → Core
base c = record c { search = not_begun; no_span = false }

abbrev pub lit : ℕ → Core → Bool → Core
lit b c true = base c
lit b c false = base (activated b c)

lit_step : (s : Setting) (b : ℕ) (c : Core) (act : Act) → is_of_search act ≡ true → c.vs.active b ≡ true → lit b (stepped s b c act) ((stepped s b c act).vs.active b) ≡ lit b c (c.vs.active b)
lit_step s b c (acts.Saw head word bits) h e = rw e refl
lit_step s b c (acts.NoHint bucket slot) h e = rw e refl
lit_step s b c (acts.NoSpan bucket) h e = rw e refl
lit_step s b c _ h e = absurd (true≢false (sym h))

pub path_base : (s : Setting) (b : ℕ) (h : Option ℕ) (k : ℕ) (c d : Core) → Path s b h k c d → d.vs.active b ≡ true → base d ≡ lit b c (c.vs.active b)
path_base s b h zero c d p a =
    let e : c.vs.active b ≡ true = ap (λ (x : Core). x.vs.active b) p ∙ a in
    rw e (ap base (sym p))
path_base s b h (suc k) c d p a = elim p.2 [
  | inr t ↦ path_base s b h k (stepped s b c p.0) d p.3 a ∙ lit_step s b c p.0 t.0 t.1
  | inl t ↦
      let q : Path s b h k (activated b c) d = subst (λ (act : Act). Path s b h k (stepped s b c act) d) t.0 p.3 in
      let r = path_base s b h k (activated b c) d q a in
      let lit_up : (activated b c).vs.active b ≡ true = (let e = eq-eqb b b refl in rw e refl) in
      let off = t.1 in
      r ∙ ap (lit b (activated b c)) lit_up ∙ ap (lit b c) (sym off)
]
