-- A block of the front end is taken amid a search: what is read stays, since places begin where they began.
use Rattle.std.proofs.Common.{◌≡◌, ℕ, zero, suc, ◌+◌, ◌*◌, ◌%◌, Bool, true, false, ◌&&◌, List, [], Option, Some, None, option_map, refl, sym, ap, ◌∙◌, subst, eqb, ltb}
use Rattle.heap_model.specs.declared.Act.{Act}
use Rattle.heap_model.specs.declared.Act.TheVariants as acts
use Rattle.heap_model.specs.declared.Layer.{Layer}
use Rattle.heap_model.specs.declared.Layer.TheVariants as layers
use Rattle.heap_model.specs.Buckets.{block_count, block_address, valid_bits}
use Rattle.heap_model.specs.Bits.{bits_of, word_of, starts_at, pick}
use Rattle.heap_model.specs.State.{Setting, Area, Span, Place, Status, change_found}
use Rattle.heap_model.specs.CallState.{Stage, NotBegun, AtHint, FirstPass, SecondPass, Search}
use Rattle.heap_model.specs.Search.{SearchKey, span_at, next_span, first_word, next_word, last_read}
use Rattle.heap_model.specs.Legal.{with_status}
use Rattle.serial_laws.proofs.Places.{any_changed}
use Rattle.search_laws.specs.Reading.{word_behind, picked_at}
use Rattle.one_caller_laws.proofs.Core.{Core, places_in_core}
use Rattle.one_caller_laws.proofs.Freeing.{changed_core}
use Rattle.one_caller_laws.proofs.Expected.{Path, key_in, reading, next_or_falls, first_act, act_at, act_where, expected, stepped}
use Rattle.one_caller_laws.proofs.Seeks.{IsDry, Seeks}
use Rattle.one_caller_laws.proofs.Turns.{Seeking}

-- where the status of a place changes, all begin where they began
pub starts_same : (u : Place → Bool) (z : Status) (ps : List Place) (a : ℕ) → starts_at (change_found u (with_status z) ps) a ≡ starts_at ps a
starts_same u z ps a = any_changed (λ p. eqb p.start a) u (with_status z) ps (λ p. refl)

abbrev pub BeginSo : List Place → List Place → Type 0
BeginSo ps qs = (a : ℕ) → starts_at qs a ≡ starts_at ps a

module _ (ps qs : List Place) (same : BeginSo ps qs) where
  bits_same : (x : Span) (w : ℕ) → bits_of qs x w ≡ bits_of ps x w
  bits_same x w = λ i. word_of (λ j. ltb (64 * w + j) (block_count x.bucket) && same (block_address x.bucket x.first (64 * w + j)) i) 0 64

  picked_same : (g : SearchKey) (x : Span) (k : ℕ) → picked_at qs g x k ≡ picked_at ps g x k
  picked_same g x k = ap (λ (n : ℕ). option_map (λ i. 64 * word_behind g k + i) (pick n (valid_bits g.bucket (word_behind g k)) (g.draw % 64))) (bits_same x (word_behind g k))

  dry_same : (g : SearchKey) (x : Span) (count : ℕ) → IsDry ps g x count → IsDry qs g x count
  dry_same g x count d = λ k l. picked_same g x k ∙ d k l

  seeks_same : (a : Area) (g : SearchKey) (h : Option ℕ) (f : Search) → Seeks a ps g h f → Seeks a qs g h f
  seeks_same a g h f x = record {
    lost = x.lost;
    picked = λ i e. let p = x.picked i e in record { span = p.span; there = p.there; read = p.read; behind = p.behind; below = p.below; shows = picked_same g p.span p.behind ∙ p.shows; going = p.going; begun = p.begun };
    reads = x.reads;
    hinted = x.hinted;
    here = λ y i e. dry_same g y f.exhausted (x.here y i e);
    behind = λ y i e. dry_same g y _ (x.behind y i e);
    over = x.over;
    going = x.going;
  }

-- other places of the front end
abbrev pub lfh_core : Core → List Place → Core
lfh_core c qs = record c { lfh = qs }

pub seeking_same : (s : Setting) (b : ℕ) (h : Option ℕ) (c : Core) (qs : List Place) → BeginSo c.lfh qs → Seeking s b h c → Seeking s b h (lfh_core c qs)
seeking_same s b h c qs same x = record {
  seeks = seeks_same c.lfh qs same c.back.area (key_in s c b) h c.search x.seeks;
  goes = x.goes;
  fell = λ e. let p = x.fell e in (λ y i. dry_same c.lfh qs same (key_in s c b) y _ (p.0 y i), p.1);
  second = x.second;
}

---- What is expected stays

module _ (s : Setting) (b : ℕ) (h : Option ℕ) where
  reading_same : (c : Core) (qs : List Place) → BeginSo c.lfh qs → (word : ℕ) (o : Option ℕ) → reading (lfh_core c qs) word o ≡ reading c word o
  reading_same c qs same word None = refl
  reading_same c qs same word (Some head) = λ i. option_map (λ x. acts.Saw head word (bits_same c.lfh qs same x word i)) (span_at c.back.area head)

  first_same : (c : Core) (qs : List Place) → BeginSo c.lfh qs → (o : Option ℕ) → first_act s b (lfh_core c qs) o ≡ first_act s b c o
  first_same c qs same None = refl
  first_same c qs same (Some head) = reading_same c qs same (first_word (key_in s c b)) (Some head)

  next_same : (c : Core) (qs : List Place) → BeginSo c.lfh qs → (o : Option ℕ) → next_or_falls s b (lfh_core c qs) o ≡ next_or_falls s b c o
  next_same c qs same None = refl
  next_same c qs same (Some head) = reading_same c qs same (first_word (key_in s c b)) (Some head)

  at_same : (c : Core) (qs : List Place) → BeginSo c.lfh qs → (t : Stage) (e : Bool) → act_at s b h (lfh_core c qs) t e ≡ act_at s b h c t e
  at_same c qs same NotBegun e = first_same c qs same h
  at_same c qs same AtHint false = reading_same c qs same (next_word (key_in s c b) c.search) (last_read c.search)
  at_same c qs same AtHint true = next_same c qs same (next_span c.back.area (key_in s c b) (record c.search { read = [] }))
  at_same c qs same FirstPass false = reading_same c qs same (next_word (key_in s c b) c.search) (last_read c.search)
  at_same c qs same FirstPass true = next_same c qs same (next_span c.back.area (key_in s c b) c.search)
  at_same c qs same SecondPass false = reading_same c qs same (next_word (key_in s c b) c.search) (last_read c.search)
  at_same c qs same SecondPass true = next_same c qs same (next_span c.back.area (key_in s c b) c.search)

  expected_same : (c : Core) (qs : List Place) → BeginSo c.lfh qs → expected s b h (lfh_core c qs) ≡ expected s b h c
  expected_same c qs same = where_same (c.vs.active b) c.search.picked
    where
      where_same : (active : Bool) (o : Option ℕ) → act_where s b h (lfh_core c qs) active o ≡ act_where s b h c active o
      where_same false o = refl
      where_same true None = at_same c qs same c.search.stage c.search.ended
      where_same true (Some i) = refl

  step_same : (c : Core) (qs : List Place) (act : Act) → stepped s b (lfh_core c qs) act ≡ lfh_core (stepped s b c act) qs
  step_same c qs (acts.Active q) = refl
  step_same c qs (acts.Saw head word bits) = refl
  step_same c qs (acts.NoHint q slot) = refl
  step_same c qs (acts.NoSpan q) = refl
  step_same c qs _ = refl

  step_lfh : (c : Core) (act : Act) → (stepped s b c act).lfh ≡ c.lfh
  step_lfh c (acts.Active q) = refl
  step_lfh c (acts.Saw head word bits) = refl
  step_lfh c (acts.NoHint q slot) = refl
  step_lfh c (acts.NoSpan q) = refl
  step_lfh c _ = refl

  step_places : (c : Core) (act : Act) → places_in_core (stepped s b c act) ≡ places_in_core c
  step_places c (acts.Active q) = refl
  step_places c (acts.Saw head word bits) = refl
  step_places c (acts.NoHint q slot) = refl
  step_places c (acts.NoSpan q) = refl
  step_places c _ = refl

  pub path_lfh : (k : ℕ) (c d : Core) → Path s b h k c d → d.lfh ≡ c.lfh
  path_lfh zero c d p = ap (λ (x : Core). x.lfh) (sym p)
  path_lfh (suc k) c d p = path_lfh k (stepped s b c p.0) d p.3 ∙ step_lfh c p.0

  pub path_places : (k : ℕ) (c d : Core) → Path s b h k c d → places_in_core d ≡ places_in_core c
  path_places zero c d p = ap places_in_core (sym p)
  path_places (suc k) c d p = path_places k (stepped s b c p.0) d p.3 ∙ step_places c p.0

  -- one path goes on in both
  pub path_same : (k : ℕ) (c d : Core) (qs : List Place) → BeginSo c.lfh qs → Path s b h k c d → Path s b h k (lfh_core c qs) (lfh_core d qs)
  path_same zero c d qs same p = ap (λ (x : Core). lfh_core x qs) p
  path_same (suc k) c d qs same p =
      let same2 : BeginSo (stepped s b c p.0).lfh qs = λ a. same a ∙ ap (λ (ps : List Place). starts_at ps a) (sym (step_lfh c p.0)) in
      (p.0, expected_same c qs same ∙ p.1, p.2, subst (λ (x : Core). Path s b h k x (lfh_core d qs)) (sym (step_same c qs p.0)) (path_same k (stepped s b c p.0) d qs same2 p.3))

  -- two paths, one behind the other
  pub path_on : (k l : ℕ) (c d e : Core) → Path s b h k c d → Path s b h l d e → (j : ℕ) × Path s b h j c e
  path_on zero l c d e p q = (l, subst (λ (x : Core). Path s b h l x e) (sym p) q)
  path_on (suc k) l c d e p q = let r = path_on k l (stepped s b c p.0) d e p.3 q in (suc r.0, (p.0, p.1, p.2, r.1))

-- a core whose block of the front end is restatused
pub restatused_lfh : (c : Core) (o : Option Layer) (u : Place → Bool) (z : Status) → o ≡ Some layers.Lfh → changed_core c o (change_found u (with_status z)) ≡ lfh_core c (change_found u (with_status z) c.lfh)
restatused_lfh c o u z e = ap (λ (o : Option Layer). changed_core c o (change_found u (with_status z))) e
