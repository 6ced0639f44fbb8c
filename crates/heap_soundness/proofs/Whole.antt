-- What the law says, from the invariant.
use Rattle.std.proofs.Common.{◌≡◌, ℕ, ◌+◌, ◌-◌, ◌*◌, ◌/◌, ◌%◌, ◌<◌, ◌≤◌, Bool, true, false, ◌&&◌, List, [], ◌∷◌, ◌++◌, length, refl, sym, ap, ◌∙◌, subst, arith, eqb, leb, ltb, inl, inr, cond}
use Rattle.std.specs.List.{AllByRecursion}
use Rattle.std.proofs.lemmas.Bool.{and_parts, and_from, ltb-true, eqb-true, eq-eqb, both_ways}
use Rattle.std.proofs.lemmas.Bool.Decides.{nat_tests}
use Rattle.heap_model.specs.declared.Kind.{Kind}
use Rattle.heap_model.specs.declared.Kind.TheVariants as kinds
use Rattle.heap_model.specs.declared.Layer.{Layer}
use Rattle.heap_model.specs.declared.Layer.TheVariants as layers
use Rattle.heap_model.specs.declared.Limits.{Limits}
use Rattle.heap_model.specs.declared.Entry.{Entry}
use Rattle.heap_model.specs.Buckets.{block_size}
use Rattle.heap_model.specs.State.{Area, Setting, IsValidSetting, Span, Place, is_kind, is_layer, address, all_places}
use Rattle.heap_model.specs.CallState.{Configuration}
use Rattle.heap_model.specs.Legal.{may_follow, after}
use Rattle.heap_model.proofs.GateSound.{row_of}
use Rattle.heap_model.proofs.Others.{act_other}
use Rattle.heap_model.proofs.Undisturbed.{spans_stay}
use Rattle.heap_soundness.specs.Sound.{IsOneOf, AreInOrder, AreApart, AreDisjoint, IsCommittedSpan, IsInVs, IsInLfh, IsInBack, IsInLarge, IsAligned, IsSound, IsStableStep}
use Rattle.heap_soundness.specs.Invariant.{Keeps}
use Rattle.heap_soundness.specs.Legal.{IsSoundNow}
use Rattle.heap_soundness.proofs.Lists.{all_at, all_append, disjoint_append, any_in, any_found}
use Rattle.heap_soundness.proofs.Spans.{above, apart_spans}
use Rattle.heap_soundness.proofs.Enums.{kind_is}
use Rattle.heap_soundness.proofs.GapRuns.{gaps_of_two}
use Rattle.heap_soundness.proofs.Layers.{lfh_end}
use Rattle.heap_soundness.proofs.GateCounts.{few_counted}
use Rattle.heap_soundness.proofs.MadeSpans.{lfh_span}
use Rattle.heap_soundness.proofs.ByStart.{large_fits}
use Rattle.heap_soundness.proofs.Steps.{bucket_pages_of}

---- No two places of the heap share a byte

-- a place lies in a span of the kind
pub record LiesInSpan (xs : List Span) (kind : Kind) (p : Place) : Type 0 where
  pub span : Span
  pub there : IsOneOf span xs
  pub is : span.kind ≡ kind
  pub low : 4096 * span.first ≤ p.start
  pub high : p.start + 16 * p.granules ≤ 4096 * (span.first + span.pages)

-- spans of two kinds are two
apart_kinds : (xs : List Span) (j k : Kind) (p q : Place) → AreInOrder 0 xs → is_kind j k ≡ false → LiesInSpan xs j p → LiesInSpan xs k q → AreApart p q
apart_kinds xs j k p q a ne u v =
    let ul = u.low in
    let uh = u.high in
    let vl = v.low in
    let vh = v.high in
    elim (apart_spans 0 xs u.span v.span a u.there v.there) [
      | inl e ↦
          let same : j ≡ k = sym u.is ∙ (ap (λ (z : Span). z.kind) e ∙ v.is) in
          let f : is_kind k k ≡ false = subst (λ (z : Kind). is_kind z k ≡ false) same ne in
          absurd (both_ways (is_kind k k) f (own k))
      | inr (inl l) ↦ inl (omega arith)
      | inr (inr l) ↦ inr (omega arith)
    ]
  where
    own : (k : Kind) → is_kind k k ≡ true
    own kinds.Header = refl
    own kinds.Free = refl
    own kinds.Vs = refl
    own kinds.Lfh = refl
    own kinds.Back = refl

-- the large area begins behind all spans
below_large : (l : Limits) (a : Area) (kind : Kind) (p q : Place) → AreInOrder 0 a.spans → AllByRecursion (IsCommittedSpan a) a.spans → a.reserved ≤ l.segments → LiesInSpan a.spans kind p → IsInLarge l q.start q.granules → AreApart p q
below_large l a kind p q o c r u v =
    let m = (above 0 a.spans u.span o u.there).1 in
    let d = all_at (IsCommittedSpan a) u.span a.spans c u.there (u.span.first + (u.span.pages - 1)) (omega arith) (omega arith) in
    let e = ltb-true ((u.span.first + (u.span.pages - 1)) / 256) a.reserved (and_parts (ltb ((u.span.first + (u.span.pages - 1)) / 256) a.reserved) (leb 2 ((u.span.first + (u.span.pages - 1)) % 256)) d.0).0 in
    let h = u.high in
    let b = v.begins in
    inl (omega arith)

all_pairs : (P Q : Place → Type 0) (ps qs : List Place) → ((p q : Place) → P p → Q q → AreApart p q) → AllByRecursion P ps → AllByRecursion Q qs → AllByRecursion (λ p. AllByRecursion (AreApart p) qs) ps
all_pairs P Q [] qs f a b = tt
all_pairs P Q (p ∷ ps) qs f a b = (one qs b, all_pairs P Q ps qs f a.1 b)
  where
    one : (qs : List Place) → AllByRecursion Q qs → AllByRecursion (AreApart p) qs
    one [] b = tt
    one (q ∷ qs) b = (f p q a.0 b.0, one qs b.1)

all_map : (P Q : Place → Type 0) (ps : List Place) → ((p : Place) → P p → Q p) → AllByRecursion P ps → AllByRecursion Q ps
all_map P Q [] f a = tt
all_map P Q (p ∷ ps) f a = (f p a.0, all_map P Q ps f a.1)

module _ (s : Setting) (m : Configuration) (w : Keeps s m) where
  pub in_vs : AllByRecursion (LiesInSpan m.state.back.area.spans kinds.Vs) m.state.vs.places
  in_vs = all_map (λ p. IsInVs m.state.back.area.spans p.start p.granules) (LiesInSpan m.state.back.area.spans kinds.Vs) m.state.vs.places (λ p h. record { span = h.span; there = h.there; is = h.kind; low = let b = h.behind in omega arith; high = h.before }) w.heap.vs.places

  pub in_lfh : AllByRecursion (LiesInSpan m.state.back.area.spans kinds.Lfh) m.state.lfh
  in_lfh = all_map (λ p. IsInLfh m.state.back.area.spans p.start p.granules) (LiesInSpan m.state.back.area.spans kinds.Lfh) m.state.lfh (λ p h. let e = lfh_end m.state.back.area.spans p.start p.granules (bucket_pages_of s m w.of_kinds) h in record { span = h.span; there = h.there; is = h.kind; low = let b = e.0 in omega arith; high = e.1 }) w.heap.lfh.places

  pub in_back : AllByRecursion (LiesInSpan m.state.back.area.spans kinds.Back) m.state.back.places
  in_back = all_map (λ p. IsInBack m.state.back.area.spans p.start p.granules) (LiesInSpan m.state.back.area.spans kinds.Back) m.state.back.places (λ p h. record { span = h.span; there = h.there; is = h.kind; low = let b = h.begins in omega arith; high = let b = h.begins in let c = h.whole in omega arith }) w.heap.back.places

  large_apart : (kind : Kind) (ps : List Place) → AllByRecursion (LiesInSpan m.state.back.area.spans kind) ps → AllByRecursion (λ p. AllByRecursion (AreApart p) m.state.large) ps
  large_apart kind ps a = all_pairs (LiesInSpan m.state.back.area.spans kind) (λ q. IsInLarge s.limits q.start q.granules) ps m.state.large (λ p q u v. below_large s.limits m.state.back.area kind p q w.heap.spans.in_order w.heap.spans.committed w.reserved u v) a w.heap.large.places

  kinds_apart : (j k : Kind) (ps qs : List Place) → is_kind j k ≡ false → AllByRecursion (LiesInSpan m.state.back.area.spans j) ps → AllByRecursion (LiesInSpan m.state.back.area.spans k) qs → AllByRecursion (λ p. AllByRecursion (AreApart p) qs) ps
  kinds_apart j k ps qs ne a b = all_pairs (LiesInSpan m.state.back.area.spans j) (LiesInSpan m.state.back.area.spans k) ps qs (λ p q u v. apart_kinds m.state.back.area.spans j k p q w.heap.spans.in_order ne u v) a b

  pub all_disjoint : AreDisjoint (all_places m.state)
  all_disjoint =
      disjoint_append (m.state.lfh ++ m.state.vs.places ++ m.state.back.places) m.state.large
      (disjoint_append (m.state.lfh ++ m.state.vs.places) m.state.back.places
      (disjoint_append m.state.lfh m.state.vs.places w.heap.lfh.disjoint w.heap.vs.disjoint (kinds_apart kinds.Lfh kinds.Vs m.state.lfh m.state.vs.places refl in_lfh in_vs))
      w.heap.back.disjoint
      (all_append (λ p. AllByRecursion (AreApart p) m.state.back.places) m.state.lfh m.state.vs.places (kinds_apart kinds.Lfh kinds.Back m.state.lfh m.state.back.places refl in_lfh in_back) (kinds_apart kinds.Vs kinds.Back m.state.vs.places m.state.back.places refl in_vs in_back)))
      w.heap.large.disjoint
      (all_append (λ p. AllByRecursion (AreApart p) m.state.large) (m.state.lfh ++ m.state.vs.places) m.state.back.places
      (all_append (λ p. AllByRecursion (AreApart p) m.state.large) m.state.lfh m.state.vs.places (large_apart kinds.Lfh m.state.lfh in_lfh) (large_apart kinds.Vs m.state.vs.places in_vs))
      (large_apart kinds.Back m.state.back.places in_back))

  -- what holds of the places of each layer holds of all
  pub of_all : (P : Place → Type 0) → AllByRecursion P m.state.lfh → AllByRecursion P m.state.vs.places → AllByRecursion P m.state.back.places → AllByRecursion P m.state.large → AllByRecursion P (all_places m.state)
  of_all P a b c d = all_append P (m.state.lfh ++ m.state.vs.places ++ m.state.back.places) m.state.large (all_append P (m.state.lfh ++ m.state.vs.places) m.state.back.places (all_append P m.state.lfh m.state.vs.places a b) c) d

---- Addresses

-- the address is a byte of the place, and aligned
pub record HasAddress (p : Place) : Type 0 where
  pub low : p.start ≤ address p
  pub high : address p < p.start + 16 * p.granules
  pub aligned : IsAligned (address p) p.layer

abbrev AddressOf : Place → Layer → Type 0
AddressOf p l = (p.start ≤ cond (is_layer l layers.Vs) (p.start + 16) p.start) × (cond (is_layer l layers.Vs) (p.start + 16) p.start < p.start + 16 * p.granules) × IsAligned (cond (is_layer l layers.Vs) (p.start + 16) p.start) l

with_layer : (p : Place) (l : Layer) → p.layer ≡ l → AddressOf p l → HasAddress p
with_layer p l e a = let b = subst (AddressOf p) (sym e) a in record { low = b.0; high = b.1; aligned = b.2 }

block_aligned : (first i size granules start : ℕ) → start ≡ 4096 * first + 64 + i * size → 16 * granules ≡ size → start % 16 ≡ 0
block_aligned first i size granules start b e = let f : i * (16 * granules) ≡ i * size = ap (λ (n : ℕ). i * n) e in omega arith

size_some : (b : ℕ) → 0 < b → 0 < block_size b
size_some b h = grind (arith, nat_tests)

module _ (s : Setting) (m : Configuration) (w : Keeps s m) where
  buckets : (x : Span) → IsOneOf x m.state.back.area.spans → x.kind ≡ kinds.Lfh → 0 < x.bucket
  buckets x i k = let r = (lfh_span s m.state x w.of_kinds i k).bucket.0 in omega arith

  in_layer : (P Q : Place → Type 0) (ps : List Place) → ((p : Place) → P p → Q p → HasAddress p) → AllByRecursion P ps → AllByRecursion Q ps → AllByRecursion HasAddress ps
  in_layer P Q [] f a b = tt
  in_layer P Q (p ∷ ps) f a b = (f p a.0 b.0, in_layer P Q ps f a.1 b.1)

  pub all_addresses : AllByRecursion HasAddress (all_places m.state)
  all_addresses = of_all s m w HasAddress
      (in_layer (λ p. p.layer ≡ layers.Lfh) (λ p. IsInLfh m.state.back.area.spans p.start p.granules) m.state.lfh (λ p e h. with_layer p layers.Lfh e (of_lfh p h)) w.homes.lfh w.heap.lfh.places)
      (in_layer (λ p. p.layer ≡ layers.Vs) (λ p. IsInVs m.state.back.area.spans p.start p.granules) m.state.vs.places (λ p e h. with_layer p layers.Vs e (let t = h.two in let a = h.aligned in (omega arith, omega arith, omega arith))) w.homes.vs w.heap.vs.places)
      (in_layer (λ p. p.layer ≡ layers.Back) (λ p. IsInBack m.state.back.area.spans p.start p.granules) m.state.back.places (λ p e h. with_layer p layers.Back e (of_back p h)) w.homes.back w.heap.back.places)
      (in_layer (λ p. p.layer ≡ layers.Large) (λ p. IsInLarge s.limits p.start p.granules) m.state.large (λ p e h. with_layer p layers.Large e (let b = h.begins in let c = h.whole in let n = h.enough in (omega arith, omega arith, omega arith))) w.homes.large w.heap.large.places)
    where
      of_lfh : (p : Place) → IsInLfh m.state.back.area.spans p.start p.granules → AddressOf p layers.Lfh
      of_lfh p h =
          let n = size_some h.span.bucket (buckets h.span h.there h.kind) in
          let g : 0 < p.granules = some (block_size h.span.bucket) n h.size in
          (omega arith, omega arith, block_aligned h.span.first h.index (block_size h.span.bucket) p.granules p.start h.block h.size)
        where
          some : (size : ℕ) → 0 < size → 16 * p.granules ≡ size → 0 < p.granules
          some size n e = omega arith

      of_back : (p : Place) → IsInBack m.state.back.area.spans p.start p.granules → AddressOf p layers.Back
      of_back p h =
          let b = h.begins in
          let c = h.whole in
          let n = (above 0 m.state.back.area.spans h.span w.heap.spans.in_order h.there).1 in
          (omega arith, omega arith, omega arith)

  pub state_sound : IsValidSetting s → IsSound s m.state
  state_sound valid = record {
    reserved = w.reserved;
    usable = w.heap.usable;
    spans = w.heap.spans;
    of_kinds = w.of_kinds;
    homes = w.homes;
    places = record { vs = w.heap.vs.places; lfh = w.heap.lfh.places; back = w.heap.back.places; large = w.heap.large.places };
    disjoint = all_disjoint s m w;
    aligned = all_map HasAddress (λ p. IsAligned (address p) p.layer) (all_places m.state) (λ p h. h.aligned) all_addresses;
    gaps = gaps_of_two m.state.back.area.spans m.state.vs.places w.heap.spans.in_order w.heap.vs;
    few_large = few (large_fits s.limits m.state.large w.heap.large.places w.heap.large.disjoint);
    sizes = w.sizes;
  }
    where
      few : 128 * length m.state.large ≤ s.limits.large_pages → length m.state.large ≤ 32
      few h = let l = valid.limits.large_pages in omega arith

---- The step

abbrev span_of : ℕ → ℕ → Kind → ℕ → ℕ → Span
span_of first pages kind bucket slot = record { first = first; pages = pages; kind = kind; bucket = bucket; slot = slot }

-- the same span, by a test
abbrev is_same : Span → Span → Bool
is_same x y = is_kind y.kind x.kind && eqb y.first x.first && eqb y.pages x.pages && eqb y.bucket x.bucket && eqb y.slot x.slot

same_if : (x y : Span) → is_same x y ≡ true → y ≡ x
same_if x y h =
    let p1 = and_parts _ (eqb y.slot x.slot) h in
    let p2 = and_parts _ (eqb y.bucket x.bucket) p1.0 in
    let p3 = and_parts _ (eqb y.pages x.pages) p2.0 in
    let p4 = and_parts (is_kind y.kind x.kind) (eqb y.first x.first) p3.0 in
    fields x.first x.pages x.kind x.bucket x.slot y.first y.pages y.kind y.bucket y.slot (eqb-true _ _ p4.1) (eqb-true _ _ p3.1) (kind_is y.kind x.kind p4.0) (eqb-true _ _ p2.1) (eqb-true _ _ p1.1)
  where
    fields : (f p : ℕ) (k : Kind) (b t f' p' : ℕ) (k' : Kind) (b' t' : ℕ) → f' ≡ f → p' ≡ p → k' ≡ k → b' ≡ b → t' ≡ t → span_of f' p' k' b' t' ≡ span_of f p k b t
    fields f p k b t f' p' k' b' t' e1 e2 e3 e4 e5 = cc

same_self : (x : Span) → x.kind ≡ kinds.Lfh → is_same x x ≡ true
same_self x k = and_from _ (eqb x.slot x.slot) (and_from _ (eqb x.bucket x.bucket) (and_from _ (eqb x.pages x.pages) (and_from (is_kind x.kind x.kind) (eqb x.first x.first) kind (eq-eqb x.first x.first refl)) (eq-eqb x.pages x.pages refl)) (eq-eqb x.bucket x.bucket refl)) (eq-eqb x.slot x.slot refl)
  where
    kind : is_kind x.kind x.kind ≡ true
    kind = ap (λ (k : Kind). is_kind k k) k

pub step_stable : (s : Setting) (m : Configuration) (e : Entry) → Keeps s m → may_follow s m e ≡ true → IsStableStep e.caller m (after s m e)
step_stable s m e w h = record {
  lfh = λ d i x k there.
      let f = any_found (is_same x) (after s m e).state.back.area.spans (spans_stay s m d e.caller e.act (is_same x) (λ y q. is_lfh x y k q) w.gate i (row_of s m e h) (any_in (is_same x) m.state.back.area.spans x there (same_self x k))) in
      subst (λ (z : Span). IsOneOf z (after s m e).state.back.area.spans) (same_if x f.0 f.2) f.1;
  others = λ d ne. act_other s m e.caller d e.act ne (row_of s m e h) w.gate;
}
  where
    is_lfh : (x y : Span) → x.kind ≡ kinds.Lfh → is_same x y ≡ true → is_kind y.kind kinds.Lfh ≡ true
    is_lfh x y k q = ap (λ (z : Span). is_kind z.kind kinds.Lfh) (same_if x y q) ∙ ap (λ (j : Kind). is_kind j kinds.Lfh) k

pub sound_now : (s : Setting) (m : Configuration) → IsValidSetting s → Keeps s m → IsSoundNow s m
sound_now s m valid w = record { state = state_sound s m w valid; short = w.short; gate = w.gate; counted = w.counted; few = few_counted s m.state.gate w.counted; alone = w.alone; makers = w.makers; hints = w.hints; next = λ e h. step_stable s m e w h }
