-- Where a block goes outside the front end, and why it is refused: one of these, by what the heap is.
use Rattle.std.proofs.Common.{◌≡◌, ℕ, ◌*◌, ◌<◌, Bool, true, ◌||◌, List, Option, Some, None, refl, sym, ap, ◌∙◌, subst, arith}
use Rattle.std.proofs.lemmas.Bool.{false≢true}
use Rattle.heap_model.specs.declared.Layer.{Layer}
use Rattle.heap_model.specs.declared.Layer.TheVariants as layers
use Rattle.heap_model.specs.Geometry.{Route, Small, Variable, Paged, Huge, route_of, is_small, is_variable, is_paged, is_huge, units_of, span_pages_of, pages_of}
use Rattle.heap_model.specs.Runs.{Run}
use Rattle.heap_model.specs.State.{Setting, Area}
use Rattle.heap_model.specs.Ranges.{gaps_of, vs_spans, vs_place, large_place}
use Rattle.heap_model.specs.Legal.{with_span}
use Rattle.heap_soundness.proofs.RowLemmas.{paged_pages}
use Rattle.serial_laws.specs.BackCalls.{block_span}
use Rattle.serial_laws.specs.VsCalls.{vs_span_for}
use Rattle.one_caller_laws.proofs.Core.{Core}
use Rattle.one_caller_laws.proofs.Ways.{Spot, Way, one_way}

-- the place of a block, and the area with the span that is made for it, if one is
pub record Site : Type 0 where
  pub area : Area
  pub start : ℕ
  pub granules : ℕ
  pub layer : Layer

abbrev pub is_for_vs : ℕ → Bool
is_for_vs n = is_small (route_of n) || is_variable (route_of n)

abbrev pub gaps_in_core : Area → Core → List Run
gaps_in_core a c = gaps_of (vs_spans a) c.vs.places

abbrev pub vs_site : Area → Run → Site
vs_site a r = record { area = a; start = 16 * r.first; granules = r.count; layer = layers.Vs }

abbrev pub span_site : Spot → ℕ → Area
span_site x n = with_span x.area (vs_span_for x.first n)

abbrev pub pages_site : Spot → ℕ → Site
pages_site x n = record { area = with_span x.area (block_span x.first n); start = 4096 * x.first; granules = 256 * pages_of n; layer = layers.Back }

pub data Why (s : Setting) (c : Core) (n : ℕ) (site : Site) : Type 0 where
  Gap : (r : Run) → is_for_vs n ≡ true → vs_place (gaps_in_core c.back.area c) (units_of n) ≡ Some r → site ≡ vs_site c.back.area r → Why s c n site
  Fresh : (x : Spot) (r : Run) → is_for_vs n ≡ true → vs_place (gaps_in_core c.back.area c) (units_of n) ≡ None → Way c.back.area s.limits.segments (span_pages_of n) (Some x) →
      vs_place (gaps_in_core (span_site x n) c) (units_of n) ≡ Some r → site ≡ vs_site (span_site x n) r → Why s c n site
  Pages : (x : Spot) → is_paged (route_of n) ≡ true → Way c.back.area s.limits.segments (pages_of n) (Some x) → site ≡ pages_site x n → Why s c n site
  Large : (a : ℕ) → is_huge (route_of n) ≡ true → large_place s.limits c.large (pages_of n) ≡ Some a → site ≡ record { area = c.back.area; start = a; granules = 256 * pages_of n; layer = layers.Large } → Why s c n site

pub data WhyNot (s : Setting) (c : Core) (n : ℕ) : Type 0 where
  NoGap : is_for_vs n ≡ true → vs_place (gaps_in_core c.back.area c) (units_of n) ≡ None → Way c.back.area s.limits.segments (span_pages_of n) None → WhyNot s c n
  NoPages : is_paged (route_of n) ≡ true → Way c.back.area s.limits.segments (pages_of n) None → WhyNot s c n
  NoLarge : is_huge (route_of n) ≡ true → large_place s.limits c.large (pages_of n) ≡ None → WhyNot s c n

-- a size has one route
vs_not_paged : (r : Route) → (is_small r || is_variable r) ≡ true → is_paged r ≡ true → ⊥
vs_not_paged Small a b = false≢true b
vs_not_paged Variable a b = false≢true b
vs_not_paged Paged a b = false≢true a
vs_not_paged Huge a b = false≢true a

vs_not_huge : (r : Route) → (is_small r || is_variable r) ≡ true → is_huge r ≡ true → ⊥
vs_not_huge Small a b = false≢true b
vs_not_huge Variable a b = false≢true b
vs_not_huge Paged a b = false≢true a
vs_not_huge Huge a b = false≢true a

paged_not_huge : (r : Route) → is_paged r ≡ true → is_huge r ≡ true → ⊥
paged_not_huge Small a b = false≢true a
paged_not_huge Variable a b = false≢true a
paged_not_huge Paged a b = false≢true b
paged_not_huge Huge a b = false≢true a

some_pages : (n : ℕ) → 0 < span_pages_of n
some_pages n = omega arith

some_none : {A : Type 0} {o : Option A} (x : A) → o ≡ Some x → o ≡ None → ⊥
some_none x e f = let z : Some x ≡ None = sym e ∙ f in let bad : ⊥ = cc in bad

one_some : {A : Type 0} {o : Option A} (x y : A) → o ≡ Some x → o ≡ Some y → x ≡ y
one_some x y e f = let z : Some x ≡ Some y = sym e ∙ f in let same : x ≡ y = cc in same

module _ (s : Setting) (c : Core) (n : ℕ) where
  span_spot : (x y : Option Spot) → Way c.back.area s.limits.segments (span_pages_of n) x → Way c.back.area s.limits.segments (span_pages_of n) y → x ≡ y
  span_spot x y v w = one_way c.back.area s.limits.segments (span_pages_of n) x y (some_pages n) v w

  page_spot : (x y : Option Spot) → is_paged (route_of n) ≡ true → Way c.back.area s.limits.segments (pages_of n) x → Way c.back.area s.limits.segments (pages_of n) y → x ≡ y
  page_spot x y p v w = let l = (paged_pages n p).0 in one_way c.back.area s.limits.segments (pages_of n) x y (omega (arith, l)) v w

  pub one_site : (x y : Site) → Why s c n x → Why s c n y → x ≡ y
  one_site x y (Gap r a e f) (Gap q b g h) = f ∙ ap (vs_site c.back.area) (one_some r q e g) ∙ sym h
  one_site x y (Gap r a e f) (Fresh z q b g w i h) = absurd (some_none r e g)
  one_site x y (Gap r a e f) (Pages z p w h) = absurd (vs_not_paged (route_of n) a p)
  one_site x y (Gap r a e f) (Large z p w h) = absurd (vs_not_huge (route_of n) a p)
  one_site x y (Fresh z q b g w i h) (Gap r a e f) = absurd (some_none r e g)
  one_site x y (Fresh z q b g w i h) (Fresh u r a e v j k) =
      let same = one_some z u refl (span_spot (Some z) (Some u) w v) in
      let j2 = subst (λ (t : Spot). vs_place (gaps_in_core (span_site t n) c) (units_of n) ≡ Some r) (sym same) j in
      h ∙ ap (vs_site (span_site z n)) (one_some q r i j2) ∙ ap (λ (t : Spot). vs_site (span_site t n) r) same ∙ sym k
  one_site x y (Fresh z q b g w i h) (Pages u p v k) = absurd (vs_not_paged (route_of n) b p)
  one_site x y (Fresh z q b g w i h) (Large u p v k) = absurd (vs_not_huge (route_of n) b p)
  one_site x y (Pages z p w h) (Gap r a e f) = absurd (vs_not_paged (route_of n) a p)
  one_site x y (Pages u p v k) (Fresh z q b g w i h) = absurd (vs_not_paged (route_of n) b p)
  one_site x y (Pages z p w h) (Pages u q v k) = h ∙ ap (λ (t : Spot). pages_site t n) (one_some z u refl (page_spot (Some z) (Some u) p w v)) ∙ sym k
  one_site x y (Pages z p w h) (Large u q v k) = absurd (paged_not_huge (route_of n) p q)
  one_site x y (Large z p w h) (Gap r a e f) = absurd (vs_not_huge (route_of n) a p)
  one_site x y (Large u p v k) (Fresh z q b g w i h) = absurd (vs_not_huge (route_of n) b p)
  one_site x y (Large u q v k) (Pages z p w h) = absurd (paged_not_huge (route_of n) p q)
  one_site x y (Large z p w h) (Large u q v k) = h ∙ ap (λ (a : ℕ). record { area = c.back.area; start = a; granules = 256 * pages_of n; layer = layers.Large }) (one_some z u w v) ∙ sym k

  pub site_or_none : (x : Site) → Why s c n x → WhyNot s c n → ⊥
  site_or_none x (Gap r a e f) (NoGap b g w) = some_none r e g
  site_or_none x (Gap r a e f) (NoPages p w) = vs_not_paged (route_of n) a p
  site_or_none x (Gap r a e f) (NoLarge p w) = vs_not_huge (route_of n) a p
  site_or_none x (Fresh z q b g w i h) (NoGap a e v) = some_none z refl (span_spot (Some z) None w v)
  site_or_none x (Fresh z q b g w i h) (NoPages p v) = vs_not_paged (route_of n) b p
  site_or_none x (Fresh z q b g w i h) (NoLarge p v) = vs_not_huge (route_of n) b p
  site_or_none x (Pages z p w h) (NoGap a e v) = vs_not_paged (route_of n) a p
  site_or_none x (Pages z p w h) (NoPages q v) = some_none z refl (page_spot (Some z) None p w v)
  site_or_none x (Pages z p w h) (NoLarge q v) = paged_not_huge (route_of n) p q
  site_or_none x (Large z p w h) (NoGap a e v) = vs_not_huge (route_of n) a p
  site_or_none x (Large z p w h) (NoPages q v) = paged_not_huge (route_of n) q p
  site_or_none x (Large z p w h) (NoLarge q v) = some_none z w v
