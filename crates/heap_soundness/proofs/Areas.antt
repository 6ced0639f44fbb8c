-- The spans and the places in them, as spans are made, change and go.
use Rattle.std.proofs.Common.{◌≡◌, ℕ, zero, suc, ◌+◌, ◌-◌, ◌*◌, ◌/◌, ◌%◌, ◌<◌, ◌≤◌, true, false, not, ◌&&◌, List, ◌∷◌, Some, refl, sym, ap, ◌∙◌, subst, arith, eqb, leb, ltb, inl, inr, ◌⊎◌}
use Rattle.std.specs.List.{find, list_any, AllByRecursion}
use Rattle.std.proofs.lemmas.Bool.{cases_Bool, cases_lt, both_ways, and_parts, and_from, and_right, or_left, or_right, or_cases, le-leb, lt-ltb, leb-true, ltb-true, eqb-true, eq-eqb, false_from_ne_true, false≢true}
use Rattle.heap_model.specs.declared.Kind.TheVariants as kinds
use Rattle.heap_model.specs.declared.Limits.{Limits}
use Rattle.heap_model.specs.State.{Area, Span, Place, is_kind, updated, insert_span, change_found, remove_found}
use Rattle.heap_model.specs.Backend.{in_span, is_usable, is_free}
use Rattle.heap_model.specs.Ranges.{in_place, is_clear}
use Rattle.heap_model.specs.Search.{begins_at}
use Rattle.heap_model.specs.Legal.{commit, with_span, is_back_at, with_pages, lies_in, has_place}
use Rattle.heap_soundness.specs.Sound.{IsOneOf, AreInOrder, AreApart, IsCommittedSpan, IsInVs, IsInLfh, IsInBack}
use Rattle.heap_soundness.specs.Invariant.{NonePassesAlone, IsBeside, IsVsSound, AreLayersSound}
use Rattle.heap_soundness.proofs.Lists.{all_at, all_from, all_weaker, none_at, none_from, found_passes, found_in, find_some}
use Rattle.heap_soundness.proofs.Spans.{above, apart_spans, same_first, in_some, in_inserted, inserted_cases, in_removed, removed_from, in_changed, changed_in, changed_cases, removed_in_order, resized_in_order}
use Rattle.heap_soundness.proofs.BackendLemmas.{AreFree, usable_of, outside_of, with_span_sound, in_span_from}
use Rattle.heap_soundness.proofs.VsGaps.{in_at}
use Rattle.heap_soundness.proofs.Layers.{layer_weaker, HaveBucketPages, lfh_end}

---- A place whose span is still there

pub vs_still : (xs ys : List Span) (start granules : ℕ) → (h : IsInVs xs start granules) → IsOneOf h.span ys → IsInVs ys start granules
vs_still xs ys start granules h i = record { span = h.span; there = i; kind = h.kind; behind = h.behind; before = h.before; two = h.two; aligned = h.aligned }

pub lfh_still : (xs ys : List Span) (start granules : ℕ) → (h : IsInLfh xs start granules) → IsOneOf h.span ys → IsInLfh ys start granules
lfh_still xs ys start granules h i = record { span = h.span; there = i; kind = h.kind; index = h.index; below = h.below; block = h.block; size = h.size }

pub back_still : (xs ys : List Span) (start granules : ℕ) → (h : IsInBack xs start granules) → IsOneOf h.span ys → IsInBack ys start granules
back_still xs ys start granules h i = record { span = h.span; there = i; kind = h.kind; begins = h.begins; whole = h.whole }

vs_moved : (xs ys : List Span) (ps : List Place) → ((p : Place) → IsOneOf p ps → (h : IsInVs xs p.start p.granules) → IsOneOf h.span ys) →
    ((y : Span) → IsOneOf y ys → y.kind ≡ kinds.Vs → IsOneOf y xs ⊎ NonePassesAlone (is_clear ps) (256 * y.first + 3) (256 * (y.first + y.pages))) → IsVsSound xs ps → IsVsSound ys ps
vs_moved xs ys ps f g h = record {
  places = all_weaker (λ p. IsInVs xs p.start p.granules) (λ p. IsInVs ys p.start p.granules) ps (λ p i k. vs_still xs ys p.start p.granules k (f p i k)) h.places;
  disjoint = h.disjoint;
  clear = λ y i k. elim (g y i k) [ inl j ↦ h.clear y j k | inr n ↦ n ];
}

---- A span is made where units are free

module _ (l : Limits) (a : Area) (x : Span) (vs lfh back large : List Place) (some : 0 < x.pages) (free : AreFree a x.first x.pages) (h : AreLayersSound l a vs lfh back large) where
  free_at : (u : ℕ) → x.first ≤ u → u < x.first + x.pages → is_free a u ≡ true
  free_at u low high = let e : x.first + (u - x.first) ≡ u = omega arith in subst (λ (n : ℕ). is_free a n ≡ true) e (free (u - x.first) (omega arith))

  -- no granule of x is in a VS place
  is_new : (g : ℕ) → 256 * x.first ≤ g → g < 256 * (x.first + x.pages) → is_clear vs g ≡ true
  is_new g low high = ap not (none_from (in_place g) vs (all_from (λ p. in_place g p ≡ false) vs (λ p i. false_from_ne_true (in_place g p) (λ k. no p (all_at (λ p. IsInVs a.spans p.start p.granules) p vs h.vs.places i) (in_at g p k)))))
    where
      no : (p : Place) → IsInVs a.spans p.start p.granules → (p.start / 16 ≤ g) × (g < p.start / 16 + p.granules) → ⊥
      no p home k =
          let b = home.behind in
          let e = home.before in
          let k0 = k.0 in
          let k1 = k.1 in
          both_ways _ (outside_of a (g / 256) (free_at (g / 256) (omega arith) (omega arith))) (in_some a.spans home.span (g / 256) home.there (omega arith) (omega arith))

  new_clear : NonePassesAlone (is_clear vs) (256 * x.first + 3) (256 * (x.first + x.pages))
  new_clear k low high t = elim (cases_lt (suc k) (256 * (x.first + x.pages))) [
    | inl m ↦ inl (m, is_new (suc k) (omega arith) m)
    | inr m ↦ last k low high m
  ]
    where
      last : (k : ℕ) → 256 * x.first + 3 ≤ k → k < 256 * (x.first + x.pages) → 256 * (x.first + x.pages) ≤ suc k → IsBeside (is_clear vs) (256 * x.first + 3) (256 * (x.first + x.pages)) k
      last zero low high m = absurd (omega arith)
      last (suc j) low high m = inr (j, refl, omega (arith, some), is_new j (omega (arith, some)) (omega arith))

  pub spanned : AreLayersSound l (with_span a x) vs lfh back large
  spanned = record {
    usable = λ u e. elim (or_cases (leb x.first u && ltb u (x.first + x.pages)) (a.committed u) e) [
      | inl f ↦ let q = and_parts (leb x.first u) (ltb u (x.first + x.pages)) f in usable_of a u (free_at u (leb-true _ _ q.0) (ltb-true _ _ q.1))
      | inr f ↦ h.usable u f
    ];
    spans = with_span_sound a x some free h.spans;
    vs = vs_moved a.spans (insert_span x a.spans) vs (λ p i k. in_inserted x k.span a.spans k.there) (λ y i k. by_span y (inserted_cases x y a.spans i)) h.vs;
    lfh = layer_weaker (IsInLfh a.spans) (IsInLfh (insert_span x a.spans)) lfh (λ p i k. lfh_still a.spans (insert_span x a.spans) p.start p.granules k (in_inserted x k.span a.spans k.there)) h.lfh;
    back = layer_weaker (IsInBack a.spans) (IsInBack (insert_span x a.spans)) back (λ p i k. back_still a.spans (insert_span x a.spans) p.start p.granules k (in_inserted x k.span a.spans k.there)) h.back;
    large = h.large;
  }
    where
      by_span : (y : Span) → (x ≡ y) ⊎ IsOneOf y a.spans → IsOneOf y a.spans ⊎ NonePassesAlone (is_clear vs) (256 * y.first + 3) (256 * (y.first + y.pages))
      by_span y (inl e) = inr (subst (λ (z : Span). NonePassesAlone (is_clear vs) (256 * z.first + 3) (256 * (z.first + z.pages))) e new_clear)
      by_span y (inr i) = inl i

  -- .. and no block of the back end begins there
  pub new_begins : AllByRecursion (λ p. p.start ≡ 4096 * x.first → ⊥) back
  new_begins = all_from (λ p. p.start ≡ 4096 * x.first → ⊥) back (λ p i e. no p (all_at (λ p. IsInBack a.spans p.start p.granules) p back h.back.places i) e)
    where
      no : (p : Place) → IsInBack a.spans p.start p.granules → p.start ≡ 4096 * x.first → ⊥
      no p home e =
          let b = home.begins in
          let pages = (above 0 a.spans home.span h.spans.in_order home.there).1 in
          both_ways _ (outside_of a x.first (free_at x.first (omega arith) (omega (arith, some)))) (in_some a.spans home.span x.first home.there (omega arith) (omega arith))

---- A span that has no place goes

module _ (l : Limits) (a : Area) (x : Span) (vs lfh back large : List Place) (pages : HaveBucketPages a.spans) (found : find (begins_at x.first) a.spans ≡ Some x)
    (no_vs : x.kind ≡ kinds.Vs → has_place 4096 vs x ≡ false) (no_lfh : x.kind ≡ kinds.Lfh → has_place 4096 lfh x ≡ false) (no_back : x.kind ≡ kinds.Back → has_place 4096 back x ≡ false)
    (h : AreLayersSound l a vs lfh back large) where
  -- a span with a place is another one
  other : (ps : List Place) (p : Place) (y : Span) → IsOneOf p ps → IsOneOf y a.spans → (y.kind ≡ x.kind → has_place 4096 ps x ≡ false) → 4096 * y.first ≤ p.start → p.start + 16 * p.granules ≤ 4096 * (y.first + y.pages) → begins_at x.first y ≡ false
  other ps p y i j none low high = false_from_ne_true (begins_at x.first y) (λ e. no (same_first 0 a.spans y x h.spans.in_order j (found_in (begins_at x.first) a.spans x found) (eqb-true y.first x.first e)))
    where
      no : y ≡ x → ⊥
      no e =
          let here : has_place 4096 ps y ≡ false = subst (λ (z : Span). has_place 4096 ps z ≡ false) (sym e) (none (ap (λ (z : Span). z.kind) e)) in
          both_ways _ (none_at (lies_in 4096 y) ps p here i) (and_from (leb (4096 * y.first) p.start) (leb (p.start + 16 * p.granules) (4096 * (y.first + y.pages))) (le-leb _ _ low) (le-leb _ _ high))

  abbrev rest : List Span
  rest = remove_found (begins_at x.first) a.spans

  pub unspanned : AreLayersSound l (record { reserved = a.reserved; committed = a.committed; spans = remove_found (begins_at x.first) a.spans }) vs lfh back large
  unspanned = record {
    usable = h.usable;
    spans = record { in_order = removed_in_order (begins_at x.first) 0 a.spans h.spans.in_order; committed = all_from (IsCommittedSpan a) rest (λ y i. all_at (IsCommittedSpan a) y a.spans h.spans.committed (removed_from (begins_at x.first) y a.spans i)) };
    vs = vs_moved a.spans rest vs
        (λ p i k. in_removed (begins_at x.first) k.span a.spans (other vs p k.span i k.there (λ e. no_vs (sym e ∙ k.kind)) (let b = k.behind in omega arith) k.before) k.there)
        (λ y i k. inl (removed_from (begins_at x.first) y a.spans i)) h.vs;
    lfh = layer_weaker (IsInLfh a.spans) (IsInLfh rest) lfh (λ p i k. lfh_still a.spans rest p.start p.granules k (in_removed (begins_at x.first) k.span a.spans (in_lfh p i k) k.there)) h.lfh;
    back = layer_weaker (IsInBack a.spans) (IsInBack rest) back (λ p i k. back_still a.spans rest p.start p.granules k (in_removed (begins_at x.first) k.span a.spans (other back p k.span i k.there (λ e. no_back (sym e ∙ k.kind)) (let b = k.begins in omega arith) (let b = k.begins in let w = k.whole in omega arith)) k.there)) h.back;
    large = h.large;
  }
    where
      in_lfh : (p : Place) → IsOneOf p lfh → (k : IsInLfh a.spans p.start p.granules) → begins_at x.first k.span ≡ false
      in_lfh p i k = let e = lfh_end a.spans p.start p.granules pages k in let e0 = e.0 in other lfh p k.span i k.there (λ e. no_lfh (sym e ∙ k.kind)) (omega arith) e.1

---- One more reserved segment, one committed page less

pub reserved_more : (l : Limits) (a : Area) (n : ℕ) (vs lfh back large : List Place) → a.reserved ≤ n → AreLayersSound l a vs lfh back large → AreLayersSound l (record { reserved = n; committed = a.committed; spans = a.spans }) vs lfh back large
reserved_more l a n vs lfh back large m h = record {
  usable = λ u e. usable u (h.usable u e);
  spans = record { in_order = h.spans.in_order; committed = all_weaker (IsCommittedSpan a) (IsCommittedSpan (record { reserved = n; committed = a.committed; spans = a.spans })) a.spans (λ x i k u low high. (usable u (k u low high).0, (k u low high).1)) h.spans.committed };
  vs = h.vs;
  lfh = h.lfh;
  back = h.back;
  large = h.large;
}
  where
    usable : (u : ℕ) → is_usable a u ≡ true → (ltb (u / 256) n && leb 2 (u % 256)) ≡ true
    usable u e = let p = and_parts (ltb (u / 256) a.reserved) (leb 2 (u % 256)) e in let q = ltb-true (u / 256) a.reserved p.0 in and_from (ltb (u / 256) n) (leb 2 (u % 256)) (lt-ltb (u / 256) n (omega arith)) p.1

pub decommitted : (l : Limits) (a : Area) (page : ℕ) (vs lfh back large : List Place) → list_any (in_span page) a.spans ≡ false → AreLayersSound l a vs lfh back large → AreLayersSound l (record { reserved = a.reserved; committed = updated a.committed page false; spans = a.spans }) vs lfh back large
decommitted l a page vs lfh back large none h = record {
  usable = λ u e. h.usable u (before u e);
  spans = record { in_order = h.spans.in_order; committed = all_weaker (IsCommittedSpan a) (IsCommittedSpan (record { reserved = a.reserved; committed = updated a.committed page false; spans = a.spans })) a.spans (λ x i k u low high. ((k u low high).0, still x u i low high (k u low high).1)) h.spans.committed };
  vs = h.vs;
  lfh = h.lfh;
  back = h.back;
  large = h.large;
}
  where
    before : (u : ℕ) → updated a.committed page false u ≡ true → a.committed u ≡ true
    before u e = elim (cases_Bool (eqb u page)) [ inl f ↦ absurd (false≢true (rw f at e)) | inr f ↦ (rw f at e) ]

    still : (x : Span) (u : ℕ) → IsOneOf x a.spans → x.first ≤ u → u < x.first + x.pages → a.committed u ≡ true → updated a.committed page false u ≡ true
    still x u i low high k = elim (cases_Bool (eqb u page)) [
      | inl g ↦ let same = eqb-true u page g in absurd (both_ways _ none (in_some a.spans x page i (omega arith) (omega arith)))
      | inr g ↦ rw g k
    ]

---- The span of a back-end place gets longer or shorter with it

module _ (l : Limits) (a : Area) (pages : ℕ) (p q : Place) (vs lfh os large : List Place) (some : 0 < pages) (h : AreLayersSound l a vs lfh (p ∷ os) large) where
  abbrev pub home_span : Span
  home_span = h.back.places.0.span

  abbrev longer : List Span
  longer = change_found (is_back_at home_span.first) (with_pages pages) a.spans

  is_home : (z : Span) → IsOneOf z a.spans → is_back_at home_span.first z ≡ true → home_span ≡ z
  is_home z i e = same_first 0 a.spans home_span z h.spans.in_order h.back.places.0.there i (sym (eqb-true z.first home_span.first (and_parts (begins_at home_span.first z) (is_kind z.kind kinds.Back) e).0))

  found_home : find (is_back_at home_span.first) a.spans ≡ Some home_span
  found_home =
      let kind : is_kind home_span.kind kinds.Back ≡ true = ap (λ k. is_kind k kinds.Back) h.back.places.0.kind in
      let at = and_from (begins_at home_span.first home_span) (is_kind home_span.kind kinds.Back) (eq-eqb home_span.first home_span.first refl) kind in
      let f = find_some (is_back_at home_span.first) a.spans home_span h.back.places.0.there at in
      f.1 ∙ ap Some (sym (is_home f.0 (found_in (is_back_at home_span.first) a.spans f.0 f.1) (found_passes (is_back_at home_span.first) a.spans f.0 f.1)))

  not_back : (y : Span) → is_kind y.kind kinds.Back ≡ false → is_back_at home_span.first y ≡ false
  not_back y e = and_right (begins_at home_span.first y) (is_kind y.kind kinds.Back) e

  -- spans of other kinds are those from before
  from_before : (y : Span) → IsOneOf y longer → is_kind y.kind kinds.Back ≡ false → IsOneOf y a.spans
  from_before y i e = elim (changed_cases (is_back_at home_span.first) (with_pages pages) y a.spans i) [
    | inl j ↦ j
    | inr w ↦ absurd (both_ways _ (subst (λ (z : Span). is_kind z.kind kinds.Back ≡ false) (sym w.3) e) (and_parts (begins_at home_span.first w.0) (is_kind w.0.kind kinds.Back) w.2).1)
  ]

  -- another block is in another span
  not_home : (r : Place) → AreApart p r → (k : IsInBack a.spans r.start r.granules) → k.span.first ≡ home_span.first → ⊥
  not_home r apart k e =
      let b = h.back.places.0.begins in
      let w = h.back.places.0.whole in
      let b' = k.begins in
      let w' = k.whole in
      let m = (above 0 a.spans home_span h.spans.in_order h.back.places.0.there).1 in
      let m' = (above 0 a.spans k.span h.spans.in_order k.there).1 in
      by_place apart b w b' w' m m'
    where
      by_place : AreApart p r → p.start ≡ 4096 * home_span.first → p.granules ≡ 256 * home_span.pages → r.start ≡ 4096 * k.span.first → r.granules ≡ 256 * k.span.pages → 0 < home_span.pages → 0 < k.span.pages → ⊥
      by_place (inl u) b w b' w' m m' = omega arith
      by_place (inr u) b w b' w' m m' = omega arith

  other_back : (r : Place) → AreApart p r → (k : IsInBack a.spans r.start r.granules) → is_back_at home_span.first k.span ≡ false
  other_back r apart k = false_from_ne_true (is_back_at home_span.first k.span) (λ e. not_home r apart k (eqb-true k.span.first home_span.first (and_parts (begins_at home_span.first k.span) (is_kind k.span.kind kinds.Back) e).0))

  pub lengthened : ((u : ℕ) → home_span.first + home_span.pages ≤ u → u < home_span.first + pages → is_free a u ≡ true) → q.start ≡ p.start → q.granules ≡ 256 * pages →
      AreLayersSound l (record { reserved = a.reserved; committed = commit home_span.first pages a.committed; spans = longer }) vs lfh (q ∷ os) large
  lengthened free e g = record {
    usable = λ u k. elim (or_cases (leb home_span.first u && ltb u (home_span.first + pages)) (a.committed u) k) [
      | inl f ↦ let w = and_parts (leb home_span.first u) (ltb u (home_span.first + pages)) f in is_usable_at u (leb-true _ _ w.0) (ltb-true _ _ w.1)
      | inr f ↦ h.usable u f
    ];
    spans = record { in_order = in_order; committed = all_from (IsCommittedSpan (record { reserved = a.reserved; committed = commit home_span.first pages a.committed; spans = longer })) longer (λ y i. by_span y (changed_cases (is_back_at home_span.first) (with_pages pages) y a.spans i)) };
    vs = vs_moved a.spans longer vs (λ r i k. in_changed (is_back_at home_span.first) (with_pages pages) k.span a.spans (not_back k.span (ap (λ z. is_kind z kinds.Back) k.kind)) k.there) (λ y i k. inl (from_before y i (ap (λ z. is_kind z kinds.Back) k))) h.vs;
    lfh = layer_weaker (IsInLfh a.spans) (IsInLfh longer) lfh (λ r i k. lfh_still a.spans longer r.start r.granules k (in_changed (is_back_at home_span.first) (with_pages pages) k.span a.spans (not_back k.span (ap (λ z. is_kind z kinds.Back) k.kind)) k.there)) h.lfh;
    back = record {
      places = (here, all_from (λ r. IsInBack longer r.start r.granules) os (λ r i. back_still a.spans longer r.start r.granules (at r i) (there r i)));
      disjoint = (all_from (AreApart q) os (λ r i. apart r i), h.back.disjoint.1);
    };
    large = h.large;
  }
    where
      is_usable_at : (u : ℕ) → home_span.first ≤ u → u < home_span.first + pages → is_usable a u ≡ true
      is_usable_at u low high = elim (cases_lt u (home_span.first + home_span.pages)) [
        | inl m ↦ (all_at (IsCommittedSpan a) home_span a.spans h.spans.committed h.back.places.0.there u low m).0
        | inr m ↦ usable_of a u (free u m high)
      ]

      by_span : (y : Span) → IsOneOf y a.spans ⊎ ((z : Span) × IsOneOf z a.spans × (is_back_at home_span.first z ≡ true) × (with_pages pages z ≡ y)) → IsCommittedSpan (record { reserved = a.reserved; committed = commit home_span.first pages a.committed; spans = longer }) y
      by_span y (inl i) = λ u low high. let c = all_at (IsCommittedSpan a) y a.spans h.spans.committed i u low high in (c.0, or_right (leb home_span.first u && ltb u (home_span.first + pages)) (a.committed u) c.1)
      by_span y (inr w) = subst (λ (z : Span). IsCommittedSpan (record { reserved = a.reserved; committed = commit home_span.first pages a.committed; spans = longer }) z) (ap (with_pages pages) (is_home w.0 w.1 w.2) ∙ w.3)
          (λ u low high. (is_usable_at u low high, or_left (leb home_span.first u && ltb u (home_span.first + pages)) (a.committed u) (in_span_from u (with_pages pages home_span) low high)))

      in_order : AreInOrder 0 longer
      in_order = resized_in_order home_span.first pages 0 a.spans some (λ z i f u low high. outside_of a u (subst (λ (y : Span). y.first + y.pages ≤ u → u < y.first + pages → is_free a u ≡ true) (is_home z i f) (free u) low high)) h.spans.in_order

      here : IsInBack longer q.start q.granules
      here = record { span = with_pages pages home_span; there = changed_in (is_back_at home_span.first) (with_pages pages) home_span a.spans found_home; kind = h.back.places.0.kind; begins = e ∙ h.back.places.0.begins; whole = g }

      at : (r : Place) → IsOneOf r os → IsInBack a.spans r.start r.granules
      at r i = all_at (λ r. IsInBack a.spans r.start r.granules) r os h.back.places.1 i

      apart_before : (r : Place) → IsOneOf r os → AreApart p r
      apart_before r i = all_at (AreApart p) r os h.back.disjoint.0 i

      there : (r : Place) → (i : IsOneOf r os) → IsOneOf (at r i).span longer
      there r i = in_changed (is_back_at home_span.first) (with_pages pages) (at r i).span a.spans (other_back r (apart_before r i) (at r i)) (at r i).there

      apart : (r : Place) → IsOneOf r os → AreApart q r
      apart r i =
          let b = e ∙ h.back.places.0.begins in
          let b' = (at r i).begins in
          let w' = (at r i).whole in
          by_place (apart_spans 0 longer (with_pages pages home_span) (at r i).span in_order here.there (there r i)) b b' w'
        where
          by_place : (with_pages pages home_span ≡ (at r i).span) ⊎ ((home_span.first + pages ≤ (at r i).span.first) ⊎ ((at r i).span.first + (at r i).span.pages ≤ home_span.first)) → q.start ≡ 4096 * home_span.first → r.start ≡ 4096 * (at r i).span.first → r.granules ≡ 256 * (at r i).span.pages → AreApart q r
          by_place (inl same) b b' w' = absurd (not_home r (apart_before r i) (at r i) (ap (λ (z : Span). z.first) (sym same)))
          by_place (inr (inl u)) b b' w' = inl (omega (arith, g))
          by_place (inr (inr u)) b b' w' = inr (omega (arith, g))
