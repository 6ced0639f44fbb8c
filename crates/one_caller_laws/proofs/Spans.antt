-- A place in a span that is made for it, outside the front end.
use Rattle.std.proofs.Common.{◌≡◌, ℕ, ◌+◌, ◌*◌, ◌/◌, ◌<◌, true, false, ◌&&◌, List, ◌∷◌, Option, Some, None, refl, sym, ap, ◌∙◌, subst, arith, eqb, leb, ltb}
use Rattle.std.specs.Prelude.{is_none}
use Rattle.std.proofs.lemmas.Bool.{and_parts, false≢true, eqb-true, leb-true, ltb-true, or_left, or_right}
use Rattle.heap_model.specs.declared.Act.{Act}
use Rattle.heap_model.specs.declared.Act.TheVariants as acts
use Rattle.heap_model.specs.declared.Call.{Call}
use Rattle.heap_model.specs.declared.Kind.{Kind}
use Rattle.heap_model.specs.declared.Kind.TheVariants as kinds
use Rattle.heap_model.specs.declared.Layer.{Layer}
use Rattle.heap_model.specs.declared.Layer.TheVariants as layers
use Rattle.heap_model.specs.Geometry.{route_of, is_paged, units_of, span_pages_of, pages_of}
use Rattle.heap_model.specs.Runs.{Run}
use Rattle.heap_model.specs.State.{Setting, Span, is_kind}
use Rattle.heap_model.specs.Backend.{back_place}
use Rattle.heap_model.specs.Ranges.{gaps, vs_place, is_of_kind}
use Rattle.heap_model.specs.Stay.{for_some}
use Rattle.heap_model.specs.CallState.{Configuration, Nothing, caller_view}
use Rattle.heap_model.specs.Search.{request_of, asked_by, hint, hint_or, first_of, is_span_of}
use Rattle.heap_model.specs.Legal.{after, lies_in, has_place, is_layer_of, with_span}
use Rattle.heap_model.specs.Alone.{by_zero, configuration_by}
use Rattle.heap_model.specs.Shape.{shape_of}
use Rattle.heap_model.proofs.GateSound.{row_of}
use Rattle.heap_model.proofs.ListLemmas.{for_some_parts, filter-insert_span}
use Rattle.heap_soundness.proofs.RowLemmas.{span_row, SpanRow}
use Rattle.serial_laws.specs.BackCalls.{one_more_reserved, block_span}
use Rattle.serial_laws.specs.VsCalls.{vs_span_for}
use Rattle.serial_laws.proofs.Places.{all_inserted}
use Rattle.one_caller_laws.proofs.Whole.{used_inserted}
use Rattle.one_caller_laws.proofs.Core.{core_of}
use Rattle.one_caller_laws.proofs.InCall.{InCall, IsWhole}
use Rattle.one_caller_laws.proofs.Reach.{Goes, goes_after, may_first, place_follows, span_follows}
use Rattle.one_caller_laws.proofs.Pair.{within_next}
use Rattle.one_caller_laws.proofs.Ways.{Here, Next, AreShort}
use Rattle.one_caller_laws.proofs.Sites.{Site, is_for_vs, gaps_in_core, vs_site, Why, Fresh, Pages}
use Rattle.one_caller_laws.proofs.Makes.{made, sited, Makes, size_asked, asked_so, vs_row}

-- why the place in the new span is there, where P is known of the pages of the span
pub data SpanWhy (s : Setting) (m : Configuration) (n : ℕ) (P : ℕ → Type 0) (site : Site) : Type 0 where
  InVs : (first : ℕ) (r : Run) → is_for_vs n ≡ true → vs_place (gaps m.state) (units_of n) ≡ None → back_place m.state.back.area s.limits.segments (span_pages_of n) ≡ Some first → first / 256 < m.state.back.area.reserved →
      vs_place (gaps_in_core (with_span m.state.back.area (vs_span_for first n)) (core_of m)) (units_of n) ≡ Some r → site ≡ vs_site (with_span m.state.back.area (vs_span_for first n)) r → P (span_pages_of n) → SpanWhy s m n P site
  InBack : (first : ℕ) → is_paged (route_of n) ≡ true → back_place m.state.back.area s.limits.segments (pages_of n) ≡ Some first → first / 256 < m.state.back.area.reserved →
      site ≡ record { area = with_span m.state.back.area (block_span first n); start = 4096 * first; granules = 256 * pages_of n; layer = layers.Back } → P (pages_of n) → SpanWhy s m n P site

-- the span and its place are behind
pub record SpanMade (s : Setting) (call : Call) (m : Configuration) (rest : List Act) (n : ℕ) (P : ℕ → Type 0) : Type 0 where
  pub site : Site
  pub why : SpanWhy s m n P site
  pub at : Configuration
  pub later : List Act
  pub within : InCall s call at
  pub core : core_of at ≡ sited (core_of m) site
  pub whole : IsWhole (core_of at)
  pub demand : at.now.demand ≡ Nothing
  pub hints : (b t : ℕ) → hint at.state.back.area at.now.span_history b t ≡ hint m.state.back.area m.now.span_history b t
  pub goes : Goes s at later
  pub shape : shape_of rest ≡ acts.Place site.start site.granules site.layer ∷ shape_of later
  pub ends : configuration_by s m rest ≡ configuration_by s at later

in_vs : (l : Layer) → is_layer_of kinds.Vs l ≡ true → l ≡ layers.Vs
in_vs layers.Vs h = refl
in_vs layers.Lfh h = absurd (false≢true h)
in_vs layers.Back h = absurd (false≢true h)
in_vs layers.Large h = absurd (false≢true h)

in_back : (l : Layer) → is_layer_of kinds.Back l ≡ true → l ≡ layers.Back
in_back layers.Back h = refl
in_back layers.Lfh h = absurd (false≢true h)
in_back layers.Vs h = absurd (false≢true h)
in_back layers.Large h = absurd (false≢true h)

module _ (s : Setting) (call : Call) (m : Configuration) (n first : ℕ) (w : InCall s call m) (whole : IsWhole (core_of m)) (asks : asked_by call ≡ Some n) (P : ℕ → Type 0) where
  abbrev vs_act : Act
  vs_act = acts.Span first (span_pages_of n) kinds.Vs 0 0

  abbrev vs_next : Configuration
  vs_next = after s m (by_zero vs_act)

  abbrev back_act : Act
  back_act = acts.Span first (pages_of n) kinds.Back 0 0

  abbrev back_next : Configuration
  back_next = after s m (by_zero back_act)

  -- the place in a span of the variable-size layer
  vs_made : (start granules : ℕ) (later : List Act) → P (span_pages_of n) → vs_place (gaps m.state) (units_of n) ≡ None → back_place m.state.back.area s.limits.segments (span_pages_of n) ≡ Some first → first / 256 < m.state.back.area.reserved →
      Goes s m (vs_act ∷ acts.Place start granules layers.Vs ∷ later) → lies_in 4096 (vs_span_for first n) (made start granules layers.Vs) ≡ true → SpanMade s call m (vs_act ∷ acts.Place start granules layers.Vs ∷ later) n P
  vs_made start granules later known none place reserved g lies =
      let x = vs_span_for first n in
      let xs = m.state.back.area.spans in
      let act = acts.Place start granules layers.Vs in
      let w1 = within_next s call m vs_act (act ∷ later) w g in
      let g1 = goes_after s m vs_act (act ∷ later) g in
      let v = vs_row s call vs_next n start granules w1 asks (may_first s vs_next act later g1) in
      let a = v.starts in
      let b = v.long in
      record {
        site = record { area = with_span m.state.back.area x; start = start; granules = granules; layer = layers.Vs };
        why = InVs first v.run v.size none place reserved v.fits (λ i. record { area = with_span m.state.back.area (vs_span_for first n); start = a i; granules = b i; layer = layers.Vs }) known;
        at = after s vs_next (by_zero act);
        later = later;
        within = within_next s call vs_next act later w1 g1;
        core = refl;
        whole = record {
          vs = all_inserted (is_of_kind kinds.Vs) (has_place 4096 m.state.vs.places) (has_place 4096 (made start granules layers.Vs ∷ m.state.vs.places)) x xs
              (or_left (lies_in 4096 x (made start granules layers.Vs)) (has_place 4096 m.state.vs.places x) lies)
              (λ y f. or_right (lies_in 4096 y (made start granules layers.Vs)) (has_place 4096 m.state.vs.places y) f) whole.vs;
          back = used_inserted kinds.Back m.state.back.places x xs refl whole.back;
        };
        demand = refl;
        hints = λ b t. ap (λ (ys : List Span). hint_or (m.now.span_history.hints b t) (first_of ys)) (filter-insert_span (is_span_of b t) x xs refl);
        goes = goes_after s vs_next act later g1;
        shape = refl;
        ends = refl;
      }

  -- .. and the one that is all of a span of the back end
  back_made : (later : List Act) → P (pages_of n) → is_paged (route_of n) ≡ true → back_place m.state.back.area s.limits.segments (pages_of n) ≡ Some first → first / 256 < m.state.back.area.reserved →
      Goes s m (back_act ∷ acts.Place (4096 * first) (256 * pages_of n) layers.Back ∷ later) → lies_in 4096 (block_span first n) (made (4096 * first) (256 * pages_of n) layers.Back) ≡ true →
      SpanMade s call m (back_act ∷ acts.Place (4096 * first) (256 * pages_of n) layers.Back ∷ later) n P
  back_made later known paged place reserved g lies =
      let x = block_span first n in
      let xs = m.state.back.area.spans in
      let p = made (4096 * first) (256 * pages_of n) layers.Back in
      let act = acts.Place (4096 * first) (256 * pages_of n) layers.Back in
      let w1 = within_next s call m back_act (act ∷ later) w g in
      let g1 = goes_after s m back_act (act ∷ later) g in
      record {
        site = record { area = with_span m.state.back.area x; start = 4096 * first; granules = 256 * pages_of n; layer = layers.Back };
        why = InBack first paged place reserved refl known;
        at = after s back_next (by_zero act);
        later = later;
        within = within_next s call back_next act later w1 g1;
        core = refl;
        whole = record {
          vs = used_inserted kinds.Vs m.state.vs.places x xs refl whole.vs;
          back = all_inserted (is_of_kind kinds.Back) (has_place 4096 m.state.back.places) (has_place 4096 (p ∷ m.state.back.places)) x xs
              (or_left (lies_in 4096 x p) (has_place 4096 m.state.back.places x) lies) (λ y f. or_right (lies_in 4096 y p) (has_place 4096 m.state.back.places y) f) whole.back;
        };
        demand = refl;
        hints = λ b t. ap (λ (ys : List Span). hint_or (m.now.span_history.hints b t) (first_of ys)) (filter-insert_span (is_span_of b t) x xs refl);
        goes = goes_after s back_next act later g1;
        shape = refl;
        ends = refl;
      }

  lies_by_layer : (start granules : ℕ) (l : Layer) → lies_in 4096 (block_span first n) (made start granules l) ≡ true → lies_in 4096 (block_span first n) (made start granules layers.Back) ≡ true
  lies_by_layer start granules l h = h

  vs_followed : (later : List Act) → P (span_pages_of n) → vs_place (gaps m.state) (units_of n) ≡ None → back_place m.state.back.area s.limits.segments (span_pages_of n) ≡ Some first → first / 256 < m.state.back.area.reserved →
      Goes s m (vs_act ∷ later) → SpanMade s call m (vs_act ∷ later) n P
  vs_followed later known none place reserved g =
      let f = place_follows s vs_next later (vs_span_for first n) (goes_after s m vs_act later g) refl in
      let q = and_parts (is_layer_of kinds.Vs f.layer && lies_in 4096 (vs_span_for first n) (made f.start f.granules f.layer)) _ f.meets in
      let q2 = and_parts (is_layer_of kinds.Vs f.layer) (lies_in 4096 (vs_span_for first n) (made f.start f.granules f.layer)) q.0 in
      let l = in_vs f.layer q2.0 in
      let is : later ≡ acts.Place f.start f.granules layers.Vs ∷ f.later = f.is ∙ ap (λ (l : Layer). acts.Place f.start f.granules l ∷ f.later) l in
      subst (λ (rest : List Act). SpanMade s call m (vs_act ∷ rest) n P) (sym is)
      (vs_made f.start f.granules f.later known none place reserved (subst (λ (rest : List Act). Goes s m (vs_act ∷ rest)) is g) q2.1)

  back_followed : (later : List Act) → P (pages_of n) → is_paged (route_of n) ≡ true → back_place m.state.back.area s.limits.segments (pages_of n) ≡ Some first → first / 256 < m.state.back.area.reserved →
      Goes s m (back_act ∷ later) → SpanMade s call m (back_act ∷ later) n P
  back_followed later known paged place reserved g =
      let x = block_span first n in
      let f = place_follows s back_next later x (goes_after s m back_act later g) refl in
      let q = and_parts (is_layer_of kinds.Back f.layer && lies_in 4096 x (made f.start f.granules f.layer)) _ f.meets in
      let q2 = and_parts (is_layer_of kinds.Back f.layer) (lies_in 4096 x (made f.start f.granules f.layer)) q.0 in
      let l = in_back f.layer q2.0 in
      let gr : f.granules ≡ 256 * pages_of n = eqb-true f.granules (256 * pages_of n) q.1 in
      let ends = and_parts (leb (4096 * first) f.start) (leb (f.start + 16 * f.granules) (4096 * (first + pages_of n))) q2.1 in
      let low = leb-true (4096 * first) f.start ends.0 in
      let high = leb-true (f.start + 16 * f.granules) (4096 * (first + pages_of n)) ends.1 in
      let st : f.start ≡ 4096 * first = omega arith in
      let is : later ≡ acts.Place (4096 * first) (256 * pages_of n) layers.Back ∷ f.later = f.is ∙ (λ i. acts.Place (st i) (gr i) (l i) ∷ f.later) in
      subst (λ (rest : List Act). SpanMade s call m (back_act ∷ rest) n P) (sym is)
      (back_made f.later known paged place reserved (subst (λ (rest : List Act). Goes s m (back_act ∷ rest)) is g) ((λ i. lies_in 4096 x (made (sym st i) (sym gr i) layers.Back)) ∙ lies_by_layer f.start f.granules f.layer q2.1))

-- a span that is no span of the front end is one of these two
pub span_made : (s : Setting) (call : Call) (m : Configuration) (n first pages : ℕ) (kind : Kind) (bucket slot : ℕ) (later : List Act) (P : ℕ → Type 0) → P pages → InCall s call m → IsWhole (core_of m) → asked_by call ≡ Some n → is_kind kind kinds.Lfh ≡ false →
    Goes s m (acts.Span first pages kind bucket slot ∷ later) → SpanMade s call m (acts.Span first pages kind bucket slot ∷ later) n P
span_made s call m n first pages kind bucket slot later P known w whole e other g =
    by_kind kind other g (span_row s m.state.back.area (gaps m.state) 0 (caller_view m 0) (request_of s m 0) (record { first = first; pages = pages; kind = kind; bucket = bucket; slot = slot })
    (row_of s m (by_zero (acts.Span first pages kind bucket slot)) (may_first s m (acts.Span first pages kind bucket slot) later g)))
  where
    by_kind : (kind : Kind) → is_kind kind kinds.Lfh ≡ false → Goes s m (acts.Span first pages kind bucket slot ∷ later) →
        SpanRow s m.state.back.area (gaps m.state) 0 (caller_view m 0) (request_of s m 0) (record { first = first; pages = pages; kind = kind; bucket = bucket; slot = slot }) → SpanMade s call m (acts.Span first pages kind bucket slot ∷ later) n P
    by_kind kinds.Vs o g r =
        let k = caller_view m 0 in
        let t = and_parts (eqb bucket 0) (eqb slot 0) r.names in
        let b = eqb-true bucket 0 t.0 in
        let u = eqb-true slot 0 t.1 in
        let q = (and_parts k.vs (for_some (Rattle.heap_model.specs.Search.asked k.call) (λ n. is_none (vs_place (gaps m.state) (units_of n)) && eqb pages (span_pages_of n))) r.owner).1 in
        let a = and_parts (is_none (vs_place (gaps m.state) (units_of n))) (eqb pages (span_pages_of n)) (asked_so s call m n (λ n. is_none (vs_place (gaps m.state) (units_of n)) && eqb pages (span_pages_of n)) w e q) in
        let p = eqb-true pages (span_pages_of n) a.1 in
        let act : acts.Span first pages kinds.Vs bucket slot ≡ acts.Span first (span_pages_of n) kinds.Vs 0 0 = λ i. acts.Span first (p i) kinds.Vs (b i) (u i) in
        subst (λ (x : Act). SpanMade s call m (x ∷ later) n P) (sym act)
        (vs_followed s call m n first w whole e P later (subst P p known) (none_from (vs_place (gaps m.state) (units_of n)) a.0) (ap (back_place m.state.back.area s.limits.segments) (sym p) ∙ r.place) r.reserved (subst (λ (x : Act). Goes s m (x ∷ later)) act g))
      where
        none_from : (o : Option Run) → is_none o ≡ true → o ≡ None
        none_from None h = refl
        none_from (Some x) h = absurd (false≢true h)
    by_kind kinds.Back o g r =
        let k = caller_view m 0 in
        let t = and_parts (eqb bucket 0) (eqb slot 0) r.names in
        let b = eqb-true bucket 0 t.0 in
        let u = eqb-true slot 0 t.1 in
        let q = for_some_parts (request_of s m 0).size (λ n. is_paged (route_of n) && eqb pages (pages_of n)) r.owner in
        let z = size_asked s call m n q.0 w e q.1 in
        let a = and_parts (is_paged (route_of n)) (eqb pages (pages_of n)) (subst (λ (y : ℕ). (is_paged (route_of y) && eqb pages (pages_of y)) ≡ true) z q.2) in
        let p = eqb-true pages (pages_of n) a.1 in
        let act : acts.Span first pages kinds.Back bucket slot ≡ acts.Span first (pages_of n) kinds.Back 0 0 = λ i. acts.Span first (p i) kinds.Back (b i) (u i) in
        subst (λ (x : Act). SpanMade s call m (x ∷ later) n P) (sym act)
        (back_followed s call m n first w whole e P later (subst P p known) a.0 (ap (back_place m.state.back.area s.limits.segments) (sym p) ∙ r.place) r.reserved (subst (λ (x : Act). Goes s m (x ∷ later)) act g))
    by_kind kinds.Lfh o g r = absurd (false≢true (sym o))
    by_kind kinds.Header o g r = absurd (false≢true r.owner)
    by_kind kinds.Free o g r = absurd (false≢true r.owner)

-- made in a segment that is reserved ..
pub makes_by_span : (s : Setting) (call : Call) (m : Configuration) (n : ℕ) (rest : List Act) (P : ℕ → Type 0) → SpanMade s call m rest n P → Makes s call m rest n
makes_by_span s call m n rest P x = record {
  site = x.site;
  why = why x.site x.why;
  at = x.at;
  later = x.later;
  within = x.within;
  core = x.core;
  whole = x.whole;
  demand = x.demand;
  hints = x.hints;
  goes = x.goes;
  shape = x.shape;
  ends = x.ends;
}
  where
    why : (site : Site) → SpanWhy s m n P site → Why s (core_of m) n site
    why site (InVs first r a none place reserved fits is known) = Fresh (record { area = m.state.back.area; first = first }) r a none (Here first refl place reserved) fits is
    why site (InBack first paged place reserved is known) = Pages (record { area = m.state.back.area; first = first }) paged (Here first refl place reserved) is

-- .. or in the next one
makes_by_next : (s : Setting) (call : Call) (m : Configuration) (n : ℕ) (rest : List Act) → m.state.back.area.reserved < s.limits.segments →
    SpanMade s call (after s m (by_zero (acts.Reserve m.state.back.area.reserved))) rest n (AreShort m.state.back.area) → Makes s call m (acts.Reserve m.state.back.area.reserved ∷ rest) n
makes_by_next s call m n rest l x = record {
  site = x.site;
  why = why x.site x.why;
  at = x.at;
  later = x.later;
  within = x.within;
  core = x.core;
  whole = x.whole;
  demand = x.demand;
  hints = x.hints;
  goes = x.goes;
  shape = x.shape;
  ends = x.ends;
}
  where
    why : (site : Site) → SpanWhy s (after s m (by_zero (acts.Reserve m.state.back.area.reserved))) n (AreShort m.state.back.area) site → Why s (core_of m) n site
    why site (InVs first r a none place reserved fits is short) = Fresh (record { area = one_more_reserved m.state.back.area; first = first }) r a none (Next first refl l place reserved short) fits is
    why site (InBack first paged place reserved is short) = Pages (record { area = one_more_reserved m.state.back.area; first = first }) paged (Next first refl l place reserved short) is

-- a segment is reserved for a span behind it
pub makes_reserved : (s : Setting) (call : Call) (m : Configuration) (n segment : ℕ) (later : List Act) → InCall s call m → IsWhole (core_of m) → asked_by call ≡ Some n → Goes s m (acts.Reserve segment ∷ later) →
    ((first pages : ℕ) (kind : Kind) (bucket slot : ℕ) (more : List Act) → later ≡ acts.Span first pages kind bucket slot ∷ more → is_kind kind kinds.Lfh ≡ false) → Makes s call m (acts.Reserve segment ∷ later) n
makes_reserved s call m n segment later w whole e g other =
    let k = caller_view m 0 in
    let a = m.state.back.area in
    let h = row_of s m (by_zero (acts.Reserve segment)) (may_first s m (acts.Reserve segment) later g) in
    let r = and_parts (k.entered && k.back && eqb segment a.reserved) (ltb segment s.limits.segments) h in
    let same = eqb-true segment a.reserved (and_parts (k.entered && k.back) (eqb segment a.reserved) r.0).1 in
    let below : a.reserved < s.limits.segments = subst (λ (x : ℕ). x < s.limits.segments) same (ltb-true segment s.limits.segments r.1) in
    subst (λ (x : ℕ). Makes s call m (acts.Reserve x ∷ later) n) (sym same) (at_next below (subst (λ (x : ℕ). Goes s m (acts.Reserve x ∷ later)) same g))
  where
    at_next : m.state.back.area.reserved < s.limits.segments → Goes s m (acts.Reserve m.state.back.area.reserved ∷ later) → Makes s call m (acts.Reserve m.state.back.area.reserved ∷ later) n
    at_next below g =
        let act = acts.Reserve m.state.back.area.reserved in
        let k = after s m (by_zero act) in
        let f = span_follows s k later m.state.back.area.reserved (goes_after s m act later g) refl in
        let span = acts.Span f.first f.pages f.kind f.bucket f.slot in
        let g1 = subst (Goes s k) f.is (goes_after s m act later g) in
        let w1 = within_next s call m act later w g in
        let x = span_made s call k n f.first f.pages f.kind f.bucket f.slot f.later (AreShort m.state.back.area) f.meets w1 (record { vs = whole.vs; back = whole.back }) e (other f.first f.pages f.kind f.bucket f.slot f.later f.is) g1 in
        makes_by_next s call m n later below (subst (λ (rest : List Act). SpanMade s call k rest n (AreShort m.state.back.area)) (sym f.is) x)
