-- The place of a block that the front end does not serve, and its refusal, in both of two calls.
use Rattle.std.proofs.Common.{◌≡◌, ℕ, true, false, ◌&&◌, not, List, [], ◌∷◌, ◌++◌, map, Option, Some, None, refl, sym, ap, ◌∙◌, subst, inl, inr}
use Rattle.std.specs.Prelude.{is_none}
use Rattle.std.specs.List.{list_any}
use Rattle.std.proofs.lemmas.Bool.{and_parts, false≢true}
use Rattle.heap_model.specs.declared.Act.{Act}
use Rattle.heap_model.specs.declared.Act.TheVariants as acts
use Rattle.heap_model.specs.declared.Call.{Call}
use Rattle.heap_model.specs.declared.Kind.{Kind}
use Rattle.heap_model.specs.declared.Kind.TheVariants as kinds
use Rattle.heap_model.specs.declared.Layer.{Layer}
use Rattle.heap_model.specs.declared.Layer.TheVariants as layers
use Rattle.heap_model.specs.Geometry.{Route, Small, Variable, Paged, Huge, route_of, units_of, span_pages_of, pages_of}
use Rattle.heap_model.specs.State.{Setting, Live, is_kind, is_hand_at, change_found, updated}
use Rattle.heap_model.specs.Ranges.{gaps, vs_place, large_place}
use Rattle.heap_model.specs.Stay.{for_some, is_some_of}
use Rattle.heap_model.specs.CallState.{Configuration, caller_view}
use Rattle.heap_model.specs.Search.{request_of, asked, asked_by, spans_of}
use Rattle.heap_model.specs.Bits.{starts_at}
use Rattle.heap_model.specs.Legal.{may_follow, after, is_back_due, is_picked_in, fits_none, has_no_range, has_no_vs_range, layer_of, with_status, is_compact}
use Rattle.heap_model.specs.Alone.{by_zero, configuration_by}
use Rattle.heap_model.specs.Shape.{shape_of, is_left_out}
use Rattle.heap_model.proofs.GateSound.{row_of}
use Rattle.heap_model.proofs.ListLemmas.{is_some_of_parts}
use Rattle.heap_soundness.proofs.RowLemmas.{span_row}
use Rattle.one_caller_laws.proofs.Core.{Core, core_of}
use Rattle.one_caller_laws.proofs.InCall.{InCall, Stop, SearchesNone, none_searched, shows}
use Rattle.one_caller_laws.proofs.Reach.{Calm, Goes, goes_after, may_first, to_stop, stop_calm, stop_goes, is_maker, shown_cases}
use Rattle.one_caller_laws.proofs.Pair.{within_next, none_placed, HintsAlike}
use Rattle.one_caller_laws.proofs.Duo.{Duo, duo_at, hints_at}
use Rattle.one_caller_laws.proofs.Words.{duo_step}
use Rattle.one_caller_laws.proofs.Freeing.{changed_core, hand_of, whole_restatused}
use Rattle.one_caller_laws.proofs.Ways.{Nowhere}
use Rattle.one_caller_laws.proofs.Sites.{Site, is_for_vs, Why, WhyNot, NoGap, NoPages, NoLarge, one_site}
use Rattle.one_caller_laws.proofs.Makes.{Makes, sited, makes_in_gap, makes_large, asks}
use Rattle.one_caller_laws.proofs.Spans.{span_made, makes_by_span, makes_reserved}

---- A refusal

none_is_none : {A : Type 0} (o : Option A) → is_none o ≡ true → o ≡ None
none_is_none None h = refl
none_is_none (Some x) h = absurd (false≢true h)

pub why_not : (s : Setting) (call : Call) (m : Configuration) (n q : ℕ) → InCall s call m → asked_by call ≡ Some n → may_follow s m (by_zero (acts.NoFit q)) ≡ true → WhyNot s (core_of m) n
why_not s call m n q w e h =
    let k = caller_view m 0 in
    let r1 = and_parts (k.entered && is_some_of (asked k.call) q) (has_no_range s m.state 0 k (request_of s m 0) q (route_of q)) (row_of s m (by_zero (acts.NoFit q)) h) in
    let r2 = and_parts k.entered (is_some_of (asked k.call) q) r1.0 in
    let z : Some q ≡ Some n = sym (is_some_of_parts (asked k.call) q r2.1) ∙ asks s call m n w e in
    let same : q ≡ n = cc in
    by_route (route_of n) refl (subst (λ (x : ℕ). has_no_range s m.state 0 k (request_of s m 0) x (route_of x) ≡ true) same r1.1)
  where
    vs : is_for_vs n ≡ true → has_no_vs_range s m.state.back.area (gaps m.state) (caller_view m 0) n ≡ true → WhyNot s (core_of m) n
    vs v h =
        let k = caller_view m 0 in
        let r1 = and_parts (k.vs && k.back && is_none (vs_place (gaps m.state) (units_of n))) (fits_none s m.state.back.area (span_pages_of n)) h in
        let r2 = and_parts (k.vs && k.back) (is_none (vs_place (gaps m.state) (units_of n))) r1.0 in
        NoGap v (none_is_none _ r2.1) (Nowhere refl (none_is_none _ r1.1))

    by_route : (r : Route) → route_of n ≡ r → has_no_range s m.state 0 (caller_view m 0) (request_of s m 0) n r ≡ true → WhyNot s (core_of m) n
    by_route Small e h = vs (rw e refl) (and_parts (has_no_vs_range s m.state.back.area (gaps m.state) (caller_view m 0) n) _ h).0
    by_route Variable e h = vs (rw e refl) h
    by_route Paged e h = NoPages (rw e refl) (Nowhere refl (none_is_none _ (and_parts (caller_view m 0).back (fits_none s m.state.back.area (pages_of n)) h).1))
    by_route Huge e h = NoLarge (rw e refl) (none_is_none _ (and_parts (caller_view m 0).large (is_none (large_place s.limits m.state.large (pages_of n))) h).1)

---- A place, in one call

-- no span is of the front end where nothing is searched
pub not_of_front : (s : Setting) (m : Configuration) (first pages : ℕ) (kind : Kind) (bucket slot : ℕ) → SearchesNone s m → may_follow s m (by_zero (acts.Span first pages kind bucket slot)) ≡ true → is_kind kind kinds.Lfh ≡ false
not_of_front s m first pages kinds.Vs bucket slot n h = refl
not_of_front s m first pages kinds.Back bucket slot n h = refl
not_of_front s m first pages kinds.Header bucket slot n h = refl
not_of_front s m first pages kinds.Free bucket slot n h = refl
not_of_front s m first pages kinds.Lfh bucket slot n h =
    let r = span_row s m.state.back.area (gaps m.state) 0 (caller_view m 0) (request_of s m 0) (record { first = first; pages = pages; kind = kinds.Lfh; bucket = bucket; slot = slot }) (row_of s m (by_zero (acts.Span first pages kinds.Lfh bucket slot)) h) in
    let e = none_searched m.state.vs (request_of s m 0).bucket n in
    let o = r.owner in
    absurd (false≢true (rw e at o))

-- the place is made from a stop on
makes_from : (s : Setting) (call : Call) (m : Configuration) (rest : List Act) (n : ℕ) (x : Stop s call m rest) → Makes s call x.at (x.act ∷ x.later) n → Makes s call m rest n
makes_from s call m rest n x k = record {
  site = k.site;
  why = subst (λ (c : Core). Why s c n k.site) x.core k.why;
  at = k.at;
  later = k.later;
  within = k.within;
  core = k.core ∙ ap (λ (c : Core). sited c k.site) x.core;
  whole = k.whole;
  demand = k.demand;
  hints = λ b t. k.hints b t ∙ hints_at x.at m x.core x.hints b t;
  goes = k.goes;
  shape = x.shape ∙ k.shape;
  ends = x.ends ∙ k.ends;
}

-- what is shown first is the act at the stop, unless a span is made for it
pub head_shown : (act other : Act) (later t : List Act) → is_left_out act ≡ false → shape_of (act ∷ later) ≡ other ∷ t → act ≡ other
head_shown act other later t out f = let h : act ∷ shape_of later ≡ other ∷ t = rw out at f in let same : act ≡ other = cc in same

module _ (s : Setting) (call : Call) (n : ℕ) (asked_is : asked_by call ≡ Some n) where
  placed_at : (at : Configuration) (start granules : ℕ) (layer : Layer) (later : List Act) → Calm s call at → Goes s at (acts.Place start granules layer ∷ later) → Makes s call at (acts.Place start granules layer ∷ later) n
  placed_at at start granules layers.Vs later k go = makes_in_gap s call at n start granules later k.within k.whole asked_is go
  placed_at at start granules layers.Large later k go = makes_large s call at n start granules later k.within k.whole asked_is go
  placed_at at start granules layers.Back later k go =
      let r = row_of s at (by_zero (acts.Place start granules layers.Back)) (may_first s at (acts.Place start granules layers.Back) later go) in
      let d = k.demand in
      let q = (and_parts ((caller_view at 0).entered && (caller_view at 0).back) (is_back_due at.now.demand) r).1 in
      absurd (false≢true (rw d at q))
  placed_at at start granules layers.Lfh later k go =
      let r = row_of s at (by_zero (acts.Place start granules layers.Lfh)) (may_first s at (acts.Place start granules layers.Lfh) later go) in
      let o = none_searched at.state.vs (request_of s at 0).bucket k.none in
      let q = (and_parts ((caller_view at 0).entered && not (starts_at at.state.lfh start)) (for_some (request_of s at 0).search (λ b. list_any (is_picked_in b (at.now.calls 0).search start granules) (spans_of at.state.back.area b (s.slot 0)))) r).1 in
      absurd (false≢true (rw o at q))

  makes_by : (at : Configuration) (act : Act) (later : List Act) → Calm s call at → Goes s at (act ∷ later) → ((k : Configuration) → InCall s call k → k.state.vs ≡ at.state.vs → SearchesNone s k) → is_maker act ≡ true → Makes s call at (act ∷ later) n
  makes_by at (acts.Reserve segment) later k go none h =
      makes_reserved s call at n segment later k.within k.whole asked_is go (λ first pages kind bucket slot more is.
      let act = acts.Reserve segment in
      let at2 = after s at (by_zero act) in
      let g2 = subst (Goes s at2) is (goes_after s at act later go) in
      not_of_front s at2 first pages kind bucket slot (none at2 (within_next s call at act later k.within go) refl) (may_first s at2 (acts.Span first pages kind bucket slot) more g2))
  makes_by at (acts.Span first pages kind bucket slot) later k go none h =
      makes_by_span s call at n (acts.Span first pages kind bucket slot ∷ later) (λ p. Unit {0})
      (span_made s call at n first pages kind bucket slot later (λ p. Unit {0}) tt k.within k.whole asked_is (not_of_front s at first pages kind bucket slot k.none (may_first s at (acts.Span first pages kind bucket slot) later go)) go)
  makes_by at _ later k go none h = absurd (false≢true h)

  pub to_place : (m : Configuration) (rest : List Act) (start granules : ℕ) (layer : Layer) (t : List Act) → Calm s call m → Goes s m rest →
      ((k : Configuration) → InCall s call k → k.state.vs ≡ m.state.vs → SearchesNone s k) → shape_of rest ≡ acts.Place start granules layer ∷ t → Makes s call m rest n
  to_place m rest start granules layer t c g none h =
      let x = to_stop s call m rest (acts.Place start granules layer) t c g h in
      let k = stop_calm s call m rest c x in
      let go = stop_goes s call m rest g x in
      let v = ap (λ (c : Core). c.vs) x.core in
      makes_from s call m rest n x (elim (shown_cases x.act (shows s call x.at x.act k.within k.whole k.none k.plain x.loud x.begins x.may)) [
        | inl maker ↦ makes_by x.at x.act x.later k go (λ j w e. none j w (e ∙ v)) maker
        | inr out ↦
            let e = head_shown x.act (acts.Place start granules layer) x.later t out (sym x.shape ∙ h) in
            subst (λ (a : Act). Makes s call x.at (a ∷ x.later) n) (sym e) (placed_at x.at start granules layer x.later k (subst (λ (a : Act). Goes s x.at (a ∷ x.later)) e go))
      ])

---- A place, in both

-- both have made one place, and hold it
pub record DuoPlaced (s : Setting) (call : Call) (m : Configuration) (rest : List Act) (n : Configuration) (others : List Act) (site : Site) : Type 0 where
  pub at : Configuration
  pub later : List Act
  pub at_too : Configuration
  pub later_too : List Act
  pub duo : Duo s call at later at_too later_too
  pub placed : (at.now.calls 0).placed ≡ true
  pub shape : shape_of rest ≡ acts.Place site.start site.granules site.layer ∷ shape_of later
  pub shape_too : shape_of others ≡ acts.Place site.start site.granules site.layer ∷ shape_of later_too
  pub ends : configuration_by s m rest ≡ configuration_by s at later
  pub ends_too : configuration_by s n others ≡ configuration_by s at_too later_too

pub duo_placed : (s : Setting) (call : Call) (m : Configuration) (rest : List Act) (n : Configuration) (others : List Act) (size : ℕ) → core_of m ≡ core_of n → HintsAlike m n → is_compact call ≡ false → (x : Makes s call m rest size) → Makes s call n others size →
    DuoPlaced s call m rest n others x.site
duo_placed s call m rest n others size core hints plain x y =
    let same = one_site s (core_of m) size x.site y.site x.why (subst (λ (c : Core). Why s c size y.site) (sym core) y.why) in
    let e : core_of x.at ≡ core_of y.at = x.core ∙ (λ i. sited (core i) (same i)) ∙ sym y.core in
    let p = ap (λ (c : Core). c.placed) x.core in
    let q = ap (λ (c : Core). c.placed) y.core in
    record {
      at = x.at;
      later = x.later;
      at_too = y.at;
      later_too = y.later;
      duo = record {
        calm = record { within = x.within; whole = x.whole; none = none_placed s x.at p; plain = plain; demand = x.demand };
        calm_too = record { within = y.within; whole = y.whole; none = none_placed s y.at q; plain = plain; demand = y.demand };
        goes = x.goes;
        goes_too = y.goes;
        core = e;
        hints = λ b t. x.hints b t ∙ hints b t ∙ sym (y.hints b t);
      };
      placed = p;
      shape = x.shape;
      shape_too = y.shape ∙ ap (λ (z : Site). acts.Place z.start z.granules z.layer ∷ shape_of y.later) (sym same);
      ends = x.ends;
      ends_too = y.ends;
    }

---- What is done with it

-- words are stored, behind the place
pub record DuoStored (s : Setting) (call : Call) (m : Configuration) (rest : List Act) (n : Configuration) (others t : List Act) : Type 0 where
  pub at : Configuration
  pub later : List Act
  pub at_too : Configuration
  pub later_too : List Act
  pub duo : Duo s call at later at_too later_too
  pub placed : (at.now.calls 0).placed ≡ true
  pub shape : shape_of later ≡ t
  pub shape_too : shape_of later_too ≡ t
  pub ends : configuration_by s m rest ≡ configuration_by s at later
  pub ends_too : configuration_by s n others ≡ configuration_by s at_too later_too

duo_store_placed : (s : Setting) (call : Call) (m : Configuration) (word v : ℕ) (rest : List Act) (n : Configuration) (others : List Act) → (m.now.calls 0).placed ≡ true → Duo s call m (acts.Store word v ∷ rest) n (acts.Store word v ∷ others) →
    Duo s call (after s m (by_zero (acts.Store word v))) rest (after s n (by_zero (acts.Store word v))) others
duo_store_placed s call m word v rest n others p d =
    let act = acts.Store word v in
    duo_step s call m act rest n others d (ap (λ (c : Core). record c { words = updated c.words word v }) d.core) (record { vs = d.calm.whole.vs; back = d.calm.whole.back })
    (none_placed s (after s m (by_zero act)) p) (none_placed s (after s n (by_zero act)) (sym (ap (λ (c : Core). c.placed) d.core) ∙ p)) refl refl d.hints

pub duo_zeroed : (s : Setting) (call : Call) (words : List ℕ) (m : Configuration) (rest : List Act) (n : Configuration) (others t : List Act) → (m.now.calls 0).placed ≡ true → Duo s call m rest n others →
    shape_of rest ≡ map (λ w. acts.Store w 0) words ++ t → shape_of others ≡ map (λ w. acts.Store w 0) words ++ t → DuoStored s call m rest n others t
duo_zeroed s call [] m rest n others t p d e f = record { at = m; later = rest; at_too = n; later_too = others; duo = d; placed = p; shape = e; shape_too = f; ends = refl; ends_too = refl }
duo_zeroed s call (w ∷ words) m rest n others t p d e f =
    let x = duo_at s call m rest n others (acts.Store w 0) (map (λ w. acts.Store w 0) words ++ t) (acts.Store w 0) (map (λ w. acts.Store w 0) words ++ t) d e f refl refl in
    let k = after s x.at (by_zero (acts.Store w 0)) in
    let l = after s x.at_too (by_zero (acts.Store w 0)) in
    let p2 = ap (λ (c : Core). c.placed) x.core_stays ∙ p in
    let y = duo_zeroed s call words k x.later l x.later_too t p2 (duo_store_placed s call x.at w 0 x.later x.at_too x.later_too p2 x.duo) x.shape x.shape_too in
    record { at = y.at; later = y.later; at_too = y.at_too; later_too = y.later_too; duo = y.duo; placed = y.placed; shape = y.shape; shape_too = y.shape_too; ends = x.ends ∙ y.ends; ends_too = x.ends_too ∙ y.ends_too }

-- a block is given
pub duo_give : (s : Setting) (call : Call) (m : Configuration) (a size : ℕ) (rest : List Act) (n : Configuration) (others : List Act) → (m.now.calls 0).placed ≡ true → Duo s call m (acts.Give a size ∷ rest) n (acts.Give a size ∷ others) →
    Duo s call (after s m (by_zero (acts.Give a size))) rest (after s n (by_zero (acts.Give a size))) others
duo_give s call m a size rest n others p d =
    let act = acts.Give a size in
    let c = d.core in
    duo_step s call m act rest n others d (λ i. changed_core (c i) (layer_of (hand_of (c i) a)) (change_found (is_hand_at 0 a) (with_status (Live size))))
    (whole_restatused (core_of m) (layer_of (hand_of (core_of m) a)) (is_hand_at 0 a) (Live size) d.calm.whole)
    (none_placed s (after s m (by_zero act)) p) (none_placed s (after s n (by_zero act)) (sym (ap (λ (c : Core). c.placed) d.core) ∙ p)) refl refl d.hints
