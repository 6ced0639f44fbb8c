-- What a reallocation whose block has to move finds, whatever it searches before it shows anything.
use Rattle.std.proofs.Common.{◌≡◌, ℕ, ◌+◌, ◌*◌, ◌/◌, ◌-◌, Bool, true, false, ◌&&◌, ◌||◌, not, List, [], ◌∷◌, ◌++◌, map, Option, Some, refl, sym, ap, ◌∙◌, subst, inl, inr, leb}
use Rattle.std.specs.List.{find}
use Rattle.std.proofs.lemmas.Bool.{cases_Bool, and_parts, both_ways, false≢true, true≢false, not-true}
use Rattle.heap_model.specs.declared.Act.{Act}
use Rattle.heap_model.specs.declared.Act.TheVariants as acts
use Rattle.heap_model.specs.declared.Call.{Call}
use Rattle.heap_model.specs.declared.Call.TheVariants as calls
use Rattle.heap_model.specs.declared.Flags.{Flags}
use Rattle.heap_model.specs.declared.Kind.TheVariants as kinds
use Rattle.heap_model.specs.declared.Layer.{Layer}
use Rattle.heap_model.specs.declared.Layer.TheVariants as layers
use Rattle.heap_model.specs.declared.Limits.{Limits}
use Rattle.heap_model.specs.Geometry.{route_of, is_paged, is_huge, units_of, pages_of}
use Rattle.heap_model.specs.State.{Setting, State, Place, is_live, is_in_hand_of, hands, has_address}
use Rattle.heap_model.specs.Ranges.{gaps_of, vs_spans, large_runs}
use Rattle.heap_model.specs.Stay.{lets_stay, run_from, reach_back}
use Rattle.heap_model.specs.CallState.{Configuration}
use Rattle.heap_model.specs.Search.{has_to_move}
use Rattle.heap_model.specs.Legal.{after, is_compact, are_used}
use Rattle.heap_model.specs.Alone.{by_zero}
use Rattle.heap_model.specs.Moments.{moments_by, state_before, In, Before}
use Rattle.heap_model.specs.Shape.{shape_of, is_left_out, Finds, is_take, is_resize, is_of_front}
use Rattle.heap_model.proofs.ListLemmas.{for_some_parts}
use Rattle.heap_soundness.proofs.Addresses.{place_among_all}
use Rattle.one_caller_laws.proofs.Core.{Core, core_of, places_in_core}
use Rattle.one_caller_laws.proofs.InCall.{InCall, IsWhole, never_unspanned}
use Rattle.one_caller_laws.proofs.Reach.{Goes, goes_after, may_first, shown_place, is_place, is_maker}
use Rattle.one_caller_laws.proofs.Pair.{within_next, never_both}
use Rattle.one_caller_laws.proofs.Blocks.{Block, moves_in, still, front_stays, front_layer}
use Rattle.one_caller_laws.proofs.Firsts.{to_first, left_places, lives_there}

---- The heap up to what is shown

-- one heap, but for what is active and searched
pub record SameHeap (c d : Core) : Type 0 where
  pub back : c.back ≡ d.back
  pub vs : c.vs.places ≡ d.vs.places
  pub lfh : c.lfh ≡ d.lfh
  pub large : c.large ≡ d.large

same_heap : (c d e : Core) → SameHeap c d → SameHeap d e → SameHeap c e
same_heap c d e x y = record { back = x.back ∙ y.back; vs = x.vs ∙ y.vs; lfh = x.lfh ∙ y.lfh; large = x.large ∙ y.large }

whole_same : (c d : Core) → SameHeap c d → IsWhole d → IsWhole c
whole_same c d x w = record {
  vs = (λ i. are_used 4096 kinds.Vs (x.vs i) (x.back i).area.spans) ∙ w.vs;
  back = (λ i. are_used 4096 kinds.Back (x.back i).places (x.back i).area.spans) ∙ w.back;
}

-- a block stays in both, or in none
stay_same : (l : Limits) (st : State) (c : Core) (p : Place) (n : ℕ) (k : Layer) → p.layer ≡ k → st.back ≡ c.back → st.vs.places ≡ c.vs.places → st.large ≡ c.large → lets_stay l st p n ≡ lets_stay l (still c) p n
stay_same l st c p n layers.Lfh e back vs large = rw e refl
stay_same l st c p n layers.Vs e back vs large = rw e (λ i. leb n 131072 && leb (units_of n) (p.granules + run_from (gaps_of (vs_spans (back i).area) (vs i)) (p.start / 16 + p.granules)))
stay_same l st c p n layers.Back e back vs large = rw e (λ i. is_paged (route_of n) && leb (256 * pages_of n) (reach_back 4096 (back i).area p))
stay_same l st c p n layers.Large e back vs large = rw e (λ i. is_huge (route_of n) && leb (256 * pages_of n) (p.granules + 256 * run_from (large_runs l (large i)) (p.start / 4096 - 256 * l.segments + p.granules / 256)))

pub record StillFirst (s : Setting) (call : Call) (m : Configuration) (rest : List Act) (act : Act) (t : List Act) : Type 0 where
  pub at : Configuration
  pub later : List Act
  pub within : InCall s call at
  pub heap : SameHeap (core_of at) (core_of m)
  pub goes : Goes s at (act ∷ later)
  pub shape : shape_of later ≡ t
  pub looks : (test : Act → Bool) → ((a : Act) → is_left_out a ≡ true → test a ≡ false) → state_before test (moments_by s m rest) ≡ state_before test (moments_by s at (act ∷ later))

-- where no place is shown first
pub to_still : (s : Setting) (call : Call) (m : Configuration) (rest : List Act) (act : Act) (t : List Act) → is_compact call ≡ false → is_place act ≡ false → InCall s call m → IsWhole (core_of m) → Goes s m rest → shape_of rest ≡ act ∷ t → StillFirst s call m rest act t
to_still s call m [] act t plain other w whole g e = absurd (let z : ⊥ = cc in z)
to_still s call m (b ∷ rest) act t plain other w whole g e = elim (cases_Bool (is_left_out b)) [
  | inl l ↦
      let h = heap_of b l g e in
      let x = to_still s call (after s m (by_zero b)) rest act t plain other (within_next s call m b rest w g) (whole_same _ _ h whole) (goes_after s m b rest g) (rw l at e) in
      record {
        at = x.at;
        later = x.later;
        within = x.within;
        heap = same_heap _ _ _ x.heap h;
        goes = x.goes;
        shape = x.shape;
        looks = λ test k. let f = k b l in rw f (x.looks test k);
      }
  | inr l ↦
      let h : b ∷ shape_of rest ≡ act ∷ t = rw l at e in
      let same : b ≡ act = cc in
      let more : shape_of rest ≡ t = cc in
      record {
        at = m;
        later = rest;
        within = w;
        heap = record { back = refl; vs = refl; lfh = refl; large = refl };
        goes = subst (λ (x : Act). Goes s m (x ∷ rest)) same g;
        shape = more;
        looks = λ test k. ap (λ (x : Act). state_before test (moments_by s m (x ∷ rest))) same;
      }
]
  where
    no_maker : (b : Act) → Goes s m (b ∷ rest) → is_maker b ≡ true → shape_of (b ∷ rest) ≡ act ∷ t → ⊥
    no_maker b g h e =
        let p = shown_place s m b rest g h in
        let z : acts.Place p.0 p.1 p.2 ∷ p.3 ≡ act ∷ t = sym p.4 ∙ e in
        let same : acts.Place p.0 p.1 p.2 ≡ act = cc in
        true≢false (ap is_place same ∙ other)

    heap_of : (b : Act) → is_left_out b ≡ true → Goes s m (b ∷ rest) → shape_of (b ∷ rest) ≡ act ∷ t → SameHeap (core_of (after s m (by_zero b))) (core_of m)
    heap_of (acts.Begin call) l g e = record { back = refl; vs = refl; lfh = refl; large = refl }
    heap_of acts.Enter l g e = record { back = refl; vs = refl; lfh = refl; large = refl }
    heap_of acts.Leave l g e = record { back = refl; vs = refl; lfh = refl; large = refl }
    heap_of (acts.TakeLock what) l g e = record { back = refl; vs = refl; lfh = refl; large = refl }
    heap_of (acts.GiveLock what) l g e = record { back = refl; vs = refl; lfh = refl; large = refl }
    heap_of (acts.Reserve segment) l g e = absurd (no_maker (acts.Reserve segment) g refl e)
    heap_of (acts.Span first pages kind bucket slot) l g e = absurd (no_maker (acts.Span first pages kind bucket slot) g refl e)
    heap_of (acts.Unspan first) l g e = absurd (never_unspanned s call m first w whole plain (may_first s m (acts.Unspan first) rest g))
    heap_of (acts.Active bucket) l g e = record { back = refl; vs = refl; lfh = refl; large = refl }
    heap_of (acts.Saw head word bits) l g e = record { back = refl; vs = refl; lfh = refl; large = refl }
    heap_of (acts.Lost head index) l g e = record { back = refl; vs = refl; lfh = refl; large = refl }
    heap_of (acts.NoHint bucket slot) l g e = record { back = refl; vs = refl; lfh = refl; large = refl }
    heap_of (acts.NoSpan bucket) l g e = record { back = refl; vs = refl; lfh = refl; large = refl }
    heap_of _ l g e = absurd (false≢true l)

-- .. through words that are stored
pub to_still_behind : (s : Setting) (call : Call) (words : List ℕ) (m : Configuration) (rest : List Act) (act : Act) (t : List Act) (test : Act → Bool) (P : State → Type 0) → is_compact call ≡ false → is_place act ≡ false → InCall s call m → IsWhole (core_of m) → Goes s m rest →
    shape_of rest ≡ map (λ w. acts.Store w 0) words ++ act ∷ t → ((a : Act) → is_left_out a ≡ true → test a ≡ false) → ((w : ℕ) → test (acts.Store w 0) ≡ false) → test act ≡ true → Before test P (moments_by s m rest) →
    (at : Configuration) × (later : List Act) × InCall s call at × SameHeap (core_of at) (core_of m) × Goes s at (act ∷ later) × P at.state
to_still_behind s call [] m rest act t test P plain other w whole g e out store hit h =
    let x = to_still s call m rest act t plain other w whole g e in
    let st0 = subst (λ (o : Option State). In o P) (x.looks test out) h in
    (x.at, x.later, x.within, x.heap, x.goes, rw hit at st0)
to_still_behind s call (v ∷ words) m rest act t test P plain other w whole g e out store hit h =
    let b = acts.Store v 0 in
    let x = to_still s call m rest b (map (λ w. acts.Store w 0) words ++ act ∷ t) plain refl w whole g e in
    let k = after s x.at (by_zero b) in
    let st0 = subst (λ (o : Option State). In o P) (x.looks test out) h in
    let off = store v in
    let heap : SameHeap (core_of k) (core_of m) = record { back = x.heap.back; vs = x.heap.vs; lfh = x.heap.lfh; large = x.heap.large } in
    let y = to_still_behind s call words k x.later act t test P plain other (within_next s call x.at b x.later x.within x.goes) (whole_same (core_of k) (core_of m) heap whole) (goes_after s x.at b x.later x.goes) x.shape out store hit (rw off at st0) in
    (y.0, y.1, y.2, same_heap (core_of y.0) (core_of k) (core_of m) y.3 heap, y.4, y.5)

---- The block

module _ (s : Setting) (a n : ℕ) (flags : Flags) where
  abbrev call : Call
  call = calls.Realloc a n flags

  -- the block that has to move
  pub decided : (m : Configuration) → hands m.state 0 ≡ [] → moves_in s a n flags (core_of m) ≡ true → (size : ℕ) × (front : Bool) × Block s a n flags (core_of m) size front false
  decided m empty h =
      let p = for_some_parts (find (has_address a) (places_in_core (core_of m))) (has_to_move s (still (core_of m)) 0 n) h in
      let q = and_parts (is_live p.0.status || is_in_hand_of 0 p.0.status) (not (lets_stay s.limits (still (core_of m)) p.0 n)) p.2 in
      let l = lives_there m a p.0 empty p.1 q.0 in
      let z : Some l.1.place ≡ Some p.0 = sym l.1.found ∙ p.1 in
      let same : l.1.place ≡ p.0 = cc in
      (l.0, is_of_front p.0, record { place = p.0; found = p.1; live = ap (λ (x : Place). x.status) (sym same) ∙ l.1.live; is_front = refl; is_staying = not-true _ q.1 })

  pub never_missed : (m : Configuration) (rest t : List Act) (size : ℕ) (front : Bool) → InCall s call m → Goes s m rest → Block s a n flags (core_of m) size front false → shape_of rest ≡ acts.NotLive a ∷ t → ⊥
  never_missed m rest t size front w g b e =
      let x = to_first s call m rest (acts.NotLive a) t w g e in
      never_both s call x.at x.at a size x.within x.within refl (may_first s x.at (acts.NotLive a) x.later x.goes)
      (record { place = b.place; is = place_among_all s x.at 0 a x.within.keeps ∙ ap (λ (ps : List Place). find (has_address a) ps) x.places ∙ b.found; live = b.live })

  -- it never stays
  pub never_given : (m : Configuration) (rest t : List Act) (size other : ℕ) (front : Bool) (old : Place) → InCall s call m → Goes s m rest → Block s a n flags (core_of m) size front false → shape_of rest ≡ acts.Take a other ∷ t → is_of_front old ≡ true →
      Before is_take (Finds s 0 a n old true) (moments_by s m rest) → ⊥
  never_given m rest t size other front old w g b e fr h =
      let x = to_first s call m rest (acts.Take a other) t w g e in
      let st = subst (λ (o : Option State). In o (Finds s 0 a n old true)) (x.looks is_take no_take) h in
      let f : Some old ≡ Some b.place = sym st.0 ∙ place_among_all s x.at 0 a x.within.keeps ∙ ap (λ (ps : List Place). find (has_address a) ps) x.places ∙ b.found in
      let same : old ≡ b.place = cc in
      let stays = front_stays s.limits (still (core_of m)) x.at.state old n old.layer (front_layer old fr) ∙ st.1 in
      both_ways (lets_stay s.limits (still (core_of m)) b.place n) b.is_staying (ap (λ (p : Place). lets_stay s.limits (still (core_of m)) p n) (sym same) ∙ stays)
    where
      no_take : (b : Act) → is_left_out b ≡ true → is_take b ≡ false
      no_take (acts.Take x y) h = absurd (false≢true h)
      no_take _ h = refl

  pub never_resized : (words : List ℕ) (m : Configuration) (rest : List Act) (granules size : ℕ) (front : Bool) (old : Place) → InCall s call m → IsWhole (core_of m) → Goes s m rest → Block s a n flags (core_of m) size front false →
      shape_of rest ≡ map (λ w. acts.Store w 0) words ++ acts.Resize a granules n ∷ [] → Before is_resize (Finds s 0 a n old true) (moments_by s m rest) → ⊥
  never_resized words m rest granules size front old w whole g b e h =
      let x = to_still_behind s call words m rest (acts.Resize a granules n) [] is_resize (Finds s 0 a n old true) refl refl w whole g e no_resize (λ w. refl) refl h in
      let heap = x.3 in
      let places : places_in_core (core_of x.0) ≡ places_in_core (core_of m) = λ i. heap.lfh i ++ heap.vs i ++ (heap.back i).places ++ heap.large i in
      let f : Some old ≡ Some b.place = sym (x.5).0 ∙ place_among_all s x.0 0 a (x.2).keeps ∙ ap (λ (ps : List Place). find (has_address a) ps) places ∙ b.found in
      let same : old ≡ b.place = cc in
      let stays = sym (stay_same s.limits x.0.state (core_of m) old n old.layer refl heap.back heap.vs heap.large) ∙ (x.5).1 in
      both_ways (lets_stay s.limits (still (core_of m)) b.place n) b.is_staying (ap (λ (p : Place). lets_stay s.limits (still (core_of m)) p n) (sym same) ∙ stays)
    where
      no_resize : (b : Act) → is_left_out b ≡ true → is_resize b ≡ false
      no_resize (acts.Resize x y z) h = absurd (false≢true h)
      no_resize _ h = refl

  -- what a moment up to the first act that is shown finds, it finds here
  pub found_before : (test : Act → Bool) (stays : Bool) (m : Configuration) (rest : List Act) (act : Act) (t : List Act) (p old : Place) → InCall s call m → Goes s m rest → find (has_address a) (places_in_core (core_of m)) ≡ Some p → shape_of rest ≡ act ∷ t → test act ≡ true →
      Before test (Finds s 0 a n old stays) (moments_by s m rest) → old ≡ p
  found_before test stays m [] act t p old w g b e hit h = absurd (let z : ⊥ = cc in z)
  found_before test stays m (c ∷ rest) act t p old w g b e hit h = elim (cases_Bool (test c)) [
    | inl y ↦
        let st : Finds s 0 a n old stays m.state = rw y at h in
        let f : Some old ≡ Some p = sym st.0 ∙ place_among_all s m 0 a w.keeps ∙ b in
        let same : old ≡ p = cc in
        same
    | inr y ↦ elim (cases_Bool (is_left_out c)) [
      | inr l ↦
          let z : c ∷ shape_of rest ≡ act ∷ t = rw l at e in
          let same : c ≡ act = cc in
          absurd (both_ways (test c) y (ap test same ∙ hit))
      | inl l ↦
          found_before test stays (after s m (by_zero c)) rest act t p old (within_next s call m c rest w g) (goes_after s m c rest g)
          (ap (λ (ps : List Place). find (has_address a) ps) (left_places s m c l) ∙ b) (rw l at e) hit (rw y at h)
    ]
  ]
