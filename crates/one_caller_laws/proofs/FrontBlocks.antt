-- A reallocation of a block of the front end to a size that it may serve: the block is taken amid the search for the new place.
use Rattle.std.proofs.Common.{◌≡◌, ℕ, ◌+◌, ◌-◌, ◌/◌, Bool, true, false, cond, List, [], ◌∷◌, ◌++◌, Option, Some, refl, sym, ap, ◌∙◌, subst, inl, inr}
use Rattle.std.specs.List.{find}
use Rattle.std.proofs.lemmas.Bool.{and_parts, false≢true, true≢false}
use Rattle.heap_model.specs.declared.Act.{Act}
use Rattle.heap_model.specs.declared.Act.TheVariants as acts
use Rattle.heap_model.specs.declared.Call.{Call}
use Rattle.heap_model.specs.declared.Call.TheVariants as calls
use Rattle.heap_model.specs.declared.Flags.{Flags}
use Rattle.heap_model.specs.declared.Layer.TheVariants as layers
use Rattle.heap_model.specs.declared.Reply.{Reply}
use Rattle.heap_model.specs.declared.Reply.TheVariants as replies
use Rattle.heap_model.specs.Geometry.{words_of}
use Rattle.heap_model.specs.Buckets.{bucket_of}
use Rattle.heap_model.specs.State.{Setting, Place, Live, InHand, has_address, place_at, is_live_at, change_found}
use Rattle.heap_model.specs.CallState.{Configuration, Nothing}
use Rattle.heap_model.specs.Legal.{after, with_status, layer_of}
use Rattle.heap_model.specs.Alone.{by_zero, configuration_by}
use Rattle.heap_model.specs.Moments.{moments_by}
use Rattle.heap_model.specs.Shape.{shape_of, shown, begins_move, is_no_fit, is_of_front, moving, TakesAndPlaces, IsMoved, HasNoRange, HasShape, Replied}
use Rattle.one_caller_laws.specs.UnderBack.{place_under_back, is_under_back}
use Rattle.one_caller_laws.proofs.Core.{Core, core_of, places_in_core}
use Rattle.one_caller_laws.proofs.InCall.{InCall, IsWhole, is_shown}
use Rattle.one_caller_laws.proofs.Reach.{Goes, goes_after, may_first, shown_place, shown_cases}
use Rattle.one_caller_laws.proofs.Pair.{shown_is, within_next}
use Rattle.one_caller_laws.proofs.Asks.{none_is}
use Rattle.one_caller_laws.proofs.Allocs.{zeros_are}
use Rattle.one_caller_laws.proofs.Freeing.{whole_restatused}
use Rattle.one_caller_laws.proofs.Expected.{Path}
use Rattle.one_caller_laws.proofs.Turns.{Seeking, HintIs}
use Rattle.one_caller_laws.proofs.Sought.{ShowsStop, seek}
use Rattle.one_caller_laws.proofs.Blocks.{Block, front_layer}
use Rattle.one_caller_laws.proofs.Carried.{core_taken, taken_core, taken_lives}
use Rattle.one_caller_laws.proofs.Firsts.{to_first}
use Rattle.one_caller_laws.proofs.Befores.{never_missed, never_given, never_resized, found_before}
use Rattle.one_caller_laws.proofs.Reallocs.{words_gained}
use Rattle.one_caller_laws.proofs.FrontMoves.{Away, To, Nowhere_else, Reached, away_stops, away_ends}
use Rattle.one_caller_laws.proofs.Amid.{lfh_core, starts_same, seeking_same, path_lfh, path_places, path_same, path_on, restatused_lfh}

module _ (s : Setting) (a n : ℕ) (flags : Flags) where
  abbrev call : Call
  call = calls.Realloc a n flags

  -- what is taken has the size of the block
  size_taken : (m : Configuration) (rest t : List Act) (other size : ℕ) (front : Bool) → InCall s call m → Goes s m rest → Block s a n flags (core_of m) size front false → shape_of rest ≡ acts.Take a other ∷ t → other ≡ size
  size_taken m rest t other size front w g block e =
      let x = to_first s call m rest (acts.Take a other) t w g e in
      let l = taken_lives s x.at a other x.within.keeps (may_first s x.at (acts.Take a other) x.later x.goes) in
      let z : Some l.place ≡ Some block.place = sym l.found ∙ ap (λ (ps : List Place). find (has_address a) ps) x.places ∙ block.found in
      let same : l.place ≡ block.place = cc in
      let q : Live other ≡ Live size = sym l.live ∙ ap (λ (p : Place). p.status) same ∙ block.live in
      let is : other ≡ size = cc in
      is

  -- what such a call shows: the Take, and then that it moves or is refused
  pub record Shows (size : ℕ) (reply : Reply) (rest : List Act) : Type 0 where
    pub behind : List Act
    pub shape : shape_of rest ≡ acts.Take a size ∷ behind
    pub away : Away s a n flags true size reply behind

  module _ (may_move : flags.in_place ≡ false) (m : Configuration) (rest : List Act) (w : InCall s call (after s m (by_zero (acts.Begin call)))) (whole : IsWhole (core_of (after s m (by_zero (acts.Begin call))))) (g : Goes s (after s m (by_zero (acts.Begin call))) rest)
      (size : ℕ) (block : Block s a n flags (core_of (after s m (by_zero (acts.Begin call)))) size true false) where
    abbrev k : Configuration
    k = after s m (by_zero (acts.Begin call))

    moved_by : (b : ℕ) (x : IsMoved s 0 a n flags.zero b (moments_by s m (acts.Begin call ∷ rest))) → (f : Bool) → is_of_front x.old ≡ f →
        TakesAndPlaces f (acts.Take a x.size) (acts.Place x.made.start x.made.granules x.made.layer) (moving a x.size b n flags.zero x.values) x.moves → Shows size (replies.Address b) rest
    moved_by b x true fr e =
        let t = acts.Give b n ∷ acts.Drop a ∷ [] in
        let shape : shape_of rest ≡ acts.Take a x.size ∷ acts.Place x.made.start x.made.granules x.made.layer ∷ (moving a x.size b n flags.zero x.values ++ t) = sym (shown_is s call m rest) ∙ x.acts_are ∙ ap (λ (l : List Act). l ++ t) e in
        let is = size_taken k rest _ x.size size true w g block shape in
        subst (λ (v : ℕ). Shows v (replies.Address b) rest) is (record { behind = acts.Place x.made.start x.made.granules x.made.layer ∷ (moving a x.size b n flags.zero x.values ++ t); shape = shape; away = To b x.made.start x.made.granules x.made.layer x.values refl x.address_is x.count refl })
    moved_by b x false fr (first, more, split, e) =
        let t = acts.Give b n ∷ acts.Drop a ∷ [] in
        let shape : shape_of rest ≡ acts.Place x.made.start x.made.granules x.made.layer ∷ ((first ++ acts.Take a x.size ∷ more) ++ t) = sym (shown_is s call m rest) ∙ x.acts_are ∙ ap (λ (l : List Act). l ++ t) e in
        let old = found_before s a n flags begins_move false k rest (acts.Place x.made.start x.made.granules x.made.layer) _ block.place x.old w g block.found shape refl x.leaves in
        absurd (false≢true (sym fr ∙ ap is_of_front old ∙ block.is_front))

    refused_by : (x : HasNoRange s 0 a n (moments_by s m (acts.Begin call ∷ rest))) → (f : Bool) → is_of_front x.old ≡ f →
        shown (moments_by s m (acts.Begin call ∷ rest)) ≡ cond f (acts.Take a x.size ∷ acts.NoFit n ∷ acts.Give a x.size ∷ []) (acts.NoFit n ∷ []) → Shows size replies.NoFit rest
    refused_by x true fr e =
        let shape : shape_of rest ≡ acts.Take a x.size ∷ acts.NoFit n ∷ acts.Give a x.size ∷ [] = sym (shown_is s call m rest) ∙ e in
        let is = size_taken k rest _ x.size size true w g block shape in
        subst (λ (v : ℕ). Shows v replies.NoFit rest) is (record { behind = acts.NoFit n ∷ acts.Give a x.size ∷ []; shape = shape; away = Nowhere_else refl refl })
    refused_by x false fr e =
        let shape : shape_of rest ≡ acts.NoFit n ∷ [] = sym (shown_is s call m rest) ∙ e in
        let old = found_before s a n flags is_no_fit false k rest (acts.NoFit n) [] block.place x.old w g block.found shape refl x.leaves in
        absurd (false≢true (sym fr ∙ ap is_of_front old ∙ block.is_front))

    pub shows_front : (reply : Reply) → HasShape s 0 call (Replied reply) (moments_by s m (acts.Begin call ∷ rest)) → Shows size reply rest
    shows_front (replies.Address b) (inl (e, inl x)) =
        let shape = sym (shown_is s call m rest) ∙ x.acts_are ∙ ap (λ (l : List Act). l ++ acts.Resize a x.granules n ∷ []) (zeros_are flags.zero (a / 8 + words_of x.size) (words_of n - words_of x.size)) in
        absurd (never_resized s a n flags (words_gained s a n flags x.size) k rest x.granules size true x.old w whole g block shape x.stays)
    shows_front (replies.Address b) (inl (e, inr x)) = absurd (never_given s a n flags k rest _ size x.size true x.old w g block (sym (shown_is s call m rest) ∙ x.acts_are) x.front x.stays)
    shows_front (replies.Address b) (inr (only, x)) = moved_by b x (is_of_front x.old) refl x.moves_are
    shows_front replies.NoFit (only, x) = refused_by x (is_of_front x.old) refl x.acts_are
    shows_front replies.NoRoom (only, x) = absurd (true≢false (sym only ∙ may_move))
    shows_front replies.NotLive x = absurd (never_missed s a n flags k rest [] size true w g block (sym (shown_is s call m rest) ∙ none_is a (shown (moments_by s m (acts.Begin call ∷ rest))) x))
    shows_front _ x = absurd x

  ---- The search goes on behind the Take

  head_is : (m : Configuration) (act : Act) (later : List Act) (size : ℕ) (t : List Act) → Goes s m (act ∷ later) → is_shown act ≡ true → shape_of (act ∷ later) ≡ acts.Take a size ∷ t → (act ≡ acts.Take a size) × (shape_of later ≡ t)
  head_is m act later size t g shown e = elim (shown_cases act shown) [
    | inl maker ↦ let p = shown_place s m act later g maker in let z : acts.Place p.0 p.1 p.2 ∷ p.3 ≡ acts.Take a size ∷ t = sym p.4 ∙ e in absurd (let bad : ⊥ = cc in bad)
    | inr out ↦
        let z : act ∷ shape_of later ≡ acts.Take a size ∷ t = rw out at e in
        let same : act ≡ acts.Take a size = cc in
        let more : shape_of later ≡ t = cc in
        (same, more)
  ]

  pub reached_front : (b : ℕ) (bucket : bucket_of n ≡ Some b) (h : Option ℕ) (k : Configuration) (reply : Reply) (rest : List Act) (size : ℕ) → InCall s call k → IsWhole (core_of k) → k.now.demand ≡ Nothing → Seeking s b h (core_of k) → HintIs s call n b refl bucket h k → Goes s k rest → place_under_back s k rest ≡ true →
      Block s a n flags (core_of k) size true false → (x : Shows size reply rest) → Reached s a n flags b bucket h true k rest x.behind
  reached_front b bucket h k reply rest size w whole demand seeking hint_is g under block show =
      let act = acts.Take a size in
      let x = seek s call n b refl bucket refl h k rest w whole demand seeking hint_is g under (record { act = act; later = show.behind; is = show.shape }) in
      let e = head_is x.at x.act x.later size show.behind x.goes x.stops (sym x.shape ∙ show.shape) in
      let goes = subst (λ (c : Act). Goes s x.at (c ∷ x.later)) e.0 x.goes in
      let under2 = subst (λ (c : Act). place_under_back s x.at (c ∷ x.later) ≡ true) e.0 x.under in
      let j = after s x.at (by_zero act) in
      let c0 = core_of k in
      let c1 = core_of x.at in
      let u = is_live_at a in
      let front = front_layer block.place block.is_front in
      let o0 : layer_of (find (has_address a) (places_in_core (core_of k))) ≡ Some layers.Lfh = ap layer_of block.found ∙ ap Some front in
      let found1 : find (has_address a) (places_in_core (core_of x.at)) ≡ Some block.place = ap (λ (ps : List Place). find (has_address a) ps) (path_places s b h x.steps c0 c1 x.path) ∙ block.found in
      let o1 : layer_of (find (has_address a) (places_in_core (core_of x.at))) ≡ Some layers.Lfh = ap layer_of found1 ∙ ap Some front in
      let qs = change_found (is_live_at a) (with_status (InHand 0)) (core_of k).lfh in
      let c2_is : core_of j ≡ lfh_core (core_of x.at) (change_found (is_live_at a) (with_status (InHand 0)) (core_of x.at).lfh) = core_taken s x.at a size x.within.keeps ∙ restatused_lfh c1 _ u (InHand 0) o1 in
      let c2_too : core_of j ≡ lfh_core (core_of x.at) qs = c2_is ∙ ap (λ (ps : List Place). lfh_core (core_of x.at) (change_found (is_live_at a) (with_status (InHand 0)) ps)) (path_lfh s b h x.steps c0 c1 x.path) in
      let seeking2 : Seeking s b h (core_of j) = subst (Seeking s b h) (sym c2_is) (seeking_same s b h c1 _ (starts_same u (InHand 0) c1.lfh) x.seeking) in
      let z = seek s call n b refl bucket refl h j x.later (within_next s call x.at act x.later x.within goes) (whole_restatused c1 (layer_of (place_at x.at.state 0 a)) u (InHand 0) x.whole) refl seeking2 x.hint_is (goes_after s x.at act x.later goes)
      (and_parts (is_under_back x.at act) (place_under_back s j x.later) under2).1 (subst ShowsStop (sym e.1) (away_stops s a n flags true size reply show.behind show.away)) in
      let base0 : taken_core a (core_of k) ≡ lfh_core (core_of k) qs = restatused_lfh c0 _ u (InHand 0) o0 in
      let p1 = path_same s b h x.steps c0 c1 qs (starts_same u (InHand 0) c0.lfh) x.path in
      let p2 = path_on s b h x.steps z.steps (lfh_core c0 qs) (lfh_core c1 qs) (core_of z.at) p1 (subst (λ (c : Core). Path s b h z.steps c (core_of z.at)) c2_too z.path) in
      let shape : shape_of (z.act ∷ z.later) ≡ show.behind = sym z.shape ∙ e.1 in
      record {
        at = z.at;
        act = z.act;
        later = z.later;
        steps = p2.0;
        path = subst (λ (c : Core). Path s b h p2.0 c (core_of z.at)) (sym base0) p2.1;
        hints = λ i t. z.hints i t ∙ x.hints i t;
        within = z.within;
        whole = z.whole;
        demand = z.demand;
        seeking = z.seeking;
        hint_is = z.hint_is;
        goes = z.goes;
        under = z.under;
        shape = shape;
        ends = x.ends ∙ ap (λ (c : Act). configuration_by s x.at (c ∷ x.later)) e.0 ∙ z.ends;
        stops = away_ends s a n flags true size reply z.act z.later z.stops (subst (Away s a n flags true size reply) (sym shape) show.away);
      }
