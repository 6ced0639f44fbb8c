-- A block in hand in a span that was made for it, behind NoSpan: it is to be given, and then both locks.
use Rattle.std.proofs.Common.{◌≡◌, ℕ, ◌/◌, Bool, None, List, [], ◌∷◌, ◌++◌, refl, sym, ap, subst, ◌∙◌, arith, append_assoc}
use Rattle.std.specs.Prelude.{is_some, option_and_then}
use Rattle.std.proofs.lemmas.Bool.{lt-ltb}
use Rattle.heap_model.specs.declared.Act.{Act}
use Rattle.heap_model.specs.declared.Act.TheVariants as acts
use Rattle.heap_model.specs.declared.Call.TheVariants as calls
use Rattle.heap_model.specs.declared.What.TheVariants as whats
use Rattle.heap_model.specs.Runs.{Run}
use Rattle.heap_model.specs.Shape.{zeroing}
use Rattle.heap_model.specs.State.{Setting, State, Area, live_size}
use Rattle.backend_fit.specs.Kept.{Kept, area_of}
use Rattle.call_laws.specs.Spans.{vs_acts, with_vs_block}
use Rattle.backend_fit.specs.Sound.{IsSound}
use Rattle.backend_fit.proofs.Goes.{same_segment}
use Rattle.vs_layer.specs.Kept.{VsKept, place_for}
use Rattle.heap_gate.specs.Token.{Token, Always, now, IsStanding, is_out}
use Rattle.call_parts.specs.Entries.{HasAdded, HasEnded}
use Rattle.call_parts.proofs.Serving.{within}
use Rattle.call_parts.proofs.Tokens.{ended_then}
use Rattle.vs_calls.specs.Parts.{HasRange, HasHeldAnew, HasNoRange, HasPlaced, span_acts}
use Rattle.vs_calls.proofs.SpanMay.{SpanLeads, HoldsForSpan, two_prepared, none_now, fits_now, pages_now, reserved_now}
use Rattle.vs_calls.proofs.NewPlaced.{spanned, new_here, here_added, here_out, here_few, here_back, here_limits, span_no_begin, span_no_try, span_shown}
use Rattle.vs_calls.proofs.InHand.{HasNewBlock}
use Rattle.vs_calls.proofs.InHand as hand
use Rattle.vs_calls.proofs.Shapes.{placed_shows}
use Rattle.fall_calls.specs.Both.{HasBlock, gives}
use Rattle.fall_calls.specs.Falls.{FallsToVs, HasNoRoom}
use Rattle.fall_calls.proofs.HandedTwo.{vs_out, back_out}
use Rattle.fall_calls.proofs.Resting.{gives_quiet, gives_no_try}
use Rattle.fall_calls.proofs.Falling.{small_size}
use Rattle.fall_calls.proofs.NewSpanLaw.{low, falling_into_span}

-- where there is no range, nothing has changed
module _ (c t : Token) (vs later : VsKept) (back more : Kept) (n : ℕ) (e : HasNoRange c t vs later back more n) where
  pub falls_still : (zero_it vs_last : Bool) → FallsToVs c vs back n zero_it vs_last → FallsToVs t later more n zero_it vs_last
  falls_still zero_it vs_last x = subst (λ (k : Token). FallsToVs k later more n zero_it vs_last) (sym e.same)
      (subst (λ (k : VsKept). FallsToVs c k more n zero_it vs_last) (sym e.same_vs) (subst (λ (k : Kept). FallsToVs c vs k n zero_it vs_last) (sym e.same_back) x))

  pub no_room : place_for vs n ≡ None → HasNoRoom vs back n
  no_room none = record { no_gap = none; no_pages = e.no_pages }

  pub no_room_then : place_for vs n ≡ None → HasNoRoom later more n
  no_room_then none = subst (λ (k : VsKept). HasNoRoom k more n) (sym e.same_vs) (subst (λ (k : Kept). HasNoRoom vs k n) (sym e.same_back) (no_room none))

module _ (c : Token) (vs : VsKept) (back : Kept) (n : ℕ) (zero_it vs_last : Bool) (x : FallsToVs c vs back n zero_it vs_last) (st : IsStanding c) (sound : IsSound back) where
  -- the entries of a span, which lies in a reserved segment
  leads : (first : ℕ) (r : Run) → HasRange vs back n first r → Always c (λ s. SpanLeads s (now s c) c.number (span_acts (area_of back).reserved first n r) first n r)
  leads first r g s q =
      let m = now s c in
      let a = m.state.back.area in
      let v = x.keeps.tells in
      let z = x.stands in
      let w = within c (calls.Alloc n x.flags) st z.inside z.call_is z.whole s q in
      let has_vs = (st s q).locks whats.Vs ∙ (ap (is_out whats.Vs) z.out_is ∙ vs_out vs_last) in
      let has_back = (st s q).locks whats.Back ∙ (ap (is_out whats.Back) z.out_is ∙ back_out vs_last) in
      let none = none_now c vs back n first r v x.back_is sound g s q in
      let there = pages_now c vs back n first r v x.back_is sound g s q in
      let fits = fits_now c vs back n first r v x.back_is sound g s q in
      let reserved = low s m c.number n x.bucket first r x.flags w has_vs has_back (x.cannot.said s q) x.bucket_is (x.cannot.refused s q) none there fits in
      let l = falling_into_span s m c.number n x.bucket first r x.flags w has_vs has_back (x.cannot.said s q) x.bucket_is (x.cannot.refused s q) none there fits in
      let one : SpanLeads s m c.number (vs_acts first n r) first n r = record {
        may = two_prepared s m c.number n first r x.flags w.call_is l.may;
        state = l.state ∙ ap (λ (y : Area). with_vs_block m.state y c.number first n r) (sym (same_segment a first reserved));
      } in
      let e = lt-ltb (first / 256) a.reserved reserved in
      let here : SpanLeads s m c.number (span_acts a.reserved first n r) first n r = rw e one in
      subst (λ (k : ℕ). SpanLeads s m c.number (span_acts k first n r) first n r) (reserved_now c vs back n first r v x.back_is sound g s q) here

  pub falls_holds : HoldsForSpan c vs back n
  falls_holds = record {
    stands = st;
    sound = sound;
    size = small_size n x.bucket x.bucket_is;
    begun = ap is_some x.stands.call_is;
    inside = x.stands.inside;
    free = x.stands.free;
    held = ap (is_out whats.Vs) x.stands.out_is ∙ vs_out vs_last;
    used = x.keeps.used;
    tells_vs = x.keeps.tells;
    tells_back = x.back_is;
    leads = leads;
  }

  module _ (t : Token) (later : VsKept) (more : Kept) (addr : ℕ) (h : HasHeldAnew c t vs later back more n addr) where
    abbrev before : Setting → State
    before s = spanned c t vs later back more n addr falls_holds h s

    block : HasNewBlock t before later n addr h.run
    block = new_here c t vs later back more n addr falls_holds h

    abbrev list : List Act
    list = span_acts (area_of back).reserved h.first n h.run

    pub added : HasAdded c t list
    added = here_added c t vs later back more n addr falls_holds h

    pub to_give : HasBlock t later more addr n vs_last
    to_give =
        let few = here_few c t vs later back more n addr falls_holds h in
        let few0 = x.stands.few in
        record {
          block = record {
            place = hand.place t before later n addr h.run block;
            new = hand.new_block t before later n addr h.run block;
            layer = refl;
            sized = ap (option_and_then (λ p. live_size p.status)) h.there;
            limits_are = here_limits c t vs later back more n addr falls_holds h;
            once_given = hand.given_tells t before later n addr h.run block;
          };
          few = omega (arith, few, few0);
          out_is = here_out c t vs later back more n addr falls_holds h ∙ x.stands.out_is;
          owes = added.steady.owes ∙ x.stands.owes;
          back_is = λ s q. (here_back c t vs later back more n addr falls_holds h s q).1;
        }

    pub placed : (d : Token) → HasEnded t d ((zeroing zero_it addr n ++ acts.Give addr n ∷ []) ++ gives vs_last) [] → HasPlaced c d n addr zero_it
    placed d e =
        let quiet = gives_quiet vs_last in
        let given : List Act = zeroing zero_it addr n ++ acts.Give addr n ∷ [] in
        placed_shows c d list (gives vs_last) h.run.first h.run.count addr n zero_it h.at (span_no_begin (area_of back).reserved h.first n h.run) (span_no_try (area_of back).reserved h.first n h.run)
        (span_shown (area_of back).reserved h.first n h.run) quiet.1 (gives_no_try vs_last) quiet.0
        (subst (λ (l : List Act). HasEnded c d l []) (sym (append_assoc list given (gives vs_last))) (ended_then c t d list (given ++ gives vs_last) [] added e))
