-- A new block of the back end in hand, for one that moves.
use Rattle.std.proofs.Common.{◌≡◌, ◌⊎◌, ℕ, ◌+◌, ◌*◌, ◌-◌, ◌/◌, ◌<◌, ◌≤◌, Bool, true, false, not, ◌||◌, List, [], ◌∷◌, length, Option, Some, None, refl, sym, ap, ◌∙◌, subst, arith, ltb, inl, inr}
use Rattle.std.specs.Prelude.{cond, filter}
use Rattle.std.proofs.lemmas.Bool.{cases_Bool, and_parts, and_from, lt-ltb, le-ltb, lt-leb, le-leb}
use Rattle.heap_model.specs.declared.Act.{Act}
use Rattle.heap_model.specs.declared.Act.TheVariants as acts
use Rattle.heap_model.specs.declared.Call.{Call}
use Rattle.heap_model.specs.declared.Call.TheVariants as calls
use Rattle.heap_model.specs.declared.Flags.{Flags}
use Rattle.heap_model.specs.declared.Kind.TheVariants as kinds
use Rattle.heap_model.specs.declared.Layer.{Layer}
use Rattle.heap_model.specs.declared.Layer.TheVariants as layers
use Rattle.heap_model.specs.declared.Limits.{Limits}
use Rattle.heap_model.specs.declared.Opening.{Opening}
use Rattle.heap_model.specs.declared.What.TheVariants as whats
use Rattle.heap_model.specs.Backend.{back_place}
use Rattle.heap_model.specs.CallState.{Configuration, CallState, caller_view}
use Rattle.heap_model.specs.Geometry.{pages_of, words_of, route_of, is_paged}
use Rattle.heap_model.specs.History.{configuration_after, may_all_follow}
use Rattle.heap_model.specs.Layers.{StandsForVs, StandsForBack, StandsForLarge}
use Rattle.heap_model.specs.Legal.{may_follow, after, call_after, with_span}
use Rattle.heap_model.specs.Limits.{AreValid}
use Rattle.heap_model.specs.Ranges.{vs_spans, is_of_kind}
use Rattle.heap_model.specs.Search.{request_of}
use Rattle.heap_model.specs.Stay.{lets_stay}
use Rattle.heap_model.specs.State.{Setting, State, Area, BackPart, Span, Place, Live, is_layer, is_live, is_in_hand_of, has_address, places_of, place_at, exclusive_places, all_places, insert_span}
use Rattle.claim_rule.specs.Entries.{IsLegalWith, IsSettingOf, setting_of, entry, are_prepared}
use Rattle.claim_rule.specs.Places.{data_count}
use Rattle.claim_rule.proofs.Advance.{some_setting}
use Rattle.serial_laws.specs.BackCalls.{block_span}
use Rattle.serial_laws.proofs.Allocate.{gives}
use Rattle.serial_laws.proofs.Found.{find_front}
use Rattle.call_laws.specs.Spans.{back_acts, with_back_block}
use Rattle.call_laws.specs.Within.{by_all, IsWithin}
use Rattle.call_laws.proofs.Places.{refusing_back}
use Rattle.call_laws.proofs.Spans.{call_behind, reallocation_places, placing_back, reserving_back}
use Rattle.call_laws.proofs.Within.{updated_here}
use Rattle.backend_fit.specs.Effects.{with_segment, part_with}
use Rattle.backend_fit.specs.Kept.{Kept, area_of, Becomes}
use Rattle.backend_fit.specs.Kept as backs
use Rattle.backend_fit.specs.Laws.{GoesBehind}
use Rattle.backend_fit.specs.Sound.{IsSound}
use Rattle.backend_fit.proofs.Goes.{same_segment, next_one}
use Rattle.backend_fit.proofs.Told.{goes_somewhere}
use Rattle.large_blocks.specs.Table as larges
use Rattle.vs_layer.specs.Standing as vss
use Rattle.heap_gate.specs.Token.{Token, Always, now, IsStanding, is_out}
use Rattle.call_parts.specs.Entries.{with_all, block_acts, HasAdded}
use Rattle.call_parts.proofs.Handing.{new_place}
use Rattle.call_parts.proofs.Serving.{within, none_begins}
use Rattle.call_parts.proofs.Tokens.{now_all, prepares, one_prepared, added_all, setting_before_all}
use Rattle.paged_calls.specs.Blocks.{block_run}
use Rattle.move_parts.specs.Moves.{IsMovingAny, IsHalfwayAny, with_given, TellsBack}
use Rattle.move_parts.specs.Places.{HasHeldBack, IsWithout}
use Rattle.move_parts.proofs.BackReserved.{back_leaves_still}
use Rattle.move_parts.proofs.Ended.{vs_stands, vs_used, large_stands}
use Rattle.move_parts.proofs.Holding.{IsMadePlainly, half_any, given_front}
use Rattle.move_parts.proofs.Movers.{IsMine, IsMover, mover, holds_mine, mine_area}
use Rattle.move_parts.proofs.Put.{IsPut}

pub paged_route : (n : ℕ) → 131073 ≤ n → n ≤ 520192 → is_paged (route_of n) ≡ true
paged_route n l h =
    let a = lt-leb n 16368 (omega arith) in
    let b = lt-leb n 131072 (omega arith) in
    let d = le-leb n 520192 (omega arith) in
    rw (a, b, d) refl

---- The entries

-- these entries can be prepared, and lead to the block in hand
pub record BlockLeads (s : Setting) (m : Configuration) (c : ℕ) (rest : List Act) (first n : ℕ) : Type 0 where
  pub may : are_prepared s m c (by_all c rest) ≡ true
  pub state : (configuration_after s m (by_all c rest)).state ≡ with_back_block m.state (with_segment m.state.back.area first) c first n

module _ (s : Setting) (c addr n first : ℕ) (flags : Flags) (p : Place) (may_move : flags.in_place ≡ false) where
  abbrev call : Call
  call = calls.Realloc addr n flags

  abbrev span : Act
  span = acts.Span first (pages_of n) kinds.Back 0 0

  abbrev place : Act
  place = acts.Place (4096 * first) (256 * pages_of n) layers.Back

  -- the call has the size to place
  sized : (m : Configuration) → IsMine m c addr p → (m.now.calls c).call ≡ Some call → (m.now.calls c).placed ≡ false → lets_stay s.limits m.state p n ≡ false → (request_of s m c).size ≡ Some n
  sized m old k placed leaves =
      reallocation_places s m c addr n flags p k placed may_move (held_found m old)
      (and_from (is_live p.status || is_in_hand_of c p.status) (not (lets_stay s.limits m.state p n)) old.there (ap not leaves))
    where
      held_found : (m : Configuration) → IsMine m c addr p → place_at m.state c addr ≡ Some p
      held_found m old = find_front (has_address addr) (exclusive_places m.state c) (all_places m.state) p old.first

  two_prepared : (m : Configuration) → IsMine m c addr p → (m.now.calls c).call ≡ Some call → may_all_follow s m (by_all c (back_acts first n)) ≡ true → are_prepared s m c (by_all c (back_acts first n)) ≡ true
  two_prepared m old k h =
      let x = and_parts (may_follow s m (entry c span)) _ h in
      let y = and_parts (may_follow s (after s m (entry c span)) (entry c place)) true x.1 in
      one_prepared s m c span (by_all c (place ∷ [])) (prepares s m c span (holds_mine m c addr n flags p k old) refl x.0)
      (one_prepared s (after s m (entry c span)) c place [] (prepares s (after s m (entry c span)) c place refl refl y.0) refl)

  module _ (m : Configuration) (old : IsMine m c addr p) (w : IsWithin m c call) (back : (caller_view m c).back ≡ true) (placed : (m.now.calls c).placed ≡ false) (paged : is_paged (route_of n) ≡ true) (leaves : lets_stay s.limits m.state p n ≡ false)
      (still : lets_stay s.limits (after s m (entry c (acts.Reserve m.state.back.area.reserved))).state p n ≡ false) where
    low_leads : back_place m.state.back.area s.limits.segments (pages_of n) ≡ Some first → first / 256 < m.state.back.area.reserved → BlockLeads s m c (back_acts first n) first n
    low_leads fits low =
        let l = placing_back s m c call n first w back (sized m old w.call_is placed leaves) paged fits low in
        record {
          may = two_prepared m old w.call_is l.may;
          state = l.state ∙ ap (λ (a : Area). with_back_block m.state a c first n) (sym (same_segment m.state.back.area first low));
        }

    abbrev reserve : Act
    reserve = acts.Reserve m.state.back.area.reserved

    high_leads : GoesBehind m.state.back.area s.limits.segments (pages_of n) first → BlockLeads s m c (reserve ∷ back_acts first n) first n
    high_leads g =
        let m0 = after s m (entry c reserve) in
        let call0 = call_behind s m c call reserve refl w.call_is in
        let placed0 : (m0.now.calls c).placed ≡ false = ap (λ (k : CallState). k.placed) (updated_here m.now.calls c (call_after s c (m.now.calls c) reserve)) ∙ placed in
        let old0 = mine_area m m0 m0.state.back.area refl c addr p old in
        let l = reserving_back s m c call n first w back (sized m0 old0 call0 placed0 still) g.less paged g.place g.there g.short in
        let x = and_parts (may_follow s m (entry c reserve)) _ l.may in
        record {
          may = one_prepared s m c reserve (by_all c (back_acts first n)) (prepares s m c reserve refl refl x.0) (two_prepared m0 old0 call0 x.1);
          state = l.state ∙ ap (λ (a : Area). with_back_block m.state a c first n) (sym (next_one m.state.back.area first g.first_is));
        }

    pub block_leads : back_place m.state.back.area s.limits.segments (pages_of n) ≡ Some first → (first / 256 < m.state.back.area.reserved) ⊎ GoesBehind m.state.back.area s.limits.segments (pages_of n) first
        → BlockLeads s m c (block_acts m.state.back.area.reserved first n) first n
    block_leads fits (inl low) = let e = lt-ltb (first / 256) m.state.back.area.reserved low in rw e (low_leads fits low)
    block_leads fits (inr g) =
        let at = g.first_is in
        let e = le-ltb (first / 256) m.state.back.area.reserved (omega (arith, at)) in rw e (high_leads g)

-- a span of another kind is none of VS
other_inserted : (x : Span) (xs : List Span) → is_of_kind kinds.Vs x ≡ false → filter (is_of_kind kinds.Vs) (insert_span x xs) ≡ filter (is_of_kind kinds.Vs) xs
other_inserted x [] h = rw h refl
other_inserted x (y ∷ ys) h = elim (cases_Bool (ltb x.first y.first)) [
  | inl e ↦ rw e (rw h refl)
  | inr e ↦
      let again = other_inserted x ys h in
      rw e (elim (cases_Bool (is_of_kind kinds.Vs y)) [ inl k ↦ rw k (ap (λ (zs : List Span). y ∷ zs) again) | inr k ↦ rw k again ])
]

---- The token

block_few : (reserved first n : ℕ) → length (block_acts reserved first n) ≤ 3
block_few reserved first n = elim (cases_Bool (ltb (first / 256) reserved)) [ inl e ↦ rw e (omega arith) | inr e ↦ rw e (omega arith) ]

block_no_begin : (reserved first n : ℕ) → none_begins (block_acts reserved first n) ≡ true
block_no_begin reserved first n = elim (cases_Bool (ltb (first / 256) reserved)) [ inl e ↦ rw e refl | inr e ↦ rw e refl ]

block_whole : (c : Token) (reserved first n : ℕ) → (with_all c (block_acts reserved first n)).whole ≡ true
block_whole c reserved first n = elim (cases_Bool (ltb (first / 256) reserved)) [ inl e ↦ rw e refl | inr e ↦ rw e refl ]

block_pending : (c : Token) (reserved first n : ℕ) → c.pending ≡ false → (with_all c (block_acts reserved first n)).pending ≡ false
block_pending c reserved first n h = elim (cases_Bool (ltb (first / 256) reserved)) [ inl e ↦ rw e h | inr e ↦ rw e h ]

module _ (c : Token) (taken : Bool) (addr size n : ℕ) (flags : Flags) (p : Place) (out : List ℕ) (v : IsMovingAny taken c addr size n flags p out) (st : IsStanding c) (held : is_out whats.Back out ≡ true) (back : Kept) (w : TellsBack c back) (sound : IsSound back) (paged : is_paged (route_of n) ≡ true) where
  abbrev mine : IsMover c addr n flags p out
  mine = mover taken c addr size n flags p out v

  within_now : Always c (λ s. IsWithin (now s c) c.number (calls.Realloc addr n flags))
  within_now = within c (calls.Realloc addr n flags) st mine.inside mine.call_is mine.whole

  held_now : Always c (λ s. (caller_view (now s c) c.number).back ≡ true)
  held_now s x = (st s x).locks whats.Back ∙ (ap (is_out whats.Back) mine.out_is ∙ held)

  area_now : Always c (λ s. area_of back ≡ (now s c).state.back.area)
  area_now s x = ap (λ (b : BackPart). b.area) (w s x).part

  place_now : (o : Option ℕ) → o ≡ back_place (area_of back) back.limits.segments (pages_of n) → Always c (λ s. back_place (now s c).state.back.area s.limits.segments (pages_of n) ≡ o)
  place_now o e s x = let l : back.limits ≡ s.limits = (w s x).limits ∙ sym x.limits in (λ i. back_place (sym (area_now s x) i) ((sym l i).segments) (pages_of n)) ∙ sym e

  -- where a segment was reserved the old block can't stay either
  still_now : Always c (λ s. lets_stay s.limits (after s (now s c) (entry c.number (acts.Reserve (now s c).state.back.area.reserved))).state p n ≡ false)
  still_now s x = by p.layer refl
    where
      by : (l : Layer) → p.layer ≡ l → lets_stay s.limits (after s (now s c) (entry c.number (acts.Reserve (now s c).state.back.area.reserved))).state p n ≡ false
      by layers.Lfh e = (let h = mine.leaves s x in let g = rw e at h in rw e g)
      by layers.Vs e = (let h = mine.leaves s x in let g = rw e at h in rw e g)
      by layers.Large e = (let h = mine.leaves s x in let g = rw e at h in rw e g)
      by layers.Back e =
          back_leaves_still c.opening (now s c).state back (w s x) sound addr p (mine.of_back e s x) s (now s c) c.number (now s c).state.back.area.reserved n refl refl e (mine.leaves s x)

  module _ (first : ℕ) (fits : Some first ≡ back_place (area_of back) back.limits.segments (pages_of n)) where
    abbrev pub list : List Act
    list = block_acts back.region.reserved first n

    leads_now : Always c (λ s. BlockLeads s (now s c) c.number list first n)
    leads_now s x =
        let m = now s c in
        let goes = place_now (Some first) fits s x in
        let somewhere = goes_somewhere c.opening m.state back (w s x) sound (pages_of n) first (subst (λ (l : Limits). back_place m.state.back.area l.segments (pages_of n) ≡ Some first) x.limits goes) in
        let somewhere' = subst (λ (l : Limits). (first / 256 < m.state.back.area.reserved) ⊎ GoesBehind m.state.back.area l.segments (pages_of n) first) (sym x.limits) somewhere in
        subst (λ (r : ℕ). BlockLeads s m c.number (block_acts r first n) first n) (sym (ap (λ (a : Area). a.reserved) (area_now s x)))
        (block_leads s c.number addr n first flags p mine.may_move m (mine.old s x) (within_now s x) (held_now s x) (mine.placed s x) paged (mine.leaves s x) (still_now s x) goes somewhere')

    pub block_may : Always c (λ s. are_prepared s (now s c) c.number (by_all c.number list) ≡ true)
    block_may s x = (leads_now s x).may

    abbrev q : Place
    q = new_place c.number layers.Back (4096 * first) (256 * pages_of n)

    abbrev t : Token
    t = with_all c list

    state_now : Always c (λ s. (now s t).state ≡ with_back_block (now s c).state (with_segment (now s c).state.back.area first) c.number first n)
    state_now s x = ap (λ (m : Configuration). m.state) (now_all s c list) ∙ (leads_now s x).state

    put_now : Always c (λ s. IsPut q (now s c).state (now s t).state)
    put_now s x = record { gate = ap (λ (y : State). y.gate) (state_now s x); lists = λ l. ap (λ (y : State). places_of y l) (state_now s x) ∙ by l }
      where
        by : (l : Layer) → places_of (with_back_block (now s c).state (with_segment (now s c).state.back.area first) c.number first n) l ≡ cond (is_layer l layers.Back) (q ∷ places_of (now s c).state l) (places_of (now s c).state l)
        by layers.Lfh = refl
        by layers.Vs = refl
        by layers.Back = refl
        by layers.Large = refl

    module _ (valid : AreValid c.opening.limits) (legal : IsLegalWith c.opening c.roll c.seen) (to : 4096 * first / 8 + words_of n ≤ data_count c.opening.limits) where
      block_half : IsHalfwayAny taken t (calls.Realloc addr n flags) addr size p (4096 * first) n q out
      block_half =
          half_any taken c addr size n flags p out v st valid legal list (block_no_begin back.region.reserved first n) layers.Back (4096 * first) (256 * pages_of n) (block_whole c back.region.reserved first n) (block_few back.region.reserved first n)
          (block_pending c back.region.reserved first n mine.pending) block_may put_now refl (gives n paged) held_now to

      block_added : HasAdded c t list
      block_added = added_all c list (block_no_begin back.region.reserved first n)

      abbrev span_it : Act
      span_it = acts.Span first (pages_of n) kinds.Back 0 0

      abbrev place_it : Act
      place_it = acts.Place (4096 * first) (256 * pages_of n) layers.Back

      abbrev reserve_it : Act
      reserve_it = acts.Reserve back.region.reserved

      block_made : IsMadePlainly c t p n q
      block_made = by (ltb (first / 256) back.region.reserved) refl
        where
          by : (f : Bool) → ltb (first / 256) back.region.reserved ≡ f → IsMadePlainly c t p n q
          by true e =
              let is : list ≡ span_it ∷ place_it ∷ [] = rw e refl in
              record {
                made = record {
                  reserves = [];
                  begins = span_it;
                  more = place_it ∷ [];
                  added = subst (HasAdded c t) is block_added;
                  begins_it = refl;
                  no_begin = refl;
                  shape_is = refl;
                  reserves_are = inl refl;
                };
                plain = refl;
              }
          by false e =
              let is : list ≡ reserve_it ∷ span_it ∷ place_it ∷ [] = rw e refl in
              record {
                made = record {
                  reserves = reserve_it ∷ [];
                  begins = span_it;
                  more = place_it ∷ [];
                  added = subst (HasAdded c t) is block_added;
                  begins_it = refl;
                  no_begin = refl;
                  shape_is = refl;
                  reserves_are = inr (
                    back.region.reserved,
                    refl,
                    λ s x.
                        subst (λ (g : ℕ). lets_stay s.limits (after s (now s c) (entry c.number (acts.Reserve g))).state p n ≡ false) (sym (ap (λ (a : Area). a.reserved) (area_now s x))) (still_now s x),
                  );
                };
                plain = refl;
              }

      before : (s : Setting) → IsSettingOf t.opening t.roll s → IsSettingOf c.opening c.roll s
      before s x = setting_before_all s c list x

      number : t.number ≡ c.number
      number = block_added.goes.number

      abbrev k : (s : Setting) → State
      k s = with_given (now s t).state t.number q n

      given_back : (s : Setting) → IsSettingOf c.opening c.roll s → (k s).back ≡ part_with (now s c).state.back (block_run first n)
      given_back s x =
          let m = (now s c).state in
          let is : 4096 * pages_of n - (4096 * pages_of n - n) ≡ n = omega arith in
          ap (λ (j : ℕ). (with_given (now s t).state j q n).back) number
          ∙ (ap (λ (y : State). (with_given y c.number q n).back) (state_now s x)
          ∙ ((λ i. record { area = with_span (with_segment m.back.area first) (block_span first n); places = given_front c.number layers.Back (4096 * first) (256 * pages_of n) n m.back.places i })
          ∙ (λ i. record { area = with_span (with_segment m.back.area first) (block_span first n); places = record { start = 4096 * first; granules = 256 * pages_of n; layer = layers.Back; status = Live (sym is i) } ∷ m.back.places })))

      same_vs : (s : Setting) → IsSettingOf c.opening c.roll s → (k s).vs ≡ (now s c).state.vs
      same_vs s x = ap (λ (y : State). y.vs) (state_now s x)

      same_large : (s : Setting) → IsSettingOf c.opening c.roll s → (k s).large ≡ (now s c).state.large
      same_large s x = ap (λ (y : State). y.large) (state_now s x)

      spans_then : (s : Setting) → IsSettingOf c.opening c.roll s → vs_spans (k s).back.area ≡ vs_spans (now s c).state.back.area
      spans_then s x = ap (λ (y : State). vs_spans y.back.area) (state_now s x) ∙ other_inserted (block_span first n) (now s c).state.back.area.spans refl

      pub block_held : (d : Token) → d ≡ t → (more : Kept) → Becomes back more (λ b. part_with b (block_run first n)) → HasHeldBack taken c d addr size n flags p out (4096 * first) more
      block_held d e more becomes = subst (λ (y : Token). HasHeldBack taken c y addr size n flags p out (4096 * first) more) (sym e) (record {
        place = q;
        held = record { half = block_half; made = block_made.made; plain = block_made.plain };
        back = λ s x.
            let y = before s x in
            subst (λ (o : Opening). StandsForBack o (k s) (backs.layer_of more)) (sym block_added.goes.opening) (becomes c.opening (now s c).state (k s) (w s y) (given_back s y));
        vs = λ vs f s x.
            let y = before s x in (
              vs_used (now s c).state (k s) (same_vs s y) (spans_then s y) (f.used s y),
              subst (λ (o : Opening). StandsForVs o (k s) (vss.layer_of vs)) (sym block_added.goes.opening) (vs_stands c.opening (now s c).state (k s) vs (f.tells s y) (same_vs s y) (spans_then s y)),
            );
        large = λ large f s x.
            let y = before s x in
            subst (λ (o : Opening). StandsForLarge o (k s) (larges.layer_of large)) (sym block_added.goes.opening) (large_stands c.opening (now s c).state (k s) large (f s y) (same_large s y));
      })

  pub block_without : None ≡ back_place (area_of back) back.limits.segments (pages_of n) → (d : Token) → d ≡ c → IsWithout c d n
  block_without fits d e = record {
    same = e;
    may = λ s x. prepares s (now s c) c.number (acts.NoFit n) (holds_mine (now s c) c.number addr n flags p (within_now s x).call_is (mine.old s x)) refl
        (refusing_back s (now s c) c.number (calls.Realloc addr n flags) n (within_now s x) (held_now s x) refl paged (place_now None fits s x)).may;
  }

-- the limits that the back end was made for are the heap's
pub back_limits : (c : Token) (back : Kept) → TellsBack c back → back.limits ≡ c.opening.limits
back_limits c back t = (t (setting_of c.opening c.roll) (some_setting c.opening c.roll)).limits
