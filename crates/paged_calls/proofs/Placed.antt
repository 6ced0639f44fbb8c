-- The entries of a block of the back end, and what they leave.
use Rattle.std.proofs.Common.{◌≡◌, ◌⊎◌, ℕ, ◌+◌, ◌*◌, ◌-◌, ◌/◌, ◌<◌, ◌≤◌, Bool, true, false, List, [], ◌∷◌, ◌++◌, length, Option, Some, None, refl, sym, ap, ◌∙◌, subst, arith, ltb, inl, inr, eq-eqb}
use Rattle.std.specs.Prelude.{is_some}
use Rattle.std.proofs.lemmas.Bool.{cases_Bool, and_parts, lt-ltb, le-ltb, lt-leb, le-leb}
use Rattle.heap_model.specs.declared.Act.{Act}
use Rattle.heap_model.specs.declared.Act.TheVariants as acts
use Rattle.heap_model.specs.declared.Call.{Call}
use Rattle.heap_model.specs.declared.Call.TheVariants as calls
use Rattle.heap_model.specs.declared.Flags.{Flags}
use Rattle.heap_model.specs.declared.Kind.TheVariants as kinds
use Rattle.heap_model.specs.declared.Layer.{Layer}
use Rattle.heap_model.specs.declared.Layer.TheVariants as layers
use Rattle.heap_model.specs.declared.Limits.{Limits}
use Rattle.heap_model.specs.declared.Opening.{Opening}
use Rattle.heap_model.specs.declared.What.TheVariants as whats
use Rattle.heap_model.specs.Geometry.{pages_of, route_of, is_paged}
use Rattle.heap_model.specs.State.{Setting, State, Area, BackPart, Place, Live, InHand, hands, in_hand, places_of, holds}
use Rattle.heap_model.specs.Backend.{back_place}
use Rattle.heap_model.specs.CallState.{Configuration, CallState, caller_view}
use Rattle.heap_model.specs.Legal.{may_follow, after, call_after, leaves_whole, with_span}
use Rattle.heap_model.specs.History.{configuration_after, may_all_follow}
use Rattle.heap_model.specs.Layers.{StandsForBack}
use Rattle.claim_rule.specs.Entries.{setting_of, entry, may_prepare, are_prepared}
use Rattle.claim_rule.proofs.Advance.{some_setting}
use Rattle.serial_laws.specs.BackCalls.{block_span}
use Rattle.serial_laws.proofs.Allocate.{empty_parts, gives}
use Rattle.call_laws.specs.Within.{by_all, IsWithin}
use Rattle.call_laws.specs.Spans.{back_acts, with_back_block}
use Rattle.call_laws.proofs.Within.{updated_here}
use Rattle.call_laws.proofs.Exclusive.{allocation_holds_old}
use Rattle.call_laws.proofs.Spans.{allocation_places, call_behind, placing_back, reserving_back}
use Rattle.call_laws.proofs.Places.{refusing_back}
use Rattle.backend_fit.specs.Effects.{with_segment, part_with}
use Rattle.backend_fit.specs.Kept.{Kept, area_of, layer_of, Becomes}
use Rattle.backend_fit.specs.Laws.{GoesBehind}
use Rattle.backend_fit.specs.Sound.{IsSound}
use Rattle.backend_fit.proofs.Goes.{same_segment, next_one}
use Rattle.backend_fit.proofs.Told.{spans_used, goes_somewhere}
use Rattle.heap_gate.specs.Token.{Token, Always, now, IsStanding, is_out}
use Rattle.heap_gate.specs.Calls.{with_prepared}
use Rattle.call_parts.specs.Calls.{HoldsBack}
use Rattle.call_parts.proofs.Joining.{setting_before}
use Rattle.call_parts.proofs.Serving.{within, none_begins}
use Rattle.paged_calls.specs.Blocks.{block_run}
use Rattle.call_parts.specs.Entries.{with_all, block_acts, holding, HasNew, HasAdded, HasHandedOver}
use Rattle.call_parts.proofs.Tokens.{now_more, now_all, prepares, one_prepared, length_all, added_all, setting_before_all}
use Rattle.call_parts.proofs.Handing.{new_place}

---- The entries

-- these entries can be prepared, and lead to the block in hand
pub record BlockLeads (s : Setting) (m : Configuration) (c : ℕ) (rest : List Act) (first n : ℕ) : Type 0 where
  pub may : are_prepared s m c (by_all c rest) ≡ true
  pub state : (configuration_after s m (by_all c rest)).state ≡ with_back_block m.state (with_segment m.state.back.area first) c first n

module _ (s : Setting) (m : Configuration) (c n first : ℕ) (flags : Flags) where
  abbrev call : Call
  call = calls.Alloc n flags

  abbrev span : Act
  span = acts.Span first (pages_of n) kinds.Back 0 0

  abbrev place : Act
  place = acts.Place (4096 * first) (256 * pages_of n) layers.Back

  two_prepared : (m.now.calls c).call ≡ Some call → may_all_follow s m (by_all c (back_acts first n)) ≡ true → are_prepared s m c (by_all c (back_acts first n)) ≡ true
  two_prepared k h =
      let p = and_parts (may_follow s m (entry c span)) _ h in
      let r = and_parts (may_follow s (after s m (entry c span)) (entry c place)) true p.1 in
      one_prepared s m c span (by_all c (place ∷ [])) (prepares s m c span (allocation_holds_old m c n flags k) refl p.0)
      (one_prepared s (after s m (entry c span)) c place [] (prepares s (after s m (entry c span)) c place refl refl r.0) refl)

  module _ (w : IsWithin m c call) (back : (caller_view m c).back ≡ true) (placed : (m.now.calls c).placed ≡ false) (paged : is_paged (route_of n) ≡ true) where
    pub low_leads : back_place m.state.back.area s.limits.segments (pages_of n) ≡ Some first → first / 256 < m.state.back.area.reserved → BlockLeads s m c (back_acts first n) first n
    low_leads fits low =
        let l = placing_back s m c call n first w back (allocation_places s m c n flags w.call_is placed) paged fits low in
        record {
          may = two_prepared w.call_is l.may;
          state = l.state ∙ ap (λ (a : Area). with_back_block m.state a c first n) (sym (same_segment m.state.back.area first low));
        }

abbrev reserve : Configuration → Act
reserve m = acts.Reserve m.state.back.area.reserved

pub high_leads : (s : Setting) (m : Configuration) (c n first : ℕ) (flags : Flags) → IsWithin m c (calls.Alloc n flags) → (caller_view m c).back ≡ true → (m.now.calls c).placed ≡ false → is_paged (route_of n) ≡ true
    → GoesBehind m.state.back.area s.limits.segments (pages_of n) first → BlockLeads s m c (reserve m ∷ back_acts first n) first n
high_leads s m c n first flags w back placed paged g =
    let call = calls.Alloc n flags in
    let m0 = after s m (entry c (reserve m)) in
    let call0 = call_behind s m c call (reserve m) refl w.call_is in
    let placed0 : (m0.now.calls c).placed ≡ false = ap (λ (k : CallState). k.placed) (updated_here m.now.calls c (call_after s c (m.now.calls c) (reserve m))) ∙ placed in
    let l = reserving_back s m c call n first w back (allocation_places s m0 c n flags call0 placed0) g.less paged g.place g.there g.short in
    let p = and_parts (may_follow s m (entry c (reserve m))) _ l.may in
    record {
      may = one_prepared s m c (reserve m) (by_all c (back_acts first n)) (prepares s m c (reserve m) refl refl p.0) (two_prepared s m0 c n first flags call0 p.1);
      state = l.state ∙ ap (λ (a : Area). with_back_block m.state a c first n) (sym (next_one m.state.back.area first g.first_is));
    }

pub block_leads : (s : Setting) (m : Configuration) (c n first : ℕ) (flags : Flags) → IsWithin m c (calls.Alloc n flags) → (caller_view m c).back ≡ true → (m.now.calls c).placed ≡ false → is_paged (route_of n) ≡ true
    → back_place m.state.back.area s.limits.segments (pages_of n) ≡ Some first → (first / 256 < m.state.back.area.reserved) ⊎ GoesBehind m.state.back.area s.limits.segments (pages_of n) first
    → BlockLeads s m c (block_acts m.state.back.area.reserved first n) first n
block_leads s m c n first flags w back placed paged fits (inl low) =
    let e = lt-ltb (first / 256) m.state.back.area.reserved low in rw e (low_leads s m c n first flags w back placed paged fits low)
block_leads s m c n first flags w back placed paged fits (inr g) =
    let at = g.first_is in
    let e = le-ltb (first / 256) m.state.back.area.reserved (omega (arith, at)) in rw e (high_leads s m c n first flags w back placed paged g)

---- What is in hand then

pub placed_hand : (st : State) (c : ℕ) (a : Area) (first n : ℕ) → hands st c ≡ [] → (layer : Layer) → in_hand c (places_of (with_back_block st a c first n) layer) ≡ holding (new_place c layers.Back (4096 * first) (256 * pages_of n)) layer
placed_hand st c a first n e layer = by layer
  where
    one : (in_hand c st.lfh ++ in_hand c st.vs.places ++ in_hand c st.back.places ≡ []) × (in_hand c st.large ≡ [])
    one = empty_parts (in_hand c st.lfh ++ in_hand c st.vs.places ++ in_hand c st.back.places) (in_hand c st.large) e

    two : (in_hand c st.lfh ++ in_hand c st.vs.places ≡ []) × (in_hand c st.back.places ≡ [])
    two = empty_parts (in_hand c st.lfh ++ in_hand c st.vs.places) (in_hand c st.back.places) one.0

    three : (in_hand c st.lfh ≡ []) × (in_hand c st.vs.places ≡ [])
    three = empty_parts (in_hand c st.lfh) (in_hand c st.vs.places) two.0

    by : (l : Layer) → in_hand c (places_of (with_back_block st a c first n) l) ≡ holding (new_place c layers.Back (4096 * first) (256 * pages_of n)) l
    by layers.Lfh = three.0
    by layers.Vs = three.1
    by layers.Back = let k = eq-eqb c c refl in rw k (ap (λ (ps : List Place). new_place c layers.Back (4096 * first) (256 * pages_of n) ∷ ps) two.1)
    by layers.Large = one.1

---- The token

block_few : (reserved first n : ℕ) → length (block_acts reserved first n) ≤ 3
block_few reserved first n = elim (cases_Bool (ltb (first / 256) reserved)) [ inl e ↦ rw e (omega arith) | inr e ↦ rw e (omega arith) ]

pub block_no_begin : (reserved first n : ℕ) → none_begins (block_acts reserved first n) ≡ true
block_no_begin reserved first n = elim (cases_Bool (ltb (first / 256) reserved)) [ inl e ↦ rw e refl | inr e ↦ rw e refl ]

block_whole : (c : Token) (reserved first n : ℕ) → (with_all c (block_acts reserved first n)).whole ≡ true
block_whole c reserved first n = elim (cases_Bool (ltb (first / 256) reserved)) [ inl e ↦ rw e refl | inr e ↦ rw e refl ]

pub out_all : (c : Token) (rest : List Act) → (with_all c rest).out ≡ c.out
out_all c [] = refl
out_all c (act ∷ rest) = out_all (with_prepared c act) rest

module _ (c : Token) (flags : Flags) (back : Kept) (n : ℕ) (h : HoldsBack c (calls.Alloc n flags) back) (st : IsStanding c) (sound : IsSound back) (paged : is_paged (route_of n) ≡ true) where
  abbrev tcall : Call
  tcall = calls.Alloc n flags

  within_now : Always c (λ s. IsWithin (now s c) c.number tcall)
  within_now = within c tcall st h.serving.inside h.serving.call_is h.serving.whole

  back_held : Always c (λ s. (caller_view (now s c) c.number).back ≡ true)
  back_held s q = (st s q).locks whats.Back ∙ ap (is_out whats.Back) h.serving.out_is

  area_now : Always c (λ s. area_of back ≡ (now s c).state.back.area)
  area_now s q = ap (λ (b : BackPart). b.area) (h.tells s q).part

  place_now : (o : Option ℕ) → o ≡ back_place (area_of back) back.limits.segments (pages_of n) → Always c (λ s. back_place (now s c).state.back.area s.limits.segments (pages_of n) ≡ o)
  place_now o e s q = let l : back.limits ≡ s.limits = (h.tells s q).limits ∙ sym q.limits in (λ i. back_place (sym (area_now s q) i) ((sym l i).segments) (pages_of n)) ∙ sym e

  ---- A block

  module _ (first : ℕ) (fits : Some first ≡ back_place (area_of back) back.limits.segments (pages_of n)) where
    abbrev list : List Act
    list = block_acts (area_of back).reserved first n

    abbrev pub block_token : Token
    block_token = with_all c list

    leads_now : Always c (λ s. BlockLeads s (now s c) c.number list first n)
    leads_now s q =
        let m = now s c in
        let p = place_now (Some first) fits s q in
        let goes = goes_somewhere c.opening m.state back (h.tells s q) sound (pages_of n) first (subst (λ (l : Limits). back_place m.state.back.area l.segments (pages_of n) ≡ Some first) q.limits p) in
        let goes' = subst (λ (l : Limits). (first / 256 < m.state.back.area.reserved) ⊎ GoesBehind m.state.back.area l.segments (pages_of n) first) (sym q.limits) goes in
        subst (λ (r : ℕ). BlockLeads s m c.number (block_acts r first n) first n) (sym (ap (λ (a : Area). a.reserved) (area_now s q)))
        (block_leads s m c.number n first flags (within_now s q) (back_held s q) (h.serving.is_new s q).placed paged p goes')

    pub block_may : Always c (λ s. are_prepared s (now s c) c.number (by_all c.number list) ≡ true)
    block_may s q = (leads_now s q).may

    block_state : Always c (λ s. (now s block_token).state ≡ with_back_block (now s c).state (with_segment (now s c).state.back.area first) c.number first n)
    block_state s q = ap (λ (m : Configuration). m.state) (now_all s c list) ∙ (leads_now s q).state

    pub block_added : HasAdded c block_token list
    block_added = added_all c list (block_no_begin (area_of back).reserved first n)

    pub block_room : length block_token.prepared < 16
    block_room = let a = length_all c list in let b = block_few (area_of back).reserved first n in let d = ap length h.serving.prepared in omega (arith, a, b, d)

    pub block_out : block_token.out ≡ c.out
    block_out = out_all c list

    number : block_token.number ≡ c.number
    number = block_added.goes.number

    abbrev pub block_place : Place
    block_place = new_place c.number layers.Back (4096 * first) (256 * pages_of n)

    pub block_new : HasNew block_token block_place (4096 * first) n
    block_new = record {
      at = refl;
      suits_it = gives n paged;
      behind = refl;
      status = ap InHand (sym number);
      inside = block_added.steady.inside ∙ h.serving.inside;
      whole = block_whole c (area_of back).reserved first n;
      begun = ap is_some (block_added.steady.call ∙ h.serving.call_is);
      hand = λ s q layer.
          let qc = setting_before_all s c list q in
          subst (λ (x : ℕ). in_hand x (places_of (now s block_token).state layer) ≡ holding block_place layer) (sym number)
          (ap (λ (x : State). in_hand c.number (places_of x layer)) (block_state s qc) ∙ placed_hand (now s c).state c.number (with_segment (now s c).state.back.area first) first n ((st s qc).hands h.serving.free) layer);
      open_to = λ s q.
          let qc = setting_before_all s c list q in
          subst (λ (x : ℕ). (caller_view (now s block_token) x).back ≡ true) (sym number) (ap (λ (x : State). holds x.gate c.number whats.Back) (block_state s qc) ∙ back_held s qc);
    }

    -- .. and given, it is what the back end tells
    module _ (new : Kept) (becomes : Becomes back new (λ b. part_with b (block_run first n))) (d : Token) (zero_it : Bool) (over : HasHandedOver block_token d block_place n zero_it) where
      pub block_tells : Always d (λ s. (leaves_whole (now s d).state whats.Back ≡ true) × StandsForBack d.opening (now s d).state (layer_of new))
      block_tells s q =
          let qt = setting_before block_token d _ over.added.goes s q in
          let qc = setting_before_all s c list qt in
          let m = now s c in
          let made = block_state s qc in
          let given = (over.given s q).back m.state.back.places refl (ap (λ (x : State). x.back.places) made) in
          let size : 4096 * pages_of n - (4096 * pages_of n - n) ≡ n = omega arith in
          let area : (now s block_token).state.back.area ≡ with_span (with_segment m.state.back.area first) (block_span first n) = ap (λ (x : State). x.back.area) made in
          let is : (now s d).state.back ≡ part_with m.state.back (block_run first n) =
          given ∙ (λ i. record { area = area i; places = record { start = 4096 * first; granules = 256 * pages_of n; layer = layers.Back; status = Live (sym size i) } ∷ m.state.back.places }) in
          let t = becomes c.opening m.state (now s d).state (h.tells s qc) is in
          let o : d.opening ≡ c.opening = over.added.goes.opening ∙ block_added.goes.opening in
          let t' = subst (λ (x : Opening). StandsForBack x (now s d).state (layer_of new)) (sym o) t in
          (spans_used d.opening (now s d).state new t', t')

  ---- No range

  module _ (fits : None ≡ back_place (area_of back) back.limits.segments (pages_of n)) where
    abbrev pub refused_token : Token
    refused_token = with_prepared c (acts.NoFit n)

    pub refused_may : Always c (λ s. may_prepare s (now s c) c.number (acts.NoFit n) ≡ true)
    refused_may s q =
        prepares s (now s c) c.number (acts.NoFit n) (allocation_holds_old (now s c) c.number n flags (within_now s q).call_is) refl
        (refusing_back s (now s c) c.number tcall n (within_now s q) (back_held s q) refl paged (place_now None fits s q)).may

    pub refused_tells : (new : Kept) → new ≡ back → Always refused_token (λ s. (leaves_whole (now s refused_token).state whats.Back ≡ true) × StandsForBack refused_token.opening (now s refused_token).state (layer_of new))
    refused_tells new e s q =
        let t = subst (λ (m : Configuration). StandsForBack c.opening m.state (layer_of back)) (sym (now_more s c (acts.NoFit n))) (h.tells s q) in
        let t' = subst (λ (k : Kept). StandsForBack c.opening (now s refused_token).state (layer_of k)) (sym e) t in
        (spans_used c.opening (now s refused_token).state new t', t')

pub paged_route : (n : ℕ) → 131073 ≤ n → n ≤ 520192 → is_paged (route_of n) ≡ true
paged_route n l h =
    let a = lt-leb n 16368 (omega arith) in
    let b = lt-leb n 131072 (omega arith) in
    let d = le-leb n 520192 (omega arith) in
    rw (a, b, d) refl

-- the limits that the back end was made for are the heap's
pub tells_limits : (c : Token) (back : Kept) → Always c (λ s. StandsForBack c.opening (now s c).state (layer_of back)) → back.limits ≡ c.opening.limits
tells_limits c back t = (t (setting_of c.opening c.roll) (some_setting c.opening c.roll)).limits
