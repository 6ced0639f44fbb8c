-- A block of VS in hand in a span that was made for it, before and behind the step that gives the lock of the back end back.
use Rattle.std.proofs.Common.{◌≡◌, ℕ, ◌+◌, ◌*◌, ◌/◌, ◌≤◌, Bool, true, ◌&&◌, List, [], ◌∷◌, ◌++◌, length, refl, sym, ap, subst, ◌∙◌, arith, ltb, inl, inr}
use Rattle.std.specs.Prelude.{is_some}
use Rattle.std.specs.List.{list_all}
use Rattle.std.proofs.lemmas.Bool.{cases_Bool, and_from, and_parts, or_left}
use Rattle.heap_model.specs.declared.Act.{Act}
use Rattle.heap_model.specs.declared.Act.TheVariants as acts
use Rattle.heap_model.specs.declared.Layer.{Layer}
use Rattle.heap_model.specs.declared.Layer.TheVariants as layers
use Rattle.heap_model.specs.declared.Opening.{Opening}
use Rattle.heap_model.specs.declared.What.TheVariants as whats
use Rattle.heap_model.specs.CallState.{Configuration}
use Rattle.heap_model.specs.Geometry.{units_of, span_pages_of}
use Rattle.heap_model.specs.History.{configuration_after}
use Rattle.heap_model.specs.Layers.{StandsForVs, StandsForBack}
use Rattle.heap_model.specs.Legal.{lies_in, has_place, with_span, leaves_whole}
use Rattle.heap_model.specs.Marks.{vs_mark}
use Rattle.heap_model.specs.Ranges.{vs_spans, gaps_of}
use Rattle.heap_model.specs.Runs.{Run}
use Rattle.heap_model.specs.Shape.{shape_of}
use Rattle.heap_model.specs.State.{Setting, State, VsPart, Span, Place, hands, in_hand, places_of, holds, insert_span}
use Rattle.claim_rule.specs.Entries.{IsSettingOf, entry, setting_of}
use Rattle.claim_rule.specs.Places.{vs_slot, back_slot}
use Rattle.claim_rule.proofs.Advance.{some_setting}
use Rattle.serial_laws.specs.VsCalls.{vs_span_for}
use Rattle.serial_laws.proofs.NewSpan.{lies_in_new_span}
use Rattle.serial_laws.proofs.VsAllocate.{count_is}
use Rattle.backend_fit.specs.Effects.{with_segment, marked_run, part_with}
use Rattle.backend_fit.specs.Kept.{Kept, area_of}
use Rattle.backend_fit.specs.Kept as backs
use Rattle.backend_fit.proofs.Told.{spans_used}
use Rattle.vs_layer.specs.Kept.{VsKept, vs_span, block_in}
use Rattle.vs_layer.specs.Kept as vss
use Rattle.vs_layer.specs.Standing.{layer_of, with_block}
use Rattle.heap_gate.specs.Token.{Token, Always, now}
use Rattle.heap_gate.specs.Calls.{HasGiven, with_prepared}
use Rattle.call_parts.specs.Entries.{with_all, HasAdded}
use Rattle.call_parts.proofs.Joining.{setting_before, goes_does}
use Rattle.call_parts.proofs.Serving.{none_begins}
use Rattle.call_parts.proofs.Tokens.{now_all, added_all, length_all, setting_before_all}
use Rattle.vs_calls.specs.Tries.{tries_none}
use Rattle.vs_calls.specs.Parts.{HasHeldAnew, span_acts}
use Rattle.vs_calls.proofs.SpanMay.{HoldsForSpan, spans_with, order_now, none_now, fits_now}
use Rattle.vs_calls.proofs.InHand.{with_hand, used_more, HasNewBlock}

---- Lists

all_inserted : (t : Span → Bool) (x : Span) (xs : List Span) → t x ≡ true → list_all t xs ≡ true → list_all t (insert_span x xs) ≡ true
all_inserted t x [] h k = and_from (t x) true h refl
all_inserted t x (y ∷ ys) h k =
    let p = and_parts (t y) (list_all t ys) k in
    elim (cases_Bool (ltb x.first y.first)) [
      | inl e ↦ rw e (and_from (t x) (t y && list_all t ys) h k)
      | inr e ↦ rw e (and_from (t y) (list_all t (insert_span x ys)) p.0 (all_inserted t x ys h p.1))
    ]

pub span_no_begin : (reserved first n : ℕ) (r : Run) → none_begins (span_acts reserved first n r) ≡ true
span_no_begin reserved first n r = elim (cases_Bool (ltb (first / 256) reserved)) [ inl e ↦ rw e refl | inr e ↦ rw e refl ]

pub span_no_try : (reserved first n : ℕ) (r : Run) → tries_none whats.Back (span_acts reserved first n r) ≡ true
span_no_try reserved first n r = elim (cases_Bool (ltb (first / 256) reserved)) [ inl e ↦ rw e refl | inr e ↦ rw e refl ]

pub span_shown : (reserved first n : ℕ) (r : Run) → shape_of (span_acts reserved first n r) ≡ acts.Place (16 * r.first) r.count layers.Vs ∷ []
span_shown reserved first n r = elim (cases_Bool (ltb (first / 256) reserved)) [ inl e ↦ rw e refl | inr e ↦ rw e refl ]

span_whole : (c : Token) (reserved first n : ℕ) (r : Run) → (with_all c (span_acts reserved first n r)).whole ≡ true
span_whole c reserved first n r = elim (cases_Bool (ltb (first / 256) reserved)) [ inl e ↦ rw e refl | inr e ↦ rw e refl ]

span_few : (reserved first n : ℕ) (r : Run) → length (span_acts reserved first n r) ≤ 3
span_few reserved first n r = elim (cases_Bool (ltb (first / 256) reserved)) [ inl e ↦ rw e (omega arith) | inr e ↦ rw e (omega arith) ]

out_all : (c : Token) (rest : List Act) → (with_all c rest).out ≡ c.out
out_all c [] = refl
out_all c (act ∷ rest) = out_all (with_prepared c act) rest

---- Under both locks

module _ (c t : Token) (vs later : VsKept) (back more : Kept) (n addr : ℕ) (v : HoldsForSpan c vs back n) (x : HasHeldAnew c t vs later back more n addr) where
  abbrev list : List Act
  list = span_acts (area_of back).reserved x.first n x.run

  abbrev t0 : Token
  t0 = with_all c list

  -- the state with the span, and without the place
  abbrev pub spanned : Setting → State
  spanned s = let m = (now s c).state in record m { back = record { area = with_span (with_segment m.back.area x.first) (vs_span_for x.first n); places = m.back.places } }

  pub new_added : HasAdded c t0 list
  new_added = added_all c list (span_no_begin (area_of back).reserved x.first n x.run)

  number : t0.number ≡ c.number
  number = new_added.goes.number

  state_now : Always c (λ s. (now s t0).state ≡ with_hand (spanned s) c.number n x.run)
  state_now s q = ap (λ (m : Configuration). m.state) (now_all s c list) ∙ (v.leads x.first x.run x.range s q).state

  spans_more : Always c (λ s. vs_spans (spanned s).back.area ≡ insert_span (vs_span x.first (span_pages_of n)) (vs_spans (now s c).state.back.area))
  spans_more s q = spans_with (with_segment (now s c).state.back.area x.first) x.first n (order_now c vs back n x.first x.run v.tells_vs v.tells_back v.sound x.range s q)

  used_now : Always c (λ s. list_all (has_place 4096 (block_in x.run n ∷ (now s c).state.vs.places)) (vs_spans (spanned s).back.area) ≡ true)
  used_now s q =
      let m = (now s c).state in
      let y : Span = vs_span x.first (span_pages_of n) in
      let p : Place = block_in x.run n in
      let lies : lies_in 4096 y p ≡ true =
      lies_in_new_span m.back.area.spans m.vs.places x.first n x.run (none_now c vs back n x.first x.run v.tells_vs v.tells_back v.sound x.range s q) (fits_now c vs back n x.first x.run v.tells_vs v.tells_back v.sound x.range s q) in
      ap (list_all (has_place 4096 (p ∷ m.vs.places))) (spans_more s q)
      ∙ all_inserted (has_place 4096 (p ∷ m.vs.places)) y (vs_spans m.back.area) (or_left (lies_in 4096 y p) (has_place 4096 m.vs.places y) lies) (used_more p m.vs.places (vs_spans m.back.area) (v.used s q))

  before0 : (s : Setting) → IsSettingOf t0.opening t0.roll s → IsSettingOf c.opening c.roll s
  before0 s q = setting_before_all s c list q

  new0 : HasNewBlock t0 spanned later n addr x.run
  new0 = record {
    at = x.at;
    size = v.size;
    count = count_is (gaps_of (insert_span (vs_span x.first (span_pages_of n)) vs.spans) (vss.places_of vs)) (units_of n) x.run x.range.fits;
    inside = new_added.steady.inside ∙ v.inside;
    whole = span_whole c (area_of back).reserved x.first n x.run;
    begun = ap is_some new_added.steady.call ∙ v.begun;
    state = λ s q. subst (λ (k : ℕ). (now s t0).state ≡ with_hand (spanned s) k n x.run) (sym number) (state_now s (before0 s q));
    none = λ s q. subst (λ (k : ℕ). hands (spanned s) k ≡ []) (sym number) ((v.stands s (before0 s q)).hands v.free);
    held = λ s q. subst (λ (k : ℕ). holds (now s c).state.gate k whats.Vs ≡ true) (sym number) ((v.stands s (before0 s q)).locks whats.Vs ∙ v.held);
    tells = λ s q k e f.
        let qc = before0 s q in
        subst (λ (o : Opening). StandsForVs o k (layer_of later)) (sym new_added.goes.opening)
        (x.becomes c.opening (now s c).state k (v.tells_vs s qc) e (f ∙ spans_more s qc));
    used = λ s q. used_now s (before0 s q);
  }

  pub new_here : HasNewBlock t spanned later n addr x.run
  new_here = subst (λ (k : Token). HasNewBlock k spanned later n addr x.run) (sym x.prepared) new0

  pub here_added : HasAdded c t list
  here_added = subst (λ (k : Token). HasAdded c k list) (sym x.prepared) new_added

  pub here_out : t.out ≡ c.out
  here_out = ap (λ (k : Token). k.out) x.prepared ∙ out_all c list

  pub here_few : length t.prepared ≤ length c.prepared + 3
  here_few =
      let e = ap (λ (k : Token). length k.prepared) x.prepared in
      let all = length_all c list in
      let few = span_few (area_of back).reserved x.first n x.run in
      omega (arith, e, all, few)

  pub here_before : (s : Setting) → IsSettingOf t.opening t.roll s → IsSettingOf c.opening c.roll s
  here_before s q = setting_before c t list here_added.goes s q

  -- the back end tells the span
  pub here_back : Always t (λ s. (leaves_whole (now s t).state whats.Back ≡ true) × StandsForBack t.opening (now s t).state (backs.layer_of more))
  here_back s q =
      let qc = here_before s q in
      let m = (now s c).state in
      let is : (now s t).state.back ≡ part_with m.back (marked_run x.first (span_pages_of n) vs_mark) = ap (λ (y : State). y.back) (new_here.state s q) in
      let told = subst (λ (o : Opening). StandsForBack o (now s t).state (backs.layer_of more)) (sym here_added.goes.opening) (x.becomes_back c.opening m (now s t).state (v.tells_back s qc) is) in
      (spans_used t.opening (now s t).state more told, told)

  pub here_limits : later.limits ≡ t.opening.limits
  here_limits =
      let s = setting_of c.opening c.roll in let q = some_setting c.opening c.roll in
      let sp = spanned s in
      (x.becomes c.opening (now s c).state (record sp { vs = with_block (now s c).state.vs x.run n }) (v.tells_vs s q) refl (spans_more s q)).limits ∙ ap (λ (o : Opening). o.limits) (sym here_added.goes.opening)

---- Behind the step

-- the state with the part of VS that was before
abbrev pub behind : Token → (Setting → State) → Setting → State
behind b before s = record (now s b).state { vs = (before s).vs }

module _ (t b : Token) (before : Setting → State) (later : VsKept) (n addr : ℕ) (run : Run) (h : HasNewBlock t before later n addr run) (g : HasGiven t b whats.Back (entry t.number (acts.GiveLock whats.Back) ∷ [])) (out : t.out ≡ back_slot ∷ vs_slot ∷ []) where
  pub step_added : HasAdded t b (acts.GiveLock whats.Back ∷ [])
  step_added =
      let s = g.stands (vs_slot ∷ []) out in
      record {
        goes = goes_does t b (acts.GiveLock whats.Back ∷ []) g.runs.does s.depth;
        steady = record { call = s.call; fresh = s.fresh; inside = s.inside; searched = s.searched; drawn = s.drawn; owes = s.owes };
      }

  pub step_out : b.out ≡ vs_slot ∷ []
  step_out = (g.stands (vs_slot ∷ []) out).out

  pub step_prepared : b.prepared ≡ []
  step_prepared = (g.stands (vs_slot ∷ []) out).prepared

  prior : (s : Setting) → IsSettingOf b.opening b.roll s → IsSettingOf t.opening t.roll s
  prior s q = setting_before t b (acts.GiveLock whats.Back ∷ []) step_added.goes s q

  same_number : b.number ≡ t.number
  same_number = step_added.goes.number

  held_t : Always t (λ s. holds (now s t).state.gate t.number whats.Vs ≡ true)
  held_t s q = ap (λ (k : State). holds k.gate t.number whats.Vs) (h.state s q) ∙ h.held s q

  -- what it holds, others leave as it is
  vs_then : Always b (λ s. (now s b).state.vs ≡ (with_hand (before s) t.number n run).vs)
  vs_then s q = (g.runs.agrees s q).vs (held_t s (prior s q)) ∙ ap (λ (k : State). k.vs) (h.state s (prior s q))

  spans_then : Always b (λ s. vs_spans (now s b).state.back.area ≡ vs_spans (before s).back.area)
  spans_then s q = (g.runs.agrees s q).spans (held_t s (prior s q)) ∙ ap (λ (k : State). vs_spans k.back.area) (h.state s (prior s q))

  hand_then : Always b (λ s. (l : Layer) → in_hand t.number (places_of (now s b).state l) ≡ in_hand t.number (places_of (with_hand (before s) t.number n run) l))
  hand_then s q l = (g.runs.agrees s q).hands l ∙ same l
    where
      same : (k : Layer) → in_hand t.number (places_of (configuration_after s (now s t) (entry t.number (acts.GiveLock whats.Back) ∷ [])).state k) ≡ in_hand t.number (places_of (with_hand (before s) t.number n run) k)
      same layers.Lfh = ap (λ (k : State). in_hand t.number k.lfh) (h.state s (prior s q))
      same layers.Vs = ap (λ (k : State). in_hand t.number k.vs.places) (h.state s (prior s q))
      same layers.Back = ap (λ (k : State). in_hand t.number k.back.places) (h.state s (prior s q))
      same layers.Large = ap (λ (k : State). in_hand t.number k.large) (h.state s (prior s q))

  none_then : Always b (λ s. hands (behind b before s) t.number ≡ [])
  none_then s q =
      let e = hand_then s q in
      (λ i. e layers.Lfh i ++ in_hand t.number (before s).vs.places ++ e layers.Back i ++ e layers.Large i) ∙ h.none s (prior s q)

  pub new_behind : HasNewBlock b (behind b before) later n addr run
  new_behind =
      let s' = g.stands (vs_slot ∷ []) out in
      record {
        at = h.at;
        size = h.size;
        count = h.count;
        inside = s'.inside ∙ h.inside;
        whole = s'.whole;
        begun = ap is_some s'.call ∙ h.begun;
        state = λ s q. subst (λ (k : ℕ). (now s b).state ≡ with_hand (behind b before s) k n run) (sym same_number) (ap (λ (p : VsPart). record (now s b).state { vs = p }) (vs_then s q));
        none = λ s q. subst (λ (k : ℕ). hands (behind b before s) k ≡ []) (sym same_number) (none_then s q);
        held = λ s q. subst (λ (k : ℕ). holds (now s b).state.gate k whats.Vs ≡ true) (sym same_number) ((g.runs.agrees s q).locks whats.Vs ∙ held_t s (prior s q));
        tells = λ s q k e f. subst (λ (o : Opening). StandsForVs o k (layer_of later)) (sym step_added.goes.opening) (h.tells s (prior s q) k e (f ∙ spans_then s q));
        used = λ s q. ap (list_all (has_place 4096 (block_in run n ∷ (before s).vs.places))) (spans_then s q) ∙ h.used s (prior s q);
      }
