-- What each configuration of the rule keeps of the low-fragmentation front end: its spans lie apart, each place is a block of one, and no two places
-- begin at one address.
use Rattle.std.proofs.Common.{◌≡◌, ℕ, zero, suc, ◌+◌, ◌-◌, ◌*◌, ◌/◌, ◌%◌, ◌<◌, ◌≤◌, true, List, [], ◌∷◌, ◌++◌, length, Option, Some, None, refl, sym, ap, ◌∙◌, subst, arith, inl, inr, ⊎_elim}
use Rattle.std.specs.Prelude.{nat_lt}
use Rattle.std.specs.List.{AllByRecursion}
use Rattle.std.proofs.lemmas.Bool.{and_parts, ltb-true}
use Rattle.rand_pcg.specs.Lcg.{started, increment_of, advance}
use Rattle.rand_pcg.specs.Pcg.{multiplier_64, pcg32}
use Rattle.heap_model.specs.declared.Act.{Act}
use Rattle.heap_model.specs.declared.Act.TheVariants as acts
use Rattle.heap_model.specs.declared.Entry.{Entry}
use Rattle.heap_model.specs.declared.Kind.TheVariants as kinds
use Rattle.heap_model.specs.declared.Layer.TheVariants as layers
use Rattle.heap_model.specs.declared.Limits.{Limits}
use Rattle.heap_model.specs.Buckets.{bucket_pages}
use Rattle.heap_model.specs.State.{Setting, IsValidSetting, Area, Span, Place, updated}
use Rattle.heap_model.specs.CallState.{CallState, Configuration, Search}
use Rattle.heap_model.specs.Search.{SearchKey, draw_of, search_key_of, asked_bucket, after_own_span, after_saw, after_lost, after_no_hint, after_no_span}
use Rattle.heap_model.specs.Legal.{after, call_after, step_search}
use Rattle.heap_model.specs.History.{configuration_after, configuration_of, first_configuration}
use Rattle.heap_soundness.specs.Sound.{IsOneOf, AreInOrder, IsInLfh, AreDisjoint, AreApart, IsSoundSpan, IsCommittedSpan}
use Rattle.heap_soundness.specs.Invariant.{Keeps}
use Rattle.heap_soundness.proofs.Kept.{keeps_all}
use Rattle.heap_soundness.proofs.Lists.{all_at, all_from}
use Rattle.claim_rule.specs.declared.views.Assignment.{Assignment}
use mathlib.Core.Option.{some}
use lib.ListN.{get_elem?}
use Rattle.atomic_table.specs.Table.{State as TableState}
use Rattle.lfh_buckets.proofs.BlockLemmas.{size_in_granules}
use Rattle.heap_model.specs.declared.Opening.{Opening}
use Rattle.claim_rule.specs.declared.views.View.{View}
use Rattle.heap_model.specs.Layers.{LayerState}
use Rattle.claim_rule.specs.Rule.{IsRuled, IsReady}
use Rattle.claim_rule.proofs.Lists.{after-append, follow_join, legal_parts, named-append, named_by}
use Rattle.claim_rule.proofs.Advance.{before, role_of, some_setting, by}
use Rattle.claim_rule.specs.Entries.{IsSettingOf, is_named, have_slots, setting_of, slot_at}
use Rattle.step_parts.specs.Starts.{HaveOwnStarts}

---- One configuration in all settings of the same callers

draw_same : (s s' : Setting) (c k : ℕ) → s.seed ≡ s'.seed → s.stream c ≡ s'.stream c → draw_of s c k ≡ draw_of s' c k
unfolding draw_of
draw_same s s' c k e f = ap (λ (z : ℕ × ℕ). (pcg32 (advance 64 multiplier_64 k (started 64 multiplier_64 z.0 (increment_of 64 z.1)))).0) (λ i. (e i, f i))

-- the settings give this caller the same
pub record AreAlike (s s' : Setting) (c : ℕ) : Type 0 where
  pub seed : s.seed ≡ s'.seed
  pub slot : s.slot c ≡ s'.slot c
  pub stream : s.stream c ≡ s'.stream c

key_same : (s s' : Setting) (c : ℕ) (k : CallState) (b : ℕ) → AreAlike s s' c → search_key_of s c k b ≡ search_key_of s' c k b
key_same s s' c k b h = ap (λ (z : ℕ × ℕ). record { bucket = b; slot = z.0; draw = z.1 }) (λ i. (h.slot i, draw_same s s' c k.searches h.seed h.stream i))

search_same : (s s' : Setting) (c : ℕ) (k : CallState) (f : SearchKey → Search → Search) (o : Option ℕ) → AreAlike s s' c → step_search s c k f o ≡ step_search s' c k f o
search_same s s' c k f None h = refl
search_same s s' c k f (Some b) h = ap (λ (g : SearchKey). Rattle.heap_model.specs.Legal.with_search k (f g k.search)) (key_same s s' c k b h)

call_same : (s s' : Setting) (c : ℕ) (k : CallState) (act : Act) → AreAlike s s' c → call_after s c k act ≡ call_after s' c k act
call_same s s' c k (acts.Span first pages kinds.Lfh bucket slot) h = search_same s s' c k (λ g f. after_own_span g f first) (asked_bucket k) h
call_same s s' c k (acts.Span first pages kinds.Vs bucket slot) h = refl
call_same s s' c k (acts.Span first pages kinds.Back bucket slot) h = refl
call_same s s' c k (acts.Span first pages kinds.Header bucket slot) h = refl
call_same s s' c k (acts.Span first pages kinds.Free bucket slot) h = refl
call_same s s' c k (acts.Saw head word bits) h = search_same s s' c k (λ g f. after_saw g f head word bits) (asked_bucket k) h
call_same s s' c k (acts.Lost head index) h = search_same s s' c k (λ g f. after_lost f) (asked_bucket k) h
call_same s s' c k (acts.NoHint bucket slot) h = search_same s s' c k (λ g f. after_no_hint f) (asked_bucket k) h
call_same s s' c k (acts.NoSpan bucket) h = ap (λ (x : CallState). record x { no_span = true }) (search_same s s' c k (λ g f. after_no_span f) (asked_bucket k) h)
call_same s s' c k _ h = refl

after_same : (s s' : Setting) (m : Configuration) (e : Entry) → AreAlike s s' e.caller → after s m e ≡ after s' m e
after_same s s' m e h = ap (λ (x : CallState). record { state = (after s m e).state; now = record { calls = updated m.now.calls e.caller x; disturbed = (after s m e).now.disturbed; span_history = (after s m e).now.span_history; demand = (after s m e).now.demand } }) (call_same s s' e.caller (m.now.calls e.caller) e.act h)

-- a configuration depends on a setting only at callers that have entries
pub through_same : (s s' : Setting) (k : ℕ) (m : Configuration) (es : List Entry) → ((c : ℕ) → c < k → AreAlike s s' c) → is_named k es ≡ true → configuration_after s m es ≡ configuration_after s' m es
through_same s s' k m [] h n = refl
through_same s s' k m (e ∷ es) h n =
    let p = and_parts (nat_lt e.caller k) (is_named k es) n in
    ap (λ (x : Configuration). configuration_after s x es) (after_same s s' m e (h e.caller (ltb-true e.caller k p.0))) ∙ through_same s s' k (after s' m e) es h p.1

---- A setting that is valid

slots_below : (slots : ℕ) (roll : List Assignment) (c : ℕ) → 0 < slots → have_slots slots roll ≡ true → slot_at roll c < slots
slots_below slots [] c lt h = lt
slots_below slots (x ∷ xs) zero lt h = ltb-true x.slot slots (and_parts (nat_lt x.slot slots) (have_slots slots xs) h).0
slots_below slots (x ∷ xs) (suc c) lt h = slots_below slots xs c lt (and_parts (nat_lt x.slot slots) (have_slots slots xs) h).1

-- the setting of the callers is one of a heap
pub valid_setting : (o : Opening) (roll : List Assignment) → Rattle.heap_model.specs.Limits.AreValid o.limits → have_slots o.limits.slots roll ≡ true → IsValidSetting (setting_of o roll)
valid_setting o roll l h = let some = l.slots in record { limits = l; slot = λ c lt. slots_below o.limits.slots roll c (omega arith) h }

---- The front end

-- a subsegment of a bucket and a slot in the segments
pub record IsFrontSpan (l : Limits) (x : Span) : Type 0 where
  pub kind : x.kind ≡ kinds.Lfh
  pub bucket : (1 ≤ x.bucket) × (x.bucket ≤ 128)
  pub slot : x.slot < l.slots
  pub pages : x.pages ≡ bucket_pages x.bucket
  pub low : 2 ≤ x.first
  pub there : x.first + x.pages ≤ 256 * l.segments

-- spans lie apart in order, and each place is a block of a subsegment
pub record IsFront (l : Limits) (a : Area) (ps : List Place) : Type 0 where
  pub order : AreInOrder 0 a.spans
  pub spans : (x : Span) → IsOneOf x a.spans → x.kind ≡ kinds.Lfh → IsFrontSpan l x
  pub places : AllByRecursion (λ p. IsInLfh a.spans p.start p.granules) ps
  pub layers : AllByRecursion (λ p. p.layer ≡ layers.Lfh) ps
  pub apart : HaveOwnStarts ps

own_starts : (At : ℕ → ℕ → Type 0) (ps : List Place) → ((p : Place) → IsOneOf p ps → 0 < p.granules) → AreDisjoint ps → HaveOwnStarts ps
own_starts At [] h d = tt
own_starts At (p ∷ ps) h d = (all_from (λ q. p.start ≡ q.start → ⊥) ps (λ q i e. clash q i e), own_starts At ps (λ q i. h q (inr i)) d.1)
  where
    clash : (q : Place) → IsOneOf q ps → p.start ≡ q.start → ⊥
    clash q i e =
        let a = all_at (AreApart p) q ps d.0 i in
        let x = h p (inl refl) in
        let y = h q (inr i) in
        ⊎_elim (λ (t : p.start + 16 * p.granules ≤ q.start). let z : ⊥ = omega arith in z) (λ (t : q.start + 16 * q.granules ≤ p.start). let z : ⊥ = omega arith in z) a

-- a span has a page
pub some_pages : (from : ℕ) (xs : List Span) (x : Span) → AreInOrder from xs → IsOneOf x xs → 0 < x.pages
some_pages from [] x a i = absurd i
some_pages from (y ∷ ys) x a (inl e) = subst (λ (z : Span). 0 < z.pages) e a.1
some_pages from (y ∷ ys) x a (inr i) = some_pages (y.first + y.pages) ys x a.2 i

-- what soundness says of the front end
pub front_of : (s : Setting) (m : Configuration) → Keeps s m → IsFront s.limits m.state.back.area m.state.lfh
front_of s m k = record {
  order = k.heap.spans.in_order;
  spans = λ x i is. of x i is;
  places = k.heap.lfh.places;
  layers = k.homes.lfh;
  apart = own_starts (IsInLfh m.state.back.area.spans) m.state.lfh (λ p i. some p (all_at (λ p. IsInLfh m.state.back.area.spans p.start p.granules) p m.state.lfh k.heap.lfh.places i)) k.heap.lfh.disjoint;
}
  where
    of : (x : Span) → IsOneOf x m.state.back.area.spans → x.kind ≡ kinds.Lfh → IsFrontSpan s.limits x
    of x i is =
        let h = subst (IsSoundSpan s m.state.vs.active x) is (all_at (λ (z : Span). IsSoundSpan s m.state.vs.active z z.kind) x m.state.back.area.spans k.of_kinds i) in
        let c = all_at (IsCommittedSpan m.state.back.area) x m.state.back.area.spans k.heap.spans.committed i in
        let some = some_pages 0 m.state.back.area.spans x k.heap.spans.in_order i in
        let first = and_parts (nat_lt (x.first / 256) m.state.back.area.reserved) _ (c x.first (omega arith) (omega arith)).0 in
        let last = and_parts (nat_lt ((x.first + x.pages - 1) / 256) m.state.back.area.reserved) _ (c (x.first + x.pages - 1) (omega arith) (omega arith)).0 in
        let low = Rattle.std.proofs.lemmas.Bool.leb-true 2 (x.first % 256) first.1 in
        let high = ltb-true ((x.first + x.pages - 1) / 256) m.state.back.area.reserved last.0 in
        let reserved = k.reserved in
        record { kind = is; bucket = h.bucket; slot = h.slot; pages = h.pages; low = omega arith; there = omega arith }

    some : (p : Place) → IsInLfh m.state.back.area.spans p.start p.granules → 0 < p.granules
    some p h =
        let b = (of h.span h.there h.kind).bucket in
        let t = (size_in_granules h.span.bucket (record { first = b.0; last = b.1 })).1 in
        let e = h.size in omega arith

---- In the rule

module _ {T : Type 0} (stands : T → LayerState) (o : Opening) (st : TableState (Option T) View) (r : IsRuled stands o st) (id n : ℕ) (v : View) (es : List Entry) (at : get_elem? st.views id ≡ some v) (h : IsReady n v es)
    (s : Setting) (q : IsSettingOf o r.lead.roll s) where
  -- the setting in which only these callers are made
  abbrev pub usual : Setting
  usual = setting_of o r.lead.roll

  -- what is behind the carried entries
  abbrev pub behind : Configuration
  behind = configuration_after s (configuration_of s r.log) es

  -- it is sound
  pub keeps_here : Keeps usual behind
  keeps_here =
      let q0 = some_setting o r.lead.roll in
      let b = before stands o st r id n v es at h usual q0 in
      let valid = valid_setting o r.lead.roll r.numbers.limits r.numbers.slots in
      let p = role_of stands o st r id n v at h.role in
      let names = named-append (length r.lead.roll) r.log es r.numbers.names (named_by (length r.lead.roll) n es p.0 (by stands o st r id n v es at h)) in
      let all = follow_join usual first_configuration r.log es (legal_parts usual r.log (r.shown usual q0).legal).0 b.carried.follows in
      let alike : (c : ℕ) → c < length r.lead.roll → AreAlike usual s c = λ c lt. record { seed = sym q.seed; slot = sym (q.slot c lt); stream = sym (q.stream c lt) } in
      subst (Keeps usual) (through_same usual s (length r.lead.roll) first_configuration (r.log ++ es) alike names ∙ after-append s first_configuration r.log es) (keeps_all usual (r.log ++ es) valid all)

  -- .. and so is the front end
  pub front_here : IsFront o.limits behind.state.back.area behind.state.lfh
  front_here = front_of usual behind keeps_here
