-- The law of a subsegment that is made with the claim of its first block.
use Rattle.std.proofs.Common.{◌≡◌, ℕ, ◌+◌, ◌*◌, ◌/◌, ◌<◌, Bool, true, false, ◌&&◌, ◌||◌, ◌==◌, List, [], ◌∷◌, ◌++◌, length, get_or, set, bit_or, Option, Some, None, refl, sym, ap, ◌∙◌, subst, arith, inl, inr, eq-eqb}
use Rattle.std.specs.Prelude.{is_some, nat_lt, nat_le}
use Rattle.std.proofs.lemmas.Bool.{and_from, false≢true, lt-ltb, le-leb}
use mathlib.Core.Option.{none, some}
use lib.ListN.{get_elem?}
use Rattle.atomic_table.specs.Table.{State, Me, Act, step, keeps, stepped, carried_after, Valid}
use Rattle.heap_model.specs.declared.Act.TheVariants as acts
use Rattle.heap_model.specs.declared.Entry.{Entry}
use Rattle.heap_model.specs.declared.Kind.TheVariants as kinds
use Rattle.heap_model.specs.declared.Layer.TheVariants as layers
use Rattle.heap_model.specs.declared.Limits.{Limits}
use Rattle.heap_model.specs.declared.What.TheVariants as whats
use Rattle.heap_model.specs.Bits.{starts_at}
use Rattle.heap_model.specs.Buckets.{block_size, block_address, block_count}
use Rattle.heap_model.specs.Ranges.{is_of_kind}
use Rattle.heap_model.specs.State.{Setting, Span, Place, GateAndLocks, BackPart, holds}
use Rattle.heap_model.specs.CallState.{Configuration, SpanHistory}
use Rattle.heap_model.specs.Legal.{may_follow, after, meets_demand}
use Rattle.heap_model.specs.History.{configuration_after, configuration_of, first_configuration, may_all_follow}
use Rattle.heap_model.specs.Agreement.{AgreesFor}
use Rattle.heap_model.proofs.Agreement.{agrees_prepared}
use Rattle.heap_model.proofs.ListLemmas.{filter-insert_span}
use Rattle.heap_soundness.specs.Sound.{IsOneOf, AreInOrder}
use Rattle.heap_soundness.specs.Invariant.{Keeps}
use Rattle.heap_soundness.proofs.Kept.{keeps_through}
use Rattle.search_laws.proofs.Blocks.{whole_granules}
use Rattle.lfh_buckets.proofs.Seats.{block_end}
use Rattle.heap_model.specs.declared.Opening.{Opening}
use Rattle.claim_rule.specs.declared.views.Owed.{Owed}
use Rattle.claim_rule.specs.declared.views.View.{View}
use Rattle.claim_rule.specs.Shown.{AreAllShown, owed_or, hint_word, back_holder, holder_from}
use Rattle.heap_model.specs.Layers.{LayerState}
use Rattle.claim_rule.specs.Home.{AreHome, HasSlot}
use Rattle.claim_rule.specs.Entries.{IsSettingOf, setting_of, entry, is_by, is_named}
use Rattle.claim_rule.specs.Rule.{IsRuled, IsReady, ready_after}
use Rattle.claim_rule.specs.Plays.{number_of, Goes}
use Rattle.claim_rule.proofs.Holders.{back_holder_is, holder-append}
use Rattle.claim_rule.proofs.Lists.{after-append, follow_join, named_by, named-append, by-append}
use Rattle.claim_rule.proofs.Slots.{SameHomes, homes_kept, SameGuarded, homes_but}
use Rattle.claim_rule.proofs.Words.{all_same}
use Rattle.claim_rule.proofs.Quiet.{SameShown, same_shown}
use Rattle.claim_rule.proofs.Advance.{before, by, leaves, setting_in, role_of, some_setting, holder_behind, setting_back, seen_behind}
use Rattle.step_parts.specs.InHand.{HasBlock}
use Rattle.step_parts.proofs.BlocksInHand.{placed_held}
use Rattle.claim_rule.proofs.Gate.{one_by}
use Rattle.claim_rule.specs.Places.{bitmap_at, bit_of_block}
use Rattle.step_parts.specs.Seen.{IsSeen}
use Rattle.step_parts.specs.Claims.{CanClaim, IsUnder}
use Rattle.span_steps.specs.Installs.{owed_by_span, owed_by_install, making, IsReserving, MayInstall, installed}
use Rattle.span_steps.specs.Laws.{InstallLaw}
use Rattle.claim_rule.proofs.Behind.{owed_soundly}
use Rattle.step_parts.proofs.FrontEnd.{AreAlike, IsFront, IsFrontSpan, front_of, front_here, keeps_here, valid_setting, through_same, some_pages}
use Rattle.step_parts.proofs.BlockWords.{into_lfh}
use Rattle.step_parts.proofs.Placed.{claim_same, placed, IsPlaced}
use Rattle.span_steps.proofs.NewSubsegment.{made_shown, no_block, in_inserted}
use Rattle.heap_model.specs.declared.What.{What}
use Rattle.claim_rule.proofs.Ready.{holder_is_it}

---- A segment is reserved first, or not

-- behind the Reserve all but the number of segments is the same
pub record IsSame (m' m : Configuration) : Type 0 where
  pub shown : SameShown m' m
  pub gate : m'.state.gate ≡ m.state.gate
  pub spans : m'.state.back.area.spans ≡ m.state.back.area.spans
  pub lfh : m'.state.lfh ≡ m.state.lfh
  pub vs : m'.state.vs ≡ m.state.vs
  pub large : m'.state.large ≡ m.state.large
  pub history : m'.now.span_history ≡ m.now.span_history

reserved : (s : Setting) (m : Configuration) (n : ℕ) (reserve : List Entry) → IsReserving n reserve → IsSame (configuration_after s m reserve) m
reserved s m n reserve (inl e) = subst (λ (rs : List Entry). IsSame (configuration_after s m rs) m) (sym e) (record { shown = same_shown m; gate = refl; spans = refl; lfh = refl; vs = refl; large = refl; history = refl })
reserved s m n reserve (inr w) = subst (λ (rs : List Entry). IsSame (configuration_after s m rs) m) (sym w.1)
    (record { shown = record { lfh = refl; words = refl; active = refl; spans = refl; hints = λ h b t. refl; makers = λ x k. refl }; gate = refl; spans = refl; lfh = refl; vs = refl; large = refl; history = refl })

reserve_by : (n : ℕ) (reserve : List Entry) → IsReserving n reserve → is_by n reserve ≡ true
reserve_by n reserve (inl e) = ap (is_by n) e
reserve_by n reserve (inr w) = ap (is_by n) w.1 ∙ one_by n (acts.Reserve w.0)

reserve_holder : (n : ℕ) (reserve : List Entry) → IsReserving n reserve → (h : Option ℕ) → holder_from h reserve ≡ h
reserve_holder n reserve (inl e) h = ap (holder_from h) e
reserve_holder n reserve (inr w) h = ap (holder_from h) w.1

---- One configuration

module _ (l : Limits) (count : ℕ) (s us : Setting) (m : Configuration) (n : ℕ) (reserve : List Entry) (rs : IsReserving n reserve) (first pages b t i hint : ℕ) (few : t < 16) (owes : List Owed) (words : List ℕ)
    (shown : AreAllShown l count m owes words) (held : m.state.gate.locks.back ≡ Some n) (mine : holds m.state.gate n whats.Back ≡ true) (hint_is : owed_or owes (118 + 16 * b + t) (hint_word m.state.back.area m.now.span_history b t) ≡ hint)
    (front : IsFront l m.state.back.area m.state.lfh) (keep : Keeps us (configuration_after s m (making n reserve first pages b t))) (limits : us.limits ≡ l)
    (can : (IsSeen (configuration_after s m (making n reserve first pages b t)) first b t) → CanClaim s (configuration_after s m (making n reserve first pages b t)) n first b t i) where
  abbrev m0 : Configuration
  m0 = configuration_after s m reserve

  abbrev x : Span
  x = record { first = first; pages = pages; kind = kinds.Lfh; bucket = b; slot = t }

  abbrev m1 : Configuration
  m1 = after s m0 (entry n (acts.Span first pages kinds.Lfh b t))

  m1_is : configuration_after s m (making n reserve first pages b t) ≡ m1
  m1_is = after-append s m reserve (entry n (acts.Span first pages kinds.Lfh b t) ∷ [])

  same : IsSame m0 m
  same = reserved s m n reserve rs

  keep1 : Keeps us m1
  keep1 = subst (Keeps us) m1_is keep

  front1 : IsFront l m1.state.back.area m1.state.lfh
  front1 = subst (λ (z : Limits). IsFront z m1.state.back.area m1.state.lfh) limits (front_of us m1 keep1)

  there : IsOneOf x m1.state.back.area.spans
  there = in_inserted x m0.state.back.area.spans

  sp : IsFrontSpan l x
  sp = front1.spans x there refl

  front0 : IsFront l m0.state.back.area m0.state.lfh
  front0 = record {
    order = subst (AreInOrder 0) (sym same.spans) front.order;
    spans = λ y j k. front.spans y (subst (IsOneOf y) same.spans j) k;
    places = subst (λ (z : List Span × List Place). Rattle.std.specs.List.AllByRecursion (λ p. Rattle.heap_soundness.specs.Sound.IsInLfh z.0 p.start p.granules) z.1) (λ j. (sym same.spans j, sym same.lfh j)) front.places;
    layers = subst (λ (z : List Place). Rattle.std.specs.List.AllByRecursion (λ p. p.layer ≡ layers.Lfh) z) (sym same.lfh) front.layers;
    apart = subst Rattle.step_parts.specs.Starts.HaveOwnStarts (sym same.lfh) front.apart;
  }

  shown0 : AreAllShown l count m0 owes words
  shown0 = all_same l count m0 m owes words same.shown same.gate shown

  held0 : m0.state.gate.locks.back ≡ Some n
  held0 = ap (λ (f : GateAndLocks). f.locks.back) same.gate ∙ held

  paged : 0 < pages
  paged = some_pages 0 m1.state.back.area.spans x keep1.heap.spans.in_order there

  hint0 : owed_or owes (118 + 16 * b + t) (hint_word m0.state.back.area m0.now.span_history b t) ≡ hint
  hint0 = ap (λ (z : List Span × SpanHistory). owed_or owes (118 + 16 * b + t) (hint_word (record { reserved = 0; committed = λ u. false; spans = z.0 }) z.1 b t)) (λ j. (same.spans j, same.history j)) ∙ hint_is

  shown1 : AreAllShown l count m1 (owed_by_span b t hint first pages owes) words
  shown1 = subst (λ (y : ℕ). AreAllShown l count m1 (owed_by_span b t y first pages owes) words) hint0
      (made_shown l s m0 n first pages b t front0 paged keep1.heap.spans.in_order sp held0 few (sp.bucket.1) owes (owed_soundly l count m0 owes words shown0) count words shown0)

  seen1 : IsSeen m1 first b t
  seen1 = record { span = x; there = into_lfh m1.state.back.area.spans x there refl; begins = refl; bucket = refl; slot = refl }

  can1 : CanClaim s m1 n first b t i
  can1 = subst (λ (z : Configuration). IsSeen z first b t → CanClaim s z n first b t i) m1_is can seen1

  clear1 : starts_at m1.state.lfh (block_address b first i) ≡ false
  clear1 = by (starts_at m0.state.lfh (block_address b first i)) (nat_lt i (block_count b)) (lt-ltb i (block_count b) can1.below)
      (no_block l s m0 n first pages b t front0 paged keep1.heap.spans.in_order sp held0 few (sp.bucket.1) owes (owed_soundly l count m0 owes words shown0) i)
    where
      by : (u v : Bool) → v ≡ true → (v && u) ≡ false → u ≡ false
      by u true e h = h
      by u false e h = absurd (false≢true e)

  under1 : IsUnder m1 n b t true hint (owed_by_span b t hint first pages owes)
  under1 = record { holds_it = ap (λ (f : GateAndLocks). holds f n whats.Back) same.gate ∙ mine; hint_is = λ e. let z = eq-eqb (118 + 16 * b + t) (118 + 16 * b + t) refl in rw z refl }

  -- the block is placed, and the words show it
  pub put : IsPlaced l count s m1 n i true (owed_by_span b t hint first pages owes) words hint first b t
  put = placed l count s m1 n i true (owed_by_span b t hint first pages owes) words front1 shown1 first b t can1 hint few under1 clear1

  abbrev placing : Entry
  placing = entry n (acts.Place (block_address b first i) (block_size b / 16) layers.Lfh)

  -- the Place may come
  pub place_follows : may_all_follow s m1 (placing ∷ []) ≡ true
  place_follows =
      let z = block_end b first i can1.below in
      let g = whole_granules b in
      let pages_are = sp.pages in
      let lies : (nat_le (4096 * first) (block_address b first i) && nat_le (block_address b first i + 16 * (block_size b / 16)) (4096 * (first + pages))) ≡ true =
      and_from _ _ (le-leb (4096 * first) (block_address b first i) (omega arith)) (le-leb (block_address b first i + 16 * (block_size b / 16)) (4096 * (first + pages)) (omega arith)) in
      and_from (may_follow s m1 placing) true
      (and_from (meets_demand m1.state.back.area placing m1.now.demand && (false || is_some (m1.now.calls n).call)) _
      (and_from (meets_demand m1.state.back.area placing m1.now.demand) (false || is_some (m1.now.calls n).call)
      (and_from (n == n) _ (eq-eqb n n refl) (and_from (true && (nat_le (4096 * first) (block_address b first i) && nat_le (block_address b first i + 16 * (block_size b / 16)) (4096 * (first + pages)))) _ lies refl)) can1.begun) put.ok) refl

  -- the block is in hand
  pub block_held : HasBlock (after s m1 placing) n b (block_address b first i)
  block_held = placed_held s m1 n b (block_address b first i) can1.begun

  -- what the other locks guard stays
  pub homes_same : SameHomes (after s m1 placing).state m.state
  homes_same = homes_but (after s m1 placing).state m.state whats.Back (ap (λ (f : GateAndLocks). f.locks) same.gate) (λ e. let z : None ≡ Some n = sym e ∙ held in let w : ⊥ = cc (z) in w) kept
    where
      kept : (what : What) → HasSlot what → (what ≡ whats.Back → ⊥) → SameGuarded what (after s m1 placing).state m.state
      kept whats.Vs has ne = (same.vs, filter-insert_span (is_of_kind kinds.Vs) x m0.state.back.area.spans refl ∙ ap (Rattle.std.specs.Prelude.filter (is_of_kind kinds.Vs)) same.spans)
      kept whats.Back has ne = absurd (ne refl)
      kept whats.Large has ne = same.large
      kept whats.Gate has ne = absurd has
      kept whats.Lfh has ne = absurd has

  -- both together
  pub all_is : configuration_after s m (making n reserve first pages b t ++ placing ∷ []) ≡ after s m1 placing
  all_is = after-append s m (making n reserve first pages b t) (placing ∷ []) ∙ ap (λ (z : Configuration). after s z placing) m1_is

---- The law

module _ {T : Type 0} (stands : T → LayerState) (o : Opening) (slots id n : ℕ) (reserve : List Entry) (first pages b t i hint : ℕ) (me : Me (Option T) View) (es : List Entry) (h : IsReady n me.0 es) (rs : IsReserving n reserve) (few : t < 16)
    (ok : (s : Setting) → IsSettingOf me.0.opening me.0.roll s → MayInstall s (ready_after s me.0 es) n reserve first pages b t i hint me.0.owes)
    (st : State (Option T) View) (r : IsRuled stands o st) (at : get_elem? st.views id ≡ some me.0) where
  abbrev now_at : Setting → Configuration
  now_at s = configuration_after s (configuration_of s r.log) es

  abbrev ours : List Entry
  ours = making n reserve first pages b t

  abbrev place_it : Entry
  place_it = entry n (acts.Place (block_address b first i) (block_size b / 16) layers.Lfh)

  abbrev deeds : List Entry
  deeds = making n reserve first pages b t ++ entry n (acts.Place (block_address b first i) (block_size b / 16) layers.Lfh) ∷ []

  abbrev word : ℕ
  word = bitmap_at o.limits first i

  ready_at : (s : Setting) (q : IsSettingOf o r.lead.roll s) → MayInstall s (ready_after s me.0 es) n reserve first pages b t i hint me.0.owes
  ready_at s q = ok s (setting_in stands o st r id n me.0 es at h s q)

  -- the entries may come behind the carried ones
  comes : (s : Setting) (q : IsSettingOf o r.lead.roll s) → (may_all_follow s (now_at s) (making n reserve first pages b t) ≡ true)
      × AgreesFor n (configuration_after s (now_at s) (making n reserve first pages b t)) (configuration_after s (ready_after s me.0 es) (making n reserve first pages b t))
  comes s q =
      let d = before stands o st r id n me.0 es at h s q in
      let k = ready_at s q in
      let p = agrees_prepared s n (now_at s) (ready_after s me.0 es) (making n reserve first pages b t) d.carried.agrees (d.whole ∙ sym (h.whole s (setting_in stands o st r id n me.0 es at h s q))) k.stable k.follows in
      (p.0, p.1)

  by_us : is_by n (making n reserve first pages b t) ≡ true
  by_us = by-append n reserve (entry n (acts.Span first pages kinds.Lfh b t) ∷ []) (reserve_by n reserve rs) (one_by n (acts.Span first pages kinds.Lfh b t))

  named : is_named (length r.lead.roll) (making n reserve first pages b t) ≡ true
  named = named_by (length r.lead.roll) n (making n reserve first pages b t) (role_of stands o st r id n me.0 at h.role).0 by_us

  alike : (s : Setting) → IsSettingOf o r.lead.roll s → (c : ℕ) → c < length r.lead.roll → AreAlike (setting_of o r.lead.roll) s c
  alike s q c lt = record { seed = sym q.seed; slot = sym (q.slot c lt); stream = sym (q.stream c lt) }

  -- the configuration behind the Span is sound
  keep_made : (s : Setting) (q : IsSettingOf o r.lead.roll s) → Keeps (setting_of o r.lead.roll) (configuration_after s (now_at s) (making n reserve first pages b t))
  keep_made s q =
      let us = setting_of o r.lead.roll in
      let q0 = some_setting o r.lead.roll in
      let p = role_of stands o st r id n me.0 at h.role in
      let names = named_all in
      let here : now_at us ≡ now_at s = sym (after-append us first_configuration r.log es) ∙ (through_same us s (length r.lead.roll) first_configuration (r.log ++ es) (alike s q) names ∙ after-append s first_configuration r.log es) in
      let follow : may_all_follow us (now_at s) (making n reserve first pages b t) ≡ true = subst (λ (m : Configuration). may_all_follow us m (making n reserve first pages b t) ≡ true) here (comes us q0).0 in
      subst (Keeps us) (through_same us s (length r.lead.roll) (now_at s) (making n reserve first pages b t) (alike s q) named)
      (keeps_through us (now_at s) (making n reserve first pages b t) (valid_setting o r.lead.roll r.numbers.limits r.numbers.slots) follow (keeps_here stands o st r id n me.0 es at h s q))
    where
      named_all : is_named (length r.lead.roll) (r.log ++ es) ≡ true
      named_all = named-append (length r.lead.roll) r.log es r.numbers.names (named_by (length r.lead.roll) n es (role_of stands o st r id n me.0 at h.role).0 (by stands o st r id n me.0 es at h))

  mine : (s : Setting) (q : IsSettingOf o r.lead.roll s) → holds (now_at s).state.gate n whats.Back ≡ true
  mine s q = (before stands o st r id n me.0 es at h s q).carried.agrees.locks whats.Back ∙ (ready_at s q).holds_it

  held : (s : Setting) (q : IsSettingOf o r.lead.roll s) → (now_at s).state.gate.locks.back ≡ Some n
  held s q = holder_is_it n (now_at s).state.gate.locks.back (mine s q)

  log_held : back_holder r.log ≡ Some n
  log_held =
      let s0 = setting_of o r.lead.roll in
      let q0 = some_setting o r.lead.roll in
      back_holder_is s0 r.log ∙ (sym (ap (λ (z : GateAndLocks). z.locks.back) (before stands o st r id n me.0 es at h s0 q0).carried.gate) ∙ held s0 q0)

  owed_same : me.0.owes ≡ r.owes
  owed_same = (role_of stands o st r id n me.0 at h.role).5 log_held

  hint_here : (s : Setting) (q : IsSettingOf o r.lead.roll s) → owed_or r.owes (118 + 16 * b + t) (hint_word (now_at s).state.back.area (now_at s).now.span_history b t) ≡ hint
  hint_here s q =
      let a = (before stands o st r id n me.0 es at h s q).carried.agrees in
      let k = ready_at s q in
      ap (λ (z : List Owed × (BackPart × SpanHistory)). owed_or z.0 (118 + 16 * b + t) (hint_word z.1.0.area z.1.1 b t)) (λ j. (sym owed_same j, (a.back k.holds_it j, a.span_history k.holds_it j))) ∙ k.hint_is

  can_at : (s : Setting) (q : IsSettingOf o r.lead.roll s) → IsSeen (configuration_after s (now_at s) (making n reserve first pages b t)) first b t → CanClaim s (configuration_after s (now_at s) (making n reserve first pages b t)) n first b t i
  can_at s q seen = claim_same s n first b t i (configuration_after s (now_at s) (making n reserve first pages b t)) (configuration_after s (ready_after s me.0 es) (making n reserve first pages b t)) (comes s q).1 (λ z. seen) (ready_at s q).claim

  behind_holder : (x : Option ℕ) → holder_from x (making n reserve first pages b t ++ entry n (acts.Place (block_address b first i) (block_size b / 16) layers.Lfh) ∷ []) ≡ x
  behind_holder x =
      holder-append x (making n reserve first pages b t) (entry n (acts.Place (block_address b first i) (block_size b / 16) layers.Lfh) ∷ [])
      ∙ (holder-append x reserve (entry n (acts.Span first pages kinds.Lfh b t) ∷ []) ∙ reserve_holder n reserve rs x)

  -- behind it the block is in hand
  block_behind : (s : Setting) (q : IsSettingOf o r.lead.roll s) → HasBlock (configuration_after s (now_at s) (making n reserve first pages b t ++ entry n (acts.Place (block_address b first i) (block_size b / 16) layers.Lfh) ∷ [])) n b (block_address b first i)
  block_behind s q =
      let d = before stands o st r id n me.0 es at h s q in
      let us = setting_of o r.lead.roll in
      let f = front_here stands o st r id n me.0 es at h s q in
      let is = all_is o.limits r.lead.counted s us (now_at s) n reserve rs first pages b t i hint few r.owes st.words d.words (held s q) (mine s q) (hint_here s q) f (keep_made s q) refl (can_at s q) in
      let hand = block_held o.limits r.lead.counted s us (now_at s) n reserve rs first pages b t i hint few r.owes st.words d.words (held s q) (mine s q) (hint_here s q) f (keep_made s q) refl (can_at s q) in
      subst (λ (m : Configuration). HasBlock m n b (block_address b first i)) (sym is) hand

  -- the subsegment is made
  pub installs : (w : View) × (a : Act (Option T)) × Valid st.homes me.1 a × IsRuled stands o (stepped st word (bit_or (get_or st.words word 0) (bit_of_block i)) id me.1 w a)
      × installed es reserve first pages b t i hint (step slots word (bit_of_block i) 0 none) me (get_or st.words word 0) (w, carried_after me.1 a)
  installs =
      let a = leaves stands o st r id n me.0 es at h me.1 word (bit_or (get_or st.words word 0) (bit_of_block i)) keeps (making n reserve first pages b t ++ entry n (acts.Place (block_address b first i) (block_size b / 16) layers.Lfh) ∷ [])
      (owed_by_install b t hint first pages r.owes) (owed_by_install b t hint first pages me.0.owes)
      (by-append n (making n reserve first pages b t) (entry n (acts.Place (block_address b first i) (block_size b / 16) layers.Lfh) ∷ []) by_us (one_by n (acts.Place (block_address b first i) (block_size b / 16) layers.Lfh)))
      (record { same = inr (holder_behind stands o st r id n me.0 es at h (making n reserve first pages b t ++ entry n (acts.Place (block_address b first i) (block_size b / 16) layers.Lfh) ∷ []) ∙ (behind_holder (back_holder r.log) ∙ log_held)); known = λ e. ap (owed_by_install b t hint first pages) owed_same })
      (λ s q.
      let d = before stands o st r id n me.0 es at h s q in
      let us = setting_of o r.lead.roll in
      let f = front_here stands o st r id n me.0 es at h s q in
      let g = put o.limits r.lead.counted s us (now_at s) n reserve rs first pages b t i hint few r.owes st.words d.words (held s q) (mine s q) (hint_here s q) f (keep_made s q) refl (can_at s q) in
      let fol = place_follows o.limits r.lead.counted s us (now_at s) n reserve rs first pages b t i hint few r.owes st.words d.words (held s q) (mine s q) (hint_here s q) f (keep_made s q) refl (can_at s q) in
      let is = all_is o.limits r.lead.counted s us (now_at s) n reserve rs first pages b t i hint few r.owes st.words d.words (held s q) (mine s q) (hint_here s q) f (keep_made s q) refl (can_at s q) in
      let hs = homes_same o.limits r.lead.counted s us (now_at s) n reserve rs first pages b t i hint few r.owes st.words d.words (held s q) (mine s q) (hint_here s q) f (keep_made s q) refl (can_at s q) in
      let at1 : configuration_after s (now_at s) (making n reserve first pages b t) ≡ after s (configuration_after s (now_at s) reserve) (entry n (acts.Span first pages kinds.Lfh b t)) = after-append s (now_at s) reserve (entry n (acts.Span first pages kinds.Lfh b t) ∷ []) in (
        follow_join s (now_at s) (making n reserve first pages b t) (entry n (acts.Place (block_address b first i) (block_size b / 16) layers.Lfh) ∷ []) (comes s q).0
            (subst (λ (m : Configuration). may_all_follow s m (entry n (acts.Place (block_address b first i) (block_size b / 16) layers.Lfh) ∷ []) ≡ true) (sym at1) fol),
        ap (λ (m : Configuration). m.now.demand) is,
        subst (λ (m : Configuration). AreAllShown o.limits r.lead.counted m (owed_by_install b t hint first pages r.owes) (set st.words word (bit_or (get_or st.words word 0) (bit_of_block i)))) (sym is) g.shown,
        subst (λ (m : Configuration). AreHome stands o m.state st.homes) (sym is) (homes_kept stands o _ (now_at s).state st.homes hs d.home),
      )) in (
        a.0,
        keeps,
        tt,
        a.1,
        record {
          goes = subst (λ (k : ℕ). Goes k me.0 a.0 es (making k reserve first pages b t ++ entry k (acts.Place (block_address b first i) (block_size b / 16) layers.Lfh) ∷ [])) (sym (ap number_of h.role)) a.2;
          slot = refl;
          owes = a.3;
          tells = λ s q. subst (λ (k : ℕ). HasBlock (configuration_of s a.0.seen) k b (block_address b first i)) (sym (ap number_of h.role))
              (subst (λ (m : Configuration). HasBlock m n b (block_address b first i)) (sym (seen_behind stands o st r id n me.0 es at h a.0 s (making n reserve first pages b t ++ entry n (acts.Place (block_address b first i) (block_size b / 16) layers.Lfh) ∷ []) a.4)) (block_behind s (setting_back stands o st r id n me.0 es at h a.0 s a.2.opening a.5 q)));
        },
      )

pub install_law : {T : Type 0} (stands : T → LayerState) → InstallLaw stands
install_law stands o slots id n reserve first pages b t i hint me es h rs few ok st r deep at small = installs stands o slots id n reserve first pages b t i hint me es h rs few ok st r at
