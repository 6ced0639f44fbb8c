-- Readings of caller 0, one after another, and what they leave as it was.
use Rattle.std.proofs.Common.{◌≡◌, ℕ, true, List, [], ◌∷◌, ◌++◌, Some, is_some, refl, sym, ap, subst, ◌∙◌}
use Rattle.std.proofs.lemmas.Bool.{and_from, and_parts, eq-eqb, ne_eqb}
use Rattle.std.specs.Prelude.{option_and_then}
use Rattle.heap_model.specs.declared.Act.{Act}
use Rattle.heap_model.specs.declared.Act.TheVariants as acts
use Rattle.heap_model.specs.Bits.{bits_of}
use Rattle.heap_model.specs.Buckets.{bucket_of}
use Rattle.heap_model.specs.State.{State, Setting, Span, is_entered}
use Rattle.heap_model.specs.CallState.{CallState, Configuration, Nothing, Search, caller_view}
use Rattle.heap_model.specs.Search.{request_of, request_for, sought, asked_bucket, span_at, may_see, after_saw, may_miss_hint, after_no_hint}
use Rattle.heap_model.specs.Legal.{may_follow, after, step_search}
use Rattle.heap_model.specs.Alone.{by_zero, configuration_by, may_all_come}
use Rattle.heap_soundness.proofs.MadeSpans.{search_is}
use Rattle.heap_soundness.proofs.Picks.{sought_asked}
use Rattle.search_laws.specs.Laws.{key_of, search_of, Searches, OnlySearch, LeadsTo}

---- What a reading leaves

pub only_refl : (m : Configuration) → OnlySearch m m
only_refl m = record { state = refl; calls = λ c ne. refl; call = refl; disturbed = refl; span_history = refl; demand = refl }

pub only_trans : (m n o : Configuration) → OnlySearch m n → OnlySearch n o → OnlySearch m o
only_trans m n o h k = record {
  state = k.state ∙ h.state;
  calls = λ c ne. k.calls c ne ∙ h.calls c ne;
  call = k.call ∙ ap (λ (q : CallState). record q { search = search_of o }) h.call;
  disturbed = k.disturbed ∙ h.disturbed;
  span_history = k.span_history ∙ h.span_history;
  demand = k.demand ∙ h.demand;
}

-- caller 0 is inside in a call that searches bucket b, and nothing has to follow
pub record Goes (s : Setting) (b : ℕ) (m : Configuration) : Type 0 where
  pub inside : is_entered m.state.gate 0 ≡ true
  pub begun : is_some (m.now.calls 0).call ≡ true
  pub bucket : (request_of s m 0).search ≡ Some b
  pub demand : m.now.demand ≡ Nothing

pub goes_from : (s : Setting) (b : ℕ) (m : Configuration) → Searches s m b → Goes s b m
goes_from s b m h = record { inside = h.inside; begun = h.begun; bucket = h.bucket; demand = h.demand }

pub still_goes : (s : Setting) (b : ℕ) (m n : Configuration) → Goes s b m → OnlySearch m n → Goes s b n
still_goes s b m n g o = record {
  inside = ap (λ (st : State). is_entered st.gate 0) o.state ∙ g.inside;
  begun = ap (λ (k : CallState). is_some k.call) o.call ∙ g.begun;
  bucket =
      ap (λ (k : CallState). (request_for n.state.vs.active (sought s n.state 0 k)).search) o.call
      ∙ ap (λ (st : State). (request_for st.vs.active (sought s st 0 (m.now.calls 0))).search) o.state ∙ g.bucket;
  demand = o.demand ∙ g.demand;
}

pub asks : (s : Setting) (b : ℕ) (m : Configuration) → Goes s b m → asked_bucket (m.now.calls 0) ≡ Some b
asks s b m g = sought_asked s m.state 0 (m.now.calls 0) b (search_is m.state.vs.active (option_and_then bucket_of (sought s m.state 0 (m.now.calls 0))) b g.bucket).0

---- An act of the search

-- an act of caller 0 that steps its search, and changes nothing else
module _ (s : Setting) (b : ℕ) (m : Configuration) (g : Goes s b m) where
  only_step : (n : Configuration) (f : Search) → n.state ≡ m.state → ((c : ℕ) → (c ≡ 0 → ⊥) → n.now.calls c ≡ m.now.calls c) →
      n.now.calls 0 ≡ record (m.now.calls 0) { search = f } → n.now.disturbed ≡ m.now.disturbed → n.now.span_history ≡ m.now.span_history → n.now.demand ≡ Nothing → OnlySearch m n
  only_step n f st cs e d h q = record {
    state = st;
    calls = cs;
    call = e ∙ ap (λ (f : Search). record (m.now.calls 0) { search = f }) (sym (ap (λ (k : CallState). k.search) e));
    disturbed = d;
    span_history = h;
    demand = q ∙ sym g.demand;
  }

  module _ (head word bits : ℕ) where
    abbrev saw : Act
    saw = acts.Saw head word bits

    abbrev seen : Configuration
    seen = after s m (by_zero saw)

    call_seen : seen.now.calls 0 ≡ record (m.now.calls 0) { search = after_saw (key_of s m b) (search_of m) head word bits }
    call_seen = ap (step_search s 0 (m.now.calls 0) (λ g f. after_saw g f head word bits)) (asks s b m g)

    pub search_seen : search_of seen ≡ after_saw (key_of s m b) (search_of m) head word bits
    search_seen = ap (λ (k : CallState). k.search) call_seen

    pub only_seen : OnlySearch m seen
    only_seen = only_step seen (after_saw (key_of s m b) (search_of m) head word bits) refl (λ c ne. let e = ne_eqb c 0 ne in rw e refl) call_seen refl refl refl

    pub may_be_seen : (x : Span) → span_at m.state.back.area head ≡ Some x → bits ≡ bits_of m.state.lfh x word →
        may_see m.state.back.area m.now.span_history (m.now.disturbed 0) (caller_view m 0) (key_of s m b) head word ≡ true → may_follow s m (by_zero saw) ≡ true
    may_be_seen x there is sees =
        let d = g.demand in
        let begun = g.begun in
        let inside = g.inside in
        let bucket = g.bucket in
        let same = eq-eqb bits (bits_of m.state.lfh x word) is in
        rw (d, begun, inside, bucket, sees, there, same) refl

  module _ (slot : ℕ) where
    abbrev missed : Configuration
    missed = after s m (by_zero (acts.NoHint b slot))

    call_missed : missed.now.calls 0 ≡ record (m.now.calls 0) { search = after_no_hint (search_of m) }
    call_missed = ap (step_search s 0 (m.now.calls 0) (λ g f. after_no_hint f)) (asks s b m g)

    pub search_missed : search_of missed ≡ after_no_hint (search_of m)
    search_missed = ap (λ (k : CallState). k.search) call_missed

    pub only_missed : OnlySearch m missed
    only_missed = only_step missed (after_no_hint (search_of m)) refl (λ c ne. let e = ne_eqb c 0 ne in rw e refl) call_missed refl refl refl

    pub may_be_missed : slot ≡ s.slot 0 → may_miss_hint m.state.back.area m.now.span_history 0 (search_of m) (key_of s m b) ≡ true → may_follow s m (by_zero (acts.NoHint b slot)) ≡ true
    may_be_missed at misses =
        let d = g.demand in
        let begun = g.begun in
        let inside = g.inside in
        let bucket = g.bucket in
        let same = eq-eqb b b refl in
        let same_slot = eq-eqb slot (s.slot 0) at in
        rw (d, begun, inside, bucket, same, same_slot, misses) refl

---- Acts one after another

pub come_append : (s : Setting) (m : Configuration) (xs ys : List Act) → may_all_come s m xs ≡ true → may_all_come s (configuration_by s m xs) ys ≡ true → may_all_come s m (xs ++ ys) ≡ true
come_append s m [] ys h k = k
come_append s m (x ∷ xs) ys h k =
    let p = and_parts (may_follow s m (by_zero x)) (may_all_come s (after s m (by_zero x)) xs) h in
    and_from (may_follow s m (by_zero x)) (may_all_come s (after s m (by_zero x)) (xs ++ ys)) p.0 (come_append s (after s m (by_zero x)) xs ys p.1 k)

pub by_append : (s : Setting) (m : Configuration) (xs ys : List Act) → configuration_by s m (xs ++ ys) ≡ configuration_by s (configuration_by s m xs) ys
by_append s m [] ys = refl
by_append s m (x ∷ xs) ys = by_append s (after s m (by_zero x)) xs ys

pub leads_here : (s : Setting) (m : Configuration) (P : Configuration → Type 0) → P m → LeadsTo s m [] P
leads_here s m P h = record { legal = refl; only = only_refl m; holds = h }

pub leads_first : (s : Setting) (m : Configuration) (act : Act) (rest : List Act) (P : Configuration → Type 0) → may_follow s m (by_zero act) ≡ true → OnlySearch m (after s m (by_zero act)) →
    LeadsTo s (after s m (by_zero act)) rest P → LeadsTo s m (act ∷ rest) P
leads_first s m act rest P h o r = record {
  legal = and_from (may_follow s m (by_zero act)) (may_all_come s (after s m (by_zero act)) rest) h r.legal;
  only = only_trans m (after s m (by_zero act)) (configuration_by s (after s m (by_zero act)) rest) o r.only;
  holds = r.holds;
}

pub leads_on : (s : Setting) (m : Configuration) (xs ys : List Act) (Q P : Configuration → Type 0) → (h : LeadsTo s m xs Q) → LeadsTo s (configuration_by s m xs) ys P → LeadsTo s m (xs ++ ys) P
leads_on s m xs ys Q P h k =
    let e = sym (by_append s m xs ys) in
    record {
      legal = come_append s m xs ys h.legal k.legal;
      only = subst (OnlySearch m) e (only_trans m (configuration_by s m xs) (configuration_by s (configuration_by s m xs) ys) h.only k.only);
      holds = subst P e k.holds;
    }

pub leads_so : (s : Setting) (m : Configuration) (xs : List Act) (Q P : Configuration → Type 0) → ((n : Configuration) → Q n → P n) → LeadsTo s m xs Q → LeadsTo s m xs P
leads_so s m xs Q P f h = record { legal = h.legal; only = h.only; holds = f (configuration_by s m xs) h.holds }
