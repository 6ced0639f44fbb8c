-- Subsegments that the owner of the heap lock looks at, and those without a block that it gives back.
use Rattle.std.proofs.Common.{◌≡◌, ◌≢◌, ℕ, ◌+◌, ◌*◌, ◌<◌, Bool, true, false, not, ◌&&◌, List, [], ◌∷◌, Option, Some, None, refl, sym, ap, ◌∙◌, subst, arith, inl, inr}
use Rattle.std.specs.Prelude.{IfSome, IsSome, filter}
use Rattle.std.specs.List.{find, list_all}
use Rattle.std.proofs.lemmas.Bool.{cases_Bool, cases_lt, and_from, eq-eqb, eqb-true, eqb-false, false≢true}
use Rattle.heap_model.specs.declared.Act.{Act}
use Rattle.heap_model.specs.declared.Act.TheVariants as acts
use Rattle.heap_model.specs.declared.Call.{Call}
use Rattle.heap_model.specs.declared.Call.TheVariants as calls
use Rattle.heap_model.specs.declared.Kind.{Kind}
use Rattle.heap_model.specs.declared.Kind.TheVariants as kinds
use Rattle.heap_model.specs.declared.Limits.{Limits}
use Rattle.heap_model.specs.declared.Opening.{Opening}
use Rattle.heap_model.specs.declared.Run.{Run}
use Rattle.heap_model.specs.declared.What.TheVariants as whats
use Rattle.heap_model.specs.State.{Setting, Area, BackPart, Span, Place, is_kind, remove_found}
use Rattle.heap_model.specs.Bits.{bits_of}
use Rattle.heap_model.specs.CallState.{Configuration, caller_view}
use Rattle.heap_model.specs.Stay.{for_some}
use Rattle.heap_model.specs.Search.{span_at, begins_at}
use Rattle.heap_model.specs.Ranges.{is_of_kind}
use Rattle.heap_model.specs.Legal.{may, may_unspan_of, is_unused, is_compact, has_place, after}
use Rattle.heap_model.specs.Layers.{sorted_back}
use Rattle.heap_model.specs.Agreement.{SameHeap}
use Rattle.heap_model.proofs.Others.{same_heap, same_heap_trans}
use Rattle.heap_soundness.specs.Sound.{IsOneOf, AreInOrder}
use Rattle.heap_soundness.proofs.Enums.{kind_is}
use Rattle.heap_soundness.proofs.Lists.{found_in, found_passes, find_some}
use Rattle.heap_soundness.proofs.Spans.{above, same_first, removed_from}
use Rattle.page_ranges.specs.Words.{runs_of}
use Rattle.page_ranges.specs.Ranges.{has_page}
use Rattle.page_ranges.specs.Spans.{is_of_span}
use Rattle.backend_fit.specs.Kept.{Kept, area_of}
use Rattle.backend_fit.specs.Sound.{IsSound}
use Rattle.backend_fit.proofs.Freed.{span_here}
use Rattle.backend_fit.proofs.Shown.{span_starts}
use Rattle.backend_fit.proofs.Sides.{run_is}
use Rattle.claim_rule.specs.Entries.{IsSettingOf, entry, setting_of}
use Rattle.claim_rule.specs.Places.{back_slot}
use Rattle.claim_rule.specs.Shown.{lfh_spans}
use Rattle.claim_rule.proofs.Advance.{some_setting}
use Rattle.step_parts.proofs.BlockWords.{in_lfh, into_lfh}
use Rattle.lfh_spans.specs.Subsegments.{IsBackOf}
use Rattle.lfh_spans.proofs.Joined.{setting_of_old}
use Rattle.lfh_spans.proofs.Tagged.{spans_in_order, span_within}
use Rattle.heap_gate.specs.Token.{Token, Always, IsStanding, now, is_out}
use Rattle.heap_gate.specs.Calls.{Runs, Stands, stance}
use Rattle.call_parts.specs.Calls.{GoesOn}
use Rattle.call_parts.proofs.Joining.{setting_before}
use Rattle.compact_calls.specs.Owner.{IsOwning}
use Rattle.compact_calls.specs.Sound.{IsSoundFor}
use Rattle.compact_calls.specs.Empties.{Looked, OfThere, ShowsBits, HasBlocks, AreUsedBelow}
use Rattle.compact_calls.proofs.Bits.{bit_has, no_bit}
use Rattle.compact_calls.proofs.Decommitting.{owns_now, still}
use Rattle.compact_calls.proofs.Doing.{did_none, did_runs, did_then}

---- Whether a subsegment begins at a page

module _ (k : Kept) (page : ℕ) (r : Run) (sound : IsSound k) (f : find (has_page page) (runs_of k.words) ≡ Some r) where
  abbrev of_front : Span → Bool
  of_front x = is_kind x.kind kinds.Lfh

  pub begins_here : r.first ≡ page → is_kind r.mark.kind kinds.Lfh ≡ for_some (span_at (area_of k) page) of_front
  begins_here at = by (span_at (area_of k) page) refl
    where
      by : (o : Option Span) → span_at (area_of k) page ≡ o → is_kind r.mark.kind kinds.Lfh ≡ for_some (span_at (area_of k) page) of_front
      by (Some x) e =
          let h = span_here k.words 0 (runs_of k.words) page x sound.whole e in
          let is = run_is k.words page r sound.whole h.inside f in
          let kd : r.mark.kind ≡ x.kind = ap (λ (q : Run). q.mark.kind) is ∙ ap (λ (y : Span). y.kind) h.same in
          ap (λ (z : Kind). is_kind z kinds.Lfh) kd ∙ ap (λ (o : Option Span). for_some o of_front) (sym e)
      by None e = elim (cases_Bool (is_kind r.mark.kind kinds.Lfh)) [
        | inr n ↦ n ∙ ap (λ (o : Option Span). for_some o of_front) (sym e)
        | inl y ↦
            let kd = kind_is r.mark.kind kinds.Lfh y in
            let sp : is_of_span r.mark.kind ≡ true = ap is_of_span kd in
            let z : IsSome {T = Span} None = subst (λ (o : Option Span). IsSome {T = Span} o) e (span_starts page (runs_of k.words) r f at sp) in
            absurd (let no : ⊥ = cc (z) in no)
      ]

  pub begins_not : (r.first ≡ page → ⊥) → for_some (span_at (area_of k) page) of_front ≡ false
  begins_not ne = by (span_at (area_of k) page) refl
    where
      by : (o : Option Span) → span_at (area_of k) page ≡ o → for_some (span_at (area_of k) page) of_front ≡ false
      by (Some x) e =
          let h = span_here k.words 0 (runs_of k.words) page x sound.whole e in
          let is = run_is k.words page r sound.whole h.inside f in
          absurd (ne (ap (λ (q : Run). q.first) is ∙ h.begins))
      by None e = ap (λ (o : Option Span). for_some o of_front) e

---- Looking

pub looked_none : (c : Token) (call : Call) (out : List ℕ) → IsOwning c call out → Looked c c call out
looked_none c call out v = record { did = did_none c call out v; heap = λ s q. same_heap (now s c) }

pub looked_runs : (a b : Token) (call : Call) (out : List ℕ) → IsStanding a → IsOwning a call out → Runs a b [] → Stands b (stance a) → Looked a b call out
looked_runs a b call out st v x s = record { did = did_runs a b call [] out v refl x s; heap = still a b st v.owns x }

pub looked_then : (a b c : Token) (call : Call) (out : List ℕ) → Looked a b call out → Looked b c call out → Looked a c call out
looked_then a b c call out x y = record {
  did = did_then a b c call [] [] out out x.did y.did;
  heap = λ s q. same_heap_trans (now s c) (now s b) (now s a) (y.heap s q) (x.heap s (setting_before b c [] y.did.goes s q));
}

-- what the front end and the back end have
abbrev parts : Configuration → List Place × BackPart
parts m = (m.state.lfh, m.state.back)

pub same_parts : (m k : Configuration) → SameHeap m k → parts m ≡ parts k
same_parts m k h = λ j. (h.lfh j, h.back j)

abbrev pub NoBits : Configuration → ℕ → ℕ → Type 0
NoBits m head w = OfThere m head (λ x. bits_of m.state.lfh x w ≡ 0)

pub no_bits_same : (m k : Configuration) (head w : ℕ) → SameHeap m k → NoBits k head w → NoBits m head w
no_bits_same m k head w h n = subst (λ (z : List Place × BackPart). (x : Span) → IsOneOf x (lfh_spans z.1.area) → x.first ≡ head → bits_of z.0 x w ≡ 0) (sym (same_parts m k h)) n

pub bits_same : (m k : Configuration) (head w : ℕ) → SameHeap m k → OfThere k head (λ x. bits_of k.state.lfh x w ≢ 0) → OfThere m head (λ x. bits_of m.state.lfh x w ≢ 0)
bits_same m k head w h n = subst (λ (z : List Place × BackPart). (x : Span) → IsOneOf x (lfh_spans z.1.area) → x.first ≡ head → bits_of z.0 x w ≢ 0) (sym (same_parts m k h)) n

-- The bits of a sound heap tell its blocks.
pub blocks_by : (b : Bool) (l : Limits) (m k : Configuration) (head : ℕ) → SameHeap m k → IsSoundFor l m → ShowsBits k head b → HasBlocks m head b
blocks_by true l m k head h sound t x i at =
    let p = in_lfh m.state.back.area.spans x i in
    bit_has sound.setting m sound.keeps x p.0 p.1 t.0 (bits_same m k head t.0 h t.2 x i at)
blocks_by false l m k head h sound t x i at =
    let p = in_lfh m.state.back.area.spans x i in
    no_bit sound.setting m sound.keeps x p.0 p.1 (λ w lt. no_bits_same m k head w h (t w lt) x i at)

---- The back end

pub back_same : (a b : Token) (k : Kept) (added : List Act) → GoesOn a b added → Always b (λ s. SameHeap (now s b) (now s a)) → IsBackOf a k → IsBackOf b k
back_same a b k added g h t s q =
    let y = t s (setting_before a b added g s q) in
    record { lock = y.lock; limits = y.limits ∙ ap (λ (o : Opening). o.limits) (sym g.opening); part = y.part ∙ ap sorted_back (sym (h s q).back) }

pub area_here : (c : Token) (k : Kept) → IsBackOf c k → (s : Setting) → IsSettingOf c.opening c.roll s → (now s c).state.back.area ≡ area_of k
area_here c k t s q = ap (λ (p : BackPart). p.area) (sym (t s q).part)

pub limits_here : (c : Token) (k : Kept) → IsBackOf c k → k.limits ≡ c.opening.limits
limits_here c k t = (t (setting_of c.opening c.roll) (some_setting c.opening c.roll)).limits

---- What is used

pub used_same : (m k : Configuration) (page : ℕ) → SameHeap m k → AreUsedBelow k page → AreUsedBelow m page
used_same m k page h u = subst (λ (z : List Place × BackPart). (x : Span) → IsOneOf x z.1.area.spans → x.kind ≡ kinds.Lfh → x.first < page → has_place 4096 z.0 x ≡ true) (sym (same_parts m k h)) u

-- one page more
pub used_more : (m : Configuration) (page : ℕ) → AreUsedBelow m page → ((x : Span) → IsOneOf x m.state.back.area.spans → x.kind ≡ kinds.Lfh → x.first ≡ page → has_place 4096 m.state.lfh x ≡ true) → AreUsedBelow m (page + 1)
used_more m page u here x i k lt = elim (cases_lt x.first page) [
  | inl l ↦ u x i k l
  | inr l ↦ here x i k (omega (arith, l, lt))
]

module _ (c : Token) (k : Kept) (page : ℕ) (back : IsBackOf c k) (sound : IsSound k) where
  order : (s : Setting) → IsSettingOf c.opening c.roll s → AreInOrder 0 (now s c).state.back.area.spans
  order s q = subst (λ (a : Area). AreInOrder 0 a.spans) (sym (area_here c k back s q)) (spans_in_order k sound)

  -- the one that begins there
  span_is : (s : Setting) (q : IsSettingOf c.opening c.roll s) (x : Span) → IsOneOf x (now s c).state.back.area.spans → x.first ≡ page → span_at (area_of k) page ≡ Some x
  span_is s q x i at =
      let spans = (now s c).state.back.area.spans in
      let f = find_some (begins_at page) spans x i (eq-eqb x.first page at) in
      let j = found_in (begins_at page) spans f.0 f.1 in
      let b = eqb-true f.0.first page (found_passes (begins_at page) spans f.0 f.1) in
      let same = same_first 0 spans f.0 x (order s q) j i (b ∙ sym at) in
      ap (λ (a : Area). span_at a page) (sym (area_here c k back s q)) ∙ (f.1 ∙ ap Some same)

  -- none does
  pub used_over : for_some (span_at (area_of k) page) (λ x. is_kind x.kind kinds.Lfh) ≡ false → Always c (λ s. AreUsedBelow (now s c) page) → Always c (λ s. AreUsedBelow (now s c) (page + 1))
  used_over none u s q = used_more (now s c) page (u s q)
      (λ x i kd at. absurd (false≢true (sym none ∙ (ap (λ (o : Option Span). for_some o (λ y. is_kind y.kind kinds.Lfh)) (span_is s q x i at) ∙ ap (λ (z : Kind). is_kind z kinds.Lfh) kd))))

  -- it has a block
  pub used_there : Always c (λ s. HasBlocks (now s c) page true) → Always c (λ s. AreUsedBelow (now s c) page) → Always c (λ s. AreUsedBelow (now s c) (page + 1))
  used_there has u s q = used_more (now s c) page (u s q) (λ x i kd at. has s q x (into_lfh (now s c).state.back.area.spans x i kd) at)

---- One that goes

-- the span that begins at a page, of the front end
pub front_at : (k : Kept) (page : ℕ) → for_some (span_at (area_of k) page) (λ x. is_kind x.kind kinds.Lfh) ≡ true → (x : Span) × (span_at (area_of k) page ≡ Some x) × (x.kind ≡ kinds.Lfh)
front_at k page h = by (span_at (area_of k) page) refl
  where
    by : (o : Option Span) → span_at (area_of k) page ≡ o → (x : Span) × (span_at (area_of k) page ≡ Some x) × (x.kind ≡ kinds.Lfh)
    by (Some x) e = (x, e, kind_is x.kind kinds.Lfh (sym (ap (λ (o : Option Span). for_some o (λ y. is_kind y.kind kinds.Lfh)) e) ∙ h))
    by None e = absurd (false≢true (sym (ap (λ (o : Option Span). for_some o (λ y. is_kind y.kind kinds.Lfh)) e) ∙ h))

-- spans behind a removed one do not begin where it began
gone : (page from : ℕ) (xs : List Span) (y : Span) → AreInOrder from xs → IsOneOf y (remove_found (begins_at page) xs) → y.first ≡ page → ⊥
gone page from [] y a i e = i
gone page from (x ∷ xs) y a i e = elim (cases_Bool (begins_at page x)) [
  | inl b ↦
      let j : IsOneOf y xs = (rw b at i) in
      let low = (above (x.first + x.pages) xs y a.2 j).0 in
      let at = eqb-true x.first page b in
      let some = a.1 in
      absurd (let no : ⊥ = omega (arith, low, at, some, e) in no)
  | inr b ↦ elim (rw b at i) [
    | inl s ↦ eqb-false x.first page b (ap (λ (z : Span). z.first) s ∙ e)
    | inr j ↦ gone page (x.first + x.pages) xs y a.2 j e
  ]
]

module _ (c : Token) (k : Kept) (page : ℕ) (st : IsStanding c) (v : IsOwning c calls.Compact (back_slot ∷ [])) (back : IsBackOf c k) (begins : for_some (span_at (area_of k) page) (λ x. is_kind x.kind kinds.Lfh) ≡ true) where
  pub span_fits : IfSome (span_at (area_of k) page) (λ x. x.kind ≡ kinds.Lfh)
  span_fits = let f = front_at k page begins in subst (λ (o : Option Span). IfSome o (λ x. x.kind ≡ kinds.Lfh)) (sym f.1) f.2

  pub unspan_may : Always c (λ s. HasBlocks (now s c) page false) → Always c (λ s. may s (now s c) c.number (acts.Unspan page) ≡ true)
  unspan_may none s q =
      let m = now s c in
      let f = front_at k page begins in
      let x = f.0 in
      let w = caller_view m c.number in
      let a = st s q in
      let at : span_at m.state.back.area page ≡ Some x = ap (λ (z : Area). span_at z page) (area_here c k back s q) ∙ f.1 in
      let i = found_in (begins_at page) m.state.back.area.spans x at in
      let b = eqb-true x.first page (found_passes (begins_at page) m.state.back.area.spans x at) in
      let empty : not (has_place 4096 m.state.lfh x) ≡ true = ap not (none s q x (into_lfh m.state.back.area.spans x i f.2) b) in
      let held : w.back ≡ true = a.locks whats.Back ∙ ap (is_out whats.Back) v.out_is in
      let compacts : for_some w.call.call is_compact ≡ true = ap (λ (o : Option Call). for_some o is_compact) (a.call ∙ v.call_is) in
      let outside : not w.entered ≡ true = ap not (a.entered ∙ v.outside) in
      let of_kind : may_unspan_of w kinds.Lfh ≡ true = and_from (for_some w.call.call is_compact && w.owns) (not w.entered) (and_from (for_some w.call.call is_compact) w.owns compacts (owns_now c st v.owns s q)) outside in
      let unused : (may_unspan_of w kinds.Lfh && not (has_place 4096 m.state.lfh x)) ≡ true = and_from (may_unspan_of w kinds.Lfh) (not (has_place 4096 m.state.lfh x)) of_kind empty in
      let test : is_unused m.state w x ≡ true = subst (λ (z : Kind). (may_unspan_of w z && not (has_place 4096 (Rattle.heap_model.specs.Legal.places_in m.state z) x)) ≡ true) (sym f.2) unused in
      and_from w.back (for_some (span_at m.state.back.area page) (is_unused m.state w)) held (ap (λ (o : Option Span). for_some o (is_unused m.state w)) at ∙ test)

  pub used_without : (b : Token) → IsSound k → Runs c b (entry c.number (acts.Unspan page) ∷ []) → Always c (λ s. AreUsedBelow (now s c) page) → Always b (λ s. AreUsedBelow (now s b) (page + 1))
  used_without b sound x u s q =
      let qc = setting_of_old c b (entry c.number (acts.Unspan page) ∷ []) x.does s q in
      let m = now s c in
      let next = after s m (entry c.number (acts.Unspan page)) in
      let heap : SameHeap (now s b) next = (x.agrees s q).owned (owns_now c st v.owns s qc) in
      let order : AreInOrder 0 m.state.back.area.spans = subst (λ (a : Area). AreInOrder 0 a.spans) (sym (area_here c k back s qc)) (spans_in_order k sound) in
      let rest : AreUsedBelow next page = λ y i kd lt. u s qc y (removed_from (begins_at page) y m.state.back.area.spans i) kd lt in
      used_same (now s b) next (page + 1) heap (used_more next page rest (λ y i kd at. absurd (gone page 0 m.state.back.area.spans y order i at)))

---- All of them

all_pass : {A : Type 0} (t : A → Bool) (xs : List A) → ((x : A) → IsOneOf x xs → t x ≡ true) → list_all t xs ≡ true
all_pass t [] h = refl
all_pass t (x ∷ xs) h = and_from (t x) (list_all t xs) (h x (inl refl)) (all_pass t xs (λ y i. h y (inr i)))

pub all_used : (c : Token) (k : Kept) → IsBackOf c k → IsSound k → Always c (λ s. AreUsedBelow (now s c) (256 * c.opening.limits.segments))
    → Always c (λ s. Rattle.heap_model.specs.Legal.are_used 4096 kinds.Lfh (now s c).state.lfh (now s c).state.back.area.spans ≡ true)
all_used c k back sound u s q = all_pass (has_place 4096 (now s c).state.lfh) (filter (is_of_kind kinds.Lfh) (now s c).state.back.area.spans) each
  where
    each : (x : Span) → IsOneOf x (filter (is_of_kind kinds.Lfh) (now s c).state.back.area.spans) → has_place 4096 (now s c).state.lfh x ≡ true
    each x i =
        let p = in_lfh (now s c).state.back.area.spans x i in
        let there : IsOneOf x (area_of k).spans = subst (λ (a : Area). IsOneOf x a.spans) (area_here c k back s q) p.0 in
        let some = (above 0 (area_of k).spans x (spans_in_order k sound) there).1 in
        let within = span_within k x sound there in
        let seg = ap (λ (l : Limits). l.segments) (limits_here c k back) in
        u s q x p.0 p.1 (omega (arith, some, within, seg))
