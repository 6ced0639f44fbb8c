-- A subsegment that goes back, step by step: its tag tells the bucket and the slot, its tags are cleared, and its Unspan comes with the store of the hint.
use Rattle.std.proofs.Common.{◌≡◌, ℕ, ◌+◌, ◌*◌, ◌/◌, ◌%◌, ◌<◌, ◌≤◌, ◌==◌, Bool, true, false, not, ◌&&◌, List, [], ◌∷◌, Option, Some, None, refl, sym, ap, ◌∙◌, subst, arith, inl, inr}
use Rattle.std.specs.Prelude.{is_some, unwrap_or, option_map, if◌then◌else◌, nat_le, nat_lt, IfSome, IsSome}
use Rattle.std.specs.List.{find}
use Rattle.std.proofs.lemmas.Bool.{cases_Bool, and_parts, and_from, eqb-true, le-leb, lt-ltb, ltb-true, leb-true, false≢true, not-true}
use Rattle.heap_model.specs.declared.Act.TheVariants as acts
use Rattle.heap_model.specs.declared.Call.{Call}
use Rattle.heap_model.specs.declared.Kind.{Kind}
use Rattle.heap_model.specs.declared.Kind.TheVariants as kinds
use Rattle.heap_model.specs.declared.Limits.{Limits}
use Rattle.heap_model.specs.declared.Opening.{Opening}
use Rattle.heap_model.specs.declared.Run.{Run}
use Rattle.heap_model.specs.declared.What.TheVariants as whats
use Rattle.heap_model.specs.State.{State as HeapState, Setting, Area, BackPart, Span, Place, is_caller, hands, holds, has_address, is_kind, remove_found}
use Rattle.page_ranges.specs.Spans.{span_of}
use Rattle.heap_model.specs.Stay.{for_some}
use Rattle.heap_model.specs.Backend.{in_span}
use Rattle.heap_model.specs.CallState.{Configuration, CallState, caller_view}
use Rattle.heap_model.specs.History.{configuration_after}
use Rattle.heap_model.specs.Search.{spans_of, span_at, begins_at, first_of}
use Rattle.heap_model.specs.Legal.{may, is_compact, may_unspan, may_unspan_of, is_unused, has_place, places_in, after}
use Rattle.heap_model.specs.Geometry.{page_bytes}
use Rattle.heap_model.specs.Layers.{StandsForBack}
use Rattle.heap_model.specs.Agreement.{AgreesFor}
use Rattle.heap_model.proofs.ListLemmas.{for_some_parts}
use Rattle.heap_model.proofs.Others.{agrees_trans}
use Rattle.heap_model.proofs.Own.{act_agrees}
use Rattle.heap_model.proofs.Stable.{caller_view_same}
use Rattle.heap_soundness.specs.Sound.{IsOneOf, AreInOrder}
use Rattle.heap_soundness.proofs.Lists.{found_in, found_passes}
use Rattle.heap_soundness.proofs.Spans.{same_span, above}
use Rattle.claim_rule.specs.declared.views.Owed.{Owed}
use Rattle.claim_rule.specs.Entries.{IsSettingOf, entry, setting_of}
use Rattle.claim_rule.specs.Shown.{hint_word, owed_or, tag_word, lfh_spans}
use Rattle.claim_rule.proofs.Advance.{some_setting}
use Rattle.step_parts.proofs.BlockWords.{in_lfh, into_lfh}
use Rattle.step_parts.proofs.Tags.{tag_parts}
use Rattle.look_steps.specs.Looks.{IsHintWord, IsTagWord}
use Rattle.lfh_buckets.specs.Blocks.{IsBucket}
use Rattle.span_steps.specs.Installs.{owed_tags}
use Rattle.span_steps.specs.Retires.{MayRetire, owed_by_retire}
use Rattle.span_steps.proofs.HintBehind.{hint_behind, swept_all}
use Rattle.span_steps.proofs.NewSubsegment.{tags_here}
use Rattle.backend_fit.specs.Kept.{Kept, Becomes, area_of, spans_of as runs_in, is_block_at, layer_of}
use Rattle.backend_fit.specs.Sound.{IsSound}
use Rattle.backend_fit.specs.Effects.{part_without, without_span, place_of}
use Rattle.backend_fit.proofs.Told.{place_at_address, fills}
use Rattle.data_words.proofs.Copying.{does_then, runs_then, none}
use Rattle.heap_gate.specs.Token.{Token, Always, IsStanding, now, is_out}
use Rattle.heap_gate.specs.Calls.{Runs, Stands, stance}
use Rattle.lfh_spans.specs.Subsegments.{IsBackOf}
use Rattle.lfh_spans.proofs.Joined.{HasBack, has_back_by, setting_of_old, still_held, hint_still, back_of_still}
use Rattle.lfh_spans.proofs.Tagged.{spans_in_order, span_within, tag_in_order}

---- The rule of the Unspan

removed_none : {A : Type 0} (t : A → Bool) (xs : List A) → find t xs ≡ None → remove_found t xs ≡ xs
removed_none t [] f = refl
removed_none t (x ∷ xs) f = elim (cases_Bool (t x)) [
  | inl e ↦ let z : Some x ≡ None = rw e at f in absurd (let y : ⊥ = cc in y)
  | inr e ↦ rw e (ap (λ ys. x ∷ ys) (removed_none t xs (rw e at f)))
]

-- a span that goes back is there
pub span_there : (s : Setting) (m : Configuration) (n first : ℕ) → may s m n (acts.Unspan first) ≡ true → (x : Span) × (span_at m.state.back.area first ≡ Some x) × (is_unused m.state (caller_view m n) x ≡ true)
span_there s m n first h =
    for_some_parts (span_at m.state.back.area first) (is_unused m.state (caller_view m n)) (and_parts (caller_view m n).back (for_some (span_at m.state.back.area first) (is_unused m.state (caller_view m n))) h).1

-- .. and one of the front end goes back in a call of the owner of the heap lock
pub record IsOwner (m : Configuration) (n : ℕ) : Type 0 where
  pub begun : is_some (m.now.calls n).call ≡ true
  pub owns : is_caller n m.state.gate.owner ≡ true

begun_by : (o : Option Call) (t : Call → Bool) → for_some o t ≡ true → is_some o ≡ true
begun_by None t h = absurd (false≢true h)
begun_by (Some c) t h = refl

owner_by : (s : Setting) (m : Configuration) (n first : ℕ) (h : may s m n (acts.Unspan first) ≡ true) → (span_there s m n first h).0.kind ≡ kinds.Lfh → IsOwner m n
owner_by s m n first h e =
    let r = span_there s m n first h in
    let x = r.0 in
    let k = caller_view m n in
    let u : may_unspan_of k x.kind ≡ true = (and_parts (may_unspan_of k x.kind) (not (has_place page_bytes (places_in m.state x.kind) x)) r.2).0 in
    let v : may_unspan_of k kinds.Lfh ≡ true = subst (λ (y : Kind). may_unspan_of k y ≡ true) e u in
    let a = and_parts (for_some k.call.call is_compact && k.owns) (not k.entered) v in
    let b = and_parts (for_some k.call.call is_compact) k.owns a.0 in
    record { begun = begun_by k.call.call is_compact b.0; owns = b.1 }

-- it may go back in what agrees with this
may_agrees : (s : Setting) (n first : ℕ) (m k : Configuration) → AgreesFor n m k → is_caller n k.state.gate.owner ≡ true → may s k n (acts.Unspan first) ≡ true → may s m n (acts.Unspan first) ≡ true
may_agrees s n first m k r o h =
    let e = r.owned o in
    (λ j. may_unspan (record { gate = m.state.gate; back = e.back j; vs = e.vs j; lfh = e.lfh j; large = m.state.large; words = m.state.words }) (caller_view_same n m k r j) first) ∙ h

---- Its places

-- no block of the back end begins where a subsegment does
places_stay : (o : Opening) (st : HeapState) (k : Kept) (head : ℕ) (x : Span) → StandsForBack o st (layer_of k) → IsSound k → span_at st.back.area head ≡ Some x → x.kind ≡ kinds.Lfh
    → remove_found (has_address (4096 * head)) st.back.places ≡ st.back.places
places_stay o st k head x t sound f e = removed_none (has_address (4096 * head)) st.back.places (place_at_address o st k t sound (4096 * head) ∙ by (find (is_block_at (4096 * head)) (runs_in k)) refl)
  where
    by : (w : Option Run) → find (is_block_at (4096 * head)) (runs_in k) ≡ w → option_map place_of w ≡ None
    by None g = refl
    by (Some r) g =
        let b = fills o st k t sound (4096 * head) r g in
        let p : 4096 * head / 4096 ≡ head = omega arith in
        let same : Some x ≡ Some (span_of r) = sym f ∙ (ap (span_at st.back.area) (sym p) ∙ b.span) in
        let kind : kinds.Lfh ≡ kinds.Back = sym e ∙ (ap (λ (y : Span). y.kind) (let z : x ≡ span_of r = cc in z) ∙ b.kind) in
        absurd (false≢true (sym (ap (λ (y : Kind). is_kind y kinds.Lfh) kind)))

---- The tag

-- What the tag of a subsegment's first page tells of it.
pub record IsOfTag (k : Kept) (head tag : ℕ) : Type 0 where
  pub span : Span
  pub found : span_at (area_of k) head ≡ Some span
  pub kind : span.kind ≡ kinds.Lfh
  pub begins : span.first ≡ head
  pub there : IsOneOf span (area_of k).spans
  pub bucket_is : span.bucket ≡ tag / 256 % 256
  pub slot_is : span.slot ≡ tag / 65536 % 65536
  pub bucket : IsBucket (tag / 256 % 256)
  pub slot : tag / 65536 % 65536 < 16

module _ (c0 : Token) (k0 : Kept) (head : ℕ) (at0 : IsStanding c0) (out : is_out whats.Back c0.out ≡ true) (paid : c0.owes ≡ []) (back0 : IsBackOf c0 k0) (sound0 : IsSound k0)
    (span : IfSome (span_at (area_of k0) head) (λ x. x.kind ≡ kinds.Lfh)) (may0 : Always c0 (λ s. may s (now s c0) c0.number (acts.Unspan head) ≡ true)) where
  area0 : (s : Setting) → IsSettingOf c0.opening c0.roll s → (now s c0).state.back.area ≡ area_of k0
  area0 s q = ap (λ (p : BackPart). p.area) (sym (back0 s q).part)

  kind_by : (x : Span) → span_at (area_of k0) head ≡ Some x → x.kind ≡ kinds.Lfh
  kind_by x e = subst (λ (o : Option Span). IfSome o (λ y. y.kind ≡ kinds.Lfh)) e span

  here : (x : Span) × (span_at (area_of k0) head ≡ Some x)
  here =
      let s = setting_of c0.opening c0.roll in
      let q = some_setting c0.opening c0.roll in
      let r = span_there s (now s c0) c0.number head (may0 s q) in
      (r.0, ap (λ (a : Area). span_at a head) (sym (area0 s q)) ∙ r.1)

  -- the caller has the heap lock
  pub deep : (c0.depth == 0) ≡ false
  deep =
      let s = setting_of c0.opening c0.roll in
      let q = some_setting c0.opening c0.roll in
      let r = span_there s (now s c0) c0.number head (may0 s q) in
      let w = owner_by s (now s c0) c0.number head (may0 s q) (kind_by r.0 (ap (λ (a : Area). span_at a head) (sym (area0 s q)) ∙ r.1)) in
      not-true (c0.depth == 0) (sym (at0 s q).owns ∙ w.owns)

  pub gives_some : IsSome (span_at (area_of k0) head)
  gives_some = ap is_some here.1

  there : IsOneOf here.0 (area_of k0).spans
  there = found_in (begins_at head) (area_of k0).spans here.0 here.1

  begins : here.0.first ≡ head
  begins = eqb-true here.0.first head (found_passes (begins_at head) (area_of k0).spans here.0 here.1)

  order : AreInOrder 0 (area_of k0).spans
  order = spans_in_order k0 sound0

  some : 0 < here.0.pages
  some = (above 0 (area_of k0).spans here.0 order there).1

  within : here.0.first + here.0.pages ≤ 256 * c0.opening.limits.segments
  within =
      let s = setting_of c0.opening c0.roll in
      let l = (back0 s (some_setting c0.opening c0.roll)).limits in
      subst (λ (x : Limits). here.0.first + here.0.pages ≤ 256 * x.segments) l (span_within k0 here.0 sound0 there)

  pub page_small : head < 256 * c0.opening.limits.segments
  page_small = omega (arith, within, some, begins)

  pub pages_small : (pages : ℕ) → IfSome (span_at (area_of k0) head) (λ x. pages ≡ x.pages) → head + pages ≤ 256 * c0.opening.limits.segments
  pages_small pages h =
      let e : pages ≡ here.0.pages = subst (λ (o : Option Span). IfSome o (λ y. pages ≡ y.pages)) here.1 h in
      omega (arith, within, begins, e)

  held0 : HasBack c0
  held0 = has_back_by c0 at0 out

  module _ (c1 : Token) (tag : ℕ) (look : Runs c0 c1 []) (looks : Stands c1 (stance c0)) (word : Always c1 (λ s. IsTagWord (now s c1) c0.number head c0.owes tag)) where
    back1 : IsBackOf c1 k0
    back1 = back_of_still c0 c1 look held0 k0 back0

    pub of_tag : IsOfTag k0 head tag
    of_tag =
        let s = setting_of c1.opening c1.roll in
        let q = some_setting c1.opening c1.roll in
        let w = word s q in
        let a1 : (now s c1).state.back.area ≡ area_of k0 = ap (λ (p : BackPart). p.area) (sym (back1 s q).part) in
        let held1 : holds (now s c1).state.gate c0.number whats.Back ≡ true = (look.agrees s q).locks whats.Back ∙ held0 s (setting_of_old c0 c1 [] look.does s q) in
        let x = here.0 in
        let has : in_span head x ≡ true = and_from (nat_le x.first head) (nat_lt head (x.first + x.pages)) (le-leb x.first head (omega (arith, begins))) (lt-ltb head (x.first + x.pages) (omega (arith, begins, some))) in
        let is : tag ≡ 1 + 256 * x.bucket + 65536 * x.slot + 4294967296 * x.first = w.mine held1
        ∙ (ap (λ (l : List Owed). owed_or l (2182 + head) (tag_word (lfh_spans (now s c1).state.back.area) head)) paid
        ∙ (ap (λ (a : Area). tag_word (lfh_spans a) head) a1
        ∙ tag_in_order (area_of k0) x head order (into_lfh (area_of k0).spans x there (kind_by x here.1)) has)) in
        let t = w.tagged (λ z. omega (arith, is, z)) in
        let i = in_lfh (area_of k0).spans t.span (subst (λ (a : Area). IsOneOf t.span (lfh_spans a)) a1 t.there) in
        let p = and_parts (nat_le t.span.first head) (nat_lt head (t.span.first + t.span.pages)) t.has_page in
        let same : t.span ≡ x = same_span 0 (area_of k0).spans t.span x head order i.0 there
        (leb-true t.span.first head p.0) (ltb-true head (t.span.first + t.span.pages) p.1) (omega (arith, begins)) (omega (arith, begins, some)) in
        let parts = tag_parts (now s c1) head tag t in
        record {
          span = x;
          found = here.1;
          kind = kind_by x here.1;
          begins = begins;
          there = there;
          bucket_is = ap (λ (y : Span). y.bucket) (sym same) ∙ parts.1;
          slot_is = ap (λ (y : Span). y.slot) (sym same) ∙ parts.2;
          bucket = record { first = subst (λ (n : ℕ). 1 ≤ n) parts.1 t.bucket.0; last = subst (λ (n : ℕ). n ≤ 128) parts.1 t.bucket.1 };
          slot = subst (λ (n : ℕ). n < 16) parts.2 t.slot;
        }

    ---- The hint, and the tags cleared

    module _ (c2 c3 : Token) (k1 : Kept) (hint pages left : ℕ) (look2 : Runs c1 c2 []) (looks2 : Stands c2 (stance c1))
        (hinted : Always c2 (λ s. IsHintWord (now s c2) c1.number (tag / 256 % 256) (tag / 65536 % 65536) c1.owes hint))
        (pages_are : IfSome (span_at (area_of k0) head) (λ x. pages ≡ x.pages)) (less : area_of k1 ≡ without_span (area_of k0) head) (becomes : Becomes k0 k1 (λ p. part_without p head))
        (clear : Runs c2 c3 []) (cleared : Stands c3 (record (stance c2) { owes = owed_tags head pages c2.owes }))
        (left_is : left ≡ (if hint == head then unwrap_or (first_of (spans_of (area_of k1) (tag / 256 % 256) (tag / 65536 % 65536))) 0 else hint)) where
      abbrev b : ℕ
      b = tag / 256 % 256

      abbrev t : ℕ
      t = tag / 65536 % 65536

      run2 : Runs c0 c2 []
      run2 = runs_then c0 c1 c2 [] [] none look look2

      run3 : Runs c0 c3 []
      run3 = runs_then c0 c2 c3 [] [] none run2 clear

      held2 : HasBack c2
      held2 = still_held c0 c2 run2 held0

      held3 : HasBack c3
      held3 = still_held c0 c3 run3 held0

      hint2 : Always c2 (λ s. hint_word (now s c2).state.back.area (now s c2).now.span_history b t ≡ hint)
      hint2 s q = sym ((hinted s q).mine (ap (λ (n : ℕ). holds (now s c2).state.gate n whats.Back) (sym look2.does.number) ∙ held2 s q)
          ∙ ap (λ (l : List Owed). owed_or l (118 + 16 * b + t) (hint_word (now s c2).state.back.area (now s c2).now.span_history b t)) (looks.owes ∙ paid))

      hint3 : Always c3 (λ s. hint_word (now s c3).state.back.area (now s c3).now.span_history b t ≡ hint)
      hint3 = hint_still c2 c3 clear held2 b t hint hint2

      back3 : IsBackOf c3 k0
      back3 = back_of_still c0 c3 run3 held0 k0 back0

      area3 : (s : Setting) → IsSettingOf c3.opening c3.roll s → (now s c3).state.back.area ≡ area_of k0
      area3 s q = ap (λ (p : BackPart). p.area) (sym (back3 s q).part)

      before3 : (s : Setting) → IsSettingOf c3.opening c3.roll s → IsSettingOf c0.opening c0.roll s
      before3 s q = setting_of_old c0 c3 [] run3.does s q

      agrees3 : (s : Setting) → IsSettingOf c3.opening c3.roll s → AgreesFor c0.number (now s c3) (now s c0)
      agrees3 s q = run3.agrees s q

      owner0 : (s : Setting) → IsSettingOf c0.opening c0.roll s → IsOwner (now s c0) c0.number
      owner0 s q =
          let r = span_there s (now s c0) c0.number head (may0 s q) in
          owner_by s (now s c0) c0.number head (may0 s q) (kind_by r.0 (ap (λ (a : Area). span_at a head) (sym (area0 s q)) ∙ r.1))

      ok3 : (s : Setting) → IsSettingOf c3.opening c3.roll s → may s (now s c3) c0.number (acts.Unspan head) ≡ true
      ok3 s q = may_agrees s c0.number head (now s c3) (now s c0) (agrees3 s q) (owner0 s (before3 s q)).owns (may0 s (before3 s q))

      so_many : pages ≡ of_tag.span.pages
      so_many = subst (λ (o : Option Span). IfSome o (λ y. pages ≡ y.pages)) of_tag.found pages_are

      is_span : of_tag.span ≡ record { first = head; pages = pages; kind = kinds.Lfh; bucket = b; slot = t }
      is_span = λ j. record { first = of_tag.begins j; pages = sym so_many j; kind = of_tag.kind j; bucket = of_tag.bucket_is j; slot = of_tag.slot_is j }

      value3 : (s : Setting) (q : IsSettingOf c3.opening c3.roll s) →
          hint_word (after s (now s c3) (entry c3.number (acts.Unspan head))).state.back.area (after s (now s c3) (entry c3.number (acts.Unspan head))).now.span_history b t ≡ left
      value3 s q = hint_behind s (now s c3) c3.number head b t hint (sym (hint3 s q))
          ∙ (ap (λ (a : Area). if hint == head then unwrap_or (first_of (spans_of (without_span a head) b t)) 0 else hint) (area3 s q)
          ∙ (ap (λ (a : Area). if hint == head then unwrap_or (first_of (spans_of a b t)) 0 else hint) (sym less) ∙ sym left_is))

      pub retires : Always c3 (λ s. MayRetire s (now s c3) c3.number head pages (tag / 256 % 256) (tag / 65536 % 65536) left c3.owes)
      retires s q = record {
        begun = ap (λ (n : ℕ). is_some ((now s c3).now.calls n).call) run3.does.number ∙ (ap (λ (x : CallState). is_some x.call) (agrees3 s q).call ∙ (owner0 s (before3 s q)).begun);
        there = subst (λ (a : Area). IsOneOf (record { first = head; pages = pages; kind = kinds.Lfh; bucket = b; slot = t }) a.spans) (sym (area3 s q)) (subst (λ (y : Span). IsOneOf y (area_of k0).spans) is_span of_tag.there);
        ok = subst (λ (n : ℕ). may s (now s c3) n (acts.Unspan head) ≡ true) (sym run3.does.number) (ok3 s q);
        tags = λ page low high. subst (λ (l : List Owed). owed_or l (2182 + page) (tag_word (lfh_spans (now s c3).state.back.area) page) ≡ 0) (sym cleared.owes)
            (tags_here head pages page (tag_word (lfh_spans (now s c3).state.back.area) page) c2.owes low high);
        value = value3 s q;
      }

      ---- The subsegment is gone

      module _ (c4 : Token) (give : Runs c3 c4 (entry c3.number (acts.Unspan head) ∷ []))
          (given : Stands c4 (record (stance c3) { owes = owed_by_retire (tag / 256 % 256) (tag / 65536 % 65536) head pages c3.owes })) where
        give_by : Runs c3 c4 (entry c0.number (acts.Unspan head) ∷ [])
        give_by = subst (λ (n : ℕ). Runs c3 c4 (entry n (acts.Unspan head) ∷ [])) run3.does.number give

        before4 : (s : Setting) → IsSettingOf c4.opening c4.roll s → IsSettingOf c3.opening c3.roll s
        before4 s q = setting_of_old c3 c4 (entry c0.number (acts.Unspan head) ∷ []) give_by.does s q

        pub retired_runs : Runs c0 c4 (entry c0.number (acts.Unspan head) ∷ [])
        retired_runs = record {
          does = does_then c0 c3 c4 [] (entry c0.number (acts.Unspan head) ∷ []) run3.does give_by.does;
          agrees = λ s q. agrees_trans c0.number (now s c4) (after s (now s c3) (entry c0.number (acts.Unspan head))) (after s (now s c0) (entry c0.number (acts.Unspan head)))
              (subst (λ (x : ℕ). AgreesFor x (now s c4) (configuration_after s (now s c3) (entry c0.number (acts.Unspan head) ∷ []))) run3.does.number (give_by.agrees s q))
              (act_agrees s c0.number (now s c3) (now s c0) (agrees3 s (before4 s q)) (acts.Unspan head) (ok3 s (before4 s q)) refl);
          hands = λ s q. subst (λ (x : ℕ). hands (now s c4).state x ≡ hands (now s c3).state x) run3.does.number (give_by.hands s q) ∙ run3.hands s (before4 s q);
        }

        pub retired_stands : Stands c4 (stance c0)
        retired_stands = record {
          call = given.call ∙ (cleared.call ∙ (looks2.call ∙ looks.call));
          fresh = given.fresh ∙ (cleared.fresh ∙ (looks2.fresh ∙ looks.fresh));
          locked = given.locked ∙ (cleared.locked ∙ (looks2.locked ∙ looks.locked));
          inside = given.inside ∙ (cleared.inside ∙ (looks2.inside ∙ looks.inside));
          depth = given.depth ∙ (cleared.depth ∙ (looks2.depth ∙ looks.depth));
          out = given.out ∙ (cleared.out ∙ (looks2.out ∙ looks.out));
          owes = given.owes ∙ (ap (owed_by_retire b t head pages) (cleared.owes ∙ ap (owed_tags head pages) (looks2.owes ∙ (looks.owes ∙ paid))) ∙ (swept_all b t head pages ∙ sym paid));
          free = given.free ∙ (cleared.free ∙ (looks2.free ∙ looks.free));
          searches = given.searches ∙ (cleared.searches ∙ (looks2.searches ∙ looks.searches));
          searched = given.searched ∙ (cleared.searched ∙ (looks2.searched ∙ looks.searched));
          drawn = given.drawn ∙ (cleared.drawn ∙ (looks2.drawn ∙ looks.drawn));
          whole = given.whole;
          pending = given.pending;
          prepared = given.prepared;
        }

        pub retired_back : IsBackOf c4 k1
        retired_back s q =
            let q3 = before4 s q in
            let m = now s c3 in
            let stay = places_stay c3.opening m.state k0 head of_tag.span (back3 s q3) sound0 (ap (λ (a : Area). span_at a head) (area3 s q3) ∙ of_tag.found) of_tag.kind in
            let e : (now s c4).state.back ≡ part_without m.state.back head = (give.agrees s q).back (held3 s q3) ∙ ap (λ (ps : List Place). record { area = without_span m.state.back.area head; places = ps }) (sym stay) in
            becomes c4.opening m.state (now s c4).state (subst (λ (o : Opening). StandsForBack o m.state (layer_of k0)) (sym give.does.opening) (back3 s q3)) e
