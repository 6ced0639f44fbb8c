-- A block of the back end that is to have another size, under the locks of VS and of the back end.
use Rattle.std.proofs.Common.{nat_le, ◌≡◌, ℕ, ◌+◌, ◌-◌, ◌*◌, ◌/◌, ◌<◌, ◌≤◌, Bool, true, false, ◌&&◌, length, List, [], ◌∷◌, ◌++◌, Option, Some, None, refl, sym, ap, ◌∙◌, subst, arith, inl, inr, leb}
use Rattle.std.specs.Prelude.{is_some, option_map}
use Rattle.std.specs.List.{AllByRecursion, find, list_any, list_all}
use Rattle.std.specs.Bool.{OnTrue, OnFalse}
use Rattle.std.proofs.lemmas.Bool.{OnTrue_at, OnFalse_at, cases_Bool, cases_lt, and_left, and_parts, eqb-true, le-leb, lt-leb, false≢true}
use Rattle.heap_model.specs.declared.Act.{Act}
use Rattle.heap_model.specs.declared.Act.TheVariants as acts
use Rattle.heap_model.specs.declared.Call.{Call}
use Rattle.heap_model.specs.declared.Entry.{Entry}
use Rattle.heap_model.specs.declared.Flags.{Flags}
use Rattle.heap_model.specs.declared.Kind.{Kind}
use Rattle.heap_model.specs.declared.Kind.TheVariants as kinds
use Rattle.heap_model.specs.declared.Limits.{Limits}
use Rattle.heap_model.specs.declared.Opening.{Opening}
use Rattle.heap_model.specs.declared.Run.{Run}
use Rattle.heap_model.specs.declared.What.TheVariants as whats
use Rattle.heap_model.specs.Backend.{in_span, free_runs}
use Rattle.heap_model.specs.Geometry.{page_bytes, pages_of, words_of, route_of, is_paged}
use Rattle.heap_model.specs.History.{configuration_after}
use Rattle.heap_model.specs.Layers.{StandsForVs, StandsForBack, sorted_vs}
use Rattle.heap_model.specs.Marks.{back_mark}
use Rattle.heap_model.specs.Ranges.{vs_spans, is_of_kind}
use Rattle.heap_model.specs.Search.{span_at, begins_at}
use Rattle.heap_model.specs.Shape.{zeroing_more}
use Rattle.heap_model.specs.State.{Setting, State, Area, BackPart, Span, Place, is_live, is_kind, is_live_at, has_address, holds, guarded, exclusive_places, change_found}
use Rattle.heap_model.specs.Stay.{run_from, lets_stay}
use Rattle.heap_model.specs.CallState.{Configuration}
use Rattle.heap_model.specs.Legal.{leaves_whole, has_place, has_live, resize_place, area_resized, is_back_at, with_pages}
use Rattle.heap_model.proofs.ListLemmas.{filter-change_found}
use Rattle.heap_soundness.proofs.Lists.{found_passes}
use Rattle.claim_rule.specs.Entries.{IsSettingOf, setting_of, entry}
use Rattle.claim_rule.specs.Places.{vs_slot, back_slot, data_count}
use Rattle.claim_rule.specs.Shown.{lfh_spans}
use Rattle.claim_rule.proofs.Advance.{some_setting}
use Rattle.claim_rule.proofs.Lists.{setting_less}
use Rattle.look_steps.specs.Denials.{MayDeny}
use Rattle.serial_laws.proofs.Found.{find_front}
use Rattle.page_ranges.specs.Ranges.{AreRuns}
use Rattle.page_ranges.specs.Words.{runs_of}
use Rattle.page_ranges.specs.Spans.{span_of, is_of_span, taken_runs}
use Rattle.vs_layer.specs.Kept.{VsKept, block_at}
use Rattle.vs_layer.specs.Standing as vss
use Rattle.vs_layer.proofs.Told.{block_is}
use Rattle.backend_fit.specs.Effects.{reach_of, place_of, part_resized, starts_at, with_mark}
use Rattle.backend_fit.specs.Kept.{Kept, area_of, spans_of, is_block_at, Becomes}
use Rattle.backend_fit.specs.Kept as backs
use Rattle.backend_fit.specs.Laws.{FillsSpan}
use Rattle.backend_fit.specs.Sound.{IsSound}
use Rattle.backend_fit.proofs.Told.{spans_used, place_at_address, fills}
use Rattle.call_laws.specs.Within.{by_all}
use Rattle.heap_gate.specs.Token.{Token, Always, now, IsStanding, is_out}
use Rattle.heap_gate.specs.Calls.{Runs, HasGiven, with_prepared, rested}
use Rattle.call_parts.specs.Calls.{HoldsBoth}
use Rattle.call_parts.specs.Entries.{HasEnded}
use Rattle.call_parts.proofs.Handing.{HasZeroed}
use Rattle.call_parts.proofs.Joining.{setting_before}
use Rattle.call_parts.proofs.Tokens.{now_more, ended_given, ended_then}
use Rattle.stay_calls.specs.Backs.{run_stays, Widens}
use Rattle.page_ranges.proofs.Runs.{runs_le}
use Rattle.stay_calls.proofs.Finding.{with_length}
use Rattle.stay_calls.proofs.Ending.{AllFound, AllGrow, grown, grown_state}

---- Lists

find_behind : (t : Place → Bool) (xs ys : List Place) → find t xs ≡ None → find t (xs ++ ys) ≡ find t ys
find_behind t [] ys e = refl
find_behind t (x ∷ xs) ys e = elim (cases_Bool (t x)) [
  | inl h ↦ let bad : Some x ≡ None = rw h at e in absurd (let no : ⊥ = cc in no)
  | inr h ↦ rw h (find_behind t xs ys (rw h at e))
]

none_live : (a : ℕ) (ps : List Place) → find (has_address a) ps ≡ None → has_live ps a ≡ false
none_live a [] e = refl
none_live a (p ∷ ps) e = elim (cases_Bool (has_address a p)) [
  | inl h ↦ let bad : Some p ≡ None = rw h at e in absurd (let no : ⊥ = cc in no)
  | inr h ↦ let off : is_live_at a p ≡ false = and_left (has_address a p) (is_live p.status) h in rw off (none_live a ps (rw h at e))
]

-- each run that is a span ends within the pages
ends : (words : List ℕ) (from to : ℕ) (rs : List Run) → AreRuns words from to rs → AllByRecursion (λ (r : Run). r.first + r.pages ≤ to) (taken_runs rs)
ends words from to [] a = tt
ends words from to (r ∷ rs) a =
    let rest = ends words (from + r.pages) to rs a.2 in
    let behind = runs_le words (from + r.pages) to rs a.2 in
    elim (cases_Bool (is_of_span r.mark.kind)) [ inl e ↦ rw e (omega (arith, a.0, behind), rest) | inr e ↦ rw e rest ]

-- .. and so does one that was changed
changed_ends : (P : Run → Type 0) (m : Rattle.heap_model.specs.declared.Mark.Mark) (addr pages : ℕ) (rs : List Run) (r : Run) → find (is_block_at addr) rs ≡ Some r → AllByRecursion P (change_found (starts_at r.first) (with_mark pages m) rs) → (x : Run) × (x.first ≡ r.first) × P (with_mark pages m x)
changed_ends P m addr pages [] r f h = absurd (let no : ⊥ = cc in no)
changed_ends P m addr pages (x ∷ xs) r f h = elim (cases_Bool (starts_at r.first x)) [
  | inl e ↦
      let k : AllByRecursion P (with_mark pages m x ∷ xs) = rw e at h in
      (x, eqb-true x.first r.first e, k.0)
  | inr e ↦ elim (cases_Bool (is_block_at addr x)) [
    | inl g ↦
        let same : Some x ≡ Some r = rw g at f in let is : x ≡ r = cc in
        let here : starts_at r.first x ≡ true = Rattle.std.proofs.lemmas.Bool.eq-eqb x.first r.first (ap (λ (y : Run). y.first) is) in
        absurd (false≢true (sym e ∙ here))
    | inr g ↦
        let k : AllByRecursion P (x ∷ change_found (starts_at r.first) (with_mark pages m) xs) = rw e at h in
        changed_ends P m addr pages xs r (rw g at f) k.1
  ]
]

whole_pages : (a b : ℕ) → leb (256 * a) (256 * b) ≡ leb a b
whole_pages a b = elim (cases_lt b a) [
  | inl l ↦ let e = lt-leb a b l in let f = lt-leb (256 * a) (256 * b) (omega arith) in rw (e, f) refl
  | inr l ↦ let e = le-leb a b l in let f = le-leb (256 * a) (256 * b) (omega arith) in rw (e, f) refl
]

---- A span that is to have other pages

paged_route : (n : ℕ) → 131073 ≤ n → n ≤ 520192 → is_paged (route_of n) ≡ true
paged_route n l h =
    let a = lt-leb n 16368 (omega arith) in
    let b = lt-leb n 131072 (omega arith) in
    let d = le-leb n 520192 (omega arith) in
    rw (a, b, d) refl

pub widened : (old new : Kept) (r : Run) (n pages : ℕ) (did : Bool) → 131073 ≤ n → n ≤ 520192 → pages ≡ pages_of n → span_at (area_of old) r.first ≡ Some (span_of r)
    → did ≡ nat_le pages (reach_of (area_of old) (span_at (area_of old) r.first)) → OnFalse did (new ≡ old)
    → OnTrue did (spans_of new ≡ change_found (starts_at r.first) (with_mark pages (back_mark (4096 * pages - n))) (spans_of old)) → new.limits ≡ old.limits
    → OnTrue did (Becomes old new (λ b. part_resized b r.first pages (4096 * pages - n))) → Widens old new r n did
widened old new r n pages did l h p there fits stays spans limits stands = record {
  told =
      fits
      ∙ (ap (λ (x : Option Span). nat_le pages (reach_of (area_of old) x)) there
      ∙ (ap (λ (k : ℕ). nat_le k (reach_of (area_of old) (Some (span_of r)))) p
      ∙ ap (λ (b : Bool). b && nat_le (pages_of n) (reach_of (area_of old) (Some (span_of r)))) (sym (paged_route n l h))));
  spans = λ e. subst (λ (k : ℕ). spans_of new ≡ change_found (starts_at r.first) (with_mark k (back_mark (4096 * k - n))) (spans_of old)) p (OnTrue_at e spans);
  becomes = λ e. subst (λ (k : ℕ). Becomes old new (λ b. part_resized b r.first k (4096 * k - n))) p (OnTrue_at e stands);
  limits = limits;
  same = λ e. OnFalse_at e stays;
}

---- The states of the layers

pub vs_stands : (o : Opening) (m k : State) (vs : VsKept) → StandsForVs o m (vss.layer_of vs) → k.vs ≡ m.vs → vs_spans k.back.area ≡ vs_spans m.back.area → StandsForVs o k (vss.layer_of vs)
vs_stands o m k vs t e f = record { lock = t.lock; limits = t.limits; key = t.key; part = t.part ∙ ap sorted_vs (sym e); spans = t.spans ∙ sym f }

pub vs_used : (m k : State) → k.vs ≡ m.vs → vs_spans k.back.area ≡ vs_spans m.back.area → leaves_whole m whats.Vs ≡ true → leaves_whole k whats.Vs ≡ true
vs_used m k e f h = (λ j. list_all (has_place page_bytes ((e j).places)) (f j)) ∙ h

pub given_vs : (a b : Token) (es : List Entry) (vs : VsKept) → Runs a b es
    → ((s : Setting) → ((configuration_after s (now s a) es).state.vs ≡ (now s a).state.vs) × ((configuration_after s (now s a) es).state.back.area ≡ (now s a).state.back.area) × (holds (configuration_after s (now s a) es).state.gate a.number whats.Vs ≡ holds (now s a).state.gate a.number whats.Vs))
    → Always a (λ s. holds (now s a).state.gate a.number whats.Vs ≡ true) → Always a (λ s. leaves_whole (now s a).state whats.Vs ≡ true) → Always a (λ s. StandsForVs a.opening (now s a).state (vss.layer_of vs))
    → Always b (λ s. (leaves_whole (now s b).state whats.Vs ≡ true) × StandsForVs b.opening (now s b).state (vss.layer_of vs))
given_vs a b es vs r same held used tells s q =
    let qa = setting_less a.opening a.roll b.roll s r.does.roll (subst (λ (o : Opening). IsSettingOf o b.roll s) r.does.opening q) in
    let x = r.agrees s q in let y = same s in let hold = y.2 ∙ held s qa in
    let e = x.vs hold ∙ y.0 in let f = x.spans hold ∙ ap vs_spans y.1 in
    let t = vs_stands a.opening (now s a).state (now s b).state vs (tells s qa) e f in
    (vs_used (now s a).state (now s b).state e f (used s qa), subst (λ (o : Opening). StandsForVs o (now s b).state (vss.layer_of vs)) (sym r.does.opening) t)

-- both locks are given back
pub both_given : (a b c : Token) (first : List Act) → HasGiven a b whats.Back (by_all a.number first) → HasGiven b c whats.Vs (entry b.number (acts.GiveLock whats.Vs) ∷ []) → a.out ≡ back_slot ∷ vs_slot ∷ [] → a.free ≡ true
    → HasEnded a c (first ++ acts.GiveLock whats.Vs ∷ []) []
both_given a b c first x y out free =
    let one = ended_given a b whats.Back (vs_slot ∷ []) first x out free in
    ended_then a b c first (acts.GiveLock whats.Vs ∷ []) [] one.added (ended_given b c whats.Vs [] (acts.GiveLock whats.Vs ∷ []) y one.out_is one.free)

-- the limits that the back end was made for are the heap's
back_limits : (c : Token) (back : Kept) → Always c (λ s. StandsForBack c.opening (now s c).state (backs.layer_of back)) → back.limits ≡ c.opening.limits
back_limits c back t = (t (setting_of c.opening c.roll) (some_setting c.opening c.roll)).limits

-- no span of VS is changed with one of the back end
not_vs : (kind : Kind) → is_kind kind kinds.Back ≡ true → is_kind kind kinds.Vs ≡ false
not_vs kinds.Back h = refl
not_vs kinds.Lfh h = refl
not_vs kinds.Header h = refl
not_vs kinds.Free h = refl
not_vs kinds.Vs h = absurd (false≢true h)

vs_spans_same : (a : Area) (start granules : ℕ) → vs_spans (area_resized 4096 a start granules) ≡ vs_spans a
vs_spans_same a start granules =
    filter-change_found (is_of_kind kinds.Vs) (is_back_at (start / 4096)) (with_pages (granules / 256)) a.spans
    (λ x h. let k = not_vs x.kind (and_parts (begins_at (start / 4096) x) (is_kind x.kind kinds.Back) h).1 in (k, k))

---- The caller

module _ (k : Token) (call : Call) (vs : VsKept) (back : Kept) (h : HoldsBoth k call vs back) (st : IsStanding k) (sound : IsSound back) (addr : ℕ) (no_vs : block_at vs addr ≡ None) where
  pub back_held : Always k (λ s. holds (now s k).state.gate k.number whats.Back ≡ true)
  back_held s q = (st s q).locks whats.Back ∙ ap (is_out whats.Back) h.serving.out_is

  pub vs_held : Always k (λ s. holds (now s k).state.gate k.number whats.Vs ≡ true)
  vs_held s q = (st s q).locks whats.Vs ∙ ap (is_out whats.Vs) h.serving.out_is

  vs_none : Always k (λ s. find (has_address addr) (now s k).state.vs.places ≡ None)
  vs_none s q = sym (block_is k.opening (now s k).state vs (h.tells_vs s q) addr) ∙ no_vs

  exclusive_is : Always k (λ s. exclusive_places (now s k).state k.number ≡ ((now s k).state.vs.places ++ (now s k).state.back.places) ++ [])
  exclusive_is s q =
      let a = st s q in let m = now s k in let l = a.locks whats.Large ∙ ap (is_out whats.Large) h.serving.out_is in
      (λ j. a.hands h.serving.free j ++ guarded m.state.vs.places (vs_held s q j) ++ guarded m.state.back.places (back_held s q j) ++ guarded m.state.large (l j))

  pub back_tells : Always k (λ s. (leaves_whole (now s k).state whats.Back ≡ true) × StandsForBack k.opening (now s k).state (backs.layer_of back))
  back_tells s q = (spans_used k.opening (now s k).state back (h.tells_back s q), h.tells_back s q)

  ---- None

  pub back_none : find (is_block_at addr) (spans_of back) ≡ None → addr / 4096 < 256 * k.opening.limits.segments → Always k (λ s. list_any (in_span (addr / 4096)) (lfh_spans (now s k).state.back.area) ≡ false) → Always k (λ s. MayDeny k.opening.limits (now s k) k.number addr)
  back_none none below front s q =
      let a = st s q in
      record {
        begun = ap is_some (a.call ∙ h.serving.call_is);
        inside = a.entered ∙ h.serving.inside;
        lfh = inr (inl (back_held s q, front s q));
        vs = inr (inr (inl (vs_held s q, none_live addr (now s k).state.vs.places (vs_none s q))));
        back = inr (inl (back_held s q, none_live addr (now s k).state.back.places (place_at_address k.opening (now s k).state back (h.tells_back s q) sound addr ∙ ap (option_map place_of) none)));
        large = inl (inr (inl below));
      }

  ---- A block

  module _ (r : Run) (f : find (is_block_at addr) (spans_of back) ≡ Some r) (n : ℕ) where
    at : 4096 * r.first ≡ addr
    at = eqb-true (4096 * r.first) addr (and_parts _ _ (found_passes (is_block_at addr) (spans_of back) r f)).1

    abbrev pub size : ℕ
    size = 4096 * r.pages - r.mark.unused

    pub found_now : Always k (λ s. find (has_address addr) (now s k).state.back.places ≡ Some (place_of r))
    found_now s q = place_at_address k.opening (now s k).state back (h.tells_back s q) sound addr ∙ ap (option_map place_of) f

    first_now : Always k (λ s. find (has_address addr) (exclusive_places (now s k).state k.number) ≡ Some (place_of r))
    first_now s q =
        let m = now s k in
        ap (find (has_address addr)) (exclusive_is s q)
        ∙ find_front (has_address addr) (m.state.vs.places ++ m.state.back.places) [] (place_of r) (find_behind (has_address addr) m.state.vs.places m.state.back.places (vs_none s q) ∙ found_now s q)

    fills_now : Always k (λ s. FillsSpan (now s k).state addr r)
    fills_now s q = fills k.opening (now s k).state back (h.tells_back s q) sound addr r f

    page : addr / 4096 ≡ r.first
    page = let e = at in omega (arith, e)

    pub run_kind : r.mark.kind ≡ kinds.Back
    run_kind = (fills_now (setting_of k.opening k.roll) (some_setting k.opening k.roll)).kind

    pub run_span : span_at (area_of back) r.first ≡ Some (span_of r)
    run_span =
        let s = setting_of k.opening k.roll in let q = some_setting k.opening k.roll in
        (λ i. find (begins_at (sym page i)) ((ap (λ (b : BackPart). b.area.spans) (h.tells_back s q).part) i)) ∙ (fills_now s q).span

    stays_same : Always k (λ s. lets_stay s.limits (now s k).state (place_of r) n ≡ run_stays back r n)
    stays_same s q =
        let behind : 4096 * r.first / 4096 + 256 * r.pages / 256 ≡ r.first + r.pages = omega arith in
        let reaches : 256 * r.pages + 256 * run_from (free_runs (area_of back)) (r.first + r.pages) ≡ 256 * (r.pages + run_from (free_runs (area_of back)) (r.first + r.pages)) = omega arith in
        ap (λ (a : Area). is_paged (route_of n) && leb (256 * pages_of n) (256 * r.pages + 256 * run_from (free_runs a) (4096 * r.first / 4096 + 256 * r.pages / 256))) (ap (λ (b : BackPart). b.area) (sym (h.tells_back s q).part))
        ∙ (ap (λ (x : ℕ). is_paged (route_of n) && leb (256 * pages_of n) (256 * r.pages + 256 * run_from (free_runs (area_of back)) x)) behind
        ∙ (ap (λ (x : ℕ). is_paged (route_of n) && leb (256 * pages_of n) x) reaches
        ∙ ap (λ (b : Bool). is_paged (route_of n) && b) (whole_pages (pages_of n) (r.pages + run_from (free_runs (area_of back)) (r.first + r.pages)))))

    pub back_found : (stays : Bool) → run_stays back r n ≡ stays → AllFound k addr (place_of r) size n stays
    back_found stays told s q = record {
      first = first_now s q;
      live = refl;
      behind = refl;
      touch = back_held s q;
      stays_is = stays_same s q ∙ told;
    }

    pub back_grows : run_stays back r n ≡ true → AllGrow k addr (place_of r) size n (256 * pages_of n)
    back_grows told s q = record { found = back_found true told s q; length_is = refl }

    -- the words of the block lie among the data words, at its new size
    pub words_then : (new : Kept) → new.limits ≡ back.limits → IsSound new → spans_of new ≡ change_found (starts_at r.first) (with_mark (pages_of n) (back_mark (4096 * pages_of n - n))) (spans_of back) → addr / 8 + words_of n ≤ data_count k.opening.limits
    words_then new same then_sound spans =
        let all = ends new.words 0 (length new.words) (runs_of new.words) then_sound.whole in
        let x = changed_ends (λ (y : Run). y.first + y.pages ≤ length new.words) (back_mark (4096 * pages_of n - n)) addr (pages_of n) (spans_of back) r f (subst (AllByRecursion (λ (y : Run). y.first + y.pages ≤ length new.words)) spans all) in
        let one = subst (λ (y : ℕ). y + pages_of n ≤ length new.words) x.1 x.2 in
        let many = then_sound.pages in let segs = then_sound.segments in let e = at in
        let l = ap (λ (x : Limits). x.segments) (same ∙ back_limits k back h.tells_back) in
        omega (arith, one, many, segs, e, l)

    module _ (z : Token) (flags : Flags) (zz : HasZeroed k z (addr / 8 + words_of size) (words_of n - words_of size) flags.zero) (x : AllGrow z addr (place_of r) size n (256 * pages_of n)) (sz : IsStanding z) where
      abbrev long : Token
      long = grown k z addr (place_of r) size n (256 * pages_of n) flags (back_slot ∷ vs_slot ∷ []) call h.serving zz x st sz

      state_now : Always z (λ s. (now s long).state ≡ with_length (now s z).state (place_of r) addr (256 * pages_of n) n)
      state_now s q = grown_state k z addr (place_of r) size n (256 * pages_of n) flags (back_slot ∷ vs_slot ∷ []) call h.serving zz x st sz s q

      before_z : (s : Setting) → IsSettingOf z.opening z.roll s → IsSettingOf k.opening k.roll s
      before_z s q = setting_before k z (zeroing_more flags.zero addr size n) zz.added.goes s q

      vs_part : Always z (λ s. (now s long).state.vs ≡ (now s k).state.vs)
      vs_part s q = ap (λ (y : State). y.vs) (state_now s q) ∙ (zz.kept s q).vs (vs_held s (before_z s q))

      vs_part_spans : Always z (λ s. vs_spans (now s long).state.back.area ≡ vs_spans (now s k).state.back.area)
      vs_part_spans s q =
          ap (λ (y : State). vs_spans y.back.area) (state_now s q)
          ∙ (vs_spans_same (now s z).state.back.area (4096 * r.first) (256 * pages_of n) ∙ (zz.kept s q).spans (vs_held s (before_z s q)))

      pub long_vs : Always (rested long) (λ s. StandsForVs (rested long).opening (now s (rested long)).state (vss.layer_of vs))
      long_vs s q =
          subst (λ (o : Opening). StandsForVs o (now s long).state (vss.layer_of vs)) (sym zz.added.goes.opening)
          (vs_stands k.opening (now s k).state (now s long).state vs (h.tells_vs s (before_z s q)) (vs_part s q) (vs_part_spans s q))

      pub long_used : Always k (λ s. leaves_whole (now s k).state whats.Vs ≡ true) → Always (rested long) (λ s. leaves_whole (now s (rested long)).state whats.Vs ≡ true)
      long_used used s q = vs_used (now s k).state (now s long).state (vs_part s q) (vs_part_spans s q) (used s (before_z s q))

      pub long_back : (new : Kept) → Becomes back new (λ b. part_resized b r.first (pages_of n) (4096 * pages_of n - n)) → Always (rested long) (λ s. StandsForBack (rested long).opening (now s (rested long)).state (backs.layer_of new))
      long_back new becomes s q =
          let left : 4096 * pages_of n - (4096 * pages_of n - n) ≡ n = omega arith in
          let same = (zz.kept s q).back (back_held s (before_z s q)) in
          let part : (now s long).state.back ≡ part_resized (now s k).state.back r.first (pages_of n) (4096 * pages_of n - n) =
          ap (λ (y : State). y.back) (state_now s q)
          ∙ (λ i. record { area = area_resized page_bytes (same i).area (4096 * r.first) (256 * pages_of n); places = change_found (is_live_at (sym at i)) (resize_place (256 * pages_of n) (sym left i)) (same i).places }) in
          subst (λ (o : Opening). StandsForBack o (now s long).state (backs.layer_of new)) (sym zz.added.goes.opening) (becomes k.opening (now s k).state (now s long).state (h.tells_back s (before_z s q)) part)

    -- .. and where its size is told
    pub sized_vs : Always (with_prepared k (acts.Sized addr size)) (λ s. StandsForVs k.opening (now s (with_prepared k (acts.Sized addr size))).state (vss.layer_of vs))
    sized_vs s q = subst (λ (m : Configuration). StandsForVs k.opening m.state (vss.layer_of vs)) (sym (now_more s k (acts.Sized addr size))) (h.tells_vs s q)

    pub sized_used : Always k (λ s. leaves_whole (now s k).state whats.Vs ≡ true) → Always (with_prepared k (acts.Sized addr size)) (λ s. leaves_whole (now s (with_prepared k (acts.Sized addr size))).state whats.Vs ≡ true)
    sized_used used s q = subst (λ (m : Configuration). leaves_whole m.state whats.Vs ≡ true) (sym (now_more s k (acts.Sized addr size))) (used s q)

    pub sized_back : Always (with_prepared k (acts.Sized addr size)) (λ s. StandsForBack k.opening (now s (with_prepared k (acts.Sized addr size))).state (backs.layer_of back))
    sized_back s q = subst (λ (m : Configuration). StandsForBack k.opening m.state (backs.layer_of back)) (sym (now_more s k (acts.Sized addr size))) (h.tells_back s q)
