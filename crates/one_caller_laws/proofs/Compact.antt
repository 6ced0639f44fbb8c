-- What a compaction leaves, and its number.
use Rattle.std.proofs.Common.{◌≡◌, ℕ, ◌+◌, ◌*◌, ◌/◌, Bool, true, false, ◌&&◌, not, List, [], ◌∷◌, ◌++◌, map, length, Option, Some, None, refl, sym, ap, ◌∙◌, subst, inl, inr, arith, ltb}
use Rattle.std.specs.Prelude.{filter}
use Rattle.std.specs.List.{list_all, list_any}
use Rattle.std.proofs.lemmas.Bool.{cases_Bool, and_parts, both_ways, false≢true, not-true, ltb-true, eqb-true, eq-eqb, false_from_ne_true}
use Rattle.heap_model.specs.declared.Act.{Act}
use Rattle.heap_model.specs.declared.Act.TheVariants as acts
use Rattle.heap_model.specs.declared.Call.TheVariants as calls
use Rattle.heap_model.specs.declared.Kind.{Kind}
use Rattle.heap_model.specs.declared.Kind.TheVariants as kinds
use Rattle.heap_model.specs.declared.Reply.{Reply}
use Rattle.heap_model.specs.declared.Reply.TheVariants as replies
use Rattle.heap_model.specs.State.{Setting, State, Span, is_kind, is_caller}
use Rattle.heap_model.specs.Backend.{numbers, in_span}
use Rattle.heap_model.specs.Ranges.{is_of_kind}
use Rattle.heap_model.specs.CallState.{Configuration, caller_view}
use Rattle.heap_model.specs.Search.{begins_at, first_of, hint_or, is_span_of}
use Rattle.heap_model.specs.Legal.{may_follow, after, has_place, are_used}
use Rattle.heap_model.specs.Alone.{by_zero, configuration_by}
use Rattle.heap_model.specs.Moments.{moments_by, state_before_last, In}
use Rattle.heap_model.specs.Shape.{shape_of, under_lock, loose_pages, IsCompact, Compacts, HasShape, Replied}
use Rattle.heap_model.proofs.GateSound.{row_of}
use Rattle.heap_soundness.specs.Sound.{IsOneOf, AreInOrder}
use Rattle.heap_soundness.proofs.Lists.{any_found, any_in}
use Rattle.heap_soundness.proofs.Enums.{kind_is}
use Rattle.heap_soundness.proofs.GapRuns.{filtered_cases, in_filtered}
use Rattle.heap_soundness.proofs.Spans.{same_first}
use Rattle.heap_soundness.proofs.Lists.{found_in}
use Rattle.search_laws.proofs.Filtered.{all_kept}
use Rattle.search_laws.proofs.Steps.{by_append}
use Rattle.one_caller_laws.specs.OneCall.{IsDetermined}
use Rattle.one_caller_laws.proofs.Gate.{no_other}
use Rattle.one_caller_laws.proofs.Core.{Core, core_of, hints_of}
use Rattle.one_caller_laws.proofs.InCall.{InCall, is_quiet, quiet_core, IsWhole, shows_or_ends, each_passes}
use Rattle.one_caller_laws.proofs.Reach.{Goes, may_first, no_begin, shown_place, shown_cases}
use Rattle.one_caller_laws.proofs.Pair.{begun_within, begun_whole, begun_same, goes_from, shown_is, none_asked, ends_alike}
use Rattle.one_caller_laws.proofs.Asks.{same_reply}
use Rattle.one_caller_laws.proofs.Counted.{in_numbers, first_stays}
use Rattle.one_caller_laws.proofs.Compacting.{has_any, is_kept, kept_spans, shaped, still_named, loose_in, IsCompacting, same_kept, placeless_is, is_lockish, pages_in, owned, compacted}

---- What it shows

lockish_pages : (pages : List ℕ) (t : List Act) → list_all is_lockish t ≡ true → list_all is_lockish (map acts.Decommit pages ++ t) ≡ true
lockish_pages [] t h = h
lockish_pages (p ∷ pages) t h = lockish_pages pages t h

counted_pages : (pages : List ℕ) (t : List Act) → pages_in (map acts.Decommit pages ++ t) ≡ length pages + pages_in t
counted_pages [] t = omega arith
counted_pages (p ∷ pages) t = let e = counted_pages pages t in omega (arith, e)

owned_pages : (pages : List ℕ) (t : List Act) (o : Option ℕ) → owned (map acts.Decommit pages ++ t) o ≡ owned t o
owned_pages [] t o = refl
owned_pages (p ∷ pages) t o = owned_pages pages t o

no_more : (pages : List ℕ) → map acts.Decommit pages ++ [] ≡ map acts.Decommit pages
no_more [] = refl
no_more (p ∷ pages) = ap (λ (l : List Act). acts.Decommit p ∷ l) (no_more pages)

lockish_under : (b : Bool) (pages : List ℕ) → list_all is_lockish (under_lock b (map acts.Decommit pages)) ≡ true
lockish_under true pages = ap (list_all is_lockish) (sym (no_more pages)) ∙ lockish_pages pages [] refl
lockish_under false pages = lockish_pages pages (acts.Unlock ∷ []) refl

counted_under : (b : Bool) (pages : List ℕ) → pages_in (under_lock b (map acts.Decommit pages)) ≡ length pages
counted_under true pages = ap pages_in (sym (no_more pages)) ∙ counted_pages pages [] ∙ omega arith
counted_under false pages = let e = counted_pages pages (acts.Unlock ∷ []) in omega (arith, e)

owned_under : (b : Bool) (pages : List ℕ) (o : Option ℕ) → (b ≡ false → o ≡ None) → owned (under_lock b (map acts.Decommit pages)) o ≡ o
owned_under true pages o h = ap (λ (l : List Act). owned l o) (sym (no_more pages)) ∙ owned_pages pages [] o
owned_under false pages o h = owned_pages pages (acts.Unlock ∷ []) (Some 0) ∙ sym (h refl)

---- The last act

-- the acts before the last, and the state before it
record Last (s : Setting) (m : Configuration) (act : Act) (rest : List Act) : Type 0 where
  pub pre : List Act
  pub last : Act
  pub is : act ∷ rest ≡ pre ++ last ∷ []
  pub state : state_before_last (moments_by s m (act ∷ rest)) ≡ Some (configuration_by s m pre).state

last_is : (s : Setting) (m : Configuration) (act : Act) (rest : List Act) → Last s m act rest
last_is s m act [] = record { pre = []; last = act; is = refl; state = refl }
last_is s m act (next ∷ rest) =
    let x = last_is s (after s m (by_zero act)) next rest in
    record { pre = act ∷ x.pre; last = x.last; is = ap (λ (l : List Act). act ∷ l) x.is; state = x.state }

module _ (s : Setting) (old : Configuration) (whole : IsWhole (core_of old)) where
  -- a span of another layer has its place all along
  whole_any : (x : Span) (k : Kind) → x.kind ≡ k → IsOneOf x old.state.back.area.spans → is_kind k kinds.Lfh ≡ false → has_any (core_of old) x k ≡ true
  whole_any x kinds.Vs e i n = each_passes (has_place 4096 old.state.vs.places) (filter (is_of_kind kinds.Vs) old.state.back.area.spans) x whole.vs (in_filtered (is_of_kind kinds.Vs) x old.state.back.area.spans (ap (λ (q : Kind). is_kind q kinds.Vs) e) i)
  whole_any x kinds.Back e i n = each_passes (has_place 4096 old.state.back.places) (filter (is_of_kind kinds.Back) old.state.back.area.spans) x whole.back (in_filtered (is_of_kind kinds.Back) x old.state.back.area.spans (ap (λ (q : Kind). is_kind q kinds.Back) e) i)
  whole_any x kinds.Lfh e i n = absurd (false≢true (sym n))
  whole_any x kinds.Header e i n = refl
  whole_any x kinds.Free e i n = refl

  -- so where those of the front end have theirs, all have
  all_any : (m : Configuration) (k : ℕ) → IsCompacting s old m k → are_used 4096 kinds.Lfh m.state.lfh m.state.back.area.spans ≡ true → (x : Span) → IsOneOf x m.state.back.area.spans → is_kept (core_of old) x ≡ true
  all_any m k c used x i = elim (cases_Bool (is_kind x.kind kinds.Lfh)) [
    | inr n ↦ whole_any x x.kind refl (c.there x i) n
    | inl l ↦
        let e = kind_is x.kind kinds.Lfh l in
        let p = each_passes (has_place 4096 m.state.lfh) (filter (is_of_kind kinds.Lfh) m.state.back.area.spans) x used (in_filtered (is_of_kind kinds.Lfh) x m.state.back.area.spans l i) in
        let q : has_place 4096 old.state.lfh x ≡ true = sym (ap (λ (d : Core). has_place 4096 d.lfh x) c.core) ∙ p in
        ap (has_any (core_of old) x) e ∙ q
  ]

  -- the last act leaves the spans and the pages
  leaves : (m : Configuration) (k : ℕ) (act : Act) → IsCompacting s old m k → IsCompact m.state → Goes s m (act ∷ []) → list_all is_lockish (shape_of (act ∷ [])) ≡ true →
      ((after s m (by_zero act)).state.back.area ≡ m.state.back.area) × ((after s m (by_zero act)).state.lfh ≡ m.state.lfh)
  leaves m k act c compact g l =
      let h = may_first s m act [] g in
      let b = no_begin s m act [] g in
      elim (cases_Bool (is_quiet act)) [
        | inl q ↦ let e = quiet_core s m act q in (ap (λ (d : Core). d.back.area) e, ap (λ (d : Core). d.lfh) e)
        | inr q ↦ elim (shows_or_ends s m act (none_asked s calls.Compact m c.within refl) q b h) [
          | inr u ↦
              let p = placeless_is s m u.0 (subst (λ (x : Act). may_follow s m (by_zero x) ≡ true) u.1 h) in
              let i = found_in (begins_at u.0) m.state.back.area.spans p.span p.found in
              absurd (both_ways _ (sym (same_kept s old m k p.span c) ∙ p.unused) (all_any m k c compact.0 p.span i))
          | inl sh ↦ elim (shown_cases act sh) [
            | inl maker ↦ let p = shown_place s m act [] g maker in absurd (false≢true (ap (list_all is_lockish) (sym p.4) ∙ l))
            | inr out ↦ let l2 : list_all is_lockish (act ∷ []) ≡ true = rw out at l in by_act act (and_parts (is_lockish act) true l2).0 h
          ]
        ]
      ]
    where
      by_act : (act : Act) → is_lockish act ≡ true → may_follow s m (by_zero act) ≡ true → ((after s m (by_zero act)).state.back.area ≡ m.state.back.area) × ((after s m (by_zero act)).state.lfh ≡ m.state.lfh)
      by_act acts.Lock l h = (refl, refl)
      by_act acts.Unlock l h = (refl, refl)
      by_act (acts.Decommit page) l h =
          let v = caller_view m 0 in
          let a = m.state.back.area in
          let r1 = and_parts (v.owns && v.back && a.committed page) (not (list_any (in_span page) a.spans)) (row_of s m (by_zero (acts.Decommit page)) h) in
          let is = (and_parts (v.owns && v.back) (a.committed page) r1.0).1 in
          let out = not-true _ r1.1 in
          let usable = c.within.keeps.heap.usable page is in
          let below = ltb-true (page / 256) a.reserved (and_parts (ltb (page / 256) a.reserved) _ usable).0 in
          let i = in_filtered (λ page. a.committed page && not (list_any (in_span page) a.spans)) page (numbers 0 (256 * a.reserved)) (rw (is, out) refl) (in_numbers page 0 (256 * a.reserved) (omega arith) (omega (arith, below))) in
          absurd (subst (IsOneOf page) compact.1 i)
      by_act _ l h = absurd (false≢true l)

---- The end

-- the spans that have a place, and of the committed pages those in them
abbrev pub compacted_core : Core → Core
compacted_core c = shaped c (record { reserved = c.back.area.reserved; committed = λ page. c.back.area.committed page && list_any (in_span page) (kept_spans c); spans = kept_spans c }) c.owner

pub record CompactEnd (s : Setting) (old m : Configuration) (number : ℕ) : Type 0 where
  pub within : InCall s calls.Compact m
  pub core : core_of m ≡ compacted_core (core_of old)
  pub hints : (b t : ℕ) → hints_of m b t ≡ still_named (kept_spans (core_of old)) (hints_of old b t)
  pub counted : number ≡ loose_in (kept_spans (core_of old)) old.state.back.area.reserved old.state.back.area.committed

compact_end : (s : Setting) (old m : Configuration) (number : ℕ) → IsWhole (core_of old) → IsCompacting s old m number → are_used 4096 kinds.Lfh m.state.lfh m.state.back.area.spans ≡ true → loose_pages m.state.back.area ≡ [] → m.state.gate.owner ≡ old.state.gate.owner →
    CompactEnd s old m number
compact_end s old m number whole c used loose owner = record {
  within = c.within;
  core = c.core ∙ (λ i. shaped (core_of old) (record { reserved = old.state.back.area.reserved; committed = λ page. pages page i; spans = spans i }) (owner i));
  hints = λ b t. c.hints b t ∙ ap (λ (xs : List Span). still_named xs (hints_of old b t)) spans;
  counted = let k = c.count in omega (arith, k, none);
}
  where
    spans : m.state.back.area.spans ≡ kept_spans (core_of old)
    spans = sym (all_kept (is_kept (core_of old)) m.state.back.area.spans (all_any s old whole m number c used)) ∙ c.spans

    loose_kept : filter (λ page. m.state.back.area.committed page && not (list_any (in_span page) (kept_spans (core_of old)))) (numbers 0 (256 * old.state.back.area.reserved)) ≡ []
    loose_kept =
        (λ i. filter (λ page. m.state.back.area.committed page && not (list_any (in_span page) (sym spans i))) (numbers 0 (256 * (ap (λ (d : Core). d.back.area.reserved) (sym c.core) i)))) ∙ loose

    none : loose_in (kept_spans (core_of old)) old.state.back.area.reserved m.state.back.area.committed ≡ 0
    none = ap length loose_kept

    pages : (page : ℕ) → m.state.back.area.committed page ≡ (old.state.back.area.committed page && list_any (in_span page) (kept_spans (core_of old)))
    pages page = elim (cases_Bool (list_any (in_span page) (kept_spans (core_of old)))) [
      | inl e ↦ rw e (c.stays page e ∙ sym (and_true (old.state.back.area.committed page)))
      | inr e ↦ rw e (false_from_ne_true (m.state.back.area.committed page) (λ is.
          let usable = c.within.keeps.heap.usable page is in
          let below = ltb-true (page / 256) m.state.back.area.reserved (and_parts (ltb (page / 256) m.state.back.area.reserved) _ usable).0 in
          let reserved : m.state.back.area.reserved ≡ old.state.back.area.reserved = ap (λ (d : Core). d.back.area.reserved) c.core in
          let i = in_filtered (λ page. m.state.back.area.committed page && not (list_any (in_span page) (kept_spans (core_of old)))) page (numbers 0 (256 * old.state.back.area.reserved)) (rw (is, e) refl) (in_numbers page 0 (256 * old.state.back.area.reserved) (omega arith) (omega (arith, below, reserved))) in
          subst (IsOneOf page) loose_kept i) ∙ sym (and_false (old.state.back.area.committed page)))
    ]
      where
        and_true : (b : Bool) → (b && true) ≡ b
        and_true true = refl
        and_true false = refl

        and_false : (b : Bool) → (b && false) ≡ false
        and_false true = refl
        and_false false = refl

compacts_so : (s : Setting) (m : Configuration) (number : ℕ) (rest : List Act) → InCall s calls.Compact (after s m (by_zero (acts.Begin calls.Compact))) → IsWhole (core_of (after s m (by_zero (acts.Begin calls.Compact)))) → Goes s (after s m (by_zero (acts.Begin calls.Compact))) rest →
    Compacts 0 number (moments_by s m (acts.Begin calls.Compact ∷ rest)) → CompactEnd s (after s m (by_zero (acts.Begin calls.Compact))) (configuration_by s (after s m (by_zero (acts.Begin calls.Compact))) rest) number
compacts_so s m number rest w whole g x = by_rest rest g x.all (sym (shown_is s calls.Compact m rest) ∙ x.acts_are)
  where
    start : IsCompacting s (after s m (by_zero (acts.Begin calls.Compact))) (after s m (by_zero (acts.Begin calls.Compact))) 0
    start = record {
      within = w;
      core = refl;
      there = λ x i. i;
      spans = refl;
      hints = λ b t. named b t (hints_of m b t) refl;
      stays = λ page q. refl;
      count = omega arith;
    }
      where
        named : (b t : ℕ) (o : Option ℕ) → hints_of m b t ≡ o → o ≡ still_named m.state.back.area.spans o
        named b t None e = refl
        named b t (Some h) e =
            let k = w.keeps.hints b t h e in
            let i = any_in (begins_at h) m.state.back.area.spans k.span k.there (eq-eqb k.span.first h k.begins) in
            rw i refl

    owner_stays : is_caller 0 m.state.gate.owner ≡ false → m.state.gate.owner ≡ None
    owner_stays h = no_other m.state.gate.owner w.gate.owner h

    by_rest : (rest : List Act) → Goes s (after s m (by_zero (acts.Begin calls.Compact))) rest → In (state_before_last (moments_by s m (acts.Begin calls.Compact ∷ rest))) IsCompact →
        shape_of rest ≡ under_lock (is_caller 0 m.state.gate.owner) (map acts.Decommit x.pages) → CompactEnd s (after s m (by_zero (acts.Begin calls.Compact))) (configuration_by s (after s m (by_zero (acts.Begin calls.Compact))) rest) number
    by_rest [] g all shape =
        let z : 0 ≡ number = (let a = counted_under (is_caller 0 m.state.gate.owner) x.pages in let b = ap pages_in shape in let c = x.counted in omega (arith, a, b, c)) in
        compact_end s _ _ number whole (subst (IsCompacting s _ _) z start) all.0 all.1 refl
    by_rest (act ∷ rest) g all shape =
        let old = after s m (by_zero (acts.Begin calls.Compact)) in
        let l = last_is s old act rest in
        let lock = is_caller 0 m.state.gate.owner in
        let lockish = ap (list_all is_lockish) shape ∙ lockish_under lock x.pages in
        let g2 = subst (Goes s old) l.is g in
        let c = compacted s old l.pre (l.last ∷ []) old 0 start g2 (subst (λ (r : List Act). list_all is_lockish (shape_of r) ≡ true) l.is lockish) in
        let k = configuration_by s old l.pre in
        let compact = subst (λ (o : Option State). In o IsCompact) l.state all in
        let stays = leaves s old whole k (0 + pages_in (shape_of l.pre)) l.last c.compacting compact c.goes c.shape in
        let d = compacted s old (act ∷ rest) [] old 0 start (subst (Goes s old) (sym (none_behind (act ∷ rest))) g) (subst (λ (r : List Act). list_all is_lockish (shape_of r) ≡ true) (sym (none_behind (act ∷ rest))) lockish) in
        let e : configuration_by s old (act ∷ rest) ≡ after s k (by_zero l.last) = ap (configuration_by s old) l.is ∙ by_append s old l.pre (l.last ∷ []) in
        let area : (configuration_by s old (act ∷ rest)).state.back.area ≡ k.state.back.area = ap (λ (j : Configuration). j.state.back.area) e ∙ stays.0 in
        let lfh : (configuration_by s old (act ∷ rest)).state.lfh ≡ k.state.lfh = ap (λ (j : Configuration). j.state.lfh) e ∙ stays.1 in
        let number_is : 0 + pages_in (shape_of (act ∷ rest)) ≡ number = (let a = counted_under lock x.pages in let b = ap pages_in shape in let q = x.counted in omega (arith, a, b, q)) in
        compact_end s old (configuration_by s old (act ∷ rest)) number whole (subst (IsCompacting s old (configuration_by s old (act ∷ rest))) number_is d.compacting)
        ((λ i. are_used 4096 kinds.Lfh (lfh i) (area i).spans) ∙ compact.0) (ap loose_pages area ∙ compact.1)
        (d.owner ∙ ap (λ (r : List Act). owned r m.state.gate.owner) shape ∙ owned_under lock x.pages m.state.gate.owner owner_stays)
      where
        none_behind : (xs : List Act) → xs ++ [] ≡ xs
        none_behind [] = refl
        none_behind (y ∷ ys) = ap (λ (l : List Act). y ∷ l) (none_behind ys)

---- In both

-- hints of one value keep one value
named_alike : (b t : ℕ) (u : Span → Bool) (xs : List Span) (o q : Option ℕ) → AreInOrder 0 xs → hint_or o (first_of (filter (is_span_of b t) xs)) ≡ hint_or q (first_of (filter (is_span_of b t) xs)) →
    hint_or (still_named (filter u xs) o) (first_of (filter (is_span_of b t) (filter u xs))) ≡ hint_or (still_named (filter u xs) q) (first_of (filter (is_span_of b t) (filter u xs)))
named_alike b t u xs None None a e = refl
named_alike b t u xs (Some p) (Some q) a e = let same : p ≡ q = cc in ap (λ (h : ℕ). hint_or (still_named (filter u xs) (Some h)) (first_of (filter (is_span_of b t) (filter u xs)))) same
named_alike b t u xs (Some p) None a e = one_is p (sym e)
  where
    one_is : (p : ℕ) → first_of (filter (is_span_of b t) xs) ≡ Some p → hint_or (still_named (filter u xs) (Some p)) (first_of (filter (is_span_of b t) (filter u xs))) ≡ first_of (filter (is_span_of b t) (filter u xs))
    one_is p f = elim (cases_Bool (list_any (begins_at p) (filter u xs))) [
      | inr n ↦ rw n refl
      | inl n ↦
          let y = any_found (begins_at p) (filter u xs) n in
          let yi = filtered_cases u y.0 xs y.1 in
          let yf = eqb-true y.0.first p y.2 in
          rw n (sym (first_stays (is_span_of b t) u y.0 p xs f (λ z i k. subst (λ (x : Span). u x ≡ true) (same_first 0 xs y.0 z a yi.0 i (yf ∙ sym k)) yi.1)))
    ]
named_alike b t u xs None (Some p) a e = sym (one_is p e)
  where
    one_is : (p : ℕ) → first_of (filter (is_span_of b t) xs) ≡ Some p → hint_or (still_named (filter u xs) (Some p)) (first_of (filter (is_span_of b t) (filter u xs))) ≡ first_of (filter (is_span_of b t) (filter u xs))
    one_is p f = elim (cases_Bool (list_any (begins_at p) (filter u xs))) [
      | inr n ↦ rw n refl
      | inl n ↦
          let y = any_found (begins_at p) (filter u xs) n in
          let yi = filtered_cases u y.0 xs y.1 in
          let yf = eqb-true y.0.first p y.2 in
          rw n (sym (first_stays (is_span_of b t) u y.0 p xs f (λ z i k. subst (λ (x : Span). u x ≡ true) (same_first 0 xs y.0 z a yi.0 i (yf ∙ sym k)) yi.1)))
    ]

compact_is : (s : Setting) (m : Configuration) (reply : Reply) (rest : List Act) → HasShape s 0 calls.Compact (Replied reply) (moments_by s m (acts.Begin calls.Compact ∷ rest)) → (number : ℕ) × (reply ≡ replies.Compacted number) × Compacts 0 number (moments_by s m (acts.Begin calls.Compact ∷ rest))
compact_is s m (replies.Compacted number) rest h = (number, refl, h)
compact_is s m _ rest h = absurd h

pub compact_determined : IsDetermined calls.Compact
compact_determined s m n reply other rest others valid b c alike x y =
    let call = calls.Compact in
    let p = compact_is s m reply rest x.gets.shape in
    let q = compact_is s n other others y.gets.shape in
    let k = after s m (by_zero (acts.Begin call)) in
    let l = after s n (by_zero (acts.Begin call)) in
    let h = (and_parts (may_follow s m (by_zero (acts.Begin call))) _ x.legal).0 in
    let i = (and_parts (may_follow s n (by_zero (acts.Begin call))) _ y.legal).0 in
    let g = goes_from s call m reply rest x in
    let j = goes_from s call n other others y in
    let w = begun_within s call m valid b h in
    let e = compacts_so s m p.0 rest w (begun_whole s call m valid b h) g p.2 in
    let f = compacts_so s n q.0 others (begun_within s call n valid c i) (begun_whole s call n valid c i) j q.2 in
    let core = begun_same s call m n alike in
    let number : p.0 ≡ q.0 = e.counted ∙ ap (λ (d : Core). loose_in (kept_spans d) d.back.area.reserved d.back.area.committed) core ∙ sym f.counted in (
      same_reply reply other (p.1 ∙ ap replies.Compacted number ∙ sym q.1),
      ends_alike s call (configuration_by s k rest) (configuration_by s l others) e.within f.within g.idle j.idle (e.core ∙ ap compacted_core core ∙ sym f.core) (λ b t.
          let xs = k.state.back.area.spans in
          let same_area : (λ (d : Core). d.back.area.spans) (core_of l) ≡ xs = ap (λ (d : Core). d.back.area.spans) (sym core) in
          let given : hint_or (hints_of k b t) (first_of (filter (is_span_of b t) xs)) ≡ hint_or (hints_of l b t) (first_of (filter (is_span_of b t) xs)) =
          alike.hints b t ∙ ap (λ (ys : List Span). hint_or (hints_of l b t) (first_of (filter (is_span_of b t) ys))) same_area in
          (λ z. hint_or (e.hints b t z) (first_of (filter (is_span_of b t) (e.core z).back.area.spans)))
          ∙ named_alike b t (is_kept (core_of k)) xs (hints_of k b t) (hints_of l b t) w.keeps.heap.spans.in_order given
          ∙ ap (λ (d : Core). hint_or (still_named (kept_spans d) (hints_of l b t)) (first_of (filter (is_span_of b t) (kept_spans d)))) core
          ∙ sym (λ z. hint_or (f.hints b t z) (first_of (filter (is_span_of b t) (f.core z).back.area.spans)))),
    )
