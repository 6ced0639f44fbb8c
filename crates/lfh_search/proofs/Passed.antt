-- What readings leave to a pass.
use Rattle.std.proofs.Common.{◌≡◌, ℕ, ◌+◌, ◌*◌, ◌<◌, true, false, List, [], ◌∷◌, ◌++◌, length, Option, Some, None, refl, sym, ap, ◌∙◌, subst, arith, eq-eqb}
use Rattle.std.proofs.lemmas.Bool.{false≢true}
use Rattle.heap_model.specs.declared.Act.{Act}
use Rattle.heap_model.specs.declared.Act.TheVariants as acts
use Rattle.heap_model.specs.declared.Opening.{Opening}
use Rattle.heap_model.specs.declared.What.TheVariants as whats
use Rattle.heap_model.specs.State.{Setting, Span, holds, State}
use Rattle.heap_model.specs.CallState.{Configuration, Search, Stage, NotBegun, AtHint, FirstPass, SecondPass, CallState}
use Rattle.heap_model.specs.Search.{SearchKey, spans_of, has_not_begun, asked_bucket, after_saw, after_lost, after_no_hint}
use Rattle.heap_model.specs.Legal.{after, step_search}
use Rattle.heap_model.specs.History.{configuration_after}
use Rattle.heap_model.specs.Layers.{sorted_back}
use Rattle.heap_soundness.specs.Sound.{IsOneOf}
use Rattle.lane_scan.specs.Matches.{IsFirstMatch, NoneMatches}
use Rattle.heap_model.specs.declared.Limits.{Limits}
use Rattle.backend_fit.specs.Sound.{IsSound}
use Rattle.claim_rule.proofs.Advance.{some_setting}
use Rattle.page_ranges.specs.Ranges.{IsWhole}
use Rattle.claim_rule.specs.Entries.{setting_of, entry}
use Rattle.backend_fit.specs.Kept.{Kept, area_of}
use Rattle.heap_gate.specs.Token.{Token, now, Always, is_out}
use Rattle.lfh_claims.specs.Search.{own_slot}
use Rattle.lfh_spans.specs.Subsegments.{IsBackOf}
use Rattle.lfh_search.specs.declared.course.Course.{Course}
use Rattle.lfh_search.specs.Descriptors.{head_mask, head_mark}
use Rattle.lfh_search.specs.Acts.{by, is_reading, AreReadings, losses}
use Rattle.lfh_search.specs.Standing.{dried, stage_onto}
use Rattle.lfh_search.specs.Results.{Went, WaitsInside, HasPlaced, IsBeaten}
use Rattle.lfh_search.specs.Readings.{KnowsHint, IsDried}
use Rattle.lfh_search.specs.Passes.{IsOfPass, IsPassing, IsThere, HasPassed, HasPassedTo}
use Rattle.lfh_search.proofs.Steps.{readings-append}
use Rattle.lfh_search.proofs.Words.{left, before, back_on, went_then}
use Rattle.lfh_search.proofs.Seen.{waits_none}
use Rattle.lfh_search.proofs.Placing.{placed_then}
use Rattle.lfh_search.proofs.WordLoop.{losses-append}
use Rattle.lfh_search.proofs.Subsegment.{Same, same_on, slot_on}
use Rattle.lfh_search.proofs.Passing.{here, read_on, not_between}

pub span_left : (s : Setting) (n : ℕ) (its : List Act) (m : Configuration) → AreReadings its → ((configuration_after s m (by n its)).now.calls n).no_span ≡ (m.now.calls n).no_span
span_left s n [] m are = refl
span_left s n (act ∷ rest) m are = span_left s n rest (after s m (entry n act)) are.1 ∙ one act are.0
  where
    step : (f : SearchKey → Search → Search) (o : Option ℕ) → (step_search s n (m.now.calls n) f o).no_span ≡ (m.now.calls n).no_span
    step f None = refl
    step f (Some x) = refl

    one : (act : Act) → is_reading act ≡ true → ((after s m (entry n act)).now.calls n).no_span ≡ (m.now.calls n).no_span
    one (acts.Saw head word bits) i = let e = eq-eqb n n refl in rw e (step (λ g f. after_saw g f head word bits) (asked_bucket (m.now.calls n)))
    one (acts.Lost head index) i = let e = eq-eqb n n refl in rw e (step (λ g f. after_lost f) (asked_bucket (m.now.calls n)))
    one (acts.NoHint bucket slot) i = let e = eq-eqb n n refl in rw e (step (λ g f. after_no_hint f) (asked_bucket (m.now.calls n)))
    one _ i = absurd (false≢true i)

-- what a pass needs beside its search
pub record Holding (c : Token) (back : Kept) (x : Stage) : Type 0 where
  pub back_is : IsBackOf c back
  pub out : is_out whats.Back c.out ≡ true
  pub of_pass : IsOfPass c x
  pub waits : WaitsInside c

pub kept_on : (c e : Token) (back : Kept) (its : List Act) → AreReadings its → (y : Stage) → Went c e its → KnowsHint c → Holding c back y → Holding e back y
kept_on c e back [] are y w k h = subst (λ (t : Token). Holding t back y) (sym w) h
kept_on c e back (x ∷ its) are y w k h = record {
  back_is = λ s q.
      let b = h.back_is s (before c e (x ∷ its) are w.0 s q) in
      record { lock = b.lock; limits = b.limits ∙ ap (λ (o : Opening). o.limits) (sym w.0.does.opening); part = b.part ∙ ap sorted_back (sym (back_on c e (x ∷ its) are w.0 k.held s q)) };
  out = ap (is_out whats.Back) w.1.out ∙ h.out;
  of_pass = by y h.of_pass;
  waits = waits_none e w.1.prepared;
}
  where
    vs : Always c (λ s. holds (now s c).state.gate c.number whats.Vs ≡ true) → Always e (λ s. holds (now s e).state.gate e.number whats.Vs ≡ true)
    vs v s q =
        ap (λ (n : ℕ). holds (now s e).state.gate n whats.Vs) w.0.does.number
        ∙ ((w.0.agrees s q).locks whats.Vs
        ∙ (ap (λ (z : State). holds z.gate c.number whats.Vs) (left s c.number (x ∷ its) (now s c) are).0 ∙ v s (before c e (x ∷ its) are w.0 s q)))

    fresh : Always c (λ s. ((now s c).now.calls c.number).no_span ≡ false) → Always e (λ s. ((now s e).now.calls e.number).no_span ≡ false)
    fresh v s q =
        ap (λ (n : ℕ). ((now s e).now.calls n).no_span) w.0.does.number
        ∙ (ap (λ (z : CallState). z.no_span) (w.0.agrees s q).call
        ∙ (span_left s c.number (x ∷ its) (now s c) are ∙ v s (before c e (x ∷ its) are w.0 s q)))

    by : (z : Stage) → IsOfPass c z → IsOfPass e z
    by SecondPass v = vs v
    by NotBegun v = fresh v
    by AtHint v = fresh v
    by FirstPass v = fresh v

pub kept_of : (c : Token) (back : Kept) (course : Course) (f : Search) (from lost : ℕ) → IsPassing c back course f from lost → Holding c back f.stage
kept_of c back course f from lost z = record { back_is = z.back_is; out = z.out; of_pass = z.of_pass; waits = z.waits }

---- Between subsegments

pub record Goes (old c : Token) (back : Kept) (course : Course) (lost from so_far : ℕ) : Type 0 where
  pub its : List Act
  pub are : AreReadings its
  pub went : Went old c its
  pub count : lost + losses its ≡ so_far
  pub search : Search
  pub passing : IsPassing c back course search from so_far

pub record IsBetweenSpans (old c : Token) (back : Kept) (course : Course) (lost from so_far : ℕ) : Type 0 where
  pub same : Same old c
  pub goes : (f : Search) → IsPassing old back course f 0 lost → Goes old c back course lost from so_far

pub begins : (c : Token) (back : Kept) (course : Course) (lost : ℕ) → c.whole ≡ true → c.inside ≡ true → IsBetweenSpans c c back course lost 0 lost
begins c back course lost w i = record {
  same = record { table = refl; opening = refl; whole = w; inside = i; slot = refl };
  goes = λ f z. record { its = []; are = tt; went = refl; count = omega arith; search = f; passing = z };
}

module _ (old c : Token) (back : Kept) (course : Course) (lost from so_far : ℕ) (y : Same old c) (z : Goes old c back course lost from so_far) (whole : IsWhole back.words) (small : course.bucket < 256) (e : Token) (page : ℕ) (m : IsFirstMatch back.words head_mask (head_mark course.bucket (own_slot c)) from page) where
  pub claimed : (i : ℕ) → HasPlaced c e course.bucket page i → HasPassedTo old e back course.bucket page i
  claimed i x = let w = here c back course z.search from so_far z.passing whole small page m in record {
    placed = placed_then old c e course.bucket page i z.its z.are z.went y.slot x;
    there = subst (λ (t : ℕ). IsThere (area_of back) course.bucket t page) y.slot (record { span = w.0; there = w.1; begins = w.2 });
  }

  pub beaten : IsBeaten c e course.bucket course.draw.value so_far → IsBeaten old e course.bucket course.draw.value lost
  beaten x = record {
    its = z.its ++ x.its;
    are = readings-append z.its x.its z.are x.are;
    went = went_then old c e z.its x.its x.are z.went x.went;
    search = x.search;
    searching = x.searching;
    eight = x.eight;
    picked = x.picked;
    count = let p = losses-append z.its x.its in let q = z.count in let r = x.count in omega (arith, p, q, r);
  }

  module _ (more : ℕ) (x : IsDried c e course.bucket course.draw.value z.search page so_far more) where
    kept : Holding e back z.search.stage
    kept = kept_on c e back x.its x.are z.search.stage x.went z.passing.hint (kept_of c back course z.search from so_far z.passing)

    same_slot : own_slot e ≡ own_slot c
    same_slot = slot_on c e x.its x.are x.went course.bucket course.draw.value z.search z.passing.searching

    begun : (s : Stage) → has_not_begun (stage_onto s) ≡ false
    begun NotBegun = refl
    begun AtHint = refl
    begun FirstPass = refl
    begun SecondPass = refl

    onto_pass : (s : Stage) → IsOfPass e s → IsOfPass e (stage_onto s)
    onto_pass NotBegun h = h
    onto_pass AtHint h = h
    onto_pass FirstPass h = h
    onto_pass SecondPass h = h

    pub still : Same old e
    still = same_on old c e x.its x.are x.went course.bucket course.draw.value z.search z.passing.searching y

    pub goes_on : Goes old e back course lost (page + 1) more
    goes_on = record {
      its = z.its ++ x.its;
      are = readings-append z.its x.its z.are x.are;
      went = went_then old c e z.its x.its x.are z.went x.went;
      count = let p = losses-append z.its x.its in let q = z.count in let r = x.count in omega (arith, p, q, r);
      search = dried z.search course.bucket page more;
      passing = record {
        searching = x.searching;
        lost_is = refl;
        few = x.few;
        picked = refl;
        ended = refl;
        begun = begun z.search.stage;
        read = λ w i.
            let i' = subst (λ (t : ℕ). IsOneOf w (spans_of (area_of back) course.bucket t)) same_slot i in
            read_on z.search course.bucket page from more w z.passing.begun m.from (z.passing.read w i') (not_between c back course z.search from so_far z.passing whole small page m w i');
        back_is = kept.back_is;
        out = kept.out;
        of_pass = onto_pass z.search.stage kept.of_pass;
        hint = x.hint kept.out;
        waits = kept.waits;
      };
    }

-- all were read
pub passed : (old c : Token) (back : Kept) (course : Course) (lost from so_far : ℕ) (z : Goes old c back course lost from so_far) → ((x : Span) → IsOneOf x (spans_of (area_of back) course.bucket (own_slot c)) → x.first < from) → HasPassed old c back course lost so_far
passed old c back course lost from so_far z all = record { its = z.its; are = z.are; went = z.went; count = z.count; from = from; search = z.search; passing = z.passing; all = all }

---- What the scan of the words tells

pub match_is : (words words' : List ℕ) (mark b slot t from page : ℕ) → words ≡ words' → mark ≡ head_mark b slot → slot ≡ t → IsFirstMatch words head_mask mark from page → IsFirstMatch words' head_mask (head_mark b t) from page
match_is words words' mark b slot t from page e f g h = subst (λ (x : List ℕ × ℕ). IsFirstMatch x.0 head_mask x.1 from page) (λ j. (e j, (f ∙ ap (head_mark b) g) j)) h

pub none_is : (words words' : List ℕ) (mark b slot t from : ℕ) → words ≡ words' → mark ≡ head_mark b slot → slot ≡ t → NoneMatches words head_mask mark from (length words) → NoneMatches words' head_mask (head_mark b t) from (length words')
none_is words words' mark b slot t from e f g h = subst (λ (x : List ℕ × ℕ). NoneMatches x.0 head_mask x.1 from (length x.0)) (λ j. (e j, (f ∙ ap (head_mark b) g) j)) h

-- the pages are those of the heap
pub page_there : (c : Token) (back : Kept) (page : ℕ) → IsBackOf c back → IsSound back → page < length back.words → page < 256 * c.opening.limits.segments
page_there c back page b s l =
    let e : length back.words ≡ 256 * c.opening.limits.segments = s.pages ∙ (ap (λ (n : ℕ). 256 * n) s.segments ∙ ap (λ (x : Limits). 256 * x.segments) (b (setting_of c.opening c.roll) (some_setting c.opening c.roll)).limits) in
    subst (λ (n : ℕ). page < n) e l
