-- A search that is spent: a subsegment may be made for it.
use Rattle.std.proofs.Common.{◌≡◌, ℕ, ◌<◌, ◌==◌, true, false, not, ◌||◌, List, [], ◌∷◌, inl, refl, sym, ap, ◌∙◌, eq-eqb}
use Rattle.std.specs.Prelude.{nat_lt, is_none, is_some}
use Rattle.std.proofs.lemmas.Bool.{and_from, or_left, or_right, lt-ltb, false≢true}
use Rattle.heap_model.specs.declared.What.TheVariants as whats
use Rattle.heap_model.specs.State.{Area, BackPart, Setting, Span, holds}
use Rattle.heap_model.specs.CallState.{CallerView, Search, Stage, NotBegun, AtHint, FirstPass, SecondPass, caller_view}
use Rattle.heap_model.specs.Search.{SearchKey, spans_of, first_of, is_read, last_read, next_span, has_not_begun, is_spent, all_read_at}
use Rattle.heap_soundness.specs.Sound.{IsOneOf}
use Rattle.claim_rule.specs.Entries.{IsSettingOf}
use Rattle.backend_fit.specs.Kept.{area_of}
use Rattle.heap_gate.specs.Token.{Token, now}
use Rattle.lfh_claims.specs.Search.{own_slot}
use Rattle.lfh_spans.specs.Subsegments.{MayMake}
use Rattle.lfh_search.specs.Laws.{EightLossesSpend, PassSpends}
use Rattle.lfh_search.specs.Standing.{key}
use Rattle.lfh_search.specs.Results.{Searches}
use Rattle.lfh_search.specs.Passes.{as_pass_at, IsOfPass}
use Rattle.lfh_search.proofs.Steps.{keyed}
use Rattle.lfh_search.proofs.Readings.{seen_by}
use Rattle.lfh_search.proofs.Heads.{none_from}

makes : (c : Token) (b d : ℕ) (f : Search) → Searches c b d f → (s : Setting) (q : IsSettingOf c.opening c.roll s)
    → is_spent (now s c).state.back.area (record (caller_view (now s c) c.number) { call = record (caller_view (now s c) c.number).call { search = f } }) (key b (own_slot c) d) ≡ true → MayMake s (now s c) c.number b d
makes c b d f h s q e =
    let x = h s q in
    record {
      seeks = x.seeks;
      spent = ap (λ (g : SearchKey). is_spent (now s c).state.back.area (caller_view (now s c) c.number) g) (keyed s (now s c) c.number b (own_slot c) d f x)
          ∙ (ap (λ (v : CallerView). is_spent (now s c).state.back.area v (key b (own_slot c) d)) (seen_by (caller_view (now s c) c.number) f x.search) ∙ e);
      drawn = sym x.draw;
      old = x.old;
    }

-- by eight lost claims
pub eight_losses_spend : EightLossesSpend
eight_losses_spend c b d f h lost st out s q = makes c b d f h s q
    (and_from (holds (now s c).state.gate c.number whats.Back) _ ((st s q).locks whats.Back ∙ out) (or_left (f.lost == 8) _ (eq-eqb f.lost 8 lost)))

empty : (from : ℕ) (xs : List Span) → ((x : Span) → IsOneOf x xs → false ≡ nat_lt x.first from) → ((x : Span) → IsOneOf x xs → x.first < from) → is_none (first_of xs) ≡ true
empty from [] r l = refl
empty from (x ∷ xs) r l = absurd (false≢true (r x (inl refl) ∙ lt-ltb x.first from (l x (inl refl))))

-- .. or by a pass
pub pass_spends : PassSpends
pass_spends c back course f from lost z all s q = makes c course.bucket course.draw.value f z.searching s q
    (and_from (holds (now s c).state.gate c.number whats.Back) _ (z.hint.held s q) (or_right (f.lost == 8) _ (and_from f.ended _ z.ended
    (ap (λ (a : Area). all_read_at a (record (caller_view (now s c) c.number) { call = record (caller_view (now s c) c.number).call { search = f } }) (key course.bucket (own_slot c) course.draw.value) f.stage) (sym (ap (λ (p : BackPart). p.area) (z.back_is s q).part)) ∙ by f.stage z.begun z.of_pass z.read))))
  where
    by : (x : Stage) → has_not_begun x ≡ false → IsOfPass c x → ((y : Span) → IsOneOf y (spans_of (area_of back) course.bucket (own_slot c)) → is_read (as_pass_at f x) y ≡ nat_lt y.first from)
        → all_read_at (area_of back) (record (caller_view (now s c) c.number) { call = record (caller_view (now s c) c.number).call { search = f } }) (key course.bucket (own_slot c) course.draw.value) x ≡ true
    by NotBegun b o r = absurd (false≢true (sym b))
    by AtHint b o r = and_from (is_none (first_of (spans_of (area_of back) course.bucket (own_slot c)))) (not ((now s c).now.calls c.number).no_span) (empty from (spans_of (area_of back) course.bucket (own_slot c)) r all) (ap not (o s q))
    by FirstPass b o r = and_from (is_none (next_span (area_of back) (key course.bucket (own_slot c) course.draw.value) f)) (not ((now s c).now.calls c.number).no_span)
        (ap is_none (none_from from (spans_of (area_of back) course.bucket (own_slot c)) (λ x. not (is_read f x)) (λ x i. ap not (r x i)) all)) (ap not (o s q))
    by SecondPass b o r = and_from (is_none (next_span (area_of back) (key course.bucket (own_slot c) course.draw.value) f)) (is_some (last_read f) || holds (now s c).state.gate c.number whats.Vs)
        (ap is_none (none_from from (spans_of (area_of back) course.bucket (own_slot c)) (λ x. not (is_read f x)) (λ x i. ap not (r x i)) all)) (or_right (is_some (last_read f)) _ (o s q))
