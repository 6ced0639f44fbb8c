-- A pass under Back begins, when the hint was read.
use Rattle.std.proofs.Common.{◌≡◌, ℕ, ◌+◌, ◌*◌, ◌<◌, ◌==◌, Bool, true, false, List, [], Option, sym, ap, ◌∙◌, arith}
use Rattle.std.specs.Prelude.{unwrap_or}
use Rattle.std.specs.List.{list_any}
use Rattle.std.proofs.lemmas.Bool.{le-ltb}
use Rattle.heap_model.specs.declared.Act.{Act}
use Rattle.heap_model.specs.declared.Opening.{Opening}
use Rattle.heap_model.specs.declared.What.TheVariants as whats
use Rattle.heap_model.specs.Layers.{sorted_back}
use Rattle.heap_model.specs.State.{Setting, State, holds}
use Rattle.heap_model.specs.CallState.{CallState, Search, Stage, NotBegun, AtHint, FirstPass, SecondPass}
use Rattle.claim_rule.specs.Entries.{IsSettingOf, setting_of}
use Rattle.claim_rule.specs.Shown.{hint_word, owed_or}
use Rattle.claim_rule.proofs.Advance.{some_setting}
use Rattle.backend_fit.specs.Kept.{Kept}
use Rattle.heap_gate.specs.Token.{Token, now, Always, is_out, IsStanding}
use Rattle.heap_gate.specs.Calls.{Runs}
use Rattle.lfh_claims.specs.Search.{sought, own_slot}
use Rattle.lfh_spans.specs.Hints.{ReadsHint}
use Rattle.lfh_spans.specs.Subsegments.{IsBackOf}
use Rattle.lfh_search.specs.declared.course.Course.{Course}
use Rattle.lfh_search.specs.Acts.{by, AreReadings}
use Rattle.lfh_search.specs.Results.{Searches}
use Rattle.lfh_search.specs.Readings.{KnowsHint}
use Rattle.lfh_search.specs.Passes.{IsOfPass, IsPassing}
use Rattle.lfh_search.specs.Under.{IsUnder}
use Rattle.lfh_search.proofs.Words.{left, before, sought_is, same_slot, searches_on, held_on, back_on}
use Rattle.lfh_search.proofs.Seen.{waits_none}
use Rattle.lfh_search.proofs.Passed.{span_left}

---- What readings leave

module _ (c e : Token) (its : List Act) (are : AreReadings its) (r : Runs c e (by c.number its)) where
  pub said_on : (x : Bool) → Always c (λ s. ((now s c).now.calls c.number).no_span ≡ x) → Always e (λ s. ((now s e).now.calls e.number).no_span ≡ x)
  said_on x v s q =
      ap (λ (n : ℕ). ((now s e).now.calls n).no_span) r.does.number
      ∙ (ap (λ (z : CallState). z.no_span) (r.agrees s q).call
      ∙ (span_left s c.number its (now s c) are ∙ v s (before c e its are r s q)))

  vs_on : Always c (λ s. holds (now s c).state.gate c.number whats.Vs ≡ true) → Always e (λ s. holds (now s e).state.gate e.number whats.Vs ≡ true)
  vs_on v s q =
      ap (λ (n : ℕ). holds (now s e).state.gate n whats.Vs) r.does.number
      ∙ ((r.agrees s q).locks whats.Vs
      ∙ (ap (λ (z : State). holds z.gate c.number whats.Vs) (left s c.number its (now s c) are).0 ∙ v s (before c e its are r s q)))

  pub of_pass_on : (y : Stage) → IsOfPass c y → IsOfPass e y
  of_pass_on SecondPass v = vs_on v
  of_pass_on NotBegun v = said_on false v
  of_pass_on AtHint v = said_on false v
  of_pass_on FirstPass v = said_on false v

  pub back_of_on : (back : Kept) → Always c (λ s. holds (now s c).state.gate c.number whats.Back ≡ true) → IsBackOf c back → IsBackOf e back
  back_of_on back k h s q =
      let b = h s (before c e its are r s q) in
      record { lock = b.lock; limits = b.limits ∙ ap (λ (o : Opening). o.limits) (sym r.does.opening); part = b.part ∙ ap sorted_back (sym (back_on c e its are r k s q)) }

-- the holder of Back
pub holds_back : (c : Token) → IsStanding c → is_out whats.Back c.out ≡ true → Always c (λ s. holds (now s c).state.gate c.number whats.Back ≡ true)
holds_back c st out s q = (st s q).locks whats.Back ∙ out

-- who reads the word of its hint knows it
module _ (c e : Token) (b d : ℕ) (f : Search) (h : Searches c b d f) (held : Always c (λ s. holds (now s c).state.gate c.number whats.Back ≡ true)) (r : Option ℕ) (x : ReadsHint c e b r) where
  slot : own_slot e ≡ own_slot c
  slot = same_slot c e [] tt x.runs b d f h

  is : sought e ≡ b
  is = sought_is e b d f (searches_on c e [] tt x.runs b d f h)

  word : (s : Setting) → IsSettingOf e.opening e.roll s → owed_or e.owes (118 + 16 * sought e + own_slot e) (hint_word (now s e).state.back.area (now s e).now.span_history (sought e) (own_slot e)) ≡ unwrap_or r 0
  word s q =
      (λ j. owed_or (x.stands.owes j) (118 + 16 * is j + slot j) (hint_word (now s e).state.back.area (now s e).now.span_history (is j) (slot j)))
      ∙ sym (x.word s q)

  pub hint_known : KnowsHint e
  hint_known = record { held = held_on c e [] tt x.runs held; known = λ _ s q. word s q ∙ sym (word (setting_of e.opening e.roll) (some_setting e.opening e.roll)) }

---- The hint was read

module _ (c e : Token) (back : Kept) (course : Course) (f : Search) (lost : ℕ) (u : IsUnder c back course f lost) (st : IsStanding c) (r : Option ℕ) (h : ReadsHint c e course.bucket r) where
  abbrev b : ℕ
  b = course.bucket

  abbrev d : ℕ
  d = course.draw.value

  held : Always c (λ s. holds (now s c).state.gate c.number whats.Back ≡ true)
  held = holds_back c st u.out

  pub searching_on : Searches e b d f
  searching_on = searches_on c e [] tt h.runs b d f u.searching

  pub slot_on : own_slot e ≡ own_slot c
  slot_on = same_slot c e [] tt h.runs b d f u.searching

  pub begins_pass : lost < 8 → IsPassing e back course f 0 lost
  begins_pass l =
      let m = u.begins l in
      record {
        searching = searching_on;
        lost_is = u.lost_is;
        few = l;
        picked = u.picked;
        ended = m.ended;
        begun = m.begun;
        read = λ x i. ap (list_any (λ (head : ℕ). head == x.first)) m.none_read ∙ sym (le-ltb x.first 0 (omega arith));
        back_is = back_of_on c e [] tt h.runs back held u.back_is;
        out = ap (is_out whats.Back) h.stands.out ∙ u.out;
        of_pass = of_pass_on c e [] tt h.runs f.stage (u.of_pass l);
        hint = hint_known c e b d f u.searching held r h;
        waits = waits_none e h.stands.prepared;
      }
