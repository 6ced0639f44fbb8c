-- A round that workers play: they run its threads, and then all meet.
use Rattle.std.proofs.Common.{◌≡◌, ℕ, ◌<◌, Bool, true, false, List, [], ◌∷◌, ◌++◌, length, get_or, refl, sym, ap, ◌∙◌, subst, append_assoc, arith}
use Rattle.std.specs.Prelude.{nat_lt}
use Rattle.std.proofs.lemmas.Bool.{ltb-true, ltb-false}
use Rattle.std.proofs.lemmas.List.{append_cancel_left}
use mathlib.Core.List.{IsPrefix}
use Rattle.heap_model.specs.declared.Entry.{Entry}
use Rattle.heap_model.specs.declared.Opening.{Opening}
use Rattle.heap_model.specs.declared.Reply.{Reply}
use Rattle.heap_model.specs.CallState.{Configuration}
use Rattle.heap_model.specs.History.{own, configuration_of, configuration_after, first_configuration}
use Rattle.heap_model.specs.Moments.{Moment, moments}
use Rattle.heap_model.specs.State.{Setting}
use Rattle.heap_model.proofs.Moments.{moments-append, moments_between}
use Rattle.claim_rule.specs.declared.views.Assignment.{Assignment}
use Rattle.claim_rule.specs.Entries.{IsSettingOf}
use Rattle.claim_rule.proofs.Lists.{prefix_trans, own_between, none_between, after-append}
use Rattle.script_text.specs.ThreadLines.{ThreadLines}
use Rattle.script_text.specs.Values.{Answered}
use Rattle.name_values.specs.Table.{NameTable, Tells}
use Rattle.heap_gate.specs.Token.{HeapToken}
use Rattle.thread_rounds.specs.Threads.{answered, IsThread}
use Rattle.thread_commands.specs.Working.{Works, Runs}
use Rattle.thread_commands.specs.declared.workers.Worker.{Worker}
use Rattle.round_runs.specs.Crews.{IsAbreast, AreAbreast, AreTold}
use Rattle.round_runs.specs.Turns.{threads_of, thread_in, Keeps, HaveAllMet, AreNotShort, HasDone, Plays}

---- The moments of a caller between two histories

module _ (s : Setting) (t : ℕ) (history old new later : List Entry) (p : IsPrefix history old) (q : IsPrefix old new) (r : IsPrefix new later)
    (before : own t old ≡ own t history) (behind : own t later ≡ own t new) (added : List Entry) (goes : history ++ added ≡ later) where
  parts : added ≡ p.0 ++ (q.0 ++ r.0)
  parts =
      append_cancel_left history added (p.0 ++ (q.0 ++ r.0))
      (goes ∙ (sym r.1 ∙ (ap (λ (l : List Entry). l ++ r.0) (sym q.1) ∙ (append_assoc old q.0 r.0
      ∙ (ap (λ (l : List Entry). l ++ (q.0 ++ r.0)) (sym p.1) ∙ append_assoc history p.0 (q.0 ++ r.0))))))

  there : configuration_after s (configuration_of s history) p.0 ≡ configuration_of s old
  there = sym (after-append s first_configuration history p.0) ∙ ap (configuration_of s) p.1

  -- they are those of what the caller itself has seen meanwhile
  pub moments_cut : moments s t (configuration_of s history) added ≡ moments s t (configuration_of s old) q.0
  moments_cut =
      let m = configuration_of s history in
      ap (moments s t m) parts ∙ (moments-append s t m p.0 (q.0 ++ r.0)
      ∙ (ap (λ (l : List Moment). l ++ moments s t (configuration_after s m p.0) (q.0 ++ r.0)) (moments_between s t m [] p.0 (p.0, refl) (none_between t old history p before))
      ∙ (ap (λ (n : Configuration). moments s t n (q.0 ++ r.0)) there
      ∙ moments_between s t (configuration_of s old) q.0 (q.0 ++ r.0) (r.0, refl) (none_between t later new r behind))))

---- A round

head_of : (xs : List Worker) → 0 < length xs → Worker
head_of [] l = absurd (omega arith)
head_of (x ∷ xs) l = x

module _ (h : HeapToken) (ws mid ws' : List Worker) (round : List ThreadLines) (n1 : length mid ≡ length ws) (n2 : length ws' ≡ length mid)
    (works : (t : ℕ) (d : Worker) → t < length ws → Works h (get_or ws t d) (get_or mid t d) (thread_in round (get_or ws t d).caller.number))
    (keeps : (t : ℕ) (d : Worker) → t < length mid → Keeps h (get_or mid t d) (get_or ws' t d))
    (met : 0 < length mid → HaveAllMet mid ws') (ample : AreNotShort ws')
    (roll : List Assignment) (history : List Entry) (earlier : List (List (List Answered))) (at : AreAbreast roll history ws) (told : AreTold earlier [] ws) where
  module _ (t : ℕ) (d : Worker) (l : t < length ws) where
    abbrev a : Worker
    a = get_or ws t d

    abbrev b : Worker
    b = get_or mid t d

    abbrev c : Worker
    c = get_or ws' t d

    k : Keeps h b c
    k = keeps t d (omega (arith, n1, l))

    at_number : a.caller.number ≡ t
    at_number = (at t d l).number

    ran : Runs a b earlier (thread_in round t)
    ran = subst (λ (n : ℕ). Runs a b earlier (thread_in round n)) at_number ((works t d l).runs (sym k.short ∙ ample t d (omega (arith, n1, n2, l))) earlier (told t d l))

    number : b.caller.number ≡ t
    number = ran.goes.number ∙ at_number

    knows : IsPrefix roll b.caller.roll
    knows = prefix_trans roll a.caller.roll b.caller.roll (at t d l).knows ran.goes.roll

    begins : IsPrefix history b.caller.seen
    begins = prefix_trans history a.caller.seen b.caller.seen (at t d l).seen ran.goes.seen

    kept : own t c.caller.seen ≡ own t b.caller.seen
    kept = subst (λ (n : ℕ). own n c.caller.seen ≡ own n b.caller.seen) number k.own

    same_replies : c.replies.items ≡ b.replies.items
    same_replies = ap (λ v. v.items) k.replies

    pub named : Tells c.names earlier (answered (thread_in round t) c.replies.items)
    named =
        subst (λ (n : NameTable). Tells n earlier (answered (thread_in round t) c.replies.items)) (sym k.names)
        (subst (λ (rs : List Reply). Tells b.names earlier (answered (thread_in round t) rs)) (sym same_replies) ran.names)

    module _ (later : List Entry) (hears : IsPrefix b.caller.seen later) (heard : IsPrefix later c.caller.seen) where
      between : own t c.caller.seen ≡ own t later
      between = own_between t b.caller.seen later c.caller.seen hears heard kept

      abreast : IsAbreast roll later t c
      abreast = record { number = k.number ∙ number; knows = prefix_trans roll b.caller.roll c.caller.roll knows k.roll; seen = heard; own = between }

      done : (added : List Entry) → history ++ added ≡ later → HasDone h.opening roll history added t earlier (thread_in round t) c.replies.items
      done added goes = record {
        known = b.caller.roll;
        begins = knows;
        thread = λ s q.
            let ms = moments s t (configuration_of s a.caller.seen) ran.goes.seen.0 in
            let cut : moments s t (configuration_of s history) added ≡ ms =
            moments_cut s t history a.caller.seen b.caller.seen later (at t d l).seen ran.goes.seen hears (at t d l).own (sym between ∙ kept) added goes in
            let own_thread : IsThread s a.caller.number earlier [] 0 (thread_in round t) b.replies.items (moments s a.caller.number (configuration_of s a.caller.seen) ran.goes.seen.0) =
            ran.thread s (subst (λ (o : Opening). IsSettingOf o b.caller.roll s) (sym (works t d l).free.caller.opening) q) in
            let of_t = subst (λ (n : ℕ). IsThread s n earlier [] 0 (thread_in round t) b.replies.items (moments s n (configuration_of s a.caller.seen) ran.goes.seen.0)) at_number own_thread in
            subst (λ (xs : List Moment). IsThread s t earlier [] 0 (thread_in round t) c.replies.items xs) (sym cut)
            (subst (λ (rs : List Reply). IsThread s t earlier [] 0 (thread_in round t) rs ms) (sym same_replies) of_t);
      }

  pub plays : Plays h.opening roll ws ws' earlier (threads_of round) history
  plays = go (nat_lt 0 (length ws)) refl
    where
      go : (x : Bool) → nat_lt 0 (length ws) ≡ x → Plays h.opening roll ws ws' earlier (threads_of round) history
      go true e =
          let some : 0 < length ws = ltb-true 0 (length ws) e in
          let d0 = head_of ws some in
          let m = met (omega (arith, n1, some)) in
          let later = m.middle.caller.seen in
          let hears : (t : ℕ) (d : Worker) → t < length ws → IsPrefix (get_or mid t d).caller.seen later = λ t d l. (m.told t d (omega (arith, n1, l))).seen in
          let heard : (t : ℕ) (d : Worker) → t < length ws → IsPrefix later (get_or ws' t d).caller.seen = λ t d l. (m.heard t d (omega (arith, n1, l))).seen in
          let goes : IsPrefix history later = prefix_trans history (get_or mid 0 d0).caller.seen later (begins 0 d0 some) (hears 0 d0 some) in
          record {
            added = goes.0;
            abreast = λ t d l.
                let i : t < length ws = omega (arith, n1, n2, l) in
                subst (λ (es : List Entry). IsAbreast roll es t (get_or ws' t d)) (sym goes.1) (abreast t d i later (hears t d i) (heard t d i));
            each = λ t d l. done t d l later (hears t d l) (heard t d l) goes.0 goes.1;
            names = λ t d l. named t d l;
            none = λ z. absurd (omega (arith, some, z));
          }
      go false e =
          let none : length ws ≡ 0 = let z = ltb-false 0 (length ws) e in omega arith in
          record {
            added = [];
            abreast = λ t d l. absurd (omega (arith, n1, n2, none, l));
            each = λ t d l. absurd (omega (arith, none, l));
            names = λ t d l. absurd (omega (arith, none, l));
            none = λ z. refl;
          }
