use Rattle.std.proofs.Common.{◌≡◌, ℕ, ◌==◌, [], Some, None, refl, sym, ap, ◌∙◌, subst, arith, inl, inr}
use Rattle.std.specs.Prelude.{Option, unwrap_or, if◌then◌else◌}
use Rattle.std.proofs.lemmas.Bool.{cases_Bool, eqb-true}
use Rattle.heap_model.specs.Limits.{AreValid}
use Rattle.heap_model.specs.declared.Opening.{Opening}
use Rattle.heap_model.specs.declared.What.TheVariants as whats
use Rattle.heap_gate.specs.Token.{now}
use Rattle.claim_rule.specs.Places.{hint_at}
use Rattle.claim_rule.specs.Shown.{hint_word, owed_or}
use Rattle.lfh_spans.proofs.Joined.{has_back_by, setting_of_old}
use Rattle.lfh_spans.proofs.hint_under_back.Goals as goal

pub named-requires : goal.named-requires
named-requires g c =
    let v = subst AreValid (c.limits-bounds.ensures.limits ∙ ap (λ (o : Opening). o.limits) (sym c.requires.table.1 ∙ sym c.look_hint.ensures.runs.does.opening)) c.limits-bounds.ensures.valid in
    let s = v.segments in let l = c.look_hint.ensures.small in omega arith

unwrapped : (word : ℕ) → unwrap_or (if word == 0 then None else Some word) 0 ≡ word
unwrapped word = elim (cases_Bool (word == 0)) [ inl e ↦ rw e (sym (eqb-true word 0 e)) | inr e ↦ rw e refl ]

pub returns : goal.returns
returns g c =
    let a = c.args.c.now in let b = c.look_hint.new.c in let word = c.look_hint.result in let x = c.look_hint.ensures.runs in
    record {
      runs = x;
      stands = c.look_hint.ensures.stands;
      word = λ s q.
          let held = (x.agrees s q).locks whats.Back ∙ has_back_by a c.check.ensures.stands c.requires.back s (setting_of_old a b [] x.does s q) in
          ap (λ (o : Option ℕ). unwrap_or o 0) c.named.ensures ∙ (unwrapped word
          ∙ subst (λ (t : ℕ). word ≡ owed_or a.owes (hint_at c.args.bucket t) (hint_word (now s b).state.back.area (now s b).now.span_history c.args.bucket t)) c.slot-slot.ensures ((c.look_hint.ensures.word s q).mine held));
    }
