use Rattle.std.proofs.Common.{◌≡◌, ◌<◌, ◌*◌, ◌∷◌, [], sym, ◌∙◌, subst, arith, inl, inr}
use Rattle.std.proofs.lemmas.Bool.{cases_lt}
use Rattle.heap_model.specs.declared.Call.TheVariants as calls
use Rattle.heap_model.specs.declared.Opening.{Opening}
use Rattle.heap_model.specs.State.{Setting}
use Rattle.claim_rule.specs.Entries.{IsSettingOf}
use Rattle.claim_rule.specs.Places.{back_slot}
use Rattle.call_parts.proofs.Joining.{setting_before}
use Rattle.heap_gate.specs.Token.{now}
use Rattle.compact_calls.proofs.Emptying.{NoBits, looked_none, looked_runs, looked_then, no_bits_same, bits_same}
use Rattle.compact_calls.proofs.empties.has_bits.Goals as goal

pub loop-word-init : goal.loop-word-init
loop-word-init c = record { looked = looked_none c.args.c.now calls.Compact (back_slot ∷ []) c.requires.owning; none = λ s q w lt. absurd (let no : ⊥ = omega (arith, lt) in no) }

pub owner_bits-bits-requires-clause-table : goal.owner_bits-bits-requires-clause-table
owner_bits-bits-requires-clause-table c = let g = c.loop-word.invariant.looked.did.goes in (g.table ∙ c.requires.table.0, g.opening ∙ c.requires.table.1)

pub owner_bits-bits-requires-clause-whole : goal.owner_bits-bits-requires-clause-whole
owner_bits-bits-requires-clause-whole c = c.loop-word.invariant.looked.did.owning.whole

pub owner_bits-bits-requires-clause-owner : goal.owner_bits-bits-requires-clause-owner
owner_bits-bits-requires-clause-owner c = c.loop-word.invariant.looked.did.owning.owns

pub owner_bits-bits-requires-clause-there : goal.owner_bits-bits-requires-clause-there
owner_bits-bits-requires-clause-there c =
    (subst (λ (o : Opening). c.args.head < 256 * o.limits.segments) (sym c.loop-word.invariant.looked.did.goes.opening) c.requires.there, c.loop-word-test.true)

pub loop-word-preserved : goal.loop-word-preserved
loop-word-preserved c =
    let i = c.loop-word.invariant in let start = c.args.c.now in let old = c.loop-word.c in let new = c.owner_bits-bits.new.c in let head = c.args.head in let word = c.loop-word.word in
    let l = looked_runs old new calls.Compact (back_slot ∷ []) c.check.ensures.stands i.looked.did.owning c.owner_bits-bits.ensures.runs c.owner_bits-bits.ensures.stands in
    let here : (s : Setting) → IsSettingOf new.opening new.roll s → NoBits (now s old) head word = λ s q x ix at. sym ((c.owner_bits-bits.ensures.bits s q).bits x ix at) ∙ c.if-bits-ne0.false in
    record {
      looked = looked_then start old new calls.Compact (back_slot ∷ []) i.looked l;
      none = λ s q w lt. elim (cases_lt w word) [
        | inl b ↦ no_bits_same (now s new) (now s old) head w (l.heap s q) (i.none s (setting_before old new [] l.did.goes s q) w b)
        | inr b ↦ no_bits_same (now s new) (now s old) head w (l.heap s q) (let is : word ≡ w = omega (arith, b, lt) in subst (NoBits (now s old) head) is (here s q))
      ];
    }

pub returns-then-bits-ne0-clause-looked : goal.returns-then-bits-ne0-clause-looked
returns-then-bits-ne0-clause-looked c =
    let i = c.loop-word.invariant in let old = c.loop-word.c in let new = c.owner_bits-bits.new.c in
    looked_then c.args.c.now old new calls.Compact (back_slot ∷ []) i.looked
    (looked_runs old new calls.Compact (back_slot ∷ []) c.check.ensures.stands i.looked.did.owning c.owner_bits-bits.ensures.runs c.owner_bits-bits.ensures.stands)

pub returns-then-bits-ne0-clause-bits : goal.returns-then-bits-ne0-clause-bits
returns-then-bits-ne0-clause-bits c = λ s q.
    let i = c.loop-word.invariant in let old = c.loop-word.c in let new = c.owner_bits-bits.new.c in let head = c.args.head in let word = c.loop-word.word in
    let l = looked_runs old new calls.Compact (back_slot ∷ []) c.check.ensures.stands i.looked.did.owning c.owner_bits-bits.ensures.runs c.owner_bits-bits.ensures.stands in
    (word, c.loop-word-test.true, bits_same (now s new) (now s old) head word (l.heap s q) (λ x ix at z. c.if-bits-ne0.true ((c.owner_bits-bits.ensures.bits s q).bits x ix at ∙ z)))

pub returns-clause-bits : goal.returns-clause-bits
returns-clause-bits c = λ s q w lt. let l = c.loop-word-test.false in c.loop-word.invariant.none s q w (omega (arith, lt, l))
