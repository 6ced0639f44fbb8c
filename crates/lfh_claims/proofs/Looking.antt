-- A caller behind a reading that adds no entry.
use Rattle.std.proofs.Common.{◌≡◌, ℕ, ◌%◌, ◌<◌, ◌≤◌, arith, eq-eqb, ne_eqb, ◌==◌, Bool, true, false, not, [], Option, refl, sym, ap, ◌∙◌, subst}
use Rattle.atomic_table.specs.Table.{Me}
use Rattle.atomic_table.specs.Seated.{TableId}
use Rattle.rand_core.specs.Stream.{Stream}
use Rattle.heap_model.specs.State.{Setting, is_caller}
use Rattle.claim_rule.specs.declared.views.View.{View}
use Rattle.claim_rule.specs.Entries.{IsSettingOf}
use Rattle.claim_rule.specs.Rule.{ready_after}
use Rattle.claim_rule.specs.Shown.{flag}
use Rattle.claim_rule.specs.Plays.{Goes, number_of}
use Rattle.heap_gate.specs.Token.{IsCaller}
use Rattle.heap_gate.specs.Seated.{Face, tok}
use Rattle.heap_gate.proofs.Tokens.{moved_by, setting_before}
use Rattle.heap_model.specs.CallState.{Configuration}
use Rattle.lfh_buckets.specs.Blocks.{IsBucket}
use Rattle.step_parts.specs.Seen.{IsTagged, bucket_of_tag, slot_of_tag}
use Rattle.step_parts.proofs.Tags.{tag_parts}

-- the word tells the flag
pub flag_told : (b : Bool) → (flag b == 1) ≡ b
flag_told true = refl
flag_told false = refl

-- the parts of a tag are those of a bucket and of a slot
pub parts_told : (m : Configuration) (page word : ℕ) → IsTagged m page word → IsBucket (bucket_of_tag word) × (slot_of_tag word < 16)
parts_told m page word h =
    let p = tag_parts m page word h in
    (record { first = subst (λ (b : ℕ). 1 ≤ b) p.1 h.bucket.0; last = subst (λ (b : ℕ). b ≤ 128) p.1 h.bucket.1 }, subst (λ (t : ℕ). t < 16) p.2 h.slot)

-- the word that was found has the bit, or has not
pub clear_bit : (x : ℕ) → x % 2 ≡ 0 → (x % 2 == 1) ≡ false
clear_bit x z = rw z refl

pub set_bit : (x : ℕ) → (x % 2 ≡ 0 → ⊥) → (x % 2 == 1) ≡ true
set_bit x nz = let one : x % 2 ≡ 1 = omega arith in eq-eqb (x % 2) 1 one

module _ {T : Type 0} (z : TableId) (me : Me (Option T) View) (f : Face) (slot : ℕ) (stream : Stream) (h : IsCaller me (tok z me f) slot stream) (me' : Me (Option T) View) (go : Goes f.number me.0 me'.0 f.prepared []) where
  pub sooner : (s : Setting) → IsSettingOf me'.0.opening me'.0.roll s → IsSettingOf me.0.opening me.0.roll s
  sooner s q = setting_before f.number me.0 me'.0 f.prepared [] (moved_by z me f slot stream h me'.0 [] refl go) s q

  -- the caller owns the heap lock
  pub owns_it : (f.depth ≡ 0 → ⊥) → (s : Setting) → IsSettingOf me'.0.opening me'.0.roll s → is_caller (number_of me.0.role) (ready_after s me.0 f.prepared).state.gate.owner ≡ true
  owns_it nz s q = subst (λ (x : ℕ). is_caller x (ready_after s me.0 f.prepared).state.gate.owner ≡ true) (sym (ap number_of h.role)) ((h.at s (sooner s q)).owns ∙ ap not (ne_eqb f.depth 0 nz))
