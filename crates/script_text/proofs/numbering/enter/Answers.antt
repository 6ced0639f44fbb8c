use Rattle.std.proofs.Common.{rules, ◌≡◌, ℕ, subst, Some}
use Rattle.std.specs.BTreeMap.{BTreeMap, Updates}
use Rattle.std.specs.BTreeMap.Entry.{map_with_value}
use Rattle.script_text.specs.Keys.{key_cmp}
use Rattle.script_text.proofs.numbering.enter.Goals as goal

moved : (old m n : BTreeMap (ℕ × ℕ) ℕ) (k : ℕ × ℕ) (v : ℕ) → m ≡ n → Updates key_cmp old m k (Some v) → Updates key_cmp old n k (Some v)
moved old m n k v e u = subst (λ z. Updates key_cmp old z k (Some v)) e u

pub returns-clause-update : goal.returns-clause-update
returns-clause-update c =
    let n = c.or_insert-number.result.now in
    moved c.args.numbers.now (map_with_value c.in_ok-numbers.field-0 n) c.numbers-3-1.given.0 c.args.key n (search rules) (c.in_ok-numbers.ensures.update.0 n)
