-- What a caller knows of the others behind any load: each has a slot of the heap, and nobody else has an entry in the list.
use Rattle.std.specs.Prelude.{◌≡◌, ℕ, true, List, [], length, Option}
use Rattle.atomic_table.specs.Table.{Step, Me}
use Rattle.heap_model.specs.declared.Entry.{Entry}
use Rattle.claim_rule.specs.declared.views.View.{View}
use Rattle.claim_rule.specs.Entries.{have_slots, is_named}
use Rattle.claim_rule.specs.Plays.{Goes, number_of}

module _ {T : Type 0} (es : List Entry) (st : Step (Option T)) (m : Me (Option T) View) (r : ℕ) (m' : Me (Option T) View) where
  -- a word was read, and no entry added
  pub record heard_callers : Type 0 where
    pub goes : Goes (number_of m.0.role) m.0 m'.0 es []
    pub slot : m'.1 ≡ m.1
    pub owes : m'.0.owes ≡ m.0.owes
    pub slots : have_slots m'.0.opening.limits.slots m'.0.roll ≡ true
    pub names : is_named (length m'.0.roll) m'.0.seen ≡ true
