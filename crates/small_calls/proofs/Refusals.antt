-- The refusals of an allocation, and where it stands once its first pass is spent.
use Rattle.std.proofs.Common.{◌≡◌, ◌⊎◌, ℕ, Bool, ◌∙◌, inl, inr}
use Rattle.heap_model.specs.declared.AllocNo.{AllocNo}
use Rattle.heap_model.specs.declared.AllocNo.TheVariants as alloc_nos
use Rattle.heap_gate.specs.Token.{Token}
use Rattle.vs_layer.specs.Kept.{VsKept}
use Rattle.small_calls.specs.Ways.{IsSpent, IsSpentUnderVs}
use Rattle.small_calls.specs.ByVs.{IsRefusedByVs}
use Rattle.small_calls.specs.Served.{IsRefusedSmall}

pub refused_any : (n : ℕ) (a f : Token) (why : AllocNo) → IsRefusedByVs n a f why → IsRefusedSmall n a f why
refused_any n a f alloc_nos.NoFit r = r
refused_any n a f (alloc_nos.Busy busy) r = inl r

-- the table and the opening stay
pub spent_table : (a f : Token) (n b d lost : ℕ) (zero_it : Bool) → IsSpent a f n zero_it b d lost → (f.table ≡ a.table) × (f.opening ≡ a.opening)
spent_table a f n b d lost zero_it s = (s.spent.runs.does.table ∙ s.goes.table, s.spent.runs.does.opening ∙ s.goes.opening)

pub with_vs_table : (a f : Token) (n b d lost : ℕ) (zero_it : Bool) (vs : VsKept) → IsSpentUnderVs a f n zero_it b d lost vs → (f.table ≡ a.table) × (f.opening ≡ a.opening)
with_vs_table a f n b d lost zero_it vs s = (s.spent.spent.runs.does.table ∙ s.goes.table, s.spent.spent.runs.does.opening ∙ s.goes.opening)

pub widened : (A B C : Type 0) → A ⊎ B → A ⊎ B ⊎ C
widened A B C (inl x) = inl x
widened A B C (inr y) = inr (inl y)
