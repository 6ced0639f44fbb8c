-- What the functions that move a block leave: whether it has moved, and what the states of the locks tell then.
use Rattle.std.proofs.Common.{◌≡◌, ℕ, true, Option, Some, None, refl, sym, ap, ◌∙◌, subst, inl, inr}
use Rattle.std.specs.Prelude.{IfSome, IfNone}
use Rattle.heap_model.specs.declared.Flags.{Flags}
use Rattle.heap_model.specs.State.{Place}
use Rattle.backend_fit.specs.Kept.{Kept}
use Rattle.large_blocks.specs.Table.{LargeTable}
use Rattle.vs_layer.specs.Kept.{VsKept}
use Rattle.heap_gate.specs.Token.{Token}
use Rattle.move_parts.specs.Moves.{TellsVs, TellsBack, TellsLarge}
use Rattle.move_parts.specs.Moved.{HasMovedLow, HasMovedAll, HasMovedPaged, HasMovedLarge}
use Rattle.move_parts.specs.Places.{IsWithout}
use Rattle.move_to_front.specs.Moved.{MovesOver, MovesOverLarge}
use Rattle.move_to_front.specs.declared.moves.ToFront.TheVariants.{Moved, NoFit}
use Rattle.move_calls.specs.Ends.{HasTriedIt}

pub some_then : {A : Type 0} (o : Option A) (P Q : A → Type 0) → ((x : A) → P x → Q x) → IfSome o P → IfSome o Q
some_then (Some x) P Q f h = f x h
some_then None P Q f h = tt

-- nothing has changed
module _ (k d : Token) where
  pub vs_same : (vs more : VsKept) → d ≡ k → more ≡ vs → TellsVs k vs → TellsVs d more
  vs_same vs more e f t = subst (λ (c : Token). TellsVs c more) (sym e) (subst (TellsVs k) (sym f) t)

  pub back_same : (back kept : Kept) → d ≡ k → kept ≡ back → TellsBack k back → TellsBack d kept
  back_same back kept e f t = subst (λ (c : Token). TellsBack c kept) (sym e) (subst (TellsBack k) (sym f) t)

  pub large_same : (large table : LargeTable) → d ≡ k → table ≡ large → TellsLarge k large → TellsLarge d table
  large_same large table e f t = subst (λ (c : Token). TellsLarge c table) (sym e) (subst (TellsLarge k) (sym f) t)

module _ (k d : Token) (addr size n : ℕ) (flags : Flags) (p : Place) where
  -- under the locks of VS and of the back end
  pub tried_low : (vs more : VsKept) (back kept : Kept) (o : Option ℕ) → IfSome o (λ b. HasMovedLow k d addr size n flags p b more kept) → IfNone o (IsWithout k d n × (more ≡ vs) × (kept ≡ back)) → TellsVs k vs → TellsBack k back
      → HasTriedIt k d addr size n flags p o × TellsVs d more × TellsBack d kept
  tried_low vs more back kept (Some b) x y v w = (inl x.moved, x.vs, x.back)
  tried_low vs more back kept None x y v w = (inl y.0, vs_same k d vs more y.0.same y.1 v, back_same k d back kept y.0.same y.2 w)

  -- .. and of the large area
  pub tried_all : (vs more : VsKept) (back kept : Kept) (large table : LargeTable) (o : Option ℕ) → IfSome o (λ b. HasMovedAll k d addr size n flags p b more kept table) → IfNone o (IsWithout k d n × (table ≡ large)) → IfNone o ((more ≡ vs) × (kept ≡ back))
      → TellsVs k vs → TellsBack k back → TellsLarge k large → HasTriedIt k d addr size n flags p o × TellsVs d more × TellsBack d kept × TellsLarge d table
  tried_all vs more back kept large table (Some b) x y z v w u = (inl x.moved, x.vs, x.back, x.large)
  tried_all vs more back kept large table None x y z v w u = (inl y.0, vs_same k d vs more y.0.same z.0 v, back_same k d back kept y.0.same z.1 w, large_same k d large table y.0.same y.1 u)

  -- .. where the old block was one of it
  pub tried_back : (vs more : VsKept) (back kept : Kept) (large table : LargeTable) (o : Option ℕ) → IfSome o (λ b. HasMovedAll k d addr size n flags p b more kept table) → IfNone o (IsWithout k d n × (more ≡ vs) × (kept ≡ back)) → IfNone o (table ≡ large)
      → TellsVs k vs → TellsBack k back → TellsLarge k large → HasTriedIt k d addr size n flags p o × TellsVs d more × TellsBack d kept × TellsLarge d table
  tried_back vs more back kept large table (Some b) x y z v w u = (inl x.moved, x.vs, x.back, x.large)
  tried_back vs more back kept large table None x y z v w u = (inl y.0, vs_same k d vs more y.0.same y.1 v, back_same k d back kept y.0.same y.2 w, large_same k d large table y.0.same z u)

  -- from the back end to the large area, where that of VS is held too
  pub tried_paged : (vs : VsKept) (back kept : Kept) (large table : LargeTable) (o : Option ℕ) → IfSome o (λ b. HasMovedPaged k d addr size n flags p b kept table) → IfNone o (IsWithout k d n × (table ≡ large)) → IfNone o (kept ≡ back)
      → Rattle.heap_gate.specs.Token.is_out Rattle.heap_model.specs.declared.What.TheVariants.Vs k.out ≡ true → TellsVs k vs → TellsBack k back → TellsLarge k large → HasTriedIt k d addr size n flags p o × TellsVs d vs × TellsBack d kept × TellsLarge d table
  tried_paged vs back kept large table (Some b) x y z out v w u = (inl x.moved, x.vs out vs v, x.back, x.large)
  tried_paged vs back kept large table None x y z out v w u = (inl y.0, vs_same k d vs vs y.0.same refl v, back_same k d back kept y.0.same z w, large_same k d large table y.0.same y.1 u)

  -- within the large area
  pub tried_large : (large table : LargeTable) (o : Option ℕ) → IfSome o (λ b. HasMovedLarge k d addr size n flags p b table) → IfNone o (IsWithout k d n × (table ≡ large)) → TellsLarge k large → HasTriedIt k d addr size n flags p o × TellsLarge d table
  tried_large large table (Some b) x y u = (inl x.moved, x.large)
  tried_large large table None x y u = (inl y.0, large_same k d large table y.0.same y.1 u)

  -- the caller is one of the same heap
  pub tried_table : (o : Option ℕ) → HasTriedIt k d addr size n flags p o → d.table ≡ k.table
  tried_table (Some b) (inl x) = x.rest.goes.table ∙ x.made.added.goes.table
  tried_table (Some b) (inr x) = x.goes.table
  tried_table None (inl x) = ap (λ (c : Token). c.table) x.same
  tried_table None (inr x) = x.2.goes.table

  -- to the front end, or where that has no block to VS
  pub moved_over : (vs more : VsKept) (back kept : Kept) (b : ℕ) → MovesOver k d addr size n flags p vs more back kept (Moved b) → HasTriedIt k d addr size n flags p (Some b) × TellsVs d more × TellsBack d kept
  moved_over vs more back kept b x = (inr x.0, x.1.vs, x.1.back)

  pub fits_nowhere : (vs more : VsKept) (back kept : Kept) → MovesOver k d addr size n flags p vs more back kept NoFit → HasTriedIt k d addr size n flags p None × TellsVs d more × TellsBack d kept
  fits_nowhere vs more back kept x = (inr (back, kept, x.0), x.1.vs, x.1.back)

  pub moved_over_large : (vs more : VsKept) (back kept : Kept) (large table : LargeTable) (b : ℕ) → MovesOverLarge k d addr size n flags p vs more back kept large table (Moved b)
      → HasTriedIt k d addr size n flags p (Some b) × TellsVs d more × TellsBack d kept × TellsLarge d table
  moved_over_large vs more back kept large table b x = (inr x.0, x.1.vs, x.1.back, x.2)

  pub fits_nowhere_large : (vs more : VsKept) (back kept : Kept) (large table : LargeTable) → MovesOverLarge k d addr size n flags p vs more back kept large table NoFit
      → HasTriedIt k d addr size n flags p None × TellsVs d more × TellsBack d kept × TellsLarge d table
  fits_nowhere_large vs more back kept large table x = (inr (back, kept, x.0), x.1.vs, x.1.back, x.3)
