-- Rows of the table: the one that has an address, and the one that a new block gets.
use Rattle.std.proofs.Common.{◌≡◌, ℕ, suc, ◌+◌, ◌-◌, ◌*◌, ◌<◌, ◌≤◌, true, false, List, [], ◌∷◌, ◌++◌, length, take, drop, set, get_or, map, Option, Some, refl, sym, ap, ◌∙◌, subst, arith, eqb, ltb, inl, inr}
use Rattle.std.specs.Prelude.{IsSome, insert, remove}
use Rattle.std.specs.List.{find, position, position_or_len}
use Rattle.std.proofs.Math.Seq.{drop-cons, take-append_seam, drop-append_seam, set-append_seam}
use Rattle.std.proofs.lemmas.Bool.{cases_Bool, ne_eqb, eq-eqb, eqb-true, lt-ltb, le-ltb}
use Rattle.std.proofs.lemmas.List.{length-append, take-append-drop}
use Rattle.heap_model.specs.declared.Limits.{Limits}
use Rattle.heap_model.specs.Geometry.{pages_of}
use Rattle.heap_model.specs.State.{Place, insert_place, change_found, remove_found}
use Rattle.large_blocks.specs.declared.LargeBlock.{LargeBlock}
use Rattle.large_blocks.specs.Table.{place_of, is_at, insert_block, with_bytes}
use Rattle.large_blocks.specs.Sound.{page_of, end_of, AreLaid, IsRow, page_behind, reach_at}
use Rattle.large_blocks.proofs.Laid.{some_pages, laid_at, laid_without, laid_resized}

---- The row of an address

row_of : (bs : List LargeBlock) (addr : ℕ) → IsSome (find (is_at addr) bs) → IsRow bs addr (position_or_len (is_at addr) bs)
row_of [] addr h = absurd (let z : ⊥ = cc in z)
row_of (b ∷ bs) addr h = elim (cases_Bool (eqb b.addr addr)) [
  | inl e ↦ rw e (record { front = []; block = b; back = bs; rows = refl; index_is = refl; there = eqb-true b.addr addr e })
  | inr e ↦
      let r = row_of bs addr (rw e at h) in
      let n = r.index_is in
      rw e (record { front = b ∷ r.front; block = r.block; back = r.back; rows = ap (λ (cs : List LargeBlock). b ∷ cs) r.rows; index_is = omega arith; there = r.there })
]

not_past : (bs : List LargeBlock) (addr : ℕ) → IsSome (find (is_at addr) bs) → position_or_len (is_at addr) bs < length bs
not_past [] addr h = absurd (let z : ⊥ = cc in z)
not_past (b ∷ bs) addr h = elim (cases_Bool (eqb b.addr addr)) [
  | inl e ↦ rw e (omega arith)
  | inr e ↦ let r = not_past bs addr (rw e at h) in rw e (omega arith)
]

position_is : (bs : List LargeBlock) (addr : ℕ) → IsSome (find (is_at addr) bs) → position (is_at addr) bs ≡ Some (position_or_len (is_at addr) bs)
position_is bs addr h = let e = lt-ltb (position_or_len (is_at addr) bs) (length bs) (not_past bs addr h) in rw e refl

pub row_is_some : (bs : List LargeBlock) (addr : ℕ) (o : Option ℕ) → o ≡ position (is_at addr) bs → IsSome (find (is_at addr) bs) → IsSome o
row_is_some bs addr o e h = let f = e ∙ position_is bs addr h in rw f refl

pub row_is_found : (bs : List LargeBlock) (addr : ℕ) (o : Option ℕ) (index : ℕ) → o ≡ position (is_at addr) bs → IsSome (find (is_at addr) bs) → o ≡ Some index → IsRow bs addr index
row_is_found bs addr o index e h f =
    let g : Some (position_or_len (is_at addr) bs) ≡ Some index = sym (position_is bs addr h) ∙ sym e ∙ f in
    let i : position_or_len (is_at addr) bs ≡ index = cc in
    subst (IsRow bs addr) i (row_of bs addr h)

-- rows in front of a block have another address
module _ (l : Limits) (b : LargeBlock) (ys : List LargeBlock) where
  other_address : (x : LargeBlock) (from : ℕ) (xs : List LargeBlock) → AreLaid l from (x ∷ xs ++ b ∷ ys) → eqb x.addr b.addr ≡ false
  other_address x from xs a =
      let r = (laid_at l (end_of l x) xs b ys a.1).0 in
      let k = r.behind in
      let n = some_pages x.size a.0.huge in
      ne_eqb x.addr b.addr (λ e. let u = a.0.aligned in let v = r.aligned in clash (page_of l x) (page_of l b) (pages_more k n) (sym u ∙ e ∙ v))
    where
      pages_more : {p n q : ℕ} → p + n ≤ q → 128 ≤ n → p < q
      pages_more k n = omega arith

      clash : (p q : ℕ) → p < q → 4096 * (256 * l.segments + p) ≡ 4096 * (256 * l.segments + q) → ⊥
      clash p q h e = omega arith

  here : eqb b.addr b.addr ≡ true
  here = eq-eqb b.addr b.addr refl

  found_row : (from : ℕ) (xs : List LargeBlock) → AreLaid l from (xs ++ b ∷ ys) → find (is_at b.addr) (xs ++ b ∷ ys) ≡ Some b
  found_row from [] a = let h = here in rw h refl
  found_row from (x ∷ xs) a = let e = other_address x from xs a in rw e (found_row (end_of l x) xs a.1)

  removed_row : (from : ℕ) (xs : List LargeBlock) → AreLaid l from (xs ++ b ∷ ys) → remove_found (is_at b.addr) (xs ++ b ∷ ys) ≡ xs ++ ys
  removed_row from [] a = let h = here in rw h refl
  removed_row from (x ∷ xs) a = let e = other_address x from xs a in rw e (ap (λ (cs : List LargeBlock). x ∷ cs) (removed_row (end_of l x) xs a.1))

  changed_row : (f : LargeBlock → LargeBlock) (from : ℕ) (xs : List LargeBlock) → AreLaid l from (xs ++ b ∷ ys) → change_found (is_at b.addr) f (xs ++ b ∷ ys) ≡ xs ++ f b ∷ ys
  changed_row f from [] a = let h = here in rw h refl
  changed_row f from (x ∷ xs) a = let e = other_address x from xs a in rw e (ap (λ (cs : List LargeBlock). x ∷ cs) (changed_row f (end_of l x) xs a.1))

module _ (l : Limits) (bs : List LargeBlock) (addr index : ℕ) (r : IsRow bs addr index) (a : AreLaid l 0 bs) where
  laid_rows : AreLaid l 0 (r.front ++ r.block ∷ r.back)
  laid_rows = subst (AreLaid l 0) r.rows a

  pub row_inside : index < length bs
  row_inside = let e = ap length r.rows ∙ length-append r.front (r.block ∷ r.back) in let f = r.index_is in omega arith

  pub row_found : find (is_at addr) bs ≡ Some r.block
  row_found = let e = r.rows in let f = r.there in rw e (subst (λ (x : ℕ). find (is_at x) (r.front ++ r.block ∷ r.back) ≡ Some r.block) f (found_row l r.block r.back 0 r.front laid_rows))

  pub row_rest : drop index bs ≡ r.block ∷ r.back
  row_rest = go r.rows r.index_is
    where
      go : bs ≡ r.front ++ r.block ∷ r.back → length r.front ≡ index → drop index bs ≡ r.block ∷ r.back
      go e f = rw (e, ← f) (drop-append_seam r.front (r.block ∷ r.back))

  pub row_item : (d : LargeBlock) → get_or bs index d ≡ r.block
  row_item d = let e : drop index bs ≡ get_or bs index d ∷ drop (suc index) bs = drop-cons bs index d row_inside in let f = row_rest in cc

  removed_by : remove bs index ≡ r.front ++ r.back
  removed_by = go r.rows r.index_is
    where
      go : bs ≡ r.front ++ r.block ∷ r.back → length r.front ≡ index → remove bs index ≡ r.front ++ r.back
      go e f =
          let t : take (length r.front) (r.front ++ r.block ∷ r.back) ≡ r.front = take-append_seam r.front (r.block ∷ r.back) in
          let d : drop (suc (length r.front)) (r.front ++ r.block ∷ r.back) ≡ r.back = behind r.front in
          rw (e, ← f) (rw (t, d) refl)
        where
          behind : (xs : List LargeBlock) → drop (suc (length xs)) (xs ++ r.block ∷ r.back) ≡ r.back
          behind [] = refl
          behind (x ∷ xs) = behind xs

  pub row_removed : remove bs index ≡ remove_found (is_at addr) bs
  row_removed =
      let e = r.rows in
      let f = r.there in
      removed_by ∙ sym (subst (λ (x : ℕ). remove_found (is_at x) bs ≡ r.front ++ r.back) f (rw e (removed_row l r.block r.back 0 r.front laid_rows)))

  pub removed_laid : AreLaid l 0 (remove bs index)
  removed_laid = subst (AreLaid l 0) (sym removed_by) (laid_without l 0 r.front r.block r.back laid_rows)

  set_by : (n : ℕ) → set bs index (with_bytes n r.block) ≡ r.front ++ with_bytes n r.block ∷ r.back
  set_by n = go r.rows r.index_is
    where
      go : bs ≡ r.front ++ r.block ∷ r.back → length r.front ≡ index → set bs index (with_bytes n r.block) ≡ r.front ++ with_bytes n r.block ∷ r.back
      go e f = rw (e, ← f) (set-append_seam r.front r.block r.back (with_bytes n r.block))

  pub row_changed : (n : ℕ) → set bs index (with_bytes n r.block) ≡ change_found (is_at addr) (with_bytes n) bs
  row_changed n =
      let e = r.rows in
      let f = r.there in
      set_by n ∙ sym (subst (λ (x : ℕ). change_found (is_at x) (with_bytes n) bs ≡ r.front ++ with_bytes n r.block ∷ r.back) f (rw e (changed_row l r.block r.back (with_bytes n) 0 r.front laid_rows)))

  pub changed_laid : (n : ℕ) → 520193 ≤ n → pages_of n ≤ reach_at l (drop index bs) → AreLaid l 0 (set bs index (with_bytes n r.block))
  changed_laid n h m =
      let e = row_rest in
      let k : pages_of n ≤ page_behind l r.back - page_of l r.block = rw e at m in
      let p = some_pages n h in
      subst (AreLaid l 0) (sym (set_by n)) (laid_resized l 0 r.front r.block r.back n laid_rows h (omega arith))

---- The row of a new block

-- a block in front of others that is placed among them
pub inserted_row : (l : Limits) (b : LargeBlock) (ys : List LargeBlock) (from : ℕ) (xs : List LargeBlock) → AreLaid l from (xs ++ b ∷ ys) → insert_block b (xs ++ ys) ≡ xs ++ b ∷ ys
inserted_row l b [] from [] a = refl
inserted_row l b (y ∷ ys) from [] a =
    let k = a.1.0.behind in
    let n = some_pages b.size a.0.huge in
    let u = a.0.aligned in
    let v = a.1.0.aligned in
    let e = lt-ltb b.addr y.addr (lower (page_of l b) (page_of l y) (omega arith) u v) in
    rw e refl
  where
    lower : (p q : ℕ) → p < q → b.addr ≡ 4096 * (256 * l.segments + p) → y.addr ≡ 4096 * (256 * l.segments + q) → b.addr < y.addr
    lower p q h u v = omega arith
inserted_row l b ys from (x ∷ xs) a =
    let r = (laid_at l (end_of l x) xs b ys a.1).0 in
    let k = r.behind in
    let u = a.0.aligned in
    let v = r.aligned in
    let e = le-ltb b.addr x.addr (higher (page_of l x) (page_of l b) (omega arith) u v) in
    rw e (ap (λ (cs : List LargeBlock). x ∷ cs) (inserted_row l b ys (end_of l x) xs a.1))
  where
    higher : (p q : ℕ) → p ≤ q → x.addr ≡ 4096 * (256 * l.segments + p) → b.addr ≡ 4096 * (256 * l.segments + q) → x.addr ≤ b.addr
    higher p q h u v = omega arith

pub row_inserted : (l : Limits) (bs : List LargeBlock) (index : ℕ) (b : LargeBlock) → AreLaid l 0 (insert bs index b) → insert bs index b ≡ insert_block b bs
row_inserted l bs index b a = sym (subst (λ (cs : List LargeBlock). insert_block b cs ≡ insert bs index b) (take-append-drop index bs) (inserted_row l b (drop index bs) 0 (take index bs) a))

pub inserted_place : (b : LargeBlock) (bs : List LargeBlock) → map place_of (insert_block b bs) ≡ insert_place (place_of b) (map place_of bs)
inserted_place b [] = refl
inserted_place b (c ∷ cs) = elim (cases_Bool (ltb b.addr c.addr)) [
  | inl e ↦ rw e refl
  | inr e ↦ rw e (ap (λ (ps : List Place). place_of c ∷ ps) (inserted_place b cs))
]
