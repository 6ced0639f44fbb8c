-- What each call leaves: the table that it opened is the old one.
use Rattle.std.proofs.Common.{◌≡◌, ℕ, suc, ◌<◌, ◌≤◌, true, false, ◌&&◌, leb, List, [], ◌∷◌, ◌++◌, length, take, drop, set, get_or, map, Option, sym, ap, ◌∙◌, subst, arith, option_map}
use Rattle.std.specs.Prelude.{insert, remove}
use Rattle.std.specs.List.{find, refill}
use Rattle.std.proofs.Math.Seq.{drop-cons, take-length}
use Rattle.std.proofs.Math.ListN.{drop_of_length-le}
use Rattle.std.proofs.lemmas.Bool.{and_parts, leb-true}
use Rattle.std.proofs.lemmas.List.{length-append, append-nil, take-append-drop}
use Rattle.heap_model.specs.declared.Block.{Block}
use Rattle.heap_model.specs.Geometry.{pages_of}
use Rattle.heap_model.specs.State.{change_found, remove_found}
use Rattle.heap_model.specs.Ranges.{large_place}
use Rattle.large_blocks.specs.declared.LargeBlock.{LargeBlock}
use Rattle.large_blocks.specs.Table.{LargeTable, place_of, places_of, is_at, is_from, block_in, insert_block, with_blocks, with_bytes}
use Rattle.large_blocks.specs.Effects.{InEach, TellsStay, Becomes, size_at, block_from, with_block, without_block, with_length}
use Rattle.large_blocks.specs.Sound.{AreLaid, IsSound, IsRoom, IsRow, reach_at}
use Rattle.large_blocks.proofs.Laid.{laid_few}
use Rattle.large_blocks.proofs.Rows.{row_inside, row_removed, row_changed, row_item, row_inserted, removed_laid, changed_laid}
use Rattle.large_blocks.proofs.Standing.{takes, gives, resizes, stays, same_place, same_size, same_block}

---- A block given back

pub record HasGiven (old new : LargeTable) (addr : ℕ) : Type 0 where
  pub sound : IsSound new
  pub given : new ≡ with_blocks old (remove_found (is_at addr) old.blocks)
  pub stands : Becomes old new (λ ps. without_block ps addr)

pub has_given : (inner old new : LargeTable) (bs : List LargeBlock) (addr index : ℕ) → inner ≡ old → IsSound inner → bs ≡ inner.blocks → IsRow bs addr index → new ≡ with_blocks inner (remove inner.blocks index) → HasGiven old new addr
has_given inner old new bs addr index e sound f row n = subst (λ (t : LargeTable). HasGiven t new addr) e (record {
  sound = subst IsSound (sym n) (record { limits = sound.limits; laid = removed_laid inner.limits inner.blocks addr index r sound.laid });
  given = given;
  stands = gives inner sound.laid addr new given;
})
  where
    r : IsRow inner.blocks addr index
    r = subst (λ (cs : List LargeBlock). IsRow cs addr index) f row

    given : new ≡ with_blocks inner (remove_found (is_at addr) inner.blocks)
    given = n ∙ ap (with_blocks inner) (row_removed inner.limits inner.blocks addr index r sound.laid)

pub is_inside : (inner : LargeTable) (bs : List LargeBlock) (addr index : ℕ) → IsSound inner → bs ≡ inner.blocks → IsRow bs addr index → index < length inner.blocks
is_inside inner bs addr index sound f row = row_inside inner.limits inner.blocks addr index (subst (λ (cs : List LargeBlock). IsRow cs addr index) f row) sound.laid

-- the rows lent are those of the table
pub still_laid : (inner : LargeTable) (bs : List LargeBlock) → IsSound inner → bs ≡ inner.blocks → AreLaid inner.limits 0 bs
still_laid inner bs sound f = subst (AreLaid inner.limits 0) (sym f) sound.laid

pub still_inside : (inner : LargeTable) (bs : List LargeBlock) (index : ℕ) → bs ≡ inner.blocks → index < length inner.blocks → index < length bs
still_inside inner bs index f i = subst (λ (cs : List LargeBlock). index < length cs) (sym f) i

---- A block taken

pub record HasTaken (old new : LargeTable) (addr n : ℕ) : Type 0 where
  pub sound : IsSound new
  pub taken : new ≡ with_blocks old (insert_block (record { addr = addr; size = n }) old.blocks)
  pub stands : Becomes old new (λ ps. with_block ps addr n)

-- a room of the table for so many pages
module _ (inner : LargeTable) (bs : List LargeBlock) (n pages index addr : ℕ) (sound : IsSound inner) (f : bs ≡ inner.blocks) (huge : 520193 ≤ n) (room : IsRoom inner.limits bs pages index addr) (p : pages_of n ≡ pages) where
  laid : AreLaid inner.limits 0 (insert inner.blocks index (record { addr = addr; size = n }))
  laid = subst (λ (cs : List LargeBlock). AreLaid inner.limits 0 (insert cs index (record { addr = addr; size = n }))) f (room.laid n huge p)

  pub row_is_inside : index ≤ length inner.blocks
  row_is_inside = subst (λ (cs : List LargeBlock). index ≤ length cs) f room.inside

  -- 33 blocks never fit
  pub has_row : length inner.blocks < 32
  has_row =
      let few = laid_few inner.limits 0 (insert inner.blocks index (record { addr = addr; size = n })) (omega arith) laid in
      let one = length-append (take index inner.blocks) (record { addr = addr; size = n } ∷ drop index inner.blocks) in
      let all = ap length (take-append-drop index inner.blocks) in
      let two = length-append (take index inner.blocks) (drop index inner.blocks) in
      let most = sound.limits.large_pages in
      omega (arith, few, one, all, two, most)

  pub has_taken : (old new : LargeTable) → inner ≡ old → new ≡ with_blocks inner (insert inner.blocks index (record { addr = addr; size = n })) → HasTaken old new addr n
  has_taken old new e m = subst (λ (t : LargeTable). HasTaken t new addr n) e (record {
    sound = subst IsSound (sym m) (record { limits = sound.limits; laid = laid });
    taken = taken;
    stands = takes inner new addr n taken;
  })
    where
      taken : new ≡ with_blocks inner (insert_block (record { addr = addr; size = n }) inner.blocks)
      taken = m ∙ ap (with_blocks inner) (row_inserted inner.limits inner.blocks index (record { addr = addr; size = n }) laid)

-- what is found is the definition's place in each state
pub is_place : (inner old : LargeTable) (bs : List LargeBlock) (answer : Option ℕ) (n pages : ℕ) → inner ≡ old → bs ≡ inner.blocks → pages ≡ n → answer ≡ large_place inner.limits (map place_of bs) pages →
    InEach old (λ o st. answer ≡ large_place o.limits st.large n)
is_place inner old bs answer n pages e f g p o st h =
    p ∙ ap (λ (cs : List LargeBlock). large_place inner.limits (map place_of cs) pages) f ∙ ap (large_place inner.limits (places_of inner)) g
    ∙ ap (λ (t : LargeTable). large_place t.limits (places_of t) n) e ∙ same_place old o st h n

---- A block resized

pub record HasResized (old new : LargeTable) (addr n : ℕ) : Type 0 where
  pub sound : IsSound new
  pub stays : InEach old (λ o st. TellsStay o st addr n true)
  pub changed : new ≡ with_blocks old (change_found (is_at addr) (with_bytes n) old.blocks)
  pub stands : Becomes old new (λ ps. with_length ps addr n)

-- a write through a slice of the whole list
refill_whole : (xs ws : List LargeBlock) → length ws ≡ length xs → refill (length xs) xs ws ≡ ws
refill_whole xs ws e =
    let f : drop (length ws) xs ≡ [] = drop_of_length-le xs (omega arith) in
    let g : ws ++ [] ≡ ws = append-nil ws in
    rw f (rw (g, ← e) (take-length ws))

-- an item that is there does not depend on what stands for one that is not
same_item : (xs : List LargeBlock) (index : ℕ) (d e : LargeBlock) → index < length xs → get_or xs index d ≡ get_or xs index e
same_item xs index d e i = let f = drop-cons xs index d i in let g = drop-cons xs index e i in let h : get_or xs index d ∷ drop (suc index) xs ≡ get_or xs index e ∷ drop (suc index) xs = sym f ∙ g in cc

pub size_is_set : (xs : List LargeBlock) (index n : ℕ) (d e : LargeBlock) → d ≡ get_or xs index d → index < length xs → set xs index (with_bytes n d) ≡ set xs index (with_bytes n (get_or xs index e))
size_is_set xs index n d e f i = ap (λ (b : LargeBlock). set xs index (with_bytes n b)) (f ∙ same_item xs index d e i)

module _ (inner : LargeTable) (bs : List LargeBlock) (addr n index : ℕ) (sound : IsSound inner) (f : bs ≡ inner.blocks) (row : IsRow bs addr index) where
  r : IsRow inner.blocks addr index
  r = subst (λ (cs : List LargeBlock). IsRow cs addr index) f row

  pub has_resized : (old : LargeTable) (items ds : List LargeBlock) → inner ≡ old → ((d : LargeBlock) → items ≡ set inner.blocks index (with_bytes n (get_or inner.blocks index d))) → ds ≡ inner.blocks
      → (leb 520193 n && leb (pages_of n) (reach_at inner.limits (drop index ds))) ≡ true → HasResized old (with_blocks inner items) addr n
  has_resized old items ds e is h t = subst (λ (t : LargeTable). HasResized t (with_blocks inner items) addr n) e (record {
    sound = subst IsSound (sym new_is) (record { limits = sound.limits; laid = changed_laid inner.limits inner.blocks addr index r sound.laid n (leb-true 520193 n fits.0) (leb-true (pages_of n) (reach_at inner.limits (drop index inner.blocks)) fits.1) });
    stays = stays inner addr index n sound.laid r true lets;
    changed = changed;
    stands = resizes inner sound.laid addr (with_blocks inner items) n changed;
  })
    where
      lets : (leb 520193 n && leb (pages_of n) (reach_at inner.limits (drop index inner.blocks))) ≡ true
      lets = subst (λ (xs : List LargeBlock). (leb 520193 n && leb (pages_of n) (reach_at inner.limits (drop index xs))) ≡ true) h t

      fits : (leb 520193 n ≡ true) × (leb (pages_of n) (reach_at inner.limits (drop index inner.blocks)) ≡ true)
      fits = and_parts (leb 520193 n) (leb (pages_of n) (reach_at inner.limits (drop index inner.blocks))) lets

      new_is : with_blocks inner items ≡ with_blocks inner (set inner.blocks index (with_bytes n r.block))
      new_is = ap (with_blocks inner) (is r.block) ∙ ap (λ (b : LargeBlock). with_blocks inner (set inner.blocks index (with_bytes n b))) (row_item inner.limits inner.blocks addr index r sound.laid r.block)

      changed : with_blocks inner items ≡ with_blocks inner (change_found (is_at addr) (with_bytes n) inner.blocks)
      changed = new_is ∙ ap (with_blocks inner) (row_changed inner.limits inner.blocks addr index r sound.laid n)

  pub has_kept : (old : LargeTable) (ds : List LargeBlock) → inner ≡ old → ds ≡ inner.blocks → (leb 520193 n && leb (pages_of n) (reach_at inner.limits (drop index ds))) ≡ false → InEach old (λ o st. TellsStay o st addr n false)
  has_kept old ds e h t = subst (λ (t : LargeTable). InEach t (λ o st. TellsStay o st addr n false)) e
      (stays inner addr index n sound.laid r false (subst (λ (xs : List LargeBlock). (leb 520193 n && leb (pages_of n) (reach_at inner.limits (drop index xs))) ≡ false) h t))

---- Look-ups

pub is_size : (inner old : LargeTable) (bs : List LargeBlock) (addr : ℕ) (answer : Option ℕ) → inner ≡ old → IsSound inner → bs ≡ inner.blocks → answer ≡ option_map (λ b. b.size) (find (is_at addr) bs) → InEach old (λ o st. answer ≡ size_at addr st.large)
is_size inner old bs addr answer e sound f a =
    subst (λ (t : LargeTable). InEach t (λ o st. answer ≡ size_at addr st.large)) e
    (λ o st h. a ∙ ap (λ (cs : List LargeBlock). option_map (λ (b : LargeBlock). b.size) (find (is_at addr) cs)) f ∙ same_size inner sound.laid addr o st h)

pub is_block : (inner old : LargeTable) (bs : List LargeBlock) (from : ℕ) (answer : Option Block) → inner ≡ old → bs ≡ inner.blocks → answer ≡ option_map block_in (find (is_from from) bs) → InEach old (λ o st. answer ≡ block_from from st.large)
is_block inner old bs from answer e f a =
    subst (λ (t : LargeTable). InEach t (λ o st. answer ≡ block_from from st.large)) e
    (λ o st h. a ∙ ap (λ (cs : List LargeBlock). option_map block_in (find (is_from from) cs)) f ∙ same_block inner from o st h)
