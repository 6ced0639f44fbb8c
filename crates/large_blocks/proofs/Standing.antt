-- What the table tells of each state that it stands for, and what it stands for behind a change.
use Rattle.std.proofs.Common.{◌≡◌, ℕ, ◌+◌, ◌-◌, ◌*◌, ◌/◌, ◌<◌, ◌≤◌, Bool, true, false, ◌&&◌, not, List, [], ◌∷◌, Option, Some, map, drop, refl, sym, ap, ◌∙◌, subst, arith, eqb, leb, inl, inr, option_map}
use Rattle.std.specs.Prelude.{filter_map, option_and_then}
use Rattle.std.specs.List.{find, list_any}
use Rattle.std.proofs.lemmas.Bool.{cases_Bool, cases_lt, eqb-true, le-leb, lt-leb, and_parts}
use Rattle.heap_model.specs.declared.Block.{Block}
use Rattle.heap_model.specs.declared.Limits.{Limits}
use Rattle.heap_model.specs.declared.Opening.{Opening}
use Rattle.heap_model.specs.Geometry.{route_of, is_huge, pages_of}
use Rattle.heap_model.specs.Runs.{Run, fitting}
use Rattle.heap_model.specs.State.{State, opening, Place, live_size, block_of, by_address, has_address, is_live_at, change_found, remove_found, insert_place}
use Rattle.heap_model.specs.Ranges.{large_runs, large_place, is_clear_page, large_start, in_place, lowest}
use Rattle.heap_model.specs.Stay.{run_from, reach, lets_stay}
use Rattle.heap_model.specs.Legal.{resize_place}
use Rattle.heap_model.specs.Layers.{StandsForLarge}
use Rattle.serial_laws.proofs.Sorted.{OnlyOne, any_sorted, found_sorted, removed_sorted, changed_sorted}
use Rattle.large_blocks.specs.declared.LargeBlock.{LargeBlock}
use Rattle.large_blocks.specs.Table.{LargeTable, place_of, places_of, layer_of, is_at, is_from, block_in, insert_block, with_blocks, with_bytes}
use Rattle.large_blocks.specs.Effects.{InEach, TellsStay, Becomes, size_at, block_from, with_block, without_block, with_length}
use Rattle.large_blocks.specs.Sound.{page_of, end_of, AreLaid, IsRow, page_behind, reach_at}
use Rattle.large_blocks.proofs.Runs.{runs_same}
use Rattle.large_blocks.proofs.Laid.{some_pages, laid_at, behind_all}
use Rattle.large_blocks.proofs.Free.{free_runs, gaps_from, run_behind}
use Rattle.large_blocks.proofs.Rows.{row_found, row_rest, inserted_place}

---- Places of the table

-- the address is that of no block from a page on
none_at : (l : Limits) (from : ℕ) (bs : List LargeBlock) (addr : ℕ) (test : Place → Bool) → ((b : LargeBlock) → test (place_of b) ≡ true → b.addr ≡ addr) → AreLaid l from bs → addr < 4096 * (256 * l.segments + from) → list_any test (map place_of bs) ≡ false
none_at l from [] addr test at a h = refl
none_at l from (b ∷ bs) addr test at a h =
    let k = a.0.behind in
    let u = a.0.aligned in
    let n = some_pages b.size a.0.huge in
    let rest = none_at l (end_of l b) bs addr test at a.1 (further (page_of l b) (end_of l b) k (omega arith)) in
    elim (cases_Bool (test (place_of b))) [
      | inl e ↦ absurd (clash (page_of l b) k u (at b e))
      | inr e ↦ rw e rest
    ]
  where
    further : (p q : ℕ) → from ≤ p → p ≤ q → addr < 4096 * (256 * l.segments + q)
    further p q i j = omega arith

    clash : (p : ℕ) → from ≤ p → b.addr ≡ 4096 * (256 * l.segments + p) → b.addr ≡ addr → ⊥
    clash p i e f = omega arith

-- .. of one block at most
only_at : (l : Limits) (from : ℕ) (bs : List LargeBlock) (addr : ℕ) (test : Place → Bool) → ((b : LargeBlock) → test (place_of b) ≡ true → b.addr ≡ addr) → AreLaid l from bs → OnlyOne test (map place_of bs)
only_at l from [] addr test at a = tt
only_at l from (b ∷ bs) addr test at a =
    let u = a.0.aligned in
    let n = some_pages b.size a.0.huge in
    (λ t. none_at l (end_of l b) bs addr test at a.1 (later (page_of l b) (end_of l b) (omega arith) u (at b t)), only_at l (end_of l b) bs addr test at a.1)
  where
    later : (p q : ℕ) → p < q → b.addr ≡ 4096 * (256 * l.segments + p) → b.addr ≡ addr → addr < 4096 * (256 * l.segments + q)
    later p q i e f = omega arith

at_address : (addr : ℕ) (b : LargeBlock) → has_address addr (place_of b) ≡ true → b.addr ≡ addr
at_address addr b e = eqb-true b.addr addr e

at_live : (addr : ℕ) (b : LargeBlock) → is_live_at addr (place_of b) ≡ true → b.addr ≡ addr
at_live addr b e = eqb-true b.addr addr (and_parts (eqb b.addr addr) true e).0

and_false : (x : Bool) → (x && false) ≡ false
and_false true = refl
and_false false = refl

and_true : (x : Bool) → (x && true) ≡ x
and_true true = refl
and_true false = refl

found_place : (addr : ℕ) (bs : List LargeBlock) (b : LargeBlock) → find (is_at addr) bs ≡ Some b → find (has_address addr) (map place_of bs) ≡ Some (place_of b)
found_place addr [] b e = absurd (let z : ⊥ = cc in z)
found_place addr (c ∷ cs) b e = elim (cases_Bool (eqb c.addr addr)) [
  | inl f ↦ let g : Some c ≡ Some b = rw f at e in rw f (ap (λ (o : Option LargeBlock). option_map place_of o) g)
  | inr f ↦ rw f (found_place addr cs b (rw f at e))
]

removed_place : (addr : ℕ) (bs : List LargeBlock) → remove_found (has_address addr) (map place_of bs) ≡ map place_of (remove_found (is_at addr) bs)
removed_place addr [] = refl
removed_place addr (b ∷ bs) = elim (cases_Bool (eqb b.addr addr)) [
  | inl e ↦ rw e refl
  | inr e ↦ rw e (ap (λ (ps : List Place). place_of b ∷ ps) (removed_place addr bs))
]

changed_place : (addr n : ℕ) (bs : List LargeBlock) → change_found (has_address addr) (resize_place (256 * pages_of n) n) (map place_of bs) ≡ map place_of (change_found (is_at addr) (with_bytes n) bs)
changed_place addr n [] = refl
changed_place addr n (b ∷ bs) = elim (cases_Bool (eqb b.addr addr)) [
  | inl e ↦ rw e refl
  | inr e ↦ rw e (ap (λ (ps : List Place). place_of b ∷ ps) (changed_place addr n bs))
]

---- What the table stands for behind a call

pub opens : (t : LargeTable) (l : Limits) → t.limits ≡ l → t.blocks ≡ [] → (o : Opening) → o.limits ≡ l → StandsForLarge o opening (layer_of t)
opens t l e b o f = record { lock = refl; limits = e ∙ sym f; part = ap (map place_of) b }

-- it is enough to speak of what the lock guards
becomes : (old new : LargeTable) (f : List Place → List Place) → new.limits ≡ old.limits → ((ps : List Place) → places_of old ≡ by_address ps → places_of new ≡ by_address (f ps)) → Becomes old new f
becomes old new f l h o st later t e = record { lock = refl; limits = l ∙ t.limits; part = h st.large t.part ∙ ap by_address (sym e) }

blocks_become : (old : LargeTable) (bs : List LargeBlock) (f : List Place → List Place) → ((ps : List Place) → places_of old ≡ by_address ps → map place_of bs ≡ by_address (f ps)) → (new : LargeTable) → new ≡ with_blocks old bs → Becomes old new f
blocks_become old bs f h new e = subst (λ (t : LargeTable). Becomes old t f) (sym e) (becomes old (with_blocks old bs) f refl h)

pub takes : (old new : LargeTable) (addr n : ℕ) → new ≡ with_blocks old (insert_block (record { addr = addr; size = n }) old.blocks) → Becomes old new (λ ps. with_block ps addr n)
takes old new addr n e = blocks_become old (insert_block (record { addr = addr; size = n }) old.blocks) (λ ps. with_block ps addr n) (λ ps p.
    inserted_place (record { addr = addr; size = n }) old.blocks ∙ ap (insert_place (place_of (record { addr = addr; size = n }))) p) new e

module _ (old : LargeTable) (laid : AreLaid old.limits 0 old.blocks) (addr : ℕ) where
  only : (ps : List Place) → places_of old ≡ by_address ps → (test : Place → Bool) → ((b : LargeBlock) → test (place_of b) ≡ true → b.addr ≡ addr) → OnlyOne test (by_address ps)
  only ps p test at = subst (OnlyOne test) p (only_at old.limits 0 old.blocks addr test at laid)

  pub gives : (new : LargeTable) → new ≡ with_blocks old (remove_found (is_at addr) old.blocks) → Becomes old new (λ ps. without_block ps addr)
  gives new e = blocks_become old (remove_found (is_at addr) old.blocks) (λ ps. without_block ps addr) (λ ps p.
      sym (removed_place addr old.blocks) ∙ ap (remove_found (has_address addr)) p ∙ sym (removed_sorted (has_address addr) ps (only ps p (has_address addr) (at_address addr)))) new e

  pub resizes : (new : LargeTable) (n : ℕ) → new ≡ with_blocks old (change_found (is_at addr) (with_bytes n) old.blocks) → Becomes old new (λ ps. with_length ps addr n)
  resizes new n e = blocks_become old (change_found (is_at addr) (with_bytes n) old.blocks) (λ ps. with_length ps addr n) (λ ps p.
      sym (changed_place addr n old.blocks) ∙ ap (change_found (has_address addr) (resize_place (256 * pages_of n) n)) p
      ∙ sym (changed_sorted (has_address addr) (resize_place (256 * pages_of n) n) (λ p. refl) ps (only ps p (has_address addr) (at_address addr)))) new e

---- What the calls answer

huge_is : (n : ℕ) → is_huge (route_of n) ≡ leb 520193 n
huge_is n = elim (cases_lt 16368 n) [
  | inr a ↦ let e = le-leb n 16368 a in let f = lt-leb 520193 n (omega arith) in rw (e, f) refl
  | inl a ↦ let e = lt-leb n 16368 a in elim (cases_lt 131072 n) [
    | inr b ↦ let g = le-leb n 131072 b in let f = lt-leb 520193 n (omega arith) in rw (e, g, f) refl
    | inl b ↦ let g = lt-leb n 131072 b in elim (cases_lt 520192 n) [
      | inr c ↦ let k = le-leb n 520192 c in let f = lt-leb 520193 n (omega arith) in rw (e, g, k, f) refl
      | inl c ↦ let k = lt-leb n 520192 c in let f = le-leb 520193 n (omega arith) in rw (e, g, k, f) refl
    ]
  ]
]

whole : (a b : ℕ) → leb (256 * a) (256 * b) ≡ leb a b
whole a b = elim (cases_lt b a) [
  | inl l ↦ let e = lt-leb a b l in let f = lt-leb (256 * a) (256 * b) (omega arith) in rw (e, f) refl
  | inr l ↦ let e = le-leb a b l in let f = le-leb (256 * a) (256 * b) (omega arith) in rw (e, f) refl
]

module _ (t : LargeTable) (o : Opening) (st : State) (h : StandsForLarge o st (layer_of t)) where
  same_runs : large_runs o.limits st.large ≡ large_runs t.limits (places_of t)
  same_runs =
      ap (λ (l : Limits). large_runs l st.large) (sym h.limits)
      ∙ runs_same (is_clear_page t.limits st.large) (is_clear_page t.limits (places_of t)) 0 t.limits.large_pages (λ k u.
      ap not (sym (any_sorted (in_place (large_start t.limits + 256 * k)) st.large) ∙ ap (list_any (in_place (large_start t.limits + 256 * k))) (sym h.part)))

  pub same_place : (n : ℕ) → large_place t.limits (places_of t) n ≡ large_place o.limits st.large n
  same_place n =
      ap (λ (rs : List Run). option_map (λ (r : Run). 16 * (large_start t.limits + 256 * r.first)) (lowest (fitting n rs))) (sym same_runs)
      ∙ ap (λ (l : Limits). option_map (λ (r : Run). 16 * (large_start l + 256 * r.first)) (lowest (fitting n (large_runs o.limits st.large)))) h.limits

  module _ (laid : AreLaid t.limits 0 t.blocks) (addr : ℕ) where
    pub place_at_address : (b : LargeBlock) → find (is_at addr) t.blocks ≡ Some b → find (has_address addr) st.large ≡ Some (place_of b)
    place_at_address b f =
        sym (found_sorted (has_address addr) st.large (only t laid addr st.large h.part (has_address addr) (at_address addr)))
        ∙ ap (find (has_address addr)) (sym h.part) ∙ found_place addr t.blocks b f

    reach_is : (index : ℕ) (r : IsRow t.blocks addr index) → reach o.limits st (place_of r.block) ≡ 256 * reach_at t.limits (drop index t.blocks)
    reach_is index r =
        let e = row_rest t.limits t.blocks addr index r laid in
        let at = laid_at t.limits 0 r.front r.block r.back (subst (AreLaid t.limits 0) r.rows laid) in
        let m = behind_all t.limits (end_of t.limits r.block) r.back at.0.inside at.1 in
        sums (pages_of r.block.size) (page_of t.limits r.block) (page_behind t.limits r.back) (run_from (large_runs o.limits st.large) (end_in o.limits)) m run
        ∙ ap (λ (bs : List LargeBlock). 256 * reach_at t.limits bs) (sym e)
      where
        end_in : Limits → ℕ
        end_in l = r.block.addr / 4096 - 256 * l.segments + 256 * pages_of r.block.size / 256

        sums : (n p q f : ℕ) → p + n ≤ q → f ≡ q - (p + n) → 256 * n + 256 * f ≡ 256 * (q - p)
        sums n p q f m e = omega arith

        run : run_from (large_runs o.limits st.large) (end_in o.limits) ≡ page_behind t.limits r.back - end_of t.limits r.block
        run =
            ap (λ (l : Limits). run_from (large_runs o.limits st.large) (end_in l)) (sym h.limits)
            ∙ ap (λ (rs : List Run). run_from rs (end_in t.limits)) (same_runs ∙ free_runs t.limits t.blocks laid)
            ∙ ap (run_from (gaps_from t.limits 0 t.blocks)) (omega arith)
            ∙ ap (λ (bs : List LargeBlock). run_from (gaps_from t.limits 0 bs) (end_of t.limits r.block)) r.rows
            ∙ run_behind t.limits 0 r.front r.block r.back (subst (AreLaid t.limits 0) r.rows laid)

    stay_is : (index : ℕ) (r : IsRow t.blocks addr index) (n : ℕ) → lets_stay o.limits st (place_of r.block) n ≡ (leb 520193 n && leb (pages_of n) (reach_at t.limits (drop index t.blocks)))
    stay_is index r n =
        ap (λ (m : ℕ). is_huge (route_of n) && leb (256 * pages_of n) m) (reach_is index r)
        ∙ ap (λ (b : Bool). b && leb (256 * pages_of n) (256 * reach_at t.limits (drop index t.blocks))) (huge_is n)
        ∙ ap (λ (b : Bool). leb 520193 n && b) (whole (pages_of n) (reach_at t.limits (drop index t.blocks)))

    tells : (index : ℕ) → IsRow t.blocks addr index → (n : ℕ) (answer : Bool) → (leb 520193 n && leb (pages_of n) (reach_at t.limits (drop index t.blocks))) ≡ answer → TellsStay o st addr n answer
    tells index r n answer e = record {
      place = place_of r.block;
      there = place_at_address r.block (row_found t.limits t.blocks addr index r laid);
      told = sym e ∙ sym (stay_is index r n);
    }

-- the answer is that of the definitions
pub stays : (t : LargeTable) (addr index n : ℕ) → AreLaid t.limits 0 t.blocks → IsRow t.blocks addr index → (answer : Bool) → (leb 520193 n && leb (pages_of n) (reach_at t.limits (drop index t.blocks))) ≡ answer → InEach t (λ o st. TellsStay o st addr n answer)
stays t addr index n laid r answer e o st h = tells t o st h laid addr index r n answer e

---- What a look-up answers

live_size_is : (addr : ℕ) (bs : List LargeBlock) → option_and_then (λ (p : Place). live_size p.status) (find (is_live_at addr) (map place_of bs)) ≡ option_map (λ (b : LargeBlock). b.size) (find (is_at addr) bs)
live_size_is addr [] = refl
live_size_is addr (b ∷ bs) = let t = and_true (eqb b.addr addr) in elim (cases_Bool (eqb b.addr addr)) [
  | inl e ↦ rw (t, e) refl
  | inr e ↦ rw (t, e) (live_size_is addr bs)
]

pub same_size : (t : LargeTable) → AreLaid t.limits 0 t.blocks → (addr : ℕ) → InEach t (λ o st. option_map (λ b. b.size) (find (is_at addr) t.blocks) ≡ size_at addr st.large)
same_size t laid addr o st h =
    sym (live_size_is addr t.blocks)
    ∙ ap (λ (ps : List Place). option_and_then (λ (p : Place). live_size p.status) (find (is_live_at addr) ps)) h.part
    ∙ ap (option_and_then (λ (p : Place). live_size p.status)) (found_sorted (is_live_at addr) st.large (only t laid addr st.large h.part (is_live_at addr) (at_live addr)))

blocks_are : (bs : List LargeBlock) → filter_map block_of (map place_of bs) ≡ map block_in bs
blocks_are [] = refl
blocks_are (b ∷ bs) = ap (λ (cs : List Block). block_in b ∷ cs) (blocks_are bs)

pub found_block : (from : ℕ) (bs : List LargeBlock) → find (λ (b : Block). leb from b.addr) (map block_in bs) ≡ option_map block_in (find (is_from from) bs)
found_block from [] = refl
found_block from (b ∷ bs) = elim (cases_Bool (leb from b.addr)) [
  | inl e ↦ rw e refl
  | inr e ↦ rw e (found_block from bs)
]

pub same_block : (t : LargeTable) (from : ℕ) → InEach t (λ o st. option_map block_in (find (is_from from) t.blocks) ≡ block_from from st.large)
same_block t from o st h =
    sym (found_block from t.blocks)
    ∙ ap (find (λ (b : Block). leb from b.addr)) (sym (blocks_are t.blocks) ∙ ap (filter_map block_of) h.part)
