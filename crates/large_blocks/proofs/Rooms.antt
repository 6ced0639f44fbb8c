-- The walk over the blocks that finds the lowest free run.
use Rattle.std.proofs.Common.{◌≡◌, ℕ, zero, suc, ◌+◌, ◌-◌, ◌*◌, ◌/◌, ◌<◌, ◌≤◌, true, false, ◌&&◌, List, [], ◌∷◌, ◌++◌, length, take, drop, get_or, map, Option, Some, None, refl, sym, ap, ◌∙◌, subst, arith, leb, ltb, inl, inr, option_map, add-one}
use Rattle.std.proofs.Math.Seq.{drop-cons}
use Rattle.std.proofs.Math.ListN.{drop_of_length-le}
use Rattle.std.proofs.lemmas.List.{take_more, append_assoc}
use Rattle.std.specs.Int.{div_ceil}
use Rattle.std.proofs.lemmas.Bool.{cases_Bool, cases_lt, lt-ltb, le-ltb, ltb-true, ltb-false, leb-true, and_parts}
use Rattle.heap_model.specs.declared.Limits.{Limits}
use Rattle.heap_model.specs.Geometry.{pages_of}
use Rattle.heap_model.specs.Runs.{Run, fitting}
use Rattle.heap_model.specs.Ranges.{large_place, large_start, lowest}
use Rattle.large_blocks.specs.declared.LargeBlock.{LargeBlock}
use Rattle.large_blocks.specs.Table.{place_of}
use Rattle.large_blocks.specs.Sound.{page_of, end_of, IsLaid, AreLaid, IsRoom, page_behind, reach_at}
use Rattle.large_blocks.proofs.Laid.{laid_behind, behind_all, behind_inside}
use Rattle.large_blocks.proofs.Free.{free_runs, gaps_from, between}

-- the walk has come to this row and this address, and found no run before it
pub record HasReached (l : Limits) (bs : List LargeBlock) (pages index addr : ℕ) : Type 0 where
  pub page : ℕ
  pub at : addr ≡ 4096 * (256 * l.segments + page)
  pub inside : page ≤ l.large_pages
  pub within : index ≤ length bs
  pub rest : AreLaid l page (drop index bs)
  pub front : (cs : List LargeBlock) → AreLaid l page cs → AreLaid l 0 (take index bs ++ cs)
  pub none : lowest (fitting pages (gaps_from l 0 bs)) ≡ lowest (fitting pages (gaps_from l page (drop index bs)))

pub at_start : (l : Limits) (bs : List LargeBlock) (pages addr : ℕ) → AreLaid l 0 bs → addr ≡ 4096 * (256 * l.segments) → HasReached l bs pages 0 addr
at_start l bs pages addr a e = record { page = 0; at = omega arith; inside = omega arith; within = omega arith; rest = a; front = λ cs b. b; none = refl }

---- The run in front of a row

fit_here : (from to pages : ℕ) (rs : List Run) → (ltb from to && leb pages (to - from)) ≡ true → lowest (fitting pages (between from to rs)) ≡ Some (record { first = from; count = to - from })
fit_here from to pages rs h = let k = and_parts (ltb from to) (leb pages (to - from)) h in let e = k.0 in let f = k.1 in rw e (rw f refl)

fit_later : (from to pages : ℕ) (rs : List Run) → (ltb from to && leb pages (to - from)) ≡ false → lowest (fitting pages (between from to rs)) ≡ lowest (fitting pages rs)
fit_later from to pages rs h = elim (cases_Bool (ltb from to)) [
  | inl e ↦ let f : leb pages (to - from) ≡ false = rw e at h in rw e (rw f refl)
  | inr e ↦ rw e refl
]

test_is : (s p q pages addr to : ℕ) → addr ≡ 4096 * (256 * s + p) → to ≡ 4096 * (256 * s + q) → (ltb addr to && leb pages ((to - addr) / 4096)) ≡ (ltb p q && leb pages (q - p))
test_is s p q pages addr to e f = let n : (to - addr) / 4096 ≡ q - p = omega arith in rw n (elim (cases_lt p q) [
  | inl l ↦ let x = lt-ltb p q l in let y = lt-ltb addr to (omega arith) in rw (x, y) refl
  | inr l ↦ let x = le-ltb p q l in let y = le-ltb addr to (omega arith) in rw (x, y) refl
])

-- the runs behind the first gap
abbrev pub behind_gap : Limits → List LargeBlock → List Run
behind_gap l [] = []
behind_gap l (b ∷ bs) = gaps_from l (end_of l b) bs

gap_first : (l : Limits) (from : ℕ) (bs : List LargeBlock) → gaps_from l from bs ≡ between from (page_behind l bs) (behind_gap l bs)
gap_first l from [] = refl
gap_first l from (b ∷ bs) = refl

module _ (l : Limits) (bs : List LargeBlock) (pages index addr : ℕ) (a : AreLaid l 0 bs) (h : HasReached l bs pages index addr) (to : ℕ) (ends : to ≡ 4096 * (256 * l.segments + page_behind l (drop index bs))) where
  at_page : (ltb addr to && leb pages ((to - addr) / 4096)) ≡ (ltb h.page (page_behind l (drop index bs)) && leb pages (page_behind l (drop index bs) - h.page))
  at_page = test_is l.segments h.page (page_behind l (drop index bs)) pages addr to h.at ends

  lowest_is : large_place l (map place_of bs) pages ≡ option_map (λ (r : Run). 16 * (large_start l + 256 * r.first)) (lowest (fitting pages (between h.page (page_behind l (drop index bs)) (behind_gap l (drop index bs)))))
  lowest_is =
      ap (λ (o : Option Run). option_map (λ (r : Run). 16 * (large_start l + 256 * r.first)) o)
      (ap (λ (rs : List Run). lowest (fitting pages rs)) (free_runs l bs a) ∙ h.none ∙ ap (λ (rs : List Run). lowest (fitting pages rs)) (gap_first l h.page (drop index bs)))

  pub run_is_here : (ltb addr to && leb pages ((to - addr) / 4096)) ≡ true → Some addr ≡ large_place l (map place_of bs) pages
  run_is_here t =
      let e : addr ≡ 16 * (large_start l + 256 * h.page) = omega (arith, h.at) in
      ap (λ (n : ℕ). Some n) e
      ∙ sym (lowest_is ∙ ap (λ (o : Option Run). option_map (λ (r : Run). 16 * (large_start l + 256 * r.first)) o) (fit_here h.page (page_behind l (drop index bs)) pages (behind_gap l (drop index bs)) (sym at_page ∙ t)))

  pub run_is_later : (ltb addr to && leb pages ((to - addr) / 4096)) ≡ false → lowest (fitting pages (gaps_from l 0 bs)) ≡ lowest (fitting pages (behind_gap l (drop index bs)))
  run_is_later t =
      h.none ∙ ap (λ (rs : List Run). lowest (fitting pages rs)) (gap_first l h.page (drop index bs)) ∙ fit_later h.page (page_behind l (drop index bs)) pages (behind_gap l (drop index bs)) (sym at_page ∙ t)

  pub room_is_here : (ltb addr to && leb pages ((to - addr) / 4096)) ≡ true → IsRoom l bs pages index addr
  room_is_here t = record { inside = h.within; laid = λ n huge e. h.front (record { addr = addr; size = n } ∷ drop index bs) (laid n huge e) }
    where
      laid : (n : ℕ) → 520193 ≤ n → pages_of n ≡ pages → AreLaid l h.page (record { addr = addr; size = n } ∷ drop index bs)
      laid n huge e =
          let k = and_parts (ltb h.page (page_behind l (drop index bs))) (leb pages (page_behind l (drop index bs) - h.page)) (sym at_page ∙ t) in
          let i = ltb-true h.page (page_behind l (drop index bs)) k.0 in
          let m = leb-true pages (page_behind l (drop index bs) - h.page) k.1 in
          let z = behind_inside l h.page (drop index bs) h.rest in
          let p : addr / 4096 - 256 * l.segments ≡ h.page = omega (arith, h.at) in
          let f : h.page + pages_of n ≤ page_behind l (drop index bs) = omega (arith, i, m, e) in (
            record {
              huge = huge;
              behind = omega (arith, p);
              aligned = rw p h.at;
              inside = rw p (omega (arith, f, z));
            },
            laid_behind l h.page (addr / 4096 - 256 * l.segments + pages_of n) (drop index bs) (rw p f) h.rest,
          )

---- The next row

pub next_page : (l : Limits) (bs : List LargeBlock) (d : LargeBlock) (index : ℕ) → AreLaid l 0 bs → index < length bs → (from : ℕ) → AreLaid l from (drop index bs) → (get_or bs index d).addr ≡ 4096 * (256 * l.segments + page_behind l (drop index bs))
next_page l bs d index a i from r =
    let e = drop-cons bs index d i in
    let k : AreLaid l from (get_or bs index d ∷ drop (suc index) bs) = subst (AreLaid l from) e r in
    rw e k.0.aligned

pub at_next : (l : Limits) (bs : List LargeBlock) (d : LargeBlock) (pages index addr more : ℕ) → AreLaid l 0 bs → HasReached l bs pages index addr → index < length bs → more ≡ div_ceil (get_or bs index d).size 4096
    → (ltb addr (get_or bs index d).addr && leb pages (((get_or bs index d).addr - addr) / 4096)) ≡ false → HasReached l bs pages (index + 1) ((get_or bs index d).addr + 4096 * more)
at_next l bs d pages index addr more a h i m t = record {
  page = end_of l b;
  at = let u = k.0.aligned in behind (page_of l b) u;
  inside = k.0.inside;
  within = omega arith;
  rest = subst (λ (n : ℕ). AreLaid l (end_of l b) (drop n bs)) (sym (add-one index)) k.1;
  front = λ cs c. subst (AreLaid l 0) (longer cs) (h.front (b ∷ cs) (k.0, c));
  none =
      run_is_later l bs pages index addr a h b.addr (next_page l bs d index a i h.page h.rest) t
      ∙ ap (λ (rs : List LargeBlock). lowest (fitting pages (behind_gap l rs))) e
      ∙ ap (λ (n : ℕ). lowest (fitting pages (gaps_from l (end_of l b) (drop n bs)))) (sym (add-one index));
}
  where
    b : LargeBlock
    b = get_or bs index d

    e : drop index bs ≡ b ∷ drop (suc index) bs
    e = drop-cons bs index d i

    k : AreLaid l h.page (b ∷ drop (suc index) bs)
    k = subst (AreLaid l h.page) e h.rest

    behind : (p : ℕ) → b.addr ≡ 4096 * (256 * l.segments + p) → b.addr + 4096 * more ≡ 4096 * (256 * l.segments + (p + pages_of b.size))
    behind p u = let n : more ≡ pages_of b.size = m ∙ omega arith in omega arith

    longer : (cs : List LargeBlock) → take index bs ++ (b ∷ cs) ≡ take (index + 1) bs ++ cs
    longer cs = sym (ap (λ (xs : List LargeBlock). xs ++ cs) (take_more bs index d i) ∙ append_assoc (take index bs) (b ∷ []) cs)

---- The end of the table

module _ (l : Limits) (bs : List LargeBlock) (pages index addr : ℕ) (a : AreLaid l 0 bs) (h : HasReached l bs pages index addr) (last : length bs ≤ index) where
  nothing_left : drop index bs ≡ []
  nothing_left = drop_of_length-le bs last

  pub last_page : (to : ℕ) → to ≡ 4096 * (256 * l.segments + l.large_pages) → to ≡ 4096 * (256 * l.segments + page_behind l (drop index bs))
  last_page to e = let f = nothing_left in rw f e

  pub nothing_fits : (to : ℕ) → to ≡ 4096 * (256 * l.segments + l.large_pages) → (ltb addr to && leb pages ((to - addr) / 4096)) ≡ false → None ≡ large_place l (map place_of bs) pages
  nothing_fits to e t =
      ap (λ (o : Option Run). option_map (λ (r : Run). 16 * (large_start l + 256 * r.first)) o)
      (sym (ap (λ (rs : List Run). lowest (fitting pages rs)) (free_runs l bs a) ∙ run_is_later l bs pages index addr a h to (last_page to e) t ∙ ap (λ (cs : List LargeBlock). lowest (fitting pages (behind_gap l cs))) nothing_left))

  pub last_room : IsRoom l bs pages index addr → IsRoom l bs pages (length bs) addr
  last_room r = let w = h.within in let e : index ≡ length bs = omega arith in subst (λ (n : ℕ). IsRoom l bs pages n addr) e r

---- What a block can reach

laid_drop : (l : Limits) (from : ℕ) (bs : List LargeBlock) (index : ℕ) → AreLaid l from bs → (low : ℕ) × AreLaid l low (drop index bs)
laid_drop l from bs zero a = (from, a)
laid_drop l from [] (suc index) a = (from, a)
laid_drop l from (b ∷ bs) (suc index) a = laid_drop l (end_of l b) bs index a.1

pub end_at_next : (l : Limits) (bs : List LargeBlock) (index : ℕ) (next : LargeBlock) → AreLaid l 0 bs → true ≡ ltb (index + 1) (length bs) → next ≡ get_or bs (index + 1) next → next.addr ≡ 4096 * (256 * l.segments + page_behind l (drop (index + 1) bs))
end_at_next l bs index next a i e =
    let r = laid_drop l 0 bs (index + 1) a in
    ap (λ (b : LargeBlock). b.addr) e ∙ next_page l bs next (index + 1) a (ltb-true (index + 1) (length bs) (sym i)) r.0 r.1

pub end_of_area : (l : Limits) (bs : List LargeBlock) (index to : ℕ) → false ≡ ltb (index + 1) (length bs) → to ≡ 4096 * (256 * l.segments + l.large_pages) → to ≡ 4096 * (256 * l.segments + page_behind l (drop (index + 1) bs))
end_of_area l bs index to i e = let f : drop (index + 1) bs ≡ [] = drop_of_length-le bs (ltb-false (index + 1) (length bs) (sym i)) in rw f e

module _ (l : Limits) (bs : List LargeBlock) (d : LargeBlock) (index to : ℕ) (a : AreLaid l 0 bs) (i : index < length bs) (ends : to ≡ 4096 * (256 * l.segments + page_behind l (drop (index + 1) bs))) where
  first : drop index bs ≡ get_or bs index d ∷ drop (suc index) bs
  first = drop-cons bs index d i

  laid_here : IsLaid l (laid_drop l 0 bs index a).0 (get_or bs index d) × AreLaid l (end_of l (get_or bs index d)) (drop (suc index) bs)
  laid_here = subst (AreLaid l (laid_drop l 0 bs index a).0) first (laid_drop l 0 bs index a).1

  behind_here : end_of l (get_or bs index d) ≤ page_behind l (drop (suc index) bs)
  behind_here = behind_all l (end_of l (get_or bs index d)) (drop (suc index) bs) laid_here.0.inside laid_here.1

  ends_here : to ≡ 4096 * (256 * l.segments + page_behind l (drop (suc index) bs))
  ends_here = ends ∙ ap (λ (n : ℕ). 4096 * (256 * l.segments + page_behind l (drop n bs))) (add-one index)

  pub starts_before : (get_or bs index d).addr ≤ to
  starts_before = go (page_of l (get_or bs index d)) (page_behind l (drop (suc index) bs)) (let b = behind_here in omega arith) laid_here.0.aligned ends_here
    where
      go : (p q : ℕ) → p ≤ q → (get_or bs index d).addr ≡ 4096 * (256 * l.segments + p) → to ≡ 4096 * (256 * l.segments + q) → (get_or bs index d).addr ≤ to
      go p q b e f = omega arith

  pub reaches : (to - (get_or bs index d).addr) / 4096 ≡ reach_at l (drop index bs)
  reaches =
      go (page_of l (get_or bs index d)) (page_behind l (drop (suc index) bs)) laid_here.0.aligned ends_here
      ∙ ap (reach_at l) (sym first)
    where
      go : (p q : ℕ) → (get_or bs index d).addr ≡ 4096 * (256 * l.segments + p) → to ≡ 4096 * (256 * l.segments + q) → (to - (get_or bs index d).addr) / 4096 ≡ q - p
      go p q e f = omega arith
