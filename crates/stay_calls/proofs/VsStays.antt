-- A block of the variable-size layer that is to have another size, under the lock.
use Rattle.std.proofs.Common.{◌≡◌, ℕ, ◌+◌, ◌-◌, ◌*◌, ◌/◌, ◌%◌, ◌<◌, ◌≤◌, Bool, true, false, ◌&&◌, length, List, [], ◌∷◌, Option, Some, None, refl, sym, ap, ◌∙◌, subst, arith, inl, inr, leb}
use Rattle.std.specs.Prelude.{is_some, option_and_then}
use Rattle.std.specs.List.{find, list_any, list_all}
use Rattle.std.proofs.lemmas.Bool.{cases_Bool, and_from, and_parts, or_right, le-leb, leb-true}
use Rattle.heap_model.specs.declared.Layer.{Layer}
use Rattle.heap_model.specs.declared.Layer.TheVariants as layers
use Rattle.heap_model.specs.declared.Opening.{Opening}
use Rattle.heap_model.specs.declared.What.TheVariants as whats
use Rattle.heap_model.specs.Geometry.{units_of}
use Rattle.heap_model.specs.Ranges.{vs_spans, taken_of}
use Rattle.heap_model.specs.Runs.{Run}
use Rattle.heap_model.specs.State.{places_of as places_of_layer}
use Rattle.heap_model.specs.State.{Setting, State, Span, Place, Status, Live, is_live, is_layer, live_size, has_address, is_live_at, hands, holds, change_found}
use Rattle.heap_model.specs.Stay.{run_from, lets_stay, resized}
use Rattle.heap_model.specs.CallState.{Configuration, caller_view}
use Rattle.heap_model.specs.Legal.{leaves_whole, lies_in, has_place, resize_place, may_touch, on}
use Rattle.heap_model.specs.Layers.{StandsForVs}
use Rattle.heap_soundness.specs.Sound.{IsOneOf, AreInOrder, AreAt, IsInVs}
use Rattle.heap_soundness.proofs.Lists.{all_at, found_in}
use Rattle.heap_soundness.proofs.Spans.{same_span}
use Rattle.claim_rule.specs.Entries.{IsSettingOf, setting_of}
use Rattle.claim_rule.specs.Places.{vs_slot}
use Rattle.claim_rule.proofs.Advance.{some_setting}
use Rattle.vs_split.specs.Tiles.{IsTiled}
use Rattle.vs_split.proofs.TiledLemmas.{chunk_of, granule_within}
use Rattle.vs_layer.specs.Kept.{VsKept, places_of, block_at, reach_of}
use Rattle.vs_layer.specs.Kept as kept
use Rattle.vs_layer.specs.Effects.{HasResized}
use Rattle.vs_layer.specs.Standing.{layer_of, Becomes}
use Rattle.vs_layer.specs.Standing as vss
use Rattle.vs_layer.proofs.Blocks.{chunk_asked}
use Rattle.vs_layer.proofs.Told.{block_is, gaps_are}
use Rattle.heap_gate.specs.Token.{Token, Always, now, IsStanding, is_out}
use Rattle.heap_model.specs.declared.Act.TheVariants as acts
use Rattle.heap_gate.specs.Calls.{with_prepared, rested}
use Rattle.call_parts.proofs.Tokens.{now_more}
use Rattle.call_parts.proofs.VsBlocks.{found_alone}
use Rattle.vs_calls.specs.Blocks.{HasVs, LiesWithin, size_at}
use Rattle.heap_model.specs.declared.Flags.{Flags}
use Rattle.heap_model.specs.Geometry.{words_of}
use Rattle.heap_model.specs.Shape.{zeroing_more}
use Rattle.call_parts.proofs.Handing.{HasZeroed}
use Rattle.call_parts.proofs.Joining.{setting_before}
use Rattle.stay_calls.proofs.Ending.{AllFound, AllGrow, grown, grown_state}

---- The block

-- a live block of this size begins at the address
pub record IsLiveBlock (vs : VsKept) (addr size : ℕ) : Type 0 where
  pub place : Place
  pub there : block_at vs addr ≡ Some place
  pub live : place.status ≡ Live size
  pub layer : place.layer ≡ layers.Vs

live_of : (t : Status) (size : ℕ) → live_size t ≡ Some size → t ≡ Live size
live_of (Live n) size k = let same : n ≡ size = cc in ap Live same
live_of (Rattle.heap_model.specs.State.InHand d) size k = absurd (let no : ⊥ = cc in no)

pub live_block : (vs : VsKept) (addr size : ℕ) → size_at vs addr ≡ Some size → IsLiveBlock vs addr size
live_block vs addr size e = by (block_at vs addr) refl
  where
    by : (o : Option Place) → block_at vs addr ≡ o → IsLiveBlock vs addr size
    by None f = let none : None ≡ Some size = ap (option_and_then (λ p. live_size p.status)) (sym f) ∙ e in absurd (let no : ⊥ = cc in no)
    by (Some p) f =
        let b = chunk_asked vs addr p f in
        let told : live_size p.status ≡ Some size = ap (option_and_then (λ p. live_size p.status)) (sym f) ∙ e in
        record { place = p; there = f; live = live_of p.status size told; layer = ap (λ (q : Place). q.layer) (sym b.is) }

pub some_size : (vs : VsKept) (addr : ℕ) → is_some (size_at vs addr) ≡ true → (size : ℕ) × (size_at vs addr ≡ Some size)
some_size vs addr h = by (size_at vs addr) refl h
  where
    by : (o : Option ℕ) → size_at vs addr ≡ o → is_some o ≡ true → (size : ℕ) × (size_at vs addr ≡ Some size)
    by (Some n) e k = (n, e)
    by None e k = absurd (let no : ⊥ = cc in no)

pub low_address : (vs : VsKept) (addr : ℕ) → is_some (size_at vs addr) ≡ true → 16 ≤ addr
low_address vs addr h = let z = some_size vs addr h in let b = live_block vs addr z.0 z.1 in (chunk_asked vs addr b.place b.there).low

sizes : (a b : ℕ) → Live a ≡ Live b → a ≡ b
sizes a b e = cc

-- its words lie among the data words
pub words_within : (vs : VsKept) (addr size : ℕ) → IsTiled vs.chunks → length vs.chunks.heads ≡ 65536 * vs.limits.segments → size_at vs addr ≡ Some size → LiesWithin vs.limits addr size
words_within vs addr size tiled all e =
    let b = live_block vs addr size e in
    let k = chunk_asked vs addr b.place b.there in
    let d = chunk_of vs.chunks (addr - 16) k.head k.there in
    let tile = tiled.tiles ((addr - 16) / 16) k.head d.head in
    let al = d.aligned in
    let low = k.low in
    let some = tile.some in
    let one = tile.one_segment in
    let within = granule_within vs.chunks ((addr - 16) / 16) k.head d.head in
    let size_is : 16 * (k.head.units - 1) - k.head.unused ≡ size = sizes (16 * (k.head.units - 1) - k.head.unused) size (ap (λ (q : Place). q.status) k.is ∙ b.live) in
    let at : addr ≡ 16 * ((addr - 16) / 16) + 16 = omega (arith, al, low) in
    let fits : size ≤ 16 * (k.head.units - 1) = omega (arith, size_is) in
    reaches addr size ((addr - 16) / 16) k.head.units vs.limits.segments at fits some (subst (λ (x : ℕ). (addr - 16) / 16 < x) all within) one
  where
    reaches : (addr size g units segments : ℕ) → addr ≡ 16 * g + 16 → size ≤ 16 * (units - 1) → 2 ≤ units → g < 65536 * segments → g % 65536 + units ≤ 65536 → LiesWithin (record { segments = segments; large_pages = vs.limits.large_pages; slots = vs.limits.slots; callers = vs.limits.callers }) addr size
    reaches addr size g units segments at fits some within one = omega (arith, at, fits, some, within, one)

-- the limits that the layer was made for are the heap's
pub vs_limits : (c : Token) (vs : VsKept) → Always c (λ s. StandsForVs c.opening (now s c).state (layer_of vs)) → vs.limits ≡ c.opening.limits
vs_limits c vs t = (t (setting_of c.opening c.roll) (some_setting c.opening c.roll)).limits

---- Behind its resizing

changed_at : (addr granules n : ℕ) (ps : List Place) (p : Place) → find (has_address addr) ps ≡ Some p → find (has_address addr) (change_found (has_address addr) (resize_place granules n) ps) ≡ Some (resize_place granules n p)
changed_at addr granules n [] p f = absurd (let no : ⊥ = cc in no)
changed_at addr granules n (x ∷ xs) p f = elim (cases_Bool (has_address addr x)) [
  | inl e ↦
      let same : Some x ≡ Some p = rw e at f in let is : x ≡ p = cc in
      rw e (rw e (ap (λ (y : Place). Some (resize_place granules n y)) is))
  | inr e ↦ rw e (rw e (changed_at addr granules n xs p (rw e at f)))
]

-- what passes still does, where the changed one does if it did
any_changed : (test change : Place → Bool) (f : Place → Place) (ps : List Place) (p : Place) → find change ps ≡ Some p → (test p ≡ true → test (f p) ≡ true) → list_any test ps ≡ true → list_any test (change_found change f ps) ≡ true
any_changed test change f [] p e h a = absurd (let no : ⊥ = cc in no)
any_changed test change f (x ∷ xs) p e h a = elim (cases_Bool (change x)) [
  | inl c ↦
      let same : Some x ≡ Some p = rw c at e in let is : x ≡ p = cc in
      rw c (elim (cases_Bool (test x)) [
        | inl t ↦
            let u : test (f x) ≡ true = ap (λ (y : Place). test (f y)) is ∙ h (ap test (sym is) ∙ t) in
            rw u refl
        | inr t ↦ or_right (test (f x)) (list_any test xs) (rw t at a)
      ])
  | inr c ↦ rw c (elim (cases_Bool (test x)) [
    | inl t ↦ rw t refl
    | inr t ↦ or_right (test x) (list_any test (change_found change f xs)) (any_changed test change f xs p (rw c at e) h (rw t at a))
  ])
]

all_from : {A : Type 0} (t u : A → Bool) (xs : List A) → ((x : A) → IsOneOf x xs → t x ≡ true → u x ≡ true) → list_all t xs ≡ true → list_all u xs ≡ true
all_from t u [] f h = refl
all_from t u (x ∷ xs) f h =
    let p = and_parts (t x) (list_all t xs) h in
    and_from (u x) (list_all u xs) (f x (inl refl) p.0) (all_from t u xs (λ y i. f y (inr i)) p.1)

-- two spans in order, in one of which a place lies and in the other one that begins there too, are one
same_over : (xs : List Span) (x y : Span) (start a b : ℕ) → AreInOrder 0 xs → 0 < a → 0 < b → IsOneOf x xs → IsOneOf y xs
    → 4096 * x.first ≤ start → start + 16 * a ≤ 4096 * (x.first + x.pages) → 4096 * y.first ≤ start → start + 16 * b ≤ 4096 * (y.first + y.pages) → x ≡ y
same_over xs x y start a b o sa sb i j xl xh yl yh = same_span 0 xs x y (start / 4096) o i j (omega (arith, xl)) (omega (arith, xh, sa)) (omega (arith, yl)) (omega (arith, yh, sb))

---- The caller

module _ (k : Token) (vs : VsKept) (h : HasVs k vs) (st : IsStanding k) (addr size n : ℕ) (b : IsLiveBlock vs addr size) where
  held_now : Always k (λ s. holds (now s k).state.gate k.number whats.Vs ≡ true)
  held_now s q = (st s q).locks whats.Vs ∙ ap (is_out whats.Vs) h.holds.serving.out_is

  pub same_tells : Always k (λ s. (leaves_whole (now s k).state whats.Vs ≡ true) × StandsForVs k.opening (now s k).state (layer_of vs))
  same_tells s q = (h.used s q, h.holds.tells s q)

  pub sized_tells : Always (with_prepared k (acts.Sized addr size)) (λ s. (leaves_whole (now s (with_prepared k (acts.Sized addr size))).state whats.Vs ≡ true) × StandsForVs k.opening (now s (with_prepared k (acts.Sized addr size))).state (layer_of vs))
  sized_tells s q = subst (λ (m : Configuration). (leaves_whole m.state whats.Vs ≡ true) × StandsForVs k.opening m.state (layer_of vs)) (sym (now_more s k (acts.Sized addr size))) (same_tells s q)

  pub found_now : Always k (λ s. find (has_address addr) (now s k).state.vs.places ≡ Some b.place)
  found_now s q = sym (block_is k.opening (now s k).state vs (h.holds.tells s q) addr) ∙ b.there

  -- .. so it is among the places of its layer
  pub vs_there : Always k (λ s. find (has_address addr) (places_of_layer (now s k).state b.place.layer) ≡ Some b.place)
  vs_there s q = ap (λ (l : Layer). find (has_address addr) (places_of_layer (now s k).state l)) b.layer ∙ found_now s q

  not_front : is_layer b.place.layer layers.Lfh ≡ false
  not_front = ap (λ (l : Layer). is_layer l layers.Lfh) b.layer

  -- the gaps are those of the layer
  stays_same : Always k (λ s. lets_stay s.limits (now s k).state b.place n ≡ kept.lets_stay vs b.place n)
  stays_same s q =
      let e = b.layer in
      rw e (ap (λ (rs : List Run). leb n 131072 && leb (units_of n) (b.place.granules + run_from rs (b.place.start / 16 + b.place.granules))) (sym (gaps_are k.opening (now s k).state vs (h.holds.tells s q))))

  length_same : Always k (λ s. resized s.limits (now s k).state b.place n ≡ taken_of (units_of n) (reach_of vs b.place))
  length_same s q =
      let e = b.layer in
      rw e (ap (λ (rs : List Run). taken_of (units_of n) (b.place.granules + run_from rs (b.place.start / 16 + b.place.granules))) (sym (gaps_are k.opening (now s k).state vs (h.holds.tells s q))))

  pub vs_found : (stays : Bool) → kept.lets_stay vs b.place n ≡ stays → AllFound k addr b.place size n stays
  vs_found stays told s q = record {
    first = found_alone (now s k).state k.number addr b.place ((st s q).hands h.holds.serving.free) (held_now s q) (found_now s q);
    live = b.live;
    behind = not_front;
    touch = ap (may_touch (caller_view (now s k) k.number)) b.layer ∙ held_now s q;
    stays_is = stays_same s q ∙ told;
  }

  -- the layer has resized it
  module _ (new : VsKept) (x : HasResized vs new addr n) where
    is_one : x.place ≡ b.place
    is_one = let both : Some x.place ≡ Some b.place = sym x.there ∙ b.there in cc

    abbrev units_then : ℕ
    units_then = taken_of (units_of n) (reach_of vs b.place)

    pub stays_told : kept.lets_stay vs b.place n ≡ true
    stays_told = ap (λ (p : Place). kept.lets_stay vs p n) (sym is_one) ∙ x.stays

    pub new_block : block_at new addr ≡ Some (resize_place units_then n b.place)
    new_block =
        ap (find (has_address addr)) (x.places ∙ ap (λ (p : Place). change_found (has_address addr) (resize_place (taken_of (units_of n) (reach_of vs p)) n) (places_of vs)) is_one)
        ∙ changed_at addr units_then n (places_of vs) b.place b.there

    pub new_size : size_at new addr ≡ Some n
    new_size = ap (option_and_then (λ p. live_size p.status)) new_block

    pub vs_grows : (granules : ℕ) → granules ≡ units_then → AllGrow k addr b.place size n granules
    vs_grows granules e s q = record { found = vs_found true stays_told s q; length_is = length_same s q ∙ sym e }

    -- what the layer tells then, in a state that has the block so long
    module _ (some : 0 < b.place.granules) (in_order : AreInOrder 0 new.spans) (inside : AreAt (IsInVs new.spans) (places_of new)) (becomes : Becomes vs new (λ v. vss.with_length v addr units_then n) (λ xs. xs)) (later : State) (s : Setting) (q : IsSettingOf k.opening k.roll s)
        (part : later.vs ≡ vss.with_length (now s k).state.vs addr units_then n) (spans : vs_spans later.back.area ≡ vs_spans (now s k).state.back.area) where
      pub tells_then : StandsForVs k.opening later (layer_of new)
      tells_then = becomes k.opening (now s k).state later (h.holds.tells s q) part spans

      abbrev longer : Place
      longer = resize_place units_then n b.place

      home : IsInVs new.spans longer.start longer.granules
      home = all_at (λ (p : Place). IsInVs new.spans p.start p.granules) longer (places_of new) inside (found_in (has_address addr) (places_of new) longer new_block)

      -- a span that has the block has it still
      still_over : (y : Span) → IsOneOf y new.spans → lies_in 4096 y b.place ≡ true → lies_in 4096 y longer ≡ true
      still_over y i o =
          let p = and_parts (leb (4096 * y.first) b.place.start) (leb (b.place.start + 16 * b.place.granules) (4096 * (y.first + y.pages))) o in
          let low = leb-true (4096 * y.first) b.place.start p.0 in
          let high = leb-true (b.place.start + 16 * b.place.granules) (4096 * (y.first + y.pages)) p.1 in
          let hb = home.behind in let ha = home.before in let two = home.two in
          let same : y ≡ home.span = same_over new.spans y home.span b.place.start b.place.granules longer.granules in_order some (omega (arith, two)) i home.there low high (omega (arith, hb)) ha in
          and_from (leb (4096 * y.first) b.place.start) _ p.0
          (subst (λ (z : Span). leb (b.place.start + 16 * longer.granules) (4096 * (z.first + z.pages)) ≡ true) (sym same) (le-leb (b.place.start + 16 * longer.granules) (4096 * (home.span.first + home.span.pages)) ha))

      pub used_then : leaves_whole later whats.Vs ≡ true
      used_then =
          (λ i. list_all (has_place 4096 (part i).places) (spans i))
          ∙ all_from (has_place 4096 (now s k).state.vs.places) (has_place 4096 (change_found (is_live_at addr) (resize_place units_then n) (now s k).state.vs.places)) (vs_spans (now s k).state.back.area)
          (λ y i t. any_changed (lies_in 4096 y) (is_live_at addr) (resize_place units_then n) (now s k).state.vs.places b.place (live_found (now s k).state.vs.places (found_now s q)) (still_over y (subst (IsOneOf y) (sym spans_same) i)) t)
          (h.used s q)
        where
          spans_same : new.spans ≡ vs_spans (now s k).state.back.area
          spans_same = tells_then.spans ∙ spans

          live_found : (ps : List Place) → find (has_address addr) ps ≡ Some b.place → find (is_live_at addr) ps ≡ Some b.place
          live_found [] e = absurd (let no : ⊥ = cc in no)
          live_found (x ∷ xs) e = elim (cases_Bool (has_address addr x)) [
            | inl f ↦
                let same : Some x ≡ Some b.place = rw f at e in let is : x ≡ b.place = cc in
                let live : is_live x.status ≡ true = ap (λ (y : Place). is_live y.status) is ∙ ap is_live b.live in
                rw (f, live) same
            | inr f ↦ rw f (live_found xs (rw f at e))
          ]

    module _ (z : Token) (flags : Flags) (granules : ℕ) (zz : HasZeroed k z (addr / 8 + words_of size) (words_of n - words_of size) flags.zero) (g : AllGrow z addr b.place size n granules) (sz : IsStanding z) (same : granules ≡ units_then)
        (some : 0 < b.place.granules) (in_order : AreInOrder 0 new.spans) (inside : AreAt (IsInVs new.spans) (places_of new)) (becomes : Becomes vs new (λ v. vss.with_length v addr units_then n) (λ xs. xs)) where
      abbrev long : Token
      long = grown k z addr b.place size n granules flags (vs_slot ∷ []) h.call h.holds.serving zz g st sz

      pub long_tells : Always (rested long) (λ s. (leaves_whole (now s (rested long)).state whats.Vs ≡ true) × StandsForVs (rested long).opening (now s (rested long)).state (layer_of new))
      long_tells s q =
          let qk = setting_before k z (zeroing_more flags.zero addr size n) zz.added.goes s q in
          let gs = grown_state k z addr b.place size n granules flags (vs_slot ∷ []) h.call h.holds.serving zz g st sz s q in
          let held = held_now s qk in
          let m = (now s z).state in
          let part : (now s long).state.vs ≡ vss.with_length (now s k).state.vs addr units_then n =
          ap (λ (y : State). y.vs) gs
          ∙ (ap (λ (l : Layer). record { places = on layers.Vs (change_found (is_live_at addr) (resize_place granules n)) m.vs.places (Some l); active = m.vs.active; served = m.vs.served }) b.layer
          ∙ (λ i. vss.with_length ((zz.kept s q).vs held i) addr (same i) n)) in
          let spans : vs_spans (now s long).state.back.area ≡ vs_spans (now s k).state.back.area =
          ap (λ (y : State). vs_spans y.back.area) gs ∙ (let e = b.layer in rw e ((zz.kept s q).spans held)) in
          let used = used_then some in_order inside becomes (now s long).state s qk part spans in
          (used, subst (λ (o : Opening). StandsForVs o (now s long).state (layer_of new)) (sym zz.added.goes.opening) (tells_then some in_order inside becomes (now s long).state s qk part spans))
