-- A block of the large area that is to have another size, under the lock.
use Rattle.std.proofs.Common.{◌≡◌, ℕ, ◌+◌, ◌-◌, ◌*◌, ◌/◌, ◌≤◌, Bool, true, false, List, [], ◌∷◌, ◌++◌, Option, Some, None, refl, sym, ap, ◌∙◌, subst, arith, inl, inr}
use Rattle.std.specs.Prelude.{is_some, option_map, option_and_then}
use Rattle.std.specs.List.{find}
use Rattle.std.proofs.lemmas.Bool.{cases_Bool, and_parts}
use Rattle.heap_model.specs.declared.Act.TheVariants as acts
use Rattle.heap_model.specs.declared.Call.{Call}
use Rattle.heap_model.specs.declared.Limits.{Limits}
use Rattle.heap_model.specs.declared.Opening.{Opening}
use Rattle.heap_model.specs.declared.What.TheVariants as whats
use Rattle.heap_model.specs.Geometry.{pages_of, words_of}
use Rattle.heap_model.specs.State.{Setting, State, Place, Status, Live, InHand, is_live, live_size, is_live_at, has_address, holds, guarded, exclusive_places, change_found}
use Rattle.heap_model.specs.Stay.{lets_stay}
use Rattle.heap_model.specs.CallState.{Configuration}
use Rattle.heap_model.specs.Legal.{leaves_whole, has_live, resize_place}
use Rattle.heap_model.specs.Layers.{StandsForLarge}
use Rattle.claim_rule.specs.Entries.{IsSettingOf, setting_of}
use Rattle.claim_rule.specs.Places.{large_slot, data_count}
use Rattle.claim_rule.proofs.Advance.{some_setting}
use Rattle.look_steps.specs.Denials.{MayDeny}
use Rattle.large_blocks.specs.declared.LargeBlock.{LargeBlock}
use Rattle.large_blocks.specs.Table.{LargeTable, layer_of, place_of, is_at, with_bytes}
use Rattle.large_blocks.specs.Effects.{InEach, TellsStay, Becomes, with_length}
use Rattle.large_blocks.specs.Sound.{IsLaid, AreLaid, IsSound, end_of}
use Rattle.large_blocks.proofs.Standing.{place_at_address, same_size}
use Rattle.heap_gate.specs.Token.{Token, Always, now, IsStanding, is_out}
use Rattle.heap_gate.specs.Calls.{with_prepared, rested}
use Rattle.call_parts.specs.Calls.{HoldsLarge}
use Rattle.call_parts.proofs.Tokens.{now_more}
use Rattle.heap_model.specs.declared.Flags.{Flags}
use Rattle.heap_model.specs.Shape.{zeroing_more}
use Rattle.call_parts.proofs.Handing.{HasZeroed}
use Rattle.call_parts.proofs.Joining.{setting_before}
use Rattle.stay_calls.proofs.Ending.{AllFound, AllGrow, grown, grown_state}

-- the block of a size
pub sized_block : (o : Option LargeBlock) (size : ℕ) → option_map (λ b. b.size) o ≡ Some size → (b : LargeBlock) × (o ≡ Some b) × (b.size ≡ size)
sized_block (Some b) size e = let same : b.size ≡ size = cc in (b, refl, same)
sized_block None size e = absurd (let no : ⊥ = cc in no)

-- no live place has an address of which no size is found
live_has_size : (x : Status) → is_live x ≡ true → live_size x ≡ None → ⊥
live_has_size (Live size) h e = let no : ⊥ = cc in no
live_has_size (InHand c) h e = let no : ⊥ = cc in no

none_sized : (a : ℕ) (ps : List Place) → option_and_then (λ p. live_size p.status) (find (is_live_at a) ps) ≡ None → has_live ps a ≡ false
none_sized a [] e = refl
none_sized a (p ∷ ps) e = elim (cases_Bool (is_live_at a p)) [
  | inl h ↦
      let size : live_size p.status ≡ None = rw h at e in
      absurd (live_has_size p.status (and_parts (has_address a p) (is_live p.status) h).1 size)
  | inr h ↦ rw h (none_sized a ps (rw h at e))
]

-- a block that is found is laid
laid_found : (l : Limits) (from : ℕ) (addr : ℕ) (bs : List LargeBlock) (b : LargeBlock) → AreLaid l from bs → find (is_at addr) bs ≡ Some b → (at : ℕ) × IsLaid l at b
laid_found l from addr [] b h f = absurd (let no : ⊥ = cc in no)
laid_found l from addr (x ∷ xs) b h f = elim (cases_Bool (is_at addr x)) [
  | inl e ↦ let same : Some x ≡ Some b = rw e at f in let is : x ≡ b = cc in (from, subst (IsLaid l from) is h.0)
  | inr e ↦ laid_found l (end_of l x) addr xs b h.1 (rw e at f)
]

-- .. and behind its resizing it is found with its new size
changed_found : (addr n : ℕ) (bs : List LargeBlock) (b : LargeBlock) → find (is_at addr) bs ≡ Some b → find (is_at addr) (change_found (is_at addr) (with_bytes n) bs) ≡ Some (with_bytes n b)
changed_found addr n [] b f = absurd (let no : ⊥ = cc in no)
changed_found addr n (x ∷ xs) b f = elim (cases_Bool (is_at addr x)) [
  | inl e ↦ let same : Some x ≡ Some b = rw e at f in let is : x ≡ b = cc in rw e (rw e (ap (λ (y : LargeBlock). Some (with_bytes n y)) is))
  | inr e ↦ rw e (rw e (changed_found addr n xs b (rw e at f)))
]

found_at : (addr : ℕ) (bs : List LargeBlock) (b : LargeBlock) → find (is_at addr) bs ≡ Some b → b.addr ≡ addr
found_at addr [] b f = absurd (let no : ⊥ = cc in no)
found_at addr (x ∷ xs) b f = elim (cases_Bool (is_at addr x)) [
  | inl e ↦ let same : Some x ≡ Some b = rw e at f in let is : x ≡ b = cc in ap (λ (y : LargeBlock). y.addr) (sym is) ∙ Rattle.std.proofs.lemmas.Bool.eqb-true x.addr addr e
  | inr e ↦ found_at addr xs b (rw e at f)
]

-- where the place that is found is live, the live one is the one found
same_changed : (a : ℕ) (f : Place → Place) (ps : List Place) (p : Place) → find (has_address a) ps ≡ Some p → is_live p.status ≡ true → change_found (is_live_at a) f ps ≡ change_found (has_address a) f ps
same_changed a f [] p e l = refl
same_changed a f (x ∷ xs) p e l = elim (cases_Bool (has_address a x)) [
  | inl h ↦
      let same : Some x ≡ Some p = rw h at e in let is : x ≡ p = cc in
      let live : is_live x.status ≡ true = ap (λ (y : Place). is_live y.status) is ∙ l in
      rw (h, live) refl
  | inr h ↦ rw h (ap (λ (l : List Place). x ∷ l) (same_changed a f xs p (rw h at e) l))
]

-- the limits that the table was made for are the heap's
pub large_limits : (c : Token) (large : LargeTable) → Always c (λ s. StandsForLarge c.opening (now s c).state (layer_of large)) → large.limits ≡ c.opening.limits
large_limits c large t = (t (setting_of c.opening c.roll) (some_setting c.opening c.roll)).limits

module _ (k : Token) (call : Call) (large : LargeTable) (h : HoldsLarge k call large) (st : IsStanding k) (sound : IsSound large) (addr : ℕ) where
  held_now : Always k (λ s. holds (now s k).state.gate k.number whats.Large ≡ true)
  held_now s q = (st s q).locks whats.Large ∙ ap (is_out whats.Large) h.serving.out_is

  all_exclusive : Always k (λ s. exclusive_places (now s k).state k.number ≡ (now s k).state.large)
  all_exclusive s q =
      let a = st s q in let m = now s k in
      let v = a.locks whats.Vs ∙ ap (is_out whats.Vs) h.serving.out_is in
      let b = a.locks whats.Back ∙ ap (is_out whats.Back) h.serving.out_is in
      (λ j. a.hands h.serving.free j ++ guarded m.state.vs.places (v j) ++ guarded m.state.back.places (b j) ++ guarded m.state.large (held_now s q j))

  pub same_tells : Always k (λ s. (leaves_whole (now s k).state whats.Large ≡ true) × StandsForLarge k.opening (now s k).state (layer_of large))
  same_tells s q = (refl, h.tells s q)

  pub sized_tells : (size : ℕ) → Always (with_prepared k (acts.Sized addr size)) (λ s. (leaves_whole (now s (with_prepared k (acts.Sized addr size))).state whats.Large ≡ true) × StandsForLarge k.opening (now s (with_prepared k (acts.Sized addr size))).state (layer_of large))
  sized_tells size s q = (refl, subst (λ (m : Configuration). StandsForLarge k.opening m.state (layer_of large)) (sym (now_more s k (acts.Sized addr size))) (h.tells s q))

  ---- None

  pub large_none : option_map (λ b. b.size) (find (is_at addr) large.blocks) ≡ None → 256 * k.opening.limits.segments ≤ addr / 4096 → Always k (λ s. MayDeny k.opening.limits (now s k) k.number addr)
  large_none none behind s q =
      let a = st s q in
      record {
        begun = ap is_some (a.call ∙ h.serving.call_is);
        inside = a.entered ∙ h.serving.inside;
        lfh = inl (inr (inl behind));
        vs = inl (inr (inl behind));
        back = inl (inr (inl behind));
        large = inr (held_now s q, none_sized addr (now s k).state.large (sym (same_size large sound.laid addr k.opening (now s k).state (h.tells s q)) ∙ none));
      }

  ---- A block

  module _ (b : LargeBlock) (found : find (is_at addr) large.blocks ≡ Some b) (n : ℕ) where
    pub among_now : Always k (λ s. find (has_address addr) (now s k).state.large ≡ Some (place_of b))
    among_now s q = place_at_address large k.opening (now s k).state (h.tells s q) sound.laid addr b found

    pub large_found : (stays : Bool) → InEach large (λ o st'. TellsStay o st' addr n stays) → AllFound k addr (place_of b) b.size n stays
    large_found stays told s q =
        let t = told k.opening (now s k).state (h.tells s q) in
        let both : Some t.place ≡ Some (place_of b) = sym t.there ∙ among_now s q in
        let same : t.place ≡ place_of b = cc in
        record {
          first = ap (find (has_address addr)) (all_exclusive s q) ∙ among_now s q;
          live = refl;
          behind = refl;
          touch = held_now s q;
          stays_is = (λ i. lets_stay (q.limits i) (now s k).state (sym same i) n) ∙ sym t.told;
        }

    pub large_grows : InEach large (λ o st'. TellsStay o st' addr n true) → AllGrow k addr (place_of b) b.size n (256 * pages_of n)
    large_grows told s q = record { found = large_found true told s q; length_is = refl }

    -- the words of the block lie among the data words, at its new size
    pub words_then : (new : LargeTable) → new.limits ≡ large.limits → IsSound new → new.blocks ≡ change_found (is_at addr) (with_bytes n) large.blocks → addr / 8 + words_of n ≤ data_count k.opening.limits
    words_then new same then_sound blocks =
        let f = ap (find (is_at addr)) blocks ∙ changed_found addr n large.blocks b found in
        let x = (laid_found new.limits 0 addr new.blocks (with_bytes n b) then_sound.laid f).1 in
        let at = found_at addr large.blocks b found in
        let a = x.aligned in let i = x.inside in
        subst (λ (l : Limits). addr / 8 + words_of n ≤ data_count l) (same ∙ large_limits k large h.tells) (omega (arith, at, a, i))

    -- what the table tells once the block was resized
    pub large_then : (later : State) (new : LargeTable) → Becomes large new (λ ps. with_length ps addr n) → (s : Setting) → IsSettingOf k.opening k.roll s
        → later.large ≡ change_found (is_live_at addr) (resize_place (256 * pages_of n) n) (now s k).state.large → StandsForLarge k.opening later (layer_of new)
    large_then later new becomes s q e =
        becomes k.opening (now s k).state later (h.tells s q) (e ∙ same_changed addr (resize_place (256 * pages_of n) n) (now s k).state.large (place_of b) (among_now s q) refl)

    module _ (z : Token) (size : ℕ) (flags : Flags) (zz : HasZeroed k z (addr / 8 + words_of size) (words_of n - words_of size) flags.zero) (x : AllGrow z addr (place_of b) size n (256 * pages_of n)) (sz : IsStanding z) where
      abbrev long : Token
      long = grown k z addr (place_of b) size n (256 * pages_of n) flags (large_slot ∷ []) call h.serving zz x st sz

      pub long_tells : (new : LargeTable) → Becomes large new (λ ps. with_length ps addr n) → Always (rested long) (λ s. (leaves_whole (now s (rested long)).state whats.Large ≡ true) × StandsForLarge (rested long).opening (now s (rested long)).state (layer_of new))
      long_tells new becomes s q =
          let qk = setting_before k z (zeroing_more flags.zero addr size n) zz.added.goes s q in
          let gs = grown_state k z addr (place_of b) size n (256 * pages_of n) flags (large_slot ∷ []) call h.serving zz x st sz s q in
          let e = ap (λ (y : State). y.large) gs ∙ ap (change_found (is_live_at addr) (resize_place (256 * pages_of n) n)) ((zz.kept s q).large (held_now s qk)) in
          (refl, subst (λ (o : Opening). StandsForLarge o (now s long).state (layer_of new)) (sym zz.added.goes.opening) (large_then (now s long).state new becomes s qk e))
