-- A block of VS that was placed in a gap.
use Rattle.std.proofs.Common.{◌≡◌, ℕ, ◌+◌, ◌-◌, ◌*◌, true, ◌∷◌, Some, refl, sym, ap, ◌∙◌, subst, arith, eq-eqb}
use Rattle.std.specs.List.{find}
use Rattle.heap_model.specs.declared.Act.TheVariants as acts
use Rattle.heap_model.specs.declared.Layer.TheVariants as layers
use Rattle.heap_model.specs.declared.Opening.{Opening}
use Rattle.heap_model.specs.Layers.{StandsForVs}
use Rattle.heap_model.specs.Runs.{Run}
use Rattle.heap_model.specs.State.{State, Place, VsPart, has_address, by_address, insert_place}
use Rattle.claim_rule.specs.Entries.{may_prepare, setting_of}
use Rattle.claim_rule.proofs.Advance.{some_setting}
use Rattle.serial_laws.proofs.Sorted.{OnlyOne, found_sorted}
use Rattle.vs_layer.specs.Effects.{HasPlaced}
use Rattle.vs_layer.specs.Kept.{VsKept, places_of, place_for, block_at, block_in}
use Rattle.vs_layer.specs.Standing.{layer_of, Becomes, with_block}
use Rattle.vs_layer.proofs.Standing.{one_from}
use Rattle.heap_gate.specs.Token.{Token, Always, now}
use Rattle.heap_gate.specs.Calls.{with_prepared}
use Rattle.vs_calls.specs.Blocks.{HasHeld}

---- The block

-- it is found by its address
pub placed_there : (o : Opening) (st : State) (vs later : VsKept) (n addr : ℕ) → StandsForVs o st (layer_of vs) → (x : HasPlaced vs later n addr) → block_at later addr ≡ Some (block_in x.run n)
placed_there o st vs later n addr t x = ap (find (has_address addr)) listed ∙ (found_sorted (has_address addr) (block ∷ st.vs.places) only ∙ first)
  where
    block : Place
    block = block_in x.run n

    listed : places_of later ≡ by_address (block ∷ st.vs.places)
    listed = x.places ∙ ap (insert_place block) (sym (ap (λ (v : VsPart). v.places) (sym t.part)))

    only : OnlyOne (has_address addr) (by_address (block ∷ st.vs.places))
    only = subst (OnlyOne (has_address addr)) listed (one_from addr 0 later.chunks.heads)

    first : find (has_address addr) (block ∷ st.vs.places) ≡ Some block
    first = let e = eq-eqb (16 * x.run.first + 16) addr (sym x.address) in rw e refl

-- .. by what a caller has of the layer
pub placed_here : (c : Token) (vs later : VsKept) (n addr : ℕ) → Always c (λ s. StandsForVs c.opening (now s c).state (layer_of vs)) → (x : HasPlaced vs later n addr) → block_at later addr ≡ Some (block_in x.run n)
placed_here c vs later n addr tells x =
    let s = setting_of c.opening c.roll in placed_there c.opening (now s c).state vs later n addr (tells s (some_setting c.opening c.roll)) x

---- Its place is prepared

module _ (c : Token) (vs later : VsKept) (n addr granules : ℕ) (tells : Always c (λ s. StandsForVs c.opening (now s c).state (layer_of vs))) (x : HasPlaced vs later n addr)
    (told : (p : Place) → block_at later addr ≡ Some p → granules ≡ p.granules) where
  granules_are : granules ≡ x.run.count
  granules_are = told (block_in x.run n) (placed_here c vs later n addr tells x)

  start_is : addr - 16 ≡ 16 * x.run.first
  start_is = let e = x.address in omega (arith, e)

  pub place_may : ((run : Run) → place_for vs n ≡ Some run → Always c (λ s. may_prepare s (now s c) c.number (acts.Place (16 * run.first) run.count layers.Vs) ≡ true))
      → Always c (λ s. may_prepare s (now s c) c.number (acts.Place (addr - 16) granules layers.Vs) ≡ true)
  place_may may s q =
      subst (λ (z : ℕ × ℕ). may_prepare s (now s c) c.number (acts.Place z.0 z.1 layers.Vs) ≡ true) (λ i. (sym start_is i, sym granules_are i)) (may x.run x.place s q)

  pub held : (d : Token) → d ≡ with_prepared c (acts.Place (addr - 16) granules layers.Vs) → ((run : Run) → place_for vs n ≡ Some run → Becomes vs later (λ v. with_block v run n) (λ xs. xs)) → HasHeld c d vs later n addr
  held d e becomes = record {
    run = x.run;
    place = x.place;
    at = x.address;
    prepared = e ∙ (λ i. with_prepared c (acts.Place (start_is i) (granules_are i) layers.Vs));
    there = placed_here c vs later n addr tells x;
    becomes = becomes x.run x.place;
  }
