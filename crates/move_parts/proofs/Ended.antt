-- Behind the three entries that end a move: what the states of the layers tell then.
use Rattle.std.proofs.Common.{◌≡◌, ℕ, ◌+◌, ◌≤◌, true, false, List, [], ◌∷◌, length, Option, Some, None, refl, sym, ap, ◌∙◌, subst, arith, inl, inr}
use Rattle.std.specs.Prelude.{IsSome, option_map, option_and_then}
use Rattle.std.specs.List.{find}
use Rattle.std.proofs.lemmas.Bool.{cases_Bool}
use Rattle.heap_model.specs.declared.Act.{Act}
use Rattle.heap_model.specs.declared.Act.TheVariants as acts
use Rattle.heap_model.specs.declared.Call.{Call}
use Rattle.heap_model.specs.declared.Layer.{Layer}
use Rattle.heap_model.specs.declared.Layer.TheVariants as layers
use Rattle.heap_model.specs.declared.Opening.{Opening}
use Rattle.heap_model.specs.declared.What.TheVariants as whats
use Rattle.heap_model.specs.State.{Setting, State, Place, is_layer, is_live, live_size, has_address, is_live_at, places_of, remove_found}
use Rattle.heap_model.specs.Ranges.{vs_spans}
use Rattle.heap_model.specs.Legal.{leaves_whole, with_places}
use Rattle.heap_model.specs.Layers.{StandsForVs, StandsForBack, StandsForLarge, sorted_vs, sorted_back}
use Rattle.claim_rule.specs.Entries.{IsSettingOf, setting_of}
use Rattle.claim_rule.proofs.Advance.{some_setting}
use Rattle.backend_fit.specs.Kept.{Kept}
use Rattle.backend_fit.specs.Kept as backs
use Rattle.large_blocks.specs.declared.LargeBlock.{LargeBlock}
use Rattle.large_blocks.specs.Table.{LargeTable, is_at}
use Rattle.large_blocks.specs.Table as larges
use Rattle.large_blocks.specs.Effects as effects
use Rattle.large_blocks.specs.Sound.{IsSound}
use Rattle.large_blocks.proofs.Standing.{same_size}
use Rattle.vs_layer.specs.Kept.{VsKept}
use Rattle.vs_layer.specs.Standing as vss
use Rattle.heap_gate.specs.Calls.{rested}
use Rattle.heap_gate.specs.Token.{Token, Always, now, IsStanding}
use Rattle.call_parts.specs.Entries.{HasAdded, with_all}
use Rattle.call_parts.proofs.Joining.{setting_before}
use Rattle.call_parts.proofs.Tokens.{added_all, added_rested, added_then, length_all}
use Rattle.move_parts.specs.Moves.{IsHalfway, with_given, WillTellVs, WillTellBack, WillTellLarge, TellsVs, TellsBack, TellsLarge}
use Rattle.move_parts.specs.Places.{HasSwapped, HasChanged, EndsLarge}
use Rattle.move_parts.proofs.Halfway.{given_held_now}

---- States

-- VS stands where its part and its spans do
pub vs_stands : (o : Opening) (m k : State) (vs : VsKept) → StandsForVs o m (vss.layer_of vs) → k.vs ≡ m.vs → vs_spans k.back.area ≡ vs_spans m.back.area → StandsForVs o k (vss.layer_of vs)
vs_stands o m k vs t e f = record { lock = t.lock; limits = t.limits; key = t.key; part = t.part ∙ ap sorted_vs (sym e); spans = t.spans ∙ sym f }

pub vs_used : (m k : State) → k.vs ≡ m.vs → vs_spans k.back.area ≡ vs_spans m.back.area → leaves_whole m whats.Vs ≡ true → leaves_whole k whats.Vs ≡ true
vs_used m k e f h = (λ j. Rattle.std.specs.List.list_all (Rattle.heap_model.specs.Legal.has_place 4096 ((e j).places)) (f j)) ∙ h

pub back_stands : (o : Opening) (m k : State) (back : Kept) → StandsForBack o m (backs.layer_of back) → k.back ≡ m.back → StandsForBack o k (backs.layer_of back)
back_stands o m k back t e = record { lock = t.lock; limits = t.limits; part = t.part ∙ ap sorted_back (sym e) }

pub large_stands : (o : Opening) (m k : State) (large : LargeTable) → StandsForLarge o m (larges.layer_of large) → k.large ≡ m.large → StandsForLarge o k (larges.layer_of large)
large_stands o m k large t e = record { lock = t.lock; limits = t.limits; part = t.part ∙ ap Rattle.heap_model.specs.State.by_address (sym e) }

-- a layer is left alone where a place of another one goes
vs_alone : (st : State) (l : Layer) (f : List Place → List Place) → is_layer layers.Vs l ≡ false → (with_places st (Some l) f).vs ≡ st.vs
vs_alone st l f e = rw e refl

back_alone : (st : State) (l : Layer) (f : List Place → List Place) → is_layer layers.Back l ≡ false → (with_places st (Some l) f).back ≡ st.back
back_alone st l f e = rw e refl

large_alone : (st : State) (l : Layer) (f : List Place → List Place) → is_layer layers.Large l ≡ false → (with_places st (Some l) f).large ≡ st.large
large_alone st l f e = rw e refl

---- The token

module _ (c d : Token) (call : Call) (addr size b n : ℕ) (p q : Place) (out : List ℕ) (h : IsHalfway c call addr size p b n q out) (st : IsStanding c) (x : HasSwapped c d addr size p b n q) where
  abbrev three : List Act
  three = acts.Take addr size ∷ acts.Give b n ∷ acts.Drop addr ∷ []

  pub ended_added : HasAdded c d three
  ended_added = subst (λ (t : Token). HasAdded c t three) (sym x.prepared) (added_then c (with_all c three) (rested (with_all c three)) three [] (added_all c three refl) (added_rested (with_all c three)))

  pub before : (s : Setting) → IsSettingOf d.opening d.roll s → IsSettingOf c.opening c.roll s
  before s e = setting_before c d three ended_added.goes s e

  pub few_then : length d.prepared ≤ length c.prepared + 3
  few_then = let e = ap (λ (t : Token). length t.prepared) x.prepared in let k = length_all c three in omega (arith, e, k)

  pub changed : HasChanged c d addr size b n
  changed = record {
    last = [];
    last_is = inl refl;
    added = ended_added;
    out_is = ap (λ (t : Token). t.out) x.prepared;
    whole = ap (λ (t : Token). t.whole) x.prepared;
    free = ap (λ (t : Token). t.free) x.prepared;
    pending = ap (λ (t : Token). t.pending) x.prepared;
    few = let e = few_then in omega (arith, e);
  }

  abbrev pub g : Setting → State
  g s = with_given (now s c).state c.number q n

  abbrev gone : List Place → List Place
  gone ps = remove_found (has_address addr) ps

  same_opening : d.opening ≡ c.opening
  same_opening = ended_added.goes.opening

  pub vs_other : is_layer layers.Vs p.layer ≡ false → (vs : VsKept) → WillTellVs c q n vs → TellsVs d vs
  vs_other k vs w = record {
    tells = λ s e. subst (λ (o : Opening). StandsForVs o (now s d).state (vss.layer_of vs)) (sym same_opening) (vs_stands c.opening (g s) (now s d).state vs (w s (before s e)).1 (part s e) (spans s e));
    used = λ s e. vs_used (g s) (now s d).state (part s e) (spans s e) (w s (before s e)).0;
  }
    where
      part : Always d (λ s. (now s d).state.vs ≡ (g s).vs)
      part s e = ap (λ (y : State). y.vs) (x.state s e) ∙ vs_alone (g s) p.layer gone k

      spans : Always d (λ s. vs_spans (now s d).state.back.area ≡ vs_spans (g s).back.area)
      spans s e = ap (λ (y : State). vs_spans y.back.area) (x.state s e)

  pub back_other : is_layer layers.Back p.layer ≡ false → (back : Kept) → WillTellBack c q n back → TellsBack d back
  back_other k back w s e =
      subst (λ (o : Opening). StandsForBack o (now s d).state (backs.layer_of back)) (sym same_opening)
      (back_stands c.opening (g s) (now s d).state back (w s (before s e)) (ap (λ (y : State). y.back) (x.state s e) ∙ back_alone (g s) p.layer gone k))

  pub large_other : is_layer layers.Large p.layer ≡ false → (large : LargeTable) → WillTellLarge c q n large → TellsLarge d large
  large_other k large w s e =
      subst (λ (o : Opening). StandsForLarge o (now s d).state (larges.layer_of large)) (sym same_opening)
      (large_stands c.opening (g s) (now s d).state large (w s (before s e)) (ap (λ (y : State). y.large) (x.state s e) ∙ large_alone (g s) p.layer gone k))

  ---- An old block of the large area

  module _ (is_large : p.layer ≡ layers.Large) where
    pub large_gone : (large more : LargeTable) → WillTellLarge c q n large → effects.Becomes large more (λ ps. effects.without_block ps addr) → TellsLarge d more
    large_gone large more w becomes s e =
        let same : (now s d).state.large ≡ remove_found (has_address addr) (g s).large = ap (λ (y : State). y.large) (x.state s e) ∙ ap (λ (l : Layer). (with_places (g s) (Some l) gone).large) is_large in
        subst (λ (o : Opening). StandsForLarge o (now s d).state (larges.layer_of more)) (sym same_opening) (becomes c.opening (g s) (now s d).state (w s (before s e)) same)

    not_layer : (l : Layer) → is_layer l layers.Large ≡ false → is_layer l p.layer ≡ false
    not_layer l k = ap (is_layer l) is_large ∙ k

    pub ends_large : (large more : LargeTable) → WillTellLarge c q n large → effects.Becomes large more (λ ps. effects.without_block ps addr) → EndsLarge c d addr size b n q more
    ends_large large more w becomes = record {
      changed = changed;
      large = large_gone large more w becomes;
      vs = vs_other (not_layer layers.Vs refl);
      back = back_other (not_layer layers.Back refl);
    }

-- where the first place of an address is live, it is the first live one
pub live_found : (a : ℕ) (ps : List Place) (p : Place) → find (has_address a) ps ≡ Some p → is_live p.status ≡ true → find (is_live_at a) ps ≡ Some p
live_found a [] p f l = absurd (let no : ⊥ = cc in no)
live_found a (y ∷ ys) p f l = elim (cases_Bool (has_address a y)) [
  | inl k ↦
      let same : Some y ≡ Some p = rw k at f in let is : y ≡ p = cc in
      let live : is_live y.status ≡ true = ap (λ (z : Place). is_live z.status) is ∙ l in
      rw (k, live) same
  | inr k ↦ rw k (live_found a ys p (rw k at f) l)
]

pub some_mapped : (o : Option LargeBlock) (size : ℕ) → option_map (λ b. b.size) o ≡ Some size → IsSome o
some_mapped (Some b) size e = refl
some_mapped None size e = absurd (let no : ⊥ = cc in no)

-- the table has the old block still
pub large_there : (c : Token) (call : Call) (addr size b n : ℕ) (p q : Place) (out : List ℕ) → IsHalfway c call addr size p b n q out → IsStanding c → p.layer ≡ layers.Large → (large : LargeTable) → WillTellLarge c q n large → IsSound large
    → IsSome (find (is_at addr) large.blocks)
large_there c call addr size b n p q out h st is_large large w sound =
    let s = setting_of c.opening c.roll in let e = some_setting c.opening c.roll in
    let k = given_held_now c call addr size b n p q out h st s e in
    let g = with_given (now s c).state c.number q n in
    let there : find (has_address addr) g.large ≡ Some p = subst (λ (l : Layer). find (has_address addr) (places_of g l) ≡ Some p) is_large k in
    let found = live_found addr g.large p there (ap is_live (h.old s e).live) in
    some_mapped (find (is_at addr) large.blocks) size
    (same_size large sound.laid addr c.opening g (w s e) ∙ (ap (option_and_then (λ (y : Place). live_size y.status)) found ∙ ap live_size (h.old s e).live))
