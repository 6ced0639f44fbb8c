-- What the variable-size layer stands for behind each of its calls.
use Rattle.std.proofs.Common.{◌≡◌, ℕ, suc, ◌+◌, ◌*◌, ◌<◌, Bool, true, false, List, [], ◌∷◌, Option, Some, None, refl, sym, ap, subst, ◌∙◌, arith, eqb, inl, inr, replicate}
use Rattle.std.specs.List.{list_any, slice_index_or}
use Rattle.std.proofs.lemmas.Bool.{cases_Bool, cases_lt, and_parts, eqb-true, ne_eqb}
use Rattle.std.proofs.lemmas.List.{get_or-replicate, get_or_past, length-replicate}
use Rattle.std.proofs.Math.Path.{fun_ext}
use Rattle.heap_model.specs.declared.Limits.{Limits}
use Rattle.heap_model.specs.declared.Opening.{Opening}
use Rattle.heap_model.specs.Buckets.{bucket_of}
use Rattle.heap_model.specs.Geometry.{units_of}
use Rattle.heap_model.specs.Runs.{Run}
use Rattle.heap_model.specs.State.{Span, Place, VsPart, has_address, is_live_at, insert_place, insert_span, by_address, change_found, remove_found, updated, opening}
use Rattle.heap_model.specs.Ranges.{taken_of}
use Rattle.heap_model.specs.Search.{begins_at}
use Rattle.heap_model.specs.Legal.{resize_place, serve}
use Rattle.heap_model.specs.Layers.{StandsForVs, header_key, sorted_vs}
use Rattle.serial_laws.proofs.Sorted.{OnlyOne, removed_sorted, changed_sorted}
use Rattle.vs_headers.specs.declared.Head.{Head}
use Rattle.vs_layer.specs.Kept.{VsKept, vs_span, place_of, places_from, places_of, part_of, block_in, place_for, block_at, reach_of}
use Rattle.vs_layer.specs.Effects.{nothing_kept, HasPlaced, HasDropped, HasResized, IsClosed}
use Rattle.vs_layer.specs.Standing.{layer_of, Becomes, with_block, without_block, with_length, with_active, without_closed}
use Rattle.vs_layer.proofs.Opening.{places_none}

---- At most one block has an address

none_from : (a g : ℕ) (hs : List (Option Head)) → a < 16 * g + 16 → list_any (has_address a) (places_from g hs) ≡ false
none_from a g [] l = refl
none_from a g (None ∷ hs) l = none_from a (suc g) hs (omega arith)
none_from a g (Some h ∷ hs) l = elim (cases_Bool h.busy) [
  | inl e ↦ let d = ne_eqb (16 * g + 16) a (λ k. omega (arith, k, l)) in rw (e, d) (none_from a (suc g) hs (omega arith))
  | inr e ↦ rw e (none_from a (suc g) hs (omega arith))
]

pub one_from : (a g : ℕ) (hs : List (Option Head)) → OnlyOne (has_address a) (places_from g hs)
one_from a g [] = tt
one_from a g (None ∷ hs) = one_from a (suc g) hs
one_from a g (Some h ∷ hs) = elim (cases_Bool h.busy) [
  | inl e ↦ rw e ((λ t. none_from a (suc g) hs (omega (arith, eqb-true (16 * g + 16) a t))), one_from a (suc g) hs)
  | inr e ↦ rw e (one_from a (suc g) hs)
]

-- each block is live
live_none : (a g : ℕ) (hs : List (Option Head)) → a < 16 * g + 16 → list_any (is_live_at a) (places_from g hs) ≡ false
live_none a g [] l = refl
live_none a g (None ∷ hs) l = live_none a (suc g) hs (omega arith)
live_none a g (Some h ∷ hs) l = elim (cases_Bool h.busy) [
  | inl e ↦ let d = ne_eqb (16 * g + 16) a (λ k. omega (arith, k, l)) in rw (e, d) (live_none a (suc g) hs (omega arith))
  | inr e ↦ rw e (live_none a (suc g) hs (omega arith))
]

live_one : (a g : ℕ) (hs : List (Option Head)) → OnlyOne (is_live_at a) (places_from g hs)
live_one a g [] = tt
live_one a g (None ∷ hs) = live_one a (suc g) hs
live_one a g (Some h ∷ hs) = elim (cases_Bool h.busy) [
  | inl e ↦ rw e ((λ t. live_none a (suc g) hs (omega (arith, eqb-true (16 * g + 16) a (and_parts (eqb (16 * g + 16) a) true t).0))), live_one a (suc g) hs)
  | inr e ↦ rw e (live_one a (suc g) hs)
]

live_changed : (a g : ℕ) (f : Place → Place) (hs : List (Option Head)) → change_found (has_address a) f (places_from g hs) ≡ change_found (is_live_at a) f (places_from g hs)
live_changed a g f [] = refl
live_changed a g f (None ∷ hs) = live_changed a (suc g) f hs
live_changed a g f (Some h ∷ hs) = elim (cases_Bool h.busy) [
  | inl e ↦ elim (cases_Bool (eqb (16 * g + 16) a)) [
    | inl d ↦ rw (e, d) refl
    | inr d ↦ rw (e, d) (ap (λ (ps : List Place). place_of g h ∷ ps) (live_changed a (suc g) f hs))
  ]
  | inr e ↦ rw e (live_changed a (suc g) f hs)
]

---- It is enough to speak of what the lock guards

becomes : (old new : VsKept) (f : VsPart → VsPart) (g : List Span → List Span) → new.limits ≡ old.limits → new.chunks.key ≡ old.chunks.key →
    ((v : VsPart) → part_of old ≡ sorted_vs v → part_of new ≡ sorted_vs (f v)) → new.spans ≡ g old.spans → Becomes old new f g
becomes old new f g l k h s o st later t e d = record {
  lock = refl;
  limits = l ∙ t.limits;
  key = k ∙ t.key;
  part = h st.vs t.part ∙ ap sorted_vs (sym e);
  spans = s ∙ ap g t.spans ∙ sym d;
}

-- whether a bucket is active, and how often it was served, as lists tell
abbrev active_in : List Bool → ℕ → Bool
active_in bs b = slice_index_or bs b false

abbrev served_in : List ℕ → ℕ → ℕ
served_in ns b = slice_index_or ns b 0

all_of : (k : VsKept) (v : VsPart) → places_of k ≡ by_address v.places → (part_of k).active ≡ v.active → (part_of k).served ≡ v.served → part_of k ≡ sorted_vs v
all_of k v p a s = λ i. record { places = p i; active = a i; served = s i }

none_told : {A : Type 0} (n b : ℕ) (d : A) → slice_index_or (replicate n d) b d ≡ d
none_told n b d = elim (cases_lt b n) [ inl l ↦ get_or-replicate n b d d l | inr l ↦ get_or_past (replicate n d) b d (omega (arith, length-replicate n d)) ]

none_kept : (l : Limits) (key : ℕ) → part_of (nothing_kept l key) ≡ opening.vs
none_kept l key = λ i. record { places = places_none 0 (65536 * l.segments) i; active = fun_ext (λ b. none_told 129 b false) i; served = fun_ext (λ b. none_told 129 b 0) i }

pub opens : (l : Limits) (key : ℕ) (k : VsKept) → k ≡ nothing_kept l key → (o : Opening) → o.limits ≡ l → header_key o.seed ≡ key → StandsForVs o opening (layer_of k)
opens l key k e o f h = record {
  lock = refl;
  limits = ap (λ (x : VsKept). x.limits) e ∙ sym f;
  key = ap (λ (x : VsKept). x.chunks.key) e ∙ sym h;
  part = ap part_of e ∙ none_kept l key;
  spans = ap (λ (x : VsKept). x.spans) e;
}

module _ (old new : VsKept) (limits : new.limits ≡ old.limits) where
  module _ (v : VsPart) (t : part_of old ≡ sorted_vs v) where
    places_are : places_of old ≡ by_address v.places
    places_are = ap (λ (x : VsPart). x.places) t

    active_are : (part_of old).active ≡ v.active
    active_are = ap (λ (x : VsPart). x.active) t

    served_are : (part_of old).served ≡ v.served
    served_are = ap (λ (x : VsPart). x.served) t

    only : (a : ℕ) → OnlyOne (has_address a) (by_address v.places)
    only a = subst (OnlyOne (has_address a)) places_are (one_from a 0 old.chunks.heads)

    removed : (a : ℕ) → remove_found (has_address a) (places_of old) ≡ by_address (remove_found (has_address a) v.places)
    removed a = ap (remove_found (has_address a)) places_are ∙ sym (removed_sorted (has_address a) v.places (only a))

    only_live : (a : ℕ) → OnlyOne (is_live_at a) (by_address v.places)
    only_live a = subst (OnlyOne (is_live_at a)) places_are (live_one a 0 old.chunks.heads)

    changed : (a granules n : ℕ) → change_found (has_address a) (resize_place granules n) (places_of old) ≡ by_address (change_found (is_live_at a) (resize_place granules n) v.places)
    changed a granules n =
        live_changed a 0 (resize_place granules n) old.chunks.heads
        ∙ ap (change_found (is_live_at a) (resize_place granules n)) places_are
        ∙ sym (changed_sorted (is_live_at a) (resize_place granules n) (λ (p : Place). refl) v.places (only_live a))

  pub adds : (first pages : ℕ) → new.spans ≡ insert_span (vs_span first pages) old.spans → places_of new ≡ places_of old → (part_of new).active ≡ (part_of old).active → (part_of new).served ≡ (part_of old).served
      → new.chunks.key ≡ old.chunks.key → Becomes old new (λ v. v) (insert_span (vs_span first pages))
  adds first pages spans places active served key =
      becomes old new (λ v. v) (insert_span (vs_span first pages)) limits key
      (λ v t. all_of new v (places ∙ places_are v t) (active ∙ active_are v t) (served ∙ served_are v t)) spans

  pub activates : (bucket : ℕ) → (part_of new).active ≡ updated (part_of old).active bucket true → places_of new ≡ places_of old → (part_of new).served ≡ (part_of old).served → new.spans ≡ old.spans
      → new.chunks.key ≡ old.chunks.key → Becomes old new (λ v. with_active v bucket) (λ xs. xs)
  activates bucket active places served spans key =
      becomes old new (λ v. with_active v bucket) (λ xs. xs) limits key
      (λ v t. all_of new (with_active v bucket) (places ∙ places_are v t) (active ∙ ap (λ (f : ℕ → Bool). updated f bucket true) (active_are v t)) (served ∙ served_are v t)) spans

  pub places : (n addr : ℕ) → HasPlaced old new n addr → (r : Run) → place_for old n ≡ Some r → Becomes old new (λ v. with_block v r n) (λ xs. xs)
  places n addr p r e =
      let is : Some p.run ≡ Some r = sym p.place ∙ e in
      let same : p.run ≡ r = cc in
      subst (λ (q : Run). Becomes old new (λ v. with_block v q n) (λ xs. xs)) same
      (becomes old new (λ v. with_block v p.run n) (λ xs. xs) limits p.heap.key
      (λ v t. all_of new (with_block v p.run n) (p.places ∙ ap (insert_place (block_in p.run n)) (places_are v t))
      (ap active_in p.active ∙ active_are v t)
      (p.served ∙ ap (serve (bucket_of n)) (served_are v t)))
      p.spans)

  pub drops : (addr : ℕ) (answer : Option (ℕ × ℕ)) → HasDropped old new addr answer → Becomes old new (λ v. without_block v addr) (without_closed answer)
  drops addr answer d =
      becomes old new (λ v. without_block v addr) (without_closed answer) limits d.heap.key
      (λ v t. all_of new (without_block v addr) (d.places ∙ removed v t addr)
      (ap active_in d.active ∙ active_are v t)
      (ap served_in d.served ∙ served_are v t))
      (left answer d.closed)
    where
      left : (answer : Option (ℕ × ℕ)) → IsClosed old new d.span answer → new.spans ≡ without_closed answer old.spans
      left None c = c.1
      left (Some closed) c = c.3 ∙ ap (λ (first : ℕ). remove_found (begins_at first) old.spans) (sym c.1)

  pub resizes : (addr n : ℕ) → HasResized old new addr n → (p : Place) → block_at old addr ≡ Some p →
      Becomes old new (λ v. with_length v addr (taken_of (units_of n) (reach_of old p)) n) (λ xs. xs)
  resizes addr n r p e =
      let is : Some r.place ≡ Some p = sym r.there ∙ e in
      let same : r.place ≡ p = cc in
      subst (λ (q : Place). Becomes old new (λ v. with_length v addr (taken_of (units_of n) (reach_of old q)) n) (λ xs. xs)) same
      (becomes old new (λ v. with_length v addr (taken_of (units_of n) (reach_of old r.place)) n) (λ xs. xs) limits r.heap.key
      (λ v t. all_of new (with_length v addr (taken_of (units_of n) (reach_of old r.place)) n) (r.places ∙ changed v t addr (taken_of (units_of n) (reach_of old r.place)) n)
      (ap active_in r.active ∙ active_are v t)
      (ap served_in r.served ∙ served_are v t))
      r.spans)
