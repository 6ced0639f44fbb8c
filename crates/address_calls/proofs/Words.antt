-- The words of a block whose size a legal history tells are data words.
use Rattle.std.proofs.Common.{◌≡◌, ℕ, ◌+◌, ◌-◌, ◌*◌, ◌/◌, ◌%◌, ◌<◌, ◌≤◌, ◌==◌, Bool, true, false, cond, List, [], ◌∷◌, ◌++◌, refl, sym, ap, ◌∙◌, subst, arith, inl, inr, ltb, leb}
use Rattle.std.specs.List.{AllByRecursion}
use Rattle.std.proofs.lemmas.Bool.{cases_Bool, and_parts, eqb-true, ltb-true, false≢true}
use Rattle.std.proofs.lemmas.List.{append-nil}
use Rattle.heap_model.specs.declared.Act.{Act}
use Rattle.heap_model.specs.declared.Act.TheVariants as acts
use Rattle.heap_model.specs.declared.Call.{Call}
use Rattle.heap_model.specs.declared.Entry.{Entry}
use Rattle.heap_model.specs.declared.Kind.{Kind}
use Rattle.heap_model.specs.declared.Kind.TheVariants as kinds
use Rattle.heap_model.specs.declared.Layer.{Layer}
use Rattle.heap_model.specs.declared.Layer.TheVariants as layers
use Rattle.heap_model.specs.declared.Opening.{Opening}
use Rattle.heap_model.specs.Limits.{AreValid}
use Rattle.heap_model.specs.Geometry.{words_of}
use Rattle.heap_model.specs.State.{Setting, IsValidSetting, Place, Status, Live, InHand, address, room, is_layer, is_live_of, all_places, exclusive_places, has_address, place_at}
use Rattle.heap_model.specs.CallState.{Configuration, caller_view}
use Rattle.heap_model.specs.Legal.{may_follow, after}
use Rattle.heap_model.specs.History.{may_all_follow, first_configuration, own}
use Rattle.heap_model.specs.Shape.{shape_of, is_left_out}
use Rattle.heap_model.proofs.GateSound.{row_of}
use Rattle.heap_model.proofs.ListLemmas.{for_some_parts}
use Rattle.heap_soundness.specs.Sound.{IsOneOf, IsCommittedSpan, IsInLarge, IsAligned, HasSoundSize}
use Rattle.heap_soundness.specs.Invariant.{Keeps}
use Rattle.heap_soundness.proofs.Addresses.{exclusive_in_all, in_parts}
use Rattle.heap_soundness.proofs.Kept.{keeps_after, keeps_first}
use Rattle.heap_soundness.proofs.Lists.{all_at, all_weaker, found_passes, found_in}
use Rattle.heap_soundness.proofs.Spans.{above}
use Rattle.heap_soundness.proofs.Whole.{LiesInSpan, HasAddress, in_vs, in_lfh, in_back, of_all, all_addresses}
use Rattle.claim_rule.specs.Entries.{IsLegalWith, setting_of, have_slots, entry}
use Rattle.claim_rule.specs.Places.{data_count}
use Rattle.claim_rule.proofs.Advance.{some_setting}
use Rattle.claim_rule.proofs.Lists.{legal_parts}
use Rattle.step_parts.proofs.FrontEnd.{valid_setting}
use Rattle.call_laws.specs.Within.{by_all}
use Rattle.heap_gate.specs.Token.{Token}
use Rattle.call_parts.specs.Calls.{Makes, all_own}

---- An entry of a legal list

-- a sound configuration before it, which it may follow
pub record IsReached (s : Setting) (e : Entry) : Type 0 where
  pub before : Configuration
  pub keeps : Keeps s before
  pub follows : may_follow s before e ≡ true

reached : (s : Setting) (m : Configuration) (es : List Entry) (e : Entry) → IsValidSetting s → Keeps s m → may_all_follow s m es ≡ true → IsOneOf e es → IsReached s e
reached s m [] e v w h i = absurd i
reached s m (x ∷ xs) e v w h (inl q) =
    let p = and_parts (may_follow s m x) (may_all_follow s (after s m x) xs) h in
    record { before = m; keeps = w; follows = subst (λ (y : Entry). may_follow s m y ≡ true) q p.0 }
reached s m (x ∷ xs) e v w h (inr i) =
    let p = and_parts (may_follow s m x) (may_all_follow s (after s m x) xs) h in
    reached s (after s m x) xs e v (keeps_after s m x v p.0 w) p.1 i

---- A live block in a sound configuration

is_size : (t : Status) (size : ℕ) → is_live_of size t ≡ true → t ≡ Live size
is_size (Live n) size h = ap Live (eqb-true n size h)
is_size (InHand c) size h = absurd (false≢true h)

by_eight : (a : ℕ) (l : Layer) → IsAligned a l → a % 8 ≡ 0
by_eight a layers.Lfh h = omega (arith, h)
by_eight a layers.Vs h = omega (arith, h)
by_eight a layers.Back h = omega (arith, h)
by_eight a layers.Large h = omega (arith, h)

end_of_room : (p : Place) → HasAddress p → address p + room p ≤ p.start + 16 * p.granules
end_of_room p h = by_layer (is_layer p.layer layers.Vs) h.low h.high
  where
    by_layer : (b : Bool) → p.start ≤ cond b (p.start + 16) p.start → cond b (p.start + 16) p.start < p.start + 16 * p.granules → cond b (p.start + 16) p.start + cond b (16 * p.granules - 16) (16 * p.granules) ≤ p.start + 16 * p.granules
    by_layer true l h = omega arith
    by_layer false l h = omega arith

module _ (s : Setting) (m : Configuration) (w : Keeps s m) where
  -- behind all segments and the large area
  abbrev top : ℕ
  top = 1048576 * s.limits.segments + 4096 * s.limits.large_pages

  abbrev EndsBelow : Place → Type 0
  EndsBelow p = p.start + 16 * p.granules ≤ top

  in_segments : (kind : Kind) (p : Place) → LiesInSpan m.state.back.area.spans kind p → EndsBelow p
  in_segments kind p u =
      let a = m.state.back.area in
      let some = (above 0 a.spans u.span w.heap.spans.in_order u.there).1 in
      let d = all_at (IsCommittedSpan a) u.span a.spans w.heap.spans.committed u.there (u.span.first + (u.span.pages - 1)) (omega arith) (omega arith) in
      let e = ltb-true ((u.span.first + (u.span.pages - 1)) / 256) a.reserved (and_parts (ltb ((u.span.first + (u.span.pages - 1)) / 256) a.reserved) (leb 2 ((u.span.first + (u.span.pages - 1)) % 256)) d.0).0 in
      let h = u.high in
      let r = w.reserved in
      omega arith

  in_large : (p : Place) → IsInLarge s.limits p.start p.granules → EndsBelow p
  in_large p u =
      let b = u.begins in
      let g = u.whole in
      let i = u.inside in
      omega arith

  all_end : AllByRecursion EndsBelow (all_places m.state)
  all_end = of_all s m w EndsBelow
      (all_weaker (LiesInSpan m.state.back.area.spans kinds.Lfh) EndsBelow m.state.lfh (λ p i u. in_segments kinds.Lfh p u) (in_lfh s m w))
      (all_weaker (LiesInSpan m.state.back.area.spans kinds.Vs) EndsBelow m.state.vs.places (λ p i u. in_segments kinds.Vs p u) (in_vs s m w))
      (all_weaker (LiesInSpan m.state.back.area.spans kinds.Back) EndsBelow m.state.back.places (λ p i u. in_segments kinds.Back p u) (in_back s m w))
      (all_weaker (λ p. IsInLarge s.limits p.start p.granules) EndsBelow m.state.large (λ p i u. in_large p u) w.heap.large.places)

  all_sizes : AllByRecursion (λ p. HasSoundSize p p.status) (all_places m.state)
  all_sizes = of_all s m w (λ p. HasSoundSize p p.status) w.sizes.lfh w.sizes.vs w.sizes.back w.sizes.large

  pub words_in : (p : Place) (a size : ℕ) → IsOneOf p (all_places m.state) → address p ≡ a → p.status ≡ Live size → a / 8 + words_of size ≤ data_count s.limits
  words_in p a size i at live =
      let h = all_at HasAddress p (all_places m.state) (all_addresses s m w) i in
      let end = all_at EndsBelow p (all_places m.state) all_end i in
      let z = (subst (HasSoundSize p) live (all_at (λ (q : Place). HasSoundSize q q.status) p (all_places m.state) all_sizes i)).0 in
      let r = end_of_room p h in
      let e : address p % 8 ≡ 0 = by_eight (address p) p.layer h.aligned in
      fits (address p) (room p) (p.start + 16 * p.granules) a size at e z r end
    where
      fits : (b room_is last a size : ℕ) → b ≡ a → b % 8 ≡ 0 → size ≤ room_is → b + room_is ≤ last → last ≤ top → a / 8 + words_of size ≤ data_count s.limits
      fits b room_is last a size at e z r end = omega (arith, at, e, z, r, end)

  pub words_told : (c a size : ℕ) → may_follow s m (entry c (acts.Sized a size)) ≡ true → a / 8 + words_of size ≤ data_count s.limits
  words_told c a size h =
      let row = row_of s m (entry c (acts.Sized a size)) h in
      let q = for_some_parts (place_at m.state c a) (λ p. is_live_of size p.status) (and_parts (caller_view m c).entered _ row).1 in
      let i = found_in (has_address a) (exclusive_places m.state c ++ all_places m.state) q.0 q.1 in
      let at = eqb-true (address q.0) a (found_passes (has_address a) (exclusive_places m.state c ++ all_places m.state) q.0 q.1) in
      let among : IsOneOf q.0 (all_places m.state) = elim (in_parts q.0 (exclusive_places m.state c) (all_places m.state) i) [ inl j ↦ exclusive_in_all m.state c q.0 j | inr j ↦ j ] in
      words_in q.0 a size among at (is_size q.0.status size q.2)

---- Among what a part has added

one_more : {A : Type 0} (x y : A) (ls xs : List A) → (IsOneOf y ls → IsOneOf y xs) → IsOneOf y (x ∷ ls) → IsOneOf y (x ∷ xs)
one_more x y ls xs f (inl q) = inl q
one_more x y ls xs f (inr j) = inr (f j)

shown_in : (xs : List Act) (y : Act) → IsOneOf y (shape_of xs) → IsOneOf y xs
shown_in [] y i = absurd i
shown_in (x ∷ xs) y i = elim (cases_Bool (is_left_out x)) [
  | inl e ↦ inr (shown_in xs y (rw e at i))
  | inr e ↦ one_more x y (shape_of xs) xs (shown_in xs y) (rw e at i)
]

in_by_all : (n : ℕ) (xs : List Act) (y : Act) → IsOneOf y xs → IsOneOf (entry n y) (by_all n xs)
in_by_all n [] y i = absurd i
in_by_all n (x ∷ xs) y (inl e) = inl (ap (entry n) e)
in_by_all n (x ∷ xs) y (inr i) = inr (in_by_all n xs y i)

in_back_part : {A : Type 0} (x : A) (xs ys : List A) → IsOneOf x ys → IsOneOf x (xs ++ ys)
in_back_part x [] ys i = i
in_back_part x (y ∷ xs) ys i = inr (in_back_part x xs ys i)

of_own : (n : ℕ) (es : List Entry) (e : Entry) → IsOneOf e (own n es) → IsOneOf e es
of_own n [] e i = absurd i
of_own n (x ∷ xs) e i = elim (cases_Bool (x.caller == n)) [
  | inl q ↦ one_more x e (own n xs) xs (of_own n xs e) (rw q at i)
  | inr q ↦ inr (of_own n xs e (rw q at i))
]

-- a part that has told the size of a block: its words are data words
pub told_words : (a d : Token) (call : Call) (addr size : ℕ) → AreValid a.opening.limits → Makes a d call (acts.Sized addr size ∷ []) → d.opening ≡ a.opening → IsLegalWith d.opening d.roll d.seen → have_slots d.opening.limits.slots d.roll ≡ true
    → addr / 8 + words_of size ≤ data_count a.opening.limits
told_words a d call addr size valid m o legal slots =
    let y : Act = acts.Sized addr size in
    let shown : IsOneOf y m.added = shown_in m.added y (subst (IsOneOf y) (sym m.shape_is) (inl refl)) in
    let e : Entry = entry a.number y in
    let among : IsOneOf e (all_own a ++ by_all a.number m.added) = in_back_part e (all_own a) (by_all a.number m.added) (in_by_all a.number m.added y shown) in
    let mine : IsOneOf e (all_own d) = subst (IsOneOf e) (sym m.goes.own) among in
    let seen : IsOneOf e (own d.number d.seen) = subst (IsOneOf e) (ap (λ (l : List Entry). own d.number d.seen ++ l) m.stands.prepared ∙ append-nil (own d.number d.seen)) mine in
    let s = setting_of d.opening d.roll in
    let v : AreValid d.opening.limits = subst (λ (x : Opening). AreValid x.limits) (sym o) valid in
    let vs = valid_setting d.opening d.roll v slots in
    let r = reached s first_configuration d.seen e vs (keeps_first s) (legal_parts s d.seen (legal s (some_setting d.opening d.roll))).0 (of_own d.number d.seen e seen) in
    subst (λ (x : Opening). addr / 8 + words_of size ≤ data_count x.limits) o (words_told s r.before r.keeps a.number addr size r.follows)
