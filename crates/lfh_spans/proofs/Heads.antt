-- No legal history has a span that begins behind the segments.
use Rattle.std.proofs.Common.{◌≡◌, ℕ, ◌+◌, ◌*◌, ◌/◌, ◌<◌, ◌≤◌, Bool, true, ◌==◌, List, [], ◌∷◌, Option, Some, None, subst, arith, inl, inr}
use Rattle.std.specs.Prelude.{nat_lt}
use Rattle.std.specs.List.{AllByRecursion}
use Rattle.std.proofs.lemmas.Bool.{cases_Bool, and_parts, ltb-true, eqb-true, eqb-false}
use Rattle.heap_model.specs.declared.Act.{Act}
use Rattle.heap_model.specs.declared.Act.TheVariants as acts
use Rattle.heap_model.specs.declared.Entry.{Entry}
use Rattle.heap_model.specs.declared.What.TheVariants as whats
use Rattle.heap_model.specs.declared.Layer.TheVariants as layers
use Rattle.heap_model.specs.State.{Setting, Area, Span, Place, insert_span, remove_found, change_found, place_at, is_layer}
use Rattle.heap_model.specs.CallState.{Configuration}
use Rattle.heap_model.specs.Legal.{after, may, may_follow, is_back_at, with_pages, area_with}
use Rattle.heap_model.specs.Search.{begins_at}
use Rattle.heap_model.specs.History.{configuration_after, configuration_of, first_configuration, may_all_follow, is_legal}
use Rattle.heap_model.proofs.GateSound.{row_of}
use Rattle.claim_rule.specs.declared.views.Owed.{Owed}
use Rattle.claim_rule.proofs.Lists.{legal_parts}
use Rattle.look_steps.specs.Looks.{IsHintWord}
use Rattle.step_parts.specs.Seen.{IsSeen}
use Rattle.step_parts.proofs.BlockWords.{in_lfh}
use Rattle.heap_soundness.specs.Sound.{IsOneOf}
use Rattle.heap_soundness.proofs.Lists.{all_at}

-- it begins in a reserved segment
abbrev IsLow : ℕ → Span → Type 0
IsLow reserved x = x.first / 256 < reserved

record IsBounded (segments : ℕ) (a : Area) : Type 0 where
  pub reserved : a.reserved ≤ segments
  pub spans : AllByRecursion (IsLow a.reserved) a.spans

more : (r : ℕ) (xs : List Span) → AllByRecursion (IsLow r) xs → AllByRecursion (IsLow (r + 1)) xs
more r [] h = tt
more r (x ∷ xs) h = ((let l = h.0 in omega arith), more r xs h.1)

inserted : (r : ℕ) (x : Span) (xs : List Span) → IsLow r x → AllByRecursion (IsLow r) xs → AllByRecursion (IsLow r) (insert_span x xs)
inserted r x [] l h = (l, tt)
inserted r x (y ∷ ys) l h = elim (cases_Bool (nat_lt x.first y.first)) [ inl e ↦ rw e (l, h) | inr e ↦ rw e (h.0, inserted r x ys l h.1) ]

removed : (r : ℕ) (t : Span → Bool) (xs : List Span) → AllByRecursion (IsLow r) xs → AllByRecursion (IsLow r) (remove_found t xs)
removed r t [] h = tt
removed r t (x ∷ xs) h = elim (cases_Bool (t x)) [ inl e ↦ rw e h.1 | inr e ↦ rw e (h.0, removed r t xs h.1) ]

changed : (r pages : ℕ) (t : Span → Bool) (xs : List Span) → AllByRecursion (IsLow r) xs → AllByRecursion (IsLow r) (change_found t (with_pages pages) xs)
changed r pages t [] h = tt
changed r pages t (x ∷ xs) h = elim (cases_Bool (t x)) [ inl e ↦ rw e (h.0, h.1) | inr e ↦ rw e (h.0, changed r pages t xs h.1) ]

resized : (segments granules : ℕ) (a : Area) (o : Option Place) → IsBounded segments a → IsBounded segments (area_with a granules o)
resized segments granules a None h = h
resized segments granules a (Some p) h = elim (cases_Bool (is_layer p.layer layers.Back)) [
  | inl e ↦ rw e (record { reserved = h.reserved; spans = changed a.reserved (granules / (4096 / 16)) (is_back_at (p.start / 4096)) a.spans h.spans })
  | inr e ↦ rw e h
]

module _ (s : Setting) (m : Configuration) (n : ℕ) (h : IsBounded s.limits.segments m.state.back.area) where
  abbrev Behind : Act → Type 0
  Behind act = IsBounded s.limits.segments (after s m (record { caller = n; act = act })).state.back.area

  behind : (act : Act) → may s m n act ≡ true → Behind act
  behind (acts.Reserve segment) ok =
      let p = and_parts _ (nat_lt segment s.limits.segments) ok in
      let q = and_parts _ (segment == m.state.back.area.reserved) p.0 in
      let low = ltb-true segment s.limits.segments p.1 in
      let same = eqb-true segment m.state.back.area.reserved q.1 in
      record { reserved = omega arith; spans = more m.state.back.area.reserved m.state.back.area.spans h.spans }
  behind (acts.Span first pages kind bucket slot) ok =
      let p = and_parts _ _ (and_parts _ _ ok).0 in
      let low = ltb-true (first / 256) m.state.back.area.reserved (and_parts _ (nat_lt (first / 256) m.state.back.area.reserved) p.0).1 in
      record { reserved = h.reserved; spans = inserted m.state.back.area.reserved (record { first = first; pages = pages; kind = kind; bucket = bucket; slot = slot }) m.state.back.area.spans low h.spans }
  behind (acts.Unspan first) ok = record { reserved = h.reserved; spans = removed m.state.back.area.reserved (begins_at first) m.state.back.area.spans h.spans }
  behind (acts.Resize a granules size) ok = resized s.limits.segments granules m.state.back.area (place_at m.state n a) h
  behind (acts.Decommit page) ok = record { reserved = h.reserved; spans = h.spans }
  behind (acts.Begin call) ok = h
  behind acts.Enter ok = h
  behind acts.Leave ok = h
  behind acts.Lock ok = h
  behind acts.Unlock ok = h
  behind (acts.Blocked whats.Gate word) ok = h
  behind (acts.Blocked whats.Lfh word) ok = h
  behind (acts.Blocked whats.Vs word) ok = h
  behind (acts.Blocked whats.Back word) ok = h
  behind (acts.Blocked whats.Large word) ok = h
  behind (acts.TakeLock what) ok = h
  behind (acts.GiveLock what) ok = h
  behind (acts.Place start granules layer) ok = h
  behind (acts.Saw head word bits) ok = h
  behind (acts.Lost head index) ok = h
  behind (acts.NoHint bucket slot) ok = h
  behind (acts.Give a size) ok = h
  behind (acts.Take a size) ok = h
  behind (acts.Drop a) ok = h
  behind (acts.Active bucket) ok = h
  behind (acts.NoSpan bucket) ok = h
  behind (acts.NoFit size) ok = h
  behind (acts.NotLive a) ok = h
  behind (acts.Sized a size) ok = h
  behind (acts.Load w v) ok = h
  behind (acts.Store w v) ok = h

bounded : (s : Setting) (m : Configuration) (es : List Entry) → may_all_follow s m es ≡ true → IsBounded s.limits.segments m.state.back.area → IsBounded s.limits.segments (configuration_after s m es).state.back.area
bounded s m [] ok h = h
bounded s m (e ∷ es) ok h =
    let p = and_parts (may_follow s m e) (may_all_follow s (after s m e) es) ok in
    bounded s (after s m e) es p.1 (behind s m e.caller h e.act (row_of s m e p.0))

pub heads_below : (s : Setting) (es : List Entry) → may_all_follow s first_configuration es ≡ true → (x : Span) → IsOneOf x (configuration_of s es).state.back.area.spans → x.first < 256 * s.limits.segments
heads_below s es ok x i =
    let b = bounded s first_configuration es ok (record { reserved = omega arith; spans = tt }) in
    let low = all_at (IsLow (configuration_of s es).state.back.area.reserved) x (configuration_of s es).state.back.area.spans b.spans i in
    let few = b.reserved in
    omega arith

-- so a hint is small
pub seen_small : (s : Setting) (es : List Entry) (b t head : ℕ) → is_legal s es ≡ true → IsSeen (configuration_of s es) head b t → head < 256 * s.limits.segments
seen_small s es b t head ok h =
    let i = in_lfh (configuration_of s es).state.back.area.spans h.span h.there in
    subst (λ (x : ℕ). x < 256 * s.limits.segments) h.begins (heads_below s es (legal_parts s es ok).0 h.span i.0)

pub hint_small : (s : Setting) (es : List Entry) (n b t : ℕ) (owes : List Owed) (r : ℕ) → 0 < s.limits.segments → is_legal s es ≡ true → IsHintWord (configuration_of s es) n b t owes r → r < 256 * s.limits.segments
hint_small s es n b t owes r some ok h = elim (cases_Bool (r == 0)) [
  | inl e ↦ let z = eqb-true r 0 e in omega arith
  | inr e ↦ seen_small s es b t r ok (h.seen (eqb-false r 0 e))
]
