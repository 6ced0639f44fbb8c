-- The setting that the roll of the callers makes, and the entries that a caller has prepared.
use Rattle.std.specs.Prelude.{◌≡◌, ℕ, zero, suc, ◌==◌, ◌<◌, Bool, true, false, ◌&&◌, not, nat_lt, List, [], ◌∷◌, length, Option}
use Rattle.std.specs.List.{list_any}
use Rattle.heap_model.specs.declared.Act.{Act}
use Rattle.heap_model.specs.declared.Act.TheVariants as acts
use Rattle.heap_model.specs.declared.Entry.{Entry}
use Rattle.heap_model.specs.declared.Kind.TheVariants as kinds
use Rattle.heap_model.specs.declared.Layer.TheVariants as layers
use Rattle.heap_model.specs.State.{Setting, Place, is_kind, is_layer, hand_at, place_at}
use Rattle.heap_model.specs.Stay.{for_some}
use Rattle.heap_model.specs.CallState.{Configuration}
use Rattle.heap_model.specs.Search.{begins_at}
use Rattle.heap_model.specs.Legal.{may_follow, after}
use Rattle.heap_model.specs.History.{is_legal}
use Rattle.heap_model.specs.Agreement.{is_stable}
use Rattle.claim_rule.specs.declared.views.Assignment.{Assignment}
use Rattle.heap_model.specs.declared.Opening.{Opening}
use Rattle.claim_rule.specs.Shown.{lfh_spans}

-- the slot and the stream of a caller
abbrev pub slot_at : List Assignment → ℕ → ℕ
slot_at [] c = 0
slot_at (x ∷ xs) zero = x.slot
slot_at (x ∷ xs) (suc c) = slot_at xs c

-- the stream of its draws
abbrev pub stream_at : List Assignment → ℕ → ℕ
stream_at [] c = 0
stream_at (x ∷ xs) zero = x.stream
stream_at (x ∷ xs) (suc c) = stream_at xs c

-- the setting of a heap whose callers were made so, and no more are
abbrev pub setting_of : Opening → List Assignment → Setting
setting_of o roll = record { limits = o.limits; seed = o.seed; slot = slot_at roll; stream = stream_at roll }

-- The setting is that of a heap that was opened so and has made these callers; more may be made later. What is said of a list of entries is
-- said in each such setting.
pub record IsSettingOf (o : Opening) (roll : List Assignment) (s : Setting) : Type 0 where
  pub limits : s.limits ≡ o.limits
  pub seed : s.seed ≡ o.seed
  pub slot : (c : ℕ) → c < length roll → s.slot c ≡ slot_at roll c
  pub stream : (c : ℕ) → c < length roll → s.stream c ≡ stream_at roll c

-- the list is legal in each setting of these callers
abbrev pub IsLegalWith : Opening → List Assignment → List Entry → Type 0
IsLegalWith o roll es = (s : Setting) → IsSettingOf o roll s → is_legal s es ≡ true

-- each slot is one of the heap
abbrev pub have_slots : ℕ → List Assignment → Bool
have_slots slots [] = true
have_slots slots (x ∷ xs) = nat_lt x.slot slots && have_slots slots xs

-- an entry of a caller
abbrev pub entry : ℕ → Act → Entry
entry n a = record { caller = n; act = a }

-- all entries are of c
abbrev pub is_by : ℕ → List Entry → Bool
is_by c [] = true
is_by c (e ∷ es) = e.caller == c && is_by c es

-- each entry is of a caller below m
abbrev pub is_named : ℕ → List Entry → Bool
is_named m [] = true
is_named m (e ∷ es) = nat_lt e.caller m && is_named m es

-- the place is one of the front end
abbrev pub is_of_lfh : Option Place → Bool
is_of_lfh o = for_some o (λ p. is_layer p.layer layers.Lfh)

-- No word of the table shows the act: it changes neither the gate nor a lock, nor what the front end or the data words have.
abbrev pub leaves_words : Configuration → ℕ → Act → Bool
leaves_words m c (acts.Begin call) = true
leaves_words m c (acts.Reserve segment) = true
leaves_words m c (acts.Span first pages kind bucket slot) = not (is_kind kind kinds.Lfh)
leaves_words m c (acts.Unspan first) = not (list_any (begins_at first) (lfh_spans m.state.back.area))
leaves_words m c (acts.Place start granules layer) = not (is_layer layer layers.Lfh)
leaves_words m c (acts.Give a size) = not (is_of_lfh (hand_at m.state c a))
leaves_words m c (acts.Take a size) = not (is_of_lfh (place_at m.state c a))
leaves_words m c (acts.Drop a) = not (is_of_lfh (hand_at m.state c a))
leaves_words m c (acts.Resize a granules size) = not (is_of_lfh (place_at m.state c a))
leaves_words m c (acts.NoSpan bucket) = true
leaves_words m c (acts.NoFit n) = true
leaves_words m c (acts.Sized a size) = true
leaves_words m c (acts.Decommit page) = true
leaves_words m c _ = false

-- The act can be prepared by c: it may come next, c alone decides so, and no word shows it.
abbrev pub may_prepare : Setting → Configuration → ℕ → Act → Bool
may_prepare s m c act = is_stable m c act && leaves_words m c act && may_follow s m (entry c act)

-- all are entries of c that it could prepare one after another, from m on
abbrev pub are_prepared : Setting → Configuration → ℕ → List Entry → Bool
are_prepared s m c [] = true
are_prepared s m c (e ∷ es) = e.caller == c && may_prepare s m c e.act && are_prepared s (after s m e) c es
