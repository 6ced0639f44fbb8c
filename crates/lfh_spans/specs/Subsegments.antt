-- Subsegments that the holder of Back makes and gives back.
use Rattle.std.specs.Prelude.{◌≡◌, ℕ, ◌/◌, ◌==◌, ◌&&◌, Bool, true, false, nat_lt, List, [], ◌∷◌, ◌++◌, Some, None, if◌then◌else◌}
use Rattle.heap_model.specs.declared.Act.TheVariants as acts
use Rattle.heap_model.specs.declared.Entry.{Entry}
use Rattle.heap_model.specs.declared.Kind.TheVariants as kinds
use Rattle.heap_model.specs.declared.Layer.TheVariants as layers
use Rattle.heap_model.specs.declared.Mark.{Mark}
use Rattle.heap_model.specs.Buckets.{bucket_pages, block_size, block_address}
use Rattle.heap_model.specs.State.{Setting, Area, is_kind}
use Rattle.heap_model.specs.Backend.{back_place}
use Rattle.heap_model.specs.CallState.{Configuration, caller_view}
use Rattle.heap_model.specs.Search.{request_of, search_key_of, is_spent, draw_of, own_block}
use Rattle.heap_model.specs.History.{configuration_after}
use Rattle.heap_model.specs.Layers.{StandsForBack}
use Rattle.heap_model.specs.Agreement.{AgreesFor, holds_old_block}
use Rattle.claim_rule.specs.Entries.{entry}
use Rattle.span_steps.specs.Installs.{making}
use Rattle.step_parts.specs.InHand.{HasBlock}
use Rattle.backend_fit.specs.Kept.{Kept, area_of, layer_of}
use Rattle.heap_gate.specs.Token.{Token, Always, now}
use Rattle.heap_gate.specs.Calls.{Does, Stands, stance}
use Rattle.lfh_spans.specs.Hints.{own_slot}

-- the state stands for what the back end has in all that the caller has seen and prepared
abbrev pub IsBackOf : Token → Kept → Type 0
IsBackOf c back = Always c (λ s. StandsForBack c.opening (now s c).state (layer_of back))

---- A subsegment is made

-- The search of the caller is spent, so that a subsegment may be made for it; only the caller changes a block that it moves.
pub record MayMake (s : Setting) (m : Configuration) (n b draw : ℕ) : Type 0 where
  pub seeks : (request_of s m n).search ≡ Some b
  pub spent : is_spent m.state.back.area (caller_view m n) (search_key_of s n (m.now.calls n) b) ≡ true
  pub drawn : draw ≡ draw_of s n (m.now.calls n).searches
  pub old : holds_old_block m n ≡ true

-- the segment that pages in it need before, where it is not reserved
abbrev pub reserving : ℕ → Area → ℕ → List Entry
reserving n a first = if nat_lt (first / 256) a.reserved then [] else entry n (acts.Reserve a.reserved) ∷ []

-- a subsegment of a bucket and a slot that begins at a page is made, and its block i is placed
abbrev pub installing : ℕ → List Entry → ℕ → ℕ → ℕ → ℕ → List Entry
installing n reserve first b t i = making n reserve first (bucket_pages b) b t ++ entry n (acts.Place (block_address b first i) (block_size b / 16) layers.Lfh) ∷ []

-- the block that a draw picks in a new subsegment
abbrev pub drawn_block : ℕ → ℕ → ℕ
drawn_block b draw = own_block (record { bucket = b; slot = 0; draw = draw })

-- The caller has made a subsegment where the back end has room for it, and has the drawn block at this address in hand.
pub record HasInstalled (old new : Token) (back : Kept) (b draw addr : ℕ) : Type 0 where
  pub first : ℕ
  pub place : back_place (area_of back) back.limits.segments (bucket_pages b) ≡ Some first
  pub address : addr ≡ block_address b first (drawn_block b draw)
  pub does : Does old new (installing old.number (reserving old.number (area_of back) first) first b (own_slot old) (drawn_block b draw))
  pub agrees : Always new (λ s. AgreesFor old.number (now s new) (configuration_after s (now s old) (installing old.number (reserving old.number (area_of back) first) first b (own_slot old) (drawn_block b draw))))
  pub block : Always new (λ s. HasBlock (now s new) old.number b addr)
  pub stands : Stands new (record (stance old) { free = false })

-- .. or there is no room, and nothing has changed
pub record HasNoRoom (back after : Kept) (b : ℕ) : Type 0 where
  pub place : back_place (area_of back) back.limits.segments (bucket_pages b) ≡ None
  pub same : after ≡ back

---- A subsegment goes back

-- the mark of a subsegment of a bucket and a slot
abbrev pub is_mark_of : ℕ → ℕ → Mark → Bool
is_mark_of b t m = is_kind m.kind kinds.Lfh && m.bucket == b && m.slot == t
