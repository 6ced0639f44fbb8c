-- The image that words and states of layers make can be read, and its blocks are the live ones.
use Rattle.std.proofs.Common.{◌≡◌, ℕ, suc, Bool, true, false, List, [], ◌∷◌, ◌++◌, length, Option, Some, None, refl, sym, ap, subst, ◌∙◌, cond}
use Rattle.heap_model.specs.declared.Entry.{Entry}
use Rattle.heap_model.specs.declared.Opening.{Opening}
use Rattle.heap_model.specs.declared.What.{What}
use Rattle.heap_model.specs.declared.What.TheVariants as whats
use Rattle.heap_model.specs.State.{Setting, Place, Locks, is_live, live, by_address, open_locks, holder_of, caller_word}
use Rattle.heap_model.specs.CallState.{Configuration}
use Rattle.heap_model.specs.History.{configuration_of}
use Rattle.heap_soundness.proofs.Lists.{all_at, all_from}
use Rattle.backend_fit.specs.Kept.{Kept}
use Rattle.claim_rule.specs.declared.views.Assignment.{Assignment}
use Rattle.claim_rule.specs.Entries.{IsLegalWith, have_slots, setting_of}
use Rattle.claim_rule.proofs.Advance.{some_setting}
use Rattle.claim_rule.proofs.Lists.{legal_parts}
use Rattle.step_parts.proofs.FrontEnd.{valid_setting}
use Rattle.vs_headers.specs.declared.Head.{Head}
use Rattle.vs_layer.specs.Kept.{VsKept, place_of, place_if, places_from}
use Rattle.large_blocks.specs.Table.{LargeTable}
use Rattle.layout_decode.specs.Decode.{decode, IsReadable}
use Rattle.layout_decode.specs.Shows.{Shows}
use Rattle.layout_decode.specs.declared.Image.{Image}
use Rattle.decode_laws.specs.Told.{AreLive}
use Rattle.decode_laws.proofs.Members.{in_sorted}
use Rattle.decode_laws.proofs.Known.{IsKnownState, known_state}
use Rattle.decode_laws.proofs.Shown.{told, can_read}
use Rattle.heap_closing.proofs.Shown.{AreLeft, image, places_are, shows}

---- Locks

pub none_held : (k : Locks) → k ≡ open_locks → (what : What) → caller_word (holder_of k what) ≡ 0
none_held k e what = ap (λ (x : Locks). caller_word (holder_of x what)) e ∙ none what
  where
    none : (what : What) → caller_word (holder_of open_locks what) ≡ 0
    none whats.Gate = refl
    none whats.Lfh = refl
    none whats.Vs = refl
    none whats.Back = refl
    none whats.Large = refl

---- Live blocks

chunk_live : (g : ℕ) (o : Option Head) (rest : List Place) → AreLive rest → AreLive (place_if g o ++ rest)
chunk_live g None rest a = a
chunk_live g (Some h) rest a = by_busy h.busy
  where
    by_busy : (b : Bool) → AreLive (cond b (place_of g h ∷ []) [] ++ rest)
    by_busy true = (refl, a)
    by_busy false = a

chunks_live : (g : ℕ) (os : List (Option Head)) → AreLive (places_from g os)
chunks_live g [] = tt
chunks_live g (o ∷ os) = chunk_live g o (places_from (suc g) os) (chunks_live (suc g) os)

---- The image

pub same_image : (a b : Image) → a.limits ≡ b.limits → a.region ≡ b.region → a.descs ≡ b.descs → a.key ≡ b.key → a.heads ≡ b.heads → a.large ≡ b.large → a.words ≡ b.words → a ≡ b
same_image a b l r d k h g w = λ i. record { limits = l i; region = r i; descs = d i; key = k i; heads = h i; large = g i; words = w i }

module _ (s : Setting) (m : Configuration) (count : ℕ) (words : List ℕ) (vs : VsKept) (back : Kept) (large : LargeTable) (c : AreLeft s m count words vs back large) (known : IsKnownState s m.state) where
  abbrev left : Image
  left = image s m count words vs back large c

  pub left_shows : Shows left s m.state
  left_shows = shows s m count words vs back large c known

  -- no place of the variable-size layer is in hand
  vs_live : AreLive m.state.vs.places
  vs_live = all_from (λ p. is_live p.status ≡ true) m.state.vs.places (λ p i.
      all_at (λ q. is_live q.status ≡ true) p (by_address m.state.vs.places) (subst AreLive (places_are s m count words vs back large c) (chunks_live 0 vs.chunks.heads)) (in_sorted p m.state.vs.places i))

  pub left_lives : decode left ≡ live m.state
  left_lives = told s m.state left known left_shows vs_live

  pub left_readable : IsReadable left
  left_readable = can_read s m.state left known left_shows vs_live

module _ (o : Opening) (R : List Assignment) (l : List Entry) (words : List ℕ) (vs : VsKept) (back : Kept) (large : LargeTable) (c : AreLeft (setting_of o R) (configuration_of (setting_of o R) l) (length R) words vs back large)
    (slots : have_slots o.limits.slots R ≡ true) (legal : IsLegalWith o R l) (x : Image) (same : x ≡ image (setting_of o R) (configuration_of (setting_of o R) l) (length R) words vs back large c) where
  abbrev m : Configuration
  m = configuration_of (setting_of o R) l

  known : IsKnownState (setting_of o R) m.state
  known = known_state (setting_of o R) l (valid_setting o R c.limits slots) (legal_parts (setting_of o R) l (legal (setting_of o R) (some_setting o R))).0

  pub closes : Shows x (setting_of o R) m.state
  closes = subst (λ (y : Image). Shows y (setting_of o R) m.state) (sym same) (left_shows (setting_of o R) m (length R) words vs back large c known)

  pub lives : decode x ≡ live m.state
  lives = ap decode same ∙ left_lives (setting_of o R) m (length R) words vs back large c known

  pub readable : IsReadable x
  readable = subst IsReadable (sym same) (left_readable (setting_of o R) m (length R) words vs back large c known)
