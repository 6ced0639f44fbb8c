-- The runs of the pages, as they are read from descriptors and chunks, whatever image has these.
use Rattle.std.proofs.Common.{◌≡◌, ℕ, ◌+◌, ◌*◌, ◌≤◌, List, [], length, Option, Some, None, refl, sym, ap, ◌∙◌, subst}
use Rattle.std.specs.List.{find}
use Rattle.heap_model.specs.declared.Block.{Block}
use Rattle.heap_model.specs.declared.Limits.{Limits}
use Rattle.heap_model.specs.declared.Run.{Run}
use Rattle.heap_model.specs.State.{State}
use Rattle.page_ranges.specs.Words.{runs_of}
use Rattle.page_ranges.specs.Ranges.{begins_from, has_page}
use Rattle.vs_split.specs.Chunks.{Chunks}
use Rattle.vs_split.specs.Tiles.{IsTiled}
use Rattle.heap_gate.specs.Token.{Token}
use Rattle.call_parts.proofs.Joining.{setting_before}
use Rattle.layout_decode.specs.declared.Image.{Image}
use Rattle.layout_decode.specs.Decode.{page_blocks, is_at_or_after, IsRunOfChunks, IsRunOfBlocks, AreTold}
use Rattle.layout_decode.proofs.Walk.{Step, step, found_one}
use Rattle.layout_decode.proofs.Images.{of_run, left_from, none_next, none_beyond, starts_at, none_past, found_here, found_behind}
use Rattle.walk_calls.specs.Seen.{Looks, IsImageOf, CanBeRead, TellsRun, TellsPages}
use Rattle.walk_calls.proofs.Looking.{told_behind}

---- What can be read

abbrev pub no_blocks : Run → List Block
no_blocks r = []

module _ (l : Limits) (descs : List ℕ) (v : Chunks) (k : CanBeRead l descs v) (page : ℕ) (r : Run) (e : find (begins_from page) (runs_of descs) ≡ Some r) where
  pub next_step : Step no_blocks (length descs) page (runs_of descs) r
  next_step = step no_blocks (λ x h. refl) descs 0 (length descs) page (runs_of descs) r k.whole e

  pub next_chunks : IsRunOfChunks v r r.mark.kind
  next_chunks = found_one (λ (x : Run). IsRunOfChunks v x x.mark.kind) (begins_from page) (runs_of descs) r k.chunks e

  pub next_blocks : IsRunOfBlocks l r r.mark.kind
  next_blocks = found_one (λ (x : Run). IsRunOfBlocks l x x.mark.kind) (begins_from page) (runs_of descs) r k.subsegments e

---- An image of it

module _ (image : Image) (l : Limits) (descs : List ℕ) (v : Chunks) (st : State) (x : IsImageOf image l descs v st) (t : IsTiled v) where
  tiled : IsTiled image.heads
  tiled = subst IsTiled (sym x.heads_are) t

  same : (test : Run → Rattle.std.proofs.Common.Bool) (o : Option Run) → find test (runs_of descs) ≡ o → find test (runs_of image.descs) ≡ o
  same test o e = ap (λ (ws : List ℕ). find test (runs_of ws)) x.descs_are ∙ e

  pub starts : (from page : ℕ) (r : Run) → 4096 * page ≤ from → find (has_page page) (runs_of descs) ≡ Some r → find (is_at_or_after from) (left_from image r.first) ≡ find (is_at_or_after from) (page_blocks image)
  starts from page r low e = starts_at image x.readable tiled from page r low (same (has_page page) (Some r) e)

  pub past : (from : ℕ) → 4096 * length descs ≤ from → find (is_at_or_after from) (page_blocks image) ≡ None
  past from low = none_past image x.readable tiled from (subst (λ (ws : List ℕ). 4096 * length ws ≤ from) (sym x.descs_are) low)

  pub none : (page : ℕ) → find (begins_from page) (runs_of descs) ≡ None → left_from image page ≡ []
  none page e = none_next image x.readable tiled page (same (begins_from page) None e)

  pub beyond : (page : ℕ) → length descs ≤ page → left_from image page ≡ []
  beyond page low = none_beyond image x.readable tiled page (subst (λ (ws : List ℕ). length ws ≤ page) (sym x.descs_are) low)

  pub here : (from page : ℕ) (r : Run) (b : Block) → find (begins_from page) (runs_of descs) ≡ Some r → find (is_at_or_after from) (of_run image r) ≡ Some b → find (is_at_or_after from) (left_from image page) ≡ Some b
  here from page r b e f = found_here image x.readable tiled from page r b (same (begins_from page) (Some r) e) f

  pub behind : (from page : ℕ) (r : Run) → find (begins_from page) (runs_of descs) ≡ Some r → find (is_at_or_after from) (of_run image r) ≡ None
      → find (is_at_or_after from) (left_from image page) ≡ find (is_at_or_after from) (left_from image (r.first + r.pages))
  behind from page r e f = found_behind image x.readable tiled from page r (same (begins_from page) (Some r) e) f

---- What is told of it

pub pages_before : (a b c : Token) (descs : List ℕ) (v : Chunks) (P : Image → Type 0) → Looks b c → TellsPages descs v a b P → TellsPages descs v a c P
pages_before a b c descs v P y t s q image w = t s (setting_before b c [] y.goes s q) image w

pub pages_behind : (a b c : Token) (descs : List ℕ) (v : Chunks) (P : Image → Type 0) → Looks a b → Looks b c → TellsRun v b c P → TellsPages descs v a c P
pages_behind a b c descs v P x y t s q image w = told_behind a b c (λ (i : Image). i.heads ≡ v → AreTold i → P i) x y t s q image w.blocks w.heads_are w.readable.told
