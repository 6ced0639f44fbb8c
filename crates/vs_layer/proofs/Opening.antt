-- With no span the layer keeps to what it has to.
use Rattle.std.proofs.Common.{◌≡◌, ℕ, zero, suc, ◌*◌, ◌<◌, ◌≤◌, false, not, ◌&&◌, eqb, List, [], ◌∷◌, length, get_or, Option, Some, None, refl, sym, ap, subst, ◌∙◌, arith, count_by, replicate, inl, inr}
use Rattle.std.specs.List.{AllByRecursion}
use Rattle.std.specs.FinSet as set
use Rattle.std.proofs.lemmas.Bool.{cases_lt}
use Rattle.std.proofs.lemmas.List.{get_or-replicate, length-replicate}
use Rattle.heap_model.specs.State.{Span}
use Rattle.heap_model.specs.Stay.{for_some, is_live_in}
use Rattle.heap_soundness.specs.Sound.{AreInOrder}
use Rattle.vs_headers.specs.declared.Head.{Head}
use Rattle.vs_split.specs.Chunks.{head_at}
use Rattle.vs_split.proofs.TileLemmas.{none_or_some}
use Rattle.vs_split.proofs.TiledLemmas.{none_at, tiled_empty}
use Rattle.vs_free_tree.specs.Gaps.{gap_cmp, GapIndex, empty_index}
use Rattle.vs_layer.specs.Kept.{VsKept, places_from, places_of}
use Rattle.vs_layer.specs.Effects.{IsSpanOfChunks}
use Rattle.vs_layer.specs.Sound.{spans_from, AreUsablePages, AreChunksSound, IsIndexOf, AreCounted, IsSound}
use Rattle.vs_layer.proofs.Spans.{spans_none}

pub places_none : (g n : ℕ) → places_from g (replicate n None) ≡ []
places_none g zero = refl
places_none g (suc n) = places_none (suc g) n

-- what a call of `new` made
pub record IsOpening (k : VsKept) (told : List ℕ) (found : GapIndex) (live : List ℕ) (segments : ℕ) : Type 0 where
  pub few : segments ≤ 16
  pub spans : k.spans ≡ spans_from 0 told
  pub told_none : told ≡ replicate (256 * segments) 0
  pub no_heads : k.chunks.heads ≡ replicate (65536 * segments) None
  pub index : found ≡ empty_index (16384 * segments)
  pub live_none : live ≡ replicate 129 0
  pub served : k.served ≡ replicate 129 0
  pub active : k.active ≡ replicate 129 false

module _ (k : VsKept) (told : List ℕ) (found : GapIndex) (live : List ℕ) (segments : ℕ) (o : IsOpening k told found live segments) where
  pub no_spans : k.spans ≡ []
  no_spans = o.spans ∙ ap (spans_from 0) o.told_none ∙ spans_none 0 (256 * segments)

  no_places : places_of k ≡ []
  no_places = ap (places_from 0) o.no_heads ∙ places_none 0 (65536 * segments)

  no_head : (g : ℕ) (h : Head) → head_at k.chunks g ≡ Some h → ⊥
  no_head g h e = none_or_some (head_at k.chunks g) h (none_at k.chunks (65536 * segments) o.no_heads g) e

  all_of_none : (P : Span → Type 0) → AllByRecursion P k.spans
  all_of_none P = subst (AllByRecursion P) (sym no_spans) tt

  chunks : AreChunksSound k
  chunks = record {
    tiled = tiled_empty k.chunks segments o.no_heads o.few;
    in_order = subst (AreInOrder 0) (sym no_spans) tt;
    usable = all_of_none AreUsablePages;
    rows = all_of_none (IsSpanOfChunks k.chunks);
    inside = λ g h e. absurd (no_head g h e);
    joined = λ g h n e f there. absurd (no_head g h e);
    sized = λ g h e busy. absurd (no_head g h e);
  }

  long : length k.chunks.heads ≡ 65536 * segments
  long = ap length o.no_heads ∙ length-replicate (65536 * segments) None

  index_is : IsIndexOf k.chunks found
  index_is = record {
    gaps = λ units g.
        ap (λ (x : GapIndex). set.contains x.gaps (units, g)) o.index
        ∙ set.contains-empty gap_cmp (units, g)
        ∙ sym (ap (λ (h : Option Head). for_some h (λ n. not n.busy && eqb n.units units)) (none_at k.chunks (65536 * segments) o.no_heads g));
    room = let capacity = ap (λ (x : GapIndex). x.capacity) o.index in omega (arith, long);
  }

  zeros : (xs : List ℕ) (b : ℕ) → xs ≡ replicate 129 0 → b < 129 → get_or xs b 0 ≡ 0
  zeros xs b e l = ap (λ (ys : List ℕ). get_or ys b 0) e ∙ get_or-replicate 129 b 0 0 l

  past : (ys : List ℕ) (b : ℕ) → length ys ≤ b → get_or ys b 0 ≡ 0
  past [] b l = refl
  past (y ∷ ys) zero l = absurd (omega arith)
  past (y ∷ ys) (suc b) l = past ys b (omega arith)

  no_more : (xs : List ℕ) → xs ≡ replicate 129 0 → length xs ≡ 129
  no_more xs e = ap length e ∙ length-replicate {A = ℕ} 129 0

  counted : AreCounted k live
  counted = record {
    served_for = no_more k.served o.served;
    active_for = ap length o.active ∙ length-replicate 129 false;
    live_for = no_more live o.live_none;
    served_most = λ b. elim (cases_lt b 129) [
      | inl l ↦ omega (arith, zeros k.served b o.served l)
      | inr l ↦ omega (arith, past k.served b (omega (arith, no_more k.served o.served)))
    ];
    live_are = λ b l. zeros live b o.live_none l ∙ sym (ap (count_by (is_live_in b)) no_places);
  }

  pub opening_sound : IsSound k told found live
  opening_sound = record {
    spans = o.spans;
    granules = let pages : length told ≡ 256 * segments = ap length o.told_none ∙ length-replicate (256 * segments) 0 in omega (arith, long);
    chunks = chunks;
    plain = λ g h e free. absurd (no_head g h e);
    index = index_is;
    counted = counted;
  }
