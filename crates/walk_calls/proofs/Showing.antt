-- What words and states of the layers show, for the owner of the heap lock.
use Rattle.std.proofs.Common.{◌≡◌, ℕ, ◌≤◌, ◌==◌, true, false, List, [], Option, Some, None, refl, sym, ap, ◌∙◌, subst, arith, inl, inr, ◌*◌, ◌/◌, ◌%◌, ◌++◌}
use Rattle.std.specs.Prelude.{slice_index, filter_map}
use Rattle.std.specs.List.{AllByRecursion}
use Rattle.std.proofs.lemmas.Bool.{cases_Bool, eqb-true, eqb-false, eq-eqb, ne_eqb, false≢true}
use Rattle.heap_model.specs.declared.Limits.{Limits}
use Rattle.heap_model.specs.declared.Opening.{Opening}
use Rattle.heap_model.specs.declared.Run.{Run}
use Rattle.heap_model.specs.declared.What.{What}
use Rattle.heap_model.specs.State.{State, Setting, GateAndLocks, BackPart, VsPart, Place, holder_of, holds, is_caller, live, block_of, by_address}
use Rattle.heap_model.specs.CallState.{Configuration}
use Rattle.heap_model.specs.Layers.{StandsForVs, StandsForBack, StandsForLarge}
use Rattle.heap_model.specs.Agreement.{GateIsSound}
use Rattle.heap_soundness.proofs.Whole.{state_sound}
use Rattle.heap_soundness.proofs.Addresses.{addresses_sound, blocks_sound}
use Rattle.page_ranges.specs.Words.{runs_of}
use Rattle.claim_rule.specs.Places.{made_word, bitmaps_region, sizes_region}
use Rattle.claim_rule.specs.Shown.{AreShown, AreAllShown, lfh_spans, bitmap_word, size_word}
use Rattle.backend_fit.specs.Kept.{Kept}
use Rattle.backend_fit.specs.Kept as backs
use Rattle.large_blocks.specs.Table.{LargeTable}
use Rattle.large_blocks.specs.Table as larges
use Rattle.vs_headers.specs.Headers.{key_of}
use Rattle.vs_split.specs.Chunks.{Chunks}
use Rattle.vs_layer.specs.Kept.{VsKept}
use Rattle.vs_layer.specs.Standing as vss
use Rattle.layout_decode.specs.declared.Image.{Image}
use Rattle.layout_decode.specs.Decode.{decode, IsReadable, IsRunOfBlocks}
use Rattle.layout_decode.specs.Shows.{Shows}
use Rattle.decode_laws.proofs.Known.{IsKnownState}
use Rattle.heap_closing.proofs.Shown.{AreLeft, opening_of, image}
use Rattle.heap_closing.proofs.Closing.{left_shows, left_lives, left_readable}
use Rattle.walk_calls.specs.Words.{IsKnownFor, HasWords}
use Rattle.walk_calls.specs.Seen.{SameParts, IsImageOf, CanBeRead}
use Rattle.walk_calls.specs.Locks.{AreWhole}
use Rattle.walk_calls.specs.Walk.{IsShown}
use Rattle.walk_calls.proofs.Looking.{front_same}

---- No lock is held

other_owner : (n d : ℕ) (o : Option ℕ) → is_caller n o ≡ true → (d == n) ≡ false → is_caller d o ≡ false
other_owner n d None w ne = refl
other_owner n d (Some x) w ne = ne_eqb x d (λ e. eqb-false d n ne (sym e ∙ eqb-true x n w))

no_other_holds : (f : GateAndLocks) (n d : ℕ) (w : What) → GateIsSound f → is_caller n f.owner ≡ true → holder_of f.locks w ≡ Some d → (d == n) ≡ false → ⊥
no_other_holds f n d w g o e ne =
    let h : holds f d w ≡ true = ap (is_caller d) e ∙ eq-eqb d d refl in
    let i = g.inside d w h (other_owner n d f.owner o ne) in
    eqb-false d n ne (g.alone n d o i)

-- where the owner of the heap lock has not a lock, nobody has it
pub none_holds : (f : GateAndLocks) (n : ℕ) (w : What) → GateIsSound f → is_caller n f.owner ≡ true → holds f n w ≡ false → holder_of f.locks w ≡ None
none_holds f n w g o h = by (holder_of f.locks w) refl
  where
    by : (x : Option ℕ) → holder_of f.locks w ≡ x → holder_of f.locks w ≡ None
    by None e = e
    by (Some d) e = elim (cases_Bool (d == n)) [
      | inr ne ↦ absurd (no_other_holds f n d w g o e ne)
      | inl q ↦ absurd (false≢true (sym h ∙ (ap (is_caller n) e ∙ eq-eqb d n (eqb-true d n q))))
    ]

---- One state in two settings

pub shows_for : (x : Image) (u s : Setting) (st : State) → u.limits ≡ s.limits → u.seed ≡ s.seed → Shows x u st → Shows x s st
shows_for x u s st l e h =
    let segments = ap (λ (y : Limits). y.segments) l in
    let callers = ap (λ (y : Limits). y.callers) l in
    record {
      limits = h.limits ∙ l;
      key = h.key ∙ ap key_of e;
      segments = h.segments ∙ segments;
      reserved = h.reserved;
      committed = h.committed;
      pages = h.pages ∙ ap (λ (n : ℕ). 256 * n) segments;
      whole = h.whole;
      spans = h.spans;
      free = h.free;
      marks = h.marks;
      headers = h.headers;
      large_limits = h.large_limits ∙ l;
      large = h.large;
      front = h.front;
      contents = h.contents;
      gate = h.gate;
      made = subst (λ (n : ℕ). slice_index x.words made_word ≤ n) callers h.made;
    }

---- The image

module _ (o : Opening) (m : Configuration) (k : IsKnownFor o m) (w : HasWords o.limits m) (vs : VsKept) (back : Kept) (large : LargeTable) (wh : AreWhole vs back)
    (tv : StandsForVs o m.state (vss.layer_of vs)) (tb : StandsForBack o m.state (backs.layer_of back)) (tl : StandsForLarge o m.state (larges.layer_of large)) where
  abbrev pub u : Setting
  u = k.setting

  pub same : o ≡ opening_of u
  same = (λ i. record { limits = sym k.limits i; seed = sym k.seed i })

  pub few : slice_index w.words made_word ≤ u.limits.callers
  few = omega (arith, w.shown.made_is, w.few, ap (λ (l : Limits). l.callers) k.limits)

  pub left : AreLeft u m w.made w.words vs back large
  left = record {
    limits = k.valid.limits;
    words_are = subst (λ (l : Limits). AreAllShown l w.made m [] w.words) (sym k.limits) w.shown;
    made = few;
    vs_is = subst (λ (y : Opening). StandsForVs y m.state (vss.layer_of vs)) same tv;
    chunks = wh.chunks;
    back_is = subst (λ (y : Opening). StandsForBack y m.state (backs.layer_of back)) same tb;
    sound = wh.sound;
    large_is = subst (λ (y : Opening). StandsForLarge y m.state (larges.layer_of large)) same tl;
  }

  known : IsKnownState u m.state
  known = record {
    sound = state_sound u m k.keeps k.valid;
    vs = k.keeps.heap.vs;
    lfh = k.keeps.heap.lfh;
    large = k.keeps.heap.large;
    one = addresses_sound u m k.keeps;
    blocks = blocks_sound u m k.keeps;
  }

  abbrev pub seen : Image
  seen = image u m w.made w.words vs back large left

  pub seen_shows : Shows seen u m.state
  seen_shows = left_shows u m w.made w.words vs back large left known

  pub seen_lives : decode seen ≡ live m.state
  seen_lives = left_lives u m w.made w.words vs back large left known

  pub seen_readable : IsReadable seen
  seen_readable = left_readable u m w.made w.words vs back large left known

  pub is_shown : (s : Setting) → s.limits ≡ o.limits → s.seed ≡ o.seed → IsShown s m.state
  is_shown s l e = record { image = seen; shows = shows_for seen u s m.state (k.limits ∙ sym l) (k.seed ∙ sym e) seen_shows; blocks = seen_lives }

  pub is_image : IsImageOf seen o.limits back.words vs.chunks m.state
  is_image = record {
    blocks = record {
      limits = k.limits;
      bitmaps = subst (λ (l : Limits). AreShown seen.words (bitmaps_region l) (λ i. bitmap_word m.state.lfh (lfh_spans m.state.back.area) (i / 4) (i % 4))) k.limits seen_shows.front.bitmaps;
      sizes = subst (λ (l : Limits). AreShown seen.words (sizes_region l) (size_word m.state.lfh)) k.limits seen_shows.front.sizes;
    };
    descs_are = refl;
    heads_are = refl;
    readable = seen_readable;
  }

  pub can_be_read : CanBeRead o.limits back.words vs.chunks
  can_be_read = record {
    whole = seen_readable.whole;
    chunks = seen_readable.rows;
    subsegments = subst (λ (l : Limits). AllByRecursion (λ (r : Run). IsRunOfBlocks l r r.mark.kind) (runs_of back.words)) k.limits seen_readable.subsegments;
    pages = seen_readable.pages ∙ ap (λ (l : Limits). 256 * l.segments) k.limits;
  }

---- .. of a heap that is the same

pub image_same : (x : Image) (l : Limits) (descs : List ℕ) (v : Chunks) (m k : Configuration) → SameParts m k → IsImageOf x l descs v k.state → IsImageOf x l descs v m.state
image_same x l descs v m k h i = record { blocks = front_same x l m k h i.blocks; descs_are = i.descs_are; heads_are = i.heads_are; readable = i.readable }

-- the parts that blocks are read from
abbrev parts : Configuration → List Place × VsPart × BackPart × List Place
parts m = (m.state.lfh, m.state.vs, m.state.back, m.state.large)

same_parts : (m k : Configuration) → SameParts m k → parts m ≡ parts k
same_parts m k h = λ j. (h.lfh j, h.vs j, h.back j, h.large j)

pub live_same : (m k : Configuration) → SameParts m k → live m.state ≡ live k.state
live_same m k h = ap (λ (z : List Place × VsPart × BackPart × List Place). filter_map block_of (by_address (z.0 ++ z.1.places ++ z.2.places ++ z.3))) (same_parts m k h)
