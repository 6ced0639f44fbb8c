-- What the owner of the heap lock reads.
use Rattle.std.proofs.Common.{◌≡◌, ◌≢◌, ℕ, ◌+◌, ◌-◌, ◌*◌, ◌/◌, ◌%◌, ◌<◌, ◌==◌, true, false, List, [], ◌∷◌, refl, sym, ap, ◌∙◌, subst, arith, inl, inr}
use Rattle.std.specs.Prelude.{slice_index}
use Rattle.std.proofs.lemmas.Bool.{cases_Bool}
use Rattle.heap_model.specs.declared.Limits.{Limits}
use Rattle.heap_model.specs.declared.Layer.TheVariants as layers
use Rattle.heap_model.specs.declared.Opening.{Opening}
use Rattle.heap_model.specs.declared.Run.{Run}
use Rattle.heap_model.specs.Buckets.{block_address, block_count}
use Rattle.heap_model.specs.State.{State, BackPart, Place}
use Rattle.heap_model.specs.CallState.{Configuration}
use Rattle.heap_model.specs.Agreement.{SameHeap}
use Rattle.claim_rule.specs.Places.{bitmaps_region, sizes_region}
use Rattle.claim_rule.specs.Shown.{AreShown, lfh_spans, bitmap_word, size_word}
use Rattle.table_words.specs.Told.{bits_in, size_place}
use Rattle.heap_gate.specs.Token.{Token, Always, IsStanding, now}
use Rattle.heap_gate.specs.Calls.{Runs, Stands, stance}
use Rattle.call_parts.proofs.Joining.{goes_none, goes_does, goes_then, setting_before}
use Rattle.compact_calls.proofs.Decommitting.{still}
use Rattle.layout_decode.specs.declared.Image.{Image}
use Rattle.layout_decode.specs.Decode.{block_at_bit, is_taken_in, size_word_of, IsOfBucket}
use Rattle.layout_decode.proofs.SubsegmentLemmas.{seat_of}
use Rattle.walk_calls.specs.Seen.{IsOwner, SameParts, Looks, ShowsBlocks, TellsFront}

---- The heap

pub of_heap : (m k : Configuration) → SameHeap m k → SameParts m k
of_heap m k h = record { back = h.back; vs = h.vs; lfh = h.lfh; large = h.large }

pub parts_self : (m : Configuration) → SameParts m m
parts_self m = record { back = refl; vs = refl; lfh = refl; large = refl }

pub parts_trans : (m n o : Configuration) → SameParts m n → SameParts n o → SameParts m o
parts_trans m n o p q = record { back = p.back ∙ q.back; vs = p.vs ∙ q.vs; lfh = p.lfh ∙ q.lfh; large = p.large ∙ q.large }

pub parts_back : (m k : Configuration) → SameParts m k → SameParts k m
parts_back m k h = record { back = sym h.back; vs = sym h.vs; lfh = sym h.lfh; large = sym h.large }

---- Looking

pub looks_none : (c : Token) → IsOwner c → Looks c c
looks_none c v = record {
  goes = goes_none c;
  stands = record { call = refl; fresh = refl; locked = refl; inside = refl; depth = refl; out = refl; owes = refl; free = refl; searches = refl; searched = refl; drawn = refl; whole = v.whole; pending = v.pending; prepared = v.prepared };
  heap = λ s q. parts_self (now s c);
}

pub looks_runs : (a b : Token) → IsStanding a → a.depth ≢ 0 → Runs a b [] → Stands b (stance a) → Looks a b
looks_runs a b st d x s = record { goes = goes_does a b [] x.does s.depth; stands = s; heap = λ s q. of_heap (now s b) (now s a) (still a b st d x s q) }

pub looks_then : (a b c : Token) → Looks a b → Looks b c → Looks a c
looks_then a b c x y =
    let s = x.stands in
    let t = y.stands in
    record {
      goes = goes_then a b c [] [] x.goes y.goes;
      stands = record {
        call = t.call ∙ s.call;
        fresh = t.fresh ∙ s.fresh;
        locked = t.locked ∙ s.locked;
        inside = t.inside ∙ s.inside;
        depth = t.depth ∙ s.depth;
        out = t.out ∙ s.out;
        owes = t.owes ∙ s.owes;
        free = t.free ∙ s.free;
        searches = t.searches ∙ s.searches;
        searched = t.searched ∙ s.searched;
        drawn = t.drawn ∙ s.drawn;
        whole = t.whole;
        pending = t.pending;
        prepared = t.prepared;
      };
      heap = λ s q. parts_trans (now s c) (now s b) (now s a) (y.heap s q) (x.heap s (setting_before b c [] y.goes s q));
    }

pub owner_then : (a b : Token) → IsOwner a → Looks a b → IsOwner b
owner_then a b v x = record { owns = λ z. v.owns (sym x.stands.depth ∙ z); whole = x.stands.whole; pending = x.stands.pending; prepared = x.stands.prepared }

---- Images of one state

pub front_same : (image : Image) (l : Limits) (m k : Configuration) → SameParts m k → ShowsBlocks image l k.state → ShowsBlocks image l m.state
front_same image l m k h x = record {
  limits = x.limits;
  bitmaps = subst (λ (z : List Place × BackPart). AreShown image.words (bitmaps_region l) (λ i. bitmap_word z.0 (lfh_spans z.1.area) (i / 4) (i % 4))) (sym (λ j. (h.lfh j, h.back j))) x.bitmaps;
  sizes = subst (λ (ps : List Place). AreShown image.words (sizes_region l) (size_word ps)) (sym h.lfh) x.sizes;
}

-- what was told before more was read
pub told_before : (a b c : Token) (P : Image → Type 0) → Looks b c → TellsFront a b P → TellsFront a c P
told_before a b c P y t s q image w = t s (setting_before b c [] y.goes s q) image w

-- .. and behind
pub told_behind : (a b c : Token) (P : Image → Type 0) → Looks a b → Looks b c → TellsFront b c P → TellsFront a c P
told_behind a b c P x y t s q image w =
    t s q image (subst (λ (o : Opening). ShowsBlocks image o.limits (now s b).state) (sym x.goes.opening) (front_same image a.opening.limits (now s b) (now s a) (x.heap s (setting_before b c [] y.goes s q)) w))

---- Words

module _ (image : Image) (l : Limits) (st : State) (x : ShowsBlocks image l st) where
  pub bits_are : (head word bits : ℕ) → head < 256 * l.segments → word < 4 → bits ≡ bitmap_word st.lfh (lfh_spans st.back.area) head word → bits ≡ bits_in image.limits image.words head word
  bits_are head word bits low few e =
      let k : ℕ = 4 * head + word in
      let page : k / 4 ≡ head = omega (arith, few) in
      let one : k % 4 ≡ word = omega (arith, few) in
      let at : (bitmaps_region l).from + 4 * head + word ≡ (bitmaps_region l).from + k = omega arith in
      let shown : slice_index image.words ((bitmaps_region l).from + k) ≡ bitmap_word st.lfh (lfh_spans st.back.area) (k / 4) (k % 4) = x.bitmaps k (omega (arith, low, few)) in
      let back : bitmap_word st.lfh (lfh_spans st.back.area) (k / 4) (k % 4) ≡ bitmap_word st.lfh (lfh_spans st.back.area) head word = (λ i. bitmap_word st.lfh (lfh_spans st.back.area) (page i) (one i)) in
      e ∙ (sym (ap (slice_index image.words) at ∙ (shown ∙ back)) ∙ ap (λ (m : Limits). bits_in m image.words head word) (sym x.limits))

  pub size_is : (addr size : ℕ) → addr < 1048576 * l.segments → size ≡ size_word st.lfh (addr / 16) → size ≡ size_word_of image addr
  size_is addr size low e =
      let shown : slice_index image.words (size_place l addr) ≡ size_word st.lfh (addr / 16) = x.sizes (addr / 16) (omega (arith, low)) in
      e ∙ (sym shown ∙ ap (λ (m : Limits). slice_index image.words (size_place m addr)) (sym x.limits))

---- One block

module _ (image : Image) (r : Run) (i : ℕ) where
  pub not_taken : is_taken_in image r i ≡ false → [] ≡ block_at_bit image r i
  not_taken e = rw e refl

  pub no_size : size_word_of image (block_address r.mark.bucket r.first i) ≡ 0 → [] ≡ block_at_bit image r i
  no_size e = elim (cases_Bool (is_taken_in image r i)) [ inl t ↦ rw (t, e) refl | inr t ↦ rw t refl ]

  pub taken_with : (word : ℕ) → is_taken_in image r i ≡ true → size_word_of image (block_address r.mark.bucket r.first i) ≡ word → (word == 0) ≡ false
      → record { addr = block_address r.mark.bucket r.first i; size = word - 1; layer = layers.Lfh } ∷ [] ≡ block_at_bit image r i
  taken_with word t e some = rw (t, e, some) refl

-- A size word that was read behind a bitmap word.
module _ (a b d : Token) (r : Run) (i : ℕ) (k : IsOfBucket a.opening.limits r) (below : i < block_count r.mark.bucket) (v : IsOwner a) (x : Looks a b) (st : IsStanding b) (run : Runs b d []) (sd : Stands d (stance b)) where
  pub then_looks : Looks b d
  then_looks = looks_runs b d st (owner_then a b v x).owns run sd

  pub both_look : Looks a d
  both_look = looks_then a b d x then_looks

  pub size_here : (word addr : ℕ) → addr ≡ block_address r.mark.bucket r.first i → Always d (λ s. word ≡ size_word (now s b).state.lfh (addr / 16)) → TellsFront a d (λ image. word ≡ size_word_of image (block_address r.mark.bucket r.first i))
  size_here word addr at told s q image y =
      let seat = seat_of a.opening.limits r i k below in
      let w = front_same image a.opening.limits (now s b) (now s a) (x.heap s (setting_before b d [] then_looks.goes s q)) y in
      size_is image a.opening.limits (now s b).state w (block_address r.mark.bucket r.first i) word (omega (arith, seat.granule)) (told s q ∙ ap (λ (n : ℕ). size_word (now s b).state.lfh (n / 16)) at)
