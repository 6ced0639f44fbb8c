-- The words behind a step on a block in hand: its bit is cleared, or its size word is written.
use Rattle.std.proofs.Common.{◌≡◌, ℕ, ◌+◌, ◌*◌, ◌/◌, ◌%◌, ◌<◌, true, false, List, length, get_or, set, bit_and, w64, refl, sym, ap, ◌∙◌, subst, arith, Option, Some, None, inl, inr}
use Rattle.std.specs.Prelude.{unwrap_or, option_map}
use Rattle.std.specs.Int.{bit_not}
use Rattle.std.specs.List.{find}
use Rattle.std.proofs.lemmas.Bool.{cases_eq, and_parts, eqb-true, false≢true}
use Rattle.heap_model.specs.declared.Act.{Act as Deed}
use Rattle.heap_model.specs.declared.Act.TheVariants as acts
use Rattle.heap_model.specs.declared.Kind.TheVariants as kinds
use Rattle.heap_model.specs.declared.Layer.{Layer}
use Rattle.heap_model.specs.declared.Layer.TheVariants as layers
use Rattle.heap_model.specs.declared.Limits.{Limits}
use Rattle.heap_model.specs.Bits.{starts_at}
use Rattle.heap_model.specs.Buckets.{block_address, block_count}
use Rattle.heap_model.specs.State.{Setting, Span, Place, Status, Live, InHand, address, has_address, live_size, is_live, is_in_hand_of, is_hand_at, is_live_at, hand_at, place_at, places_of, change_found, remove_found}
use Rattle.heap_model.specs.CallState.{Configuration, Nothing}
use Rattle.heap_model.specs.Legal.{after, with_status, unspan_of}
use Rattle.heap_model.specs.Agreement.{HasHomes}
use Rattle.heap_model.proofs.Homes.{hand_found}
use Rattle.heap_soundness.specs.Sound.{IsOneOf}
use Rattle.heap_soundness.proofs.Lists.{all_at, found_in, found_passes}
use Rattle.serial_laws.proofs.Sorted.{none_found}
use Rattle.claim_rule.specs.declared.views.Owed.{Owed}
use Rattle.claim_rule.specs.Places.{word_count, bitmap_at, bit_of_block, size_at}
use Rattle.claim_rule.specs.Shown.{AreAllShown, lfh_spans, bitmap_word, size_word}
use Rattle.claim_rule.specs.Entries.{entry}
use Rattle.step_parts.specs.Seen.{IsSeen}
use Rattle.step_parts.specs.InHand.{IsInHand}
use Rattle.claim_rule.proofs.Behind.{stays, owed_soundly, shown_behind}
use Rattle.step_parts.proofs.FrontEnd.{IsFront}
use Rattle.step_parts.proofs.BlocksInHand.{found_lfh}
use Rattle.step_parts.proofs.BlockWords.{in_lfh, seat_at, granule, words_kept, cleared_word, word_at, at_below}
use Rattle.step_parts.proofs.Starts.{begins, any_removed_other, any_removed_same, found_removed_other, found_changed_other, found_changed_same}
use Rattle.step_parts.proofs.ChangedPlaces.{with_lfh, places_only, owed_places, lfh_address, removed_is, changed_is, found_is, size_is, bits_on, starts_on}

---- A block in hand

-- the place in hand is one of the front end that begins there
pub record IsHandOf (m : Configuration) (n addr : ℕ) (p : Place) : Type 0 where
  pub there : IsOneOf p m.state.lfh
  pub starts : p.start ≡ addr
  pub mine : is_in_hand_of n p.status ≡ true

-- where a place of the front end is in hand
pub hand_is : (m : Configuration) (n addr : ℕ) (p : Place) → HasHomes m.state → hand_at m.state n addr ≡ Some p → p.layer ≡ layers.Lfh → IsHandOf m n addr p
hand_is m n addr p homes e l =
    let f = subst (λ (k : Layer). find (is_hand_at n addr) (places_of m.state k) ≡ Some p) l (hand_found m.state homes n addr p e) in
    let t = and_parts (has_address addr p) (is_in_hand_of n p.status) (found_passes (is_hand_at n addr) m.state.lfh p f) in
    record { there = found_in (is_hand_at n addr) m.state.lfh p f; starts = sym (lfh_address p l) ∙ eqb-true (address p) addr t.0; mine = t.1 }

no_size : (n : ℕ) (t : Status) → is_in_hand_of n t ≡ true → unwrap_or (option_map (λ n. n + 1) (live_size t)) 0 ≡ 0
no_size n (Live size) h = absurd (false≢true h)
no_size n (InHand d) h = refl

-- behind the drop of a block nothing has to follow
pub no_unspan : (n : ℕ) (o : Option Place) (p : Place) → o ≡ Some p → p.layer ≡ layers.Lfh → unspan_of n o ≡ Nothing
no_unspan n o p e l = ap (unspan_of n) e ∙ by p l
  where
    by : (p : Place) → p.layer ≡ layers.Lfh → unspan_of n (Some p) ≡ Nothing
    by p l = rw l refl

---- What the words show where the bit is cleared

module _ (l : Limits) (made : ℕ) (s : Setting) (m : Configuration) (n : ℕ) (owes : List Owed) (words : List ℕ) (f : IsFront l m.state.back.area m.state.lfh) (homes : HasHomes m.state) (shown : AreAllShown l made m owes words) where
  wide : length words ≡ word_count l
  wide = shown.wide

  module _ (i : ℕ) (x : Span) (there : IsOneOf x m.state.back.area.spans) (is : x.kind ≡ kinds.Lfh) (below : i < block_count x.bucket) (h : IsInHand m n (block_address x.bucket x.first i)) where
    abbrev addr : ℕ
    addr = block_address x.bucket x.first i

    abbrev dropped : Configuration
    dropped = after s m (entry n (acts.Drop (block_address x.bucket x.first i)))

    abbrev others : List Place
    others = remove_found (is_hand_at n (block_address x.bucket x.first i)) m.state.lfh

    hand : IsHandOf m n (block_address x.bucket x.first i) h.place
    hand = hand_is m n (block_address x.bucket x.first i) h.place homes h.hand h.layer

    others_is : others ≡ remove_found (begins (block_address x.bucket x.first i)) m.state.lfh
    others_is = subst (λ (a : ℕ). remove_found (is_hand_at n a) m.state.lfh ≡ remove_found (begins a) m.state.lfh) hand.starts
        (removed_is m.state.lfh f.layers f.apart h.place hand.there (is_in_hand_of n) hand.mine)

    kept : (a : ℕ) → (a ≡ block_address x.bucket x.first i → ⊥) → starts_at m.state.lfh a ≡ starts_at others a
    kept a ne = sym (ap (λ (ps : List Place). starts_at ps a) others_is ∙ any_removed_other a addr m.state.lfh ne)

    gone : starts_at others (block_address x.bucket x.first i) ≡ false
    gone = ap (λ (ps : List Place). starts_at ps addr) others_is ∙ any_removed_same addr m.state.lfh f.apart

    size_kept : (k : ℕ) → size_word others k ≡ size_word m.state.lfh k
    size_kept k = elim (cases_eq (16 * k) addr) [
      | inl e ↦
          let g : 16 * (h.place.start / 16) ≡ h.place.start = subst (λ (a : ℕ). 16 * (a / 16) ≡ a) (sym hand.starts) (granule l m.state.back.area m.state.lfh f x there is i below others kept) in
          let k_is : h.place.start / 16 ≡ k = let st = hand.starts in omega arith in
          let before_is : size_word m.state.lfh k ≡ 0 = ap (size_word m.state.lfh) (sym k_is) ∙ (size_is m.state.lfh f.layers f.apart h.place hand.there g ∙ no_size n h.place.status hand.mine) in
          let none_left : find (begins (16 * k)) others ≡ None = none_found (begins (16 * k)) others (ap (starts_at others) e ∙ gone) in
          ap (λ (o : Option Place). unwrap_or (option_map (λ q. unwrap_or (option_map (λ n. n + 1) (live_size q.status)) 0) o) 0) none_left ∙ sym before_is
      | inr ne ↦ ap (λ (o : Option Place). unwrap_or (option_map (λ q. unwrap_or (option_map (λ n. n + 1) (live_size q.status)) 0) o) 0) (ap (find (begins (16 * k))) others_is ∙ found_removed_other (16 * k) addr m.state.lfh ne)
    ]

    state_is : dropped.state ≡ with_lfh m.state others
    state_is = found_lfh m.state (hand_at m.state n addr) h.place (remove_found (is_hand_at n addr)) h.hand h.layer

    drop_shown : AreAllShown l made dropped owes (set words (bitmap_at l x.first i) (bit_and (get_or words (bitmap_at l x.first i) 0) (bit_not w64 (bit_of_block i))))
    drop_shown =
        let k0 = at_below l m.state.back.area m.state.lfh f x there is i below others kept in
        let at : ℕ = bitmap_at l x.first i in
        let v : ℕ = bit_and (get_or words at 0) (bit_not w64 (bit_of_block i)) in
        let w = shown.lfh.bitmaps (4 * x.first + i / 64) k0 in
        let put : v ≡ bitmap_word others (lfh_spans m.state.back.area) ((4 * x.first + i / 64) / 4) ((4 * x.first + i / 64) % 4) =
        ap (λ (z : ℕ). bit_and z (bit_not w64 (bit_of_block i))) (w ∙ word_at l m.state.back.area m.state.lfh f x there is i below others kept m.state.lfh)
        ∙ (cleared_word l m.state.back.area m.state.lfh f x there is i below others kept gone
        ∙ sym (word_at l m.state.back.area m.state.lfh f x there is i below others kept others)) in
        shown_behind l made dropped m owes owes words at v (omega arith) (omega arith)
        (places_only l dropped m owes at v others state_is refl (omega arith) (omega arith)
        (λ k lk. record {
          here = λ g. let same : 4 * x.first + i / 64 ≡ k = omega arith in subst (λ (z : ℕ). v ≡ bitmap_word others (lfh_spans m.state.back.area) (z / 4) (z % 4)) same put;
          else = λ g. sym (words_kept l m.state.back.area m.state.lfh f x there is i below others kept (k / 4) (k % 4) (omega arith) (λ z. g (omega arith)));
        })
        (λ k lk. stays at v (2182 + 1280 * l.segments + k) _ _ (λ g. omega arith) (size_kept k)))
        (owed_places l dropped m owes at v others state_is refl (owed_soundly l made m owes words shown)) shown

  -- the words where a block is dropped
  pub drops : (head b t i : ℕ) → (c : IsSeen m head b t) → i < block_count b → IsInHand m n (block_address b head i)
      → AreAllShown l made (after s m (entry n (acts.Drop (block_address b head i)))) owes (set words (bitmap_at l head i) (bit_and (get_or words (bitmap_at l head i) 0) (bit_not w64 (bit_of_block i))))
  drops head b t i c =
      let p = in_lfh m.state.back.area.spans c.span c.there in
      subst (λ (z : ℕ × ℕ). i < block_count z.1 → IsInHand m n (block_address z.1 z.0 i)
      → AreAllShown l made (after s m (entry n (acts.Drop (block_address z.1 z.0 i)))) owes (set words (bitmap_at l z.0 i) (bit_and (get_or words (bitmap_at l z.0 i) 0) (bit_not w64 (bit_of_block i))))) (λ j. (c.begins j, c.bucket j))
      (λ below h. drop_shown i c.span p.0 p.1 below h)

  ---- .. where a size word is written

  module _ (a : ℕ) (aligned : 16 * (a / 16) ≡ a) (low : a / 16 < 65536 * l.segments) (deed : Deed) (qs : List Place) (v : ℕ) (state_is : (after s m (entry n deed)).state ≡ with_lfh m.state qs) (history : (after s m (entry n deed)).now.span_history ≡ m.now.span_history)
      (starts : (b : ℕ) → starts_at qs b ≡ starts_at m.state.lfh b) (sizes : (k : ℕ) → (16 * k ≡ a → ⊥) → size_word qs k ≡ size_word m.state.lfh k) (size : size_word qs (a / 16) ≡ v) where
    -- the words where a size word is written
    pub size_shown : AreAllShown l made (after s m (entry n deed)) owes (set words (size_at l a) v)
    size_shown =
        let at : ℕ = size_at l a in
        shown_behind l made (after s m (entry n deed)) m owes owes words at v (omega arith) (omega arith)
        (places_only l (after s m (entry n deed)) m owes at v qs state_is history (omega arith) (omega arith)
        (λ k lk. stays at v (2182 + 256 * l.segments + k) _ _ (λ g. omega arith) (bits_on m.state.lfh qs (lfh_spans m.state.back.area) (λ b. sym (starts b)) (k / 4) (k % 4)))
        (λ k lk. record {
          here = λ g. let same : a / 16 ≡ k = omega arith in subst (λ (z : ℕ). v ≡ size_word qs z) same (sym size);
          else = λ g. sizes k (λ z. g (omega arith));
        }))
        (owed_places l (after s m (entry n deed)) m owes at v qs state_is history (owed_soundly l made m owes words shown)) shown

  -- the place of the front end that begins at a is changed
  module _ (p : Place) (there : IsOneOf p m.state.lfh) (t : Status) (qs : List Place) (qs_is : qs ≡ change_found (begins p.start) (with_status t) m.state.lfh) where
    -- places begin where they did
    pub changed_starts : (b : ℕ) → starts_at qs b ≡ starts_at m.state.lfh b
    changed_starts b = ap (λ (ps : List Place). starts_at ps b) qs_is ∙ starts_on b (begins p.start) t m.state.lfh

    -- the other size words stay
    pub changed_sizes : (k : ℕ) → (16 * k ≡ p.start → ⊥) → size_word qs k ≡ size_word m.state.lfh k
    changed_sizes k ne = ap (λ (o : Option Place). unwrap_or (option_map (λ q. unwrap_or (option_map (λ n. n + 1) (live_size q.status)) 0) o) 0)
        (ap (find (begins (16 * k))) qs_is ∙ found_changed_other (with_status t) (λ q. refl) (16 * k) p.start m.state.lfh ne)

    -- the size word of the place
    pub changed_size : 16 * (p.start / 16) ≡ p.start → size_word qs (p.start / 16) ≡ unwrap_or (option_map (λ n. n + 1) (live_size t)) 0
    changed_size g = ap (λ (o : Option Place). unwrap_or (option_map (λ q. unwrap_or (option_map (λ n. n + 1) (live_size q.status)) 0) o) 0)
        (ap (λ (z : ℕ). find (begins z) qs) g ∙ (ap (find (begins p.start)) qs_is ∙ found_changed_same (with_status t) (λ q. refl) p.start m.state.lfh p (found_is m.state.lfh f.layers f.apart p there)))

  -- a place of the front end is at a granule of the segments
  pub at_granule : (p : Place) → IsOneOf p m.state.lfh → (16 * (p.start / 16) ≡ p.start) × (p.start / 16 < 65536 * l.segments)
  at_granule p i =
      let h = all_at (λ p. Rattle.heap_soundness.specs.Sound.IsInLfh m.state.back.area.spans p.start p.granules) p m.state.lfh f.places i in
      let z = seat_at l m.state.back.area m.state.lfh f h.span h.index h.there h.kind h.below in
      let g = z.aligned in
      let k = z.granule in
      let e = h.block in (omega arith, omega arith)

  -- a block in hand becomes live
  pub gives_size : (addr size : ℕ) → IsInHand m n addr → AreAllShown l made (after s m (entry n (acts.Give addr size))) owes (set words (size_at l addr) (size + 1))
  gives_size addr size h =
      let k = hand_is m n addr h.place homes h.hand h.layer in
      let g = at_granule h.place k.there in
      subst (λ (a : ℕ). hand_at m.state n a ≡ Some h.place → AreAllShown l made (after s m (entry n (acts.Give a size))) owes (set words (size_at l a) (size + 1))) k.starts
      (λ e.
      let qs : List Place = change_found (is_hand_at n h.place.start) (with_status (Live size)) m.state.lfh in
      let qs_is = changed_is m.state.lfh f.layers f.apart h.place k.there (is_in_hand_of n) (with_status (Live size)) k.mine in
      size_shown h.place.start g.0 g.1 (acts.Give h.place.start size) qs (size + 1) (found_lfh m.state (hand_at m.state n h.place.start) h.place (change_found (is_hand_at n h.place.start) (with_status (Live size))) e h.layer) refl
      (changed_starts h.place k.there (Live size) qs qs_is) (changed_sizes h.place k.there (Live size) qs qs_is) (changed_size h.place k.there (Live size) qs qs_is g.0))
      h.hand

  -- a live block is taken in hand
  pub takes_size : (p : Place) (size : ℕ) → IsOneOf p m.state.lfh → p.status ≡ Live size → place_at m.state n p.start ≡ Some p → AreAllShown l made (after s m (entry n (acts.Take p.start size))) owes (set words (size_at l p.start) 0)
  takes_size p size i live e =
      let g = at_granule p i in
      let is_lfh = all_at Rattle.step_parts.proofs.Starts.OfLfh p m.state.lfh f.layers i in
      let qs : List Place = change_found (is_live_at p.start) (with_status (InHand n)) m.state.lfh in
      let qs_is = changed_is m.state.lfh f.layers f.apart p i is_live (with_status (InHand n)) (ap is_live live) in
      size_shown p.start g.0 g.1 (acts.Take p.start size) qs 0 (found_lfh m.state (place_at m.state n p.start) p (change_found (is_live_at p.start) (with_status (InHand n))) e is_lfh) refl
      (changed_starts p i (InHand n) qs qs_is) (changed_sizes p i (InHand n) qs qs_is) (changed_size p i (InHand n) qs qs_is g.0)
