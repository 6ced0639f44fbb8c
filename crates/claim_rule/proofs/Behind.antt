-- One law for all kinds of step: the word that is written shows what is behind the step, and each other word shows there what it showed before.
use Rattle.std.proofs.Common.{◌≡◌, ◌⊎◌, ℕ, ◌+◌, ◌*◌, ◌/◌, ◌%◌, ◌<◌, ◌≤◌, List, [], length, get_or, set, Option, None, sym, ap, ◌∙◌, subst, arith, inl, inr, ⊎_elim, eqb, length-set, get_or-set_same, get_or-set_other, true, refl, Some}
use Rattle.std.proofs.lemmas.Bool.{cases_Bool, eqb-true, eqb-false}
use Rattle.heap_model.specs.declared.Limits.{Limits}
use Rattle.heap_model.specs.State.{Area, gate_word, caller_word, Span, Place, Locks, holder_of, put_holder}
use Rattle.heap_model.specs.CallState.{Configuration, SpanHistory}
use Rattle.claim_rule.specs.declared.views.Owed.{Owed}
use Rattle.claim_rule.specs.Places.{word_count, lock_at, IsLayerLock}
use Rattle.claim_rule.specs.Shown.{lfh_spans, flag, bitmap_word, size_word, owed_or, tag_word, hint_word, HasMaker, MayWantTag, HintsAreHeads, MayBeOld, AreAllShown, are_made_by, is_head, LfhShown}
use Rattle.std.specs.Prelude.{Bool, is_some}
use Rattle.heap_model.specs.declared.What.{What}
use Rattle.claim_rule.proofs.Quiet.{SameShown, same_shown}
use Rattle.claim_rule.proofs.Wanting.{KeepsOwner}
use Rattle.claim_rule.proofs.Words.{hint_same, lfh_same}
use Rattle.claim_rule.proofs.LockWords.{same_what, words_apart, lock_low, holder_here, holder_else}

-- what the word j shows: the new value where it is the one that is written, else what it showed
pub record Becomes (i v j new old : ℕ) : Type 0 where
  pub here : i ≡ j → v ≡ new
  pub else : (i ≡ j → ⊥) → new ≡ old

-- it is not the one that is written
pub stays : (i v j new old : ℕ) → (i ≡ j → ⊥) → new ≡ old → Becomes i v j new old
stays i v j new old ne e = record { here = λ k. absurd (ne k); else = λ k. e }

becomes : (words : List ℕ) (i v j new old : ℕ) → i < length words → Becomes i v j new old → get_or words j 0 ≡ old → get_or (set words i v) j 0 ≡ new
becomes words i v j new old lt b h = elim (cases_Bool (eqb i j)) [
  | inl e ↦ let k = eqb-true i j e in subst (λ (z : ℕ). get_or (set words i v) z 0 ≡ new) k (get_or-set_same words i v 0 lt ∙ b.here k)
  | inr e ↦ let k = eqb-false i j e in get_or-set_other words i j v 0 (λ z. k (sym z)) ∙ (h ∙ sym (b.else k))
]

-- What readers of tags and hints go by: a tag that is owed is 0 and may be wanted, and a hint that is owed may be old.
pub record IsOwedSoundly (l : Limits) (m : Configuration) (owes : List Owed) : Type 0 where
  pub tags : (page : ℕ) → page < 256 * l.segments
      → (owed_or owes (2182 + page) (tag_word (lfh_spans m.state.back.area) page) ≡ tag_word (lfh_spans m.state.back.area) page) ⊎ ((owed_or owes (2182 + page) (tag_word (lfh_spans m.state.back.area) page) ≡ 0) × MayWantTag m page)
  pub heads : HintsAreHeads m
  pub hints : (b t : ℕ) → 1 ≤ b → b ≤ 128 → t < 16
      → (owed_or owes (118 + 16 * b + t) (hint_word m.state.back.area m.now.span_history b t) ≡ hint_word m.state.back.area m.now.span_history b t)
      ⊎ MayBeOld m b t (owed_or owes (118 + 16 * b + t) (hint_word m.state.back.area m.now.span_history b t))
  pub paid : m.state.gate.locks.back ≡ None → owes ≡ []

-- where the words of the front end are shown, readers may go by them
pub owed_by_front : (l : Limits) (m : Configuration) (owes : List Owed) (words : List ℕ) → LfhShown l m owes words → IsOwedSoundly l m owes
owed_by_front l m owes words h = record {
  tags = λ page lt. let k = h.tags page lt in ⊎_elim (λ (z : get_or words (2182 + page) 0 ≡ tag_word (lfh_spans m.state.back.area) page). inl (sym k.0 ∙ z)) (λ (z : (get_or words (2182 + page) 0 ≡ 0) × MayWantTag m page). inr (sym k.0 ∙ z.0, z.1)) k.1;
  heads = h.heads;
  hints = λ b t low high few.
      let k = h.hints b t low high few in
      ⊎_elim (λ (z : get_or words (118 + 16 * b + t) 0 ≡ hint_word m.state.back.area m.now.span_history b t). inl (sym k.0 ∙ z)) (λ (z : MayBeOld m b t (get_or words (118 + 16 * b + t) 0)). inr (subst (MayBeOld m b t) k.0 z)) k.1;
  paid = h.paid;
}

-- .. and where all are
pub owed_soundly : (l : Limits) (made : ℕ) (m : Configuration) (owes : List Owed) (words : List ℕ) → AreAllShown l made m owes words → IsOwedSoundly l m owes
owed_soundly l made m owes words h = owed_by_front l m owes words h.lfh

-- The parts of the words but for the word of callers that were made. A step names each: what it writes, and that the others stay.
pub record IsBehind (l : Limits) (m' m : Configuration) (owes' owes : List Owed) (i v : ℕ) : Type 0 where
  pub gate : Becomes i v 1 (gate_word m'.state.gate) (gate_word m.state.gate)
  pub locks : (what : What) → IsLayerLock what → Becomes i v (lock_at what) (caller_word (holder_of m'.state.gate.locks what)) (caller_word (holder_of m.state.gate.locks what))
  pub active : (k : ℕ) → k < 128 → Becomes i v (6 + k) (flag (m'.state.vs.active (k + 1))) (flag (m.state.vs.active (k + 1)))
  pub hints : (b t : ℕ) → 1 ≤ b → b ≤ 128 → t < 16
      → Becomes i v (118 + 16 * b + t) (owed_or owes' (118 + 16 * b + t) (hint_word m'.state.back.area m'.now.span_history b t)) (owed_or owes (118 + 16 * b + t) (hint_word m.state.back.area m.now.span_history b t))
  pub tags : (page : ℕ) → page < 256 * l.segments
      → Becomes i v (2182 + page) (owed_or owes' (2182 + page) (tag_word (lfh_spans m'.state.back.area) page)) (owed_or owes (2182 + page) (tag_word (lfh_spans m.state.back.area) page))
  pub bitmaps : (k : ℕ) → k < 1024 * l.segments
      → Becomes i v (2182 + 256 * l.segments + k) (bitmap_word m'.state.lfh (lfh_spans m'.state.back.area) (k / 4) (k % 4)) (bitmap_word m.state.lfh (lfh_spans m.state.back.area) (k / 4) (k % 4))
  pub sizes : (k : ℕ) → k < 65536 * l.segments → Becomes i v (2182 + 1280 * l.segments + k) (size_word m'.state.lfh k) (size_word m.state.lfh k)
  pub stored : (k : ℕ) → k < 131072 * l.segments + 512 * l.large_pages → Becomes i v (2182 + 66816 * l.segments + k) (m'.state.words k) (m.state.words k)

-- no lock's word is the one that is written, and no lock changes hands
pub locks_stay : (i v : ℕ) (f g : Locks) → (i < 2) ⊎ (6 ≤ i) → f ≡ g → (what : What) → IsLayerLock what → Becomes i v (lock_at what) (caller_word (holder_of f what)) (caller_word (holder_of g what))
locks_stay i v f g away e what is =
    let low = lock_low what is in
    stays i v (lock_at what) _ _ (λ k. ⊎_elim (λ (z : i < 2). omega arith) (λ (z : 6 ≤ i). omega arith) away) (ap (λ (x : Locks). caller_word (holder_of x what)) e)

-- one lock changes hands, by its word
pub lock_changes : (h : Option ℕ) (k : Locks) (mine : What) → IsLayerLock mine → (what : What) → IsLayerLock what
    → Becomes (lock_at mine) (caller_word h) (lock_at what) (caller_word (holder_of (put_holder h k mine) what)) (caller_word (holder_of k what))
lock_changes h k mine has what is = elim (same_what mine what) [
  | inl e ↦ subst (λ (z : What). Becomes (lock_at mine) (caller_word h) (lock_at z) (caller_word (holder_of (put_holder h k mine) z)) (caller_word (holder_of k z))) e
      (record { here = λ _. ap caller_word (sym (holder_here k mine h has)); else = λ n. absurd (n refl) })
  | inr ne ↦ stays (lock_at mine) (caller_word h) (lock_at what) _ _ (words_apart mine what ne) (ap caller_word (holder_else k mine what h ne))
]

-- The words behind a step, where each part is named and readers of what is owed can go by it.
pub shown_with : (l : Limits) (made' made : ℕ) (m' m : Configuration) (owes' owes : List Owed) (words : List ℕ) (i v : ℕ)
    → i < word_count l → Becomes i v 0 made' made → IsBehind l m' m owes' owes i v → IsOwedSoundly l m' owes' → AreAllShown l made m owes words → AreAllShown l made' m' owes' (set words i v)
shown_with l made' made m' m owes' owes words i v high c b f h =
    let wide = h.wide in
    let lt : i < length words = omega arith in
    let tag : (page : ℕ) → page < 256 * l.segments → get_or (set words i v) (2182 + page) 0 ≡ owed_or owes' (2182 + page) (tag_word (lfh_spans m'.state.back.area) page) =
    λ page lp. becomes words i v (2182 + page) _ _ lt (b.tags page lp) (h.lfh.tags page lp).0 in
    let hint : (x t : ℕ) → 1 ≤ x → x ≤ 128 → t < 16 → get_or (set words i v) (118 + 16 * x + t) 0 ≡ owed_or owes' (118 + 16 * x + t) (hint_word m'.state.back.area m'.now.span_history x t) =
    λ x t lx hx ft. becomes words i v (118 + 16 * x + t) _ _ lt (b.hints x t lx hx ft) (h.lfh.hints x t lx hx ft).0 in
    record {
      wide = length-set words i v ∙ h.wide;
      made_is = becomes words i v 0 _ _ lt c h.made_is;
      gate = record {
        gate = becomes words i v 1 _ _ lt b.gate h.gate.gate;
        locks = λ what is. becomes words i v (lock_at what) _ _ lt (b.locks what is) (h.gate.locks what is);
      };
      lfh = record {
        active = λ k lk. becomes words i v (6 + k) _ _ lt (b.active k lk) (h.lfh.active k lk);
        bitmaps = λ k lk. becomes words i v (2182 + 256 * l.segments + k) _ _ lt (b.bitmaps k lk) (h.lfh.bitmaps k lk);
        sizes = λ k lk. becomes words i v (2182 + 1280 * l.segments + k) _ _ lt (b.sizes k lk) (h.lfh.sizes k lk);
        tags = λ page lp. (
          tag page lp,
          ⊎_elim
              (λ (z : owed_or owes' (2182 + page) (tag_word (lfh_spans m'.state.back.area) page) ≡ tag_word (lfh_spans m'.state.back.area) page). inl (tag page lp ∙ z))
              (λ (z : (owed_or owes' (2182 + page) (tag_word (lfh_spans m'.state.back.area) page) ≡ 0) × MayWantTag m' page). inr (tag page lp ∙ z.0, z.1))
              (f.tags page lp),
        );
        heads = f.heads;
        hints = λ x t lx hx ft. (
          hint x t lx hx ft,
          ⊎_elim
              (λ (z : owed_or owes' (118 + 16 * x + t) (hint_word m'.state.back.area m'.now.span_history x t) ≡ hint_word m'.state.back.area m'.now.span_history x t). inl (hint x t lx hx ft ∙ z))
              (λ (z : MayBeOld m' x t (owed_or owes' (118 + 16 * x + t) (hint_word m'.state.back.area m'.now.span_history x t))). inr (subst (MayBeOld m' x t) (sym (hint x t lx hx ft)) z))
              (f.hints x t lx hx ft),
        );
        paid = f.paid;
      };
      stored = λ k lk. becomes words i v (2182 + 66816 * l.segments + k) _ _ lt (b.stored k lk) (h.stored k lk);
    }

-- .. where the caller writes no word of those made
pub shown_behind : (l : Limits) (made : ℕ) (m' m : Configuration) (owes' owes : List Owed) (words : List ℕ) (i v : ℕ)
    → 1 ≤ i → i < word_count l → IsBehind l m' m owes' owes i v → IsOwedSoundly l m' owes' → AreAllShown l made m owes words → AreAllShown l made m' owes' (set words i v)
shown_behind l made m' m owes' owes words i v low high b f h = shown_with l made made m' m owes' owes words i v high (stays i v 0 made made (λ e. omega arith) refl) b f h

---- Steps that write a word before those of the front end

-- what the words of the front end and of the data show is the same in both
pub record SameFront (m' m : Configuration) : Type 0 where
  pub lfh : m'.state.lfh ≡ m.state.lfh
  pub words : m'.state.words ≡ m.state.words
  pub active : m'.state.vs.active ≡ m.state.vs.active
  pub spans : lfh_spans m'.state.back.area ≡ lfh_spans m.state.back.area
  pub hints : (b t : ℕ) → hint_word m'.state.back.area m'.now.span_history b t ≡ hint_word m.state.back.area m.now.span_history b t

-- where nothing that words show is another
pub same_front : (m' m : Configuration) → SameShown m' m → m'.state.gate.locks.back ≡ m.state.gate.locks.back → HintsAreHeads m → SameFront m' m
same_front m' m r back heads = record { lfh = r.lfh; words = r.words; active = r.active; spans = r.spans; hints = hint_same m' m r back heads }

-- the parts of the words where a word before those of the front end is written
pub low_behind : (l : Limits) (m' m : Configuration) (owes : List Owed) (i v : ℕ) → i < 6 → SameFront m' m → Becomes i v 1 (gate_word m'.state.gate) (gate_word m.state.gate)
    → ((what : What) → IsLayerLock what → Becomes i v (lock_at what) (caller_word (holder_of m'.state.gate.locks what)) (caller_word (holder_of m.state.gate.locks what))) → IsBehind l m' m owes owes i v
low_behind l m' m owes i v lt r gate locks = record {
  gate = gate;
  locks = locks;
  active = λ k lk. stays i v (6 + k) _ _ (λ e. omega arith) (ap (λ (f : ℕ → Bool). flag (f (k + 1))) r.active);
  hints = λ b t lb hb ft. stays i v (118 + 16 * b + t) _ _ (λ e. omega arith) (ap (owed_or owes (118 + 16 * b + t)) (r.hints b t));
  tags = λ page lp. stays i v (2182 + page) _ _ (λ e. omega arith) (ap (λ (xs : List Span). owed_or owes (2182 + page) (tag_word xs page)) r.spans);
  bitmaps = λ k lk. stays i v (2182 + 256 * l.segments + k) _ _ (λ e. omega arith) (ap (λ (z : List Place × List Span). bitmap_word z.0 z.1 (k / 4) (k % 4)) (λ j. (r.lfh j, r.spans j)));
  sizes = λ k lk. stays i v (2182 + 1280 * l.segments + k) _ _ (λ e. omega arith) (ap (λ (ps : List Place). size_word ps k) r.lfh);
  stored = λ k lk. stays i v (2182 + 66816 * l.segments + k) _ _ (λ e. omega arith) (ap (λ (f : ℕ → ℕ). f k) r.words);
}

-- the gate word is written, and the locks stay
pub all_gate : (l : Limits) (made : ℕ) (m n : Configuration) (owes : List Owed) (words : List ℕ) (y : ℕ) → SameShown m n → m.state.gate.locks ≡ n.state.gate.locks → KeepsOwner m n
    → y ≡ gate_word m.state.gate → AreAllShown l made n owes words → AreAllShown l made m owes (set words 1 y)
all_gate l made m n owes words y r e owned w h =
    let back = ap (λ (k : Locks). k.back) e in
    shown_behind l made m n owes owes words 1 y (omega arith) (omega arith)
    (low_behind l m n owes 1 y (omega arith) (same_front m n r back h.lfh.heads) (record { here = λ _. w; else = λ k. absurd (k refl) }) (locks_stay 1 y m.state.gate.locks n.state.gate.locks (inl (omega arith)) e))
    (owed_by_front l m owes words (lfh_same m n r back owned l owes words h.lfh)) h

-- one caller more is counted
pub all_made : (l : Limits) (made : ℕ) (m : Configuration) (owes : List Owed) (words : List ℕ) (y : ℕ) → AreAllShown l made m owes words → AreAllShown l y m owes (set words 0 y)
all_made l made m owes words y h =
    shown_with l y made m m owes owes words 0 y (omega arith) (record { here = λ _. refl; else = λ k. absurd (k refl) })
    (low_behind l m m owes 0 y (omega arith) (same_front m m (same_shown m) refl h.lfh.heads) (stays 0 y 1 _ _ (λ k. omega arith) refl) (locks_stay 0 y m.state.gate.locks m.state.gate.locks (inl (omega arith)) refl))
    (owed_soundly l made m owes words h) h

---- What is owed

heads_on : (m' m : Configuration) → m'.state.back.area ≡ m.state.back.area → ((b t : ℕ) → m'.now.span_history.hints b t ≡ m.now.span_history.hints b t) → HintsAreHeads m → HintsAreHeads m'
heads_on m' m area hints h b t first e = ap (λ (a : Area). is_head a b t first) area ∙ h b t first (sym (hints b t) ∙ e)

-- nothing is owed
pub none_owed : (l : Limits) (m' m : Configuration) (owes : List Owed) → m'.state.back.area ≡ m.state.back.area → ((b t : ℕ) → m'.now.span_history.hints b t ≡ m.now.span_history.hints b t) → owes ≡ [] → HintsAreHeads m → IsOwedSoundly l m' owes
none_owed l m' m owes area hints e h = subst (IsOwedSoundly l m') (sym e) (record { tags = λ page lp. inl refl; heads = heads_on m' m area hints h; hints = λ b t lx hx ft. inl refl; paid = λ z. refl })

-- the heap is the same, and Back and the heap lock are held as they were
pub still_owed : (l : Limits) (m' m : Configuration) (owes : List Owed) → m'.state.back.area ≡ m.state.back.area → m'.now.span_history ≡ m.now.span_history → m'.state.gate.locks.back ≡ m.state.gate.locks.back → m'.state.gate.owner ≡ m.state.gate.owner
    → IsOwedSoundly l m owes → IsOwedSoundly l m' owes
still_owed l m' m owes area history back owner f = record {
  tags = λ page lp. subst (λ (z : Area × SpanHistory × Option ℕ). Wanted z.0 z.1 z.2 page) (λ i. (sym area i, sym history i, sym owner i)) (f.tags page lp);
  heads = heads_on m' m area (λ b t. ap (λ (r : SpanHistory). r.hints b t) history) f.heads;
  hints = λ b t lx hx ft. subst (λ (z : Area × SpanHistory × Option ℕ). Old z.0 z.1 z.2 b t) (λ i. (sym area i, sym history i, sym back i)) (f.hints b t lx hx ft);
  paid = λ e. f.paid (sym back ∙ e);
}
  where
    Wanted : Area → SpanHistory → Option ℕ → ℕ → Type 0
    Wanted a r own page =
        (owed_or owes (2182 + page) (tag_word (lfh_spans a) page) ≡ tag_word (lfh_spans a) page)
        ⊎ ((owed_or owes (2182 + page) (tag_word (lfh_spans a) page) ≡ 0) × ((is_some own ≡ true) ⊎ HasMaker a r page))

    Old : Area → SpanHistory → Option ℕ → ℕ → ℕ → Type 0
    Old a r h b t =
        (owed_or owes (118 + 16 * b + t) (hint_word a r b t) ≡ hint_word a r b t)
        ⊎ ((d : ℕ) × (h ≡ Some d) × (((owed_or owes (118 + 16 * b + t) (hint_word a r b t) ≡ 0) × (are_made_by a r d b t ≡ true)) ⊎ (is_head a b t (owed_or owes (118 + 16 * b + t) (hint_word a r b t)) ≡ true)))
