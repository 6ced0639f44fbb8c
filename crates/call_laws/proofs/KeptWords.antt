-- A reallocation keeps the words of its block.
use Rattle.std.proofs.Common.{◌≡◌, ℕ, ◌+◌, ◌-◌, ◌/◌, ◌<◌, ◌≤◌, Bool, true, false, ◌&&◌, ◌||◌, cond, List, [], ◌∷◌, ◌++◌, length, Option, Some, None, refl, sym, ap, subst, ◌∙◌, inl, inr, ◌⊎◌, eqb, arith, append_assoc}
use Rattle.std.specs.Prelude.{min}
use Rattle.std.specs.List.{list_all, list_any}
use Rattle.std.proofs.lemmas.List.{append-nil}
use Rattle.std.proofs.lemmas.Bool.{cases_Bool, eq-eqb}
use Rattle.heap_model.specs.declared.Act.{Act}
use Rattle.heap_model.specs.declared.Act.TheVariants as acts
use Rattle.heap_model.specs.declared.Entry.{Entry}
use Rattle.heap_model.specs.declared.Layer.{Layer}
use Rattle.heap_model.specs.Geometry.{words_of}
use Rattle.heap_model.specs.State.{Setting, State, Place, Live, InHand, address, hands, place_at, all_places}
use Rattle.heap_model.specs.CallState.{Configuration}
use Rattle.heap_model.specs.Legal.{may, after, with_status}
use Rattle.heap_model.specs.History.{configuration_after, may_all_follow}
use Rattle.heap_model.specs.Moments.{Moment, moments, acts_of, state_before, In}
use Rattle.heap_model.specs.Shape.{Allocates, zeroing, is_left_out, shape_of, shown, zeros, zeroing_more, copying, moving, is_of_front, TakesAndPlaces, Finds, is_resize, IsResized, IsGivenAgain, IsMoved}
use Rattle.heap_model.specs.Contents.{is_store_to, is_stored_by_others, puts_back, is_take_of, until_given, HadSize, KeepsContents, IsZeroed}
use Rattle.heap_soundness.specs.Sound.{IsOneOf, AreApart}
use Rattle.heap_soundness.specs.Invariant.{Keeps}
use Rattle.heap_soundness.proofs.Kept.{keeps_through}
use Rattle.heap_soundness.proofs.Addresses.{members_apart}
use Rattle.heap_soundness.proofs.Whole.{all_disjoint}
use Rattle.serial_laws.proofs.Turns.{configuration-append}
use Rattle.call_laws.specs.Within.{by_caller, IsReached}
use Rattle.call_laws.specs.Words.{is_of_word, word_acts}
use Rattle.call_laws.specs.Kept.{ReallocationKeeps, AllocationZeroes, ReallocationZeroes}
use Rattle.call_laws.proofs.Within.{keeps}
use Rattle.call_laws.proofs.Words.{mine, mine_is, zeros_miss, copies_keep, zeroes_stay}
use Rattle.call_laws.proofs.Shown.{is_shown, shown_is, words_shown, cut, there, hand_stays, leaves_hands}
use Rattle.call_laws.proofs.Moved.{HasBytes, apart_words, below_words, taken_is, given_bytes, hands_among, made_by, made_in_hand, made_apart, hand_past_take, taken_in_hand, any-both, words_first, zeros_are, moving_are, all-parts, kept_where, front_legal, front_words, front_alone}

in_map : (P Q : State → Type 0) (o : Option State) → ((st : State) → P st → Q st) → In o P → In o Q
in_map P Q None f h = absurd h
in_map P Q (Some st) f h = f st h

any_shown : (t : Act → Bool) (rest : List Act) → list_any t (shape_of rest) ≡ true → list_any t rest ≡ true
any_shown t [] h = h
any_shown t (x ∷ rest) h = elim (cases_Bool (t x)) [
  | inl e ↦ rw e refl
  | inr e ↦ rw e (elim (cases_Bool (is_left_out x)) [
    | inl l ↦ any_shown t rest (rw l at h)
    | inr l ↦ any_shown t rest (let k : (t x || list_any t (shape_of rest)) ≡ true = rw l at h in (rw e at k))
  ])
]

any-behind : (t : Act → Bool) (xs : List Act) (y : Act) (ys : List Act) → t y ≡ true → list_any t (xs ++ y ∷ ys) ≡ true
any-behind t [] y ys h = rw h refl
any-behind t (x ∷ xs) y ys h = elim (cases_Bool (t x)) [ inl e ↦ rw e refl | inr e ↦ rw e (any-behind t xs y ys h) ]

words-append : (xs ys : List Act) → word_acts (xs ++ ys) ≡ word_acts xs ++ word_acts ys
words-append [] ys = refl
words-append (x ∷ xs) ys = go (is_of_word x) (words-append xs ys)
  where
    go : (b : Bool) → word_acts (xs ++ ys) ≡ word_acts xs ++ word_acts ys → cond b (x ∷ word_acts (xs ++ ys)) (word_acts (xs ++ ys)) ≡ cond b (x ∷ word_acts xs) (word_acts xs) ++ word_acts ys
    go true h = ap (λ (l : List Act). x ∷ l) h
    go false h = h

-- what is put back
puts_it : (b n : ℕ) → (eqb b b && eqb n n) ≡ true
puts_it b n = let x = eq-eqb b b refl in let y = eq-eqb n n refl in rw (x, y) refl

module _ (s : Setting) (m : Configuration) (c a n : ℕ) (es : List Entry) (r : IsReached s m) (legal : may_all_follow s m es ≡ true) where
  abbrev xs : List Moment
  xs = moments s c m es

  k : Keeps s m
  k = keeps s m r

  own_shown : (l : List Act) → shown xs ≡ l → mine is_shown c es ≡ l
  own_shown l h = sym (shown_is s c m es) ∙ h

  own_words : (l : List Act) → shown xs ≡ l → mine is_of_word c es ≡ word_acts l
  own_words l h = words_shown c es ∙ ap word_acts (own_shown l h)

  -- where the block stays, only what it gains is stored to
  stays_put : (size : ℕ) (zero_it : Bool) (first last : Act) → is_of_word last ≡ false → mine is_of_word c es ≡ word_acts (zeroing_more zero_it a size n ++ last ∷ []) → KeepsContents s c m a size a n es
  stays_put size zero_it first last w h = record {
    word = λ i below others_a others_b.
        let words : word_acts (zeroing_more zero_it a size n ++ last ∷ []) ≡ zeroing_more zero_it a size n ++ word_acts (last ∷ []) = words_first (zeroing_more zero_it a size n) (last ∷ []) (zeros_are zero_it (a / 8 + words_of size) (words_of n - words_of size)) in
        let end : word_acts (last ∷ []) ≡ [] = rw w refl in
        let u = below_words size n i below in
        let v = u.0 in
        let miss : list_any (is_store_to (a / 8 + i)) (mine is_of_word c es) ≡ false =
        ap (list_any (is_store_to (a / 8 + i))) (h ∙ (words ∙ ap (λ (l : List Act). zeroing_more zero_it a size n ++ l) end))
        ∙ any-both (is_store_to (a / 8 + i)) (zeroing_more zero_it a size n) [] (zeros_miss zero_it (a / 8 + words_of size) (words_of n - words_of size) (a / 8 + i) (omega (arith, v))) refl in
        kept_where s c a a n m es (a / 8 + i) miss others_a;
  }

  resized : (zero_it : Bool) → IsResized s c a n zero_it xs → (size : ℕ) × HadSize c a size xs × KeepsContents s c m a size a n es
  resized zero_it x = (
    x.size,
    inr (in_map (Finds s c a n x.old true) (λ st. (p : Place) × (place_at st c a ≡ Some p) × (p.status ≡ Live x.size)) (state_before is_resize xs) (λ st h. (x.old, h.0, x.live)) x.stays),
    stays_put x.size zero_it (acts.Resize a x.granules n) (acts.Resize a x.granules n) refl (own_words (zeroing_more zero_it a x.size n ++ acts.Resize a x.granules n ∷ []) x.acts_are),
  )

  given_again : (zero_it : Bool) → IsGivenAgain s c a n zero_it xs → (size : ℕ) × HadSize c a size xs × KeepsContents s c m a size a n es
  given_again zero_it x =
      let list = acts.Take a x.size ∷ (zeroing_more zero_it a x.size n ++ acts.Give a n ∷ []) in (
        x.size,
        inl (any_shown (is_take_of a x.size) (acts_of xs) (ap (list_any (is_take_of a x.size)) x.acts_are ∙ any-behind (is_take_of a x.size) [] (acts.Take a x.size) (zeroing_more zero_it a x.size n ++ acts.Give a n ∷ []) (puts_it a x.size))),
        stays_put x.size zero_it (acts.Give a n) (acts.Give a n) refl (own_words list x.acts_are),
      )

  -- the old place, and the new one, apart, as c has taken and made them
  record MovesApart (size b : ℕ) : Type 0 where
    old : Place
    made : Place
    apart : AreApart old made
    from : HasBytes old a size
    to : HasBytes made b n

  abbrev moved_words : ℕ → ℕ → Bool → List ℕ → List Act
  moved_words size b zero_it values = moving a size b n zero_it values

  -- a block of the front end: taken first, then the place is made
  taken_first : (size b start granules : ℕ) (l : Layer) (rest : List Act) (f : List Entry) → may_all_follow s m f ≡ true → may s (configuration_after s m f) c (acts.Give b n) ≡ true → list_all is_of_word rest ≡ true →
      address (made_by c start granules l) ≡ b → mine is_shown c f ≡ acts.Take a size ∷ acts.Place start granules l ∷ rest → MovesApart size b
  taken_first size b start granules l rest f legal_f give words at h =
      let take = acts.Take a size in
      let place = acts.Place start granules l in
      let t = cut c f [] take (place ∷ rest) h in
      let tt = there s m c take f t.first t.later r.valid k legal_f t.is in
      let kt = configuration_after s m t.first in
      let k1 = after s kt (by_caller c take) in
      let p = cut c t.later [] place rest t.behind in
      let pp = there s k1 c place t.later p.first p.later r.valid tt.next tt.rest p.is in
      let kp = configuration_after s k1 p.first in
      let k2 = after s kp (by_caller c place) in
      let x = taken_is s kt tt.sound c a size tt.row in
      let old = with_status (InHand c) x.old in
      let still : IsOneOf old (hands kp.state c) = hand_stays s k1 c p.first old r.valid tt.next pp.front (leaves_hands c p.first (ap (list_all is_of_word) p.before)) (taken_in_hand s kt c a size tt.sound x) in
      let made = made_by c start granules l in
      let in_hand : IsOneOf made (hands (configuration_after s k2 p.later).state c) = hand_stays s k2 c p.later made r.valid pp.next pp.rest (leaves_hands c p.later (ap (list_all is_of_word) p.behind ∙ words)) (made_in_hand s kp c start granules l pp.sound pp.next) in
      let to_end : configuration_after s m f ≡ configuration_after s k2 p.later =
      ap (configuration_after s m) t.is ∙ (configuration-append s m t.first (by_caller c take ∷ t.later) ∙ (ap (configuration_after s k1) p.is ∙ configuration-append s k1 p.first (by_caller c place ∷ p.later))) in
      let at_end : Keeps s (configuration_after s k2 p.later) = keeps_through s k2 p.later r.valid pp.rest pp.next in
      record {
        old = old;
        made = made;
        apart = made_apart s kp c start granules l pp.sound pp.next old still;
        from = record { low = x.bytes.low; high = x.bytes.high; aligned = x.bytes.aligned };
        to = given_bytes s (configuration_after s k2 p.later) at_end c b n made refl in_hand at (subst (λ (z : Configuration). may s z c (acts.Give b n) ≡ true) to_end give);
      }

  -- another block: the place is made first, and the block taken behind it
  placed_first : (size b start granules : ℕ) (l : Layer) (first later : List Act) (f : List Entry) → may_all_follow s m f ≡ true → may s (configuration_after s m f) c (acts.Give b n) ≡ true → list_all is_of_word (first ++ later) ≡ true →
      address (made_by c start granules l) ≡ b → mine is_shown c f ≡ acts.Place start granules l ∷ (first ++ acts.Take a size ∷ later) → MovesApart size b
  placed_first size b start granules l first later f legal_f give words at h =
      let take = acts.Take a size in
      let place = acts.Place start granules l in
      let made = made_by c start granules l in
      let two = all-parts first later words in
      let p = cut c f [] place (first ++ take ∷ later) h in
      let pp = there s m c place f p.first p.later r.valid k legal_f p.is in
      let kp = configuration_after s m p.first in
      let k1 = after s kp (by_caller c place) in
      let t = cut c p.later first take later p.behind in
      let tt = there s k1 c take p.later t.first t.later r.valid pp.next pp.rest t.is in
      let kt = configuration_after s k1 t.first in
      let k2 = after s kt (by_caller c take) in
      let x = taken_is s kt tt.sound c a size tt.row in
      let here : IsOneOf made (hands kt.state c) = hand_stays s k1 c t.first made r.valid pp.next tt.front (leaves_hands c t.first (ap (list_all is_of_word) t.before ∙ two.0)) (made_in_hand s kp c start granules l pp.sound pp.next) in
      let past = hand_past_take s kt c a size tt.sound x made refl here in
      let in_hand : IsOneOf made (hands (configuration_after s k2 t.later).state c) = hand_stays s k2 c t.later made r.valid tt.next tt.rest (leaves_hands c t.later (ap (list_all is_of_word) t.behind ∙ two.1)) past in
      let to_end : configuration_after s m f ≡ configuration_after s k2 t.later =
      ap (configuration_after s m) p.is ∙ (configuration-append s m p.first (by_caller c place ∷ p.later) ∙ (ap (configuration_after s k1) t.is ∙ configuration-append s k1 t.first (by_caller c take ∷ t.later))) in
      let at_end : Keeps s (configuration_after s k2 t.later) = keeps_through s k2 t.later r.valid tt.rest tt.next in
      record {
        old = x.old;
        made = made;
        apart = elim (members_apart (all_places kt.state) x.old made (all_disjoint s kt tt.sound) x.there (hands_among kt.state c made here)) [
          | inl same ↦ absurd (let z : Live size ≡ InHand c = sym x.live ∙ ap (λ (q : Place). q.status) same in let w : ⊥ = cc in w)
          | inr g ↦ g
        ];
        from = x.bytes;
        to = given_bytes s (configuration_after s k2 t.later) at_end c b n made refl in_hand at (subst (λ (z : Configuration). may s z c (acts.Give b n) ≡ true) to_end give);
      }

  -- the words that are copied
  copied : (size b : ℕ) (zero_it : Bool) (values : List ℕ) (moves : List Act) → length values ≡ words_of (min size n) → MovesApart size b → mine is_shown c es ≡ moves ++ acts.Give b n ∷ acts.Drop a ∷ [] →
      mine is_of_word c es ≡ moved_words size b zero_it values → KeepsContents s c m a size b n es
  copied size b zero_it values moves count q shape words = record {
    word = λ i below others_a others_b.
        let u = below_words size n i below in
        let v = u.0 in
        let front : List Entry = until_given c b n es in
        let same : mine is_of_word c front ≡ mine is_of_word c es = front_words s c a b n m es moves (acts.Give b n) (acts.Drop a) shape (puts_it b n) refl in
        copies_keep s c m front (a / 8) (b / 8) values (zeroing_more zero_it b size n) i (front_legal s c a b n m es legal) (mine_is s c m front ∙ (same ∙ words))
        (subst (λ (z : ℕ). i < z) (sym count) below)
        (λ j l e. apart_words q.old q.made a b size n i j q.apart q.from q.to u.1 (let w = u.2 in omega (arith, l, w)) e)
        (zeros_miss zero_it (b / 8 + words_of size) (words_of n - words_of size) (b / 8 + i) (omega (arith, v))) others_a others_b;
  }

  moved : (b : ℕ) (zero_it : Bool) → IsMoved s c a n zero_it b xs → (size : ℕ) × HadSize c a size xs × KeepsContents s c m a size b n es
  moved b zero_it x = by_front (is_of_front x.old) x.moves_are
    where
      by_front : (front : Bool) → TakesAndPlaces front (acts.Take a x.size) (acts.Place x.made.start x.made.granules x.made.layer) (moved_words x.size b zero_it x.values) x.moves → (size : ℕ) × HadSize c a size xs × KeepsContents s c m a size b n es
      by_front true e =
          let words = moved_words x.size b zero_it x.values in
          let place = acts.Place x.made.start x.made.granules x.made.layer in
          let shape = own_shown (x.moves ++ acts.Give b n ∷ acts.Drop a ∷ []) x.acts_are in
          let g = cut c es x.moves (acts.Give b n) (acts.Drop a ∷ []) shape in
          let gg = there s m c (acts.Give b n) es g.first g.later r.valid k legal g.is in
          let are = moving_are a x.size b n zero_it x.values in
          let q = taken_first x.size b x.made.start x.made.granules x.made.layer words g.first gg.front gg.row are x.address_is (g.before ∙ e) in
          let list : shown xs ≡ (acts.Take a x.size ∷ place ∷ words) ++ acts.Give b n ∷ acts.Drop a ∷ [] = x.acts_are ∙ ap (λ (l : List Act). l ++ acts.Give b n ∷ acts.Drop a ∷ []) e in
          let all : mine is_of_word c es ≡ words = own_words ((acts.Take a x.size ∷ place ∷ words) ++ acts.Give b n ∷ acts.Drop a ∷ []) list ∙ (words_first words (acts.Give b n ∷ acts.Drop a ∷ []) are ∙ append-nil words) in (
            x.size,
            inl (any_shown (is_take_of a x.size) (acts_of xs) (ap (list_any (is_take_of a x.size)) list ∙ any-behind (is_take_of a x.size) [] (acts.Take a x.size) (place ∷ (words ++ acts.Give b n ∷ acts.Drop a ∷ [])) (puts_it a x.size))),
            copied x.size b zero_it x.values x.moves x.count q shape all,
          )
      by_front false e =
          let words = moved_words x.size b zero_it x.values in
          let place = acts.Place x.made.start x.made.granules x.made.layer in
          let take = acts.Take a x.size in
          let shape = own_shown (x.moves ++ acts.Give b n ∷ acts.Drop a ∷ []) x.acts_are in
          let g = cut c es x.moves (acts.Give b n) (acts.Drop a ∷ []) shape in
          let gg = there s m c (acts.Give b n) es g.first g.later r.valid k legal g.is in
          let are : list_all is_of_word (e.0 ++ e.1) ≡ true = ap (list_all is_of_word) (sym e.2) ∙ moving_are a x.size b n zero_it x.values in
          let two = all-parts e.0 e.1 are in
          let q = placed_first x.size b x.made.start x.made.granules x.made.layer e.0 e.1 g.first gg.front gg.row are x.address_is (g.before ∙ e.3) in
          let ends = acts.Give b n ∷ acts.Drop a ∷ [] in
          let list : shown xs ≡ (place ∷ (e.0 ++ take ∷ e.1)) ++ ends = x.acts_are ∙ ap (λ (l : List Act). l ++ ends) e.3 in
          let all : mine is_of_word c es ≡ words =
          own_words ((place ∷ (e.0 ++ take ∷ e.1)) ++ ends) list
          ∙ (ap word_acts (append_assoc e.0 (take ∷ e.1) ends)
          ∙ (words_first e.0 (take ∷ (e.1 ++ ends)) two.0
          ∙ (ap (λ (l : List Act). e.0 ++ l) (words_first e.1 ends two.1 ∙ append-nil e.1) ∙ sym e.2))) in (
            x.size,
            inl (any_shown (is_take_of a x.size) (acts_of xs) (ap (list_any (is_take_of a x.size)) (list ∙ ap (λ (l : List Act). place ∷ l) (append_assoc e.0 (take ∷ e.1) ends)) ∙ any-behind (is_take_of a x.size) (place ∷ e.0) take (e.1 ++ ends) (puts_it a x.size))),
            copied x.size b zero_it x.values x.moves x.count q shape all,
          )

pub reallocation_keeps : ReallocationKeeps
reallocation_keeps s m c a n b flags es r legal answered = elim answered.shape [
  | inl h ↦
      let same : b ≡ a = h.0 in
      subst (λ (z : ℕ). (size : ℕ) × HadSize c a size (moments s c m es) × KeepsContents s c m a size z n es) (sym same)
      (elim h.1 [ inl x ↦ resized s m c a n es r legal flags.zero x | inr x ↦ given_again s m c a n es r legal flags.zero x ])
  | inr h ↦ moved s m c a n es r legal b flags.zero h.1
]

---- Zeroes

-- what is shown of an allocation
record IsAllocated (a n : ℕ) (zero_it : Bool) (shape : List Act) : Type 0 where
  place : Act
  is : shape ≡ place ∷ (zeroing zero_it a n ++ acts.Give a n ∷ [])
  not_word : is_of_word place ≡ false

allocated : (a n : ℕ) (zero_it : Bool) (shape : List Act) → Allocates a n zero_it shape → IsAllocated a n zero_it shape
allocated a n zero_it [] h = absurd h
allocated a n zero_it (acts.Place start granules layer ∷ rest) h = record { place = acts.Place start granules layer; is = ap (λ (l : List Act). acts.Place start granules layer ∷ l) h.1; not_word = refl }
allocated a n zero_it (_ ∷ rest) h = absurd h

module _ (s : Setting) (m : Configuration) (c n : ℕ) (es : List Entry) where
  -- words that were zeroed from one on
  zeroed_from : (b first count : ℕ) (before : List Act) → mine is_of_word c (until_given c b n es) ≡ before ++ zeros true (b / 8 + first) count → (last : ℕ) → last ≤ first + count → IsZeroed s c m b n first last es
  zeroed_from b first count before h last e = record {
    word = λ i low high others.
        let same : b / 8 + first + (i - first) ≡ b / 8 + i = omega (arith, low) in
        let front : List Entry = until_given c b n es in
        subst (λ (w : ℕ). (configuration_after s m front).state.words w ≡ 0) same
        (zeroes_stay s c m front before (b / 8 + first) count (i - first) (mine_is s c m front ∙ h) (omega (arith, low, high, e))
        (subst (λ (w : ℕ). is_stored_by_others c w front ≡ false) (sym same) others));
  }

  abbrev seen : List Moment
  seen = moments s c m es

  shown_own : (l : List Act) → shown seen ≡ l → mine is_shown c es ≡ l
  shown_own l h = sym (shown_is s c m es) ∙ h

  -- .. where c shows this, and puts the block back at its end
  zeroed_alone : (b first count : ℕ) (lead before : List Act) (put : Act) → shown seen ≡ lead ++ (zeros true (b / 8 + first) count ++ put ∷ []) → word_acts lead ≡ before → puts_back b n put ≡ true → is_of_word put ≡ false → (last : ℕ) → last ≤ first + count → IsZeroed s c m b n first last es
  zeroed_alone b first count lead before put h are t w last e =
      let z = zeros true (b / 8 + first) count in
      let list : shown seen ≡ (lead ++ z) ++ put ∷ [] = h ∙ sym (append_assoc lead z (put ∷ [])) in
      let front : mine is_of_word c (until_given c b n es) ≡ mine is_of_word c es = front_alone s c 0 b n m es (lead ++ z) put (shown_own ((lead ++ z) ++ put ∷ []) list) t in
      let end : word_acts (put ∷ []) ≡ [] = rw w refl in
      let words : mine is_of_word c es ≡ before ++ z =
      words_shown c es ∙ (ap word_acts (shown_own (lead ++ (z ++ put ∷ [])) h)
      ∙ (words-append lead (z ++ put ∷ []) ∙ (λ i. are i ++ (words_first z (put ∷ []) (zeros_are true (b / 8 + first) count) ∙ (ap (λ (l : List Act). z ++ l) end ∙ append-nil z)) i))) in
      zeroed_from b first count before (front ∙ words) last e

  -- a block that stays
  zeroes_here : (a : ℕ) → IsResized s c a n true seen ⊎ IsGivenAgain s c a n true seen → (size : ℕ) × HadSize c a size seen × IsZeroed s c m a n (words_of size) (words_of n) es
  zeroes_here a (inl x) = (
    x.size,
    inr (in_map (Finds s c a n x.old true) (λ st. (p : Place) × (place_at st c a ≡ Some p) × (p.status ≡ Live x.size)) (state_before is_resize seen) (λ st h. (x.old, h.0, x.live)) x.stays),
    zeroed_alone a (words_of x.size) (words_of n - words_of x.size) [] [] (acts.Resize a x.granules n) x.acts_are refl (puts_it a n) refl (words_of n) (omega arith),
  )
  zeroes_here a (inr x) = (
    x.size,
    inl (any_shown (is_take_of a x.size) (acts_of seen) (ap (list_any (is_take_of a x.size)) x.acts_are ∙ any-behind (is_take_of a x.size) [] (acts.Take a x.size) (zeroing_more true a x.size n ++ acts.Give a n ∷ []) (puts_it a x.size))),
    zeroed_alone a (words_of x.size) (words_of n - words_of x.size) (acts.Take a x.size ∷ []) [] (acts.Give a n) x.acts_are refl (puts_it a n) refl (words_of n) (omega arith),
  )

  -- a block that moves
  zeroes_there : (a b : ℕ) → IsMoved s c a n true b seen → (size : ℕ) × HadSize c a size seen × IsZeroed s c m b n (words_of size) (words_of n) es
  zeroes_there a b x = by_front (is_of_front x.old) x.moves_are
    where
      by_front : (front : Bool) → TakesAndPlaces front (acts.Take a x.size) (acts.Place x.made.start x.made.granules x.made.layer) (moving a x.size b n true x.values) x.moves → (size : ℕ) × HadSize c a size seen × IsZeroed s c m b n (words_of size) (words_of n) es
      by_front true e =
          let words = moving a x.size b n true x.values in
          let place = acts.Place x.made.start x.made.granules x.made.layer in
          let ends = acts.Give b n ∷ acts.Drop a ∷ [] in
          let list : shown seen ≡ (acts.Take a x.size ∷ place ∷ words) ++ ends = x.acts_are ∙ ap (λ (l : List Act). l ++ ends) e in
          let all : mine is_of_word c es ≡ words = words_shown c es ∙ (ap word_acts (shown_own ((acts.Take a x.size ∷ place ∷ words) ++ ends) list) ∙ (words_first words ends (moving_are a x.size b n true x.values) ∙ append-nil words)) in (
            x.size,
            inl (any_shown (is_take_of a x.size) (acts_of seen) (ap (list_any (is_take_of a x.size)) list ∙ any-behind (is_take_of a x.size) [] (acts.Take a x.size) (place ∷ (words ++ ends)) (puts_it a x.size))),
            zeroed_from b (words_of x.size) (words_of n - words_of x.size) (copying (a / 8) (b / 8) x.values) (front_words s c a b n m es x.moves (acts.Give b n) (acts.Drop a) (shown_own (x.moves ++ ends) x.acts_are) (puts_it b n) refl ∙ all) (words_of n) (omega arith),
          )
      by_front false e =
          let words = moving a x.size b n true x.values in
          let place = acts.Place x.made.start x.made.granules x.made.layer in
          let take = acts.Take a x.size in
          let ends = acts.Give b n ∷ acts.Drop a ∷ [] in
          let are : list_all is_of_word (e.0 ++ e.1) ≡ true = ap (list_all is_of_word) (sym e.2) ∙ moving_are a x.size b n true x.values in
          let two = all-parts e.0 e.1 are in
          let list : shown seen ≡ (place ∷ (e.0 ++ take ∷ e.1)) ++ ends = x.acts_are ∙ ap (λ (l : List Act). l ++ ends) e.3 in
          let all : mine is_of_word c es ≡ words =
          words_shown c es ∙ (ap word_acts (shown_own ((place ∷ (e.0 ++ take ∷ e.1)) ++ ends) list)
          ∙ (ap word_acts (append_assoc e.0 (take ∷ e.1) ends)
          ∙ (words_first e.0 (take ∷ (e.1 ++ ends)) two.0
          ∙ (ap (λ (l : List Act). e.0 ++ l) (words_first e.1 ends two.1 ∙ append-nil e.1) ∙ sym e.2)))) in (
            x.size,
            inl (any_shown (is_take_of a x.size) (acts_of seen) (ap (list_any (is_take_of a x.size)) (list ∙ ap (λ (l : List Act). place ∷ l) (append_assoc e.0 (take ∷ e.1) ends)) ∙ any-behind (is_take_of a x.size) (place ∷ e.0) take (e.1 ++ ends) (puts_it a x.size))),
            zeroed_from b (words_of x.size) (words_of n - words_of x.size) (copying (a / 8) (b / 8) x.values) (front_words s c a b n m es x.moves (acts.Give b n) (acts.Drop a) (shown_own (x.moves ++ ends) x.acts_are) (puts_it b n) refl ∙ all) (words_of n) (omega arith),
          )

pub allocation_zeroes : AllocationZeroes
allocation_zeroes s m c n a flags es zero_it answered =
    let shape : Allocates a n true (shown (moments s c m es)) = subst (λ (z : Bool). Allocates a n z (shown (moments s c m es))) zero_it answered.shape in
    let x = allocated a n true (shown (moments s c m es)) shape in
    let w = x.not_word in
    let first : a / 8 ≡ a / 8 + 0 = omega arith in
    zeroed_alone s m c n es a 0 (words_of n) (x.place ∷ []) [] (acts.Give a n)
    (x.is ∙ ap (λ (k : ℕ). x.place ∷ (zeros true k (words_of n) ++ acts.Give a n ∷ [])) first) (rw w refl) (puts_it a n) refl (words_of n) (omega arith)

pub reallocation_zeroes : ReallocationZeroes
reallocation_zeroes s m c a n b flags es zero_it answered = elim answered.shape [
  | inl h ↦
      let same : b ≡ a = h.0 in
      subst (λ (z : ℕ). (size : ℕ) × HadSize c a size (moments s c m es) × IsZeroed s c m z n (words_of size) (words_of n) es) (sym same)
      (zeroes_here s m c n es a (subst (λ (z : Bool). IsResized s c a n z (moments s c m es) ⊎ IsGivenAgain s c a n z (moments s c m es)) zero_it h.1))
  | inr h ↦ zeroes_there s m c n es a b (subst (λ (z : Bool). IsMoved s c a n z b (moments s c m es)) zero_it h.1)
]
