-- A reallocation for which the front end makes no place.
use Rattle.std.proofs.Common.{◌≡◌, ℕ, ◌+◌, ◌-◌, ◌/◌, Bool, true, false, cond, List, [], ◌∷◌, ◌++◌, map, refl, sym, ap, ◌∙◌, subst, inl, inr}
use Rattle.std.proofs.lemmas.Bool.{and_parts, false≢true, true≢false}
use Rattle.heap_model.specs.declared.Act.{Act}
use Rattle.heap_model.specs.declared.Act.TheVariants as acts
use Rattle.heap_model.specs.declared.Call.{Call}
use Rattle.heap_model.specs.declared.Call.TheVariants as calls
use Rattle.heap_model.specs.declared.Flags.{Flags}
use Rattle.heap_model.specs.declared.Reply.{Reply}
use Rattle.heap_model.specs.declared.Reply.TheVariants as replies
use Rattle.heap_model.specs.Geometry.{words_of}
use Rattle.heap_model.specs.State.{Setting, IsValidSetting, hands}
use Rattle.heap_model.specs.CallState.{Configuration}
use Rattle.heap_model.specs.Legal.{may_follow, after}
use Rattle.heap_model.specs.Alone.{by_zero, configuration_by}
use Rattle.heap_model.specs.Moments.{moments_by}
use Rattle.heap_model.specs.Shape.{shape_of, shown, is_take, is_sized, is_of_front, begins_move, moving, TakesAndPlaces, IsMoved, HasNoRange, HasShape, Replied}
use Rattle.heap_soundness.specs.Invariant.{Keeps}
use Rattle.one_caller_laws.specs.OneCall.{IsBetween, AreAlike, Answers, IsDetermined, IsSameReply}
use Rattle.one_caller_laws.specs.Moving.{MovesByOthers, ReallocationIsDetermined}
use Rattle.one_caller_laws.proofs.Core.{Core, core_of}
use Rattle.one_caller_laws.proofs.Reach.{Calm, Goes}
use Rattle.one_caller_laws.proofs.Pair.{begun_within, begun_whole, begun_same, goes_from, shown_is}
use Rattle.one_caller_laws.proofs.Duo.{Duo, duo_swap}
use Rattle.one_caller_laws.proofs.Asks.{none_is, duo_none, duo_sized, duo_sized_end, same_reply}
use Rattle.one_caller_laws.proofs.Sites.{WhyNot, site_or_none}
use Rattle.one_caller_laws.proofs.Allocs.{zeroed_words, zeros_are}
use Rattle.one_caller_laws.proofs.Blocks.{Block, block_same, block_moves, rests_front, wants, wants_none, none_by, moves_at, stays_none, others_none, keeps_none, mover_is}
use Rattle.one_caller_laws.proofs.Stays.{not_quiet, block_resized, block_taken, block_sized, missed, both_grow, both_give}
use Rattle.one_caller_laws.proofs.Carried.{AreWords, are_moved, are_words_split}
use Rattle.one_caller_laws.proofs.Firsts.{lives_before, lives_there, block_left, leaves_placed, leaves_refused, block_refused}
use Rattle.one_caller_laws.proofs.Moves.{append_three, base_core, IsOut, Held, held_front, held_behind, both_held, refused_plain, refused_front, both_refused, both_returned}

module _ (s : Setting) (a n : ℕ) (flags : Flags) where
  abbrev call : Call
  call = calls.Realloc a n flags

  ---- The answers

  abbrev pub words_gained : ℕ → List ℕ
  words_gained size = zeroed_words flags.zero (a / 8 + words_of size) (words_of n - words_of size)

  -- the block stays: one of the front end is taken and given, another resized
  abbrev Stays : ℕ → Bool → List Act → Type 0
  Stays size true rest = shape_of rest ≡ acts.Take a size ∷ (map (λ w. acts.Store w 0) (words_gained size) ++ acts.Give a n ∷ [])
  Stays size false rest = (granules : ℕ) × (shape_of rest ≡ map (λ w. acts.Store w 0) (words_gained size) ++ acts.Resize a granules n ∷ [])

  abbrev refusal : ℕ → Bool → List Act
  refusal size true = acts.Take a size ∷ acts.NoFit n ∷ acts.Give a size ∷ []
  refusal size false = acts.NoFit n ∷ []

  -- .. or it does not
  data Departs (m : Configuration) (reply : Reply) (rest : List Act) (size : ℕ) (front : Bool) : Type 0 where
    Stuck : flags.in_place ≡ true → reply ≡ replies.NoRoom → shape_of rest ≡ acts.Sized a size ∷ [] → Departs m reply rest size front
    Moves : (b : ℕ) → flags.in_place ≡ false → reply ≡ replies.Address b → Held s a n flags m rest front size b → Departs m reply rest size front
    Refused : flags.in_place ≡ false → reply ≡ replies.NoFit → shape_of rest ≡ refusal size front → WhyNot s (base_core front a (core_of m)) n → Departs m reply rest size front

  data Answered (m : Configuration) (reply : Reply) (rest : List Act) : Type 0 where
    Missed : reply ≡ replies.NotLive → shape_of rest ≡ acts.NotLive a ∷ [] → Answered m reply rest
    Stayed : (size : ℕ) (front : Bool) → reply ≡ replies.Address a → Block s a n flags (core_of m) size front true → Stays size front rest → Answered m reply rest
    Left : (size : ℕ) (front : Bool) → Block s a n flags (core_of m) size front false → Departs m reply rest size front → Answered m reply rest

  -- a block that does not stay has to move, so the new size is for others
  is_out : (m : Configuration) (size : ℕ) (front : Bool) → Calm s call m → (m.now.calls 0).placed ≡ false → flags.in_place ≡ false → Block s a n flags (core_of m) size front false → IsOut s a n flags (core_of m)
  is_out m size front c p b x = mover_is s a n flags (core_of m) (wants_none s a n flags m c) p b (block_moves s a n flags (core_of m) size front false x)

  module _ (m : Configuration) (rest : List Act) (c : Calm s call (after s m (by_zero (acts.Begin call)))) (g : Goes s (after s m (by_zero (acts.Begin call))) rest) (empty : hands m.state 0 ≡ []) where
    abbrev k : Configuration
    k = after s m (by_zero (acts.Begin call))

    moved_by : (b : ℕ) (x : IsMoved s 0 a n flags.zero b (moments_by s m (acts.Begin call ∷ rest))) → flags.in_place ≡ false → (f : Bool) → is_of_front x.old ≡ f →
        TakesAndPlaces f (acts.Take a x.size) (acts.Place x.made.start x.made.granules x.made.layer) (moving a x.size b n flags.zero x.values) x.moves → Answered k (replies.Address b) rest
    moved_by b x only true fr e =
        let t = acts.Give b n ∷ acts.Drop a ∷ [] in
        let shape : shape_of rest ≡ acts.Take a x.size ∷ acts.Place x.made.start x.made.granules x.made.layer ∷ (moving a x.size b n flags.zero x.values ++ t) = sym (shown_is s call m rest) ∙ x.acts_are ∙ ap (λ (l : List Act). l ++ t) e in
        let block = subst (λ (f : Bool). Block s a n flags (core_of k) x.size f false) fr (block_taken s a n flags begins_move false k rest x.size _ x.old (not_quiet begins_move refl refl (λ w. refl) (λ w. refl)) refl c g shape x.leaves) in
        let held = held_front s a n flags k rest x.size x.made b x.values c g block (is_out k x.size true c refl only block) x.address_is x.count shape in
        Left x.size true block (Moves b only refl held)
    moved_by b x only false fr (first, more, split, e) =
        let t = acts.Give b n ∷ acts.Drop a ∷ [] in
        let shape : shape_of rest ≡ acts.Place x.made.start x.made.granules x.made.layer ∷ ((first ++ acts.Take a x.size ∷ more) ++ t) = sym (shown_is s call m rest) ∙ x.acts_are ∙ ap (λ (l : List Act). l ++ t) e in
        let away = leaves_placed s a n flags k rest x.made.start x.made.granules x.made.layer _ x.old c g shape x.leaves in
        let are = are_words_split first more (subst AreWords split (are_moved a x.size b n flags.zero x.values)) in
        let lives = lives_before s call k rest x.made.start x.made.granules x.made.layer first a x.size (more ++ t) x.old c.within g are.0
        (shape ∙ ap (λ (l : List Act). acts.Place x.made.start x.made.granules x.made.layer ∷ l) (append_three first (acts.Take a x.size ∷ more) t)) away.found in
        let block = subst (λ (f : Bool). Block s a n flags (core_of k) x.size f false) fr (block_left s a n flags (core_of k) x.old x.size away lives) in
        let held = held_behind s a n flags k rest x.size x.made b x.values first more c g (is_out k x.size false c refl only block) x.address_is x.count split shape in
        Left x.size false block (Moves b only refl held)

    refused_by : (x : HasNoRange s 0 a n (moments_by s m (acts.Begin call ∷ rest))) → flags.in_place ≡ false → (f : Bool) → is_of_front x.old ≡ f →
        shown (moments_by s m (acts.Begin call ∷ rest)) ≡ cond f (acts.Take a x.size ∷ acts.NoFit n ∷ acts.Give a x.size ∷ []) (acts.NoFit n ∷ []) → Answered k replies.NoFit rest
    refused_by x only true fr e =
        let shape : shape_of rest ≡ refusal x.size true = sym (shown_is s call m rest) ∙ e in
        let block = block_refused s a n flags k rest x.size _ x.old c.within g shape fr x.leaves in
        Left x.size true block (Refused only refl shape (refused_front s a n flags k rest x.size _ c g block (is_out k x.size true c refl only block) shape))
    refused_by x only false fr e =
        let shape : shape_of rest ≡ acts.NoFit n ∷ [] = sym (shown_is s call m rest) ∙ e in
        let away = leaves_refused s a n flags k rest [] x.old c g shape x.leaves in
        let lives = lives_there k a x.old empty away.found x.there in
        let block = subst (λ (f : Bool). Block s a n flags (core_of k) lives.0 f false) fr (block_left s a n flags (core_of k) x.old lives.0 away lives.1) in
        Left lives.0 false block (Refused only refl shape (refused_plain s a n flags k rest [] c g shape))

    answered : (reply : Reply) → HasShape s 0 call (Replied reply) (moments_by s m (acts.Begin call ∷ rest)) → Answered k reply rest
    answered (replies.Address b) (inl (e, inl x)) =
        let shape = sym (shown_is s call m rest) ∙ x.acts_are ∙ ap (λ (l : List Act). l ++ acts.Resize a x.granules n ∷ []) (zeros_are flags.zero (a / 8 + words_of x.size) (words_of n - words_of x.size)) in
        Stayed x.size false (ap replies.Address e) (block_resized s a n flags (words_gained x.size) k rest x.granules x.size x.old c g shape x.live x.stays) (x.granules, shape)
    answered (replies.Address b) (inl (e, inr x)) =
        let shape = sym (shown_is s call m rest) ∙ x.acts_are ∙ ap (λ (l : List Act). acts.Take a x.size ∷ (l ++ acts.Give a n ∷ [])) (zeros_are flags.zero (a / 8 + words_of x.size) (words_of n - words_of x.size)) in
        Stayed x.size true (ap replies.Address e)
        (subst (λ (f : Bool). Block s a n flags (core_of k) x.size f true) x.front (block_taken s a n flags is_take true k rest x.size _ x.old (not_quiet is_take refl refl (λ w. refl) (λ w. refl)) refl c g shape x.stays)) shape
    answered (replies.Address b) (inr (only, x)) = moved_by b x only (is_of_front x.old) refl x.moves_are
    answered replies.NoFit (only, x) = refused_by x only (is_of_front x.old) refl x.acts_are
    answered replies.NoRoom (only, x) =
        let shape = sym (shown_is s call m rest) ∙ x.acts_are in
        Left x.size (is_of_front x.old) (block_sized s a n flags is_sized false k rest x.size [] x.old (not_quiet is_sized refl refl (λ w. refl) (λ w. refl)) refl c g shape x.leaves) (Stuck only refl shape)
    answered replies.NotLive x = Missed refl (sym (shown_is s call m rest) ∙ none_is a (shown (moments_by s m (acts.Begin call ∷ rest))) x)
    answered _ x = absurd x

  ---- Both

  module _ (m : Configuration) (reply : Reply) (rest : List Act) (k : Configuration) (other : Reply) (others : List Act) (d : Duo s call m rest k others) where
    abbrev Same : Type 0
    Same = IsSameReply reply other × AreAlike (configuration_by s m rest) (configuration_by s k others)

    both_stay : (size : ℕ) (front : Bool) → reply ≡ replies.Address a → other ≡ replies.Address a → Block s a n flags (core_of m) size front true → Stays size front rest → Stays size front others → Same
    both_stay size true e g x f h = (same_reply reply other (e ∙ sym g), both_give s a n flags (words_gained size) m rest k others size (rests_front s a n flags (core_of m) size x) d f h)
    both_stay size false e g x (v, f) (w, h) = (same_reply reply other (e ∙ sym g), both_grow s a n flags (words_gained size) m rest k others v w d f h)

    both_refuse : (size : ℕ) (front : Bool) → reply ≡ replies.NoFit → other ≡ replies.NoFit → flags.in_place ≡ false → (m.now.calls 0).placed ≡ false → Block s a n flags (core_of m) size front false → shape_of rest ≡ refusal size front → shape_of others ≡ refusal size front → Same
    both_refuse size true e g only p x f h = (same_reply reply other (e ∙ sym g), both_returned s a n flags m rest k others size d x (is_out m size true d.calm p only x) f h)
    both_refuse size false e g only p x f h = (same_reply reply other (e ∙ sym g), both_refused s a n flags m rest k others d f h)

    -- one does not find a place where the other is refused
    moved_refused : (front : Bool) (size b : ℕ) (i j : Configuration) (xs : List Act) → core_of i ≡ core_of j → Held s a n flags i xs front size b → WhyNot s (base_core front a (core_of j)) n → ⊥
    moved_refused front size b i j xs e x w = site_or_none s (base_core front a (core_of i)) n x.site x.why (subst (λ (c : Core). WhyNot s (base_core front a c) n) (sym e) w)

    both_go : (size : ℕ) (front : Bool) → (m.now.calls 0).placed ≡ false → Block s a n flags (core_of m) size front false → Departs m reply rest size front → Departs k other others size front → Same
    both_go size front p x (Stuck o e f) (Stuck q g h) = (same_reply reply other (e ∙ sym g), duo_sized_end s call m rest k others a size size (duo_sized s call m rest k others a size size [] [] d f h))
    both_go size front p x (Stuck o e f) (Moves c q g h) = absurd (true≢false (sym o ∙ q))
    both_go size front p x (Stuck o e f) (Refused q g h w) = absurd (true≢false (sym o ∙ q))
    both_go size front p x (Moves b o e f) (Stuck q g h) = absurd (true≢false (sym q ∙ o))
    both_go size front p x (Moves b o e f) (Moves c q g h) =
        let z = both_held s a n flags m rest k others front size b c d.core d.hints f h in
        (same_reply reply other (e ∙ ap replies.Address z.0 ∙ sym g), z.1)
    both_go size front p x (Moves b o e f) (Refused q g h w) = absurd (moved_refused front size b m k rest d.core f w)
    both_go size front p x (Refused o e f w) (Stuck q g h) = absurd (true≢false (sym q ∙ o))
    both_go size front p x (Refused o e f w) (Moves c q g h) = absurd (moved_refused front size c k m others (sym d.core) h w)
    both_go size front p x (Refused o e f w) (Refused q g h v) = both_refuse size front e g o p x f h

    both : (m.now.calls 0).placed ≡ false → Answered m reply rest → Answered k other others → Same
    both p (Missed e f) (Missed g h) = (same_reply reply other (e ∙ sym g), duo_none s call m rest k others a d f h)
    both p (Missed e f) (Stayed size front g y h) = absurd (missed s a n flags m rest k others size front true d f y)
    both p (Missed e f) (Left size front y h) = absurd (missed s a n flags m rest k others size front false d f y)
    both p (Stayed size front e x f) (Missed g h) = absurd (missed s a n flags k others m rest size front true (duo_swap s call m rest k others d) h x)
    both p (Left size front x f) (Missed g h) = absurd (missed s a n flags k others m rest size front false (duo_swap s call m rest k others d) h x)
    both p (Stayed size front e x f) (Left q fr y h) = absurd (true≢false (block_same s a n flags (core_of m) size q front fr true false x (subst (λ (c : Core). Block s a n flags c q fr false) (sym d.core) y)).2)
    both p (Left size front x f) (Stayed q fr g y h) = absurd (false≢true (block_same s a n flags (core_of m) size q front fr false true x (subst (λ (c : Core). Block s a n flags c q fr true) (sym d.core) y)).2)
    both p (Stayed size front e x f) (Stayed q fr g y h) =
        let z = block_same s a n flags (core_of m) size q front fr true true x (subst (λ (c : Core). Block s a n flags c q fr true) (sym d.core) y) in
        both_stay size front e g x f (subst (λ (v : ℕ). Stays v front others) (sym z.0) (subst (λ (b : Bool). Stays q b others) (sym z.1) h))
    both p (Left size front x f) (Left q fr y h) =
        let z = block_same s a n flags (core_of m) size q front fr false false x (subst (λ (c : Core). Block s a n flags c q fr false) (sym d.core) y) in
        both_go size front p x f (subst (λ (v : ℕ). Departs k other others v front) (sym z.0) (subst (λ (b : Bool). Departs k other others q b) (sym z.1) h))

  ---- The law

  -- nothing is searched from the start on
  wants_first : (m : Configuration) → Keeps s (after s m (by_zero (acts.Begin call))) → MovesByOthers s m a n flags → wants s a n flags (core_of (after s m (by_zero (acts.Begin call)))) ≡ false
  wants_first m w (inl e) = keeps_none s a n flags (core_of (after s m (by_zero (acts.Begin call)))) e
  wants_first m w (inr (inl e)) = stays_none s a n flags (core_of (after s m (by_zero (acts.Begin call)))) (sym (moves_at s a n flags (after s m (by_zero (acts.Begin call))) w) ∙ e)
  wants_first m w (inr (inr e)) = others_none s a n flags (core_of (after s m (by_zero (acts.Begin call)))) e

  calm_first : (m : Configuration) (reply : Reply) (rest : List Act) → IsValidSetting s → IsBetween s m → Answers s m call reply rest → wants s a n flags (core_of (after s m (by_zero (acts.Begin call)))) ≡ false → Calm s call (after s m (by_zero (acts.Begin call)))
  calm_first m reply rest valid b x out =
      let h = (and_parts (may_follow s m (by_zero (acts.Begin call))) _ x.legal).0 in
      let w = begun_within s call m valid b h in
      record { within = w; whole = begun_whole s call m valid b h; none = none_by s a n flags (after s m (by_zero (acts.Begin call))) w out; plain = refl; demand = refl }

pub reallocation_determined : ReallocationIsDetermined
reallocation_determined s m k reply other rest others a n flags valid b c alike out x y =
    let call = calls.Realloc a n flags in
    let i = after s m (by_zero (acts.Begin call)) in
    let j = after s k (by_zero (acts.Begin call)) in
    let same = begun_same s call m k alike in
    let h = (and_parts (may_follow s m (by_zero (acts.Begin call))) _ x.legal).0 in
    let wants_none = wants_first s a n flags m (begun_within s call m valid b h).keeps out in
    let d : Duo s call i rest j others = record {
      calm = calm_first s a n flags m reply rest valid b x wants_none;
      calm_too = calm_first s a n flags k other others valid c y (subst (λ (z : Core). wants s a n flags z ≡ false) same wants_none);
      goes = goes_from s call m reply rest x;
      goes_too = goes_from s call k other others y;
      core = same;
      hints = alike.hints;
    } in
    both s a n flags i reply rest j other others d refl
    (answered s a n flags m rest d.calm d.goes b.idle.hands reply x.gets.shape)
    (answered s a n flags k others d.calm_too d.goes_too c.idle.hands other y.gets.shape)

-- one that may not move its block, of whatever size
pub in_place_determined : (a n : ℕ) (flags : Flags) → flags.in_place ≡ true → IsDetermined (calls.Realloc a n flags)
in_place_determined a n flags only s m k reply other rest others valid b c alike x y = reallocation_determined s m k reply other rest others a n flags valid b c alike (inl only) x y
