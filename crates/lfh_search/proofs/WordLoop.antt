-- A word that is read until it is dry, a block is claimed, or the eighth claim is lost.
use Rattle.std.proofs.Common.{◌≡◌, inl, inr, ℕ, ◌+◌, ◌*◌, ◌%◌, ◌<◌, ◌≤◌, true, List, [], ◌∷◌, ◌++◌, Option, Some, None, refl, sym, ap, ◌∙◌, subst, arith}
use Rattle.heap_model.specs.declared.Act.{Act}
use Rattle.heap_model.specs.declared.Act.TheVariants as acts
use Rattle.heap_model.specs.Buckets.{words_in_use, valid_bits}
use Rattle.heap_model.specs.Bits.{pick}
use Rattle.heap_model.specs.CallState.{Search}
use Rattle.heap_soundness.specs.Sound.{IsOneOf}
use Rattle.search_laws.specs.Reading.{word_behind}
use Rattle.lfh_buckets.specs.Blocks.{IsBucket}
use Rattle.lfh_buckets.proofs.BlockLemmas.{few_blocks}
use Rattle.block_steps.specs.Searches.{MaySee}
use Rattle.step_parts.specs.Claims.{MayClaim}
use Rattle.heap_gate.specs.Token.{Token, now, Always}
use Rattle.lfh_search.specs.Courses.{IsCourse}
use Rattle.lfh_claims.specs.Search.{own_slot, sought, HasSeen, HasClaimed, HasLost}
use Rattle.lfh_search.specs.declared.course.Course.{Course}
use Rattle.lfh_search.specs.Acts.{AreReadings, losses}
use Rattle.lfh_search.specs.Standing.{key, reading}
use Rattle.lfh_search.specs.Results.{Searches, Went, HasPlaced, IsBeaten}
use Rattle.lfh_search.specs.Readings.{AtWord, HasHint, IsDryWord}
use Rattle.lfh_search.proofs.Steps.{readings-append}
use Rattle.lfh_search.proofs.Words.{went_then}
use Rattle.lfh_search.proofs.Placing.{placed_then}
use Rattle.lfh_search.proofs.WordRead.{may_see_word, is_below, saw_went, hint_seen, past_word, may_claim_it, slot_same, has_placed, lost_went, searching_lost, slot_lost, hint_lost, still_in}

-- so many claims were lost so far
pub record Goes (old c : Token) (course : Course) (f : Search) (head word k lost so_far : ℕ) : Type 0 where
  pub its : List Act
  pub are : AreReadings its
  pub went : Went old c its
  pub count : lost + losses its ≡ so_far
  pub more : so_far < 8 → AtWord c course f head word k so_far
  pub all : so_far ≡ 8 → Searches c course.bucket course.draw.value (reading f head k 8)

pub record IsSoFar (old c : Token) (course : Course) (head word lost so_far : ℕ) : Type 0 where
  pub few : so_far ≤ 8
  pub table : c.table ≡ old.table
  pub opening : c.opening ≡ old.opening
  pub whole : c.whole ≡ true
  pub inside : c.inside ≡ true
  pub slot : own_slot c ≡ own_slot old
  pub goes : (f : Search) (k : ℕ) → AtWord old course f head word k lost → Goes old c course f head word k lost so_far

pub losses-append : (xs ys : List Act) → losses (xs ++ ys) ≡ losses xs + losses ys
losses-append [] ys = omega arith
losses-append (acts.Lost head index ∷ xs) ys = let h = losses-append xs ys in omega (arith, h)
losses-append (_ ∷ xs) ys = losses-append xs ys

pub in_back : {A : Type 0} (x : A) (xs ys : List A) → IsOneOf x ys → IsOneOf x (xs ++ ys)
in_back x [] ys i = i
in_back x (y ∷ xs) ys i = inr (in_back x xs ys i)

-- before the first reading
pub begins : (c : Token) (course : Course) (head word lost : ℕ) → c.whole ≡ true → c.inside ≡ true → lost < 8 → IsSoFar c c course head word lost lost
begins c course head word lost w i l = record {
  few = omega (arith, l);
  table = refl;
  opening = refl;
  whole = w;
  inside = i;
  slot = refl;
  goes = λ f k at. record { its = []; are = tt; went = refl; count = omega arith; more = λ _. at; all = λ e. absurd (omega (arith, l, e)) };
}

module _ (old c : Token) (course : Course) (f : Search) (head word k lost so_far : ℕ) (z : Goes old c course f head word k lost so_far) (l : so_far < 8) (some : 0 < words_in_use course.bucket) (slot : own_slot c ≡ own_slot old)
    (e : Token) (bits : ℕ) (h : HasSeen c e head word bits) where
  abbrev b : ℕ
  b = course.bucket

  abbrev d : ℕ
  d = course.draw.value

  at : AtWord c course f head word k so_far
  at = z.more l

  seen : HasSeen c e head (word_behind (key b (own_slot c) d) k) bits
  seen = subst (λ (w : ℕ). HasSeen c e head w bits) at.word_is h

  -- no block is free
  pub dry : pick bits (valid_bits b word) (d % 64) ≡ None → IsDryWord old e b d f head k lost so_far
  dry p =
      let p' : pick bits (valid_bits b (word_behind (key b (own_slot c) d) k)) (d % 64) ≡ None = subst (λ (w : ℕ). pick bits (valid_bits b w) (d % 64) ≡ None) at.word_is p in
      record {
        its = z.its ++ acts.Saw head (word_behind (key b (own_slot c) d) k) bits ∷ [];
        are = readings-append z.its _ z.are (refl, tt);
        went = went_then old c e z.its _ (refl, tt) z.went (saw_went c b d f head k so_far at.at some e bits seen);
        past = past_word c b d f head k so_far at.at some e bits seen p';
        few = l;
        count = let y = losses-append z.its (acts.Saw head (word_behind (key b (own_slot c) d) k) bits ∷ []) in let x = z.count in omega (arith, x, y);
        dry = record { bits = bits; read = in_back (acts.Saw head (word_behind (key b (own_slot c) d) k) bits) z.its _ (inl refl); none = p' };
        hint = hint_seen c b d f head k so_far at.at some e bits seen at.hint;
      }

  module _ (bucket : IsBucket course.bucket) (i index : ℕ) (p : pick bits (valid_bits b word) (d % 64) ≡ Some i) (ie : index ≡ 64 * word + i) where
    p' : pick bits (valid_bits b (word_behind (key b (own_slot c) d) k)) (d % 64) ≡ Some i
    p' = subst (λ (w : ℕ). pick bits (valid_bits b w) (d % 64) ≡ Some i) at.word_is p

    index_is : index ≡ 64 * word_behind (key b (own_slot c) d) k + i
    index_is = ie ∙ ap (λ (w : ℕ). 64 * w + i) at.word_is

    pub small : 64 * word + i < 256
    small = let l = is_below c b d f head k so_far at.at some e bits seen i p' in let m = (few_blocks b bucket).1 in let w = at.word_is in omega (arith, l, m, w)

    -- the claim may be made
    pub may_claim : Always e (λ s. MayClaim s (now s e) e.number head (sought e) (own_slot e) index)
    may_claim s q = subst (λ (x : ℕ). MayClaim s (now s e) e.number head (sought e) (own_slot e) x) (sym index_is) (may_claim_it c b d f head k so_far at.at some e bits seen i p' s q)

    pub here : own_slot e ≡ own_slot c
    here = slot_same c b d f head k so_far at.at some e bits seen i p'

    pub hinted : HasHint e
    hinted = hint_seen c b d f head k so_far at.at some e bits seen at.hint

    -- a block is claimed
    pub claimed : (a : Token) → HasClaimed e a head index → HasPlaced old a b head index
    claimed a h' = subst (λ (x : ℕ). HasPlaced old a b head x) (sym index_is)
        (placed_then old c a b head (64 * word_behind (key b (own_slot c) d) k + i) z.its z.are z.went slot
        (has_placed c b d f head k so_far at.at some e bits seen i p' a (subst (λ (x : ℕ). HasClaimed e a head x) index_is h')))

    -- .. or lost
    pub goes_on : (a : Token) → HasLost e a head index → Goes old a course f head word k lost (so_far + 1)
    goes_on a h' =
        let h1 = subst (λ (x : ℕ). HasLost e a head x) index_is h' in
        record {
          its = z.its ++ acts.Saw head (word_behind (key b (own_slot c) d) k) bits ∷ acts.Lost head (64 * word_behind (key b (own_slot c) d) k + i) ∷ [];
          are = readings-append z.its _ z.are (refl, (refl, tt));
          went = went_then old c a z.its _ (refl, (refl, tt)) z.went (lost_went c b d f head k so_far at.at some e bits seen i p' a h1);
          count = let y = losses-append z.its (acts.Saw head (word_behind (key b (own_slot c) d) k) bits ∷ acts.Lost head (64 * word_behind (key b (own_slot c) d) k + i) ∷ []) in let x = z.count in omega (arith, x, y);
          more = λ m. record {
            at = still_in c b d f head k so_far at.at some e bits seen i p' a h1 m;
            word_is = at.word_is;
            few = at.few;
            hint = hint_lost c b d f head k so_far at.at some e bits seen i p' a h1 at.hint;
          };
          all = λ q. subst (λ (x : ℕ). Searches a b d (reading f head k x)) q (searching_lost c b d f head k so_far at.at some e bits seen i p' a h1);
        }

    pub there : (a : Token) → HasLost e a head index → own_slot a ≡ own_slot old
    there a h' = slot_lost c b d f head k so_far at.at some e bits seen i p' a (subst (λ (x : ℕ). HasLost e a head x) index_is h') ∙ slot

    pub next : (a : Token) → HasLost e a head index → IsSoFar old c course head word lost so_far → ((f' : Search) (k' : ℕ) → AtWord old course f' head word k' lost → Goes old a course f' head word k' lost (so_far + 1))
        → IsSoFar old a course head word lost (so_far + 1)
    next a h' y all = record {
      few = omega (arith, l);
      table = h'.runs.does.table ∙ (h.runs.does.table ∙ y.table);
      opening = h'.runs.does.opening ∙ (h.runs.does.opening ∙ y.opening);
      whole = h'.stands.whole;
      inside = h'.stands.inside ∙ (h.stands.inside ∙ y.inside);
      slot = there a h';
      goes = all;
    }

-- the reading of the word may come
pub seeing : (c : Token) (course : Course) (f : Search) (head word k lost : ℕ) → AtWord c course f head word k lost → Always c (λ s. MaySee s (now s c) c.number head (sought c) (own_slot c) word)
seeing c course f head word k lost at = let few = at.few in
    subst (λ (w : ℕ). Always c (λ s. MaySee s (now s c) c.number head (sought c) (own_slot c) w)) (sym at.word_is) (may_see_word c course.bucket course.draw.value f head k lost at.at (omega (arith, few)))

-- the eighth claim was lost
pub beaten : (old c : Token) (course : Course) (f : Search) (head word k lost so_far : ℕ) → so_far ≤ 8 → 8 ≤ so_far → Goes old c course f head word k lost so_far → IsBeaten old c course.bucket course.draw.value lost
beaten old c course f head word k lost so_far l m z =
    let e : so_far ≡ 8 = omega (arith, l, m) in
    record { its = z.its; are = z.are; went = z.went; search = reading f head k 8; searching = z.all e; eight = refl; picked = refl; count = z.count ∙ e }

-- the block that the draw picks, by the course
pub pick_is : (course : Course) (word bits valid : ℕ) (o x : Option ℕ) → IsCourse course → valid ≡ valid_bits course.bucket word → o ≡ pick bits valid course.bit → o ≡ x → pick bits (valid_bits course.bucket word) (course.draw.value % 64) ≡ x
pick_is course word bits valid o x h v e q = sym (e ∙ (λ j. pick bits (v j) (h.bit j))) ∙ q
