-- What a caller may do by what earlier calls told it.
use Rattle.std.proofs.Common.{◌≡◌, ℕ, ◌*◌, ◌==◌, ◌≤◌, Bool, true, false, not, ◌&&◌, ◌||◌, Option, Some, None, refl, sym, ap, ◌∙◌, subst, inl, inr}
use Rattle.std.specs.Prelude.{is_some, unwrap_or, nat_le}
use Rattle.std.proofs.lemmas.Bool.{cases_Bool, and_from, le-leb, eqb-true, false≢true}
use Rattle.heap_model.specs.declared.Layer.{Layer}
use Rattle.heap_model.specs.declared.Layer.TheVariants as layers
use Rattle.heap_model.specs.Buckets.{block_address}
use Rattle.heap_model.specs.declared.What.TheVariants as whats
use Rattle.heap_model.specs.State.{Place, is_entered, holds, room}
use Rattle.heap_model.specs.Stay.{for_some}
use Rattle.heap_model.specs.CallState.{Configuration, caller_view}
use Rattle.heap_model.specs.Legal.{may_touch, suits, suits_in}
use Rattle.claim_rule.specs.Entries.{setting_of}
use Rattle.claim_rule.proofs.Advance.{some_setting}
use Rattle.step_parts.specs.Seen.{bucket_of_tag, slot_of_tag, first_of_tag}
use Rattle.step_parts.specs.InHand.{IsInHand}
use Rattle.step_parts.proofs.Tags.{seen_by_tag}
use Rattle.block_steps.proofs.BlockLaws.{ask_by_tag}
use Rattle.heap_gate.specs.Token.{now}
use Rattle.lfh_claims.specs.declared.tag.Tag.{Tag}
use Rattle.lfh_claims.specs.Blocks.{tag_told}
use Rattle.lfh_claims.specs.Laws.{ReadByTag, AsksByTag, ReadsGivenTag, PublishesInHand, ClearsInHand, SoughtIs}

-- a tag that was told is that of a word that is not 0
told_parts : (tag : Tag) (word : ℕ) → Some tag ≡ tag_told word → (word ≡ 0 → ⊥) × (first_of_tag word ≡ tag.head) × (bucket_of_tag word ≡ tag.bucket) × (slot_of_tag word ≡ tag.slot)
told_parts tag word e = elim (cases_Bool (word == 0)) [
  | inl z ↦ let k : Some tag ≡ None = (rw z at e) in absurd (let no : ⊥ = cc (k) in no)
  | inr z ↦
      let k : Some tag ≡ Some (record { bucket = bucket_of_tag word; slot = slot_of_tag word; head = first_of_tag word }) = (rw z at e) in
      let is : record { bucket = bucket_of_tag word; slot = slot_of_tag word; head = first_of_tag word } ≡ tag = sym (cc (k)) in
      (λ y. Rattle.std.proofs.lemmas.Bool.eqb-false word 0 z y, ap (λ (x : Tag). x.head) is, ap (λ (x : Tag). x.bucket) is, ap (λ (x : Tag). x.slot) is)
]

pub read_by_tag : ReadByTag
read_by_tag old new page tag h s q =
    let p = told_parts tag h.word h.told_is in
    let seen = seen_by_tag (now s new) page h.word ((h.tells s q).tagged p.0) in
    record { span = seen.span; there = seen.there; begins = seen.begins ∙ p.1; bucket = seen.bucket ∙ p.2; slot = seen.slot ∙ p.3 }

pub asks_by_tag : AsksByTag
asks_by_tag old new addr tag h stands inside aligned s q =
    let p = told_parts tag h.word h.told_is in
    let a = stands s q in
    let begun : is_some ((now s new).now.calls new.number).call ≡ true = ap is_some a.call ∙ a.begun (ap (λ (b : Bool). b || not (new.depth == 0)) inside) in
    let k = ask_by_tag (now s new) new.number addr h.word begun (a.entered ∙ inside) ((h.tells s q).tagged p.0) aligned in
    record { begun = k.begun; inside = k.inside; seen = record { span = k.seen.span; there = k.seen.there; begins = k.seen.begins ∙ p.1; bucket = k.seen.bucket ∙ p.2; slot = k.seen.slot ∙ p.3 }; has_page = k.has_page; aligned = k.aligned }

-- the tag of a subsegment whose maker has given Back
pub reads_given_tag : ReadsGivenTag
reads_given_tag old new page told x s h stands inside free q f none = elim (cases_Bool (h.word == 0)) [
  | inl e ↦
      let a = stands s q in
      let n : new.number ≡ old.number = h.runs.does.number in
      let entered : is_entered (now s new).state.gate old.number ≡ true = ap (is_entered (now s new).state.gate) (sym n) ∙ (a.entered ∙ inside) in
      let held : holds (now s new).state.gate old.number whats.Back ≡ false = ap (λ (k : ℕ). holds (now s new).state.gate k whats.Back) (sym n) ∙ (a.locks whats.Back ∙ free) in
      let w = (h.tells s q).wanting (eqb-true h.word 0 e) entered held x f in
      absurd (false≢true (sym (ap is_some none) ∙ w))
  | inr e ↦ ap is_some h.told_is ∙ rw e refl
]

-- the room of a place of the front end
room_of : (p : Place) → p.layer ≡ layers.Lfh → room p ≡ 16 * p.granules
room_of p e = by p.layer e
  where
    by : (k : Layer) → k ≡ layers.Lfh → room (record p { layer = k }) ≡ 16 * p.granules
    by k e = rw e refl

fits : (p : Place) (size : ℕ) → p.layer ≡ layers.Lfh → size ≤ 16 * p.granules → size ≤ 16368 → suits size p ≡ true
fits p size l long few =
    and_from (nat_le size (room p)) (suits_in size p.granules p.layer) (ap (nat_le size) (room_of p l) ∙ le-leb size (16 * p.granules) long) (ap (suits_in size p.granules) l ∙ le-leb size 16368 few)

pub publishes_in_hand : PublishesInHand
publishes_in_hand c b addr size inside has long few s q =
    let k = has s q in
    let p = k.hand.place in
    let m : Configuration = now s c in
    let l : size ≤ 16 * p.granules = subst (λ (x : ℕ). size ≤ x) (sym k.long) long in
    record {
      hand = k.hand;
      ok = and_from (is_entered m.state.gate c.number) _ (inside s q) (ap (λ (o : Option Place). for_some o (λ y. may_touch (caller_view m c.number) y.layer && suits size y)) k.hand.hand
          ∙ and_from (may_touch (caller_view m c.number) p.layer) (suits size p) (ap (may_touch (caller_view m c.number)) k.hand.layer) (fits p size k.hand.layer l few));
    }

pub clears_in_hand : ClearsInHand
clears_in_hand c tag addr inside read number has = (
  number.number,
  number.start,
  λ s q.
      let k = has s q in
      let m : Configuration = now s c in
      let h : IsInHand m c.number (block_address tag.bucket tag.head number.number) = subst (IsInHand m c.number) number.start k.hand in
      record {
        inside = inside s q;
        hand = h;
        seen = read s q;
        below = number.below;
        ok = and_from (is_entered m.state.gate c.number) _ (inside s q) (ap (λ (o : Option Place). for_some o (λ y. may_touch (caller_view m c.number) y.layer)) h.hand ∙ ap (may_touch (caller_view m c.number)) h.layer);
      },
)

pub sought_is : SoughtIs
sought_is c b h = ap (λ (o : Option ℕ). unwrap_or o 0) (h (setting_of c.opening c.roll) (some_setting c.opening c.roll))
