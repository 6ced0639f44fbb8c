-- A block that was taken, its new place and its words: from the call that has the locks to the block that has moved.
use Rattle.std.proofs.Common.{◌≡◌, ℕ, ◌+◌, ◌*◌, ◌<◌, ◌≤◌, ◌&&◌, Bool, true, List, [], ◌∷◌, ◌++◌, length, refl, sym, ap, ◌∙◌, subst, arith}
use Rattle.std.specs.Prelude.{min, nat_le}
use Rattle.heap_model.specs.declared.Act.{Act}
use Rattle.heap_model.specs.declared.Act.TheVariants as acts
use Rattle.heap_model.specs.declared.Call.TheVariants as calls
use Rattle.heap_model.specs.declared.Flags.{Flags}
use Rattle.heap_model.specs.declared.Opening.{Opening}
use Rattle.heap_model.specs.Buckets.{block_size}
use Rattle.heap_model.specs.Geometry.{words_of}
use Rattle.heap_model.specs.Limits.{AreValid}
use Rattle.heap_model.specs.Shape.{moving}
use Rattle.heap_model.specs.State.{Setting, Place}
use Rattle.heap_soundness.specs.Invariant.{Keeps}
use Rattle.heap_soundness.proofs.Lists.{all_at}
use Rattle.heap_soundness.specs.Sound.{IsSoundSpan, IsSoundLfh}
use Rattle.search_laws.proofs.Blocks.{whole_granules}
use Rattle.claim_rule.specs.Entries.{IsLegalWith, have_slots}
use Rattle.lfh_buckets.specs.Blocks.{IsBucket}
use Rattle.step_parts.proofs.BlockWords.{in_lfh}
use Rattle.heap_gate.specs.Token.{Token, now, IsStanding}
use Rattle.lfh_claims.specs.declared.tag.Tag.{Tag}
use Rattle.lfh_claims.specs.Stays.{HasRead}
use Rattle.call_parts.specs.Entries.{HasAdded}
use Rattle.call_parts.proofs.Tokens.{added_then}
use Rattle.move_parts.specs.Moves.{IsMovingTaken, IsHalfwayTaken, HasFilled}
use Rattle.move_parts.specs.Places.{HasHeld}
use Rattle.move_parts.proofs.Known.{home, home_is, keeps_behind}
use Rattle.move_parts.proofs.Stays.{taken_filled}
use Rattle.move_taken.specs.Holds.{taken_place, HoldsTaken}
use Rattle.move_taken.specs.Moved.{HasMovedTaken, MayEndTaken, EndsTaken}
use Rattle.move_taken.proofs.Blocks.{positive, inside_now}
use Rattle.move_taken.proofs.ReadOn.{fill-append, making_fill, moving_fill, read_on}

---- The tag

-- the tag that a caller has read names a bucket
pub bucket_read : (c : Token) → c.prepared ≡ [] → AreValid c.opening.limits → have_slots c.opening.limits.slots c.roll ≡ true → IsLegalWith c.opening c.roll c.seen → (head b t : ℕ) → HasRead c head b t → IsBucket b
bucket_read c none valid slots legal head b t read =
    let here : Setting = home c none valid slots legal in
    let z = read here (home_is c none valid slots legal) in
    let m = (now here c).state in
    let kept : Keeps here (now here c) = keeps_behind c none valid slots legal [] refl in
    let i = in_lfh m.back.area.spans z.span z.there in
    let sound = all_at (λ x. IsSoundSpan here m.vs.active x x.kind) z.span m.back.area.spans kept.of_kinds i.0 in
    let lfh : IsSoundLfh here m.vs.active z.span = subst (λ k. IsSoundSpan here m.vs.active z.span k) i.1 sound in
    subst IsBucket z.bucket (record { first = lfh.bucket.0; last = lfh.bucket.1 })

---- Before

module _ (c : Token) (tag : Tag) (addr size n : ℕ) (flags : Flags) (out : List ℕ) (h : HoldsTaken c tag addr size n flags out) (slots : have_slots c.opening.limits.slots c.roll ≡ true) where
  abbrev pub p : Place
  p = taken_place tag.bucket addr c.number

  pub taken_moving : IsMovingTaken c addr size n flags p out
  taken_moving = record {
    call_is = h.call_is;
    fresh = h.fresh;
    inside = h.block.inside;
    out_is = h.out_is;
    whole = h.block.whole;
    pending = h.pending;
    prepared = h.prepared;
    drawn = h.drawn;
    owes = h.owes;
    placed = h.placed;
    may_move = h.may_move;
    old = h.block.hand;
    leaves = λ s x. ap (λ (k : ℕ). nat_le n 16368 && nat_le n k) (whole_granules tag.bucket) ∙ h.leaves;
    from = let e = h.block.ends in let f = h.block.fits in omega (arith, e, f);
    slots = slots;
  }

  module _ (valid : AreValid c.opening.limits) (legal : IsLegalWith c.opening c.roll c.seen) where
    pub bucket_is : IsBucket tag.bucket
    bucket_is = bucket_read c h.prepared valid slots legal tag.head tag.bucket tag.slot h.block.read

    pub head_there : tag.head < 256 * c.opening.limits.segments
    head_there =
        let e = h.block.ends in let s = h.block.number.start in let k = positive tag.bucket h.block.number.number h.block.number.below in
        before tag.head (block_size tag.bucket) (h.block.number.number * block_size tag.bucket) addr c.opening.limits.segments s e k
      where
        before : (head size off addr segments : ℕ) → addr ≡ 4096 * head + 64 + off → addr + size ≤ 1048576 * segments → 1 ≤ size → head < 256 * segments
        before head size off addr segments s e k = omega (arith, s, e, k)

    ---- Behind the words

    module _ (sc : IsStanding c) (t u : Token) (b : ℕ) (q : Place) (x : HasHeld true c t addr size n flags p out b q) (zero_it : Bool) (values : List ℕ) (f : HasFilled t u (moving addr size b n zero_it values)) (later : IsLegalWith u.opening u.roll u.seen) where
      abbrev first : List Act
      first = x.made.reserves ++ x.made.begins ∷ x.made.more

      abbrev words : List Act
      words = moving addr size b n zero_it values

      all_added : HasAdded c u (first ++ words)
      all_added = added_then c t u first words x.made.added f.added

      number : u.number ≡ c.number
      number = all_added.goes.number

      half : IsHalfwayTaken u (calls.Realloc addr n flags) addr size p b n q out
      half = taken_filled t u words f (calls.Realloc addr n flags) addr size b n p q out x.half

      pub may_end : MayEndTaken u tag addr b n q
      may_end = record {
        call = calls.Realloc addr n flags;
        size = size;
        out = out;
        half = subst (λ (k : ℕ). IsHalfwayTaken u (calls.Realloc addr n flags) addr size (taken_place tag.bucket addr k) b n q out) (sym number) half;
        read = read_on c u (first ++ words) all_added.goes h.prepared later (fill-append first words (making_fill first x.plain) (moving_fill addr size b n zero_it values)) (inside_now c tag addr size h.block sc) tag.head tag.bucket tag.slot h.block.read;
        number = h.block.number;
        bucket = bucket_is;
        there = subst (λ (o : Opening). tag.head < 256 * o.limits.segments) (sym all_added.goes.opening) head_there;
      }

      pub has_moved : zero_it ≡ flags.zero → length values ≡ words_of (min size n) → (w : Token) → EndsTaken u w addr b n q → HasMovedTaken c w tag addr size n flags b
      has_moved zero_is count w e = record {
        place = q;
        at = x.half.new.at;
        between = t;
        made = x.made;
        values = values;
        count = count;
        rest = subst (λ (z : Bool). HasAdded t w (moving addr size b n z values ++ acts.Give b n ∷ acts.Drop addr ∷ [])) zero_is
            (added_then t u w words (acts.Give b n ∷ acts.Drop addr ∷ []) f.added e.ended.added);
        out_is = e.ended.out_is ∙ (f.out_is ∙ (x.half.out_is ∙ sym h.out_is));
        whole = e.ended.whole;
        free = e.ended.free;
        pending = e.ended.pending;
        prepared = e.ended.prepared;
      }

      -- the locks are those that it had
      pub out_then : u.out ≡ c.out
      out_then = f.out_is ∙ (x.half.out_is ∙ sym h.out_is)
