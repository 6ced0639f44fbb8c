-- A block of the front end is in hand, for one that moves.
use Rattle.std.proofs.Common.{◌≡◌, ℕ, ◌+◌, ◌*◌, ◌/◌, ◌%◌, ◌≤◌, true, false, not, ◌||◌, List, [], ◌∷◌, ◌++◌, Some, refl, sym, ap, ◌∙◌, subst, arith, append_assoc, eq-eqb, inl, inr}
use Rattle.std.specs.Prelude.{is_some, nat_lt}
use Rattle.std.specs.List.{find, list_all}
use Rattle.std.proofs.lemmas.Bool.{cases_Bool, ne_eqb, and_from}
use Rattle.std.proofs.lemmas.List.{append-nil}
use Rattle.heap_model.specs.declared.Act.{Act}
use Rattle.heap_model.specs.declared.Act.TheVariants as acts
use Rattle.heap_model.specs.declared.Call.TheVariants as calls
use Rattle.heap_model.specs.declared.Flags.{Flags}
use Rattle.heap_model.specs.declared.Kind.TheVariants as kinds
use Rattle.heap_model.specs.declared.Opening.{Opening}
use Rattle.heap_model.specs.declared.What.TheVariants as whats
use Rattle.heap_model.specs.Buckets.{bucket_of, block_size, bucket_pages}
use Rattle.heap_model.specs.CallState.{Configuration}
use Rattle.heap_model.specs.History.{configuration_of, configuration_after}
use Rattle.heap_model.specs.Geometry.{words_of}
use Rattle.heap_model.specs.Limits.{AreValid}
use Rattle.heap_model.specs.Shape.{Finds, shape_of, begins_move}
use Rattle.heap_model.specs.State.{Setting, State, Place, address, has_address, hands}
use Rattle.heap_model.specs.Stay.{lets_stay}
use Rattle.heap_model.specs.Agreement.{AgreesFor}
use Rattle.heap_model.specs.declared.Entry.{Entry}
use Rattle.claim_rule.specs.Entries.{IsSettingOf, IsLegalWith, have_slots}
use Rattle.claim_rule.specs.Places.{data_count}
use Rattle.search_laws.proofs.Blocks.{bucket_fits}
use Rattle.lfh_buckets.proofs.BlockLemmas.{size_in_granules}
use Rattle.step_parts.specs.InHand.{HasBlock}
use Rattle.backend_fit.specs.Kept.{Kept, area_of}
use Rattle.vs_layer.specs.Kept.{VsKept}
use Rattle.heap_gate.specs.Token.{Token, Always, now, IsStanding, is_out}
use Rattle.heap_gate.specs.Calls.{Runs, Stands, stance}
use Rattle.lfh_claims.specs.Moves.{block_place}
use Rattle.lfh_claims.specs.Search.{own_slot}
use Rattle.lfh_search.specs.Results.{place}
use Rattle.lfh_search.specs.Under.{CameBy, Found, Made, makes}
use Rattle.call_parts.specs.Calls.{GoesOn}
use Rattle.call_parts.proofs.Joining.{goes_does, goes_then, setting_before}
use Rattle.small_calls.proofs.Bounds.{block_within}
use Rattle.small_calls.proofs.Found.{is_bucket}
use Rattle.move_front.specs.Front.{IsBesideFront, HasFrontBlock, is_quiet}
use Rattle.move_front.proofs.Quiet.{still_moves}
use Rattle.move_parts.specs.Moves.{IsHeld, IsMoving}
use Rattle.move_parts.proofs.Known.{home, home_is, keeps_behind}
use Rattle.move_to_front.specs.Halfway.{IsHalfwayOver, HasMadePlace, HasNewFront}
use Rattle.move_to_front.proofs.Tells.{as_moves, vs_loaded, back_loaded, large_loaded, large_later}
use Rattle.move_front.specs.Front.{IsToPlace}
use Rattle.move_front.proofs.Movers.{mover_places}
use Rattle.move_to_front.proofs.Through.{through}
use Rattle.move_to_front.proofs.Beside.{holds_place, held_behind, two_apart}

---- The first act of the move

-- the acts that made the block, split before the first one that begins a move
record IsSplit (list : List Act) (its : List Act) : Type 0 where
  pub quiet : List Act
  pub begins : Act
  pub rest : List Act
  pub parts : list ≡ quiet ++ begins ∷ rest
  pub are : list_all is_quiet quiet ≡ true
  pub begins_it : begins_move begins ≡ true

all_two : (xs ys : List Act) → list_all is_quiet xs ≡ true → list_all is_quiet ys ≡ true → list_all is_quiet (xs ++ ys) ≡ true
all_two [] ys h k = k
all_two (x ∷ xs) ys h k =
    let p = Rattle.std.proofs.lemmas.Bool.and_parts (is_quiet x) (list_all is_quiet xs) h in
    and_from (is_quiet x) (list_all is_quiet (xs ++ ys)) p.0 (all_two xs ys p.1 k)

split_came : (its made : List Act) (back kept : Kept) (b t d head i : ℕ) → list_all is_quiet its ≡ true → CameBy back kept b t d head i made → IsSplit (its ++ (made ++ place b head i ∷ [])) its
split_came its made back kept b t d head i q (Found there none same) = record {
  quiet = its;
  begins = place b head i;
  rest = [];
  parts = ap (λ (l : List Act). its ++ (l ++ place b head i ∷ [])) none;
  are = q;
  begins_it = refl;
}
split_came its made back kept b t d head i q (Made room are drawn) = elim (cases_Bool (nat_lt (head / 256) (area_of back).reserved)) [
  | inl e ↦ record {
    quiet = its;
    begins = acts.Span head (bucket_pages b) kinds.Lfh b t;
    rest = place b head i ∷ [];
    parts =
        let is : makes (area_of back) head b t ≡ acts.Span head (bucket_pages b) kinds.Lfh b t ∷ [] = rw e refl in
        ap (λ (l : List Act). its ++ (l ++ place b head i ∷ [])) (are ∙ is);
    are = q;
    begins_it = refl;
  }
  | inr e ↦ record {
    quiet = its ++ acts.Reserve (area_of back).reserved ∷ [];
    begins = acts.Span head (bucket_pages b) kinds.Lfh b t;
    rest = place b head i ∷ [];
    parts =
        let is : makes (area_of back) head b t ≡ acts.Reserve (area_of back).reserved ∷ acts.Span head (bucket_pages b) kinds.Lfh b t ∷ [] = rw e refl in
        ap (λ (l : List Act). its ++ (l ++ place b head i ∷ [])) (are ∙ is)
        ∙ sym (append_assoc its (acts.Reserve (area_of back).reserved ∷ []) (acts.Span head (bucket_pages b) kinds.Lfh b t ∷ place b head i ∷ []));
    are = all_two its (acts.Reserve (area_of back).reserved ∷ []) q refl;
    begins_it = refl;
  }
]

---- The token

module _ (a d e : Token) (addr size n : ℕ) (flags : Flags) (p : Place) (out : List ℕ) (v : IsMoving a addr size n flags p out) (more : VsKept) (back kept : Kept) (bucket b : ℕ) (x : HasFrontBlock a d more back kept bucket b) (r : Runs d e []) (t : Stands e (stance d))
    (sa : IsStanding a) (se : IsStanding e) (slots : have_slots e.opening.limits.slots e.roll ≡ true) (legal : IsLegalWith e.opening e.roll e.seen) (valid : AreValid a.opening.limits) (few : n ≤ 16368) (bucket_is : bucket_of n ≡ Some bucket) where
  abbrev pub q : Place
  q = block_place bucket x.head x.index a.number

  abbrev list : List Act
  list = x.its ++ (x.made ++ place bucket x.head x.index ∷ [])

  pub goes_de : GoesOn d e []
  goes_de = goes_does d e [] r.does t.depth

  goes_ae : GoesOn a e (x.its ++ (x.made ++ place bucket x.head x.index ∷ []))
  goes_ae = subst (GoesOn a e) (append-nil list) (goes_then a d e list [] x.goes goes_de)

  number : e.number ≡ a.number
  number = goes_ae.number

  at_d : (s : Setting) → IsSettingOf e.opening e.roll s → IsSettingOf d.opening d.roll s
  at_d s z = setting_before d e [] goes_de s z

  pub at_a : (s : Setting) → IsSettingOf e.opening e.roll s → IsSettingOf a.opening a.roll s
  at_a s z = setting_before a e list goes_ae s z

  pub agree : (s : Setting) → IsSettingOf e.opening e.roll s → AgreesFor a.number (now s e) (now s d)
  agree s z = subst (λ (k : ℕ). AgreesFor k (now s e) (now s d)) x.goes.number (r.agrees s z)

  pub beside : (s : Setting) → IsSettingOf e.opening e.roll s → IsBesideFront a.number (now s a) (now s d)
  beside s z = x.stands.beside s (at_d s z)

  none_now : (s : Setting) → IsSettingOf e.opening e.roll s → hands (now s a).state a.number ≡ []
  none_now s z = (sa s (at_a s z)).hands v.serving.free

  hands_d : (s : Setting) → IsSettingOf e.opening e.roll s → hands (now s d).state a.number ≡ q ∷ hands (now s a).state a.number
  hands_d s z = x.hands s (at_d s z)

  hands_e : (s : Setting) → IsSettingOf e.opening e.roll s → hands (now s e).state a.number ≡ q ∷ []
  hands_e s z = subst (λ (k : ℕ). hands (now s e).state k ≡ q ∷ []) x.goes.number (r.hands s z ∙ (λ j. hands (now s d).state (x.goes.number j)) ∙ (hands_d s z ∙ ap (λ (ps : List Place). q ∷ ps) (none_now s z)))

  ---- The block

  at_b : address q ≡ b
  at_b = sym x.address

  granules : (block_size bucket % 16 ≡ 0) × (16 ≤ block_size bucket)
  granules = size_in_granules bucket (is_bucket n bucket bucket_is)

  long : 16 * (block_size bucket / 16) ≡ block_size bucket
  long = let k = granules.0 in omega (arith, k)

  pub valid_e : AreValid e.opening.limits
  valid_e = subst (λ (o : Opening). AreValid o.limits) (sym goes_ae.opening) valid

  block_now : Always e (λ s. HasBlock (now s e) a.number bucket b)
  block_now s z = record {
    hand = record {
      begun = subst (λ (k : ℕ). is_some ((now s e).now.calls k).call ≡ true) number (ap is_some ((se s z).call ∙ (t.call ∙ (x.stands.call ∙ v.serving.call_is))));
      place = q;
      hand = ap (find (has_address b)) (hands_e s z) ∙ (let k = eq-eqb (address q) b at_b in rw k refl);
      layer = refl;
    };
    long = long;
  }

  within : b + block_size bucket ≤ 1048576 * e.opening.limits.segments
  within =
      let s = home e t.prepared valid_e slots legal in let z = home_is e t.prepared valid_e slots legal in
      block_within s e.seen a.number bucket b (legal s z) (subst (λ (l : List Entry). HasBlock (configuration_after s (configuration_of s e.seen) l) a.number bucket b) t.prepared (block_now s z))

  fits : n ≤ block_size bucket
  fits = (bucket_fits n bucket bucket_is).1

  some : 16 ≤ block_size bucket
  some = granules.1

  apart : addr ≡ b → ⊥
  apart is =
      let s = home e t.prepared valid_e slots legal in let z = home_is e t.prepared valid_e slots legal in
      two_apart s a.number (now s a) (now s d) (now s e) (beside s z) (agree s z) q (hands_d s z) (none_now s z) (keeps_behind e t.prepared valid_e slots legal [] refl) addr size p (v.old s (at_a s z)) refl (is ∙ sym at_b)

  pub half : IsHalfwayOver e (calls.Realloc addr n flags) addr size p b n q out
  half = record {
    call_is = t.call ∙ (x.stands.call ∙ v.serving.call_is);
    fresh = t.fresh ∙ (x.stands.fresh ∙ v.serving.fresh);
    inside = t.inside ∙ x.stands.inside;
    out_is = t.out ∙ (x.stands.out ∙ v.serving.out_is);
    whole = t.whole;
    pending = t.pending;
    prepared = t.prepared;
    drawn = (t.searched ∙ x.stands.searched) ∙ sym (t.drawn ∙ x.stands.drawn);
    owes = t.owes ∙ x.stands.owes;
    hand = λ s z. subst (λ (k : ℕ). Rattle.move_to_front.specs.Halfway.HoldsFrontPlace (now s e).state k q) (sym number)
        (holds_place s a.number (now s a) (now s d) (now s e) (beside s z) (agree s z) q (hands_d s z) (none_now s z));
    front = refl;
    at = at_b;
    bucket = bucket;
    long = long;
    fits = fits;
    small = few;
    there = let w = within in let l = some in omega (arith, w, l);
    old = λ s z. subst (λ (k : ℕ). IsHeld (now s e) k addr p size) (sym number)
        (held_behind s a.number (now s a) (now s d) (now s e) (beside s z) (agree s z) q (hands_d s z) (none_now s z) addr size p (ne_eqb (address q) addr (λ k. apart (sym k ∙ at_b))) (v.old s (at_a s z)));
    apart = apart;
    from = subst (λ (o : Opening). addr / 8 + words_of size ≤ data_count o.limits) (sym goes_ae.opening) v.from;
    to = let w = within in let l = fits in let y = some in omega (arith, w, l, y);
  }

  ---- What was added

  split : IsSplit list x.its
  split = split_came x.its x.made back kept bucket (own_slot a) x.draw x.head x.index x.are.quiet x.came

  goes_split : GoesOn a e (split.quiet ++ split.begins ∷ split.rest)
  goes_split = subst (GoesOn a e) split.parts goes_ae

  now_a : (s : Setting) → now s a ≡ configuration_of s a.seen
  now_a s = ap (configuration_after s (configuration_of s a.seen)) v.serving.prepared

  pub made : HasMadePlace a e addr n p q
  made = record {
    added = split.quiet ++ split.begins ∷ split.rest;
    goes = goes_split;
    no_begin = ap (λ (l : List Act). list_all (λ act. not (Rattle.heap_model.specs.Legal.is_begin act)) l) (sym split.parts) ∙ x.no_begin;
    shape_is = ap shape_of (sym split.parts) ∙ x.shape_is;
    leaves = through a e split.quiet split.begins split.rest goes_split v.serving.prepared t.prepared legal split.are split.begins_it (λ s st. Finds s a.number addr n p false st) (λ s z k bs h.
        let y = at_a s z in
        let old : IsHeld (configuration_of s a.seen) a.number addr p size = subst (λ (m : Configuration). IsHeld m a.number addr p size) (now_a s) (v.old s y) in
        let leaves : lets_stay s.limits (configuration_of s a.seen).state p n ≡ false = subst (λ (m : Configuration). lets_stay s.limits m.state p n ≡ false) (now_a s) (v.leaves s y) in
        still_moves s (configuration_of s a.seen) k a.number addr n p bs h old.first old.touch few leaves);
    prepared = t.prepared;
    call = t.call ∙ x.stands.call;
    fresh = t.fresh ∙ x.stands.fresh;
    inside = (t.inside ∙ x.stands.inside) ∙ sym v.serving.inside;
    out = t.out ∙ x.stands.out;
  }

  list_before : (s : Setting) → IsSettingOf d.opening d.roll s → IsSettingOf a.opening a.roll s
  list_before s z = setting_before a d list x.goes s z

  out_d : d.out ≡ out
  out_d = x.stands.out ∙ v.serving.out_is

  pub has_new : IsStanding d → is_out whats.Vs out ≡ true → is_out whats.Back out ≡ true → HasNewFront a e addr size n flags p out more kept b
  has_new sd vs_out back_out = record {
    place = q;
    half = half;
    made = made;
    tells = record {
      vs = vs_loaded d e r t sd (ap (is_out whats.Vs) out_d ∙ vs_out) more (as_moves d more x.tells_vs);
      back = back_loaded d e r t sd (ap (is_out whats.Back) out_d ∙ back_out) kept x.back_is;
    };
    large = λ o large w. large_loaded d e r t sd (ap (is_out whats.Large) out_d ∙ o) large (large_later a d x.goes.opening list_before large (λ s z.
        (x.stands.beside s z).large ((sa s (list_before s z)).locks whats.Large ∙ (ap (is_out whats.Large) v.serving.out_is ∙ o))) w);
  }

---- Before the search

-- a call that moves a block has to place one of the bucket
pub to_place : (c : Token) (addr size n : ℕ) (flags : Flags) (p : Place) (out : List ℕ) → IsMoving c addr size n flags p out → (bucket : ℕ) → bucket_of n ≡ Some bucket → is_out whats.Vs out ≡ true → is_out whats.Back out ≡ true → IsToPlace c bucket
to_place c addr size n flags p out v bucket bucket_is vs_out back_out =
    mover_places c addr n bucket flags p
    (λ s z.
    let k = v.serving.is_new s z in let old = v.old s z in
    record {
      call = k.call_is;
      placed = k.placed;
      no_span = k.no_span;
      search = k.search;
      first = old.first;
      touch = old.touch;
      there = ap (λ (y : Rattle.heap_model.specs.State.Status). Rattle.heap_model.specs.State.is_live y || Rattle.heap_model.specs.State.is_in_hand_of c.number y) old.live;
      leaves = v.leaves s z;
    })
    v.may_move bucket_is v.serving.inside v.serving.whole v.serving.searched v.serving.drawn v.serving.owes (ap (is_out whats.Vs) v.serving.out_is ∙ vs_out) (ap (is_out whats.Back) v.serving.out_is ∙ back_out)
