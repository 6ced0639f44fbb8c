-- The block that a search has picked is placed and given, and caller 0 leaves.
use Rattle.std.proofs.Common.{◌≡◌, ℕ, ◌+◌, ◌*◌, ◌/◌, ◌<◌, ◌≤◌, Bool, true, false, ◌&&◌, List, [], ◌∷◌, ◌++◌, Option, Some, None, refl, sym, ap, subst, ◌∙◌, arith, eqb, leb, ltb}
use Rattle.std.specs.List.{find, list_any}
use Rattle.std.proofs.lemmas.Bool.{and_from, and_parts, le-leb, lt-ltb, eq-eqb, leb-true, ltb-true}
use Rattle.heap_model.specs.declared.Call.TheVariants as calls
use Rattle.heap_model.specs.declared.Act.TheVariants as acts
use Rattle.heap_model.specs.declared.Reply.TheVariants as replies
use Rattle.heap_model.specs.declared.Kind.{Kind}
use Rattle.heap_model.specs.declared.Kind.TheVariants as kinds
use Rattle.heap_model.specs.declared.Layer.{Layer}
use Rattle.heap_model.specs.declared.Layer.TheVariants as layers
use Rattle.heap_model.specs.declared.What.TheVariants as whats
use Rattle.heap_model.specs.Buckets.{bucket_of, bucket_pages, block_size, block_address, block_count}
use Rattle.heap_model.specs.Bits.{starts_at}
use Rattle.heap_model.specs.State.{Setting, BackPart, VsPart, Span, Place, Live, InHand, Locks, open_locks, is_kind, has_address, in_hand, is_hand_at, change_found, updated}
use Rattle.heap_model.specs.Backend.{in_span}
use Rattle.heap_model.specs.CallState.{Configuration, CallState, Search, SpanHistory, Demand, Nothing}
use Rattle.heap_model.specs.Search.{spans_of, head_of, may_claim}
use Rattle.heap_model.specs.Legal.{after, are_used, is_empty, with_status, on, layer_of, is_picked_in, is_lfh_over, hints_with, meets_demand, searched_once}
use Rattle.heap_model.specs.Alone.{by_zero}
use Rattle.heap_soundness.specs.Sound.{IsOneOf, AreInOrder}
use Rattle.heap_soundness.proofs.Layers.{block_end}
use Rattle.heap_soundness.proofs.Lists.{any_in, found_in, found_passes, find_some}
use Rattle.heap_soundness.proofs.Spans.{same_span}
use Rattle.serial_laws.specs.BackCalls.{plain}
use Rattle.serial_laws.proofs.Allocate.{come}
use Rattle.search_laws.specs.Reading.{lfh_block}
use Rattle.search_laws.specs.Calls.{hint_put}
use Rattle.search_laws.proofs.Blocks.{whole_granules, some_size, bucket_fits, number_is}
use Rattle.search_laws.proofs.Ends.{EndsFrom}

---- Where caller 0 stands

-- its call, of which the search is this
abbrev pub asking : ℕ → ℕ → Search → CallState
asking n q f = record { call = Some (calls.Alloc n plain); entered = true; placed = false; taken = false; no_span = false; searches = q; search = f }

abbrev pub back_locked : Locks
back_locked = record { lfh = None; vs = None; back = Some 0; large = None }

-- caller 0 alone is inside
abbrev pub inside : Locks → BackPart → VsPart → List Place → List Place → (ℕ → ℕ) → (ℕ → CallState) → CallState → (ℕ → Bool) → SpanHistory → Demand → Configuration
inside locks back vs lfh large words others k disturbed history demand = record {
  state = record { gate = record { counted = 0 ∷ []; turning = []; owner = None; locks = locks }; back = back; vs = vs; lfh = lfh; large = large; words = words };
  now = record { calls = updated others 0 k; disturbed = disturbed; span_history = history; demand = demand };
}

---- What the tests come to

-- the block is the one that the search has picked
pub picks_it : (b : ℕ) (f : Search) (x : Span) (i : ℕ) → 0 < block_size b → f.picked ≡ Some i → head_of f.read ≡ Some x.first → is_picked_in b f (block_address b x.first i) (block_size b / 16) x ≡ true
picks_it b f x i some picked read = subst Claim (sym (number_is b x.first i some)) here
  where
    start : ℕ
    start = block_address b x.first i

    Claim : ℕ → Type 0
    Claim j = (may_claim f x.first j && eqb start (block_address b x.first j) && eqb (16 * (block_size b / 16)) (block_size b)) ≡ true

    here : Claim i
    here =
        let e = eq-eqb i i refl in
        let h = eq-eqb x.first x.first refl in
        let p = eq-eqb start (block_address b x.first i) refl in
        let g = eq-eqb (16 * (block_size b / 16)) (block_size b) (whole_granules b) in
        rw (picked, read, e, h, p, g) refl

-- a block of n bytes suits it
suits_it : (n b : ℕ) → bucket_of n ≡ Some b → (leb n (16 * (block_size b / 16)) && leb n 16368) ≡ true
suits_it n b h =
    let r = bucket_fits n b h in
    let w = whole_granules b in
    and_from (leb n (16 * (block_size b / 16))) (leb n 16368) (rw w (le-leb n (block_size b) r.1)) (le-leb n 16368 r.0)

---- The place that is made, and given

module _ (lfh vs back large : List Place) (start granules n : ℕ) (none : in_hand 0 lfh ++ in_hand 0 vs ++ in_hand 0 back ++ in_hand 0 large ≡ []) where
  abbrev made : Place
  made = record { start = start; granules = granules; layer = layers.Lfh; status = InHand 0 }

  abbrev given : Place
  given = record { start = start; granules = granules; layer = layers.Lfh; status = Live n }

  abbrev give : List Place → List Place
  give ps = change_found (is_hand_at 0 start) (with_status (Live n)) ps

  -- the place in hand at the Give
  abbrev hand : Option Place
  hand = find (has_address start) (in_hand 0 (made ∷ lfh) ++ in_hand 0 vs ++ in_hand 0 back ++ in_hand 0 large)

  found : hand ≡ Some made
  found = let f = eq-eqb start start refl in rw f refl

  lfh_after : on layers.Lfh give (made ∷ lfh) (layer_of hand) ≡ given ∷ lfh
  lfh_after = ap (λ (o : Option Place). on layers.Lfh give (made ∷ lfh) (layer_of o)) found ∙ changed
    where
      changed : give (made ∷ lfh) ≡ given ∷ lfh
      changed = let f = eq-eqb start start refl in rw f refl

  -- the places of another layer are as before
  others : (l : Layer) (ps : List Place) → on l give ps (Some layers.Lfh) ≡ ps → on l give ps (layer_of hand) ≡ ps
  others l ps h = ap (λ (o : Option Place). on l give ps (layer_of o)) found ∙ h

  leaves : in_hand 0 (on layers.Lfh give (made ∷ lfh) (layer_of hand)) ++ in_hand 0 (on layers.Vs give vs (layer_of hand)) ++ in_hand 0 (on layers.Back give back (layer_of hand)) ++ in_hand 0 (on layers.Large give large (layer_of hand)) ≡ []
  leaves =
      ap (λ (ps : List Place). in_hand 0 ps ++ in_hand 0 (on layers.Vs give vs (layer_of hand)) ++ in_hand 0 (on layers.Back give back (layer_of hand)) ++ in_hand 0 (on layers.Large give large (layer_of hand))) lfh_after
      ∙ ap (λ (o : Option Place). in_hand 0 lfh ++ in_hand 0 (on layers.Vs give vs (layer_of o)) ++ in_hand 0 (on layers.Back give back (layer_of o)) ++ in_hand 0 (on layers.Large give large (layer_of o))) found
      ∙ none

  whole_again : (xs : List Span) → are_used 4096 kinds.Back back xs ≡ true → are_used 4096 kinds.Back (on layers.Back give back (layer_of hand)) xs ≡ true
  whole_again xs h = ap (λ (ps : List Place). are_used 4096 kinds.Back ps xs) (others layers.Back back refl) ∙ h

  used_again : (xs : List Span) → are_used 4096 kinds.Vs vs xs ≡ true → are_used 4096 kinds.Vs (on layers.Vs give vs (layer_of hand)) xs ≡ true
  used_again xs h = ap (λ (ps : List Place). are_used 4096 kinds.Vs ps xs) (others layers.Vs vs refl) ∙ h

---- The acts

module _ (s : Setting) (back : BackPart) (vs : VsPart) (lfh large : List Place) (words : ℕ → ℕ) (n b q : ℕ) (x : Span) (i : ℕ) (is_bucket : bucket_of n ≡ Some b) (active : vs.active b ≡ true) (range : (1 ≤ b) × (b ≤ 128))
    (none : in_hand 0 lfh ++ in_hand 0 vs.places ++ in_hand 0 back.places ++ in_hand 0 large ≡ []) (whole : are_used 4096 kinds.Back back.places back.area.spans ≡ true) (used : are_used 4096 kinds.Vs vs.places back.area.spans ≡ true)
    (there : IsOneOf x (spans_of back.area b (s.slot 0))) (clear : starts_at lfh (block_address b x.first i) ≡ false) where
  abbrev start : ℕ
  start = block_address b x.first i

  abbrev granules : ℕ
  granules = block_size b / 16

  -- the place may be made
  places_it : (f : Search) → f.picked ≡ Some i → head_of f.read ≡ Some x.first → list_any (is_picked_in b f start granules) (spans_of back.area b (s.slot 0)) ≡ true
  places_it f picked read = any_in (is_picked_in b f start granules) (spans_of back.area b (s.slot 0)) x there (picks_it b f x i (some_size b range.0 range.1) picked read)

  -- without a lock
  pub ends_free : (old : Configuration) (other : ℕ → CallState) (f : Search) (disturbed : ℕ → Bool) (history : SpanHistory) → f.picked ≡ Some i → head_of f.read ≡ Some x.first → searched_once f.stage ≡ 1 →
      old.state.back ≡ back → old.state.vs ≡ vs → old.state.large ≡ large → old.state.words ≡ words →
      EndsFrom s old (inside open_locks back vs lfh large words other (asking n q f) disturbed history Nothing) (calls.Alloc n plain) (replies.Address start) back.area
      (lfh_block b n (record { span = x; index = i }) ∷ lfh) history.hints (q + 1)
  ends_free old other f disturbed history picked read counts same_back same_vs same_large same_words =
      let m = inside open_locks back vs lfh large words other (asking n q f) disturbed history Nothing in
      let m1 = after s m (by_zero (acts.Place start granules layers.Lfh)) in
      let m2 = after s m1 (by_zero (acts.Give start n)) in
      let r1 = acts.Give start n ∷ acts.Leave ∷ [] in
      let hand_is = found lfh vs.places back.places large start granules n none in
      let left = leaves lfh vs.places back.places large start granules n none in
      let any = places_it f picked read in
      let suits = suits_it n b is_bucket in
      record {
        rest = acts.Place start granules layers.Lfh ∷ r1;
        legal =
            come s m (acts.Place start granules layers.Lfh) r1 (rw (clear, is_bucket, active) any)
            (come s m1 (acts.Give start n) (acts.Leave ∷ []) (rw hand_is suits)
            (come s m2 acts.Leave [] (ap is_empty left) refl));
        steps = λ depth. refl;
        answered = record { own = refl; shape = (refl, refl) };
        idle = record { outside = refl; holds = refl; hands = left; demand = refl };
        at_rest = record { rest = refl; hands = left; whole = whole_again lfh vs.places back.places large start granules n none back.area.spans whole; used = used_again lfh vs.places back.places large start granules n none back.area.spans used };
        only = record {
          area_is = refl;
          places_are = lfh_after lfh vs.places back.places large start granules n none;
          hints_are = refl;
          back = others lfh vs.places back.places large start granules n none layers.Back back.places refl ∙ ap (λ (p : BackPart). p.places) (sym same_back);
          vs = ap (λ (ps : List Place). record { places = ps; active = vs.active; served = vs.served }) (others lfh vs.places back.places large start granules n none layers.Vs vs.places refl) ∙ sym same_vs;
          large = others lfh vs.places back.places large start granules n none layers.Large large refl ∙ sym same_large;
          words = sym same_words;
          searches_are = ap (λ (k : ℕ). q + k) counts;
        };
      }

  -- under the lock of the back end, by which its span is the hint then
  pub ends_locked : (old : Configuration) (other : ℕ → CallState) (f : Search) (disturbed : ℕ → Bool) (history : SpanHistory) (demand : Demand) → f.picked ≡ Some i → head_of f.read ≡ Some x.first → searched_once f.stage ≡ 1 →
      find (is_lfh_over start) back.area.spans ≡ Some x → x.bucket ≡ b → x.slot ≡ s.slot 0 → meets_demand back.area (by_zero (acts.Place start granules layers.Lfh)) demand ≡ true →
      old.state.back.places ≡ back.places → old.state.vs ≡ vs → old.state.large ≡ large → old.state.words ≡ words →
      EndsFrom s old (inside back_locked back vs lfh large words other (asking n q f) disturbed history demand) (calls.Alloc n plain) (replies.Address start) back.area
      (lfh_block b n (record { span = x; index = i }) ∷ lfh) (hint_put history.hints b (s.slot 0) x.first) (q + 1)
  ends_locked old other f disturbed history demand picked read counts over of_bucket of_slot meets same_places same_vs same_large same_words =
      let m = inside back_locked back vs lfh large words other (asking n q f) disturbed history demand in
      let m1 = after s m (by_zero (acts.Place start granules layers.Lfh)) in
      let m2 = after s m1 (by_zero (acts.Give start n)) in
      let m3 = after s m2 (by_zero (acts.GiveLock whats.Back)) in
      let r2 = acts.GiveLock whats.Back ∷ acts.Leave ∷ [] in
      let r1 = acts.Give start n ∷ r2 in
      let hand_is = found lfh vs.places back.places large start granules n none in
      let left = leaves lfh vs.places back.places large start granules n none in
      let any = places_it f picked read in
      let suits = suits_it n b is_bucket in
      let again = whole_again lfh vs.places back.places large start granules n none back.area.spans whole in
      record {
        rest = acts.Place start granules layers.Lfh ∷ r1;
        legal =
            come s m (acts.Place start granules layers.Lfh) r1 (rw (meets, clear, is_bucket, active) any)
            (come s m1 (acts.Give start n) r2 (rw hand_is suits)
            (come s m2 (acts.GiveLock whats.Back) (acts.Leave ∷ []) again
            (come s m3 acts.Leave [] (ap is_empty left) refl)));
        steps = λ depth. refl;
        answered = record { own = refl; shape = (refl, refl) };
        idle = record { outside = refl; holds = refl; hands = left; demand = refl };
        at_rest = record { rest = refl; hands = left; whole = again; used = used_again lfh vs.places back.places large start granules n none back.area.spans used };
        only = record {
          area_is = refl;
          places_are = lfh_after lfh vs.places back.places large start granules n none;
          hints_are =
              ap (hints_with history.hints) over
              ∙ ap (λ (c : ℕ). updated history.hints c (updated (history.hints c) x.slot (Some x.first))) of_bucket
              ∙ ap (λ (t : ℕ). updated history.hints b (updated (history.hints b) t (Some x.first))) of_slot;
          back = others lfh vs.places back.places large start granules n none layers.Back back.places refl ∙ sym same_places;
          vs = ap (λ (ps : List Place). record { places = ps; active = vs.active; served = vs.served }) (others lfh vs.places back.places large start granules n none layers.Vs vs.places refl) ∙ sym same_vs;
          large = others lfh vs.places back.places large start granules n none layers.Large large refl ∙ sym same_large;
          words = sym same_words;
          searches_are = ap (λ (k : ℕ). q + k) counts;
        };
      }

---- The span of a block

between : (first pages start size : ℕ) → 0 < size → 4096 * first ≤ start → start + size ≤ 4096 * (first + pages) → (first ≤ start / 4096) × (start / 4096 < first + pages)
between first pages start size some low high = (omega arith, omega arith)

-- the page of a block is one of its span
pub page_of : (b first i : ℕ) → 0 < block_size b → i < block_count b → (first ≤ block_address b first i / 4096) × (block_address b first i / 4096 < first + bucket_pages b)
page_of b first i some below = between first (bucket_pages b) (block_address b first i) (block_size b) some (low (i * block_size b)) (block_end b first i below)
  where
    low : (k : ℕ) → 4096 * first ≤ 4096 * first + 64 + k
    low k = omega arith

-- a block of a span of its bucket is over it alone
pub over_is : (xs : List Span) (b : ℕ) (x : Span) (i : ℕ) → AreInOrder 0 xs → IsOneOf x xs → x.kind ≡ kinds.Lfh → x.pages ≡ bucket_pages b → 0 < block_size b → i < block_count b →
    find (is_lfh_over (block_address b x.first i)) xs ≡ Some x
over_is xs b x i a there kind pages some below = r.1 ∙ ap Some (sym same)
  where
    u : ℕ
    u = block_address b x.first i / 4096

    test : Span → Bool
    test = is_lfh_over (block_address b x.first i)

    p : (x.first ≤ u) × (u < x.first + x.pages)
    p = let k = page_of b x.first i some below in (k.0, subst (λ (n : ℕ). u < x.first + n) (sym pages) k.1)

    r : (y : Span) × (find test xs ≡ Some y)
    r = find_some test xs x there (and_from (is_kind x.kind kinds.Lfh) (in_span u x) (ap (λ (k : Kind). is_kind k kinds.Lfh) kind) (and_from (leb x.first u) (ltb u (x.first + x.pages)) (le-leb x.first u p.0) (lt-ltb u (x.first + x.pages) p.1)))

    same : x ≡ r.0
    same =
        let t = and_parts (is_kind r.0.kind kinds.Lfh) (in_span u r.0) (found_passes test xs r.0 r.1) in
        let w = and_parts (leb r.0.first u) (ltb u (r.0.first + r.0.pages)) t.1 in
        same_span 0 xs x r.0 u a there (found_in test xs r.0 r.1) p.0 p.1 (leb-true r.0.first u w.0) (ltb-true u (r.0.first + r.0.pages) w.1)
