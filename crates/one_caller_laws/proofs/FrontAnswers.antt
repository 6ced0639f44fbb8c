-- A reallocation of a block that is not of the front end, where what a pass finds is placed under Back: how it is answered.
use Rattle.std.proofs.Common.{◌≡◌, ℕ, ◌+◌, ◌-◌, ◌/◌, Bool, true, false, cond, List, [], ◌∷◌, ◌++◌, Option, Some, None, refl, sym, ap, ◌∙◌, subst, inl, inr}
use Rattle.std.proofs.lemmas.Bool.{cases_Bool, and_parts, false≢true, true≢false}
use Rattle.heap_model.specs.declared.Act.{Act}
use Rattle.heap_model.specs.declared.Act.TheVariants as acts
use Rattle.heap_model.specs.declared.Call.{Call}
use Rattle.heap_model.specs.declared.Call.TheVariants as calls
use Rattle.heap_model.specs.declared.Flags.{Flags}
use Rattle.heap_model.specs.declared.Reply.{Reply}
use Rattle.heap_model.specs.declared.Reply.TheVariants as replies
use Rattle.heap_model.specs.Geometry.{words_of}
use Rattle.heap_model.specs.Buckets.{bucket_of}
use Rattle.heap_model.specs.State.{Setting, IsValidSetting, State, Place, Live, place_at}
use Rattle.heap_model.specs.Stay.{for_some}
use Rattle.heap_model.specs.CallState.{Configuration}
use Rattle.heap_model.specs.Search.{has_not_begun, has_to_move}
use Rattle.heap_model.specs.Legal.{may_follow, after, goes_to_lfh}
use Rattle.heap_model.specs.Alone.{by_zero, configuration_by}
use Rattle.heap_model.specs.Moments.{moments_by}
use Rattle.heap_model.specs.Shape.{shape_of, shown, begins_move, is_of_front, moving, TakesAndPlaces, IsMoved, HasNoRange, HasShape, Replied}
use Rattle.heap_soundness.proofs.Addresses.{place_among_all}
use Rattle.one_caller_laws.specs.OneCall.{IsBetween, AreAlike, Answers, IsSameReply}
use Rattle.one_caller_laws.specs.UnderBack.{place_under_back, is_under_back}
use Rattle.one_caller_laws.specs.MovingUnderBack.{MoveUnderBackIsDetermined}
use Rattle.one_caller_laws.proofs.Core.{Core, core_of}
use Rattle.one_caller_laws.proofs.InCall.{InCall, IsWhole}
use Rattle.one_caller_laws.proofs.Reach.{Goes, goes_after}
use Rattle.one_caller_laws.proofs.Pair.{begun_within, begun_whole, begun_same, goes_from, shown_is, within_next, HintsAlike}
use Rattle.one_caller_laws.proofs.Asks.{none_is, same_reply, alike_at}
use Rattle.one_caller_laws.proofs.Allocs.{zeros_are}
use Rattle.one_caller_laws.proofs.Turns.{Seeking, HintIs, words_some}
use Rattle.one_caller_laws.proofs.Sought.{seek}
use Rattle.one_caller_laws.proofs.FrontEnds.{hints_at_all}
use Rattle.one_caller_laws.proofs.Stops.{outcome}
use Rattle.one_caller_laws.proofs.Refusals.{trail, ends_by_base}
use Rattle.one_caller_laws.proofs.Blocks.{Block, moves_at}
use Rattle.one_caller_laws.proofs.Carried.{AreWords, are_moved, are_words_split}
use Rattle.one_caller_laws.proofs.Firsts.{lives_before, block_refused}
use Rattle.one_caller_laws.proofs.Moves.{append_three}
use Rattle.one_caller_laws.proofs.Befores.{decided, never_missed, never_given, never_resized, found_before}
use Rattle.one_caller_laws.proofs.Reallocs.{words_gained, reallocation_determined}
use Rattle.one_caller_laws.proofs.FrontMoves.{Away, To, Nowhere_else, Reached, away_stops, away_ends, same_base, same}

module _ (s : Setting) (a n : ℕ) (flags : Flags) (may_move : flags.in_place ≡ false) where
  abbrev call : Call
  call = calls.Realloc a n flags

  module _ (m : Configuration) (rest : List Act) (w : InCall s call (after s m (by_zero (acts.Begin call)))) (whole : IsWhole (core_of (after s m (by_zero (acts.Begin call))))) (g : Goes s (after s m (by_zero (acts.Begin call))) rest)
      (size : ℕ) (block : Block s a n flags (core_of (after s m (by_zero (acts.Begin call)))) size false false) where
    abbrev k : Configuration
    k = after s m (by_zero (acts.Begin call))

    moved_by : (b : ℕ) (x : IsMoved s 0 a n flags.zero b (moments_by s m (acts.Begin call ∷ rest))) → (f : Bool) → is_of_front x.old ≡ f →
        TakesAndPlaces f (acts.Take a x.size) (acts.Place x.made.start x.made.granules x.made.layer) (moving a x.size b n flags.zero x.values) x.moves → Away s a n flags false size (replies.Address b) (shape_of rest)
    moved_by b x true fr e =
        let t = acts.Give b n ∷ acts.Drop a ∷ [] in
        let shape : shape_of rest ≡ acts.Take a x.size ∷ acts.Place x.made.start x.made.granules x.made.layer ∷ (moving a x.size b n flags.zero x.values ++ t) = sym (shown_is s call m rest) ∙ x.acts_are ∙ ap (λ (l : List Act). l ++ t) e in
        let old = found_before s a n flags begins_move false k rest (acts.Take a x.size) _ block.place x.old w g block.found shape refl x.leaves in
        absurd (true≢false (sym fr ∙ ap is_of_front old ∙ block.is_front))
    moved_by b x false fr (first, more, split, e) =
        let t = acts.Give b n ∷ acts.Drop a ∷ [] in
        let shape : shape_of rest ≡ acts.Place x.made.start x.made.granules x.made.layer ∷ ((first ++ acts.Take a x.size ∷ more) ++ t) = sym (shown_is s call m rest) ∙ x.acts_are ∙ ap (λ (l : List Act). l ++ t) e in
        let are = are_words_split first more (subst AreWords split (are_moved a x.size b n flags.zero x.values)) in
        let lives = lives_before s call k rest x.made.start x.made.granules x.made.layer first a x.size (more ++ t) block.place w g are.0
        (shape ∙ ap (λ (l : List Act). acts.Place x.made.start x.made.granules x.made.layer ∷ l) (append_three first (acts.Take a x.size ∷ more) t)) block.found in
        let z : Some lives.place ≡ Some block.place = sym lives.found ∙ block.found in
        let same_place : lives.place ≡ block.place = cc in
        let l : Live x.size ≡ Live size = sym lives.live ∙ ap (λ (p : Place). p.status) same_place ∙ block.live in
        let is : x.size ≡ size = cc in
        subst (λ (v : ℕ). Away s a n flags false v (replies.Address b) (shape_of rest)) is (To b x.made.start x.made.granules x.made.layer x.values refl x.address_is x.count (first, more, split, shape))

    refused_by : (x : HasNoRange s 0 a n (moments_by s m (acts.Begin call ∷ rest))) → (f : Bool) → is_of_front x.old ≡ f →
        shown (moments_by s m (acts.Begin call ∷ rest)) ≡ cond f (acts.Take a x.size ∷ acts.NoFit n ∷ acts.Give a x.size ∷ []) (acts.NoFit n ∷ []) → Away s a n flags false size replies.NoFit (shape_of rest)
    refused_by x true fr e =
        let shape : shape_of rest ≡ acts.Take a x.size ∷ acts.NoFit n ∷ acts.Give a x.size ∷ [] = sym (shown_is s call m rest) ∙ e in
        let y = block_refused s a n flags k rest x.size _ x.old w g shape fr x.leaves in
        let z : Some y.place ≡ Some block.place = sym y.found ∙ block.found in
        let same_place : y.place ≡ block.place = cc in
        absurd (true≢false (sym y.is_front ∙ ap is_of_front same_place ∙ block.is_front))
    refused_by x false fr e = Nowhere_else refl (sym (shown_is s call m rest) ∙ e)

    pub answered : (reply : Reply) → HasShape s 0 call (Replied reply) (moments_by s m (acts.Begin call ∷ rest)) → Away s a n flags false size reply (shape_of rest)
    answered (replies.Address b) (inl (e, inl x)) =
        let shape = sym (shown_is s call m rest) ∙ x.acts_are ∙ ap (λ (l : List Act). l ++ acts.Resize a x.granules n ∷ []) (zeros_are flags.zero (a / 8 + words_of x.size) (words_of n - words_of x.size)) in
        absurd (never_resized s a n flags (words_gained s a n flags x.size) k rest x.granules size false x.old w whole g block shape x.stays)
    answered (replies.Address b) (inl (e, inr x)) = absurd (never_given s a n flags k rest _ size x.size false x.old w g block (sym (shown_is s call m rest) ∙ x.acts_are) x.front x.stays)
    answered (replies.Address b) (inr (only, x)) = moved_by b x (is_of_front x.old) refl x.moves_are
    answered replies.NoFit (only, x) = refused_by x (is_of_front x.old) refl x.acts_are
    answered replies.NoRoom (only, x) = absurd (true≢false (sym only ∙ may_move))
    answered replies.NotLive x = absurd (never_missed s a n flags k rest [] size false w g block (sym (shown_is s call m rest) ∙ none_is a (shown (moments_by s m (acts.Begin call ∷ rest))) x))
    answered _ x = absurd x

  ---- The search

  module _ (b : ℕ) (bucket : bucket_of n ≡ Some b) where
    pub begun_seeking : (m : Configuration) (h : Option ℕ) → goes_to_lfh m.state.vs b ≡ true → Seeking s b h (core_of (after s m (by_zero (acts.Begin call))))
    begun_seeking m h goes = record {
      seeks = record {
        lost = refl;
        picked = λ i e. absurd (let bad : ⊥ = cc in bad);
        reads = λ head e. absurd (let bad : ⊥ = cc in bad);
        hinted = λ t head e. absurd (let bad : ⊥ = cc in bad);
        here = λ y i e. absurd (let bad : ⊥ = cc in bad);
        behind = λ y i e. absurd (false≢true e);
        over = λ e. absurd (false≢true e);
        going = λ e. words_some n b bucket;
      };
      goes = goes;
      fell = λ e. absurd (false≢true e);
      second = refl;
    }

    reached : (h : Option ℕ) (m : Configuration) (reply : Reply) (rest : List Act) (size : ℕ) → IsValidSetting s → IsBetween s m → goes_to_lfh m.state.vs b ≡ true → HintIs s call n b refl bucket h m → Answers s m call reply rest → place_under_back s m (acts.Begin call ∷ rest) ≡ true →
        Away s a n flags false size reply (shape_of rest) → Reached s a n flags b bucket h false (after s m (by_zero (acts.Begin call))) rest (shape_of rest)
    reached h m reply rest size valid between goes hint_is x under show =
        let act = acts.Begin call in
        let to = after s m (by_zero act) in
        let first = (and_parts (may_follow s m (by_zero act)) _ x.legal).0 in
        let y = seek s call n b refl bucket refl h to rest (begun_within s call m valid between first) (begun_whole s call m valid between first) refl (begun_seeking m h goes) hint_is (goes_from s call m reply rest x)
        (and_parts (is_under_back m act) (place_under_back s to rest) under).1 (away_stops s a n flags false size reply (shape_of rest) show) in
        record { at = y.at; act = y.act; later = y.later; steps = y.steps; path = y.path; hints = y.hints; within = y.within; whole = y.whole; demand = y.demand; seeking = y.seeking; hint_is = y.hint_is; goes = y.goes; under = y.under; shape = sym y.shape; ends = y.ends; stops = away_ends s a n flags false size reply y.act y.later y.stops (subst (Away s a n flags false size reply) y.shape show) }

    module _ (h : Option ℕ) (size : ℕ) (m : Configuration) (rest t : List Act) (l : Configuration) (others u : List Act) (reply other : Reply) (show : Away s a n flags false size reply t) (show_too : Away s a n flags false size other u)
        (x : Reached s a n flags b bucket h false m rest t) (y : Reached s a n flags b bucket h false l others u) (core : core_of m ≡ core_of l) (hints : HintsAlike m l) where
      refused : (later later_too : List Act) → x.act ∷ x.later ≡ acts.NoFit n ∷ later → y.act ∷ y.later ≡ acts.NoFit n ∷ later_too → x.at.state.vs.active b ≡ true → has_not_begun (x.at.now.calls 0).search.stage ≡ false →
          y.at.state.vs.active b ≡ true → has_not_begun (y.at.now.calls 0).search.stage ≡ false → IsSameReply reply other × AreAlike (configuration_by s m rest) (configuration_by s l others)
      refused later later_too e f active begun active_too begun_too = by_shown show show_too
        where
          g : Goes s x.at (acts.NoFit n ∷ later)
          g = subst (Goes s x.at) e x.goes

          j : Goes s y.at (acts.NoFit n ∷ later_too)
          j = subst (Goes s y.at) f y.goes

          by_shown : Away s a n flags false size reply t → Away s a n flags false size other u → IsSameReply reply other × AreAlike (configuration_by s m rest) (configuration_by s l others)
          by_shown (Nowhere_else e1 h1) (Nowhere_else e2 h2) =
              let q : acts.NoFit n ∷ [] ≡ acts.NoFit n ∷ shape_of later = sym h1 ∙ sym x.shape ∙ ap shape_of e in
              let r : acts.NoFit n ∷ [] ≡ acts.NoFit n ∷ shape_of later_too = sym h2 ∙ sym y.shape ∙ ap shape_of f in
              let none : shape_of later ≡ [] = cc (q, r) in
              let none_too : shape_of later_too ≡ [] = cc (q, r) in
              let to = after s x.at (by_zero (acts.NoFit n)) in
              let to_too = after s y.at (by_zero (acts.NoFit n)) in
              let v = trail s call n b refl bucket refl h to later (within_next s call x.at (acts.NoFit n) later x.within g) x.whole refl x.seeking x.hint_is active begun (goes_after s x.at (acts.NoFit n) later g) none in
              let v_too = trail s call n b refl bucket refl h to_too later_too (within_next s call y.at (acts.NoFit n) later_too y.within j) y.whole refl y.seeking y.hint_is active_too begun_too (goes_after s y.at (acts.NoFit n) later_too j) none_too in
              let both = same_base s a n flags b bucket h false size m rest t l others u reply other show show_too x y core hints active active_too in
              let hs : HintsAlike x.at y.at = λ p q. x.hints p q ∙ hints p q ∙ sym (y.hints p q) in
              let z = ends_by_base s call _ _ v.within v_too.within g.idle j.idle (v.base_is ∙ both ∙ sym v_too.base_is) v.begun v_too.begun (λ p q. v.hints p q ∙ hs p q ∙ sym (v_too.hints p q)) in (
                same_reply reply other (e1 ∙ sym e2),
                alike_at _ _ _ _ (x.ends ∙ ap (configuration_by s x.at) e) (y.ends ∙ ap (configuration_by s y.at) f) z,
              )
          by_shown (To b1 st1 gr1 ly1 vs1 e1 f1 c1 (first, more, split, h1)) z = absurd (let q : acts.Place st1 gr1 ly1 ∷ ((first ++ acts.Take a size ∷ more) ++ acts.Give b1 n ∷ acts.Drop a ∷ []) ≡ acts.NoFit n ∷ shape_of later = sym h1 ∙ sym x.shape ∙ ap shape_of e in let bad : ⊥ = cc in bad)
          by_shown (Nowhere_else e1 h1) (To b1 st1 gr1 ly1 vs1 e2 f2 c2 (first, more, split, h2)) = absurd (let q : acts.Place st1 gr1 ly1 ∷ ((first ++ acts.Take a size ∷ more) ++ acts.Give b1 n ∷ acts.Drop a ∷ []) ≡ acts.NoFit n ∷ shape_of later_too = sym h2 ∙ sym y.shape ∙ ap shape_of f in let bad : ⊥ = cc in bad)

pub move_under_back : MoveUnderBackIsDetermined
move_under_back s m k reply other rest others a n flags valid from from_too alike other_block x y under under_too = elim (cases_Bool flags.in_place) [
  | inl only ↦ reallocation_determined s m k reply other rest others a n flags valid from from_too alike (inl only) x y
  | inr may_move ↦ elim (cases_Bool (for_some (place_at m.state 0 a) (has_to_move s m.state 0 n))) [
    | inr stays ↦ reallocation_determined s m k reply other rest others a n flags valid from from_too alike (inr (inl stays)) x y
    | inl moves ↦ by_bucket may_move moves (bucket_of n) refl
  ]
]
  where
    by_front : flags.in_place ≡ false → for_some (place_at m.state 0 a) (has_to_move s m.state 0 n) ≡ true → (b : ℕ) → bucket_of n ≡ Some b → goes_to_lfh m.state.vs b ≡ true → IsSameReply reply other × AreAlike (configuration_by s m (acts.Begin (calls.Realloc a n flags) ∷ rest)) (configuration_by s k (acts.Begin (calls.Realloc a n flags) ∷ others))
    by_front may_move moves b bucket goes =
        let call = calls.Realloc a n flags in
        let i = after s m (by_zero (acts.Begin call)) in
        let j = after s k (by_zero (acts.Begin call)) in
        let h = hints_at_all m b (s.slot 0) in
        let core = begun_same s call m k alike in
        let first = (and_parts (may_follow s m (by_zero (acts.Begin call))) _ x.legal).0 in
        let first_too = (and_parts (may_follow s k (by_zero (acts.Begin call))) _ y.legal).0 in
        let w = begun_within s call m valid from first in
        let v = begun_within s call k valid from_too first_too in
        let d = decided s a n flags i from.idle.hands (sym (moves_at s a n flags i w.keeps) ∙ moves) in
        let front : d.1 ≡ false = sym d.2.is_front ∙ ap (λ (o : Option Place). for_some o is_of_front) (sym (d.2).found ∙ sym (place_among_all s i 0 a w.keeps)) ∙ other_block in
        let block = subst (λ (f : Bool). Block s a n flags (core_of i) d.0 f false) front d.2 in
        let block_too = subst (λ (c : Core). Block s a n flags c d.0 false false) core block in
        let show = answered s a n flags may_move m rest w (begun_whole s call m valid from first) (goes_from s call m reply rest x) d.0 block reply x.gets.shape in
        let show_too = answered s a n flags may_move k others v (begun_whole s call k valid from_too first_too) (goes_from s call k other others y) d.0 block_too other y.gets.shape in
        let goes_too : goes_to_lfh k.state.vs b ≡ true = ap (λ (st : State). goes_to_lfh st.vs b) (sym alike.state) ∙ goes in
        let p = reached s a n flags may_move b bucket h m reply rest d.0 valid from goes refl x under show in
        let q = reached s a n flags may_move b bucket h k other others d.0 valid from_too goes_too (sym (alike.hints b (s.slot 0))) y under_too show_too in
        same s a n flags b bucket h false d.0 i rest (shape_of rest) j others (shape_of others) reply other show show_too p q core alike.hints
        (refused s a n flags may_move b bucket h d.0 i rest (shape_of rest) j others (shape_of others) reply other show show_too p q core alike.hints)
        (outcome s call n b refl bucket h p.at p.within p.whole p.demand p.seeking p.hint_is p.act p.later p.goes p.under p.stops)
        (outcome s call n b refl bucket h q.at q.within q.whole q.demand q.seeking q.hint_is q.act q.later q.goes q.under q.stops)

    by_bucket : flags.in_place ≡ false → for_some (place_at m.state 0 a) (has_to_move s m.state 0 n) ≡ true → (o : Option ℕ) → bucket_of n ≡ o → IsSameReply reply other × AreAlike (configuration_by s m (acts.Begin (calls.Realloc a n flags) ∷ rest)) (configuration_by s k (acts.Begin (calls.Realloc a n flags) ∷ others))
    by_bucket may_move moves None e = reallocation_determined s m k reply other rest others a n flags valid from from_too alike (inr (inr (ap (λ (o : Option ℕ). for_some o (goes_to_lfh m.state.vs)) e))) x y
    by_bucket may_move moves (Some b) e = elim (cases_Bool (goes_to_lfh m.state.vs b)) [
      | inl goes ↦ by_front may_move moves b e goes
      | inr out ↦ reallocation_determined s m k reply other rest others a n flags valid from from_too alike (inr (inr (ap (λ (o : Option ℕ). for_some o (goes_to_lfh m.state.vs)) e ∙ out))) x y
    ]
