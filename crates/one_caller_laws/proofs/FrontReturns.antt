-- A reallocation of a block of the front end that it may serve: a refusal gives the block back, and the law.
use Rattle.std.proofs.Common.{◌≡◌, ℕ, zero, suc, ◌%◌, Bool, true, false, ◌&&◌, List, [], ◌∷◌, Option, Some, None, refl, sym, ap, ◌∙◌, subst, inl, inr}
use Rattle.std.specs.List.{find}
use Rattle.std.proofs.lemmas.Bool.{cases_Bool, and_parts, both_ways, false≢true, true≢false}
use Rattle.heap_model.specs.declared.Act.{Act}
use Rattle.heap_model.specs.declared.Act.TheVariants as acts
use Rattle.heap_model.specs.declared.Call.{Call}
use Rattle.heap_model.specs.declared.Call.TheVariants as calls
use Rattle.heap_model.specs.declared.Flags.{Flags}
use Rattle.heap_model.specs.declared.Layer.TheVariants as layers
use Rattle.heap_model.specs.declared.Reply.{Reply}
use Rattle.heap_model.specs.Buckets.{bucket_of, valid_bits}
use Rattle.heap_model.specs.Bits.{pick}
use Rattle.heap_model.specs.State.{Setting, State, Place, Live, InHand, has_address, place_at, hand_at, is_live_at, is_hand_at, change_found}
use Rattle.heap_model.specs.Stay.{for_some}
use Rattle.heap_model.specs.CallState.{Configuration, Stage, NotBegun, AtHint, FirstPass, SecondPass, Search, caller_view}
use Rattle.heap_model.specs.Search.{SearchKey, has_not_begun, has_to_move, after_pick, onto_span, onto_span_at}
use Rattle.heap_model.specs.Legal.{may_follow, after, goes_to_lfh, layer_of, with_status, may_touch, suits}
use Rattle.heap_model.specs.Alone.{by_zero, configuration_by}
use Rattle.heap_model.specs.Shape.{shape_of, is_of_front}
use Rattle.heap_model.proofs.GateSound.{row_of}
use Rattle.heap_model.proofs.ListLemmas.{for_some_parts}
use Rattle.heap_soundness.specs.Invariant.{Keeps}
use Rattle.heap_soundness.proofs.Addresses.{place_among_all, addresses_sound}
use Rattle.one_caller_laws.specs.OneCall.{AreAlike, IsSameReply}
use Rattle.one_caller_laws.specs.UnderBack.{place_under_back, is_under_back, IsDeterminedUnderBack}
use Rattle.one_caller_laws.proofs.Core.{Core, core_of, places_in_core}
use Rattle.one_caller_laws.proofs.InCall.{InCall, IsWhole, is_shown}
use Rattle.one_caller_laws.proofs.Reach.{Goes, goes_after, may_first, shown_place, shown_cases, is_place}
use Rattle.one_caller_laws.proofs.Pair.{begun_within, begun_whole, begun_same, goes_from, within_next, HintsAlike}
use Rattle.one_caller_laws.proofs.Asks.{same_reply, alike_at}
use Rattle.one_caller_laws.proofs.Freeing.{hand_of, whole_restatused}
use Rattle.one_caller_laws.proofs.Expected.{Path, key_in, stepped, base, lit, path_base, is_of_search}
use Rattle.one_caller_laws.proofs.Turns.{Seeking, HintIs}
use Rattle.one_caller_laws.proofs.Sought.{seek}
use Rattle.one_caller_laws.proofs.FrontEnds.{hints_at_all}
use Rattle.one_caller_laws.proofs.Stops.{outcome}
use Rattle.one_caller_laws.proofs.Refusals.{trail, ends_by_base}
use Rattle.one_caller_laws.proofs.Blocks.{Block, moves_at, front_layer, found_or}
use Rattle.one_caller_laws.proofs.Stays.{live_there}
use Rattle.one_caller_laws.proofs.Carried.{taken_core}
use Rattle.one_caller_laws.proofs.Befores.{decided}
use Rattle.one_caller_laws.proofs.Reallocs.{reallocation_determined}
use Rattle.one_caller_laws.proofs.FrontMoves.{Away, To, Nowhere_else, Reached, same_base, same}
use Rattle.one_caller_laws.proofs.FrontAnswers.{begun_seeking, move_under_back}
use Rattle.one_caller_laws.proofs.Amid.{lfh_core, starts_same, seeking_same, path_places, restatused_lfh}
use Rattle.one_caller_laws.proofs.FrontBlocks.{shows_front, reached_front}

---- What a search keeps

module _ (s : Setting) (b : ℕ) (h : Option ℕ) where
  step_active : (c : Core) (act : Act) → is_of_search act ≡ true → (stepped s b c act).vs.active b ≡ c.vs.active b
  step_active c (acts.Saw head word bits) e = refl
  step_active c (acts.NoHint q slot) e = refl
  step_active c (acts.NoSpan q) e = refl
  step_active c _ e = absurd (false≢true e)

  kept : (g : SearchKey) (f : Search) (word : ℕ) (r : Option ℕ) → (after_pick g f word r).stage ≡ f.stage
  kept g f word None = refl
  kept g f word (Some i) = refl

  onto_begun : (f : Search) (head : ℕ) (t : Stage) (e : Bool) → f.stage ≡ t → has_not_begun t ≡ false → has_not_begun (onto_span_at f head t e).stage ≡ false
  onto_begun f head NotBegun e st x = absurd (true≢false x)
  onto_begun f head AtHint true st x = refl
  onto_begun f head FirstPass true st x = ap has_not_begun st
  onto_begun f head SecondPass true st x = ap has_not_begun st
  onto_begun f head AtHint false st x = ap has_not_begun st
  onto_begun f head FirstPass false st x = ap has_not_begun st
  onto_begun f head SecondPass false st x = ap has_not_begun st

  step_begun : (c : Core) (act : Act) → is_of_search act ≡ true → has_not_begun c.search.stage ≡ false → has_not_begun (stepped s b c act).search.stage ≡ false
  step_begun c (acts.Saw head word bits) e x = ap has_not_begun (kept (key_in s c b) (onto_span c.search head) word (pick bits (valid_bits b word) ((key_in s c b).draw % 64))) ∙ onto_begun c.search head c.search.stage c.search.ended refl x
  step_begun c (acts.NoHint q slot) e x = refl
  step_begun c (acts.NoSpan q) e x = refl
  step_begun c _ e x = absurd (false≢true e)

  path_kept : (k : ℕ) (c d : Core) → Path s b h k c d → c.vs.active b ≡ true → has_not_begun c.search.stage ≡ false → (d.vs.active b ≡ true) × (has_not_begun d.search.stage ≡ false)
  path_kept zero c d p on x = (ap (λ (y : Core). y.vs.active b) (sym p) ∙ on, ap (λ (y : Core). has_not_begun y.search.stage) (sym p) ∙ x)
  path_kept (suc k) c d p on x = elim p.2 [
    | inl t ↦ absurd (both_ways (c.vs.active b) t.1 on)
    | inr t ↦ path_kept k (stepped s b c p.0) d p.3 (step_active c p.0 t.0 ∙ on) (step_begun c p.0 t.0 x)
  ]

module _ (s : Setting) (a n : ℕ) (flags : Flags) where
  abbrev call : Call
  call = calls.Realloc a n flags

  first_is : (m : Configuration) (act other : Act) (later t : List Act) → Goes s m (act ∷ later) → is_shown act ≡ true → is_place other ≡ false → shape_of (act ∷ later) ≡ other ∷ t → (act ≡ other) × (shape_of later ≡ t)
  first_is m act other later t g shown place e = elim (shown_cases act shown) [
    | inl maker ↦
        let p = shown_place s m act later g maker in
        let z : acts.Place p.0 p.1 p.2 ∷ p.3 ≡ other ∷ t = sym p.4 ∙ e in
        let same : acts.Place p.0 p.1 p.2 ≡ other = cc in
        absurd (true≢false (ap is_place same ∙ place))
    | inr out ↦
        let z : act ∷ shape_of later ≡ other ∷ t = rw out at e in
        let same : act ≡ other = cc in
        let more : shape_of later ≡ t = cc in
        (same, more)
  ]

  hand_is : (m : Configuration) (size : ℕ) (q : Place) → Keeps s m → find (has_address a) (places_in_core (core_of m)) ≡ Some q → q.layer ≡ layers.Lfh → may_follow s m (by_zero (acts.Give a size)) ≡ true → layer_of (hand_of (core_of m) a) ≡ Some layers.Lfh
  hand_is m size q w f l h =
      let v = caller_view m 0 in
      let r = (and_parts v.entered (for_some (hand_at m.state 0 a) (λ p. may_touch v p.layer && suits size p)) (row_of s m (by_zero (acts.Give a size)) h)).1 in
      let p = for_some_parts (hand_at m.state 0 a) (λ p. may_touch v p.layer && suits size p) r in
      let z : Some p.0 ≡ Some q = sym ((addresses_sound s m w).hand 0 a p.0 p.1) ∙ place_among_all s m 0 a w ∙ f in
      let same : p.0 ≡ q = cc in
      ap layer_of p.1 ∙ ap Some (ap (λ (x : Place). x.layer) same ∙ l)

  -- with the block given back
  abbrev given_core : ℕ → Core → Core
  given_core size c = lfh_core c (change_found (is_hand_at 0 a) (with_status (Live size)) c.lfh)

  module _ (b : ℕ) (bucket : bucket_of n ≡ Some b) (h : Option ℕ) where
    record Returned (size : ℕ) (m : Configuration) (rest : List Act) : Type 0 where
      pub within : InCall s call (configuration_by s m rest)
      pub base_is : base (core_of (configuration_by s m rest)) ≡ given_core size (base (core_of m))
      pub hints : HintsAlike (configuration_by s m rest) m
      pub begun : has_not_begun ((configuration_by s m rest).now.calls 0).search.stage ≡ false

    returned : (size : ℕ) (m : Configuration) (later : List Act) (q : Place) → InCall s call m → IsWhole (core_of m) → Seeking s b h (core_of m) → HintIs s call n b refl bucket h m → m.state.vs.active b ≡ true → has_not_begun (m.now.calls 0).search.stage ≡ false →
        Goes s m (acts.NoFit n ∷ later) → place_under_back s m (acts.NoFit n ∷ later) ≡ true → shape_of later ≡ acts.Give a size ∷ [] → find (has_address a) (places_in_core (core_of m)) ≡ Some q → q.layer ≡ layers.Lfh → Returned size m (acts.NoFit n ∷ later)
    returned size m later q w whole seeking hint_is on begun g under shape f l =
        let act = acts.Give a size in
        let to = after s m (by_zero (acts.NoFit n)) in
        let z = seek s call n b refl bucket refl h to later (within_next s call m (acts.NoFit n) later w g) whole refl seeking hint_is (goes_after s m (acts.NoFit n) later g) (and_parts (is_under_back m (acts.NoFit n)) (place_under_back s to later) under).1
        (record { act = act; later = []; is = shape }) in
        let e = first_is z.at z.act act z.later [] z.goes z.stops refl (sym z.shape ∙ shape) in
        let goes = subst (λ (c : Act). Goes s z.at (c ∷ z.later)) e.0 z.goes in
        let j = after s z.at (by_zero act) in
        let c1 = core_of z.at in
        let f1 : find (has_address a) (places_in_core (core_of z.at)) ≡ Some q = ap (λ (ps : List Place). find (has_address a) ps) (path_places s b h z.steps (core_of m) c1 z.path) ∙ f in
        let o = hand_is z.at size q z.within.keeps f1 l (may_first s z.at act z.later goes) in
        let c2_is : core_of j ≡ given_core size (core_of z.at) = restatused_lfh c1 (layer_of (hand_of c1 a)) (is_hand_at 0 a) (Live size) o in
        let seeking2 : Seeking s b h (core_of j) = subst (Seeking s b h) (sym c2_is) (seeking_same s b h c1 _ (starts_same (is_hand_at 0 a) (Live size) c1.lfh) z.seeking) in
        let k = path_kept s b h z.steps (core_of m) c1 z.path on begun in
        let v = trail s call n b refl bucket refl h j z.later (within_next s call z.at act z.later z.within goes) (whole_restatused c1 (layer_of (hand_of c1 a)) (is_hand_at 0 a) (Live size) z.whole) refl seeking2 z.hint_is
        (ap (λ (c : Core). c.vs.active b) c2_is ∙ k.0) (ap (λ (c : Core). has_not_begun c.search.stage) c2_is ∙ k.1) (goes_after s z.at act z.later goes) e.1 in
        let end : configuration_by s m (acts.NoFit n ∷ later) ≡ configuration_by s j z.later = z.ends ∙ ap (λ (c : Act). configuration_by s z.at (c ∷ z.later)) e.0 in
        let bases : base c1 ≡ base (core_of m) = path_base s b h z.steps (core_of m) c1 z.path k.0 ∙ ap (lit b (core_of m)) on in
        record {
          within = subst (InCall s call) (sym end) v.within;
          base_is = ap (λ (c : Configuration). base (core_of c)) end ∙ v.base_is ∙ ap base c2_is ∙ ap (given_core size) bases;
          hints = λ i t. ap (λ (c : Configuration). hints_at_all c i t) end ∙ v.hints i t ∙ z.hints i t;
          begun = ap (λ (c : Configuration). has_not_begun (c.now.calls 0).search.stage) end ∙ v.begun;
        }

    module _ (size : ℕ) (m : Configuration) (rest t : List Act) (k : Configuration) (others u : List Act) (reply other : Reply) (show : Away s a n flags true size reply t) (show_too : Away s a n flags true size other u)
        (x : Reached s a n flags b bucket h true m rest t) (y : Reached s a n flags b bucket h true k others u) (core : core_of m ≡ core_of k) (hints : HintsAlike m k) (block : Block s a n flags (core_of m) size true false) where
      refused : (later later_too : List Act) → x.act ∷ x.later ≡ acts.NoFit n ∷ later → y.act ∷ y.later ≡ acts.NoFit n ∷ later_too → x.at.state.vs.active b ≡ true → has_not_begun (x.at.now.calls 0).search.stage ≡ false →
          y.at.state.vs.active b ≡ true → has_not_begun (y.at.now.calls 0).search.stage ≡ false → IsSameReply reply other × AreAlike (configuration_by s m rest) (configuration_by s k others)
      refused later later_too e f active begun active_too begun_too = by_shown show show_too
        where
          g : Goes s x.at (acts.NoFit n ∷ later)
          g = subst (Goes s x.at) e x.goes

          j : Goes s y.at (acts.NoFit n ∷ later_too)
          j = subst (Goes s y.at) f y.goes

          by_shown : Away s a n flags true size reply t → Away s a n flags true size other u → IsSameReply reply other × AreAlike (configuration_by s m rest) (configuration_by s k others)
          by_shown (Nowhere_else e1 h1) (Nowhere_else e2 h2) =
              let q : acts.NoFit n ∷ acts.Give a size ∷ [] ≡ acts.NoFit n ∷ shape_of later = sym h1 ∙ sym x.shape ∙ ap shape_of e in
              let r : acts.NoFit n ∷ acts.Give a size ∷ [] ≡ acts.NoFit n ∷ shape_of later_too = sym h2 ∙ sym y.shape ∙ ap shape_of f in
              let more : acts.Give a size ∷ [] ≡ shape_of later = cc q in
              let more_too : acts.Give a size ∷ [] ≡ shape_of later_too = cc r in
              let front = front_layer block.place block.is_front in
              let there = found_or a (is_live_at a) (with_status (InHand 0)) (live_there a) (λ p. refl) (core_of m) (layer_of (find (has_address a) (places_in_core (core_of m)))) block.place block.found in
              let layer : there.0.layer ≡ layers.Lfh = elim there.2 [ inl i ↦ ap (λ (z : Place). z.layer) i ∙ front | inr i ↦ ap (λ (z : Place). z.layer) i ∙ front ] in
              let at : find (has_address a) (places_in_core (core_of x.at)) ≡ Some there.0 = ap (λ (ps : List Place). find (has_address a) ps) (path_places s b h x.steps (taken_core a (core_of m)) (core_of x.at) x.path) ∙ there.1 in
              let at_too : find (has_address a) (places_in_core (core_of y.at)) ≡ Some there.0 = ap (λ (ps : List Place). find (has_address a) ps) (path_places s b h y.steps (taken_core a (core_of k)) (core_of y.at) y.path ∙ ap (λ (c : Core). places_in_core (taken_core a c)) (sym core)) ∙ there.1 in
              let v = returned size x.at later there.0 x.within x.whole x.seeking x.hint_is active begun g (subst (λ (l : List Act). place_under_back s x.at l ≡ true) e x.under) (sym more) at layer in
              let v_too = returned size y.at later_too there.0 y.within y.whole y.seeking y.hint_is active_too begun_too j (subst (λ (l : List Act). place_under_back s y.at l ≡ true) f y.under) (sym more_too) at_too layer in
              let both = same_base s a n flags b bucket h true size m rest t k others u reply other show show_too x y core hints active active_too in
              let hs : HintsAlike x.at y.at = λ p q. x.hints p q ∙ hints p q ∙ sym (y.hints p q) in
              let z = ends_by_base s call _ _ v.within v_too.within g.idle j.idle (v.base_is ∙ ap (given_core size) both ∙ sym v_too.base_is) v.begun v_too.begun (λ p q. v.hints p q ∙ hs p q ∙ sym (v_too.hints p q)) in (
                same_reply reply other (e1 ∙ sym e2),
                alike_at _ _ _ _ (x.ends ∙ ap (configuration_by s x.at) e) (y.ends ∙ ap (configuration_by s y.at) f) z,
              )
          by_shown (To b1 st1 gr1 ly1 vs1 e1 f1 c1 h1) z = absurd (let q = sym h1 ∙ sym x.shape ∙ ap shape_of e in let bad : ⊥ = cc q in bad)
          by_shown (Nowhere_else e1 h1) (To b1 st1 gr1 ly1 vs1 e2 f2 c2 h2) = absurd (let q = sym h2 ∙ sym y.shape ∙ ap shape_of f in let bad : ⊥ = cc q in bad)

-- to whatever size, and whatever block
pub reallocation_under_back : (a n : ℕ) (flags : Flags) → IsDeterminedUnderBack (calls.Realloc a n flags)
reallocation_under_back a n flags s m k reply other rest others valid from from_too alike x y under under_too = elim (cases_Bool (for_some (place_at m.state 0 a) is_of_front)) [
  | inr out ↦ move_under_back s m k reply other rest others a n flags valid from from_too alike out x y under under_too
  | inl is_front ↦ elim (cases_Bool flags.in_place) [
    | inl only ↦ reallocation_determined s m k reply other rest others a n flags valid from from_too alike (inl only) x y
    | inr may_move ↦ elim (cases_Bool (for_some (place_at m.state 0 a) (has_to_move s m.state 0 n))) [
      | inr stays ↦ reallocation_determined s m k reply other rest others a n flags valid from from_too alike (inr (inl stays)) x y
      | inl moves ↦ by_bucket is_front may_move moves (bucket_of n) refl
    ]
  ]
]
  where
    by_front : for_some (place_at m.state 0 a) is_of_front ≡ true → flags.in_place ≡ false → for_some (place_at m.state 0 a) (has_to_move s m.state 0 n) ≡ true → (b : ℕ) → bucket_of n ≡ Some b → goes_to_lfh m.state.vs b ≡ true →
        IsSameReply reply other × AreAlike (configuration_by s m (acts.Begin (calls.Realloc a n flags) ∷ rest)) (configuration_by s k (acts.Begin (calls.Realloc a n flags) ∷ others))
    by_front is_front may_move moves b bucket goes =
        let call = calls.Realloc a n flags in
        let act = acts.Begin call in
        let i = after s m (by_zero act) in
        let j = after s k (by_zero act) in
        let h = hints_at_all m b (s.slot 0) in
        let core = begun_same s call m k alike in
        let first = (and_parts (may_follow s m (by_zero act)) _ x.legal).0 in
        let first_too = (and_parts (may_follow s k (by_zero act)) _ y.legal).0 in
        let w = begun_within s call m valid from first in
        let v = begun_within s call k valid from_too first_too in
        let whole = begun_whole s call m valid from first in
        let whole_too = begun_whole s call k valid from_too first_too in
        let g = goes_from s call m reply rest x in
        let g_too = goes_from s call k other others y in
        let d = decided s a n flags i from.idle.hands (sym (moves_at s a n flags i w.keeps) ∙ moves) in
        let front : d.1 ≡ true = sym d.2.is_front ∙ ap (λ (o : Option Place). for_some o is_of_front) (sym (d.2).found ∙ sym (place_among_all s i 0 a w.keeps)) ∙ is_front in
        let block = subst (λ (f : Bool). Block s a n flags (core_of i) d.0 f false) front d.2 in
        let block_too = subst (λ (c : Core). Block s a n flags c d.0 true false) core block in
        let show = shows_front s a n flags may_move m rest w whole g d.0 block reply x.gets.shape in
        let show_too = shows_front s a n flags may_move k others v whole_too g_too d.0 block_too other y.gets.shape in
        let goes_too : goes_to_lfh k.state.vs b ≡ true = ap (λ (st : State). goes_to_lfh st.vs b) (sym alike.state) ∙ goes in
        let p = reached_front s a n flags b bucket h i reply rest d.0 w whole refl (begun_seeking s a n flags may_move b bucket m h goes) refl g (and_parts (is_under_back m act) (place_under_back s i rest) under).1 block show in
        let q = reached_front s a n flags b bucket h j other others d.0 v whole_too refl (begun_seeking s a n flags may_move b bucket k h goes_too) (sym (alike.hints b (s.slot 0))) g_too (and_parts (is_under_back k act) (place_under_back s j others) under_too).1 block_too show_too in
        same s a n flags b bucket h true d.0 i rest show.behind j others show_too.behind reply other show.away show_too.away p q core alike.hints
        (refused s a n flags b bucket h d.0 i rest show.behind j others show_too.behind reply other show.away show_too.away p q core alike.hints block)
        (outcome s call n b refl bucket h p.at p.within p.whole p.demand p.seeking p.hint_is p.act p.later p.goes p.under p.stops)
        (outcome s call n b refl bucket h q.at q.within q.whole q.demand q.seeking q.hint_is q.act q.later q.goes q.under q.stops)

    by_bucket : for_some (place_at m.state 0 a) is_of_front ≡ true → flags.in_place ≡ false → for_some (place_at m.state 0 a) (has_to_move s m.state 0 n) ≡ true → (o : Option ℕ) → bucket_of n ≡ o →
        IsSameReply reply other × AreAlike (configuration_by s m (acts.Begin (calls.Realloc a n flags) ∷ rest)) (configuration_by s k (acts.Begin (calls.Realloc a n flags) ∷ others))
    by_bucket is_front may_move moves None e = reallocation_determined s m k reply other rest others a n flags valid from from_too alike (inr (inr (ap (λ (o : Option ℕ). for_some o (goes_to_lfh m.state.vs)) e))) x y
    by_bucket is_front may_move moves (Some b) e = elim (cases_Bool (goes_to_lfh m.state.vs b)) [
      | inl goes ↦ by_front is_front may_move moves b e goes
      | inr out ↦ reallocation_determined s m k reply other rest others a n flags valid from from_too alike (inr (inr (ap (λ (o : Option ℕ). for_some o (goes_to_lfh m.state.vs)) e ∙ out))) x y
    ]
