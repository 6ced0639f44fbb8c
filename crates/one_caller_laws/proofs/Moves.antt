-- A reallocation whose block moves to a place in which the front end has no part, or is refused, in both of two calls.
use Rattle.std.proofs.Common.{◌≡◌, ℕ, ◌/◌, Bool, true, false, ◌&&◌, List, [], ◌∷◌, ◌++◌, length, Option, Some, refl, sym, ap, ◌∙◌, subst, inl, inr}
use Rattle.std.specs.Prelude.{min}
use Rattle.std.specs.List.{find}
use Rattle.std.proofs.lemmas.Bool.{and_parts}
use Rattle.heap_model.specs.declared.Act.{Act}
use Rattle.heap_model.specs.declared.Act.TheVariants as acts
use Rattle.heap_model.specs.declared.Call.{Call}
use Rattle.heap_model.specs.declared.Call.TheVariants as calls
use Rattle.heap_model.specs.declared.Flags.{Flags}
use Rattle.heap_model.specs.declared.Layer.{Layer}
use Rattle.heap_model.specs.declared.Layer.TheVariants as layers
use Rattle.heap_model.specs.Geometry.{words_of}
use Rattle.heap_model.specs.Buckets.{bucket_of}
use Rattle.heap_model.specs.State.{Setting, VsPart, Place, Live, InHand, is_live_at, is_hand_at, has_address, address, hand_at, change_found}
use Rattle.heap_model.specs.Stay.{for_some}
use Rattle.heap_model.specs.CallState.{Configuration, Nothing, caller_view}
use Rattle.heap_model.specs.Search.{hint}
use Rattle.heap_model.specs.Legal.{may_follow, after, goes_to_lfh, layer_of, with_status, may_touch, suits}
use Rattle.heap_model.specs.Alone.{by_zero, configuration_by}
use Rattle.heap_model.specs.Shape.{shape_of, zeroing_more, moving}
use Rattle.heap_model.proofs.GateSound.{row_of}
use Rattle.heap_model.proofs.ListLemmas.{for_some_parts}
use Rattle.heap_soundness.specs.Invariant.{Keeps}
use Rattle.heap_soundness.proofs.Addresses.{place_among_all, addresses_sound}
use Rattle.one_caller_laws.specs.OneCall.{AreAlike}
use Rattle.one_caller_laws.proofs.Core.{Core, core_of, places_in_core}
use Rattle.one_caller_laws.proofs.InCall.{InCall, IsWhole}
use Rattle.one_caller_laws.proofs.Reach.{Calm, Goes, to_shown, goes_after, may_first}
use Rattle.one_caller_laws.proofs.Pair.{within_next, none_placed, HintsAlike}
use Rattle.one_caller_laws.proofs.Duo.{Duo, duo_at, duo_end, duo_look, hints_at}
use Rattle.one_caller_laws.proofs.Asks.{alike_at}
use Rattle.one_caller_laws.proofs.Words.{duo_step}
use Rattle.one_caller_laws.proofs.Freeing.{changed_core, hand_of, whole_restatused}
use Rattle.one_caller_laws.proofs.Sites.{Site, Why, WhyNot, one_site}
use Rattle.one_caller_laws.proofs.Makes.{made, sited}
use Rattle.one_caller_laws.proofs.Placing.{why_not, to_place}
use Rattle.one_caller_laws.proofs.Blocks.{Block, none_by, others_none, front_layer, found_or}
use Rattle.one_caller_laws.proofs.Stays.{live_there}
use Rattle.one_caller_laws.proofs.Carried.{AreWords, words_by, Reads, copied, copying_is, are_moved, are_words_split, worded, taken_core, core_taken, calm_taken, carried, duo_gone}

pub append_three : (xs ys zs : List Act) → (xs ++ ys) ++ zs ≡ xs ++ (ys ++ zs)
append_three [] ys zs = refl
append_three (x ∷ xs) ys zs = ap (λ (l : List Act). x ∷ l) (append_three xs ys zs)

-- A block of the front end is in hand before the place is made.
abbrev pub base_core : Bool → ℕ → Core → Core
base_core true a c = taken_core a c
base_core false a c = c

-- The words are there behind the place, and the old block is in hand.
abbrev pub held_core : Bool → ℕ → Core → (ℕ → ℕ) → Core
held_core true a d w = record d { words = w }
held_core false a d w = record (taken_core a d) { words = w }

held_placed : (front : Bool) (a : ℕ) (d : Core) (w : ℕ → ℕ) → d.placed ≡ true → (held_core front a d w).placed ≡ true
held_placed true a d w p = p
held_placed false a d w p = p

abbrev pub hints_in : Configuration → ℕ → ℕ → Option ℕ
hints_in m b t = hint m.state.back.area m.now.span_history b t

module _ (s : Setting) (a n : ℕ) (flags : Flags) where
  abbrev call : Call
  call = calls.Realloc a n flags

  -- the front end has no part in the new size
  abbrev pub IsOut : Core → Type 0
  IsOut c = for_some (bucket_of n) (goes_to_lfh c.vs) ≡ false

  -- the words of the new block
  abbrev words_at : ℕ → ℕ → (ℕ → ℕ) → ℕ → ℕ
  words_at size b w = words_by (zeroing_more flags.zero b size n) (copied (a / 8) (b / 8) (words_of (min size n)) w)

  words_are : (size b : ℕ) (values : List ℕ) (w : ℕ → ℕ) → length values ≡ words_of (min size n) → Reads (moving a size b n flags.zero values) w → words_by (moving a size b n flags.zero values) w ≡ words_at size b w
  words_are size b values w e r =
      copying_is (a / 8) (b / 8) values (zeroing_more flags.zero b size n) w r
      ∙ ap (λ (k : ℕ). words_by (zeroing_more flags.zero b size n) (copied (a / 8) (b / 8) k w)) e

  ---- A place, whoever makes it

  -- the call has a place in hand, and these are its core and its hints
  pub record Placed (m : Configuration) (rest : List Act) (start granules : ℕ) (layer : Layer) (d : Core) (H : ℕ → ℕ → Option ℕ) : Type 0 where
    pub at : Configuration
    pub later : List Act
    pub within : InCall s call at
    pub core : core_of at ≡ d
    pub whole : IsWhole (core_of at)
    pub demand : at.now.demand ≡ Nothing
    pub hints : (b t : ℕ) → hints_in at b t ≡ H b t
    pub goes : Goes s at later
    pub shape : shape_of rest ≡ acts.Place start granules layer ∷ shape_of later
    pub ends : configuration_by s m rest ≡ configuration_by s at later

  calm_placed : (m : Configuration) (rest : List Act) (start granules : ℕ) (layer : Layer) (d : Core) (H : ℕ → ℕ → Option ℕ) (x : Placed m rest start granules layer d H) → d.placed ≡ true → Calm s call x.at
  calm_placed m rest start granules layer d H x p = record { within = x.within; whole = x.whole; none = none_placed s x.at (ap (λ (c : Core). c.placed) x.core ∙ p); plain = refl; demand = x.demand }

  shape_placed : (m : Configuration) (rest : List Act) (start granules : ℕ) (layer : Layer) (d : Core) (H : ℕ → ℕ → Option ℕ) (t : List Act) (x : Placed m rest start granules layer d H) → shape_of rest ≡ acts.Place start granules layer ∷ t → shape_of x.later ≡ t
  shape_placed m rest start granules layer d H t x e =
      let h : acts.Place start granules layer ∷ t ≡ acts.Place start granules layer ∷ shape_of x.later = sym e ∙ x.shape in
      let more : t ≡ shape_of x.later = cc in
      sym more

  -- .. and then its words, and the old block too; the new one is given next
  pub record Carries (m : Configuration) (rest : List Act) (front : Bool) (size b : ℕ) (d : Core) (H : ℕ → ℕ → Option ℕ) : Type 0 where
    pub at : Configuration
    pub later : List Act
    pub calm : Calm s call at
    pub goes : Goes s at later
    pub core : core_of at ≡ held_core front a d (words_at size b d.words)
    pub hints : (i j : ℕ) → hints_in at i j ≡ H i j
    pub shape : shape_of later ≡ acts.Give b n ∷ acts.Drop a ∷ []
    pub ends : configuration_by s m rest ≡ configuration_by s at later

  -- where the old block was taken before
  pub carries_front : (m : Configuration) (rest : List Act) (start granules : ℕ) (layer : Layer) (d : Core) (H : ℕ → ℕ → Option ℕ) (size b : ℕ) (values : List ℕ) → Placed m rest start granules layer d H → d.placed ≡ true → length values ≡ words_of (min size n) →
      shape_of rest ≡ acts.Place start granules layer ∷ (moving a size b n flags.zero values ++ acts.Give b n ∷ acts.Drop a ∷ []) → Carries m rest true size b d H
  carries_front m rest start granules layer d H size b values y p count e =
      let ws = moving a size b n flags.zero values in
      let t = acts.Give b n ∷ acts.Drop a ∷ [] in
      let z = worded s call ws y.at y.later t (are_moved a size b n flags.zero values) (ap (λ (c : Core). c.placed) y.core ∙ p) (calm_placed m rest start granules layer d H y p) y.goes (shape_placed m rest start granules layer d H (ws ++ t) y e) in
      let words : words_by ws d.words ≡ words_at size b d.words = words_are size b values d.words count (subst (λ (c : Core). Reads ws c.words) y.core z.reads) in
      record {
        at = z.at;
        later = z.later;
        calm = z.calm;
        goes = z.goes;
        core = z.core ∙ ap (λ (c : Core). record c { words = words_by ws c.words }) y.core ∙ ap (λ (w : ℕ → ℕ). held_core true a d w) words;
        hints = λ i j. z.hints i j ∙ y.hints i j;
        shape = z.shape;
        ends = y.ends ∙ z.ends;
      }

  -- .. or amid the words
  pub carries_behind : (m : Configuration) (rest : List Act) (start granules : ℕ) (layer : Layer) (d : Core) (H : ℕ → ℕ → Option ℕ) (size b : ℕ) (values : List ℕ) (first more : List Act) → Placed m rest start granules layer d H → d.placed ≡ true →
      length values ≡ words_of (min size n) → moving a size b n flags.zero values ≡ first ++ more →
      shape_of rest ≡ acts.Place start granules layer ∷ ((first ++ acts.Take a size ∷ more) ++ acts.Give b n ∷ acts.Drop a ∷ []) → Carries m rest false size b d H
  carries_behind m rest start granules layer d H size b values first more y p count split e =
      let ws = moving a size b n flags.zero values in
      let t = acts.Give b n ∷ acts.Drop a ∷ [] in
      let are = are_words_split first more (subst AreWords split (are_moved a size b n flags.zero values)) in
      let e2 = e ∙ ap (λ (l : List Act). acts.Place start granules layer ∷ l) (append_three first (acts.Take a size ∷ more) t) in
      let z = carried s call first more y.at y.later t a size are.0 are.1 (ap (λ (c : Core). c.placed) y.core ∙ p) (calm_placed m rest start granules layer d H y p) y.goes (shape_placed m rest start granules layer d H (first ++ acts.Take a size ∷ (more ++ t)) y e2) in
      let reads : Reads ws d.words = subst (λ (l : List Act). Reads l d.words) (sym split) (subst (λ (c : Core). Reads (first ++ more) c.words) y.core z.reads) in
      let words : words_by (first ++ more) d.words ≡ words_at size b d.words = ap (λ (l : List Act). words_by l d.words) (sym split) ∙ words_are size b values d.words count reads in
      record {
        at = z.at;
        later = z.later;
        calm = z.calm;
        goes = z.goes;
        core = z.core ∙ ap (λ (c : Core). record (taken_core a c) { words = words_by (first ++ more) c.words }) y.core ∙ ap (λ (w : ℕ → ℕ). held_core false a d w) words;
        hints = λ i j. z.hints i j ∙ y.hints i j;
        shape = z.shape;
        ends = y.ends ∙ z.ends;
      }

  -- two that have one place in hand, in one heap, end alike: however it was made
  pub both_carried : (m : Configuration) (rest : List Act) (k : Configuration) (others : List Act) (front : Bool) (size b c : ℕ) (d e : Core) (H K : ℕ → ℕ → Option ℕ) → Carries m rest front size b d H → Carries k others front size c e K →
      b ≡ c → d ≡ e → ((i j : ℕ) → H i j ≡ K i j) → d.placed ≡ true → AreAlike (configuration_by s m rest) (configuration_by s k others)
  both_carried m rest k others front size b c d e H K x y at core hints p =
      let same : core_of x.at ≡ core_of y.at = x.core ∙ (λ i. held_core front a (core i) (words_at size (at i) (core i).words)) ∙ sym y.core in
      let duo : Duo s call x.at x.later y.at y.later = record { calm = x.calm; calm_too = y.calm; goes = x.goes; goes_too = y.goes; core = same; hints = λ i j. x.hints i j ∙ hints i j ∙ sym (y.hints i j) } in
      let q : (x.at.now.calls 0).placed ≡ true = ap (λ (d : Core). d.placed) x.core ∙ held_placed front a d (words_at size b d.words) p in
      alike_at _ _ _ _ x.ends y.ends (duo_gone s call b n a x.at x.later y.at y.later q duo x.shape (y.shape ∙ ap (λ (z : ℕ). acts.Give z n ∷ acts.Drop a ∷ []) (sym at)))

  ---- A place that the front end does not make

  pub record Put (m : Configuration) (rest : List Act) (start granules : ℕ) (layer : Layer) : Type 0 where
    pub site : Site
    pub why : Why s (core_of m) n site
    pub start_is : start ≡ site.start
    pub layer_is : layer ≡ site.layer
    pub placed : Placed m rest start granules layer (sited (core_of m) site) (hints_in m)

  pub put : (m : Configuration) (rest : List Act) (start granules : ℕ) (layer : Layer) (t : List Act) → Calm s call m → Goes s m rest → IsOut (core_of m) → shape_of rest ≡ acts.Place start granules layer ∷ t → Put m rest start granules layer
  put m rest start granules layer t c g out e =
      let x = to_place s call n refl m rest start granules layer t c g (λ k w v. none_by s a n flags k w (others_none s a n flags (core_of k) (ap (λ (u : VsPart). for_some (bucket_of n) (goes_to_lfh u)) v ∙ out))) e in
      let h : acts.Place start granules layer ∷ t ≡ acts.Place x.site.start x.site.granules x.site.layer ∷ shape_of x.later = sym e ∙ x.shape in
      let s1 : start ≡ x.site.start = cc in
      let s2 : granules ≡ x.site.granules = cc in
      let s3 : layer ≡ x.site.layer = cc in
      record {
        site = x.site;
        why = x.why;
        start_is = s1;
        layer_is = s3;
        placed = record {
          at = x.at;
          later = x.later;
          within = x.within;
          core = x.core;
          whole = x.whole;
          demand = x.demand;
          hints = x.hints;
          goes = x.goes;
          shape = x.shape ∙ (λ i. acts.Place (sym s1 i) (sym s2 i) (sym s3 i) ∷ shape_of x.later);
          ends = x.ends;
        };
      }

  ---- A block of the front end is taken before

  taken_out : (c : Core) (size : ℕ) (stays : Bool) → Block s a n flags c size true stays → IsOut c → IsOut (taken_core a c)
  taken_out c size stays x out =
      ap (λ (o : Option Layer). for_some (bucket_of n) (goes_to_lfh (changed_core c o (change_found (is_live_at a) (with_status (InHand 0)))).vs)) (ap layer_of x.found ∙ ap Some (front_layer x.place x.is_front)) ∙ out

  record Took (m : Configuration) (rest t : List Act) : Type 0 where
    pub at : Configuration
    pub later : List Act
    pub calm : Calm s call at
    pub goes : Goes s at later
    pub core : core_of at ≡ taken_core a (core_of m)
    pub hints : HintsAlike at m
    pub shape : shape_of later ≡ t
    pub ends : configuration_by s m rest ≡ configuration_by s at later

  took : (m : Configuration) (rest : List Act) (size : ℕ) (stays : Bool) (t : List Act) → Calm s call m → Goes s m rest → Block s a n flags (core_of m) size true stays → IsOut (core_of m) → shape_of rest ≡ acts.Take a size ∷ t → Took m rest t
  took m rest size stays t c g b out e =
      let act = acts.Take a size in
      let x = to_shown s call m rest act t c g e refl in
      let k = after s x.at (by_zero act) in
      let to : core_of k ≡ taken_core a (core_of m) = core_taken s x.at a size x.calm.within.keeps ∙ ap (taken_core a) x.core in
      let out2 : IsOut (core_of k) = subst IsOut (sym to) (taken_out (core_of m) size stays b out) in
      record {
        at = k;
        later = x.later;
        calm = calm_taken s call x.at a size x.later x.calm x.goes (none_by s a n flags k (within_next s call x.at act x.later x.calm.within x.goes) (others_none s a n flags (core_of k) out2));
        goes = goes_after s x.at act x.later x.goes;
        core = to;
        hints = hints_at x.at m x.core x.hints;
        shape = x.shape;
        ends = x.ends;
      }

  ---- What is there when the new block is given

  pub record Held (m : Configuration) (rest : List Act) (front : Bool) (size b : ℕ) : Type 0 where
    pub site : Site
    pub why : Why s (base_core front a (core_of m)) n site
    pub address_is : address (made site.start site.granules site.layer) ≡ b
    pub from : Configuration
    pub left : List Act
    pub ends : configuration_by s m rest ≡ configuration_by s from left
    pub carries : Carries from left front size b (sited (base_core front a (core_of m)) site) (hints_in m)

  pub held_front : (m : Configuration) (rest : List Act) (size : ℕ) (p : Place) (b : ℕ) (values : List ℕ) → Calm s call m → Goes s m rest → Block s a n flags (core_of m) size true false → IsOut (core_of m) → address p ≡ b → length values ≡ words_of (min size n) →
      shape_of rest ≡ acts.Take a size ∷ acts.Place p.start p.granules p.layer ∷ (moving a size b n flags.zero values ++ acts.Give b n ∷ acts.Drop a ∷ []) → Held m rest true size b
  held_front m rest size p b values c g k out at count e =
      let t = moving a size b n flags.zero values ++ acts.Give b n ∷ acts.Drop a ∷ [] in
      let x = took m rest size false (acts.Place p.start p.granules p.layer ∷ t) c g k out e in
      let y = put x.at x.later p.start p.granules p.layer t x.calm x.goes (subst IsOut (sym x.core) (taken_out (core_of m) size false k out)) x.shape in
      let z = y.placed in
      let put_too : Placed x.at x.later p.start p.granules p.layer (sited (taken_core a (core_of m)) y.site) (hints_in m) = record {
        at = z.at;
        later = z.later;
        within = z.within;
        core = z.core ∙ ap (λ (c : Core). sited c y.site) x.core;
        whole = z.whole;
        demand = z.demand;
        hints = λ i j. z.hints i j ∙ x.hints i j;
        goes = z.goes;
        shape = z.shape;
        ends = z.ends;
      } in
      record {
        site = y.site;
        why = subst (λ (c : Core). Why s c n y.site) x.core y.why;
        address_is = (λ i. address (made (sym y.start_is i) p.granules (sym y.layer_is i))) ∙ at;
        from = x.at;
        left = x.later;
        ends = x.ends;
        carries = carries_front x.at x.later p.start p.granules p.layer (sited (taken_core a (core_of m)) y.site) (hints_in m) size b values put_too refl count x.shape;
      }

  pub held_behind : (m : Configuration) (rest : List Act) (size : ℕ) (p : Place) (b : ℕ) (values : List ℕ) (first more : List Act) → Calm s call m → Goes s m rest → IsOut (core_of m) → address p ≡ b → length values ≡ words_of (min size n) →
      moving a size b n flags.zero values ≡ first ++ more → shape_of rest ≡ acts.Place p.start p.granules p.layer ∷ ((first ++ acts.Take a size ∷ more) ++ acts.Give b n ∷ acts.Drop a ∷ []) → Held m rest false size b
  held_behind m rest size p b values first more c g out at count split e =
      let y = put m rest p.start p.granules p.layer _ c g out e in
      record {
        site = y.site;
        why = y.why;
        address_is = (λ i. address (made (sym y.start_is i) p.granules (sym y.layer_is i))) ∙ at;
        from = m;
        left = rest;
        ends = refl;
        carries = carries_behind m rest p.start p.granules p.layer (sited (core_of m) y.site) (hints_in m) size b values first more y.placed refl count split e;
      }

  ---- Both

  -- two that hold their blocks hold one, with one content, and leave the heap alike
  pub both_held : (m : Configuration) (rest : List Act) (k : Configuration) (others : List Act) (front : Bool) (size b c : ℕ) → core_of m ≡ core_of k → HintsAlike m k → Held m rest front size b → Held k others front size c →
      (b ≡ c) × AreAlike (configuration_by s m rest) (configuration_by s k others)
  both_held m rest k others front size b c core hints x y =
      let same = one_site s (base_core front a (core_of m)) n x.site y.site x.why (subst (λ (d : Core). Why s (base_core front a d) n y.site) (sym core) y.why) in
      let at : b ≡ c = sym x.address_is ∙ (λ i. address (made (same i).start (same i).granules (same i).layer)) ∙ y.address_is in
      (at, alike_at _ _ _ _ x.ends y.ends (both_carried x.from x.left y.from y.left front size b c _ _ _ _ x.carries y.carries at (λ i. sited (base_core front a (core i)) (same i)) hints refl))

  ---- A refusal

  pub refused_plain : (m : Configuration) (rest t : List Act) → Calm s call m → Goes s m rest → shape_of rest ≡ acts.NoFit n ∷ t → WhyNot s (core_of m) n
  refused_plain m rest t c g e =
      let x = to_shown s call m rest (acts.NoFit n) t c g e refl in
      subst (λ (c : Core). WhyNot s c n) x.core (why_not s call x.at n n x.calm.within refl (may_first s x.at (acts.NoFit n) x.later x.goes))

  pub refused_front : (m : Configuration) (rest : List Act) (size : ℕ) (t : List Act) → Calm s call m → Goes s m rest → Block s a n flags (core_of m) size true false → IsOut (core_of m) → shape_of rest ≡ acts.Take a size ∷ acts.NoFit n ∷ t → WhyNot s (taken_core a (core_of m)) n
  refused_front m rest size t c g k out e =
      let x = took m rest size false (acts.NoFit n ∷ t) c g k out e in
      subst (λ (c : Core). WhyNot s c n) x.core (refused_plain x.at x.later t x.calm x.goes x.shape)

  pub both_refused : (m : Configuration) (rest : List Act) (k : Configuration) (others : List Act) → Duo s call m rest k others → shape_of rest ≡ acts.NoFit n ∷ [] → shape_of others ≡ acts.NoFit n ∷ [] → AreAlike (configuration_by s m rest) (configuration_by s k others)
  both_refused m rest k others d e f =
      let x = duo_at s call m rest k others (acts.NoFit n) [] (acts.NoFit n) [] d e f refl refl in
      let z = duo_look s call x.at (acts.NoFit n) x.later x.at_too (acts.NoFit n) x.later_too x.duo refl refl in
      alike_at _ _ _ _ x.ends x.ends_too (duo_end s call _ x.later _ x.later_too z x.shape x.shape_too)

  -- the place in hand of the address is the block of the front end that was taken
  hand_layer : (m : Configuration) (c : Core) (size live : ℕ) → Keeps s m → core_of m ≡ taken_core a c → Block s a n flags c live true false → may_follow s m (by_zero (acts.Give a size)) ≡ true → layer_of (hand_of (core_of m) a) ≡ Some layers.Lfh
  hand_layer m c size live w e k h =
      let v = caller_view m 0 in
      let r = (and_parts v.entered (for_some (hand_at m.state 0 a) (λ p. may_touch v p.layer && suits size p)) (row_of s m (by_zero (acts.Give a size)) h)).1 in
      let p = for_some_parts (hand_at m.state 0 a) (λ p. may_touch v p.layer && suits size p) r in
      let f : find (has_address a) (places_in_core (core_of m)) ≡ Some p.0 = sym (place_among_all s m 0 a w) ∙ (addresses_sound s m w).hand 0 a p.0 p.1 in
      let q = found_or a (is_live_at a) (with_status (InHand 0)) (live_there a) (λ p. refl) c (layer_of (find (has_address a) (places_in_core c))) k.place k.found in
      let z : Some p.0 ≡ Some q.0 = sym f ∙ ap (λ (d : Core). find (has_address a) (places_in_core d)) e ∙ q.1 in
      let same : p.0 ≡ q.0 = cc in
      let front = front_layer k.place k.is_front in
      let l : q.0.layer ≡ layers.Lfh = elim q.2 [ inl g ↦ ap (λ (x : Place). x.layer) g ∙ front | inr g ↦ ap (λ (x : Place). x.layer) g ∙ front ] in
      ap layer_of p.1 ∙ ap Some (ap (λ (x : Place). x.layer) same ∙ l)

  pub both_returned : (m : Configuration) (rest : List Act) (k : Configuration) (others : List Act) (size : ℕ) → Duo s call m rest k others → Block s a n flags (core_of m) size true false → IsOut (core_of m) →
      shape_of rest ≡ acts.Take a size ∷ acts.NoFit n ∷ acts.Give a size ∷ [] → shape_of others ≡ acts.Take a size ∷ acts.NoFit n ∷ acts.Give a size ∷ [] → AreAlike (configuration_by s m rest) (configuration_by s k others)
  both_returned m rest k others size d b out e f =
      let act = acts.Give a size in
      let x = took m rest size false (acts.NoFit n ∷ act ∷ []) d.calm d.goes b out e in
      let y = took k others size false (acts.NoFit n ∷ act ∷ []) d.calm_too d.goes_too (subst (λ (c : Core). Block s a n flags c size true false) d.core b) (subst IsOut d.core out) f in
      let d2 : Duo s call x.at x.later y.at y.later = record { calm = x.calm; calm_too = y.calm; goes = x.goes; goes_too = y.goes; core = x.core ∙ ap (taken_core a) d.core ∙ sym y.core; hints = λ i j. x.hints i j ∙ d.hints i j ∙ sym (y.hints i j) } in
      let z = duo_at s call x.at x.later y.at y.later (acts.NoFit n) (act ∷ []) (acts.NoFit n) (act ∷ []) d2 x.shape y.shape refl refl in
      let i = after s z.at (by_zero (acts.NoFit n)) in
      let j = after s z.at_too (by_zero (acts.NoFit n)) in
      let d3 = duo_look s call z.at (acts.NoFit n) z.later z.at_too (acts.NoFit n) z.later_too z.duo refl refl in
      let u = duo_at s call i z.later j z.later_too act [] act [] d3 z.shape z.shape_too refl refl in
      let v = after s u.at (by_zero act) in
      let w = after s u.at_too (by_zero act) in
      let c = u.duo.core in
      let to : core_of u.at ≡ taken_core a (core_of m) = u.core_stays ∙ z.core_stays ∙ x.core in
      let l = hand_layer u.at (core_of m) size size u.duo.calm.within.keeps to b (may_first s u.at act u.later u.duo.goes) in
      let out2 : IsOut (core_of u.at) = subst IsOut (sym to) (taken_out (core_of m) size false b out) in
      let out3 : IsOut (core_of v) = ap (λ (o : Option Layer). for_some (bucket_of n) (goes_to_lfh (changed_core (core_of u.at) o (change_found (is_hand_at 0 a) (with_status (Live size)))).vs)) l ∙ out2 in
      let same : core_of v ≡ core_of w = λ q. changed_core (c q) (layer_of (hand_of (c q) a)) (change_found (is_hand_at 0 a) (with_status (Live size))) in
      let d4 = duo_step s call u.at act u.later u.at_too u.later_too u.duo same
      (whole_restatused (core_of u.at) (layer_of (hand_of (core_of u.at) a)) (is_hand_at 0 a) (Live size) u.duo.calm.whole)
      (none_by s a n flags v (within_next s call u.at act u.later u.duo.calm.within u.duo.goes) (others_none s a n flags (core_of v) out3))
      (none_by s a n flags w (within_next s call u.at_too act u.later_too u.duo.calm_too.within u.duo.goes_too) (others_none s a n flags (core_of w) (subst IsOut same out3))) refl refl u.duo.hints in
      alike_at _ _ _ _ (x.ends ∙ z.ends ∙ u.ends) (y.ends ∙ z.ends_too ∙ u.ends_too) (duo_end s call v u.later w u.later_too d4 u.shape u.shape_too)
