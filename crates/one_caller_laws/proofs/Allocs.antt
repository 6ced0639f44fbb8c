-- An allocation that the front end does not serve.
use Rattle.std.proofs.Common.{◌≡◌, ℕ, ◌/◌, Bool, true, false, List, [], ◌∷◌, ◌++◌, map, Option, Some, None, refl, sym, ap, ◌∙◌, subst, cond}
use Rattle.std.specs.Prelude.{option_and_then}
use Rattle.std.proofs.lemmas.Bool.{and_parts}
use Rattle.heap_model.specs.declared.Act.{Act}
use Rattle.heap_model.specs.declared.Act.TheVariants as acts
use Rattle.heap_model.specs.declared.Call.{Call}
use Rattle.heap_model.specs.declared.Call.TheVariants as calls
use Rattle.heap_model.specs.declared.Flags.{Flags}
use Rattle.heap_model.specs.declared.Layer.{Layer}
use Rattle.heap_model.specs.declared.Reply.{Reply}
use Rattle.heap_model.specs.declared.Reply.TheVariants as replies
use Rattle.heap_model.specs.Geometry.{words_of}
use Rattle.heap_model.specs.Buckets.{bucket_of}
use Rattle.heap_model.specs.State.{Setting, IsValidSetting, VsPart, address}
use Rattle.heap_model.specs.Backend.{numbers}
use Rattle.heap_model.specs.Stay.{for_some}
use Rattle.heap_model.specs.CallState.{Configuration}
use Rattle.heap_model.specs.Search.{sought_by}
use Rattle.heap_model.specs.Legal.{may_follow, after, goes_to_lfh}
use Rattle.heap_model.specs.Alone.{by_zero, configuration_by}
use Rattle.heap_model.specs.Shape.{shape_of, Allocates, FitsNone, zeroing, zeros, HasActs, Replied}
use Rattle.one_caller_laws.specs.OneCall.{IsBetween, AreAlike, Answers, IsSameReply, IsForOthers, AllocationIsDetermined}
use Rattle.one_caller_laws.proofs.Core.{Core, core_of}
use Rattle.one_caller_laws.proofs.InCall.{InCall, SearchesNone}
use Rattle.one_caller_laws.proofs.Reach.{Calm, may_first, to_shown}
use Rattle.one_caller_laws.proofs.Pair.{begun_within, begun_whole, begun_same, goes_from, shown_is}
use Rattle.one_caller_laws.proofs.Duo.{Duo, duo_at, duo_end, duo_look}
use Rattle.one_caller_laws.proofs.Asks.{same_reply, alike_at}
use Rattle.one_caller_laws.proofs.Sites.{WhyNot, site_or_none}
use Rattle.one_caller_laws.proofs.Makes.{Makes, made}
use Rattle.one_caller_laws.proofs.Placing.{why_not, to_place, duo_placed, duo_zeroed, duo_give}

-- nothing is searched, where the bucket of the size is neither active nor due
none_alloc : (s : Setting) (n : ℕ) (flags : Flags) (k : Configuration) → InCall s (calls.Alloc n flags) k → for_some (bucket_of n) (goes_to_lfh k.state.vs) ≡ false → SearchesNone s k
none_alloc s n flags k w h =
    ap (λ (o : Option Call). for_some (option_and_then bucket_of (cond (k.now.calls 0).placed None (option_and_then (sought_by s k.state 0) o))) (goes_to_lfh k.state.vs)) w.call_is ∙ either (k.now.calls 0).placed
  where
    either : (b : Bool) → for_some (option_and_then bucket_of (cond b None (Some n))) (goes_to_lfh k.state.vs) ≡ false
    either true = refl
    either false = h

-- what an allocation shows
data Allocated (n : ℕ) (flags : Flags) (reply : Reply) (shape : List Act) : Type 0 where
  IsAt : (a start granules : ℕ) (layer : Layer) → reply ≡ replies.Address a → address (made start granules layer) ≡ a → shape ≡ acts.Place start granules layer ∷ (zeroing flags.zero a n ++ acts.Give a n ∷ []) → Allocated n flags reply shape
  IsRefused : reply ≡ replies.NoFit → shape ≡ acts.NoFit n ∷ [] → Allocated n flags reply shape

allocates_is : (a n : ℕ) (flags : Flags) (shape : List Act) → Allocates a n flags.zero shape → Allocated n flags (replies.Address a) shape
allocates_is a n flags (acts.Place start granules layer ∷ rest) h = IsAt a start granules layer refl h.0 (ap (λ (l : List Act). acts.Place start granules layer ∷ l) h.1)
allocates_is a n flags _ h = absurd h

fits_none_is : (n : ℕ) (shape : List Act) → FitsNone n shape → shape ≡ acts.NoFit n ∷ []
fits_none_is n (acts.NoFit size ∷ []) h = ap (λ (x : ℕ). acts.NoFit x ∷ []) h
fits_none_is n _ h = absurd h

allocated_is : (n : ℕ) (flags : Flags) (reply : Reply) (shape : List Act) → HasActs (calls.Alloc n flags) (Replied reply) shape → Allocated n flags reply shape
allocated_is n flags (replies.Address a) shape h = allocates_is a n flags shape h
allocated_is n flags replies.NoFit shape h = IsRefused refl (fits_none_is n shape h)
allocated_is n flags _ shape h = absurd h

-- the words that are zeroed
abbrev pub zeroed_words : Bool → ℕ → ℕ → List ℕ
zeroed_words true word count = numbers word count
zeroed_words false word count = []

pub zeros_are : (zero : Bool) (word count : ℕ) → zeros zero word count ≡ map (λ w. acts.Store w 0) (zeroed_words zero word count)
zeros_are true word count = refl
zeros_are false word count = refl

-- a block that is placed is zeroed, if asked, and given
pub duo_given : (s : Setting) (call : Call) (words : List ℕ) (a size : ℕ) (m : Configuration) (rest : List Act) (n : Configuration) (others : List Act) → (m.now.calls 0).placed ≡ true → Duo s call m rest n others →
    shape_of rest ≡ map (λ w. acts.Store w 0) words ++ acts.Give a size ∷ [] → shape_of others ≡ map (λ w. acts.Store w 0) words ++ acts.Give a size ∷ [] → AreAlike (configuration_by s m rest) (configuration_by s n others)
duo_given s call words a size m rest n others p d e f =
    let x = duo_zeroed s call words m rest n others (acts.Give a size ∷ []) p d e f in
    let y = duo_at s call x.at x.later x.at_too x.later_too (acts.Give a size) [] (acts.Give a size) [] x.duo x.shape x.shape_too refl refl in
    let q = ap (λ (c : Core). c.placed) y.core_stays ∙ x.placed in
    let z = duo_give s call y.at a size y.later y.at_too y.later_too q y.duo in
    alike_at _ _ _ _ (x.ends ∙ y.ends) (x.ends_too ∙ y.ends_too) (duo_end s call _ y.later _ y.later_too z y.shape y.shape_too)

module _ (s : Setting) (n : ℕ) (flags : Flags) (m : Configuration) (rest : List Act) (l : Configuration) (others : List Act) (reply other : Reply) (d : Duo s (calls.Alloc n flags) m rest l others) (out : for_some (bucket_of n) (goes_to_lfh m.state.vs) ≡ false) where
  abbrev call : Call
  call = calls.Alloc n flags

  abbrev Same : Type 0
  Same = IsSameReply reply other × AreAlike (configuration_by s m rest) (configuration_by s l others)

  place_in : (start granules : ℕ) (layer : Layer) (t : List Act) → shape_of rest ≡ acts.Place start granules layer ∷ t → Makes s call m rest n
  place_in start granules layer t h = to_place s call n refl m rest start granules layer t d.calm d.goes (λ k w e. none_alloc s n flags k w (ap (λ (v : VsPart). for_some (bucket_of n) (goes_to_lfh v)) e ∙ out)) h

  place_in_too : (start granules : ℕ) (layer : Layer) (t : List Act) → shape_of others ≡ acts.Place start granules layer ∷ t → Makes s call l others n
  place_in_too start granules layer t h =
      to_place s call n refl l others start granules layer t d.calm_too d.goes_too (λ k w e. none_alloc s n flags k w (ap (λ (v : VsPart). for_some (bucket_of n) (goes_to_lfh v)) (e ∙ ap (λ (c : Core). c.vs) (sym d.core)) ∙ out)) h

  -- a refusal tells why
  refused : shape_of rest ≡ acts.NoFit n ∷ [] → WhyNot s (core_of m) n
  refused h = let x = to_shown s call m rest (acts.NoFit n) [] d.calm d.goes h refl in subst (λ (c : Core). WhyNot s c n) x.core (why_not s call x.at n n x.calm.within refl (may_first s x.at (acts.NoFit n) x.later x.goes))

  refused_too : shape_of others ≡ acts.NoFit n ∷ [] → WhyNot s (core_of l) n
  refused_too h = let x = to_shown s call l others (acts.NoFit n) [] d.calm_too d.goes_too h refl in subst (λ (c : Core). WhyNot s c n) x.core (why_not s call x.at n n x.calm.within refl (may_first s x.at (acts.NoFit n) x.later x.goes))

  determined : Allocated n flags reply (shape_of rest) → Allocated n flags other (shape_of others) → Same
  determined (IsAt a start granules layer e f h) (IsAt b start_too granules_too layer_too i j k) =
      let x = place_in start granules layer _ h in
      let p = duo_placed s call m rest l others n d.core d.hints refl x (place_in_too start_too granules_too layer_too _ k) in
      let t = zeroing flags.zero a n ++ acts.Give a n ∷ [] in
      let u = zeroing flags.zero b n ++ acts.Give b n ∷ [] in
      let q : acts.Place start granules layer ∷ t ≡ acts.Place x.site.start x.site.granules x.site.layer ∷ shape_of p.later = sym h ∙ p.shape in
      let r : acts.Place start_too granules_too layer_too ∷ u ≡ acts.Place x.site.start x.site.granules x.site.layer ∷ shape_of p.later_too = sym k ∙ p.shape_too in
      let s1 : start ≡ start_too = cc (q, r) in
      let s2 : layer ≡ layer_too = cc (q, r) in
      let a_is : a ≡ b = sym f ∙ (λ i. address (made (s1 i) granules (s2 i))) ∙ j in
      let t_is : t ≡ shape_of p.later = cc (q, r) in
      let u_is : u ≡ shape_of p.later_too = cc (q, r) in
      let words = zeroed_words flags.zero (a / 8) (words_of n) in
      let zs = zeros_are flags.zero (a / 8) (words_of n) in
      let g = ap (λ (l : List Act). l ++ acts.Give a n ∷ []) zs in (
        same_reply reply other (e ∙ ap replies.Address a_is ∙ sym i),
        alike_at _ _ _ _ p.ends p.ends_too (duo_given s call words a n p.at p.later p.at_too p.later_too p.placed p.duo (sym t_is ∙ g) (sym u_is ∙ ap (λ (c : ℕ). zeroing flags.zero c n ++ acts.Give c n ∷ []) (sym a_is) ∙ g)),
      )
  determined (IsAt a start granules layer e f h) (IsRefused i k) =
      let x = place_in start granules layer _ h in
      absurd (site_or_none s (core_of m) n x.site x.why (subst (λ (c : Core). WhyNot s c n) (sym d.core) (refused_too k)))
  determined (IsRefused e h) (IsAt b start granules layer i j k) =
      let y = place_in_too start granules layer _ k in
      absurd (site_or_none s (core_of l) n y.site y.why (subst (λ (c : Core). WhyNot s c n) d.core (refused h)))
  determined (IsRefused e h) (IsRefused i k) =
      let x = duo_at s call m rest l others (acts.NoFit n) [] (acts.NoFit n) [] d h k refl refl in
      let z = duo_look s call x.at (acts.NoFit n) x.later x.at_too (acts.NoFit n) x.later_too x.duo refl refl in
      (same_reply reply other (e ∙ sym i), alike_at _ _ _ _ x.ends x.ends_too (duo_end s call _ x.later _ x.later_too z x.shape x.shape_too))

calm_alloc : (s : Setting) (n : ℕ) (flags : Flags) (m : Configuration) (reply : Reply) (rest : List Act) → IsValidSetting s → IsBetween s m → IsForOthers m n → Answers s m (calls.Alloc n flags) reply rest → Calm s (calls.Alloc n flags) (after s m (by_zero (acts.Begin (calls.Alloc n flags))))
calm_alloc s n flags m reply rest valid b out a =
    let call = calls.Alloc n flags in
    let h = (and_parts (may_follow s m (by_zero (acts.Begin call))) _ a.legal).0 in
    let w = begun_within s call m valid b h in
    record { within = w; whole = begun_whole s call m valid b h; none = none_alloc s n flags _ w out; plain = refl; demand = refl }

pub allocation_determined : AllocationIsDetermined
allocation_determined s m k reply other rest others n flags valid b c alike out x y =
    let call = calls.Alloc n flags in
    let out_too = ap (λ (v : VsPart). for_some (bucket_of n) (goes_to_lfh v)) (ap (λ (st : Rattle.heap_model.specs.State.State). st.vs) (sym alike.state)) ∙ out in
    determined s n flags _ rest _ others reply other (record {
      calm = calm_alloc s n flags m reply rest valid b out x;
      calm_too = calm_alloc s n flags k other others valid c out_too y;
      goes = goes_from s call m reply rest x;
      goes_too = goes_from s call k other others y;
      core = begun_same s call m k alike;
      hints = alike.hints;
    }) out
    (allocated_is n flags reply (shape_of rest) (subst (HasActs call (Replied reply)) (shown_is s call m rest) x.gets.shape))
    (allocated_is n flags other (shape_of others) (subst (HasActs call (Replied other)) (shown_is s call k others) y.gets.shape))
