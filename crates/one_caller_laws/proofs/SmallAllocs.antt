-- An allocation that the front end may serve, where what a pass finds is placed under Back.
use Rattle.std.proofs.Common.{◌≡◌, ℕ, ◌/◌, ◌<◌, true, false, List, [], ◌∷◌, ◌++◌, Option, Some, None, refl, sym, ap, ◌∙◌, subst, inl, inr, arith, leb}
use Rattle.std.proofs.lemmas.Bool.{cases_Bool, and_parts, false≢true, true≢false}
use Rattle.heap_model.specs.declared.Act.{Act}
use Rattle.heap_model.specs.declared.Act.TheVariants as acts
use Rattle.heap_model.specs.declared.Call.{Call}
use Rattle.heap_model.specs.declared.Call.TheVariants as calls
use Rattle.heap_model.specs.declared.Flags.{Flags}
use Rattle.heap_model.specs.declared.Layer.{Layer}
use Rattle.heap_model.specs.declared.Reply.{Reply}
use Rattle.heap_model.specs.declared.Reply.TheVariants as replies
use Rattle.heap_model.specs.Geometry.{words_of}
use Rattle.heap_model.specs.Buckets.{bucket_of, bucket_pages, block_size, block_address}
use Rattle.heap_model.specs.State.{Setting, IsValidSetting, State, address}
use Rattle.heap_model.specs.Stay.{for_some}
use Rattle.heap_model.specs.Backend.{back_place}
use Rattle.heap_model.specs.CallState.{Configuration}
use Rattle.heap_model.specs.Search.{last_read, has_not_begun}
use Rattle.heap_model.specs.Legal.{may_follow, after, goes_to_lfh}
use Rattle.heap_model.specs.Alone.{by_zero, configuration_by}
use Rattle.heap_model.specs.Shape.{shape_of, Allocates, FitsNone, zeroing, HasActs, Replied}
use Rattle.search_laws.specs.Calls.{hint_put}
use Rattle.one_caller_laws.specs.OneCall.{IsBetween, AreAlike, Answers, IsSameReply}
use Rattle.one_caller_laws.specs.UnderBack.{place_under_back, is_under_back, IsDeterminedUnderBack}
use Rattle.one_caller_laws.proofs.Core.{Core, core_of}
use Rattle.one_caller_laws.proofs.InCall.{is_shown}
use Rattle.one_caller_laws.proofs.Reach.{Goes, goes_after}
use Rattle.one_caller_laws.proofs.Pair.{begun_within, begun_whole, begun_same, goes_from, shown_is, none_placed, within_next, HintsAlike}
use Rattle.one_caller_laws.proofs.Duo.{Duo}
use Rattle.one_caller_laws.proofs.Asks.{same_reply, alike_at}
use Rattle.one_caller_laws.proofs.Ways.{Spot, Way, Nowhere, one_way}
use Rattle.one_caller_laws.proofs.Sites.{Site, Why, Gap, Fresh, Pages, Large, WhyNot, NoGap, NoPages, NoLarge, one_site, site_or_none}
use Rattle.one_caller_laws.proofs.Makes.{made, sited, Makes}
use Rattle.one_caller_laws.proofs.Allocs.{zeroed_words, zeros_are, duo_given, allocation_determined}
use Rattle.one_caller_laws.proofs.Expected.{Path, key_in, expected, base, lit, one_end, path_base}
use Rattle.one_caller_laws.proofs.Seeks.{AllDry}
use Rattle.one_caller_laws.proofs.Turns.{Seeking, HintIs, words_some}
use Rattle.one_caller_laws.proofs.Sought.{Sought, ShowsStop, is_end, ends_by, seek}
use Rattle.one_caller_laws.proofs.FrontEnds.{Got, hints_at_all, put_same, claimed_core, owned_core, own_index}
use Rattle.one_caller_laws.proofs.Stops.{Outcome, Picks, Owns, Falls, Refuses, outcome}
use Rattle.one_caller_laws.proofs.Refusals.{trail, ends_by_base}

-- what an allocation shows
pub data Shown (n : ℕ) (flags : Flags) (reply : Reply) (shape : List Act) : Type 0 where
  IsAt : (a start granules : ℕ) (layer : Layer) → reply ≡ replies.Address a → address (made start granules layer) ≡ a → shape ≡ acts.Place start granules layer ∷ (zeroing flags.zero a n ++ acts.Give a n ∷ []) → Shown n flags reply shape
  IsRefused : reply ≡ replies.NoFit → shape ≡ acts.NoFit n ∷ [] → Shown n flags reply shape

allocates_is : (a n : ℕ) (flags : Flags) (shape : List Act) → Allocates a n flags.zero shape → Shown n flags (replies.Address a) shape
allocates_is a n flags (acts.Place start granules layer ∷ rest) h = IsAt a start granules layer refl h.0 (ap (λ (l : List Act). acts.Place start granules layer ∷ l) h.1)
allocates_is a n flags _ h = absurd h

fits_none_is : (n : ℕ) (shape : List Act) → FitsNone n shape → shape ≡ acts.NoFit n ∷ []
fits_none_is n (acts.NoFit size ∷ []) h = ap (λ (x : ℕ). acts.NoFit x ∷ []) h
fits_none_is n _ h = absurd h

shown_by : (n : ℕ) (flags : Flags) (reply : Reply) (shape : List Act) → HasActs (calls.Alloc n flags) (Replied reply) shape → Shown n flags reply shape
shown_by n flags (replies.Address a) shape h = allocates_is a n flags shape h
shown_by n flags replies.NoFit shape h = IsRefused refl (fits_none_is n shape h)
shown_by n flags _ shape h = absurd h

stop_shown : (n : ℕ) (flags : Flags) (reply : Reply) (shape : List Act) → Shown n flags reply shape → ShowsStop shape
stop_shown n flags reply shape (IsAt a start granules layer e f h) = record { act = acts.Place start granules layer; later = zeroing flags.zero a n ++ acts.Give a n ∷ []; is = h }
stop_shown n flags reply shape (IsRefused e h) = record { act = acts.NoFit n; later = []; is = h }

-- so the first act behind its search ends it
stop_ends : (n : ℕ) (flags : Flags) (reply : Reply) (act : Act) (later : List Act) → is_shown act ≡ true → Shown n flags reply (shape_of (act ∷ later)) → is_end act ≡ true
stop_ends n flags reply act later e (IsAt a start granules layer f g h) = ends_by act (acts.Place start granules layer) later _ e h refl
stop_ends n flags reply act later e (IsRefused f h) = ends_by act (acts.NoFit n) later _ e h refl

pub some_pages : (b : ℕ) → 0 < bucket_pages b
some_pages b = elim (cases_Bool (leb (block_size b) 256)) [
  | inl e ↦ rw e (omega arith)
  | inr e ↦ elim (cases_Bool (leb (block_size b) 1024)) [
    | inl f ↦ rw (e, f) (omega arith)
    | inr f ↦ elim (cases_Bool (leb (block_size b) 4096)) [ inl g ↦ rw (e, f, g) (omega arith) | inr g ↦ rw (e, f, g) (omega arith) ]
  ]
]

-- where a block goes outside the front end is told by the base
why_base : (s : Setting) (c : Core) (n : ℕ) (site : Site) → Why s c n site → Why s (base c) n site
why_base s c n site (Gap r a e f) = Gap r a e f
why_base s c n site (Fresh x r a e w i f) = Fresh x r a e w i f
why_base s c n site (Pages x p w f) = Pages x p w f
why_base s c n site (Large a p e f) = Large a p e f

why_not_base : (s : Setting) (c : Core) (n : ℕ) → WhyNot s c n → WhyNot s (base c) n
why_not_base s c n (NoGap a e w) = NoGap a e w
why_not_base s c n (NoPages p w) = NoPages p w
why_not_base s c n (NoLarge p e) = NoLarge p e

module _ (s : Setting) (n b : ℕ) (flags : Flags) (bucket : bucket_of n ≡ Some b) (h : Option ℕ) where
  abbrev call : Call
  call = calls.Alloc n flags

  abbrev Found : Configuration → List Act → Type 0
  Found m rest = Sought s (calls.Alloc n flags) n b refl bucket refl h m rest

  abbrev Out : Configuration → List Act → Type 0
  Out m rest = Outcome s (calls.Alloc n flags) n b refl bucket h m rest

  abbrev Served : Configuration → List Act → ℕ → ℕ → Layer → Core → (ℕ → ℕ → Option ℕ) → Type 0
  Served m rest start granules layer d H = Got s (calls.Alloc n flags) m rest start granules layer d H

  ---- Where the one is refused, the other is not served

  abbrev pub IsDryIn : Core → Type 0
  IsDryIn c = AllDry c.back.area c.lfh (key_in s c b)

  pub record IsRefusedIn (c : Core) : Type 0 where
    pub dry : IsDryIn c
    pub place : back_place c.back.area s.limits.segments (bucket_pages b) ≡ None
    pub why : WhyNot s c n

  refused_base : (c : Core) → IsRefusedIn c → IsRefusedIn (base c)
  refused_base c r = record { dry = r.dry; place = r.place; why = why_not_base s c n r.why }

  pub no_picks : (c : Core) (m : Configuration) (index : ℕ) → IsRefusedIn c → base c ≡ base (core_of m) → Seeking s b h (core_of m) → (m.now.calls 0).search.picked ≡ Some index → ⊥
  no_picks c m index r e k p =
      let x = k.seeks.picked index p in
      let y = subst IsRefusedIn e (refused_base c r) in
      let z : Some index ≡ None = sym x.shows ∙ y.dry x.span x.there x.behind x.below in
      let bad : ⊥ = cc in
      bad

  pub no_owns : (c : Core) (m : Configuration) (x : Spot) → IsRefusedIn c → base c ≡ base (core_of m) → Way m.state.back.area s.limits.segments (bucket_pages b) (Some x) → ⊥
  no_owns c m x r e w =
      let y = subst IsRefusedIn e (refused_base c r) in
      let z : Some x ≡ None = one_way m.state.back.area s.limits.segments (bucket_pages b) (Some x) None (some_pages b) w (Nowhere refl y.place) in
      let bad : ⊥ = cc in
      bad

  pub no_falls : (c : Core) (m : Configuration) (site : Site) → IsRefusedIn c → base c ≡ base (core_of m) → Why s (core_of m) n site → ⊥
  no_falls c m site r e w =
      let y = subst IsRefusedIn e (refused_base c r) in
      site_or_none s (base (core_of m)) n site (why_base s (core_of m) n site w) y.why

  ---- Both are served

  served_by : (m : Configuration) (rest : List Act) → (x : Makes s (calls.Alloc n flags) m rest n) → Served m rest x.site.start x.site.granules x.site.layer (sited (core_of m) x.site) (hints_at_all m)
  served_by m rest x = record {
    at = x.at;
    later = x.later;
    within = x.within;
    core = x.core;
    whole = x.whole;
    demand = x.demand;
    hints = x.hints;
    goes = x.goes;
    shape = x.shape;
    ends = x.ends;
  }

  module _ (m : Configuration) (rest : List Act) (l : Configuration) (others : List Act) (reply other : Reply) (show : Shown n flags reply (shape_of rest)) (show_too : Shown n flags other (shape_of others)) (x : Found m rest) (y : Found l others)
      (core : core_of m ≡ core_of l) (hints : HintsAlike m l) where
    abbrev Same : Type 0
    Same = IsSameReply reply other × AreAlike (configuration_by s m rest) (configuration_by s l others)

    hints_both : (p q : ℕ) → hints_at_all x.at p q ≡ hints_at_all y.at p q
    hints_both p q = x.hints p q ∙ hints p q ∙ sym (y.hints p q)

    both_served : (start granules start_too granules_too : ℕ) (layer layer_too : Layer) (d e : Core) (H K : ℕ → ℕ → Option ℕ) → Served x.at (x.act ∷ x.later) start granules layer d H → Served y.at (y.act ∷ y.later) start_too granules_too layer_too e K →
        start ≡ start_too → granules ≡ granules_too → layer ≡ layer_too → d ≡ e → ((p q : ℕ) → H p q ≡ K p q) → d.placed ≡ true → Same
    both_served start granules start_too granules_too layer layer_too d e H K g j es eg el de hk placed = by_shown show show_too
      where
        p_of : (g.at.now.calls 0).placed ≡ true
        p_of = ap (λ (c : Core). c.placed) g.core ∙ placed

        duo : Duo s (calls.Alloc n flags) g.at g.later j.at j.later
        duo = record {
          calm = record { within = g.within; whole = g.whole; none = none_placed s g.at (ap (λ (c : Core). c.placed) g.core ∙ placed); plain = refl; demand = g.demand };
          calm_too = record { within = j.within; whole = j.whole; none = none_placed s j.at (ap (λ (c : Core). c.placed) j.core ∙ ap (λ (c : Core). c.placed) (sym de) ∙ placed); plain = refl; demand = j.demand };
          goes = g.goes;
          goes_too = j.goes;
          core = g.core ∙ de ∙ sym j.core;
          hints = λ p q. g.hints p q ∙ hk p q ∙ sym (j.hints p q);
        }

        shape : shape_of rest ≡ acts.Place start granules layer ∷ shape_of g.later
        shape = x.shape ∙ g.shape

        shape_too : shape_of others ≡ acts.Place start granules layer ∷ shape_of j.later
        shape_too = y.shape ∙ j.shape ∙ (λ i. acts.Place (sym es i) (sym eg i) (sym el i) ∷ shape_of j.later)

        by_shown : Shown n flags reply (shape_of rest) → Shown n flags other (shape_of others) → IsSameReply reply other × AreAlike (configuration_by s m rest) (configuration_by s l others)
        by_shown (IsAt a1 st1 gr1 ly1 e1 f1 h1) (IsAt a2 st2 gr2 ly2 e2 f2 h2) =
            let t = zeroing flags.zero a1 n ++ acts.Give a1 n ∷ [] in
            let u = zeroing flags.zero a2 n ++ acts.Give a2 n ∷ [] in
            let q : acts.Place st1 gr1 ly1 ∷ t ≡ acts.Place start granules layer ∷ shape_of g.later = sym h1 ∙ shape in
            let r : acts.Place st2 gr2 ly2 ∷ u ≡ acts.Place start granules layer ∷ shape_of j.later = sym h2 ∙ shape_too in
            let s1 : st1 ≡ st2 = cc (q, r) in
            let s2 : gr1 ≡ gr2 = cc (q, r) in
            let s3 : ly1 ≡ ly2 = cc (q, r) in
            let a_is : a2 ≡ a1 = sym f2 ∙ (λ i. address (made (sym s1 i) (sym s2 i) (sym s3 i))) ∙ f1 in
            let t_is : t ≡ shape_of g.later = cc (q, r) in
            let u_is : u ≡ shape_of j.later = cc (q, r) in
            let words = zeroed_words flags.zero (a1 / 8) (words_of n) in
            let zs = zeros_are flags.zero (a1 / 8) (words_of n) in
            let v = ap (λ (l : List Act). l ++ acts.Give a1 n ∷ []) zs in (
              same_reply reply other (e1 ∙ ap replies.Address (sym a_is) ∙ sym e2),
              alike_at _ _ _ _ (x.ends ∙ g.ends) (y.ends ∙ j.ends)
                  (duo_given s (calls.Alloc n flags) words a1 n g.at g.later j.at j.later p_of duo (sym t_is ∙ v) (sym u_is ∙ ap (λ (c : ℕ). zeroing flags.zero c n ++ acts.Give c n ∷ []) a_is ∙ v)),
            )
        by_shown (IsRefused e1 h1) z = absurd (let q : acts.NoFit n ∷ [] ≡ acts.Place start granules layer ∷ shape_of g.later = sym h1 ∙ shape in let bad : ⊥ = cc in bad)
        by_shown (IsAt a1 st1 gr1 ly1 e1 f1 h1) (IsRefused e2 h2) = absurd (let q : acts.NoFit n ∷ [] ≡ acts.Place start granules layer ∷ shape_of j.later = sym h2 ∙ shape_too in let bad : ⊥ = cc in bad)

    same_core : expected s b h (core_of x.at) ≡ None → expected s b h (core_of y.at) ≡ None → core_of x.at ≡ core_of y.at
    same_core e f = one_end s b h x.steps y.steps (core_of m) (core_of x.at) (core_of y.at) x.path (subst (λ (c : Core). Path s b h y.steps c (core_of y.at)) (sym core) y.path) e f

    same_base : x.at.state.vs.active b ≡ true → y.at.state.vs.active b ≡ true → base (core_of x.at) ≡ base (core_of y.at)
    same_base e f =
        path_base s b h x.steps (core_of m) (core_of x.at) x.path e ∙ ap (λ (c : Core). lit b c (c.vs.active b)) core ∙ sym (path_base s b h y.steps (core_of l) (core_of y.at) y.path f)

    ---- Both are refused

    both_refused : (later later_too : List Act) → x.act ∷ x.later ≡ acts.NoFit n ∷ later → y.act ∷ y.later ≡ acts.NoFit n ∷ later_too →
        x.at.state.vs.active b ≡ true → has_not_begun (x.at.now.calls 0).search.stage ≡ false → y.at.state.vs.active b ≡ true → has_not_begun (y.at.now.calls 0).search.stage ≡ false → Same
    both_refused later later_too e f active begun active_too begun_too = by_shown show show_too
      where
        g : Goes s x.at (acts.NoFit n ∷ later)
        g = subst (Goes s x.at) e x.goes

        j : Goes s y.at (acts.NoFit n ∷ later_too)
        j = subst (Goes s y.at) f y.goes

        by_shown : Shown n flags reply (shape_of rest) → Shown n flags other (shape_of others) → IsSameReply reply other × AreAlike (configuration_by s m rest) (configuration_by s l others)
        by_shown (IsRefused e1 h1) (IsRefused e2 h2) =
            let q : acts.NoFit n ∷ [] ≡ acts.NoFit n ∷ shape_of later = sym h1 ∙ x.shape ∙ ap shape_of e in
            let r : acts.NoFit n ∷ [] ≡ acts.NoFit n ∷ shape_of later_too = sym h2 ∙ y.shape ∙ ap shape_of f in
            let none : shape_of later ≡ [] = cc (q, r) in
            let none_too : shape_of later_too ≡ [] = cc (q, r) in
            let to = after s x.at (by_zero (acts.NoFit n)) in
            let to_too = after s y.at (by_zero (acts.NoFit n)) in
            let t = trail s (calls.Alloc n flags) n b refl bucket refl h to later (within_next s (calls.Alloc n flags) x.at (acts.NoFit n) later x.within g) x.whole refl x.seeking x.hint_is active begun (goes_after s x.at (acts.NoFit n) later g) none in
            let t_too = trail s (calls.Alloc n flags) n b refl bucket refl h to_too later_too (within_next s (calls.Alloc n flags) y.at (acts.NoFit n) later_too y.within j) y.whole refl y.seeking y.hint_is active_too begun_too (goes_after s y.at (acts.NoFit n) later_too j) none_too in
            let z = ends_by_base s (calls.Alloc n flags) _ _ t.within t_too.within g.idle j.idle (t.base_is ∙ same_base active active_too ∙ sym t_too.base_is) t.begun t_too.begun (λ p q. t.hints p q ∙ hints_both p q ∙ sym (t_too.hints p q)) in (
              same_reply reply other (e1 ∙ sym e2),
              alike_at _ _ _ _ (x.ends ∙ ap (configuration_by s x.at) e) (y.ends ∙ ap (configuration_by s y.at) f) z,
            )
        by_shown (IsAt a1 st1 gr1 ly1 e1 f1 h1) z = absurd (let q : acts.Place st1 gr1 ly1 ∷ (zeroing flags.zero a1 n ++ acts.Give a1 n ∷ []) ≡ acts.NoFit n ∷ shape_of later = sym h1 ∙ x.shape ∙ ap shape_of e in let bad : ⊥ = cc in bad)
        by_shown (IsRefused e1 h1) (IsAt a1 st1 gr1 ly1 e2 f2 h2) = absurd (let q : acts.Place st1 gr1 ly1 ∷ (zeroing flags.zero a1 n ++ acts.Give a1 n ∷ []) ≡ acts.NoFit n ∷ shape_of later_too = sym h2 ∙ y.shape ∙ ap shape_of f in let bad : ⊥ = cc in bad)

    ---- All cases

    none_some : {o : Option ℕ} (i : ℕ) → o ≡ Some i → o ≡ None → ⊥
    none_some i e f = let z : Some i ≡ None = sym e ∙ f in let bad : ⊥ = cc in bad

    pub same : Out x.at (x.act ∷ x.later) → Out y.at (y.act ∷ y.later) → Same
    same (Picks first index p r a e g) (Picks first_too index_too p_too r_too a_too e_too g_too) =
        let c = same_core e e_too in
        let z : Some index ≡ Some index_too = sym p ∙ ap (λ (c : Core). c.search.picked) c ∙ p_too in
        let i_is : index ≡ index_too = cc in
        let y2 : Some first ≡ Some first_too = sym r ∙ ap (λ (c : Core). last_read c.search) c ∙ r_too in
        let f_is : first ≡ first_too = cc in
        both_served _ _ _ _ _ _ _ _ _ _ g g_too (λ i. block_address b (f_is i) (i_is i)) refl refl (λ i. claimed_core s (calls.Alloc n flags) n b refl bucket h (c i) (f_is i) (i_is i))
        (λ p q. put_same (hints_at_all x.at) (hints_at_all y.at) b (s.slot 0) first p q (λ ne. hints_both p q) ∙ ap (λ (f : ℕ). hint_put (hints_at_all y.at) b (s.slot 0) f p q) f_is) refl
    same (Owns spot o p a e w g) (Owns spot_too o_too p_too a_too e_too w_too g_too) =
        let c = same_core e e_too in
        let w2 = subst (λ (c : Core). Way c.back.area s.limits.segments (bucket_pages b) (Some spot_too)) (sym c) w_too in
        let z : Some spot ≡ Some spot_too = one_way x.at.state.back.area s.limits.segments (bucket_pages b) (Some spot) (Some spot_too) (some_pages b) w w2 in
        let s_is : spot ≡ spot_too = cc in
        both_served _ _ _ _ _ _ _ _ _ _ g g_too (λ i. block_address b (s_is i).first (own_index s (calls.Alloc n flags) n b refl bucket h (c i))) refl refl (λ i. owned_core s (calls.Alloc n flags) n b refl bucket h (c i) (s_is i))
        (λ p q. put_same (hints_at_all x.at) (hints_at_all y.at) b (s.slot 0) spot.first p q (λ ne. hints_both p q) ∙ ap (λ (f : Spot). hint_put (hints_at_all y.at) b (s.slot 0) f.first p q) s_is) refl
    same (Falls o p a e g) (Falls o_too p_too a_too e_too g_too) =
        let c = same_core e e_too in
        let z = one_site s (core_of x.at) n g.site g_too.site g.why (subst (λ (c : Core). Why s c n g_too.site) (sym c) g_too.why) in
        both_served _ _ _ _ _ _ _ _ _ _ (served_by x.at (x.act ∷ x.later) g) (served_by y.at (y.act ∷ y.later) g_too) (ap (λ (t : Site). t.start) z) (ap (λ (t : Site). t.granules) z) (ap (λ (t : Site). t.layer) z) (λ i. sited (c i) (z i)) hints_both refl
    same (Refuses later is w k i u why) (Refuses later_too is_too w_too k_too i_too u_too why_too) = both_refused later later_too is is_too u.active u.spent.begun u_too.active u_too.spent.begun
    same (Picks first index p r a e g) (Owns spot o_too p_too a_too e_too w_too g_too) = absurd (none_some index p (ap (λ (c : Core). c.search.picked) (same_core e e_too) ∙ p_too))
    same (Picks first index p r a e g) (Falls o_too p_too a_too e_too g_too) = absurd (none_some index p (ap (λ (c : Core). c.search.picked) (same_core e e_too) ∙ p_too))
    same (Owns spot o p a e w g) (Picks first_too index_too p_too r_too a_too e_too g_too) = absurd (none_some index_too p_too (ap (λ (c : Core). c.search.picked) (sym (same_core e e_too)) ∙ p))
    same (Falls o p a e g) (Picks first_too index_too p_too r_too a_too e_too g_too) = absurd (none_some index_too p_too (ap (λ (c : Core). c.search.picked) (sym (same_core e e_too)) ∙ p))
    same (Owns spot o p a e w g) (Falls o_too p_too a_too e_too g_too) = absurd (false≢true (sym o ∙ ap (λ (c : Core). c.no_span) (same_core e e_too) ∙ o_too))
    same (Falls o p a e g) (Owns spot o_too p_too a_too e_too w_too g_too) = absurd (true≢false (sym o ∙ ap (λ (c : Core). c.no_span) (same_core e e_too) ∙ o_too))
    same (Refuses later is w k i u why) (Picks first_too index_too p_too r_too a_too e_too g_too) = absurd (no_picks (core_of x.at) y.at index_too (record { dry = u.spent.dry; place = u.place; why = why }) (same_base u.active a_too) y.seeking p_too)
    same (Refuses later is w k i u why) (Owns spot o_too p_too a_too e_too w_too g_too) = absurd (no_owns (core_of x.at) y.at spot (record { dry = u.spent.dry; place = u.place; why = why }) (same_base u.active a_too) w_too)
    same (Refuses later is w k i u why) (Falls o_too p_too a_too e_too g_too) = absurd (no_falls (core_of x.at) y.at g_too.site (record { dry = u.spent.dry; place = u.place; why = why }) (same_base u.active a_too) g_too.why)
    same (Picks first index p r a e g) (Refuses later is w k i u why) = absurd (no_picks (core_of y.at) x.at index (record { dry = u.spent.dry; place = u.place; why = why }) (sym (same_base a u.active)) x.seeking p)
    same (Owns spot o p a e w g) (Refuses later is w_too k i u why) = absurd (no_owns (core_of y.at) x.at spot (record { dry = u.spent.dry; place = u.place; why = why }) (sym (same_base a u.active)) w)
    same (Falls o p a e g) (Refuses later is w k i u why) = absurd (no_falls (core_of y.at) x.at g.site (record { dry = u.spent.dry; place = u.place; why = why }) (sym (same_base a u.active)) g.why)

---- The law

module _ (s : Setting) (n b : ℕ) (flags : Flags) (bucket : bucket_of n ≡ Some b) where
  -- where a search begins
  begun_seeking : (m : Configuration) (h : Option ℕ) → goes_to_lfh m.state.vs b ≡ true → Seeking s b h (core_of (after s m (by_zero (acts.Begin (calls.Alloc n flags)))))
  begun_seeking m h goes = record {
    seeks = record {
      lost = refl;
      picked = λ i e. absurd (let bad : ⊥ = cc in bad);
      reads = λ head e. absurd (let bad : ⊥ = cc in bad);
      hinted = λ t head e. absurd (let bad : ⊥ = cc in bad);
      here = λ y i e. absurd (let bad : ⊥ = cc in bad);
      behind = λ y i e. absurd (false≢true e);
      over = λ e. absurd (false≢true e);
      going = λ e. words_some n b bucket;
    };
    goes = goes;
    fell = λ e. absurd (false≢true e);
    second = refl;
  }

  sought_from : (m : Configuration) (h : Option ℕ) (reply : Reply) (rest : List Act) → IsValidSetting s → IsBetween s m → goes_to_lfh m.state.vs b ≡ true → HintIs s (calls.Alloc n flags) n b refl bucket h m → Answers s m (calls.Alloc n flags) reply rest →
      place_under_back s m (acts.Begin (calls.Alloc n flags) ∷ rest) ≡ true → Shown n flags reply (shape_of rest) → Sought s (calls.Alloc n flags) n b refl bucket refl h (after s m (by_zero (acts.Begin (calls.Alloc n flags)))) rest
  sought_from m h reply rest valid between goes hint_is a under show =
      let act = acts.Begin (calls.Alloc n flags) in
      let to = after s m (by_zero act) in
      let first = (and_parts (may_follow s m (by_zero act)) _ a.legal).0 in
      seek s (calls.Alloc n flags) n b refl bucket refl h to rest (begun_within s (calls.Alloc n flags) m valid between first) (begun_whole s (calls.Alloc n flags) m valid between first) refl (begun_seeking m h goes) hint_is
      (goes_from s (calls.Alloc n flags) m reply rest a) (and_parts (is_under_back m act) (place_under_back s to rest) under).1 (stop_shown n flags reply (shape_of rest) show)

  served_by_front : (m k : Configuration) (reply other : Reply) (rest others : List Act) → IsValidSetting s → IsBetween s m → IsBetween s k → AreAlike m k → goes_to_lfh m.state.vs b ≡ true →
      Answers s m (calls.Alloc n flags) reply rest → Answers s k (calls.Alloc n flags) other others → place_under_back s m (acts.Begin (calls.Alloc n flags) ∷ rest) ≡ true → place_under_back s k (acts.Begin (calls.Alloc n flags) ∷ others) ≡ true →
      IsSameReply reply other × AreAlike (configuration_by s m (acts.Begin (calls.Alloc n flags) ∷ rest)) (configuration_by s k (acts.Begin (calls.Alloc n flags) ∷ others))
  served_by_front m k reply other rest others valid from from_too alike goes a a_too under under_too =
      let c = calls.Alloc n flags in
      let h = hints_at_all m b (s.slot 0) in
      let goes_too : goes_to_lfh k.state.vs b ≡ true = ap (λ (st : State). goes_to_lfh st.vs b) (sym alike.state) ∙ goes in
      let show = shown_by n flags reply (shape_of rest) (subst (HasActs c (Replied reply)) (shown_is s c m rest) a.gets.shape) in
      let show_too = shown_by n flags other (shape_of others) (subst (HasActs c (Replied other)) (shown_is s c k others) a_too.gets.shape) in
      let x = sought_from m h reply rest valid from goes refl a under show in
      let y = sought_from k h other others valid from_too goes_too (sym (alike.hints b (s.slot 0))) a_too under_too show_too in
      same s n b flags bucket h _ rest _ others reply other show show_too x y (begun_same s c m k alike) alike.hints
      (outcome s c n b refl bucket h x.at x.within x.whole x.demand x.seeking x.hint_is x.act x.later x.goes x.under (stop_ends n flags reply x.act x.later x.stops (subst (Shown n flags reply) x.shape show)))
      (outcome s c n b refl bucket h y.at y.within y.whole y.demand y.seeking y.hint_is y.act y.later y.goes y.under (stop_ends n flags other y.act y.later y.stops (subst (Shown n flags other) y.shape show_too)))

-- whatever serves it
pub allocation_under_back : (n : ℕ) (flags : Flags) → IsDeterminedUnderBack (calls.Alloc n flags)
allocation_under_back n flags s m k reply other rest others valid from from_too alike a a_too under under_too = by_bucket (bucket_of n) refl
  where
    by_bucket : (o : Option ℕ) → bucket_of n ≡ o → IsSameReply reply other × AreAlike (configuration_by s m (acts.Begin (calls.Alloc n flags) ∷ rest)) (configuration_by s k (acts.Begin (calls.Alloc n flags) ∷ others))
    by_bucket None e = allocation_determined s m k reply other rest others n flags valid from from_too alike (ap (λ (o : Option ℕ). for_some o (goes_to_lfh m.state.vs)) e) a a_too
    by_bucket (Some b) e = elim (cases_Bool (goes_to_lfh m.state.vs b)) [
      | inl goes ↦ served_by_front s n b flags e m k reply other rest others valid from from_too alike goes a a_too under under_too
      | inr out ↦ allocation_determined s m k reply other rest others n flags valid from from_too alike (ap (λ (o : Option ℕ). for_some o (goes_to_lfh m.state.vs)) e ∙ out) a a_too
    ]
