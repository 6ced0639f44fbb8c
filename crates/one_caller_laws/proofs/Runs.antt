-- From single calls to runs of a script.
use Rattle.std.proofs.Common.{append_assoc, ◌≡◌, ℕ, ◌+◌, ◌==◌, Bool, true, false, List, [], ◌∷◌, ◌++◌, Option, Some, None, refl, sym, ap, ◌∙◌, subst}
use Rattle.std.proofs.lemmas.Bool.{and_parts, and_from, false≢true, true≢false}
use Rattle.heap_model.specs.declared.Act.{Act}
use Rattle.heap_model.specs.declared.Act.TheVariants as acts
use Rattle.heap_model.specs.declared.Block.{Block}
use Rattle.heap_model.specs.declared.Call.{Call}
use Rattle.heap_model.specs.declared.Call.TheVariants as calls
use Rattle.heap_model.specs.declared.Reply.{Reply}
use Rattle.heap_model.specs.declared.Reply.TheVariants as replies
use Rattle.heap_model.specs.State.{Setting, State, IsValidSetting, Place, hands}
use Rattle.heap_model.specs.CallState.{Configuration, Demand, Nothing, SpanBy, PlaceBy, UnspanBy, caller_view, is_outside, holds_none}
use Rattle.heap_model.specs.Legal.{may_follow, after, is_empty, meets_demand}
use Rattle.heap_model.specs.History.{first_configuration}
use Rattle.heap_model.specs.Alone.{by_zero, configuration_by, may_all_come}
use Rattle.heap_model.specs.Moments.{Moment, moments_by, acts_of}
use Rattle.heap_model.specs.Served.{IsOneCall, GetsReply, IsWalk, IsAsked, IsServed, by_depth, depth_after}
use Rattle.heap_model.specs.Serial.{IsIdle}
use Rattle.heap_model.proofs.GateSound.{row_of}
use Rattle.heap_model.proofs.Moments.{acts_by}
use Rattle.heap_soundness.proofs.Kept.{demand_met}
use Rattle.serial_laws.proofs.Turns.{first_idle}
use Rattle.search_laws.proofs.Steps.{come_append, by_append}
use Rattle.one_caller_laws.specs.OneCall.{IsBetween, AreAlike, Answers, IsDetermined, IsSameReply}
use Rattle.one_caller_laws.specs.Asked.{Script, IsScripted, Runs, AsksOnly, EachThenAll}

---- A call at the front of acts

-- the moments of the first of these acts, and of the others
pub record Parts (s : Setting) (m : Configuration) (rest : List Act) (made later : List Moment) : Type 0 where
  pub first : List Act
  pub last : List Act
  pub is : rest ≡ first ++ last
  pub made_is : made ≡ moments_by s m first
  pub later_is : later ≡ moments_by s (configuration_by s m first) last

pub parts : (s : Setting) (m : Configuration) (rest : List Act) (made later : List Moment) → moments_by s m rest ≡ made ++ later → Parts s m rest made later
parts s m rest [] later h = record { first = []; last = rest; is = refl; made_is = refl; later_is = sym h }
parts s m [] (x ∷ made) later h = absurd (let z : ⊥ = cc in z)
parts s m (act ∷ rest) (x ∷ made) later h =
    let x_is : record { before = m; act = act } ≡ x = cc in
    let more : moments_by s (after s m (by_zero act)) rest ≡ made ++ later = cc in
    let p = parts s (after s m (by_zero act)) rest made later more in
    record {
      first = act ∷ p.first;
      last = p.last;
      is = ap (λ (l : List Act). act ∷ l) p.is;
      made_is = (λ i. sym x_is i ∷ p.made_is i);
      later_is = p.later_is;
    }

pub come_parts : (s : Setting) (m : Configuration) (xs ys : List Act) → may_all_come s m (xs ++ ys) ≡ true → (may_all_come s m xs ≡ true) × (may_all_come s (configuration_by s m xs) ys ≡ true)
come_parts s m [] ys h = (refl, h)
come_parts s m (act ∷ xs) ys h =
    let p = and_parts (may_follow s m (by_zero act)) (may_all_come s (after s m (by_zero act)) (xs ++ ys)) h in
    let q = come_parts s (after s m (by_zero act)) xs ys p.1 in
    (and_from (may_follow s m (by_zero act)) _ p.0 q.0, q.1)

-- where a call may begin, none is
idle_before : (s : Setting) (m : Configuration) (call : Call) → may_follow s m (by_zero (acts.Begin call)) ≡ true → IsIdle m
idle_before s m call h =
    let k = caller_view m 0 in
    let r1 = and_parts _ (is_empty (hands m.state 0)) (row_of s m (by_zero (acts.Begin call)) h) in
    let r2 = and_parts _ (holds_none k) r1.0 in
    let r3 = and_parts _ (is_outside k) r2.0 in
    record { outside = r3.1; holds = r2.1; hands = empty_is (hands m.state 0) r1.1; demand = nothing m.now.demand (demand_met s m (by_zero (acts.Begin call)) h) }
  where
    empty_is : (ps : List Place) → is_empty ps ≡ true → ps ≡ []
    empty_is [] e = refl
    empty_is (p ∷ ps) e = absurd (false≢true e)

    nothing : (d : Demand) → meets_demand m.state.back.area (by_zero (acts.Begin call)) d ≡ true → d ≡ Nothing
    nothing Nothing e = refl
    nothing (SpanBy c segment) e = absurd (false≢true (and_parts (0 == c) false e).1)
    nothing (PlaceBy c x) e = absurd (false≢true (and_parts (0 == c) false e).1)
    nothing (UnspanBy c first) e = absurd (false≢true (and_parts (0 == c) false e).1)

-- these acts are none, or begin a call
data Starts (rest : List Act) : Type 0 where
  Over : rest ≡ [] → Starts rest
  Begins : (call : Call) (more : List Act) → rest ≡ acts.Begin call ∷ more → Starts rest

-- where the acts that come keep to U, which is so of the parts of a list where it is so of the list
module _ (U : Setting → Configuration → List Act → Bool) (splits : (s : Setting) (m : Configuration) (xs ys : List Act) → U s m (xs ++ ys) ≡ true → (U s m xs ≡ true) × (U s (configuration_by s m xs) ys ≡ true)) where
  -- determined, by such acts
  abbrev pub IsDeterminedWhere : Call → Type 0
  IsDeterminedWhere call = (s : Setting) (m n : Configuration) (reply other : Reply) (rest others : List Act) →
      IsValidSetting s → IsBetween s m → IsBetween s n → AreAlike m n → Answers s m call reply rest → Answers s n call other others →
      U s m (acts.Begin call ∷ rest) ≡ true → U s n (acts.Begin call ∷ others) ≡ true →
      IsSameReply reply other × AreAlike (configuration_by s m (acts.Begin call ∷ rest)) (configuration_by s n (acts.Begin call ∷ others))

  -- a configuration between calls, from which these acts come and end between calls
  record IsFrom (s : Setting) (m : Configuration) (rest : List Act) : Type 0 where
    pub between : IsBetween s m
    pub comes : may_all_come s m rest ≡ true
    pub idle : IsIdle (configuration_by s m rest)
    pub keeps : U s m rest ≡ true

  idle_now : (s : Setting) (m : Configuration) (rest : List Act) → Starts rest → may_all_come s m rest ≡ true → IsIdle (configuration_by s m rest) → IsIdle m
  idle_now s m rest (Over e) h i = subst (λ (l : List Act). IsIdle (configuration_by s m l)) e i
  idle_now s m rest (Begins call more e) h i =
      let h2 : may_all_come s m (acts.Begin call ∷ more) ≡ true = ap (may_all_come s m) (sym e) ∙ h in
      idle_before s m call (and_parts (may_follow s m (by_zero (acts.Begin call))) _ h2).0

  -- one call is behind, if what follows begins a call or nothing
  record OneBehind (s : Setting) (call : Call) (reply : Reply) (m : Configuration) (rest : List Act) (later : List Moment) : Type 0 where
    pub more : List Act
    pub last : List Act
    pub is : rest ≡ (acts.Begin call ∷ more) ++ last
    pub answers : Answers s m call reply more
    pub keeps : U s m (acts.Begin call ∷ more) ≡ true
    pub from : IsFrom s (configuration_by s m (acts.Begin call ∷ more)) last
    pub later_is : later ≡ moments_by s (configuration_by s m (acts.Begin call ∷ more)) last

  one_call : (call : Call) (first : List Act) → IsOneCall call first → (more : List Act) × (first ≡ acts.Begin call ∷ more)
  one_call call (acts.Begin c ∷ more) h = (more, ap (λ (x : Call). acts.Begin x ∷ more) h.0)
  one_call call _ h = absurd h

  one_behind : (s : Setting) (call : Call) (reply : Reply) (m : Configuration) (rest : List Act) (made later : List Moment) → IsFrom s m rest → moments_by s m rest ≡ made ++ later → GetsReply s 0 call reply made →
      ((k : Configuration) (last : List Act) → later ≡ moments_by s k last → Starts last) → OneBehind s call reply m rest later
  one_behind s call reply m rest made later f h g starts =
      let p = parts s m rest made later h in
      let o = one_call call p.first (subst (IsOneCall call) (ap acts_of p.made_is ∙ acts_by s m p.first) g.one) in
      at p.first p.last o.0 p.is o.1 p.made_is p.later_is
    where
      at : (first last more : List Act) → rest ≡ first ++ last → first ≡ acts.Begin call ∷ more → made ≡ moments_by s m first → later ≡ moments_by s (configuration_by s m first) last → OneBehind s call reply m rest later
      at first last more is first_is made_is later_is =
          let all = acts.Begin call ∷ more in
          let is2 : rest ≡ all ++ last = is ∙ ap (λ (l : List Act). l ++ last) first_is in
          let k = configuration_by s m all in
          let c = come_parts s m all last (ap (may_all_come s m) (sym is2) ∙ f.comes) in
          let u = splits s m all last (ap (U s m) (sym is2) ∙ f.keeps) in
          let i : IsIdle (configuration_by s k last) = subst IsIdle (ap (configuration_by s m) is2 ∙ by_append s m all last) f.idle in
          let later2 : later ≡ moments_by s k last = later_is ∙ ap (λ (l : List Act). moments_by s (configuration_by s m l) last) first_is in
          let idle = idle_now s k last (starts k last later2) c.1 i in
          let b = f.between in
          record {
            more = more;
            last = last;
            is = is2;
            answers = record { legal = c.0; gets = subst (GetsReply s 0 call reply) (made_is ∙ ap (moments_by s m) first_is) g; idle = idle };
            keeps = u.0;
            from = record {
              between = record {
                acts = b.acts ++ all;
                legal = come_append s first_configuration b.acts all b.legal (subst (λ (j : Configuration). may_all_come s j all ≡ true) b.leads c.0);
                leads = ap (λ (j : Configuration). configuration_by s j all) b.leads ∙ sym (by_append s first_configuration b.acts all);
                idle = idle;
              };
              comes = c.1;
              idle = i;
              keeps = u.1;
            };
            later_is = later2;
          }

  ---- What begins what is asked

  moments_none : (s : Setting) (k : Configuration) (last : List Act) → [] ≡ moments_by s k last → last ≡ []
  moments_none s k [] h = refl
  moments_none s k (act ∷ last) h = absurd (let z : ⊥ = cc in z)

  gets_starts : (s : Setting) (call : Call) (reply : Reply) (made later : List Moment) (k : Configuration) (last : List Act) → GetsReply s 0 call reply made → made ++ later ≡ moments_by s k last → Starts last
  gets_starts s call reply made later k last g h =
      let p = parts s k last made later (sym h) in
      let o = one_call call p.first (subst (IsOneCall call) (ap acts_of p.made_is ∙ acts_by s k p.first) g.one) in
      Begins call (o.0 ++ p.last) (p.is ∙ ap (λ (l : List Act). l ++ p.last) o.1)

  walk_starts : (s : Setting) (count from : ℕ) (rs : List Reply) (made later : List Moment) (k : Configuration) (last : List Act) → IsWalk (GetsReply s 0) count from rs made → made ++ later ≡ moments_by s k last → Starts last
  walk_starts s count from [] made later k last w h = absurd w
  walk_starts s count from (replies.Seen b ∷ rs) made later k last w h =
      gets_starts s (calls.WalkNext from) (replies.Seen b) w.0 (w.1 ++ later) k last w.3 (sym (ap (λ (l : List Moment). l ++ later) w.2 ∙ append_assoc w.0 w.1 later) ∙ h)
  walk_starts s count from (replies.Walked n ∷ []) made later k last w h = gets_starts s (calls.WalkNext from) (replies.Walked n) made later k last w.1 h
  walk_starts s count from (replies.Walked n ∷ r ∷ rs) made later k last w h = absurd w
  walk_starts s count from (replies.Address a ∷ rs) made later k last w h = absurd w
  walk_starts s count from (replies.Done ∷ rs) made later k last w h = absurd w
  walk_starts s count from (replies.Number n ∷ rs) made later k last w h = absurd w
  walk_starts s count from (replies.NoFit ∷ rs) made later k last w h = absurd w
  walk_starts s count from (replies.NotLive ∷ rs) made later k last w h = absurd w
  walk_starts s count from (replies.NoRoom ∷ rs) made later k last w h = absurd w
  walk_starts s count from (replies.Past n ∷ rs) made later k last w h = absurd w
  walk_starts s count from (replies.Depth ∷ rs) made later k last w h = absurd w
  walk_starts s count from (replies.NotOwner ∷ rs) made later k last w h = absurd w
  walk_starts s count from (replies.NotLocked ∷ rs) made later k last w h = absurd w
  walk_starts s count from (replies.Compacted n ∷ rs) made later k last w h = absurd w

  asked_starts : (s : Setting) (call : Call) (rs : List Reply) (made later : List Moment) (k : Configuration) (last : List Act) → IsAsked (GetsReply s 0) call rs made → made ++ later ≡ moments_by s k last → Starts last
  asked_starts s (calls.WalkNext from) rs made later k last a h = walk_starts s 0 from rs made later k last a h
  asked_starts s call rs made later k last a h = gets_starts s call a.0 made later k last a.2 h

  scripted_starts : (s : Setting) (script : Script) (depth : ℕ) (before : List Reply) (asked : List Call) (rs : List Reply) (xs : List Moment) (k : Configuration) (last : List Act) → IsScripted (GetsReply s 0) script depth before asked rs xs → xs ≡ moments_by s k last → Starts last
  scripted_starts s script depth before [] rs xs k last a h = Over (moments_none s k last (sym a.2 ∙ h))
  scripted_starts s script depth before (call ∷ asked) rs xs k last a h =
      either (by_depth depth call) a.1.6 (λ e. scripted_starts s script (depth_after depth call a.1.0) (before ++ a.1.0) asked a.1.1 a.1.3 k last a.1.7 e)
    where
      either : (o : Option Reply) → IsServed (GetsReply s 0) o call a.1.0 a.1.2 → (a.1.3 ≡ moments_by s k last → Starts last) → Starts last
      either (Some r) v go = go (sym (a.1.5 ∙ ap (λ (l : List Moment). l ++ a.1.3) v.1) ∙ h)
      either None v go = asked_starts s call a.1.0 a.1.2 a.1.3 k last v (sym a.1.5 ∙ h)

  ---- What is asked, in both

  -- both have come to where the rest begins, with the same replies
  record Both (s : Setting) (m : Configuration) (rest : List Act) (n : Configuration) (others : List Act) (its its_too : List Reply) (later later_too : List Moment) : Type 0 where
    pub same : its ≡ its_too
    pub at : Configuration
    pub last : List Act
    pub at_too : Configuration
    pub last_too : List Act
    pub alike : AreAlike at at_too
    pub from : IsFrom s at last
    pub from_too : IsFrom s at_too last_too
    pub later_is : later ≡ moments_by s at last
    pub later_too_is : later_too ≡ moments_by s at_too last_too
    pub ends : configuration_by s m rest ≡ configuration_by s at last
    pub ends_too : configuration_by s n others ≡ configuration_by s at_too last_too

  -- what begins in the acts behind
  abbrev AllStart : Setting → List Moment → Type 0
  AllStart s later = (k : Configuration) (last : List Act) → later ≡ moments_by s k last → Starts last

  -- one call
  record OneOfBoth (s : Setting) (m : Configuration) (rest : List Act) (n : Configuration) (others : List Act) (reply reply_too : Reply) (later later_too : List Moment) : Type 0 where
    pub same : IsSameReply reply reply_too
    pub both : (its : List Reply) → Both s m rest n others its its later later_too

  one_of_both : (s : Setting) (call : Call) (m : Configuration) (rest : List Act) (n : Configuration) (others : List Act) (reply reply_too : Reply) (made made_too later later_too : List Moment) → IsValidSetting s → IsDeterminedWhere call → AreAlike m n →
      IsFrom s m rest → IsFrom s n others → moments_by s m rest ≡ made ++ later → moments_by s n others ≡ made_too ++ later_too → GetsReply s 0 call reply made → GetsReply s 0 call reply_too made_too → AllStart s later → AllStart s later_too →
      OneOfBoth s m rest n others reply reply_too later later_too
  one_of_both s call m rest n others reply reply_too made made_too later later_too valid det alike f g e h p q a b =
      let x = one_behind s call reply m rest made later f e p a in
      let y = one_behind s call reply_too n others made_too later_too g h q b in
      let d = det s m n reply reply_too x.more y.more valid f.between g.between alike x.answers y.answers x.keeps y.keeps in
      record {
        same = d.0;
        both = λ its. record {
          same = refl;
          at = configuration_by s m (acts.Begin call ∷ x.more);
          last = x.last;
          at_too = configuration_by s n (acts.Begin call ∷ y.more);
          last_too = y.last;
          alike = d.1;
          from = x.from;
          from_too = y.from;
          later_is = x.later_is;
          later_too_is = y.later_is;
          ends = ap (configuration_by s m) x.is ∙ by_append s m (acts.Begin call ∷ x.more) x.last;
          ends_too = ap (configuration_by s n) y.is ∙ by_append s n (acts.Begin call ∷ y.more) y.last;
        };
      }

  -- a walk: each reply sees a block, or is the number of those before
  data WalkEnds (s : Setting) (count from : ℕ) (rs : List Reply) (xs : List Moment) : Type 0 where
    Ends : (n : ℕ) → rs ≡ replies.Walked n ∷ [] → n ≡ count → GetsReply s 0 (calls.WalkNext from) (replies.Walked n) xs → WalkEnds s count from rs xs
    GoesOn : (b : Block) (more : List Reply) (its later : List Moment) → rs ≡ replies.Seen b ∷ more → xs ≡ its ++ later → GetsReply s 0 (calls.WalkNext from) (replies.Seen b) its → IsWalk (GetsReply s 0) (count + 1) (b.addr + 1) more later → WalkEnds s count from rs xs

  walk_ends : (s : Setting) (count from : ℕ) (rs : List Reply) (xs : List Moment) → IsWalk (GetsReply s 0) count from rs xs → WalkEnds s count from rs xs
  walk_ends s count from [] xs w = absurd w
  walk_ends s count from (replies.Seen b ∷ rs) xs w = GoesOn b rs w.0 w.1 refl w.2 w.3 w.4
  walk_ends s count from (replies.Walked n ∷ []) xs w = Ends n refl w.0 w.1
  walk_ends s count from (replies.Walked n ∷ r ∷ rs) xs w = absurd w
  walk_ends s count from (replies.Address a ∷ rs) xs w = absurd w
  walk_ends s count from (replies.Done ∷ rs) xs w = absurd w
  walk_ends s count from (replies.Number n ∷ rs) xs w = absurd w
  walk_ends s count from (replies.NoFit ∷ rs) xs w = absurd w
  walk_ends s count from (replies.NotLive ∷ rs) xs w = absurd w
  walk_ends s count from (replies.NoRoom ∷ rs) xs w = absurd w
  walk_ends s count from (replies.Past n ∷ rs) xs w = absurd w
  walk_ends s count from (replies.Depth ∷ rs) xs w = absurd w
  walk_ends s count from (replies.NotOwner ∷ rs) xs w = absurd w
  walk_ends s count from (replies.NotLocked ∷ rs) xs w = absurd w
  walk_ends s count from (replies.Compacted n ∷ rs) xs w = absurd w

  seen_is : (b d : Block) → IsSameReply (replies.Seen b) (replies.Seen d) → b ≡ d
  seen_is b d h = let same : b ≡ d = cc in same

  walk_of_both : (s : Setting) (rs rs_too : List Reply) (count from : ℕ) (m : Configuration) (rest : List Act) (n : Configuration) (others : List Act) (made made_too later later_too : List Moment) → IsValidSetting s → ((from : ℕ) → IsDeterminedWhere (calls.WalkNext from)) → AreAlike m n →
      IsFrom s m rest → IsFrom s n others → moments_by s m rest ≡ made ++ later → moments_by s n others ≡ made_too ++ later_too → IsWalk (GetsReply s 0) count from rs made → IsWalk (GetsReply s 0) count from rs_too made_too → AllStart s later → AllStart s later_too →
      Both s m rest n others rs rs_too later later_too
  walk_of_both s [] rs_too count from m rest n others made made_too later later_too valid det alike f g e h w v a b = absurd w
  walk_of_both s (replies.Walked c ∷ []) rs_too count from m rest n others made made_too later later_too valid det alike f g e h w v a b = by_other (walk_ends s count from rs_too made_too v)
    where
      by_other : WalkEnds s count from rs_too made_too → Both s m rest n others (replies.Walked c ∷ []) rs_too later later_too
      by_other (Ends d is d_is gets) =
          let x = one_of_both s (calls.WalkNext from) m rest n others (replies.Walked c) (replies.Walked d) made made_too later later_too valid (det from) alike f g e h w.1 gets a b in
          let same : replies.Walked c ∷ [] ≡ rs_too = ap (λ (k : ℕ). replies.Walked k ∷ []) (w.0 ∙ sym d_is) ∙ sym is in
          subst (λ (l : List Reply). Both s m rest n others (replies.Walked c ∷ []) l later later_too) same (x.both (replies.Walked c ∷ []))
      by_other (GoesOn d more its after_its is parts_are gets walks) =
          let x = one_of_both s (calls.WalkNext from) m rest n others (replies.Walked c) (replies.Seen d) made its later (after_its ++ later_too) valid (det from) alike f g e (h ∙ ap (λ (l : List Moment). l ++ later_too) parts_are ∙ append_assoc its after_its later_too) w.1 gets a
          (λ k last q. walk_starts s (count + 1) (d.addr + 1) more after_its later_too k last walks q) in
          absurd (let z : replies.Walked c ≡ replies.Seen d = x.same in let bad : ⊥ = cc in bad)
  walk_of_both s (replies.Seen c ∷ rs) rs_too count from m rest n others made made_too later later_too valid det alike f g e h w v a b =
      elim (walk_ends s count from rs_too made_too v) [
        | Ends d is d_is gets ↦
            let x = one_of_both s (calls.WalkNext from) m rest n others (replies.Seen c) (replies.Walked d) w.0 made_too (w.1 ++ later) later_too valid (det from) alike f g
            (e ∙ ap (λ (l : List Moment). l ++ later) w.2 ∙ append_assoc w.0 w.1 later) h w.3 gets (λ k last q. walk_starts s (count + 1) (c.addr + 1) rs w.1 later k last w.4 q) b in
            absurd (let z : replies.Seen c ≡ replies.Walked d = x.same in let bad : ⊥ = cc in bad)
        | GoesOn d more its after_its is parts_are gets walks ↦
            let x = one_of_both s (calls.WalkNext from) m rest n others (replies.Seen c) (replies.Seen d) w.0 its (w.1 ++ later) (after_its ++ later_too) valid (det from) alike f g
            (e ∙ ap (λ (l : List Moment). l ++ later) w.2 ∙ append_assoc w.0 w.1 later) (h ∙ ap (λ (l : List Moment). l ++ later_too) parts_are ∙ append_assoc its after_its later_too) w.3 gets
            (λ k last q. walk_starts s (count + 1) (c.addr + 1) rs w.1 later k last w.4 q) (λ k last q. walk_starts s (count + 1) (d.addr + 1) more after_its later_too k last walks q) in
            let y = x.both [] in
            let same = seen_is c d x.same in
            let walks_too = subst (λ (z : Block). IsWalk (GetsReply s 0) (count + 1) (z.addr + 1) more after_its) (sym same) walks in
            let r = walk_of_both s rs more (count + 1) (c.addr + 1) y.at y.last y.at_too y.last_too w.1 after_its later later_too valid det y.alike y.from y.from_too (sym y.later_is) (sym y.later_too_is) w.4 walks_too a b in
            record {
              same = (λ i. replies.Seen (same i) ∷ r.same i) ∙ sym is;
              at = r.at;
              last = r.last;
              at_too = r.at_too;
              last_too = r.last_too;
              alike = r.alike;
              from = r.from;
              from_too = r.from_too;
              later_is = r.later_is;
              later_too_is = r.later_too_is;
              ends = y.ends ∙ r.ends;
              ends_too = y.ends_too ∙ r.ends_too;
            }
      ]
  walk_of_both s (replies.Walked c ∷ r ∷ rs) rs_too count from m rest n others made made_too later later_too valid det alike f g e h w v a b = absurd w
  walk_of_both s (replies.Address c ∷ rs) rs_too count from m rest n others made made_too later later_too valid det alike f g e h w v a b = absurd w
  walk_of_both s (replies.Done ∷ rs) rs_too count from m rest n others made made_too later later_too valid det alike f g e h w v a b = absurd w
  walk_of_both s (replies.Number c ∷ rs) rs_too count from m rest n others made made_too later later_too valid det alike f g e h w v a b = absurd w
  walk_of_both s (replies.NoFit ∷ rs) rs_too count from m rest n others made made_too later later_too valid det alike f g e h w v a b = absurd w
  walk_of_both s (replies.NotLive ∷ rs) rs_too count from m rest n others made made_too later later_too valid det alike f g e h w v a b = absurd w
  walk_of_both s (replies.NoRoom ∷ rs) rs_too count from m rest n others made made_too later later_too valid det alike f g e h w v a b = absurd w
  walk_of_both s (replies.Past c ∷ rs) rs_too count from m rest n others made made_too later later_too valid det alike f g e h w v a b = absurd w
  walk_of_both s (replies.Depth ∷ rs) rs_too count from m rest n others made made_too later later_too valid det alike f g e h w v a b = absurd w
  walk_of_both s (replies.NotOwner ∷ rs) rs_too count from m rest n others made made_too later later_too valid det alike f g e h w v a b = absurd w
  walk_of_both s (replies.NotLocked ∷ rs) rs_too count from m rest n others made made_too later later_too valid det alike f g e h w v a b = absurd w
  walk_of_both s (replies.Compacted c ∷ rs) rs_too count from m rest n others made made_too later later_too valid det alike f g e h w v a b = absurd w

  -- a walk alone is answered with a number of blocks
  abbrev is_walk : Call → Bool
  is_walk (calls.WalkNext from) = true
  is_walk _ = false

  not_walked : (s : Setting) (call : Call) (n : ℕ) (xs : List Moment) → is_walk call ≡ false → GetsReply s 0 call (replies.Walked n) xs → ⊥
  not_walked s (calls.WalkNext from) n xs w g = true≢false w
  not_walked s (calls.Alloc size flags) n xs w g = g.shape
  not_walked s (calls.Free a) n xs w g = g.shape
  not_walked s (calls.Realloc a size flags) n xs w g = g.shape
  not_walked s (calls.Size a) n xs w g = g.shape
  not_walked s (calls.Get a index) n xs w g = g.shape
  not_walked s (calls.Put a index v) n xs w g = g.shape
  not_walked s calls.Lock n xs w g = g.shape
  not_walked s calls.Unlock n xs w g = g.shape
  not_walked s calls.Compact n xs w g = g.shape
  not_walked s calls.Stay n xs w g = g.shape

  one_reply : (r q : Reply) → ((n : ℕ) → r ≡ replies.Walked n → ⊥) → IsSameReply r q → r ≡ q
  one_reply (replies.Walked n) q none h = absurd (none n refl)
  one_reply (replies.Address a) q none h = h
  one_reply replies.Done q none h = h
  one_reply (replies.Number n) q none h = h
  one_reply replies.NoFit q none h = h
  one_reply replies.NotLive q none h = h
  one_reply replies.NoRoom q none h = h
  one_reply (replies.Past n) q none h = h
  one_reply replies.Depth q none h = h
  one_reply replies.NotOwner q none h = h
  one_reply replies.NotLocked q none h = h
  one_reply (replies.Seen b) q none h = h
  one_reply (replies.Compacted n) q none h = h

  module _ (s : Setting) (valid : IsValidSetting s) (m : Configuration) (rest : List Act) (n : Configuration) (others : List Act) (rs rs_too : List Reply) (made made_too later later_too : List Moment) (alike : AreAlike m n)
      (f : IsFrom s m rest) (g : IsFrom s n others) (e : moments_by s m rest ≡ made ++ later) (h : moments_by s n others ≡ made_too ++ later_too) (a : AllStart s later) (b : AllStart s later_too) where
    single : (call : Call) → is_walk call ≡ false → IsDeterminedWhere call → (r : Reply) × (rs ≡ r ∷ []) × GetsReply s 0 call r made → (r : Reply) × (rs_too ≡ r ∷ []) × GetsReply s 0 call r made_too → Both s m rest n others rs rs_too later later_too
    single call w det x y =
        let o = one_of_both s call m rest n others x.0 y.0 made made_too later later_too valid det alike f g e h x.2 y.2 a b in
        let r = one_reply x.0 y.0 (λ k q. not_walked s call k made w (subst (λ (z : Reply). GetsReply s 0 call z made) q x.2)) o.same in
        let same : rs ≡ rs_too = x.1 ∙ ap (λ (z : Reply). z ∷ []) r ∙ sym y.1 in
        subst (λ (l : List Reply). Both s m rest n others rs l later later_too) same (o.both rs)

    asked_of_both : (call : Call) → IsDeterminedWhere call → ((from : ℕ) → IsDeterminedWhere (calls.WalkNext from)) → IsAsked (GetsReply s 0) call rs made → IsAsked (GetsReply s 0) call rs_too made_too → Both s m rest n others rs rs_too later later_too
    asked_of_both (calls.WalkNext from) det walks x y = walk_of_both s rs rs_too 0 from m rest n others made made_too later later_too valid walks alike f g e h x y a b
    asked_of_both (calls.Alloc size flags) det walks x y = single (calls.Alloc size flags) refl det x y
    asked_of_both (calls.Free q) det walks x y = single (calls.Free q) refl det x y
    asked_of_both (calls.Realloc q size flags) det walks x y = single (calls.Realloc q size flags) refl det x y
    asked_of_both (calls.Size q) det walks x y = single (calls.Size q) refl det x y
    asked_of_both (calls.Get q index) det walks x y = single (calls.Get q index) refl det x y
    asked_of_both (calls.Put q index v) det walks x y = single (calls.Put q index v) refl det x y
    asked_of_both calls.Lock det walks x y = single calls.Lock refl det x y
    asked_of_both calls.Unlock det walks x y = single calls.Unlock refl det x y
    asked_of_both calls.Compact det walks x y = single calls.Compact refl det x y
    asked_of_both calls.Stay det walks x y = single calls.Stay refl det x y

    -- .. where the depth may answer
    served_of_both : (o : Option Reply) (call : Call) → IsDeterminedWhere call → ((from : ℕ) → IsDeterminedWhere (calls.WalkNext from)) → IsServed (GetsReply s 0) o call rs made → IsServed (GetsReply s 0) o call rs_too made_too → Both s m rest n others rs rs_too later later_too
    served_of_both None call det walks x y = asked_of_both call det walks x y
    served_of_both (Some r) call det walks x y = record {
      same = x.0 ∙ sym y.0;
      at = m;
      last = rest;
      at_too = n;
      last_too = others;
      alike = alike;
      from = f;
      from_too = g;
      later_is = sym (ap (λ (l : List Moment). l ++ later) x.1) ∙ sym e;
      later_too_is = sym (ap (λ (l : List Moment). l ++ later_too) y.1) ∙ sym h;
      ends = refl;
      ends_too = refl;
    }

  ---- Runs

  both_run : (s : Setting) (script : Script) (asked asked_too : List Call) (depth : ℕ) (before rs rs_too : List Reply) (m : Configuration) (rest : List Act) (n : Configuration) (others : List Act) → IsValidSetting s → AsksOnly IsDeterminedWhere script → ((from : ℕ) → IsDeterminedWhere (calls.WalkNext from)) → AreAlike m n → IsFrom s m rest → IsFrom s n others →
      IsScripted (GetsReply s 0) script depth before asked rs (moments_by s m rest) → IsScripted (GetsReply s 0) script depth before asked_too rs_too (moments_by s n others) → (rs ≡ rs_too) × AreAlike (configuration_by s m rest) (configuration_by s n others)
  both_run s script [] [] depth before rs rs_too m rest n others valid det walks alike f g x y =
      let p = moments_none s m rest (sym x.2) in
      let q = moments_none s n others (sym y.2) in
      (x.1 ∙ sym y.1, subst (λ (l : List Act). AreAlike (configuration_by s m l) (configuration_by s n others)) (sym p) (subst (λ (l : List Act). AreAlike m (configuration_by s n l)) (sym q) alike))
  both_run s script [] (c ∷ cs) depth before rs rs_too m rest n others valid det walks alike f g x y = absurd (let z : None ≡ Some c = sym x.0 ∙ y.0 in let bad : ⊥ = cc in bad)
  both_run s script (c ∷ cs) [] depth before rs rs_too m rest n others valid det walks alike f g x y = absurd (let z : Some c ≡ None = sym x.0 ∙ y.0 in let bad : ⊥ = cc in bad)
  both_run s script (call ∷ asked) (other ∷ asked_too) depth before rs rs_too m rest n others valid det walks alike f g x y =
      let z : Some other ≡ Some call = sym y.0 ∙ x.0 in
      let same_call : other ≡ call = cc in
      let v = y.1 in
      let served = subst (λ (c : Call). IsServed (GetsReply s 0) (by_depth depth c) c v.0 v.2) same_call v.6 in
      let u = x.1 in
      let b = served_of_both s valid m rest n others u.0 v.0 u.2 v.2 u.3 v.3 alike f g u.5 v.5
      (λ k last q. scripted_starts s script (depth_after depth call u.0) (before ++ u.0) asked u.1 u.3 k last u.7 q)
      (λ k last q. scripted_starts s script (depth_after depth other v.0) (before ++ v.0) asked_too v.1 v.3 k last v.7 q)
      (by_depth depth call) call (det before call x.0) walks u.6 served in
      let x2 = subst (IsScripted (GetsReply s 0) script (depth_after depth call u.0) (before ++ u.0) asked u.1) b.later_is u.7 in
      let y2 = subst (IsScripted (GetsReply s 0) script (depth_after depth call u.0) (before ++ u.0) asked_too v.1) b.later_too_is
      (subst (λ (l : List Reply). IsScripted (GetsReply s 0) script (depth_after depth call l) (before ++ l) asked_too v.1 v.3) (sym b.same)
      (subst (λ (c : Call). IsScripted (GetsReply s 0) script (depth_after depth c v.0) (before ++ v.0) asked_too v.1 v.3) same_call v.7)) in
      let r = both_run s script asked asked_too (depth_after depth call u.0) (before ++ u.0) u.1 v.1 b.at b.last b.at_too b.last_too valid det walks b.alike b.from b.from_too x2 y2 in (
        u.4 ∙ (λ i. b.same i ++ r.0 i) ∙ sym v.4,
        subst (λ (k : Configuration). AreAlike k (configuration_by s n others)) (sym b.ends) (subst (λ (k : Configuration). AreAlike (configuration_by s b.at b.last) k) (sym b.ends_too) r.1),
      )

  self_alike : (m : Configuration) → AreAlike m m
  self_alike m = record { state = refl; searches = refl; hints = λ b t. refl }

  from_first : (s : Setting) (script : Script) (replies_are : List Reply) (state : State) (r : Runs s script replies_are state) → U s first_configuration r.acts ≡ true → IsFrom s first_configuration r.acts
  from_first s script replies_are state r u = record { between = record { acts = []; legal = refl; leads = refl; idle = first_idle }; comes = r.legal; idle = r.idle; keeps = u }

  pub runs_are_one : ((from : ℕ) → IsDeterminedWhere (calls.WalkNext from)) → (s : Setting) (script : Script) → IsValidSetting s → AsksOnly IsDeterminedWhere script → (rs rs_too : List Reply) (state other : State) (x : Runs s script rs state) (y : Runs s script rs_too other) →
      U s first_configuration x.acts ≡ true → U s first_configuration y.acts ≡ true → (rs ≡ rs_too) × (state ≡ other)
  runs_are_one walks s script valid det rs rs_too state other x y u v =
      let r = both_run s script x.calls y.calls 0 [] rs rs_too first_configuration x.acts first_configuration y.acts valid det walks (self_alike first_configuration) (from_first s script rs state x u) (from_first s script rs_too other y v) x.scripted y.scripted in
      (r.0, x.ends ∙ r.1.state ∙ sym y.ends)

---- By any acts

abbrev any_acts : Setting → Configuration → List Act → Bool
any_acts s m rest = true

determined_by_any : (call : Call) → IsDetermined call → IsDeterminedWhere any_acts (λ s m xs ys e. (refl, refl)) call
determined_by_any call det s m n reply other rest others valid b c alike x y u v = det s m n reply other rest others valid b c alike x y

pub each_then_all : ((from : ℕ) → IsDetermined (calls.WalkNext from)) → EachThenAll
each_then_all walks s script valid det rs rs_too state other x y =
    runs_are_one any_acts (λ s m xs ys e. (refl, refl)) (λ from. determined_by_any (calls.WalkNext from) (walks from)) s script valid (λ before call e. determined_by_any call (det before call e)) rs rs_too state other x y refl refl
