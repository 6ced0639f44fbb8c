-- What callers know that have met, and the root that has made a caller or taken one in.
use Rattle.std.proofs.Common.{◌≡◌, ⊎_elim, ℕ, ◌+◌, ◌<◌, ◌≤◌, Bool, true, false, not, ◌&&◌, ◌||◌, ◌==◌, ◌⊎◌, eq-eqb, cond, List, [], ◌∷◌, ◌++◌, length, refl, sym, ap, ◌∙◌, subst, arith, Option, Some, None, length-append}
use Rattle.std.specs.Prelude.{nat_lt}
use Rattle.std.proofs.lemmas.Bool.{and_parts, ltb-false, false≢true}
use mathlib.Core.List.{IsPrefix}
use Rattle.atomic_table.specs.Table.{Me, Step}
use Rattle.atomic_table.specs.Seated.{TableId}
use Rattle.rand_core.specs.Stream.{Stream}
use Rattle.heap_model.specs.declared.Call.{Call}
use Rattle.heap_model.specs.declared.What.{What}
use Rattle.heap_model.specs.declared.What.TheVariants as whats
use Rattle.heap_model.specs.declared.Entry.{Entry}
use Rattle.heap_model.specs.State.{Setting, is_among}
use Rattle.heap_model.specs.CallState.{Configuration, Nothing, holds_none}
use Rattle.heap_model.specs.History.{configuration_after, configuration_of, first_configuration, own}
use Rattle.heap_model.specs.Agreement.{AgreesFor}
use Rattle.heap_model.proofs.GateSound.{gate_sound_after, gate_sound_first}
use Rattle.heap_model.proofs.Others.{agrees_others}
use Rattle.heap_model.proofs.Stable.{caller_view_same, same_hands}
use Rattle.claim_rule.specs.declared.views.Assignment.{Assignment}
use Rattle.heap_model.specs.declared.Opening.{Opening}
use Rattle.claim_rule.specs.declared.views.Role.{Role}
use Rattle.claim_rule.specs.declared.views.Role.TheVariants.{Caller, Root}
use Rattle.claim_rule.specs.declared.views.Lead.{Lead}
use Rattle.claim_rule.specs.declared.views.View.{View}
use Rattle.claim_rule.specs.Entries.{IsSettingOf, IsLegalWith, is_named, slot_at}
use Rattle.claim_rule.specs.Rule.{are_distinct, longer, relay, told, taken_in, dealing, dealing_role, dealt, joined_role}
use Rattle.claim_rule.specs.Plays.{agreed, numbered, heard_all, number_of}
use Rattle.claim_rule.proofs.Lists.{after-append, follow_parts, legal_parts, none_between, named_more, setting_less, prefix_more, prefix_self, prefix_trans, slot_before}
use Rattle.claim_rule.proofs.Seats.{at_joined}
use Rattle.random_pick.specs.CallerDraws.{IsBeforeDraw}
use Rattle.heap_gate.specs.Token.{Token, IsAt, IsCaller, AreOut, outs, search_marks}
use Rattle.heap_gate.specs.Seated.{Face, tok}
use Rattle.heap_gate.specs.Roots.{IsIdle, HaveMet, IsRoot, root_token, HasJoined, AreTheirs, joined_of, roll_in, lists_of, lead_at}
use Rattle.heap_gate.proofs.Standing.{at_agrees, none_of}

-- entries of others leave what n alone decides
pub agrees_longer : (s : Setting) (n : ℕ) (xs ys : List Entry) → Rattle.heap_model.specs.History.is_legal s ys ≡ true → IsPrefix xs ys → own n ys ≡ own n xs → AgreesFor n (configuration_of s ys) (configuration_of s xs)
agrees_longer s n xs ys l p o =
    let all = (legal_parts s ys l).0 in
    let parts = follow_parts s first_configuration xs p.0 (ap (Rattle.heap_model.specs.History.may_all_follow s first_configuration) p.1 ∙ all) in
    subst (λ (m : Configuration). AgreesFor n m (configuration_of s xs)) (sym (after-append s first_configuration xs p.0) ∙ ap (configuration_of s) p.1)
    (agrees_others s (configuration_of s xs) n p.0 (none_between n ys xs p o) parts.1 (gate_sound_after s first_configuration xs parts.0 gate_sound_first))

pub idle_agrees : (s : Setting) (n : ℕ) (m k : Configuration) → AgreesFor n m k → IsIdle n k → IsIdle n m
idle_agrees s n m k r h = record { counted = r.counted ∙ h.counted; owner = r.owner ∙ h.owner; locks = ap holds_none (caller_view_same n m k r) ∙ h.locks; hands = same_hands s n m k r ∙ h.hands }

pub idle_of : (m : Configuration) (n : ℕ) (call : Option Call) (fresh whole : Bool) → IsAt m n call fresh false 0 [] whole true → IsIdle n m
idle_of m n call fresh whole h = record { counted = absent (is_among n m.state.gate.counted) h.entered; owner = h.owns; locks = none_of m n call 0 [] fresh false whole true refl h; hands = h.hands refl }
  where
    absent : (a : Bool) → (a && not (is_among n m.state.gate.turning)) ≡ false → a ≡ false
    absent true e = absurd (false≢true (sym e ∙ ap not h.turning))
    absent false e = refl

or_right : (a b : Bool) → b ≡ true → (a || b) ≡ true
or_right true b e = refl
or_right false b e = e

-- a caller that joined before is not the one that joins now
kept_of : (n : ℕ) (J : List ℕ) (xs ys : List Entry) → are_distinct (n ∷ J) ≡ true → ((m : ℕ) → is_among m (n ∷ J) ≡ true → (n + 1 ≡ m + 1) ⊎ (own m ys ≡ own m xs)) → (m : ℕ) → is_among m J ≡ true → own m ys ≡ own m xs
kept_of n J xs ys once kept m h =
    let apart : not (is_among n J) ≡ true = (and_parts (not (is_among n J)) (are_distinct J) once).0 in
    ⊎_elim
    (λ (e : n + 1 ≡ m + 1). let same : n ≡ m = omega arith in absurd (false≢true (sym (ap not (ap (λ (x : ℕ). is_among x J) same ∙ h)) ∙ apart)))
    (λ (e : own m ys ≡ own m xs). e)
    (kept m (or_right (n == m) (is_among m J) h))

theirs_still : (J : List ℕ) (L : List (List Entry)) (xs ys : List Entry) → IsPrefix xs ys → ((m : ℕ) → is_among m J ≡ true → own m ys ≡ own m xs) → AreTheirs J L xs → AreTheirs J L ys
theirs_still [] [] xs ys p kept h = tt
theirs_still [] (l ∷ L) xs ys p kept h = h
theirs_still (n ∷ J) [] xs ys p kept h = h
theirs_still (n ∷ J) (l ∷ L) xs ys p kept h =
    (prefix_trans l xs ys h.0 p, kept n (ap (λ (b : Bool). b || is_among n J) (eq-eqb n n refl)) ∙ h.1, theirs_still J L xs ys p (λ m e. kept m (or_right (n == m) (is_among m J) e)) h.2)

prefix_whole : {A : Type 0} (xs ys : List A) → IsPrefix xs ys → length ys ≤ length xs → xs ≡ ys
prefix_whole [] [] p le = refl
prefix_whole [] (y ∷ ys) p le = absurd (omega arith)
prefix_whole (x ∷ xs) [] p le = absurd (cc (p.1))
prefix_whole (x ∷ xs) (y ∷ ys) p le = let rest = prefix_whole xs ys (p.0, cc (p.1)) (omega arith) in cc (p.1, rest)

longer_if : {A : Type 0} (xs ys : List A) → IsPrefix xs ys → (b : Bool) → nat_lt (length xs) (length ys) ≡ b → cond b ys xs ≡ ys
longer_if xs ys p true e = refl
longer_if xs ys p false e = let l = ltb-false (length xs) (length ys) e in prefix_whole xs ys p (omega arith)

-- the longer of a list and a list that it begins
longer_is : {A : Type 0} (xs ys : List A) → IsPrefix xs ys → longer xs ys ≡ ys
longer_is xs ys p = longer_if xs ys p (nat_lt (length xs) (length ys)) refl

module _ {T : Type 0} where
  -- a seat that heard of a list has taken the longer
  pub record HasTaken (n : ℕ) (me me' : Me (Option T) View) (roll : List Assignment) (list : List Entry) : Type 0 where
    pub seen_is : me'.0.seen ≡ longer me.0.seen list
    pub roll_is : me'.0.roll ≡ longer me.0.roll roll
    pub seen : IsPrefix me.0.seen me'.0.seen
    pub heard : IsPrefix list me'.0.seen
    pub roll_begins : IsPrefix me.0.roll me'.0.roll
    pub heard_roll : IsPrefix roll me'.0.roll
    pub own_is : own n me'.0.seen ≡ own n me.0.seen
    pub legal : IsLegalWith me'.0.opening me'.0.roll me'.0.seen
    pub opening : me'.0.opening ≡ me.0.opening
    pub role : me'.0.role ≡ me.0.role
    pub slots : me'.1 ≡ me.1
    pub owes : me'.0.owes ≡ me.0.owes

  taken : (n : ℕ) (me me1 me' : Me (Option T) View) (w : View) (st : Step (Option T)) (r : ℕ) → me.0.role ≡ Caller n → me1 ≡ (told me.0 w, me.1) → agreed st me1 r me' → HasTaken n me me' w.roll w.seen
  taken n me me1 me' w st r is e a = go (subst (λ (m : Me (Option T) View). agreed st m r me') e a)
    where
      go : agreed st (told me.0 w, me.1) r me' → HasTaken n me me' w.roll w.seen
      go b = record {
        seen_is = b.seen_is;
        roll_is = b.roll_is;
        seen = b.seen;
        heard = b.heard;
        roll_begins = b.roll;
        heard_roll = b.heard_roll;
        own_is = subst (λ (k : ℕ). own k me'.0.seen ≡ own k me.0.seen) (ap number_of is) b.own_is;
        legal = b.legal;
        opening = b.opening;
        role = b.role;
        slots = b.slots;
        owes = b.owes;
      }

  pub meets : (na nb : ℕ) (a a1 a2 a3 b b1 b2 b3 n1 n2 : Me (Option T) View) (st st' : Step (Option T)) (r r' : ℕ) → a.0.role ≡ Caller na → b.0.role ≡ Caller nb
      → a1 ≡ a → n1 ≡ (relay a.0, []) → b1 ≡ (told b.0 n1.0, b.1) → agreed st b1 r b2 → b3 ≡ b2 → n2 ≡ (relay b2.0, []) → a2 ≡ (told a1.0 n2.0, a1.1) → agreed st' a2 r' a3
      → HasTaken nb b b3 a.0.roll a.0.seen × HasTaken na a a3 b3.0.roll b3.0.seen
  meets na nb a a1 a2 a3 b b1 b2 b3 n1 n2 st st' r r' ra rb ea en eb ab eb' en' ea' aa =
      let tb : HasTaken nb b b2 a.0.roll a.0.seen = taken nb b b1 b2 (relay a.0) st r rb (eb ∙ ap (λ (m : Me (Option T) View). (told b.0 m.0, b.1)) en) ab in
      let ta : HasTaken na a a3 b2.0.roll b2.0.seen = taken na a a2 a3 (relay b2.0) st' r' ra (ea' ∙ (ap (λ (m : Me (Option T) View). (told a1.0 m.0, a1.1)) en' ∙ ap (λ (m : Me (Option T) View). (told m.0 (relay b2.0), m.1)) ea)) aa in
      (subst (λ (m : Me (Option T) View). HasTaken nb b m a.0.roll a.0.seen) (sym eb') tb, subst (λ (m : Me (Option T) View). HasTaken na a a3 m.0.roll m.0.seen) (sym eb') ta)

  module _ (z : TableId) (me : Me (Option T) View) (f : Face) (slot : ℕ) (stream : Stream) (h : IsCaller me (tok z me f) slot stream) (none : f.prepared ≡ []) (me' : Me (Option T) View) (roll : List Assignment) (list : List Entry) (t : HasTaken f.number me me' roll list) where
    setting_was : (s : Setting) → IsSettingOf me'.0.opening me'.0.roll s → IsSettingOf me.0.opening me.0.roll s
    setting_was s q = setting_less me.0.opening me.0.roll me'.0.roll s t.roll_begins (subst (λ (o : Opening). IsSettingOf o me'.0.roll s) t.opening q)

    pub agrees_taken : (s : Setting) → IsSettingOf me'.0.opening me'.0.roll s → AgreesFor f.number (configuration_after s (configuration_of s me'.0.seen) f.prepared) (configuration_after s (configuration_of s me.0.seen) f.prepared)
    agrees_taken s q = subst (λ (x : List Entry). AgreesFor f.number (configuration_after s (configuration_of s me'.0.seen) x) (configuration_after s (configuration_of s me.0.seen) x)) (sym none) (agrees_longer s f.number me.0.seen me'.0.seen (t.legal s q) t.seen t.own_is)

    -- the token has seen more, and is else as it was
    pub same_token : (z' : TableId) → z' ≡ z → tok z' me' f ≡ record (tok z me f) { roll = me'.0.roll; seen = me'.0.seen }
    same_token z' e = λ j. record (tok z' me' f) {
      table = e j;
      opening = t.opening j;
      out = outs (t.slots j);
      owes = t.owes j;
      searches = (search_marks (t.own_is j ++ f.prepared)).made;
      searched = (search_marks (t.own_is j ++ f.prepared)).begun;
    }

    pub caller_taken : (z' : TableId) → IsCaller me' (tok z' me' f) slot stream
    caller_taken z' =
        let len : length me'.0.roll ≡ length me.0.roll + length t.roll_begins.0 = sym (ap length t.roll_begins.1) ∙ length-append me.0.roll t.roll_begins.0 in
        let known = h.known in
        let whole : (s : Setting) → IsSettingOf me'.0.opening me'.0.roll s → (configuration_after s (configuration_of s me'.0.seen) f.prepared).now.demand ≡ Nothing =
        λ s q. ap (λ (x : List Entry). (configuration_after s (configuration_of s me'.0.seen) x).now.demand) none ∙ (legal_parts s me'.0.seen (t.legal s q)).1 in
        record {
          role = t.role ∙ h.role;
          prepared = λ s q. ap (Rattle.claim_rule.specs.Entries.are_prepared s (configuration_of s me'.0.seen) f.number) none;
          legal = t.legal;
          slots = subst AreOut (sym t.slots) h.slots;
          at = λ s q. subst (λ (o : List ℕ). IsAt (configuration_after s (configuration_of s me'.0.seen) f.prepared) f.number f.call f.fresh f.inside f.depth o f.whole f.free) (sym (ap outs t.slots))
              (at_agrees s (configuration_after s (configuration_of s me'.0.seen) f.prepared) (configuration_after s (configuration_of s me.0.seen) f.prepared) f.number f.call f.fresh f.inside f.depth (outs me.1) f.whole f.free (agrees_taken s q) (whole s q) (h.at s (setting_was s q)));
          even = record {
            rests = h.even.rests;
            drawn = λ i. ap (λ (x : List Entry). (search_marks (x ++ f.prepared)).begun) t.own_is ∙ h.even.drawn i;
            whole = λ i o. h.even.whole i (sym (ap outs t.slots) ∙ o);
            alone = λ i o. h.even.alone i (sym (ap outs t.slots) ∙ o);
            begun = h.even.begun;
          };
          known = omega arith;
          few = subst (λ (o : Opening). f.number < o.limits.callers) (sym t.opening) h.few;
          small = subst (λ (o : Opening). o.limits.callers < 65536) (sym t.opening) h.small;
          few_prepared = h.few_prepared;
          slot_is = ap (λ (y : List Assignment). slot_at y f.number) (sym t.roll_begins.1) ∙ (slot_before me.0.roll t.roll_begins.0 f.number h.known ∙ h.slot_is);
          slot_few = subst (λ (o : Opening). slot < o.limits.slots) (sym t.opening) h.slot_few;
          draws = λ s q. subst (λ (x : List Entry). IsBeforeDraw s f.number ((search_marks (x ++ f.prepared)).made + Rattle.heap_gate.specs.Token.count f.drawn) stream) (sym t.own_is) (h.draws s (setting_was s q));
        }

  pub met : (za za' zb zb' : TableId) (a a' b b' : Me (Option T) View) (fa fb : Face) (la lb : ℕ) (sa sb : Stream)
      → IsCaller a (tok za a fa) la sa → IsCaller b (tok zb b fb) lb sb → fa.prepared ≡ [] → fb.prepared ≡ [] → za' ≡ za → zb' ≡ zb
      → HasTaken fb.number b b' a.0.roll a.0.seen → HasTaken fa.number a a' b'.0.roll b'.0.seen
      → HaveMet (tok za a fa) (tok zb b fb) (tok za' a' fa) (tok zb' b' fb)
  met za za' zb zb' a a' b b' fa fb la lb sa sb ha hb ea0 eb0 ea eb tb ta = record {
    one = ta.seen_is ∙ longer_is a.0.seen b'.0.seen tb.heard;
    one_roll = ta.roll_is ∙ longer_is a.0.roll b'.0.roll tb.heard_roll;
    legal = ta.legal;
    first = (ta.seen, ta.roll_begins, ta.own_is);
    second = (tb.seen, tb.roll_begins, tb.own_is);
    agrees = agrees_taken za a fa la sa ha ea0 a' b'.0.roll b'.0.seen ta;
    agrees' = agrees_taken zb b fb lb sb hb eb0 b' a.0.roll a.0.seen tb;
    same = same_token za a fa la sa ha ea0 a' b'.0.roll b'.0.seen ta za' ea;
    same' = same_token zb b fb lb sb hb eb0 b' a.0.roll a.0.seen tb zb' eb;
  }

  -- the root's role once it has taken in a caller
  pub root_taken : (me me1 : Me (Option T) View) (c : View) (made n : ℕ) → IsRoot me made → c.role ≡ Caller n → me1 ≡ (taken_in me.0 c, me.1)
      → me1.0.role ≡ Root (record { counted = length (roll_in me.0.role); roll = roll_in me.0.role; joined = n ∷ joined_of me.0.role; lists = c.seen ∷ lists_of me.0.role; last = n + 1 })
  root_taken me me1 c made n k kc e =
      ap (λ (m : Me (Option T) View). m.0.role) e ∙ (ap (λ (o : Role). joined_role c.seen o c.role) k.role ∙ ap (joined_role c.seen (Root (lead_at (roll_in me.0.role) (joined_of me.0.role) (lists_of me.0.role)))) kc)

  -- the root once it has taken in a caller and heard all
  pub root_joined : (z z' : TableId) (c : Token) (me me1 me2 : Me (Option T) View) (cv : View) (made r : ℕ) (st : Step (Option T)) → z' ≡ z → IsRoot me made → cv.role ≡ Caller c.number → c.seen ≡ cv.seen → c.roll ≡ cv.roll
      → me1 ≡ (taken_in me.0 cv, me.1) → heard_all st me1 r me2
      → ((s : Setting) → IsSettingOf me.0.opening cv.roll s → IsIdle c.number (configuration_of s cv.seen))
      → IsRoot me2 made × HasJoined (root_token z me) c (root_token z' me2)
  root_joined z z' c me me1 me2 cv made r st ez k kc es er e h0 idle =
      let J : List ℕ = joined_of me.0.role in
      let R : List Assignment = roll_in me.0.role in
      let n : ℕ = c.number in
      let h = subst (λ (m : Me (Option T) View). heard_all st m r me2) e h0 in
      let L : List (List Entry) = lists_of me.0.role in
      let q : Lead = record { counted = length R; roll = R; joined = n ∷ J; lists = cv.seen ∷ L; last = n + 1 } in
      let e1 : joined_role cv.seen me.0.role cv.role ≡ Root q = ap (λ (o : Role). joined_role cv.seen o cv.role) k.role ∙ ap (joined_role cv.seen (Root (lead_at R J L))) kc in
      let e2 : me2.0.role ≡ Root (lead_at R (n ∷ J) (cv.seen ∷ L)) = h.role q e1 in
      let joined : joined_of me2.0.role ≡ n ∷ J = ap joined_of e2 in
      let lists : lists_of me2.0.role ≡ cv.seen ∷ L = ap lists_of e2 in
      let kept : (m : ℕ) → is_among m J ≡ true → own m me2.0.seen ≡ own m me.0.seen = kept_of n J me.0.seen me2.0.seen (h.once q e1) (h.kept q e1) in
      let roll : roll_in me2.0.role ≡ R = ap roll_in e2 in
      let mine : own n me2.0.seen ≡ own n cv.seen = h.last q e1 n refl in
      let legal : IsLegalWith me2.0.opening (roll_in me2.0.role) me2.0.seen = subst (λ (x : List Assignment). IsLegalWith me2.0.opening x me2.0.seen) (h.roll q e1 ∙ sym roll) h.legal in
      let was : (s : Setting) → IsSettingOf me2.0.opening (roll_in me2.0.role) s → IsSettingOf me.0.opening R s =
      λ s x. subst (λ (y : Opening × List Assignment). IsSettingOf y.0 y.1 s) (λ j. (h.opening j, roll j)) x in
      let here : (s : Setting) → IsSettingOf me2.0.opening (roll_in me2.0.role) s → IsIdle n (configuration_of s me2.0.seen) =
      λ s x. idle_agrees s n (configuration_of s me2.0.seen) (configuration_of s cv.seen) (agrees_longer s n cv.seen me2.0.seen (legal s x) h.heard mine) (idle s (setting_less me.0.opening cv.roll R s (subst (IsPrefix cv.roll) (h.roll q e1) h.heard_roll) (was s x))) in (
        record {
          role = e2 ∙ ap (λ (x : List Assignment × List ℕ × List (List Entry)). Root (lead_at x.0 x.1 x.2)) (λ j. (sym roll j, sym joined j, sym lists j));
          count_is = ap length roll ∙ k.count_is;
          slots = h.slots ∙ k.slots;
          legal = legal;
          names = ap (λ (x : List Assignment). is_named (length x) me2.0.seen) roll ∙ h.names q e1;
          theirs = subst (λ (x : List ℕ × List (List Entry)). AreTheirs x.0 x.1 me2.0.seen) (λ j. (sym joined j, sym lists j)) (h.heard, mine, theirs_still J L me.0.seen me2.0.seen h.seen kept k.theirs);
          idle = λ m t s x. ⊎_elim
              (λ (y : n ≡ m). subst (λ (u : ℕ). IsIdle u (configuration_of s me2.0.seen)) y (here s x))
              (λ (y : is_among m J ≡ true). ⊎_elim
              (λ (l : n + 1 ≡ m + 1). let same : n ≡ m = omega arith in subst (λ (u : ℕ). IsIdle u (configuration_of s me2.0.seen)) same (here s x))
              (λ (o : own m me2.0.seen ≡ own m me.0.seen). idle_agrees s m (configuration_of s me2.0.seen) (configuration_of s me.0.seen) (agrees_longer s m me.0.seen me2.0.seen (legal s x) h.seen o) (k.idle m y s (was s x)))
              (h.kept q e1 m (ap (is_among m) (sym joined) ∙ t)))
              (at_joined n m J (ap (is_among m) (sym joined) ∙ t));
        },
        record { table = ez; opening = h.opening; roll = roll; joined = joined; seen = h.seen; theirs = subst (λ (x : List Entry). IsPrefix x me2.0.seen) (sym es) h.heard; own = mine ∙ ap (own n) (sym es); lists = lists ∙ ap (λ (x : List Entry). x ∷ L) (sym es); kept = kept; legal = legal },
      )

  -- the root once it has made a caller
  pub record HasMade (a : Assignment) (me me2 : Me (Option T) View) (made : ℕ) : Type 0 where
    pub root : IsRoot me2 (made + 1)
    pub roll : roll_in me2.0.role ≡ roll_in me.0.role ++ a ∷ []
    pub joined : joined_of me2.0.role ≡ joined_of me.0.role
    pub lists : lists_of me2.0.role ≡ lists_of me.0.role
    pub seen : me2.0.seen ≡ me.0.seen
    pub opening : me2.0.opening ≡ me.0.opening

  pub counted_role : (me me1 : Me (Option T) View) (made n : ℕ) (st : Step (Option T)) → IsRoot me made → numbered st me n me1
      → me1.0.role ≡ Root (record { counted = length (roll_in me.0.role) + 1; roll = roll_in me.0.role; joined = joined_of me.0.role; lists = lists_of me.0.role; last = 0 })
  counted_role me me1 made n st k t = (t.role (lead_at (roll_in me.0.role) (joined_of me.0.role) (lists_of me.0.role)) k.role).1

  pub root_made : (a : Assignment) (me me1 me2 : Me (Option T) View) (made n : ℕ) (st : Step (Option T)) → IsRoot me made → numbered st me n me1 → me2 ≡ (dealing a me1.0, me1.1) → HasMade a me me2 made
  root_made a me me1 me2 made n st k t e =
      let J : List ℕ = joined_of me.0.role in
      let R : List Assignment = roll_in me.0.role in
      let len : length (R ++ a ∷ []) ≡ length R + 1 = length-append R (a ∷ []) in
      let e1 = counted_role me me1 made n st k t in
      let L : List (List Entry) = lists_of me.0.role in
      let e2 : me2.0.role ≡ Root (lead_at (R ++ a ∷ []) J L) =
      ap (λ (m : Me (Option T) View). m.0.role) e ∙ (ap (dealing_role a) e1 ∙ ap (λ (x : ℕ). Root (record { counted = x; roll = R ++ a ∷ []; joined = J; lists = L; last = 0 })) (sym len)) in
      let joined : joined_of me2.0.role ≡ J = ap joined_of e2 in
      let lists : lists_of me2.0.role ≡ L = ap lists_of e2 in
      let roll : roll_in me2.0.role ≡ R ++ a ∷ [] = ap roll_in e2 in
      let seen : me2.0.seen ≡ me.0.seen = ap (λ (m : Me (Option T) View). m.0.seen) e ∙ t.seen in
      let opening : me2.0.opening ≡ me.0.opening = ap (λ (m : Me (Option T) View). m.0.opening) e ∙ t.opening in
      let was : (s : Setting) → IsSettingOf me2.0.opening (roll_in me2.0.role) s → IsSettingOf me.0.opening R s =
      λ s x. setting_less me.0.opening R (R ++ a ∷ []) s (prefix_more R R (a ∷ []) (prefix_self R)) (subst (λ (y : Opening × List Assignment). IsSettingOf y.0 y.1 s) (λ j. (opening j, roll j)) x) in
      record {
        root = record {
          role = e2 ∙ ap (λ (x : List Assignment × List ℕ × List (List Entry)). Root (lead_at x.0 x.1 x.2)) (λ j. (sym roll j, sym joined j, sym lists j));
          count_is = let c = k.count_is in ap length roll ∙ (len ∙ ap (λ (x : ℕ). x + 1) c);
          slots = ap (λ (m : Me (Option T) View). m.1) e ∙ (t.slots ∙ k.slots);
          legal = λ s x. ap (Rattle.heap_model.specs.History.is_legal s) seen ∙ k.legal s (was s x);
          names = ap (λ (x : List Assignment). is_named (length x) me2.0.seen) roll ∙ (ap (is_named (length (R ++ a ∷ []))) seen ∙ named_more (length R) (length (R ++ a ∷ [])) me.0.seen (omega arith) k.names);
          theirs = subst (λ (x : List ℕ × List (List Entry) × List Entry). AreTheirs x.0 x.1 x.2) (λ j. (sym joined j, sym lists j, sym seen j)) k.theirs;
          idle = λ m h s x. subst (λ (l : List Entry). IsIdle m (configuration_of s l)) (sym seen) (k.idle m (ap (is_among m) (sym joined) ∙ h) s (was s x));
        };
        roll = roll;
        joined = joined;
        lists = lists;
        seen = seen;
        opening = opening;
      }

slot_last : (a : Assignment) (xs : List Assignment) → slot_at (xs ++ a ∷ []) (length xs) ≡ a.slot
slot_last a [] = refl
slot_last a (x ∷ xs) = slot_last a xs

stream_last : (a : Assignment) (xs : List Assignment) → Rattle.claim_rule.specs.Entries.stream_at (xs ++ a ∷ []) (length xs) ≡ a.stream
stream_last a [] = refl
stream_last a (x ∷ xs) = stream_last a xs

none_some : {A : Type 0} (a : A) → None ≡ Some a → ⊥
none_some a e = let no : ⊥ = cc in no

module _ {T : Type 0} where
  -- the new caller has seen nothing
  pub fresh : (z : TableId) (o : Opening) (a : Assignment) (v : View) (R : List Assignment) (J : List ℕ) (L : List (List Entry)) (seed : ℕ) (g : Rattle.rand_pcg.specs.Lcg.Lcg) (me : Me (Option T) View) (made : ℕ)
      → v.role ≡ Root (record { counted = length R + 1; roll = R; joined = J; lists = L; last = 0 }) → v.opening ≡ o → me ≡ (dealt a v, []) → length R ≡ made
      → length R < o.limits.callers → a.slot < o.limits.slots → o.limits.callers ≤ 64 → seed ≡ o.seed → g ≡ Rattle.rand_pcg.specs.Lcg.started 64 Rattle.rand_pcg.specs.Pcg.multiplier_64 seed (Rattle.rand_pcg.specs.Lcg.increment_of 64 a.stream)
      → IsCaller me (tok z me (record { number = made; prepared = []; pending = false; call = None; fresh = false; locked = false; inside = false; depth = 0; whole = true; free = true; drawn = false })) a.slot (Rattle.random_pick.specs.CallerDraws.words_of g)
  fresh z o a v R J L seed g me made vr vo e len few slot small seeds made_by =
      let role : me.0.role ≡ Caller made = ap (λ (m : Me (Option T) View). m.0.role) e ∙ (ap Rattle.claim_rule.specs.Rule.dealt_role vr ∙ ap Caller len) in
      let roll : me.0.roll ≡ R ++ a ∷ [] = ap (λ (m : Me (Option T) View). m.0.roll) e ∙ ap (λ (r : Role). Rattle.claim_rule.specs.Rule.roll_of r ++ a ∷ []) vr in
      let opening : me.0.opening ≡ o = ap (λ (m : Me (Option T) View). m.0.opening) e ∙ vo in
      let seen : me.0.seen ≡ [] = ap (λ (m : Me (Option T) View). m.0.seen) e in
      let slots : me.1 ≡ [] = ap (λ (m : Me (Option T) View). m.1) e in
      let longer_roll : length me.0.roll ≡ length R + 1 = ap length roll ∙ length-append R (a ∷ []) in
      let known : made < length me.0.roll = omega arith in
      record {
        role = role;
        prepared = λ s q. refl;
        legal = λ s q. ap (Rattle.heap_model.specs.History.is_legal s) seen;
        slots = subst AreOut (sym slots) tt;
        at = λ s q. subst (λ (x : List Entry × List ℕ). IsAt (configuration_of s x.0) made None false false 0 x.1 true true) (λ j. (sym seen j, sym (ap outs slots) j)) (record {
          entered = refl;
          turning = refl;
          owns = refl;
          locks = λ w. none_held w;
          hands = λ _. refl;
          begun = λ x. absurd (false≢true x);
          call = refl;
          fresh = λ _. refl;
          demand = λ _. refl;
        });
        even = record {
          rests = λ _. refl;
          drawn = λ _. ap (λ (l : List Entry). (search_marks (own made l ++ [])).begun) seen;
          whole = λ _ _. refl;
          alone = λ _ _ _. refl;
          begun = λ x. absurd (false≢true x);
        };
        known = known;
        few = subst (λ (x : Opening). made < x.limits.callers) (sym opening) (omega arith);
        small = subst (λ (x : Opening). x.limits.callers < 65536) (sym opening) (omega arith);
        few_prepared = omega arith;
        slot_is = ap (λ (l : List Assignment). slot_at l made) roll ∙ (ap (slot_at (R ++ a ∷ [])) (sym len) ∙ slot_last a R);
        slot_few = subst (λ (x : Opening). a.slot < x.limits.slots) (sym opening) slot;
        draws = λ s q. subst (λ (l : List Entry). IsBeforeDraw s made ((search_marks (own made l ++ [])).made + 0) (Rattle.random_pick.specs.CallerDraws.words_of g)) (sym seen)
            (Rattle.random_pick.proofs.DrawLemmas.is_made s made seed a.stream g
            (q.seed ∙ (ap (λ (x : Opening). x.seed) opening ∙ sym seeds))
            (q.stream made known ∙ (ap (λ (l : List Assignment). Rattle.claim_rule.specs.Entries.stream_at l made) roll ∙ (ap (Rattle.claim_rule.specs.Entries.stream_at (R ++ a ∷ [])) (sym len) ∙ stream_last a R)))
            made_by);
      }
    where
      none_held : (w : What) → Rattle.heap_model.specs.State.holds Rattle.heap_model.specs.State.opening.gate made w ≡ Rattle.heap_gate.specs.Token.is_out w []
      none_held whats.Gate = refl
      none_held whats.Lfh = refl
      none_held whats.Vs = refl
      none_held whats.Back = refl
      none_held whats.Large = refl
