-- From what a step tells to what a call ensures.
use Rattle.std.proofs.Common.{◌≡◌, ℕ, ◌+◌, ◌<◌, ◌==◌, ◌||◌, not, Bool, true, false, List, [], ◌∷◌, ◌++◌, length, Option, refl, sym, ap, ◌∙◌, subst, append_assoc, arith, length-append}
use Rattle.std.proofs.lemmas.List.{append-nil}
use Rattle.std.proofs.lemmas.Bool.{and_parts}
use mathlib.Core.List.{IsPrefix}
use Rattle.atomic_table.specs.Table.{Me}
use Rattle.atomic_table.specs.Seated.{TableId}
use Rattle.rand_core.specs.Stream.{Stream}
use Rattle.random_pick.specs.CallerDraws.{IsBeforeDraw}
use Rattle.heap_model.specs.declared.Act.{Act}
use Rattle.heap_model.specs.declared.Act.TheVariants as acts
use Rattle.heap_model.specs.declared.Entry.{Entry}
use Rattle.heap_model.specs.declared.Opening.{Opening}
use Rattle.heap_model.specs.State.{Setting, hands}
use Rattle.heap_model.specs.CallState.{Configuration}
use Rattle.heap_model.specs.Legal.{may_follow, after}
use Rattle.heap_model.specs.History.{configuration_after, configuration_of, own}
use Rattle.heap_model.specs.Agreement.{AgreesFor, reveals_nothing, revealed}
use Rattle.heap_model.proofs.GateSound.{row_of}
use Rattle.heap_model.proofs.Own.{act_agrees}
use Rattle.heap_model.proofs.Revealed.{lock_agrees, take_agrees}
use Rattle.heap_model.proofs.Stable.{same_hands}
use Rattle.heap_model.specs.declared.What.{What}
use Rattle.claim_rule.specs.declared.views.Assignment.{Assignment}
use Rattle.claim_rule.specs.declared.views.Owed.{Owed}
use Rattle.claim_rule.specs.declared.views.View.{View}
use Rattle.claim_rule.specs.Entries.{IsSettingOf, IsLegalWith, setting_of, slot_at, is_by, entry}
use Rattle.claim_rule.specs.Rule.{IsReady, ready_after}
use Rattle.claim_rule.specs.Plays.{Goes, GoesIn, number_of}
use Rattle.claim_rule.proofs.Lists.{own-append, own_by, by-append, prefix_self, prefix_more, prefix_trans, setting_less, slot_before}
use Rattle.claim_rule.proofs.Prepared.{prepared_by}
use Rattle.claim_rule.proofs.Advance.{some_setting}
use Rattle.claim_rule.proofs.Gate.{one_by}
use Rattle.heap_gate.specs.Token.{IsAt, IsCaller, SearchMarks, search_mark, search_marks_from, search_marks, count, outs, AreOut}
use Rattle.heap_gate.specs.Seated.{Face, tok}
use Rattle.heap_gate.specs.Calls.{Does, Stands, Stance, IsGuarded}
use Rattle.heap_gate.proofs.Standing.{at_agrees}

pub marks-append : (k : SearchMarks) (xs ys : List Entry) → search_marks_from k (xs ++ ys) ≡ search_marks_from (search_marks_from k xs) ys
marks-append k [] ys = refl
marks-append k (x ∷ xs) ys = marks-append (search_mark k x.act) xs ys

abbrev pub no_marks : SearchMarks
no_marks = record { made = 0; begun = false }

---- What others leave

-- the entry that the caller adds leaves what it alone decides
pub one_agrees : (s : Setting) (n : ℕ) (v w : View) (es : List Entry) (act : Act) → GoesIn s n v w es (entry n act ∷ []) → reveals_nothing (ready_after s v es) n act ≡ true → AgreesFor n (configuration_of s w.seen) (after s (ready_after s v es) (entry n act))
one_agrees s n v w es act g t =
    let f : may_follow s g.before (entry n act) ≡ true = (and_parts (may_follow s g.before (entry n act)) true g.follows).0 in
    subst (λ (m : Configuration). AgreesFor n m (after s (ready_after s v es) (entry n act))) (sym g.behind) (act_agrees s n g.before (ready_after s v es) g.agrees act (row_of s g.before (entry n act) f) t)

pub lock_shows : (s : Setting) (n : ℕ) (v w : View) (es : List Entry) → GoesIn s n v w es (entry n acts.Lock ∷ []) → AgreesFor n (configuration_of s w.seen) (after s (revealed (configuration_of s w.seen) (ready_after s v es)) (entry n acts.Lock))
lock_shows s n v w es g =
    subst (λ (m : Configuration). AgreesFor n m (after s (revealed m (ready_after s v es)) (entry n acts.Lock))) (sym g.behind) (lock_agrees s n g.before (ready_after s v es) g.agrees)

pub take_shows : (s : Setting) (n : ℕ) (v w : View) (es : List Entry) (what : What) → GoesIn s n v w es (entry n (acts.TakeLock what) ∷ []) → AgreesFor n (configuration_of s w.seen) (after s (revealed (configuration_of s w.seen) (ready_after s v es)) (entry n (acts.TakeLock what)))
take_shows s n v w es what g =
    subst (λ (m : Configuration). AgreesFor n m (after s (revealed m (ready_after s v es)) (entry n (acts.TakeLock what)))) (sym g.behind) (take_agrees s n g.before (ready_after s v es) g.agrees what)

pub none_agrees : (s : Setting) (n : ℕ) (v w : View) (es : List Entry) → GoesIn s n v w es [] → AgreesFor n (configuration_of s w.seen) (ready_after s v es)
none_agrees s n v w es g = subst (λ (m : Configuration). AgreesFor n m (ready_after s v es)) (sym g.behind) g.agrees

-- what is in the caller's hand stays, where its own entries leave it
pub same_in_hand : (s : Setting) (n : ℕ) (v w : View) (es ds : List Entry) → GoesIn s n v w es ds → ((m : Configuration) → hands (configuration_after s m ds).state n ≡ hands m.state n) → hands (configuration_of s w.seen).state n ≡ hands (ready_after s v es).state n
same_in_hand s n v w es ds g k = ap (λ (m : Configuration). hands m.state n) g.behind ∙ (k g.before ∙ same_hands s n g.before (ready_after s v es) g.agrees)

-- what a caller's locks guard stays, when it takes one more
pub guarded_by : (s : Setting) (n : ℕ) (v w : View) (es : List Entry) (what : What) → GoesIn s n v w es (entry n (acts.TakeLock what) ∷ []) → IsGuarded n (ready_after s v es) (configuration_of s w.seen)
guarded_by s n v w es what g = subst (IsGuarded n (ready_after s v es)) (sym g.behind) (record {
  vs = λ e. g.agrees.vs e;
  spans = λ e. g.agrees.spans e;
  back = λ e. g.agrees.back e;
  span_history = λ e. g.agrees.span_history e;
  large = λ e. g.agrees.large e;
})

---- How the view of a caller moves

-- by others' entries, by the carried ones and by its own, in one step or in two
pub record IsMoved (n : ℕ) (v w : View) (es ds : List Entry) : Type 0 where
  pub seen : IsPrefix v.seen w.seen
  pub own_is : own n w.seen ≡ own n v.seen ++ (es ++ ds)
  pub legal : IsLegalWith w.opening w.roll w.seen
  pub roll : IsPrefix v.roll w.roll
  pub opening : w.opening ≡ v.opening
  pub role : w.role ≡ v.role

pub moved : (n : ℕ) (v w : View) (es ds : List Entry) → is_by n es ≡ true → is_by n ds ≡ true → Goes n v w es ds → IsMoved n v w es ds
moved n v w es ds b b' g = record {
  seen = subst (IsPrefix v.seen) (sym g.seen) (prefix_more v.seen (v.seen ++ g.between) (es ++ ds) (prefix_more v.seen v.seen g.between (prefix_self v.seen)));
  own_is = ap (own n) g.seen ∙ (own-append n (v.seen ++ g.between) (es ++ ds)
      ∙ (ap (λ (x : List Entry). x ++ own n (es ++ ds)) (own-append n v.seen g.between ∙ (ap (λ (x : List Entry). own n v.seen ++ x) g.others ∙ append-nil (own n v.seen)))
      ∙ ap (λ (x : List Entry). own n v.seen ++ x) (own_by n (es ++ ds) (by-append n es ds b b'))));
  legal = g.legal;
  roll = g.roll;
  opening = g.opening;
  role = g.role;
}

pub moved_twice : (n : ℕ) (v u w : View) (es ds fs : List Entry) → IsMoved n v u es ds → IsMoved n u w [] fs → IsMoved n v w es (ds ++ fs)
moved_twice n v u w es ds fs x y = record {
  seen = prefix_trans v.seen u.seen w.seen x.seen y.seen;
  own_is = y.own_is ∙ (ap (λ (l : List Entry). l ++ fs) x.own_is ∙ (append_assoc (own n v.seen) (es ++ ds) fs ∙ ap (λ (l : List Entry). own n v.seen ++ l) (append_assoc es ds fs)));
  legal = y.legal;
  roll = prefix_trans v.roll u.roll w.roll x.roll y.roll;
  opening = y.opening ∙ x.opening;
  role = y.role ∙ x.role;
}

pub setting_before : (n : ℕ) (v w : View) (es ds : List Entry) → IsMoved n v w es ds → (s : Setting) → IsSettingOf w.opening w.roll s → IsSettingOf v.opening v.roll s
setting_before n v w es ds x s q = setting_less v.opening v.roll w.roll s x.roll (subst (λ (o : Opening). IsSettingOf o w.roll s) x.opening q)

---- The caller, before its step and after it

module _ {T : Type 0} (z : TableId) (me : Me (Option T) View) (f : Face) (slot : ℕ) (stream : Stream) (h : IsCaller me (tok z me f) slot stream) where
  abbrev pub At : Configuration → Type 0
  At m = IsAt m f.number f.call f.fresh f.inside f.depth (outs me.1) f.whole f.free

  abbrev pub marks : SearchMarks
  marks = search_marks (own f.number me.0.seen ++ f.prepared)

  pub by_it : is_by f.number f.prepared ≡ true
  by_it = let s = setting_of me.0.opening me.0.roll in prepared_by s f.number (configuration_of s me.0.seen) f.prepared (h.prepared s (some_setting me.0.opening me.0.roll))

  -- what the step needs of the caller
  pub ready_by : f.whole ≡ true → IsReady (number_of me.0.role) me.0 f.prepared
  ready_by w = subst (λ (x : ℕ). IsReady x me.0 f.prepared) (sym (ap number_of h.role)) (record { role = h.role; prepared = h.prepared; whole = λ s q. (h.at s q).demand w })

  pub may_by : (P : Configuration → ℕ → Type 0) → ((s : Setting) → IsSettingOf me.0.opening me.0.roll s → P (ready_after s me.0 f.prepared) f.number) → (s : Setting) → IsSettingOf me.0.opening me.0.roll s → P (ready_after s me.0 f.prepared) (number_of me.0.role)
  may_by P g s q = subst (λ (x : ℕ). P (ready_after s me.0 f.prepared) x) (sym (ap number_of h.role)) (g s q)

  pub goes_by : (w : View) (ds : ℕ → List Entry) → Goes (number_of me.0.role) me.0 w f.prepared (ds (number_of me.0.role)) → Goes f.number me.0 w f.prepared (ds f.number)
  goes_by w ds g = subst (λ (x : ℕ). Goes x me.0 w f.prepared (ds x)) (ap number_of h.role) g

  pub moved_by : (w : View) (ds : List Entry) → is_by f.number ds ≡ true → Goes f.number me.0 w f.prepared ds → IsMoved f.number me.0 w f.prepared ds
  moved_by w ds b g = moved f.number me.0 w f.prepared ds by_it b g

  -- where the caller stands behind its own entries, from where it stood
  pub at_behind : (w : View) (ds : List Entry) → is_by f.number ds ≡ true → Goes f.number me.0 w f.prepared ds → (P : Configuration → Type 0)
      → ((s : Setting) (m : Configuration) → At m → P (configuration_after s m ds))
      → (s : Setting) → IsSettingOf w.opening w.roll s → P (configuration_of s w.seen)
  at_behind w ds b g P k s q =
      let y = g.goes s q in
      subst P (sym y.behind) (k s y.before (at_agrees s y.before (ready_after s me.0 f.prepared) f.number f.call f.fresh f.inside f.depth (outs me.1) f.whole f.free y.agrees y.whole (h.at s (setting_before f.number me.0 w f.prepared ds (moved_by w ds b g) s q))))

  ---- Behind a step that carries what was prepared

  -- how the caller is then: what its own entries make of it
  pub record Behind : Type 0 where
    pub fresh : Bool
    pub locked : Bool
    pub inside : Bool
    pub depth : ℕ
    pub free : Bool
    pub out : List ℕ
    pub marks : SearchMarks

  abbrev pub faced : Behind → List Entry → Face
  faced k left = record {
    number = f.number;
    prepared = left;
    pending = false;
    call = f.call;
    fresh = k.fresh;
    locked = k.locked;
    inside = k.inside;
    depth = k.depth;
    whole = f.whole;
    free = k.free;
    drawn = f.drawn;
  }

  abbrev pub stood : Behind → List Owed → Stance
  stood k owes = record {
    call = f.call;
    fresh = k.fresh;
    locked = k.locked;
    inside = k.inside;
    depth = k.depth;
    out = k.out;
    owes = owes;
    free = k.free;
    searches = k.marks.made;
    searched = k.marks.begun;
    drawn = f.drawn;
  }

  -- as it was
  abbrev pub as_was : Behind
  as_was = record { fresh = f.fresh; locked = f.locked; inside = f.inside; depth = f.depth; free = f.free; out = outs me.1; marks = marks }

  pub record IsBehind (me' : Me (Option T) View) (ds : List Entry) (k : Behind) : Type 0 where
    pub slots : AreOut me'.1
    pub out_is : outs me'.1 ≡ k.out
    pub at : (s : Setting) → IsSettingOf me'.0.opening me'.0.roll s → IsAt (configuration_of s me'.0.seen) f.number f.call k.fresh k.inside k.depth k.out true k.free
    pub marks_are : search_marks_from marks ds ≡ k.marks
    pub made_is : k.marks.made ≡ marks.made
    pub rests : k.inside ≡ false → k.free ≡ true
    pub drawn : k.inside ≡ false → k.marks.begun ≡ f.drawn

  module _ (w : f.whole ≡ true) (me' : Me (Option T) View) (ds : List Entry) (x : IsMoved f.number me.0 me'.0 f.prepared ds) (z' : TableId) (left : List Entry) (le : left ≡ []) where
    marked : (k : Behind) → IsBehind me' ds k → search_marks (own f.number me'.0.seen ++ left) ≡ k.marks
    marked k b =
        ap (λ (l : List Entry). search_marks (own f.number me'.0.seen ++ l)) le
        ∙ (ap search_marks (append-nil (own f.number me'.0.seen) ∙ (x.own_is ∙ sym (append_assoc (own f.number me.0.seen) f.prepared ds)))
        ∙ (marks-append no_marks (own f.number me.0.seen ++ f.prepared) ds ∙ b.marks_are))

    pub caller_behind : (k : Behind) → IsBehind me' ds k → IsCaller me' (tok z' me' (faced k left)) slot stream
    caller_behind k b =
        let len : length me'.0.roll ≡ length me.0.roll + length x.roll.0 = sym (ap length x.roll.1) ∙ length-append me.0.roll x.roll.0 in
        let known = h.known in
        let few_left : length left < 17 = let e : length left ≡ 0 = ap length le in omega arith in
        record {
          role = x.role ∙ h.role;
          prepared = λ s q. ap (Rattle.claim_rule.specs.Entries.are_prepared s (configuration_of s me'.0.seen) f.number) le;
          legal = x.legal;
          slots = b.slots;
          at = λ s q. subst (λ (l : List Entry). IsAt (configuration_after s (configuration_of s me'.0.seen) l) f.number f.call k.fresh k.inside k.depth (outs me'.1) f.whole k.free) (sym le)
              (subst (λ (o : List ℕ). IsAt (configuration_of s me'.0.seen) f.number f.call k.fresh k.inside k.depth o f.whole k.free) (sym b.out_is)
              (subst (λ (y : Bool). IsAt (configuration_of s me'.0.seen) f.number f.call k.fresh k.inside k.depth k.out y k.free) (sym w) (b.at s q)));
          even = record { rests = b.rests; drawn = λ i. ap (λ (y : SearchMarks). y.begun) (marked k b) ∙ b.drawn i; whole = λ _ _. w; alone = λ _ _ _. le; begun = λ p. absurd (Rattle.std.proofs.lemmas.Bool.false≢true p) };
          known = omega arith;
          few = subst (λ (o : Opening). f.number < o.limits.callers) (sym x.opening) h.few;
          small = subst (λ (o : Opening). o.limits.callers < 65536) (sym x.opening) h.small;
          few_prepared = few_left;
          slot_is = ap (λ (y : List Assignment). slot_at y f.number) (sym x.roll.1) ∙ (slot_before me.0.roll x.roll.0 f.number h.known ∙ h.slot_is);
          slot_few = subst (λ (o : Opening). slot < o.limits.slots) (sym x.opening) h.slot_few;
          draws = λ s q. subst (λ (y : ℕ). IsBeforeDraw s f.number (y + count f.drawn) stream) (sym (ap (λ (y : SearchMarks). y.made) (marked k b) ∙ b.made_is)) (h.draws s (setting_before f.number me.0 me'.0 f.prepared ds x s q));
        }

    pub does_behind : (k : Behind) → z' ≡ z → Does (tok z me f) (tok z' me' (faced k left)) ds
    does_behind k e = record { table = e; opening = x.opening; number = refl; roll = x.roll; seen = x.seen; own = x.own_is; prepared = le; legal = x.legal }

    pub stands_behind : (k : Behind) (owes : List Owed) → me'.0.owes ≡ owes → IsBehind me' ds k → Stands (tok z' me' (faced k left)) (stood k owes)
    stands_behind k owes e b = record {
      call = refl;
      fresh = refl;
      locked = refl;
      inside = refl;
      depth = refl;
      out = b.out_is;
      owes = e;
      free = refl;
      searches = ap (λ (y : SearchMarks). y.made) (marked k b);
      searched = ap (λ (y : SearchMarks). y.begun) (marked k b);
      drawn = refl;
      whole = w;
      pending = refl;
      prepared = le;
    }

  -- what is said of the configuration behind the list is said of the one that the caller has
  pub with_left : (me' : Me (Option T) View) (left : List Entry) → left ≡ [] → (P : Setting → Configuration → Type 0)
      → ((s : Setting) → IsSettingOf me'.0.opening me'.0.roll s → P s (configuration_of s me'.0.seen))
      → (s : Setting) → IsSettingOf me'.0.opening me'.0.roll s → P s (configuration_after s (configuration_of s me'.0.seen) left)
  with_left me' left le P g s q = subst (λ (l : List Entry). P s (configuration_after s (configuration_of s me'.0.seen) l)) (sym le) (g s q)

  ---- The token behind its step, and what it tells

  pub record Acted (me' : Me (Option T) View) (z' : TableId) (left ds : List Entry) (k : Behind) (owes : List Owed) : Type 0 where
    pub caller : IsCaller me' (tok z' me' (faced k left)) slot stream
    pub does : Does (tok z me f) (tok z' me' (faced k left)) ds
    pub stands : Stands (tok z' me' (faced k left)) (stood k owes)

  pub acted : f.whole ≡ true → (me' : Me (Option T) View) (ds : List Entry) → IsMoved f.number me.0 me'.0 f.prepared ds → (z' : TableId) (left : List Entry) → z' ≡ z → left ≡ [] → (k : Behind) → IsBehind me' ds k → (owes : List Owed) → me'.0.owes ≡ owes
      → Acted me' z' left ds k owes
  acted w me' ds x z' left e le k b owes o = record {
    caller = caller_behind w me' ds x z' left le k b;
    does = does_behind w me' ds x z' left le k e;
    stands = stands_behind w me' ds x z' left le k owes o b;
  }

  -- .. behind one act of its own that gives no slot and takes none
  module _ (w : f.whole ≡ true) (me' : Me (Option T) View) (act : Act) (go : Goes f.number me.0 me'.0 f.prepared (entry f.number act ∷ [])) (slots : me'.1 ≡ me.1) (owes : me'.0.owes ≡ me.0.owes)
      (marks_are : (k : SearchMarks) → search_mark k act ≡ k) (fresh locked inside : Bool) (depth : ℕ) where
    abbrev pub then : Behind
    then = record { fresh = fresh; locked = locked; inside = inside; depth = depth; free = f.free; out = outs me.1; marks = marks }

    pub acted_once : ((s : Setting) (m : Configuration) → At m → IsAt (after s m (entry f.number act)) f.number f.call fresh inside depth (outs me.1) true f.free) → (inside ≡ false → f.free ≡ true) → (inside ≡ false → marks.begun ≡ f.drawn)
        → (z' : TableId) (left : List Entry) → z' ≡ z → left ≡ [] → Acted me' z' left (entry f.number act ∷ []) then me.0.owes
    acted_once at rests drawn z' left e le = acted w me' (entry f.number act ∷ []) (moved_by me'.0 (entry f.number act ∷ []) (one_by f.number act) go) z' left e le then (record {
      slots = subst AreOut (sym slots) h.slots;
      out_is = ap outs slots;
      at = at_behind me'.0 (entry f.number act ∷ []) (one_by f.number act) go (λ m. IsAt m f.number f.call fresh inside depth (outs me.1) true f.free) at;
      marks_are = marks_are marks;
      made_is = refl;
      rests = rests;
      drawn = drawn;
    }) me.0.owes owes

  -- the heap lock is held another number of times, and is held
  pub deeper : (d : ℕ) → not (f.depth == 0) ≡ not (d == 0) → IsCaller me (tok z me (record f { depth = d })) slot stream
  deeper d e = record {
    role = h.role;
    prepared = h.prepared;
    legal = h.legal;
    slots = h.slots;
    at = λ s q. let a = h.at s q in record {
      entered = a.entered;
      turning = a.turning;
      owns = a.owns ∙ e;
      locks = a.locks;
      hands = a.hands;
      begun = λ y. a.begun (ap (λ (b : Bool). f.inside || b) e ∙ y);
      call = a.call;
      fresh = a.fresh;
      demand = a.demand;
    };
    even = record { rests = h.even.rests; drawn = h.even.drawn; whole = h.even.whole; alone = h.even.alone; begun = h.even.begun };
    known = h.known;
    few = h.few;
    small = h.small;
    few_prepared = h.few_prepared;
    slot_is = h.slot_is;
    slot_few = h.slot_few;
    draws = h.draws;
  }
