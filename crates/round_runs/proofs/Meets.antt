-- What workers know and have seen that meet.
use Rattle.std.proofs.Common.{◌≡◌, ℕ, zero, suc, ◌+◌, ◌<◌, ◌≤◌, Bool, true, false, List, [], ◌∷◌, length, get_or, set, refl, sym, ap, ◌∙◌, subst, arith}
use Rattle.std.specs.Prelude.{nat_lt}
use Rattle.std.proofs.lemmas.Bool.{ltb-true, ltb-false}
use Rattle.std.proofs.lemmas.List.{get_or-set_same, get_or-set_other}
use mathlib.Core.List.{IsPrefix}
use Rattle.heap_model.specs.History.{own}
use Rattle.claim_rule.proofs.Lists.{prefix_self, prefix_trans}
use Rattle.heap_gate.specs.Token.{HeapToken, Token}
use Rattle.heap_gate.specs.Roots.{HaveMet}
use Rattle.heap_now.proofs.Callers.{first_met, second_met}
use Rattle.thread_commands.specs.Working.{IsFree}
use Rattle.thread_commands.specs.declared.workers.Worker.{Worker}
use Rattle.round_runs.specs.Crews.{AreFree}
use Rattle.round_runs.specs.Turns.{Keeps, IsBehind, Passes, HaveAllMet}

---- Places of a list

pub set_length : {A : Type 0} (xs : List A) (i : ℕ) (y : A) → length (set xs i y) ≡ length xs
set_length [] i y = refl
set_length (x ∷ xs) zero y = refl
set_length (x ∷ xs) (suc i) y = ap suc (set_length xs i y)

pub any_default : {A : Type 0} (xs : List A) (i : ℕ) (x y : A) → i < length xs → get_or xs i x ≡ get_or xs i y
any_default [] i x y l = absurd (omega arith)
any_default (z ∷ xs) zero x y l = refl
any_default (z ∷ xs) (suc i) x y l = any_default xs i x y (omega arith)

---- Two that meet

abbrev pub with_caller : Worker → Token → Worker
with_caller w c = record { caller = c; names = w.names; replies = w.replies; short = w.short }

behind_trans : (a b c : Worker) → IsBehind a b → IsBehind b c → IsBehind a c
behind_trans a b c p q = record {
  roll = prefix_trans a.caller.roll b.caller.roll c.caller.roll p.roll q.roll;
  seen = prefix_trans a.caller.seen b.caller.seen c.caller.seen p.seen q.seen;
}

kept_behind : (h : HeapToken) (a b : Worker) → Keeps h a b → IsBehind a b
kept_behind h a b k = record { roll = k.roll; seen = k.seen }

pub keeps_self : (h : HeapToken) (w : Worker) → IsFree h w → Keeps h w w
keeps_self h w f = record { free = f; number = refl; roll = prefix_self w.caller.roll; seen = prefix_self w.caller.seen; own = refl; names = refl; replies = refl; short = refl }

pub keeps_trans : (h : HeapToken) (a b c : Worker) → Keeps h a b → Keeps h b c → Keeps h a c
keeps_trans h a b c p q = record {
  free = q.free;
  number = q.number ∙ p.number;
  roll = prefix_trans a.caller.roll b.caller.roll c.caller.roll p.roll q.roll;
  seen = prefix_trans a.caller.seen b.caller.seen c.caller.seen p.seen q.seen;
  own = subst (λ (n : ℕ). own n c.caller.seen ≡ own n b.caller.seen) p.number q.own ∙ p.own;
  names = q.names ∙ p.names;
  replies = q.replies ∙ p.replies;
  short = q.short ∙ p.short;
}

module _ (h : HeapToken) (f : Worker) where
  pub passes_more : (f1 f2 w w' : Worker) → Keeps h f1 f2 → Passes h f f1 w w' → Passes h f f2 w w'
  passes_more f1 f2 w w' k p = record { keeps = p.keeps; told = behind_trans w f1 f2 p.told (kept_behind h f1 f2 k); heard = p.heard }

  module _ (f1 : Worker) (a b : Token) (k : Keeps h f f1) where
    pub met_first : (w : Worker) → HaveMet f1.caller w.caller a b → Keeps h f1 (with_caller f1 a)
    met_first w m = record {
      free = first_met h f1.caller w.caller a b k.free m;
      number = ap (λ (t : Token). t.number) m.same;
      roll = m.first.1;
      seen = m.first.0;
      own = m.first.2;
      names = refl;
      replies = refl;
      short = refl;
    }

    pub met_other : (w : Worker) → IsFree h w → HaveMet f1.caller w.caller a b → Passes h f (with_caller f1 a) w (with_caller w b)
    met_other w free m = record {
      keeps = record {
        free = second_met h f1.caller w.caller a b free m;
        number = ap (λ (t : Token). t.number) m.same';
        roll = m.second.1;
        seen = m.second.0;
        own = m.second.2;
        names = refl;
        replies = refl;
        short = refl;
      };
      told = record {
        roll = subst (IsPrefix w.caller.roll) (sym m.one_roll) m.second.1;
        seen = subst (IsPrefix w.caller.seen) (sym m.one) m.second.0;
      };
      heard = record {
        roll = prefix_trans f.caller.roll f1.caller.roll b.roll k.roll (subst (IsPrefix f1.caller.roll) m.one_roll m.first.1);
        seen = prefix_trans f.caller.seen f1.caller.seen b.seen k.seen (subst (IsPrefix f1.caller.seen) m.one m.first.0);
      };
    }

    -- one worker more was met
    pub met_more : (ws0 ws : List Worker) (n : ℕ) (e : Worker) → AreFree h ws0 → n < length ws → length ws ≡ length ws0
        → ((t : ℕ) (d : Worker) → t < n → Passes h f f1 (get_or ws0 t d) (get_or ws t d))
        → ((t : ℕ) (d : Worker) → n ≤ t → get_or ws t d ≡ get_or ws0 t d)
        → HaveMet f1.caller (get_or ws n e).caller a b
        → Keeps h f (with_caller f1 a)
        × (length (set ws n (with_caller (get_or ws n e) b)) ≡ length ws0)
        × ((t : ℕ) (d : Worker) → t < n + 1 → Passes h f (with_caller f1 a) (get_or ws0 t d) (get_or (set ws n (with_caller (get_or ws n e) b)) t d))
        × ((t : ℕ) (d : Worker) → n + 1 ≤ t → get_or (set ws n (with_caller (get_or ws n e) b)) t d ≡ get_or ws0 t d)
    met_more ws0 ws n e free lt many past rest m =
        (keeps_trans h f f1 (with_caller f1 a) k (met_first (get_or ws n e) m), set_length ws n (with_caller (get_or ws n e) b) ∙ many, passed, left)
      where
        here : (d : Worker) → Passes h f (with_caller f1 a) (get_or ws0 n d) (get_or (set ws n (with_caller (get_or ws n e) b)) n d)
        here d =
            let w = get_or ws n e in
            let is : w ≡ get_or ws0 n d = any_default ws n e d lt ∙ rest n d (omega arith) in
            let w_free : IsFree h w = subst (IsFree h) (sym is) (free n d (omega (arith, many, lt))) in
            subst (λ (v : Worker). Passes h f (with_caller f1 a) v (get_or (set ws n (with_caller w b)) n d)) is
            (subst (Passes h f (with_caller f1 a) w) (sym (get_or-set_same ws n (with_caller w b) d lt)) (met_other w w_free m))

        passed : (t : ℕ) (d : Worker) → t < n + 1 → Passes h f (with_caller f1 a) (get_or ws0 t d) (get_or (set ws n (with_caller (get_or ws n e) b)) t d)
        passed t d l = of (nat_lt t n) refl
          where
            of : (x : Bool) → nat_lt t n ≡ x → Passes h f (with_caller f1 a) (get_or ws0 t d) (get_or (set ws n (with_caller (get_or ws n e) b)) t d)
            of true q =
                let s : t < n = ltb-true t n q in
                subst (Passes h f (with_caller f1 a) (get_or ws0 t d)) (sym (get_or-set_other ws n t (with_caller (get_or ws n e) b) d (λ z. let no : ⊥ = omega (arith, z) in no)))
                (passes_more f1 (with_caller f1 a) (get_or ws0 t d) (get_or ws t d) (met_first (get_or ws n e) m) (past t d s))
            of false q =
                let s : n ≤ t = ltb-false t n q in
                let z : t ≡ n = omega arith in
                subst (λ (i : ℕ). Passes h f (with_caller f1 a) (get_or ws0 i d) (get_or (set ws n (with_caller (get_or ws n e) b)) i d)) (sym z) (here d)

        left : (t : ℕ) (d : Worker) → n + 1 ≤ t → get_or (set ws n (with_caller (get_or ws n e) b)) t d ≡ get_or ws0 t d
        left t d l = get_or-set_other ws n t (with_caller (get_or ws n e) b) d (λ q. let no : ⊥ = omega (arith, q) in no) ∙ rest t d (omega arith)

---- All

module _ (h : HeapToken) (f f1 f2 : Worker) (os os1 os2 : List Worker) (k1 : Keeps h f f1) (k2 : Keeps h f1 f2) (n1 : length os1 ≡ length os) (n2 : length os2 ≡ length os1)
    (p1 : (t : ℕ) (d : Worker) → t < length os → Passes h f f1 (get_or os t d) (get_or os1 t d))
    (p2 : (t : ℕ) (d : Worker) → t < length os1 → Passes h f1 f2 (get_or os1 t d) (get_or os2 t d)) where
  pub twice_keeps : (t : ℕ) (d : Worker) → t < length (f ∷ os) → Keeps h (get_or (f ∷ os) t d) (get_or (f2 ∷ os2) t d)
  twice_keeps zero d l = keeps_trans h f f1 f2 k1 k2
  twice_keeps (suc t) d l = keeps_trans h (get_or os t d) (get_or os1 t d) (get_or os2 t d) (p1 t d (omega arith)).keeps (p2 t d (omega arith)).keeps

  pub twice_met : HaveAllMet (f ∷ os) (f2 ∷ os2)
  twice_met = record { middle = f1; told = told; heard = heard }
    where
      told : (t : ℕ) (d : Worker) → t < length (f ∷ os) → IsBehind (get_or (f ∷ os) t d) f1
      told zero d l = kept_behind h f f1 k1
      told (suc t) d l = (p1 t d (omega arith)).told

      heard : (t : ℕ) (d : Worker) → t < length (f ∷ os) → IsBehind f1 (get_or (f2 ∷ os2) t d)
      heard zero d l = kept_behind h f1 f2 k2
      heard (suc t) d l = (p2 t d (omega arith)).heard

---- The first and the others

module _ (h : HeapToken) (ws : List Worker) (f f' : Worker) (os os' : List Worker) (e : ws ≡ f ∷ os) where
  -- what is said of a list in two parts
  pub of_parts : ((t : ℕ) (d : Worker) → t < length (f ∷ os) → Keeps h (get_or (f ∷ os) t d) (get_or (f' ∷ os') t d)) → (t : ℕ) (d : Worker) → t < length ws → Keeps h (get_or ws t d) (get_or (f' ∷ os') t d)
  of_parts k = subst (λ (l : List Worker). (t : ℕ) (d : Worker) → t < length l → Keeps h (get_or l t d) (get_or (f' ∷ os') t d)) (sym e) k

  pub met_parts : HaveAllMet (f ∷ os) (f' ∷ os') → HaveAllMet ws (f' ∷ os')
  met_parts m = subst (λ (l : List Worker). HaveAllMet l (f' ∷ os')) (sym e) m
