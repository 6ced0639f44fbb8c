-- On what words set.
use Rattle.std.proofs.Common.{◌≡◌, ℕ, ◌≤◌, ◌&&◌, Bool, true, false, List, [], ◌∷◌, map, codes, String, string_bytes, Option, Some, None, refl, sym, ap, subst, ◌∙◌, arith}
use Rattle.std.specs.Prelude.{nat_le, option_and_then, option_map, IfSome, IfNone, if◌then◌else◌}
use Rattle.std.proofs.lemmas.Bool.{and_parts, leb-true}
use Rattle.std.proofs.lemmas.List.Elements.{All-nil, All-cons}
use Rattle.std.proofs.lemmas.Str.{IsUtf8-string_bytes}
use Rattle.std.specs.Str.{IsUtf8}
use Rattle.heap_model.specs.Limits.{AreValid}
use Rattle.script_text.specs.Words.{is_number, value_of}
use Rattle.command_words.specs.declared.setting.Mode.{Mode}
use Rattle.command_words.specs.declared.setting.Mode.TheVariants.{Run, One, Gen}
use Rattle.command_words.specs.declared.setting.Setting.{Setting}
use Rattle.command_words.specs.Options.{text_of}
use Rattle.command_words.specs.Settings.{names, mode_in, number_in, setting_given, callers_of, limits_of, AreWords}
use Rattle.command_words.proofs.SpellLemmas.{one_spelling}
use Rattle.command_run.specs.Words.{AreText, IsAlone, SetsAlone, SetsNothingAlone, AreForOne}

some_back : {A : Type 0} (x y : A) → Some x ≡ Some y → x ≡ y
some_back x y e = let h : x ≡ y = cc in h

-- words set one thing
pub one_setting : (words : List (List ℕ)) (a b : Setting) → AreWords words a → AreWords words b → a ≡ b
one_setting words a b x y =
    let same = one_spelling names refl x.given y.given words x.options.known y.options.known x.options.spelled y.options.spelled in
    some_back a b (sym x.sets ∙ (ap setting_given same ∙ y.sets))

---- Limits

and_then_back : {A B : Type 0} (f : A → Option B) (o : Option A) (y : B) → option_and_then f o ≡ Some y → (x : A) × (o ≡ Some x) × (f x ≡ Some y)
and_then_back f None y e = absurd (let z : ⊥ = cc in z)
and_then_back f (Some x) y e = (x, refl, e)

map_back : {A B : Type 0} (f : A → B) (o : Option A) (y : B) → option_map f o ≡ Some y → (x : A) × (o ≡ Some x) × (f x ≡ y)
map_back f None y e = absurd (let z : ⊥ = cc in z)
map_back f (Some x) y e = (x, refl, some_back (f x) y e)

chosen : (test : Bool) (v n : ℕ) → (if test then Some v else None) ≡ Some n → (test ≡ true) × (v ≡ n)
chosen true v n e = (refl, some_back v n e)
chosen false v n e = absurd (let z : ⊥ = cc in z)

within : (low high absent : ℕ) (o : Option (List ℕ)) (n : ℕ) → low ≤ absent → absent ≤ high → number_in low high absent o ≡ Some n → (low ≤ n) × (n ≤ high)
within low high absent None n l h e = let same = some_back absent n e in (omega arith, omega arith)
within low high absent (Some word) n l h e =
    let v = value_of word in
    let one = chosen (is_number word && nat_le low v && nat_le v high) v n e in
    let most = and_parts (is_number word && nat_le low v) (nat_le v high) one.0 in
    let least = and_parts (is_number word) (nat_le low v) most.0 in
    let a = leb-true low v least.1 in
    let b = leb-true v high most.1 in
    let same = one.1 in (omega arith, omega arith)

callers_within : (mode : Mode) → (1 ≤ callers_of mode) × (callers_of mode ≤ 64)
callers_within Run = (omega arith, omega arith)
callers_within One = (omega arith, omega arith)
callers_within Gen = (omega arith, omega arith)

-- what values set, one after another
module _ (segments large slots seed count : Option (List ℕ)) where
  abbrev with_count : Mode → ℕ → ℕ → ℕ → ℕ → Option Setting
  with_count m g l t d = option_map (λ c. record { mode = m; segments = g; large_pages = l; slots = t; seed = d; count = c }) (number_in 0 100000 10000 count)

  abbrev with_seed : Mode → ℕ → ℕ → ℕ → Option Setting
  with_seed m g l t = option_and_then (λ d. with_count m g l t d) (number_in 0 18446744073709551615 1 seed)

  abbrev with_slots : Mode → ℕ → ℕ → Option Setting
  with_slots m g l = option_and_then (λ t. with_seed m g l t) (number_in 1 16 4 slots)

  abbrev with_large : Mode → ℕ → Option Setting
  with_large m g = option_and_then (λ l. with_slots m g l) (number_in 0 4096 1024 large)

  abbrev with_segments : Mode → Option Setting
  with_segments m = option_and_then (λ g. with_large m g) (number_in 1 16 16 segments)

  valid_by : (mode : Option Mode) (s : Setting) → option_and_then (λ m. with_segments m) mode ≡ Some s → AreValid (limits_of s)
  valid_by mode s e =
      let m = and_then_back (λ m. with_segments m) mode s e in
      let g = and_then_back (λ g. with_large m.0 g) (number_in 1 16 16 segments) s m.2 in
      let l = and_then_back (λ l. with_slots m.0 g.0 l) (number_in 0 4096 1024 large) s g.2 in
      let t = and_then_back (λ t. with_seed m.0 g.0 l.0 t) (number_in 1 16 4 slots) s l.2 in
      let d = and_then_back (λ d. with_count m.0 g.0 l.0 t.0 d) (number_in 0 18446744073709551615 1 seed) s t.2 in
      let set : ℕ → Setting = λ c. record { mode = m.0; segments = g.0; large_pages = l.0; slots = t.0; seed = d.0; count = c } in
      let c = map_back set (number_in 0 100000 10000 count) s d.2 in
      let few = within 1 16 16 segments g.0 (omega arith) (omega arith) g.1 in
      let most = within 0 4096 1024 large l.0 (omega arith) (omega arith) l.1 in
      let some = within 1 16 4 slots t.0 (omega arith) (omega arith) t.1 in
      let callers = callers_within m.0 in
      let valid : AreValid (limits_of (set c.0)) =
      record {
        some_segments = few.0;
        segments = few.1;
        large_pages = most.1;
        some_slots = some.0;
        slots = some.1;
        some_callers = callers.0;
        callers = callers.1;
      } in
      subst (λ (x : Setting). AreValid (limits_of x)) c.2 valid

-- words that are valid give limits with which a heap can be opened
pub valid_limits : (words : List (List ℕ)) (s : Setting) → AreWords words s → AreValid (limits_of s)
valid_limits words s w =
    let of : List ℕ → Option (List ℕ) = text_of w.given in
    valid_by (of (codes "segments")) (of (codes "large")) (of (codes "slots")) (of (codes "seed")) (of (codes "count")) (mode_in (of (codes "mode"))) s w.sets

one_caller : (mode : Mode) → IsAlone mode → callers_of mode ≡ 1
one_caller Run a = absurd a
one_caller One a = refl
one_caller Gen a = refl

pub for_one : (words : List (List ℕ)) (s : Setting) → SetsAlone words s → AreForOne (limits_of s)
for_one words s h = record { valid = valid_limits words s h.sets.words_are; one = one_caller s.mode h.alone }

---- Texts

-- the bytes of strings are text
pub are_text : {Z : Type 0} (ws : List (String Z)) → AreText (map string_bytes ws)
are_text [] = All-nil IsUtf8
are_text (w ∷ ws) = All-cons IsUtf8 (string_bytes w) (map string_bytes ws) (IsUtf8-string_bytes w) (are_text ws)

pub no_text : (words : List (List ℕ)) → (AreText words → ⊥) → SetsNothingAlone words
no_text words n setting s = n s.sets.text

---- Words for threads

-- words that set a mode of threads set none of one caller
pub not_alone : (words : List (List ℕ)) (s : Setting) → AreWords words s → s.mode ≡ Run → SetsNothingAlone words
not_alone words s w m other h =
    let same : other.mode ≡ Run = ap (λ (x : Setting). x.mode) (one_setting words other s h.sets.words_are w) ∙ m in
    subst IsAlone same h.alone

---- The setting of one caller

pub set_alone : (words : List (List ℕ)) (s : Setting) (r : Option Setting) → AreText words → AreWords words s
    → IfSome r (λ t. (t ≡ s) × IsAlone t.mode) → IfSome r (SetsAlone words)
set_alone words s None text w h = tt
set_alone words s (Some t) text w h = record { sets = record { text = text; words_are = subst (AreWords words) (sym h.0) w }; alone = h.1 }

pub none_alone : (words : List (List ℕ)) (s : Setting) (r : Option Setting) → AreWords words s → IfNone r (s.mode ≡ Run) → IfNone r (SetsNothingAlone words)
none_alone words s None w h = not_alone words s w h
none_alone words s (Some t) w h = tt
