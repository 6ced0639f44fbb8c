-- What is due, case by case.
use Rattle.std.proofs.Common.{◌≡◌, ℕ, List, Option, Result, Ok, Err, IfOk, refl, sym, ap, subst, ◌∙◌, inl, inr}
use Rattle.std.specs.Io.KnownBytes.{Keeps}
use Rattle.outside_io.specs.Faults.{Rose, Stands}
use Rattle.heap_model.specs.declared.OutOfMemory.{OutOfMemory}
use Rattle.script_text.specs.declared.faults.ScriptFault.{ScriptFault}
use Rattle.script_text.specs.Reading.{reading_of}
use Rattle.script_text.specs.ThreadLines.{ScriptLines}
use Rattle.report_text.specs.Text.{bytes_of}
use Rattle.command_words.specs.declared.setting.Mode.{Mode}
use Rattle.command_words.specs.declared.setting.Mode.TheVariants.{Run, One, Gen}
use Rattle.command_words.specs.declared.setting.Setting.{Setting}
use Rattle.run_ending.specs.declared.ending.Due.{Due}
use Rattle.run_ending.specs.declared.ending.Due.TheVariants as dues
use Rattle.command_run.specs.Words.{SetsAlone, SetsNothingAlone}
use Rattle.run_ending.specs.declared.given.Given.TheVariants as givens
use Rattle.run_ending.specs.Ending.{ReadsFew, Reads}
use Rattle.run_ending.specs.Given.{IsGiven}
use Rattle.command_run.specs.Alone.{IsDrawn}
use Rattle.command_run.specs.Due.{judged, accepted, script_of, IsReport, IsDueFor, IsDueIn, IsDueRead, IsDueBy, IsDue}
use Rattle.command_run.proofs.WordLemmas.{one_setting}

module _ (words : List (List ℕ)) (left now : Option (List ℕ)) (fo fn : ℕ) where
  -- the words set this, in this mode
  abbrev pub InMode : Mode → Type 0
  InMode mode = (setting : Setting) × SetsAlone words setting × (setting.mode ≡ mode)

  abbrev pub Cause : Due → Type 0
  Cause dues.Usage = SetsNothingAlone words × Keeps left now × Stands fo fn
  Cause dues.Unread = (of : InMode One) × Rose fo fn × ReadsFew left now
  Cause (dues.Report t) = (of : InMode One) × Stands fo fn × (text : List ℕ) × Reads left now text × IsReport of.0 text (bytes_of t)
  Cause (dues.Refused f) = (of : InMode One) × Stands fo fn × (text : List ℕ) × Reads left now text × (script_of text ≡ Err f)
  Cause (dues.Summary t) = (of : InMode Gen) × Stands fo fn × Keeps left now × IsDrawn of.0 (bytes_of t)

  by_mode : (setting : Setting) → SetsAlone words setting → (mode : Mode) → setting.mode ≡ mode → (d : Due) → IsDueBy mode setting left now fo fn d → Cause d
  by_mode setting s Run e d i = absurd i
  by_mode setting s One e dues.Usage i = absurd i.3
  by_mode setting s One e dues.Unread i = ((setting, s, e), i.0, i.1)
  by_mode setting s One e (dues.Report t) i = ((setting, s, e), i.0, i.1, i.2, i.3)
  by_mode setting s One e (dues.Refused f) i = ((setting, s, e), i.0, i.1, i.2, i.3)
  by_mode setting s One e (dues.Summary t) i = absurd i.3
  by_mode setting s Gen e dues.Usage i = absurd i
  by_mode setting s Gen e dues.Unread i = absurd i
  by_mode setting s Gen e (dues.Report t) i = absurd i
  by_mode setting s Gen e (dues.Refused f) i = absurd i
  by_mode setting s Gen e (dues.Summary t) i = ((setting, s, e), i.1, i.0, i.2)

  pub cause_of : (d : Due) → IsDue words left now fo fn d → Cause d
  cause_of d (inl u) = subst Cause (sym u.3) (u.0, u.1, u.2)
  cause_of d (inr s) = by_mode s.0 s.1 s.0.mode refl d s.2

---- What is due for a script

module _ (setting : Setting) where
  due_for : (text : List ℕ) (script : ScriptLines) (d : Due) → reading_of text ≡ Ok script → IsDueIn setting script d → IsDueFor setting text d
  due_for text script dues.Usage e h = h
  due_for text script dues.Unread e h = h
  due_for text script (dues.Summary t) e h = h
  due_for text script (dues.Report t) e h = record { script = script; accepted_is = ap accepted e ∙ ap (judged script) h.0; report = h.1 }
  due_for text script (dues.Refused f) e h = ap accepted e ∙ ap (judged script) h

  module _ (left now : Option (List ℕ)) (fo fn : ℕ) where
    due_read : (script : ScriptLines) (d : Due) → IsGiven left now fo fn (givens.Script script) → IsDueIn setting script d → IsDueRead setting left now fo fn d
    due_read script dues.Usage i h = absurd h
    due_read script dues.Unread i h = absurd h
    due_read script (dues.Summary t) i h = absurd h
    due_read script (dues.Report t) i h = (i.0, i.1, i.2, due_for i.1 script (dues.Report t) i.3 h)
    due_read script (dues.Refused f) i h = (i.0, i.1, i.2, due_for i.1 script (dues.Refused f) i.3 h)

    pub script_due : (script : ScriptLines) (r : Result Due OutOfMemory) → IsGiven left now fo fn (givens.Script script) → IfOk r (IsDueIn setting script) → IfOk r (IsDueRead setting left now fo fn)
    script_due script (Ok d) i h = due_read script d i h
    script_due script (Err e) i h = tt

    pub refused_due : (f : ScriptFault) → IsGiven left now fo fn (givens.Refused f) → IsDueRead setting left now fo fn (dues.Refused f)
    refused_due f i = (i.0, i.1, i.2, ap accepted i.3)

    pub given_few : (script : ScriptLines) → IsGiven left now fo fn (givens.Script script) → ReadsFew left now
    given_few script i = (i.1, i.2.read, i.2.most)

-- words that set one mode do not set another
pub one_mode : (words : List (List ℕ)) (a b : Setting) → SetsAlone words a → SetsAlone words b → a ≡ b
one_mode words a b x y = one_setting words a b x.sets.words_are y.sets.words_are

pub not_both : (words : List (List ℕ)) (a b : Setting) → SetsAlone words a → SetsAlone words b → a.mode ≡ One → b.mode ≡ Gen → ⊥
not_both words a b x y m n =
    let same = subst (λ (s : Setting). s.mode ≡ One) (one_mode words a b x y) m in
    let e : One ≡ Gen = sym same ∙ n in
    let z : ⊥ = cc in z
