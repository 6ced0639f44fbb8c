-- What is known of lines that were read.
use Rattle.std.proofs.Common.{◌≡◌, ℕ, ◌+◌, eqb, ltb, List, [], ◌∷◌, ◌++◌, length, map, flat_map, Option, Some, None, Result, Ok, Err, refl, ap, ap₂, sym, ◌∙◌, inl, inr, append_assoc, append-nil}
use Rattle.std.specs.List.{AllByRecursion}
use Rattle.std.proofs.lemmas.Bool.{cases_Bool, eqb-true}
use Rattle.std.proofs.lemmas.List.{map-append}
use Rattle.script_text.specs.declared.faults.Cause.{Cause}
use Rattle.script_text.specs.declared.faults.ScriptFault.{ScriptFault}
use Rattle.script_text.specs.declared.commands.Line.{Line}
use Rattle.script_text.specs.declared.commands.NumberedLine.{NumberedLine}
use Rattle.script_text.specs.declared.counts.Counts.{Counts}
use Rattle.script_text.specs.Counted.{counted}
use Rattle.script_text.specs.Lines.{lines_of, fields_of}
use Rattle.script_text.specs.Names.{names_in, name_on, different}
use Rattle.script_text.specs.Order.{depth, cause_at, cause_behind, AreCounted}
use Rattle.script_text.specs.Reading.{said_on, noted, placed, ended, and_read, lines_from, lines_read, script_of, reading_of}
use Rattle.script_text.specs.Rounds.{rounds_of}
use Rattle.script_text.specs.ThreadLines.{ScriptLines}
use Rattle.script_text.proofs.OrderLemmas.{depth_is, same_cause, counted_push}
use Rattle.script_laws.proofs.LineLemmas.{names_on, LineFits}
use Rattle.script_laws.proofs.StandLemmas.{Stand, no_counts, counted_from_none}
use Rattle.script_laws.proofs.WordLemmas.{numbers_of, line_reads}

abbrev pub plain_line : NumberedLine → Line
plain_line l = l.line

pub record AreRead (all lines : List (List ℕ)) (k : Counts) (before read : List NumberedLine) : Type 0 where
  pub more : List NumberedLine
  pub whole : read ≡ before ++ more
  pub stand : Stand k (map plain_line more)
  pub names : flat_map names_on (map plain_line more) ≡ numbers_of all (names_in lines)
  pub fit : AllByRecursion LineFits (map plain_line more)

end_read : (all : List (List ℕ)) (k : Counts) (before : List NumberedLine) (n : ℕ) (read : List NumberedLine) → AreCounted k before → ended before n ≡ Ok read → AreRead all [] k before read
end_read all k before n read c h = elim (cases_Bool (eqb (depth before) 0)) [
  | inl a ↦
      let y : Result (List NumberedLine) ScriptFault = Ok before in
      let g : y ≡ Ok read = rw a at h in
      let e : before ≡ read = cc in
      record { more = []; whole = sym e ∙ sym (append-nil before); stand = sym (depth_is k before c) ∙ eqb-true (depth before) 0 a; names = refl; fit = tt }
  | inr a ↦ let g = rw a at h in absurd (let z : ⊥ = cc in z)
]

one_read : (all lines : List (List ℕ)) (line : List ℕ) (k : Counts) (before : List NumberedLine) (n : ℕ) (read : List NumberedLine) (r : Result (Option Line) Cause) → said_on all line ≡ r → AreCounted k before →
    and_read (noted before n r) (λ more. lines_from all more (n + 1) lines) ≡ Ok read →
    ((j : Counts) (front : List NumberedLine) (m : ℕ) → AreCounted j front → lines_from all front m lines ≡ Ok read → AreRead all lines j front read) → AreRead all (line ∷ lines) k before read
one_read all lines line k before n read (Err e) s c h next = absurd (let z : ⊥ = cc in z)
one_read all lines line k before n read (Ok None) s c h next =
    let r = next k before (n + 1) c h in
    let e : name_on (fields_of line) ≡ [] = line_reads all line None s in
    record { more = r.more; whole = r.whole; stand = r.stand; names = r.names ∙ ap (λ xs. numbers_of all (xs ++ names_in lines)) (sym e); fit = r.fit }
one_read all lines line k before n read (Ok (Some l)) s c h next = go (cause_behind before l) refl h
  where
    go : (o : Option Cause) → cause_behind before l ≡ o → and_read (placed o before n l) (λ more. lines_from all more (n + 1) lines) ≡ Ok read → AreRead all (line ∷ lines) k before read
    go (Some e) q h = absurd (let z : ⊥ = cc in z)
    go None q h =
        let a : cause_at k.depth k.threads k.walks l ≡ None = same_cause k before l c ∙ q in
        let x : NumberedLine = record { number = n; line = l } in
        let r = next (counted k l) (before ++ x ∷ []) (n + 1) (counted_push k before n l c a) h in
        let e = line_reads all line (Some l) s in
        record {
          more = x ∷ r.more;
          whole = r.whole ∙ append_assoc before (x ∷ []) r.more;
          stand = (a, r.stand);
          names = ap₂ (λ xs ys. xs ++ ys) e.0 r.names ∙ sym (map-append _ (name_on (fields_of line)) (names_in lines));
          fit = (e.1, r.fit);
        }

pub lines_known : (all lines : List (List ℕ)) (k : Counts) (before : List NumberedLine) (n : ℕ) (read : List NumberedLine) → AreCounted k before → lines_from all before n lines ≡ Ok read → AreRead all lines k before read
lines_known all [] k before n read c h = end_read all k before n read c h
lines_known all (line ∷ lines) k before n read c h = one_read all lines line k before n read (said_on all line) refl c h (λ j front m d g. lines_known all lines j front m read d g)

---- Texts

pub record IsKnown (text : List ℕ) (script : ScriptLines) : Type 0 where
  pub lines : List NumberedLine
  pub count : script.names ≡ different (names_in (lines_of text))
  pub rounds : script.rounds ≡ rounds_of lines
  pub stand : Stand no_counts (map plain_line lines)
  pub names : flat_map names_on (map plain_line lines) ≡ numbers_of (names_in (lines_of text)) (names_in (lines_of text))
  pub fit : AllByRecursion LineFits (map plain_line lines)

script_known : (text : List ℕ) (script : ScriptLines) (r : Result (List NumberedLine) ScriptFault) → lines_read text ≡ r → script_of (different (names_in (lines_of text))) r ≡ Ok script → IsKnown text script
script_known text script (Err e) q h = absurd (let z : ⊥ = cc in z)
script_known text script (Ok read) q h =
    let e : record { names = different (names_in (lines_of text)); rounds = rounds_of read } ≡ script = cc in
    let r = lines_known (names_in (lines_of text)) (lines_of text) no_counts [] 1 read counted_from_none q in
    record {
      lines = r.more;
      count = sym (ap (λ (x : ScriptLines). x.names) e);
      rounds = sym (ap (λ (x : ScriptLines). x.rounds) e) ∙ ap rounds_of r.whole;
      stand = r.stand;
      names = r.names;
      fit = r.fit;
    }

pub text_known : (text : List ℕ) (script : ScriptLines) → reading_of text ≡ Ok script → IsKnown text script
unfolding reading_of
text_known text script h = elim (cases_Bool (ltb 1048576 (length text))) [
  | inl b ↦ let g = rw b at h in absurd (let z : ⊥ = cc in z)
  | inr b ↦ script_known text script (lines_read text) refl (rw b at h)
]
