-- The first fault, line after line.
use Rattle.std.proofs.Common.{◌≡◌, ℕ, ◌+◌, ◌<◌, eqb, ltb, List, [], ◌∷◌, ◌++◌, length, take, get_or, Option, Some, None, Result, Ok, Err, refl, ap, sym, ◌∙◌, subst, arith, inl, inr, append-nil, append_assoc, below_more, length-append}
use Rattle.std.proofs.lemmas.Bool.{cases_Bool, eqb-true, eqb-false, ltb-true, ltb-false}
use Rattle.script_text.specs.declared.faults.Cause.{Cause}
use Rattle.script_text.specs.declared.faults.Cause.TheVariants as causes
use Rattle.script_text.specs.declared.faults.ScriptFault.{ScriptFault}
use Rattle.script_text.specs.declared.commands.Line.{Line}
use Rattle.script_text.specs.declared.commands.NumberedLine.{NumberedLine}
use Rattle.script_text.specs.Order.{depth, cause_behind}
use Rattle.script_text.specs.Reading.{said_on, noted, placed, ended, and_read, lines_from, lines_read, script_of, reading_of}
use Rattle.script_text.specs.Lines.{lines_of}
use Rattle.script_text.specs.Names.{names_in, different}
use Rattle.script_text.specs.Rounds.{rounds_of}
use Rattle.script_text.specs.ThreadLines.{ScriptLines}
use Rattle.script_laws.specs.FirstFault.{said_line, said_lines, cause_said, cause_on, IsFirstFault, IsFaultless, IsFaultOf, IsScriptOf}

take_all : {X : Type 0} (xs ys : List X) → take (length xs) (xs ++ ys) ≡ xs
take_all [] ys = refl
take_all (x ∷ xs) ys = ap (λ zs. x ∷ zs) (take_all xs ys)

item_at : {X : Type 0} (xs ys : List X) (y d : X) → get_or (xs ++ y ∷ ys) (length xs) d ≡ y
item_at [] ys y d = refl
item_at (x ∷ xs) ys y d = item_at xs ys y d

cause_here : (names done rest : List (List ℕ)) (l : List ℕ) → cause_on names (done ++ l ∷ rest) (length done) ≡ cause_said (said_lines names 1 done) (said_on names l)
cause_here names done rest l = rw (take_all done (l ∷ rest), item_at done rest l []) refl

said_push : (names : List (List ℕ)) (m : ℕ) (done : List (List ℕ)) (l : List ℕ) → said_lines names m (done ++ l ∷ []) ≡ said_lines names m done ++ said_line (m + length done) (said_on names l)
said_push names m [] l =
    let e : m + 0 ≡ m = omega arith in
    append-nil (said_line m (said_on names l)) ∙ ap (λ k. said_line k (said_on names l)) (sym e)
said_push names m (d ∷ done) l =
    let e : m + 1 + length done ≡ m + length (d ∷ done) = omega arith in
    ap (λ zs. said_line m (said_on names d) ++ zs) (said_push names (m + 1) done l)
    ∙ sym (append_assoc (said_line m (said_on names d)) (said_lines names (m + 1) done) (said_line (m + 1 + length done) (said_on names l)))
    ∙ ap (λ k. said_line m (said_on names d) ++ said_lines names (m + 1) done ++ said_line k (said_on names l)) e

placed_none : (o : Option Cause) (before : List NumberedLine) (n : ℕ) (line : Line) → o ≡ None → placed o before n line ≡ Ok (before ++ record { number = n; line = line } ∷ [])
placed_none o before n line e = rw e refl

placed_some : (o : Option Cause) (before : List NumberedLine) (n : ℕ) (line : Line) (c : Cause) → o ≡ Some c → placed o before n line ≡ Err (record { line = n; cause = c })
placed_some o before n line c e = rw e refl

noted_none : (before : List NumberedLine) (n : ℕ) (s : Result (Option Line) Cause) → cause_said before s ≡ None → noted before n s ≡ Ok (before ++ said_line n s)
noted_none before n (Err c) e = absurd (let z : ⊥ = cc in z)
noted_none before n (Ok None) e = ap Ok (sym (append-nil before))
noted_none before n (Ok (Some line)) e = placed_none (cause_behind before line) before n line e

noted_some : (before : List NumberedLine) (n : ℕ) (s : Result (Option Line) Cause) (c : Cause) → cause_said before s ≡ Some c → noted before n s ≡ Err (record { line = n; cause = c })
noted_some before n (Err d) c e = let f : d ≡ c = cc in ap (λ k. Err (record { line = n; cause = k })) f
noted_some before n (Ok None) c e = absurd (let z : ⊥ = cc in z)
noted_some before n (Ok (Some line)) c e = placed_some (cause_behind before line) before n line c e

-- the lines behind one that may stand
one_more : (names done rest : List (List ℕ)) (l : List ℕ) → cause_said (said_lines names 1 done) (said_on names l) ≡ None →
    lines_from names (said_lines names 1 done) (length done + 1) (l ∷ rest) ≡ lines_from names (said_lines names 1 (done ++ l ∷ [])) (length (done ++ l ∷ []) + 1) rest
one_more names done rest l q =
    let n : 1 + length done ≡ length done + 1 = omega arith in
    let m : length done + 1 + 1 ≡ length (done ++ l ∷ []) + 1 = omega (arith, length-append done (l ∷ [])) in
    let p : said_lines names 1 (done ++ l ∷ []) ≡ said_lines names 1 done ++ said_line (length done + 1) (said_on names l) = said_push names 1 done l ∙ ap (λ k. said_lines names 1 done ++ said_line k (said_on names l)) n in
    ap (λ r. and_read r (λ more. lines_from names more (length done + 1 + 1) rest)) (noted_none (said_lines names 1 done) (length done + 1) (said_on names l) q)
    ∙ ap (λ more. lines_from names more (length done + 1 + 1) rest) (sym p) ∙ ap (λ k. lines_from names (said_lines names 1 (done ++ l ∷ [])) k rest) m

same_lines : (done rest : List (List ℕ)) (l : List ℕ) → (done ++ l ∷ []) ++ rest ≡ done ++ l ∷ rest
same_lines done rest l = append_assoc done (l ∷ []) rest

AllNone : (names lines : List (List ℕ)) → ℕ → Type 0
AllNone names lines n = (k : ℕ) → k < n → cause_on names lines k ≡ None

none_more : (names done rest : List (List ℕ)) (l : List ℕ) → cause_said (said_lines names 1 done) (said_on names l) ≡ None →
    ((k : ℕ) → k < length done → cause_on names (done ++ l ∷ rest) k ≡ None) → (k : ℕ) → k < length (done ++ l ∷ []) → cause_on names ((done ++ l ∷ []) ++ rest) k ≡ None
none_more names done rest l q h k b =
    let c : k < length done + 1 = omega (arith, length-append done (l ∷ [])) in
    ap (λ ls. cause_on names ls k) (same_lines done rest l) ∙ below_more (λ j. cause_on names (done ++ l ∷ rest) j ≡ None) (length done) h (cause_here names done rest l ∙ q) k c

end_fault : (names done : List (List ℕ)) (f : ScriptFault) → ((k : ℕ) → k < length done → cause_on names done k ≡ None) → ended (said_lines names 1 done) (length done + 1) ≡ Err f → IsFirstFault names done f
end_fault names done f h e = elim (cases_Bool (eqb (depth (said_lines names 1 done)) 0)) [
  | inl b ↦ let g = rw b at e in absurd (let z : ⊥ = cc in z)
  | inr b ↦
      let x : Result (List NumberedLine) ScriptFault = Err (record { line = length done + 1; cause = causes.Unbalanced }) in
      let g : x ≡ Err f = rw b at e in
      let i : record { line = length done + 1; cause = causes.Unbalanced } ≡ f = cc in
      record {
        place = length done;
        number = sym (ap (λ (x : ScriptFault). x.line) i);
        earlier = h;
        here = inr (refl, sym (ap (λ (x : ScriptFault). x.cause) i), eqb-false (depth (said_lines names 1 done)) 0 b);
      }
]

refused_from : (names done rest : List (List ℕ)) (f : ScriptFault) → ((k : ℕ) → k < length done → cause_on names (done ++ rest) k ≡ None) →
    lines_from names (said_lines names 1 done) (length done + 1) rest ≡ Err f → IsFirstFault names (done ++ rest) f
refused_from names done [] f h e =
    let P : List (List ℕ) → Type 0 = λ ls. IsFirstFault names ls f in
    let Q : List (List ℕ) → Type 0 = λ ls. (k : ℕ) → k < length done → cause_on names ls k ≡ None in
    subst P (sym (append-nil done)) (end_fault names done f (subst Q (append-nil done) h) e)
refused_from names done (l ∷ rest) f h e = go (cause_said (said_lines names 1 done) (said_on names l)) refl (λ k i. refused_from names (done ++ l ∷ []) rest f k i)
  where
    go : (o : Option Cause) → cause_said (said_lines names 1 done) (said_on names l) ≡ o →
        (((k : ℕ) → k < length (done ++ l ∷ []) → cause_on names ((done ++ l ∷ []) ++ rest) k ≡ None) → lines_from names (said_lines names 1 (done ++ l ∷ [])) (length (done ++ l ∷ []) + 1) rest ≡ Err f → IsFirstFault names ((done ++ l ∷ []) ++ rest) f) →
        IsFirstFault names (done ++ l ∷ rest) f
    go None q next =
        let P : List (List ℕ) → Type 0 = λ ls. IsFirstFault names ls f in
        subst P (same_lines done rest l) (next (none_more names done rest l q h) (sym (one_more names done rest l q) ∙ e))
    go (Some c) q next =
        let x : Result (List NumberedLine) ScriptFault = Err (record { line = length done + 1; cause = c }) in
        let r : x ≡ Err f =
        sym (ap (λ r. and_read r (λ more. lines_from names more (length done + 1 + 1) rest)) (noted_some (said_lines names 1 done) (length done + 1) (said_on names l) c q)) ∙ e in
        let i : record { line = length done + 1; cause = c } ≡ f = cc in
        record {
          place = length done;
          number = sym (ap (λ (x : ScriptFault). x.line) i);
          earlier = h;
          here = inl (omega (arith, length-append done (l ∷ rest)), cause_here names done rest l ∙ q ∙ ap (λ (x : ScriptFault). Some x.cause) i);
        }

end_faultless : (names done : List (List ℕ)) (ls : List NumberedLine) → ((k : ℕ) → k < length done → cause_on names done k ≡ None) → ended (said_lines names 1 done) (length done + 1) ≡ Ok ls → IsFaultless names done ls
end_faultless names done ls h e = elim (cases_Bool (eqb (depth (said_lines names 1 done)) 0)) [
  | inl b ↦
      let x : Result (List NumberedLine) ScriptFault = Ok (said_lines names 1 done) in
      let g : x ≡ Ok ls = rw b at e in
      let i : said_lines names 1 done ≡ ls = cc in
      record { told = sym i; none = h; ended = ap depth (sym i) ∙ eqb-true (depth (said_lines names 1 done)) 0 b }
  | inr b ↦ let g = rw b at e in absurd (let z : ⊥ = cc in z)
]

accepted_from : (names done rest : List (List ℕ)) (ls : List NumberedLine) → ((k : ℕ) → k < length done → cause_on names (done ++ rest) k ≡ None) →
    lines_from names (said_lines names 1 done) (length done + 1) rest ≡ Ok ls → IsFaultless names (done ++ rest) ls
accepted_from names done [] ls h e =
    let P : List (List ℕ) → Type 0 = λ zs. IsFaultless names zs ls in
    let Q : List (List ℕ) → Type 0 = λ zs. (k : ℕ) → k < length done → cause_on names zs k ≡ None in
    subst P (sym (append-nil done)) (end_faultless names done ls (subst Q (append-nil done) h) e)
accepted_from names done (l ∷ rest) ls h e = go (cause_said (said_lines names 1 done) (said_on names l)) refl (λ k i. accepted_from names (done ++ l ∷ []) rest ls k i)
  where
    go : (o : Option Cause) → cause_said (said_lines names 1 done) (said_on names l) ≡ o →
        (((k : ℕ) → k < length (done ++ l ∷ []) → cause_on names ((done ++ l ∷ []) ++ rest) k ≡ None) → lines_from names (said_lines names 1 (done ++ l ∷ [])) (length (done ++ l ∷ []) + 1) rest ≡ Ok ls → IsFaultless names ((done ++ l ∷ []) ++ rest) ls) →
        IsFaultless names (done ++ l ∷ rest) ls
    go None q next =
        let P : List (List ℕ) → Type 0 = λ zs. IsFaultless names zs ls in
        subst P (same_lines done rest l) (next (none_more names done rest l q h) (sym (one_more names done rest l q) ∙ e))
    go (Some c) q next =
        let x : Result (List NumberedLine) ScriptFault = Err (record { line = length done + 1; cause = c }) in
        let r : x ≡ Ok ls = sym (ap (λ r. and_read r (λ more. lines_from names more (length done + 1 + 1) rest)) (noted_some (said_lines names 1 done) (length done + 1) (said_on names l) c q)) ∙ e in
        absurd (let z : ⊥ = cc in z)

pub refused : (names lines : List (List ℕ)) (f : ScriptFault) → lines_from names [] 1 lines ≡ Err f → IsFirstFault names lines f
refused names lines f e = refused_from names [] lines f (λ k b. absurd (omega arith)) e

pub accepted : (names lines : List (List ℕ)) (ls : List NumberedLine) → lines_from names [] 1 lines ≡ Ok ls → IsFaultless names lines ls
accepted names lines ls e = accepted_from names [] lines ls (λ k b. absurd (omega arith)) e

---- Texts

script_fault : (n : ℕ) (r : Result (List NumberedLine) ScriptFault) (f : ScriptFault) → script_of n r ≡ Err f → r ≡ Err f
script_fault n (Ok ls) f e = absurd (let z : ⊥ = cc in z)
script_fault n (Err g) f e = let i : g ≡ f = cc in ap Err i

script_lines : (n : ℕ) (r : Result (List NumberedLine) ScriptFault) (s : ScriptLines) → script_of n r ≡ Ok s → (ls : List NumberedLine) × (r ≡ Ok ls) × (s ≡ record { names = n; rounds = rounds_of ls })
script_lines n (Ok ls) s e = let i : record { names = n; rounds = rounds_of ls } ≡ s = cc in (ls, refl, sym i)
script_lines n (Err g) s e = absurd (let z : ⊥ = cc in z)

pub refused_text : (text : List ℕ) (f : ScriptFault) → reading_of text ≡ Err f → IsFaultOf text f
unfolding reading_of
refused_text text f e = elim (cases_Bool (ltb 1048576 (length text))) [
  | inl b ↦
      let x : Result ScriptLines ScriptFault = Err (record { line = 0; cause = causes.TooLong }) in
      let g : x ≡ Err f = rw b at e in
      let i : record { line = 0; cause = causes.TooLong } ≡ f = cc in
      inl (ltb-true 1048576 (length text) b, sym i)
  | inr b ↦
      let g : script_of (different (names_in (lines_of text))) (lines_read text) ≡ Err f = rw b at e in
      inr (ltb-false 1048576 (length text) b, refused (names_in (lines_of text)) (lines_of text) f (script_fault _ (lines_read text) f g))
]

pub accepted_text : (text : List ℕ) (s : ScriptLines) → reading_of text ≡ Ok s → IsScriptOf text s
unfolding reading_of
accepted_text text s e = elim (cases_Bool (ltb 1048576 (length text))) [
  | inl b ↦ let g = rw b at e in absurd (let z : ⊥ = cc in z)
  | inr b ↦
      let g : script_of (different (names_in (lines_of text))) (lines_read text) ≡ Ok s = rw b at e in
      let r = script_lines (different (names_in (lines_of text))) (lines_read text) s g in
      let h = accepted (names_in (lines_of text)) (lines_of text) r.0 r.1 in
      record {
        short = ltb-false 1048576 (length text) b;
        none = h.none;
        ended = ap depth (sym h.told) ∙ h.ended;
        names = ap (λ (x : ScriptLines). x.names) r.2;
        rounds = ap (λ (x : ScriptLines). x.rounds) r.2 ∙ ap rounds_of h.told;
      }
]

pub same_script : (r : Result ScriptLines ScriptFault) (s t : ScriptLines) → r ≡ Ok s → r ≡ Ok t → s ≡ t
same_script r s t e f = cc
