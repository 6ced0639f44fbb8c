-- Options of which none is given twice.
use Rattle.std.proofs.Common.{◌≡◌, ℕ, Bool, true, false, not, ◌||◌, List, [], ◌∷◌, ◌++◌, refl, sym, ap, ◌∙◌}
use Rattle.std.specs.Str.{bytes_eq}
use Rattle.std.proofs.lemmas.Bool.{and_parts}
use Rattle.std.proofs.lemmas.List.Folds.{list_any-append}
use Rattle.script_text.proofs.NameLemmas.{bytes_back, or_false}
use Rattle.command_words.specs.Options.{Given, is_given, are_once}

given_pushed : (name : List ℕ) (gs : List Given) (g : Given) → is_given name (gs ++ g ∷ []) ≡ (is_given name gs || bytes_eq g.name name)
given_pushed name gs g = list_any-append (λ (x : Given). bytes_eq x.name name) gs (g ∷ []) ∙ ap (λ b. is_given name gs || b) (or_false (bytes_eq g.name name))

neither : (a b : Bool) → (a || b) ≡ false → (a ≡ false) × (b ≡ false)
neither true b h = absurd (let z : ⊥ = cc in z)
neither false b h = (refl, h)

pub not_true : (b : Bool) → not b ≡ true → b ≡ false
not_true true h = absurd (let z : ⊥ = cc in z)
not_true false h = refl

pub once_added : (gs : List Given) (g : Given) → are_once gs ≡ true → is_given g.name gs ≡ false → are_once (gs ++ g ∷ []) ≡ true
once_added [] g once new = refl
once_added (x ∷ xs) g once new =
    let parts = and_parts (not (is_given x.name xs)) (are_once xs) once in
    let others = neither (bytes_eq x.name g.name) (is_given g.name xs) new in
    let last : bytes_eq g.name x.name ≡ false = bytes_back x.name g.name others.0 in
    let here : not (is_given x.name (xs ++ g ∷ [])) ≡ true = ap not (given_pushed x.name xs g ∙ (ap (λ b. is_given x.name xs || b) last ∙ or_false (is_given x.name xs))) ∙ parts.0 in
    rw here (once_added xs g parts.1 others.1)

pub once_front : (xs ys : List Given) → are_once (xs ++ ys) ≡ true → are_once xs ≡ true
once_front [] ys once = refl
once_front (x ∷ xs) ys once =
    let parts = and_parts (not (is_given x.name (xs ++ ys))) (are_once (xs ++ ys)) once in
    let some : is_given x.name (xs ++ ys) ≡ false = not_true (is_given x.name (xs ++ ys)) parts.0 in
    let split = neither (is_given x.name xs) (is_given x.name ys) (sym (list_any-append (λ (g : Given). bytes_eq g.name x.name) xs ys) ∙ some) in
    rw split.0 (once_front xs ys parts.1)

pub once_last : (front : List Given) (g : Given) → are_once (front ++ g ∷ []) ≡ true → is_given g.name front ≡ false
once_last [] g once = refl
once_last (x ∷ xs) g once =
    let parts = and_parts (not (is_given x.name (xs ++ g ∷ []))) (are_once (xs ++ g ∷ [])) once in
    let some : is_given x.name (xs ++ g ∷ []) ≡ false = not_true (is_given x.name (xs ++ g ∷ [])) parts.0 in
    let split = neither (is_given x.name xs) (bytes_eq g.name x.name) (sym (given_pushed x.name xs g) ∙ some) in
    rw (bytes_back g.name x.name split.1) (once_last xs g parts.1)
