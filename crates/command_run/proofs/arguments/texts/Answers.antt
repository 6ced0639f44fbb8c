use Rattle.std.proofs.Common.{◌≡◌, ℕ, ◌+◌, ◌<◌, List, [], ◌∷◌, ◌++◌, length, map, take, get_or, string_bytes, Vec, Global, sym, ap, ◌∙◌, subst, arith}
use Rattle.std.proofs.lemmas.List.{take_more, map-append, length-map, get_or-map}
use Rattle.std.specs.Str.{IsUtf8}
use Rattle.command_run.proofs.arguments.texts.Goals as goal

-- the bytes of one word
word_at : {W : Type 0} (h : W → List ℕ) (ws : List W) (i : ℕ) (w : W) → i < length ws → w ≡ get_or ws i w → get_or (map h ws) i (h w) ≡ h w
word_at h ws i w l is = get_or-map h ws i w (h w) l ∙ ap h (sym is)

-- one word more, as a text
text_more : {T W : Type 0} (f : T → List ℕ) (h : W → List ℕ) (ts : List T) (t : T) (ws : List W) (i : ℕ) (w : W) → i < length ws → w ≡ get_or ws i w →
    map f ts ≡ take i (map h ws) → f t ≡ h w → map f (ts ++ t ∷ []) ≡ take (i + 1) (map h ws)
text_more f h ts t ws i w l is e s =
    let inside : i < length (map h ws) = omega (arith, length-map ws h) in
    let here : get_or (map h ws) i (h w) ≡ f t = word_at h ws i w l is ∙ sym s in
    map-append f ts (t ∷ []) ∙ ap (λ (xs : List (List ℕ)). xs ++ f t ∷ []) e ∙ sym (take_more (map h ws) i (h w) inside ∙ ap (λ (x : List ℕ). take i (map h ws) ++ x ∷ []) here)

pub loop-word-preserved : goal.loop-word-preserved
loop-word-preserved c =
    let same : string_bytes c.in_ok-from_str.field-0 ≡ c.word-item.result.items = c.in_ok-from_str.ensures.ok ∙ c.in-Ok.ensures.cases.0 ∙ c.deref.ensures.value in
    ap (map string_bytes) c.in_ok-push.ensures.items
    ∙ text_more string_bytes (λ (w : Vec ℕ Global). w.items) c.loop-word.texts.items c.in_ok-from_str.field-0 c.args.words.now c.loop-word.word-index c.word-item.result
    (omega arith) c.word-item.is c.loop-word.invariant same

pub returns-in_default-clause-none : goal.returns-in_default-clause-none
returns-in_default-clause-none c = λ t.
    let i = c.loop-word.word-index in
    let w = c.word-item.result in
    let words = c.args.words.now in
    let inside : i < length (map (λ (x : Vec ℕ Global). x.items) words) = omega (arith, length-map words (λ (x : Vec ℕ Global). x.items)) in
    let same = word_at (λ (x : Vec ℕ Global). x.items) words i w (omega arith) c.word-item.is ∙ sym c.deref.ensures.value in
    c.in_default.ensures.cases.0 (subst IsUtf8 same (t i w.items inside))
