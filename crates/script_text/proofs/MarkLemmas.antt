-- Lists that stand one behind the other, by their marks.
use Rattle.std.proofs.Common.{◌≡◌, ℕ, zero, suc, ◌+◌, ◌-◌, ◌<◌, ◌≤◌, List, [], ◌∷◌, ◌++◌, length, take, drop, get_or, refl, ap, sym, ◌∙◌, subst, arith, add-one, length-drop, length-take}
use Rattle.std.proofs.lemmas.List.{take_rest, drop_all, drop-drop, take-append-drop, take-append-le, drop-append-le, get_or-take, get_or-drop}
use Rattle.script_text.specs.Grown.{change_last}
use Rattle.script_text.specs.Marks.{first_mark, pieces, own_place, own_piece, cut_at, Rise, AreMarks}

---- Marks

pub rise_most : {M : Type 0} (place : M → ℕ) (low : ℕ) (ms : List M) (end : ℕ) → Rise place low ms end → low ≤ end
rise_most place low [] end r = r
rise_most place low (m ∷ ms) end r = let k = rise_most place (place m) ms end r.1 in let l = r.0 in omega arith

-- where a piece ends
pub rise_first : {M : Type 0} (place : M → ℕ) (low : ℕ) (ms : List M) (end : ℕ) → Rise place low ms end → (low ≤ first_mark place ms end) × (first_mark place ms end ≤ end)
rise_first place low [] end r = (r, omega arith)
rise_first place low (m ∷ ms) end r = (r.0, rise_most place (place m) ms end r.1)

-- a longer list
pub rise_on : {M : Type 0} (place : M → ℕ) (low : ℕ) (ms : List M) (end more : ℕ) → end ≤ more → Rise place low ms end → Rise place low ms more
rise_on place low [] end more l r = omega arith
rise_on place low (m ∷ ms) end more l r = (r.0, rise_on place (place m) ms end more l r.1)

-- a mark at the end
pub rise_push : {M : Type 0} (place : M → ℕ) (low : ℕ) (ms : List M) (m : M) (end : ℕ) → place m ≡ end → Rise place low ms end → Rise place low (ms ++ m ∷ []) end
rise_push place low [] m end e r = (omega arith, omega arith)
rise_push place low (k ∷ ks) m end e r = (r.0, rise_push place (place k) ks m end e r.1)

first_push : {M : Type 0} (place : M → ℕ) (ms : List M) (m : M) (end : ℕ) → place m ≡ end → first_mark place (ms ++ m ∷ []) end ≡ first_mark place ms end
first_push place [] m end e = e
first_push place (k ∷ ks) m end e = refl

first_on : {M : Type 0} (place : M → ℕ) (ms : List M) (end more : ℕ) → 0 < length ms → first_mark place ms more ≡ first_mark place ms end
first_on place [] end more l = absurd (omega (arith, l))
first_on place (m ∷ ms) end more l = refl

-- marks with one at the end
pub marks_push : {M : Type 0} (place : M → ℕ) (ms : List M) (m : M) (end : ℕ) → place m ≡ end → AreMarks place ms end → AreMarks place (ms ++ m ∷ []) end
marks_push place ms m end e a = record { begins = first_push place ms m end e ∙ a.begins; rise = rise_push place 0 ms m end e a.rise }

-- marks of a longer list
pub marks_on : {M : Type 0} (place : M → ℕ) (ms : List M) (end more : ℕ) → 0 < length ms → end ≤ more → AreMarks place ms end → AreMarks place ms more
marks_on place ms end more some l a = record { begins = first_on place ms end more some ∙ a.begins; rise = rise_on place 0 ms end more l a.rise }

---- Pieces

pub pieces_length : {M X Y : Type 0} (place : M → ℕ) (made : M → List X → Y) (ms : List M) (xs : List X) → length (pieces place made ms xs) ≡ length ms
pieces_length place made [] xs = refl
pieces_length place made (m ∷ ms) xs = ap suc (pieces_length place made ms xs)

-- a mark at the end begins an empty piece
pub pieces_mark : {M X Y : Type 0} (place : M → ℕ) (made : M → List X → Y) (ms : List M) (m : M) (xs : List X) → place m ≡ length xs →
    pieces place made (ms ++ m ∷ []) xs ≡ pieces place made ms xs ++ made m [] ∷ []
pieces_mark place made [] m xs e =
    let none : length xs - place m ≡ 0 = omega arith in
    ap (λ n. made m (take n (drop (place m) xs)) ∷ []) none
pieces_mark place made (k ∷ ks) m xs e = rw (first_push place ks m (length xs) e) (ap (λ ys. made k (take (first_mark place ks (length xs) - place k) (drop (place k) xs)) ∷ ys) (pieces_mark place made ks m xs e))

-- items at the end stand in the last piece
pub pieces_items : {M X Y : Type 0} (place : M → ℕ) (made : M → List X → Y) (low : ℕ) (ms : List M) (xs ys : List X) (h : Y → Y) (d : Y) →
    ((m : M) (q : List X) → made m (q ++ ys) ≡ h (made m q)) → Rise place low ms (length xs) → 0 < length ms →
    pieces place made ms (xs ++ ys) ≡ change_last h d (pieces place made ms xs)
pieces_items place made low [] xs ys h d e r l = absurd (omega (arith, l))
pieces_items place made low (m ∷ []) xs ys h d e r l =
    let within : place m ≤ length xs = r.1 in
    let all = take_rest (xs ++ ys) (place m) in
    let old = take_rest xs (place m) in
    ap (λ q. made m q ∷ []) (all ∙ drop-append-le (place m) xs ys within)
    ∙ ap (λ y. y ∷ []) (e m (drop (place m) xs) ∙ ap (λ q. h (made m q)) (sym old))
pieces_items place made low (m ∷ k ∷ ks) xs ys h d e r l =
    let first = rise_most place (place m) (k ∷ ks) (length xs) r.1 in
    let next = rise_most place (place k) ks (length xs) r.1.1 in
    let room : place k - place m ≤ length (drop (place m) xs) = omega (arith, length-drop (place m) xs) in
    let same : take (place k - place m) (drop (place m) (xs ++ ys)) ≡ take (place k - place m) (drop (place m) xs) =
    ap (take (place k - place m)) (drop-append-le (place m) xs ys first) ∙ take-append-le (place k - place m) (drop (place m) xs) ys room in
    ap (λ q. made m q ∷ pieces place made (k ∷ ks) (xs ++ ys)) same
    ∙ ap (λ zs. made m (take (place k - place m) (drop (place m) xs)) ∷ zs) (pieces_items place made (place m) (k ∷ ks) xs ys h d e r.1 (omega arith))

---- The last item is changed

length_changed : {X : Type 0} (h : X → X) (d : X) (xs : List X) → 0 < length xs → length (change_last h d xs) ≡ length xs
length_changed h d [] l = absurd (omega (arith, l))
length_changed h d (x ∷ []) l = refl
length_changed h d (x ∷ y ∷ ys) l = ap suc (length_changed h d (y ∷ ys) (omega arith))

drop_changed : {X : Type 0} (h : X → X) (d : X) (n : ℕ) (xs : List X) → n < length xs → drop n (change_last h d xs) ≡ change_last h d (drop n xs)
drop_changed h d zero xs l = refl
drop_changed h d (suc n) [] l = absurd (omega (arith, l))
drop_changed h d (suc n) (x ∷ []) l = absurd (omega (arith, l))
drop_changed h d (suc n) (x ∷ y ∷ ys) l = drop_changed h d n (y ∷ ys) (omega (arith, l))

take_changed : {X : Type 0} (h : X → X) (d : X) (n : ℕ) (xs : List X) → n < length xs → take n (change_last h d xs) ≡ take n xs
take_changed h d zero xs l = refl
take_changed h d (suc n) [] l = absurd (omega (arith, l))
take_changed h d (suc n) (x ∷ []) l = absurd (omega (arith, l))
take_changed h d (suc n) (x ∷ y ∷ ys) l = ap (λ zs. x ∷ zs) (take_changed h d n (y ∷ ys) (omega (arith, l)))

pub pieces_changed : {M X Y : Type 0} (place : M → ℕ) (made : M → List X → Y) (low : ℕ) (ms : List M) (end : ℕ) (xs : List X) (f : X → X) (first : X) (h : Y → Y) (d : Y) →
    ((m : M) (q : List X) → 0 < length q → made m (change_last f first q) ≡ h (made m q)) → Rise place low ms end → end < length xs → 0 < length ms →
    pieces place made ms (change_last f first xs) ≡ change_last h d (pieces place made ms xs)
pieces_changed place made low [] end xs f first h d e r b l = absurd (omega (arith, l))
pieces_changed place made low (m ∷ []) end xs f first h d e r b l =
    let within : place m < length xs = let k = r.1 in omega arith in
    let some : 0 < length (drop (place m) xs) = omega (arith, length-drop (place m) xs) in
    let all = take_rest (change_last f first xs) (place m) in
    let old = take_rest xs (place m) in
    ap (λ q. made m q ∷ []) (all ∙ drop_changed f first (place m) xs within)
    ∙ ap (λ y. y ∷ []) (e m (drop (place m) xs) some ∙ ap (λ q. h (made m q)) (sym old))
pieces_changed place made low (m ∷ k ∷ ks) end xs f first h d e r b l =
    let begun = rise_most place (place m) (k ∷ ks) end r.1 in
    let next = rise_most place (place k) ks end r.1.1 in
    let up : place m ≤ place k = r.1.0 in
    let within : place m < length xs = omega arith in
    let room : place k - place m < length (drop (place m) xs) = omega (arith, length-drop (place m) xs) in
    let same : take (place k - place m) (drop (place m) (change_last f first xs)) ≡ take (place k - place m) (drop (place m) xs) =
    ap (take (place k - place m)) (drop_changed f first (place m) xs within) ∙ take_changed f first (place k - place m) (drop (place m) xs) room in
    ap (λ q. made m q ∷ pieces place made (k ∷ ks) (change_last f first xs)) same
    ∙ ap (λ ys. made m (take (place k - place m) (drop (place m) xs)) ∷ ys) (pieces_changed place made (place m) (k ∷ ks) end xs f first h d e r.1 b (omega arith))

---- One piece

pub piece_at : {M X Y : Type 0} (place : M → ℕ) (made : M → List X → Y) (ms : List M) (xs : List X) (i : ℕ) (m : M) (d : Y) → i < length ms → m ≡ get_or ms i m →
    get_or (pieces place made ms xs) i d ≡ made m (take (first_mark place (drop (i + 1) ms) (length xs) - place m) (drop (place m) xs))
piece_at place made [] xs i m d l e = absurd (omega (arith, l))
piece_at place made (k ∷ ks) xs zero m d l e = rw e refl
piece_at place made (k ∷ ks) xs (suc i) m d l e = rw add-one (let h = rw add-one at (piece_at place made ks xs i m d (omega (arith, l)) e) in h)

-- a mark, the next one, and the end
pub rise_at : {M : Type 0} (place : M → ℕ) (low : ℕ) (ms : List M) (end i : ℕ) (m : M) → Rise place low ms end → i < length ms → m ≡ get_or ms i m →
    (place m ≤ first_mark place (drop (i + 1) ms) end) × (first_mark place (drop (i + 1) ms) end ≤ end)
rise_at place low [] end i m r l e = absurd (omega (arith, l))
rise_at place low (k ∷ ks) end zero m r l e = rw e (rise_first place (place k) ks end r.1)
rise_at place low (k ∷ ks) end (suc i) m r l e = rw add-one (let h = rw add-one at (rise_at place (place k) ks end i m r.1 (omega (arith, l)) e) in h)

---- All pieces

-- what joins the pieces of a list gives what joins the list, from the first mark on
pub pieces_whole : {M X Y Z : Type 0} (place : M → ℕ) (made : M → List X → Y) (F : List X → List Z) (G : List Y → List Z) → F [] ≡ [] → ((xs ys : List X) → F (xs ++ ys) ≡ F xs ++ F ys) →
    G [] ≡ [] → ((m : M) (q : List X) (ys : List Y) → G (made m q ∷ ys) ≡ F q ++ G ys) → (low : ℕ) (ms : List M) (xs : List X) → Rise place low ms (length xs) →
    G (pieces place made ms xs) ≡ F (drop (first_mark place ms (length xs)) xs)
pieces_whole place made F G fn fa gn gc low [] xs r = gn ∙ sym (ap F (drop_all (length xs) xs (omega arith)) ∙ fn)
pieces_whole place made F G fn fa gn gc low (m ∷ ms) xs r =
    let next = first_mark place ms (length xs) in
    let up = rise_first place (place m) ms (length xs) r.1 in
    let front = take (next - place m) (drop (place m) xs) in
    let back : drop (next - place m) (drop (place m) xs) ≡ drop next xs = drop-drop (next - place m) (place m) xs ∙ ap (λ n. drop n xs) (let k : place m + (next - place m) ≡ next = let u = up.0 in omega arith in k) in
    gc m front (pieces place made ms xs)
    ∙ ap (λ zs. F front ++ zs) (pieces_whole place made F G fn fa gn gc (place m) ms xs r.1)
    ∙ sym (fa front (drop next xs))
    ∙ ap F (ap (λ zs. front ++ zs) (sym back) ∙ take-append-drop (next - place m) (drop (place m) xs))

---- A list cut at marks

pub cut_read : {X : Type 0} (ms : List ℕ) (xs : List X) (i m : ℕ) → i < length ms → m ≡ get_or ms i m →
    get_or (cut_at ms xs) i [] ≡ take (first_mark own_place (drop (i + 1) ms) (length xs) - m) (drop m xs)
cut_read ms xs i m l e = piece_at own_place own_piece ms xs i m [] l e

pub cut_length : {X : Type 0} (ms : List ℕ) (xs : List X) (i m end : ℕ) → Rise own_place 0 ms (length xs) → i < length ms → m ≡ get_or ms i m → end ≡ first_mark own_place (drop (i + 1) ms) (length xs) →
    (m ≤ end) × (length (get_or (cut_at ms xs) i []) ≡ end - m)
cut_length ms xs i m end r l e f =
    let up = rise_at own_place 0 ms (length xs) i m r l e in
    let a : m ≤ end = subst (λ n. m ≤ n) (sym f) up.0 in
    let b : end ≤ length xs = subst (λ n. n ≤ length xs) (sym f) up.1 in
    let read : length (get_or (cut_at ms xs) i []) ≡ length (take (end - m) (drop m xs)) = ap length (cut_read ms xs i m l e) ∙ ap (λ n. length (take (n - m) (drop m xs))) (sym f) in
    (a, omega (arith, read, length-take (end - m) (drop m xs), length-drop m xs))

-- an item of a piece
pub cut_item : {X : Type 0} (ms : List ℕ) (xs : List X) (i j m : ℕ) (d : X) → Rise own_place 0 ms (length xs) → i < length ms → m ≡ get_or ms i m → j < length (get_or (cut_at ms xs) i []) →
    (m + j < length xs) × (get_or (get_or (cut_at ms xs) i []) j d ≡ get_or xs (m + j) d)
cut_item ms xs i j m d r l e b =
    let end = first_mark own_place (drop (i + 1) ms) (length xs) in
    let up = rise_at own_place 0 ms (length xs) i m r l e in
    let n = cut_length ms xs i m end r l e refl in
    let few : j < end - m = subst (λ k. j < k) n.1 b in
    let u = up.1 in
    (omega arith, ap (λ q. get_or q j d) (cut_read ms xs i m l e) ∙ get_or-take (end - m) (drop m xs) j d few ∙ get_or-drop m xs j d)
