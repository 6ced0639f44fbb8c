-- What words and marks tell, before and after a write.
use Rattle.std.proofs.Common.{◌≡◌, ℕ, zero, suc, ◌+◌, ◌*◌, ◌^◌, ◌<◌, ◌≤◌, ◌⊎◌, inl, inr, Bool, true, false, List, [], ◌∷◌, length, get_or, set, replicate, Option, Some, None, refl, sym, ap, subst, ◌∙◌, arith}
use Rattle.std.specs.Option.{option_map_or}
use Rattle.std.proofs.lemmas.Bool.{cases_order, cases_lt}
use Rattle.std.proofs.lemmas.List.{get_or-set_same, get_or-set_other, get_or-replicate, get_or_past, set-get_or, length-set, length-replicate}
use Rattle.vs_headers.specs.declared.Head.{Head}
use Rattle.vs_headers.specs.Headers.{IsHead, encoded, decoded}
use Rattle.vs_headers.proofs.HeaderLemmas.{decodes}
use Rattle.vs_split.specs.Chunks.{Chunks, head_at, word_at, with_head}
use Rattle.vs_split.specs.Table.{told, all_told, chunks_told, IsKeptAs, AreKept}

length_told : (key g : ℕ) (ws : List ℕ) (ss : List Bool) → length (all_told key g ws ss) ≡ length ws
length_told key g [] ss = refl
length_told key g (w ∷ ws) [] = ap suc (length_told key (suc g) ws [])
length_told key g (w ∷ ws) (s ∷ ss) = ap suc (length_told key (suc g) ws ss)

told_from : (key g n i : ℕ) (ws : List ℕ) (ss : List Bool) → n ≡ g + i → length ss ≡ length ws → i < length ws
    → get_or (all_told key g ws ss) i None ≡ told key n (get_or ws i 0) (get_or ss i false)
told_from key g n i [] ss e l within = absurd (omega arith)
told_from key g n i (w ∷ ws) [] e l within = absurd (omega arith)
told_from key g n zero (w ∷ ws) (s ∷ ss) e l within = let same : g ≡ n = omega arith in ap (λ k. told key k w s) same
told_from key g n (suc i) (w ∷ ws) (s ∷ ss) e l within = told_from key (suc g) n i ws ss (omega arith) (omega arith) (omega arith)

told_set : (key g n i w : ℕ) (s : Bool) (ws : List ℕ) (ss : List Bool) → n ≡ g + i → length ss ≡ length ws
    → all_told key g (set ws i w) (set ss i s) ≡ set (all_told key g ws ss) i (told key n w s)
told_set key g n i w s [] [] e l = refl
told_set key g n i w s [] (t ∷ ss) e l = absurd (omega arith)
told_set key g n i w s (v ∷ ws) [] e l = absurd (omega arith)
told_set key g n zero w s (v ∷ ws) (t ∷ ss) e l = let same : g ≡ n = omega arith in ap (λ k. told key k w s ∷ all_told key (suc g) ws ss) same
told_set key g n (suc i) w s (v ∷ ws) (t ∷ ss) e l = ap (λ hs. told key g v t ∷ hs) (told_set key (suc g) n i w s ws ss (omega arith) (omega arith))

none_told : (key g n : ℕ) → all_told key g (replicate n 0) (replicate n false) ≡ replicate n None
none_told key g zero = refl
none_told key g (suc n) = ap (λ hs. None ∷ hs) (none_told key (suc g) n)

pub chunks_empty : (key n : ℕ) (ws : List ℕ) (ss : List Bool) → ws ≡ replicate n 0 → ss ≡ replicate n false → chunks_told key ws ss ≡ record { key = key; heads = replicate n None }
chunks_empty key n ws ss e f =
    ap (λ l. chunks_told key l ss) e
    ∙ ap (chunks_told key (replicate n 0)) f
    ∙ ap (λ (hs : List (Option Head)). let v : Chunks = record { key = key; heads = hs } in v) (none_told key 0 n)

pub kept_empty : (key n : ℕ) (ws : List ℕ) (ss : List Bool) → n < 2 ^ 32 → ws ≡ replicate n 0 → ss ≡ replicate n false → AreKept key ws ss
kept_empty key n ws ss few e f =
    subst (λ l. AreKept key l ss) (sym e) (subst (AreKept key (replicate n 0)) (sym f) (record {
      as_long = length-replicate n false ∙ sym (length-replicate n 0);
      few = subst (λ k. k < 2 ^ 32) (sym (length-replicate n 0)) few;
      each = λ g l. let within : g < n = subst (λ k. g < k) (length-replicate n 0) l in
          subst (λ s. IsKeptAs key g (get_or (replicate n 0) g 0) s) (sym (get_or-replicate n g false false within)) (get_or-replicate n g 0 0 within);
    }))

module _ (key : ℕ) (ws : List ℕ) (ss : List Bool) (kept : AreKept key ws ss) where
  abbrev told_here : Chunks
  told_here = chunks_told key ws ss

  pub granules : length told_here.heads ≡ length ws
  granules = length_told key 0 ws ss

  pub head_is : (g : ℕ) → g < length ws → head_at told_here g ≡ told key g (get_or ws g 0) (get_or ss g false)
  head_is g within = told_from key 0 g g ws ss (omega arith) kept.as_long within

  word_told : (g w : ℕ) (s : Bool) → IsKeptAs key g w s → option_map_or (λ h. encoded h key (16 * g)) (told key g w s) 0 ≡ w
  word_told g w false e = sym e
  word_told g w true k =
      ap (λ o. option_map_or (λ h. encoded h key (16 * g)) o 0) (ap (λ x. decoded x key (16 * g)) (sym k.1.1) ∙ decodes k.0 key (16 * g) k.1.0)
      ∙ k.1.1

  pub head_unmarked : (g : ℕ) → g < length ws → get_or ss g false ≡ false → head_at told_here g ≡ None
  head_unmarked g within e = head_is g within ∙ ap (λ s. told key g (get_or ws g 0) s) e

  pub head_past : (g : ℕ) → length ws ≤ g → head_at told_here g ≡ None
  head_past g past = get_or_past told_here.heads g None (subst (λ n. n ≤ g) (sym granules) past)

  -- no chunk where there is no mark
  pub unmarked_none : (g : ℕ) → get_or ss g false ≡ false → head_at told_here g ≡ None
  unmarked_none g e = elim (cases_lt g (length ws)) [ inl within ↦ head_unmarked g within e | inr past ↦ head_past g past ]

  word_within : (g : ℕ) → g < length ws → word_at told_here g ≡ get_or ws g 0
  word_within g within =
      ap (λ o. option_map_or (λ h. encoded h key (16 * g)) o 0) (head_is g within) ∙ word_told g (get_or ws g 0) (get_or ss g false) (kept.each g within)

  pub word_is : (g : ℕ) → word_at told_here g ≡ get_or ws g 0
  word_is g = elim (cases_lt g (length ws)) [
    | inl within ↦ word_within g within
    | inr past ↦ ap (λ o. option_map_or (λ h. encoded h key (16 * g)) o 0) (head_past g past) ∙ sym (get_or_past ws g 0 past)
  ]

  -- a word and a mark that are written
  pub kept_set : (g w : ℕ) (s : Bool) → g < length ws → IsKeptAs key g w s → AreKept key (set ws g w) (set ss g s)
  kept_set g w s within k = record {
    as_long = length-set ss g s ∙ kept.as_long ∙ sym (length-set ws g w);
    few = subst (λ n. n < 2 ^ 32) (sym (length-set ws g w)) kept.few;
    each = λ i l. by i (subst (λ n. i < n) (length-set ws g w) l) (cases_order i g);
  }
    where
      at_g : IsKeptAs key g (get_or (set ws g w) g 0) (get_or (set ss g s) g false)
      at_g =
          subst (λ x. IsKeptAs key g x (get_or (set ss g s) g false)) (sym (get_or-set_same ws g w 0 within))
          (subst (λ t. IsKeptAs key g w t) (sym (get_or-set_same ss g s false (subst (λ n. g < n) (sym kept.as_long) within))) k)

      other_than : (i : ℕ) → (i < g) ⊎ (g < i) → i ≡ g → ⊥
      other_than i (inl l) e = absurd (omega arith)
      other_than i (inr l) e = absurd (omega arith)

      by : (i : ℕ) → i < length ws → (i ≡ g) ⊎ ((i < g) ⊎ (g < i)) → IsKeptAs key i (get_or (set ws g w) i 0) (get_or (set ss g s) i false)
      by i l (inl e) = subst (λ j. IsKeptAs key j (get_or (set ws g w) j 0) (get_or (set ss g s) j false)) (sym e) at_g
      by i l (inr other) =
          subst (λ x. IsKeptAs key i x (get_or (set ss g s) i false)) (sym (get_or-set_other ws g i w 0 (other_than i other)))
          (subst (λ t. IsKeptAs key i (get_or ws i 0) t) (sym (get_or-set_other ss g i s false (other_than i other))) (kept.each i l))

  pub told_with : (g w : ℕ) (s : Bool) (o : Option Head) → told key g w s ≡ o → chunks_told key (set ws g w) (set ss g s) ≡ with_head told_here g o
  told_with g w s o e =
      ap (λ (hs : List (Option Head)). let v : Chunks = record { key = key; heads = hs } in v)
      (told_set key 0 g g w s ws ss (omega arith) kept.as_long ∙ ap (set (all_told key 0 ws ss) g) e)

pub head_told : (key g : ℕ) (h : Head) → IsHead h → told key g (encoded h key (16 * g)) true ≡ Some h
head_told key g h p = decodes h key (16 * g) p

-- no chunk where there was none
pub with_none : (v : Chunks) (g : ℕ) → head_at v g ≡ None → with_head v g None ≡ v
with_none v g e =
    ap (λ (hs : List (Option Head)). let w : Chunks = record { key = v.key; heads = hs } in w)
    (ap (set v.heads g) (sym e) ∙ set-get_or v.heads g None)
