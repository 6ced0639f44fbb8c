-- A word and a mark that are written, once there are so many.
use Rattle.std.proofs.Common.{◌≡◌, ℕ, ◌+◌, ◌<◌, ◌≤◌, Bool, false, List, length, set, Option, sym, ap, subst, ◌∙◌, arith}
use Rattle.std.proofs.lemmas.List.{length-set}
use Rattle.vs_headers.specs.declared.Head.{Head}
use Rattle.vs_split.specs.Chunks.{Chunks, with_head}
use Rattle.vs_split.specs.Table.{told, chunks_told, filled_up, chunks_kept, IsKeptAs, AreKept}
use Rattle.vs_split.proofs.FillLemmas.{length_filled, not_longer, as_long, filled_set}
use Rattle.vs_split.proofs.TableLemmas.{granules, kept_set, told_with}

-- What a table keeps, with room for n granules.
pub record IsTable (key n : ℕ) (ws : List ℕ) (ss : List Bool) : Type 0 where
  pub kept : AreKept key (filled_up n 0 ws) (filled_up n false ss)
  pub few : length ws ≤ n
  pub same : length ss ≡ length ws

module _ (key n : ℕ) (ws : List ℕ) (ss : List Bool) (t : IsTable key n ws ss) where
  -- it tells of all granules
  pub all_granules : (v : Chunks) → chunks_kept key n ws ss ≡ v → length v.heads ≡ n
  all_granules v e = sym (ap (λ (u : Chunks). length u.heads) e) ∙ (granules key (filled_up n 0 ws) (filled_up n false ss) t.kept ∙ length_filled n 0 ws t.few)

  module _ (g w : ℕ) (s : Bool) (xs : List ℕ) (ys : List Bool) (l : g < n) (x : xs ≡ filled_up (g + 1) 0 ws) (y : ys ≡ filled_up (g + 1) false ss) (k : IsKeptAs key g w s) where
    words_are : filled_up n 0 (set xs g w) ≡ set (filled_up n 0 ws) g w
    words_are = ap (λ (zs : List ℕ). filled_up n 0 (set zs g w)) x ∙ filled_set n g 0 w ws l

    starts_are : filled_up n false (set ys g s) ≡ set (filled_up n false ss) g s
    starts_are = ap (λ (zs : List Bool). filled_up n false (set zs g s)) y ∙ filled_set n g false s ss l

    within : g < length (filled_up n 0 ws)
    within = omega (arith, length_filled n 0 ws t.few)

    pub written : IsTable key n (set xs g w) (set ys g s)
    written = record {
      kept = subst (λ (zs : List ℕ). AreKept key zs (filled_up n false (set ys g s))) (sym words_are)
          (subst (λ (zs : List Bool). AreKept key (set (filled_up n 0 ws) g w) zs) (sym starts_are) (kept_set key (filled_up n 0 ws) (filled_up n false ss) t.kept g w s within k));
      few = omega (arith, length-set xs g w, ap (λ (zs : List ℕ). length zs) x, not_longer (g + 1) n 0 ws t.few (omega arith));
      same = length-set ys g s ∙ (ap (λ (zs : List Bool). length zs) y ∙ (as_long (g + 1) 0 false ws ss t.same ∙ (sym (ap (λ (zs : List ℕ). length zs) x) ∙ sym (length-set xs g w))));
    }

    pub written_view : (v : Chunks) (o : Option Head) → chunks_kept key n ws ss ≡ v → told key g w s ≡ o → chunks_kept key n (set xs g w) (set ys g s) ≡ with_head v g o
    written_view v o e h =
        ap (λ (zs : List ℕ). chunks_told key zs (filled_up n false (set ys g s))) words_are
        ∙ (ap (λ (zs : List Bool). chunks_told key (set (filled_up n 0 ws) g w) zs) starts_are
        ∙ (told_with key (filled_up n 0 ws) (filled_up n false ss) t.kept g w s o h ∙ ap (λ (u : Chunks). with_head u g o) e))
