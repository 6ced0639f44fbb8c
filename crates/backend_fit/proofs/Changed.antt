-- The block that starts at a page, among blocks and among all runs: gone, or with another length.
use Rattle.std.proofs.Common.{◌≡◌, ℕ, ◌+◌, ◌*◌, ◌-◌, ◌<◌, true, false, List, [], ◌∷◌, map, refl, sym, ap, ◌∙◌, arith, eqb, inl, inr}
use Rattle.std.specs.Prelude.{IfSome, filter}
use Rattle.std.specs.List.{find}
use Rattle.std.proofs.lemmas.Bool.{cases_Bool, eqb-true, ne_eqb, eq-eqb}
use Rattle.heap_model.specs.declared.Kind.{Kind}
use Rattle.heap_model.specs.declared.Kind.TheVariants as kinds
use Rattle.heap_model.specs.declared.Run.{Run}
use Rattle.heap_model.specs.Marks.{back_mark}
use Rattle.heap_model.specs.State.{Span, Place, is_kind, is_live_at, change_found, remove_found}
use Rattle.heap_model.specs.Search.{begins_at}
use Rattle.heap_model.specs.Legal.{resize_place}
use Rattle.page_ranges.specs.Spans.{span_of, AreRising}
use Rattle.backend_fit.specs.Effects.{starts_at, with_mark, place_of}
use Rattle.backend_fit.specs.Kept.{is_block_run}

---- Gone

-- none of the later runs starts there
none_starts : (first from : ℕ) (rs : List Run) → AreRising from rs → first < from → remove_found (starts_at first) (filter is_block_run rs) ≡ filter is_block_run rs
none_starts first from [] a l = refl
none_starts first from (r ∷ rs) a l =
    let e : eqb r.first first ≡ false = ne_eqb r.first first (λ k. omega (arith, k, a.0, l)) in
    let rest = none_starts first (r.first + r.pages) rs a.2 (omega (arith, a.0, l)) in
    elim (cases_Bool (is_block_run r)) [
      | inl k ↦ rw (k, e) (ap (λ (qs : List Run). r ∷ qs) rest)
      | inr k ↦ rw k rest
    ]

pub blocks_without : (first from : ℕ) (rs : List Run) → AreRising from rs → filter is_block_run (remove_found (starts_at first) rs) ≡ remove_found (starts_at first) (filter is_block_run rs)
blocks_without first from [] a = refl
blocks_without first from (r ∷ rs) a =
    let rest = blocks_without first (r.first + r.pages) rs a.2 in
    elim (cases_Bool (eqb r.first first)) [
      | inl e ↦
          let at = eqb-true r.first first e in
          let none = none_starts first (r.first + r.pages) rs a.2 (omega (arith, at, a.1)) in
          elim (cases_Bool (is_block_run r)) [ inl k ↦ rw (e, k) (rw e refl) | inr k ↦ rw (e, k) (sym none) ]
      | inr e ↦ elim (cases_Bool (is_block_run r)) [
        | inl k ↦ rw (e, k) (rw e (ap (λ (qs : List Run). r ∷ qs) rest))
        | inr k ↦ rw (e, k) rest
      ]
    ]

---- With another length

module _ (first n unused : ℕ) where
  abbrev changed : Run → Run
  changed r = with_mark n (back_mark unused) r

  abbrev grown : Place → Place
  grown p = resize_place (256 * n) (4096 * n - unused) p

  pub blocks_changed : (rs : List Run) → IfSome (find (begins_at first) (map span_of rs)) (λ (x : Span). x.kind ≡ kinds.Back) →
      filter is_block_run (change_found (starts_at first) changed rs) ≡ change_found (starts_at first) changed (filter is_block_run rs)
  blocks_changed [] h = refl
  blocks_changed (r ∷ rs) h = elim (cases_Bool (eqb r.first first)) [
    | inl e ↦
        let kind : r.mark.kind ≡ kinds.Back = rw e at h in
        let k : is_block_run r ≡ true = ap (λ (x : Kind). is_kind x kinds.Back) kind in
        rw (e, k) (rw e refl)
    | inr e ↦
        let rest = blocks_changed rs (rw e at h) in
        elim (cases_Bool (is_block_run r)) [
          | inl k ↦ rw (e, k) (rw e (ap (λ (qs : List Run). r ∷ qs) rest))
          | inr k ↦ rw (e, k) rest
        ]
  ]

  pub live_test : (a : ℕ) (r : Run) → is_live_at a (place_of r) ≡ eqb (4096 * r.first) a
  live_test a r = elim (cases_Bool (eqb (4096 * r.first) a)) [ inl e ↦ rw e refl | inr e ↦ rw e refl ]

  pub places_changed : (rs : List Run) → change_found (is_live_at (4096 * first)) grown (map place_of rs) ≡ map place_of (change_found (starts_at first) changed rs)
  places_changed [] = refl
  places_changed (r ∷ rs) = elim (cases_Bool (eqb r.first first)) [
    | inl e ↦
        let t = live_test (4096 * first) r ∙ eq-eqb (4096 * r.first) (4096 * first) (omega (arith, eqb-true r.first first e)) in
        rw (e, t) refl
    | inr e ↦
        let t = live_test (4096 * first) r ∙ ne_eqb (4096 * r.first) (4096 * first) (λ k. differ r e (omega (arith, k))) in
        rw (e, t) (ap (λ (ps : List Place). place_of r ∷ ps) (places_changed rs))
  ]
    where
      differ : (r : Run) → eqb r.first first ≡ false → r.first ≡ first → ⊥
      differ r e d = let t = eq-eqb r.first first d in let z : true ≡ false = sym t ∙ e in let y : ⊥ = cc in y
