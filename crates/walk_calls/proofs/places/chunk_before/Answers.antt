use Rattle.std.proofs.Common.{◌≡◌, ℕ, ◌*◌, inr, true, Option, Some, None, not, refl, ◌∙◌, ap, subst}
use Rattle.std.specs.Option.{is_some}
use Rattle.vs_headers.specs.declared.Head.{Head}
use Rattle.vs_split.specs.Chunks.{head_at, chunk_at}
use Rattle.layout_decode.proofs.Rows.{chunk_of_granule}
use Rattle.walk_calls.proofs.places.chunk_before.Goals as goal

there : (o : Option Head) → is_some o ≡ true → (h : Head) × (o ≡ Some h)
there None e = absurd (cc)
there (Some h) e = (h, refl)

pub returns-else-is_none-clause-start : goal.returns-else-is_none-clause-start
returns-else-is_none-clause-start c =
    let g : ℕ = c.loop-granule.granule in
    let at : c.chunk_at.result ≡ head_at c.args.heads.now g =
    c.chunk_at.ensures.head ∙ ap (λ n. chunk_at c.args.heads.now (16 * n)) c.from.ensures ∙ chunk_of_granule c.args.heads.now g in
    inr (there (head_at c.args.heads.now g) (subst (λ (o : Option Head). is_some o ≡ true) at (c.is_none.ensures ∙ ap not c.if-is_none.false)))
