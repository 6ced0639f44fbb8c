use Rattle.std.proofs.Common.{sym, ap, ◌∙◌, subst}
use Rattle.std.specs.List.{find}
use Rattle.heap_model.specs.declared.Kind.{Kind}
use Rattle.layout_decode.specs.Decode.{blocks_of, is_at_or_after, IsRunOfChunks}
use Rattle.walk_calls.proofs.Chunks.{as_told}
use Rattle.walk_calls.proofs.runs.next_in.Goals as goal

pub returns-in-Vs-clause-found : goal.returns-in-Vs-clause-found
returns-in-Vs-clause-found c = λ s q image x same told.
    c.next_place.ensures
    ∙ (ap (find (is_at_or_after c.args.from)) (as_told image c.args.heads.now same c.requires.tiled told c.args.run.now (subst (λ (k : Kind). IsRunOfChunks c.args.heads.now c.args.run.now k) c.in-Vs.is c.requires.chunks))
    ∙ ap (λ (k : Kind). find (is_at_or_after c.args.from) (blocks_of image c.args.run.now k)) (sym c.in-Vs.is))

pub returns-in-Lfh-clause-found : goal.returns-in-Lfh-clause-found
returns-in-Lfh-clause-found c = λ s q image x same told.
    c.next_in_subsegment.ensures.found s q image x ∙ ap (λ (k : Kind). find (is_at_or_after c.args.from) (blocks_of image c.args.run.now k)) (sym c.in-Lfh.is)
