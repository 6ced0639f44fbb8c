use Rattle.std.proofs.Common.{◌≡◌, List, ℕ, true, false, arith, subst, sym, ◌∙◌}
use Rattle.heap_model.specs.declared.Run as real
use Rattle.page_ranges.specs.Spans.{is_of_free}
use Rattle.backend_fit.specs.Starts.{AreStarts}
use Rattle.backend_fit.proofs.Starts.{marked_starts}
use Rattle.backend_fit.proofs.ranges.Ranges.mark.Goals as goal

pub invariant_of-self : goal.invariant_of-self
invariant_of-self c =
    let told = subst (λ (bits : List ℕ). AreStarts bits c.self.inside.longest c.self.inside.descs) (sym c.deref_mut.ensures.value) c.self.invariant in
    let r : real.Run = record { first = c.args.first; pages = c.args.n; mark = c.args.mark } in
    let most = c.max-self-inside.ensures in
    marked_starts c.self.inside.descs c.mark.new.self c.deref_mut.result.now c.note.new.starts c.self.inside.longest c.max-self-inside.result r told c.mark.ensures.marked
    (c.note.ensures.first ∙ c.is_free-free.ensures) c.note.ensures.rest c.note.ensures.others (omega arith) (λ e. omega arith)

pub invariant_of-self-else-free : goal.invariant_of-self-else-free
invariant_of-self-else-free c =
    let told = subst (λ (bits : List ℕ). AreStarts bits c.self.inside.longest c.self.inside.descs) (sym c.deref_mut.ensures.value) c.self.invariant in
    let r : real.Run = record { first = c.args.first; pages = c.args.n; mark = c.args.mark } in
    let not_free : is_of_free c.args.mark.kind ≡ false = sym c.is_free-free.ensures ∙ c.if-free.false in
    marked_starts c.self.inside.descs c.mark.new.self c.deref_mut.result.now c.note.new.starts c.self.inside.longest c.self.inside.longest r told c.mark.ensures.marked
    (c.note.ensures.first ∙ c.is_free-free.ensures) c.note.ensures.rest c.note.ensures.others (omega arith)
    (λ e. let no : true ≡ false = sym e ∙ not_free in absurd (let x : ⊥ = cc in x))
