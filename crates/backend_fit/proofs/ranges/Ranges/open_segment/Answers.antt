use Rattle.std.proofs.Common.{List, ℕ, ◌+◌, ◌*◌, arith, subst, sym}
use Rattle.heap_model.specs.declared.Run as real
use Rattle.heap_model.specs.Marks.{free_mark}
use Rattle.backend_fit.specs.Starts.{AreStarts}
use Rattle.backend_fit.proofs.Starts.{marked_starts}
use Rattle.backend_fit.proofs.ranges.Ranges.open_segment.Goals as goal

pub invariant_of-self : goal.invariant_of-self
invariant_of-self c =
    let told = subst (λ (bits : List ℕ). AreStarts bits c.self.inside.longest c.self.inside.descs) (sym c.deref_mut.ensures.value) c.self.invariant in
    let r : real.Run = record { first = 256 * c.args.segment + 2; pages = 254; mark = free_mark } in
    let most = c.max-self-inside.ensures in
    marked_starts c.self.inside.descs c.open_segment.new.self c.deref_mut.result.now c.note.new.starts c.self.inside.longest c.max-self-inside.result r told c.open_segment.ensures.marked
    c.note.ensures.first c.note.ensures.rest c.note.ensures.others (omega arith) (λ e. omega arith)
