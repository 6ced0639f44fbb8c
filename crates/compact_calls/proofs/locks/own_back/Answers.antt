use Rattle.heap_model.specs.declared.What.TheVariants as whats
use Rattle.compact_calls.proofs.Owning.{meets_none}
use Rattle.compact_calls.proofs.locks.own_back.Goals as goal

pub unreachable-requires : goal.unreachable-requires
unreachable-requires c =
    meets_none c.args.c.now c.take_back.new.c whats.Back c.in-Err.field-0.what c.in-Err.field-0.word (λ z. let none : ⊥ = cc (z) in none) c.check.ensures.stands c.requires.owns c.requires.ready.1 c.in-Err.ensures.busy
