use Rattle.std.proofs.Common.{map, string_bytes, refl, inl}
use Rattle.run_ending.specs.declared.ending.Due.TheVariants as dues
use Rattle.run_ending.proofs.Endings.{unread}
use Rattle.command_run.specs.Top.{SetsNothing}
use Rattle.command_run.proofs.TopLemmas.{no_text, usage_only}
use Rattle.command_run.proofs.top.run_words.Goals as goal

pub returns-in-Ok-Some-clause-no_text : goal.returns-in-Ok-Some-clause-no_text
returns-in-Ok-Some-clause-no_text g c =
    let same = rw c.in-Ok-Some.field-0-is at c.in-Ok-Some.ensures.same in
    λ n.
    let none : SetsNothing (map string_bytes c.deref.result.now) = rw (c.deref.ensures.value, same) (no_text _ n) in
    usage_only _ _ _ _ _ _ _ _ _ _ c.run.result.status c.run.ensures.ends none

pub returns-in-Ok-Some-clause-ends : goal.returns-in-Ok-Some-clause-ends
returns-in-Ok-Some-clause-ends g c =
    let same = rw c.in-Ok-Some.field-0-is at c.in-Ok-Some.ensures.same in
    rw (← same, ← c.deref.ensures.value) c.run.ensures.ends

pub returns-in-Ok-None-clause-ends : goal.returns-in-Ok-None-clause-ends
returns-in-Ok-None-clause-ends g c =
    let none = rw c.in-Ok-None.field-0-is at c.in-Ok-None.ensures.none in
    inl (dues.Usage, inl (no_text _ none, unread (g.S.Source.left c.args.source.now), refl, refl), c.deliver.ensures)
