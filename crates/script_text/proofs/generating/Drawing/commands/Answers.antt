-- Behind one command more.
use Rattle.std.proofs.Common.{◌≡◌, ℕ, suc, ◌+◌, ◌≤◌, arith, subst, ap, ◌∙◌}
use Rattle.script_text.specs.Generator.{drawn, names_drawn, command_lines}
use Rattle.script_text.specs.Drawing.{HasDrawn}
use Rattle.script_text.proofs.GeneratorLemmas.{one_more}
use Rattle.script_text.proofs.generating.Drawing.commands.Goals as goal

pub loop-preserved : goal.loop-preserved
loop-preserved c =
    let kept = c.loop.invariant in
    let next : suc c.loop.counter ≡ c.loop.counter + 1 = omega arith in
    let within : suc c.loop.counter ≤ c.args.count = omega arith in
    let has = c.next-command.ensures.drawn c.args.seed c.loop.counter kept.has in
    let command = c.next-command.ensures.command c.args.seed c.loop.counter kept.has in
    let more = one_more c.args.seed c.loop.counter c.args.count c.loop.commands.items c.next-command.result within kept.commands command in
    record {
      has = subst (λ (k : ℕ). HasDrawn c.next-command.new.self c.args.seed k) next has;
      few = omega arith;
      commands = c.in_ok-push.ensures.items ∙ (more ∙ ap (λ (k : ℕ). command_lines (names_drawn c.args.seed c.args.count) (drawn c.args.seed k)) next);
    }
