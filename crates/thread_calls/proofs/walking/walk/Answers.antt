use Rattle.std.proofs.Common.{◌∷◌, [], ◌∙◌, sym}
use Rattle.heap_model.specs.declared.Reply.TheVariants as replies
use Rattle.thread_calls.proofs.Steps.{refused}
use Rattle.thread_calls.proofs.walking.walk.Goals as goal

pub returns-then-depth-eq0-clause-walked : goal.returns-then-depth-eq0-clause-walked
returns-then-depth-eq0-clause-walked c = (replies.NotLocked ∷ [], c.in_ok-push.ensures.items, refused c.args.c.now c.requires.ready (sym c.depth.ensures ∙ c.if-depth-eq0.true))
