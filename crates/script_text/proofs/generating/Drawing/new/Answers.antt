-- No name has stood yet.
use Rattle.std.proofs.Common.{refl, ◌∙◌}
use Rattle.std.proofs.lemmas.List.{get_or-replicate, length-replicate}
use Rattle.script_text.specs.Drawing.{unknown}
use Rattle.script_text.proofs.GeneratorLemmas.{first_generator}
use Rattle.script_text.proofs.generating.Drawing.new.Goals as goal

pub returns : goal.returns
returns c = record {
  generator = c.new.ensures ∙ first_generator c.args.seed;
  room = length-replicate 256 unknown;
  names = λ name small. get_or-replicate 256 name unknown unknown small;
  used = refl;
}
