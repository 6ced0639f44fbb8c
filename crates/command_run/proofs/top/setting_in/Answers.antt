use Rattle.std.proofs.Common.{map, string_bytes}
use Rattle.command_run.proofs.TopLemmas.{set_valid, set_none}
use Rattle.command_run.proofs.WordLemmas.{are_text}
use Rattle.command_run.proofs.top.setting_in.Goals as goal

pub returns-clause-set : goal.returns-clause-set
returns-clause-set c = set_valid (map string_bytes c.args.words.now) c.read_words.result (are_text c.args.words.now) c.read_words.ensures.valid

pub returns-clause-none : goal.returns-clause-none
returns-clause-none c = set_none (map string_bytes c.args.words.now) c.read_words.result c.read_words.ensures.invalid
