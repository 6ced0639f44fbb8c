use Rattle.std.proofs.Common.{◌∙◌, sym}
use Rattle.page_ranges.proofs.Encoding.{encoded}
use Rattle.page_ranges.proofs.Descs.words.Goals as goal

pub returns-clause-encoding : goal.returns-clause-encoding
returns-clause-encoding c = λ w. c.deref.ensures.value ∙ c.self.view_is ∙ sym (encoded c.args.self.now w)
