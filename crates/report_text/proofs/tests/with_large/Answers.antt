use Rattle.std.proofs.Common.{◌∙◌}
use Rattle.report_text.proofs.tests.with_large.Goals as goal

pub returns : goal.returns
returns c =
    let r = c.requires.readable in
    record {
      whole = r.whole;
      rows = r.rows;
      told = r.told;
      subsegments = r.subsegments;
      fits = r.fits;
      words = r.words;
      segments = r.segments;
      pages = r.pages;
      large = c.take-addr.ensures.limits ∙ r.large;
    }
