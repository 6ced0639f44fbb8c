-- What is counted for a summary.
use Rattle.std.specs.Prelude.{List, count_by}
use Rattle.heap_model.specs.declared.Reply.{Reply}
use Rattle.report_text.specs.declared.tally.Tally.{Tally}
use Rattle.report_text.specs.Summary.{is_no_fit, is_not_live, is_past, replies_that}

abbrev pub tally_of_replies : List Reply → Tally
tally_of_replies replies = record { no_fit = count_by is_no_fit replies; not_live = count_by is_not_live replies; past = count_by is_past replies }

abbrev pub tally_of : List (List (List Reply)) → Tally
tally_of answers = record { no_fit = replies_that is_no_fit answers; not_live = replies_that is_not_live answers; past = replies_that is_past answers }
