-- What the page ranges of an image tell.
use Rattle.std.specs.Prelude.{◌≡◌}
use Rattle.heap_model.specs.State.{State, Setting}
use Rattle.heap_model.specs.Layout.{page_ranges_of}
use Rattle.layout_decode.specs.declared.Image.{Image}
use Rattle.layout_decode.specs.Shows.{Shows}
use Rattle.report_text.specs.Image.{ranges_of}

-- They are those of each state that it shows.
abbrev pub RangesAreOfTheState : Type 0
RangesAreOfTheState = (image : Image) (s : Setting) (st : State) → Shows image s st → ranges_of image ≡ page_ranges_of st.back.area
