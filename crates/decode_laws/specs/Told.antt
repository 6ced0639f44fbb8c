-- What the metadata of a heap tells, whatever legal history led to its state.
use Rattle.std.specs.Prelude.{◌≡◌, true, List}
use Rattle.std.specs.List.{AllByRecursion}
use Rattle.heap_model.specs.declared.Entry.{Entry}
use Rattle.heap_model.specs.declared.What.TheVariants as whats
use Rattle.heap_model.specs.State.{State, Setting, Place, IsValidSetting, is_live, live}
use Rattle.heap_model.specs.Legal.{leaves_whole}
use Rattle.heap_model.specs.History.{may_all_follow, first_configuration, configuration_of}
use Rattle.layout_decode.specs.Decode.{decode, IsReadable}
use Rattle.layout_decode.specs.Shows.{Shows}
use Rattle.layout_decode.specs.declared.Image.{Image}

-- no place is in hand
abbrev pub AreLive : List Place → Type 0
AreLive ps = AllByRecursion (λ p. is_live p.status ≡ true) ps

-- Each span of the back end has its place, and no place of it or of the large area is in hand.
pub record IsShowable (st : State) : Type 0 where
  pub whole : leaves_whole st whats.Back ≡ true
  pub back : AreLive st.back.places
  pub large : AreLive st.large

-- Where an image shows the state of a legal history in which no place of the variable-size layer is in hand, its metadata alone decodes to
-- all live blocks. A place of the front end that is in hand has its bit but no size, so it is not told.
abbrev pub BlocksAreTold : Type 0
BlocksAreTold = (s : Setting) (es : List Entry) (image : Image) → IsValidSetting s → may_all_follow s first_configuration es ≡ true →
    let st = (configuration_of s es).state in
    Shows image s st → AreLive st.vs.places → decode image ≡ live st

-- An image shows the state of a legal history only where descriptors and the table of large blocks have room for it.
abbrev pub ShownIsShowable : Type 0
ShownIsShowable = (s : Setting) (es : List Entry) (image : Image) → IsValidSetting s → may_all_follow s first_configuration es ≡ true →
    let st = (configuration_of s es).state in
    Shows image s st → IsShowable st

-- Where it shows one in which no place of the variable-size layer is in hand, it can be read. A header word has no room for the unused bytes
-- of a place in hand.
abbrev pub ShownCanBeRead : Type 0
ShownCanBeRead = (s : Setting) (es : List Entry) (image : Image) → IsValidSetting s → may_all_follow s first_configuration es ≡ true →
    let st = (configuration_of s es).state in
    Shows image s st → AreLive st.vs.places → IsReadable image
