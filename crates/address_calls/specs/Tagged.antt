-- A subsegment that is seen tagged: the list of a caller shows that the tags of its pages are stored. What a caller reads of it inside.
use Rattle.std.specs.Prelude.{◌≡◌, ℕ, ◌*◌, ◌/◌, ◌<◌, ◌==◌, Bool, true, false, not, List, [], ◌∷◌, ◌++◌, Option, Some, None, Result, Ok, Err}
use Rattle.std.specs.List.{find, list_all}
use Rattle.heap_model.specs.declared.Act.{Act}
use Rattle.heap_model.specs.declared.Act.TheVariants as acts
use Rattle.heap_model.specs.declared.Busy.{Busy}
use Rattle.heap_model.specs.declared.Entry.{Entry}
use Rattle.heap_model.specs.declared.Kind.TheVariants as kinds
use Rattle.heap_model.specs.declared.What.TheVariants as whats
use Rattle.heap_model.specs.State.{Span}
use Rattle.heap_model.specs.Backend.{in_span}
use Rattle.heap_model.specs.CallState.{Configuration}
use Rattle.claim_rule.specs.Entries.{IsLegalWith, entry}
use Rattle.claim_rule.specs.Shown.{lfh_spans, tag_of}
use Rattle.heap_gate.specs.Token.{Token, Always, IsStanding, is_out, now}
use Rattle.lfh_claims.specs.declared.tag.Tag.{Tag}
use Rattle.lfh_claims.specs.Blocks.{HasTag, tag_told}
use Rattle.call_parts.specs.Entries.{HasAdded}
use Rattle.front_calls.specs.Parts as fronts
use Rattle.address_calls.specs.declared.look.Found.{Found}
use Rattle.address_calls.specs.declared.look.Found.TheVariants as founds

---- By the list

-- the act ends no span that begins there
abbrev pub leaves_span : ℕ → Act → Bool
leaves_span first (acts.Unspan at) = not (at == first)
leaves_span first _ = true

abbrev pub all_leave_span : ℕ → List Entry → Bool
all_leave_span first es = list_all (λ e. leaves_span first e.act) es

-- In the list a caller makes this subsegment and later gives the lock of the back end back, and the subsegment is not ended.
pub record IsTaggedIn (x : Span) (list : List Entry) : Type 0 where
  pub maker : ℕ
  pub before : List Entry
  pub under : List Entry
  pub behind : List Entry
  pub list_is : list ≡ before ++ entry maker (acts.Span x.first x.pages kinds.Lfh x.bucket x.slot) ∷ (under ++ entry maker (acts.GiveLock whats.Back) ∷ behind)
  pub lfh : x.kind ≡ kinds.Lfh
  pub under_stays : all_leave_span x.first under ≡ true
  pub behind_stays : all_leave_span x.first behind ≡ true

---- By what a caller knows

-- the page is one of this subsegment, and whoever made it has given the lock of the back end back
pub record HasTagged (m : Configuration) (page : ℕ) (x : Span) : Type 0 where
  pub found : find (in_span page) (lfh_spans m.state.back.area) ≡ Some x
  pub given : m.now.span_history.makers x.first ≡ None

-- .. as the caller knows of the page of an address
pub record KnowsTag (c : Token) (addr : ℕ) : Type 0 where
  pub span : Span
  pub below : addr / 4096 < 256 * c.opening.limits.segments
  pub tagged : Always c (λ s. HasTagged (now s c) (addr / 4096) span)

-- the list tells it
abbrev pub KnownByList : Type 0
KnownByList = (c : Token) (addr : ℕ) (x : Span) → IsTaggedIn x c.seen → in_span (addr / 4096) x ≡ true → c.prepared ≡ [] → IsLegalWith c.opening c.roll c.seen → KnowsTag c addr

-- .. and inside, without the lock of the back end, the tag that is read then is that of the subsegment, whatever others do
abbrev pub ReadsKnownTag : Type 0
ReadsKnownTag =
    (old new : Token) (addr : ℕ) (told : Option Tag) (k : KnowsTag old addr) → old.prepared ≡ [] → old.inside ≡ true → is_out whats.Back old.out ≡ false → IsStanding old → HasTag old new (addr / 4096) told → IsStanding new
    → told ≡ tag_told (tag_of k.span)

---- What is done where the tag is known: no lock is taken and none is met

-- the front end has the address, or nobody has
abbrev pub IsOfFront : Found → Type 0
IsOfFront (founds.Front tag) = Unit {0}
IsOfFront founds.Nowhere = Unit {0}
IsOfFront _ = ⊥

-- it was found with no act
abbrev pub FindsAtOnce : Token → Token → Result Found Busy → Type 0
FindsAtOnce old new (Ok found) = IsOfFront found × HasAdded old new []
FindsAtOnce old new (Err busy) = ⊥

-- the size is found, or that none is live there, by acts of the front end alone
abbrev pub MeasuresAtOnce : Token → Token → ℕ → Result (Option ℕ) Busy → Type 0
MeasuresAtOnce old new addr (Ok told) = fronts.Measures old new addr told
MeasuresAtOnce old new addr (Err busy) = ⊥

-- .. and the block is dropped so
abbrev pub DropsAtOnce : Token → Token → ℕ → Result Bool Busy → Type 0
DropsAtOnce old new addr (Ok did) = fronts.Drops old new addr did
DropsAtOnce old new addr (Err busy) = ⊥

-- .. as they are where the look-up has found the front end, or that nobody has the address
abbrev pub MeasuresAsFront : Found → Token → Token → ℕ → Option ℕ → Type 0
MeasuresAsFront found old new addr told = IsOfFront found → fronts.Measures old new addr told

abbrev pub DropsAsFront : Found → Token → Token → ℕ → Result Bool Busy → Type 0
DropsAsFront found old new addr result = IsOfFront found → DropsAtOnce old new addr result
