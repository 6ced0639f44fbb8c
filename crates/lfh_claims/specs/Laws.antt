-- What a caller may do by what earlier calls told it, in words of the token.
use Rattle.std.specs.Prelude.{◌≡◌, ℕ, ◌/◌, ◌%◌, ◌≤◌, true, false, is_some, List, ◌++◌, Option, Some, None}
use Rattle.std.specs.List.{find}
use Rattle.heap_model.specs.declared.Entry.{Entry}
use Rattle.heap_model.specs.declared.What.TheVariants as whats
use Rattle.heap_model.specs.Backend.{in_span}
use Rattle.heap_model.specs.Buckets.{block_size}
use Rattle.heap_model.specs.Search.{request_of}
use Rattle.heap_model.specs.State.{Setting, Span}
use Rattle.claim_rule.specs.Entries.{IsSettingOf}
use Rattle.claim_rule.specs.Shown.{lfh_spans}
use Rattle.step_parts.specs.InHand.{HasBlock, IsBlockNumber}
use Rattle.block_steps.specs.Blocks.{MayAsk, MayPublish}
use Rattle.heap_gate.specs.Token.{Token, now, Always, IsStanding, is_out}
use Rattle.heap_gate.specs.Calls.{Does}
use Rattle.lfh_claims.specs.declared.tag.Tag.{Tag}
use Rattle.lfh_claims.specs.Blocks.{HasTag, MayGiveUp}
use Rattle.lfh_claims.specs.Search.{sought}
use Rattle.lfh_claims.specs.Stays.{all_stay, all_leave_spans, IsInside, HasRead}

-- What counts as read counts so behind each call of a caller that is inside and does not leave, whatever others do.
abbrev pub ReadStays : Type 0
ReadStays =
    (old new : Token) (es : List Entry) (head b t : ℕ) → Does old new es → all_stay (old.prepared ++ es) ≡ true → all_leave_spans old.prepared ≡ true → IsInside old → HasRead old head b t → HasRead new head b t

-- Where such a caller may ask for a block, it still may.
abbrev pub AskStays : Type 0
AskStays =
    (old new : Token) (es : List Entry) (addr head b t : ℕ) → Does old new es → all_stay (old.prepared ++ es) ≡ true → all_leave_spans old.prepared ≡ true → IsInside old → Always old (λ s. MayAsk (now s old) old.number head b t addr)
    → IsStanding new → new.inside ≡ true → Always new (λ s. MayAsk (now s new) new.number head b t addr)

-- a subsegment counts as read behind the reading of a tag
abbrev pub ReadByTag : Type 0
ReadByTag = (old new : Token) (page : ℕ) (tag : Tag) → HasTag old new page (Some tag) → HasRead new tag.head tag.bucket tag.slot

-- .. and a caller that is inside may ask for a block in the page
abbrev pub AsksByTag : Type 0
AsksByTag =
    (old new : Token) (addr : ℕ) (tag : Tag) → HasTag old new (addr / 4096) (Some tag) → IsStanding new → new.inside ≡ true → addr % 16 ≡ 0
    → Always new (λ s. MayAsk (now s new) new.number tag.head tag.bucket tag.slot addr)

-- A caller inside that does not hold the back end's lock reads the tag of a subsegment that it knows of, where the one that made it has given that lock back.
abbrev pub ReadsGivenTag : Type 0
ReadsGivenTag =
    (old new : Token) (page : ℕ) (told : Option Tag) (x : Span) (s : Setting) → HasTag old new page told → IsStanding new → new.inside ≡ true → is_out whats.Back new.out ≡ false → IsSettingOf new.opening new.roll s
    → find (in_span page) (lfh_spans (now s new).state.back.area) ≡ Some x → (now s new).now.span_history.makers x.first ≡ None → is_some told ≡ true

-- a block in hand may become live
abbrev pub PublishesInHand : Type 0
PublishesInHand =
    (c : Token) (b addr size : ℕ) → IsInside c → Always c (λ s. HasBlock (now s c) c.number b addr) → size ≤ block_size b → size ≤ 16368
    → Always c (λ s. MayPublish s (now s c) c.number addr size)

-- .. or be given back, where its subsegment counts as read
abbrev pub ClearsInHand : Type 0
ClearsInHand =
    (c : Token) (tag : Tag) (addr : ℕ) → IsInside c → HasRead c tag.head tag.bucket tag.slot → IsBlockNumber tag.head tag.bucket addr → Always c (λ s. HasBlock (now s c) c.number tag.bucket addr)
    → MayGiveUp c tag addr

-- the bucket that a call searches
abbrev pub SoughtIs : Type 0
SoughtIs = (c : Token) (b : ℕ) → Always c (λ s. (request_of s (now s c) c.number).search ≡ Some b) → sought c ≡ b
