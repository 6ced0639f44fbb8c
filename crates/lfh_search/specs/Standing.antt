-- Where a search of the front end stands, by the own acts of its caller.
use Rattle.std.specs.Prelude.{◌≡◌, ℕ, ◌<◌, ◌||◌, true, false, is_some, List, [], ◌∷◌, Some, None}
use Rattle.heap_model.specs.State.{Setting, is_entered}
use Rattle.heap_model.specs.Buckets.{words_in_use}
use Rattle.heap_model.specs.CallState.{Search, Stage, NotBegun, AtHint, FirstPass, SecondPass, Configuration}
use Rattle.heap_model.specs.Search.{SearchKey, request_of, draw_of, has_not_begun}
use Rattle.heap_model.specs.Agreement.{holds_old_block}

-- what a search of a bucket in a slot by a draw goes by
abbrev pub key : ℕ → ℕ → ℕ → SearchKey
key b t d = record { bucket = b; slot = t; draw = d }

-- Caller n is inside in a call that searches bucket b in slot t by draw d; only it changes the block that it moves, if it moves one. Its search stands so.
pub record IsSearching (s : Setting) (m : Configuration) (n b t d : ℕ) (f : Search) : Type 0 where
  pub begun : is_some (m.now.calls n).call ≡ true
  pub inside : is_entered m.state.gate n ≡ true
  pub seeks : (request_of s m n).search ≡ Some b
  pub slot : s.slot n ≡ t
  pub draw : draw_of s n (m.now.calls n).searches ≡ d
  pub old : holds_old_block m n ≡ true
  pub search : (m.now.calls n).search ≡ f

---- In a subsegment

-- the stage of a search that goes on to a subsegment, and those that it has read at this stage, the last first
abbrev pub stage_onto : Stage → Stage
stage_onto NotBegun = AtHint
stage_onto AtHint = FirstPass
stage_onto FirstPass = FirstPass
stage_onto SecondPass = SecondPass

abbrev pub read_onto : Stage → ℕ → List ℕ → List ℕ
read_onto NotBegun head read = head ∷ []
read_onto AtHint head read = head ∷ []
read_onto FirstPass head read = head ∷ read
read_onto SecondPass head read = head ∷ read

-- A search that went on to a subsegment, of which k words are dry, with so many claims lost.
abbrev pub reading : Search → ℕ → ℕ → ℕ → Search
reading f head k lost = record { stage = stage_onto f.stage; read = read_onto f.stage head f.read; exhausted = k; ended = false; picked = None; lost = lost }

-- .. all of whose words in use are dry
abbrev pub dried : Search → ℕ → ℕ → ℕ → Search
dried f b head lost = record { stage = stage_onto f.stage; read = read_onto f.stage head f.read; exhausted = words_in_use b; ended = true; picked = None; lost = lost }

-- It may go on to a subsegment: it has not begun, or has read the last one to its end.
pub record IsBetween (f : Search) : Type 0 where
  pub between : (has_not_begun f.stage || f.ended) ≡ true
  pub picked : f.picked ≡ None
  pub few : f.lost < 8
