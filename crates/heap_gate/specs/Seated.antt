-- The token of a seat.
use Rattle.std.specs.Prelude.{ℕ, Bool, List, ◌++◌, Option}
use Rattle.atomic_table.specs.Table.{Me}
use Rattle.atomic_table.specs.Seated.{TableId}
use Rattle.heap_model.specs.declared.Call.{Call}
use Rattle.heap_model.specs.declared.Entry.{Entry}
use Rattle.heap_model.specs.History.{own}
use Rattle.claim_rule.specs.declared.views.View.{View}
use Rattle.heap_gate.specs.Token.{Token, outs, search_marks}

-- what a caller has beside its seat
pub record Face : Type 0 where
  pub number : ℕ
  pub prepared : List Entry
  pub pending : Bool
  pub call : Option Call
  pub fresh : Bool
  pub locked : Bool
  pub inside : Bool
  pub depth : ℕ
  pub whole : Bool
  pub free : Bool
  pub drawn : Bool

abbrev pub tok : {T : Type 0} → TableId → Me (Option T) View → Face → Token
tok z me f = record {
  table = z;
  opening = me.0.opening;
  roll = me.0.roll;
  seen = me.0.seen;
  number = f.number;
  prepared = f.prepared;
  pending = f.pending;
  call = f.call;
  fresh = f.fresh;
  locked = f.locked;
  inside = f.inside;
  depth = f.depth;
  out = outs me.1;
  owes = me.0.owes;
  whole = f.whole;
  free = f.free;
  searches = (search_marks (own f.number me.0.seen ++ f.prepared)).made;
  searched = (search_marks (own f.number me.0.seen ++ f.prepared)).begun;
  drawn = f.drawn;
}
