-- A caller with nothing under way is so behind loads and stores.
use Rattle.std.proofs.Common.{ℕ, Bool, List, [], ◌∷◌, sym, ◌∙◌, subst}
use Rattle.heap_model.specs.declared.Entry.{Entry}
use Rattle.heap_gate.specs.Token.{HeapToken, Token}
use Rattle.heap_gate.specs.Calls.{Runs, Stands, stance}
use Rattle.heap_gate.specs.Counts.{IsSettled}
use Rattle.data_words.specs.Copies.{IsCopied, copies}

pub still : (h : HeapToken) (old new : Token) (i : Bool) (es : List Entry) → IsSettled h old i → Runs old new es → Stands new (stance old) → IsSettled h new i
still h old new i es k x s = record {
  table = x.does.table ∙ k.table;
  opening = x.does.opening ∙ k.opening;
  inside_is = s.inside ∙ k.inside_is;
  prepared = s.prepared;
  pending = s.pending;
  out = s.out ∙ k.out;
  whole = s.whole;
  free = s.free ∙ k.free;
  searched = s.searched ∙ k.searched;
  drawn = s.drawn ∙ k.drawn;
}

pub still_copied : (h : HeapToken) (old new : Token) (i : Bool) (from to : ℕ) (values : List ℕ) → IsSettled h old i → IsCopied old new from to values → IsSettled h new i
still_copied h old new i from to [] k e = subst (λ (t : Token). IsSettled h t i) (sym e) k
still_copied h old new i from to (v ∷ vs) k x = still h old new i (copies old.number from to (v ∷ vs)) k x.0 x.1
