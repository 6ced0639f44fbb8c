-- A caller behind a step of a walk, and behind a compaction.
use Rattle.std.proofs.Common.{◌≡◌, ℕ, Option, sym, ◌∙◌, subst}
use Rattle.std.specs.Prelude.{Result, Ok, Err, IfOk, IfErr, OnErr}
use Rattle.heap_model.specs.declared.Block.{Block}
use Rattle.heap_model.specs.declared.Busy.{Busy}
use Rattle.heap_gate.specs.Token.{HeapToken, Token}
use Rattle.compact_calls.specs.Compact.{HasNumber, IsRefused, IsCompacted}
use Rattle.heap_model.specs.Shape.{Answer}
use Rattle.walk_calls.specs.Walk.{Walks}
use Rattle.heap_now.specs.Calls.{IsCallerOf}
use Rattle.heap_now.specs.Callers.{IsFreeCaller}

pub walked_again : {A : Type 0} (h : HeapToken) (a b : Token) (from : ℕ) (q : Result (Option Block) A) → IsCallerOf h a → IfOk q (λ found. Walks a b from found) → OnErr q ((a.depth ≡ 0) × (b ≡ a)) → IsCallerOf h b
walked_again h a b from (Ok found) k x y =
    let w = x.answered 0 in
    record { table = w.answers.table ∙ k.table; opening = w.answers.opening ∙ k.opening; is_ready = record { ready = w.answers.ready; owes = w.owes } }
walked_again h a b from (Err n) k x y = subst (IsCallerOf h) (sym y.1) k

compacted : (h : HeapToken) (a b : Token) (answer : Answer) → IsFreeCaller h a → IsCompacted a b answer → IsFreeCaller h b
compacted h a b answer k x = record {
  caller = record { table = x.answers.table ∙ k.caller.table; opening = x.answers.opening ∙ k.caller.opening; is_ready = record { ready = x.answers.ready; owes = x.owes } };
  depth = x.answers.depth ∙ k.depth;
}

pub compacted_again : (h : HeapToken) (a b : Token) (q : Result ℕ Busy) → IsFreeCaller h a → IfOk q (λ n. HasNumber a b n) → IfErr q (λ busy. IsRefused a b busy) → IsFreeCaller h b
compacted_again h a b (Ok n) k x y = compacted h a b _ k x
compacted_again h a b (Err busy) k x y = compacted h a b _ k y.answered
