use Rattle.std.proofs.Common.{◌≡◌, ℕ, Err, subst}
use Rattle.heap_model.specs.declared.Call.TheVariants as calls
use Rattle.heap_model.specs.declared.Flags.{Flags}
use Rattle.heap_gate.specs.Token.{Token}
use Rattle.heap_api.specs.AtLast.{GetsAtLast}
use Rattle.heap_api.specs.Reallocs.{realloc_reply}
use Rattle.heap_api.specs.declared.ReRefused.{ReRefused}
use Rattle.heap_api.specs.declared.ReRefused.TheVariants as re_refusals
use Rattle.thread_calls.proofs.serving.change.Goals as goal

pub returns-in-Ok-clause-gets : goal.returns-in-Ok-clause-gets
returns-in-Ok-clause-gets g c = c.in-Ok.ensures.gets

-- it is refused for this reason
refused : (a b : Token) (addr n : ℕ) (flags : Flags) (r why : ReRefused) → r ≡ why → GetsAtLast a b (calls.Realloc addr n flags) (realloc_reply (Err r)) → GetsAtLast a b (calls.Realloc addr n flags) (realloc_reply (Err why))
refused a b addr n flags r why e x = subst (λ (q : ReRefused). GetsAtLast a b (calls.Realloc addr n flags) (realloc_reply (Err q))) e x

pub returns-in-Err-NotLive-clause-gets : goal.returns-in-Err-NotLive-clause-gets
returns-in-Err-NotLive-clause-gets g c = let a = c.args in refused a.c.now c.realloc.new.c a.addr a.n a.flags c.in-Err-NotLive.field-0 re_refusals.NotLive c.in-Err-NotLive.field-0-is c.in-Err-NotLive.ensures.gets

pub returns-in-Err-NoFit-clause-gets : goal.returns-in-Err-NoFit-clause-gets
returns-in-Err-NoFit-clause-gets g c = let a = c.args in refused a.c.now c.realloc.new.c a.addr a.n a.flags c.in-Err-NoFit.field-0 re_refusals.NoFit c.in-Err-NoFit.field-0-is c.in-Err-NoFit.ensures.gets

pub returns-in-Err-NoRoomInPlace-clause-gets : goal.returns-in-Err-NoRoomInPlace-clause-gets
returns-in-Err-NoRoomInPlace-clause-gets g c = let a = c.args in refused a.c.now c.realloc.new.c a.addr a.n a.flags c.in-Err-NoRoomInPlace.field-0 re_refusals.NoRoomInPlace c.in-Err-NoRoomInPlace.field-0-is c.in-Err-NoRoomInPlace.ensures.gets
