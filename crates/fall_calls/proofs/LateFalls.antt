-- What an allocation adds to its caller's list behind both locks.
use Rattle.std.proofs.Common.{◌≡◌, List, Some}
use Rattle.heap_model.specs.declared.Act.{Act}
use Rattle.heap_model.specs.declared.Call.{Call}
use Rattle.heap_model.specs.Shape.{Answer}
use Rattle.heap_gate.specs.Token.{Token}
use Rattle.call_parts.specs.Calls.{GoesOn, Brings}
use Rattle.paged_calls.specs.Parts.{ForCall}

pub goes_of : (c f : Token) (call : Call) (answer : Answer) → c.call ≡ Some call → ForCall c (λ k. Brings c f k answer) → (rest : List Act) × GoesOn c f rest
goes_of c f call answer is y = let z = y call is in (z.1.added, z.1.goes)
