-- What is said of a result by its case, said otherwise.
use Rattle.std.proofs.Common.{Option, Some, None}
use Rattle.std.specs.Prelude.{IfSome, IfNone}

pub some_to : {A : Type 0} (o : Option A) (P Q : A → Type 0) → ((x : A) → P x → Q x) → IfSome o P → IfSome o Q
some_to None P Q f h = h
some_to (Some x) P Q f h = f x h

pub none_to : {A : Type 0} (o : Option A) (P Q : Type 0) → (P → Q) → IfNone o P → IfNone o Q
none_to None P Q f h = f h
none_to (Some x) P Q f h = h
