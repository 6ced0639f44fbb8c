-- The text of one printed script, by computing.
use Rattle.std.proofs.Common.{◌≡◌, ℕ, zero, suc, true, false, List, [], ◌∷◌, codes, refl}
use Rattle.std.specs.Fmt.{digits}
use Rattle.script_text.specs.declared.commands.Target.TheVariants as targets
use Rattle.script_text.specs.declared.commands.Command.TheVariants as commands
use Rattle.script_laws.specs.Printer.{printed}

names : ℕ → List ℕ
names zero = codes "a"
names (suc n) = codes "b"

example : printed names (((commands.Alloc 0 100 false ∷ commands.Alloc 1 200 true ∷ []) ∷ []) ∷ ((commands.Free (targets.Name 0) ∷ []) ∷ (commands.Size (targets.Addr 4096) ∷ commands.Put (targets.Name 1) 0 18446744073709551615 ∷ []) ∷ []) ∷ [] ∷ []) ≡ codes "round\nthread\nalloc a 100\nzalloc b 200\nround\nthread\nfree a\nthread\nsize @4096\nput b 0 18446744073709551615\nround\n"
unfolding names digits
example = refl
