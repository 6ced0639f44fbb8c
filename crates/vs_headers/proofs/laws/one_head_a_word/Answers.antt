-- Both are what the word decodes to.
use Rattle.std.proofs.Common.{◌≡◌, Some, sym, ap, ◌∙◌}
use Rattle.vs_headers.specs.declared.Head.{Head}
use Rattle.vs_headers.specs.Headers.{decoded}
use Rattle.vs_headers.proofs.HeaderLemmas.{decodes}
use Rattle.vs_headers.proofs.laws.one_head_a_word.Goals as goal

same_some : (g h : Head) → Some g ≡ Some h → g ≡ h
same_some g h e = cc

pub returns : goal.returns
returns c = λ g h key addr p q e.
    same_some g h (sym (decodes g key addr p) ∙ ap (λ x. decoded x key addr) e ∙ decodes h key addr q)
