use Rattle.std.proofs.Common.{◌≡◌, ◌+◌, ◌-◌, ◌/◌, ap, ◌∙◌, arith}
use Rattle.heap_model.specs.Geometry.{words_of}
use Rattle.heap_model.specs.Shape.{copying, zeroing_more}
use Rattle.move_parts.proofs.Filled.{filled_copied, filled_zeroed, filled_then}
use Rattle.move_parts.proofs.words.move_words.Goals as goal

pub returns : goal.returns
returns c =
    let a = c.args.c.now in let b = c.copy.new.c in let d = c.zero_gained.new.c in
    let addr = c.args.addr in let size = c.args.size in let to = c.args.b in let n = c.args.n in
    let x = c.copy.ensures in
    let f = filled_copied a b (addr / 8) (to / 8) x.0 c.requires.whole x.2 in
    let g = filled_zeroed b d (to / 8 + words_of size) (words_of n - words_of size) c.args.zero f.whole c.zero_gained.ensures in
    let count : c.div_ceil.result ≡ words_of c.min.result = omega (arith, c.div_ceil.ensures) in
    (x.0, x.1 ∙ (count ∙ ap words_of c.min.ensures), filled_then a b d (copying (addr / 8) (to / 8) x.0) (zeroing_more c.args.zero to size n) f g)
