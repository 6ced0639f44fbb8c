-- Kinds of runs.
use Rattle.std.proofs.Common.{◌≡◌, true, false, refl, sym}
use Rattle.heap_model.specs.declared.Kind.{Kind}
use Rattle.heap_model.specs.declared.Kind.TheVariants as kinds
use Rattle.heap_model.specs.State.{is_kind}
use Rattle.page_ranges.specs.Spans.{is_of_span, is_of_free}

pub span_not_header : (k : Kind) → is_of_span k ≡ true → is_kind k kinds.Header ≡ false
span_not_header kinds.Header e = sym e
span_not_header kinds.Free e = refl
span_not_header kinds.Vs e = refl
span_not_header kinds.Lfh e = refl
span_not_header kinds.Back e = refl

pub free_not_header : (k : Kind) → is_of_free k ≡ true → is_kind k kinds.Header ≡ false
free_not_header kinds.Header e = sym e
free_not_header kinds.Free e = refl
free_not_header kinds.Vs e = refl
free_not_header kinds.Lfh e = refl
free_not_header kinds.Back e = refl

pub span_not_free : (k : Kind) → is_of_span k ≡ true → is_of_free k ≡ false
span_not_free kinds.Header e = refl
span_not_free kinds.Free e = sym e
span_not_free kinds.Vs e = refl
span_not_free kinds.Lfh e = refl
span_not_free kinds.Back e = refl

pub free_not_span : (k : Kind) → is_of_free k ≡ true → is_of_span k ≡ false
free_not_span kinds.Header e = refl
free_not_span kinds.Free e = refl
free_not_span kinds.Vs e = sym e
free_not_span kinds.Lfh e = sym e
free_not_span kinds.Back e = sym e
