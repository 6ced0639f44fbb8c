-- Encoding and decoding are inverse.
use Rattle.std.specs.Prelude.{◌≡◌, ℕ, Some}
use Rattle.vs_headers.specs.declared.Head.{Head}
use Rattle.vs_headers.specs.Headers.{IsHead, encoded, decoded}

abbrev pub DecodesWhatWasEncoded : Type 0
DecodesWhatWasEncoded = (h : Head) (key addr : ℕ) → IsHead h → decoded (encoded h key addr) key addr ≡ Some h

-- .. and the head has fields of their widths
pub record IsHeadOf (word key addr : ℕ) (h : Head) : Type 0 where
  pub head : IsHead h
  pub word_is : encoded h key addr ≡ word

abbrev pub EncodesWhatWasDecoded : Type 0
EncodesWhatWasDecoded = (word key addr : ℕ) (h : Head) → decoded word key addr ≡ Some h → IsHeadOf word key addr h

abbrev pub OneHeadAWord : Type 0
OneHeadAWord =
    (g h : Head) (key addr : ℕ) → IsHead g → IsHead h → encoded g key addr ≡ encoded h key addr → g ≡ h
