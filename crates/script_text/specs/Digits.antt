-- A number, digit by digit.
use Rattle.std.specs.Prelude.{ℕ, ◌+◌, ◌*◌, ◌-◌, ◌^◌, ◌&&◌, nat_lt, List, [], ◌∷◌, Option, Some, None, option_and_then, if◌then◌else◌}
use Rattle.script_text.specs.Words.{is_digit}

-- a number with one digit more, where it still has 64 bits
abbrev pub number_more : ℕ → ℕ → Option ℕ
number_more n c = if is_digit c && nat_lt (10 * n + (c - 48)) (2 ^ 64) then Some (10 * n + (c - 48)) else None

-- the number that digits stand for behind a number
abbrev pub number_from : ℕ → List ℕ → Option ℕ
number_from n [] = Some n
number_from n (c ∷ cs) = option_and_then (λ m. number_from m cs) (number_more n c)
