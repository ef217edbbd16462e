-- How many bytes the numbers on a page take.
use Rattle.std.proofs.Common.{◌≡◌, ℕ, ◌+◌, ◌/◌, ◌^◌, ◌<◌, ◌≤◌, length, decimal, ap, ◌∙◌, arith}
use Rattle.std.proofs.lemmas.List.{length-append, length_push}
use Rattle.std.proofs.lemmas.Fmt.{decimal_digit, decimal_step, length-decimal-le}

pub front_digits : (n : ℕ) → 10 ≤ n → n < 2 ^ 64 → length (decimal n) ≡ length (decimal (n / 10)) + 1
front_digits n h k = ap length (decimal_step n h k) ∙ length_push (decimal (n / 10)) _

pub one_digit : (n : ℕ) → n < 10 → length (decimal n) ≡ 1
one_digit n h = ap length (decimal_digit n h)

pub attribute_digits : (n : ℕ) → n ≤ 64 → length (decimal n) ≤ 2
attribute_digits n h = length-decimal-le 2 n (omega arith) (omega arith) (omega arith)

pub byte_digits : (n : ℕ) → n < 2 ^ 8 → length (decimal n) ≤ 3
byte_digits n h = length-decimal-le 3 n (omega arith) (omega arith) (omega arith)

pub symbol_digits : (n : ℕ) → n < 2 ^ 16 → length (decimal n) ≤ 5
symbol_digits n h = length-decimal-le 5 n (omega arith) (omega arith) (omega arith)

pub place_digits : (n : ℕ) → n < 2 ^ 64 → length (decimal n) ≤ 20
place_digits n h = length-decimal-le 20 n (omega arith) (omega arith) h

pub ruleset sizes = (length-append, attribute_digits, byte_digits, place_digits, symbol_digits)
