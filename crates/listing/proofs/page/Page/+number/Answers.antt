-- A number's last digit stands behind its other digits.
use Rattle.std.proofs.Common.{rules, arith}
use Rattle.std.proofs.lemmas.List.{append_assoc, length-append}
use Rattle.std.proofs.lemmas.Fmt.{decimal_digit, decimal_step}
use Rattle.listing.proofs.Digits.{front_digits, one_digit}
use Rattle.listing.proofs.page.Page.+number.Goals as goal
use Rattle.listing.proofs.page.Page.+number.Goals.{then-n-ge10, else-n-ge10}

pub number-requires : goal.number-requires
number-requires t c = grind (arith, front_digits)

pub write-requires : goal.write-requires
write-requires t c =
    elim c.if-n-ge10.branch [
      | then-n-ge10 w ↦ grind (arith, length-append, front_digits)
      | else-n-ge10 w ↦ grind (arith, one_digit)
    ]

pub returns : goal.returns
returns t c =
    elim c.if-n-ge10.branch [
      | then-n-ge10 w ↦ search (rules, append_assoc, decimal_step)
      | else-n-ge10 w ↦ search (rules, decimal_digit)
    ]
