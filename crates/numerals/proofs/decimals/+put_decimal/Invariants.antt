-- The measure of `numerals::decimals::put_decimal`: the number.
use Rattle.numerals.proofs.decimals.+put_decimal.Given as goal

abbrev pub decreases-put_decimal : goal.decreases-put_decimal
decreases-put_decimal l = l.n
