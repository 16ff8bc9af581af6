-- Laws of a side: whether a byte of it is wanted, and how long what is said of it and of the count at the end is.
-- Assumes nothing.
use mathlib.Core.Path.{◌≡◌}
use mathlib.Core.Bool.{Bool, true, false}
use mathlib.Core.List.{List, ◌++◌}
use Prim.Native.Nat.{ℕ, ◌+◌, ◌^◌, ◌≤◌, ◌<◌}
use native.Mathlib.Omega.{arith}
use lib.Dec.{leb}
use lib.ListN.{length, drop, length-append, drop_of_length-le}
use lib.Seq.{drop-cons}
use borrow.Author.Tests.{leb-true, leb-false}
use Rattle.text.specs.Words.{bytes}
use Rattle.text.proofs.Choosing.{cond_by}
use Rattle.numerals.specs.Decimals.{decimal}
use Rattle.numerals.proofs.Tens.{decimal_most}
use Rattle.answers.specs.Lines.{newline}
use Rattle.listings.specs.Lines.{cut_line, version_line}
use Rattle.compared.specs.declared.Side.{Side}
use Rattle.compared.specs.declared.Side.TheVariants.{Sound, Cut, Version}
use Rattle.compared.specs.Text.{capped, side_text, count_line, end_text, longest_event}
use Rattle.compared.specs.Code.{wanting}

-- a byte is wanted where none is left and the side has not ended
pub wanting_at : (xs : List ℕ) (at : ℕ) → leb (length xs) at ≡ wanting (drop at xs) false
wanting_at xs at =
    cond_by (λ (b : Bool). leb (length xs) at ≡ wanting (drop at xs) false) (leb (length xs) at) {x = true} {y = false}
    (λ e. rw (e, drop_of_length-le xs (leb-true (length xs) at e)))
    (λ e. rw (e, drop-cons xs at 0 (leb-false (length xs) at e)))

-- a number of 64 bits stands for itself
pub capped_same : (n : ℕ) → n < 2 ^ 64 → capped n ≡ n
capped_same n h = omega (arith, h)

-- it has 20 digits at most
pub number_short : (n : ℕ) → n < 2 ^ 64 → length (decimal n) ≤ 20
number_short n h = decimal_most 19 n (omega (arith, h))

pub capped_short : (n : ℕ) → length (decimal (capped n)) ≤ 20
capped_short n = number_short (capped n) (omega arith)

-- what is said of a side
side_most : (name : List ℕ) (side : Side) → length (side_text name side) ≤ length name + 10
unfolding side_text
side_most name Sound = omega arith
side_most name Cut = omega (arith, length-append name cut_line)
side_most name Version = omega (arith, length-append name version_line)

-- the last line
count_most : (n : ℕ) → length (count_line n) ≤ 40
unfolding count_line
count_most n =
    omega (
      arith,
      length-append (bytes "differing records: ") (decimal (capped n) ++ newline),
      length-append (decimal (capped n)) newline,
      capped_short n,
    )

-- a step has room for all that is said at the end
pub end_most : (first second : Side) (named : ℕ) → length (end_text first second named) ≤ longest_event
unfolding end_text
end_most first second named =
    omega (
      arith,
      length-append (side_text (bytes "first: ") first) (side_text (bytes "second: ") second ++ count_line named),
      length-append (side_text (bytes "second: ") second) (count_line named),
      side_most (bytes "first: ") first,
      side_most (bytes "second: ") second,
      count_most named,
    )
