-- `numerals::digits::put_digits` meets its contract. The loop goes from the last digit: with the digits that are left written before what
-- stands already, all of them stand.
-- Assumes nothing.
use mathlib.Core.Path.{◌≡◌}
use Prim.Native.Nat.{◌+◌, ◌≤◌}
use lib.ListN.{length}
use Rattle.text.specs.Write.{write}
use Rattle.numerals.specs.Digits.{digits}
use Rattle.numerals.proofs.digits.put_digits.Given as goal

abbrev pub invariant-loop-i : goal.invariant-loop-i
invariant-loop-i l = record {
  room : l.at + l.k ≤ length l.buf;
  written : write l.buf l.at (digits l.i l.left) ≡ write l.initial.buf l.at (digits l.k l.v);
}
