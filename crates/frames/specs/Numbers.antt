-- "All numbers are big-endian."; and signed numbers, in two's complement.
-- Assumes nothing.
use Rattle.std.specs.Prelude.{List, cond, ℕ, ◌+◌, ◌-◌, ◌*◌, ◌%◌, ◌^◌, ltb, ℤ, pos, get_or}
use Rattle.std.proofs.Math.IntN.{sub_ℕ}

-- the byte at a place
abbrev pub byte : List ℕ → ℕ → ℕ
byte xs at = get_or xs at 0

-- a number of two bytes
abbrev pub word : List ℕ → ℕ → ℕ
word xs at = byte xs at * 2 ^ 8 + byte xs (at + 1)

-- a number of four bytes
abbrev pub dword : List ℕ → ℕ → ℕ
dword xs at = byte xs at * 2 ^ 24 + byte xs (at + 1) * 2 ^ 16 + byte xs (at + 2) * 2 ^ 8 + byte xs (at + 3)

-- the lowest `w` bits of a number, read as signed: from half of 2 ^ w on they stand for 2 ^ w less
unfoldable pub signed : ℕ → ℕ → ℤ
signed w n = cond (ltb (n % 2 ^ w) (2 ^ (w - 1))) (pos (n % 2 ^ w)) (sub_ℕ (n % 2 ^ w) (2 ^ w))
